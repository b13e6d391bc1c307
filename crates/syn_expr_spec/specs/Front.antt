-- What is at the front of a list of tokens.
use Rattle.std.specs.Prelude.{Bool, true, false, not, ◌||◌, ◌&&◌, List, [], ◌∷◌, codes}
use Rattle.syn_lexer.specs.declared.front.Delimiter.TheVariants as del
use Rattle.syn_tokens.specs.Tok.{ident, punct, literal, group}
use Rattle.syn_tokens.specs.Front.{sees_group, is_empty}
use Rattle.syn_lower_spec.specs.Text.{Text}
use Rattle.syn_lower_spec.specs.Form.{Test}
use Rattle.syn_lower_spec.specs.Mark.{sign_at, word_at, lifetime_at, brace_at, round_at}

-- one of these tokens
abbrev pub some_sign : List Text → Test
some_sign [] l = false
some_sign (text ∷ more) l = sign_at text l || some_sign more l

-- a token that is not the beginning of one of these longer ones
abbrev pub sign_but : Text → List Text → Test
sign_but text longer l = sign_at text l && not (some_sign longer l)

unfoldable pub bracket_at : Test
bracket_at l = sees_group del.Bracket l

-- `.` that doesn't begin `..`
unfoldable pub dot_at : Test
dot_at l = sign_but (codes ".") (codes ".." ∷ []) l

unfoldable pub question_at : Test
question_at l = sign_at (codes "?") l

-- What goes on a path, a call or another base (Rust Reference, "Call expressions", "Array and array index expressions",
-- "The question mark operator", "Field access expressions", "Method-call expressions", "Await expressions").
unfoldable pub trailer_at : Test
trailer_at l = round_at l || (bracket_at l || (question_at l || dot_at l))

-- the beginning of the tokens of an expression, where it is a sign
unfoldable pub sign_begins : Test
sign_begins l =
    sign_but (codes "!") (codes "!=" ∷ []) l
    || (sign_but (codes "-") (codes "-=" ∷ codes "->" ∷ []) l
    || (sign_but (codes "*") (codes "*=" ∷ []) l
    || (sign_but (codes "|") (codes "|=" ∷ []) l
    || (sign_but (codes "&") (codes "&=" ∷ []) l
    || (sign_but (codes "<") (codes "<=" ∷ codes "<<=" ∷ []) l
    || (some_sign (codes ".." ∷ codes "::" ∷ codes "#" ∷ []) l || lifetime_at l))))))

abbrev pub begins : Test
begins [] = false
begins (ident w ∷ l) = not (word_at (codes "as") (ident w ∷ l))
begins (literal text ∷ l) = true
begins (group d i ∷ l) = true
begins (punct c s ∷ l) = sign_begins (punct c s ∷ l)

-- an expression begins (Rust Reference, "Expressions"): so a `return`, `break` or `yield` before it has a value
unfoldable pub begins_expr : Test
begins_expr l = begins l

-- What may follow `..` without an end; in a condition the brace of its block too (Rust Reference, "Range expressions").
unfoldable pub ends_open_range : Bool → Test
ends_open_range condition l =
    is_empty l
    || (some_sign (codes "," ∷ codes ";" ∷ codes "?" ∷ codes "=" ∷ codes "+" ∷ codes "/" ∷ codes "%" ∷ codes "^" ∷ codes ">"
    ∷ codes "<=" ∷ codes "!=" ∷ codes "-=" ∷ codes "*=" ∷ codes "&=" ∷ codes "|=" ∷ codes "<<=" ∷ []) l
    || (dot_at l || (word_at (codes "as") l || (condition && brace_at l))))

-- `<-` and `...` are tokens, but no operators.
unfoldable pub left_arrow_at : Test
left_arrow_at l = sign_at (codes "<-") l

unfoldable pub three_dots_at : Test
three_dots_at l = sign_at (codes "...") l

-- The signs and words that parts are made of, and the tests of what is at the front of a list.
use Rattle.std.specs.Prelude.{ℕ, false, not, ◌&&◌, ◌==◌, List, ◌∷◌, length, codes}
use Rattle.syn_lexer.specs.declared.front.Delimiter.TheVariants as del
use Rattle.syn_lexer.specs.declared.front.Spacing.TheVariants as spacing
use Rattle.syn_tokens.specs.Tok.{ident, punct}
use Rattle.syn_tokens.specs.Sign.{begins, begins_word}
use Rattle.syn_tokens.specs.Front.{sees_group}
use Rattle.syn_lower_spec.specs.Form.{Test, Mark}

unfoldable pub sign_at : List ℕ → Test
sign_at text l = begins text l

-- the puncts of a text, each but the last joint (Rust Reference, "Punctuation")
abbrev pub sign : List ℕ → Mark
sign text = record { at = sign_at text; count = length text }

unfoldable pub word_at : List ℕ → Test
word_at text l = begins_word text l

-- a word (Rust Reference, "Keywords")
abbrev pub word : List ℕ → Mark
word text = record { at = word_at text; count = 1 }

abbrev pub and : Mark
and = sign (codes "&")

abbrev pub star : Mark
star = sign (codes "*")

abbrev pub bang : Mark
bang = sign (codes "!")

abbrev pub plus : Mark
plus = sign (codes "+")

abbrev pub comma : Mark
comma = sign (codes ",")

abbrev pub semi : Mark
semi = sign (codes ";")

abbrev pub pound : Mark
pound = sign (codes "#")

abbrev pub question : Mark
question = sign (codes "?")

abbrev pub colon2 : Mark
colon2 = sign (codes "::")

abbrev pub arrow : Mark
arrow = sign (codes "->")

-- `>` closes one at a time out of `>>`, `>=` and `>>=`.
abbrev pub gt : Mark
gt = sign (codes ">")

-- the first `<`, whatever is joined to it
abbrev pub less : Mark
less = sign (codes "<")

-- `<` that doesn't begin `<=`
abbrev pub lt : Mark
lt = record { at = λ l. sign_at (codes "<") l && not (sign_at (codes "<=") l); count = 1 }

-- `=` that begins neither `==` nor `=>`
abbrev pub eq : Mark
eq = record { at = λ l. sign_at (codes "=") l && (not (sign_at (codes "==") l) && not (sign_at (codes "=>") l)); count = 1 }

-- `!` that doesn't begin `!=`
abbrev pub not_ne : Mark
not_ne = record { at = λ l. sign_at (codes "!") l && not (sign_at (codes "!=") l); count = 1 }

-- the first `:`, whatever is joined to it
abbrev pub colon : Mark
colon = sign (codes ":")

-- `:` that doesn't begin `::`
abbrev pub lone_colon : Mark
lone_colon = record { at = λ l. sign_at (codes ":") l && not (sign_at (codes "::") l); count = 1 }

abbrev pub mutable : Mark
mutable = word (codes "mut")

abbrev pub constant : Mark
constant = word (codes "const")

abbrev pub as_word : Mark
as_word = word (codes "as")

abbrev pub dynamic : Mark
dynamic = word (codes "dyn")

abbrev pub implementing : Mark
implementing = word (codes "impl")

abbrev pub for_word : Mark
for_word = word (codes "for")

abbrev pub unsafe_word : Mark
unsafe_word = word (codes "unsafe")

abbrev pub extern_word : Mark
extern_word = word (codes "extern")

abbrev pub fn_word : Mark
fn_word = word (codes "fn")

abbrev pub underscore : Mark
underscore = word (codes "_")

-- the apostrophe of a lifetime: a joint `'` before a word (Rust Reference, "Lifetimes and loop labels")
abbrev pub lifetime_begins : Test
lifetime_begins (punct c spacing.Joint ∷ ident s ∷ l) = c == 39
lifetime_begins _ = false

unfoldable pub lifetime_at : Test
lifetime_at l = lifetime_begins l

abbrev pub quote : Mark
quote = record { at = lifetime_at; count = 1 }

unfoldable pub round_at : Test
round_at l = sees_group del.Parenthesis l

unfoldable pub brace_at : Test
brace_at l = sees_group del.Brace l

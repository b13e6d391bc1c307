-- The last of verbatim tokens.
use Rattle.std.proofs.Common.{◌≡◌, ◌-◌, ◌≤◌, suc, Bool, false, List, [], ◌∷◌, ◌++◌, length, take, get_or, refl, ap, ◌∙◌, arith}
use Rattle.std.proofs.Math.Seq.{take-suc, take-length}
use Rattle.syn_lexer.specs.declared.front.Spacing.TheVariants as spacing
use Rattle.syn_tokens.specs.Tok.{Tok, ident, punct, literal, group}
use Rattle.syn_tokens.specs.View.{tok_of, toks_of, toks_of-append}
use Rattle.syn_tokens.specs.declared.tree.TokenTree.{TokenTree}
use Rattle.syn_expr_spec.specs.Query.{is_braces, last_braces, is_sole_quote}

last_append : (b : Bool) (ts : List Tok) (t : Tok) → last_braces b (ts ++ t ∷ []) ≡ is_braces t
last_append b [] t = refl
last_append b (u ∷ ts) t = last_append (is_braces u) ts t

-- all but the last, and the last
last_split : {A : Type 0} (xs : List A) (x : A) → 1 ≤ length xs → x ≡ get_or xs (length xs - 1) x → xs ≡ take (length xs - 1) xs ++ x ∷ []
last_split xs x h e =
    let n : suc (length xs - 1) ≡ length xs = omega arith in
    let a = take-suc xs (length xs - 1) x (omega arith) in
    let b = take-length xs in
    cc

pub last-is : (b : Bool) (xs : List TokenTree) (x : TokenTree) → 1 ≤ length xs → x ≡ get_or xs (length xs - 1) x → last_braces b (toks_of xs) ≡ is_braces (tok_of x)
last-is b xs x h e =
    ap (λ l. last_braces b (toks_of l)) (last_split xs x h e)
    ∙ ap (last_braces b) (toks_of-append (take (length xs - 1) xs) (x ∷ []))
    ∙ last_append b (toks_of (take (length xs - 1) xs)) (tok_of x)

-- the apostrophe of a lifetime before a token

not_sole : (t u : Tok) (ts : List Tok) → false ≡ is_sole_quote (t ∷ u ∷ ts)
not_sole (ident w) u ts = refl
not_sole (punct c spacing.Alone) u ts = refl
not_sole (punct c spacing.Joint) u ts = refl
not_sole (literal w) u ts = refl
not_sole (group d i) u ts = refl

pub sole-alone : (xs : List TokenTree) → 2 ≤ length xs → false ≡ is_sole_quote (toks_of xs)
sole-alone [] h = absurd omega (arith, h)
sole-alone (x ∷ []) h = absurd omega (arith, h)
sole-alone (x ∷ y ∷ xs) h = not_sole (tok_of x) (tok_of y) (toks_of xs)

pub ruleset quotes = (sole-alone)

pub ruleset lasts = (last-is)

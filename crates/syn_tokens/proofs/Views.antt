-- How what contracts see of a list of trees goes with the list.
use Rattle.std.proofs.Common.{◌≡◌, ℕ, zero, suc, ◌≤◌, List, [], ◌∷◌, length, drop, refl, arith, ◌++◌, ap, append_assoc}
use Rattle.syn_tokens.specs.Tok.{toks-inside, inside_weight-inside, Tok, inside}
use Rattle.syn_tokens.specs.View.{toks_of, toks_of-append, length-toks_of, toks_of-take, toks_of-drop}
use Rattle.syn_tokens.specs.declared.tree.TokenTree.{TokenTree}
use Rattle.syn_lexer.specs.declared.front.Delimiter.TheVariants.{Brace}
use Rattle.syn_tokens.specs.Text.{margin, text, text_inside, text_of, gap}

pub toks_past : (n : ℕ) (a : List TokenTree) → length a ≤ n → [] ≡ drop n (toks_of a)
toks_past zero [] h = refl
toks_past zero (t ∷ a) h = absurd (omega arith)
toks_past (suc n) [] h = refl
toks_past (suc n) (t ∷ a) h = toks_past n a (omega arith)

pub ruleset views = (toks_of-append, length-toks_of, toks_of-take, toks_of-drop, toks_past)

pub ruleset insides = (toks-inside, inside_weight-inside)

pub no_items : {A : Type 0} (xs : List A) → length xs ≡ 0 → xs ≡ []
no_items [] h = refl
no_items (x ∷ xs) h = cc

-- ---- the text of some trees

pub margin_brace : (xs : List TokenTree) → 1 ≤ length xs → margin Brace (inside (toks_of xs)) ≡ 32 ∷ []
margin_brace [] h = absurd (omega arith)
margin_brace (x ∷ xs) h = refl

pub text_inside-inside : (ts : List Tok) → text_inside (inside ts) ≡ text ts
text_inside-inside [] = refl
text_inside-inside (t ∷ ts) = rw (toks-inside ts) (ap (λ s. text_of t ++ gap t ts ++ s) (text_inside-inside ts))

pub ruleset texts = (margin_brace, text_inside-inside, inside_weight-inside, append_assoc)

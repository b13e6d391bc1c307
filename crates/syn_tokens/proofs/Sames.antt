-- Tokens that are the same.
use Rattle.std.proofs.Common.{◌≡◌, List, [], ◌∷◌, ◌++◌, refl, ap, nat_eq, length, arith}
use Rattle.std.specs.Prelude.{◌&&◌}
use Rattle.std.proofs.lemmas.Bool.Decides.{nat_tests}
use Rattle.std.proofs.lemmas.Grind.{fold-append}
use Rattle.syn_tokens.specs.View.{toks_of}
use Rattle.syn_tokens.specs.declared.tree.TokenTree.{TokenTree}
use Rattle.syn_tokens.specs.Tok.{Tok, inside}
use Rattle.syn_tokens.specs.Same.{same_delimiter-true, same_delimiter-differ, same_tok, same_inside, same_list, fed_tok, fed_inside, fed_list}

pub same_inside-inside : (ss ts : List Tok) → same_inside (inside ss) (inside ts) ≡ same_list ss ts
same_inside-inside [] [] = refl
same_inside-inside [] (t ∷ ts) = refl
same_inside-inside (s ∷ ss) [] = refl
same_inside-inside (s ∷ ss) (t ∷ ts) = ap (λ b. same_tok s t && b) (same_inside-inside ss ts)

pub fed_inside-inside : (ts : List Tok) → fed_inside (inside ts) ≡ fed_list ts
fed_inside-inside [] = refl
fed_inside-inside (t ∷ ts) = ap (λ ws. fed_tok t ++ ws) (fed_inside-inside ts)

pub ruleset sames = (same_inside-inside, fed_inside-inside, fold-append)

pub same_nil : (ys : List TokenTree) → same_list [] (toks_of ys) ≡ nat_eq (length ys) 0
same_nil [] = refl
same_nil (y ∷ ys) = grind (arith, nat_tests)

pub ruleset delimiters = (same_delimiter-true, same_delimiter-differ)

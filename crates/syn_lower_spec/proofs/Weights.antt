-- How many tokens are left after what is taken.
use Rattle.std.proofs.Common.{◌≡◌, ℕ, true, zero, suc, ◌+◌, ◌≤◌, ◌<◌, Bool, false, cond, List, [], ◌∷◌, drop, Option, Some, None, subst, arith}
use Rattle.syn_lexer.specs.declared.front.Delimiter.{Delimiter}
use Rattle.syn_tokens.specs.Tok.{Tok, ident, punct, literal, group, toks, token_weight, inside_weight, weight, weight-toks}
use Rattle.syn_tokens.specs.Front.{group_at, same_delimiter}

pub some_is : {A : Type 0} {x y : A} → Some x ≡ Some y → x ≡ y
some_is h = cc

pub one_at_least : (t : Tok) → 1 ≤ token_weight t
one_at_least (ident s) = omega arith
one_at_least _ = omega arith

pub drop_weight : (n : ℕ) (l : List Tok) → weight (drop n l) ≤ weight l
unfolding weight
drop_weight zero l = omega arith
drop_weight (suc n) [] = omega arith
drop_weight (suc n) (x ∷ l) = omega (arith, drop_weight n l)

pub drop_smaller : (n : ℕ) (x : Tok) (l : List Tok) → 0 < n → weight (drop n (x ∷ l)) < weight (x ∷ l)
unfolding weight
drop_smaller zero x l p = absurd (omega arith)
drop_smaller (suc n) x l p = omega (arith, drop_weight n l, one_at_least x)

-- a group weighs more than its inside and what is after it
pub taken : (d : Delimiter) (l inner n : List Tok) → group_at d l ≡ Some (inner, n) → weight inner + weight n < weight l
unfolding group_at weight
taken d [] inner n h = absurd cc
taken d (ident s ∷ l) inner n h = absurd cc
taken d (punct c s ∷ l) inner n h = absurd cc
taken d (literal s ∷ l) inner n h = absurd cc
taken d (group found i ∷ l) inner n h = by_bool (same_delimiter found d) h
  where
    by_bool : (b : Bool) → cond {A = Option (List Tok × List Tok)} b (Some (toks i, l)) None ≡ Some (inner, n) → weight inner + weight n < inside_weight i + 3 + weight l
    by_bool true h = subst (λ (p : List Tok × List Tok). weight p.0 + weight p.1 < inside_weight i + 3 + weight l) (some_is h) (omega (arith, weight-toks i))
    by_bool false h = absurd cc

-- How many tokens are left.
use Rattle.std.proofs.Common.{◌≡◌, ℕ, zero, suc, ◌+◌, ◌≤◌, ◌<◌, List, [], ◌∷◌, drop, length, refl, arith}
use Rattle.syn_tokens.specs.Tok.{Tok, ident, literal, punct, group, weight, token_weight}

pub weight-first : (t : Tok) (ts : List Tok) → weight (t ∷ ts) ≡ token_weight t + weight ts
unfolding weight
weight-first t ts = refl

pub one_at_least : (t : Tok) → 1 ≤ token_weight t
one_at_least (ident s) = omega arith
one_at_least (literal s) = omega arith
one_at_least (punct c s) = omega arith
one_at_least (group d i) = omega arith

pub drop_weight : (n : ℕ) (ts : List Tok) → weight (drop n ts) ≤ weight ts
unfolding weight
drop_weight zero ts = omega arith
drop_weight (suc n) [] = omega arith
drop_weight (suc n) (t ∷ ts) = omega (arith, drop_weight n ts)

-- each token that is passed over weighs one at least
pub drop_moves : (n : ℕ) (ts : List Tok) → n ≤ length ts → n + weight (drop n ts) ≤ weight ts
unfolding weight
drop_moves zero ts h = omega arith
drop_moves (suc n) [] h = absurd (omega arith)
drop_moves (suc n) (t ∷ ts) h = omega (arith, one_at_least t, drop_moves n ts (omega arith))

pub past_moves : (n : ℕ) (ts : List Tok) → length ts ≤ n → n ≤ length ts → n + weight [] ≤ weight ts
unfolding weight
past_moves zero ts g h = omega arith
past_moves (suc n) [] g h = absurd (omega arith)
past_moves (suc n) (t ∷ ts) g h = omega (arith, one_at_least t, past_moves n ts (omega arith) (omega arith))

pub drop_smaller : (n : ℕ) (ts : List Tok) → 0 < n → 0 < length ts → weight (drop n ts) < weight ts
unfolding weight
drop_smaller zero ts p q = absurd (omega arith)
drop_smaller (suc n) [] p q = absurd (omega arith)
drop_smaller (suc n) (t ∷ ts) p q = omega (arith, drop_weight n ts, one_at_least t)

pub nothing_smaller : (ts : List Tok) → 0 < length ts → weight [] < weight ts
unfolding weight
nothing_smaller [] h = absurd (omega arith)
nothing_smaller (t ∷ ts) h = omega (arith, one_at_least t)

pub nothing_least : (ts : List Tok) → weight [] ≤ weight ts
unfolding weight
nothing_least ts = omega arith

pub ruleset drops = (drop_weight, drop_moves, past_moves, drop_smaller, nothing_smaller, nothing_least)

pub ruleset firsts = (weight-first, one_at_least)

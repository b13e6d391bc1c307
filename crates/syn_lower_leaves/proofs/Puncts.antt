-- Lists with puncts.
use Rattle.std.proofs.Common.{◌≡◌, ℕ, zero, suc, ◌<◌, true, false, List, [], ◌∷◌, ◌++◌, length, map, Option, Some, None, refl, sym, ap, ◌∙◌, arith}
use Rattle.std.specs.Prelude.{slice_get, slice_index_or, option_map}
use Rattle.std.specs.declared.boxed.Box.{Box}
use Rattle.std.specs.declared.alloc.Global.{Global}
use Rattle.syn_lower_leaves.specs.View.{last_of}
use Rattle.syn_lower_leaves.specs.Punct.{puncts, takes_value, IsSameList, PutsPunct}
use Rattle.syn_lower_leaves.specs.declared.punctuated.Punctuated.{Punctuated}

pub same_list : {A P : Type 0} (a : Punctuated A P) → IsSameList a a
same_list a = record { values = refl; puncts = refl; takes_value = refl }

pub no_punct : {A P : Type 0} (allowed : P → Type 0) (a b : Punctuated A P) → takes_value a ≡ true → puncts b ≡ puncts a → PutsPunct allowed a b
no_punct allowed a b h e = record { none = λ k. e; one = λ k. absurd (let f : true ≡ false = sym h ∙ k in cc) }

pub one_punct : {A P : Type 0} (allowed : P → Type 0) (a b : Punctuated A P) (p : P) → takes_value a ≡ false → allowed p → puncts b ≡ puncts a ++ p ∷ [] → PutsPunct allowed a b
one_punct allowed a b p h d e = record { none = λ k. absurd (let f : false ≡ true = sym h ∙ k in cc); one = λ k. (p, d, e) }

pub ruleset puts = (same_list, no_punct, one_punct)

-- ---- values by their index

pub found : {A P : Type 0} (xs : List (A × P)) (ys : List A) (i : ℕ) (q : A × P) → i < length xs → q ≡ slice_index_or xs i q → Some q.0 ≡ slice_get (map (λ r. r.0) xs ++ ys) i
found [] ys i q h e = absurd (omega arith)
found (x ∷ xs) ys zero q h e = ap (λ r. Some r.0) e
found (x ∷ xs) ys (suc i) q h e = found xs ys i q (omega arith) e

pub at_end : {A P : Type 0} (xs : List (A × P)) (l : Option (Box A Global)) → slice_get (map (λ r. r.0) xs ++ last_of l) (length xs) ≡ option_map (λ b. b.value) l
at_end [] None = refl
at_end [] (Some b) = refl
at_end (x ∷ xs) l = at_end xs l

pub past : {A P : Type 0} (xs : List (A × P)) (l : Option (Box A Global)) (i : ℕ) → length xs < i → slice_get (map (λ r. r.0) xs ++ last_of l) i ≡ None
past [] None i h = refl
past [] (Some b) zero h = absurd (omega arith)
past [] (Some b) (suc i) h = refl
past (x ∷ xs) l zero h = absurd (omega arith)
past (x ∷ xs) l (suc i) h = past xs l i (omega arith)

pub ruleset places = (found, at_end, past)

-- Lists with puncts before others.
use Rattle.std.proofs.Common.{◌≡◌, not, ◌&&◌, List, [], ◌∷◌, ◌++◌, map, Option, Some, None, refl, sym, ap, ◌∙◌, append_assoc, arith}
use Rattle.std.proofs.lemmas.List.{append-nil}
use Rattle.std.specs.Prelude.{is_some, codes}
use Rattle.std.specs.declared.boxed.Box.{Box}
use Rattle.std.specs.declared.alloc.Global.{Global}
use Rattle.syn_tokens.specs.Tok.{Tok, ident}
use Rattle.syn_lower_spec.specs.Own.{alone, comma_before, lifetime_own, lifetimes_own, elements_own}
use Rattle.syn_lower_leaves.specs.Printed.{comma, option_printed, pairs_printed, punctuated_printed}
use Rattle.syn_lower_leaves.specs.View.{values, trails, last_of, is_some_pair, lifetime_of, lifetimes_of}
use Rattle.syn_lower_leaves.specs.declared.ty.BoundLifetimes.{BoundLifetimes}
use Rattle.syn_lower_leaves.specs.declared.punctuated.Punctuated.{Punctuated}

-- ---- lists with puncts

-- what is before others is by itself, and then these
pub record Appends {A : Type 0} (own : A → List Tok → List Tok) : Type 0 where
  pub before : (x : A) (r : List Tok) → own x r ≡ own x [] ++ r

module _ {A B P : Type 0} (own : B → List Tok → List Tok) (sep : List Tok → List Tok) (f : A → B) (g : P → List Tok) (a : Appends own) (s : (p : P) (r : List Tok) → sep r ≡ g p ++ r) where
  step : (x : B) (p : P) (m : List Tok) → own x (sep m) ≡ (own x [] ++ g p) ++ m
  step x p m = a.before x (sep m) ∙ ap (λ l. own x [] ++ l) (s p m) ∙ sym (append_assoc (own x []) (g p) m)

  pairs_own : (xs : List (A × P)) (o : Option (Box A Global)) (r : List Tok)
      → elements_own own sep (map f (map (λ q. q.0) xs ++ last_of o)) (is_some_pair xs && not (is_some o)) r
      ≡ (pairs_printed (λ x. own (f x) []) g xs ++ option_printed (λ b. own (f b.value) []) o) ++ r
  unfolding option_printed
  pairs_own [] None r = refl
  pairs_own [] (Some b) r = a.before (f b.value) r
  pairs_own (q ∷ []) None r = step (f q.0) q.1 r ∙ grind (arith, append_assoc, append-nil)
  pairs_own (q ∷ []) (Some b) r = step (f q.0) q.1 (own (f b.value) r) ∙ ap (λ m. (own (f q.0) [] ++ g q.1) ++ m) (a.before (f b.value) r) ∙ grind (arith, append_assoc, append-nil)
  pairs_own (q ∷ u ∷ xs) o r = step (f q.0) q.1 _ ∙ ap (λ m. (own (f q.0) [] ++ g q.1) ++ m) (pairs_own (u ∷ xs) o r) ∙ grind (arith, append_assoc)

  pub listed_own-punctuated : (p : Punctuated A P) (r : List Tok) → elements_own own sep (map f (values p)) (trails p) r ≡ punctuated_printed (λ x. own (f x) []) g p ++ r
  unfolding values trails punctuated_printed
  listed_own-punctuated p r = pairs_own p.inner.items p.last r

-- ---- lifetimes of a bound

lifetimes_append : Appends lifetime_own
lifetimes_append = record { before = λ x r. refl }

pub lifetimes_own-parts : (x : BoundLifetimes) → lifetimes_own (lifetimes_of x) [] ≡ ident (codes "for") ∷ alone 60 ∷ (punctuated_printed (λ l. lifetime_own (lifetime_of l) []) comma x.lifetimes ++ alone 62 ∷ [])
unfolding lifetimes_own
lifetimes_own-parts x = ap (λ m. ident (codes "for") ∷ alone 60 ∷ m) (listed_own-punctuated lifetime_own comma_before lifetime_of comma lifetimes_append (λ p r. refl) x.lifetimes (alone 62 ∷ []))

-- ---- equal printers of the values

pairs_same : {A P : Type 0} (g h : A → List Tok) (c : P → List Tok) → ((x : A) → g x ≡ h x) → (xs : List (A × P)) → pairs_printed g c xs ≡ pairs_printed h c xs
pairs_same g h c e [] = refl
pairs_same g h c e (q ∷ xs) = let one = e q.0 in let more = pairs_same g h c e xs in cc

last_same : {A : Type 0} (g h : A → List Tok) → ((x : A) → g x ≡ h x) → (o : Option (Box A Global)) → option_printed (λ b. g b.value) o ≡ option_printed (λ b. h b.value) o
unfolding option_printed
last_same g h e None = refl
last_same g h e (Some b) = e b.value

pub punctuated_same : {A P : Type 0} (g h : A → List Tok) (c : P → List Tok) → ((x : A) → g x ≡ h x) → (p : Punctuated A P) → punctuated_printed g c p ≡ punctuated_printed h c p
unfolding punctuated_printed
punctuated_same g h c e p = let pairs = pairs_same g h c e p.inner.items in let last = last_same g h e p.last in cc

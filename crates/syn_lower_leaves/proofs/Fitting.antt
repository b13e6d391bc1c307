-- Which lists and constants are read back, by what their code looks at.
use Rattle.std.proofs.Common.{◌≡◌, ◌≤◌, ◌&&◌, Bool, true, false, not, List, [], ◌∷◌, ◌++◌, map, length, Option, Some, None, refl, ap, arith}
use Rattle.std.proofs.lemmas.List.{map-append}
use Rattle.std.proofs.lemmas.List.Folds.{list_all-append}
use Rattle.std.specs.Prelude.{is_some}
use Rattle.std.specs.declared.boxed.Box.{Box}
use Rattle.std.specs.declared.alloc.Global.{Global}
use Rattle.syn_lexer.specs.declared.front.Delimiter.TheVariants as del
use Rattle.syn_lexer.specs.declared.front.Spacing.TheVariants as spacing
use Rattle.syn_tokens.specs.Tok.{Tok, ident, punct, literal, group}
use Rattle.syn_tokens.specs.View.{length-toks_of}
use Rattle.syn_lower_spec.specs.Fits.{is_const, is_none}
use Rattle.syn_lower_leaves.specs.View.{values, trails, last_of, is_some_pair}
use Rattle.syn_lower_leaves.specs.declared.punctuated.Punctuated.{Punctuated}

pub ruleset lists = (list_all-append, map-append)

-- the last value is there where no punct ends the list and it is not empty
pub holds : {A P : Type 0} (none : List A → Bool) → none [] ≡ true → ((x : A) (xs : List A) → none (x ∷ xs) ≡ false) → (p : Punctuated A P) (b : Bool) → (not (trails p) && (not (none (values p)) && b)) ≡ (is_some p.last && b)
unfolding values trails
holds {A} {P} none n h p b = by p.inner.items p.last
  where
    by : (xs : List (A × P)) (o : Option (Box A Global)) → (not (is_some_pair xs && not (is_some o)) && (not (none (map (λ q. q.0) xs ++ last_of o)) && b)) ≡ (is_some o && b)
    by [] None = ap (λ c. not c && b) n
    by [] (Some x) = ap (λ c. not c && b) (h x.value [])
    by (q ∷ xs) None = refl
    by (q ∷ xs) (Some x) = ap (λ c. not c && b) (h q.0 _)

pub bounds_hold : {A P : Type 0} (p : Punctuated A P) (b : Bool) → (not (trails p) && (not (is_none (values p)) && b)) ≡ (is_some p.last && b)
bounds_hold p b = holds is_none refl (λ x xs. refl) p b

pub is_const-many : (l : List Tok) → 3 ≤ length l → is_const l ≡ false
is_const-many [] h = absurd (omega arith)
is_const-many (a ∷ []) h = absurd (omega arith)
is_const-many (a ∷ b ∷ []) h = absurd (omega arith)
is_const-many (ident w ∷ b ∷ d ∷ l) h = refl
is_const-many (punct c spacing.Joint ∷ b ∷ d ∷ l) h = refl
is_const-many (punct c spacing.Alone ∷ ident w ∷ d ∷ l) h = refl
is_const-many (punct c spacing.Alone ∷ punct e r ∷ d ∷ l) h = refl
is_const-many (punct c spacing.Alone ∷ literal w ∷ d ∷ l) h = refl
is_const-many (punct c spacing.Alone ∷ group g i ∷ d ∷ l) h = refl
is_const-many (literal w ∷ b ∷ d ∷ l) h = refl
is_const-many (group del.Parenthesis i ∷ b ∷ d ∷ l) h = refl
is_const-many (group del.Brace i ∷ b ∷ d ∷ l) h = refl
is_const-many (group del.Bracket i ∷ b ∷ d ∷ l) h = refl
is_const-many (group del.None i ∷ b ∷ d ∷ l) h = refl

pub ruleset consts = (is_const-many, length-toks_of)

pub ruleset bounds = (bounds_hold)

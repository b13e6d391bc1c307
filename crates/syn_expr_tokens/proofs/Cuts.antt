-- A float cut at its dots.
use Rattle.std.proofs.Common.{◌≡◌, ◌≢◌, ◌<◌, ℕ, suc, Bool, true, false, List, [], ◌∷◌, ◌++◌, length, get_or, refl, ap, ◌∙◌, append_assoc, arith, Option, Some, None}
use Rattle.std.specs.Prelude.{◌==◌}
use Rattle.std.proofs.lemmas.List.{append-nil}
use Rattle.std.proofs.lemmas.Bool.Decides.{nat_tests}
use Rattle.syn_tokens.specs.Tok.{Tok, ident, punct, literal, group}
use Rattle.syn_tokens.specs.Floats.{dot, part, parts_from, float_parts, begins_number}
use Rattle.syn_lower_spec.specs.Text.{Text, is_number}
use Rattle.syn_lower_spec.specs.Pat.{index_of, integer_value}
use Rattle.syn_expr_spec.specs.Stands.{step, steps_of}
use Rattle.syn_expr_tokens.specs.Cut.{cut, last_part, Splits, with_index, front_indices, end_of, refusal_of}
use Rattle.syn_expr_tokens.specs.Refusal.{by_value}

-- no dot is in it
abbrev HasNoDot : Text → Type 0
HasNoDot s = (i : ℕ) → i < length s → get_or s i 0 ≢ 46

first_no_dot : (b : ℕ) (s : Text) → HasNoDot (b ∷ s) → (b == 46) ≡ false
first_no_dot b s h = let k : b ≢ 46 = h 0 (omega arith) in grind (arith, nat_tests, k)

rest_no_dot : (b : ℕ) (s : Text) → HasNoDot (b ∷ s) → HasNoDot s
rest_no_dot b s h = λ i k. h (suc i) (omega arith)

parts_whole : (passed s : Text) → HasNoDot s → parts_from passed s ≡ part (passed ++ s)
parts_whole passed [] h = rw append-nil refl
parts_whole passed (b ∷ s) h =
    rw (first_no_dot b s h) (parts_whole (passed ++ b ∷ []) s (rest_no_dot b s h) ∙ ap part (append_assoc passed (b ∷ []) s))

parts_cut : (passed a b : Text) → HasNoDot a → parts_from passed (a ++ 46 ∷ b) ≡ literal (passed ++ a) ∷ dot ∷ cut b
parts_cut passed [] b h = rw append-nil refl
parts_cut passed (c ∷ a) b h =
    rw (first_no_dot c a h)
    (parts_cut (passed ++ c ∷ []) a b (rest_no_dot c a h) ∙ ap (λ w. literal w ∷ dot ∷ cut b) (append_assoc passed (c ∷ []) a))

pub whole : (s : Text) → HasNoDot s → cut s ≡ last_part s
whole s h = parts_whole [] s h

pub splits : (s a b : Text) → s ≡ a ++ 46 ∷ b → HasNoDot a → Splits s a b
splits s a b e h = rw e (parts_cut [] a b h)

none_ends : (o : Option (List ℕ × Bool)) → end_of (step None o) ≡ None
none_ends None = refl
none_ends (Some p) = refl

some_ends : (n : ℕ) (o : Option (List ℕ × Bool)) → end_of (step (Some n) o) ≡ end_of o
some_ends n None = refl
some_ends n (Some p) = refl

-- after a part that is an index
pub ends_on : (s a b : Text) (n : ℕ) → Splits s a b → index_of a ≡ Some n → end_of (steps_of (cut s)) ≡ end_of (steps_of (cut b))
ends_on s a b n e f = rw (e, f) (some_ends n (steps_of (cut b)))

pub ends_never : (s a b : Text) → Splits s a b → index_of a ≡ None → end_of (steps_of (cut s)) ≡ None
ends_never s a b e f = rw (e, f) (none_ends (steps_of (cut b)))

pub ends_empty : (s : Text) → cut s ≡ last_part s → s ≡ [] → end_of (steps_of (cut s)) ≡ Some true
ends_empty s e f = rw (e, f) refl

pub ends_open : (s : Text) → cut s ≡ last_part s → s ≢ [] → (n : ℕ) → index_of s ≡ Some n → end_of (steps_of (cut s)) ≡ Some false
ends_open [] e g n f = absurd (g refl)
ends_open (b ∷ s) e g n f = rw (e, f) refl

pub ends_other : (s : Text) → cut s ≡ last_part s → s ≢ [] → index_of s ≡ None → end_of (steps_of (cut s)) ≡ None
ends_other [] e g f = absurd (g refl)
ends_other (b ∷ s) e g f = rw (e, f) refl

pub ruleset ends = (ends_on, ends_never, ends_empty, ends_open, ends_other)

-- ---- the indices

pub front_splits : (s a b : Text) → Splits s a b → front_indices (cut s) ≡ with_index (index_of a) (front_indices (cut b))
front_splits s a b e = rw e refl

pub front_whole : (s : Text) → cut s ≡ last_part s → front_indices (cut s) ≡ with_index (index_of s) (front_indices (cut []))
unfolding index_of is_number
front_whole [] e = refl
front_whole (b ∷ s) e = rw e refl

pub ruleset fronts = (front_splits, front_whole)

-- ---- the indices, and whether a dot ends them

stepped : (o : Option ℕ) (q : Option (List ℕ × Bool)) (is : List ℕ) (p : List ℕ × Bool) → ((r : List ℕ × Bool) → q ≡ Some r → is ≡ r.0) → step o q ≡ Some p → with_index o is ≡ p.0
stepped None q is p g e = absurd (none_is q e)
  where
    none_is : (q : Option (List ℕ × Bool)) → step None q ≡ Some p → ⊥
    none_is None e = cc
    none_is (Some r) e = cc
stepped (Some n) None is p g e = absurd cc
stepped (Some n) (Some r) is p g e = let k : is ≡ r.0 = g r refl in cc

front_known : (ts : List Tok) (p : List ℕ × Bool) → steps_of ts ≡ Some p → front_indices ts ≡ p.0
front_known [] p e = cc
front_known (literal s ∷ []) p e = stepped (index_of s) (Some ([], false)) [] p (λ r f. cc) e
front_known (literal s ∷ d ∷ more) p e = stepped (index_of s) (steps_of more) (front_indices more) p (λ r f. front_known more r f) e
front_known (ident s ∷ more) p e = absurd cc
front_known (punct c s ∷ more) p e = absurd cc
front_known (group d i ∷ more) p e = absurd cc

begins_is : (s : Text) → begins_number s ≡ is_number s
unfolding is_number
begins_is [] = refl
begins_is (b ∷ s) = refl

no_index : (s : Text) → is_number s ≡ false → index_of s ≡ None
unfolding index_of
no_index s e = rw e refl

pub no_number : (s : Text) → is_number s ≡ false → steps_of (float_parts s) ≡ None
no_number s e = rw (begins_is s, e, no_index s e) refl

number : (s : Text) → is_number s ≡ true → float_parts s ≡ cut s
number s e = rw (begins_is s, e) refl

ended : (o : Option (List ℕ × Bool)) (is : List ℕ) (d : Bool) → ((p : List ℕ × Bool) → o ≡ Some p → is ≡ p.0) → Some d ≡ end_of o → o ≡ Some (is, d)
ended None is d g e = absurd cc
ended (Some (js, b)) is d g e =
    let k : is ≡ js = g (js, b) refl in
    let m : d ≡ b = cc in
    rw (k, m) refl

pub some_steps : (s : Text) (d : Bool) → is_number s ≡ true → Some d ≡ end_of (steps_of (cut s)) → steps_of (float_parts s) ≡ Some (front_indices (cut s), d)
some_steps s d n e = rw (number s n) (ended (steps_of (cut s)) (front_indices (cut s)) d (front_known (cut s)) e)

unended : (o : Option (List ℕ × Bool)) → None ≡ end_of o → o ≡ None
unended None e = refl
unended (Some p) e = absurd cc

pub no_steps : (s : Text) → is_number s ≡ true → None ≡ end_of (steps_of (cut s)) → steps_of (float_parts s) ≡ None
no_steps s n e = rw (number s n) (unended (steps_of (cut s)) e)

pub ruleset steps = (no_number, some_steps, no_steps)

-- ---- refusals

pub refused_on : (s a b : Text) (n : ℕ) → Splits s a b → index_of a ≡ Some n → refusal_of (cut s) ≡ refusal_of (cut b)
refused_on s a b n e f = rw (e, f) refl

pub refused_first : (s a b : Text) → Splits s a b → index_of a ≡ None → refusal_of (cut s) ≡ by_value (integer_value a)
refused_first s a b e f = rw (e, f) refl

pub refused_last : (s : Text) → cut s ≡ last_part s → refusal_of (cut s) ≡ by_value (integer_value s)
unfolding is_number
refused_last [] e = refl
refused_last (b ∷ s) e = rw e refl

pub ruleset refusals = (refused_on, refused_first, refused_last)

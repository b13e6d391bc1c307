-- Where an expression ends that no operator goes on, and where no trailer is left after one.
use Rattle.std.specs.Prelude.{◌&&◌, ◌||◌, not, if◌then◌else◌}
use Rattle.std.proofs.Common.{◌≡◌, ℕ, Bool, true, false, List, Option, Some, None, refl, subst}
use Rattle.std.proofs.lemmas.Bool.{or_parts}
use Rattle.syn_tokens.specs.Tok.{Tok}
use Rattle.syn_lower_spec.specs.Mark.{round_at}
use Rattle.syn_expr_spec.specs.declared.kinds.Infix.{Infix}
use Rattle.syn_expr_spec.specs.declared.kinds.Precedence.{Precedence}
use Rattle.syn_expr_spec.specs.declared.kinds.Place.{Place}
use Rattle.syn_expr_spec.specs.Front.{trailer_at, dot_at, question_at, bracket_at}
use Rattle.syn_expr_spec.specs.Place.{takes}
use Rattle.syn_expr_spec.specs.Op.{infix_at, level, goes_on, takes_by}
use Rattle.syn_expr_spec.specs.Tree.{Tree}
use Rattle.syn_expr_spec.specs.Stands.{closes, ends, goes_behind, is_range, rests, refuses_dots, refuses_arrow, carries, is_cast}
use Rattle.syn_expr_spec.specs.Read.{taken_by, taken_at, next_operator}

-- ---- operators

not_taken : (v : Precedence) (o : Option (Infix × ℕ)) → taken_by v o ≡ None → takes_by v o ≡ false
not_taken v None h = refl
not_taken v (Some k) h = by_test (takes v (level k.0)) h
  where
    by_test : (b : Bool) → (if b then Some k else None) ≡ None → b ≡ false
    by_test true g = absurd cc
    by_test false g = refl

none_goes_on : (p : Place) (x : Tree) (l : List Tok) → next_operator p x l ≡ None → (is_range x || rests p x) ≡ false → goes_on p.level l ≡ false
unfolding goes_on taken_at
none_goes_on p x l h w = not_taken p.level (infix_at l) (subst (λ b. (if b then None else taken_by p.level (infix_at l)) ≡ None) w h)

by_tests : (a b g c : Bool) → ((a || b) ≡ false → g ≡ false) → (a || (b || not (g || c))) ≡ (not c || (a || b))
by_tests true b g true h = refl
by_tests true b g false h = refl
by_tests false true g true h = refl
by_tests false true g false h = refl
by_tests false false g true h = rw (h refl) refl
by_tests false false g false h = rw (h refl) refl

pub stops : (p : Place) (x : Tree) (l : List Tok) → next_operator p x l ≡ None → ends p x l ≡ (not (refuses_dots p.level l || refuses_arrow p.level l) || (is_range x || rests p x))
unfolding ends
stops p x l h = by_tests (is_range x) (rests p x) (goes_on p.level l) (refuses_dots p.level l || refuses_arrow p.level l) (none_goes_on p x l h)

-- ---- trailers

no_trailer : (r : Bool) (l : List Tok) → trailer_at l ≡ false → goes_behind r l ≡ false
unfolding trailer_at
no_trailer false l h = h
no_trailer true l h =
    let (a, b) = or_parts (round_at l) _ h in
    let (c, d) = or_parts (bracket_at l) _ b in
    let (e, f) = or_parts (question_at l) (dot_at l) d in
    rw (f, e) refl

nothing_left : (a : Bool) → not (a && false) ≡ true
nothing_left true = refl
nothing_left false = refl

pub closed : (p : Place) (x : Tree) (l : List Tok) → trailer_at l ≡ false → closes p x l ≡ true
unfolding closes
closed p x l h = rw (no_trailer (rests p x) l h) (nothing_left (carries x || is_cast x))

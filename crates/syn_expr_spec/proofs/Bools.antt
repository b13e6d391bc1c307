-- Laws of tests.
use Rattle.std.proofs.Common.{◌≡◌, ℕ, Bool, true, false, ◌&&◌, ◌||◌, ◌==◌, refl, sym, ◌∙◌, arith}
use Rattle.std.specs.Prelude.{nat_lt, if◌then◌else◌}
use Rattle.std.proofs.lemmas.Bool.Decides.{nat_tests}
use Rattle.syn_expr_spec.specs.declared.kinds.Precedence.{Precedence}
use Rattle.syn_expr_spec.specs.declared.kinds.Precedence.TheVariants as lev
use Rattle.syn_expr_spec.specs.Place.{rank, above, is_assign, takes}
use Rattle.syn_expr_spec.specs.Rule.{lower}

-- ---- levels

takes_rank : ℕ → ℕ → Bool
takes_rank a b = nat_lt a b || (a == 1 && b == 1)

assign_rank : (v : Precedence) → is_assign v ≡ (rank v == 1)
assign_rank lev.Jump = refl
assign_rank _ = refl

takes_by_rank : (v w : Precedence) → takes v w ≡ takes_rank (rank v) (rank w)
unfolding takes_rank
takes_by_rank v w = rw (assign_rank v, assign_rank w) refl

-- what takes the lower one takes and_from
lower_ranks : (v a b : ℕ) → nat_lt b a ≡ true → takes_rank v b ≡ true → takes_rank v a ≡ true
unfolding takes_rank
lower_ranks v a b e h = grind (arith, nat_tests)

higher_ranks : (v a b : ℕ) → nat_lt b a ≡ false → takes_rank v a ≡ true → takes_rank v b ≡ true
unfolding takes_rank
higher_ranks v a b e h = grind (arith, nat_tests)

by_lower : (v a b : Precedence) (w : Bool) → above a b ≡ w → takes v (if w then b else a) ≡ true → (takes v a ≡ true) × (takes v b ≡ true)
by_lower v a b true e h = (takes_by_rank v a ∙ lower_ranks _ _ _ e (sym (takes_by_rank v b) ∙ h), h)
by_lower v a b false e h = (h, takes_by_rank v b ∙ higher_ranks _ _ _ e (sym (takes_by_rank v a) ∙ h))

pub takes_lower : (v a b : Precedence) → takes v (lower a b) ≡ true → (takes v a ≡ true) × (takes v b ≡ true)
takes_lower v a b h = by_lower v a b _ refl h

choose : (v a b : Precedence) (w : Bool) → takes v a ≡ true → takes v b ≡ true → takes v (if w then b else a) ≡ true
choose v a b true p q = q
choose v a b false p q = p

pub lower_takes : (v a b : Precedence) → takes v a ≡ true → takes v b ≡ true → takes v (lower a b) ≡ true
lower_takes v a b p q = choose v a b (above a b) p q

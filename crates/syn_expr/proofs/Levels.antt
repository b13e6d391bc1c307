-- Of the attributes of a node with braces one is an outer one exactly where one comes before it.
use Rattle.std.proofs.Common.{◌≡◌, Bool, true, false, not, ◌||◌, if◌then◌else◌, List, [], ◌∷◌, refl, ap}
use Rattle.syn_lower_spec.specs.Tree.{AttributeTree}
use Rattle.syn_expr_spec.specs.Tree.{outers}
use Rattle.syn_expr.specs.Levels.{has_outer}

pub outer_stays : (ats : List AttributeTree) → has_outer (outers ats) ≡ has_outer ats
outer_stays [] = refl
outer_stays (a ∷ more) = by a.inner refl (outer_stays more)
  where
    by : (b : Bool) → a.inner ≡ b → has_outer (outers more) ≡ has_outer more → has_outer (if b then outers more else a ∷ outers more) ≡ (not b || has_outer more)
    by true h g = g
    by false h g = ap (λ b. not b || has_outer (outers more)) h

pub ruleset levels = (outer_stays)

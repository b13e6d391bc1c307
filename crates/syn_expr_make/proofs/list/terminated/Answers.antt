use Rattle.std.proofs.Common.{append-nil, arith, rules}
use Rattle.std.proofs.lemmas.Grind.{common_steps}
use Rattle.syn_expr_make.proofs.Lists.{maps}
use Rattle.syn_expr_make.proofs.list.terminated.Goals as goal

pub returns-clause-values : goal.returns-clause-values
unfolding Rattle.syn_lower_leaves.specs.View.values
returns-clause-values g c =
    let inner = c.in_ok-inner.ensures.made (λ x. (g.H.HoldsExpr.held x, c.default-comma.result)) (λ x y h. search rules) in
    grind (arith, maps, append-nil, inner)

pub returns-clause-trails : goal.returns-clause-trails
unfolding Rattle.syn_lower_leaves.specs.View.trails
returns-clause-trails g c = grind (arith, common_steps, c.in_ok-inner.ensures.len)

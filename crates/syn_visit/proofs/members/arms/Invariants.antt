use Rattle.std.proofs.Common.{drop, Result}
use Rattle.syn_expr_core.specs.View.{arm_of, tree_of}
use Rattle.syn_visit_kinds.specs.Parts.{arm_operands}
use Rattle.syn_visit_kinds.specs.Walk.{Saw, Shown, Walk}
use Rattle.syn_visit.proofs.members.arms.Given as goal

abbrev pub invariant-loop-x : goal.invariant-loop-x
invariant-loop-x g l =
    (r : Result (Unit {0}) g.row.R.Denot) (z : g.row.S.Denot)
    → Walk (λ a. Walk (Shown tree_of (Saw (λ x s b t. g.F.Fn.post l.call (x, (s, tt)) (b, (t, tt))))) (arm_operands (arm_of a))) (drop l.x-index l.xs) l.state r z
    → Walk (λ a. Walk (Shown tree_of (Saw (λ x s b t. g.F.Fn.post l.call (x, (s, tt)) (b, (t, tt))))) (arm_operands (arm_of a))) l.xs l.fn.state r z

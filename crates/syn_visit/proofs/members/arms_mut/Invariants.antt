use Rattle.std.proofs.Common.{Ok}
use Rattle.syn_expr_core.specs.View.{arm_of, tree_of}
use Rattle.syn_visit_kinds.specs.Changes.{Change}
use Rattle.syn_visit_kinds.specs.Parts.{ChangedArm}
use Rattle.syn_visit_kinds.proofs.Upto.{Upto}
use Rattle.syn_visit.proofs.members.arms_mut.Given as goal

abbrev pub invariant-loop-x : goal.invariant-loop-x
invariant-loop-x g l = Upto (λ p q. ChangedArm (Change tree_of (λ x r y. g.F.Fn.post l.call (x, tt) (r, (y, tt)))) (arm_of p) (Ok tt) (arm_of q)) l.x-index l.fn.xs.items l.x-items

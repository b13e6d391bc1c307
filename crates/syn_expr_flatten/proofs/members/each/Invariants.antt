use Rattle.syn_visit_kinds.specs.Calls.{Left}
use Rattle.syn_visit_kinds.proofs.Upto.{Upto}
use Rattle.syn_expr_flatten.proofs.members.each.Given as goal

abbrev pub invariant-loop-x : goal.invariant-loop-x
invariant-loop-x g l = Upto (λ p q. Left (λ x r y. g.F.Fn.post l.flatten (x, tt) (r, (y, tt))) p q) l.x-index l.fn.xs.items l.x-items

use Rattle.std.proofs.Common.{refl}
use Rattle.syn_expr_core.specs.View.{tree_of}
use Rattle.syn_visit_kinds.proofs.Tested.{first_fails, first_passes}
use Rattle.syn_visit.proofs.Seen.{nodes_tested}
use Rattle.syn_visit.proofs.visit.+any.Goals as goal

pub returns-then-test-clause-tested : goal.returns-then-test-clause-tested
returns-then-test-clause-tested g t c = first_passes (record { one = _; shows = refl; met = c.test.ensures }) c.if-test.true

pub returns-else-test-clause-tested : goal.returns-else-test-clause-tested
returns-else-test-clause-tested g t c =
    first_fails (record { one = _; shows = refl; met = c.test.ensures }) c.if-test.false
    (nodes_tested (λ d x b. g.F.Fn.post d (x, tt) b) (λ one with b met. met.0) (tree_of c.args.expr.now) c.any_operand_with.ensures.tested)

use Rattle.std.proofs.Common.{refl}
use Rattle.syn_expr_core.specs.View.{tree_of}
use Rattle.syn_expr_spec.specs.Printed.{in_plain}
use Rattle.syn_expr.proofs.ReadBack.{given_back}
use Rattle.syn_expr.proofs.laws.read_back.Goals as goal

pub returns : goal.returns
returns c = λ w. given_back (tree_of c.args.expr.now) _ _ c.read_whole.result w c.new-tokens.ensures (c.in_ok-print_expr.ensures.back in_plain refl) c.read_whole.ensures

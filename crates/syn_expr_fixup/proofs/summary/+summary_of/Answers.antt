-- The operands are smaller than the node.
use Rattle.std.proofs.Common.{ap, rules}
use Rattle.syn_expr_fixup.specs.Below.{operands_size}
use Rattle.syn_expr_fixup.proofs.Nodes.{size_is}
use Rattle.syn_expr_fixup.proofs.summary.+summary_of.Goals as goal

pub summary_of-first_summaries-requires : goal.summary_of-first_summaries-requires
summary_of-first_summaries-requires g t c =
    let v = ap operands_size c.operands.ensures in
    let w = size_is (g.E.HasExprTree.tree c.args.expr.now) in
    search rules

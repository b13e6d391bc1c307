use Rattle.std.proofs.Common.{ap, sym, ◌∙◌}
use Rattle.syn_expr_spec.specs.Alone.{ungrouped}
use Rattle.syn_expr_core.specs.View.{tree_of}
use Rattle.syn_expr_core.proofs.OfKind.{ungrouped_from, ungrouped_other}
use Rattle.syn_expr_core.proofs.expr.Expr.+ungrouped.Goals as goal

pub returns-in-Group : goal.returns-in-Group
returns-in-Group t c =
    ungrouped_from c.args.self c.ungrouped.result c.in-Group.group c.in-Group.is (c.ungrouped.ensures ∙ ap (λ u. ungrouped (tree_of u)) c.into_inner.ensures)

pub returns-in_default : goal.returns-in_default
returns-in_default t c = sym (ungrouped_other c.args.self c.in_default.not-Group)

-- What is printed from here on is the operand that is next.
use Rattle.std.proofs.Common.{◌≡◌, ◌≤◌, ◌++◌}
use Rattle.syn_tokens.specs.Input.{IsFront}
use Rattle.syn_expr_spec.specs.Summaries.{below}
use Rattle.syn_expr_spec.specs.Tree.{size}
use Rattle.syn_expr_ast.specs.Label.{kind_at}
use Rattle.syn_expr_ast.specs.declared.label.NodeKind.TheVariants as node
use Rattle.syn_expr_print.specs.Printing.{core, spelled}
use Rattle.syn_expr_print.specs.Taken.{Going}
use Rattle.syn_expr_print.proofs.ends.prefixed.Given as goal

abbrev pub invariant-down : goal.invariant-down
invariant-down g l = record {
  kind : kind_at (g.E.HasExprTree.tree l.x) ≡ node.Prefix l.kind;
  text : l.tokens ++ spelled l.context (core (g.E.HasExprTree.tree l.x)) ≡ l.fn.tokens ++ spelled l.fn.context (core (g.E.HasExprTree.tree l.fn.x));
  front : IsFront l.fn.tokens l.tokens;
  going : Going l.fn.summaries l.summaries (below (g.E.HasExprTree.tree l.fn.x)) (below (g.E.HasExprTree.tree l.x));
  smaller : size (g.E.HasExprTree.tree l.x) ≤ size (g.E.HasExprTree.tree l.fn.x);
}

abbrev pub decreases-down : goal.decreases-down
decreases-down g l = size (g.E.HasExprTree.tree l.x)

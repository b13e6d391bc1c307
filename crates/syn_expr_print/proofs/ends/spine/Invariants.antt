-- Down, the first operand that is next is printed, and then what comes after those of the nodes over it; up, the latter.
use Rattle.std.proofs.Common.{◌≡◌, ◌≤◌, true, ◌++◌, vec_len}
use Rattle.syn_tokens.specs.Input.{IsFront}
use Rattle.syn_expr_spec.specs.Summaries.{below}
use Rattle.syn_expr_spec.specs.Tree.{size}
use Rattle.syn_expr_ast.specs.Label.{kind_at}
use Rattle.syn_expr_print.specs.Printing.{core, spelled}
use Rattle.syn_expr_print.specs.Spine.{Over, begins, behinds, lefts}
use Rattle.syn_expr_print.specs.Taken.{Going}
use Rattle.syn_expr_print.proofs.ends.spine.Given as goal

abbrev pub invariant-down : goal.invariant-down
invariant-down g l = record {
  text : l.tokens ++ (spelled l.context (core (g.E.HasExprTree.tree l.x)) ++ behinds g.E.HasExprTree.tree l.over.items) ≡ l.fn.tokens ++ spelled l.fn.context (core (g.E.HasExprTree.tree l.fn.x));
  front : IsFront l.fn.tokens l.tokens;
  going : Going l.fn.summaries l.summaries (below (g.E.HasExprTree.tree l.fn.x)) (lefts g.E.HasExprTree.tree l.over.items ++ below (g.E.HasExprTree.tree l.x));
  over : Over g.E.HasExprTree.tree (size (g.E.HasExprTree.tree l.fn.x)) l.over.items;
  begun : begins (kind_at (g.E.HasExprTree.tree l.x)) ≡ true;
  smaller : size (g.E.HasExprTree.tree l.x) ≤ size (g.E.HasExprTree.tree l.fn.x);
}

abbrev pub decreases-down : goal.decreases-down
decreases-down g l = size (g.E.HasExprTree.tree l.x)

abbrev pub invariant-up : goal.invariant-up
invariant-up g l = record {
  text : l.tokens ++ behinds g.E.HasExprTree.tree l.over.items ≡ l.fn.tokens ++ spelled l.fn.context (core (g.E.HasExprTree.tree l.fn.x));
  front : IsFront l.fn.tokens l.tokens;
  going : Going l.fn.summaries l.summaries (below (g.E.HasExprTree.tree l.fn.x)) (lefts g.E.HasExprTree.tree l.over.items);
  over : Over g.E.HasExprTree.tree (size (g.E.HasExprTree.tree l.fn.x)) l.over.items;
}

abbrev pub decreases-up : goal.decreases-up
decreases-up g l = vec_len l.over

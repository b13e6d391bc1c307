use Rattle.std.proofs.Common.{◌≡◌, ◌≤◌, ◌++◌, length}
use Rattle.syn_tokens.specs.Input.{IsFront}
use Rattle.syn_expr_spec.specs.Next.{enclosed}
use Rattle.syn_expr_spec.specs.Summaries.{stack}
use Rattle.syn_expr_spec.specs.Tree.{size}
use Rattle.syn_lower_leaves.specs.Printed.{comma, pairs_printed}
use Rattle.syn_expr_fixup.specs.Below.{backwards, total}
use Rattle.syn_expr_ast.specs.Printed.{whole}
use Rattle.syn_expr_print.specs.Taken.{Going}
use Rattle.syn_expr_print.proofs.operand.pairs.Given as goal

abbrev pub invariant-pairs : goal.invariant-pairs
invariant-pairs g l = record {
  text : l.tokens ++ pairs_printed (λ x. whole enclosed (g.E.HasExprTree.tree x)) comma l.pairs ≡ l.fn.tokens ++ pairs_printed (λ x. whole enclosed (g.E.HasExprTree.tree x)) comma l.fn.pairs;
  front : IsFront l.fn.tokens l.tokens;
  going : Going l.fn.summaries l.summaries (backwards (λ q. stack (g.E.HasExprTree.tree q.0)) l.fn.pairs) (backwards (λ q. stack (g.E.HasExprTree.tree q.0)) l.pairs);
  fewer : total (λ q. size (g.E.HasExprTree.tree q.0)) l.pairs ≤ total (λ q. size (g.E.HasExprTree.tree q.0)) l.fn.pairs;
}

abbrev pub decreases-pairs : goal.decreases-pairs
decreases-pairs g l = length l.pairs

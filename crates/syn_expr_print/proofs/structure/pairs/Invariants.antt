use Rattle.std.proofs.Common.{◌≡◌, ◌≤◌, ◌++◌, length}
use Rattle.syn_tokens.specs.Input.{IsFront}
use Rattle.syn_expr_spec.specs.Tree.{size}
use Rattle.syn_lower_leaves.specs.Printed.{comma, pairs_printed}
use Rattle.syn_expr_ast.specs.View.{field_value_of}
use Rattle.syn_expr_fixup.specs.Below.{backwards, field_below, total}
use Rattle.syn_expr_ast.specs.Printed.{field_spelled}
use Rattle.syn_expr_print.specs.Taken.{Going}
use Rattle.syn_expr_print.proofs.structure.pairs.Given as goal

abbrev pub invariant-pairs : goal.invariant-pairs
invariant-pairs g l = record {
  text : l.tokens ++ pairs_printed (λ x. field_spelled (field_value_of g.E.HasExprTree.tree x)) comma l.pairs ≡ l.fn.tokens ++ pairs_printed (λ x. field_spelled (field_value_of g.E.HasExprTree.tree x)) comma l.fn.pairs;
  front : IsFront l.fn.tokens l.tokens;
  going : Going l.fn.summaries l.summaries (backwards (λ q. field_below (field_value_of g.E.HasExprTree.tree q.0)) l.fn.pairs) (backwards (λ q. field_below (field_value_of g.E.HasExprTree.tree q.0)) l.pairs);
  fewer : total (λ q. size (field_value_of g.E.HasExprTree.tree q.0).value) l.pairs ≤ total (λ q. size (field_value_of g.E.HasExprTree.tree q.0).value) l.fn.pairs;
}

abbrev pub decreases-pairs : goal.decreases-pairs
decreases-pairs g l = length l.pairs

-- A walk goes down the operands of nodes. A loop has found well those before what is left.
use Rattle.std.proofs.Common.{◌≡◌, ◌+◌, ◌*◌, ◌≤◌, length}
use Rattle.std.specs.List.{list_all}
use Rattle.syn_lower_leaves.specs.View.{values, mapped}
use Rattle.syn_expr_spec.specs.WellFormed.{well}
use Rattle.syn_expr_ast.specs.Node.{operands_of}
use Rattle.syn_expr_ast.specs.View.{boxed, field_value_of}
use Rattle.syn_expr_fixup.specs.Below.{guard_at, operands_size, total, field_size, option_size, arm_size}
use Rattle.syn_expr_spec.specs.Tree.{size}
use Rattle.syn_expr_wellformed.specs.Walk.{field_well, arm_well}
use Rattle.syn_expr_wellformed.proofs.walk.+is_well.Given as goal

abbrev pub decreases-is_well : goal.decreases-is_well
decreases-is_well g l = 8 * size (g.E.HasExprTree.tree l.expr.now)

abbrev pub decreases-operands_well : goal.decreases-operands_well
decreases-operands_well g l = 7 + 8 * operands_size (operands_of g.E.HasExprTree.tree g.E.Arm.HasArmView.view l.operands)

abbrev pub decreases-elements_well : goal.decreases-elements_well
decreases-elements_well g l = 6 + 8 * total (λ x. size (g.E.HasExprTree.tree x)) (values l.elements.now)

abbrev pub decreases-list_well : goal.decreases-list_well
decreases-list_well g l = 5 + 8 * total (λ x. size (g.E.HasExprTree.tree x)) (values l.elements.now)

abbrev pub decreases-pairs_well : goal.decreases-pairs_well
decreases-pairs_well g l = 4 + 8 * total (λ q. size (g.E.HasExprTree.tree q.0)) l.pairs.now

abbrev pub decreases-fields_well : goal.decreases-fields_well
decreases-fields_well g l = 6 + 8 * (option_size (boxed g.E.HasExprTree.tree l.rest.now) + total (λ x. field_size (field_value_of g.E.HasExprTree.tree x)) (values l.fields.now))

abbrev pub decreases-field_list_well : goal.decreases-field_list_well
decreases-field_list_well g l = 5 + 8 * total (λ x. field_size (field_value_of g.E.HasExprTree.tree x)) (values l.fields.now)

abbrev pub decreases-field_pairs_well : goal.decreases-field_pairs_well
decreases-field_pairs_well g l = 4 + 8 * total (λ q. field_size (field_value_of g.E.HasExprTree.tree q.0)) l.pairs.now

abbrev pub decreases-field_well : goal.decreases-field_well
decreases-field_well g l = 3 + 8 * size (g.E.HasExprTree.tree l.field.now.expr)

abbrev pub decreases-rest_well : goal.decreases-rest_well
decreases-rest_well g l = 3 + 8 * option_size (boxed g.E.HasExprTree.tree l.rest.now)

abbrev pub decreases-chain_well : goal.decreases-chain_well
decreases-chain_well g l = 2 + 8 * size (g.E.HasExprTree.tree l.expr.now)

abbrev pub decreases-else_well : goal.decreases-else_well
decreases-else_well g l = 3 + 8 * option_size (mapped (λ q. g.E.HasExprTree.tree q.1.value) l.otherwise.now)

abbrev pub decreases-guard_well : goal.decreases-guard_well
decreases-guard_well g l = 2 + 8 * option_size (guard_at (g.E.Arm.HasArmView.view l.arm.now))

abbrev pub decreases-arm_well : goal.decreases-arm_well
decreases-arm_well g l = 3 + 8 * arm_size (g.E.Arm.HasArmView.view l.arm.now)

abbrev pub decreases-arms_well : goal.decreases-arms_well
decreases-arms_well g l = 4 + 8 * total (λ x. arm_size (g.E.Arm.HasArmView.view x)) l.arms.now

abbrev pub invariant-pairs_well-pairs : goal.invariant-pairs_well-pairs
invariant-pairs_well-pairs g l =
    record {
      well : list_all (λ q. well (g.E.HasExprTree.tree q.0)) l.pairs ≡ list_all (λ q. well (g.E.HasExprTree.tree q.0)) l.fn.pairs;
      fewer : total (λ q. size (g.E.HasExprTree.tree q.0)) l.pairs ≤ total (λ q. size (g.E.HasExprTree.tree q.0)) l.fn.pairs;
    }

abbrev pub decreases-pairs_well-pairs : goal.decreases-pairs_well-pairs
decreases-pairs_well-pairs g l = length l.pairs

abbrev pub invariant-field_pairs_well-pairs : goal.invariant-field_pairs_well-pairs
invariant-field_pairs_well-pairs g l =
    record {
      well : list_all (λ q. field_well (field_value_of g.E.HasExprTree.tree q.0)) l.pairs ≡ list_all (λ q. field_well (field_value_of g.E.HasExprTree.tree q.0)) l.fn.pairs;
      fewer : total (λ q. field_size (field_value_of g.E.HasExprTree.tree q.0)) l.pairs ≤ total (λ q. field_size (field_value_of g.E.HasExprTree.tree q.0)) l.fn.pairs;
    }

abbrev pub decreases-field_pairs_well-pairs : goal.decreases-field_pairs_well-pairs
decreases-field_pairs_well-pairs g l = length l.pairs

abbrev pub invariant-arms_well-arms : goal.invariant-arms_well-arms
invariant-arms_well-arms g l =
    record {
      well : list_all (λ x. arm_well (g.E.Arm.HasArmView.view x)) l.arms ≡ list_all (λ x. arm_well (g.E.Arm.HasArmView.view x)) l.fn.arms;
      fewer : total (λ x. arm_size (g.E.Arm.HasArmView.view x)) l.arms ≤ total (λ x. arm_size (g.E.Arm.HasArmView.view x)) l.fn.arms;
    }

abbrev pub decreases-arms_well-arms : goal.decreases-arms_well-arms
decreases-arms_well-arms g l = length l.arms

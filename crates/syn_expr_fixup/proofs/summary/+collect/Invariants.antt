-- A pass goes down the nodes that it visits. A loop over a list leaves the operands before those that were summarized.
use Rattle.std.proofs.Common.{◌≡◌, ◌+◌, ◌*◌, ◌^◌, ◌-◌, ◌≤◌, ◌++◌, min, length, vec_len}
use Rattle.syn_lower_leaves.specs.View.{values}
use Rattle.syn_expr_spec.specs.Summaries.{stack}
use Rattle.syn_expr_ast.specs.Node.{operands_at, operands_of}
use Rattle.syn_expr_ast.specs.View.{boxed, field_value_of}
use Rattle.syn_expr_fixup.specs.Below.{operands_size, backwards, total, field_below, field_size, option_size, arm_below, arm_size}
use Rattle.syn_expr_spec.specs.Tree.{size}
use Rattle.syn_expr_fixup.specs.Strays.{strays_at}
use Rattle.syn_expr_fixup.specs.Spine.{Prefixes, above, behind_size}
use Rattle.syn_expr_fixup.proofs.summary.+collect.Given as goal

abbrev pub decreases-collect : goal.decreases-collect
decreases-collect g l = 6 * size (g.E.HasExprTree.tree l.expr.now)

abbrev pub decreases-collect_spine : goal.decreases-collect_spine
decreases-collect_spine g l =
    let t = g.E.HasExprTree.tree l.expr.now in
    5 + 6 * (total size (strays_at t) + operands_size (operands_at t))

abbrev pub decreases-collect_strays : goal.decreases-collect_strays
decreases-collect_strays g l = 4 + 6 * total size (strays_at (g.E.HasExprTree.tree l.x.now))

abbrev pub decreases-collect_operands : goal.decreases-collect_operands
decreases-collect_operands g l = 4 + 6 * operands_size (operands_of g.E.HasExprTree.tree g.E.Arm.HasArmView.view l.operands)

abbrev pub decreases-collect_behind : goal.decreases-collect_behind
decreases-collect_behind g l = 4 + 6 * behind_size (operands_of g.E.HasExprTree.tree g.E.Arm.HasArmView.view l.operands)

abbrev pub decreases-collect_elements : goal.decreases-collect_elements
decreases-collect_elements g l = 3 + 6 * total (λ x. size (g.E.HasExprTree.tree x)) (values l.elements.now)

abbrev pub decreases-collect_pairs : goal.decreases-collect_pairs
decreases-collect_pairs g l = 2 + 6 * total (λ q. size (g.E.HasExprTree.tree q.0)) l.pairs.now

abbrev pub decreases-collect_fields : goal.decreases-collect_fields
decreases-collect_fields g l = 3 + 6 * total (λ x. field_size (field_value_of g.E.HasExprTree.tree x)) (values l.fields.now)

abbrev pub decreases-collect_field_pairs : goal.decreases-collect_field_pairs
decreases-collect_field_pairs g l = 2 + 6 * total (λ q. field_size (field_value_of g.E.HasExprTree.tree q.0)) l.pairs.now

abbrev pub decreases-collect_field : goal.decreases-collect_field
decreases-collect_field g l = 1 + 6 * size (g.E.HasExprTree.tree l.field.now.expr)

abbrev pub decreases-collect_rest : goal.decreases-collect_rest
decreases-collect_rest g l = 1 + 6 * option_size (boxed g.E.HasExprTree.tree l.rest.now)

abbrev pub decreases-collect_arms : goal.decreases-collect_arms
decreases-collect_arms g l = 2 + 6 * total (λ x. arm_size (g.E.Arm.HasArmView.view x)) l.arms.now

abbrev pub decreases-collect_arm : goal.decreases-collect_arm
decreases-collect_arm g l = 1 + 6 * arm_size (g.E.Arm.HasArmView.view l.arm.now)

-- Each stray guard is taken from the end.
abbrev pub invariant-collect_strays-strays : goal.invariant-collect_strays-strays
invariant-collect_strays-strays g l =
    record {
      kept : l.summaries.items ≡ l.fn.summaries.items;
      counted : min (l.visits + total (λ x. size (g.E.HasExprTree.tree x.now)) l.strays.items) (2 ^ 64 - 1) ≡ min (l.fn.visits + total size (strays_at (g.E.HasExprTree.tree l.fn.x))) (2 ^ 64 - 1);
      fewer : total (λ x. size (g.E.HasExprTree.tree x.now)) l.strays.items ≤ total size (strays_at (g.E.HasExprTree.tree l.fn.x));
    }

abbrev pub decreases-collect_strays-strays : goal.decreases-collect_strays-strays
decreases-collect_strays-strays g l = vec_len l.strays

abbrev pub invariant-collect_pairs-pairs : goal.invariant-collect_pairs-pairs
invariant-collect_pairs-pairs g l =
    record {
      kept : l.summaries.items ++ backwards (λ q. stack (g.E.HasExprTree.tree q.0)) l.pairs ≡ l.fn.summaries.items ++ backwards (λ q. stack (g.E.HasExprTree.tree q.0)) l.fn.pairs;
      counted : min (l.visits + total (λ q. size (g.E.HasExprTree.tree q.0)) l.pairs) (2 ^ 64 - 1) ≡ min (l.fn.visits + total (λ q. size (g.E.HasExprTree.tree q.0)) l.fn.pairs) (2 ^ 64 - 1);
      fewer : total (λ q. size (g.E.HasExprTree.tree q.0)) l.pairs ≤ total (λ q. size (g.E.HasExprTree.tree q.0)) l.fn.pairs;
    }

abbrev pub decreases-collect_pairs-pairs : goal.decreases-collect_pairs-pairs
decreases-collect_pairs-pairs g l = length l.pairs

abbrev pub invariant-collect_field_pairs-pairs : goal.invariant-collect_field_pairs-pairs
invariant-collect_field_pairs-pairs g l =
    record {
      kept : l.summaries.items ++ backwards (λ q. field_below (field_value_of g.E.HasExprTree.tree q.0)) l.pairs ≡ l.fn.summaries.items ++ backwards (λ q. field_below (field_value_of g.E.HasExprTree.tree q.0)) l.fn.pairs;
      counted : min (l.visits + total (λ q. field_size (field_value_of g.E.HasExprTree.tree q.0)) l.pairs) (2 ^ 64 - 1) ≡ min (l.fn.visits + total (λ q. field_size (field_value_of g.E.HasExprTree.tree q.0)) l.fn.pairs) (2 ^ 64 - 1);
      fewer : total (λ q. field_size (field_value_of g.E.HasExprTree.tree q.0)) l.pairs ≤ total (λ q. field_size (field_value_of g.E.HasExprTree.tree q.0)) l.fn.pairs;
    }

abbrev pub decreases-collect_field_pairs-pairs : goal.decreases-collect_field_pairs-pairs
decreases-collect_field_pairs-pairs g l = length l.pairs

abbrev pub invariant-collect_arms-arms : goal.invariant-collect_arms-arms
invariant-collect_arms-arms g l =
    record {
      kept : l.summaries.items ++ backwards (λ x. arm_below (g.E.Arm.HasArmView.view x)) l.arms ≡ l.fn.summaries.items ++ backwards (λ x. arm_below (g.E.Arm.HasArmView.view x)) l.fn.arms;
      counted : min (l.visits + total (λ x. arm_size (g.E.Arm.HasArmView.view x)) l.arms) (2 ^ 64 - 1) ≡ min (l.fn.visits + total (λ x. arm_size (g.E.Arm.HasArmView.view x)) l.fn.arms) (2 ^ 64 - 1);
      fewer : total (λ x. arm_size (g.E.Arm.HasArmView.view x)) l.arms ≤ total (λ x. arm_size (g.E.Arm.HasArmView.view x)) l.fn.arms;
    }

abbrev pub decreases-collect_arms-arms : goal.decreases-collect_arms-arms
decreases-collect_arms-arms g l = length l.arms

-- Down first operands the nodes over the one that is next are kept.
abbrev pub invariant-collect_spine-down : goal.invariant-collect_spine-down
invariant-collect_spine-down g l =
    record {
      prefixes : Prefixes g.E.HasExprTree.tree (g.E.HasExprTree.tree l.fn.expr) l.spine.items (g.E.HasExprTree.tree l.x);
      kept : l.summaries.items ++ (stack (g.E.HasExprTree.tree l.x) ++ above g.E.HasExprTree.tree l.spine.items) ≡ l.fn.summaries.items ++ stack (g.E.HasExprTree.tree l.fn.expr);
      counted : min (l.visits + size (g.E.HasExprTree.tree l.x)) (2 ^ 64 - 1) ≡ min (l.fn.visits + size (g.E.HasExprTree.tree l.fn.expr)) (2 ^ 64 - 1);
      fewer : size (g.E.HasExprTree.tree l.x) ≤ size (g.E.HasExprTree.tree l.fn.expr);
    }

abbrev pub decreases-collect_spine-down : goal.decreases-collect_spine-down
decreases-collect_spine-down g l = size (g.E.HasExprTree.tree l.x)

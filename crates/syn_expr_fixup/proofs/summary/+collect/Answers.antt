-- The summaries of the operands, and then the node's own.
use Rattle.std.proofs.Common.{◌≡◌, ◌+◌, ◌-◌, ◌^◌, ◌++◌, [], ◌∷◌, min, OnOk, length, take, get_or, map, subst, refl, sym, ap, ◌∙◌, append_assoc, arith, rules}
use Rattle.std.specs.Prelude.{Some, is_some}
use Rattle.std.proofs.lemmas.List.{append-nil, take_at}
use Rattle.syn_lower_leaves.specs.View.{values, trails}
use Rattle.syn_expr_spec.specs.Summaries.{stack}
use Rattle.syn_expr_ast.specs.Node.{first_of, operands_at, operands_of}
use Rattle.syn_expr_ast.specs.View.{boxed, elements, field_value_of}
use Rattle.syn_expr_fixup.specs.Spine.{IsSecond, Prefixes, above, behind_below, behind_size}
use Rattle.syn_expr_fixup.specs.Below.{AreFirst, operands_below, operands_size, backwards, total, field_below, field_size, option_below, arm_below, arm_size}
use Rattle.syn_expr_spec.specs.Tree.{size}
use Rattle.syn_expr_fixup.specs.Strays.{strays_at}
use Rattle.syn_expr_fixup.proofs.Nodes.{based_below, based_size, below_is, size_is}
use Rattle.syn_expr_fixup.proofs.Spines.{are_first, based_behind, based_left, down_rests, down_size, first_below, begins_more, on_map, whole_rests}
use Rattle.syn_expr_fixup.proofs.Lists.{backwards_last, total_last, backwards_end, total_append, total_map, total_end, step_kept, two_summarized, some_below, some_size, none_below, none_size, elements_below, elements_size, fields_below, fields_size, arms_below, arms_size}
use Rattle.syn_expr_fixup.proofs.summary.+collect.Goals as goal

-- ---- loops

pub collect_pairs-collect-requires : goal.collect_pairs-collect-requires
collect_pairs-collect-requires g t c =
    let h = total_last (λ q. size (g.E.HasExprTree.tree q.0)) c.pairs.pairs.now c.index-pairs-pairs.result c.in-len1-up.len_at_least c.index-pairs-pairs.is in
    search rules

pub collect_pairs-pairs-preserved : goal.collect_pairs-pairs-preserved
collect_pairs-pairs-preserved g t c =
    let k = backwards_end (λ q. stack (g.E.HasExprTree.tree q.0)) c.pairs.pairs.now c.index-pairs-pairs.result c.in-len1-up.len_at_least c.index-pairs-pairs.is in
    let h = total_end (λ q. size (g.E.HasExprTree.tree q.0)) c.pairs.pairs.now c.index-pairs-pairs.result c.in-len1-up.len_at_least c.index-pairs-pairs.is in
    let b : c.collect.new.visits ≡ min (c.pairs.visits + size (g.E.HasExprTree.tree (get_or c.pairs.pairs.now (length c.pairs.pairs.now - 1) c.index-pairs-pairs.result).0)) (2 ^ 64 - 1) = c.in_ok-collect.ensures.counted in
    let j = c.pairs.invariant.counted in
    let m = c.pairs.invariant.fewer in
    record {
      kept = step_kept c.pairs.summaries.items (stack (g.E.HasExprTree.tree (get_or c.pairs.pairs.now (length c.pairs.pairs.now - 1) c.index-pairs-pairs.result).0)) (backwards (λ q. stack (g.E.HasExprTree.tree q.0)) (take (length c.pairs.pairs.now - 1) c.pairs.pairs.now)) c.in_ok-collect.ensures.kept k c.pairs.invariant.kept;
      counted = omega arith;
      fewer = omega arith;
    }

pub collect_field_pairs-collect_field-requires : goal.collect_field_pairs-collect_field-requires
collect_field_pairs-collect_field-requires g t c =
    let h = total_last (λ q. field_size (field_value_of g.E.HasExprTree.tree q.0)) c.pairs.pairs.now c.index-pairs-pairs.result c.in-len1-up.len_at_least c.index-pairs-pairs.is in
    search rules

pub collect_field_pairs-pairs-preserved : goal.collect_field_pairs-pairs-preserved
collect_field_pairs-pairs-preserved g t c =
    let k = backwards_end (λ q. field_below (field_value_of g.E.HasExprTree.tree q.0)) c.pairs.pairs.now c.index-pairs-pairs.result c.in-len1-up.len_at_least c.index-pairs-pairs.is in
    let h = total_end (λ q. field_size (field_value_of g.E.HasExprTree.tree q.0)) c.pairs.pairs.now c.index-pairs-pairs.result c.in-len1-up.len_at_least c.index-pairs-pairs.is in
    let b : c.collect_field.new.visits ≡ min (c.pairs.visits + field_size (field_value_of g.E.HasExprTree.tree (get_or c.pairs.pairs.now (length c.pairs.pairs.now - 1) c.index-pairs-pairs.result).0)) (2 ^ 64 - 1) = c.in_ok-collect_field.ensures.counted in
    let j = c.pairs.invariant.counted in
    let m = c.pairs.invariant.fewer in
    record {
      kept = step_kept c.pairs.summaries.items (field_below (field_value_of g.E.HasExprTree.tree (get_or c.pairs.pairs.now (length c.pairs.pairs.now - 1) c.index-pairs-pairs.result).0)) (backwards (λ q. field_below (field_value_of g.E.HasExprTree.tree q.0)) (take (length c.pairs.pairs.now - 1) c.pairs.pairs.now)) c.in_ok-collect_field.ensures.kept k c.pairs.invariant.kept;
      counted = omega arith;
      fewer = omega arith;
    }

pub collect_arms-collect_arm-requires : goal.collect_arms-collect_arm-requires
collect_arms-collect_arm-requires g t c =
    let h = total_last (λ x. arm_size (g.E.Arm.HasArmView.view x)) c.arms.arms.now c.arm-item.result c.in-len1-up.len_at_least c.arm-item.is in
    search rules

pub collect_arms-arms-preserved : goal.collect_arms-arms-preserved
collect_arms-arms-preserved g t c =
    let k = backwards_last (λ x. arm_below (g.E.Arm.HasArmView.view x)) c.arms.arms.now c.arm-item.result c.in-len1-up.len_at_least c.arm-item.is in
    let h = total_last (λ x. arm_size (g.E.Arm.HasArmView.view x)) c.arms.arms.now c.arm-item.result c.in-len1-up.len_at_least c.arm-item.is in
    let b : c.collect_arm.new.visits ≡ min (c.arms.visits + arm_size (g.E.Arm.HasArmView.view c.arm-item.result)) (2 ^ 64 - 1) = c.in_ok-collect_arm.ensures.counted in
    let j = c.arms.invariant.counted in
    let m = c.arms.invariant.fewer in
    record {
      kept = step_kept c.arms.summaries.items (arm_below (g.E.Arm.HasArmView.view c.arm-item.result)) (backwards (λ x. arm_below (g.E.Arm.HasArmView.view x)) (take (length c.arms.arms.now - 1) c.arms.arms.now)) c.in_ok-collect_arm.ensures.kept k c.arms.invariant.kept;
      counted = omega arith;
      fewer = omega arith;
    }

-- ---- stray guards

pub collect_strays-strays-init : goal.collect_strays-strays-init
collect_strays-strays-init g t c =
    let tree = g.E.HasExprTree.tree in
    let e : total (λ x. size (tree x.now)) c.in_ok-strays.strays.items ≡ total size (strays_at (tree c.args.x.now)) =
    sym (total_map size (λ x. tree x.now) c.in_ok-strays.strays.items) ∙ ap (total size) c.in_ok-strays.ensures in
    record { kept = refl; counted = ap (λ n. min (c.args.visits.now + n) (2 ^ 64 - 1)) e; fewer = omega (arith, e) }

pub collect_strays-collect-requires : goal.collect_strays-collect-requires
collect_strays-collect-requires g t c =
    let tree = g.E.HasExprTree.tree in
    let e = ap (total (λ x. size (tree x.now))) c.in-Some.ensures.items in
    let h = total_append (λ x. size (tree x.now)) c.pop.new.self.items (c.in-Some.stray ∷ []) in
    let m = c.strays.invariant.fewer in
    search rules

pub collect_strays-strays-preserved : goal.collect_strays-strays-preserved
collect_strays-strays-preserved g t c =
    let tree = g.E.HasExprTree.tree in
    let stray = tree c.in-Some.stray.now in
    let old = c.args.summaries.now.items in
    let before = c.len-before.result in
    let e = ap (total (λ x. size (tree x.now))) c.in-Some.ensures.items in
    let h = total_append (λ x. size (tree x.now)) c.pop.new.self.items (c.in-Some.stray ∷ []) in
    let b : c.collect.new.visits ≡ min (c.strays.visits + size stray) (2 ^ 64 - 1) = c.in_ok-collect.ensures.counted in
    let j = c.strays.invariant.counted in
    let m = c.strays.invariant.fewer in
    let all : c.collect.new.summaries.items ≡ old ++ stack stray = c.in_ok-collect.ensures.kept ∙ ap (λ l. l ++ stack stray) c.strays.invariant.kept in
    let long : before ≡ length old = search rules in
    record {
      kept = c.truncate.ensures.items ∙ ap (take before) all ∙ ap (λ n. take n (old ++ stack stray)) long ∙ take_at old (stack stray) (length old) refl;
      counted = omega arith;
      fewer = omega arith;
    }

-- ---- a node

pub collect-collect_spine-requires : goal.collect-collect_spine-requires
collect-collect_spine-requires g t c =
    let v = size_is (g.E.HasExprTree.tree c.args.expr.now) in
    search rules

-- ---- down first operands

pub collect_spine-collect_operands-requires : goal.collect_spine-collect_operands-requires
collect_spine-collect_operands-requires g t c =
    let v = ap operands_size c.operands-operands.ensures in
    let x = size_is (g.E.HasExprTree.tree c.down.x.now) in
    let w = size_is (g.E.HasExprTree.tree c.args.expr.now) in
    let m = c.down.invariant.fewer in
    search rules

pub collect_spine-collect_behind-requires : goal.collect_spine-collect_behind-requires
collect_spine-collect_behind-requires g t c =
    let tree = g.E.HasExprTree.tree in
    let x = tree c.down.x.now in
    let v = ap behind_size c.operands-operands.ensures in
    let i : first_of (operands_at x) ≡ Some (tree c.in-Some.first.now) = sym (ap first_of c.operands-operands.ensures) ∙ sym (c.in-Some.ensures tree g.E.Arm.HasArmView.view) in
    let f = down_size x (tree c.in-Some.first.now) i in
    let w = size_is (tree c.args.expr.now) in
    let m = c.down.invariant.fewer in
    search rules

pub collect_spine-down-init : goal.collect_spine-down-init
collect_spine-down-init g t c =
    let tree = g.E.HasExprTree.tree in
    let e : c.new-spine.result.items ≡ [] = search rules in
    record {
      prefixes = subst (λ l. Prefixes tree (tree c.args.expr.now) l (tree c.args.expr.now)) (sym e) refl;
      kept = ap (λ l. c.args.summaries.now.items ++ (stack (tree c.args.expr.now) ++ above tree l)) e ∙ ap (λ l. c.args.summaries.now.items ++ l) (append-nil (stack (tree c.args.expr.now)));
      counted = refl;
      fewer = omega arith;
    }

pub collect_spine-down-smaller : goal.collect_spine-down-smaller
collect_spine-down-smaller g t c =
    let tree = g.E.HasExprTree.tree in
    let x = tree c.down.x.now in
    let i : first_of (operands_at x) ≡ Some (tree c.in-Some.first.now) = sym (ap first_of c.operands-operands.ensures) ∙ sym (c.in-Some.ensures tree g.E.Arm.HasArmView.view) in
    let f = down_size x (tree c.in-Some.first.now) i in
    omega arith

pub collect_spine-down-preserved : goal.collect_spine-down-preserved
collect_spine-down-preserved g t c =
    let tree = g.E.HasExprTree.tree in
    let x = tree c.down.x.now in
    let u = tree c.in-Some.first.now in
    let qs = c.down.spine.items in
    let o = c.operands-operands.ensures in
    let i : first_of (operands_at x) ≡ Some u = sym (ap first_of o) ∙ sym (c.in-Some.ensures tree g.E.Arm.HasArmView.view) in
    let s = subst (λ z. IsSecond z c.in_ok-second.second) o c.in_ok-second.ensures.second in
    let more = c.in_ok-push.ensures.items in
    let before : c.collect_strays.new.summaries.items ≡ c.down.summaries.items = c.in_ok-collect_strays.ensures.kept in
    let kept = c.in_ok-second.ensures.kept ∙ ap (λ l. l ++ behind_below (operands_of tree g.E.Arm.HasArmView.view c.operands-operands.result)) before ∙ ap (λ z. c.down.summaries.items ++ behind_below z) o in
    let v = down_size x u i in
    let b = ap behind_size o in
    let w : c.collect_strays.new.visits ≡ min (c.tick.new.visits + total size (strays_at x)) (2 ^ 64 - 1) = c.in_ok-collect_strays.ensures.counted in
    let k : c.collect_behind.new.visits ≡ min (c.collect_strays.new.visits + behind_size (operands_of tree g.E.Arm.HasArmView.view c.operands-operands.result)) (2 ^ 64 - 1) = c.in_ok-second.ensures.counted in
    let j = c.down.invariant.counted in
    let m = c.down.invariant.fewer in
    record {
      prefixes = subst (λ l. Prefixes tree (tree c.args.expr.now) l u) (sym more) (begins_more tree (tree c.args.expr.now) x u qs (c.down.x, c.in_ok-second.second) c.down.invariant.prefixes refl s i);
      kept = ap (λ l. c.collect_behind.new.summaries.items ++ (stack u ++ above tree l)) more ∙ down_rests tree c.down.summaries.items _ _ x u qs (c.down.x, c.in_ok-second.second) kept i refl c.down.invariant.kept;
      counted = omega arith;
      fewer = omega arith;
    }

-- the innermost has no first operand

pub collect_spine-returns-in_default-clause-same : goal.collect_spine-returns-in_default-clause-same
collect_spine-returns-in_default-clause-same g t c =
    let a = subst (λ z. AreFirst z c.in_ok-first.first c.in_ok-first.second) c.operands-operands.ensures c.in_ok-first.ensures.first in
    c.finish.ensures.same (g.E.HasExprTree.tree c.args.expr.now) c.down.invariant.prefixes a

pub collect_spine-returns-in_default-clause-kept : goal.collect_spine-returns-in_default-clause-kept
collect_spine-returns-in_default-clause-kept g t c =
    let tree = g.E.HasExprTree.tree in
    let x = tree c.down.x.now in
    let now = c.down.summaries.items in
    let o = c.operands-operands.ensures in
    let a = subst (λ z. AreFirst z c.in_ok-first.first c.in_ok-first.second) o c.in_ok-first.ensures.first in
    let before : c.collect_strays.new.summaries.items ≡ now = c.in_ok-collect_strays.ensures.kept in
    let under = c.in_ok-first.ensures.kept ∙ ap (λ l. l ++ operands_below (operands_of tree g.E.Arm.HasArmView.view c.operands-operands.result)) before ∙ ap (λ z. now ++ operands_below z) o ∙ ap (λ l. now ++ l) (below_is x) in
    let e = whole_rests tree now c.collect_operands.new.summaries.items _ x c.down.spine.items under c.down.invariant.kept in
    subst (λ z. OnOk c.finish.result (c.finish.new.summaries.items ≡ z)) e (c.finish.ensures.kept (tree c.args.expr.now) c.down.invariant.prefixes a)

pub collect_spine-returns-in_default-clause-counted : goal.collect_spine-returns-in_default-clause-counted
collect_spine-returns-in_default-clause-counted g t c =
    let tree = g.E.HasExprTree.tree in
    let o = ap operands_size c.operands-operands.ensures in
    let v = size_is (tree c.down.x.now) in
    let w : c.collect_strays.new.visits ≡ min (c.tick.new.visits + total size (strays_at (tree c.down.x.now))) (2 ^ 64 - 1) = c.in_ok-collect_strays.ensures.counted in
    let k : c.collect_operands.new.visits ≡ min (c.collect_strays.new.visits + operands_size (operands_of tree g.E.Arm.HasArmView.view c.operands-operands.result)) (2 ^ 64 - 1) = c.in_ok-first.ensures.counted in
    let j = c.down.invariant.counted in
    let a = subst (λ z. AreFirst z c.in_ok-first.first c.in_ok-first.second) c.operands-operands.ensures c.in_ok-first.ensures.first in
    let e : c.collect_operands.new.visits ≡ min (c.args.visits.now + size (tree c.args.expr.now)) (2 ^ 64 - 1) = omega arith in
    on_map c.finish.result (c.finish.ensures.kept (tree c.args.expr.now) c.down.invariant.prefixes a) (λ _. e)

-- or that is a leaf

pub collect_spine-returns-in-Leaf-clause-same : goal.collect_spine-returns-in-Leaf-clause-same
collect_spine-returns-in-Leaf-clause-same g t c =
    let tree = g.E.HasExprTree.tree in
    let x = tree c.down.x.now in
    let u = tree c.in-Some.first.now in
    let o = c.operands-operands.ensures in
    let i : first_of (operands_at x) ≡ Some u = sym (ap first_of o) ∙ sym (c.in-Some.ensures tree g.E.Arm.HasArmView.view) in
    let s = subst (λ z. IsSecond z c.in_ok-second.second) o c.in_ok-second.ensures.second in
    let a = are_first (operands_at x) u c.in_ok-first-2.first c.in_ok-second.second i c.in_ok-first-2.ensures.same s in
    c.finish-in-Leaf.ensures.same (tree c.args.expr.now) c.down.invariant.prefixes a

pub collect_spine-returns-in-Leaf-clause-kept : goal.collect_spine-returns-in-Leaf-clause-kept
collect_spine-returns-in-Leaf-clause-kept g t c =
    let tree = g.E.HasExprTree.tree in
    let x = tree c.down.x.now in
    let u = tree c.in-Some.first.now in
    let now = c.down.summaries.items in
    let o = c.operands-operands.ensures in
    let i : first_of (operands_at x) ≡ Some u = sym (ap first_of o) ∙ sym (c.in-Some.ensures tree g.E.Arm.HasArmView.view) in
    let s = subst (λ z. IsSecond z c.in_ok-second.second) o c.in_ok-second.ensures.second in
    let a = are_first (operands_at x) u c.in_ok-first-2.first c.in_ok-second.second i c.in_ok-first-2.ensures.same s in
    let before : c.collect_strays.new.summaries.items ≡ now = c.in_ok-collect_strays.ensures.kept in
    let others = c.in_ok-second.ensures.kept ∙ ap (λ l. l ++ behind_below (operands_of tree g.E.Arm.HasArmView.view c.operands-operands.result)) before ∙ ap (λ z. now ++ behind_below z) o in
    let under = two_summarized now (behind_below (operands_at x)) (stack u) others c.in_ok-first-2.ensures.kept (sym (below_is x) ∙ first_below (operands_at x) u i) in
    let e = whole_rests tree now c.collect_leaf.new.summaries.items _ x c.down.spine.items under c.down.invariant.kept in
    subst (λ z. OnOk c.finish-in-Leaf.result (c.finish-in-Leaf.new.summaries.items ≡ z)) e (c.finish-in-Leaf.ensures.kept (tree c.args.expr.now) c.down.invariant.prefixes a)

pub collect_spine-returns-in-Leaf-clause-counted : goal.collect_spine-returns-in-Leaf-clause-counted
collect_spine-returns-in-Leaf-clause-counted g t c =
    let tree = g.E.HasExprTree.tree in
    let x = tree c.down.x.now in
    let u = tree c.in-Some.first.now in
    let o = c.operands-operands.ensures in
    let i : first_of (operands_at x) ≡ Some u = sym (ap first_of o) ∙ sym (c.in-Some.ensures tree g.E.Arm.HasArmView.view) in
    let s = subst (λ z. IsSecond z c.in_ok-second.second) o c.in_ok-second.ensures.second in
    let a = are_first (operands_at x) u c.in_ok-first-2.first c.in_ok-second.second i c.in_ok-first-2.ensures.same s in
    let v = down_size x u i in
    let b = ap behind_size o in
    let w : c.collect_strays.new.visits ≡ min (c.tick.new.visits + total size (strays_at x)) (2 ^ 64 - 1) = c.in_ok-collect_strays.ensures.counted in
    let k : c.collect_behind.new.visits ≡ min (c.collect_strays.new.visits + behind_size (operands_of tree g.E.Arm.HasArmView.view c.operands-operands.result)) (2 ^ 64 - 1) = c.in_ok-second.ensures.counted in
    let m : c.collect_leaf.new.visits ≡ min (c.collect_behind.new.visits + size u) (2 ^ 64 - 1) = c.in_ok-first-2.ensures.counted in
    let j = c.down.invariant.counted in
    let e : c.collect_leaf.new.visits ≡ min (c.args.visits.now + size (tree c.args.expr.now)) (2 ^ 64 - 1) = omega arith in
    on_map c.finish-in-Leaf.result (c.finish-in-Leaf.ensures.kept (tree c.args.expr.now) c.down.invariant.prefixes a) (λ _. e)

-- ---- lists

pub collect_elements-collect-requires : goal.collect_elements-collect-requires
collect_elements-collect-requires g t c =
    let h = some_size (λ x. size (g.E.HasExprTree.tree x)) c.args.elements.now c.in-Some.element c.in-Some.is in
    let d = ap (λ x. size (g.E.HasExprTree.tree x)) c.deref.ensures in
    search rules

pub collect_elements-collect_pairs-requires : goal.collect_elements-collect_pairs-requires
collect_elements-collect_pairs-requires g t c =
    let h = some_size (λ x. size (g.E.HasExprTree.tree x)) c.args.elements.now c.in-Some.element c.in-Some.is in
    let v = ap (total (λ q. size (g.E.HasExprTree.tree q.0))) c.deref-in-Some.ensures.value in
    search rules

pub collect_elements-collect_pairs-requires-in-None : goal.collect_elements-collect_pairs-requires-in-None
collect_elements-collect_pairs-requires-in-None g t c =
    let h = none_size (λ x. size (g.E.HasExprTree.tree x)) c.args.elements.now c.in-None.is in
    let v = ap (total (λ q. size (g.E.HasExprTree.tree q.0))) c.deref-in-None.ensures.value in
    search rules

pub collect_elements-returns-in_ok-collect-in-Some-clause-kept : goal.collect_elements-returns-in_ok-collect-in-Some-clause-kept
collect_elements-returns-in_ok-collect-in-Some-clause-kept g t c =
    let b = some_below (λ x. stack (g.E.HasExprTree.tree x)) c.args.elements.now c.in-Some.element c.in-Some.is in
    let d = ap (λ x. stack (g.E.HasExprTree.tree x)) c.deref.ensures in
    let v = ap (backwards (λ q. stack (g.E.HasExprTree.tree q.0))) c.deref-in-Some.ensures.value in
    let k : c.collect.new.summaries.items ≡ c.args.summaries.now.items ++ stack (g.E.HasExprTree.tree c.deref.result.now) = c.in_ok-collect-in-Some.ensures.kept in
    let q = append_assoc c.args.summaries.now.items (stack (g.E.HasExprTree.tree c.in-Some.element.value)) (backwards (λ q. stack (g.E.HasExprTree.tree q.0)) c.args.elements.now.inner.items) in
    let e : c.collect.new.summaries.items ++ backwards (λ q. stack (g.E.HasExprTree.tree q.0)) c.deref-in-Some.result.now ≡ c.args.summaries.now.items ++ backwards (λ x. stack (g.E.HasExprTree.tree x)) (values c.args.elements.now) = cc in
    subst (λ z. OnOk c.collect_pairs.result (c.collect_pairs.new.summaries.items ≡ z)) e c.collect_pairs.ensures.kept

pub collect_elements-returns-in_ok-collect-in-Some-clause-counted : goal.collect_elements-returns-in_ok-collect-in-Some-clause-counted
collect_elements-returns-in_ok-collect-in-Some-clause-counted g t c =
    let b = some_size (λ x. size (g.E.HasExprTree.tree x)) c.args.elements.now c.in-Some.element c.in-Some.is in
    let d = ap (λ x. size (g.E.HasExprTree.tree x)) c.deref.ensures in
    let v = ap (total (λ q. size (g.E.HasExprTree.tree q.0))) c.deref-in-Some.ensures.value in
    let k : c.collect.new.visits ≡ min (c.args.visits.now + size (g.E.HasExprTree.tree c.deref.result.now)) (2 ^ 64 - 1) = c.in_ok-collect-in-Some.ensures.counted in
    let e : min (c.collect.new.visits + total (λ q. size (g.E.HasExprTree.tree q.0)) c.deref-in-Some.result.now) (2 ^ 64 - 1) ≡ min (c.args.visits.now + total (λ x. size (g.E.HasExprTree.tree x)) (values c.args.elements.now)) (2 ^ 64 - 1) = omega arith in
    subst (λ z. OnOk c.collect_pairs.result (c.collect_pairs.new.visits ≡ z)) e c.collect_pairs.ensures.counted

pub collect_elements-returns-in-None-clause-kept : goal.collect_elements-returns-in-None-clause-kept
collect_elements-returns-in-None-clause-kept g t c =
    let b = none_below (λ x. stack (g.E.HasExprTree.tree x)) c.args.elements.now c.in-None.is in
    let v = ap (backwards (λ q. stack (g.E.HasExprTree.tree q.0))) c.deref-in-None.ensures.value in
    let e : c.args.summaries.now.items ++ backwards (λ q. stack (g.E.HasExprTree.tree q.0)) c.deref-in-None.result.now ≡ c.args.summaries.now.items ++ backwards (λ x. stack (g.E.HasExprTree.tree x)) (values c.args.elements.now) = cc in
    subst (λ z. OnOk c.collect_pairs-in-None.result (c.collect_pairs-in-None.new.summaries.items ≡ z)) e c.collect_pairs-in-None.ensures.kept

pub collect_elements-returns-in-None-clause-counted : goal.collect_elements-returns-in-None-clause-counted
collect_elements-returns-in-None-clause-counted g t c =
    let b = none_size (λ x. size (g.E.HasExprTree.tree x)) c.args.elements.now c.in-None.is in
    let v = ap (total (λ q. size (g.E.HasExprTree.tree q.0))) c.deref-in-None.ensures.value in
    let e : min (c.args.visits.now + total (λ q. size (g.E.HasExprTree.tree q.0)) c.deref-in-None.result.now) (2 ^ 64 - 1) ≡ min (c.args.visits.now + total (λ x. size (g.E.HasExprTree.tree x)) (values c.args.elements.now)) (2 ^ 64 - 1) = omega arith in
    subst (λ z. OnOk c.collect_pairs-in-None.result (c.collect_pairs-in-None.new.visits ≡ z)) e c.collect_pairs-in-None.ensures.counted

pub collect_fields-collect_field-requires : goal.collect_fields-collect_field-requires
collect_fields-collect_field-requires g t c =
    let h = some_size (λ x. field_size (field_value_of g.E.HasExprTree.tree x)) c.args.fields.now c.in-Some.field c.in-Some.is in
    let d = ap (λ x. field_size (field_value_of g.E.HasExprTree.tree x)) c.deref.ensures in
    search rules

pub collect_fields-collect_field_pairs-requires : goal.collect_fields-collect_field_pairs-requires
collect_fields-collect_field_pairs-requires g t c =
    let h = some_size (λ x. field_size (field_value_of g.E.HasExprTree.tree x)) c.args.fields.now c.in-Some.field c.in-Some.is in
    let v = ap (total (λ q. field_size (field_value_of g.E.HasExprTree.tree q.0))) c.deref-in-Some.ensures.value in
    search rules

pub collect_fields-collect_field_pairs-requires-in-None : goal.collect_fields-collect_field_pairs-requires-in-None
collect_fields-collect_field_pairs-requires-in-None g t c =
    let h = none_size (λ x. field_size (field_value_of g.E.HasExprTree.tree x)) c.args.fields.now c.in-None.is in
    let v = ap (total (λ q. field_size (field_value_of g.E.HasExprTree.tree q.0))) c.deref-in-None.ensures.value in
    search rules

pub collect_fields-returns-in_ok-collect_field-in-Some-clause-kept : goal.collect_fields-returns-in_ok-collect_field-in-Some-clause-kept
collect_fields-returns-in_ok-collect_field-in-Some-clause-kept g t c =
    let b = some_below (λ x. field_below (field_value_of g.E.HasExprTree.tree x)) c.args.fields.now c.in-Some.field c.in-Some.is in
    let d = ap (λ x. field_below (field_value_of g.E.HasExprTree.tree x)) c.deref.ensures in
    let v = ap (backwards (λ q. field_below (field_value_of g.E.HasExprTree.tree q.0))) c.deref-in-Some.ensures.value in
    let k : c.collect_field.new.summaries.items ≡ c.args.summaries.now.items ++ field_below (field_value_of g.E.HasExprTree.tree c.deref.result.now) = c.in_ok-collect_field-in-Some.ensures.kept in
    let q = append_assoc c.args.summaries.now.items (field_below (field_value_of g.E.HasExprTree.tree c.in-Some.field.value)) (backwards (λ q. field_below (field_value_of g.E.HasExprTree.tree q.0)) c.args.fields.now.inner.items) in
    let e : c.collect_field.new.summaries.items ++ backwards (λ q. field_below (field_value_of g.E.HasExprTree.tree q.0)) c.deref-in-Some.result.now ≡ c.args.summaries.now.items ++ backwards (λ x. field_below (field_value_of g.E.HasExprTree.tree x)) (values c.args.fields.now) = cc in
    subst (λ z. OnOk c.collect_field_pairs.result (c.collect_field_pairs.new.summaries.items ≡ z)) e c.collect_field_pairs.ensures.kept

pub collect_fields-returns-in_ok-collect_field-in-Some-clause-counted : goal.collect_fields-returns-in_ok-collect_field-in-Some-clause-counted
collect_fields-returns-in_ok-collect_field-in-Some-clause-counted g t c =
    let b = some_size (λ x. field_size (field_value_of g.E.HasExprTree.tree x)) c.args.fields.now c.in-Some.field c.in-Some.is in
    let d = ap (λ x. field_size (field_value_of g.E.HasExprTree.tree x)) c.deref.ensures in
    let v = ap (total (λ q. field_size (field_value_of g.E.HasExprTree.tree q.0))) c.deref-in-Some.ensures.value in
    let k : c.collect_field.new.visits ≡ min (c.args.visits.now + field_size (field_value_of g.E.HasExprTree.tree c.deref.result.now)) (2 ^ 64 - 1) = c.in_ok-collect_field-in-Some.ensures.counted in
    let e : min (c.collect_field.new.visits + total (λ q. field_size (field_value_of g.E.HasExprTree.tree q.0)) c.deref-in-Some.result.now) (2 ^ 64 - 1) ≡ min (c.args.visits.now + total (λ x. field_size (field_value_of g.E.HasExprTree.tree x)) (values c.args.fields.now)) (2 ^ 64 - 1) = omega arith in
    subst (λ z. OnOk c.collect_field_pairs.result (c.collect_field_pairs.new.visits ≡ z)) e c.collect_field_pairs.ensures.counted

pub collect_fields-returns-in-None-clause-kept : goal.collect_fields-returns-in-None-clause-kept
collect_fields-returns-in-None-clause-kept g t c =
    let b = none_below (λ x. field_below (field_value_of g.E.HasExprTree.tree x)) c.args.fields.now c.in-None.is in
    let v = ap (backwards (λ q. field_below (field_value_of g.E.HasExprTree.tree q.0))) c.deref-in-None.ensures.value in
    let e : c.args.summaries.now.items ++ backwards (λ q. field_below (field_value_of g.E.HasExprTree.tree q.0)) c.deref-in-None.result.now ≡ c.args.summaries.now.items ++ backwards (λ x. field_below (field_value_of g.E.HasExprTree.tree x)) (values c.args.fields.now) = cc in
    subst (λ z. OnOk c.collect_field_pairs-in-None.result (c.collect_field_pairs-in-None.new.summaries.items ≡ z)) e c.collect_field_pairs-in-None.ensures.kept

pub collect_fields-returns-in-None-clause-counted : goal.collect_fields-returns-in-None-clause-counted
collect_fields-returns-in-None-clause-counted g t c =
    let b = none_size (λ x. field_size (field_value_of g.E.HasExprTree.tree x)) c.args.fields.now c.in-None.is in
    let v = ap (total (λ q. field_size (field_value_of g.E.HasExprTree.tree q.0))) c.deref-in-None.ensures.value in
    let e : min (c.args.visits.now + total (λ q. field_size (field_value_of g.E.HasExprTree.tree q.0)) c.deref-in-None.result.now) (2 ^ 64 - 1) ≡ min (c.args.visits.now + total (λ x. field_size (field_value_of g.E.HasExprTree.tree x)) (values c.args.fields.now)) (2 ^ 64 - 1) = omega arith in
    subst (λ z. OnOk c.collect_field_pairs-in-None.result (c.collect_field_pairs-in-None.new.visits ≡ z)) e c.collect_field_pairs-in-None.ensures.counted

-- ---- calls and matches

pub collect_operands-collect_arms-requires : goal.collect_operands-collect_arms-requires
collect_operands-collect_arms-requires g t c =
    let i = ap (λ o. operands_size (operands_of g.E.HasExprTree.tree g.E.Arm.HasArmView.view o)) c.in-Arms.is in
    let a = arms_size g.E.Arm.HasArmView.view c.in-Arms.arms.now.items in
    let v = ap (total (λ x. arm_size (g.E.Arm.HasArmView.view x))) c.deref-in-Arms.ensures.value in
    search rules

pub collect_operands-returns-in_ok-collect-in-Call-clause-kept : goal.collect_operands-returns-in_ok-collect-in-Call-clause-kept
collect_operands-returns-in_ok-collect-in-Call-clause-kept g t c =
    let i = ap (λ o. operands_below (operands_of g.E.HasExprTree.tree g.E.Arm.HasArmView.view o)) c.in-Call.is in
    let b = based_below (g.E.HasExprTree.tree c.in-Call.x.now.value) (elements (map g.E.HasExprTree.tree (values c.in-Call.arguments.now)) (trails c.in-Call.arguments.now)) in
    let m = ap (λ l. l ++ stack (g.E.HasExprTree.tree c.in-Call.x.now.value)) (elements_below g.E.HasExprTree.tree (values c.in-Call.arguments.now) (trails c.in-Call.arguments.now)) in
    let d = ap (λ x. backwards (λ x. stack (g.E.HasExprTree.tree x)) (values c.in-Call.arguments.now) ++ stack (g.E.HasExprTree.tree x)) (sym c.deref-in-Call.ensures) in
    two_summarized c.args.summaries.now.items (backwards (λ x. stack (g.E.HasExprTree.tree x)) (values c.in-Call.arguments.now)) (stack (g.E.HasExprTree.tree c.deref-in-Call.result.now)) c.in_ok-collect_elements-in-Call.ensures.kept c.in_ok-collect-in-Call.ensures.kept (i ∙ b ∙ m ∙ d)

pub collect_operands-returns-in_ok-collect-in-Call-clause-counted : goal.collect_operands-returns-in_ok-collect-in-Call-clause-counted
collect_operands-returns-in_ok-collect-in-Call-clause-counted g t c =
    let i = ap (λ o. operands_size (operands_of g.E.HasExprTree.tree g.E.Arm.HasArmView.view o)) c.in-Call.is in
    let b = based_size (g.E.HasExprTree.tree c.in-Call.x.now.value) (elements (map g.E.HasExprTree.tree (values c.in-Call.arguments.now)) (trails c.in-Call.arguments.now)) in
    let m = elements_size g.E.HasExprTree.tree (values c.in-Call.arguments.now) (trails c.in-Call.arguments.now) in
    let k = c.in_ok-collect_elements-in-Call.ensures.counted in
    let n = c.in_ok-collect-in-Call.ensures.counted in
    let d = ap (λ x. size (g.E.HasExprTree.tree x)) c.deref-in-Call.ensures in
    omega arith

pub collect_operands-returns-in_ok-collect-in-Arms-clause-kept : goal.collect_operands-returns-in_ok-collect-in-Arms-clause-kept
collect_operands-returns-in_ok-collect-in-Arms-clause-kept g t c =
    let i = ap (λ o. operands_below (operands_of g.E.HasExprTree.tree g.E.Arm.HasArmView.view o)) c.in-Arms.is in
    let m = ap (λ l. l ++ stack (g.E.HasExprTree.tree c.in-Arms.x.now.value)) (arms_below g.E.Arm.HasArmView.view c.in-Arms.arms.now.items) in
    let v = ap (λ xs. backwards (λ x. arm_below (g.E.Arm.HasArmView.view x)) xs ++ stack (g.E.HasExprTree.tree c.in-Arms.x.now.value)) (sym c.deref-in-Arms.ensures.value) in
    let d = ap (λ x. backwards (λ x. arm_below (g.E.Arm.HasArmView.view x)) c.deref-in-Arms.result.now ++ stack (g.E.HasExprTree.tree x)) (sym c.deref-in-Arms-2.ensures) in
    two_summarized c.args.summaries.now.items (backwards (λ x. arm_below (g.E.Arm.HasArmView.view x)) c.deref-in-Arms.result.now) (stack (g.E.HasExprTree.tree c.deref-in-Arms-2.result.now)) c.in_ok-collect_arms-in-Arms.ensures.kept c.in_ok-collect-in-Arms.ensures.kept (i ∙ m ∙ v ∙ d)

pub collect_operands-returns-in_ok-collect_fields-in-Fields-clause-kept : goal.collect_operands-returns-in_ok-collect_fields-in-Fields-clause-kept
collect_operands-returns-in_ok-collect_fields-in-Fields-clause-kept g t c =
    let i = ap (λ o. operands_below (operands_of g.E.HasExprTree.tree g.E.Arm.HasArmView.view o)) c.in-Fields.is in
    let m = fields_below (field_value_of g.E.HasExprTree.tree) (values c.in-Fields.fields.now) (trails c.in-Fields.fields.now) (is_some c.in-Fields.field-1.now) (boxed g.E.HasExprTree.tree c.in-Fields.rest.now) in
    two_summarized c.args.summaries.now.items (option_below (boxed g.E.HasExprTree.tree c.in-Fields.rest.now)) (backwards (λ x. field_below (field_value_of g.E.HasExprTree.tree x)) (values c.in-Fields.fields.now)) c.in_ok-collect_rest-in-Fields.ensures.kept c.in_ok-collect_fields-in-Fields.ensures.kept (i ∙ m)

pub collect_operands-returns-in_ok-collect_fields-in-Fields-clause-counted : goal.collect_operands-returns-in_ok-collect_fields-in-Fields-clause-counted
collect_operands-returns-in_ok-collect_fields-in-Fields-clause-counted g t c =
    let i = ap (λ o. operands_size (operands_of g.E.HasExprTree.tree g.E.Arm.HasArmView.view o)) c.in-Fields.is in
    let m = fields_size (field_value_of g.E.HasExprTree.tree) (values c.in-Fields.fields.now) (trails c.in-Fields.fields.now) (is_some c.in-Fields.field-1.now) (boxed g.E.HasExprTree.tree c.in-Fields.rest.now) in
    let k = c.in_ok-collect_rest-in-Fields.ensures.counted in
    let n = c.in_ok-collect_fields-in-Fields.ensures.counted in
    omega arith

pub collect_operands-returns-in_ok-collect-in-Arms-clause-counted : goal.collect_operands-returns-in_ok-collect-in-Arms-clause-counted
collect_operands-returns-in_ok-collect-in-Arms-clause-counted g t c =
    let i = ap (λ o. operands_size (operands_of g.E.HasExprTree.tree g.E.Arm.HasArmView.view o)) c.in-Arms.is in
    let m = arms_size g.E.Arm.HasArmView.view c.in-Arms.arms.now.items in
    let v = ap (total (λ x. arm_size (g.E.Arm.HasArmView.view x))) c.deref-in-Arms.ensures.value in
    let k = c.in_ok-collect_arms-in-Arms.ensures.counted in
    let n = c.in_ok-collect-in-Arms.ensures.counted in
    let d = ap (λ x. size (g.E.HasExprTree.tree x)) c.deref-in-Arms-2.ensures in
    omega arith

pub collect_behind-returns-in_ok-collect_elements-in-Call-clause-kept : goal.collect_behind-returns-in_ok-collect_elements-in-Call-clause-kept
collect_behind-returns-in_ok-collect_elements-in-Call-clause-kept g t c =
    let tree = g.E.HasExprTree.tree in
    let xs = c.in-Call.arguments.now in
    let i = ap (λ o. behind_below (operands_of tree g.E.Arm.HasArmView.view o)) c.in-Call.is in
    let b = based_behind (tree c.in-Call.field-0.now.value) (elements (map tree (values xs)) (trails xs)) in
    c.in_ok-collect_elements-in-Call.ensures.kept ∙ ap (λ l. c.args.summaries.now.items ++ l) (sym (i ∙ b ∙ elements_below tree (values xs) (trails xs)))

pub collect_behind-returns-in_ok-collect_elements-in-Call-clause-counted : goal.collect_behind-returns-in_ok-collect_elements-in-Call-clause-counted
collect_behind-returns-in_ok-collect_elements-in-Call-clause-counted g t c =
    let tree = g.E.HasExprTree.tree in
    let xs = c.in-Call.arguments.now in
    let i = ap (λ o. behind_size (operands_of tree g.E.Arm.HasArmView.view o)) c.in-Call.is in
    let b = based_left (tree c.in-Call.field-0.now.value) (elements (map tree (values xs)) (trails xs)) in
    let m = elements_size tree (values xs) (trails xs) in
    let k = c.in_ok-collect_elements-in-Call.ensures.counted in
    omega arith

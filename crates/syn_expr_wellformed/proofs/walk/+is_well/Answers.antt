-- What is left of lists, of arms and of a node.
use Rattle.std.proofs.Common.{ap, sym, ◌∙◌, rules}
use Rattle.std.specs.List.{list_all}
use Rattle.syn_expr_spec.specs.WellFormed.{well}
use Rattle.syn_expr_ast.specs.Node.{operands_of}
use Rattle.syn_expr_ast.specs.View.{field_value_of}
use Rattle.syn_expr_fixup.specs.Below.{operands_size, total, arm_size}
use Rattle.syn_expr_fixup.proofs.Lists.{arms_size}
use Rattle.syn_expr_fixup.proofs.Nodes.{size_is}
use Rattle.syn_expr_wellformed.specs.Slots.{dots_of}
use Rattle.syn_expr_wellformed.specs.Well.{slot_at, dots_at}
use Rattle.syn_expr_wellformed.specs.Walk.{operands_well, field_well}
use Rattle.syn_expr_wellformed.proofs.Operands.{all-some}
use Rattle.syn_expr_wellformed.proofs.Wholes.{well-then, well-else}
use Rattle.syn_expr_wellformed.proofs.walk.+is_well.Goals as goal

pub list_well-returns-in-Some : goal.list_well-returns-in-Some
list_well-returns-in-Some g t c =
    let a = all-some (λ x. well (g.E.HasExprTree.tree x)) c.args.elements.now c.in-Some.element c.in-Some.is in
    let v = ap (list_all (λ q. well (g.E.HasExprTree.tree q.0))) c.deref.ensures.value in
    let d = ap (λ x. well (g.E.HasExprTree.tree x)) c.deref-in-Some.ensures in
    search rules

pub field_list_well-returns-in-Some : goal.field_list_well-returns-in-Some
field_list_well-returns-in-Some g t c =
    let a = all-some (λ x. field_well (field_value_of g.E.HasExprTree.tree x)) c.args.fields.now c.in-Some.field c.in-Some.is in
    let v = ap (list_all (λ q. field_well (field_value_of g.E.HasExprTree.tree q.0))) c.deref.ensures.value in
    let d = ap (λ x. field_well (field_value_of g.E.HasExprTree.tree x)) c.deref-in-Some.ensures in
    search rules

pub operands_well-arms_well-requires : goal.operands_well-arms_well-requires
operands_well-arms_well-requires g t c κs within =
    let i = ap (λ o. operands_size (operands_of g.E.HasExprTree.tree g.E.Arm.HasArmView.view o)) c.in-Arms.is in
    let a = arms_size g.E.Arm.HasArmView.view c.in-Arms.arms.now.items in
    let v = ap (total (λ x. arm_size (g.E.Arm.HasArmView.view x))) c.deref-then-is_well-7.ensures.value in
    search rules

pub is_well-operands_well-requires : goal.is_well-operands_well-requires
is_well-operands_well-requires g t c =
    let v = ap operands_size c.operands.ensures in
    let w = size_is (g.E.HasExprTree.tree c.args.expr.now) in
    search rules

pub is_well-returns-then-node_fits : goal.is_well-returns-then-node_fits
is_well-returns-then-node_fits g t c =
    let tree = g.E.HasExprTree.tree c.args.expr.now in
    let n = sym c.node_fits.ensures ∙ c.if-node_fits.true in
    let o = operands_of g.E.HasExprTree.tree g.E.Arm.HasArmView.view c.operands.result in
    c.operands_well.ensures
    ∙ (ap (λ s. operands_well s (dots_of c.operand_slot.result) o) c.operand_slot.ensures.slot
    ∙ (ap (λ d. operands_well (slot_at tree) d o) c.operand_slot.ensures.dots
    ∙ (ap (operands_well (slot_at tree) (dots_at tree)) c.operands.ensures ∙ well-then tree (g.met.E.HasWell.whole c.args.expr.now) n)))

pub is_well-returns-else-node_fits : goal.is_well-returns-else-node_fits
is_well-returns-else-node_fits g t c =
    let n = sym c.node_fits.ensures ∙ c.if-node_fits.false in
    c.if-node_fits.false ∙ well-else (g.E.HasExprTree.tree c.args.expr.now) (g.met.E.HasWell.whole c.args.expr.now) n

-- Reading an arm, arms or a field is exact, for callers.
use Rattle.std.proofs.Common.{◌≡◌, ◌≢◌, List, [], Some, None, sym, append-nil}
use Rattle.syn_tokens.specs.Tok.{Tok}
use Rattle.syn_tokens.specs.Input.{IsTail}
use Rattle.syn_tokens.specs.declared.error.ErrorKind.{ErrorKind}
use Rattle.syn_tokens.specs.declared.error.ErrorKind.TheVariants.{OutOfMemory}
use Rattle.syn_expr_spec.specs.Tree.{Children}
use Rattle.syn_expr_spec.specs.Slot as slot
use Rattle.syn_expr_spec.specs.Stands.{Operands}
use Rattle.syn_expr_spec.specs.Read.{expr, bare_operands}
use Rattle.syn_expr_ast.specs.Pats.{ArmView}
use Rattle.syn_expr_ast.specs.View.{FieldView}
use Rattle.syn_expr_parse.specs.Arms.{ArmStands}
use Rattle.syn_expr_parse.specs.Parts.{one_arm}
use Rattle.syn_expr_parse.proofs.Arms.{arm_sound, arm_complete, arms_sound, arms_complete}
use Rattle.syn_expr_parse.proofs.Parts.{arm_is_less}
use Rattle.syn_expr_ast.specs.FieldStands.{FieldStands}
use Rattle.syn_expr_parse.specs.Fields.{one_field}
use Rattle.syn_expr_parse.proofs.FieldStands.{field_sound, field_complete, field_is_less}
use Rattle.syn_expr_spec.specs.Exact.{IsExact}
use Rattle.syn_expr_ast.proofs.Exactly.{refused_by, same_read}

-- ---- an arm

pub arm_exact : IsExact one_arm ArmStands
arm_exact = record { sound = arm_sound; complete = arm_complete; tail = λ l x n h. let d = arm_is_less l x n h in d.tail; less = λ l x n h. let d = arm_is_less l x n h in d.less }

pub arm_tail : (l n : List Tok) (t : ArmView) → one_arm l ≡ Some (t, n) → IsTail n l
arm_tail l n t h = let d = arm_is_less l t n h in d.tail

-- ---- arms to the end

pub ends_left : (l n : List Tok) → n ≡ [] → IsTail n l
ends_left l [] e = record { front = l; is = sym (append-nil l) }
ends_left l n e = absurd cc

pub arms_stand : (l n : List Tok) (t : Children) → bare_operands expr slot.arms l ≡ Some (t, n) → n ≡ [] → Operands slot.arms l t []
arms_stand l [] t h e = arms_sound l t [] h
arms_stand l n t h e = absurd cc

pub arms_same : (l m : List Tok) (t u : Children) → bare_operands expr slot.arms l ≡ Some (t, m) → Operands slot.arms l u [] → t ≡ u
arms_same l m t u h s = let e = same_read h (arms_complete l u [] s) in e.0

pub arms_refused : (l : List Tok) (u : Children) (k : ErrorKind) → (k ≢ OutOfMemory → bare_operands expr slot.arms l ≡ None) → Operands slot.arms l u [] → k ≡ OutOfMemory
arms_refused l u k h s = refused_by k h (arms_complete l u [] s)

pub ruleset all_arms = (arms_stand, arms_same, arms_refused)

-- ---- a field

pub field_exact : IsExact one_field FieldStands
field_exact = record { sound = field_sound; complete = field_complete; tail = λ l x n h. let d = field_is_less l x n h in d.tail; less = λ l x n h. let d = field_is_less l x n h in d.less }

pub field_tail : (l n : List Tok) (t : FieldView) → one_field l ≡ Some (t, n) → IsTail n l
field_tail l n t h = let d = field_is_less l t n h in d.tail

-- The forms that the definitions and the reading of expressions use are read exactly where their tokens are, what is
-- left after each is a tail of the list, and those that take a token leave less.
use Rattle.std.proofs.Common.{Bool, arith}
use Rattle.syn_lower_spec.specs.declared.label.PathStyle.TheVariants as style
use Rattle.syn_lower_spec.specs.Form.{Form}
use Rattle.syn_lower_spec.specs.Laws.{IsReadable}
use Rattle.syn_lower_spec.specs.Part.{QPathTree, macro_end, outer_attributes, inner_attributes, qpath, type}
use Rattle.syn_lower_spec.specs.Pat.{pattern}
use Rattle.syn_lower_spec.proofs.Forms.{Alike}
use Rattle.syn_lower_spec.proofs.Parts.{outer_attributes_alike, inner_attributes_alike, macro_end_alike}
use Rattle.syn_lower_spec.proofs.Pats.{pattern_alike}
use Rattle.syn_lower_spec.proofs.Readable.{qpath_readable, type_readable}
use Rattle.syn_lower_spec.proofs.Tails.{Leaves}
use Rattle.syn_lower_spec.proofs.TailParts.{outer_attributes_leaves, inner_attributes_leaves}
use Rattle.syn_lower_spec.proofs.Takes.{Takes}
use Rattle.syn_expr_spec.specs.Path.{expr_path}
use Rattle.syn_expr_spec.specs.Head.{label, jump_head, range_op, body_inside, body, builtin, named, leaf_form, closure_head, prefix_form, dotted}
use Rattle.syn_expr_spec.specs.Slot as s
use Rattle.syn_expr_spec.specs.Slot.{Slot, piece_form, for_head}
use Rattle.syn_expr_spec.proofs.GroupForms.{expr_path_alike, expr_path_leaves, expr_path_takes}
use Rattle.syn_expr_spec.proofs.HeadForms.{label_alike, jump_head_alike, range_op_alike, body_inside_alike, body_alike, builtin_alike, named_alike, leaf_form_alike, closure_head_alike, prefix_form_alike, dotted_alike, for_head_alike, piece_form_alike}
use Rattle.syn_expr_spec.proofs.HeadTails.{macro_end_leaves, pattern_leaves, label_leaves, jump_head_leaves, range_op_leaves, body_inside_leaves, body_leaves, builtin_leaves, named_leaves, leaf_form_leaves, closure_head_leaves, prefix_form_leaves, dotted_leaves, for_head_leaves, piece_form_leaves}
use Rattle.syn_expr_spec.proofs.HeadTakes.{jump_head_takes, range_op_takes, body_takes, builtin_takes, named_takes, leaf_form_takes, closure_head_takes, prefix_form_takes, dotted_takes, for_head_takes, fields_take, otherwise_takes, arms_take, bodies_take}

-- ---- forms

pub readable : {A : Type 0} {f : Form A} → Alike 0 f f → Leaves f → Takes f → IsReadable 1 f
readable a t k = record {
  tail = λ l n x h. t.leaves l x n h;
  moves = λ l n x h. omega (arith, k.takes l x n h);
  stands = λ l n x h. a.sound l x n h;
  found = λ l n x h. a.complete l x n h;
}

pub readable_or_none : {A : Type 0} {f : Form A} → Alike 0 f f → Leaves f → IsReadable 0 f
readable_or_none a t = record {
  tail = λ l n x h. t.leaves l x n h;
  moves = λ l n x h. omega (arith, a.falls l x n h);
  stands = λ l n x h. a.sound l x n h;
  found = λ l n x h. a.complete l x n h;
}

-- What each form reads is there, and what stands it reads; what is left is a tail, of less weight where 1 is asked.
pub record HeadsAreReadable : Type 0 where
  pub leaves : IsReadable 1 leaf_form
  pub prefixes : IsReadable 1 prefix_form
  pub jumps : IsReadable 1 jump_head
  pub ranges : IsReadable 1 range_op
  pub labels : IsReadable 0 label
  pub bodies_inside : IsReadable 0 body_inside
  pub bodies : IsReadable 1 body
  pub special : IsReadable 1 builtin
  pub names : IsReadable 1 named
  pub closure_heads : IsReadable 1 closure_head
  pub trailers : IsReadable 1 dotted
  pub for_heads : IsReadable 1 for_head
  pub pieces : (p : Slot) → IsReadable 0 (piece_form p)
  pub field_pieces : IsReadable 1 (piece_form s.fields)
  pub else_pieces : IsReadable 1 (piece_form s.otherwise)
  pub arm_pieces : IsReadable 1 (piece_form s.arms)
  pub guarded_pieces : IsReadable 1 (piece_form s.bodies)
  pub outer : IsReadable 0 outer_attributes
  pub inner : IsReadable 0 inner_attributes
  pub paths : IsReadable 1 (qpath type style.Expr)
  pub expr_paths : (braces : Bool) → IsReadable 1 (expr_path braces)
  pub macro_ends : (q : QPathTree) → IsReadable 0 (macro_end q)
  pub types : (several : Bool) → IsReadable 1 (type several)
  pub patterns : (several : Bool) → IsReadable 0 (pattern several)

pub heads_readable : HeadsAreReadable
heads_readable = record {
  leaves = readable leaf_form_alike leaf_form_leaves leaf_form_takes;
  prefixes = readable prefix_form_alike prefix_form_leaves prefix_form_takes;
  jumps = readable jump_head_alike jump_head_leaves jump_head_takes;
  ranges = readable range_op_alike range_op_leaves range_op_takes;
  labels = readable_or_none label_alike label_leaves;
  bodies_inside = readable_or_none body_inside_alike body_inside_leaves;
  bodies = readable body_alike body_leaves body_takes;
  special = readable builtin_alike builtin_leaves builtin_takes;
  names = readable named_alike named_leaves named_takes;
  closure_heads = readable closure_head_alike closure_head_leaves closure_head_takes;
  trailers = readable dotted_alike dotted_leaves dotted_takes;
  for_heads = readable for_head_alike for_head_leaves for_head_takes;
  pieces = λ p. readable_or_none (piece_form_alike p) (piece_form_leaves p);
  field_pieces = readable (piece_form_alike s.fields) (piece_form_leaves s.fields) fields_take;
  else_pieces = readable (piece_form_alike s.otherwise) (piece_form_leaves s.otherwise) otherwise_takes;
  arm_pieces = readable (piece_form_alike s.arms) (piece_form_leaves s.arms) arms_take;
  guarded_pieces = readable (piece_form_alike s.bodies) (piece_form_leaves s.bodies) bodies_take;
  outer = readable_or_none outer_attributes_alike outer_attributes_leaves;
  inner = readable_or_none inner_attributes_alike inner_attributes_leaves;
  paths = qpath_readable style.Expr;
  expr_paths = λ b. readable (expr_path_alike b) (expr_path_leaves b) (expr_path_takes b);
  macro_ends = λ q. readable_or_none (macro_end_alike q) (macro_end_leaves q);
  types = type_readable;
  patterns = λ b. readable_or_none (pattern_alike b) (pattern_leaves b);
}

-- What is left after patterns and after the heads of expressions is a tail of the list.
use Rattle.std.proofs.Common.{◌≡◌, Bool, true, false, not, ◌&&◌, ◌==◌, ℕ, List, [], ◌∷◌, Option, Some, None, ap, subst, codes}
use Rattle.std.specs.Str.{bytes_eq}
use Rattle.syn_lexer.specs.Keywords.{is_reserved_word}
use Rattle.syn_lexer.specs.declared.front.Delimiter.TheVariants as del
use Rattle.syn_tokens.specs.Tok.{Tok, ident, punct, literal, group}
use Rattle.syn_tokens.specs.Input.{IsTail}
use Rattle.syn_lower_spec.specs.declared.label.PathStyle.TheVariants as style
use Rattle.syn_lower_spec.specs.Text.{Text}
use Rattle.syn_lower_spec.specs.Same.{same_toks}
use Rattle.syn_lower_spec.specs.Form.{Form, then_by, flag, maybe}
use Rattle.syn_lower_spec.specs.Mark.{and, constant, underscore, colon}
use Rattle.syn_lower_spec.specs.Part.{lifetimes_at, lifetimes, QPathTree, no_arguments, macro_end, arguments, mutability, type}
use Rattle.syn_lower_spec.specs.Pat as p
use Rattle.syn_lower_spec.specs.Pat.{MemberTree, PatTree, a_name, an_index}
use Rattle.syn_lower_spec.proofs.Weights.{some_is}
use Rattle.syn_lower_spec.proofs.Tails.{Leaves, Found, nothing_taken, tail_then, one_taken, never_leaves, when_leaves, mark_leaves, then_by_leaves, both_leaves, shown_leaves, pure_leaves, fix_leaves, leaf_leaves, maybe_leaves, flag_leaves, case_leaves, group_case_leaves}
use Rattle.syn_lower_spec.proofs.TailParts.{leaving, signed_leaves, outer_attributes_leaves, inner_attributes_leaves, block_leaves, lifetimes_leaves, output_leaves, angle_bracketed_leaves, type_leaves}
use Rattle.syn_expr_spec.proofs.GroupForms.{qpath_whole_leaves, expr_path_leaves}
use Rattle.syn_expr_spec.proofs.HeadForms.{verbatim_some}
use Rattle.syn_expr_spec.specs.Head as h
use Rattle.syn_expr_spec.specs.Slot as s
use Rattle.syn_expr_spec.specs.Slot.{Slot}

-- ---- members and the parts that patterns use

pub name_some : (b : Bool) (w : Text) (l : List Tok) (x : MemberTree) (n : List Tok) → p.name_if b w l ≡ Some (x, n) → l ≡ n
name_some true w l x n h = ap (λ z. z.1) (some_is h)
name_some false w l x n h = absurd cc

pub index_some : (o : Option ℕ) (l : List Tok) (x : MemberTree) (n : List Tok) → p.index_if o l ≡ Some (x, n) → l ≡ n
index_some (Some k) l x n h = ap (λ z. z.1) (some_is h)
index_some None l x n h = absurd cc

by : (l n m : List Tok) → l ≡ n → IsTail l m → IsTail n m
by l n m e h = subst (λ z. IsTail z m) e h

found_member : Found p.find_member
found_member = record { leaves = leaves }
  where
    leaves : (l : List Tok) (x : MemberTree) (n : List Tok) → p.find_member l ≡ Some (x, n) → IsTail n l
    leaves (ident w ∷ l) x n h = by l n (ident w ∷ l) (name_some (not (is_reserved_word w)) w l x n h) (one_taken (ident w) l)
    leaves (literal w ∷ l) x n h = by l n (literal w ∷ l) (index_some (p.index_of w) l x n h) (one_taken (literal w) l)
    leaves _ x n h = absurd cc

pub member_leaves : Leaves p.member
unfolding p.member
member_leaves = leaf_leaves p.same_member found_member

pub macro_end_leaves : (q : QPathTree) → Leaves (macro_end q)
unfolding macro_end
macro_end_leaves q = search leaving depth 12

no_arguments_leaves : Leaves no_arguments
unfolding no_arguments
no_arguments_leaves = search leaving depth 12

pub arguments_leaves : Leaves (arguments type style.Expr)
unfolding arguments
arguments_leaves = when_leaves _ (angle_bracketed_leaves type_leaves) no_arguments_leaves

mutability_leaves : Leaves mutability
mutability_leaves = search (case_leaves, leaving) depth 12

-- ---- patterns

range_bound_leaves : Leaves p.range_bound
unfolding p.range_bound
range_bound_leaves = search (qpath_whole_leaves, leaving) depth 12

limits_leaves : Leaves p.limits
unfolding p.limits
limits_leaves = search (case_leaves, leaving) depth 12

range_end_leaves : Leaves p.range_end
unfolding p.range_end
range_end_leaves = search (limits_leaves, range_bound_leaves, leaving) depth 12

module _ {pattern : Bool → Form PatTree} (again : (b : Bool) → Leaves (pattern b)) where
  reference_leaves : Leaves (p.reference_pat pattern)
  unfolding p.reference_pat
  reference_leaves = search (again, leaving) depth 12

  binding_leaves : Leaves (p.binding pattern)
  unfolding p.binding
  binding_leaves = search (again, case_leaves, leaving) depth 14

  path_end_leaves : (q : QPathTree) → Leaves (p.path_end pattern q)
  unfolding p.path_end
  path_end_leaves q = search (range_end_leaves, leaving) depth 14

  path_leaves : Leaves (p.path_pat pattern)
  unfolding p.path_pat
  path_leaves = search (qpath_whole_leaves, path_end_leaves, leaving) depth 12

  single_leaves : Leaves (p.single pattern)
  unfolding p.single
  single_leaves =
      case_leaves underscore (pure_leaves _ _)
      (case_leaves constant (shown_leaves _ _ block_leaves)
      (case_leaves and reference_leaves
      (group_case_leaves del.Parenthesis _
      (group_case_leaves del.Bracket _
      (when_leaves _ (shown_leaves _ _ range_end_leaves)
      (when_leaves _ (shown_leaves _ _ (both_leaves signed_leaves (maybe_leaves _ range_end_leaves)))
      (when_leaves _ binding_leaves
      path_leaves)))))))

  multi_leaves : Leaves (p.multi pattern)
  unfolding p.multi
  multi_leaves = search (single_leaves, leaving) depth 12

  at_width_leaves : (b : Bool) → Leaves (p.at_width pattern b)
  unfolding p.at_width
  at_width_leaves b = when_leaves _ multi_leaves single_leaves

pub pattern_leaves : (b : Bool) → Leaves (p.pattern b)
unfolding p.pattern
pattern_leaves b = fix_leaves {step = p.at_width} (λ f r c. at_width_leaves r c) b

pub closure_arg_leaves : Leaves p.closure_arg
unfolding p.closure_arg
closure_arg_leaves = search (outer_attributes_leaves, pattern_leaves, type_leaves, leaving) depth 12

-- ---- jumps, ranges, blocks

pub label_leaves : Leaves h.label
label_leaves = search leaving depth 12

pub jump_head_leaves : Leaves h.jump_head
unfolding h.jump_head
jump_head_leaves = search (case_leaves, leaving) depth 12

pub range_op_leaves : Leaves h.range_op
unfolding h.range_op
range_op_leaves = search (case_leaves, leaving) depth 12

none_left : (l : List Tok) → IsTail [] l
none_left [] = nothing_taken []
none_left (x ∷ l) = tail_then (one_taken x l) (none_left l)

pub all_left_leaves : Leaves h.all_left
unfolding h.all_left
all_left_leaves = leaf_leaves same_toks (record { leaves = λ l x n g. by [] n l (ap (λ z. z.1) (some_is g)) (none_left l) })

pub body_inside_leaves : Leaves h.body_inside
unfolding h.body_inside
body_inside_leaves = search (inner_attributes_leaves, all_left_leaves, leaving) depth 12

pub body_leaves : Leaves h.body
unfolding h.body
body_leaves = search leaving depth 12

-- ---- leaves, what comes before an operand, and after a dot

found_builtin : Found h.find_builtin
found_builtin = record { leaves = leaves }
  where
    four_taken : (a b c d : Tok) (l : List Tok) → IsTail l (a ∷ b ∷ c ∷ d ∷ l)
    four_taken a b c d l = tail_then (one_taken a (b ∷ c ∷ d ∷ l)) (tail_then (one_taken b (c ∷ d ∷ l)) (tail_then (one_taken c (d ∷ l)) (one_taken d l)))

    leaves : (l x n : List Tok) → h.find_builtin l ≡ Some (x, n) → IsTail n l
    leaves (ident b ∷ punct c q ∷ ident w ∷ group del.Parenthesis i ∷ l) x n g =
        by l n (ident b ∷ punct c q ∷ ident w ∷ group del.Parenthesis i ∷ l) (verbatim_some (bytes_eq b (codes "builtin") && (c == 35 && not (is_reserved_word w))) (ident b ∷ punct c q ∷ ident w ∷ group del.Parenthesis i ∷ []) l x n g) (four_taken (ident b) (punct c q) (ident w) (group del.Parenthesis i) l)
    leaves _ x n g = absurd cc

pub builtin_leaves : Leaves h.builtin
unfolding h.builtin
builtin_leaves = leaf_leaves same_toks found_builtin

pub named_leaves : Leaves h.named
unfolding h.named
named_leaves = shown_leaves _ _ (then_by_leaves (expr_path_leaves false) (λ q. macro_end_leaves q))

pub leaf_form_leaves : Leaves h.leaf_form
unfolding h.leaf_form
leaf_form_leaves = search (label_leaves, jump_head_leaves, range_op_leaves, body_leaves, builtin_leaves, named_leaves, block_leaves, case_leaves, leaving) depth 40

capture_leaves : Leaves (then_by (flag h.move_word) h.use_behind)
capture_leaves = then_by_leaves (flag_leaves h.move_word) use_leaves
  where
    use_leaves : (b : Bool) → Leaves (h.use_behind b)
    use_leaves true = pure_leaves _ _
    use_leaves false = flag_leaves h.use_word

closure_inputs_leaves : Leaves h.closure_inputs
unfolding h.closure_inputs
closure_inputs_leaves = search (closure_arg_leaves, leaving) depth 16

closure_lifetimes_leaves : Leaves (maybe lifetimes_at lifetimes)
closure_lifetimes_leaves = search (lifetimes_leaves, leaving) depth 8

pub closure_head_leaves : Leaves h.closure_head
unfolding h.closure_head
closure_head_leaves =
    shown_leaves h.to_head h.from_head (both_leaves closure_lifetimes_leaves (both_leaves (flag_leaves constant)
    (both_leaves (flag_leaves h.static_word) (both_leaves (flag_leaves h.async_word) (both_leaves capture_leaves (both_leaves closure_inputs_leaves
    (output_leaves type_leaves true)))))))

pub prefix_form_leaves : Leaves h.prefix_form
unfolding h.prefix_form
prefix_form_leaves = search (jump_head_leaves, range_op_leaves, mutability_leaves, pattern_leaves, closure_head_leaves, case_leaves, leaving) depth 40

pub dotted_leaves : Leaves h.dotted
unfolding h.dotted
dotted_leaves = search (member_leaves, arguments_leaves, case_leaves, leaving) depth 16

pub for_head_leaves : Leaves s.for_head
for_head_leaves = search (pattern_leaves, leaving) depth 12

-- ---- what comes before an operand in a place of its own

field_colon_leaves : (m : MemberTree) → Leaves (s.field_colon m)
field_colon_leaves (a_name w) = flag_leaves colon
field_colon_leaves (an_index n) = mark_leaves colon (pure_leaves _ _)

pub piece_form_leaves : (q : Slot) → Leaves (s.piece_form q)
unfolding s.piece_form
piece_form_leaves s.fields = case_leaves p.dots (pure_leaves _ _) (shown_leaves _ _ (both_leaves outer_attributes_leaves (then_by_leaves member_leaves field_colon_leaves)))
piece_form_leaves s.otherwise = mark_leaves s.else_word (pure_leaves _ _)
piece_form_leaves s.arms = search (outer_attributes_leaves, pattern_leaves, case_leaves, leaving) depth 16
piece_form_leaves s.bodies = mark_leaves s.fat_arrow (pure_leaves _ _)
piece_form_leaves s.done = never_leaves
piece_form_leaves _ = pure_leaves _ _

-- Own tokens are read back, before whatever does not go on with them: all together.
use Rattle.std.proofs.Common.{◌≡◌, ℕ, true, false, List, [], ◌∷◌, drop, Option, Some}
use Rattle.syn_lexer.specs.declared.front.Delimiter.{Delimiter}
use Rattle.syn_lexer.specs.declared.front.Delimiter.TheVariants as del
use Rattle.syn_tokens.specs.Tok.{Tok}
use Rattle.syn_tokens.specs.Front.{group_at}
use Rattle.syn_lower_spec.specs.Text.{Text}
use Rattle.syn_lower_spec.specs.Tree.{AttributeTree}
use Rattle.syn_lower_spec.specs.Own.{enclosed}
use Rattle.syn_lower_spec.specs.Part.{pound_bang, inner_attributes}
use Rattle.syn_lower_spec.specs.Fits.{output_stops}
use Rattle.syn_lower_spec.specs.Pat.{an_index}
use Rattle.syn_lower_spec.specs.PatOwn.{attributes_own}
use Rattle.syn_expr_spec.specs.declared.kinds.Limits.{Limits}
use Rattle.syn_expr_spec.specs.declared.kinds.Infix.{Infix}
use Rattle.syn_expr_spec.specs.Op.{limits_text, infix_at}
use Rattle.syn_expr_spec.specs.Head.{label, jump_head, range_op, body_inside, body, closure_head, leaf_form, prefix_form}
use Rattle.syn_expr_spec.specs.Slot.{Slot, piece_form, ending_at, frame_head}
use Rattle.syn_expr_spec.specs.Stands.{trailer_head, fields_head, postfix_behind}
use Rattle.syn_expr_spec.specs.Tree as e
use Rattle.syn_expr_spec.specs.Tree.{Body, Jump, Leaf, Prefix, ClosureHead, Trailer, Tree, Children, Frame, Postfix, Piece, Ending, inners, sign_before, label_own, body_own, jump_own, leaf_own, prefix_own, closure_own, piece_own, ending_own, trailer_own, framed, enclosure, infix_own}
use Rattle.syn_expr_spec.specs.WellFormed.{attributes_inner, body_fits, head_fits, leaf_fits, prefix_fits, piece_fits, ending_fits, trailer_fits, frame_fits, postfix_fits}
use Rattle.syn_expr_spec.proofs.HeadBack.{label_stops, jump_stops, prefix_stops, inner_attributes_back, body_inside_back, body_back, label_back, jump_back, range_back, head_back, prefix_back}
use Rattle.syn_expr_spec.proofs.HeadForms.{leaf_stops, leaf_back}
use Rattle.syn_expr_spec.proofs.HeadPlaces.{piece_stops, is_written, ending_stops, is_scrutinee, piece_back, ending_back, opened_back, group_back}
use Rattle.syn_expr_spec.proofs.HeadTrailers.{trailer_stops, trailer_rest, is_indexed, trailer_back, indexed_back}
use Rattle.syn_expr_spec.proofs.HeadFrames.{frame_stops, frame_rest, postfix_rest, postfix_ends, infix_count, frame_back, postfix_back, infix_back}

pub record HeadsAreReadBack : Type 0 where
  pub inner : (xs : List AttributeTree) (r : List Tok) → attributes_inner xs ≡ true → pound_bang.at r ≡ false → inner_attributes.behind xs (attributes_own (inners xs) r) ≡ Some r
  pub labels : (w : Option Text) (r : List Tok) → label_stops w r ≡ true → label.behind w (label_own w r) ≡ Some r
  pub jumps : (j : Jump) (r : List Tok) → jump_stops j r ≡ true → jump_head.behind j (jump_own j r) ≡ Some r
  pub ranges : (op : Limits) (r : List Tok) → range_op.behind op (sign_before (limits_text op) r) ≡ Some r
  pub bodies_inside : (b : Body) → body_fits b ≡ true → body_inside.behind b (attributes_own (inners b.inner) b.tokens) ≡ Some []
  pub bodies : (b : Body) (r : List Tok) → body_fits b ≡ true → body.behind b (body_own b r) ≡ Some r
  pub closure_heads : (c : ClosureHead) (r : List Tok) → head_fits c ≡ true → output_stops true c.output r ≡ true → closure_head.behind c (closure_own c r) ≡ Some r
  pub leaves : (k : Leaf) (r : List Tok) → leaf_fits k ≡ true → leaf_stops k r ≡ true → leaf_form.behind k (leaf_own k r) ≡ Some r
  pub prefixes : (k : Prefix) (r : List Tok) → prefix_fits k ≡ true → prefix_stops k r ≡ true → prefix_form.behind k (prefix_own k r) ≡ Some r
  -- `..` after the fields is written where the piece says so
  pub pieces : (s : Slot) (k : Piece) (c : Ending) (x : Tree) (r : List Tok) → piece_fits s k c x ≡ true → is_written k ≡ true → piece_stops k r ≡ true → (piece_form s).behind k (piece_own k r) ≡ Some r
  -- l is what is after the ending, or inside of its brace; r is after that brace
  pub endings : (k : Piece) (c : Ending) (x : Tree) (l r : List Tok) → ending_fits k c ≡ true → is_scrutinee k ≡ false → ending_stops k x c l ≡ true → ending_at k x (ending_own k c l r) ≡ Some (c, l)
  pub opened : (ats : List AttributeTree) (l r : List Tok) → group_at del.Brace (ending_own e.scrutinee (e.opened ats) l r) ≡ Some (attributes_own (inners ats) l, r)
  pub groups : (d : Delimiter) (ts r : List Tok) → group_at d (enclosed d ts r) ≡ Some (ts, r)
  -- i is what the trailer encloses
  pub trailers : (k : Trailer) (i r : List Tok) → trailer_fits k ≡ true → is_indexed k ≡ false → trailer_stops k r ≡ true → trailer_head k (trailer_own k i r) ≡ Some ([], trailer_rest k i r)
  pub indices : (n : ℕ) (i r : List Tok) → trailer_fits (e.field (an_index n)) ≡ true → fields_head (trailer_own (e.field (an_index n)) i r) ≡ Some (n ∷ [], r)
  -- l are the operands
  pub frames : (k : Frame) (ks : Children) (l r : List Tok) → frame_fits k ks ≡ true → frame_stops k l ≡ true → frame_head k (framed k (enclosure k) l r) ≡ Some (frame_rest (enclosure k) l r)
  pub postfixes : (k : Postfix) (r : List Tok) → postfix_fits k ≡ true → postfix_ends k r ≡ true → postfix_behind k (postfix_rest k r) ≡ Some r
  pub operators : (op : Infix) (r : List Tok) → (infix_at (infix_own op r) ≡ Some (op, infix_count op)) × (drop (infix_count op) (infix_own op r) ≡ r)

pub heads_back : HeadsAreReadBack
heads_back = record {
  inner = inner_attributes_back;
  labels = label_back;
  jumps = jump_back;
  ranges = range_back;
  bodies_inside = body_inside_back;
  bodies = body_back;
  closure_heads = head_back;
  leaves = leaf_back;
  prefixes = prefix_back;
  pieces = piece_back;
  endings = ending_back;
  opened = opened_back;
  groups = group_back;
  trailers = trailer_back;
  indices = indexed_back;
  frames = frame_back;
  postfixes = postfix_back;
  operators = infix_back;
}

-- The binding rules, said along a printed tree: of what follows a node, only its class is seen.
use Rattle.std.proofs.Common.{◌≡◌, Bool, true, false, not, ◌&&◌, ◌||◌}
use Rattle.syn_expr_spec.specs.declared.kinds.Infix.{Infix}
use Rattle.syn_expr_spec.specs.declared.kinds.Precedence.{Precedence}
use Rattle.syn_expr_spec.specs.declared.kinds.Precedence.TheVariants as lev
use Rattle.syn_expr_spec.specs.declared.next.Next.{Next}
use Rattle.syn_expr_spec.specs.declared.next.Next.TheVariants as next
use Rattle.syn_expr_spec.specs.declared.next.Context.{Context}
use Rattle.syn_expr_spec.specs.Place.{takes}
use Rattle.syn_expr_spec.specs.Op.{level, is_comparison}
use Rattle.syn_expr_spec.specs.Next.{takes_next, trails, enclosed, left_context, base_context, right_context, attributed_context, prefix_context, prefix_level, piece_context}
use Rattle.syn_expr_spec.specs.Stands.{is_range, is_cast, carries, compares, is_base}
use Rattle.syn_expr_spec.specs.Tree.{Tree, Children, leaf, paren, attributed, prefixed, infixed, postfixed, tail, frame, none, child, postfix_op, is_silent}
use Rattle.syn_expr_spec.specs.Rule.{is_operation, leaf_refuses, postfix_refuses, leaf_misplaced, prefix_misplaced, frame_misplaced, is_bare_break, leaf_labelled, frame_labelled}

-- what a place asks of its occupant, with a token of this class after it
pub record Fits (v : Precedence) (t : Tree) (n : Next) : Type 0 where
  pub no_operator : takes_next v n && not (is_range t) ≡ false
  pub no_trailer : trails n && (carries t || is_cast t) ≡ false

-- what an operator asks of its left operand
pub record FitsLeft (k : Infix) (t : Tree) : Type 0 where
  pub no_range : is_range t ≡ false
  pub no_chain : compares t && is_comparison k ≡ false

-- the first token is that of a label
abbrev pub begins_label : Tree → Bool
begins_label (leaf k) = leaf_labelled k
begins_label (infixed x k y) = begins_label x
begins_label (postfixed x k) = begins_label x
begins_label (tail b k ks) = begins_label b
begins_label (frame k ks) = frame_labelled k
begins_label _ = false

abbrev mutual
  -- A node and all below it at a place. What the place itself asks of its occupant stands apart.
  pub Obeys : Precedence → Context → Tree → Type 0
  Obeys v c (leaf k) = leaf_refuses k c.next || leaf_misplaced c k ≡ false
  Obeys v c (paren m t) = Obeys lev.Jump enclosed t × Fits lev.Jump t next.End
  Obeys v c (attributed a more t) = (is_operation t ≡ false) × Obeys v (attributed_context c) t
  Obeys v c (prefixed k gs t) =
      (prefix_misplaced c k ≡ false) × Obeys (prefix_level k) (prefix_context k c) t × Fits (prefix_level k) t (prefix_context k c).next
      × (is_bare_break k && begins_label t ≡ false)
  Obeys v c (infixed x k y) =
      (takes v (level k) ≡ true) × Obeys v (left_context k c) x × FitsLeft k x
      × Obeys (level k) (right_context k c) y × Fits (level k) y c.next
  Obeys v c (postfixed x k) =
      (takes v (level (postfix_op k)) ≡ true) × Obeys v (left_context (postfix_op k) c) x × FitsLeft (postfix_op k) x × (postfix_refuses k c.next ≡ false)
  Obeys v c (tail b k ks) = (is_base k b ≡ true) × Obeys v (base_context k c) b × ObeysChildren ks
  Obeys v c (frame k ks) = (frame_misplaced c k ≡ false) × ObeysChildren ks

  pub ObeysChildren : Children → Type 0
  ObeysChildren none = Unit {0}
  ObeysChildren (child k c t ks) = (is_silent k ≡ false → Obeys lev.Jump (piece_context k) t) × ObeysChildren ks

-- Marks play no part in the binding rules.
use Rattle.std.proofs.Common.{◌≡◌, not, ◌&&◌, ◌||◌, refl, sym, ◌∙◌, ap}
use Rattle.syn_expr_spec.specs.declared.kinds.Infix.{Infix}
use Rattle.syn_expr_spec.specs.declared.kinds.Precedence.{Precedence}
use Rattle.syn_expr_spec.specs.declared.kinds.Precedence.TheVariants as lev
use Rattle.syn_expr_spec.specs.declared.next.Next.{Next}
use Rattle.syn_expr_spec.specs.declared.next.Next.TheVariants as next
use Rattle.syn_expr_spec.specs.declared.next.Context.{Context}
use Rattle.syn_expr_spec.specs.Op.{level, is_comparison}
use Rattle.syn_expr_spec.specs.Next.{takes_next, enclosed, left_context, base_context, right_context, attributed_context, prefix_context, prefix_level, piece_context}
use Rattle.syn_expr_spec.specs.Stands.{is_infix}
use Rattle.syn_expr_spec.specs.Tree.{Tree, Children, leaf, paren, attributed, prefixed, infixed, postfixed, tail, frame, none, child, postfix_op, clear, clear_children}
use Rattle.syn_expr_spec.specs.Rule.{is_operation, prints_range, is_bare_break}
use Rattle.syn_expr_spec.proofs.Obeys.{Fits, FitsLeft, begins_label, Obeys, ObeysChildren}
use Rattle.syn_expr_spec.proofs.Places.{range_clear, infix_clear, compares_clear, carries_clear, cast_clear, base_clear}

prints_clear : (t : Tree) → prints_range (clear t) ≡ prints_range t
prints_clear (leaf k) = refl
prints_clear _ = refl

pub operation_clear : (t : Tree) → is_operation (clear t) ≡ is_operation t
operation_clear t = ap (λ b. b || prints_range (clear t)) (infix_clear t) ∙ ap (λ b. is_infix t || b) (prints_clear t)

label_clear : (t : Tree) → begins_label (clear t) ≡ begins_label t
label_clear (leaf k) = refl
label_clear (infixed x k y) = label_clear x
label_clear (postfixed x k) = label_clear x
label_clear (tail b k ks) = label_clear b
label_clear _ = refl

fits_unclear : (v : Precedence) (t : Tree) (n : Next) → Fits v (clear t) n → Fits v t n
fits_unclear v t n f = record {
  no_operator = ap (λ b. takes_next v n && not b) (sym (range_clear t)) ∙ f.no_operator;
  no_trailer = rw (← carries_clear t, ← cast_clear t) f.no_trailer;
}

left_unclear : (k : Infix) (t : Tree) → FitsLeft k (clear t) → FitsLeft k t
left_unclear k t f = record {
  no_range = sym (range_clear t) ∙ f.no_range;
  no_chain = ap (λ b. b && is_comparison k) (sym (compares_clear t)) ∙ f.no_chain;
}

mutual
  pub unclear : (t : Tree) (v : Precedence) (c : Context) → Obeys v c (clear t) → Obeys v c t
  unclear (leaf k) v c i = i
  unclear (paren m t) v c i = (unclear t lev.Jump enclosed i.0, fits_unclear lev.Jump t next.End i.1)
  unclear (attributed a more t) v c i = (sym (operation_clear t) ∙ i.0, unclear t v (attributed_context c) i.1)
  unclear (prefixed k gs t) v c i = (
    i.0,
    unclear t (prefix_level k) (prefix_context k c) i.1,
    fits_unclear (prefix_level k) t (prefix_context k c).next i.2,
    ap (λ b. is_bare_break k && b) (sym (label_clear t)) ∙ i.3,
  )
  unclear (infixed x k y) v c i = (
    i.0,
    unclear x v (left_context k c) i.1,
    left_unclear k x i.2,
    unclear y (level k) (right_context k c) i.3,
    fits_unclear (level k) y c.next i.4,
  )
  unclear (postfixed x k) v c i = (i.0, unclear x v (left_context (postfix_op k) c) i.1, left_unclear (postfix_op k) x i.2, i.3)
  unclear (tail b k ks) v c i = (sym (base_clear k b) ∙ i.0, unclear b v (base_context k c) i.1, unclear_children ks i.2)
  unclear (frame k ks) v c i = (i.0, unclear_children ks i.1)

  pub unclear_children : (ks : Children) → ObeysChildren (clear_children ks) → ObeysChildren ks
  unclear_children none i = tt
  unclear_children (child k c t ks) i = (λ e. unclear t lev.Jump (piece_context k) (i.0 e), unclear_children ks i.1)

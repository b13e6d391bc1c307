-- Marks play no part in what is printed.
use Rattle.std.proofs.Common.{◌≡◌, Bool, true, false, not, ◌&&◌, List, [], refl, sym, ◌∙◌, ap}
use Rattle.std.specs.Prelude.{if◌then◌else◌}
use Rattle.syn_tokens.specs.Tok.{Tok}
use Rattle.syn_expr_spec.specs.declared.kinds.Infix.{Infix}
use Rattle.syn_expr_spec.specs.declared.kinds.Precedence.{Precedence}
use Rattle.syn_expr_spec.specs.declared.kinds.Precedence.TheVariants as lev
use Rattle.syn_expr_spec.specs.declared.next.Context.{Context}
use Rattle.syn_expr_spec.specs.declared.summary.Summary.{Summary}
use Rattle.syn_expr_spec.specs.declared.summary.Sort.TheVariants as sort
use Rattle.syn_expr_spec.specs.Next.{enclosed, in_statement, left_context, base_context, right_context, attributed_context, prefix_context, piece_context}
use Rattle.syn_expr_spec.specs.Summaries.{summary_of, attributed_summary, prefix_summary, infix_summary, postfix_summary, closed_summary, base_wrapped_by, is_named_trailer, place_by, left_by, base_by, prefix_by}
use Rattle.syn_expr_spec.specs.Op.{level}
use Rattle.syn_expr_spec.specs.Rule.{is_operation, put, piece_put, bare, bare_children, place_asks, left_asks, base_asks, prefix_asks, is_chainable, is_plain_block, chained_bare}
use Rattle.syn_expr_spec.specs.Tree as e
use Rattle.syn_expr_spec.specs.Tree.{Tree, Children, Prefix, Trailer, Piece, leaf, paren, attributed, prefixed, infixed, postfixed, tail, frame, none, child, own, own_tokens, clear, clear_children, plain_block, postfix_op}
use Rattle.syn_expr_spec.proofs.SummaryLemmas.{summaries_are_right}
use Rattle.syn_expr_spec.proofs.Unclear.{operation_clear}
use Rattle.syn_expr_spec.proofs.Parenthesized.{same_infix, same_tail, same_child}
use Rattle.syn_text_spec.proofs.Twice.{own_clear}

-- ---- nodes of equal parts

same_prefix : (k : Prefix) (gs gs' : Children) (t t' : Tree) → gs ≡ gs' → t ≡ t' → prefixed k gs t ≡ prefixed k gs' t'
same_prefix k gs gs' t t' p q = cc

-- ---- trees

mutual
  pub clear_twice : (t : Tree) → clear (clear t) ≡ clear t
  clear_twice (leaf k) = refl
  clear_twice (paren m t) = ap (paren false) (clear_twice t)
  clear_twice (attributed a more t) = ap (attributed a more) (clear_twice t)
  clear_twice (prefixed k gs t) = same_prefix k _ _ _ _ (clear_twice_children gs) (clear_twice t)
  clear_twice (infixed x k y) = same_infix _ _ _ _ k (clear_twice x) (clear_twice y)
  clear_twice (postfixed x k) = ap (λ (z : Tree). postfixed z k) (clear_twice x)
  clear_twice (tail b k ks) = same_tail _ _ _ _ k (clear_twice b) (clear_twice_children ks)
  clear_twice (frame k ks) = ap (frame k) (clear_twice_children ks)

  clear_twice_children : (ks : Children) → clear_children (clear_children ks) ≡ clear_children ks
  clear_twice_children none = refl
  clear_twice_children (child k c t ks) = same_child _ _ _ _ k c (clear_twice t) (clear_twice_children ks)

-- ---- what is summarized, and what is decided by it

summary_clear : (t : Tree) → summary_of (clear t) ≡ summary_of t
summary_clear (leaf k) = refl
summary_clear (paren m t) = refl
summary_clear (attributed a more t) = ap attributed_summary (summary_clear t)
summary_clear (prefixed k gs t) = ap (prefix_summary k) (summary_clear t)
summary_clear (infixed x k y) = ap (λ (n : Summary). infix_summary k n (summary_of (clear y))) (summary_clear x) ∙ ap (infix_summary k (summary_of x)) (summary_clear y)
summary_clear (postfixed x k) = ap (postfix_summary k) (summary_clear x)
summary_clear (tail b k ks) = ap (λ (n : Summary). closed_summary (is_named_trailer k) (not (base_wrapped_by k n) && n.labelled) sort.Other) (summary_clear b)
summary_clear (frame k ks) = refl

place_clear : (v : Precedence) (c : Context) (t : Tree) → place_asks v c (clear t) ≡ place_asks v c t
place_clear v c t = sym (summaries_are_right.at_place v c (clear t)) ∙ ap (place_by v c) (summary_clear t) ∙ summaries_are_right.at_place v c t

left_clear : (k : Infix) (c : Context) (t : Tree) → left_asks k (left_context k c) (clear t) ≡ left_asks k (left_context k c) t
left_clear k c t = sym (summaries_are_right.at_left k c (clear t)) ∙ ap (left_by k (left_context k c)) (summary_clear t) ∙ summaries_are_right.at_left k c t

base_clear : (k : Trailer) (c : Context) (t : Tree) → base_asks k (base_context k c) (clear t) ≡ base_asks k (base_context k c) t
base_clear k c t = sym (summaries_are_right.at_base k c (clear t)) ∙ ap (base_by k (base_context k c)) (summary_clear t) ∙ summaries_are_right.at_base k c t

prefix_clear : (k : Prefix) (c : Context) (t : Tree) → prefix_asks k c (clear t) ≡ prefix_asks k c t
prefix_clear k c t = sym (summaries_are_right.at_prefix k c (clear t)) ∙ ap (prefix_by k c) (summary_clear t) ∙ summaries_are_right.at_prefix k c t

chainable_clear : (t : Tree) → is_chainable (clear t) ≡ is_chainable t
chainable_clear (leaf k) = refl
chainable_clear (paren m t) = refl
chainable_clear (attributed a more t) = chainable_clear t
chainable_clear (prefixed k gs t) = refl
chainable_clear (infixed x k y) = refl
chainable_clear (postfixed x k) = refl
chainable_clear (tail b k ks) = refl
chainable_clear (frame k ks) = refl

block_clear : (t : Tree) → is_plain_block (clear t) ≡ is_plain_block t
block_clear (leaf k) = refl
block_clear (paren m t) = refl
block_clear (attributed a more t) = refl
block_clear (prefixed k gs t) = refl
block_clear (infixed x k y) = refl
block_clear (postfixed x k) = refl
block_clear (tail b k ks) = refl
block_clear (frame k ks) = refl

-- ---- the printed tree

chained_clear : (t : Tree) → clear (chained_bare t) ≡ chained_bare (clear t)
chained_clear (leaf k) = refl
chained_clear (paren m t) = refl
chained_clear (attributed a more (leaf k)) = refl
chained_clear (attributed a more (paren m t)) = refl
chained_clear (attributed a more (attributed b others t)) = refl
chained_clear (attributed a more (prefixed k gs t)) = refl
chained_clear (attributed a more (infixed x k y)) = refl
chained_clear (attributed a more (postfixed x k)) = refl
chained_clear (attributed a more (tail b k ks)) = refl
chained_clear (attributed a more (frame k ks)) = refl
chained_clear (prefixed k gs t) = refl
chained_clear (infixed x k y) = refl
chained_clear (postfixed x k) = refl
chained_clear (tail b k ks) = refl
chained_clear (frame k ks) = refl

-- trees that are the same but for marks
abbrev Alike : Tree → Tree → Type 0
Alike x y = clear x ≡ clear y

put_alike : (w w' : Bool) (a a' b b' : Tree) → w ≡ w' → Alike a a' → Alike b b' → Alike (put w a b) (put w' a' b')
put_alike true true a a' b b' e p q = ap (paren false) p
put_alike false false a a' b b' e p q = q
put_alike true false a a' b b' e p q = absurd cc
put_alike false true a a' b b' e p q = absurd cc

chained_alike : (x y : Tree) → Alike x y → Alike (chained_bare x) (chained_bare y)
chained_alike x y p = chained_clear x ∙ ap chained_bare p ∙ sym (chained_clear y)

own_alike : (x y : Tree) → Alike x y → own_tokens x ≡ own_tokens y
own_alike x y p = sym (own_clear x []) ∙ ap (λ (z : Tree). own z []) p ∙ own_clear y []

block_alike : (x y : Tree) → Alike x y → Alike (plain_block (own_tokens x)) (plain_block (own_tokens y))
block_alike x y p = ap (λ (l : List Tok). clear (plain_block l)) (own_alike x y p)

choice_alike : (w w' : Bool) (x x' y y' : Tree) → w ≡ w' → Alike x x' → Alike y y' → Alike (if w then x else y) (if w' then x' else y')
choice_alike true true x x' y y' e p q = p
choice_alike false false x x' y y' e p q = q
choice_alike true false x x' y y' e p q = absurd cc
choice_alike false true x x' y y' e p q = absurd cc

-- an operand as its piece puts it
abbrev Pieces : Piece → Tree → Tree → Tree → Tree → Tree → Tree → Tree → Tree → Bool → Bool → Type 0
Pieces k t t' a a' b b' s s' w w' = Alike (piece_put k t a b s w) (piece_put k t' a' b' s' w')

piece_alike : (k : Piece) (t a a' b b' s s' : Tree) (w w' : Bool) → Alike a a' → Alike b b' → Alike s s' → w ≡ w'
    → Pieces k (clear t) t a a' b b' s s' w w'
piece_alike e.element t a a' b b' s s' w w' p q r e = put_alike w w' a a' b b' e p q
piece_alike e.value t a a' b b' s s' w w' p q r e = put_alike w w' a a' b b' e p q
piece_alike e.repeated t a a' b b' s s' w w' p q r e = put_alike w w' a a' b b' e p q
piece_alike (e.field_value ats m true) t a a' b b' s s' w w' p q r e = put_alike w w' a a' b b' e p q
piece_alike (e.field_value ats m false) t a a' b b' s s' w w' p q r e = clear_twice t
piece_alike (e.rest d) t a a' b b' s s' w w' p q r e = put_alike w w' a a' b b' e p q
piece_alike e.condition t a a' b b' s s' w w' p q r e = put_alike w w' a a' b b' e p q
piece_alike e.loop_head t a a' b b' s s' w w' p q r e = put_alike w w' a a' b b' e p q
piece_alike e.scrutinee t a a' b b' s s' w w' p q r e = put_alike w w' a a' b b' e p q
piece_alike e.chained t a a' b b' s s' w w' p q r e =
    choice_alike (is_chainable (clear t)) (is_chainable t) (chained_bare b) (chained_bare b') (plain_block (own_tokens s)) (plain_block (own_tokens s'))
    (chainable_clear t) (chained_alike b b' q) (block_alike s s' r)
piece_alike (e.guard ats x) t a a' b b' s s' w w' p q r e = put_alike w w' a a' b b' e p q
piece_alike e.guarded t a a' b b' s s' w w' p q r e = put_alike w w' a a' b b' e p q
piece_alike (e.arm ats x) t a a' b b' s s' w w' p q r e = put_alike w w' a a' b b' e p q
piece_alike e.output_block t a a' b b' s s' w w' p q r e =
    choice_alike (is_plain_block (clear t)) (is_plain_block t) b b' (plain_block (own_tokens s)) (plain_block (own_tokens s')) (block_clear t) q (block_alike s s' r)
piece_alike e.grouped t a a' b b' s s' w w' p q r e = put_alike w w' a a' b b' e p q
piece_alike e.stray t a a' b b' s s' w w' p q r e = clear_twice t

mutual
  bare_clear : (t : Tree) (c : Context) → Alike (bare c (clear t)) (bare c t)
  bare_clear (leaf k) c = refl
  bare_clear (paren m t) c = ap (paren false) (bare_clear t enclosed)
  bare_clear (attributed a more t) c =
      ap (attributed a more) (put_alike (is_operation (clear t)) (is_operation t) _ _ _ _ (operation_clear t) (bare_clear t enclosed) (bare_clear t (attributed_context c)))
  bare_clear (prefixed k gs t) c =
      let d = prefix_context k c in
      same_prefix k _ _ _ _ (clear_twice_children gs) (put_alike (prefix_asks k d (clear t)) (prefix_asks k d t) _ _ _ _ (prefix_clear k d t) (bare_clear t enclosed) (bare_clear t d))
  bare_clear (infixed x k y) c =
      let d = left_context k c in
      let f = right_context k c in
      same_infix _ _ _ _ k (put_alike (left_asks k d (clear x)) (left_asks k d x) _ _ _ _ (left_clear k c x) (bare_clear x enclosed) (bare_clear x d))
      (put_alike (place_asks (level k) f (clear y)) (place_asks (level k) f y) _ _ _ _ (place_clear (level k) f y) (bare_clear y enclosed) (bare_clear y f))
  bare_clear (postfixed x k) c =
      let d = left_context (postfix_op k) c in
      ap (λ (z : Tree). postfixed z k)
      (put_alike (left_asks (postfix_op k) d (clear x)) (left_asks (postfix_op k) d x) _ _ _ _ (left_clear (postfix_op k) c x) (bare_clear x enclosed) (bare_clear x d))
  bare_clear (tail b k ks) c =
      let d = base_context k c in
      same_tail _ _ _ _ k (put_alike (base_asks k d (clear b)) (base_asks k d b) _ _ _ _ (base_clear k c b) (bare_clear b enclosed) (bare_clear b d)) (children_clear ks)
  bare_clear (frame k ks) c = ap (frame k) (children_clear ks)

  children_clear : (ks : Children) → clear_children (bare_children (clear_children ks)) ≡ clear_children (bare_children ks)
  children_clear none = refl
  children_clear (child k c t ks) =
      same_child _ _ _ _ k c
      (piece_alike k t (bare enclosed (clear t)) (bare enclosed t) (bare (piece_context k) (clear t)) (bare (piece_context k) t)
      (put (place_asks lev.Jump in_statement (clear t)) (bare enclosed (clear t)) (bare in_statement (clear t)))
      (put (place_asks lev.Jump in_statement t) (bare enclosed t) (bare in_statement t))
      (place_asks lev.Jump (piece_context k) (clear t)) (place_asks lev.Jump (piece_context k) t)
      (bare_clear t enclosed) (bare_clear t (piece_context k))
      (put_alike (place_asks lev.Jump in_statement (clear t)) (place_asks lev.Jump in_statement t) _ _ _ _ (place_clear lev.Jump in_statement t) (bare_clear t enclosed) (bare_clear t in_statement))
      (place_clear lev.Jump (piece_context k) t))
      (children_clear ks)

-- the whole, where it is printed in a context
pub put_clear : (c : Context) (t : Tree)
    → clear (put (place_asks lev.Jump c (clear t)) (bare enclosed (clear t)) (bare c (clear t))) ≡ clear (put (place_asks lev.Jump c t) (bare enclosed t) (bare c t))
put_clear c t = put_alike (place_asks lev.Jump c (clear t)) (place_asks lev.Jump c t) _ _ _ _ (place_clear lev.Jump c t) (bare_clear t enclosed) (bare_clear t c)

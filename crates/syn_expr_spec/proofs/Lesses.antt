-- What is left after an expression is a tail of the list, and weighs less.
use Rattle.std.proofs.Common.{◌≡◌, ℕ, ◌<◌, Bool, true, false, cond, List, [], ◌∷◌, drop, Option, Some, None, refl, sym, subst, arith}
use Rattle.syn_lexer.specs.declared.front.Delimiter.{Delimiter}
use Rattle.syn_lexer.specs.declared.front.Delimiter.TheVariants as del
use Rattle.syn_tokens.specs.Tok.{Tok, group, weight}
use Rattle.syn_tokens.specs.Input.{IsTail}
use Rattle.syn_lower_spec.specs.Text.{Text}
use Rattle.syn_lower_spec.specs.Mark.{sign_at, word_at}
use Rattle.syn_lower_spec.specs.Pat.{a_name}
use Rattle.syn_lower_spec.proofs.Tails.{nothing_taken, tail_then, one_taken}
use Rattle.syn_lower_spec.proofs.Weights.{some_is, one_at_least, drop_smaller}
use Rattle.syn_expr_spec.specs.declared.kinds.Place.{Place}
use Rattle.syn_expr_spec.specs.declared.kinds.Infix.{Infix}
use Rattle.syn_expr_spec.specs.declared.kinds.Infix.TheVariants as inf
use Rattle.syn_expr_spec.specs.Op.{infix_at, longest, counted, entries, Entry}
use Rattle.syn_expr_spec.specs.Tree as tr
use Rattle.syn_expr_spec.specs.Tree.{Tree, Children, Frame, Piece}
use Rattle.syn_expr_spec.specs.Slot as s
use Rattle.syn_expr_spec.specs.Slot.{Slot, Holder, frame_head, frame_holder, piece_form}
use Rattle.syn_expr_spec.specs.Stands.{Node, is_leaf, is_become, is_attributed_verbatim, is_paren, is_attributed_by, is_prefixed, is_infixed, is_postfixed, is_tail, is_indexed, is_frame, Content, holds_none, holds_within, holds_bare, Operands, no_more, one_more, short, block, arms_inside, short_value}
use Rattle.syn_expr_spec.proofs.Heads.{HeadsAreReadable, heads_readable}
use Rattle.syn_expr_spec.proofs.HeadMoves.{IsLess, less_then, then_less, dropped, grouped, left, left_less, fields_less, trailer_left, frame_less, postfix_left, ending_left}
use Rattle.syn_expr_spec.proofs.SoundAtoms.{no_some}

pub here : HeadsAreReadable
here = heads_readable

pub one_less : (x : Tok) (l : List Tok) → IsLess l (x ∷ l)
unfolding weight
one_less x l = record { tail = one_taken x l; less = omega (arith, one_at_least x) }

-- ---- operators

abbrev has_texts : List Entry → Bool
has_texts [] = true
has_texts (([], o) ∷ more) = false
has_texts ((b ∷ text, o) ∷ more) = has_texts more

counted_some : (b : ℕ) (text : Text) (o : Option Infix) (p : Infix × ℕ) → counted (b ∷ text) o ≡ Some p → 0 < p.1
counted_some b text None p h = absurd cc
counted_some b text (Some op) p h = subst (λ (r : Infix × ℕ). 0 < r.1) (some_is h) (omega arith)

longest_some : (es : List Entry) (l : List Tok) (p : Infix × ℕ) → has_texts es ≡ true → longest es l ≡ Some p → 0 < p.1
longest_some [] l p t h = absurd cc
longest_some (([], o) ∷ more) l p t h = absurd cc
longest_some ((b ∷ text, o) ∷ more) l p t h = by_test (sign_at (b ∷ text) l) (λ i. longest_some more l p t i) h
  where
    by_test : (c : Bool) → (longest more l ≡ Some p → 0 < p.1) → cond c (counted (b ∷ text) o) (longest more l) ≡ Some p → 0 < p.1
    by_test true again i = counted_some b text o p i
    by_test false again i = again i

infix_some : (l : List Tok) (p : Infix × ℕ) → infix_at l ≡ Some p → 0 < p.1
unfolding infix_at
infix_some l p h = by_test (word_at _ l) h
  where
    by_test : (c : Bool) → cond c (Some (inf.Cast, 1)) (longest entries l) ≡ Some p → 0 < p.1
    by_test true i = subst (λ (r : Infix × ℕ). 0 < r.1) (some_is i) (omega arith)
    by_test false i = longest_some entries l p refl i

pub operator_less : (l : List Tok) (op : Infix) (count : ℕ) → infix_at l ≡ Some (op, count) → IsLess (drop count l) l
unfolding infix_at sign_at word_at
operator_less [] op count h = absurd cc
operator_less (x ∷ l) op count h = record { tail = dropped count (x ∷ l); less = drop_smaller count x l (infix_some (x ∷ l) (op, count) h) }

-- ---- nodes

pub within_less : {d : Delimiter} {v : Slot} {b : Bool} {l n : List Tok} {ks : Children} → Content (s.within d v b) l ks n → IsLess n l
within_less (holds_within {d = d} {l = l} {i = i} {n = n} g o e) = grouped d l i n g

frame_node : (k : Frame) (l h n : List Tok) (ks : Children) → frame_head k l ≡ Some h → Content (frame_holder k) h ks n → IsTail n h → IsLess n l
frame_node (tr.structure q p d) l h n ks a c t = less_then (frame_less (tr.structure q p d) l h refl a) t
frame_node (tr.closure_block f) l h n ks a c t = less_then (frame_less (tr.closure_block f) l h refl a) t
frame_node tr.if_expr l h n ks a c t = less_then (frame_less tr.if_expr l h refl a) t
frame_node (tr.while_loop w) l h n ks a c t = less_then (frame_less (tr.while_loop w) l h refl a) t
frame_node (tr.for_loop w p) l h n ks a c t = less_then (frame_less (tr.for_loop w p) l h refl a) t
frame_node tr.match_expr l h n ks a c t = less_then (frame_less tr.match_expr l h refl a) t
frame_node _ l h n ks a c t = subst (λ z. IsLess n z) (sym (some_is a)) (within_less c)

tail_of : {n l : List Tok} → IsLess n l → IsTail n l
tail_of h = h.tail

mutual
  pub node_less : {p : Place} {l n : List Tok} {x : Tree} → Node p l x n → IsLess n l
  node_less (is_leaf {l = l} {n = n} {k = k} h g) = left_less here.leaves k l n h
  node_less (is_become {l = l} w d e c i) = then_less (dropped 1 l) (node_less d)
  node_less (is_attributed_verbatim {l = l} {m = m} a more fs b d i j) = then_less (left here.outer (a ∷ more) l m b) (node_less d)
  node_less (is_paren {i = i} {n = n} d e c) = one_less (group del.Parenthesis i) n
  node_less (is_attributed_by {l = l} {m = m} {a = a} {more = more} b f d) = then_less (left here.outer (a ∷ more) l m b) (node_less d)
  node_less (is_prefixed {l = l} {m = m} {k = k} h g d e c) = less_then (left_less here.prefixes k l m h) (tail_of (node_less d))
  node_less (is_infixed {m = m} {count = count} d c f i t g r e q a) = less_then (node_less d) (tail_then (dropped count m) (tail_of (node_less r)))
  node_less (is_postfixed {m = m} {n = n} {k = k} {count = count} d c f i t b g a) = less_then (node_less d) (tail_then (dropped count m) (postfix_left k (drop count m) n b))
  node_less (is_tail {m = m} {h = h} {k = k} {is = is} d f t c i) = less_then (node_less d) (tail_then (trailer_left k m is h t) (content_left c))
  node_less (is_indexed {m = m} {n = n} {i = i} {is = is} d f t j) = less_then (node_less d) (tail_of (fields_less m (i ∷ is) n t))
  node_less (is_frame {l = l} {h = h} {n = n} {k = k} {ks = ks} a c g e) = frame_node k l h n ks a c (content_left c)

  pub content_left : {v : Holder} {l n : List Tok} {ks : Children} → Content v l ks n → IsTail n l
  content_left (holds_none {n = n}) = nothing_taken n
  content_left (holds_within {d = d} {l = l} {i = i} {n = n} g o e) = tail_of (grouped d l i n g)
  content_left (holds_bare d) = operands_left d

  pub operands_left : {v : Slot} {l o : List Tok} {ks : Children} → Operands v l ks o → IsTail o l
  operands_left (no_more {n = n} h) = nothing_taken n
  operands_left (one_more {s = v} {l = l} {m = m} {h = h} {n = n} {k = k} {c = c} {x = x} p q d e g more) =
      tail_then (left (here.pieces v) k l m p) (tail_then (tail_of (node_less d)) (tail_then (ending_left k x h c n g) (operands_left more)))
  operands_left (short {s = v} {l = l} {m = m} {n = n} {k = k} {c = c} {x = x} p q g more) =
      tail_then (left (here.pieces v) k l m p) (tail_then (ending_left k x m c n g) (operands_left more))
  operands_left (block {s = v} {l = l} {m = m} {i = i} {n = n} {k = k} p q g more) =
      tail_then (left (here.pieces v) k l m p) (tail_then (tail_of (grouped del.Brace m i n g)) (operands_left more))
  operands_left (arms_inside {i = i} {h = h} {n = n} d e c g a more) = tail_then (tail_of (node_less d)) (tail_of (grouped del.Brace h i n g))

-- a name that says its value is a token
pub short_less : (v : Slot) (k : Piece) (l m : List Tok) (x : Tree) → (piece_form v).behind k l ≡ Some m → short_value k ≡ Some x → IsLess m l
unfolding piece_form
short_less s.fields k l m x h g = left_less here.field_pieces k l m h
short_less s.otherwise (tr.field_value ats (a_name w) false) l m x h g = absurd (no_some _ m h)
short_less s.bodies (tr.field_value ats (a_name w) false) l m x h g = absurd (no_some _ m h)
short_less s.otherwise _ l m x h g = absurd cc
short_less s.bodies _ l m x h g = absurd cc
short_less _ (tr.field_value ats (a_name w) false) l m x h g = absurd cc
short_less _ _ l m x h g = absurd cc

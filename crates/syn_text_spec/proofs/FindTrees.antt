-- The leaves of a tree that stands for a list that a text falls into.
use Rattle.std.proofs.Common.{◌≡◌, ℕ, Bool, true, false, ◌||◌, cond, List, [], ◌∷◌, ◌++◌, drop, Option, Some, None, refl, sym, ◌∙◌, ap, subst}
use Rattle.std.proofs.lemmas.Bool.{and_parts, and_from}
use Rattle.syn_lexer.specs.declared.front.Delimiter.TheVariants as del
use Rattle.syn_tokens.specs.Tok.{Tok, literal}
use Rattle.syn_tokens.specs.Front.{group_at, is_empty}
use Rattle.syn_tokens.specs.Floats.{float_parts}
use Rattle.syn_lower_spec.specs.Text.{Text}
use Rattle.syn_lower_spec.specs.Form.{Outcome, Mark}
use Rattle.syn_lower_spec.specs.Mark.{comma, semi}
use Rattle.syn_lower_spec.specs.Pat.{a_name, an_index}
use Rattle.syn_lower_spec.proofs.Weights.{some_is}
use Rattle.syn_lower_spec.proofs.Forms.{bind_some, behind_some}
use Rattle.syn_lower_spec.proofs.Whole.{parts_exact}
use Rattle.syn_expr_spec.specs.declared.kinds.Place.{Place}
use Rattle.syn_expr_spec.specs.Tree as e
use Rattle.syn_expr_spec.specs.Tree.{Tree, Children, Postfix, Trailer, Frame, Piece, Ending, body_of, is_block_like}
use Rattle.syn_expr_spec.specs.Head.{label, body, dotted}
use Rattle.syn_expr_spec.specs.Slot.{Slot, Holder, ending_at, frame_head, frame_holder, for_head, if_at, if_word, while_word, match_word}
use Rattle.syn_expr_spec.specs.Front.{dot_at, question_at}
use Rattle.syn_expr_spec.specs.Stands.{Node, Content, Operands, Stands, is_leaf, is_become, is_attributed_verbatim, is_paren, is_attributed_by, is_prefixed, is_infixed, is_postfixed, is_tail, is_indexed, is_frame, holds_none, holds_within, holds_bare, no_more, one_more, short, block, arms_inside, postfix_behind, trailer_head, name_at, indices_at, named_behind, with_steps, open_steps, closed_steps, steps_of, fields_head, fields_of, short_value}
use Rattle.syn_expr_spec.proofs.Exact.{heads_exact}
use Rattle.syn_text.specs.Lexed.{is_lexed}
use Rattle.syn_text_spec.specs.Leaves.{lifetime_lexed, lexed_if, attributes_lexed, word_lexed, pat_lexed, prefix_lexed, postfix_lexed, trailer_lexed, frame_lexed, piece_lexed, ending_lexed, leaves_lexed, children_lexed}
use Rattle.syn_text_spec.specs.Laws.{verbatims_lexed, children_verbatims_lexed}
use Rattle.syn_text_spec.proofs.Lists.{Lexed, lexed}
use Rattle.syn_text_spec.proofs.Finds.{behind, dropped, in_group, group_parts, none_there}
use Rattle.syn_text_spec.proofs.FindParts.{if_there, outer_finds, inner_finds, qpath_found, type_finds}
use Rattle.syn_text_spec.proofs.FindHeads.{expr_path_finds, label_finds, body_finds, leaf_form_finds, closure_head_finds, prefix_form_finds, dotted_finds, for_head_finds, piece_form_finds}

-- ---- trailers

fields_ok : (is : List ℕ) (b : Tree) → leaves_lexed b ≡ true → leaves_lexed (fields_of b is) ≡ true
fields_ok [] b h = h
fields_ok (i ∷ is) b h = fields_ok is (e.tail b (e.field (an_index i)) e.none) (and_from (leaves_lexed b) true h refl)

fields_plain : (is : List ℕ) (b : Tree) → verbatims_lexed (fields_of b is) ≡ true → verbatims_lexed b ≡ true
fields_plain [] b h = h
fields_plain (i ∷ is) b h = (and_parts (verbatims_lexed b) true (fields_plain is (e.tail b (e.field (an_index i)) e.none) h)).0

abbrev Rest : List ℕ × List Tok → Type 0
Rest z = Lexed z.1

some_rest : (x y : List ℕ × List Tok) → Some x ≡ Some y → Rest x → Rest y
some_rest x y h l = subst Rest (some_is h) l

open_rest : (o : Option (List ℕ × Bool)) (l : List Tok) (z : List ℕ × List Tok) → open_steps o l ≡ Some z → Lexed l → Rest z
open_rest None l z h g = absurd cc
open_rest (Some (is, true)) l z h g = some_rest (is, l) z h g
open_rest (Some (is, false)) l z h g = absurd cc

closed_rest : (o : Option (List ℕ × Bool)) (l : List Tok) (z : List ℕ × List Tok) → closed_steps o l ≡ Some z → Lexed l → Rest z
closed_rest None l z h g = absurd cc
closed_rest (Some (is, true)) l z h g = absurd cc
closed_rest (Some (is, false)) l z h g = some_rest (is, l) z h g

name_rest : (l : List Tok) (z : List ℕ × List Tok) → name_at l ≡ Some z → Lexed l → Rest z
unfolding name_at
name_rest (literal w ∷ l) z h g = open_rest (steps_of (float_parts w)) l z h (behind g)
name_rest [] z h g = some_rest ([], []) z h g
name_rest (t ∷ l) z h g = some_rest ([], t ∷ l) z h g

indices_rest : (l : List Tok) (z : List ℕ × List Tok) → indices_at l ≡ Some z → Lexed l → Rest z
unfolding indices_at
indices_rest (literal w ∷ l) z h g = closed_rest (steps_of (float_parts w)) l z h (behind g)
indices_rest _ z h g = absurd cc

-- what a trailer is, and what is after its head
abbrev Headed : Trailer → List ℕ × List Tok → Type 0
Headed k z = (trailer_lexed k ≡ true) × Lexed z.1

dotted_head : (k : Trailer) (o : Option (List ℕ × List Tok)) (z : List ℕ × List Tok) → ((y : List ℕ × List Tok) → o ≡ Some y → Rest y) → named_behind k o ≡ Some z → Headed k z
dotted_head k None z r h = absurd cc
dotted_head k (Some y) z r h = by (dotted.behind k y.1) refl h
  where
    by : (o : Option (List Tok)) → dotted.behind k y.1 ≡ o → with_steps y.0 o ≡ Some z → Headed k z
    by None i g = absurd cc
    by (Some n) i g =
        let q = dotted_finds.finds y.1 k n ((heads_exact.trailers y.1 k n).1 i) (r y refl) in
        subst (Headed k) (some_is g) (q.0, q.1)

behind_dot : (b : Bool) (k : Trailer) (m : List Tok) (z : List ℕ × List Tok) → cond b (named_behind k (name_at (drop 1 m))) None ≡ Some z → Lexed m → Headed k z
behind_dot true k m z h g = dotted_head k (name_at (drop 1 m)) z (λ y i. name_rest (drop 1 m) y i (dropped 1 m g)) h
behind_dot false k m z h g = absurd cc

question : (b : Bool) (m : List Tok) (z : List ℕ × List Tok) → cond {A = Option (List ℕ × List Tok)} b (Some ([], drop 1 m)) None ≡ Some z → Lexed m → Rest z
question true m z h g = some_rest ([], drop 1 m) z h (dropped 1 m g)
question false m z h g = absurd cc

trailer_found : (k : Trailer) (m : List Tok) (z : List ℕ × List Tok) → trailer_head k m ≡ Some z → Lexed m → Headed k z
unfolding trailer_head
trailer_found e.call m z h g = (refl, some_rest ([], m) z h g)
trailer_found e.index m z h g = (refl, some_rest ([], m) z h g)
trailer_found e.try_expr m z h g = (refl, question (question_at m) m z h g)
trailer_found (e.method w a) m z h g = behind_dot (dot_at m) (e.method w a) m z h g
trailer_found (e.field f) m z h g = behind_dot (dot_at m) (e.field f) m z h g
trailer_found e.await m z h g = behind_dot (dot_at m) e.await m z h g

fields_rest : (m : List Tok) (z : List ℕ × List Tok) → fields_head m ≡ Some z → Lexed m → Rest z
unfolding fields_head
fields_rest m z h g = by (dot_at m) h
  where
    by : (b : Bool) → cond b (indices_at (drop 1 m)) None ≡ Some z → Rest z
    by true i = indices_rest (drop 1 m) z i (dropped 1 m g)
    by false i = absurd cc

-- ---- operations without a right operand

postfix_found : (k : Postfix) (m n : List Tok) → postfix_behind k m ≡ Some n → Lexed m → (postfix_lexed k ≡ true) × Lexed n
postfix_found (e.cast x) m n h g = let a = type_finds false in a.finds m x n ((parts_exact.types false m x n).1 h) g
postfix_found (e.range_from op) m n h g = (refl, subst Lexed (some_is h) g)

-- ---- the heads of frames

marked : (w : Mark) (l h : List Tok) → if_at w l ≡ Some h → Lexed l → Lexed h
marked w l h i g = by (w.at l) i
  where
    by : (b : Bool) → cond {A = Option (List Tok)} b (Some (drop w.count l)) None ≡ Some h → Lexed h
    by true j = subst Lexed (some_is j) (dropped w.count l g)
    by false j = absurd cc

label_found : (o : Option Text) (l m : List Tok) → label.behind o l ≡ Some m → Lexed l → (lexed_if lifetime_lexed o ≡ true) × Lexed m
label_found o l m h g = let q = label_finds.finds l o m ((heads_exact.labels l o m).1 h) g in (if_there lifetime_lexed o q.0, q.1)

-- what an invisible group holds is not asked of
abbrev is_visible : Frame → Bool
is_visible e.group_expr = false
is_visible _ = true

frame_found : (k : Frame) (l h : List Tok) → is_visible k ≡ true → frame_head k l ≡ Some h → Lexed l → (frame_lexed k ≡ true) × Lexed h
frame_found e.array l h v i g = (refl, subst Lexed (some_is i) g)
frame_found e.tuple l h v i g = (refl, subst Lexed (some_is i) g)
frame_found e.repeat l h v i g = (refl, subst Lexed (some_is i) g)
frame_found (e.structure q w d) l h v i g =
    let a = expr_path_finds true in
    let r = a.finds l (q, w) h ((heads_exact.paths true l (q, w) h).1 i) g in
    (qpath_found (q, w) r.0, r.1)
frame_found (e.closure_block c) l h v i g = closure_head_finds.finds l c h ((heads_exact.closure_heads l c h).1 i) g
frame_found e.if_expr l h v i g = (refl, marked if_word l h i g)
frame_found (e.while_loop o) l h v i g =
    let (m, j, k) = behind_some (label.behind o l) (if_at while_word) h i in
    let q = label_found o l m j g in
    (q.0, marked while_word m h k q.1)
frame_found (e.for_loop o x) l h v i g =
    let (m, j, k) = behind_some (label.behind o l) (for_head.behind x) h i in
    let q = label_found o l m j g in
    let r = for_head_finds.finds m x h ((heads_exact.for_heads m x h).1 k) q.1 in
    (and_from (lexed_if lifetime_lexed o) (pat_lexed x) q.0 r.0, r.1)
frame_found e.match_expr l h v i g = (refl, marked match_word l h i g)
frame_found e.group_expr l h v i g = absurd cc

-- A list that a text falls into has no group without delimiters.
seen : (k : Frame) (l h : List Tok) {n : List Tok} {ks : Children} → frame_head k l ≡ Some h → Content (frame_holder k) h ks n → Lexed l → is_visible k ≡ true
seen e.group_expr l h {n} i (holds_within {i = o} t c s) g = absurd (none_there h o n t (subst Lexed (some_is i) g))
seen _ l h i c g = refl

-- ---- the tokens after an operand

abbrev Ended : Ending × List Tok → Type 0
Ended z = (ending_lexed z.0 ≡ true) × Lexed z.1

ended : (x y : Ending × List Tok) → Some x ≡ Some y → Ended x → Ended y
ended x y h g = subst Ended (some_is h) g

comma_found : (b d : Bool) (l : List Tok) (z : Ending × List Tok)
    → cond {A = Outcome Ending} b (Some (e.comma, drop 1 l)) (cond {A = Outcome Ending} d (Some (e.no_ending, l)) None) ≡ Some z → Lexed l → Ended z
comma_found true d l z h g = ended (e.comma, drop 1 l) z h (refl, dropped 1 l g)
comma_found false true l z h g = ended (e.no_ending, l) z h (refl, g)
comma_found false false l z h g = absurd cc

ending_if : (b : Bool) (l m : List Tok) (z : Ending × List Tok) → cond {A = Outcome Ending} b (Some (e.no_ending, m)) None ≡ Some z → Lexed m → Ended z
ending_if true l m z h g = ended (e.no_ending, m) z h (refl, g)
ending_if false l m z h g = absurd cc

ending_found : (k : Piece) (x : Tree) (l : List Tok) (z : Ending × List Tok) → ending_at k x l ≡ Some z → Lexed l → Ended z
unfolding ending_at
ending_found e.element x l z h g = comma_found (comma.at l) (is_empty l) l z h g
ending_found (e.field_value ats m c) x l z h g = comma_found (comma.at l) (is_empty l) l z h g
ending_found (e.rest d) x l z h g = ending_if (is_empty l) l l z h g
ending_found e.repeated x l z h g = ending_if (semi.at l) l (drop 1 l) z h (dropped 1 l g)
ending_found e.condition x l z h g =
    let (q, i, j) = bind_some (group_at del.Brace l) (λ ts n. Some (e.braced (body_of [] ts), n)) z h in
    let r = group_parts del.Brace l q.0 q.1 i g in
    ended (e.braced (body_of [] q.0), q.1) z j (r.0.is, r.1)
ending_found e.loop_head x l z h g =
    let (q, i, j) = bind_some (body.reads l) (λ b n. Some (e.braced b, n)) z h in
    ended (e.braced q.0, q.1) z j (body_finds.finds l q.0 q.1 i g)
ending_found e.guarded x l z h g = comma_found (comma.at l) (is_empty l || is_block_like x) l z h g
ending_found (e.arm ats p) x l z h g = comma_found (comma.at l) (is_empty l || is_block_like x) l z h g
ending_found e.scrutinee x l z h g = absurd cc
ending_found _ x l z h g = ended (e.no_ending, l) z h (refl, g)

-- a field whose value its name says
short_ok : (k : Piece) (x : Tree) → short_value k ≡ Some x → piece_lexed k ≡ true → leaves_lexed x ≡ true
short_ok (e.field_value ats (a_name w) false) x h g =
    let p = and_parts (attributes_lexed ats) (word_lexed w) g in
    subst (λ u. leaves_lexed u ≡ true) (some_is h) (and_from (word_lexed w) true p.1 refl)
short_ok (e.field_value ats (a_name w) true) x h g = absurd cc
short_ok (e.field_value ats (an_index i) c) x h g = absurd cc
short_ok _ x h g = absurd cc

-- an end of such a list is one
after : (ts n : List Tok) → Lexed (ts ++ n) → Lexed n
after [] n g = g
after (t ∷ ts) n g = after ts n (behind g)

-- ---- trees

mutual
  node_ok : {p : Place} {l n : List Tok} {x : Tree} → Node p l x n → verbatims_lexed x ≡ true → Lexed l → (leaves_lexed x ≡ true) × Lexed n
  node_ok (is_leaf {l = l} {n = n} {k = k} i s) v g = leaf_form_finds.finds l k n ((heads_exact.leaves l k n).1 i) g
  node_ok (is_become {n = n} {ts = ts} w d s c i) v g = (v, after ts n (subst Lexed i g))
  node_ok (is_attributed_verbatim {m = m} {ts = ts} a more fs i d j k) v g =
      let own : Lexed ts = after fs ts (subst Lexed k (lexed v)) in
      (v, (node_ok d own.is (after fs m (subst Lexed j g))).1)
  node_ok (is_paren d s c) v g = let q = in_group g in ((node_ok d v q.0).0, q.2)
  node_ok (is_attributed_by {l = l} {m = m} {a = a} {more = more} {x = x} i t d) v g =
      let q = outer_finds.finds l (a ∷ more) m ((parts_exact.outer l (a ∷ more) m).1 i) g in
      let r = node_ok d v q.1 in
      let s = and_parts (is_lexed a.tokens) (attributes_lexed more) q.0 in
      (and_from (is_lexed a.tokens) _ s.0 (and_from (attributes_lexed more) (leaves_lexed x) s.1 r.0), r.1)
  node_ok (is_prefixed {l = l} {m = m} {k = k} {x = x} i s d t c) v g =
      let q = prefix_form_finds.finds l k m ((heads_exact.prefixes l k m).1 i) g in
      let r = node_ok d v q.1 in
      (and_from (prefix_lexed k) (leaves_lexed x) q.0 r.0, r.1)
  node_ok (is_infixed {m = m} {x = x} {y = y} {count = count} left c f o t b right s u w) v g =
      let p = and_parts (verbatims_lexed x) (verbatims_lexed y) v in
      let q = node_ok left p.0 g in
      let r = node_ok right p.1 (dropped count m q.1) in
      (and_from (leaves_lexed x) (leaves_lexed y) q.0 r.0, r.1)
  node_ok (is_postfixed {m = m} {n = n} {x = x} {k = k} {count = count} left c f o t b s w) v g =
      let q = node_ok left v g in
      let r = postfix_found k (drop count m) n b (dropped count m q.1) in
      (and_from (leaves_lexed x) (postfix_lexed k) q.0 r.0, r.1)
  node_ok (is_tail {m = m} {h = h} {b = b} {x = x} {k = k} {is = is} {ks = ks} d c t o i) v g =
      let p = and_parts (verbatims_lexed x) (children_verbatims_lexed ks) v in
      let q = node_ok d (fields_plain is b (ap verbatims_lexed (sym i) ∙ p.0)) g in
      let r = trailer_found k m (is, h) t q.1 in
      let s = content_ok o p.1 r.1 in
      (and_from (leaves_lexed x) _ (ap leaves_lexed i ∙ fields_ok is b q.0) (and_from (trailer_lexed k) (children_lexed ks) r.0 s.0), s.1)
  node_ok (is_indexed {m = m} {n = n} {b = b} {i = j} {is = is} d c t i) v g =
      let q = node_ok d (fields_plain (j ∷ is) b (ap verbatims_lexed (sym i) ∙ v)) g in
      (ap leaves_lexed i ∙ fields_ok (j ∷ is) b q.0, fields_rest m (j ∷ is, n) t q.1)
  node_ok (is_frame {l = l} {h = h} {k = k} {ks = ks} i o s t) v g =
      let q = frame_found k l h (seen k l h i o g) i g in
      let r = content_ok o v q.1 in
      (and_from (frame_lexed k) (children_lexed ks) q.0 r.0, r.1)

  content_ok : {o : Holder} {l n : List Tok} {ks : Children} → Content o l ks n → children_verbatims_lexed ks ≡ true → Lexed l → (children_lexed ks ≡ true) × Lexed n
  content_ok holds_none v g = (refl, g)
  content_ok (holds_within {d = d} {l = l} {i = i} {n = n} t c s) v g =
      let q = group_parts d l i n t g in
      ((operands_ok c v q.0).0, q.1)
  content_ok (holds_bare c) v g = operands_ok c v g

  operands_ok : {q : Slot} {l n : List Tok} {ks : Children} → Operands q l ks n → children_verbatims_lexed ks ≡ true → Lexed l → (children_lexed ks ≡ true) × Lexed n
  operands_ok (no_more t) v g = (refl, g)
  operands_ok (one_more {s = s} {l = l} {m = m} {h = h} {n = n} {k = k} {c = c} {x = x} {ks = ks} i u d t w r) v g =
      let p = and_parts (verbatims_lexed x) (children_verbatims_lexed ks) v in
      let a = piece_form_finds s in
      let b = a.finds l k m ((heads_exact.pieces s l k m).1 i) g in
      let q = node_ok d p.0 b.1 in
      let z = ending_found k x h (c, n) w q.1 in
      let y = operands_ok r p.1 z.1 in
      (and_from (piece_lexed k) _ b.0 (and_from (ending_lexed c) _ z.0 (and_from (leaves_lexed x) (children_lexed ks) q.0 y.0)), y.1)
  operands_ok (short {s = s} {l = l} {m = m} {n = n} {k = k} {c = c} {x = x} {ks = ks} i u w r) v g =
      let p = and_parts (verbatims_lexed x) (children_verbatims_lexed ks) v in
      let a = piece_form_finds s in
      let b = a.finds l k m ((heads_exact.pieces s l k m).1 i) g in
      let z = ending_found k x m (c, n) w b.1 in
      let y = operands_ok r p.1 z.1 in
      (and_from (piece_lexed k) _ b.0 (and_from (ending_lexed c) _ z.0 (and_from (leaves_lexed x) (children_lexed ks) (short_ok k x u b.0) y.0)), y.1)
  operands_ok (block {s = s} {l = l} {m = m} {i = i} {n = n} {k = k} {ks = ks} j u t r) v g =
      let a = piece_form_finds s in
      let b = a.finds l k m ((heads_exact.pieces s l k m).1 j) g in
      let q = group_parts del.Brace m i n t b.1 in
      let y = operands_ok r v q.1 in
      (and_from (piece_lexed k) _ b.0 (and_from (is_lexed i) (children_lexed ks) q.0.is y.0), y.1)
  operands_ok (arms_inside {i = i} {h = h} {j = j} {n = n} {ats = ats} {x = x} {ks = ks} d s c t u r) v g =
      let p = and_parts (verbatims_lexed x) (children_verbatims_lexed ks) v in
      let q = node_ok d p.0 g in
      let b = group_parts del.Brace h i n t q.1 in
      let a = inner_finds.finds i ats j ((parts_exact.inner i ats j).1 u) b.0 in
      let y = operands_ok r p.1 a.1 in
      (and_from (attributes_lexed ats) _ a.0 (and_from (leaves_lexed x) (children_lexed ks) q.0 y.0), b.1)

pub tree_leaves : (p : Place) (l : List Tok) (x : Tree) (rest : List Tok) → Stands p l x rest → is_lexed l ≡ true → verbatims_lexed x ≡ true → leaves_lexed x ≡ true
tree_leaves p l x rest s g v = (node_ok s.node v (lexed g)).0

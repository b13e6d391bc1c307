-- What is left after trailers, the tokens of frames and the ends of operands is a tail of the list, and weighs less where
-- a token was taken.
use Rattle.std.proofs.Common.{◌≡◌, ℕ, ◌≤◌, ◌<◌, Bool, true, false, ◌||◌, cond, List, [], ◌∷◌, ◌++◌, take, drop, length, ◌-◌, length-append, Option, Some, None, refl, ap, sym, subst, arith}
use Rattle.std.proofs.lemmas.List.{take-append-drop}
use Rattle.std.proofs.Math.Seq.{take-append_seam}
use Rattle.syn_lexer.specs.declared.front.Delimiter.{Delimiter}
use Rattle.syn_lexer.specs.declared.front.Delimiter.TheVariants as del
use Rattle.syn_tokens.specs.Tok.{Tok, ident, punct, literal, group, toks, weight}
use Rattle.syn_tokens.specs.Front.{group_at, same_delimiter, is_empty}
use Rattle.syn_tokens.specs.Floats.{float_parts}
use Rattle.syn_tokens.specs.Input.{IsTail}
use Rattle.syn_lower_spec.specs.Form.{Form, Outcome, Mark, and_then}
use Rattle.syn_lower_spec.specs.Laws.{IsReadable}
use Rattle.syn_lower_spec.specs.Mark.{sign_at, comma, semi}
use Rattle.syn_lower_spec.proofs.Forms.{Present, behind_some}
use Rattle.syn_lower_spec.proofs.Marks.{begins_in_front, word_present}
use Rattle.syn_lower_spec.proofs.Tails.{nothing_taken, tail_then, one_taken}
use Rattle.syn_lower_spec.proofs.Weights.{some_is, taken}
use Rattle.syn_expr_spec.specs.Front.{dot_at, question_at}
use Rattle.syn_expr_spec.specs.Head.{label, body, dotted}
use Rattle.syn_expr_spec.specs.Slot as s
use Rattle.syn_expr_spec.specs.Slot.{if_at, for_head, frame_head, ending_at}
use Rattle.syn_expr_spec.specs.Stands.{trailer_head, fields_head, name_at, indices_at, postfix_behind, closed_steps, open_steps, steps_of, named_behind, with_steps, is_parenthesis_or_bracket}
use Rattle.syn_expr_spec.specs.Read as r
use Rattle.syn_expr_spec.specs.Tree as e
use Rattle.syn_expr_spec.specs.Tree.{Tree, Trailer, Postfix, Frame, Piece, Ending, Body}
use Rattle.syn_expr_spec.proofs.Heads.{HeadsAreReadable, heads_readable}

-- ---- tails

-- a tail weighs no more than the list
pub tail_falls : {l n : List Tok} → IsTail n l → weight n ≤ weight l
unfolding weight
tail_falls {l} {n} t = subst (λ z. weight n ≤ weight z) (sym t.is) (go t.front)
  where
    go : (f : List Tok) → weight n ≤ weight (f ++ n)
    go [] = omega arith
    go (x ∷ f) = omega (arith, go f)

pub dropped : (n : ℕ) (l : List Tok) → IsTail (drop n l) l
dropped n l = record { front = take n l; is = sym (take-append-drop n l) }

-- a tail that weighs less
pub record IsLess (n l : List Tok) : Type 0 where
  pub tail : IsTail n l
  pub less : weight n < weight l

pub less_then : {a b c : List Tok} → IsLess b a → IsTail c b → IsLess c a
less_then g h = record { tail = tail_then g.tail h; less = omega (arith, g.less, tail_falls h) }

pub then_less : {a b c : List Tok} → IsTail b a → IsLess c b → IsLess c a
then_less g h = record { tail = tail_then g h.tail; less = omega (arith, h.less, tail_falls g) }

pub marked : {m : Mark} → Present m → (l : List Tok) → m.at l ≡ true → IsLess (drop m.count l) l
marked {m} p l h = record { tail = dropped m.count l; less = p.present l h }

-- after a group, and in it
pub grouped : (d : Delimiter) (l i n : List Tok) → group_at d l ≡ Some (i, n) → IsLess n l
unfolding group_at
grouped d l i n h = record { tail = behind d l i n h; less = omega (arith, taken d l i n h) }
  where
    behind : (d : Delimiter) (l i n : List Tok) → group_at d l ≡ Some (i, n) → IsTail n l
    behind d [] i n h = absurd cc
    behind d (ident w ∷ l) i n h = absurd cc
    behind d (punct c q ∷ l) i n h = absurd cc
    behind d (literal w ∷ l) i n h = absurd cc
    behind d (group found j ∷ l) i n h = by_bool (same_delimiter found d) h
      where
        by_bool : (b : Bool) → cond {A = Option (List Tok × List Tok)} b (Some (toks j, l)) None ≡ Some (i, n) → IsTail n (group found j ∷ l)
        by_bool true h = subst (λ z. IsTail z (group found j ∷ l)) (ap (λ z. z.1) (some_is h)) (one_taken (group found j) l)
        by_bool false h = absurd cc

pub group_inside : (d : Delimiter) (l i n : List Tok) → group_at d l ≡ Some (i, n) → weight i < weight l
group_inside d l i n h = omega (arith, taken d l i n h)

-- of a form that reads what is
pub left : {A : Type 0} {k : ℕ} {f : Form A} → IsReadable k f → (x : A) (l n : List Tok) → f.behind x l ≡ Some n → IsTail n l
left r x l n h = r.tail l n x (r.found l n x h)

pub left_less : {A : Type 0} {f : Form A} → IsReadable 1 f → (x : A) (l n : List Tok) → f.behind x l ≡ Some n → IsLess n l
left_less r x l n h = record { tail = left r x l n h; less = omega (arith, r.moves l n x (r.found l n x h)) }

here : HeadsAreReadable
here = heads_readable

-- ---- trailers

question_present : Present (record { at = question_at; count = 1 })
unfolding question_at sign_at
question_present = begins_in_front (record { at = question_at; count = 1 }) (omega arith) refl

pub indices_less : (l : List Tok) (is : List ℕ) (n : List Tok) → indices_at l ≡ Some (is, n) → IsLess n l
unfolding indices_at weight
indices_less (literal w ∷ l) is n h = by_steps (steps_of (float_parts w)) h
  where
    by_steps : (o : Option (List ℕ × Bool)) → closed_steps o l ≡ Some (is, n) → IsLess n (literal w ∷ l)
    by_steps (Some (js, false)) h = subst (λ z. IsLess z (literal w ∷ l)) (ap (λ z. z.1) (some_is h)) (record { tail = one_taken (literal w) l; less = omega arith })
    by_steps (Some (js, true)) h = absurd cc
    by_steps None h = absurd cc
indices_less _ is n h = absurd cc

pub name_left : (l : List Tok) (is : List ℕ) (n : List Tok) → name_at l ≡ Some (is, n) → IsTail n l
unfolding name_at
name_left (literal w ∷ l) is n h = by_steps (steps_of (float_parts w)) h
  where
    by_steps : (o : Option (List ℕ × Bool)) → open_steps o l ≡ Some (is, n) → IsTail n (literal w ∷ l)
    by_steps (Some (js, true)) h = subst (λ z. IsTail z (literal w ∷ l)) (ap (λ z. z.1) (some_is h)) (one_taken (literal w) l)
    by_steps (Some (js, false)) h = absurd cc
    by_steps None h = absurd cc
name_left [] is n h = subst (λ z. IsTail z []) (ap (λ z. z.1) (some_is h)) (nothing_taken [])
name_left v is n h = subst (λ z. IsTail z v) (ap (λ z. z.1) (some_is h)) (nothing_taken v)

pub fields_less : (m : List Tok) (is : List ℕ) (n : List Tok) → fields_head m ≡ Some (is, n) → IsLess n m
unfolding fields_head
fields_less m is n h = by_dot (dot_at m) refl h
  where
    by_dot : (b : Bool) → dot_at m ≡ b → cond b (indices_at (drop 1 m)) None ≡ Some (is, n) → IsLess n m
    by_dot true e h = then_less (dropped 1 m) (indices_less (drop 1 m) is n h)
    by_dot false e h = absurd cc

-- a trailer with tokens of its own
dotted_less : (k : Trailer) (m : List Tok) (is : List ℕ) (n : List Tok) → cond (dot_at m) (named_behind k (name_at (drop 1 m))) None ≡ Some (is, n) → IsLess n m
dotted_less k m is n h = by_dot (dot_at m) refl h
  where
    by_end : (js : List ℕ) (i : List Tok) (o : Option (List Tok)) → name_at (drop 1 m) ≡ Some (js, i) → dotted.behind k i ≡ o → with_steps js o ≡ Some (is, n) → IsLess n m
    by_end js i None g e h = absurd cc
    by_end js i (Some j) g e h =
        let a = left_less here.trailers k i j e in
        subst (λ z. IsLess z m) (ap (λ z. z.1) (some_is h)) (then_less (tail_then (dropped 1 m) (name_left (drop 1 m) js i g)) a)

    by_name : (o : Option (List ℕ × List Tok)) → name_at (drop 1 m) ≡ o → named_behind k o ≡ Some (is, n) → IsLess n m
    by_name None g h = absurd cc
    by_name (Some p) g h = by_end p.0 p.1 (dotted.behind k p.1) g refl h

    by_dot : (b : Bool) → dot_at m ≡ b → cond b (named_behind k (name_at (drop 1 m))) None ≡ Some (is, n) → IsLess n m
    by_dot true e h = by_name (name_at (drop 1 m)) refl h
    by_dot false e h = absurd cc

question_less : (m : List Tok) (is : List ℕ) (n : List Tok) → cond {A = Option (List ℕ × List Tok)} (question_at m) (Some ([], drop 1 m)) None ≡ Some (is, n) → IsLess n m
question_less m is n h = by_bool (question_at m) refl h
  where
    by_bool : (b : Bool) → question_at m ≡ b → cond {A = Option (List ℕ × List Tok)} b (Some ([], drop 1 m)) None ≡ Some (is, n) → IsLess n m
    by_bool true e h = subst (λ z. IsLess z m) (ap (λ z. z.1) (some_is h)) (marked question_present m e)
    by_bool false e h = absurd cc

pub trailer_less : (k : Trailer) (m : List Tok) (is : List ℕ) (n : List Tok) → is_parenthesis_or_bracket k ≡ false → trailer_head k m ≡ Some (is, n) → IsLess n m
unfolding trailer_head
trailer_less e.call m is n c h = absurd cc
trailer_less e.index m is n c h = absurd cc
trailer_less e.try_expr m is n c h = question_less m is n h
trailer_less d m is n c h = dotted_less d m is n h

-- a call's and an index's group is not taken yet
pub trailer_left : (k : Trailer) (m : List Tok) (is : List ℕ) (n : List Tok) → trailer_head k m ≡ Some (is, n) → IsTail n m
unfolding trailer_head
trailer_left e.call m is n h = subst (λ z. IsTail z m) (ap (λ z. z.1) (some_is h)) (nothing_taken m)
trailer_left e.index m is n h = subst (λ z. IsTail z m) (ap (λ z. z.1) (some_is h)) (nothing_taken m)
trailer_left e.try_expr m is n h = let a = question_less m is n h in a.tail
trailer_left (e.method w a) m is n h = let a = dotted_less (e.method w a) m is n h in a.tail
trailer_left (e.field f) m is n h = let a = dotted_less (e.field f) m is n h in a.tail
trailer_left e.await m is n h = let a = dotted_less e.await m is n h in a.tail

-- ---- frames

pub if_less : {m : Mark} → Present m → (l n : List Tok) → if_at m l ≡ Some n → IsLess n l
if_less {m} p l n h = by_bool (m.at l) refl h
  where
    by_bool : (b : Bool) → m.at l ≡ b → cond b (Some (drop m.count l)) None ≡ Some n → IsLess n l
    by_bool true e h = subst (λ z. IsLess z l) (some_is h) (marked p l e)
    by_bool false e h = absurd cc

-- the frames in a delimiter whose tokens are in it alone
abbrev pub is_enclosed : Frame → Bool
is_enclosed e.array = true
is_enclosed e.tuple = true
is_enclosed e.repeat = true
is_enclosed e.group_expr = true
is_enclosed _ = false

pub frame_less : (k : Frame) (l n : List Tok) → is_enclosed k ≡ false → frame_head k l ≡ Some n → IsLess n l
frame_less (e.structure q p d) l n c h = left_less (here.expr_paths true) (q, p) l n h
frame_less (e.closure_block f) l n c h = left_less here.closure_heads f l n h
frame_less e.if_expr l n c h = if_less (word_present _) l n h
frame_less (e.while_loop w) l n c h =
    let (m, i, j) = behind_some (label.behind w l) (if_at s.while_word) n h in
    then_less (left here.labels w l m i) (if_less (word_present _) m n j)
frame_less (e.for_loop w p) l n c h =
    let (m, i, j) = behind_some (label.behind w l) (for_head.behind p) n h in
    then_less (left here.labels w l m i) (left_less here.for_heads p m n j)
frame_less e.match_expr l n c h = if_less (word_present _) l n h
frame_less _ l n c h = absurd cc

-- ---- after an operand

pub postfix_left : (k : Postfix) (l n : List Tok) → postfix_behind k l ≡ Some n → IsTail n l
postfix_left (e.cast x) l n h = left (here.types false) x l n h
postfix_left (e.range_from op) l n h = subst (λ z. IsTail z l) (some_is h) (nothing_taken l)

same_left : {A : Type 0} (c d : A) (l m n : List Tok) → IsTail m l → ◌≡◌ {A = Outcome A} (Some (c, m)) (Some (d, n)) → IsTail n l
same_left c d l m n t h = subst (λ z. IsTail z l) (ap (λ z. z.1) (some_is h)) t

-- a comma, or none where this holds
comma_left : (b : Bool) (l : List Tok) (c : Ending) (n : List Tok) → cond {A = Outcome Ending} (comma.at l) (Some (e.comma, drop 1 l)) (cond b (Some (e.no_ending, l)) None) ≡ Some (c, n) → IsTail n l
comma_left b l c n h = by_comma (comma.at l) b h
  where
    by_comma : (d b : Bool) → cond {A = Outcome Ending} d (Some (e.comma, drop 1 l)) (cond b (Some (e.no_ending, l)) None) ≡ Some (c, n) → IsTail n l
    by_comma true b h = same_left e.comma c l (drop 1 l) n (dropped 1 l) h
    by_comma false true h = same_left e.no_ending c l l n (nothing_taken l) h
    by_comma false false h = absurd cc

pub ending_left : (k : Piece) (x : Tree) (l : List Tok) (c : Ending) (n : List Tok) → ending_at k x l ≡ Some (c, n) → IsTail n l
unfolding ending_at
ending_left e.element x l c n h = comma_left (is_empty l) l c n h
ending_left (e.field_value ats m b) x l c n h = comma_left (is_empty l) l c n h
ending_left e.repeated x l c n h = by_bool (semi.at l) h
  where
    by_bool : (b : Bool) → cond {A = Outcome Ending} b (Some (e.no_ending, drop 1 l)) None ≡ Some (c, n) → IsTail n l
    by_bool true h = same_left e.no_ending c l (drop 1 l) n (dropped 1 l) h
    by_bool false h = absurd cc
ending_left e.condition x l c n h = by_group (group_at del.Brace l) refl h
  where
    by_group : (o : Outcome (List Tok)) → group_at del.Brace l ≡ o → and_then o (λ ts m. Some (e.braced (e.body_of [] ts), m)) ≡ Some (c, n) → IsTail n l
    by_group None g h = absurd cc
    by_group (Some p) g h = let a = grouped del.Brace l p.0 p.1 g in same_left (e.braced (e.body_of [] p.0)) c l p.1 n a.tail h
ending_left e.loop_head x l c n h = by_body (body.reads l) refl h
  where
    by_body : (o : Outcome Body) → body.reads l ≡ o → and_then o (λ b m. Some (e.braced b, m)) ≡ Some (c, n) → IsTail n l
    by_body None g h = absurd cc
    by_body (Some (b, m)) g h = same_left (e.braced b) c l m n (here.bodies.tail l m b g) h
ending_left e.guarded x l c n h = comma_left (is_empty l || e.is_block_like x) l c n h
ending_left (e.arm ats p) x l c n h = comma_left (is_empty l || e.is_block_like x) l c n h
ending_left e.scrutinee x l c n h = absurd cc
ending_left (e.rest d) x l c n h = by_bool (is_empty l) h
  where
    by_bool : (b : Bool) → cond {A = Outcome Ending} b (Some (e.no_ending, l)) None ≡ Some (c, n) → IsTail n l
    by_bool true h = same_left e.no_ending c l l n (nothing_taken l) h
    by_bool false h = absurd cc
ending_left _ x l c n h = same_left e.no_ending c l l n (nothing_taken l) h

-- the tokens before a tail
pub taken_is : (f n : List Tok) → r.taken (f ++ n) n ≡ f
taken_is f n =
    let d : length (f ++ n) - length n ≡ length f = rw length-append (omega arith) in
    rw d (take-append_seam f n)

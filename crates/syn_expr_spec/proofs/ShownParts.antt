-- What stands obeys: the tests of a node, by the class of what comes after it.
use Rattle.std.proofs.Common.{◌≡◌, Bool, true, false, not, ◌&&◌, ◌||◌, List, [], ◌∷◌, Option, Some, None, refl, sym, ◌∙◌, ap, codes}
use Rattle.std.proofs.Math.Bool.{and-false}
use Rattle.std.proofs.lemmas.Bool.{or_parts, and_parts, or_from, not-true}
use Rattle.syn_tokens.specs.Tok.{Tok, ident, punct, literal, group}
use Rattle.syn_tokens.specs.Front.{group_at, is_empty}
use Rattle.syn_lower_spec.specs.Text.{Text}
use Rattle.syn_lower_spec.specs.Mark.{sign_at, word_at, brace_at, colon}
use Rattle.syn_expr_spec.specs.declared.kinds.BinKind.TheVariants as bin
use Rattle.syn_expr_spec.specs.declared.kinds.Limits.TheVariants as limits
use Rattle.syn_expr_spec.specs.declared.kinds.Infix.{Infix}
use Rattle.syn_expr_spec.specs.declared.kinds.Infix.TheVariants as inf
use Rattle.syn_expr_spec.specs.declared.kinds.Place.{Place}
use Rattle.syn_expr_spec.specs.declared.next.Next.{Next}
use Rattle.syn_expr_spec.specs.declared.next.Next.TheVariants as next
use Rattle.syn_expr_spec.specs.declared.next.Edge.{Edge}
use Rattle.syn_expr_spec.specs.declared.next.Edge.TheVariants as edge
use Rattle.syn_expr_spec.specs.declared.next.Context.{Context}
use Rattle.syn_expr_spec.specs.Place.{plain, before_block, at_head, at}
use Rattle.syn_expr_spec.specs.Op.{level, is_comparison, goes_on}
use Rattle.syn_expr_spec.specs.Front.{begins_expr, ends_open_range, trailer_at, dot_at}
use Rattle.syn_expr_spec.specs.Next.{class_of, next_of, takes_next, trails, begins_next, is_block_next, is_brace_next, without_block, enclosed, in_condition, in_arm, left_edge, dot_edge, base_edge, attributed_edge, braceless, left_context, base_context, right_context, attributed_context, prefix_context}
use Rattle.syn_expr_spec.specs.Stands.{is_range, is_cast, carries, compares, rests, goes_behind, refuses_dots, refuses_arrow, ends, closes, fits_left, fits_base, leaf_stands, prefix_stands, prefix_place, infix_stands, postfix_stands, ends_jump, frame_stands, holds_block}
use Rattle.syn_expr_spec.specs.Tree as e
use Rattle.syn_expr_spec.specs.Tree.{Tree, Leaf, Prefix, Trailer, Frame, Jump, is_block_leaf, is_block_frame, is_block_like}
use Rattle.syn_expr_spec.specs.Rule.{ends_range_next, jump_refuses, leaf_refuses, leaf_misplaced, prefix_misplaced, frame_misplaced, is_below, is_below_statement, is_statement, is_braceless, is_brace_delimiter}
use Rattle.syn_expr_spec.proofs.Formed.{no_block_held}
use Rattle.syn_expr_spec.proofs.Obeys.{Fits, FitsLeft}
use Rattle.syn_expr_spec.proofs.Tight.{is_calm}
use Rattle.syn_expr_spec.proofs.ShownFronts.{Front, front_jump}

-- ---- places and contexts

abbrev pub is_armed : Edge → Bool
is_armed edge.Arm = true
is_armed edge.BelowArm = true
is_armed _ = false

pub record Agrees (p : Place) (c : Context) : Type 0 where
  pub mode : c.condition ≡ p.condition
  pub head : is_armed c.edge ≡ true → p.head ≡ true
  pub no_statement : is_statement c.edge ≡ false
  pub brace : is_brace_next c.next && c.condition ≡ false

pub agrees_plain : Agrees plain enclosed
agrees_plain = record { mode = refl; head = λ h. absurd cc; no_statement = refl; brace = refl }

pub agrees_condition : Agrees before_block in_condition
agrees_condition = record { mode = refl; head = λ h. absurd cc; no_statement = refl; brace = refl }

pub agrees_arm : Agrees at_head in_arm
agrees_arm = record { mode = refl; head = λ h. refl; no_statement = refl; brace = refl }

calm_unarmed : (x : Edge) → is_calm x ≡ true → (is_armed x ≡ false) × (is_statement x ≡ false)
calm_unarmed edge.Free h = (refl, refl)
calm_unarmed edge.NoBrace h = (refl, refl)
calm_unarmed _ h = absurd cc

clash : (b : Bool) → b ≡ true → b ≡ false → ⊥
clash b h k = let r : true ≡ false = sym h ∙ k in cc

pub agrees_calm : (p : Place) (c : Context) → c.condition ≡ p.condition → is_calm c.edge ≡ true → is_brace_next c.next && c.condition ≡ false → Agrees p c
agrees_calm p c m q b =
    let u = calm_unarmed c.edge q in
    record { mode = m; head = λ h. absurd (clash _ h u.0); no_statement = u.1; brace = b }

left_armed : (x : Edge) → is_armed (left_edge x) ≡ is_armed x
left_armed edge.Free = refl
left_armed _ = refl

left_statement : (x : Edge) → is_statement (left_edge x) ≡ is_statement x
left_statement edge.Free = refl
left_statement _ = refl

pub left_braceless : (x : Edge) → is_braceless (left_edge x) ≡ is_braceless x
left_braceless edge.Free = refl
left_braceless _ = refl

dot_armed : (x : Edge) → is_armed (dot_edge x) ≡ is_armed x
dot_armed edge.Free = refl
dot_armed _ = refl

dot_statement : (x : Edge) → is_statement (dot_edge x) ≡ is_statement x
dot_statement edge.Free = refl
dot_statement _ = refl

pub dot_braceless : (x : Edge) → is_braceless (dot_edge x) ≡ is_braceless x
dot_braceless edge.Free = refl
dot_braceless _ = refl

pub dot_above : (x : Edge) → is_below (dot_edge x) ≡ false
dot_above edge.Free = refl
dot_above _ = refl

pub dot_twice : (x : Edge) → dot_edge (dot_edge x) ≡ dot_edge x
dot_twice edge.Free = refl
dot_twice _ = refl

pub below_left : (x : Edge) (h b : Bool) → (is_armed x ≡ true → h ≡ true) → is_statement x ≡ false → h && b ≡ false → is_below (left_edge x) && b ≡ false
below_left edge.Free h b f s r = refl
below_left edge.NoBrace h b f s r = refl
below_left edge.Arm h b f s r = rw (f refl) at r
below_left edge.BelowArm h b f s r = rw (f refl) at r
below_left edge.Statement h b f s r = absurd cc
below_left edge.BelowStatement h b f s r = absurd cc

class_brace : (k : Infix) → is_brace_next (class_of k) ≡ false
class_brace (inf.Binary bin.Add) = refl
class_brace _ = refl

pub agrees_left : (p : Place) (k : Infix) (c : Context) → Agrees p c → Agrees p (left_context k c)
agrees_left p k c m =
    record {
      mode = m.mode;
      head = λ h. m.head (sym (left_armed c.edge) ∙ h);
      no_statement = left_statement c.edge ∙ m.no_statement;
      brace = ap (λ b. b && c.condition) (class_brace k);
    }

-- a trailer that is no call and no index
pub agrees_dot : (p : Place) (c : Context) (k : Trailer) → Agrees p c → base_edge k c.edge ≡ dot_edge c.edge → is_brace_next (next_of k) ≡ false → Agrees p (base_context k c)
agrees_dot p c k m q b =
    record {
      mode = m.mode;
      head = λ h. m.head (sym (dot_armed c.edge) ∙ ap is_armed (sym q) ∙ h);
      no_statement = ap is_statement q ∙ dot_statement c.edge ∙ m.no_statement;
      brace = ap (λ b. b && c.condition) b;
    }

pub agrees_base : (p : Place) (k : Trailer) (c : Context) → Agrees p c → Agrees p (base_context k c)
agrees_base p e.call c m =
    record { mode = m.mode; head = λ h. m.head (sym (left_armed c.edge) ∙ h); no_statement = left_statement c.edge ∙ m.no_statement; brace = refl }
agrees_base p e.index c m =
    record { mode = m.mode; head = λ h. m.head (sym (left_armed c.edge) ∙ h); no_statement = left_statement c.edge ∙ m.no_statement; brace = refl }
agrees_base p d c m = agrees_dot p c d m refl refl

attributed_armed : (x : Edge) → (is_armed (attributed_edge x) ≡ is_armed x) × (is_statement (attributed_edge x) ≡ is_statement x) × (is_below (attributed_edge x) ≡ is_below x) × (is_braceless (attributed_edge x) ≡ false)
attributed_armed edge.Free = (refl, refl, refl, refl)
attributed_armed _ = (refl, refl, refl, refl)

pub agrees_attributed : (p : Place) (c : Context) → Agrees p c → Agrees p (attributed_context c)
agrees_attributed p c m =
    let q = attributed_armed c.edge in
    record { mode = m.mode; head = λ h. m.head (sym q.0 ∙ h); no_statement = q.1 ∙ m.no_statement; brace = m.brace }

pub attributed_below : (x : Edge) (b : Bool) → is_below x && b ≡ false → is_below (attributed_edge x) && b ≡ false
attributed_below x b h = ap (λ z. z && b) (attributed_armed x).2 ∙ h

pub attributed_braceless : (x : Edge) (b : Bool) → is_braceless (attributed_edge x) && b ≡ false
attributed_braceless x b = ap (λ z. z && b) (attributed_armed x).3

braceless_calm : (b : Bool) → is_calm (braceless b) ≡ true
braceless_calm true = refl
braceless_calm false = refl

braceless_is : (b : Bool) → is_braceless (braceless b) ≡ b
braceless_is true = refl
braceless_is false = refl

braceless_above : (b : Bool) → is_below (braceless b) ≡ false
braceless_above true = refl
braceless_above false = refl

pub agrees_right : (p : Place) (k : Infix) (c : Context) → Agrees p c → Agrees (at p (level k)) (right_context k c)
agrees_right p k c m = agrees_calm (at p (level k)) (right_context k c) m.mode (braceless_calm _) m.brace

pub agrees_prefix : (p : Place) (k : Prefix) (c : Context) → Agrees p c → Agrees (prefix_place p k) (prefix_context k c)
agrees_prefix p (e.range_to op) c m = agrees_calm _ (prefix_context (e.range_to op) c) m.mode (braceless_calm _) m.brace
agrees_prefix p (e.jump j) c m = agrees_calm _ (prefix_context (e.jump j) c) refl (braceless_calm _) (and-false _)
agrees_prefix p d c m = agrees_calm _ (prefix_context d c) m.mode refl m.brace

front_without : (n : Next) (l : List Tok) → Front n l → Front (without_block n) l
front_without next.Block l f = front_jump next.Block l f
front_without next.Range l f = f
front_without _ l f = f

pub front_prefix : (k : Prefix) (c : Context) (l : List Tok) → Front c.next l → Front (prefix_context k c).next l
front_prefix (e.unary op) c l f = f
front_prefix (e.jump j) c l f = front_without c.next l f
front_prefix _ c l f = f

pub prefix_above : (k : Prefix) (c : Context) (b : Bool) → is_below (prefix_context k c).edge && b ≡ false
prefix_above (e.unary op) c b = refl
prefix_above (e.range_to op) c b = ap (λ z. z && b) (braceless_above _)
prefix_above (e.jump j) c b = ap (λ z. z && b) (braceless_above _)
prefix_above _ c b = refl

pub right_above : (k : Infix) (c : Context) (b : Bool) → is_below (right_context k c).edge && b ≡ false
right_above k c b = ap (λ z. z && b) (braceless_above _)

-- ---- where a brace would be that of a block

last_false : (a b c d x : Bool) → a || (b || (c || (d || x))) ≡ false → x ≡ false
last_false a b c d x h = (or_parts d _ (or_parts c _ (or_parts b _ (or_parts a _ h).1).1).1).1

open_brace : (b : Bool) (l : List Tok) → ends_open_range b l ≡ false → b && brace_at l ≡ false
unfolding ends_open_range
open_brace b l h = last_false (is_empty l) _ (dot_at l) (word_at (codes "as") l) (b && brace_at l) h

colon_brace : (m : List Tok) → brace_at m ≡ true → colon.at m ≡ false
unfolding brace_at group_at sign_at
colon_brace [] h = refl
colon_brace (ident w ∷ l) h = refl
colon_brace (literal w ∷ l) h = refl
colon_brace (punct c s ∷ l) h = absurd cc
colon_brace (group d i ∷ l) h = refl

jump_brace : (p : Place) (w : Option Text) (m : List Tok) → not (ends_jump p (e.breaking w) m) && begins_expr m ≡ true → p.condition && brace_at m ≡ false
jump_brace p None m h = (or_parts _ _ (not-true _ (and_parts _ _ h).0)).1
jump_brace p (Some w) m h = go p.condition (brace_at m) refl (begins_expr m) (not-true _ (and_parts _ _ h).0)
  where
    go : (a b : Bool) → brace_at m ≡ b → (g : Bool) → (not g || (a && b)) && not (colon.at m) ≡ false → a && b ≡ false
    go true true q true i = absurd (let r = colon_brace m q in let s : true ≡ false = ap not (sym r) ∙ i in cc)
    go true true q false i = absurd (let r = colon_brace m q in let s : true ≡ false = ap not (sym r) ∙ i in cc)
    go true false q g i = refl
    go false b q g i = refl

edge_brace : (b x : Bool) → b && x ≡ false → is_braceless (braceless b) && x ≡ false
edge_brace b x h = ap (λ z. z && x) (braceless_is b) ∙ h

pub prefix_brace : (p : Place) (k : Prefix) (c : Context) (m : List Tok) → Agrees p c → prefix_stands p k m ≡ true → is_braceless (prefix_context k c).edge && brace_at m ≡ false
unfolding prefix_stands
prefix_brace p (e.unary op) c m a h = refl
prefix_brace p (e.range_to limits.HalfOpen) c m a h = edge_brace c.condition _ (ap (λ b. b && brace_at m) a.mode ∙ open_brace p.condition m (not-true _ h))
prefix_brace p (e.jump (e.breaking w)) c m a h = edge_brace c.condition _ (ap (λ b. b && brace_at m) a.mode ∙ jump_brace p w m h)
prefix_brace p _ c m a h = refl

pub right_brace : (p : Place) (k : Infix) (c : Context) (m : List Tok) → Agrees p c → infix_stands p k m ≡ true → is_braceless (right_context k c).edge && brace_at m ≡ false
unfolding infix_stands
right_brace p (inf.Range limits.HalfOpen) c m a h = edge_brace c.condition _ (ap (λ b. b && brace_at m) a.mode ∙ open_brace p.condition m (not-true _ h))
right_brace p _ c m a h = refl

-- ---- what a node refuses

path_brace : (x : Next) (b : Bool) (n : List Tok) → Front x n → is_brace_next x && b ≡ false → b || not (brace_at n) ≡ true → is_brace_next x ≡ false
path_brace next.Brace b n f q h = absurd (let r : false ≡ true = rw (q, f.brace refl) at h in cc)
path_brace _ b n f q h = refl

open_rest : (a b c d x : Bool) → a || (b || (c || (d || x))) ≡ true → a || (b || (c || (d || false))) ≡ false → x ≡ true
open_rest false false false false x h k = h
open_rest _ _ _ _ x h k = absurd cc

open_end : (b : Bool) (n : List Tok) → ends_open_range b n ≡ true → ends_open_range false n ≡ false → b && brace_at n ≡ true
unfolding ends_open_range
open_end b n h k = open_rest (is_empty n) _ (dot_at n) (word_at (codes "as") n) (b && brace_at n) h k

no_block : (b x : Bool) → x ≡ false → b && x ≡ true → ⊥
no_block b x h k = clash (b && x) k (ap (λ z. b && z) h ∙ and-false b)

-- a brace after, where none is in this class
pub range_ends : (x : Next) (b : Bool) (n : List Tok) → Front x n → is_brace_next x && b ≡ false → ends_open_range b n ≡ true → not (ends_range_next x) ≡ false
range_ends next.Range b n f q h = absurd (no_block b _ (f.brace refl) (open_end b n h (f.stops refl)))
range_ends next.OrOr b n f q h = absurd (no_block b _ (f.brace refl) (open_end b n h (f.stops refl)))
range_ends next.AndAnd b n f q h = absurd (no_block b _ (f.brace refl) (open_end b n h (f.stops refl)))
range_ends next.Less b n f q h = absurd (no_block b _ (f.brace refl) (open_end b n h (f.stops refl)))
range_ends next.Or b n f q h = absurd (no_block b _ (f.brace refl) (open_end b n h (f.stops refl)))
range_ends next.And b n f q h = absurd (no_block b _ (f.brace refl) (open_end b n h (f.stops refl)))
range_ends next.ShiftLeft b n f q h = absurd (no_block b _ (f.brace refl) (open_end b n h (f.stops refl)))
range_ends next.Minus b n f q h = absurd (no_block b _ (f.brace refl) (open_end b n h (f.stops refl)))
range_ends next.Star b n f q h = absurd (no_block b _ (f.brace refl) (open_end b n h (f.stops refl)))
range_ends next.Parenthesis b n f q h = absurd (no_block b _ (f.brace refl) (open_end b n h (f.stops refl)))
range_ends next.Bracket b n f q h = absurd (no_block b _ (f.brace refl) (open_end b n h (f.stops refl)))
range_ends next.Brace b n f q h = absurd (let r = (and_parts _ _ (open_end b n h (f.stops refl))).0 in clash b r q)
range_ends next.End b n f q h = refl
range_ends _ b n f q h = refl

no_begin : (x : Next) (n : List Tok) → Front x n → begins_expr n ≡ false → begins_next x ≡ false
no_begin x n f h = go (begins_next x) refl
  where
    go : (b : Bool) → begins_next x ≡ b → b ≡ false
    go true q = absurd (clash _ (f.begin q) h)
    go false q = refl

or_second : (a b : Bool) → not a || b ≡ true → a ≡ true → b ≡ true
or_second true b h k = h
or_second false b h k = absurd cc

break_ends : (x : Next) (b : Bool) (n : List Tok) → Front x n → is_brace_next x && b ≡ false → not (begins_expr n) || (b && brace_at n) ≡ true
    → begins_next x && not (is_block_next x) ≡ false
break_ends next.Range b n f q h = absurd (no_block b _ (f.brace refl) (or_second _ _ h (f.begin refl)))
break_ends next.OrOr b n f q h = absurd (no_block b _ (f.brace refl) (or_second _ _ h (f.begin refl)))
break_ends next.AndAnd b n f q h = absurd (no_block b _ (f.brace refl) (or_second _ _ h (f.begin refl)))
break_ends next.Less b n f q h = absurd (no_block b _ (f.brace refl) (or_second _ _ h (f.begin refl)))
break_ends next.Or b n f q h = absurd (no_block b _ (f.brace refl) (or_second _ _ h (f.begin refl)))
break_ends next.And b n f q h = absurd (no_block b _ (f.brace refl) (or_second _ _ h (f.begin refl)))
break_ends next.ShiftLeft b n f q h = absurd (no_block b _ (f.brace refl) (or_second _ _ h (f.begin refl)))
break_ends next.Minus b n f q h = absurd (no_block b _ (f.brace refl) (or_second _ _ h (f.begin refl)))
break_ends next.Star b n f q h = absurd (no_block b _ (f.brace refl) (or_second _ _ h (f.begin refl)))
break_ends next.Parenthesis b n f q h = absurd (no_block b _ (f.brace refl) (or_second _ _ h (f.begin refl)))
break_ends next.Bracket b n f q h = absurd (no_block b _ (f.brace refl) (or_second _ _ h (f.begin refl)))
break_ends next.Brace b n f q h = absurd (let r = (and_parts _ _ (or_second _ _ h (f.begin refl))).0 in clash b r q)
break_ends next.End b n f q h = refl
break_ends _ b n f q h = refl

pub jump_ends : (x : Next) (p : Place) (j : Jump) (n : List Tok) → Front x n → is_brace_next x && p.condition ≡ false → ends_jump p j n ≡ true → jump_refuses j x ≡ false
jump_ends x p e.returning n f q h = no_begin x n f (not-true _ h)
jump_ends x p e.yielding n f q h = no_begin x n f (not-true _ h)
jump_ends x p (e.breaking None) n f q h = break_ends x p.condition n f q h
jump_ends x p (e.breaking (Some w)) n f q h = break_ends x p.condition n f q (and_parts _ _ h).0

below_statement : (x : Edge) → is_statement x ≡ false → is_below_statement x ≡ false
below_statement edge.BelowStatement h = absurd cc
below_statement edge.Free h = refl
below_statement _ h = refl

and_one : (a : Bool) → a && true ≡ false → a ≡ false
and_one true h = h
and_one false h = h

pub place_brace : (p : Place) (c : Context) → Agrees p c → is_brace_next c.next && p.condition ≡ false
place_brace p c m = ap (λ b. is_brace_next c.next && b) (sym m.mode) ∙ m.brace

-- `first`: a block begins with its brace
pub leaf_shown : (p : Place) (c : Context) (k : Leaf) (l n : List Tok) → Agrees p c → Front c.next n → leaf_stands p k n ≡ true
    → is_below c.edge && is_block_leaf k ≡ false → is_braceless c.edge && brace_at l ≡ false → ((b : _) → k ≡ e.block None b → brace_at l ≡ true)
    → leaf_refuses k c.next || leaf_misplaced c k ≡ false
unfolding leaf_stands
leaf_shown p c (e.path q w) l n m f g b z i = or_from _ _ (path_brace c.next p.condition n f (place_brace p c m) (and_parts _ _ g).0) b
leaf_shown p c (e.full_range limits.HalfOpen) l n m f g b z i = or_from _ _ (range_ends c.next p.condition n f (place_brace p c m) g) b
leaf_shown p c (e.full_range limits.Closed) l n m f g b z i = absurd cc
leaf_shown p c (e.bare_jump j) l n m f g b z i = or_from _ _ (jump_ends c.next p j n f (place_brace p c m) g) b
leaf_shown p c (e.mac x) l n m f g b z i = ap (λ y. y && is_brace_delimiter x.delimiter) (below_statement c.edge m.no_statement)
leaf_shown p c (e.block None x) l n m f g b z i = or_from _ _ (and_one _ b) (and_one _ (ap (λ y. is_braceless c.edge && y) (sym (i x refl)) ∙ z))
leaf_shown p c (e.block (Some w) x) l n m f g b z i = b
leaf_shown p c _ l n m f g b z i = b

pub prefix_placed : (c : Context) (k : Prefix) → is_statement c.edge ≡ false → prefix_misplaced c k ≡ false
prefix_placed c (e.let_expr x) h = h
prefix_placed c (e.unary op) h = refl
prefix_placed c _ h = refl

pub frame_shown : (p : Place) (c : Context) (k : Frame) (ks : _) → Agrees p c → frame_stands p k ks ≡ true → is_below c.edge && is_block_frame k ≡ false → frame_misplaced c k ≡ false
unfolding frame_stands
frame_shown p c (e.structure q w d) ks m g b = m.mode ∙ (or_parts _ _ (not-true _ g)).0
frame_shown p c e.array ks m g b = b
frame_shown p c _ ks m g b = b

-- ---- what a place asks

takes_not : (t g r z : Bool) → (t ≡ true → g ≡ true) → r || not (g || z) ≡ true → t && not r ≡ false
takes_not false g r z f h = refl
takes_not true g true z f h = refl
takes_not true true false z f h = absurd cc
takes_not true false false z f h = absurd (clash false (f refl) refl)

trails_not : (t g k : Bool) → (t ≡ true → g ≡ true) → not (k && g) ≡ true → t && k ≡ false
trails_not false g k f h = refl
trails_not true g false f h = refl
trails_not true true true f h = absurd cc
trails_not true false true f h = absurd (clash false (f refl) refl)

pub fits_shown : (p : Place) (c : Next) (n : List Tok) (x : Tree) → p.head ≡ false → Front c n → ends p x n ≡ true → closes p x n ≡ true → Fits p.level x c
unfolding ends closes
fits_shown p c n x h f i j = record {
  no_operator =
      let a : is_range x || ((false && holds_block x) || not (goes_on p.level n || (refuses_dots p.level n || refuses_arrow p.level n))) ≡ true =
      ap (λ b. is_range x || ((b && holds_block x) || not (goes_on p.level n || (refuses_dots p.level n || refuses_arrow p.level n)))) (sym h) ∙ i in
      takes_not (takes_next p.level c) (goes_on p.level n) (is_range x) _ (f.op p.level) a;
  no_trailer =
      let a : not ((carries x || is_cast x) && goes_behind (false && holds_block x) n) ≡ true =
      ap (λ b. not ((carries x || is_cast x) && goes_behind (b && holds_block x) n)) (sym h) ∙ j in
      trails_not (trails c) (trailer_at n) (carries x || is_cast x) f.trailer a;
}

swap : (a b : Bool) → a && b ≡ b && a
swap true true = refl
swap true false = refl
swap false true = refl
swap false false = refl

pub left_shown : (p : Place) (op : Infix) (x : Tree) → fits_left p op x ≡ true → FitsLeft op x × (rests p x ≡ false)
unfolding fits_left
left_shown p op x h =
    let a = or_parts _ _ (not-true _ h) in
    let b = or_parts _ _ a.1 in
    (record { no_range = a.0; no_chain = swap (compares x) (is_comparison op) ∙ b.0 }, b.1)

pub prefix_head : (p : Place) (k : Prefix) → (prefix_place p k).head ≡ false
prefix_head p (e.unary op) = refl
prefix_head p _ = refl

pub base_below : (p : Place) (c : Context) (k : Trailer) (b : Tree) → Agrees p c → fits_base p k b ≡ true → is_below (base_context k c).edge && is_block_like b ≡ false
unfolding fits_base
base_below p c e.call b m h = no_block_held (is_below (base_context e.call c).edge) b (below_left c.edge p.head _ m.head m.no_statement (not-true _ (and_parts _ _ h).1))
base_below p c e.index b m h = no_block_held (is_below (base_context e.index c).edge) b (below_left c.edge p.head _ m.head m.no_statement (not-true _ (and_parts _ _ h).1))
base_below p c _ b m h = ap (λ z. z && is_block_like b) (dot_above c.edge)

pub base_braceless : (k : Trailer) (x : Edge) → is_braceless (base_edge k x) ≡ is_braceless x
base_braceless e.call x = left_braceless x
base_braceless e.index x = left_braceless x
base_braceless _ x = dot_braceless x

pub postfix_shown : (p : Place) (c : Context) (k : _) (n : List Tok) → Agrees p c → Front c.next n → postfix_stands p (e.range_from k) n ≡ true → not (ends_range_next c.next) ≡ false
unfolding postfix_stands
postfix_shown p c limits.HalfOpen n m f h = range_ends c.next p.condition n f (place_brace p c m) h
postfix_shown p c limits.Closed n m f h = absurd cc

-- Places and contexts; what a place asks of its occupant, from the class of what is after.
use Rattle.std.proofs.Common.{◌≡◌, ℕ, Bool, true, false, not, ◌&&◌, ◌||◌, List, drop, Some, None, refl, sym, ◌∙◌, ap, subst}
use Rattle.std.proofs.Math.Bool.{and-false, or-true, or-false}
use Rattle.std.proofs.lemmas.Bool.{or_parts, or_from, not-true}
use Rattle.syn_tokens.specs.Tok.{Tok}
use Rattle.syn_lower_spec.specs.Mark.{sign_at, word_at, round_at}
use Rattle.syn_expr_spec.specs.declared.kinds.BinKind.TheVariants as bin
use Rattle.syn_expr_spec.specs.declared.kinds.Limits.TheVariants as limits
use Rattle.syn_expr_spec.specs.declared.kinds.Infix.{Infix}
use Rattle.syn_expr_spec.specs.declared.kinds.Infix.TheVariants as inf
use Rattle.syn_expr_spec.specs.declared.kinds.Precedence.{Precedence}
use Rattle.syn_expr_spec.specs.declared.kinds.Precedence.TheVariants as lev
use Rattle.syn_expr_spec.specs.declared.kinds.Place.{Place}
use Rattle.syn_expr_spec.specs.declared.next.Next.{Next}
use Rattle.syn_expr_spec.specs.declared.next.Next.TheVariants as next
use Rattle.syn_expr_spec.specs.declared.next.Edge.{Edge}
use Rattle.syn_expr_spec.specs.declared.next.Edge.TheVariants as edge
use Rattle.syn_expr_spec.specs.declared.next.Context.{Context}
use Rattle.syn_expr_spec.specs.Place.{plain, before_block, at_head, at, above}
use Rattle.syn_expr_spec.specs.Op.{infix_at, level, is_comparison, is_range_op}
use Rattle.syn_expr_spec.specs.Front.{trailer_at, bracket_at, dot_at, question_at}
use Rattle.syn_expr_spec.specs.Next.{class_of, next_of, takes_next, trails, is_block_next, left_edge, dot_edge, base_edge, attributed_edge, braceless, enclosed, in_statement, in_condition, in_arm, is_half_open, is_break, left_context, base_context, right_context, attributed_context, prefix_context, without_block, prefix_level}
use Rattle.syn_expr_spec.specs.Rule.{is_operation, prints_range, is_below, leaf_misplaced, frame_misplaced}
use Rattle.syn_expr_spec.specs.Stands.{is_infix, is_range, is_cast, carries, compares, is_verbatim, is_attributed, is_if_expr, takes_attributes, rests, goes_behind, closes, is_jump_or_let, ends, ends_operation, fits_left, is_named, is_parenthesis_or_bracket, is_base, fits_base, prefix_place}
use Rattle.syn_expr_spec.specs.Tree as e
use Rattle.syn_expr_spec.specs.Tree.{Tree, Children, Leaf, Prefix, Frame, Trailer, leaf, paren, attributed, postfixed, tail, frame, none, is_block_like, is_block_leaf, is_block_frame, infix_own, clear, clear_children}
use Rattle.syn_expr_spec.proofs.Formed.{Formed, block_held, formed_holds}
use Rattle.syn_expr_spec.proofs.Obeys.{Fits, FitsLeft, Obeys}
use Rattle.syn_expr_spec.proofs.Shows.{Shows, is_round_next, shows_op}

-- ---- the tree without marks

pub range_clear : (t : Tree) → is_range (clear t) ≡ is_range t
range_clear (leaf k) = refl
range_clear (attributed a more t) = range_clear t
range_clear _ = refl

pub infix_clear : (t : Tree) → is_infix (clear t) ≡ is_infix t
infix_clear (leaf k) = refl
infix_clear _ = refl

pub compares_clear : (t : Tree) → compares (clear t) ≡ compares t
compares_clear (leaf k) = refl
compares_clear _ = refl

pub attributed_clear : (t : Tree) → is_attributed (clear t) ≡ is_attributed t
attributed_clear (leaf k) = refl
attributed_clear _ = refl

pub carries_clear : (t : Tree) → carries (clear t) ≡ carries t
carries_clear (leaf k) = refl
carries_clear (attributed a more t) = carries_clear t
carries_clear _ = refl

pub cast_clear : (t : Tree) → is_cast (clear t) ≡ is_cast t
cast_clear (leaf k) = refl
cast_clear _ = refl

pub verbatim_clear : (t : Tree) → Formed t → is_verbatim (clear t) ≡ false
verbatim_clear (leaf (e.lit x)) f = refl
verbatim_clear (leaf (e.verbatim ts)) f = absurd cc
verbatim_clear _ f = refl

pub base_clear : (k : Trailer) (t : Tree) → is_base k (clear t) ≡ is_base k t
base_clear k (attributed a more t) = and-false _ ∙ sym (and-false _)
base_clear k (tail b (e.field m) ks) = refl
base_clear k _ = refl

if_expr_frame : (k : Frame) (ks us : Children) → is_if_expr (frame k ks) ≡ is_if_expr (frame k us)
if_expr_frame e.array ks us = refl
if_expr_frame _ ks us = refl

pub if_expr_clear : (t : Tree) → is_if_expr (clear t) ≡ is_if_expr t
if_expr_clear (leaf k) = refl
if_expr_clear (frame k ks) = if_expr_frame k (clear_children ks) ks
if_expr_clear _ = refl

-- ---- places and contexts

abbrev pub heads : Edge → Bool
heads edge.Free = false
heads edge.NoBrace = false
heads x = true

pub record Meets (p : Place) (c : Context) : Type 0 where
  pub mode : p.condition ≡ c.condition
  pub head : p.head ≡ heads c.edge
  -- a brace that opens a block is after a condition
  pub block : is_block_next c.next && not c.condition ≡ false

pub meets_plain : Meets plain enclosed
meets_plain = record { mode = refl; head = refl; block = refl }

pub meets_statement : Meets at_head in_statement
meets_statement = record { mode = refl; head = refl; block = refl }

pub meets_arm : Meets at_head in_arm
meets_arm = record { mode = refl; head = refl; block = refl }

pub meets_condition : Meets before_block in_condition
meets_condition = record { mode = refl; head = refl; block = refl }

heads_left : (x : Edge) → heads x ≡ heads (left_edge x)
heads_left edge.Free = refl
heads_left _ = refl

heads_dot : (x : Edge) → heads x ≡ heads (dot_edge x)
heads_dot edge.Free = refl
heads_dot _ = refl

heads_base : (k : Trailer) (x : Edge) → heads x ≡ heads (base_edge k x)
heads_base e.call x = heads_left x
heads_base e.index x = heads_left x
heads_base _ x = heads_dot x

heads_attributed : (x : Edge) → heads x ≡ heads (attributed_edge x)
heads_attributed edge.Free = refl
heads_attributed _ = refl

not_heads : (b : Bool) → false ≡ heads (braceless b)
not_heads true = refl
not_heads false = refl

trailer_no_block : (k : Trailer) → is_block_next (next_of k) ≡ false
trailer_no_block e.call = refl
trailer_no_block _ = refl

-- no operator is a trailer, nor a brace
pub record IsOperator (n : Next) : Type 0 where
  pub no_trailer : trails n ≡ false
  pub no_block : is_block_next n ≡ false
  pub no_round : is_round_next n ≡ false

pub operator_class : (k : Infix) → IsOperator (class_of k)
operator_class (inf.Binary bin.Add) = record { no_trailer = refl; no_block = refl; no_round = refl }
operator_class (inf.Range limits.HalfOpen) = record { no_trailer = refl; no_block = refl; no_round = refl }
operator_class _ = record { no_trailer = refl; no_block = refl; no_round = refl }

-- how many tokens an operator has
abbrev pub count_of : Infix → ℕ
count_of (inf.Binary bin.Add) = 1
count_of (inf.Binary bin.Sub) = 1
count_of (inf.Binary bin.Mul) = 1
count_of (inf.Binary bin.Div) = 1
count_of (inf.Binary bin.Rem) = 1
count_of (inf.Binary bin.BitXor) = 1
count_of (inf.Binary bin.BitAnd) = 1
count_of (inf.Binary bin.BitOr) = 1
count_of (inf.Binary bin.Lt) = 1
count_of (inf.Binary bin.Gt) = 1
count_of (inf.Binary bin.ShlAssign) = 3
count_of (inf.Binary bin.ShrAssign) = 3
count_of inf.Assign = 1
count_of (inf.Range limits.Closed) = 3
count_of inf.Cast = 1
count_of _ = 2

pub own_infix : (k : Infix) (l : List Tok) → infix_at (infix_own k l) ≡ Some (k, count_of k)
unfolding infix_at sign_at word_at
own_infix (inf.Binary bin.Add) l = refl
own_infix (inf.Range limits.HalfOpen) l = refl
own_infix _ l = refl

pub own_drop : (k : Infix) (l : List Tok) → drop (count_of k) (infix_own k l) ≡ l
own_drop (inf.Binary bin.Add) l = refl
own_drop (inf.Range limits.HalfOpen) l = refl
own_drop _ l = refl

pub meets_left : (p : Place) (k : Infix) (c : Context) → Meets p c → Meets p (left_context k c)
meets_left p k c m = record { mode = m.mode; head = m.head ∙ heads_left c.edge; block = rw (operator_class k).no_block refl }

pub meets_base : (p : Place) (k : Trailer) (c : Context) → Meets p c → Meets p (base_context k c)
meets_base p k c m = record { mode = m.mode; head = m.head ∙ heads_base k c.edge; block = rw (trailer_no_block k) refl }

pub meets_attributed : (p : Place) (c : Context) → Meets p c → Meets p (attributed_context c)
meets_attributed p c m = record { mode = m.mode; head = m.head ∙ heads_attributed c.edge; block = m.block }

pub meets_right : (p : Place) (k : Infix) (c : Context) → Meets p c → Meets (at p (level k)) (right_context k c)
meets_right p k c m = record { mode = m.mode; head = not_heads (is_half_open k && c.condition); block = m.block }

jump_no_block : (n : Next) → is_block_next (without_block n) && true ≡ false
jump_no_block next.End = refl
jump_no_block _ = refl

pub meets_prefix : (p : Place) (k : Prefix) (c : Context) → Meets p c → Meets (prefix_place p k) (prefix_context k c)
meets_prefix p (e.range_to op) c m = record { mode = m.mode; head = not_heads (is_half_open (inf.Range op) && c.condition); block = m.block }
meets_prefix p (e.jump j) c m = record { mode = refl; head = not_heads (is_break j && c.condition); block = jump_no_block c.next }
meets_prefix p _ c m = record { mode = m.mode; head = refl; block = m.block }

pub prefix_level_is : (p : Place) (k : Prefix) → prefix_level k ≡ (prefix_place p k).level
prefix_level_is p (e.unary op) = refl
prefix_level_is p _ = refl

-- ---- at a head

below_attributed : (x : Edge) → is_below (attributed_edge x) ≡ is_below x
below_attributed edge.Free = refl
below_attributed _ = refl

right_false : (a b : Bool) → a ≡ true → a && b ≡ false → b ≡ false
right_false true b e h = h
right_false false b e h = absurd cc

below_leaf : (c : Context) (k : Leaf) → is_below c.edge ≡ true → leaf_misplaced c k ≡ false → is_block_leaf k ≡ false
below_leaf c (e.block None b) e h = absurd (let f : true ≡ false = sym e ∙ (or_parts _ _ h).0 in cc)
below_leaf c (e.mac m) e h = refl
below_leaf c k e h = right_false _ _ e h

below_frame : (c : Context) (k : Frame) → is_below c.edge ≡ true → frame_misplaced c k ≡ false → is_block_frame k ≡ false
below_frame c e.array b h = refl
below_frame c e.if_expr b h = absurd (let f : true ≡ false = sym (rw b refl) ∙ h in cc)
below_frame c (e.while_loop w) b h = absurd (let f : true ≡ false = sym (rw b refl) ∙ h in cc)
below_frame c (e.for_loop w p) b h = absurd (let f : true ≡ false = sym (rw b refl) ∙ h in cc)
below_frame c e.match_expr b h = absurd (let f : true ≡ false = sym (rw b refl) ∙ h in cc)
below_frame c _ b h = refl

-- on the left at a head no block-like expression is
no_block : (v : Precedence) (c : Context) (t : Tree) → is_below c.edge ≡ true → Obeys v c t → is_block_like t ≡ false
no_block v c (leaf k) b h = below_leaf c k b (or_parts _ _ h).1
no_block v c (paren m t) b h = refl
no_block v c (attributed a more t) b h = no_block v (attributed_context c) t (below_attributed c.edge ∙ b) h.1
no_block v c (frame k ks) b h = below_frame c k b h.0
no_block v c _ b h = refl

-- left of an operator, a call or an index
pub goes_free : (p : Place) (v : Precedence) (c d : Context) (t : Tree) → Meets p c → d.edge ≡ left_edge c.edge → Formed t → Obeys v d t → rests p (clear t) ≡ false
goes_free p v c d t m s f h = go c.edge refl
  where
    below : is_below d.edge ≡ true → rests p (clear t) ≡ false
    below b = rw (formed_holds t f, no_block v d t b h) (and-false p.head)

    go : (x : Edge) → c.edge ≡ x → rests p (clear t) ≡ false
    go edge.Free i = rw (m.head, i) refl
    go edge.NoBrace i = rw (m.head, i) refl
    go _ i = below (rw (s, i) refl)

-- ---- what may come after

no_trailer_behind : (r b q d : Bool) → r || (b || (q || d)) ≡ false → d || q ≡ false
no_trailer_behind r b q d h =
    let x = or_parts r _ h in
    let y = or_parts b _ x.1 in
    let z = or_parts q _ y.1 in
    or_from _ _ z.1 z.0

none_behind : (w : Bool) (l : List Tok) → trailer_at l ≡ false → goes_behind w l ≡ false
unfolding trailer_at
none_behind true l h = no_trailer_behind (round_at l) (bracket_at l) (question_at l) (dot_at l) h
none_behind false l h = h

not_and : (a b c : Bool) → a && b ≡ false → (a ≡ false → c ≡ false) → not (b && c) ≡ true
not_and true true c h g = absurd cc
not_and true false c h g = refl
not_and false true c h g = rw (g refl) refl
not_and false false c h g = refl

pub closes_by : (p : Place) (x : Tree) (l : List Tok) → trailer_at l && (carries x || is_cast x) ≡ false → closes p x l ≡ true
unfolding closes
closes_by p x l h = not_and (trailer_at l) (carries x || is_cast x) _ h (none_behind (rests p x) l)

pub fits_closes : (p : Place) (v : Precedence) (t : Tree) (n : Next) (l : List Tok) → Shows n l → Fits v t n → closes p (clear t) l ≡ true
fits_closes p v t n l s f = closes_by p (clear t) l (rw (ap (λ x. x.trailer) s.same, carries_clear t, cast_clear t) f.no_trailer)

ends_or : (r w g a b : Bool) → g && not r ≡ false → r || (w || not (g || ((a && false) || (b && false)))) ≡ true
ends_or true w g a b h = refl
ends_or false true g a b h = refl
ends_or false false true a b h = absurd cc
ends_or false false false true true h = refl
ends_or false false false true false h = refl
ends_or false false false false true h = refl
ends_or false false false false false h = refl

pub fits_ends : (p : Place) (t : Tree) (n : Next) (l : List Tok) → Shows n l → Fits p.level t n → ends p (clear t) l ≡ true
unfolding ends
fits_ends p t n l s f =
    rw (range_clear t, shows_op n l s p.level, ap (λ x. x.dots) s.same, ap (λ x. x.arrow) s.same)
    (ends_or (is_range t) (rests p (clear t)) (takes_next p.level n) (above lev.Range p.level) (is_jump_or_let p.level) f.no_operator)

pub left_closes : (p : Place) (x : Tree) (k : Infix) (l : List Tok) → Shows (class_of k) l → closes p x l ≡ true
left_closes p x k l s = closes_by p x l (rw (ap (λ x. x.trailer) s.same, (operator_class k).no_trailer) refl)

not_three : (r a b w : Bool) → r ≡ false → a && b ≡ false → w ≡ false → not (r || ((b && a) || w)) ≡ true
not_three r true true w p q s = absurd cc
not_three r true false w p q s = rw (p, s) refl
not_three r false true w p q s = rw (p, s) refl
not_three r false false w p q s = rw (p, s) refl

pub left_fits : (p : Place) (k : Infix) (t : Tree) → FitsLeft k t → rests p (clear t) ≡ false → fits_left p k (clear t) ≡ true
unfolding fits_left
left_fits p k t f h = rw (range_clear t, compares_clear t) (not_three (is_range t) (compares t) (is_comparison k) (rests p (clear t)) f.no_range f.no_chain h)

pub base_fits : (p : Place) (k : Trailer) (t : Tree) → is_base k t ≡ true → is_parenthesis_or_bracket k && rests p (clear t) ≡ false → fits_base p k (clear t) ≡ true
unfolding fits_base
base_fits p k t b h = rw (base_clear k t, b, h) refl

pub operation_ends : (k : Infix) (n : Next) (l : List Tok) → Shows n l → ends_operation k l ≡ true
unfolding ends_operation
operation_ends k n l s = rw (ap (λ x. x.arrow) s.same) (or-true (is_range_op k))

unadorned_range : (t : Tree) → is_attributed t ≡ false → prints_range t ≡ false → is_range t ≡ false
unadorned_range (paren m t) a h = refl
unadorned_range (attributed b more t) a h = absurd cc
unadorned_range (tail b k ks) a h = refl
unadorned_range (frame k ks) a h = refl
unadorned_range _ a h = h

pub takes_attributes_there : (p : Place) (t : Tree) → Formed t → is_attributed t ≡ false → is_operation t ≡ false → takes_attributes p (clear t) ≡ true
takes_attributes_there p t f a o =
    let q = or_parts (is_infix t) (prints_range t) o in
    rw (infix_clear t, q.0, attributed_clear t, a, verbatim_clear t f, range_clear t, unadorned_range t a q.1) (or-true p.head)

-- ---- a named field or a cast before `(`

abbrev pub ends_named : Tree → Bool
ends_named (tail b (e.field m) ks) = is_named m
ends_named (attributed a more t) = ends_named t
ends_named _ = false

pub record Calls (t : Tree) (n : Next) : Type 0 where
  pub none : is_round_next n && (ends_named t || is_cast t) ≡ false

named_carries : (t : Tree) → carries t ≡ false → ends_named t ≡ false
named_carries (leaf k) h = refl
named_carries (attributed a more t) h = named_carries t h
named_carries (tail b k ks) h = absurd cc
named_carries _ h = refl

round_trails : (n : Next) (a b : Bool) → trails n && a ≡ false → (a ≡ false → b ≡ false) → is_round_next n && b ≡ false
round_trails next.Parenthesis a b h g = g h
round_trails next.End a b h g = refl
round_trails _ a b h g = refl

pub fits_calls : (v : Precedence) (t : Tree) (n : Next) → Fits v t n → Calls t n
fits_calls v t n f = record { none = round_trails n (carries t || is_cast t) _ f.no_trailer (λ h. let p = or_parts _ _ h in or_from _ _ (named_carries t p.0) p.1) }

pub left_calls : (t : Tree) (k : Infix) → Calls t (class_of k)
left_calls t k = record { none = rw (operator_class k).no_round refl }

base_call : (t : Tree) → is_base e.call t ≡ true → ends_named t || is_cast t ≡ false
base_call (leaf k) h = refl
base_call (attributed a more t) h = absurd (let f : true ≡ false = sym h ∙ and-false _ in cc)
base_call (postfixed x k) h = absurd cc
base_call (tail b (e.field m) ks) h = or-false _ ∙ not-true _ h
base_call _ h = refl

pub base_calls : (t : Tree) (k : Trailer) → is_base k t ≡ true → Calls t (next_of k)
base_calls t e.call h = record { none = base_call t h }
base_calls t _ h = record { none = refl }

pub attributed_calls : (a : _) (more : _) (t : Tree) (n : Next) → is_operation t ≡ false → Calls (attributed a more t) n → Calls t n
attributed_calls a more t n o h = record { none = ap (λ x. is_round_next n && (ends_named t || x)) (no_cast t o) ∙ h.none }
  where
    no_cast : (t : Tree) → is_operation t ≡ false → is_cast t ≡ false
    no_cast (postfixed x k) h = absurd cc
    no_cast _ h = refl

-- ---- operands of frames and trailers

pub level_fits : (v w : Precedence) (t : Tree) (n : Next) → v ≡ w → Fits v t n → Fits w t n
level_fits v w t n e f = subst (λ x. Fits x t n) e f

pub level_obeys : (v w : Precedence) (c : Context) (t : Tree) → v ≡ w → Obeys v c t → Obeys w c t
level_obeys v w c t e h = subst (λ x. Obeys x c t) e h

-- nothing that follows an operand in a place of its own goes on with it
pub end_fits : (t : Tree) → Fits lev.Jump t next.End
end_fits t = record { no_operator = refl; no_trailer = refl }

pub block_fits : (t : Tree) → Fits lev.Jump t next.Block
block_fits t = record { no_operator = refl; no_trailer = refl }

-- a block-like whole at a head comes before all but `.` and `?`
pub rests_ends : (x : Tree) (l : List Tok) → is_block_like x ≡ true → ends at_head x l ≡ true
unfolding ends
rests_ends x l h = rw (block_held x h) (or-true (is_range x))

pub rests_closes : (x : Tree) (l : List Tok) → is_block_like x ≡ true → dot_at l ≡ false → question_at l ≡ false → closes at_head x l ≡ true
unfolding closes
rests_closes x l h d q = rw (block_held x h, d, q) (flat (carries x || is_cast x))
  where
    flat : (b : Bool) → not (b && false) ≡ true
    flat true = refl
    flat false = refl

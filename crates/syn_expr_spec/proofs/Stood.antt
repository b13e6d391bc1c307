-- The tests of a node hold for its own tokens, from the class of what is after.
use Rattle.std.proofs.Common.{◌≡◌, Bool, true, false, not, ◌&&◌, ◌||◌, List, [], ◌∷◌, drop, Some, None, refl, sym, ◌∙◌, ap, codes}
use Rattle.std.proofs.Math.Bool.{and-false, or-true, and-true}
use Rattle.std.proofs.lemmas.Bool.{or_parts, and_parts, not-false}
use Rattle.syn_tokens.specs.Tok.{Tok}
use Rattle.syn_tokens.specs.Front.{is_empty}
use Rattle.syn_lower_spec.specs.Tree as t
use Rattle.syn_lower_spec.specs.Tree.{TypeTree, ReturnTree}
use Rattle.syn_lower_spec.specs.Mark.{sign_at, word_at, brace_at, lifetime_at}
use Rattle.syn_lower_spec.specs.Part.{is_default, is_bare}
use Rattle.syn_lower_spec.specs.Ends.{ends_open}
use Rattle.syn_lower_spec.specs.Fits.{type_stops, output_stops}
use Rattle.syn_lower_spec.proofs.Ends.{parts_end}
use Rattle.syn_lower_spec.proofs.Whole.{parts_read_back}
use Rattle.syn_expr_spec.specs.declared.kinds.Limits.TheVariants as limits
use Rattle.syn_expr_spec.specs.declared.kinds.Infix.{Infix}
use Rattle.syn_expr_spec.specs.declared.kinds.Infix.TheVariants as inf
use Rattle.syn_expr_spec.specs.declared.kinds.Precedence.{Precedence}
use Rattle.syn_expr_spec.specs.declared.kinds.Place.{Place}
use Rattle.syn_expr_spec.specs.declared.next.Next.{Next}
use Rattle.syn_expr_spec.specs.declared.next.Edge.{Edge}
use Rattle.syn_expr_spec.specs.declared.next.Edge.TheVariants as edge
use Rattle.syn_expr_spec.specs.declared.next.Context.{Context}
use Rattle.syn_expr_spec.specs.Op.{level, infix_at}
use Rattle.syn_expr_spec.specs.Front.{some_sign, begins_expr, ends_open_range, dot_at}
use Rattle.syn_expr_spec.specs.Next.{begins_next, is_block_next, is_brace_next, left_edge, base_edge, braceless, left_context, base_context, right_context, prefix_context, prefix_level}
use Rattle.syn_expr_spec.specs.Rule.{ends_range_next, jump_refuses, leaf_refuses, is_less_next, postfix_refuses, is_braceless, is_below, is_bare_break}
use Rattle.syn_expr_spec.specs.Path.{is_try_alone, is_word_alone}
use Rattle.syn_expr_spec.specs.Stands.{ends_jump, leaf_stands, prefix_stands, infix_stands, postfix_stands, postfix_behind}
use Rattle.syn_expr_spec.specs.Tree as e
use Rattle.syn_expr_spec.specs.Tree.{Tree, Leaf, Prefix, Postfix, Jump, Trailer, leaf, infixed, postfixed, tail, postfix_op, postfix_own}
use Rattle.syn_expr_spec.specs.WellFormed.{leaf_fits, prefix_fits, infix_fits, postfix_fits}
use Rattle.syn_expr_spec.proofs.HeadBack.{prefix_stops, label_stops}
use Rattle.syn_expr_spec.proofs.HeadForms.{leaf_stops}
use Rattle.syn_expr_spec.proofs.Obeys.{Obeys}
use Rattle.syn_expr_spec.proofs.Shows.{Shows, is_round_next}
use Rattle.syn_expr_spec.proofs.OwnFronts.{Front, begins_brace}
use Rattle.syn_expr_spec.proofs.Places.{Meets, Calls, count_of}

-- ---- a brace after

-- after what is in a condition a brace opens a block
block_mode : (p : Place) (c : Context) → Meets p c → is_block_next c.next ≡ true → p.condition ≡ true
block_mode p c m b = m.mode ∙ go (is_block_next c.next) c.condition b m.block
  where
    go : (a b : Bool) → a ≡ true → a && not b ≡ false → b ≡ true
    go true true e h = refl
    go true false e h = absurd cc
    go false b e h = absurd cc

brace_is : (n : Next) (l : List Tok) → Shows n l → brace_at l ≡ is_block_next n || is_brace_next n
brace_is n l s = ap (λ x. x.brace) s.same

bare_path : (p b n : Bool) → (b ≡ true → p ≡ true) → n ≡ false → p || not (b || n) ≡ true
bare_path true b n f h = refl
bare_path false true n f h = absurd (let g = f refl in cc)
bare_path false false true f h = absurd cc
bare_path false false false f h = refl

-- ---- the end of a range without an end

monotone : (a b c d w : Bool) → a || (b || (c || (d || false))) ≡ true → a || (b || (c || (d || w))) ≡ true
monotone false false false false w h = absurd cc
monotone _ _ _ _ w h = refl

last_true : (a b c d w : Bool) → w ≡ true → a || (b || (c || (d || w))) ≡ true
last_true a b c d w h = rw (h, or-true d, or-true c, or-true b) (or-true a)

stop_signs : List Tok → Bool
stop_signs l =
    some_sign (codes "," ∷ codes ";" ∷ codes "?" ∷ codes "=" ∷ codes "+" ∷ codes "/" ∷ codes "%" ∷ codes "^" ∷ codes ">"
    ∷ codes "<=" ∷ codes "!=" ∷ codes "-=" ∷ codes "*=" ∷ codes "&=" ∷ codes "|=" ∷ codes "<<=" ∷ []) l

ends_more : (w : Bool) (l : List Tok) → ends_open_range false l ≡ true → ends_open_range w l ≡ true
unfolding ends_open_range stop_signs
ends_more w l h = monotone (is_empty l) (stop_signs l) (dot_at l) (word_at (codes "as") l) (w && brace_at l) h

ends_block : (w : Bool) (l : List Tok) → w && brace_at l ≡ true → ends_open_range w l ≡ true
unfolding ends_open_range stop_signs
ends_block w l h = last_true (is_empty l) (stop_signs l) (dot_at l) (word_at (codes "as") l) (w && brace_at l) h

not_last : (a b c d w : Bool) → a || (b || (c || (d || false))) ≡ false → w ≡ false → a || (b || (c || (d || w))) ≡ false
not_last a b c d w h e = rw e h

-- no end of a range is where an expression begins, but for a brace in a condition
ends_not : (w : Bool) (l : List Tok) → ends_open_range false l ≡ false → w && brace_at l ≡ false → ends_open_range w l ≡ false
unfolding ends_open_range stop_signs
ends_not w l h b = not_last (is_empty l) (stop_signs l) (dot_at l) (word_at (codes "as") l) (w && brace_at l) h b

pub open_ends : (p : Place) (c : Context) (l : List Tok) → Meets p c → Shows c.next l → ends_range_next c.next ≡ true → ends_open_range p.condition l ≡ true
open_ends p c l m s h = go (begins_next c.next) refl
  where
    go : (b : Bool) → begins_next c.next ≡ b → ends_open_range p.condition l ≡ true
    go false e = ends_more p.condition l (ap (λ x. x.stops) s.same ∙ rw e refl)
    go true e =
        let b : is_block_next c.next ≡ true = sym (ap (λ x. not x || is_block_next c.next) e) ∙ h in
        ends_block p.condition l (rw (block_mode p c m b, brace_is c.next l s, b) refl)

-- ---- leaves

jump_ends : (p : Place) (c : Context) (j : Jump) (l : List Tok) → Meets p c → Shows c.next l → jump_refuses j c.next ≡ false → ends_jump p j l ≡ true
jump_ends p c e.returning l m s h = rw (ap (λ x. x.begins) s.same, h) refl
jump_ends p c e.yielding l m s h = rw (ap (λ x. x.begins) s.same, h) refl
jump_ends p c (e.breaking w) l m s h = label w (go (begins_next c.next) refl)
  where
    go : (b : Bool) → begins_next c.next ≡ b → not (begins_expr l) || (p.condition && brace_at l) ≡ true
    go false e = rw (ap (λ x. x.begins) s.same, e) refl
    go true e =
        let b : is_block_next c.next ≡ true = not-false _ (sym (ap (λ x. x && not (is_block_next c.next)) e) ∙ h) in
        rw (block_mode p c m b, brace_is c.next l s, b) (or-true (not (begins_expr l)))

    label : (w : _) → not (begins_expr l) || (p.condition && brace_at l) ≡ true → ends_jump p (e.breaking w) l ≡ true
    label None h = h
    label (Some w) h = rw (h, ap (λ x. x.colon) s.same) refl

pub leaf_there : (p : Place) (c : Context) (k : Leaf) (l : List Tok) → leaf_fits k ≡ true → Meets p c → Shows c.next l → leaf_refuses k c.next ≡ false → leaf_stands p k l ≡ true
unfolding leaf_stands
leaf_there p c (e.path q w) l f m s h =
    let t = and_parts _ (not (is_try_alone q w)) f in
    rw (brace_is c.next l s, bare_path p.condition (is_block_next c.next) (is_brace_next c.next) (block_mode p c m) h, t.1, ap (λ x. x.pound) s.same)
    (no_pound (is_word_alone (codes "builtin") q w))
  where
    no_pound : (b : Bool) → not (b && false) ≡ true
    no_pound true = refl
    no_pound false = refl
leaf_there p c (e.full_range limits.HalfOpen) l f m s h = open_ends p c l m s (not-false _ h)
leaf_there p c (e.full_range limits.Closed) l f m s h = absurd cc
leaf_there p c (e.bare_jump j) l f m s h = jump_ends p c j l m s h
leaf_there p c _ l f m s h = refl

nothing_first : (w : _) (l : List Tok) → lifetime_at l ≡ false → label_stops w l ≡ true
nothing_first None l h = rw h refl
nothing_first (Some w) l h = refl

pub leaf_stopped : (n : Next) (k : Leaf) (l : List Tok) → Shows n l → leaf_stops k l ≡ true
leaf_stopped n (e.path q w) l s = rw (ap (λ x. x.colon2) s.same, ap (λ x. x.bang) s.same, ap (λ x. x.pound) s.same, and-false (is_bare (q, w)), and-false (is_word_alone (codes "builtin") q w)) refl
leaf_stopped n (e.bare_jump e.returning) l s = refl
leaf_stopped n (e.bare_jump (e.breaking w)) l s = nothing_first w l (ap (λ x. x.lifetime) s.same)
leaf_stopped n (e.continuing w) l s = nothing_first w l (ap (λ x. x.lifetime) s.same)
leaf_stopped n _ l s = refl

-- ---- no brace first

braceless_left : (x : Edge) → is_braceless x ≡ true → is_braceless (left_edge x) ≡ true
braceless_left edge.NoBrace h = refl
braceless_left x h = absurd cc

braceless_base : (k : Trailer) (x : Edge) → is_braceless x ≡ true → is_braceless (base_edge k x) ≡ true
braceless_base e.call edge.NoBrace h = refl
braceless_base e.index edge.NoBrace h = refl
braceless_base (e.method w a) edge.NoBrace h = refl
braceless_base (e.field m) edge.NoBrace h = refl
braceless_base e.await edge.NoBrace h = refl
braceless_base e.try_expr edge.NoBrace h = refl
braceless_base k x h = absurd cc

pub no_brace : (v : Precedence) (c : Context) (t : Tree) → is_braceless c.edge ≡ true → Obeys v c t → begins_brace t ≡ false
no_brace v c (leaf (e.block None b)) i h = absurd (let f : true ≡ false = sym i ∙ (or_parts (is_below c.edge) (is_braceless c.edge) h).1 in cc)
no_brace v c (leaf (e.block (Some w) b)) i h = refl
no_brace v c (infixed x k y) i h = no_brace v (left_context k c) x (braceless_left c.edge i) h.1
no_brace v c (postfixed x k) i h = no_brace v (left_context (postfix_op k) c) x (braceless_left c.edge i) h.1
no_brace v c (tail b k ks) i h = no_brace v (base_context k c) b (braceless_base k c.edge i) h.1
no_brace v c _ i h = refl

braced_so : (b : Bool) → b ≡ true → is_braceless (braceless b) ≡ true
braced_so true h = refl
braced_so false h = absurd cc

-- in a condition no brace is the first token there
free_of_brace : (p : Place) (c d : Context) (v : Precedence) (w b : Bool) (t : Tree) (l : List Tok) → Meets p c → d.edge ≡ braceless (w && c.condition) → Obeys v d t
    → brace_at l ≡ begins_brace t → w ≡ true → p.condition && brace_at l ≡ false
free_of_brace p c d v w b t l m g h e i = go c.condition refl
  where
    go : (x : Bool) → c.condition ≡ x → p.condition && brace_at l ≡ false
    go false j = rw (m.mode, j) refl
    go true j = rw (e, no_brace v d t (ap is_braceless g ∙ braced_so (w && c.condition) (rw (i, j) refl)) h) (and-false p.condition)

-- ---- before an operand

begun_jump : (a b : Bool) → a ≡ true → b ≡ false → not (not a || b) && a ≡ true
begun_jump a b h k = rw (h, k) refl

pub prefix_there : (p : Place) (c : Context) (k : Prefix) (t : Tree) (l : List Tok) (b d : Bool) → prefix_fits k ≡ true → Meets p c
    → Obeys (prefix_level k) (prefix_context k c) t → Front (begins_brace t) b d l → prefix_stands p k l ≡ true
unfolding prefix_stands
prefix_there p c (e.unary op) t l b d f m h r = refl
prefix_there p c (e.range_to limits.HalfOpen) t l b d f m h r =
    rw (ends_not p.condition l r.stops (free_of_brace p c (prefix_context (e.range_to limits.HalfOpen) c) _ true b t l m refl h r.brace refl)) refl
prefix_there p c (e.jump e.returning) t l b d f m h r = rw r.begins refl
prefix_there p c (e.jump e.yielding) t l b d f m h r = rw r.begins refl
prefix_there p c (e.jump (e.breaking None)) t l b d f m h r =
    begun_jump (begins_expr l) (p.condition && brace_at l) r.begins (free_of_brace p c (prefix_context (e.jump (e.breaking None)) c) _ true b t l m refl h r.brace refl)
prefix_there p c (e.jump (e.breaking (Some w))) t l b d f m h r =
    let i = free_of_brace p c (prefix_context (e.jump (e.breaking (Some w))) c) _ true b t l m refl h r.brace refl in
    rw (i, r.begins) refl
prefix_there p c (e.closure x) t l b d f m h r = (and_parts _ (is_default x.output) f).1
prefix_there p c _ t l b d f m h r = refl

output_stopped : (o : ReturnTree) (l : List Tok) → is_default o ≡ true → sign_at (codes "->") l ≡ false → output_stops true o l ≡ true
output_stopped t.default l h e = rw e refl
output_stopped (t.given x) l h e = absurd cc

pub prefix_stopped : (k : Prefix) (l : List Tok) (a b d : Bool) → prefix_fits k ≡ true → Front a b d l → is_bare_break k && b ≡ false → prefix_stops k l ≡ true
prefix_stopped (e.unary op) l a b d f r h = refl
prefix_stopped (e.reference false) l a b d f r h = rw (r.no_mut, r.no_raw) refl
prefix_stopped (e.jump (e.breaking None)) l a b d f r h = rw (r.label, h) refl
prefix_stopped (e.closure x) l a b d f r h = output_stopped x.output l (and_parts _ (is_default x.output) f).1 r.no_arrow
prefix_stopped _ l a b d f r h = refl

-- ---- after an operand

pub infix_there : (p : Place) (c : Context) (k : Infix) (t : Tree) (l : List Tok) (b d : Bool) → infix_fits k ≡ true → Meets p c
    → Obeys (level k) (right_context k c) t → Front (begins_brace t) b d l → infix_stands p k l ≡ true
unfolding infix_stands
infix_there p c (inf.Range limits.HalfOpen) t l b d f m h r =
    rw (ends_not p.condition l r.stops (free_of_brace p c (right_context (inf.Range limits.HalfOpen) c) _ true b t l m refl h r.brace refl)) refl
infix_there p c inf.Cast t l b d f m h r = absurd cc
infix_there p c _ t l b d f m h r = refl

pub postfix_there : (p : Place) (c : Context) (k : Postfix) (l : List Tok) → postfix_fits k ≡ true → Meets p c → Shows c.next l → postfix_refuses k c.next ≡ false → postfix_stands p k l ≡ true
unfolding postfix_stands
postfix_there p c (e.cast x) l f m s h = refl
postfix_there p c (e.range_from limits.HalfOpen) l f m s h = open_ends p c l m s (not-false _ h)
postfix_there p c (e.range_from limits.Closed) l f m s h = absurd cc

type_ends : (n : Next) (x : TypeTree) (l : List Tok) → Shows n l → is_less_next n && ends_open x ≡ false → is_round_next n ≡ false → type_stops false x l ≡ true
type_ends n x l s h r = go (is_less_next n) refl
  where
    go : (b : Bool) → is_less_next n ≡ b → type_stops false x l ≡ true
    go true e = parts_end.types_at_less false x l (ap (λ y. y.less) s.same ∙ e) ∙ ap not (sym (ap (λ y. y && ends_open x) e) ∙ h)
    go false e = parts_end.types false x l (ap (λ y. y.types) s.same ∙ rw (e, r) refl) refl

pub postfix_back : (c : Context) (b : Tree) (k : Postfix) (l : List Tok) → postfix_fits k ≡ true → Shows c.next l → postfix_refuses k c.next ≡ false → Calls (postfixed b k) c.next
    → postfix_behind k (drop (count_of (postfix_op k)) (postfix_own k l)) ≡ Some l
postfix_back c b (e.cast x) l f s h g = parts_read_back.types false x l f (type_ends c.next x l s h (round g.none))
  where
    round : is_round_next c.next && true ≡ false → is_round_next c.next ≡ false
    round h = sym (and-true (is_round_next c.next)) ∙ h
postfix_back c b (e.range_from limits.HalfOpen) l f s h g = refl
postfix_back c b (e.range_from limits.Closed) l f s h g = refl

pub postfix_infix : (k : Postfix) (l : List Tok) → infix_at (postfix_own k l) ≡ Some (postfix_op k, count_of (postfix_op k))
unfolding infix_at sign_at word_at
postfix_infix (e.cast x) l = refl
postfix_infix (e.range_from limits.HalfOpen) l = refl
postfix_infix (e.range_from limits.Closed) l = refl

-- What the ends of a tree have in common with those of the printed tree.
use Rattle.std.proofs.Common.{◌≡◌, Bool, true, false, not, ◌&&◌, ◌||◌, None, refl, sym, ◌∙◌}
use Rattle.std.specs.Prelude.{if◌then◌else◌}
use Rattle.std.proofs.Math.Bool.{and-false, or-true, or-false}
use Rattle.std.proofs.lemmas.Bool.{or_parts, or_from, and_parts}
use Rattle.syn_expr_spec.specs.declared.kinds.BinKind.{BinKind}
use Rattle.syn_expr_spec.specs.declared.kinds.BinKind.TheVariants as bin
use Rattle.syn_expr_spec.specs.declared.kinds.Infix.{Infix}
use Rattle.syn_expr_spec.specs.declared.kinds.Infix.TheVariants as inf
use Rattle.syn_expr_spec.specs.declared.kinds.Precedence.{Precedence}
use Rattle.syn_expr_spec.specs.declared.kinds.Precedence.TheVariants as lev
use Rattle.syn_expr_spec.specs.declared.next.Next.{Next}
use Rattle.syn_expr_spec.specs.declared.next.Next.TheVariants as next
use Rattle.syn_expr_spec.specs.declared.next.Context.{Context}
use Rattle.syn_expr_spec.specs.Place.{takes}
use Rattle.syn_expr_spec.specs.Op.{level}
use Rattle.syn_expr_spec.specs.Next.{class_of, enclosed, left_context, base_context, attributed_context, prefix_context, prefix_next, prefix_level}
use Rattle.syn_expr_spec.specs.Stands.{is_range, is_range_leaf, is_infix, is_cast, carries, compares, is_call, is_base}
use Rattle.syn_expr_spec.specs.Tree as e
use Rattle.syn_expr_spec.specs.Tree.{Tree, Leaf, Prefix, Postfix, Trailer, Frame, leaf, paren, attributed, prefixed, infixed, postfixed, tail, frame, postfix_op}
use Rattle.syn_expr_spec.specs.Rule.{is_operation, prints_range, prints_carrier, leaf_refuses, leaf_misplaced, prefix_misplaced, frame_misplaced, postfix_refuses, misplaced, self_wrapped, lower, ends_badly, left_wrapped, low, bad, labelled, left_asks, base_asks, put, bare}
use Rattle.syn_expr_spec.proofs.Bools.{lower_takes}
use Rattle.syn_expr_spec.proofs.Obeys.{begins_label}

-- ---- the kind of a node is that of the printed one

pub infix_bare : (c : Context) (t : Tree) → is_infix (bare c t) ≡ is_infix t
infix_bare c (leaf k) = refl
infix_bare c _ = refl

pub compares_bare : (c : Context) (t : Tree) → compares (bare c t) ≡ compares t
compares_bare c (leaf k) = refl
compares_bare c _ = refl

prints_is : (t : Tree) → is_range t ≡ false → prints_range t ≡ false
prints_is (paren m t) h = refl
prints_is (attributed a more t) h = refl
prints_is (tail b k ks) h = refl
prints_is (frame k ks) h = refl
prints_is _ h = h

put_range : (c : Context) (t : Tree) (w : Bool) → is_operation t ≡ w → is_range (bare c t) ≡ prints_range t → is_range (put w (bare enclosed t) (bare c t)) ≡ false
put_range c t true h e = refl
put_range c t false h e = e ∙ (or_parts _ _ h).1

pub range_bare : (c : Context) (t : Tree) → is_range (bare c t) ≡ prints_range t
range_bare c (leaf k) = refl
range_bare c (attributed a more t) = put_range (attributed_context c) t _ refl (range_bare (attributed_context c) t)
range_bare c _ = refl

pub operation_bare : (c : Context) (t : Tree) → is_operation t ≡ false → is_operation (bare c t) ≡ false
operation_bare c t h = let p = or_parts _ _ h in or_from _ _ (infix_bare c t ∙ p.0) (prints_is (bare c t) (range_bare c t ∙ p.1))

pub cast_bare : (c : Context) (t : Tree) → is_cast (bare c t) ≡ is_cast t
cast_bare c (leaf k) = refl
cast_bare c _ = refl

pub not_cast : (t : Tree) → is_operation t ≡ false → is_cast t ≡ false
not_cast (leaf k) h = refl
not_cast (postfixed x k) h = absurd cc
not_cast _ h = refl

-- a trailer after it would belong to it, or is refused there
abbrev pub takes_trailers : Tree → Bool
takes_trailers t = carries t || is_cast t

carries_unless : (t : Tree) → is_cast t ≡ false → takes_trailers t ≡ carries t
carries_unless t h = rw h (or-false _)

put_carrier : (c : Context) (t : Tree) (w : Bool) → is_operation t ≡ w → takes_trailers (bare c t) ≡ prints_carrier t
    → carries (put w (bare enclosed t) (bare c t)) || false ≡ w || prints_carrier t
put_carrier c t true h e = refl
put_carrier c t false h e = or-false _ ∙ sym (carries_unless (bare c t) (cast_bare c t ∙ not_cast t h)) ∙ e

pub carrier_bare : (c : Context) (t : Tree) → takes_trailers (bare c t) ≡ prints_carrier t
carrier_bare c (leaf k) = refl
carrier_bare c (attributed a more t) = put_carrier (attributed_context c) t (is_operation t) refl (carrier_bare (attributed_context c) t)
carrier_bare c _ = refl

pub base_bare : (k : Trailer) (c : Context) (b : Tree) → is_base k (bare c b) ≡ is_base k b
base_bare k c (attributed a more t) = and-false _ ∙ sym (and-false _)
base_bare k c (tail b (e.field m) ks) = refl
base_bare k c _ = refl

pub base_paren : (k : Trailer) (m : Bool) (t : Tree) → is_base k (paren m t) ≡ true
base_paren k m t = rw (and-false (is_call k)) refl

-- ---- the first token

label_put : (w : Bool) (a b : Tree) → (w ≡ false → begins_label b ≡ false) → begins_label (put w a b) ≡ false
label_put true a b h = refl
label_put false a b h = h refl

and_later : (a b : Bool) → not a && b ≡ false → a ≡ false → b ≡ false
and_later true b h e = absurd cc
and_later false b h e = h

pub label_bare : (c : Context) (t : Tree) → labelled t ≡ false → begins_label (bare c t) ≡ false
label_bare c (leaf k) h = h
label_bare c (infixed x k y) h =
    label_put (left_asks k (left_context k c) x) (bare enclosed x) (bare (left_context k c) x)
    (λ w. label_bare (left_context k c) x (and_later _ _ h (or_parts _ _ w).0))
label_bare c (postfixed x k) h =
    label_put (left_asks (postfix_op k) (left_context (postfix_op k) c) x) (bare enclosed x) (bare (left_context (postfix_op k) c) x)
    (λ w. label_bare (left_context (postfix_op k) c) x (and_later _ _ h (or_parts _ _ w).0))
label_bare c (tail b k ks) h =
    label_put (base_asks k (base_context k c) b) (bare enclosed b) (bare (base_context k c) b)
    (λ w. label_bare (base_context k c) b (and_later _ _ h (or_parts _ _ w).0))
label_bare c (frame k ks) h = h
label_bare c _ h = refl

-- ---- nothing after

pub prefix_next_is : (k : Prefix) (c : Context) → (prefix_context k c).next ≡ prefix_next k c.next
prefix_next_is (e.unary op) c = refl
prefix_next_is _ c = refl

prefix_end : (k : Prefix) → prefix_next k next.End ≡ next.End
prefix_end (e.unary op) = refl
prefix_end _ = refl

ends_end : (v : Precedence) (t : Tree) (n : Next) (w : Bool) → n ≡ next.End → ends_badly v t n w ≡ false
ends_end v t n w h = rw h refl

pub bad_end : (t : Tree) → bad t next.End ≡ false
bad_end (leaf k) = refl
bad_end (attributed a more t) = rw (bad_end t) (and-false (not (is_operation t)))
bad_end (prefixed k gs t) = ends_end (prefix_level k) t _ _ (prefix_end k)
bad_end _ = refl

binary_some : (k : BinKind) → takes lev.Jump (level (inf.Binary k)) ≡ true
binary_some bin.Add = refl
binary_some _ = refl

-- a place of its own takes each operator
pub takes_each : (k : Infix) → takes lev.Jump (level k) ≡ true
takes_each (inf.Binary k) = binary_some k
takes_each _ = refl

low_left : (w : Bool) (a b : Precedence) → takes lev.Jump a ≡ true → takes lev.Jump b ≡ true → takes lev.Jump (lower a (if w then lev.Unambiguous else b)) ≡ true
low_left true a b p q = lower_takes lev.Jump a lev.Unambiguous p refl
low_left false a b p q = lower_takes lev.Jump a b p q

pub low_some : (t : Tree) → takes lev.Jump (low t) ≡ true
low_some (leaf k) = refl
low_some (infixed x k y) = low_left (left_wrapped k x (bad x (class_of k))) (level k) (low x) (takes_each k) (low_some x)
low_some (postfixed x k) = low_left (left_wrapped (postfix_op k) x (bad x (class_of (postfix_op k)))) (level (postfix_op k)) (low x) (takes_each (postfix_op k)) (low_some x)
low_some _ = refl

-- only an infix node has an operator on its left edge
pub low_closed : (t : Tree) → is_infix t ≡ false → low t ≡ lev.Unambiguous
low_closed (leaf k) h = refl
low_closed (infixed x k y) h = absurd cc
low_closed (postfixed x k) h = absurd cc
low_closed _ h = refl

pub carrier_closed : (t : Tree) → carries t ≡ true → is_infix t ≡ false
carrier_closed (leaf k) h = refl
carrier_closed (infixed x k y) h = absurd cc
carrier_closed (postfixed x k) h = absurd cc
carrier_closed _ h = refl

-- ---- what is put in parentheses for what it is itself

leaf_enclosed : (k : Leaf) → leaf_refuses k next.End || leaf_misplaced enclosed k ≡ false
leaf_enclosed (e.bare_jump e.returning) = refl
leaf_enclosed (e.block None b) = refl
leaf_enclosed _ = refl

frame_enclosed : (k : Frame) → frame_misplaced enclosed k ≡ false
frame_enclosed e.array = refl
frame_enclosed _ = refl

prefix_enclosed : (k : Prefix) → prefix_misplaced enclosed k ≡ false
prefix_enclosed (e.unary op) = refl
prefix_enclosed _ = refl

refuses_end : (k : Postfix) → postfix_refuses k next.End ≡ false
refuses_end (e.cast x) = refl
refuses_end (e.range_from op) = refl

either : (o a b : Bool) → a || b ≡ false → (not o && a) || (not o && b) ≡ false
either true a b h = refl
either false a b h = h

pub self_enclosed : (t : Tree) → self_wrapped enclosed t ≡ false
self_enclosed (leaf k) = leaf_enclosed k
self_enclosed (attributed a more t) = either (is_operation t) _ _ (self_enclosed t)
self_enclosed (prefixed k gs t) = prefix_enclosed k
self_enclosed (postfixed x k) = or-false _ ∙ refuses_end k
self_enclosed (frame k ks) = frame_enclosed k
self_enclosed _ = refl

-- what is put in parentheses for its place
pub record IsMisplaced (t : Tree) : Type 0 where
  pub no_range : prints_range t ≡ false
  pub carrier : prints_carrier t ≡ true

misplaced_leaf : (c : Context) (k : Leaf) → leaf_misplaced c k ≡ true → is_range_leaf k ≡ false
misplaced_leaf c (e.lit x) h = refl
misplaced_leaf c (e.full_range op) h = absurd (let g : true ≡ false = sym h ∙ and-false _ in cc)
misplaced_leaf c _ h = refl

pub misplaced_kind : (c : Context) (t : Tree) → misplaced c t ≡ true → IsMisplaced t
misplaced_kind c (leaf k) h = let r = misplaced_leaf c k h in record { no_range = r; carrier = rw r refl }
misplaced_kind c (paren m t) h = absurd cc
misplaced_kind c (attributed a more t) h =
    let p = and_parts _ _ h in
    let q = misplaced_kind (attributed_context c) t p.1 in
    record { no_range = refl; carrier = rw q.carrier (or-true (is_operation t)) }
misplaced_kind c (prefixed (e.let_expr p) gs t) h = record { no_range = refl; carrier = refl }
misplaced_kind c (frame k ks) h = record { no_range = refl; carrier = refl }
misplaced_kind c _ h = absurd cc

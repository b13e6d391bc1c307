-- What a node is but for its operands, by the shape that is lent.
use Rattle.std.proofs.Common.{◌≡◌, true, false, List, Some, None, refl, ap, sym, ◌∙◌}
use Rattle.syn_lower_spec.specs.Form.{is_nil}
use Rattle.syn_expr_spec.specs.Rule.{is_if}
use Rattle.syn_expr_spec.specs.Slot as s
use Rattle.syn_expr_spec.specs.Stands.{is_if_expr}
use Rattle.syn_expr_spec.specs.Tree as e
use Rattle.syn_expr_spec.specs.Tree.{Tree, Leaf, Prefix, Postfix, Trailer, Frame, leaf, paren, attributed, prefixed, infixed, postfixed, tail, frame}
use Rattle.syn_expr_spec.specs.WellFormed.{leaf_fits, postfix_fits, trailer_fits, trailer_slot, frame_slot}
use Rattle.syn_expr_ast.specs.Label.{kind_at}
use Rattle.syn_expr_ast.specs.Node.{attributes_at, leaf_at, prefix_at, postfix_at, trailer_at, frame_at}
use Rattle.syn_expr_wellformed.specs.Alone.{prefix_alone, frame_alone}
use Rattle.syn_expr_wellformed.specs.Well.{own_fits, kind_fits, frame_dots, slot_at, dots_at, bare_leaf}

-- ---- where its operands are

pub slot-trailer : (k : Trailer) (t : Tree) → trailer_at t ≡ Some k → trailer_slot k ≡ slot_at t
slot-trailer k (leaf l) h = absurd cc
slot-trailer k (paren m t) h = absurd cc
slot-trailer k (attributed a more t) h = slot-trailer k t h
slot-trailer k (prefixed l gs t) h = absurd cc
slot-trailer k (infixed x l y) h = absurd cc
slot-trailer k (postfixed x l) h = absurd cc
slot-trailer k (tail x l ks) h = cc
slot-trailer k (frame l ks) h = absurd cc

pub dots-trailer : (k : Trailer) (t : Tree) → trailer_at t ≡ Some k → false ≡ dots_at t
dots-trailer k (leaf l) h = absurd cc
dots-trailer k (paren m t) h = absurd cc
dots-trailer k (attributed a more t) h = dots-trailer k t h
dots-trailer k (prefixed l gs t) h = absurd cc
dots-trailer k (infixed x l y) h = absurd cc
dots-trailer k (postfixed x l) h = absurd cc
dots-trailer k (tail x l ks) h = refl
dots-trailer k (frame l ks) h = absurd cc

pub slot-frame : (k : Frame × List Tree) (t : Tree) → frame_at t ≡ Some k → frame_slot k.0 ≡ slot_at t
slot-frame k (leaf l) h = absurd cc
slot-frame k (paren m t) h = absurd cc
slot-frame k (attributed a more t) h = slot-frame k t h
slot-frame k (prefixed l gs t) h = absurd cc
slot-frame k (infixed x l y) h = absurd cc
slot-frame k (postfixed x l) h = absurd cc
slot-frame k (tail x l ks) h = absurd cc
slot-frame k (frame l ks) h = let q : l ≡ k.0 = cc in ap frame_slot (sym q)

pub dots-frame : (k : Frame × List Tree) (t : Tree) → frame_at t ≡ Some k → frame_dots k.0 ≡ dots_at t
dots-frame k (leaf l) h = absurd cc
dots-frame k (paren m t) h = absurd cc
dots-frame k (attributed a more t) h = dots-frame k t h
dots-frame k (prefixed l gs t) h = absurd cc
dots-frame k (infixed x l y) h = absurd cc
dots-frame k (postfixed x l) h = absurd cc
dots-frame k (tail x l ks) h = absurd cc
dots-frame k (frame l ks) h = let q : l ≡ k.0 = cc in ap frame_dots (sym q)

pub slot-none : (t : Tree) → trailer_at t ≡ None → frame_at t ≡ None → s.done ≡ slot_at t
slot-none (leaf l) h i = refl
slot-none (paren m t) h i = refl
slot-none (attributed a more t) h i = slot-none t h i
slot-none (prefixed l gs t) h i = refl
slot-none (infixed x l y) h i = refl
slot-none (postfixed x l) h i = refl
slot-none (tail x l ks) h i = absurd cc
slot-none (frame l ks) h i = absurd cc

pub dots-none : (t : Tree) → trailer_at t ≡ None → frame_at t ≡ None → false ≡ dots_at t
dots-none (leaf l) h i = refl
dots-none (paren m t) h i = refl
dots-none (attributed a more t) h i = dots-none t h i
dots-none (prefixed l gs t) h i = refl
dots-none (infixed x l y) h i = refl
dots-none (postfixed x l) h i = refl
dots-none (tail x l ks) h i = absurd cc
dots-none (frame l ks) h i = absurd cc

pub ruleset slots = (slot-trailer, dots-trailer, slot-frame, dots-frame, slot-none, dots-none)

-- ---- what it is but for them

pub own-leaf : (k : Leaf) (t : Tree) → leaf_at t ≡ Some k → leaf_fits k ≡ own_fits t
own-leaf k (leaf l) h = cc
own-leaf k (paren m t) h = absurd cc
own-leaf k (attributed a more t) h = own-leaf k t h
own-leaf k (prefixed l gs t) h = absurd cc
own-leaf k (infixed x l y) h = absurd cc
own-leaf k (postfixed x l) h = absurd cc
own-leaf k (tail x l ks) h = absurd cc
own-leaf k (frame l ks) h = absurd cc

pub own-prefixed : (k : Prefix × List Tree) (t : Tree) → prefix_at t ≡ Some k → prefix_alone k ≡ own_fits t
own-prefixed k (leaf l) h = absurd cc
own-prefixed k (paren m t) h = absurd cc
own-prefixed k (attributed a more t) h = own-prefixed k t h
own-prefixed k (prefixed l gs t) h = let q : (l, _) ≡ k = cc in ap prefix_alone (sym q)
own-prefixed k (infixed x l y) h = absurd cc
own-prefixed k (postfixed x l) h = absurd cc
own-prefixed k (tail x l ks) h = absurd cc
own-prefixed k (frame l ks) h = absurd cc

pub own-postfixed : (k : Postfix) (t : Tree) → postfix_at t ≡ Some k → postfix_fits k ≡ own_fits t
own-postfixed k (leaf l) h = absurd cc
own-postfixed k (paren m t) h = absurd cc
own-postfixed k (attributed a more t) h = own-postfixed k t h
own-postfixed k (prefixed l gs t) h = absurd cc
own-postfixed k (infixed x l y) h = absurd cc
own-postfixed k (postfixed x l) h = cc
own-postfixed k (tail x l ks) h = absurd cc
own-postfixed k (frame l ks) h = absurd cc

pub own-trailer : (k : Trailer) (t : Tree) → trailer_at t ≡ Some k → trailer_fits k ≡ own_fits t
own-trailer k (leaf l) h = absurd cc
own-trailer k (paren m t) h = absurd cc
own-trailer k (attributed a more t) h = own-trailer k t h
own-trailer k (prefixed l gs t) h = absurd cc
own-trailer k (infixed x l y) h = absurd cc
own-trailer k (postfixed x l) h = absurd cc
own-trailer k (tail x l ks) h = cc
own-trailer k (frame l ks) h = absurd cc

pub own-frame : (k : Frame × List Tree) (t : Tree) → frame_at t ≡ Some k → frame_alone k ≡ own_fits t
own-frame k (leaf l) h = absurd cc
own-frame k (paren m t) h = absurd cc
own-frame k (attributed a more t) h = own-frame k t h
own-frame k (prefixed l gs t) h = absurd cc
own-frame k (infixed x l y) h = absurd cc
own-frame k (postfixed x l) h = absurd cc
own-frame k (tail x l ks) h = absurd cc
own-frame k (frame l ks) h = let q : (l, _) ≡ k = cc in ap frame_alone (sym q)

pub own-kind : (t : Tree) → leaf_at t ≡ None → prefix_at t ≡ None → postfix_at t ≡ None → trailer_at t ≡ None → frame_at t ≡ None → kind_fits (kind_at t) ≡ own_fits t
own-kind (leaf l) h i j n o = absurd cc
own-kind (paren m t) h i j n o = refl
own-kind (attributed a more t) h i j n o = own-kind t h i j n o
own-kind (prefixed l gs t) h i j n o = absurd cc
own-kind (infixed x l y) h i j n o = refl
own-kind (postfixed x l) h i j n o = absurd cc
own-kind (tail x l ks) h i j n o = absurd cc
own-kind (frame l ks) h i j n o = absurd cc

pub ruleset owns = (own-leaf, own-prefixed, own-postfixed, own-trailer, own-frame, own-kind)

-- ---- without attributes

pub leaf-attributed : (t : Tree) → is_nil (attributes_at t) ≡ false → None ≡ bare_leaf t
leaf-attributed (leaf l) h = absurd cc
leaf-attributed (paren m t) h = absurd cc
leaf-attributed (attributed a more t) h = refl
leaf-attributed (prefixed l gs t) h = absurd cc
leaf-attributed (infixed x l y) h = absurd cc
leaf-attributed (postfixed x l) h = absurd cc
leaf-attributed (tail x l ks) h = absurd cc
leaf-attributed (frame l ks) h = absurd cc

pub leaf-bare : (t : Tree) → is_nil (attributes_at t) ≡ true → leaf_at t ≡ bare_leaf t
leaf-bare (leaf l) h = refl
leaf-bare (paren m t) h = refl
leaf-bare (attributed a more t) h = absurd cc
leaf-bare (prefixed l gs t) h = refl
leaf-bare (infixed x l y) h = refl
leaf-bare (postfixed x l) h = refl
leaf-bare (tail x l ks) h = refl
leaf-bare (frame l ks) h = refl

pub if_expr-attributed : (t : Tree) → is_nil (attributes_at t) ≡ false → false ≡ is_if_expr t
if_expr-attributed (leaf l) h = absurd cc
if_expr-attributed (paren m t) h = absurd cc
if_expr-attributed (attributed a more t) h = refl
if_expr-attributed (prefixed l gs t) h = absurd cc
if_expr-attributed (infixed x l y) h = absurd cc
if_expr-attributed (postfixed x l) h = absurd cc
if_expr-attributed (tail x l ks) h = absurd cc
if_expr-attributed (frame l ks) h = absurd cc

if_frame : (k : Frame) (ks : _) → is_if k ≡ is_if_expr (frame k ks)
if_frame e.array ks = refl
if_frame e.tuple ks = refl
if_frame e.repeat ks = refl
if_frame (e.structure q p d) ks = refl
if_frame (e.closure_block h) ks = refl
if_frame e.if_expr ks = refl
if_frame (e.while_loop l) ks = refl
if_frame (e.for_loop l p) ks = refl
if_frame e.match_expr ks = refl
if_frame e.group_expr ks = refl

pub if_expr-frame : (k : Frame × List Tree) (t : Tree) → is_nil (attributes_at t) ≡ true → frame_at t ≡ Some k → is_if k.0 ≡ is_if_expr t
if_expr-frame k (leaf l) h i = absurd cc
if_expr-frame k (paren m t) h i = absurd cc
if_expr-frame k (attributed a more t) h i = absurd cc
if_expr-frame k (prefixed l gs t) h i = absurd cc
if_expr-frame k (infixed x l y) h i = absurd cc
if_expr-frame k (postfixed x l) h i = absurd cc
if_expr-frame k (tail x l ks) h i = absurd cc
if_expr-frame k (frame l ks) h i = let q : l ≡ k.0 = cc in ap is_if (sym q) ∙ if_frame l ks

pub if_expr-none : (t : Tree) → frame_at t ≡ None → false ≡ is_if_expr t
if_expr-none (leaf l) h = refl
if_expr-none (paren m t) h = refl
if_expr-none (attributed a more t) h = refl
if_expr-none (prefixed l gs t) h = refl
if_expr-none (infixed x l y) h = refl
if_expr-none (postfixed x l) h = refl
if_expr-none (tail x l ks) h = refl
if_expr-none (frame l ks) h = absurd cc

pub ruleset bares = (leaf-attributed, leaf-bare, if_expr-attributed, if_expr-frame, if_expr-none)

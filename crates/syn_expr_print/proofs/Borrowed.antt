-- A node by its parts: what is printed of it, and the summaries and the size of what is below.
use Rattle.std.specs.Prelude.{Some, None}
use Rattle.std.proofs.Common.{◌≡◌, true, false, List, [], ◌∷◌, ◌++◌, refl, sym, ap, ◌∙◌}
use Rattle.syn_lexer.specs.declared.front.Delimiter.TheVariants as del
use Rattle.syn_tokens.specs.Tok.{group, inside}
use Rattle.syn_lower_spec.specs.Own as own_parts
use Rattle.syn_expr_spec.specs.declared.kinds.Infix.{Infix}
use Rattle.syn_expr_spec.specs.declared.next.Context.{Context}
use Rattle.syn_expr_spec.specs.Next.{enclosed, prefix_context}
use Rattle.syn_expr_spec.specs.Summaries.{summary_of, stack, below, children_below, prefix_by}
use Rattle.syn_expr_spec.specs.Tree as e
use Rattle.syn_expr_spec.specs.Tree.{Tree, Leaf, Postfix, Frame, Enclosure, leaf, paren, attributed, prefixed, infixed, postfixed, tail, frame, none, leaf_own, prefix_own, postfix_op, frame_own, enclosure, needs_last_comma}
use Rattle.syn_expr_ast.specs.Label.{kind_at, prefix_kind, postfix_kind}
use Rattle.syn_expr_ast.specs.Label as label
use Rattle.syn_expr_ast.specs.declared.label.NodeKind.TheVariants as kind
use Rattle.syn_expr_ast.specs.declared.label.LeafKind.{LeafKind}
use Rattle.syn_expr_ast.specs.declared.label.PrefixKind.{PrefixKind}
use Rattle.syn_expr_ast.specs.declared.label.PostfixKind.{PostfixKind}
use Rattle.syn_expr_ast.specs.declared.label.TrailerKind.{TrailerKind}
use Rattle.syn_expr_ast.specs.declared.label.FrameKind.{FrameKind}
use Rattle.syn_expr_print.specs.Shape.{leaf_shape, paren_shape, prefix_shape, frame_shape, shape_at}
use Rattle.syn_expr_ast.specs.Node.{no_trees, one_tree, framed, operands_at, leaf_at, is_paren, prefix_at, operator_at, postfix_at, trailer_at, frame_at, operand_children, first_of, second_of}
use Rattle.syn_expr_ast.specs.Pats.{strays}
use Rattle.syn_expr_print.specs.Printing.{spelled, spelled_in, children_spelled, core, node_of, IsBorrowed}
use Rattle.syn_expr_print.proofs.Spellings.{leaf-spelled, paren-spelled, prefixed-spelled, open-spelled, closed-spelled, strays-spelled, below-core}
use Rattle.syn_expr_fixup.proofs.Lists.{strays_none}

-- ---- tokens, and an operand

shape-prefixed : (t : Tree) (p : e.Prefix × List Tree) → prefix_at t ≡ Some p → shape_at t ≡ prefix_shape p.0 p.1
shape-prefixed (prefixed k gs t) p h = cc
shape-prefixed (attributed a more t) p h = shape-prefixed t p h
shape-prefixed (leaf k) p h = absurd cc
shape-prefixed (paren m t) p h = absurd cc
shape-prefixed (infixed x k y) p h = absurd cc
shape-prefixed (postfixed x k) p h = absurd cc
shape-prefixed (tail b k ks) p h = absurd cc
shape-prefixed (frame k ks) p h = absurd cc

operands-prefixed : (t : Tree) (p : e.Prefix × List Tree) (u : Tree) → prefix_at t ≡ Some p → first_of (operands_at t) ≡ Some u → operands_at t ≡ one_tree u
operands-prefixed (prefixed k gs t) p u h o = cc
operands-prefixed (attributed a more t) p u h o = operands-prefixed t p u h o
operands-prefixed (leaf k) p u h o = absurd cc
operands-prefixed (paren m t) p u h o = absurd cc
operands-prefixed (infixed x k y) p u h o = absurd cc
operands-prefixed (postfixed x k) p u h o = absurd cc
operands-prefixed (tail b k ks) p u h o = absurd cc
operands-prefixed (frame k ks) p u h o = absurd cc

prefixed-core : (t : Tree) (p : e.Prefix × List Tree) (u : Tree) → IsBorrowed t → prefix_at t ≡ Some p → first_of (operands_at t) ≡ Some u → core t ≡ prefixed p.0 (strays p.1 none) u
prefixed-core t p u l a o = l ∙ ap (λ s. node_of s (operands_at t)) (shape-prefixed t p a) ∙ ap (λ z. node_of (prefix_shape p.0 p.1) z) (operands-prefixed t p u a o)

pub prefixed-text : (c : Context) (t : Tree) (p : e.Prefix × List Tree) (u : Tree) → IsBorrowed t → prefix_at t ≡ Some p → first_of (operands_at t) ≡ Some u
    → spelled c (core t) ≡ prefix_own p.0 [] ++ spelled_in (prefix_by p.0 (prefix_context p.0 c) (summary_of u)) (prefix_context p.0 c) u
prefixed-text c t p u l a o = ap (λ z. spelled c z) (prefixed-core t p u l a o) ∙ prefixed-spelled c p.0 (strays p.1 none) u

pub prefixed-below : (t : Tree) (p : e.Prefix × List Tree) (u : Tree) → IsBorrowed t → prefix_at t ≡ Some p → first_of (operands_at t) ≡ Some u → below t ≡ stack u
prefixed-below t p u l a o = below-core t ∙ ap below (prefixed-core t p u l a o)

pub prefixed-kind : (t : Tree) (p : e.Prefix × List Tree) (q : PrefixKind) → kind_at t ≡ kind.Prefix q → prefix_at t ≡ Some p → prefix_kind p.0 ≡ q
prefixed-kind (prefixed k gs t) p q i h = cc
prefixed-kind (attributed a more t) p q i h = prefixed-kind t p q i h
prefixed-kind (leaf k) p q i h = absurd cc
prefixed-kind (paren m t) p q i h = absurd cc
prefixed-kind (infixed x k y) p q i h = absurd cc
prefixed-kind (postfixed x k) p q i h = absurd cc
prefixed-kind (tail b k ks) p q i h = absurd cc
prefixed-kind (frame k ks) p q i h = absurd cc

pub prefixed-there : (t : Tree) (q : PrefixKind) → kind_at t ≡ kind.Prefix q → prefix_at t ≡ None → ⊥
prefixed-there (prefixed k gs t) q i h = absurd cc
prefixed-there (attributed a more t) q i h = prefixed-there t q i h
prefixed-there (leaf k) q i h = absurd cc
prefixed-there (paren m t) q i h = absurd cc
prefixed-there (infixed x k y) q i h = absurd cc
prefixed-there (postfixed x k) q i h = absurd cc
prefixed-there (tail b k ks) q i h = absurd cc
prefixed-there (frame k ks) q i h = absurd cc

pub prefixed-first : (t : Tree) (q : PrefixKind) → kind_at t ≡ kind.Prefix q → first_of (operands_at t) ≡ None → ⊥
prefixed-first (prefixed k gs t) q i h = absurd cc
prefixed-first (attributed a more t) q i h = prefixed-first t q i h
prefixed-first (leaf k) q i h = absurd cc
prefixed-first (paren m t) q i h = absurd cc
prefixed-first (infixed x k y) q i h = absurd cc
prefixed-first (postfixed x k) q i h = absurd cc
prefixed-first (tail b k ks) q i h = absurd cc
prefixed-first (frame k ks) q i h = absurd cc

-- ---- leaves

shape-leaf : (t : Tree) (p : Leaf) → leaf_at t ≡ Some p → shape_at t ≡ leaf_shape p
shape-leaf (leaf k) p h = cc
shape-leaf (paren m t) p h = absurd cc
shape-leaf (attributed a more t) p h = shape-leaf t p h
shape-leaf (prefixed k gs t) p h = absurd cc
shape-leaf (infixed x k y) p h = absurd cc
shape-leaf (postfixed x k) p h = absurd cc
shape-leaf (tail b k ks) p h = absurd cc
shape-leaf (frame k ks) p h = absurd cc

operands-leaf : (t : Tree) (p : Leaf) → leaf_at t ≡ Some p → operands_at t ≡ no_trees
operands-leaf (leaf k) p h = refl
operands-leaf (paren m t) p h = absurd cc
operands-leaf (attributed a more t) p h = operands-leaf t p h
operands-leaf (prefixed k gs t) p h = absurd cc
operands-leaf (infixed x k y) p h = absurd cc
operands-leaf (postfixed x k) p h = absurd cc
operands-leaf (tail b k ks) p h = absurd cc
operands-leaf (frame k ks) p h = absurd cc

leaf-core : (t : Tree) (p : Leaf) → IsBorrowed t → leaf_at t ≡ Some p → core t ≡ leaf p
leaf-core t p l a = l ∙ ap (λ s. node_of s (operands_at t)) (shape-leaf t p a) ∙ ap (λ z. node_of (leaf_shape p) z) (operands-leaf t p a)

pub leaf-text : (c : Context) (t : Tree) (p : Leaf) → IsBorrowed t → leaf_at t ≡ Some p → spelled c (core t) ≡ leaf_own p []
leaf-text c t p l a = ap (λ z. spelled c z) (leaf-core t p l a) ∙ leaf-spelled c p

pub leaf-below : (t : Tree) (p : Leaf) → IsBorrowed t → leaf_at t ≡ Some p → below t ≡ []
leaf-below t p l a = below-core t ∙ ap below (leaf-core t p l a)

pub leaf-there : (t : Tree) (q : LeafKind) → kind_at t ≡ kind.Leaf q → leaf_at t ≡ None → ⊥
leaf-there (leaf k) q i h = absurd cc
leaf-there (paren m t) q i h = absurd cc
leaf-there (attributed a more t) q i h = leaf-there t q i h
leaf-there (prefixed k gs t) q i h = absurd cc
leaf-there (infixed x k y) q i h = absurd cc
leaf-there (postfixed x k) q i h = absurd cc
leaf-there (tail b k ks) q i h = absurd cc
leaf-there (frame k ks) q i h = absurd cc

pub ruleset leaves = (leaf-text, leaf-below)

-- ---- parentheses

pub is-paren : (t : Tree) → kind_at t ≡ kind.Paren → is_paren t ≡ true
is-paren (leaf k) h = absurd cc
is-paren (paren m t) h = refl
is-paren (attributed a more t) h = is-paren t h
is-paren (prefixed k gs t) h = absurd cc
is-paren (infixed x k y) h = absurd cc
is-paren (postfixed x k) h = absurd cc
is-paren (tail b k ks) h = absurd cc
is-paren (frame k ks) h = absurd cc

shape-paren : (t : Tree) → kind_at t ≡ kind.Paren → shape_at t ≡ paren_shape
shape-paren (leaf k) h = absurd cc
shape-paren (paren m t) h = refl
shape-paren (attributed a more t) h = shape-paren t h
shape-paren (prefixed k gs t) h = absurd cc
shape-paren (infixed x k y) h = absurd cc
shape-paren (postfixed x k) h = absurd cc
shape-paren (tail b k ks) h = absurd cc
shape-paren (frame k ks) h = absurd cc

operands-paren : (t u : Tree) → kind_at t ≡ kind.Paren → first_of (operands_at t) ≡ Some u → operands_at t ≡ one_tree u
operands-paren (leaf k) u h o = absurd cc
operands-paren (paren m t) u h o = cc
operands-paren (attributed a more t) u h o = operands-paren t u h o
operands-paren (prefixed k gs t) u h o = absurd cc
operands-paren (infixed x k y) u h o = absurd cc
operands-paren (postfixed x k) u h o = absurd cc
operands-paren (tail b k ks) u h o = absurd cc
operands-paren (frame k ks) u h o = absurd cc

pub paren-first : (t : Tree) → kind_at t ≡ kind.Paren → first_of (operands_at t) ≡ None → ⊥
paren-first (leaf k) h o = absurd cc
paren-first (paren m t) h o = absurd cc
paren-first (attributed a more t) h o = paren-first t h o
paren-first (prefixed k gs t) h o = absurd cc
paren-first (infixed x k y) h o = absurd cc
paren-first (postfixed x k) h o = absurd cc
paren-first (tail b k ks) h o = absurd cc
paren-first (frame k ks) h o = absurd cc

paren-core : (t u : Tree) → IsBorrowed t → kind_at t ≡ kind.Paren → first_of (operands_at t) ≡ Some u → core t ≡ paren false u
paren-core t u l a o = l ∙ ap (λ s. node_of s (operands_at t)) (shape-paren t a) ∙ ap (λ z. node_of paren_shape z) (operands-paren t u a o)

pub paren-text : (c : Context) (t u : Tree) → IsBorrowed t → kind_at t ≡ kind.Paren → first_of (operands_at t) ≡ Some u
    → spelled c (core t) ≡ group del.Parenthesis (inside (spelled enclosed u)) ∷ []
paren-text c t u l a o = ap (λ z. spelled c z) (paren-core t u l a o) ∙ paren-spelled c false u

pub paren-below : (t u : Tree) → IsBorrowed t → kind_at t ≡ kind.Paren → first_of (operands_at t) ≡ Some u → below t ≡ stack u
paren-below t u l a o = below-core t ∙ ap below (paren-core t u l a o)

-- ---- two operands

pub infixed-operator : (t : Tree) (q : Infix) → kind_at t ≡ kind.Infix q → operator_at t ≡ Some q
infixed-operator (leaf k) q h = absurd cc
infixed-operator (paren m t) q h = absurd cc
infixed-operator (attributed a more t) q h = infixed-operator t q h
infixed-operator (prefixed k gs t) q h = absurd cc
infixed-operator (infixed x k y) q h = cc
infixed-operator (postfixed x k) q h = absurd cc
infixed-operator (tail b k ks) q h = absurd cc
infixed-operator (frame k ks) q h = absurd cc

pub infixed-second : (t : Tree) (q : Infix) → kind_at t ≡ kind.Infix q → second_of (operands_at t) ≡ None → ⊥
infixed-second (leaf k) q h o = absurd cc
infixed-second (paren m t) q h o = absurd cc
infixed-second (attributed a more t) q h o = infixed-second t q h o
infixed-second (prefixed k gs t) q h o = absurd cc
infixed-second (infixed x k y) q h o = absurd cc
infixed-second (postfixed x k) q h o = absurd cc
infixed-second (tail b k ks) q h o = absurd cc
infixed-second (frame k ks) q h o = absurd cc

-- ---- an operand, and tokens

pub postfixed-there : (t : Tree) (q : PostfixKind) → kind_at t ≡ kind.Postfix q → postfix_at t ≡ None → ⊥
postfixed-there (leaf k) q h o = absurd cc
postfixed-there (paren m t) q h o = absurd cc
postfixed-there (attributed a more t) q h o = postfixed-there t q h o
postfixed-there (prefixed k gs t) q h o = absurd cc
postfixed-there (infixed x k y) q h o = absurd cc
postfixed-there (postfixed x k) q h o = absurd cc
postfixed-there (tail b k ks) q h o = absurd cc
postfixed-there (frame k ks) q h o = absurd cc

pub postfixed-kind : (t : Tree) (p : Postfix) (q : PostfixKind) → kind_at t ≡ kind.Postfix q → postfix_at t ≡ Some p → postfix_kind p ≡ q
postfixed-kind (leaf k) p q i h = absurd cc
postfixed-kind (paren m t) p q i h = absurd cc
postfixed-kind (attributed a more t) p q i h = postfixed-kind t p q i h
postfixed-kind (prefixed k gs t) p q i h = absurd cc
postfixed-kind (infixed x k y) p q i h = absurd cc
postfixed-kind (postfixed x k) p q i h = cc
postfixed-kind (tail b k ks) p q i h = absurd cc
postfixed-kind (frame k ks) p q i h = absurd cc

op-kind : (p : Postfix) → label.postfix_op (postfix_kind p) ≡ postfix_op p
op-kind (e.cast x) = refl
op-kind (e.range_from op) = refl

pub postfixed-operator : (t : Tree) (p : Postfix) (q : PostfixKind) → kind_at t ≡ kind.Postfix q → postfix_at t ≡ Some p → label.postfix_op q ≡ postfix_op p
postfixed-operator t p q i h = ap (λ z. label.postfix_op z) (sym (postfixed-kind t p q i h)) ∙ op-kind p

-- ---- trailers

pub tail-there : (t : Tree) (q : TrailerKind) → kind_at t ≡ kind.Tail q → trailer_at t ≡ None → ⊥
tail-there (leaf k) q h o = absurd cc
tail-there (paren m t) q h o = absurd cc
tail-there (attributed a more t) q h o = tail-there t q h o
tail-there (prefixed k gs t) q h o = absurd cc
tail-there (infixed x k y) q h o = absurd cc
tail-there (postfixed x k) q h o = absurd cc
tail-there (tail b k ks) q h o = absurd cc
tail-there (frame k ks) q h o = absurd cc

-- ---- frames

shape-frame : (t : Tree) (p : Frame × List Tree) → frame_at t ≡ Some p → shape_at t ≡ frame_shape p.0 p.1
shape-frame (leaf k) p h = absurd cc
shape-frame (paren m t) p h = absurd cc
shape-frame (attributed a more t) p h = shape-frame t p h
shape-frame (prefixed k gs t) p h = absurd cc
shape-frame (infixed x k y) p h = absurd cc
shape-frame (postfixed x k) p h = absurd cc
shape-frame (tail b k ks) p h = absurd cc
shape-frame (frame k ks) p h = cc

operands-frame : (t : Tree) (p : Frame × List Tree) → frame_at t ≡ Some p → operands_at t ≡ framed (operand_children (operands_at t))
operands-frame (leaf k) p h = absurd cc
operands-frame (paren m t) p h = absurd cc
operands-frame (attributed a more t) p h = operands-frame t p h
operands-frame (prefixed k gs t) p h = absurd cc
operands-frame (infixed x k y) p h = absurd cc
operands-frame (postfixed x k) p h = absurd cc
operands-frame (tail b k ks) p h = absurd cc
operands-frame (frame k ks) p h = refl

pub frame-there : (t : Tree) (q : FrameKind) → kind_at t ≡ kind.Frame q → frame_at t ≡ None → ⊥
frame-there (leaf k) q h o = absurd cc
frame-there (paren m t) q h o = absurd cc
frame-there (attributed a more t) q h o = frame-there t q h o
frame-there (prefixed k gs t) q h o = absurd cc
frame-there (infixed x k y) q h o = absurd cc
frame-there (postfixed x k) q h o = absurd cc
frame-there (tail b k ks) q h o = absurd cc
frame-there (frame k ks) q h o = absurd cc

frame-core : (t : Tree) (p : Frame × List Tree) → IsBorrowed t → frame_at t ≡ Some p → core t ≡ frame p.0 (strays p.1 (operand_children (operands_at t)))
frame-core t p l a = l ∙ ap (λ s. node_of s (operands_at t)) (shape-frame t p a) ∙ ap (λ z. node_of (frame_shape p.0 p.1) z) (operands-frame t p a)

pub open-text : (c : Context) (t : Tree) (p : Frame × List Tree) → IsBorrowed t → frame_at t ≡ Some p → enclosure p.0 ≡ None
    → spelled c (core t) ≡ frame_own p.0 [] ++ children_spelled (needs_last_comma p.0 (strays p.1 (operand_children (operands_at t)))) (operand_children (operands_at t))
open-text c t p l a h =
    let ks = operand_children (operands_at t) in
    let b = needs_last_comma p.0 (strays p.1 ks) in
    ap (λ z. spelled c z) (frame-core t p l a) ∙ open-spelled c p.0 (strays p.1 ks) h ∙ ap (λ z. frame_own p.0 [] ++ z) (strays-spelled b p.1 ks)

pub closed-text : (c : Context) (t : Tree) (p : Frame × List Tree) (x : Enclosure) → IsBorrowed t → frame_at t ≡ Some p → enclosure p.0 ≡ Some x
    → spelled c (core t) ≡ x.head ++ own_parts.enclosed x.delimiter (children_spelled (needs_last_comma p.0 (strays p.1 (operand_children (operands_at t)))) (operand_children (operands_at t)) ++ x.ending) []
closed-text c t p x l a h =
    let ks = operand_children (operands_at t) in
    let b = needs_last_comma p.0 (strays p.1 ks) in
    ap (λ z. spelled c z) (frame-core t p l a) ∙ closed-spelled c p.0 (strays p.1 ks) x h
    ∙ ap (λ z. x.head ++ own_parts.enclosed x.delimiter (z ++ x.ending) []) (strays-spelled b p.1 ks)

pub frame-below : (t : Tree) (p : Frame × List Tree) → IsBorrowed t → frame_at t ≡ Some p → below t ≡ children_below (operand_children (operands_at t))
frame-below t p l a = below-core t ∙ ap below (frame-core t p l a) ∙ strays_none p.1 (operand_children (operands_at t))

pub ruleset frames = (open-text, closed-text, frame-below)

-- A node after its attributes, and without them.
use Rattle.std.proofs.Common.{◌≡◌, Bool, true, false, List, [], ◌∷◌, ◌++◌, refl, sym, ap, ◌∙◌, append_assoc}
use Rattle.syn_tokens.specs.Tok.{Tok}
use Rattle.syn_lower_spec.specs.Tree.{AttributeTree}
use Rattle.syn_lower_spec.specs.PatOwn.{attributes_own}
use Rattle.syn_expr_spec.specs.declared.next.Context.{Context}
use Rattle.syn_expr_spec.specs.Next.{attributed_context}
use Rattle.syn_expr_spec.specs.Rule.{is_operation}
use Rattle.syn_expr_spec.specs.Stands.{is_attributed, is_range_leaf, is_range_prefix}
use Rattle.syn_expr_spec.specs.Tree as e
use Rattle.syn_expr_spec.specs.Tree.{Tree, Leaf, Prefix, leaf, paren, attributed, outers, prefixed, infixed, postfixed, tail, frame}
use Rattle.syn_expr_ast.specs.Label.{kind_at, leaf_kind, prefix_kind}
use Rattle.syn_expr_ast.specs.Label as label
use Rattle.syn_expr_ast.specs.Node.{OperandTrees, no_trees, one_tree, two_trees, based, framed, attributes_at, operands_at}
use Rattle.syn_lower_spec.specs.Form.{is_nil}
use Rattle.syn_expr_print.specs.Shape.{is_operation_kind, ShapeTree, leaf_shape, paren_shape, prefix_shape, infix_shape, postfix_shape, tail_shape, frame_shape, shape_at}
use Rattle.syn_expr_print.specs.Printing.{spelled, spelled_in, core, node_of, IsBorrowed}
use Rattle.syn_expr_print.proofs.Spellings.{spelled-attributed, core-plain}

-- ---- operations

range-leaf : (k : Leaf) → is_range_leaf k ≡ label.is_range_leaf (leaf_kind k)
range-leaf (e.lit x) = refl
range-leaf (e.bare_jump (e.breaking label)) = refl
range-leaf t = refl

range-prefixed : (k : Prefix) → is_range_prefix k ≡ label.is_range_prefix (prefix_kind k)
range-prefixed (e.unary op) = refl
range-prefixed (e.reference m) = refl
range-prefixed (e.raw_addr m) = refl
range-prefixed (e.range_to op) = refl
range-prefixed (e.let_expr p) = refl
range-prefixed (e.jump (e.breaking label)) = refl
range-prefixed (e.jump e.returning) = refl
range-prefixed (e.jump e.yielding) = refl
range-prefixed (e.closure h) = refl

-- a tree that is made of borrowed parts has no attributes
pub plain-node : (s : ShapeTree) (o : OperandTrees) → is_attributed (node_of s o) ≡ false
plain-node (leaf_shape k) o = elim o as (λ o. is_attributed (node_of (leaf_shape k) o) ≡ false) [ no_trees ↦ refl | _ ↦ refl ]
plain-node paren_shape o = elim o as (λ o. is_attributed (node_of paren_shape o) ≡ false) [ one_tree t ↦ refl | _ ↦ refl ]
plain-node (prefix_shape k gs) o = elim o as (λ o. is_attributed (node_of (prefix_shape k gs) o) ≡ false) [ one_tree t ↦ refl | _ ↦ refl ]
plain-node (infix_shape k) o = elim o as (λ o. is_attributed (node_of (infix_shape k) o) ≡ false) [ two_trees x y ↦ refl | _ ↦ refl ]
plain-node (postfix_shape k) o = elim o as (λ o. is_attributed (node_of (postfix_shape k) o) ≡ false) [ one_tree t ↦ refl | _ ↦ refl ]
plain-node (tail_shape k) o = elim o as (λ o. is_attributed (node_of (tail_shape k) o) ≡ false) [ one_tree t ↦ refl | based b ks ↦ refl | _ ↦ refl ]
plain-node (frame_shape k gs) o = elim o as (λ o. is_attributed (node_of (frame_shape k gs) o) ≡ false) [ framed ks ↦ refl | _ ↦ refl ]

plain-operation : (t : Tree) → is_attributed t ≡ false → is_operation t ≡ is_operation_kind (kind_at t)
plain-operation (leaf k) h = range-leaf k
plain-operation (paren m t) h = refl
plain-operation (attributed a more t) h = absurd cc
plain-operation (prefixed k gs t) h = range-prefixed k
plain-operation (infixed x k y) h = refl
plain-operation (postfixed x k) h = refl
plain-operation (tail b k ks) h = refl
plain-operation (frame k ks) h = refl

kind-core : (t : Tree) → kind_at (core t) ≡ kind_at t
kind-core (attributed a more t) = refl
kind-core (leaf k) = refl
kind-core (paren m t) = refl
kind-core (prefixed k gs t) = refl
kind-core (infixed x k y) = refl
kind-core (postfixed x k) = refl
kind-core (tail b k ks) = refl
kind-core (frame k ks) = refl

operation-core : (t : Tree) → IsBorrowed t → is_operation (core t) ≡ is_operation_kind (kind_at t)
operation-core t l = plain-operation (core t) (ap is_attributed l ∙ plain-node (shape_at t) (operands_at t)) ∙ ap is_operation_kind (kind-core t)

-- ---- attributes

pub attributed-text : (c : Context) (t : Tree) → IsBorrowed t → is_nil (attributes_at t) ≡ false
    → spelled c t ≡ attributes_own (outers (attributes_at t)) [] ++ spelled_in (is_operation_kind (kind_at t)) (attributed_context c) (core t)
attributed-text c t l h = by (attributes_at t) refl h
  where
    by : (x : List AttributeTree) → attributes_at t ≡ x → is_nil x ≡ false → spelled c t ≡ attributes_own (outers (attributes_at t)) [] ++ spelled_in (is_operation_kind (kind_at t)) (attributed_context c) (core t)
    by [] i g = absurd cc
    by (a ∷ more) i g =
        spelled-attributed c t a more i
        ∙ ap (λ w. attributes_own (outers (a ∷ more)) [] ++ spelled_in w (attributed_context c) (core t)) (operation-core t l)
        ∙ ap (λ z. attributes_own (outers z) [] ++ spelled_in (is_operation_kind (kind_at t)) (attributed_context c) (core t)) (sym i)

pub plain-text : (c : Context) (t : Tree) → is_nil (attributes_at t) ≡ true → spelled c (core t) ≡ spelled c t
plain-text c t h = by (attributes_at t) refl h
  where
    by : (x : List AttributeTree) → attributes_at t ≡ x → is_nil x ≡ true → spelled c (core t) ≡ spelled c t
    by [] i g = ap (λ z. spelled c z) (core-plain t i)
    by (a ∷ more) i g = absurd cc

-- the attributes, and then the node
pub attributed-joined : (c d : Context) (t : Tree) (ats : List AttributeTree) (w : Bool) (old now : List Tok) → IsBorrowed t → is_nil (attributes_at t) ≡ false
    → ats ≡ attributes_at t → now ≡ old ++ attributes_own (outers ats) [] → d ≡ attributed_context c → w ≡ is_operation_kind (kind_at t)
    → now ++ spelled_in w d (core t) ≡ old ++ spelled c t
attributed-joined c d t ats w old now l h a m e f =
    let x = spelled_in (is_operation_kind (kind_at t)) (attributed_context c) (core t) in
    let same : spelled_in w d (core t) ≡ x = rw (f, e) refl in
    ap (λ z. now ++ z) same ∙ ap (λ z. z ++ x) (m ∙ ap (λ z. old ++ attributes_own (outers z) []) a)
    ∙ append_assoc old (attributes_own (outers (attributes_at t)) []) x ∙ ap (λ z. old ++ z) (sym (attributed-text c t l h))

pub ruleset plain = (plain-text)

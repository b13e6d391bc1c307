-- Nodes that are made anew of operands without parentheses.
use Rattle.std.specs.Prelude.{not, ◌&&◌}
use Rattle.std.proofs.Common.{◌≡◌, Bool, true, false, List, [], ◌∷◌, ◌++◌, Option, Some, None, refl, sym, ap, ◌∙◌}
use Rattle.std.proofs.lemmas.List.{append-nil}
use Rattle.std.specs.declared.vec.Vec.{Vec}
use Rattle.std.specs.declared.alloc.Global.{Global}
use Rattle.syn_lower_spec.specs.Tree.{AttributeTree}
use Rattle.syn_lower_leaves.specs.declared.attr.Attribute.{Attribute}
use Rattle.syn_expr_spec.specs.declared.kinds.Infix.{Infix}
use Rattle.syn_expr_spec.specs.Tree as e
use Rattle.syn_expr_spec.specs.Tree.{Tree, Children, Leaf, Frame, leaf, paren, attributed, prefixed, infixed, postfixed, tail, frame, none, attributed_with, prepend, flatten, leaf_has_braces, frame_has_braces}
use Rattle.syn_expr_spec.specs.Stands.{is_verbatim_leaf}
use Rattle.syn_expr_spec.proofs.Attributes.{more_before, prepend_none}
use Rattle.syn_expr_ast.specs.Attrs.{attrs_of}
use Rattle.syn_expr_flatten.specs.Flat.{IsFlat, IsFlatBehind, before, behind}

-- neither parentheses, nor after attributes, nor verbatim tokens, and none of its attributes are in its braces
abbrev pub is_plain : Tree → Bool
is_plain (leaf k) = not (is_verbatim_leaf k) && not (leaf_has_braces k)
is_plain (paren m t) = false
is_plain (attributed a more t) = false
is_plain (frame k ks) = not (frame_has_braces k)
is_plain _ = true

plain_flat : (t : Tree) → is_plain t ≡ true → is_plain (flatten t) ≡ true
plain_flat (paren m t) h = cc
plain_flat (attributed a more t) h = cc
plain_flat (leaf k) h = h
plain_flat (prefixed k gs t) h = refl
plain_flat (infixed x k y) h = refl
plain_flat (postfixed x k) h = refl
plain_flat (tail b k ks) h = refl
plain_flat (frame k ks) h = h

prepend_leaf : (ats : List AttributeTree) (k : Leaf) → (not (is_verbatim_leaf k) && not (leaf_has_braces k)) ≡ true → prepend ats (leaf k) ≡ attributed_with ats (leaf k)
prepend_leaf ats (e.verbatim ts) h = absurd cc
prepend_leaf ats (e.block w b) h = absurd cc
prepend_leaf ats (e.loop_expr w b) h = absurd cc
prepend_leaf ats (e.unsafe_block b) h = absurd cc
prepend_leaf ats (e.const_block b) h = absurd cc
prepend_leaf ats _ h = refl

prepend_frame : (ats : List AttributeTree) (k : Frame) (ks : Children) → not (frame_has_braces k) ≡ true → prepend ats (frame k ks) ≡ attributed_with ats (frame k ks)
prepend_frame ats (e.while_loop w) ks h = absurd cc
prepend_frame ats (e.for_loop w p) ks h = absurd cc
prepend_frame ats e.match_expr ks h = absurd cc
prepend_frame ats _ ks h = refl

prepend_plain : (ats : List AttributeTree) (t : Tree) → is_plain t ≡ true → prepend ats t ≡ attributed_with ats t
prepend_plain ats (paren m t) h = cc
prepend_plain ats (attributed a more t) h = cc
prepend_plain ats (leaf k) h = prepend_leaf ats k h
prepend_plain ats (prefixed k gs t) h = refl
prepend_plain ats (infixed x k y) h = refl
prepend_plain ats (postfixed x k) h = refl
prepend_plain ats (tail b k ks) h = refl
prepend_plain ats (frame k ks) h = prepend_frame ats k ks h

more_plain : (ats : List AttributeTree) (a : AttributeTree) (more : List AttributeTree) (t : Tree) → is_plain t ≡ true → prepend ats (attributed a more t) ≡ attributed_with (ats ++ a ∷ more) t
more_plain ats a more t h = ap (prepend ats) (sym (prepend_plain (a ∷ more) t h)) ∙ sym (more_before ats (a ∷ more) t) ∙ prepend_plain (ats ++ a ∷ more) t h

behind_plain : (ats : Option (Vec Attribute Global)) (own : List AttributeTree) (t : Tree) → is_plain t ≡ true
    → behind ats (flatten (attributed_with own t)) ≡ attributed_with (before ats ++ own) (flatten t)
behind_plain None [] t h = refl
behind_plain None (a ∷ more) t h = prepend_plain (a ∷ more) (flatten t) (plain_flat t h)
behind_plain (Some v) [] t h = prepend_plain (attrs_of v) (flatten t) (plain_flat t h) ∙ ap (λ l. attributed_with l (flatten t)) (sym (append-nil (attrs_of v)))
behind_plain (Some v) (a ∷ more) t h =
    ap (prepend (attrs_of v)) (prepend_plain (a ∷ more) (flatten t) (plain_flat t h)) ∙ more_plain (attrs_of v) a more (flatten t) (plain_flat t h)

-- a node after its own attributes, made anew after all
pub at_node : (ats : Option (Vec Attribute Global)) (own now : List AttributeTree) (t u : Tree) → is_plain t ≡ true
    → now ≡ before ats ++ own → IsFlat t u → IsFlatBehind ats (attributed_with own t) (attributed_with now u)
unfolding IsFlat IsFlatBehind
at_node ats own now t u plain joined flat =
    ap (λ l. attributed_with l u) joined ∙ ap (attributed_with (before ats ++ own)) flat ∙ sym (behind_plain ats own t plain)

-- by what it is equal to
pub same_flat : (t u u' : Tree) → u' ≡ u → IsFlat t u → IsFlat t u'
unfolding IsFlat
same_flat t u u' same flat = same ∙ flat

-- ---- by shape

pub leaf_flat : (k : Leaf) → IsFlat (leaf k) (leaf k)
unfolding IsFlat
leaf_flat k = refl

pub prefix_flat : (k : e.Prefix) (t u : Tree) → IsFlat t u → IsFlat (prefixed k none t) (prefixed k none u)
unfolding IsFlat
prefix_flat k t u flat = ap (prefixed k none) flat

pub infix_flat : (k : Infix) (x y t u : Tree) → IsFlat x t → IsFlat y u → IsFlat (infixed x k y) (infixed t k u)
unfolding IsFlat
infix_flat k x y t u left right = ap (λ z. infixed z k u) left ∙ ap (infixed (flatten x) k) right

pub postfix_flat : (k : e.Postfix) (t u : Tree) → IsFlat t u → IsFlat (postfixed t k) (postfixed u k)
unfolding IsFlat
postfix_flat k t u flat = ap (λ z. postfixed z k) flat

-- ---- parentheses

-- what parentheses held, after their attributes too
pub at_paren : (ats : Option (Vec Attribute Global)) (own : List AttributeTree) (v : Vec Attribute Global) (t u : Tree)
    → attrs_of v ≡ before ats ++ own → IsFlatBehind (Some v) t u → IsFlatBehind ats (attributed_with own (paren false t)) u
unfolding IsFlatBehind
at_paren None [] v t u joined flat = flat ∙ ap (λ l. prepend l (flatten t)) joined ∙ prepend_none (flatten t)
at_paren None (a ∷ more) v t u joined flat = flat ∙ ap (λ l. prepend l (flatten t)) joined
at_paren (Some w) [] v t u joined flat = flat ∙ ap (λ l. prepend l (flatten t)) (joined ∙ append-nil (attrs_of w))
at_paren (Some w) (a ∷ more) v t u joined flat = flat ∙ ap (λ l. prepend l (flatten t)) joined ∙ more_before (attrs_of w) (a ∷ more) (flatten t)

-- where no parentheses stood round it
pub none_behind : (t u : Tree) → IsFlatBehind None t u → IsFlat t u
unfolding IsFlat IsFlatBehind
none_behind t u flat = flat

pub ruleset parens = (at_paren, none_behind)

-- What is read of one kind by itself, as code reads it: a leaf after attributes that were read; and that this is exact.
use Rattle.std.proofs.Common.{◌≡◌, Bool, true, false, List, [], ◌++◌, map, Some, None, refl, sym, ap, ◌∙◌}
use Rattle.std.proofs.lemmas.List.{append-nil}
use Rattle.std.specs.declared.vec.Vec.{Vec}
use Rattle.std.specs.declared.alloc.Global.{Global}
use Rattle.syn_tokens.specs.Tok.{Tok}
use Rattle.syn_lower_spec.specs.PatFits.{attributes_outer}
use Rattle.syn_lower_leaves.specs.View.{attribute_of}
use Rattle.syn_lower_leaves.specs.declared.attr.Attribute.{Attribute}
use Rattle.syn_expr_spec.specs.WellFormed.{attributes_inner}
use Rattle.syn_expr_spec.proofs.Attributes.{outers_are}
use Rattle.syn_lower_spec.specs.Tree.{AttributeTree}
use Rattle.syn_lower_spec.specs.Form.{Outcome, and_then}
use Rattle.syn_expr_spec.specs.Tree.{Tree, Leaf, leaf, attributed_with, outers}
use Rattle.syn_expr_spec.specs.Path.{invisible_at}
use Rattle.syn_expr_spec.specs.Alone.{Alone, behind_attributes}
use Rattle.syn_expr_spec.specs.AloneRead.{ArePlain, kind_of, attributing, attributed_alone, leaf_alone}
use Rattle.syn_expr_spec.specs.Exact.{IsExact}
use Rattle.syn_expr_spec.proofs.Alone.{attributed_exact, leaf_exact, none_in_group, plain_takes_attributes, plain_atom}
use Rattle.syn_expr_heads.specs.View as closed
use Rattle.syn_expr_heads.proofs.Closed.{form_is, none_closed}
use Rattle.syn_expr_ast.specs.Attrs.{attrs_of, outer_of, inner_of}
use Rattle.syn_expr_ast.proofs.Attributes.{no_outer, all_inside}

module _ (is : Tree → Bool) (ats : List AttributeTree) (l : List Tok) (plains : ArePlain is) where
  -- what is read as no invisible group begins it, and none where one does, is what is read of the kind
  by_form : (o : Outcome Leaf) → closed.leaf_form.reads l ≡ o → attributing ats (leaf_alone is) l ≡ attributing ats (λ m. and_then o (λ k. kind_of is (leaf k))) l
  unfolding leaf_alone
  by_form o h = by_group (invisible_at l) refl
    where
      by_group : (b : Bool) → invisible_at l ≡ b → attributing ats (leaf_alone is) l ≡ attributing ats (λ m. and_then o (λ k. kind_of is (leaf k))) l
      by_group false v = rw (form_is l v ∙ h) refl
      by_group true v = rw (none_in_group is plains l v, sym h ∙ none_closed l v) refl

  -- one of the kind
  pub leaf_found : (k : Leaf) (n : List Tok) → closed.leaf_form.reads l ≡ Some (k, n) → is (leaf k) ≡ true → attributing ats (leaf_alone is) l ≡ Some (attributed_with ats (leaf k), n)
  leaf_found k n h a = by_form (Some (k, n)) h ∙ rw a refl

  -- of another
  pub leaf_other : (k : Leaf) (n : List Tok) → closed.leaf_form.reads l ≡ Some (k, n) → is (leaf k) ≡ false → attributing ats (leaf_alone is) l ≡ None
  leaf_other k n h a = by_form (Some (k, n)) h ∙ rw a refl

  -- none
  pub leaf_none : closed.leaf_form.reads l ≡ None → attributing ats (leaf_alone is) l ≡ None
  leaf_none h = by_form None h

pub ruleset leaves = (leaf_found, leaf_other, leaf_none)

-- none come before it
pub bare_leaf_is : (is : Tree → Bool) (l : List Tok) → attributing [] (leaf_alone is) l ≡ leaf_alone is l
bare_leaf_is is l = by (leaf_alone is l)
  where
    by : (o : Outcome Tree) → and_then o (λ x n. Some (attributed_with [] x, n)) ≡ o
    by None = refl
    by (Some q) = refl

pub ruleset bare = (bare_leaf_is)

-- one after attributes or none
pub attributed_leaf_exact : (is : Tree → Bool) → ArePlain is → IsExact (attributed_alone (leaf_alone is)) (Alone (behind_attributes is))
attributed_leaf_exact is p = attributed_exact is (leaf_alone is) (leaf_exact is p) (λ x h. plain_atom x (p x h)) (λ x h. plain_takes_attributes x (p x h))

-- ---- outer attributes before inner ones, as a node with braces has them

pub outer_there : (v a b : Vec Attribute Global) → attributes_outer (attrs_of a) ≡ true → attributes_inner (map attribute_of b.items) ≡ true → outer_of v ≡ outer_of a ++ outer_of b → outer_of v ≡ attrs_of a
unfolding outer_of attrs_of
outer_there v a b o i h =
    h ∙ ap (λ l. l ++ outers (map attribute_of b.items)) (outers_are (map attribute_of a.items) o)
    ∙ ap (λ l. map attribute_of a.items ++ l) (no_outer (map attribute_of b.items) i) ∙ append-nil (map attribute_of a.items)

pub inner_there : (v b : Vec Attribute Global) → attributes_inner (map attribute_of b.items) ≡ true → inner_of v ≡ inner_of b → inner_of v ≡ map attribute_of b.items
unfolding inner_of
inner_there v b i h = h ∙ all_inside (map attribute_of b.items) i

pub ruleset braces = (outer_there, inner_there)

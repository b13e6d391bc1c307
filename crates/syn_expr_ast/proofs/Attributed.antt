-- Attributes put before others.
use Rattle.std.specs.Prelude.{not, if◌then◌else◌}
use Rattle.std.proofs.Common.{◌≡◌, true, false, List, [], ◌∷◌, ◌++◌, map, refl, ap, ◌∙◌}
use Rattle.std.proofs.lemmas.List.{append-nil, map-append}
use Rattle.std.specs.declared.vec.Vec.{Vec}
use Rattle.std.specs.declared.alloc.Global.{Global}
use Rattle.std.proofs.lemmas.Bool.{and_parts, not-true}
use Rattle.syn_lower_spec.specs.Tree.{AttributeTree}
use Rattle.syn_lower_spec.specs.PatFits.{attributes_outer}
use Rattle.syn_lower_leaves.specs.View.{attribute_of}
use Rattle.syn_lower_leaves.specs.declared.attr.Attribute.{Attribute}
use Rattle.syn_expr_spec.specs.Tree.{Tree, attributed_with, outers, from_inner}
use Rattle.syn_expr_spec.specs.Stands.{is_attributed}
use Rattle.syn_expr_spec.proofs.Attributes.{outers_append, outers_are}
use Rattle.syn_expr_ast.specs.Attrs.{attrs_of, outer_of, inner_of}

-- where none come before it
pub attributed_with_more : (ats bs : List AttributeTree) (t : Tree) → is_attributed (attributed_with bs t) ≡ false → attributed_with (ats ++ bs) t ≡ attributed_with ats (attributed_with bs t)
attributed_with_more ats [] t h = ap (λ l. attributed_with l t) (append-nil ats)
attributed_with_more ats (b ∷ bs) t h = absurd cc

-- ---- where all are outer ones

pub outer_all : (v : Vec Attribute Global) → attributes_outer (attrs_of v) ≡ true → outer_of v ≡ attrs_of v
unfolding attrs_of outer_of
outer_all v h = outers_are (map attribute_of v.items) h

from_outer : (ats bs : List AttributeTree) → attributes_outer ats ≡ true → from_inner (ats ++ bs) ≡ from_inner bs
from_outer [] bs h = refl
from_outer (a ∷ more) bs h =
    let p = and_parts (not a.inner) (attributes_outer more) h in
    ap (λ b. if b then a ∷ (more ++ bs) else from_inner (more ++ bs)) (not-true a.inner p.0) ∙ from_outer more bs p.1

pub ruleset attributed = (attributed_with_more, outer_all)

-- ---- the same of what was put after

module _ (v a b : Vec Attribute Global) (h : v.items ≡ a.items ++ b.items) where
  pub joined_all : attrs_of v ≡ attrs_of a ++ attrs_of b
  unfolding attrs_of
  joined_all = ap (map attribute_of) h ∙ map-append attribute_of a.items b.items

  pub joined_outer : outer_of v ≡ outer_of a ++ outer_of b
  unfolding attrs_of outer_of
  joined_outer = ap outers joined_all ∙ outers_append (map attribute_of a.items) (map attribute_of b.items)

  pub joined_inner : attributes_outer (attrs_of a) ≡ true → inner_of v ≡ inner_of b
  unfolding attrs_of inner_of
  joined_inner o = ap from_inner joined_all ∙ from_outer (map attribute_of a.items) (map attribute_of b.items) o

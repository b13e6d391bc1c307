-- Nodes with inner attributes first in their braces, made anew.
use Rattle.std.proofs.Common.{◌≡◌, true, List, [], ◌∷◌, ◌++◌, map, Option, Some, None, refl, sym, ap, ◌∙◌}
use Rattle.std.proofs.lemmas.List.{append-nil}
use Rattle.std.specs.declared.vec.Vec.{Vec}
use Rattle.std.specs.declared.alloc.Global.{Global}
use Rattle.syn_tokens.specs.Tok.{Tok}
use Rattle.syn_lower_spec.specs.Text.{Text}
use Rattle.syn_lower_spec.specs.Tree.{AttributeTree}
use Rattle.syn_lower_spec.specs.Pat.{PatTree}
use Rattle.syn_lower_spec.specs.PatFits.{attributes_outer}
use Rattle.syn_lower_leaves.specs.View.{attribute_of}
use Rattle.syn_lower_leaves.specs.declared.attr.Attribute.{Attribute}
use Rattle.syn_expr_spec.specs.Tree as e
use Rattle.syn_expr_spec.specs.Tree.{Tree, Children, leaf, frame, none, child, attributed_with, prepend, flatten, flatten_children, body_of, inners, children_inner, children_with, outers}
use Rattle.syn_expr_spec.proofs.Attributes.{inners_none, outers_are, outers_outer}
use Rattle.syn_expr_ast.specs.Attrs.{attrs_of, inner_of, outer_of}
use Rattle.syn_expr_ast.specs.Pats.{strays}
use Rattle.syn_expr_flatten.specs.Flat.{IsFlat, IsFlatBehind, before, behind}

-- what comes before such a node is put there, and first in its braces
pub record IsBraced (x : List AttributeTree → Tree) : Type 0 where
  pub bare : (more l : List AttributeTree) → prepend more (x l) ≡ attributed_with (outers more) (x (inners more ++ l))
  pub attributed : (more : List AttributeTree) (b : AttributeTree) (bs l : List AttributeTree) → prepend more (e.attributed b bs (x l)) ≡ attributed_with (outers more ++ b ∷ bs) (x (inners more ++ l))

module _ (x : List AttributeTree → Tree) (h : IsBraced (λ l. flatten (x l))) where
  own_braced : (os l : List AttributeTree) → attributes_outer os ≡ true → flatten (attributed_with os (x l)) ≡ attributed_with os (flatten (x l))
  own_braced [] l o = refl
  own_braced (a ∷ more) l o =
      h.bare (a ∷ more) l ∙ ap (λ z. attributed_with z (flatten (x (inners (a ∷ more) ++ l)))) (outers_are (a ∷ more) o)
      ∙ ap (λ z. attributed_with (a ∷ more) (flatten (x (z ++ l)))) (inners_none (a ∷ more) o)

  more_braced : (more os l : List AttributeTree) → prepend more (attributed_with os (flatten (x l))) ≡ attributed_with (outers more ++ os) (flatten (x (inners more ++ l)))
  more_braced more [] l = h.bare more l ∙ ap (λ z. attributed_with z (flatten (x (inners more ++ l)))) (sym (append-nil (outers more)))
  more_braced more (b ∷ bs) l = h.attributed more b bs l

  behind_braced : (ats : Option (Vec Attribute Global)) (os l : List AttributeTree) → attributes_outer os ≡ true
      → behind ats (flatten (attributed_with os (x l))) ≡ attributed_with (outers (before ats) ++ os) (flatten (x (inners (before ats) ++ l)))
  behind_braced None os l o = own_braced os l o
  behind_braced (Some v) os l o = ap (prepend (attrs_of v)) (own_braced os l o) ∙ more_braced (attrs_of v) os l

outer_all : (v : Vec Attribute Global) → attributes_outer (outer_of v) ≡ true
unfolding outer_of
outer_all v = outers_outer (map attribute_of v.items)

-- such a node after its own attributes, made anew after all
pub at_braces : (ats : Option (Vec Attribute Global)) (was now : Vec Attribute Global) (x : List AttributeTree → Tree) (u : Tree) → IsBraced (λ l. flatten (x l))
    → outer_of now ≡ outers (before ats) ++ outer_of was → inner_of now ≡ inners (before ats) ++ inner_of was → IsFlat (x (inner_of now)) u
    → IsFlatBehind ats (attributed_with (outer_of was) (x (inner_of was))) (attributed_with (outer_of now) u)
unfolding IsFlat IsFlatBehind
at_braces ats was now x u h outer inner flat =
    ap (attributed_with (outer_of now)) flat ∙ ap (λ l. attributed_with (outer_of now) (flatten (x l))) inner
    ∙ ap (λ l. attributed_with l (flatten (x (inners (before ats) ++ inner_of was)))) outer
    ∙ sym (behind_braced x h ats (outer_of was) (inner_of was) (outer_all was))

-- ---- each kind

pub block_braced : (w : Option Text) (ts : List Tok) → IsBraced (λ l. leaf (e.block w (body_of l ts)))
block_braced w ts = record { bare = λ more l. refl; attributed = λ more b bs l. refl }

pub loop_braced : (w : Option Text) (ts : List Tok) → IsBraced (λ l. leaf (e.loop_expr w (body_of l ts)))
loop_braced w ts = record { bare = λ more l. refl; attributed = λ more b bs l. refl }

pub unsafe_braced : (ts : List Tok) → IsBraced (λ l. leaf (e.unsafe_block (body_of l ts)))
unsafe_braced ts = record { bare = λ more l. refl; attributed = λ more b bs l. refl }

pub const_braced : (ts : List Tok) → IsBraced (λ l. leaf (e.const_block (body_of l ts)))
const_braced ts = record { bare = λ more l. refl; attributed = λ more b bs l. refl }

pub while_braced : (w : Option Text) (ts : List Tok) (t : Tree) → IsBraced (λ l. flatten (frame (e.while_loop w) (child e.loop_head (e.braced (body_of l ts)) t none)))
while_braced w ts t = record { bare = λ more l. refl; attributed = λ more b bs l. refl }

pub match_braced : (t : Tree) (ks : Children) → IsBraced (λ l. flatten (frame e.match_expr (child e.scrutinee (e.opened l) t ks)))
match_braced t ks = record { bare = λ more l. refl; attributed = λ more b bs l. refl }

stray_body : (gs : List Tree) (ts : List Tok) (t : Tree) (more l : List AttributeTree) →
    let body : List AttributeTree → Children = λ l. flatten_children (strays gs (child e.loop_head (e.braced (body_of l ts)) t none)) in
    children_with (more ++ children_inner (body l)) (body l) ≡ body (more ++ l)
stray_body [] ts t more l = refl
stray_body (g ∷ gs) ts t more l = ap (child e.stray e.no_ending (flatten g)) (stray_body gs ts t more l)

pub for_loop_braced : (w : Option Text) (p : PatTree) (gs : List Tree) (ts : List Tok) (t : Tree)
    → IsBraced (λ l. flatten (frame (e.for_loop w p) (strays gs (child e.loop_head (e.braced (body_of l ts)) t none))))
for_loop_braced w p gs ts t = record {
  bare = λ more l. ap (λ ks. attributed_with (outers more) (frame (e.for_loop w p) ks)) (stray_body gs ts t (inners more) l);
  attributed = λ more b bs l. ap (λ ks. attributed_with (outers more ++ b ∷ bs) (frame (e.for_loop w p) ks)) (stray_body gs ts t (inners more) l);
}

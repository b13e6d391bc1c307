-- The attributes of each kind, and others in their place.
use Rattle.std.specs.Prelude.{◌-◌, take}
use Rattle.std.proofs.Common.{◌≡◌, List, [], ◌∷◌, ◌++◌, length, map, Option, Some, None, refl, ap, sym, ◌∙◌, arith}
use Rattle.std.proofs.lemmas.List.{append-nil, take_all}
use Rattle.syn_expr_ast.proofs.Attributes.{all_parts}
use Rattle.std.specs.declared.vec.Vec.{Vec}
use Rattle.std.specs.declared.alloc.Global.{Global}
use Rattle.syn_lower_spec.specs.Tree.{AttributeTree, ReturnTree, default, given}
use Rattle.syn_lower_leaves.specs.View.{attribute_of}
use Rattle.syn_lower_leaves.specs.declared.attr.Attribute.{Attribute}
use Rattle.syn_expr_spec.specs.declared.kinds.Limits.{Limits}
use Rattle.syn_expr_spec.specs.Tree as e
use Rattle.syn_expr_spec.specs.Tree.{Tree, Children, Jump, ClosureHead, frame, child, none, attributed_with, attributes_in, body_of, but_last, from_inner, children_inner, children_with, outers, with_attributes}
use Rattle.syn_expr_ast.specs.Attrs.{attrs_of, outer_of, inner_of}
use Rattle.syn_lower_spec.specs.Text.{Text}
use Rattle.syn_lower_spec.specs.Pat.{PatTree}
use Rattle.syn_tokens.specs.Tok.{Tok}
use Rattle.syn_expr_ast.specs.Pats.{strays, closure_by, arms}
use Rattle.syn_expr_ast.specs.View.{range_between, jump_with}
use Rattle.syn_expr_core.specs.declared.expr.Expr.{Expr}
use Rattle.syn_expr_core.specs.declared.expr.Expr.TheVariants as ex
use Rattle.syn_expr_core.specs.declared.control.ExprMatch.{ExprMatch, out-ExprMatch, roll-ExprMatch, out-roll-ExprMatch}
use Rattle.syn_expr_core.specs.View.{tree_of, arm_of, match_layer, views}
use Rattle.syn_expr_core.proofs.TreeOf.{tree-Match, match_expr-is}

-- ---- attributes before a tree

with_attributed : (ats old : List AttributeTree) (t : Tree) → with_attributes ats (attributed_with old t) ≡ with_attributes ats t
with_attributed ats [] t = refl
with_attributed ats (a ∷ more) t = refl

no_last : (others : List AttributeTree) → but_last others [] ≡ []
no_last others = take_all (0 - length others) [] (omega arith)

in_attributed : (old : List AttributeTree) (t : Tree) → attributes_in (attributed_with old t) ≡ but_last (outers (attributes_in t)) old ++ attributes_in t
in_attributed [] t = sym (ap (λ l. l ++ attributes_in t) (no_last (outers (attributes_in t))))
in_attributed (a ∷ more) t = refl

none_last : (ats : List AttributeTree) → but_last [] ats ≡ ats
none_last ats =
    let all : length ats - 0 ≡ length ats = omega arith in
    ap (λ n. take n ats) all ∙ take_all (length ats) ats (omega arith)

-- Of the tree t these attributes were given, and with others in their place it is u.
abbrev pub Replaced : (was new : List AttributeTree) (t u : Tree) → Type 0
Replaced was new t u = (u ≡ with_attributes new t) × (was ≡ attributes_in t)

-- ---- a node that has all its attributes before it

pub record IsPlain (t : Tree) : Type 0 where
  pub put : (ats : List AttributeTree) → with_attributes ats t ≡ attributed_with ats t
  pub bare : attributes_in t ≡ []

pub before : (was new : List AttributeTree) {x t u : Tree} → t ≡ attributed_with was x → u ≡ attributed_with new x → IsPlain x → Replaced was new t u
before was new {x = x} old now h = (
  now ∙ sym (ap (with_attributes new) old ∙ with_attributed new was x ∙ h.put new),
  sym (ap attributes_in old ∙ in_attributed was x ∙ ap (λ l. but_last (outers l) was ++ l) h.bare ∙ append-nil (but_last [] was) ∙ none_last was),
)

pub plain : {x : Tree} → ((ats : List AttributeTree) → with_attributes ats x ≡ attributed_with ats x) → attributes_in x ≡ [] → IsPlain x
plain put bare = record { put = put; bare = bare }

pub range_plain : (op : Limits) (x y : Option Tree) → IsPlain (range_between op x y)
range_plain op None None = record { put = λ ats. refl; bare = refl }
range_plain op None (Some y) = record { put = λ ats. refl; bare = refl }
range_plain op (Some x) None = record { put = λ ats. refl; bare = refl }
range_plain op (Some x) (Some y) = record { put = λ ats. refl; bare = refl }

pub jump_plain : (j : Jump) (x : Option Tree) → IsPlain (jump_with j x)
jump_plain j None = record { put = λ ats. refl; bare = refl }
jump_plain j (Some x) = record { put = λ ats. refl; bare = refl }

pub closure_plain : (r : ReturnTree) (h : ClosureHead) (gs : List Tree) (t : Tree) → IsPlain (closure_by r h gs t)
closure_plain default h gs t = record { put = λ ats. refl; bare = refl }
closure_plain (given ty) h gs t = record { put = λ ats. refl; bare = refl }

-- ---- a node with attributes first in its braces too

pub record IsBraced (x : List AttributeTree → Tree) : Type 0 where
  pub put : (ats old : List AttributeTree) → with_attributes ats (x old) ≡ attributed_with (outers ats) (x (from_inner ats))
  pub inner : (old : List AttributeTree) → attributes_in (x old) ≡ old

pub around : (x : List AttributeTree → Tree) (was new : Vec Attribute Global) {t u : Tree}
    → t ≡ attributed_with (outer_of was) (x (inner_of was)) → u ≡ attributed_with (outer_of new) (x (inner_of new)) → IsBraced x → Replaced (attrs_of was) (attrs_of new) t u
unfolding attrs_of outer_of inner_of
around x was new old now h =
    let all = map attribute_of was.items in let outer = outers all in let inner = from_inner all in (
      now ∙ sym (ap (with_attributes (map attribute_of new.items)) old ∙ with_attributed (map attribute_of new.items) outer (x inner) ∙ h.put (map attribute_of new.items) inner),
      sym (ap attributes_in old ∙ in_attributed outer (x inner) ∙ ap (λ l. but_last (outers l) outer ++ l) (h.inner inner) ∙ all_parts all),
    )

pub braced : {x : List AttributeTree → Tree} → ((ats old : List AttributeTree) → with_attributes ats (x old) ≡ attributed_with (outers ats) (x (from_inner ats)))
    → ((old : List AttributeTree) → attributes_in (x old) ≡ old) → IsBraced x
braced put inner = record { put = put; inner = inner }

stray_inner : (gs : List Tree) (ks : Children) → children_inner (strays gs ks) ≡ children_inner ks
stray_inner [] ks = refl
stray_inner (g ∷ gs) ks = stray_inner gs ks

stray_with : (ats : List AttributeTree) (gs : List Tree) (ks : Children) → children_with ats (strays gs ks) ≡ strays gs (children_with ats ks)
stray_with ats [] ks = refl
stray_with ats (g ∷ gs) ks = ap (child e.stray e.no_ending g) (stray_with ats gs ks)

pub for_loop_braced : (label : Option Text) (p : PatTree) (gs : List Tree) (ts : List Tok) (t : Tree)
    → IsBraced (λ ats. frame (e.for_loop label p) (strays gs (child e.loop_head (e.braced (body_of ats ts)) t none)))
for_loop_braced label p gs ts t = record {
  put = λ ats old. ap (λ ks. attributed_with (outers ats) (frame (e.for_loop label p) ks)) (stray_with (from_inner ats) gs (child e.loop_head (e.braced (body_of old ts)) t none));
  inner = λ old. stray_inner gs (child e.loop_head (e.braced (body_of old ts)) t none);
}

-- What code makes of a `match` is taken apart by a path alone.
pub match_replaced : (x : ExprMatch) (new : Vec Attribute Global)
    → Replaced (attrs_of (out-ExprMatch x).attrs) (attrs_of new) (tree_of (ex.Match x)) (tree_of (ex.Match (roll-ExprMatch (record (out-ExprMatch x) { attrs = new }))))
match_replaced x new =
    let m = out-ExprMatch x in
    around (λ ats. frame e.match_expr (child e.scrutinee (e.opened ats) (tree_of m.expr.value) (arms (map arm_of m.arms.items)))) m.attrs new
    (tree-Match x ∙ match_expr-is x) (tree-Match _ ∙ match_expr-is _ ∙ ap (match_layer views) (out-roll-ExprMatch _)) (braced (λ ats old. refl) (λ old. refl))

-- ---- what the code gives

-- the list that was taken out of s, which is t
pub kept : {v w : Vec Attribute Global} {s t : Expr} → s ≡ t → v ≡ w → attrs_of w ≡ attributes_in (tree_of t) → attrs_of v ≡ attributes_in (tree_of s)
kept is same all = ap attrs_of same ∙ all ∙ sym (ap (λ x. attributes_in (tree_of x)) is)

pub none_given : (v : Vec Attribute Global) → v.items ≡ [] → attrs_of v ≡ []
unfolding attrs_of
none_given v h = ap (map attribute_of) h

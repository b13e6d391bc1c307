-- What holds both expressions and patterns, after more attributes.
use Rattle.std.proofs.Common.{◌≡◌, false, List, ◌++◌, map, refl, ap, sym, ◌∙◌}
use Rattle.std.specs.declared.vec.Vec.{Vec}
use Rattle.std.specs.declared.alloc.Global.{Global}
use Rattle.syn_lower_spec.specs.Tree.{AttributeTree}
use Rattle.syn_lower.specs.View.{mapped}
use Rattle.syn_lower_leaves.specs.declared.attr.Attribute.{Attribute}
use Rattle.syn_expr_spec.specs.Tree as e
use Rattle.syn_expr_spec.specs.Tree.{Tree, attributed_with, frame, child, none}
use Rattle.syn_expr_spec.specs.Stands.{is_attributed}
use Rattle.syn_expr_tokens.specs.View.{label_of}
use Rattle.syn_pat.specs.View.{PatView}
use Rattle.syn_expr_ast.specs.Attrs.{attrs_of, outer_of, inner_of}
use Rattle.syn_expr_ast.specs.Both.{expr_closure_of, expr_for_loop_of, expr_let_of, expr_match_of}
use Rattle.syn_expr_ast.specs.Pats.{ArmView, arms, strays}
use Rattle.syn_expr_ast.specs.View.{body_of}
use Rattle.syn_expr_ast.specs.declared.pattern.ExprClosureOf.{ExprClosureOf}
use Rattle.syn_expr_ast.specs.declared.pattern.ExprForLoopOf.{ExprForLoopOf}
use Rattle.syn_expr_ast.specs.declared.pattern.ExprLetOf.{ExprLetOf}
use Rattle.syn_expr_ast.specs.declared.pattern.ExprMatchOf.{ExprMatchOf}
use Rattle.syn_expr_ast.proofs.Attributed.{attributed_with_more}
use Rattle.syn_expr_core.specs.declared.control.ExprMatch.{ExprMatch, out-ExprMatch, roll-ExprMatch, out-roll-ExprMatch}
use Rattle.syn_expr_core.specs.View.{match_layer, match_of, match_parts, views}
use Rattle.syn_expr_core.proofs.TreeOf.{match_expr-is}

-- a tree, and one that has the same after its attributes and more before these
behind_by : (ats old new : List AttributeTree) (x y t u : Tree) → t ≡ attributed_with old x → u ≡ attributed_with new y → new ≡ ats ++ old → y ≡ x → is_attributed t ≡ false → u ≡ attributed_with ats t
behind_by ats old new x y t u is_old is_new joined same bare =
    is_new ∙ ap (λ l. attributed_with l y) joined ∙ ap (attributed_with (ats ++ old)) same
    ∙ attributed_with_more ats old x (ap is_attributed (sym is_old) ∙ bare) ∙ ap (attributed_with ats) (sym is_old)

pub closure_behind : {E P : Type 0} (f : E → Tree) (g : P → PatView) (x : ExprClosureOf E P) (v : Vec Attribute Global) (ats : List AttributeTree) (t : Tree)
    → t ≡ expr_closure_of f g x → attrs_of v ≡ ats ++ attrs_of x.attrs → is_attributed t ≡ false
    → expr_closure_of f g (record x { attrs = v }) ≡ attributed_with ats t
closure_behind f g x v ats t is_old joined = behind_by ats _ _ _ _ t _ is_old refl joined refl

pub let_behind : {E P : Type 0} (f : E → Tree) (g : P → PatView) (x : ExprLetOf E P) (v : Vec Attribute Global) (ats : List AttributeTree) (t : Tree)
    → t ≡ expr_let_of f g x → attrs_of v ≡ ats ++ attrs_of x.attrs → is_attributed t ≡ false
    → expr_let_of f g (record x { attrs = v }) ≡ attributed_with ats t
let_behind f g x v ats t is_old joined = behind_by ats _ _ _ _ t _ is_old refl joined refl

-- Of those with braces the inner attributes stay there.

pub for_loop_behind : {E P : Type 0} (f : E → Tree) (g : P → PatView) (x : ExprForLoopOf E P) (v : Vec Attribute Global) (ats : List AttributeTree) (t : Tree)
    → t ≡ expr_for_loop_of f g x → outer_of v ≡ ats ++ outer_of x.attrs → inner_of v ≡ inner_of x.attrs → is_attributed t ≡ false
    → expr_for_loop_of f g (record x { attrs = v }) ≡ attributed_with ats t
for_loop_behind f g x v ats t is_old outer inner =
    let p = g x.pat.value in
    let inside : List AttributeTree → Tree = λ l. frame (e.for_loop (mapped label_of x.label) p.tree)
    (strays p.guards (child e.loop_head (e.braced (body_of l x.body.stmts)) (f x.expr.value) none)) in
    behind_by ats _ _ _ _ t _ is_old refl outer (ap inside inner)

pub match_behind : {E A : Type 0} (f : E → Tree) (g : A → ArmView) (x : ExprMatchOf E A) (v : Vec Attribute Global) (ats : List AttributeTree) (t : Tree)
    → t ≡ expr_match_of f g x → outer_of v ≡ ats ++ outer_of x.attrs → inner_of v ≡ inner_of x.attrs → is_attributed t ≡ false
    → expr_match_of f g (record x { attrs = v }) ≡ attributed_with ats t
match_behind f g x v ats t is_old outer inner =
    let inside : List AttributeTree → Tree = λ l. frame e.match_expr (child e.scrutinee (e.opened l) (f x.expr.value) (arms (map g x.arms.items))) in
    behind_by ats _ _ _ _ t _ is_old refl outer (ap inside inner)

-- What code makes of a `match` is taken apart by a path alone; it takes the old one apart, and then the fields that it keeps.
pub match_expr_behind : (x : ExprMatch) (v : Vec Attribute Global) (ats : List AttributeTree)
    → outer_of v ≡ ats ++ outer_of (out-ExprMatch x).attrs → inner_of v ≡ inner_of (out-ExprMatch x).attrs → is_attributed (match_of x) ≡ false
    → match_of (roll-ExprMatch (record (out-ExprMatch (roll-ExprMatch (out-ExprMatch x))) { attrs = v })) ≡ attributed_with ats (match_of x)
match_expr_behind x v ats outer inner bare =
    match_expr-is _ ∙ ap (match_layer views) (out-roll-ExprMatch _)
    ∙ ap (λ m. match_layer views (record m { attrs = v })) (out-roll-ExprMatch (out-ExprMatch x))
    ∙ match_behind views.tree views.arm (match_parts (out-ExprMatch x)) v ats (match_of x) (match_expr-is x) outer inner bare

-- Of the kinds of expressions one alone is a path.
use Rattle.std.proofs.Common.{◌≡◌, true, false, ◌==◌, List, [], ◌∷◌, length, map, refl, ap, sym, ◌∙◌, Option, Some, None, rules}
use Rattle.syn_lower_spec.specs.Tree.{AttributeTree, ReturnTree, default, given}
use Rattle.syn_expr_spec.specs.Tree as e
use Rattle.syn_expr_spec.specs.Tree.{Tree, Jump, ClosureHead, leaf, attributed_with}
use Rattle.syn_lower.specs.View.{path_of, qself_or, type_of}
use Rattle.syn_lower_leaves.specs.View.{attribute_of}
use Rattle.syn_lower_leaves.specs.declared.attr.Attribute.{Attribute}
use Rattle.syn_expr_parse.specs.Kind.{is_path}
use Rattle.syn_expr_spec.specs.declared.kinds.Limits.{Limits}
use Rattle.syn_expr_ast.specs.Pats.{closure_by}
use Rattle.syn_expr_ast.specs.Attrs.{attrs_of}
use Rattle.syn_expr_ast.specs.View.{jump_with, range_between}
use Rattle.syn_expr_ast.specs.declared.atom.ExprPath.{ExprPath}
use Rattle.syn_expr_core.specs.declared.expr.Expr.{Expr, out-Expr, roll-Expr, roll-out-Expr}
use Rattle.syn_expr_core.specs.declared.expr.Expr.TheVariants as ex
use Rattle.syn_expr_core.specs.declared.expr.Expr.TheOpen.{Expr-F}
use Rattle.syn_expr_core.specs.declared.pat.Pat.{Pat}
use Rattle.syn_expr_core.specs.declared.pat.PatGuard.{PatGuard}
use Rattle.syn_expr_core.specs.declared.closure.ExprClosure.{ExprClosure}
use Rattle.syn_expr_core.specs.declared.control.Arm.{Arm}
use Rattle.syn_expr_core.specs.declared.control.ExprForLoop.{ExprForLoop}
use Rattle.syn_expr_core.specs.declared.control.ExprLet.{ExprLet}
use Rattle.syn_expr_core.specs.declared.control.ExprMatch.{ExprMatch}
use Rattle.syn_expr_core.specs.View.{tree_layer, tree_of, views}
use Rattle.syn_expr_core.proofs.TreeOf.{tree_out, tree-Path, closure-is, for_loop-is, let_expr-is, match_expr-is}
use Rattle.syn_expr_core.proofs.Guards.{not_empty}

-- Attributes before it make none of it.
attributed_with_no_path : (ats : List AttributeTree) (t : Tree) → is_path t ≡ false → is_path (attributed_with ats t) ≡ false
attributed_with_no_path [] t h = h
attributed_with_no_path (a ∷ more) t h = refl

jump_no_path : (j : Jump) (x : Option Tree) → is_path (jump_with j x) ≡ false
jump_no_path j None = refl
jump_no_path j (Some x) = refl

range_no_path : (op : Limits) (x y : Option Tree) → is_path (range_between op x y) ≡ false
range_no_path op None None = refl
range_no_path op None (Some y) = refl
range_no_path op (Some x) None = refl
range_no_path op (Some x) (Some y) = refl

closure_no_path : (r : ReturnTree) (h : ClosureHead) (gs : List Tree) (t : Tree) → is_path (closure_by r h gs t) ≡ false
closure_no_path default h gs t = refl
closure_no_path (given ty) h gs t = refl

ruleset no_paths = (attributed_with_no_path, jump_no_path, range_no_path, closure_no_path, closure-is, for_loop-is, let_expr-is, match_expr-is)

layer_no_path : (l : Expr-F Expr Pat ExprClosure Arm ExprForLoop ExprLet ExprMatch PatGuard) → ((p : ExprPath) → l ≡ Expr-F.Expr::Path p → ⊥) → is_path (tree_layer views l) ≡ false
layer_no_path (Expr-F.Expr::Path p) other = absurd (other p refl)
layer_no_path _ other = search (rules, no_paths)

pub not_path : (x : Expr) → ((p : ExprPath) → x ≡ ex.Path p → ⊥) → is_path (tree_of x) ≡ false
not_path x other = ap is_path (tree_out x) ∙ layer_no_path (out-Expr x) (λ p h. other p (sym (roll-out-Expr x) ∙ ap roll-Expr h ∙ ex.rolls-Path p))

-- ---- attributes before a path

bare_is : (ats : List Attribute) (t : Tree) → (length ats == 0) ≡ true → attributed_with (map attribute_of ats) t ≡ t
bare_is [] t h = refl
bare_is (a ∷ ats) t h = absurd (not_empty a ats h)

attributed_is_none : (ats : List Attribute) (t : Tree) → (length ats == 0) ≡ false → is_path (attributed_with (map attribute_of ats) t) ≡ false
attributed_is_none [] t h = absurd cc
attributed_is_none (a ∷ ats) t h = refl

-- without attributes it is a leaf
pub path_bare : (x : Expr) (p : ExprPath) → x ≡ ex.Path p → (length p.attrs.items == 0) ≡ true → tree_of x ≡ leaf (e.path (qself_or type_of p.qself) (path_of type_of p.path))
unfolding attrs_of
path_bare x p same h = ap tree_of same ∙ tree-Path p ∙ bare_is p.attrs.items (leaf (e.path (qself_or type_of p.qself) (path_of type_of p.path))) h

-- after attributes it is none
pub path_attributed : (x : Expr) (p : ExprPath) → x ≡ ex.Path p → (length p.attrs.items == 0) ≡ false → is_path (tree_of x) ≡ false
unfolding attrs_of
path_attributed x p same h = ap is_path (ap tree_of same ∙ tree-Path p) ∙ attributed_is_none p.attrs.items (leaf (e.path (qself_or type_of p.qself) (path_of type_of p.path))) h

pub ruleset paths = (not_path, path_bare, path_attributed)

-- Of the kinds of expressions one alone is of verbatim tokens.
use Rattle.std.proofs.Common.{◌≡◌, false, List, [], ◌∷◌, refl, ap, sym, ◌∙◌, Option, Some, None, rules}
use Rattle.syn_tokens.specs.Tok.{Tok}
use Rattle.syn_lower_spec.specs.Tree.{AttributeTree, ReturnTree, default, given}
use Rattle.syn_expr_spec.specs.Tree.{Tree, Jump, ClosureHead, attributed_with}
use Rattle.syn_expr_spec.specs.Stands.{is_verbatim}
use Rattle.syn_expr_spec.specs.declared.kinds.Limits.{Limits}
use Rattle.syn_expr_ast.specs.Pats.{closure_by}
use Rattle.syn_expr_ast.specs.View.{jump_with, range_between}
use Rattle.syn_expr_core.specs.declared.expr.Expr.{Expr, out-Expr, roll-Expr, roll-out-Expr}
use Rattle.syn_expr_core.specs.declared.expr.Expr.TheVariants as ex
use Rattle.syn_expr_core.specs.declared.expr.Expr.TheOpen.{Expr-F}
use Rattle.syn_expr_core.specs.declared.pat.Pat.{Pat}
use Rattle.syn_expr_core.specs.declared.pat.PatGuard.{PatGuard}
use Rattle.syn_expr_core.specs.declared.closure.ExprClosure.{ExprClosure}
use Rattle.syn_expr_core.specs.declared.control.Arm.{Arm}
use Rattle.syn_expr_core.specs.declared.control.ExprForLoop.{ExprForLoop}
use Rattle.syn_expr_core.specs.declared.control.ExprLet.{ExprLet}
use Rattle.syn_expr_core.specs.declared.control.ExprMatch.{ExprMatch}
use Rattle.syn_expr_core.specs.View.{tree_layer, tree_of, views}
use Rattle.syn_expr_core.proofs.TreeOf.{tree_out, closure-is, for_loop-is, let_expr-is, match_expr-is}

-- Attributes before it make none of it.
attributed_with_plain : (ats : List AttributeTree) (t : Tree) → is_verbatim t ≡ false → is_verbatim (attributed_with ats t) ≡ false
attributed_with_plain [] t h = h
attributed_with_plain (a ∷ more) t h = refl

jump_plain : (j : Jump) (x : Option Tree) → is_verbatim (jump_with j x) ≡ false
jump_plain j None = refl
jump_plain j (Some x) = refl

range_plain : (op : Limits) (x y : Option Tree) → is_verbatim (range_between op x y) ≡ false
range_plain op None None = refl
range_plain op None (Some y) = refl
range_plain op (Some x) None = refl
range_plain op (Some x) (Some y) = refl

closure_plain : (r : ReturnTree) (h : ClosureHead) (gs : List Tree) (t : Tree) → is_verbatim (closure_by r h gs t) ≡ false
closure_plain default h gs t = refl
closure_plain (given ty) h gs t = refl

ruleset plain = (attributed_with_plain, jump_plain, range_plain, closure_plain, closure-is, for_loop-is, let_expr-is, match_expr-is)

layer_plain : (l : Expr-F Expr Pat ExprClosure Arm ExprForLoop ExprLet ExprMatch PatGuard) → ((ts : List Tok) → l ≡ Expr-F.Verbatim ts → ⊥) → is_verbatim (tree_layer views l) ≡ false
layer_plain (Expr-F.Verbatim ts) other = absurd (other ts refl)
layer_plain _ other = search (rules, plain)

pub not_verbatim : (x : Expr) → ((ts : List Tok) → x ≡ ex.Verbatim ts → ⊥) → is_verbatim (tree_of x) ≡ false
not_verbatim x other = ap is_verbatim (tree_out x) ∙ layer_plain (out-Expr x) (λ ts h. other ts (sym (roll-out-Expr x) ∙ ap roll-Expr h ∙ ex.rolls-Verbatim ts))

-- An expression taken apart to a struct of its kind, in a place for each kind.
use Rattle.std.specs.Prelude.{◌≡◌, Bool, true, false, Option, Some, None, MatchOption}
use Rattle.syn_expr_spec.specs.Alone.{unattributed}
use Rattle.syn_expr_spec.specs.Tree.{Tree}
use Rattle.syn_expr_core.specs.declared.expr.Expr.{Expr, out-Expr}
use Rattle.syn_expr_core.specs.declared.expr.Expr.TheOpen.{Expr-F}
use Rattle.syn_expr_core.specs.declared.pat.Pat.{Pat}
use Rattle.syn_expr_core.specs.declared.pat.PatGuard.{PatGuard}
use Rattle.syn_expr_core.specs.declared.closure.ExprClosure.{ExprClosure}
use Rattle.syn_expr_core.specs.declared.control.Arm.{Arm}
use Rattle.syn_expr_core.specs.declared.control.ExprForLoop.{ExprForLoop}
use Rattle.syn_expr_core.specs.declared.control.ExprLet.{ExprLet}
use Rattle.syn_expr_core.specs.declared.control.ExprMatch.{ExprMatch}
use Rattle.syn_expr_core.specs.declared.expr.taken.Taken.{Taken}
use Rattle.syn_expr_core.specs.View.{tree_of}

-- nothing in any place
abbrev pub nothing : Taken
nothing = record { array = None; assign = None; await_expr = None; binary = None; break_expr = None; call = None; cast = None; closure = None; field = None; for_loop = None; if_expr = None; index = None; let_expr = None; match_expr = None; method_call = None; paren = None; range = None; raw_addr = None; repeat = None; return_expr = None; try_expr = None; tuple = None; unary = None; while_expr = None; yield_expr = None; another = None }

-- what an expression of a variant is taken apart to
abbrev pub taken_at : Expr → Expr-F Expr Pat ExprClosure Arm ExprForLoop ExprLet ExprMatch PatGuard → Taken
taken_at e (Expr-F.Array x) = record nothing { array = Some x }
taken_at e (Expr-F.Assign x) = record nothing { assign = Some x }
taken_at e (Expr-F.Await x) = record nothing { await_expr = Some x }
taken_at e (Expr-F.Binary x) = record nothing { binary = Some x }
taken_at e (Expr-F.Break x) = record nothing { break_expr = Some x }
taken_at e (Expr-F.Call x) = record nothing { call = Some x }
taken_at e (Expr-F.Cast x) = record nothing { cast = Some x }
taken_at e (Expr-F.Closure x) = record nothing { closure = Some x }
taken_at e (Expr-F.Field x) = record nothing { field = Some x }
taken_at e (Expr-F.ForLoop x) = record nothing { for_loop = Some x }
taken_at e (Expr-F.If x) = record nothing { if_expr = Some x }
taken_at e (Expr-F.Index x) = record nothing { index = Some x }
taken_at e (Expr-F.Let x) = record nothing { let_expr = Some x }
taken_at e (Expr-F.Match x) = record nothing { match_expr = Some x }
taken_at e (Expr-F.MethodCall x) = record nothing { method_call = Some x }
taken_at e (Expr-F.Expr::Paren x) = record nothing { paren = Some x }
taken_at e (Expr-F.Expr::Range x) = record nothing { range = Some x }
taken_at e (Expr-F.RawAddr x) = record nothing { raw_addr = Some x }
taken_at e (Expr-F.Repeat x) = record nothing { repeat = Some x }
taken_at e (Expr-F.Return x) = record nothing { return_expr = Some x }
taken_at e (Expr-F.Try x) = record nothing { try_expr = Some x }
taken_at e (Expr-F.Expr::Tuple x) = record nothing { tuple = Some x }
taken_at e (Expr-F.Unary x) = record nothing { unary = Some x }
taken_at e (Expr-F.While x) = record nothing { while_expr = Some x }
taken_at e (Expr-F.Yield x) = record nothing { yield_expr = Some x }
taken_at e l = record nothing { another = Some e }

abbrev pub taken_of : Expr → Taken
taken_of x = taken_at x (out-Expr x)

-- what is in the place of a kind: the struct of an expression of the kind, and of any other nothing
abbrev pub IsStruct : {S : Type 0} → (S → Tree) → (Tree → Bool) → Expr → Option S → Type 0
IsStruct tree is x o = MatchOption o (is (unattributed (tree_of x)) ≡ false) (λ s. (tree s ≡ tree_of x) × (is (unattributed (tree_of x)) ≡ true))

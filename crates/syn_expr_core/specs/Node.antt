-- An expression as a value to match on, and the expression that it is.
use Rattle.syn_expr_core.specs.declared.expr.Expr.{Expr}
use Rattle.syn_expr_core.specs.declared.expr.Expr.TheVariants as ex
use Rattle.syn_expr_core.specs.declared.expr.apart.Node.{Node}
use Rattle.syn_expr_core.specs.declared.expr.apart.Node.TheVariants as nd

abbrev pub expr_of : Node → Expr
expr_of (nd.Array x) = ex.Array x
expr_of (nd.Assign x) = ex.Assign x
expr_of (nd.Async x) = ex.Async x
expr_of (nd.Await x) = ex.Await x
expr_of (nd.Binary x) = ex.Binary x
expr_of (nd.Block x) = ex.Block x
expr_of (nd.Break x) = ex.Break x
expr_of (nd.Call x) = ex.Call x
expr_of (nd.Cast x) = ex.Cast x
expr_of (nd.Closure x) = ex.Closure x
expr_of (nd.Const x) = ex.Const x
expr_of (nd.Continue x) = ex.Continue x
expr_of (nd.Field x) = ex.Field x
expr_of (nd.ForLoop x) = ex.ForLoop x
expr_of (nd.Group x) = ex.Group x
expr_of (nd.If x) = ex.If x
expr_of (nd.Index x) = ex.Index x
expr_of (nd.Infer x) = ex.Infer x
expr_of (nd.Let x) = ex.Let x
expr_of (nd.Lit x) = ex.Lit x
expr_of (nd.Loop x) = ex.Loop x
expr_of (nd.Macro x) = ex.Macro x
expr_of (nd.Match x) = ex.Match x
expr_of (nd.MethodCall x) = ex.MethodCall x
expr_of (nd.Paren x) = ex.Paren x
expr_of (nd.Path x) = ex.Path x
expr_of (nd.Range x) = ex.Range x
expr_of (nd.RawAddr x) = ex.RawAddr x
expr_of (nd.Reference x) = ex.Reference x
expr_of (nd.Repeat x) = ex.Repeat x
expr_of (nd.Return x) = ex.Return x
expr_of (nd.Struct x) = ex.Struct x
expr_of (nd.Try x) = ex.Try x
expr_of (nd.TryBlock x) = ex.TryBlock x
expr_of (nd.Tuple x) = ex.Tuple x
expr_of (nd.Unary x) = ex.Unary x
expr_of (nd.Unsafe x) = ex.Unsafe x
expr_of (nd.While x) = ex.While x
expr_of (nd.Yield x) = ex.Yield x
expr_of (nd.Verbatim x) = ex.Verbatim x

-- What an expression of each variant is, one level down.
use Rattle.syn_expr_core.specs.declared.expr.Expr.TheVariants as ex

pub ruleset outs = (ex.outs-Array, ex.outs-Assign, ex.outs-Async, ex.outs-Await, ex.outs-Binary, ex.outs-Block, ex.outs-Break, ex.outs-Call, ex.outs-Cast, ex.outs-Closure, ex.outs-Const, ex.outs-Continue, ex.outs-Field, ex.outs-ForLoop, ex.outs-Group, ex.outs-If, ex.outs-Index, ex.outs-Infer, ex.outs-Let, ex.outs-Lit, ex.outs-Loop, ex.outs-Macro, ex.outs-Match, ex.outs-MethodCall, ex.outs-Paren, ex.outs-Path, ex.outs-Range, ex.outs-RawAddr, ex.outs-Reference, ex.outs-Repeat, ex.outs-Return, ex.outs-Struct, ex.outs-Try, ex.outs-TryBlock, ex.outs-Tuple, ex.outs-Unary, ex.outs-Unsafe, ex.outs-While, ex.outs-Yield, ex.outs-Verbatim)

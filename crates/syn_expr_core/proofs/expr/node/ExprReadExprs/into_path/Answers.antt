use Rattle.std.proofs.Common.{refl}
use Rattle.syn_expr_core.proofs.Paths.{not_path, path_bare, path_attributed}
use Rattle.syn_expr_core.proofs.expr.node.ExprReadExprs.into_path.Goals as goal

pub returns-then-is_empty : goal.returns-then-is_empty
returns-then-is_empty c = path_bare c.args.self c.in-Path.x c.in-Path.is (cc)

pub returns-else-is_empty : goal.returns-else-is_empty
returns-else-is_empty c = (cc, path_attributed c.args.self c.in-Path.x c.in-Path.is (cc))

pub returns-in_default : goal.returns-in_default
returns-in_default c = (refl, not_path c.args.self c.in_default.not-Path)

use Rattle.std.proofs.Common.{is_some, ap}
use Rattle.syn_lower_spec.specs.Pat as t
use Rattle.syn_expr_flatten.proofs.Pats.{attributed}
use Rattle.syn_expr_flatten.proofs.pat.ident.Goals as goal

pub returns : goal.returns
returns g c = attributed c.args.x.now.attrs _ _ _ _ (ap (t.a_binding (is_some c.args.x.now.by_ref) (is_some c.args.x.now.mutability) c.args.x.now.ident) c.in_ok-sub_pattern.ensures.same) c.in_ok-sub_pattern.ensures.flat

use Rattle.std.proofs.Common.{refl}
use Rattle.syn_expr_print.proofs.Attributing.{plain-written}
use Rattle.syn_expr_print.proofs.single.trails.call.Goals as goal

pub returns-clause-text : goal.returns-clause-text
returns-clause-text g c = plain-written _ _ _ _ _ _ refl refl c.in_ok-put_attributes.ensures.ok c.in_ok-applied.ensures.text

use Rattle.std.proofs.Common.{refl, sym}
use Rattle.syn_expr_print.proofs.Shapes.{held-written}
use Rattle.syn_expr_print.proofs.single.trails.applied.Goals as goal

pub returns-clause-text : goal.returns-clause-text
returns-clause-text g c =
    held-written _ _ _ _ _ _ _ _ _ (sym c.trailer_kind.ensures) c.in_ok-held.ensures.text c.in_ok-held.ensures.held refl c.in_ok-put_trailer.ensures.ok

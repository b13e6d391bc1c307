use Rattle.std.proofs.Common.{refl}
use Rattle.syn_expr_print.proofs.Shapes.{held-at, index-held}
use Rattle.syn_expr_print.proofs.single.trails.bare_index.Goals as goal

pub returns-clause-text : goal.returns-clause-text
returns-clause-text g c =
    held-at c.enclosed.result _ _ _ _ _ _ _ _ _ c.enclosed.ensures refl c.in_ok-base_of.ensures.text
    (index-held c.enclosed-2.result _ _ _ c.enclosed-2.ensures c.new-held.ensures c.in_ok-whole.ensures.text) refl c.in_ok-put_trailer.ensures.ok

use Rattle.std.proofs.Common.{ap}
use Rattle.syn_expr_core.proofs.Parts.{arms_refused, ends_left}
use Rattle.syn_expr_core.proofs.control.Arm.parse_multiple.Goals as goal

pub returns-in-Err-clause-found : goal.returns-in-Err-clause-found
returns-in-Err-clause-found c = λ ks s.
    arms_refused _ ks _ c.in-Err.ensures.value (rw (ap (λ i. i.rest) c.in_ok-ahead.ensures.value) s)

pub advance_to-requires : goal.advance_to-requires
advance_to-requires c = ends_left _ _ c.in-Ok.ensures.all

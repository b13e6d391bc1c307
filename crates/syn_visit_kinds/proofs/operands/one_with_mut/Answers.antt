use Rattle.std.proofs.Common.{refl}
use Rattle.syn_visit_kinds.proofs.operands.one_with_mut.Goals as goal

pub returns : goal.returns
returns g c = record { old = _; new = _; with = _; shows = refl; leaves = refl; passes = refl; met = c.call.ensures }

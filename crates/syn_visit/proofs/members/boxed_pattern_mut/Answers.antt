use Rattle.std.proofs.Common.{ap, refl, sym}
use Rattle.syn_expr_core.specs.View.{pat_of}
use Rattle.syn_visit.proofs.Left.{guards_same}
use Rattle.syn_visit.proofs.members.boxed_pattern_mut.Goals as goal

pub returns : goal.returns
returns g c = guards_same (ap pat_of (sym c.deref_mut.ensures.value)) refl c.pattern_mut.ensures

use Rattle.syn_lower_spec.proofs.Parts.{spells_is}
use Rattle.syn_lower_spec.proofs.laws.types_are_spelled_by_kind.Goals as goal

pub returns : goal.returns
returns c = spells_is

use Rattle.syn_lower_spec.proofs.PatWhole.{spelled_by_kind}
use Rattle.syn_lower_spec.proofs.laws.patterns_are_spelled_by_kind.Goals as goal

pub returns : goal.returns
returns c = spelled_by_kind

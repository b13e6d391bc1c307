use Rattle.syn_text_spec.proofs.Stable.{text_is_stable}
use Rattle.syn_text_spec.proofs.laws.text_is_stable.Goals as goal

pub returns : goal.returns
returns c = text_is_stable

use Rattle.syn_text_spec.proofs.Stable.{read_text_is_stable}
use Rattle.syn_text_spec.proofs.laws.read_text_is_stable.Goals as goal

pub returns : goal.returns
returns c = read_text_is_stable

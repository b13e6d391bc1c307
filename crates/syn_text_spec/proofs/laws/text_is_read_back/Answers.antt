use Rattle.syn_text_spec.proofs.ReadBack.{text_is_read_back}
use Rattle.syn_text_spec.proofs.laws.text_is_read_back.Goals as goal

pub returns : goal.returns
returns c = text_is_read_back

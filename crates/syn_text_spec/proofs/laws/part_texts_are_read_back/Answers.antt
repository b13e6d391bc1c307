use Rattle.syn_text_spec.proofs.PartTexts.{part_texts_are_read_back}
use Rattle.syn_text_spec.proofs.laws.part_texts_are_read_back.Goals as goal

pub returns : goal.returns
returns c = part_texts_are_read_back

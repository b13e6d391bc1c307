use Rattle.syn_text_spec.proofs.PartTexts.{leaves_are_lexed}
use Rattle.syn_text_spec.proofs.laws.leaves_are_lexed.Goals as goal

pub returns : goal.returns
returns c = leaves_are_lexed

use Rattle.syn_text_spec.proofs.ReadBack.{printed_is_lexed}
use Rattle.syn_text_spec.proofs.laws.printed_is_lexed.Goals as goal

pub returns : goal.returns
returns c = printed_is_lexed

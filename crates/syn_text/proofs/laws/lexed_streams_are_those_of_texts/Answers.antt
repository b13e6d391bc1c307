use Rattle.syn_text.proofs.Exact.{exact}
use Rattle.syn_text.proofs.laws.lexed_streams_are_those_of_texts.Goals as goal

pub returns : goal.returns
returns c = exact

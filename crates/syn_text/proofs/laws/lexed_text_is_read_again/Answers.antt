use Rattle.syn_text.proofs.Exact.{read_again}
use Rattle.syn_text.proofs.laws.lexed_text_is_read_again.Goals as goal

pub returns : goal.returns
returns c = read_again

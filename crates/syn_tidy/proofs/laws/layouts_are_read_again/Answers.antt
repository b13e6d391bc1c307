use Rattle.syn_tidy.proofs.Read.{are_read_again}
use Rattle.syn_tidy.proofs.laws.layouts_are_read_again.Goals as goal

pub returns : goal.returns
returns c = are_read_again

use Rattle.syn_text_spec.proofs.Twice.{stands_alone, printed_twice}
use Rattle.syn_text_spec.proofs.laws.printed_again.Goals as goal

pub returns : goal.returns
returns c = record { stands = stands_alone; same = printed_twice }

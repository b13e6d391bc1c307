use Rattle.syn_text_spec.proofs.FitTrees.{read_is_well_formed}
use Rattle.syn_text_spec.proofs.laws.read_is_well_formed.Goals as goal

pub returns : goal.returns
returns c = read_is_well_formed

use Rattle.syn_expr_tokens.proofs.Choices.{atoms_are_chosen, trailers_are_chosen}
use Rattle.syn_expr_tokens.proofs.atom.kinds_decide.Goals as goal

pub returns : goal.returns
returns c = record { atoms = atoms_are_chosen; trailers = trailers_are_chosen }

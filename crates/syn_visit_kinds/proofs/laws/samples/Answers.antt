use Rattle.std.proofs.Common.{refl}
use Rattle.syn_visit_kinds.proofs.laws.samples.Goals as goal

pub returns : goal.returns
returns c = record { nodes = refl; attributes = λ a. refl; guards = λ p. refl; operands = λ p. refl; inside_first = refl; rewritten = λ a. refl }

use Rattle.syn_tokens.specs.Tok.{weight}
use Rattle.syn_lower.proofs.readers.+ty.Given as goal

abbrev pub decreases-ty : goal.decreases-ty
decreases-ty l = weight l.input.now.rest

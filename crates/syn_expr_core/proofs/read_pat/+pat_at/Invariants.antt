use Rattle.syn_tokens.specs.Tok.{weight}
use Rattle.syn_expr_core.proofs.read_pat.+pat_at.Given as goal

abbrev pub decreases-pat_at : goal.decreases-pat_at
decreases-pat_at l = weight l.input.now.rest

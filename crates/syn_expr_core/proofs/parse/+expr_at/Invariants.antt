use Rattle.syn_tokens.specs.Tok.{weight}
use Rattle.syn_expr_core.proofs.parse.+expr_at.Given as goal

abbrev pub decreases-expr_at : goal.decreases-expr_at
decreases-expr_at l = weight l.input.now.rest

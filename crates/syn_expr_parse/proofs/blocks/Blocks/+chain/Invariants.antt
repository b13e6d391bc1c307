use Rattle.std.proofs.Common.{◌+◌, ◌*◌}
use Rattle.syn_tokens.specs.Tok.{weight}
use Rattle.syn_expr_parse.proofs.blocks.Blocks.+chain.Given as goal

abbrev pub decreases-chain : goal.decreases-chain
decreases-chain g l = 2 * weight l.input.now.rest + 1

abbrev pub decreases-otherwise : goal.decreases-otherwise
decreases-otherwise g l = 2 * weight l.input.now.rest

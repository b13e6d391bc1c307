use Rattle.std.proofs.Common.{arith, append_assoc}
use Rattle.syn_tokens.specs.Sign.{sign_text, word_text}
use Rattle.syn_lower_leaves.proofs.Owns.{lifetimes_own-parts}
use Rattle.syn_lower_leaves.proofs.print.BoundLifetimesToTokens.to_tokens.Goals as goal

pub returns-clause-ok : goal.returns-clause-ok
unfolding sign_text word_text
returns-clause-ok c = rw (lifetimes_own-parts c.args.self.now) (grind (arith, append_assoc))

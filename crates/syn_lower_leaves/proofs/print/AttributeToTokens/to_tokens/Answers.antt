use Rattle.std.proofs.Common.{arith, append_assoc}
use Rattle.syn_tokens.specs.Sign.{sign_text}
use Rattle.syn_lower_leaves.proofs.ReadingAttributes.{attribute_own-parts}
use Rattle.syn_lower_leaves.proofs.print.AttributeToTokens.to_tokens.Goals as goal

pub returns-clause-ok : goal.returns-clause-ok
unfolding sign_text
returns-clause-ok c = rw (attribute_own-parts c.args.self.now) (grind (arith, append_assoc))

use Rattle.std.proofs.Common.{refl, sym}
use Rattle.syn_lower_spec.specs.Part.{const_at}
use Rattle.syn_lower_spec.specs.Mark.{brace_at}
use Rattle.syn_lower_leaves.proofs.leaf.const_at.Goals as goal

pub returns-else-lit_at : goal.returns-else-lit_at
unfolding const_at brace_at
returns-else-lit_at c = rw (c.peek.ensures, sym c.lit_at.ensures, c.if-lit_at.false) refl

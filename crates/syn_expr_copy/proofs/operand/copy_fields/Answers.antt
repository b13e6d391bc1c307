use Rattle.std.proofs.iter.Serving.{serving}
use Rattle.syn_expr_copy.proofs.operand.copy_fields.Goals as goal

pub copy_punctuated-requires-clause-inner : goal.copy_punctuated-requires-clause-inner
copy_punctuated-requires-clause-inner g c = λ q has. let takes = c.requires.inner q has in grind serving

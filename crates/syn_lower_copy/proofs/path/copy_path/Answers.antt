use Rattle.std.proofs.iter.Serving.{serving}
use Rattle.syn_lower_copy.proofs.path.copy_path.Goals as goal

pub copy_punctuated-requires-clause-inner : goal.copy_punctuated-requires-clause-inner
copy_punctuated-requires-clause-inner g c = λ q has. let takes = c.requires.takes.inner q has in grind serving

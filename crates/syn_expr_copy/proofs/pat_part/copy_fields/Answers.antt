use Rattle.std.proofs.iter.Serving.{serving}
use Rattle.syn_expr_copy.proofs.Pats.{fields_same, field_guards_same}
use Rattle.syn_expr_copy.proofs.pat_part.copy_fields.Goals as goal

pub copy_punctuated-requires-clause-inner : goal.copy_punctuated-requires-clause-inner
copy_punctuated-requires-clause-inner g c = λ q has. let takes = c.requires.inner q has in grind serving

pub returns-clause-trees : goal.returns-clause-trees
returns-clause-trees g c = fields_same g.P.HasPatTree.view _ _ c.in_ok-y.ensures.values

pub returns-clause-guards : goal.returns-clause-guards
returns-clause-guards g c = field_guards_same g.P.HasPatTree.view _ _ c.in_ok-y.ensures.values

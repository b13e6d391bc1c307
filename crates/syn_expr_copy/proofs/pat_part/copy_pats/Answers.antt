use Rattle.syn_expr_copy.proofs.Pats.{pats_same, guards_same}
use Rattle.syn_expr_copy.proofs.pat_part.copy_pats.Goals as goal

pub returns-clause-trees : goal.returns-clause-trees
returns-clause-trees g c = pats_same g.P.HasPatTree.view _ _ c.in_ok-y.ensures.values

pub returns-clause-guards : goal.returns-clause-guards
returns-clause-guards g c = guards_same g.P.HasPatTree.view _ _ c.in_ok-y.ensures.values

use Rattle.syn_expr_copy.proofs.Fields.{in_kind}
use Rattle.syn_expr_copy.proofs.pat.copy_pat_struct.Goals as goal

pub copy_fields-requires-clause-inner : goal.copy_fields-requires-clause-inner
copy_fields-requires-clause-inner g c = λ q has. in_kind _ q.0.kind (λ p full. c.requires.takes_fields_inner q p has full)

pub copy_fields-requires-clause-last : goal.copy_fields-requires-clause-last
copy_fields-requires-clause-last g c = λ b is. in_kind _ b.value.kind (λ p full. c.requires.takes_fields_last b p is full)

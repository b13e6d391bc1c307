use Rattle.syn_expr_spec.proofs.Flat.{flatten_is_idempotent}
use Rattle.syn_expr_spec.proofs.trees.flatten_is_idempotent.Goals as goal

pub returns : goal.returns
returns c = flatten_is_idempotent

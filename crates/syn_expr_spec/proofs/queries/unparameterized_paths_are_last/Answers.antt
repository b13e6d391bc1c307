use Rattle.syn_expr_spec.proofs.LastNames.{unparameterized_paths_are_last}
use Rattle.syn_expr_spec.proofs.queries.unparameterized_paths_are_last.Goals as goal

pub returns : goal.returns
returns c = unparameterized_paths_are_last

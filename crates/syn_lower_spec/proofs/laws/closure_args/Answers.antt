use Rattle.syn_lower_spec.proofs.Samples.{closure_args}
use Rattle.syn_lower_spec.proofs.laws.closure_args.Goals as goal

pub returns : goal.returns
returns c = closure_args

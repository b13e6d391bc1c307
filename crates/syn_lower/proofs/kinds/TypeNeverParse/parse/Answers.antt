use Rattle.std.proofs.Common.{rules}
use Rattle.syn_lower.proofs.kinds.TypeNeverParse.parse.Goals as goal

pub returns-in_err-x-clause-found : goal.returns-in_err-x-clause-found
returns-in_err-x-clause-found c = λ s rest h. search (rules, c.in_err-x.ensures.found s rest h)

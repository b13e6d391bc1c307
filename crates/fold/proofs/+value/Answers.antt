use Rattle.fold.proofs.Values.{no_value}
use Rattle.fold.proofs.+value.Goals as goal

pub returns-in_default : goal.returns-in_default
returns-in_default t c = no_value _ c.in_default.not-Lit c.in_default.not-Paren c.in_default.not-Unary c.in_default.not-Binary

use Rattle.std.proofs.Common.{rules}
use Rattle.syn_lower_leaves.proofs.Loops.{map-one}
use Rattle.syn_expr_parse.proofs.FieldTurns.{entry_last}
use Rattle.syn_expr_parse.proofs.lists.Lists.fields.Goals as goal

pub returns-in_default-clause-value : goal.returns-in_default-clause-value
returns-in_default-clause-value g c = search (rules, map-one, entry_last)

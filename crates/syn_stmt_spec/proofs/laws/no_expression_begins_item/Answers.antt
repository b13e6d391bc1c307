use Rattle.syn_stmt_spec.proofs.Leads.{no_item}
use Rattle.syn_stmt_spec.proofs.laws.no_expression_begins_item.Goals as goal

pub returns : goal.returns
returns c = no_item

use Rattle.syn_visit.proofs.Seen.{added_none, added_one}
use Rattle.syn_visit.proofs.visit.fn.filter_map.for_each.Goals as goal

pub returns-in_ok-push : goal.returns-in_ok-push
returns-in_ok-push g c = record { asked = added_one _ _ c.find.ensures c.in-Some.is c.in_ok-push.ensures.items; memory = tt }

pub returns-in_default : goal.returns-in_default
returns-in_default g c = record { asked = added_none _ _ c.find.ensures c.in_default.is; memory = tt }

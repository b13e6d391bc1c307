use Rattle.std.proofs.Common.{ap, ◌∙◌}
use Rattle.syn_expr_spec.specs.Summaries.{left_by}
use Rattle.syn_expr_print.specs.Spine.{begins}
use Rattle.syn_expr_print.proofs.Behinds.{wrapped_infix, wrapped_postfix, wrapped_tail, wrapped_other, none_begins}
use Rattle.syn_expr_print.proofs.ends.is_wrapped.Goals as goal

pub returns-in-Infix : goal.returns-in-Infix
returns-in-Infix c = λ t h. c.left_by.ensures ∙ wrapped_infix t c.in-Infix.op c.args.place c.args.summary (h ∙ c.in-Infix.is)

pub returns-in-Postfix : goal.returns-in-Postfix
returns-in-Postfix c = λ t h. c.left_by-in-Postfix.ensures ∙ ap (λ op. left_by op c.args.place c.args.summary) c.op.ensures ∙ wrapped_postfix t c.in-Postfix.kind c.args.place c.args.summary (h ∙ c.in-Postfix.is)

pub returns-in-Tail : goal.returns-in-Tail
returns-in-Tail c = λ t h. wrapped_tail t c.in-Tail.kind c.args.place c.args.summary c.base_by.result (h ∙ c.in-Tail.is) c.base_by.ensures

pub returns-in_default : goal.returns-in_default
returns-in_default c = λ t h. wrapped_other t c.args.place c.args.summary (ap begins h ∙ none_begins c.args.kind c.in_default.not-Infix c.in_default.not-Postfix c.in_default.not-Tail)

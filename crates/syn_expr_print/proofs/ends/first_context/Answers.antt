use Rattle.std.proofs.Common.{ap, ◌∙◌}
use Rattle.syn_expr_spec.specs.Next.{left_context}
use Rattle.syn_expr_print.specs.Spine.{begins}
use Rattle.syn_expr_print.proofs.Behinds.{place_infix, place_postfix, place_tail, place_other, none_begins}
use Rattle.syn_expr_print.proofs.ends.first_context.Goals as goal

pub returns-in-Infix : goal.returns-in-Infix
returns-in-Infix c = λ t h. c.left_context.ensures ∙ place_infix t c.in-Infix.op c.args.context (h ∙ c.in-Infix.is)

pub returns-in-Postfix : goal.returns-in-Postfix
returns-in-Postfix c = λ t h. c.left_context-in-Postfix.ensures ∙ ap (λ op. left_context op c.args.context) c.op.ensures ∙ place_postfix t c.in-Postfix.kind c.args.context (h ∙ c.in-Postfix.is)

pub returns-in-Tail : goal.returns-in-Tail
returns-in-Tail c = λ t h. place_tail t c.in-Tail.kind c.args.context c.base_context.result (h ∙ c.in-Tail.is) c.base_context.ensures

pub returns-in_default : goal.returns-in_default
returns-in_default c = λ t h. place_other t c.args.context (ap begins h ∙ none_begins c.args.kind c.in_default.not-Infix c.in_default.not-Postfix c.in_default.not-Tail)

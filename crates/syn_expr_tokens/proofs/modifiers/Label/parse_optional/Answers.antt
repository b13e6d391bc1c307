use Rattle.std.proofs.Common.{rules}
use Rattle.syn_expr_tokens.proofs.Reading.{labeled_tail, advanced}
use Rattle.syn_expr_tokens.proofs.modifiers.Label.parse_optional.Goals as goal

pub returns-clause-after : goal.returns-clause-after
returns-clause-after c =
    advanced c.args.input.now c.label.new.input c.advance_to.new.self (search (labeled_tail, rules)) c.advance_to.ensures.rest c.advance_to.ensures.noted

-- What is left ends with the summaries of the operands.
use Rattle.std.proofs.Common.{◌++◌, ◌∙◌, ap}
use Rattle.std.specs.Option.{option_to_list}
use Rattle.syn_expr_print.proofs.Stacks.{front_of}
use Rattle.syn_expr_print.proofs.print.take_summary.Goals as goal

pub returns-clause-left : goal.returns-clause-left
returns-clause-left g c =
    front_of _ c.pop.new.self.items _ _ _ (c.pop.ensures.items ∙ ap (λ o. c.pop.new.self.items ++ option_to_list o) c.unwrap.ensures) c.requires

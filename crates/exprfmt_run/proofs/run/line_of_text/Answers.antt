use Rattle.std.proofs.Common.{rules, chars}
use Rattle.syn_expr.specs.Texts.{position_of}
use Rattle.exprfmt_run.proofs.RunLaws.{line_is}
use Rattle.exprfmt_run.proofs.run.line_of_text.Goals as goal

pub returns-clause-value : goal.returns-clause-value
returns-clause-value c =
    line_is (position_of c.args.position) c.args.bare (chars c.args.text.now) _ _ _ _ c.in_ok-expr.ensures.read c.in_ok-prepare.ensures.tree c.in_ok-tokens.ensures.value (search rules)

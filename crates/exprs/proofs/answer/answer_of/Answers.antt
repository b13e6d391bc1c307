use Rattle.std.proofs.Common.{chars}
use Rattle.syn_expr.specs.Texts.{position_of}
use Rattle.exprs.proofs.Lines.{line_is}
use Rattle.exprs.proofs.answer.answer_of.Goals as goal

pub returns-clause-value : goal.returns-clause-value
returns-clause-value c =
    line_is c.args.settings.dump c.args.settings.tidy (position_of c.args.settings.position) c.args.settings.bare (chars c.args.text.now) _ _ _ _ c.in_ok-expr.ensures.read c.kind_of-kind.ensures c.in_ok-prepare.ensures.tree
    c.in_ok-line.ensures.value

use Rattle.std.proofs.Common.{chars, inl}
use Rattle.std.proofs.lemmas.Result.{IfErr-weaker, IfOk-weaker}
use Rattle.syn_expr.specs.Prelude.{tree_of}
use Rattle.warnings.specs.Warnings.{AreWarningsOf, warning_at}
use Rattle.warnings.proofs.warnings.Goals as goal

pub returns-clause-value : goal.returns-clause-value
returns-clause-value c = IfOk-weaker _ _ (λ w. AreWarningsOf (chars c.args.text.now) w.items) (λ w are. (tree_of c.in_ok-expr.expr, c.in_ok-expr.ensures.read, are)) (c.filter_map.ensures.found warning_at (λ one r met. met))

pub returns-clause-refused : goal.returns-clause-refused
returns-clause-refused c = IfErr-weaker _ _ _ (λ e memory. inl memory) c.filter_map.ensures.memory

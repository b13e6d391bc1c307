use Rattle.std.proofs.Common.{chars, string_bytes, subst}
use Rattle.std.proofs.lemmas.Result.{IfOk-weaker}
use Rattle.syn_expr.specs.Prelude.{in_plain, IsTextOf}
use Rattle.simplify.specs.Simplified.{IsSimplified, simplified}
use Rattle.simplify.proofs.simplified_text.Goals as goal

pub returns-clause-value : goal.returns-clause-value
returns-clause-value c = IfOk-weaker _ _ (λ s. IsSimplified (chars c.args.text.now) (string_bytes s)) (λ s text. (_, _, c.in_ok-expr.ensures.read, c.in_ok-flatten_in_place.ensures.tree, subst (λ v. IsTextOf in_plain v (string_bytes s)) (c.in_ok-rewrite.ensures.tree simplified (λ old new r met. met.0)) text)) c.expr_to_text.ensures.text

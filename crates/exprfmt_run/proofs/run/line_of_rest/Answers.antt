use Rattle.std.proofs.Common.{inl, refl, sym}
use Rattle.std.proofs.lemmas.Result.{IfOk-weaker, IfErr-weaker}
use Rattle.exprfmt_run.proofs.run.line_of_rest.Goals as goal

pub returns-in-Ok-clause-value : goal.returns-in-Ok-clause-value
returns-in-Ok-clause-value g c =
    IfOk-weaker c.line_of.result _ _ (λ s h. (c.as_slice.result.now, (c.in-Ok.bytes, c.in-Ok.ensures, sym c.as_slice.ensures.value), h.0, h.1)) c.line_of.ensures.value

pub returns-in-Ok-clause-refused : goal.returns-in-Ok-clause-refused
returns-in-Ok-clause-refused g c =
    IfErr-weaker c.line_of.result _ _ (λ f h. inl (c.as_slice.result.now, (c.in-Ok.bytes, c.in-Ok.ensures, sym c.as_slice.ensures.value), h)) c.line_of.ensures.refused

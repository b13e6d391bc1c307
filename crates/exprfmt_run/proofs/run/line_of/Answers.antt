use Rattle.std.proofs.Common.{inl, inr}
use Rattle.exprfmt_run.proofs.run.line_of.Goals as goal

pub returns-in-Err-clause-refused : goal.returns-in-Err-clause-refused
returns-in-Err-clause-refused c = c.in-Err.ensures.cases.0

pub returns-in-Err-line_of_text-clause-refused : goal.returns-in-Err-line_of_text-clause-refused
returns-in-Err-line_of_text-clause-refused c =
    elim c.in-Err-line_of_text.ensures.refused [ inl m ↦ inl m | inr none ↦ inr (c.in-Ok.ensures.cases.1, rw (← c.in-Ok.ensures.cases.0) none) ]

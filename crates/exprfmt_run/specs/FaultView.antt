-- The outcome that a fault is.
use Rattle.exprfmt_run.specs.Run.{Outcome, refused, not_utf8, failed}
use Rattle.exprfmt_run.specs.declared.run.Fault.{Fault}
use Rattle.exprfmt_run.specs.declared.run.Fault.TheVariants.{Refused, NotUtf8, Failed}

abbrev pub outcome_of : Fault → Outcome
outcome_of (Refused e) = refused e
outcome_of NotUtf8 = not_utf8
outcome_of Failed = failed

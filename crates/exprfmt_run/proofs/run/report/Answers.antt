use Rattle.std.proofs.Common.{◌∙◌, [], ◌∷◌, codes, sym, subst}
use Rattle.std.specs.Fmt.{decimal}
use Rattle.syn_tokens.specs.ErrorText.{kind_text}
use Rattle.exprfmt_run.specs.Calls.{writer}
use Rattle.exprfmt_run.specs.Run.{Reports}
use Rattle.exprfmt_run.specs.FaultView.{outcome_of}
use Rattle.exprfmt_run.proofs.RunLaws.{written, formatted, regroup, reports_refusal, reports_memory}
use Rattle.exprfmt_run.proofs.run.report.Goals as goal

pub returns-in-Ok : goal.returns-in-Ok
returns-in-Ok g c =
    reports_refusal c.args.fault c.in-Refused.e _ c.as_bytes.result.now c.in-Refused.is (written g.E.FnMut _ _ c.as_bytes.result _ c.errors.ensures)
    (c.as_bytes.ensures.value ∙ c.as_str.ensures.value ∙ formatted c.new-line.result _ c.writeln.new.self c.new-line.ensures.intact c.new-line.ensures.text c.in-Ok.ensures.writes
    ∙ regroup (codes "refused at ") (decimal c.in-Refused.e.span.lo) (codes "..") (decimal c.in-Refused.e.span.hi) (codes ": ") (kind_text c.in-Refused.e.kind) (10 ∷ []))

pub returns-in-Err : goal.returns-in-Err
returns-in-Err g c = reports_memory c.args.fault c.in-Refused.e _ c.in-Refused.is (written g.E.FnMut _ _ _ _ c.errors-in-Err.ensures)

pub returns-in-NotUtf8 : goal.returns-in-NotUtf8
returns-in-NotUtf8 g c =
    subst (λ f. Reports (outcome_of f) (writer g.E.FnMut c.args.errors.now c.errors-in-NotUtf8.new.self)) (sym c.in-NotUtf8.is) (written g.E.FnMut _ _ _ _ c.errors-in-NotUtf8.ensures)

pub returns-in-Failed : goal.returns-in-Failed
returns-in-Failed g c =
    subst (λ f. Reports (outcome_of f) (writer g.E.FnMut c.args.errors.now c.errors-in-Failed.new.self)) (sym c.in-Failed.is) (written g.E.FnMut _ _ _ _ c.errors-in-Failed.ensures)

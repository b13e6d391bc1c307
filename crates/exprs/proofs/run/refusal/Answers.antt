use Rattle.std.proofs.Common.{◌∙◌, ◌++◌, ap, codes, chars, string_bytes}
use Rattle.std.proofs.lemmas.Result.{IfOk-weaker}
use Rattle.syn_report.specs.Report.{report}
use Rattle.exprs.specs.Answers.{IsRefusal}
use Rattle.exprs.proofs.Parts.{regroup}
use Rattle.exprs.proofs.run.refusal.Goals as goal

pub returns : goal.returns
returns c =
    let name = c.args.name.now in
    let (further, are, is) = c.in_ok-report.ensures in
    let shown = report c.args.lines (chars c.args.part.now) c.args.e further in
    IfOk-weaker c.format.result _ (λ s. IsRefusal name c.args.lines c.args.part.now c.args.e (string_bytes s))
    (λ s h. (further, are, h ∙ ap (λ t. name ++ (codes ": " ++ (t ++ codes "\n"))) is ∙ regroup name (codes ": ") shown (codes "\n"))) c.format.ensures.ok

use Rattle.std.proofs.Common.{◌∙◌, ◌++◌, ap, chars, string_bytes}
use Rattle.std.proofs.lemmas.Result.{IfOk-weaker}
use Rattle.syn_report.specs.Report.{refused, IsReport}
use Rattle.syn_report.proofs.refusal.report_after.Goals as goal

pub returns : goal.returns
returns c =
    let cs = chars c.args.text.now in
    let further = string_bytes c.in_ok-further.further in
    let is = c.in_ok-refused.ensures ∙ ap (λ s. refused c.args.lines cs s c.args.error.now.kind) c.whole-span.ensures in
    IfOk-weaker c.format.result _ (λ s. IsReport c.args.lines cs c.args.error.now (string_bytes s)) (λ s h. (further, c.in_ok-further.ensures, h ∙ ap (λ t. t ++ further) is)) c.format.ensures.ok

use Rattle.std.proofs.Common.{◌∙◌, ◌++◌, ap, string_bytes}
use Rattle.std.proofs.lemmas.Result.{IfOk-weaker}
use Rattle.syn_report.specs.Report.{AreFurther, below}
use Rattle.syn_report.proofs.refusal.further.Goals as goal

pub returns : goal.returns
returns c =
    let note = c.args.note.now in
    let second = string_bytes c.in_ok-second.second in
    let is = ap (λ t. t ++ second) c.in_ok-first.ensures ∙ ap (λ t. below note ++ t) c.in_ok-second.ensures in
    IfOk-weaker c.format.result _ (λ s. AreFurther (string_bytes s)) (λ s h. (note, c.args.help.now, h ∙ is)) c.format.ensures.ok

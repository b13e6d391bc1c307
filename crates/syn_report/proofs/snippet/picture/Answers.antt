use Rattle.std.proofs.Common.{◌≡◌, ◌∙◌, ◌++◌, ap, codes, chars, string_bytes}
use Rattle.std.proofs.lemmas.Result.{IfOk-weaker}
use Rattle.syn_report.specs.Report.{heading, picture}
use Rattle.syn_report.proofs.Pieces.{pictured}
use Rattle.syn_report.proofs.snippet.picture.Goals as goal

pub returns : goal.returns
returns c =
    let place = c.of-place.result in
    let side = c.as_str-side.result.now in
    let line = c.saturating_add-line.result in
    let title = c.args.title.now in
    let message = c.args.message.now in
    let front = heading side (record { line = line; column = place.at.column }) title message in
    let is = pictured c.args.lines (chars c.args.text.now) c.args.span title message place.at (chars place.line.now) (chars place.behind.now) side line
    c.of-place.ensures.at c.of-place.ensures.line c.of-place.ensures.behind c.saturating_add-line.ensures (c.as_str-side.ensures.value ∙ c.in_ok-spaces.ensures) in
    IfOk-weaker c.format.result _ (λ s. string_bytes s ≡ picture c.args.lines (chars c.args.text.now) c.args.span title message)
    (λ s h. h ∙ ap (λ t. t ++ (codes "\n" ++ string_bytes c.in_ok-quoted.quoted)) c.in_ok-heading.ensures ∙ ap (λ t. front ++ (codes "\n" ++ t)) c.in_ok-quoted.ensures ∙ is) c.format.ensures.ok

use Rattle.std.proofs.Common.{refl}
use Rattle.std.proofs.lemmas.Str.{IsUtf8-string_bytes}
use Rattle.exprfmt_run.proofs.RunLaws.{reported, printed_whole, printed_front}
use Rattle.syn_expr.specs.Texts.{position_of}
use Rattle.exprfmt_run.proofs.run.run.Goals as goal

pub returns-in-Err : goal.returns-in-Err
returns-in-Err g c = reported (position_of c.args.position) c.args.bare _ c.in-Err.fault _ _ c.in-Err.ensures.refused refl c.report.ensures

pub returns-in-Ok-output : goal.returns-in-Ok-output
returns-in-Ok-output g c =
    let (bytes, gives, utf8, is) = c.in-Ok.ensures.value in
    printed_whole (position_of c.args.position) c.args.bare _ bytes _ _ _ gives utf8 is (IsUtf8-string_bytes c.in-Ok.line)
    (record { shown = c.as_bytes.result; shows = c.as_bytes.ensures.value; called = c.in-Ok-output.ensures }) refl

pub returns : goal.returns
returns g c =
    let (bytes, gives, utf8, is) = c.in-Ok.ensures.value in
    printed_front (position_of c.args.position) c.args.bare _ bytes _ _ _ gives utf8 is (IsUtf8-string_bytes c.in-Ok.line)
    (c.in-Err-output.field-0, record { shown = c.as_bytes.result; shows = c.as_bytes.ensures.value; called = c.in-Err-output.ensures })
    c.report-in-Err-output.ensures

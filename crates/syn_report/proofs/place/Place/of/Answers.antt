use Rattle.std.proofs.Common.{◌≡◌, ◌++◌, length, sym, ap, ◌∙◌}
use Rattle.std.specs.Prelude.{encode_utf8}
use Rattle.std.specs.Str.Iter.{chars_rest}
use Rattle.syn_report.proofs.Steps.{reached_start, reached_more, placed_long, placed_end}
use Rattle.syn_report.proofs.place.Place.of.Goals as goal

pub loop-c-init : goal.loop-c-init
loop-c-init c = (reached_start c.args.text.now c.args.offset c.utf8.text, sym c.chars-chars.ensures.rest)

pub loop-c-preserved : goal.loop-c-preserved
loop-c-preserved c =
    let (reached, same) = c.loop-c.invariant in
    let borrowed : c.after-place.result.behind.now ≡ chars_rest c.next.new.self = c.after-place.ensures.behind ∙ c.as_str.ensures in
    let e = same ∙ c.in-Some.ensures.steps.0 ∙ ap (λ l. encode_utf8 c.in-Some.c ++ l) (sym borrowed) in (
      reached_more c.in-Some.c c.len_utf8-width.result c.args.text.now c.args.offset c.loop-c.place.at c.loop-c.left c.loop-c.place.line.now c.loop-c.place.behind.now c.loop-c.place.count c.loop-c.place.joined
          c.after-place.result.at c.after-place.result.line.now c.after-place.result.behind.now c.after-place.result.count c.after-place.result.joined reached e c.len_utf8-width.ensures.value c.if-width-left.false
          (record { line_number = c.after-place.ensures.line_number; column = c.after-place.ensures.column; line = c.after-place.ensures.line; count_is = c.after-place.ensures.count; joined_is = c.after-place.ensures.joined }),
      borrowed,
    )

pub returns-then-width-left : goal.returns-then-width-left
returns-then-width-left c =
    let (reached, same) = c.loop-c.invariant in
    let p = placed_long c.in-Some.c c.len_utf8-width.result c.args.text.now c.args.offset c.loop-c.place.at c.loop-c.left c.loop-c.place.line.now c.loop-c.place.behind.now (chars_rest c.next.new.self)
    c.loop-c.place.count c.loop-c.place.joined reached (same ∙ c.in-Some.ensures.steps.0) c.len_utf8-width.ensures.value c.if-width-left.true in
    record { at = p.at_place; line = p.from_start; behind = p.from_place; count = p.count_is; joined = p.joined_is; fits = p.fits }

pub returns : goal.returns
returns c =
    let (reached, same) = c.loop-c.invariant in
    let p = placed_end c.args.text.now c.args.offset c.loop-c.place.at c.loop-c.left c.loop-c.place.line.now c.loop-c.place.behind.now c.loop-c.place.count c.loop-c.place.joined reached
    (ap length same ∙ c.in_default.ensures.steps.0.0) in
    record { at = p.at_place; line = p.from_start; behind = p.from_place; count = p.count_is; joined = p.joined_is; fits = p.fits }

use Rattle.std.proofs.Common.{false, refl, rules, string_bytes}
use Rattle.exprs.proofs.Parts.{none_found, is_less, emptied_none, emptied_more, emptied_all}
use Rattle.exprs.proofs.run.with_empty_lines.Goals as goal

pub lines-init : goal.lines-init
lines-init c = (search rules, emptied_none c.args.text.now (string_bytes c.new-emptied.result) (search rules))

pub lines-preserved : goal.lines-preserved
lines-preserved c = (search rules, emptied_more _ _ _ _ _ _ c.lines.invariant.1 c.in-Some.ensures c.in_ok-push_line.ensures)

pub lines-smaller : goal.lines-smaller
lines-smaller c = is_less false _ _ _ _ refl c.in-Some.ensures

pub returns : goal.returns
returns c = emptied_all _ _ _ _ c.lines.invariant.1 (none_found _ _ _ c.in_default.not-Some c.first_part.ensures) c.in_ok-push_unless_blank.ensures

use Rattle.std.proofs.Common.{rules}
use Rattle.exprs.proofs.Parts.{none_found, writes_none, writes_more, writes_last, is_less}
use Rattle.exprs.proofs.run.write_text.Goals as goal

pub parts-init : goal.parts-init
parts-init g c = (search rules, writes_none _ _ _ _)

pub parts-preserved : goal.parts-preserved
parts-preserved g c = (
  search rules,
  writes_more _ _ _ _ _ _ _ _ _ _ _ _ _ _ _ _ _ _ _ c.separator-end.ensures (search rules) c.both-all.ensures c.parts.invariant.1 c.in-Some.ensures c.in_ok-read.ensures,
)

pub parts-smaller : goal.parts-smaller
parts-smaller g c = is_less _ _ _ _ _ c.separator-end.ensures c.in-Some.ensures

pub returns : goal.returns
returns g c = writes_last _ _ _ _ _ _ _ _ _ _ _ _ _ _ _ _ c.separator-end.ensures c.both.ensures c.parts.invariant.1 (none_found _ _ _ c.in_default.not-Some c.first_part.ensures) c.in_ok-read-2.ensures

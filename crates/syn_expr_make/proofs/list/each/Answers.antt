use Rattle.std.proofs.Common.{rules, append_assoc, arith, length-append}
use Rattle.std.proofs.lemmas.List.{map-append}
use Rattle.std.proofs.lemmas.Grind.{common_steps}
use Rattle.syn_expr_make.proofs.list.each.Goals as goal

pub loop-value-preserved : goal.loop-value-preserved
loop-value-preserved g c =
    let at = c.loop-value in
    let steps = c.in-Some.ensures.steps in (
      grind (arith, common_steps, append_assoc, steps),
      λ of is_of. let was = at.invariant.1 of is_of in let is = is_of _ _ c.make.ensures in search (rules, map-append),
      search (rules, length-append),
      grind (arith, common_steps, steps),
      grind (arith, common_steps, steps),
    )

pub returns-clause-made : goal.returns-clause-made
returns-clause-made g c of is_of = grind (arith, common_steps, c.loop-value.invariant.1 of is_of, c.in-None.ensures.steps)

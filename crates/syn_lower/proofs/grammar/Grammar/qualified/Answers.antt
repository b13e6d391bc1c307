use Rattle.std.proofs.Common.{rules, arith}
use Rattle.syn_lower_spec.specs.Part.{qualified}
use Rattle.syn_lower.proofs.QPaths.{refused}
use Rattle.syn_lower.proofs.grammar.Grammar.qualified.Goals as goal

pub returns-in_err-segments-clause-value : goal.returns-in_err-segments-clause-value
unfolding qualified
returns-in_err-segments-clause-value g c =
    let n = refused _ _ c.in_err-segments.ensures.value in
    first_of (search (rules, n), grind (arith, n))

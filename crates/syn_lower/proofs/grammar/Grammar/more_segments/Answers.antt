use Rattle.std.proofs.Common.{map, ap, sym}
use Rattle.syn_lower_types.specs.View.{segment_of, values}
use Rattle.syn_lower.proofs.Loops.{segments_further}
use Rattle.syn_lower.proofs.grammar.Grammar.more_segments.Goals as goal

pub returns-clause-value : goal.returns-clause-value
returns-clause-value g c =
    let (there, behind) = c.in-Some.ensures.value in
    let further = segments_further c.args.style (map (segment_of g.T.HasTree.tree) (values c.args.found)) c.args.input.now.rest in
    rw (further, there, sym c.in_ok-push_punct.ensures.values, sym (ap (λ i. i.rest) behind)) c.segments-2.ensures.value

-- The last of the segments, after which no `::` stands.
use Rattle.std.proofs.Common.{map, ap, rules}
use Rattle.syn_lower.specs.View.{type_of, segment_of}
use Rattle.syn_lower_spec.specs.Part.{has_none, segments_bare}
use Rattle.syn_expr_wellformed.proofs.PatKinds.{bare-some}
use Rattle.syn_expr_wellformed.proofs.patterns.are_bare.Goals as goal

pub returns-in-Some : goal.returns-in-Some
returns-in-Some c =
    let a = bare-some c.args.segments.now c.in-Some.segment c.in-Some.is in
    let v = ap (λ l. segments_bare (map (λ q. segment_of type_of q.0) l)) c.deref.ensures.value in
    let d = ap (λ x. has_none (segment_of type_of x).arguments) c.deref-in-Some.ensures in
    search rules

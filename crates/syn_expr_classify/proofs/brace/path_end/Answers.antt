-- A path that a type qualifies, by how many of its segments come before the `>`.
use Rattle.std.proofs.Common.{◌<◌, ◌≤◌, length, map, subst, arith}
use Rattle.std.proofs.lemmas.List.{length-map}
use Rattle.std.specs.Prelude.{false, is_some}
use Rattle.syn_expr_spec.specs.Query.{type_brace}
use Rattle.syn_lower.specs.Ends.{segments_depth}
use Rattle.syn_lower.specs.View.{type_of, values, trails, segment_of}
use Rattle.syn_lower_spec.specs.Tree as t
use Rattle.syn_expr_classify.specs.Right.{Tells}
use Rattle.syn_expr_classify.proofs.Lasts.{inside_brace, outside_brace}
use Rattle.syn_expr_classify.proofs.brace.path_end.Goals as goal

pub returns-in-Some : goal.returns-in-Some
returns-in-Some c =
    let p = c.args.path.now in
    let q = c.in-Some.qself in
    let m = length-map (values p.segments) (segment_of type_of) in
    let n = c.len.ensures in
    let k = c.if-len-qself.true in
    let h : length (map (segment_of type_of) (values p.segments)) ≤ q.position = omega (arith, m, n, k) in
    rw c.in-Some.is (inside_brace c.args.before (is_some p.leading_colon) (is_some q.as_token) (trails p.segments) (type_of q.ty.value) q.position (map (segment_of type_of) (values p.segments)) h)

pub returns-in-Some-2 : goal.returns-in-Some-2
returns-in-Some-2 c =
    let p = c.args.path.now in
    let q = c.in-Some.qself in
    let ss = map (segment_of type_of) (values p.segments) in
    let m = length-map (values p.segments) (segment_of type_of) in
    let n = c.len.ensures in
    let k = c.if-len-qself.false in
    let h : q.position < length ss = omega (arith, m, n, k) in
    let o = outside_brace c.args.before (is_some p.leading_colon) (is_some q.as_token) (trails p.segments) (type_of q.ty.value) q.position ss h in
    rw c.in-Some.is (subst (λ b. Tells (type_brace false) c.segments_end.result b (segments_depth (t.segments_of ss))) o c.segments_end.ensures)

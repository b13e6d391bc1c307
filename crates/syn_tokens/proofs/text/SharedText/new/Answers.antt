use Rattle.std.proofs.Common.{arith}
use Rattle.std.proofs.lemmas.Str.{IsCharBoundary-start, IsCharBoundary-end}
use Rattle.syn_tokens.proofs.text.SharedText.new.Goals as goal

pub invariant_of-result : goal.invariant_of-result
invariant_of-result c =
    let same = c.in_ok-whole.ensures.ok in
    (omega arith, rw same (IsCharBoundary-start c.args.text.now c.utf8.text), rw same (IsCharBoundary-end c.args.text.now))

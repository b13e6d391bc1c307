use Rattle.std.proofs.Common.{◌≡◌, ◌≤◌, ◌∙◌, Some, sym}
use Rattle.syn_lower_leaves.specs.Value.{piece}
use Rattle.syn_lower_leaves.proofs.Quotes.{bytes_put}
use Rattle.syn_lower_leaves.proofs.quoted.bytes_of.Goals as goal

pub pieces-preserved : goal.pieces-preserved
pieces-preserved c =
    let read : piece c.args.style c.pieces.rest.now ≡ Some (c.in-Some.value, c.in-Some.n) = sym c.piece.ensures.value ∙ c.in-Some.is in
    let some : 1 ≤ c.in-Some.n = c.in-Some.ensures.within.0 in
    bytes_put c.args.style c.in-Some.n c.in-Some.value c.pieces.rest.now c.past-rest.result.now c.pieces.out.items c.push_byte.new.out.items _
    (sym c.closes.ensures ∙ c.if-closes.false) read some c.in_ok-push_byte.ensures c.past-rest.ensures c.pieces.invariant

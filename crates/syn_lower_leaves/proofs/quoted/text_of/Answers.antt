use Rattle.std.proofs.Common.{◌≡◌, ◌≤◌, ◌∙◌, Some, sym}
use Rattle.std.specs.Prelude.{string_bytes}
use Rattle.syn_lower_leaves.specs.Value.{piece}
use Rattle.syn_lower_leaves.proofs.Quotes.{text_put}
use Rattle.syn_lower_leaves.proofs.quoted.text_of.Goals as goal

pub pieces-preserved : goal.pieces-preserved
pieces-preserved c =
    let read : piece c.args.style c.pieces.rest.now ≡ Some (c.in-Some.value, c.in-Some.n) = sym c.piece.ensures.value ∙ c.in-Some.is in
    let some : 1 ≤ c.in-Some.n = c.in-Some.ensures.within.0 in
    text_put c.args.style c.in-Some.n c.in-Some.value c.pieces.rest.now c.past-rest.result.now (string_bytes c.pieces.out) (string_bytes c.push_char.new.out) _
    (sym c.closes.ensures ∙ c.if-closes.false) read some c.in_ok-push_char.ensures c.past-rest.ensures c.pieces.invariant

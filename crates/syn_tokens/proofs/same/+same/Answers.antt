use Rattle.std.proofs.Common.{◌≡◌, [], sym, ◌∙◌, arith}
use Rattle.syn_tokens.proofs.Views.{no_items}
use Rattle.syn_tokens.proofs.Sames.{same_nil}
use Rattle.syn_tokens.proofs.same.+same.Goals as goal

pub same_trees-returns : goal.same_trees-returns
same_trees-returns t c =
    let none : c.loop-a.a.now ≡ [] = no_items _ (omega (arith, c.in_default.len_below)) in
    let left = rw none at c.loop-a.invariant.0 in
    c.is_empty.ensures ∙ sym (same_nil c.loop-a.b.now) ∙ left

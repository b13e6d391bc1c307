use Rattle.std.proofs.Common.{◌≡◌, ◌++◌, ◌+◌, ◌≤◌, length, map}
use Rattle.std.specs.Vec.{vec_len, vec_capacity}
use Rattle.std.specs.Vec.Iter.{into_iter_items, into_iter_len}
use Rattle.syn_expr_make.proofs.list.each.Given as goal

abbrev pub invariant-loop-value : goal.invariant-loop-value
invariant-loop-value g l = (l.yielded ++ into_iter_items l.value-iterator ≡ into_iter_items l.initial.value-iterator)
    × ((of : _) → ((x : _) (y : _) → goal.F-post g l.make x y → y ≡ of x) → l.made.items ≡ map of l.yielded)
    × (length l.made.items ≡ length l.yielded)
    × (into_iter_len l.value-iterator ≡ length (into_iter_items l.value-iterator))
    × (vec_len l.made + into_iter_len l.value-iterator ≤ vec_capacity l.made)

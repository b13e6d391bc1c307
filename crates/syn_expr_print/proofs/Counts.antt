-- The summaries of a tree are no more than its nodes.
use Rattle.std.specs.Prelude.{◌-◌, ◌*◌, ◌^◌, min}
use Rattle.std.proofs.Common.{◌≡◌, ℕ, ◌+◌, ◌≤◌, length, arith}
use Rattle.syn_expr_spec.specs.Summaries.{stack}
use Rattle.syn_expr_spec.specs.Tree.{Tree, size}
use Rattle.syn_expr_spec.proofs.SummaryLemmas.{summaries_are_right}
use Rattle.syn_expr_print.specs.declared.print.Summaries.{Summaries}
use Rattle.syn_expr_print.specs.Taken.{Taken}

least : (v l a b : ℕ) → a ≡ min (0 + v) (2 ^ 64 - 1) → b ≤ 2 ^ 64 - 1 → min b (2 ^ 64 - 1) ≡ min (a + l) (2 ^ 64 - 1) → min v (2 ^ 64 - 1) ≤ b
least v l a b h n k = omega arith

most : (v l a b : ℕ) → a ≡ min (0 + v) (2 ^ 64 - 1) → b ≤ 2 ^ 64 - 1 → min b (2 ^ 64 - 1) ≡ min (a + l) (2 ^ 64 - 1) → l ≤ v → b ≤ min (2 * v) (2 ^ 64 - 1)
most v l a b h n k m = omega arith

-- each is summarized, and then printed at most once
pub once-summarized : (t : Tree) (a b : Summaries) → a.visits ≡ min (0 + size t) (2 ^ 64 - 1) → b.visits ≤ 2 ^ 64 - 1 → Taken a b (stack t) → min (size t) (2 ^ 64 - 1) ≤ b.visits
once-summarized t a b v n h = least (size t) (length (stack t)) a.visits b.visits v n h.visits

pub twice-size : (t : Tree) (a b : Summaries) → a.visits ≡ min (0 + size t) (2 ^ 64 - 1) → b.visits ≤ 2 ^ 64 - 1 → Taken a b (stack t) → b.visits ≤ min (2 * size t) (2 ^ 64 - 1)
twice-size t a b v n h = most (size t) (length (stack t)) a.visits b.visits v n h.visits (summaries_are_right.counted t)

pub ruleset counts = (once-summarized, twice-size)

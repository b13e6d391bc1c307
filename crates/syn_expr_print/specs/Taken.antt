-- Summaries that were taken, one visit each.
use Rattle.std.specs.Prelude.{◌≡◌, ◌+◌, ◌-◌, ◌^◌, min, length, List, ◌++◌}
use Rattle.syn_expr_spec.specs.declared.summary.Summary.{Summary}
use Rattle.syn_expr_print.specs.declared.print.Summaries.{Summaries}

pub record Taken (old new : Summaries) (xs : List Summary) : Type 0 where
  pub items : old.left.items ≡ new.left.items ++ xs
  pub visits : min new.visits (2 ^ 64 - 1) ≡ min (old.visits + length xs) (2 ^ 64 - 1)

-- of these summaries those are left that come next
pub record Going (old new : Summaries) (all next : List Summary) : Type 0 where
  pub front : List Summary
  pub is : all ≡ next ++ front
  pub taken : Taken old new front

-- What is the same tree: that of a printed tree, and that this is decided by flattening once.
use Rattle.std.specs.Prelude.{◌≡◌, true}
use Rattle.syn_expr_spec.specs.declared.next.Context.{Context}
use Rattle.syn_expr_spec.specs.Tree.{Tree, flatten, IsSameTree}
use Rattle.syn_expr_spec.specs.Rule.{printed}
use Rattle.syn_expr_spec.specs.WellFormed.{is_well_formed}

abbrev pub FlattenIsIdempotent : Type 0
FlattenIsIdempotent = (t : Tree) → flatten (flatten t) ≡ flatten t

-- Whatever the context, a well-formed tree is printed as the same tree up to parentheses and fill-ins.
abbrev pub PrintedIsSame : Type 0
PrintedIsSame = (c : Context) (t : Tree) → is_well_formed t ≡ true → IsSameTree t (printed c t)

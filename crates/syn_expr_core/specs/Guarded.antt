-- What is printed of a pattern by itself: its own tokens, and after them its guard, where it has one as a whole (Rust
-- Reference, "`match` expressions", section "Match guards"). A guard of a pattern inside is where none may; it isn't
-- printed.
use Rattle.std.specs.Prelude.{List, [], ◌++◌, Option}
use Rattle.syn_tokens.specs.Tok.{Tok}
use Rattle.syn_lower_spec.specs.Pat.{PatTree, attributed}
use Rattle.syn_lower_spec.specs.PatOwn.{pat_own}
use Rattle.syn_expr_spec.specs.Tree.{Tree}
use Rattle.syn_pat.specs.View.{PatView}
use Rattle.syn_expr_fixup.specs.Below.{guard_by}
use Rattle.syn_expr_print.specs.Placed.{guard_spelled}

-- the guard of a pattern as a whole, which attributes may come before
abbrev pub guard_behind : PatTree → List Tree → Option Tree
guard_behind (attributed a more p) gs = guard_by p gs
guard_behind p gs = guard_by p gs

unfoldable pub pat_spelled : PatView → List Tok
pat_spelled v = pat_own v.tree [] ++ guard_spelled (guard_behind v.tree v.guards)

-- Guards in patterns where none may stand.
use Rattle.std.specs.Prelude.{List, [], ◌∷◌, map, flat_map}
use denote.Ref.{Bor}
use Rattle.syn_lower_spec.specs.Pat.{PatTree, guarded}
use Rattle.syn_expr_spec.specs.Tree.{Tree}
use Rattle.syn_expr_ast.specs.Pats.{ArmView}
use Rattle.syn_expr_core.specs.View.{tree_of}
use Rattle.syn_expr_core.specs.declared.expr.Expr.{Expr}

-- the trees of those that were found, each borrowed
abbrev pub found_trees : List (Bor Expr) → List Tree
found_trees xs = map (λ x. tree_of x.now) xs

-- g and gs but for the last
abbrev pub but_last_guard : Tree → List Tree → List Tree
but_last_guard g [] = []
but_last_guard g (h ∷ gs) = g ∷ but_last_guard h gs

-- all but the arm's own, where its pattern has one as a whole
abbrev pub strays_by : PatTree → List Tree → List Tree
strays_by (guarded p) (g ∷ gs) = but_last_guard g gs
strays_by p gs = gs

abbrev pub arm_strays : ArmView → List Tree
arm_strays x = strays_by x.pat.tree x.pat.guards

abbrev pub arms_strays : List ArmView → List Tree
arms_strays xs = flat_map arm_strays xs

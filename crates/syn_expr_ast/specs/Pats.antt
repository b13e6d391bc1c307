-- What is beside patterns in a tree: their guards, and the arms of a `match` (Rust Reference, "Match expressions").
use Rattle.std.specs.Prelude.{Bool, if◌then◌else◌, List, [], ◌∷◌, map, flat_map}
use Rattle.syn_lower_spec.specs.Tree.{AttributeTree, ReturnTree, default, given}
use Rattle.syn_lower_spec.specs.Pat.{PatTree, guarded}
use Rattle.syn_pat.specs.View.{PatView}
use Rattle.syn_expr_spec.specs.Tree as e
use Rattle.syn_expr_spec.specs.Tree.{Tree, Children, Ending, Piece, ClosureHead, prefixed, frame, none, child}

-- guards in patterns where none may stand, before the other operands
abbrev pub strays : List Tree → Children → Children
strays [] ks = ks
strays (g ∷ gs) ks = child e.stray e.no_ending g (strays gs ks)

abbrev pub trees : List PatView → List PatTree
trees vs = map (λ v. v.tree) vs

abbrev pub guards : List PatView → List Tree
guards vs = flat_map (λ v. v.guards) vs

-- ---- closures

-- With an output its body is a block of its own.
abbrev pub closure_by : ReturnTree → ClosureHead → List Tree → Tree → Tree
closure_by default h gs body = prefixed (e.closure h) (strays gs none) body
closure_by (given ty) h gs body = frame (e.closure_block h) (strays gs (child e.output_block e.no_ending body none))

-- ---- arms

pub record ArmView : Type 0 where
  pub attrs : List AttributeTree
  pub pat : PatView
  pub body : Tree
  pub comma : Bool

-- The last of these guards is the arm's own.
abbrev pub guard_children : Piece → Tree → List Tree → Children → Children
guard_children k g [] ks = child k e.no_ending g ks
guard_children k g (h ∷ gs) ks = child e.stray e.no_ending g (guard_children k h gs ks)

abbrev pub arm_ending : Bool → Ending
arm_ending b = if b then e.comma else e.no_ending

abbrev pub arm_children : ArmView → PatTree → List Tree → Children → Children
arm_children x (guarded p) (g ∷ gs) more = guard_children (e.guard x.attrs p) g gs (child e.guarded (arm_ending x.comma) x.body more)
arm_children x p gs more = strays gs (child (e.arm x.attrs p) (arm_ending x.comma) x.body more)

abbrev pub arms : List ArmView → Children
arms [] = none
arms (x ∷ xs) = arm_children x x.pat.tree x.pat.guards (arms xs)

-- The trees of expressions, and the views of patterns, arms and fields, that are held.
use Rattle.std.specs.Prelude.{◌≡◌, ◌==◌, Bool, true, false, List, [], chars, length, None}
use Rattle.syn_lower_spec.specs.Tree.{default}
use Rattle.syn_lower_spec.specs.Pat.{MemberTree, PatTree}
use Rattle.syn_lower_spec.specs.Text.{Text}
use Rattle.syn_lower_spec.specs.declared.label.LitKind.{LitKind}
use Rattle.syn_expr_spec.specs.Tree.{Tree, ClosureHead, leaf, lit}
use Rattle.syn_pat.specs.View.{PatView}
use Rattle.syn_expr_ast.specs.Pats.{ArmView}
use Rattle.syn_expr_ast.specs.View.{FieldView}
use Rattle.syn_expr_parse.specs.declared.known.Held.{Held}

-- the tree of the expression that is held
abbrev pub tree_in : {H E : Type 0} → (E → Tree) → (H → E) → H → Tree
tree_in tree held x = tree (held x)

-- the view of the pattern, the arm or the field that is held
abbrev pub view_in : {T V : Type 0} → (T → V) → Held T → V
view_in view x = view x.value

-- whether a list is of one alone: a tuple of one has a comma after it (Rust Reference, "Tuple expressions")
abbrev pub is_one : {A : Type 0} → List A → Bool
is_one xs = length xs == 1

-- a literal of this kind, of the characters of whose text this is so
abbrev pub IsLit : LitKind → (Text → Type 0) → Tree → Type 0
IsLit kind IsSo (leaf (lit x)) = (x.kind ≡ kind) × IsSo (chars x.text)
IsLit kind IsSo _ = ⊥

-- a pattern, and the guards that are beside it
abbrev pub pat_view : PatTree → List Tree → PatView
pat_view p guards = record { tree = p; guards = guards }

-- an arm without attributes and without a comma
abbrev pub arm_view : PatView → Tree → ArmView
arm_view p body = record { attrs = []; pat = p; body = body; comma = false }

-- a field with a colon, without attributes
abbrev pub field_view : MemberTree → Tree → FieldView
field_view member value = record { attrs = []; member = member; colon = true; value = value }

-- the head of a closure with these arguments, which has no words but `move`, and no type of its value
abbrev pub closure_head : Bool → List PatTree → ClosureHead
closure_head is_move inputs = record {
  lifetimes = None;
  constness = false;
  movability = false;
  asyncness = false;
  capture = is_move;
  usage = false;
  inputs = inputs;
  trailing = false;
  output = default;
}

-- Patterns, arms and fields with the expressions in them as a function leaves these.
use Rattle.std.specs.Prelude.{◌≡◌, Result, Ok, List, [], ◌∷◌, ◌++◌, map, Option, Some, None}
use Rattle.std.specs.declared.boxed.Box.{Box}
use Rattle.std.specs.declared.alloc.Global.{Global}
use Rattle.syn_expr_spec.specs.Tree.{Tree}
use Rattle.syn_pat.specs.View.{PatView}
use Rattle.syn_pat.specs.declared.pat.FieldPatKindOf.{FieldPatKindOf}
use Rattle.syn_pat.specs.declared.pat.FieldPatKindOf.TheVariants as field
use Rattle.syn_expr_ast.specs.Pats.{ArmView}
use Rattle.syn_expr_ast.specs.View.{FieldView}
use Rattle.syn_visit_kinds.specs.Changes.{Changed}

-- The expressions in a pattern are its guards.
abbrev pub map_pat : (Tree → Tree) → PatView → PatView
map_pat f p = record { tree = p.tree; guards = map f p.guards }

abbrev pub map_arm : (Tree → Tree) → ArmView → ArmView
map_arm f a = record { attrs = a.attrs; pat = map_pat f a.pat; body = f a.body; comma = a.comma }

-- the operands in an arm, from left to right
abbrev pub arm_operands : ArmView → List Tree
arm_operands a = a.pat.guards ++ a.body ∷ []

-- The operands of an arm are passed to a call; what is around them is as it was.
pub record ChangedArm {R : Type 0} (call : Tree → Result (Unit {0}) R → Tree → Type 0) (a : ArmView) (r : Result (Unit {0}) R) (b : ArmView) : Type 0 where
  pub operands : Changed call (arm_operands a) r (arm_operands b)
  pub around : (k : Tree) → map_arm (λ _. k) b ≡ map_arm (λ _. k) a

abbrev pub map_field : (Tree → Tree) → FieldView → FieldView
map_field f x = record { attrs = x.attrs; member = x.member; colon = x.colon; value = f x.value }

-- what comes after `else` or `@`
abbrev pub else_operand : {E S : Type 0} → Option (S × Box E Global) → List E
else_operand None = []
else_operand (Some q) = q.1.value ∷ []

-- the pattern in a field of a struct pattern, where one is written
abbrev pub field_pattern : {P : Type 0} → FieldPatKindOf P → List P
field_pattern (field.Short x) = []
field_pattern (field.Full x) = x.pat.value ∷ []

-- A field of a struct pattern: the pattern in it is passed to a call.
abbrev pub ChangedField : {P R : Type 0} → (P → Result (Unit {0}) R → P → Type 0) → FieldPatKindOf P → Result (Unit {0}) R → FieldPatKindOf P → Type 0
ChangedField call (field.Short x) r (field.Short y) = (r ≡ Ok tt) × (y ≡ x)
ChangedField call (field.Full x) r (field.Full y) = (y.member ≡ x.member) × call x.pat.value r y.pat.value
ChangedField call _ r _ = ⊥

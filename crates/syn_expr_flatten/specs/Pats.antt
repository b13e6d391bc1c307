-- What is left of patterns and arms, where the guards have no parentheses.
use Rattle.std.specs.Prelude.{◌≡◌, Result, IfOk}
use Rattle.std.specs.declared.alloc.AllocError.{AllocError}
use denote.Ref.{MutBor}
use Rattle.syn_pat.specs.View.{PatView, field_of, field_guards, field_pat_of}
use Rattle.syn_pat.specs.declared.pat.FieldPatKindOf.{FieldPatKindOf}
use Rattle.syn_pat.specs.declared.pat.FieldPatOf.{FieldPatOf}
use Rattle.syn_expr_ast.specs.Pats.{ArmView}
use Rattle.syn_visit_kinds.specs.Calls.{Each}
use Rattle.syn_expr_flatten.specs.Flat.{IsFlat}

abbrev pub IsFlatPat : PatView → PatView → Type 0
IsFlatPat u v = (v.tree ≡ u.tree) × Each IsFlat u.guards v.guards

-- what a field of a struct pattern is, and a field
abbrev pub IsFlatKind : {P : Type 0} → (P → PatView) → FieldPatKindOf P → FieldPatKindOf P → Type 0
IsFlatKind f x y = (field_of f y ≡ field_of f x) × Each IsFlat (field_guards f x) (field_guards f y)

abbrev pub IsFlatFieldPat : {P : Type 0} → (P → PatView) → FieldPatOf P → FieldPatOf P → Type 0
IsFlatFieldPat f x y = (field_pat_of f y ≡ field_pat_of f x) × Each IsFlat (field_guards f x.kind) (field_guards f y.kind)

-- a call that flattens the pattern that it is lent
abbrev pub FlattensPat : {P : Type 0} → (P → PatView) → (MutBor P → Result (Unit {0}) AllocError → MutBor P → Type 0) → Type 0
FlattensPat view post = (old new : MutBor _) (r : _) → post old r new → IfOk r (λ _. IsFlatPat (view old.now) (view new.now))

abbrev pub IsFlatArm : ArmView → ArmView → Type 0
IsFlatArm a b = (b.attrs ≡ a.attrs) × IsFlatPat a.pat b.pat × IsFlat a.body b.body × (b.comma ≡ a.comma)

-- a call that flattens the arm that it is lent
abbrev pub FlattensArm : {A : Type 0} → (A → ArmView) → (MutBor A → Result (Unit {0}) AllocError → MutBor A → Type 0) → Type 0
FlattensArm view post = (old new : MutBor _) (r : _) → post old r new → IfOk r (λ _. IsFlatArm (view old.now) (view new.now))

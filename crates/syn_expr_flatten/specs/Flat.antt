-- What is left of an expression without its parentheses.
use Rattle.std.specs.Prelude.{◌≡◌, false, List, [], Option, Some, None, Result, IfOk, ℕ, if◌then◌else◌, length}
use Rattle.std.specs.declared.vec.Vec.{Vec}
use Rattle.std.specs.declared.alloc.Global.{Global}
use Rattle.std.specs.declared.alloc.AllocError.{AllocError}
use denote.Ref.{MutBor}
use Rattle.syn_lower_spec.specs.Tree.{AttributeTree, no_qself}
use Rattle.syn_lower_leaves.specs.declared.attr.Attribute.{Attribute}
use Rattle.syn_expr_spec.specs.Tree.{Tree, Children, leaf, path, prepend, flatten, flatten_children}
use Rattle.syn_expr_ast.specs.Attrs.{attrs_of, before_inner}
use Rattle.syn_expr_ast.specs.View.{FieldView}

-- u is t without its parentheses
unfoldable pub IsFlat : Tree → Tree → Type 0
IsFlat t u = u ≡ flatten t

-- what is in the place of an expression that was dropped: a path without segments
abbrev pub placeholder : Tree
placeholder = leaf (path no_qself (record { leading = false; segments = []; trailing = false }))

-- us are the operands ts without their parentheses
unfoldable pub AreFlat : Children → Children → Type 0
AreFlat ts us = us ≡ flatten_children ts

abbrev pub IsFlatField : FieldView → FieldView → Type 0
IsFlatField u v = (v.attrs ≡ u.attrs) × (v.member ≡ u.member) × (v.colon ≡ u.colon) × IsFlat u.value v.value

-- a call that flattens what it is lent
abbrev pub Flattens : {E : Type 0} → (E → Tree) → (MutBor E → Result (Unit {0}) AllocError → MutBor E → Type 0) → Type 0
Flattens tree post = (old new : MutBor _) (r : _) → post old r new → IfOk r (λ _. IsFlat (tree old.now) (tree new.now))

-- ---- after attributes of parentheses that stood round it

abbrev pub before : Option (Vec Attribute Global) → List AttributeTree
before None = []
before (Some v) = attrs_of v

abbrev pub behind : Option (Vec Attribute Global) → Tree → Tree
behind None t = t
behind (Some v) t = prepend (attrs_of v) t

-- u is t without its parentheses, after these attributes
unfoldable pub IsFlatBehind : Option (Vec Attribute Global) → Tree → Tree → Type 0
IsFlatBehind ats t u = u ≡ behind ats (flatten t)

-- a call that flattens what it is lent, after attributes that it is given
abbrev pub FlattensBehind : {E : Type 0} → (E → Tree) → (MutBor E → Option (Vec Attribute Global) → Result (Unit {0}) AllocError → MutBor E → Type 0) → Type 0
FlattensBehind tree post = (old new : MutBor _) (ats : _) (r : _) → post old ats r new → IfOk r (λ _. IsFlatBehind ats (tree old.now) (tree new.now))

-- ---- where an attribute of parentheses belongs among those of the node with braces that these held

-- an outer one before all, an inner one before the inner ones
abbrev pub place : AttributeTree → List AttributeTree → ℕ
place a ats = if a.inner then length (before_inner ats) else 0

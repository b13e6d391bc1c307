-- What follows of a call for the value that it left.
use Rattle.std.proofs.Common.{Result, Ok, IfOk, subst}
use Rattle.std.specs.declared.alloc.AllocError.{AllocError}
use denote.Ref.{MutBor}
use Rattle.syn_expr_spec.specs.Tree.{Tree}
use Rattle.syn_pat.specs.View.{PatView}
use Rattle.syn_visit_kinds.specs.Calls.{Left}
use Rattle.syn_expr_flatten.specs.Flat.{IsFlat, Flattens}
use Rattle.syn_expr_flatten.specs.Pats.{IsFlatPat, FlattensPat}

module _ {E : Type 0} (post : MutBor E → Result (Unit {0}) AllocError → MutBor E → Type 0) where
  pub left_by : (R : E → E → Type 0) → ((old new : MutBor E) (r : Result (Unit {0}) AllocError) → post old r new → IfOk r (λ _. R old.now new.now)) → (x y : E) → Left post x y → R x y
  left_by R gives x y call = subst (λ a. R a y) call.shows (subst (R call.old.now) call.leaves (gives call.old call.new (Ok tt) call.met))

pub flat_by : {E : Type 0} (tree : E → Tree) (post : MutBor E → Result (Unit {0}) AllocError → MutBor E → Type 0) → Flattens tree post → (x y : E) → Left post x y → IsFlat (tree x) (tree y)
flat_by tree post = left_by post (λ x y. IsFlat (tree x) (tree y))

pub pat_by : {P : Type 0} (view : P → PatView) (post : MutBor P → Result (Unit {0}) AllocError → MutBor P → Type 0) → FlattensPat view post → (x y : P) → Left post x y → IsFlatPat (view x) (view y)
pat_by view post = left_by post (λ x y. IsFlatPat (view x) (view y))

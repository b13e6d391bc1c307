-- What the reader of the expressions inside ensures.
use Rattle.std.specs.Prelude.{◌≡◌, ℕ, ◌≤◌, ◌<◌, Result}
use Rattle.std.specs.declared.boxed.Box.{Box}
use Rattle.std.specs.declared.alloc.Global.{Global}
use denote.Ref.{MutBor}
use Rattle.syn_tokens.specs.declared.error.Error.{Error}
use Rattle.syn_tokens.specs.Tok.{weight}
use Rattle.syn_tokens.specs.Input.{Input}
use Rattle.syn_lower_leaves.specs.Reads.{Reads}
use Rattle.syn_expr_spec.specs.declared.kinds.Place.{Place}
use Rattle.syn_expr_spec.specs.Tree.{Tree}
use Rattle.syn_expr_spec.specs.Read.{expr}

-- a reader of expressions that may be called where less than a bound is left
abbrev pub Callable : ℕ → (MutBor Input → Place → Type 0) → Type 0
Callable bound pre = (old : MutBor Input) (p : Place) → weight old.now.rest < bound → pre old p

-- a reader of the expressions inside, by their trees
pub record ReadsExpr {E : Type 0} (see : E → Tree) (post : MutBor Input → Place → Result (Box E Global) Error → MutBor Input → Type 0) : Type 0 where
  pub reads : (old new : MutBor Input) (p : Place) (r : Result (Box E Global) Error) → post old p r new → Reads (λ x. see x.value) (expr p old.now.rest) r new.now.rest
  pub noted : (old new : MutBor Input) (p : Place) (r : Result (Box E Global) Error) → post old p r new → new.now.noted ≡ old.now.noted
  pub shrinks : (old new : MutBor Input) (p : Place) (r : Result (Box E Global) Error) → post old p r new → weight new.now.rest ≤ weight old.now.rest

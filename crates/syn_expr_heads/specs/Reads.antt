-- What the readers of the patterns inside ensure.
use Rattle.std.specs.Prelude.{◌≡◌, ℕ, ◌≤◌, ◌<◌, Bool, [], Result, IfOk}
use denote.Ref.{MutBor}
use Rattle.syn_tokens.specs.declared.error.Error.{Error}
use Rattle.syn_tokens.specs.Tok.{weight}
use Rattle.syn_tokens.specs.Input.{Input}
use Rattle.syn_lower_spec.specs.Pat.{pattern, closure_arg}
use Rattle.syn_lower_leaves.specs.Reads.{Reads}
use Rattle.syn_pat.specs.View.{PatView}

-- a reader of the arguments of closures that may be called where less than a bound is left
abbrev pub CallableArg : ℕ → (MutBor Input → Type 0) → Type 0
CallableArg bound pre = (old : MutBor Input) → weight old.now.rest < bound → pre old

-- a reader of patterns, by their trees; no guard is in what they read
pub record ReadsPat {P : Type 0} (see : P → PatView) (post : MutBor Input → Bool → Result P Error → MutBor Input → Type 0) : Type 0 where
  pub reads : (old new : MutBor Input) (b : Bool) (r : Result P Error) → post old b r new → Reads (λ x. (see x).tree) ((pattern b).reads old.now.rest) r new.now.rest
  pub bare : (old new : MutBor Input) (b : Bool) (r : Result P Error) → post old b r new → IfOk r (λ p. (see p).guards ≡ [])
  pub noted : (old new : MutBor Input) (b : Bool) (r : Result P Error) → post old b r new → new.now.noted ≡ old.now.noted
  pub shrinks : (old new : MutBor Input) (b : Bool) (r : Result P Error) → post old b r new → weight new.now.rest ≤ weight old.now.rest

-- a reader of the arguments of closures, by their trees; no guard is in what they read
pub record ReadsArg {P : Type 0} (see : P → PatView) (post : MutBor Input → Result P Error → MutBor Input → Type 0) : Type 0 where
  pub reads : (old new : MutBor Input) (r : Result P Error) → post old r new → Reads (λ x. (see x).tree) (closure_arg.reads old.now.rest) r new.now.rest
  pub bare : (old new : MutBor Input) (r : Result P Error) → post old r new → IfOk r (λ p. (see p).guards ≡ [])
  pub noted : (old new : MutBor Input) (r : Result P Error) → post old r new → new.now.noted ≡ old.now.noted
  pub shrinks : (old new : MutBor Input) (r : Result P Error) → post old r new → weight new.now.rest ≤ weight old.now.rest

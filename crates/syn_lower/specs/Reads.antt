-- What the reader of the types inside ensures.
use Rattle.std.specs.Prelude.{◌≡◌, ℕ, ◌≤◌, ◌<◌, Bool, Result, true, false, List, [], length, Option, Some, None}
use Rattle.std.specs.declared.boxed.Box.{Box}
use Rattle.std.specs.declared.alloc.Global.{Global}
use denote.Ref.{MutBor}
use Rattle.syn_tokens.specs.declared.error.Error.{Error}
use Rattle.syn_tokens.specs.Tok.{weight}
use Rattle.syn_tokens.specs.Input.{Input}
use Rattle.syn_lower_spec.specs.Part.{type}
use Rattle.syn_lower_spec.specs.Tree.{TypeTree, SegmentTree}
use Rattle.syn_lower_leaves.specs.Reads.{Reads}

-- a reader of types that may be called where less than a bound is left
abbrev pub Callable : ℕ → (MutBor Input → Bool → Type 0) → Type 0
Callable bound pre = (old : MutBor Input) (several : Bool) → weight old.now.rest < bound → pre old several

-- a reader of the types inside, by their trees
pub record ReadsType {T : Type 0} (see : T → TypeTree) (post : MutBor Input → Bool → Result (Box T Global) Error → MutBor Input → Type 0) : Type 0 where
  pub reads : (old new : MutBor Input) (b : Bool) (r : Result (Box T Global) Error) → post old b r new → Reads (λ x. see x.value) ((type b).reads old.now.rest) r new.now.rest
  pub noted : (old new : MutBor Input) (b : Bool) (r : Result (Box T Global) Error) → post old b r new → new.now.noted ≡ old.now.noted
  pub shrinks : (old new : MutBor Input) (b : Bool) (r : Result (Box T Global) Error) → post old b r new → weight new.now.rest ≤ weight old.now.rest

-- ---- what stands of a qualified path before the segments after `>`

-- how many segments are inside, and whether `as` does; whether the path begins with `::`, and those segments
abbrev pub inside_of : Option (Bool × List SegmentTree) → (ℕ × Bool) × (Bool × List SegmentTree)
inside_of None = ((0, false), (true, []))
inside_of (Some p) = ((length p.1, true), p)

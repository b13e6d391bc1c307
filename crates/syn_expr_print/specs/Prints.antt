-- The printer of nodes that are left bare, which all printers of operands take as a parameter.
use Rattle.std.specs.Prelude.{◌≡◌, ℕ, ◌<◌, List, ◌++◌, Result, OnOk}
use Rattle.std.specs.declared.alloc.AllocError.{AllocError}
use denote.Ref.{Bor, MutBor}
use Rattle.syn_tokens.specs.Tok.{Tok}
use Rattle.syn_tokens.specs.Input.{IsFront}
use Rattle.syn_expr_spec.specs.declared.next.Context.{Context}
use Rattle.syn_expr_spec.specs.Summaries.{below}
use Rattle.syn_expr_spec.specs.Tree.{Tree, size}
use Rattle.syn_expr_print.specs.declared.print.Summaries.{Summaries}
use Rattle.syn_expr_print.specs.Printing.{EndsWith, spelled}
use Rattle.syn_expr_print.specs.Taken.{Taken}

-- such a printer may be called at nodes smaller than a bound, each with its summaries below
abbrev pub Callable : {E : Type 0} → (E → Tree) → ℕ → (MutBor (List Tok) → MutBor Summaries → Bor E → Context → Type 0) → Type 0
Callable {E} see bound pre = (out : MutBor (List Tok)) (summaries : MutBor Summaries) (x : Bor E) (c : Context) → size (see x.now) < bound → EndsWith summaries.now.left.items (below (see x.now)) → pre out summaries x c

-- such a printer, by the trees of its nodes; a node's own summary was taken before
pub record Prints {E U : Type 0} (see : E → Tree) (post : MutBor (List Tok) → MutBor Summaries → Bor E → Context → Result U AllocError → MutBor (List Tok) → MutBor Summaries → Type 0) : Type 0 where
  pub text : (old new : MutBor (List Tok)) (n m : MutBor Summaries) (x : Bor E) (c : Context) (r : Result U AllocError) → post old n x c r new m → OnOk r (new.now ≡ old.now ++ spelled c (see x.now))
  pub front : (old new : MutBor (List Tok)) (n m : MutBor Summaries) (x : Bor E) (c : Context) (r : Result U AllocError) → post old n x c r new m → IsFront old.now new.now
  pub taken : (old new : MutBor (List Tok)) (n m : MutBor Summaries) (x : Bor E) (c : Context) (r : Result U AllocError) → post old n x c r new m → OnOk r (Taken n.now m.now (below (see x.now)))

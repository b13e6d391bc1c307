-- What the reader of the patterns inside ensures, and what the readers over it read in parts.
use Rattle.std.specs.Prelude.{◌≡◌, ℕ, ◌≤◌, ◌<◌, Bool, true, ◌&&◌, [], Some, Result, IfOk}
use denote.Ref.{MutBor}
use Rattle.syn_tokens.specs.declared.error.Error.{Error}
use Rattle.syn_tokens.specs.Tok.{weight}
use Rattle.syn_tokens.specs.Input.{Input}
use Rattle.syn_lexer.specs.declared.front.Delimiter.TheVariants as del
use Rattle.syn_tokens.specs.Front.{is_empty}
use Rattle.syn_lower_spec.specs.Form.{Form, Outcome, and_then, when, shown, pure, inside, listed}
use Rattle.syn_lower_spec.specs.Mark.{brace_at, round_at, comma}
use Rattle.syn_lower_spec.specs.Part.{QPathTree}
use Rattle.syn_lower_spec.specs.Pat as p
use Rattle.syn_lower_spec.specs.Pat.{PatTree, PathEnd, attributed, pattern, struct_inside, to_path, unqualified}
use Rattle.syn_lower_leaves.specs.Reads.{Reads}
use Rattle.syn_pat.specs.View.{PatView}

-- a reader of patterns that may be called where less than a bound is left
abbrev pub Callable : ℕ → (MutBor Input → Bool → Type 0) → Type 0
Callable bound pre = (old : MutBor Input) (multi : Bool) → weight old.now.rest < bound → pre old multi

-- a reader of the patterns inside, by their trees; it reads no guards
pub record ReadsPat {P : Type 0} (see : P → PatView) (post : MutBor Input → Bool → Result P Error → MutBor Input → Type 0) : Type 0 where
  pub reads : (old new : MutBor Input) (b : Bool) (r : Result P Error) → post old b r new → Reads (λ x. (see x).tree) ((pattern b).reads old.now.rest) r new.now.rest
  pub unguarded : (old new : MutBor Input) (b : Bool) (r : Result P Error) → post old b r new → IfOk r (λ x. (see x).guards ≡ [])
  pub noted : (old new : MutBor Input) (b : Bool) (r : Result P Error) → post old b r new → new.now.noted ≡ old.now.noted
  pub shrinks : (old new : MutBor Input) (b : Bool) (r : Result P Error) → post old b r new → weight new.now.rest ≤ weight old.now.rest

-- the pattern that a path makes with what comes after it
abbrev pub by_path : QPathTree → Outcome PathEnd → Outcome PatTree
by_path q o = and_then o (λ e n. Some (to_path (q, e), n))

-- what comes after a path where no macro's `!` does
abbrev pub unmarked_end : QPathTree → Form PathEnd
unmarked_end q =
    when (λ l. unqualified q && brace_at l) (shown p.to_struct_end p.from_struct_end (inside del.Brace (struct_inside pattern)))
    (when (λ l. unqualified q && round_at l) (shown p.to_tuple_end p.from_tuple_end (inside del.Parenthesis (listed comma is_empty (pattern true))))
    (when p.dots.at (shown p.to_range_more p.from_range_more p.range_end) (pure p.no_more p.is_no_more)))

-- a pattern without the attributes before it
abbrev pub unattributed : PatTree → PatTree
unattributed (attributed a more p) = p
unattributed p = p

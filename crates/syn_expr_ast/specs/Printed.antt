-- What is printed of an expression, with the parentheses that it needs where it stands and inside (Rust Reference, "Expression
-- precedence"), and of a field of a struct expression.
use Rattle.std.specs.Prelude.{if◌then◌else◌, List, [], ◌++◌, ◌≡◌, ◌≤◌, ◌+◌, ◌⊎◌, Bool, false, Result, IfErr, IfOk, MatchResult}
use Rattle.syn_tokens.specs.Tok.{Tok, weight}
use Rattle.syn_expr_spec.specs.declared.next.Context.{Context}
use Rattle.syn_expr_spec.specs.Next.{enclosed}
use Rattle.syn_expr_spec.specs.Rule.{printed}
use Rattle.syn_expr_spec.specs.Tree.{Tree, field_value, own_tokens, piece_own}
use Rattle.syn_expr_ast.specs.View.{FieldView}
use Rattle.syn_tokens.specs.Input.{Input, IsAfter}
use Rattle.syn_tokens.specs.declared.error.Error.{Error}
use Rattle.syn_tokens.specs.declared.error.ErrorKind.TheVariants.{OutOfMemory, ExpectedExprKind}
use Rattle.syn_tokens.specs.declared.error.WantedKind.{WantedKind}
use Rattle.syn_expr_spec.specs.Place.{plain}
use Rattle.syn_expr_spec.specs.Stands.{Stands}
use Rattle.syn_expr_spec.specs.Alone.{is_inside}

-- of a tree where the rule decides about its parentheses
unfoldable pub whole : Context → Tree → List Tok
whole c t = own_tokens (printed c t)

-- of a field; without a colon its value is not spelled
unfoldable pub field_spelled : FieldView → List Tok
field_spelled x = piece_own (field_value x.attrs x.member x.colon) [] ++ (if x.colon then whole enclosed x.value else [])

-- ---- what a reader ensures that reads what is, and nothing else

-- What is at the front of the list is read, unless memory runs out, and nothing else is: `stands list value rest`. A read
-- takes tokens and makes no note, and the input stays where it was where it is refused.
pub record ReadsExactly {A B : Type 0} (seen : A → B) (stands : List Tok → B → List Tok → Type 0) (old : Input) (result : Result A Error) (new : Input) : Type 0 where
  pub read : IfOk result (λ v. stands old.rest (seen v) new.rest)
  pub found : (x : B) (rest : List Tok) → stands old.rest x rest → MatchResult result (λ v. (seen v ≡ x) × (new.rest ≡ rest)) (λ e. e.kind ≡ OutOfMemory)
  pub noted : new.noted ≡ old.noted
  pub after : IsAfter old new
  pub stays : IfErr result (λ _. new ≡ old)
  pub moves : IfOk result (λ _. 1 + weight new.rest ≤ weight old.rest)

-- Where an expression of another kind stands, that is told, unless memory runs out.
abbrev pub RefusesOthers : {A : Type 0} → (Tree → Bool) → WantedKind → Input → Result A Error → Type 0
RefusesOthers is wanted old result =
    (x : Tree) (n : List Tok) → Stands plain old.rest x n → is_inside is x ≡ false
    → MatchResult result (λ _. ⊥) (λ e. (e.kind ≡ OutOfMemory) ⊎ (e.kind ≡ ExpectedExprKind wanted))

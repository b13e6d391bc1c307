-- As what an expression may be refused.
use Rattle.std.specs.Prelude.{◌≡◌, Bool, true, false}
use Rattle.syn_tokens.specs.declared.error.ErrorKind.{ErrorKind}
use Rattle.syn_tokens.specs.declared.error.ErrorKind.TheVariants.{ExpectedBinaryOperator, ExpectedExprKind, ExpectedPart, Lex, ModifierNotEmpty}
use Rattle.syn_tokens.specs.declared.error.Part.TheVariants.{Attribute}

-- not as what other readers or the lexer alone answer
abbrev pub is_refusal : ErrorKind → Bool
is_refusal ExpectedBinaryOperator = false
is_refusal (ExpectedExprKind _) = false
is_refusal (ExpectedPart Attribute) = false
is_refusal (Lex _) = false
is_refusal ModifierNotEmpty = false
is_refusal _ = true

abbrev pub MayRefuse : ErrorKind → Type 0
MayRefuse kind = is_refusal kind ≡ true

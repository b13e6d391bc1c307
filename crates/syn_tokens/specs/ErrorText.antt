-- The texts of refusals.
use Rattle.std.specs.Prelude.{ℕ, List, ◌++◌, codes}
use Rattle.syn_lexer.specs.ErrorText.{lex_error_text}
use Rattle.syn_tokens.specs.Sign.{sign_text, word_text}
use Rattle.syn_lexer.specs.declared.front.Delimiter.TheVariants as delimiter
use Rattle.syn_tokens.specs.declared.error.ErrorKind.{ErrorKind}
use Rattle.syn_tokens.specs.declared.error.ErrorKind.TheVariants as kind
use Rattle.syn_tokens.specs.declared.error.AfterCast.{AfterCast}
use Rattle.syn_tokens.specs.declared.error.AfterCast.TheVariants as after
use Rattle.syn_tokens.specs.declared.error.WantedKind.{WantedKind}
use Rattle.syn_tokens.specs.declared.error.WantedKind.TheVariants as node
use Rattle.syn_tokens.specs.declared.error.Wanted.{Wanted}
use Rattle.syn_tokens.specs.declared.error.Wanted.TheVariants.{Sign, Word, Underscore, Identifier, Lifetime, Delimiter}
use Rattle.syn_tokens.specs.declared.error.Expected.{Expected}
use Rattle.syn_tokens.specs.declared.error.Expected.TheVariants.{One, Two, Three}
use Rattle.syn_tokens.specs.declared.error.Part.{Part}
use Rattle.syn_tokens.specs.declared.error.Part.TheVariants as part

abbrev pub after_cast_text : AfterCast → List ℕ
after_cast_text after.Await = codes "`.await`"
after_cast_text after.MethodCall = codes "a method call"
after_cast_text after.FieldAccess = codes "a field access"
after_cast_text after.Question = codes "`?`"
after_cast_text after.Indexing = codes "indexing"
after_cast_text after.FunctionCall = codes "a function call"

abbrev pub kind_name : WantedKind → List ℕ
kind_name node.Assign = codes "assignment expression"
kind_name node.Await = codes "await expression"
kind_name node.Binary = codes "binary operation"
kind_name node.Call = codes "function call expression"
kind_name node.Cast = codes "cast expression"
kind_name node.Field = codes "struct field access"
kind_name node.Index = codes "indexing expression"
kind_name node.MethodCall = codes "method call expression"
kind_name node.Range = codes "range expression"
kind_name node.Try = codes "try expression"
kind_name node.Tuple = codes "tuple expression"

abbrev pub part_text : Part → List ℕ
part_text part.Literal = codes "a literal"
part_text part.Path = codes "a path"
part_text part.Type = codes "a type"
part_text part.Pattern = codes "a pattern"
part_text part.Macro = codes "a macro"
part_text part.Attribute = codes "an attribute"

-- a token in backquotes, or its name
abbrev pub wanted_text : Wanted → List ℕ
wanted_text (Sign k) = codes "`" ++ sign_text k ++ codes "`"
wanted_text (Word k) = codes "`" ++ word_text k ++ codes "`"
wanted_text Underscore = codes "`_`"
wanted_text Identifier = codes "identifier"
wanted_text Lifetime = codes "lifetime"
wanted_text (Delimiter delimiter.Parenthesis) = codes "`(`"
wanted_text (Delimiter delimiter.Brace) = codes "`{`"
wanted_text (Delimiter delimiter.Bracket) = codes "`[`"
wanted_text (Delimiter delimiter.None) = codes "invisible group"

abbrev pub expected_text : Expected → List ℕ
expected_text (One a) = codes "expected " ++ wanted_text a
expected_text (Two a b) = codes "expected " ++ wanted_text a ++ codes " or " ++ wanted_text b
expected_text (Three a b c) = codes "expected " ++ wanted_text a ++ codes ", " ++ wanted_text b ++ codes " or " ++ wanted_text c

abbrev pub kind_text : ErrorKind → List ℕ
kind_text kind.OutOfMemory = codes "out of memory"
kind_text kind.ExpectedExpression = codes "expected an expression"
kind_text kind.ExpectedBinaryOperator = codes "expected binary operator"
kind_text kind.ChainedComparison = codes "comparison operators cannot be chained"
kind_text kind.LeftArrow =
    codes "unexpected operator `<-`, if this is intended to be a comparison against a negative then a space is required: `< -`"
kind_text (kind.AfterCast after) = codes "casts cannot be followed by " ++ after_cast_text after
kind_text kind.RangeAttributes = codes "attributes are not allowed on range expressions starting with `..`"
kind_text kind.ExpectedLoopOrBlock = codes "expected loop or block expression"
kind_text kind.ExpectedCommaOrSemi = codes "expected `,` or `;`"
kind_text kind.ParenthesesRequired = codes "parentheses required"
kind_text kind.ExpectedMember = codes "expected identifier or integer"
kind_text kind.ExpectedUnsuffixedInteger = codes "expected unsuffixed integer"
kind_text kind.IndexOutOfRange = codes "index out of range"
kind_text (kind.ExpectedExprKind wanted) = codes "expected " ++ kind_name wanted
kind_text (kind.ExpectedToken wanted) = expected_text wanted
kind_text kind.UnexpectedToken = codes "unexpected token"
kind_text (kind.ExpectedPart part) = codes "expected " ++ part_text part
kind_text (kind.Lex error) = lex_error_text error
kind_text kind.ModifierNotEmpty = codes "modifier not empty"

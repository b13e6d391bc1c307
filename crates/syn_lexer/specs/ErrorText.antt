-- The text of a refusal.
use Rattle.std.specs.Prelude.{ℕ, List, codes}
use Rattle.syn_lexer.specs.declared.error.LexError.{LexError}
use Rattle.syn_lexer.specs.declared.error.LexError.TheVariants.{DocComment, UnterminatedComment, ReservedRawIdentifier, MalformedLiteral, MalformedLifetime, UnclosedDelimiter, UnexpectedClosingDelimiter, UnknownCharacter}

abbrev pub lex_error_text : LexError → List ℕ
lex_error_text DocComment = codes "doc comment"
lex_error_text UnterminatedComment = codes "unterminated comment"
lex_error_text ReservedRawIdentifier = codes "reserved raw identifier"
lex_error_text MalformedLiteral = codes "malformed literal"
lex_error_text MalformedLifetime = codes "malformed lifetime"
lex_error_text UnclosedDelimiter = codes "unclosed delimiter"
lex_error_text UnexpectedClosingDelimiter = codes "unexpected closing delimiter"
lex_error_text UnknownCharacter = codes "unknown character"

-- A text is a list of characters; what is at its front is read, or refused.
use Rattle.std.specs.Prelude.{ℕ, ◌≤◌, Bool, List, length, Result, Ok, Err, MatchResult, nat_eq}
use Rattle.std.specs.List.{starts_with}
use Rattle.syn_lexer.specs.declared.front.Lexeme.{Lexeme}
use Rattle.syn_lexer.specs.declared.front.LexemeKind.{LexemeKind}
use Rattle.syn_lexer.specs.declared.error.LexError.{LexError}
use Rattle.syn_lexer.specs.declared.error.Refusal.{Refusal}

abbrev pub Text : Type 0
Text = List ℕ

-- the kind of what is at the front and how many characters it is; or why nothing is there, and how many
-- characters there are to where the lexer stood
abbrev pub Reading : Type 0
Reading = Result (LexemeKind × ℕ) (LexError × ℕ)

-- what the lexer answers
abbrev pub reading_of : Result Lexeme Refusal → Reading
reading_of (Ok lexeme) = Ok (lexeme.kind, lexeme.len)
reading_of (Err refusal) = Err (refusal.error, refusal.len)

-- what is read or refused is one character at least, and no more than the text
abbrev pub IsWithin : Text → Result Lexeme Refusal → Type 0
IsWithin z r = MatchResult r (λ lexeme. (1 ≤ lexeme.len) × (lexeme.len ≤ length z)) (λ refusal. (1 ≤ refusal.len) × (refusal.len ≤ length z))

-- ---- characters by their names

abbrev pub line_feed : ℕ
line_feed = 10

abbrev pub double_quote : ℕ
double_quote = 34

abbrev pub single_quote : ℕ
single_quote = 39

abbrev pub backslash : ℕ
backslash = 92

abbrev pub underscore : ℕ
underscore = 95

-- ---- fronts

-- the text begins with this mark
abbrev pub begins : Text → Text → Bool
begins mark z = starts_with nat_eq z mark

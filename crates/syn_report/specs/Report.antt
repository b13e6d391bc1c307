-- What is shown of a place in a text, and reported of a refusal.
use Rattle.std.specs.Prelude.{◌≡◌, ℕ, ◌+◌, ◌-◌, ◌^◌, ◌==◌, min, max, Bool, true, false, if◌then◌else◌, List, [], ◌++◌, length, take, map, replicate, codes, decimal, encode_utf8_all}
use Rattle.std.specs.List.{list_any, prefix_len, suffix_len}
use Rattle.syn_tokens.specs.ErrorText.{kind_text}
use Rattle.syn_tokens.specs.declared.error.Error.{Error}
use Rattle.syn_tokens.specs.declared.error.ErrorKind.{ErrorKind}
use Rattle.syn_tokens.specs.declared.error.ErrorKind.TheVariants as kind
use Rattle.syn_tokens.specs.declared.tree.Span.{Span}
use Rattle.syn_report.specs.Place.{before, behind, first_line, from_line, is_operator, line_column}
use Rattle.syn_report.specs.declared.place.LineColumn.{LineColumn}

-- ---- a place

-- the greatest `usize` where it is passed
abbrev pub added : ℕ → ℕ → ℕ
added a b = min (a + b) (2 ^ 64 - 1)

-- how a character of the line is shown: `\r` as a space
abbrev pub shown : ℕ → ℕ
shown c = if c == 13 then 32 else c

-- what stands below a character before the place: a tab below a tab
abbrev pub blank : ℕ → ℕ
blank c = if c == 9 then 9 else 32

-- as wide as the number of the line
abbrev pub margin : ℕ → List ℕ
margin line = encode_utf8_all (replicate (length (decimal line)) 32)

-- how many characters of a span are on its first line, if this text is behind its start
abbrev pub marked_len : Span → List ℕ → ℕ
marked_len s rest = min (length (before (s.hi - s.lo) rest)) (length (first_line rest))

-- the title, the message and the place
abbrev pub heading : List ℕ → LineColumn → List ℕ → List ℕ → List ℕ
heading side at title message = title ++ (codes ": " ++ (message ++ (codes "\n" ++ (side ++ (codes "--> " ++ (decimal at.line ++ (codes ":" ++ decimal (at.column + 1))))))))

-- The line of a place, and below it a caret for each character of the place, but one at least. `line_text` is the text from the
-- start of the line on, `rest` that from the place on.
abbrev pub quoted : List ℕ → ℕ → ℕ → List ℕ → List ℕ → Span → List ℕ
quoted side line column line_text rest s =
    let source = encode_utf8_all (map shown (first_line line_text)) in
    let below = encode_utf8_all (map blank (take column line_text)) in
    let carets = encode_utf8_all (replicate (max (marked_len s rest) 1) 94) in
    side ++ (codes " |\n" ++ (decimal line ++ (codes " | " ++ (source ++ (codes "\n" ++ (side ++ (codes " | " ++ (below ++ carets))))))))

-- a place of a text that has so many lines before it
abbrev pub numbered : ℕ → LineColumn → LineColumn
numbered lines at = record { line = added at.line lines; column = at.column }

abbrev pub picture : ℕ → List ℕ → Span → List ℕ → List ℕ → List ℕ
picture lines cs s title message =
    let at = numbered lines (line_column s.lo cs) in
    heading (margin at.line) at title message ++ (codes "\n" ++ quoted (margin at.line) at.line at.column (from_line s.lo cs) (behind s.lo cs) s)

-- ---- a refusal

-- the operator that a text begins with
abbrev pub operator : List ℕ → List ℕ
operator cs = take (prefix_len is_operator cs) cs

-- the span of the whole operator in which a span begins
abbrev pub whole : List ℕ → Span → Span
whole cs s =
    let len = length (operator (behind s.lo cs)) in
    record { lo = s.lo - (if len == 0 then 0 else suffix_len is_operator (before s.lo cs)); hi = max s.hi (added s.lo len) }

-- the refusals that are about the token that was found
abbrev pub is_of_token : ErrorKind → Bool
is_of_token kind.ExpectedExpression = true
is_of_token kind.ExpectedBinaryOperator = true
is_of_token kind.ExpectedLoopOrBlock = true
is_of_token kind.ExpectedCommaOrSemi = true
is_of_token kind.ExpectedMember = true
is_of_token kind.ExpectedUnsuffixedInteger = true
is_of_token (kind.ExpectedToken wanted) = true
is_of_token (kind.ExpectedPart part) = true
is_of_token kind.UnexpectedToken = true
is_of_token _ = false

abbrev pub is_opening : ℕ → Bool
is_opening c = list_any (λ p. c == p) (codes "([{")

abbrev pub opens : List ℕ → Bool
opens cs = list_any is_opening (take 1 cs)

-- what is marked, of a group its opening delimiter
abbrev pub marked : List ℕ → Span → List ℕ
marked cs s =
    let rest = behind s.lo cs in
    encode_utf8_all (map shown (take (if opens rest then min (marked_len s rest) 1 else marked_len s rest) rest))

-- what is said after the carets
abbrev pub found : ErrorKind → List ℕ → List ℕ
found k token = if is_of_token k then (if length token == 0 then codes " found the end" else codes " found `" ++ (token ++ codes "`")) else []

abbrev pub refused : ℕ → List ℕ → Span → ErrorKind → List ℕ
refused lines cs s k = picture lines cs s (codes "error") (kind_text k) ++ found k (marked cs s)

-- a text on lines of its own, or nothing
abbrev pub below : List ℕ → List ℕ
below text = if length text == 0 then [] else codes "\n" ++ text

-- a note, and what to write instead
abbrev pub AreFurther : List ℕ → Type 0
AreFurther bytes = (note help : List ℕ) × (bytes ≡ below note ++ below help)

-- The refusal at its place, and below it what else helps: the other end of a delimiter, and what to write instead.
abbrev pub report : ℕ → List ℕ → Error → List ℕ → List ℕ
report lines cs e further = refused lines cs (whole cs e.span) e.kind ++ further

abbrev pub IsReport : ℕ → List ℕ → Error → List ℕ → Type 0
IsReport lines cs e bytes = (further : List ℕ) × AreFurther further × (bytes ≡ report lines cs e further)

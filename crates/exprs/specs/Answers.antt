-- What is written for each expression of a text.
use Rattle.std.specs.Prelude.{◌≡◌, ◌⊎◌, ℕ, ◌≤◌, ◌==◌, Bool, true, false, ◌&&◌, nat_lt, if◌then◌else◌, List, [], ◌∷◌, ◌++◌, length, Option, codes, decimal, chars}
use Rattle.std.specs.List.{count_by}
use Rattle.std.specs.Str.{IsUtf8, trim}
use Rattle.std.specs.Io.KnownBytes.{Appends}
use Rattle.syn_tokens.specs.declared.error.Error.{Error}
use Rattle.syn_tokens.specs.declared.error.ErrorKind.TheVariants.{OutOfMemory}
use Rattle.syn_report.specs.Report.{added, report, AreFurther}
use Rattle.syn_expr.specs.Texts.{NothingStands}
use Rattle.exprs.specs.Kinds.{counted}
use Rattle.exprs.specs.Line.{Position, IsLine}

-- what becomes of a part of the text: nothing where it is blank, a kind and a line, or a refusal with what is below its picture
pub data Outcome : Type 0 where
  blank : Outcome
  printed : ℕ → List ℕ → Outcome
  refused : Error → List ℕ → Outcome

abbrev pub is_read : Outcome → Bool
is_read (refused e further) = false
is_read _ = true

-- a line, where the kinds are counted nothing
abbrev pub line_unless : Bool → List ℕ → List ℕ
line_unless false bytes = bytes
line_unless true bytes = []

-- what is written of it to the output
abbrev pub line : Bool → Outcome → List ℕ
line kinds (printed kind bytes) = line_unless kinds bytes
line kinds _ = []

-- how many there are of each kind after it
abbrev pub tallied : Outcome → List ℕ → List ℕ
tallied (printed kind bytes) ns = counted kind ns
tallied _ ns = ns

-- ---- refusals, at their place in the whole file

-- The report of a refusal of a part, which has so many lines before it.
abbrev pub refusal : List ℕ → ℕ → List ℕ → Error → List ℕ → List ℕ
refusal name lines part e further = name ++ codes ": " ++ report lines (chars part) e further ++ codes "\n"

abbrev pub IsRefusal : List ℕ → ℕ → List ℕ → Error → List ℕ → Type 0
IsRefusal name lines part e bytes = (further : List ℕ) × AreFurther further × (bytes ≡ refusal name lines part e further)

-- what is written of it to the errors, where the file has this name
abbrev pub report_of : List ℕ → ℕ → List ℕ → Outcome → List ℕ
report_of name lines part (refused e further) = refusal name lines part e further
report_of name lines part _ = []

-- how many lines end in a text
abbrev pub line_ends : List ℕ → ℕ
line_ends bytes = count_by (λ b. b == 10) bytes

-- ---- what is written, where the bytes that a writer holds are known

pub record Writer : Type 0 where
  pub before : Option (List ℕ)
  pub after : Option (List ℕ)

abbrev pub writer : Option (List ℕ) → Option (List ℕ) → Writer
writer held holds = record { before = held; after = holds }

-- what a run over a part or more has: the output, the errors, and the counts of kinds before and after
pub record Room : Type 0 where
  pub output : Writer
  pub errors : Writer
  pub held : List ℕ
  pub holds : List ℕ

abbrev pub room : Writer → Writer → List ℕ → List ℕ → Room
room output errors held holds = record { output = output; errors = errors; held = held; holds = holds }

abbrev pub Takes : Writer → List ℕ → Type 0
Takes w bytes = Appends w.before w.after bytes

abbrev pub TakesRefusal : List ℕ → ℕ → List ℕ → Error → Writer → Type 0
TakesRefusal name lines part e w = (further : List ℕ) × AreFurther further × Takes w (refusal name lines part e further)

-- ---- the parts of a text

-- the text of a file, and how it is read and printed
pub record Source : Type 0 where
  pub position : Position
  pub bare : Bool
  pub dump : Bool
  pub tidy : Bool
  pub kinds : Bool
  pub separator : List ℕ
  pub name : List ℕ
  pub whole : List ℕ

abbrev pub separator : Bool → List ℕ
separator false = codes "\n"
separator true = codes "\n\n"

-- no separator is in it
abbrev pub HasNone : List ℕ → List ℕ → Type 0
HasNone sep bytes = (xs ys : List ℕ) → bytes ≡ xs ++ (sep ++ ys) → ⊥

-- the first separator is after this front, and before this rest
abbrev pub CutsFirst : List ℕ → List ℕ → List ℕ → List ℕ → Type 0
CutsFirst sep bytes front rest = (bytes ≡ front ++ (sep ++ rest)) × ((xs ys : List ℕ) → bytes ≡ xs ++ (sep ++ ys) → length front ≤ length xs)

abbrev pub CutBy : List ℕ → List ℕ → List (List ℕ) → Type 0
CutBy sep bytes [] = ⊥
CutBy sep bytes (p ∷ []) = (bytes ≡ p) × HasNone sep bytes
CutBy sep bytes (p ∷ q ∷ more) = (rest : List ℕ) × CutsFirst sep bytes p rest × CutBy sep rest (q ∷ more)

-- An expression is refused only where none stands, unless memory runs out.
abbrev pub Follows : Source → List ℕ → Outcome → Type 0
Follows src part blank = trim part ≡ []
Follows src part (printed kind line) = IsLine src.dump src.tidy src.position src.bare (chars part) kind line
Follows src part (refused e further) = AreFurther further × ((e.kind ≡ OutOfMemory) ⊎ NothingStands (chars part))

-- a part with so many lines before it, and what becomes of it
abbrev pub Writes : Source → ℕ → List ℕ → Bool → Room → Type 0
Writes src lines_before part b room =
    (o : Outcome) × Follows src part o × (b ≡ is_read o)
    × Takes room.output (line src.kinds o) × Takes room.errors (report_of src.name lines_before part o) × (room.holds ≡ tallied o room.held)

-- the same of parts, one after the other
abbrev pub FollowEach : Source → List (List ℕ) → List Outcome → Type 0
FollowEach src [] [] = Unit {0}
FollowEach src (p ∷ ps) (o ∷ os) = Follows src p o × FollowEach src ps os
FollowEach src _ _ = ⊥

abbrev pub all_read : List Outcome → Bool
all_read [] = true
all_read (o ∷ os) = is_read o && all_read os

abbrev pub lines : Bool → List Outcome → List ℕ
lines kinds [] = []
lines kinds (o ∷ os) = line kinds o ++ lines kinds os

abbrev pub all_tallied : List Outcome → List ℕ → List ℕ
all_tallied [] ns = ns
all_tallied (o ∷ os) ns = all_tallied os (tallied o ns)

abbrev pub reports : Source → ℕ → List (List ℕ) → List Outcome → List ℕ
reports src n (p ∷ ps) (o ∷ os) = report_of src.name n p o ++ reports src (added n (added (line_ends p) (line_ends src.separator))) ps os
reports src n _ _ = []

-- Each part of the text has its answer, in their order, and nothing else is written. The Bool says whether none was refused.
abbrev pub WritesAll : Source → Bool → Room → Type 0
WritesAll src b room =
    (parts : List (List ℕ)) × (os : List Outcome) × CutBy src.separator src.whole parts × FollowEach src parts os
    × (b ≡ all_read os) × Takes room.output (lines src.kinds os) × Takes room.errors (reports src 0 parts os) × (room.holds ≡ all_tallied os room.held)

-- ---- a file

-- a line, or nothing where it is blank
abbrev pub without_blanks : List ℕ → List ℕ
without_blanks line = if length (trim line) == 0 then [] else line

-- lines with `\n` between them, those that are blank empty
abbrev pub joined : List (List ℕ) → List ℕ
joined [] = []
joined (l ∷ []) = without_blanks l
joined (l ∷ m ∷ ls) = without_blanks l ++ (codes "\n" ++ joined (m ∷ ls))

abbrev pub HasEmptyLines : List ℕ → List ℕ → Type 0
HasEmptyLines bytes text = (ls : List (List ℕ)) × CutBy (codes "\n") bytes ls × (text ≡ joined ls)

-- the text that is cut into parts: in blocks that with empty lines
abbrev pub IsPrepared : Bool → List ℕ → List ℕ → Type 0
IsPrepared false bytes text = text ≡ bytes
IsPrepared true bytes text = HasEmptyLines bytes text

-- each part of this text has its answer, in blocks or not
abbrev pub WritesText : Bool → Source → Bool → Room → Type 0
WritesText blocks src b room = (text : List ℕ) × IsPrepared blocks src.whole text × WritesAll (record src { whole = text }) b room

abbrev pub not_utf8 : List ℕ → List ℕ
not_utf8 name = name ++ codes ": input is not UTF-8\n"

-- the same of a file with these bytes, in blocks or not
abbrev pub WritesFile : Bool → Source → Bool → Room → Type 0
WritesFile blocks src b room =
    (IsUtf8 src.whole × WritesText blocks src b room)
    ⊎ ((IsUtf8 src.whole → ⊥) × (b ≡ false) × (room.output.after ≡ room.output.before) × Takes room.errors (not_utf8 src.name) × (room.holds ≡ room.held))

-- ---- counts of kinds

-- a line for a kind that was counted
abbrev pub count_line : ℕ → List ℕ → List ℕ
count_line n name = if nat_lt 0 n then decimal n ++ codes " " ++ name ++ codes "\n" else []

abbrev pub count_lines : List ℕ → List (List ℕ) → List ℕ
count_lines (n ∷ counts) (name ∷ names) = count_line n name ++ count_lines counts names
count_lines _ _ = []

-- Where in a text, as characters, an offset is, which counts its bytes in UTF-8.
use Rattle.std.specs.Prelude.{ℕ, ◌+◌, ◌-◌, Bool, nat_le, ◌==◌, if◌then◌else◌, List, [], ◌∷◌, ◌++◌, length, drop, codes}
use Rattle.std.specs.Char.{len_utf8}
use Rattle.std.specs.List.{count_by, before_first, after_last, list_any}
use Rattle.syn_report.specs.declared.place.LineColumn.{LineColumn}

-- the characters that end at the offset or before it
abbrev pub before : ℕ → List ℕ → List ℕ
before offset [] = []
before offset (c ∷ cs) = if nat_le (len_utf8 c) offset then c ∷ before (offset - len_utf8 c) cs else []

-- those after them
abbrev pub behind : ℕ → List ℕ → List ℕ
behind offset cs = drop (length (before offset cs)) cs

-- `\n`
abbrev pub ends_line : ℕ → Bool
ends_line c = c == 10

abbrev pub first_line : List ℕ → List ℕ
first_line cs = before_first ends_line cs

abbrev pub last_line : List ℕ → List ℕ
last_line cs = after_last ends_line cs

-- lines from 1, columns from 0
abbrev pub line_column : ℕ → List ℕ → LineColumn
line_column offset cs = record { line = 1 + count_by ends_line (before offset cs); column = length (last_line (before offset cs)) }

-- the text from the start of the offset's line on
abbrev pub from_line : ℕ → List ℕ → List ℕ
from_line offset cs = last_line (before offset cs) ++ behind offset cs

-- the characters of operators (Rust Reference, "Operator expressions") but `/`, with which comments begin and end
abbrev pub is_operator : ℕ → Bool
is_operator c = list_any (λ p. c == p) (codes "+-*%^!&|=<>")

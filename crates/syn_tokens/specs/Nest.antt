-- What a lexer has read, with the groups that are still open.
use Rattle.std.specs.Prelude.{◌≢◌, ◌<◌, ℕ, List, [], ◌∷◌, ◌++◌, length, drop, map}
use Rattle.syn_lexer.specs.declared.front.Delimiter.{Delimiter}
use Rattle.syn_lexer.specs.declared.front.LexemeKind.{LexemeKind}
use Rattle.syn_lexer.specs.declared.front.LexemeKind.TheVariants as kind
use Rattle.syn_tokens.specs.Tok.{Tok}
use Rattle.syn_tokens.specs.Lex.{Piece, opens, flat}
use Rattle.syn_tokens.specs.declared.lexer.Open as code
use Rattle.syn_tokens.specs.declared.lexer.Nest.{Nest}

-- a group that is open, after these trees
abbrev pub Open : Type 0
Open = Delimiter × List Tok

abbrev pub opened : List Open → List Piece
opened [] = []
opened (o ∷ os) = flat o.1 ++ opens o.0 ∷ opened os

-- the pieces that were read
abbrev pub unfinished : List Open → List Tok → List Piece
unfinished os ts = opened os ++ flat ts

abbrev pub open_of : code.Open → Open
open_of o = (o.delimiter, o.before)

-- the pieces that a nest has read
abbrev pub nest_pieces : Nest → List Piece
nest_pieces n = unfinished (map open_of n.open.items) n.current

-- the delimiters of open groups, the innermost first, before those that are open around them
abbrev pub delimiters : List Open → List Delimiter → List Delimiter
delimiters [] st = st
delimiters (o ∷ os) st = delimiters os (o.0 ∷ st)

-- the delimiters that are open in a nest, the innermost first
abbrev pub delimiters_of : Nest → List Delimiter
delimiters_of n = delimiters (map open_of n.open.items) []

-- where open groups begin, the innermost first, before where those around them begin
abbrev pub places : List code.Open → List ℕ → List ℕ
places [] ps = ps
places (o ∷ os) ps = places os (o.at ∷ ps)

-- where the open groups of a nest begin, the innermost first
abbrev pub places_of : Nest → List ℕ
places_of n = places n.open.items []

-- where the open groups begin after a lexeme that is at this place
abbrev pub places_behind : LexemeKind → ℕ → List ℕ → List ℕ
places_behind (kind.Open d) at ps = at ∷ ps
places_behind (kind.Close d) at ps = drop 1 ps
places_behind _ at ps = ps

-- at each of these places is a byte of the text
abbrev pub BeginWithin : List ℕ → List ℕ → Type 0
BeginWithin text [] = Unit {0}
BeginWithin text (p ∷ ps) = (p < length text) × BeginWithin text ps

-- no trees have pieces that begin so
abbrev pub misfits : List Piece → Type 0
misfits ps = (more : List Piece) (ts : List Tok) → ps ++ more ≢ flat ts

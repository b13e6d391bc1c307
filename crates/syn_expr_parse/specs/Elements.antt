-- A list of elements, after those that were read of it.
use Rattle.std.specs.Prelude.{if◌then◌else◌, List, [], ◌∷◌, drop, Some}
use Rattle.syn_tokens.specs.Front.{is_empty}
use Rattle.syn_lower_spec.specs.Form.{and_then}
use Rattle.syn_lower_spec.specs.Mark.{semi}
use Rattle.syn_expr_spec.specs.Tree as e
use Rattle.syn_expr_spec.specs.Tree.{Tree, Children, Ending, frame, none, child}
use Rattle.syn_expr_spec.specs.Place.{plain}
use Rattle.syn_expr_spec.specs.Slot as s
use Rattle.syn_expr_spec.specs.Slot.{comma_or_end}
use Rattle.syn_expr_spec.specs.Read.{Reading, expr, bare_operands}

-- elements, each before a comma, before others
abbrev pub before : List Tree → Children → Children
before [] ks = ks
before (x ∷ xs) ks = child e.element e.comma x (before xs ks)

-- after elements that were read, each with its comma
unfoldable pub gathered : List Tree → Reading Children
gathered xs l = and_then (bare_operands expr s.elements l) (λ ks o. Some (before xs ks, o))

-- an element, and the comma after it or none
unfoldable pub element : Reading (Ending × Tree)
element l = and_then (expr plain l) (λ x m. and_then (comma_or_end m) (λ c n. Some ((c, x), n)))

-- the elements of an array after the first expression in its brackets
unfoldable pub behind_first : Tree → Reading Children
behind_first x l = and_then (comma_or_end l) (λ c n. and_then (bare_operands expr s.elements n) (λ ks o. Some (child e.element c x ks, o)))

-- an expression alone, in its delimiters
unfoldable pub single : Reading Children
single l = and_then (expr plain l) (λ x n. Some (child e.value e.no_ending x none, n))

-- what is in brackets: nothing, one expression for each element and how many there are, or the elements
unfoldable pub bracketed : Reading Tree
bracketed l =
    if is_empty l then Some (frame e.array none, l) else and_then (expr plain l) (λ x m.
    if semi.at m then and_then (single (drop 1 m)) (λ ks n. Some (frame e.repeat (child e.repeated e.no_ending x ks), n))
    else and_then (behind_first x m) (λ ks n. Some (frame e.array ks, n)))

-- Paths that are one word.
use Rattle.std.specs.Prelude.{false, ◌||◌, if◌then◌else◌, List, [], ◌∷◌, Option, Some, None}
use Rattle.syn_lower_spec.specs.Part.{has_none}
use Rattle.syn_lower_spec.specs.Text.{Text}
use Rattle.syn_lower_spec.specs.Tree.{SegmentTree, PathTree, no_arguments}

abbrev pub plain_word : SegmentTree → Option Text
plain_word s = if has_none s.arguments then Some s.ident else None

abbrev pub sole_word : List SegmentTree → Option Text
sole_word [] = None
sole_word (s ∷ []) = plain_word s
sole_word (s ∷ r ∷ more) = None

-- the word that a path is, if it is a single segment without `::` and without arguments
abbrev pub word_of : PathTree → Option Text
word_of p = if p.leading || p.trailing then None else sole_word p.segments

-- the path that is this word
abbrev pub one_word : Text → PathTree
one_word w = record { leading = false; segments = record { ident = w; arguments = no_arguments } ∷ []; trailing = false }

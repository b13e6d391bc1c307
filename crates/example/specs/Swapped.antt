-- What becomes of a text: its expression with the operands swapped (Rust Reference, "Operator expressions").
use Rattle.std.specs.Prelude.{ℕ, List}
use Rattle.syn_expr.specs.Infix as inf
use Rattle.syn_expr.specs.Prelude.{in_plain, Tree, attributed, infixed, IsTextOf, StandsFor}

-- An operation, after its attributes, has its operands swapped; anything else stays.
abbrev pub swapped_tree : Tree → Tree
swapped_tree (attributed a more t) = attributed a more (swapped_tree t)
swapped_tree (infixed x (inf.Binary k) y) = infixed y (inf.Binary k) x
swapped_tree t = t

-- Some tree stands for the text, and `bytes` is the text of this tree with the operands swapped.
abbrev pub IsSwapped : List ℕ → List ℕ → Type 0
IsSwapped cs bytes = (t : Tree) × StandsFor cs t × IsTextOf in_plain (swapped_tree t) bytes

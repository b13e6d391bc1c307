-- What is printed for an expression.
use Rattle.std.specs.Prelude.{◌≡◌, ℕ, Bool, true, false, List, [], ◌∷◌, ◌++◌}
pub use Rattle.syn_expr_spec.specs.Printed.{Position}
use Rattle.syn_expr_spec.specs.Tree.{Tree, flatten}
use Rattle.syn_expr.specs.Promises.{IsTextOf, IsLaidOut}
use Rattle.syn_expr.specs.Texts.{StandsFor}
use Rattle.exprs.specs.Kinds.{kind_of}

-- the tree that is printed of one: with `bare` the same without its parentheses
abbrev pub meant : Bool → Tree → Tree
meant false t = t
meant true t = flatten t

-- the text that is promised of a tree where it is printed in the position, and a newline after it
abbrev pub IsPrinted : Position → Tree → List ℕ → Type 0
IsPrinted s t bytes = (cs : List ℕ) × IsTextOf s t cs × (bytes ≡ cs ++ 10 ∷ [])

-- The tokens that are printed for the tree in this position, with white space that keeps them apart: `a.b(&x)`. A newline follows.
abbrev pub IsTidied : Position → Tree → List ℕ → Type 0
IsTidied s t bytes = (cs : List ℕ) × IsLaidOut s t cs × (bytes ≡ cs ++ 10 ∷ [])

-- One of these, unless the tree is shown: of what is written then nothing is promised.
abbrev pub IsLineOf : Bool → Bool → Position → Tree → List ℕ → Type 0
IsLineOf false false s t bytes = IsPrinted s t bytes
IsLineOf false true s t bytes = IsTidied s t bytes
IsLineOf true tidy s t bytes = Unit {0}

-- A tree of this kind stands for the text, and this is its line: that of the tree, or of it without its parentheses.
abbrev pub IsLine : Bool → Bool → Position → Bool → List ℕ → ℕ → List ℕ → Type 0
IsLine dump tidy s bare cs kind bytes = (t : Tree) × StandsFor cs t × (kind ≡ kind_of t) × IsLineOf dump tidy s (meant bare t) bytes

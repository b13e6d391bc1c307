-- Comparisons of a value with itself (Rust Reference, "Comparison operators").
use Rattle.std.specs.Prelude.{◌≡◌, ◌↔◌, ℕ, Bool, true, List}
use Rattle.syn_expr.specs.Infix as inf
use Rattle.syn_expr.specs.Precedence as lev
use Rattle.syn_expr.specs.Prelude.{binary_level, Tree, attributed, infixed, StandsFor}

-- After its attributes it is a comparison, and the same is on both sides.
abbrev pub ComparesWithItself : Tree → Type 0
ComparesWithItself (attributed a more t) = ComparesWithItself t
ComparesWithItself (infixed x (inf.Binary k) y) = (binary_level k ≡ lev.Compare) × (x ≡ y)
ComparesWithItself _ = ⊥

-- Some tree stands for the text, and this is whether it compares a value with itself.
abbrev pub IsVerdictOn : List ℕ → Bool → Type 0
IsVerdictOn cs b = (t : Tree) × StandsFor cs t × ((b ≡ true) ↔ ComparesWithItself t)

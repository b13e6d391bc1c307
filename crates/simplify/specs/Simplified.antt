-- Negated comparisons (Rust Reference, "Negation operators" and "Comparison operators").
use Rattle.std.specs.Prelude.{ℕ, List, [], Bool, true, false}
use Rattle.syn_expr.specs.BinKind as bin
use Rattle.syn_expr.specs.Infix as inf
use Rattle.syn_expr.specs.UnKind as un
use Rattle.syn_expr.specs.Prelude.{AttributeTree, BinKind, UnKind, Tree, prefixed, unary, infixed, in_plain, IsFlat, IsTextOf, StandsFor}
use Rattle.syn_visit_kinds.specs.Nodes.{rewrite_tree}

-- `!(a == b)` without its parentheses becomes `a != b`. Anything else stays.
abbrev pub simplified : Tree → Tree
simplified (prefixed (unary un.Not) guards (infixed x (inf.Binary bin.Eq) y)) = infixed x (inf.Binary bin.Ne) y
simplified t = t

-- Some tree stands for the text. Its parentheses are taken away, and each of its nodes is simplified, those inside first.
-- `bytes` is the text of the tree that is left.
abbrev pub IsSimplified : List ℕ → List ℕ → Type 0
IsSimplified cs bytes = (t flat : Tree) × StandsFor cs t × IsFlat t flat × IsTextOf in_plain (rewrite_tree simplified flat) bytes

-- ---- in a step

-- whether the operator k after the attributes ats, before the operation op after the attributes more, makes `!(a == b)`
abbrev pub negates : List AttributeTree → UnKind → List AttributeTree → BinKind → Bool
negates [] un.Not [] bin.Eq = true
negates _ _ _ _ = false

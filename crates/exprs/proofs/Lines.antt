-- What is printed of an expression.
use Rattle.std.proofs.Common.{◌≡◌, ℕ, Bool, true, false, List, subst}
use Rattle.syn_expr_spec.specs.Tree.{Tree}
use Rattle.syn_expr_flatten.specs.Flat.{IsFlat}
use Rattle.syn_expr.specs.Texts.{StandsFor}
use Rattle.exprs.specs.Kinds.{kind_of}
use Rattle.exprs.specs.Line.{Position, IsLine, IsLineOf, meant}

pub bare_meant : (bare : Bool) (t u : Tree) → bare ≡ true → IsFlat t u → u ≡ meant bare t
unfolding IsFlat
bare_meant true t u e flat = flat
bare_meant false t u e flat = absurd cc

pub line_is : (dump tidy : Bool) (s : Position) (bare : Bool) (cs : List ℕ) (t u : Tree) (kind : ℕ) (bytes : List ℕ) → StandsFor cs t → kind ≡ kind_of t → u ≡ meant bare t
    → IsLineOf dump tidy s u bytes → IsLine dump tidy s bare cs kind bytes
line_is dump tidy s bare cs t u kind bytes stands same_kind same line = (t, stands, same_kind, subst (λ (v : Tree). IsLineOf dump tidy s v bytes) same line)

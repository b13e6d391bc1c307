-- Of the kinds of expressions `Binary` alone has a binary operation as its tree.
use Rattle.std.proofs.Common.{◌≡◌, Bool, true, false, refl}
use Rattle.syn_expr_spec.specs.declared.kinds.Infix.TheVariants as inf
use Rattle.syn_expr_spec.specs.Tree.{Tree, attributed, infixed}
use Rattle.syn_expr_ast.specs.declared.operation.ExprBinaryOf.{ExprBinaryOf}
use Rattle.syn_expr_core.specs.declared.expr.Expr.{Expr}
use Rattle.syn_expr_core.specs.declared.expr.Expr.TheVariants as ex
use Rattle.syn_expr_core.specs.View.{tree_of}
use Rattle.syn_expr.proofs.OtherKinds.{kind_of, other, k-Binary, in-Binary}

-- It is a binary operation, after its attributes.
abbrev pub is_binary : Tree → Bool
is_binary (attributed a more t) = is_binary t
is_binary (infixed x (inf.Binary k) y) = true
is_binary _ = false

other_kind : (t : Tree) → (kind_of t ≡ k-Binary → ⊥) → is_binary t ≡ false
other_kind (attributed a more t) none = other_kind t none
other_kind (infixed x (inf.Binary k) y) none = absurd (none refl)
other_kind _ none = refl

pub no_binary : (x : Expr) → ((b : ExprBinaryOf Expr) → x ≡ ex.Binary b → ⊥) → is_binary (tree_of x) ≡ false
no_binary x none = other_kind (tree_of x) (other in-Binary x none)

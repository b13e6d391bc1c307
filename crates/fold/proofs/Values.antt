-- The value of each kind, and that the others have none.
use Rattle.std.proofs.Common.{◌≡◌, false, List, [], ◌∷◌, refl, ap, ◌∙◌, None}
use Rattle.std.specs.Prelude.{option_and_then}
use Rattle.syn_expr.specs.Prelude.{AttributeTree, Tree, attributed_with, attributed, leaf, lit, paren, prefixed, unary, infixed, none, lit_of, bin_kind, un_kind, ExprLit, ExprParenOf, ExprBinaryOf, ExprUnaryOf, attrs_of, Expr, tree_of}
use Rattle.syn_expr.specs.Infix as inf
use Rattle.syn_expr.specs.Expr as ex
use Rattle.syn_expr.proofs.TreeOf.{tree-Lit, tree-Paren, tree-Unary, tree-Binary}
use Rattle.syn_expr.proofs.OtherKinds.{kind_of, other, k-Lit, k-Paren, k-Unary, k-Binary, in-Lit, in-Paren, in-Unary, in-Binary}
use Rattle.fold.specs.Fold.{literal_value, prefix_value, binary_value, combined, value_of}

-- ---- those that may have a value

behind : (ats : List AttributeTree) (t : Tree) → value_of (attributed_with ats t) ≡ value_of t
behind [] t = refl
behind (a ∷ more) t = refl

pub value-Lit : (x : ExprLit) → value_of (tree_of (ex.Lit x)) ≡ literal_value (lit_of x.lit)
value-Lit x = ap value_of (tree-Lit x) ∙ behind (attrs_of x.attrs) (leaf (lit (lit_of x.lit)))

pub value-Paren : (x : ExprParenOf Expr) → value_of (tree_of (ex.Paren x)) ≡ value_of (tree_of x.expr.value)
value-Paren x = ap value_of (tree-Paren x) ∙ behind (attrs_of x.attrs) (paren false (tree_of x.expr.value))

pub value-Unary : (x : ExprUnaryOf Expr) → value_of (tree_of (ex.Unary x)) ≡ option_and_then (prefix_value (un_kind x.op)) (value_of (tree_of x.expr.value))
value-Unary x = ap value_of (tree-Unary x) ∙ behind (attrs_of x.attrs) (prefixed (unary (un_kind x.op)) none (tree_of x.expr.value))

pub value-Binary : (x : ExprBinaryOf Expr) → value_of (tree_of (ex.Binary x)) ≡ combined (binary_value (bin_kind x.op)) (value_of (tree_of x.left.value)) (value_of (tree_of x.right.value))
value-Binary x = ap value_of (tree-Binary x) ∙ behind (attrs_of x.attrs) (infixed (tree_of x.left.value) (inf.Binary (bin_kind x.op)) (tree_of x.right.value))

pub ruleset kinds = (value-Lit, value-Paren, value-Unary, value-Binary)

-- ---- the others

other_value : (t : Tree) → (kind_of t ≡ k-Lit → ⊥) → (kind_of t ≡ k-Paren → ⊥) → (kind_of t ≡ k-Unary → ⊥) → (kind_of t ≡ k-Binary → ⊥) → None ≡ value_of t
other_value (leaf (lit x)) not_lit not_paren not_unary not_binary = absurd (not_lit refl)
other_value (paren m t) not_lit not_paren not_unary not_binary = absurd (not_paren refl)
other_value (attributed a more t) not_lit not_paren not_unary not_binary = other_value t not_lit not_paren not_unary not_binary
other_value (prefixed (unary k) gs t) not_lit not_paren not_unary not_binary = absurd (not_unary refl)
other_value (infixed x (inf.Binary k) y) not_lit not_paren not_unary not_binary = absurd (not_binary refl)
other_value _ not_lit not_paren not_unary not_binary = refl

pub no_value : (x : Expr) → ((y : ExprLit) → x ≡ ex.Lit y → ⊥) → ((y : ExprParenOf Expr) → x ≡ ex.Paren y → ⊥) → ((y : ExprUnaryOf Expr) → x ≡ ex.Unary y → ⊥)
    → ((y : ExprBinaryOf Expr) → x ≡ ex.Binary y → ⊥) → None ≡ value_of (tree_of x)
no_value x not_lit not_paren not_unary not_binary =
    other_value (tree_of x) (other in-Lit x not_lit) (other in-Paren x not_paren) (other in-Unary x not_unary) (other in-Binary x not_binary)

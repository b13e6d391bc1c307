use Rattle.std.proofs.Common.{◌≡◌, if◌then◌else◌, List, [], refl, ap, ◌∙◌, arith}
use Rattle.syn_expr.specs.BinKind as bin
use Rattle.syn_expr.specs.Expr as ex
use Rattle.syn_expr.specs.Infix as inf
use Rattle.syn_expr.specs.UnKind as un
use Rattle.syn_expr.specs.Prelude.{AttributeTree, BinKind, Tree, UnKind, attributed_with, infixed, none, prefixed, tree_of, unary}
use Rattle.syn_expr.proofs.TreeOf.{tree-Binary, tree-Unary}
use Rattle.syn_expr.proofs.OtherKinds.{kind_of, k-Binary, k-Unary, other, in-Binary, in-Unary}
use Rattle.simplify.specs.Simplified.{negates, simplified}
use Rattle.simplify.proofs.simplify.Goals as goal

of_comparison : (ats : List AttributeTree) (k : UnKind) (more : List AttributeTree) (op : BinKind) (x y : Tree)
    → simplified (attributed_with ats (prefixed (unary k) none (attributed_with more (infixed x (inf.Binary op) y))))
    ≡ (if negates ats k more op then attributed_with more (infixed x (inf.Binary bin.Ne) y) else attributed_with ats (prefixed (unary k) none (attributed_with more (infixed x (inf.Binary op) y))))
of_comparison [] un.Not [] bin.Eq x y = refl
of_comparison _ _ _ _ x y = refl

of_other_operand : (ats : List AttributeTree) (k : UnKind) (t : Tree) → (kind_of t ≡ k-Binary → ⊥) → attributed_with ats (prefixed (unary k) none t) ≡ simplified (attributed_with ats (prefixed (unary k) none t))
of_other_operand [] un.Not (infixed x (inf.Binary bin.Eq) y) differs = absurd (differs refl)
of_other_operand _ _ _ differs = refl

of_other_kind : (t : Tree) → (kind_of t ≡ k-Unary → ⊥) → t ≡ simplified t
of_other_kind (prefixed (unary un.Not) guards (infixed x (inf.Binary bin.Eq) y)) differs = absurd (differs refl)
of_other_kind _ differs = refl

pub returns-then-negates_equality : goal.returns-then-negates_equality
returns-then-negates_equality c =
    ap tree_of (c.replace.ensures.after ∙ c.replace-unequal.ensures.value ∙ c.deref_mut-then-negates_equality.ensures.value)
    ∙ rw (c.in-Binary.is, ex.outs-Binary c.in-Binary.equality) (tree-Binary _ ∙ grind (arith, tree-Unary, tree-Binary, of_comparison))

pub returns-else-negates_equality : goal.returns-else-negates_equality
returns-else-negates_equality c = grind (arith, tree-Unary, tree-Binary, of_comparison)

pub returns-in_default-deref_mut : goal.returns-in_default-deref_mut
returns-in_default-deref_mut c =
    let differs : kind_of (tree_of c.deref_mut.result.now) ≡ k-Binary → ⊥ = other in-Binary _ c.in_default-deref_mut.not-Binary in
    grind (arith, tree-Unary, of_other_operand)

pub returns-in_default : goal.returns-in_default
returns-in_default c = of_other_kind _ (other in-Unary _ c.in_default.not-Unary)

-- What the swap does to a tree, and what follows of a text.
use Rattle.std.proofs.Common.{◌≡◌, ℕ, false, List, [], ◌∷◌, refl, sym, ap, ◌∙◌, subst, Result, string_bytes}
use Rattle.std.proofs.lemmas.Result.{IfOk-weaker}
use Rattle.std.specs.Prelude.{IfOk, String}
use Rattle.std.specs.declared.alloc.Global.{Global}
use Rattle.syn_expr.specs.Prelude.{Error, AttributeTree, in_plain, Tree, attributed_with, attributed, infixed, bin_kind, ExprBinaryOf, attrs_of, Expr, tree_of, IsTextOf, StandsFor}
use Rattle.syn_expr.specs.Infix as inf
use Rattle.syn_expr.specs.Expr as ex
use Rattle.syn_expr.proofs.TreeOf.{tree-Binary}
use Rattle.syn_expr.proofs.Binaries.{is_binary, no_binary}
use Rattle.example.specs.Swapped.{swapped_tree, IsSwapped}

-- ---- an operation

behind : (ats : List AttributeTree) (t : Tree) → swapped_tree (attributed_with ats t) ≡ attributed_with ats (swapped_tree t)
behind [] t = refl
behind (a ∷ more) t = refl

pub exchanged : (o : ExprBinaryOf Expr) → tree_of (ex.Binary (record o { left = o.right; right = o.left })) ≡ swapped_tree (tree_of (ex.Binary o))
exchanged o =
    tree-Binary (record o { left = o.right; right = o.left })
    ∙ sym (ap swapped_tree (tree-Binary o) ∙ behind (attrs_of o.attrs) (infixed (tree_of o.left.value) (inf.Binary (bin_kind o.op)) (tree_of o.right.value)))

-- ---- anything else

stays : (t : Tree) → is_binary t ≡ false → swapped_tree t ≡ t
stays (attributed a more t) h = ap (attributed a more) (stays t h)
stays (infixed x (inf.Binary k) y) h = absurd cc
stays _ h = refl

pub left_alone : (x : Expr) → ((o : ExprBinaryOf Expr) → x ≡ ex.Binary o → ⊥) → tree_of x ≡ swapped_tree (tree_of x)
left_alone x none = sym (stays (tree_of x) (no_binary x none))

-- ---- a text

pub printed : (cs : List ℕ) (t u : Tree) (r : Result (String Global) Error) → StandsFor cs t → u ≡ swapped_tree t → IfOk r (λ s. IsTextOf in_plain u (string_bytes s)) → IfOk r (λ s. IsSwapped cs (string_bytes s))
printed cs t u r stands is = IfOk-weaker r _ _ (λ s text. (t, stands, subst (λ v. IsTextOf in_plain v (string_bytes s)) is text))

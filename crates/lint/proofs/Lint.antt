-- What an operation compares, and that nothing else compares.
use Rattle.std.proofs.Common.{◌≡◌, Bool, true, false, List, [], ◌∷◌, refl, ap, sym, subst, ◌∙◌}
use Rattle.syn_expr.specs.Prelude.{AttributeTree, binary_level, Tree, attributed_with, attributed, infixed, bin_kind, ExprBinaryOf, attrs_of, Expr, tree_of, IsEqualityOf}
use Rattle.syn_expr.specs.Infix as inf
use Rattle.syn_expr.specs.Precedence as lev
use Rattle.syn_expr.specs.Expr as ex
use Rattle.syn_expr.proofs.TreeOf.{tree-Binary}
use Rattle.syn_expr_spec.specs.declared.kinds.Precedence.{Precedence}
use Rattle.syn_expr.proofs.Binaries.{is_binary, no_binary}
use Rattle.lint.specs.Lint.{ComparesWithItself}

-- ---- an operation

behind : (ats : List AttributeTree) (t : Tree) → ComparesWithItself t → ComparesWithItself (attributed_with ats t)
behind [] t c = c
behind (a ∷ more) t c = c

without : (ats : List AttributeTree) (t : Tree) → ComparesWithItself (attributed_with ats t) → ComparesWithItself t
without [] t c = c
without (a ∷ more) t c = c

abbrev sides : ExprBinaryOf Expr → Tree
sides x = infixed (tree_of x.left.value) (inf.Binary (bin_kind x.op)) (tree_of x.right.value)

compared : (x : ExprBinaryOf Expr) → binary_level (bin_kind x.op) ≡ lev.Compare → tree_of x.left.value ≡ tree_of x.right.value → ComparesWithItself (tree_of (ex.Binary x))
compared x l e = subst ComparesWithItself (sym (tree-Binary x)) (behind (attrs_of x.attrs) (sides x) (l, e))

found : (x : ExprBinaryOf Expr) → ComparesWithItself (tree_of (ex.Binary x)) → (binary_level (bin_kind x.op) ≡ lev.Compare) × (tree_of x.left.value ≡ tree_of x.right.value)
found x c = without (attrs_of x.attrs) (sides x) (subst ComparesWithItself (tree-Binary x) c)

pub known : (x : Expr) (o : ExprBinaryOf Expr) (test : Expr → Expr → Bool) → IsEqualityOf tree_of test → x ≡ ex.Binary o → lev.Compare ≡ binary_level (bin_kind o.op)
    → (a b : Expr) → a ≡ o.left.value → b ≡ o.right.value → (r : Bool) → r ≡ test a b → r ≡ true → ComparesWithItself (tree_of x)
known x o test law is l a b ea eb r e h =
    subst (λ y. ComparesWithItself (tree_of y)) (sym is) (compared o (sym l) (ap tree_of (sym ea) ∙ (law.same a b).0 (sym e ∙ h) ∙ ap tree_of eb))

pub noticed : (x : Expr) (o : ExprBinaryOf Expr) (test : Expr → Expr → Bool) → IsEqualityOf tree_of test → x ≡ ex.Binary o
    → (a b : Expr) → a ≡ o.left.value → b ≡ o.right.value → (r : Bool) → r ≡ test a b → ComparesWithItself (tree_of x) → r ≡ true
noticed x o test law is a b ea eb r e c =
    let f = found o (subst (λ y. ComparesWithItself (tree_of y)) is c) in
    e ∙ (law.same a b).1 (ap tree_of ea ∙ f.1 ∙ ap tree_of (sym eb))

-- ---- another operator

pub another : (x : Expr) (o : ExprBinaryOf Expr) (p : Precedence) → x ≡ ex.Binary o → p ≡ binary_level (bin_kind o.op) → (p ≡ lev.Compare → ⊥) → ComparesWithItself (tree_of x) → ⊥
another x o p is l none c = none (l ∙ (found o (subst (λ y. ComparesWithItself (tree_of y)) is c)).0)

-- ---- no operation

silent : (t : Tree) → is_binary t ≡ false → ComparesWithItself t → ⊥
silent (attributed a more t) h c = silent t h c
silent (infixed x (inf.Binary k) y) h c = absurd cc
silent _ h c = c

pub no_comparison : (x : Expr) → ((b : ExprBinaryOf Expr) → x ≡ ex.Binary b → ⊥) → ComparesWithItself (tree_of x) → ⊥
no_comparison x none = silent (tree_of x) (no_binary x none)

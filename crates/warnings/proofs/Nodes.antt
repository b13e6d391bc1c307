-- What is asked of a method call by its name and its receiver; closures and returns.
use Rattle.std.proofs.Common.{◌≡◌, ◌&&◌, Bool, false, true, [], ◌∷◌, List, codes, refl, ap, ◌∙◌}
use Rattle.std.specs.Str.{bytes_eq}
use Rattle.syn_expr.specs.Expr as ex
use Rattle.syn_expr.specs.Prelude.{ArgumentsTree, AttributeTree, Children, Expr, ExprMethodCallOf, Text, Tree, attributed_with, attrs_of, behind_attributes, is_closure, is_method_call, is_return, method, tail, tree_of, turbofish_of}
use Rattle.syn_expr.proofs.TreeOf.{tree-MethodCall}
use Rattle.syn_expr_core.proofs.OfKind.{found_closure, found_return, not_closure, not_method_call, not_return}
use Rattle.warnings.specs.Warnings.{is_call, is_clone, is_cloned_twice}

after : (asks : Text → Tree → Bool) (ats : List AttributeTree) (b : Tree) (name : Text) (types : ArgumentsTree) (ks : Children)
    → behind_attributes (is_call asks) (attributed_with ats (tail b (method name types) ks)) ≡ asks name b
after asks [] b name types ks = refl
after asks (a ∷ ats) b name types ks = refl

call : (asks : Text → Tree → Bool) (o : ExprMethodCallOf Expr) → behind_attributes (is_call asks) (tree_of (ex.MethodCall o)) ≡ asks o.method (tree_of o.receiver.value)
call asks o = ap (behind_attributes (is_call asks)) (tree-MethodCall o) ∙ after asks (attrs_of o.attrs) (tree_of o.receiver.value) o.method (turbofish_of o.turbofish) _

pub clone-MethodCall : (o : ExprMethodCallOf Expr) → is_clone (tree_of (ex.MethodCall o)) ≡ bytes_eq o.method (codes "clone")
clone-MethodCall o = call (λ name x. bytes_eq name (codes "clone")) o

pub twice-MethodCall : (o : ExprMethodCallOf Expr) → is_cloned_twice (tree_of (ex.MethodCall o)) ≡ bytes_eq o.method (codes "clone") && is_clone (tree_of o.receiver.value)
twice-MethodCall o = call (λ name x. bytes_eq name (codes "clone") && is_clone x) o

no_call : (asks : Text → Tree → Bool) (t : Tree) → is_method_call t ≡ false → is_call asks t ≡ false
no_call asks (tail b (method name types) ks) h = absurd cc
no_call asks _ h = refl

pub other-clone : (x : Expr) → ((o : ExprMethodCallOf Expr) → x ≡ ex.MethodCall o → ⊥) → is_clone (tree_of x) ≡ false
other-clone x other = no_call _ _ (not_method_call x other)

pub other-twice : (x : Expr) → ((o : ExprMethodCallOf Expr) → x ≡ ex.MethodCall o → ⊥) → is_cloned_twice (tree_of x) ≡ false
other-twice x other = no_call _ _ (not_method_call x other)

pub is-Closure : (o : _) → behind_attributes is_closure (tree_of (ex.Closure o)) ≡ true
is-Closure o = (found_closure _ o refl).1

pub other-closure : (x : Expr) → ((o : _) → x ≡ ex.Closure o → ⊥) → behind_attributes is_closure (tree_of x) ≡ false
other-closure x other = not_closure x other

pub is-Return : (o : _) → behind_attributes is_return (tree_of (ex.Return o)) ≡ true
is-Return o = (found_return _ o refl).1

pub other-return : (x : Expr) → ((o : _) → x ≡ ex.Return o → ⊥) → behind_attributes is_return (tree_of x) ≡ false
other-return x other = not_return x other

pub ruleset kinds = (clone-MethodCall, twice-MethodCall, other-clone, other-twice, is-Closure, other-closure, is-Return, other-return)

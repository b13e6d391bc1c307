-- What is told of the tree of each kind.
use Rattle.std.proofs.Common.{◌≡◌, Bool, List, [], ◌∷◌, ◌++◌, Option, Some, None, refl, ap}
use Rattle.std.proofs.lemmas.List.{append-nil}
use Rattle.syn_lower_spec.specs.Tree.{AttributeTree}
use Rattle.syn_expr_spec.specs.Tree as e
use Rattle.syn_expr_spec.specs.Tree.{Tree, Children, attributed_with}
use Rattle.syn_expr_ast.specs.Node.{attributes_at, stray_trees, without_strays, operands_at, leaf_at, is_paren, prefix_at, operator_at, postfix_at, trailer_at, frame_at}
use Rattle.syn_expr_ast.specs.Label.{kind_at}
use Rattle.syn_expr_ast.specs.Pats.{strays}
use Rattle.syn_expr_ast.specs.View.{FieldView, elements, fields, option_child}

-- attributes before it change nothing else

pub kind-attributed_with : (ats : List AttributeTree) (t : Tree) → kind_at (attributed_with ats t) ≡ kind_at t
kind-attributed_with [] t = refl
kind-attributed_with (a ∷ more) t = refl

pub leaf-attributed_with : (ats : List AttributeTree) (t : Tree) → leaf_at (attributed_with ats t) ≡ leaf_at t
leaf-attributed_with [] t = refl
leaf-attributed_with (a ∷ more) t = refl

pub paren-attributed_with : (ats : List AttributeTree) (t : Tree) → is_paren (attributed_with ats t) ≡ is_paren t
paren-attributed_with [] t = refl
paren-attributed_with (a ∷ more) t = refl

pub prefixed-attributed_with : (ats : List AttributeTree) (t : Tree) → prefix_at (attributed_with ats t) ≡ prefix_at t
prefixed-attributed_with [] t = refl
prefixed-attributed_with (a ∷ more) t = refl

pub operator-attributed_with : (ats : List AttributeTree) (t : Tree) → operator_at (attributed_with ats t) ≡ operator_at t
operator-attributed_with [] t = refl
operator-attributed_with (a ∷ more) t = refl

pub postfixed-attributed_with : (ats : List AttributeTree) (t : Tree) → postfix_at (attributed_with ats t) ≡ postfix_at t
postfixed-attributed_with [] t = refl
postfixed-attributed_with (a ∷ more) t = refl

pub trailer-attributed_with : (ats : List AttributeTree) (t : Tree) → trailer_at (attributed_with ats t) ≡ trailer_at t
trailer-attributed_with [] t = refl
trailer-attributed_with (a ∷ more) t = refl

pub frame-attributed_with : (ats : List AttributeTree) (t : Tree) → frame_at (attributed_with ats t) ≡ frame_at t
frame-attributed_with [] t = refl
frame-attributed_with (a ∷ more) t = refl

pub operands-attributed_with : (ats : List AttributeTree) (t : Tree) → operands_at (attributed_with ats t) ≡ operands_at t
operands-attributed_with [] t = refl
operands-attributed_with (a ∷ more) t = refl

pub attributes-attributed_with : (ats : List AttributeTree) (t : Tree) → attributes_at t ≡ [] → attributes_at (attributed_with ats t) ≡ ats
attributes-attributed_with [] t h = h
attributes-attributed_with (a ∷ more) t h = refl

-- lists of operands have no strays

pub elements-strays : (ts : List Tree) (b : Bool) → stray_trees (elements ts b) ≡ []
elements-strays [] b = refl
elements-strays (t ∷ ts) b = refl

pub elements-all : (ts : List Tree) (b : Bool) → without_strays (elements ts b) ≡ elements ts b
elements-all [] b = refl
elements-all (t ∷ ts) b = refl

pub fields-strays : (xs : List FieldView) (b d : Bool) (o : Option Tree) → stray_trees (fields xs b (option_child (e.rest d) o)) ≡ []
fields-strays [] b d None = refl
fields-strays [] b d (Some x) = refl
fields-strays (x ∷ xs) b d o = refl

pub fields-all : (xs : List FieldView) (b d : Bool) (o : Option Tree) → without_strays (fields xs b (option_child (e.rest d) o)) ≡ fields xs b (option_child (e.rest d) o)
fields-all [] b d None = refl
fields-all [] b d (Some x) = refl
fields-all (x ∷ xs) b d o = refl

pub strays-first : (gs : List Tree) (ks : Children) → stray_trees (strays gs ks) ≡ gs ++ stray_trees ks
strays-first [] ks = refl
strays-first (g ∷ gs) ks = ap (λ l. g ∷ l) (strays-first gs ks)

pub strays-gone : (gs : List Tree) (ks : Children) → without_strays (strays gs ks) ≡ without_strays ks
strays-gone [] ks = refl
strays-gone (g ∷ gs) ks = strays-gone gs ks

pub ruleset shapes = (kind-attributed_with, leaf-attributed_with, paren-attributed_with, prefixed-attributed_with, operator-attributed_with, postfixed-attributed_with, trailer-attributed_with, frame-attributed_with, operands-attributed_with, attributes-attributed_with, elements-strays, elements-all, fields-strays, fields-all, strays-first, strays-gone, append-nil)

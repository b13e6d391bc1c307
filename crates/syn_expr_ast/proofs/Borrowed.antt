-- What the parts of a node say of it: which operands are at its ends (`a` and `b` of `a + b`), and whether it is a plain block.
use Rattle.std.specs.Prelude.{is_some}
use Rattle.std.proofs.Common.{◌≡◌, Bool, not, ◌&&◌, List, [], ◌∷◌, Option, Some, None, refl}
use Rattle.syn_lower_spec.specs.Form.{is_nil}
use Rattle.syn_lower_leaves.specs.View.{mapped}
use Rattle.syn_expr_spec.specs.Rule.{is_plain_leaf}
use Rattle.syn_expr_spec.specs.Tree as e
use Rattle.syn_expr_spec.specs.Tree.{Tree, Children, Body, none, child}
use Rattle.syn_expr_spec.specs.WellFormed.{is_verbatim_leaf}
use Rattle.syn_expr_tokens.specs.View.{label_of}
use Rattle.syn_expr_tokens.specs.declared.modifiers.Label.{Label}
use Rattle.syn_expr_ast.specs.Node.{based_by, framed, operand_children, first_of, second_of, last_of}
use Rattle.syn_expr_ast.specs.View.{FieldView, elements, fields, option_child}

-- ---- a base is the first operand and the last, whether its trailer holds others or not; what a frame holds is at no end but
-- for the block after the output of a closure

pub first-based : (b : Tree) (ks : Children) → first_of (based_by b ks) ≡ Some b
first-based b none = refl
first-based b (child k c t ks) = refl

pub second-based : (b : Tree) (ks : Children) → second_of (based_by b ks) ≡ None
second-based b none = refl
second-based b (child k c t ks) = refl

pub last-based : (b : Tree) (ks : Children) → last_of (based_by b ks) ≡ Some b
last-based b none = refl
last-based b (child k c t ks) = refl

pub children-based : (b : Tree) (ks : Children) → operand_children (based_by b ks) ≡ ks
children-based b none = refl
children-based b (child k c t ks) = refl

pub last-elements : (ts : List Tree) (b : Bool) → last_of (framed (elements ts b)) ≡ None
last-elements [] b = refl
last-elements (t ∷ ts) b = refl

pub last-fields : (xs : List FieldView) (b d : Bool) (o : Option Tree) → last_of (framed (fields xs b (option_child (e.rest d) o))) ≡ None
last-fields [] b d None = refl
last-fields [] b d (Some x) = refl
last-fields (x ∷ xs) b d o = refl

pub ruleset based = (first-based, second-based, last-based, children-based, last-elements, last-fields)

-- ---- blocks

pub plain-block : (label : Option Label) (b : Body) → is_plain_leaf (e.block (mapped label_of label) b) ≡ (not (is_some label) && is_nil b.inner)
plain-block None b = refl
plain-block (Some w) b = refl

pub verbatim-block : (label : Option Label) (b : Body) → is_verbatim_leaf (e.block (mapped label_of label) b) ≡ (not (is_some label) && is_nil b.inner)
verbatim-block None b = refl
verbatim-block (Some w) b = refl

pub ruleset blocks = (plain-block, verbatim-block)

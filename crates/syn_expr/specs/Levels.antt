-- How tightly an expression binds, by its tree.
use Rattle.std.specs.Prelude.{Bool, false, not, ◌||◌, if◌then◌else◌, List, [], ◌∷◌}
use Rattle.syn_lower_spec.specs.Tree.{AttributeTree}
use Rattle.syn_expr_spec.specs.declared.kinds.Precedence.{Precedence}
use Rattle.syn_expr_spec.specs.declared.kinds.Precedence.TheVariants as lev
use Rattle.syn_expr_spec.specs.Op.{level}
use Rattle.syn_expr_spec.specs.Tree.{Tree}
use Rattle.syn_expr_ast.specs.declared.label.NodeKind.{NodeKind}
use Rattle.syn_expr_ast.specs.declared.label.NodeKind.TheVariants as node
use Rattle.syn_expr_ast.specs.declared.label.LeafKind.TheVariants as leafs
use Rattle.syn_expr_ast.specs.Label.{kind_at, prefix_level, postfix_op}
use Rattle.syn_expr_ast.specs.Node.{attributes_at}

-- of a node by itself: its operator's, where it has one
abbrev pub kind_level : NodeKind → Precedence
kind_level (node.Leaf leafs.FullRange) = lev.Range
kind_level (node.Prefix k) = prefix_level k
kind_level (node.Infix op) = level op
kind_level (node.Postfix k) = level (postfix_op k)
kind_level _ = lev.Unambiguous

-- after an outer attribute
abbrev pub behind : Precedence → Precedence
behind lev.Unambiguous = lev.Prefix
behind v = v

-- one of the attributes is an outer one
abbrev pub has_outer : List AttributeTree → Bool
has_outer [] = false
has_outer (a ∷ more) = not a.inner || has_outer more

-- of a whole expression, after its attributes
abbrev pub tree_level : Tree → Precedence
tree_level t = if has_outer (attributes_at t) then behind (kind_level (kind_at t)) else kind_level (kind_at t)

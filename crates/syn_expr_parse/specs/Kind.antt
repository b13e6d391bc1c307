-- What the reading asks of an expression, by its kind.
use Rattle.std.specs.Prelude.{Bool, true, false, not, ◌||◌, ◌&&◌, if◌then◌else◌, Option, Some, None}
use Rattle.syn_expr_spec.specs.Op.{is_comparison, is_range_op}
use Rattle.syn_expr_spec.specs.Tree.{Tree, Leaf, leaf}
use Rattle.syn_expr_spec.specs.Stands as stands
use Rattle.syn_expr_ast.specs.Label.{kind_at, is_range_leaf, is_pounded_leaf, is_prefix, is_range_prefix, postfix_op, is_cast_postfix, is_named_trailer}
use Rattle.syn_expr_ast.specs.declared.label.NodeKind.{NodeKind}
use Rattle.syn_expr_ast.specs.declared.label.NodeKind.TheVariants as node
use Rattle.syn_expr_ast.specs.declared.label.LeafKind.TheVariants as leafs
use Rattle.syn_expr_ast.specs.declared.label.TrailerKind.{TrailerKind}
use Rattle.syn_expr_ast.specs.declared.label.TrailerKind.TheVariants as trailers
use Rattle.syn_expr_spec.specs.declared.kinds.Place.{Place}
use Rattle.syn_expr_spec.specs.Tree as e

-- ---- of a node after attributes too

abbrev pub carries : NodeKind → Bool
carries (node.Leaf k) = not (is_range_leaf k)
carries (node.Prefix k) = not (is_prefix k || is_range_prefix k)
carries (node.Infix op) = false
carries (node.Postfix k) = false
carries _ = true

abbrev pub is_range : NodeKind → Bool
is_range (node.Leaf k) = is_range_leaf k
is_range (node.Prefix k) = is_range_prefix k
is_range (node.Infix op) = is_range_op op
is_range (node.Postfix k) = is_range_op (postfix_op k)
is_range _ = false

-- ---- of a node without attributes

-- the kind of a node before which none stand
unfoldable pub bare_kind : Tree → Option NodeKind
bare_kind t = if stands.is_attributed t then None else Some (kind_at t)

abbrev pub compares : Option NodeKind → Bool
compares (Some (node.Infix op)) = is_comparison op
compares _ = false

abbrev pub is_infix : Option NodeKind → Bool
is_infix (Some (node.Infix op)) = true
is_infix (Some (node.Postfix k)) = true
is_infix _ = false

abbrev pub is_cast : Option NodeKind → Bool
is_cast (Some (node.Postfix k)) = is_cast_postfix k
is_cast _ = false

abbrev pub is_verbatim : Option NodeKind → Bool
is_verbatim (Some (node.Leaf (leafs.Verbatim pounded))) = true
is_verbatim _ = false

abbrev pub is_pounded : Option NodeKind → Bool
is_pounded (Some (node.Leaf k)) = is_pounded_leaf k
is_pounded _ = false

abbrev pub is_named_field : Option NodeKind → Bool
is_named_field (Some (node.Tail k)) = is_named_trailer k
is_named_field _ = false

-- `?` and a trailer after a dot may come after it
abbrev pub is_base : Tree → Bool
is_base t = stands.carries t && not (stands.is_attributed t || stands.is_pounded t)

abbrev pub takes_kind : Place → TrailerKind → Tree → Bool
takes_kind p trailers.Call t = not (stands.is_named_field t) && not (stands.rests p t)
takes_kind p trailers.Index t = not (stands.rests p t)
takes_kind p _ t = true

-- a trailer of this kind may come after it
abbrev pub fits_base : Place → TrailerKind → Tree → Bool
fits_base p k t = is_base t && takes_kind p k t

-- ---- whether an expression is a path, without attributes (Rust Reference, "Path expressions")

abbrev pub is_path_leaf : Leaf → Bool
is_path_leaf (e.path q p) = true
is_path_leaf _ = false

abbrev pub is_path : Tree → Bool
is_path (leaf k) = is_path_leaf k
is_path _ = false

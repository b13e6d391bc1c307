-- What the parts of a node say of it.
use Rattle.std.specs.Prelude.{Bool, true, false, List, Option, Some, None}
use Rattle.syn_tokens.specs.Tok.{Tok}
use Rattle.syn_expr_spec.specs.Head.{from_verbatim}
use Rattle.syn_expr_spec.specs.Query.{is_cast_op}
use Rattle.syn_expr_spec.specs.Tree.{Tree, Leaf}
use Rattle.syn_expr_ast.specs.Label.{leaf_labelled, frame_labelled, is_cast_postfix}
use Rattle.syn_expr_ast.specs.declared.label.NodeKind.{NodeKind}
use Rattle.syn_expr_ast.specs.declared.label.NodeKind.TheVariants as node
use Rattle.syn_expr_ast.specs.declared.label.LeafKind.TheVariants as leafs
use Rattle.syn_expr_ast.specs.Node.{leaf_at}

-- ---- kinds

-- a call of a macro with braces
abbrev pub is_braced_call : NodeKind → Bool
is_braced_call (node.Leaf (leafs.Macro braced)) = braced
is_braced_call _ = false

abbrev pub is_labelled : NodeKind → Bool
is_labelled (node.Leaf k) = leaf_labelled k
is_labelled (node.Frame k) = frame_labelled k
is_labelled _ = false

-- whether a word comes after the operand with which a node begins, if it does
abbrev pub word_behind : NodeKind → Option Bool
word_behind (node.Infix op) = Some (is_cast_op op)
word_behind (node.Postfix k) = Some (is_cast_postfix k)
word_behind (node.Tail k) = Some false
word_behind _ = None

abbrev pub is_infixed : NodeKind → Bool
is_infixed (node.Infix op) = true
is_infixed _ = false

-- ---- operands

-- what a query answers of an operand; where there is none, false
abbrev pub asked : (Tree → Bool) → Option Tree → Bool
asked f None = false
asked f (Some t) = f t

-- ---- verbatim tokens

abbrev pub verbatim_in : Option Leaf → Option (List Tok)
verbatim_in None = None
verbatim_in (Some k) = from_verbatim k

abbrev pub verbatim_at : Tree → Option (List Tok)
verbatim_at t = verbatim_in (leaf_at t)

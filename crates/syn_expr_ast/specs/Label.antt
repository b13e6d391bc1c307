-- The labels of a tree, as far as a summary tells them apart, and what the rule asks of them.
use Rattle.std.specs.Prelude.{Bool, true, false, not, ◌&&◌, ◌||◌, if◌then◌else◌, codes, is_some}
use Rattle.syn_lower_spec.specs.Mark.{sign_at}
use Rattle.syn_lower_spec.specs.Ends as t
use Rattle.syn_expr_spec.specs.declared.kinds.Infix.{Infix}
use Rattle.syn_expr_spec.specs.declared.kinds.Infix.TheVariants as inf
use Rattle.syn_expr_spec.specs.declared.kinds.Precedence.{Precedence}
use Rattle.syn_expr_spec.specs.declared.kinds.Precedence.TheVariants as lev
use Rattle.syn_expr_spec.specs.declared.next.Next.{Next}
use Rattle.syn_expr_spec.specs.declared.next.Next.TheVariants as next
use Rattle.syn_expr_spec.specs.declared.summary.Sort.{Sort}
use Rattle.syn_expr_spec.specs.declared.summary.Sort.TheVariants as sort
use Rattle.syn_expr_spec.specs.declared.next.Edge.{Edge}
use Rattle.syn_expr_spec.specs.declared.next.Edge.TheVariants as edge
use Rattle.syn_expr_spec.specs.declared.summary.Summary.{Summary}
use Rattle.syn_expr_spec.specs.Next.{begins_next, is_block_next, is_brace_next, left_edge, dot_edge, braceless, is_half_open}
use Rattle.syn_expr_spec.specs.Summaries as summaries
use Rattle.syn_expr_spec.specs.Summaries.{has, closed_summary}
use Rattle.syn_expr_spec.specs.Rule as rule
use Rattle.syn_expr_spec.specs.Rule.{ends_range_next, is_less_next, is_brace_delimiter}
use Rattle.syn_expr_spec.specs.Stands.{is_named}
use Rattle.syn_expr_spec.specs.Tree as e
use Rattle.syn_expr_spec.specs.Tree.{Leaf, Prefix, Postfix, Trailer, Frame, Piece, Tree}
use Rattle.syn_expr_ast.specs.declared.label.LeafKind.{LeafKind}
use Rattle.syn_expr_ast.specs.declared.label.LeafKind.TheVariants as leafs
use Rattle.syn_expr_ast.specs.declared.label.PrefixKind.{PrefixKind}
use Rattle.syn_expr_ast.specs.declared.label.PrefixKind.TheVariants as prefixes
use Rattle.syn_expr_ast.specs.declared.label.PostfixKind.{PostfixKind}
use Rattle.syn_expr_ast.specs.declared.label.PostfixKind.TheVariants as postfixes
use Rattle.syn_expr_ast.specs.declared.label.TrailerKind.{TrailerKind}
use Rattle.syn_expr_ast.specs.declared.label.TrailerKind.TheVariants as trailers
use Rattle.syn_expr_ast.specs.declared.label.FrameKind.{FrameKind}
use Rattle.syn_expr_ast.specs.declared.label.FrameKind.TheVariants as frames
use Rattle.syn_expr_ast.specs.declared.label.PieceKind.{PieceKind}
use Rattle.syn_expr_ast.specs.declared.label.PieceKind.TheVariants as pieces
use Rattle.syn_expr_ast.specs.declared.label.NodeKind.{NodeKind}
use Rattle.syn_expr_ast.specs.declared.label.NodeKind.TheVariants as node

-- ---- the kind of a label

abbrev pub leaf_kind : Leaf → LeafKind
leaf_kind (e.path q p) = leafs.Path
leaf_kind (e.mac m) = leafs.Macro (is_brace_delimiter m.delimiter)
leaf_kind (e.full_range op) = leafs.FullRange
leaf_kind (e.bare_jump (e.breaking label)) = leafs.Break
leaf_kind (e.bare_jump j) = leafs.Jump
leaf_kind (e.block label b) = leafs.Block (is_some label)
leaf_kind (e.loop_expr label b) = leafs.BlockLike (is_some label)
leaf_kind (e.verbatim ts) = leafs.Verbatim (sign_at (codes "#") ts)
leaf_kind k = if e.is_block_leaf k then leafs.BlockLike false else leafs.Other

abbrev pub prefix_kind : Prefix → PrefixKind
prefix_kind (e.range_to op) = prefixes.RangeTo op
prefix_kind (e.let_expr p) = prefixes.Let
prefix_kind (e.jump (e.breaking label)) = prefixes.Break (is_some label)
prefix_kind (e.jump j) = prefixes.Jump
prefix_kind (e.closure h) = prefixes.Closure
prefix_kind _ = prefixes.Operator

abbrev pub postfix_kind : Postfix → PostfixKind
postfix_kind (e.cast x) = postfixes.Cast (t.ends_open x)
postfix_kind (e.range_from op) = postfixes.RangeFrom op

abbrev pub trailer_kind : Trailer → TrailerKind
trailer_kind e.call = trailers.Call
trailer_kind e.index = trailers.Index
trailer_kind (e.method w a) = trailers.Method
trailer_kind (e.field m) = trailers.Field (is_named m)
trailer_kind e.await = trailers.Await
trailer_kind e.try_expr = trailers.Try

abbrev pub frame_kind : Frame → FrameKind
frame_kind (e.structure q p d) = frames.Struct
frame_kind e.if_expr = frames.BlockLike false
frame_kind (e.while_loop label) = frames.BlockLike (is_some label)
frame_kind (e.for_loop label p) = frames.BlockLike (is_some label)
frame_kind e.match_expr = frames.BlockLike false
frame_kind _ = frames.Other

abbrev pub piece_kind : Piece → PieceKind
piece_kind e.condition = pieces.Condition
piece_kind e.loop_head = pieces.Condition
piece_kind e.scrutinee = pieces.Condition
piece_kind e.guarded = pieces.Arm
piece_kind (e.arm ats p) = pieces.Arm
piece_kind _ = pieces.Other

-- ---- what the rule asks of a label, by its kind

abbrev pub is_range_leaf : LeafKind → Bool
is_range_leaf leafs.FullRange = true
is_range_leaf _ = false

abbrev pub is_pounded_leaf : LeafKind → Bool
is_pounded_leaf (leafs.Verbatim pounded) = pounded
is_pounded_leaf _ = false

abbrev pub leaf_labelled : LeafKind → Bool
leaf_labelled (leafs.Block labelled) = labelled
leaf_labelled (leafs.BlockLike labelled) = labelled
leaf_labelled _ = false

abbrev pub leaf_sort : LeafKind → Sort
leaf_sort (leafs.Block labelled) = if labelled then sort.BlockLike else sort.Block
leaf_sort (leafs.BlockLike labelled) = sort.BlockLike
leaf_sort (leafs.Macro braced) = if braced then sort.BracedMacro else sort.Other
leaf_sort _ = sort.Other

abbrev pub leaf_refuses : LeafKind → Next → Bool
leaf_refuses leafs.Path n = is_brace_next n
leaf_refuses leafs.FullRange n = not (ends_range_next n)
leaf_refuses leafs.Jump n = begins_next n
leaf_refuses leafs.Break n = begins_next n && not (is_block_next n)
leaf_refuses _ n = false

abbrev pub prefix_level : PrefixKind → Precedence
prefix_level prefixes.Operator = lev.Prefix
prefix_level (prefixes.RangeTo op) = lev.Range
prefix_level prefixes.Let = lev.Let
prefix_level _ = lev.Jump

abbrev pub is_prefix : PrefixKind → Bool
is_prefix prefixes.Operator = true
is_prefix _ = false

abbrev pub is_range_prefix : PrefixKind → Bool
is_range_prefix (prefixes.RangeTo op) = true
is_range_prefix _ = false

abbrev pub is_bare_break : PrefixKind → Bool
is_bare_break (prefixes.Break labelled) = not labelled
is_bare_break _ = false

abbrev pub prefix_sort : PrefixKind → Sort
prefix_sort prefixes.Let = sort.Let
prefix_sort _ = sort.Other

abbrev pub postfix_op : PostfixKind → Infix
postfix_op (postfixes.Cast ends_open) = inf.Cast
postfix_op (postfixes.RangeFrom op) = inf.Range op

abbrev pub is_cast_postfix : PostfixKind → Bool
is_cast_postfix (postfixes.Cast ends_open) = true
is_cast_postfix (postfixes.RangeFrom op) = false

abbrev pub postfix_refuses : PostfixKind → Next → Bool
postfix_refuses (postfixes.Cast ends_open) n = is_less_next n && ends_open
postfix_refuses (postfixes.RangeFrom op) n = not (ends_range_next n)

abbrev pub is_call : TrailerKind → Bool
is_call trailers.Call = true
is_call _ = false

abbrev pub is_named_trailer : TrailerKind → Bool
is_named_trailer (trailers.Field named) = named
is_named_trailer _ = false

abbrev pub frame_labelled : FrameKind → Bool
frame_labelled (frames.BlockLike labelled) = labelled
frame_labelled _ = false

abbrev pub frame_sort : FrameKind → Sort
frame_sort frames.Struct = sort.Struct
frame_sort (frames.BlockLike labelled) = sort.BlockLike
frame_sort frames.Other = sort.Other

abbrev pub next_of : TrailerKind → Next
next_of trailers.Call = next.Parenthesis
next_of trailers.Index = next.Bracket
next_of trailers.Try = next.Question
next_of _ = next.Dot

abbrev pub base_edge : TrailerKind → Edge → Edge
base_edge trailers.Call x = left_edge x
base_edge trailers.Index x = left_edge x
base_edge _ x = dot_edge x

abbrev pub is_base : TrailerKind → Summary → Bool
is_base k x = x.base && not (is_call k && x.named_field)

abbrev pub base_wrapped_by : TrailerKind → Summary → Bool
base_wrapped_by k x = not (is_base k x) || has x.ends (next_of k)

abbrev pub end_edge : Infix → Bool → Edge
end_edge op condition = braceless (is_half_open op && condition)

abbrev pub prefix_edge : PrefixKind → Bool → Edge
prefix_edge (prefixes.RangeTo op) condition = end_edge (inf.Range op) condition
prefix_edge (prefixes.Break labelled) condition = braceless condition
prefix_edge _ condition = edge.Free

abbrev pub prefix_condition : PrefixKind → Bool → Bool
prefix_condition prefixes.Jump condition = false
prefix_condition (prefixes.Break labelled) condition = false
prefix_condition _ condition = condition

abbrev pub takes_label : PrefixKind → Summary → Bool
takes_label k x = is_bare_break k && x.labelled

-- ---- the summaries of shapes, by the summaries of their operands

abbrev pub tail_summary : Trailer → Summary → Summary
tail_summary k base = closed_summary (summaries.is_named_trailer k) (not (summaries.base_wrapped_by k base) && base.labelled) sort.Other

abbrev pub frame_summary : Frame → Summary
frame_summary k = closed_summary false (rule.frame_labelled k) (summaries.frame_sort k)

-- ---- the kind of a node, whatever attributes come before it

abbrev pub kind_at : Tree → NodeKind
kind_at (e.leaf k) = node.Leaf (leaf_kind k)
kind_at (e.paren m t) = node.Paren
kind_at (e.attributed a more t) = kind_at t
kind_at (e.prefixed k gs t) = node.Prefix (prefix_kind k)
kind_at (e.infixed x op y) = node.Infix op
kind_at (e.postfixed x k) = node.Postfix (postfix_kind k)
kind_at (e.tail b k ks) = node.Tail (trailer_kind k)
kind_at (e.frame k ks) = node.Frame (frame_kind k)

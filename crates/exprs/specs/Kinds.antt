-- The kinds of expressions by number, in the order of their names.
use Rattle.std.specs.Prelude.{ℕ, ◌+◌, ◌-◌, ◌^◌, nat_lt, if◌then◌else◌, min, List, slice_index, slice_set}
use Rattle.syn_expr_spec.specs.Tree as e
use Rattle.syn_expr_spec.specs.Tree.{Tree, Jump, Leaf, Prefix, Postfix, Trailer, Frame}
use Rattle.syn_expr_spec.specs.declared.kinds.Infix.{Infix}
use Rattle.syn_expr_spec.specs.declared.kinds.Infix.TheVariants as inf

abbrev pub jump_kind : Jump → ℕ
jump_kind (e.breaking label) = 6
jump_kind e.returning = 30
jump_kind e.yielding = 38

abbrev pub leaf_kind : Leaf → ℕ
leaf_kind (e.async_block is_move tokens) = 2
leaf_kind (e.block label body) = 5
leaf_kind (e.const_block body) = 10
leaf_kind (e.continuing label) = 11
leaf_kind e.infer = 17
leaf_kind (e.lit x) = 19
leaf_kind (e.loop_expr label body) = 20
leaf_kind (e.mac x) = 21
leaf_kind (e.path q p) = 25
leaf_kind (e.full_range op) = 26
leaf_kind (e.try_block tokens) = 33
leaf_kind (e.unsafe_block body) = 36
leaf_kind (e.verbatim tokens) = 39
leaf_kind (e.bare_jump j) = jump_kind j

abbrev pub prefix_kind : Prefix → ℕ
prefix_kind (e.closure head) = 9
prefix_kind (e.let_expr p) = 18
prefix_kind (e.range_to op) = 26
prefix_kind (e.raw_addr is_mut) = 27
prefix_kind (e.reference is_mut) = 28
prefix_kind (e.unary op) = 35
prefix_kind (e.jump j) = jump_kind j

abbrev pub infix_kind : Infix → ℕ
infix_kind inf.Assign = 1
infix_kind (inf.Binary op) = 4
infix_kind inf.Cast = 8
infix_kind (inf.Range op) = 26

abbrev pub postfix_kind : Postfix → ℕ
postfix_kind (e.cast ty) = 8
postfix_kind (e.range_from op) = 26

abbrev pub trailer_kind : Trailer → ℕ
trailer_kind e.await = 3
trailer_kind e.call = 7
trailer_kind (e.field member) = 12
trailer_kind e.index = 16
trailer_kind (e.method name args) = 23
trailer_kind e.try_expr = 32

abbrev pub frame_kind : Frame → ℕ
frame_kind e.array = 0
frame_kind (e.closure_block head) = 9
frame_kind (e.for_loop label p) = 13
frame_kind e.group_expr = 14
frame_kind e.if_expr = 15
frame_kind e.match_expr = 22
frame_kind e.repeat = 29
frame_kind (e.structure q p dots) = 31
frame_kind e.tuple = 34
frame_kind (e.while_loop label) = 37

abbrev pub kind_of : Tree → ℕ
kind_of (e.leaf k) = leaf_kind k
kind_of (e.paren mark t) = 24
kind_of (e.attributed a more t) = kind_of t
kind_of (e.prefixed k strays t) = prefix_kind k
kind_of (e.infixed x op y) = infix_kind op
kind_of (e.postfixed x k) = postfix_kind k
kind_of (e.tail base k ks) = trailer_kind k
kind_of (e.frame k ks) = frame_kind k

-- ---- counts, one for each kind

-- One more of a kind. A count stays where it is the greatest `u64`.
abbrev pub counted : ℕ → List ℕ → List ℕ
counted k ns = if nat_lt k 40 then slice_set ns k (min (slice_index ns k + 1) (2 ^ 64 - 1)) else ns

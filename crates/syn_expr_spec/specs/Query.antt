-- What the layers above ask of a tree and of a type: whether its first tokens are a label, whether its last token is a
-- group in braces, and whether a type ends in a name that has no arguments. Each is said of the own tokens, and beside that
-- by a function of the tree alone, which is equal to it on every tree, well-formed or not.
use Rattle.std.specs.Prelude.{◌≡◌, ℕ, Bool, true, false, not, ◌||◌, ◌&&◌, ◌==◌, nat_le, if◌then◌else◌, List, [], ◌∷◌, codes}
use Rattle.std.specs.Str.{bytes_eq}
use Rattle.syn_lexer.specs.declared.front.Spacing.TheVariants as spacing
use Rattle.syn_tokens.specs.Tok.{Tok, ident, punct, group}
use Rattle.syn_lower_spec.specs.Tree as t
use Rattle.syn_lower_spec.specs.Tree.{TypeTree, QSelfTree, Segments, ArgumentsTree, ReturnTree, Bounds, BoundTree}
use Rattle.syn_lower_spec.specs.Form.{is_nil}
use Rattle.syn_lower_spec.specs.Mark.{lifetime_at}
use Rattle.syn_lower_spec.specs.Own.{count_segments, type_own}
use Rattle.syn_lower_spec.specs.Ends.{ends_open}
use Rattle.syn_lower_spec.specs.Fits.{type_fits}
use Rattle.syn_expr_spec.specs.declared.kinds.Infix.{Infix}
use Rattle.syn_expr_spec.specs.declared.kinds.Infix.TheVariants as inf
use Rattle.syn_expr_spec.specs.Tree as e
use Rattle.syn_expr_spec.specs.Tree.{Body, Tree, Children, Leaf, Prefix, Postfix, Frame, Piece, leaf, paren, attributed, prefixed, infixed, postfixed, tail, frame, none, child, outers, own_tokens, plain_block, postfix_op, is_silent}
use Rattle.syn_expr_spec.specs.Rule.{is_brace_delimiter, leaf_labelled, frame_labelled}
use Rattle.syn_expr_spec.specs.WellFormed.{is_well_formed}

-- ---- a label first (Rust Reference, "Loop expressions", "Block expressions")

abbrev pub leads_with_label : Tree → Bool
leads_with_label t = lifetime_at (own_tokens t)

abbrev pub is_cast_op : Infix → Bool
is_cast_op inf.Cast = true
is_cast_op _ = false

abbrev pub is_sole_quote : List Tok → Bool
is_sole_quote (punct c spacing.Joint ∷ []) = c == 39
is_sole_quote _ = false

-- verbatim tokens that begin with a lifetime, or are its quote before a word
abbrev pub verbatim_leads : Bool → List Tok → Bool
verbatim_leads word ts = lifetime_at ts || (word && is_sole_quote ts)

abbrev pub leaf_leads : Bool → Leaf → Bool
leaf_leads word (e.verbatim ts) = verbatim_leads word ts
leaf_leads word k = leaf_labelled k

-- `word`: a word comes after the tree. The one word that comes after a left end is `as`. Inner attributes before a
-- node aren't spelled.
abbrev pub tree_leads : Bool → Tree → Bool
tree_leads word (leaf k) = leaf_leads word k
tree_leads word (attributed a more t) = is_nil (outers (a ∷ more)) && tree_leads word t
tree_leads word (infixed x k y) = tree_leads (is_cast_op k) x
tree_leads word (postfixed x k) = tree_leads (is_cast_op (postfix_op k)) x
tree_leads word (tail b k ks) = tree_leads false b
tree_leads word (frame k ks) = frame_labelled k
tree_leads word _ = false

abbrev pub leading_label : Tree → Bool
leading_label t = tree_leads false t

abbrev pub LeadingLabelIsFirst : Type 0
LeadingLabelIsFirst = (t : Tree) → leading_label t ≡ leads_with_label t

-- ---- braces last

abbrev pub is_braces : Tok → Bool
is_braces (group d i) = is_brace_delimiter d
is_braces _ = false

-- The last of the tokens is a group in braces; where there are none, `before` says so of what comes before them.
abbrev pub last_braces : Bool → List Tok → Bool
last_braces before [] = before
last_braces before (t ∷ ts) = last_braces (is_braces t) ts

-- What comes after `else` at the right end is put in a block, as a printer does with what is none: an `if` always ends
-- with braces.
abbrev mutual
  pub blocked : Tree → Tree
  blocked (attributed a more t) = attributed a more (blocked t)
  blocked (prefixed k gs t) = prefixed k gs (blocked t)
  blocked (infixed x k y) = infixed x k (blocked y)
  blocked (frame k ks) = frame k (children_blocked ks)
  blocked t = t

  pub children_blocked : Children → Children
  children_blocked none = none
  children_blocked (child e.chained c t ks) = child e.chained c (plain_block (own_tokens t)) (children_blocked ks)
  children_blocked (child k c t ks) = child k c (blocked t) (children_blocked ks)

abbrev pub ends_with_brace : Tree → Bool
ends_with_brace t = last_braces false (own_tokens (blocked t))

-- ---- the same of a type, and of a tree. What is spelled by no tokens (a path without segments, verbatim tokens that are none)
-- answers what stands `before` it.

abbrev pub is_unqualified : QSelfTree → Bool
is_unqualified t.no_qself = true
is_unqualified (t.qself x n a) = false

-- the `>` of a qualified path comes after all of its k segments
abbrev pub is_all_inside : QSelfTree → ℕ → Bool
is_all_inside t.no_qself k = false
is_all_inside (t.qself x n a) k = nat_le k n

abbrev mutual
  pub type_brace : Bool → TypeTree → Bool
  type_brace before (t.path q l ss c) =
      not (is_all_inside q (count_segments ss)) && segments_brace (before && (is_unqualified q && not l)) ss c
  type_brace before (t.mac l ss c d ts) = is_brace_delimiter d
  type_brace before (t.reference a m x) = type_brace false x
  type_brace before (t.ptr m x) = type_brace false x
  type_brace before (t.fn_ptr f u a xs c o) = return_brace o
  type_brace before (t.impl_trait bs c) = bounds_brace bs c
  type_brace before (t.trait_object bs c) = bounds_brace bs c
  type_brace before _ = false

  -- `c` as in the trees: whether a separator ends the list
  pub segments_brace : Bool → Segments → Bool → Bool
  segments_brace before t.no_segments c = before
  segments_brace before (t.more_segments w a t.no_segments) c = not c && arguments_brace a
  segments_brace before (t.more_segments w a (t.more_segments v b ss)) c = segments_brace false (t.more_segments v b ss) c

  pub arguments_brace : ArgumentsTree → Bool
  arguments_brace (t.round xs c o) = return_brace o
  arguments_brace _ = false

  pub return_brace : ReturnTree → Bool
  return_brace t.default = false
  return_brace (t.given x) = type_brace false x

  pub bounds_brace : Bounds → Bool → Bool
  bounds_brace t.no_bounds c = false
  bounds_brace (t.more_bounds b t.no_bounds) c = not c && bound_brace b
  bounds_brace (t.more_bounds b (t.more_bounds d bs)) c = bounds_brace (t.more_bounds d bs) c

  pub bound_brace : BoundTree → Bool
  bound_brace (t.outlives w) = false
  bound_brace (t.a_trait q f l ss c) = segments_brace false ss c

abbrev pub leaf_brace : Bool → Leaf → Bool
leaf_brace before (e.path q p) = type_brace before (t.path q p.leading (t.segments_of p.segments) p.trailing)
leaf_brace before (e.mac m) = is_brace_delimiter m.delimiter
leaf_brace before (e.verbatim ts) = last_braces before ts
leaf_brace before (e.lit x) = false
leaf_brace before e.infer = false
leaf_brace before (e.full_range op) = false
leaf_brace before (e.bare_jump j) = false
leaf_brace before (e.continuing w) = false
leaf_brace before _ = true

-- of the tokens before an operand
abbrev pub prefix_brace : Prefix → Bool
prefix_brace (e.closure h) = return_brace h.output
prefix_brace _ = false

abbrev pub postfix_brace : Postfix → Bool
postfix_brace (e.cast x) = type_brace false x
postfix_brace (e.range_from op) = false

abbrev pub piece_brace : Bool → Piece → Bool
piece_brace before (e.field_value ats m c) = false
piece_brace before (e.rest dots) = before && not dots
piece_brace before e.chained = false
piece_brace before (e.guard ats p) = false
piece_brace before e.guarded = false
piece_brace before (e.arm ats p) = false
piece_brace before _ = before

-- what comes after the operand is no token but perhaps a `;`; `bare` is what the operand answers
abbrev pub operand_brace : Bool → Piece → Bool → Bool
operand_brace before e.repeated bare = false
operand_brace before e.chained bare = true
operand_brace before k bare = if is_silent k then piece_brace before k else bare

-- Round the operands of some stand delimiters.
abbrev pub frame_brace : Frame → Bool → Bool
frame_brace e.array operands = false
frame_brace e.tuple operands = false
frame_brace e.repeat operands = false
frame_brace e.group_expr operands = false
frame_brace (e.structure q p d) operands = true
frame_brace k operands = operands

abbrev pub frame_head_brace : Frame → Bool
frame_head_brace (e.closure_block h) = return_brace h.output
frame_head_brace _ = false

abbrev mutual
  pub tree_brace : Bool → Tree → Bool
  tree_brace before (leaf k) = leaf_brace before k
  tree_brace before (paren m t) = false
  tree_brace before (attributed a more t) = tree_brace (is_nil (outers (a ∷ more)) && before) t
  tree_brace before (prefixed k gs t) = tree_brace (prefix_brace k) t
  tree_brace before (infixed x k y) = tree_brace false y
  tree_brace before (postfixed x k) = postfix_brace k
  tree_brace before (tail b k ks) = false
  tree_brace before (frame k ks) = frame_brace k (children_brace (frame_head_brace k) ks)

  pub children_brace : Bool → Children → Bool
  children_brace before none = before
  children_brace before (child k e.no_ending t ks) = children_brace (operand_brace before k (tree_brace (piece_brace before k) t)) ks
  children_brace before (child k e.comma t ks) = children_brace false ks
  children_brace before (child k (e.braced b) t ks) = children_brace true ks
  children_brace before (child k (e.opened ats) t ks) = true

abbrev pub trailing_brace : Tree → Bool
trailing_brace t = tree_brace false t

pub record TrailingBraceIsLast : Type 0 where
  pub everywhere : (t : Tree) → trailing_brace t ≡ ends_with_brace t
  -- An `if` always does, with an `else` and without one, whatever comes after that.
  pub if_exprs : (b : Body) (c x : Tree) → (ends_with_brace (frame e.if_expr (child e.condition (e.braced b) c none)) ≡ true)
      × (ends_with_brace (frame e.if_expr (child e.condition (e.braced b) c (child e.chained e.no_ending x none))) ≡ true)
  -- A well-formed tree has an `if` or a block after each `else`.
  pub well_formed : (t : Tree) → is_well_formed t ≡ true → trailing_brace t ≡ last_braces false (own_tokens t)

-- ---- a name without arguments last (Rust Reference, "Paths in types")

-- The last part of the type is a segment of a path without arguments: seen through the output of a function pointer or of
-- arguments in parentheses, the last bound of `impl` or `dyn`, and what a pointer or a reference points to. A path without
-- segments has none, and bounds that are none neither.
abbrev mutual
  pub trailing_unparameterized_path : TypeTree → Bool
  trailing_unparameterized_path (t.path q l ss c) = segments_unparameterized ss
  trailing_unparameterized_path (t.reference a m x) = trailing_unparameterized_path x
  trailing_unparameterized_path (t.ptr m x) = trailing_unparameterized_path x
  trailing_unparameterized_path (t.fn_ptr f u a xs c o) = return_unparameterized o
  trailing_unparameterized_path (t.impl_trait bs c) = bounds_unparameterized bs
  trailing_unparameterized_path (t.trait_object bs c) = bounds_unparameterized bs
  trailing_unparameterized_path _ = false

  pub segments_unparameterized : Segments → Bool
  segments_unparameterized t.no_segments = false
  segments_unparameterized (t.more_segments w a t.no_segments) = arguments_unparameterized a
  segments_unparameterized (t.more_segments w a (t.more_segments v b ss)) = segments_unparameterized (t.more_segments v b ss)

  pub arguments_unparameterized : ArgumentsTree → Bool
  arguments_unparameterized t.no_arguments = true
  arguments_unparameterized (t.angle l gs c) = false
  arguments_unparameterized (t.round xs c o) = return_unparameterized o

  pub return_unparameterized : ReturnTree → Bool
  return_unparameterized t.default = false
  return_unparameterized (t.given x) = trailing_unparameterized_path x

  pub bounds_unparameterized : Bounds → Bool
  bounds_unparameterized t.no_bounds = false
  bounds_unparameterized (t.more_bounds b t.no_bounds) = bound_unparameterized b
  bounds_unparameterized (t.more_bounds b (t.more_bounds d bs)) = bounds_unparameterized (t.more_bounds d bs)

  pub bound_unparameterized : BoundTree → Bool
  bound_unparameterized (t.outlives w) = false
  bound_unparameterized (t.a_trait q f l ss c) = segments_unparameterized ss

-- a word, but no `_`
abbrev pub is_name : Tok → Bool
is_name (ident w) = not (bytes_eq w (codes "_"))
is_name _ = false

abbrev pub is_quote : Tok → Bool
is_quote (punct c spacing.Joint) = c == 39
is_quote _ = false

-- The last of the tokens is a name, and no lifetime's; of none, what comes before them is `named`. `quoted`: after a quote.
abbrev pub last_name : Bool → Bool → List Tok → Bool
last_name quoted named [] = named
last_name quoted named (u ∷ l) = last_name (is_quote u) (is_name u && not quoted) l

abbrev pub ends_in_name : TypeTree → Bool
ends_in_name x = last_name false false (type_own x [])

pub record UnparameterizedPathsAreLast : Type 0 where
  -- A type that is read back ends so where the last of its own tokens is a name.
  pub read_back : (several : Bool) (x : TypeTree) → type_fits several x ≡ true → trailing_unparameterized_path x ≡ ends_in_name x
  -- Whatever type would have a `<` after it as the beginning of arguments ends so.
  pub open_ends : (x : TypeTree) → ends_open x ≡ true → trailing_unparameterized_path x ≡ true

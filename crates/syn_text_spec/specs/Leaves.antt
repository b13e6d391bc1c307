-- Trees whose leaves are lexed: what a tree keeps of a text (words, lifetimes, literals and lists of tokens) is in itself
-- what `lex` answers (`is_lexed`). A test of a kind of trees asks it of each leaf, and of nothing else: whether the tree is
-- well-formed is another question. Marks such as `&` and words such as `mut` are no leaves, since a tree doesn't keep them.
use Rattle.std.specs.Prelude.{Bool, true, false, ◌&&◌, List, [], ◌∷◌, Option, Some, None}
use Rattle.syn_lexer.specs.declared.front.Delimiter.{Delimiter}
use Rattle.syn_tokens.specs.Tok.{Tok}
use Rattle.syn_lower_spec.specs.Text.{Text}
use Rattle.syn_lower_spec.specs.Tree as t
use Rattle.syn_lower_spec.specs.Tree.{LitTree, AttributeTree, LifetimesTree, TypeTree, Types, QSelfTree, Segments, ArgumentsTree, Generics, GenericTree, ReturnTree, FnArgs, Bounds, BoundTree, PathTree}
use Rattle.syn_lower_spec.specs.Part.{MacroTree}
use Rattle.syn_lower_spec.specs.Own.{word_own, lifetime_own, lit_own, enclosed}
use Rattle.syn_lower_spec.specs.Pat as p
use Rattle.syn_lower_spec.specs.Pat.{MemberTree, PatBound, PatTree, SubPat, Pats, Fields, FieldTree}
use Rattle.syn_expr_spec.specs.Tree as e
use Rattle.syn_expr_spec.specs.Tree.{Body, Jump, Leaf, ClosureHead, Prefix, Postfix, Trailer, Frame, Piece, Ending, Tree, Children}
use Rattle.syn_text.specs.Lexed.{is_lexed}

-- ---- leaves

-- an identifier or a reserved word, raw or not
abbrev pub word_lexed : Text → Bool
word_lexed w = is_lexed (word_own w [])

-- The word of a lifetime is not raw.
abbrev pub lifetime_lexed : Text → Bool
lifetime_lexed w = is_lexed (lifetime_own w [])

-- A sign is no part of a literal's text.
unfoldable pub lit_lexed : LitTree → Bool
lit_lexed x = is_lexed (lit_own x [])

-- A group without delimiters has no text.
abbrev pub group_lexed : Delimiter → List Tok → Bool
group_lexed d ts = is_lexed (enclosed d ts [])

abbrev pub all_lexed : {A : Type 0} → (A → Bool) → List A → Bool
all_lexed test [] = true
all_lexed test (x ∷ xs) = test x && all_lexed test xs

abbrev pub lexed_if : {A : Type 0} → (A → Bool) → Option A → Bool
lexed_if test None = true
lexed_if test (Some x) = test x

abbrev pub attributes_lexed : List AttributeTree → Bool
attributes_lexed ats = all_lexed (λ a. is_lexed a.tokens) ats

-- ---- types, and the paths in them

abbrev pub lifetimes_lexed : LifetimesTree → Bool
lifetimes_lexed p = all_lexed lifetime_lexed p.0

abbrev mutual
  pub type_lexed : TypeTree → Bool
  type_lexed (t.path q b ss e) = qself_lexed q && segments_lexed ss
  type_lexed (t.mac b ss e d ts) = segments_lexed ss && group_lexed d ts
  type_lexed (t.reference a m x) = lexed_if lifetime_lexed a && type_lexed x
  type_lexed (t.ptr m x) = type_lexed x
  type_lexed (t.slice x) = type_lexed x
  type_lexed (t.array x n) = type_lexed x && is_lexed n
  type_lexed (t.tuple xs e) = types_lexed xs
  type_lexed (t.paren x) = type_lexed x
  type_lexed t.never = true
  type_lexed t.infer = true
  type_lexed (t.fn_ptr f u a xs e o) = lexed_if lifetimes_lexed f && (lexed_if (lexed_if lit_lexed) a && (args_lexed xs && return_lexed o))
  type_lexed (t.impl_trait bs e) = bounds_lexed bs
  type_lexed (t.trait_object bs e) = bounds_lexed bs

  pub types_lexed : Types → Bool
  types_lexed t.no_types = true
  types_lexed (t.more_types x xs) = type_lexed x && types_lexed xs

  pub qself_lexed : QSelfTree → Bool
  qself_lexed t.no_qself = true
  qself_lexed (t.qself x n a) = type_lexed x

  pub segments_lexed : Segments → Bool
  segments_lexed t.no_segments = true
  segments_lexed (t.more_segments w a ss) = word_lexed w && (arguments_lexed a && segments_lexed ss)

  pub arguments_lexed : ArgumentsTree → Bool
  arguments_lexed t.no_arguments = true
  arguments_lexed (t.angle c gs e) = generics_lexed gs
  arguments_lexed (t.round xs e o) = types_lexed xs && return_lexed o

  pub generics_lexed : Generics → Bool
  generics_lexed t.no_generics = true
  generics_lexed (t.more_generics g gs) = generic_lexed g && generics_lexed gs

  pub generic_lexed : GenericTree → Bool
  generic_lexed (t.a_lifetime w) = lifetime_lexed w
  generic_lexed (t.a_const ts) = is_lexed ts
  generic_lexed (t.an_assoc w x) = word_lexed w && type_lexed x
  generic_lexed (t.a_type x) = type_lexed x

  pub return_lexed : ReturnTree → Bool
  return_lexed t.default = true
  return_lexed (t.given x) = type_lexed x

  pub args_lexed : FnArgs → Bool
  args_lexed t.no_args = true
  args_lexed (t.more_args n x xs) = lexed_if word_lexed n && (type_lexed x && args_lexed xs)

  pub bounds_lexed : Bounds → Bool
  bounds_lexed t.no_bounds = true
  bounds_lexed (t.more_bounds b bs) = bound_lexed b && bounds_lexed bs

  pub bound_lexed : BoundTree → Bool
  bound_lexed (t.outlives w) = lifetime_lexed w
  bound_lexed (t.a_trait q f b ss e) = lexed_if lifetimes_lexed f && segments_lexed ss

abbrev pub path_lexed : PathTree → Bool
path_lexed p = segments_lexed (t.segments_of p.segments)

abbrev pub qualified_lexed : QSelfTree → PathTree → Bool
qualified_lexed q p = qself_lexed q && path_lexed p

abbrev pub macro_lexed : MacroTree → Bool
macro_lexed m = path_lexed m.path && group_lexed m.delimiter m.tokens

-- ---- patterns

-- An index is a number.
abbrev pub member_lexed : MemberTree → Bool
member_lexed (p.a_name w) = word_lexed w
member_lexed (p.an_index n) = true

abbrev pub range_bound_lexed : PatBound → Bool
range_bound_lexed (p.lit_bound x) = lit_lexed x
range_bound_lexed (p.path_bound q path) = qualified_lexed q path

abbrev mutual
  pub pat_lexed : PatTree → Bool
  pat_lexed p.wild = true
  pat_lexed p.rest = true
  pat_lexed (p.range s c e) = lexed_if range_bound_lexed s && lexed_if range_bound_lexed e
  pat_lexed (p.a_lit x) = lit_lexed x
  pat_lexed (p.a_binding b m w s) = word_lexed w && sub_lexed s
  pat_lexed (p.a_path q path) = qualified_lexed q path
  pat_lexed (p.a_mac m) = macro_lexed m
  pat_lexed (p.a_struct path fs e d) = path_lexed path && fields_lexed fs
  pat_lexed (p.tuple_struct path ps e) = path_lexed path && pats_lexed ps
  pat_lexed (p.a_tuple ps e) = pats_lexed ps
  pat_lexed (p.a_paren x) = pat_lexed x
  pat_lexed (p.a_slice ps e) = pats_lexed ps
  pat_lexed (p.a_reference m x) = pat_lexed x
  pat_lexed (p.a_block ts) = is_lexed ts
  pat_lexed (p.alternatives l ps e) = pats_lexed ps
  pat_lexed (p.guarded x) = pat_lexed x
  pat_lexed (p.typed x y) = pat_lexed x && type_lexed y
  pat_lexed (p.attributed a more x) = is_lexed a.tokens && (attributes_lexed more && pat_lexed x)

  pub sub_lexed : SubPat → Bool
  sub_lexed p.no_sub = true
  sub_lexed (p.sub x) = pat_lexed x

  pub pats_lexed : Pats → Bool
  pats_lexed p.no_pats = true
  pats_lexed (p.more_pats x xs) = pat_lexed x && pats_lexed xs

  pub fields_lexed : Fields → Bool
  fields_lexed p.no_fields = true
  fields_lexed (p.more_fields a f fs) = attributes_lexed a && (field_lexed f && fields_lexed fs)

  pub field_lexed : FieldTree → Bool
  field_lexed (p.short b m w) = word_lexed w
  field_lexed (p.full k x) = member_lexed k && pat_lexed x

-- ---- expressions

abbrev pub body_lexed : Body → Bool
body_lexed b = attributes_lexed b.inner && is_lexed b.tokens

abbrev pub jump_lexed : Jump → Bool
jump_lexed (e.breaking label) = lexed_if lifetime_lexed label
jump_lexed _ = true

abbrev pub leaf_lexed : Leaf → Bool
leaf_lexed (e.lit x) = lit_lexed x
leaf_lexed (e.path q path) = qualified_lexed q path
leaf_lexed (e.mac m) = macro_lexed m
leaf_lexed e.infer = true
leaf_lexed (e.full_range op) = true
leaf_lexed (e.bare_jump j) = jump_lexed j
leaf_lexed (e.continuing label) = lexed_if lifetime_lexed label
leaf_lexed (e.block label b) = lexed_if lifetime_lexed label && body_lexed b
leaf_lexed (e.loop_expr label b) = lexed_if lifetime_lexed label && body_lexed b
leaf_lexed (e.unsafe_block b) = body_lexed b
leaf_lexed (e.const_block b) = body_lexed b
leaf_lexed (e.async_block m ts) = is_lexed ts
leaf_lexed (e.try_block ts) = is_lexed ts
leaf_lexed (e.verbatim ts) = is_lexed ts

abbrev pub closure_lexed : ClosureHead → Bool
closure_lexed h = lexed_if lifetimes_lexed h.lifetimes && (all_lexed pat_lexed h.inputs && return_lexed h.output)

abbrev pub prefix_lexed : Prefix → Bool
prefix_lexed (e.let_expr x) = pat_lexed x
prefix_lexed (e.jump j) = jump_lexed j
prefix_lexed (e.closure h) = closure_lexed h
prefix_lexed _ = true

abbrev pub postfix_lexed : Postfix → Bool
postfix_lexed (e.cast x) = type_lexed x
postfix_lexed (e.range_from op) = true

abbrev pub trailer_lexed : Trailer → Bool
trailer_lexed (e.method w a) = word_lexed w && arguments_lexed a
trailer_lexed (e.field m) = member_lexed m
trailer_lexed _ = true

-- An invisible group has no text.
abbrev pub frame_lexed : Frame → Bool
frame_lexed (e.structure q path dots) = qualified_lexed q path
frame_lexed (e.closure_block h) = closure_lexed h
frame_lexed (e.while_loop label) = lexed_if lifetime_lexed label
frame_lexed (e.for_loop label x) = lexed_if lifetime_lexed label && pat_lexed x
frame_lexed e.group_expr = false
frame_lexed _ = true

abbrev pub piece_lexed : Piece → Bool
piece_lexed (e.field_value ats m colon) = attributes_lexed ats && member_lexed m
piece_lexed (e.guard ats x) = attributes_lexed ats && pat_lexed x
piece_lexed (e.arm ats x) = attributes_lexed ats && pat_lexed x
piece_lexed _ = true

abbrev pub ending_lexed : Ending → Bool
ending_lexed (e.braced b) = body_lexed b
ending_lexed (e.opened ats) = attributes_lexed ats
ending_lexed _ = true

abbrev mutual
  pub leaves_lexed : Tree → Bool
  leaves_lexed (e.leaf k) = leaf_lexed k
  leaves_lexed (e.paren m x) = leaves_lexed x
  leaves_lexed (e.attributed a more x) = is_lexed a.tokens && (attributes_lexed more && leaves_lexed x)
  leaves_lexed (e.prefixed k gs x) = prefix_lexed k && leaves_lexed x
  leaves_lexed (e.infixed x k y) = leaves_lexed x && leaves_lexed y
  leaves_lexed (e.postfixed x k) = leaves_lexed x && postfix_lexed k
  leaves_lexed (e.tail b k ks) = leaves_lexed b && (trailer_lexed k && children_lexed ks)
  leaves_lexed (e.frame k ks) = frame_lexed k && children_lexed ks

  pub children_lexed : Children → Bool
  children_lexed e.none = true
  children_lexed (e.child k c x ks) = piece_lexed k && (ending_lexed c && (leaves_lexed x && children_lexed ks))

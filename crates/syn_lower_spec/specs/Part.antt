-- What spells each lower part. A form is read from left to right: `both` and `then_by` one part after another, `case` and
-- `when` a choice by what is in front, `mark` a fixed token, `inside` a whole group, `listed` a list with commas and
-- perhaps one at the end, `joined` one or more with a mark between, `maybe` a part that is there where its test says so.
use Rattle.std.specs.Prelude.{◌≡◌, ℕ, Bool, true, false, not, ◌||◌, ◌&&◌, ◌==◌, if◌then◌else◌, List, [], ◌∷◌, ◌++◌, length, drop, take, codes, nat_le, Option, Some, None}
use Rattle.std.specs.Str.{bytes_eq}
use Rattle.syn_lexer.specs.Keywords.{is_reserved_word}
use Rattle.syn_lexer.specs.declared.front.Delimiter.{Delimiter}
use Rattle.syn_lexer.specs.declared.front.Delimiter.TheVariants as del
use Rattle.syn_lexer.specs.declared.front.Spacing.TheVariants as spacing
use Rattle.syn_tokens.specs.Tok.{Tok, ident, punct, literal, group, toks}
use Rattle.syn_lower_spec.specs.declared.label.LitKind.{LitKind}
use Rattle.syn_lower_spec.specs.declared.label.LitKind.TheVariants as kind
use Rattle.syn_lower_spec.specs.declared.label.PathStyle.{PathStyle}
use Rattle.syn_lower_spec.specs.declared.label.PathStyle.TheVariants as style
use Rattle.syn_tokens.specs.Front.{group_at, is_empty}
use Rattle.syn_lower_spec.specs.Form.{Form, Outcome, Test, Mark, leaf, when, fix, mark, then_by, both, shown, pure, inside, case, group_case, flag, is_true, maybe, listed, joined, more, closed_by}
use Rattle.syn_lower_spec.specs.Mark.{lifetime_at, round_at, brace_at, and, star, bang, plus, comma, semi, pound, question, colon2, arrow, gt, less, lt, eq, not_ne, lone_colon, mutable, constant, as_word, dynamic, implementing, for_word, unsafe_word, extern_word, fn_word, underscore, quote}
use Rattle.syn_lower_spec.specs.Text.{Text, stands_alone, is_segment, is_truth, number_kind, is_number, kind_of}
use Rattle.syn_lower_spec.specs.Tree as t
use Rattle.syn_lower_spec.specs.Tree.{LitTree, AttributeTree, LifetimesTree, TypeTree, SegmentTree, PathTree, FnArgTree, ArgumentsTree, GenericTree, ReturnTree, BoundTree}
use Rattle.syn_lower_spec.specs.Same.{same_lit, same_toks, same_group}

-- ---- words

abbrev pub word_if : Bool → Text → List Tok → Outcome Text
word_if b w l = if b then Some (w, l) else None

abbrev pub find_ident : List Tok → Outcome Text
find_ident (ident w ∷ l) = word_if (not (is_reserved_word w)) w l
find_ident _ = None

-- an identifier (Rust Reference, "Identifiers"): a word that is not reserved
unfoldable pub name : Form Text
name = leaf bytes_eq find_ident

abbrev pub find_segment : List Tok → Outcome Text
find_segment (ident w ∷ l) = word_if (is_segment w) w l
find_segment _ = None

-- an identifier, or a word that names a place (Rust Reference, "Simple paths")
unfoldable pub segment_name : Form Text
segment_name = leaf bytes_eq find_segment

abbrev pub find_word : List Tok → Outcome Text
find_word (ident w ∷ l) = Some (w, l)
find_word _ = None

-- an apostrophe and any word (Rust Reference, "Lifetimes and loop labels")
unfoldable pub lifetime : Form Text
lifetime = mark quote (leaf bytes_eq find_word)

abbrev pub is_name_there : Test
is_name_there (ident w ∷ l) = not (is_reserved_word w)
is_name_there _ = false

-- ---- literals (Rust Reference, "Literal expressions")

abbrev pub lit_if : Option LitKind → Text → List Tok → Outcome LitTree
lit_if None text l = None
lit_if (Some k) text l = Some (record { kind = k; text = text }, l)

abbrev pub truth_if : Bool → Text → List Tok → Outcome LitTree
truth_if b text l = if b then Some (record { kind = kind.Bool; text = text }, l) else None

abbrev pub find_lit : List Tok → Outcome LitTree
find_lit (literal text ∷ l) = lit_if (kind_of text) text l
find_lit (ident text ∷ l) = truth_if (is_truth text) text l
find_lit _ = None

-- a literal without a sign
unfoldable pub unsigned : Form LitTree
unsigned = leaf same_lit find_lit

abbrev pub negative_if : Bool → Text → List Tok → Outcome LitTree
negative_if b text l = if b then Some (record { kind = number_kind text; text = 45 ∷ text }, l) else None

abbrev pub find_signed : List Tok → Outcome LitTree
find_signed (punct c s ∷ literal text ∷ l) = negative_if (c == 45 && is_number text) text l
find_signed l = find_lit l

-- a literal, or `-` and a number
unfoldable pub lit : Form LitTree
lit = leaf same_lit find_signed

abbrev pub is_lit_there : Test
is_lit_there (literal text ∷ l) = true
is_lit_there (ident text ∷ l) = is_truth text
is_lit_there (punct c s ∷ l) = c == 45
is_lit_there _ = false

abbrev pub string_if : Option LitKind → Text → List Tok → Outcome LitTree
string_if (Some kind.Str) text l = Some (record { kind = kind.Str; text = text }, l)
string_if _ text l = None

abbrev pub find_string : List Tok → Outcome LitTree
find_string (literal text ∷ l) = string_if (kind_of text) text l
find_string _ = None

unfoldable pub string : Form LitTree
string = leaf same_lit find_string

abbrev pub is_literal_there : Test
is_literal_there (literal text ∷ l) = true
is_literal_there _ = false

abbrev pub is_string_kind : Option LitKind → Bool
is_string_kind (Some kind.Str) = true
is_string_kind _ = false

abbrev pub is_string_there : Test
is_string_there (literal text ∷ l) = is_string_kind (kind_of text)
is_string_there _ = false

unfoldable pub string_at : Test
string_at l = is_string_there l

-- ---- verbatim tokens

-- a group's inside, as it is
unfoldable pub verbatim : Delimiter → Form (List Tok)
verbatim d = leaf same_toks (λ l. group_at d l)

abbrev pub find_group : List Tok → Outcome (Delimiter × List Tok)
find_group (group del.None i ∷ l) = None
find_group (group d i ∷ l) = Some ((d, toks i), l)
find_group _ = None

-- a group in parentheses, braces or brackets
unfoldable pub any_group : Form (Delimiter × List Tok)
any_group = leaf same_group find_group

-- all that is left, at least one token
abbrev pub find_all : List Tok → Outcome (List Tok)
find_all [] = None
find_all (x ∷ l) = Some (x ∷ l, [])

unfoldable pub rest_of : Form (List Tok)
rest_of = leaf same_toks find_all

-- ---- attributes (Rust Reference, "Attributes") and blocks

abbrev pub to_outer : List Tok → AttributeTree
to_outer ts = record { inner = false; tokens = ts }

abbrev pub from_outer : AttributeTree → Option (List Tok)
from_outer a = if a.inner then None else Some a.tokens

abbrev pub to_inner : List Tok → AttributeTree
to_inner ts = record { inner = true; tokens = ts }

abbrev pub from_inner : AttributeTree → Option (List Tok)
from_inner a = if a.inner then Some a.tokens else None

unfoldable pub outer_body : Form AttributeTree
outer_body = shown to_outer from_outer (verbatim del.Bracket)

unfoldable pub inner_body : Form AttributeTree
inner_body = shown to_inner from_inner (verbatim del.Bracket)

abbrev pub pound_bang : Mark
pound_bang = record { at = λ l. pound.at l && bang.at (drop 1 l); count = 2 }

-- `#` `[..]`, or `#` `!` `[..]`
unfoldable pub attribute : Form AttributeTree
attribute = case pound_bang inner_body (mark pound outer_body)

-- as many outer attributes as there are, and as many inner ones
unfoldable pub outer_attributes : Form (List AttributeTree)
outer_attributes = more pound outer_body

unfoldable pub inner_attributes : Form (List AttributeTree)
inner_attributes = more pound_bang inner_body

-- a brace group of verbatim tokens (Rust Reference, "Block expressions")
unfoldable pub block : Form (List Tok)
block = verbatim del.Brace

-- ---- lists as the trees hold them

abbrev pub to_path : Bool × List SegmentTree → PathTree
to_path p = record { leading = p.0; segments = p.1; trailing = false }

abbrev pub from_path : PathTree → Option (Bool × List SegmentTree)
from_path p = if p.trailing then None else Some (p.leading, p.segments)

-- ---- arguments of paths

abbrev pub to_angle : Bool × (List GenericTree × Bool) → ArgumentsTree
to_angle p = t.angle p.0 (t.generics_of p.1.0) p.1.1

abbrev pub from_angle : ArgumentsTree → Option (Bool × (List GenericTree × Bool))
from_angle (t.angle c gs e) = Some (c, (t.generics gs, e))
from_angle _ = None

abbrev pub to_round : (List TypeTree × Bool) × ReturnTree → ArgumentsTree
to_round p = t.round (t.types_of p.0.0) p.0.1 p.1

abbrev pub from_round : ArgumentsTree → Option ((List TypeTree × Bool) × ReturnTree)
from_round (t.round ts e r) = Some ((t.types ts, e), r)
from_round _ = None

abbrev pub has_none : ArgumentsTree → Bool
has_none t.no_arguments = true
has_none _ = false

abbrev pub to_segment : Text × ArgumentsTree → SegmentTree
to_segment p = record { ident = p.0; arguments = p.1 }

abbrev pub from_segment : SegmentTree → Option (Text × ArgumentsTree)
from_segment s = Some (s.ident, s.arguments)

unfoldable pub no_arguments : Form ArgumentsTree
no_arguments = pure t.no_arguments has_none

abbrev pub from_lifetime : GenericTree → Option Text
from_lifetime (t.a_lifetime w) = Some w
from_lifetime _ = None

abbrev pub from_const : GenericTree → Option (List Tok)
from_const (t.a_const ts) = Some ts
from_const _ = None

abbrev pub to_assoc : Text × TypeTree → GenericTree
to_assoc p = t.an_assoc p.0 p.1

abbrev pub from_assoc : GenericTree → Option (Text × TypeTree)
from_assoc (t.an_assoc w x) = Some (w, x)
from_assoc _ = None

abbrev pub from_type : GenericTree → Option TypeTree
from_type (t.a_type x) = Some x
from_type _ = None

-- The tokens of a constant argument: a literal, `-` and a number, or a brace group (Rust Reference, "Const generics").
-- The `-` is a token of the argument, and so kept alone, however it was joined.
abbrev pub const_if : Bool → List Tok → List Tok → Outcome (List Tok)
const_if b ts l = if b then Some (ts, l) else None

abbrev pub find_const : List Tok → Outcome (List Tok)
find_const (literal text ∷ l) = Some (literal text ∷ [], l)
find_const (ident text ∷ l) = const_if (is_truth text) (ident text ∷ []) l
find_const (punct c s ∷ literal text ∷ l) = const_if (c == 45 && is_number text) (punct c spacing.Alone ∷ literal text ∷ []) l
find_const (group del.Brace i ∷ l) = Some (group del.Brace i ∷ [], l)
find_const _ = None

unfoldable pub constant_tokens : Form (List Tok)
constant_tokens = leaf same_toks find_const

unfoldable pub const_at : Test
const_at l = is_lit_there l || brace_at l

-- a name and a single `=`
unfoldable pub assoc_at : Test
assoc_at l = is_name_there l && eq.at (drop 1 l)

-- `<`, but not `<=`, `::` before it or not
unfoldable pub angle_at : Test
angle_at l = lt.at l || (colon2.at l && lt.at (drop 2 l))

-- `::` and `<`
unfoldable pub turbofish_at : Test
turbofish_at l = colon2.at l && lt.at (drop 2 l)

-- ---- lifetimes and bounds

-- `for` `<` lifetimes `>` (Rust Reference, "Higher-ranked trait bounds")
unfoldable pub lifetimes : Form LifetimesTree
lifetimes = mark for_word (mark less (closed_by gt (listed comma gt.at lifetime)))

-- `for` `<`, and then `>` or a lifetime
unfoldable pub lifetimes_at : Test
lifetimes_at l = for_word.at l && (less.at (drop 1 l) && (gt.at (drop 2 l) || lifetime_at (drop 2 l)))

abbrev pub to_trait : Bool × (Option LifetimesTree × PathTree) → BoundTree
to_trait p = t.a_trait p.0 p.1.0 p.1.1.leading (t.segments_of p.1.1.segments) p.1.1.trailing

abbrev pub from_trait : BoundTree → Option (Bool × (Option LifetimesTree × PathTree))
from_trait (t.a_trait q f b ss e) = Some (q, (f, record { leading = b; segments = t.segments ss; trailing = e }))
from_trait _ = None

abbrev pub from_outlives : BoundTree → Option Text
from_outlives (t.outlives w) = Some w
from_outlives _ = None

abbrev pub to_one : BoundTree → List BoundTree × Bool
to_one b = (b ∷ [], false)

abbrev pub from_one : List BoundTree × Bool → Option BoundTree
from_one (b ∷ [], false) = Some b
from_one _ = None

abbrev pub to_several : List BoundTree → List BoundTree × Bool
to_several bs = (bs, false)

abbrev pub from_several : List BoundTree × Bool → Option (List BoundTree)
from_several (bs, false) = Some bs
from_several (bs, true) = None

-- ---- qualified paths (Rust Reference, "Qualified paths")

-- Between `<` and `>` a type, and `as` with a path; after `>` the other segments. The path holds all segments, the
-- position says how many are inside; without `as` it is 0, and the path's leading `::` is the one after `>`.
abbrev pub Qualified : Type 0
Qualified = TypeTree × Option (Bool × List SegmentTree)

abbrev pub QPathTree : Type 0
QPathTree = t.QSelfTree × PathTree

abbrev pub to_qualified : Qualified × List SegmentTree → QPathTree
to_qualified ((x, None), ss) = (t.qself x 0 false, record { leading = true; segments = ss; trailing = false })
to_qualified ((x, Some p), ss) = (t.qself x (length p.1) true, record { leading = p.0; segments = p.1 ++ ss; trailing = false })

abbrev pub qualified_by : TypeTree → ℕ → Bool → PathTree → Option (Qualified × List SegmentTree)
qualified_by x n false p = if n == 0 && (p.leading && not p.trailing) then Some ((x, None), p.segments) else None
qualified_by x n true p =
    if nat_le n (length p.segments) && not p.trailing then Some ((x, Some (p.leading, take n p.segments)), drop n p.segments) else None

abbrev pub from_qualified : QPathTree → Option (Qualified × List SegmentTree)
from_qualified (t.no_qself, p) = None
from_qualified (t.qself x n a, p) = qualified_by x n a p

abbrev pub to_bare : PathTree → QPathTree
to_bare p = (t.no_qself, p)

abbrev pub from_bare : QPathTree → Option PathTree
from_bare (t.no_qself, p) = Some p
from_bare (t.qself x n a, p) = None

-- ---- types

abbrev pub segments_bare : List SegmentTree → Bool
segments_bare [] = true
segments_bare (s ∷ ss) = has_none s.arguments && segments_bare ss

-- without qualified self and arguments
abbrev pub is_bare : QPathTree → Bool
is_bare (t.no_qself, p) = segments_bare p.segments
is_bare (t.qself x n a, p) = false

abbrev pub MacroEnd : Type 0
MacroEnd = Option (Delimiter × List Tok)

abbrev pub to_named : QPathTree × MacroEnd → TypeTree
to_named ((q, p), None) = t.path q p.leading (t.segments_of p.segments) p.trailing
to_named ((q, p), Some g) = t.mac p.leading (t.segments_of p.segments) p.trailing g.0 g.1

abbrev pub from_named : TypeTree → Option (QPathTree × MacroEnd)
from_named (t.path q b ss e) = Some ((q, record { leading = b; segments = t.segments ss; trailing = e }), None)
from_named (t.mac b ss e d ts) = Some ((t.no_qself, record { leading = b; segments = t.segments ss; trailing = e }), Some (d, ts))
from_named _ = None

abbrev pub to_reference : Option Text × (Bool × TypeTree) → TypeTree
to_reference p = t.reference p.0 p.1.0 p.1.1

abbrev pub from_reference : TypeTree → Option (Option Text × (Bool × TypeTree))
from_reference (t.reference a m x) = Some (a, (m, x))
from_reference _ = None

abbrev pub to_pointer : Bool × TypeTree → TypeTree
to_pointer p = t.ptr p.0 p.1

abbrev pub from_pointer : TypeTree → Option (Bool × TypeTree)
from_pointer (t.ptr m x) = Some (m, x)
from_pointer _ = None

abbrev pub to_row : TypeTree × Option (List Tok) → TypeTree
to_row (x, None) = t.slice x
to_row (x, Some n) = t.array x n

abbrev pub from_row : TypeTree → Option (TypeTree × Option (List Tok))
from_row (t.slice x) = Some (x, None)
from_row (t.array x n) = Some (x, Some n)
from_row _ = None

-- one type without a comma is in parentheses, all else a tuple
abbrev pub to_tuple : List TypeTree × Bool → TypeTree
to_tuple ([], c) = t.tuple t.no_types c
to_tuple (x ∷ [], true) = t.tuple (t.types_of (x ∷ [])) true
to_tuple (x ∷ [], false) = t.paren x
to_tuple (x ∷ y ∷ ts, c) = t.tuple (t.types_of (x ∷ y ∷ ts)) c

abbrev pub tuple_of : List TypeTree → Bool → Option (List TypeTree × Bool)
tuple_of [] c = Some ([], c)
tuple_of (x ∷ []) true = Some (x ∷ [], true)
tuple_of (x ∷ []) false = None
tuple_of (x ∷ y ∷ ts) c = Some (x ∷ y ∷ ts, c)

abbrev pub from_tuple : TypeTree → Option (List TypeTree × Bool)
from_tuple (t.tuple ts c) = tuple_of (t.types ts) c
from_tuple (t.paren x) = Some (x ∷ [], false)
from_tuple _ = None

abbrev pub to_impl : List BoundTree × Bool → TypeTree
to_impl p = t.impl_trait (t.bounds_of p.0) p.1

abbrev pub from_impl : TypeTree → Option (List BoundTree × Bool)
from_impl (t.impl_trait bs e) = Some (t.bounds bs, e)
from_impl _ = None

abbrev pub to_object : List BoundTree × Bool → TypeTree
to_object p = t.trait_object (t.bounds_of p.0) p.1

abbrev pub from_object : TypeTree → Option (List BoundTree × Bool)
from_object (t.trait_object bs e) = Some (t.bounds bs, e)
from_object _ = None

abbrev pub is_never : TypeTree → Bool
is_never t.never = true
is_never _ = false

abbrev pub is_infer : TypeTree → Bool
is_infer t.infer = true
is_infer _ = false

abbrev pub to_arg : Option Text × TypeTree → FnArgTree
to_arg p = record { name = p.0; ty = p.1 }

abbrev pub from_arg : FnArgTree → Option (Option Text × TypeTree)
from_arg x = Some (x.name, x.ty)

-- lifetimes, `unsafe`, `extern` and its string
abbrev pub FnHead : Type 0
FnHead = Option LifetimesTree × (Bool × Option (Option LitTree))

abbrev pub to_fn : FnHead × ((List FnArgTree × Bool) × ReturnTree) → TypeTree
to_fn p = t.fn_ptr p.0.0 p.0.1.0 p.0.1.1 (t.args_of p.1.0.0) p.1.0.1 p.1.1

abbrev pub from_fn : TypeTree → Option (FnHead × ((List FnArgTree × Bool) × ReturnTree))
from_fn (t.fn_ptr f u a xs e r) = Some ((f, (u, a)), ((t.args xs, e), r))
from_fn _ = None

abbrev pub from_given : ReturnTree → Option TypeTree
from_given (t.given x) = Some x
from_given t.default = None

abbrev pub is_default : ReturnTree → Bool
is_default t.default = true
is_default (t.given x) = false

-- an identifier or `_`
abbrev pub is_arg_name : Text → Bool
is_arg_name w = not (is_reserved_word w) || bytes_eq w (codes "_")

abbrev pub find_arg_name : List Tok → Outcome Text
find_arg_name (ident w ∷ l) = word_if (is_arg_name w) w l
find_arg_name _ = None

unfoldable pub arg_name : Form Text
arg_name = leaf bytes_eq find_arg_name

abbrev pub is_arg_name_there : Test
is_arg_name_there (ident w ∷ l) = is_arg_name w
is_arg_name_there _ = false

-- a name and a `:` that doesn't begin `::`
unfoldable pub arg_name_at : Test
arg_name_at l = is_arg_name_there l && lone_colon.at (drop 1 l)

unfoldable pub fn_at : Test
fn_at l = lifetimes_at l || (unsafe_word.at l || (extern_word.at l || fn_word.at l))

-- `extern` and perhaps a string (Rust Reference, "Function pointer types", "ABI")
abbrev pub abi : Form (Option LitTree)
abi = mark extern_word (maybe string_at string)

unfoldable pub fn_head : Form FnHead
fn_head = both (maybe lifetimes_at lifetimes) (both (flag unsafe_word) (maybe extern_word.at abi))

-- `mut` or `const` (Rust Reference, "Pointer types")
abbrev pub mutability : Form Bool
mutability = case mutable (pure true is_true) (mark constant (pure false not))

-- after a path without arguments, `!` and a group make it a macro (Rust Reference, "Macro Invocation")
unfoldable pub macro_end : QPathTree → Form MacroEnd
macro_end p = maybe (λ l. is_bare p && not_ne.at l) (mark not_ne any_group)

-- `type several` is a type; after its `impl` or `dyn` several bounds may stand, or one.
module _ (type : Bool → Form TypeTree) where
  -- `->` and a type, or nothing (Rust Reference, "Functions", "Function pointer types")
  unfoldable pub output : Bool → Form ReturnTree
  output several = case arrow (shown t.given from_given (type several)) (pure t.default is_default)

  -- a name, `=` and a type (Rust Reference, "Paths in expressions")
  abbrev pub assoc : Form (Text × TypeTree)
  assoc = both name (mark eq (type true))

  -- an argument between `<` and `>` (Rust Reference, "Paths in expressions")
  unfoldable pub generic : Form GenericTree
  generic =
      when lifetime_at (shown t.a_lifetime from_lifetime lifetime)
      (when const_at (shown t.a_const from_const constant_tokens)
      (when assoc_at (shown to_assoc from_assoc assoc)
      (shown t.a_type from_type (type true))))

  -- `<` arguments `>` (Rust Reference, "Paths in expressions")
  unfoldable pub angle : Form (List GenericTree × Bool)
  angle = mark lt (closed_by gt (listed comma gt.at generic))

  -- `::`? `<..>`
  unfoldable pub angle_bracketed : Form ArgumentsTree
  angle_bracketed = shown to_angle from_angle (both (flag colon2) angle)

  -- `(` types `)`, and `->` with a type or not (Rust Reference, "Paths in types")
  unfoldable pub parenthesized : Form ArgumentsTree
  parenthesized = shown to_round from_round (both (inside del.Parenthesis (listed comma is_empty (type true))) (output false))

  -- what may come after a segment's name (Rust Reference, "Simple paths", "Paths in expressions", "Paths in types")
  unfoldable pub arguments : PathStyle → Form ArgumentsTree
  arguments style.Mod = no_arguments
  arguments style.Expr = when turbofish_at angle_bracketed no_arguments
  arguments style.Type = when angle_at angle_bracketed (when round_at parenthesized no_arguments)

  -- `super`, `self`, `crate` and `try` take no arguments (Rust Reference, "Path qualifiers").
  unfoldable pub segment : PathStyle → Form SegmentTree
  segment s = shown to_segment from_segment (then_by segment_name (λ w. when (λ l. stands_alone w) no_arguments (arguments s)))

  -- `::`? and segments with `::` between (Rust Reference, "Paths")
  unfoldable pub pieces : PathStyle → Form (Bool × List SegmentTree)
  pieces s = both (flag colon2) (joined colon2 (segment s))

  unfoldable pub path : PathStyle → Form PathTree
  path s = shown to_path from_path (pieces s)

  -- `<` T (`as` path)? `>` `::` segments, or a path (Rust Reference, "Qualified paths")
  unfoldable pub qualified : PathStyle → Form QPathTree
  qualified s = shown to_qualified from_qualified
      (both (closed_by gt (both (type true) (maybe as_word.at (mark as_word (pieces style.Type))))) (mark colon2 (joined colon2 (segment s))))

  unfoldable pub qpath : PathStyle → Form QPathTree
  qpath s = case less (qualified s) (shown to_bare from_bare (path s))

  -- `?`? `for<..>`? path (Rust Reference, "Trait and lifetime bounds")
  abbrev pub trait_bound : Form BoundTree
  trait_bound = shown to_trait from_trait (both (flag question) (both (maybe lifetimes_at lifetimes) (path style.Type)))

  -- a lifetime, or a trait (Rust Reference, "Trait and lifetime bounds")
  unfoldable pub bound : Form BoundTree
  bound = when lifetime_at (shown t.outlives from_outlives lifetime) trait_bound

  -- several with `+` between, or one
  unfoldable pub bounds : Bool → Form (List BoundTree × Bool)
  bounds several = when (λ l. several) (shown to_several from_several (joined plus bound)) (shown to_one from_one bound)

  -- Rust Reference, "Pointer types"
  unfoldable pub reference : Form TypeTree
  reference = shown to_reference from_reference (both (maybe lifetime_at lifetime) (both (flag mutable) (type false)))

  unfoldable pub pointer : Form TypeTree
  pointer = shown to_pointer from_pointer (both mutability (type false))

  -- Rust Reference, "Array types", "Slice types"
  unfoldable pub slice_or_array : Form TypeTree
  slice_or_array = shown to_row from_row (both (type true) (maybe semi.at (mark semi rest_of)))

  -- Rust Reference, "Tuple types", "Parenthesized types"
  unfoldable pub tuple_or_paren : Form TypeTree
  tuple_or_paren = shown to_tuple from_tuple (listed comma is_empty (type true))

  -- a name and `:` or not, and a type (Rust Reference, "Function pointer types")
  unfoldable pub fn_arg : Form FnArgTree
  fn_arg = shown to_arg from_arg (both (maybe arg_name_at (closed_by lone_colon arg_name)) (type true))

  -- Rust Reference, "Function pointer types"
  unfoldable pub fn_pointer : Form TypeTree
  fn_pointer = shown to_fn from_fn (both fn_head (mark fn_word (both (inside del.Parenthesis (listed comma is_empty fn_arg)) (output false))))

  -- Rust Reference, "Impl trait", "Trait objects"
  unfoldable pub implements : Bool → Form TypeTree
  implements several = shown to_impl from_impl (bounds several)

  unfoldable pub object : Bool → Form TypeTree
  object several = shown to_object from_object (bounds several)

  -- a path, or a macro (Rust Reference, "Paths in types", "Macro Invocation")
  unfoldable pub named : Form TypeTree
  named = shown to_named from_named (then_by (qpath style.Type) macro_end)

  -- by what comes first: `&`, `*`, `!` (Rust Reference, "Never type"), `_` ("Inferred type"), a group, a function
  -- pointer, `impl`, `dyn`, or a name
  unfoldable pub at_place : Bool → Form TypeTree
  at_place several =
      case and reference
      (case star pointer
      (case bang (pure t.never is_never)
      (case underscore (pure t.infer is_infer)
      (group_case del.Bracket slice_or_array
      (group_case del.Parenthesis tuple_or_paren
      (when fn_at fn_pointer
      (case implementing (implements several)
      (case dynamic (object several)
      named))))))))

-- a type (Rust Reference, "Type expressions")
unfoldable pub type : Bool → Form TypeTree
type = fix {A = λ several. TypeTree} at_place

-- l begins with the tokens of x, and what is after them, the rest, doesn't go on with x
abbrev pub SpellsType : Bool → List Tok → TypeTree → List Tok → Type 0
SpellsType several l x rest = (type several).behind x l ≡ Some rest

-- ---- macros (Rust Reference, "Macro Invocation")

pub record MacroTree : Type 0 where
  pub path : PathTree
  pub delimiter : Delimiter
  pub tokens : List Tok

abbrev pub to_macro : PathTree × (Delimiter × List Tok) → MacroTree
to_macro p = record { path = p.0; delimiter = p.1.0; tokens = p.1.1 }

abbrev pub from_macro : MacroTree → Option (PathTree × (Delimiter × List Tok))
from_macro m = Some (m.path, (m.delimiter, m.tokens))

unfoldable pub macro : Form MacroTree
macro = shown to_macro from_macro (both (path type style.Mod) (mark not_ne any_group))

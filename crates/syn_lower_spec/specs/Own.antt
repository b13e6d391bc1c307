-- The own tokens of each lower part: its spelling from left to right, the last punct of each token alone.
-- `x_own x r` is the tokens of x before the tokens r.
use Rattle.std.specs.Prelude.{ℕ, zero, suc, Bool, true, false, not, ◌||◌, ◌==◌, nat_le, if◌then◌else◌, List, [], ◌∷◌, ◌++◌, codes, Option, Some, None}
use Rattle.syn_lexer.specs.declared.front.Delimiter.{Delimiter}
use Rattle.syn_lexer.specs.declared.front.Delimiter.TheVariants as del
use Rattle.syn_lexer.specs.declared.front.Spacing.TheVariants as spacing
use Rattle.syn_tokens.specs.Tok.{Tok, ident, punct, literal, group, inside}
use Rattle.syn_lower_spec.specs.declared.label.LitKind.{LitKind}
use Rattle.syn_lower_spec.specs.declared.label.LitKind.TheVariants as kind
use Rattle.syn_lower_spec.specs.Text.{Text}
use Rattle.syn_lower_spec.specs.Tree as t
use Rattle.syn_lower_spec.specs.Tree.{LitTree, AttributeTree, LifetimesTree, TypeTree, Types, QSelfTree, Segments, SegmentTree, PathTree, FnArgs, FnArgTree, ArgumentsTree, Generics, GenericTree, ReturnTree, Bounds, BoundTree}
use Rattle.syn_lower_spec.specs.Part.{MacroTree, QPathTree}
use Rattle.syn_lower_spec.specs.Form.{is_nil}

-- a punct by itself, and one that the next is joined to
abbrev pub alone : ℕ → Tok
alone c = punct c spacing.Alone

abbrev pub joint : ℕ → Tok
joint c = punct c spacing.Joint

abbrev pub comma_before : List Tok → List Tok
comma_before r = alone 44 ∷ r

abbrev pub colon2_before : List Tok → List Tok
colon2_before r = joint 58 ∷ alone 58 ∷ r

abbrev pub arrow_before : List Tok → List Tok
arrow_before r = joint 45 ∷ alone 62 ∷ r

-- tokens that are there or not
abbrev pub before_if : Bool → (List Tok → List Tok) → List Tok → List Tok
before_if true f r = f r
before_if false f r = r

abbrev pub before_some : {A : Type 0} → Option A → (A → List Tok → List Tok) → List Tok → List Tok
before_some None f r = r
before_some (Some x) f r = f x r

abbrev pub enclosed : Delimiter → List Tok → List Tok → List Tok
enclosed d ts r = group d (inside ts) ∷ r

-- ---- words and literals

abbrev pub word_own : Text → List Tok → List Tok
word_own w r = ident w ∷ r

abbrev pub lifetime_own : Text → List Tok → List Tok
lifetime_own w r = joint 39 ∷ ident w ∷ r

-- A number with a sign is two tokens.
abbrev pub number_own : Text → List Tok → List Tok
number_own [] r = literal [] ∷ r
number_own (c ∷ text) r = if c == 45 then alone 45 ∷ literal text ∷ r else literal (c ∷ text) ∷ r

abbrev pub lit_own_by : LitKind → Text → List Tok → List Tok
lit_own_by kind.Bool text r = ident text ∷ r
lit_own_by kind.Int text r = number_own text r
lit_own_by kind.Float text r = number_own text r
lit_own_by _ text r = literal text ∷ r

unfoldable pub lit_own : LitTree → List Tok → List Tok
lit_own x r = lit_own_by x.kind x.text r

-- ---- attributes and blocks

unfoldable pub attribute_own : AttributeTree → List Tok → List Tok
attribute_own a r = alone 35 ∷ before_if a.inner (λ m. alone 33 ∷ m) (enclosed del.Bracket a.tokens r)

unfoldable pub block_own : List Tok → List Tok → List Tok
block_own ts r = enclosed del.Brace ts r

-- ---- lists

-- a separator where there are more, or where one ends the list
abbrev pub separated : Bool → Bool → (List Tok → List Tok) → List Tok → List Tok
separated last e sep r = before_if (not last || e) sep r

-- the elements, with separators between, and perhaps one at the end
abbrev pub elements_own : {A : Type 0} → (A → List Tok → List Tok) → (List Tok → List Tok) → List A → Bool → List Tok → List Tok
elements_own own sep [] e r = r
elements_own own sep (x ∷ xs) e r = own x (separated (is_nil xs) e sep (elements_own own sep xs e r))

unfoldable pub lifetimes_own : LifetimesTree → List Tok → List Tok
lifetimes_own p r = ident (codes "for") ∷ alone 60 ∷ elements_own lifetime_own comma_before p.0 p.1 (alone 62 ∷ r)

abbrev pub string_own : Option LitTree → List Tok → List Tok
string_own None r = r
string_own (Some x) r = lit_own x r

abbrev pub extern_own : Option LitTree → List Tok → List Tok
extern_own o r = ident (codes "extern") ∷ string_own o r

-- ---- types

abbrev pub mutability_own : Bool → List Tok → List Tok
mutability_own m r = ident (if m then codes "mut" else codes "const") ∷ r

abbrev pub no_more_types : Types → Bool
no_more_types t.no_types = true
no_more_types (t.more_types x xs) = false

abbrev pub no_more_segments : Segments → Bool
no_more_segments t.no_segments = true
no_more_segments (t.more_segments w a ss) = false

abbrev pub no_more_generics : Generics → Bool
no_more_generics t.no_generics = true
no_more_generics (t.more_generics g gs) = false

abbrev pub no_more_args : FnArgs → Bool
no_more_args t.no_args = true
no_more_args (t.more_args n x xs) = false

abbrev pub no_more_bounds : Bounds → Bool
no_more_bounds t.no_bounds = true
no_more_bounds (t.more_bounds b bs) = false

-- `>` after the last of the segments that are inside
abbrev pub closed_at : ℕ → List Tok → List Tok
closed_at zero r = r
closed_at (suc zero) r = alone 62 ∷ r
closed_at (suc (suc n)) r = r

abbrev pub one_less : ℕ → ℕ
one_less zero = zero
one_less (suc n) = n

abbrev pub count_segments : Segments → ℕ
count_segments t.no_segments = 0
count_segments (t.more_segments w a ss) = suc (count_segments ss)

abbrev pub at_most : ℕ → ℕ → ℕ
at_most n k = if nat_le n k then n else k

-- how many of k segments are inside: no more than there are
abbrev pub inner_count : QSelfTree → ℕ → ℕ
inner_count t.no_qself k = 0
inner_count (t.qself x n a) k = at_most n k

-- after the type of a qualified path: `as` where segments are inside, else `>`
abbrev pub qself_end : ℕ → List Tok → List Tok
qself_end zero r = alone 62 ∷ r
qself_end (suc n) r = ident (codes "as") ∷ r

abbrev mutual
  pub type_own : TypeTree → List Tok → List Tok
  type_own (t.path q b ss e) r = qself_own q (count_segments ss) (before_if b colon2_before (segments_own (inner_count q (count_segments ss)) ss e r))
  type_own (t.mac b ss e d ts) r = before_if b colon2_before (segments_own 0 ss e (alone 33 ∷ enclosed d ts r))
  type_own (t.reference a m x) r = alone 38 ∷ before_some a lifetime_own (before_if m (λ l. ident (codes "mut") ∷ l) (type_own x r))
  type_own (t.ptr m x) r = alone 42 ∷ mutability_own m (type_own x r)
  type_own (t.slice x) r = enclosed del.Bracket (type_own x []) r
  type_own (t.array x n) r = enclosed del.Bracket (type_own x (alone 59 ∷ n)) r
  type_own (t.tuple xs e) r = enclosed del.Parenthesis (types_own xs e []) r
  type_own (t.paren x) r = enclosed del.Parenthesis (type_own x []) r
  type_own t.never r = alone 33 ∷ r
  type_own t.infer r = ident (codes "_") ∷ r
  type_own (t.fn_ptr f u a xs e o) r =
      before_some f lifetimes_own (before_if u (λ l. ident (codes "unsafe") ∷ l) (before_some a extern_own
      (ident (codes "fn") ∷ enclosed del.Parenthesis (args_own xs e []) (return_own o r))))
  type_own (t.impl_trait bs e) r = ident (codes "impl") ∷ bounds_own bs e r
  type_own (t.trait_object bs e) r = ident (codes "dyn") ∷ bounds_own bs e r

  pub types_own : Types → Bool → List Tok → List Tok
  types_own t.no_types e r = r
  types_own (t.more_types x xs) e r = type_own x (separated (no_more_types xs) e comma_before (types_own xs e r))

  -- before a path of k segments
  pub qself_own : QSelfTree → ℕ → List Tok → List Tok
  qself_own t.no_qself k r = r
  qself_own (t.qself x n a) k r = alone 60 ∷ type_own x (qself_end (at_most n k) r)

  -- `n` segments come before a `>`, or 0
  pub segments_own : ℕ → Segments → Bool → List Tok → List Tok
  segments_own n t.no_segments e r = r
  segments_own n (t.more_segments w a ss) e r =
      ident w ∷ arguments_own a (closed_at n (separated (no_more_segments ss) e colon2_before (segments_own (one_less n) ss e r)))

  pub arguments_own : ArgumentsTree → List Tok → List Tok
  arguments_own t.no_arguments r = r
  arguments_own (t.angle c gs e) r = before_if c colon2_before (alone 60 ∷ generics_own gs e (alone 62 ∷ r))
  arguments_own (t.round xs e o) r = enclosed del.Parenthesis (types_own xs e []) (return_own o r)

  pub generics_own : Generics → Bool → List Tok → List Tok
  generics_own t.no_generics e r = r
  generics_own (t.more_generics g gs) e r = generic_own g (separated (no_more_generics gs) e comma_before (generics_own gs e r))

  pub generic_own : GenericTree → List Tok → List Tok
  generic_own (t.a_lifetime w) r = lifetime_own w r
  generic_own (t.a_const ts) r = ts ++ r
  generic_own (t.an_assoc w x) r = ident w ∷ alone 61 ∷ type_own x r
  generic_own (t.a_type x) r = type_own x r

  pub return_own : ReturnTree → List Tok → List Tok
  return_own t.default r = r
  return_own (t.given x) r = arrow_before (type_own x r)

  pub args_own : FnArgs → Bool → List Tok → List Tok
  args_own t.no_args e r = r
  args_own (t.more_args n x xs) e r =
      before_some n (λ w l. ident w ∷ alone 58 ∷ l) (type_own x (separated (no_more_args xs) e comma_before (args_own xs e r)))

  pub bounds_own : Bounds → Bool → List Tok → List Tok
  bounds_own t.no_bounds e r = r
  bounds_own (t.more_bounds b bs) e r = bound_own b (separated (no_more_bounds bs) e (λ l. alone 43 ∷ l) (bounds_own bs e r))

  pub bound_own : BoundTree → List Tok → List Tok
  bound_own (t.outlives w) r = lifetime_own w r
  bound_own (t.a_trait q f b ss e) r =
      before_if q (λ l. alone 63 ∷ l) (before_some f lifetimes_own (before_if b colon2_before (segments_own 0 ss e r)))

abbrev pub segment_own : SegmentTree → List Tok → List Tok
segment_own s r = ident s.ident ∷ arguments_own s.arguments r

abbrev pub arg_own : FnArgTree → List Tok → List Tok
arg_own x r = before_some x.name (λ w l. ident w ∷ alone 58 ∷ l) (type_own x.ty r)

abbrev pub assoc_own : Text × TypeTree → List Tok → List Tok
assoc_own p r = generic_own (t.an_assoc p.0 p.1) r

abbrev pub angle_own : List GenericTree × Bool → List Tok → List Tok
angle_own p r = arguments_own (t.angle false (t.generics_of p.0) p.1) r

abbrev pub bounds_list_own : List BoundTree × Bool → List Tok → List Tok
bounds_list_own p r = bounds_own (t.bounds_of p.0) p.1 r

-- ---- paths and macros

abbrev pub path_own : PathTree → List Tok → List Tok
path_own p r = before_if p.leading colon2_before (segments_own 0 (t.segments_of p.segments) p.trailing r)

abbrev pub qualified_own : QPathTree → List Tok → List Tok
qualified_own q r = type_own (t.path q.0 q.1.leading (t.segments_of q.1.segments) q.1.trailing) r

abbrev pub macro_own : MacroTree → List Tok → List Tok
macro_own m r = path_own m.path (alone 33 ∷ enclosed m.delimiter m.tokens r)

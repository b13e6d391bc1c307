-- What may come after a type, an output, a path and a pattern: by what each goes on, and that nothing else is refused.
use Rattle.std.specs.Prelude.{◌≡◌, ℕ, Bool, true, false, not, ◌||◌, ◌&&◌, ◌==◌, List, [], ◌∷◌, codes}
use Rattle.syn_lexer.specs.declared.front.Delimiter.{Delimiter}
use Rattle.syn_lexer.specs.declared.front.Delimiter.TheVariants as del
use Rattle.syn_tokens.specs.Tok.{Tok, Inside, ident, literal, group}
use Rattle.syn_tokens.specs.Front.{same_delimiter}
use Rattle.syn_lower_spec.specs.declared.label.PathStyle.{PathStyle}
use Rattle.syn_lower_spec.specs.declared.label.PathStyle.TheVariants as style
use Rattle.syn_lower_spec.specs.Text.{Text, stands_alone, is_segment, is_truth}
use Rattle.syn_lower_spec.specs.Tree as t
use Rattle.syn_lower_spec.specs.Tree.{TypeTree, Segments, ArgumentsTree, ReturnTree, Bounds, BoundTree, PathTree}
use Rattle.syn_lower_spec.specs.Form.{Test}
use Rattle.syn_lower_spec.specs.Mark.{sign_at, colon, colon2, lt, round_at, brace_at, arrow, not_ne, plus}
use Rattle.syn_lower_spec.specs.Part.{QPathTree}
use Rattle.syn_lower_spec.specs.Fits.{type_stops, output_stops, path_stops, qpath_fits}
use Rattle.syn_lower_spec.specs.Pat.{PatTree, bound_at, dots, at_sign, vert}
use Rattle.syn_lower_spec.specs.PatFits.{pat_stops, closure_arg_stops}

-- Where a type, an output or a path could go on, a `+` aside: at `::`, at `<` that isn't `<=`, at `(`, at `->`, and at `!`
-- that isn't `!=`.
unfoldable pub ends_types : Test
ends_types r = not (colon2.at r || (lt.at r || (round_at r || (arrow.at r || not_ne.at r))))

-- A pattern, `|` aside, could go on there, where the bound of a range begins, at `..`, at `@` and at braces.
unfoldable pub ends_patterns : Test
ends_patterns r = ends_types r && not (bound_at r || (dots.at r || (at_sign.at r || brace_at r)))

-- A type that ends in a name without arguments would have them at `<` (Rust Reference, "Paths in types"); `super`, `self`,
-- `crate` and `try` take none.
abbrev mutual
  pub ends_open : TypeTree → Bool
  ends_open (t.path q l ss e) = segments_open ss
  ends_open (t.reference a m x) = ends_open x
  ends_open (t.ptr m x) = ends_open x
  ends_open (t.fn_ptr f u a xs e o) = return_open o
  ends_open (t.impl_trait bs e) = bounds_open bs
  ends_open (t.trait_object bs e) = bounds_open bs
  ends_open _ = false

  pub segments_open : Segments → Bool
  segments_open t.no_segments = false
  segments_open (t.more_segments w a t.no_segments) = arguments_open w a
  segments_open (t.more_segments w a (t.more_segments v c ss)) = segments_open (t.more_segments v c ss)

  pub arguments_open : Text → ArgumentsTree → Bool
  arguments_open w t.no_arguments = not (stands_alone w)
  arguments_open w (t.angle c gs e) = false
  arguments_open w (t.round xs e o) = return_open o

  pub return_open : ReturnTree → Bool
  return_open t.default = false
  return_open (t.given x) = ends_open x

  pub bounds_open : Bounds → Bool
  bounds_open t.no_bounds = false
  bounds_open (t.more_bounds b t.no_bounds) = bound_open b
  bounds_open (t.more_bounds b (t.more_bounds c bs)) = bounds_open (t.more_bounds c bs)

  pub bound_open : BoundTree → Bool
  bound_open (t.outlives w) = false
  bound_open (t.a_trait q f l ss e) = segments_open ss

pub record PartsEnd : Type 0 where
  pub types : (several : Bool) (x : TypeTree) (r : List Tok) → ends_types r ≡ true → (several && plus.at r) ≡ false → type_stops several x r ≡ true
  -- before `<`
  pub types_at_less : (several : Bool) (x : TypeTree) (r : List Tok) → lt.at r ≡ true → type_stops several x r ≡ not (ends_open x)
  pub outputs : (several : Bool) (o : ReturnTree) (r : List Tok) → ends_types r ≡ true → (several && plus.at r) ≡ false → output_stops several o r ≡ true
  pub paths : (s : PathStyle) (p : PathTree) (r : List Tok) → ends_types r ≡ true → path_stops s p r ≡ true
  -- in an expression a path goes on at `::` alone
  pub paths_in_expressions : (q : QPathTree) (r : List Tok) → qpath_fits style.Expr q ≡ true → colon2.at r ≡ false → path_stops style.Expr q.1 r ≡ true
  pub patterns : (several : Bool) (p : PatTree) (r : List Tok) → ends_patterns r ≡ true → (several && vert.at r) ≡ false → pat_stops several p r ≡ true
  pub closure_args : (p : PatTree) (r : List Tok) → ends_patterns r ≡ true → plus.at r ≡ false → colon.at r ≡ false → closure_arg_stops p r ≡ true

-- ---- what the tests say of the first token

-- `!`, `-`, `:` and `<`
abbrev pub begins_more : ℕ → Bool
begins_more c = c == 33 || (c == 45 || (c == 58 || c == 60))

pub record TypesEndAt : Type 0 where
  pub nothing : ends_types [] ≡ true
  pub words : (w : Text) (r : List Tok) → ends_types (ident w ∷ r) ≡ true
  pub literals : (w : Text) (r : List Tok) → ends_types (literal w ∷ r) ≡ true
  pub groups : (d : Delimiter) (i : Inside) (r : List Tok) → same_delimiter d del.Parenthesis ≡ false → ends_types (group d i ∷ r) ≡ true
  -- `=`, `+=`, `..` and all others that begin with none of the four
  pub signs : (c : ℕ) (text : List ℕ) (r : List Tok) → begins_more c ≡ false → sign_at (c ∷ text) r ≡ true → ends_types r ≡ true
  pub minus : (r : List Tok) → sign_at (codes "-") r ≡ true → arrow.at r ≡ false → ends_types r ≡ true
  pub minus_equal : (r : List Tok) → sign_at (codes "-=") r ≡ true → ends_types r ≡ true
  pub not_equal : (r : List Tok) → sign_at (codes "!=") r ≡ true → ends_types r ≡ true
  pub less_equal : (r : List Tok) → sign_at (codes "<=") r ≡ true → ends_types r ≡ true

-- `.` and `@` beside these
abbrev pub begins_more_patterns : ℕ → Bool
begins_more_patterns c = begins_more c || (c == 46 || c == 64)

pub record PatternsEndAt : Type 0 where
  pub nothing : ends_patterns [] ≡ true
  -- `in`, `if` and all others that are neither a path nor a literal
  pub words : (w : Text) (r : List Tok) → is_segment w ≡ false → is_truth w ≡ false → ends_patterns (ident w ∷ r) ≡ true
  -- `=`, `=>`, `,`, `|` and all others that begin with none of the six
  pub signs : (c : ℕ) (text : List ℕ) (r : List Tok) → begins_more_patterns c ≡ false → sign_at (c ∷ text) r ≡ true → ends_patterns r ≡ true

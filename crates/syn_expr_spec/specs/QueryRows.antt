-- Queries, asked of what is read of a text: each row says its text, and what is answered.
use Rattle.std.specs.Prelude.{◌≡◌, Bool, true, false, List, [], ◌∷◌, codes, Option, Some, None}
use Rattle.syn_lexer.specs.declared.front.Delimiter.TheVariants as del
use Rattle.syn_tokens.specs.Tok.{Tok, ident, group, inside}
use Rattle.syn_lower_spec.specs.Tree as t
use Rattle.syn_lower_spec.specs.Tree.{TypeTree}
use Rattle.syn_lower_spec.specs.Form.{Outcome}
use Rattle.syn_lower_spec.specs.Part.{type}
use Rattle.syn_lower_spec.specs.Own.{alone, joint}
use Rattle.syn_expr_spec.specs.Place.{plain}
use Rattle.syn_expr_spec.specs.Tree as e
use Rattle.syn_expr_spec.specs.Tree.{Tree, leaf, postfixed, frame, child, none}
use Rattle.syn_expr_spec.specs.Read.{all_of, expr}
use Rattle.syn_expr_spec.specs.Binding.{requires_comma_to_be_match_arm, requires_semi_to_be_stmt}
use Rattle.syn_expr_spec.specs.Query.{leads_with_label, ends_with_brace, trailing_unparameterized_path}

abbrev pub asked : (Tree → Bool) → Option Tree → Option Bool
asked f None = None
asked f (Some x) = Some (f x)

abbrev pub Answers : (Tree → Bool) → List Tok → Bool → Type 0
Answers f l b = asked f (all_of (expr plain l)) ≡ Some b

abbrev pub type_asked : Outcome TypeTree → Option Bool
type_asked (Some (x, [])) = Some (trailing_unparameterized_path x)
type_asked _ = None

abbrev pub EndsInPath : List Tok → Bool → Type 0
EndsInPath l b = type_asked ((type true).reads l) ≡ Some b

abbrev pub braces : Tok
braces = group del.Brace (inside [])

abbrev pub round : Tok
round = group del.Parenthesis (inside [])

abbrev pub bang : Tok
bang = alone 33

abbrev pub empty_path : Tree
empty_path = leaf (e.path t.no_qself (record { leading = false; segments = []; trailing = false }))

pub record QueryRows : Type 0 where
  -- `'a: loop {}`
  pub label : Answers leads_with_label (joint 39 ∷ ident (codes "a") ∷ alone 58 ∷ ident (codes "loop") ∷ braces ∷ []) true
  -- `'a: {} + b`
  pub label_of_operand : Answers leads_with_label (joint 39 ∷ ident (codes "a") ∷ alone 58 ∷ braces ∷ alone 43 ∷ ident (codes "b") ∷ []) true
  -- `#[k] 'a: loop {}`
  pub attribute : Answers leads_with_label (alone 35 ∷ group del.Bracket (inside (ident (codes "k") ∷ [])) ∷ joint 39 ∷ ident (codes "a") ∷ alone 58 ∷ ident (codes "loop") ∷ braces ∷ []) false
  -- `break 'a`
  pub label_behind : Answers leads_with_label (ident (codes "break") ∷ joint 39 ∷ ident (codes "a") ∷ []) false
  -- `return S {}`
  pub structure : Answers ends_with_brace (ident (codes "return") ∷ ident (codes "S") ∷ braces ∷ []) true
  -- `x as m! {}`
  pub cast : Answers ends_with_brace (ident (codes "x") ∷ ident (codes "as") ∷ ident (codes "m") ∷ bang ∷ braces ∷ []) true
  -- `x as fn() -> m! {}`
  pub output : Answers ends_with_brace (ident (codes "x") ∷ ident (codes "as") ∷ ident (codes "fn") ∷ round ∷ joint 45 ∷ alone 62 ∷ ident (codes "m") ∷ bang ∷ braces ∷ []) true
  -- `|x| x`
  pub closure : Answers ends_with_brace (alone 124 ∷ ident (codes "x") ∷ alone 124 ∷ ident (codes "x") ∷ []) false
  -- `m! {}`
  pub macro : Answers ends_with_brace (ident (codes "m") ∷ bang ∷ braces ∷ []) true
  pub macro_arm : Answers requires_comma_to_be_match_arm (ident (codes "m") ∷ bang ∷ braces ∷ []) true
  pub macro_statement : Answers requires_semi_to_be_stmt (ident (codes "m") ∷ bang ∷ braces ∷ []) false
  -- `m!()`
  pub round_macro : Answers ends_with_brace (ident (codes "m") ∷ bang ∷ round ∷ []) false
  -- `x {}.y`
  pub field : Answers ends_with_brace (ident (codes "x") ∷ braces ∷ alone 46 ∷ ident (codes "y") ∷ []) false
  -- An `if` ends with braces whatever comes after its `else`, as here a path that is none; so does a `return` of it.
  pub otherwise : ends_with_brace (frame e.if_expr (child e.condition (e.braced (record { inner = []; tokens = [] })) empty_path (child e.chained e.no_ending empty_path none))) ≡ true
  -- a path without segments, and a cast to one
  pub empty : ends_with_brace empty_path ≡ false
  pub empty_cast : ends_with_brace (postfixed empty_path (e.cast (t.path t.no_qself false t.no_segments false))) ≡ false
  -- `a::B`
  pub path : EndsInPath (ident (codes "a") ∷ joint 58 ∷ alone 58 ∷ ident (codes "B") ∷ []) true
  -- `a<B>`
  pub arguments : EndsInPath (ident (codes "a") ∷ alone 60 ∷ ident (codes "B") ∷ alone 62 ∷ []) false
  -- `&'a *const T`
  pub pointee : EndsInPath (alone 38 ∷ joint 39 ∷ ident (codes "a") ∷ alone 42 ∷ ident (codes "const") ∷ ident (codes "T") ∷ []) true
  -- `fn() -> T`, `fn()`
  pub pointer : EndsInPath (ident (codes "fn") ∷ round ∷ joint 45 ∷ alone 62 ∷ ident (codes "T") ∷ []) true
  pub no_output : EndsInPath (ident (codes "fn") ∷ round ∷ []) false
  -- `impl Fn() -> T`
  pub bound_output : EndsInPath (ident (codes "impl") ∷ ident (codes "Fn") ∷ round ∷ joint 45 ∷ alone 62 ∷ ident (codes "T") ∷ []) true
  -- `dyn T + 'a`, `dyn 'a + T`
  pub lifetime : EndsInPath (ident (codes "dyn") ∷ ident (codes "T") ∷ alone 43 ∷ joint 39 ∷ ident (codes "a") ∷ []) false
  pub last_bound : EndsInPath (ident (codes "dyn") ∷ joint 39 ∷ ident (codes "a") ∷ alone 43 ∷ ident (codes "T") ∷ []) true
  -- `_`, `m! {}`
  pub infer : EndsInPath (ident (codes "_") ∷ []) false
  pub macro_type : EndsInPath (ident (codes "m") ∷ bang ∷ braces ∷ []) false
  -- without a segment, and without a bound
  pub no_segments : trailing_unparameterized_path (t.path t.no_qself false t.no_segments false) ≡ false
  pub no_bounds : trailing_unparameterized_path (t.impl_trait t.no_bounds false) ≡ false

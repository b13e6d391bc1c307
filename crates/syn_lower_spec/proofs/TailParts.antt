-- What is left after each part is a tail of the list.
use Rattle.std.proofs.Common.{◌≡◌, Bool, not, ◌&&◌, ◌==◌, List, [], ◌∷◌, Some, ap, subst}
use Rattle.std.specs.Str.{bytes_eq}
use Rattle.syn_lexer.specs.Keywords.{is_reserved_word}
use Rattle.syn_lexer.specs.declared.front.Delimiter.{Delimiter}
use Rattle.syn_lexer.specs.declared.front.Delimiter.TheVariants as del
use Rattle.syn_lexer.specs.declared.front.Spacing.TheVariants as spacing
use Rattle.syn_tokens.specs.Tok.{Tok, ident, punct, literal, group}
use Rattle.syn_tokens.specs.Input.{IsTail}
use Rattle.syn_lower_spec.specs.declared.label.PathStyle.{PathStyle}
use Rattle.syn_lower_spec.specs.declared.label.PathStyle.TheVariants as style
use Rattle.syn_lower_spec.specs.Text.{Text, is_segment, is_truth, is_number, kind_of}
use Rattle.syn_lower_spec.specs.Same.{same_lit, same_toks, same_group}
use Rattle.syn_lower_spec.specs.Tree.{LitTree, TypeTree}
use Rattle.syn_lower_spec.specs.Form.{Form}
use Rattle.syn_lower_spec.specs.Mark.{quote, pound, less, and, star, bang, underscore, implementing, dynamic}
use Rattle.syn_lower_spec.specs.Part.{pound_bang, find_ident, find_segment, find_word, find_lit, find_signed, find_string, find_group, find_all, find_const, find_arg_name, is_arg_name, name, segment_name, lifetime, unsigned, lit, string, verbatim, any_group, rest_of, constant_tokens, arg_name, outer_body, inner_body, outer_attributes, inner_attributes, block, no_arguments, lifetimes, output, generic, angle, angle_bracketed, parenthesized, arguments, segment, pieces, path, qualified, qpath, bound, bounds, reference, pointer, fn_head, fn_pointer, implements, object, macro_end, named, at_place, type, macro, QPathTree}
use Rattle.syn_lower_spec.proofs.Weights.{some_is}
use Rattle.syn_lower_spec.proofs.Parts.{word_some, lit_some, truth_some, negative_some, const_some, string_some}
use Rattle.syn_lower_spec.proofs.Tails.{Leaves, Found, nothing_taken, tail_then, one_taken, when_leaves, mark_leaves, then_by_leaves, both_leaves, shown_leaves, pure_leaves, inside_leaves, fix_leaves, listed_leaves, more_leaves, joined_leaves, closed_by_leaves, leaf_leaves, maybe_leaves, flag_leaves, case_leaves, group_case_leaves, found_group}

by : (l n m : List Tok) → l ≡ n → IsTail l m → IsTail n m
by l n m e h = subst (λ z. IsTail z m) e h

two_taken : (x y : Tok) (l : List Tok) → IsTail l (x ∷ y ∷ l)
two_taken x y l = tail_then (one_taken x (y ∷ l)) (one_taken y l)

found_ident : Found find_ident
found_ident = record { leaves = leaves }
  where
    leaves : (l : List Tok) (x : Text) (n : List Tok) → find_ident l ≡ Some (x, n) → IsTail n l
    leaves (ident w ∷ l) x n h = by l n (ident w ∷ l) (word_some (not (is_reserved_word w)) w l x n h) (one_taken (ident w) l)
    leaves _ x n h = absurd cc

found_segment : Found find_segment
found_segment = record { leaves = leaves }
  where
    leaves : (l : List Tok) (x : Text) (n : List Tok) → find_segment l ≡ Some (x, n) → IsTail n l
    leaves (ident w ∷ l) x n h = by l n (ident w ∷ l) (word_some (is_segment w) w l x n h) (one_taken (ident w) l)
    leaves _ x n h = absurd cc

found_word : Found find_word
found_word = record { leaves = leaves }
  where
    leaves : (l : List Tok) (x : Text) (n : List Tok) → find_word l ≡ Some (x, n) → IsTail n l
    leaves (ident w ∷ l) x n h = by l n (ident w ∷ l) (ap (λ z. z.1) (some_is h)) (one_taken (ident w) l)
    leaves _ x n h = absurd cc

found_arg_name : Found find_arg_name
found_arg_name = record { leaves = leaves }
  where
    leaves : (l : List Tok) (x : Text) (n : List Tok) → find_arg_name l ≡ Some (x, n) → IsTail n l
    leaves (ident w ∷ l) x n h = by l n (ident w ∷ l) (word_some (is_arg_name w) w l x n h) (one_taken (ident w) l)
    leaves _ x n h = absurd cc

pub lit_leaves : (l : List Tok) (x : LitTree) (n : List Tok) → find_lit l ≡ Some (x, n) → IsTail n l
lit_leaves (literal w ∷ l) x n h = by l n (literal w ∷ l) (lit_some (kind_of w) w l x n h) (one_taken (literal w) l)
lit_leaves (ident w ∷ l) x n h = by l n (ident w ∷ l) (truth_some (is_truth w) w l x n h) (one_taken (ident w) l)
lit_leaves _ x n h = absurd cc

found_lit : Found find_lit
found_lit = record { leaves = lit_leaves }

found_signed : Found find_signed
found_signed = record { leaves = leaves }
  where
    leaves : (l : List Tok) (x : LitTree) (n : List Tok) → find_signed l ≡ Some (x, n) → IsTail n l
    leaves (punct c s ∷ literal w ∷ l) x n h = by l n (punct c s ∷ literal w ∷ l) (negative_some (c == 45 && is_number w) w l x n h) (two_taken (punct c s) (literal w) l)
    leaves [] x n h = absurd cc
    leaves (punct c s ∷ []) x n h = absurd cc
    leaves (punct c s ∷ ident w ∷ l) x n h = absurd cc
    leaves (punct c s ∷ punct d r ∷ l) x n h = absurd cc
    leaves (punct c s ∷ group d i ∷ l) x n h = absurd cc
    leaves (literal w ∷ l) x n h = lit_leaves (literal w ∷ l) x n h
    leaves (ident w ∷ l) x n h = lit_leaves (ident w ∷ l) x n h
    leaves (group d i ∷ l) x n h = absurd cc

found_string : Found find_string
found_string = record { leaves = leaves }
  where
    leaves : (l : List Tok) (x : LitTree) (n : List Tok) → find_string l ≡ Some (x, n) → IsTail n l
    leaves (literal w ∷ l) x n h = by l n (literal w ∷ l) (string_some w l (kind_of w) x n h) (one_taken (literal w) l)
    leaves _ x n h = absurd cc

found_any_group : Found find_group
found_any_group = record { leaves = leaves }
  where
    leaves : (l : List Tok) (x : Delimiter × List Tok) (n : List Tok) → find_group l ≡ Some (x, n) → IsTail n l
    leaves (group del.Parenthesis i ∷ l) x n h = by l n (group del.Parenthesis i ∷ l) (ap (λ z. z.1) (some_is h)) (one_taken (group del.Parenthesis i) l)
    leaves (group del.Brace i ∷ l) x n h = by l n (group del.Brace i ∷ l) (ap (λ z. z.1) (some_is h)) (one_taken (group del.Brace i) l)
    leaves (group del.Bracket i ∷ l) x n h = by l n (group del.Bracket i ∷ l) (ap (λ z. z.1) (some_is h)) (one_taken (group del.Bracket i) l)
    leaves _ x n h = absurd cc

found_all : Found find_all
found_all = record { leaves = leaves }
  where
    all_taken : (l : List Tok) → IsTail [] l
    all_taken [] = nothing_taken []
    all_taken (x ∷ l) = tail_then (one_taken x l) (all_taken l)

    leaves : (l : List Tok) (x : List Tok) (n : List Tok) → find_all l ≡ Some (x, n) → IsTail n l
    leaves [] x n h = absurd cc
    leaves (y ∷ l) x n h = by [] n (y ∷ l) (ap (λ z. z.1) (some_is h)) (all_taken (y ∷ l))

found_const : Found find_const
found_const = record { leaves = leaves }
  where
    leaves : (l : List Tok) (x : List Tok) (n : List Tok) → find_const l ≡ Some (x, n) → IsTail n l
    leaves (literal w ∷ l) x n h = by l n (literal w ∷ l) (ap (λ z. z.1) (some_is h)) (one_taken (literal w) l)
    leaves (ident w ∷ l) x n h = by l n (ident w ∷ l) (const_some (is_truth w) (ident w ∷ []) l x n h) (one_taken (ident w) l)
    leaves (punct c s ∷ literal w ∷ l) x n h =
        by l n (punct c s ∷ literal w ∷ l) (const_some (c == 45 && is_number w) (punct c spacing.Alone ∷ literal w ∷ []) l x n h) (two_taken (punct c s) (literal w) l)
    leaves (group del.Brace i ∷ l) x n h = by l n (group del.Brace i ∷ l) (ap (λ z. z.1) (some_is h)) (one_taken (group del.Brace i) l)
    leaves _ x n h = absurd cc

-- ---- parts

pub name_leaves : Leaves name
unfolding name
name_leaves = leaf_leaves bytes_eq found_ident

pub segment_name_leaves : Leaves segment_name
unfolding segment_name
segment_name_leaves = leaf_leaves bytes_eq found_segment

pub lifetime_leaves : Leaves lifetime
unfolding lifetime
lifetime_leaves = mark_leaves quote (leaf_leaves bytes_eq found_word)

pub unsigned_leaves : Leaves unsigned
unfolding unsigned
unsigned_leaves = leaf_leaves same_lit found_lit

pub signed_leaves : Leaves lit
unfolding lit
signed_leaves = leaf_leaves same_lit found_signed

pub string_leaves : Leaves string
unfolding string
string_leaves = leaf_leaves same_lit found_string

pub verbatim_leaves : (d : Delimiter) → Leaves (verbatim d)
unfolding verbatim
verbatim_leaves d = leaf_leaves same_toks (found_group d)

pub any_group_leaves : Leaves any_group
unfolding any_group
any_group_leaves = leaf_leaves same_group found_any_group

pub rest_of_leaves : Leaves rest_of
unfolding rest_of
rest_of_leaves = leaf_leaves same_toks found_all

pub constant_leaves : Leaves constant_tokens
unfolding constant_tokens
constant_leaves = leaf_leaves same_toks found_const

pub arg_name_leaves : Leaves arg_name
unfolding arg_name
arg_name_leaves = leaf_leaves bytes_eq found_arg_name

pub ruleset leaving = (when_leaves, shown_leaves, both_leaves, then_by_leaves, mark_leaves, inside_leaves, closed_by_leaves, listed_leaves, joined_leaves, pure_leaves, maybe_leaves, flag_leaves, name_leaves, segment_name_leaves, lifetime_leaves, unsigned_leaves, signed_leaves, string_leaves, verbatim_leaves, any_group_leaves, rest_of_leaves, constant_leaves, arg_name_leaves)

outer_body_leaves : Leaves outer_body
unfolding outer_body
outer_body_leaves = search leaving depth 12

inner_body_leaves : Leaves inner_body
unfolding inner_body
inner_body_leaves = search leaving depth 12

pub outer_attributes_leaves : Leaves outer_attributes
unfolding outer_attributes
outer_attributes_leaves = more_leaves pound outer_body_leaves

pub inner_attributes_leaves : Leaves inner_attributes
unfolding inner_attributes
inner_attributes_leaves = more_leaves pound_bang inner_body_leaves

pub block_leaves : Leaves block
unfolding block
block_leaves = verbatim_leaves del.Brace

no_arguments_leaves : Leaves no_arguments
unfolding no_arguments
no_arguments_leaves = search leaving depth 12

pub lifetimes_leaves : Leaves lifetimes
unfolding lifetimes
lifetimes_leaves = search leaving depth 12

fn_head_leaves : Leaves fn_head
unfolding fn_head
fn_head_leaves = search (lifetimes_leaves, leaving) depth 12

macro_end_leaves : (p : QPathTree) → Leaves (macro_end p)
unfolding macro_end
macro_end_leaves p = search leaving depth 12

module _ {type : Bool → Form TypeTree} (again : (b : Bool) → Leaves (type b)) where
  pub output_leaves : (b : Bool) → Leaves (output type b)
  unfolding output
  output_leaves b = search (again, leaving) depth 12

  pub generic_leaves : Leaves (generic type)
  unfolding generic
  generic_leaves = search (again, leaving) depth 12

  angle_leaves : Leaves (angle type)
  unfolding angle
  angle_leaves = search (generic_leaves, leaving) depth 12

  pub angle_bracketed_leaves : Leaves (angle_bracketed type)
  unfolding angle_bracketed
  angle_bracketed_leaves = search (angle_leaves, leaving) depth 12

  pub parenthesized_leaves : Leaves (parenthesized type)
  unfolding parenthesized
  parenthesized_leaves = search (again, output_leaves, leaving) depth 12

  arguments_leaves : (s : PathStyle) → Leaves (arguments type s)
  unfolding arguments
  arguments_leaves style.Mod = no_arguments_leaves
  arguments_leaves style.Expr = when_leaves _ angle_bracketed_leaves no_arguments_leaves
  arguments_leaves style.Type = when_leaves _ angle_bracketed_leaves (when_leaves _ parenthesized_leaves no_arguments_leaves)

  pub segment_leaves : (s : PathStyle) → Leaves (segment type s)
  unfolding segment
  segment_leaves s = search (arguments_leaves, no_arguments_leaves, leaving) depth 12

  pieces_leaves : (s : PathStyle) → Leaves (pieces type s)
  unfolding pieces
  pieces_leaves s = search (segment_leaves, leaving) depth 12

  pub path_leaves : (s : PathStyle) → Leaves (path type s)
  unfolding path
  path_leaves s = search (pieces_leaves, leaving) depth 12

  qualified_leaves : (s : PathStyle) → Leaves (qualified type s)
  unfolding qualified
  qualified_leaves s = search (again, pieces_leaves, segment_leaves, leaving) depth 14

  pub qpath_leaves : (s : PathStyle) → Leaves (qpath type s)
  unfolding qpath
  qpath_leaves s = case_leaves less (qualified_leaves s) (shown_leaves _ _ (path_leaves s))

  pub bound_leaves : Leaves (bound type)
  unfolding bound
  bound_leaves = search (path_leaves, lifetimes_leaves, leaving) depth 12

  bounds_leaves : (b : Bool) → Leaves (bounds type b)
  unfolding bounds
  bounds_leaves b = search (bound_leaves, leaving) depth 12

  reference_leaves : Leaves (reference type)
  unfolding reference
  reference_leaves = search (again, leaving) depth 12

  pointer_leaves : Leaves (pointer type)
  unfolding pointer
  pointer_leaves = search (again, leaving) depth 12

  fn_pointer_leaves : Leaves (fn_pointer type)
  unfolding fn_pointer
  fn_pointer_leaves = search (fn_head_leaves, output_leaves, leaving) depth 12

  implements_leaves : (b : Bool) → Leaves (implements type b)
  unfolding implements
  implements_leaves b = search (bounds_leaves, leaving) depth 12

  object_leaves : (b : Bool) → Leaves (object type b)
  unfolding object
  object_leaves b = search (bounds_leaves, leaving) depth 12

  named_leaves : Leaves (named type)
  unfolding named
  named_leaves = shown_leaves _ _ (then_by_leaves (qpath_leaves style.Type) (λ p. macro_end_leaves p))

  at_place_leaves : (b : Bool) → Leaves (at_place type b)
  unfolding at_place
  at_place_leaves b =
      case_leaves and reference_leaves
      (case_leaves star pointer_leaves
      (case_leaves bang (pure_leaves _ _)
      (case_leaves underscore (pure_leaves _ _)
      (group_case_leaves del.Bracket _
      (group_case_leaves del.Parenthesis _
      (when_leaves _ fn_pointer_leaves
      (case_leaves implementing (implements_leaves b)
      (case_leaves dynamic (object_leaves b)
      named_leaves))))))))

pub type_leaves : (b : Bool) → Leaves (type b)
unfolding type
type_leaves b = fix_leaves {step = at_place} (λ f r c. at_place_leaves r c) b

pub macro_leaves : Leaves macro
unfolding macro
macro_leaves = search (path_leaves type_leaves, leaving) depth 12

-- Each part is read exactly where its tokens are.
use Rattle.std.proofs.Common.{◌≡◌, ℕ, suc, ◌≤◌, Bool, true, false, not, ◌&&◌, ◌==◌, ◌↔◌, List, [], ◌∷◌, Option, Some, None, ap, sym, ◌∙◌, subst, arith}
use Rattle.syn_lexer.specs.Keywords.{is_reserved_word}
use Rattle.syn_lexer.specs.declared.front.Delimiter.{Delimiter}
use Rattle.syn_lexer.specs.declared.front.Delimiter.TheVariants as del
use Rattle.syn_lexer.specs.declared.front.Spacing.TheVariants as spacing
use Rattle.syn_tokens.specs.Tok.{Tok, ident, punct, literal, group, weight}
use Rattle.syn_lower_spec.specs.declared.label.LitKind.{LitKind}
use Rattle.syn_lower_spec.specs.declared.label.LitKind.TheVariants as kind
use Rattle.syn_lower_spec.specs.declared.label.PathStyle.{PathStyle}
use Rattle.syn_lower_spec.specs.declared.label.PathStyle.TheVariants as style
use Rattle.syn_lower_spec.specs.Text.{Text, is_segment, is_truth, is_number, kind_of}
use Rattle.syn_lower_spec.specs.Tree as t
use Rattle.syn_lower_spec.specs.Tree.{LitTree, TypeTree, PathTree}
use Rattle.syn_tokens.specs.Front.{group_at}
use Rattle.syn_lower_spec.specs.Form.{Form, then_by, inside}
use Rattle.syn_lower_spec.specs.Part.{word_if, find_ident, find_segment, find_word, lit_if, truth_if, find_lit, negative_if, find_signed, string_if, find_string, find_group, find_all, find_const, const_if, find_arg_name, is_arg_name, name, segment_name, lifetime, unsigned, lit, string, verbatim, any_group, rest_of, constant_tokens, arg_name, outer_body, inner_body, attribute, outer_attributes, inner_attributes, block, no_arguments, lifetimes, abi, mutability, output, generic, assoc, angle, angle_bracketed, parenthesized, arguments, segment, pieces, path, qualified, qpath, bound, trait_bound, bounds, reference, pointer, slice_or_array, tuple_or_paren, fn_arg, fn_head, fn_pointer, implements, object, macro_end, named, at_place, type, SpellsType, macro, MacroEnd, QPathTree, to_named, from_named}
use Rattle.syn_lower_spec.proofs.Weights.{some_is, taken}
use Rattle.syn_lower_spec.proofs.Same.{compares_texts, compares_toks, compares_lits, compares_groups}
use Rattle.syn_lower_spec.proofs.Marks.{marks, quote_present, and_present, star_present, bang_present, underscore_present, implementing_present, dynamic_present, less_present, pound_present, pound_bang_present}
use Rattle.syn_lower_spec.proofs.Views.{views, only_never, only_infer, named_back, named_there, macro_there}
use Rattle.syn_lower_spec.proofs.Forms.{Alike, Finds, leaf_alike, Steps, fix_alike, fix_is, behind_some, weaker, when_alike, mark_alike, mark_at_alike, then_by_alike, both_alike, shown_alike, shown_where_alike, pure_alike, inside_alike, case_alike, group_case_alike, only_true, only_false, maybe_alike, flag_at_alike, listed_alike, joined_alike, closed_by_alike, more_alike}

-- ---- what is found has tokens

pub word_some : (b : Bool) (w : Text) (l : List Tok) (x : Text) (n : List Tok) → word_if b w l ≡ Some (x, n) → l ≡ n
word_some true w l x n h = ap (λ z. z.1) (some_is h)
word_some false w l x n h = absurd cc

pub falls_by : (l n m : List Tok) → l ≡ n → weight l ≤ weight m → weight n ≤ weight m
falls_by l n m e h = subst (λ z. weight z ≤ weight m) e h

pub one_less : (x : Tok) (l : List Tok) → weight l ≤ weight (x ∷ l)
unfolding weight
one_less x l = omega arith

two_less : (x y : Tok) (l : List Tok) → weight l ≤ weight (x ∷ y ∷ l)
unfolding weight
two_less x y l = omega arith

finds_ident : Finds find_ident
finds_ident = record { falls = falls }
  where
    falls : (l : List Tok) (x : Text) (n : List Tok) → find_ident l ≡ Some (x, n) → weight n ≤ weight l
    falls (ident w ∷ l) x n h = falls_by l n (ident w ∷ l) (word_some (not (is_reserved_word w)) w l x n h) (one_less (ident w) l)
    falls _ x n h = absurd cc

finds_segment : Finds find_segment
finds_segment = record { falls = falls }
  where
    falls : (l : List Tok) (x : Text) (n : List Tok) → find_segment l ≡ Some (x, n) → weight n ≤ weight l
    falls (ident w ∷ l) x n h = falls_by l n (ident w ∷ l) (word_some (is_segment w) w l x n h) (one_less (ident w) l)
    falls _ x n h = absurd cc

pub finds_word : Finds find_word
finds_word = record { falls = falls }
  where
    falls : (l : List Tok) (x : Text) (n : List Tok) → find_word l ≡ Some (x, n) → weight n ≤ weight l
    falls (ident w ∷ l) x n h = falls_by l n (ident w ∷ l) (ap (λ z. z.1) (some_is h)) (one_less (ident w) l)
    falls _ x n h = absurd cc

finds_arg_name : Finds find_arg_name
finds_arg_name = record { falls = falls }
  where
    falls : (l : List Tok) (x : Text) (n : List Tok) → find_arg_name l ≡ Some (x, n) → weight n ≤ weight l
    falls (ident w ∷ l) x n h = falls_by l n (ident w ∷ l) (word_some (is_arg_name w) w l x n h) (one_less (ident w) l)
    falls _ x n h = absurd cc

pub lit_some : (o : Option LitKind) (w : Text) (l : List Tok) (x : LitTree) (n : List Tok) → lit_if o w l ≡ Some (x, n) → l ≡ n
lit_some (Some k) w l x n h = ap (λ z. z.1) (some_is h)
lit_some None w l x n h = absurd cc

pub truth_some : (b : Bool) (w : Text) (l : List Tok) (x : LitTree) (n : List Tok) → truth_if b w l ≡ Some (x, n) → l ≡ n
truth_some true w l x n h = ap (λ z. z.1) (some_is h)
truth_some false w l x n h = absurd cc

pub negative_some : (b : Bool) (w : Text) (l : List Tok) (x : LitTree) (n : List Tok) → negative_if b w l ≡ Some (x, n) → l ≡ n
negative_some true w l x n h = ap (λ z. z.1) (some_is h)
negative_some false w l x n h = absurd cc

pub lit_falls : (l : List Tok) (x : LitTree) (n : List Tok) → find_lit l ≡ Some (x, n) → weight n ≤ weight l
lit_falls (literal w ∷ l) x n h = falls_by l n (literal w ∷ l) (lit_some (kind_of w) w l x n h) (one_less (literal w) l)
lit_falls (ident w ∷ l) x n h = falls_by l n (ident w ∷ l) (truth_some (is_truth w) w l x n h) (one_less (ident w) l)
lit_falls _ x n h = absurd cc

finds_lit : Finds find_lit
finds_lit = record { falls = lit_falls }

finds_signed : Finds find_signed
finds_signed = record { falls = falls }
  where
    falls : (l : List Tok) (x : LitTree) (n : List Tok) → find_signed l ≡ Some (x, n) → weight n ≤ weight l
    falls (punct c s ∷ literal w ∷ l) x n h = falls_by l n (punct c s ∷ literal w ∷ l) (negative_some (c == 45 && is_number w) w l x n h) (two_less (punct c s) (literal w) l)
    falls [] x n h = absurd cc
    falls (punct c s ∷ []) x n h = absurd cc
    falls (punct c s ∷ ident w ∷ l) x n h = absurd cc
    falls (punct c s ∷ punct d r ∷ l) x n h = absurd cc
    falls (punct c s ∷ group d i ∷ l) x n h = absurd cc
    falls (literal w ∷ l) x n h = lit_falls (literal w ∷ l) x n h
    falls (ident w ∷ l) x n h = lit_falls (ident w ∷ l) x n h
    falls (group d i ∷ l) x n h = absurd cc

pub string_some : (w : Text) (l : List Tok) (o : Option LitKind) (x : LitTree) (n : List Tok) → string_if o w l ≡ Some (x, n) → l ≡ n
string_some w l (Some kind.Str) x n h = ap (λ z. z.1) (some_is h)
string_some w l _ x n h = absurd cc

finds_string : Finds find_string
finds_string = record { falls = falls }
  where
    falls : (l : List Tok) (x : LitTree) (n : List Tok) → find_string l ≡ Some (x, n) → weight n ≤ weight l
    falls (literal w ∷ l) x n h = falls_by l n (literal w ∷ l) (string_some w l (kind_of w) x n h) (one_less (literal w) l)
    falls _ x n h = absurd cc

finds_verbatim : (d : Delimiter) → Finds (λ l. group_at d l)
finds_verbatim d = record { falls = λ l x n h. omega (arith, taken d l x n h) }

finds_group : Finds find_group
finds_group = record { falls = falls }
  where
    falls : (l : List Tok) (x : Delimiter × List Tok) (n : List Tok) → find_group l ≡ Some (x, n) → weight n ≤ weight l
    falls (group del.Parenthesis i ∷ l) x n h = falls_by l n (group del.Parenthesis i ∷ l) (ap (λ z. z.1) (some_is h)) (one_less (group del.Parenthesis i) l)
    falls (group del.Brace i ∷ l) x n h = falls_by l n (group del.Brace i ∷ l) (ap (λ z. z.1) (some_is h)) (one_less (group del.Brace i) l)
    falls (group del.Bracket i ∷ l) x n h = falls_by l n (group del.Bracket i ∷ l) (ap (λ z. z.1) (some_is h)) (one_less (group del.Bracket i) l)
    falls _ x n h = absurd cc

finds_all : Finds find_all
unfolding weight
finds_all = record { falls = falls }
  where
    falls : (l : List Tok) (x : List Tok) (n : List Tok) → find_all l ≡ Some (x, n) → weight n ≤ weight l
    falls [] x n h = absurd cc
    falls (y ∷ l) x n h = falls_by [] n (y ∷ l) (ap (λ z. z.1) (some_is h)) (omega arith)

pub const_some : (b : Bool) (w l : List Tok) (x : List Tok) (n : List Tok) → const_if b w l ≡ Some (x, n) → l ≡ n
const_some true w l x n h = ap (λ z. z.1) (some_is h)
const_some false w l x n h = absurd cc

finds_const : Finds find_const
finds_const = record { falls = falls }
  where
    falls : (l : List Tok) (x : List Tok) (n : List Tok) → find_const l ≡ Some (x, n) → weight n ≤ weight l
    falls (literal w ∷ l) x n h = falls_by l n (literal w ∷ l) (ap (λ z. z.1) (some_is h)) (one_less (literal w) l)
    falls (ident w ∷ l) x n h = falls_by l n (ident w ∷ l) (const_some (is_truth w) (ident w ∷ []) l x n h) (one_less (ident w) l)
    falls (punct c s ∷ literal w ∷ l) x n h =
        falls_by l n (punct c s ∷ literal w ∷ l) (const_some (c == 45 && is_number w) (punct c spacing.Alone ∷ literal w ∷ []) l x n h) (two_less (punct c s) (literal w) l)
    falls (group del.Brace i ∷ l) x n h = falls_by l n (group del.Brace i ∷ l) (ap (λ z. z.1) (some_is h)) (one_less (group del.Brace i) l)
    falls _ x n h = absurd cc

-- ---- leaves

pub name_alike : {k : ℕ} → Alike k name name
unfolding name
name_alike = leaf_alike compares_texts finds_ident

pub segment_name_alike : {k : ℕ} → Alike k segment_name segment_name
unfolding segment_name
segment_name_alike = leaf_alike compares_texts finds_segment

pub lifetime_alike : {k : ℕ} → Alike k lifetime lifetime
unfolding lifetime
lifetime_alike = mark_at_alike quote_present (leaf_alike compares_texts finds_word)

pub unsigned_alike : {k : ℕ} → Alike k unsigned unsigned
unfolding unsigned
unsigned_alike = leaf_alike compares_lits finds_lit

pub lit_alike : {k : ℕ} → Alike k lit lit
unfolding lit
lit_alike = leaf_alike compares_lits finds_signed

pub string_alike : {k : ℕ} → Alike k string string
unfolding string
string_alike = leaf_alike compares_lits finds_string

pub verbatim_alike : {k : ℕ} (d : Delimiter) → Alike k (verbatim d) (verbatim d)
unfolding verbatim
verbatim_alike d = leaf_alike compares_toks (finds_verbatim d)

pub any_group_alike : {k : ℕ} → Alike k any_group any_group
unfolding any_group
any_group_alike = leaf_alike compares_groups finds_group

pub rest_of_alike : {k : ℕ} → Alike k rest_of rest_of
unfolding rest_of
rest_of_alike = leaf_alike compares_toks finds_all

pub constant_tokens_alike : {k : ℕ} → Alike k constant_tokens constant_tokens
unfolding constant_tokens
constant_tokens_alike = leaf_alike compares_toks finds_const

pub arg_name_alike : {k : ℕ} → Alike k arg_name arg_name
unfolding arg_name
arg_name_alike = leaf_alike compares_texts finds_arg_name

pub inside_at_alike : {A : Type 0} {k : ℕ} {f f' : Form A} (d : Delimiter) → Alike k f f' → Alike k (inside d f) (inside d f')
inside_at_alike d a = weaker (inside_alike d a)

pub ruleset forms = (when_alike, shown_alike, both_alike, then_by_alike, mark_alike, mark_at_alike, inside_alike, inside_at_alike, closed_by_alike, listed_alike, joined_alike, pure_alike, maybe_alike, flag_at_alike, only_true, only_false, name_alike, segment_name_alike, lifetime_alike, unsigned_alike, lit_alike, string_alike, verbatim_alike, any_group_alike, rest_of_alike, constant_tokens_alike, arg_name_alike)

-- ---- attributes

pub outer_body_alike : {k : ℕ} → Alike k outer_body outer_body
unfolding outer_body
outer_body_alike = search (forms, marks, views) depth 12

pub inner_body_alike : {k : ℕ} → Alike k inner_body inner_body
unfolding inner_body
inner_body_alike = search (forms, marks, views) depth 12

pub attribute_alike : {k : ℕ} → Alike (suc k) attribute attribute
unfolding attribute
attribute_alike = case_alike pound_bang_present inner_body_alike (mark_alike pound_present outer_body_alike)

pub outer_attributes_alike : {k : ℕ} → Alike k outer_attributes outer_attributes
unfolding outer_attributes
outer_attributes_alike = more_alike pound_present outer_body_alike

pub inner_attributes_alike : {k : ℕ} → Alike k inner_attributes inner_attributes
unfolding inner_attributes
inner_attributes_alike = more_alike pound_bang_present inner_body_alike

pub block_alike : {k : ℕ} → Alike k block block
unfolding block
block_alike = verbatim_alike del.Brace

pub no_arguments_alike : {k : ℕ} → Alike k no_arguments no_arguments
unfolding no_arguments
no_arguments_alike = search (forms, marks, views) depth 12

pub lifetimes_alike : {k : ℕ} → Alike k lifetimes lifetimes
unfolding lifetimes
lifetimes_alike = search (forms, marks, views) depth 12

pub abi_alike : {j : ℕ} → Alike j abi abi
abi_alike = search (forms, marks, views) depth 12

pub mutability_alike : {j : ℕ} → Alike j mutability mutability
mutability_alike = search (forms, marks, views) depth 12

pub fn_head_alike : {j : ℕ} → Alike j fn_head fn_head
unfolding fn_head
fn_head_alike = search (lifetimes_alike, forms, marks, views) depth 12

pub macro_end_alike : {j : ℕ} (p : QPathTree) → Alike j (macro_end p) (macro_end p)
unfolding macro_end
macro_end_alike p = search (forms, marks, views) depth 12

-- ---- types, over types of less tokens

module _ {k : ℕ} {type type' : Bool → Form TypeTree} (again : (b : Bool) → Alike k (type b) (type' b)) where
  pub output_alike : (b : Bool) → Alike (suc k) (output type b) (output type' b)
  unfolding output
  output_alike b = search (again, forms, marks, views) depth 12

  pub assoc_alike : Alike k (assoc type) (assoc type')
  assoc_alike = search (again, forms, marks, views) depth 12

  pub generic_alike : Alike k (generic type) (generic type')
  unfolding generic
  generic_alike = search (again, forms, marks, views) depth 12

  pub angle_alike : Alike (suc k) (angle type) (angle type')
  unfolding angle
  angle_alike = search (generic_alike, forms, marks, views) depth 12

  pub angle_bracketed_alike : Alike (suc k) (angle_bracketed type) (angle_bracketed type')
  unfolding angle_bracketed
  angle_bracketed_alike = search (angle_alike, forms, marks, views) depth 12

  pub parenthesized_alike : Alike (suc k) (parenthesized type) (parenthesized type')
  unfolding parenthesized
  parenthesized_alike = search (again, output_alike, forms, marks, views) depth 12

  pub arguments_alike : (s : PathStyle) → Alike (suc k) (arguments type s) (arguments type' s)
  unfolding arguments
  arguments_alike style.Mod = no_arguments_alike
  arguments_alike style.Expr = when_alike _ angle_bracketed_alike no_arguments_alike
  arguments_alike style.Type = when_alike _ angle_bracketed_alike (when_alike _ parenthesized_alike no_arguments_alike)

  pub segment_alike : (s : PathStyle) → Alike (suc k) (segment type s) (segment type' s)
  unfolding segment
  segment_alike s = search (arguments_alike, no_arguments_alike, forms, marks, views) depth 12

  pub pieces_alike : (s : PathStyle) → Alike (suc k) (pieces type s) (pieces type' s)
  unfolding pieces
  pieces_alike s = search (segment_alike, forms, marks, views) depth 12

  pub path_alike : (s : PathStyle) → Alike (suc k) (path type s) (path type' s)
  unfolding path
  path_alike s = search (pieces_alike, forms, marks, views) depth 12

  pieces_at_alike : (s : PathStyle) → Alike k (pieces type s) (pieces type' s)
  pieces_at_alike s = weaker (pieces_alike s)

  segment_at_alike : (s : PathStyle) → Alike k (segment type s) (segment type' s)
  segment_at_alike s = weaker (segment_alike s)

  pub qualified_alike : (s : PathStyle) → Alike k (qualified type s) (qualified type' s)
  unfolding qualified
  qualified_alike s = search (again, pieces_at_alike, segment_at_alike, forms, marks, views) depth 14

  pub qpath_alike : (s : PathStyle) → Alike (suc k) (qpath type s) (qpath type' s)
  unfolding qpath
  qpath_alike s = case_alike less_present (qualified_alike s) (shown_alike (Prim.search views) (path_alike s))

  pub trait_bound_alike : Alike (suc k) (trait_bound type) (trait_bound type')
  trait_bound_alike = search (path_alike, lifetimes_alike, forms, marks, views) depth 12

  pub bound_alike : Alike (suc k) (bound type) (bound type')
  unfolding bound
  bound_alike = search (path_alike, lifetimes_alike, forms, marks, views) depth 12

  pub bounds_alike : (b : Bool) → Alike (suc k) (bounds type b) (bounds type' b)
  unfolding bounds
  bounds_alike b = search (bound_alike, forms, marks, views) depth 12

  pub reference_alike : Alike k (reference type) (reference type')
  unfolding reference
  reference_alike = search (again, forms, marks, views) depth 12

  pub pointer_alike : Alike k (pointer type) (pointer type')
  unfolding pointer
  pointer_alike = search (again, forms, marks, views) depth 12

  pub slice_or_array_alike : Alike k (slice_or_array type) (slice_or_array type')
  unfolding slice_or_array
  slice_or_array_alike = search (again, forms, marks, views) depth 12

  pub tuple_or_paren_alike : Alike k (tuple_or_paren type) (tuple_or_paren type')
  unfolding tuple_or_paren
  tuple_or_paren_alike = search (again, forms, marks, views) depth 12

  pub fn_arg_alike : Alike k (fn_arg type) (fn_arg type')
  unfolding fn_arg
  fn_arg_alike = search (again, forms, marks, views) depth 12

  output_at_alike : (b : Bool) → Alike k (output type b) (output type' b)
  output_at_alike b = weaker (output_alike b)

  pub fn_pointer_alike : Alike (suc k) (fn_pointer type) (fn_pointer type')
  unfolding fn_pointer
  fn_pointer_alike = search (fn_head_alike, fn_arg_alike, output_at_alike, forms, marks, views) depth 12

  pub implements_alike : (b : Bool) → Alike (suc k) (implements type b) (implements type' b)
  unfolding implements
  implements_alike b = search (bounds_alike, forms, marks, views) depth 12

  pub object_alike : (b : Bool) → Alike (suc k) (object type b) (object type' b)
  unfolding object
  object_alike b = search (bounds_alike, forms, marks, views) depth 12

  pub named_alike : Alike (suc k) (named type) (named type')
  unfolding named macro_end
  named_alike = shown_where_alike there named_back (then_by_alike (qpath_alike style.Type) (λ p. macro_end_alike p))
    where
      macro_there_at : (q : t.QSelfTree) (p : PathTree) (g : Delimiter × List Tok) (m n : List Tok) → (macro_end (q, p)).behind (Some g) m ≡ Some n
          → from_named (to_named ((q, p), Some g)) ≡ Some ((q, p), Some g)
      macro_there_at t.no_qself p g m n h = macro_there p g
      macro_there_at (t.qself u i a) p g m n h = let e : None ≡ Some n = h in absurd cc

      there : (l : List Tok) (x : QPathTree × MacroEnd) (n : List Tok) → (then_by (qpath type style.Type) (macro_end)).behind x l ≡ Some n → from_named (to_named x) ≡ Some x
      there l ((q, p), None) n h = named_there q p
      there l ((q, p), Some g) n h =
          let (m, e, j) = behind_some ((qpath type style.Type).behind (q, p) l) ((macro_end (q, p)).behind (Some g)) n h in
          macro_there_at q p g m n j

  pub at_place_alike : (b : Bool) → Alike (suc k) (at_place type b) (at_place type' b)
  unfolding at_place
  at_place_alike b =
      case_alike and_present reference_alike
      (case_alike star_present pointer_alike
      (case_alike bang_present (pure_alike only_never)
      (case_alike underscore_present (pure_alike only_infer)
      (group_case_alike del.Bracket slice_or_array_alike
      (group_case_alike del.Parenthesis tuple_or_paren_alike
      (when_alike _ fn_pointer_alike
      (case_alike implementing_present (weaker (implements_alike b))
      (case_alike dynamic_present (weaker (object_alike b))
      named_alike))))))))

-- ---- the knot

type_steps : (k : ℕ) → Steps k at_place at_place
type_steps k = record {
  lowest = λ f r b. weaker (at_place_alike r b);
  next = λ j h f f' r b. at_place_alike r b;
}

pub type_alike : (k : ℕ) (b : Bool) → Alike k (type b) (type b)
unfolding type
type_alike k b = fix_alike (type_steps k) b

-- the reading of types, opened once
pub type_is : (b : Bool) (l : List Tok) → (type b).reads l ≡ (at_place type b).reads l
unfolding type
type_is b l = fix_is type_steps b l

pub types_alike : {k : ℕ} (b : Bool) → Alike k (type b) (type b)
types_alike {k} b = type_alike k b

-- ---- the parts over types

pub whole_path_alike : {k : ℕ} (s : PathStyle) → Alike k (path type s) (path type s)
whole_path_alike {k} s = weaker (path_alike {k = k} types_alike s)

pub whole_segment_alike : {k : ℕ} (s : PathStyle) → Alike k (segment type s) (segment type s)
whole_segment_alike {k} s = weaker (segment_alike {k = k} types_alike s)

pub macro_alike : {k : ℕ} → Alike k macro macro
unfolding macro
macro_alike = search (whole_path_alike, forms, marks, views) depth 12

-- ---- what is true of each part

-- what spells a type, opened once: by its kind, and what spells the types in it
pub spells_is : (b : Bool) (l : List Tok) (x : TypeTree) (n : List Tok) → SpellsType b l x n ↔ ((at_place type b).behind x l ≡ Some n)
spells_is b l x n =
    let f = type_alike 0 b in
    let a = at_place_alike {k = 0} types_alike b in
    ((λ h. a.sound l x n (sym (type_is b l) ∙ f.complete l x n h)), (λ h. f.sound l x n (type_is b l ∙ a.complete l x n h)))

-- no list has two types in front, nor two rests
pub one_type : (b : Bool) (l : List Tok) (x y : TypeTree) (m n : List Tok) → SpellsType b l x m → SpellsType b l y n → (x ≡ y) × (m ≡ n)
one_type b l x y m n h k =
    let f = type_alike 0 b in
    let e : (x, m) ≡ (y, n) = some_is (sym (f.complete l x m h) ∙ f.complete l y n k) in
    (ap (λ p. p.0) e, ap (λ p. p.1) e)

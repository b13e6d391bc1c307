-- What is printed of each kind of pattern is its tree's own tokens, where that of each pattern in it is.
use Rattle.std.proofs.Common.{◌≡◌, Bool, false, List, [], ◌∷◌, ◌++◌, map, Option, Some, None, refl, sym, ap, ◌∙◌, append_assoc}
use Rattle.std.proofs.lemmas.List.{append-nil}
use Rattle.std.specs.Prelude.{is_some, codes}
use Rattle.std.specs.declared.vec.Vec.{Vec}
use Rattle.std.specs.declared.boxed.Box.{Box}
use Rattle.std.specs.declared.alloc.Global.{Global}
use Rattle.syn_lexer.specs.declared.front.Delimiter.TheVariants as del
use Rattle.syn_tokens.specs.Tok.{Tok, ident}
use Rattle.syn_lower_spec.specs.Text.{Text}
use Rattle.syn_lower_spec.specs.Tree.{AttributeTree}
use Rattle.syn_lower_spec.specs.Own.{alone, before_if, before_some, comma_before, enclosed, elements_own, attribute_own, block_own}
use Rattle.syn_lower_spec.specs.Pat as t
use Rattle.syn_lower_spec.specs.Pat.{PatTree, FieldPatTree}
use Rattle.syn_lower_spec.specs.PatOwn.{limits_before, range_bound_own, vert_before, word_if, attributes_own, pat_own, sub_own, pats_own, or_own, fields_own, field_own}
use Rattle.syn_tokens.specs.Sign.{sign_toks}
use Rattle.syn_expr_spec.specs.Tree.{Tree}
use Rattle.syn_expr_spec.specs.Op.{limits_text}
use Rattle.syn_expr_tokens.specs.View.{limits_kind}
use Rattle.syn_expr_tokens.specs.declared.limits.RangeLimits.{RangeLimits}
use Rattle.syn_expr_tokens.specs.declared.limits.RangeLimits.TheVariants as limits
use Rattle.syn_lower_leaves.proofs.Owns.{Appends, listed_own-punctuated, punctuated_same}
use Rattle.syn_lower_leaves.specs.declared.punctuated.Punctuated.{Punctuated}
use Rattle.syn_lower_types.proofs.Prints.{qpath_print, path_print, macro_print}
use Rattle.syn_lower_leaves.specs.declared.attr.Attribute.{Attribute}
use Rattle.syn_pat.proofs.Appends.{attribute_append, attributes_append, bound_append, member_append, pat_append, field_append}
use Rattle.syn_pat.specs.View.{PatView, attribute_of, attributes_of, attributed_by, mapped, values, trails, type_of, member_of, bound_of, is_closed, sub_of, field_of, field_pat_of, pat_wild_of, pat_rest_of, pat_range_of, pat_lit_of, pat_ident_of, pat_path_of, pat_macro_of, pat_struct_of, pat_tuple_struct_of, pat_tuple_of, pat_paren_of, pat_slice_of, pat_reference_of, pat_const_of, pat_or_of, pat_type_of, pat_guard_of}
use Rattle.syn_pat.specs.Printed.{all_printed, option_printed, punctuated_printed, comma, word, dots, vert, path_printed, type_printed, attributes_printed, wild_printed, rest_printed, range_printed, lit_printed, pat_path_printed, pat_macro_printed, const_printed, binding_printed, sub_printed, ident_printed, kind_printed, field_printed, struct_printed, tuple_struct_printed, tuple_printed, slice_printed, or_printed, paren_printed, reference_printed, typed_printed}
use Rattle.syn_pat.specs.declared.pat.RangeBound.{RangeBound}
use Rattle.syn_pat.specs.declared.pat.FieldPatKindOf.{FieldPatKindOf}
use Rattle.syn_pat.specs.declared.pat.FieldPatKindOf.TheVariants as field
use Rattle.syn_pat.specs.declared.pat.FieldPatOf.{FieldPatOf}
use Rattle.syn_pat.specs.declared.pat.PatWild.{PatWild}
use Rattle.syn_pat.specs.declared.pat.PatRest.{PatRest}
use Rattle.syn_pat.specs.declared.pat.PatRange.{PatRange}
use Rattle.syn_pat.specs.declared.pat.PatLit.{PatLit}
use Rattle.syn_pat.specs.declared.pat.PatIdentOf.{PatIdentOf}
use Rattle.syn_pat.specs.declared.pat.PatPath.{PatPath}
use Rattle.syn_pat.specs.declared.pat.PatMacro.{PatMacro}
use Rattle.syn_pat.specs.declared.pat.PatStructOf.{PatStructOf}
use Rattle.syn_pat.specs.declared.pat.PatTupleStructOf.{PatTupleStructOf}
use Rattle.syn_pat.specs.declared.pat.PatTupleOf.{PatTupleOf}
use Rattle.syn_pat.specs.declared.pat.PatParenOf.{PatParenOf}
use Rattle.syn_pat.specs.declared.pat.PatSliceOf.{PatSliceOf}
use Rattle.syn_pat.specs.declared.pat.PatReferenceOf.{PatReferenceOf}
use Rattle.syn_pat.specs.declared.pat.PatConst.{PatConst}
use Rattle.syn_pat.specs.declared.pat.PatOrOf.{PatOrOf}
use Rattle.syn_pat.specs.declared.pat.PatTypeOf.{PatTypeOf}

-- ---- attributes before a pattern

items_print : (xs : List Attribute) (r : List Tok) → attributes_own (map attribute_of xs) r ≡ all_printed (λ a. attribute_own (attribute_of a) []) xs ++ r
items_print [] r = refl
items_print (a ∷ xs) r =
    attribute_append (attribute_of a) _ ∙ ap (λ m. attribute_own (attribute_of a) [] ++ m) (items_print xs r)
    ∙ sym (append_assoc (attribute_own (attribute_of a) []) (all_printed (λ a. attribute_own (attribute_of a) []) xs) r)

pub attributes_print : (attrs : Vec Attribute Global) (r : List Tok) → attributes_own (attributes_of attrs) r ≡ attributes_printed attrs ++ r
attributes_print attrs r = items_print attrs.items r

attributed_own : (xs : List AttributeTree) (p : PatTree) → pat_own (attributed_by xs p) [] ≡ attributes_own xs (pat_own p [])
attributed_own [] p = refl
attributed_own (a ∷ more) p = refl

pub attributed_print : (attrs : Vec Attribute Global) (p : PatTree) (ts : List Tok) → pat_own p [] ≡ ts → pat_own (attributed_by (attributes_of attrs) p) [] ≡ attributes_printed attrs ++ ts
attributed_print attrs p ts e = attributed_own (attributes_of attrs) p ∙ attributes_print attrs (pat_own p []) ∙ ap (λ m. attributes_printed attrs ++ m) e

-- ---- what may be missing

word_print : {S : Type 0} (w : Text) (o : Option S) (r : List Tok) → word_if (is_some o) w r ≡ option_printed (word w) o ++ r
unfolding option_printed
word_print w None r = refl
word_print w (Some s) r = refl

dots_print : {S : Type 0} (o : Option S) → before_if (is_some o) (limits_before false) [] ≡ option_printed dots o
unfolding option_printed
dots_print None = refl
dots_print (Some s) = refl

vert_print : {S : Type 0} (o : Option S) (r : List Tok) → before_if (is_some o) vert_before r ≡ option_printed vert o ++ r
unfolding option_printed
vert_print None r = refl
vert_print (Some s) r = refl

bound_print : (o : Option RangeBound) (r : List Tok) → before_some (mapped bound_of o) range_bound_own r ≡ option_printed (λ b. range_bound_own (bound_of b) []) o ++ r
unfolding option_printed
bound_print None r = refl
bound_print (Some b) r = bound_append (bound_of b) r

nothing_behind : (o : Option RangeBound) → before_some (mapped bound_of o) range_bound_own [] ≡ option_printed (λ b. range_bound_own (bound_of b) []) o
unfolding option_printed
nothing_behind None = refl
nothing_behind (Some b) = refl

limits_print : (x : RangeLimits) (r : List Tok) → limits_before (is_closed x) r ≡ sign_toks (limits_text (limits_kind x)) ++ r
limits_print (limits.HalfOpen t) r = refl
limits_print (limits.Closed t) r = refl

binding_print : {R M : Type 0} (b : Option R) (m : Option M) (w : Text) (r : List Tok) → word_if (is_some b) (codes "ref") (word_if (is_some m) (codes "mut") (ident w ∷ r)) ≡ binding_printed b m w ++ r
binding_print b m w r =
    word_print (codes "ref") b _ ∙ ap (λ l. option_printed (word (codes "ref")) b ++ l) (
    word_print (codes "mut") m (ident w ∷ r) ∙ sym (append_assoc (option_printed (word (codes "mut")) m) (ident w ∷ []) r))
    ∙ sym (append_assoc (option_printed (word (codes "ref")) b) (option_printed (word (codes "mut")) m ++ ident w ∷ []) r)

-- ---- lists

pats_listed : (xs : List PatTree) (e : Bool) (r : List Tok) → pats_own (t.pats_of xs) e r ≡ elements_own pat_own comma_before xs e r
pats_listed [] e r = refl
pats_listed (x ∷ []) e r = refl
pats_listed (x ∷ y ∷ xs) e r = ap (λ m. pat_own x (comma_before m)) (pats_listed (y ∷ xs) e r)

or_listed : (xs : List PatTree) (e : Bool) (r : List Tok) → or_own (t.pats_of xs) e r ≡ elements_own pat_own vert_before xs e r
or_listed [] e r = refl
or_listed (x ∷ []) e r = refl
or_listed (x ∷ y ∷ xs) e r = ap (λ m. pat_own x (vert_before m)) (or_listed (y ∷ xs) e r)

abbrev one_field : FieldPatTree → List Tok → List Tok
one_field x r = attributes_own x.attrs (field_own x.field r)

fields_listed : (xs : List FieldPatTree) (e : Bool) (r : List Tok) → fields_own (t.fields_of xs) e r ≡ elements_own one_field comma_before xs e r
fields_listed [] e r = refl
fields_listed (x ∷ []) e r = refl
fields_listed (x ∷ y ∷ xs) e r = ap (λ m. one_field x (comma_before m)) (fields_listed (y ∷ xs) e r)

pat_appends : Appends pat_own
pat_appends = record { before = pat_append }

field_appends : Appends one_field
field_appends = record { before = λ x r. attributes_append x.attrs _ ∙ ap (λ m. attributes_own x.attrs [] ++ m) (field_append x.field r) ∙ sym (append_assoc (attributes_own x.attrs []) (field_own x.field []) r) ∙ ap (λ m. m ++ r) (sym (attributes_append x.attrs (field_own x.field []))) }

-- ---- kinds that hold no patterns

pub wild_print : (x : PatWild) → pat_own (pat_wild_of x).tree [] ≡ wild_printed x
wild_print x = attributed_print x.attrs _ _ refl

pub rest_print : (x : PatRest) → pat_own (pat_rest_of x).tree [] ≡ rest_printed x
rest_print x = attributed_print x.attrs _ _ refl

pub range_print : (x : PatRange) → pat_own (pat_range_of x).tree [] ≡ range_printed x
range_print x =
    attributed_print x.attrs _ _ (bound_print x.start _ ∙ ap (λ m. option_printed (λ b. range_bound_own (bound_of b) []) x.start ++ m) (
    limits_print x.limits _ ∙ ap (λ m. sign_toks (limits_text (limits_kind x.limits)) ++ m) (nothing_behind x.end)))

pub lit_print : (x : PatLit) → pat_own (pat_lit_of x).tree [] ≡ lit_printed x
lit_print x = attributed_print x.attrs _ _ refl

pub pat_path_print : (x : PatPath) → pat_own (pat_path_of x).tree [] ≡ pat_path_printed x
pat_path_print x = attributed_print x.attrs _ _ (qpath_print type_of x.qself x.path)

pub pat_macro_print : (x : PatMacro) → pat_own (pat_macro_of x).tree [] ≡ pat_macro_printed x
pat_macro_print x = attributed_print x.attrs _ _ (macro_print type_of x.mac)

pub const_print : (x : PatConst) → pat_own (pat_const_of x).tree [] ≡ const_printed x
unfolding block_own
const_print x = attributed_print x.attrs _ _ refl

-- ---- kinds that hold patterns, by the views of these

module _ {P : Type 0} (f : P → PatView) where
  -- the own tokens of a pattern
  abbrev pub toks : P → List Tok
  toks x = pat_own (f x).tree []

  pats_print : {S : Type 0} (p : Punctuated P S) → pats_own (t.pats_of (map (λ x. (f x).tree) (values p))) (trails p) [] ≡ punctuated_printed toks comma p
  pats_print p =
      pats_listed (map (λ x. (f x).tree) (values p)) (trails p) [] ∙ listed_own-punctuated pat_own comma_before (λ x. (f x).tree) comma pat_appends (λ q m. refl) p []
      ∙ append-nil (punctuated_printed toks comma p)

  cases_print : {S : Type 0} (p : Punctuated P S) → or_own (t.pats_of (map (λ x. (f x).tree) (values p))) (trails p) [] ≡ punctuated_printed toks vert p
  cases_print p =
      or_listed (map (λ x. (f x).tree) (values p)) (trails p) [] ∙ listed_own-punctuated pat_own vert_before (λ x. (f x).tree) vert pat_appends (λ q m. refl) p []
      ∙ append-nil (punctuated_printed toks vert p)

  -- ---- bindings

  sub_print : {A : Type 0} (s : Option (A × Box P Global)) → sub_own (sub_of f s) [] ≡ sub_printed toks s
  sub_print None = refl
  sub_print (Some s) = refl

  pub ident_print : (x : PatIdentOf P) → pat_own (pat_ident_of f x).tree [] ≡ ident_printed toks x
  ident_print x =
      attributed_print x.attrs _ _ (binding_print x.by_ref x.mutability x.ident _ ∙ ap (λ m. binding_printed x.by_ref x.mutability x.ident ++ m) (sub_print x.subpat))

  -- ---- structs

  kind_print : (x : FieldPatKindOf P) → field_own (field_of f x) [] ≡ kind_printed toks x
  kind_print (field.Short x) = binding_print x.by_ref x.mutability x.ident [] ∙ append-nil (binding_printed x.by_ref x.mutability x.ident)
  kind_print (field.Full x) = member_append (member_of x.member) _

  field_print : (x : FieldPatOf P) → one_field (field_pat_of f x) [] ≡ field_printed toks x
  field_print x = attributes_print x.attrs _ ∙ ap (λ m. attributes_printed x.attrs ++ m) (kind_print x.kind)

  fields_print : {S : Type 0} (p : Punctuated (FieldPatOf P) S) (r : List Tok) → fields_own (t.fields_of (map (field_pat_of f) (values p))) (trails p) r ≡ punctuated_printed (field_printed toks) comma p ++ r
  fields_print p r =
      fields_listed (map (field_pat_of f) (values p)) (trails p) r ∙ listed_own-punctuated one_field comma_before (field_pat_of f) comma field_appends (λ q m. refl) p r
      ∙ ap (λ m. m ++ r) (punctuated_same (λ x. one_field (field_pat_of f x) []) (field_printed toks) comma field_print p)

  pub struct_print : (x : PatStructOf P) → pat_own (pat_struct_of f x).tree [] ≡ struct_printed toks x
  struct_print x =
      attributed_print x.attrs _ _ (path_print type_of x.path _ ∙ ap (λ m. path_printed type_printed x.path ++ m) (
      ap (λ ts. enclosed del.Brace ts []) (fields_print x.fields _ ∙ ap (λ m. punctuated_printed (field_printed toks) comma x.fields ++ m) (dots_print x.rest))))

  -- ---- lists

  pub tuple_struct_print : (x : PatTupleStructOf P) → pat_own (pat_tuple_struct_of f x).tree [] ≡ tuple_struct_printed toks x
  tuple_struct_print x =
      attributed_print x.attrs _ _ (path_print type_of x.path _ ∙ ap (λ m. path_printed type_printed x.path ++ m) (ap (λ ts. enclosed del.Parenthesis ts []) (pats_print x.elems)))

  pub tuple_print : (x : PatTupleOf P) → pat_own (pat_tuple_of f x).tree [] ≡ tuple_printed toks x
  tuple_print x = attributed_print x.attrs _ _ (ap (λ ts. enclosed del.Parenthesis ts []) (pats_print x.elems))

  pub slice_print : (x : PatSliceOf P) → pat_own (pat_slice_of f x).tree [] ≡ slice_printed toks x
  slice_print x = attributed_print x.attrs _ _ (ap (λ ts. enclosed del.Bracket ts []) (pats_print x.elems))

  pub or_print : (x : PatOrOf P) → pat_own (pat_or_of f x).tree [] ≡ or_printed toks x
  or_print x = attributed_print x.attrs _ _ (vert_print x.leading_vert _ ∙ ap (λ m. option_printed vert x.leading_vert ++ m) (cases_print x.cases))

  -- ---- patterns round one

  pub paren_print : (x : PatParenOf P) → pat_own (pat_paren_of f x).tree [] ≡ paren_printed toks x
  paren_print x = attributed_print x.attrs _ _ refl

  pub reference_print : (x : PatReferenceOf P) → pat_own (pat_reference_of f x).tree [] ≡ reference_printed toks x
  reference_print x = attributed_print x.attrs _ _ (ap (λ m. alone 38 ∷ m) (word_print (codes "mut") x.mutability _))

  pub typed_print : (x : PatTypeOf P) → pat_own (pat_type_of f x).tree [] ≡ typed_printed toks x
  typed_print x = attributed_print x.attrs _ _ (pat_append (f x.pat.value).tree _)

-- the tokens before a guard's `if`
pub guard_print : (attrs : Vec Attribute Global) (p : PatView) (guard : Tree) → pat_own (pat_guard_of attrs p guard).tree [] ≡ attributes_printed attrs ++ pat_own p.tree []
guard_print attrs p guard = attributed_print attrs _ _ refl

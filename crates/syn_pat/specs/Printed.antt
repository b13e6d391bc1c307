-- What is printed of each kind of pattern, by what is printed of the patterns in it.
use Rattle.std.specs.Prelude.{ℕ, List, [], ◌∷◌, ◌++◌, codes, Option, Some, None}
use Rattle.std.specs.declared.vec.Vec.{Vec}
use Rattle.std.specs.declared.boxed.Box.{Box}
use Rattle.std.specs.declared.alloc.Global.{Global}
use Rattle.syn_lexer.specs.declared.front.Delimiter.TheVariants as del
use Rattle.syn_tokens.specs.Tok.{Tok, ident}
use Rattle.syn_tokens.specs.Sign.{sign_toks}
use Rattle.syn_lower_spec.specs.Own.{alone, joint, attribute_own, lit_own, block_own, type_own}
use Rattle.syn_lower_spec.specs.PatOwn.{member_own, range_bound_own}
use Rattle.syn_expr_spec.specs.Op.{limits_text}
use Rattle.syn_expr_tokens.specs.View.{limits_kind}
pub use Rattle.syn_lower_leaves.specs.ReadBack.{all_printed}
pub use Rattle.syn_lower_types.specs.Printed.{comma, word, grouped, path_printed, macro_printed, qpath_printed}
unfoldable pub use Rattle.syn_lower_types.specs.Printed.{option_printed, punctuated_printed}
use Rattle.syn_lower.specs.declared.ty.«Type».{«Type»}
use Rattle.syn_lower_leaves.specs.declared.attr.Attribute.{Attribute}
use Rattle.syn_pat.specs.View.{attribute_of, type_of, lit_of, member_of, bound_of}
use Rattle.syn_pat.specs.declared.pat.FieldPatKindOf.{FieldPatKindOf}
use Rattle.syn_pat.specs.declared.pat.FieldPatKindOf.TheVariants as field
use Rattle.syn_pat.specs.declared.pat.FieldPatOf.{FieldPatOf}
use Rattle.syn_pat.specs.declared.pat.ShortFieldPat.{ShortFieldPat}
use Rattle.syn_pat.specs.declared.pat.FullFieldPatOf.{FullFieldPatOf}
use Rattle.syn_pat.specs.declared.pat.PatWild.{PatWild}
use Rattle.syn_pat.specs.declared.pat.PatRest.{PatRest}
use Rattle.syn_pat.specs.declared.pat.PatRange.{PatRange}
use Rattle.syn_pat.specs.declared.pat.PatLit.{PatLit}
use Rattle.syn_pat.specs.declared.pat.PatIdentOf.{PatIdentOf}
use Rattle.syn_pat.specs.declared.pat.PatPath.{PatPath}
use Rattle.syn_pat.specs.declared.pat.PatMacro.{PatMacro}
use Rattle.syn_pat.specs.declared.pat.PatStructOf.{PatStructOf}
use Rattle.syn_pat.specs.declared.pat.PatTupleStructOf.{PatTupleStructOf}
use Rattle.syn_pat.specs.declared.pat.PatTupleOf.{PatTupleOf}
use Rattle.syn_pat.specs.declared.pat.PatParenOf.{PatParenOf}
use Rattle.syn_pat.specs.declared.pat.PatSliceOf.{PatSliceOf}
use Rattle.syn_pat.specs.declared.pat.PatReferenceOf.{PatReferenceOf}
use Rattle.syn_pat.specs.declared.pat.PatConst.{PatConst}
use Rattle.syn_pat.specs.declared.pat.PatOrOf.{PatOrOf}
use Rattle.syn_pat.specs.declared.pat.PatTypeOf.{PatTypeOf}

-- ---- the parts of patterns

abbrev pub type_printed : «Type» → List Tok
type_printed x = type_own (type_of x) []

abbrev pub attributes_printed : Vec Attribute Global → List Tok
attributes_printed attrs = all_printed (λ a. attribute_own (attribute_of a) []) attrs.items

abbrev pub dots : {S : Type 0} → S → List Tok
dots s = joint 46 ∷ alone 46 ∷ []

abbrev pub vert : {S : Type 0} → S → List Tok
vert s = alone 124 ∷ []

-- ---- kinds that hold no patterns

abbrev pub wild_printed : PatWild → List Tok
wild_printed x = attributes_printed x.attrs ++ ident (codes "_") ∷ []

abbrev pub rest_printed : PatRest → List Tok
rest_printed x = attributes_printed x.attrs ++ joint 46 ∷ alone 46 ∷ []

abbrev pub range_printed : PatRange → List Tok
range_printed x =
    attributes_printed x.attrs
    ++ (option_printed (λ b. range_bound_own (bound_of b) []) x.start
    ++ (sign_toks (limits_text (limits_kind x.limits)) ++ option_printed (λ b. range_bound_own (bound_of b) []) x.end))

abbrev pub lit_printed : PatLit → List Tok
lit_printed x = attributes_printed x.attrs ++ lit_own (lit_of x.lit) []

abbrev pub pat_path_printed : PatPath → List Tok
pat_path_printed x = attributes_printed x.attrs ++ qpath_printed type_printed x.qself x.path

abbrev pub pat_macro_printed : PatMacro → List Tok
pat_macro_printed x = attributes_printed x.attrs ++ macro_printed type_printed x.mac

abbrev pub const_printed : PatConst → List Tok
const_printed x = attributes_printed x.attrs ++ ident (codes "const") ∷ block_own x.block.stmts []

-- ---- bindings

-- `@` and a pattern
abbrev pub sub_printed : {P A : Type 0} → (P → List Tok) → Option (A × Box P Global) → List Tok
sub_printed f None = []
sub_printed f (Some s) = alone 64 ∷ f s.1.value

-- `ref`, `mut` and a name
abbrev pub binding_printed : {R M : Type 0} → Option R → Option M → List ℕ → List Tok
binding_printed r m w = option_printed (word (codes "ref")) r ++ (option_printed (word (codes "mut")) m ++ ident w ∷ [])

abbrev pub ident_printed : {P : Type 0} → (P → List Tok) → PatIdentOf P → List Tok
ident_printed f x = attributes_printed x.attrs ++ (binding_printed x.by_ref x.mutability x.ident ++ sub_printed f x.subpat)

-- ---- structs

abbrev pub short_printed : ShortFieldPat → List Tok
short_printed x = binding_printed x.by_ref x.mutability x.ident

abbrev pub full_printed : {P : Type 0} → (P → List Tok) → FullFieldPatOf P → List Tok
full_printed f x = member_own (member_of x.member) [] ++ alone 58 ∷ f x.pat.value

abbrev pub kind_printed : {P : Type 0} → (P → List Tok) → FieldPatKindOf P → List Tok
kind_printed f (field.Short x) = short_printed x
kind_printed f (field.Full x) = full_printed f x

abbrev pub field_printed : {P : Type 0} → (P → List Tok) → FieldPatOf P → List Tok
field_printed f x = attributes_printed x.attrs ++ kind_printed f x.kind

abbrev pub struct_printed : {P : Type 0} → (P → List Tok) → PatStructOf P → List Tok
struct_printed f x =
    attributes_printed x.attrs
    ++ (path_printed type_printed x.path ++ grouped del.Brace (punctuated_printed (field_printed f) comma x.fields ++ option_printed dots x.rest))

-- ---- lists

abbrev pub tuple_struct_printed : {P : Type 0} → (P → List Tok) → PatTupleStructOf P → List Tok
tuple_struct_printed f x =
    attributes_printed x.attrs ++ (path_printed type_printed x.path ++ grouped del.Parenthesis (punctuated_printed f comma x.elems))

abbrev pub tuple_printed : {P : Type 0} → (P → List Tok) → PatTupleOf P → List Tok
tuple_printed f x = attributes_printed x.attrs ++ grouped del.Parenthesis (punctuated_printed f comma x.elems)

abbrev pub slice_printed : {P : Type 0} → (P → List Tok) → PatSliceOf P → List Tok
slice_printed f x = attributes_printed x.attrs ++ grouped del.Bracket (punctuated_printed f comma x.elems)

abbrev pub or_printed : {P : Type 0} → (P → List Tok) → PatOrOf P → List Tok
or_printed f x = attributes_printed x.attrs ++ (option_printed vert x.leading_vert ++ punctuated_printed f vert x.cases)

-- ---- patterns round one

abbrev pub paren_printed : {P : Type 0} → (P → List Tok) → PatParenOf P → List Tok
paren_printed f x = attributes_printed x.attrs ++ grouped del.Parenthesis (f x.pat.value)

abbrev pub reference_printed : {P : Type 0} → (P → List Tok) → PatReferenceOf P → List Tok
reference_printed f x = attributes_printed x.attrs ++ alone 38 ∷ (option_printed (word (codes "mut")) x.mutability ++ f x.pat.value)

abbrev pub typed_printed : {P : Type 0} → (P → List Tok) → PatTypeOf P → List Tok
typed_printed f x = attributes_printed x.attrs ++ (f x.pat.value ++ alone 58 ∷ type_printed x.ty.value)

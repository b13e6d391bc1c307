-- Each kind of pattern as a tree without places, by the views of the patterns in it: the tree, and the guards that are
-- beside it.
use Rattle.std.specs.Prelude.{Bool, true, false, List, [], ◌∷◌, ◌++◌, map, flat_map, Option, Some, None, is_some}
use Rattle.std.specs.declared.vec.Vec.{Vec}
use Rattle.std.specs.declared.boxed.Box.{Box}
use Rattle.std.specs.declared.alloc.Global.{Global}
use Rattle.syn_lower_spec.specs.Tree.{AttributeTree}
use Rattle.syn_lower_spec.specs.Pat as t
use Rattle.syn_lower_spec.specs.Pat.{PatTree, PatBound, SubPat, Pats, FieldTree, FieldPatTree}
use Rattle.syn_expr_spec.specs.Tree.{Tree}
pub use Rattle.syn_lower_leaves.specs.View.{attribute_of, lit_of}
pub use Rattle.syn_lower.specs.View.{mapped, last_of, is_some_pair, path_of, qself_or, macro_of}
unfoldable pub use Rattle.syn_lower.specs.View.{values, trails, type_of}
pub use Rattle.syn_expr_tokens.specs.View.{member_of}
use Rattle.syn_lower_leaves.specs.declared.attr.Attribute.{Attribute}
use Rattle.syn_expr_tokens.specs.declared.limits.RangeLimits.{RangeLimits}
use Rattle.syn_expr_tokens.specs.declared.limits.RangeLimits.TheVariants as limits
use Rattle.syn_pat.specs.declared.pat.RangeBound.{RangeBound}
use Rattle.syn_pat.specs.declared.pat.RangeBound.TheVariants as bound
use Rattle.syn_pat.specs.declared.pat.FieldPatKindOf.{FieldPatKindOf}
use Rattle.syn_pat.specs.declared.pat.FieldPatKindOf.TheVariants as field
use Rattle.syn_pat.specs.declared.pat.FieldPatOf.{FieldPatOf}
use Rattle.syn_pat.specs.declared.pat.PatWild.{PatWild}
use Rattle.syn_pat.specs.declared.pat.PatRest.{PatRest}
use Rattle.syn_pat.specs.declared.pat.PatRange.{PatRange}
use Rattle.syn_pat.specs.declared.pat.PatLit.{PatLit}
use Rattle.syn_pat.specs.declared.pat.PatIdentOf.{PatIdentOf}
use Rattle.syn_pat.specs.declared.pat.PatPath.{PatPath}
use Rattle.syn_pat.specs.declared.pat.PatMacro.{PatMacro}
use Rattle.syn_pat.specs.declared.pat.PatStructOf.{PatStructOf}
use Rattle.syn_pat.specs.declared.pat.PatTupleStructOf.{PatTupleStructOf}
use Rattle.syn_pat.specs.declared.pat.PatTupleOf.{PatTupleOf}
use Rattle.syn_pat.specs.declared.pat.PatParenOf.{PatParenOf}
use Rattle.syn_pat.specs.declared.pat.PatSliceOf.{PatSliceOf}
use Rattle.syn_pat.specs.declared.pat.PatReferenceOf.{PatReferenceOf}
use Rattle.syn_pat.specs.declared.pat.PatConst.{PatConst}
use Rattle.syn_pat.specs.declared.pat.PatOrOf.{PatOrOf}
use Rattle.syn_pat.specs.declared.pat.PatTypeOf.{PatTypeOf}

-- a pattern without its guards, and these from left to right
pub record PatView : Type 0 where
  pub tree : PatTree
  pub guards : List Tree

-- ---- attributes

abbrev pub attributes_of : Vec Attribute Global → List AttributeTree
attributes_of attrs = map attribute_of attrs.items

abbrev pub attributed_by : List AttributeTree → PatTree → PatTree
attributed_by [] p = p
attributed_by (a ∷ more) p = t.attributed a more p

-- a pattern after its attributes, and the guards in it
abbrev pub view_with : Vec Attribute Global → PatTree → List Tree → PatView
view_with attrs p guards = record { tree = attributed_by (attributes_of attrs) p; guards = guards }

-- ---- patterns in patterns

-- those of a list, and the guards of all
abbrev pub pats_in : {P : Type 0} → (P → PatView) → List P → Pats
pats_in f ps = t.pats_of (map (λ p. (f p).tree) ps)

abbrev pub guards_in : {P : Type 0} → (P → PatView) → List P → List Tree
guards_in f ps = flat_map (λ p. (f p).guards) ps

-- the pattern after `@`
abbrev pub sub_of : {P A : Type 0} → (P → PatView) → Option (A × Box P Global) → SubPat
sub_of f None = t.no_sub
sub_of f (Some s) = t.sub (f s.1.value).tree

abbrev pub sub_guards : {P A : Type 0} → (P → PatView) → Option (A × Box P Global) → List Tree
sub_guards f None = []
sub_guards f (Some s) = (f s.1.value).guards

-- ---- fields of structs

abbrev pub field_of : {P : Type 0} → (P → PatView) → FieldPatKindOf P → FieldTree
field_of f (field.Short x) = t.short (is_some x.by_ref) (is_some x.mutability) x.ident
field_of f (field.Full x) = t.full (member_of x.member) (f x.pat.value).tree

abbrev pub field_guards : {P : Type 0} → (P → PatView) → FieldPatKindOf P → List Tree
field_guards f (field.Short x) = []
field_guards f (field.Full x) = (f x.pat.value).guards

abbrev pub field_pat_of : {P : Type 0} → (P → PatView) → FieldPatOf P → FieldPatTree
field_pat_of f x = record { attrs = attributes_of x.attrs; field = field_of f x.kind }

-- ---- ranges

abbrev pub is_closed : RangeLimits → Bool
is_closed (limits.HalfOpen t) = false
is_closed (limits.Closed t) = true

abbrev pub bound_of : RangeBound → PatBound
bound_of (bound.Lit x) = t.lit_bound (lit_of x)
bound_of (bound.Path q p) = t.path_bound (qself_or type_of q) (path_of type_of p)

-- ---- each kind

abbrev pub pat_wild_of : PatWild → PatView
pat_wild_of x = view_with x.attrs t.wild []

abbrev pub pat_rest_of : PatRest → PatView
pat_rest_of x = view_with x.attrs t.rest []

abbrev pub pat_range_of : PatRange → PatView
pat_range_of x = view_with x.attrs (t.range (mapped bound_of x.start) (is_closed x.limits) (mapped bound_of x.end)) []

abbrev pub pat_lit_of : PatLit → PatView
pat_lit_of x = view_with x.attrs (t.a_lit (lit_of x.lit)) []

abbrev pub pat_ident_of : {P : Type 0} → (P → PatView) → PatIdentOf P → PatView
pat_ident_of f x = view_with x.attrs (t.a_binding (is_some x.by_ref) (is_some x.mutability) x.ident (sub_of f x.subpat)) (sub_guards f x.subpat)

abbrev pub pat_path_of : PatPath → PatView
pat_path_of x = view_with x.attrs (t.a_path (qself_or type_of x.qself) (path_of type_of x.path)) []

abbrev pub pat_macro_of : PatMacro → PatView
pat_macro_of x = view_with x.attrs (t.a_mac (macro_of type_of x.mac)) []

abbrev pub pat_struct_of : {P : Type 0} → (P → PatView) → PatStructOf P → PatView
pat_struct_of f x =
    view_with x.attrs (t.a_struct (path_of type_of x.path) (t.fields_of (map (field_pat_of f) (values x.fields))) (trails x.fields) (is_some x.rest))
    (flat_map (λ y. field_guards f y.kind) (values x.fields))

abbrev pub pat_tuple_struct_of : {P : Type 0} → (P → PatView) → PatTupleStructOf P → PatView
pat_tuple_struct_of f x =
    view_with x.attrs (t.tuple_struct (path_of type_of x.path) (pats_in f (values x.elems)) (trails x.elems)) (guards_in f (values x.elems))

abbrev pub pat_tuple_of : {P : Type 0} → (P → PatView) → PatTupleOf P → PatView
pat_tuple_of f x = view_with x.attrs (t.a_tuple (pats_in f (values x.elems)) (trails x.elems)) (guards_in f (values x.elems))

abbrev pub pat_paren_of : {P : Type 0} → (P → PatView) → PatParenOf P → PatView
pat_paren_of f x = view_with x.attrs (t.a_paren (f x.pat.value).tree) (f x.pat.value).guards

abbrev pub pat_slice_of : {P : Type 0} → (P → PatView) → PatSliceOf P → PatView
pat_slice_of f x = view_with x.attrs (t.a_slice (pats_in f (values x.elems)) (trails x.elems)) (guards_in f (values x.elems))

abbrev pub pat_reference_of : {P : Type 0} → (P → PatView) → PatReferenceOf P → PatView
pat_reference_of f x = view_with x.attrs (t.a_reference (is_some x.mutability) (f x.pat.value).tree) (f x.pat.value).guards

abbrev pub pat_const_of : PatConst → PatView
pat_const_of x = view_with x.attrs (t.a_block x.block.stmts) []

abbrev pub pat_or_of : {P : Type 0} → (P → PatView) → PatOrOf P → PatView
pat_or_of f x = view_with x.attrs (t.alternatives (is_some x.leading_vert) (pats_in f (values x.cases)) (trails x.cases)) (guards_in f (values x.cases))

abbrev pub pat_type_of : {P : Type 0} → (P → PatView) → PatTypeOf P → PatView
pat_type_of f x = view_with x.attrs (t.typed (f x.pat.value).tree (type_of x.ty.value)) (f x.pat.value).guards

-- a pattern after its attributes, and its guard
abbrev pub pat_guard_of : Vec Attribute Global → PatView → Tree → PatView
pat_guard_of attrs p guard = view_with attrs (t.guarded p.tree) (p.guards ++ guard ∷ [])

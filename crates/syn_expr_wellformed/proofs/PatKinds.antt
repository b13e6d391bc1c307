-- Each kind of pattern is read back, with no guard in it, where its parts are.
use Rattle.std.proofs.Common.{◌≡◌, Bool, true, false, not, ◌&&◌, ◌||◌, List, [], ◌∷◌, ◌++◌, length, map, Option, Some, None, refl, ap, sym, ◌∙◌, ◌==◌, arith, rules}
use Rattle.std.proofs.lemmas.Bool.{eqb-true}
use Rattle.std.proofs.lemmas.List.{map-append, length-map}
use Rattle.std.specs.List.{list_all}
use Rattle.std.specs.Prelude.{flat_map, is_some}
use Rattle.std.specs.declared.vec.Vec.{Vec}
use Rattle.std.specs.declared.boxed.Box.{Box}
use Rattle.std.specs.declared.alloc.Global.{Global}
use Rattle.std.proofs.Math.Bool.{and-false, and-true}
use Rattle.syn_lower_spec.specs.declared.label.PathStyle.TheVariants as style
use Rattle.syn_lower_spec.specs.Form.{is_nil}
use Rattle.syn_lower_spec.specs.Tree.{AttributeTree, SegmentTree}
use Rattle.syn_lower_spec.specs.Part.{has_none, segments_bare}
use Rattle.syn_expr_spec.specs.Tree.{Tree}
use Rattle.syn_lower_spec.specs.Pat as t
use Rattle.syn_lower_spec.specs.Pat.{PatTree, PatBound, is_rest}
use Rattle.syn_lower_spec.specs.PatOwn.{no_more_pats, no_more_fields}
use Rattle.syn_lower_spec.specs.Fits.{lit_fits, path_fits, qpath_fits, is_macro_delimiter, ends_well}
use Rattle.syn_lower_spec.specs.PatFits.{attributes_outer, member_fits, bound_or, range_fits, is_one_name, begins_mut, is_one_pat, is_one_rest, pat_fits, sub_fits, pats_fit, or_fits, fields_fit, field_fits}
use Rattle.syn_lexer.specs.Keywords.{is_reserved_word}
use Rattle.syn_lower_leaves.specs.declared.mac.MacroDelimiter.{MacroDelimiter}
use Rattle.syn_lower_leaves.specs.declared.mac.MacroDelimiter.TheVariants as mac
use Rattle.syn_lower_leaves.specs.declared.attr.Attribute.{Attribute}
use Rattle.syn_lower_types.specs.declared.path.PathSegmentOf.{PathSegmentOf}
use Rattle.syn_lower_types.specs.View.{delimiter_of}
use Rattle.syn_lower.specs.declared.ty.«Type».{«Type»}
use Rattle.syn_lower_leaves.specs.declared.punctuated.Punctuated.{Punctuated}
use Rattle.syn_lower_leaves.specs.Punct.{is_one}
use Rattle.syn_lower_leaves.specs.View.{last_of, is_some_pair, mapped}
use Rattle.syn_lower.specs.View.{values, trails, type_of, segment_of, path_of, qself_or}
use Rattle.syn_lower.proofs.QPaths.{segments_bare-append}
use Rattle.syn_pat.specs.View as of
use Rattle.syn_pat.specs.View.{PatView, attribute_of, attributes_of, attributed_by, lit_of, bound_of, is_closed, pats_in, guards_in, sub_of, sub_guards, field_of, field_guards, field_pat_of}
use Rattle.syn_pat.specs.declared.pat.FieldPatOf.{FieldPatOf}
use Rattle.syn_pat.specs.declared.pat.FieldPatKindOf.{FieldPatKindOf}
use Rattle.syn_pat.specs.declared.pat.FieldPatKindOf.TheVariants as kind
use Rattle.syn_pat.specs.declared.pat.PatWild.{PatWild}
use Rattle.syn_pat.specs.declared.pat.PatRest.{PatRest}
use Rattle.syn_pat.specs.declared.pat.PatRange.{PatRange}
use Rattle.syn_pat.specs.declared.pat.PatLit.{PatLit}
use Rattle.syn_pat.specs.declared.pat.PatIdentOf.{PatIdentOf}
use Rattle.syn_pat.specs.declared.pat.PatPath.{PatPath}
use Rattle.syn_pat.specs.declared.pat.PatMacro.{PatMacro}
use Rattle.syn_pat.specs.declared.pat.PatStructOf.{PatStructOf}
use Rattle.syn_pat.specs.declared.pat.PatTupleStructOf.{PatTupleStructOf}
use Rattle.syn_pat.specs.declared.pat.PatTupleOf.{PatTupleOf}
use Rattle.syn_pat.specs.declared.pat.PatParenOf.{PatParenOf}
use Rattle.syn_pat.specs.declared.pat.PatSliceOf.{PatSliceOf}
use Rattle.syn_pat.specs.declared.pat.PatReferenceOf.{PatReferenceOf}
use Rattle.syn_pat.specs.declared.pat.PatConst.{PatConst}
use Rattle.syn_pat.specs.declared.pat.PatOrOf.{PatOrOf}
use Rattle.syn_pat.specs.declared.pat.PatTypeOf.{PatTypeOf}
use Rattle.syn_expr_wellformed.specs.declared.patterns.PatSort.TheVariants as sort
use Rattle.syn_expr_wellformed.specs.Alone.{fits_alone, attributes_at, behind, fits_behind, sort_at, is_rest_sort, is_mut_sort, sub_alone, is_sole_rest, kind_alone, field_alone}
use Rattle.syn_expr_wellformed.proofs.Closures.{four, swap, nil_append}

-- ---- attributes

pub whole-none : (b : Bool) (v : PatView) → is_nil (attributes_at v.tree) ≡ true → fits_behind b v ≡ fits_alone b v
whole-none b v h = ap (λ p. pat_fits b p && is_nil v.guards) (by v.tree h)
  where
    by : (p : PatTree) → is_nil (attributes_at p) ≡ true → behind p ≡ p
    by (t.attributed a more p) h = absurd cc
    by t.wild h = refl
    by t.rest h = refl
    by (t.range s c e) h = refl
    by (t.a_lit x) h = refl
    by (t.a_binding r m w s) h = refl
    by (t.a_path q p) h = refl
    by (t.a_mac m) h = refl
    by (t.a_struct p fs e d) h = refl
    by (t.tuple_struct p ps e) h = refl
    by (t.a_tuple ps e) h = refl
    by (t.a_paren p) h = refl
    by (t.a_slice ps e) h = refl
    by (t.a_reference m p) h = refl
    by (t.a_block ts) h = refl
    by (t.alternatives l ps e) h = refl
    by (t.guarded p) h = refl
    by (t.typed p x) h = refl

pub whole-some : (b : Bool) (v : PatView) → is_nil (attributes_at v.tree) ≡ false → fits_alone b v ≡ false
whole-some b v h = ap (λ c. c && is_nil v.guards) (by v.tree h)
  where
    by : (p : PatTree) → is_nil (attributes_at p) ≡ false → pat_fits b p ≡ false
    by (t.attributed a more p) h = refl
    by t.wild h = absurd cc
    by t.rest h = absurd cc
    by (t.range s c e) h = absurd cc
    by (t.a_lit x) h = absurd cc
    by (t.a_binding r m w s) h = absurd cc
    by (t.a_path q p) h = absurd cc
    by (t.a_mac m) h = absurd cc
    by (t.a_struct p fs e d) h = absurd cc
    by (t.tuple_struct p ps e) h = absurd cc
    by (t.a_tuple ps e) h = absurd cc
    by (t.a_paren p) h = absurd cc
    by (t.a_slice ps e) h = absurd cc
    by (t.a_reference m p) h = absurd cc
    by (t.a_block ts) h = absurd cc
    by (t.alternatives l ps e) h = absurd cc
    by (t.guarded p) h = absurd cc
    by (t.typed p x) h = absurd cc

-- what comes after the attributes, where it has none of its own
behind_by : (ats : List AttributeTree) (p : PatTree) → behind p ≡ p → behind (attributed_by ats p) ≡ p
behind_by [] p h = h
behind_by (a ∷ more) p h = refl

shown : (b : Bool) (ats : List AttributeTree) (p : PatTree) (gs : List Tree) → behind p ≡ p → (pat_fits b (behind (attributed_by ats p)) && is_nil gs) ≡ (pat_fits b p && is_nil gs)
shown b ats p gs h = ap (λ q. pat_fits b q && is_nil gs) (behind_by ats p h)

-- ---- what the pattern round another asks of it

sort_by : (ats : List AttributeTree) (p : PatTree) → (length ats == 0) ≡ true → sort_at (attributed_by ats p) ≡ sort_at p
sort_by [] p h = refl
sort_by (a ∷ more) p h = let e : length (a ∷ more) ≡ 0 = eqb-true (length (a ∷ more)) 0 h in absurd (omega arith)

sort_behind : (ats : List AttributeTree) (p : PatTree) → (length ats == 0) ≡ false → sort_at (attributed_by ats p) ≡ sort.Other
sort_behind [] p h = absurd cc
sort_behind (a ∷ more) p h = refl

pub sort-bare : (ats : Vec Attribute Global) (p : PatTree) → (length ats.items == 0) ≡ true → sort_at (attributed_by (map attribute_of ats.items) p) ≡ sort_at p
sort-bare ats p h = sort_by (map attribute_of ats.items) p (ap (λ n. n == 0) (length-map ats.items attribute_of) ∙ h)

pub sort-behind : (ats : Vec Attribute Global) (p : PatTree) → (length ats.items == 0) ≡ false → sort_at (attributed_by (map attribute_of ats.items) p) ≡ sort.Other
sort-behind ats p h = sort_behind (map attribute_of ats.items) p (ap (λ n. n == 0) (length-map ats.items attribute_of) ∙ h)

pub ruleset sorts = (sort-bare, sort-behind)

pub rest-asked : (p : PatTree) → is_rest p ≡ is_rest_sort (sort_at p)
rest-asked (t.a_binding false false w s) = refl
rest-asked (t.a_binding false true w s) = refl
rest-asked (t.a_binding true m w s) = refl
rest-asked t.wild = refl
rest-asked t.rest = refl
rest-asked (t.range s c e) = refl
rest-asked (t.a_lit x) = refl
rest-asked (t.a_path q p) = refl
rest-asked (t.a_mac m) = refl
rest-asked (t.a_struct p fs e d) = refl
rest-asked (t.tuple_struct p ps e) = refl
rest-asked (t.a_tuple ps e) = refl
rest-asked (t.a_paren p) = refl
rest-asked (t.a_slice ps e) = refl
rest-asked (t.a_reference m p) = refl
rest-asked (t.a_block ts) = refl
rest-asked (t.alternatives l ps e) = refl
rest-asked (t.guarded p) = refl
rest-asked (t.typed p x) = refl
rest-asked (t.attributed a more p) = refl

pub mut-asked : (p : PatTree) → begins_mut p ≡ is_mut_sort (sort_at p)
mut-asked (t.a_binding false false w s) = refl
mut-asked (t.a_binding false true w s) = refl
mut-asked (t.a_binding true m w s) = refl
mut-asked t.wild = refl
mut-asked t.rest = refl
mut-asked (t.range s c e) = refl
mut-asked (t.a_lit x) = refl
mut-asked (t.a_path q p) = refl
mut-asked (t.a_mac m) = refl
mut-asked (t.a_struct p fs e d) = refl
mut-asked (t.tuple_struct p ps e) = refl
mut-asked (t.a_tuple ps e) = refl
mut-asked (t.a_paren p) = refl
mut-asked (t.a_slice ps e) = refl
mut-asked (t.a_reference m p) = refl
mut-asked (t.a_block ts) = refl
mut-asked (t.alternatives l ps e) = refl
mut-asked (t.guarded p) = refl
mut-asked (t.typed p x) = refl
mut-asked (t.attributed a more p) = refl

pub ruleset asked = (rest-asked, mut-asked)

-- `..` alone in a list
pub sole-some : {P S : Type 0} (f : P → PatView) (xs : List (P × S)) (p : Box P Global) → is_sole_rest f xs (Some p) ≡ ((length xs == 0) && is_rest (f p.value).tree)
sole-some f [] p = refl
sole-some f (x ∷ xs) p = let n : false ≡ (length (x ∷ xs) == 0) = search rules in ap (λ b. b && is_rest (f p.value).tree) n

pub sole-none : {P S : Type 0} (f : P → PatView) (xs : List (P × S)) → is_sole_rest f xs None ≡ false
sole-none f [] = refl
sole-none f (x ∷ xs) = refl

pub ruleset soles = (sole-some, sole-none)

-- ---- lists

pats_alone : {P : Type 0} (f : P → PatView) (ps : List P) → list_all (λ p. fits_alone true (f p)) ps ≡ (pats_fit (pats_in f ps) && is_nil (guards_in f ps))
pats_alone f [] = refl
pats_alone f (p ∷ ps) =
    ap (λ b. fits_alone true (f p) && b) (pats_alone f ps)
    ∙ (four (pat_fits true (f p).tree) (is_nil (f p).guards) (pats_fit (pats_in f ps)) (is_nil (guards_in f ps))
    ∙ ap (λ b. pats_fit (pats_in f (p ∷ ps)) && b) (sym (nil_append (f p).guards (guards_in f ps))))

ors_alone : {P : Type 0} (f : P → PatView) (ps : List P) → list_all (λ p. fits_alone false (f p)) ps ≡ (or_fits (pats_in f ps) && is_nil (guards_in f ps))
ors_alone f [] = refl
ors_alone f (p ∷ ps) =
    ap (λ b. fits_alone false (f p) && b) (ors_alone f ps)
    ∙ (four (pat_fits false (f p).tree) (is_nil (f p).guards) (or_fits (pats_in f ps)) (is_nil (guards_in f ps))
    ∙ ap (λ b. or_fits (pats_in f (p ∷ ps)) && b) (sym (nil_append (f p).guards (guards_in f ps))))

-- a punct ends a list only after a value
pats_end : {P S : Type 0} (f : P → PatView) (p : Punctuated P S) → ends_well (no_more_pats (pats_in f (values p))) (trails p) ≡ true
unfolding values trails
pats_end {P} {S} f p = by p.inner.items p.last
  where
    by : (xs : List (P × S)) (o : Option (Box P Global)) → ends_well (no_more_pats (pats_in f (map (λ q. q.0) xs ++ last_of o))) (is_some_pair xs && not (is_some o)) ≡ true
    by [] o = ap not (and-false (no_more_pats (pats_in f (last_of o))))
    by (q ∷ xs) o = refl

fields_end : {P S : Type 0} (f : P → PatView) (p : Punctuated (FieldPatOf P) S) → ends_well (no_more_fields (t.fields_of (map (field_pat_of f) (values p)))) (trails p) ≡ true
unfolding values trails
fields_end {P} {S} f p = by p.inner.items p.last
  where
    by : (xs : List (FieldPatOf P × S)) (o : Option (Box (FieldPatOf P) Global)) → ends_well (no_more_fields (t.fields_of (map (field_pat_of f) (map (λ q. q.0) xs ++ last_of o)))) (is_some_pair xs && not (is_some o)) ≡ true
    by [] o = ap not (and-false (no_more_fields (t.fields_of (map (field_pat_of f) (last_of o)))))
    by (q ∷ xs) o = refl

-- ---- ranges

range_is : (s : Option PatBound) (c : Bool) (e : Option PatBound) → range_fits s c e ≡ (((is_some s || c) || is_some e) && (bound_or true s && bound_or (not c) e))
range_is None false None = refl
range_is None false (Some y) = refl
range_is None true None = refl
range_is None true (Some y) = refl
range_is (Some x) c e = refl

some_mapped : {A B : Type 0} (f : A → B) (o : Option A) → is_some (mapped f o) ≡ is_some o
some_mapped f None = refl
some_mapped f (Some x) = refl

pub fits-Range : (b : Bool) (x : PatRange) → fits_behind b (of.pat_range_of x) ≡ (((is_some x.start || is_closed x.limits) || is_some x.end) && (bound_or true (mapped bound_of x.start) && bound_or (not (is_closed x.limits)) (mapped bound_of x.end)))
fits-Range b x =
    shown b (attributes_of x.attrs) (t.range (mapped bound_of x.start) (is_closed x.limits) (mapped bound_of x.end)) [] refl
    ∙ (and-true _ ∙ (range_is (mapped bound_of x.start) (is_closed x.limits) (mapped bound_of x.end)
    ∙ rw (some_mapped bound_of x.start, some_mapped bound_of x.end) refl))

pub ruleset ranges = (fits-Range)

-- ---- names and paths

pub fits-Lit : (b : Bool) (x : PatLit) → fits_behind b (of.pat_lit_of x) ≡ lit_fits (lit_of x.lit)
fits-Lit b x = shown b (attributes_of x.attrs) (t.a_lit (lit_of x.lit)) [] refl ∙ and-true _

sub_is : {P A : Type 0} (f : P → PatView) (w : Bool) (o : Option (A × Box P Global)) → ((w && sub_fits (sub_of f o)) && is_nil (sub_guards f o)) ≡ (w && sub_alone f o)
sub_is f true None = refl
sub_is f false None = refl
sub_is f true (Some s) = refl
sub_is f false (Some s) = refl

pub fits-Ident : {P : Type 0} (f : P → PatView) (b : Bool) (x : PatIdentOf P) → fits_behind b (of.pat_ident_of f x) ≡ (not (is_reserved_word x.ident) && sub_alone f x.subpat)
fits-Ident f b x =
    shown b (attributes_of x.attrs) (t.a_binding (is_some x.by_ref) (is_some x.mutability) x.ident (sub_of f x.subpat)) (sub_guards f x.subpat) refl
    ∙ sub_is f (not (is_reserved_word x.ident)) x.subpat

pub fits-Path : (b : Bool) (x : PatPath) → fits_behind b (of.pat_path_of x) ≡ (qpath_fits style.Expr (qself_or type_of x.qself, path_of type_of x.path) && not (is_one_name (qself_or type_of x.qself) (path_of type_of x.path)))
fits-Path b x = shown b (attributes_of x.attrs) (t.a_path (qself_or type_of x.qself) (path_of type_of x.path)) [] refl ∙ and-true _

bare_pairs : {A P : Type 0} (f : A → SegmentTree) (xs : List (A × P)) → segments_bare (map f (map (λ q. q.0) xs)) ≡ segments_bare (map (λ q. f q.0) xs)
bare_pairs f [] = refl
bare_pairs f (x ∷ xs) = ap (λ b. has_none (f x.0).arguments && b) (bare_pairs f xs)

bare_values : {P : Type 0} (p : Punctuated (PathSegmentOf «Type») P)
    → segments_bare (map (segment_of type_of) (values p)) ≡ (segments_bare (map (λ q. segment_of type_of q.0) p.inner.items) && segments_bare (map (segment_of type_of) (last_of p.last)))
unfolding values
bare_values p =
    ap segments_bare (map-append (segment_of type_of) (map (λ q. q.0) p.inner.items) (last_of p.last))
    ∙ (segments_bare-append (map (segment_of type_of) (map (λ q. q.0) p.inner.items)) (map (segment_of type_of) (last_of p.last))
    ∙ ap (λ b. b && segments_bare (map (segment_of type_of) (last_of p.last))) (bare_pairs (segment_of type_of) p.inner.items))

pub bare-some : {P : Type 0} (p : Punctuated (PathSegmentOf «Type») P) (b : Box (PathSegmentOf «Type») Global) → p.last ≡ Some b
    → segments_bare (map (segment_of type_of) (values p)) ≡ (segments_bare (map (λ q. segment_of type_of q.0) p.inner.items) && has_none (segment_of type_of b.value).arguments)
bare-some p b h =
    bare_values p ∙ ap (λ c. segments_bare (map (λ q. segment_of type_of q.0) p.inner.items) && c) (ap (λ o. segments_bare (map (segment_of type_of) (last_of o))) h ∙ and-true (has_none (segment_of type_of b.value).arguments))

pub bare-none : {P : Type 0} (p : Punctuated (PathSegmentOf «Type») P) → p.last ≡ None → segments_bare (map (segment_of type_of) (values p)) ≡ segments_bare (map (λ q. segment_of type_of q.0) p.inner.items)
bare-none p h =
    bare_values p ∙ (ap (λ c. segments_bare (map (λ q. segment_of type_of q.0) p.inner.items) && c) (ap (λ o. segments_bare (map (segment_of type_of) (last_of o))) h) ∙ and-true _)

pub bare-not : {P : Type 0} (p : Punctuated (PathSegmentOf «Type») P) → segments_bare (map (λ q. segment_of type_of q.0) p.inner.items) ≡ false → segments_bare (map (segment_of type_of) (values p)) ≡ false
bare-not p h = bare_values p ∙ ap (λ b. b && segments_bare (map (segment_of type_of) (last_of p.last))) h

pub ruleset bares = (bare-some, bare-none, bare-not)

shown_delimiter : (d : MacroDelimiter) → is_macro_delimiter (delimiter_of d) ≡ true
shown_delimiter (mac.Paren x) = refl
shown_delimiter (mac.Brace x) = refl
shown_delimiter (mac.Bracket x) = refl

pub fits-Macro : (b : Bool) (x : PatMacro) → fits_behind b (of.pat_macro_of x) ≡ (path_fits style.Expr (path_of type_of x.mac.path) && segments_bare (map (segment_of type_of) (values x.mac.path.segments)))
fits-Macro b x =
    shown b (attributes_of x.attrs) (t.a_mac (of.macro_of type_of x.mac)) [] refl
    ∙ (and-true _ ∙ ap (λ c. path_fits style.Expr (path_of type_of x.mac.path) && c) (ap (λ c. segments_bare (map (segment_of type_of) (values x.mac.path.segments)) && c) (shown_delimiter x.mac.delimiter) ∙ and-true _))

-- ---- structs

kind_is : {P : Type 0} (f : P → PatView) (k : FieldPatKindOf P) → kind_alone f k ≡ (field_fits (field_of f k) && is_nil (field_guards f k))
kind_is f (kind.Short x) = sym (and-true _)
kind_is f (kind.Full x) = by (member_fits (of.member_of x.member))
  where
    by : (b : Bool) → (b && (pat_fits true (f x.pat.value).tree && is_nil (f x.pat.value).guards)) ≡ ((b && pat_fits true (f x.pat.value).tree) && is_nil (f x.pat.value).guards)
    by true = refl
    by false = refl

six : (a b c d e : Bool) → ((a && (b && c)) && (d && e)) ≡ ((a && (b && d)) && (c && e))
six true true true d e = refl
six true true false d e = sym (and-false d)
six true false c d e = refl
six false b c d e = refl

fields_alone : {P : Type 0} (f : P → PatView) (xs : List (FieldPatOf P)) → list_all (field_alone f) xs ≡ (fields_fit (t.fields_of (map (field_pat_of f) xs)) && is_nil (flat_map (λ y. field_guards f y.kind) xs))
fields_alone f [] = refl
fields_alone f (x ∷ xs) =
    ap (λ b. field_alone f x && b) (fields_alone f xs)
    ∙ (ap (λ b. (attributes_outer (attributes_of x.attrs) && b) && (fields_fit (t.fields_of (map (field_pat_of f) xs)) && is_nil (flat_map (λ y. field_guards f y.kind) xs))) (kind_is f x.kind)
    ∙ (six (attributes_outer (attributes_of x.attrs)) (field_fits (field_of f x.kind)) (is_nil (field_guards f x.kind)) (fields_fit (t.fields_of (map (field_pat_of f) xs))) (is_nil (flat_map (λ y. field_guards f y.kind) xs))
    ∙ ap (λ b. (attributes_outer (attributes_of x.attrs) && (field_fits (field_of f x.kind) && fields_fit (t.fields_of (map (field_pat_of f) xs)))) && b) (sym (nil_append (field_guards f x.kind) (flat_map (λ y. field_guards f y.kind) xs)))))

-- after the last field a comma is where a `..` follows
rest_behind : {P S : Type 0} (f : P → PatView) (d : Bool) (p : Punctuated (FieldPatOf P) S) → (not d || (no_more_fields (t.fields_of (map (field_pat_of f) (values p))) || trails p)) ≡ (not d || not (is_some p.last))
unfolding values trails
rest_behind {P} {S} f d p = by d p.inner.items p.last
  where
    by : (d : Bool) (xs : List (FieldPatOf P × S)) (o : Option (Box (FieldPatOf P) Global))
        → (not d || (no_more_fields (t.fields_of (map (field_pat_of f) (map (λ q. q.0) xs ++ last_of o))) || (is_some_pair xs && not (is_some o)))) ≡ (not d || not (is_some o))
    by false xs o = refl
    by true [] None = refl
    by true [] (Some x) = refl
    by true (q ∷ xs) o = refl

infix_swap : (a b c d : Bool) → ((a && (b && (true && c))) && d) ≡ (a && ((b && d) && c))
infix_swap true true c true = and-true c
infix_swap true true c false = and-false c
infix_swap true false c d = refl
infix_swap false b c d = refl

pub fits-Struct : {P : Type 0} (f : P → PatView) (b : Bool) (x : PatStructOf P) → fits_behind b (of.pat_struct_of f x) ≡ (path_fits style.Expr (path_of type_of x.path) && (list_all (field_alone f) (values x.fields) && (not (is_some x.rest) || not (is_some x.fields.last))))
fits-Struct f b x =
    shown b (attributes_of x.attrs) (t.a_struct (path_of type_of x.path) (t.fields_of (map (field_pat_of f) (values x.fields))) (trails x.fields) (is_some x.rest)) (flat_map (λ y. field_guards f y.kind) (values x.fields)) refl
    ∙ rw (fields_end f x.fields, rest_behind f (is_some x.rest) x.fields, fields_alone f (values x.fields))
    (infix_swap (path_fits style.Expr (path_of type_of x.path)) (fields_fit (t.fields_of (map (field_pat_of f) (values x.fields)))) (not (is_some x.rest) || not (is_some x.fields.last)) (is_nil (flat_map (λ y. field_guards f y.kind) (values x.fields))))

pub ruleset structs = (fits-Struct, and-true)

pub fits-TupleStruct : {P : Type 0} (f : P → PatView) (b : Bool) (x : PatTupleStructOf P) → fits_behind b (of.pat_tuple_struct_of f x) ≡ (path_fits style.Expr (path_of type_of x.path) && list_all (λ p. fits_alone true (f p)) (values x.elems))
fits-TupleStruct f b x =
    shown b (attributes_of x.attrs) (t.tuple_struct (path_of type_of x.path) (pats_in f (values x.elems)) (trails x.elems)) (guards_in f (values x.elems)) refl
    ∙ rw (pats_end f x.elems, pats_alone f (values x.elems)) (by (path_fits style.Expr (path_of type_of x.path)) (pats_fit (pats_in f (values x.elems))))
  where
    by : (a b : Bool) → ((a && (b && true)) && is_nil (guards_in f (values x.elems))) ≡ (a && (b && is_nil (guards_in f (values x.elems))))
    by true b = ap (λ c. c && is_nil (guards_in f (values x.elems))) (and-true b)
    by false b = refl

-- ---- lists of patterns

sole_rest : {P S : Type 0} (f : P → PatView) (p : Punctuated P S) → (not (is_one_pat (pats_in f (values p))) || (trails p || is_one_rest (pats_in f (values p)))) ≡ (not (is_one (values p) (trails p)) || is_sole_rest f p.inner.items p.last)
unfolding values trails
sole_rest {P} {S} f p = by p.inner.items p.last
  where
    by : (xs : List (P × S)) (o : Option (Box P Global))
        → (not (is_one_pat (pats_in f (map (λ q. q.0) xs ++ last_of o))) || ((is_some_pair xs && not (is_some o)) || is_one_rest (pats_in f (map (λ q. q.0) xs ++ last_of o))))
        ≡ (not (is_one (map (λ q. q.0) xs ++ last_of o) (is_some_pair xs && not (is_some o))) || is_sole_rest f xs o)
    by [] None = refl
    by [] (Some x) = refl
    by (q ∷ []) None = refl
    by (q ∷ []) (Some x) = refl
    by (q ∷ r ∷ xs) o = refl

pub fits-Tuple : {P : Type 0} (f : P → PatView) (b : Bool) (x : PatTupleOf P) → fits_behind b (of.pat_tuple_of f x) ≡ (list_all (λ p. fits_alone true (f p)) (values x.elems) && (not (is_one (values x.elems) (trails x.elems)) || is_sole_rest f x.elems.inner.items x.elems.last))
fits-Tuple f b x =
    shown b (attributes_of x.attrs) (t.a_tuple (pats_in f (values x.elems)) (trails x.elems)) (guards_in f (values x.elems)) refl
    ∙ rw (pats_end f x.elems, sole_rest f x.elems, pats_alone f (values x.elems))
    (swap (pats_fit (pats_in f (values x.elems))) (is_nil (guards_in f (values x.elems))) (not (is_one (values x.elems) (trails x.elems)) || is_sole_rest f x.elems.inner.items x.elems.last))

pub fits-Slice : {P : Type 0} (f : P → PatView) (b : Bool) (x : PatSliceOf P) → fits_behind b (of.pat_slice_of f x) ≡ list_all (λ p. fits_alone true (f p)) (values x.elems)
fits-Slice f b x =
    shown b (attributes_of x.attrs) (t.a_slice (pats_in f (values x.elems)) (trails x.elems)) (guards_in f (values x.elems)) refl
    ∙ rw (pats_end f x.elems, pats_alone f (values x.elems), and-true (pats_fit (pats_in f (values x.elems)))) refl

pub fits-Paren : {P : Type 0} (f : P → PatView) (b : Bool) (x : PatParenOf P) → fits_behind b (of.pat_paren_of f x) ≡ (fits_alone true (f x.pat.value) && not (is_rest (f x.pat.value).tree))
fits-Paren f b x =
    shown b (attributes_of x.attrs) (t.a_paren (f x.pat.value).tree) (f x.pat.value).guards refl
    ∙ swap (pat_fits true (f x.pat.value).tree) (is_nil (f x.pat.value).guards) (not (is_rest (f x.pat.value).tree))

pub fits-Reference : {P : Type 0} (f : P → PatView) (b : Bool) (x : PatReferenceOf P) → fits_behind b (of.pat_reference_of f x) ≡ (fits_alone false (f x.pat.value) && (is_some x.mutability || not (begins_mut (f x.pat.value).tree)))
fits-Reference f b x =
    shown b (attributes_of x.attrs) (t.a_reference (is_some x.mutability) (f x.pat.value).tree) (f x.pat.value).guards refl
    ∙ swap (pat_fits false (f x.pat.value).tree) (is_nil (f x.pat.value).guards) (is_some x.mutability || not (begins_mut (f x.pat.value).tree))

-- alternatives are not empty where no `|` ends them
or_ends : {P S : Type 0} (f : P → PatView) (l c : Bool) (p : Punctuated P S)
    → (not (trails p) && (not (no_more_pats (pats_in f (values p))) && ((l || not (is_one_pat (pats_in f (values p)))) && c))) ≡ (is_some p.last && ((l || not (is_nil p.inner.items)) && c))
unfolding values trails
or_ends {P} {S} f l c p = by p.inner.items p.last
  where
    by : (xs : List (P × S)) (o : Option (Box P Global))
        → (not (is_some_pair xs && not (is_some o)) && (not (no_more_pats (pats_in f (map (λ q. q.0) xs ++ last_of o))) && ((l || not (is_one_pat (pats_in f (map (λ q. q.0) xs ++ last_of o)))) && c))) ≡ (is_some o && ((l || not (is_nil xs)) && c))
    by [] None = refl
    by [] (Some x) = refl
    by (q ∷ xs) None = refl
    by (q ∷ []) (Some x) = refl
    by (q ∷ r ∷ xs) (Some x) = refl

or_swap : (a b c d e : Bool) → ((a && (b && (c && d))) && e) ≡ (a && (b && (c && (d && e))))
or_swap true true true d e = refl
or_swap true true false d e = refl
or_swap true false c d e = refl
or_swap false b c d e = refl

pub fits-Or : {P : Type 0} (f : P → PatView) (b : Bool) (x : PatOrOf P) → fits_behind b (of.pat_or_of f x) ≡ (b && (is_some x.cases.last && ((is_some x.leading_vert || not (is_nil x.cases.inner.items)) && list_all (λ p. fits_alone false (f p)) (values x.cases))))
fits-Or f b x =
    shown b (attributes_of x.attrs) (t.alternatives (is_some x.leading_vert) (pats_in f (values x.cases)) (trails x.cases)) (guards_in f (values x.cases)) refl
    ∙ rw (or_ends f (is_some x.leading_vert) (or_fits (pats_in f (values x.cases))) x.cases, ors_alone f (values x.cases))
    (or_swap b (is_some x.cases.last) (is_some x.leading_vert || not (is_nil x.cases.inner.items)) (or_fits (pats_in f (values x.cases))) (is_nil (guards_in f (values x.cases))))

pub ruleset kinds = (fits-Lit, fits-Ident, fits-Path, fits-Macro, fits-TupleStruct, fits-Tuple, fits-Slice, fits-Paren, fits-Reference, fits-Or)

pub ruleset wholes = (whole-none, whole-some)

-- ---- kinds that always are, or never

pub fits-Wild : (b : Bool) (x : PatWild) → fits_behind b (of.pat_wild_of x) ≡ true
fits-Wild b x = shown b (attributes_of x.attrs) t.wild [] refl

pub fits-Rest : (b : Bool) (x : PatRest) → fits_behind b (of.pat_rest_of x) ≡ true
fits-Rest b x = shown b (attributes_of x.attrs) t.rest [] refl

pub fits-Const : (b : Bool) (x : PatConst) → fits_behind b (of.pat_const_of x) ≡ true
fits-Const b x = shown b (attributes_of x.attrs) (t.a_block x.block.stmts) [] refl

pub fits-Typed : {P : Type 0} (f : P → PatView) (b : Bool) (x : PatTypeOf P) → fits_behind b (of.pat_type_of f x) ≡ false
fits-Typed f b x = shown b (attributes_of x.attrs) (t.typed (f x.pat.value).tree (type_of x.ty.value)) (f x.pat.value).guards refl

pub fits-Guard : (attrs : Vec Attribute Global) (b : Bool) (v : PatView) (g : Tree) → fits_behind b (of.pat_guard_of attrs v g) ≡ false
fits-Guard attrs b v g = shown b (attributes_of attrs) (t.guarded v.tree) (v.guards ++ g ∷ []) refl

pub ruleset always = (fits-Wild, fits-Rest, fits-Const, fits-Typed, fits-Guard)

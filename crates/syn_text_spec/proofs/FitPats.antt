-- Patterns that are read pass their tests.
use Rattle.std.proofs.Common.{◌≡◌, ℕ, Bool, true, false, not, ◌&&◌, ◌||◌, List, [], ◌∷◌, drop, Option, Some, None, refl, sym, ◌∙◌, ap, subst}
use Rattle.std.specs.Prelude.{if◌then◌else◌, nat_le, slice_index_or}
use Rattle.std.specs.Str.{bytes_eq}
use Rattle.std.proofs.lemmas.Bool.{and_parts, and_from, or_parts}
use Rattle.syn_lexer.specs.declared.front.Delimiter.TheVariants as del
use Rattle.syn_tokens.specs.Tok.{Tok, ident, literal}
use Rattle.syn_tokens.specs.Front.{is_empty}
use Rattle.syn_lower_spec.specs.declared.label.PathStyle.TheVariants as style
use Rattle.syn_lower_spec.specs.Text.{Text, stands_alone}
use Rattle.syn_lower_spec.specs.Tree as t
use Rattle.syn_lower_spec.specs.Tree.{LitTree, AttributeTree, TypeTree, SegmentTree, PathTree, ArgumentsTree}
use Rattle.syn_lower_spec.specs.Form.{Form, mark, both, maybe, joined, closed_by, flag, is_nil, prepend, split_first}
use Rattle.syn_lower_spec.specs.Mark.{and, as_word, gt, colon, colon2, comma, constant, less, mutable, not_ne, pound, underscore, brace_at, round_at}
use Rattle.syn_lower_spec.specs.Part as part
use Rattle.syn_lower_spec.specs.Part.{QPathTree, has_none, is_name_there, is_bare, segments_bare}
use Rattle.syn_lower_spec.specs.Pat as p
use Rattle.syn_lower_spec.specs.Pat.{MemberTree, PatBound, PatTree, SubPat, FieldPatTree, unqualified, goes_on, binding_at}
use Rattle.syn_lower_spec.specs.PatOwn.{no_more_pats, no_more_fields}
use Rattle.syn_lower_spec.specs.Fits.{ends_well, fits_if, is_macro_delimiter, lit_fits, type_fits, path_fits, qpath_fits}
use Rattle.syn_lower_spec.specs.PatFits.{member_fits, range_bound_fits, bound_or, range_fits, is_name_alone, is_one_name, begins_mut, attributes_outer, pat_fits, sub_fits, pats_fit, or_fits, fields_fit, field_fits, typed_fits, closure_arg_fits}
use Rattle.syn_lower_spec.proofs.Weights.{some_is}
use Rattle.syn_text_spec.proofs.Finds.{Each}
use Rattle.syn_text_spec.proofs.Indices.{index_is_read}
use Rattle.syn_text_spec.proofs.Tells.{Said, Tells, Of, Any, Where, moved, weaker, when_tells, always, or_tells, mark_tells, Then, then_by_tells, both_tells, shown_tells, pure_tells, leaf_tells, inside_tells, fix_tells, IsFlag, flag_tells, If, maybe_tells, AllOf, listed_tells, Chain, Rest, more_tells, joined_tells}
use Rattle.syn_text_spec.proofs.FitTypes.{Ok, any, anything, maybe_fits, clash, or_true, is_name, name_tells, signed_tells, is_group, any_group_tells, QPathSaid, qpath_tells, type_tells}

-- ---- attributes

attributes_pass : (ats : List AttributeTree) → Chain (λ (a : AttributeTree). a.inner ≡ false) (λ (a : AttributeTree). Unit {0}) ats → attributes_outer ats ≡ true
attributes_pass [] h = refl
attributes_pass (a ∷ []) h = and_from _ _ (ap not h) refl
attributes_pass (a ∷ b ∷ ats) h = and_from _ _ (ap not h.0) (attributes_pass (b ∷ ats) h.2)

pub outer_tells : Tells (Ok attributes_outer) part.outer_attributes
unfolding part.outer_attributes part.outer_body
outer_tells =
    weaker (more_tells (λ (a : AttributeTree). a.inner ≡ false) (λ (a : AttributeTree). Unit {0}) pound (shown_tells {P = Any} part.to_outer part.from_outer any (λ l x n h. (refl, λ e. tt))))
    (λ l x n h. attributes_pass x h.0)

-- ---- members

within_size : (o : Option ℕ) (n : ℕ) → p.within o ≡ Some n → nat_le n 4294967295 ≡ true
within_size None n h = absurd cc
within_size (Some m) n h = by (nat_le m 4294967295) refl h
  where
    by : (b : Bool) → nat_le m 4294967295 ≡ b → (if b then Some m else None) ≡ Some n → nat_le n 4294967295 ≡ true
    by true e i = subst (λ k. nat_le k 4294967295 ≡ true) (some_is i) e
    by false e i = absurd cc

-- an index that is read is read again from its decimal digits
pub index_fits : (w : Text) (n : ℕ) → p.index_of w ≡ Some n → member_fits (p.an_index n) ≡ true
unfolding p.index_of
index_fits w n h = index_is_read n (within_size (p.integer_value w) n h)

pub member_tells : Tells (Ok member_fits) p.member
unfolding p.member
member_tells = leaf_tells p.same_member found
  where
    named : (w : Text) (l : List Tok) (x : MemberTree) (n : List Tok) (b : Bool) → is_name w ≡ b → p.name_if b w l ≡ Some (x, n) → member_fits x ≡ true
    named w l x n true e h = moved (Ok member_fits) l (p.a_name w) x l n h e
    named w l x n false e h = absurd cc

    indexed : (w : Text) (l : List Tok) (x : MemberTree) (n : List Tok) (o : Option ℕ) → p.index_of w ≡ o → p.index_if o l ≡ Some (x, n) → member_fits x ≡ true
    indexed w l x n (Some k) e h = moved (Ok member_fits) l (p.an_index k) x l n h (index_fits w k e)
    indexed w l x n None e h = absurd cc

    found : (l : List Tok) (x : MemberTree) (n : List Tok) → p.find_member l ≡ Some (x, n) → member_fits x ≡ true
    found (ident w ∷ l) x n h = named w l x n (is_name w) refl h
    found (literal w ∷ l) x n h = indexed w l x n (p.index_of w) refl h
    found _ x n h = absurd cc

-- ---- ranges

range_bound_tells : Tells (Ok range_bound_fits) p.range_bound
unfolding p.range_bound
range_bound_tells =
    or_tells p.lit_first (shown_tells p.lit_bound p.from_lit_bound signed_tells (λ l x n h. h))
    (shown_tells p.to_path_bound p.from_path_bound (qpath_tells type_tells style.Expr) (λ l x n h. h.0))

abbrev end_fits : Bool × Option PatBound → Bool
end_fits x = bound_or (not x.0) x.1

range_end_tells : Tells (Ok end_fits) p.range_end
unfolding p.range_end
range_end_tells =
    weaker
    (then_by_tells (anything p.limits) (λ closed. when_tells {P = λ l o n. bound_or (not closed) o ≡ true} (λ l. closed)
    (shown_tells {Q = Where (λ l. closed) true (λ l o n. bound_or (not closed) o ≡ true)} p.to_end p.itself range_bound_tells (λ l x n h e. h))
    (weaker (maybe_tells p.bound_at range_bound_tells) (opens closed))))
    (λ l x n h. h.2)
  where
    opens : (c : Bool) (l : List Tok) (o : Option PatBound) (n : List Tok) → If p.bound_at (Ok range_bound_fits) l o n → c ≡ false → bound_or (not c) o ≡ true
    opens c l None n h e = ap not e
    opens c l (Some b) n h e = h.1

-- ---- lists as the trees hold them

pats_pass : (ps : List PatTree) → Each (λ x. pat_fits true x ≡ true) ps → pats_fit (p.pats_of ps) ≡ true
pats_pass [] h = refl
pats_pass (x ∷ ps) h = and_from _ _ h.0 (pats_pass ps h.1)

pats_end : (ps : List PatTree) (b : Bool) → ends_well (is_nil ps) b ≡ true → ends_well (no_more_pats (p.pats_of ps)) b ≡ true
pats_end [] b h = h
pats_end (x ∷ ps) b h = h

ors_pass : (ps : List PatTree) → Chain (λ x. pat_fits false x ≡ true) (λ (x : PatTree). Unit {0}) ps → or_fits (p.pats_of ps) ≡ true
ors_pass [] h = refl
ors_pass (x ∷ []) h = and_from _ _ h refl
ors_pass (x ∷ y ∷ ps) h = and_from _ _ h.0 (ors_pass (y ∷ ps) h.2)

abbrev FieldPasses : FieldPatTree → Type 0
FieldPasses f = (attributes_outer f.attrs ≡ true) × (field_fits f.field ≡ true)

fields_pass : (fs : List FieldPatTree) → Each FieldPasses fs → fields_fit (p.fields_of fs) ≡ true
fields_pass [] h = refl
fields_pass (f ∷ fs) h = and_from _ _ h.0.0 (and_from _ _ h.0.1 (fields_pass fs h.1))

fields_end : (fs : List FieldPatTree) (b : Bool) → ends_well (is_nil fs) b ≡ true → ends_well (no_more_fields (p.fields_of fs)) b ≡ true
fields_end [] b h = h
fields_end (x ∷ fs) b h = h

-- the same where alternatives may stand
wider : (x : PatTree) → pat_fits false x ≡ true → pat_fits true x ≡ true
wider p.wild h = refl
wider (p.alternatives l ps e) h = absurd cc
wider _ h = h

-- ---- a path that is one name

-- the list is this name and what is left
abbrev IsNamed : Text → List Tok → List Tok → Type 0
IsNamed w l n = l ≡ ident w ∷ n

name_first : (w : Text) (l n : List Tok) → is_name w ≡ true → IsNamed w l n → (is_name_there l ≡ true) × (n ≡ drop 1 l)
name_first w l n h e = (ap is_name_there e ∙ h, ap (drop 1) (sym e))

-- arguments that aren't there take no tokens
abbrev NoneTaken : Said ArgumentsTree
NoneTaken l a n = has_none a ≡ true → n ≡ l

none_taken : Tells NoneTaken part.no_arguments
unfolding part.no_arguments
none_taken = pure_tells t.no_arguments has_none (λ l e. refl)

expr_arguments : Tells NoneTaken (part.arguments part.type style.Expr)
unfolding part.arguments part.angle_bracketed
expr_arguments = or_tells part.turbofish_at (shown_tells {P = Any} {Q = NoneTaken} part.to_angle part.from_angle any (λ l x n h e. absurd cc)) none_taken

segment_first : Tells (λ l w n. IsNamed w l n) part.segment_name
unfolding part.segment_name
segment_first = leaf_tells bytes_eq found
  where
    by : (w : Text) (l : List Tok) (x : Text) (n : List Tok) (b : Bool) → part.word_if b w l ≡ Some (x, n) → IsNamed x (ident w ∷ l) n
    by w l x n true h = moved (λ k y m. IsNamed y (ident w ∷ l) m) l w x l n h refl
    by w l x n false h = absurd cc

    found : (l : List Tok) (x : Text) (n : List Tok) → part.find_segment l ≡ Some (x, n) → IsNamed x l n
    found (ident w ∷ l) x n h = by w l x n _ h
    found _ x n h = absurd cc

abbrev SegmentAlone : Said SegmentTree
SegmentAlone l x n = has_none x.arguments ≡ true → IsNamed x.ident l n

segment_alone : Tells SegmentAlone (part.segment part.type style.Expr)
unfolding part.segment
segment_alone =
    shown_tells {Q = SegmentAlone} part.to_segment part.from_segment (then_by_tells segment_first (λ w. or_tells {P = NoneTaken} (λ l. stands_alone w) none_taken expr_arguments))
    (λ l x n h e. subst (IsNamed x.0 l) (sym (h.2 e)) h.1)

abbrev NameSaid : Said QPathTree
NameSaid l q n = is_one_name q.0 q.1 ≡ true → (is_name_there l ≡ true) × (n ≡ drop 1 l)

abbrev Single : Said (List SegmentTree)
Single l xs n = (x : SegmentTree) → xs ≡ x ∷ [] → has_none x.arguments ≡ true → IsNamed x.ident l n

name_alone : Tells NameSaid (part.qpath part.type style.Expr)
unfolding part.qpath part.qualified part.path part.pieces
name_alone =
    or_tells less.at
    (mark_tells {P = λ (l : List Tok) (q : QPathTree) (n : List Tok). is_one_name q.0 q.1 ≡ false} {Q = NameSaid} less (shown_tells part.to_qualified part.from_qualified (anything (both (closed_by gt (both (part.type true) (maybe as_word.at (mark as_word (part.pieces part.type style.Type))))) (mark colon2 (joined colon2 (part.segment part.type style.Expr))))) (λ l x n h. no_name x)) (λ l q n e h i. clash _ i h))
    (shown_tells {P = λ l x n. is_one_name t.no_qself x ≡ true → (is_name_there l ≡ true) × (n ≡ drop 1 l)} {Q = NameSaid} part.to_bare part.from_bare
    (shown_tells {Q = λ l x n. is_one_name t.no_qself x ≡ true → (is_name_there l ≡ true) × (n ≡ drop 1 l)} part.to_path part.from_path
    (both_tells (flag_tells colon2) (shown_tells {Q = Single} prepend split_first (both_tells segment_alone (more_tells (λ (x : SegmentTree). Unit {0}) (λ (x : SegmentTree). Unit {0}) colon2 (weaker (anything (part.segment part.type style.Expr)) (λ l x n h. (tt, λ e. tt))))) first))
    named)
    (λ l x n h. h))
  where
    no_name : (x : part.Qualified × List SegmentTree) → is_one_name (part.to_qualified x).0 (part.to_qualified x).1 ≡ false
    no_name ((x, None), ss) = refl
    no_name ((x, Some y), ss) = refl

    first : (l : List Tok) (x : SegmentTree × List SegmentTree) (n : List Tok) → Then SegmentAlone (λ y. Rest (λ (z : SegmentTree). Unit {0}) (λ (z : SegmentTree). Unit {0}) colon2) l x n → Single l (prepend x) n
    first l (y, []) n (m, h, g) z e i =
        let same : y ≡ z = ap (λ (xs : List SegmentTree). slice_index_or xs 0 y) e in
        subst (λ (s : SegmentTree). IsNamed s.ident l n) same (subst (IsNamed y.ident l) (sym (g.3 refl)) (h (subst (λ (s : SegmentTree). has_none s.arguments ≡ true) (sym same) i)))
    first l (y, w ∷ xs) n h z e i = absurd cc

    named : (l : List Tok) (x : Bool × List SegmentTree) (n : List Tok) → Then (IsFlag colon2) (λ c. Single) l x n
        → is_name_alone x.0 x.1 ≡ true → (is_name_there l ≡ true) × (n ≡ drop 1 l)
    named l (false, s ∷ []) n (m, h, g) e =
        let q = and_parts (is_name s.ident) (has_none s.arguments) e in
        name_first s.ident l n q.0 (subst (λ k. IsNamed s.ident k n) h.1 (g s refl q.1))
    named l (true, ss) n h e = absurd cc
    named l (false, []) n h e = absurd cc
    named l (false, s ∷ z ∷ ss) n h e = absurd cc

bare_alone : (x : PathTree) → is_one_name t.no_qself x ≡ true → segments_bare x.segments ≡ true
bare_alone x h = by x.leading x.segments h
  where
    by : (b : Bool) (ss : List SegmentTree) → is_name_alone b ss ≡ true → segments_bare ss ≡ true
    by false (s ∷ []) h = and_from _ _ (and_parts (is_name s.ident) (has_none s.arguments) h).1 refl
    by false [] h = absurd cc
    by false (s ∷ z ∷ ss) h = absurd cc
    by true ss h = absurd cc

-- Where no binding begins, and nothing goes on after it, a path is not one name.
no_binding : (l : List Tok) (q : QPathTree) (m : List Tok) → binding_at l ≡ false → NameSaid l q m → (is_bare q ≡ true → unqualified q ≡ true → goes_on m ≡ false) → not (is_one_name q.0 q.1) ≡ true
unfolding binding_at
no_binding l (t.qself x k a, y) m b h g = refl
no_binding l (t.no_qself, y) m b h g = by (is_one_name t.no_qself y) refl
  where
    by : (c : Bool) → is_one_name t.no_qself y ≡ c → not c ≡ true
    by false e = refl
    by true e =
        let q = h e in
        let i = (or_parts _ _ (or_parts _ _ b).1).1 in
        let j : (true && not (goes_on m)) ≡ false = subst (λ c. (c && not (goes_on m)) ≡ false) q.0 (subst (λ k. (is_name_there l && not (goes_on k)) ≡ false) (sym q.1) i) in
        clash (not (goes_on m)) (ap not (g (bare_alone y e) refl)) j

-- ---- what comes after a path

abbrev EndAt : QPathTree → p.PathEnd → List Tok → Type 0
EndAt q p.no_more l = is_bare q ≡ true → unqualified q ≡ true → colon2.at l ≡ false → goes_on l ≡ false
EndAt q (p.mac_end d ts) l = (is_bare q ≡ true) × (is_macro_delimiter d ≡ true)
EndAt q (p.struct_end fs e r) l = (unqualified q ≡ true) × (AllOf FieldPasses (fs, e) × ((not r || (is_nil fs || e)) ≡ true))
EndAt q (p.tuple_end ps e) l = (unqualified q ≡ true) × AllOf (λ x. pat_fits true x ≡ true) (ps, e)
EndAt q (p.range_more c e) l = bound_or (not c) e ≡ true

-- nothing goes on there
nothing_goes : (a b c d e f g : Bool) → (a && b) ≡ false → (f && c) ≡ false → (f && d) ≡ false → e ≡ false → a ≡ true → f ≡ true → g ≡ false → g || (b || (c || (d || e))) ≡ false
nothing_goes true false false false false true false h i j k l m n = refl
nothing_goes true true c d e f g h i j k l m n = absurd cc
nothing_goes true false true d e true g h i j k l m n = absurd cc
nothing_goes true false false true e true g h i j k l m n = absurd cc
nothing_goes true false false false true true g h i j k l m n = absurd cc
nothing_goes true false false false false true true h i j k l m n = absurd cc
nothing_goes false b c d e f g h i j k l m n = absurd cc
nothing_goes true false c d e false g h i j k l m n = absurd cc

-- ---- patterns, by those that they hold

-- what is no binding with `mut`
abbrev Plain : PatTree → Type 0
Plain x = (pat_fits false x ≡ true) × (begins_mut x ≡ false)

abbrev pub PatSaid : Bool → Said PatTree
PatSaid b l x n = (pat_fits b x ≡ true) × (b ≡ false → mutable.at l ≡ false → begins_mut x ≡ false)

abbrev SingleSaid : Said PatTree
SingleSaid l x n = (pat_fits false x ≡ true) × (mutable.at l ≡ false → begins_mut x ≡ false)

plain_single : (l : List Tok) (x : PatTree) (n : List Tok) → Plain x → SingleSaid l x n
plain_single l x n h = (h.0, λ e. h.1)

module _ {pattern : Bool → Form PatTree} (again : (b : Bool) → Tells (PatSaid b) (pattern b)) where
  one_pattern : Tells (Of (λ x. pat_fits true x ≡ true)) (pattern true)
  one_pattern = weaker (again true) (λ l x n h. h.0)

  reference_tells : Tells (Of Plain) (p.reference_pat pattern)
  unfolding p.reference_pat
  reference_tells = shown_tells {Q = Of Plain} p.to_reference p.from_reference (both_tells (flag_tells mutable) (again false)) made
    where
      made : (l : List Tok) (x : Bool × PatTree) (n : List Tok) → Then (IsFlag mutable) (λ c. PatSaid false) l x n → Plain (p.to_reference x)
      made l (true, x) n (m, h, g) = (and_from _ _ g.0 refl, refl)
      made l (false, x) n (m, h, g) = (and_from _ _ g.0 (ap not (g.1 refl (ap mutable.at h.1 ∙ h.0))), refl)

  one_round : (x : PatTree) → pat_fits true x ≡ true → Plain (p.one_round x)
  one_round p.rest h = (refl, refl)
  one_round p.wild h = (refl, refl)
  one_round _ h = (and_from _ _ h refl, refl)

  round_tells : Tells (Of Plain) (p.round_pat pattern)
  unfolding p.round_pat
  round_tells = shown_tells {Q = Of Plain} p.to_round p.from_round (listed_tells comma is_empty one_pattern) (λ l x n h. made x h)
    where
      made : (x : List PatTree × Bool) → AllOf (λ y. pat_fits true y ≡ true) x → Plain (p.to_round x)
      made ([], c) h = (and_from _ _ h.1 refl, refl)
      made (x ∷ [], true) h = (and_from _ _ (pats_pass (x ∷ []) h.0) refl, refl)
      made (x ∷ [], false) h = one_round x h.0.0
      made (x ∷ y ∷ ps, c) h = (and_from _ _ (pats_pass (x ∷ y ∷ ps) h.0) refl, refl)

  slice_tells : Tells (Of Plain) (p.slice_pat pattern)
  unfolding p.slice_pat
  slice_tells = shown_tells {Q = Of Plain} p.to_slice p.from_slice (listed_tells comma is_empty one_pattern) (λ l x n h. (and_from _ _ (pats_pass x.0 h.0) (pats_end x.0 x.1 h.1), refl))

  binding_tells : Tells SingleSaid (p.binding pattern)
  unfolding p.binding
  binding_tells =
      shown_tells {Q = SingleSaid} p.to_binding p.from_binding
      (both_tells (flag_tells p.by_ref) (both_tells (flag_tells mutable) (both_tells name_tells
      (or_tells {P = Ok sub_fits} p.at_sign.at
      (mark_tells {Q = Ok sub_fits} p.at_sign (shown_tells {Q = Ok sub_fits} p.sub p.from_sub (again false) (λ l x n h. h.0)) (λ l x n e h. h))
      (pure_tells p.no_sub p.has_no_sub (λ l. refl))))))
      (λ l x n h. let (m, f, (k, g, (j, w, s))) = h in (and_from _ _ w s, no_mut x.0 x.1.0 l m x.1.1.0 x.1.1.1 f.1 g.0))
    where
      no_mut : (r c : Bool) (l m : List Tok) (w : Text) (s : SubPat) → m ≡ (if r then drop 1 l else l) → mutable.at m ≡ c → mutable.at l ≡ false → begins_mut (p.a_binding r c w s) ≡ false
      no_mut true c l m w s e h g = refl
      no_mut false false l m w s e h g = refl
      no_mut false true l m w s e h g = clash (mutable.at l) (ap mutable.at (sym e) ∙ h) g

  field_tells : Tells (Of FieldPasses) (p.field pattern)
  unfolding p.field
  field_tells =
      shown_tells {Q = Of FieldPasses} p.to_field p.from_field (both_tells outer_tells (or_tells {P = Ok field_fits} p.full_at
      (shown_tells {Q = Ok field_fits} p.to_full p.from_full (both_tells member_tells (mark_tells {Q = Of (λ x. pat_fits true x ≡ true)} colon one_pattern (λ l x n e h. h))) (λ l x n h. and_from _ _ h.1 h.2))
      (shown_tells {Q = Ok field_fits} p.to_short p.from_short (both_tells (anything (flag p.by_ref)) (both_tells (anything (flag mutable)) name_tells)) (λ l x n h. h.2.2))))
      (λ l x n h. (h.1, h.2))

  abbrev InsideOf : (List FieldPatTree × Bool) × Bool → Type 0
  InsideOf x = AllOf FieldPasses x.0 × ((not x.1 || (is_nil x.0.0 || x.0.1)) ≡ true)

  struct_inside_tells : Tells (Of InsideOf) (p.struct_inside pattern)
  unfolding p.struct_inside
  struct_inside_tells =
      weaker {Q = Of InsideOf}
      (then_by_tells (listed_tells comma p.fields_stop field_tells) (λ x. when_tells {P = λ l d n. (not d || (is_nil x.0 || x.1)) ≡ true} (λ l. is_nil x.0 || x.1)
      (weaker {P = Any} {Q = Where (λ l. is_nil x.0 || x.1) true (λ l d n. (not d || (is_nil x.0 || x.1)) ≡ true)} any (λ l d n h e. ap (λ b. not d || b) e ∙ or_true (not d)))
      (pure_tells {P = Where (λ l. is_nil x.0 || x.1) false (λ l d n. (not d || (is_nil x.0 || x.1)) ≡ true)} false not (λ l e. refl))))
      (λ l x n h. (h.1, h.2))

  abbrev EndSaid : QPathTree → Said p.PathEnd
  EndSaid q l x n = EndAt q x l

  path_end_tells : (q : QPathTree) → Tells (EndSaid q) (p.path_end pattern q)
  unfolding p.path_end
  path_end_tells q =
      when_tells {P = EndSaid q} (λ l. is_bare q && not_ne.at l)
      (shown_tells {P = Ok is_group} {Q = Where (λ l. is_bare q && not_ne.at l) true (EndSaid q)} p.to_mac_end p.from_mac_end (mark_tells {Q = Ok is_group} not_ne any_group_tells (λ l x n e h. h))
      (λ l x n h e. ((and_parts (is_bare q) (not_ne.at l) e).0, h)))
      (when_tells {P = Where (λ l. is_bare q && not_ne.at l) false (EndSaid q)} (λ l. unqualified q && brace_at l)
      (shown_tells {Q = Where (λ l. unqualified q && brace_at l) true (Where (λ l. is_bare q && not_ne.at l) false (EndSaid q))} p.to_struct_end p.from_struct_end (inside_tells del.Brace struct_inside_tells)
      (λ l x n h e d. ((and_parts (unqualified q) (brace_at l) e).0, h)))
      (when_tells {P = Where (λ l. unqualified q && brace_at l) false (Where (λ l. is_bare q && not_ne.at l) false (EndSaid q))} (λ l. unqualified q && round_at l)
      (shown_tells {Q = Where (λ l. unqualified q && round_at l) true (Where (λ l. unqualified q && brace_at l) false (Where (λ l. is_bare q && not_ne.at l) false (EndSaid q)))} p.to_tuple_end p.from_tuple_end
      (inside_tells del.Parenthesis (listed_tells comma is_empty one_pattern)) (λ l x n h e d c. ((and_parts (unqualified q) (round_at l) e).0, h)))
      (when_tells {P = Where (λ l. unqualified q && round_at l) false (Where (λ l. unqualified q && brace_at l) false (Where (λ l. is_bare q && not_ne.at l) false (EndSaid q)))} p.dots.at
      (shown_tells {Q = Where p.dots.at true (Where (λ l. unqualified q && round_at l) false (Where (λ l. unqualified q && brace_at l) false (Where (λ l. is_bare q && not_ne.at l) false (EndSaid q))))} p.to_range_more p.from_range_more
      range_end_tells (λ l x n h e d c b. h))
      (pure_tells p.no_more p.is_no_more
      (λ l e d c b i u o. nothing_goes (is_bare q) (not_ne.at l) (brace_at l) (round_at l) (p.dots.at l) (unqualified q) (colon2.at l) b c d e i u o)))))

  -- no path that is one name where no binding begins
  path_tells : Tells (λ l x n. binding_at l ≡ false → Plain x) (p.path_pat pattern)
  unfolding p.path_pat
  path_tells =
      shown_tells {Q = λ l x n. binding_at l ≡ false → Plain x} p.to_path p.from_path (then_by_tells {P = λ l q n. QPathSaid style.Expr l q n × NameSaid l q n} paths path_end_tells) (λ l x n h. let (m, f, g) = h in made l x m f g)
    where
      paths : Tells (λ l q n. QPathSaid style.Expr l q n × NameSaid l q n) (part.qpath part.type style.Expr)
      paths = record {
        tells = λ l q n h.
            let a = qpath_tells type_tells style.Expr in
            (a.tells l q n h, name_alone.tells l q n h);
      }

      -- without a qualified self
      path_passes : (q : QPathTree) → unqualified q ≡ true → qpath_fits style.Expr q ≡ true → path_fits style.Expr q.1 ≡ true
      path_passes (t.qself x k a, y) u h = absurd cc
      path_passes (t.no_qself, y) u h = h

      bare_unqualified : (q : QPathTree) → is_bare q ≡ true → unqualified q ≡ true
      bare_unqualified (t.qself x k a, y) h = absurd cc
      bare_unqualified (t.no_qself, y) h = refl

      bare_segments : (q : QPathTree) → is_bare q ≡ true → segments_bare q.1.segments ≡ true
      bare_segments (t.qself x k a, y) h = absurd cc
      bare_segments (t.no_qself, y) h = h

      made : (l : List Tok) (x : QPathTree × p.PathEnd) (m : List Tok) → QPathSaid style.Expr l x.0 m × NameSaid l x.0 m → EndAt x.0 x.1 m → binding_at l ≡ false → Plain (p.to_path x)
      made l (q, p.no_more) m f g b = (and_from _ _ f.0.0 (no_binding l q m b f.1 (λ i u. g i u f.0.1)), refl)
      made l (q, p.mac_end d ts) m f g b = (and_from _ _ (path_passes q (bare_unqualified q g.0) f.0.0) (and_from _ _ (bare_segments q g.0) g.1), refl)
      made l (q, p.struct_end fs e r) m f g b =
          (and_from _ _ (path_passes q g.0 f.0.0) (and_from _ _ (fields_pass fs g.1.0.0) (and_from _ _ (fields_end fs e g.1.0.1) (ended fs e r g.1.1))), refl)
        where
          ended : (fs : List FieldPatTree) (e r : Bool) → (not r || (is_nil fs || e)) ≡ true → (not r || (no_more_fields (p.fields_of fs) || e)) ≡ true
          ended [] e r h = h
          ended (x ∷ fs) e r h = h
      made l (q, p.tuple_end ps e) m f g b = (and_from _ _ (path_passes q g.0 f.0.0) (and_from _ _ (pats_pass ps g.1.0) (pats_end ps e g.1.1)), refl)
      made l (q, p.range_more c e) m f g b = (ranged c e f.0.0 g, refl)
        where
          ranged : (c : Bool) (e : Option PatBound) → qpath_fits style.Expr (q.0, q.1) ≡ true → bound_or (not c) e ≡ true → range_fits (Some (p.path_bound q.0 q.1)) c e ≡ true
          ranged true e h i = and_from _ _ h i
          ranged false None h i = and_from _ _ h i
          ranged false (Some x) h i = and_from _ _ h i

  single_tells : Tells SingleSaid (p.single pattern)
  unfolding p.single
  single_tells =
      or_tells underscore.at (mark_tells {P = Of Plain} {Q = SingleSaid} underscore (pure_tells p.wild p.is_wild (λ l. (refl, refl))) (λ l x n e h. plain_single l x n h))
      (or_tells constant.at (mark_tells {P = Of Plain} {Q = SingleSaid} constant (shown_tells p.a_block p.from_block (anything part.block) (λ l x n h. (refl, refl))) (λ l x n e h. plain_single l x n h))
      (or_tells and.at (mark_tells {Q = SingleSaid} and reference_tells (λ l x n e h. plain_single l x n h))
      (or_tells _ (weaker (inside_tells del.Parenthesis round_tells) plain_single)
      (or_tells _ (weaker (inside_tells del.Bracket slice_tells) plain_single)
      (or_tells p.dots.at (weaker (shown_tells {Q = Of Plain} p.to_open p.from_open range_end_tells (λ l x n h. opened x h)) plain_single)
      (or_tells p.lit_first (weaker (shown_tells {Q = Of Plain} p.to_lit p.from_lit (both_tells signed_tells (maybe_tells p.dots.at range_end_tells)) (λ l x n h. let (m, f, g) = h in literal_first x m n f g)) plain_single)
      (when_tells binding_at (always binding_tells)
      (weaker path_tells (λ l x n h e. plain_single l x n (h e))))))))))
    where
      opened : (x : Bool × Option PatBound) → end_fits x ≡ true → Plain (p.to_open x)
      opened (false, None) h = (refl, refl)
      opened (true, None) h = (h, refl)
      opened (false, Some b) h = (h, refl)
      opened (true, Some b) h = (h, refl)

      literal_first : (x : LitTree × Option (Bool × Option PatBound)) (m n : List Tok) → lit_fits x.0 ≡ true → If p.dots.at (Ok end_fits) m x.1 n → Plain (p.to_lit x)
      literal_first (x, None) m n f g = (f, refl)
      literal_first (x, Some (c, e)) m n f g = (ranged c e g.1, refl)
        where
          ranged : (c : Bool) (e : Option PatBound) → bound_or (not c) e ≡ true → range_fits (Some (p.lit_bound x)) c e ≡ true
          ranged true e h = and_from _ _ f h
          ranged false None h = and_from _ _ f h
          ranged false (Some y) h = and_from _ _ f h

  multi_tells : Tells (Of (λ x. pat_fits true x ≡ true)) (p.multi pattern)
  unfolding p.multi
  multi_tells =
      shown_tells {Q = Of (λ x. pat_fits true x ≡ true)} p.to_or p.from_or
      (both_tells (anything (flag p.vert)) (joined_tells (λ x. pat_fits false x ≡ true) (λ (x : PatTree). Unit {0}) p.vert (weaker single_tells (λ l x n h. (h.0, λ e. tt)))))
      (λ l x n h. made x h.2.0 h.2.1)
    where
      made : (x : Bool × List PatTree) → Chain (λ y. pat_fits false y ≡ true) (λ (y : PatTree). Unit {0}) x.1 → is_nil x.1 ≡ false → pat_fits true (p.to_or x) ≡ true
      made (false, []) h g = absurd cc
      made (false, x ∷ []) h g = wider x h
      made (false, x ∷ y ∷ ps) h g = ors_pass (x ∷ y ∷ ps) h
      made (true, []) h g = absurd cc
      made (true, x ∷ ps) h g = ors_pass (x ∷ ps) h

  at_width_tells : (b : Bool) → Tells (PatSaid b) (p.at_width pattern b)
  unfolding p.at_width
  at_width_tells b =
      when_tells {P = PatSaid b} (λ l. b)
      (weaker {Q = Where (λ l. b) true (PatSaid b)} multi_tells (λ l x n h e. (subst (λ c. pat_fits c x ≡ true) (sym e) h, λ f. clash b e f)))
      (weaker {Q = Where (λ l. b) false (PatSaid b)} single_tells (λ l x n h e. (subst (λ c. pat_fits c x ≡ true) (sym e) h.0, λ f g. h.1 g)))

pub pattern_tells : (b : Bool) → Tells (PatSaid b) (p.pattern b)
unfolding p.pattern
pattern_tells b = fix_tells {A = λ i. PatTree} {P = PatSaid} {step = p.at_width} (λ f r c. at_width_tells r c) b

pub patterns : Tells (Of (λ x. pat_fits true x ≡ true)) (p.pattern true)
patterns = weaker (pattern_tells true) (λ l x n h. h.0)

-- ---- arguments of closures

typed : (x : PatTree) (o : Option TypeTree) → pat_fits false x ≡ true → fits_if (type_fits true) o ≡ true → typed_fits (p.to_typed x o) ≡ true
typed (p.typed y z) None h g = absurd cc
typed p.wild None h g = refl
typed x (Some y) h g = and_from _ _ h g
typed _ None h g = h

unattributed : (x : PatTree) (o : Option TypeTree) → pat_fits false x ≡ true → typed_fits (p.to_typed x o) ≡ true → closure_arg_fits (p.to_typed x o) ≡ true
unattributed x (Some y) h g = g
unattributed (p.attributed a more y) None h g = absurd cc
unattributed p.wild None h g = refl
unattributed _ None h g = g

pub closure_arg_tells : Tells (Of (λ x. closure_arg_fits x ≡ true)) p.closure_arg
unfolding p.closure_arg
closure_arg_tells =
    shown_tells {Q = Of (λ x. closure_arg_fits x ≡ true)} p.to_closure_arg p.from_closure_arg
    (both_tells outer_tells (both_tells (pattern_tells false) (maybe_fits (type_fits true) colon.at (mark_tells {Q = Ok (type_fits true)} colon (type_tells true) (λ l x n e h. h.0)))))
    (λ l x n h. made x h.1 h.2.1.0 h.2.2)
  where
    made : (x : List AttributeTree × (PatTree × Option TypeTree)) → attributes_outer x.0 ≡ true → pat_fits false x.1.0 ≡ true → fits_if (type_fits true) x.1.1 ≡ true
        → closure_arg_fits (p.to_closure_arg x) ≡ true
    made ([], y) o f g = unattributed y.0 y.1 f (typed y.0 y.1 f g)
    made (a ∷ more, y) o f g = and_from _ _ o (typed y.0 y.1 f g)

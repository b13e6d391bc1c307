-- The leaves of patterns that are read of a list that a text falls into.
use Rattle.std.proofs.Common.{◌≡◌, ℕ, Bool, true, false, not, ◌||◌, List, [], ◌∷◌, Option, Some, None, refl, subst}
use Rattle.std.proofs.lemmas.Bool.{and_parts, and_from}
use Rattle.syn_lexer.specs.Keywords.{is_reserved_word}
use Rattle.syn_lexer.specs.declared.front.Delimiter.TheVariants as del
use Rattle.syn_tokens.specs.Tok.{Tok, ident, literal}
use Rattle.syn_lower_spec.specs.declared.label.PathStyle.TheVariants as style
use Rattle.syn_lower_spec.specs.Text.{Text}
use Rattle.syn_lower_spec.specs.Tree.{LitTree, AttributeTree, TypeTree}
use Rattle.syn_lower_spec.specs.Form.{Form, when, flag, pure, is_nil, is_true}
use Rattle.syn_lower_spec.specs.Mark.{and, colon, comma, constant, mutable, not_ne, underscore}
use Rattle.syn_lower_spec.specs.Part.{QPathTree}
use Rattle.syn_lower_spec.specs.Pat as p
use Rattle.syn_lower_spec.specs.Pat.{MemberTree, PatBound, PatTree, FieldPatTree}
use Rattle.syn_lower_spec.proofs.Weights.{some_is}
use Rattle.syn_text_spec.specs.Leaves.{word_lexed, lit_lexed, group_lexed, lexed_if, attributes_lexed, path_lexed, qualified_lexed, type_lexed, member_lexed, range_bound_lexed, pat_lexed, sub_lexed, pats_lexed, fields_lexed, field_lexed}
use Rattle.syn_text.specs.Lexed.{is_lexed}
use Rattle.syn_text_spec.proofs.Lists.{Lexed}
use Rattle.syn_text_spec.proofs.Finds.{behind, Finds, when_finds, mark_finds, then_by_finds, both_finds, shown_finds, pure_finds, leaf_finds, inside_finds, fix_finds, Each, listed_finds, joined_finds, Nothing, IfThere, maybe_finds, flag_finds, case_finds, group_case_finds}
use Rattle.syn_text_spec.proofs.FindParts.{Ok, if_there, front_word, name_finds, signed_finds, any_group_finds, outer_finds, block_finds, weaker_finds, QPath, path_found, qpath_found, qpath_finds, type_finds}

-- ---- members

abbrev Member : MemberTree × List Tok → Type 0
Member z = (member_lexed z.0 ≡ true) × Lexed z.1

pub member_finds : Finds (Ok member_lexed) p.member
unfolding p.member
member_finds = leaf_finds p.same_member found
  where
    named : (b : Bool) (w : Text) (l : List Tok) (x : MemberTree) (n : List Tok) → p.name_if b w l ≡ Some (x, n) → Lexed (ident w ∷ l) → (member_lexed x ≡ true) × Lexed n
    named true w l x n h g = subst Member (some_is h) (front_word w g, behind g)
    named false w l x n h g = absurd cc

    indexed : (o : Option ℕ) (l : List Tok) (x : MemberTree) (n : List Tok) → p.index_if o l ≡ Some (x, n) → Lexed l → (member_lexed x ≡ true) × Lexed n
    indexed (Some k) l x n h g = subst Member (some_is h) (refl, g)
    indexed None l x n h g = absurd cc

    found : (l : List Tok) (x : MemberTree) (n : List Tok) → p.find_member l ≡ Some (x, n) → Lexed l → (member_lexed x ≡ true) × Lexed n
    found (ident w ∷ l) x n h g = named (not (is_reserved_word w)) w l x n h g
    found (literal w ∷ l) x n h g = indexed (p.index_of w) l x n h (behind g)
    found _ x n h g = absurd cc

-- ---- ranges

range_bound_finds : Finds (Ok range_bound_lexed) p.range_bound
unfolding p.range_bound
range_bound_finds = when_finds p.lit_first (shown_finds p.lit_bound p.from_lit_bound signed_finds (λ x h. h)) (shown_finds p.to_path_bound p.from_path_bound (qpath_finds type_finds style.Expr) qpath_found)

limits_finds : Finds Nothing p.limits
unfolding p.limits
limits_finds =
    case_finds p.dots_eq (pure_finds {P = Nothing} true is_true tt) (case_finds p.three_dots (pure_finds {P = Nothing} true is_true tt) (mark_finds p.dots (pure_finds {P = Nothing} false not tt)))

abbrev Bound : Option PatBound → Type 0
Bound o = lexed_if range_bound_lexed o ≡ true

abbrev End : Bool × Option PatBound → Type 0
End x = Bound x.1

range_end_finds : Finds End p.range_end
unfolding p.range_end
range_end_finds =
    weaker_finds (then_by_finds limits_finds (λ closed. when_finds {P = Bound} _ (shown_finds p.to_end p.itself range_bound_finds (λ x h. h))
    (weaker_finds (maybe_finds p.bound_at range_bound_finds) (if_there range_bound_lexed)))) (λ x h. h.1)

-- ---- lists as the trees hold them

pats_found : (ps : List PatTree) → Each (Ok pat_lexed) ps → pats_lexed (p.pats_of ps) ≡ true
pats_found [] h = refl
pats_found (x ∷ ps) h = and_from (pat_lexed x) (pats_lexed (p.pats_of ps)) h.0 (pats_found ps h.1)

abbrev Field : FieldPatTree → Type 0
Field f = (attributes_lexed f.attrs ≡ true) × (field_lexed f.field ≡ true)

fields_found : (fs : List FieldPatTree) → Each Field fs → fields_lexed (p.fields_of fs) ≡ true
fields_found [] h = refl
fields_found (f ∷ fs) h = and_from (attributes_lexed f.attrs) _ h.0.0 (and_from (field_lexed f.field) (fields_lexed (p.fields_of fs)) h.0.1 (fields_found fs h.1))

-- what comes after a path
abbrev PathEnd : p.PathEnd → Type 0
PathEnd p.no_more = Unit {0}
PathEnd (p.mac_end d ts) = group_lexed d ts ≡ true
PathEnd (p.struct_end fs e r) = Each Field fs
PathEnd (p.tuple_end ps e) = Each (Ok pat_lexed) ps
PathEnd (p.range_more c e) = Bound e

one_round : (x : PatTree) → pat_lexed x ≡ true → pat_lexed (p.one_round x) ≡ true
one_round p.rest h = refl
one_round _ h = h

-- ---- patterns, by those that they hold

module _ {pattern : Bool → Form PatTree} (again : (b : Bool) → Finds (Ok pat_lexed) (pattern b)) where
  reference_finds : Finds (Ok pat_lexed) (p.reference_pat pattern)
  unfolding p.reference_pat
  reference_finds = shown_finds p.to_reference p.from_reference (both_finds (flag_finds mutable) (again false)) (λ x h. h.1)

  round_finds : Finds (Ok pat_lexed) (p.round_pat pattern)
  unfolding p.round_pat
  round_finds = shown_finds p.to_round p.from_round (listed_finds comma _ (again true)) made
    where
      made : (x : List PatTree × Bool) → Each (Ok pat_lexed) x.0 → pat_lexed (p.to_round x) ≡ true
      made ([], c) h = refl
      made (x ∷ [], true) h = pats_found (x ∷ []) h
      made (x ∷ [], false) h = one_round x h.0
      made (x ∷ y ∷ ps, c) h = pats_found (x ∷ y ∷ ps) h

  slice_finds : Finds (Ok pat_lexed) (p.slice_pat pattern)
  unfolding p.slice_pat
  slice_finds = shown_finds p.to_slice p.from_slice (listed_finds comma _ (again true)) (λ x h. pats_found x.0 h)

  binding_finds : Finds (Ok pat_lexed) (p.binding pattern)
  unfolding p.binding
  binding_finds =
      shown_finds p.to_binding p.from_binding (both_finds (flag_finds p.by_ref) (both_finds (flag_finds mutable) (both_finds name_finds
      (case_finds {P = Ok sub_lexed} p.at_sign (shown_finds p.sub p.from_sub (again false) (λ x h. h)) (pure_finds p.no_sub p.has_no_sub refl)))))
      (λ x h. and_from (word_lexed x.1.1.0) (sub_lexed x.1.1.1) h.1.1.0 h.1.1.1)

  field_finds : Finds Field (p.field pattern)
  unfolding p.field
  field_finds =
      shown_finds p.to_field p.from_field (both_finds outer_finds (when_finds {P = Ok field_lexed} p.full_at
      (shown_finds p.to_full p.from_full (both_finds member_finds (mark_finds colon (again true))) (λ x h. and_from (member_lexed x.0) (pat_lexed x.1) h.0 h.1))
      (shown_finds p.to_short p.from_short (both_finds (flag_finds p.by_ref) (both_finds (flag_finds mutable) name_finds)) (λ x h. h.1.1))))
      (λ x h. h)

  dots_finds : (b : Bool) → Finds Nothing (when (λ l. b) (flag p.dots) (pure false not))
  dots_finds b = when_finds _ (flag_finds p.dots) (pure_finds {P = Nothing} false not tt)

  struct_inside_finds : Finds (λ (x : (List FieldPatTree × Bool) × Bool). Each Field x.0.0) (p.struct_inside pattern)
  unfolding p.struct_inside
  struct_inside_finds = weaker_finds (then_by_finds (listed_finds comma p.fields_stop field_finds) (λ x. dots_finds (is_nil x.0 || x.1))) (λ x h. h.0)

  path_end_finds : (q : QPathTree) → Finds PathEnd (p.path_end pattern q)
  unfolding p.path_end
  path_end_finds q =
      when_finds _ (shown_finds p.to_mac_end p.from_mac_end (mark_finds not_ne any_group_finds) (λ x h. h))
      (when_finds _ (shown_finds p.to_struct_end p.from_struct_end (inside_finds del.Brace struct_inside_finds) (λ x h. h))
      (when_finds _ (shown_finds p.to_tuple_end p.from_tuple_end (inside_finds del.Parenthesis (listed_finds comma _ (again true))) (λ x h. h))
      (when_finds _ (shown_finds p.to_range_more p.from_range_more range_end_finds (λ x h. h)) (pure_finds p.no_more p.is_no_more tt))))

  path_finds : Finds (Ok pat_lexed) (p.path_pat pattern)
  unfolding p.path_pat
  path_finds = shown_finds p.to_path p.from_path (then_by_finds (qpath_finds type_finds style.Expr) path_end_finds) made
    where
      made : (x : QPathTree × p.PathEnd) → QPath x.0 × PathEnd x.1 → pat_lexed (p.to_path x) ≡ true
      made (q, p.no_more) h = qpath_found q h.0
      made (q, p.mac_end d ts) h = and_from (path_lexed q.1) (group_lexed d ts) (path_found q.1 h.0.1) h.1
      made (q, p.struct_end fs e r) h = and_from (path_lexed q.1) (fields_lexed (p.fields_of fs)) (path_found q.1 h.0.1) (fields_found fs h.1)
      made (q, p.tuple_end ps e) h = and_from (path_lexed q.1) (pats_lexed (p.pats_of ps)) (path_found q.1 h.0.1) (pats_found ps h.1)
      made (q, p.range_more c e) h = and_from (qualified_lexed q.0 q.1) (lexed_if range_bound_lexed e) (qpath_found q h.0) h.1

  single_finds : Finds (Ok pat_lexed) (p.single pattern)
  unfolding p.single
  single_finds =
      case_finds underscore (pure_finds p.wild p.is_wild refl)
      (case_finds constant (shown_finds p.a_block p.from_block block_finds (λ ts h. h))
      (case_finds and reference_finds
      (group_case_finds del.Parenthesis round_finds
      (group_case_finds del.Bracket slice_finds
      (when_finds _ (shown_finds p.to_open p.from_open range_end_finds opened)
      (when_finds _ (shown_finds p.to_lit p.from_lit (both_finds signed_finds (maybe_finds _ range_end_finds)) literal_first)
      (when_finds _ binding_finds
      path_finds)))))))
    where
      opened : (x : Bool × Option PatBound) → Bound x.1 → pat_lexed (p.to_open x) ≡ true
      opened (false, None) h = refl
      opened (true, None) h = refl
      opened (false, Some b) h = h
      opened (true, Some b) h = h

      literal_first : (x : LitTree × Option (Bool × Option PatBound)) → (lit_lexed x.0 ≡ true) × IfThere End x.1 → pat_lexed (p.to_lit x) ≡ true
      literal_first (x, None) h = h.0
      literal_first (x, Some e) h = and_from (lit_lexed x) (lexed_if range_bound_lexed e.1) h.0 h.1

  multi_finds : Finds (Ok pat_lexed) (p.multi pattern)
  unfolding p.multi
  multi_finds = shown_finds p.to_or p.from_or (both_finds (flag_finds p.vert) (joined_finds p.vert single_finds)) made
    where
      made : (x : Bool × List PatTree) → Nothing x.0 × Each (Ok pat_lexed) x.1 → pat_lexed (p.to_or x) ≡ true
      made (false, []) h = refl
      made (false, x ∷ []) h = h.1.0
      made (false, x ∷ y ∷ ps) h = pats_found (x ∷ y ∷ ps) h.1
      made (true, ps) h = pats_found ps h.1

  at_width_finds : (b : Bool) → Finds (Ok pat_lexed) (p.at_width pattern b)
  unfolding p.at_width
  at_width_finds b = when_finds _ multi_finds single_finds

pub pattern_finds : (b : Bool) → Finds (Ok pat_lexed) (p.pattern b)
unfolding p.pattern
pattern_finds b = fix_finds {A = λ i. PatTree} {P = λ i. Ok pat_lexed} {step = p.at_width} (λ f r c. at_width_finds r c) b

-- ---- arguments of closures

typed : (x : PatTree) (o : Option TypeTree) → pat_lexed x ≡ true → IfThere (Ok type_lexed) o → pat_lexed (p.to_typed x o) ≡ true
typed x None h g = h
typed x (Some y) h g = and_from (pat_lexed x) (type_lexed y) h g

pub closure_arg_finds : Finds (Ok pat_lexed) p.closure_arg
unfolding p.closure_arg
closure_arg_finds =
    shown_finds p.to_closure_arg p.from_closure_arg (both_finds outer_finds (both_finds (pattern_finds false) (maybe_finds colon.at (mark_finds colon (type_finds true))))) made
  where
    made : (x : List AttributeTree × (PatTree × Option TypeTree)) → (attributes_lexed x.0 ≡ true) × ((pat_lexed x.1.0 ≡ true) × IfThere (Ok type_lexed) x.1.1)
        → pat_lexed (p.to_closure_arg x) ≡ true
    made ([], y) h = typed y.0 y.1 h.1.0 h.1.1
    made (a ∷ more, y) h =
        let q = and_parts (is_lexed a.tokens) (attributes_lexed more) h.0 in
        and_from (is_lexed a.tokens) _ q.0 (and_from (attributes_lexed more) (pat_lexed (p.to_typed y.0 y.1)) q.1 (typed y.0 y.1 h.1.0 h.1.1))

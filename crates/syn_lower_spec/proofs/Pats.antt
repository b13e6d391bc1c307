-- Patterns are read exactly where their tokens are.
use Rattle.std.proofs.Common.{◌≡◌, ℕ, suc, ◌≤◌, Bool, true, false, not, cond, List, [], ◌∷◌, Option, Some, None, refl, ap, sym, ◌∙◌, arith}
use Rattle.std.proofs.lemmas.Bool.Decides.{nat_tests}
use Rattle.std.proofs.lemmas.Slice.Eq.{bytes_eq-Decides}
use Rattle.syn_lexer.specs.Keywords.{is_reserved_word}
use Rattle.syn_lexer.specs.declared.front.Delimiter.TheVariants as del
use Rattle.syn_tokens.specs.Tok.{Tok, ident, literal, weight}
use Rattle.syn_lower_spec.specs.declared.label.PathStyle.TheVariants as style
use Rattle.syn_lower_spec.specs.Text.{Text}
use Rattle.syn_lower_spec.specs.Tree as t
use Rattle.syn_lower_spec.specs.Tree.{LitTree, AttributeTree, TypeTree}
use Rattle.syn_lower_spec.specs.Form.{Form, then_by, both, joined, more, flag, mark, maybe}
use Rattle.syn_lower_spec.specs.Mark.{sign_at, colon}
use Rattle.syn_lower_spec.specs.Part.{outer_attributes, qpath, type, QPathTree}
use Rattle.syn_lower_spec.specs.Pat.{MemberTree, PatBound, PatTree, SubPat, Pats, FieldTree, PathEnd}
use Rattle.syn_lower_spec.specs.Pat as p
use Rattle.syn_lower_spec.proofs.Weights.{some_is}
use Rattle.syn_lower_spec.proofs.Marks.{marks, begins_in_front, sign_present, word_present, underscore_present, constant_present, and_present}
use Rattle.syn_lower_spec.proofs.Parts.{falls_by, one_less, name_alike, lit_alike, block_alike, outer_attributes_alike, any_group_alike, qpath_alike, types_alike, inside_at_alike}
use Rattle.syn_lower_spec.proofs.Forms.{Alike, Compares, Finds, leaf_alike, Present, Sees, Only, Steps, fix_alike, fix_is, behind_some, weaker, when_alike, mark_alike, mark_at_alike, then_by_alike, both_alike, shown_alike, shown_where_alike, pure_alike, inside_alike, case_alike, group_case_alike, only_true, only_false, maybe_alike, flag_at_alike, listed_alike, joined_alike, Refuses, when_refuses, mark_refuses, inside_refuses, shown_refuses, pure_refuses}
use Rattle.syn_lower_spec.proofs.Trees.{fields-fields_of, fields_of-fields, pats-pats_of, pats_of-pats}

-- ---- marks

dots_present : Present p.dots
dots_present = sign_present _ _

dots_eq_present : Present p.dots_eq
dots_eq_present = sign_present _ _

three_dots_present : Present p.three_dots
three_dots_present = sign_present _ _

at_sign_present : Present p.at_sign
at_sign_present = sign_present _ _

ref_present : Present p.by_ref
ref_present = word_present _

pub vert_present : Present p.vert
unfolding sign_at
vert_present = begins_in_front p.vert (omega arith) refl

ruleset pat_marks = (dots_present, dots_eq_present, three_dots_present, at_sign_present, ref_present, vert_present, marks)

-- ---- members

compares_members : Compares p.same_member
compares_members = record { itself = itself; equal = equal }
  where
    itself : (x : MemberTree) → p.same_member x x ≡ true
    itself (p.a_name w) = (bytes_eq-Decides w w).1 refl
    itself (p.an_index n) = grind (arith, nat_tests)

    equal : (x y : MemberTree) → p.same_member x y ≡ true → x ≡ y
    equal (p.a_name v) (p.a_name w) h = ap p.a_name ((bytes_eq-Decides v w).0 h)
    equal (p.an_index n) (p.an_index m) h = let e : n ≡ m = grind (arith, nat_tests, h) in ap p.an_index e
    equal (p.a_name v) (p.an_index m) h = absurd cc
    equal (p.an_index n) (p.a_name w) h = absurd cc

name_some : (b : Bool) (w : Text) (l : List Tok) (x : MemberTree) (n : List Tok) → p.name_if b w l ≡ Some (x, n) → l ≡ n
name_some true w l x n h = ap (λ z. z.1) (some_is h)
name_some false w l x n h = absurd cc

index_some : (o : Option ℕ) (l : List Tok) (x : MemberTree) (n : List Tok) → p.index_if o l ≡ Some (x, n) → l ≡ n
index_some (Some k) l x n h = ap (λ z. z.1) (some_is h)
index_some None l x n h = absurd cc

finds_member : Finds p.find_member
finds_member = record { falls = falls }
  where
    falls : (l : List Tok) (x : MemberTree) (n : List Tok) → p.find_member l ≡ Some (x, n) → weight n ≤ weight l
    falls (ident w ∷ l) x n h = falls_by l n (ident w ∷ l) (name_some (not (is_reserved_word w)) w l x n h) (one_less (ident w) l)
    falls (literal w ∷ l) x n h = falls_by l n (literal w ∷ l) (index_some (p.index_of w) l x n h) (one_less (literal w) l)
    falls _ x n h = absurd cc

pub member_alike : {k : ℕ} → Alike k p.member p.member
unfolding p.member
member_alike = leaf_alike compares_members finds_member

-- ---- views

sees_lit_bound : Sees p.lit_bound p.from_lit_bound
sees_lit_bound = record { there = λ x. refl; back = back }
  where
    back : (y : PatBound) (x : LitTree) → p.from_lit_bound y ≡ Some x → p.lit_bound x ≡ y
    back (p.lit_bound z) x h = ap p.lit_bound (sym (some_is h))
    back (p.path_bound q z) x h = absurd cc

sees_path_bound : Sees p.to_path_bound p.from_path_bound
sees_path_bound = record { there = λ x. refl; back = back }
  where
    back : (y : PatBound) (x : QPathTree) → p.from_path_bound y ≡ Some x → p.to_path_bound x ≡ y
    back (p.path_bound q z) x h = ap p.to_path_bound (sym (some_is h))
    back (p.lit_bound z) x h = absurd cc

sees_end : Sees p.to_end p.itself
sees_end = record { there = λ x. refl; back = λ y x h. sym h }

only_wild : Only p.wild p.is_wild
only_wild = record { itself = refl; only = elim [ p.wild ↦ λ h. refl | _ ↦ λ h. absurd cc ] }

sees_open : Sees p.to_open p.from_open
sees_open = record { there = there; back = back }
  where
    there : (x : Bool × Option PatBound) → p.from_open (p.to_open x) ≡ Some x
    there (false, None) = refl
    there (false, Some e) = refl
    there (true, e) = refl

    back : (y : PatTree) (x : Bool × Option PatBound) → p.from_open y ≡ Some x → p.to_open x ≡ y
    back p.rest x h = ap p.to_open (sym (some_is h))
    back (p.range None false None) x h = absurd cc
    back (p.range None false (Some e)) x h = ap p.to_open (sym (some_is h))
    back (p.range None true e) x h = ap p.to_open (sym (some_is h))
    back (p.range (Some b) c e) x h = absurd cc
    back _ x h = absurd cc

sees_lit : Sees p.to_lit p.from_lit
sees_lit = record { there = there; back = back }
  where
    there : (x : LitTree × Option (Bool × Option PatBound)) → p.from_lit (p.to_lit x) ≡ Some x
    there (x, None) = refl
    there (x, Some e) = refl

    back : (y : PatTree) (x : LitTree × Option (Bool × Option PatBound)) → p.from_lit y ≡ Some x → p.to_lit x ≡ y
    back (p.a_lit z) x h = ap p.to_lit (sym (some_is h))
    back (p.range (Some (p.lit_bound z)) c e) x h = ap p.to_lit (sym (some_is h))
    back _ x h = absurd cc

sees_sub : Sees p.sub p.from_sub
sees_sub = record { there = λ x. refl; back = back }
  where
    back : (y : SubPat) (x : PatTree) → p.from_sub y ≡ Some x → p.sub x ≡ y
    back (p.sub z) x h = ap p.sub (sym (some_is h))
    back p.no_sub x h = absurd cc

only_no_sub : Only p.no_sub p.has_no_sub
only_no_sub = record { itself = refl; only = only }
  where
    only : (y : SubPat) → p.has_no_sub y ≡ true → p.no_sub ≡ y
    only p.no_sub h = refl
    only (p.sub z) h = absurd cc

sees_binding : Sees p.to_binding p.from_binding
sees_binding = record { there = λ x. refl; back = elim [ p.a_binding r m w s ↦ λ x h. ap p.to_binding (sym (some_is h)) | _ ↦ λ x h. absurd cc ] }

sees_reference : Sees p.to_reference p.from_reference
sees_reference = record { there = λ x. refl; back = elim [ p.a_reference m z ↦ λ x h. ap p.to_reference (sym (some_is h)) | _ ↦ λ x h. absurd cc ] }

sees_block : Sees p.a_block p.from_block
sees_block = record { there = λ x. refl; back = elim [ p.a_block ts ↦ λ x h. ap p.a_block (sym (some_is h)) | _ ↦ λ x h. absurd cc ] }

sees_slice : Sees p.to_slice p.from_slice
sees_slice = record { there = λ x. rw (pats-pats_of x.0) refl; back = elim [ p.a_slice ps e ↦ λ x h. ap p.to_slice (sym (some_is h)) ∙ ap (λ z. p.a_slice z e) (pats_of-pats ps) | _ ↦ λ x h. absurd cc ] }

rest_is : (z : PatTree) → p.is_rest z ≡ true → z ≡ p.rest
rest_is p.rest h = refl
rest_is _ h = absurd cc

no_rest : (z : PatTree) → p.is_rest z ≡ false → p.one_round z ≡ p.a_paren z
no_rest p.rest h = absurd cc
no_rest _ h = refl

round_back : (ps : List PatTree) (c : Bool) (x : List PatTree × Bool) → p.round_by ps c ≡ Some x → p.to_round x ≡ p.a_tuple (p.pats_of ps) c
round_back [] c x h = ap p.to_round (sym (some_is h))
round_back (z ∷ []) true x h = ap p.to_round (sym (some_is h))
round_back (z ∷ []) false x h = by_rest (p.is_rest z) refl h
  where
    by_rest : (b : Bool) → p.is_rest z ≡ b → cond {A = Option (List PatTree × Bool)} b (Some (z ∷ [], false)) None ≡ Some x → p.to_round x ≡ p.a_tuple (p.pats_of (z ∷ [])) false
    by_rest true e h = ap p.to_round (sym (some_is h)) ∙ rw (rest_is z e) refl
    by_rest false e h = absurd cc
round_back (z ∷ w ∷ ps) c x h = ap p.to_round (sym (some_is h))

sees_round : Sees p.to_round p.from_round
sees_round = record { there = there; back = back }
  where
    one : (z : PatTree) → p.from_round (p.one_round z) ≡ Some (z ∷ [], false)
    one p.rest = refl
    one _ = refl

    there : (x : List PatTree × Bool) → p.from_round (p.to_round x) ≡ Some x
    there ([], c) = refl
    there (z ∷ [], true) = refl
    there (z ∷ [], false) = one z
    there (z ∷ w ∷ ps, c) = rw (pats-pats_of ps) refl

    paren : (z : PatTree) (x : List PatTree × Bool) (b : Bool) → p.is_rest z ≡ b → cond {A = Option (List PatTree × Bool)} b None (Some (z ∷ [], false)) ≡ Some x → p.to_round x ≡ p.a_paren z
    paren z x true e h = absurd cc
    paren z x false e h = ap p.to_round (sym (some_is h)) ∙ no_rest z e

    back : (y : PatTree) (x : List PatTree × Bool) → p.from_round y ≡ Some x → p.to_round x ≡ y
    back (p.a_tuple ps c) x h = round_back (p.pats ps) c x h ∙ ap (λ z. p.a_tuple z c) (pats_of-pats ps)
    back (p.a_paren z) x h = paren z x (p.is_rest z) refl h
    back _ x h = absurd cc

sees_short : Sees p.to_short p.from_short
sees_short = record { there = λ x. refl; back = back }
  where
    back : (y : FieldTree) (x : Bool × (Bool × Text)) → p.from_short y ≡ Some x → p.to_short x ≡ y
    back (p.short r m w) x h = ap p.to_short (sym (some_is h))
    back (p.full k z) x h = absurd cc

sees_full : Sees p.to_full p.from_full
sees_full = record { there = λ x. refl; back = back }
  where
    back : (y : FieldTree) (x : MemberTree × PatTree) → p.from_full y ≡ Some x → p.to_full x ≡ y
    back (p.full k z) x h = ap p.to_full (sym (some_is h))
    back (p.short r m w) x h = absurd cc

sees_field : Sees p.to_field p.from_field
sees_field = record { there = λ x. refl; back = λ y x h. ap p.to_field (sym (some_is h)) }

only_no_more : Only p.no_more p.is_no_more
only_no_more = record { itself = refl; only = elim [ p.no_more ↦ λ h. refl | _ ↦ λ h. absurd cc ] }

sees_mac_end : Sees p.to_mac_end p.from_mac_end
sees_mac_end = record { there = λ x. refl; back = elim [ p.mac_end d ts ↦ λ x h. ap p.to_mac_end (sym (some_is h)) | _ ↦ λ x h. absurd cc ] }

sees_struct_end : Sees p.to_struct_end p.from_struct_end
sees_struct_end = record { there = λ x. refl; back = elim [ p.struct_end fs e r ↦ λ x h. ap p.to_struct_end (sym (some_is h)) | _ ↦ λ x h. absurd cc ] }

sees_tuple_end : Sees p.to_tuple_end p.from_tuple_end
sees_tuple_end = record { there = λ x. refl; back = elim [ p.tuple_end ps e ↦ λ x h. ap p.to_tuple_end (sym (some_is h)) | _ ↦ λ x h. absurd cc ] }

sees_range_more : Sees p.to_range_more p.from_range_more
sees_range_more = record { there = λ x. refl; back = elim [ p.range_more c e ↦ λ x h. ap p.to_range_more (sym (some_is h)) | _ ↦ λ x h. absurd cc ] }

path_back : (y : PatTree) (x : QPathTree × PathEnd) → p.from_path y ≡ Some x → p.to_path x ≡ y
path_back (p.a_path q z) x h = ap p.to_path (sym (some_is h))
path_back (p.a_mac m) x h = ap p.to_path (sym (some_is h))
path_back (p.a_struct z fs e r) x h = ap p.to_path (sym (some_is h)) ∙ ap (λ w. p.a_struct z w e r) (fields_of-fields fs)
path_back (p.tuple_struct z ps e) x h = ap p.to_path (sym (some_is h)) ∙ ap (λ w. p.tuple_struct z w e) (pats_of-pats ps)
path_back (p.range (Some (p.path_bound q z)) c e) x h = ap p.to_path (sym (some_is h))
path_back _ x h = absurd cc

ruleset pat_views = (sees_lit_bound, sees_path_bound, sees_end, only_wild, sees_open, sees_lit, sees_sub, only_no_sub, sees_binding, sees_reference, sees_block, sees_slice, sees_round, sees_short, sees_full, sees_field, only_no_more, sees_mac_end, sees_struct_end, sees_tuple_end, sees_range_more)

-- ---- ranges

qpath_whole : {k : ℕ} → Alike k (qpath type style.Expr) (qpath type style.Expr)
qpath_whole {k} = weaker (qpath_alike {k = k} types_alike style.Expr)

ruleset pat_forms = (when_alike, shown_alike, both_alike, then_by_alike, mark_alike, mark_at_alike, inside_alike, inside_at_alike, listed_alike, joined_alike, pure_alike, maybe_alike, flag_at_alike, only_true, only_false, name_alike, lit_alike, block_alike, outer_attributes_alike, any_group_alike, member_alike, qpath_whole)

pub range_bound_alike : {k : ℕ} → Alike k p.range_bound p.range_bound
unfolding p.range_bound
range_bound_alike = search (pat_forms, pat_marks, pat_views) depth 12

limits_alike : {k : ℕ} → Alike k p.limits p.limits
unfolding p.limits
limits_alike {k} = weaker (case_alike {k = k} dots_eq_present (pure_alike only_true) (case_alike three_dots_present (pure_alike only_true) (mark_alike dots_present (pure_alike only_false))))

pub range_end_alike : {k : ℕ} → Alike k p.range_end p.range_end
unfolding p.range_end
range_end_alike = search (limits_alike, range_bound_alike, pat_forms, pat_marks, pat_views) depth 12

-- ---- patterns, over patterns of less tokens

module _ {k : ℕ} {pattern pattern' : Bool → Form PatTree} (again : (b : Bool) → Alike k (pattern b) (pattern' b)) where
  reference_alike : Alike k (p.reference_pat pattern) (p.reference_pat pattern')
  unfolding p.reference_pat
  reference_alike = search (again, pat_forms, pat_marks, pat_views) depth 12

  round_alike : Alike k (p.round_pat pattern) (p.round_pat pattern')
  unfolding p.round_pat
  round_alike = search (again, pat_forms, pat_marks, pat_views) depth 12

  slice_alike : Alike k (p.slice_pat pattern) (p.slice_pat pattern')
  unfolding p.slice_pat
  slice_alike = search (again, pat_forms, pat_marks, pat_views) depth 12

  binding_alike : Alike (suc k) (p.binding pattern) (p.binding pattern')
  unfolding p.binding
  binding_alike = search (again, pat_forms, pat_marks, pat_views) depth 14

  pub field_alike : Alike k (p.field pattern) (p.field pattern')
  unfolding p.field
  field_alike = search (again, pat_forms, pat_marks, pat_views) depth 14

  struct_alike : Alike k (p.struct_inside pattern) (p.struct_inside pattern')
  unfolding p.struct_inside
  struct_alike = search (field_alike, pat_forms, pat_marks, pat_views) depth 12

  path_end_alike : (q : QPathTree) → Alike (suc k) (p.path_end pattern q) (p.path_end pattern' q)
  unfolding p.path_end
  path_end_alike q = search (again, struct_alike, range_end_alike, pat_forms, pat_marks, pat_views) depth 14

  -- after a qualified path stands neither a macro's end nor a struct's nor a tuple struct's
  path_there : (q : QPathTree) (e : PathEnd) (l n : List Tok) → (p.path_end pattern q).behind e l ≡ Some n → p.from_path (p.to_path (q, e)) ≡ Some (q, e)
  unfolding p.path_end
  path_there (q, z) p.no_more l n h = refl
  path_there (q, z) (p.range_more c e) l n h = refl
  path_there (t.no_qself, z) (p.mac_end d ts) l n h = refl
  path_there (t.no_qself, z) (p.struct_end fs e r) l n h = rw (fields-fields_of fs) refl
  path_there (t.no_qself, z) (p.tuple_end ps e) l n h = rw (pats-pats_of ps) refl
  path_there (t.qself x i a, z) (p.mac_end d ts) l n h = by_dots (p.dots.at l) h
    where
      by_dots : (b : Bool) → cond {A = Option (List Tok)} b None None ≡ Some n → p.from_path (p.to_path ((t.qself x i a, z), p.mac_end d ts)) ≡ Some ((t.qself x i a, z), p.mac_end d ts)
      by_dots true h = absurd cc
      by_dots false h = absurd cc
  path_there (t.qself x i a, z) (p.struct_end fs e r) l n h = by_dots (p.dots.at l) h
    where
      by_dots : (b : Bool) → cond {A = Option (List Tok)} b None None ≡ Some n → p.from_path (p.to_path ((t.qself x i a, z), p.struct_end fs e r)) ≡ Some ((t.qself x i a, z), p.struct_end fs e r)
      by_dots true h = absurd cc
      by_dots false h = absurd cc
  path_there (t.qself x i a, z) (p.tuple_end ps e) l n h = by_dots (p.dots.at l) h
    where
      by_dots : (b : Bool) → cond {A = Option (List Tok)} b None None ≡ Some n → p.from_path (p.to_path ((t.qself x i a, z), p.tuple_end ps e)) ≡ Some ((t.qself x i a, z), p.tuple_end ps e)
      by_dots true h = absurd cc
      by_dots false h = absurd cc

  path_alike : Alike (suc k) (p.path_pat pattern) (p.path_pat pattern')
  unfolding p.path_pat
  path_alike = shown_where_alike there path_back (then_by_alike qpath_whole path_end_alike)
    where
      there : (l : List Tok) (x : QPathTree × PathEnd) (n : List Tok) → (then_by (qpath type style.Expr) (p.path_end pattern)).behind x l ≡ Some n → p.from_path (p.to_path x) ≡ Some x
      there l (q, e) n h =
          let (m, i, j) = behind_some ((qpath type style.Expr).behind q l) ((p.path_end pattern q).behind e) n h in
          path_there q e m n j

  pub single_alike : Alike (suc k) (p.single pattern) (p.single pattern')
  unfolding p.single
  single_alike =
      case_alike underscore_present (pure_alike only_wild)
      (case_alike constant_present (shown_alike sees_block block_alike)
      (case_alike and_present reference_alike
      (group_case_alike del.Parenthesis round_alike
      (group_case_alike del.Bracket slice_alike
      (when_alike _ (shown_alike sees_open range_end_alike)
      (when_alike _ (shown_alike sees_lit (both_alike lit_alike (maybe_alike _ range_end_alike)))
      (when_alike _ binding_alike
      path_alike)))))))

  -- no single pattern has alternatives
  pub or_refused : (b : Bool) (ps : Pats) (e : Bool) → Refuses (p.single pattern) (p.alternatives b ps e)
  unfolding p.single p.reference_pat p.round_pat p.slice_pat p.binding p.path_pat
  or_refused b ps e = search (when_refuses, mark_refuses, inside_refuses, shown_refuses, pure_refuses) depth 16

  -- nor a guard, a type or attributes
  pub guarded_refused : (z : PatTree) → Refuses (p.single pattern) (p.guarded z)
  unfolding p.single p.reference_pat p.round_pat p.slice_pat p.binding p.path_pat
  guarded_refused z = search (when_refuses, mark_refuses, inside_refuses, shown_refuses, pure_refuses) depth 16

  pub typed_refused : (z : PatTree) (x : TypeTree) → Refuses (p.single pattern) (p.typed z x)
  unfolding p.single p.reference_pat p.round_pat p.slice_pat p.binding p.path_pat
  typed_refused z x = search (when_refuses, mark_refuses, inside_refuses, shown_refuses, pure_refuses) depth 16

  pub attributed_refused : (a : AttributeTree) (xs : List AttributeTree) (z : PatTree) → Refuses (p.single pattern) (p.attributed a xs z)
  unfolding p.single p.reference_pat p.round_pat p.slice_pat p.binding p.path_pat
  attributed_refused a xs z = search (when_refuses, mark_refuses, inside_refuses, shown_refuses, pure_refuses) depth 16

  multi_alike : Alike (suc k) (p.multi pattern) (p.multi pattern')
  unfolding p.multi
  multi_alike = shown_where_alike there back (both_alike (flag_at_alike vert_present) (joined_alike vert_present single_alike))
    where
      alone_there : (z : PatTree) (l n : List Tok) → (p.single pattern).behind z l ≡ Some n → p.from_or z ≡ Some (false, z ∷ [])
      alone_there (p.alternatives b ps e) l n h = let r = or_refused b ps e in absurd (r.refuses l n h)
      alone_there _ l n h = refl

      there : (l : List Tok) (x : Bool × List PatTree) (n : List Tok) → (both (flag p.vert) (joined p.vert (p.single pattern))).behind x l ≡ Some n → p.from_or (p.to_or x) ≡ Some x
      there l (true, []) n h = refl
      there l (true, z ∷ zs) n h = rw (pats-pats_of zs) refl
      there l (false, []) n h = refl
      there l (false, z ∷ []) n h =
          let (m, e, j) = behind_some ((flag p.vert).behind false l) ((joined p.vert (p.single pattern)).behind (z ∷ [])) n h in
          let (o, i, g) = behind_some ((p.single pattern).behind z m) ((more p.vert (p.single pattern)).behind []) n j in
          alone_there z m o i
      there l (false, z ∷ w ∷ zs) n h = rw (pats-pats_of zs) refl

      or_back : (b : Bool) (ps : List PatTree) (x : Bool × List PatTree) → p.or_by b ps ≡ Some x → p.to_or x ≡ p.alternatives b (p.pats_of ps) false
      or_back true [] x h = ap p.to_or (sym (some_is h))
      or_back true (z ∷ zs) x h = ap p.to_or (sym (some_is h))
      or_back false [] x h = ap p.to_or (sym (some_is h))
      or_back false (z ∷ []) x h = absurd cc
      or_back false (z ∷ w ∷ zs) x h = ap p.to_or (sym (some_is h))

      back : (y : PatTree) (x : Bool × List PatTree) → p.from_or y ≡ Some x → p.to_or x ≡ y
      back (p.alternatives b ps true) x h = absurd cc
      back (p.alternatives b ps false) x h = or_back b (p.pats ps) x h ∙ ap (λ z. p.alternatives b z false) (pats_of-pats ps)
      back _ x h = ap p.to_or (sym (some_is h))

  pub width_alike : (b : Bool) → Alike (suc k) (p.at_width pattern b) (p.at_width pattern' b)
  unfolding p.at_width
  width_alike b = when_alike _ multi_alike single_alike

-- ---- the knot

pattern_steps : (k : ℕ) → Steps k p.at_width p.at_width
pattern_steps k = record {
  lowest = λ f r b. weaker (width_alike r b);
  next = λ j h f f' r b. width_alike r b;
}

pub pattern_alike : {k : ℕ} (b : Bool) → Alike k (p.pattern b) (p.pattern b)
unfolding p.pattern
pattern_alike {k} b = fix_alike (pattern_steps k) b

pub pattern_is : (b : Bool) (l : List Tok) → (p.pattern b).reads l ≡ (p.at_width p.pattern b).reads l
unfolding p.pattern
pattern_is b l = fix_is pattern_steps b l

-- ---- arguments of closures

pub single_opens : (z : PatTree) (l n : List Tok) → (p.pattern false).behind z l ≡ Some n → (p.single p.pattern).behind z l ≡ Some n
unfolding p.at_width
single_opens z l n h =
    let f = pattern_alike {k = 0} false in
    let a = width_alike {k = 0} pattern_alike false in
    a.sound l z n (sym (pattern_is false l) ∙ f.complete l z n h)

-- neither a type nor attributes are round the pattern of an argument
from_bare : (z : PatTree) (l n : List Tok) → (p.pattern false).behind z l ≡ Some n → p.from_closure_arg z ≡ Some ([], (z, None))
from_bare (p.typed z x) l n h = let r = typed_refused {k = 0} pattern_alike z x in absurd (r.refuses l n (single_opens (p.typed z x) l n h))
from_bare (p.attributed a xs z) l n h = let r = attributed_refused {k = 0} pattern_alike a xs z in absurd (r.refuses l n (single_opens (p.attributed a xs z) l n h))
from_bare _ l n h = refl

from_untyped : (z : PatTree) (l n : List Tok) → (p.pattern false).behind z l ≡ Some n → p.from_typed z ≡ (z, None)
from_untyped (p.typed z x) l n h = let r = typed_refused {k = 0} pattern_alike z x in absurd (r.refuses l n (single_opens (p.typed z x) l n h))
from_untyped _ l n h = refl

typed_is : (z : PatTree) → p.to_typed (p.from_typed z).0 (p.from_typed z).1 ≡ z
typed_is (p.typed z x) = refl
typed_is _ = refl

-- attributes, a single pattern, and perhaps `:` and a type
abbrev pub arg_pieces : Form (List AttributeTree × (PatTree × Option TypeTree))
arg_pieces = both outer_attributes (both (p.pattern false) (maybe colon.at (mark colon (type true))))

pub closure_arg_alike : {k : ℕ} → Alike k p.closure_arg p.closure_arg
unfolding p.closure_arg
closure_arg_alike = shown_where_alike there back pieces_alike
  where
    pieces_alike : {k : ℕ} → Alike k arg_pieces arg_pieces
    pieces_alike = search (pattern_alike, types_alike, pat_forms, pat_marks, pat_views) depth 12

    there : (l : List Tok) (x : List AttributeTree × (PatTree × Option TypeTree)) (n : List Tok) → arg_pieces.behind x l ≡ Some n → p.from_closure_arg (p.to_closure_arg x) ≡ Some x
    there l ([], (z, Some x)) n h = refl
    there l (a ∷ xs, (z, Some x)) n h = refl
    there l ([], (z, None)) n h =
        let (m, i, j) = behind_some (outer_attributes.behind [] l) ((both (p.pattern false) (maybe colon.at (mark colon (type true)))).behind (z, None)) n h in
        let (o, g, q) = behind_some ((p.pattern false).behind z m) ((maybe colon.at (mark colon (type true))).behind None) n j in
        from_bare z m o g
    there l (a ∷ xs, (z, None)) n h =
        let (m, i, j) = behind_some (outer_attributes.behind (a ∷ xs) l) ((both (p.pattern false) (maybe colon.at (mark colon (type true)))).behind (z, None)) n h in
        let (o, g, q) = behind_some ((p.pattern false).behind z m) ((maybe colon.at (mark colon (type true))).behind None) n j in
        ap (λ y. Some (a ∷ xs, y)) (from_untyped z m o g)

    back : (y : PatTree) (x : List AttributeTree × (PatTree × Option TypeTree)) → p.from_closure_arg y ≡ Some x → p.to_closure_arg x ≡ y
    back (p.attributed a xs z) x h = ap p.to_closure_arg (sym (some_is h)) ∙ ap (p.attributed a xs) (typed_is z)
    back z x h = ap p.to_closure_arg (sym (some_is h)) ∙ typed_is z

-- Each part takes a token at least.
use Rattle.std.proofs.Common.{◌≡◌, ℕ, ◌<◌, Bool, true, false, not, ◌&&◌, ◌==◌, cond, List, [], ◌∷◌, drop, Option, Some, None, refl, ap, sym, ◌∙◌, subst, arith}
use Rattle.std.specs.Option.{is_some}
use Rattle.syn_lexer.specs.Keywords.{is_reserved_word}
use Rattle.syn_lexer.specs.declared.front.Delimiter.{Delimiter}
use Rattle.syn_lexer.specs.declared.front.Delimiter.TheVariants as del
use Rattle.syn_lexer.specs.declared.front.Spacing.TheVariants as spacing
use Rattle.syn_tokens.specs.Tok.{Tok, ident, punct, literal, group, weight}
use Rattle.syn_tokens.specs.Front.{group_at}
use Rattle.syn_lower_spec.specs.declared.label.PathStyle.{PathStyle}
use Rattle.syn_lower_spec.specs.declared.label.PathStyle.TheVariants as style
use Rattle.syn_lower_spec.specs.Text.{Text, is_segment, is_truth, is_number, kind_of}
use Rattle.syn_lower_spec.specs.Tree.{LitTree}
use Rattle.syn_lower_spec.specs.Form.{Form, Outcome, Test, Mark, and_then, when, mark, then_by, both, shown, inside_reads, inside, joined}
use Rattle.syn_lower_spec.specs.Mark.{gt, implementing, dynamic}
use Rattle.syn_lower_spec.specs.Part.{find_ident, find_segment, find_lit, find_signed, find_const, name, segment_name, lifetime, lit, verbatim, constant_tokens, block, lifetimes, generic, segment, pieces, path, qpath, bound, fn_pointer, named, at_place, type, macro}
use Rattle.syn_lower_spec.specs.Part as p
use Rattle.syn_lower_spec.proofs.Weights.{some_is, taken, one_at_least}
use Rattle.syn_lower_spec.proofs.Same.{compares_texts}
use Rattle.syn_lower_spec.proofs.Views.{only_never, only_infer}
use Rattle.syn_lower_spec.proofs.Marks.{comma_present, gt_present, eq_present, not_ne_present, question_present, and_present, star_present, bang_present, underscore_present, implementing_present, dynamic_present, less_present, for_present, fn_present, quote_present, colon2_present}
use Rattle.syn_lower_spec.proofs.Forms.{Alike, Present, bind_some, weaker, when_alike, both_alike, mark_at_alike, maybe_alike, listed_alike, closed_by_alike, more_alike, pure_alike, flag_at_alike, leaf_alike, whole_is}
use Rattle.syn_lower_spec.proofs.Parts.{finds_word, lifetime_alike, inside_at_alike, whole_segment_alike, word_some, lit_some, truth_some, negative_some, const_some, types_alike, type_alike, type_is, lifetimes_alike, output_alike, reference_alike, pointer_alike, fn_arg_alike, implements_alike, object_alike, macro_end_alike, qualified_alike, arguments_alike, no_arguments_alike, fn_head_alike, any_group_alike}

pub record Takes {A : Type 0} (f : Form A) : Type 0 where
  pub takes : (l : List Tok) (x : A) (n : List Tok) → f.reads l ≡ Some (x, n) → weight n < weight l

moved : {A : Type 0} (x y : A) (m n : List Tok) (k : ℕ) → ◌≡◌ {A = Outcome A} (Some (x, m)) (Some (y, n)) → weight m < k → weight n < k
moved x y m n k h t = subst (λ z. weight z < k) (ap (λ z. z.1) (some_is h)) t

pub mark_takes : {A : Type 0} {k : ℕ} {m : Mark} {f f' : Form A} → Present m → Alike k f f' → Takes (mark m f)
mark_takes {A} {k} {m} {f} p a = record { takes = λ l x n. go (m.at l) l x n refl }
  where
    go : (b : Bool) (l : List Tok) (x : A) (n : List Tok) → m.at l ≡ b → cond b (f.reads (drop m.count l)) None ≡ Some (x, n) → weight n < weight l
    go true l x n e h = omega (arith, p.present l e, a.falls (drop m.count l) x n h)
    go false l x n e h = absurd cc

pub when_takes : {A : Type 0} {f g : Form A} (at : Test) → Takes f → Takes g → Takes (when at f g)
when_takes {A} {f} {g} at a c = record { takes = λ l x n. go (at l) l x n }
  where
    go : (b : Bool) (l : List Tok) (x : A) (n : List Tok) → cond b (f.reads l) (g.reads l) ≡ Some (x, n) → weight n < weight l
    go true l x n h = a.takes l x n h
    go false l x n h = c.takes l x n h

-- the first part takes a token
pub first_takes : {A B : Type 0} {k : ℕ} {f : Form A} {g g' : A → Form B} → Takes f → ((x : A) → Alike k (g x) (g' x)) → Takes (then_by f g)
first_takes {A} {B} {k} {f} {g} a c = record {
  takes = λ l p n h.
      let (q, e, j) = bind_some (f.reads l) (λ x m. and_then ((g x).reads m) (λ y n. Some ((x, y), n))) (p, n) h in
      let (r, d, i) = bind_some ((g q.0).reads q.1) (λ y n. Some ((q.0, y), n)) (p, n) j in
      let b = c q.0 in
      moved (q.0, r.0) p r.1 n (weight l) i (omega (arith, a.takes l q.0 q.1 e, b.falls q.1 r.0 r.1 d));
}

-- the second part takes a token
pub second_takes : {A B : Type 0} {k : ℕ} {f f' : Form A} {g : Form B} → Alike k f f' → Takes g → Takes (both f g)
second_takes {A} {B} {k} {f} {f'} {g} a c = record {
  takes = λ l p n h.
      let (q, e, j) = bind_some (f.reads l) (λ x m. and_then (g.reads m) (λ y n. Some ((x, y), n))) (p, n) h in
      let (r, d, i) = bind_some (g.reads q.1) (λ y n. Some ((q.0, y), n)) (p, n) j in
      moved (q.0, r.0) p r.1 n (weight l) i (omega (arith, a.falls l q.0 q.1 e, c.takes q.1 r.0 r.1 d));
}

pub shown_takes : {A B : Type 0} {f : Form A} (to : A → B) (from : B → Option A) → Takes f → Takes (shown to from f)
shown_takes {A} {B} {f} to from a = record {
  takes = λ l y n h.
      let (q, e, j) = bind_some (f.reads l) (λ x n. Some (to x, n)) (y, n) h in
      moved (to q.0) y q.1 n (weight l) j (a.takes l q.0 q.1 e);
}

pub inside_takes : {A : Type 0} (d : Delimiter) (f : Form A) → Takes (inside d f)
inside_takes {A} d f = record { takes = λ l x n. go l (group_at d l) x n refl }
  where
    go : (l : List Tok) (o : Option (List Tok × List Tok)) (x : A) (n : List Tok) → group_at d l ≡ o → inside_reads f o ≡ Some (x, n) → weight n < weight l
    go l None x n e h = absurd cc
    go l (Some g) x n e h = subst (λ z. weight z < weight l) (whole_is (f.reads g.0) g.1 x n h) (omega (arith, taken d l g.0 g.1 e))

-- ---- leaves

by : (l n m : List Tok) → l ≡ n → weight l < weight m → weight n < weight m
by l n m e h = subst (λ z. weight z < weight m) e h

one : (x : Tok) (l : List Tok) → weight l < weight (x ∷ l)
unfolding weight
one x l = omega (arith, one_at_least x)

two : (x y : Tok) (l : List Tok) → weight l < weight (x ∷ y ∷ l)
unfolding weight
two x y l = omega (arith, one_at_least x, one_at_least y)

pub name_takes : Takes name
unfolding name
name_takes = record { takes = takes }
  where
    takes : (l : List Tok) (x : Text) (n : List Tok) → find_ident l ≡ Some (x, n) → weight n < weight l
    takes (ident w ∷ l) x n h = by l n (ident w ∷ l) (word_some (not (is_reserved_word w)) w l x n h) (one (ident w) l)
    takes _ x n h = absurd cc

pub segment_name_takes : Takes segment_name
unfolding segment_name
segment_name_takes = record { takes = takes }
  where
    takes : (l : List Tok) (x : Text) (n : List Tok) → find_segment l ≡ Some (x, n) → weight n < weight l
    takes (ident w ∷ l) x n h = by l n (ident w ∷ l) (word_some (is_segment w) w l x n h) (one (ident w) l)
    takes _ x n h = absurd cc

pub lit_takes : (l : List Tok) (x : LitTree) (n : List Tok) → find_lit l ≡ Some (x, n) → weight n < weight l
lit_takes (literal w ∷ l) x n h = by l n (literal w ∷ l) (lit_some (kind_of w) w l x n h) (one (literal w) l)
lit_takes (ident w ∷ l) x n h = by l n (ident w ∷ l) (truth_some (is_truth w) w l x n h) (one (ident w) l)
lit_takes _ x n h = absurd cc

pub signed_takes : Takes lit
unfolding lit
signed_takes = record { takes = takes }
  where
    takes : (l : List Tok) (x : LitTree) (n : List Tok) → find_signed l ≡ Some (x, n) → weight n < weight l
    takes (punct c s ∷ literal w ∷ l) x n h = by l n (punct c s ∷ literal w ∷ l) (negative_some (c == 45 && is_number w) w l x n h) (two (punct c s) (literal w) l)
    takes [] x n h = absurd cc
    takes (punct c s ∷ []) x n h = absurd cc
    takes (punct c s ∷ ident w ∷ l) x n h = absurd cc
    takes (punct c s ∷ punct d r ∷ l) x n h = absurd cc
    takes (punct c s ∷ group d i ∷ l) x n h = absurd cc
    takes (literal w ∷ l) x n h = lit_takes (literal w ∷ l) x n h
    takes (ident w ∷ l) x n h = lit_takes (ident w ∷ l) x n h
    takes (group d i ∷ l) x n h = absurd cc

pub verbatim_takes : (d : Delimiter) → Takes (verbatim d)
unfolding verbatim
verbatim_takes d = record { takes = λ l x n h. omega (arith, taken d l x n h) }

const_takes : Takes constant_tokens
unfolding constant_tokens
const_takes = record { takes = takes }
  where
    takes : (l : List Tok) (x : List Tok) (n : List Tok) → find_const l ≡ Some (x, n) → weight n < weight l
    takes (literal w ∷ l) x n h = by l n (literal w ∷ l) (ap (λ z. z.1) (some_is h)) (one (literal w) l)
    takes (ident w ∷ l) x n h = by l n (ident w ∷ l) (const_some (is_truth w) (ident w ∷ []) l x n h) (one (ident w) l)
    takes (punct c s ∷ literal w ∷ l) x n h =
        by l n (punct c s ∷ literal w ∷ l) (const_some (c == 45 && is_number w) (punct c spacing.Alone ∷ literal w ∷ []) l x n h) (two (punct c s) (literal w) l)
    takes (group del.Brace i ∷ l) x n h = by l n (group del.Brace i ∷ l) (ap (λ z. z.1) (some_is h)) (one (group del.Brace i) l)
    takes _ x n h = absurd cc

pub block_takes : Takes block
unfolding block
block_takes = verbatim_takes del.Brace

-- ---- parts

pub lifetime_takes : Takes lifetime
unfolding lifetime
lifetime_takes = mark_takes {k = 0} quote_present (leaf_alike compares_texts finds_word)

pub lifetimes_takes : Takes lifetimes
unfolding lifetimes
lifetimes_takes = mark_takes {k = 0} for_present (mark_at_alike less_present (closed_by_alike gt_present (listed_alike gt.at comma_present lifetime_alike)))

pub segment_takes : (s : PathStyle) → Takes (segment type s)
unfolding segment
segment_takes s = shown_takes p.to_segment p.from_segment (first_takes {k = 0} segment_name_takes (λ w. when_alike _ no_arguments_alike (weaker (arguments_alike {k = 0} types_alike s))))

joined_takes : {A : Type 0} {m : Mark} {f : Form A} → Present m → Takes f → ((k : ℕ) → Alike k f f) → Takes (joined m f)
joined_takes p t a = shown_takes _ _ (first_takes {k = 0} t (λ x. more_alike p (a 0)))

pub pieces_takes : (s : PathStyle) → Takes (pieces type s)
unfolding pieces
pieces_takes s = second_takes {k = 0} (flag_at_alike colon2_present) (joined_takes colon2_present (segment_takes s) (λ k. whole_segment_alike s))

pub path_takes : (s : PathStyle) → Takes (path type s)
unfolding path
path_takes s = shown_takes p.to_path p.from_path (pieces_takes s)

pub qpath_takes : (s : PathStyle) → Takes (qpath type s)
unfolding qpath
qpath_takes s = when_takes _ (mark_takes {k = 0} less_present (qualified_alike {k = 0} types_alike s)) (shown_takes _ _ (path_takes s))

pub bound_takes : Takes (bound type)
unfolding bound
bound_takes = when_takes _ (shown_takes _ _ lifetime_takes)
    (shown_takes p.to_trait p.from_trait (second_takes {k = 0} (flag_at_alike question_present) (second_takes {k = 0} (maybe_alike _ lifetimes_alike) (path_takes style.Type))))

fn_takes : Takes (fn_pointer type)
unfolding fn_pointer
fn_takes = shown_takes p.to_fn p.from_fn (second_takes {k = 0} fn_head_alike (mark_takes {k = 0} fn_present (both_alike (inside_at_alike del.Parenthesis (listed_alike _ comma_present (fn_arg_alike {k = 0} types_alike))) (weaker (output_alike {k = 0} types_alike false)))))

named_takes : Takes (named type)
unfolding named
named_takes = shown_takes p.to_named p.from_named (first_takes {k = 0} (qpath_takes style.Type) (λ q. macro_end_alike q))

at_place_takes : (b : Bool) → Takes (at_place type b)
unfolding at_place
at_place_takes b =
    when_takes _ (mark_takes {k = 0} and_present (reference_alike {k = 0} types_alike))
    (when_takes _ (mark_takes {k = 0} star_present (pointer_alike {k = 0} types_alike))
    (when_takes _ (mark_takes {k = 0} bang_present (pure_alike only_never))
    (when_takes _ (mark_takes {k = 0} underscore_present (pure_alike only_infer))
    (when_takes (λ l. is_some (group_at del.Bracket l)) (inside_takes del.Bracket (p.slice_or_array type))
    (when_takes (λ l. is_some (group_at del.Parenthesis l)) (inside_takes del.Parenthesis (p.tuple_or_paren type))
    (when_takes p.fn_at fn_takes
    (when_takes implementing.at (mark_takes {k = 0} implementing_present (weaker (implements_alike {k = 0} types_alike b)))
    (when_takes dynamic.at (mark_takes {k = 0} dynamic_present (weaker (object_alike {k = 0} types_alike b)))
    named_takes))))))))

pub type_takes : (b : Bool) → Takes (type b)
type_takes b = record { takes = λ l x n h. let a = at_place_takes b in a.takes l x n (sym (type_is b l) ∙ h) }

pub generic_takes : Takes (generic type)
unfolding generic
generic_takes = when_takes _ (shown_takes _ _ lifetime_takes)
    (when_takes _ (shown_takes _ _ const_takes)
    (when_takes _ (shown_takes _ _ (first_takes {k = 0} name_takes (λ w. mark_at_alike eq_present (type_alike 0 true))))
    (shown_takes _ _ (type_takes true))))

pub macro_takes : Takes macro
unfolding macro
macro_takes = shown_takes p.to_macro p.from_macro (first_takes {k = 0} (path_takes style.Mod) (λ p. mark_at_alike not_ne_present any_group_alike))

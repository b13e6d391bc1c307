-- The last of the own tokens of a type: whether it is a name.
use Rattle.std.proofs.Common.{◌≡◌, ℕ, zero, suc, ◌&&◌, ◌||◌, Bool, true, false, not, List, [], ◌∷◌, ◌++◌, Option, Some, None, refl, sym, ap, subst, ◌∙◌, arith}
use Rattle.std.specs.Prelude.{codes, nat_le}
use Rattle.std.proofs.lemmas.Bool.Decides.{nat_tests}
use Rattle.std.proofs.Math.Bool.{and-false}
use Rattle.std.proofs.lemmas.Bool.{and_parts}
use Rattle.syn_lexer.specs.Keywords.{is_reserved_word}
use Rattle.syn_lexer.specs.declared.front.Delimiter.TheVariants as del
use Rattle.syn_tokens.specs.Tok.{Tok, ident, group, inside}
use Rattle.syn_lower_spec.specs.declared.label.PathStyle.{PathStyle}
use Rattle.syn_lower_spec.specs.declared.label.PathStyle.TheVariants as style
use Rattle.syn_lower_spec.specs.Text.{Text, is_segment, stands_alone}
use Rattle.syn_lower_spec.specs.Tree as t
use Rattle.syn_lower_spec.specs.Tree.{TypeTree, QSelfTree, Segments, ArgumentsTree, ReturnTree, Bounds, BoundTree, LifetimesTree}
use Rattle.syn_lower_spec.specs.Form.{is_nil}
use Rattle.syn_lower_spec.specs.Part.{has_none}
use Rattle.syn_lower_spec.specs.Own.{alone, joint, before_if, before_some, comma_before, colon2_before, elements_own, lifetime_own, lifetimes_own, extern_own, count_segments, inner_count, at_most, closed_at, qself_end, no_more_bounds, no_more_types, type_own, qself_own, segments_own, arguments_own, generics_own, args_own, return_own, bounds_own, bound_own}
use Rattle.syn_lower_spec.specs.Ends.{ends_open, segments_open, arguments_open, return_open, bounds_open, bound_open}
use Rattle.syn_lower_spec.specs.Fits.{type_fits, types_fit, qself_fits, segments_fit, arguments_fit, return_fits, bounds_fit, bound_fits, fits_if, lifetimes_fit, is_string, args_fit, ends_well, takes_round, goes_over, is_one_bound, position_fits}
use Rattle.syn_lower_spec.proofs.Appends.{type_append, segments_append, arguments_append, generics_append, bound_append, extern_append}
use Rattle.syn_lower_spec.proofs.Fronts.{word_not}
use Rattle.syn_expr_spec.specs.Query.{is_name, is_quote, last_name, trailing_unparameterized_path, segments_unparameterized, arguments_unparameterized, return_unparameterized, bounds_unparameterized, bound_unparameterized, UnparameterizedPathsAreLast}

-- Whatever comes before, a quote too, the last token answers b.
record Settled (l : List Tok) (b : Bool) : Type 0 where
  behind : (quoted named : Bool) → last_name quoted named l ≡ b

one : (u : Tok) (l : List Tok) (b : Bool) → Settled l b → Settled (u ∷ l) b
one u l b f = record { behind = λ q n. f.behind (is_quote u) (is_name u && not q) }

-- after a token that is no name
first : (u : Tok) (l : List Tok) (b : Bool) → is_name u ≡ false → last_name (is_quote u) false l ≡ b → Settled (u ∷ l) b
first u l b g h = record { behind = λ q n. ap (λ m. last_name (is_quote u) (m && not q) l) g ∙ h }

over : (ts l : List Tok) (b : Bool) → Settled l b → Settled (ts ++ l) b
over [] l b f = f
over (u ∷ ts) l b f = one u (ts ++ l) b (over ts l b f)

through : {F : List Tok → List Tok} → ((r : List Tok) → F r ≡ F [] ++ r) → (l : List Tok) (b : Bool) → Settled l b → Settled (F l) b
through {F} h l b f = subst (λ m. Settled m b) (sym (h l)) (over (F []) l b f)

if_there : (there : Bool) (F : List Tok → List Tok) → ((l : List Tok) (b : Bool) → Settled l b → Settled (F l) b)
    → (l : List Tok) (b : Bool) → Settled l b → Settled (before_if there F l) b
if_there true F h l b f = h l b f
if_there false F h l b f = f

if_some : {A : Type 0} (o : Option A) (own : A → List Tok → List Tok) → ((x : A) (l : List Tok) (b : Bool) → Settled l b → Settled (own x l) b)
    → (l : List Tok) (b : Bool) → Settled l b → Settled (before_some o own l) b
if_some None own h l b f = f
if_some (Some x) own h l b f = h x l b f

colons : (l : List Tok) (b : Bool) → Settled l b → Settled (colon2_before l) b
colons l b f = one (joint 58) _ b (one (alone 58) l b f)

lifetimes : (xs : List Text) (c : Bool) (l : List Tok) (b : Bool) → Settled l b → Settled (elements_own lifetime_own comma_before xs c l) b
lifetimes [] c l b f = f
lifetimes (x ∷ xs) c l b f =
    one (joint 39) _ b (one (ident x) _ b (if_there (not (is_nil xs) || c) comma_before (one (alone 44)) _ b (lifetimes xs c l b f)))

-- after `for<..>` no quote stands, nor a name
for_lifetimes : (p : LifetimesTree) (l : List Tok) (b : Bool) → last_name false false l ≡ b → Settled (lifetimes_own p l) b
unfolding lifetimes_own
for_lifetimes p l b h = one (ident (codes "for")) _ b (one (alone 60) _ b (lifetimes p.0 p.1 _ b (first (alone 62) l b refl h)))

-- ---- the ends of a path

-- what comes after no quote
abbrev Ends : List Tok → Bool → Type 0
Ends l b = (named : Bool) → last_name false named l ≡ b

led : (l : Bool) (m : List Tok) (b : Bool) → Ends m b → Ends (before_if l colon2_before m) b
led true m b h n = h false
led false m b h n = h n

qself_closes : (n : ℕ) (l : List Tok) (b : Bool) → Ends l b → Settled (qself_end n l) b
qself_closes zero l b h = first (alone 62) l b refl (h false)
qself_closes (suc n) l b h = record { behind = λ q m. h (is_name (ident (codes "as")) && not q) }

headed : (q : QSelfTree) (k : ℕ) (l : Bool) (m : List Tok) (b : Bool) → Ends m b → Ends (qself_own q k (before_if l colon2_before m)) b
headed t.no_qself k l m b h n = led l m b h n
headed (t.qself x p a) k l m b h n =
    (through {F = type_own x} (type_append x) _ _ (qself_closes (at_most p k) _ _ (led l m b h))).behind false false

closes : (n : ℕ) (l : List Tok) (b : Bool) → Settled l b → Settled (closed_at n l) b
closes zero l b f = f
closes (suc zero) l b f = one (alone 62) l b f
closes (suc (suc n)) l b f = f

trait_ends : (q : Bool) (f : Option LifetimesTree) (l : Bool) (m : List Tok) (b : Bool) → Ends m b
    → Ends (before_if q (λ u. alone 63 ∷ u) (before_some f lifetimes_own (before_if l colon2_before m))) b
trait_ends true None l m b h n = led l m b h false
trait_ends false None l m b h n = led l m b h n
trait_ends true (Some p) l m b h n = (for_lifetimes p _ b (led l m b h false)).behind false false
trait_ends false (Some p) l m b h n = (for_lifetimes p _ b (led l m b h false)).behind false n

words_ends : (a : Option Text) (m : Bool) (l : List Tok) (b : Bool) → Ends l b
    → Ends (before_some a lifetime_own (before_if m (λ u. ident (codes "mut") ∷ u) l)) b
words_ends None true l b h n = h _
words_ends None false l b h n = h n
words_ends (Some w) true l b h n = h _
words_ends (Some w) false l b h n = h _

segment_is_name : (w : Text) → is_segment w ≡ true → is_name (ident w) && true ≡ true
unfolding is_segment is_reserved_word stands_alone
segment_is_name w h = ap (λ b. not b && true) (word_not w (codes "_") h refl)

few_inside : (q : QSelfTree) (l : Bool) (k : ℕ) → qself_fits q l (suc k) ≡ true → nat_le (suc (inner_count q (suc k))) (suc k) ≡ true
few_inside t.no_qself l k h = grind (arith, nat_tests)
few_inside (t.qself x n a) l k h = by a n (and_parts (type_fits true x) _ h).1
  where
    by : (a : Bool) (n : ℕ) → position_fits a n l (suc k) ≡ true → nat_le (suc (at_most n (suc k))) (suc k) ≡ true
    by true n g = grind (arith, nat_tests)
    by false n g = grind (arith, nat_tests)

nothing_inside : (n : ℕ) → nat_le (suc n) 0 ≡ true → ⊥
nothing_inside n h = grind (arith, nat_tests)

fewer : (n k : ℕ) → nat_le (suc (suc n)) (suc k) ≡ true → nat_le (suc n) k ≡ true
fewer n k h = grind (arith, nat_tests)

one_more : (k : ℕ) → nat_le 1 (suc k) ≡ true
one_more k = grind (arith, nat_tests)

-- ---- types

mutual
  type_ends : (several : Bool) (x : TypeTree) → type_fits several x ≡ true → Ends (type_own x []) (trailing_unparameterized_path x)
  type_ends b (t.path q l ss true) h = absurd cc
  type_ends b (t.path q l t.no_segments false) h = absurd cc
  type_ends b (t.path q l (t.more_segments w a ss) false) h =
      let p = and_parts (qself_fits q l (count_segments (t.more_segments w a ss))) _ h in
      headed q _ l _ _ (segments_end (inner_count q (suc (count_segments ss))) style.Type (t.more_segments w a ss) p.1 (few_inside q l (count_segments ss) p.0))
  type_ends b (t.mac l ss c d ts) h =
      λ n. (if_there l colon2_before colons _ _
      (through {F = segments_own 0 ss c} (segments_append 0 ss c) _ _ (one (alone 33) _ _ (first (group d (inside ts)) [] false refl refl)))).behind false n
  type_ends b (t.reference a m x) h = λ n. words_ends a m _ _ (type_ends false x h) false
  type_ends b (t.ptr m x) h = λ n. type_ends false x h _
  type_ends b (t.slice x) h = λ n. refl
  type_ends b (t.array x k) h = λ n. refl
  type_ends b (t.tuple xs c) h = λ n. refl
  type_ends b (t.paren x) h = λ n. refl
  type_ends b t.never h = λ n. refl
  type_ends b t.infer h = λ n. refl
  type_ends b (t.fn_ptr f u a xs c o) h =
      let p = and_parts (fits_if lifetimes_fit f) _ h in
      let q = and_parts (fits_if (fits_if is_string) a) _ p.1 in
      let r = and_parts (args_fit xs) _ q.1 in
      let s = and_parts (ends_well _ c) _ r.1 in
      λ n. (if_some f lifetimes_own (λ p l b g. for_lifetimes p l b (g.behind false false)) _ _
      (if_there u (λ l. ident (codes "unsafe") ∷ l) (one (ident (codes "unsafe"))) _ _
      (if_some a extern_own (λ x m b g. through {F = extern_own x} (extern_append x) m b g) _ _
      (one (ident (codes "fn")) _ _ (first (group del.Parenthesis (inside (args_own xs c []))) _ _ refl (return_ends o s.1 false)))))).behind false n
  type_ends b (t.impl_trait bs true) h = absurd cc
  type_ends b (t.impl_trait t.no_bounds false) h = absurd cc
  type_ends b (t.impl_trait (t.more_bounds d bs) false) h =
      λ n. bounds_end (t.more_bounds d bs) (and_parts (b || is_one_bound (t.more_bounds d bs)) _ h).1 refl _
  type_ends b (t.trait_object bs true) h = absurd cc
  type_ends b (t.trait_object t.no_bounds false) h = absurd cc
  type_ends b (t.trait_object (t.more_bounds d bs) false) h =
      λ n. bounds_end (t.more_bounds d bs) (and_parts (b || is_one_bound (t.more_bounds d bs)) _ h).1 refl _

  segments_end : (n : ℕ) (s : PathStyle) (ss : Segments) → segments_fit n s ss ≡ true → nat_le (suc n) (count_segments ss) ≡ true
      → Ends (segments_own n ss false []) (segments_unparameterized ss)
  segments_end n s t.no_segments h g = absurd (nothing_inside n g)
  segments_end zero s (t.more_segments w a t.no_segments) h g =
      let p = and_parts (is_segment w) _ h in
      let q = and_parts (not (stands_alone w) || has_none a) _ p.1 in
      let r = and_parts (arguments_fit s a) _ q.1 in
      λ n. ap (λ b. last_name false b (arguments_own a [])) (segment_is_name w p.0) ∙ arguments_end s a r.0
  segments_end (suc n) s (t.more_segments w a t.no_segments) h g = absurd (nothing_inside n (fewer n 0 g))
  segments_end zero s (t.more_segments w a (t.more_segments v b ss)) h g =
      let p = and_parts (is_segment w) _ h in
      let q = and_parts (not (stands_alone w) || has_none a) _ p.1 in
      let r = and_parts (arguments_fit s a) _ q.1 in
      let f = and_parts (goes_over zero s w a (t.more_segments v b ss)) _ r.1 in
      λ n. (one (ident w) _ _ (through {F = arguments_own a} (arguments_append a) _ _
      (one (joint 58) _ _ (first (alone 58) _ _ refl (segments_end zero s (t.more_segments v b ss) f.1 (one_more (count_segments ss)) false))))).behind false n
  segments_end (suc m) s (t.more_segments w a (t.more_segments v b ss)) h g =
      let p = and_parts (is_segment w) _ h in
      let q = and_parts (not (stands_alone w) || has_none a) _ p.1 in
      let r = and_parts (arguments_fit style.Type a) _ q.1 in
      let f = and_parts (goes_over (suc m) style.Type w a (t.more_segments v b ss)) _ r.1 in
      λ n. (one (ident w) _ _ (through {F = arguments_own a} (arguments_append a) _ _ (closes (suc m) _ _
      (one (joint 58) _ _ (first (alone 58) _ _ refl (segments_end m s (t.more_segments v b ss) f.1 (fewer m _ g) false)))))).behind false n

  arguments_end : (s : PathStyle) (a : ArgumentsTree) → arguments_fit s a ≡ true → last_name false true (arguments_own a []) ≡ arguments_unparameterized a
  arguments_end s t.no_arguments h = refl
  arguments_end s (t.angle l gs c) h =
      (if_there l colon2_before colons _ _ (one (alone 60) _ _
      (through {F = generics_own gs c} (generics_append gs c) _ _ (first (alone 62) [] false refl refl)))).behind false true
  arguments_end s (t.round xs c o) h =
      let p = and_parts (takes_round s) _ h in
      let q = and_parts (types_fit xs) _ p.1 in
      let r = and_parts (ends_well (no_more_types xs) c) _ q.1 in
      return_ends o r.1 false

  return_ends : (o : ReturnTree) → return_fits o ≡ true → (named : Bool) → last_name false false (return_own o []) ≡ return_unparameterized o
  return_ends t.default h n = refl
  return_ends (t.given x) h n = type_ends false x h false

  bounds_end : (bs : Bounds) → bounds_fit bs ≡ true → no_more_bounds bs ≡ false → Ends (bounds_own bs false []) (bounds_unparameterized bs)
  bounds_end t.no_bounds h g = absurd cc
  bounds_end (t.more_bounds d t.no_bounds) h g = bound_end d (and_parts (bound_fits d) _ h).0
  bounds_end (t.more_bounds d (t.more_bounds x bs)) h g =
      λ n. (through {F = bound_own d} (bound_append d) _ _ (first (alone 43) _ _ refl (bounds_end (t.more_bounds x bs) (and_parts (bound_fits d) _ h).1 refl false))).behind false n

  bound_end : (d : BoundTree) → bound_fits d ≡ true → Ends (bound_own d []) (bound_unparameterized d)
  bound_end (t.outlives w) h = λ n. and-false (is_name (ident w))
  bound_end (t.a_trait q f l ss true) h = absurd cc
  bound_end (t.a_trait q f l t.no_segments false) h = absurd cc
  bound_end (t.a_trait q f l (t.more_segments w a ss) false) h =
      trait_ends q f l _ _ (segments_end 0 style.Type (t.more_segments w a ss) (and_parts (fits_if lifetimes_fit f) _ h).1 (one_more (count_segments ss)))

-- ---- what would go on at `<`

mutual
  open_type : (x : TypeTree) → ends_open x ≡ true → trailing_unparameterized_path x ≡ true
  open_type (t.path q l ss c) h = open_segments ss h
  open_type (t.reference a m x) h = open_type x h
  open_type (t.ptr m x) h = open_type x h
  open_type (t.fn_ptr f u a xs c o) h = open_return o h
  open_type (t.impl_trait bs c) h = open_bounds bs h
  open_type (t.trait_object bs c) h = open_bounds bs h
  open_type _ h = absurd cc

  open_segments : (ss : Segments) → segments_open ss ≡ true → segments_unparameterized ss ≡ true
  open_segments t.no_segments h = absurd cc
  open_segments (t.more_segments w a t.no_segments) h = open_arguments w a h
  open_segments (t.more_segments w a (t.more_segments v b ss)) h = open_segments (t.more_segments v b ss) h

  open_arguments : (w : Text) (a : ArgumentsTree) → arguments_open w a ≡ true → arguments_unparameterized a ≡ true
  open_arguments w t.no_arguments h = refl
  open_arguments w (t.angle l gs c) h = absurd cc
  open_arguments w (t.round xs c o) h = open_return o h

  open_return : (o : ReturnTree) → return_open o ≡ true → return_unparameterized o ≡ true
  open_return t.default h = absurd cc
  open_return (t.given x) h = open_type x h

  open_bounds : (bs : Bounds) → bounds_open bs ≡ true → bounds_unparameterized bs ≡ true
  open_bounds t.no_bounds h = absurd cc
  open_bounds (t.more_bounds d t.no_bounds) h = open_bound d h
  open_bounds (t.more_bounds d (t.more_bounds x bs)) h = open_bounds (t.more_bounds x bs) h

  open_bound : (d : BoundTree) → bound_open d ≡ true → bound_unparameterized d ≡ true
  open_bound (t.outlives w) h = absurd cc
  open_bound (t.a_trait q f l ss c) h = open_segments ss h

pub unparameterized_paths_are_last : UnparameterizedPathsAreLast
unparameterized_paths_are_last = record {
  read_back = λ several x h. sym (type_ends several x h false);
  open_ends = open_type;
}

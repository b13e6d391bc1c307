-- The last of the own tokens of a type.
use Rattle.std.proofs.Common.{◌≡◌, ℕ, zero, suc, ◌&&◌, ◌||◌, Bool, true, false, not, List, [], ◌∷◌, ◌++◌, Option, Some, None, refl, sym, ap, subst, ◌∙◌, arith}
use Rattle.std.specs.Prelude.{codes, if◌then◌else◌, nat_le}
use Rattle.std.proofs.lemmas.Bool.Decides.{nat_tests}
use Rattle.syn_lexer.specs.declared.front.Delimiter.TheVariants as del
use Rattle.syn_tokens.specs.Tok.{Tok, ident, group, inside}
use Rattle.syn_lower_spec.specs.Tree as t
use Rattle.syn_lower_spec.specs.Tree.{TypeTree, QSelfTree, Segments, ArgumentsTree, ReturnTree, Bounds, BoundTree}
use Rattle.syn_lower_spec.specs.Form.{is_nil}
use Rattle.syn_lower_spec.specs.Own.{alone, joint, before_if, before_some, comma_before, colon2_before, elements_own, lifetime_own, lifetimes_own, extern_own, count_segments, inner_count, at_most, one_less, closed_at, qself_end, no_more_segments, type_own, qself_own, segments_own, arguments_own, generics_own, return_own, args_own, bounds_own, bound_own}
use Rattle.syn_lower_spec.proofs.Appends.{type_append, segments_append, generics_append, bound_append, lifetimes_own-append, extern_append}
use Rattle.syn_expr_spec.specs.Query.{last_braces, is_braces, is_unqualified, is_all_inside, type_brace, segments_brace, arguments_brace, return_brace, bounds_brace, bound_brace}

-- Whatever comes before, the last token answers b.
pub record Fixed (l : List Tok) (b : Bool) : Type 0 where
  pub behind : (before : Bool) → last_braces before l ≡ b

pub one : (u : Tok) (l : List Tok) (b : Bool) → Fixed l b → Fixed (u ∷ l) b
one u l b f = record { behind = λ d. f.behind (is_braces u) }

-- from what comes after a first token
pub first : (u : Tok) (l : List Tok) (b : Bool) → last_braces (is_braces u) l ≡ b → Fixed (u ∷ l) b
first u l b h = record { behind = λ d. h }

pub over : (ts l : List Tok) (b : Bool) → Fixed l b → Fixed (ts ++ l) b
over [] l b f = f
over (u ∷ ts) l b f = one u (ts ++ l) b (over ts l b f)

pub through : {F : List Tok → List Tok} → ((r : List Tok) → F r ≡ F [] ++ r) → (l : List Tok) (b : Bool) → Fixed l b → Fixed (F l) b
through {F} h l b f = subst (λ m. Fixed m b) (sym (h l)) (over (F []) l b f)

pub if_there : (there : Bool) (F : List Tok → List Tok) → ((l : List Tok) (b : Bool) → Fixed l b → Fixed (F l) b)
    → (l : List Tok) (b : Bool) → Fixed l b → Fixed (before_if there F l) b
if_there true F h l b f = h l b f
if_there false F h l b f = f

pub if_some : {A : Type 0} (o : Option A) (own : A → List Tok → List Tok) → ((x : A) (l : List Tok) (b : Bool) → Fixed l b → Fixed (own x l) b)
    → (l : List Tok) (b : Bool) → Fixed l b → Fixed (before_some o own l) b
if_some None own h l b f = f
if_some (Some x) own h l b f = h x l b f

pub elements : {A : Type 0} (own : A → List Tok → List Tok) → ((x : A) (l : List Tok) (b : Bool) → Fixed l b → Fixed (own x l) b)
    → (xs : List A) (c : Bool) (l : List Tok) (b : Bool) → Fixed l b → Fixed (elements_own own comma_before xs c l) b
elements own h [] c l b f = f
elements own h (x ∷ xs) c l b f = h x _ b (if_there (not (is_nil xs) || c) comma_before (one (alone 44)) _ b (elements own h xs c l b f))

pub lifetimes : (w : List ℕ) (l : List Tok) (b : Bool) → Fixed l b → Fixed (lifetime_own w l) b
lifetimes w l b f = one (joint 39) _ b (one (ident w) l b f)

pub colons : (l : List Tok) (b : Bool) → Fixed l b → Fixed (colon2_before l) b
colons l b f = one (joint 58) _ b (one (alone 58) l b f)

pub for_lifetimes : (p : t.LifetimesTree) (l : List Tok) (b : Bool) → Fixed l b → Fixed (lifetimes_own p l) b
for_lifetimes p l b f = through {F = lifetimes_own p} (lifetimes_own-append p) l b f

-- ---- segments, the first n of them before a `>`

closed_brace : ℕ → Bool → Bool
closed_brace zero b = b
closed_brace (suc zero) b = false
closed_brace (suc (suc n)) b = b

separated_brace : Bool → Bool → Bool → Bool
separated_brace last c b = if not last || c then false else b

inside_brace : ℕ → Bool → Segments → Bool → Bool
inside_brace n before t.no_segments c = before
inside_brace n before (t.more_segments w a ss) c =
    inside_brace (one_less n) (separated_brace (no_more_segments ss) c (closed_brace n (arguments_brace a))) ss c

closes : (n : ℕ) (b : Bool) (r : List Tok) → last_braces b (closed_at n r) ≡ last_braces (closed_brace n b) r
unfolding closed_brace
closes zero b r = refl
closes (suc zero) b r = refl
closes (suc (suc n)) b r = refl

separates : (there b : Bool) (r : List Tok) → last_braces b (before_if there colon2_before r) ≡ last_braces (if there then false else b) r
separates true b r = refl
separates false b r = refl

none_inside : (before : Bool) (ss : Segments) (c : Bool) → inside_brace 0 before ss c ≡ segments_brace before ss c
unfolding inside_brace closed_brace separated_brace
none_inside before t.no_segments c = refl
none_inside before (t.more_segments w a t.no_segments) true = refl
none_inside before (t.more_segments w a t.no_segments) false = refl
none_inside before (t.more_segments w a (t.more_segments v b ss)) c = none_inside false (t.more_segments v b ss) c

fewer : (n k : ℕ) → nat_le (suc (suc n)) (suc k) ≡ true → nat_le (suc n) k ≡ true
fewer n k h = grind (arith, nat_tests)

some_inside : (n : ℕ) (before : Bool) (ss : Segments) (c : Bool) → nat_le (suc n) (count_segments ss) ≡ true → inside_brace n before ss c ≡ segments_brace before ss c
unfolding inside_brace closed_brace separated_brace
some_inside zero before ss c h = none_inside before ss c
some_inside (suc n) before t.no_segments c h = absurd (grind (arith, nat_tests))
some_inside (suc n) before (t.more_segments w a t.no_segments) c h = absurd (grind (arith, nat_tests))
some_inside (suc n) before (t.more_segments w a (t.more_segments v b ss)) c h =
    some_inside n false (t.more_segments v b ss) c (fewer n (count_segments (t.more_segments v b ss)) h)

all_inside : (before : Bool) (w : List ℕ) (a : ArgumentsTree) (ss : Segments) (c : Bool) → inside_brace (suc (count_segments ss)) before (t.more_segments w a ss) c ≡ false
unfolding inside_brace closed_brace separated_brace
all_inside before w a t.no_segments true = refl
all_inside before w a t.no_segments false = refl
all_inside before w a (t.more_segments v b ss) c = all_inside false v b ss c

pub or_less : (n k : ℕ) → nat_le k n ≡ true → at_most n k ≡ k
or_less n k h = by (nat_le n k) refl
  where
    by : (b : Bool) → nat_le n k ≡ b → (if b then n else k) ≡ k
    by true g = grind (arith, nat_tests)
    by false g = refl

pub or_more : (n k : ℕ) → nat_le k n ≡ false → (at_most n k ≡ n) × (nat_le (suc n) k ≡ true)
or_more n k h = (by (nat_le n k) refl, grind (arith, nat_tests))
  where
    by : (b : Bool) → nat_le n k ≡ b → (if b then n else k) ≡ n
    by true g = refl
    by false g = absurd (grind (arith, nat_tests))

behind_qself : (n : ℕ) (ss : Segments) (c : Bool) (b : Bool) → nat_le (count_segments ss) n ≡ b
    → inside_brace (at_most n (count_segments ss)) false ss c ≡ not b && segments_brace false ss c
unfolding inside_brace
behind_qself n t.no_segments c true h = refl
behind_qself n t.no_segments c false h = refl
behind_qself n (t.more_segments w a ss) c true h =
    ap (λ m. inside_brace m false (t.more_segments w a ss) c) (or_less n (suc (count_segments ss)) h) ∙ all_inside false w a ss c
behind_qself n (t.more_segments w a ss) c false h =
    let m = or_more n (suc (count_segments ss)) h in
    ap (λ m. inside_brace m false (t.more_segments w a ss) c) m.0 ∙ some_inside n false (t.more_segments w a ss) c m.1

before_path : (before : Bool) (q : QSelfTree) (l : Bool) (ss : Segments) (c : Bool)
    → inside_brace (inner_count q (count_segments ss)) (before && (is_unqualified q && not l)) ss c
    ≡ not (is_all_inside q (count_segments ss)) && segments_brace (before && (is_unqualified q && not l)) ss c
before_path before t.no_qself l ss c = none_inside _ ss c
before_path true (t.qself x n a) l ss c = behind_qself n ss c _ refl
before_path false (t.qself x n a) l ss c = behind_qself n ss c _ refl

-- ---- types

qself_closes : (n : ℕ) (l : List Tok) (b : Bool) → last_braces false l ≡ b → Fixed (qself_end n l) b
qself_closes zero l b h = first (alone 62) l b h
qself_closes (suc n) l b h = first (ident (codes "as")) l b h

led : (l : Bool) (m : List Tok) (b : Bool) → last_braces false m ≡ b → last_braces false (before_if l colon2_before m) ≡ b
led true m b h = h
led false m b h = h

-- before the segments of a path
headed : (before : Bool) (q : QSelfTree) (k : ℕ) (l : Bool) (m : List Tok)
    → last_braces before (qself_own q k (before_if l colon2_before m)) ≡ last_braces (before && (is_unqualified q && not l)) m
headed true t.no_qself k true m = refl
headed false t.no_qself k true m = refl
headed true t.no_qself k false m = refl
headed false t.no_qself k false m = refl
headed true (t.qself x n a) k l m = (through {F = type_own x} (type_append x) _ _ (qself_closes (at_most n k) _ _ (led l m _ refl))).behind false
headed false (t.qself x n a) k l m = (through {F = type_own x} (type_append x) _ _ (qself_closes (at_most n k) _ _ (led l m _ refl))).behind false

words_last : (a : Option (List ℕ)) (m : Bool) (l : List Tok) (b : Bool) → last_braces false l ≡ b
    → last_braces false (before_some a lifetime_own (before_if m (λ u. ident (codes "mut") ∷ u) l)) ≡ b
words_last None true l b h = h
words_last None false l b h = h
words_last (Some w) true l b h = h
words_last (Some w) false l b h = h

for_last : (p : t.LifetimesTree) (m : List Tok) → Fixed (lifetimes_own p m) (last_braces false m)
unfolding lifetimes_own
for_last p m = one _ _ _ (one _ _ _ (elements lifetime_own lifetimes p.0 p.1 (alone 62 ∷ m) _ (first (alone 62) m _ refl)))

for_none : (f : Option t.LifetimesTree) (m : List Tok) (b : Bool) → last_braces false m ≡ b → last_braces false (before_some f lifetimes_own m) ≡ b
for_none None m b h = h
for_none (Some p) m b h = (for_last p m).behind false ∙ h

trait_last : (q : Bool) (f : Option t.LifetimesTree) (l : Bool) (m : List Tok) (b : Bool) → last_braces false m ≡ b
    → last_braces false (before_if q (λ u. alone 63 ∷ u) (before_some f lifetimes_own (before_if l colon2_before m))) ≡ b
trait_last true f l m b h = for_none f _ b (led l m b h)
trait_last false f l m b h = for_none f _ b (led l m b h)

mutual
  unfolding inside_brace separated_brace

  pub type_last : (before : Bool) (x : TypeTree) (r : List Tok) → last_braces before (type_own x r) ≡ last_braces (type_brace before x) r
  type_last before (t.path q l ss c) r =
      headed before q (count_segments ss) l _ ∙ segments_last (inner_count q (count_segments ss)) (before && (is_unqualified q && not l)) ss c r
      ∙ ap (λ b. last_braces b r) (before_path before q l ss c)
  type_last before (t.mac l ss c d ts) r =
      (if_there l colon2_before colons _ _
      (through {F = segments_own 0 ss c} (segments_append 0 ss c) _ _ (one (alone 33) _ _ (first (group d (inside ts)) r _ refl)))).behind before
  type_last before (t.reference a m x) r = words_last a m _ _ (type_last false x r)
  type_last before (t.ptr m x) r = type_last false x r
  type_last before (t.fn_ptr f u a xs c o) r =
      (if_some f lifetimes_own for_lifetimes _ _ (if_there u (λ l. ident (codes "unsafe") ∷ l) (one (ident (codes "unsafe"))) _ _
      (if_some a extern_own (λ x m b g. through {F = extern_own x} (extern_append x) m b g) _ _
      (one (ident (codes "fn")) _ _ (first (group del.Parenthesis (inside (args_own xs c []))) _ _ (return_last o r)))))).behind before
  type_last before (t.impl_trait bs c) r = bounds_last bs c r
  type_last before (t.trait_object bs c) r = bounds_last bs c r
  type_last before _ r = refl

  segments_last : (n : ℕ) (before : Bool) (ss : Segments) (c : Bool) (r : List Tok) → last_braces before (segments_own n ss c r) ≡ last_braces (inside_brace n before ss c) r
  segments_last n before t.no_segments c r = refl
  segments_last n before (t.more_segments w a ss) c r =
      arguments_last a _ ∙ closes n (arguments_brace a) _ ∙ separates (not (no_more_segments ss) || c) (closed_brace n (arguments_brace a)) _
      ∙ segments_last (one_less n) _ ss c r

  pub arguments_last : (a : ArgumentsTree) (r : List Tok) → last_braces false (arguments_own a r) ≡ last_braces (arguments_brace a) r
  arguments_last t.no_arguments r = refl
  arguments_last (t.angle l gs c) r =
      (if_there l colon2_before colons _ _
      (one (alone 60) _ _ (through {F = generics_own gs c} (generics_append gs c) _ _ (first (alone 62) r _ refl)))).behind false
  arguments_last (t.round xs c o) r = return_last o r

  pub return_last : (o : ReturnTree) (r : List Tok) → last_braces false (return_own o r) ≡ last_braces (return_brace o) r
  return_last t.default r = refl
  return_last (t.given x) r = type_last false x r

  bounds_last : (bs : Bounds) (c : Bool) (r : List Tok) → last_braces false (bounds_own bs c r) ≡ last_braces (bounds_brace bs c) r
  bounds_last t.no_bounds c r = refl
  bounds_last (t.more_bounds b t.no_bounds) true r = (through {F = bound_own b} (bound_append b) _ _ (first (alone 43) r _ refl)).behind false
  bounds_last (t.more_bounds b t.no_bounds) false r = bound_last b r
  bounds_last (t.more_bounds b (t.more_bounds d bs)) c r =
      (through {F = bound_own b} (bound_append b) _ _ (first (alone 43) _ _ (bounds_last (t.more_bounds d bs) c r))).behind false

  bound_last : (b : BoundTree) (r : List Tok) → last_braces false (bound_own b r) ≡ last_braces (bound_brace b) r
  bound_last (t.outlives w) r = refl
  bound_last (t.a_trait q f l ss c) r = trait_last q f l _ _ (segments_last 0 false ss c r ∙ ap (λ b. last_braces b r) (none_inside false ss c))

-- Own tokens before others.
use Rattle.std.proofs.Common.{◌≡◌, ℕ, zero, suc, ◌==◌, ◌||◌, Bool, true, false, not, List, [], ◌∷◌, ◌++◌, Option, Some, None, refl, sym, ap, ◌∙◌, append_assoc}
use Rattle.std.proofs.lemmas.List.{append-nil}
use Rattle.std.specs.Prelude.{codes, if◌then◌else◌}
use Rattle.syn_lexer.specs.declared.front.Delimiter.{Delimiter}
use Rattle.syn_lexer.specs.declared.front.Delimiter.TheVariants as del
use Rattle.syn_tokens.specs.Tok.{Tok, ident, literal}
use Rattle.syn_lower_spec.specs.declared.label.LitKind.{LitKind}
use Rattle.syn_lower_spec.specs.declared.label.LitKind.TheVariants as kind
use Rattle.syn_lower_spec.specs.Text.{Text}
use Rattle.syn_lower_spec.specs.Tree as t
use Rattle.syn_lower_spec.specs.Tree.{LitTree, LifetimesTree, TypeTree, QSelfTree, Segments, ArgumentsTree, Generics, GenericTree, ReturnTree, Bounds, BoundTree}
use Rattle.syn_lower_spec.specs.Own.{alone, joint, before_if, before_some, comma_before, colon2_before, closed_at, qself_end, lifetime_own, lifetimes_own, lit_own, lit_own_by, number_own, string_own, extern_own, enclosed, count_segments, inner_count, at_most, no_more_segments, no_more_generics, no_more_bounds, type_own, types_own, qself_own, segments_own, arguments_own, generics_own, generic_own, return_own, args_own, bounds_own, bound_own, elements_own, one_less}

-- ---- what follows the own tokens of a type follows them as they are

pub both : {F G : List Tok → List Tok} → ((r : List Tok) → F r ≡ F [] ++ r) → ((r : List Tok) → G r ≡ G [] ++ r) → (r : List Tok) → F (G r) ≡ F (G []) ++ r
both {F} {G} f g r =
    f (G r) ∙ ap (λ m. F [] ++ m) (g r) ∙ sym (append_assoc (F []) (G []) r) ∙ ap (λ m. m ++ r) (sym (f (G [])))

pub one : (t : Tok) (r : List Tok) → t ∷ r ≡ (t ∷ []) ++ r
one t r = refl

pub if_there : (b : Bool) {F : List Tok → List Tok} → ((r : List Tok) → F r ≡ F [] ++ r) → (r : List Tok) → before_if b F r ≡ before_if b F [] ++ r
if_there true f r = f r
if_there false f r = refl

pub if_some : {A : Type 0} (o : Option A) (own : A → List Tok → List Tok) → ((x : A) (r : List Tok) → own x r ≡ own x [] ++ r) → (r : List Tok) → before_some o own r ≡ before_some o own [] ++ r
if_some None own h r = refl
if_some (Some x) own h r = h x r

commas : (r : List Tok) → comma_before r ≡ comma_before [] ++ r
commas r = refl

colons : (r : List Tok) → colon2_before r ≡ colon2_before [] ++ r
colons r = refl

closes : (n : ℕ) (r : List Tok) → closed_at n r ≡ closed_at n [] ++ r
closes zero r = refl
closes (suc zero) r = refl
closes (suc (suc n)) r = refl

qself_closes : (n : ℕ) (r : List Tok) → qself_end n r ≡ qself_end n [] ++ r
qself_closes zero r = refl
qself_closes (suc n) r = refl

numbers_append : (text : Text) (r : List Tok) → number_own text r ≡ number_own text [] ++ r
numbers_append [] r = refl
numbers_append (c ∷ text) r = by (c == 45)
  where
    by : (b : Bool) → (if b then alone 45 ∷ literal text ∷ r else literal (c ∷ text) ∷ r) ≡ (if b then alone 45 ∷ literal text ∷ [] else literal (c ∷ text) ∷ []) ++ r
    by true = refl
    by false = refl

lit_by_append : (k : LitKind) (text : Text) (r : List Tok) → lit_own_by k text r ≡ lit_own_by k text [] ++ r
lit_by_append kind.Int text r = numbers_append text r
lit_by_append kind.Float text r = numbers_append text r
lit_by_append _ text r = refl

pub lit_append : (x : LitTree) (r : List Tok) → lit_own x r ≡ lit_own x [] ++ r
unfolding lit_own
lit_append x r = lit_by_append x.kind x.text r

string_append : (o : Option LitTree) (r : List Tok) → string_own o r ≡ string_own o [] ++ r
string_append None r = refl
string_append (Some x) r = lit_append x r

pub extern_append : (o : Option LitTree) (r : List Tok) → extern_own o r ≡ extern_own o [] ++ r
extern_append o r = ap (λ m. ident (codes "extern") ∷ m) (string_append o r)

listed_append : (xs : List Text) (e : Bool) (r : List Tok) → elements_own lifetime_own comma_before xs e r ≡ elements_own lifetime_own comma_before xs e [] ++ r
listed_append [] e r = refl
listed_append (x ∷ []) e r = ap (λ m. joint 39 ∷ ident x ∷ m) (if_there e commas r)
listed_append (x ∷ y ∷ xs) e r = ap (λ m. joint 39 ∷ ident x ∷ alone 44 ∷ m) (listed_append (y ∷ xs) e r)

pub lifetimes_own-append : (p : LifetimesTree) (r : List Tok) → lifetimes_own p r ≡ lifetimes_own p [] ++ r
unfolding lifetimes_own
lifetimes_own-append p r = ap (λ m. ident (codes "for") ∷ alone 60 ∷ m) (both {F = λ m. elements_own lifetime_own comma_before p.0 p.1 m} {G = λ m. alone 62 ∷ m} (listed_append p.0 p.1) (λ m. refl) r)

word_first : (w : Text) (r : List Tok) → ident w ∷ r ≡ (ident w ∷ []) ++ r
word_first w r = refl

pub lifetime_append : (w : Text) (r : List Tok) → lifetime_own w r ≡ lifetime_own w [] ++ r
lifetime_append w r = refl

pub group_first : (d : Delimiter) (ts r : List Tok) → enclosed d ts r ≡ enclosed d ts [] ++ r
group_first d ts r = refl

pub verbatim_append : (ts r : List Tok) → ts ++ r ≡ (ts ++ []) ++ r
verbatim_append ts r = ap (λ m. m ++ r) (sym (append-nil ts))

mutual
  pub type_append : (x : TypeTree) (r : List Tok) → type_own x r ≡ type_own x [] ++ r
  type_append (t.path q b ss e) r = both (qself_append q (count_segments ss)) (both (if_there b colons) (segments_append (inner_count q (count_segments ss)) ss e)) r
  type_append (t.mac b ss e d ts) r = both (if_there b colons) (both (segments_append 0 ss e) (both (one (alone 33)) (group_first d ts))) r
  type_append (t.reference a m x) r = both (one (alone 38)) (both (if_some a lifetime_own lifetime_append) (both (if_there m (word_first (codes "mut"))) (type_append x))) r
  type_append (t.ptr m x) r = both (one (alone 42)) (both (word_first (if m then codes "mut" else codes "const")) (type_append x)) r
  type_append (t.fn_ptr f u a xs e o) r =
      both (if_some f lifetimes_own lifetimes_own-append) (both (if_there u (word_first (codes "unsafe"))) (both (if_some a extern_own extern_append)
      (both (word_first (codes "fn")) (both (group_first del.Parenthesis (args_own xs e [])) (return_append o))))) r
  type_append (t.impl_trait bs e) r = both (word_first (codes "impl")) (bounds_append bs e) r
  type_append (t.trait_object bs e) r = both (word_first (codes "dyn")) (bounds_append bs e) r
  type_append _ r = refl

  pub qself_append : (q : QSelfTree) (k : ℕ) (r : List Tok) → qself_own q k r ≡ qself_own q k [] ++ r
  qself_append t.no_qself k r = refl
  qself_append (t.qself x n a) k r = both (one (alone 60)) (both (type_append x) (qself_closes (at_most n k))) r

  pub segments_append : (n : ℕ) (ss : Segments) (e : Bool) (r : List Tok) → segments_own n ss e r ≡ segments_own n ss e [] ++ r
  segments_append n t.no_segments e r = refl
  segments_append n (t.more_segments w a ss) e r =
      both (word_first w) (both (arguments_append a) (both (closes n) (both (if_there (not (no_more_segments ss) || e) colons) (segments_append (one_less n) ss e)))) r

  pub arguments_append : (a : ArgumentsTree) (r : List Tok) → arguments_own a r ≡ arguments_own a [] ++ r
  arguments_append t.no_arguments r = refl
  arguments_append (t.angle c gs e) r = both (if_there c colons) (both (one (alone 60)) (both (generics_append gs e) (one (alone 62)))) r
  arguments_append (t.round xs e o) r = both (group_first del.Parenthesis (types_own xs e [])) (return_append o) r

  pub generics_append : (gs : Generics) (e : Bool) (r : List Tok) → generics_own gs e r ≡ generics_own gs e [] ++ r
  generics_append t.no_generics e r = refl
  generics_append (t.more_generics g gs) e r = both (generic_append g) (both (if_there (not (no_more_generics gs) || e) commas) (generics_append gs e)) r

  pub generic_append : (g : GenericTree) (r : List Tok) → generic_own g r ≡ generic_own g [] ++ r
  generic_append (t.a_lifetime w) r = refl
  generic_append (t.a_const ts) r = verbatim_append ts r
  generic_append (t.an_assoc w x) r = both (word_first w) (both (one (alone 61)) (type_append x)) r
  generic_append (t.a_type x) r = type_append x r

  pub return_append : (o : ReturnTree) (r : List Tok) → return_own o r ≡ return_own o [] ++ r
  return_append t.default r = refl
  return_append (t.given x) r = both (one (joint 45)) (both (one (alone 62)) (type_append x)) r

  pub bounds_append : (bs : Bounds) (e : Bool) (r : List Tok) → bounds_own bs e r ≡ bounds_own bs e [] ++ r
  bounds_append t.no_bounds e r = refl
  bounds_append (t.more_bounds b bs) e r = both (bound_append b) (both (if_there (not (no_more_bounds bs) || e) (one (alone 43))) (bounds_append bs e)) r

  pub bound_append : (b : BoundTree) (r : List Tok) → bound_own b r ≡ bound_own b [] ++ r
  bound_append (t.outlives w) r = refl
  bound_append (t.a_trait q f b ss e) r =
      both (if_there q (one (alone 63))) (both (if_some f lifetimes_own lifetimes_own-append) (both (if_there b colons) (segments_append 0 ss e))) r

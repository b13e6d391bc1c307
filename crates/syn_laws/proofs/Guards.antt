-- Guards are beside a pattern's tree, from left to right, as many as it has places for: so the tree of a list of patterns
-- and the guards of all tell the guards of each.
use Rattle.std.proofs.Common.{◌≡◌, ℕ, ◌+◌, Bool, true, false, List, [], ◌∷◌, ◌++◌, map, flat_map, length, refl, sym, ◌∙◌, ap}
use Rattle.std.proofs.lemmas.List.{length-append}
use Rattle.syn_lower_spec.specs.Tree.{AttributeTree}
use Rattle.syn_lower_spec.specs.Pat as t
use Rattle.syn_lower_spec.specs.Pat.{PatTree, SubPat, Pats, Fields, FieldTree}
use Rattle.syn_expr_spec.specs.Tree.{Tree}
use Rattle.syn_pat.specs.View.{PatView, attributed_by}

-- ---- the places for guards

unfoldable mutual
  pub places : PatTree → ℕ
  places (t.a_binding r m w s) = sub_places s
  places (t.a_struct p fs e d) = fields_places fs
  places (t.tuple_struct p ps e) = pats_places ps
  places (t.a_tuple ps e) = pats_places ps
  places (t.a_paren p) = places p
  places (t.a_slice ps e) = pats_places ps
  places (t.a_reference m p) = places p
  places (t.alternatives l ps e) = pats_places ps
  places (t.guarded p) = places p + 1
  places (t.typed p ty) = places p
  places (t.attributed a more p) = places p
  places _ = 0

  pub sub_places : SubPat → ℕ
  sub_places t.no_sub = 0
  sub_places (t.sub p) = places p

  pub pats_places : Pats → ℕ
  pats_places t.no_pats = 0
  pats_places (t.more_pats p ps) = places p + pats_places ps

  pub fields_places : Fields → ℕ
  fields_places t.no_fields = 0
  fields_places (t.more_fields a f fs) = field_places f + fields_places fs

  pub field_places : FieldTree → ℕ
  field_places (t.short r m w) = 0
  field_places (t.full m p) = places p

-- a guard for each place
abbrev pub IsFilled : PatView → Type 0
IsFilled v = length v.guards ≡ places v.tree

-- ---- lists of patterns

pub split : (gs hs more rest : List Tree) → length gs ≡ length hs → gs ++ more ≡ hs ++ rest → (gs ≡ hs) × (more ≡ rest)
split [] [] more rest l h = (refl, h)
split [] (y ∷ hs) more rest l h = absurd cc
split (x ∷ gs) [] more rest l h = absurd cc
split (x ∷ gs) (y ∷ hs) more rest l h = let r = split gs hs more rest (cc) (cc) in let p : gs ≡ hs = r.0 in let q : x ≡ y = cc in (cc, r.1)

pub view_path : (v w : PatView) → v.tree ≡ w.tree → v.guards ≡ w.guards → v ≡ w
view_path v w a b = λ i. record { tree = a i; guards = b i }

module _ {P : Type 0} (g : P → PatView) (filled : (p : P) → IsFilled (g p)) where
  pub views_once : (xs ys : List P) → map (λ p. (g p).tree) xs ≡ map (λ p. (g p).tree) ys → flat_map (λ p. (g p).guards) xs ≡ flat_map (λ p. (g p).guards) ys → map g xs ≡ map g ys
  views_once [] [] a b = refl
  views_once [] (y ∷ ys) a b = absurd cc
  views_once (x ∷ xs) [] a b = absurd cc
  views_once (x ∷ xs) (y ∷ ys) a b =
      let p : (g x).tree ≡ (g y).tree = cc in
      let q : map (λ p. (g p).tree) xs ≡ map (λ p. (g p).tree) ys = cc in
      let r = split (g x).guards (g y).guards (flat_map (λ p. (g p).guards) xs) (flat_map (λ p. (g p).guards) ys) (filled x ∙ (ap places p ∙ sym (filled y))) b in
      let v = view_path (g x) (g y) p r.0 in let w = views_once xs ys q r.1 in λ i. v i ∷ w i

  pub filled-all : (xs : List P) → length (flat_map (λ p. (g p).guards) xs) ≡ pats_places (t.pats_of (map (λ p. (g p).tree) xs))
  unfolding pats_places
  filled-all [] = refl
  filled-all (x ∷ xs) = length-append (g x).guards (flat_map (λ p. (g p).guards) xs) ∙ (λ i. filled x i + filled-all xs i)

-- ---- attributes before a pattern

abbrev pub is_bare : PatTree → Bool
is_bare (t.attributed a more p) = false
is_bare _ = true

pub attributed_once : (a b : List AttributeTree) (p q : PatTree) → is_bare p ≡ true → is_bare q ≡ true → attributed_by a p ≡ attributed_by b q → (a ≡ b) × (p ≡ q)
attributed_once [] [] p q k l h = (refl, h)
attributed_once [] (b ∷ bs) p q k l h = absurd (let m : true ≡ false = sym k ∙ ap is_bare h in cc)
attributed_once (a ∷ ms) [] p q k l h = absurd (let m : false ≡ true = ap is_bare h ∙ l in cc)
attributed_once (a ∷ ms) (b ∷ bs) p q k l h = (cc, cc)

pub places-behind : (a : List AttributeTree) (p : PatTree) → places (attributed_by a p) ≡ places p
unfolding places
places-behind [] p = refl
places-behind (a ∷ ms) p = refl

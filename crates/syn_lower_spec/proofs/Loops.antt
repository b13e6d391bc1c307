-- One turn of a loop that reads a list with separators.
use Rattle.std.proofs.Common.{◌≡◌, ℕ, Bool, true, false, cond, List, [], ◌∷◌, ◌++◌, drop, Some, None, refl, ap, sym, ◌∙◌, append_assoc}
use Rattle.std.proofs.lemmas.List.{append-nil}
use Rattle.syn_tokens.specs.Tok.{Tok}
use Rattle.syn_lower_spec.specs.Form.{Form, Outcome, Test, Mark, and_then, tail, listed, more, joined, extend, gathered, extend_more, gathered_more, both, shown, cons, uncons, prepend, split_first}
use Rattle.syn_lower_spec.proofs.Forms.{Alike, Present, tail_is, more_is}

module _ {A : Type 0} (m : Mark) (stop : Test) (f : Form A) (p : Present m) (a : (k : ℕ) → Alike k f f) where
  pub turn : (found : List A) (l : List Tok) → gathered m stop f found l
      ≡ cond (m.at l) (cond (stop (drop m.count l)) (Some ((found, true), drop m.count l)) (and_then (f.reads (drop m.count l)) (λ x n. gathered m stop f (found ++ x ∷ []) n))) (Some ((found, false), l))
  unfolding gathered
  turn found l = ap (extend found) (tail_is m stop f p a l) ∙ by_mark (m.at l)
    where
      by_rest : (x : A) (o : Outcome (List A × Bool)) → extend found (and_then {B = List A × Bool} (and_then {B = A × (List A × Bool)} o (λ y n. Some ((x, y), n))) (λ y n. Some (cons y, n))) ≡ extend (found ++ x ∷ []) o
      by_rest x None = refl
      by_rest x (Some q) = ap (λ z. Some ((z, q.0.1), q.1)) (sym (append_assoc found (x ∷ []) q.0.0))

      by_first : (o : Outcome A) → extend found (and_then {B = List A × Bool} (and_then {B = A × (List A × Bool)} o (λ x n. and_then ((tail m stop f).reads n) (λ y u. Some ((x, y), u)))) (λ y n. Some (cons y, n)))
          ≡ and_then o (λ x n. extend (found ++ x ∷ []) ((tail m stop f).reads n))
      by_first None = refl
      by_first (Some q) = by_rest q.0 ((tail m stop f).reads q.1)

      by_stop : (b : Bool) → extend found (cond b (Some (([], true), drop m.count l)) ((shown cons uncons (both f (tail m stop f))).reads (drop m.count l)))
          ≡ cond b (Some ((found, true), drop m.count l)) (and_then (f.reads (drop m.count l)) (λ x n. extend (found ++ x ∷ []) ((tail m stop f).reads n)))
      by_stop true = ap (λ z. Some ((z, true), drop m.count l)) (append-nil found)
      by_stop false = by_first (f.reads (drop m.count l))

      by_mark : (b : Bool) → extend found (cond b (cond b (cond (stop (drop m.count l)) (Some (([], true), drop m.count l)) ((shown cons uncons (both f (tail m stop f))).reads (drop m.count l))) None) (Some (([], false), l)))
          ≡ cond b (cond (stop (drop m.count l)) (Some ((found, true), drop m.count l)) (and_then (f.reads (drop m.count l)) (λ x n. extend (found ++ x ∷ []) ((tail m stop f).reads n)))) (Some ((found, false), l))
      by_mark true = by_stop (stop (drop m.count l))
      by_mark false = ap (λ z. Some ((z, false), l)) (append-nil found)

  pub start : (l : List Tok) → (listed m stop f).reads l ≡ cond (stop l) (Some (([], false), l)) (and_then (f.reads l) (λ x n. gathered m stop f (x ∷ []) n))
  unfolding listed gathered
  start l = by_stop (stop l)
    where
      by_rest : (x : A) (o : Outcome (List A × Bool)) → and_then {B = List A × Bool} (and_then {B = A × (List A × Bool)} o (λ y n. Some ((x, y), n))) (λ y n. Some (cons y, n)) ≡ extend (x ∷ []) o
      by_rest x None = refl
      by_rest x (Some q) = refl

      by_first : (o : Outcome A) → and_then {B = List A × Bool} (and_then {B = A × (List A × Bool)} o (λ x n. and_then ((tail m stop f).reads n) (λ y u. Some ((x, y), u)))) (λ y n. Some (cons y, n))
          ≡ and_then o (λ x n. extend (x ∷ []) ((tail m stop f).reads n))
      by_first None = refl
      by_first (Some q) = by_rest q.0 ((tail m stop f).reads q.1)

      by_stop : (b : Bool) → cond b (Some (([], false), l)) ((shown cons uncons (both f (tail m stop f))).reads l) ≡ cond b (Some (([], false), l)) (and_then (f.reads l) (λ x n. extend (x ∷ []) ((tail m stop f).reads n)))
      by_stop true = refl
      by_stop false = by_first (f.reads l)

module _ {A : Type 0} (m : Mark) (f : Form A) (p : Present m) (a : (k : ℕ) → Alike k f f) where
  pub more_turn : (found : List A) (l : List Tok) → gathered_more m f found l
      ≡ cond (m.at l) (and_then (f.reads (drop m.count l)) (λ x n. gathered_more m f (found ++ x ∷ []) n)) (Some (found, l))
  unfolding gathered_more
  more_turn found l = ap (extend_more found) (more_is m f p a l) ∙ by_mark (m.at l)
    where
      by_rest : (x : A) (o : Outcome (List A)) → extend_more found (and_then {B = List A} (and_then {B = A × List A} o (λ y n. Some ((x, y), n))) (λ y n. Some (prepend y, n))) ≡ extend_more (found ++ x ∷ []) o
      by_rest x None = refl
      by_rest x (Some q) = ap (λ z. Some (z, q.1)) (sym (append_assoc found (x ∷ []) q.0))

      by_first : (o : Outcome A) → extend_more found (and_then {B = List A} (and_then {B = A × List A} o (λ x n. and_then ((more m f).reads n) (λ y u. Some ((x, y), u)))) (λ y n. Some (prepend y, n)))
          ≡ and_then o (λ x n. extend_more (found ++ x ∷ []) ((more m f).reads n))
      by_first None = refl
      by_first (Some q) = by_rest q.0 ((more m f).reads q.1)

      by_mark : (b : Bool) → extend_more found (cond b (cond b ((shown prepend split_first (both f (more m f))).reads (drop m.count l)) None) (Some ([], l)))
          ≡ cond b (and_then (f.reads (drop m.count l)) (λ x n. extend_more (found ++ x ∷ []) ((more m f).reads n))) (Some (found, l))
      by_mark true = by_first (f.reads (drop m.count l))
      by_mark false = ap (λ z. Some (z, l)) (append-nil found)

  pub joined_start : (l : List Tok) → (joined m f).reads l ≡ and_then (f.reads l) (λ x n. gathered_more m f (x ∷ []) n)
  unfolding gathered_more
  joined_start l = by_first (f.reads l)
    where
      by_rest : (x : A) (o : Outcome (List A)) → and_then {B = List A} (and_then {B = A × List A} o (λ y n. Some ((x, y), n))) (λ y n. Some (prepend y, n)) ≡ extend_more (x ∷ []) o
      by_rest x None = refl
      by_rest x (Some q) = refl

      by_first : (o : Outcome A) → and_then {B = List A} (and_then {B = A × List A} o (λ x n. and_then ((more m f).reads n) (λ y u. Some ((x, y), u)))) (λ y n. Some (prepend y, n))
          ≡ and_then o (λ x n. extend_more (x ∷ []) ((more m f).reads n))
      by_first None = refl
      by_first (Some q) = by_rest q.0 ((more m f).reads q.1)

  pub more_start : (l : List Tok) → (more m f).reads l ≡ gathered_more m f [] l
  unfolding gathered_more
  more_start l = by_all ((more m f).reads l)
    where
      by_all : (o : Outcome (List A)) → o ≡ extend_more [] o
      by_all None = refl
      by_all (Some q) = refl

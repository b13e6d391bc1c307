-- What attributes and trailers begin with, and trailers after a base: what stands is read.
use Rattle.std.specs.Prelude.{not, ◌||◌, ◌&&◌}
use Rattle.std.proofs.Common.{◌≡◌, ℕ, zero, suc, Bool, true, false, cond, ⊎_elim, List, [], ◌∷◌, drop, codes, Option, Some, None, refl, ap, ◌∙◌, subst}
use Rattle.std.proofs.lemmas.Bool.{and_parts, or_parts, not-true}
use Rattle.syn_lexer.specs.declared.front.Delimiter.TheVariants as del
use Rattle.syn_lexer.specs.declared.front.Delimiter.{Delimiter}
use Rattle.syn_lexer.specs.declared.front.Spacing.{Spacing}
use Rattle.syn_lexer.specs.declared.front.Spacing.TheVariants as spacing
use Rattle.syn_tokens.specs.Tok.{Tok, literal, punct, weight}
use Rattle.syn_tokens.specs.Front.{group_at}
use Rattle.syn_tokens.specs.Floats.{float_parts}
use Rattle.syn_lower_spec.specs.Form.{then_behind, more, more_step, fix, iterate, split_first, is_nil}
use Rattle.syn_lower_spec.specs.Tree.{AttributeTree}
use Rattle.syn_lower_spec.specs.Mark.{sign_at, round_at, pound}
use Rattle.syn_lower_spec.specs.Part.{outer_attributes, outer_body}
use Rattle.syn_lower_spec.specs.Pat.{an_index}
use Rattle.syn_lower_spec.proofs.Ends.{sign_first}
use Rattle.syn_lower_spec.proofs.Weights.{some_is}
use Rattle.syn_lower_spec.proofs.Forms.{behind_some}
use Rattle.syn_expr_spec.specs.declared.kinds.Place.{Place}
use Rattle.syn_expr_spec.specs.Front.{bracket_at, question_at, dot_at, trailer_at}
use Rattle.syn_expr_spec.specs.Tree as tr
use Rattle.syn_expr_spec.specs.Tree.{Tree, Children, Trailer, tail}
use Rattle.syn_expr_spec.specs.Head.{dotted}
use Rattle.syn_expr_spec.specs.Slot as s
use Rattle.syn_expr_spec.specs.Slot.{Slot, trailer_holder}
use Rattle.syn_expr_spec.specs.Stands.{Content, holds_within, closes, goes_behind, carries, rests, is_attributed, is_pounded, fits_base, is_base, is_call, is_named_field, is_parenthesis_or_bracket, trailer_head, fields_head, name_at, indices_at, steps_of, open_steps, closed_steps, named_behind, with_steps, fields_of}
use Rattle.syn_expr_spec.specs.Read.{Reading, content, trailed}
use Rattle.syn_expr_spec.proofs.Chains.{only_some, chosen}
use Rattle.syn_expr_spec.proofs.Needs.{heads}
use Rattle.syn_expr_spec.proofs.Sound.{group_is}
use Rattle.syn_expr_spec.proofs.Fronts.{second_true, first_true}

-- ---- attributes

pub pound_there : (a : AttributeTree) (ats : List AttributeTree) (l m : List Tok) → outer_attributes.behind (a ∷ ats) l ≡ Some m → pound.at l ≡ true
unfolding outer_attributes more fix iterate
pound_there a ats l m g = ⊎_elim (λ j. j.0) (λ j. absurd cc) (chosen (pound.at l) _ None (Some m) g)

iterated : (n : ℕ) (ats : List AttributeTree) (l m : List Tok) → (iterate (more_step pound outer_body) n tt).behind ats l ≡ Some m → pound.at m ≡ false
unfolding iterate
iterated zero ats l m g = absurd cc
iterated (suc n) ats l m g = by_test (pound.at l) refl (λ xs i h. iterated n xs i m h) g
  where
    by_parts : (o : Option (AttributeTree × List AttributeTree)) → ((xs : List AttributeTree) (i : List Tok) → (iterate (more_step pound outer_body) n tt).behind xs i ≡ Some m → pound.at m ≡ false)
        → then_behind o (λ z. then_behind (outer_body.behind z.0 (drop 1 l)) ((iterate (more_step pound outer_body) n tt).behind z.1)) ≡ Some m → pound.at m ≡ false
    by_parts None again h = absurd cc
    by_parts (Some z) again h = let (i, a, b) = behind_some (outer_body.behind z.0 (drop 1 l)) _ m h in again z.1 i b

    by_test : (b : Bool) → pound.at l ≡ b → ((xs : List AttributeTree) (i : List Tok) → (iterate (more_step pound outer_body) n tt).behind xs i ≡ Some m → pound.at m ≡ false)
        → cond b (cond b (then_behind (split_first ats) (λ z. then_behind (outer_body.behind z.0 (drop 1 l)) ((iterate (more_step pound outer_body) n tt).behind z.1))) None) (cond (is_nil ats) (Some l) None) ≡ Some m → pound.at m ≡ false
    by_test true v again h = by_parts (split_first ats) again h
    by_test false v again h = let (a, b) = only_some (is_nil ats) (Some l) m h in subst (λ z. pound.at z ≡ false) (some_is b) v

pub pound_behind : (ats : List AttributeTree) (l m : List Tok) → outer_attributes.behind ats l ≡ Some m → pound.at m ≡ false
unfolding outer_attributes more fix
pound_behind ats l m g = iterated (suc (weight l)) ats l m g

-- ---- trailers

pub record Dotted (m : List Tok) : Type 0 where
  pub no_round : round_at m ≡ false
  pub no_bracket : bracket_at m ≡ false
  pub no_question : question_at m ≡ false

dot_first : (s : Spacing) (m : List Tok) → Dotted (punct 46 s ∷ m)
unfolding round_at bracket_at group_at question_at sign_at
dot_first spacing.Alone m = record { no_round = refl; no_bracket = refl; no_question = refl }
dot_first spacing.Joint m = record { no_round = refl; no_bracket = refl; no_question = refl }

dot_front : (m : List Tok) → dot_at m ≡ true → Dotted m
unfolding dot_at
dot_front m g = let (a, b) = and_parts (sign_at (codes ".") m) _ g in sign_first 46 [] (λ z. Dotted z) dot_first m a

question_front : (m : List Tok) → question_at m ≡ true → (round_at m ≡ false) × (bracket_at m ≡ false)
unfolding question_at round_at bracket_at group_at
question_front m g = sign_first 63 [] (λ z. (round_at z ≡ false) × (bracket_at z ≡ false)) (λ s n. (refl, refl)) m g

bracket_group : (m i n : List Tok) → group_at del.Bracket m ≡ Some (i, n) → (round_at m ≡ false) × (bracket_at m ≡ true)
unfolding round_at bracket_at group_at
bracket_group m i n g = let (j, v, w) = group_is del.Bracket m i n g in rw v (refl, refl)

round_group : (m i n : List Tok) → group_at del.Parenthesis m ≡ Some (i, n) → round_at m ≡ true
unfolding round_at
round_group m i n g = rw g refl

content_group : {d : Delimiter} {v : Slot} {b : Bool} {l n : List Tok} {ks : Children} → Content (s.within d v b) l ks n → (i : List Tok) × (group_at d l ≡ Some (i, n))
content_group (holds_within {i = i} g o f) = (i, g)

name_no_index : (l : List Tok) (q : List ℕ × List Tok) → name_at l ≡ Some q → indices_at l ≡ None
unfolding name_at indices_at
name_no_index (literal t ∷ l) q g = by_steps (steps_of (float_parts t)) g
  where
    by_steps : (o : Option (List ℕ × Bool)) → open_steps o l ≡ Some q → closed_steps o l ≡ None
    by_steps None h = refl
    by_steps (Some (is, true)) h = refl
    by_steps (Some (is, false)) h = absurd cc
name_no_index _ q g = refl

pub record Base (b : Tree) : Type 0 where
  pub carrying : carries b ≡ true
  pub bare : is_attributed b ≡ false
  pub no_pound : is_pounded b ≡ false

pub base_is : (p : Place) (t : Trailer) (b : Tree) → fits_base p t b ≡ true → Base b
unfolding fits_base
base_is p t b g =
    let (a, c) = and_parts (is_base t b) _ g in
    let (d, f) = and_parts (carries b) (not (is_attributed b || is_pounded b) && not (is_call t && is_named_field b)) a in
    let (h, i) = and_parts (not (is_attributed b || is_pounded b)) _ f in
    let (j, k) = or_parts (is_attributed b) (is_pounded b) (not-true _ h) in
    record { carrying = d; bare = j; no_pound = k }

base_no_rest : (p : Place) (t : Trailer) (b : Tree) → fits_base p t b ≡ true → is_parenthesis_or_bracket t ≡ true → rests p b ≡ false
unfolding fits_base
base_no_rest p t b g h =
    let (a, c) = and_parts (is_base t b) _ g in
    let d : (is_parenthesis_or_bracket t && rests p b) ≡ false = not-true _ c in rw h at d

opens : (p : Place) (b : Tree) (m : List Tok) → carries b ≡ true → goes_behind (rests p b) m ≡ true → closes p b m ≡ false
unfolding closes
opens p b m c g = rw (c, g) refl

dot_goes : (b : Bool) (m : List Tok) → dot_at m ≡ true → goes_behind b m ≡ true
unfolding trailer_at
dot_goes true m g = first_true _ g
dot_goes false m g = second_true (round_at m) (second_true (bracket_at m) (second_true (question_at m) g))

question_goes : (b : Bool) (m : List Tok) → question_at m ≡ true → goes_behind b m ≡ true
unfolding trailer_at
question_goes true m g = second_true (dot_at m) g
question_goes false m g = second_true (round_at m) (second_true (bracket_at m) (first_true _ g))

round_goes : (b : Bool) (m : List Tok) → b ≡ false → round_at m ≡ true → goes_behind b m ≡ true
unfolding trailer_at
round_goes true m a g = absurd cc
round_goes false m a g = first_true _ g

bracket_goes : (b : Bool) (m : List Tok) → b ≡ false → bracket_at m ≡ true → goes_behind b m ≡ true
unfolding trailer_at
bracket_goes true m a g = absurd cc
bracket_goes false m a g = second_true (round_at m) (first_true _ g)

module _ (rec : Place → Reading Tree) where
  -- a trailer that is read after a base, from which the base can go on
  pub record Next (p : Place) (b : Tree) (m : List Tok) (x : Tree) (n : List Tok) : Type 0 where
    pub opened : closes p b m ≡ false
    pub reading : trailed rec p b m ≡ Some (x, n)

  round_next : (p : Place) (b : Tree) (m n : List Tok) (ks : Children) → fits_base p tr.call b ≡ true → round_at m ≡ true → content rec (trailer_holder tr.call) m ≡ Some (ks, n) → Next p b m (tail b tr.call ks) n
  unfolding trailed
  round_next p b m n ks f r c =
      let a = base_is p tr.call b f in
      record { opened = opens p b m a.carrying (round_goes (rests p b) m (base_no_rest p tr.call b f refl) r); reading = rw (r, f, c) refl }

  bracket_next : (p : Place) (b : Tree) (m n : List Tok) (ks : Children) → fits_base p tr.index b ≡ true → round_at m ≡ false → bracket_at m ≡ true → content rec (trailer_holder tr.index) m ≡ Some (ks, n) → Next p b m (tail b tr.index ks) n
  unfolding trailed
  bracket_next p b m n ks f q r c =
      let a = base_is p tr.index b f in
      record { opened = opens p b m a.carrying (bracket_goes (rests p b) m (base_no_rest p tr.index b f refl) r); reading = rw (q, r, f, c) refl }

  question_next : (p : Place) (b : Tree) (m n : List Tok) (ks : Children) → fits_base p tr.try_expr b ≡ true → question_at m ≡ true → content rec (trailer_holder tr.try_expr) (drop 1 m) ≡ Some (ks, n) → Next p b m (tail b tr.try_expr ks) n
  unfolding trailed
  question_next p b m n ks f q c =
      let a = base_is p tr.try_expr b f in
      let (u, v) = question_front m q in
      record { opened = opens p b m a.carrying (question_goes (rests p b) m q); reading = rw (u, v, q, f, c) refl }

  dot_next : (p : Place) (t : Trailer) (b : Tree) (m h g n : List Tok) (is : List ℕ) (ks : Children) → fits_base p t b ≡ true → dot_at m ≡ true → name_at (drop 1 m) ≡ Some (is, h) → dotted.behind t h ≡ Some g
      → content rec (trailer_holder t) g ≡ Some (ks, n) → Next p b m (tail (fields_of b is) t ks) n
  unfolding trailed
  dot_next p t b m h g n is ks f d i j c =
      let a = base_is p t b f in
      let u = dot_front m d in
      record { opened = opens p b m a.carrying (dot_goes (rests p b) m d); reading = rw (u.no_round, u.no_bracket, u.no_question, d, name_no_index (drop 1 m) (is, h) i, i, heads.dots.found h t g j, f, c) refl }

  pub index_next : (p : Place) (b : Tree) (m n : List Tok) (i : ℕ) (is : List ℕ) → fits_base p (tr.field (an_index i)) b ≡ true → fields_head m ≡ Some (i ∷ is, n) → Next p b m (fields_of b (i ∷ is)) n
  unfolding trailed fields_head
  index_next p b m n i is f g =
      let a = base_is p (tr.field (an_index i)) b f in
      let (d, c) = only_some (dot_at m) (indices_at (drop 1 m)) (i ∷ is, n) g in
      let u = dot_front m d in
      record { opened = opens p b m a.carrying (dot_goes (rests p b) m d); reading = rw (u.no_round, u.no_bracket, u.no_question, d, c, f) refl }

  dotted_next : (p : Place) (t : Trailer) (b : Tree) (m g n : List Tok) (is : List ℕ) (ks : Children) → fits_base p t b ≡ true → cond (dot_at m) (named_behind t (name_at (drop 1 m))) None ≡ Some (is, g)
      → content rec (trailer_holder t) g ≡ Some (ks, n) → Next p b m (tail (fields_of b is) t ks) n
  dotted_next p t b m g n is ks f h c =
      let (d, i) = only_some (dot_at m) (named_behind t (name_at (drop 1 m))) (is, g) h in by_name d (name_at (drop 1 m)) refl i
    where
      by_behind : dot_at m ≡ true → (js : List ℕ) (j : List Tok) → name_at (drop 1 m) ≡ Some (js, j) → (o : Option (List Tok)) → dotted.behind t j ≡ o → with_steps js o ≡ Some (is, g) → Next p b m (tail (fields_of b is) t ks) n
      by_behind d js j v None w i = absurd cc
      by_behind d js j v (Some y) w i =
          let u : (js, y) ≡ (is, g) = some_is i in
          let x : js ≡ is = ap (λ (r : List ℕ × List Tok). r.0) u in
          let z : y ≡ g = ap (λ (r : List ℕ × List Tok). r.1) u in
          dot_next p t b m j g n is ks f d (subst (λ r. name_at (drop 1 m) ≡ Some (r, j)) x v) (w ∙ ap (λ r. Some r) z) c

      by_name : dot_at m ≡ true → (o : Option (List ℕ × List Tok)) → name_at (drop 1 m) ≡ o → named_behind t o ≡ Some (is, g) → Next p b m (tail (fields_of b is) t ks) n
      by_name d None v i = absurd cc
      by_name d (Some q) v i = by_behind d q.0 q.1 v (dotted.behind t q.1) refl i

  pub tail_next : (p : Place) (t : Trailer) (b : Tree) (m g n : List Tok) (is : List ℕ) (ks : Children) → fits_base p t b ≡ true → trailer_head t m ≡ Some (is, g) → Content (trailer_holder t) g ks n
      → content rec (trailer_holder t) g ≡ Some (ks, n) → Next p b m (tail (fields_of b is) t ks) n
  unfolding trailer_head
  tail_next p tr.call b m g n is ks f h d c =
      let u : ([], m) ≡ (is, g) = some_is h in
      subst (λ (r : List ℕ × List Tok). content rec (trailer_holder tr.call) r.1 ≡ Some (ks, n) → Content (trailer_holder tr.call) r.1 ks n → Next p b m (tail (fields_of b r.0) tr.call ks) n) u
      (λ c d. let (i, w) = content_group d in round_next p b m n ks f (round_group m i n w) c) c d
  tail_next p tr.index b m g n is ks f h d c =
      let u : ([], m) ≡ (is, g) = some_is h in
      subst (λ (r : List ℕ × List Tok). content rec (trailer_holder tr.index) r.1 ≡ Some (ks, n) → Content (trailer_holder tr.index) r.1 ks n → Next p b m (tail (fields_of b r.0) tr.index ks) n) u
      (λ c d. let (i, w) = content_group d in let (v, y) = bracket_group m i n w in bracket_next p b m n ks f v y c) c d
  tail_next p tr.try_expr b m g n is ks f h d c =
      let (q, i) = only_some (question_at m) (Some ([], drop 1 m)) (is, g) h in
      let u : ([], drop 1 m) ≡ (is, g) = some_is i in
      subst (λ (r : List ℕ × List Tok). content rec (trailer_holder tr.try_expr) r.1 ≡ Some (ks, n) → Next p b m (tail (fields_of b r.0) tr.try_expr ks) n) u
      (λ c. question_next p b m n ks f q c) c
  tail_next p t b m g n is ks f h d c = dotted_next p t b m g n is ks f h c

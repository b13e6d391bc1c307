-- The longest operator at the front, by the characters of the joined puncts.
use Rattle.std.proofs.Common.{◌≡◌, ℕ, Bool, true, false, ◌&&◌, ◌==◌, List, [], ◌∷◌, Option, None, refl, sym, ◌∙◌, subst}
use Rattle.std.specs.Prelude.{not, if◌then◌else◌}
use Rattle.std.proofs.lemmas.Bool.{eqb-true}
use Rattle.std.proofs.Math.Bool.{and-true}
use Rattle.syn_lexer.specs.declared.front.Spacing.TheVariants as spacing
use Rattle.syn_tokens.specs.Tok.{Tok, ident, punct, literal, group}
use Rattle.syn_tokens.specs.Sign.{begins}
use Rattle.syn_lower_spec.specs.Text.{Text}
use Rattle.syn_lower_spec.specs.Mark.{sign_at}
use Rattle.syn_expr_spec.specs.Op.{Entry, entries, longest, counted}
use Rattle.syn_expr_spec.specs.declared.kinds.Infix.{Infix}
use Rattle.syn_expr_tokens.specs.Signs.{first, behind, second, third, operator}

left_of : (a b : Bool) → (a && b) ≡ true → a ≡ true
left_of true b h = refl
left_of false b h = cc

right_of : (a b : Bool) → (a && b) ≡ true → b ≡ true
right_of true b h = h
right_of false b h = cc

is_not : (b : Bool) → not b ≡ true → b ≡ false
is_not true h = cc
is_not false h = refl

-- ---- a text of one to three characters at the front

-- the characters are those of the text
abbrev fits : Text → ℕ → ℕ → ℕ → Bool
fits (x ∷ []) a b c = a == x
fits (x ∷ y ∷ []) a b c = a == x && b == y
fits (x ∷ y ∷ z ∷ []) a b c = a == x && (b == y && c == z)
fits _ a b c = false

-- one to three characters, none of them 0
abbrev is_short : Text → Bool
is_short (x ∷ []) = not (0 == x)
is_short (x ∷ y ∷ []) = not (0 == x) && not (0 == y)
is_short (x ∷ y ∷ z ∷ []) = not (0 == x) && (not (0 == y) && not (0 == z))
is_short _ = false

last_begins : (x : ℕ) (l : List Tok) → (0 == x) ≡ false → begins (x ∷ []) l ≡ (first l == x)
unfolding first
last_begins x [] h = sym h
last_begins x (ident s ∷ l) h = sym h
last_begins x (literal s ∷ l) h = sym h
last_begins x (group d i ∷ l) h = sym h
last_begins x (punct c spacing.Alone ∷ l) h = and-true (c == x)
last_begins x (punct c spacing.Joint ∷ l) h = and-true (c == x)

more_begins : (x y : ℕ) (more : Text) (l : List Tok) → (0 == x) ≡ false → begins (x ∷ y ∷ more) l ≡ (first l == x && begins (y ∷ more) (behind l))
unfolding first behind
more_begins x y more [] h = rw h refl
more_begins x y more (ident s ∷ l) h = rw h refl
more_begins x y more (literal s ∷ l) h = rw h refl
more_begins x y more (group d i ∷ l) h = rw h refl
more_begins x y more (punct c spacing.Alone ∷ l) h = refl
more_begins x y more (punct c spacing.Joint ∷ l) h = refl

fits_is : (text : Text) (l : List Tok) → is_short text ≡ true → sign_at text l ≡ fits text (first l) (second l) (third l)
unfolding sign_at
fits_is [] l h = cc
fits_is (x ∷ []) l h = last_begins x l (is_not _ h)
fits_is (x ∷ y ∷ []) l h =
    let one : (0 == x) ≡ false = is_not _ (left_of _ _ h) in
    let two : (0 == y) ≡ false = is_not _ (right_of _ _ h) in
    rw (more_begins x y [] l one, last_begins y (behind l) two) refl
fits_is (x ∷ y ∷ z ∷ []) l h =
    let more : (not (0 == y) && not (0 == z)) ≡ true = right_of _ _ h in
    let one : (0 == x) ≡ false = is_not _ (left_of _ _ h) in
    let two : (0 == y) ≡ false = is_not _ (left_of _ _ more) in
    let three : (0 == z) ≡ false = is_not _ (right_of _ _ more) in
    rw (more_begins x y (z ∷ []) l one, more_begins y z [] (behind l) two, last_begins z (behind (behind l)) three) refl
fits_is (x ∷ y ∷ z ∷ w ∷ more) l h = cc

-- ---- the table

abbrev longest_by : List Entry → ℕ → ℕ → ℕ → Option (Infix × ℕ)
longest_by [] a b c = None
longest_by (e ∷ more) a b c = if fits e.0 a b c then counted e.0 e.1 else longest_by more a b c

abbrev are_short : List Entry → Bool
are_short [] = true
are_short (e ∷ more) = is_short e.0 && are_short more

longest_is : (es : List Entry) (l : List Tok) → are_short es ≡ true → longest es l ≡ longest_by es (first l) (second l) (third l)
longest_is [] l h = refl
longest_is (e ∷ more) l h =
    let one : is_short e.0 ≡ true = left_of _ _ h in
    let others : are_short more ≡ true = right_of _ _ h in
    rw (fits_is e.0 l one, longest_is more l others) refl

-- ---- each first character by itself

by_test : {P : Type 0} (b : Bool) → (b ≡ true → P) → (b ≡ false → P) → P
by_test true f g = f refl
by_test false f g = g refl

pick : (a n : ℕ) (P : ℕ → Type 0) → P n → ((a == n) ≡ false → P a) → P a
pick a n P here other = by_test (a == n) (λ h. subst P (sym (eqb-true a n h)) here) other

abbrev Agrees : ℕ → ℕ → ℕ → Type 0
Agrees b c a = operator a b c ≡ longest_by entries a b c

-- `<` and `>`: two characters may decide
less_agrees : (b c : ℕ) → Agrees b c 60
unfolding operator
less_agrees b c = pick b 60 (λ b. Agrees b c 60) refl (λ h. pick b 45 (λ b. Agrees b c 60) refl (λ k. simp (h, k)))

greater_agrees : (b c : ℕ) → Agrees b c 62
unfolding operator
greater_agrees b c = pick b 62 (λ b. Agrees b c 62) refl (λ h. simp h)

dots_agree : (b c : ℕ) → Agrees b c 46
unfolding operator
dots_agree b c = pick b 46 (λ b. Agrees b c 46) refl (λ h. simp h)

minus_agrees : (b c : ℕ) → Agrees b c 45
unfolding operator
minus_agrees b c = pick b 62 (λ b. Agrees b c 45) refl (λ h. simp h)

and_agrees : (b c : ℕ) → Agrees b c 38
unfolding operator
and_agrees b c = pick b 38 (λ b. Agrees b c 38) refl (λ h. simp h)

or_agrees : (b c : ℕ) → Agrees b c 124
unfolding operator
or_agrees b c = pick b 124 (λ b. Agrees b c 124) refl (λ h. simp h)

none_agrees : (a b c : ℕ) → (a == 43) ≡ false → (a == 45) ≡ false → (a == 42) ≡ false → (a == 47) ≡ false → (a == 37) ≡ false
    → (a == 94) ≡ false → (a == 38) ≡ false → (a == 124) ≡ false → (a == 60) ≡ false → (a == 62) ≡ false → (a == 61) ≡ false
    → (a == 33) ≡ false → (a == 46) ≡ false → Agrees b c a
unfolding operator
none_agrees a b c h1 h2 h3 h4 h5 h6 h7 h8 h9 h10 h11 h12 h13 = simp (h1, h2, h3, h4, h5, h6, h7, h8, h9, h10, h11, h12, h13)

operator_is : (a b c : ℕ) → Agrees b c a
unfolding operator
operator_is a b c =
    pick a 43 (Agrees b c) refl (λ h1. pick a 45 (Agrees b c) (minus_agrees b c) (λ h2. pick a 42 (Agrees b c) refl (λ h3.
    pick a 47 (Agrees b c) refl (λ h4. pick a 37 (Agrees b c) refl (λ h5. pick a 94 (Agrees b c) refl (λ h6.
    pick a 38 (Agrees b c) (and_agrees b c) (λ h7. pick a 124 (Agrees b c) (or_agrees b c) (λ h8. pick a 60 (Agrees b c) (less_agrees b c) (λ h9.
    pick a 62 (Agrees b c) (greater_agrees b c) (λ h10. pick a 61 (Agrees b c) refl (λ h11. pick a 33 (Agrees b c) refl (λ h12.
    pick a 46 (Agrees b c) (dots_agree b c) (none_agrees a b c h1 h2 h3 h4 h5 h6 h7 h8 h9 h10 h11 h12)))))))))))))

pub operator_at : (l : List Tok) → operator (first l) (second l) (third l) ≡ longest entries l
operator_at l = operator_is (first l) (second l) (third l) ∙ sym (longest_is entries l refl)

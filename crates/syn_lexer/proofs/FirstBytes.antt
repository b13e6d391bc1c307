-- A word is reserved where it is one of the reserved words with its first byte.
use Rattle.std.proofs.Common.{◌≡◌, ℕ, List, [], ◌∷◌, length, ◌<◌, ◌≤◌, slice_index_or, refl, sym, ap, subst, cond, Bool, true, false, arith}
use Rattle.std.specs.Prelude.{◌==◌, ◌≢◌, ◌||◌}
use Rattle.std.specs.Char.{is_ascii_lowercase}
use Rattle.std.specs.List.{filter}
use Rattle.std.specs.Str.{bytes_eq}
use Rattle.std.proofs.Math.Bool.{and-false}
use Rattle.std.proofs.lemmas.Bool.Decides.{nat_tests}
use Rattle.syn_lexer.specs.Keywords.{reserved_words, begins_with, is_one_of, is_reserved_word}

picked : (b : ℕ) (s v : List ℕ) (same : Bool) (some words : List (List ℕ)) → begins_with b v ≡ same
    → is_one_of some (b ∷ s) ≡ is_one_of words (b ∷ s)
    → is_one_of (cond same (v ∷ some) some) (b ∷ s) ≡ (bytes_eq (b ∷ s) v || is_one_of words (b ∷ s))
picked b s v true some words e rest = ap (λ r. bytes_eq (b ∷ s) v || r) rest
picked b s [] false some words e rest = rest
picked b s (c ∷ v) false some words e rest = rw (e) rest

of_first : (words : List (List ℕ)) (b : ℕ) (s : List ℕ) → is_one_of (filter (begins_with b) words) (b ∷ s) ≡ is_one_of words (b ∷ s)
of_first [] b s = refl
of_first (v ∷ words) b s = picked b s v (begins_with b v) (filter (begins_with b) words) words refl (of_first words b s)

pub reserved_of_some : (bytes w : List ℕ) (d : ℕ) → bytes ≡ w → 0 < length bytes
    → is_one_of (filter (begins_with (slice_index_or bytes 0 d)) reserved_words) w ≡ is_reserved_word w
unfolding is_reserved_word
reserved_of_some [] w d same some = absurd (grind arith)
reserved_of_some (b ∷ s) w d same some = subst (λ v. is_one_of (filter (begins_with b) reserved_words) v ≡ is_one_of reserved_words v) same (of_first reserved_words b s)

eqb-false : (a b : ℕ) → a ≢ b → (a == b) ≡ false
eqb-false a b other = grind (arith, nat_tests)

-- ---- each is `_`, or goes on with a small letter

abbrev goes_on : List ℕ → Bool
goes_on [] = false
goes_on (b ∷ []) = b == 95
goes_on (b ∷ (c ∷ w)) = is_ascii_lowercase c

abbrev all_go_on : List (List ℕ) → Bool
all_go_on [] = true
all_go_on (v ∷ words) = cond (goes_on v) (all_go_on words) false

not_same : (w v : List ℕ) → goes_on w ≡ false → goes_on v ≡ true → bytes_eq w v ≡ false
not_same [] [] other this = cc
not_same [] (d ∷ v) other this = refl
not_same (b ∷ w) [] other this = cc
not_same (b ∷ []) (d ∷ []) other this =
    rw (eqb-false b d (λ same. let alike : (b == 95) ≡ (d == 95) = ap (λ k. k == 95) same in cc)) refl
not_same (b ∷ []) (d ∷ (e ∷ v)) other this = and-false (b == d)
not_same (b ∷ (c ∷ w)) (d ∷ []) other this = and-false (b == d)
not_same (b ∷ (c ∷ w)) (d ∷ (e ∷ v)) other this =
    rw (eqb-false c e (λ same. let alike : is_ascii_lowercase c ≡ is_ascii_lowercase e = ap is_ascii_lowercase same in cc)) (and-false (b == d))

not_next : (w v : List ℕ) (on : Bool) (words : List (List ℕ)) → goes_on v ≡ on → goes_on w ≡ false
    → cond on (all_go_on words) false ≡ true → (all_go_on words ≡ true → is_one_of words w ≡ false)
    → (bytes_eq w v || is_one_of words w) ≡ false
not_next w v false words this other all rest = cc
not_next w v true words this other all rest = rw (not_same w v other this) (rest all)

not_one : (words : List (List ℕ)) (w : List ℕ) → goes_on w ≡ false → all_go_on words ≡ true → is_one_of words w ≡ false
not_one [] w other all = refl
not_one (v ∷ words) w other all = not_next w v (goes_on v) words refl other all (not_one words w other)

reserved_of_other : (bytes w : List ℕ) → bytes ≡ w → goes_on bytes ≡ false → false ≡ is_reserved_word w
unfolding is_reserved_word
reserved_of_other bytes w same other = subst (λ v. false ≡ is_one_of reserved_words v) same (sym (not_one reserved_words bytes other refl))

pub reserved_underscore : (bytes w : List ℕ) (d : ℕ) → bytes ≡ w → length bytes ≡ 1 → slice_index_or bytes 0 d ≡ 95 → true ≡ is_reserved_word w
unfolding is_reserved_word
reserved_underscore [] w d same one is = absurd (grind arith)
reserved_underscore (b ∷ []) w d same one is = subst (λ v. true ≡ is_one_of reserved_words v) same (rw is refl)
reserved_underscore (b ∷ (c ∷ s)) w d same one is = absurd (grind arith)

pub reserved_of_none : (bytes w : List ℕ) → bytes ≡ w → length bytes ≡ 0 → false ≡ is_reserved_word w
reserved_of_none [] w same none = reserved_of_other [] w same refl
reserved_of_none (b ∷ s) w same none = absurd (grind arith)

pub reserved_of_one : (bytes w : List ℕ) (d : ℕ) → bytes ≡ w → length bytes ≡ 1 → slice_index_or bytes 0 d ≢ 95 → false ≡ is_reserved_word w
reserved_of_one [] w d same one other = absurd (grind arith)
reserved_of_one (b ∷ []) w d same one other = reserved_of_other (b ∷ []) w same (eqb-false b 95 other)
reserved_of_one (b ∷ (c ∷ s)) w d same one other = absurd (grind arith)

pub reserved_of_more : (bytes w : List ℕ) (d : ℕ) → bytes ≡ w → 2 ≤ length bytes → is_ascii_lowercase (slice_index_or bytes 1 d) ≡ false
    → false ≡ is_reserved_word w
reserved_of_more [] w d same two other = absurd (grind arith)
reserved_of_more (b ∷ []) w d same two other = absurd (grind arith)
reserved_of_more (b ∷ (c ∷ s)) w d same two other = reserved_of_other (b ∷ (c ∷ s)) w same other

-- ---- and no other byte is the first of a reserved word

abbrev is_first : ℕ → Bool
is_first b =
    b == 95 || b == 97 || b == 98 || b == 99 || b == 100 || b == 101 || b == 102 || b == 105 || b == 108 || b == 109 ||
    b == 111 || b == 112 || b == 114 || b == 83 || b == 115 || b == 116 || b == 117 || b == 118 || b == 119 || b == 121

abbrev have_such : List (List ℕ) → Bool
have_such [] = true
have_such ([] ∷ words) = false
have_such ((c ∷ v) ∷ words) = cond (is_first c) (have_such words) false

unequal : (b c : ℕ) → is_first b ≡ false → is_first c ≡ true → (b == c) ≡ false
unequal b c other this = eqb-false b c (λ e. let same : is_first b ≡ is_first c = ap is_first e in cc)

not_first : (b c : ℕ) (first : Bool) (v : List ℕ) (words : List (List ℕ)) → is_first c ≡ first → is_first b ≡ false
    → cond first (have_such words) false ≡ true → (have_such words ≡ true → filter (begins_with b) words ≡ [])
    → cond (b == c) ((c ∷ v) ∷ filter (begins_with b) words) (filter (begins_with b) words) ≡ []
not_first b c false v words this other all rest = cc
not_first b c true v words this other all rest = rw (unequal b c other this) (rest all)

none_of : (words : List (List ℕ)) (b : ℕ) → is_first b ≡ false → have_such words ≡ true → filter (begins_with b) words ≡ []
none_of [] b other all = refl
none_of ([] ∷ words) b other all = cc
none_of ((c ∷ v) ∷ words) b other all = not_first b c (is_first c) v words refl other all (none_of words b other)

pub none_begin : (b : ℕ) → b ≢ 95 → b ≢ 97 → b ≢ 98 → b ≢ 99 → b ≢ 100 → b ≢ 101 → b ≢ 102 → b ≢ 105 → b ≢ 108 → b ≢ 109 → b ≢ 111 → b ≢ 112 → b ≢ 114 → b ≢ 83 → b ≢ 115 → b ≢ 116 → b ≢ 117 → b ≢ 118 → b ≢ 119 → b ≢ 121
    → [] ≡ filter (begins_with b) reserved_words
none_begin b h1 h2 h3 h4 h5 h6 h7 h8 h9 h10 h11 h12 h13 h14 h15 h16 h17 h18 h19 h20 =
    let other : is_first b ≡ false =
    rw (eqb-false b 95 h1, eqb-false b 97 h2, eqb-false b 98 h3, eqb-false b 99 h4, eqb-false b 100 h5, eqb-false b 101 h6, eqb-false b 102 h7, eqb-false b 105 h8, eqb-false b 108 h9, eqb-false b 109 h10, eqb-false b 111 h11, eqb-false b 112 h12, eqb-false b 114 h13, eqb-false b 83 h14, eqb-false b 115 h15, eqb-false b 116 h16, eqb-false b 117 h17, eqb-false b 118 h18, eqb-false b 119 h19, eqb-false b 121 h20) refl in
    sym (none_of reserved_words b other refl)

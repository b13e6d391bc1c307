-- The values of strings, piece by piece.
use Rattle.std.proofs.Common.{◌≡◌, ℕ, zero, suc, ◌+◌, ◌-◌, ◌*◌, ◌^◌, ◌<◌, ◌≤◌, Bool, true, false, [], ◌∷◌, List, ◌++◌, drop, Option, Some, None, refl, sym, ap, ◌∙◌, arith, append_assoc}
use Rattle.std.specs.Prelude.{option_map, option_to_list, encode_utf8_all, if◌then◌else◌}
use Rattle.std.proofs.lemmas.Str.{encodes-append}
use Rattle.syn_lower_leaves.specs.declared.quoted.Style.{Style}
use Rattle.syn_lower_spec.specs.Text.{Text}
use Rattle.syn_lower_leaves.specs.Value.{content, closes, piece, joined, Piece}

-- ---- digits in braces

-- one digit more
pub next_digit : (d f v : ℕ) → d < 6 → f < 16 ^ d → v < 16 → (f * 16 + v < 16 ^ (d + 1)) × (f * 16 + v < 2 ^ 32)
next_digit zero f v h l m = (omega arith, omega arith)
next_digit (suc zero) f v h l m = (omega arith, omega arith)
next_digit (suc (suc zero)) f v h l m = (omega arith, omega arith)
next_digit (suc (suc (suc zero))) f v h l m = (omega arith, omega arith)
next_digit (suc (suc (suc (suc zero)))) f v h l m = (omega arith, omega arith)
next_digit (suc (suc (suc (suc (suc zero))))) f v h l m = (omega arith, omega arith)
next_digit (suc (suc (suc (suc (suc (suc d)))))) f v h l m = absurd (omega arith)

-- a seventh digit would fit too
pub few : (d f : ℕ) → d < 6 → f < 16 ^ d → f < 2 ^ 20
few zero f h l = omega arith
few (suc zero) f h l = omega arith
few (suc (suc zero)) f h l = omega arith
few (suc (suc (suc zero))) f h l = omega arith
few (suc (suc (suc (suc zero)))) f h l = omega arith
few (suc (suc (suc (suc (suc zero))))) f h l = omega arith
few (suc (suc (suc (suc (suc (suc d)))))) f h l = absurd (omega arith)

pub ruleset braces = (few, next_digit)

-- ---- pieces

-- these bytes, and the characters that are left
abbrev pub written : List ℕ → Option (List ℕ) → Option (List ℕ)
written out o = option_map (λ vs. out ++ encode_utf8_all vs) o

abbrev pub put : List ℕ → Option (List ℕ) → Option (List ℕ)
put out o = option_map (λ vs. out ++ vs) o

-- Characters that are passed over could be left out.
passed : (s : Style) (k : ℕ) (z : Text) → content s k z ≡ content s 0 (drop k z)
passed s zero z = refl
passed s (suc k) [] = refl
passed s (suc k) (c ∷ z) = passed s k z

at_piece : (s : Style) (z : Text) (p : Option Piece) (b : Bool) → b ≡ false
    → (if b then Some [] else joined p (λ left. content s left z)) ≡ joined p (λ left. content s left z)
at_piece s z p true e = absurd cc
at_piece s z p false e = refl

one_less : (n : ℕ) → suc n - 1 ≡ n
one_less n = omega arith

-- the first piece, and those after it
first_piece : (s : Style) (c n : ℕ) (v : Option ℕ) (z : Text) → closes s (c ∷ z) ≡ false → piece s (c ∷ z) ≡ Some (v, suc n)
    → content s 0 (c ∷ z) ≡ option_map (λ vs. option_to_list v ++ vs) (content s 0 (drop (suc n) (c ∷ z)))
first_piece s c n v z e f =
    at_piece s z (piece s (c ∷ z)) (closes s (c ∷ z)) e
    ∙ (ap (λ p. joined p (λ left. content s left z)) f ∙ ap (λ o. option_map (λ vs. option_to_list v ++ vs) o) (ap (λ k. content s k z) (one_less n) ∙ passed s n z))

-- of a text that has characters
piece_first : (s : Style) (n : ℕ) (v : Option ℕ) (z : Text) → closes s z ≡ false → piece s z ≡ Some (v, n) → 1 ≤ n
    → content s 0 z ≡ option_map (λ vs. option_to_list v ++ vs) (content s 0 (drop n z))
piece_first s n v [] e f l = absurd cc
piece_first s zero v (c ∷ z) e f l = elim l [ ]
piece_first s (suc n) v (c ∷ z) e f l = first_piece s c n v z e f

written_more : (out : List ℕ) (v : Option ℕ) (o : Option (List ℕ)) → written out (option_map (λ vs. option_to_list v ++ vs) o) ≡ written (out ++ encode_utf8_all (option_to_list v)) o
written_more out v None = refl
written_more out v (Some vs) = ap Some (ap (λ x. out ++ x) (encodes-append (option_to_list v) vs) ∙ sym (append_assoc out (encode_utf8_all (option_to_list v)) (encode_utf8_all vs)))

put_more : (out : List ℕ) (v : Option ℕ) (o : Option (List ℕ)) → put out (option_map (λ vs. option_to_list v ++ vs) o) ≡ put (out ++ option_to_list v) o
put_more out v None = refl
put_more out v (Some vs) = ap Some (sym (append_assoc out (option_to_list v) vs))

-- ---- a step of the loops

pub text_put : (s : Style) (n : ℕ) (v : Option ℕ) (z z' : Text) (out out' : List ℕ) (whole : Option (List ℕ)) → closes s z ≡ false → piece s z ≡ Some (v, n) → 1 ≤ n
    → out' ≡ out ++ encode_utf8_all (option_to_list v) → z' ≡ drop n z → whole ≡ written out (content s 0 z) → whole ≡ written out' (content s 0 z')
text_put s n v z z' out out' whole e f l o d h =
    h ∙ (ap (λ x. written out x) (piece_first s n v z e f l) ∙ (written_more out v (content s 0 (drop n z)) ∙ (ap (λ x. written x (content s 0 (drop n z))) (sym o) ∙ ap (λ x. written out' (content s 0 x)) (sym d))))

pub bytes_put : (s : Style) (n : ℕ) (v : Option ℕ) (z z' : Text) (out out' : List ℕ) (whole : Option (List ℕ)) → closes s z ≡ false → piece s z ≡ Some (v, n) → 1 ≤ n
    → out' ≡ out ++ option_to_list v → z' ≡ drop n z → whole ≡ put out (content s 0 z) → whole ≡ put out' (content s 0 z')
bytes_put s n v z z' out out' whole e f l o d h =
    h ∙ (ap (λ x. put out x) (piece_first s n v z e f l) ∙ (put_more out v (content s 0 (drop n z)) ∙ (ap (λ x. put x (content s 0 (drop n z))) (sym o) ∙ ap (λ x. put out' (content s 0 x)) (sym d))))

-- ---- where the loops begin and end

pub written_all : (o : Option (List ℕ)) → option_map encode_utf8_all o ≡ written [] o
written_all None = refl
written_all (Some vs) = refl

pub put_all : (o : Option (List ℕ)) → o ≡ put [] o
put_all None = refl
put_all (Some vs) = refl

pub closed : (s : Style) (z : Text) → closes s z ≡ true → content s 0 z ≡ Some []
closed s [] h = absurd cc
closed s (c ∷ z) h = rw h refl

pub unread : (s : Style) (z : Text) → closes s z ≡ false → piece s z ≡ None → content s 0 z ≡ None
unread s [] h e = refl
unread s (c ∷ z) h e = rw (h, e) refl

pub ruleset pieces = (text_put, bytes_put, written_all, put_all, closed, unread)

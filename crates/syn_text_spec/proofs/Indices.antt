-- The digits of an index are the text of a literal.
use Rattle.std.proofs.Common.{◌≡◌, ℕ, zero, suc, ◌+◌, ◌/◌, ◌%◌, ◌<◌, ◌&&◌, ◌||◌, ◌*◌, ◌^◌, ◌≤◌, Bool, true, false, [], ◌∷◌, length, refl, ap, ◌∙◌, arith, lit<, add-zero}
use Rattle.std.specs.Prelude.{nat_lt, nat_le, nat_eq, if◌then◌else◌}
use native.Mathlib.Nat.{pow-zero, pow-suc}
use Rattle.std.proofs.Math.Numerals.{one-add}
use Rattle.std.proofs.Math.Seq.{drop-length}
use Rattle.std.proofs.lemmas.Bool.{and_parts, and_from, and_left, and_right, ne_eqb, both_ways, ltb-true, eq-eqb}
use Rattle.std.proofs.lemmas.Bool.Decides.{nat_tests}
use Rattle.std.proofs.lemmas.Str.{chars-IsAscii, IsUtf8-from_ascii, is_utf8-from_IsUtf8}
use Rattle.std.proofs.lemmas.Str.Ascii.{IsAscii-nil, IsAscii-cons}
use Rattle.std.specs.Char.{is_ascii_digit}
use Rattle.std.specs.List.{list_all, prefix_len}
use Rattle.std.specs.Str.{chars, is_utf8, IsAscii}
use Rattle.unicode_ident.proofs.IdentLemmas.{is_xid_start-ascii}
use Rattle.syn_tokens.specs.Lex.{IsLiteralText}
use Rattle.syn_lexer.specs.Text.{Text, begins}
use Rattle.syn_lexer.specs.Lex.{front, reading, token}
use Rattle.syn_lexer.specs.Numbers.{number, decimal_number, is_digit_or_underscore}
use Rattle.syn_lexer.specs.declared.number.Base.TheVariants.{Decimal}
use Rattle.syn_lexer.specs.declared.front.LexemeKind.TheVariants as kind
use Rattle.syn_lower_spec.specs.Text as words
use Rattle.syn_lower_spec.specs.Pat.{digits_value, index_of}
use Rattle.syn_lower_spec.specs.PatFits.{same_index}
use Rattle.syn_lower_spec.specs.PatOwn.{digits_before, index_text}
use Rattle.syn_text.specs.Lexed.{is_literal, is_whole, is_literal_text}
use Rattle.syn_text.proofs.Again.{literal_is}
use Rattle.syn_text.proofs.Tests.{whole}

-- ---- the text has digits alone, and has one at least

data Digits : Text → Type 0 where
  digits : (k : ℕ) (z : Text) → k < 10 → list_all is_ascii_digit z ≡ true → Digits ((48 + k) ∷ z)

is_digit : (k : ℕ) → k < 10 → is_ascii_digit (48 + k) ≡ true
is_digit k h = grind (arith, nat_tests)

last_digit : (n : ℕ) → n % 10 < 10
last_digit n = omega arith

digits_ok : (k n : ℕ) (r : Text) → list_all is_ascii_digit r ≡ true → Digits r → Digits (digits_before k n r)
digits_ok zero n r a d = d
digits_ok (suc k) n r a d =
    by (nat_lt n 10) refl
    (digits_ok k (n / 10) ((48 + n % 10) ∷ r) (and_from (is_ascii_digit (48 + n % 10)) (list_all is_ascii_digit r) (is_digit (n % 10) (last_digit n)) a) (digits (n % 10) r (last_digit n) a))
  where
    by : (b : Bool) → nat_lt n 10 ≡ b → Digits (digits_before k (n / 10) ((48 + n % 10) ∷ r)) → Digits (if b then (48 + n) ∷ r else digits_before k (n / 10) ((48 + n % 10) ∷ r))
    by true e others = digits n r (ltb-true n 10 e) a
    by false e others = others

first_ok : (k n : ℕ) → Digits (digits_before (suc k) n [])
first_ok k n = by (nat_lt n 10) refl
  where
    by : (b : Bool) → nat_lt n 10 ≡ b → Digits (if b then (48 + n) ∷ [] else digits_before k (n / 10) ((48 + n % 10) ∷ []))
    by true e = digits n [] (ltb-true n 10 e) refl
    by false e = digits_ok k (n / 10) ((48 + n % 10) ∷ []) (and_from (is_ascii_digit (48 + n % 10)) true (is_digit (n % 10) (last_digit n)) refl) (digits (n % 10) [] (last_digit n) refl)

-- ---- such a text is a number

by_digit : (k : ℕ) (z : Text) → k < 10 → reading ((48 + k) ∷ z) ≡ number ((48 + k) ∷ z)
unfolding reading token
by_digit zero z h = rw (is_xid_start-ascii 48 (lit< tt)) refl
by_digit (suc zero) z h = rw (is_xid_start-ascii 49 (lit< tt)) refl
by_digit (suc (suc zero)) z h = rw (is_xid_start-ascii 50 (lit< tt)) refl
by_digit (suc (suc (suc zero))) z h = rw (is_xid_start-ascii 51 (lit< tt)) refl
by_digit (suc (suc (suc (suc zero)))) z h = rw (is_xid_start-ascii 52 (lit< tt)) refl
by_digit (suc (suc (suc (suc (suc zero))))) z h = rw (is_xid_start-ascii 53 (lit< tt)) refl
by_digit (suc (suc (suc (suc (suc (suc zero)))))) z h = rw (is_xid_start-ascii 54 (lit< tt)) refl
by_digit (suc (suc (suc (suc (suc (suc (suc zero))))))) z h = rw (is_xid_start-ascii 55 (lit< tt)) refl
by_digit (suc (suc (suc (suc (suc (suc (suc (suc zero)))))))) z h = rw (is_xid_start-ascii 56 (lit< tt)) refl
by_digit (suc (suc (suc (suc (suc (suc (suc (suc (suc zero))))))))) z h = rw (is_xid_start-ascii 57 (lit< tt)) refl
by_digit (suc (suc (suc (suc (suc (suc (suc (suc (suc (suc k)))))))))) z h = absurd (omega arith)

-- no base's letter comes second
no_base : (m c : ℕ) (z : Text) → is_ascii_digit m ≡ false → list_all is_ascii_digit z ≡ true → begins (48 ∷ m ∷ []) (c ∷ z) ≡ false
no_base m c [] other h = and_right (nat_eq 48 c) false refl
no_base m c (d ∷ z) other h =
    let p = and_parts (is_ascii_digit d) (list_all is_ascii_digit z) h in
    let differs : nat_eq m d ≡ false = ne_eqb m d (λ e. both_ways (is_ascii_digit m) other (ap is_ascii_digit e ∙ p.0)) in
    and_right (nat_eq 48 c) (nat_eq m d && true) (and_left (nat_eq m d) true differs)

decimal : (c : ℕ) (z : Text) → list_all is_ascii_digit z ≡ true → number (c ∷ z) ≡ decimal_number (c ∷ z)
decimal c z h = rw (no_base 120 c z refl h, no_base 111 c z refl h, no_base 98 c z refl h) refl

all_len : (z : Text) → list_all is_ascii_digit z ≡ true → prefix_len (is_digit_or_underscore Decimal) z ≡ length z
all_len [] h = refl
all_len (c ∷ z) h = let p = and_parts (is_ascii_digit c) (list_all is_ascii_digit z) h in rw (p.0, one-add) (ap suc (all_len z p.1))

is_number : (k : ℕ) (z : Text) → k < 10 → list_all is_ascii_digit z ≡ true → IsLiteralText ((48 + k) ∷ z)
unfolding front
is_number k z h d = rw (by_digit k z h ∙ decimal (48 + k) z d) (simp (all_len z d, one-add, drop-length, add-zero) refl)

-- ---- its bytes are its characters

digit_below : (c : ℕ) → is_ascii_digit c ≡ true → c < 128
digit_below c h = grind (arith, nat_tests)

all_ascii : (z : Text) → list_all is_ascii_digit z ≡ true → IsAscii z
all_ascii [] h = IsAscii-nil
all_ascii (c ∷ z) h =
    let p = and_parts (is_ascii_digit c) (list_all is_ascii_digit z) h in
    IsAscii-cons c z (digit_below c p.0) (all_ascii z p.1)

text_ok : {z : Text} → Digits z → is_literal_text z ≡ true
text_ok (digits k z h d) =
    let w = (48 + k) ∷ z in
    let ascii : IsAscii w = all_ascii w (and_from (is_ascii_digit (48 + k)) (list_all is_ascii_digit z) (is_digit k h) d) in
    and_from (is_utf8 w) (is_whole is_literal (chars w)) (is_utf8-from_IsUtf8 w (IsUtf8-from_ascii w ascii))
    (ap (is_whole is_literal) (chars-IsAscii w ascii) ∙ whole is_literal kind.Literal refl literal_is w (is_number k z h d))

pub index_is_literal : (n : ℕ) → is_literal_text (index_text n) ≡ true
unfolding index_text
index_is_literal n = text_ok (first_ok 9 n)

-- ---- the digits are read as the index

one_digit : (found d : ℕ) (r : Text) → d < 10 → digits_value 10 found ((48 + d) ∷ r) ≡ digits_value 10 (found * 10 + d) r
one_digit found zero r h = refl
one_digit found (suc zero) r h = refl
one_digit found (suc (suc zero)) r h = refl
one_digit found (suc (suc (suc zero))) r h = refl
one_digit found (suc (suc (suc (suc zero)))) r h = refl
one_digit found (suc (suc (suc (suc (suc zero))))) r h = refl
one_digit found (suc (suc (suc (suc (suc (suc zero)))))) r h = refl
one_digit found (suc (suc (suc (suc (suc (suc (suc zero))))))) r h = refl
one_digit found (suc (suc (suc (suc (suc (suc (suc (suc zero)))))))) r h = refl
one_digit found (suc (suc (suc (suc (suc (suc (suc (suc (suc zero))))))))) r h = refl
one_digit found (suc (suc (suc (suc (suc (suc (suc (suc (suc (suc k)))))))))) r h = absurd (omega (arith, h))

one_more : (n : ℕ) (r : Text) → n < 10 → digits_value 10 0 ((48 + n) ∷ r) ≡ digits_value 10 n r
one_more n r h = one_digit 0 n r h ∙ ap (λ z. digits_value 10 z r) (omega arith)

value_is : (k n : ℕ) (r : Text) → n < 10 ^ suc k → digits_value 10 0 (digits_before (suc k) n r) ≡ digits_value 10 n r
value_is zero n r s =
    let l : n < 10 = omega (arith, pow-zero 10, pow-suc 10 0) in
    let e : nat_lt n 10 ≡ true = grind (arith, nat_tests, l) in
    rw e (one_more n r l)
value_is (suc k) n r s =
    let l : n / 10 < 10 ^ suc k = omega (arith, pow-suc 10 (suc k)) in
    by (nat_lt n 10) refl (value_is k (n / 10) ((48 + n % 10) ∷ r) l)
  where
    by : (b : Bool) → nat_lt n 10 ≡ b → digits_value 10 0 (digits_before (suc k) (n / 10) ((48 + n % 10) ∷ r)) ≡ digits_value 10 (n / 10) ((48 + n % 10) ∷ r)
        → digits_value 10 0 (if b then (48 + n) ∷ r else digits_before (suc k) (n / 10) ((48 + n % 10) ∷ r)) ≡ digits_value 10 n r
    by true e h = one_more n r (ltb-true n 10 e)
    by false e h = h ∙ one_digit (n / 10) (n % 10) r (last_digit n) ∙ ap (λ z. digits_value 10 z r) (omega arith)

no_letter : (d : ℕ) → is_ascii_digit d ≡ true → (nat_eq d 120 || (nat_eq d 111 || nat_eq d 98)) ≡ false
no_letter d h =
    let (a, b) = and_parts (nat_le 48 d) (nat_le d 57) h in
    let e1 : nat_eq d 120 ≡ false = grind (arith, nat_tests, a, b) in
    let e2 : nat_eq d 111 ≡ false = grind (arith, nat_tests, a, b) in
    let e3 : nat_eq d 98 ≡ false = grind (arith, nat_tests, a, b) in
    rw (e1, e2, e3) refl

decimal_digits : (z : Text) → Digits z → (words.is_number z ≡ true) × (words.has_radix z ≡ false)
unfolding words.is_number
decimal_digits z (digits k [] h a) = (is_digit k h, and_false_of (nat_eq (48 + k) 48) false refl)
  where
    and_false_of : (a b : Bool) → b ≡ false → a && b ≡ false
    and_false_of true b e = e
    and_false_of false b e = refl
decimal_digits z (digits k (d ∷ y) h a) =
    (is_digit k h, and_false_of (nat_eq (48 + k) 48) (nat_eq d 120 || (nat_eq d 111 || nat_eq d 98)) (no_letter d (and_parts (is_ascii_digit d) _ a).0))
  where
    and_false_of : (a b : Bool) → b ≡ false → a && b ≡ false
    and_false_of true b e = e
    and_false_of false b e = refl

-- an index below 2 ^ 32 is read from its own digits
pub index_is_read : (n : ℕ) → nat_le n 4294967295 ≡ true → same_index (index_of (index_text n)) n ≡ true
unfolding index_of index_text
index_is_read n h =
    let l : n ≤ 4294967295 = grind (arith, nat_tests, h) in
    let small : n < 10 ^ 10 = omega arith in
    let (a, b) = decimal_digits (digits_before 10 n []) (first_ok 9 n) in
    rw (a, b, value_is 9 n [] small, h) (eq-eqb n n refl)

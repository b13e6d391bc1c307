-- The decimal number of an index is the text of a literal.
use Rattle.std.proofs.Common.{◌≡◌, ℕ, zero, suc, ◌+◌, ◌%◌, ◌<◌, ◌≤◌, ◌&&◌, Bool, true, false, [], ◌∷◌, ◌++◌, length, refl, ap, sym, ◌∙◌, subst, arith, lit<, add-zero}
use Rattle.std.proofs.Math.Numerals.{one-add}
use Rattle.std.proofs.Math.Seq.{drop-length}
use Rattle.std.proofs.lemmas.Bool.Decides.{nat_tests}
use Rattle.std.proofs.lemmas.Fmt.{decimal_by_steps, IsAscii-decimal}
use Rattle.std.proofs.lemmas.List.Folds.{list_all-append}
use Rattle.std.proofs.lemmas.Str.{chars-IsAscii}
use Rattle.std.specs.Char.{is_ascii_digit}
use Rattle.std.specs.Fmt.{decimal}
use Rattle.std.specs.List.{list_all, prefix_len}
use Rattle.std.specs.Str.{chars}
use Rattle.unicode_ident.proofs.IdentLemmas.{is_xid_start-ascii}
use Rattle.syn_tokens.specs.Lex.{IsLiteralText}
use Rattle.syn_lexer.specs.Text.{Text}
use Rattle.syn_lexer.specs.Lex.{front, reading, token}
use Rattle.syn_lexer.specs.Numbers.{decimal_number, is_digit_or_underscore}
use Rattle.syn_lexer.specs.declared.number.Base.TheVariants.{Decimal}
use Rattle.syn_lower_spec.specs.PatOwn.{index_text}
use Rattle.syn_lower_spec.proofs.Decimals.{indices_are_decimal}

-- What begins with another digit than zero is a decimal number, and so is the zero alone.
by_digit : (k : ℕ) (z : Text) → k < 9 → reading ((49 + k) ∷ z) ≡ decimal_number ((49 + k) ∷ z)
unfolding reading token
by_digit zero z h = rw (is_xid_start-ascii 49 (lit< tt)) refl
by_digit (suc zero) z h = rw (is_xid_start-ascii 50 (lit< tt)) refl
by_digit (suc (suc zero)) z h = rw (is_xid_start-ascii 51 (lit< tt)) refl
by_digit (suc (suc (suc zero))) z h = rw (is_xid_start-ascii 52 (lit< tt)) refl
by_digit (suc (suc (suc (suc zero)))) z h = rw (is_xid_start-ascii 53 (lit< tt)) refl
by_digit (suc (suc (suc (suc (suc zero))))) z h = rw (is_xid_start-ascii 54 (lit< tt)) refl
by_digit (suc (suc (suc (suc (suc (suc zero)))))) z h = rw (is_xid_start-ascii 55 (lit< tt)) refl
by_digit (suc (suc (suc (suc (suc (suc (suc zero))))))) z h = rw (is_xid_start-ascii 56 (lit< tt)) refl
by_digit (suc (suc (suc (suc (suc (suc (suc (suc zero)))))))) z h = rw (is_xid_start-ascii 57 (lit< tt)) refl
by_digit (suc (suc (suc (suc (suc (suc (suc (suc (suc k))))))))) z h = absurd (omega arith)

zero_is_literal : IsLiteralText (48 ∷ [])
unfolding reading token front
zero_is_literal = rw (is_xid_start-ascii 48 (lit< tt)) refl

halves : (a b : Bool) → (a && b) ≡ true → (a ≡ true) × (b ≡ true)
halves true b h = (refl, h)
halves false b h = absurd cc

all_len : (z : Text) → list_all is_ascii_digit z ≡ true → prefix_len (is_digit_or_underscore Decimal) z ≡ length z
all_len [] h = refl
all_len (c ∷ z) h = let (f, g) = halves (is_ascii_digit c) _ h in rw (f, one-add) (ap suc (all_len z g))

digits_are_literal : (k : ℕ) (z : Text) → k < 9 → list_all is_ascii_digit z ≡ true → IsLiteralText ((49 + k) ∷ z)
unfolding front
digits_are_literal k z h d = rw (by_digit k z h) (simp (all_len z d, one-add, drop-length, add-zero) refl)

-- digits that begin with no zero, or a zero alone
data Digits : ℕ → Text → Type 0 where
  nothing : Digits 0 (48 ∷ [])
  digits : (m k : ℕ) (z : Text) → k < 9 → list_all is_ascii_digit z ≡ true → Digits (suc m) ((49 + k) ∷ z)

one : (m : ℕ) → m < 10 → Digits m ((48 + m) ∷ [])
one zero l = nothing
one (suc m) l = subst (λ c. Digits (suc m) (c ∷ [])) (omega arith) (digits m m [] (omega arith) refl)

is_digit : (m : ℕ) → is_ascii_digit (48 + m % 10) ≡ true
is_digit m = grind (arith, nat_tests)

more : {m : ℕ} {z : Text} (n : ℕ) → Digits m z → 0 < m → 10 ≤ n → Digits n (z ++ ((48 + n % 10) ∷ []))
more zero d h l = absurd (omega arith)
more (suc n) nothing h l = absurd (omega arith)
more (suc n) (digits m k z f d) h l = digits n k _ f (list_all-append is_ascii_digit z _ ∙ rw (d, is_digit (suc n)) refl)

literal_of : {m : ℕ} {z : Text} → Digits m z → IsLiteralText z
literal_of nothing = zero_is_literal
literal_of (digits m k z f d) = digits_are_literal k z f d

pub decimal_is_literal : (n : ℕ) → n ≤ 4294967295 → IsLiteralText (chars (decimal n))
decimal_is_literal n h =
    let d = decimal_by_steps Digits one (λ m ds l d. more m d (omega arith) l) n (omega arith) in
    rw (chars-IsAscii (decimal n) (IsAscii-decimal n (omega arith))) (literal_of d)

pub decimal_is_index : (n : ℕ) → n ≤ 4294967295 → decimal n ≡ index_text n
decimal_is_index n h = sym (indices_are_decimal n h)

pub ruleset decimals = (decimal_is_literal, decimal_is_index)

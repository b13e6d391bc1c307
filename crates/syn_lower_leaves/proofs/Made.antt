-- A literal that is made of a value is one literal, and has that value.
use Rattle.std.proofs.Common.{◌≡◌, ◌⊎◌, ℕ, suc, get_or, ◌+◌, ◌*◌, ◌/◌, ◌%◌, ◌<◌, Bool, true, false, ◌||◌, ◌==◌, List, [], ◌∷◌, ◌++◌, length, Option, Some, None, refl, sym, ap, subst, ◌∙◌, append_assoc, append-nil, length-append, lit<, arith}
use mathlib.Core.Logic.{inl, inr, ⊎_elim}
use Rattle.std.specs.Prelude.{cond, is_some, codes, encode_utf8_all, if◌then◌else◌, nat_lt, flat_map, option_map}
use Rattle.std.specs.Char.{digit_char}
use Rattle.std.proofs.Math.ListN.{drop_of_length-le}
use Rattle.std.proofs.lemmas.Bool.Decides.{nat_tests}
use Rattle.std.specs.Str.{IsUtf8, chars}
use Rattle.std.proofs.lemmas.Str.{chars_from_encodes}
use Rattle.unicode_ident.specs.Ident.{is_xid_start}
use Rattle.unicode_ident.proofs.IdentLemmas.{is_xid_start-ascii, is_xid_continue-ascii}
use Rattle.syn_lexer.specs.Lex.{front, reading, token, of_reading}
use Rattle.syn_lexer.specs.Words.{literal_to, suffix_len}
use Rattle.syn_lexer.specs.Quotes.{closed, string_rest, is_within_character, is_character, character_len}
use Rattle.syn_lexer.specs.declared.front.LexemeKind.{LexemeKind}
use Rattle.syn_lexer.specs.declared.front.LexemeKind.TheVariants.{Literal}
use Rattle.syn_tokens.specs.Lex.{IsIdentText, IsLiteralText}
use Rattle.syn_lower_spec.specs.Text.{Text}
use Rattle.syn_lower_spec.specs.Pat.{digit_value}
use Rattle.syn_lower_leaves.specs.declared.quoted.Style.{Style}
use Rattle.syn_lower_leaves.specs.View.{signed}
use Rattle.syn_lower_leaves.specs.Value.{simple_escape, hex_escape, is_plain, single, content, char_value, byte_value, str_value, byte_str_value, bool_value}
use Rattle.syn_lower_leaves.specs.Written.{is_shown, code, written, quoted, has_minus, without_minus, truth_text}

-- ---- what a character or a byte is written as

-- an escape with a name
record Named (e c : ℕ) : Type 0 where
  pub escape : simple_escape e ≡ Some c
  pub no_x : (e == 120) ≡ false
  pub no_u : (e == 117) ≡ false
  pub no_line : (e == 10) ≡ false
  pub no_return : (e == 13) ≡ false

-- a hexadecimal digit
record Digit (a n : ℕ) : Type 0 where
  pub value : digit_value a ≡ n
  pub no_quote : (a == 34) ≡ false
  pub no_slash : (a == 92) ≡ false
  pub within : is_within_character a ≡ true

-- itself
record Itself (is_byte : Bool) (quote c : ℕ) : Type 0 where
  pub no_quote : (c == quote) ≡ false
  pub no_slash : (c == 92) ≡ false
  pub no_tab : (c == 9) ≡ false
  pub no_line : (c == 10) ≡ false
  pub no_return : (c == 13) ≡ false
  pub plain : is_plain is_byte c ≡ true

digit : (n : ℕ) → n < 16 → Digit (digit_char n) n
digit n h = by (nat_lt n 10) refl
  where
    by : (b : Bool) → nat_lt n 10 ≡ b → Digit (cond b (48 + n) (87 + n)) n
    by true e = record { value = grind (arith, nat_tests); no_quote = grind (arith, nat_tests); no_slash = grind (arith, nat_tests); within = grind (arith, nat_tests) }
    by false e = record { value = grind (arith, nat_tests); no_quote = grind (arith, nat_tests); no_slash = grind (arith, nat_tests); within = grind (arith, nat_tests) }

same : (a b : ℕ) → (a == b) ≡ true → a ≡ b
same a b h = grind (arith, nat_tests)

turned : (a b : ℕ) → (a == b) ≡ false → (b == a) ≡ false
turned a b h = grind (arith, nat_tests)

below : (a b : ℕ) → a < b → nat_lt a b ≡ true
below a b h = grind (arith, nat_tests)

joined : (c : ℕ) → c / 16 * 16 + c % 16 ≡ c
joined c = omega arith

code_escape : (is_byte : Bool) (c : ℕ) → c < 256 → (is_byte ≡ false → c < 128) → hex_escape is_byte (c / 16) (c % 16) ≡ Some c
code_escape is_byte c h k =
    let a : nat_lt (c / 16) 16 ≡ true = below (c / 16) 16 (omega arith) in
    let b : nat_lt (c % 16) 16 ≡ true = below (c % 16) 16 (omega arith) in
    rw (a, b) (by is_byte k)
  where
    by : (x : Bool) → (x ≡ false → c < 128) → (if x || nat_lt (c / 16) 8 then Some (c / 16 * 16 + c % 16) else None) ≡ Some c
    by true k = ap Some (joined c)
    by false k = let small : c < 128 = k refl in let d : nat_lt (c / 16) 8 ≡ true = below (c / 16) 8 (omega arith) in rw d (ap Some (joined c))

-- what is not shown is a control character, or no character of ASCII
narrow : (is_byte : Bool) (c : ℕ) → is_shown is_byte c ≡ false → is_byte ≡ false → c < 128
narrow true c h e = absurd cc
narrow false c h e = grind (arith, nat_tests)

hidden : (is_byte : Bool) (c : ℕ) → (is_byte ≡ true → c < 256) → is_shown is_byte c ≡ false → c < 256
hidden true c reach h = reach refl
hidden false c reach h = let n = narrow false c h refl in omega arith

cased : (b : Bool) (P : List ℕ → Type 0) (x y : List ℕ) → (b ≡ true → P x) → (b ≡ false → P y) → P (if b then x else y)
cased true P x y f g = f refl
cased false P x y f g = g refl

one_of : (a b : Bool) → (a || b) ≡ true → (a ≡ true) ⊎ (b ≡ true)
one_of true b h = inl refl
one_of false b h = inr h

none_of : (a b : Bool) → (a || b) ≡ false → (a ≡ false) × (b ≡ false)
none_of true b h = absurd cc
none_of false b h = (refl, h)

-- what holds of each form
by_written : (is_byte : Bool) (quote c : ℕ) (P : List ℕ → Type 0) → Named quote quote → (is_byte ≡ true → c < 256)
    → ((e : ℕ) → Named e c → P (92 ∷ e ∷ []))
    → ((a b : ℕ) → Digit a (c / 16) → Digit b (c % 16) → hex_escape is_byte (c / 16) (c % 16) ≡ Some c → P (92 ∷ 120 ∷ a ∷ b ∷ []))
    → (Itself is_byte quote c → P (c ∷ []))
    → P (written is_byte quote c)
by_written is_byte quote c P q reach named coded itself =
    cased (c == quote || c == 92) P _ _ (λ h. ⊎_elim (λ e. quoted_by (same c quote e)) (λ e. slash (same c 92 e)) (one_of (c == quote) (c == 92) h)) (λ no_quote.
    cased (c == 9) P _ _ (λ h. named 116 (tab (same c 9 h))) (λ no_tab.
    cased (c == 10) P _ _ (λ h. named 110 (line (same c 10 h))) (λ no_line.
    cased (c == 13) P _ _ (λ h. named 114 (return (same c 13 h))) (λ no_return.
    cased (c == 0) P _ _ (λ h. named 48 (null (same c 0 h))) (λ no_null.
    cased (is_shown is_byte c) P _ _ (λ h. itself (shown no_quote no_tab no_line no_return h)) (λ h. in_code h))))))
  where
    quoted_by : c ≡ quote → P (92 ∷ c ∷ [])
    quoted_by e = let n : Named c c = rw e q in named c n

    slash : c ≡ 92 → P (92 ∷ c ∷ [])
    slash e = let n : Named c c = rw e record { escape = refl; no_x = refl; no_u = refl; no_line = refl; no_return = refl } in named c n

    tab : c ≡ 9 → Named 116 c
    tab e = rw e record { escape = refl; no_x = refl; no_u = refl; no_line = refl; no_return = refl }

    line : c ≡ 10 → Named 110 c
    line e = rw e record { escape = refl; no_x = refl; no_u = refl; no_line = refl; no_return = refl }

    return : c ≡ 13 → Named 114 c
    return e = rw e record { escape = refl; no_x = refl; no_u = refl; no_line = refl; no_return = refl }

    null : c ≡ 0 → Named 48 c
    null e = rw e record { escape = refl; no_x = refl; no_u = refl; no_line = refl; no_return = refl }

    shown : (c == quote || c == 92) ≡ false → (c == 9) ≡ false → (c == 10) ≡ false → (c == 13) ≡ false → is_shown is_byte c ≡ true → Itself is_byte quote c
    shown h no_tab no_line no_return k =
        let (no_quote, no_slash) = none_of (c == quote) (c == 92) h in
        record { no_quote = no_quote; no_slash = no_slash; no_tab = no_tab; no_line = no_line; no_return = no_return; plain = grind (arith, nat_tests) }

    in_code : is_shown is_byte c ≡ false → P (code c)
    in_code h =
        let small : c < 256 = hidden is_byte c reach h in
        coded (digit_char (c / 16)) (digit_char (c % 16)) (digit (c / 16) (omega arith)) (digit (c % 16) (omega arith)) (code_escape is_byte c small (λ e. narrow is_byte c h e))

-- ---- its value

abbrev style : Bool → Style
style is_byte = record { is_byte = is_byte; is_raw = false; hashes = 0 }

double : Named 34 34
double = record { escape = refl; no_x = refl; no_u = refl; no_line = refl; no_return = refl }

apostrophe : Named 39 39
apostrophe = record { escape = refl; no_x = refl; no_u = refl; no_line = refl; no_return = refl }

piece_read : (is_byte : Bool) (c : ℕ) (rest : List ℕ) → (is_byte ≡ true → c < 256)
    → content (style is_byte) 0 (written is_byte 34 c ++ rest) ≡ option_map (λ vs. c ∷ vs) (content (style is_byte) 0 rest)
piece_read is_byte c rest reach =
    by_written is_byte 34 c (λ w. content (style is_byte) 0 (w ++ rest) ≡ option_map (λ vs. c ∷ vs) (content (style is_byte) 0 rest)) double reach
    (λ e n. rw (n.no_line, n.no_return, n.no_x, n.no_u, n.escape) refl)
    (λ a b x y h. rw (x.value, y.value, h) refl)
    (λ i. rw (i.no_quote, i.no_slash, i.no_return, i.plain) refl)

-- bytes are below 256
abbrev pub AreInReach : Bool → List ℕ → Type 0
AreInReach is_byte cs = (k : ℕ) → is_byte ≡ true → get_or cs k 0 < 256

all_read : (is_byte : Bool) (cs : List ℕ) → AreInReach is_byte cs → content (style is_byte) 0 (flat_map (written is_byte 34) cs ++ 34 ∷ []) ≡ Some cs
all_read is_byte [] reach = refl
all_read is_byte (c ∷ cs) reach =
    ap (content (style is_byte) 0) (append_assoc (written is_byte 34 c) (flat_map (written is_byte 34) cs) (34 ∷ []))
    ∙ piece_read is_byte c (flat_map (written is_byte 34) cs ++ 34 ∷ []) (reach 0)
    ∙ ap (option_map (λ vs. c ∷ vs)) (all_read is_byte cs (λ k. reach (suc k)))

single_read : (is_byte : Bool) (c : ℕ) → (is_byte ≡ true → c < 256) → single is_byte ((written is_byte 39 c ++ []) ++ 39 ∷ []) ≡ Some c
single_read is_byte c reach =
    by_written is_byte 39 c (λ w. single is_byte ((w ++ []) ++ 39 ∷ []) ≡ Some c) apostrophe reach
    (λ e n. rw (n.no_x, n.no_u, n.escape) refl)
    (λ a b x y h. rw (x.value, y.value, h) refl)
    (λ i. rw (i.no_slash, i.no_quote, i.no_line, i.no_return, i.no_tab, i.plain) refl)

pub str_made : (cs : List ℕ) → str_value (quoted false 34 cs) ≡ Some cs
unfolding str_value
str_made cs = all_read false cs (λ k e. absurd cc)

pub byte_str_made : (bs : List ℕ) → AreInReach true bs → byte_str_value (quoted true 34 bs) ≡ Some bs
unfolding byte_str_value
byte_str_made bs reach = all_read true bs reach

pub char_made : (c : ℕ) → char_value (quoted false 39 (c ∷ [])) ≡ Some c
unfolding char_value
char_made c = single_read false c (λ e. absurd cc)

pub byte_made : (b : ℕ) → b < 256 → byte_value (quoted true 39 (b ∷ [])) ≡ Some b
unfolding byte_value
byte_made b h = single_read true b (λ e. h)

-- ---- it is one literal

whole : (z : Text) (n : ℕ) → n ≡ length z → ◌≡◌ {A = LexemeKind × ℕ} (literal_to z n) (Literal, length z)
whole z n e =
    ap (λ l. (Literal, n + suffix_len l)) (drop_of_length-le z {i = n} (omega (arith, e))) ∙ ap (λ m. (Literal, m)) (omega (arith, e))

-- a string goes on past it
abbrev Passes : List ℕ → Type 0
Passes w = (n : ℕ) (r : List ℕ) → string_rest false n (w ++ r) ≡ string_rest false (n + length w) r

written_passes : (is_byte : Bool) (c : ℕ) → (is_byte ≡ true → c < 256) → Passes (written is_byte 34 c)
written_passes is_byte c reach =
    by_written is_byte 34 c Passes double reach
    (λ e x n r. let two : n + 1 + 1 ≡ n + 2 = omega arith in ap (λ m. string_rest false m r) two)
    (λ a b x y h n r. let four : n + 1 + 1 + 1 + 1 ≡ n + 4 = omega arith in rw (x.no_quote, x.no_slash, y.no_quote, y.no_slash) (ap (λ m. string_rest false m r) four))
    (λ i n r. rw (i.no_quote, i.no_slash) refl)

all_pass : (is_byte : Bool) (cs : List ℕ) → AreInReach is_byte cs → Passes (flat_map (written is_byte 34) cs)
all_pass is_byte [] reach = λ n r. ap (λ m. string_rest false m r) (omega arith)
all_pass is_byte (c ∷ cs) reach = λ n r.
    ap (string_rest false n) (append_assoc (written is_byte 34 c) (flat_map (written is_byte 34) cs) r)
    ∙ written_passes is_byte c (reach 0) n (flat_map (written is_byte 34) cs ++ r)
    ∙ all_pass is_byte cs (λ k. reach (suc k)) (n + length (written is_byte 34 c)) r
    ∙ ap (λ m. string_rest false m r) (omega (arith, length-append (written is_byte 34 c) (flat_map (written is_byte 34) cs)))

str_front : (w : List ℕ) → Passes w → IsLiteralText (34 ∷ (w ++ 34 ∷ []))
unfolding front reading token
str_front w p =
    let z : List ℕ = 34 ∷ (w ++ 34 ∷ []) in
    ap (λ o. of_reading (closed z 1 o (length z))) (p 0 (34 ∷ [])) ∙ ap Some (whole z (1 + (0 + length w + 1)) (omega (arith, length-append w (34 ∷ []))))

byte_str_front : (w : List ℕ) → Passes w → IsLiteralText (98 ∷ 34 ∷ (w ++ 34 ∷ []))
unfolding front reading token
byte_str_front w p =
    let z : List ℕ = 98 ∷ 34 ∷ (w ++ 34 ∷ []) in
    ap (λ o. of_reading (closed z 2 o (length z))) (p 0 (34 ∷ [])) ∙ ap Some (whole z (2 + (0 + length w + 1)) (omega (arith, length-append w (34 ∷ []))))

-- a character is closed after it
record IsCharacter (w : List ℕ) : Type 0 where
  pub closes : is_character (w ++ 39 ∷ []) ≡ true
  pub len : character_len (w ++ 39 ∷ []) ≡ length w

written_closes : (is_byte : Bool) (c : ℕ) → (is_byte ≡ true → c < 256) → IsCharacter (written is_byte 39 c)
written_closes is_byte c reach =
    by_written is_byte 39 c IsCharacter apostrophe reach
    (λ e n. record { closes = refl; len = refl })
    (λ a b x y h. record { closes = rw (x.within, y.within) refl; len = rw (x.within, y.within) refl })
    (λ i. let no_slash : (92 == c) ≡ false = turned c 92 i.no_slash in record { closes = rw (no_slash, i.no_quote, i.no_line) refl; len = rw no_slash refl })

no_word : is_xid_start 39 ≡ false
no_word = is_xid_start-ascii 39 (lit< tt)

char_front : (w : List ℕ) → IsCharacter w → IsLiteralText (39 ∷ (w ++ 39 ∷ []))
unfolding front reading token
char_front w h =
    let z : List ℕ = 39 ∷ (w ++ 39 ∷ []) in
    rw (no_word, h.closes, h.len) (ap Some (whole z (1 + (length w + 1)) (omega (arith, length-append w (39 ∷ [])))))

byte_front : (w : List ℕ) → IsCharacter w → IsLiteralText (98 ∷ 39 ∷ (w ++ 39 ∷ []))
unfolding front reading token
byte_front w h =
    let z : List ℕ = 98 ∷ 39 ∷ (w ++ 39 ∷ []) in
    rw (h.closes, h.len) (ap Some (whole z (2 + (length w + 1)) (omega (arith, length-append w (39 ∷ [])))))

pub str_is_literal : (cs : List ℕ) → IsLiteralText (quoted false 34 cs)
str_is_literal cs = str_front (flat_map (written false 34) cs) (all_pass false cs (λ k e. absurd cc))

pub byte_str_is_literal : (bs : List ℕ) → AreInReach true bs → IsLiteralText (quoted true 34 bs)
byte_str_is_literal bs reach = byte_str_front (flat_map (written true 34) bs) (all_pass true bs reach)

pub char_is_literal : (c : ℕ) → IsLiteralText (quoted false 39 (c ∷ []))
char_is_literal c =
    subst (λ w. IsLiteralText (39 ∷ (w ++ 39 ∷ []))) (sym (append-nil (written false 39 c))) (char_front (written false 39 c) (written_closes false c (λ e. absurd cc)))

pub byte_is_literal : (b : ℕ) → b < 256 → IsLiteralText (quoted true 39 (b ∷ []))
byte_is_literal b h =
    subst (λ w. IsLiteralText (98 ∷ 39 ∷ (w ++ 39 ∷ []))) (sym (append-nil (written true 39 b))) (byte_front (written true 39 b) (written_closes true b (λ e. h)))

-- ---- numbers and truth values

pub signed_again : {M : Type 0} (m : Option M) (text token : Text) → is_some m ≡ has_minus text → token ≡ without_minus text → signed m token ≡ text
signed_again None [] token h e = e
signed_again None (c ∷ z) token h e = e ∙ ap (λ (b : Bool). if b then z else c ∷ z) (sym h)
signed_again (Some m) [] token h e = absurd cc
signed_again (Some m) (c ∷ z) token h e = let minus : c ≡ 45 = same c 45 (sym h) in ap (λ l. 45 ∷ l) (e ∙ ap (λ (b : Bool). if b then z else c ∷ z) (sym h)) ∙ ap (λ d. d ∷ z) (sym minus)

pub ruleset numbers = (signed_again)

true_is_word : IsIdentText (chars (codes "true"))
unfolding front reading token chars
true_is_word = rw (is_xid_start-ascii 116 (lit< tt), is_xid_continue-ascii 114 (lit< tt), is_xid_continue-ascii 117 (lit< tt), is_xid_continue-ascii 101 (lit< tt)) refl

false_is_word : IsIdentText (chars (codes "false"))
unfolding front reading token chars
false_is_word = rw (is_xid_start-ascii 102 (lit< tt), is_xid_continue-ascii 97 (lit< tt), is_xid_continue-ascii 108 (lit< tt), is_xid_continue-ascii 115 (lit< tt), is_xid_continue-ascii 101 (lit< tt)) refl

pub truth_is_word : (b : Bool) → IsIdentText (chars (truth_text b))
truth_is_word true = true_is_word
truth_is_word false = false_is_word

pub truth_value : (b : Bool) → bool_value (truth_text b) ≡ b
truth_value true = refl
truth_value false = refl

pub ruleset truths = (truth_is_word, truth_value)

-- ---- by the bytes of the text

pub is_made : (z bytes : List ℕ) → IsUtf8 bytes → bytes ≡ encode_utf8_all z → chars bytes ≡ z
is_made z bytes u e = sym (chars_from_encodes z bytes u (sym e))

pub is_literal : (z bytes : List ℕ) → IsUtf8 bytes → bytes ≡ encode_utf8_all z → IsLiteralText z → IsLiteralText (chars bytes)
is_literal z bytes u e h = subst IsLiteralText (sym (is_made z bytes u e)) h

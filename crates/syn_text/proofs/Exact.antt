-- A text falls only into tokens that stay themselves.
use Rattle.std.proofs.Common.{◌≡◌, ℕ, zero, suc, ◌+◌, ◌-◌, ◌≤◌, ◌<◌, Bool, true, false, not, ◌&&◌, ◌||◌, cond, List, [], ◌∷◌, ◌++◌, length, take, drop, get_or, slice_index, nat_eq, nat_le, refl, sym, ◌∙◌, ap, ap₂, subst, inl, inr, append_assoc, append-nil, arith, codes, encode_utf8_all, Option, Some, None, Ok, Err}
use Rattle.std.specs.Prelude.{◌==◌, if◌then◌else◌}
use Rattle.std.specs.Char.{is_ascii_digit, is_ascii_alphabetic}
use Rattle.std.specs.List.{prefix_len, list_all}
use Rattle.std.specs.Str.{is_utf8, chars}
use Rattle.std.proofs.lemmas.Bool.{and_parts, and_from, and_left, and_right, or_from, or_cases, both_ways, not_from_false, false_from_ne_true, eqb-true, ne_eqb, cases_lt, leb-true, agree_below_at}
use Rattle.std.proofs.lemmas.List.{length-take-le, take-append-drop}
use Rattle.std.proofs.lemmas.Str.{chars-encodes, scalars-chars, char_from_byte, is_utf8-from_IsUtf8}
use lib.Utf8.{scalar, scalars, encode, encodes}
use Rattle.unicode_ident.specs.Ident.{is_xid_continue}
use Rattle.unicode_ident.proofs.Computing.{unicode_ident}
use Rattle.unicode_ident.proofs.IdentLemmas.{is_xid_start-ascii, is_xid_continue-ascii}
use Rattle.syn_lexer.specs.Text.{Text, Reading, begins, single_quote}
use Rattle.syn_lexer.specs.Blanks.{is_white_space, white_space_len, begins_comment, begins_line_comment, line_comment, line_comment_len, is_line_doc, begins_block_comment, block_comment, comment_to, comment_rest, is_block_doc}
use Rattle.syn_lexer.specs.Words.{is_word_start, starts_word, word_len, begins_raw_word, is_reserved_raw, raw_word}
use Rattle.syn_lexer.specs.Numbers.{number}
use Rattle.syn_lexer.specs.Quotes.{closed, hashes_len, raw_prefix_len, begins_raw_string, begins_string, begins_byte, string, raw_string, byte, is_character, character_rest, unclosed_len, begins_plain_word, character_or_lifetime}
use Rattle.syn_lexer.specs.Lex.{is_punct, spacing_before, single_kind, single, one_character, token, reading, of_reading, front}
use Rattle.syn_lexer.specs.declared.front.Delimiter.TheVariants as delimiter
use Rattle.syn_lexer.specs.declared.front.Spacing.{Spacing}
use Rattle.syn_lexer.specs.declared.front.Spacing.TheVariants.{Alone, Joint}
use Rattle.syn_lexer.specs.declared.front.LexemeKind.{LexemeKind}
use Rattle.syn_lexer.specs.declared.front.LexemeKind.TheVariants as kind
use Rattle.syn_lexer.specs.declared.error.LexError.TheVariants.{MalformedLifetime, ReservedRawIdentifier, DocComment}
use Rattle.syn_tokens.specs.Tok.{Tok, Inside, toks, inside, ident, punct, literal, group, nothing, first}
use Rattle.syn_tokens.specs.Lex.{Piece, leaf, opens, closes, pieces, pieces_from, lexeme_pieces, lexeme_then, then_pieces, pieces_of, pieces_inside, flat, Spells}
use Rattle.syn_tokens.specs.Text.{text}
use Rattle.syn_tokens.proofs.Nests.{pieces_inside-inside}
use Rattle.syn_text.specs.Lexed.{IsOfText, IsExact, IsReadAgain, is_ident, is_literal, is_whole, is_ident_text, is_literal_text, sees_plain_ident, joins, is_written, stays, inside_is_lexed, is_lexed}
use Rattle.syn_text.proofs.Branches.{passes, closed_fails, if_fails, number_fails, token_2, token_3, token_4, token_5, token_6, token_7, reading_2, reading_3, end_of}
use Rattle.syn_text.proofs.Behind.{is_leaf, read_is}
use Rattle.syn_text.proofs.Puncts.{continues, punct_front, quote_reading}
use Rattle.syn_text.proofs.Again.{ident_is, literal_is, quote_comment, lexed_inside, text_is_utf8, text_is_read_again}
use Rattle.syn_text.proofs.Tests.{whole}
use Rattle.syn_text.proofs.Cut.{front_cut}
use Rattle.syn_text.proofs.Bounds.{Fits, is_solid, reading_fits}

-- ---- the characters of words

-- none of the marks that end a prefix of a literal or a raw identifier, and none that begins a comment
abbrev no_mark : ℕ → Bool
no_mark c = not (c == 34) && (not (c == 35) && (not (c == 39) && not (c == 47)))

abbrev no_marks : Text → Bool
no_marks w = list_all no_mark w

module _ (p : ℕ → Bool) (c : ℕ) (passes : p c ≡ true) where
  differs : (q : ℕ) → p q ≡ false → not (c == q) ≡ true
  differs q none = not_from_false (c == q) (ne_eqb c q (λ e. both_ways (p c) (ap p e ∙ none) passes))

  marks_fail : p 34 ≡ false → p 35 ≡ false → p 39 ≡ false → p 47 ≡ false → no_mark c ≡ true
  marks_fail a b d e =
      and_from (not (c == 34)) (not (c == 35) && (not (c == 39) && not (c == 47))) (differs 34 a)
      (and_from (not (c == 35)) (not (c == 39) && not (c == 47)) (differs 35 b)
      (and_from (not (c == 39)) (not (c == 47)) (differs 39 d) (differs 47 e)))

start_no_mark : (c : ℕ) → is_word_start c ≡ true → no_mark c ≡ true
start_no_mark c h =
    marks_fail is_word_start c h (is_xid_start-ascii 34 (omega arith)) (is_xid_start-ascii 35 (omega arith)) (is_xid_start-ascii 39 (omega arith)) (is_xid_start-ascii 47 (omega arith))

on_no_mark : (c : ℕ) → is_xid_continue c ≡ true → no_mark c ≡ true
on_no_mark c h =
    marks_fail is_xid_continue c h (is_xid_continue-ascii 34 (omega arith)) (is_xid_continue-ascii 35 (omega arith)) (is_xid_continue-ascii 39 (omega arith)) (is_xid_continue-ascii 47 (omega arith))

all_on : (w : Text) → prefix_len is_xid_continue w ≡ length w → no_marks w ≡ true
all_on [] h = refl
all_on (c ∷ w) h =
    let on : is_xid_continue c ≡ true = continues is_xid_continue c w h in
    and_from (no_mark c) (no_marks w) (on_no_mark c on) (all_on w (by (is_xid_continue c) (prefix_len is_xid_continue w) (length w) h))
  where
    by : (b : Bool) (n m : ℕ) → cond b (1 + n) 0 ≡ suc m → n ≡ m
    by true n m e = omega arith
    by false n m e = absurd (omega arith)

marks_in : (m w : Text) → no_marks w ≡ true → begins m w ≡ true → no_marks m ≡ true
marks_in [] w good h = refl
marks_in (a ∷ m) [] good h = absurd cc
marks_in (a ∷ m) (b ∷ w) good h =
    let parts = and_parts (nat_eq a b) (begins m w) h in
    let goods = and_parts (no_mark b) (no_marks w) good in
    and_from (no_mark a) (no_marks m) (ap no_mark (eqb-true a b parts.0) ∙ goods.0) (marks_in m w goods.1 parts.1)

begins_no : (m w : Text) → no_marks m ≡ false → no_marks w ≡ true → begins m w ≡ false
begins_no m w mark good = false_from_ne_true (begins m w) (λ h. both_ways (no_marks m) mark (marks_in m w good h))

drop_no_marks : (n : ℕ) (w : Text) → no_marks w ≡ true → no_marks (drop n w) ≡ true
drop_no_marks zero w good = good
drop_no_marks (suc n) [] good = refl
drop_no_marks (suc n) (c ∷ w) good = drop_no_marks n w (and_parts (no_mark c) (no_marks w) good).1

-- ---- no white space begins a word

abbrev is_both : ℕ → Bool
is_both c = is_white_space c && ((c == 95) || is_ascii_alphabetic c)

no_start_85 : is_word_start 0x85 ≡ false
unfolding unicode_ident
no_start_85 = refl

no_start_200e : is_word_start 0x200e ≡ false
unfolding unicode_ident
no_start_200e = refl

no_start_200f : is_word_start 0x200f ≡ false
unfolding unicode_ident
no_start_200f = refl

no_start_2028 : is_word_start 0x2028 ≡ false
unfolding unicode_ident
no_start_2028 = refl

no_start_2029 : is_word_start 0x2029 ≡ false
unfolding unicode_ident
no_start_2029 = refl

module _ (c : ℕ) (start : is_word_start c ≡ true) where
  clash : (q : ℕ) → is_word_start q ≡ false → (c == q) ≡ true → ⊥
  clash q none e = both_ways (is_word_start c) (ap is_word_start (eqb-true c q e) ∙ none) start

  low_clash : c < 128 → is_white_space c ≡ true → ⊥
  low_clash small white =
      let word : ((c == 95) || is_ascii_alphabetic c) ≡ true = ap (λ b. (c == 95) || b) (sym (is_xid_start-ascii c small)) ∙ start in
      both_ways (is_both c) (agree_below_at is_both (λ n. false) 128 c refl small) (and_from (is_white_space c) ((c == 95) || is_ascii_alphabetic c) white word)

  high_clash : 128 ≤ c → is_white_space c ≡ true → ⊥
  high_clash large white =
      split _ (c == 0x2029) (clash 0x2029 no_start_2029)
      (split _ (c == 0x2028) (clash 0x2028 no_start_2028)
      (split _ (c == 0x200f) (clash 0x200f no_start_200f)
      (split _ (c == 0x200e) (clash 0x200e no_start_200e)
      (split _ (c == 0x85) (clash 0x85 no_start_85)
      (split (nat_le 9 c && nat_le c 13) (c == 32) (λ e. let s : c ≡ 32 = eqb-true c 32 e in omega arith)
      (λ e. let le = leb-true c 13 (and_parts (nat_le 9 c) (nat_le c 13) e).1 in omega arith)))))) white
    where
      split : (a b : Bool) → (b ≡ true → ⊥) → (a ≡ true → ⊥) → (a || b) ≡ true → ⊥
      split a b f g h = elim (or_cases a b h) [ inl x ↦ g x | inr x ↦ f x ]

  no_white : is_white_space c ≡ false
  no_white = false_from_ne_true (is_white_space c) (λ white. elim (cases_lt c 128) [ inl small ↦ low_clash small white | inr large ↦ high_clash large white ])

-- ---- a word that is not raw is an identifier

skip : (b : Bool) (x y : Reading) → b ≡ false → (if b then x else y) ≡ y
skip b x y e = ap (λ c. if c then x else y) e

word_is_read : (a : ℕ) (w : Text) → is_word_start a ≡ true → no_marks (a ∷ w) ≡ true → reading (a ∷ w) ≡ Ok (kind.Ident, word_len (a ∷ w))
unfolding reading token
word_is_read a w start good =
    let v = a ∷ w in
    let p = raw_prefix_len v in
    skip (is_white_space a) (Ok (kind.Blank, white_space_len v)) (reading_2 v) (no_white a start)
    ∙ skip (begins_line_comment v) (line_comment v) (reading_3 v) (begins_no (codes "//") v refl good)
    ∙ skip (begins_block_comment v) (block_comment v) (token v) (begins_no (codes "/*") v refl good)
    ∙ skip (begins_string v) (string v) (token_2 v)
    (or_from (begins (codes "\"") v || begins (codes "b\"") v) (begins (codes "c\"") v)
    (or_from (begins (codes "\"") v) (begins (codes "b\"") v) (begins_no (codes "\"") v refl good) (begins_no (codes "b\"") v refl good))
    (begins_no (codes "c\"") v refl good))
    ∙ skip (begins_raw_string v) (raw_string v) (token_3 v)
    (and_right (not (p == 0)) (begins (codes "\"") (drop (hashes_len (drop p v)) (drop p v)))
    (begins_no (codes "\"") (drop (hashes_len (drop p v)) (drop p v)) refl (drop_no_marks (hashes_len (drop p v)) (drop p v) (drop_no_marks p v good))))
    ∙ skip (begins_byte v) (byte v) (token_4 v) (begins_no (codes "b'") v refl good)
    ∙ skip (begins_raw_word v) (raw_word v) (token_5 v) (and_left (begins (codes "r#") v) (starts_word (drop 2 v)) (begins_no (codes "r#") v refl good))
    ∙ ap (λ b. if b then Ok (kind.Ident, word_len v) else token_6 v) start

-- ---- what is no word and no literal

-- lifetimes, puncts and delimiters
abbrev is_mark : LexemeKind → Bool
is_mark kind.Blank = false
is_mark kind.Ident = false
is_mark kind.Literal = false
is_mark _ = true

either : {C : Type 0} (b : Bool) (x y g : Reading) → (b ≡ true → x ≡ g → C) → (b ≡ false → y ≡ g → C) → (if b then x else y) ≡ g → C
either true x y g f h i = f refl i
either false x y g f h i = h refl i

module _ {C : Type 0} (z : Text) (k : LexemeKind) (n : ℕ) (mark : is_mark k ≡ true)
    (quote : (slice_index z 0 == 39) ≡ true → character_or_lifetime z ≡ Ok (k, n) → C)
    (sign : begins_comment z ≡ false → (slice_index z 0 == 39) ≡ false → single z ≡ Ok (k, n) → C) where
  abbrev read : Reading
  read = Ok (k, n)

  other : (r : Reading) → passes is_mark refl r ≡ false → r ≡ read → C
  other r none is = absurd (both_ways (passes is_mark refl r) none (ap (passes is_mark refl) is ∙ mark))

  mark_token : begins_comment z ≡ false → token z ≡ read → C
  unfolding token
  mark_token none =
      either (begins_string z) (string z) (token_2 z) read (λ b. other (string z) (closed_fails is_mark refl z _ _ _))
      (λ b. either (begins_raw_string z) (raw_string z) (token_3 z) read (λ b. other (raw_string z) (closed_fails is_mark refl z _ _ _))
      (λ b. either (begins_byte z) (byte z) (token_4 z) read (λ b. other (byte z) (closed_fails is_mark refl z _ _ _))
      (λ b. either (begins_raw_word z) (raw_word z) (token_5 z) read
      (λ b. other (raw_word z) (if_fails is_mark refl (is_reserved_raw (take (word_len (drop 2 z)) (drop 2 z))) (Err (ReservedRawIdentifier, 2 + word_len (drop 2 z))) (Ok (kind.Ident, 2 + word_len (drop 2 z))) refl refl))
      (λ b. either (starts_word z) (Ok (kind.Ident, word_len z)) (token_6 z) read (λ b. other (Ok (kind.Ident, word_len z)) refl)
      (λ b. either (is_ascii_digit (slice_index z 0)) (number z) (token_7 z) read (λ b. other (number z) (number_fails is_mark refl z))
      (λ b. either (slice_index z 0 == single_quote) (character_or_lifetime z) (single z) read quote (sign none)))))))

  comment_fails : (o : Option ℕ) → passes is_mark refl (comment_to z o) ≡ false
  comment_fails None = refl
  comment_fails (Some m) = if_fails is_mark refl (is_block_doc z) (Err (DocComment, 2 + m)) (Ok (kind.Blank, 2 + m)) refl refl

  mark_reading : reading z ≡ read → C
  unfolding reading
  mark_reading =
      either (is_white_space (slice_index z 0)) (Ok (kind.Blank, white_space_len z)) (reading_2 z) read (λ b. other (Ok (kind.Blank, white_space_len z)) refl)
      (λ b. either (begins_line_comment z) (line_comment z) (reading_3 z) read
      (λ b. other (line_comment z) (if_fails is_mark refl (is_line_doc z) (Err (DocComment, line_comment_len z)) (Ok (kind.Blank, line_comment_len z)) refl refl))
      (λ line. either (begins_block_comment z) (block_comment z) (token z) read (λ b. other (block_comment z) (comment_fails (comment_rest false 0 0 (drop 2 z))))
      (λ block. mark_token (or_from (begins_line_comment z) (begins_block_comment z) line block))))

-- what is one character
abbrev Good : ℕ → Text → LexemeKind → Type 0
Good c z (kind.Punct d s) = (d ≡ c) × (s ≡ spacing_before z) × (is_punct c ≡ true)
Good c z (kind.Open d) = is_written d ≡ true
Good c z (kind.Close d) = Unit {0}
Good c z _ = ⊥

abbrev GoodKind : ℕ → Text → Option LexemeKind → Type 0
GoodKind c z None = Unit {0}
GoodKind c z (Some k) = Good c z k

single_good : (c : ℕ) (z : Text) → GoodKind c z (single_kind (c ∷ z))
unfolding single_kind
single_good c z =
    pick (c == 40) (Some (kind.Open delimiter.Parenthesis)) _ (λ e. refl)
    (pick (c == 41) (Some (kind.Close delimiter.Parenthesis)) _ (λ e. tt)
    (pick (c == 91) (Some (kind.Open delimiter.Bracket)) _ (λ e. refl)
    (pick (c == 93) (Some (kind.Close delimiter.Bracket)) _ (λ e. tt)
    (pick (c == 123) (Some (kind.Open delimiter.Brace)) _ (λ e. refl)
    (pick (c == 125) (Some (kind.Close delimiter.Brace)) _ (λ e. tt)
    (pick (is_punct c) (Some (kind.Punct c (spacing_before z))) None (λ e. (refl, refl, e)) tt))))))
  where
    pick : (b : Bool) (x y : Option LexemeKind) → (b ≡ true → GoodKind c z x) → GoodKind c z y → GoodKind c z (if b then x else y)
    pick true x y f g = f refl
    pick false x y f g = g

abbrev kind_in : Reading → Option LexemeKind
kind_in (Ok p) = Some p.0
kind_in (Err e) = None

single_is : (o : Option LexemeKind) (k : LexemeKind) (n : ℕ) → one_character o ≡ Ok (k, n) → (o ≡ Some k) × (n ≡ 1)
single_is None k n is = absurd cc
single_is (Some j) k n is = (ap kind_in is, sym (ap end_of is))

good_single : (c : ℕ) (z : Text) (k : LexemeKind) (n : ℕ) → single (c ∷ z) ≡ Ok (k, n) → Good c z k × (n ≡ 1)
good_single c z k n is =
    let got = single_is (single_kind (c ∷ z)) k n is in
    (subst (GoodKind c z) got.0 (single_good c z), got.1)

-- what begins with `'`
abbrev is_quoted : LexemeKind → Bool
is_quoted kind.Literal = true
is_quoted kind.Lifetime = true
is_quoted _ = false

abbrev quoted_read : Reading → Bool
quoted_read (Ok p) = is_quoted p.0
quoted_read (Err e) = true

closed_reads : (z : Text) (n : ℕ) (o : Option ℕ) (u : ℕ) → quoted_read (closed z n o u) ≡ true
closed_reads z n None u = refl
closed_reads z n (Some m) u = refl

if_reads : (b : Bool) (x y : Reading) → quoted_read x ≡ true → quoted_read y ≡ true → quoted_read (if b then x else y) ≡ true
if_reads true x y p q = p
if_reads false x y p q = q

quote_reads : (z : Text) → quoted_read (character_or_lifetime z) ≡ true
quote_reads z =
    let x = drop 1 z in
    if_reads (is_character x || begins (codes "\\") x) (closed z 1 (character_rest x) (unclosed_len 1 z))
    (if begins_plain_word x then Ok (kind.Lifetime, 1 + word_len x) else Err (MalformedLifetime, 1)) (closed_reads z 1 (character_rest x) (unclosed_len 1 z))
    (if_reads (begins_plain_word x) (Ok (kind.Lifetime, 1 + word_len x)) (Err (MalformedLifetime, 1)) refl refl)

abbrev is_life : LexemeKind → Bool
is_life kind.Lifetime = true
is_life _ = false

life_is : (z : Text) (n : ℕ) → character_or_lifetime z ≡ Ok (kind.Lifetime, n) → (begins_plain_word (drop 1 z) ≡ true) × (n ≡ 1 + word_len (drop 1 z))
life_is z n =
    let x = drop 1 z in
    either (is_character x || begins (codes "\\") x) (closed z 1 (character_rest x) (unclosed_len 1 z))
    (if begins_plain_word x then Ok (kind.Lifetime, 1 + word_len x) else Err (MalformedLifetime, 1)) (Ok (kind.Lifetime, n))
    (λ b i. absurd (both_ways (passes is_life refl (closed z 1 (character_rest x) (unclosed_len 1 z))) (closed_fails is_life refl z 1 (character_rest x) (unclosed_len 1 z)) (ap (passes is_life refl) i)))
    (λ b. either (begins_plain_word x) (Ok (kind.Lifetime, 1 + word_len x)) (Err (MalformedLifetime, 1)) (Ok (kind.Lifetime, n)) (λ w i. (w, sym (ap end_of i))) (λ w i. absurd cc))

-- ---- pieces that stay

abbrev sees_plain : List Piece → Bool
sees_plain (leaf (ident s) ∷ ps) = not (begins (codes "r#") s)
sees_plain _ = false

abbrev follows : ℕ → List Piece → Bool
follows c (leaf (punct d s) ∷ ps) = not (begins_comment (c ∷ d ∷ []))
follows c (leaf (literal s) ∷ ps) = begins (codes "'") s
follows c _ = false

abbrev leaf_stays : Tok → List Piece → Bool
leaf_stays (ident s) ps = is_ident_text s
leaf_stays (literal s) ps = is_literal_text s
leaf_stays (punct c Alone) ps = is_punct c && not (c == single_quote)
leaf_stays (punct c Joint) ps = if c == single_quote then sees_plain ps else is_punct c && follows c ps
leaf_stays (group d i) ps = false

abbrev piece_stays : Piece → List Piece → Bool
piece_stays (leaf t) ps = leaf_stays t ps
piece_stays (opens d) ps = is_written d
piece_stays (closes d) ps = true

abbrev all_stay : List Piece → Bool
all_stay [] = true
all_stay (p ∷ ps) = piece_stays p ps && all_stay ps

-- ---- each lexeme's pieces stay before those of the rest

bounds : (c : ℕ) (z : Text) (k : LexemeKind) (n : ℕ) → is_solid k ≡ true → front (c ∷ z) ≡ Some (k, n) → (1 ≤ n) × (n ≤ suc (length z))
unfolding front
bounds c z k n solid is = subst (Fits (c ∷ z)) (read_is (reading (c ∷ z)) k n is) (reading_fits c z) solid

leaf_solid : (k : LexemeKind) → is_leaf k ≡ true → is_solid k ≡ true
leaf_solid kind.Blank h = cc
leaf_solid _ h = refl

leaf_text : (c : ℕ) (z : Text) (k : LexemeKind) (n : ℕ) → is_leaf k ≡ true → front (c ∷ z) ≡ Some (k, n)
    → front (take n (c ∷ z)) ≡ Some (k, length (take n (c ∷ z)))
leaf_text c z k n one is =
    let fits = bounds c z k n (leaf_solid k one) is in
    let w = take n (c ∷ z) in
    let y = drop n (c ∷ z) in
    let long : length w ≡ n = length-take-le n (c ∷ z) fits.1 in
    front_cut y k one w (omega arith) (ap front (take-append-drop n (c ∷ z)) ∙ is ∙ ap (λ m. Some (k, m)) (sym long))

scalars-take : (n : ℕ) (z : Text) → scalars z ≡ true → scalars (take n z) ≡ true
scalars-take zero z h = refl
scalars-take (suc n) [] h = refl
scalars-take (suc n) (c ∷ z) h = let parts = and_parts (scalar c) (scalars z) h in and_from (scalar c) (scalars (take n z)) parts.0 (scalars-take n z parts.1)

text_stays : (test : LexemeKind → Bool) (w : Text) → scalars w ≡ true → is_whole test w ≡ true
    → (is_utf8 (encode_utf8_all w) && is_whole test (chars (encode_utf8_all w))) ≡ true
text_stays test w u h =
    and_from (is_utf8 (encode_utf8_all w)) (is_whole test (chars (encode_utf8_all w))) (is_utf8-from_IsUtf8 (encode_utf8_all w) (w, (u, refl)))
    (ap (is_whole test) (chars-encodes w u) ∙ h)

-- ---- lifetimes

begins_first : (q : ℕ) (bs : List ℕ) → begins (q ∷ []) bs ≡ true → (get_or bs 0 0 ≡ q) × (0 < length bs)
begins_first q [] h = absurd cc
begins_first q (b ∷ bs) h = (sym (eqb-true q b (and_parts (nat_eq q b) true h).0), omega arith)

first_char : (q c : ℕ) (w : Text) → q < 128 → begins (q ∷ []) (encode_utf8_all (c ∷ w)) ≡ true → c ≡ q
first_char q c w small h =
    let got = begins_first q (encode_utf8_all (c ∷ w)) h in
    char_from_byte (encode_utf8_all (c ∷ w)) (encode_utf8_all w) c refl (subst (λ b. b < 128) (sym got.0) small) got.1 ∙ got.0

begins_one : (q : ℕ) (m bs : List ℕ) → begins (q ∷ m) bs ≡ true → begins (q ∷ []) bs ≡ true
begins_one q m [] h = absurd cc
begins_one q m (b ∷ bs) h = and_from (nat_eq q b) true (and_parts (nat_eq q b) (begins m bs) h).0 refl

plain_bytes : (w : Text) → no_marks w ≡ true → begins (codes "r#") (encode_utf8_all w) ≡ false
unfolding encode
plain_bytes [] good = refl
plain_bytes (a ∷ w) good =
    false_from_ne_true (begins (codes "r#") (encode_utf8_all (a ∷ w))) (λ h.
    let one : a ≡ 114 = first_char 114 a w (omega arith) (begins_one 114 (35 ∷ []) (encode_utf8_all (a ∷ w)) h) in
    by w (and_parts (no_mark a) (no_marks w) good).1 (ap (λ c. begins (codes "r#") (encode_utf8_all (c ∷ w))) (sym one) ∙ h))
  where
    by : (w : Text) → no_marks w ≡ true → begins (codes "r#") (encode_utf8_all (114 ∷ w)) ≡ true → ⊥
    by [] good h = absurd cc
    by (b ∷ w) good h =
        let two : b ≡ 35 = first_char 35 b w (omega arith) h in
        both_ways (no_mark b) (ap no_mark two) (and_parts (no_mark b) (no_marks w) good).0

take_on : (p : ℕ → Bool) (v : Text) → prefix_len p (take (prefix_len p v) v) ≡ length (take (prefix_len p v) v)
take_on p [] = refl
take_on p (c ∷ v) = by (p c) refl (take_on p v)
  where
    by : (b : Bool) → p c ≡ b → prefix_len p (take (prefix_len p v) v) ≡ length (take (prefix_len p v) v)
        → prefix_len p (take (cond b (1 + prefix_len p v) 0) (c ∷ v)) ≡ length (take (cond b (1 + prefix_len p v) 0) (c ∷ v))
    by false e h = refl
    by true e h =
        let one : 1 + prefix_len p v ≡ suc (prefix_len p v) = omega arith in
        let more : 1 + prefix_len p (take (prefix_len p v) v) ≡ suc (length (take (prefix_len p v) v)) = omega arith in
        ap (λ n. prefix_len p (take n (c ∷ v))) one
        ∙ ap (λ b. cond b (1 + prefix_len p (take (prefix_len p v) v)) 0) e
        ∙ more ∙ ap (λ n. length (take n (c ∷ v))) (sym one)

-- the identifier of a lifetime
life_word : (a : ℕ) (z : Text) → is_word_start a ≡ true
    → let v = a ∷ take (prefix_len is_xid_continue z) z in (no_marks v ≡ true) × (is_whole is_ident v ≡ true)
unfolding front
life_word a z start =
    let w = take (prefix_len is_xid_continue z) z in
    let on : prefix_len is_xid_continue w ≡ length w = take_on is_xid_continue z in
    let good : no_marks (a ∷ w) ≡ true = and_from (no_mark a) (no_marks w) (start_no_mark a start) (all_on w on) in
    let size : word_len (a ∷ w) ≡ length (a ∷ w) = omega arith in
    (good, whole is_ident kind.Ident refl ident_is (a ∷ w) (ap of_reading (word_is_read a w start good ∙ ap (λ n. Ok (kind.Ident, n)) size)))

life_stays : (c : ℕ) (z : Text) (n : ℕ) (qs : List Piece) → scalars z ≡ true → starts_word z ≡ true → n ≡ 1 + word_len z → all_stay qs ≡ true
    → all_stay (lexeme_pieces kind.Lifetime (take n (c ∷ z)) ++ qs) ≡ true
life_stays c [] n qs u start size rest = absurd cc
life_stays c (a ∷ z) n qs u start size rest =
    let m = prefix_len is_xid_continue z in
    let v = a ∷ take m z in
    let word = life_word a z start in
    let long : n ≡ suc (suc m) = omega arith in
    let plain = plain_bytes v word.0 in
    let parts = and_parts (scalar a) (scalars z) u in
    let utf8 : scalars v ≡ true = and_from (scalar a) (scalars (take m z)) parts.0 (scalars-take m z parts.1) in
    ap (λ i. all_stay (lexeme_pieces kind.Lifetime (take i (c ∷ (a ∷ z))) ++ qs)) long
    ∙ and_from (not (begins (codes "r#") (encode_utf8_all v))) (is_ident_text (encode_utf8_all v) && all_stay qs) (not_from_false (begins (codes "r#") (encode_utf8_all v)) plain)
    (and_from (is_ident_text (encode_utf8_all v)) (all_stay qs) (text_stays is_ident v utf8 word.1) rest)

-- ---- joint puncts

lead : (ps : List Piece) (o : Option (List Piece)) (qs : List Piece) → then_pieces ps o ≡ Some qs → (rs : List Piece) × (qs ≡ ps ++ rs)
lead ps None qs e = absurd cc
lead ps (Some rs) qs e = (rs, cc)

joint_parts : (a b : Bool) → (if a && not b then Joint else Alone) ≡ Joint → (a ≡ true) × (b ≡ false)
joint_parts true false h = (refl, refl)
joint_parts true true h = absurd cc
joint_parts false b h = absurd cc

quote_kind : (x : Text) (k : LexemeKind) (n : ℕ) → front (39 ∷ x) ≡ Some (k, n) → is_quoted k ≡ true
unfolding front
quote_kind x k n is = ap quoted_read (sym (sym (quote_reading x) ∙ read_is (reading (39 ∷ x)) k n is)) ∙ quote_reads (39 ∷ x)

quote_follows : (c : ℕ) (x : Text) (k : LexemeKind) (n : ℕ) (o : Option (List Piece)) (qs : List Piece) → is_quoted k ≡ true → 1 ≤ n
    → then_pieces (lexeme_pieces k (take n (39 ∷ x))) o ≡ Some qs → follows c qs ≡ true
unfolding encode
quote_follows c x kind.Literal zero o qs q some e = absurd (omega arith)
quote_follows c x kind.Literal (suc m) o qs q some e = let got = lead (lexeme_pieces kind.Literal (39 ∷ take m x)) o qs e in ap (follows c) got.1
quote_follows c x kind.Lifetime n o qs q some e =
    let got = lead (lexeme_pieces kind.Lifetime (take n (39 ∷ x))) o qs e in
    ap (follows c) got.1 ∙ ap not (quote_comment c [])
quote_follows c x kind.Blank n o qs q some e = absurd cc
quote_follows c x kind.Ident n o qs q some e = absurd cc
quote_follows c x (kind.Punct d s) n o qs q some e = absurd cc
quote_follows c x (kind.Open d) n o qs q some e = absurd cc
quote_follows c x (kind.Close d) n o qs q some e = absurd cc

quoted_solid : (k : LexemeKind) → is_quoted k ≡ true → is_solid k ≡ true
quoted_solid kind.Blank h = cc
quoted_solid _ h = refl

quote_joins : (c : ℕ) (x : Text) (qs : List Piece) (o : Option (LexemeKind × ℕ)) → front (39 ∷ x) ≡ o
    → lexeme_then (39 ∷ x) o (λ left. pieces_from left x) ≡ Some qs → follows c qs ≡ true
quote_joins c x qs None is e = absurd cc
quote_joins c x qs (Some p) is e =
    let q = quote_kind x p.0 p.1 is in
    quote_follows c x p.0 p.1 (pieces_from (p.1 - 1) x) qs q (bounds 39 x p.0 p.1 (quoted_solid p.0 q) is).0 e

joint_follows : (c : ℕ) (z : Text) (qs : List Piece) → begins_comment (c ∷ z) ≡ false → Joint ≡ spacing_before z → pieces_from 0 z ≡ Some qs → follows c qs ≡ true
joint_follows c [] qs none joint e = absurd cc
joint_follows c (d ∷ x) qs none joint e =
    let parts = joint_parts (is_punct d) (begins_comment (d ∷ x)) (sym joint) in
    by (d == 39) refl parts.0 parts.1
  where
    by : (b : Bool) → (d == 39) ≡ b → is_punct d ≡ true → begins_comment (d ∷ x) ≡ false → follows c qs ≡ true
    by true same sign no_comment =
        let is : d ≡ 39 = eqb-true d 39 same in
        quote_joins c x qs (front (39 ∷ x)) refl (ap (λ a. pieces_from 0 (a ∷ x)) (sym is) ∙ e)
    by false other sign no_comment =
        let is = punct_front d x sign other no_comment in
        let got = lead (leaf (punct d (spacing_before x)) ∷ []) (pieces_from (1 - 1) x) qs
        (ap (λ o. lexeme_then (d ∷ x) o (λ left. pieces_from left x)) (sym is) ∙ e) in
        ap (follows c) got.1 ∙ ap not none

-- ---- lexeme by lexeme

step : (c : ℕ) (z : Text) (k : LexemeKind) (n : ℕ) (qs : List Piece) → scalars (c ∷ z) ≡ true → front (c ∷ z) ≡ Some (k, n)
    → pieces_from (n - 1) z ≡ Some qs → all_stay qs ≡ true → all_stay (lexeme_pieces k (take n (c ∷ z)) ++ qs) ≡ true
unfolding front
step c z kind.Blank n qs u is e rest = rest
step c z kind.Ident n qs u is e rest =
    let w = take n (c ∷ z) in
    and_from (is_ident_text (encode_utf8_all w)) (all_stay qs)
    (text_stays is_ident w (scalars-take n (c ∷ z) u) (whole is_ident kind.Ident refl ident_is w (leaf_text c z kind.Ident n refl is))) rest
step c z kind.Literal n qs u is e rest =
    let w = take n (c ∷ z) in
    and_from (is_literal_text (encode_utf8_all w)) (all_stay qs)
    (text_stays is_literal w (scalars-take n (c ∷ z) u) (whole is_literal kind.Literal refl literal_is w (leaf_text c z kind.Literal n refl is))) rest
step c z kind.Lifetime n qs u is e rest =
    mark_reading (c ∷ z) kind.Lifetime n refl
    (λ quote i.
    let got = life_is (c ∷ z) n i in
    life_stays c z n qs (and_parts (scalar c) (scalars z) u).1 (and_parts (starts_word z) (not (begins_raw_word z)) got.0).0 got.1 rest)
    (λ none other i. absurd (good_single c z kind.Lifetime n i).0)
    (read_is (reading (c ∷ z)) kind.Lifetime n is)
step c z (kind.Punct d s) n qs u is e rest =
    mark_reading (c ∷ z) (kind.Punct d s) n refl
    (λ quote i. absurd (both_ways (quoted_read (character_or_lifetime (c ∷ z))) (ap quoted_read i) (quote_reads (c ∷ z))))
    (λ none other i.
    let got = good_single c z (kind.Punct d s) n i in
    by s got.0.0 got.0.1 got.0.2 none other (ap (λ m. pieces_from (m - 1) z) (sym got.1) ∙ e))
    (read_is (reading (c ∷ z)) (kind.Punct d s) n is)
  where
    by : (s : Spacing) → d ≡ c → s ≡ spacing_before z → is_punct c ≡ true → begins_comment (c ∷ z) ≡ false → (c == 39) ≡ false → pieces_from 0 z ≡ Some qs
        → all_stay (leaf (punct d s) ∷ qs) ≡ true
    by Alone same spacing sign none other e =
        ap (λ a. all_stay (leaf (punct a Alone) ∷ qs)) same
        ∙ and_from (is_punct c && not (c == 39)) (all_stay qs) (and_from (is_punct c) (not (c == 39)) sign (not_from_false (c == 39) other)) rest
    by Joint same spacing sign none other e =
        ap (λ a. all_stay (leaf (punct a Joint) ∷ qs)) same
        ∙ ap (λ b. (if b then sees_plain qs else is_punct c && follows c qs) && all_stay qs) other
        ∙ and_from (is_punct c && follows c qs) (all_stay qs) (and_from (is_punct c) (follows c qs) sign (joint_follows c z qs none spacing e)) rest
step c z (kind.Open d) n qs u is e rest =
    mark_reading (c ∷ z) (kind.Open d) n refl
    (λ quote i. absurd (both_ways (quoted_read (character_or_lifetime (c ∷ z))) (ap quoted_read i) (quote_reads (c ∷ z))))
    (λ none other i. and_from (is_written d) (all_stay qs) (good_single c z (kind.Open d) n i).0 rest)
    (read_is (reading (c ∷ z)) (kind.Open d) n is)
step c z (kind.Close d) n qs u is e rest = rest

pieces_stay : (left : ℕ) (z : Text) (ps : List Piece) → scalars z ≡ true → pieces_from left z ≡ Some ps → all_stay ps ≡ true
pieces_stay left [] ps u e = let none : ps ≡ [] = cc in ap all_stay none
pieces_stay (suc left) (c ∷ z) ps u e = pieces_stay left z ps (and_parts (scalar c) (scalars z) u).1 e
pieces_stay zero (c ∷ z) ps u e =
    by (front (c ∷ z)) refl e (λ left qs i. pieces_stay left z qs (and_parts (scalar c) (scalars z) u).1 i)
  where
    at : (k : LexemeKind) (n : ℕ) (o : Option (List Piece)) → pieces_from (n - 1) z ≡ o → front (c ∷ z) ≡ Some (k, n)
        → then_pieces (lexeme_pieces k (take n (c ∷ z))) o ≡ Some ps → ((left : ℕ) (qs : List Piece) → pieces_from left z ≡ Some qs → all_stay qs ≡ true)
        → all_stay ps ≡ true
    at k n None i f h more = absurd cc
    at k n (Some qs) i f h more =
        let same : ps ≡ lexeme_pieces k (take n (c ∷ z)) ++ qs = cc in
        ap all_stay same ∙ step c z k n qs u f i (more (n - 1) qs i)

    by : (o : Option (LexemeKind × ℕ)) → front (c ∷ z) ≡ o → lexeme_then (c ∷ z) o (λ left. pieces_from left z) ≡ Some ps
        → ((left : ℕ) (qs : List Piece) → pieces_from left z ≡ Some qs → all_stay qs ≡ true) → all_stay ps ≡ true
    by None f h more = absurd cc
    by (Some p) f h more = at p.0 p.1 (pieces_from (p.1 - 1) z) refl f h more

-- ---- and so do the trees

-- a group ends, or all
abbrev ends : List Piece → Bool
ends [] = true
ends (closes d ∷ ps) = true
ends _ = false

sees_same : (i : Inside) (rest : List Piece) → ends rest ≡ true → sees_plain (pieces_inside i ++ rest) ≡ sees_plain_ident (toks i)
sees_same nothing [] h = refl
sees_same nothing (closes d ∷ rest) h = refl
sees_same nothing (leaf t ∷ rest) h = absurd cc
sees_same nothing (opens d ∷ rest) h = absurd cc
sees_same (first (ident s) i) rest h = refl
sees_same (first (literal s) i) rest h = refl
sees_same (first (punct c s) i) rest h = refl
sees_same (first (group d j) i) rest h = refl

follows_same : (c : ℕ) (i : Inside) (rest : List Piece) → ends rest ≡ true → follows c (pieces_inside i ++ rest) ≡ joins c (toks i)
follows_same c nothing [] h = refl
follows_same c nothing (closes d ∷ rest) h = refl
follows_same c nothing (leaf t ∷ rest) h = absurd cc
follows_same c nothing (opens d ∷ rest) h = absurd cc
follows_same c (first (ident s) i) rest h = refl
follows_same c (first (literal s) i) rest h = refl
follows_same c (first (punct d s) i) rest h = refl
follows_same c (first (group d j) i) rest h = refl

-- the list's part stays, and what is behind it
abbrev Stay : Bool → List Piece → Type 0
Stay b ps = (b ≡ true) × (all_stay ps ≡ true)

mutual
  tree_stays : (t : Tok) (i : Inside) (rest : List Piece) → ends rest ≡ true → all_stay (pieces_of t ++ (pieces_inside i ++ rest)) ≡ true
      → Stay (stays t (toks i)) (pieces_inside i ++ rest)
  tree_stays (ident s) i rest end h = let parts = and_parts (is_ident_text s) (all_stay (pieces_inside i ++ rest)) h in (parts.0, parts.1)
  tree_stays (literal s) i rest end h = let parts = and_parts (is_literal_text s) (all_stay (pieces_inside i ++ rest)) h in (parts.0, parts.1)
  tree_stays (punct c Alone) i rest end h =
      let parts = and_parts (is_punct c && not (c == 39)) (all_stay (pieces_inside i ++ rest)) h in (parts.0, parts.1)
  tree_stays (punct c Joint) i rest end h =
      let qs = pieces_inside i ++ rest in
      let parts = and_parts (leaf_stays (punct c Joint) qs) (all_stay qs) h in
      (ap₂ (λ a b. if c == 39 then a else is_punct c && b) (sym (sees_same i rest end)) (sym (follows_same c i rest end)) ∙ parts.0, parts.1)
  tree_stays (group d j) i rest end h =
      let qs = pieces_inside i ++ rest in
      let same : pieces_of (group d j) ++ qs ≡ opens d ∷ (pieces_inside j ++ (closes d ∷ qs)) = ap (λ ps. opens d ∷ ps) (append_assoc (pieces_inside j) (closes d ∷ []) qs) in
      let parts = and_parts (is_written d) (all_stay (pieces_inside j ++ (closes d ∷ qs))) (ap all_stay (sym same) ∙ h) in
      let inner = inside_stays j (closes d ∷ qs) refl parts.1 in
      (and_from (is_written d) (inside_is_lexed j) parts.0 inner.0, inner.1)

  inside_stays : (i : Inside) (rest : List Piece) → ends rest ≡ true → all_stay (pieces_inside i ++ rest) ≡ true → Stay (inside_is_lexed i) rest
  inside_stays nothing rest end h = (refl, h)
  inside_stays (first t i) rest end h =
      let one = tree_stays t i rest end (ap all_stay (sym (append_assoc (pieces_of t) (pieces_inside i) rest)) ∙ h) in
      let more = inside_stays i rest end one.1 in
      (and_from (stays t (toks i)) (inside_is_lexed i) one.0 more.0, more.1)

pieces_all : (z : Text) (ps : List Piece) → scalars z ≡ true → pieces z ≡ Some ps → all_stay ps ≡ true
unfolding pieces
pieces_all z ps u is = pieces_stay 0 z ps u is

-- a text falls only into what stays
only_lexed : (z : Text) (ts : List Tok) → scalars z ≡ true → Spells z ts → is_lexed ts ≡ true
only_lexed z ts u is =
    let i = inside ts in
    let same : flat ts ≡ pieces_inside i ++ [] = sym (append-nil (pieces_inside i) ∙ pieces_inside-inside ts) in
    sym (lexed_inside ts) ∙ (inside_stays i [] refl (ap all_stay (sym same) ∙ pieces_all z (flat ts) u is)).0

of_text : (ts : List Tok) → IsOfText ts → is_lexed ts ≡ true
of_text ts h = only_lexed (chars h.0) ts (scalars-chars h.0 h.1) h.2

pub exact : IsExact
exact ts = (λ lexed. (text ts, text_is_utf8 ts lexed, text_is_read_again ts lexed), of_text ts)

pub read_again : IsReadAgain
read_again ts h = text_is_read_again ts (of_text ts h)

-- The text of tokens that a text falls into falls into these tokens again.
use Rattle.std.proofs.Common.{slice_index, ◌≡◌, ℕ, suc, ◌+◌, ◌≤◌, ◌<◌, Bool, true, false, not, ◌&&◌, ◌||◌, List, [], ◌∷◌, ◌++◌, length, take, drop, nat_eq, refl, sym, ◌∙◌, ap, ap₂, append_assoc, append-nil, arith, codes, encode_utf8, encode_utf8_all, Option, Some, None}
use Rattle.std.specs.Prelude.{◌==◌, if◌then◌else◌, MatchResult, Result, Ok, Err}
use Rattle.std.specs.List.{prefix_len}
use Rattle.std.specs.Str.{is_utf8, IsUtf8, chars}
use Rattle.std.proofs.lemmas.Bool.{and_parts, and_from, and_left, and_right, or_from, not-true, eqb-true, ne_eqb, both_ways, false_from_ne_true}
use Rattle.std.proofs.lemmas.List.{take_at, drop_at, length-append}
use Rattle.std.proofs.lemmas.Str.{encodes-append, encode_ascii, chars-encodes, encodes-chars, scalars-chars, IsUtf8-from_is_utf8}
use lib.Utf8.{scalar, scalars, low_scalar, encode, encodes}
use Rattle.syn_lexer.specs.Text.{Text, begins, single_quote}
use Rattle.syn_lexer.specs.Blanks.{is_white_space, begins_comment}
use Rattle.syn_lexer.specs.Words.{starts_word, begins_raw_word}
use Rattle.syn_lexer.specs.Lex.{is_punct, front, spacing_before}
use Rattle.syn_lexer.specs.declared.front.Delimiter.{Delimiter}
use Rattle.syn_lexer.specs.declared.front.Delimiter.TheVariants as delimiter
use Rattle.syn_lexer.specs.declared.front.Spacing.TheVariants.{Alone, Joint}
use Rattle.syn_lexer.specs.declared.front.LexemeKind.{LexemeKind}
use Rattle.syn_lexer.specs.declared.front.LexemeKind.TheVariants as kind
use Rattle.syn_tokens.specs.Tok.{Tok, Inside, toks, inside, toks-inside, ident, punct, literal, group, nothing, first}
use Rattle.syn_tokens.specs.Text.{is_joint, gap, opening, closing, margin, text_of, text_inside, text}
use Rattle.syn_tokens.specs.Input.{Gives}
use Rattle.syn_tokens.specs.declared.error.Error.{Error}
use Rattle.syn_tokens.specs.declared.error.ErrorKind.TheVariants.{OutOfMemory}
use Rattle.syn_tokens.specs.Lex.{Piece, leaf, opens, closes, pieces, lexeme_pieces, then_pieces, pieces_of, pieces_inside, Spells}
use Rattle.syn_tokens.proofs.Lexes.{pieces_step, then_nothing}
use Rattle.syn_tokens.proofs.Nests.{pieces_inside-inside}
use Rattle.syn_tokens.proofs.Views.{text_inside-inside}
use Rattle.syn_text.specs.Lexed.{is_ident, is_literal, is_all, is_whole, is_ident_text, is_literal_text, sees_plain_ident, joins, is_written, stays, inside_is_lexed, is_lexed}
use Rattle.syn_text.specs.Must.{takes_dot}
use Rattle.syn_text.proofs.Stops.{Ends, stops, stops_ends, stops_no_punct, stops_no_dot}
use Rattle.syn_text.proofs.Behind.{is_leaf, front_keeps}
use Rattle.syn_text.proofs.Puncts.{in_table, open_front, close_front, punct_front, alone_before, no_comment_before, white_front, lifetime_front}

-- ---- steps

pub then_then : (ps qs : List Piece) (o : Option (List Piece)) → then_pieces ps (then_pieces qs o) ≡ then_pieces (ps ++ qs) o
then_then ps qs None = refl
then_then ps qs (Some rs) = ap Some (sym (append_assoc ps qs rs))

pub open_pieces : (d : Delimiter) (y : Text) → is_written d ≡ true → pieces (opening d ++ y) ≡ then_pieces (opens d ∷ []) (pieces y)
open_pieces delimiter.Parenthesis y h = pieces_step (40 ∷ y) (kind.Open delimiter.Parenthesis) 1 (omega arith) (omega arith) (open_front delimiter.Parenthesis y h)
open_pieces delimiter.Bracket y h = pieces_step (91 ∷ y) (kind.Open delimiter.Bracket) 1 (omega arith) (omega arith) (open_front delimiter.Bracket y h)
open_pieces delimiter.Brace y h = pieces_step (123 ∷ y) (kind.Open delimiter.Brace) 1 (omega arith) (omega arith) (open_front delimiter.Brace y h)
open_pieces delimiter.None y h = absurd cc

pub close_pieces : (d : Delimiter) (y : Text) → is_written d ≡ true → pieces (closing d ++ y) ≡ then_pieces (closes d ∷ []) (pieces y)
close_pieces delimiter.Parenthesis y h = pieces_step (41 ∷ y) (kind.Close delimiter.Parenthesis) 1 (omega arith) (omega arith) (close_front delimiter.Parenthesis y h)
close_pieces delimiter.Bracket y h = pieces_step (93 ∷ y) (kind.Close delimiter.Bracket) 1 (omega arith) (omega arith) (close_front delimiter.Bracket y h)
close_pieces delimiter.Brace y h = pieces_step (125 ∷ y) (kind.Close delimiter.Brace) 1 (omega arith) (omega arith) (close_front delimiter.Brace y h)
close_pieces delimiter.None y h = absurd cc

pub punct_pieces : (c : ℕ) (y : Text) → is_punct c ≡ true → (c == 39) ≡ false → begins_comment (c ∷ y) ≡ false
    → pieces (c ∷ y) ≡ then_pieces (leaf (punct c (spacing_before y)) ∷ []) (pieces y)
punct_pieces c y is other none = pieces_step (c ∷ y) (kind.Punct c (spacing_before y)) 1 (omega arith) (omega arith) (punct_front c y is other none)

-- ---- white space, which runs together

white_pieces : (c : ℕ) (y : Text) → is_white_space c ≡ true → pieces (c ∷ y) ≡ pieces (drop (1 + prefix_len is_white_space y) (c ∷ y))
white_pieces c y white =
    let n = 1 + prefix_len is_white_space y in
    pieces_step (c ∷ y) kind.Blank n (omega arith) (omega arith) (white_front c y white) ∙ sym (then_nothing (pieces (drop n (c ∷ y))))

past_white : (y : Text) → pieces (drop (prefix_len is_white_space y) y) ≡ pieces y
past_white [] = refl
past_white (c ∷ y) = by (is_white_space c) refl
  where
    by : (b : Bool) → is_white_space c ≡ b → pieces (drop (if b then 1 + prefix_len is_white_space y else 0) (c ∷ y)) ≡ pieces (c ∷ y)
    by true e = sym (white_pieces c y e)
    by false e = refl

pub one_white : (c : ℕ) (y : Text) → is_white_space c ≡ true → pieces (c ∷ y) ≡ pieces y
one_white c y white =
    let n = prefix_len is_white_space y in
    let one : 1 + n ≡ suc n = omega arith in
    white_pieces c y white ∙ ap (λ m. pieces (drop m (c ∷ y))) one ∙ past_white y

space_pieces : (y : Text) → pieces (32 ∷ y) ≡ pieces y
space_pieces y = one_white 32 y refl

margin_pieces : (d : Delimiter) (i : Inside) (y : Text) → pieces (margin d i ++ y) ≡ pieces y
margin_pieces d nothing y = refl
margin_pieces delimiter.Parenthesis (first t i) y = refl
margin_pieces delimiter.Bracket (first t i) y = refl
margin_pieces delimiter.Brace (first t i) y = space_pieces y
margin_pieces delimiter.None (first t i) y = refl

margin_stops : (d : Delimiter) (i : Inside) (y : Text) → is_written d ≡ true → stops (margin d i ++ (closing d ++ y)) ≡ true
margin_stops delimiter.Parenthesis nothing y h = refl
margin_stops delimiter.Bracket nothing y h = refl
margin_stops delimiter.Brace nothing y h = refl
margin_stops delimiter.None i y h = absurd cc
margin_stops delimiter.Parenthesis (first t i) y h = refl
margin_stops delimiter.Bracket (first t i) y h = refl
margin_stops delimiter.Brace (first t i) y h = refl

not_last : (u : Tok) (i : Inside) → nat_eq (length (toks (first u i))) 0 ≡ false
not_last u i = ne_eqb (length (toks (first u i))) 0 (λ e. omega arith)

gap_pieces : (t : Tok) (i : Inside) (y : Text) → is_joint t ≡ false → pieces (gap t (toks i) ++ y) ≡ pieces y
gap_pieces t nothing y alone = ap (λ b. pieces ((if b || true then [] else 32 ∷ []) ++ y)) alone
gap_pieces t (first u i) y alone = ap₂ (λ b c. pieces ((if b || c then [] else 32 ∷ []) ++ y)) alone (not_last u i) ∙ space_pieces y

-- ---- the characters of tokens

abbrev mutual
  chars_of : Tok → Text
  chars_of (ident s) = chars s
  chars_of (punct c s) = c ∷ []
  chars_of (literal s) = chars s
  chars_of (group d i) = opening d ++ (margin d i ++ (chars_inside i ++ (margin d i ++ closing d)))

  chars_inside : Inside → Text
  chars_inside nothing = []
  chars_inside (first t i) = chars_of t ++ (gap t (toks i) ++ chars_inside i)

gap_stops : (t : Tok) (i : Inside) (y : Text) → is_joint t ≡ false → stops y ≡ true → stops (gap t (toks i) ++ (chars_inside i ++ y)) ≡ true
gap_stops t nothing y alone s = ap (λ b. stops ((if b || true then [] else 32 ∷ []) ++ y)) alone ∙ s
gap_stops t (first u i) y alone s = ap₂ (λ b c. stops ((if b || c then [] else 32 ∷ []) ++ (chars_inside (first u i) ++ y))) alone (not_last u i)

-- ---- words and literals

pub ident_is : (k : LexemeKind) → is_ident k ≡ true → k ≡ kind.Ident
ident_is kind.Ident h = refl
ident_is _ h = absurd cc

pub literal_is : (k : LexemeKind) → is_literal k ≡ true → k ≡ kind.Literal
literal_is kind.Literal h = refl
literal_is _ h = absurd cc

pub all_is : (test : LexemeKind → Bool) (k : LexemeKind) → ((j : LexemeKind) → test j ≡ true → j ≡ k) → (w : Text) (o : Option (LexemeKind × ℕ))
    → is_all test w o ≡ true → o ≡ Some (k, length w)
all_is test k only w None h = absurd cc
all_is test k only w (Some p) h =
    let parts = and_parts (test p.0) (p.1 == length w) h in
    ap₂ (λ j n. Some (j, n)) (only p.0 parts.0) (eqb-true p.1 (length w) parts.1)

some_front : (w : Text) (k : LexemeKind) → front w ≡ Some (k, length w) → 1 ≤ length w
unfolding front
some_front [] k is = absurd cc
some_front (a ∷ w) k is = omega arith

whole_pieces : (w y : Text) (k : LexemeKind) → is_leaf k ≡ true → front w ≡ Some (k, length w) → Ends y
    → (k ≡ kind.Literal → (begins (codes ".") y && takes_dot w (drop 1 y)) ≡ false) → pieces (w ++ y) ≡ then_pieces (lexeme_pieces k w) (pieces y)
whole_pieces w y k one is ends dots =
    let some : 1 ≤ length w = some_front w k is in
    let long : length (w ++ y) ≡ length w + length y = length-append w y in
    pieces_step (w ++ y) k (length w) (omega arith) some (front_keeps y ends k one w dots is)
    ∙ ap₂ (λ v u. then_pieces (lexeme_pieces k v) (pieces u)) (take_at w y (length w) refl) (drop_at w y (length w) refl)

utf8_same : (s : List ℕ) → is_utf8 s ≡ true → encode_utf8_all (chars s) ≡ s
utf8_same s h = encodes-chars s (IsUtf8-from_is_utf8 s h)

ident_front : (s : List ℕ) → is_ident_text s ≡ true → front (chars s) ≡ Some (kind.Ident, length (chars s))
ident_front s h = all_is is_ident kind.Ident ident_is (chars s) (front (chars s)) (and_parts (is_utf8 s) (is_whole is_ident (chars s)) h).1

literal_front : (s : List ℕ) → is_literal_text s ≡ true → front (chars s) ≡ Some (kind.Literal, length (chars s))
literal_front s h = all_is is_literal kind.Literal literal_is (chars s) (front (chars s)) (and_parts (is_utf8 s) (is_whole is_literal (chars s)) h).1

pub ident_pieces : (s : List ℕ) (y : Text) → is_ident_text s ≡ true → Ends y → pieces (chars s ++ y) ≡ then_pieces (leaf (ident s) ∷ []) (pieces y)
ident_pieces s y h stop =
    whole_pieces (chars s) y kind.Ident refl (ident_front s h) stop (λ e. absurd cc)
    ∙ ap (λ b. then_pieces (leaf (ident b) ∷ []) (pieces y)) (utf8_same s (and_parts (is_utf8 s) (is_whole is_ident (chars s)) h).0)

pub literal_pieces : (s : List ℕ) (y : Text) → is_literal_text s ≡ true → Ends y → (begins (codes ".") y && takes_dot (chars s) (drop 1 y)) ≡ false
    → pieces (chars s ++ y) ≡ then_pieces (leaf (literal s) ∷ []) (pieces y)
literal_pieces s y h stop dots =
    whole_pieces (chars s) y kind.Literal refl (literal_front s h) stop (λ e. dots)
    ∙ ap (λ b. then_pieces (leaf (literal b) ∷ []) (pieces y)) (utf8_same s (and_parts (is_utf8 s) (is_whole is_literal (chars s)) h).0)

-- ---- lifetimes

raw_bytes : (w : Text) → begins (codes "r#") w ≡ true → begins (codes "r#") (encode_utf8_all w) ≡ true
unfolding encode
raw_bytes [] h = absurd cc
raw_bytes (a ∷ []) h = absurd (both_ways (nat_eq 114 a && false) (and_right (nat_eq 114 a) false refl) h)
raw_bytes (a ∷ (b ∷ w)) h =
    let parts = and_parts (nat_eq 114 a) (nat_eq 35 b && true) h in
    let one : 114 ≡ a = eqb-true 114 a parts.0 in
    let two : 35 ≡ b = eqb-true 35 b (and_parts (nat_eq 35 b) true parts.1).0 in
    ap₂ (λ c d. begins (codes "r#") (encode_utf8_all (c ∷ (d ∷ w)))) (sym one) (sym two)

plain_word : (s : List ℕ) → is_utf8 s ≡ true → begins (codes "r#") s ≡ false → begins_raw_word (chars s) ≡ false
plain_word s utf8 plain =
    and_left (begins (codes "r#") (chars s)) (starts_word (drop 2 (chars s)))
    (false_from_ne_true (begins (codes "r#") (chars s)) (λ raw.
    both_ways (begins (codes "r#") s) plain (ap (begins (codes "r#")) (sym (utf8_same s utf8)) ∙ raw_bytes (chars s) raw)))

pub lifetime_pieces : (s : List ℕ) (y : Text) → is_ident_text s ≡ true → not (begins (codes "r#") s) ≡ true → Ends y
    → pieces (39 ∷ (chars s ++ y)) ≡ then_pieces (leaf (punct 39 Joint) ∷ []) (pieces (chars s ++ y))
lifetime_pieces s y h plain stop =
    let w = chars s in
    let utf8 : is_utf8 s ≡ true = (and_parts (is_utf8 s) (is_whole is_ident w) h).0 in
    let raw : begins_raw_word w ≡ false = plain_word s utf8 (not-true (begins (codes "r#") s) plain) in
    let one : 1 + length w ≡ suc (length w) = omega arith in
    pieces_step (39 ∷ (w ++ y)) kind.Lifetime (1 + length w) (omega arith) (omega arith) (lifetime_front y stop w (ident_front s h) raw)
    ∙ ap (λ n. then_pieces (lexeme_pieces kind.Lifetime (take n (39 ∷ (w ++ y)))) (pieces (drop n (39 ∷ (w ++ y))))) one
    ∙ ap₂ (λ v u. then_pieces (leaf (punct 39 Joint) ∷ leaf (ident (encode_utf8_all v)) ∷ []) (pieces u)) (take_at w y (length w) refl) (drop_at w y (length w) refl)
    ∙ ap (λ b. then_pieces (leaf (punct 39 Joint) ∷ leaf (ident b) ∷ []) (pieces y)) (utf8_same s utf8)
    ∙ sym (then_then (leaf (punct 39 Joint) ∷ []) (leaf (ident s) ∷ []) (pieces y))
    ∙ ap (then_pieces (leaf (punct 39 Joint) ∷ [])) (sym (ident_pieces s y h stop))

-- ---- joint puncts

pub quoted_chars : (s : List ℕ) → begins (codes "'") s ≡ true → (v : Text) × (chars s ≡ 39 ∷ v)
unfolding chars
quoted_chars [] h = absurd cc
quoted_chars (b ∷ s) h =
    let one : 39 ≡ b = eqb-true 39 b (and_parts (nat_eq 39 b) true h).0 in
    let rest = by s in
    (rest.0, ap (λ c. chars (c ∷ s)) (sym one) ∙ rest.1)
  where
    by : (s : List ℕ) → (v : Text) × (chars (39 ∷ s) ≡ 39 ∷ v)
    by [] = ([], refl)
    by (c ∷ s) = (_, refl)

pub quote_comment : (c : ℕ) (y : Text) → begins_comment (c ∷ (39 ∷ y)) ≡ false
quote_comment c y = or_from (nat_eq 47 c && false) (nat_eq 47 c && false) (and_right (nat_eq 47 c) false refl) (and_right (nat_eq 47 c) false refl)

literal_comment : (c : ℕ) (s : List ℕ) (y : Text) → begins (codes "'") s ≡ true → begins_comment (c ∷ (chars s ++ y)) ≡ false
literal_comment c s y h = let q = quoted_chars s h in ap (λ w. begins_comment (c ∷ (w ++ y))) q.1 ∙ quote_comment c (q.0 ++ y)

no_comment_joined : (c : ℕ) (i : Inside) (y : Text) → joins c (toks i) ≡ true → begins_comment (c ∷ (chars_inside i ++ y)) ≡ false
no_comment_joined c nothing y h = absurd cc
no_comment_joined c (first (ident s) i) y h = absurd cc
no_comment_joined c (first (group d j) i) y h = absurd cc
no_comment_joined c (first (punct d s) i) y h = not-true (begins_comment (c ∷ (d ∷ []))) h
no_comment_joined c (first (literal s) i) y h =
    ap (λ w. begins_comment (c ∷ w)) (append_assoc (chars s) (gap (literal s) (toks i) ++ chars_inside i) y)
    ∙ literal_comment c s ((gap (literal s) (toks i) ++ chars_inside i) ++ y) h

-- a punct that stays begins no comment, and is a punct
punct_stays : (c : ℕ) (i : Inside) (y : Text) (b : Bool) → (c == 39) ≡ b → stays (punct c Joint) (toks i) ≡ true
    → (is_punct c ≡ true) × (begins_comment (c ∷ (chars_inside i ++ y)) ≡ false)
punct_stays c i y true e h =
    let same : c ≡ 39 = eqb-true c 39 e in
    (ap is_punct same, ap (λ d. begins_comment (d ∷ (chars_inside i ++ y))) same)
punct_stays c i y false e h =
    let parts = and_parts (is_punct c) (joins c (toks i)) (sym (ap (λ b. if b then sees_plain_ident (toks i) else is_punct c && joins c (toks i)) e) ∙ h) in
    (parts.0, no_comment_joined c i y parts.1)

joint_before : (i : Inside) (y : Text) (c : ℕ) → joins c (toks i) ≡ true → inside_is_lexed i ≡ true → stops y ≡ true
    → spacing_before (chars_inside i ++ y) ≡ Joint
joint_before nothing y c h lexed s = absurd cc
joint_before (first (ident t) i) y c h lexed s = absurd cc
joint_before (first (group d j) i) y c h lexed s = absurd cc
joint_before (first (literal t) i) y c h lexed s =
    let q = quoted_chars t h in
    ap (λ w. spacing_before ((w ++ (gap (literal t) (toks i) ++ chars_inside i)) ++ y)) q.1
joint_before (first (punct d Joint) i) y c h lexed s =
    let parts = and_parts (stays (punct d Joint) (toks i)) (inside_is_lexed i) lexed in
    let is = punct_stays d i y (d == 39) refl parts.0 in
    ap₂ (λ a b. if a && not b then Joint else Alone) is.0 is.1
joint_before (first (punct d Alone) i) y c h lexed s =
    let parts = and_parts (stays (punct d Alone) (toks i)) (inside_is_lexed i) lexed in
    let is = (and_parts (is_punct d) (not (d == single_quote)) parts.0).0 in
    let none : begins_comment (d ∷ (gap (punct d Alone) (toks i) ++ (chars_inside i ++ y))) ≡ false =
    let behind = gap (punct d Alone) (toks i) ++ (chars_inside i ++ y) in
    no_comment_before d behind (stops_no_punct behind (gap_stops (punct d Alone) i y refl s)) in
    ap (λ w. spacing_before (d ∷ w)) (append_assoc (gap (punct d Alone) (toks i)) (chars_inside i) y)
    ∙ ap₂ (λ a b. if a && not b then Joint else Alone) is none

-- ---- one token, and what is behind it

joint_pieces : (c : ℕ) (i : Inside) (y : Text) (b : Bool) → (c == 39) ≡ b → stays (punct c Joint) (toks i) ≡ true → inside_is_lexed i ≡ true → stops y ≡ true
    → pieces (c ∷ (chars_inside i ++ y)) ≡ then_pieces (leaf (punct c Joint) ∷ []) (pieces (chars_inside i ++ y))
joint_pieces c i y true e h lexed s =
    let same : c ≡ 39 = eqb-true c 39 e in
    ap (λ d. pieces (d ∷ (chars_inside i ++ y))) same
    ∙ by i (sym (ap (λ b. if b then sees_plain_ident (toks i) else is_punct c && joins c (toks i)) e) ∙ h) lexed
    ∙ ap (λ d. then_pieces (leaf (punct d Joint) ∷ []) (pieces (chars_inside i ++ y))) (sym same)
  where
    by : (i : Inside) → sees_plain_ident (toks i) ≡ true → inside_is_lexed i ≡ true
        → pieces (39 ∷ (chars_inside i ++ y)) ≡ then_pieces (leaf (punct 39 Joint) ∷ []) (pieces (chars_inside i ++ y))
    by nothing p l = absurd cc
    by (first (punct d t) j) p l = absurd cc
    by (first (literal t) j) p l = absurd cc
    by (first (group d k) j) p l = absurd cc
    by (first (ident t) j) p l =
        let g = gap (ident t) (toks j) in
        let parts = and_parts (is_ident_text t) (inside_is_lexed j) l in
        let same : (chars t ++ (g ++ chars_inside j)) ++ y ≡ chars t ++ (g ++ (chars_inside j ++ y)) =
        append_assoc (chars t) (g ++ chars_inside j) y ∙ ap (λ w. chars t ++ w) (append_assoc g (chars_inside j) y) in
        ap (λ w. pieces (39 ∷ w)) same
        ∙ lifetime_pieces t (g ++ (chars_inside j ++ y)) parts.0 p (stops_ends (g ++ (chars_inside j ++ y)) (gap_stops (ident t) j y refl s))
        ∙ ap (λ w. then_pieces (leaf (punct 39 Joint) ∷ []) (pieces w)) (sym same)
joint_pieces c i y false e h lexed s =
    let parts = and_parts (is_punct c) (joins c (toks i)) (sym (ap (λ b. if b then sees_plain_ident (toks i) else is_punct c && joins c (toks i)) e) ∙ h) in
    punct_pieces c (chars_inside i ++ y) parts.0 e (no_comment_joined c i y parts.1)
    ∙ ap (λ t. then_pieces (leaf (punct c t) ∷ []) (pieces (chars_inside i ++ y))) (joint_before i y c parts.1 lexed s)

pub alone_pieces : (c : ℕ) (y : Text) → (is_punct c && not (c == 39)) ≡ true → is_punct (slice_index y 0) ≡ false
    → pieces (c ∷ y) ≡ then_pieces (leaf (punct c Alone) ∷ []) (pieces y)
alone_pieces c y h s =
    let parts = and_parts (is_punct c) (not (c == 39)) h in
    punct_pieces c y parts.0 (not-true (c == 39) parts.1) (no_comment_before c y s)
    ∙ ap (λ t. then_pieces (leaf (punct c t) ∷ []) (pieces y)) (alone_before y s)

enclosed : (a b c d y : Text) → (a ++ (b ++ (c ++ (b ++ d)))) ++ y ≡ a ++ (b ++ (c ++ (b ++ (d ++ y))))
enclosed a b c d y =
    append_assoc a (b ++ (c ++ (b ++ d))) y ∙ ap (λ w. a ++ w) (append_assoc b (c ++ (b ++ d)) y
    ∙ ap (λ w. b ++ w) (append_assoc c (b ++ d) y ∙ ap (λ w. c ++ w) (append_assoc b d y)))

mutual
  tree_pieces : (t : Tok) (i : Inside) (y : Text) → stays t (toks i) ≡ true → inside_is_lexed i ≡ true → stops y ≡ true
      → pieces (chars_of t ++ (gap t (toks i) ++ (chars_inside i ++ y))) ≡ then_pieces (pieces_of t) (pieces (chars_inside i ++ y))
  tree_pieces (ident s) i y h lexed stop =
      let behind = gap (ident s) (toks i) ++ (chars_inside i ++ y) in
      ident_pieces s behind h (stops_ends behind (gap_stops (ident s) i y refl stop))
      ∙ ap (then_pieces (leaf (ident s) ∷ [])) (gap_pieces (ident s) i (chars_inside i ++ y) refl)
  tree_pieces (literal s) i y h lexed stop =
      let behind = gap (literal s) (toks i) ++ (chars_inside i ++ y) in
      let stopped : stops behind ≡ true = gap_stops (literal s) i y refl stop in
      literal_pieces s behind h (stops_ends behind stopped)
      (and_left (begins (codes ".") behind) (takes_dot (chars s) (drop 1 behind)) (stops_no_dot behind stopped))
      ∙ ap (then_pieces (leaf (literal s) ∷ [])) (gap_pieces (literal s) i (chars_inside i ++ y) refl)
  tree_pieces (punct c Alone) i y h lexed stop =
      let behind = gap (punct c Alone) (toks i) ++ (chars_inside i ++ y) in
      alone_pieces c behind h (stops_no_punct behind (gap_stops (punct c Alone) i y refl stop))
      ∙ ap (then_pieces (leaf (punct c Alone) ∷ [])) (gap_pieces (punct c Alone) i (chars_inside i ++ y) refl)
  tree_pieces (punct c Joint) i y h lexed stop = joint_pieces c i y (c == 39) refl h lexed stop
  tree_pieces (group d j) i y h lexed stop =
      let parts = and_parts (is_written d) (inside_is_lexed j) h in
      let g = gap (group d j) (toks i) ++ (chars_inside i ++ y) in
      let all = pieces (chars_inside i ++ y) in
      ap pieces (enclosed (opening d) (margin d j) (chars_inside j) (closing d) g)
      ∙ open_pieces d (margin d j ++ (chars_inside j ++ (margin d j ++ (closing d ++ g)))) parts.0
      ∙ ap (then_pieces (opens d ∷ [])) (
      margin_pieces d j (chars_inside j ++ (margin d j ++ (closing d ++ g)))
      ∙ inside_pieces j (margin d j ++ (closing d ++ g)) parts.1 (margin_stops d j g parts.0)
      ∙ ap (then_pieces (pieces_inside j)) (
      margin_pieces d j (closing d ++ g)
      ∙ close_pieces d g parts.0
      ∙ ap (then_pieces (closes d ∷ [])) (gap_pieces (group d j) i (chars_inside i ++ y) refl))
      ∙ then_then (pieces_inside j) (closes d ∷ []) all)
      ∙ then_then (opens d ∷ []) (pieces_inside j ++ closes d ∷ []) all

  inside_pieces : (i : Inside) (y : Text) → inside_is_lexed i ≡ true → stops y ≡ true
      → pieces (chars_inside i ++ y) ≡ then_pieces (pieces_inside i) (pieces y)
  inside_pieces nothing y lexed stop = then_nothing (pieces y)
  inside_pieces (first t i) y lexed stop =
      let parts = and_parts (stays t (toks i)) (inside_is_lexed i) lexed in
      ap pieces (append_assoc (chars_of t) (gap t (toks i) ++ chars_inside i) y ∙ ap (λ w. chars_of t ++ w) (append_assoc (gap t (toks i)) (chars_inside i) y))
      ∙ tree_pieces t i y parts.0 parts.1 stop
      ∙ ap (then_pieces (pieces_of t)) (inside_pieces i y parts.1 stop)
      ∙ then_then (pieces_of t) (pieces_inside i) (pieces y)

-- ---- the text of tokens has these characters

-- the bytes are the UTF-8 of these characters
abbrev Encodes : Text → List ℕ → Type 0
Encodes cs bs = (encodes cs ≡ bs) × (scalars cs ≡ true)

scalars-append : (a b : Text) → scalars a ≡ true → scalars b ≡ true → scalars (a ++ b) ≡ true
scalars-append [] b p q = q
scalars-append (c ∷ a) b p q = let parts = and_parts (scalar c) (scalars a) p in and_from (scalar c) (scalars (a ++ b)) parts.0 (scalars-append a b parts.1 q)

joined : (a b : Text) (x y : List ℕ) → Encodes a x → Encodes b y → Encodes (a ++ b) (x ++ y)
joined a b x y p q = (encodes-append a b ∙ ap₂ (λ u v. u ++ v) p.0 q.0, scalars-append a b p.1 q.1)

ascii : (c : ℕ) → c < 128 → Encodes (c ∷ []) (c ∷ [])
ascii c small = (ap (λ bs. bs ++ []) (encode_ascii c small), low c small)
  where
    low : (c : ℕ) → c < 128 → scalars (c ∷ []) ≡ true
    low c small = and_from (scalar c) true (low_scalar c (omega arith)) refl

open_chars : (d : Delimiter) → Encodes (opening d) (opening d)
open_chars delimiter.Parenthesis = ascii 40 (omega arith)
open_chars delimiter.Bracket = ascii 91 (omega arith)
open_chars delimiter.Brace = ascii 123 (omega arith)
open_chars delimiter.None = (refl, refl)

close_chars : (d : Delimiter) → Encodes (closing d) (closing d)
close_chars delimiter.Parenthesis = ascii 41 (omega arith)
close_chars delimiter.Bracket = ascii 93 (omega arith)
close_chars delimiter.Brace = ascii 125 (omega arith)
close_chars delimiter.None = (refl, refl)

margin_chars : (d : Delimiter) (i : Inside) → Encodes (margin d i) (margin d i)
margin_chars d nothing = (refl, refl)
margin_chars delimiter.Parenthesis (first t i) = (refl, refl)
margin_chars delimiter.Bracket (first t i) = (refl, refl)
margin_chars delimiter.Brace (first t i) = ascii 32 (omega arith)
margin_chars delimiter.None (first t i) = (refl, refl)

gap_chars : (t : Tok) (ts : List Tok) → Encodes (gap t ts) (gap t ts)
gap_chars t ts = by (is_joint t || nat_eq (length ts) 0)
  where
    by : (b : Bool) → Encodes (if b then [] else 32 ∷ []) (if b then [] else 32 ∷ [])
    by true = (refl, refl)
    by false = ascii 32 (omega arith)

utf8_chars : (s : List ℕ) → is_utf8 s ≡ true → Encodes (chars s) s
utf8_chars s h = (utf8_same s h, scalars-chars s (IsUtf8-from_is_utf8 s h))

punct_chars : (c : ℕ) → is_punct c ≡ true → Encodes (c ∷ []) (encode_utf8 c)
punct_chars c is =
    let low = in_table (codes "~!@#$%^&*-=+|;:,<.>/?'") scalar c is refl in
    (append-nil (encode c), and_from (scalar c) true low refl)

mutual
  tree_text : (t : Tok) (ts : List Tok) → stays t ts ≡ true → Encodes (chars_of t) (text_of t)
  tree_text (ident s) ts h = utf8_chars s (and_parts (is_utf8 s) (is_whole is_ident (chars s)) h).0
  tree_text (literal s) ts h = utf8_chars s (and_parts (is_utf8 s) (is_whole is_literal (chars s)) h).0
  tree_text (punct c Alone) ts h = punct_chars c (and_parts (is_punct c) (not (c == 39)) h).0
  tree_text (punct c Joint) ts h = punct_chars c (sign c ts (c == 39) refl h)
    where
      sign : (c : ℕ) (ts : List Tok) (b : Bool) → (c == 39) ≡ b → stays (punct c Joint) ts ≡ true → is_punct c ≡ true
      sign c ts true e h = ap is_punct (eqb-true c 39 e)
      sign c ts false e h = (and_parts (is_punct c) (joins c ts) (sym (ap (λ b. if b then sees_plain_ident ts else is_punct c && joins c ts) e) ∙ h)).0
  tree_text (group d i) ts h =
      let parts = and_parts (is_written d) (inside_is_lexed i) h in
      let m = margin d i in
      let all = joined (opening d) (m ++ (chars_inside i ++ (m ++ closing d))) (opening d) (m ++ (text_inside i ++ (m ++ closing d))) (open_chars d) (
      joined m (chars_inside i ++ (m ++ closing d)) m (text_inside i ++ (m ++ closing d)) (margin_chars d i) (
      joined (chars_inside i) (m ++ closing d) (text_inside i) (m ++ closing d) (inside_text i parts.1) (
      joined m (closing d) m (closing d) (margin_chars d i) (close_chars d)))) in
      let same : opening d ++ (m ++ (text_inside i ++ (m ++ closing d))) ≡ text_of (group d i) = sym (simp append_assoc) in
      (all.0 ∙ same, all.1)

  inside_text : (i : Inside) → inside_is_lexed i ≡ true → Encodes (chars_inside i) (text_inside i)
  inside_text nothing h = (refl, refl)
  inside_text (first t i) h =
      let parts = and_parts (stays t (toks i)) (inside_is_lexed i) h in
      let g = gap t (toks i) in
      let all = joined (chars_of t) (g ++ chars_inside i) (text_of t) (g ++ text_inside i) (tree_text t (toks i) parts.0) (
      joined g (chars_inside i) g (text_inside i) (gap_chars t (toks i)) (inside_text i parts.1)) in
      (all.0 ∙ sym (append_assoc (text_of t) g (text_inside i)), all.1)

-- ---- the text is read again

pub lexed_inside : (ts : List Tok) → inside_is_lexed (inside ts) ≡ is_lexed ts
lexed_inside [] = refl
lexed_inside (t ∷ ts) = ap₂ (λ us b. stays t us && b) (toks-inside ts) (lexed_inside ts)

pub no_pieces : pieces [] ≡ Some []
unfolding pieces
no_pieces = refl

pub text_is_utf8 : (ts : List Tok) → is_lexed ts ≡ true → IsUtf8 (text ts)
text_is_utf8 ts h =
    let encoded = inside_text (inside ts) (lexed_inside ts ∙ h) in
    (chars_inside (inside ts), (encoded.1, encoded.0 ∙ text_inside-inside ts))

pub text_is_read_again : (ts : List Tok) → is_lexed ts ≡ true → Spells (chars (text ts)) ts
text_is_read_again ts h =
    let i = inside ts in
    let lexed : inside_is_lexed i ≡ true = lexed_inside ts ∙ h in
    let encoded = inside_text i lexed in
    let same : chars (text ts) ≡ chars_inside i ++ [] =
    ap chars (sym (text_inside-inside ts) ∙ sym encoded.0) ∙ chars-encodes (chars_inside i) encoded.1 ∙ sym (append-nil (chars_inside i)) in
    ap pieces same ∙ inside_pieces i [] lexed refl ∙ ap (then_pieces (pieces_inside i)) no_pieces
    ∙ ap Some (append-nil (pieces_inside i) ∙ pieces_inside-inside ts)

pub is_given : (ts : List Tok) (r : Result (List Tok) Error) → Gives (λ s. s) ts r → MatchResult r (λ s. s ≡ ts) (λ e. e.kind ≡ OutOfMemory)
is_given ts (Ok s) h = h
is_given ts (Err e) h = h

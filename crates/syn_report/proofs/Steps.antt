-- How a place goes on, character by character.
use Rattle.std.proofs.Common.{◌≡◌, ℕ, ◌+◌, ◌-◌, ◌<◌, ◌≤◌, Bool, true, false, not, cond, List, [], ◌∷◌, ◌++◌, length, drop, refl, sym, ap, subst, ◌∙◌, append_assoc, append-nil, length-append, arith, zero-add}
use Rattle.std.proofs.Math.Nat.{add_comm}
use Rattle.std.specs.Prelude.{chars, encode_utf8, nat_le}
use Rattle.std.specs.Char.{len_utf8}
use Rattle.std.specs.Str.{IsUtf8}
use Rattle.std.specs.List.{count_by, after_last, suffix_len, prefix_len}
use Rattle.std.proofs.lemmas.List.{reverse-append, drop_at, drop_all, drop-append-le, nil_from_length}
use Rattle.std.proofs.lemmas.List.Sums.{sum_by-append}
use Rattle.std.proofs.lemmas.Bool.Decides.{nat_tests}
use Rattle.std.proofs.lemmas.Str.{chars_past_char, chars-nil, IsUtf8-past_char, length-encode, len_utf8_bounds}
use Rattle.syn_report.specs.Place.{before, behind, ends_line, is_operator, last_line, line_column, from_line}
use Rattle.syn_report.specs.declared.place.LineColumn.{LineColumn}

-- ---- lists with one more at the end

count_more : (p : ℕ → Bool) (xs : List ℕ) (c : ℕ) → count_by p (xs ++ c ∷ []) ≡ count_by p xs + cond (p c) 1 0
count_more p xs c = sum_by-append (λ x. cond (p x) 1 0) xs (c ∷ []) ∙ ap (λ n. count_by p xs + n) (zero-add (cond (p c) 1 0))

suffix_more : (p : ℕ → Bool) (xs : List ℕ) (c : ℕ) → suffix_len p (xs ++ c ∷ []) ≡ cond (p c) (1 + suffix_len p xs) 0
suffix_more p xs c = ap (prefix_len p) (reverse-append xs (c ∷ []))

last_yes : (p : ℕ → Bool) (xs : List ℕ) (c : ℕ) → p c ≡ true → after_last p (xs ++ c ∷ []) ≡ []
last_yes p xs c e =
    let s : suffix_len (λ x. not (p x)) (xs ++ c ∷ []) ≡ 0 = suffix_more (λ x. not (p x)) xs c ∙ ap (λ b. cond (not b) (1 + suffix_len (λ x. not (p x)) xs) 0) e in
    drop_all (length (xs ++ c ∷ []) - suffix_len (λ x. not (p x)) (xs ++ c ∷ [])) (xs ++ c ∷ []) (omega (arith, s))

last_no : (p : ℕ → Bool) (xs : List ℕ) (c : ℕ) → p c ≡ false → after_last p (xs ++ c ∷ []) ≡ after_last p xs ++ c ∷ []
last_no p xs c e =
    let q : ℕ → Bool = λ x. not (p x) in
    let s : suffix_len q (xs ++ c ∷ []) ≡ 1 + suffix_len q xs = suffix_more q xs c ∙ ap (λ b. cond (not b) (1 + suffix_len q xs) 0) e in
    let l : length (xs ++ c ∷ []) ≡ length xs + 1 = length-append xs (c ∷ []) in
    let n : length (xs ++ c ∷ []) - suffix_len q (xs ++ c ∷ []) ≡ length xs - suffix_len q xs = omega (arith, s, l) in
    ap (λ k. drop k (xs ++ c ∷ [])) n ∙ drop-append-le (length xs - suffix_len q xs) xs (c ∷ []) (omega arith)

-- ---- the characters before an offset, one by one

le_yes : (a b : ℕ) → a ≤ b → nat_le a b ≡ true
le_yes a b h = grind (arith, nat_tests)

le_no : (a b : ℕ) → b < a → nat_le a b ≡ false
le_no a b h = grind (arith, nat_tests)

before_fits : (k c : ℕ) (cs : List ℕ) → len_utf8 c ≤ k → before k (c ∷ cs) ≡ c ∷ before (k - len_utf8 c) cs
before_fits k c cs h = ap (λ b. cond b (c ∷ before (k - len_utf8 c) cs) []) (le_yes (len_utf8 c) k h)

before_long : (k c : ℕ) (cs : List ℕ) → k < len_utf8 c → before k (c ∷ cs) ≡ []
before_long k c cs h = ap (λ b. cond b (c ∷ before (k - len_utf8 c) cs) []) (le_no (len_utf8 c) k h)

-- A place was reached in a text on the way to an offset, which is `left` bytes away; what stands from the start of its line on,
-- and after it.
pub record Reached (text : List ℕ) (offset : ℕ) (place : LineColumn) (left : ℕ) (line_text rest : List ℕ) (count joined : ℕ) : Type 0 where
  pub utf8 : IsUtf8 rest
  pub done : List ℕ
  pub split : chars text ≡ done ++ chars rest
  pub front : before offset (chars text) ≡ done ++ before left (chars rest)
  pub lines : place.line ≡ 1 + count_by ends_line done
  pub columns : place.column ≡ length (last_line done)
  pub started : chars line_text ≡ last_line done ++ chars rest
  pub lines_fit : place.line + length rest ≤ 1 + length text
  pub columns_fit : place.column + length rest ≤ length text
  pub counted : count ≡ length done
  pub count_fits : count + length rest ≤ length text
  pub joins : joined ≡ suffix_len is_operator done
  pub joins_fit : joined + length rest ≤ length text

-- the line and column of an offset, step by step
pub record Placed (text : List ℕ) (offset : ℕ) (place : LineColumn) (line_text rest : List ℕ) (count joined : ℕ) : Type 0 where
  pub at_place : place ≡ line_column offset (chars text)
  pub from_start : chars line_text ≡ from_line offset (chars text)
  pub from_place : chars rest ≡ behind offset (chars text)
  pub count_is : count ≡ length (before offset (chars text))
  pub joined_is : joined ≡ suffix_len is_operator (before offset (chars text))
  pub fits : place.column ≤ length text

pub reached_start : (text : List ℕ) (offset : ℕ) → IsUtf8 text → Reached text offset (record { line = 1; column = 0 }) offset text text 0 0
reached_start text offset u = record {
  utf8 = u;
  done = [];
  split = refl;
  front = refl;
  lines = refl;
  columns = refl;
  started = refl;
  lines_fit = omega arith;
  columns_fit = omega arith;
  counted = refl;
  count_fits = omega arith;
  joins = refl;
  joins_fit = omega arith;
}

-- what a place becomes after a character
pub record Moved (c : ℕ) (place : LineColumn) (line_text : List ℕ) (count joined : ℕ) (next : LineColumn) (next_text more : List ℕ) (next_count next_joined : ℕ) : Type 0 where
  pub line_number : next.line ≡ cond (ends_line c) (place.line + 1) place.line
  pub column : next.column ≡ cond (ends_line c) 0 (place.column + 1)
  pub line : next_text ≡ cond (ends_line c) more line_text
  pub count_is : next_count ≡ count + 1
  pub joined_is : next_joined ≡ cond (is_operator c) (joined + 1) 0

shorter : (c : ℕ) (rest more : List ℕ) → rest ≡ encode_utf8 c ++ more → length more + 1 ≤ length rest
shorter c rest more e = omega (arith, ap length e, length-append (encode_utf8 c) more, length-encode c, (len_utf8_bounds c).0)

split_more : (c : ℕ) (text rest more done : List ℕ) → text ≡ done ++ rest → rest ≡ c ∷ more → text ≡ (done ++ c ∷ []) ++ more
split_more c text rest more done s e = s ∙ ap (λ l. done ++ l) e ∙ sym (append_assoc done (c ∷ []) more)

-- the operator that ends there
joined_more : (c : ℕ) (done : List ℕ) (joined next : ℕ) → joined ≡ suffix_len is_operator done → next ≡ cond (is_operator c) (joined + 1) 0 → next ≡ suffix_len is_operator (done ++ c ∷ [])
joined_more c done joined next j n =
    n ∙ ap (λ k. cond (is_operator c) k 0) (add_comm joined 1 ∙ ap (λ k. 1 + k) j) ∙ sym (suffix_more is_operator done c)

joined_fits : (b : Bool) (joined next rest more text : ℕ) → next ≡ cond b (joined + 1) 0 → more + 1 ≤ rest → joined + rest ≤ text → next + more ≤ text
joined_fits true joined next rest more text n short fits = omega (arith, n, short, fits)
joined_fits false joined next rest more text n short fits = omega (arith, n, short, fits)

moved_by : (b : Bool) (c : ℕ) (text : List ℕ) (offset : ℕ) (place : LineColumn) (left : ℕ) (line_text rest : List ℕ) (count joined : ℕ) (next : LineColumn) (next_text more : List ℕ) (next_count next_joined : ℕ)
    → ends_line c ≡ b → Reached text offset place left line_text rest count joined → rest ≡ encode_utf8 c ++ more → len_utf8 c ≤ left → Moved c place line_text count joined next next_text more next_count next_joined
    → Reached text offset next (left - len_utf8 c) next_text more next_count next_joined
moved_by true c text offset place left line_text rest count joined next next_text more next_count next_joined t r e fits m =
    let one : chars rest ≡ c ∷ chars more = chars_past_char rest more c r.utf8 e in
    let short : length more + 1 ≤ length rest = shorter c rest more e in
    let n : next.line ≡ place.line + 1 = m.line_number ∙ ap (λ b. cond b (place.line + 1) place.line) t in
    let k : next.column ≡ 0 = m.column ∙ ap (λ b. cond b 0 (place.column + 1)) t in
    let s : next_text ≡ more = m.line ∙ ap (λ b. cond b more line_text) t in
    let last : last_line (r.done ++ c ∷ []) ≡ [] = last_yes ends_line r.done c t in
    let lines_count : count_by ends_line (r.done ++ c ∷ []) ≡ count_by ends_line r.done + 1 = count_more ends_line r.done c ∙ ap (λ b. count_by ends_line r.done + cond b 1 0) t in
    record {
      utf8 = IsUtf8-past_char rest more c r.utf8 e;
      done = r.done ++ c ∷ [];
      split = split_more c (chars text) (chars rest) (chars more) r.done r.split one;
      front = split_more c (before offset (chars text)) (before left (chars rest)) (before (left - len_utf8 c) (chars more)) r.done r.front (ap (before left) one ∙ before_fits left c (chars more) fits);
      lines = omega (arith, n, r.lines, lines_count);
      columns = k ∙ ap length (sym last);
      started = ap chars s ∙ ap (λ l. l ++ chars more) (sym last);
      lines_fit = omega (arith, n, short, r.lines_fit);
      columns_fit = omega (arith, k, short, r.columns_fit);
      counted = omega (arith, m.count_is, r.counted, length-append r.done (c ∷ []));
      count_fits = omega (arith, m.count_is, short, r.count_fits);
      joins = joined_more c r.done joined next_joined r.joins m.joined_is;
      joins_fit = joined_fits (is_operator c) joined next_joined (length rest) (length more) (length text) m.joined_is short r.joins_fit;
    }
moved_by false c text offset place left line_text rest count joined next next_text more next_count next_joined t r e fits m =
    let one : chars rest ≡ c ∷ chars more = chars_past_char rest more c r.utf8 e in
    let short : length more + 1 ≤ length rest = shorter c rest more e in
    let n : next.line ≡ place.line = m.line_number ∙ ap (λ b. cond b (place.line + 1) place.line) t in
    let k : next.column ≡ place.column + 1 = m.column ∙ ap (λ b. cond b 0 (place.column + 1)) t in
    let s : next_text ≡ line_text = m.line ∙ ap (λ b. cond b more line_text) t in
    let last : last_line (r.done ++ c ∷ []) ≡ last_line r.done ++ c ∷ [] = last_no ends_line r.done c t in
    let lines_count : count_by ends_line (r.done ++ c ∷ []) ≡ count_by ends_line r.done + 0 = count_more ends_line r.done c ∙ ap (λ b. count_by ends_line r.done + cond b 1 0) t in
    record {
      utf8 = IsUtf8-past_char rest more c r.utf8 e;
      done = r.done ++ c ∷ [];
      split = split_more c (chars text) (chars rest) (chars more) r.done r.split one;
      front = split_more c (before offset (chars text)) (before left (chars rest)) (before (left - len_utf8 c) (chars more)) r.done r.front (ap (before left) one ∙ before_fits left c (chars more) fits);
      lines = omega (arith, n, r.lines, lines_count);
      columns = omega (arith, k, r.columns, ap length last, length-append (last_line r.done) (c ∷ []));
      started = ap chars s ∙ split_more c (chars line_text) (chars rest) (chars more) (last_line r.done) r.started one ∙ ap (λ l. l ++ chars more) (sym last);
      lines_fit = omega (arith, n, short, r.lines_fit);
      columns_fit = omega (arith, k, short, r.columns_fit);
      counted = omega (arith, m.count_is, r.counted, length-append r.done (c ∷ []));
      count_fits = omega (arith, m.count_is, short, r.count_fits);
      joins = joined_more c r.done joined next_joined r.joins m.joined_is;
      joins_fit = joined_fits (is_operator c) joined next_joined (length rest) (length more) (length text) m.joined_is short r.joins_fit;
    }

pub reached_more : (c width : ℕ) (text : List ℕ) (offset : ℕ) (place : LineColumn) (left : ℕ) (line_text rest : List ℕ) (count joined : ℕ) (next : LineColumn) (next_text more : List ℕ) (next_count next_joined : ℕ)
    → Reached text offset place left line_text rest count joined → rest ≡ encode_utf8 c ++ more → width ≡ len_utf8 c → width ≤ left
    → Moved c place line_text count joined next next_text more next_count next_joined → Reached text offset next (left - width) next_text more next_count next_joined
reached_more c width text offset place left line_text rest count joined next next_text more next_count next_joined r e w fits m =
    let P : ℕ → Type 0 = λ k. Reached text offset next (left - k) next_text more next_count next_joined in
    subst P (sym w) (moved_by (ends_line c) c text offset place left line_text rest count joined next next_text more next_count next_joined refl r e (rw w at fits) m)

same_place : (x y : LineColumn) → x.line ≡ y.line → x.column ≡ y.column → x ≡ y
same_place x y l k =
    let at_line : ℕ → LineColumn = λ n. record { line = n; column = x.column } in
    let at_column : ℕ → LineColumn = λ n. record { line = y.line; column = n } in
    ap at_line l ∙ ap at_column k

-- no character of what is left ends at the offset or before it
placed : (text : List ℕ) (offset : ℕ) (place : LineColumn) (left : ℕ) (line_text rest : List ℕ) (count joined : ℕ) → Reached text offset place left line_text rest count joined
    → before left (chars rest) ≡ [] → Placed text offset place line_text rest count joined
placed text offset place left line_text rest count joined r none =
    let front : before offset (chars text) ≡ r.done = r.front ∙ ap (λ l. r.done ++ l) none ∙ append-nil r.done in
    let rest_is : behind offset (chars text) ≡ chars rest =
    ap (λ l. drop (length l) (chars text)) front ∙ ap (λ l. drop (length r.done) l) r.split ∙ drop_at r.done (chars rest) (length r.done) refl in
    record {
      at_place = same_place place (line_column offset (chars text)) (r.lines ∙ ap (λ l. 1 + count_by ends_line l) (sym front)) (r.columns ∙ ap (λ l. length (last_line l)) (sym front));
      from_start = r.started ∙ ap (λ l. last_line l ++ chars rest) (sym front) ∙ ap (λ l. last_line (before offset (chars text)) ++ l) (sym rest_is);
      from_place = sym rest_is;
      count_is = r.counted ∙ ap length (sym front);
      joined_is = r.joins ∙ ap (suffix_len is_operator) (sym front);
      fits = omega (arith, r.columns_fit);
    }

pub placed_long : (c width : ℕ) (text : List ℕ) (offset : ℕ) (place : LineColumn) (left : ℕ) (line_text rest more : List ℕ) (count joined : ℕ) → Reached text offset place left line_text rest count joined
    → rest ≡ encode_utf8 c ++ more → width ≡ len_utf8 c → left < width → Placed text offset place line_text rest count joined
placed_long c width text offset place left line_text rest more count joined r e w long =
    placed text offset place left line_text rest count joined r (ap (before left) (chars_past_char rest more c r.utf8 e) ∙ before_long left c (chars more) (rw w at long))

pub placed_end : (text : List ℕ) (offset : ℕ) (place : LineColumn) (left : ℕ) (line_text rest : List ℕ) (count joined : ℕ) → Reached text offset place left line_text rest count joined
    → length rest ≡ 0 → Placed text offset place line_text rest count joined
placed_end text offset place left line_text rest count joined r none =
    placed text offset place left line_text rest count joined r (ap (λ l. before left (chars l)) (nil_from_length rest none) ∙ ap (before left) chars-nil)

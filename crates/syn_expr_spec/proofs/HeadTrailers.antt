-- Trailers, the tokens of frames and those after a left operand are read back from their own tokens.
use Rattle.std.proofs.Common.{◌≡◌, ℕ, ◌+◌, ◌*◌, Bool, true, false, not, ◌||◌, ◌&&◌, ◌==◌, nat_lt, cond, List, [], ◌∷◌, ◌++◌, drop, Option, Some, None, refl, ap, ◌∙◌, subst, codes, arith, append_assoc}
use Rattle.std.proofs.lemmas.Bool.Decides.{nat_tests}
use Rattle.std.proofs.lemmas.List.{append-nil}
use Rattle.syn_lexer.specs.Keywords.{is_reserved_word}
use Rattle.syn_lexer.specs.declared.front.Delimiter.TheVariants as del
use Rattle.syn_tokens.specs.Tok.{Tok, ident, literal}
use Rattle.syn_tokens.specs.Floats.{float_parts, parts_from, part, begins_number}
use Rattle.syn_tokens.specs.Front.{group_at}
use Rattle.syn_lower_spec.specs.declared.label.PathStyle.TheVariants as style
use Rattle.syn_lower_spec.specs.Text.{Text, is_number, has_radix, byte_at}
use Rattle.syn_lower_spec.specs.Tree as t
use Rattle.syn_lower_spec.specs.Tree.{ArgumentsTree}
use Rattle.syn_lower_spec.specs.Mark.{sign_at, word_at, round_at, colon2}
use Rattle.syn_lower_spec.specs.Own.{enclosed, arguments_own}
use Rattle.syn_lower_spec.specs.Part.{turbofish_at}
use Rattle.syn_lower_spec.specs.Fits.{arguments_fit, after_name_stops}
use Rattle.syn_lower_spec.specs.Pat.{a_name, an_index, index_of, integer_value, digits_value, digit_value, base_of, within}
use Rattle.syn_lower_spec.specs.PatOwn.{index_text}
use Rattle.syn_lower_spec.specs.PatFits.{member_fits, same_index}
use Rattle.syn_lower_spec.proofs.Same.{both_true, not_true}
use Rattle.syn_lower_spec.proofs.Ends.{either_false}
use Rattle.syn_lower_spec.proofs.PatsBack.{member_back, reserved_not}
use Rattle.syn_lower_spec.proofs.ReadBack.{name_back}
use Rattle.syn_lower_spec.proofs.Whole.{parts_read_back}
use Rattle.syn_expr_spec.specs.Front.{dot_at, question_at}
use Rattle.syn_expr_spec.specs.Head as h
use Rattle.syn_expr_spec.specs.Stands.{trailer_head, fields_head, name_at, indices_at}
use Rattle.syn_expr_spec.specs.Tree as e
use Rattle.syn_expr_spec.specs.Tree.{Trailer, trailer_own}
use Rattle.syn_expr_spec.specs.WellFormed.{trailer_fits}

-- ---- trailers

-- a field's name before `(` or `::` would be a method's
abbrev pub trailer_stops : Trailer → List Tok → Bool
trailer_stops (e.field (a_name w)) r = not (round_at r || colon2.at r)
trailer_stops k r = true

-- after a trailer's own tokens: its group, or nothing
abbrev pub trailer_rest : Trailer → List Tok → List Tok → List Tok
trailer_rest e.call i r = enclosed del.Parenthesis i r
trailer_rest e.index i r = enclosed del.Bracket i r
trailer_rest (e.method w a) i r = enclosed del.Parenthesis i r
trailer_rest k i r = r

-- a field of a tuple, whose index may be a part of a float
abbrev pub is_indexed : Trailer → Bool
is_indexed (e.field (an_index n)) = true
is_indexed _ = false

pub r_await : is_reserved_word (codes "await") ≡ true
unfolding is_reserved_word
r_await = refl

arguments_stop_round : (a : ArgumentsTree) (i r : List Tok) → arguments_fit style.Expr a ≡ true → after_name_stops style.Expr a (enclosed del.Parenthesis i r) ≡ true
unfolding turbofish_at sign_at
arguments_stop_round t.no_arguments i r f = refl
arguments_stop_round (t.angle c gs e) i r f = refl
arguments_stop_round (t.round xs e o) i r f = absurd cc

method_seen : (w : Text) (a : ArgumentsTree) (i r : List Tok) → is_reserved_word w ≡ false → arguments_fit style.Expr a ≡ true → h.method_at (ident w ∷ arguments_own a (enclosed del.Parenthesis i r)) ≡ true
unfolding h.method_at round_at group_at sign_at
method_seen w t.no_arguments i r f g = rw f refl
method_seen w (t.angle true gs e) i r f g = rw f refl
method_seen w (t.angle false gs e) i r f g = absurd cc
method_seen w (t.round xs e o) i r f g = absurd cc

method_back : (w : Text) (a : ArgumentsTree) (i r : List Tok) → is_reserved_word w ≡ false → arguments_fit style.Expr a ≡ true
    → h.dotted.behind (e.method w a) (ident w ∷ arguments_own a (enclosed del.Parenthesis i r)) ≡ Some (enclosed del.Parenthesis i r)
unfolding h.dotted word_at
method_back w a i r f g =
    rw (reserved_not w (codes "await") f r_await, method_seen w a i r f g, name_back w (arguments_own a (enclosed del.Parenthesis i r)) (rw f refl))
    (parts_read_back.segment_arguments style.Expr a (enclosed del.Parenthesis i r) g (arguments_stop_round a i r g))

field_back : (w : Text) (r : List Tok) → is_reserved_word w ≡ false → round_at r ≡ false → colon2.at r ≡ false → h.dotted.behind (e.field (a_name w)) (ident w ∷ r) ≡ Some r
unfolding h.dotted h.method_at word_at
field_back w r f g i = rw (reserved_not w (codes "await") f r_await, f, g, i) (member_back (a_name w) r (rw f refl))

await_back : (r : List Tok) → h.dotted.behind e.await (ident (codes "await") ∷ r) ≡ Some r
unfolding h.dotted word_at
await_back r = refl

pub trailer_back : (k : Trailer) (i r : List Tok) → trailer_fits k ≡ true → is_indexed k ≡ false → trailer_stops k r ≡ true → trailer_head k (trailer_own k i r) ≡ Some ([], trailer_rest k i r)
unfolding trailer_head dot_at question_at sign_at name_at
trailer_back (e.method w a) i r f g u =
    let (j, k) = both_true (not (is_reserved_word w)) (arguments_fit style.Expr a) f in
    rw (method_back w a i r (not_true (is_reserved_word w) j) k) refl
trailer_back (e.field (a_name w)) i r f g u =
    let (j, k) = either_false (round_at r) (colon2.at r) (not_true (round_at r || colon2.at r) u) in
    rw (field_back w r (not_true (is_reserved_word w) f) j k) refl
trailer_back (e.field (an_index n)) i r f g u = absurd cc
trailer_back e.await i r f g u = rw (await_back r) refl
trailer_back _ i r f g u = refl

-- ---- indices

-- no dot is in the text
abbrev no_dot : Text → Bool
no_dot [] = true
no_dot (b ∷ w) = not (b == 46) && no_dot w

parts_whole : (passed w : Text) → no_dot w ≡ true → parts_from passed w ≡ part (passed ++ w)
parts_whole passed [] f = rw append-nil refl
parts_whole passed (b ∷ w) f =
    let (i, j) = both_true (not (b == 46)) (no_dot w) f in
    rw (not_true (b == 46) i) (parts_whole (passed ++ b ∷ []) w j ∙ ap part (append_assoc passed (b ∷ []) w))

digit_no_dot : (base c : ℕ) → nat_lt 99 base ≡ false → nat_lt (digit_value c) base ≡ true → not (c == 46) ≡ true
digit_no_dot base c f g = by_dot (c == 46) refl
  where
    by_dot : (b : Bool) → (c == 46) ≡ b → not b ≡ true
    by_dot false d = refl
    by_dot true d = let k : c ≡ 46 = grind (arith, nat_tests, d) in let m : nat_lt 99 base ≡ true = subst (λ z. nat_lt (digit_value z) base ≡ true) k g in absurd cc

digits_no_dot : (base : ℕ) (w : Text) (found n : ℕ) → nat_lt 99 base ≡ false → digits_value base found w ≡ Some n → no_dot w ≡ true
digits_no_dot base [] found n f g = refl
digits_no_dot base (c ∷ w) found n f g = by_underscore (c == 95) refl g (λ k. digits_no_dot base w k n f)
  where
    by_digit : (b : Bool) → nat_lt (digit_value c) base ≡ b → cond b (digits_value base (found * base + digit_value c) w) None ≡ Some n
        → ((k : ℕ) → digits_value base k w ≡ Some n → no_dot w ≡ true) → no_dot (c ∷ w) ≡ true
    by_digit true d g again = rw (digit_no_dot base c f d) (again (found * base + digit_value c) g)
    by_digit false d g again = absurd cc

    by_underscore : (b : Bool) → (c == 95) ≡ b → cond b (digits_value base found w) (cond (nat_lt (digit_value c) base) (digits_value base (found * base + digit_value c) w) None) ≡ Some n
        → ((k : ℕ) → digits_value base k w ≡ Some n → no_dot w ≡ true) → no_dot (c ∷ w) ≡ true
    by_underscore true d g again =
        let k : not (c == 46) ≡ true = grind (arith, nat_tests, d) in
        rw k (again found g)
    by_underscore false d g again = by_digit (nat_lt (digit_value c) base) refl g again

base_small : (c : ℕ) → nat_lt 99 (base_of c) ≡ false
base_small c = by_bool (c == 120) (c == 111)
  where
    by_bool : (a b : Bool) → nat_lt 99 (cond a 16 (cond b 8 2)) ≡ false
    by_bool true b = refl
    by_bool false true = refl
    by_bool false false = refl

-- the digits of a number in a base after a prefix
radix_no_dot : (w : Text) (n : ℕ) → has_radix w ≡ true → digits_value (base_of (byte_at w 1)) 0 (drop 2 w) ≡ Some n → no_dot w ≡ true
radix_no_dot [] n f g = absurd cc
radix_no_dot (b ∷ []) n f g = let (i, j) = both_true (b == 48) _ f in absurd cc
radix_no_dot (b ∷ c ∷ w) n f g =
    let (i, j) = both_true (b == 48) _ f in
    let k : not (b == 46) ≡ true = grind (arith, nat_tests, i) in
    rw (k, second c j) (digits_no_dot (base_of c) w 0 n (base_small c) g)
  where
    second : (c : ℕ) → (c == 120 || (c == 111 || c == 98)) ≡ true → not (c == 46) ≡ true
    second c f = by_dot (c == 46) refl
      where
        by_dot : (b : Bool) → (c == 46) ≡ b → not b ≡ true
        by_dot false d = refl
        by_dot true d = let k : c ≡ 46 = grind (arith, nat_tests, d) in let m : (46 == 120 || (46 == 111 || 46 == 98)) ≡ true = subst (λ z. (z == 120 || (z == 111 || z == 98)) ≡ true) k f in absurd cc

number_no_dot : (w : Text) (n : ℕ) → integer_value w ≡ Some n → no_dot w ≡ true
number_no_dot w n f = by_number (is_number w) f
  where
    by_radix : (b : Bool) → has_radix w ≡ b → cond b (digits_value (base_of (byte_at w 1)) 0 (drop 2 w)) (digits_value 10 0 w) ≡ Some n → no_dot w ≡ true
    by_radix true d f = radix_no_dot w n d f
    by_radix false d f = digits_no_dot 10 w 0 n refl f

    by_number : (b : Bool) → cond b (cond (has_radix w) (digits_value (base_of (byte_at w 1)) 0 (drop 2 w)) (digits_value 10 0 w)) None ≡ Some n → no_dot w ≡ true
    by_number true f = by_radix (has_radix w) refl f
    by_number false f = absurd cc

index_no_dot : (w : Text) (n : ℕ) → index_of w ≡ Some n → no_dot w ≡ true
unfolding index_of
index_no_dot w n f = by_value (integer_value w) refl f
  where
    by_value : (o : Option ℕ) → integer_value w ≡ o → within o ≡ Some n → no_dot w ≡ true
    by_value None d f = absurd cc
    by_value (Some k) d f = number_no_dot w k d

-- An index is no float: it is its only part.
pub index_parts : (w : Text) (n : ℕ) → index_of w ≡ Some n → float_parts w ≡ literal w ∷ []
index_parts w n f = by_text w (index_no_dot w n f)
  where
    by_text : (w : Text) → no_dot w ≡ true → float_parts w ≡ literal w ∷ []
    by_text [] d = refl
    by_text (b ∷ v) d = by_number (begins_number (b ∷ v)) (parts_whole [] (b ∷ v) d)
      where
        by_number : (c : Bool) → parts_from [] (b ∷ v) ≡ literal (b ∷ v) ∷ [] → cond c (parts_from [] (b ∷ v)) (literal (b ∷ v) ∷ []) ≡ literal (b ∷ v) ∷ []
        by_number true g = g
        by_number false g = refl

same_is : (o : Option ℕ) (n : ℕ) → same_index o n ≡ true → o ≡ Some n
same_is None n f = absurd cc
same_is (Some m) n f = let e : m ≡ n = grind (arith, nat_tests, f) in ap Some e

pub index_back : (n : ℕ) (r : List Tok) → member_fits (an_index n) ≡ true → indices_at (literal (index_text n) ∷ r) ≡ Some (n ∷ [], r)
unfolding indices_at
index_back n r f =
    let g = same_is (index_of (index_text n)) n f in
    rw (index_parts (index_text n) n g, g) refl

pub indexed_back : (n : ℕ) (i r : List Tok) → trailer_fits (e.field (an_index n)) ≡ true → fields_head (trailer_own (e.field (an_index n)) i r) ≡ Some (n ∷ [], r)
unfolding fields_head dot_at sign_at
indexed_back n i r f = index_back n r f

-- Characters and tokens that are written from their end.
use Rattle.std.proofs.Common.{◌≡◌, ℕ, ◌+◌, ◌-◌, ◌≤◌, List, [], ◌∷◌, ◌++◌, length, take, drop, get_or, slice_index, refl, sym, ◌∙◌, ap, ap₂, append_assoc, arith, encode_utf8, encode_utf8_all, codes, false, ◌&&◌, ◌||◌}
use Rattle.std.specs.Prelude.{reverse}
use Rattle.std.proofs.lemmas.List.{reverse-append, take-append-drop, drop_more, drop_all}
use Rattle.syn_lexer.specs.Text.{begins}
use Rattle.syn_lexer.specs.Words.{starts_word}
use Rattle.syn_tokens.specs.Tok.{Tok, weight}
use Rattle.syn_text.specs.Must.{takes_dot}

-- a list is its front and its last item
pub at_end : {A : Type 0} (xs : List A) (x : A) → 1 ≤ length xs → x ≡ get_or xs (length xs - 1) x → xs ≡ take (length xs - 1) xs ++ x ∷ []
at_end xs x h is =
    let n = length xs - 1 in
    let more : drop n xs ≡ get_or xs n x ∷ drop (n + 1) xs = drop_more xs n x (omega arith) in
    let none : drop (n + 1) xs ≡ [] = drop_all (n + 1) xs (omega arith) in
    sym (take-append-drop n xs) ∙ ap (λ r. take n xs ++ r) (more ∙ ap₂ (λ y ys. y ∷ ys) (sym is) none)

pub reverse_one : (xs : List ℕ) (c : ℕ) → reverse (xs ++ c ∷ []) ≡ c ∷ reverse xs
reverse_one xs c = reverse-append xs (c ∷ [])

pub reverse_end : (xs : List ℕ) (c : ℕ) → 1 ≤ length xs → c ≡ get_or xs (length xs - 1) c → reverse xs ≡ c ∷ reverse (take (length xs - 1) xs)
reverse_end xs c h is = ap reverse (at_end xs c h is) ∙ reverse_one (take (length xs - 1) xs) c

-- ---- what is read from the end

pub first_is : (xs : List ℕ) (c : ℕ) → 1 ≤ length xs → c ≡ get_or xs (length xs - 1) c → c ≡ slice_index (reverse xs) 0
first_is xs c h is = sym (ap (λ r. slice_index r 0) (reverse_end xs c h is))

pub first_none : (xs : List ℕ) → length xs ≡ 0 → 0 ≡ slice_index (reverse xs) 0
first_none [] h = refl
first_none (x ∷ xs) h = absurd (omega arith)

pub dot_is : (xs : List ℕ) (c : ℕ) → 1 ≤ length xs → c ≡ get_or xs (length xs - 1) c → begins (codes ".") (c ∷ []) ≡ begins (codes ".") (reverse xs)
dot_is xs c h is = sym (ap (begins (codes ".")) (reverse_end xs c h is))

pub dot_none : (xs : List ℕ) → length xs ≡ 0 → false ≡ begins (codes ".") (reverse xs)
dot_none [] h = refl
dot_none (x ∷ xs) h = absurd (omega arith)

pub dot_or_word_is : (xs : List ℕ) (c : ℕ) → 1 ≤ length xs → c ≡ get_or xs (length xs - 1) c
    → (begins (codes ".") (c ∷ []) || starts_word (c ∷ [])) ≡ (begins (codes ".") (reverse xs) || starts_word (reverse xs))
dot_or_word_is xs c h is = sym (ap (λ r. begins (codes ".") r || starts_word r) (reverse_end xs c h is))

pub dot_or_word_none : (xs : List ℕ) → length xs ≡ 0 → false ≡ (begins (codes ".") (reverse xs) || starts_word (reverse xs))
dot_or_word_none [] h = refl
dot_or_word_none (x ∷ xs) h = absurd (omega arith)

pub takes_is : (xs text : List ℕ) (c : ℕ) → 1 ≤ length xs → c ≡ get_or xs (length xs - 1) c
    → (begins (codes ".") (c ∷ []) && takes_dot text (reverse (take (length xs - 1) xs))) ≡ (begins (codes ".") (reverse xs) && takes_dot text (drop 1 (reverse xs)))
takes_is xs text c h is = sym (ap (λ r. begins (codes ".") r && takes_dot text (drop 1 r)) (reverse_end xs c h is))

pub takes_none : (xs text : List ℕ) → length xs ≡ 0 → false ≡ (begins (codes ".") (reverse xs) && takes_dot text (drop 1 (reverse xs)))
takes_none [] text h = refl
takes_none (x ∷ xs) text h = absurd (omega arith)

-- ---- what is written from the end

-- one more character at the end of what is written, which is the last of what is to be written
pub one_laid : (xs out : List ℕ) (c : ℕ) → 1 ≤ length xs → c ≡ get_or xs (length xs - 1) c
    → take (length xs - 1) xs ++ reverse (out ++ c ∷ []) ≡ xs ++ reverse out
one_laid xs out c h is =
    let front = take (length xs - 1) xs in
    ap (λ r. front ++ r) (reverse_one out c) ∙ sym (append_assoc front (c ∷ []) (reverse out)) ∙ ap (λ r. r ++ reverse out) (sym (at_end xs c h is))

pub one_forward : (xs bytes : List ℕ) (c : ℕ) → 1 ≤ length xs → c ≡ get_or xs (length xs - 1) c
    → (bytes ++ encode_utf8 c) ++ encode_utf8_all (reverse (take (length xs - 1) xs)) ≡ bytes ++ encode_utf8_all (reverse xs)
one_forward xs bytes c h is =
    append_assoc bytes (encode_utf8 c) (encode_utf8_all (reverse (take (length xs - 1) xs)))
    ∙ ap (λ r. bytes ++ encode_utf8_all r) (sym (reverse_end xs c h is))

pub weight-append : (a b : List Tok) → weight (a ++ b) ≡ weight a + weight b
unfolding weight
weight-append [] b = omega arith
weight-append (t ∷ a) b = omega (arith, weight-append a b)

pub ruleset backwards = (reverse_one, first_is, first_none, dot_is, dot_none, dot_or_word_is, dot_or_word_none, takes_is, takes_none, one_laid, one_forward)

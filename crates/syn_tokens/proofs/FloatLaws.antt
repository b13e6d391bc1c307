-- A split list remembers its floats, and is joined again.
use Rattle.std.proofs.Common.{◌≡◌, ◌≤◌, ℕ, Bool, true, false, List, [], ◌∷◌, ◌++◌, length, refl, ◌∙◌, ap, arith, length-append}
use Rattle.std.specs.Prelude.{map, ◌==◌, ◌&&◌, not, if◌then◌else◌}
use Rattle.std.specs.Char.{is_ascii_digit}
use Rattle.std.proofs.lemmas.List.{map-append}
use Rattle.syn_tokens.specs.Tok.{Tok, ident, punct, literal, group}
use Rattle.syn_tokens.specs.Floats.{Split, whole, piece, last, token_of, pieces_of, parts_from, dot, float_parts, is_joint, split_from, remember_from, join_floats}

join-append : (a b : List Split) → join_floats (a ++ b) ≡ join_floats a ++ join_floats b
unfolding join_floats
join-append [] b = refl
join-append (whole t ∷ a) b = ap (λ r. t ∷ r) (join-append a b)
join-append (piece t ∷ a) b = join-append a b
join-append (last s t ∷ a) b = ap (λ r. literal s ∷ r) (join-append a b)

tokens-pieces : (s : List ℕ) (ts : List Tok) → map token_of (pieces_of s ts) ≡ ts
tokens-pieces s [] = refl
tokens-pieces s (t ∷ []) = refl
tokens-pieces s (t ∷ u ∷ ts) = ap (λ r. t ∷ r) (tokens-pieces s (u ∷ ts))

-- the tokens of a float are one float again, as there is one at least
join-pieces : (s : List ℕ) (t : Tok) (ts : List Tok) → join_floats (pieces_of s (t ∷ ts)) ≡ literal s ∷ []
unfolding join_floats
join-pieces s t [] = refl
join-pieces s t (u ∷ ts) = join-pieces s u ts

join-some : (s : List ℕ) (ts : List Tok) → 1 ≤ length ts → join_floats (pieces_of s ts) ≡ literal s ∷ []
join-some s [] h = absurd (omega arith)
join-some s (t ∷ ts) h = join-pieces s t ts

either_one : (c : Bool) (xs ys : List Tok) → 1 ≤ length xs → 1 ≤ length ys → 1 ≤ length (if c then xs else ys)
either_one true xs ys g h = g
either_one false xs ys g h = h

passed_one : (passed s : List ℕ) → 1 ≤ length passed → 1 ≤ length (parts_from passed s)
passed_one [] [] h = absurd (omega arith)
passed_one (b ∷ passed) [] h = omega arith
passed_one passed (b ∷ s) h =
    either_one (b == 46) (literal passed ∷ dot ∷ parts_from [] s) (parts_from (passed ++ b ∷ []) s) (omega arith)
    (passed_one (passed ++ b ∷ []) s (omega (arith, length-append passed (b ∷ []))))

some_parts : (b : ℕ) (s : List ℕ) → 1 ≤ length (parts_from [] (b ∷ s))
some_parts b s =
    either_one (b == 46) (literal [] ∷ dot ∷ parts_from [] s) (parts_from (b ∷ []) s) (omega arith) (passed_one (b ∷ []) s (omega arith))

parts_one : (s : List ℕ) → 1 ≤ length (float_parts s)
parts_one [] = omega arith
parts_one (b ∷ s) = either_one (is_ascii_digit b) (parts_from [] (b ∷ s)) (literal (b ∷ s) ∷ []) (some_parts b s) (omega arith)

pub remembers : (joint single : Bool) (ts : List Tok) → map token_of (remember_from joint single ts) ≡ split_from joint single ts
remembers joint single [] = refl
remembers joint single (punct c s ∷ ts) = ap (λ r. punct c s ∷ r) (remembers (c == 46 && is_joint s) (c == 46 && not joint) ts)
remembers joint true (literal s ∷ ts) =
    map-append token_of (pieces_of s (float_parts s)) (remember_from false false ts)
    ∙ rw (tokens-pieces s (float_parts s)) (ap (λ r. float_parts s ++ r) (remembers false false ts))
remembers joint false (literal s ∷ ts) = ap (λ r. literal s ∷ r) (remembers false false ts)
remembers joint single (ident s ∷ ts) = ap (λ r. ident s ∷ r) (remembers false false ts)
remembers joint single (group d i ∷ ts) = ap (λ r. group d i ∷ r) (remembers false false ts)

pub joins : (joint single : Bool) (ts : List Tok) → join_floats (remember_from joint single ts) ≡ ts
unfolding join_floats
joins joint single [] = refl
joins joint single (punct c s ∷ ts) = ap (λ r. punct c s ∷ r) (joins (c == 46 && is_joint s) (c == 46 && not joint) ts)
joins joint true (literal s ∷ ts) =
    join-append (pieces_of s (float_parts s)) (remember_from false false ts)
    ∙ rw (join-some s (float_parts s) (parts_one s)) (ap (λ r. literal s ∷ r) (joins false false ts))
joins joint false (literal s ∷ ts) = ap (λ r. literal s ∷ r) (joins false false ts)
joins joint single (ident s ∷ ts) = ap (λ r. ident s ∷ r) (joins false false ts)
joins joint single (group d i ∷ ts) = ap (λ r. group d i ∷ r) (joins false false ts)

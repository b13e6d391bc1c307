-- The characters of a text and the bytes that they are in.
use Rattle.std.proofs.Common.{◌≡◌, Bool, ℕ, ◌+◌, ◌-◌, ◌≤◌, ◌<◌, List, [], ◌∷◌, ◌++◌, length, take, drop, true, refl, sym, ◌∙◌, ap, append_assoc, arith, encode_utf8_all, chars}
use Rattle.std.specs.Str.{IsUtf8, IsCharBoundary, all_scalars}
use Rattle.std.proofs.lemmas.Bool.{and_parts}
use Rattle.std.proofs.lemmas.List.{length-append, length-drop, drop-drop, drop_at, take_at, take-append-drop}
use Rattle.std.proofs.lemmas.Str.{encodes-append, encodes-chars, length-le-encodes, scalars-chars, IsCharBoundary-from_drop}
use Rattle.syn_tokens.specs.Standing.{AreLeft, StandAt}

scalars_behind : (xs ys : List ℕ) → all_scalars (xs ++ ys) ≡ true → all_scalars ys ≡ true
scalars_behind [] ys h = h
scalars_behind (x ∷ xs) ys h = scalars_behind xs ys (and_parts _ (all_scalars (xs ++ ys)) h).1

is_boundary : (bytes : List ℕ) (at : ℕ) (cs : List ℕ) → AreLeft bytes at cs → IsCharBoundary bytes at
is_boundary bytes at cs l = IsCharBoundary-from_drop bytes at l.within (cs, (l.characters, sym l.left))

pub all_left : (bytes : List ℕ) → IsUtf8 bytes → AreLeft bytes 0 (chars bytes)
all_left bytes u = record {
  within = omega arith;
  left = sym (encodes-chars bytes u);
  characters = scalars-chars bytes u;
}

-- ---- what is left after some characters

left_parts : (bytes : List ℕ) (at : ℕ) (xs ys : List ℕ) → AreLeft bytes at (xs ++ ys)
    → drop at bytes ≡ encode_utf8_all xs ++ encode_utf8_all ys
left_parts bytes at xs ys l = l.left ∙ encodes-append xs ys

pub left_behind : (bytes : List ℕ) (at : ℕ) (xs ys : List ℕ) → AreLeft bytes at (xs ++ ys)
    → AreLeft bytes (at + length (encode_utf8_all xs)) ys
left_behind bytes at xs ys l =
    let parts = left_parts bytes at xs ys l in
    let lengths : length bytes - at ≡ length (encode_utf8_all xs) + length (encode_utf8_all ys) = sym (length-drop at bytes) ∙ ap length parts ∙ length-append (encode_utf8_all xs) (encode_utf8_all ys) in
    let within = l.within in
    record {
      within = omega arith;
      left = sym (drop-drop (length (encode_utf8_all xs)) at bytes) ∙ ap (drop (length (encode_utf8_all xs))) parts ∙ drop_at (encode_utf8_all xs) (encode_utf8_all ys) (length (encode_utf8_all xs)) refl;
      characters = scalars_behind xs ys l.characters;
    }

-- ---- characters that stand from one byte to another

pub stand_in_order : (bytes : List ℕ) (lo hi : ℕ) (cs : List ℕ) → StandAt bytes lo hi cs → lo ≤ hi
stand_in_order bytes lo hi cs s = let end = s.2 in omega arith

pub stand_from : (bytes : List ℕ) (lo hi : ℕ) (cs : List ℕ) → StandAt bytes lo hi cs → IsCharBoundary bytes lo
stand_from bytes lo hi cs s = is_boundary bytes lo (cs ++ s.0) s.1

pub stand_to : (bytes : List ℕ) (lo hi : ℕ) (cs : List ℕ) → StandAt bytes lo hi cs → IsCharBoundary bytes hi
stand_to bytes lo hi cs s = rw s.2 (is_boundary bytes _ s.0 (left_behind bytes lo cs s.0 s.1))

pub stand_are : (bytes : List ℕ) (lo hi : ℕ) (cs : List ℕ) → StandAt bytes lo hi cs
    → take (hi - lo) (drop lo bytes) ≡ encode_utf8_all cs
stand_are bytes lo hi cs s =
    let end = s.2 in
    let size : length (encode_utf8_all cs) ≡ hi - lo = omega arith in
    rw (left_parts bytes lo cs s.0 s.1) (take_at (encode_utf8_all cs) (encode_utf8_all s.0) (hi - lo) size)

pub stand_behind : (bytes : List ℕ) (lo hi : ℕ) (xs ys : List ℕ) → StandAt bytes lo hi (xs ++ ys)
    → StandAt bytes (lo + length (encode_utf8_all xs)) hi ys
stand_behind bytes lo hi xs ys s =
    let sizes : length (encode_utf8_all (xs ++ ys)) ≡ length (encode_utf8_all xs) + length (encode_utf8_all ys) = ap length (encodes-append xs ys) ∙ length-append (encode_utf8_all xs) (encode_utf8_all ys) in
    let end = s.2 in
    (s.0, left_behind bytes lo xs (ys ++ s.0) (rw (← append_assoc xs ys s.0) s.1), omega arith)

-- ---- places that a machine counts

pub left_size : (bytes : List ℕ) (at : ℕ) (cs : List ℕ) → AreLeft bytes at cs → at + length (encode_utf8_all cs) ≡ length bytes
left_size bytes at cs l =
    let sizes : length bytes - at ≡ length (encode_utf8_all cs) = sym (length-drop at bytes) ∙ ap length l.left in
    let within = l.within in
    omega arith

pub left_within : (bytes : List ℕ) (at : ℕ) (cs : List ℕ) → AreLeft bytes at cs → 0 < length cs → at < length bytes
left_within bytes at cs l h =
    let size = left_size bytes at cs l in
    let each = length-le-encodes cs in
    omega arith

pub front_size : (n : ℕ) (cs : List ℕ) → length (encode_utf8_all (take n cs)) ≤ length (encode_utf8_all cs)
front_size n cs =
    let same : encode_utf8_all (take n cs ++ drop n cs) ≡ encode_utf8_all cs = ap encode_utf8_all (take-append-drop n cs) in
    let sizes : length (encode_utf8_all cs) ≡ length (encode_utf8_all (take n cs)) + length (encode_utf8_all (drop n cs)) = ap length (sym same ∙ encodes-append (take n cs) (drop n cs)) ∙ length-append (encode_utf8_all (take n cs)) (encode_utf8_all (drop n cs)) in
    omega arith

-- ---- the next characters of those that are left

pub next_left : (bytes : List ℕ) (at n : ℕ) (cs : List ℕ) → AreLeft bytes at cs → AreLeft bytes (at + length (encode_utf8_all (take n cs))) (drop n cs)
next_left bytes at n cs l = left_behind bytes at (take n cs) (drop n cs) (rw (take-append-drop n cs) l)

pub next_stand : (bytes : List ℕ) (at n : ℕ) (cs : List ℕ) → AreLeft bytes at cs → StandAt bytes at (at + length (encode_utf8_all (take n cs))) (take n cs)
next_stand bytes at n cs l = (drop n cs, rw (take-append-drop n cs) l, refl)

pub next_size : (bytes : List ℕ) (at n : ℕ) (cs : List ℕ) → AreLeft bytes at cs → at + length (encode_utf8_all (take n cs)) ≤ length bytes
next_size bytes at n cs l = (next_left bytes at n cs l).within

-- ---- where each character takes one byte

narrow_parts : (xs ys : List ℕ) → length (encode_utf8_all (xs ++ ys)) ≡ length (xs ++ ys)
    → (length (encode_utf8_all xs) ≡ length xs) × (length (encode_utf8_all ys) ≡ length ys)
narrow_parts xs ys h =
    let sizes : length (encode_utf8_all (xs ++ ys)) ≡ length (encode_utf8_all xs) + length (encode_utf8_all ys) = ap length (encodes-append xs ys) ∙ length-append (encode_utf8_all xs) (encode_utf8_all ys) in
    let counts = length-append xs ys in
    let front = length-le-encodes xs in
    let back = length-le-encodes ys in
    (omega arith, omega arith)

-- the characters that are left take one byte each, where this is known
abbrev pub narrow : Bool → List ℕ → Type 0
narrow is_narrow cs = is_narrow ≡ true → length (encode_utf8_all cs) ≡ length cs

pub next_narrow : (b : Bool) (n : ℕ) (cs : List ℕ) → narrow b cs → narrow b (take n cs) × narrow b (drop n cs)
next_narrow b n cs h =
    let parts : b ≡ true → (length (encode_utf8_all (take n cs)) ≡ length (take n cs)) × (length (encode_utf8_all (drop n cs)) ≡ length (drop n cs)) = λ is. narrow_parts (take n cs) (drop n cs) (rw (take-append-drop n cs) (h is)) in
    (λ is. (parts is).0, λ is. (parts is).1)

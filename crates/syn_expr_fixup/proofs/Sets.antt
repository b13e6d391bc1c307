-- Sets of classes are equal where they have the same classes.
use Rattle.std.specs.Prelude.{not, ◌&&◌, ◌||◌, nat_eq, if◌then◌else◌, get_or, bit_and, bit_or}
use Rattle.std.proofs.Common.{◌≡◌, ℕ, zero, suc, ◌+◌, ◌^◌, ◌<◌, min, max, Bool, true, false, List, [], ◌∷◌, length, refl, sym, ◌∙◌, ap, arith}
use Rattle.std.specs.Int.{bit_at}
use Rattle.std.proofs.lemmas.Nat.{and_le_l, or_lt}
use Rattle.std.proofs.lemmas.Nat.Bits.{bit_at-lt, bit_at_and, bit_at_or, same_from_bits_below}
use Rattle.syn_expr_spec.specs.declared.kinds.Precedence.{Precedence}
use Rattle.syn_expr_spec.specs.declared.next.Next.{Next}
use Rattle.syn_expr_spec.specs.declared.next.Next.TheVariants as next
use Rattle.syn_expr_spec.specs.declared.summary.Summary.{Summary}
use Rattle.syn_expr_spec.specs.Place.{takes}
use Rattle.syn_expr_spec.specs.Next.{takes_next, trails}
use Rattle.syn_expr_spec.specs.Summaries.{index, classes, bit, bits, set_of, has, wrapped_by, end_by}
use Rattle.std.proofs.Math.Nat.{pow-suc}
use Rattle.std.proofs.Math.Bool.{or-false, or_comm}
use Rattle.syn_expr_spec.proofs.SummaryLemmas.{bits_at, set_has}

-- ---- a set is below 2 ^ 24

bit_small : (b : Bool) → bit b < 2
bit_small true = omega arith
bit_small false = omega arith

bits_small : (f : Next → Bool) (l : List Next) → bits f l < 2 ^ length l
bits_small f [] = omega arith
bits_small f (n ∷ more) = let p = bits_small f more in let q = bit_small (f n) in rw pow-suc (omega arith)

-- ---- the classes in their order

abbrev From : ℕ → List Next → Type 0
From k [] = Unit {0}
From k (n ∷ more) = (index n ≡ k) × From (suc k) more

index_from : (k : ℕ) (l : List Next) (i : ℕ) → From k l → i < length l → index (get_or l i next.End) ≡ k + i
index_from k [] i o h = absurd (omega arith)
index_from k (n ∷ more) zero o h = o.0 ∙ omega arith
index_from k (n ∷ more) (suc i) o h = index_from (suc k) more i o.1 (omega arith) ∙ omega arith

all_from : From 0 classes
all_from = search arith

place_is : (i : ℕ) → i < 24 → index (get_or classes i next.End) ≡ i
place_is i h = index_from 0 classes i all_from h ∙ omega arith

bit_tested : (x : ℕ) → x < 2 → x ≡ bit (nat_eq x 1)
bit_tested zero h = refl
bit_tested (suc zero) h = refl
bit_tested (suc (suc x)) h = absurd (omega arith)

-- a bit of a set
bit_has : (m : ℕ) (n : Next) → bit_at m (index n) ≡ bit (has m n)
unfolding has
bit_has m n = bit_tested (bit_at m (index n)) (bit_at-lt m (index n))

pub set_is : (m : ℕ) (f : Next → Bool) → m < 2 ^ 24 → ((n : Next) → has m n ≡ f n) → m ≡ set_of f
unfolding set_of
set_is m f small same = same_from_bits_below 24 m (bits f classes) small (bits_small f classes)
    (λ i h. ap (bit_at m) (sym (place_is i h)) ∙ bit_has m (get_or classes i next.End) ∙ ap bit (same (get_or classes i next.End)) ∙ sym (bits_at f classes i h))

-- ---- what sets have

both_bits : (x y : ℕ) → x < 2 → y < 2 → nat_eq (min x y) 1 ≡ nat_eq x 1 && nat_eq y 1
both_bits zero zero h g = refl
both_bits zero (suc zero) h g = refl
both_bits (suc zero) zero h g = refl
both_bits (suc zero) (suc zero) h g = refl
both_bits (suc (suc x)) y h g = absurd (omega arith)
both_bits x (suc (suc y)) h g = absurd (omega arith)

one_bit : (x y : ℕ) → x < 2 → y < 2 → nat_eq (max x y) 1 ≡ nat_eq x 1 || nat_eq y 1
one_bit zero zero h g = refl
one_bit zero (suc zero) h g = refl
one_bit (suc zero) zero h g = refl
one_bit (suc zero) (suc zero) h g = refl
one_bit (suc (suc x)) y h g = absurd (omega arith)
one_bit x (suc (suc y)) h g = absurd (omega arith)

and_has : (a b : ℕ) (n : Next) → has (bit_and a b) n ≡ has a n && has b n
unfolding has
and_has a b n = ap (λ x. nat_eq x 1) (bit_at_and a b (index n)) ∙ both_bits (bit_at a (index n)) (bit_at b (index n)) (bit_at-lt a (index n)) (bit_at-lt b (index n))

or_has : (a b : ℕ) (n : Next) → has (bit_or a b) n ≡ has a n || has b n
unfolding has
or_has a b n = ap (λ x. nat_eq x 1) (bit_at_or a b (index n)) ∙ one_bit (bit_at a (index n)) (bit_at b (index n)) (bit_at-lt a (index n)) (bit_at-lt b (index n))

every : set_of (λ n. true) ≡ 0xff_ffff
unfolding set_of
every = refl

every_has : (n : Next) → has 0xff_ffff n ≡ true
every_has n = ap (λ m. has m n) (sym every) ∙ set_has (λ m. true) n

trailers : set_of trails ≡ 0x3c_0000
unfolding set_of
trailers = refl

trailers_has : (n : Next) → has 0x3c_0000 n ≡ trails n
trailers_has n = ap (λ m. has m n) (sym trailers) ∙ set_has trails n

or_true : (b : Bool) → true ≡ b || true
or_true true = refl
or_true false = refl

wrapped_has : (p q : Bool) (s : ℕ) (n : Next) → has (if p || q then 0xff_ffff else s) n ≡ (p || has s n) || q
wrapped_has true q s n = every_has n
wrapped_has false true s n = every_has n ∙ or_true (has s n)
wrapped_has false false s n = sym (or-false (has s n))

widened_has : (b : Bool) (s : ℕ) (n : Next) → has (if b then 0xff_ffff else s) n ≡ b || has s n
widened_has true s n = every_has n
widened_has false s n = refl

-- ---- what the owner of a place must not have after it

abbrev pub wrapped_by_set : Precedence → Summary → Bool → ℕ
wrapped_by_set v x always = if not (takes v x.low) || always then 0xff_ffff else x.ends

abbrev pub end_by_set : ℕ → Precedence → Summary → ℕ
end_by_set w v x =
    bit_or (bit_and (set_of (takes_next v)) (if not x.range then 0xff_ffff else w)) (bit_and 0x3c_0000 (if x.carries then 0xff_ffff else w))

range_ends : (r w : Bool) → not r || w ≡ not (not w && r)
range_ends true true = refl
range_ends true false = refl
range_ends false true = refl
range_ends false false = refl

set_small : (f : Next → Bool) → set_of f < 2 ^ 24
unfolding set_of
set_small f = bits_small f classes

end_small : (v : Precedence) (x : Summary) (w : ℕ) → end_by_set w v x < 2 ^ 24
end_small v x w =
    let a = if not x.range then 0xff_ffff else w in
    let b = if x.carries then 0xff_ffff else w in
    let p = and_le_l (set_of (takes_next v)) a in
    let q = and_le_l 0x3c_0000 b in
    let s = set_small (takes_next v) in
    or_lt 24 (bit_and (set_of (takes_next v)) a) (bit_and 0x3c_0000 b) (omega arith) (omega arith)

end_has : (v : Precedence) (x : Summary) (w : ℕ) (n : Next) → has (end_by_set w v x) n ≡ end_by v x n (has w n)
end_has v x w n =
    let a = if not x.range then 0xff_ffff else w in
    let b = if x.carries then 0xff_ffff else w in
    or_has (bit_and (set_of (takes_next v)) a) (bit_and 0x3c_0000 b) n
    ∙ rw (
      and_has (set_of (takes_next v)) a n,
      and_has 0x3c_0000 b n,
      set_has (takes_next v) n,
      trailers_has n,
      widened_has (not x.range) w n,
      widened_has x.carries w n,
      range_ends x.range (has w n),
      or_comm x.carries (has w n),
    ) refl

pub ends_are : (v : Precedence) (x : Summary) (always : Bool)
    → end_by_set (wrapped_by_set v x always) v x ≡ set_of (λ n. end_by v x n (wrapped_by v x n || always))
ends_are v x always = set_is _ _ (end_small v x (wrapped_by_set v x always))
    (λ n. end_has v x (wrapped_by_set v x always) n ∙ ap (end_by v x n) (wrapped_has (not (takes v x.low)) always x.ends n))

-- where it is put in parentheses for its ends alone
pub plain_ends : (v : Precedence) (x : Summary)
    → set_of (λ n. end_by v x n (wrapped_by v x n || false)) ≡ set_of (λ n. end_by v x n (wrapped_by v x n))
plain_ends v x =
    let f = λ (n : Next). end_by v x n (wrapped_by v x n || false) in
    set_is (set_of f) (λ n. end_by v x n (wrapped_by v x n)) (set_small f)
    (λ n. set_has f n ∙ ap (end_by v x n) (or-false (wrapped_by v x n)))

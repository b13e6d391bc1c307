-- Lists with puncts: the puncts, and whether a value may follow.
use Rattle.std.specs.Prelude.{Bool, true, false, not, List, [], ◌∷◌, ◌++◌, map, Option, Some, None, is_some, option_to_list, ◌≡◌}
use Rattle.syn_lower_leaves.specs.View.{values}
use Rattle.syn_lower_leaves.specs.declared.punctuated.Punctuated.{Punctuated}
use Rattle.syn_lower_leaves.specs.declared.punctuated.Pair.{Pair}
use Rattle.syn_lower_leaves.specs.declared.punctuated.Pair.TheVariants as pair
use denote.Ref.{Bor}
use Rattle.std.specs.declared.boxed.Box.{Box}
use Rattle.std.specs.declared.alloc.Global.{Global}
use Rattle.syn_lower_leaves.specs.declared.punctuated.Iter.{Iter}
use Rattle.syn_lower_leaves.specs.declared.punctuated.Pairs.{Pairs}

-- the puncts, in their order
unfoldable pub puncts : {A P : Type 0} → Punctuated A P → List P
puncts p = map (λ q. q.1) p.inner.items

-- it is empty, or a punct is last
unfoldable pub takes_value : {A P : Type 0} → Punctuated A P → Bool
takes_value p = not (is_some p.last)

-- two lists hold the same
pub record IsSameList {A P : Type 0} (a b : Punctuated A P) : Type 0 where
  pub values : values a ≡ values b
  pub puncts : puncts a ≡ puncts b
  pub takes_value : takes_value a ≡ takes_value b

-- A punct may be put before the next value: none where a value may follow at once, else any that this test allows.
pub record PutsPunct {A P : Type 0} (allowed : P → Type 0) (old new : Punctuated A P) : Type 0 where
  pub none : takes_value old ≡ true → puncts new ≡ puncts old
  pub one : takes_value old ≡ false → (p : P) × allowed p × (puncts new ≡ puncts old ++ p ∷ [])

-- one value, and no punct after it
abbrev pub is_one : {A : Type 0} → List A → Bool → Bool
is_one [] e = false
is_one (x ∷ []) e = not e
is_one (x ∷ y ∷ xs) e = false

-- ---- a value and the punct that follows it

abbrev pub pair_value : {A P : Type 0} → Pair A P → A
pair_value (pair.Punctuated v p) = v
pair_value (pair.End v) = v

abbrev pub pair_punct : {A P : Type 0} → Pair A P → Option P
pair_punct (pair.Punctuated v p) = Some p
pair_punct (pair.End v) = None

-- the puncts that go where a value may be taken away
abbrev pub popped_puncts : {A P : Type 0} → Option (Pair A P) → List P
popped_puncts None = []
popped_puncts (Some x) = option_to_list (pair_punct x)

-- ---- what an iterator over the values of a list with puncts, or over its values with their puncts, has left

abbrev pub seen : {A : Type 0} → Option (Bor A) → List A
seen None = []
seen (Some r) = r.now ∷ []

abbrev pub left : {A P : Type 0} → Iter A P → List A
left i = map (λ q. q.0) i.pairs.now ++ seen i.last

-- what a pair of references shows
abbrev pub pair_seen : {A P : Type 0} → Pair (Bor A) (Bor P) → Pair A P
pair_seen (pair.Punctuated v p) = pair.Punctuated v.now p.now
pair_seen (pair.End v) = pair.End v.now

abbrev pub end_seen : {A P : Type 0} → Option (Bor A) → List (Pair A P)
end_seen None = []
end_seen (Some r) = pair.End r.now ∷ []

abbrev pub pairs_left : {A P : Type 0} → Pairs A P → List (Pair A P)
pairs_left i = map (λ q. pair.Punctuated q.0 q.1) i.inner.now ++ end_seen i.last

abbrev pub end_of : {A P : Type 0} → Option (Box A Global) → List (Pair A P)
end_of None = []
end_of (Some b) = pair.End b.value ∷ []

-- the values of a list, each with the punct that follows it
unfoldable pub pairs_of : {A P : Type 0} → Punctuated A P → List (Pair A P)
pairs_of p = map (λ q. pair.Punctuated q.0 q.1) p.inner.items ++ end_of p.last

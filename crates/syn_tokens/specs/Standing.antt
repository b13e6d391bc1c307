-- Where characters are in the bytes of a text that tokens share.
use Rattle.std.specs.Prelude.{◌≡◌, ◌≤◌, ◌+◌, ◌++◌, ℕ, List, length, drop, true, encode_utf8_all}
use Rattle.std.specs.Str.{all_scalars}

-- these characters are left of a text from a byte on
pub record AreLeft (bytes : List ℕ) (at : ℕ) (cs : List ℕ) : Type 0 where
  pub within : at ≤ length bytes
  pub left : drop at bytes ≡ encode_utf8_all cs
  pub characters : all_scalars cs ≡ true

-- these characters are in a text from one byte to another
abbrev pub StandAt : List ℕ → ℕ → ℕ → List ℕ → Type 0
StandAt bytes lo hi cs = (behind : List ℕ) × AreLeft bytes lo (cs ++ behind) × (hi ≡ lo + length (encode_utf8_all cs))

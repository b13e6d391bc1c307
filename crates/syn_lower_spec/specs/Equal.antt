-- What an equality says.
use Rattle.std.specs.Prelude.{◌≡◌, ◌↔◌, Bool, true}

-- The test answers true exactly where the trees are equal: it compares all that they are made of, and no place.
pub record IsEqualityOf {A B : Type 0} (tree : A → B) (test : A → A → Bool) : Type 0 where
  pub same : (a b : A) → (test a b ≡ true) ↔ (tree a ≡ tree b)

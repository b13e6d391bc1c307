-- What is written of kinds that were counted, one after the other.
use Rattle.std.proofs.Common.{◌≡◌, ◌⊎◌, inl, inr, ℕ, List, [], ◌∷◌, ◌++◌, map, refl, sym, ap, ◌∙◌, subst, append_assoc, append-nil}
use Rattle.std.specs.Prelude.{Option}
use denote.Ref.{Bor}
use Rattle.std.specs.Io.KnownBytes.{Appends}
use Rattle.std.proofs.KnownBytes.{Appends-trans}
use Rattle.exprs.specs.Answers.{count_line, count_lines}
use Rattle.exprs.proofs.Parts.{appends_none}

abbrev Names : Type 0
Names = List (Bor (List ℕ))

abbrev texts : Names → List (List ℕ)
texts names = map (λ n. n.now) names

-- what was written, before the lines of these counts and names
abbrev pub CountsUpTo : List ℕ → List ℕ → Names → Option (List ℕ) → Option (List ℕ) → Type 0
CountsUpTo all counts names held holds = (done : List ℕ) × (all ≡ done ++ count_lines counts (texts names)) × Appends held holds done

pub counts_none : (all counts : List ℕ) (names : Names) (held : Option (List ℕ)) → all ≡ count_lines counts (texts names) → CountsUpTo all counts names held held
counts_none all counts names held is = ([], is, appends_none held)

pub count_more : (all counts more : List ℕ) (names rest : Names) (n : ℕ) (name : Bor (List ℕ)) (a b c : Option (List ℕ))
    → counts ≡ n ∷ more → names ≡ name ∷ rest → CountsUpTo all counts names a b → Appends b c (count_line n name.now) → CountsUpTo all more rest a c
count_more all counts more names rest n name a b c e f (done, is, wrote) one = (
  done ++ count_line n name.now,
  is ∙ ap (λ l. done ++ count_lines l (texts names)) e ∙ ap (λ l. done ++ count_lines (n ∷ more) (texts l)) f
      ∙ sym (append_assoc done (count_line n name.now) (count_lines more (texts rest))),
  Appends-trans a b c done (count_line n name.now) wrote one,
)

none_left : (counts : List ℕ) (names : Names) → (names ≡ []) ⊎ (counts ≡ []) → count_lines counts (texts names) ≡ []
none_left [] [] h = refl
none_left [] (m ∷ ms) h = refl
none_left (n ∷ ns) [] h = refl
none_left (n ∷ ns) (m ∷ ms) (inl h) = absurd cc
none_left (n ∷ ns) (m ∷ ms) (inr h) = absurd cc

pub count_end : (all counts : List ℕ) (names : Names) (a b : Option (List ℕ)) → (names ≡ []) ⊎ (counts ≡ []) → CountsUpTo all counts names a b → Appends a b all
count_end all counts names a b h (done, is, wrote) =
    subst (Appends a b) (sym (is ∙ ap (λ l. done ++ l) (none_left counts names h) ∙ append-nil done)) wrote

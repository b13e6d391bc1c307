-- What is printed of an attribute, and of lists with puncts.
use Rattle.std.specs.Prelude.{Bool, true, false, List, [], ◌∷◌, Option, Some, None, ◌++◌, ℕ}
use Rattle.syn_tokens.specs.Tok.{Tok, ident}
use Rattle.syn_lower_spec.specs.Own.{alone, joint, mutability_own}
use Rattle.syn_lower_leaves.specs.View.{is_mut}
use Rattle.syn_lower_leaves.specs.declared.punctuated.Punctuated.{Punctuated}
use Rattle.syn_lower_leaves.specs.declared.ty.PointerMutability.{PointerMutability}

-- the `!` of an inner attribute
abbrev pub bang_printed : Bool → List Tok
bang_printed true = alone 33 ∷ []
bang_printed false = []

-- ---- what is printed of lists with puncts, by what is printed of what they hold

unfoldable pub option_printed : {A : Type 0} → (A → List Tok) → Option A → List Tok
option_printed f None = []
option_printed f (Some x) = f x

abbrev pub pairs_printed : {A P : Type 0} → (A → List Tok) → (P → List Tok) → List (A × P) → List Tok
pairs_printed f g [] = []
pairs_printed f g (q ∷ qs) = (f q.0 ++ g q.1) ++ pairs_printed f g qs

-- values and puncts in turn
unfoldable pub punctuated_printed : {A P : Type 0} → (A → List Tok) → (P → List Tok) → Punctuated A P → List Tok
punctuated_printed f g p = pairs_printed f g p.inner.items ++ option_printed (λ b. f b.value) p.last

abbrev pub comma : {S : Type 0} → S → List Tok
comma s = alone 44 ∷ []

abbrev pub colon2 : {S : Type 0} → S → List Tok
colon2 s = joint 58 ∷ alone 58 ∷ []

abbrev pub plus : {S : Type 0} → S → List Tok
plus s = alone 43 ∷ []

abbrev pub word : {S : Type 0} → List ℕ → S → List Tok
word w s = ident w ∷ []

abbrev pub mutability_printed : PointerMutability → List Tok
mutability_printed x = mutability_own (is_mut x) []

-- What the laws of parts that are read back say.
use Rattle.std.specs.Prelude.{◌≡◌, ◌++◌, Bool, true, not, List, [], ◌∷◌, Some}
use Rattle.std.specs.List.{list_all}
use Rattle.syn_tokens.specs.Tok.{Tok}
use Rattle.syn_lower_spec.specs.Form.{Test, Form}
use Rattle.syn_lower_leaves.specs.declared.attr.Attribute.{Attribute}
use Rattle.syn_lower_leaves.specs.View.{is_inner}

-- what is printed of a part, before whatever follows, is its own tokens before that
abbrev pub PrintsOwn : {A : Type 0} → (A → List Tok) → (A → List Tok → List Tok) → Type 0
PrintsOwn {A} printed own = (x : A) (rest : List Tok) → printed x ++ rest ≡ own x rest

-- what passes its test, printed before a rest that doesn't go on with it, spells it up to that rest
abbrev pub IsReadBack : {A S : Type 0} → (A → Bool) → (A → Test) → (A → List Tok) → (A → S) → (List Tok → S → List Tok → Type 0) → Type 0
IsReadBack {A} fits stops printed seen spells = (x : A) (rest : List Tok) → fits x ≡ true → stops x rest ≡ true → spells (printed x ++ rest) (seen x) rest

-- no attribute is of the other style
abbrev pub all_outer : List Attribute → Bool
all_outer xs = list_all (λ x. not (is_inner x.style)) xs

abbrev pub all_inner : List Attribute → Bool
all_inner xs = list_all (λ x. is_inner x.style) xs

-- one after another
abbrev pub all_printed : {A : Type 0} → (A → List Tok) → List A → List Tok
all_printed printed [] = []
all_printed printed (x ∷ xs) = printed x ++ all_printed printed xs

-- what a reader reads, and what it leaves
abbrev pub IsRead : {S : Type 0} → Form S → List Tok → S → List Tok → Type 0
IsRead f l x rest = f.reads l ≡ Some (x, rest)

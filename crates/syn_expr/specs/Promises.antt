-- What is promised of the tokens that are printed of a tree.
use Rattle.std.specs.Prelude.{◌≡◌, ◌↔◌, ◌++◌, true, ℕ, List, [], chars}
use Rattle.syn_tokens.specs.Text.{text}
use Rattle.syn_tokens.specs.Tok.{Tok}
use Rattle.syn_expr_spec.specs.Place.{plain}
use Rattle.syn_expr_spec.specs.Printed.{Position, in_plain, place_of, allows, is_minimal, plainly_attributed, parenthesize_attributed, printed_in}
use Rattle.syn_expr_spec.specs.Minimal.{OneLess, without_added}
use Rattle.syn_expr_spec.specs.Stands.{Stands}
use Rattle.syn_expr_spec.specs.Tree.{Tree, own, own_tokens, clear, fill, IsSameTree}
use Rattle.syn_expr_spec.specs.WellFormed.{is_well_formed}
use Rattle.syn_text_spec.specs.Laws.{IsReadAs}
use Rattle.syn_tidy.specs.Layout.{IsLayout}

-- what was put after the old tokens
abbrev pub Puts : List Tok → List Tok → (List Tok → Type 0) → Type 0
Puts old new Promised = (ts : List Tok) × (new ≡ old ++ ts) × Promised ts

-- The tokens of a well-formed tree are in the position, before whatever it allows, for the same tree up to parentheses and
-- fill-ins.
abbrev pub StandsBack : Position → Tree → List Tok → Type 0
StandsBack s t ts =
    is_well_formed t ≡ true → (x : Tree) × IsSameTree t x × ((rest : List Tok) → allows s rest ≡ true → Stands (place_of s) (ts ++ rest) x rest)

-- They are there for the tree with its fill-ins and with pairs of parentheses that were added: p is this tree, in which these
-- pairs are marked. (What stands has no marks.) So it is the same tree up to parentheses and fill-ins.
abbrev pub StandsWithPairs : Position → Tree → List Tok → Type 0
StandsWithPairs s t ts =
    is_well_formed t ≡ true → (p : Tree) × (without_added p ≡ clear (fill t)) × ((rest : List Tok) → allows s rest ≡ true → Stands (place_of s) (ts ++ rest) (clear p) rest)

-- Of a tree that stands for some list, they are its own spelling, but for a pair of parentheses round each operation that has
-- attributes.
abbrev pub IsOwn : Tree → List Tok → Type 0
IsOwn t ts = (l : List Tok) → Stands plain l t [] → ts ≡ own_tokens (parenthesize_attributed t)

-- p is t as it is printed: the pairs that were added are marked, and without them it is t with its fill-ins.
pub record HasMinimalPairs (s : Position) (t p : Tree) : Type 0 where
  pub added : without_added p ≡ clear (fill t)
  -- No pair is added exactly where the tree's own spelling, with its fill-ins, is there for it.
  pub none_redundant : (rest : List Tok) → allows s rest ≡ true
      → (clear p ≡ clear (fill t)) ↔ Stands (place_of s) (own (fill t) rest) (clear (fill t)) rest
  -- With one of the added pairs left out, it stands for no list.
  pub no_pair_redundant : (q : Tree) (l rest : List Tok) → allows s rest ≡ true → OneLess p q → Stands (place_of s) l (clear q) rest → ⊥

-- They are those of a tree in which the added pairs are marked; and these pairs are needed, but in a statement, and where
-- operations have attributes.
abbrev pub IsMinimal : Position → Tree → List Tok → Type 0
IsMinimal s t ts =
    is_well_formed t ≡ true → plainly_attributed t ≡ true → is_minimal s ≡ true → (p : Tree) × (ts ≡ own_tokens p) × HasMinimalPairs s t p

-- all of this of the tokens of a tree that is printed in a position
pub record PrintedAs (s : Position) (t : Tree) (ts : List Tok) : Type 0 where
  pub tokens : ts ≡ own_tokens (printed_in s t)
  pub back : StandsBack s t ts
  pub added : StandsWithPairs s t ts
  pub own : s ≡ in_plain → IsOwn t ts
  pub minimal : IsMinimal s t ts

-- The tree is printed in the position as some tokens, and these bytes are their text.
abbrev pub IsTextOf : Position → Tree → List ℕ → Type 0
IsTextOf s t bytes = (ts : List Tok) × PrintedAs s t ts × (bytes ≡ text ts)

-- The tree is printed in the position as some tokens, and these bytes are a layout of them.
abbrev pub IsLaidOut : Position → Tree → List ℕ → Type 0
IsLaidOut s t bytes = (ts : List Tok) × PrintedAs s t ts × IsLayout ts (chars bytes)

-- These bytes alone are read as a tree that is the same up to parentheses and fill-ins, and as no other. They are also a layout
-- of the tokens that are printed for that tree in the position.
abbrev pub IsLaidOutAgain : Position → Tree → List ℕ → Type 0
IsLaidOutAgain s t bytes =
    (x : Tree) × IsSameTree t x × IsReadAs in_plain bytes x [] × ((y : Tree) (n : List Tok) → IsReadAs in_plain bytes y n → (y ≡ x) × (n ≡ []))
    × IsLayout (own_tokens (printed_in s x)) (chars bytes)

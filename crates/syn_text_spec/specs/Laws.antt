-- The text of a printed tree is lexed and read as the same tree, if the leaves of the tree are lexed.
use Rattle.std.specs.Prelude.{◌≡◌, ◌↔◌, ℕ, Bool, true, false, not, ◌&&◌, List, [], chars, Some}
use Rattle.syn_tokens.specs.Tok.{Tok}
use Rattle.syn_tokens.specs.Lex.{Spells}
use Rattle.syn_tokens.specs.Text.{text}
use Rattle.syn_lower_spec.specs.declared.label.PathStyle.{PathStyle}
use Rattle.syn_lower_spec.specs.Form.{Form, Test}
use Rattle.syn_lower_spec.specs.Part.{macro, path, type}
use Rattle.syn_lower_spec.specs.Fits.{closed, macro_fits, path_fits, path_stops, type_fits, type_stops}
use Rattle.syn_lower_spec.specs.Own.{type_own, path_own, macro_own}
use Rattle.syn_lower_spec.specs.Pat.{pattern}
use Rattle.syn_lower_spec.specs.PatFits.{pat_fits, pat_stops}
use Rattle.syn_lower_spec.specs.PatOwn.{pat_own}
use Rattle.syn_expr_spec.specs.declared.kinds.Place.{Place}
use Rattle.syn_expr_spec.specs.Place.{plain}
use Rattle.syn_expr_spec.specs.Tree as e
use Rattle.syn_expr_spec.specs.Path.{is_try_alone}
use Rattle.syn_expr_spec.specs.Tree.{Leaf, Frame, Tree, Children, own, own_tokens, clear, fill, flatten, IsSameTree}
use Rattle.syn_expr_spec.specs.Stands.{Stands}
use Rattle.syn_expr_spec.specs.WellFormed.{is_well_formed}
use Rattle.syn_expr_spec.specs.Printed.{Position, in_plain, place_of, allows, printed_in}
use Rattle.syn_text.specs.Lexed.{is_lexed, IsOfText}
use Rattle.syn_text_spec.specs.Leaves.{type_lexed, path_lexed, macro_lexed, pat_lexed, leaves_lexed}

-- Before a list that a text falls into, the own tokens of a part whose leaves are lexed are such a list too.
abbrev pub KeepsLexed : {A : Type 0} → (A → Bool) → (A → List Tok → List Tok) → Type 0
KeepsLexed {A} leaves own = (x : A) (r : List Tok) → leaves x ≡ true → is_lexed r ≡ true → is_lexed (own x r) ≡ true

pub record PartsAreLexed : Type 0 where
  pub types : KeepsLexed type_lexed type_own
  pub paths : KeepsLexed path_lexed path_own
  pub macros : KeepsLexed macro_lexed macro_own
  pub patterns : KeepsLexed pat_lexed pat_own
  pub expressions : KeepsLexed leaves_lexed own

-- So are the tokens that are printed of an expression, in each position.
abbrev pub PrintedIsLexed : Type 0
PrintedIsLexed = (s : Position) → KeepsLexed leaves_lexed (λ t r. own (printed_in s t) r)

-- the text falls into tokens that this tree is at the front of, in this position, before these others
abbrev pub IsReadAs : Position → List ℕ → Tree → List Tok → Type 0
IsReadAs s bytes x rest = (ts : List Tok) × Spells (chars bytes) ts × Stands (place_of s) ts x rest

-- What is printed of the tree in this position, and these tokens after it, are as a text read as the same tree, up to
-- parentheses and fill-ins, and as no other; what was after it is left.
abbrev pub IsReadBack : Position → Tree → List Tok → Type 0
IsReadBack s t rest =
    (x : Tree) × IsSameTree t x × IsReadAs s (text (own (printed_in s t) rest)) x rest
    × ((y : Tree) (n : List Tok) → IsReadAs s (text (own (printed_in s t) rest)) y n → (y ≡ x) × (n ≡ rest))

-- the verbatim tokens of each node are a list that a text falls into
abbrev pub verbatim_lexed : Leaf → Bool
verbatim_lexed (e.verbatim ts) = is_lexed ts
verbatim_lexed _ = true

abbrev mutual
  pub verbatims_lexed : Tree → Bool
  verbatims_lexed (e.leaf k) = verbatim_lexed k
  verbatims_lexed (e.paren m x) = verbatims_lexed x
  verbatims_lexed (e.attributed a more x) = verbatims_lexed x
  verbatims_lexed (e.prefixed k gs x) = verbatims_lexed x
  verbatims_lexed (e.infixed x k y) = verbatims_lexed x && verbatims_lexed y
  verbatims_lexed (e.postfixed x k) = verbatims_lexed x
  verbatims_lexed (e.tail b k ks) = verbatims_lexed b && children_verbatims_lexed ks
  verbatims_lexed (e.frame k ks) = children_verbatims_lexed ks

  pub children_verbatims_lexed : Children → Bool
  children_verbatims_lexed e.none = true
  children_verbatims_lexed (e.child k c x ks) = verbatims_lexed x && children_verbatims_lexed ks

-- An ordinary tree: no node keeps verbatim tokens, none is a path that is `try` alone (one is read before `!=`), and none is
-- an invisible group.
abbrev pub leaf_is_ordinary : Leaf → Bool
leaf_is_ordinary (e.verbatim ts) = false
leaf_is_ordinary (e.path q p) = not (is_try_alone q p)
leaf_is_ordinary _ = true

abbrev pub frame_is_ordinary : Frame → Bool
frame_is_ordinary e.group_expr = false
frame_is_ordinary _ = true

abbrev mutual
  pub is_ordinary : Tree → Bool
  is_ordinary (e.leaf k) = leaf_is_ordinary k
  is_ordinary (e.paren m x) = is_ordinary x
  is_ordinary (e.attributed a more x) = is_ordinary x
  is_ordinary (e.prefixed k gs x) = is_ordinary x
  is_ordinary (e.infixed x k y) = is_ordinary x && is_ordinary y
  is_ordinary (e.postfixed x k) = is_ordinary x
  is_ordinary (e.tail b k ks) = is_ordinary b && children_ordinary ks
  is_ordinary (e.frame k ks) = frame_is_ordinary k && children_ordinary ks

  pub children_ordinary : Children → Bool
  children_ordinary e.none = true
  children_ordinary (e.child k c x ks) = is_ordinary x && children_ordinary ks

-- What is read is well-formed exactly if it is ordinary.
abbrev pub ReadIsWellFormed : Type 0
ReadIsWellFormed = (p : Place) (l : List Tok) (x : Tree) (rest : List Tok) → Stands p l x rest → (is_well_formed x ≡ true) ↔ (is_ordinary x ≡ true)

-- A part that the front of such a list spells has lexed leaves.
abbrev pub HasLexedLeaves : {A : Type 0} → Form A → (A → Bool) → Type 0
HasLexedLeaves {A} f leaves = (x : A) (l rest : List Tok) → f.behind x l ≡ Some rest → is_lexed l ≡ true → leaves x ≡ true

pub record LeavesAreLexed : Type 0 where
  pub types : (several : Bool) → HasLexedLeaves (type several) type_lexed
  pub paths : (s : PathStyle) → HasLexedLeaves (path type s) path_lexed
  pub macros : HasLexedLeaves macro macro_lexed
  pub patterns : (several : Bool) → HasLexedLeaves (pattern several) pat_lexed
  -- An expression, if its verbatim tokens are lexed. (These are a beginning of the list that was read. A beginning whose
  -- last punct is joint is not lexed.)
  pub expressions : (p : Place) (l : List Tok) (x : Tree) (rest : List Tok) → Stands p l x rest → is_lexed l ≡ true → verbatims_lexed x ≡ true → leaves_lexed x ≡ true

-- A well-formed tree is read back so, before tokens that the position allows, in each of these cases.
pub record TextIsReadBack : Type 0 where
  -- What is printed, with the tokens after it, is a list that a text falls into (`is_lexed` tells it at run time).
  pub tokens : (s : Position) (t : Tree) (rest : List Tok) → is_well_formed t ≡ true → allows s rest ≡ true
      → is_lexed (own (printed_in s t) rest) ≡ true → IsReadBack s t rest
  -- The leaves of the tree are lexed, and so are the tokens after it.
  pub leaves : (s : Position) (t : Tree) (rest : List Tok) → is_well_formed t ≡ true → allows s rest ≡ true
      → leaves_lexed t ≡ true → is_lexed rest ≡ true → IsReadBack s t rest
  -- The tree was read of a text, and its verbatim tokens are lexed, and so are the tokens after it.
  pub read : (s : Position) (t : Tree) (rest : List Tok) → is_well_formed t ≡ true → allows s rest ≡ true
      → (p : Place) (l n : List Tok) → IsOfText l → Stands p l t n → verbatims_lexed t ≡ true → is_lexed rest ≡ true → IsReadBack s t rest

-- ---- a tree is read of a text, printed, read again and printed again

-- What is printed of a well-formed tree in a position stands by itself too, and is printed there as it is.
pub record PrintedAgain : Type 0 where
  pub stands : (s : Position) (t : Tree) → is_well_formed t ≡ true → Stands plain (own_tokens (printed_in s t)) (clear (printed_in s t)) []
  pub same : (s : Position) (t : Tree) → is_well_formed t ≡ true → printed_in s (clear (printed_in s t)) ≡ clear (printed_in s t)

-- The bytes are what a program prints in the position of this tree, which it read or made, and changed so. They are read by
-- themselves as the same tree as what was printed, up to parentheses and fill-ins, and as no other; and of this tree the
-- program prints the same bytes.
abbrev pub IsStable : (Tree → Tree) → Position → Tree → List ℕ → Type 0
IsStable change s t bytes =
    (x : Tree) × IsSameTree (change t) x × IsReadAs in_plain bytes x [] × ((y : Tree) (n : List Tok) → IsReadAs in_plain bytes y n → (y ≡ x) × (n ≡ []))
    × (bytes ≡ text (own_tokens (printed_in s (change x))))

abbrev pub unchanged : Tree → Tree
unchanged t = t

-- A tree that was made is printed so, if it is well-formed and its leaves are lexed.
abbrev pub TextIsStable : Type 0
TextIsStable = (s : Position) (t : Tree) → is_well_formed t ≡ true → leaves_lexed t ≡ true → IsStable unchanged s t (text (own_tokens (printed_in s t)))

-- the tree stands for tokens that a text falls into, before any others
abbrev pub IsReadOfText : Tree → Type 0
IsReadOfText x = (p : Place) × (l : List Tok) × (n : List Tok) × IsOfText l × Stands p l x n

-- So is a tree that was read of a text, if it is ordinary.
pub record ReadTextIsStable : Type 0 where
  -- The printed tokens are those of their own text, if the verbatim tokens in the tree are.
  pub tokens : (x : Tree) → IsReadOfText x → verbatims_lexed x ≡ true → (s : Position) (rest : List Tok) → is_lexed rest ≡ true → is_lexed (own (printed_in s x) rest) ≡ true
  -- Of an ordinary tree nothing else is asked: it is read back before what the position allows, too.
  pub back : (x : Tree) → IsReadOfText x → is_ordinary x ≡ true → (s : Position) (rest : List Tok) → allows s rest ≡ true → is_lexed rest ≡ true → IsReadBack s x rest
  pub again : (x : Tree) → IsReadOfText x → is_ordinary x ≡ true → (s : Position) → IsStable unchanged s x (text (own_tokens (printed_in s x)))
  -- The same where its parentheses are taken away first. (That it is then well-formed and has its fill-ins is another law.)
  pub bare : (x : Tree) → IsReadOfText x → is_ordinary x ≡ true → is_well_formed (flatten x) ≡ true → fill (flatten x) ≡ flatten x
      → (s : Position) → IsStable flatten s x (text (own_tokens (printed_in s (flatten x))))

-- The text of a part's own tokens, before such tokens that don't go on with it, falls into tokens that spell this part up to
-- these.
abbrev pub IsSpelledByText : {A : Type 0} → Form A → (A → List Tok → List Tok) → (A → Bool) → (A → Test) → (A → Bool) → Type 0
IsSpelledByText {A} f own fits stops leaves = (x : A) (rest : List Tok) → fits x ≡ true → stops x rest ≡ true → leaves x ≡ true → is_lexed rest ≡ true
    → (ts : List Tok) × Spells (chars (text (own x rest))) ts × (f.behind x ts ≡ Some rest)

-- So are parts that pass their tests, if their leaves are lexed.
pub record PartTextsAreReadBack : Type 0 where
  pub types : (several : Bool) → IsSpelledByText (type several) type_own (type_fits several) (type_stops several) type_lexed
  pub paths : (s : PathStyle) → IsSpelledByText (path type s) path_own (path_fits s) (path_stops s) path_lexed
  pub macros : IsSpelledByText macro macro_own macro_fits closed macro_lexed
  pub patterns : (several : Bool) → IsSpelledByText (pattern several) pat_own (pat_fits several) (pat_stops several) pat_lexed

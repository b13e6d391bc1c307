-- What is promised of the printed tree: the tree with its fill-ins and the parentheses that the rule adds.
use Rattle.std.specs.Prelude.{◌≡◌, ◌↔◌, Bool, true, false, not, ◌||◌, ◌&&◌, List, []}
use Rattle.syn_tokens.specs.Tok.{Tok}
use Rattle.syn_tokens.specs.Front.{is_empty}
use Rattle.syn_lower_spec.specs.Mark.{comma, semi, brace_at}
use Rattle.syn_expr_spec.specs.declared.kinds.Place.{Place}
use Rattle.syn_expr_spec.specs.declared.next.Context.{Context}
use Rattle.syn_expr_spec.specs.Place.{plain, before_block, at_head}
use Rattle.syn_expr_spec.specs.Next.{enclosed, in_statement, in_condition, in_arm}
use Rattle.syn_expr_spec.specs.Tree.{Tree, Children, leaf, paren, attributed, prefixed, infixed, postfixed, tail, frame, none, child, own, clear, fill, IsSameTree}
use Rattle.syn_expr_spec.specs.Stands.{Stands}
use Rattle.syn_expr_spec.specs.Rule.{printed, put, is_operation}
use Rattle.syn_expr_spec.specs.WellFormed.{is_well_formed}
use Rattle.syn_expr_spec.specs.Minimal.{OneLess, without_added}

-- ---- where a tree is printed (Rust Reference, "Expression statements", "`if` expressions", "Match expressions")

pub data Position : Type 0 where
  in_plain : Position
  as_statement : Position
  as_condition : Position
  as_arm : Position

abbrev pub place_of : Position → Place
place_of in_plain = plain
place_of as_statement = at_head
place_of as_condition = before_block
place_of as_arm = at_head

abbrev pub context_of : Position → Context
context_of in_plain = enclosed
context_of as_statement = in_statement
context_of as_condition = in_condition
context_of as_arm = in_arm

-- what may come after it there: nothing; nothing or `;`; the brace of a block; nothing or `,`
abbrev pub allows : Position → List Tok → Bool
allows in_plain rest = is_empty rest
allows as_statement rest = is_empty rest || semi.at rest
allows as_condition rest = brace_at rest
allows as_arm rest = is_empty rest || comma.at rest

-- In a statement a `let` and a macro with braces get parentheses that are redundant.
abbrev pub is_minimal : Position → Bool
is_minimal as_statement = false
is_minimal s = true

abbrev pub printed_in : Position → Tree → Tree
printed_in s t = printed (context_of s) t

-- no assignment, binary operation, cast or range has attributes: those are printed in parentheses always
abbrev mutual
  pub plainly_attributed : Tree → Bool
  plainly_attributed (leaf k) = true
  plainly_attributed (paren m t) = plainly_attributed t
  plainly_attributed (attributed a more t) = not (is_operation t) && plainly_attributed t
  plainly_attributed (prefixed k gs t) = children_plainly gs && plainly_attributed t
  plainly_attributed (infixed x k y) = plainly_attributed x && plainly_attributed y
  plainly_attributed (postfixed x k) = plainly_attributed x
  plainly_attributed (tail b k ks) = plainly_attributed b && children_plainly ks
  plainly_attributed (frame k ks) = children_plainly ks

  pub children_plainly : Children → Bool
  children_plainly none = true
  children_plainly (child k c t ks) = plainly_attributed t && children_plainly ks

-- the tree with each operation that has attributes in a pair of parentheses, after these
abbrev mutual
  pub parenthesize_attributed : Tree → Tree
  parenthesize_attributed (leaf k) = leaf k
  parenthesize_attributed (paren m t) = paren m (parenthesize_attributed t)
  parenthesize_attributed (attributed a more t) = attributed a more (put (is_operation t) (parenthesize_attributed t) (parenthesize_attributed t))
  parenthesize_attributed (prefixed k gs t) = prefixed k gs (parenthesize_attributed t)
  parenthesize_attributed (infixed x k y) = infixed (parenthesize_attributed x) k (parenthesize_attributed y)
  parenthesize_attributed (postfixed x k) = postfixed (parenthesize_attributed x) k
  parenthesize_attributed (tail b k ks) = tail (parenthesize_attributed b) k (parenthesize_attributed_children ks)
  parenthesize_attributed (frame k ks) = frame k (parenthesize_attributed_children ks)

  pub parenthesize_attributed_children : Children → Children
  parenthesize_attributed_children none = none
  parenthesize_attributed_children (child k c t ks) = child k c (parenthesize_attributed t) (parenthesize_attributed_children ks)

-- the tree, printed in the position, is there before this rest
abbrev pub StandsPrinted : Position → Tree → List Tok → Type 0
StandsPrinted s t rest = Stands (place_of s) (own (printed_in s t) rest) (clear (printed_in s t)) rest

-- A well-formed tree is printed as the same tree up to parentheses and fill-ins, and its tokens stand for it there,
-- whatever is after them that the position allows.
abbrev pub PrintedStands : Type 0
PrintedStands = (s : Position) (t : Tree) (rest : List Tok) → is_well_formed t ≡ true → allows s rest ≡ true
    → IsSameTree t (printed_in s t) × StandsPrinted s t rest

-- The pairs that are added have marks: without these pairs it is the tree with its fill-ins.
abbrev pub PairsAreAdded : Type 0
PairsAreAdded = (s : Position) (t : Tree) → is_well_formed t ≡ true → without_added (printed_in s t) ≡ clear (fill t)

-- A well-formed tree without marks gets no parentheses exactly where its own spelling stands for it.
abbrev pub NoneRedundant : Type 0
NoneRedundant = (s : Position) (t : Tree) (rest : List Tok) → is_well_formed t ≡ true → clear t ≡ t → plainly_attributed t ≡ true
    → is_minimal s ≡ true → allows s rest ≡ true
    → (printed_in s t ≡ fill t) ↔ Stands (place_of s) (own (fill t) rest) (fill t) rest

-- Whatever list a tree stands for, it is printed as it is, but for a pair round each operation that has attributes.
pub record OwnSpelling : Type 0 where
  pub pairs_alone : (t : Tree) (l : List Tok) → Stands plain l t [] → printed enclosed t ≡ parenthesize_attributed t
  -- Where no operation has attributes, these pairs are none.
  pub no_pairs : (t : Tree) → plainly_attributed t ≡ true → parenthesize_attributed t ≡ t

-- With one of the added pairs left out, the tree stands for no list.
abbrev pub NoPairRedundant : Type 0
NoPairRedundant = (s : Position) (t q : Tree) (l rest : List Tok) → is_well_formed t ≡ true → plainly_attributed t ≡ true
    → is_minimal s ≡ true → allows s rest ≡ true
    → OneLess (printed_in s t) q → Stands (place_of s) l (clear q) rest → ⊥

-- What callers rely on in a tree that is, at each of its nodes (Rust Reference, "Expression precedence"). An operand is
-- bare where it has neither parentheses nor attributes.
use Rattle.std.specs.Prelude.{◌≡◌, Bool, true, false, not, ◌||◌, ◌&&◌, nat_le, List, [], ◌∷◌, Some}
use Rattle.syn_lexer.specs.declared.front.Delimiter.TheVariants as del
use Rattle.syn_tokens.specs.Tok.{Tok, Inside, group, toks}
use Rattle.syn_expr_spec.specs.declared.kinds.Place.{Place}
use Rattle.syn_expr_spec.specs.declared.kinds.Infix.{Infix}
use Rattle.syn_expr_spec.specs.Place.{rank, takes, plain}
use Rattle.syn_expr_spec.specs.Op.{level, is_comparison}
use Rattle.syn_expr_spec.specs.Next.{prefix_level}
use Rattle.syn_expr_spec.specs.Tree as e
use Rattle.syn_expr_spec.specs.Tree.{Tree, Children, Jump, Frame, leaf, paren, attributed, prefixed, infixed, postfixed, tail, frame, none, child, postfix_op, is_block_like}
use Rattle.syn_expr_spec.specs.Head.{prefix_form}
use Rattle.syn_expr_spec.specs.Slot.{piece_place}
use Rattle.syn_expr_spec.specs.Stands.{Node, Stands, compares, is_range, is_infix, prefix_stands}
use Rattle.syn_expr_spec.specs.Rule.{is_brace_delimiter}

-- the test holds of every node
abbrev mutual
  pub everywhere : (Tree → Bool) → Tree → Bool
  everywhere f (leaf k) = f (leaf k)
  everywhere f (paren m t) = f (paren m t) && everywhere f t
  everywhere f (attributed a more t) = f (attributed a more t) && everywhere f t
  everywhere f (prefixed k gs t) = f (prefixed k gs t) && (children_everywhere f gs && everywhere f t)
  everywhere f (infixed x k y) = f (infixed x k y) && (everywhere f x && everywhere f y)
  everywhere f (postfixed x k) = f (postfixed x k) && everywhere f x
  everywhere f (tail b k ks) = f (tail b k ks) && (everywhere f b && children_everywhere f ks)
  everywhere f (frame k ks) = f (frame k ks) && children_everywhere f ks

  pub children_everywhere : (Tree → Bool) → Children → Bool
  children_everywhere f none = true
  children_everywhere f (child k c t ks) = everywhere f t && children_everywhere f ks

abbrev pub InTreesThatStand : (Tree → Bool) → Type 0
InTreesThatStand f = (p : Place) (l behind : List Tok) (x : Tree) → Stands p l x behind → everywhere f x ≡ true

-- ---- operators

-- A bare infix operand on the right, or after a prefix operator, a `let`, a jump or a closure's head, is above what is
-- before it, or both are assignments.
abbrev pub binds_right : Tree → Bool
binds_right (infixed l k (infixed m op r)) = takes (level k) (level op)
binds_right (infixed l k (postfixed m op)) = takes (level k) (level (postfix_op op))
binds_right (prefixed k gs (infixed m op r)) = takes (prefix_level k) (level op)
binds_right (prefixed k gs (postfixed m op)) = takes (prefix_level k) (level (postfix_op op))
binds_right _ = true

-- A bare infix left operand binds at least as tight as the operator, unless a bare range is at its right end.
abbrev pub as_tight : Infix → Tree → Bool
as_tight k (infixed l op m) = is_range m || nat_le (rank (level k)) (rank (level op))
as_tight k (postfixed l op) = nat_le (rank (level k)) (rank (level (postfix_op op)))
as_tight k x = true

abbrev pub binds_left : Tree → Bool
binds_left (infixed x k r) = as_tight k x
binds_left (postfixed x k) = as_tight (postfix_op k) x
binds_left _ = true

-- no bare comparison is the left operand of a comparison
abbrev pub compares_once : Tree → Bool
compares_once (infixed l k r) = not (is_comparison k && compares l)
compares_once _ = true

-- no bare range is a left operand or a base, and no other bare infix expression is a base
abbrev pub ranges_stay : Tree → Bool
ranges_stay (infixed x k r) = not (is_range x)
ranges_stay (postfixed x k) = not (is_range x)
ranges_stay (tail b k ks) = not (is_range b || is_infix b)
ranges_stay _ = true

abbrev pub RightOperandBindsTighter : Type 0
RightOperandBindsTighter = InTreesThatStand binds_right

abbrev pub LeftOperandBindsAsTight : Type 0
LeftOperandBindsAsTight = InTreesThatStand binds_left

abbrev pub ComparisonsDontChain : Type 0
ComparisonsDontChain = InTreesThatStand compares_once

abbrev pub RangeIsNoLeftOperand : Type 0
RangeIsNoLeftOperand = InTreesThatStand ranges_stay

-- ---- conditions (Rust Reference, "Struct expressions", "`if` expressions")

abbrev pub is_structure : Frame → Bool
is_structure (e.structure q p d) = true
is_structure _ = false

-- No struct expression but in delimiters, after a jump, or where a place of its own begins.
abbrev pub has_no_structure : Tree → Bool
has_no_structure (leaf k) = true
has_no_structure (paren m t) = true
has_no_structure (attributed a more t) = has_no_structure t
has_no_structure (prefixed (e.jump j) gs t) = true
has_no_structure (prefixed k gs t) = has_no_structure t
has_no_structure (infixed x k y) = has_no_structure x && has_no_structure y
has_no_structure (postfixed x k) = has_no_structure x
has_no_structure (tail b k ks) = has_no_structure b
has_no_structure (frame k ks) = not (is_structure k)

-- those of the operands that come before a block
abbrev pub conditions_hold : Children → Bool
conditions_hold none = true
conditions_hold (child k c t ks) = (not (piece_place k).condition || has_no_structure t) && conditions_hold ks

abbrev pub keeps_conditions : Tree → Bool
keeps_conditions (frame k ks) = conditions_hold ks
keeps_conditions _ = true

pub record ConditionsHaveNoStructures : Type 0 where
  -- what is in a condition
  pub here : (p : Place) (l n : List Tok) (x : Tree) → p.condition ≡ true → Stands p l x n → has_no_structure x ≡ true
  -- and each condition in a tree that is
  pub inside : InTreesThatStand keeps_conditions
  -- But whatever is by itself, a struct expression too, is in parentheses anywhere, and after a jump.
  pub in_parentheses : (p : Place) (i : Inside) (n : List Tok) (x : Tree) → Stands plain (toks i) x []
      → Node p (group del.Parenthesis i ∷ n) (paren false x) n
  pub behind_jump : (p : Place) (l m n : List Tok) (j : Jump) (x : Tree) → prefix_form.behind (e.jump j) l ≡ Some m
      → prefix_stands p (e.jump j) m ≡ true → Stands plain m x n → Node p l (prefixed (e.jump j) none x) n

-- ---- what ends a statement or an arm (Rust Reference, "Expression statements", "Match expressions")

-- A match arm with this body needs a comma after it: all but `if`, `match`, `while`, `for`, `loop`, and blocks but `async`.
abbrev pub requires_comma_to_be_match_arm : Tree → Bool
requires_comma_to_be_match_arm t = not (is_block_like t)

-- a call of a macro with braces
abbrev pub is_braced_macro : Tree → Bool
is_braced_macro (leaf (e.mac m)) = is_brace_delimiter m.delimiter
is_braced_macro (attributed a more t) = is_braced_macro t
is_braced_macro _ = false

-- A statement of this expression needs a semicolon after it.
abbrev pub requires_semi_to_be_stmt : Tree → Bool
requires_semi_to_be_stmt t = not (is_braced_macro t) && requires_comma_to_be_match_arm t

pub record CommaTestsDiffer : Type 0 where
  pub on_braced_macros : (t : Tree) → is_braced_macro t ≡ true
      → (requires_comma_to_be_match_arm t ≡ true) × (requires_semi_to_be_stmt t ≡ false)
  pub nowhere_else : (t : Tree) → is_braced_macro t ≡ false → requires_semi_to_be_stmt t ≡ requires_comma_to_be_match_arm t

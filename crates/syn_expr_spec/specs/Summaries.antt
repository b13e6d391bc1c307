-- What is known of a node, so that the rule is decided without looking at the tree again.
use Rattle.std.specs.Prelude.{◌≡◌, ℕ, ◌+◌, ◌*◌, ◌≤◌, Bool, true, false, ◌&&◌, ◌||◌, not, nat_eq, if◌then◌else◌, List, [], ◌∷◌, ◌++◌, length, None}
use Rattle.std.specs.Int.{bit_at}
use Rattle.syn_expr_spec.specs.declared.kinds.Infix.{Infix}
use Rattle.syn_expr_spec.specs.declared.kinds.Precedence.{Precedence}
use Rattle.syn_expr_spec.specs.declared.kinds.Precedence.TheVariants as lev
use Rattle.syn_expr_spec.specs.declared.next.Next.{Next}
use Rattle.syn_expr_spec.specs.declared.next.Next.TheVariants as next
use Rattle.syn_expr_spec.specs.declared.next.Context.{Context}
use Rattle.syn_expr_spec.specs.declared.summary.Summary.{Summary}
use Rattle.syn_expr_spec.specs.declared.summary.Sort.{Sort}
use Rattle.syn_expr_spec.specs.declared.summary.Sort.TheVariants as sort
use Rattle.syn_expr_spec.specs.Place.{takes}
use Rattle.syn_expr_spec.specs.Op.{level, is_comparison, is_range_op}
use Rattle.syn_expr_spec.specs.Next.{class_of, next_of, takes_next, trails, prefix_level, prefix_next, left_context, base_context}
use Rattle.syn_expr_spec.specs.Stands.{is_range_leaf, is_range_prefix, is_prefix, is_call, is_named, is_pounded_leaf}
use Rattle.syn_expr_spec.specs.Rule.{leaf_refuses, postfix_refuses, is_below, is_below_statement, is_statement, is_braceless, is_brace_delimiter, lower, is_bare_break, leaf_labelled, frame_labelled, is_operation, place_asks, left_asks, base_asks, prefix_asks}
use Rattle.syn_expr_spec.specs.Tree as e
use Rattle.syn_expr_spec.specs.Tree.{Tree, Children, Leaf, Prefix, Postfix, Trailer, Frame, leaf, paren, attributed, prefixed, infixed, postfixed, tail, frame, none, child, size, fill, postfix_op, is_block_leaf, is_block_frame, is_silent}

-- ---- sets of classes, a bit for each, the first lowest

abbrev pub index : Next → ℕ
index next.End = 0
index next.Assign = 1
index next.ShiftLeftAssign = 2
index next.Range = 3
index next.OrOr = 4
index next.AndAnd = 5
index next.Compare = 6
index next.Less = 7
index next.Or = 8
index next.Caret = 9
index next.And = 10
index next.ShiftLeft = 11
index next.ShiftRight = 12
index next.Plus = 13
index next.Minus = 14
index next.Star = 15
index next.Divide = 16
index next.As = 17
index next.Dot = 18
index next.Question = 19
index next.Parenthesis = 20
index next.Bracket = 21
index next.Block = 22
index next.Brace = 23

abbrev pub classes : List Next
classes =
    next.End ∷ next.Assign ∷ next.ShiftLeftAssign ∷ next.Range ∷ next.OrOr ∷ next.AndAnd ∷ next.Compare ∷ next.Less ∷ next.Or
    ∷ next.Caret ∷ next.And ∷ next.ShiftLeft ∷ next.ShiftRight ∷ next.Plus ∷ next.Minus ∷ next.Star ∷ next.Divide ∷ next.As
    ∷ next.Dot ∷ next.Question ∷ next.Parenthesis ∷ next.Bracket ∷ next.Block ∷ next.Brace ∷ []

abbrev pub bit : Bool → ℕ
bit b = if b then 1 else 0

-- a bit for each of the classes in the list
abbrev pub bits : (Next → Bool) → List Next → ℕ
bits f [] = 0
bits f (n ∷ more) = bit (f n) + 2 * bits f more

-- the set of the classes that pass the test
unfoldable pub set_of : (Next → Bool) → ℕ
set_of f = bits f classes

-- the set has the class
unfoldable pub has : ℕ → Next → Bool
has set n = nat_eq (bit_at set (index n)) 1

-- ---- decisions about a node, by its summary

abbrev pub misplaced_by : Context → Sort → Bool
misplaced_by c sort.Block = is_below c.edge || is_braceless c.edge
misplaced_by c sort.BlockLike = is_below c.edge
misplaced_by c sort.BracedMacro = is_below_statement c.edge
misplaced_by c sort.Let = is_statement c.edge
misplaced_by c sort.Struct = c.condition
misplaced_by c sort.Other = false

abbrev pub wrapped_by : Precedence → Summary → Next → Bool
wrapped_by v x n = not (takes v x.low) || has x.ends n

abbrev pub left_wrapped_by : Infix → Summary → Bool
left_wrapped_by k x = x.range || ((x.comparison && is_comparison k) || has x.ends (class_of k))

abbrev pub base_wrapped_by : Trailer → Summary → Bool
base_wrapped_by k x = not (x.base && not (is_call k && x.named_field)) || has x.ends (next_of k)

abbrev pub place_by : Precedence → Context → Summary → Bool
place_by v c x = wrapped_by v x c.next || misplaced_by c x.sort

abbrev pub left_by : Infix → Context → Summary → Bool
left_by k c x = left_wrapped_by k x || misplaced_by c x.sort

abbrev pub base_by : Trailer → Context → Summary → Bool
base_by k c x = base_wrapped_by k x || misplaced_by c x.sort

abbrev pub prefix_by : Prefix → Context → Summary → Bool
prefix_by k c x = place_by (prefix_level k) c x || (is_bare_break k && x.labelled)

-- ---- summaries, by those of the operands

-- what the owner of a place must not have after it; `wrapped`: the occupant is in parentheses
abbrev pub end_by : Precedence → Summary → Next → Bool → Bool
end_by v x n wrapped = (takes_next v n && not (not wrapped && x.range)) || (trails n && (wrapped || x.carries))

abbrev pub prefix_end_by : Prefix → Summary → Next → Bool
prefix_end_by k x n = end_by (prefix_level k) x n (wrapped_by (prefix_level k) x n || (is_bare_break k && x.labelled))

abbrev pub leaf_sort : Leaf → Sort
leaf_sort (e.block None b) = sort.Block
leaf_sort (e.mac m) = if is_brace_delimiter m.delimiter then sort.BracedMacro else sort.Other
leaf_sort k = if is_block_leaf k then sort.BlockLike else sort.Other

abbrev pub prefix_sort : Prefix → Sort
prefix_sort (e.let_expr p) = sort.Let
prefix_sort k = sort.Other

abbrev pub frame_sort : Frame → Sort
frame_sort (e.structure q p d) = sort.Struct
frame_sort k = if is_block_frame k then sort.BlockLike else sort.Other

-- after attributes no brace is first
abbrev pub attributed_sort : Sort → Sort
attributed_sort sort.Block = sort.BlockLike
attributed_sort s = s

-- closed at both ends
abbrev pub closed_summary : Bool → Bool → Sort → Summary
closed_summary is_named_field is_labelled s =
    record {
      low = lev.Unambiguous;
      ends = 0;
      operation = false;
      range = false;
      comparison = false;
      carries = true;
      base = true;
      named_field = is_named_field;
      labelled = is_labelled;
      sort = s;
    }

abbrev pub leaf_summary : Leaf → Summary
leaf_summary k =
    record {
      low = lev.Unambiguous;
      ends = set_of (leaf_refuses k);
      operation = is_range_leaf k;
      range = is_range_leaf k;
      comparison = false;
      carries = not (is_range_leaf k);
      base = not (is_range_leaf k || is_pounded_leaf k);
      named_field = false;
      labelled = leaf_labelled k;
      sort = leaf_sort k;
    }

-- an operation after attributes is in parentheses
abbrev pub attributed_summary : Summary → Summary
attributed_summary x =
    record {
      low = lev.Unambiguous;
      ends = if x.operation then 0 else x.ends;
      operation = false;
      range = false;
      comparison = false;
      carries = x.operation || x.carries;
      base = false;
      named_field = false;
      labelled = false;
      sort = if x.operation then sort.Other else attributed_sort x.sort;
    }

abbrev pub prefix_summary : Prefix → Summary → Summary
prefix_summary k x =
    record {
      low = lev.Unambiguous;
      ends = set_of (λ n. prefix_end_by k x (prefix_next k n));
      operation = is_range_prefix k;
      range = is_range_prefix k;
      comparison = false;
      carries = not (is_prefix k || is_range_prefix k);
      base = not (is_prefix k || is_range_prefix k);
      named_field = false;
      labelled = false;
      sort = prefix_sort k;
    }

abbrev pub left_low : Infix → Summary → Precedence
left_low k x = lower (level k) (if left_wrapped_by k x then lev.Unambiguous else x.low)

abbrev pub infix_summary : Infix → Summary → Summary → Summary
infix_summary k x y =
    record {
      low = left_low k x;
      ends = set_of (λ n. end_by (level k) y n (wrapped_by (level k) y n));
      operation = true;
      range = is_range_op k;
      comparison = is_comparison k;
      carries = false;
      base = false;
      named_field = false;
      labelled = not (left_wrapped_by k x) && x.labelled;
      sort = sort.Other;
    }

abbrev pub is_cast_postfix : Postfix → Bool
is_cast_postfix (e.cast x) = true
is_cast_postfix (e.range_from op) = false

abbrev pub postfix_summary : Postfix → Summary → Summary
postfix_summary k x =
    record {
      low = left_low (postfix_op k) x;
      ends = set_of (postfix_refuses k);
      operation = true;
      range = is_range_op (postfix_op k);
      comparison = false;
      carries = is_cast_postfix k;
      base = false;
      named_field = false;
      labelled = not (left_wrapped_by (postfix_op k) x) && x.labelled;
      sort = sort.Other;
    }

abbrev pub is_named_trailer : Trailer → Bool
is_named_trailer (e.field m) = is_named m
is_named_trailer k = false

abbrev pub summary_of : Tree → Summary
summary_of (leaf k) = leaf_summary k
summary_of (paren m t) = closed_summary false false sort.Other
summary_of (attributed a more t) = attributed_summary (summary_of t)
summary_of (prefixed k gs t) = prefix_summary k (summary_of t)
summary_of (infixed x k y) = infix_summary k (summary_of x) (summary_of y)
summary_of (postfixed x k) = postfix_summary k (summary_of x)
summary_of (tail b k ks) = closed_summary (is_named_trailer k) (not (base_wrapped_by k (summary_of b)) && (summary_of b).labelled) sort.Other
summary_of (frame k ks) = closed_summary false (frame_labelled k) (frame_sort k)

-- ---- the order of summaries: a printer takes them from the end of a list, a node's own first, then those of its operands
-- from left to right; operands that aren't spelled have none

abbrev mutual
  pub below : Tree → List Summary
  below (leaf k) = []
  below (paren m t) = below t ++ summary_of t ∷ []
  below (attributed a more t) = below t
  below (prefixed k gs t) = below t ++ summary_of t ∷ []
  below (infixed x k y) = (below y ++ summary_of y ∷ []) ++ (below x ++ summary_of x ∷ [])
  below (postfixed x k) = below x ++ summary_of x ∷ []
  below (tail b k ks) = children_below ks ++ (below b ++ summary_of b ∷ [])
  below (frame k ks) = children_below ks

  pub children_below : Children → List Summary
  children_below none = []
  children_below (child k c t ks) = children_below ks ++ (if is_silent k then [] else below t ++ summary_of t ∷ [])

-- the summaries of a tree
abbrev pub stack : Tree → List Summary
stack t = below t ++ summary_of t ∷ []

-- ---- what is promised of summaries: they decide as the rule does, each in its own context, and fill-ins change none

pub record SummariesAreRight : Type 0 where
  pub at_place : (v : Precedence) (c : Context) (t : Tree) → place_by v c (summary_of t) ≡ place_asks v c t
  pub at_left : (k : Infix) (c : Context) (t : Tree) → left_by k (left_context k c) (summary_of t) ≡ left_asks k (left_context k c) t
  pub at_base : (k : Trailer) (c : Context) (t : Tree) → base_by k (base_context k c) (summary_of t) ≡ base_asks k (base_context k c) t
  pub at_prefix : (k : Prefix) (c : Context) (t : Tree) → prefix_by k c (summary_of t) ≡ prefix_asks k c t
  pub at_attributes : (t : Tree) → (summary_of t).operation ≡ is_operation t
  pub at_fill : (t : Tree) → stack (fill t) ≡ stack t
  pub counted : (t : Tree) → length (stack t) ≤ size t

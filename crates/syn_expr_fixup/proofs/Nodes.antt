-- The summary of a node, and what its operands make of a pass over it.
use Rattle.std.proofs.Common.{◌≡◌, ◌+◌, Bool, true, false, if◌then◌else◌, List, [], ◌++◌, refl, sym, ap, ◌∙◌, arith}
use Rattle.std.proofs.lemmas.List.{append-nil}
use Rattle.syn_expr_spec.specs.declared.kinds.Infix.{Infix}
use Rattle.syn_expr_spec.specs.declared.summary.Summary.{Summary}
use Rattle.syn_expr_spec.specs.declared.summary.Sort.{Sort}
use Rattle.syn_expr_spec.specs.declared.summary.Sort.TheVariants as sort
use Rattle.syn_expr_spec.specs.Tree as e
use Rattle.syn_expr_spec.specs.Tree.{Tree, Children, Leaf, Prefix, Postfix, Trailer, Frame, leaf, paren, attributed, prefixed, infixed, postfixed, tail, frame, none, child, size, children_size}
use Rattle.syn_expr_spec.specs.Summaries.{summary_of, stack, below, children_below, closed_summary, attributed_summary, attributed_sort, leaf_summary, prefix_summary, infix_summary, postfix_summary}
use Rattle.syn_expr_ast.specs.Label.{leaf_kind, prefix_kind, postfix_kind, trailer_kind, frame_kind, tail_summary, frame_summary, kind_at}
use Rattle.syn_expr_ast.specs.declared.label.NodeKind.TheVariants as node
use Rattle.syn_expr_ast.specs.declared.label.LeafKind.{LeafKind}
use Rattle.syn_expr_ast.specs.declared.label.PrefixKind.{PrefixKind}
use Rattle.syn_expr_ast.specs.declared.label.PostfixKind.{PostfixKind}
use Rattle.syn_expr_ast.specs.declared.label.TrailerKind.{TrailerKind}
use Rattle.syn_expr_ast.specs.declared.label.FrameKind.{FrameKind}
use Rattle.syn_lower_spec.specs.Form.{is_nil}
use Rattle.syn_lower_spec.specs.Tree.{AttributeTree}
use Rattle.syn_expr_ast.specs.Node.{attributes_at, without_strays, no_trees, operands_at, based_by}
use Rattle.syn_expr_fixup.specs.Below.{plain_summary, summarized_behind, AreFirst, operands_below, operands_size, total}
use Rattle.syn_expr_fixup.specs.Strays.{trees_in, strays_in, strays_at, children_left}

-- ---- attributes

-- attributes twice note as once
twice_sort : (b : Bool) (s : Sort) → attributed_sort (if b then sort.Other else attributed_sort s) ≡ (if b then sort.Other else attributed_sort s)
twice_sort true s = refl
twice_sort false sort.Block = refl
twice_sort false sort.BlockLike = refl
twice_sort false sort.BracedMacro = refl
twice_sort false sort.Let = refl
twice_sort false sort.Struct = refl
twice_sort false sort.Other = refl

twice : (n : Summary) → attributed_summary (attributed_summary n) ≡ attributed_summary n
twice n = rw (twice_sort n.operation n.sort) refl

twice_if : (b : Bool) (n : Summary) → attributed_summary (if b then n else attributed_summary n) ≡ attributed_summary n
twice_if true n = refl
twice_if false n = twice n

pub behind_is : (t : Tree) → summarized_behind (attributes_at t) (plain_summary t) ≡ summary_of t
behind_is (leaf k) = refl
behind_is (paren m t) = refl
behind_is (attributed a more t) = sym (twice_if (is_nil (attributes_at t)) (plain_summary t)) ∙ ap attributed_summary (behind_is t)
behind_is (prefixed k gs t) = refl
behind_is (infixed x k y) = refl
behind_is (postfixed x k) = refl
behind_is (tail b k ks) = refl
behind_is (frame k ks) = refl

-- by what is lent of the node
pub summary_is : (t : Tree) (ats : List AttributeTree) (n : Summary) → ats ≡ attributes_at t → n ≡ plain_summary t → summarized_behind ats n ≡ summary_of t
summary_is t ats n a e = ap (λ x. summarized_behind x n) a ∙ ap (λ x. summarized_behind (attributes_at t) x) e ∙ behind_is t

-- ---- kinds

pub plain_leaf : (t : Tree) (k : LeafKind) (r : Summary) → kind_at t ≡ node.Leaf k → ((l : Leaf) → leaf_kind l ≡ k → r ≡ leaf_summary l) → r ≡ plain_summary t
plain_leaf (leaf l) k r h f = f l (cc)
plain_leaf (attributed a more t) k r h f = plain_leaf t k r h f
plain_leaf (paren m t) k r h f = absurd cc
plain_leaf (prefixed l gs t) k r h f = absurd cc
plain_leaf (infixed x op y) k r h f = absurd cc
plain_leaf (postfixed x l) k r h f = absurd cc
plain_leaf (tail b l ks) k r h f = absurd cc
plain_leaf (frame l ks) k r h f = absurd cc

pub plain_paren : (t : Tree) → kind_at t ≡ node.Paren → closed_summary false false sort.Other ≡ plain_summary t
plain_paren (leaf l) h = absurd cc
plain_paren (attributed a more t) h = plain_paren t h
plain_paren (paren m t) h = refl
plain_paren (prefixed l gs t) h = absurd cc
plain_paren (infixed x op y) h = absurd cc
plain_paren (postfixed x l) h = absurd cc
plain_paren (tail b l ks) h = absurd cc
plain_paren (frame l ks) h = absurd cc

pub plain_prefix : (t : Tree) (k : PrefixKind) (m n r : Summary) → kind_at t ≡ node.Prefix k → AreFirst (operands_at t) m n → ((l : Prefix) → prefix_kind l ≡ k → r ≡ prefix_summary l m) → r ≡ plain_summary t
plain_prefix (leaf l) k m n r h a f = absurd cc
plain_prefix (attributed b more t) k m n r h a f = plain_prefix t k m n r h a f
plain_prefix (paren b t) k m n r h a f = absurd cc
plain_prefix (prefixed l gs t) k m n r h a f = f l (cc) ∙ ap (prefix_summary l) a
plain_prefix (infixed x op y) k m n r h a f = absurd cc
plain_prefix (postfixed x l) k m n r h a f = absurd cc
plain_prefix (tail b l ks) k m n r h a f = absurd cc
plain_prefix (frame l ks) k m n r h a f = absurd cc

pub plain_infix : (t : Tree) (k : Infix) (m n : Summary) → kind_at t ≡ node.Infix k → AreFirst (operands_at t) m n → infix_summary k m n ≡ plain_summary t
plain_infix (leaf l) k m n h a = absurd cc
plain_infix (attributed b more t) k m n h a = plain_infix t k m n h a
plain_infix (paren b t) k m n h a = absurd cc
plain_infix (prefixed l gs t) k m n h a = absurd cc
plain_infix (infixed x op y) k m n h a = let (p, q) = a in let e : op ≡ k = cc in rw (p, q, e) refl
plain_infix (postfixed x l) k m n h a = absurd cc
plain_infix (tail b l ks) k m n h a = absurd cc
plain_infix (frame l ks) k m n h a = absurd cc

pub plain_postfix : (t : Tree) (k : PostfixKind) (m n r : Summary) → kind_at t ≡ node.Postfix k → AreFirst (operands_at t) m n → ((l : Postfix) → postfix_kind l ≡ k → r ≡ postfix_summary l m) → r ≡ plain_summary t
plain_postfix (leaf l) k m n r h a f = absurd cc
plain_postfix (attributed b more t) k m n r h a f = plain_postfix t k m n r h a f
plain_postfix (paren b t) k m n r h a f = absurd cc
plain_postfix (prefixed l gs t) k m n r h a f = absurd cc
plain_postfix (infixed x op y) k m n r h a f = absurd cc
plain_postfix (postfixed x l) k m n r h a f = f l (cc) ∙ ap (postfix_summary l) a
plain_postfix (tail b l ks) k m n r h a f = absurd cc
plain_postfix (frame l ks) k m n r h a f = absurd cc

base_first : (b : Tree) (ks : Children) (m n : Summary) → AreFirst (based_by b ks) m n → m ≡ summary_of b
base_first b none m n a = a
base_first b (child k c t ks) m n a = a

pub plain_tail : (t : Tree) (k : TrailerKind) (m n r : Summary) → kind_at t ≡ node.Tail k → AreFirst (operands_at t) m n → ((l : Trailer) → trailer_kind l ≡ k → r ≡ tail_summary l m) → r ≡ plain_summary t
plain_tail (leaf l) k m n r h a f = absurd cc
plain_tail (attributed b more t) k m n r h a f = plain_tail t k m n r h a f
plain_tail (paren b t) k m n r h a f = absurd cc
plain_tail (prefixed l gs t) k m n r h a f = absurd cc
plain_tail (infixed x op y) k m n r h a f = absurd cc
plain_tail (postfixed x l) k m n r h a f = absurd cc
plain_tail (tail b l ks) k m n r h a f = f l (cc) ∙ ap (tail_summary l) (base_first b ks m n a)
plain_tail (frame l ks) k m n r h a f = absurd cc

pub plain_frame : (t : Tree) (k : FrameKind) (r : Summary) → kind_at t ≡ node.Frame k → ((l : Frame) → frame_kind l ≡ k → r ≡ frame_summary l) → r ≡ plain_summary t
plain_frame (leaf l) k r h f = absurd cc
plain_frame (attributed b more t) k r h f = plain_frame t k r h f
plain_frame (paren b t) k r h f = absurd cc
plain_frame (prefixed l gs t) k r h f = absurd cc
plain_frame (infixed x op y) k r h f = absurd cc
plain_frame (postfixed x l) k r h f = absurd cc
plain_frame (tail b l ks) k r h f = absurd cc
plain_frame (frame l ks) k r h f = f l (cc)

-- ---- operands

strays_below : (ks : Children) → children_below (without_strays ks) ≡ children_below ks
strays_below none = refl
strays_below (child k c t ks) = elim k as (λ k. children_below (without_strays (child k c t ks)) ≡ children_below (child k c t ks)) [ e.stray ↦ strays_below ks ∙ sym (append-nil (children_below ks)) | _ ↦ refl ]

strays_left : (ks : Children) → children_left (without_strays ks) ≡ children_left ks
strays_left none = refl
strays_left (child k c t ks) = elim k as (λ k. children_left (without_strays (child k c t ks)) ≡ children_left (child k c t ks)) [ e.stray ↦ strays_left ks | _ ↦ refl ]

-- the strays and the others are all
strays_apart : (ks : Children) → total size (strays_in ks) + children_left ks ≡ children_size ks
strays_apart none = refl
strays_apart (child e.stray c t ks) = omega (arith, strays_apart ks)
strays_apart (child _ c t ks) = omega (arith, strays_apart ks)

trees_size : (ks : Children) → total size (trees_in ks) ≡ children_size ks
trees_size none = refl
trees_size (child k c t ks) = ap (λ n. size t + n) (trees_size ks)

pub based_below : (b : Tree) (ks : Children) → operands_below (based_by b ks) ≡ children_below ks ++ stack b
based_below b none = refl
based_below b (child k c t ks) = refl

pub based_size : (b : Tree) (ks : Children) → operands_size (based_by b ks) ≡ size b + children_left ks
based_size b none = omega arith
based_size b (child k c t ks) = refl

pub below_is : (t : Tree) → operands_below (operands_at t) ≡ below t
below_is (leaf l) = refl
below_is (paren b t) = refl
below_is (attributed a more t) = below_is t
below_is (prefixed l gs t) = refl
below_is (infixed x op y) = refl
below_is (postfixed x l) = refl
below_is (tail b l ks) = based_below b ks
below_is (frame l ks) = strays_below ks

pub size_is : (t : Tree) → 1 + (total size (strays_at t) + operands_size (operands_at t)) ≡ size t
size_is (leaf l) = omega arith
size_is (paren b t) = omega arith
size_is (attributed a more t) = size_is t
size_is (prefixed l gs t) = ap (λ n. 1 + (n + size t)) (trees_size gs)
size_is (infixed x op y) = omega arith
size_is (postfixed x l) = omega arith
size_is (tail b l ks) = omega (arith, based_size b ks, strays_apart ks)
size_is (frame l ks) = omega (arith, strays_left ks, strays_apart ks)

pub leaf_operands : (t : Tree) (k : LeafKind) → kind_at t ≡ node.Leaf k → operands_at t ≡ no_trees
leaf_operands (leaf l) k h = refl
leaf_operands (attributed a more t) k h = leaf_operands t k h
leaf_operands (paren b t) k h = absurd cc
leaf_operands (prefixed l gs t) k h = absurd cc
leaf_operands (infixed x op y) k h = absurd cc
leaf_operands (postfixed x l) k h = absurd cc
leaf_operands (tail b l ks) k h = absurd cc
leaf_operands (frame l ks) k h = absurd cc

pub leaf_strays : (t : Tree) (k : LeafKind) → kind_at t ≡ node.Leaf k → strays_at t ≡ []
leaf_strays (leaf l) k h = refl
leaf_strays (attributed a more t) k h = leaf_strays t k h
leaf_strays (paren b t) k h = absurd cc
leaf_strays (prefixed l gs t) k h = absurd cc
leaf_strays (infixed x op y) k h = absurd cc
leaf_strays (postfixed x l) k h = absurd cc
leaf_strays (tail b l ks) k h = absurd cc
leaf_strays (frame l ks) k h = absurd cc

pub ruleset based = (based_below, based_size)

pub ruleset leaves = (leaf_operands)

pub ruleset nodes = (behind_is, below_is, size_is)

-- Summaries are right.
use Rattle.std.specs.Prelude.{not, ◌&&◌, ◌||◌, nat_eq, if◌then◌else◌, get_or, None}
use Rattle.std.proofs.Common.{◌≡◌, ℕ, zero, suc, ◌+◌, ◌*◌, ◌/◌, ◌^◌, ◌<◌, ◌≤◌, Bool, true, false, List, [], ◌∷◌, ◌++◌, length, refl, sym, ◌∙◌, ap, arith}
use Rattle.std.specs.Int.{bit_at}
use Rattle.std.proofs.lemmas.Nat.Bits.{bit_at-zero, bit_at-suc, bit_at_lowest}
use Rattle.std.proofs.lemmas.List.{length-append}
use Rattle.std.proofs.Math.Nat.{pow-suc}
use Rattle.std.proofs.Math.Bool.{and-false, or-false, and-true, and_assoc}
use Rattle.syn_expr_spec.specs.declared.kinds.Infix.{Infix}
use Rattle.syn_expr_spec.specs.declared.kinds.Precedence.{Precedence}
use Rattle.syn_expr_spec.specs.declared.kinds.Precedence.TheVariants as lev
use Rattle.syn_expr_spec.specs.declared.next.Next.{Next}
use Rattle.syn_expr_spec.specs.declared.next.Next.TheVariants as next
use Rattle.syn_expr_spec.specs.declared.next.Context.{Context}
use Rattle.syn_expr_spec.specs.declared.summary.Summary.{Summary}
use Rattle.syn_expr_spec.specs.declared.summary.Sort.{Sort}
use Rattle.syn_expr_spec.specs.declared.summary.Sort.TheVariants as sort
use Rattle.syn_lower_spec.specs.Tree.{AttributeTree}
use Rattle.syn_expr_spec.specs.declared.next.Edge.{Edge}
use Rattle.syn_expr_spec.specs.declared.next.Edge.TheVariants as edge
use Rattle.syn_expr_spec.specs.Op.{level}
use Rattle.syn_expr_spec.specs.Next.{class_of, next_of, prefix_level, prefix_next, left_context, base_context, attributed_context, attributed_edge}
use Rattle.syn_expr_spec.specs.Stands.{is_call, is_named_field, is_attributed, is_pounded, carries, compares, is_cast}
use Rattle.syn_expr_spec.specs.Tree as e
use Rattle.syn_expr_spec.specs.Tree.{Tree, Children, Leaf, Prefix, Postfix, Trailer, Frame, Piece, leaf, paren, attributed, prefixed, infixed, postfixed, tail, frame, none, child, size, children_size, fill, fill_children, fill_piece, needs_last_comma, postfix_op, is_silent}
use Rattle.syn_expr_spec.specs.Rule.{leaf_refuses, postfix_refuses, is_operation, prints_range, prints_carrier, refuses, misplaced, leaf_misplaced, frame_misplaced, prefix_misplaced, is_below, is_braceless, is_below_statement, is_statement, is_brace_delimiter, is_bare_break, lower, ends_badly, left_wrapped, base_wrapped, place_wrapped, low, bad, labelled}
use Rattle.syn_expr_spec.specs.Summaries.{index, classes, bit, bits, set_of, has, misplaced_by, wrapped_by, left_wrapped_by, base_wrapped_by, end_by, prefix_end_by, leaf_sort, prefix_sort, frame_sort, attributed_sort, left_low, is_cast_postfix, is_named_trailer, attributed_summary, prefix_summary, infix_summary, postfix_summary, closed_summary, summary_of, below, children_below, SummariesAreRight}

-- ---- sets

bit_below : (b : Bool) → bit b < 2
bit_below true = omega arith
bit_below false = omega arith

bit_first : (x m : ℕ) → x < 2 → bit_at (x + 2 * m) 0 ≡ x
bit_first x m h = bit_at_lowest (x + 2 * m) ∙ omega arith

bit_later : (x m i : ℕ) → x < 2 → bit_at (x + 2 * m) (suc i) ≡ bit_at m i
bit_later x m i h = let e : (x + 2 * m) / 2 ≡ m = omega arith in bit_at-suc (x + 2 * m) i ∙ ap (λ k. bit_at k i) e

pub bits_at : (f : Next → Bool) (l : List Next) (i : ℕ) → i < length l → bit_at (bits f l) i ≡ bit (f (get_or l i next.End))
bits_at f [] i h = absurd (omega arith)
bits_at f (n ∷ more) zero h = bit_first (bit (f n)) (bits f more) (bit_below (f n))
bits_at f (n ∷ more) (suc i) h = bit_later (bit (f n)) (bits f more) i (bit_below (f n)) ∙ bits_at f more i (omega arith)

bit_is : (b : Bool) → nat_eq (bit b) 1 ≡ b
bit_is true = refl
bit_is false = refl

-- its place in the order of the classes
in_order : (n : Next) → get_or classes (index n) next.End ≡ n
in_order next.End = refl
in_order _ = refl

in_all : (n : Next) → index n < length classes
in_all next.End = search arith
in_all _ = search arith

pub set_has : (f : Next → Bool) (n : Next) → has (set_of f) n ≡ f n
unfolding has set_of
set_has f n = ap (λ x. nat_eq x 1) (bits_at f classes (index n) (in_all n)) ∙ bit_is (f (get_or classes (index n) next.End)) ∙ ap f (in_order n)

pub none_has : (n : Next) → has 0 n ≡ false
unfolding has
none_has n = ap (λ x. nat_eq x 1) (bit_at-zero (index n))

-- ---- summaries

-- a summary says of the tree what the rule asks
pub record Summarizes (x : Summary) (t : Tree) : Type 0 where
  pub low_is : x.low ≡ low t
  pub ends_is : (n : Next) → has x.ends n ≡ bad t n || refuses t n
  pub operation_is : x.operation ≡ is_operation t
  pub range_is : x.range ≡ prints_range t
  pub comparison_is : x.comparison ≡ compares t
  pub carries_is : x.carries ≡ prints_carrier t
  pub base_is : x.base ≡ carries t && not (is_attributed t || is_pounded t)
  pub named_is : x.named_field ≡ is_named_field t
  pub labelled_is : x.labelled ≡ labelled t
  pub misplaced_is : (c : Context) → misplaced_by c x.sort ≡ misplaced c t

neither : (a b : Bool) → not (a || b) ≡ not a && not b
neither true b = refl
neither false b = refl

braced_sorted : (b : Bool) (c : Context) → misplaced_by c (if b then sort.BracedMacro else sort.Other) ≡ is_below_statement c.edge && b
braced_sorted true c = sym (and-true _)
braced_sorted false c = sym (and-false _)

block_sorted : (b : Bool) (c : Context) → misplaced_by c (if b then sort.BlockLike else sort.Other) ≡ is_below c.edge && b
block_sorted true c = sym (and-true _)
block_sorted false c = sym (and-false _)

leaf_sorted : (k : Leaf) (c : Context) → misplaced_by c (leaf_sort k) ≡ leaf_misplaced c k
leaf_sorted (e.block None b) c = refl
leaf_sorted (e.mac m) c = braced_sorted (is_brace_delimiter m.delimiter) c
leaf_sorted k c = block_sorted (e.is_block_leaf k) c

prefix_sorted : (k : Prefix) (c : Context) → misplaced_by c (prefix_sort k) ≡ prefix_misplaced c k
prefix_sorted (e.let_expr p) c = refl
prefix_sorted _ c = refl

frame_sorted : (k : Frame) (c : Context) → misplaced_by c (frame_sort k) ≡ frame_misplaced c k
frame_sorted (e.structure q p d) c = refl
frame_sorted e.if_expr c = sym (and-true _)
frame_sorted (e.while_loop w) c = sym (and-true _)
frame_sorted (e.for_loop w p) c = sym (and-true _)
frame_sorted e.match_expr c = sym (and-true _)
frame_sorted _ c = sym (and-false _)

below_attributed : (x : Edge) → is_below x ≡ is_below (attributed_edge x)
below_attributed edge.NoBrace = refl
below_attributed _ = refl

brace_attributed : (x : Edge) → is_below x ≡ is_below (attributed_edge x) || is_braceless (attributed_edge x)
brace_attributed edge.NoBrace = refl
brace_attributed _ = refl

statement_attributed : (x : Edge) → is_statement x ≡ is_statement (attributed_edge x)
statement_attributed edge.NoBrace = refl
statement_attributed _ = refl

below_statement_attributed : (x : Edge) → is_below_statement x ≡ is_below_statement (attributed_edge x)
below_statement_attributed edge.NoBrace = refl
below_statement_attributed _ = refl

attributed_sorted : (s : Sort) (c : Context) → misplaced_by c (attributed_sort s) ≡ misplaced_by (attributed_context c) s
attributed_sorted sort.Block c = brace_attributed c.edge
attributed_sorted sort.BlockLike c = below_attributed c.edge
attributed_sorted sort.BracedMacro c = below_statement_attributed c.edge
attributed_sorted sort.Let c = statement_attributed c.edge
attributed_sorted sort.Struct c = refl
attributed_sorted sort.Other c = refl

-- after attributes, where an operation is in parentheses
attributed_ends : (o : Bool) (s : ℕ) (n : Next) (a b : Bool) → has s n ≡ a || b → has (if o then 0 else s) n ≡ (not o && a) || (not o && b)
attributed_ends true s n a b h = none_has n
attributed_ends false s n a b h = h

attributed_place : (o : Bool) (s : Sort) (c : Context) (b : Bool) → misplaced_by (attributed_context c) s ≡ b → misplaced_by c (if o then sort.Other else attributed_sort s) ≡ not o && b
attributed_place true s c b h = refl
attributed_place false s c b h = attributed_sorted s c ∙ h

-- ---- what the owner of a place asks

pub wrapped_same : (v : Precedence) (x : Summary) (t : Tree) (n : Next) → Summarizes x t → wrapped_by v x n ≡ place_wrapped v t n (low t) (bad t n)
wrapped_same v x t n h = rw (h.low_is, h.ends_is n) refl

end_same : (v : Precedence) (x : Summary) (t : Tree) (n : Next) (w u : Bool) → Summarizes x t → w ≡ u → end_by v x n w ≡ ends_badly v t n u
end_same v x t n w u h p = rw (h.range_is, h.carries_is, p) refl

pub left_same : (k : Infix) (x : Summary) (t : Tree) → Summarizes x t → left_wrapped_by k x ≡ left_wrapped k t (bad t (class_of k))
left_same k x t h = rw (h.range_is, h.comparison_is, h.ends_is (class_of k)) refl

pub base_same : (k : Trailer) (x : Summary) (t : Tree) → Summarizes x t → base_wrapped_by k x ≡ base_wrapped k t (bad t (next_of k))
base_same k x t h = rw (h.base_is, h.named_is, h.ends_is (next_of k), and_assoc (carries t) (not (is_attributed t || is_pounded t)) (not (is_call k && is_named_field t))) refl

prefix_same : (k : Prefix) (x : Summary) (t : Tree) → Summarizes x t → (is_bare_break k && x.labelled) ≡ (is_bare_break k && labelled t)
prefix_same k x t h = rw h.labelled_is refl

left_low_same : (k : Infix) (x : Summary) (t : Tree) → Summarizes x t
    → left_low k x ≡ lower (level k) (if left_wrapped k t (bad t (class_of k)) then lev.Unambiguous else low t)
left_low_same k x t h = rw (left_same k x t h, h.low_is) refl

left_labelled_same : (k : Infix) (x : Summary) (t : Tree) → Summarizes x t
    → (not (left_wrapped_by k x) && x.labelled) ≡ (not (left_wrapped k t (bad t (class_of k))) && labelled t)
left_labelled_same k x t h = rw (left_same k x t h, h.labelled_is) refl

base_labelled_same : (k : Trailer) (x : Summary) (t : Tree) → Summarizes x t
    → (not (base_wrapped_by k x) && x.labelled) ≡ (not (base_wrapped k t (bad t (next_of k))) && labelled t)
base_labelled_same k x t h = rw (base_same k x t h, h.labelled_is) refl

-- ---- each shape

leaf_summarized : (k : Leaf) → Summarizes (summary_of (leaf k)) (leaf k)
leaf_summarized k = record {
  low_is = refl;
  ends_is = set_has (leaf_refuses k);
  operation_is = refl;
  range_is = refl;
  comparison_is = refl;
  carries_is = sym (or-false _);
  base_is = neither _ _;
  named_is = refl;
  labelled_is = refl;
  misplaced_is = leaf_sorted k;
}

attributed_summarized : (a : AttributeTree) (more : List AttributeTree) (x : Summary) (t : Tree) → Summarizes x t → Summarizes (attributed_summary x) (attributed a more t)
attributed_summarized a more x t h = record {
  low_is = refl;
  ends_is = λ n. ap (λ o. has (if o then 0 else x.ends) n) h.operation_is ∙ attributed_ends (is_operation t) x.ends n (bad t n) (refuses t n) (h.ends_is n);
  operation_is = refl;
  range_is = refl;
  comparison_is = refl;
  carries_is = rw (h.operation_is, h.carries_is) refl;
  base_is = sym (and-false _);
  named_is = refl;
  labelled_is = refl;
  misplaced_is = λ c. ap (λ o. misplaced_by c (if o then sort.Other else attributed_sort x.sort)) h.operation_is
      ∙ attributed_place (is_operation t) x.sort c (misplaced (attributed_context c) t) (h.misplaced_is (attributed_context c));
}

prefix_summarized : (k : Prefix) (gs : Children) (x : Summary) (t : Tree) → Summarizes x t → Summarizes (prefix_summary k x) (prefixed k gs t)
prefix_summarized k gs x t h = record {
  low_is = refl;
  ends_is = λ n. set_has (λ m. prefix_end_by k x (prefix_next k m)) n
      ∙ end_same (prefix_level k) x t (prefix_next k n) _ (place_wrapped (prefix_level k) t (prefix_next k n) (low t) (bad t (prefix_next k n)) || (is_bare_break k && labelled t)) h
      (rw (wrapped_same (prefix_level k) x t (prefix_next k n) h, prefix_same k x t h) refl)
      ∙ sym (or-false _);
  operation_is = refl;
  range_is = refl;
  comparison_is = refl;
  carries_is = sym (or-false _);
  base_is = sym (and-true _);
  named_is = refl;
  labelled_is = refl;
  misplaced_is = prefix_sorted k;
}

infix_summarized : (k : Infix) (x y : Summary) (t u : Tree) → Summarizes x t → Summarizes y u → Summarizes (infix_summary k x y) (infixed t k u)
infix_summarized k x y t u h g = record {
  low_is = left_low_same k x t h;
  ends_is = λ n. set_has (λ m. end_by (level k) y m (wrapped_by (level k) y m)) n
      ∙ end_same (level k) y u n _ (place_wrapped (level k) u n (low u) (bad u n)) g (wrapped_same (level k) y u n g)
      ∙ sym (or-false _);
  operation_is = refl;
  range_is = refl;
  comparison_is = refl;
  carries_is = refl;
  base_is = refl;
  named_is = refl;
  labelled_is = left_labelled_same k x t h;
  misplaced_is = λ c. refl;
}

cast_carries : (t : Tree) (k : Postfix) → is_cast_postfix k ≡ is_cast (postfixed t k)
cast_carries t (e.cast x) = refl
cast_carries t (e.range_from op) = refl

postfix_summarized : (k : Postfix) (x : Summary) (t : Tree) → Summarizes x t → Summarizes (postfix_summary k x) (postfixed t k)
postfix_summarized k x t h = record {
  low_is = left_low_same (postfix_op k) x t h;
  ends_is = set_has (postfix_refuses k);
  operation_is = refl;
  range_is = refl;
  comparison_is = refl;
  carries_is = cast_carries t k;
  base_is = refl;
  named_is = refl;
  labelled_is = left_labelled_same (postfix_op k) x t h;
  misplaced_is = λ c. refl;
}

named_same : (b : Tree) (k : Trailer) (ks : Children) → is_named_trailer k ≡ is_named_field (tail b k ks)
named_same b (e.field m) ks = refl
named_same b _ ks = refl

pub summarized : (t : Tree) → Summarizes (summary_of t) t
summarized (leaf k) = leaf_summarized k
summarized (paren m t) = search none_has
summarized (attributed a more t) = attributed_summarized a more (summary_of t) t (summarized t)
summarized (prefixed k gs t) = prefix_summarized k gs (summary_of t) t (summarized t)
summarized (infixed x k y) = infix_summarized k (summary_of x) (summary_of y) x y (summarized x) (summarized y)
summarized (postfixed x k) = postfix_summarized k (summary_of x) x (summarized x)
summarized (tail b k ks) = search (none_has, named_same b k ks, base_labelled_same k (summary_of b) b (summarized b))
summarized (frame k ks) = search (none_has, frame_sorted k)

-- ---- fill-ins change no summary

pub summary_fill : (t : Tree) → summary_of (fill t) ≡ summary_of t
summary_fill (attributed a more t) = ap attributed_summary (summary_fill t)
summary_fill (prefixed k gs t) = ap (prefix_summary k) (summary_fill t)
summary_fill (infixed x k y) = ap (λ u. infix_summary k u (summary_of (fill y))) (summary_fill x) ∙ ap (infix_summary k (summary_of x)) (summary_fill y)
summary_fill (postfixed x k) = ap (postfix_summary k) (summary_fill x)
summary_fill (tail b k ks) = ap (λ x. closed_summary (is_named_trailer k) (not (base_wrapped_by k x) && x.labelled) sort.Other) (summary_fill b)
summary_fill _ = refl

silent_fill : (k : Piece) → is_silent (fill_piece k) ≡ is_silent k
silent_fill (e.rest d) = refl
silent_fill _ = refl

joined : (xs ys us vs : List Summary) → xs ≡ us → ys ≡ vs → xs ++ ys ≡ us ++ vs
joined xs ys us vs p q = cc

with_own : (xs ys : List Summary) (x y : Summary) → xs ≡ ys → x ≡ y → xs ++ x ∷ [] ≡ ys ++ y ∷ []
with_own xs ys x y p q = cc

mutual
  below_fill : (t : Tree) → below (fill t) ≡ below t
  below_fill (leaf k) = refl
  below_fill (paren m t) = with_own _ _ _ _ (below_fill t) (summary_fill t)
  below_fill (attributed a more t) = below_fill t
  below_fill (prefixed k gs t) = with_own _ _ _ _ (below_fill t) (summary_fill t)
  below_fill (infixed x k y) = joined _ _ _ _ (with_own _ _ _ _ (below_fill y) (summary_fill y)) (with_own _ _ _ _ (below_fill x) (summary_fill x))
  below_fill (postfixed x k) = with_own _ _ _ _ (below_fill x) (summary_fill x)
  below_fill (tail b k ks) = joined _ _ _ _ (children_below_fill false ks) (with_own _ _ _ _ (below_fill b) (summary_fill b))
  below_fill (frame k ks) = children_below_fill (needs_last_comma k ks) ks

  children_below_fill : (last : Bool) (ks : Children) → children_below (fill_children last ks) ≡ children_below ks
  children_below_fill last none = refl
  children_below_fill last (child k c t ks) =
      joined _ _ _ _ (children_below_fill last ks)
      (ap (λ b. if b then [] else below (fill t) ++ summary_of (fill t) ∷ []) (silent_fill k)
      ∙ ap (λ l. if is_silent k then [] else l) (with_own _ _ _ _ (below_fill t) (summary_fill t)))

-- ---- how many there are

counted_own : (xs : List Summary) (x : Summary) (n : ℕ) → 1 + length xs ≤ n → length (xs ++ x ∷ []) ≤ n
counted_own xs x n h = omega (arith, length-append xs (x ∷ []))

counted_two : (xs ys : List Summary) (m n : ℕ) → length xs ≤ m → length ys ≤ n → length (xs ++ ys) ≤ m + n
counted_two xs ys m n h g = omega (arith, length-append xs ys)

counted_if : (b : Bool) (xs : List Summary) (n : ℕ) → length xs ≤ n → length (if b then [] else xs) ≤ n
counted_if true xs n h = omega arith
counted_if false xs n h = h

mutual
  counted_below : (t : Tree) → 1 + length (below t) ≤ size t
  counted_below (leaf k) = omega arith
  counted_below (paren m t) = let a = counted_own (below t) (summary_of t) (size t) (counted_below t) in omega (arith, a)
  counted_below (attributed a more t) = counted_below t
  counted_below (prefixed k gs t) = let a = counted_own (below t) (summary_of t) (size t) (counted_below t) in omega (arith, a)
  counted_below (infixed x k y) =
      let a = counted_own (below x) (summary_of x) (size x) (counted_below x) in
      let b = counted_own (below y) (summary_of y) (size y) (counted_below y) in
      let c = counted_two (below y ++ summary_of y ∷ []) (below x ++ summary_of x ∷ []) (size y) (size x) b a in
      omega (arith, c)
  counted_below (postfixed x k) = let a = counted_own (below x) (summary_of x) (size x) (counted_below x) in omega (arith, a)
  counted_below (tail b k ks) =
      let a = counted_own (below b) (summary_of b) (size b) (counted_below b) in
      let c = counted_two (children_below ks) (below b ++ summary_of b ∷ []) (children_size ks) (size b) (counted_children ks) a in
      omega (arith, c)
  counted_below (frame k ks) = omega (arith, counted_children ks)

  counted_children : (ks : Children) → length (children_below ks) ≤ children_size ks
  counted_children none = omega arith
  counted_children (child k c t ks) =
      let a = counted_own (below t) (summary_of t) (size t) (counted_below t) in
      let b = counted_two (children_below ks) (if is_silent k then [] else below t ++ summary_of t ∷ []) (children_size ks) (size t) (counted_children ks)
      (counted_if (is_silent k) (below t ++ summary_of t ∷ []) (size t) a) in
      omega (arith, b)

-- ---- decisions

pub summaries_are_right : SummariesAreRight
summaries_are_right = record {
  at_place = λ v c t. let h = summarized t in rw (wrapped_same v (summary_of t) t c.next h, h.misplaced_is c) refl;
  at_left = λ k c t. let h = summarized t in rw (left_same k (summary_of t) t h, h.misplaced_is (left_context k c)) refl;
  at_base = λ k c t. let h = summarized t in rw (base_same k (summary_of t) t h, h.misplaced_is (base_context k c)) refl;
  at_prefix = λ k c t. let h = summarized t in rw (wrapped_same (prefix_level k) (summary_of t) t c.next h, h.misplaced_is c, h.labelled_is) refl;
  at_attributes = λ t. let h = summarized t in h.operation_is;
  at_fill = λ t. with_own _ _ _ _ (below_fill t) (summary_fill t);
  counted = λ t. counted_own (below t) (summary_of t) (size t) (counted_below t);
}

-- a set has 24 bits
bits_small : (f : Next → Bool) (l : List Next) → bits f l < 2 ^ length l
bits_small f [] = omega arith
bits_small f (n ∷ more) = let a = bit_below (f n) in let b = bits_small f more in let e = pow-suc 2 (length more) in omega (arith, a, b, e)

pub set_small : (f : Next → Bool) → set_of f < 0x100_0000
unfolding set_of
set_small f = bits_small f classes

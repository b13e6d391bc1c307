-- How the operands of a tree that stands bind.
use Rattle.std.specs.Prelude.{not, ◌||◌, ◌&&◌, nat_lt, nat_le}
use Rattle.std.proofs.lemmas.Bool.Decides.{nat_tests}
use Rattle.std.proofs.Common.{◌≡◌, ◌⊎◌, inl, inr, ℕ, Bool, true, false, List, [], ◌∷◌, Option, Some, None, refl, sym, ◌∙◌, ap, subst, arith}
use Rattle.std.proofs.lemmas.Bool.{and_from}
use Rattle.syn_tokens.specs.Tok.{Tok}
use Rattle.syn_lower_spec.specs.Pat.{a_name, an_index}
use Rattle.syn_expr_spec.specs.declared.kinds.Place.{Place}
use Rattle.syn_expr_spec.specs.declared.kinds.BinKind.{BinKind}
use Rattle.syn_expr_spec.specs.declared.kinds.BinKind.TheVariants as bin
use Rattle.syn_expr_spec.specs.declared.kinds.Limits.{Limits}
use Rattle.syn_expr_spec.specs.declared.kinds.Infix.{Infix}
use Rattle.syn_expr_spec.specs.declared.kinds.Infix.TheVariants as inf
use Rattle.syn_expr_spec.specs.declared.kinds.Precedence.{Precedence}
use Rattle.syn_expr_spec.specs.Place.{rank, takes, at}
use Rattle.syn_expr_spec.specs.Op.{infix_at, level, binary_level, goes_on, is_comparison}
use Rattle.syn_expr_spec.specs.Next.{prefix_level}
use Rattle.syn_expr_spec.specs.Tree as e
use Rattle.syn_expr_spec.specs.Tree.{Tree, Children, Leaf, Prefix, Trailer, Piece, leaf, attributed, prefixed, infixed, postfixed, tail, none, postfix_op}
use Rattle.syn_expr_spec.specs.Slot.{Slot, Holder}
use Rattle.syn_expr_spec.specs.Stands.{Node, Content, Operands, is_leaf, is_become, is_attributed_verbatim, is_paren, is_attributed_by, is_prefixed, is_infixed, is_postfixed, is_tail, is_indexed, is_frame, holds_none, holds_within, holds_bare, no_more, one_more, short, block, arms_inside, is_base, fits_base, carries_trailer, fields_of, trailer_head, short_value, path_of, fits_left, ends, prefix_place, refuses_dots, refuses_arrow, compares, carries, is_range, is_infix, is_range_leaf, is_range_prefix, is_prefix}
use Rattle.syn_expr_spec.specs.Binding.{everywhere, children_everywhere, binds_right, as_tight, binds_left, compares_once, ranges_stay, RightOperandBindsTighter, LeftOperandBindsAsTight, ComparisonsDontChain, RangeIsNoLeftOperand}
use Rattle.syn_expr_spec.proofs.Callees.{fits_there, fits_index}
use Rattle.syn_expr_spec.proofs.Flat.{left_of}

-- what is shown of a test at one node each
pub record AtNodes (f : Tree → Bool) : Type 0 where
  pub at_leaf : (k : Leaf) → f (leaf k) ≡ true
  pub at_index : (b : Tree) (i : ℕ) → is_base (e.field (an_index i)) b ≡ true → f (tail b (e.field (an_index i)) none) ≡ true
  pub at_node : (p : Place) (l n : List Tok) (x : Tree) → Node p l x n → f x ≡ true

fields_hold : (f : Tree → Bool) → AtNodes f → (b : Tree) (is : List ℕ) → ((i : ℕ) → is_base (e.field (an_index i)) b ≡ true) → everywhere f b ≡ true
    → everywhere f (fields_of b is) ≡ true
fields_hold f h b [] g w = w
fields_hold f h b (i ∷ more) g w =
    fields_hold f h (tail b (e.field (an_index i)) none) more (λ j. refl) (and_from _ _ (h.at_index b i (g i)) (and_from _ _ w refl))

based : (p : Place) (k : Trailer) (b : Tree) → fits_base p k b ≡ true → is_base k b ≡ true
unfolding fits_base
based p k b g = left_of (is_base k b) _ g

indices : Option (List ℕ × List Tok) → List ℕ
indices None = []
indices (Some o) = o.0

-- a float before a trailer is fields of what could have them
fields_fit : (p : Place) (k : Trailer) (b : Tree) (m h : List Tok) (is : List ℕ) → fits_base p k b ≡ true → trailer_head k m ≡ Some (is, h)
    → (is ≡ []) ⊎ ((i : ℕ) → is_base (e.field (an_index i)) b ≡ true)
unfolding trailer_head indices
fields_fit p e.call b m h is g t = inl (sym (ap indices t))
fields_fit p d b m h is g t = inr (λ i. based p d b g)

tail_base : (f : Tree → Bool) → AtNodes f → (b x : Tree) (is : List ℕ) → (is ≡ []) ⊎ ((i : ℕ) → is_base (e.field (an_index i)) b ≡ true) → everywhere f b ≡ true
    → x ≡ fields_of b is → everywhere f x ≡ true
tail_base f h b x is (inl g) w q = subst (λ u. everywhere f u ≡ true) (sym (q ∙ ap (fields_of b) g)) w
tail_base f h b x is (inr g) w q = subst (λ u. everywhere f u ≡ true) (sym q) (fields_hold f h b is g w)

short_holds : (f : Tree → Bool) → AtNodes f → (k : Piece) (x : Tree) → short_value k ≡ Some x → everywhere f x ≡ true
short_holds f h (e.field_value ats (a_name w) false) x v = let q : path_of w ≡ x = cc in subst (λ u. everywhere f u ≡ true) q (h.at_leaf _)
short_holds f h _ x v = cc

mutual
  pub at_nodes : (f : Tree → Bool) → AtNodes f → (p : Place) (l n : List Tok) (x : Tree) → Node p l x n → everywhere f x ≡ true
  at_nodes f h p l n x (is_leaf {k = k} g s) = h.at_leaf k
  at_nodes f h p l n x (is_become {ts = ts} w d s c q) = h.at_leaf (e.verbatim ts)
  at_nodes f h p l n x (is_attributed_verbatim {us = us} a more fs g d q r) = h.at_leaf (e.verbatim us)
  at_nodes f h p l n x (is_paren d s c) = and_from _ _ (h.at_node p _ n _ (is_paren {p = p} d s c)) (at_nodes f h _ _ _ _ d)
  at_nodes f h p l n x (is_attributed_by {a = a} {more = more} g u d) = and_from _ _ (h.at_node p l n _ (is_attributed_by {a = a} {more = more} g u d)) (at_nodes f h _ _ _ _ d)
  at_nodes f h p l n x (is_prefixed g k d s c) = and_from _ _ (h.at_node p l n _ (is_prefixed g k d s c)) (and_from true _ refl (at_nodes f h _ _ _ _ d))
  at_nodes f h p l n x (is_infixed d c g i t k r s q o) =
      and_from _ _ (h.at_node p l n _ (is_infixed d c g i t k r s q o)) (and_from _ _ (at_nodes f h _ _ _ _ d) (at_nodes f h _ _ _ _ r))
  at_nodes f h p l n x (is_postfixed d c g i t k s o) = and_from _ _ (h.at_node p l n _ (is_postfixed d c g i t k s o)) (at_nodes f h _ _ _ _ d)
  at_nodes f h p l n x (is_tail {m = m} {h = i} {b = b} {x = u} {k = k} {is = is} d g t c q) =
      and_from _ _ (h.at_node p l n _ (is_tail d g t c q))
      (and_from _ _ (tail_base f h b u is (fields_fit p k b m i is (fits_there k d g t c) t) (at_nodes f h _ _ _ _ d) q) (in_content f h _ _ _ _ c))
  at_nodes f h p l n x (is_indexed {b = b} {i = i} {is = is} d g t q) =
      tail_base f h b x (i ∷ is) (inr (λ j. based p (e.field (an_index i)) b (fits_index p i b g))) (at_nodes f h _ _ _ _ d) q
  at_nodes f h p l n x (is_frame g c s e) = and_from _ _ (h.at_node p l n _ (is_frame g c s e)) (in_content f h _ _ _ _ c)

  in_content : (f : Tree → Bool) → AtNodes f → (o : Holder) (l n : List Tok) (ks : Children) → Content o l ks n → children_everywhere f ks ≡ true
  in_content f h o l n ks holds_none = refl
  in_content f h o l n ks (holds_within g d s) = in_operands f h _ _ _ _ d
  in_content f h o l n ks (holds_bare d) = in_operands f h _ _ _ _ d

  in_operands : (f : Tree → Bool) → AtNodes f → (s : Slot) (l n : List Tok) (ks : Children) → Operands s l ks n → children_everywhere f ks ≡ true
  in_operands f h s l n ks (no_more g) = refl
  in_operands f h s l n ks (one_more g i d q c r) = and_from _ _ (at_nodes f h _ _ _ _ d) (in_operands f h _ _ _ _ r)
  in_operands f h s l n ks (short {k = k} {x = x} g v c r) = and_from _ _ (short_holds f h k x v) (in_operands f h _ _ _ _ r)
  in_operands f h s l n ks (block {i = i} g t b r) = and_from _ _ (h.at_leaf _) (in_operands f h _ _ _ _ r)
  in_operands f h s l n ks (arms_inside d q c g i r) = and_from _ _ (at_nodes f h _ _ _ _ d) (in_operands f h _ _ _ _ r)

-- the last of fields of fields
last_field : (f : Tree → Bool) → ((b : Tree) (i : ℕ) → is_base (e.field (an_index i)) b ≡ true → f (tail b (e.field (an_index i)) none) ≡ true)
    → (b : Tree) (i : ℕ) (is : List ℕ) → is_base (e.field (an_index i)) b ≡ true → f (fields_of b (i ∷ is)) ≡ true
last_field f h b i [] g = h b i g
last_field f h b i (j ∷ more) g = last_field f h (tail b (e.field (an_index i)) none) j more refl

pub indexed_holds : (f : Tree → Bool) → ((b : Tree) (i : ℕ) → is_base (e.field (an_index i)) b ≡ true → f (tail b (e.field (an_index i)) none) ≡ true)
    → (p : Place) (b x : Tree) (i : ℕ) (is : List ℕ) → carries_trailer p (e.field (an_index i)) b ≡ true → x ≡ fields_of b (i ∷ is) → f x ≡ true
indexed_holds f h p b x i is g q = subst (λ u. f u ≡ true) (sym q) (last_field f h b i is (based p (e.field (an_index i)) b (fits_index p i b g)))

-- ---- an operand on the right, or after a prefix

above : (left : Tree) (k : Infix) (p : Place) {l n : List Tok} {x : Tree} → Node (at p (level k)) l x n → binds_right (infixed left k x) ≡ true
above left k p (is_leaf g s) = refl
above left k p (is_infixed d c g i t j r s q o) = t
above left k p (is_postfixed d c g i t j s o) = t
above left k p (is_indexed {b = b} {x = x} {i = i} {is = is} d g t q) = indexed_holds (λ u. binds_right (infixed left k u)) (λ c j w. refl) (at p (level k)) b x i is g q
above left k p _ = refl

behind : (k : Prefix) (gs : Children) (p : Place) {l n : List Tok} {x : Tree} → p.level ≡ prefix_level k → Node p l x n → binds_right (prefixed k gs x) ≡ true
behind k gs p v (is_leaf g s) = refl
behind k gs p v (is_infixed {op = op} d c g i t j r s q o) = ap (λ w. takes w (level op)) (sym v) ∙ t
behind k gs p v (is_postfixed {k = op} d c g i t j s o) = ap (λ w. takes w (level (postfix_op op))) (sym v) ∙ t
behind k gs p v (is_indexed {b = b} {x = x} {i = i} {is = is} d g t q) = indexed_holds (λ u. binds_right (prefixed k gs u)) (λ c j w. refl) p b x i is g q
behind k gs p v _ = refl

level_behind : (p : Place) (k : Prefix) → (prefix_place p k).level ≡ prefix_level k
level_behind p (e.range_to op) = refl
level_behind p _ = refl

right_node : (p : Place) (l n : List Tok) (x : Tree) → Node p l x n → binds_right x ≡ true
right_node p l n x (is_leaf g s) = refl
right_node p l n x (is_prefixed {k = k} g j d s c) = behind k none (prefix_place p k) (level_behind p k) d
right_node p l n x (is_infixed {x = left} {op = op} d c g i t j r s q o) = above left op p r
right_node p l n x (is_indexed {b = b} {i = i} {is = is} d g t q) = indexed_holds binds_right (λ c j w. refl) p b x i is g q
right_node p l n x _ = refl

pub right_operand_binds_tighter : RightOperandBindsTighter
right_operand_binds_tighter p l n x s =
    at_nodes binds_right (record { at_leaf = λ k. refl; at_index = λ b i g. refl; at_node = right_node }) p l n x s.node

-- ---- left operands

nothing_taken : (v : Precedence) (n : List Tok) (k : Infix) (count : ℕ) → infix_at n ≡ Some (k, count) → goes_on v n ≡ false → takes v (level k) ≡ false
unfolding goes_on
nothing_taken v n k count i h = rw i at h

no_looser : (a b : ℕ) (c : Bool) → (nat_lt a b || c) ≡ false → nat_le b a ≡ true
no_looser a b c h = grind (arith, nat_tests)

not_either : (a b : Bool) → not (a || b) ≡ true → a ≡ false
not_either true b h = cc
not_either false b h = refl

tight : (op k : Infix) (y : Tree) (p : Place) (n : List Tok) (count : ℕ) → infix_at n ≡ Some (k, count) → ends (at p (level op)) y n ≡ true
    → (is_range y || nat_le (rank (level k)) (rank (level op))) ≡ true
unfolding ends
tight op k y p n count i h = by_range (is_range y) h
  where
    by_range : (b : Bool) → (b || not (goes_on (level op) n || (refuses_dots (level op) n || refuses_arrow (level op) n))) ≡ true → (b || nat_le (rank (level k)) (rank (level op))) ≡ true
    by_range true g = refl
    by_range false g = no_looser (rank (level op)) (rank (level k)) _ (nothing_taken (level op) n k count i (not_either _ _ g))

binary_rank : (op : BinKind) → nat_le (rank (binary_level op)) 13 ≡ true
binary_rank bin.Add = refl
binary_rank _ = refl

at_most_cast : (k : Infix) → nat_le (rank (level k)) 13 ≡ true
at_most_cast (inf.Binary op) = binary_rank op
at_most_cast _ = refl

no_range_left : (p : Place) (k : Infix) (l : Tree) (op : Limits) → fits_left p k (postfixed l (e.range_from op)) ≡ true → nat_le (rank (level k)) 2 ≡ true
unfolding fits_left
no_range_left p k l op g = cc

below : (k : Infix) (count : ℕ) (p : Place) {l n : List Tok} {x : Tree} → infix_at n ≡ Some (k, count) → fits_left p k x ≡ true → Node p l x n → as_tight k x ≡ true
below k count p i f (is_leaf g s) = refl
below k count p i f (is_infixed {n = n} {y = y} {op = op} d c g o t j r s q w) = tight op k y p n count i s
below k count p i f (is_postfixed {k = e.cast ty} d c g o t j s w) = at_most_cast k
below k count p i f (is_postfixed {x = x} {k = e.range_from op} d c g o t j s w) = no_range_left p k x op f
below k count p i f (is_indexed {b = b} {x = x} {i = j} {is = is} d g t q) = indexed_holds (as_tight k) (λ c m w. refl) p b x j is g q
below k count p i f _ = refl

left_node : (p : Place) (l n : List Tok) (x : Tree) → Node p l x n → binds_left x ≡ true
left_node p l n x (is_leaf g s) = refl
left_node p l n x (is_infixed {op = op} {count = count} d c g i t j r s q o) = below op count p i g d
left_node p l n x (is_postfixed {k = k} {count = count} d c g i t j s o) = below (postfix_op k) count p i g d
left_node p l n x (is_indexed {b = b} {i = i} {is = is} d g t q) = indexed_holds binds_left (λ c j w. refl) p b x i is g q
left_node p l n x _ = refl

pub left_operand_binds_as_tight : LeftOperandBindsAsTight
left_operand_binds_as_tight p l n x s =
    at_nodes binds_left (record { at_leaf = λ k. refl; at_index = λ b i g. refl; at_node = left_node }) p l n x s.node

-- ---- comparisons and ranges

neither : (a b : Bool) → not (a || b) ≡ true → (not a ≡ true) × (not b ≡ true)
neither true b h = cc
neither false b h = (refl, h)

fits : (p : Place) (op : Infix) (x : Tree) → fits_left p op x ≡ true → (not (is_range x) ≡ true) × (not (is_comparison op && compares x) ≡ true)
unfolding fits_left
fits p op x h = let a = neither (is_range x) _ h in let b = neither (is_comparison op && compares x) _ a.1 in (a.0, b.0)

compares_node : (p : Place) (l n : List Tok) (x : Tree) → Node p l x n → compares_once x ≡ true
compares_node p l n x (is_leaf g s) = refl
compares_node p l n x (is_infixed {x = left} {op = op} d c g i t j r s q o) = let f = fits p op left g in f.1
compares_node p l n x (is_indexed {b = b} {i = i} {is = is} d g t q) = indexed_holds compares_once (λ c j w. refl) p b x i is g q
compares_node p l n x _ = refl

pub comparisons_dont_chain : ComparisonsDontChain
comparisons_dont_chain p l n x s =
    at_nodes compares_once (record { at_leaf = λ k. refl; at_index = λ b i g. refl; at_node = compares_node }) p l n x s.node

no_more_true : (a b : Bool) → not (a || b) ≡ true → not (b || false) ≡ true
no_more_true true b h = cc
no_more_true false true h = h
no_more_true false false h = refl

-- what carries a trailer is no operation
closed : (x : Tree) → carries x ≡ true → not (is_range x || is_infix x) ≡ true
closed (leaf k) h = by (is_range_leaf k) h
  where
    by : (b : Bool) → not b ≡ true → not (b || false) ≡ true
    by true h = h
    by false h = refl
closed (attributed a more t) h = by (is_range t) (neither (is_range t) _ (closed t h)).0
  where
    by : (b : Bool) → not b ≡ true → not (b || false) ≡ true
    by true h = h
    by false h = refl
closed (prefixed k gs t) h = no_more_true (is_prefix k) (is_range_prefix k) h
closed (infixed x k y) h = cc
closed (postfixed x k) h = cc
closed _ h = refl

closed_fields : (b : Tree) (is : List ℕ) → carries b ≡ true → not (is_range (fields_of b is) || is_infix (fields_of b is)) ≡ true
closed_fields b [] h = closed b h
closed_fields b (i ∷ more) h = closed_fields (tail b (e.field (an_index i)) none) more refl

ranges_node : (p : Place) (l n : List Tok) (x : Tree) → Node p l x n → ranges_stay x ≡ true
ranges_node p l n x (is_leaf g s) = refl
ranges_node p l n x (is_infixed {x = left} {op = op} d c g i t j r s q o) = let f = fits p op left g in f.0
ranges_node p l n x (is_postfixed {x = left} {k = k} d c g i t j s o) = let f = fits p (postfix_op k) left g in f.0
ranges_node p l n x (is_tail {b = b} {x = u} {k = k} {is = is} d g t c q) =
    subst (λ v. not (is_range v || is_infix v) ≡ true) (sym q) (closed_fields b is (left_of (carries b) _ (based p k b (fits_there k d g t c))))
ranges_node p l n x (is_indexed {b = b} {i = i} {is = is} d g t q) = indexed_holds ranges_stay (λ c j w. closed c (left_of (carries c) _ w)) p b x i is g q
ranges_node p l n x _ = refl

pub range_is_no_left_operand : RangeIsNoLeftOperand
range_is_no_left_operand p l n x s =
    at_nodes ranges_stay (record { at_leaf = λ k. refl; at_index = λ b i g. closed b (left_of (carries b) _ g); at_node = ranges_node }) p l n x s.node

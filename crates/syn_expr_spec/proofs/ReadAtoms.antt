-- Leaves, paths and lists of operands: what stands is read.
use Rattle.std.specs.Prelude.{not, ◌||◌, ◌&&◌}
use Rattle.std.proofs.Common.{◌≡◌, Bool, true, false, cond, ⊎_elim, List, [], ◌∷◌, drop, Option, Some, None, refl, ap, sym, ◌∙◌, subst}
use Rattle.std.proofs.Math.Bool.{and-false}
use Rattle.std.proofs.lemmas.Bool.{and_parts}
use Rattle.syn_lexer.specs.declared.front.Delimiter.TheVariants as del
use Rattle.syn_lexer.specs.declared.front.Spacing.{Spacing}
use Rattle.syn_lexer.specs.declared.front.Spacing.TheVariants as spacing
use Rattle.syn_tokens.specs.Tok.{Tok, Inside, punct, group}
use Rattle.syn_tokens.specs.Front.{group_at, is_empty}
use Rattle.syn_lower_spec.specs.declared.label.PathStyle.TheVariants as style
use Rattle.syn_lower_spec.specs.Form.{and_then, then_behind, then_by}
use Rattle.syn_lower_spec.specs.Mark.{sign_at, word_at, brace_at, round_at, pound, semi, comma}
use Rattle.syn_lower_spec.specs.Part.{QPathTree, MacroEnd, qpath, path, pieces, segment, segment_name, type, macro_end, is_bare, lifetimes_at}
use Rattle.syn_lower_spec.proofs.Ends.{sign_first}
use Rattle.syn_lower_spec.proofs.Weights.{some_is}
use Rattle.syn_lower_spec.proofs.Forms.{behind_some}
use Rattle.syn_expr_spec.specs.declared.kinds.Place.{Place}
use Rattle.syn_expr_spec.specs.declared.kinds.Limits.{Limits}
use Rattle.syn_expr_spec.specs.declared.kinds.Limits.TheVariants as limits
use Rattle.syn_expr_spec.specs.Place.{plain}
use Rattle.syn_expr_spec.specs.Front.{bracket_at}
use Rattle.syn_expr_spec.specs.Path.{invisible_at, expr_path}
use Rattle.syn_expr_spec.specs.Tree as tr
use Rattle.syn_expr_spec.specs.Tree.{Tree, Children, Leaf, Prefix, Piece, Ending, Jump, leaf, none, child}
use Rattle.syn_expr_spec.specs.Head as h
use Rattle.syn_expr_spec.specs.Head.{leaf_form, prefix_form, named, to_named, range_at, jump_at, range_op, jump_head, from_full_range, from_bare_jump, closure_at, leaf_at}
use Rattle.syn_expr_spec.specs.Slot.{Slot, may_end, elements, single, counted, after, piece_form, piece_place, ending_at, comma_or_end}
use Rattle.syn_expr_spec.specs.Stands.{Node, Operands, no_more, one_more, short, block, ends, closes, ends_piece, ends_list, short_value, takes_block, leaf_stands, prefix_stands}
use Rattle.syn_expr_spec.specs.Read.{Reading, leaf_read, prefix_at, loop_head_at, prefix_read, unled, named_read, named_by, group_read, framed_by, atom}
use Rattle.syn_expr_spec.proofs.Chains.{then_some, only_some, chosen}
use Rattle.syn_expr_spec.proofs.Needs.{heads}
use Rattle.syn_expr_spec.proofs.Sound.{empty_is}
use Rattle.syn_expr_spec.proofs.SoundAtoms.{named_reads}
use Rattle.syn_expr_spec.proofs.Fronts.{no_lifetime, sign_no_leaf, range_prefix, range_is_prefix, jump_prefix, jump_is_prefix}
use Rattle.syn_expr_spec.proofs.GroupForms.{plain_read, in_place}
use Rattle.syn_expr_spec.proofs.NameFronts.{Named, expr_path_front}
use Rattle.syn_expr_spec.proofs.HeadForms.{NoLeaf, no_leaf}

-- ---- leaves

leaf_reads : (p : Place) (k : Leaf) (l n : List Tok) → leaf_form.behind k l ≡ Some n → leaf_stands p k n ≡ true → leaf_read p l ≡ Some (leaf k, n)
unfolding leaf_read
leaf_reads p k l n g s = rw (heads.leaves.found l k n g, s) refl

rest_range : (k : Leaf) (l : List Tok) → NoLeaf l → range_at l ≡ true → leaf_form.behind k l ≡ then_behind (from_full_range k) (λ op. range_op.behind op l)
unfolding leaf_form
rest_range k l a v = rw (a.no_literal, a.no_underscore, v) refl

rest_jump : (k : Leaf) (l : List Tok) → NoLeaf l → range_at l ≡ false → jump_at l ≡ true → leaf_form.behind k l ≡ then_behind (from_bare_jump k) (λ j. jump_head.behind j l)
unfolding leaf_form
rest_jump k l a v w = rw (a.no_literal, a.no_underscore, v, w) refl

range_is : (k : Leaf) (op : Limits) → from_full_range k ≡ Some op → k ≡ tr.full_range op
range_is (tr.full_range o) op v = ap tr.full_range (some_is v)
range_is _ op v = absurd cc

jump_is : (k : Leaf) (j : Jump) → from_bare_jump k ≡ Some j → k ≡ tr.bare_jump j
jump_is (tr.bare_jump i) j v = ap tr.bare_jump (some_is v)
jump_is _ j v = absurd cc

open_range : (p : Place) (op : Limits) (n : List Tok) → leaf_stands p (tr.full_range op) n ≡ true → prefix_stands p (tr.range_to op) n ≡ false
unfolding leaf_stands prefix_stands
open_range p limits.HalfOpen n g = rw g refl
open_range p limits.Closed n g = absurd cc

open_jump : (p : Place) (j : Jump) (n : List Tok) → leaf_stands p (tr.bare_jump j) n ≡ true → prefix_stands p (tr.jump j) n ≡ false
unfolding leaf_stands prefix_stands
open_jump p j n g = rw g refl

no_structure : (c b : Bool) → (c || not b) ≡ true → (b && not c) ≡ false
no_structure true true g = refl
no_structure true false g = refl
no_structure false true g = absurd cc
no_structure false false g = refl

path_alone : (p : Place) (q : QPathTree) (n : List Tok) → leaf_stands p (to_named (q, None)) n ≡ true → (brace_at n && not p.condition) ≡ false
unfolding leaf_stands
path_alone p q n g = let (a, b) = and_parts (p.condition || not (brace_at n)) _ g in no_structure p.condition (brace_at n) a

-- no macro ends before a brace
pub brace_no_macro : (q : QPathTree) (i : Inside) (n : List Tok) → (macro_end q).reads (group del.Brace i ∷ n) ≡ Some (None, group del.Brace i ∷ n)
unfolding macro_end sign_at
brace_no_macro q i n = rw (and-false (is_bare q)) refl

pub ends_is : (d : Bool) (o : List Tok) → ends_list d o ≡ true → d ≡ not (is_empty o)
unfolding sign_at
ends_is true [] g = absurd cc
ends_is true (x ∷ o) g = refl
ends_is false [] g = refl
ends_is false (x ∷ o) g = absurd cc

pound_path : (s : Spacing) (m : List Tok) → (qpath type style.Expr).reads (punct 35 s ∷ m) ≡ None
unfolding qpath path pieces segment segment_name sign_at
pound_path spacing.Alone m = refl
pound_path spacing.Joint m = refl

no_pound_prefix : (s : Spacing) (m : List Tok) → prefix_at (punct 35 s ∷ m) ≡ false
unfolding prefix_at range_at jump_at closure_at lifetimes_at sign_at word_at
no_pound_prefix spacing.Alone m = refl
no_pound_prefix spacing.Joint m = refl

no_semi_end : semi.at [] ≡ false
unfolding sign_at
no_semi_end = refl

no_semi_comma : (s : Spacing) (m : List Tok) → semi.at (punct 44 s ∷ m) ≡ false
unfolding sign_at
no_semi_comma spacing.Alone m = refl
no_semi_comma spacing.Joint m = refl

element_only : (k : Piece) (l m : List Tok) → (piece_form elements).behind k l ≡ Some m → k ≡ tr.element
unfolding piece_form
element_only tr.element l m h = refl
element_only _ l m h = absurd cc

-- ---- lists of operands, taken apart

pub none_is : {v : Slot} {l o : List Tok} → Operands v l none o → (may_end v l ≡ true) × (l ≡ o)
none_is (no_more h) = (h, refl)

pub comma_no_semi : (l n : List Tok) (c : Ending) → comma_or_end l ≡ Some (c, n) → semi.at l ≡ false
comma_no_semi l n c g =
    ⊎_elim (λ j. sign_first 44 [] (λ z. semi.at z ≡ false) at_comma l j.0)
    (λ j. let (a, b) = only_some (is_empty l) (Some (tr.no_ending, l)) (c, n) j.1 in let i = empty_is l a in rw i nothing) (chosen (comma.at l) _ _ (Some (c, n)) g)
  where
    nothing : semi.at [] ≡ false
    nothing = no_semi_end

    at_comma : (s : Spacing) (m : List Tok) → semi.at (punct 44 s ∷ m) ≡ false
    at_comma s m = no_semi_comma s m

pub record Counted (l : List Tok) (k : Piece) (c : Ending) (x : Tree) (ks : Children) (o : List Tok) : Type 0 where
  pub kind : k ≡ tr.repeated
  pub none_behind : c ≡ tr.no_ending
  pub middle : List Tok
  pub node : Node plain l x middle
  pub ending : ends plain x middle ≡ true
  pub closing : closes plain x middle ≡ true
  pub semicolon : semi.at middle ≡ true
  pub more : Operands single (drop 1 middle) ks o

counted_at : (k : Piece) (l m : List Tok) → (piece_form counted).behind k l ≡ Some m → (k ≡ tr.repeated) × (l ≡ m)
unfolding piece_form
counted_at tr.repeated l m h = (refl, some_is h)
counted_at _ l m h = absurd cc

counted_by : (k : Piece) (l m h n o : List Tok) (c : Ending) (x : Tree) (ks : Children) → (k ≡ tr.repeated) × (l ≡ m) → Node (piece_place k) m x h → ends_piece k x h ≡ true → ending_at k x h ≡ Some (c, n)
    → Operands (after k) n ks o → Counted l k c x ks o
unfolding ending_at
counted_by tr.repeated l m h n o c x ks (v, w) d f g more =
    let (a, b) = and_parts (ends plain x h) (closes plain x h) f in
    let (i, j) = only_some (semi.at h) (Some (tr.no_ending, drop 1 h)) (c, n) g in
    let u : (tr.no_ending, drop 1 h) ≡ (c, n) = some_is j in
    record {
      kind = refl;
      none_behind = ap (λ (r : Ending × List Tok). r.0) (sym u);
      middle = h;
      node = subst (λ z. Node plain z x h) (sym w) d;
      ending = a;
      closing = b;
      semicolon = i;
      more = subst (λ z. Operands single z ks o) (ap (λ (r : Ending × List Tok). r.1) (sym u)) more;
    }
counted_by _ l m h n o c x ks (v, w) d f g more = absurd cc

pub counted_is : {l o : List Tok} {k : Piece} {c : Ending} {x : Tree} {ks : Children} → Operands counted l (child k c x ks) o → Counted l k c x ks o
counted_is {l} {o} {k} {c} {x} {ks} (one_more {m = m} {h = h} {n = n} a u d f g more) = counted_by k l m h n o c x ks (counted_at k l m a) d f g more
counted_is {l} {o} {k} (short {m = m} {x = v} a u g more) = let (w, y) = counted_at k l m a in let i : short_value tr.repeated ≡ Some v = subst (λ z. short_value z ≡ Some v) w u in absurd cc
counted_is {l} {o} {k} (block {m = m} a v g more) = let (w, y) = counted_at k l m a in let i : takes_block tr.repeated ≡ true = subst (λ z. takes_block z ≡ true) w v in absurd cc

pub element_kind : {l o : List Tok} {k : Piece} {c : Ending} {x : Tree} {ks : Children} → Operands elements l (child k c x ks) o → k ≡ tr.element
unfolding piece_form
element_kind {l} {k = k} (one_more {m = m} a u d f g more) = element_only k l m a
element_kind {l} {k = k} (short {m = m} a u g more) = element_only k l m a
element_kind {l} {k = k} (block {m = m} a v g more) = element_only k l m a

-- ---- atoms

either : {A : Type 0} (b : Bool) (x y q : A) → x ≡ q → y ≡ q → cond b x y ≡ q
either true x y q g h = g
either false x y q g h = h

module _ (rec : Place → Reading Tree) where
  pub prefixes : (p : Place) (l : List Tok) (q : Option (Tree × List Tok)) → leaf_at l ≡ false → prefix_at l ≡ true → prefix_read rec p l ≡ q → atom rec p l ≡ q
  unfolding atom
  prefixes p l q a b g = rw (a, b) g

  named_end : (p : Place) (q : QPathTree) (g : MacroEnd) (n : List Tok) → leaf_stands p (to_named (q, g)) n ≡ true → named_by rec p q g n ≡ Some (leaf (to_named (q, g)), n)
  named_end p q (Some g) n a = rw a refl
  named_end p q None n a = rw (path_alone p q n a, a) refl

  by_front : (p : Place) (l : List Tok) → leaf_at l ≡ false → Named l → atom rec p l ≡ cond (invisible_at l) (group_read rec p l) (named_read rec p l)
  unfolding atom
  by_front p l a n = rw (a, n.no_prefix, n.no_round, n.no_bracket, n.no_become, n.no_if, n.no_loop, n.no_match) refl

  pub unnamed : (p : Place) (l m : List Tok) (x : QPathTree) (q : Option (Tree × List Tok)) → leaf_at l ≡ false → Named l → (expr_path (not p.condition)).reads l ≡ Some (x, m) → named_read rec p l ≡ q
      → atom rec p l ≡ q
  unfolding group_read
  unnamed p l m x q a n r g = by_front p l a n ∙ either (invisible_at l) _ _ q (rw r g) g

  -- an operand in an invisible group that no path begins with
  pub grouped : (p : Place) (l : List Tok) (q : Option (Tree × List Tok)) → leaf_at l ≡ false → Named l → invisible_at l ≡ true → (expr_path (not p.condition)).reads l ≡ None
      → framed_by rec p tr.group_expr l ≡ q → atom rec p l ≡ q
  unfolding group_read
  grouped p l q a n v r g = by_front p l a n ∙ rw (v, r) g

  name_read : (p : Place) (l m n : List Tok) (q : QPathTree) (g : MacroEnd) → (expr_path (not p.condition)).reads l ≡ Some (q, m) → (macro_end q).reads m ≡ Some (g, n)
      → leaf_stands p (to_named (q, g)) n ≡ true → named_read rec p l ≡ Some (leaf (to_named (q, g)), n)
  unfolding named_read
  name_read p l m n q g a b c = rw (a, b) (named_end p q g n c)

  pub unled_read : (p : Place) (k : Prefix) (l m : List Tok) (q : Option (Tree × List Tok)) → prefix_form.behind k l ≡ Some m → prefix_stands p k m ≡ false → unled rec p l (h.from_closure k) m ≡ q → prefix_read rec p l ≡ q
  unfolding prefix_read
  unled_read p k l m q a b g = rw (heads.prefixes.found l k m a, b) g

  pub leaf_atom : (p : Place) (k : Leaf) (l n : List Tok) → leaf_form.behind k l ≡ Some n → leaf_stands p k n ≡ true → atom rec p l ≡ Some (leaf k, n)
  unfolding atom named
  leaf_atom p k l n g s = by_leaf (leaf_at l) refl
    where
      by_range : NoLeaf l → leaf_at l ≡ false → range_at l ≡ true → atom rec p l ≡ Some (leaf k, n)
      by_range a b v =
          let (op, c, d) = behind_some (from_full_range k) (λ op. range_op.behind op l) n (sym (rest_range k l a v) ∙ g) in
          let i = range_is k op c in
          prefixes p l (Some (leaf k, n)) b (range_is_prefix l v) (unled_read p (tr.range_to op) l n (Some (leaf k, n)) (range_prefix op l v ∙ d)
          (open_range p op n (subst (λ z. leaf_stands p z n ≡ true) i s)) (leaf_reads p k l n g s))

      by_jump : NoLeaf l → leaf_at l ≡ false → range_at l ≡ false → jump_at l ≡ true → atom rec p l ≡ Some (leaf k, n)
      by_jump a b v w =
          let (j, c, d) = behind_some (from_bare_jump k) (λ j. jump_head.behind j l) n (sym (rest_jump k l a v w) ∙ g) in
          let i = jump_is k j c in
          prefixes p l (Some (leaf k, n)) b (jump_is_prefix l w) (unled_read p (tr.jump j) l n (Some (leaf k, n)) (jump_prefix j l w ∙ d)
          (open_jump p j n (subst (λ z. leaf_stands p z n ≡ true) i s)) (leaf_reads p k l n g s))

      by_name : NoLeaf l → leaf_at l ≡ false → range_at l ≡ false → jump_at l ≡ false → atom rec p l ≡ Some (leaf k, n)
      by_name a b v w =
          let w : named.reads l ≡ Some (k, n) = sym (named_reads l a (record { no_range = v; no_jump = w })) ∙ heads.leaves.found l k n g in
          let (z, c, d) = then_some ((then_by (expr_path false) macro_end).reads l) (λ x n. Some (to_named x, n)) (k, n) w in
          let (q, i, j) = then_some ((expr_path false).reads l) (λ x m. and_then ((macro_end x).reads m) (λ y n. Some ((x, y), n))) z c in
          let (m, t, u) = then_some ((macro_end q.0).reads q.1) (λ y n. Some ((q.0, y), n)) z j in
          let x : ((q.0, m.0), m.1) ≡ z = some_is u in
          let y : (to_named (q.0, m.0), m.1) ≡ (k, n) = ap (λ (r : (QPathTree × MacroEnd) × List Tok). (to_named r.0, r.1)) x ∙ some_is d in
          let o : leaf_stands p (to_named (q.0, m.0)) m.1 ≡ true = subst (λ (r : Leaf × List Tok). leaf_stands p r.0 r.1 ≡ true) (sym y) s in
          let r = in_place p.condition l q.0 q.1 i in
          unnamed p l q.1 q.0 (Some (leaf k, n)) b (expr_path_front false q.0 l q.1 ((heads.paths false).sound l q.0 q.1 i)) r
          (name_read p l q.1 m.1 q.0 m.0 r t o ∙ ap (λ (r : Leaf × List Tok). Some (leaf r.0, r.1)) y)

      by_jump_test : NoLeaf l → leaf_at l ≡ false → range_at l ≡ false → (b : Bool) → jump_at l ≡ b → atom rec p l ≡ Some (leaf k, n)
      by_jump_test a b v true w = by_jump a b v w
      by_jump_test a b v false w = by_name a b v w

      by_range_test : NoLeaf l → leaf_at l ≡ false → (b : Bool) → range_at l ≡ b → atom rec p l ≡ Some (leaf k, n)
      by_range_test a b true v = by_range a b v
      by_range_test a b false v = by_jump_test a b v (jump_at l) refl

      by_leaf : (b : Bool) → leaf_at l ≡ b → atom rec p l ≡ Some (leaf k, n)
      by_leaf true v = rw v (leaf_reads p k l n g s)
      by_leaf false v = by_range_test (no_leaf l v) v (range_at l) refl

  pound_none : (p : Place) (s : Spacing) (m : List Tok) → atom rec p (punct 35 s ∷ m) ≡ None
  unfolding atom named_read invisible_at round_at bracket_at group_at word_at loop_head_at
  pound_none p s m = rw (sign_no_leaf 35 s m refl, no_pound_prefix s m, no_lifetime 35 s m refl, plain_read (not p.condition) (punct 35 s ∷ m) refl, pound_path s m) refl

  -- no operand begins with `#`
  pub no_pound : (p : Place) (l : List Tok) (q : Tree × List Tok) → atom rec p l ≡ Some q → pound.at l ≡ false
  no_pound p l q g = by_test (pound.at l) refl
    where
      by_test : (b : Bool) → pound.at l ≡ b → b ≡ false
      by_test false v = refl
      by_test true v = absurd (sign_first 35 [] (λ z. atom rec p z ≡ Some q → ⊥) (λ s m i. absurd (cc (i, pound_none p s m))) l v g)

-- Trailers, attributes and operations, one after the other: what stands for the tokens is read.
use Rattle.std.specs.Prelude.{not, ◌||◌, ◌&&◌}
use Rattle.std.proofs.Common.{◌≡◌, ℕ, zero, suc, ◌<◌, ◌≤◌, Bool, true, false, List, [], ◌∷◌, ◌++◌, drop, codes, Option, Some, None, refl, ap, sym, ◌∙◌, subst, arith}
use Rattle.std.proofs.lemmas.Bool.{or_parts, not-true}
use Rattle.syn_lexer.specs.declared.front.Delimiter.TheVariants as del
use Rattle.syn_lexer.specs.declared.front.Spacing.TheVariants as spacing
use Rattle.syn_tokens.specs.Tok.{Tok, punct, group, weight}
use Rattle.syn_lower_spec.specs.Tree.{AttributeTree}
use Rattle.syn_lower_spec.specs.Mark.{sign_at, pound}
use Rattle.syn_lower_spec.specs.Part.{outer_attributes}
use Rattle.syn_lower_spec.specs.Pat.{an_index}
use Rattle.syn_lower_spec.proofs.Marks.{word_present}
use Rattle.syn_lower_spec.proofs.Same.{same_toks-refl}
use Rattle.syn_lower_spec.proofs.Weights.{some_is}
use Rattle.syn_expr_spec.specs.declared.kinds.Place.{Place}
use Rattle.syn_expr_spec.specs.declared.kinds.Infix.{Infix}
use Rattle.syn_expr_spec.specs.declared.kinds.Infix.TheVariants as inf
use Rattle.syn_expr_spec.specs.declared.kinds.Limits.TheVariants as limits
use Rattle.syn_expr_spec.specs.declared.kinds.Precedence.{Precedence}
use Rattle.syn_expr_spec.specs.Place.{plain, at, takes}
use Rattle.syn_expr_spec.specs.Op.{infix_at, level, goes_on, takes_by, is_comparison}
use Rattle.syn_expr_spec.specs.Tree as tr
use Rattle.syn_expr_spec.specs.Tree.{Tree, Children, Postfix, Trailer, leaf, paren, attributed, prefixed, infixed, postfixed, tail, frame, none, postfix_op}
use Rattle.syn_expr_spec.specs.Slot.{trailer_holder}
use Rattle.syn_expr_spec.specs.Stands.{Node, is_leaf, is_become, is_attributed_verbatim, is_paren, is_attributed_by, is_prefixed, is_infixed, is_postfixed, is_tail, is_indexed, is_frame, Content, Stands, ends, closes, compares, goes_behind, carries, is_cast, rests, is_range, is_attributed, is_pounded, fits_left, prefix_place, takes_attributes, infix_stands, postfix_stands, postfix_behind, ends_operation, refuses_dots, refuses_arrow, trailer_head, fields_of}
use Rattle.syn_expr_spec.specs.Read.{Reading, trailed, trail, core, atom, operand, read_attributed, verbatim_of, stop, taken_by, taken_at, next_operator, postfix_made, infix_read, longer, turn, climb, at_place, become_word}
use Rattle.syn_expr_spec.proofs.HeadMoves.{postfix_left, IsLess, less_then, marked, taken_is, tail_falls, left, left_less, fields_less, trailer_less, trailer_left}
use Rattle.syn_expr_spec.proofs.Callees.{fits_there, fits_index}
use Rattle.syn_expr_spec.proofs.Needs.{heads}
use Rattle.syn_expr_spec.proofs.Lesses.{within_less, here, node_less, content_left, operator_less}
use Rattle.syn_tokens.specs.Input.{IsTail}
use Rattle.syn_expr_spec.proofs.ReadTrailers.{pound_there, pound_behind, base_is, index_next, tail_next}
use Rattle.syn_expr_spec.proofs.ReadOperands.{full, content_read}
use Rattle.syn_expr_spec.proofs.ReadAtoms.{leaf_atom, no_pound}
use Rattle.syn_expr_spec.proofs.ReadFrames.{prefix_atom, paren_atom, frame_atom, become_atom}

tail_less : (t : Trailer) (m h n : List Tok) (is : List ℕ) (ks : Children) → trailer_head t m ≡ Some (is, h) → Content (trailer_holder t) h ks n → IsTail n h → IsLess n m
unfolding trailer_head
tail_less tr.call m h n is ks a c t = subst (λ z. IsLess n z) (sym (ap (λ (r : List ℕ × List Tok). r.1) (some_is a))) (within_less c)
tail_less tr.index m h n is ks a c t = subst (λ z. IsLess n z) (sym (ap (λ (r : List ℕ × List Tok). r.1) (some_is a))) (within_less c)
tail_less d m h n is ks a c t = less_then (trailer_less d m is h refl a) t

-- ---- which nodes are operands without attributes

abbrev is_plain : {p : Place} {l n : List Tok} {x : Tree} → Node p l x n → Bool
is_plain (is_attributed_verbatim a more fs b d i j) = false
is_plain (is_attributed_by b f d) = false
is_plain (is_infixed d c f i t g r e q a) = false
is_plain (is_postfixed d c f i t b g a) = false
is_plain _ = true

abbrev is_operand : {p : Place} {l n : List Tok} {x : Tree} → Node p l x n → Bool
is_operand (is_infixed d c f i t g r e q a) = false
is_operand (is_postfixed d c f i t b g a) = false
is_operand _ = true

same_first : (x : Tok) (l m : List Tok) → pound.at (x ∷ l) ≡ true → pound.at (x ∷ m) ≡ true
unfolding sign_at
same_first (punct c spacing.Alone) l m g = g
same_first (punct c spacing.Joint) l m g = g
same_first _ l m g = absurd cc

word_less : (l : List Tok) → become_word.at l ≡ true → weight (drop 1 l) < weight l
word_less l g = let a = marked (word_present (codes "become")) l g in a.less

-- tokens with an attribute first
pounded : (l fs m ts us : List Tok) → pound.at l ≡ true → pound.at m ≡ false → l ≡ fs ++ m → us ≡ fs ++ ts → pound.at us ≡ true
pounded l [] m ts us a b i j = let c : l ≡ m = i in absurd (cc (a, b, ap (λ z. pound.at z) c))
pounded l (x ∷ fs) m ts us a b i j = subst (λ z. pound.at z ≡ true) (sym j) (same_first x (fs ++ m) (fs ++ ts) (subst (λ z. pound.at z ≡ true) i a))

base_plain : {p : Place} {l n : List Tok} {x : Tree} (d : Node p l x n) → carries x ≡ true → is_attributed x ≡ false → is_pounded x ≡ false → is_plain d ≡ true
base_plain (is_attributed_verbatim {l = l} {m = m} {ts = ts} {us = us} a more fs b d i j) c f g = absurd (cc (g, pounded l fs m ts us (pound_there a more l m b) (pound_behind (a ∷ more) l m b) i j))
base_plain (is_attributed_by b h d) c f g = absurd cc
base_plain (is_infixed d c h i t g r e q a) v f w = absurd cc
base_plain (is_postfixed d c h i t b g a) v f w = absurd cc
base_plain _ c f g = refl

verbatim_plain : {p : Place} {l n ts : List Tok} {x : Tree} (d : Node p l x n) → x ≡ leaf (tr.verbatim ts) → pound.at l ≡ false → is_plain d ≡ true
verbatim_plain (is_attributed_verbatim {l = l} {m = m} a more fs b d i j) e g = absurd (cc (g, pound_there a more l m b))
verbatim_plain (is_attributed_by b h d) e g = absurd cc
verbatim_plain (is_infixed d c h i t g r e q a) v f = absurd cc
verbatim_plain (is_postfixed d c h i t b g a) v f = absurd cc
verbatim_plain _ e g = refl

attributed_plain : {p : Place} {l n : List Tok} {x : Tree} (d : Node p l x n) → takes_attributes p x ≡ true → is_plain d ≡ true
attributed_plain (is_attributed_verbatim a more fs b d i j) g = absurd cc
attributed_plain (is_attributed_by b h d) g = absurd cc
attributed_plain (is_infixed d c h i t g r e q a) v = absurd cc
attributed_plain (is_postfixed d c h i t b g a) v = absurd cc
attributed_plain _ g = refl

may_no_verbatim : (p : Place) (x : Tree) → takes_attributes p x ≡ true → verbatim_of x ≡ None
may_no_verbatim p (leaf (tr.verbatim ts)) g = absurd cc
may_no_verbatim p (leaf _) g = refl
may_no_verbatim p _ g = refl

less_closes : (a g : Bool) → not ((a || false) && g) ≡ true → (c : Bool) → c ≡ false → not ((a || c) && g) ≡ true
less_closes a g h c v = rw v h

may_no_cast : (p : Place) (x : Tree) → takes_attributes p x ≡ true → is_cast x ≡ false
may_no_cast p (postfixed x k) g = absurd cc
may_no_cast p _ g = refl

bare_closes : (p : Place) (a : AttributeTree) (more : List AttributeTree) (x : Tree) (n : List Tok) → takes_attributes p x ≡ true → closes p (attributed a more x) n ≡ true → closes p x n ≡ true
unfolding closes
bare_closes p a more x n m h = less_closes (carries x) (goes_behind (rests p x) n) h (is_cast x) (may_no_cast p x m)

goes_none : (v : Precedence) (n : List Tok) → goes_on v n ≡ false → taken_at v n ≡ None
unfolding goes_on taken_at
goes_none v n h = go (infix_at n) h
  where
    go : (o : Option (Infix × ℕ)) → takes_by v o ≡ false → taken_by v o ≡ None
    go None h = refl
    go (Some k) h = rw h refl

ends_next : (p : Place) (x : Tree) (n : List Tok) → ends p x n ≡ true → next_operator p x n ≡ None
unfolding ends
ends_next p x n h = go (is_range x) (rests p x) (goes_on p.level n) refl refl refl h
  where
    go : (a b c : Bool) → is_range x ≡ a → rests p x ≡ b → goes_on p.level n ≡ c → (a || (b || not (c || (refuses_dots p.level n || refuses_arrow p.level n)))) ≡ true → next_operator p x n ≡ None
    go true b c u v w h = rw u refl
    go false true c u v w h = rw (u, v) refl
    go false false true u v w h = absurd cc
    go false false false u v w h = rw (u, v) (goes_none p.level n w)

next_is : (p : Place) (x : Tree) (n : List Tok) (op : Infix) (count : ℕ) → fits_left p op x ≡ true → infix_at n ≡ Some (op, count) → takes p.level (level op) ≡ true → next_operator p x n ≡ Some (op, count)
unfolding fits_left taken_at
next_is p x n op count f i t =
    let (a, b) = or_parts (is_range x) ((is_comparison op && compares x) || rests p x) (not-true _ f) in
    let (c, d) = or_parts (is_comparison op && compares x) (rests p x) b in rw (a, d, i, t) refl

module _ (rec : Place → Reading Tree) where
  -- ---- where the reading of an operand comes to

  record Trails (p : Place) (l : List Tok) (x : Tree) (n : List Tok) : Type 0 where
    turns : ℕ
    few : weight n < turns
    came : core rec p l ≡ trail rec p turns x n
    started : pound.at l ≡ false

  from_atom : (p : Place) (l n : List Tok) (x : Tree) → atom rec p l ≡ Some (x, n) → Trails p l x n
  unfolding core
  from_atom p l n x g = record { turns = suc (weight n); few = omega arith; came = rw g refl; started = no_pound rec p l (x, n) g }

  on : (turns : ℕ) (p : Place) (l m n : List Tok) (b x : Tree) → weight m < turns → core rec p l ≡ trail rec p turns b m → pound.at l ≡ false → closes p b m ≡ false → trailed rec p b m ≡ Some (x, n) → weight n < weight m → Trails p l x n
  unfolding trail
  on zero p l m n b x f c s a r w = absurd (omega arith)
  on (suc turns) p l m n b x f c s a r w = record { turns = turns; few = omega arith; came = c ∙ rw (a, r) refl; started = s }

  ended : (turns : ℕ) (p : Place) (x : Tree) (n : List Tok) → weight n < turns → closes p x n ≡ true → trail rec p turns x n ≡ Some (x, n)
  unfolding trail
  ended zero p x n f c = absurd (omega arith)
  ended (suc turns) p x n f c = rw c refl

  core_read : (p : Place) (l n : List Tok) (x : Tree) → Trails p l x n → closes p x n ≡ true → core rec p l ≡ Some (x, n)
  core_read p l n x t c = t.came ∙ ended t.turns p x n t.few c

  bare_operand : (p : Place) (l : List Tok) (q : Option (Tree × List Tok)) → pound.at l ≡ false → core rec p l ≡ q → operand rec p l ≡ q
  unfolding operand
  bare_operand p l q a r = rw a r

  behind_attributes : (p : Place) (l m n : List Tok) (ats : List AttributeTree) (x : Tree) (q : Option (Tree × List Tok)) → pound.at l ≡ true → outer_attributes.behind ats l ≡ Some m → core rec p m ≡ Some (x, n)
      → read_attributed p l m ats x n ≡ q → operand rec p l ≡ q
  unfolding operand
  behind_attributes p l m n ats x q a b c r = rw (a, heads.outers.found l ats m b, c) r

  tokens_attributed : (p : Place) (l m n fs ts us : List Tok) (a : AttributeTree) (more : List AttributeTree) → l ≡ fs ++ m → us ≡ fs ++ ts → read_attributed p l m (a ∷ more) (leaf (tr.verbatim ts)) n ≡ Some (leaf (tr.verbatim us), n)
  tokens_attributed p l m n fs ts us a more i j =
      subst (λ z. read_attributed p z m (a ∷ more) (leaf (tr.verbatim ts)) n ≡ Some (leaf (tr.verbatim us), n)) (sym i) (rw (taken_is fs m, same_toks-refl (fs ++ m), j) refl)

  tree_attributed : (p : Place) (l m n : List Tok) (x : Tree) (a : AttributeTree) (more : List AttributeTree) → takes_attributes p x ≡ true → read_attributed p l m (a ∷ more) x n ≡ Some (attributed a more x, n)
  tree_attributed p l m n x a more g = rw (may_no_verbatim p x g, g) refl

  module _ (k : ℕ) (complete : (p : Place) (l n : List Tok) (x : Tree) → weight l < k → Stands p l x n → rec p l ≡ Some (x, n)) where
    core_comes : {p : Place} {l n : List Tok} {x : Tree} (d : Node p l x n) → weight l ≤ k → is_plain d ≡ true → Trails p l x n
    core_comes (is_leaf {p = p} {l = l} {n = n} {k = f} h g) b y = from_atom p l n (leaf f) (leaf_atom rec p f l n h g)
    core_comes (is_become {p = p} {l = l} {n = n} {ts = ts} {x = x} w d e c i) b y =
        from_atom p l n (leaf (tr.verbatim ts)) (become_atom rec k complete p l n ts x w (full rec k complete plain (drop 1 l) n x (omega (arith, word_less l w)) d e c) i)
    core_comes (is_paren {p = p} {i = i} {n = n} {x = x} d e c) b y = from_atom p (group del.Parenthesis i ∷ n) n (paren false x) (paren_atom rec k complete p i n x b d e c)
    core_comes (is_prefixed {p = p} {l = l} {m = m} {n = n} {k = f} {x = x} h g d e c) b y =
        let u = left_less here.prefixes f l m h in
        from_atom p l n (prefixed f none x) (prefix_atom rec k complete p f l m n x h g (full rec k complete (prefix_place p f) m n x (omega (arith, u.less)) d e c))
    core_comes (is_tail {p = p} {l = l} {m = m} {h = h} {n = n} {b = v} {x = x} {k = t} {is = is} {ks = ks} d f a c i) b y =
        let u = fits_there t d f a c in
        let w = base_is p t v u in
        let r = core_comes d b (base_plain d w.carrying w.bare w.no_pound) in
        let g = node_less d in
        let z = tail_less t m h n is ks a c (content_left c) in
        let o = tail_next rec p t v m h n is ks u a c (content_read rec k complete (trailer_holder t) h n ks c (omega (arith, g.less, tail_falls (trailer_left t m is h a)))) in
        subst (λ u. Trails p l (tail u t ks) n) (sym i) (on r.turns p l m n v (tail (fields_of v is) t ks) r.few r.came r.started o.opened o.reading z.less)
    core_comes (is_indexed {p = p} {l = l} {m = m} {n = n} {b = v} {x = x} {i = i} {is = is} d f a j) b y =
        let u = fits_index p i v f in
        let w = base_is p (tr.field (an_index i)) v u in
        let r = core_comes d b (base_plain d w.carrying w.bare w.no_pound) in
        let o = index_next rec p v m n i is u a in
        let z = fields_less m (i ∷ is) n a in
        subst (λ u. Trails p l u n) (sym j) (on r.turns p l m n v (fields_of v (i ∷ is)) r.few r.came r.started o.opened o.reading z.less)
    core_comes (is_frame {p = p} {l = l} {h = h} {n = n} {k = f} {ks = ks} a c g e) b y = from_atom p l n (frame f ks) (frame_atom rec k complete p f l h n ks a c b g e)
    core_comes _ b y = absurd cc

    plain_operand : {p : Place} {l n : List Tok} {x : Tree} (d : Node p l x n) → weight l ≤ k → is_plain d ≡ true → closes p x n ≡ true → operand rec p l ≡ Some (x, n)
    plain_operand {p} {l} {n} {x} d b y c = let t = core_comes d b y in bare_operand p l (Some (x, n)) t.started (core_read p l n x t c)

    operand_comes : {p : Place} {l n : List Tok} {x : Tree} (d : Node p l x n) → weight l ≤ k → is_operand d ≡ true → closes p x n ≡ true → operand rec p l ≡ Some (x, n)
    unfolding closes
    operand_comes (is_attributed_verbatim {p = p} {l = l} {m = m} {n = n} {ts = ts} {us = us} a more fs v d i j) b y c =
        let t = core_comes d (omega (arith, tail_falls (left here.outer (a ∷ more) l m v))) (verbatim_plain d refl (pound_behind (a ∷ more) l m v)) in
        behind_attributes p l m n (a ∷ more) (leaf (tr.verbatim ts)) (Some (leaf (tr.verbatim us), n)) (pound_there a more l m v) v (core_read p m n (leaf (tr.verbatim ts)) t c)
        (tokens_attributed p l m n fs ts us a more i j)
    operand_comes (is_attributed_by {p = p} {l = l} {m = m} {n = n} {a = a} {more = more} {x = x} v f d) b y c =
        let t = core_comes d (omega (arith, tail_falls (left here.outer (a ∷ more) l m v))) (attributed_plain d f) in
        behind_attributes p l m n (a ∷ more) x (Some (attributed a more x, n)) (pound_there a more l m v) v (core_read p m n x t (bare_closes p a more x n f c)) (tree_attributed p l m n x a more f)
    operand_comes (is_infixed d c f i t g r e q a) b y v = absurd cc
    operand_comes (is_postfixed d c f i t v g a) b y w = absurd cc
    operand_comes u b y c = plain_operand u b refl c

  -- ---- operations

  record Climbs (p : Place) (l : List Tok) (x : Tree) (n : List Tok) : Type 0 where
    turns : ℕ
    few : weight n < turns
    came : at_place rec p l ≡ climb rec p turns x n

  from_operand : (p : Place) (l n : List Tok) (x : Tree) → operand rec p l ≡ Some (x, n) → Climbs p l x n
  unfolding at_place
  from_operand p l n x g = record { turns = suc (weight n); few = omega arith; came = rw g refl }

  operated : (p : Place) (x y : Tree) (m n : List Tok) (op : Infix) (count : ℕ) (next : Tree → Reading Tree) → fits_left p op x ≡ true → longer rec p x op (drop count m) ≡ Some (y, n) → closes p y n ≡ true
      → turn rec p x (Some (op, count)) next m ≡ next y n
  operated p x y m n op count next f r c = rw (f, r, c) refl

  step : (turns : ℕ) (p : Place) (l m n : List Tok) (x y : Tree) (op : Infix) (count : ℕ) → weight m < turns → at_place rec p l ≡ climb rec p turns x m → fits_left p op x ≡ true → infix_at m ≡ Some (op, count)
      → takes p.level (level op) ≡ true → longer rec p x op (drop count m) ≡ Some (y, n) → closes p y n ≡ true → weight n < weight m → Climbs p l y n
  unfolding climb
  step zero p l m n x y op count b g f i t r c w = absurd (omega arith)
  step (suc turns) p l m n x y op count b g f i t r c w = record {
    turns = turns;
    few = omega arith;
    came = g ∙ (rw (next_is p x m op count f i t) (operated p x y m n op count (climb rec p turns) f r c));
  }

  infix_reads : (p : Place) (x y : Tree) (m n : List Tok) (op : Infix) → infix_stands p op m ≡ true → rec (at p (level op)) m ≡ Some (y, n) → ends_operation op n ≡ true → infix_read rec p x op m ≡ Some (infixed x op y, n)
  infix_reads p x y m n op g r a = rw (g, r, a) refl

  longer_infix : (p : Place) (x y : Tree) (m n : List Tok) (op : Infix) → infix_stands p op m ≡ true → rec (at p (level op)) m ≡ Some (y, n) → ends_operation op n ≡ true → longer rec p x op m ≡ Some (infixed x op y, n)
  unfolding longer infix_stands
  longer_infix p x y m n (inf.Range limits.HalfOpen) g r a = rw (not-true _ g, r, a) refl
  longer_infix p x y m n inf.Cast g r a = absurd cc
  longer_infix p x y m n d g r a = infix_reads p x y m n d g r a

  postfix_reads : (p : Place) (x : Tree) (q : Postfix) (n : List Tok) → postfix_stands p q n ≡ true → ends_operation (postfix_op q) n ≡ true → postfix_made rec p x q n ≡ Some (postfixed x q, n)
  postfix_reads p x q n g a = rw (g, a) refl

  longer_postfix : (p : Place) (x : Tree) (m n : List Tok) (q : Postfix) → postfix_behind q m ≡ Some n → postfix_stands p q n ≡ true → ends_operation (postfix_op q) n ≡ true → longer rec p x (postfix_op q) m ≡ Some (postfixed x q, n)
  unfolding longer postfix_stands
  longer_postfix p x m n (tr.cast ty) b g a = rw (heads.types.found m ty n b) (postfix_reads p x (tr.cast ty) n g a)
  longer_postfix p x m n (tr.range_from limits.HalfOpen) b g a =
      subst (λ z. longer rec p x (inf.Range limits.HalfOpen) z ≡ Some (postfixed x (tr.range_from limits.HalfOpen), n)) (sym (some_is b)) (rw (g, a) refl)
  longer_postfix p x m n (tr.range_from limits.Closed) b g a = absurd cc

  infix_closes : (p : Place) (x y : Tree) (op : Infix) (n : List Tok) → closes p (infixed x op y) n ≡ true
  unfolding closes
  infix_closes p x y op n = refl

  module _ (k : ℕ) (complete : (p : Place) (l n : List Tok) (x : Tree) → weight l < k → Stands p l x n → rec p l ≡ Some (x, n)) where
    comes : {p : Place} {l n : List Tok} {x : Tree} (d : Node p l x n) → weight l ≤ k → closes p x n ≡ true → Climbs p l x n
    comes (is_infixed {p = p} {l = l} {m = m} {n = n} {x = x} {y = y} {op = op} {count = count} d c f i t g r e q a) b v =
        let u = comes d b c in
        let w = node_less d in
        let z = operator_less m op count i in
        let o = node_less r in
        step u.turns p l m n x (infixed x op y) op count u.few u.came f i t
        (longer_infix p x y (drop count m) n op g (full rec k complete (at p (level op)) (drop count m) n y (omega (arith, w.less, z.less)) r e q) a) (infix_closes p x y op n) (omega (arith, z.less, o.less))
    comes (is_postfixed {p = p} {l = l} {m = m} {n = n} {x = x} {k = q} {count = count} d c f i t g s a) b v =
        let u = comes d b c in
        let z = less_then (operator_less m (postfix_op q) count i) (postfix_left q (drop count m) n g) in
        step u.turns p l m n x (postfixed x q) (postfix_op q) count u.few u.came f i t (longer_postfix p x (drop count m) n q g s a) v z.less
    comes (is_attributed_verbatim {p = p} {l = l} {n = n} {us = us} a more fs w d i j) b c = from_operand p l n (leaf (tr.verbatim us)) (operand_comes k complete (is_attributed_verbatim a more fs w d i j) b refl c)
    comes (is_attributed_by {p = p} {l = l} {n = n} {a = a} {more = more} {x = x} w f d) b c = from_operand p l n (attributed a more x) (operand_comes k complete (is_attributed_by w f d) b refl c)
    comes (is_leaf {p = p} {l = l} {n = n} {k = f} h g) b c = from_operand p l n (leaf f) (operand_comes k complete (is_leaf h g) b refl c)
    comes (is_become {p = p} {l = l} {n = n} {ts = ts} w d e v i) b c = from_operand p l n (leaf (tr.verbatim ts)) (operand_comes k complete (is_become w d e v i) b refl c)
    comes (is_paren {p = p} {i = i} {n = n} {x = x} d e v) b c = from_operand p (group del.Parenthesis i ∷ n) n (paren false x) (operand_comes k complete (is_paren d e v) b refl c)
    comes (is_prefixed {p = p} {l = l} {n = n} {k = f} {x = x} h g d e v) b c = from_operand p l n (prefixed f none x) (operand_comes k complete (is_prefixed h g d e v) b refl c)
    comes (is_tail {p = p} {l = l} {n = n} {x = x} {k = t} {ks = ks} d f a v i) b c = from_operand p l n (tail x t ks) (operand_comes k complete (is_tail d f a v i) b refl c)
    comes (is_indexed {p = p} {l = l} {n = n} {x = x} d f a j) b c = from_operand p l n x (operand_comes k complete (is_indexed d f a j) b refl c)
    comes (is_frame {p = p} {l = l} {n = n} {k = f} {ks = ks} a v g e) b c = from_operand p l n (frame f ks) (operand_comes k complete (is_frame a v g e) b refl c)

    climb_ends : (p : Place) (turns : ℕ) (x : Tree) (n : List Tok) → weight n < turns → ends p x n ≡ true → climb rec p turns x n ≡ Some (x, n)
    unfolding climb stop
    climb_ends p zero x n f h = absurd (omega arith)
    climb_ends p (suc turns) x n f h = rw (ends_next p x n h, h) refl

    pub at_place_complete : (p : Place) (l n : List Tok) (x : Tree) → weight l ≤ k → Stands p l x n → at_place rec p l ≡ Some (x, n)
    at_place_complete p l n x b s =
        let c = comes s.node b s.closing in
        c.came ∙ climb_ends p c.turns x n c.few s.ending

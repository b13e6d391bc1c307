-- Frames, parentheses and what comes before an operand: what stands is read.
use Rattle.std.specs.Prelude.{not, ◌&&◌, if◌then◌else◌}
use Rattle.std.proofs.Math.Bool.{and-false}
use Rattle.std.proofs.Common.{◌≡◌, ℕ, ◌<◌, ◌≤◌, Bool, true, false, List, [], ◌∷◌, ◌++◌, drop, codes, Option, Some, None, refl, ap, sym, ◌∙◌, subst, arith}
use Rattle.std.proofs.lemmas.Bool.{or_parts, and_parts, not-true}
use Rattle.syn_lexer.specs.declared.front.Delimiter.TheVariants as del
use Rattle.syn_lexer.specs.declared.front.Delimiter.{Delimiter}
use Rattle.syn_tokens.specs.Tok.{Tok, Inside, ident, group, toks, weight}
use Rattle.syn_tokens.specs.Front.{group_at, is_empty}
use Rattle.syn_lower_spec.specs.Text.{Text}
use Rattle.syn_lower_spec.specs.Form.{and_then}
use Rattle.syn_lower_spec.specs.Mark.{sign_at, word_at, brace_at, round_at, pound}
use Rattle.syn_lower_spec.specs.Tree.{QSelfTree, PathTree}
use Rattle.syn_lower_spec.specs.Part.{QPathTree, is_bare, macro_end}
use Rattle.syn_lower_spec.specs.Pat.{PatTree}
use Rattle.syn_lower_spec.proofs.Same.{same_toks-refl}
use Rattle.syn_lower_spec.proofs.Weights.{some_is}
use Rattle.syn_lower_spec.proofs.Forms.{behind_some}
use Rattle.syn_expr_spec.specs.declared.kinds.Place.{Place}
use Rattle.syn_expr_spec.specs.Place.{plain}
use Rattle.syn_expr_spec.specs.Front.{trailer_at, bracket_at, question_at, dot_at, three_dots_at, left_arrow_at}
use Rattle.syn_expr_spec.specs.Op.{goes_on, infix_at}
use Rattle.syn_expr_spec.specs.Tree as tr
use Rattle.syn_expr_spec.specs.Tree.{Tree, Children, Prefix, Frame, Piece, Ending, ClosureHead, leaf, paren, prefixed, frame, none, child}
use Rattle.syn_expr_spec.specs.Head.{prefix_form, closure_head, named, to_named, label}
use Rattle.syn_expr_spec.specs.Slot as s
use Rattle.syn_expr_spec.specs.Slot.{elements, single, counted, after, piece_form, piece_place, ending_at, comma_or_end, frame_head, frame_holder, if_at, for_head, if_word, match_word, while_word, for_word}
use Rattle.syn_expr_spec.specs.Path.{is_word_alone, is_try_alone, goes_on_path, expr_path}
use Rattle.syn_expr_spec.specs.Stands.{Node, is_leaf, Content, holds_within, Operands, no_more, one_more, short, block, Stands, ends, closes, ends_piece, ends_list, short_value, takes_block, leaf_stands, prefix_stands, prefix_place, frame_stands, frame_ends}
use Rattle.syn_expr_spec.specs.Read.{Reading, become_word, prefix_read, named_read, structure_read, structured, standing, framed_by, bare_operands, round_read, rounded, bracket_read, bracket_inside, elements_by, loop_read, verbatim_from, atom, all_of}
use Rattle.syn_expr_spec.proofs.HeadMoves.{taken_is, tail_falls, ending_left, dropped, group_inside, frame_less}
use Rattle.syn_expr_spec.proofs.Chains.{only_some}
use Rattle.syn_expr_spec.proofs.Needs.{heads}
use Rattle.syn_expr_spec.proofs.Lesses.{node_less}
use Rattle.syn_expr_spec.proofs.Sound.{Element, element_is, empty_is, group_is, ends_a_piece}
use Rattle.syn_expr_spec.proofs.Fronts.{word_is, prefix_front, closure_front}
use Rattle.syn_expr_spec.proofs.GroupForms.{group_seen, no_front}
use Rattle.syn_expr_spec.proofs.SoundAtoms.{no_prefix, named_reads, named_read_is}
use Rattle.syn_expr_spec.proofs.NameFronts.{Named, group_named, group_words, expr_path_front, LoopFront, while_loop_front, for_loop_front, become_front, if_front, match_front, round_front, bracket_front, path_no_words}
use Rattle.syn_expr_spec.proofs.ReadAtoms.{Counted, prefixes, unnamed, grouped, unled_read, brace_no_macro, ends_is, none_is, comma_no_semi, counted_is, element_kind}
use Rattle.syn_expr_spec.proofs.ReadOperands.{there, full, bare_read, within_read, content_read}
use Rattle.syn_expr_spec.proofs.HeadForms.{no_leaf}

group_there : (d : Delimiter) (l : List Tok) (i n : List Tok) → group_at d l ≡ Some (i, n) → (j : Inside) × (l ≡ group d j ∷ n) × (toks j ≡ i)
group_there d l i n g = group_is d l i n g

structure_free : (p : Place) (q : QPathTree) (d : Bool) (ks : Children) → frame_stands p (tr.structure q.0 q.1 d) ks ≡ true → (p.condition ≡ false) × (is_try_alone q.0 q.1 ≡ false)
unfolding frame_stands
structure_free p q d ks g = or_parts p.condition (is_try_alone q.0 q.1) (not-true _ g)

pound_no_brace : (m i n : List Tok) → group_at del.Brace m ≡ Some (i, n) → pound.at m ≡ false
unfolding group_at sign_at
pound_no_brace (group d j ∷ m) i n g = refl
pound_no_brace _ i n g = absurd cc

for_first_no_while : (m : List Tok) → while_word.at (ident (codes "for") ∷ m) ≡ false
unfolding word_at
for_first_no_while m = refl

brace_there : (m i n : List Tok) → group_at del.Brace m ≡ Some (i, n) → brace_at m ≡ true
unfolding brace_at
brace_there m i n g = rw g refl

pick : {A : Type 0} (b c : Bool) (x y : A) → b ≡ true → c ≡ false → (if b && not c then x else y) ≡ x
pick b c x y g i = rw (g, i) refl

group_of_content : {l n : List Tok} {ks : Children} → Content (s.within del.Parenthesis elements false) l ks n → (j : Inside) × (l ≡ group del.Parenthesis j ∷ n)
group_of_content {l} {n} (holds_within {i = i} g d f) = let (j, v, w) = group_is del.Parenthesis l i n g in (j, v)

-- ---- the operand in an invisible group

done_is : {l o : List Tok} {ks : Children} → Operands s.done l ks o → l ≡ o
unfolding piece_form
done_is (no_more h) = refl
done_is (one_more a u d f g more) = absurd cc
done_is (short a u g more) = absurd cc
done_is (block a v g more) = absurd cc

pub record Grouped (l : List Tok) (x : Tree) (n : List Tok) : Type 0 where
  pub node : Node plain l x n
  pub ending : ends plain x n ≡ true
  pub closing : closes plain x n ≡ true

grouped_at : (q : Piece) (l m : List Tok) → (piece_form s.groups).behind q l ≡ Some m → (q ≡ tr.grouped) × (l ≡ m)
unfolding piece_form
grouped_at tr.grouped l m h = (refl, some_is h)
grouped_at _ l m h = absurd cc

grouped_by : (q : Piece) (l m h n o : List Tok) (c : Ending) (x : Tree) (ks : Children) → (q ≡ tr.grouped) × (l ≡ m) → Node (piece_place q) m x h → ends_piece q x h ≡ true → ending_at q x h ≡ Some (c, n)
    → Operands (after q) n ks o → Grouped l x o
unfolding ending_at
grouped_by tr.grouped l m h n o c x ks (v, w) d f g more =
    let (a, b) = and_parts (ends plain x h) (closes plain x h) f in
    let e : h ≡ o = ap (λ (r : Ending × List Tok). r.1) (some_is g) ∙ done_is more in
    record {
      node = subst (λ z. Node plain l x z) e (subst (λ z. Node plain z x h) (sym w) d);
      ending = subst (λ z. ends plain x z ≡ true) e a;
      closing = subst (λ z. closes plain x z ≡ true) e b;
    }
grouped_by _ l m h n o c x ks (v, w) d f g more = absurd cc

pub grouped_is : {l o : List Tok} {q : Piece} {c : Ending} {x : Tree} {ks : Children} → Operands s.groups l (child q c x ks) o → Grouped l x o
grouped_is {l} {o} {q} {c} {x} {ks} (one_more {m = m} {h = h} {n = n} a u d f g more) = grouped_by q l m h n o c x ks (grouped_at q l m a) d f g more
grouped_is {l} {o} {q} (short {m = m} {x = v} a u g more) = let (w, y) = grouped_at q l m a in let i : short_value tr.grouped ≡ Some v = subst (λ z. short_value z ≡ Some v) w u in absurd cc
grouped_is {l} {o} {q} (block {m = m} a v g more) = let (w, y) = grouped_at q l m a in let i : takes_block tr.grouped ≡ true = subst (λ z. takes_block z ≡ true) w v in absurd cc

-- a path that is the whole of a list is there
no_macro_left : (q : QPathTree) → (macro_end q).reads [] ≡ Some (None, [])
unfolding macro_end sign_at
no_macro_left q = rw (and-false (is_bare q)) refl

no_pound_left : pound.at [] ≡ false
unfolding sign_at
no_pound_left = refl

path_ends : (q : QSelfTree) (w : PathTree) → is_try_alone q w ≡ false → (leaf_stands plain (tr.path q w) [] ≡ true) × (ends plain (leaf (tr.path q w)) [] ≡ true) × (closes plain (leaf (tr.path q w)) [] ≡ true)
unfolding leaf_stands ends closes goes_on infix_at three_dots_at left_arrow_at trailer_at round_at bracket_at question_at dot_at brace_at group_at sign_at word_at
path_ends q w t = (rw (t, and-false (is_word_alone (codes "builtin") q w)) refl, refl, refl)

pub path_alone_stands : (q : QSelfTree) (w : PathTree) (i : List Tok) → (expr_path false).behind (q, w) i ≡ Some [] → is_try_alone q w ≡ false → Stands plain i (leaf (tr.path q w)) []
path_alone_stands q w i g t =
    let front = expr_path_front false (q, w) i [] g in
    let (no_try, no_builtin) = path_no_words false (q, w) i [] g t no_pound_left in
    let a = front.no_leaf no_try no_builtin in
    let path = (heads.paths false).found i (q, w) [] g in
    let name : named.reads i ≡ Some (tr.path q w, []) = named_read_is i [] [] (q, w) None path (no_macro_left (q, w)) in
    let (standing, ending, closing) = path_ends q w t in
    record {
      node = is_leaf (heads.leaves.sound i (tr.path q w) [] (named_reads i (no_leaf i a) (no_prefix i front.no_prefix) ∙ name)) standing;
      ending = ending;
      closing = closing;
    }

module _ (rec : Place → Reading Tree) (k : ℕ) (complete : (p : Place) (l n : List Tok) (x : Tree) → weight l < k → Stands p l x n → rec p l ≡ Some (x, n)) where
  framed_read : (p : Place) (f : Frame) (h n : List Tok) (ks : Children) → Content (frame_holder f) h ks n → weight h < k → frame_stands p f ks ≡ true → frame_ends p f ks n ≡ true → framed_by rec p f h ≡ Some (frame f ks, n)
  framed_read p f h n ks c b g e = rw (content_read rec k complete (frame_holder f) h n ks c b, e, g) refl

  -- ---- before an operand

  pub prefix_atom : (p : Place) (f : Prefix) (l m n : List Tok) (x : Tree) → prefix_form.behind f l ≡ Some m → prefix_stands p f m ≡ true → rec (prefix_place p f) m ≡ Some (x, n)
      → atom rec p l ≡ Some (prefixed f none x, n)
  unfolding prefix_read
  prefix_atom p f l m n x g s r =
      let a = prefix_front f l m g in
      prefixes rec p l (Some (prefixed f none x, n)) a.no_leaf a.prefixes (rw (heads.prefixes.found l f m g, s, r) refl)

  -- ---- in parentheses and brackets

  paren_content : (i : Inside) (n : List Tok) (x : Tree) → Node plain (toks i) x [] → ends plain x [] ≡ true → closes plain x [] ≡ true
      → Content (s.within del.Parenthesis elements false) (group del.Parenthesis i ∷ n) (child tr.element tr.no_ending x none) n
  unfolding group_at ending_at piece_form sign_at
  paren_content i n x d e c = holds_within {o = []} refl (one_more {k = tr.element} refl refl d (ends_a_piece tr.element x [] refl e c) refl (no_more refl)) refl

  rounds : (p : Place) (i : Inside) (n : List Tok) (q : Option (Tree × List Tok)) → round_read rec (group del.Parenthesis i ∷ n) ≡ q → atom rec p (group del.Parenthesis i ∷ n) ≡ q
  unfolding atom round_at group_at
  rounds p i n q g = let a = round_front i n in rw (a.no_leaf, a.no_prefix) g

  pub paren_atom : (p : Place) (i : Inside) (n : List Tok) (x : Tree) → weight (group del.Parenthesis i ∷ n) ≤ k → Node plain (toks i) x [] → ends plain x [] ≡ true → closes plain x [] ≡ true
      → atom rec p (group del.Parenthesis i ∷ n) ≡ Some (paren false x, n)
  unfolding round_read
  paren_atom p i n x b d e c =
      rounds p i n (Some (paren false x, n)) (rw (within_read rec k complete del.Parenthesis elements false (group del.Parenthesis i ∷ n) n (child tr.element tr.no_ending x none) (paren_content i n x d e c) b) refl)

  tuple_rounded : (p : Place) (ks : Children) → frame_stands p tr.tuple ks ≡ true → rounded rec ks ≡ frame tr.tuple ks
  unfolding frame_stands
  tuple_rounded p none g = refl
  tuple_rounded p (child q c x ks) g = rw (not-true _ g) refl

  tuple_atom : (p : Place) (i : Inside) (n : List Tok) (ks : Children) → Content (s.within del.Parenthesis elements false) (group del.Parenthesis i ∷ n) ks n → weight (group del.Parenthesis i ∷ n) ≤ k
      → frame_stands p tr.tuple ks ≡ true → atom rec p (group del.Parenthesis i ∷ n) ≡ Some (frame tr.tuple ks, n)
  unfolding round_read
  tuple_atom p i n ks c b g =
      rounds p i n (Some (frame tr.tuple ks, n)) (rw (within_read rec k complete del.Parenthesis elements false (group del.Parenthesis i ∷ n) n ks c b) (ap (λ z. Some (z, n)) (tuple_rounded p ks g)))

  brackets : (p : Place) (i : Inside) (n : List Tok) (x : Tree) → bracket_inside rec (toks i) ≡ Some x → atom rec p (group del.Bracket i ∷ n) ≡ Some (x, n)
  unfolding atom round_at bracket_at group_at bracket_read
  brackets p i n x g = let a = bracket_front i n in rw (a.no_leaf, a.no_prefix, g) refl

  bracket_end : (m r : List Tok) (c : Ending) (x : Tree) (ks : Children) → comma_or_end m ≡ Some (c, r) → bare_operands rec elements r ≡ Some (ks, []) → all_of (elements_by rec x m) ≡ Some (frame tr.array (child tr.element c x ks))
  unfolding ending_at
  bracket_end m r c x ks a b = rw (a, b) refl

  array_of : (l : List Tok) (c : Ending) (x : Tree) (ks : Children) → Element l c x ks [] → weight l < k → bracket_inside rec l ≡ Some (frame tr.array (child tr.element c x ks))
  unfolding ending_at
  array_of l c x ks a b =
      let f = full rec k complete plain l a.middle x b a.node a.ending a.closing in
      let i = node_less a.node in
      let j = tail_falls (ending_left tr.element x a.middle c a.rest a.behind) in
      let r = bare_read rec k complete elements a.rest [] ks a.more (omega (arith, i.less, j)) in
      rw (there (node_less a.node), f, comma_no_semi a.middle a.rest c a.behind) (bracket_end a.middle a.rest c x ks a.behind r)

  array_inside : (l : List Tok) (ks : Children) → Operands elements l ks [] → weight l < k → bracket_inside rec l ≡ Some (frame tr.array ks)
  array_inside l none d b = let (g, v) = none_is d in rw g refl
  array_inside l (child q c x ks) d b = array_of l c x ks (element_is d) b ∙ ap (λ z. Some (frame tr.array (child z c x ks))) (sym (element_kind d))

  repeat_of : (l : List Tok) (q : Piece) (c : Ending) (x : Tree) (ks : Children) → Counted l q c x ks [] → weight l < k → bracket_inside rec l ≡ Some (frame tr.repeat (child q c x ks))
  repeat_of l q c x ks a b =
      let f = full rec k complete plain l a.middle x b a.node a.ending a.closing in
      let i = node_less a.node in
      let r = bare_read rec k complete single (drop 1 a.middle) [] ks a.more (omega (arith, i.less, tail_falls (dropped 1 a.middle))) in
      rw (there (node_less a.node), f, a.semicolon, r) (ap (λ (z : Piece × Ending). Some (frame tr.repeat (child z.0 z.1 x ks))) (pair_is a.kind a.none_behind))
    where
      pair_is : q ≡ tr.repeated → c ≡ tr.no_ending → ◌≡◌ {A = Piece × Ending} (tr.repeated, tr.no_ending) (q, c)
      pair_is v w = rw (v, w) refl

  repeat_inside : (l : List Tok) (ks : Children) → Operands counted l ks [] → weight l < k → bracket_inside rec l ≡ Some (frame tr.repeat ks)
  repeat_inside l none d b = let (g, v) = none_is d in absurd cc
  repeat_inside l (child q c x ks) d b = repeat_of l q c x ks (counted_is d) b

  array_atom : (p : Place) (l n : List Tok) (ks : Children) → Content (s.within del.Bracket elements false) l ks n → weight l ≤ k → atom rec p l ≡ Some (frame tr.array ks, n)
  array_atom p l n ks (holds_within {i = i} {o = o} g d f) b =
      let (j, v, w) = group_is del.Bracket l i n g in
      let t = group_inside del.Bracket l i n g in
      let e : bracket_inside rec i ≡ Some (frame tr.array ks) = array_inside i ks (subst (λ z. Operands elements i ks z) (empty_is o f) d) (omega arith) in
      subst (λ z. atom rec p z ≡ Some (frame tr.array ks, n)) (sym v) (brackets p j n (frame tr.array ks) (subst (λ z. bracket_inside rec z ≡ Some (frame tr.array ks)) (sym w) e))

  repeat_atom : (p : Place) (l n : List Tok) (ks : Children) → Content (s.within del.Bracket counted false) l ks n → weight l ≤ k → atom rec p l ≡ Some (frame tr.repeat ks, n)
  repeat_atom p l n ks (holds_within {i = i} {o = o} g d f) b =
      let (j, v, w) = group_is del.Bracket l i n g in
      let t = group_inside del.Bracket l i n g in
      let e : bracket_inside rec i ≡ Some (frame tr.repeat ks) = repeat_inside i ks (subst (λ z. Operands counted i ks z) (empty_is o f) d) (omega arith) in
      subst (λ z. atom rec p z ≡ Some (frame tr.repeat ks, n)) (sym v) (brackets p j n (frame tr.repeat ks) (subst (λ z. bracket_inside rec z ≡ Some (frame tr.repeat ks)) (sym w) e))

  round_atom : (p : Place) (l n : List Tok) (ks : Children) → Content (s.within del.Parenthesis elements false) l ks n → weight l ≤ k → frame_stands p tr.tuple ks ≡ true → atom rec p l ≡ Some (frame tr.tuple ks, n)
  round_atom p l n ks c b g =
      let (j, v) = group_of_content c in
      subst (λ z. atom rec p z ≡ Some (frame tr.tuple ks, n)) (sym v)
      (tuple_atom p j n ks (subst (λ z. Content (s.within del.Parenthesis elements false) z ks n) v c) (subst (λ z. weight z ≤ k) v b) g)

  -- ---- struct expressions

  structure_inside : (p : Place) (q : QPathTree) (d : Bool) (l i n o : List Tok) (ks : Children) → group_at del.Brace l ≡ Some (i, n) → bare_operands rec s.fields i ≡ Some (ks, o) → ends_list d o ≡ true
      → frame_stands p (tr.structure q.0 q.1 d) ks ≡ true → structure_read rec p q l ≡ Some (frame (tr.structure q.0 q.1 d) ks, n)
  structure_inside p q d l i n o ks a b e g =
      let v : d ≡ not (is_empty o) = ends_is d o e in
      rw (a, b) (subst (λ z. structured rec p q z o ks n ≡ Some (frame (tr.structure q.0 q.1 d) ks, n)) v (rw (e, g) refl))

  structure_atom : (p : Place) (q : QPathTree) (d : Bool) (l m n : List Tok) (ks : Children) → (expr_path true).behind q l ≡ Some m → Content (s.within del.Brace s.fields d) m ks n → weight m < k
      → frame_stands p (tr.structure q.0 q.1 d) ks ≡ true → atom rec p l ≡ Some (frame (tr.structure q.0 q.1 d) ks, n)
  unfolding named_read
  structure_atom p q d l m n ks a (holds_within {i = i} {o = o} g c f) b t =
      let (u, v) = structure_free p q d ks t in
      let front = expr_path_front true q l m a in
      let (no_try, no_builtin) = path_no_words true q l m a v (pound_no_brace m i n g) in
      let reading : (expr_path (not p.condition)).reads l ≡ Some (q, m) = rw u ((heads.paths true).found l q m a) in
      let (j, w, y) = group_is del.Brace m i n g in
      let r = structure_inside p q d m i n o ks g (bare_read rec k complete s.fields i o ks c (omega (arith, group_inside del.Brace m i n g))) f t in
      let e : (macro_end q).reads m ≡ Some (None, m) = subst (λ z. (macro_end q).reads z ≡ Some (None, z)) (sym w) (brace_no_macro q j n) in
      unnamed rec p l m q (Some (frame (tr.structure q.0 q.1 d) ks, n)) (front.no_leaf no_try no_builtin) front reading
      (rw (reading, e) (pick (brace_at m) p.condition (structure_read rec p q m) (standing p (to_named (q, None)) m) (brace_there m i n g) u ∙ r))

  -- ---- invisible groups

  -- no path begins with a group whose operand stands alone there
  no_path : (p : Place) (q : QPathTree) (i n : List Tok) (ks : Children) → (expr_path false).behind q i ≡ Some [] → goes_on_path (not p.condition) q n ≡ true → Operands s.groups i ks []
      → frame_ends p tr.group_expr ks n ≡ true → weight i < k → ⊥
  unfolding frame_ends
  no_path p q i n none a u d e b = let (g, v) = none_is d in absurd cc
  no_path p (q, w) i n (child c f x ks) a u d e b =
      let g = grouped_is d in
      let t = not-true (is_try_alone q w) (and_parts (not (is_try_alone q w)) _ u).0 in
      let s = path_alone_stands q w i a t in
      let same : x ≡ leaf (tr.path q w) = ap (λ (z : Tree × List Tok). z.0) (some_is (sym (full rec k complete plain i [] x b g.node g.ending g.closing) ∙ complete plain i [] (leaf (tr.path q w)) b s)) in
      let o : frame_ends p tr.group_expr (child c f (leaf (tr.path q w)) ks) n ≡ true = subst (λ z. frame_ends p tr.group_expr (child c f z ks) n ≡ true) same e in
      absurd (cc (o, u))

  group_atom : (p : Place) (l n : List Tok) (ks : Children) → Content (s.within del.None s.groups false) l ks n → weight l ≤ k → frame_ends p tr.group_expr ks n ≡ true
      → atom rec p l ≡ Some (frame tr.group_expr ks, n)
  unfolding frame_stands
  group_atom p l n ks (holds_within {i = i} {o = o} g d f) b e =
      let (j, v, w) = group_is del.None l i n g in
      let t = group_inside del.None l i n g in
      let front : Named l = subst (λ z. Named z) (sym v) (group_named j n) in
      let seen = group_seen l i n g in
      let (no_try, no_builtin) = group_words l seen in
      let all : Operands s.groups i ks [] = subst (λ z. Operands s.groups i ks z) (empty_is o f) d in
      grouped rec p l (Some (frame tr.group_expr ks, n)) (front.no_leaf no_try no_builtin) front seen
      (no_front (not p.condition) l i n g (λ q a u. no_path p q i n ks a u all e (omega (arith, t))))
      (rw (within_read rec k complete del.None s.groups false l n ks (holds_within g d f) b, e) refl)

  -- ---- frames without a delimiter

  ifs : (p : Place) (l : List Tok) (q : Option (Tree × List Tok)) → if_word.at l ≡ true → framed_by rec p tr.if_expr (drop 1 l) ≡ q → atom rec p l ≡ q
  unfolding atom
  ifs p l q g r = let a = if_front l g in rw (a.front.no_leaf, a.front.no_prefix, a.front.no_round, a.front.no_bracket, a.no_become, g) r

  matches : (p : Place) (l : List Tok) (q : Option (Tree × List Tok)) → match_word.at l ≡ true → framed_by rec p tr.match_expr (drop 1 l) ≡ q → atom rec p l ≡ q
  unfolding atom
  matches p l q g r = let a = match_front l g in rw (a.front.no_leaf, a.front.no_prefix, a.front.no_round, a.front.no_bracket, a.no_become, a.no_if, a.no_loop, g) r

  loop_reads : (p : Place) (l : List Tok) (q : Option (Tree × List Tok)) → LoopFront l → loop_read rec p l ≡ q → atom rec p l ≡ q
  unfolding atom
  loop_reads p l q a r = rw (a.no_leaf, a.no_prefix, a.no_round, a.no_bracket, a.no_become, a.no_if, a.loops) r

  while_read : (p : Place) (w : Option Text) (l m : List Tok) (q : Option (Tree × List Tok)) → label.behind w l ≡ Some m → while_word.at m ≡ true → framed_by rec p (tr.while_loop w) (drop 1 m) ≡ q → loop_read rec p l ≡ q
  unfolding loop_read
  while_read p w l m q a b r = rw (heads.labels.found l w m a, b) r

  for_read : (p : Place) (w : Option Text) (x : PatTree) (l m h : List Tok) (q : Option (Tree × List Tok)) → label.behind w l ≡ Some m → while_word.at m ≡ false → for_head.behind x m ≡ Some h
      → framed_by rec p (tr.for_loop w x) h ≡ q → loop_read rec p l ≡ q
  unfolding loop_read
  for_read p w x l m h q a b c r = rw (heads.labels.found l w m a, b, heads.fors.found m x h c) r

  for_no_while : (m : List Tok) → for_word.at m ≡ true → while_word.at m ≡ false
  for_no_while m g = let (a, b) = and_parts (word_at (codes "for") m) _ g in subst (λ z. while_word.at z ≡ false) (sym (word_is (codes "for") m a)) (for_first_no_while (drop 1 m))

  closure_atom : (p : Place) (f : ClosureHead) (l m : List Tok) (q : Option (Tree × List Tok)) → closure_head.behind f l ≡ Some m → prefix_stands p (tr.closure f) m ≡ false → framed_by rec p (tr.closure_block f) m ≡ q → atom rec p l ≡ q
  closure_atom p f l m q a b r =
      let c = closure_front f l m a in
      let d = c.closures f ∙ a in
      let g = prefix_front (tr.closure f) l m d in
      prefixes rec p l q g.no_leaf g.prefixes (unled_read rec p (tr.closure f) l m q d b r)

  no_prefix_stands : (p : Place) (f : ClosureHead) (m : List Tok) (ks : Children) → frame_stands p (tr.closure_block f) ks ≡ true → prefix_stands p (tr.closure f) m ≡ false
  unfolding frame_stands prefix_stands
  no_prefix_stands p f m ks g = not-true _ g

  pub frame_atom : (p : Place) (f : Frame) (l h n : List Tok) (ks : Children) → frame_head f l ≡ Some h → Content (frame_holder f) h ks n → weight l ≤ k → frame_stands p f ks ≡ true → frame_ends p f ks n ≡ true → atom rec p l ≡ Some (frame f ks, n)
  frame_atom p tr.array l h n ks a c b g e = array_atom p l n ks (subst (λ z. Content (s.within del.Bracket elements false) z ks n) (sym (some_is a)) c) b
  frame_atom p tr.tuple l h n ks a c b g e = round_atom p l n ks (subst (λ z. Content (s.within del.Parenthesis elements false) z ks n) (sym (some_is a)) c) b g
  frame_atom p tr.repeat l h n ks a c b g e = repeat_atom p l n ks (subst (λ z. Content (s.within del.Bracket counted false) z ks n) (sym (some_is a)) c) b
  frame_atom p (tr.structure q w d) l h n ks a c b g e = let u = frame_less (tr.structure q w d) l h refl a in structure_atom p (q, w) d l h n ks a c (omega (arith, u.less)) g
  frame_atom p (tr.closure_block f) l h n ks a c b g e =
      let u = frame_less (tr.closure_block f) l h refl a in
      closure_atom p f l h (Some (frame (tr.closure_block f) ks, n)) a (no_prefix_stands p f h ks g) (framed_read p (tr.closure_block f) h n ks c (omega (arith, u.less)) g e)
  frame_atom p tr.if_expr l h n ks a c b g e =
      let u = frame_less tr.if_expr l h refl a in
      let (v, w) = only_some (if_word.at l) (Some (drop 1 l)) h a in
      ifs p l (Some (frame tr.if_expr ks, n)) v (subst (λ z. framed_by rec p tr.if_expr z ≡ Some (frame tr.if_expr ks, n)) (sym (some_is w)) (framed_read p tr.if_expr h n ks c (omega (arith, u.less)) g e))
  frame_atom p tr.match_expr l h n ks a c b g e =
      let u = frame_less tr.match_expr l h refl a in
      let (v, w) = only_some (match_word.at l) (Some (drop 1 l)) h a in
      matches p l (Some (frame tr.match_expr ks, n)) v (subst (λ z. framed_by rec p tr.match_expr z ≡ Some (frame tr.match_expr ks, n)) (sym (some_is w)) (framed_read p tr.match_expr h n ks c (omega (arith, u.less)) g e))
  frame_atom p (tr.while_loop x) l h n ks a c b g e =
      let u = frame_less (tr.while_loop x) l h refl a in
      let (m, i, j) = behind_some (label.behind x l) (if_at while_word) h a in
      let (v, w) = only_some (while_word.at m) (Some (drop 1 m)) h j in
      loop_reads p l (Some (frame (tr.while_loop x) ks, n)) (while_loop_front x l m i v) (while_read p x l m (Some (frame (tr.while_loop x) ks, n)) i v
      (subst (λ z. framed_by rec p (tr.while_loop x) z ≡ Some (frame (tr.while_loop x) ks, n)) (sym (some_is w)) (framed_read p (tr.while_loop x) h n ks c (omega (arith, u.less)) g e)))
  frame_atom p (tr.for_loop x y) l h n ks a c b g e =
      let u = frame_less (tr.for_loop x y) l h refl a in
      let (m, i, j) = behind_some (label.behind x l) (for_head.behind y) h a in
      let (v, w) = only_some (for_word.at m) _ h j in
      loop_reads p l (Some (frame (tr.for_loop x y) ks, n)) (for_loop_front x l m i v) (for_read p x y l m h (Some (frame (tr.for_loop x y) ks, n)) i (for_no_while m v) j
      (framed_read p (tr.for_loop x y) h n ks c (omega (arith, u.less)) g e))
  frame_atom p tr.group_expr l h n ks a c b g e = group_atom p l n ks (subst (λ z. Content (s.within del.None s.groups false) z ks n) (sym (some_is a)) c) b e

  -- ---- `become`

  becomes : (p : Place) (l n : List Tok) (q : Option (Tree × List Tok)) → become_word.at l ≡ true → and_then (rec plain (drop 1 l)) (verbatim_from rec l) ≡ q → atom rec p l ≡ q
  unfolding atom
  becomes p l n q g r = let a = become_front l g in rw (a.no_leaf, a.no_prefix, a.no_round, a.no_bracket, g) r

  verbatim_is : (l n ts : List Tok) (x : Tree) → l ≡ ts ++ n → verbatim_from rec l x n ≡ Some (leaf (tr.verbatim ts), n)
  verbatim_is l n ts x g = subst (λ z. verbatim_from rec z x n ≡ Some (leaf (tr.verbatim ts), n)) (sym g) (rw (taken_is ts n, same_toks-refl (ts ++ n)) refl)

  pub become_atom : (p : Place) (l n ts : List Tok) (x : Tree) → become_word.at l ≡ true → rec plain (drop 1 l) ≡ Some (x, n) → l ≡ ts ++ n → atom rec p l ≡ Some (leaf (tr.verbatim ts), n)
  become_atom p l n ts x w r g = becomes p l n (Some (leaf (tr.verbatim ts), n)) w (rw r (verbatim_is l n ts x g))

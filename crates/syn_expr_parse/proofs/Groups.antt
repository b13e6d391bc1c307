-- Paths and invisible groups are read in their parts.
use Rattle.std.specs.Prelude.{not, ◌&&◌}
use Rattle.std.proofs.Common.{◌≡◌, ℕ, suc, Bool, true, false, cond, List, [], ◌∷◌, Option, Some, None, refl, ap, sym, ◌∙◌, subst, arith}
use Rattle.std.proofs.lemmas.Bool.{not-true, and_parts}
use Rattle.syn_lexer.specs.declared.front.Delimiter.TheVariants as del
use Rattle.syn_tokens.specs.Tok.{Tok, Inside, group as group_tok, toks, weight}
use Rattle.syn_lower_spec.specs.Pat.{an_index}
use Rattle.syn_tokens.specs.Front.{group_at}
use Rattle.syn_lower_spec.specs.declared.label.PathStyle.TheVariants as style
use Rattle.syn_lower_spec.specs.Tree.{QSelfTree, PathTree, SegmentTree}
use Rattle.syn_lower_spec.specs.Form.{Outcome, and_then, whole, more, extend_more, gathered_more}
use Rattle.syn_lower_spec.specs.Mark.{colon2, not_ne}
use Rattle.syn_lower_spec.specs.Part.{QPathTree, is_bare, macro_end, segment, type}
use Rattle.syn_lower_spec.proofs.Weights.{some_is}
use Rattle.syn_lower_spec.proofs.Forms.{behind_some}
use Rattle.syn_expr_spec.specs.declared.kinds.Place.{Place}
use Rattle.syn_expr_spec.specs.Place.{plain}
use Rattle.syn_expr_spec.specs.Path.{is_try_alone, invisible_at, goes_on_path, to_path, expr_path}
use Rattle.syn_expr_spec.specs.Head.{leaf_form, named as named_form}
use Rattle.syn_expr_spec.specs.Slot as s
use Rattle.syn_expr_spec.specs.Slot.{piece_form, ending_at}
use Rattle.syn_expr_spec.specs.Tree as e
use Rattle.syn_expr_spec.specs.Tree.{Tree, Children, Leaf, leaf, tail, none, child}
use Rattle.syn_expr_spec.specs.Stands.{Node, Content, Operands, holds_within, one_more, no_more, is_leaf, is_indexed, fields_of, frame_stands, frame_ends}
use Rattle.syn_expr_spec.specs.Read.{content, named_read, framed_by, group_read, expr}
use Rattle.syn_expr_spec.proofs.Needs.{heads}
use Rattle.syn_expr_spec.proofs.Exact.{expr_sound, expr_complete}
use Rattle.syn_expr_spec.proofs.GroupForms.{invisible_is, plain_read, no_front, extended_front, path_closed}
use Rattle.syn_expr_spec.proofs.NameFronts.{path_named}
use Rattle.syn_expr_spec.proofs.Sound.{content_sound, empty_is, ends_a_piece}
use Rattle.syn_expr_spec.proofs.ReadOperands.{within_read}
use Rattle.syn_expr_spec.proofs.ReadAtoms.{none_is}
use Rattle.syn_expr_spec.proofs.ReadFrames.{grouped_is, path_alone_stands}
use Rattle.syn_expr_parse.specs.Kind.{is_path}
use Rattle.syn_expr_parse.specs.Groups.{behind_path, named, extended, in_group, behind_group, group, closed_path}

-- ---- a path that no group begins

pub named_read_is : (p : Place) (l : List Tok) → invisible_at l ≡ false → named_read expr p l ≡ named p l
unfolding named_read named behind_path
named_read_is p l v = rw (plain_read (not p.condition) l v) refl

-- ---- segments that go on a path

pub extended_is : (p : Place) (q : QPathTree) (l : List Tok) → extended p q l
    ≡ and_then (gathered_more colon2 (segment type style.Expr) q.1.segments l) (λ ss m. behind_path p (q.0, record { leading = q.1.leading; segments = ss; trailing = q.1.trailing }) m)
unfolding extended gathered_more
extended_is p (q, w) l = by ((more colon2 (segment type style.Expr)).reads l)
  where
    by : (o : Outcome (List SegmentTree)) → and_then o (λ ss m. behind_path p (to_path ((q, w), ss)) m)
        ≡ and_then (extend_more w.segments o) (λ ss m. behind_path p (q, record { leading = w.leading; segments = ss; trailing = w.trailing }) m)
    by None = refl
    by (Some r) = refl

pub ruleset segments = (extended_is)

-- ---- after a group

pub no_path : (p : Place) (x : Tree) (n : List Tok) → is_path x ≡ false → behind_group p x n ≡ Some (in_group x, n)
no_path p (leaf (e.path q w)) n h = absurd cc
no_path p t n h = refl

pub ruleset closed = (no_path, not-true)

-- ---- a group

fields_no_leaf : (b : Tree) (i : ℕ) (is : List ℕ) (k : Leaf) → fields_of b (i ∷ is) ≡ leaf k → ⊥
fields_no_leaf b i [] k h = absurd cc
fields_no_leaf b i (j ∷ is) k h = fields_no_leaf (tail b (e.field (an_index i)) none) j is k h

-- what is no path ends anywhere
ends_by : (p : Place) (x : Tree) (n : List Tok) → is_path x ≡ false → frame_ends p e.group_expr (child e.grouped e.no_ending x none) n ≡ true
unfolding frame_ends
ends_by p (leaf (e.path q w)) n h = absurd cc
ends_by p t n h = refl

path_ends : (p : Place) (q : QSelfTree) (w : PathTree) (n : List Tok) → frame_ends p e.group_expr (child e.grouped e.no_ending (leaf (e.path q w)) none) n ≡ not (goes_on_path (not p.condition) (q, w) n)
unfolding frame_ends
path_ends p q w n = refl

leaf_is : (k j : Leaf) → leaf k ≡ leaf j → k ≡ j
leaf_is k j h = cc

path_node : {p : Place} {l n : List Tok} {x : Tree} → Node p l x n → (q : QSelfTree) (w : PathTree) → x ≡ leaf (e.path q w) → leaf_form.behind (e.path q w) l ≡ Some n
path_node (is_leaf {l = l} {n = n} {k = k} f g) q w h = subst (λ z. leaf_form.behind z l ≡ Some n) (leaf_is k (e.path q w) h) f
path_node (is_indexed {b = b} {i = j} {is = is} d f u v) q w h = absurd (fields_no_leaf b j is (e.path q w) (sym v ∙ h))
path_node _ q w h = absurd cc

-- the path that is the whole of a list
path_inside : (i : List Tok) (q : QSelfTree) (w : PathTree) → expr plain i ≡ Some (leaf (e.path q w), []) → (expr_path false).reads i ≡ Some ((q, w), [])
unfolding named_form macro_end
path_inside i q w h =
    let s = expr_sound plain i (leaf (e.path q w)) [] h in
    let (m, a, b) = behind_some ((expr_path false).behind (q, w) i) ((macro_end (q, w)).behind None) [] (path_named q w i [] (path_node s.node q w refl)) in
    (heads.paths false).found i (q, w) [] (subst (λ z. (expr_path false).behind (q, w) i ≡ Some z) (by_end (is_bare (q, w) && not_ne.at m) m b) a)
  where
    by_end : (b : Bool) (m : List Tok) → cond {A = Option (List Tok)} b None (Some m) ≡ Some [] → m ≡ []
    by_end true m j = absurd cc
    by_end false m j = some_is j

tail_no_end : {t : Tok} {r : List Tok} → t ∷ r ≡ [] → ⊥
tail_no_end h = absurd cc

module _ (l i n : List Tok) (g : group_at del.None l ≡ Some (i, n)) where
  holding : (x : Tree) → expr plain i ≡ Some (x, []) → Content (s.within del.None s.groups false) l (child e.grouped e.no_ending x none) n
  unfolding piece_form ending_at
  holding x h =
      let a = expr_sound plain i x [] h in
      holds_within {o = []} g (one_more {k = e.grouped} refl refl a.node (ends_a_piece e.grouped x [] refl a.ending a.closing) refl (no_more refl)) refl

  held : (x : Tree) → expr plain i ≡ Some (x, []) → content expr (s.within del.None s.groups false) l ≡ Some (child e.grouped e.no_ending x none, n)
  held x h = within_read expr (suc (weight l)) (λ p m o y b t. expr_complete p m y o t) del.None s.groups false l n (child e.grouped e.no_ending x none) (holding x h) (omega arith)

  alone : (ks : Children) (m : List Tok) → content expr (s.within del.None s.groups false) l ≡ Some (ks, m) → (x : Tree) × (expr plain i ≡ Some (x, []))
  alone ks m h = by_content (content_sound heads expr expr_sound (s.within del.None s.groups false) l (ks, m) h)
    where
      by_children : (ks : Children) → Operands s.groups i ks [] → (x : Tree) × (expr plain i ≡ Some (x, []))
      by_children none d = let (a, b) = none_is d in absurd cc
      by_children (child q c x ks) d = let a = grouped_is d in (x, expr_complete plain i x [] (record { node = a.node; ending = a.ending; closing = a.closing }))

      by_content : Content (s.within del.None s.groups false) l ks m → (x : Tree) × (expr plain i ≡ Some (x, []))
      by_content (holds_within {i = j} {o = o} f d b) =
          let same : j ≡ i = ap (λ (z : List Tok × List Tok). z.0) (some_is (sym f ∙ g)) in
          by_children ks (subst (λ z. Operands s.groups z ks []) same (subst (λ z. Operands s.groups j ks z) (empty_is o b) d))

  -- where nothing is read inside, no path is
  no_held : (braces : Bool) → ((x : Tree) → expr plain i ≡ Some (x, []) → ⊥) → (expr_path braces).reads l ≡ None
  no_held braces f =
      no_front braces l i n g (λ q a h.
      let u = and_parts (not (is_try_alone q.0 q.1)) _ h in
      f (leaf (e.path q.0 q.1)) (expr_complete plain i (leaf (e.path q.0 q.1)) [] (path_alone_stands q.0 q.1 i a (not-true (is_try_alone q.0 q.1) u.0))))

  framed_is : (p : Place) (x : Tree) (b : Bool) → expr plain i ≡ Some (x, []) → frame_ends p e.group_expr (child e.grouped e.no_ending x none) n ≡ b
      → framed_by expr p e.group_expr l ≡ cond b (Some (in_group x, n)) None
  unfolding frame_stands
  framed_is p x true h k = rw (held x h, k) refl
  framed_is p x false h k = rw (held x h, k) refl

  framed_none : (p : Place) → ((x : Tree) → expr plain i ≡ Some (x, []) → ⊥) → framed_by expr p e.group_expr l ≡ None
  framed_none p f = by_content (content expr (s.within del.None s.groups false) l) refl
    where
      by_content : (o : Outcome Children) → content expr (s.within del.None s.groups false) l ≡ o → framed_by expr p e.group_expr l ≡ None
      by_content None h = rw h refl
      by_content (Some z) h = let (x, j) = alone z.0 z.1 h in absurd (f x j)

  by_frame : (p : Place) (o : Option (Tree × List Tok)) → (expr_path (not p.condition)).reads l ≡ None → framed_by expr p e.group_expr l ≡ o → group_read expr p l ≡ o
  unfolding group_read
  by_frame p o h k = rw h k

  by_path : (p : Place) (q : QPathTree) (m : List Tok) → (expr_path (not p.condition)).reads l ≡ Some (q, m) → group_read expr p l ≡ behind_path p q m
  unfolding group_read named_read behind_path
  by_path p q m h = rw h refl

  -- no other path is in the group
  only_path : (x : Tree) (q : QPathTree) → expr plain i ≡ Some (x, []) → (expr_path false).behind q i ≡ Some [] → is_try_alone q.0 q.1 ≡ false → x ≡ leaf (e.path q.0 q.1)
  only_path x q h a u = ap (λ (z : Tree × List Tok). z.0) (some_is (sym h ∙ expr_complete plain i (leaf (e.path q.0 q.1)) [] (path_alone_stands q.0 q.1 i a u)))

  group_opened : (p : Place) → group p l ≡ and_then (whole (expr plain i) n) (behind_group p)
  unfolding group
  group_opened p = rw g refl

  going_on : (p : Place) (q : QSelfTree) (w : PathTree) → expr plain i ≡ Some (leaf (e.path q w), []) → goes_on_path (not p.condition) (q, w) n ≡ true → group_read expr p l ≡ extended p (q, w) n
  unfolding extended
  going_on p q w h u = by_more ((more colon2 (segment type style.Expr)).reads n) refl
    where
      front : (expr_path (not p.condition)).reads l ≡ and_then ((more colon2 (segment type style.Expr)).reads n) (λ ss m. Some (to_path ((q, w), ss), m))
      front = extended_front (not p.condition) l i n (q, w) g (path_inside i q w h) u

      by_more : (o : Outcome (List SegmentTree)) → (more colon2 (segment type style.Expr)).reads n ≡ o → group_read expr p l ≡ and_then ((more colon2 (segment type style.Expr)).reads n) (λ ss m. behind_path p (to_path ((q, w), ss)) m)
      by_more None k = by_frame p None (front ∙ rw k refl) (framed_is p (leaf (e.path q w)) false h (path_ends p q w n ∙ rw u refl)) ∙ rw k refl
      by_more (Some z) k = by_path p (to_path ((q, w), z.0)) z.1 (front ∙ rw k refl) ∙ rw k refl

  ending_there : (p : Place) (x : Tree) → expr plain i ≡ Some (x, []) → frame_ends p e.group_expr (child e.grouped e.no_ending x none) n ≡ true
      → ((q : QPathTree) → (expr_path false).behind q i ≡ Some [] → goes_on_path (not p.condition) q n ≡ true → ⊥) → group_read expr p l ≡ Some (in_group x, n)
  ending_there p x h k f = by_frame p (Some (in_group x, n)) (no_front (not p.condition) l i n g f) (framed_is p x true h k)

  by_other : (p : Place) (x : Tree) → expr plain i ≡ Some (x, []) → is_path x ≡ false → group_read expr p l ≡ behind_group p x n
  by_other p x h k =
      ending_there p x h (ends_by p x n k) (λ r a c.
      let u = not-true (is_try_alone r.0 r.1) (and_parts (not (is_try_alone r.0 r.1)) _ c).0 in
      let same = only_path x r h a u in absurd (cc (k, ap is_path same))) ∙ sym (no_path p x n k)

  by_test : (p : Place) (x : Tree) → expr plain i ≡ Some (x, []) → group_read expr p l ≡ behind_group p x n
  by_test p (leaf (e.path q w)) h = by_goes (goes_on_path (not p.condition) (q, w) n) refl
    where
      by_goes : (b : Bool) → goes_on_path (not p.condition) (q, w) n ≡ b → group_read expr p l ≡ cond b (extended p (q, w) n) (Some (in_group (leaf (e.path q w)), n))
      by_goes true u = going_on p q w h u
      by_goes false u =
          ending_there p (leaf (e.path q w)) h (path_ends p q w n ∙ rw u refl) (λ r a c.
          let o = some_is (sym (path_inside i q w h) ∙ (heads.paths false).found i r [] a) in
          let same : (q, w) ≡ r = ap (λ (z : QPathTree × List Tok). z.0) o in
          absurd (cc (c, u, ap (λ z. goes_on_path (not p.condition) z n) same)))
  by_test p (leaf (e.lit k)) h = by_other p (leaf (e.lit k)) h refl
  by_test p t h = by_other p t h refl

  by_inside : (p : Place) (o : Outcome Tree) → expr plain i ≡ o → group_read expr p l ≡ and_then (whole o n) (behind_group p)
  by_inside p None h = by_frame p None (no_held (not p.condition) (λ x j. absurd (cc (h, j)))) (framed_none p (λ x j. absurd (cc (h, j))))
  by_inside p (Some (x, [])) h = by_test p x h
  by_inside p (Some (x, t ∷ r)) h =
      let f = λ (y : Tree) (j : expr plain i ≡ Some (y, [])). tail_no_end (ap (λ (z : Tree × List Tok). z.1) (some_is (sym h ∙ j))) in
      by_frame p None (no_held (not p.condition) f) (framed_none p f)

  is_group : (p : Place) → group_read expr p l ≡ group p l
  is_group p = by_inside p (expr plain i) refl ∙ sym (group_opened p)

group_there : (i : Inside) (n : List Tok) → group_at del.None (group_tok del.None i ∷ n) ≡ Some (toks i, n)
unfolding group_at
group_there i n = refl

pub group_is : (p : Place) (l : List Tok) → invisible_at l ≡ true → group_read expr p l ≡ group p l
group_is p l v =
    let (i, n, e) = invisible_is l v in
    is_group l (toks i) n (subst (λ z. group_at del.None z ≡ Some (toks i, n)) (sym e) (group_there i n)) p

-- ---- no `::` ends a path that is read

pub read_closed : (i : List Tok) (x : Tree) → expr plain i ≡ Some (x, []) → closed_path x ≡ true
read_closed i (leaf (e.path q w)) h = rw (path_closed false (q, w) i [] (path_inside i q w h)) refl
read_closed i t h = refl

pub ruleset groups = (read_closed)

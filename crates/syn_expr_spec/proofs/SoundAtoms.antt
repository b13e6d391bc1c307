-- What comes first, and trailers after it: what is read stands.
use Rattle.std.specs.Prelude.{not, ◌&&◌, if◌then◌else◌, is_some}
use Rattle.std.proofs.Common.{◌≡◌, Bool, true, false, cond, ⊎_elim, List, [], ◌∷◌, ◌++◌, drop, Option, Some, None, refl, ap, sym, ◌∙◌, subst}
use Rattle.std.proofs.lemmas.Bool.{and_parts, or_parts}
use Rattle.syn_lexer.specs.declared.front.Delimiter.TheVariants as del
use Rattle.syn_lexer.specs.declared.front.Delimiter.{Delimiter}
use Rattle.syn_tokens.specs.Tok.{Tok, group, toks}
use Rattle.syn_tokens.specs.Front.{group_at, is_empty}
use Rattle.syn_lower_spec.specs.Form.{Outcome, and_then}
use Rattle.syn_lower_spec.specs.Mark.{star, bang, and, sign_at, brace_at, round_at, semi}
use Rattle.syn_lower_spec.specs.Part.{is_bare, macro_end, QPathTree, MacroEnd}
use Rattle.syn_lower_spec.proofs.Same.{same_toks-true}
use Rattle.syn_lower_spec.proofs.Weights.{some_is}
use Rattle.syn_expr_spec.specs.declared.kinds.Place.{Place}
use Rattle.syn_expr_spec.specs.Place.{plain}
use Rattle.syn_expr_spec.specs.Path.{invisible_at, expr_path}
use Rattle.syn_expr_spec.specs.Tree as tr
use Rattle.syn_expr_spec.specs.Tree.{Tree, Children, ClosureHead, Prefix, Piece, Ending, leaf, paren, prefixed, frame, none, child, is_one}
use Rattle.syn_expr_spec.specs.Head.{minus, let_word, raw_at, raw_word, leaf_form, prefix_form, closure_head, to_named, from_closure, label, named, range_at, jump_at, leaf_at}
use Rattle.syn_expr_spec.specs.Slot.{elements, single, fields, piece_form, ending_at, within, if_word, while_word, for_head, match_word, comma_or_end}
use Rattle.syn_expr_spec.specs.Stands.{Node, is_leaf, is_become, is_paren, is_prefixed, is_frame, Content, holds_within, no_more, one_more, Stands, ends, closes, ends_list, leaf_stands, prefix_stands, prefix_place, frame_stands, frame_ends, has_no_comma}
use Rattle.syn_expr_spec.specs.Read.{Reading, standing, ended_by, bare_operands, content, framed_by, all_of, before, rounded, round_read, repeated_by, elements_by, bracketed, bracket_inside, bracket_read, structured, structure_read, named_by, named_read, unled, led, prefix_read, looped, loop_read, verbatim_from, become_word, is_taken, taken, prefix_at, loop_head_at, group_read, atom}
use Rattle.syn_expr_spec.proofs.Chains.{then_some, all_some, before_some, only_some, chosen}
use Rattle.syn_expr_spec.proofs.GroupForms.{unbraced, braced}
use Rattle.syn_expr_spec.proofs.Needs.{Heads}
use Rattle.syn_expr_spec.specs.Front.{bracket_at}
use Rattle.syn_expr_spec.proofs.Sound.{moved, leaf_read_sound, bare_sound, content_sound, framed_sound, element_is, group_is, no_comma_is, ends_a_piece}
use Rattle.syn_expr_spec.proofs.HeadForms.{NoLeaf, no_leaf}

-- ---- which leaf it is

pub record NoPrefix (l : List Tok) : Type 0 where
  pub no_range : range_at l ≡ false
  pub no_jump : jump_at l ≡ false

pub no_prefix : (l : List Tok) → prefix_at l ≡ false → NoPrefix l
unfolding prefix_at
no_prefix l h =
    let a = or_parts (star.at l) _ h in let b = or_parts (bang.at l) _ a.1 in let c = or_parts (minus.at l) _ b.1 in let d = or_parts (and.at l) _ c.1 in
    let f = or_parts (range_at l) _ d.1 in let g = or_parts (let_word.at l) _ f.1 in let i = or_parts (jump_at l) _ g.1 in
    record { no_range = f.0; no_jump = i.0 }

pub named_reads : (l : List Tok) → NoLeaf l → NoPrefix l → leaf_form.reads l ≡ named.reads l
unfolding leaf_form
named_reads l a b = rw (a.no_literal, a.no_underscore, b.no_range, b.no_jump, a.no_continue, a.no_loop, a.no_block, a.no_unsafe, a.no_const, a.no_async, a.no_try, a.no_builtin) refl

pub named_read_is : (l m n : List Tok) (q : QPathTree) (g : MacroEnd) → (expr_path false).reads l ≡ Some (q, m) → (macro_end q).reads m ≡ Some (g, n)
    → named.reads l ≡ Some (to_named (q, g), n)
unfolding named
named_read_is l m n q g a b = rw (a, b) refl

no_macro : (H : Heads) (q : QPathTree) (m n : List Tok) → (macro_end q).reads m ≡ Some (None, n) → m ≡ n
unfolding macro_end
no_macro H q m n h = by_test _ (((H.macro_ends q).sound m None n h))
  where
    by_test : (b : Bool) → (if b then None else Some m) ≡ Some n → m ≡ n
    by_test true i = absurd cc
    by_test false i = some_is i

-- where a macro's `!` stands no brace does
macro_no_brace : (q : QPathTree) (l : List Tok) (g : Delimiter × List Tok) (n : List Tok) → (macro_end q).reads l ≡ Some (Some g, n) → brace_at l ≡ false
unfolding macro_end brace_at group_at sign_at
macro_no_brace q (group del.Brace i ∷ l) g n h = absurd (by_test (is_bare q && false) h)
  where
    by_test : (b : Bool) → cond {A = Outcome MacroEnd} b None (Some (None, group del.Brace i ∷ l)) ≡ Some (Some g, n) → ⊥
    by_test true h = absurd cc
    by_test false h = let z : ◌≡◌ {A = MacroEnd} None (Some g) = ap (λ (r : MacroEnd × List Tok). r.0) (some_is h) in absurd cc
macro_no_brace q _ g n h = refl

-- ---- a closure by its prefix

closure_is : (k : Prefix) (h : ClosureHead) → from_closure k ≡ Some h → k ≡ tr.closure h
closure_is (tr.closure g) h v = ap tr.closure (some_is v)
closure_is _ h v = absurd cc

pub no_some : {A : Type 0} (b : Bool) (y : A) → (if b then None else None) ≡ Some y → ⊥
no_some true y h = absurd cc
no_some false y h = absurd cc

pub skip : {A : Type 0} (b : Bool) (o r : Option A) (y : A) → (o ≡ Some y → ⊥) → (if b then o else r) ≡ Some y → r ≡ Some y
skip true o r y f h = absurd (f h)
skip false o r y f h = h

none_two : {A : Type 0} (b c d : Bool) (y : A) → (if b then (if c then (if d then None else None) else None) else None) ≡ Some y → ⊥
none_two true true true y h = absurd cc
none_two _ _ _ y h = absurd cc

closure_of : (l m : List Tok) (h : ClosureHead) → prefix_form.behind (tr.closure h) l ≡ Some m → closure_head.behind h l ≡ Some m
unfolding prefix_form
closure_of l m h a =
    let b = skip (star.at l) _ _ m (λ i. no_some (star.at l) m i) a in
    let c = skip (bang.at l) _ _ m (λ i. no_some (bang.at l) m i) b in
    let d = skip (minus.at l) _ _ m (λ i. no_some (minus.at l) m i) c in
    let f = skip (and.at l) _ _ m (λ i. none_two (and.at l) (raw_at (drop 1 l)) (raw_word.at (drop 1 l)) m i) d in
    let g = skip (range_at l) _ _ m (λ i. absurd cc) f in
    let j = skip (let_word.at l) _ _ m (λ i. no_some (let_word.at l) m i) g in
    skip (jump_at l) _ _ m (λ i. absurd cc) j

module _ (H : Heads) (rec : Place → Reading Tree) (sound : (p : Place) (l : List Tok) (x : Tree) (n : List Tok) → rec p l ≡ Some (x, n) → Stands p l x n) where
  -- ---- in parentheses and brackets

  paren_sound : (p : Place) (l n : List Tok) (x : Tree) (k : Piece) (c : Ending) (ks : Children) → is_one (child k c x ks) ≡ true → has_no_comma (child k c x ks) ≡ true
      → Content (within del.Parenthesis elements false) l (child k c x ks) n → Node p l (paren false x) n
  paren_sound p l n x k c ks a b (holds_within {i = i} {o = o} g d f) =
      let v = element_is d in
      let (j, w, y) = group_is del.Parenthesis l i n g in
      let z : v.middle ≡ [] = no_comma_is v.middle v.rest c v.behind (no_comma k c x ks b) in
      let d1 : Node plain (toks j) x [] = subst (λ u. Node plain u x []) (sym y) (subst (λ u. Node plain i x u) z v.node) in
      subst (λ u. Node p u (paren false x) n) (sym w) (is_paren d1 (subst (λ u. ends plain x u ≡ true) z v.ending) (subst (λ u. closes plain x u ≡ true) z v.closing))
    where
      no_comma : (k : Piece) (c : Ending) (x : Tree) (ks : Children) → has_no_comma (child k c x ks) ≡ true → c ≡ tr.no_ending
      no_comma k tr.no_ending x ks h = refl
      no_comma k _ x ks h = absurd cc

  rounded_sound : (p : Place) (l n : List Tok) (ks : Children) → Content (within del.Parenthesis elements false) l ks n → Node p l (rounded rec ks) n
  unfolding frame_stands frame_ends
  rounded_sound p l n none d = is_frame refl d refl refl
  rounded_sound p l n (child k c x ks) d = by_test _ refl
    where
      by_test : (b : Bool) → (is_one (child k c x ks) && has_no_comma (child k c x ks)) ≡ b → Node p l (if b then paren false x else frame tr.tuple (child k c x ks)) n
      by_test true h = let (a, b) = and_parts (is_one (child k c x ks)) _ h in paren_sound p l n x k c ks a b d
      by_test false h = is_frame refl d (rw h refl) refl

  round_sound : (p : Place) (l : List Tok) (q : Tree × List Tok) → round_read rec l ≡ Some q → Node p l q.0 q.1
  unfolding round_read
  round_sound p l q h =
      let (z, i, f) = then_some (content rec (within del.Parenthesis elements false) l) (λ ks n. Some (rounded rec ks, n)) q h in
      moved (rounded rec z.0, z.1) q (some_is f) (rounded_sound p l z.1 z.0 (content_sound H rec sound (within del.Parenthesis elements false) l z i))

  bracketed_sound : (p : Place) (l i m n : List Tok) (x : Tree) (q : Tree × List Tok) → group_at del.Bracket l ≡ Some (i, n) → Stands plain i x m
      → bracketed rec x m ≡ Some q → q.1 ≡ [] → Node p l q.0 n
  unfolding ending_at piece_form frame_stands frame_ends
  bracketed_sound p l i m n x q g s h v =
      ⊎_elim (λ j.
      let (z, a, b) = then_some (bare_operands rec single (drop 1 m)) (λ ks n. Some (frame tr.repeat (child tr.repeated tr.no_ending x ks), n)) q j.1 in
      let w : (frame tr.repeat (child tr.repeated tr.no_ending x z.0), z.1) ≡ q = some_is b in
      let more = bare_sound H rec sound single (drop 1 m) z a in
      let o : z.1 ≡ [] = ap (λ (r : Tree × List Tok). r.1) w ∙ v in
      subst (λ (r : Tree × List Tok). Node p l r.0 n) w
      (is_frame {k = tr.repeat} refl (holds_within {o = z.1} g (one_more {k = tr.repeated} refl refl s.node (ends_a_piece tr.repeated x m refl s.ending s.closing) (rw j.0 refl) more) (rw o refl)) refl refl)) (λ j.
      let (c, a, b) = then_some (ended_by rec tr.element x m) (λ c n. and_then (bare_operands rec elements n) (λ ks o. Some (frame tr.array (child tr.element c.0 x ks), o))) q j.1 in
      let (y, d, f) = then_some (comma_or_end m) (λ c n. Some ((c, x), n)) c a in
      let (z, k, r) = then_some (bare_operands rec elements c.1) (λ ks o. Some (frame tr.array (child tr.element c.0.0 x ks), o)) q b in
      let w : (frame tr.array (child tr.element c.0.0 x z.0), z.1) ≡ q = some_is r in
      let o : z.1 ≡ [] = ap (λ (r : Tree × List Tok). r.1) w ∙ v in
      let u : ((y.0, x), y.1) ≡ c = some_is f in
      let ended : comma_or_end m ≡ Some (c.0.0, c.1) = d ∙ ap (λ (r : (Ending × Tree) × List Tok). Some (r.0.0, r.1)) u in
      let more = bare_sound H rec sound elements c.1 z k in
      subst (λ (r : Tree × List Tok). Node p l r.0 n) w
      (is_frame {k = tr.array} refl (holds_within {o = z.1} g (one_more {k = tr.element} refl refl s.node (ends_a_piece tr.element x m refl s.ending s.closing) ended more) (rw o refl)) refl refl))
      (chosen (semi.at m) (repeated_by rec x (drop 1 m)) (elements_by rec x m) (Some q) h)

  bracket_sound : (p : Place) (l : List Tok) (q : Tree × List Tok) → bracket_read rec l ≡ Some q → Node p l q.0 q.1
  unfolding bracket_read frame_stands frame_ends
  bracket_sound p l q h =
      let (g, i, f) = then_some (group_at del.Bracket l) (λ i n. before (bracket_inside rec i) (λ x. x) n) q h in
      let (x, a, b) = before_some (bracket_inside rec g.0) (λ x. x) g.1 q f in
      moved (x, g.1) q b (⊎_elim (λ j. subst (λ y. Node p l y g.1) (some_is j.1) (is_frame {k = tr.array} refl (holds_within i (no_more j.0) j.0) refl refl))
      (λ j.
      let c = all_some (and_then (rec plain g.0) (bracketed rec)) x j.1 in
      let (z, k, d) = then_some (rec plain g.0) (bracketed rec) (x, []) c in
      bracketed_sound p l g.0 z.1 g.1 z.0 (x, []) i (sound plain g.0 z.0 z.1 k) d refl)
      (chosen (is_empty g.0) (Some (frame tr.array none)) (all_of (and_then (rec plain g.0) (bracketed rec))) (Some x) a))

  -- ---- paths, macros and struct expressions

  structured_sound : (p : Place) (l m : List Tok) (q : QPathTree) (r : Tree × List Tok) → (expr_path true).behind q l ≡ Some m → structure_read rec p q m ≡ Some r → Node p l r.0 r.1
  unfolding frame_ends
  structured_sound p l m q r a h =
      let (g, i, f) = then_some (group_at del.Brace m) (λ i n. and_then (bare_operands rec fields i) (λ ks o. structured rec p q (not (is_empty o)) o ks n)) r h in
      let (z, j, k) = then_some (bare_operands rec fields g.0) (λ ks o. structured rec p q (not (is_empty o)) o ks g.1) r f in
      let d = not (is_empty z.1) in
      let (b, c) = only_some (ends_list d z.1 && frame_stands p (tr.structure q.0 q.1 d) z.0) (Some (frame (tr.structure q.0 q.1 d) z.0, g.1)) r k in
      let (u, v) = and_parts (ends_list d z.1) _ b in
      moved (frame (tr.structure q.0 q.1 d) z.0, g.1) r (some_is c) (is_frame a (holds_within i (bare_sound H rec sound fields g.0 z j) u) v refl)

  named_sound : (p : Place) (l : List Tok) (r : Tree × List Tok) → leaf_at l ≡ false → prefix_at l ≡ false → named_read rec p l ≡ Some r → Node p l r.0 r.1
  unfolding named_read
  named_sound p l r a b h =
      let (q, i, f) = then_some ((expr_path (not p.condition)).reads l) (λ q m. and_then ((macro_end q).reads m) (named_by rec p q)) r h in
      let (g, j, k) = then_some ((macro_end q.0).reads q.1) (named_by rec p q.0) r f in
      by_end q g.0 g.1 i j k
    where
      standing_sound : (q : QPathTree × List Tok) (g : MacroEnd) (n : List Tok) → (expr_path false).reads l ≡ Some q → (macro_end q.0).reads q.1 ≡ Some (g, n)
          → standing p (to_named (q.0, g)) n ≡ Some r → Node p l r.0 r.1
      standing_sound q g n i j k =
          let (s, t) = only_some (leaf_stands p (to_named (q.0, g)) n) (Some (leaf (to_named (q.0, g)), n)) r k in
          moved (leaf (to_named (q.0, g)), n) r (some_is t)
          (is_leaf (H.leaves.sound l (to_named (q.0, g)) n (named_reads l (no_leaf l a) (no_prefix l b) ∙ named_read_is l q.1 n q.0 g i j)) s)

      by_end : (q : QPathTree × List Tok) (g : MacroEnd) (n : List Tok) → (expr_path (not p.condition)).reads l ≡ Some q → (macro_end q.0).reads q.1 ≡ Some (g, n)
          → named_by rec p q.0 g n ≡ Some r → Node p l r.0 r.1
      by_end q (Some g) n i j k = standing_sound q (Some g) n (unbraced p.condition l q.0 q.1 i (rw (macro_no_brace q.0 q.1 g n j) refl)) j k
      by_end q None n i j k =
          let e = no_macro H q.0 q.1 n j in
          ⊎_elim (λ c.
          let t = braced p.condition l q.0 q.1 i (rw e c.0) in
          structured_sound p l n q.0 r (subst (λ z. (expr_path true).behind q.0 l ≡ Some z) e ((H.paths true).sound l q.0 q.1 t)) c.1)
          (λ c. standing_sound q None n (unbraced p.condition l q.0 q.1 i (rw e c.0)) j c.1)
          (chosen (brace_at n && not p.condition) (structure_read rec p q.0 n) (standing p (to_named (q.0, None)) n) (Some r) k)

  -- ---- what comes before an operand

  unled_sound : (p : Place) (l m : List Tok) (k : Prefix) (o : Option ClosureHead) (q : Tree × List Tok) → prefix_form.behind k l ≡ Some m → from_closure k ≡ o → unled rec p l o m ≡ Some q → Node p l q.0 q.1
  unled_sound p l m k None q a b h = leaf_read_sound H p l q h
  unled_sound p l m k (Some c) q a b h =
      framed_sound H rec sound p (tr.closure_block c) l m q (closure_of l m c (subst (λ z. prefix_form.behind z l ≡ Some m) (closure_is k c b) a)) h

  prefix_sound : (p : Place) (l : List Tok) (q : Tree × List Tok) → prefix_read rec p l ≡ Some q → Node p l q.0 q.1
  unfolding prefix_read
  prefix_sound p l q h =
      let (z, i, f) = then_some (prefix_form.reads l) (led rec p l) q h in
      let b = H.prefixes.sound l z.0 z.1 i in
      ⊎_elim (λ j.
      let (y, k, g) = then_some (rec (prefix_place p z.0) z.1) (λ x n. Some (prefixed z.0 none x, n)) q j.1 in
      let s = sound (prefix_place p z.0) z.1 y.0 y.1 k in
      moved (prefixed z.0 none y.0, y.1) q (some_is g) (is_prefixed b j.0 s.node s.ending s.closing)) (λ j. unled_sound p l z.1 z.0 (from_closure z.0) q b refl j.1)
      (chosen (prefix_stands p z.0 z.1) (and_then (rec (prefix_place p z.0) z.1) (λ x n. Some (prefixed z.0 none x, n))) (unled rec p l (from_closure z.0) z.1) (Some q) f)

  -- ---- loops

  loop_sound : (p : Place) (l : List Tok) (q : Tree × List Tok) → loop_read rec p l ≡ Some q → Node p l q.0 q.1
  unfolding loop_read
  loop_sound p l q h =
      let (w, i, f) = then_some (label.reads l) (looped rec p) q h in
      let b = H.labels.sound l w.0 w.1 i in
      ⊎_elim (λ j. framed_sound H rec sound p (tr.while_loop w.0) l (drop 1 w.1) q (rw (b, j.0) refl) j.1)
      (λ j.
      let (x, k, g) = then_some (for_head.reads w.1) (λ x. framed_by rec p (tr.for_loop w.0 x)) q j.1 in
      framed_sound H rec sound p (tr.for_loop w.0 x.0) l x.1 q (rw b (H.fors.sound w.1 x.0 x.1 k)) g)
      (chosen (while_word.at w.1) (framed_by rec p (tr.while_loop w.0) (drop 1 w.1)) (and_then (for_head.reads w.1) (λ x. framed_by rec p (tr.for_loop w.0 x))) (Some q) f)

  -- ---- invisible groups

  group_sound : (p : Place) (l : List Tok) (q : Tree × List Tok) → leaf_at l ≡ false → prefix_at l ≡ false → group_read rec p l ≡ Some q → Node p l q.0 q.1
  unfolding group_read
  group_sound p l q a b h =
      ⊎_elim (λ j. named_sound p l q a b j.1) (λ j. framed_sound H rec sound p tr.group_expr l l q refl j.1)
      (chosen (is_some ((expr_path (not p.condition)).reads l)) (named_read rec p l) (framed_by rec p tr.group_expr l) (Some q) h)

  -- ---- by what comes first

  become_sound : (p : Place) (l : List Tok) (q : Tree × List Tok) → become_word.at l ≡ true → and_then (rec plain (drop 1 l)) (verbatim_from rec l) ≡ Some q → Node p l q.0 q.1
  become_sound p l q w h =
      let (z, i, f) = then_some (rec plain (drop 1 l)) (verbatim_from rec l) q h in
      let (a, b) = only_some (is_taken l z.1) (Some (leaf (tr.verbatim (taken l z.1)), z.1)) q f in
      let s = sound plain (drop 1 l) z.0 z.1 i in
      moved (leaf (tr.verbatim (taken l z.1)), z.1) q (some_is b) (is_become w s.node s.ending s.closing (sym (same_toks-true (taken l z.1 ++ z.1) l a)))

  pub atom_sound : (p : Place) (l : List Tok) (q : Tree × List Tok) → atom rec p l ≡ Some q → Node p l q.0 q.1
  unfolding atom
  atom_sound p l q h = ⊎_elim (λ j. leaf_read_sound H p l q j.1) (λ a.
      ⊎_elim (λ j. prefix_sound p l q j.1) (λ b.
      ⊎_elim (λ j. round_sound p l q j.1) (λ c.
      ⊎_elim (λ j. bracket_sound p l q j.1) (λ d.
      ⊎_elim (λ j. become_sound p l q j.0 j.1) (λ f.
      ⊎_elim (λ j. framed_sound H rec sound p tr.if_expr l (drop 1 l) q (rw j.0 refl) j.1) (λ g.
      ⊎_elim (λ j. loop_sound p l q j.1) (λ i.
      ⊎_elim (λ j. framed_sound H rec sound p tr.match_expr l (drop 1 l) q (rw j.0 refl) j.1) (λ k.
      ⊎_elim (λ j. group_sound p l q a.0 b.0 j.1) (λ j. named_sound p l q a.0 b.0 j.1)
      (chosen (invisible_at l) _ _ (Some q) k.1)) (chosen (match_word.at l) _ _ (Some q) i.1)) (chosen (loop_head_at l) _ _ (Some q) g.1)) (chosen (if_word.at l) _ _ (Some q) f.1))
      (chosen (become_word.at l) _ _ (Some q) d.1)) (chosen (bracket_at l) _ _ (Some q) c.1)) (chosen (round_at l) _ _ (Some q) b.1))
      (chosen (prefix_at l) _ _ (Some q) a.1)) (chosen (leaf_at l) _ _ (Some q) h)

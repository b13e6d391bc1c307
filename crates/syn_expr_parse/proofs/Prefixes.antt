-- What comes before an operand, what is read where no operand follows it, and the tokens that `become` keeps.
use Rattle.std.specs.Prelude.{not, if◌then◌else◌}
use Rattle.std.proofs.Common.{◌≡◌, ℕ, zero, suc, ◌<◌, Bool, true, false, ⊎_elim, List, [], ◌∷◌, ◌++◌, drop, codes, Option, Some, None, refl, sym, ap, ◌∙◌, subst, arith}
use Rattle.syn_lexer.specs.declared.front.Delimiter.TheVariants as del
use Rattle.syn_tokens.specs.Tok.{Tok, weight}
use Rattle.syn_tokens.specs.Front.{group_at}
use Rattle.syn_tokens.specs.Input.{IsTail}
use Rattle.syn_tokens.proofs.Weights.{one_at_least}
use Rattle.syn_lower_spec.specs.Form.{and_then}
use Rattle.syn_lower_spec.specs.Mark.{star, bang, and, brace_at, round_at}
use Rattle.syn_expr_spec.specs.Front.{bracket_at}
use Rattle.syn_lower_spec.specs.Part.{is_default}
use Rattle.syn_lower_spec.proofs.Marks.{word_present}
use Rattle.syn_lower_spec.proofs.Same.{same_toks-refl}
use Rattle.syn_lower_spec.proofs.Tails.{tail_then}
use Rattle.syn_lower_spec.proofs.Weights.{taken}
use Rattle.syn_expr_spec.specs.declared.kinds.Place.{Place}
use Rattle.syn_expr_spec.specs.declared.kinds.Limits.{Limits}
use Rattle.syn_expr_spec.specs.Place.{plain}
use Rattle.syn_expr_spec.specs.Tree as e
use Rattle.syn_expr_spec.specs.Tree.{Tree, ClosureHead, Jump, Prefix, leaf, frame, none, child, plain_block}
use Rattle.syn_expr_spec.specs.Head.{minus, let_word, raw_at, raw_word, range_at, range_op, jump_at, jump_head, leaf_form, prefix_form, leaf_at}
use Rattle.syn_expr_spec.specs.Path.{invisible_at}
use Rattle.syn_expr_spec.specs.Slot as slot
use Rattle.syn_expr_spec.specs.Slot.{piece_form}
use Rattle.syn_expr_spec.specs.Stands.{frame_stands, frame_ends, prefix_stands}
use Rattle.syn_expr_spec.specs.Read as read
use Rattle.syn_expr_spec.specs.Read.{Reading, operands, bare_operands, content, framed_by, only_if, led, leaf_read, verbatim_from, become_word, expr}
use Rattle.syn_expr_spec.proofs.Chains.{chosen}
use Rattle.syn_expr_spec.proofs.Exact.{expr_sound}
use Rattle.syn_expr_spec.proofs.Fronts.{range_no_leaf, jump_no_leaf}
use Rattle.syn_expr_spec.proofs.HeadMoves.{dropped, marked, taken_is}
use Rattle.syn_expr_spec.proofs.Heads.{heads_readable}
use Rattle.syn_expr_spec.proofs.Lesses.{node_less}
use Rattle.syn_expr_spec.proofs.SoundAtoms.{no_some, skip}
use Rattle.syn_expr_tokens.specs.Begins.{atom_of, atom_by}
use Rattle.syn_expr_tokens.specs.declared.atom.Atom.TheVariants as atom
use Rattle.syn_expr_parse.specs.Led.{behind, behind_or, body_of, block}
use Rattle.syn_expr_spec.proofs.HeadForms.{no_leaf}

-- what is left weighs less
pub prefix_less : (l : List Tok) (k : Prefix) (m : List Tok) → prefix_form.reads l ≡ Some (k, m) → weight m < weight l
prefix_less l k m h = omega (arith, heads_readable.prefixes.moves l m k h)

-- and so do the tokens after the first
pub behind_less : (l : List Tok) (k : Prefix) (m : List Tok) → prefix_form.reads l ≡ Some (k, m) → weight (drop 1 l) < weight l
unfolding weight
behind_less [] k m h = absurd (omega (arith, prefix_less [] k m h))
behind_less (t ∷ l) k m h = omega (arith, one_at_least t)

pub ruleset less = (prefix_less, behind_less)

-- ---- ranges and jumps are leaves too

no_borrow : (b c d : Bool) (n : List Tok) → (if b then (if c then (if d then None else None) else None) else None) ≡ Some n → ⊥
no_borrow true true true n h = absurd cc
no_borrow true true false n h = absurd cc
no_borrow true false d n h = absurd cc
no_borrow false c d n h = absurd cc

range_stands : (l m : List Tok) (op : Limits) → prefix_form.behind (e.range_to op) l ≡ Some m → (range_at l ≡ true) × (range_op.behind op l ≡ Some m)
unfolding prefix_form
range_stands l m op h =
    let a = skip (star.at l) _ _ m (λ i. no_some (star.at l) m i) h in
    let b = skip (bang.at l) _ _ m (λ i. no_some (bang.at l) m i) a in
    let c = skip (minus.at l) _ _ m (λ i. no_some (minus.at l) m i) b in
    let d = skip (and.at l) _ _ m (λ i. no_borrow (and.at l) (raw_at (drop 1 l)) (raw_word.at (drop 1 l)) m i) c in
    ⊎_elim (λ i. i) (λ i.
    let f = skip (let_word.at l) _ _ m (λ j. no_some (let_word.at l) m j) i.1 in
    absurd (no_some (jump_at l) m f)) (chosen (range_at l) _ _ (Some m) d)

jump_stands : (l m : List Tok) (j : Jump) → prefix_form.behind (e.jump j) l ≡ Some m → (range_at l ≡ false) × (jump_at l ≡ true) × (jump_head.behind j l ≡ Some m)
unfolding prefix_form
jump_stands l m j h =
    let a = skip (star.at l) _ _ m (λ i. no_some (star.at l) m i) h in
    let b = skip (bang.at l) _ _ m (λ i. no_some (bang.at l) m i) a in
    let c = skip (minus.at l) _ _ m (λ i. no_some (minus.at l) m i) b in
    let d = skip (and.at l) _ _ m (λ i. no_borrow (and.at l) (raw_at (drop 1 l)) (raw_word.at (drop 1 l)) m i) c in
    ⊎_elim (λ i. absurd cc) (λ i.
    let f = skip (let_word.at l) _ _ m (λ k. no_some (let_word.at l) m k) i.1 in
    ⊎_elim (λ k. (i.0, k.0, k.1)) (λ k. absurd cc) (chosen (jump_at l) _ _ (Some m) f)) (chosen (range_at l) _ _ (Some m) d)

range_leaf_is : (l : List Tok) (op : Limits) → range_at l ≡ true → leaf_form.behind (e.full_range op) l ≡ range_op.behind op l
unfolding leaf_form
range_leaf_is l op v = let a = no_leaf l (range_no_leaf l v) in rw (a.no_literal, a.no_underscore, v) refl

jump_leaf_is : (l : List Tok) (j : Jump) → range_at l ≡ false → jump_at l ≡ true → leaf_form.behind (e.bare_jump j) l ≡ jump_head.behind j l
unfolding leaf_form
jump_leaf_is l j v w = let a = no_leaf l (jump_no_leaf l w) in rw (a.no_literal, a.no_underscore, v, w) refl

pub range_leaf : (l m : List Tok) (op : Limits) → prefix_form.reads l ≡ Some (e.range_to op, m) → leaf_form.reads l ≡ Some (e.full_range op, m)
range_leaf l m op h =
    let (v, g) = range_stands l m op (heads_readable.prefixes.stands l m (e.range_to op) h) in
    heads_readable.leaves.found l m (e.full_range op) (range_leaf_is l op v ∙ g)

pub jump_leaf : (l m : List Tok) (j : Jump) → prefix_form.reads l ≡ Some (e.jump j, m) → leaf_form.reads l ≡ Some (e.bare_jump j, m)
jump_leaf l m j h =
    let (v, w, g) = jump_stands l m j (heads_readable.prefixes.stands l m (e.jump j) h) in
    heads_readable.leaves.found l m (e.bare_jump j) (jump_leaf_is l j v w ∙ g)

pub led_range : (p : Place) (l m : List Tok) (op : Limits) → prefix_form.reads l ≡ Some (e.range_to op, m) → led expr p l (e.range_to op) m ≡ behind_or p (e.range_to op) (e.full_range op) m
unfolding leaf_read
led_range p l m op h = rw (range_leaf l m op h) refl

pub led_jump : (p : Place) (l m : List Tok) (j : Jump) → prefix_form.reads l ≡ Some (e.jump j, m) → led expr p l (e.jump j) m ≡ behind_or p (e.jump j) (e.bare_jump j) m
unfolding leaf_read
led_jump p l m j h = rw (jump_leaf l m j h) refl

pub ruleset prefixes = (led_range, led_jump)

-- ---- the block of a closure with an output

module _ (rec : Place → Reading Tree) where
  none_left : (k : ℕ) (n : List Tok) → 0 < k → operands rec k slot.done n ≡ Some (none, n)
  unfolding operands
  none_left zero n h = absurd (omega arith)
  none_left (suc k) n h = refl

  -- its tokens are kept
  pub block_reads : (p : Place) (h : ClosureHead) (l : List Tok) → framed_by rec p (e.closure_block h) l
      ≡ and_then (group_at del.Brace l) (λ i n. only_if (not (is_default h.output)) (Some (frame (e.closure_block h) (child e.output_block e.no_ending (plain_block i) none), n)))
  unfolding content bare_operands operands piece_form frame_stands frame_ends brace_at
  block_reads p h l = by_group (group_at del.Brace l) refl
    where
      by_group : (o : Option (List Tok × List Tok)) → group_at del.Brace l ≡ o → framed_by rec p (e.closure_block h) l
          ≡ and_then o (λ i n. only_if (not (is_default h.output)) (Some (frame (e.closure_block h) (child e.output_block e.no_ending (plain_block i) none), n)))
      by_group None g = rw g refl
      by_group (Some q) g = rw (g, none_left (weight l) q.1 (omega (arith, taken del.Brace l q.0 q.1 g))) refl

none_of : (h : ClosureHead) (o : Option (List Tok × List Tok)) → and_then o (λ i n. Some (plain_block i, n)) ≡ None
    → and_then o (λ i n. only_if (not (is_default h.output)) (Some (frame (e.closure_block h) (child e.output_block e.no_ending (plain_block i) none), n))) ≡ None
none_of h None g = refl
none_of h (Some q) g = absurd cc

-- where no block comes after an output, no body does
pub output_refused : {K : Type 0} (p : Place) (h : ClosureHead) (l : List Tok) → is_default h.output ≡ false → (K → block l ≡ None) → K → body_of p h l ≡ None
unfolding prefix_stands
output_refused p h l d b k =
    ap (λ c. if c then behind p (e.closure h) l else framed_by expr p (e.closure_block h) l) d
    ∙ (block_reads expr p h l ∙ none_of h (group_at del.Brace l) (b k))

-- ---- what an expression leaves

pub expr_tail : (p : Place) (l : List Tok) (x : Tree) (n : List Tok) → expr p l ≡ Some (x, n) → IsTail n l
expr_tail p l x n h = (node_less (expr_sound p l x n h).node).tail

-- ---- `become`

pub become_there : (l : List Tok) → atom_of l ≡ atom.Become → become_word.at l ≡ true
become_there l h = ⊎_elim (λ i. absurd cc) (λ a.
    ⊎_elim (λ i. absurd cc) (λ b.
    ⊎_elim (λ i. absurd cc) (λ c.
    ⊎_elim (λ i. absurd cc) (λ d.
    ⊎_elim (λ i. i.0) (λ f.
    ⊎_elim (λ i. absurd cc) (λ g.
    ⊎_elim (λ i. absurd cc) (λ j.
    ⊎_elim (λ i. absurd cc) (λ k.
    ⊎_elim (λ i. absurd cc) (λ i. absurd cc)
    (chosen (invisible_at l) _ _ atom.Become k.1)) (chosen (slot.match_word.at l) _ _ atom.Become j.1)) (chosen (read.loop_head_at l) _ _ atom.Become g.1)) (chosen (slot.if_word.at l) _ _ atom.Become f.1))
    (chosen (become_word.at l) _ _ atom.Become d.1)) (chosen (bracket_at l) _ _ atom.Become c.1)) (chosen (round_at l) _ _ atom.Become b.1))
    (chosen (read.prefix_at l) _ _ atom.Become a.1)) (chosen (leaf_at l) _ _ atom.Become h)

pub become_less : (l : List Tok) → atom_of l ≡ atom.Become → weight (drop 1 l) < weight l
become_less l h = (marked (word_present (codes "become")) l (become_there l h)).less

-- the tokens before what is left
verbatim_is : (l n ts : List Tok) (x : Tree) → l ≡ ts ++ n → verbatim_from expr l x n ≡ Some (leaf (e.verbatim ts), n)
verbatim_is l n ts x g = subst (λ z. verbatim_from expr z x n ≡ Some (leaf (e.verbatim ts), n)) (sym g) (rw (taken_is ts n, same_toks-refl (ts ++ n)) refl)

pub verbatim_reads : (l n ts : List Tok) (x : Tree) → expr plain (drop 1 l) ≡ Some (x, n) → l ≡ ts ++ n → atom_by expr plain atom.Become l ≡ Some (leaf (e.verbatim ts), n)
verbatim_reads l n ts x h g = rw h (verbatim_is l n ts x g)

-- after the word
pub word_tail : (l n : List Tok) (x : Tree) (p : Place) → expr p (drop 1 l) ≡ Some (x, n) → IsTail n l
word_tail l n x p h = tail_then (dropped 1 l) (expr_tail p (drop 1 l) x n h)

pub ruleset becomes = (become_less, verbatim_reads, word_tail)

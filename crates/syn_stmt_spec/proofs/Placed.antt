-- Expressions in statements, before what may follow them there.
use Rattle.std.specs.Prelude.{not, ◌||◌, ◌&&◌}
use Rattle.std.proofs.Common.{◌≡◌, ℕ, Bool, true, false, List, [], ◌∷◌, drop, codes, Some, None, refl, ap, sym, ◌∙◌, subst}
use Rattle.std.proofs.Math.Bool.{and-false, or-true}
use Rattle.std.proofs.lemmas.Bool.{or_parts, or_from}
use Rattle.syn_tokens.specs.Tok.{Tok, ident}
use Rattle.syn_tokens.specs.Front.{group_at}
use Rattle.syn_lower_spec.specs.Mark.{word_at, brace_at, semi, sign_at}
use Rattle.syn_lower_spec.specs.Pat.{an_index}
use Rattle.syn_lower_spec.proofs.Ends.{sign_first}
use Rattle.syn_expr_spec.specs.declared.kinds.Precedence.TheVariants as lev
use Rattle.syn_expr_spec.specs.declared.kinds.Limits.TheVariants as limits
use Rattle.syn_expr_spec.specs.declared.kinds.Place.{Place}
use Rattle.syn_expr_spec.specs.declared.next.Next.TheVariants as next
use Rattle.syn_expr_spec.specs.Place.{plain, at_head}
use Rattle.syn_expr_spec.specs.Front.{dot_at, question_at, begins_expr, ends_open_range}
use Rattle.syn_expr_spec.specs.Next.{enclosed, in_statement, in_arm}
use Rattle.syn_expr_spec.specs.Tree as e
use Rattle.syn_expr_spec.specs.Tree.{Tree, Leaf, Frame, Postfix, Jump, leaf, paren, attributed, prefixed, infixed, postfixed, tail, frame, none, own, clear, fill, is_block_like}
use Rattle.syn_expr_spec.specs.Stands.{Node, is_leaf, is_become, is_attributed_verbatim, is_paren, is_attributed_by, is_prefixed, is_infixed, is_postfixed, is_tail, is_indexed, is_frame, fields_of, ends, closes, is_range, carries, is_cast, leaf_stands, ends_jump, postfix_stands}
use Rattle.syn_expr_spec.specs.Rule.{printed, place_asks, place_wrapped, misplaced, low, bad, put, bare, is_operation}
use Rattle.syn_expr_spec.specs.WellFormed.{is_well_formed}
use Rattle.syn_expr_spec.specs.Printed.{in_plain, as_statement, StandsPrinted}
use Rattle.syn_expr_spec.proofs.Bare.{block_bare, arm_bare, printed_formed}
use Rattle.syn_expr_spec.proofs.Bridge.{bridge, block_bridge}
use Rattle.syn_expr_spec.proofs.FillIns.{block_fill, block_clear}
use Rattle.syn_expr_spec.proofs.Formed.{formed_fill, block_held}
use Rattle.syn_expr_spec.proofs.Fronts.{word_is}
use Rattle.syn_expr_spec.proofs.Good.{printed_good}
use Rattle.syn_expr_spec.proofs.Places.{meets_plain, end_fits, fits_calls, fits_ends, fits_closes}
use Rattle.syn_expr_spec.proofs.Shows.{Shows, shows_semi}
use Rattle.syn_stmt_spec.specs.Printed.{open_end, leaf_open, postfix_open}
use Rattle.syn_stmt_spec.specs.Laws.{PrintedExpressionsStand, NoneOpenBeforeElse}

-- ---- before `;`

before_semi : (t : Tree) (r : List Tok) → is_well_formed t ≡ true → semi.at r ≡ true → StandsPrinted in_plain t r
unfolding is_well_formed
before_semi t r w h =
    let x = printed enclosed t in
    let s = sign_first 59 [] (Shows next.End) shows_semi r h in
    let f = end_fits x in
    record {
      node = bridge x plain enclosed r (printed_formed enclosed t w) meets_plain s (printed_good (fill t) enclosed (formed_fill t w)) (fits_calls lev.Jump x next.End f);
      ending = fits_ends plain x next.End r s f;
      closing = fits_closes plain lev.Jump x next.End r s f;
    }

-- ---- what ends with a block, before anything but what goes on with it

block_calm : (t : Tree) → is_block_like t ≡ true → misplaced in_statement t ≡ false
block_calm (leaf (e.lit x)) h = absurd cc
block_calm (leaf (e.mac m)) h = absurd cc
block_calm (leaf (e.block None b)) h = refl
block_calm (leaf k) h = refl
block_calm (attributed a more t) h = ap (λ b. not (is_operation t) && b) (block_calm t h) ∙ and-false _
block_calm (frame (e.structure q w d) ks) h = absurd cc
block_calm (frame k ks) h = refl
block_calm _ h = absurd cc

block_unasked : (t : Tree) → is_block_like t ≡ true → place_asks lev.Jump in_statement t ≡ false
block_unasked t h = or_from (place_wrapped lev.Jump t next.End (low t) (bad t next.End)) (misplaced in_statement t) (or_parts (place_wrapped lev.Jump t next.End (low t) (bad t next.End)) (misplaced in_arm t) (arm_bare t)).0 (block_calm t h)

pub printed_block : (t : Tree) → is_block_like t ≡ true → is_block_like (printed in_statement t) ≡ true
printed_block t h =
    let f = block_fill t ∙ h in
    ap (λ b. is_block_like (put b (bare enclosed (fill t)) (bare in_statement (fill t)))) (block_unasked (fill t) f) ∙ block_bare in_statement (fill t) ∙ f

block_ends : (x : Tree) (r : List Tok) → is_block_like x ≡ true → dot_at r || question_at r ≡ false → (ends at_head x r ≡ true) × (closes at_head x r ≡ true)
unfolding ends closes
block_ends x r b g =
    let h = block_held x b in
    (rw h (or-true (is_range x)), rw (h, g) (ap not (and-false (carries x || is_cast x))))

before_others : (t : Tree) (r : List Tok) → is_well_formed t ≡ true → is_block_like t ≡ true → dot_at r || question_at r ≡ false → word_at (codes "else") r ≡ false → StandsPrinted as_statement t r
unfolding is_well_formed
before_others t r w h g e =
    let x = printed in_statement t in
    let b = printed_block t h in
    let (i, j) = block_ends (clear x) r (block_clear x ∙ b) g in
    record {
      node = block_bridge x at_head in_statement r b (printed_formed in_statement t w) (printed_good (fill t) in_statement (formed_fill t w)) e;
      ending = i;
      closing = j;
    }

pub printed_stand : PrintedExpressionsStand
printed_stand = record { before_semi = before_semi; blocks = before_others }

-- ---- before `else`

record Else (n : List Tok) : Type 0 where
  pub begins : begins_expr n ≡ true
  pub stops : (c : Bool) → ends_open_range c n ≡ false
  pub brace : brace_at n ≡ false

else_first : (n : List Tok) → word_at (codes "else") n ≡ true → Else n
unfolding begins_expr ends_open_range dot_at sign_at word_at brace_at group_at
else_first n h = subst Else (sym (word_is (codes "else") n h)) (first (drop 1 n))
  where
    first : (l : List Tok) → Else (ident (codes "else") ∷ l)
    first l = record { begins = refl; stops = λ c. stops c l; brace = refl }
      where
        stops : (c : Bool) (l : List Tok) → ends_open_range c (ident (codes "else") ∷ l) ≡ false
        stops true l = refl
        stops false l = refl

jump_goes_on : (p : Place) (j : Jump) (n : List Tok) → Else n → ends_jump p j n ≡ false
jump_goes_on p e.returning n s = rw s.begins refl
jump_goes_on p e.yielding n s = rw s.begins refl
jump_goes_on p (e.breaking None) n s = rw (s.begins, s.brace) (and-false p.condition)
jump_goes_on p (e.breaking (Some w)) n s = rw (s.begins, s.brace, and-false p.condition) refl

leaf_closed : (p : Place) (k : Leaf) (n : List Tok) → Else n → leaf_stands p k n ≡ true → leaf_open k ≡ false
unfolding leaf_stands
leaf_closed p (e.bare_jump j) n s h = absurd (let f : true ≡ false = sym h ∙ jump_goes_on p j n s in cc)
leaf_closed p (e.full_range limits.HalfOpen) n s h = absurd (let f : true ≡ false = sym h ∙ s.stops p.condition in cc)
leaf_closed p (e.full_range limits.Closed) n s h = refl
leaf_closed p _ n s h = refl

postfix_closed : (p : Place) (k : Postfix) (n : List Tok) → Else n → postfix_stands p k n ≡ true → postfix_open k ≡ false
unfolding postfix_stands
postfix_closed p (e.cast x) n s h = refl
postfix_closed p (e.range_from limits.HalfOpen) n s h = absurd (let f : true ≡ false = sym h ∙ s.stops p.condition in cc)
postfix_closed p (e.range_from limits.Closed) n s h = absurd cc

fields_closed : (is : List ℕ) (b : Tree) → open_end b ≡ false → open_end (fields_of b is) ≡ false
fields_closed [] b h = h
fields_closed (i ∷ is) b h = fields_closed is (tail b (e.field (an_index i)) none) refl

closed : {p : Place} {l n : List Tok} {x : Tree} → Node p l x n → Else n → open_end x ≡ false
closed (is_leaf {p = p} {n = n} {k = k} f g) s = leaf_closed p k n s g
closed (is_become w d q r o) s = refl
closed (is_attributed_verbatim a more fs f d q r) s = refl
closed (is_paren d q r) s = refl
closed (is_attributed_by f g d) s = closed d s
closed (is_prefixed f g d q r) s = closed d s
closed (is_infixed d q r i t o d2 u v w) s = closed d2 s
closed (is_postfixed {p = p} {n = n} {k = k} d q r i t b g w) s = postfix_closed p k n s g
closed (is_tail d f t o q) s = refl
closed (is_indexed {b = b} {i = i} {is = is} d f t q) s = subst (λ z. open_end z ≡ false) (sym q) (fields_closed is (tail b (e.field (an_index i)) none) refl)
closed (is_frame f o g h) s = refl

pub none_open : NoneOpenBeforeElse
none_open p l t n s h = closed s.node (else_first n h)

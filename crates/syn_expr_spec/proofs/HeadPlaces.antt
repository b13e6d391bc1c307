-- What comes before and after the operands, trailers, and the tokens of frames are read back from their own tokens.
use Rattle.std.proofs.Common.{◌≡◌, Bool, true, false, not, ◌||◌, ◌&&◌, List, [], ◌∷◌, Some, refl, ◌∙◌, codes}
use Rattle.syn_lexer.specs.Keywords.{is_reserved_word}
use Rattle.syn_lexer.specs.declared.front.Delimiter.{Delimiter}
use Rattle.syn_lexer.specs.declared.front.Delimiter.TheVariants as del
use Rattle.syn_tokens.specs.Tok.{Tok, ident, toks-inside}
use Rattle.syn_tokens.specs.Front.{group_at, is_empty}
use Rattle.syn_lower_spec.specs.Text.{is_segment, is_truth, stands_alone}
use Rattle.syn_lower_spec.specs.Tree.{AttributeTree}
use Rattle.syn_lower_spec.specs.Form.{and_then, is_nil}
use Rattle.syn_lower_spec.specs.Mark.{sign_at, word_at, round_at, brace_at, pound, colon, comma}
use Rattle.syn_lower_spec.specs.Own.{alone, joint, before_if, enclosed, attribute_own}
use Rattle.syn_lower_spec.specs.Ends.{ends_patterns, ends_types}
use Rattle.syn_lower_spec.specs.Pat.{MemberTree, PatTree, a_name, an_index, dots, bound_at}
use Rattle.syn_lower_spec.specs.PatOwn.{attributes_own, member_own, pat_own}
use Rattle.syn_lower_spec.specs.PatFits.{attributes_outer, member_fits, pat_fits, pat_stops}
use Rattle.syn_lower_spec.proofs.Same.{both_true, not_true, same_delimiter-refl}
use Rattle.syn_lower_spec.proofs.Forms.{Alike}
use Rattle.syn_lower_spec.proofs.Ends.{parts_end}
use Rattle.syn_lower_spec.proofs.PatsBack.{attributes_back, member_back}
use Rattle.syn_lower_spec.proofs.PatWholeComplete.{patterns_read_back}
use Rattle.syn_expr_spec.specs.Head as h
use Rattle.syn_expr_spec.specs.Slot as s
use Rattle.syn_expr_spec.specs.Slot.{Slot, piece_form, ending_at}
use Rattle.syn_expr_spec.specs.Tree as e
use Rattle.syn_expr_spec.specs.Tree.{Body, Tree, Piece, Ending, inners, piece_own, ending_own, body_own, is_block_like}
use Rattle.syn_expr_spec.specs.WellFormed.{body_fits, piece_fits, ending_fits, is_name_path}
use Rattle.syn_expr_spec.proofs.Attributes.{outers_are}
use Rattle.syn_expr_spec.proofs.HeadBack.{body_back}
use Rattle.syn_expr_spec.proofs.HeadFront.{pattern_no_pound}
use Rattle.syn_expr_spec.proofs.HeadForms.{body_alike}

-- ---- before an operand

if_ends : (r : List Tok) → ends_patterns (ident (codes "if") ∷ r) ≡ true
unfolding ends_patterns ends_types bound_at is_segment stands_alone is_reserved_word is_truth sign_at round_at brace_at group_at
if_ends r = refl

arrow_ends : (r : List Tok) → ends_patterns (joint 61 ∷ alone 62 ∷ r) ≡ true
unfolding ends_patterns ends_types bound_at sign_at round_at brace_at group_at
arrow_ends r = refl

guard_back : (ats : List AttributeTree) (p : PatTree) (r : List Tok) → attributes_outer ats ≡ true → pat_fits true p ≡ true → (piece_form s.arms).behind (e.guard ats p) (piece_own (e.guard ats p) r) ≡ Some r
unfolding piece_form word_at sign_at
guard_back ats p r f g =
    let w : pat_stops true p (ident (codes "if") ∷ r) ≡ true = parts_end.patterns true p (ident (codes "if") ∷ r) (if_ends r) refl in
    let b = patterns_read_back.patterns true p (ident (codes "if") ∷ r) g w in
    rw (attributes_back ats (pat_own p (ident (codes "if") ∷ r)) f (pattern_no_pound p _ _ b), b) refl

arm_back : (ats : List AttributeTree) (p : PatTree) (r : List Tok) → attributes_outer ats ≡ true → pat_fits true p ≡ true → (piece_form s.arms).behind (e.arm ats p) (piece_own (e.arm ats p) r) ≡ Some r
unfolding piece_form word_at sign_at
arm_back ats p r f g =
    let w : pat_stops true p (joint 61 ∷ alone 62 ∷ r) ≡ true = parts_end.patterns true p (joint 61 ∷ alone 62 ∷ r) (arrow_ends r) refl in
    let b = patterns_read_back.patterns true p (joint 61 ∷ alone 62 ∷ r) g w in
    rw (attributes_back ats (pat_own p (joint 61 ∷ alone 62 ∷ r)) f (pattern_no_pound p _ _ b), b) refl

-- a field's value that its name says is followed by no `:`
abbrev pub piece_stops : Piece → List Tok → Bool
piece_stops (e.field_value ats m false) r = not (colon.at r)
piece_stops _ r = true

-- `..` is written before what is after the fields
abbrev pub is_written : Piece → Bool
is_written (e.rest d) = d
is_written _ = true

no_dots : (ats : List AttributeTree) (m : MemberTree) (r : List Tok) → dots.at (attributes_own ats (member_own m r)) ≡ false
unfolding attribute_own sign_at
no_dots (a ∷ more) m r = refl
no_dots [] (a_name w) r = refl
no_dots [] (an_index n) r = refl

no_pound : (m : MemberTree) (r : List Tok) → pound.at (member_own m r) ≡ false
unfolding sign_at
no_pound (a_name w) r = refl
no_pound (an_index n) r = refl

colon_back : (m : MemberTree) (b : Bool) (x : Tree) (r : List Tok) → (b || is_name_path m x) ≡ true → piece_stops (e.field_value [] m b) r ≡ true → (s.field_colon m).behind b (before_if b (λ l. alone 58 ∷ l) r) ≡ Some r
unfolding sign_at
colon_back (a_name w) true x r f g = refl
colon_back (a_name w) false x r f g = rw (not_true (sign_at (codes ":") r) g) refl
colon_back (an_index n) true x r f g = refl
colon_back (an_index n) false x r f g = absurd cc

-- after all of it but its colon
pub field_opens : (ats : List AttributeTree) (m : MemberTree) (b : Bool) (r : List Tok) → attributes_outer ats ≡ true → member_fits m ≡ true
    → (piece_form s.fields).behind (e.field_value ats m b) (piece_own (e.field_value ats m b) r) ≡ (s.field_colon m).behind b (before_if b (λ l. alone 58 ∷ l) r)
unfolding piece_form
field_opens ats m b r f g =
    let q = before_if b (λ l. alone 58 ∷ l) r in
    rw (outers_are ats f, no_dots ats m q, attributes_back ats (member_own m q) f (no_pound m q), member_back m q g) refl

field_value_back : (ats : List AttributeTree) (m : MemberTree) (b : Bool) (x : Tree) (r : List Tok) → attributes_outer ats ≡ true → member_fits m ≡ true → (b || is_name_path m x) ≡ true
    → piece_stops (e.field_value ats m b) r ≡ true → (piece_form s.fields).behind (e.field_value ats m b) (piece_own (e.field_value ats m b) r) ≡ Some r
field_value_back ats m b x r f g i j = field_opens ats m b r f g ∙ colon_back m b x r i j

rest_back : (r : List Tok) → (piece_form s.fields).behind (e.rest true) (piece_own (e.rest true) r) ≡ Some r
unfolding piece_form sign_at
rest_back r = refl

chained_back : (r : List Tok) → (piece_form s.otherwise).behind e.chained (piece_own e.chained r) ≡ Some r
unfolding piece_form word_at
chained_back r = refl

guarded_back : (r : List Tok) → (piece_form s.bodies).behind e.guarded (piece_own e.guarded r) ≡ Some r
unfolding piece_form sign_at
guarded_back r = refl

pub piece_back : (p : Slot) (k : Piece) (c : Ending) (x : Tree) (r : List Tok) → piece_fits p k c x ≡ true → is_written k ≡ true → piece_stops k r ≡ true → (piece_form p).behind k (piece_own k r) ≡ Some r
unfolding piece_form
piece_back s.elements e.element c x r f w g = refl
piece_back s.single e.value c x r f w g = refl
piece_back s.counted e.repeated c x r f w g = refl
piece_back s.fields (e.field_value ats m b) c x r f w g =
    let (i, j) = both_true (attributes_outer ats) _ f in
    let (k, l) = both_true (member_fits m) _ j in
    field_value_back ats m b x r i k l g
piece_back s.fields (e.rest true) c x r f w g = rest_back r
piece_back s.fields (e.rest false) c x r f w g = absurd cc
piece_back s.conditions e.condition c x r f w g = refl
piece_back s.otherwise e.chained c x r f w g = chained_back r
piece_back s.loops e.loop_head c x r f w g = refl
piece_back s.scrutinees e.scrutinee c x r f w g = refl
piece_back s.arms (e.guard ats p) c x r f w g = let (i, j) = both_true (attributes_outer ats) (pat_fits true p) f in guard_back ats p r i j
piece_back s.arms (e.arm ats p) c x r f w g = let (i, j) = both_true (attributes_outer ats) (pat_fits true p) f in arm_back ats p r i j
piece_back s.bodies e.guarded c x r f w g = guarded_back r
piece_back s.outputs e.output_block c x r f w g = refl
piece_back _ k c x r f w g = absurd cc

-- ---- after an operand

-- Nothing is after a last element without a comma, nor after a rest; after an arm's body no comma, and nothing or what ends with a block
-- before it.
abbrev pub ending_stops : Piece → Tree → Ending → List Tok → Bool
ending_stops e.element x e.no_ending l = is_empty l
ending_stops (e.field_value ats m b) x e.no_ending l = is_empty l
ending_stops (e.rest d) x e.no_ending l = is_empty l
ending_stops e.guarded x e.no_ending l = not (comma.at l) && (is_empty l || is_block_like x)
ending_stops (e.arm ats p) x e.no_ending l = not (comma.at l) && (is_empty l || is_block_like x)
ending_stops k x c l = true

-- what a `match` looks at is not ended this way
abbrev pub is_scrutinee : Piece → Bool
is_scrutinee e.scrutinee = true
is_scrutinee _ = false

last_back : (l : List Tok) → is_empty l ≡ true → s.comma_or_end l ≡ Some (e.no_ending, l)
unfolding sign_at
last_back [] g = refl
last_back (x ∷ l) g = absurd cc

arm_last_back : (x : Tree) (l : List Tok) → (not (comma.at l) && (is_empty l || is_block_like x)) ≡ true → s.behind_arm x l ≡ Some (e.no_ending, l)
arm_last_back x l g =
    let (i, j) = both_true (not (comma.at l)) (is_empty l || is_block_like x) g in
    rw (not_true (comma.at l) i, j) refl

condition_back : (b : Body) (l : List Tok) → is_nil b.inner ≡ true
    → and_then (group_at del.Brace (body_own b l)) (λ ts n. Some (e.braced (e.body_of [] ts), n)) ≡ Some (e.braced b, l)
unfolding group_at
condition_back b l f = by_inner b.inner b.tokens f
  where
    by_inner : (xs : List AttributeTree) (ts : List Tok) → is_nil xs ≡ true
        → and_then (group_at del.Brace (body_own (e.body_of xs ts) l)) (λ us n. Some (e.braced (e.body_of [] us), n)) ≡ Some (e.braced (e.body_of xs ts), l)
    by_inner [] ts f = rw (toks-inside ts) refl
    by_inner (a ∷ xs) ts f = absurd cc

loop_back : (b : Body) (l : List Tok) → body_fits b ≡ true → and_then (h.body.reads (body_own b l)) (λ x n. Some (e.braced x, n)) ≡ Some (e.braced b, l)
loop_back b l f = let a : Alike 0 h.body h.body = body_alike in rw (a.complete (body_own b l) b l (body_back b l f)) refl

pub ending_back : (k : Piece) (c : Ending) (x : Tree) (l r : List Tok) → ending_fits k c ≡ true → is_scrutinee k ≡ false → ending_stops k x c l ≡ true → ending_at k x (ending_own k c l r) ≡ Some (c, l)
unfolding ending_at sign_at
ending_back e.element e.no_ending x l r f g i = last_back l i
ending_back e.element e.comma x l r f g i = refl
ending_back (e.field_value ats m b) e.no_ending x l r f g i = last_back l i
ending_back (e.field_value ats m b) e.comma x l r f g i = refl
ending_back e.guarded e.no_ending x l r f g i = arm_last_back x l i
ending_back e.guarded e.comma x l r f g i = refl
ending_back (e.arm ats p) e.no_ending x l r f g i = arm_last_back x l i
ending_back (e.arm ats p) e.comma x l r f g i = refl
ending_back e.condition (e.braced b) x l r f g i = condition_back b l f
ending_back e.loop_head (e.braced b) x l r f g i = loop_back b l f
ending_back e.value e.no_ending x l r f g i = refl
ending_back e.repeated e.no_ending x l r f g i = refl
ending_back (e.rest d) e.no_ending x l r f g i = rw i refl
ending_back e.chained e.no_ending x l r f g i = refl
ending_back (e.guard ats p) e.no_ending x l r f g i = refl
ending_back e.output_block e.no_ending x l r f g i = refl
ending_back e.scrutinee c x l r f g i = absurd cc
ending_back _ c x l r f g i = absurd cc

-- the braces of a `match`
pub opened_back : (ats : List AttributeTree) (l r : List Tok) → group_at del.Brace (ending_own e.scrutinee (e.opened ats) l r) ≡ Some (attributes_own (inners ats) l, r)
unfolding group_at
opened_back ats l r = rw (toks-inside (attributes_own (inners ats) l)) refl

-- the group of a body and of operands
pub group_back : (d : Delimiter) (ts r : List Tok) → group_at d (enclosed d ts r) ≡ Some (ts, r)
unfolding group_at
group_back d ts r = rw (same_delimiter-refl d, toks-inside ts) refl

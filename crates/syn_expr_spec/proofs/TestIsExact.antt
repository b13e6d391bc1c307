-- The test of well-formed trees tells just those whose parts are read back.
use Rattle.std.proofs.Common.{◌≡◌, Bool, true, false, cond, not, ◌||◌, ◌⊎◌, inl, inr, List, [], ◌∷◌, Option, Some, None, refl, sym, ◌∙◌, ap, subst}
use Rattle.std.proofs.lemmas.Bool.{or_left, and_from, and_parts, not-true}
use Rattle.syn_lower_spec.specs.declared.label.PathStyle.TheVariants as style
use Rattle.syn_lower_spec.specs.Tree.{AttributeTree, LifetimesTree}
use Rattle.syn_tokens.specs.Tok.{Tok}
use Rattle.syn_tokens.specs.Front.{group_at}
use Rattle.syn_lower_spec.specs.Form.{Outcome, is_nil}
use Rattle.syn_lower_spec.specs.Mark.{sign_at, word_at}
use Rattle.syn_lower_spec.specs.Part.{lifetimes}
use Rattle.syn_lower_spec.specs.Own.{lifetimes_own}
use Rattle.syn_lower_spec.specs.Fits.{fits_if, lifetimes_fit}
use Rattle.syn_lower_spec.specs.Pat.{PatTree, closure_arg}
use Rattle.syn_lower_spec.specs.PatOwn.{pat_own}
use Rattle.syn_lower_spec.proofs.Exact.{tests_exact}
use Rattle.syn_lower_spec.proofs.PatWholeComplete.{pattern_tests_exact}
use Rattle.syn_lower_spec.proofs.Weights.{some_is}
use Rattle.syn_expr_spec.specs.declared.kinds.Limits.TheVariants as limits
use Rattle.syn_expr_spec.specs.declared.kinds.Infix.{Infix}
use Rattle.syn_expr_spec.specs.declared.kinds.Infix.TheVariants as inf
use Rattle.syn_expr_spec.specs.Head.{body}
use Rattle.syn_expr_spec.specs.Tree as e
use Rattle.syn_expr_spec.specs.Tree.{Tree, Children, Leaf, Prefix, Postfix, Trailer, Frame, Piece, Ending, Body, ClosureHead, leaf, paren, attributed, prefixed, infixed, postfixed, tail, frame, none, child, ending_own, is_block_like}
use Rattle.syn_expr_spec.specs.Slot as s
use Rattle.syn_expr_spec.specs.Slot.{Slot, after, may_end, piece_form, ending_at, frame_holder, trailer_holder}
use Rattle.syn_expr_spec.specs.WellFormed.{leaf_fits, inputs_fit, head_fits, prefix_fits, infix_fits, postfix_fits, trailer_fits, trailer_slot, frame_slot, frame_fits, piece_fits, ending_fits, may_stop, keeps_block, well, children_well, is_well_formed}
use Rattle.syn_expr_spec.specs.IsWellFormed.{SomeReadBack, AllReadBack, LeafReadBack, HeadReadBack, PrefixReadBack, PostfixReadBack, TrailerReadBack, FrameReadBack, PieceReadBack, EndingReadBack, first_slot, IsWellFormed, AreWellFormed, TestIsExact}
use Rattle.syn_expr_spec.proofs.Chains.{then_some}
use Rattle.syn_expr_spec.proofs.HeadPlaces.{ending_stops, ending_back}

is_not : (a : Bool) → a ≡ false → not a ≡ true
is_not a e = rw e refl

or_right : (a b : Bool) → b ≡ true → a || b ≡ true
or_right true b e = refl
or_right false b e = e

one_of : {A B : Type 0} (a b : Bool) → a || b ≡ true → (a ≡ true → A) → (b ≡ true → B) → A ⊎ B
one_of true b h f g = inl (f refl)
one_of false b h f g = inr (g h)

-- ---- where operands are

end_is : (x : Slot) → may_end x [] ≡ may_stop x
unfolding word_at
end_is s.elements = refl
end_is _ = refl

trailer_slot_is : (k : Trailer) → first_slot (trailer_holder k) ≡ trailer_slot k
trailer_slot_is e.call = refl
trailer_slot_is _ = refl

frame_slot_is : (k : Frame) (ks : Children) → FrameReadBack k ks → first_slot (frame_holder k) ≡ frame_slot k
frame_slot_is e.group_expr ks h = absurd h
frame_slot_is _ ks h = refl

-- ---- what is read back passes

some_pass : (o : Option LifetimesTree) → SomeReadBack lifetimes lifetimes_own o → fits_if lifetimes_fit o ≡ true
some_pass None h = refl
some_pass (Some x) h = (tests_exact.bound_lifetimes x).0 h

inputs_pass : (ps : List PatTree) → AllReadBack closure_arg pat_own ps → inputs_fit ps ≡ true
inputs_pass [] h = refl
inputs_pass (p ∷ ps) h = and_from _ _ ((pattern_tests_exact.closure_args p).0 h.0) (inputs_pass ps h.1)

head_passes : (c : ClosureHead) → HeadReadBack c → head_fits c ≡ true
head_passes c (f, g, h, i, j) =
    and_from _ _ (is_not _ f) (and_from _ _ (some_pass c.lifetimes g) (and_from _ _ (inputs_pass c.inputs h) (and_from _ _ i ((tests_exact.outputs true c.output).0 j))))

leaf_passes : (k : Leaf) → LeafReadBack k → leaf_fits k ≡ true
leaf_passes (e.lit x) h = (tests_exact.unsigned_literals x).0 h
leaf_passes (e.path q p) h = and_from _ _ ((tests_exact.qualified_paths style.Expr (q, p)).0 h.0) (is_not _ h.1)
leaf_passes (e.mac m) h = (tests_exact.macros m).0 h
leaf_passes (e.full_range limits.HalfOpen) h = refl
leaf_passes (e.full_range limits.Closed) h = absurd cc
leaf_passes (e.block w b) h = h
leaf_passes (e.loop_expr w b) h = h
leaf_passes (e.unsafe_block b) h = h
leaf_passes (e.const_block b) h = h
leaf_passes (e.verbatim ts) h = absurd h
leaf_passes _ h = refl

prefix_passes : (k : Prefix) → PrefixReadBack k → prefix_fits k ≡ true
prefix_passes (e.let_expr p) h = (pattern_tests_exact.patterns true p).0 h
prefix_passes (e.closure c) h = and_from _ _ (head_passes c h.0) h.1
prefix_passes _ h = refl

postfix_passes : (k : Postfix) → PostfixReadBack k → postfix_fits k ≡ true
postfix_passes (e.cast x) h = (tests_exact.types false x).0 h
postfix_passes (e.range_from limits.HalfOpen) h = refl
postfix_passes (e.range_from limits.Closed) h = absurd cc

trailer_passes : (k : Trailer) → TrailerReadBack k → trailer_fits k ≡ true
trailer_passes (e.method w a) h = and_from _ _ (is_not _ h.0) ((tests_exact.segment_arguments style.Expr a).0 h.1)
trailer_passes (e.field m) h = (pattern_tests_exact.members m).0 h
trailer_passes _ h = refl

frame_passes : (k : Frame) (ks : Children) → FrameReadBack k ks → frame_fits k ks ≡ true
frame_passes (e.structure q p d) ks (f, g, h) = and_from _ _ ((tests_exact.qualified_paths style.Expr (q, p)).0 f) (and_from _ _ (is_not _ g) (is_not _ h))
frame_passes (e.closure_block c) ks h = and_from _ _ (head_passes c h.0) (is_not _ h.1)
frame_passes (e.for_loop w p) ks h = (pattern_tests_exact.patterns true p).0 h
frame_passes e.group_expr ks h = absurd h
frame_passes _ ks h = refl

infix_passes : (k : Infix) → (k ≡ inf.Cast → ⊥) → infix_fits k ≡ true
infix_passes inf.Cast h = absurd (h refl)
infix_passes _ h = refl

no_test : (b : Bool) (n : List Tok) → cond {A = Option (List Tok)} b None None ≡ Some n → ⊥
no_test true n h = absurd cc
no_test false n h = absurd cc

no_tests : (b : Bool) (n : List Tok) → cond {A = Option (List Tok)} b (cond b None None) None ≡ Some n → ⊥
no_tests true n h = absurd cc
no_tests false n h = absurd cc

piece_passes : (x : Slot) (k : Piece) (c : Ending) (t : Tree) → PieceReadBack x k t → piece_fits x k c t ≡ true
unfolding piece_form
piece_passes s.elements e.element c t h = refl
piece_passes s.single e.value c t h = refl
piece_passes s.counted e.repeated c t h = refl
piece_passes s.fields (e.field_value ats m b) c t (f, g, h) = and_from _ _ f (and_from _ _ ((pattern_tests_exact.members m).0 g) h)
piece_passes s.fields (e.rest d) c t h = refl
piece_passes s.fields k c t h = absurd (no_tests _ [] h)
piece_passes s.conditions e.condition c t h = refl
piece_passes s.otherwise e.chained c t h = h
piece_passes s.otherwise k c t h = absurd (no_test _ [] h)
piece_passes s.loops e.loop_head c t h = refl
piece_passes s.scrutinees e.scrutinee c t h = refl
piece_passes s.arms (e.guard ats p) c t h = and_from _ _ h.0 ((pattern_tests_exact.patterns true p).0 h.1)
piece_passes s.arms (e.arm ats p) c t h = and_from _ _ h.0 ((pattern_tests_exact.patterns true p).0 h.1)
piece_passes s.bodies e.guarded c t h = refl
piece_passes s.bodies k c t h = absurd (no_test _ [] h)
piece_passes s.outputs e.output_block c t h = h
piece_passes s.groups k c t h = absurd h
piece_passes x k c t h = absurd cc

nil_inner : Ending → Bool
nil_inner (e.braced b) = is_nil b.inner
nil_inner c = true

no_none : {y : Ending × List Tok} → None ≡ Some y → ⊥
no_none h = absurd cc

apart : (b : Body) (ats : List AttributeTree) → e.braced b ≡ e.opened ats → ⊥
apart b ats h = absurd cc

no_opened : (b : Body) (l : List Tok) (ats : List AttributeTree) → ◌≡◌ {A = Outcome Ending} (Some (e.braced b, l)) (Some (e.opened ats, [])) → ⊥
no_opened b l ats h = apart b ats (ap (λ (r : Ending × List Tok). r.0) (some_is h))

none_is : (l : List Tok) (c : Ending) → ◌≡◌ {A = Outcome Ending} (Some (e.no_ending, l)) (Some (c, [])) → e.no_ending ≡ c
none_is l c h = ap (λ (r : Ending × List Tok). r.0) (some_is h)

arm_none : (b : Bool) (l : List Tok) (c : Ending) → cond {A = Outcome Ending} b (Some (e.no_ending, l)) None ≡ Some (c, []) → e.no_ending ≡ c
arm_none true l c h = none_is l c h
arm_none false l c h = absurd (no_none h)

no_false : false ≡ true → ⊥
no_false h = absurd cc

no_grouped : (x : Slot) (c : Ending) (t : Tree) → piece_fits x e.grouped c t ≡ true → ⊥
no_grouped s.elements c t h = no_false h
no_grouped _ c t h = no_false h

no_stray : (x : Slot) (c : Ending) (t : Tree) → piece_fits x e.stray c t ≡ true → ⊥
no_stray s.elements c t h = no_false h
no_stray _ c t h = no_false h

-- an ending that is none
plain_passes : (k : Piece) (c : Ending) → ending_fits k e.no_ending ≡ true → e.no_ending ≡ c → ending_fits k c ≡ true
plain_passes k c f g = subst (λ z. ending_fits k z ≡ true) g f

ending_passes : (x : Slot) (k : Piece) (c : Ending) (t : Tree) → piece_fits x k c t ≡ true → EndingReadBack k t c → ending_fits k c ≡ true
unfolding ending_at sign_at group_at body nil_inner
ending_passes x e.element e.no_ending t f h = refl
ending_passes x e.element e.comma t f h = refl
ending_passes x e.element c t f h = absurd (no_none h)
ending_passes x (e.field_value ats m b) e.no_ending t f h = refl
ending_passes x (e.field_value ats m b) e.comma t f h = refl
ending_passes x (e.field_value ats m b) c t f h = absurd (no_none h)
ending_passes x e.guarded e.no_ending t f h = refl
ending_passes x e.guarded e.comma t f h = refl
ending_passes x e.guarded c t f h = plain_passes e.guarded c refl (arm_none (is_block_like t) _ c h)
ending_passes x (e.arm ats p) e.no_ending t f h = refl
ending_passes x (e.arm ats p) e.comma t f h = refl
ending_passes x (e.arm ats p) c t f h = plain_passes (e.arm ats p) c refl (arm_none (is_block_like t) _ c h)
ending_passes x e.condition (e.braced b) t f h = sym (ap (λ (r : Ending × List Tok). nil_inner r.0) (some_is h))
ending_passes x e.condition (e.opened ats) t f h = absurd (no_opened _ _ ats h)
ending_passes x e.condition c t f h = absurd (no_none h)
ending_passes x e.loop_head (e.braced b) t f h = h
ending_passes x e.loop_head (e.opened ats) t f h =
    let (p, a, b) = then_some (body.reads (ending_own e.loop_head (e.opened ats) [] [])) (λ b n. Some (e.braced b, n)) (e.opened ats, []) h in
    absurd (no_opened p.0 p.1 ats b)
ending_passes x e.loop_head c t f h = absurd (no_none h)
ending_passes x e.scrutinee (e.opened ats) t f h = h
ending_passes x e.scrutinee c t f h = absurd (no_none h)
ending_passes x e.repeated e.no_ending t f h = refl
ending_passes x e.repeated c t f h = absurd (no_none h)
ending_passes x (e.rest d) e.no_ending t f h = refl
ending_passes x (e.rest d) c t f h = absurd (no_none h)
ending_passes x e.value c t f h = plain_passes e.value c refl (none_is _ c h)
ending_passes x e.chained c t f h = plain_passes e.chained c refl (none_is _ c h)
ending_passes x (e.guard ats p) c t f h = plain_passes (e.guard ats p) c refl (none_is _ c h)
ending_passes x e.output_block c t f h = plain_passes e.output_block c refl (none_is _ c h)
ending_passes x e.grouped c t f h = absurd (no_grouped x c t f)
ending_passes x e.stray c t f h = absurd (no_stray x c t f)

mutual
  passes : (t : Tree) → IsWellFormed t → well t ≡ true
  passes (leaf k) h = leaf_passes k h
  passes (paren m t) h = passes t h
  passes (attributed a more t) (f, g, h) = and_from _ _ f (and_from _ _ (is_not _ g) (passes t h))
  passes (prefixed k gs t) (f, g, h) = and_from _ _ (prefix_passes k f) (and_from _ _ g (passes t h))
  passes (infixed x k y) (f, g, h) = and_from _ _ (infix_passes k f) (and_from _ _ (passes x g) (passes y h))
  passes (postfixed x k) (f, g) = and_from _ _ (postfix_passes k f) (passes x g)
  passes (tail b k ks) (f, g, h) = and_from _ _ (trailer_passes k f) (and_from _ _ (passes b g) (children_pass ks (trailer_slot k) (subst (λ x. AreWellFormed x ks) (trailer_slot_is k) h)))
  passes (frame k ks) (f, g) = and_from _ _ (frame_passes k ks f) (children_pass ks (frame_slot k) (subst (λ x. AreWellFormed x ks) (frame_slot_is k ks f) g))

  children_pass : (ks : Children) (x : Slot) → AreWellFormed x ks → children_well x ks ≡ true
  children_pass none x h = sym (end_is x) ∙ h
  children_pass (child k c t ks) x (f, g, h, i) =
      let w : keeps_block k t || well t ≡ true = elim h [ inl z ↦ or_left _ _ z | inr z ↦ or_right _ _ (passes t z) ] in
      let y = piece_passes x k c t f in
      and_from _ _ (and_from _ _ y (ending_passes x k c t y g)) (and_from _ _ w (children_pass ks (after k) i))

-- ---- what passes is read back

some_complete : (o : Option LifetimesTree) → fits_if lifetimes_fit o ≡ true → SomeReadBack lifetimes lifetimes_own o
some_complete None h = tt
some_complete (Some x) h = (tests_exact.bound_lifetimes x).1 h

inputs_complete : (ps : List PatTree) → inputs_fit ps ≡ true → AllReadBack closure_arg pat_own ps
inputs_complete [] h = tt
inputs_complete (p ∷ ps) h = let (i, j) = and_parts _ _ h in ((pattern_tests_exact.closure_args p).1 i, inputs_complete ps j)

head_complete : (c : ClosureHead) → head_fits c ≡ true → HeadReadBack c
head_complete c h =
    let (f, g) = and_parts _ _ h in
    let (i, j) = and_parts _ _ g in
    let (l, m) = and_parts _ _ j in
    let (n, o) = and_parts _ _ m in
    (not-true _ f, some_complete c.lifetimes i, inputs_complete c.inputs l, n, (tests_exact.outputs true c.output).1 o)

leaf_complete : (k : Leaf) → leaf_fits k ≡ true → LeafReadBack k
leaf_complete (e.lit x) h = (tests_exact.unsigned_literals x).1 h
leaf_complete (e.path q p) h = let (i, j) = and_parts _ _ h in ((tests_exact.qualified_paths style.Expr (q, p)).1 i, not-true _ j)
leaf_complete (e.mac m) h = (tests_exact.macros m).1 h
leaf_complete (e.full_range limits.HalfOpen) h = refl
leaf_complete (e.full_range limits.Closed) h = absurd cc
leaf_complete (e.block w b) h = h
leaf_complete (e.loop_expr w b) h = h
leaf_complete (e.unsafe_block b) h = h
leaf_complete (e.const_block b) h = h
leaf_complete (e.verbatim ts) h = absurd cc
leaf_complete _ h = tt

prefix_complete : (k : Prefix) → prefix_fits k ≡ true → PrefixReadBack k
prefix_complete (e.let_expr p) h = (pattern_tests_exact.patterns true p).1 h
prefix_complete (e.closure c) h = let (i, j) = and_parts _ _ h in (head_complete c i, j)
prefix_complete _ h = tt

postfix_complete : (k : Postfix) → postfix_fits k ≡ true → PostfixReadBack k
postfix_complete (e.cast x) h = (tests_exact.types false x).1 h
postfix_complete (e.range_from limits.HalfOpen) h = refl
postfix_complete (e.range_from limits.Closed) h = absurd cc

trailer_complete : (k : Trailer) → trailer_fits k ≡ true → TrailerReadBack k
trailer_complete (e.method w a) h = let (i, j) = and_parts _ _ h in (not-true _ i, (tests_exact.segment_arguments style.Expr a).1 j)
trailer_complete (e.field m) h = (pattern_tests_exact.members m).1 h
trailer_complete _ h = tt

frame_complete : (k : Frame) (ks : Children) → frame_fits k ks ≡ true → FrameReadBack k ks
frame_complete (e.structure q p d) ks h =
    let (f, g) = and_parts _ _ h in
    let (i, j) = and_parts _ _ g in
    ((tests_exact.qualified_paths style.Expr (q, p)).1 f, not-true _ i, not-true _ j)
frame_complete (e.closure_block c) ks h = let (i, j) = and_parts _ _ h in (head_complete c i, not-true _ j)
frame_complete (e.for_loop w p) ks h = (pattern_tests_exact.patterns true p).1 h
frame_complete e.group_expr ks h = absurd cc
frame_complete _ ks h = tt

infix_complete : (k : Infix) → infix_fits k ≡ true → k ≡ inf.Cast → ⊥
infix_complete inf.Cast h q = absurd cc
infix_complete _ h q = absurd cc

piece_complete : (x : Slot) (k : Piece) (c : Ending) (t : Tree) → piece_fits x k c t ≡ true → PieceReadBack x k t
unfolding piece_form sign_at
piece_complete s.elements e.element c t h = refl
piece_complete s.single e.value c t h = refl
piece_complete s.counted e.repeated c t h = refl
piece_complete s.fields (e.field_value ats m b) c t h =
    let (f, g) = and_parts _ _ h in
    let (i, j) = and_parts _ _ g in
    (f, (pattern_tests_exact.members m).1 i, j)
piece_complete s.fields (e.rest d) c t h = tt
piece_complete s.conditions e.condition c t h = refl
piece_complete s.otherwise e.chained c t h = h
piece_complete s.loops e.loop_head c t h = refl
piece_complete s.scrutinees e.scrutinee c t h = refl
piece_complete s.arms (e.guard ats p) c t h = let (i, j) = and_parts _ _ h in (i, (pattern_tests_exact.patterns true p).1 j)
piece_complete s.arms (e.arm ats p) c t h = let (i, j) = and_parts _ _ h in (i, (pattern_tests_exact.patterns true p).1 j)
piece_complete s.bodies e.guarded c t h = refl
piece_complete s.outputs e.output_block c t h = h
piece_complete x k c t h = absurd cc

stops_before_none : (k : Piece) (c : Ending) (t : Tree) → ending_stops k t c [] ≡ true
unfolding sign_at
stops_before_none e.element e.no_ending t = refl
stops_before_none (e.field_value ats m b) e.no_ending t = refl
stops_before_none (e.rest d) e.no_ending t = refl
stops_before_none e.guarded e.no_ending t = refl
stops_before_none (e.arm ats p) e.no_ending t = refl
stops_before_none k c t = refl

ending_complete : (k : Piece) (c : Ending) (t : Tree) → ending_fits k c ≡ true → EndingReadBack k t c
ending_complete e.scrutinee (e.opened ats) t h = h
ending_complete e.scrutinee c t h = absurd cc
ending_complete e.loop_head (e.braced b) t h = h
ending_complete k c t h = ending_back k c t [] [] h refl (stops_before_none k c t)

mutual
  complete : (t : Tree) → well t ≡ true → IsWellFormed t
  complete (leaf k) h = leaf_complete k h
  complete (paren m t) h = complete t h
  complete (attributed a more t) h =
      let (f, g) = and_parts _ _ h in
      let (i, j) = and_parts _ _ g in
      (f, not-true _ i, complete t j)
  complete (prefixed k gs t) h =
      let (f, g) = and_parts _ _ h in
      let (i, j) = and_parts _ _ g in
      (prefix_complete k f, i, complete t j)
  complete (infixed x k y) h =
      let (f, g) = and_parts _ _ h in
      let (i, j) = and_parts _ _ g in
      (infix_complete k f, complete x i, complete y j)
  complete (postfixed x k) h = let (f, g) = and_parts _ _ h in (postfix_complete k f, complete x g)
  complete (tail b k ks) h =
      let (f, g) = and_parts _ _ h in
      let (i, j) = and_parts _ _ g in
      (trailer_complete k f, complete b i, subst (λ x. AreWellFormed x ks) (sym (trailer_slot_is k)) (children_complete ks (trailer_slot k) j))
  complete (frame k ks) h =
      let (f, g) = and_parts _ _ h in
      let back = frame_complete k ks f in
      (back, subst (λ x. AreWellFormed x ks) (sym (frame_slot_is k ks back)) (children_complete ks (frame_slot k) g))

  children_complete : (ks : Children) (x : Slot) → children_well x ks ≡ true → AreWellFormed x ks
  children_complete none x h = end_is x ∙ h
  children_complete (child k c t ks) x h =
      let (f, g) = and_parts _ _ h in
      let (i, j) = and_parts _ _ f in
      let (l, m) = and_parts _ _ g in
      (piece_complete x k c t i, ending_complete k c t j, one_of (keeps_block k t) (well t) l (λ z. z) (λ z. complete t z), children_complete ks (after k) m)

pub test_is_exact : TestIsExact
unfolding is_well_formed
test_is_exact t = (passes t, complete t)

-- What comes before, between and after operands passes its test, where it is read.
use Rattle.std.proofs.Common.{◌≡◌, ℕ, zero, suc, Bool, true, false, not, ◌&&◌, ◌||◌, List, [], ◌∷◌, ◌++◌, Some, None, refl, sym, ◌∙◌, ap, subst, arith}
use Rattle.std.specs.Prelude.{nat_lt, ◌==◌}
use Rattle.std.proofs.lemmas.Bool.{and_parts, and_from, eqb-true}
use Rattle.std.proofs.lemmas.Bool.Decides.{nat_tests}
use Rattle.syn_lexer.specs.declared.front.Delimiter.TheVariants as del
use Rattle.syn_tokens.specs.Tok.{Tok}
use Rattle.syn_lower_spec.specs.declared.label.PathStyle.TheVariants as style
use Rattle.syn_lower_spec.specs.Text.{Text, is_segment, stands_alone}
use Rattle.syn_lower_spec.specs.Same.{same_toks}
use Rattle.syn_lower_spec.specs.Tree as t
use Rattle.syn_lower_spec.specs.Tree.{AttributeTree, SegmentTree, ArgumentsTree}
use Rattle.syn_lower_spec.specs.Form.{Form, mark, both, pure, case, maybe, by_size, then_by, flag, is_true}
use Rattle.syn_lower_spec.specs.Mark.{lifetime_at, and, bang, colon2, comma, constant, eq, mutable, star, underscore}
use Rattle.syn_lower_spec.specs.Part as p
use Rattle.syn_lower_spec.specs.Part.{QPathTree, MacroEnd, lifetimes_at}
use Rattle.syn_lower_spec.specs.Own.{no_more_segments, count_segments, at_most}
use Rattle.syn_lower_spec.specs.Pat.{PatTree, dots}
use Rattle.syn_lower_spec.specs.Fits.{type_fits, unsigned_fits, lifetimes_fit, arguments_stop, arguments_fit, qself_fits, segments_fit, qpath_fits, macro_fits}
use Rattle.syn_lower_spec.specs.PatFits.{attributes_outer, member_fits, pat_fits, closure_arg_fits}
use Rattle.syn_lower_spec.proofs.TypesBack.{at_most_zero, at_most_less}
use Rattle.syn_expr_spec.specs.declared.kinds.UnKind.TheVariants as un
use Rattle.syn_expr_spec.specs.Path as path
use Rattle.syn_expr_spec.specs.Tree as e
use Rattle.syn_expr_spec.specs.Tree.{Leaf, Prefix, Piece}
use Rattle.syn_expr_spec.specs.Head as h
use Rattle.syn_expr_spec.specs.Slot as s
use Rattle.syn_expr_spec.specs.Slot.{Slot}
use Rattle.syn_expr_spec.specs.WellFormed.{attributes_inner, body_fits, inputs_fit, head_fits, trailer_fits}
use Rattle.syn_text_spec.proofs.Finds.{Each}
use Rattle.syn_text_spec.proofs.Tells.{Said, Tells, Of, Any, moved, weaker, or_tells, mark_tells, then_by_tells, both_tells, shown_tells, pure_tells, leaf_tells, inside_tells, fix_tells, never_tells, closed_of, AllOf, listed_tells, Chain, more_tells}
use Rattle.syn_text_spec.proofs.FitTypes.{Ok, any, anything, Good, Links, name_tells, unsigned_tells, lifetimes_tells, maybe_fits, Macro, macro_end_tells, on, Segments, segments_pass, no_arguments_over, bare_macro, qpath_tells, segment_tells, output_tells, method_arguments, type_tells}
use Rattle.syn_text_spec.proofs.FitPats.{outer_tells, member_tells, patterns, closure_arg_tells}

-- ---- paths of expressions: some of the segments may be in an invisible group

-- In an expression's path another segment may follow each.
expr_over : (w : Text) (a : ArgumentsTree) (v : Text) → arguments_fit style.Expr a ≡ true → arguments_stop style.Expr w a (on v) ≡ true
expr_over w t.no_arguments v h = no_arguments_over style.Expr w v
expr_over w (t.angle c gs e) v h = refl
expr_over w (t.round xs e o) v h = absurd cc

goes_on : (xs more : List SegmentTree) → segments_fit 0 style.Expr (t.segments_of xs) ≡ true → Segments style.Expr more → segments_fit 0 style.Expr (t.segments_of (xs ++ more)) ≡ true
goes_on [] more h g = segments_pass style.Expr more g
goes_on (x ∷ []) [] h g = h
goes_on (x ∷ []) (y ∷ more) h g =
    let a = and_parts (is_segment x.ident) _ h in
    let c = and_parts (not (stands_alone x.ident) || p.has_none x.arguments) _ a.1 in
    let d = and_parts (arguments_fit style.Expr x.arguments) _ c.1 in
    and_from _ _ a.0 (and_from _ _ c.0 (and_from _ _ d.0 (and_from _ _ (expr_over x.ident x.arguments y.ident d.0) (segments_pass style.Expr (y ∷ more) g))))
goes_on (x ∷ z ∷ xs) more h g =
    let a = and_parts (is_segment x.ident) _ h in
    let c = and_parts (not (stands_alone x.ident) || p.has_none x.arguments) _ a.1 in
    let d = and_parts (arguments_fit style.Expr x.arguments) _ c.1 in
    let f = and_parts (arguments_stop style.Expr x.ident x.arguments (on z.ident)) _ d.1 in
    and_from _ _ a.0 (and_from _ _ c.0 (and_from _ _ d.0 (and_from _ _ f.0 (goes_on (z ∷ xs) more f.1 g))))

-- n segments are in the `<` and `>` of a qualified path, fewer than there are
goes_on_within : (n : ℕ) (xs more : List SegmentTree) → nat_lt n (count_segments (t.segments_of xs)) ≡ true → segments_fit n style.Expr (t.segments_of xs) ≡ true → Segments style.Expr more
    → segments_fit n style.Expr (t.segments_of (xs ++ more)) ≡ true
goes_on_within zero xs more i h g = goes_on xs more h g
goes_on_within (suc n) [] more i h g = absurd (grind (arith, nat_tests, i))
goes_on_within (suc n) (x ∷ []) more i h g = absurd (grind (arith, nat_tests, i))
goes_on_within (suc zero) (x ∷ z ∷ xs) more i h g =
    let a = and_parts (is_segment x.ident) _ h in
    let c = and_parts (not (stands_alone x.ident) || p.has_none x.arguments) _ a.1 in
    let d = and_parts (arguments_fit style.Type x.arguments) _ c.1 in
    and_from _ _ a.0 (and_from _ _ c.0 (and_from _ _ d.0 (goes_on (z ∷ xs) more d.1 g)))
goes_on_within (suc (suc n)) (x ∷ z ∷ xs) more i h g =
    let j : nat_lt (suc n) (count_segments (t.segments_of (z ∷ xs))) ≡ true = grind (arith, nat_tests, i) in
    let a = and_parts (is_segment x.ident) _ h in
    let c = and_parts (not (stands_alone x.ident) || p.has_none x.arguments) _ a.1 in
    let d = and_parts (arguments_fit style.Type x.arguments) _ c.1 in
    let f = and_parts (arguments_stop style.Type x.ident x.arguments (on z.ident)) _ d.1 in
    and_from _ _ a.0 (and_from _ _ c.0 (and_from _ _ d.0 (and_from _ _ f.0 (goes_on_within (suc n) (z ∷ xs) more j f.1 g))))

count_more : (n : ℕ) (xs more : List SegmentTree) → nat_lt n (count_segments (t.segments_of xs)) ≡ true → nat_lt n (count_segments (t.segments_of (xs ++ more))) ≡ true
count_more n [] more h = absurd (grind (arith, nat_tests, h))
count_more zero (x ∷ xs) more h = grind (arith, nat_tests)
count_more (suc n) (x ∷ xs) more h =
    let i : nat_lt n (count_segments (t.segments_of xs)) ≡ true = grind (arith, nat_tests, h) in
    let j = count_more n xs more i in
    grind (arith, nat_tests, j)

some_more : (xs more : List SegmentTree) → not (no_more_segments (t.segments_of xs)) ≡ true → not (no_more_segments (t.segments_of (xs ++ more))) ≡ true
some_more [] more h = absurd cc
some_more (x ∷ xs) more h = refl

abbrev pub PathFits : QPathTree → Type 0
PathFits q = qpath_fits style.Expr q ≡ true

to_path : (x : QPathTree × List SegmentTree) → PathFits x.0 → Segments style.Expr x.1 → PathFits (path.to_path x)
to_path ((t.no_qself, y), more) f g =
    let a = and_parts (not y.trailing) _ f in
    let c = and_parts (not (no_more_segments (t.segments_of y.segments))) _ a.1 in
    and_from _ _ a.0 (and_from _ _ (some_more y.segments more c.0) (and_from true _ refl (goes_on y.segments more (and_parts true _ c.1).1 g)))
to_path ((t.qself x n false, y), more) f g =
    let a = and_parts (not y.trailing) _ f in
    let c = and_parts (not (no_more_segments (t.segments_of y.segments))) _ a.1 in
    let d = and_parts (qself_fits (t.qself x n false) y.leading (count_segments (t.segments_of y.segments))) _ c.1 in
    let k = and_parts (type_fits true x) _ d.0 in
    let z : n ≡ 0 = eqb-true n 0 (and_parts (n == 0) y.leading k.1).0 in
    let inner : segments_fit 0 style.Expr (t.segments_of y.segments) ≡ true =
    subst (λ i. segments_fit i style.Expr (t.segments_of y.segments) ≡ true) (ap (λ i. at_most i (count_segments (t.segments_of y.segments))) z ∙ at_most_zero (count_segments (t.segments_of y.segments))) d.1 in
    let all = y.segments ++ more in
    let outer : segments_fit (at_most n (count_segments (t.segments_of all))) style.Expr (t.segments_of all) ≡ true =
    subst (λ i. segments_fit i style.Expr (t.segments_of all) ≡ true) (sym (ap (λ i. at_most i (count_segments (t.segments_of all))) z ∙ at_most_zero (count_segments (t.segments_of all)))) (goes_on y.segments more inner g) in
    and_from _ _ a.0 (and_from _ _ (some_more y.segments more c.0) (and_from _ _ (and_from _ _ k.0 k.1) outer))
to_path ((t.qself x n true, y), more) f g =
    let a = and_parts (not y.trailing) _ f in
    let c = and_parts (not (no_more_segments (t.segments_of y.segments))) _ a.1 in
    let d = and_parts (qself_fits (t.qself x n true) y.leading (count_segments (t.segments_of y.segments))) _ c.1 in
    let k = and_parts (type_fits true x) _ d.0 in
    let i = and_parts (nat_lt 0 n) (nat_lt n (count_segments (t.segments_of y.segments))) k.1 in
    let all = y.segments ++ more in
    let j : nat_lt n (count_segments (t.segments_of all)) ≡ true = count_more n y.segments more i.1 in
    let inner : segments_fit n style.Expr (t.segments_of y.segments) ≡ true =
    subst (λ o. segments_fit o style.Expr (t.segments_of y.segments) ≡ true) (at_most_less n (count_segments (t.segments_of y.segments)) i.1) d.1 in
    let outer : segments_fit (at_most n (count_segments (t.segments_of all))) style.Expr (t.segments_of all) ≡ true =
    subst (λ o. segments_fit o style.Expr (t.segments_of all) ≡ true) (sym (at_most_less n (count_segments (t.segments_of all)) j)) (goes_on_within n y.segments more i.1 inner g) in
    and_from _ _ a.0 (and_from _ _ (some_more y.segments more c.0) (and_from _ _ (and_from _ _ k.0 (and_from _ _ i.0 j)) outer))

by_size_tells : {A : Type 0} {P : Said A} {f : ℕ → Form A} (size : List Tok → ℕ) → ((n : ℕ) → Tells P (f n)) → Tells P (by_size size f)
by_size_tells size k = record { tells = λ l x n g. let a = k (size l) in a.tells l x n g }

step_tells : (again : Bool → Form QPathTree) → ((b : Bool) → Tells (Of PathFits) (again b)) → (braces : Bool) → Tells (Of PathFits) (path.path_step again braces)
step_tells again k braces =
    or_tells path.invisible_at
    (by_size_tells (path.count_inside (again false)) (λ n.
    shown_tells {Q = Of PathFits} path.to_path (path.from_path n)
    (then_by_tells (inside_tells del.None (k false)) (λ q. or_tells {P = Of (Segments style.Expr)} (path.goes_on_path braces q)
    (weaker (more_tells (Good style.Expr) (Links style.Expr) colon2 (segment_tells type_tells style.Expr)) (λ l x n h. h.0)) never_tells))
    (λ l x n h. to_path x h.1 h.2)))
    (weaker (qpath_tells type_tells style.Expr) (λ l x n h. h.0))

pub expr_path_tells : (braces : Bool) → Tells (Of PathFits) (path.expr_path braces)
unfolding path.expr_path
expr_path_tells braces = fix_tells {A = λ b. QPathTree} {P = λ b. Of PathFits} {step = path.path_step} step_tells braces

-- ---- blocks

inner_pass : (ats : List AttributeTree) → Chain (λ (a : AttributeTree). a.inner ≡ true) (λ (a : AttributeTree). Unit {0}) ats → attributes_inner ats ≡ true
inner_pass [] h = refl
inner_pass (a ∷ []) h = and_from _ _ h refl
inner_pass (a ∷ b ∷ ats) h = and_from _ _ h.0 (inner_pass (b ∷ ats) h.2)

abbrev pub InnerSaid : Said (List AttributeTree)
InnerSaid l ats n = (attributes_inner ats ≡ true) × (p.pound_bang.at n ≡ false)

pub inner_tells : Tells InnerSaid p.inner_attributes
unfolding p.inner_attributes p.inner_body
inner_tells =
    weaker {Q = InnerSaid}
    (more_tells (λ (a : AttributeTree). a.inner ≡ true) (λ (a : AttributeTree). Unit {0}) p.pound_bang (shown_tells p.to_inner p.from_inner (anything (p.verbatim del.Bracket)) (λ l x n h. (refl, λ e. tt))))
    (λ l x n h. (inner_pass x h.0, h.2))

all_left_tells : Tells (λ l x n. x ≡ l) h.all_left
unfolding h.all_left
all_left_tells = leaf_tells same_toks (λ l x n g. moved (λ k y m. y ≡ l) l l x [] n g refl)

pub body_tells : Tells (Ok body_fits) h.body
unfolding h.body h.body_inside
body_tells =
    inside_tells del.Brace (shown_tells {Q = Ok body_fits} h.to_body h.from_body (both_tells inner_tells all_left_tells)
    (λ l x n g. and_from _ _ g.1.0 (ap (λ k. not (p.pound_bang.at k)) g.2 ∙ ap not g.1.1)))

-- ---- leaves

-- as the test of well-formed trees, but for what is asked of its place
abbrev pub leaf_ok : Leaf → Bool
leaf_ok (e.lit x) = unsigned_fits x
leaf_ok (e.path q y) = qpath_fits style.Expr (q, y)
leaf_ok (e.mac m) = macro_fits m
leaf_ok (e.block w b) = body_fits b
leaf_ok (e.loop_expr w b) = body_fits b
leaf_ok (e.unsafe_block b) = body_fits b
leaf_ok (e.const_block b) = body_fits b
leaf_ok _ = true

named_tells : Tells (Ok leaf_ok) h.named
unfolding h.named
named_tells = shown_tells {Q = Ok leaf_ok} h.to_named h.from_named (then_by_tells (expr_path_tells false) macro_end_tells) (λ l x n g. made x g.1 g.2.0)
  where
    made : (x : QPathTree × MacroEnd) → PathFits x.0 → Macro x.0 x.1 → leaf_ok (h.to_named x) ≡ true
    made ((q, y), None) f g = f
    made ((q, y), Some z) f g = and_from _ _ (bare_macro style.Expr q y f g.0) g.1

pub leaf_form_tells : Tells (Ok leaf_ok) h.leaf_form
unfolding h.leaf_form
leaf_form_tells =
    or_tells h.literal_at (shown_tells {Q = Ok leaf_ok} e.lit h.from_lit unsigned_tells (λ l x n g. g))
    (or_tells underscore.at (mark_tells {P = Ok leaf_ok} {Q = Ok leaf_ok} underscore (pure_tells e.infer h.is_infer (λ l. refl)) (λ l x n i g. g))
    (or_tells h.range_at (shown_tells {Q = Ok leaf_ok} e.full_range h.from_full_range (anything h.range_op) (λ l x n g. refl))
    (or_tells h.jump_at (shown_tells {Q = Ok leaf_ok} e.bare_jump h.from_bare_jump (anything h.jump_head) (λ l x n g. refl))
    (or_tells h.continue_word.at (mark_tells {P = Ok leaf_ok} {Q = Ok leaf_ok} h.continue_word (shown_tells {Q = Ok leaf_ok} e.continuing h.from_continuing (anything (maybe lifetime_at p.lifetime)) (λ l x n g. refl)) (λ l x n i g. g))
    (or_tells h.loop_at (shown_tells {Q = Ok leaf_ok} h.to_loop h.from_loop (both_tells (anything h.label) (mark_tells {Q = Ok body_fits} h.loop_word body_tells (λ l x n i g. g))) (λ l x n g. g.2))
    (or_tells h.block_at (shown_tells {Q = Ok leaf_ok} h.to_block h.from_block (both_tells (anything h.label) body_tells) (λ l x n g. g.2))
    (or_tells h.unsafe_word.at (mark_tells {P = Ok leaf_ok} {Q = Ok leaf_ok} h.unsafe_word (shown_tells {Q = Ok leaf_ok} e.unsafe_block h.from_unsafe body_tells (λ l x n g. g)) (λ l x n i g. g))
    (or_tells h.const_block_at (mark_tells {P = Ok leaf_ok} {Q = Ok leaf_ok} constant (shown_tells {Q = Ok leaf_ok} e.const_block h.from_const body_tells (λ l x n g. g)) (λ l x n i g. g))
    (or_tells h.async_block_at (mark_tells {P = Ok leaf_ok} {Q = Ok leaf_ok} h.async_word (shown_tells {Q = Ok leaf_ok} h.to_async h.from_async (anything (both (flag h.move_word) p.block)) (λ l x n g. refl)) (λ l x n i g. g))
    (or_tells h.try_block_at (mark_tells {P = Ok leaf_ok} {Q = Ok leaf_ok} h.try_word (shown_tells {Q = Ok leaf_ok} e.try_block h.from_try (anything p.block) (λ l x n g. refl)) (λ l x n i g. g))
    (or_tells h.builtin_at (shown_tells {Q = Ok leaf_ok} e.verbatim h.from_verbatim (anything h.builtin) (λ l x n g. refl))
    named_tells)))))))))))

-- ---- closures

captures_tells : Tells (Of (λ (x : Bool × Bool). not (x.0 && x.1) ≡ true)) (then_by (flag h.move_word) h.use_behind)
captures_tells = weaker {Q = Of (λ (x : Bool × Bool). not (x.0 && x.1) ≡ true)} (then_by_tells (anything (flag h.move_word)) use_tells) (λ l x n g. g.2)
  where
    use_tells : (b : Bool) → Tells (λ l c n. not (b && c) ≡ true) (h.use_behind b)
    use_tells true = pure_tells false not (λ l. refl)
    use_tells false = weaker {P = Any} any (λ l c n g. refl)

inputs_pass : (xs : List PatTree) → Each (λ x. closure_arg_fits x ≡ true) xs → inputs_fit xs ≡ true
inputs_pass [] g = refl
inputs_pass (x ∷ xs) g = and_from _ _ g.0 (inputs_pass xs g.1)

inputs_tells : Tells (Of (AllOf (λ x. closure_arg_fits x ≡ true))) h.closure_inputs
unfolding h.closure_inputs
inputs_tells = mark_tells {Q = Of (AllOf (λ x. closure_arg_fits x ≡ true))} h.bar (closed_of h.bar (listed_tells comma h.bar.at closure_arg_tells)) (λ l x n i g. g)

pub closure_head_tells : Tells (Ok head_fits) h.closure_head
unfolding h.closure_head
closure_head_tells =
    shown_tells {Q = Ok head_fits} h.to_head h.from_head
    (both_tells (maybe_fits lifetimes_fit lifetimes_at lifetimes_tells) (both_tells (anything (flag constant)) (both_tells (anything (flag h.static_word)) (both_tells (anything (flag h.async_word)) (both_tells captures_tells (both_tells inputs_tells (output_tells type_tells true)))))))
    (λ l x n g.
    let k = g.2.2.2.2 in
    and_from _ _ k.1 (and_from _ _ g.1 (and_from _ _ (inputs_pass x.1.1.1.1.1.0.0 k.2.1.0) (and_from _ _ k.2.1.1 k.2.2.0))))

-- ---- what comes before an operand

abbrev pub prefix_ok : Prefix → Bool
prefix_ok (e.let_expr x) = pat_fits true x
prefix_ok (e.closure c) = head_fits c
prefix_ok _ = true

pub prefix_form_tells : Tells (Ok prefix_ok) h.prefix_form
unfolding h.prefix_form
prefix_form_tells =
    or_tells star.at (mark_tells {P = Ok prefix_ok} {Q = Ok prefix_ok} star (pure_tells (e.unary un.Deref) h.is_deref (λ l. refl)) (λ l x n i g. g))
    (or_tells bang.at (mark_tells {P = Ok prefix_ok} {Q = Ok prefix_ok} bang (pure_tells (e.unary un.Not) h.is_not (λ l. refl)) (λ l x n i g. g))
    (or_tells h.minus.at (mark_tells {P = Ok prefix_ok} {Q = Ok prefix_ok} h.minus (pure_tells (e.unary un.Neg) h.is_neg (λ l. refl)) (λ l x n i g. g))
    (or_tells and.at
    (mark_tells {P = Ok prefix_ok} {Q = Ok prefix_ok} and
    (or_tells h.raw_at (mark_tells {P = Ok prefix_ok} {Q = Ok prefix_ok} h.raw_word (shown_tells {Q = Ok prefix_ok} e.raw_addr h.from_raw_addr (anything p.mutability) (λ l x n g. refl)) (λ l x n i g. g))
    (shown_tells {Q = Ok prefix_ok} e.reference h.from_reference (anything (flag mutable)) (λ l x n g. refl)))
    (λ l x n i g. g))
    (or_tells h.range_at (shown_tells {Q = Ok prefix_ok} e.range_to h.from_range_to (anything h.range_op) (λ l x n g. refl))
    (or_tells h.let_word.at (mark_tells {P = Ok prefix_ok} {Q = Ok prefix_ok} h.let_word (shown_tells {Q = Ok prefix_ok} e.let_expr h.from_let (closed_of eq patterns) (λ l x n g. g)) (λ l x n i g. g))
    (or_tells h.jump_at (shown_tells {Q = Ok prefix_ok} e.jump h.from_jump (anything h.jump_head) (λ l x n g. refl))
    (shown_tells {Q = Ok prefix_ok} e.closure h.from_closure closure_head_tells (λ l x n g. g))))))))

-- ---- trailers after a dot

pub dotted_tells : Tells (Ok trailer_fits) h.dotted
unfolding h.dotted
dotted_tells =
    or_tells h.await_word.at (mark_tells {P = Ok trailer_fits} {Q = Ok trailer_fits} h.await_word (pure_tells e.await h.is_await (λ l. refl)) (λ l x n i g. g))
    (or_tells h.method_at (shown_tells {Q = Ok trailer_fits} h.to_method h.from_method (both_tells name_tells (method_arguments type_tells)) (λ l x n g. and_from _ _ g.1 g.2))
    (shown_tells {Q = Ok trailer_fits} e.field h.from_field member_tells (λ l x n g. g)))

pub for_head_tells : Tells (Of (λ x. pat_fits true x ≡ true)) s.for_head
for_head_tells = mark_tells {Q = Of (λ x. pat_fits true x ≡ true)} s.for_word (closed_of s.in_word patterns) (λ l x n i g. g)

-- ---- what comes before an operand in a place of its own

abbrev pub piece_ok : Slot → Piece → Bool
piece_ok s.elements e.element = true
piece_ok s.single e.value = true
piece_ok s.counted e.repeated = true
piece_ok s.fields (e.field_value ats m c) = attributes_outer ats && member_fits m
piece_ok s.fields (e.rest d) = true
piece_ok s.conditions e.condition = true
piece_ok s.otherwise e.chained = true
piece_ok s.loops e.loop_head = true
piece_ok s.scrutinees e.scrutinee = true
piece_ok s.arms (e.guard ats x) = attributes_outer ats && pat_fits true x
piece_ok s.arms (e.arm ats x) = attributes_outer ats && pat_fits true x
piece_ok s.bodies e.guarded = true
piece_ok s.outputs e.output_block = true
piece_ok s.groups e.grouped = true
piece_ok _ k = false

pub piece_form_tells : (q : Slot) → Tells (Ok (piece_ok q)) (s.piece_form q)
unfolding s.piece_form
piece_form_tells s.elements = pure_tells e.element (s.is_of s.elements) (λ l. refl)
piece_form_tells s.single = pure_tells e.value (s.is_of s.single) (λ l. refl)
piece_form_tells s.counted = pure_tells e.repeated (s.is_of s.counted) (λ l. refl)
piece_form_tells s.fields =
    or_tells dots.at (mark_tells {P = Ok (piece_ok s.fields)} {Q = Ok (piece_ok s.fields)} dots (pure_tells (e.rest true) s.is_rest (λ l. refl)) (λ l x n i g. g))
    (shown_tells {Q = Ok (piece_ok s.fields)} s.to_field s.from_field (both_tells outer_tells (then_by_tells member_tells (λ m. anything (s.field_colon m)))) (λ l x n g. and_from _ _ g.1 g.2.1))
piece_form_tells s.conditions = pure_tells e.condition (s.is_of s.conditions) (λ l. refl)
piece_form_tells s.otherwise = mark_tells {P = Ok (piece_ok s.otherwise)} {Q = Ok (piece_ok s.otherwise)} s.else_word (pure_tells e.chained s.is_chained (λ l. refl)) (λ l x n i g. g)
piece_form_tells s.loops = pure_tells e.loop_head (s.is_of s.loops) (λ l. refl)
piece_form_tells s.scrutinees = pure_tells e.scrutinee s.is_scrutinee (λ l. refl)
piece_form_tells s.arms = shown_tells {Q = Ok (piece_ok s.arms)} s.to_arm s.from_arm (both_tells outer_tells (both_tells patterns (anything (case s.if_word (pure true is_true) (mark s.fat_arrow (pure false not)))))) (λ l x n g. made x g.1 g.2.1)
  where
    made : (x : List AttributeTree × (PatTree × Bool)) → attributes_outer x.0 ≡ true → pat_fits true x.1.0 ≡ true → piece_ok s.arms (s.to_arm x) ≡ true
    made (ats, (y, true)) f g = and_from _ _ f g
    made (ats, (y, false)) f g = and_from _ _ f g
piece_form_tells s.bodies = mark_tells {P = Ok (piece_ok s.bodies)} {Q = Ok (piece_ok s.bodies)} s.fat_arrow (pure_tells e.guarded (s.is_of s.bodies) (λ l. refl)) (λ l x n i g. g)
piece_form_tells s.outputs = pure_tells e.output_block (s.is_of s.outputs) (λ l. refl)
piece_form_tells s.groups = pure_tells e.grouped (s.is_of s.groups) (λ l. refl)
piece_form_tells s.done = record { tells = λ l x n i. absurd cc }

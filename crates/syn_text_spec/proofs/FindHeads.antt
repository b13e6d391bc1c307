-- The leaves of what comes before, between and after operands, read of a list that a text falls into.
use Rattle.std.proofs.Common.{◌≡◌, ℕ, Bool, true, false, not, ◌&&◌, ◌==◌, List, [], ◌∷◌, Option, Some, None, refl, subst, codes}
use Rattle.std.specs.Str.{bytes_eq}
use Rattle.std.proofs.lemmas.Bool.{and_from}
use Rattle.syn_lexer.specs.Keywords.{is_reserved_word}
use Rattle.syn_lexer.specs.declared.front.Delimiter.TheVariants as del
use Rattle.syn_lexer.specs.declared.front.Spacing.{Spacing}
use Rattle.syn_lexer.specs.declared.front.Spacing.TheVariants.{Alone, Joint}
use Rattle.syn_tokens.specs.Tok.{Tok, Inside, ident, punct, group}
use Rattle.syn_lower_spec.specs.declared.label.PathStyle.TheVariants as style
use Rattle.syn_lower_spec.specs.Text.{Text}
use Rattle.syn_lower_spec.specs.Same.{same_toks}
use Rattle.syn_lower_spec.specs.Tree.{AttributeTree, SegmentTree}
use Rattle.syn_lower_spec.specs.Form.{Form, by_size, flag, then_by, is_true}
use Rattle.syn_lower_spec.specs.Mark.{sign, lifetime_at, and, bang, colon, colon2, comma, constant, eq, mutable, star, underscore}
use Rattle.syn_lower_spec.specs.Part.{QPathTree, MacroEnd, lifetimes_at}
use Rattle.syn_lower_spec.specs.Pat.{MemberTree, PatTree, a_name, an_index, dots}
use Rattle.syn_lower_spec.proofs.Weights.{some_is}
use Rattle.syn_expr_spec.specs.declared.kinds.UnKind.TheVariants as un
use Rattle.syn_expr_spec.specs.declared.kinds.Limits.TheVariants as limits
use Rattle.syn_expr_spec.specs.Path as path
use Rattle.syn_expr_spec.specs.Tree as e
use Rattle.syn_expr_spec.specs.Tree.{Body}
use Rattle.syn_expr_spec.specs.Head as h
use Rattle.syn_expr_spec.specs.Slot as s
use Rattle.syn_expr_spec.specs.Slot.{Slot}
use Rattle.syn_text.specs.Lexed.{is_ident_text, stays, is_lexed}
use Rattle.syn_text_spec.specs.Leaves.{word_lexed, lifetime_lexed, lexed_if, group_lexed, attributes_lexed, lifetimes_lexed, arguments_lexed, return_lexed, path_lexed, member_lexed, all_lexed, pat_lexed, body_lexed, jump_lexed, leaf_lexed, closure_lexed, prefix_lexed, trailer_lexed, piece_lexed}
use Rattle.syn_text_spec.proofs.Lists.{Lexed, nil}
use Rattle.syn_text_spec.proofs.Finds.{behind, stays_here, Finds, never_finds, when_finds, mark_finds, then_by_finds, both_finds, shown_finds, pure_finds, leaf_finds, inside_finds, fix_finds, Each, EachOf, each_lexed, each_append, listed_finds, more_finds, Nothing, IfThere, maybe_finds, closed_by_finds, flag_finds, case_finds}
use Rattle.syn_text_spec.proofs.FindParts.{Ok, if_there, name_finds, lifetime_finds, unsigned_finds, OfGroup, outer_finds, inner_finds, block_finds, weaker_finds, lifetimes_finds, mutability_finds, macro_end_finds, Segment, QPath, path_found, qpath_found, output_finds, arguments_finds, segment_finds, qpath_finds, type_finds}
use Rattle.syn_text_spec.proofs.FindPats.{member_finds, pattern_finds, closure_arg_finds}

-- ---- paths of expressions

by_size_finds : {A : Type 0} {P : A → Type 0} {f : ℕ → Form A} (size : List Tok → ℕ) → ((n : ℕ) → Finds P (f n)) → Finds P (by_size size f)
by_size_finds size k = record { finds = λ l x n g. let a = k (size l) in a.finds l x n g }

to_path : (x : QPathTree × List SegmentTree) → QPath x.0 × Each Segment x.1 → QPath (path.to_path x)
to_path ((q, w), more) g = (g.0.0, each_append Segment w.segments more g.0.1 g.1)

step_finds : (again : Bool → Form QPathTree) → ((b : Bool) → Finds QPath (again b)) → (braces : Bool) → Finds QPath (path.path_step again braces)
step_finds again k braces =
    when_finds path.invisible_at
    (by_size_finds (path.count_inside (again false)) (λ n.
    shown_finds path.to_path (path.from_path n) (then_by_finds (inside_finds del.None (k false)) (λ q. when_finds (path.goes_on_path braces q) (more_finds colon2 (segment_finds type_finds style.Expr)) never_finds)) to_path))
    (qpath_finds type_finds style.Expr)

pub expr_path_finds : (braces : Bool) → Finds QPath (path.expr_path braces)
unfolding path.expr_path
expr_path_finds braces = fix_finds {A = λ b. QPathTree} {P = λ b. QPath} {step = path.path_step} step_finds braces

-- ---- labels, jumps, ranges, blocks

pub label_finds : Finds (IfThere (Ok lifetime_lexed)) h.label
label_finds = maybe_finds lifetime_at (closed_by_finds colon lifetime_finds)

pub jump_head_finds : Finds (Ok jump_lexed) h.jump_head
unfolding h.jump_head
jump_head_finds =
    case_finds h.return_word (pure_finds e.returning h.is_returning refl)
    (case_finds h.yield_word (pure_finds e.yielding h.is_yielding refl)
    (mark_finds h.break_word (shown_finds e.breaking h.from_breaking (maybe_finds lifetime_at lifetime_finds) (if_there lifetime_lexed))))

range_op_finds : Finds Nothing h.range_op
unfolding h.range_op
range_op_finds =
    case_finds (sign (codes "..=")) (pure_finds {P = Nothing} limits.Closed h.is_closed tt) (mark_finds h.two_dots (pure_finds {P = Nothing} limits.HalfOpen h.is_half_open tt))

abbrev Kept : List Tok × List Tok → Type 0
Kept z = (is_lexed z.0 ≡ true) × Lexed z.1

all_left_finds : Finds (Ok is_lexed) h.all_left
unfolding h.all_left
all_left_finds = leaf_finds same_toks (λ l x n g k. subst Kept (some_is g) (k.is, nil))

body_inside_finds : Finds (Ok body_lexed) h.body_inside
unfolding h.body_inside
body_inside_finds = shown_finds h.to_body h.from_body (both_finds inner_finds all_left_finds) (λ x g. and_from (attributes_lexed x.0) (is_lexed x.1) g.0 g.1)

pub body_finds : Finds (Ok body_lexed) h.body
unfolding h.body
body_finds = inside_finds del.Brace body_inside_finds

-- ---- leaves

before_word : (c : ℕ) (q : Spacing) (w : Text) (l m : List Tok) → stays (punct c q) (ident w ∷ l) ≡ true → stays (punct c q) (ident w ∷ m) ≡ true
before_word c Alone w l m g = g
before_word c Joint w l m g = g

builtin_finds : Finds (Ok is_lexed) h.builtin
unfolding h.builtin
builtin_finds = leaf_finds same_toks found
  where
    kept : (b : Bool) (ts l : List Tok) (x n : List Tok) → h.verbatim_if b ts l ≡ Some (x, n) → is_lexed ts ≡ true → Lexed l → (is_lexed x ≡ true) × Lexed n
    kept true ts l x n g k m = subst Kept (some_is g) (k, m)
    kept false ts l x n g k m = absurd cc

    all : (v : Text) (c : ℕ) (q : Spacing) (w : Text) (i : Inside) (l : List Tok) → Lexed (ident v ∷ punct c q ∷ ident w ∷ group del.Parenthesis i ∷ l)
        → is_lexed (ident v ∷ punct c q ∷ ident w ∷ group del.Parenthesis i ∷ []) ≡ true
    all v c q w i l g =
        let k = behind g in
        let m = behind k in
        let one : is_lexed (group del.Parenthesis i ∷ []) ≡ true = and_from (stays (group del.Parenthesis i) []) true (stays_here (behind m)) refl in
        let two : is_lexed (ident w ∷ group del.Parenthesis i ∷ []) ≡ true = and_from (is_ident_text w) _ (stays_here m) one in
        and_from (is_ident_text v) _ (stays_here g)
        (and_from (stays (punct c q) (ident w ∷ group del.Parenthesis i ∷ [])) _ (before_word c q w (group del.Parenthesis i ∷ l) (group del.Parenthesis i ∷ []) (stays_here k)) two)

    found : (l x n : List Tok) → h.find_builtin l ≡ Some (x, n) → Lexed l → (is_lexed x ≡ true) × Lexed n
    found (ident v ∷ punct c q ∷ ident w ∷ group del.Parenthesis i ∷ l) x n g k =
        kept (bytes_eq v (codes "builtin") && (c == 35 && not (is_reserved_word w))) (ident v ∷ punct c q ∷ ident w ∷ group del.Parenthesis i ∷ []) l x n g (all v c q w i l k) (behind (behind (behind (behind k))))
    found _ x n g k = absurd cc

named_finds : Finds (Ok leaf_lexed) h.named
unfolding h.named
named_finds = shown_finds h.to_named h.from_named (then_by_finds (expr_path_finds false) macro_end_finds) made
  where
    made : (x : QPathTree × MacroEnd) → QPath x.0 × IfThere OfGroup x.1 → leaf_lexed (h.to_named x) ≡ true
    made ((q, y), None) g = qpath_found (q, y) g.0
    made ((q, y), Some z) g = and_from (path_lexed y) (group_lexed z.0 z.1) (path_found y g.0.1) g.1

pub leaf_form_finds : Finds (Ok leaf_lexed) h.leaf_form
unfolding h.leaf_form
leaf_form_finds =
    when_finds _ (shown_finds e.lit h.from_lit unsigned_finds (λ x g. g))
    (case_finds underscore (pure_finds e.infer h.is_infer refl)
    (when_finds _ (shown_finds e.full_range h.from_full_range range_op_finds (λ x g. refl))
    (when_finds _ (shown_finds e.bare_jump h.from_bare_jump jump_head_finds (λ x g. g))
    (case_finds h.continue_word (shown_finds e.continuing h.from_continuing (maybe_finds lifetime_at lifetime_finds) (if_there lifetime_lexed))
    (when_finds _ (shown_finds h.to_loop h.from_loop (both_finds label_finds (mark_finds h.loop_word body_finds)) labelled)
    (when_finds _ (shown_finds h.to_block h.from_block (both_finds label_finds body_finds) labelled)
    (case_finds h.unsafe_word (shown_finds e.unsafe_block h.from_unsafe body_finds (λ x g. g))
    (when_finds _ (mark_finds constant (shown_finds e.const_block h.from_const body_finds (λ x g. g)))
    (when_finds _ (mark_finds h.async_word (shown_finds h.to_async h.from_async (both_finds (flag_finds h.move_word) block_finds) (λ x g. g.1)))
    (when_finds _ (mark_finds h.try_word (shown_finds e.try_block h.from_try block_finds (λ x g. g)))
    (when_finds _ (shown_finds e.verbatim h.from_verbatim builtin_finds (λ x g. g))
    named_finds)))))))))))
  where
    labelled : (x : Option Text × Body) → IfThere (Ok lifetime_lexed) x.0 × (body_lexed x.1 ≡ true) → (lexed_if lifetime_lexed x.0 && body_lexed x.1) ≡ true
    labelled x g = and_from (lexed_if lifetime_lexed x.0) (body_lexed x.1) (if_there lifetime_lexed x.0 g.0) g.1

-- ---- closures

captures_finds : Finds Nothing (then_by (flag h.move_word) h.use_behind)
captures_finds = weaker_finds (then_by_finds (flag_finds h.move_word) use_finds) (λ x g. tt)
  where
    use_finds : (b : Bool) → Finds Nothing (h.use_behind b)
    use_finds true = pure_finds {P = Nothing} false not tt
    use_finds false = flag_finds h.use_word

inputs_finds : Finds (EachOf (Ok pat_lexed)) h.closure_inputs
unfolding h.closure_inputs
inputs_finds = mark_finds h.bar (closed_by_finds h.bar (listed_finds comma _ closure_arg_finds))

pub closure_head_finds : Finds (Ok closure_lexed) h.closure_head
unfolding h.closure_head
closure_head_finds =
    shown_finds h.to_head h.from_head (both_finds (maybe_finds lifetimes_at lifetimes_finds) (both_finds (flag_finds constant)
    (both_finds (flag_finds h.static_word) (both_finds (flag_finds h.async_word) (both_finds captures_finds (both_finds inputs_finds (output_finds type_finds true)))))))
    (λ x g. and_from (lexed_if lifetimes_lexed x.0) _ (if_there lifetimes_lexed x.0 g.0)
    (and_from (all_lexed pat_lexed x.1.1.1.1.1.0.0) (return_lexed x.1.1.1.1.1.1) (each_lexed pat_lexed x.1.1.1.1.1.0.0 g.1.1.1.1.1.0) g.1.1.1.1.1.1))

-- ---- what comes before an operand

pub prefix_form_finds : Finds (Ok prefix_lexed) h.prefix_form
unfolding h.prefix_form
prefix_form_finds =
    case_finds star (pure_finds (e.unary un.Deref) h.is_deref refl)
    (case_finds bang (pure_finds (e.unary un.Not) h.is_not refl)
    (case_finds h.minus (pure_finds (e.unary un.Neg) h.is_neg refl)
    (case_finds and (when_finds h.raw_at (mark_finds h.raw_word (shown_finds e.raw_addr h.from_raw_addr mutability_finds (λ x g. refl))) (shown_finds e.reference h.from_reference (flag_finds mutable) (λ x g. refl)))
    (when_finds h.range_at (shown_finds e.range_to h.from_range_to range_op_finds (λ x g. refl))
    (case_finds h.let_word (shown_finds e.let_expr h.from_let (closed_by_finds eq (pattern_finds true)) (λ x g. g))
    (when_finds h.jump_at (shown_finds e.jump h.from_jump jump_head_finds (λ x g. g))
    (shown_finds e.closure h.from_closure closure_head_finds (λ x g. g))))))))

-- ---- trailers after a dot

pub dotted_finds : Finds (Ok trailer_lexed) h.dotted
unfolding h.dotted
dotted_finds =
    case_finds h.await_word (pure_finds e.await h.is_await refl)
    (when_finds _ (shown_finds h.to_method h.from_method (both_finds name_finds (arguments_finds type_finds style.Expr)) (λ x g. and_from (word_lexed x.0) (arguments_lexed x.1) g.0 g.1))
    (shown_finds e.field h.from_field member_finds (λ x g. g)))

pub for_head_finds : Finds (Ok pat_lexed) s.for_head
for_head_finds = mark_finds s.for_word (closed_by_finds s.in_word (pattern_finds true))

-- ---- what comes before an operand in a place of its own

colon_finds : (m : MemberTree) → Finds Nothing (s.field_colon m)
colon_finds (a_name w) = flag_finds colon
colon_finds (an_index n) = mark_finds colon (pure_finds {P = Nothing} true is_true tt)

arm : (x : List AttributeTree × (PatTree × Bool)) → (attributes_lexed x.0 ≡ true) × ((pat_lexed x.1.0 ≡ true) × Nothing x.1.1) → piece_lexed (s.to_arm x) ≡ true
arm (ats, (y, true)) g = and_from (attributes_lexed ats) (pat_lexed y) g.0 g.1.0
arm (ats, (y, false)) g = and_from (attributes_lexed ats) (pat_lexed y) g.0 g.1.0

pub piece_form_finds : (q : Slot) → Finds (Ok piece_lexed) (s.piece_form q)
unfolding s.piece_form
piece_form_finds s.elements = pure_finds e.element (s.is_of s.elements) refl
piece_form_finds s.single = pure_finds e.value (s.is_of s.single) refl
piece_form_finds s.counted = pure_finds e.repeated (s.is_of s.counted) refl
piece_form_finds s.fields =
    case_finds dots (pure_finds (e.rest true) s.is_rest refl)
    (shown_finds s.to_field s.from_field (both_finds outer_finds (then_by_finds member_finds colon_finds)) (λ x g. and_from (attributes_lexed x.0) (member_lexed x.1.0) g.0 g.1.0))
piece_form_finds s.conditions = pure_finds e.condition (s.is_of s.conditions) refl
piece_form_finds s.otherwise = mark_finds s.else_word (pure_finds e.chained s.is_chained refl)
piece_form_finds s.loops = pure_finds e.loop_head (s.is_of s.loops) refl
piece_form_finds s.scrutinees = pure_finds e.scrutinee s.is_scrutinee refl
piece_form_finds s.arms =
    shown_finds s.to_arm s.from_arm
    (both_finds outer_finds (both_finds (pattern_finds true) (case_finds {P = Nothing} s.if_word (pure_finds {P = Nothing} true is_true tt) (mark_finds s.fat_arrow (pure_finds {P = Nothing} false not tt))))) arm
piece_form_finds s.bodies = mark_finds s.fat_arrow (pure_finds e.guarded (s.is_of s.bodies) refl)
piece_form_finds s.outputs = pure_finds e.output_block (s.is_of s.outputs) refl
piece_form_finds s.groups = pure_finds e.grouped (s.is_of s.groups) refl
piece_form_finds s.done = never_finds

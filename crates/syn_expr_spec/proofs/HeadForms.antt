-- The heads of expressions are read exactly where their tokens are.
use Rattle.std.proofs.Common.{◌≡◌, ℕ, ◌≤◌, Bool, true, false, not, ◌&&◌, ◌==◌, List, [], ◌∷◌, Some, None, refl, ap, sym, arith, codes, ◌||◌, Option, ◌∙◌}
use Rattle.std.specs.Str.{bytes_eq}
use Rattle.syn_lexer.specs.Keywords.{is_reserved_word}
use Rattle.syn_lexer.specs.declared.front.Delimiter.{Delimiter}
use Rattle.syn_lexer.specs.declared.front.Delimiter.TheVariants as del
use Rattle.syn_tokens.specs.Tok.{Tok, ident, punct, group, weight, literal}
use Rattle.syn_lower_spec.specs.declared.label.PathStyle.TheVariants as style
use Rattle.syn_lower_spec.specs.Tree as t
use Rattle.syn_lower_spec.specs.Tree.{LitTree, AttributeTree, QSelfTree, PathTree, ArgumentsTree, SegmentTree}
use Rattle.syn_lower_spec.specs.Form.{then_by}
use Rattle.syn_lower_spec.specs.Mark.{sign, sign_at, underscore, word_at, lifetime_at, brace_at, colon2, not_ne}
use Rattle.syn_lower_spec.specs.Part.{QPathTree, MacroEnd, macro_end, arguments, output, type, MacroTree, find_lit, truth_if, turbofish_at, unsigned, is_bare, segments_bare, has_none, qpath}
use Rattle.syn_lower_spec.specs.Pat.{MemberTree, PatTree, a_name, an_index, dots}
use Rattle.syn_lower_spec.proofs.Weights.{some_is}
use Rattle.syn_lower_spec.proofs.Same.{compares_toks, both_true, not_true}
use Rattle.syn_lower_spec.proofs.Marks.{marks, begins_in_front, sign_present, word_present, colon_present, comma_present}
use Rattle.syn_lower_spec.proofs.Forms.{Alike, Finds, leaf_alike, Present, Sees, Only, behind_some, weaker, when_alike, mark_at_alike, then_by_alike, both_alike, shown_alike, shown_where_alike, pure_alike, never_alike, only_true, flag_at_alike, listed_alike, closed_by_alike}
use Rattle.syn_lower_spec.proofs.Parts.{forms, falls_by, block_alike, inside_at_alike, outer_attributes_alike, inner_attributes_alike, lifetimes_alike, mutability_alike, macro_end_alike, arguments_alike, output_alike, types_alike, unsigned_alike}
use Rattle.syn_lower_spec.proofs.Pats.{member_alike, pattern_alike, closure_arg_alike}
use Rattle.syn_expr_spec.specs.declared.kinds.UnKind.TheVariants as un
use Rattle.syn_expr_spec.specs.declared.kinds.Limits.TheVariants as limits
use Rattle.syn_expr_spec.specs.Tree as e
use Rattle.syn_expr_spec.specs.Tree.{Body, Jump, Leaf, Piece, leaf_own, body_own}
use Rattle.syn_expr_spec.specs.Path.{expr_path, is_word_alone, is_try_alone}
use Rattle.syn_expr_spec.specs.Head as h
use Rattle.syn_expr_spec.specs.Slot as s
use Rattle.syn_expr_spec.specs.Slot.{Slot}
use Rattle.syn_expr_spec.proofs.GroupForms.{expr_path_alike, path_stands}
use Rattle.syn_expr_spec.specs.Head.{literal_at, continue_word, loop_at, block_at, unsafe_word, const_block_at, async_block_at, try_block_at, builtin_at, leaf_at}
use Rattle.std.proofs.Math.Bool.{and-false}
use Rattle.std.proofs.lemmas.Bool.{or_parts}
use Rattle.syn_tokens.specs.Front.{group_at}
use Rattle.syn_lower_spec.specs.Text.{Text, is_segment, is_truth, stands_alone}
use Rattle.syn_lower_spec.specs.Own.{alone, colon2_before, enclosed, arguments_own, no_more_segments, lit_own, block_own, qualified_own, path_own, macro_own}
use Rattle.syn_lower_spec.specs.Fits.{unsigned_fits, qpath_fits, path_fits, macro_fits, segments_fit, arguments_fit, goes_over, is_macro_delimiter}
use Rattle.syn_lower_spec.proofs.Behind.{or_true}
use Rattle.syn_lower_spec.proofs.Fronts.{NoSegment, word_not, no_truth, not_underscore, not_unsafe}
use Rattle.syn_lower_spec.proofs.TypesBack.{group_back}
use Rattle.syn_lower_spec.proofs.Whole.{parts_read_back}
use Rattle.syn_lower_spec.proofs.Ends.{parts_end}
use Rattle.syn_lower_spec.proofs.ReadBack.{block_back}
use Rattle.syn_expr_spec.specs.WellFormed.{leaf_fits, body_fits}
use Rattle.syn_expr_spec.proofs.HeadBack.{body_back, label_back, lifetime_or_none, jump_back, range_back, jump_stops, label_stops}

-- ---- marks

pub bar_present : Present h.bar
bar_present = sign_present _ _

pub minus_present : Present h.minus
minus_present = sign_present _ _

pub dots_present : Present dots
dots_present = sign_present _ _

pub fat_arrow_present : Present s.fat_arrow
fat_arrow_present = sign_present _ _

pub closed_range_present : Present (sign (codes "..="))
closed_range_present = sign_present _ _

pub two_dots_present : Present h.two_dots
unfolding sign_at
two_dots_present = begins_in_front h.two_dots (omega arith) refl

pub for_present : Present s.for_word
unfolding word_at
for_present = begins_in_front s.for_word (omega arith) refl

pub ruleset head_marks = (for_present, bar_present, minus_present, dots_present, fat_arrow_present, closed_range_present, two_dots_present, word_present, marks)

-- ---- views

pub only_returning : Only e.returning h.is_returning
only_returning = record { itself = refl; only = elim [ e.returning ↦ λ g. refl | _ ↦ λ g. absurd cc ] }

pub only_yielding : Only e.yielding h.is_yielding
only_yielding = record { itself = refl; only = elim [ e.yielding ↦ λ g. refl | _ ↦ λ g. absurd cc ] }

pub sees_breaking : Sees e.breaking h.from_breaking
sees_breaking = record { there = λ x. refl; back = elim [ e.breaking label ↦ λ x g. ap e.breaking (sym (some_is g)) | _ ↦ λ x g. absurd cc ] }

pub only_half_open : Only limits.HalfOpen h.is_half_open
only_half_open = record { itself = refl; only = elim [ limits.HalfOpen ↦ λ g. refl | _ ↦ λ g. absurd cc ] }

pub only_closed : Only limits.Closed h.is_closed
only_closed = record { itself = refl; only = elim [ limits.Closed ↦ λ g. refl | _ ↦ λ g. absurd cc ] }

pub sees_body : Sees h.to_body h.from_body
sees_body = record { there = λ x. refl; back = λ b x g. ap h.to_body (sym (some_is g)) }

pub sees_lit : Sees e.lit h.from_lit
sees_lit = record { there = λ x. refl; back = elim [ e.lit z ↦ λ x g. ap e.lit (sym (some_is g)) | _ ↦ λ x g. absurd cc ] }

pub only_infer : Only e.infer h.is_infer
only_infer = record { itself = refl; only = elim [ e.infer ↦ λ g. refl | _ ↦ λ g. absurd cc ] }

pub sees_full_range : Sees e.full_range h.from_full_range
sees_full_range = record { there = λ x. refl; back = elim [ e.full_range op ↦ λ x g. ap e.full_range (sym (some_is g)) | _ ↦ λ x g. absurd cc ] }

pub sees_bare_jump : Sees e.bare_jump h.from_bare_jump
sees_bare_jump = record { there = λ x. refl; back = elim [ e.bare_jump j ↦ λ x g. ap e.bare_jump (sym (some_is g)) | _ ↦ λ x g. absurd cc ] }

pub sees_continuing : Sees e.continuing h.from_continuing
sees_continuing = record { there = λ x. refl; back = elim [ e.continuing label ↦ λ x g. ap e.continuing (sym (some_is g)) | _ ↦ λ x g. absurd cc ] }

pub sees_block : Sees h.to_block h.from_block
sees_block = record { there = λ x. refl; back = elim [ e.block label b ↦ λ x g. ap h.to_block (sym (some_is g)) | _ ↦ λ x g. absurd cc ] }

pub sees_loop : Sees h.to_loop h.from_loop
sees_loop = record { there = λ x. refl; back = elim [ e.loop_expr label b ↦ λ x g. ap h.to_loop (sym (some_is g)) | _ ↦ λ x g. absurd cc ] }

pub sees_unsafe : Sees e.unsafe_block h.from_unsafe
sees_unsafe = record { there = λ x. refl; back = elim [ e.unsafe_block b ↦ λ x g. ap e.unsafe_block (sym (some_is g)) | _ ↦ λ x g. absurd cc ] }

pub sees_const : Sees e.const_block h.from_const
sees_const = record { there = λ x. refl; back = elim [ e.const_block b ↦ λ x g. ap e.const_block (sym (some_is g)) | _ ↦ λ x g. absurd cc ] }

pub sees_async : Sees h.to_async h.from_async
sees_async = record { there = λ x. refl; back = elim [ e.async_block m ts ↦ λ x g. ap h.to_async (sym (some_is g)) | _ ↦ λ x g. absurd cc ] }

pub sees_try : Sees e.try_block h.from_try
sees_try = record { there = λ x. refl; back = elim [ e.try_block ts ↦ λ x g. ap e.try_block (sym (some_is g)) | _ ↦ λ x g. absurd cc ] }

pub sees_verbatim : Sees e.verbatim h.from_verbatim
sees_verbatim = record { there = λ x. refl; back = elim [ e.verbatim ts ↦ λ x g. ap e.verbatim (sym (some_is g)) | _ ↦ λ x g. absurd cc ] }

pub sees_head : Sees h.to_head h.from_head
sees_head = record { there = λ x. refl; back = λ z x g. ap h.to_head (sym (some_is g)) }

pub only_deref : Only (e.unary un.Deref) h.is_deref
only_deref = record { itself = refl; only = elim [ e.unary un.Deref ↦ λ g. refl | _ ↦ λ g. absurd cc ] }

pub only_not : Only (e.unary un.Not) h.is_not
only_not = record { itself = refl; only = elim [ e.unary un.Not ↦ λ g. refl | _ ↦ λ g. absurd cc ] }

pub only_neg : Only (e.unary un.Neg) h.is_neg
only_neg = record { itself = refl; only = elim [ e.unary un.Neg ↦ λ g. refl | _ ↦ λ g. absurd cc ] }

pub sees_reference : Sees e.reference h.from_reference
sees_reference = record { there = λ x. refl; back = elim [ e.reference m ↦ λ x g. ap e.reference (sym (some_is g)) | _ ↦ λ x g. absurd cc ] }

pub sees_raw_addr : Sees e.raw_addr h.from_raw_addr
sees_raw_addr = record { there = λ x. refl; back = elim [ e.raw_addr m ↦ λ x g. ap e.raw_addr (sym (some_is g)) | _ ↦ λ x g. absurd cc ] }

pub sees_range_to : Sees e.range_to h.from_range_to
sees_range_to = record { there = λ x. refl; back = elim [ e.range_to op ↦ λ x g. ap e.range_to (sym (some_is g)) | _ ↦ λ x g. absurd cc ] }

pub sees_let : Sees e.let_expr h.from_let
sees_let = record { there = λ x. refl; back = elim [ e.let_expr p ↦ λ x g. ap e.let_expr (sym (some_is g)) | _ ↦ λ x g. absurd cc ] }

pub sees_jump : Sees e.jump h.from_jump
sees_jump = record { there = λ x. refl; back = elim [ e.jump j ↦ λ x g. ap e.jump (sym (some_is g)) | _ ↦ λ x g. absurd cc ] }

pub sees_closure : Sees e.closure h.from_closure
sees_closure = record { there = λ x. refl; back = elim [ e.closure c ↦ λ x g. ap e.closure (sym (some_is g)) | _ ↦ λ x g. absurd cc ] }

pub only_await : Only e.await h.is_await
only_await = record { itself = refl; only = elim [ e.await ↦ λ g. refl | _ ↦ λ g. absurd cc ] }

pub sees_method : Sees h.to_method h.from_method
sees_method = record { there = λ x. refl; back = elim [ e.method w a ↦ λ x g. ap h.to_method (sym (some_is g)) | _ ↦ λ x g. absurd cc ] }

pub sees_field : Sees e.field h.from_field
sees_field = record { there = λ x. refl; back = elim [ e.field m ↦ λ x g. ap e.field (sym (some_is g)) | _ ↦ λ x g. absurd cc ] }

pub only_element : Only e.element (s.is_of s.elements)
only_element = record { itself = refl; only = elim [ e.element ↦ λ g. refl | _ ↦ λ g. absurd cc ] }

pub only_value : Only e.value (s.is_of s.single)
only_value = record { itself = refl; only = elim [ e.value ↦ λ g. refl | _ ↦ λ g. absurd cc ] }

pub only_repeated : Only e.repeated (s.is_of s.counted)
only_repeated = record { itself = refl; only = elim [ e.repeated ↦ λ g. refl | _ ↦ λ g. absurd cc ] }

pub only_condition : Only e.condition (s.is_of s.conditions)
only_condition = record { itself = refl; only = elim [ e.condition ↦ λ g. refl | _ ↦ λ g. absurd cc ] }

pub only_loop_head : Only e.loop_head (s.is_of s.loops)
only_loop_head = record { itself = refl; only = elim [ e.loop_head ↦ λ g. refl | _ ↦ λ g. absurd cc ] }

pub only_scrutinee : Only e.scrutinee s.is_scrutinee
only_scrutinee = record { itself = refl; only = elim [ e.scrutinee ↦ λ g. refl | _ ↦ λ g. absurd cc ] }

pub only_chained : Only e.chained s.is_chained
only_chained = record { itself = refl; only = elim [ e.chained ↦ λ g. refl | _ ↦ λ g. absurd cc ] }

pub only_guarded : Only e.guarded (s.is_of s.bodies)
only_guarded = record { itself = refl; only = elim [ e.guarded ↦ λ g. refl | _ ↦ λ g. absurd cc ] }

pub only_output_block : Only e.output_block (s.is_of s.outputs)
only_output_block = record { itself = refl; only = elim [ e.output_block ↦ λ g. refl | _ ↦ λ g. absurd cc ] }

pub only_grouped : Only e.grouped (s.is_of s.groups)
only_grouped = record { itself = refl; only = elim [ e.grouped ↦ λ g. refl | _ ↦ λ g. absurd cc ] }

pub only_rest : Only (e.rest true) s.is_rest
only_rest = record { itself = refl; only = elim [ e.rest true ↦ λ g. refl | _ ↦ λ g. absurd cc ] }

pub sees_field_value : Sees s.to_field s.from_field
sees_field_value = record { there = λ x. refl; back = elim [ e.field_value ats m c ↦ λ x g. ap s.to_field (sym (some_is g)) | _ ↦ λ x g. absurd cc ] }

pub sees_arm : Sees s.to_arm s.from_arm
sees_arm = record { there = there; back = back }
  where
    there : (x : List AttributeTree × (PatTree × Bool)) → s.from_arm (s.to_arm x) ≡ Some x
    there (ats, (p, true)) = refl
    there (ats, (p, false)) = refl

    back : (y : Piece) (x : List AttributeTree × (PatTree × Bool)) → s.from_arm y ≡ Some x → s.to_arm x ≡ y
    back (e.guard ats p) x g = ap s.to_arm (sym (some_is g))
    back (e.arm ats p) x g = ap s.to_arm (sym (some_is g))
    back _ x g = absurd cc

pub ruleset head_views = (only_returning, only_yielding, sees_breaking, only_half_open, only_closed, sees_body, sees_lit, only_infer, sees_full_range, sees_bare_jump, sees_continuing, sees_block, sees_loop, sees_unsafe, sees_const, sees_async, sees_try, sees_verbatim, sees_head, only_deref, only_not, only_neg, sees_reference, sees_raw_addr, sees_range_to, sees_let, sees_jump, sees_closure, only_await, sees_method, sees_field, only_element, only_value, only_repeated, only_condition, only_loop_head, only_scrutinee, only_chained, only_guarded, only_output_block, only_grouped, only_rest, sees_field_value, sees_arm)

-- ---- jumps, ranges, blocks

pub output_whole : {k : ℕ} → Alike k (output type true) (output type true)
output_whole {k} = weaker (output_alike {k = k} types_alike true)

pub arguments_whole : {k : ℕ} → Alike k (arguments type style.Expr) (arguments type style.Expr)
arguments_whole {k} = weaker (arguments_alike {k = k} types_alike style.Expr)

pub label_alike : {k : ℕ} → Alike k h.label h.label
label_alike = search (forms, head_marks) depth 12

pub jump_head_alike : {k : ℕ} → Alike k h.jump_head h.jump_head
unfolding h.jump_head
jump_head_alike = search (forms, head_marks, head_views) depth 12

pub range_op_alike : {k : ℕ} → Alike k h.range_op h.range_op
unfolding h.range_op
range_op_alike = search (forms, head_marks, head_views) depth 12

pub all_left_alike : {k : ℕ} → Alike k h.all_left h.all_left
unfolding h.all_left weight
all_left_alike = leaf_alike compares_toks (record { falls = λ l x n g. falls_by [] n l (ap (λ z. z.1) (some_is g)) (omega arith) })

pub body_inside_alike : {k : ℕ} → Alike k h.body_inside h.body_inside
unfolding h.body_inside
body_inside_alike = shown_alike sees_body (both_alike inner_attributes_alike all_left_alike)

pub body_alike : {k : ℕ} → Alike k h.body h.body
unfolding h.body
body_alike = inside_at_alike del.Brace body_inside_alike

-- ---- special syntax, paths and macros

pub verbatim_some : (b : Bool) (ts l x n : List Tok) → h.verbatim_if b ts l ≡ Some (x, n) → l ≡ n
verbatim_some true ts l x n g = ap (λ z. z.1) (some_is g)
verbatim_some false ts l x n g = absurd cc

four_less : (a b c d : Tok) (l : List Tok) → weight l ≤ weight (a ∷ b ∷ c ∷ d ∷ l)
unfolding weight
four_less a b c d l = omega arith

finds_builtin : Finds h.find_builtin
finds_builtin = record { falls = falls }
  where
    falls : (l x n : List Tok) → h.find_builtin l ≡ Some (x, n) → weight n ≤ weight l
    falls (ident b ∷ punct c q ∷ ident w ∷ group del.Parenthesis i ∷ l) x n g =
        falls_by l n (ident b ∷ punct c q ∷ ident w ∷ group del.Parenthesis i ∷ l) (verbatim_some (bytes_eq b (codes "builtin") && (c == 35 && not (is_reserved_word w))) (ident b ∷ punct c q ∷ ident w ∷ group del.Parenthesis i ∷ []) l x n g) (four_less (ident b) (punct c q) (ident w) (group del.Parenthesis i) l)
    falls _ x n g = absurd cc

pub builtin_alike : {k : ℕ} → Alike k h.builtin h.builtin
unfolding h.builtin
builtin_alike = leaf_alike compares_toks finds_builtin

named_back : (y : Leaf) (x : QPathTree × MacroEnd) → h.from_named y ≡ Some x → h.to_named x ≡ y
named_back (e.path q p) x g = ap h.to_named (sym (some_is g))
named_back (e.mac m) x g = ap h.to_named (sym (some_is g))
named_back _ x g = absurd cc

-- no macro comes after a qualified path
macro_there : (q : QSelfTree) (p : PathTree) (g : Delimiter × List Tok) (m n : List Tok) → (macro_end (q, p)).behind (Some g) m ≡ Some n
    → h.from_named (h.to_named ((q, p), Some g)) ≡ Some ((q, p), Some g)
unfolding macro_end
macro_there t.no_qself p g m n b = refl
macro_there (t.qself u i a) p g m n b = let d : None ≡ Some n = b in absurd cc

pub named_alike : {k : ℕ} → Alike k h.named h.named
unfolding h.named
named_alike = shown_where_alike there named_back (then_by_alike (expr_path_alike false) (λ q. macro_end_alike q))
  where
    there : (l : List Tok) (x : QPathTree × MacroEnd) (n : List Tok) → (then_by (expr_path false) macro_end).behind x l ≡ Some n → h.from_named (h.to_named x) ≡ Some x
    there l ((q, p), None) n g = refl
    there l ((q, p), Some d) n g =
        let (m, i, j) = behind_some ((expr_path false).behind (q, p) l) ((macro_end (q, p)).behind (Some d)) n g in
        macro_there q p d m n j

-- ---- leaves, what comes before an operand, and after a dot

pub leaf_form_alike : {k : ℕ} → Alike k h.leaf_form h.leaf_form
unfolding h.leaf_form
leaf_form_alike {k} = search (label_alike, jump_head_alike, range_op_alike, body_alike, builtin_alike, named_alike, block_alike, forms, head_marks, head_views) depth 40

pub closure_inputs_alike : {k : ℕ} → Alike k h.closure_inputs h.closure_inputs
unfolding h.closure_inputs
closure_inputs_alike = mark_at_alike bar_present (closed_by_alike bar_present (listed_alike h.bar.at comma_present closure_arg_alike))

pub use_alike : {k : ℕ} (b : Bool) → Alike k (h.use_behind b) (h.use_behind b)
use_alike true = search (forms, head_marks) depth 8
use_alike false = search (forms, head_marks) depth 8

pub closure_head_alike : {k : ℕ} → Alike k h.closure_head h.closure_head
unfolding h.closure_head
closure_head_alike = search (closure_inputs_alike, use_alike, lifetimes_alike, output_whole, forms, head_marks, head_views) depth 16

pub prefix_form_alike : {k : ℕ} → Alike k h.prefix_form h.prefix_form
unfolding h.prefix_form
prefix_form_alike {k} = search (jump_head_alike, range_op_alike, mutability_alike, pattern_alike, closure_head_alike, forms, head_marks, head_views) depth 40

pub dotted_alike : {k : ℕ} → Alike k h.dotted h.dotted
unfolding h.dotted
dotted_alike = search (member_alike, arguments_whole, forms, head_marks, head_views) depth 16

pub for_head_alike : {k : ℕ} → Alike k s.for_head s.for_head
for_head_alike = search (pattern_alike, forms, head_marks) depth 12

-- ---- what comes before an operand in a place of its own

pub field_colon_alike : {k : ℕ} (m : MemberTree) → Alike k (s.field_colon m) (s.field_colon m)
field_colon_alike (a_name w) = flag_at_alike colon_present
field_colon_alike (an_index n) = mark_at_alike colon_present (pure_alike only_true)

pub piece_form_alike : {k : ℕ} (p : Slot) → Alike k (s.piece_form p) (s.piece_form p)
unfolding s.piece_form
piece_form_alike s.elements = pure_alike only_element
piece_form_alike s.single = pure_alike only_value
piece_form_alike s.counted = pure_alike only_repeated
piece_form_alike s.fields = when_alike _ (mark_at_alike dots_present (pure_alike only_rest)) (shown_alike sees_field_value (both_alike outer_attributes_alike (then_by_alike member_alike field_colon_alike)))
piece_form_alike s.conditions = pure_alike only_condition
piece_form_alike s.otherwise = mark_at_alike (word_present _) (pure_alike only_chained)
piece_form_alike s.loops = pure_alike only_loop_head
piece_form_alike s.scrutinees = pure_alike only_scrutinee
piece_form_alike s.arms = search (outer_attributes_alike, pattern_alike, forms, head_marks, head_views) depth 16
piece_form_alike s.bodies = mark_at_alike fat_arrow_present (pure_alike only_guarded)
piece_form_alike s.outputs = pure_alike only_output_block
piece_form_alike s.groups = pure_alike only_grouped
piece_form_alike {k} s.done = never_alike k

pub record NoLeaf (l : List Tok) : Type 0 where
  pub no_literal : literal_at l ≡ false
  pub no_underscore : underscore.at l ≡ false
  pub no_continue : continue_word.at l ≡ false
  pub no_loop : loop_at l ≡ false
  pub no_block : block_at l ≡ false
  pub no_unsafe : unsafe_word.at l ≡ false
  pub no_const : const_block_at l ≡ false
  pub no_async : async_block_at l ≡ false
  pub no_try : try_block_at l ≡ false
  pub no_builtin : builtin_at l ≡ false

pub no_leaf : (l : List Tok) → leaf_at l ≡ false → NoLeaf l
unfolding leaf_at
no_leaf l h =
    let a = or_parts _ _ h in let b = or_parts _ _ a.1 in let c = or_parts _ _ b.1 in let d = or_parts _ _ c.1 in let f = or_parts _ _ d.1 in
    let g = or_parts _ _ f.1 in let i = or_parts _ _ g.1 in let j = or_parts _ _ i.1 in let k = or_parts _ _ j.1 in
    record { no_literal = a.0; no_underscore = b.0; no_continue = c.0; no_loop = d.0; no_block = f.0; no_unsafe = g.0; no_const = i.0; no_async = j.0; no_try = k.0; no_builtin = k.1 }

-- What a proof computes with where it asks what a leaf begins with: it names this definition in place of the tests.
unfoldable pub leaf_tests : Bool
unfolding h.literal_at h.loop_at h.block_at h.const_block_at h.async_block_at h.try_block_at h.builtin_at
leaf_tests = true

-- ---- leaves are read back from their own tokens

-- After a path no `::` stands, after one without arguments no `!` but that of `!=`, and after the name `builtin` no `#`;
-- after `break` and `continue` alone no lifetime.
abbrev pub leaf_stops : Leaf → List Tok → Bool
leaf_stops (e.path q p) r = not (colon2.at r) && (not (is_bare (q, p) && not_ne.at r) && not (is_word_alone (codes "builtin") q p && sign_at (codes "#") r))
leaf_stops (e.bare_jump j) r = jump_stops j r
leaf_stops (e.continuing w) r = label_stops w r
leaf_stops _ r = true

-- ---- literals

truth_there : (b : Bool) (w : Text) (l : List Tok) (x : LitTree) (n : List Tok) → truth_if b w l ≡ Some (x, n) → b ≡ true
truth_there true w l x n g = refl
truth_there false w l x n g = absurd cc

found_literal : (l : List Tok) (x : LitTree) (n : List Tok) → find_lit l ≡ Some (x, n) → h.literal_at l ≡ true
unfolding h.literal_at
found_literal (literal w ∷ l) x n g = refl
found_literal (ident w ∷ l) x n g = truth_there (is_truth w) w l x n g
found_literal _ x n g = absurd cc

literal_seen : (x : LitTree) (l n : List Tok) → unsigned.behind x l ≡ Some n → h.literal_at l ≡ true
unfolding unsigned
literal_seen x l n g = let a : Alike 0 unsigned unsigned = unsigned_alike in found_literal l x n (a.complete l x n g)

literal_back : (x : LitTree) (r : List Tok) → unsigned_fits x ≡ true → h.leaf_form.behind (e.lit x) (lit_own x r) ≡ Some r
unfolding h.leaf_form
literal_back x r f =
    let b = parts_read_back.unsigned_literals x r f in
    rw (literal_seen x (lit_own x r) r b) b

-- ---- words, labels and blocks

infer_back : (r : List Tok) → h.leaf_form.behind e.infer (leaf_own e.infer r) ≡ Some r
unfolding h.leaf_form h.literal_at is_truth word_at
infer_back r = refl

full_range_back : (r : List Tok) → h.leaf_form.behind (e.full_range limits.HalfOpen) (leaf_own (e.full_range limits.HalfOpen) r) ≡ Some r
unfolding h.leaf_form h.literal_at h.range_at sign_at word_at
full_range_back r = range_back limits.HalfOpen r

bare_jump_back : (j : Jump) (r : List Tok) → jump_stops j r ≡ true → h.leaf_form.behind (e.bare_jump j) (leaf_own (e.bare_jump j) r) ≡ Some r
unfolding h.leaf_form h.literal_at h.range_at h.jump_at is_truth sign_at word_at
bare_jump_back e.returning r s = jump_back e.returning r s
bare_jump_back e.yielding r s = jump_back e.yielding r s
bare_jump_back (e.breaking w) r s = jump_back (e.breaking w) r s

continuing_back : (w : Option Text) (r : List Tok) → label_stops w r ≡ true → h.leaf_form.behind (e.continuing w) (leaf_own (e.continuing w) r) ≡ Some r
unfolding h.leaf_form h.literal_at h.range_at h.jump_at is_truth sign_at word_at
continuing_back w r s = lifetime_or_none w r s

loop_expr_back : (w : Option Text) (b : Body) (r : List Tok) → body_fits b ≡ true → h.leaf_form.behind (e.loop_expr w b) (leaf_own (e.loop_expr w b) r) ≡ Some r
unfolding h.leaf_form h.literal_at h.range_at h.jump_at h.loop_at is_truth sign_at word_at lifetime_at
loop_expr_back None b r f = body_back b r f
loop_expr_back (Some w) b r f = rw (label_back (Some w) (ident (codes "loop") ∷ body_own b r) refl) (body_back b r f)

labelled_back : (w : Option Text) (b : Body) (r : List Tok) → body_fits b ≡ true → h.leaf_form.behind (e.block w b) (leaf_own (e.block w b) r) ≡ Some r
unfolding h.leaf_form h.literal_at h.range_at h.jump_at h.loop_at h.block_at is_truth sign_at word_at lifetime_at brace_at group_at
labelled_back None b r f = body_back b r f
labelled_back (Some w) b r f = rw (label_back (Some w) (body_own b r) refl) (body_back b r f)

unsafe_back : (b : Body) (r : List Tok) → body_fits b ≡ true → h.leaf_form.behind (e.unsafe_block b) (leaf_own (e.unsafe_block b) r) ≡ Some r
unfolding h.leaf_form h.literal_at h.range_at h.jump_at h.loop_at h.block_at is_truth sign_at word_at lifetime_at brace_at group_at
unsafe_back b r f = body_back b r f

const_back : (b : Body) (r : List Tok) → body_fits b ≡ true → h.leaf_form.behind (e.const_block b) (leaf_own (e.const_block b) r) ≡ Some r
unfolding h.leaf_form h.literal_at h.range_at h.jump_at h.loop_at h.block_at h.const_block_at is_truth sign_at word_at lifetime_at brace_at group_at
const_back b r f = body_back b r f

async_back : (m : Bool) (ts r : List Tok) → h.leaf_form.behind (e.async_block m ts) (leaf_own (e.async_block m ts) r) ≡ Some r
unfolding h.leaf_form h.literal_at h.range_at h.jump_at h.loop_at h.block_at h.const_block_at h.async_block_at is_truth sign_at word_at lifetime_at brace_at group_at block_own
async_back true ts r = block_back ts r
async_back false ts r = block_back ts r

try_back : (ts r : List Tok) → h.leaf_form.behind (e.try_block ts) (leaf_own (e.try_block ts) r) ≡ Some r
unfolding h.leaf_form h.range_at h.jump_at leaf_tests is_truth sign_at word_at lifetime_at brace_at group_at block_own
try_back ts r = block_back ts r

-- ---- paths

-- words that leaves begin with, and no path
pub not_leaf_words : NoSegment (codes "return") × NoSegment (codes "yield") × NoSegment (codes "break") × NoSegment (codes "continue") × NoSegment (codes "loop") × NoSegment (codes "const") × NoSegment (codes "async")
unfolding is_segment stands_alone is_reserved_word
not_leaf_words = (refl, refl, refl, refl, refl, refl, refl)

-- a word of a path leads to the paths, but `try` before a brace and `builtin` before `#`
named_word : (k : Leaf) (w : Text) (l : List Tok) → is_segment w ≡ true → (bytes_eq w (codes "try") && brace_at l) ≡ false → (bytes_eq w (codes "builtin") && sign_at (codes "#") l) ≡ false
    → h.leaf_form.behind k (ident w ∷ l) ≡ h.named.behind k (ident w ∷ l)
unfolding h.leaf_form h.range_at h.jump_at leaf_tests word_at lifetime_at sign_at brace_at group_at
named_word k w l g i j =
    let (not_return, not_yield, not_break, not_continue, not_loop, not_const, not_async) = not_leaf_words in
    rw (no_truth w g, word_not w (codes "_") g not_underscore, word_not w (codes "return") g not_return, word_not w (codes "yield") g not_yield, word_not w (codes "break") g not_break, word_not w (codes "continue") g not_continue, word_not w (codes "loop") g not_loop, word_not w (codes "unsafe") g not_unsafe, word_not w (codes "const") g not_const, word_not w (codes "async") g not_async, i, j) refl

colon2_seen : (k : Leaf) (l : List Tok) → h.leaf_form.behind k (colon2_before l) ≡ h.named.behind k (colon2_before l)
unfolding h.leaf_form h.range_at h.jump_at leaf_tests word_at lifetime_at sign_at brace_at group_at
colon2_seen k l = refl

less_seen : (k : Leaf) (l : List Tok) → h.leaf_form.behind k (alone 60 ∷ l) ≡ h.named.behind k (alone 60 ∷ l)
unfolding h.leaf_form h.range_at h.jump_at leaf_tests word_at lifetime_at sign_at brace_at group_at
less_seen k l = refl

and_true : (b c : Bool) → ((b && true) && c) ≡ false → (b && c) ≡ false
and_true true c g = g
and_true false c g = refl

-- after a word `::` stands
further_seen : (k : Leaf) (w : Text) (m : List Tok) → is_segment w ≡ true → h.leaf_form.behind k (ident w ∷ colon2_before m) ≡ h.named.behind k (ident w ∷ colon2_before m)
unfolding brace_at group_at sign_at
further_seen k w m g = named_word k w (colon2_before m) g (no_brace (bytes_eq w (codes "try"))) (no_pound (bytes_eq w (codes "builtin")))
  where
    no_brace : (b : Bool) → (b && brace_at (colon2_before m)) ≡ false
    no_brace true = refl
    no_brace false = refl

    no_pound : (b : Bool) → (b && sign_at (codes "#") (colon2_before m)) ≡ false
    no_pound true = refl
    no_pound false = refl

-- a path of one segment
one_seen : (k : Leaf) (w : Text) (a : ArgumentsTree) (r : List Tok) → is_segment w ≡ true → arguments_fit style.Expr a ≡ true
    → ((bytes_eq w (codes "try") && has_none a) && brace_at r) ≡ false → ((bytes_eq w (codes "builtin") && has_none a) && sign_at (codes "#") r) ≡ false
    → h.leaf_form.behind k (ident w ∷ arguments_own a r) ≡ h.named.behind k (ident w ∷ arguments_own a r)
one_seen k w t.no_arguments r g f u v = named_word k w r g (and_true (bytes_eq w (codes "try")) (brace_at r) u) (and_true (bytes_eq w (codes "builtin")) (sign_at (codes "#") r) v)
one_seen k w (t.angle true gs e) r g f u v = further_seen k w _ g
one_seen k w (t.angle false gs e) r g f u v = absurd cc
one_seen k w (t.round xs e o) r g f u v = absurd cc

-- one of more segments
first_seen : (k : Leaf) (w : Text) (a : ArgumentsTree) (m : List Tok) → is_segment w ≡ true → arguments_fit style.Expr a ≡ true
    → h.leaf_form.behind k (ident w ∷ arguments_own a (colon2_before m)) ≡ h.named.behind k (ident w ∷ arguments_own a (colon2_before m))
first_seen k w t.no_arguments m g f = further_seen k w m g
first_seen k w (t.angle true gs e) m g f = further_seen k w _ g
first_seen k w (t.angle false gs e) m g f = absurd cc
first_seen k w (t.round xs e o) m g f = absurd cc

pub path_seen : (k : Leaf) (q : QSelfTree) (l e : Bool) (xs : List SegmentTree) (r : List Tok) → qpath_fits style.Expr (q, record { leading = l; segments = xs; trailing = e }) ≡ true
    → (is_word_alone (codes "try") q (record { leading = l; segments = xs; trailing = e }) && brace_at r) ≡ false
    → (is_word_alone (codes "builtin") q (record { leading = l; segments = xs; trailing = e }) && sign_at (codes "#") r) ≡ false
    → h.leaf_form.behind k (qualified_own (q, record { leading = l; segments = xs; trailing = e }) r) ≡ h.named.behind k (qualified_own (q, record { leading = l; segments = xs; trailing = e }) r)
path_seen k q l true xs r f u v = absurd cc
path_seen k (t.qself x n a) l false xs r f u v = less_seen k _
path_seen k t.no_qself true false xs r f u v = colon2_seen k _
path_seen k t.no_qself false false [] r f u v = absurd cc
path_seen k t.no_qself false false (s ∷ []) r f u v =
    let (g, i) = both_true (is_segment s.ident) _ f in
    let (j, m) = both_true (not (stands_alone s.ident) || has_none s.arguments) _ i in
    let (n, o) = both_true (arguments_fit style.Expr s.arguments) _ m in
    one_seen k s.ident s.arguments r g n u v
path_seen k t.no_qself false false (s ∷ z ∷ zs) r f u v =
    let (g, i) = both_true (is_segment s.ident) _ f in
    let (j, m) = both_true (not (stands_alone s.ident) || has_none s.arguments) _ i in
    let (n, o) = both_true (arguments_fit style.Expr s.arguments) _ m in
    first_seen k s.ident s.arguments _ g n

-- the own tokens of a path begin with no group
name_back : (q : QSelfTree) (p : PathTree) (l r : List Tok) → (qpath type style.Expr).behind (q, p) l ≡ Some r → (is_bare (q, p) && not_ne.at r) ≡ false → h.named.behind (e.path q p) l ≡ Some r
unfolding h.named macro_end
name_back q p l r g i = rw (path_stands false (q, p) l r g, i) refl

path_back : (q : QSelfTree) (p : PathTree) (r : List Tok) → qpath_fits style.Expr (q, p) ≡ true → is_try_alone q p ≡ false → leaf_stops (e.path q p) r ≡ true → h.leaf_form.behind (e.path q p) (qualified_own (q, p) r) ≡ Some r
path_back q p r f g s =
    let (i, j) = both_true (not (colon2.at r)) _ s in
    let (u, v) = both_true (not (is_bare (q, p) && not_ne.at r)) _ j in
    let w = parts_end.paths_in_expressions (q, p) r f (not_true (colon2.at r) i) in
    path_seen (e.path q p) q p.leading p.trailing p.segments r f (rw g refl) (not_true (is_word_alone (codes "builtin") q p && sign_at (codes "#") r) v)
    ∙ name_back q p (qualified_own (q, p) r) r (parts_read_back.qualified_paths style.Expr (q, p) r f w) (not_true (is_bare (q, p) && not_ne.at r) u)

-- ---- macros

-- a path that takes no arguments is one of an expression
abbrev IsBoth : List SegmentTree → Type 0
IsBoth xs = (segments_fit 0 style.Expr (t.segments_of xs) ≡ true) × (segments_bare xs ≡ true)

goes_over_none : (w : Text) (xs : List SegmentTree) → goes_over 0 style.Expr w t.no_arguments (t.segments_of xs) ≡ true
unfolding turbofish_at sign_at
goes_over_none w [] = refl
goes_over_none w (z ∷ zs) = or_true (stands_alone w)

segment_both : (w : Text) (a : ArgumentsTree) (xs : List SegmentTree) → (segments_fit 0 style.Mod (t.segments_of xs) ≡ true → IsBoth xs) → segments_fit 0 style.Mod (t.more_segments w a (t.segments_of xs)) ≡ true
    → IsBoth (record { ident = w; arguments = a } ∷ xs)
segment_both w t.no_arguments xs again f =
    let (g, i) = both_true (is_segment w) _ f in
    let (j, m) = both_true (not (stands_alone w) || true) _ i in
    let (n, o) = both_true (goes_over 0 style.Mod w t.no_arguments (t.segments_of xs)) _ m in
    let (u, v) = again o in
    (rw (g, j, goes_over_none w xs) u, v)
segment_both w (t.angle c gs e) xs again f =
    let (g, i) = both_true (is_segment w) _ f in
    let (j, m) = both_true (not (stands_alone w) || false) _ i in
    absurd cc
segment_both w (t.round ys e o) xs again f =
    let (g, i) = both_true (is_segment w) _ f in
    let (j, m) = both_true (not (stands_alone w) || false) _ i in
    absurd cc

segments_both : (xs : List SegmentTree) → segments_fit 0 style.Mod (t.segments_of xs) ≡ true → IsBoth xs
segments_both [] f = (refl, refl)
segments_both (s ∷ xs) f = segment_both s.ident s.arguments xs (segments_both xs) f

mac_back : (m : MacroTree) (r : List Tok) → macro_fits m ≡ true → h.leaf_form.behind (e.mac m) (macro_own m r) ≡ Some r
unfolding h.named macro_end sign_at brace_at group_at
mac_back m r f =
    let (g, i) = both_true (path_fits style.Mod m.path) (is_macro_delimiter m.delimiter) f in
    let (j, k) = both_true (not m.path.trailing) _ g in
    let (n, o) = both_true (not (no_more_segments (t.segments_of m.path.segments))) _ k in
    let (u, v) = segments_both m.path.segments o in
    let w : qpath_fits style.Expr (t.no_qself, m.path) ≡ true = rw (j, n, u) refl in
    path_seen (e.mac m) t.no_qself m.path.leading m.path.trailing m.path.segments (behind_path r) w (no_brace (is_word_alone (codes "try") t.no_qself m.path) r) (no_pound (is_word_alone (codes "builtin") t.no_qself m.path) r)
    ∙ whole_back (path_own m.path (behind_path r)) (parts_read_back.qualified_paths style.Expr (t.no_qself, m.path) (behind_path r) w (parts_end.paths_in_expressions (t.no_qself, m.path) (behind_path r) w (no_colon2 r))) v i
  where
    behind_path : List Tok → List Tok
    behind_path r = alone 33 ∷ enclosed m.delimiter m.tokens r

    no_brace : (b : Bool) (r : List Tok) → (b && brace_at (behind_path r)) ≡ false
    no_brace b r = and-false b

    no_pound : (b : Bool) (r : List Tok) → (b && sign_at (codes "#") (behind_path r)) ≡ false
    no_pound b r = and-false b

    no_colon2 : (r : List Tok) → colon2.at (behind_path r) ≡ false
    no_colon2 r = refl

    whole_back : (l : List Tok) → (qpath type style.Expr).behind (t.no_qself, m.path) l ≡ Some (behind_path r) → segments_bare m.path.segments ≡ true → is_macro_delimiter m.delimiter ≡ true → h.named.behind (e.mac m) l ≡ Some r
    whole_back l b c d = rw (path_stands false (t.no_qself, m.path) l (behind_path r) b, c) (group_back m.delimiter m.tokens r d)

-- ---- all together

pub leaf_back : (k : Leaf) (r : List Tok) → leaf_fits k ≡ true → leaf_stops k r ≡ true → h.leaf_form.behind k (leaf_own k r) ≡ Some r
leaf_back (e.lit x) r f s = literal_back x r f
leaf_back (e.path q p) r f s =
    let (g, i) = both_true (qpath_fits style.Expr (q, p)) (not (is_try_alone q p)) f in
    path_back q p r g (not_true (is_try_alone q p) i) s
leaf_back (e.mac m) r f s = mac_back m r f
leaf_back e.infer r f s = infer_back r
leaf_back (e.full_range limits.HalfOpen) r f s = full_range_back r
leaf_back (e.full_range limits.Closed) r f s = absurd cc
leaf_back (e.bare_jump j) r f s = bare_jump_back j r s
leaf_back (e.continuing w) r f s = continuing_back w r s
leaf_back (e.block w b) r f s = labelled_back w b r f
leaf_back (e.loop_expr w b) r f s = loop_expr_back w b r f
leaf_back (e.unsafe_block b) r f s = unsafe_back b r f
leaf_back (e.const_block b) r f s = const_back b r f
leaf_back (e.async_block m ts) r f s = async_back m ts r
leaf_back (e.try_block ts) r f s = try_back ts r
leaf_back (e.verbatim ts) r f s = absurd cc

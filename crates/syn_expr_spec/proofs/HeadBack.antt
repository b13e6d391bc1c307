-- Labels, jumps, ranges, bodies and the heads of closures are read back from their own tokens.
use Rattle.std.proofs.Common.{◌≡◌, Bool, true, false, not, ◌&&◌, List, [], ◌∷◌, Option, Some, None, refl, ap, ◌∙◌, codes}
use Rattle.syn_tokens.specs.Tok.{Tok, toks-inside}
use Rattle.syn_tokens.specs.Front.{group_at}
use Rattle.syn_lower_spec.specs.Text.{Text}
use Rattle.syn_lower_spec.specs.Tree.{AttributeTree, LifetimesTree}
use Rattle.syn_lower_spec.specs.Form.{more, maybe, flag, then_by, is_nil}
use Rattle.syn_lower_spec.specs.Mark.{sign_at, word_at, lifetime_at, brace_at, round_at, colon, plus, mutable, constant}
use Rattle.syn_lower_spec.specs.Own.{alone, before_some, comma_before, elements_own, attribute_own, lifetime_own, lifetimes_own, return_own}
use Rattle.syn_lower_spec.specs.Part.{pound_bang, inner_body, inner_attributes, lifetimes_at, lifetimes, lifetime, is_default, type, output}
use Rattle.syn_lower_spec.specs.Fits.{lifetimes_fit, output_fits, output_stops, ends_well, fits_if}
use Rattle.syn_lower_spec.specs.Ends.{ends_patterns, ends_types}
use Rattle.syn_lower_spec.specs.Pat.{PatTree, closure_arg, bound_at}
use Rattle.syn_lower_spec.specs.PatOwn.{attributes_own, pat_own}
use Rattle.syn_lower_spec.specs.PatFits.{closure_arg_fits, pat_fits, pat_stops}
use Rattle.syn_lower_spec.proofs.Same.{both_true, not_true, same_toks-refl}
use Rattle.syn_lower_spec.proofs.Forms.{more_stands}
use Rattle.syn_lower_spec.proofs.Marks.{pound_bang_present}
use Rattle.syn_lower_spec.proofs.Parts.{inner_body_alike}
use Rattle.syn_lower_spec.proofs.ReadBack.{verbatim_bracket_back, text_same, Commas, no_element, element, next_own, listed_back}
use Rattle.syn_lower_spec.proofs.Whole.{parts_read_back}
use Rattle.syn_lower_spec.proofs.PatsBack.{closure_arg_back}
use Rattle.syn_lower_spec.proofs.PatWholeComplete.{patterns_read_back}
use Rattle.syn_lower_spec.proofs.Ends.{parts_end}
use Rattle.syn_lower_spec.proofs.Pats.{closure_arg_alike}
use Rattle.syn_lower_spec.proofs.TypesBack.{lifetimes_back}
use Rattle.syn_expr_spec.proofs.HeadFront.{arg_no_bar}
use Rattle.syn_expr_spec.specs.declared.kinds.UnKind.{UnKind}
use Rattle.syn_expr_spec.specs.declared.kinds.UnKind.TheVariants as un
use Rattle.syn_expr_spec.specs.declared.kinds.Limits.{Limits}
use Rattle.syn_expr_spec.specs.declared.kinds.Limits.TheVariants as limits
use Rattle.syn_expr_spec.specs.Op.{limits_text}
use Rattle.syn_expr_spec.specs.Head as h
use Rattle.syn_expr_spec.specs.Tree as e
use Rattle.syn_expr_spec.specs.Tree.{Body, Jump, Prefix, ClosureHead, inners, prefix_own, label_own, body_own, jump_own, closure_own, word_if, vert_before, sign_before}
use Rattle.syn_expr_spec.proofs.Attributes.{inners_are}
use Rattle.syn_expr_spec.specs.WellFormed.{attributes_inner, body_fits, inputs_fit, head_fits, prefix_fits}

-- ---- inner attributes and bodies

inner_step : (a : AttributeTree) (xs : List AttributeTree) (l m : List Tok) → a.inner ≡ true → inner_attributes.behind xs l ≡ Some m → inner_attributes.behind (a ∷ xs) (attribute_own a l) ≡ Some m
unfolding inner_attributes inner_body attribute_own sign_at
inner_step a xs l m g i = by_style a.inner a.tokens g
  where
    by_style : (b : Bool) (ts : List Tok) → b ≡ true → (more pound_bang inner_body).behind (record { inner = b; tokens = ts } ∷ xs) (attribute_own (record { inner = b; tokens = ts }) l) ≡ Some m
    by_style false ts d = absurd cc
    by_style true ts d = more_stands pound_bang inner_body pound_bang_present (λ k. inner_body_alike) (record { inner = true; tokens = ts } ∷ xs) _ m (rw (verbatim_bracket_back ts l) i)

all_back : (xs : List AttributeTree) (l : List Tok) → attributes_inner xs ≡ true → pound_bang.at l ≡ false → inner_attributes.behind xs (attributes_own xs l) ≡ Some l
unfolding inner_attributes
all_back [] l f g = more_stands pound_bang inner_body pound_bang_present (λ k. inner_body_alike) [] l l (rw g refl)
all_back (a ∷ xs) l f g =
    let (i, j) = both_true a.inner (attributes_inner xs) f in
    inner_step a xs (attributes_own xs l) l i (all_back xs l j g)

pub inner_attributes_back : (xs : List AttributeTree) (l : List Tok) → attributes_inner xs ≡ true → pound_bang.at l ≡ false → inner_attributes.behind xs (attributes_own (inners xs) l) ≡ Some l
inner_attributes_back xs l f g = ap (λ ats. inner_attributes.behind xs (attributes_own ats l)) (inners_are xs f) ∙ all_back xs l f g

pub body_inside_back : (b : Body) → body_fits b ≡ true → h.body_inside.behind b (attributes_own (inners b.inner) b.tokens) ≡ Some []
unfolding h.body_inside h.all_left
body_inside_back b f =
    let (i, j) = both_true (attributes_inner b.inner) (not (pound_bang.at b.tokens)) f in
    rw (inner_attributes_back b.inner b.tokens i (not_true (pound_bang.at b.tokens) j), same_toks-refl b.tokens) refl

pub body_back : (b : Body) (r : List Tok) → body_fits b ≡ true → h.body.behind b (body_own b r) ≡ Some r
unfolding h.body group_at
body_back b r f = rw (toks-inside (attributes_own (inners b.inner) b.tokens), body_inside_back b f) refl

-- ---- labels, jumps, ranges

abbrev pub label_stops : Option Text → List Tok → Bool
label_stops None r = not (lifetime_at r)
label_stops (Some w) r = true

pub label_back : (w : Option Text) (r : List Tok) → label_stops w r ≡ true → h.label.behind w (label_own w r) ≡ Some r
unfolding lifetime lifetime_at sign_at
label_back None r s = rw (not_true (lifetime_at r) s) refl
label_back (Some w) r s = rw (text_same w) refl

-- a label that is a value, or none
pub lifetime_or_none : (w : Option Text) (r : List Tok) → label_stops w r ≡ true → (maybe lifetime_at lifetime).behind w (before_some w lifetime_own r) ≡ Some r
unfolding lifetime lifetime_at
lifetime_or_none None r s = rw (not_true (lifetime_at r) s) refl
lifetime_or_none (Some w) r s = rw (text_same w) refl

-- after `break` alone a lifetime would be its label
abbrev pub jump_stops : Jump → List Tok → Bool
jump_stops e.returning r = true
jump_stops e.yielding r = true
jump_stops (e.breaking w) r = label_stops w r

pub jump_back : (j : Jump) (r : List Tok) → jump_stops j r ≡ true → h.jump_head.behind j (jump_own j r) ≡ Some r
unfolding h.jump_head word_at
jump_back e.returning r s = refl
jump_back e.yielding r s = refl
jump_back (e.breaking w) r s = lifetime_or_none w r s

pub range_back : (op : Limits) (r : List Tok) → h.range_op.behind op (sign_before (limits_text op) r) ≡ Some r
unfolding h.range_op sign_at
range_back limits.HalfOpen r = refl
range_back limits.Closed r = refl

-- ---- closures

-- what is after an argument: the comma, or the `|` that ends the arguments
record ArgEnds (l : List Tok) : Type 0 where
  ends : ends_patterns l ≡ true
  no_plus : plus.at l ≡ false
  no_colon : colon.at l ≡ false

comma_ends : (l : List Tok) → ArgEnds (alone 44 ∷ l)
unfolding ends_patterns ends_types bound_at sign_at round_at brace_at group_at
comma_ends l = record { ends = refl; no_plus = refl; no_colon = refl }

vert_ends : (l : List Tok) → ArgEnds (vert_before l)
unfolding ends_patterns ends_types bound_at sign_at round_at brace_at group_at
vert_ends l = record { ends = refl; no_plus = refl; no_colon = refl }

next_ends : (xs : List PatTree) (e : Bool) (r : List Tok) → ArgEnds (next_own pat_own comma_before xs e (vert_before r))
next_ends [] true r = comma_ends _
next_ends [] false r = vert_ends r
next_ends (x ∷ xs) e r = comma_ends _

inputs_commas : (e : Bool) (xs : List PatTree) (r : List Tok) → inputs_fit xs ≡ true → Commas closure_arg pat_own h.bar.at e (vert_before r) xs
inputs_commas e [] r f = no_element
inputs_commas e (x ∷ xs) r f =
    let (i, j) = both_true (closure_arg_fits x) (inputs_fit xs) f in
    let q = next_ends xs e r in
    let b = closure_arg_back x _ i (parts_end.closure_args x _ q.ends q.no_plus q.no_colon) in
    element b (arg_no_bar x _ _ b) (inputs_commas e xs r j)

pub inputs_back : (xs : List PatTree) (e : Bool) (r : List Tok) → inputs_fit xs ≡ true → ends_well (is_nil xs) e ≡ true
    → h.closure_inputs.behind (xs, e) (vert_before (elements_own pat_own comma_before xs e (vert_before r))) ≡ Some r
unfolding h.closure_inputs sign_at
inputs_back xs e r f w =
    rw (listed_back closure_arg pat_own h.bar.at (λ k. closure_arg_alike) (vert_before r) refl refl e xs w (inputs_commas e xs r f)) refl

abbrev from_words : Bool → Bool → Bool → Bool → Bool → List Tok → List Tok
from_words a b c d u l =
    word_if a (codes "const") (word_if b (codes "static") (word_if c (codes "async") (word_if d (codes "move") (word_if u (codes "use") (vert_before l)))))

no_lifetimes : (a b c d u : Bool) (l : List Tok) → lifetimes_at (from_words a b c d u l) ≡ false
unfolding lifetimes_at word_at
no_lifetimes false false false false true l = refl
no_lifetimes _ _ _ _ _ l = refl

const_back : (a b c d u : Bool) (l : List Tok) → (flag constant).behind a (from_words a b c d u l) ≡ Some (from_words false b c d u l)
unfolding word_at
const_back false false false false true l = refl
const_back _ _ _ _ _ l = refl

static_back : (b c d u : Bool) (l : List Tok) → (flag h.static_word).behind b (from_words false b c d u l) ≡ Some (from_words false false c d u l)
unfolding word_at
static_back false false false true l = refl
static_back _ _ _ _ l = refl

async_back : (c d u : Bool) (l : List Tok) → (flag h.async_word).behind c (from_words false false c d u l) ≡ Some (from_words false false false d u l)
unfolding word_at
async_back false false true l = refl
async_back _ _ _ l = refl

capture_back : (d u : Bool) (l : List Tok) → not (d && u) ≡ true
    → (then_by (flag h.move_word) h.use_behind).behind (d, u) (from_words false false false d u l) ≡ Some (vert_before l)
unfolding word_at
capture_back true true l n = absurd cc
capture_back true false l n = refl
capture_back false true l n = refl
capture_back false false l n = refl

lifetimes_seen : (p : LifetimesTree) (r : List Tok) → lifetimes_fit p ≡ true → lifetimes_at (lifetimes_own p r) ≡ true
unfolding lifetimes_at lifetimes_own sign_at word_at lifetime_at
lifetimes_seen ([], true) r f = absurd cc
lifetimes_seen ([], false) r f = refl
lifetimes_seen (w ∷ ws, e) r f = refl

lifetimes_piece : (p : Option LifetimesTree) (a b c d u : Bool) (l : List Tok) → fits_if lifetimes_fit p ≡ true
    → (maybe lifetimes_at lifetimes).behind p (before_some p lifetimes_own (from_words a b c d u l)) ≡ Some (from_words a b c d u l)
lifetimes_piece None a b c d u l f = rw (no_lifetimes a b c d u l) refl
lifetimes_piece (Some p) a b c d u l f = rw (lifetimes_seen p (from_words a b c d u l) f) (lifetimes_back p (from_words a b c d u l) f)

-- after all of it but its output
pub head_opens : (c : ClosureHead) (r : List Tok) → head_fits c ≡ true → h.closure_head.behind c (closure_own c r) ≡ (output type true).behind c.output (return_own c.output r)
unfolding h.closure_head
head_opens c r f =
    let (n, o) = both_true (not (c.capture && c.usage)) _ f in
    let (i, j) = both_true (fits_if lifetimes_fit c.lifetimes) _ o in
    let (k, m) = both_true (inputs_fit c.inputs) _ j in
    let (u, v) = both_true (ends_well (is_nil c.inputs) c.trailing) (output_fits true c.output) m in
    let l = elements_own pat_own comma_before c.inputs c.trailing (vert_before (return_own c.output r)) in
    rw (
      lifetimes_piece c.lifetimes c.constness c.movability c.asyncness c.capture c.usage l i,
      const_back c.constness c.movability c.asyncness c.capture c.usage l,
      static_back c.movability c.asyncness c.capture c.usage l,
      async_back c.asyncness c.capture c.usage l,
      capture_back c.capture c.usage l n,
      inputs_back c.inputs c.trailing (return_own c.output r) k u,
    ) refl

pub head_back : (c : ClosureHead) (r : List Tok) → head_fits c ≡ true → output_stops true c.output r ≡ true → h.closure_head.behind c (closure_own c r) ≡ Some r
head_back c r f w =
    let (n, o) = both_true (not (c.capture && c.usage)) _ f in
    let (i, j) = both_true (fits_if lifetimes_fit c.lifetimes) _ o in
    let (k, m) = both_true (inputs_fit c.inputs) _ j in
    let (u, v) = both_true (ends_well (is_nil c.inputs) c.trailing) (output_fits true c.output) m in
    head_opens c r f ∙ parts_read_back.outputs true c.output r v w

-- ---- what comes before an operand

-- after `&` alone a `mut` would be its own, and so would `raw` before `mut` or `const`
abbrev pub prefix_stops : Prefix → List Tok → Bool
prefix_stops (e.reference false) r = not (mutable.at r) && not (h.raw_at r)
prefix_stops (e.jump j) r = jump_stops j r
prefix_stops (e.closure c) r = output_stops true c.output r
prefix_stops _ r = true

pub closure_seen : (x : ClosureHead) (p : Option LifetimesTree) (a b c d u : Bool) (l : List Tok)
    → h.prefix_form.behind (e.closure x) (before_some p lifetimes_own (from_words a b c d u l)) ≡ h.closure_head.behind x (before_some p lifetimes_own (from_words a b c d u l))
unfolding h.prefix_form h.range_at h.jump_at sign_at word_at lifetimes_own
closure_seen x None false false false false true l = refl
closure_seen x _ _ _ _ _ _ l = refl

equal_ends : (l : List Tok) → ends_patterns (alone 61 ∷ l) ≡ true
unfolding ends_patterns ends_types bound_at sign_at round_at brace_at group_at
equal_ends l = refl

let_back : (p : PatTree) (r : List Tok) → pat_fits true p ≡ true → h.prefix_form.behind (e.let_expr p) (prefix_own (e.let_expr p) r) ≡ Some r
unfolding h.prefix_form h.range_at h.jump_at sign_at word_at
let_back p r f =
    let s : pat_stops true p (alone 61 ∷ r) ≡ true = parts_end.patterns true p (alone 61 ∷ r) (equal_ends r) refl in
    rw (patterns_read_back.patterns true p (alone 61 ∷ r) f s) refl

reference_back : (r : List Tok) → mutable.at r ≡ false → h.raw_at r ≡ false → h.prefix_form.behind (e.reference false) (prefix_own (e.reference false) r) ≡ Some r
unfolding h.prefix_form sign_at
reference_back r f g = rw (g, f) refl

mut_back : (r : List Tok) → h.prefix_form.behind (e.reference true) (prefix_own (e.reference true) r) ≡ Some r
unfolding h.prefix_form h.raw_at sign_at word_at
mut_back r = refl

raw_back : (m : Bool) (r : List Tok) → h.prefix_form.behind (e.raw_addr m) (prefix_own (e.raw_addr m) r) ≡ Some r
unfolding h.prefix_form h.raw_at sign_at word_at
raw_back true r = refl
raw_back false r = refl

unary_back : (op : UnKind) (r : List Tok) → h.prefix_form.behind (e.unary op) (prefix_own (e.unary op) r) ≡ Some r
unfolding h.prefix_form sign_at
unary_back un.Deref r = refl
unary_back un.Not r = refl
unary_back un.Neg r = refl

range_to_back : (op : Limits) (r : List Tok) → h.prefix_form.behind (e.range_to op) (prefix_own (e.range_to op) r) ≡ Some r
unfolding h.prefix_form h.range_at sign_at
range_to_back limits.HalfOpen r = range_back limits.HalfOpen r
range_to_back limits.Closed r = range_back limits.Closed r

value_back : (j : Jump) (r : List Tok) → jump_stops j r ≡ true → h.prefix_form.behind (e.jump j) (prefix_own (e.jump j) r) ≡ Some r
unfolding h.prefix_form h.range_at h.jump_at sign_at word_at
value_back e.returning r s = jump_back e.returning r s
value_back e.yielding r s = jump_back e.yielding r s
value_back (e.breaking w) r s = jump_back (e.breaking w) r s

pub prefix_back : (k : Prefix) (r : List Tok) → prefix_fits k ≡ true → prefix_stops k r ≡ true → h.prefix_form.behind k (prefix_own k r) ≡ Some r
prefix_back (e.unary op) r f s = unary_back op r
prefix_back (e.reference true) r f s = mut_back r
prefix_back (e.reference false) r f s =
    let (i, j) = both_true (not (mutable.at r)) (not (h.raw_at r)) s in
    reference_back r (not_true (mutable.at r) i) (not_true (h.raw_at r) j)
prefix_back (e.raw_addr m) r f s = raw_back m r
prefix_back (e.range_to op) r f s = range_to_back op r
prefix_back (e.let_expr p) r f s = let_back p r f
prefix_back (e.jump j) r f s = value_back j r s
prefix_back (e.closure c) r f s =
    let (i, j) = both_true (head_fits c) (is_default c.output) f in
    closure_seen c c.lifetimes c.constness c.movability c.asyncness c.capture c.usage _ ∙ head_back c r i s

-- What has no open right end stands before `else`: the nodes on the right edge, one after the other.
use Rattle.std.specs.Prelude.{not, ◌||◌, ◌&&◌, ◌==◌}
use Rattle.std.proofs.Common.{◌≡◌, ℕ, Bool, true, false, List, [], ◌∷◌, ◌++◌, drop, codes, Option, Some, None, refl, ap, sym, ◌∙◌, subst, arith}
use Rattle.std.proofs.Math.Bool.{and-false, or-true}
use Rattle.std.proofs.lemmas.Bool.{and_parts, or_parts, not-true}
use Rattle.std.proofs.lemmas.Bool.Decides.{nat_tests}
use Rattle.syn_lexer.specs.declared.front.Delimiter.{Delimiter}
use Rattle.syn_lexer.specs.declared.front.Delimiter.TheVariants as del
use Rattle.syn_lexer.specs.declared.front.Spacing.TheVariants as spacing
use Rattle.syn_tokens.specs.Tok.{Tok, Inside, ident, punct, literal, group, toks-inside}
use Rattle.syn_tokens.specs.Front.{group_at}
use Rattle.syn_lower_spec.specs.Tree as t
use Rattle.syn_lower_spec.specs.Tree.{AttributeTree, LifetimesTree}
use Rattle.syn_lower_spec.specs.Mark.{sign_at, word_at, lifetime_at, brace_at, mutable}
use Rattle.syn_lower_spec.specs.Part.{is_bare, outer_attributes}
use Rattle.syn_lower_spec.specs.Pat.{a_name, an_index}
use Rattle.syn_lower_spec.specs.Ends.{ends_types}
use Rattle.syn_lower_spec.specs.Own as o
use Rattle.syn_lower_spec.specs.Own.{alone, before_some, attribute_own, lifetimes_own}
use Rattle.syn_lower_spec.specs.PatOwn.{attributes_own}
use Rattle.syn_lower_spec.proofs.Appends.{lit_append, type_append, lifetime_append}
use Rattle.syn_lower_spec.proofs.Ends.{parts_end}
use Rattle.syn_lower_spec.proofs.PatsBack.{attributes_back}
use Rattle.syn_lower_spec.proofs.Weights.{some_is}
use Rattle.syn_lower_spec.proofs.Whole.{parts_read_back}
use Rattle.syn_expr_spec.specs.declared.kinds.Infix.{Infix}
use Rattle.syn_expr_spec.specs.declared.kinds.Infix.TheVariants as inf
use Rattle.syn_expr_spec.specs.declared.kinds.Precedence.{Precedence}
use Rattle.syn_expr_spec.specs.declared.kinds.Precedence.TheVariants as lev
use Rattle.syn_expr_spec.specs.declared.kinds.Limits.TheVariants as limits
use Rattle.syn_expr_spec.specs.declared.kinds.Place.{Place}
use Rattle.syn_expr_spec.specs.declared.kinds.UnKind.TheVariants as un
use Rattle.syn_expr_spec.specs.declared.next.Next.TheVariants as next
use Rattle.syn_expr_spec.specs.declared.next.Context.{Context}
use Rattle.syn_expr_spec.specs.Place.{plain, at, above}
use Rattle.syn_expr_spec.specs.Op.{level, goes_on, is_range_op}
use Rattle.syn_expr_spec.specs.Front.{begins_expr, sign_begins, ends_open_range, dot_at, question_at, trailer_at, left_arrow_at, three_dots_at}
use Rattle.syn_expr_spec.specs.Head.{raw_at}
use Rattle.syn_expr_spec.specs.Next.{class_of, next_of, enclosed, left_context, base_context, right_context, attributed_context, prefix_context, prefix_level}
use Rattle.syn_expr_spec.specs.Path.{is_try_alone, is_word_alone}
use Rattle.syn_expr_spec.specs.Query.{leaf_brace, tree_brace, children_brace, ends_with_brace}
use Rattle.syn_expr_spec.specs.Rule.{printed, is_operation, leaf_labelled}
use Rattle.syn_expr_spec.specs.Slot as slot
use Rattle.syn_expr_spec.specs.Slot.{Slot, within, frame_head, frame_holder, trailer_holder}
use Rattle.syn_expr_spec.specs.Stands as st
use Rattle.syn_expr_spec.specs.Stands.{Node, Content, holds_none, holds_within, Operands, Stands, is_leaf, is_tail, is_indexed, is_frame, ends, closes, rests, goes_behind, is_jump_or_let, ends_operation, leaf_stands, infix_stands, prefix_place, trailer_head, fields_of, ends_list, is_attributed, is_base, has_no_comma, is_parenthesis_or_bracket}
use Rattle.syn_expr_spec.specs.Tree as e
use Rattle.syn_expr_spec.specs.Tree.{Tree, Children, Leaf, Prefix, Frame, Trailer, word_if, vert_before, leaf, paren, attributed, prefixed, infixed, postfixed, tail, frame, none, child, postfix_op, own, children_own, leaf_own, prefix_own, infix_own, postfix_own, trailer_own, framed, enclosure, clear, clear_children, fill, is_one}
use Rattle.syn_expr_spec.specs.WellFormed.{is_well_formed, leaf_fits, trailer_fits, is_verbatim_block}
use Rattle.syn_expr_spec.proofs.Attributes.{outers_are}
use Rattle.syn_expr_spec.proofs.Bare.{printed_formed}
use Rattle.syn_expr_spec.proofs.Bridge.{bridge}
use Rattle.syn_expr_spec.proofs.Callees.{carries_it}
use Rattle.syn_expr_spec.proofs.Computing.{computing}
use Rattle.syn_expr_spec.proofs.Formed.{Formed, FormedChildren, formed_fill}
use Rattle.syn_expr_spec.proofs.Fronts.{word_is}
use Rattle.syn_expr_spec.proofs.Good.{printed_good}
use Rattle.syn_expr_spec.proofs.HeadForms.{leaf_stops}
use Rattle.syn_expr_spec.proofs.HeadsBack.{heads_back}
use Rattle.syn_expr_spec.proofs.HeadTrailers as headed
use Rattle.syn_expr_spec.proofs.HeadTrailers.{trailer_stops, trailer_rest}
use Rattle.syn_expr_spec.proofs.LastFormed.{trailing_brace_is_last}
use Rattle.syn_expr_spec.proofs.Obeys.{begins_label, Obeys, ObeysChildren}
use Rattle.syn_expr_spec.proofs.OwnFronts.{Front, front, leaf_braced, begins_brace, begins_pound, postfix_class}
use Rattle.syn_expr_spec.proofs.Places.{Meets, meets_plain, meets_left, meets_base, meets_attributed, meets_right, meets_prefix, prefix_level_is, goes_free, left_closes, left_fits, base_fits, own_infix, own_drop, takes_attributes_there, fits_calls, left_calls, base_calls, level_obeys, end_fits, fits_ends, fits_closes}
use Rattle.syn_expr_spec.proofs.Shows.{shows_nothing, shows_semi, shows_operator, shows_trailer}
use Rattle.syn_expr_spec.proofs.Stood.{prefix_there, prefix_stopped, infix_there, postfix_infix}
use Rattle.syn_stmt_spec.specs.Printed.{leaf_open, open_end}
use Rattle.syn_stmt_spec.specs.Laws.{ClosedStandBeforeElse}

-- `else` and any tokens after it
abbrev els : List Tok → List Tok
els r = ident (codes "else") ∷ r

else_tests : Bool
unfolding computing
else_tests = true

-- ---- `else` goes on with nothing

else_quiet : (v : Precedence) (r : List Tok) → (goes_on v (els r) ≡ false) × (three_dots_at (els r) ≡ false) × (left_arrow_at (els r) ≡ false) × (trailer_at (els r) ≡ false)
    × (dot_at (els r) || question_at (els r) ≡ false)
unfolding else_tests
else_quiet v r = (refl, refl, refl, refl, refl)

else_ends : (p : Place) (x : Tree) (r : List Tok) → ends p x (els r) ≡ true
unfolding ends
else_ends p x r =
    let (a, b, c, d, f) = else_quiet p.level r in
    rw (a, b, c, and-false (above lev.Range p.level), and-false (is_jump_or_let p.level), or-true (rests p x)) (or-true (st.is_range x))

none_behind : (b : Bool) (r : List Tok) → goes_behind b (els r) ≡ false
none_behind true r = (else_quiet lev.Jump r).4
none_behind false r = (else_quiet lev.Jump r).3

else_closes : (p : Place) (x : Tree) (r : List Tok) → closes p x (els r) ≡ true
unfolding closes
else_closes p x r = rw (none_behind (rests p x) r, and-false (st.carries x || st.is_cast x)) refl

else_operation : (k : Infix) (r : List Tok) → ends_operation k (els r) ≡ true
unfolding ends_operation
else_operation k r = rw (else_quiet lev.Jump r).2 (or-true (is_range_op k))

-- ---- the front of a leaf does not depend on what comes after it

record Facts : Type 0 where
  begins : Bool
  stops : Bool
  brace : Bool
  label : Bool
  pound : Bool
  is_mut : Bool
  is_raw : Bool
  arrow : Bool

abbrev facts : List Tok → Facts
facts l = record {
  begins = begins_expr l;
  stops = ends_open_range false l;
  brace = brace_at l;
  label = lifetime_at l;
  pound = sign_at (codes "#") l;
  is_mut = mutable.at l;
  is_raw = raw_at l;
  arrow = sign_at (codes "->") l;
}

asked : Bool
unfolding begins_expr sign_begins ends_open_range dot_at sign_at word_at lifetime_at brace_at group_at raw_at
asked = true

no_quote : (c : ℕ) → (c == 39) ≡ true → begins_expr (punct c spacing.Joint ∷ alone 59 ∷ []) ≡ true → ⊥
unfolding asked
no_quote c h g =
    let q : c ≡ 39 = grind (arith, nat_tests, h) in
    let r : begins_expr (punct 39 spacing.Joint ∷ alone 59 ∷ []) ≡ true = subst (λ z. begins_expr (punct z spacing.Joint ∷ alone 59 ∷ []) ≡ true) q g in absurd cc

same_facts : (ts r : List Tok) → begins_expr (ts ++ (alone 59 ∷ [])) ≡ true → facts (ts ++ els r) ≡ facts (ts ++ (alone 59 ∷ []))
unfolding asked
same_facts [] r h = absurd cc
same_facts (literal w ∷ ts) r h = refl
same_facts (group del.Parenthesis i ∷ ts) r h = refl
same_facts (group del.Brace i ∷ ts) r h = refl
same_facts (group del.Bracket i ∷ ts) r h = refl
same_facts (group del.None i ∷ ts) r h = refl
same_facts (ident w ∷ []) r h = refl
same_facts (ident w ∷ ident v ∷ ts) r h = refl
same_facts (ident w ∷ punct c s ∷ ts) r h = refl
same_facts (ident w ∷ literal v ∷ ts) r h = refl
same_facts (ident w ∷ group d i ∷ ts) r h = refl
same_facts (punct c spacing.Alone ∷ ts) r h = refl
same_facts (punct c spacing.Joint ∷ []) r h = go (c == 39) refl
  where
    go : (b : Bool) → (c == 39) ≡ b → facts (punct c spacing.Joint ∷ els r) ≡ facts (punct c spacing.Joint ∷ alone 59 ∷ [])
    go true q = absurd (no_quote c q h)
    go false q = rw q refl
same_facts (punct c spacing.Joint ∷ ident w ∷ ts) r h = refl
same_facts (punct c spacing.Joint ∷ literal w ∷ ts) r h = refl
same_facts (punct c spacing.Joint ∷ group d i ∷ ts) r h = refl
same_facts (punct c spacing.Joint ∷ punct d spacing.Alone ∷ ts) r h = refl
same_facts (punct c spacing.Joint ∷ punct d spacing.Joint ∷ []) r h = refl
same_facts (punct c spacing.Joint ∷ punct d spacing.Joint ∷ ident w ∷ ts) r h = refl
same_facts (punct c spacing.Joint ∷ punct d spacing.Joint ∷ literal w ∷ ts) r h = refl
same_facts (punct c spacing.Joint ∷ punct d spacing.Joint ∷ group g i ∷ ts) r h = refl
same_facts (punct c spacing.Joint ∷ punct d spacing.Joint ∷ punct g spacing.Alone ∷ ts) r h = refl
same_facts (punct c spacing.Joint ∷ punct d spacing.Joint ∷ punct g spacing.Joint ∷ ts) r h = refl

same_front : (a b c : Bool) (ts r : List Tok) → Front a b c (ts ++ (alone 59 ∷ [])) → Front a b c (ts ++ els r)
same_front a b c ts r f =
    let q = same_facts ts r f.begins in
    record {
      begins = ap (λ (x : Facts). x.begins) q ∙ f.begins;
      stops = ap (λ (x : Facts). x.stops) q ∙ f.stops;
      brace = ap (λ (x : Facts). x.brace) q ∙ f.brace;
      label = ap (λ (x : Facts). x.label) q ∙ f.label;
      pound = ap (λ (x : Facts). x.pound) q ∙ f.pound;
      no_mut = ap (λ (x : Facts). x.is_mut) q ∙ f.no_mut;
      no_raw = ap (λ (x : Facts). x.is_raw) q ∙ f.no_raw;
      no_arrow = ap (λ (x : Facts). x.arrow) q ∙ f.no_arrow;
    }

leaf_append : (k : Leaf) (b : Bool) (r : List Tok) → leaf_fits k ≡ true → leaf_open k ≡ false → leaf_brace b k ≡ false → leaf_own k r ≡ leaf_own k [] ++ r
leaf_append (e.lit x) b r f h g = lit_append x r
leaf_append (e.path q w) b r f h g = type_append (t.path q w.leading (t.segments_of w.segments) w.trailing) r
leaf_append (e.mac y) b r f h g = type_append (t.mac y.path.leading (t.segments_of y.path.segments) y.path.trailing y.delimiter y.tokens) r
leaf_append e.infer b r f h g = refl
leaf_append (e.continuing None) b r f h g = refl
leaf_append (e.continuing (Some w)) b r f h g = ap (λ z. ident (codes "continue") ∷ z) (lifetime_append w r)
leaf_append (e.full_range limits.HalfOpen) b r f h g = absurd cc
leaf_append (e.full_range limits.Closed) b r f h g = absurd cc
leaf_append (e.bare_jump j) b r f h g = absurd cc
leaf_append (e.verbatim ts) b r f h g = absurd cc
leaf_append _ b r f h g = absurd cc

leaf_front : (k : Leaf) (b : Bool) (r : List Tok) → leaf_fits k ≡ true → leaf_open k ≡ false → leaf_brace b k ≡ false → Front (leaf_braced k) (leaf_labelled k) false (leaf_own k (els r))
leaf_front k b r f h g =
    let x = front (leaf k) next.End (alone 59 ∷ []) f (shows_semi spacing.Alone []) in
    subst (λ l. Front (leaf_braced k) (leaf_labelled k) false l) (sym (leaf_append k b (els r) f h g))
    (same_front (leaf_braced k) (leaf_labelled k) false (leaf_own k []) r (subst (λ l. Front (leaf_braced k) (leaf_labelled k) false l) (leaf_append k b (alone 59 ∷ []) f h g) x))

-- ---- other fronts

fronted : {a b c : Bool} {l : List Tok} → begins_expr l ≡ true → ends_open_range false l ≡ false → brace_at l ≡ a → lifetime_at l ≡ b → sign_at (codes "#") l ≡ c → mutable.at l ≡ false
    → raw_at l ≡ false → sign_at (codes "->") l ≡ false → Front a b c l
fronted u v w x y z i j = record { begins = u; stops = v; brace = w; label = x; pound = y; no_mut = z; no_raw = i; no_arrow = j }

group_front : (i : Inside) (r : List Tok) → Front false false false (group del.Parenthesis i ∷ r) × Front false false false (group del.Bracket i ∷ r)
unfolding asked
group_front i r = (fronted refl refl refl refl refl refl refl refl, fronted refl refl refl refl refl refl refl refl)

pound_front : (a : AttributeTree) (r : List Tok) → Front false false true (attribute_own a r)
unfolding asked attribute_own
pound_front a r = fronted refl refl refl refl refl refl refl refl

closure_front : (g : Option LifetimesTree) (c s a m u : Bool) (l : List Tok)
    → Front false false false (before_some g lifetimes_own (word_if c (codes "const") (word_if s (codes "static") (word_if a (codes "async") (word_if m (codes "move") (word_if u (codes "use") (vert_before l)))))))
unfolding asked lifetimes_own
closure_front None false false false false true l = fronted refl refl refl refl refl refl refl refl
closure_front _ _ _ _ _ _ l = fronted refl refl refl refl refl refl refl refl

prefix_front : (k : Prefix) (r : List Tok) → Front false false false (prefix_own k r)
unfolding asked
prefix_front (e.closure h) r = closure_front h.lifetimes h.constness h.movability h.asyncness h.capture h.usage _
prefix_front (e.unary un.Deref) r = fronted refl refl refl refl refl refl refl refl
prefix_front (e.range_to limits.HalfOpen) r = fronted refl refl refl refl refl refl refl refl
prefix_front (e.jump e.returning) r = fronted refl refl refl refl refl refl refl refl
prefix_front _ r = fronted refl refl refl refl refl refl refl refl

-- ---- frames and trailers that end with no brace

-- operands in an enclosure
record Held (s : Slot) (z : Bool) (ks : Children) : Type 0 where
  rest : List Tok
  operands : Operands s (children_own ks []) (clear_children ks) rest
  ending : ends_list z rest ≡ true

content_held : (d : Delimiter) (s : Slot) (z : Bool) (l r n : List Tok) (ks : Children) → l ≡ o.enclosed d (children_own ks []) r → Content (within d s z) l (clear_children ks) n → Held s z ks
content_held d s z l r n ks q (holds_within {i = i} {o = v} g x y) =
    let a = some_is (sym g ∙ ap (group_at d) q ∙ heads_back.groups d (children_own ks []) r) in
    record { rest = v; operands = subst (λ (w : List Tok). Operands s w (clear_children ks) v) (ap (λ (w : List Tok × List Tok). w.0) a) x; ending = y }

held_content : (d : Delimiter) (s : Slot) (z : Bool) (r : List Tok) (ks : Children) → Held s z ks → Content (within d s z) (o.enclosed d (children_own ks []) r) (clear_children ks) r
held_content d s z r ks h = holds_within (heads_back.groups d (children_own ks []) r) h.operands h.ending

-- a field of a field is no other tree
abbrev is_field : Tree → Bool
is_field (tail b (e.field m) ks) = true
is_field _ = false

fields_field : (is : List ℕ) (b : Tree) (i : ℕ) → is_field (fields_of (tail b (e.field (an_index i)) none) is) ≡ true
fields_field [] b i = refl
fields_field (j ∷ is) b i = fields_field is (tail b (e.field (an_index i)) none) j

pub no_field : (x b : Tree) (i : ℕ) (is : List ℕ) → is_field x ≡ false → x ≡ fields_of b (i ∷ is) → ⊥
no_field x b i is f q = let r : false ≡ true = sym f ∙ ap is_field q ∙ fields_field is b i in cc

frame_content : (k : Frame) (us : Children) (l n : List Tok) → Node plain l (frame k us) n → (h : List Tok) × (frame_head k l ≡ Some h) × Content (frame_holder k) h us n
frame_content k us l n (is_frame {h = h} f c g w) = (h, f, c)
frame_content k us l n (is_indexed {b = b} {i = i} {is = is} d f g q) = absurd (no_field (frame k us) b i is refl q)

infer_rest : (l m : List Tok) → Node plain (ident (codes "_") ∷ l) (leaf e.infer) m → l ≡ m
infer_rest l m (is_leaf f g) = some_is (sym (heads_back.leaves e.infer l refl refl) ∙ f)
infer_rest l m (is_indexed {b = b} {i = i} {is = is} d f g q) = absurd (no_field (leaf e.infer) b i is refl q)

-- the same of a call and of an index, after `_`
tail_content : (k : Trailer) (us : Children) (l n : List Tok) → is_field (tail (leaf e.infer) k us) ≡ false → Node plain (ident (codes "_") ∷ l) (tail (leaf e.infer) k us) n
    → (h : List Tok) × (trailer_head k l ≡ Some ([], h)) × Content (trailer_holder k) h us n
tail_content k us l n f (is_tail {m = m} {h = h} {b = b} {is = is} d g x c q) = by_steps is x q
  where
    by_steps : (is : List ℕ) → trailer_head k m ≡ Some (is, h) → leaf e.infer ≡ fields_of b is → (h : List Tok) × (trailer_head k l ≡ Some ([], h)) × Content (trailer_holder k) h us n
    by_steps [] y q = let a = infer_rest l m (subst (λ z. Node plain (ident (codes "_") ∷ l) z m) (sym q) d) in (h, ap (trailer_head k) a ∙ y, c)
    by_steps (i ∷ is) y q = absurd (no_field (leaf e.infer) b i is refl q)
tail_content k us l n f (is_indexed {b = b} {i = i} {is = is} d g x q) = absurd (no_field (tail (leaf e.infer) k us) b i is f q)

bridged : (x : Tree) → Formed x → Obeys lev.Jump enclosed x → Node plain (own x []) (clear x) []
bridged x f h = bridge x plain enclosed [] f meets_plain shows_nothing h (fits_calls lev.Jump x next.End (end_fits x))

call_held : (ks : Children) → FormedChildren slot.elements false ks → ObeysChildren ks → Held slot.elements false ks
unfolding trailer_head
call_held ks f h =
    let (m, a, c) = tail_content e.call (clear_children ks) _ [] refl (bridged (tail (leaf e.infer) e.call ks) (refl, refl, f) (refl, refl, h)) in
    content_held del.Parenthesis slot.elements false m [] [] ks (sym (ap (λ (w : List ℕ × List Tok). w.1) (some_is a))) c

index_held : (ks : Children) → FormedChildren slot.single false ks → ObeysChildren ks → Held slot.single false ks
unfolding trailer_head
index_held ks f h =
    let (m, a, c) = tail_content e.index (clear_children ks) _ [] refl (bridged (tail (leaf e.infer) e.index ks) (refl, refl, f) (refl, refl, h)) in
    content_held del.Bracket slot.single false m [] [] ks (sym (ap (λ (w : List ℕ × List Tok). w.1) (some_is a))) c

-- ---- frames that end with braces

loops_brace : (b last : Bool) (ks : Children) → FormedChildren slot.loops last ks → children_brace b ks ≡ true
loops_brace b last none f = absurd cc
loops_brace b last (child e.loop_head (e.braced d) x none) f = refl
loops_brace b last (child e.loop_head (e.braced d) x (child k c y ks)) f = absurd (let q = f.2.0.piece in cc)
loops_brace b last (child e.loop_head c x ks) f = absurd (let q = f.0.ending in cc)
loops_brace b last (child k c x ks) f = absurd (let q = f.0.piece in cc)

conditions_brace : (b last : Bool) (ks : Children) → FormedChildren slot.conditions last ks → children_brace b ks ≡ true
conditions_brace b last none f = absurd cc
conditions_brace b last (child e.condition (e.braced d) x ks) f = otherwise_brace ks f.2
  where
    otherwise_brace : (ks : Children) → FormedChildren slot.otherwise last ks → children_brace true ks ≡ true
    otherwise_brace none f = refl
    otherwise_brace (child e.chained e.no_ending y none) f = refl
    otherwise_brace (child e.chained e.no_ending y (child k c z ks)) f = absurd (let q = f.2.0.piece in cc)
    otherwise_brace (child e.chained c y ks) f = absurd (let q = f.0.ending in cc)
    otherwise_brace (child k c y ks) f = absurd (let q = f.0.piece in cc)
conditions_brace b last (child e.condition c x ks) f = absurd (let q = f.0.ending in cc)
conditions_brace b last (child k c x ks) f = absurd (let q = f.0.piece in cc)

scrutinees_brace : (b last : Bool) (ks : Children) → FormedChildren slot.scrutinees last ks → children_brace b ks ≡ true
scrutinees_brace b last none f = absurd cc
scrutinees_brace b last (child e.scrutinee (e.opened ats) x ks) f = refl
scrutinees_brace b last (child e.scrutinee c x ks) f = absurd (let q = f.0.ending in cc)
scrutinees_brace b last (child k c x ks) f = absurd (let q = f.0.piece in cc)

block_brace : (b : Bool) (x : Tree) → is_verbatim_block x ≡ true → tree_brace b x ≡ true
block_brace b (leaf (e.block None c)) h = refl
block_brace b (leaf k) h = absurd cc
block_brace b x h = absurd cc

outputs_brace : (b last : Bool) (ks : Children) → FormedChildren slot.outputs last ks → children_brace b ks ≡ true
outputs_brace b last none f = absurd cc
outputs_brace b last (child e.output_block e.no_ending x none) f = block_brace b x f.0.piece
outputs_brace b last (child e.output_block e.no_ending x (child k c y ks)) f = absurd (let q = f.2.0.piece in cc)
outputs_brace b last (child e.output_block c x ks) f = absurd (let q = f.0.ending in cc)
outputs_brace b last (child k c x ks) f = absurd (let q = f.0.piece in cc)

clash : (b : Bool) → b ≡ true → b ≡ false → ⊥
clash b g h = let r : true ≡ false = sym g ∙ h in cc

-- ---- the front of a tree before `else`

else_front : (x : Tree) (b : Bool) (r : List Tok) → Formed x → open_end x ≡ false → tree_brace b x ≡ false → Front (begins_brace x) (begins_label x) (begins_pound x) (own x (els r))
else_front (leaf k) b r f h g = leaf_front k b r f h g
else_front (paren m x) b r f h g = (group_front _ _).0
else_front (attributed a ats x) b r f h g = subst (λ l. Front false false true (attributes_own l (own x (els r)))) (sym (outers_are (a ∷ ats) f.0)) (pound_front a _)
else_front (prefixed k gs x) b r f h g = prefix_front k _
else_front (infixed x k y) b r f h g = front x (class_of k) _ f.1 (shows_operator k (own y (els r)))
else_front (postfixed x k) b r f h g = front x (class_of (postfix_op k)) _ f.1 (postfix_class k (els r))
else_front (tail x k ks) b r f h g = front x (next_of k) _ f.1 (shows_trailer k _ (els r))
else_front (frame k ks) b r f h g = by_frame k f g
  where
    by_frame : (k : Frame) → Formed (frame k ks) → tree_brace b (frame k ks) ≡ false → Front (begins_brace (frame k ks)) (begins_label (frame k ks)) (begins_pound (frame k ks)) (own (frame k ks) (els r))
    by_frame e.array f g = (group_front _ _).1
    by_frame e.tuple f g = (group_front _ _).0
    by_frame e.repeat f g = (group_front _ _).1
    by_frame e.group_expr f g = absurd (let q = f.0 in cc)
    by_frame (e.structure q w d) f g = absurd cc
    by_frame (e.closure_block c) f g = absurd (clash _ (outputs_brace _ _ ks f.1) g)
    by_frame e.if_expr f g = absurd (clash _ (conditions_brace _ _ ks f.1) g)
    by_frame (e.while_loop w) f g = absurd (clash _ (loops_brace _ _ ks f.1) g)
    by_frame (e.for_loop w c) f g = absurd (clash _ (loops_brace _ _ ks f.1) g)
    by_frame e.match_expr f g = absurd (clash _ (scrutinees_brace _ _ ks f.1) g)

-- ---- no attribute first

base_plain : (k : Trailer) (x : Tree) → is_base k x ≡ true → (is_attributed x ≡ false) × (is_operation x ≡ false)
base_plain k (leaf j) h = (refl, not-true _ (and_parts _ _ h).0)
base_plain k (attributed a ats x) h = absurd (let f : true ≡ false = sym h ∙ and-false _ in cc)
base_plain k (prefixed j gs x) h = (refl, (or_parts _ _ (not-true _ (and_parts _ _ h).0)).1)
base_plain k (infixed x j y) h = absurd cc
base_plain k (postfixed x j) h = absurd cc
base_plain k _ h = (refl, refl)

no_pound : (v : Precedence) (c : Context) (x : Tree) → Obeys v c x → is_attributed x ≡ false → is_operation x ≡ false → begins_pound x ≡ false
no_pound v c (attributed a ats x) h f g = absurd cc
no_pound v c (infixed x k y) h f g = absurd cc
no_pound v c (postfixed x k) h f g = absurd cc
no_pound v c (tail x k ks) h f g = let p = base_plain k x h.0 in no_pound v (base_context k c) x h.1 p.0 p.1
no_pound v c _ h f g = refl

-- ---- nodes

leaf_stopped : (k : Leaf) (r : List Tok) → leaf_open k ≡ false → leaf_stops k (els r) ≡ true
unfolding sign_at lifetime_at
leaf_stopped (e.path q w) r h = rw (and-false (is_bare (q, w)), and-false (is_word_alone (codes "builtin") q w)) refl
leaf_stopped (e.bare_jump j) r h = absurd cc
leaf_stopped (e.continuing None) r h = refl
leaf_stopped (e.continuing (Some w)) r h = refl
leaf_stopped _ r h = refl

leaf_there : (p : Place) (k : Leaf) (r : List Tok) → leaf_fits k ≡ true → leaf_open k ≡ false → leaf_stands p k (els r) ≡ true
unfolding leaf_stands sign_at brace_at group_at
leaf_there p (e.path q w) r f h =
    rw (or-true p.condition, not-true (is_try_alone q w) (and_parts _ (not (is_try_alone q w)) f).1, and-false (is_word_alone (codes "builtin") q w)) refl
leaf_there p (e.full_range limits.HalfOpen) r f h = absurd cc
leaf_there p (e.full_range limits.Closed) r f h = absurd cc
leaf_there p (e.bare_jump j) r f h = absurd cc
leaf_there p _ r f h = refl

types_end : (r : List Tok) → ends_types (els r) ≡ true
unfolding else_tests
types_end r = refl

base_free : (p : Place) (k : Trailer) (c : Context) (x : Tree) → Meets p c → Formed x → Obeys p.level (base_context k c) x → is_parenthesis_or_bracket k && rests p (clear x) ≡ false
base_free p e.call c x m f h = goes_free p p.level c (base_context e.call c) x m refl f h
base_free p e.index c x m f h = goes_free p p.level c (base_context e.index c) x m refl f h
base_free p _ c x m f h = refl

field_stops : (w : _) (r : List Tok) → trailer_stops (e.field (a_name w)) (els r) ≡ true
unfolding else_tests
field_stops w r = refl

-- a trailer that is no index of a tuple
tail_node : (p : Place) (c : Context) (x : Tree) (k : Trailer) (ks : Children) (r : List Tok) → trailer_fits k ≡ true → headed.is_indexed k ≡ false → trailer_stops k (els r) ≡ true → Formed x → Meets p c
    → is_base k x ≡ true → Obeys p.level (base_context k c) x → Content (trailer_holder k) (trailer_rest k (children_own ks []) (els r)) (clear_children ks) (els r)
    → Node p (own (tail x k ks) (els r)) (clear (tail x k ks)) (els r)
tail_node p c x k ks r f i z w m h g q =
    let d = bridge x p (base_context k c) (trailer_own k (children_own ks []) (els r)) w (meets_base p k c m) (shows_trailer k (children_own ks []) (els r)) g (base_calls x k h) in
    is_tail d (carries_it p k (clear x) (base_fits p k x h (base_free p k c x m w g))) (heads_back.trailers k (children_own ks []) (els r) f i z) q refl

nothing_held : (ks : Children) (r : List Tok) → FormedChildren slot.done false ks → Content slot.nothing r (clear_children ks) r
nothing_held none r f = holds_none
nothing_held (child k c x ks) r f = absurd (let g = f.0.piece in cc)

tuple_comma : (p : Place) (ks : Children) → FormedChildren slot.elements (is_one ks) ks → st.frame_stands p e.tuple (clear_children ks) ≡ true
unfolding st.frame_stands
tuple_comma p none f = refl
tuple_comma p (child k c x (child j d y ks)) f = refl
tuple_comma p (child e.element e.comma x none) f = refl
tuple_comma p (child e.element e.no_ending x none) f = absurd (let q = f.0.comma in cc)
tuple_comma p (child e.element (e.braced b) x none) f = refl
tuple_comma p (child e.element (e.opened ats) x none) f = refl
tuple_comma p (child k c x none) f = absurd (let q = f.0.piece in cc)

cast_stands : (p : Place) (y : t.TypeTree) (r : List Tok) → st.postfix_stands p (e.cast y) r ≡ true
unfolding st.postfix_stands
cast_stands p y r = refl

any_frame : (p : Place) (r : List Tok) (us : Children) → (st.frame_stands p e.array us ≡ true) × (st.frame_stands p e.repeat us ≡ true) × (st.frame_ends p e.array us r ≡ true) × (st.frame_ends p e.repeat us r ≡ true)
    × (st.frame_ends p e.tuple us r ≡ true)
unfolding st.frame_stands st.frame_ends
any_frame p r us = (refl, refl, refl, refl, refl)

array_held : (ks : Children) → Formed (frame e.array ks) → ObeysChildren ks → Held slot.elements false ks
array_held ks f h = let (m, a, c) = frame_content e.array (clear_children ks) _ [] (bridged (frame e.array ks) f (refl, h)) in content_held del.Bracket slot.elements false m [] [] ks (sym (some_is a)) c

tuple_held : (ks : Children) → Formed (frame e.tuple ks) → ObeysChildren ks → Held slot.elements false ks
tuple_held ks f h = let (m, a, c) = frame_content e.tuple (clear_children ks) _ [] (bridged (frame e.tuple ks) f (refl, h)) in content_held del.Parenthesis slot.elements false m [] [] ks (sym (some_is a)) c

repeat_held : (ks : Children) → Formed (frame e.repeat ks) → ObeysChildren ks → Held slot.counted false ks
repeat_held ks f h = let (m, a, c) = frame_content e.repeat (clear_children ks) _ [] (bridged (frame e.repeat ks) f (refl, h)) in content_held del.Bracket slot.counted false m [] [] ks (sym (some_is a)) c

else_node : (x : Tree) (p : Place) (c : Context) (b : Bool) (r : List Tok) → Formed x → Meets p c → Obeys p.level c x → open_end x ≡ false → tree_brace b x ≡ false → Node p (own x (els r)) (clear x) (els r)
else_node (leaf k) p c b r f m h g q = is_leaf (heads_back.leaves k (els r) f (leaf_stopped k r g)) (leaf_there p k r f g)
else_node (paren y x) p c b r f m h g q =
    let d = bridge x plain enclosed [] f meets_plain shows_nothing h.0 (fits_calls lev.Jump x next.End h.1) in
    st.is_paren (subst (λ (l : List Tok). Node plain l (clear x) []) (sym (toks-inside (own x []))) d)
    (fits_ends plain x next.End [] shows_nothing h.1) (fits_closes plain lev.Jump x next.End [] shows_nothing h.1)
else_node (attributed a ats x) p c b r f m h g q =
    let w = else_front x _ r f.2 g q in
    st.is_attributed_by
    (ap (λ l. outer_attributes.behind (a ∷ ats) (attributes_own l (own x (els r)))) (outers_are (a ∷ ats) f.0)
    ∙ attributes_back (a ∷ ats) (own x (els r)) f.0 (w.pound ∙ no_pound p.level (attributed_context c) x h.1 f.1 h.0))
    (takes_attributes_there p x f.2 f.1 h.0) (else_node x p (attributed_context c) _ r f.2 (meets_attributed p c m) h.1 g q)
else_node (prefixed k none x) p c b r f m h g q =
    let w = else_front x _ r f.2 g q in
    st.is_prefixed (heads_back.prefixes k (own x (els r)) f.0 (prefix_stopped k (own x (els r)) _ _ _ f.0 w h.3)) (prefix_there p c k x (own x (els r)) _ _ f.0 m h.1 w)
    (else_node x (prefix_place p k) (prefix_context k c) _ r f.2 (meets_prefix p k c m) (level_obeys (prefix_level k) (prefix_place p k).level (prefix_context k c) x (prefix_level_is p k) h.1) g q)
    (else_ends (prefix_place p k) (clear x) r) (else_closes (prefix_place p k) (clear x) r)
else_node (prefixed k (child j d y gs) x) p c b r f m h g q = absurd (let z = f.1 in cc)
else_node (infixed x k y) p c b r f m h g q =
    let l = own y (els r) in
    let w = else_front y _ r f.2 g q in
    let s = shows_operator k l in
    let back = sym (own_drop k l) in
    st.is_infixed (bridge x p (left_context k c) (infix_own k l) f.1 (meets_left p k c m) s h.1 (left_calls x k)) (left_closes p (clear x) k _ s)
    (left_fits p k x h.2 (goes_free p p.level c (left_context k c) x m refl f.1 h.1)) (own_infix k l) h.0
    (subst (λ (z : List Tok). infix_stands p k z ≡ true) back (infix_there p c k y l _ _ f.0 m h.3 w))
    (subst (λ (z : List Tok). Node (at p (level k)) z (clear y) (els r)) back (else_node y (at p (level k)) (right_context k c) _ r f.2 (meets_right p k c m) h.3 g q))
    (else_ends (at p (level k)) (clear y) r) (else_closes (at p (level k)) (clear y) r) (else_operation k r)
else_node (postfixed x (e.range_from k)) p c b r f m h g q = absurd cc
else_node (postfixed x (e.cast y)) p c b r f m h g q =
    let s = postfix_class (e.cast y) (els r) in
    st.is_postfixed (bridge x p (left_context inf.Cast c) (postfix_own (e.cast y) (els r)) f.1 (meets_left p inf.Cast c m) s h.1 (left_calls x inf.Cast)) (left_closes p (clear x) inf.Cast _ s)
    (left_fits p inf.Cast x h.2 (goes_free p p.level c (left_context inf.Cast c) x m refl f.1 h.1)) (postfix_infix (e.cast y) (els r)) h.0
    (parts_read_back.types false y (els r) f.0 (parts_end.types false y (els r) (types_end r) refl)) (cast_stands p y (els r)) (else_operation inf.Cast r)
else_node (tail x e.call ks) p c b r f m h g q =
    tail_node p c x e.call ks r f.0 refl refl f.1 m h.0 h.1 (held_content del.Parenthesis slot.elements false (els r) ks (call_held ks f.2 h.2))
else_node (tail x e.index ks) p c b r f m h g q =
    tail_node p c x e.index ks r f.0 refl refl f.1 m h.0 h.1 (held_content del.Bracket slot.single false (els r) ks (index_held ks f.2 h.2))
else_node (tail x (e.method w a) ks) p c b r f m h g q =
    tail_node p c x (e.method w a) ks r f.0 refl refl f.1 m h.0 h.1 (held_content del.Parenthesis slot.elements false (els r) ks (call_held ks f.2 h.2))
else_node (tail x e.await ks) p c b r f m h g q = tail_node p c x e.await ks r f.0 refl refl f.1 m h.0 h.1 (nothing_held ks (els r) f.2)
else_node (tail x e.try_expr ks) p c b r f m h g q = tail_node p c x e.try_expr ks r f.0 refl refl f.1 m h.0 h.1 (nothing_held ks (els r) f.2)
else_node (tail x (e.field (a_name w)) ks) p c b r f m h g q = tail_node p c x (e.field (a_name w)) ks r f.0 refl (field_stops w r) f.1 m h.0 h.1 (nothing_held ks (els r) f.2)
else_node (tail x (e.field (an_index n)) none) p c b r f m h g q =
    let k = e.field (an_index n) in
    st.is_indexed (bridge x p (base_context k c) (trailer_own k [] (els r)) f.1 (meets_base p k c m) (shows_trailer k [] (els r)) h.1 (base_calls x k h.0))
    (carries_it p k (clear x) (base_fits p k x h.0 (base_free p k c x m f.1 h.1))) (heads_back.indices n [] (els r) f.0) refl
else_node (tail x (e.field (an_index n)) (child j d y ks)) p c b r f m h g q = absurd (let z = f.2.0.piece in cc)
else_node (frame e.array ks) p c b r f m h g q =
    is_frame (heads_back.frames e.array ks (children_own ks []) (els r) f.0 refl) (held_content del.Bracket slot.elements false (els r) ks (array_held ks f h.1)) (any_frame p (els r) (clear_children ks)).0 (any_frame p (els r) (clear_children ks)).2
else_node (frame e.tuple ks) p c b r f m h g q =
    is_frame (heads_back.frames e.tuple ks (children_own ks []) (els r) f.0 refl) (held_content del.Parenthesis slot.elements false (els r) ks (tuple_held ks f h.1)) (tuple_comma p ks f.1) (any_frame p (els r) (clear_children ks)).4
else_node (frame e.repeat ks) p c b r f m h g q =
    is_frame (heads_back.frames e.repeat ks (children_own ks []) (els r) f.0 refl) (held_content del.Bracket slot.counted false (els r) ks (repeat_held ks f h.1)) (any_frame p (els r) (clear_children ks)).1 (any_frame p (els r) (clear_children ks)).3
else_node (frame e.group_expr ks) p c b r f m h g q = absurd (let z = f.0 in cc)
else_node (frame (e.structure z w d) ks) p c b r f m h g q = absurd cc
else_node (frame (e.closure_block k) ks) p c b r f m h g q = absurd (clash _ (outputs_brace _ _ ks f.1) q)
else_node (frame e.if_expr ks) p c b r f m h g q = absurd (clash _ (conditions_brace _ _ ks f.1) q)
else_node (frame (e.while_loop w) ks) p c b r f m h g q = absurd (clash _ (loops_brace _ _ ks f.1) q)
else_node (frame (e.for_loop w k) ks) p c b r f m h g q = absurd (clash _ (loops_brace _ _ ks f.1) q)
else_node (frame e.match_expr ks) p c b r f m h g q = absurd (clash _ (scrutinees_brace _ _ ks f.1) q)

-- ---- initialisers

pub closed_stand : ClosedStandBeforeElse
unfolding is_well_formed
closed_stand u r w h g =
    let x = printed enclosed u in
    let (a, b) = or_parts (ends_with_brace x) (open_end x) h in
    subst (λ l. Stands plain (own x l) (clear x) l) (sym (word_is (codes "else") r g))
    (record {
      node = else_node x plain enclosed false (drop 1 r) (printed_formed enclosed u w) meets_plain (printed_good (fill u) enclosed (formed_fill u w)) b (trailing_brace_is_last.everywhere x ∙ a);
      ending = else_ends plain (clear x) (drop 1 r);
      closing = else_closes plain (clear x) (drop 1 r);
    })

-- What stands obeys the binding rules, said along the tree with its attributed operations in parentheses.
use Rattle.std.proofs.Common.{◌≡◌, ℕ, Bool, true, false, not, ◌&&◌, ◌||◌, List, [], ◌∷◌, drop, Option, Some, None, refl, sym, ◌∙◌, ap, subst}
use Rattle.std.specs.Prelude.{if◌then◌else◌}
use Rattle.std.proofs.lemmas.Bool.{and_parts, and_from, not-true, or_parts}
use Rattle.std.proofs.Math.Bool.{or-false}
use Rattle.syn_lexer.specs.declared.front.Delimiter.TheVariants as del
use Rattle.syn_tokens.specs.Tok.{Tok}
use Rattle.syn_tokens.specs.Front.{group_at}
use Rattle.syn_lower_spec.specs.Tree.{TypeTree}
use Rattle.syn_lower_spec.specs.Form.{Outcome, and_then, inside_reads}
use Rattle.syn_lower_spec.specs.Part.{type}
use Rattle.syn_lower_spec.specs.Pat.{an_index, a_name}
use Rattle.syn_lower_spec.specs.Mark.{lt, brace_at}
use Rattle.syn_lower_spec.specs.Ends.{ends_open}
use Rattle.syn_lower_spec.proofs.Weights.{some_is}
use Rattle.syn_expr_spec.specs.declared.kinds.Precedence.{Precedence}
use Rattle.syn_expr_spec.specs.declared.kinds.Precedence.TheVariants as lev
use Rattle.syn_expr_spec.specs.declared.kinds.Infix.{Infix}
use Rattle.syn_expr_spec.specs.declared.kinds.Place.{Place}
use Rattle.syn_expr_spec.specs.declared.next.Next.{Next}
use Rattle.syn_expr_spec.specs.declared.next.Next.TheVariants as next
use Rattle.syn_expr_spec.specs.declared.next.Context.{Context}
use Rattle.syn_expr_spec.specs.Place.{at}
use Rattle.syn_expr_spec.specs.Op.{level, is_comparison}
use Rattle.syn_expr_spec.specs.Front.{dot_at, question_at}
use Rattle.syn_expr_spec.specs.Head.{leaf_form, prefix_form, body, body_inside}
use Rattle.syn_expr_spec.specs.Next.{enclosed, in_condition, next_of, takes_next, trails, left_context, base_context, right_context, attributed_context, prefix_context, prefix_level, piece_context, left_edge}
use Rattle.syn_expr_spec.specs.Slot.{Slot, Holder, within, ending_at, piece_place, trailer_holder}
use Rattle.syn_expr_spec.specs.Stands.{Node, is_leaf, is_become, is_attributed_verbatim, is_paren, is_attributed_by, is_prefixed, is_infixed, is_postfixed, is_tail, is_indexed, is_frame, Content, holds_none, holds_within, holds_bare, Operands, no_more, one_more, short, block, arms_inside, fits_base, fields_of, fields_head, trailer_head, is_base, is_call, carries, is_cast, is_range, is_infix, is_attributed, is_verbatim, is_pounded, takes_attributes, postfix_behind, postfix_stands, prefix_place, short_value, takes_block}
use Rattle.syn_expr_spec.specs.Tree as e
use Rattle.syn_expr_spec.specs.Tree.{Tree, Children, Leaf, Prefix, Postfix, Trailer, Piece, Ending, leaf, paren, attributed, prefixed, tail, none, postfix_op, plain_block, is_silent, is_block_like}
use Rattle.syn_expr_spec.specs.Rule.{is_below, is_braceless, is_operation, put, postfix_refuses, is_less_next, is_bare_break}
use Rattle.syn_expr_spec.specs.Printed.{parenthesize_attributed, parenthesize_attributed_children}
use Rattle.syn_expr_spec.proofs.Callees.{fits_there, fits_index}
use Rattle.syn_expr_spec.proofs.Formed.{no_block_held}
use Rattle.syn_expr_spec.proofs.Obeys.{Fits, FitsLeft, begins_label, Obeys, ObeysChildren}
use Rattle.syn_expr_spec.proofs.ShownFronts.{Front, front_end, front_operator, front_call, front_index, front_block, front_dot, front_question}
use Rattle.syn_expr_spec.proofs.ShownParts.{Agrees, agrees_plain, agrees_condition, agrees_arm, agrees_left, agrees_base, agrees_attributed, agrees_right, agrees_prefix, front_prefix, prefix_above, right_above, prefix_brace, right_brace, leaf_shown, prefix_placed, frame_shown, fits_shown, left_shown, prefix_head, base_below, base_braceless, below_left, left_braceless, attributed_below, attributed_braceless, dot_twice, dot_above, dot_braceless, postfix_shown}
use Rattle.syn_expr_spec.proofs.Parenthesized.{operation_stays, compares_stays, cast_stays, label_stays, base_stays, no_range, fields_stay}
use Rattle.syn_expr_spec.proofs.NameFronts.{block_first, label_first, bare_break}

-- what is asked of the first token and of the edge
abbrev pub At : Context → List Tok → Tree → Type 0
At c l x = (is_below c.edge && is_block_like x ≡ false) × (is_braceless c.edge && brace_at l ≡ false)

-- ---- fields of fields

carries_fields : (is : List ℕ) (k : Trailer) (b : Tree) (i : ℕ) → is_call k ≡ false → is_base k (fields_of (tail b (e.field (an_index i)) none) is) ≡ true
carries_fields [] k b i h = rw h refl
carries_fields (j ∷ is) k b i h = carries_fields is k (tail b (e.field (an_index i)) none) j h

abbrev field_context : ℕ → Context → Context
field_context i c = base_context (e.field (an_index i)) c

field_twice : (i j : ℕ) (c : Context) → field_context i (field_context j c) ≡ field_context i c
field_twice i j c = ap (λ x. record { condition = c.condition; edge = x; next = next.Dot }) (dot_twice c.edge)

obeys_fields : (is : List ℕ) (i : ℕ) (v : Precedence) (c : Context) (b : Tree) → is_base (e.field (an_index i)) b ≡ true → Obeys v (field_context i c) b → Obeys v c (fields_of b (i ∷ is))
obeys_fields [] i v c b h o = (h, o, tt)
obeys_fields (j ∷ is) i v c b h o =
    obeys_fields is j v c (tail b (e.field (an_index i)) none) refl
    (h, subst (λ (d : Context). Obeys v d b) (sym (field_twice i j c)) o, tt)

no_steps : (x y : List ℕ × List Tok) (i : ℕ) (is : List ℕ) → Some x ≡ Some y → x.0 ≡ [] → y.0 ≡ i ∷ is → ⊥
no_steps x y i is t p q =
    let r : i ∷ is ≡ [] = sym q ∙ sym (ap (λ (z : List ℕ × List Tok). z.0) (some_is t)) ∙ p in cc

no_tested : (b : Bool) (x y : List ℕ × List Tok) (i : ℕ) (is : List ℕ) → (if b then Some x else None) ≡ Some y → x.0 ≡ [] → y.0 ≡ i ∷ is → ⊥
no_tested true x y i is t p q = no_steps x y i is t p q
no_tested false x y i is t p q = absurd cc

fields_dot : (k : Trailer) (m h : List Tok) (i : ℕ) (is : List ℕ) → trailer_head k m ≡ Some (i ∷ is, h) → (is_call k ≡ false) × (next_of k ≡ next.Dot)
unfolding trailer_head
fields_dot e.call m h i is t = absurd (no_steps ([], m) (i ∷ is, h) i is t refl refl)
fields_dot e.index m h i is t = absurd (no_steps ([], m) (i ∷ is, h) i is t refl refl)
fields_dot e.try_expr m h i is t = absurd (no_tested (question_at m) ([], drop 1 m) (i ∷ is, h) i is t refl refl)
fields_dot _ m h i is t = (refl, refl)

test_of : {A : Type 0} (b : Bool) (o : Option A) (y : A) → (if b then o else None) ≡ Some y → b ≡ true
test_of true o y h = refl
test_of false o y h = absurd cc

call_inside : (x y : List ℕ × List Tok) → Some x ≡ Some y → x.1 ≡ y.1
call_inside x y t = ap (λ (p : List ℕ × List Tok). p.1) (some_is t)

holder_group : (d : _) (s : Slot) (z : Bool) (l n : List Tok) (ks : Children) → Content (within d s z) l ks n → (g : List Tok × List Tok) × (group_at d l ≡ Some g)
holder_group d s z l n ks (holds_within {i = i} g o e) = ((i, n), g)

front_trailer : (k : Trailer) (m h n : List Tok) (is : List ℕ) (ks : Children) → trailer_head k m ≡ Some (is, h) → Content (trailer_holder k) h ks n → Front (next_of k) m
unfolding trailer_head
front_trailer e.call m h n is ks t c =
    let g = holder_group _ _ _ h n ks c in front_call m g.0 (ap (group_at del.Parenthesis) (call_inside ([], m) (is, h) t) ∙ g.1)
front_trailer e.index m h n is ks t c =
    let g = holder_group _ _ _ h n ks c in front_index m g.0 (ap (group_at del.Bracket) (call_inside ([], m) (is, h) t) ∙ g.1)
front_trailer e.try_expr m h n is ks t c = front_question m (test_of (question_at m) _ _ t)
front_trailer _ m h n is ks t c = front_dot m (test_of (dot_at m) _ _ t)

front_fields : (m : List Tok) (y : List ℕ × List Tok) → fields_head m ≡ Some y → Front next.Dot m
unfolding fields_head
front_fields m y t = front_dot m (test_of (dot_at m) _ y t)

-- ---- operands of frames and trailers

behind_block : (c : Ending) (h n : List Tok) (o : Outcome (List Tok)) → group_at del.Brace h ≡ o
    → and_then o (λ ts m. Some (e.braced (e.body_of [] ts), m)) ≡ Some (c, n) → Front next.Block h
behind_block c h n None q t = absurd cc
behind_block c h n (Some g) q t = front_block h g q

behind_loop_block : (c : Ending) (h n : List Tok) → and_then (body.reads h) (λ b m. Some (e.braced b, m)) ≡ Some (c, n) → Front next.Block h
unfolding body
behind_loop_block c h n t = by_group (group_at del.Brace h) refl t
  where
    by_group : (o : Option (List Tok × List Tok)) → group_at del.Brace h ≡ o → and_then (inside_reads body_inside o) (λ b m. Some (e.braced b, m)) ≡ Some (c, n) → Front next.Block h
    by_group None q t = absurd cc
    by_group (Some g) q t = front_block h g q

abbrev pub ShownAt : Place → List Tok → Tree → List Tok → Type 0
ShownAt p l x n = (c : Context) → Agrees p c → Front c.next n → At c l x → Obeys p.level c (parenthesize_attributed x)

piece_shown : (k : Piece) (l n m : List Tok) (x : Tree) (c : Ending) → ending_at k x n ≡ Some (c, m) → ShownAt (piece_place k) l x n
    → Obeys lev.Jump (piece_context k) (parenthesize_attributed x)
unfolding ending_at
piece_shown e.condition l n m x c t s = s in_condition agrees_condition (behind_block c n m _ refl t) (refl, refl)
piece_shown e.loop_head l n m x c t s = s in_condition agrees_condition (behind_loop_block c n m t) (refl, refl)
piece_shown e.scrutinee l n m x c t s = absurd cc
piece_shown e.guarded l n m x c t s = s (piece_context e.guarded) agrees_arm (front_end n) (refl, refl)
piece_shown (e.arm ats y) l n m x c t s = s (piece_context (e.arm ats y)) agrees_arm (front_end n) (refl, refl)
piece_shown _ l n m x c t s = s enclosed agrees_plain (front_end n) (refl, refl)

block_shown : (k : Piece) (i : List Tok) → takes_block k ≡ true → Obeys lev.Jump (piece_context k) (plain_block i)
block_shown e.chained i h = refl
block_shown e.output_block i h = refl
block_shown _ i h = absurd cc

short_silent : (k : Piece) (x : Tree) → short_value k ≡ Some x → is_silent k ≡ false → ⊥
short_silent (e.field_value ats (a_name w) false) x h s = absurd cc
short_silent _ x h s = absurd cc

no_bare_label : (k : Prefix) (l m n : List Tok) (p : Place) (x : Tree) → prefix_form.behind k l ≡ Some m → Node p m x n → is_bare_break k && begins_label x ≡ false
no_bare_label (e.jump (e.breaking None)) l m n p x h d = go (begins_label x) refl
  where
    go : (b : Bool) → begins_label x ≡ b → b ≡ false
    go true q = absurd (let r : true ≡ false = sym (label_first d q) ∙ bare_break l m h in cc)
    go false q = refl
no_bare_label _ l m n p x h d = refl

prefix_level_is : (p : Place) (k : Prefix) → (prefix_place p k).level ≡ prefix_level k
prefix_level_is p (e.unary op) = refl
prefix_level_is p _ = refl

-- A type that would take arguments at `<` has none after it.
abbrev pub TypesClose : Type 0
TypesClose = (x : TypeTree) (l n : List Tok) → (type false).behind x l ≡ Some n → lt.at n ≡ true → ends_open x ≡ false

base_field : (k : Trailer) (i : ℕ) (b : Tree) → is_base k b ≡ true → is_base (e.field (an_index i)) b ≡ true
base_field k i b h =
    let p = and_parts (carries b) _ h in
    let q = and_parts (not (is_attributed b || is_pounded b)) _ p.1 in
    and_from (carries b) _ p.0 (and_from (not (is_attributed b || is_pounded b)) true q.0 refl)

base_is : (p : Place) (k : Trailer) (b : Tree) → fits_base p k b ≡ true → is_base k b ≡ true
unfolding fits_base
base_is p k b h = (and_parts _ _ h).0

-- at an index of a field
index_shown : (p : Place) (c : Context) (l y : List Tok) (b : Tree) (i : ℕ) → Agrees p c → is_braceless c.edge && brace_at l ≡ false → Front next.Dot y → ShownAt p l b y
    → Obeys p.level (field_context i c) (parenthesize_attributed b)
index_shown p c l y b i m z f s =
    s (field_context i c) (agrees_base p (e.field (an_index i)) c m) f
    (ap (λ x. x && is_block_like b) (dot_above c.edge), ap (λ x. x && brace_at l) (dot_braceless c.edge) ∙ z)

tail_shown : (p : Place) (c : Context) (k : Trailer) (l y h : List Tok) (b x : Tree) (is : List ℕ) → Agrees p c → is_braceless c.edge && brace_at l ≡ false
    → fits_base p k b ≡ true → trailer_head k y ≡ Some (is, h) → Front (next_of k) y → x ≡ fields_of b is → ShownAt p l b y
    → (is_base k (parenthesize_attributed x) ≡ true) × Obeys p.level (base_context k c) (parenthesize_attributed x)
tail_shown p c k l y h b x [] m z f t r q s = (
  ap (λ a. is_base k (parenthesize_attributed a)) q ∙ base_stays k b ∙ base_is p k b f,
  subst (λ a. Obeys p.level (base_context k c) (parenthesize_attributed a)) (sym q)
      (s (base_context k c) (agrees_base p k c m) r (base_below p c k b m f, ap (λ a. a && brace_at l) (base_braceless k c.edge) ∙ z)),
)
tail_shown p c k l y h b x (i ∷ is) m z f t r q s =
    let d = fields_dot k y h i is t in
    let u = ap parenthesize_attributed q ∙ fields_stay (i ∷ is) b in (
      ap (is_base k) u ∙ carries_fields is k (parenthesize_attributed b) i d.0,
      subst (λ a. Obeys p.level (base_context k c) a) (sym u)
          (obeys_fields is i p.level (base_context k c) (parenthesize_attributed b) (base_stays (e.field (an_index i)) b ∙ base_field k i b (base_is p k b f))
          (index_shown p (base_context k c) l y b i (agrees_base p k c m) (ap (λ a. a && brace_at l) (base_braceless k c.edge) ∙ z)
          (subst (λ n. Front n y) d.1 r) s)),
    )

-- ---- the place, and attributes

-- no head is in a condition
abbrev pub is_possible : Place → Bool
is_possible p = not (p.head && p.condition)

piece_possible : (k : Piece) → is_possible (piece_place k) ≡ true
piece_possible e.element = refl
piece_possible _ = refl

prefix_possible : (p : Place) (k : Prefix) → is_possible (prefix_place p k) ≡ true
prefix_possible p k = ap (λ b. not (b && (prefix_place p k).condition)) (prefix_head p k)

-- An operation after attributes is a range without a start.
operation_range : (x : Tree) → is_operation x ≡ true → is_infix x ≡ false → is_range x ≡ true
operation_range (leaf k) o i = o
operation_range (prefixed k gs t) o i = o
operation_range _ o i = absurd cc

any_level : (x : Tree) (v w : Precedence) (c : Context) → is_operation x ≡ true → is_infix x ≡ false → Obeys v c (parenthesize_attributed x) → Obeys w c (parenthesize_attributed x)
any_level (leaf k) v w c o i h = h
any_level (paren m t) v w c o i h = h
any_level (prefixed k gs t) v w c o i h = h
any_level _ v w c o i h = absurd cc

-- what may come after attributes there
record Behind (p : Place) (x : Tree) : Type 0 where
  no_infix : is_infix x ≡ false
  at_head : is_range x ≡ true → p.head ≡ true

behind_attributes : (p : Place) (x : Tree) → takes_attributes p x ≡ true → Behind p x
behind_attributes p x h =
    let (f, g) = and_parts (not (is_infix x || (is_attributed x || is_verbatim x))) _ h in
    record { no_infix = (or_parts _ _ (not-true _ f)).0; at_head = λ r. sym (or-false p.head) ∙ ap (λ b. p.head || not b) (sym r) ∙ g }

clash : (b : Bool) → b ≡ true → b ≡ false → ⊥
clash b h k = let r : true ≡ false = sym h ∙ k in cc

-- at a head nothing that follows is asked for, and no condition is round it
alone_at_head : (p : Place) → is_possible p ≡ true → p.head ≡ true → Agrees p enclosed
alone_at_head p f h =
    record {
      mode = sym (ap (λ b. b && p.condition) (sym h) ∙ not-true _ f);
      head = λ z. absurd cc;
      no_statement = refl;
      brace = refl;
    }

-- where no head is, such pairs change nothing that a place asks of its occupant
record SameKind (x : Tree) : Type 0 where
  range : is_range (parenthesize_attributed x) ≡ is_range x
  carrier : carries (parenthesize_attributed x) ≡ carries x

no_operation_there : (p : Place) (x : Tree) → takes_attributes p x ≡ true → p.head ≡ false → is_operation x ≡ false
no_operation_there p x g h = go (is_operation x) refl
  where
    go : (b : Bool) → is_operation x ≡ b → b ≡ false
    go true o = let f = behind_attributes p x g in absurd (clash p.head (f.at_head (operation_range x o f.no_infix)) h)
    go false o = refl

same_behind : (x : Tree) (a : _) (more : _) → is_operation x ≡ false → SameKind x → SameKind (attributed a more x)
same_behind x a more o s =
    record {
      range = ap (λ b. is_range (put b (parenthesize_attributed x) (parenthesize_attributed x))) o ∙ s.range;
      carrier = ap (λ b. carries (put b (parenthesize_attributed x) (parenthesize_attributed x))) o ∙ s.carrier;
    }

same_fields : (is : List ℕ) (b : Tree) → SameKind b → SameKind (fields_of b is)
same_fields [] b s = s
same_fields (i ∷ is) b s = same_fields is (tail b (e.field (an_index i)) none) (record { range = refl; carrier = refl })

same_kind : {p : Place} {l n : List Tok} {x : Tree} → Node p l x n → p.head ≡ false → SameKind x
same_kind (is_attributed_by {p = p} {x = x} f g d) h = same_behind x _ _ (no_operation_there p x g h) (same_kind d h)
same_kind (is_indexed {b = b} {i = i} {is = is} d f t q) h = subst SameKind (sym q) (same_fields (i ∷ is) b (same_kind d h))
same_kind _ h = record { range = refl; carrier = refl }

fits_kind : (v : Precedence) (x : Tree) (n : Next) → SameKind x → Fits v x n → Fits v (parenthesize_attributed x) n
fits_kind v x n s f =
    record {
      no_operator = ap (λ b. takes_next v n && not b) s.range ∙ f.no_operator;
      no_trailer = ap (λ b. trails n && (b || is_cast (parenthesize_attributed x))) s.carrier ∙ ap (λ b. trails n && (carries x || b)) (cast_stays x) ∙ f.no_trailer;
    }

fits_left_kind : (k : Infix) (x : Tree) → FitsLeft k x → FitsLeft k (parenthesize_attributed x)
fits_left_kind k x f = record { no_range = no_range x f.no_range; no_chain = ap (λ b. b && is_comparison k) (compares_stays x) ∙ f.no_chain }

attributes_shown : (p : Place) (x : Tree) (c : Context) → is_possible p ≡ true → takes_attributes p x ≡ true → (b : Bool) → is_operation x ≡ b
    → (Agrees p enclosed → Obeys p.level enclosed (parenthesize_attributed x)) → Obeys p.level (attributed_context c) (parenthesize_attributed x)
    → (is_operation (put b (parenthesize_attributed x) (parenthesize_attributed x)) ≡ false)
    × Obeys p.level (attributed_context c) (put b (parenthesize_attributed x) (parenthesize_attributed x))
attributes_shown p x c a g true o inside h =
    let f = behind_attributes p x g in
    let i = inside (alone_at_head p a (f.at_head (operation_range x o f.no_infix))) in
    (refl, (any_level x p.level lev.Jump enclosed o f.no_infix i, record { no_operator = refl; no_trailer = refl }))
attributes_shown p x c a g false o inside h = (operation_stays x ∙ o, h)

module _ (closed : TypesClose) where
  postfix_refused : (p : Place) (c : Context) (k : Postfix) (l n : List Tok) → Agrees p c → Front c.next n → postfix_behind k l ≡ Some n → postfix_stands p k n ≡ true → postfix_refuses k c.next ≡ false
  postfix_refused p c (e.cast x) l n m f h t = go (is_less_next c.next) refl
    where
      go : (b : Bool) → is_less_next c.next ≡ b → b && ends_open x ≡ false
      go true q = closed x l n h (f.less q)
      go false q = refl
  postfix_refused p c (e.range_from op) l n m f h t = postfix_shown p c op n m f t

  mutual
    pub shown : {p : Place} {l n : List Tok} {x : Tree} → Node p l x n → is_possible p ≡ true → ShownAt p l x n
    shown (is_leaf {p = p} {l = l} {n = n} {k = k} f g) a c m s b = leaf_shown p c k l n m s g b.0 b.1 (λ y q. block_first y l n (ap (λ (z : Leaf). leaf_form.behind z l) (sym q) ∙ f))
    shown (is_become w d q r o) a c m s b = b.0
    shown (is_attributed_verbatim z more fs f d q r) a c m s b = b.0
    shown (is_paren {n = n} {x = x} d q r) a c m s b =
        (shown d refl enclosed agrees_plain (front_end []) (refl, refl), record { no_operator = refl; no_trailer = refl })
    shown (is_attributed_by {p = p} {n = n} {x = x} f g d) a c m s b =
        attributes_shown p x c a g (is_operation x) refl (λ i. shown d a enclosed i (front_end n) (refl, refl))
        (shown d a (attributed_context c) (agrees_attributed _ c m) s (attributed_below c.edge (is_block_like x) b.0, attributed_braceless c.edge _))
    shown (is_prefixed {p = p} {l = l} {m = y} {n = n} {k = k} {x = x} f g d q r) a c m s b = (
      prefix_placed c k m.no_statement,
      subst (λ v. Obeys v (prefix_context k c) (parenthesize_attributed x)) (prefix_level_is p k)
          (shown d (prefix_possible p k) (prefix_context k c) (agrees_prefix p k c m) (front_prefix k c n s) (prefix_above k c (is_block_like x), prefix_brace p k c y m g)),
      fits_kind _ x _ (same_kind d (prefix_head p k))
          (subst (λ v. Fits v x (prefix_context k c).next) (prefix_level_is p k) (fits_shown (prefix_place p k) (prefix_context k c).next n x (prefix_head p k) (front_prefix k c n s) q r)),
      ap (λ b. is_bare_break k && b) (label_stays x) ∙ no_bare_label k l y n (prefix_place p k) x f d,
    )
    shown (is_infixed {p = p} {l = l} {m = y} {n = n} {x = x} {y = z} {op = op} {count = count} d q r i t o d2 u v w) a c m s b =
        let f = left_shown p op x r in (
          t,
          shown d a (left_context op c) (agrees_left p op c m) (front_operator y op count i)
              (no_block_held (is_below (left_edge c.edge)) x (below_left c.edge p.head _ m.head m.no_statement f.1), ap (λ k. k && brace_at l) (left_braceless c.edge) ∙ b.1),
          fits_left_kind op x f.0,
          shown d2 refl (right_context op c) (agrees_right p op c m) s (right_above op c (is_block_like z), right_brace p op c (drop count y) m o),
          fits_kind (level op) z c.next (same_kind d2 refl) (fits_shown (at p (level op)) c.next n z refl s u v),
        )
    shown (is_postfixed {p = p} {l = l} {m = y} {n = n} {x = x} {k = k} {count = count} d q r i t u o w) a c m s b =
        let f = left_shown p (postfix_op k) x r in (
          t,
          shown d a (left_context (postfix_op k) c) (agrees_left p (postfix_op k) c m) (front_operator y (postfix_op k) count i)
              (no_block_held (is_below (left_edge c.edge)) x (below_left c.edge p.head _ m.head m.no_statement f.1), ap (λ k. k && brace_at l) (left_braceless c.edge) ∙ b.1),
          fits_left_kind (postfix_op k) x f.0,
          postfix_refused p c k (drop count y) n m s u o,
        )
    shown (is_tail {p = p} {l = l} {m = y} {h = h} {n = n} {b = z} {x = x} {k = k} {is = is} {ks = ks} d f t o q) a c m s b =
        let r = tail_shown p c k l y h z x is m b.1 (fits_there k d f t o) t (front_trailer k y h n is ks t o) q (shown d a) in
        (r.0, r.1, shown_content o)
    shown (is_indexed {p = p} {l = l} {m = y} {n = n} {b = z} {x = x} {i = i} {is = is} d f t q) a c m s b =
        subst (λ w. Obeys p.level c w) (sym (ap parenthesize_attributed q ∙ fields_stay (i ∷ is) z))
        (obeys_fields is i p.level c (parenthesize_attributed z) (base_stays (e.field (an_index i)) z ∙ base_is p (e.field (an_index i)) z (fits_index p i z f))
        (index_shown p c l y z i m b.1 (front_fields y (i ∷ is, n) t) (shown d a)))
    shown (is_frame {p = p} {k = k} {ks = ks} f o g e) a c m s b = (frame_shown p c k ks m g b.0, shown_content o)

    shown_content : {h : Holder} {l n : List Tok} {ks : Children} → Content h l ks n → ObeysChildren (parenthesize_attributed_children ks)
    shown_content holds_none = tt
    shown_content (holds_within g o q) = shown_operands o
    shown_content (holds_bare o) = shown_operands o

    shown_operands : {s : Slot} {l o : List Tok} {ks : Children} → Operands s l ks o → ObeysChildren (parenthesize_attributed_children ks)
    shown_operands (no_more q) = tt
    shown_operands (one_more {m = m} {h = h} {n = n} {k = k} {c = c} {x = x} f g d q t more) =
        (λ e. piece_shown k m h n x c t (shown d (piece_possible k)), shown_operands more)
    shown_operands (short {k = k} {x = x} f g t more) = (λ e. absurd (short_silent k x g e), shown_operands more)
    shown_operands (block {i = i} {k = k} f g t more) = (λ e. block_shown k i g, shown_operands more)
    shown_operands (arms_inside {l = l} {i = i} {h = h} {n = n} {x = x} d q r g u more) =
        (λ e. shown d refl in_condition agrees_condition (front_block h (i, n) g) (refl, refl), shown_operands more)

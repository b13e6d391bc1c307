-- One turn of the loop that reads the fields of a struct expression.
use Rattle.std.specs.Prelude.{not, ◌&&◌, is_some}
use Rattle.std.specs.declared.boxed.Box.{Box}
use Rattle.std.specs.declared.alloc.Global.{Global}
use Rattle.std.proofs.Common.{◌≡◌, ◌≤◌, ◌<◌, Bool, true, false, cond, ◌⊎◌, inl, inr, ⊎_elim, List, [], ◌∷◌, ◌++◌, map, drop, Option, Some, None, refl, ap, sym, ◌∙◌, subst, arith}
use Rattle.syn_tokens.specs.Tok.{Tok, weight}
use Rattle.syn_tokens.specs.Front.{is_empty}
use Rattle.syn_lower_spec.specs.Tree.{AttributeTree}
use Rattle.syn_lower_spec.specs.Form.{Outcome, and_then}
use Rattle.syn_lower_spec.specs.Mark.{comma}
use Rattle.syn_lower_spec.specs.Pat.{MemberTree, a_name, an_index, dots}
use Rattle.syn_lower_spec.proofs.Weights.{some_is}
use Rattle.syn_expr_spec.specs.Place.{plain}
use Rattle.syn_expr_spec.specs.Tree as tr
use Rattle.syn_expr_spec.specs.Tree.{Tree, Children, Piece, Ending, none, child}
use Rattle.syn_expr_spec.specs.Slot as s
use Rattle.syn_expr_spec.specs.Slot.{after, piece_form, ending_at, comma_or_end, to_field, may_end}
use Rattle.syn_expr_spec.specs.Stands.{short_value, path_of}
use Rattle.syn_expr_spec.specs.Read.{Reading, only_if, expr, bare_operands, value_by, operand_of}
use Rattle.syn_expr_spec.proofs.Chains.{then_some, only_some, chosen}
use Rattle.syn_expr_spec.proofs.HeadMoves.{left_less}
use Rattle.syn_expr_spec.proofs.Needs.{heads}
use Rattle.syn_expr_spec.proofs.Lesses.{here}
use Rattle.syn_lower_leaves.proofs.Loops.{map-one}
use Rattle.syn_lower_leaves.specs.Punct.{takes_value}
use Rattle.syn_lower_leaves.specs.View.{values, trails, last_of, is_some_pair}
use Rattle.syn_lower_leaves.specs.declared.punctuated.Punctuated.{Punctuated}
use Rattle.syn_expr_ast.specs.View.{fields, FieldView}
use Rattle.syn_expr_parse.specs.Fields.{value_at, ended, braced, gathered, Entry, a_field, the_rest, base, entry_by, entry}
use Rattle.syn_expr_heads.proofs.Turns.{turn as operands_turn, expr_less}
use Rattle.syn_expr_parse.proofs.Elements.{no_comma_ends, comma_falls}

-- ---- the children of the fields

abbrev field_child : FieldView → Ending → Children → Children
field_child v c ks = child (tr.field_value v.attrs v.member v.colon) c v.value ks

last_field : (xs : List FieldView) (v : FieldView) → fields xs true (field_child v tr.no_ending none) ≡ fields (xs ++ v ∷ []) false none
last_field [] v = refl
last_field (y ∷ []) v = refl
last_field (y ∷ z ∷ xs) v = ap (λ ks. field_child y tr.comma ks) (last_field (z ∷ xs) v)

one_field : (xs : List FieldView) (v : FieldView) (ks : Children) → fields xs true (field_child v tr.comma ks) ≡ fields (xs ++ v ∷ []) true ks
one_field [] v ks = refl
one_field (y ∷ []) v ks = refl
one_field (y ∷ z ∷ xs) v ks = ap (λ k. field_child y tr.comma k) (one_field (z ∷ xs) v ks)

-- ---- what is at the front

rest_at : (l : List Tok) → dots.at l ≡ true → (piece_form s.fields).reads l ≡ Some (tr.rest true, drop 2 l)
unfolding piece_form
rest_at l h = rw h refl

record Dots (l m : List Tok) : Type 0 where
  there : dots.at l ≡ true
  behind : drop 2 l ≡ m

is_field_piece : Piece → Bool
is_field_piece (tr.field_value ats m c) = true
is_field_piece _ = false

rest_is : (l m : List Tok) → (piece_form s.fields).reads l ≡ Some (tr.rest true, m) → Dots l m
unfolding piece_form is_field_piece
rest_is l m h =
    ⊎_elim (λ j. let (a, b) = only_some (dots.at l) (Some (tr.rest true, drop 2 l)) (tr.rest true, m) j.1 in record { there = a; behind = ap (λ (r : Piece × List Tok). r.1) (some_is b) })
    (λ j.
    let (x, a, b) = then_some _ (λ x n. Some (to_field x, n)) (tr.rest true, m) j.1 in
    let e : true ≡ false = ap (λ (r : Piece × List Tok). is_field_piece r.0) (some_is b) in absurd cc)
    (chosen (dots.at l) _ _ (Some (tr.rest true, m)) h)

no_dots : (l : List Tok) (b : Bool) → dots.at l ≡ b → ((piece_form s.fields).reads l ≡ Some (tr.rest true, drop 2 l) → b ≡ false) → b ≡ false
no_dots l true h f = f (rest_at l h)
no_dots l false h f = refl

refused_no_dots : (l : List Tok) → (piece_form s.fields).reads l ≡ None → dots.at l ≡ false
refused_no_dots l h = no_dots l (dots.at l) refl (λ e. absurd (cc (e, h)))

field_no_dots : (l n : List Tok) (ats : List AttributeTree) (m : MemberTree) (c : Bool) → (piece_form s.fields).reads l ≡ Some (tr.field_value ats m c, n) → dots.at l ≡ false
unfolding is_field_piece
field_no_dots l n ats m c h =
    no_dots l (dots.at l) refl (λ e.
    let f : Some (tr.rest true, drop 2 l) ≡ Some (tr.field_value ats m c, n) = sym e ∙ h in
    let g : false ≡ true = ap (λ (r : Piece × List Tok). is_field_piece r.0) (some_is f) in absurd cc)

-- ---- a turn

abbrev one_of : Piece → Reading Children
one_of k m = and_then (operand_of expr (bare_operands expr s.conditions) k m) (λ c n. and_then (bare_operands expr (after k) n) (λ ks o. Some (child k c.0 c.1 ks, o)))

abbrev turned : List FieldView → Reading (Children × Bool)
turned xs l = and_then (and_then ((piece_form s.fields).reads l) one_of) (λ ks o. ended (fields xs true ks) o)

goes : (xs : List FieldView) (l : List Tok) → is_empty l ≡ false → (dots.at l && is_empty (drop 2 l)) ≡ false → gathered xs l ≡ turned xs l
unfolding gathered
goes xs l h e = rw (operands_turn s.fields l, h, e) refl

stops : (xs : List FieldView) (l : List Tok) → may_end s.fields l ≡ true → gathered xs l ≡ ended (fields xs true none) l
unfolding gathered
stops xs l h = rw (operands_turn s.fields l, h) refl

pub fields_start : (l : List Tok) → braced l ≡ gathered [] l
unfolding gathered braced
fields_start l = refl

pub fields_end : (xs : List FieldView) (l : List Tok) → is_empty l ≡ true → gathered xs l ≡ Some ((fields xs true none, false), l)
fields_end xs [] h = stops xs [] refl
fields_end xs (t ∷ l) h = absurd cc

field_refused : (xs : List FieldView) (l : List Tok) → is_empty l ≡ false → (piece_form s.fields).reads l ≡ None → gathered xs l ≡ None
field_refused xs l h e = let a = refused_no_dots l e in goes xs l h (rw a refl) ∙ rw e refl

-- ---- `..`

rest_alone : (xs : List FieldView) (l m : List Tok) → is_empty l ≡ false → (piece_form s.fields).reads l ≡ Some (tr.rest true, m) → is_empty m ≡ true
    → gathered xs l ≡ Some ((fields xs true none, true), m)
rest_alone xs l m h e f =
    let d = rest_is l m e in
    let g : is_empty (drop 2 l) ≡ true = subst (λ z. is_empty z ≡ true) (sym d.behind) f in
    stops xs l (rw (h, d.there, g) refl) ∙ rw (h, d.there, g, d.behind) refl

bare_done : (n : List Tok) → bare_operands expr s.done n ≡ Some (none, n)
bare_done n = operands_turn s.done n

rest_goes : (xs : List FieldView) (l m : List Tok) → is_empty l ≡ false → (piece_form s.fields).reads l ≡ Some (tr.rest true, m) → is_empty m ≡ false
    → gathered xs l ≡ and_then (expr plain m) (λ x n. cond (is_empty n) (ended (fields xs true (child (tr.rest true) tr.no_ending x none)) n) None)
unfolding ending_at
rest_goes xs l m h e f =
    let d = rest_is l m e in
    let g : is_empty (drop 2 l) ≡ false = subst (λ z. is_empty z ≡ false) (sym d.behind) f in
    goes xs l h (rw (d.there, g) refl) ∙ rw e (by_expr (expr plain m))
  where
    last : (x : Tree) (n : List Tok) → Outcome (Children × Bool)
    last x n = ended (fields xs true (child (tr.rest true) tr.no_ending x none)) n

    by_end : (x : Tree) (n : List Tok) (b : Bool)
        → and_then (and_then {A = Ending × Tree} (and_then (cond {A = Outcome Ending} b (Some (tr.no_ending, n)) None) (λ c n. Some ((c, x), n))) (λ c n. and_then (bare_operands expr s.done n) (λ ks o. Some (child (tr.rest true) c.0 c.1 ks, o))))
        (λ ks o. ended (fields xs true ks) o)
        ≡ cond b (ended (fields xs true (child (tr.rest true) tr.no_ending x none)) n) None
    by_end x n true = rw (bare_done n) refl
    by_end x n false = refl

    by_expr : (o : Outcome Tree)
        → and_then (and_then {A = Ending × Tree} (and_then o (λ x m. and_then (ending_at (tr.rest true) x m) (λ c n. Some ((c, x), n)))) (λ c n. and_then (bare_operands expr s.done n) (λ ks o. Some (child (tr.rest true) c.0 c.1 ks, o))))
        (λ ks o. ended (fields xs true ks) o)
        ≡ and_then o (λ x n. cond (is_empty n) (ended (fields xs true (child (tr.rest true) tr.no_ending x none)) n) None)
    by_expr None = refl
    by_expr (Some q) = by_end q.0 q.1 (is_empty q.1)

rest_refused : (xs : List FieldView) (l m : List Tok) → is_empty l ≡ false → (piece_form s.fields).reads l ≡ Some (tr.rest true, m) → is_empty m ≡ false
    → expr plain m ≡ None → gathered xs l ≡ None
rest_refused xs l m h e f g = rest_goes xs l m h e f ∙ rw g refl

rest_unended : (xs : List FieldView) (l m n : List Tok) (x : Tree) → is_empty l ≡ false → (piece_form s.fields).reads l ≡ Some (tr.rest true, m) → is_empty m ≡ false
    → expr plain m ≡ Some (x, n) → is_empty n ≡ false → gathered xs l ≡ None
rest_unended xs l m n x h e f g i = rest_goes xs l m h e f ∙ rw (g, i) refl

ends_here : (ks : Children) (n : List Tok) → is_empty n ≡ true → ended ks n ≡ Some ((ks, false), n)
ends_here ks [] h = refl
ends_here ks (t ∷ n) h = absurd cc

rest_last : (xs : List FieldView) (l m n : List Tok) (x : Tree) → is_empty l ≡ false → (piece_form s.fields).reads l ≡ Some (tr.rest true, m) → is_empty m ≡ false
    → expr plain m ≡ Some (x, n) → is_empty n ≡ true → gathered xs l ≡ Some ((fields xs true (child (tr.rest true) tr.no_ending x none), false), n)
rest_last xs l m n x h e f g i = rest_goes xs l m h e f ∙ rw g (taken (is_empty n) (ended ks n) i ∙ ends_here ks n i)
  where
    ks : Children
    ks = fields xs true (child (tr.rest true) tr.no_ending x none)

    taken : (b : Bool) (o : Outcome (Children × Bool)) → b ≡ true → cond b o None ≡ o
    taken b o h = rw h refl

-- ---- a field

-- a value and what ends it
value_ended : (ats : List AttributeTree) (m : MemberTree) (c : Bool) (l : List Tok) → value_by expr (tr.field_value ats m c) (short_value (tr.field_value ats m c)) l
    ≡ and_then (value_at m c l) (λ x n. and_then (comma_or_end n) (λ d o. Some ((d, x), o)))
unfolding ending_at
value_ended ats (a_name w) true l = refl
value_ended ats (a_name w) false l = refl
value_ended ats (an_index n) true l = refl
value_ended ats (an_index n) false l = refl

field_goes : (xs : List FieldView) (l i : List Tok) (ats : List AttributeTree) (m : MemberTree) (c : Bool) → is_empty l ≡ false → (piece_form s.fields).reads l ≡ Some (tr.field_value ats m c, i)
    → gathered xs l ≡ and_then (and_then {A = Ending × Tree} (and_then (value_at m c i) (λ x n. and_then (comma_or_end n) (λ d o. Some ((d, x), o))))
    (λ d n. and_then (bare_operands expr s.fields n) (λ ks o. Some (child (tr.field_value ats m c) d.0 d.1 ks, o)))) (λ ks o. ended (fields xs true ks) o)
field_goes xs l i ats m c h e =
    let a = field_no_dots l i ats m c e in
    goes xs l h (rw a refl) ∙ rw (e, value_ended ats m c i) refl

field_no_value : (xs : List FieldView) (l i : List Tok) (ats : List AttributeTree) (m : MemberTree) (c : Bool) → is_empty l ≡ false → (piece_form s.fields).reads l ≡ Some (tr.field_value ats m c, i)
    → value_at m c i ≡ None → gathered xs l ≡ None
field_no_value xs l i ats m c h e f = field_goes xs l i ats m c h e ∙ rw f refl

field_unended : (xs : List FieldView) (l i j : List Tok) (ats : List AttributeTree) (m : MemberTree) (c : Bool) (x : Tree) → is_empty l ≡ false
    → (piece_form s.fields).reads l ≡ Some (tr.field_value ats m c, i) → value_at m c i ≡ Some (x, j) → comma_or_end j ≡ None → gathered xs l ≡ None
field_unended xs l i j ats m c x h e f g = field_goes xs l i ats m c h e ∙ rw (f, g) refl

field_more : (xs : List FieldView) (l i j n : List Tok) (v : FieldView) → is_empty l ≡ false
    → (piece_form s.fields).reads l ≡ Some (tr.field_value v.attrs v.member v.colon, i) → value_at v.member v.colon i ≡ Some (v.value, j) → comma_or_end j ≡ Some (tr.comma, n)
    → gathered xs l ≡ gathered (xs ++ v ∷ []) n
unfolding gathered
field_more xs l i j n v h e f g = field_goes xs l i v.attrs v.member v.colon h e ∙ rw (f, g) (by_rest (bare_operands expr s.fields n))
  where
    by_rest : (o : Outcome Children) → and_then (and_then o (λ ks o. Some (field_child v tr.comma ks, o))) (λ ks o. ended (fields xs true ks) o) ≡ and_then o (λ ks o. ended (fields (xs ++ v ∷ []) true ks) o)
    by_rest None = refl
    by_rest (Some q) = ap (λ ks. ended ks q.1) (one_field xs v q.0)

nothing_left : (n : List Tok) → is_empty n ≡ true → bare_operands expr s.fields n ≡ Some (none, n)
nothing_left n h = operands_turn s.fields n ∙ rw h refl

field_last : (xs : List FieldView) (l i j n : List Tok) (v : FieldView) → is_empty l ≡ false
    → (piece_form s.fields).reads l ≡ Some (tr.field_value v.attrs v.member v.colon, i) → value_at v.member v.colon i ≡ Some (v.value, j) → comma_or_end j ≡ Some (tr.no_ending, n)
    → gathered xs l ≡ Some ((fields (xs ++ v ∷ []) false none, false), n)
field_last xs l i j n v h e f g =
    let a = no_comma_ends j n tr.no_ending g refl in
    field_goes xs l i v.attrs v.member v.colon h e ∙ rw (f, g, nothing_left n a) (ap (λ ks. ended ks n) (last_field xs v) ∙ ends_here (fields (xs ++ v ∷ []) false none) n a)

-- ---- an entry

-- what a turn comes to
abbrev entered : List FieldView → Entry → Reading (Children × Bool)
entered xs (a_field tr.comma v) n = gathered (xs ++ v ∷ []) n
entered xs (a_field c v) n = Some ((fields (xs ++ v ∷ []) false none, false), n)
entered xs (the_rest None) n = Some ((fields xs true none, true), n)
entered xs (the_rest (Some x)) n = Some ((fields xs true (child (tr.rest true) tr.no_ending x none), false), n)

IsFieldPiece : Piece → Type 0
IsFieldPiece k = (k ≡ tr.rest true) ⊎ ((x : List AttributeTree × (MemberTree × Bool)) × (k ≡ to_field x))

piece_is : (l : List Tok) (q : Piece × List Tok) → (piece_form s.fields).reads l ≡ Some q → IsFieldPiece q.0
unfolding piece_form IsFieldPiece
piece_is l q h =
    ⊎_elim (λ j. let (a, b) = only_some (dots.at l) (Some (tr.rest true, drop 2 l)) q j.1 in inl (sym (ap (λ (r : Piece × List Tok). r.0) (some_is b))))
    (λ j. let (x, a, b) = then_some _ (λ x n. Some (to_field x, n)) q j.1 in inr (x.0, sym (ap (λ (r : Piece × List Tok). r.0) (some_is b))))
    (chosen (dots.at l) _ _ (Some q) h)

comma_kind : (l : List Tok) (q : Ending × List Tok) → comma_or_end l ≡ Some q → (q.0 ≡ tr.comma) ⊎ (q.0 ≡ tr.no_ending)
comma_kind l q h =
    ⊎_elim (λ j. inl (sym (ap (λ (r : Ending × List Tok). r.0) (some_is j.1))))
    (λ j. let (a, b) = only_some (is_empty l) (Some (tr.no_ending, l)) q j.1 in inr (sym (ap (λ (r : Ending × List Tok). r.0) (some_is b))))
    (chosen (comma.at l) (Some (tr.comma, drop 1 l)) (cond (is_empty l) (Some (tr.no_ending, l)) None) (Some q) h)

-- the turn, by what is at the front
module _ (xs : List FieldView) (l : List Tok) (h : is_empty l ≡ false) where
  by_field : (i : List Tok) (x : List AttributeTree × (MemberTree × Bool)) → (piece_form s.fields).reads l ≡ Some (to_field x, i) → gathered xs l ≡ and_then (entry_by (to_field x) i) (entered xs)
  by_field i (ats, (m, c)) r = by_value (value_at m c i) refl
    where
      by_ending : (x : Tree) (j n : List Tok) (d : Ending) → value_at m c i ≡ Some (x, j) → comma_or_end j ≡ Some (d, n) → (d ≡ tr.comma) ⊎ (d ≡ tr.no_ending)
          → gathered xs l ≡ entered xs (a_field d (record { attrs = ats; member = m; colon = c; value = x })) n
      by_ending x j n d v e (inl k) = rw k (field_more xs l i j n (record { attrs = ats; member = m; colon = c; value = x }) h r v (rw k at e))
      by_ending x j n d v e (inr k) = rw k (field_last xs l i j n (record { attrs = ats; member = m; colon = c; value = x }) h r v (rw k at e))

      by_comma : (x : Tree) (j : List Tok) (o : Outcome Ending) → value_at m c i ≡ Some (x, j) → comma_or_end j ≡ o
          → gathered xs l ≡ and_then (and_then o (λ d n. Some (a_field d (record { attrs = ats; member = m; colon = c; value = x }), n))) (entered xs)
      by_comma x j None v e = field_unended xs l i j ats m c x h r v e
      by_comma x j (Some q) v e = by_ending x j q.1 q.0 v e (comma_kind j q e)

      by_value : (o : Outcome Tree) → value_at m c i ≡ o
          → gathered xs l ≡ and_then (and_then o (λ x n. and_then (comma_or_end n) (λ d k. Some (a_field d (record { attrs = ats; member = m; colon = c; value = x }), k)))) (entered xs)
      by_value None e = field_no_value xs l i ats m c h r e
      by_value (Some q) e = by_comma q.0 q.1 (comma_or_end q.1) e refl

  by_rest : (i : List Tok) → (piece_form s.fields).reads l ≡ Some (tr.rest true, i) → gathered xs l ≡ and_then (entry_by (tr.rest true) i) (entered xs)
  by_rest i r = by_empty (is_empty i) refl
    where
      by_end : (x : Tree) (n : List Tok) (b : Bool) → is_empty i ≡ false → expr plain i ≡ Some (x, n) → is_empty n ≡ b → gathered xs l ≡ and_then {A = Entry} (and_then (only_if b (Some (Some x, n))) (λ x n. Some (the_rest x, n))) (entered xs)
      by_end x n true e f g = rest_last xs l i n x h r e f g
      by_end x n false e f g = rest_unended xs l i n x h r e f g

      by_expr : (o : Outcome Tree) → is_empty i ≡ false → expr plain i ≡ o → gathered xs l ≡ and_then {A = Entry} (and_then {A = Option Tree} (and_then o (λ x n. only_if (is_empty n) (Some (Some x, n)))) (λ x n. Some (the_rest x, n))) (entered xs)
      by_expr None e f = rest_refused xs l i h r e f
      by_expr (Some q) e f = by_end q.0 q.1 (is_empty q.1) e f refl

      by_empty : (b : Bool) → is_empty i ≡ b
          → gathered xs l ≡ and_then {A = Entry} (and_then {A = Option Tree} (cond b (Some (None, i)) (and_then (expr plain i) (λ x n. only_if (is_empty n) (Some (Some x, n))))) (λ x n. Some (the_rest x, n))) (entered xs)
      by_empty true e = rest_alone xs l i h r e
      by_empty false e = by_expr (expr plain i) e refl

  turn : gathered xs l ≡ and_then (entry l) (entered xs)
  unfolding entry IsFieldPiece
  turn = by_piece ((piece_form s.fields).reads l) refl
    where
      by_kind : (k : Piece) (i : List Tok) → (piece_form s.fields).reads l ≡ Some (k, i) → IsFieldPiece k → gathered xs l ≡ and_then (entry_by k i) (entered xs)
      by_kind k i r (inl e) = rw e (by_rest i (rw e at r))
      by_kind k i r (inr (x, e)) = rw e (by_field i x (rw e at r))

      by_piece : (o : Outcome Piece) → (piece_form s.fields).reads l ≡ o → gathered xs l ≡ and_then (and_then o entry_by) (entered xs)
      by_piece None r = field_refused xs l h r
      by_piece (Some q) r = by_kind q.0 q.1 r (piece_is l q r)

pub entry_refused : (xs : List FieldView) (l : List Tok) → is_empty l ≡ false → entry l ≡ None → gathered xs l ≡ None
entry_refused xs l h e = turn xs l h ∙ rw e refl

pub entry_more : (xs : List FieldView) (l n : List Tok) (v : FieldView) → is_empty l ≡ false → entry l ≡ Some (a_field tr.comma v, n) → gathered xs l ≡ gathered (xs ++ v ∷ []) n
entry_more xs l n v h e = turn xs l h ∙ rw e refl

pub entry_last : (xs : List FieldView) (l n : List Tok) (v : FieldView) → is_empty l ≡ false → entry l ≡ Some (a_field tr.no_ending v, n)
    → gathered xs l ≡ Some ((fields (xs ++ v ∷ []) false none, false), n)
entry_last xs l n v h e = turn xs l h ∙ rw e refl

pub entry_alone : (xs : List FieldView) (l n : List Tok) → is_empty l ≡ false → entry l ≡ Some (the_rest None, n) → gathered xs l ≡ Some ((fields xs true none, true), n)
entry_alone xs l n h e = turn xs l h ∙ rw e refl

pub entry_rest : (xs : List FieldView) (l n : List Tok) (x : Tree) → is_empty l ≡ false → entry l ≡ Some (the_rest (Some x), n)
    → gathered xs l ≡ Some ((fields xs true (child (tr.rest true) tr.no_ending x none), false), n)
entry_rest xs l n x h e = turn xs l h ∙ rw e refl

-- ---- an entry takes tokens

value_falls : (m : MemberTree) (c : Bool) (l : List Tok) (q : Tree × List Tok) → value_at m c l ≡ Some q → weight q.1 ≤ weight l
value_falls m true l q h = let u = expr_less plain l q.0 q.1 h in omega (arith, u.less)
value_falls (a_name w) false l q h = subst (λ (r : Tree × List Tok). weight r.1 ≤ weight l) (some_is {x = (path_of w, l)} {y = q} h) (omega arith)
value_falls (an_index n) false l q h = absurd cc

same_falls : (l n : List Tok) (x : Entry) (q : Entry × List Tok) → weight n ≤ weight l → Some (x, n) ≡ Some q → weight q.1 ≤ weight l
same_falls l n x q w h = subst (λ (r : Entry × List Tok). weight r.1 ≤ weight l) (some_is h) w

field_falls : (ats : List AttributeTree) (m : MemberTree) (c : Bool) (l : List Tok) (q : Entry × List Tok) → entry_by (tr.field_value ats m c) l ≡ Some q → weight q.1 ≤ weight l
field_falls ats m c l q h =
    let (z, i, f) = then_some (value_at m c l) (λ x n. and_then (comma_or_end n) (λ d o. Some (a_field d (record { attrs = ats; member = m; colon = c; value = x }), o))) q h in
    let (d, j, g) = then_some (comma_or_end z.1) (λ d o. Some (a_field d (record { attrs = ats; member = m; colon = c; value = z.0 }), o)) q f in
    same_falls l d.1 (a_field d.0 (record { attrs = ats; member = m; colon = c; value = z.0 })) q (omega (arith, value_falls m c l z i, comma_falls z.1 d.1 d.0 j)) g

base_falls : (l : List Tok) (b : Bool) (q : Option Tree × List Tok) → cond b (Some (None, l)) (and_then (expr plain l) (λ x n. only_if (is_empty n) (Some (Some x, n)))) ≡ Some q → weight q.1 ≤ weight l
base_falls l true q h = subst (λ (r : Option Tree × List Tok). weight r.1 ≤ weight l) (some_is h) (omega arith)
base_falls l false q h =
    let (z, i, f) = then_some (expr plain l) (λ x n. only_if (is_empty n) (Some (Some x, n))) q h in
    let (a, b) = only_some (is_empty z.1) (Some (Some z.0, z.1)) q f in
    subst (λ (r : Option Tree × List Tok). weight r.1 ≤ weight l) (some_is b) (let u = expr_less plain l z.0 z.1 i in omega (arith, u.less))

entry_falls : (k : Piece) (l : List Tok) (q : Entry × List Tok) → entry_by k l ≡ Some q → weight q.1 ≤ weight l
entry_falls (tr.field_value ats m c) l q h = field_falls ats m c l q h
entry_falls (tr.rest d) l q h = let (z, i, f) = then_some (base l) (λ x n. Some (the_rest x, n)) q h in same_falls l z.1 (the_rest z.0) q (base_falls l (is_empty l) z i) f
entry_falls _ l q h = absurd cc

pub entry_less : (l n : List Tok) (x : Entry) → entry l ≡ Some (x, n) → weight n < weight l
unfolding entry
entry_less l n x h =
    let (z, i, f) = then_some ((piece_form s.fields).reads l) entry_by (x, n) h in
    let a = left_less here.field_pieces z.0 l z.1 ((heads.pieces s.fields).sound l z.0 z.1 i) in
    omega (arith, a.less, entry_falls z.0 z.1 (x, n) f)

-- where a value may follow, each field has its comma
pub all_closed : {A P : Type 0} (f : A → FieldView) (p : Punctuated A P) (r : Children) → takes_value p ≡ true → fields (map f (values p)) (trails p) r ≡ fields (map f (values p)) true r
unfolding values trails takes_value
all_closed {A = A} {P = P} f p r h = by_items p.inner.items p.last h
  where
    by_items : (items : List (A × P)) (last : Option (Box A Global)) → not (is_some last) ≡ true
        → fields (map f (map (λ q. q.0) items ++ last_of last)) (is_some_pair items && not (is_some last)) r ≡ fields (map f (map (λ q. q.0) items ++ last_of last)) true r
    by_items items (Some b) h = absurd cc
    by_items [] None h = refl
    by_items (x ∷ xs) None h = refl

pub ruleset turns = (map-one, fields_start, fields_end, entry_refused, entry_more, entry_last, entry_alone, entry_rest, entry_less, all_closed)

-- One turn of the loop that reads a list of elements.
use Rattle.std.specs.Prelude.{not, ◌&&◌, is_some}
use Rattle.std.specs.declared.boxed.Box.{Box}
use Rattle.std.specs.declared.alloc.Global.{Global}
use Rattle.std.proofs.Common.{◌≡◌, map, Bool, true, false, cond, ⊎_elim, List, [], ◌∷◌, ◌++◌, drop, Option, Some, None, refl, ap, ◌∙◌, subst, ◌<◌, ◌≤◌, arith}
use Rattle.syn_tokens.specs.Tok.{Tok, weight}
use Rattle.syn_tokens.specs.Front.{is_empty, group_at}
use Rattle.syn_lower_spec.specs.Form.{Outcome, and_then}
use Rattle.syn_lower_spec.specs.Mark.{comma, semi}
use Rattle.syn_lower_spec.proofs.Weights.{some_is}
use Rattle.syn_expr_spec.specs.Place.{plain}
use Rattle.syn_expr_spec.specs.Tree as tr
use Rattle.syn_expr_spec.specs.Tree.{Tree, Children, Ending, none, child}
use Rattle.syn_expr_spec.specs.Slot as s
use Rattle.syn_expr_spec.specs.Slot.{piece_form, ending_at, comma_or_end}
use Rattle.syn_lexer.specs.declared.front.Delimiter.TheVariants as del
use Rattle.syn_expr_spec.specs.Read as Read
use Rattle.syn_expr_spec.specs.Read.{expr, bare_operands, rounded, repeated_by, elements_by, bracket_inside, bracket_read, all_of, before as outcome_before, only_if}
use Rattle.syn_expr_spec.proofs.Sound.{empty_is}
use Rattle.syn_expr_spec.proofs.Chains.{then_some, only_some, chosen}
use Rattle.syn_expr_spec.proofs.HeadMoves.{ending_left, tail_falls}
use Rattle.syn_lower_leaves.proofs.Loops.{map-one}
use Rattle.syn_lower_leaves.specs.Punct.{takes_value, is_one}
use Rattle.syn_lower_leaves.specs.View.{values, trails, last_of, is_some_pair}
use Rattle.syn_lower_leaves.specs.declared.punctuated.Punctuated.{Punctuated}
use Rattle.syn_expr_ast.specs.View.{elements}
use Rattle.syn_expr_parse.specs.Elements.{before, gathered, element, behind_first, single, bracketed}
use Rattle.syn_expr_heads.proofs.Turns.{turn as operands_turn, expr_less}

-- ---- the children of a list

all_before : (xs : List Tree) → elements xs true ≡ before xs none
all_before [] = refl
all_before (x ∷ []) = refl
all_before (x ∷ y ∷ xs) = ap (λ ks. child tr.element tr.comma x ks) (all_before (y ∷ xs))

last_before : (xs : List Tree) (x : Tree) → before xs (child tr.element tr.no_ending x none) ≡ elements (xs ++ x ∷ []) false
last_before [] x = refl
last_before (y ∷ []) x = refl
last_before (y ∷ z ∷ xs) x = ap (λ ks. child tr.element tr.comma y ks) (last_before (z ∷ xs) x)

one_before : (xs : List Tree) (x : Tree) (ks : Children) → before xs (child tr.element tr.comma x ks) ≡ before (xs ++ x ∷ []) ks
one_before [] x ks = refl
one_before (y ∷ xs) x ks = ap (λ k. child tr.element tr.comma y k) (one_before xs x ks)

-- ---- where a list may end

-- no comma is there only at the end
pub no_comma_ends : (l n : List Tok) (c : Ending) → comma_or_end l ≡ Some (c, n) → c ≡ tr.no_ending → is_empty n ≡ true
no_comma_ends l n c h e =
    ⊎_elim (λ j. let w : tr.comma ≡ c = ap (λ (r : Ending × List Tok). r.0) (some_is j.1) in absurd (cc (w, e)))
    (λ j. let (a, b) = only_some (is_empty l) (Some (tr.no_ending, l)) (c, n) j.1 in subst (λ z. is_empty z ≡ true) (ap (λ (r : Ending × List Tok). r.1) (some_is b)) a)
    (chosen (comma.at l) (Some (tr.comma, drop 1 l)) (cond (is_empty l) (Some (tr.no_ending, l)) None) (Some (c, n)) h)

pub comma_falls : (l n : List Tok) (c : Ending) → comma_or_end l ≡ Some (c, n) → weight n ≤ weight l
unfolding ending_at
comma_falls l n c h = tail_falls (ending_left tr.element (tr.leaf tr.infer) l c n h)

-- ---- a turn

turn : (l : List Tok) → bare_operands expr s.elements l ≡ cond (is_empty l) (Some (none, l))
    (and_then (element l) (λ c n. and_then (bare_operands expr s.elements n) (λ ks o. Some (child tr.element c.0 c.1 ks, o))))
unfolding piece_form ending_at element
turn l = operands_turn s.elements l

pub elements_start : (l : List Tok) → bare_operands expr s.elements l ≡ gathered [] l
unfolding gathered
elements_start l = by_all (bare_operands expr s.elements l)
  where
    by_all : (o : Outcome Children) → o ≡ and_then o (λ ks o. Some (ks, o))
    by_all None = refl
    by_all (Some q) = refl

nothing_left : (l : List Tok) → is_empty l ≡ true → bare_operands expr s.elements l ≡ Some (none, l)
nothing_left l h = turn l ∙ rw h refl

pub elements_end : (xs : List Tree) (l : List Tok) → is_empty l ≡ true → gathered xs l ≡ Some (elements xs true, l)
unfolding gathered
elements_end xs l h = rw (nothing_left l h, all_before xs) refl

pub element_refused : (xs : List Tree) (l : List Tok) → is_empty l ≡ false → element l ≡ None → gathered xs l ≡ None
unfolding gathered
element_refused xs l h e = rw (turn l, h, e) refl

pub element_more : (xs : List Tree) (l n : List Tok) (x : Tree) → is_empty l ≡ false → element l ≡ Some ((tr.comma, x), n) → gathered xs l ≡ gathered (xs ++ x ∷ []) n
unfolding gathered
element_more xs l n x h e = rw (turn l, h, e) (by_rest (bare_operands expr s.elements n))
  where
    by_rest : (o : Outcome Children) → and_then (and_then o (λ ks o. Some (child tr.element tr.comma x ks, o))) (λ ks o. Some (before xs ks, o)) ≡ and_then o (λ ks o. Some (before (xs ++ x ∷ []) ks, o))
    by_rest None = refl
    by_rest (Some q) = ap (λ ks. Some (ks, q.1)) (one_before xs x q.0)

-- no comma is there only at the end
pub last_ends : (l n : List Tok) (x : Tree) → element l ≡ Some ((tr.no_ending, x), n) → is_empty n ≡ true
unfolding element
last_ends l n x h =
    let (z, i, f) = then_some (expr plain l) (λ x m. and_then (comma_or_end m) (λ c n. Some ((c, x), n))) ((tr.no_ending, x), n) h in
    let (c, j, g) = then_some (comma_or_end z.1) (λ c n. Some ((c, z.0), n)) ((tr.no_ending, x), n) f in
    let e = some_is g in
    let k : c.0 ≡ tr.no_ending = ap (λ (r : (Ending × Tree) × List Tok). r.0.0) e in
    let w : c.1 ≡ n = ap (λ (r : (Ending × Tree) × List Tok). r.1) e in
    subst (λ o. is_empty o ≡ true) w (no_comma_ends z.1 c.1 c.0 j k)

pub element_last : (xs : List Tree) (l n : List Tok) (x : Tree) → is_empty l ≡ false → element l ≡ Some ((tr.no_ending, x), n)
    → gathered xs l ≡ Some (elements (xs ++ x ∷ []) false, n)
unfolding gathered
element_last xs l n x h e = rw (turn l, h, e, nothing_left n (last_ends l n x e)) (ap (λ ks. Some (ks, n)) (last_before xs x))

-- an element takes tokens
pub element_less : (l n : List Tok) (c : Ending) (x : Tree) → element l ≡ Some ((c, x), n) → weight n < weight l
unfolding element
element_less l n c x h =
    let (z, i, f) = then_some (expr plain l) (λ x m. and_then (comma_or_end m) (λ c n. Some ((c, x), n))) ((c, x), n) h in
    let (d, j, g) = then_some (comma_or_end z.1) (λ c n. Some ((c, z.0), n)) ((c, x), n) f in
    let w : d.1 ≡ n = ap (λ (r : (Ending × Tree) × List Tok). r.1) (some_is g) in
    let u = expr_less plain l z.0 z.1 i in
    subst (λ o. weight o < weight l) w (omega (arith, u.less, comma_falls z.1 d.1 d.0 j))

-- where a value may follow, each element has its comma
pub all_closed : {A P : Type 0} (f : A → Tree) (p : Punctuated A P) → takes_value p ≡ true → elements (map f (values p)) (trails p) ≡ elements (map f (values p)) true
unfolding values trails takes_value
all_closed {A = A} {P = P} f p h = by_items p.inner.items p.last h
  where
    by_items : (items : List (A × P)) (last : Option (Box A Global)) → not (is_some last) ≡ true
        → elements (map f (map (λ q. q.0) items ++ last_of last)) (is_some_pair items && not (is_some last)) ≡ elements (map f (map (λ q. q.0) items ++ last_of last)) true
    by_items items (Some b) h = absurd cc
    by_items [] None h = refl
    by_items (x ∷ xs) None h = refl

pub ruleset turns = (map-one, elements_end, element_refused, element_more, element_last, element_less, last_ends, all_closed)

pub ruleset starts = (elements_start)

-- ---- in parentheses

pub rounded_one : (x : Tree) → rounded expr (elements (x ∷ []) false) ≡ tr.paren false x
rounded_one x = refl

pub rounded_more : {A : Type 0} (f : A → Tree) (xs : List A) (t : Bool) → is_one xs t ≡ false → rounded expr (elements (map f xs) t) ≡ tr.frame tr.tuple (elements (map f xs) t)
rounded_more f [] t h = refl
rounded_more f (x ∷ []) true h = refl
rounded_more f (x ∷ []) false h = absurd cc
rounded_more f (x ∷ y ∷ xs) t h = refl

pub ruleset rounds = (rounded_one, rounded_more)

-- ---- in brackets

pub single_is : (l : List Tok) → bare_operands expr s.single l ≡ single l
unfolding single piece_form ending_at
single_is l = operands_turn s.single l ∙ by_expr (expr plain l)
  where
    by_expr : (o : Outcome Tree) → and_then (and_then {B = Ending × Tree} o (λ x n. Some ((tr.no_ending, x), n))) (λ c n. and_then (bare_operands expr s.done n) (λ ks o. Some (child tr.value c.0 c.1 ks, o)))
        ≡ and_then o (λ x n. Some (child tr.value tr.no_ending x none, n))
    by_expr None = refl
    by_expr (Some q) = rw (operands_turn s.done q.1) refl

pub ruleset singles = (single_is)

pub first_last : (x : Tree) (l : List Tok) → comma.at l ≡ false → is_empty l ≡ true → behind_first x l ≡ Some (elements (x ∷ []) false, l)
unfolding behind_first
first_last x l h e = rw (h, e, nothing_left l e) refl

pub first_more : (x : Tree) (l : List Tok) → comma.at l ≡ true → behind_first x l ≡ gathered (x ∷ []) (drop comma.count l)
unfolding behind_first gathered
first_more x l h = rw h refl

pub first_refused : (x : Tree) (l : List Tok) → comma.at l ≡ false → is_empty l ≡ false → behind_first x l ≡ None
unfolding behind_first
first_refused x l h e = rw (h, e) refl

pub ruleset firsts = (first_last, first_more, first_refused)

inside_is : (l : List Tok) → bracket_inside expr l ≡ all_of (bracketed l)
unfolding bracketed behind_first ending_at
inside_is l = by_empty (is_empty l) refl
  where
    by_children : (x : Tree) (c : Ending) (o : Outcome Children) → and_then o (λ ks n. Some (tr.frame tr.array (child tr.element c x ks), n)) ≡ and_then {A = Children} (and_then o (λ ks n. Some (child tr.element c x ks, n))) (λ ks n. Some (tr.frame tr.array ks, n))
    by_children x c None = refl
    by_children x c (Some q) = refl

    by_ending : (x : Tree) (o : Outcome Ending) → and_then {A = Ending × Tree} (and_then o (λ c n. Some ((c, x), n))) (λ c m. and_then (bare_operands expr s.elements m) (λ ks n. Some (tr.frame tr.array (child tr.element c.0 x ks), n)))
        ≡ and_then {A = Children} (and_then o (λ c m. and_then (bare_operands expr s.elements m) (λ ks n. Some (child tr.element c x ks, n)))) (λ ks n. Some (tr.frame tr.array ks, n))
    by_ending x None = refl
    by_ending x (Some q) = by_children x q.0 (bare_operands expr s.elements q.1)

    by_semi : (x : Tree) (m : List Tok) (b : Bool) → cond b (repeated_by expr x (drop 1 m)) (elements_by expr x m)
        ≡ cond b (and_then (single (drop 1 m)) (λ ks n. Some (tr.frame tr.repeat (child tr.repeated tr.no_ending x ks), n))) (and_then (behind_first x m) (λ ks n. Some (tr.frame tr.array ks, n)))
    by_semi x m true = ap (λ (o : Outcome Children). and_then o (λ ks n. Some (tr.frame tr.repeat (child tr.repeated tr.no_ending x ks), n))) (single_is (drop 1 m))
    by_semi x m false = by_ending x (comma_or_end m)

    by_expr : (o : Outcome Tree) → and_then o (Read.bracketed expr) ≡ and_then o (λ x m. cond (semi.at m) (and_then (single (drop 1 m)) (λ ks n. Some (tr.frame tr.repeat (child tr.repeated tr.no_ending x ks), n))) (and_then (behind_first x m) (λ ks n. Some (tr.frame tr.array ks, n))))
    by_expr None = refl
    by_expr (Some q) = by_semi q.0 q.1 (semi.at q.1)

    by_empty : (b : Bool) → is_empty l ≡ b → bracket_inside expr l ≡ all_of (bracketed l)
    by_empty true h = rw (h, empty_is l h) refl
    by_empty false h = rw h (ap (λ o. all_of o) (by_expr (expr plain l)))

whole_is : (o : Outcome Tree) (n : List Tok) → outcome_before (all_of o) (λ x. x) n ≡ and_then o (λ x r. only_if (is_empty r) (Some (x, n)))
whole_is None n = refl
whole_is (Some (x, [])) n = refl
whole_is (Some (x, t ∷ r)) n = refl

pub brackets_are : (l : List Tok) → bracket_read expr l ≡ and_then (group_at del.Bracket l) (λ i n. and_then (bracketed i) (λ x r. only_if (is_empty r) (Some (x, n))))
unfolding bracket_read
brackets_are l = by_group (group_at del.Bracket l)
  where
    by_group : (o : Option (List Tok × List Tok)) → and_then o (λ i n. outcome_before (bracket_inside expr i) (λ x. x) n) ≡ and_then o (λ i n. and_then (bracketed i) (λ x r. only_if (is_empty r) (Some (x, n))))
    by_group None = refl
    by_group (Some g) = ap (λ o. outcome_before o (λ x. x) g.1) (inside_is g.0) ∙ whole_is (bracketed g.0) g.1

pub ruleset brackets = (brackets_are)

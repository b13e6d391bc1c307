-- `if`, loops with a head and `match` are read one part after the other.
use Rattle.std.proofs.Common.{◌≡◌, ◌<◌, Bool, true, false, cond, List, [], ◌∷◌, ◌++◌, drop, is_some, Option, Some, None, refl, ap, sym, subst, ◌∙◌, arith, map}
use Rattle.syn_lexer.specs.declared.front.Delimiter.TheVariants as del
use Rattle.syn_tokens.specs.Tok.{Tok, weight}
use Rattle.syn_tokens.specs.Input.{IsTail}
use Rattle.syn_tokens.specs.Front.{group_at, is_empty}
use Rattle.syn_lower_spec.specs.Text.{Text}
use Rattle.syn_lower_spec.specs.Tree.{AttributeTree}
use Rattle.syn_lower_spec.specs.Form.{Outcome, and_then}
use Rattle.syn_lower_spec.specs.Mark.{brace_at}
use Rattle.syn_lower_spec.specs.Part.{inner_attributes}
use Rattle.syn_lower_spec.specs.Pat.{PatTree, guarded}
use Rattle.syn_lower_spec.proofs.Weights.{some_is}
use Rattle.syn_expr_spec.specs.declared.kinds.Place.{Place}
use Rattle.syn_expr_spec.specs.Place.{before_block, plain, at_head}
use Rattle.syn_expr_spec.specs.Tree as e
use Rattle.syn_expr_spec.specs.Tree.{Tree, Children, Piece, Ending, Frame, frame, none, child, plain_block}
use Rattle.syn_expr_spec.specs.Slot as slot
use Rattle.syn_expr_spec.specs.Head.{label}
use Rattle.syn_expr_spec.specs.Slot.{piece_form, ending_at, behind_arm, if_word, else_word, while_word, for_head, fat_arrow, after}
use Rattle.syn_expr_spec.specs.Stands.{frame_stands, frame_ends}
use Rattle.syn_expr_spec.specs.Read.{Reading, expr, all_of, before, ended_by, operand_of, operands_by, bare_operands, content, framed_by, looped, loop_read}
use Rattle.syn_expr_spec.proofs.Chains.{then_some}
use Rattle.syn_expr_spec.proofs.Needs.{heads}
use Rattle.syn_expr_spec.proofs.HeadMoves.{IsLess, less_then, then_less, left, ending_left}
use Rattle.syn_expr_spec.proofs.Lesses.{here}
use Rattle.syn_expr_spec.proofs.Fronts.{word_no_brace}
use Rattle.syn_lower_leaves.proofs.Loops.{map-one}
use Rattle.syn_expr_ast.specs.Pats.{ArmView, arm_children, arms, arm_ending}
use Rattle.syn_expr_heads.proofs.Turns.{turn, then_same, cond_same, then_assoc, expr_less}
use Rattle.syn_expr_parse.specs.Parts.{if_expr, verbatim_block, otherwise, headed, labelled, match_expr, is_comma, arm_body, arm_behind, one_arm, arms_before, arms_behind}
use Rattle.std.specs.declared.vec.Vec.{Vec}
use Rattle.std.specs.declared.alloc.Global.{Global}
use Rattle.syn_expr_spec.specs.WellFormed.{attributes_inner}
use Rattle.syn_lower_leaves.specs.View.{attribute_of}
use Rattle.syn_lower_leaves.specs.declared.attr.Attribute.{Attribute}
use Rattle.syn_expr_heads.proofs.Inner.{inner_attributes_inner}
use Rattle.syn_expr_ast.specs.Attrs.{outer_of, inner_of}
use Rattle.syn_expr_ast.proofs.Attributes.{no_outer, all_inside}

-- ---- what comes after an operand

ended_then : {B : Type 0} (k : Piece) (o : Outcome Tree) (f : Ending × Tree → Reading B)
    → and_then (and_then o (ended_by expr k)) f ≡ and_then o (λ x n. and_then (ending_at k x n) (λ c m. f (c, x) m))
ended_then k None f = refl
ended_then k (Some p) f = then_assoc (ending_at k p.0 p.1) _ f

nothing_more : (l : List Tok) → bare_operands expr slot.done l ≡ Some (none, l)
nothing_more l = turn slot.done l

-- ---- `if`

group_or_none : {B : Type 0} (o : Option (List Tok × List Tok)) (f : List Tok → Reading B) → cond (is_some o) (and_then o f) None ≡ and_then o f
group_or_none None f = refl
group_or_none (Some p) f = refl

-- an operand after `else`, and what is after it
abbrev last_by : Ending × Tree → Reading Children
last_by c n = and_then (bare_operands expr slot.done n) (λ ks o. Some (child e.chained c.0 c.1 ks, o))

last_is : (c : Ending × Tree) (n : List Tok) → last_by c n ≡ Some (child e.chained c.0 c.1 none, n)
last_is c n = rw (nothing_more n) refl

abbrev chain : Tree → Reading Children
chain x n = Some (child e.chained e.no_ending x none, n)

chained_turn : (m : List Tok) → and_then (operand_of expr (bare_operands expr slot.conditions) e.chained m) last_by ≡ and_then (cond (if_word.at m) (if_expr (drop 1 m)) (verbatim_block m)) chain
unfolding if_expr content frame_stands frame_ends ending_at brace_at
chained_turn m = by_if (if_word.at m) refl
  where
    by_block : and_then (cond (is_some (group_at del.Brace m)) (and_then (group_at del.Brace m) (λ i n. Some ((e.no_ending, plain_block i), n))) None) last_by
        ≡ and_then (and_then (group_at del.Brace m) (λ i n. Some (plain_block i, n))) chain
    by_block =
        ap (λ o. and_then o last_by) (group_or_none (group_at del.Brace m) (λ i n. Some ((e.no_ending, plain_block i), n)))
        ∙ then_assoc (group_at del.Brace m) (λ i n. Some ((e.no_ending, plain_block i), n)) last_by
        ∙ then_same (group_at del.Brace m) _ _ (λ i n a. last_is (e.no_ending, plain_block i) n)
        ∙ sym (then_assoc (group_at del.Brace m) (λ i n. Some (plain_block i, n)) chain)

    by_if : (w : Bool) → if_word.at m ≡ w → and_then (operand_of expr (bare_operands expr slot.conditions) e.chained m) last_by ≡ and_then (cond (if_word.at m) (if_expr (drop 1 m)) (verbatim_block m)) chain
    by_if true h =
        rw (word_no_brace _ m h, h) (ended_then e.chained (framed_by expr plain e.if_expr (drop 1 m)) last_by
        ∙ then_same (framed_by expr plain e.if_expr (drop 1 m)) _ _ (λ x n a. last_is (e.no_ending, x) n))
    by_if false h = rw h by_block

otherwise_turn : (l : List Tok) → bare_operands expr slot.otherwise l ≡ otherwise l
unfolding piece_form
otherwise_turn l = turn slot.otherwise l ∙ by_else (else_word.at l) refl
  where
    by_else : (w : Bool) → else_word.at l ≡ w → operands_by expr (bare_operands expr) slot.otherwise l ≡ otherwise l
    by_else true h = rw h (chained_turn (drop 1 l))
    by_else false h = rw h refl

-- a condition or an iterator, the block after it, and what follows
first_then : {B : Type 0} (k : Piece) (q : Place) (more : Reading Children) (f : Children → Reading B) (l : List Tok)
    → and_then (and_then (and_then (expr q l) (ended_by expr k)) (λ c n. and_then (more n) (λ ks o. Some (child k c.0 c.1 ks, o)))) f
    ≡ and_then (expr q l) (λ x m. and_then (ending_at k x m) (λ c n. and_then (more n) (λ ks o. f (child k c x ks) o)))
first_then k q more f l =
    ap (λ o. and_then o f) (ended_then k (expr q l) (λ c n. and_then (more n) (λ ks o. Some (child k c.0 c.1 ks, o))))
    ∙ then_assoc (expr q l) _ f
    ∙ then_same (expr q l) _ _ (λ x m a. then_assoc (ending_at k x m) _ f ∙ then_same (ending_at k x m) _ _ (λ c n b. then_assoc (more n) _ f))

pub if_expr_turn : (l : List Tok) → if_expr l
    ≡ and_then (expr before_block l) (λ x m. and_then (ending_at e.condition x m) (λ c n. and_then (otherwise n) (λ ks o. Some (frame e.if_expr (child e.condition c x ks), o))))
unfolding if_expr content frame_stands frame_ends piece_form
if_expr_turn l =
    ap (λ o. and_then o framed) (turn slot.conditions l)
    ∙ first_then e.condition before_block (bare_operands expr slot.otherwise) framed l
    ∙ then_same (expr before_block l) _ _ (λ x m a. then_same (ending_at e.condition x m) _ _ (λ c n b. ap (λ o. and_then o (λ ks r. framed (child e.condition c x ks) r)) (otherwise_turn n)))
  where
    framed : Children → Reading Tree
    framed ks n = Some (frame e.if_expr ks, n)

-- ---- loops

loop_then : (k : Frame) (l : List Tok) → and_then (bare_operands expr slot.loops l) (λ ks n. Some (frame k ks, n)) ≡ headed k l
unfolding headed piece_form
loop_then k l =
    ap (λ o. and_then o framed) (turn slot.loops l)
    ∙ first_then e.loop_head before_block (bare_operands expr slot.done) framed l
    ∙ then_same (expr before_block l) _ _ (λ x m a. then_same (ending_at e.loop_head x m) _ _ (λ c n b. ap (λ o. and_then o (λ ks r. framed (child e.loop_head c x ks) r)) (nothing_more n)))
  where
    framed : Children → Reading Tree
    framed ks n = Some (frame k ks, n)

while_turn : (p : Place) (w : Option Text) (l : List Tok) → framed_by expr p (e.while_loop w) l ≡ headed (e.while_loop w) l
unfolding content frame_stands frame_ends
while_turn p w l = loop_then (e.while_loop w) l

for_turn : (p : Place) (w : Option Text) (t : PatTree) (l : List Tok) → framed_by expr p (e.for_loop w t) l ≡ headed (e.for_loop w t) l
unfolding content frame_stands frame_ends
for_turn p w t l = loop_then (e.for_loop w t) l

labelled_turn : (p : Place) (w : Option Text) (l : List Tok) → looped expr p w l ≡ labelled w l
labelled_turn p w l =
    cond_same (while_word.at l) _ _ _ _ (λ a. while_turn p w (drop 1 l))
    (λ a. then_same (for_head.reads l) _ _ (λ t n b. for_turn p w t n))

pub loop_turn : (p : Place) (l : List Tok) → loop_read expr p l ≡ and_then (label.reads l) labelled
unfolding loop_read
loop_turn p l = then_same (label.reads l) _ _ (λ w n a. labelled_turn p w n)

-- ---- `match`

before_then : {A B : Type 0} (o : Option A) (f : A → Children) (g : Children → B) (n : List Tok) → and_then (before o f n) (λ ks m. Some (g ks, m)) ≡ before o (λ x. g (f x)) n
before_then None f g n = refl
before_then (Some x) f g n = refl

pub match_turn : (l : List Tok) → match_expr l
    ≡ and_then (expr before_block l) (λ x h. and_then (group_at del.Brace h) (λ i n. and_then (inner_attributes.reads i) (λ ats j.
    before (all_of (bare_operands expr slot.arms j)) (λ ks. frame e.match_expr (child e.scrutinee (e.opened ats) x ks)) n)))
unfolding match_expr content frame_stands frame_ends
match_turn l =
    ap (λ o. and_then o framed) (turn slot.scrutinees l)
    ∙ then_assoc (expr before_block l) _ framed
    ∙ then_same (expr before_block l) _ _ (λ x h a. then_assoc (group_at del.Brace h) _ framed
    ∙ then_same (group_at del.Brace h) _ _ (λ i n b. then_assoc (inner_attributes.reads i) _ framed
    ∙ then_same (inner_attributes.reads i) _ _ (λ ats j c. before_then (all_of (bare_operands expr slot.arms j)) (λ ks. child e.scrutinee (e.opened ats) x ks) (frame e.match_expr) n)))
  where
    framed : Children → Reading Tree
    framed ks n = Some (frame e.match_expr ks, n)

-- ---- arms

arm_ends : (x : Tree) (l : List Tok) (c : Ending) (n : List Tok) → behind_arm x l ≡ Some (c, n) → arm_ending (is_comma c) ≡ c
arm_ends x l c n h = by_comma _ _ h
  where
    is : (q : Ending × List Tok) → Some q ≡ Some (c, n) → arm_ending (is_comma q.0) ≡ q.0 → arm_ending (is_comma c) ≡ c
    is q g e = subst (λ (z : Ending). arm_ending (is_comma z) ≡ z) (ap (λ (r : Ending × List Tok). r.0) (some_is g)) e

    by_comma : (a b : Bool) → cond {A = Outcome Ending} a (Some (e.comma, drop 1 l)) (cond {A = Outcome Ending} b (Some (e.no_ending, l)) None) ≡ Some (c, n) → arm_ending (is_comma c) ≡ c
    by_comma true b g = is (e.comma, drop 1 l) g refl
    by_comma false true g = is (e.no_ending, l) g refl
    by_comma false false g = absurd cc

bare_arm : (x : ArmView) (p : PatTree) (more : Children) → arm_children x p [] more ≡ child (e.arm x.attrs p) (arm_ending x.comma) x.body more
bare_arm x (guarded p) more = refl
bare_arm x _ more = refl

-- the children of an arm, before those of the arms that follow
abbrev arm_then : ArmView → Reading Children
arm_then v n = and_then (bare_operands expr slot.arms n) (λ ks o. Some (arm_children v v.pat.tree v.pat.guards ks, o))

-- the body of an arm, with the child that it is
body_then : (k : Piece) (f : Children → Children) (ats : List AttributeTree) (p : PatTree) (gs : List Tree) (m : List Tok)
    → ((x : Tree) (c : Ending) (ks : Children) → arm_ending (is_comma c) ≡ c → f (child k c x ks) ≡ arm_children (record { attrs = ats; pat = record { tree = p; guards = gs }; body = x; comma = is_comma c }) p gs ks)
    → ((x : Tree) (n : List Tok) → ending_at k x n ≡ behind_arm x n)
    → and_then (and_then (expr at_head m) (ended_by expr k)) (λ c n. and_then (bare_operands expr slot.arms n) (λ ks o. Some (f (child k c.0 c.1 ks), o))) ≡ and_then (arm_body ats p gs m) arm_then
unfolding arm_body
body_then k f ats p gs m same ends =
    ended_then k (expr at_head m) _
    ∙ then_same (expr at_head m) _ _ (λ x n a.
    ap (λ o. and_then o (λ c r. and_then (bare_operands expr slot.arms r) (λ ks o. Some (f (child k c x ks), o)))) (ends x n)
    ∙ then_same (behind_arm x n) _ _ (λ c r b. then_same (bare_operands expr slot.arms r) _ _ (λ ks o d. ap (λ z. Some (z, o)) (same x c ks (arm_ends x n c r b))))
    ∙ sym (then_assoc (behind_arm x n) _ arm_then))
    ∙ sym (then_assoc (expr at_head m) _ arm_then)

-- after a guard
bodies_turn : (ats : List AttributeTree) (p : PatTree) (g : Tree) (n : List Tok)
    → and_then (bare_operands expr slot.bodies n) (λ ks o. Some (child (e.guard ats p) e.no_ending g ks, o))
    ≡ and_then (and_then ((piece_form slot.bodies).reads n) (λ k o. arm_body ats (guarded p) (g ∷ []) o)) arm_then
unfolding piece_form ending_at
bodies_turn ats p g n = ap (λ o. and_then o (λ ks o. Some (child (e.guard ats p) e.no_ending g ks, o))) (turn slot.bodies n) ∙ by_arrow (fat_arrow.at n) refl
  where
    by_arrow : (b : Bool) → fat_arrow.at n ≡ b → and_then (operands_by expr (bare_operands expr) slot.bodies n) (λ ks o. Some (child (e.guard ats p) e.no_ending g ks, o))
        ≡ and_then (and_then ((piece_form slot.bodies).reads n) (λ k o. arm_body ats (guarded p) (g ∷ []) o)) arm_then
    by_arrow true h = rw h
        (then_assoc (and_then (expr at_head (drop 2 n)) (ended_by expr e.guarded)) _ (λ ks o. Some (child (e.guard ats p) e.no_ending g ks, o))
        ∙ then_same (and_then (expr at_head (drop 2 n)) (ended_by expr e.guarded)) _ _ (λ c r a. then_assoc (bare_operands expr slot.arms r) _ (λ ks o. Some (child (e.guard ats p) e.no_ending g ks, o)))
        ∙ body_then e.guarded (λ ks. child (e.guard ats p) e.no_ending g ks) ats (guarded p) (g ∷ []) (drop 2 n) (λ x c ks a. rw a refl) (λ x r. refl))
    by_arrow false h = rw h refl

abbrev is_arm : Piece → Bool
is_arm (e.guard ats p) = true
is_arm (e.arm ats p) = true
is_arm _ = false

arm_form : (k : Piece) (l m : List Tok) → (piece_form slot.arms).behind k l ≡ Some m → is_arm k ≡ true
unfolding piece_form
arm_form (e.guard ats p) l m h = refl
arm_form (e.arm ats p) l m h = refl
arm_form _ l m h = absurd cc

piece_turn : (k : Piece) (m : List Tok) → is_arm k ≡ true
    → and_then (operand_of expr (bare_operands expr slot.conditions) k m) (λ c n. and_then (bare_operands expr (after k) n) (λ ks o. Some (child k c.0 c.1 ks, o))) ≡ and_then (arm_behind k m) arm_then
unfolding ending_at
piece_turn (e.guard ats p) m h =
    ended_then (e.guard ats p) (expr plain m) _
    ∙ then_same (expr plain m) _ _ (λ g n a. bodies_turn ats p g n)
    ∙ sym (then_assoc (expr plain m) _ arm_then)
piece_turn (e.arm ats p) m h =
    body_then (e.arm ats p) (λ ks. ks) ats p [] m (λ x c ks a. ap (λ d. child (e.arm ats p) d x ks) (sym a) ∙ sym (bare_arm (record { attrs = ats; pat = record { tree = p; guards = [] }; body = x; comma = is_comma c }) p ks)) (λ x n. refl)
piece_turn _ m h = absurd cc

arms_turn : (l : List Tok) → bare_operands expr slot.arms l ≡ cond (is_empty l) (Some (none, l)) (and_then (one_arm l) arm_then)
unfolding one_arm
arms_turn l =
    turn slot.arms l
    ∙ cond_same (is_empty l) _ _ _ _ (λ a. refl) (λ a.
    then_same ((piece_form slot.arms).reads l) _ _ (λ k m b. let q = heads.pieces slot.arms in piece_turn k m (arm_form k l m (q.sound l k m b)))
    ∙ sym (then_assoc ((piece_form slot.arms).reads l) arm_behind arm_then))

-- arms before no others, and before one more
arms_are : (xs : List ArmView) → arms_before xs none ≡ arms xs
arms_are [] = refl
arms_are (x ∷ xs) = ap (λ ks. arm_children x x.pat.tree x.pat.guards ks) (arms_are xs)

arms_one : (xs : List ArmView) (x : ArmView) (ks : Children) → arms_before (xs ++ x ∷ []) ks ≡ arms_before xs (arm_children x x.pat.tree x.pat.guards ks)
arms_one [] x ks = refl
arms_one (y ∷ ys) x ks = ap (λ z. arm_children y y.pat.tree y.pat.guards z) (arms_one ys x ks)

pub arms_more : (found : List ArmView) (l : List Tok) → arms_behind found l
    ≡ cond (is_empty l) (Some (arms found, l)) (and_then (one_arm l) (λ x n. arms_behind (found ++ x ∷ []) n))
unfolding arms_behind
arms_more found l = ap (λ o. and_then o past) (arms_turn l) ∙ by_end (is_empty l)
  where
    past : Children → Reading Children
    past ks n = Some (arms_before found ks, n)

    by_end : (b : Bool) → and_then (cond {A = Outcome Children} b (Some (none, l)) (and_then (one_arm l) arm_then)) past
        ≡ cond {A = Outcome Children} b (Some (arms found, l)) (and_then (one_arm l) (λ x n. and_then (bare_operands expr slot.arms n) (λ ks o. Some (arms_before (found ++ x ∷ []) ks, o))))
    by_end true = ap (λ ks. Some (ks, l)) (arms_are found)
    by_end false =
        then_assoc (one_arm l) arm_then past
        ∙ then_same (one_arm l) _ _ (λ x n a. then_assoc (bare_operands expr slot.arms n) _ past
        ∙ then_same (bare_operands expr slot.arms n) _ _ (λ ks o b. ap (λ z. Some (z, o)) (sym (arms_one found x ks))))

pub arms_start : (l : List Tok) → bare_operands expr slot.arms l ≡ arms_behind [] l
unfolding arms_behind
arms_start l = by_outcome (bare_operands expr slot.arms l)
  where
    by_outcome : (o : Outcome Children) → o ≡ and_then o (λ ks n. Some (ks, n))
    by_outcome None = refl
    by_outcome (Some q) = refl

-- ---- an arm takes a token

body_less : (ats : List AttributeTree) (p : PatTree) (gs : List Tree) (l : List Tok) (q : ArmView × List Tok) → arm_body ats p gs l ≡ Some q → IsLess q.1 l
unfolding arm_body ending_at
body_less ats p gs l q h =
    let (x, i, f) = then_some (expr at_head l) _ q h in
    let (c, j, g) = then_some (behind_arm x.0 x.1) _ q f in
    subst (λ (r : ArmView × List Tok). IsLess r.1 l) (some_is g) (less_then (expr_less at_head l x.0 x.1 i) (ending_left e.guarded x.0 x.1 c.0 c.1 j))

behind_less : (k : Piece) (l : List Tok) (q : ArmView × List Tok) → arm_behind k l ≡ Some q → IsLess q.1 l
behind_less (e.guard ats p) l q h =
    let (x, i, f) = then_some (expr plain l) _ q h in
    let (k, j, g) = then_some ((piece_form slot.bodies).reads x.1) _ q f in
    let b = heads.pieces slot.bodies in
    let d = left (here.pieces slot.bodies) k.0 x.1 k.1 (b.sound x.1 k.0 k.1 j) in
    less_then (less_then (expr_less plain l x.0 x.1 i) d) (tail_of (body_less ats (guarded p) (x.0 ∷ []) k.1 q g))
  where
    tail_of : {m n : List Tok} → IsLess m n → IsTail m n
    tail_of d = d.tail
behind_less (e.arm ats p) l q h = body_less ats p [] l q h
behind_less _ l q h = absurd cc

pub arm_is_less : (l : List Tok) (x : ArmView) (n : List Tok) → one_arm l ≡ Some (x, n) → IsLess n l
unfolding one_arm
arm_is_less l x n h =
    let (k, i, f) = then_some ((piece_form slot.arms).reads l) arm_behind (x, n) h in
    let b = heads.pieces slot.arms in
    then_less (left (here.pieces slot.arms) k.0 l k.1 (b.sound l k.0 k.1 i)) (behind_less k.0 k.1 (x, n) f)

pub arm_less : (l : List Tok) (x : ArmView) (n : List Tok) → one_arm l ≡ Some (x, n) → weight n < weight l
arm_less l x n h = let d = arm_is_less l x n h in d.less

-- so does `for`, its pattern and `in`
pub for_less : (l : List Tok) (t : PatTree) (n : List Tok) → for_head.reads l ≡ Some (t, n) → weight n < weight l
for_less l t n h = let f = here.for_heads in omega (arith, f.moves l n t h)

pub ruleset if_exprs = (if_expr_turn)

pub ruleset for_loops = (for_less)

pub ruleset loops = (loop_turn)

pub ruleset match_exprs = (match_turn)

pub ruleset one = (arm_less)

pub ruleset many = (map-one, arms_more, arms_start)

-- ---- inner attributes are in the braces of their node, and none before it

pub outer_none : (v : Vec Attribute Global) → attributes_inner (map attribute_of v.items) ≡ true → outer_of v ≡ []
unfolding outer_of
outer_none v h = no_outer (map attribute_of v.items) h

pub inner_all : (v : Vec Attribute Global) → attributes_inner (map attribute_of v.items) ≡ true → inner_of v ≡ map attribute_of v.items
unfolding inner_of
inner_all v h = all_inside (map attribute_of v.items) h

pub ruleset inners = (inner_attributes_inner, outer_none, inner_all)

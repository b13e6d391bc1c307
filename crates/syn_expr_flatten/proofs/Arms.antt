-- The arms of a `match`.
use Rattle.std.proofs.Common.{◌≡◌, true, List, [], ◌∷◌, map, refl, ap, ◌∙◌}
use Rattle.syn_lower_spec.specs.Tree.{ReturnTree, default, given}
use Rattle.syn_lower_spec.specs.Pat as p
use Rattle.syn_lower_spec.specs.Pat.{PatTree}
use Rattle.syn_expr_spec.specs.Tree as e
use Rattle.syn_expr_spec.specs.Tree.{Tree, Children, Piece, ClosureHead, none, child}
use Rattle.syn_expr_ast.specs.Pats.{ArmView, strays, guard_children, arm_children, arm_ending, arms, closure_by}
use Rattle.syn_visit_kinds.specs.Calls.{Each}
use Rattle.syn_expr_flatten.specs.Flat.{IsFlat, AreFlat}
use Rattle.syn_expr_flatten.specs.Pats.{IsFlatArm}
use Rattle.syn_expr_flatten.proofs.Children.{none_flat, child_flat, strays_flat, prefixes_flat, frame_flat}
use Rattle.syn_expr_flatten.proofs.Nodes.{is_plain}

guards_flat : (k : Piece) (g h : Tree) (gs hs : List Tree) (ts us : Children) → IsFlat g h → Each IsFlat gs hs → AreFlat ts us
    → AreFlat (guard_children k g gs ts) (guard_children k h hs us)
unfolding Each
guards_flat k g h [] [] ts us one all more = child_flat k e.no_ending g h ts us one more
guards_flat k g h (x ∷ gs) (y ∷ hs) ts us one all more = child_flat e.stray e.no_ending g h (guard_children k x gs ts) (guard_children k y hs us) one (guards_flat k x y gs hs ts us all.0 all.1 more)
guards_flat k g h [] (y ∷ hs) ts us one all more = absurd all
guards_flat k g h (x ∷ gs) [] ts us one all more = absurd all

plain_arm : (a b : ArmView) (t : PatTree) (gs hs : List Tree) (ts us : Children) → b.attrs ≡ a.attrs → b.comma ≡ a.comma → IsFlat a.body b.body → Each IsFlat gs hs → AreFlat ts us
    → AreFlat (strays gs (child (e.arm a.attrs t) (arm_ending a.comma) a.body ts)) (strays hs (child (e.arm b.attrs t) (arm_ending b.comma) b.body us))
unfolding AreFlat
plain_arm a b t gs hs ts us at comma body all more =
    ap (λ z. strays hs (child (e.arm z t) (arm_ending b.comma) b.body us)) at
    ∙ ap (λ z. strays hs (child (e.arm a.attrs t) (arm_ending z) b.body us)) comma
    ∙ strays_flat gs hs (child (e.arm a.attrs t) (arm_ending a.comma) a.body ts) (child (e.arm a.attrs t) (arm_ending a.comma) b.body us) all
    (child_flat (e.arm a.attrs t) (arm_ending a.comma) a.body b.body ts us body more)

arm_flat : (a b : ArmView) (t : PatTree) (gs hs : List Tree) (ts us : Children) → b.attrs ≡ a.attrs → b.comma ≡ a.comma → IsFlat a.body b.body → Each IsFlat gs hs → AreFlat ts us
    → AreFlat (arm_children a t gs ts) (arm_children b t hs us)
unfolding Each AreFlat
arm_flat a b (p.guarded q) (g ∷ gs) (h ∷ hs) ts us at comma body all more =
    ap (λ z. guard_children (e.guard z q) h hs (child e.guarded (arm_ending b.comma) b.body us)) at
    ∙ ap (λ z. guard_children (e.guard a.attrs q) h hs (child e.guarded (arm_ending z) b.body us)) comma
    ∙ guards_flat (e.guard a.attrs q) g h gs hs (child e.guarded (arm_ending a.comma) a.body ts) (child e.guarded (arm_ending a.comma) b.body us) all.0 all.1 (child_flat e.guarded (arm_ending a.comma) a.body b.body ts us body more)
arm_flat a b (p.guarded q) [] (h ∷ hs) ts us at comma body all more = absurd all
arm_flat a b (p.guarded q) (g ∷ gs) [] ts us at comma body all more = absurd all
arm_flat a b (p.guarded q) [] [] ts us at comma body all more =
    ap (λ z. child (e.arm z (p.guarded q)) (arm_ending b.comma) b.body us) at
    ∙ ap (λ z. child (e.arm a.attrs (p.guarded q)) (arm_ending z) b.body us) comma
    ∙ child_flat (e.arm a.attrs (p.guarded q)) (arm_ending a.comma) a.body b.body ts us body more
arm_flat a b _ gs hs ts us at comma body all more = plain_arm a b _ gs hs ts us at comma body all more

pub arms_flat : {A : Type 0} (f : A → ArmView) (xs ys : List A) → Each (λ x y. IsFlatArm (f x) (f y)) xs ys → AreFlat (arms (map f xs)) (arms (map f ys))
unfolding Each AreFlat
arms_flat f [] [] h = none_flat
arms_flat f (x ∷ xs) (y ∷ ys) h =
    ap (λ z. arm_children (f y) z (f y).pat.guards (arms (map f ys))) h.0.1.0
    ∙ arm_flat (f x) (f y) (f x).pat.tree (f x).pat.guards (f y).pat.guards (arms (map f xs)) (arms (map f ys)) h.0.0 h.0.3 h.0.2 h.0.1.1 (arms_flat f xs ys h.1)
arms_flat f [] (y ∷ ys) h = absurd h
arms_flat f (x ∷ xs) [] h = absurd h

-- ---- closures

pub closure_plain : (r : ReturnTree) (h : ClosureHead) (gs : List Tree) (t : Tree) → is_plain (closure_by r h gs t) ≡ true
closure_plain default h gs t = refl
closure_plain (given ty) h gs t = refl

pub closure_flat : (r : ReturnTree) (h : ClosureHead) (gs hs : List Tree) (t u : Tree) → Each IsFlat gs hs → IsFlat t u → IsFlat (closure_by r h gs t) (closure_by r h hs u)
closure_flat default h gs hs t u all one = prefixes_flat (e.closure h) (strays gs none) (strays hs none) t u (strays_flat gs hs none none all none_flat) one
closure_flat (given ty) h gs hs t u all one = frame_flat (e.closure_block h) _ _ (strays_flat gs hs _ _ all (child_flat e.output_block e.no_ending t u none none one none_flat))

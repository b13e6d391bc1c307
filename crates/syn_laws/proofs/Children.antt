-- Operands beside patterns tell what they are made of: guards of patterns where none may stand, and the arms of a `match`.
use Rattle.std.proofs.Common.{◌≡◌, Bool, true, false, List, [], ◌∷◌, ◌++◌, refl, sym, ◌∙◌, ap, append-nil, append_assoc}
use Rattle.syn_lower_spec.specs.Tree.{AttributeTree, ReturnTree, default, given}
use Rattle.syn_lower_spec.specs.Pat.{PatTree, guarded}
use Rattle.syn_expr_spec.specs.Tree as e
use Rattle.syn_expr_spec.specs.Tree.{Tree, Children, ClosureHead, none, child}
use Rattle.syn_expr_ast.specs.Pats.{ArmView, strays, guard_children, arm_children, arm_ending, arms, closure_by}
use Rattle.syn_laws.proofs.Shapes.{is_comma}

-- ---- guards where none may stand

abbrev pub is_stray : Children → Bool
is_stray (child e.stray d x ks) = true
is_stray _ = false

pub strays_once : (gs hs : List Tree) (ks ls : Children) → is_stray ks ≡ false → is_stray ls ≡ false → strays gs ks ≡ strays hs ls → (gs ≡ hs) × (ks ≡ ls)
strays_once [] [] ks ls p q h = (refl, h)
strays_once [] (y ∷ hs) ks ls p q h = absurd (let k : false ≡ true = sym p ∙ ap is_stray h in cc)
strays_once (x ∷ gs) [] ks ls p q h = absurd (let k : true ≡ false = ap is_stray h ∙ q in cc)
strays_once (x ∷ gs) (y ∷ hs) ks ls p q h = let r = strays_once gs hs ks ls p q (cc) in let a : x ≡ y = cc in let b : gs ≡ hs = r.0 in (cc, r.1)

pub closure_once : (o q : ReturnTree) (a b : ClosureHead) (gs hs : List Tree) (x y : Tree) → closure_by o a gs x ≡ closure_by q b hs y → (a ≡ b) × ((gs ≡ hs) × (x ≡ y))
closure_once default default a b gs hs x y h = let k : strays gs none ≡ strays hs none = cc in (cc, ((strays_once gs hs none none refl refl k).0, cc))
closure_once (given o) (given q) a b gs hs x y h =
    let k : strays gs (child e.output_block e.no_ending x none) ≡ strays hs (child e.output_block e.no_ending y none) = cc in
    let r = strays_once gs hs (child e.output_block e.no_ending x none) (child e.output_block e.no_ending y none) refl refl k in (cc, (r.0, let m = r.1 in cc))
closure_once default (given q) a b gs hs x y h = absurd cc
closure_once (given o) default a b gs hs x y h = absurd cc

-- ---- arms

-- The arms that the operands of a `match` make up. gs are the guards of the next arm that were passed already.
arms_in : List Tree → Children → List ArmView
arms_in gs none = []
arms_in gs (child e.stray d g ks) = arms_in (gs ++ g ∷ []) ks
arms_in gs (child (e.guard ats p) d g (child k b x ks)) = record { attrs = ats; pat = record { tree = guarded p; guards = gs ++ g ∷ [] }; body = x; comma = is_comma b } ∷ arms_in [] ks
arms_in gs (child (e.arm ats p) d x ks) = record { attrs = ats; pat = record { tree = p; guards = gs }; body = x; comma = is_comma d } ∷ arms_in [] ks
arms_in gs _ = []

comma_known : (b : Bool) → is_comma (arm_ending b) ≡ b
unfolding is_comma
comma_known true = refl
comma_known false = refl

behind_strays : (gs hs : List Tree) (ks : Children) → arms_in gs (strays hs ks) ≡ arms_in (gs ++ hs) ks
unfolding arms_in
behind_strays gs [] ks = ap (λ l. arms_in l ks) (sym (append-nil gs))
behind_strays gs (h ∷ hs) ks = behind_strays (gs ++ h ∷ []) hs ks ∙ ap (λ l. arms_in l ks) (append_assoc gs (h ∷ []) hs)

-- an arm whose pattern is guarded
behind_guards : (ats : List AttributeTree) (p : PatTree) (b : Bool) (x : Tree) (gs : List Tree) (g : Tree) (hs : List Tree) (ks : Children)
    → arms_in gs (guard_children (e.guard ats p) g hs (child e.guarded (arm_ending b) x ks)) ≡ record { attrs = ats; pat = record { tree = guarded p; guards = gs ++ g ∷ hs }; body = x; comma = b } ∷ arms_in [] ks
unfolding arms_in
behind_guards ats p b x gs g [] ks = ap (λ c. record { attrs = ats; pat = record { tree = guarded p; guards = gs ++ g ∷ [] }; body = x; comma = c } ∷ arms_in [] ks) (comma_known b)
behind_guards ats p b x gs g (h ∷ hs) ks = behind_guards ats p b x (gs ++ g ∷ []) h hs ks ∙ ap (λ l. record { attrs = ats; pat = record { tree = guarded p; guards = l }; body = x; comma = b } ∷ arms_in [] ks) (append_assoc gs (g ∷ []) (h ∷ hs))

plain_arm : (x : ArmView) (p : PatTree) (ks : Children) → arms_in [] (strays x.pat.guards (child (e.arm x.attrs p) (arm_ending x.comma) x.body ks)) ≡ record { attrs = x.attrs; pat = record { tree = p; guards = x.pat.guards }; body = x.body; comma = x.comma } ∷ arms_in [] ks
unfolding arms_in
plain_arm x p ks = behind_strays [] x.pat.guards (child (e.arm x.attrs p) (arm_ending x.comma) x.body ks) ∙ ap (λ c. record { attrs = x.attrs; pat = record { tree = p; guards = x.pat.guards }; body = x.body; comma = c } ∷ arms_in [] ks) (comma_known x.comma)

unguarded_arm : (x : ArmView) (p : PatTree) (gs : List Tree) (ks : Children) → x.pat.guards ≡ gs
    → arms_in [] (strays gs (child (e.arm x.attrs p) (arm_ending x.comma) x.body ks)) ≡ record { attrs = x.attrs; pat = record { tree = p; guards = gs }; body = x.body; comma = x.comma } ∷ arms_in [] ks
unguarded_arm x p gs ks h = ap (λ l. arms_in [] (strays l (child (e.arm x.attrs p) (arm_ending x.comma) x.body ks))) (sym h) ∙ (plain_arm x p ks ∙ ap (λ l. record { attrs = x.attrs; pat = record { tree = p; guards = l }; body = x.body; comma = x.comma } ∷ arms_in [] ks) h)

one_arm : (x : ArmView) (p : PatTree) (gs : List Tree) (ks : Children) → x.pat.guards ≡ gs → arms_in [] (arm_children x p gs ks) ≡ record { attrs = x.attrs; pat = record { tree = p; guards = gs }; body = x.body; comma = x.comma } ∷ arms_in [] ks
one_arm x (guarded p) (g ∷ gs) ks h = behind_guards x.attrs p x.comma x.body [] g gs ks
one_arm x p gs ks h = unguarded_arm x p gs ks h

arms_known : (l : List ArmView) → arms_in [] (arms l) ≡ l
unfolding arms_in
arms_known [] = refl
arms_known (x ∷ xs) = one_arm x x.pat.tree x.pat.guards (arms xs) refl ∙ ap (λ l. x ∷ l) (arms_known xs)

pub arms_once : (l m : List ArmView) → arms l ≡ arms m → l ≡ m
arms_once l m h = sym (arms_known l) ∙ (ap (λ ks. arms_in [] ks) h ∙ arms_known m)

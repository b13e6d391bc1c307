-- What is printed of the arms of a `match`, by their parts.
use Rattle.std.specs.Prelude.{not, ◌||◌, ◌&&◌, codes, map, nat_eq, is_some}
use Rattle.std.proofs.Common.{◌≡◌, ◌+◌, ◌≤◌, Bool, false, List, [], ◌∷◌, ◌++◌, length, refl, sym, ap, ◌∙◌, append_assoc, arith}
use Rattle.std.proofs.lemmas.Bool.Decides.{nat_tests}
use Rattle.syn_tokens.specs.Tok.{Tok, ident}
use Rattle.syn_lower_spec.specs.Form.{is_nil}
use Rattle.syn_lower_spec.specs.Own.{alone, joint}
use Rattle.syn_lower_spec.specs.Pat.{PatTree, guarded}
use Rattle.syn_lower_spec.specs.PatOwn.{pat_own}
use Rattle.syn_pat.proofs.Appends.{attributes_append}
use Rattle.syn_expr_spec.specs.Next.{enclosed, in_arm}
use Rattle.syn_expr_spec.specs.Tree as e
use Rattle.syn_expr_spec.specs.Tree.{Tree, Children, child, is_block_like, is_none, size, children_size}
use Rattle.syn_expr_ast.specs.Pats.{ArmView, strays, guard_children, arm_ending, arm_children, arms}
use Rattle.syn_expr_print.specs.Framed.{guarded_by, has_guard}
use Rattle.syn_expr_fixup.specs.Below.{guard_by, guard_at, last_guard, total}
use Rattle.syn_expr_fixup.proofs.Lists.{arms_below}
use Rattle.syn_expr_print.specs.Placed.{comma_if, option_size, arm_size, guard_spelled, arm_spelled, arms_spelled}
use Rattle.syn_expr_ast.specs.Printed.{whole}
use Rattle.syn_expr_print.specs.Printing.{children_spelled}
use Rattle.syn_expr_print.proofs.Arms.{head_spelled, arm-spelled, guard-spelled, guarded-spelled, guards-spelled}
use Rattle.syn_expr_print.proofs.Children.{none-spelled}
use Rattle.syn_expr_print.proofs.Spellings.{strays-spelled}

-- ---- an arm has the `if` where it has a guard

guards-by : (p : PatTree) (gs : List Tree) → guarded_by p gs ≡ is_some (guard_by p gs)
guards-by (guarded p) [] = refl
guards-by (guarded p) (g ∷ gs) = refl
guards-by p gs = refl

pub guard-there : (x : ArmView) → has_guard x ≡ is_some (guard_at x)
guard-there x = guards-by x.pat.tree x.pat.guards

pub ruleset guards = (guard-there, attributes_append)

-- ---- an arm before others

abbrev behind : ArmView → List Tok → List Tok
behind x l = joint 61 ∷ alone 62 ∷ (whole in_arm x.body ++ l)

-- a comma after the body
abbrev after : ArmView → Children → Bool → List Tok
after x more last = comma_if (x.comma || (not (is_none more) && not (is_block_like x.body))) ++ children_spelled last more

abbrev ArmText : ArmView → Children → Bool → PatTree → List Tree → Type 0
ArmText x more last p gs = children_spelled last (arm_children x p gs more) ≡ head_spelled x.attrs p ++ (guard_spelled (guard_by p gs) ++ behind x (after x more last))

unguarded : (x : ArmView) (more : Children) (last : Bool) (p : PatTree) (gs : List Tree)
    → children_spelled last (strays gs (child (e.arm x.attrs p) (arm_ending x.comma) x.body more)) ≡ head_spelled x.attrs p ++ behind x (after x more last)
unguarded x more last p gs =
    strays-spelled last gs (child (e.arm x.attrs p) (arm_ending x.comma) x.body more) ∙ arm-spelled last x.comma x.attrs p x.body more

arm-by : (x : ArmView) (more : Children) (last : Bool) (p : PatTree) (gs : List Tree) → ArmText x more last p gs
arm-by x more last (guarded p) [] = unguarded x more last (guarded p) []
arm-by x more last (guarded p) (g ∷ gs) =
    let ks = child e.guarded (arm_ending x.comma) x.body more in
    guards-spelled last (e.guard x.attrs p) g gs ks
    ∙ guard-spelled last x.attrs p (last_guard g gs) ks
    ∙ ap (λ l. head_spelled x.attrs p ++ (ident (codes "if") ∷ (whole enclosed (last_guard g gs) ++ l))) (guarded-spelled last x.comma x.body more)
arm-by x more last p gs = unguarded x more last p gs

arm-text : (x : ArmView) (more : Children) (last : Bool) → children_spelled last (arm_children x x.pat.tree x.pat.guards more) ≡ arm_spelled x ++ after x more last
arm-text x more last =
    let head = head_spelled x.attrs x.pat.tree in
    let g = guard_spelled (guard_at x) in
    let b = joint 61 ∷ alone 62 ∷ whole in_arm x.body in
    arm-by x more last x.pat.tree x.pat.guards
    ∙ ap (λ l. head ++ l) (sym (append_assoc g b (after x more last)))
    ∙ sym (append_assoc head (g ++ b) (after x more last))
    ∙ ap (λ l. (l ++ (g ++ b)) ++ after x more last) (sym (attributes_append x.attrs (pat_own x.pat.tree [])))

-- ---- the arms

arm-some : (x : ArmView) (p : PatTree) (gs : List Tree) (more : Children) → is_none (arm_children x p gs more) ≡ false
arm-some x (guarded p) [] more = refl
arm-some x (guarded p) (g ∷ []) more = refl
arm-some x (guarded p) (g ∷ (h ∷ gs)) more = refl
arm-some x p gs more = stray-some gs
  where
    stray-some : (gs : List Tree) → is_none (strays gs (child (e.arm x.attrs p) (arm_ending x.comma) x.body more)) ≡ false
    stray-some [] = refl
    stray-some (g ∷ gs) = refl

pub arms-none : (xs : List ArmView) → is_none (arms xs) ≡ is_nil xs
arms-none [] = refl
arms-none (x ∷ xs) = arm-some x x.pat.tree x.pat.guards (arms xs)

pub arms-text : (last : Bool) (xs : List ArmView) → children_spelled last (arms xs) ≡ arms_spelled xs
arms-text last [] = none-spelled last
arms-text last (x ∷ xs) =
    let c = λ (b : Bool). comma_if (x.comma || (not b && not (is_block_like x.body))) in
    arm-text x (arms xs) last
    ∙ ap (λ b. arm_spelled x ++ (c b ++ children_spelled last (arms xs))) (arms-none xs)
    ∙ ap (λ l. arm_spelled x ++ (c (is_nil xs) ++ l)) (arms-text last xs)
    ∙ sym (append_assoc (arm_spelled x) (c (is_nil xs)) (arms_spelled xs))

-- ---- their sizes

strays-most : (gs : List Tree) (ks : Children) → children_size ks ≤ children_size (strays gs ks)
strays-most [] ks = omega arith
strays-most (g ∷ gs) ks = let h = strays-most gs ks in omega arith

guards-most : (k : e.Piece) (g : Tree) (gs : List Tree) (ks : Children) → size (last_guard g gs) + children_size ks ≤ children_size (guard_children k g gs ks)
guards-most k g [] ks = omega arith
guards-most k g (h ∷ gs) ks = let i = guards-most k h gs ks in omega arith

arm-most : (x : ArmView) (p : PatTree) (gs : List Tree) (more : Children) → (option_size (guard_by p gs) + size x.body) + children_size more ≤ children_size (arm_children x p gs more)
arm-most x (guarded p) [] more = omega arith
arm-most x (guarded p) (g ∷ gs) more = let h = guards-most (e.guard x.attrs p) g gs (child e.guarded (arm_ending x.comma) x.body more) in omega arith
arm-most x p gs more = let h = strays-most gs (child (e.arm x.attrs p) (arm_ending x.comma) x.body more) in omega arith

pub arms-size : {A : Type 0} (f : A → ArmView) (xs : List A) → total (λ x. arm_size (f x)) xs ≤ children_size (arms (map f xs))
arms-size f [] = omega arith
arms-size f (x ∷ xs) = let h = arm-most (f x) (f x).pat.tree (f x).pat.guards (arms (map f xs)) in let t = arms-size f xs in omega arith

pub nil-map : {A B : Type 0} (f : A → B) (xs : List A) → nat_eq (length xs) 0 ≡ is_nil (map f xs)
nil-map f [] = refl
nil-map f (x ∷ xs) = grind (arith, nat_tests)

pub ruleset match_exprs = (arms-text, arms_below, arms-size)

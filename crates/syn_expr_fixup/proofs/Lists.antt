-- What a pass makes of lists of operands.
use Rattle.std.proofs.Math.Seq.{take-suc, take-length}
use Rattle.std.proofs.Common.{◌≡◌, ℕ, suc, ◌+◌, ◌-◌, ◌≤◌, Bool, true, false, not, if◌then◌else◌, List, [], ◌∷◌, ◌++◌, map, length, take, get_or, Option, Some, None, refl, sym, ap, ◌∙◌, arith, append_assoc}
use Rattle.std.proofs.lemmas.List.{append-nil}
use Rattle.std.specs.declared.boxed.Box.{Box}
use Rattle.std.specs.declared.alloc.Global.{Global}
use Rattle.syn_lower_leaves.specs.declared.punctuated.Punctuated.{Punctuated}
use Rattle.syn_lower_leaves.specs.View.{values, last_of}
use Rattle.syn_lower_spec.specs.Pat.{PatTree, guarded}
use Rattle.syn_expr_spec.specs.declared.summary.Summary.{Summary}
use Rattle.syn_expr_spec.specs.Tree as e
use Rattle.syn_expr_spec.specs.Tree.{Tree, Children, child, size}
use Rattle.syn_expr_spec.specs.Summaries.{stack, children_below}
use Rattle.syn_expr_ast.specs.Pats.{ArmView, strays, guard_children, arm_ending, arm_children, arms}
use Rattle.syn_expr_ast.specs.View.{FieldView, elements, fields, option_child}
use Rattle.syn_expr_fixup.specs.Below.{last_guard, guard_by, backwards, total, field_below, field_size, option_below, option_size, arm_below, arm_size}
use Rattle.syn_expr_fixup.specs.Strays.{children_left}

-- ---- lists, from the end

pub backwards_append : {A : Type 0} (f : A → List Summary) (xs ys : List A) → backwards f (xs ++ ys) ≡ backwards f ys ++ backwards f xs
backwards_append f [] ys = sym (append-nil (backwards f ys))
backwards_append f (x ∷ xs) ys = ap (λ l. l ++ f x) (backwards_append f xs ys) ∙ append_assoc (backwards f ys) (backwards f xs) (f x)

pub total_append : {A : Type 0} (f : A → ℕ) (xs ys : List A) → total f (xs ++ ys) ≡ total f xs + total f ys
total_append f [] ys = omega arith
total_append f (x ∷ xs) ys = omega (arith, total_append f xs ys)

pub backwards_map : {A B : Type 0} (f : B → List Summary) (g : A → B) (xs : List A) → backwards f (map g xs) ≡ backwards (λ x. f (g x)) xs
backwards_map f g [] = refl
backwards_map f g (x ∷ xs) = ap (λ l. l ++ f (g x)) (backwards_map f g xs)

pub total_map : {A B : Type 0} (f : B → ℕ) (g : A → B) (xs : List A) → total f (map g xs) ≡ total (λ x. f (g x)) xs
total_map f g [] = refl
total_map f g (x ∷ xs) = ap (λ n. f (g x) + n) (total_map f g xs)

-- all but the last, and the last
last_split : {A : Type 0} (xs : List A) (x : A) → 1 ≤ length xs → x ≡ get_or xs (length xs - 1) x → xs ≡ take (length xs - 1) xs ++ x ∷ []
last_split xs x h e =
    let n : suc (length xs - 1) ≡ length xs = omega arith in
    let a = take-suc xs (length xs - 1) x (omega arith) in
    let b = take-length xs in
    cc

pub backwards_last : {A : Type 0} (f : A → List Summary) (xs : List A) (x : A) → 1 ≤ length xs → x ≡ get_or xs (length xs - 1) x → backwards f xs ≡ f x ++ backwards f (take (length xs - 1) xs)
backwards_last f xs x h e = ap (backwards f) (last_split xs x h e) ∙ backwards_append f (take (length xs - 1) xs) (x ∷ [])

pub total_last : {A : Type 0} (f : A → ℕ) (xs : List A) (x : A) → 1 ≤ length xs → x ≡ get_or xs (length xs - 1) x → total f xs ≡ total f (take (length xs - 1) xs) + f x
total_last f xs x h e = let a = ap (total f) (last_split xs x h e) in let b = total_append f (take (length xs - 1) xs) (x ∷ []) in omega arith

pub backwards_end : {A : Type 0} (f : A → List Summary) (xs : List A) (d : A) → 1 ≤ length xs → d ≡ get_or xs (length xs - 1) d → backwards f xs ≡ f (get_or xs (length xs - 1) d) ++ backwards f (take (length xs - 1) xs)
backwards_end f xs d h e = backwards_last f xs d h e ∙ ap (λ x. f x ++ backwards f (take (length xs - 1) xs)) e

pub total_end : {A : Type 0} (f : A → ℕ) (xs : List A) (d : A) → 1 ≤ length xs → d ≡ get_or xs (length xs - 1) d → total f xs ≡ total f (take (length xs - 1) xs) + f (get_or xs (length xs - 1) d)
total_end f xs d h e = total_last f xs d h e ∙ ap (λ x. total f (take (length xs - 1) xs) + f x) e

-- what is known of the last is followed by the rest; and what is known of one and then of another

pub step_kept : (now summarized left : List Summary) {new whole all : List Summary} → new ≡ now ++ summarized → whole ≡ summarized ++ left → now ++ whole ≡ all → new ++ left ≡ all
step_kept now summarized left a b e = ap (λ l. l ++ left) a ∙ append_assoc now summarized left ∙ ap (λ l. now ++ l) (sym b) ∙ e

pub two_summarized : (old x y : List Summary) {one two whole : List Summary} → one ≡ old ++ x → two ≡ one ++ y → whole ≡ x ++ y → two ≡ old ++ whole
two_summarized old x y a b e = b ∙ ap (λ l. l ++ y) a ∙ append_assoc old x y ∙ ap (λ l. old ++ l) (sym e)

-- the values of a list with puncts: one without a punct is the last

values_some : {A P : Type 0} (p : Punctuated A P) (b : Box A Global) → p.last ≡ Some b → values p ≡ map (λ q. q.0) p.inner.items ++ b.value ∷ []
unfolding values
values_some p b h = ap (λ o. map (λ q. q.0) p.inner.items ++ last_of o) h

values_none : {A P : Type 0} (p : Punctuated A P) → p.last ≡ None → values p ≡ map (λ q. q.0) p.inner.items
unfolding values
values_none p h = ap (λ o. map (λ q. q.0) p.inner.items ++ last_of o) h ∙ append-nil (map (λ q. q.0) p.inner.items)

pub some_below : {A P : Type 0} (f : A → List Summary) (p : Punctuated A P) (b : Box A Global) → p.last ≡ Some b → backwards f (values p) ≡ f b.value ++ backwards (λ q. f q.0) p.inner.items
some_below f p b h =
    ap (backwards f) (values_some p b h) ∙ backwards_append f (map (λ q. q.0) p.inner.items) (b.value ∷ []) ∙ ap (λ l. f b.value ++ l) (backwards_map f (λ q. q.0) p.inner.items)

pub some_size : {A P : Type 0} (f : A → ℕ) (p : Punctuated A P) (b : Box A Global) → p.last ≡ Some b → total f (values p) ≡ f b.value + total (λ q. f q.0) p.inner.items
some_size f p b h =
    let a = ap (total f) (values_some p b h) in
    let d = total_append f (map (λ q. q.0) p.inner.items) (b.value ∷ []) in
    let m = total_map f (λ q. q.0) p.inner.items in
    omega arith

pub none_below : {A P : Type 0} (f : A → List Summary) (p : Punctuated A P) → p.last ≡ None → backwards f (values p) ≡ backwards (λ q. f q.0) p.inner.items
none_below f p h = ap (backwards f) (values_none p h) ∙ backwards_map f (λ q. q.0) p.inner.items

pub none_size : {A P : Type 0} (f : A → ℕ) (p : Punctuated A P) → p.last ≡ None → total f (values p) ≡ total (λ q. f q.0) p.inner.items
none_size f p h = ap (total f) (values_none p h) ∙ total_map f (λ q. q.0) p.inner.items

-- ---- the operands of each list

elements_summarized : (ts : List Tree) (b : Bool) → children_below (elements ts b) ≡ backwards stack ts
elements_summarized [] b = refl
elements_summarized (t ∷ ts) b = ap (λ l. l ++ stack t) (elements_summarized ts b)

elements_seen : (ts : List Tree) (b : Bool) → children_left (elements ts b) ≡ total size ts
elements_seen [] b = refl
elements_seen (t ∷ ts) b = ap (λ n. size t + n) (elements_seen ts b)

pub elements_below : {E : Type 0} (f : E → Tree) (xs : List E) (b : Bool) → children_below (elements (map f xs) b) ≡ backwards (λ x. stack (f x)) xs
elements_below f xs b = elements_summarized (map f xs) b ∙ backwards_map stack f xs

pub elements_size : {E : Type 0} (f : E → Tree) (xs : List E) (b : Bool) → children_left (elements (map f xs) b) ≡ total (λ x. size (f x)) xs
elements_size f xs b = elements_seen (map f xs) b ∙ total_map size f xs

pub silent_if : {A : Type 0} (b : Bool) (x y : A) → (if not b then x else y) ≡ (if b then y else x)
silent_if true x y = refl
silent_if false x y = refl

fields_summarized : (xs : List FieldView) (b : Bool) (rest : Children) → children_below (fields xs b rest) ≡ children_below rest ++ backwards field_below xs
fields_summarized [] b rest = sym (append-nil (children_below rest))
fields_summarized (x ∷ xs) b rest = rw (fields_summarized xs b rest, silent_if x.colon [] (stack x.value)) (append_assoc (children_below rest) (backwards field_below xs) (field_below x))

fields_seen : (xs : List FieldView) (b : Bool) (rest : Children) → children_left (fields xs b rest) ≡ total field_size xs + children_left rest
fields_seen [] b rest = omega arith
fields_seen (x ∷ xs) b rest = omega (arith, fields_seen xs b rest)

pub rest_below : (d : Bool) (o : Option Tree) → children_below (option_child (e.rest d) o) ≡ option_below o
rest_below d None = refl
rest_below d (Some t) = refl

rest_size : (d : Bool) (o : Option Tree) → children_left (option_child (e.rest d) o) ≡ option_size o
rest_size d None = refl
rest_size d (Some t) = omega arith

pub fields_below : {E : Type 0} (f : E → FieldView) (xs : List E) (b d : Bool) (o : Option Tree) → children_below (fields (map f xs) b (option_child (e.rest d) o)) ≡ option_below o ++ backwards (λ x. field_below (f x)) xs
fields_below f xs b d o =
    fields_summarized (map f xs) b (option_child (e.rest d) o) ∙ ap (λ l. l ++ backwards field_below (map f xs)) (rest_below d o) ∙ ap (λ l. option_below o ++ l) (backwards_map field_below f xs)

pub fields_size : {E : Type 0} (f : E → FieldView) (xs : List E) (b d : Bool) (o : Option Tree) → children_left (fields (map f xs) b (option_child (e.rest d) o)) ≡ option_size o + total (λ x. field_size (f x)) xs
fields_size f xs b d o =
    let h = fields_seen (map f xs) b (option_child (e.rest d) o) in
    let r = rest_size d o in
    let m = total_map field_size f xs in
    omega arith

-- ---- arms

pub strays_none : (gs : List Tree) (ks : Children) → children_below (strays gs ks) ≡ children_below ks
strays_none [] ks = refl
strays_none (g ∷ gs) ks = append-nil (children_below (strays gs ks)) ∙ strays_none gs ks

strays_unseen : (gs : List Tree) (ks : Children) → children_left (strays gs ks) ≡ children_left ks
strays_unseen [] ks = refl
strays_unseen (g ∷ gs) ks = strays_unseen gs ks

guard_last : (ats : _) (p : PatTree) (g : Tree) (gs : List Tree) (ks : Children) → children_below (guard_children (e.guard ats p) g gs ks) ≡ children_below ks ++ stack (last_guard g gs)
guard_last ats p g [] ks = refl
guard_last ats p g (h ∷ gs) ks = append-nil (children_below (guard_children (e.guard ats p) h gs ks)) ∙ guard_last ats p h gs ks

guard_seen : (ats : _) (p : PatTree) (g : Tree) (gs : List Tree) (ks : Children) → children_left (guard_children (e.guard ats p) g gs ks) ≡ size (last_guard g gs) + children_left ks
guard_seen ats p g [] ks = refl
guard_seen ats p g (h ∷ gs) ks = guard_seen ats p h gs ks

abbrev ArmBelow : ArmView → Children → PatTree → List Tree → Type 0
ArmBelow x more p gs = children_below (arm_children x p gs more) ≡ children_below more ++ (stack x.body ++ option_below (guard_by p gs))

abbrev ArmSeen : ArmView → Children → PatTree → List Tree → Type 0
ArmSeen x more p gs = children_left (arm_children x p gs more) ≡ (size x.body + option_size (guard_by p gs)) + children_left more

unguarded_below : (x : ArmView) (more : Children) (p : PatTree) (gs : List Tree) → children_below (strays gs (child (e.arm x.attrs p) (arm_ending x.comma) x.body more)) ≡ children_below more ++ (stack x.body ++ [])
unguarded_below x more p gs = strays_none gs _ ∙ ap (λ l. children_below more ++ l) (sym (append-nil (stack x.body)))

unguarded_seen : (x : ArmView) (more : Children) (p : PatTree) (gs : List Tree) → children_left (strays gs (child (e.arm x.attrs p) (arm_ending x.comma) x.body more)) ≡ (size x.body + 0) + children_left more
unguarded_seen x more p gs = let h = strays_unseen gs (child (e.arm x.attrs p) (arm_ending x.comma) x.body more) in omega arith

arm_summarized : (x : ArmView) (more : Children) (p : PatTree) (gs : List Tree) → ArmBelow x more p gs
arm_summarized x more (guarded p) [] = unguarded_below x more (guarded p) []
arm_summarized x more (guarded p) (g ∷ gs) =
    guard_last x.attrs p g gs (child e.guarded (arm_ending x.comma) x.body more) ∙ append_assoc (children_below more) (stack x.body) (stack (last_guard g gs))
arm_summarized x more p gs = unguarded_below x more p gs

arm_seen : (x : ArmView) (more : Children) (p : PatTree) (gs : List Tree) → ArmSeen x more p gs
arm_seen x more (guarded p) [] = unguarded_seen x more (guarded p) []
arm_seen x more (guarded p) (g ∷ gs) = let h = guard_seen x.attrs p g gs (child e.guarded (arm_ending x.comma) x.body more) in omega arith
arm_seen x more p gs = unguarded_seen x more p gs

arms_summarized : (xs : List ArmView) → children_below (arms xs) ≡ backwards arm_below xs
arms_summarized [] = refl
arms_summarized (x ∷ xs) = arm_summarized x (arms xs) x.pat.tree x.pat.guards ∙ ap (λ l. l ++ arm_below x) (arms_summarized xs)

arms_seen : (xs : List ArmView) → children_left (arms xs) ≡ total arm_size xs
arms_seen [] = refl
arms_seen (x ∷ xs) = arm_seen x (arms xs) x.pat.tree x.pat.guards ∙ ap (λ n. arm_size x + n) (arms_seen xs)

pub arms_below : {A : Type 0} (f : A → ArmView) (xs : List A) → children_below (arms (map f xs)) ≡ backwards (λ x. arm_below (f x)) xs
arms_below f xs = arms_summarized (map f xs) ∙ backwards_map arm_below f xs

pub arms_size : {A : Type 0} (f : A → ArmView) (xs : List A) → children_left (arms (map f xs)) ≡ total (λ x. arm_size (f x)) xs
arms_size f xs = arms_seen (map f xs) ∙ total_map arm_size f xs

pub ruleset lists = (elements_below, elements_size, fields_below, fields_size, arms_below, arms_size)

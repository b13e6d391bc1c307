-- What is around the operands of a node is the same where f makes the same of these: f puts one tree in the place of all.
use Rattle.std.proofs.Common.{◌≡◌, Bool, List, [], ◌∷◌, map, Option, Some, None, is_some, Result, refl, sym, ap, ◌∙◌}
use Rattle.std.specs.Prelude.{not, ◌&&◌}
use Rattle.std.specs.declared.boxed.Box.{Box}
use Rattle.std.specs.declared.alloc.Global.{Global}
use Rattle.syn_lower_spec.specs.Form.{is_nil}
use Rattle.syn_lower_spec.specs.Tree.{AttributeTree, ReturnTree, default, given, QSelfTree, PathTree}
use Rattle.syn_lower_spec.specs.Pat as p
use Rattle.syn_lower_spec.specs.Pat.{PatTree}
use Rattle.syn_expr_spec.specs.declared.kinds.Infix.{Infix}
use Rattle.syn_expr_spec.specs.declared.kinds.Limits.{Limits}
use Rattle.syn_expr_spec.specs.Tree as e
use Rattle.syn_expr_spec.specs.Tree.{Tree, Children, Ending, Frame, Piece, Jump, Prefix, Postfix, Trailer, ClosureHead, paren, attributed, prefixed, infixed, postfixed, tail, frame, none, child, attributed_with}
use Rattle.syn_lower.specs.View.{last_of, mapped, trails, values}
use Rattle.syn_lower_leaves.specs.declared.punctuated.Punctuated.{Punctuated}
use Rattle.syn_expr_ast.specs.View.{FieldView, boxed, elements, else_of, ending_of, fields, jump_with, option_child, range_between}
use Rattle.syn_expr_ast.specs.Pats.{ArmView, arm_ending, arm_children, arms, closure_by, guard_children, strays}
use Rattle.syn_visit_kinds.specs.Changes.{Changed, ended, refused, went, SameAround}
use Rattle.syn_visit_kinds.specs.Nodes.{map_children, map_operands}
use Rattle.syn_visit_kinds.specs.Parts.{else_operand, map_arm, map_field}
use Rattle.syn_visit_kinds.proofs.Changes.{changed_alike}

-- what stands in the places of a list, whatever is in them
pub same_places : {E R : Type 0} {call : E → Result (Unit {0}) R → E → Type 0} (tree : E → Tree) (k : Tree) {xs ys : List E} {r : Result (Unit {0}) R} → Changed call xs r ys
    → map (λ (_ : Tree). k) (map tree ys) ≡ map (λ (_ : Tree). k) (map tree xs)
same_places tree k ended = refl
same_places tree k (refused h) = refl
same_places tree k (went h c) = ap (λ l. k ∷ l) (same_places tree k c)

pub same_in : {R : Type 0} {call : Tree → Result (Unit {0}) R → Tree → Type 0} (k : Tree) {ts us : List Tree} {r : Result (Unit {0}) R} → Changed call ts r us → map (λ (_ : Tree). k) us ≡ map (λ (_ : Tree). k) ts
same_in k c = changed_alike (λ (_ : Tree). k) (λ x r y h. refl) c

-- X makes of what f made what f makes of it, as `old` and `new` say, and f makes the same of both
pub around_by : {A B : Type 0} (X : A → B) {x y : A} {t u : B} → X x ≡ t → X y ≡ u → y ≡ x → u ≡ t
around_by X old new same = sym new ∙ ap X same ∙ old

module _ (f : Tree → Tree) where
  -- ---- operands that may be there

  boxed_around : {E : Type 0} (tree : E → Tree) (x y : Option (Box E Global)) → map f (map tree (last_of y)) ≡ map f (map tree (last_of x)) → mapped f (boxed tree y) ≡ mapped f (boxed tree x)
  boxed_around tree None None h = refl
  boxed_around tree (Some x) (Some y) h = cc
  boxed_around tree _ _ h = absurd (cc)

  jump_map : (j : Jump) (o : Option Tree) → jump_with j (mapped f o) ≡ map_operands f (jump_with j o)
  jump_map j None = refl
  jump_map j (Some t) = refl

  jump_by : (j : Jump) (o n : Option Tree) → mapped f n ≡ mapped f o → map_operands f (jump_with j n) ≡ map_operands f (jump_with j o)
  jump_by j o n h = around_by (jump_with j) (jump_map j o) (jump_map j n) h

  range_map : (op : Limits) (o n : Option Tree) → range_between op (mapped f o) (mapped f n) ≡ map_operands f (range_between op o n)
  range_map op None None = refl
  range_map op None (Some y) = refl
  range_map op (Some x) None = refl
  range_map op (Some x) (Some y) = refl

  range_by : (op : Limits) (o n o' n' : Option Tree) → mapped f o' ≡ mapped f o → mapped f n' ≡ mapped f n → map_operands f (range_between op o' n') ≡ map_operands f (range_between op o n)
  range_by op o n o' n' h k = sym (range_map op o' n') ∙ ap (λ x. range_between op x (mapped f n')) h ∙ ap (range_between op (mapped f o)) k ∙ range_map op o n

  else_by : {E S : Type 0} (tree : E → Tree) (x y : Option (S × Box E Global)) → map f (map tree (else_operand y)) ≡ map f (map tree (else_operand x)) → map_children f (else_of tree y) ≡ map_children f (else_of tree x)
  else_by tree None None h = refl
  else_by tree (Some x) (Some y) h = cc
  else_by tree _ _ h = absurd (cc)

  -- ---- lists

  nil_map : {A B : Type 0} (h : A → B) (xs : List A) → is_nil (map h xs) ≡ is_nil xs
  nil_map h [] = refl
  nil_map h (x ∷ xs) = refl

  elements_map : (ts : List Tree) (b : Bool) → elements (map f ts) b ≡ map_children f (elements ts b)
  elements_map [] b = refl
  elements_map (t ∷ ts) b =
      ap (λ z. child e.element (ending_of z b) (f t) (elements (map f ts) b)) (nil_map f ts)
      ∙ ap (child e.element (ending_of (is_nil ts) b) (f t)) (elements_map ts b)

  elements_around : (ts us : List Tree) (b c : Bool) → map f us ≡ map f ts → c ≡ b → map_children f (elements us c) ≡ map_children f (elements ts b)
  elements_around ts us b c h same = ap (λ z. map_children f (elements us z)) same ∙ around_by (λ l. elements l b) (elements_map ts b) (elements_map us b) h

  fields_map : (xs : List FieldView) (b : Bool) (ks : Children) → fields (map (map_field f) xs) b (map_children f ks) ≡ map_children f (fields xs b ks)
  fields_map [] b ks = refl
  fields_map (x ∷ xs) b ks =
      ap (λ z. child (e.field_value x.attrs x.member x.colon) (ending_of z b) (f x.value) (fields (map (map_field f) xs) b (map_children f ks))) (nil_map (map_field f) xs)
      ∙ ap (child (e.field_value x.attrs x.member x.colon) (ending_of (is_nil xs) b) (f x.value)) (fields_map xs b ks)

  fields_around : (xs ys : List FieldView) (b c : Bool) (ks ls : Children) → map (map_field f) ys ≡ map (map_field f) xs → c ≡ b → map_children f ls ≡ map_children f ks
      → map_children f (fields ys c ls) ≡ map_children f (fields xs b ks)
  fields_around xs ys b c ks ls h same more =
      ap (λ z. map_children f (fields ys z ls)) same ∙ sym (fields_map ys b ls) ∙ ap (λ l. fields l b (map_children f ls)) h ∙ ap (fields (map (map_field f) xs) b) more ∙ fields_map xs b ks

  option_child_map : (k : Piece) (o : Option Tree) → option_child k (mapped f o) ≡ map_children f (option_child k o)
  option_child_map k None = refl
  option_child_map k (Some t) = refl

  some_map : (o : Option Tree) → is_some (mapped f o) ≡ is_some o
  some_map None = refl
  some_map (Some t) = refl

  -- a struct expression, and what its other fields are taken of
  struct_by : (q : QSelfTree) (path : PathTree) (dots : Bool) (xs ys : List FieldView) (b c : Bool) (o n : Option Tree) → map (map_field f) ys ≡ map (map_field f) xs → c ≡ b → mapped f n ≡ mapped f o
      → map_operands f (frame (e.structure q path (dots && not (is_some n))) (fields ys c (option_child (e.rest dots) n)))
      ≡ map_operands f (frame (e.structure q path (dots && not (is_some o))) (fields xs b (option_child (e.rest dots) o)))
  struct_by q path dots xs ys b c o n h same rest =
      ap (λ z. frame (e.structure q path (dots && not z)) (map_children f (fields ys c (option_child (e.rest dots) n)))) (around_by is_some (some_map o) (some_map n) rest)
      ∙ ap (frame (e.structure q path (dots && not (is_some o))))
      (fields_around xs ys b c _ _ h same (around_by (option_child (e.rest dots)) (option_child_map (e.rest dots) o) (option_child_map (e.rest dots) n) rest))

  -- ---- what holds patterns

  strays_map : (gs : List Tree) (ks : Children) → strays (map f gs) (map_children f ks) ≡ map_children f (strays gs ks)
  strays_map [] ks = refl
  strays_map (g ∷ gs) ks = ap (child e.stray e.no_ending (f g)) (strays_map gs ks)

  strays_around : (gs hs : List Tree) (ks ls : Children) → map f hs ≡ map f gs → map_children f ls ≡ map_children f ks → map_children f (strays hs ls) ≡ map_children f (strays gs ks)
  strays_around gs hs ks ls h more = sym (strays_map hs ls) ∙ ap (λ l. strays l (map_children f ls)) h ∙ ap (strays (map f gs)) more ∙ strays_map gs ks

  closure_by_map : (r : ReturnTree) (h : ClosureHead) (gs hs : List Tree) (t u : Tree) → map f hs ≡ map f gs → f u ≡ f t → map_operands f (closure_by r h hs u) ≡ map_operands f (closure_by r h gs t)
  closure_by_map default h gs hs t u all body = ap (λ l. prefixed (e.closure h) l (f u)) (strays_around gs hs none none all refl) ∙ ap (prefixed (e.closure h) (map_children f (strays gs none))) body
  closure_by_map (given ty) h gs hs t u all body = ap (frame (e.closure_block h)) (strays_around gs hs _ _ all (ap (λ z. child e.output_block e.no_ending z none) body))

  -- ---- arms

  guard_children_map : (k : Piece) (t : Tree) (gs : List Tree) (ks : Children) → guard_children k (f t) (map f gs) (map_children f ks) ≡ map_children f (guard_children k t gs ks)
  guard_children_map k t [] ks = refl
  guard_children_map k t (g ∷ gs) ks = ap (child e.stray e.no_ending (f t)) (guard_children_map k g gs ks)

  plain_arm_map : (x : ArmView) (q : PatTree) (gs : List Tree) (ks : Children)
      → strays (map f gs) (child (e.arm x.attrs q) (arm_ending x.comma) (f x.body) (map_children f ks)) ≡ map_children f (strays gs (child (e.arm x.attrs q) (arm_ending x.comma) x.body ks))
  plain_arm_map x q gs ks = strays_map gs (child (e.arm x.attrs q) (arm_ending x.comma) x.body ks)

  arm_children_map : (x : ArmView) (q : PatTree) (gs : List Tree) (ks : Children) → arm_children (map_arm f x) q (map f gs) (map_children f ks) ≡ map_children f (arm_children x q gs ks)
  arm_children_map x (p.guarded q) (g ∷ gs) ks = guard_children_map (e.guard x.attrs q) g gs (child e.guarded (arm_ending x.comma) x.body ks)
  arm_children_map x (p.guarded q) [] ks = refl
  arm_children_map x _ gs ks = plain_arm_map x _ gs ks

  arms_map : (xs : List ArmView) → arms (map (map_arm f) xs) ≡ map_children f (arms xs)
  arms_map [] = refl
  arms_map (x ∷ xs) = ap (arm_children (map_arm f x) x.pat.tree (map f x.pat.guards)) (arms_map xs) ∙ arm_children_map x x.pat.tree x.pat.guards (arms xs)

  arms_by : (xs ys : List ArmView) → map (map_arm f) ys ≡ map (map_arm f) xs → map_children f (arms ys) ≡ map_children f (arms xs)
  arms_by xs ys h = around_by arms (arms_map xs) (arms_map ys) h

-- ---- of each shape

-- after attributes
pub attributed_around : (ats : List AttributeTree) (t u : Tree) → SameAround t u → SameAround (attributed_with ats t) (attributed_with ats u)
attributed_around [] t u h = h
attributed_around (a ∷ more) t u h = record { same = λ k. ap (attributed a more) (h.same k) }

pub paren_around : (m : Bool) (t u : Tree) → SameAround (paren m t) (paren m u)
paren_around m t u = record { same = λ k. refl }

pub prefixed_around : (p : Prefix) (gs : Children) (t u : Tree) → SameAround (prefixed p gs t) (prefixed p gs u)
prefixed_around p gs t u = record { same = λ k. refl }

pub infixed_around : (i : Infix) (t u v w : Tree) → SameAround (infixed t i u) (infixed v i w)
infixed_around i t u v w = record { same = λ k. refl }

pub postfixed_around : (p : Postfix) (t u : Tree) → SameAround (postfixed t p) (postfixed u p)
postfixed_around p t u = record { same = λ k. refl }

-- operands in places of their own
pub record SameAmong (ks ls : Children) : Type 0 where
  pub same : (k : Tree) → map_children (λ _. k) ls ≡ map_children (λ _. k) ks

pub among : (ks : Children) → SameAmong ks ks
among ks = record { same = λ k. refl }

pub frame_around : (p : Frame) (ks ls : Children) → SameAmong ks ls → SameAround (frame p ks) (frame p ls)
frame_around p ks ls h = record { same = λ k. ap (frame p) (h.same k) }

pub tail_around : (b c : Tree) (p : Trailer) (ks ls : Children) → SameAmong ks ls → SameAround (tail b p ks) (tail c p ls)
tail_around b c p ks ls h = record { same = λ k. ap (tail k p) (h.same k) }

pub child_among : (p : Piece) (end : Ending) (t u : Tree) (ks ls : Children) → SameAmong ks ls → SameAmong (child p end t ks) (child p end u ls)
child_among p end t u ks ls h = record { same = λ k. ap (child p end k) (h.same k) }

-- ---- where operands are passed to a call

module _ {E R : Type 0} {call : E → Result (Unit {0}) R → E → Type 0} (tree : E → Tree) {r : Result (Unit {0}) R} where
  pub option_same : (x y : Option (Box E Global)) → Changed call (last_of x) r (last_of y) → (k : Tree) → mapped (λ (_ : Tree). k) (boxed tree y) ≡ mapped (λ (_ : Tree). k) (boxed tree x)
  option_same x y c k = boxed_around (λ _. k) tree x y (same_places tree k c)

  pub jump_around : (j : Jump) (x y : Option (Box E Global)) → Changed call (last_of x) r (last_of y) → SameAround (jump_with j (boxed tree x)) (jump_with j (boxed tree y))
  jump_around j x y c = record { same = λ k. jump_by (λ _. k) j (boxed tree x) (boxed tree y) (option_same x y c k) }

  pub else_around : {S : Type 0} (x y : Option (S × Box E Global)) → Changed call (else_operand x) r (else_operand y) → SameAmong (else_of tree x) (else_of tree y)
  else_around x y c = record { same = λ k. else_by (λ _. k) tree x y (same_places tree k c) }

  pub list_around : {P : Type 0} (x y : Punctuated E P) → Changed call (values x) r (values y) → trails y ≡ trails x → SameAmong (elements (map tree (values x)) (trails x)) (elements (map tree (values y)) (trails y))
  list_around x y c same = record { same = λ k. elements_around (λ _. k) (map tree (values x)) (map tree (values y)) (trails x) (trails y) (same_places tree k c) same }

pub range_around : (op : Limits) (o n o' n' : Option Tree) → ((k : Tree) → mapped (λ (_ : Tree). k) o' ≡ mapped (λ (_ : Tree). k) o) → ((k : Tree) → mapped (λ (_ : Tree). k) n' ≡ mapped (λ (_ : Tree). k) n)
    → SameAround (range_between op o n) (range_between op o' n')
range_around op o n o' n' h more = record { same = λ k. range_by (λ _. k) op o n o' n' (h k) (more k) }

pub struct_around : (q : QSelfTree) (path : PathTree) (dots : Bool) (xs ys : List FieldView) (b c : Bool) (o n : Option Tree) → ((k : Tree) → map (map_field (λ _. k)) ys ≡ map (map_field (λ _. k)) xs) → c ≡ b
    → ((k : Tree) → mapped (λ (_ : Tree). k) n ≡ mapped (λ (_ : Tree). k) o)
    → SameAround (frame (e.structure q path (dots && not (is_some o))) (fields xs b (option_child (e.rest dots) o))) (frame (e.structure q path (dots && not (is_some n))) (fields ys c (option_child (e.rest dots) n)))
struct_around q path dots xs ys b c o n h same rest = record { same = λ k. struct_by (λ _. k) q path dots xs ys b c o n (h k) same (rest k) }

-- ---- where guards are

module _ {R : Type 0} {call : Tree → Result (Unit {0}) R → Tree → Type 0} {r : Result (Unit {0}) R} where
  pub strays_among : (gs hs : List Tree) (ks ls : Children) → Changed call gs r hs → SameAmong ks ls → SameAmong (strays gs ks) (strays hs ls)
  strays_among gs hs ks ls c h = record { same = λ k. strays_around (λ _. k) gs hs ks ls (same_in k c) (h.same k) }

  pub closure_around : (ty : ReturnTree) (h : ClosureHead) (gs hs : List Tree) (t u : Tree) → Changed call gs r hs → SameAround (closure_by ty h gs t) (closure_by ty h hs u)
  closure_around ty h gs hs t u c = record { same = λ k. closure_by_map (λ _. k) ty h gs hs t u (same_in k c) refl }

pub arms_among : (xs ys : List ArmView) → ((k : Tree) → map (map_arm (λ _. k)) ys ≡ map (map_arm (λ _. k)) xs) → SameAmong (arms xs) (arms ys)
arms_among xs ys h = record { same = λ k. arms_by (λ _. k) xs ys (h k) }

-- Operands in places of their own, each without its parentheses.
use Rattle.std.specs.Prelude.{not, ◌&&◌}
use Rattle.syn_lower_spec.specs.Tree.{QSelfTree, PathTree}
use Rattle.std.proofs.Common.{◌≡◌, Bool, List, [], ◌∷◌, map, Option, Some, None, is_some, true, refl, ap, ◌∙◌}
use Rattle.std.specs.declared.boxed.Box.{Box}
use Rattle.std.specs.declared.alloc.Global.{Global}
use Rattle.syn_lower_spec.specs.Form.{is_nil}
use Rattle.syn_expr_spec.specs.declared.kinds.Limits.{Limits}
use Rattle.syn_expr_spec.specs.Tree as e
use Rattle.syn_expr_spec.specs.Tree.{Tree, Children, Ending, Piece, Jump, prefixed, tail, frame, none, child, flatten, flatten_children}
use Rattle.syn_lower.specs.View.{values, trails, last_of}
use Rattle.syn_lower_leaves.specs.declared.punctuated.Punctuated.{Punctuated}
use Rattle.syn_expr_ast.specs.Pats.{strays}
use Rattle.syn_expr_ast.specs.View.{FieldView, boxed, elements, ending_of, fields, option_child, range_between, jump_with}
use Rattle.syn_visit_kinds.specs.Calls.{Each}
use Rattle.syn_expr_flatten.specs.Flat.{IsFlat, AreFlat, IsFlatField}
use Rattle.syn_expr_flatten.proofs.Nodes.{same_flat, is_plain, prefix_flat, infix_flat, postfix_flat, leaf_flat}

pub none_flat : AreFlat none none
unfolding AreFlat
none_flat = refl

pub child_flat : (k : Piece) (c : Ending) (t u : Tree) (ts us : Children) → IsFlat t u → AreFlat ts us → AreFlat (child k c t ts) (child k c u us)
unfolding IsFlat AreFlat
child_flat k c t u ts us one more = ap (λ z. child k c z us) one ∙ ap (child k c (flatten t)) more

pub frame_flat : (k : e.Frame) (ts us : Children) → AreFlat ts us → IsFlat (frame k ts) (frame k us)
unfolding IsFlat AreFlat
frame_flat k ts us all = ap (frame k) all

pub tail_flat : (k : e.Trailer) (b c : Tree) (ts us : Children) → IsFlat b c → AreFlat ts us → IsFlat (tail b k ts) (tail c k us)
unfolding IsFlat AreFlat
tail_flat k b c ts us one all = ap (λ z. tail z k us) one ∙ ap (tail (flatten b) k) all

pub prefixes_flat : (k : e.Prefix) (ts us : Children) (t u : Tree) → AreFlat ts us → IsFlat t u → IsFlat (prefixed k ts t) (prefixed k us u)
unfolding IsFlat AreFlat
prefixes_flat k ts us t u all one = ap (λ z. prefixed k z u) all ∙ ap (prefixed k (flatten_children ts)) one

-- ---- lists

each_nil : {A : Type 0} (f : A → Tree) (xs ys : List A) → Each (λ x y. IsFlat (f x) (f y)) xs ys → is_nil (map f ys) ≡ is_nil (map f xs)
unfolding Each
each_nil f [] [] h = refl
each_nil f (x ∷ xs) (y ∷ ys) h = refl
each_nil f [] (y ∷ ys) h = absurd h
each_nil f (x ∷ xs) [] h = absurd h

elements_flat : {A : Type 0} (f : A → Tree) (xs ys : List A) (b : Bool) → Each (λ x y. IsFlat (f x) (f y)) xs ys
    → AreFlat (elements (map f xs) b) (elements (map f ys) b)
unfolding Each AreFlat
elements_flat f [] [] b h = none_flat
elements_flat f (x ∷ xs) (y ∷ ys) b h =
    ap (λ z. child e.element (ending_of z b) (f y) (elements (map f ys) b)) (each_nil f xs ys h.1)
    ∙ child_flat e.element (ending_of (is_nil (map f xs)) b) (f x) (f y) (elements (map f xs) b) (elements (map f ys) b) h.0 (elements_flat f xs ys b h.1)
elements_flat f [] (y ∷ ys) b h = absurd h
elements_flat f (x ∷ xs) [] b h = absurd h

pub list_flat : {A P : Type 0} (f : A → Tree) (x y : Punctuated A P) → Each (λ x y. IsFlat (f x) (f y)) (values x) (values y) → trails y ≡ trails x
    → AreFlat (elements (map f (values x)) (trails x)) (elements (map f (values y)) (trails y))
unfolding AreFlat
list_flat f x y h same = ap (elements (map f (values y))) same ∙ elements_flat f (values x) (values y) (trails x) h

-- ---- fields

fields_nil : {A : Type 0} (f : A → FieldView) (xs ys : List A) → Each (λ x y. IsFlatField (f x) (f y)) xs ys → is_nil (map f ys) ≡ is_nil (map f xs)
unfolding Each
fields_nil f [] [] h = refl
fields_nil f (x ∷ xs) (y ∷ ys) h = refl
fields_nil f [] (y ∷ ys) h = absurd h
fields_nil f (x ∷ xs) [] h = absurd h

fields_flat : {A : Type 0} (f : A → FieldView) (xs ys : List A) (b : Bool) (ts us : Children) → Each (λ x y. IsFlatField (f x) (f y)) xs ys → AreFlat ts us
    → AreFlat (fields (map f xs) b ts) (fields (map f ys) b us)
unfolding Each AreFlat
fields_flat f [] [] b ts us h more = more
fields_flat f (x ∷ xs) (y ∷ ys) b ts us h more =
    ap (λ z. child (e.field_value (f y).attrs (f y).member (f y).colon) (ending_of z b) (f y).value (fields (map f ys) b us)) (fields_nil f xs ys h.1)
    ∙ ap (λ z. child (e.field_value z (f y).member (f y).colon) (ending_of (is_nil (map f xs)) b) (f y).value (fields (map f ys) b us)) h.0.0
    ∙ ap (λ z. child (e.field_value (f x).attrs z (f y).colon) (ending_of (is_nil (map f xs)) b) (f y).value (fields (map f ys) b us)) h.0.1
    ∙ ap (λ z. child (e.field_value (f x).attrs (f x).member z) (ending_of (is_nil (map f xs)) b) (f y).value (fields (map f ys) b us)) h.0.2
    ∙ child_flat _ (ending_of (is_nil (map f xs)) b) (f x).value (f y).value (fields (map f xs) b ts) (fields (map f ys) b us) h.0.3 (fields_flat f xs ys b ts us h.1 more)
fields_flat f [] (y ∷ ys) b ts us h more = absurd h
fields_flat f (x ∷ xs) [] b ts us h more = absurd h

pub struct_flat : {A P : Type 0} (f : A → FieldView) (x y : Punctuated A P) (ts us : Children) → Each (λ x y. IsFlatField (f x) (f y)) (values x) (values y) → trails y ≡ trails x
    → AreFlat ts us → AreFlat (fields (map f (values x)) (trails x) ts) (fields (map f (values y)) (trails y) us)
unfolding AreFlat
struct_flat f x y ts us h same more = ap (λ b. fields (map f (values y)) b us) same ∙ fields_flat f (values x) (values y) (trails x) ts us h more

-- ---- operands that may be there

module _ {E : Type 0} (f : E → Tree) where
  abbrev pub IsFlatSome : Option (Box E Global) → Option (Box E Global) → Type 0
  IsFlatSome x y = Each (λ a b. IsFlat (f a) (f b)) (last_of x) (last_of y)

  pub option_flat : (k : Piece) (x y : Option (Box E Global)) → IsFlatSome x y → AreFlat (option_child k (boxed f x)) (option_child k (boxed f y))
  unfolding Each
  option_flat k None None h = none_flat
  option_flat k (Some x) (Some y) h = child_flat k e.no_ending (f x.value) (f y.value) none none h.0 none_flat
  option_flat k None (Some y) h = absurd h
  option_flat k (Some x) None h = absurd h

  pub same_some : (x y : Option (Box E Global)) → IsFlatSome x y → is_some (boxed f y) ≡ is_some (boxed f x)
  unfolding Each
  same_some None None h = refl
  same_some (Some x) (Some y) h = refl
  same_some None (Some y) h = absurd h
  same_some (Some x) None h = absurd h

  -- a struct expression whose rest, if it has one, was flattened
  pub same_rest : (q : QSelfTree) (p : PathTree) (dots : Bool) (x y : Option (Box E Global)) (ts us : Children) → IsFlatSome x y → AreFlat ts us
      → IsFlat (frame (e.structure q p (dots && not (is_some (boxed f x)))) ts) (frame (e.structure q p (dots && not (is_some (boxed f y)))) us)
  same_rest q p dots x y ts us h all =
      same_flat _ _ _ (ap (λ b. frame (e.structure q p (dots && not b)) us) (same_some x y h)) (frame_flat (e.structure q p (dots && not (is_some (boxed f x)))) ts us all)

  pub jump_plain : (j : Jump) (x : Option (Box E Global)) → is_plain (jump_with j (boxed f x)) ≡ true
  jump_plain j None = refl
  jump_plain j (Some x) = refl

  pub jump_flat : (j : Jump) (x y : Option (Box E Global)) → IsFlatSome x y → IsFlat (jump_with j (boxed f x)) (jump_with j (boxed f y))
  unfolding Each
  jump_flat j None None h = leaf_flat _
  jump_flat j (Some x) (Some y) h = prefix_flat _ _ _ h.0
  jump_flat j None (Some y) h = absurd h
  jump_flat j (Some x) None h = absurd h

  pub range_plain : (op : Limits) (x y : Option (Box E Global)) → is_plain (range_between op (boxed f x) (boxed f y)) ≡ true
  range_plain op None None = refl
  range_plain op None (Some y) = refl
  range_plain op (Some x) None = refl
  range_plain op (Some x) (Some y) = refl

  pub range_flat : (op : Limits) (x y t u : Option (Box E Global)) → IsFlatSome x t → IsFlatSome y u
      → IsFlat (range_between op (boxed f x) (boxed f y)) (range_between op (boxed f t) (boxed f u))
  unfolding Each
  range_flat op None None None None h k = leaf_flat _
  range_flat op None (Some y) None (Some u) h k = prefix_flat _ _ _ k.0
  range_flat op (Some x) None (Some t) None h k = postfix_flat _ _ _ h.0
  range_flat op (Some x) (Some y) (Some t) (Some u) h k = infix_flat _ _ _ _ _ h.0 k.0
  range_flat op None y (Some t) u h k = absurd h
  range_flat op (Some x) y None u h k = absurd h
  range_flat op x None t (Some u) h k = absurd k
  range_flat op x (Some y) t None h k = absurd k

-- ---- guards where none may stand

pub strays_flat : (gs hs : List Tree) (ts us : Children) → Each IsFlat gs hs → AreFlat ts us → AreFlat (strays gs ts) (strays hs us)
unfolding Each
strays_flat [] [] ts us h more = more
strays_flat (g ∷ gs) (k ∷ ks) ts us h more = child_flat e.stray e.no_ending g k (strays gs ts) (strays ks us) h.0 (strays_flat gs ks ts us h.1 more)
strays_flat [] (k ∷ ks) ts us h more = absurd h
strays_flat (g ∷ gs) [] ts us h more = absurd h

pub ruleset children = (none_flat, child_flat)

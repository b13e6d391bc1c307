-- What the pairs round attributed operations leave as it is.
use Rattle.std.proofs.Common.{◌≡◌, ℕ, Bool, true, false, not, List, [], ◌∷◌, refl, sym, ◌∙◌, ap}
use Rattle.std.proofs.Math.Bool.{and-false}
use Rattle.std.proofs.lemmas.Bool.{and_parts, not-true}
use Rattle.syn_lower_spec.specs.Pat.{an_index}
use Rattle.syn_expr_spec.specs.declared.kinds.Infix.{Infix}
use Rattle.syn_expr_spec.specs.Stands.{is_range, is_cast, compares, carries, is_base, fields_of}
use Rattle.syn_expr_spec.specs.Tree as e
use Rattle.syn_expr_spec.specs.Tree.{Tree, Children, Trailer, Piece, Ending, leaf, paren, attributed, prefixed, infixed, postfixed, tail, frame, none, child}
use Rattle.syn_expr_spec.specs.Rule.{is_operation, put}
use Rattle.syn_expr_spec.specs.Printed.{plainly_attributed, children_plainly, parenthesize_attributed, parenthesize_attributed_children}
use Rattle.syn_expr_spec.proofs.Obeys.{begins_label}

-- ---- where no operation has attributes

pub same_infix : (x x' y y' : Tree) (k : Infix) → x ≡ x' → y ≡ y' → infixed x k y ≡ infixed x' k y'
same_infix x x' y y' k p q = cc

pub same_tail : (b b' : Tree) (ks ks' : Children) (k : Trailer) → b ≡ b' → ks ≡ ks' → tail b k ks ≡ tail b' k ks'
same_tail b b' ks ks' k p q = cc

pub same_child : (t t' : Tree) (ks ks' : Children) (k : Piece) (c : Ending) → t ≡ t' → ks ≡ ks' → child k c t ks ≡ child k c t' ks'
same_child t t' ks ks' k c p q = cc

mutual
  pub plain_stays : (t : Tree) → plainly_attributed t ≡ true → parenthesize_attributed t ≡ t
  plain_stays (leaf k) h = refl
  plain_stays (paren m t) h = ap (paren m) (plain_stays t h)
  plain_stays (attributed a more t) h =
      let (i, j) = and_parts (not (is_operation t)) _ h in
      ap (λ b. attributed a more (put b (parenthesize_attributed t) (parenthesize_attributed t))) (not-true _ i) ∙ ap (attributed a more) (plain_stays t j)
  plain_stays (prefixed k gs t) h = ap (prefixed k gs) (plain_stays t (and_parts (children_plainly gs) _ h).1)
  plain_stays (infixed x k y) h = let (i, j) = and_parts (plainly_attributed x) _ h in same_infix _ _ _ _ k (plain_stays x i) (plain_stays y j)
  plain_stays (postfixed x k) h = ap (λ z. postfixed z k) (plain_stays x h)
  plain_stays (tail b k ks) h = let (i, j) = and_parts (plainly_attributed b) _ h in same_tail _ _ _ _ k (plain_stays b i) (plain_stays_children ks j)
  plain_stays (frame k ks) h = ap (frame k) (plain_stays_children ks h)

  plain_stays_children : (ks : Children) → children_plainly ks ≡ true → parenthesize_attributed_children ks ≡ ks
  plain_stays_children none h = refl
  plain_stays_children (child k c t ks) h = let (i, j) = and_parts (plainly_attributed t) _ h in same_child _ _ _ _ k c (plain_stays t i) (plain_stays_children ks j)

-- ---- kinds of nodes

pub operation_stays : (t : Tree) → is_operation (parenthesize_attributed t) ≡ is_operation t
operation_stays (leaf k) = refl
operation_stays _ = refl

pub compares_stays : (t : Tree) → compares (parenthesize_attributed t) ≡ compares t
compares_stays (leaf k) = refl
compares_stays _ = refl

pub cast_stays : (t : Tree) → is_cast (parenthesize_attributed t) ≡ is_cast t
cast_stays (postfixed x (e.cast y)) = refl
cast_stays _ = refl

pub label_stays : (t : Tree) → begins_label (parenthesize_attributed t) ≡ begins_label t
label_stays (infixed x k y) = label_stays x
label_stays (postfixed x k) = label_stays x
label_stays (tail b k ks) = label_stays b
label_stays _ = refl

pub base_stays : (k : Trailer) (b : Tree) → is_base k (parenthesize_attributed b) ≡ is_base k b
base_stays k (attributed a more t) = and-false (carries (put (is_operation t) (parenthesize_attributed t) (parenthesize_attributed t))) ∙ sym (and-false (carries t))
base_stays k (tail b e.call ks) = refl
base_stays k _ = refl

pub no_range : (t : Tree) → is_range t ≡ false → is_range (parenthesize_attributed t) ≡ false
no_range (paren m t) h = refl
no_range (attributed a more t) h = go (is_operation t) (no_range t h)
  where
    go : (b : Bool) → is_range (parenthesize_attributed t) ≡ false → is_range (put b (parenthesize_attributed t) (parenthesize_attributed t)) ≡ false
    go true i = refl
    go false i = i
no_range (tail b k ks) h = refl
no_range (frame k ks) h = refl
no_range _ h = h

pub fields_stay : (is : List ℕ) (b : Tree) → parenthesize_attributed (fields_of b is) ≡ fields_of (parenthesize_attributed b) is
fields_stay [] b = refl
fields_stay (i ∷ is) b = fields_stay is (tail b (e.field (an_index i)) none)

-- What comes before and after the first operand of a node, by its kind.
use Rattle.std.specs.Prelude.{Option, Some, is_some, Result}
use Rattle.std.proofs.Common.{◌≡◌, Bool, true, false, List, [], ◌++◌, OnOk, refl, sym, ap, ◌∙◌, subst, append_assoc}
use Rattle.syn_tokens.specs.Tok.{Tok}
use Rattle.syn_lower_spec.specs.Tree.{AttributeTree}
use Rattle.syn_lower_leaves.specs.View.{mapped}
use Rattle.syn_expr_spec.specs.declared.kinds.Infix.{Infix}
use Rattle.syn_expr_spec.specs.declared.next.Context.{Context}
use Rattle.syn_expr_spec.specs.declared.summary.Summary.{Summary}
use Rattle.syn_expr_spec.specs.Op.{level}
use Rattle.syn_expr_spec.specs.Next.{left_context, right_context, base_context}
use Rattle.syn_expr_spec.specs.Summaries.{summary_of, stack, children_below, place_by, left_by, base_by}
use Rattle.syn_expr_spec.specs.Tree.{Tree, Children, Postfix, Trailer, leaf, paren, attributed, prefixed, infixed, postfixed, tail, frame, none, child, infix_own, postfix_own, postfix_op, trailer_own}
use Rattle.syn_expr_ast.specs.Label.{kind_at, postfix_kind, trailer_kind}
use Rattle.syn_expr_ast.specs.Label as label
use Rattle.syn_expr_ast.specs.declared.label.NodeKind.{NodeKind}
use Rattle.syn_expr_ast.specs.declared.label.NodeKind.TheVariants as kind
use Rattle.syn_expr_ast.specs.declared.label.PostfixKind.{PostfixKind}
use Rattle.syn_expr_ast.specs.declared.label.TrailerKind.{TrailerKind}
use Rattle.syn_expr_ast.specs.Node.{operands_at, based_by, operator_at, postfix_at, trailer_at, operand_children, first_of, second_of}
use Rattle.syn_expr_ast.proofs.Borrowed.{first-based, children-based}
use Rattle.syn_expr_fixup.specs.Spine.{behind_below}
use Rattle.syn_expr_print.specs.Printing.{spelled_in, children_spelled}
use Rattle.syn_expr_print.specs.Spine.{begins, first_place, first_wrapped, behind_spelled}
use Rattle.syn_expr_print.proofs.Borrowed.{infixed-operator, postfixed-operator}
use Rattle.syn_expr_print.proofs.Borrowing.{borrowed-at, on-map}

-- ---- what holds of the nodes of a kind, and after attributes of them

by_infix : (P : Tree → Type 0) (q : Infix) → ((x y : Tree) → P (infixed x q y)) → ((a : AttributeTree) (more : List AttributeTree) (t : Tree) → P t → P (attributed a more t)) → (t : Tree) → kind_at t ≡ kind.Infix q → P t
by_infix P q f g (infixed x k y) h = let e : q ≡ k = cc in subst (λ k. P (infixed x k y)) e (f x y)
by_infix P q f g (attributed a more t) h = g a more t (by_infix P q f g t h)
by_infix P q f g (leaf k) h = absurd cc
by_infix P q f g (paren m t) h = absurd cc
by_infix P q f g (prefixed k gs t) h = absurd cc
by_infix P q f g (postfixed x k) h = absurd cc
by_infix P q f g (tail b k ks) h = absurd cc
by_infix P q f g (frame k ks) h = absurd cc

by_postfix : (P : Tree → Type 0) (q : PostfixKind) → ((x : Tree) (k : Postfix) → postfix_kind k ≡ q → P (postfixed x k)) → ((a : AttributeTree) (more : List AttributeTree) (t : Tree) → P t → P (attributed a more t)) → (t : Tree) → kind_at t ≡ kind.Postfix q → P t
by_postfix P q f g (postfixed x k) h = f x k (cc)
by_postfix P q f g (attributed a more t) h = g a more t (by_postfix P q f g t h)
by_postfix P q f g (leaf k) h = absurd cc
by_postfix P q f g (paren m t) h = absurd cc
by_postfix P q f g (prefixed k gs t) h = absurd cc
by_postfix P q f g (infixed x k y) h = absurd cc
by_postfix P q f g (tail b k ks) h = absurd cc
by_postfix P q f g (frame k ks) h = absurd cc

by_tail : (P : Tree → Type 0) (q : TrailerKind) → ((b : Tree) (k : Trailer) (ks : Children) → trailer_kind k ≡ q → P (tail b k ks)) → ((a : AttributeTree) (more : List AttributeTree) (t : Tree) → P t → P (attributed a more t)) → (t : Tree) → kind_at t ≡ kind.Tail q → P t
by_tail P q f g (tail b k ks) h = f b k ks (cc)
by_tail P q f g (attributed a more t) h = g a more t (by_tail P q f g t h)
by_tail P q f g (leaf k) h = absurd cc
by_tail P q f g (paren m t) h = absurd cc
by_tail P q f g (prefixed k gs t) h = absurd cc
by_tail P q f g (infixed x k y) h = absurd cc
by_tail P q f g (postfixed x k) h = absurd cc
by_tail P q f g (frame k ks) h = absurd cc

pub none_begins : (k : NodeKind) → ((op : Infix) → k ≡ kind.Infix op → ⊥) → ((q : PostfixKind) → k ≡ kind.Postfix q → ⊥) → ((q : TrailerKind) → k ≡ kind.Tail q → ⊥) → begins k ≡ false
none_begins (kind.Infix op) a b c = absurd (a op refl)
none_begins (kind.Postfix q) a b c = absurd (b q refl)
none_begins (kind.Tail q) a b c = absurd (c q refl)
none_begins (kind.Leaf q) a b c = refl
none_begins kind.Paren a b c = refl
none_begins (kind.Prefix q) a b c = refl
none_begins (kind.Frame q) a b c = refl

-- ---- its first operand

pub begins_first : (t : Tree) → begins (kind_at t) ≡ true → is_some (first_of (operands_at t)) ≡ true
begins_first (infixed x k y) h = refl
begins_first (postfixed x k) h = refl
begins_first (tail b k ks) h = ap is_some (first-based b ks)
begins_first (attributed a more t) h = begins_first t h
begins_first (leaf k) h = absurd cc
begins_first (paren m t) h = absurd cc
begins_first (prefixed k gs t) h = absurd cc
begins_first (frame k ks) h = absurd cc

-- where it is

pub place_infix : (t : Tree) (q : Infix) (c : Context) → kind_at t ≡ kind.Infix q → left_context q c ≡ first_place t c
place_infix t q c h = by_infix (λ t. left_context q c ≡ first_place t c) q (λ x y. refl) (λ a more t p. p) t h

postfix_op_is : (x : Tree) (k : Postfix) (q : PostfixKind) → postfix_kind k ≡ q → label.postfix_op q ≡ postfix_op k
postfix_op_is x k q h = postfixed-operator (postfixed x k) k q (ap (λ z. kind.Postfix z) h) refl

pub place_postfix : (t : Tree) (q : PostfixKind) (c : Context) → kind_at t ≡ kind.Postfix q → left_context (label.postfix_op q) c ≡ first_place t c
place_postfix t q c h = by_postfix (λ t. left_context (label.postfix_op q) c ≡ first_place t c) q (λ x k i. ap (λ z. left_context z c) (postfix_op_is x k q i)) (λ a more t p. p) t h

pub place_tail : (t : Tree) (q : TrailerKind) (c r : Context) → kind_at t ≡ kind.Tail q → ((k : Trailer) → trailer_kind k ≡ q → r ≡ base_context k c) → r ≡ first_place t c
place_tail t q c r h f = by_tail (λ t. r ≡ first_place t c) q (λ b k ks i. f k i) (λ a more t p. p) t h

pub place_other : (t : Tree) (c : Context) → begins (kind_at t) ≡ false → c ≡ first_place t c
place_other (leaf k) c h = refl
place_other (paren m t) c h = refl
place_other (prefixed k gs t) c h = refl
place_other (frame k ks) c h = refl
place_other (attributed a more t) c h = place_other t c h
place_other (infixed x k y) c h = absurd cc
place_other (postfixed x k) c h = absurd cc
place_other (tail b k ks) c h = absurd cc

-- whether it is wrapped there

pub wrapped_infix : (t : Tree) (q : Infix) (p : Context) (n : Summary) → kind_at t ≡ kind.Infix q → left_by q p n ≡ first_wrapped t p n
wrapped_infix t q p n h = by_infix (λ t. left_by q p n ≡ first_wrapped t p n) q (λ x y. refl) (λ a more t i. i) t h

pub wrapped_postfix : (t : Tree) (q : PostfixKind) (p : Context) (n : Summary) → kind_at t ≡ kind.Postfix q → left_by (label.postfix_op q) p n ≡ first_wrapped t p n
wrapped_postfix t q p n h = by_postfix (λ t. left_by (label.postfix_op q) p n ≡ first_wrapped t p n) q (λ x k i. ap (λ z. left_by z p n) (postfix_op_is x k q i)) (λ a more t i. i) t h

pub wrapped_tail : (t : Tree) (q : TrailerKind) (p : Context) (n : Summary) (r : Bool) → kind_at t ≡ kind.Tail q → ((k : Trailer) → trailer_kind k ≡ q → r ≡ base_by k p n) → r ≡ first_wrapped t p n
wrapped_tail t q p n r h f = by_tail (λ t. r ≡ first_wrapped t p n) q (λ b k ks i. f k i) (λ a more t i. i) t h

pub wrapped_other : (t : Tree) (p : Context) (n : Summary) → begins (kind_at t) ≡ false → false ≡ first_wrapped t p n
wrapped_other (leaf k) p n h = refl
wrapped_other (paren m t) p n h = refl
wrapped_other (prefixed k gs t) p n h = refl
wrapped_other (frame k ks) p n h = refl
wrapped_other (attributed a more t) p n h = wrapped_other t p n h
wrapped_other (infixed x k y) p n h = absurd cc
wrapped_other (postfixed x k) p n h = absurd cc
wrapped_other (tail b k ks) p n h = absurd cc

-- ---- what comes after it

pub below_infix : (t v : Tree) (q : Infix) → kind_at t ≡ kind.Infix q → second_of (operands_at t) ≡ Some v → behind_below (operands_at t) ≡ stack v
below_infix t v q h = by_infix (λ t. second_of (operands_at t) ≡ Some v → behind_below (operands_at t) ≡ stack v) q (λ x y s. let i : y ≡ v = cc in ap stack i) (λ a more t p. p) t h

pub below_postfix : (t : Tree) (q : PostfixKind) → kind_at t ≡ kind.Postfix q → behind_below (operands_at t) ≡ []
below_postfix t q h = by_postfix (λ t. behind_below (operands_at t) ≡ []) q (λ x k i. refl) (λ a more t p. p) t h

based_behind : (b : Tree) (ks : Children) → behind_below (based_by b ks) ≡ children_below (operand_children (based_by b ks))
based_behind b none = refl
based_behind b (child k c t ks) = refl

pub below_tail : (t : Tree) (q : TrailerKind) → kind_at t ≡ kind.Tail q → behind_below (operands_at t) ≡ children_below (operand_children (operands_at t))
below_tail t q h = by_tail (λ t. behind_below (operands_at t) ≡ children_below (operand_children (operands_at t))) q (λ b k ks i. based_behind b ks) (λ a more t p. p) t h

behind_infix : (c : Context) (t v : Tree) (q : Infix) → kind_at t ≡ kind.Infix q → second_of (operands_at t) ≡ Some v
    → behind_spelled c t ≡ infix_own q [] ++ spelled_in (place_by (level q) (right_context q c) (summary_of v)) (right_context q c) v
behind_infix c t v q h =
    let z = λ (y : Tree). infix_own q [] ++ spelled_in (place_by (level q) (right_context q c) (summary_of y)) (right_context q c) y in
    by_infix (λ t. second_of (operands_at t) ≡ Some v → behind_spelled c t ≡ z v) q (λ x y s. let i : y ≡ v = cc in ap z i) (λ a more t p. p) t h

behind_postfix : (c : Context) (t : Tree) (p : Postfix) (q : PostfixKind) → kind_at t ≡ kind.Postfix q → postfix_at t ≡ Some p → behind_spelled c t ≡ postfix_own p []
behind_postfix c t p q h = by_postfix (λ t. postfix_at t ≡ Some p → behind_spelled c t ≡ postfix_own p []) q (λ x k i s. let j : k ≡ p = cc in ap (λ z. postfix_own z []) j) (λ a more t i. i) t h

behind_tail : (c : Context) (t : Tree) (p : Trailer) (q : TrailerKind) → kind_at t ≡ kind.Tail q → trailer_at t ≡ Some p → behind_spelled c t ≡ trailer_own p (children_spelled false (operand_children (operands_at t))) []
behind_tail c t p q h =
    by_tail (λ t. trailer_at t ≡ Some p → behind_spelled c t ≡ trailer_own p (children_spelled false (operand_children (operands_at t))) []) q
    (λ b k ks i s. let j : k ≡ p = cc in ap (λ z. trailer_own z (children_spelled false ks) []) j ∙ ap (λ z. trailer_own p (children_spelled false z) []) (sym (children-based b ks)))
    (λ a more t i. i) t h

-- by what is lent of the node

pub infix_written : {A U X : Type 0} (r : Result U X) (f : A → Infix) (o : Option A) (l : A) (q : Infix) (c : Context) (t v : Tree) (t0 t1 t2 : List Tok)
    → kind_at t ≡ kind.Infix q → mapped f o ≡ operator_at t → o ≡ Some l → second_of (operands_at t) ≡ Some v → t1 ≡ t0 ++ infix_own (f l) []
    → OnOk r (t2 ≡ t1 ++ spelled_in (place_by (level q) (right_context q c) (summary_of v)) (right_context q c) v)
    → OnOk r (t2 ≡ t0 ++ behind_spelled c t)
infix_written r f o l q c t v t0 t1 t2 h m s w p g =
    let a : Some (f l) ≡ Some q = sym (borrowed-at f o l (operator_at t) m s) ∙ infixed-operator t q h in
    let same : f l ≡ q = cc in
    let z = spelled_in (place_by (level q) (right_context q c) (summary_of v)) (right_context q c) v in
    on-map r g (λ j. j ∙ ap (λ i. i ++ z) (p ∙ ap (λ i. t0 ++ infix_own i []) same) ∙ append_assoc t0 (infix_own q []) z ∙ ap (λ i. t0 ++ i) (sym (behind_infix c t v q h w)))

pub postfix_written : {A U X : Type 0} (r : Result U X) (f : A → Postfix) (o : Option A) (l : A) (q : PostfixKind) (c : Context) (t : Tree) (t0 t1 : List Tok)
    → kind_at t ≡ kind.Postfix q → mapped f o ≡ postfix_at t → o ≡ Some l → OnOk r (t1 ≡ t0 ++ postfix_own (f l) []) → OnOk r (t1 ≡ t0 ++ behind_spelled c t)
postfix_written r f o l q c t t0 t1 h m s g = on-map r g (λ j. j ∙ ap (λ i. t0 ++ i) (sym (behind_postfix c t (f l) q h (borrowed-at f o l (postfix_at t) m s))))

pub tail_written : {A U X : Type 0} (r : Result U X) (f : A → Trailer) (o : Option A) (l : A) (q : TrailerKind) (c : Context) (t : Tree) (t0 t1 held : List Tok)
    → kind_at t ≡ kind.Tail q → mapped f o ≡ trailer_at t → o ≡ Some l → held ≡ children_spelled false (operand_children (operands_at t)) → OnOk r (t1 ≡ t0 ++ trailer_own (f l) held []) → OnOk r (t1 ≡ t0 ++ behind_spelled c t)
tail_written r f o l q c t t0 t1 held h m s k g =
    on-map r g (λ j. j ∙ ap (λ i. t0 ++ trailer_own (f l) i []) k ∙ ap (λ i. t0 ++ i) (sym (behind_tail c t (f l) q h (borrowed-at f o l (trailer_at t) m s))))

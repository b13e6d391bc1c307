-- A node has the parts that its kind says, as `a + b` has an operator between two operands; and its operands are smaller.
use Rattle.std.specs.Prelude.{Option, Some, None, is_some, Result, Ok, Err}
use Rattle.std.proofs.Common.{◌≡◌, ℕ, ◌+◌, ◌<◌, true, List, [], ◌++◌, OnOk, subst, refl, sym, ap, ◌∙◌, arith}
use Rattle.syn_lexer.specs.declared.front.Delimiter.TheVariants as del
use Rattle.syn_tokens.specs.Tok.{Tok}
use Rattle.syn_lower_spec.specs.Own as own_parts
use Rattle.syn_expr_spec.specs.declared.kinds.Infix.{Infix}
use Rattle.syn_expr_spec.specs.declared.next.Context.{Context}
use Rattle.syn_expr_spec.specs.Next.{enclosed}
use Rattle.syn_expr_spec.specs.Summaries.{stack, below}
use Rattle.syn_expr_spec.specs.Tree as e
use Rattle.syn_expr_spec.specs.Tree.{Tree, leaf_own, size, children_size}
use Rattle.syn_expr_ast.specs.Label.{kind_at}
use Rattle.syn_expr_ast.specs.declared.label.NodeKind.TheVariants as kind
use Rattle.syn_expr_ast.specs.declared.label.LeafKind.{LeafKind}
use Rattle.syn_expr_ast.specs.declared.label.PrefixKind.{PrefixKind}
use Rattle.syn_expr_ast.specs.declared.label.PostfixKind.{PostfixKind}
use Rattle.syn_expr_ast.specs.declared.label.TrailerKind.{TrailerKind}
use Rattle.syn_expr_ast.specs.declared.label.FrameKind.{FrameKind}
use Rattle.syn_expr_ast.specs.Node.{operands_at, leaf_at, is_paren, prefix_at, operator_at, postfix_at, trailer_at, frame_at, operand_children, first_of, second_of}
use Rattle.syn_lower_leaves.specs.View.{mapped}
use Rattle.syn_expr_print.specs.declared.print.Summaries.{Summaries}
use Rattle.syn_expr_print.specs.Printing.{spelled, core, IsBorrowed}
use Rattle.syn_expr_print.specs.Taken.{Taken}
use Rattle.syn_expr_ast.proofs.Sizes.{first-smaller, second-smaller, children-smaller}
use Rattle.syn_expr_print.proofs.Borrowed.{leaf-there, leaf-text, leaf-below, is-paren, paren-first, paren-text, paren-below, prefixed-there, prefixed-first, prefixed-below, infixed-operator, infixed-second, postfixed-there, tail-there, frame-there}
use Rattle.syn_expr_print.proofs.Stacks.{taken-none}

there : {A : Type 0} (o : Option A) → (o ≡ None → ⊥) → is_some o ≡ true
there (Some a) h = refl
there None h = absurd (h refl)

borrowed : {A B : Type 0} (f : A → B) (o : Option A) (x : Option B) → mapped f o ≡ x → (x ≡ None → ⊥) → is_some o ≡ true
borrowed f (Some a) x e h = refl
borrowed f None x e h = absurd (h (sym e))

-- ---- borrowed parts

pub leaf-some : {A : Type 0} (f : A → e.Leaf) (o : Option A) (t : Tree) (q : LeafKind) → kind_at t ≡ kind.Leaf q → mapped f o ≡ leaf_at t → is_some o ≡ true
leaf-some f o t q h m = borrowed f o (leaf_at t) m (leaf-there t q h)

pub paren-some : {A : Type 0} (o : Option A) (t : Tree) → kind_at t ≡ kind.Paren → is_some o ≡ is_paren t → is_some o ≡ true
paren-some o t h m = m ∙ is-paren t h

pub prefixed-some : {A : Type 0} (f : A → e.Prefix × List Tree) (o : Option A) (t : Tree) (q : PrefixKind) → kind_at t ≡ kind.Prefix q → mapped f o ≡ prefix_at t → is_some o ≡ true
prefixed-some f o t q h m = borrowed f o (prefix_at t) m (prefixed-there t q h)

pub operator-some : {A : Type 0} (f : A → Infix) (o : Option A) (t : Tree) (q : Infix) → kind_at t ≡ kind.Infix q → mapped f o ≡ operator_at t → is_some o ≡ true
operator-some f o t q h m = borrowed f o (operator_at t) m (λ n. absurd (none q (sym (infixed-operator t q h) ∙ n)))
  where
    none : (p : Infix) → Some p ≡ None → ⊥
    none p s = absurd cc

pub postfixed-some : {A : Type 0} (f : A → e.Postfix) (o : Option A) (t : Tree) (q : PostfixKind) → kind_at t ≡ kind.Postfix q → mapped f o ≡ postfix_at t → is_some o ≡ true
postfixed-some f o t q h m = borrowed f o (postfix_at t) m (postfixed-there t q h)

pub trailer-some : {A : Type 0} (f : A → e.Trailer) (o : Option A) (t : Tree) (q : TrailerKind) → kind_at t ≡ kind.Tail q → mapped f o ≡ trailer_at t → is_some o ≡ true
trailer-some f o t q h m = borrowed f o (trailer_at t) m (tail-there t q h)

pub frame-some : (t : Tree) (q : FrameKind) → kind_at t ≡ kind.Frame q → is_some (frame_at t) ≡ true
frame-some t q h = there (frame_at t) (frame-there t q h)

-- ---- operands

pub paren-operand : (t : Tree) → kind_at t ≡ kind.Paren → is_some (first_of (operands_at t)) ≡ true
paren-operand t h = there (first_of (operands_at t)) (paren-first t h)

pub prefixed-operand : (t : Tree) (q : PrefixKind) → kind_at t ≡ kind.Prefix q → is_some (first_of (operands_at t)) ≡ true
prefixed-operand t q h = there (first_of (operands_at t)) (prefixed-first t q h)

pub right-operand : (t : Tree) (q : Infix) → kind_at t ≡ kind.Infix q → is_some (second_of (operands_at t)) ≡ true
right-operand t q h = there (second_of (operands_at t)) (infixed-second t q h)

-- ---- sizes

pub less-first : (t u : Tree) (n : ℕ) → first_of (operands_at t) ≡ Some u → n < size u + 1 → n < size t
less-first t u n h l = let s = first-smaller t u h in omega arith

pub less-second : (t u : Tree) (n : ℕ) → second_of (operands_at t) ≡ Some u → n < size u + 1 → n < size t
less-second t u n h l = let s = second-smaller t u h in omega arith

pub less-children : (t : Tree) (n : ℕ) → n < children_size (operand_children (operands_at t)) + 1 → n < size t
less-children t n l = let s = children-smaller t in omega arith

-- what holds where the last step is not refused
pub on-map : {U X : Type 0} {A B : Type 0} (r : Result U X) → OnOk r A → (A → B) → OnOk r B
on-map (Ok x) h f = f h
on-map (Err x) h f = h

-- ---- the tokens of the borrowed parts, one part after the other

pub borrowed-at : {A B : Type 0} (f : A → B) (o : Option A) (l : A) (x : Option B) → mapped f o ≡ x → o ≡ Some l → x ≡ Some (f l)
borrowed-at f o l x m e = sym m ∙ ap (mapped f) e

pub leaf-written : {A : Type 0} (f : A → e.Leaf) (o : Option A) (l : A) (c : Context) (t : Tree) (t0 t1 : List Tok)
    → IsBorrowed t → mapped f o ≡ leaf_at t → o ≡ Some l → t1 ≡ t0 ++ leaf_own (f l) [] → t1 ≡ t0 ++ spelled c (core t)
leaf-written f o l c t t0 t1 n m s p = p ∙ ap (λ z. t0 ++ z) (sym (leaf-text c t (f l) n (borrowed-at f o l (leaf_at t) m s)))

pub leaf-none : {A : Type 0} (f : A → e.Leaf) (o : Option A) (l : A) (t : Tree) → IsBorrowed t → mapped f o ≡ leaf_at t → o ≡ Some l → below t ≡ []
leaf-none f o l t n m s = leaf-below t (f l) n (borrowed-at f o l (leaf_at t) m s)

pub leaf-taken : (a : Summaries) (t : Tree) → below t ≡ [] → Taken a a (below t)
leaf-taken a t h = subst (λ l. Taken a a l) (sym h) (taken-none a)

pub paren-written : (c : Context) (t u : Tree) (t0 t1 : List Tok) → IsBorrowed t → kind_at t ≡ kind.Paren → first_of (operands_at t) ≡ Some u
    → t1 ≡ t0 ++ own_parts.enclosed del.Parenthesis (spelled enclosed u) [] → t1 ≡ t0 ++ spelled c (core t)
paren-written c t u t0 t1 n h o p = p ∙ ap (λ z. t0 ++ z) (sym (paren-text c t u n h o))

-- ---- what is below, by the kind

pub prefixed-stack : (t u : Tree) (q : PrefixKind) → IsBorrowed t → kind_at t ≡ kind.Prefix q → first_of (operands_at t) ≡ Some u → below t ≡ stack u
prefixed-stack t u q n h o = by (prefix_at t) refl
  where
    by : (x : Option (e.Prefix × List Tree)) → prefix_at t ≡ x → below t ≡ stack u
    by (Some p) a = prefixed-below t p u n a o
    by None a = absurd (prefixed-there t q h a)

pub ruleset leaf_ends = (leaf-some, leaf-written, leaf-none)

pub ruleset paren_ends = (paren-some, paren-operand, less-first, paren-written, paren-below)

pub ruleset prefix_ends = (prefixed-some, prefixed-operand, less-first, prefixed-stack)

pub ruleset infix_ends = (operator-some, right-operand, less-second)

pub ruleset postfix_ends = (postfixed-some)

pub ruleset tail_ends = (trailer-some, less-children)

pub ruleset shapes = (frame-some, leaf-taken)

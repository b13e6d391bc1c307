-- Attributes before an operand, as they are read.
use Rattle.std.proofs.Common.{◌≡◌, Bool, true, false, cond, List, [], ◌∷◌, ◌++◌, Option, Some, None, refl, sym, subst, not}
use Rattle.syn_tokens.specs.Tok.{Tok}
use Rattle.syn_lower_spec.specs.Form.{more, fix, iterate, is_nil}
use Rattle.syn_lower_spec.specs.Tree.{AttributeTree}
use Rattle.syn_lower_spec.specs.Mark.{pound}
use Rattle.syn_lower_spec.specs.Part.{outer_attributes}
use Rattle.syn_lower_spec.proofs.Same.{same_toks-refl}
use Rattle.syn_expr_spec.specs.declared.kinds.Place.{Place}
use Rattle.syn_expr_spec.specs.Tree as tr
use Rattle.syn_expr_spec.specs.Tree.{Tree, attributed_with, leaf}
use Rattle.syn_expr_spec.specs.Stands.{is_attributed, is_verbatim, takes_attributes}
use Rattle.syn_expr_spec.specs.Read.{attributed_by, read_attributed, before, verbatim_of}
use Rattle.syn_expr_parse.specs.Operators.{outer_operand, with_outer}
use Rattle.syn_expr_spec.proofs.Needs.{heads}
use Rattle.syn_expr_spec.proofs.HeadMoves.{taken_is}
use Rattle.syn_expr_ast.proofs.Outers.{outers_are}
use Rattle.syn_expr_ast.specs.Node.{attributes_at}
use Rattle.syn_lower_leaves.proofs.ReadingAttributes.{outer_tail}

-- ---- where `#` is there is one

none_there : (l m : List Tok) → pound.at l ≡ true → outer_attributes.behind [] l ≡ Some m → ⊥
unfolding outer_attributes more fix iterate
none_there l m g h = by_test (pound.at l) g h
  where
    by_test : (b : Bool) → b ≡ true → cond b (cond b None None) (Some l) ≡ Some m → ⊥
    by_test true g h = absurd cc
    by_test false g h = absurd cc

known_attributed : (p : Place) (l m n fs : List Tok) (a : AttributeTree) (more : List AttributeTree) (x : Tree) (o : Option (List Tok)) → l ≡ fs ++ m
    → attributed_by p l m a more x o n ≡ before (with_outer p fs (a ∷ more) x o) (λ y. y) n
known_attributed p l m n fs a more x None i = by_test (takes_attributes p x)
  where
    by_test : (b : Bool) → cond b (Some (tr.attributed a more x, n)) None ≡ before (cond b (Some (tr.attributed a more x)) None) (λ y. y) n
    by_test true = refl
    by_test false = refl
known_attributed p l m n fs a more x (Some ts) i =
    subst (λ z. attributed_by p z m a more x (Some ts) n ≡ Some (leaf (tr.verbatim (fs ++ ts)), n)) (sym i) (rw (taken_is fs m, same_toks-refl (fs ++ m)) refl)

-- an operand with the attributes that were read before it
pub outer_is : (p : Place) (l m n fs : List Tok) (ats : List AttributeTree) (x : Tree) → pound.at l ≡ true → outer_attributes.reads l ≡ Some (ats, m) → l ≡ fs ++ m
    → read_attributed p l m ats x n ≡ outer_operand p fs ats x n
outer_is p l m n fs [] x g h i = absurd (none_there l m g (heads.outers.sound l [] m h))
outer_is p l m n fs (a ∷ more) x g h i = known_attributed p l m n fs a more x (verbatim_of x) i

no_verbatim : (x : Tree) → is_verbatim x ≡ false → verbatim_of x ≡ None
no_verbatim (leaf (tr.verbatim ts)) h = absurd cc
no_verbatim (leaf _) h = refl
no_verbatim _ h = refl

pub outer_tree : (p : Place) (fs n : List Tok) (ats : List AttributeTree) (x : Tree) → is_verbatim x ≡ false → takes_attributes p x ≡ true → outer_operand p fs ats x n ≡ Some (attributed_with ats x, n)
outer_tree p fs n ats x v h = rw (no_verbatim x v, h) refl

pub outer_refused : (p : Place) (fs n : List Tok) (ats : List AttributeTree) (x : Tree) → is_verbatim x ≡ false → takes_attributes p x ≡ false → outer_operand p fs ats x n ≡ None
outer_refused p fs n ats x v h = rw (no_verbatim x v, h) refl

pub attributed-not : (p : Place) (x : Tree) → takes_attributes p x ≡ true → is_attributed x ≡ false
attributed-not p (tr.attributed a more x) h = absurd cc
attributed-not p _ h = refl

pub ruleset attributes = (outer_tail, outers_are, outer_is)

pub ruleset outers = (outer_tree, outer_refused, attributed-not)

-- ---- whether attributes come before a node can be seen from those that it lends

pub by_attributes : (t : Tree) → is_attributed t ≡ not (is_nil (attributes_at t))
by_attributes (tr.attributed a more t) = refl
by_attributes _ = refl

pub ruleset attributed = (by_attributes)

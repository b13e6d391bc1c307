-- The reading of operators, trailers and attributes, in its parts.
use Rattle.std.specs.Prelude.{suc, List, ◌++◌, Option, Some, None, Bool, true, ◌==◌, ◌&&◌, if◌then◌else◌, is_some, [], ◌∷◌}
use Rattle.syn_tokens.specs.Tok.{Tok, weight, punct}
use Rattle.syn_lower_spec.specs.Tree.{AttributeTree}
use Rattle.syn_expr_spec.specs.declared.kinds.Infix.{Infix}
use Rattle.syn_expr_spec.specs.declared.kinds.Place.{Place}
use Rattle.syn_expr_spec.specs.Place.{at}
use Rattle.syn_expr_spec.specs.Op.{level}
use Rattle.syn_expr_spec.specs.Tree.{Tree, leaf, verbatim, attributed_with, prefixed, unary, none}
use Rattle.syn_expr_spec.specs.Stands.{takes_attributes}
use Rattle.syn_expr_spec.specs.Read.{Reading, ◌>>=◌, operation, only_if, before, verbatim_of, climb, trail, expr}
use Rattle.syn_lower_spec.specs.Form.{and_then}
use Rattle.syn_expr_spec.specs.declared.kinds.UnKind.{UnKind}
use Rattle.syn_expr_spec.specs.declared.kinds.UnKind.TheVariants as un

-- the right operand of an operator
abbrev pub right_operand : Place → Infix → Reading Tree
right_operand p op = expr (at p (level op)) >>= operation op

-- the operations after a left operand, as many as there are
unfoldable pub operations : Place → Tree → Reading Tree
operations p x l = climb expr p (suc (weight l)) x l

-- the trailers after a base, as many as there are
unfoldable pub trailers : Place → Tree → Reading Tree
trailers p b l = trail expr p (suc (weight l)) b l

-- an operand with the attributes before it, of which these are the tokens
abbrev pub with_outer : Place → List Tok → List AttributeTree → Tree → Option (List Tok) → Option Tree
with_outer p fs ats x None = only_if (takes_attributes p x) (Some (attributed_with ats x))
with_outer p fs ats x (Some ts) = Some (leaf (verbatim (fs ++ ts)))

-- it, as it is read before a list
abbrev pub outer_operand : Place → List Tok → List AttributeTree → Tree → Reading Tree
outer_operand p fs ats x = before (with_outer p fs ats x (verbatim_of x)) (λ y. y)

-- ---- prefix operators, one after the other, and what is read of an operand after them

-- the operator that a token is, joined to the next or not
unfoldable pub operator_of : Tok → Option UnKind
operator_of (punct c s) = if c == 42 then Some un.Deref else (if c == 33 then Some un.Not else (if c == 45 then Some un.Neg else None))
operator_of _ = None

-- the one that comes first
abbrev pub operator_at : List Tok → Option UnKind
operator_at [] = None
operator_at (t ∷ l) = operator_of t

-- each of them is one
abbrev pub are_operators : List Tok → Bool
are_operators [] = true
are_operators (t ∷ l) = is_some (operator_of t) && are_operators l

-- an operand after an operator, with the trailers after it
abbrev pub wrap : Place → Option UnKind → Tree → Reading Tree
wrap p None x l = Some (x, l)
wrap p (Some k) x l = trailers p (prefixed (unary k) none x) l

-- an operand after these operators, each with the trailers after it, the last one first
abbrev pub wrapped : Place → List Tok → Tree → Reading Tree
wrapped p [] x l = Some (x, l)
wrapped p (t ∷ ts) x l = and_then (wrapped p ts x l) (wrap p (operator_of t))

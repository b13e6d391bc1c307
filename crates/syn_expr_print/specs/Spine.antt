-- Nodes that begin with an operand, each the first operand of the one before it: what is printed of them after that.
use Rattle.std.specs.Prelude.{◌≡◌, ℕ, ◌≤◌, Bool, true, false, not, ◌&&◌, ⊤, List, [], ◌∷◌, ◌++◌}
use denote.Ref.{Bor}
use Rattle.syn_tokens.specs.Tok.{Tok}
use Rattle.syn_lower_spec.specs.Form.{is_nil}
use Rattle.syn_expr_spec.specs.declared.next.Context.{Context}
use Rattle.syn_expr_spec.specs.declared.summary.Summary.{Summary}
use Rattle.syn_expr_spec.specs.Op.{level}
use Rattle.syn_expr_spec.specs.Next.{left_context, right_context, base_context}
use Rattle.syn_expr_spec.specs.Summaries.{summary_of, place_by, left_by, base_by}
use Rattle.syn_expr_spec.specs.Tree.{Tree, attributed, infixed, postfixed, tail, infix_own, postfix_own, postfix_op, trailer_own, size}
use Rattle.syn_expr_ast.specs.Label.{kind_at}
use Rattle.syn_expr_ast.specs.declared.label.NodeKind.{NodeKind}
use Rattle.syn_expr_ast.specs.declared.label.NodeKind.TheVariants as node
use Rattle.syn_expr_ast.specs.Node.{attributes_at, operands_at}
use Rattle.syn_expr_fixup.specs.Spine.{behind_below}
use Rattle.syn_expr_print.specs.Printing.{spelled_in, children_spelled}

-- nodes of this kind begin with an operand
abbrev pub begins : NodeKind → Bool
begins (node.Infix op) = true
begins (node.Postfix k) = true
begins (node.Tail k) = true
begins _ = false

-- a first operand, wrapped or not, is the next such node: neither a parenthesis nor attributes come before it
abbrev pub is_next : Bool → Tree → Bool
is_next wrapped t = (not wrapped && is_nil (attributes_at t)) && begins (kind_at t)

-- ---- a node

-- where its first operand is
abbrev pub first_place : Tree → Context → Context
first_place (attributed a more t) c = first_place t c
first_place (infixed x op y) c = left_context op c
first_place (postfixed x k) c = left_context (postfix_op k) c
first_place (tail b k ks) c = base_context k c
first_place _ c = c

-- whether that is wrapped in its place, by its summary
abbrev pub first_wrapped : Tree → Context → Summary → Bool
first_wrapped (attributed a more t) p n = first_wrapped t p n
first_wrapped (infixed x op y) p n = left_by op p n
first_wrapped (postfixed x k) p n = left_by (postfix_op k) p n
first_wrapped (tail b k ks) p n = base_by k p n
first_wrapped _ p n = false

-- what comes after it
abbrev pub behind_spelled : Context → Tree → List Tok
behind_spelled c (attributed a more t) = behind_spelled c t
behind_spelled c (infixed x op y) = infix_own op [] ++ spelled_in (place_by (level op) (right_context op c) (summary_of y)) (right_context op c) y
behind_spelled c (postfixed x k) = postfix_own k []
behind_spelled c (tail b k ks) = trailer_own k (children_spelled false ks) []
behind_spelled c _ = []

-- ---- the nodes, the outermost first, each with where it is

module _ {E : Type 0} (see : E → Tree) where
  -- what comes after their first operands, the innermost first
  abbrev pub behinds : List (Bor E × Context) → List Tok
  behinds [] = []
  behinds (q ∷ qs) = behinds qs ++ behind_spelled q.1 (see q.0.now)

  -- the summaries of that: those of the innermost are taken first, from the end
  abbrev pub lefts : List (Bor E × Context) → List Summary
  lefts [] = []
  lefts (q ∷ qs) = behind_below (operands_at (see q.0.now)) ++ lefts qs

  -- each begins with an operand, and is no larger than a bound
  abbrev pub Over : ℕ → List (Bor E × Context) → Type 0
  Over n [] = ⊤
  Over n (q ∷ qs) = (begins (kind_at (see q.0.now)) ≡ true) × (size (see q.0.now) ≤ n) × Over n qs

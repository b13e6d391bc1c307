-- What is printed after `else`, by its parts.
use Rattle.std.proofs.Common.{◌≡◌, true, false, List, [], ◌∷◌, refl}
use Rattle.syn_lexer.specs.declared.front.Delimiter.TheVariants as del
use Rattle.syn_tokens.specs.Tok.{group, inside}
use Rattle.syn_lower_spec.specs.Tree.{AttributeTree}
use Rattle.syn_expr_spec.specs.Next.{enclosed, in_statement}
use Rattle.syn_expr_spec.specs.Rule.{is_chainable}
use Rattle.syn_expr_spec.specs.Tree as e
use Rattle.syn_expr_spec.specs.Tree.{Tree, leaf, paren, attributed, prefixed, infixed, postfixed, tail, frame, none, child}
use Rattle.syn_expr_ast.specs.Node.{frame_at, operands_at}
use Rattle.syn_expr_print.specs.Placed.{is_block, is_if_expr}
use Rattle.syn_expr_ast.specs.Printed.{whole}
use Rattle.syn_expr_print.specs.Printing.{spelled, piece_spelled, core, node_of, IsBorrowed}
use Rattle.syn_expr_print.specs.Shape.{shape_at}
use Rattle.syn_expr_print.proofs.Braced.{chained-braced, chained-frame, chained-attributed, chained-leaf, chained-attributed-leaf}

-- attributes that are lent of a node are all that come before it
borrowed-once : (u t : Tree) (a : AttributeTree) (more : List AttributeTree) → attributed a more t ≡ node_of (shape_at u) (operands_at u) → ⊥
borrowed-once (leaf k) t a more h = absurd cc
borrowed-once (paren m x) t a more h = absurd cc
borrowed-once (attributed b bs u) t a more h = borrowed-once u t a more h
borrowed-once (prefixed k gs x) t a more h = absurd cc
borrowed-once (infixed x k y) t a more h = absurd cc
borrowed-once (postfixed x k) t a more h = absurd cc
borrowed-once (tail b k none) t a more h = absurd cc
borrowed-once (tail b k (child p c x ks)) t a more h = absurd cc
borrowed-once (frame k ks) t a more h = absurd cc

-- an `if` without its attributes
pub if_expr-chained : (t : Tree) → IsBorrowed t → is_if_expr (frame_at t) ≡ true → piece_spelled e.chained t ≡ spelled enclosed (core t)
if_expr-chained (frame k ks) l h = chained-frame k ks h
if_expr-chained (attributed a more (frame k ks)) l h = chained-attributed a more k ks h
if_expr-chained (attributed a more (attributed b bs t)) l h = absurd (borrowed-once t t b bs l)
if_expr-chained (attributed a more (leaf k)) l h = absurd cc
if_expr-chained (attributed a more (paren m t)) l h = absurd cc
if_expr-chained (attributed a more (prefixed k gs t)) l h = absurd cc
if_expr-chained (attributed a more (infixed x k y)) l h = absurd cc
if_expr-chained (attributed a more (postfixed x k)) l h = absurd cc
if_expr-chained (attributed a more (tail b k ks)) l h = absurd cc
if_expr-chained (leaf k) l h = absurd cc
if_expr-chained (paren m t) l h = absurd cc
if_expr-chained (prefixed k gs t) l h = absurd cc
if_expr-chained (infixed x k y) l h = absurd cc
if_expr-chained (postfixed x k) l h = absurd cc
if_expr-chained (tail b k ks) l h = absurd cc

pub block-chained : (t : Tree) → IsBorrowed t → is_block t ≡ true → piece_spelled e.chained t ≡ spelled enclosed t
block-chained (leaf k) l h = chained-leaf k h
block-chained (attributed a more (leaf k)) l h = chained-attributed-leaf a more k h
block-chained (attributed a more (attributed b bs t)) l h = absurd (borrowed-once t t b bs l)
block-chained (attributed a more (frame k ks)) l h = absurd cc
block-chained (attributed a more (paren m t)) l h = absurd cc
block-chained (attributed a more (prefixed k gs t)) l h = absurd cc
block-chained (attributed a more (infixed x k y)) l h = absurd cc
block-chained (attributed a more (postfixed x k)) l h = absurd cc
block-chained (attributed a more (tail b k ks)) l h = absurd cc
block-chained (frame k ks) l h = absurd cc
block-chained (paren m t) l h = absurd cc
block-chained (prefixed k gs t) l h = absurd cc
block-chained (infixed x k y) l h = absurd cc
block-chained (postfixed x k) l h = absurd cc
block-chained (tail b k ks) l h = absurd cc

no-chain : (t : Tree) → is_if_expr (frame_at t) ≡ false → is_block t ≡ false → is_chainable t ≡ false
no-chain (leaf k) h b = b
no-chain (attributed a more t) h b = no-chain t h b
no-chain (frame k ks) h b = h
no-chain (paren m t) h b = refl
no-chain (prefixed k gs t) h b = refl
no-chain (infixed x k y) h b = refl
no-chain (postfixed x k) h b = refl
no-chain (tail b k ks) h c = refl

pub other-chained : (t : Tree) → is_if_expr (frame_at t) ≡ false → is_block t ≡ false → piece_spelled e.chained t ≡ group del.Brace (inside (whole in_statement t)) ∷ []
other-chained t h b = chained-braced t (no-chain t h b)

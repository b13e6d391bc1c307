-- What is printed after `else` and after the output of a closure: an `if` or a block, or anything else in braces.
use Rattle.std.specs.Prelude.{if◌then◌else◌}
use Rattle.std.proofs.Common.{◌≡◌, Bool, true, false, List, [], ◌∷◌, refl, ap, ◌∙◌}
use Rattle.syn_lexer.specs.declared.front.Delimiter.TheVariants as del
use Rattle.syn_tokens.specs.Tok.{group, inside}
use Rattle.syn_lower_spec.specs.Tree.{AttributeTree}
use Rattle.syn_expr_spec.specs.declared.kinds.Precedence.TheVariants as lev
use Rattle.syn_expr_spec.specs.Next.{enclosed, in_statement}
use Rattle.syn_expr_spec.specs.Rule.{put, place_asks, bare, chained_bare, is_chainable, is_plain_block}
use Rattle.syn_expr_spec.specs.Tree as e
use Rattle.syn_expr_spec.specs.Tree.{Tree, Children, Leaf, Frame, leaf, paren, attributed, prefixed, infixed, postfixed, tail, frame, own_tokens, plain_block, fill}
use Rattle.syn_expr_ast.specs.Printed.{whole}
use Rattle.syn_expr_print.specs.Printing.{spelled, piece_spelled}

chainable-fill : (t : Tree) → is_chainable (fill t) ≡ is_chainable t
chainable-fill (leaf k) = refl
chainable-fill (attributed a more t) = chainable-fill t
chainable-fill (frame k ks) = refl
chainable-fill (paren m t) = refl
chainable-fill (prefixed k gs t) = refl
chainable-fill (infixed x k y) = refl
chainable-fill (postfixed x k) = refl
chainable-fill (tail b k ks) = refl

plain-fill : (t : Tree) → is_plain_block (fill t) ≡ is_plain_block t
plain-fill (leaf k) = refl
plain-fill (attributed a more t) = refl
plain-fill (frame k ks) = refl
plain-fill (paren m t) = refl
plain-fill (prefixed k gs t) = refl
plain-fill (infixed x k y) = refl
plain-fill (postfixed x k) = refl
plain-fill (tail b k ks) = refl

-- a block of these tokens
braces-of : (t : Tree) → own_tokens (plain_block (own_tokens (put (place_asks lev.Jump in_statement (fill t)) (bare enclosed (fill t)) (bare in_statement (fill t)))))
    ≡ group del.Brace (inside (whole in_statement t)) ∷ []
unfolding whole
braces-of t = refl

chained-by : (t : Tree) (b : Bool) → is_chainable t ≡ b → piece_spelled e.chained t
    ≡ own_tokens (if b then chained_bare (bare enclosed (fill t)) else plain_block (own_tokens (put (place_asks lev.Jump in_statement (fill t)) (bare enclosed (fill t)) (bare in_statement (fill t)))))
unfolding piece_spelled
chained-by t b h =
    ap (λ w. own_tokens (if w then chained_bare (bare enclosed (fill t)) else plain_block (own_tokens (put (place_asks lev.Jump in_statement (fill t)) (bare enclosed (fill t)) (bare in_statement (fill t))))))
    (chainable-fill t ∙ h)

pub chained-braced : (t : Tree) → is_chainable t ≡ false → piece_spelled e.chained t ≡ group del.Brace (inside (whole in_statement t)) ∷ []
chained-braced t h = chained-by t false h ∙ braces-of t

pub chained-frame : (k : Frame) (ks : Children) → is_chainable (frame k ks) ≡ true → piece_spelled e.chained (frame k ks) ≡ spelled enclosed (frame k ks)
unfolding spelled
chained-frame k ks h = chained-by (frame k ks) true h

-- an `if` without its attributes
pub chained-attributed : (a : AttributeTree) (more : List AttributeTree) (k : Frame) (ks : Children) → is_chainable (frame k ks) ≡ true
    → piece_spelled e.chained (attributed a more (frame k ks)) ≡ spelled enclosed (frame k ks)
unfolding spelled
chained-attributed a more k ks h = chained-by (attributed a more (frame k ks)) true h

pub chained-leaf : (k : Leaf) → is_chainable (leaf k) ≡ true → piece_spelled e.chained (leaf k) ≡ spelled enclosed (leaf k)
unfolding spelled
chained-leaf k h = chained-by (leaf k) true h

pub chained-attributed-leaf : (a : AttributeTree) (more : List AttributeTree) (k : Leaf) → is_chainable (leaf k) ≡ true
    → piece_spelled e.chained (attributed a more (leaf k)) ≡ spelled enclosed (attributed a more (leaf k))
unfolding spelled
chained-attributed-leaf a more k h = chained-by (attributed a more (leaf k)) true h ∙ ap own_tokens (by k)
  where
    by : (k : Leaf) → chained_bare (bare enclosed (fill (attributed a more (leaf k)))) ≡ bare enclosed (fill (attributed a more (leaf k)))
    by (e.full_range op) = refl
    by _ = refl

output-by : (t : Tree) (b : Bool) → is_plain_block t ≡ b → piece_spelled e.output_block t
    ≡ own_tokens (if b then bare enclosed (fill t) else plain_block (own_tokens (put (place_asks lev.Jump in_statement (fill t)) (bare enclosed (fill t)) (bare in_statement (fill t)))))
unfolding piece_spelled
output-by t b h =
    ap (λ w. own_tokens (if w then bare enclosed (fill t) else plain_block (own_tokens (put (place_asks lev.Jump in_statement (fill t)) (bare enclosed (fill t)) (bare in_statement (fill t))))))
    (plain-fill t ∙ h)

pub output-plain : (t : Tree) → is_plain_block t ≡ true → piece_spelled e.output_block t ≡ spelled enclosed t
unfolding spelled
output-plain t h = output-by t true h

pub output-braced : (t : Tree) → is_plain_block t ≡ false → piece_spelled e.output_block t ≡ group del.Brace (inside (whole in_statement t)) ∷ []
output-braced t h = output-by t false h ∙ braces-of t

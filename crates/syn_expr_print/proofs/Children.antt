-- What is printed of operands in places of their own, one after the other.
use Rattle.std.specs.Prelude.{◌||◌, not, if◌then◌else◌, codes}
use Rattle.std.proofs.Common.{◌≡◌, Bool, true, false, List, [], ◌∷◌, ◌++◌, refl, ap, ◌∙◌}
use Rattle.std.proofs.lemmas.List.{append-nil}
use Rattle.syn_lexer.specs.declared.front.Delimiter.TheVariants as del
use Rattle.syn_tokens.specs.Tok.{Tok, ident}
use Rattle.syn_lower_spec.specs.Tree.{AttributeTree}
use Rattle.syn_lower_spec.specs.Own.{alone, joint}
use Rattle.syn_lower_spec.specs.Own as own_parts
use Rattle.syn_lower_spec.specs.PatOwn.{attributes_own}
use Rattle.syn_pat.proofs.Appends.{attributes_append}
use Rattle.syn_expr_spec.specs.declared.kinds.Precedence.TheVariants as lev
use Rattle.syn_expr_spec.specs.Next.{enclosed, in_condition, in_statement, piece_context}
use Rattle.syn_expr_spec.specs.Rule.{put, piece_put, place_asks, bare, bare_children}
use Rattle.syn_expr_spec.specs.Tree as e
use Rattle.syn_expr_spec.specs.Tree.{Tree, Children, Body, Piece, Ending, none, child, inners, own, children_own, piece_own, ending_own, inside_of, body_own, is_silent, is_none, needs_comma, with_comma, fill_piece, fill, fill_children}
use Rattle.syn_expr_print.specs.Placed.{comma_if}
use Rattle.syn_expr_ast.specs.Printed.{whole}
use Rattle.syn_expr_print.specs.Printing.{children_spelled, piece_spelled}
use Rattle.syn_expr_print.proofs.Appends.{piece_append, own_append}

inside-nil : (c : Ending) → inside_of c [] ≡ []
inside-nil e.no_ending = refl
inside-nil e.comma = refl
inside-nil (e.braced b) = refl
inside-nil (e.opened ats) = refl

fill-silent : (k : Piece) → is_silent (fill_piece k) ≡ is_silent k
fill-silent (e.rest d) = refl
fill-silent _ = refl

fill-spelled : (k : Piece) (t : Tree) → piece_spelled (fill_piece k) t ≡ piece_spelled k t
unfolding piece_spelled
fill-spelled (e.rest d) t = refl
fill-spelled _ t = refl

-- an operand that is spelled
pub loud-spelled : (last : Bool) (k : Piece) (c : Ending) (t : Tree) (ks : Children) → is_silent k ≡ false
    → children_spelled last (child k c t ks)
    ≡ piece_own (fill_piece k) [] ++ (piece_spelled k t ++ ending_own (fill_piece k) (with_comma (needs_comma k t (not (is_none ks)) last) c) (children_spelled last ks) [])
unfolding children_spelled piece_spelled
loud-spelled last k c t ks h =
    let f = fill_piece k in
    let d = with_comma (needs_comma k t (not (is_none ks)) last) c in
    let n = bare_children (fill_children last ks) in
    let o = λ (w : Piece). piece_put w (fill t) (bare enclosed (fill t)) (bare (piece_context w) (fill t))
    (put (place_asks lev.Jump in_statement (fill t)) (bare enclosed (fill t)) (bare in_statement (fill t)))
    (place_asks lev.Jump (piece_context w) (fill t)) in
    let x = λ (z : List Tok). ending_own f d (children_own n z) [] in
    ap (λ b. piece_own f (if b then x (inside_of d []) else own (o f) (x (inside_of d [])))) (fill-silent k ∙ h)
    ∙ ap (λ z. piece_own f (own (o f) (x z))) (inside-nil d)
    ∙ piece_append f (own (o f) (x []))
    ∙ ap (λ l. piece_own f [] ++ l) (own_append (o f) (x []))
    ∙ ap (λ l. piece_own f [] ++ (l ++ x [])) (fill-spelled k t)

-- one that isn't
pub silent-spelled : (last : Bool) (k : Piece) (c : Ending) (t : Tree) (ks : Children) → is_silent k ≡ true
    → children_spelled last (child k c t ks)
    ≡ piece_own (fill_piece k) [] ++ ending_own (fill_piece k) (with_comma (needs_comma k t (not (is_none ks)) last) c) (children_spelled last ks) []
unfolding children_spelled
silent-spelled last k c t ks h =
    let f = fill_piece k in
    let d = with_comma (needs_comma k t (not (is_none ks)) last) c in
    let n = bare_children (fill_children last ks) in
    let o = piece_put f (fill t) (bare enclosed (fill t)) (bare (piece_context f) (fill t))
    (put (place_asks lev.Jump in_statement (fill t)) (bare enclosed (fill t)) (bare in_statement (fill t)))
    (place_asks lev.Jump (piece_context f) (fill t)) in
    let x = λ (z : List Tok). ending_own f d (children_own n z) [] in
    ap (λ b. piece_own f (if b then x (inside_of d []) else own o (x (inside_of d [])))) (fill-silent k ∙ h)
    ∙ ap (λ z. piece_own f (x z)) (inside-nil d)
    ∙ piece_append f (x [])

pub comma-stays : (b : Bool) → with_comma b e.comma ≡ e.comma
comma-stays true = refl
comma-stays false = refl

-- ---- a list with commas

element-is : (t : Tree) → piece_spelled e.element t ≡ whole enclosed t
unfolding piece_spelled whole
element-is t = refl

pub element-comma : (last : Bool) (t : Tree) (ks : Children) → children_spelled last (child e.element e.comma t ks) ≡ whole enclosed t ++ (alone 44 ∷ children_spelled last ks)
element-comma last t ks =
    loud-spelled last e.element e.comma t ks refl
    ∙ ap (λ c. piece_spelled e.element t ++ ending_own e.element c (children_spelled last ks) []) (comma-stays (not (is_none ks) || last))
    ∙ ap (λ l. l ++ (alone 44 ∷ children_spelled last ks)) (element-is t)

pub none-spelled : (last : Bool) → children_spelled last none ≡ []
unfolding children_spelled
none-spelled last = refl

pub element-last : (last : Bool) (t : Tree) → children_spelled last (child e.element e.no_ending t none) ≡ whole enclosed t ++ comma_if last
element-last last t =
    loud-spelled last e.element e.no_ending t none refl
    ∙ ap (λ l. l ++ ending_own e.element (with_comma last e.no_ending) (children_spelled last none) []) (element-is t)
    ∙ ap (λ l. whole enclosed t ++ ending_own e.element (with_comma last e.no_ending) l []) (none-spelled last)
    ∙ ap (λ l. whole enclosed t ++ l) (by last)
  where
    by : (b : Bool) → ending_own e.element (with_comma b e.no_ending) [] [] ≡ comma_if b
    by true = refl
    by false = refl

-- ---- one alone, and a value with a length

pub value-spelled : (last : Bool) (t : Tree) → children_spelled last (child e.value e.no_ending t none) ≡ whole enclosed t
unfolding children_spelled whole
value-spelled last t = refl

pub grouped-spelled : (last : Bool) (t : Tree) → children_spelled last (child e.grouped e.no_ending t none) ≡ whole enclosed t
unfolding children_spelled whole
grouped-spelled last t = refl

repeated-is : (t : Tree) → piece_spelled e.repeated t ≡ whole enclosed t
unfolding piece_spelled whole
repeated-is t = refl

pub repeated-spelled : (last : Bool) (x y : Tree) → children_spelled last (child e.repeated e.no_ending x (child e.value e.no_ending y none)) ≡ whole enclosed x ++ (alone 59 ∷ whole enclosed y)
repeated-spelled last x y =
    loud-spelled last e.repeated e.no_ending x (child e.value e.no_ending y none) refl
    ∙ ap (λ l. l ++ (alone 59 ∷ children_spelled last (child e.value e.no_ending y none))) (repeated-is x)
    ∙ ap (λ l. whole enclosed x ++ (alone 59 ∷ l)) (value-spelled last y)

-- ---- conditions and scrutinees

condition-is : (t : Tree) → piece_spelled e.condition t ≡ whole in_condition t
unfolding piece_spelled whole
condition-is t = refl

loop-is : (t : Tree) → piece_spelled e.loop_head t ≡ whole in_condition t
unfolding piece_spelled whole
loop-is t = refl

scrutinee-is : (t : Tree) → piece_spelled e.scrutinee t ≡ whole in_condition t
unfolding piece_spelled whole
scrutinee-is t = refl

pub condition-spelled : (last : Bool) (b : Body) (t : Tree) (ks : Children) → children_spelled last (child e.condition (e.braced b) t ks)
    ≡ whole in_condition t ++ (body_own b [] ++ children_spelled last ks)
condition-spelled last b t ks =
    loud-spelled last e.condition (e.braced b) t ks refl ∙ ap (λ l. l ++ (body_own b [] ++ children_spelled last ks)) (condition-is t)

pub loop-spelled : (last : Bool) (b : Body) (t : Tree) → children_spelled last (child e.loop_head (e.braced b) t none) ≡ whole in_condition t ++ body_own b []
loop-spelled last b t =
    loud-spelled last e.loop_head (e.braced b) t none refl
    ∙ ap (λ l. l ++ (body_own b [] ++ children_spelled last none)) (loop-is t)
    ∙ ap (λ l. whole in_condition t ++ (body_own b [] ++ l)) (none-spelled last)

pub scrutinee-spelled : (last : Bool) (ats : List AttributeTree) (t : Tree) (ks : Children) → children_spelled last (child e.scrutinee (e.opened ats) t ks)
    ≡ whole in_condition t ++ own_parts.enclosed del.Brace (attributes_own (inners ats) [] ++ children_spelled last ks) []
scrutinee-spelled last ats t ks =
    loud-spelled last e.scrutinee (e.opened ats) t ks refl
    ∙ ap (λ l. l ++ own_parts.enclosed del.Brace (attributes_own (inners ats) (children_spelled last ks)) []) (scrutinee-is t)
    ∙ ap (λ l. whole in_condition t ++ own_parts.enclosed del.Brace l []) (attributes_append (inners ats) (children_spelled last ks))

-- ---- the rest of a struct expression

rest-is : (d : Bool) (t : Tree) → piece_spelled (e.rest d) t ≡ whole enclosed t
unfolding piece_spelled whole
rest-is d t = refl

pub rest-spelled : (last d : Bool) (t : Tree) → children_spelled last (child (e.rest d) e.no_ending t none) ≡ joint 46 ∷ alone 46 ∷ whole enclosed t
rest-spelled last d t =
    loud-spelled last (e.rest d) e.no_ending t none refl
    ∙ ap (λ l. joint 46 ∷ alone 46 ∷ (piece_spelled (e.rest d) t ++ l)) (none-spelled last)
    ∙ ap (λ l. joint 46 ∷ alone 46 ∷ l) (append-nil (piece_spelled (e.rest d) t) ∙ rest-is d t)

-- ---- after `else` and after a closure's output

-- what isn't an `if` or a block is in braces, as a statement
pub chained-spelled : (last : Bool) (t : Tree) → children_spelled last (child e.chained e.no_ending t none) ≡ ident (codes "else") ∷ piece_spelled e.chained t
chained-spelled last t =
    loud-spelled last e.chained e.no_ending t none refl
    ∙ ap (λ l. ident (codes "else") ∷ (piece_spelled e.chained t ++ l)) (none-spelled last)
    ∙ ap (λ l. ident (codes "else") ∷ l) (append-nil (piece_spelled e.chained t))

pub output-spelled : (last : Bool) (t : Tree) → children_spelled last (child e.output_block e.no_ending t none) ≡ piece_spelled e.output_block t
output-spelled last t =
    loud-spelled last e.output_block e.no_ending t none refl
    ∙ ap (λ l. piece_spelled e.output_block t ++ l) (none-spelled last)
    ∙ append-nil (piece_spelled e.output_block t)

pub ruleset children = (none-spelled, value-spelled, grouped-spelled, repeated-spelled, condition-spelled, loop-spelled, scrutinee-spelled, chained-spelled, output-spelled)

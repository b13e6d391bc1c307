-- In plain position no pair is round a node.
use Rattle.std.proofs.Common.{◌≡◌, ap, true, false, List, [], ◌∷◌, ◌++◌, refl, sym, ◌∙◌, append_assoc}
use Rattle.syn_expr_spec.specs.Next.{enclosed}
use Rattle.syn_expr_spec.specs.Rule.{put, bare, is_operation}
use Rattle.syn_expr_spec.specs.Tree.{Tree, own_tokens, fill, attributed, attributed_with, outers}
use Rattle.syn_expr_ast.specs.Printed.{whole}
use Rattle.syn_expr_ast.proofs.Leaves.{place-bare}
use Rattle.syn_expr_print.specs.Printing.{spelled, spelled_in}
use Rattle.syn_lexer.specs.declared.front.Delimiter.TheVariants as del
use Rattle.syn_tokens.specs.Tok.{Tok}
use Rattle.syn_lower_spec.specs.Tree.{AttributeTree}
use Rattle.syn_lower_spec.specs.Own as own_parts
use Rattle.syn_lower_spec.specs.PatOwn.{attributes_own}
use Rattle.syn_lower_spec.specs.Form.{is_nil}
use Rattle.syn_expr_print.proofs.Spellings.{spelled-attributed, spelled-bare, spelled-wrapped}

pub whole-bare : (t : Tree) → whole enclosed t ≡ spelled enclosed t
unfolding whole spelled
whole-bare t = ap (λ w. own_tokens (put w (bare enclosed (fill t)) (bare enclosed (fill t)))) (place-bare (fill t))

-- ---- a node after its attributes, as it is printed by itself

-- after attributes, in parentheses where it is an operation
pub behind-some : (a : AttributeTree) (more : List AttributeTree) (t : Tree) → whole enclosed (attributed a more t) ≡ attributes_own (outers (a ∷ more)) [] ++ spelled_in (is_operation t) enclosed t
behind-some a more t = whole-bare (attributed a more t) ∙ spelled-attributed enclosed (attributed a more t) a more refl

-- what is no operation is left bare there
pub behind-plain : (ats : List AttributeTree) (t : Tree) → is_operation t ≡ false → whole enclosed (attributed_with ats t) ≡ attributes_own (outers ats) [] ++ spelled enclosed t
behind-plain [] t h = whole-bare t
behind-plain (a ∷ more) t h =
    behind-some a more t
    ∙ ap (λ w. attributes_own (outers (a ∷ more)) [] ++ spelled_in w enclosed t) h
    ∙ ap (λ l. attributes_own (outers (a ∷ more)) [] ++ l) (spelled-bare enclosed t)

pub operation-bare : (ats : List AttributeTree) (t : Tree) → is_nil ats ≡ true → whole enclosed (attributed_with ats t) ≡ spelled enclosed t
operation-bare [] t h = whole-bare t
operation-bare (a ∷ more) t h = absurd cc

pub operation-wrapped : (ats : List AttributeTree) (t : Tree) → is_nil ats ≡ false → is_operation t ≡ true
    → whole enclosed (attributed_with ats t) ≡ attributes_own (outers ats) [] ++ own_parts.enclosed del.Parenthesis (spelled enclosed t) []
operation-wrapped [] t h o = absurd cc
operation-wrapped (a ∷ more) t h o =
    behind-some a more t
    ∙ ap (λ w. attributes_own (outers (a ∷ more)) [] ++ spelled_in w enclosed t) o
    ∙ ap (λ l. attributes_own (outers (a ∷ more)) [] ++ l) (spelled-wrapped enclosed t)

-- ---- one part after the other

pub plain-written : (ats : List AttributeTree) (t : Tree) (x t0 t1 t2 : List Tok) → is_operation t ≡ false → spelled enclosed t ≡ x
    → t1 ≡ t0 ++ attributes_own (outers ats) [] → t2 ≡ t1 ++ x → t2 ≡ t0 ++ whole enclosed (attributed_with ats t)
plain-written ats t x t0 t1 t2 h s p g =
    g ∙ ap (λ l. l ++ x) p ∙ append_assoc t0 (attributes_own (outers ats) []) x
    ∙ ap (λ l. t0 ++ (attributes_own (outers ats) [] ++ l)) (sym s) ∙ ap (λ l. t0 ++ l) (sym (behind-plain ats t h))

pub wrapped-written : (ats : List AttributeTree) (t : Tree) (x t0 t1 t2 : List Tok) → is_nil ats ≡ false → is_operation t ≡ true → x ≡ spelled enclosed t
    → t1 ≡ t0 ++ attributes_own (outers ats) [] → t2 ≡ t1 ++ own_parts.enclosed del.Parenthesis x [] → t2 ≡ t0 ++ whole enclosed (attributed_with ats t)
wrapped-written ats t x t0 t1 t2 h o s p g =
    let y = own_parts.enclosed del.Parenthesis x [] in
    g ∙ ap (λ l. l ++ y) p ∙ append_assoc t0 (attributes_own (outers ats) []) y
    ∙ ap (λ l. t0 ++ (attributes_own (outers ats) [] ++ own_parts.enclosed del.Parenthesis l [])) s ∙ ap (λ l. t0 ++ l) (sym (operation-wrapped ats t h o))

pub ruleset operations = (operation-bare)

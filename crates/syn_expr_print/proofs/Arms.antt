-- What is printed of the arms of a `match`.
use Rattle.std.specs.Prelude.{not, ◌||◌, ◌&&◌, codes}
use Rattle.std.proofs.Common.{◌≡◌, Bool, true, false, List, [], ◌∷◌, ◌++◌, refl, sym, ap, ◌∙◌, append_assoc}
use Rattle.syn_tokens.specs.Tok.{Tok, ident}
use Rattle.syn_lower_spec.specs.Tree.{AttributeTree}
use Rattle.syn_lower_spec.specs.Pat.{PatTree}
use Rattle.syn_lower_spec.specs.Own.{alone, joint}
use Rattle.syn_lower_spec.specs.PatOwn.{attributes_own, pat_own}
use Rattle.syn_pat.proofs.Appends.{attributes_append, pat_append}
use Rattle.syn_expr_spec.specs.Next.{enclosed, in_arm}
use Rattle.syn_expr_spec.specs.Tree as e
use Rattle.syn_expr_spec.specs.Tree.{Tree, Children, Piece, child, piece_own, ending_own, is_none, is_block_like, with_comma}
use Rattle.syn_expr_ast.specs.Pats.{guard_children, arm_ending}
use Rattle.syn_expr_ast.specs.Printed.{whole}
use Rattle.syn_expr_fixup.specs.Below.{last_guard}
use Rattle.syn_expr_print.specs.Printing.{children_spelled, piece_spelled}
use Rattle.syn_expr_print.specs.Placed.{comma_if}
use Rattle.syn_expr_print.proofs.Children.{loud-spelled}

-- ---- the body, with a comma after it where one is there or needed

abbrev pub body_spelled : Bool → Tree → List Tok → List Tok
body_spelled b t r = whole in_arm t ++ (comma_if b ++ r)

ended : (k : Piece) (b c : Bool) (l : List Tok) → e.is_repeated k ≡ false → ending_own k (with_comma b (arm_ending c)) l [] ≡ comma_if (c || b) ++ l
ended k true true l h = refl
ended k false true l h = refl
ended k true false l h = refl
ended k false false l h = rw h refl

guarded-is : (t : Tree) → piece_spelled e.guarded t ≡ whole in_arm t
unfolding piece_spelled whole
guarded-is t = refl

arm-is : (ats : List AttributeTree) (x : PatTree) (t : Tree) → piece_spelled (e.arm ats x) t ≡ whole in_arm t
unfolding piece_spelled whole
arm-is ats x t = refl

guard-is : (ats : List AttributeTree) (x : PatTree) (t : Tree) → piece_spelled (e.guard ats x) t ≡ whole enclosed t
unfolding piece_spelled whole
guard-is ats x t = refl

pub guarded-spelled : (last c : Bool) (t : Tree) (ks : Children) → children_spelled last (child e.guarded (arm_ending c) t ks)
    ≡ joint 61 ∷ alone 62 ∷ body_spelled (c || (not (is_none ks) && not (is_block_like t))) t (children_spelled last ks)
guarded-spelled last c t ks =
    loud-spelled last e.guarded (arm_ending c) t ks refl
    ∙ ap (λ l. joint 61 ∷ alone 62 ∷ (piece_spelled e.guarded t ++ l)) (ended e.guarded (not (is_none ks) && not (is_block_like t)) c (children_spelled last ks) refl)
    ∙ ap (λ l. joint 61 ∷ alone 62 ∷ (l ++ (comma_if (c || (not (is_none ks) && not (is_block_like t))) ++ children_spelled last ks))) (guarded-is t)

-- ---- attributes and the pattern

abbrev pub head_spelled : List AttributeTree → PatTree → List Tok
head_spelled ats x = attributes_own ats [] ++ pat_own x []

head-first : (ats : List AttributeTree) (x : PatTree) (r : List Tok) → attributes_own ats (pat_own x r) ≡ head_spelled ats x ++ r
head-first ats x r =
    attributes_append ats (pat_own x r) ∙ ap (λ l. attributes_own ats [] ++ l) (pat_append x r) ∙ sym (append_assoc (attributes_own ats []) (pat_own x []) r)

pub arm-spelled : (last c : Bool) (ats : List AttributeTree) (x : PatTree) (t : Tree) (ks : Children) → children_spelled last (child (e.arm ats x) (arm_ending c) t ks)
    ≡ head_spelled ats x ++ (joint 61 ∷ alone 62 ∷ body_spelled (c || (not (is_none ks) && not (is_block_like t))) t (children_spelled last ks))
arm-spelled last c ats x t ks =
    let b = not (is_none ks) && not (is_block_like t) in
    let l = children_spelled last ks in
    loud-spelled last (e.arm ats x) (arm_ending c) t ks refl
    ∙ ap (λ m. piece_own (e.arm ats x) [] ++ (piece_spelled (e.arm ats x) t ++ m)) (ended (e.arm ats x) b c l refl)
    ∙ ap (λ m. piece_own (e.arm ats x) [] ++ (m ++ (comma_if (c || b) ++ l))) (arm-is ats x t)
    ∙ ap (λ m. m ++ body_spelled (c || b) t l) (head-first ats x (joint 61 ∷ alone 62 ∷ []))
    ∙ append_assoc (head_spelled ats x) (joint 61 ∷ alone 62 ∷ []) (body_spelled (c || b) t l)

pub guard-spelled : (last : Bool) (ats : List AttributeTree) (x : PatTree) (g : Tree) (ks : Children) → children_spelled last (child (e.guard ats x) e.no_ending g ks)
    ≡ head_spelled ats x ++ (ident (codes "if") ∷ (whole enclosed g ++ children_spelled last ks))
guard-spelled last ats x g ks =
    let l = children_spelled last ks in
    loud-spelled last (e.guard ats x) e.no_ending g ks refl
    ∙ ap (λ m. piece_own (e.guard ats x) [] ++ (m ++ l)) (guard-is ats x g)
    ∙ ap (λ m. m ++ (whole enclosed g ++ l)) (head-first ats x (ident (codes "if") ∷ []))
    ∙ append_assoc (head_spelled ats x) (ident (codes "if") ∷ []) (whole enclosed g ++ l)

-- ---- an arm, with the guards that may stand nowhere before its own

stray-spelled : (last : Bool) (g : Tree) (ks : Children) → children_spelled last (child e.stray e.no_ending g ks) ≡ children_spelled last ks
unfolding children_spelled
stray-spelled last g ks = refl

pub guards-spelled : (last : Bool) (k : Piece) (g : Tree) (gs : List Tree) (ks : Children) → children_spelled last (guard_children k g gs ks) ≡ children_spelled last (child k e.no_ending (last_guard g gs) ks)
guards-spelled last k g [] ks = refl
guards-spelled last k g (h ∷ gs) ks = stray-spelled last g (guard_children k h gs ks) ∙ guards-spelled last k h gs ks

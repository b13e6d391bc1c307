-- What no arm of a `match` begins with.
use Rattle.std.proofs.Common.{◌≡◌, ℕ, true, false, not, ◌&&◌, ◌==◌, List, [], ◌∷◌, Some, None, refl, ◌∙◌, subst, codes}
use Rattle.std.proofs.lemmas.Slice.Eq.{bytes_eq-Decides}
use Rattle.std.proofs.lemmas.Bool.{false_from_ne_true, and_parts, not-true}
use Rattle.std.proofs.Math.Bool.{or-false}
use Rattle.syn_lexer.specs.Keywords.{is_reserved_word}
use Rattle.syn_lexer.specs.declared.front.Spacing.{Spacing}
use Rattle.syn_lexer.specs.declared.front.Spacing.TheVariants as spacing
use Rattle.syn_tokens.specs.Tok.{Tok, ident, punct, literal, group}
use Rattle.syn_tokens.specs.Front.{group_at}
use Rattle.syn_lower_spec.specs.Text.{is_segment, stands_alone, is_truth}
use Rattle.syn_lower_spec.specs.Tree.{AttributeTree}
use Rattle.syn_lower_spec.specs.Own.{attribute_own}
use Rattle.syn_lower_spec.specs.PatOwn.{attributes_own}
use Rattle.syn_lower_spec.specs.Mark.{sign_at, word_at, comma}
use Rattle.syn_lower_spec.specs.Part as q
use Rattle.syn_lower_spec.specs.Part.{pound_bang}
use Rattle.syn_lower_spec.specs.Pat as p
use Rattle.syn_lower_spec.specs.Pat.{PatTree}
use Rattle.syn_lower_spec.specs.PatFits.{attributes_outer}
use Rattle.syn_lower_spec.proofs.Forms.{Alike}
use Rattle.syn_lower_spec.proofs.Pats.{pattern_is, pattern_alike}
use Rattle.syn_lower_spec.proofs.Ends.{sign_first}
use Rattle.syn_expr_spec.specs.Front.{dot_at, question_at}
use Rattle.syn_expr_spec.proofs.HeadFront.{pattern_no_pound}

abbrev Spelled : PatTree → List Tok → List Tok → Type 0
Spelled z l n = (p.pattern true).behind z l ≡ Some n

-- what no pattern is read at
unread : (z : PatTree) (l n : List Tok) → (p.pattern true).reads l ≡ None → Spelled z l n → ⊥
unread z l n h g =
    let a : Alike 0 (p.pattern true) (p.pattern true) = pattern_alike true in
    let j = a.complete l z n g in cc

question_none : (s : Spacing) (l : List Tok) → (p.pattern true).reads (punct 63 s ∷ l) ≡ None
unfolding p.at_width p.multi p.single p.path_pat p.binding_at q.qpath q.path q.pieces q.segment q.segment_name sign_at word_at group_at
question_none spacing.Alone l = pattern_is true (punct 63 spacing.Alone ∷ l)
question_none spacing.Joint l = pattern_is true (punct 63 spacing.Joint ∷ l)

comma_none : (s : Spacing) (l : List Tok) → (p.pattern true).reads (punct 44 s ∷ l) ≡ None
unfolding p.at_width p.multi p.single p.path_pat p.binding_at q.qpath q.path q.pieces q.segment q.segment_name sign_at word_at group_at
comma_none spacing.Alone l = pattern_is true (punct 44 spacing.Alone ∷ l)
comma_none spacing.Joint l = pattern_is true (punct 44 spacing.Joint ∷ l)

dot_none : (s : Spacing) (l : List Tok) → sign_at (codes "..") (punct 46 s ∷ l) ≡ false → (p.pattern true).reads (punct 46 s ∷ l) ≡ None
unfolding p.at_width p.multi p.single p.path_pat p.binding_at q.qpath q.path q.pieces q.segment q.segment_name sign_at word_at group_at
dot_none spacing.Alone l h = pattern_is true (punct 46 spacing.Alone ∷ l)
dot_none spacing.Joint [] h = pattern_is true (punct 46 spacing.Joint ∷ [])
dot_none spacing.Joint (ident w ∷ l) h = pattern_is true (punct 46 spacing.Joint ∷ ident w ∷ l)
dot_none spacing.Joint (literal w ∷ l) h = pattern_is true (punct 46 spacing.Joint ∷ literal w ∷ l)
dot_none spacing.Joint (group d i ∷ l) h = pattern_is true (punct 46 spacing.Joint ∷ group d i ∷ l)
dot_none spacing.Joint (punct c spacing.Alone ∷ l) h = pattern_is true (punct 46 spacing.Joint ∷ punct c spacing.Alone ∷ l) ∙ (let d : c == 46 && true ≡ false = h in rw d refl)
dot_none spacing.Joint (punct c spacing.Joint ∷ l) h = pattern_is true (punct 46 spacing.Joint ∷ punct c spacing.Joint ∷ l) ∙ (let d : c == 46 && true ≡ false = h in rw d refl)

else_none : (l : List Tok) → (p.pattern true).reads (ident (codes "else") ∷ l) ≡ None
unfolding p.at_width p.multi p.single p.path_pat p.binding_at q.qpath q.path q.pieces q.segment q.segment_name sign_at word_at group_at is_segment stands_alone is_reserved_word is_truth
else_none l = pattern_is true (ident (codes "else") ∷ l)

-- what is after an arm whose body ends with a block
pub record NoBody (l : List Tok) : Type 0 where
  pub no_else : word_at (codes "else") l ≡ false
  pub no_dot : dot_at l ≡ false
  pub no_question : question_at l ≡ false
  pub no_comma : comma.at l ≡ false

no_sign : (z : PatTree) (c : ℕ) (l n : List Tok) → ((s : Spacing) (m : List Tok) → (p.pattern true).reads (punct c s ∷ m) ≡ None) → Spelled z l n → sign_at (c ∷ []) l ≡ false
no_sign z c l n f g = false_from_ne_true _ (λ e. sign_first c [] (λ m. Spelled z m n → ⊥) (λ s m. unread z (punct c s ∷ m) n (f s m)) l e g)

no_else_word : (z : PatTree) (l n : List Tok) → Spelled z l n → word_at (codes "else") l ≡ false
unfolding word_at
no_else_word z [] n g = refl
no_else_word z (punct c s ∷ l) n g = refl
no_else_word z (literal w ∷ l) n g = refl
no_else_word z (group d i ∷ l) n g = refl
no_else_word z (ident w ∷ l) n g = false_from_ne_true _ (λ e. unread z (ident (codes "else") ∷ l) n (else_none l) (subst (λ x. Spelled z (ident x ∷ l) n) ((bytes_eq-Decides w (codes "else")).0 e) g))

no_dot_sign : (z : PatTree) (l n : List Tok) → Spelled z l n → sign_at (codes ".") l && not (sign_at (codes "..") l) ≡ false
no_dot_sign z l n g = false_from_ne_true _ (λ e.
    let t = and_parts (sign_at (codes ".") l) (not (sign_at (codes "..") l)) e in
    sign_first 46 [] (λ m. sign_at (codes "..") m ≡ false → Spelled z m n → ⊥) (λ s m o. unread z (punct 46 s ∷ m) n (dot_none s m o)) l t.0 (not-true _ t.1) g)

pub pattern_front : (z : PatTree) (l n : List Tok) → Spelled z l n → NoBody l
unfolding dot_at question_at
pattern_front z l n g = record {
  no_else = no_else_word z l n g;
  no_dot = rw (or-false (sign_at (codes "..") l)) (no_dot_sign z l n g);
  no_question = no_sign z 63 l n question_none g;
  no_comma = no_sign z 44 l n comma_none g;
}

pub attributes_front : (ats : List AttributeTree) (z : PatTree) (l n : List Tok) → Spelled z l n → NoBody (attributes_own ats l)
unfolding attribute_own dot_at question_at sign_at word_at
attributes_front [] z l n g = pattern_front z l n g
attributes_front (a ∷ more) z l n g = record { no_else = refl; no_dot = refl; no_question = refl; no_comma = refl }

-- nor is it an inner attribute
pub outer_front : (ats : List AttributeTree) (z : PatTree) (l n : List Tok) → attributes_outer ats ≡ true → Spelled z l n → pound_bang.at (attributes_own ats l) ≡ false
unfolding attribute_own sign_at
outer_front [] z l n f g = rw (pattern_no_pound z l n g) refl
outer_front (a ∷ more) z l n f g = rw (not-true a.inner (and_parts (not a.inner) _ f).0) refl

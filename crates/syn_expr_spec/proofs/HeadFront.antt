-- What no pattern and no argument of a closure begins with.
use Rattle.std.proofs.Common.{◌≡◌, Bool, true, false, List, [], ◌∷◌, Some, None, refl}
use Rattle.syn_lexer.specs.declared.front.Spacing.{Spacing}
use Rattle.syn_lexer.specs.declared.front.Spacing.TheVariants as spacing
use Rattle.syn_tokens.specs.Tok.{Tok, punct}
use Rattle.syn_tokens.specs.Front.{group_at}
use Rattle.syn_lower_spec.specs.Mark.{sign_at, word_at, pound}
use Rattle.syn_lower_spec.specs.Part as q
use Rattle.syn_lower_spec.specs.Pat as p
use Rattle.syn_lower_spec.specs.Pat.{PatTree}
use Rattle.syn_lower_spec.proofs.Forms.{Alike, more_is}
use Rattle.syn_lower_spec.proofs.Marks.{pound_present}
use Rattle.syn_lower_spec.proofs.Parts.{outer_body_alike}
use Rattle.syn_lower_spec.proofs.Pats.{pattern_is, pattern_alike, closure_arg_alike}
use Rattle.syn_lower_spec.proofs.Ends.{sign_first}
use Rattle.syn_expr_spec.specs.Head as h

-- no pattern is read at `|` where no alternatives stand, and none at `#`
single_none : (s : Spacing) (l : List Tok) → (p.pattern false).reads (punct 124 s ∷ l) ≡ None
unfolding p.at_width p.single p.path_pat p.binding_at q.qpath q.path q.pieces q.segment q.segment_name sign_at word_at group_at
single_none spacing.Alone l = pattern_is false (punct 124 spacing.Alone ∷ l)
single_none spacing.Joint l = pattern_is false (punct 124 spacing.Joint ∷ l)

pound_none : (s : Spacing) (l : List Tok) → (p.pattern true).reads (punct 35 s ∷ l) ≡ None
unfolding p.at_width p.multi p.single p.path_pat p.binding_at q.qpath q.path q.pieces q.segment q.segment_name sign_at word_at group_at
pound_none spacing.Alone l = pattern_is true (punct 35 spacing.Alone ∷ l)
pound_none spacing.Joint l = pattern_is true (punct 35 spacing.Joint ∷ l)

no_attributes : (s : Spacing) (l : List Tok) → q.outer_attributes.reads (punct 124 s ∷ l) ≡ Some ([], punct 124 s ∷ l)
unfolding q.outer_attributes sign_at
no_attributes spacing.Alone l = more_is pound q.outer_body pound_present (λ k. outer_body_alike) (punct 124 spacing.Alone ∷ l)
no_attributes spacing.Joint l = more_is pound q.outer_body pound_present (λ k. outer_body_alike) (punct 124 spacing.Joint ∷ l)

arg_none : (s : Spacing) (l : List Tok) → p.closure_arg.reads (punct 124 s ∷ l) ≡ None
unfolding p.closure_arg
arg_none s l = rw (no_attributes s l, single_none s l) refl

pub pattern_no_pound : (z : PatTree) (l n : List Tok) → (p.pattern true).behind z l ≡ Some n → pound.at l ≡ false
pattern_no_pound z l n g = by_bool (pound.at l) refl
  where
    at_sign : (s : Spacing) (m : List Tok) → (p.pattern true).behind z (punct 35 s ∷ m) ≡ Some n → ⊥
    at_sign s m i =
        let a : Alike 0 (p.pattern true) (p.pattern true) = pattern_alike true in
        let j = a.complete (punct 35 s ∷ m) z n i in
        let k = pound_none s m in absurd cc

    by_bool : (b : Bool) → pound.at l ≡ b → b ≡ false
    by_bool false e = refl
    by_bool true e = absurd (sign_first 35 [] (λ m. (p.pattern true).behind z m ≡ Some n → ⊥) at_sign l e g)

pub arg_no_bar : (z : PatTree) (l n : List Tok) → p.closure_arg.behind z l ≡ Some n → h.bar.at l ≡ false
arg_no_bar z l n g = by_bool (h.bar.at l) refl
  where
    at_sign : (s : Spacing) (m : List Tok) → p.closure_arg.behind z (punct 124 s ∷ m) ≡ Some n → ⊥
    at_sign s m i =
        let a : Alike 0 p.closure_arg p.closure_arg = closure_arg_alike in
        let j = a.complete (punct 124 s ∷ m) z n i in
        let k = arg_none s m in absurd cc

    by_bool : (b : Bool) → h.bar.at l ≡ b → b ≡ false
    by_bool false e = refl
    by_bool true e = absurd (sign_first 124 [] (λ m. p.closure_arg.behind z m ≡ Some n → ⊥) at_sign l e g)

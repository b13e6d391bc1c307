-- The pattern of a `for` loop doesn't begin as the lifetimes of a closure do.
use Rattle.std.proofs.Common.{◌≡◌, Bool, true, false, ◌||◌, ◌&&◌, List, [], ◌∷◌, drop, Option, Some, None, refl, sym, subst, ◌∙◌, codes, arith}
use Rattle.syn_lexer.specs.declared.front.Spacing.{Spacing}
use Rattle.syn_lexer.specs.declared.front.Spacing.TheVariants as spacing
use Rattle.std.proofs.lemmas.Bool.Decides.{nat_tests}
use Rattle.syn_tokens.specs.Tok.{Tok, ident, punct}
use Rattle.syn_tokens.specs.Front.{group_at}
use Rattle.syn_lower_spec.specs.Mark.{sign_at, word_at, lifetime_at}
use Rattle.syn_lower_spec.specs.Part as q
use Rattle.syn_lower_spec.specs.Pat as p
use Rattle.syn_lower_spec.specs.Pat.{PatTree}
use Rattle.syn_lower_spec.proofs.Parts.{type_is}
use Rattle.syn_lower_spec.proofs.Ends.{sign_first}
use Rattle.syn_lower_spec.proofs.Pats.{pattern_is, pattern_alike}

-- no type begins with `>`, nor with a lifetime
gt_none : (s : Spacing) (l : List Tok) → (q.type true).reads (punct 62 s ∷ l) ≡ None
unfolding q.at_place q.fn_at q.lifetimes_at q.named q.qpath q.path q.pieces q.segment q.segment_name sign_at word_at group_at
gt_none spacing.Alone l = type_is true (punct 62 spacing.Alone ∷ l)
gt_none spacing.Joint l = type_is true (punct 62 spacing.Joint ∷ l)

quote_none : (l : List Tok) → (q.type true).reads (punct 39 spacing.Joint ∷ l) ≡ None
unfolding q.at_place q.fn_at q.lifetimes_at q.named q.qpath q.path q.pieces q.segment q.segment_name sign_at word_at group_at
quote_none l = type_is true (punct 39 spacing.Joint ∷ l)

-- no pattern begins with `<` before what no type begins with
angle_none : (s : Spacing) (l : List Tok) → (q.type true).reads l ≡ None → (p.pattern true).reads (punct 60 s ∷ l) ≡ None
unfolding p.at_width p.multi p.single p.path_pat p.binding_at q.qpath q.qualified sign_at word_at group_at
angle_none spacing.Alone l h = pattern_is true (punct 60 spacing.Alone ∷ l) ∙ rw h refl
angle_none spacing.Joint l h = pattern_is true (punct 60 spacing.Joint ∷ l) ∙ rw h refl

begins_quote : (m : List Tok) → lifetime_at m ≡ true → (q.type true).reads m ≡ None
unfolding lifetime_at
begins_quote (punct c spacing.Joint ∷ ident w ∷ l) h =
    let is : 39 ≡ c = grind (arith, nat_tests, h) in subst (λ z. (q.type true).reads (punct z spacing.Joint ∷ ident w ∷ l) ≡ None) is (quote_none (ident w ∷ l))
begins_quote _ h = absurd cc

begins_none : (m : List Tok) (a b : Bool) → sign_at (62 ∷ []) m ≡ a → lifetime_at m ≡ b → (a || b) ≡ true → (q.type true).reads m ≡ None
begins_none m true b f g h = sign_first 62 [] (λ z. (q.type true).reads z ≡ None) gt_none m f
begins_none m false true f g h = begins_quote m g
begins_none m false false f g h = absurd cc

-- what a pattern comes before
some_none : {A : Type 0} {x : A} {o : Option A} → o ≡ Some x → o ≡ None → Some x ≡ None
some_none f g = sym f ∙ g

no_angle : (x : PatTree) (l n : List Tok) → (p.pattern true).reads l ≡ Some (x, n) → (a b : Bool) → sign_at (60 ∷ []) l ≡ a → (sign_at (62 ∷ []) (drop 1 l) || lifetime_at (drop 1 l)) ≡ b → (a && b) ≡ false
no_angle x l n f false b g h = refl
no_angle x l n f true false g h = refl
no_angle x l n f true true g h =
    let r : (q.type true).reads (drop 1 l) ≡ None = begins_none (drop 1 l) (sign_at (62 ∷ []) (drop 1 l)) (lifetime_at (drop 1 l)) refl refl h in
    let none : (p.pattern true).reads l ≡ None = sign_first 60 [] (λ z. (q.type true).reads (drop 1 z) ≡ None → (p.pattern true).reads z ≡ None) (λ s z k. angle_none s z k) l g r in
    let e : Some (x, n) ≡ None = some_none f none in absurd cc

-- where a pattern comes after `for`, no lifetimes of a closure do
pub no_lifetimes : (x : PatTree) (l n : List Tok) → (p.pattern true).behind x l ≡ Some n → q.lifetimes_at (ident (codes "for") ∷ l) ≡ false
unfolding q.lifetimes_at word_at
no_lifetimes x l n f = let a = pattern_alike {k = 0} true in no_angle x l n (a.complete l x n f) _ _ refl refl

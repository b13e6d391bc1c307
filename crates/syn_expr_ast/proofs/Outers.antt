-- Attributes that come before an operand are outer ones.
use Rattle.std.specs.Prelude.{not, ◌&&◌}
use Rattle.std.proofs.Common.{◌≡◌, ℕ, zero, suc, Bool, true, false, cond, List, [], ◌∷◌, drop, Option, Some, None, refl}
use Rattle.syn_lexer.specs.declared.front.Delimiter.TheVariants as del
use Rattle.syn_tokens.specs.Tok.{Tok, weight}
use Rattle.syn_lower_spec.specs.Form.{then_behind, more, more_step, fix, iterate}
use Rattle.syn_lower_spec.specs.Mark.{pound}
use Rattle.syn_lower_spec.specs.Part.{outer_attributes, outer_body, verbatim}
use Rattle.syn_lower_spec.specs.Tree.{AttributeTree}
use Rattle.syn_lower_spec.specs.PatFits.{attributes_outer}
use Rattle.syn_lower_spec.proofs.Forms.{behind_some}
use Rattle.syn_expr_spec.proofs.Needs.{heads}

style_is : (b : Bool) (a : AttributeTree) (f : List Tok → Option (List Tok)) (m : List Tok) → a.inner ≡ b → then_behind (cond b None (Some a.tokens)) f ≡ Some m → not b ≡ true
style_is true a f m e h = absurd cc
style_is false a f m e h = refl

body_outer : (a : AttributeTree) (l m : List Tok) → outer_body.behind a l ≡ Some m → not a.inner ≡ true
unfolding outer_body
body_outer a l m h = style_is a.inner a (λ ts. (verbatim del.Bracket).behind ts l) m refl h

iterated : (n : ℕ) (ats : List AttributeTree) (l m : List Tok) → (iterate (more_step pound outer_body) n tt).behind ats l ≡ Some m → attributes_outer ats ≡ true
unfolding iterate
iterated zero ats l m g = absurd cc
iterated (suc n) [] l m g = refl
iterated (suc n) (a ∷ others) l m g = by_test (pound.at l) (λ i d. iterated n others i m d) g
  where
    by_test : (b : Bool) → ((i : List Tok) → (iterate (more_step pound outer_body) n tt).behind others i ≡ Some m → attributes_outer others ≡ true)
        → cond b (cond b (then_behind (outer_body.behind a (drop 1 l)) ((iterate (more_step pound outer_body) n tt).behind others)) None) (cond false (Some l) None) ≡ Some m
        → (not a.inner && attributes_outer others) ≡ true
    by_test true again h =
        let (i, c, d) = behind_some (outer_body.behind a (drop 1 l)) _ m h in
        rw (body_outer a (drop 1 l) i c) (again i d)
    by_test false again h = absurd cc

pub outer_behind : (ats : List AttributeTree) (l m : List Tok) → outer_attributes.behind ats l ≡ Some m → attributes_outer ats ≡ true
unfolding outer_attributes more fix
outer_behind ats l m h = iterated (suc (weight l)) ats l m h

pub outers_are : (l m : List Tok) (ats : List AttributeTree) → outer_attributes.reads l ≡ Some (ats, m) → attributes_outer ats ≡ true
outers_are l m ats h = outer_behind ats l m (heads.outers.sound l ats m h)

pub ruleset outers = (outers_are)

-- What is read first in braces are inner attributes.
use Rattle.std.proofs.Common.{◌≡◌, Bool, true, false, cond, List, [], ◌∷◌, drop, Some, None, refl, ap, sym, ◌∙◌}
use Rattle.syn_tokens.specs.Tok.{Tok}
use Rattle.syn_lower_spec.specs.Tree.{AttributeTree}
use Rattle.syn_lower_spec.specs.Form.{Outcome, and_then, more, prepend}
use Rattle.syn_lower_spec.specs.Part.{inner_attributes, inner_body, verbatim, pound_bang, to_inner}
use Rattle.syn_lexer.specs.declared.front.Delimiter.TheVariants as del
use Rattle.syn_lower_spec.proofs.Forms.{more_is}
use Rattle.syn_lower_spec.proofs.Marks.{pound_bang_present}
use Rattle.syn_lower_spec.proofs.Parts.{inner_body_alike}
use Rattle.syn_lower_spec.proofs.Weights.{some_is}
use Rattle.syn_expr_spec.specs.WellFormed.{attributes_inner}
use Rattle.syn_expr_spec.proofs.Chains.{then_some}

pub inner_attributes_inner : (ats : List AttributeTree) (l n : List Tok) → inner_attributes.reads l ≡ Some (ats, n) → attributes_inner ats ≡ true
unfolding inner_attributes inner_body
inner_attributes_inner [] l n h = refl
inner_attributes_inner (a ∷ ats) l n h = by_mark (λ m o g. inner_attributes_inner ats m o g) (pound_bang.at l) (sym (more_is pound_bang inner_body pound_bang_present (λ k. inner_body_alike) l) ∙ h)
  where
    by_mark : ((m o : List Tok) → (more pound_bang inner_body).reads m ≡ Some (ats, o) → attributes_inner ats ≡ true) → (b : Bool) → cond {A = Outcome (List AttributeTree)} b (cond {A = Outcome (List AttributeTree)} b
        (and_then (and_then (inner_body.reads (drop 2 l)) (λ x m. and_then ((more pound_bang inner_body).reads m) (λ xs o. Some ((x, xs), o)))) (λ p o. Some (prepend p, o))) None) (Some ([], l)) ≡ Some (a ∷ ats, n) → attributes_inner (a ∷ ats) ≡ true
    by_mark again false g = let e : a ∷ ats ≡ [] = ap (λ (r : List AttributeTree × List Tok). r.0) (sym (some_is g)) in absurd cc
    by_mark again true g =
        let (p, i, f) = then_some (and_then (inner_body.reads (drop 2 l)) (λ x m. and_then ((more pound_bang inner_body).reads m) (λ xs o. Some ((x, xs), o)))) (λ p o. Some (prepend p, o)) (a ∷ ats, n) g in
        let (x, j, d) = then_some (inner_body.reads (drop 2 l)) (λ x m. and_then ((more pound_bang inner_body).reads m) (λ xs o. Some ((x, xs), o))) p i in
        let (xs, k, c) = then_some ((more pound_bang inner_body).reads x.1) (λ xs o. Some ((x.0, xs), o)) p d in
        let (ts, u, w) = then_some ((verbatim del.Bracket).reads (drop 2 l)) (λ t m. Some (to_inner t, m)) x j in
        let is_one : to_inner ts.0 ≡ x.0 = ap (λ (r : AttributeTree × List Tok). r.0) (some_is w) in
        let all : prepend p.0 ≡ a ∷ ats = ap (λ (r : List AttributeTree × List Tok). r.0) (some_is f) in
        let pair : (x.0, xs.0) ≡ p.0 = ap (λ (r : (AttributeTree × List AttributeTree) × List Tok). r.0) (some_is c) in
        let both : x.0 ∷ xs.0 ≡ a ∷ ats = ap prepend pair ∙ all in
        let first : x.0 ≡ a = cc in
        let others : xs.0 ≡ ats = cc in
        let inner : a.inner ≡ true = sym (ap (λ (r : AttributeTree). r.inner) (is_one ∙ first)) in
        rw (inner, again x.1 xs.1 (k ∙ ap (λ z. Some (z, xs.1)) others)) refl

pub ruleset inner = (inner_attributes_inner)

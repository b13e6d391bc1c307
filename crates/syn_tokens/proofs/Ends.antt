-- The ends of a list of token trees.
use Rattle.std.proofs.Common.{◌≡◌, ◌-◌, Option, None, Some, List, [], ◌∷◌, length, slice_get, refl, ap, subst, ◌∙◌, arith}
use Rattle.syn_tokens.specs.Spans.{BeginsAt, EndsAt, last_of, IsPlaceOf, IsPlaced}
use Rattle.syn_tokens.specs.Places.{IsAt}
use Rattle.syn_tokens.specs.View.{toks_of}
use Rattle.syn_tokens.specs.declared.tree.Span.{Span}
use Rattle.syn_tokens.specs.declared.tree.TokenTree.{TokenTree}
use Rattle.syn_tokens.specs.declared.tree.TokenTree.TheVariants.{Group, Ident, Punct, Literal}

begins : (t : TokenTree) (s : Span) → IsAt t s → BeginsAt t s.lo
begins (Group g) s h = ap (λ x. x.lo) h
begins (Ident i) s h = tt
begins (Punct p) s h = ap (λ x. x.lo) h
begins (Literal l) s h = tt

closes : (t : TokenTree) (s : Span) → IsAt t s → EndsAt t s.hi
closes (Group g) s h = ap (λ x. x.hi) h
closes (Ident i) s h = tt
closes (Punct p) s h = ap (λ x. x.hi) h
closes (Literal l) s h = tt

at_last : (t : TokenTree) (ts : List TokenTree) → slice_get (t ∷ ts) (length ts) ≡ Some (last_of t ts)
at_last t [] = refl
at_last t (u ∷ us) = at_last u us

last_is : (t : TokenTree) (ts : List TokenTree) → slice_get (t ∷ ts) (length (t ∷ ts) - 1) ≡ Some (last_of t ts)
last_is t ts = let e : length (t ∷ ts) - 1 ≡ length ts = omega arith in ap (slice_get (t ∷ ts)) e ∙ at_last t ts

-- the value of an option, or this one
abbrev known : TokenTree → Option TokenTree → TokenTree
known t None = t
known t (Some u) = u

pub at_both : (ts : List TokenTree) (first last : TokenTree) (a b : Span) → Some first ≡ slice_get ts 0 → Some last ≡ slice_get ts (length ts - 1) → IsAt first a → IsAt last b → IsPlaceOf ts (Some (record { lo = a.lo; hi = b.hi }))
at_both [] first last a b p q x y = absurd cc
at_both (t ∷ ts) first last a b p q x y =
    let e : first ≡ t = ap (known t) p in
    let d : last ≡ last_of t ts = ap (known t) (q ∙ last_is t ts) in
    (begins t a (subst (λ z. IsAt z a) e x), closes (last_of t ts) b (subst (λ z. IsAt z b) d y))

pub nowhere : (ts : List TokenTree) → None ≡ slice_get ts 0 → IsPlaceOf ts None
nowhere [] p = refl
nowhere (t ∷ ts) p = absurd cc

pub nowhere_last : (ts : List TokenTree) → None ≡ slice_get ts (length ts - 1) → IsPlaceOf ts None
nowhere_last [] p = refl
nowhere_last (t ∷ ts) p = let q = p ∙ last_is t ts in absurd cc

pub placed : (ts : List TokenTree) (place : Option Span) → IsPlaceOf ts place → IsPlaced (toks_of ts) place
placed [] None h = refl
placed [] (Some s) h = absurd cc
placed (t ∷ ts) None h = absurd h
placed (t ∷ ts) (Some s) h = λ e. cc

pub ruleset ends = (at_both, nowhere, nowhere_last, placed)

-- Where no path begins, no path is read, and no type by its name.
use Rattle.std.proofs.Common.{◌≡◌, Bool, true, false, ◌||◌, List, [], ◌∷◌, None, refl}
use Rattle.syn_tokens.specs.Tok.{Tok, ident, punct, literal, group}
use Rattle.syn_lower_spec.specs.Mark.{colon2, less}
use Rattle.syn_lower_spec.specs.Part.{type, named, qpath, path, pieces, segment, segment_name}
use Rattle.syn_lower_spec.specs.Pat.{begins_segment}
use Rattle.syn_lower_spec.specs.declared.label.PathStyle.{PathStyle}
use Rattle.syn_lower_spec.specs.declared.label.PathStyle.TheVariants as style

no_segment : (s : PathStyle) (l : List Tok) → begins_segment l ≡ false → (segment type s).reads l ≡ None
unfolding segment segment_name
no_segment s [] h = refl
no_segment s (ident w ∷ l) h = rw h refl
no_segment s (punct c p ∷ l) h = refl
no_segment s (literal w ∷ l) h = refl
no_segment s (group d i ∷ l) h = refl

none_of : (a b c : Bool) → (a || (b || c)) ≡ false → (a ≡ false) × ((b ≡ false) × (c ≡ false))
none_of true b c h = absurd cc
none_of false true c h = absurd cc
none_of false false true h = absurd cc
none_of false false false h = (refl, (refl, refl))

pub qpath_absent : (s : PathStyle) (l : List Tok) → (begins_segment l || (colon2.at l || less.at l)) ≡ false → (qpath type s).reads l ≡ None
unfolding qpath path pieces
qpath_absent s l h =
    let n = none_of (begins_segment l) (colon2.at l) (less.at l) h in
    rw n.1.1 (rw n.1.0 (rw (no_segment s l n.0) refl))

pub named_absent : (l : List Tok) → (begins_segment l || (colon2.at l || less.at l)) ≡ false → (named type).reads l ≡ None
unfolding named
named_absent l h = rw (qpath_absent style.Type l h) refl

pub ruleset types = (named_absent)

-- What was there before stays in front.
use Rattle.std.proofs.Common.{◌≡◌, List, [], ◌++◌, sym, ap, ◌∙◌, append_assoc}
use Rattle.std.proofs.lemmas.List.{append-nil}
use Rattle.syn_tokens.specs.Tok.{Tok}
use Rattle.syn_tokens.specs.Input.{IsFront}

pub front_same : (xs : List Tok) → IsFront xs xs
front_same xs = record { more = []; is = sym (append-nil xs) }

pub front_more : (xs ys zs : List Tok) → ys ≡ xs ++ zs → IsFront xs ys
front_more xs ys zs e = record { more = zs; is = e }

pub front_through : (xs ys zs : List Tok) → IsFront xs ys → IsFront ys zs → IsFront xs zs
front_through xs ys zs h k = record { more = h.more ++ k.more; is = k.is ∙ ap (λ a. a ++ k.more) h.is ∙ append_assoc xs h.more k.more }

pub ruleset fronts = (front_same, front_more, front_through)

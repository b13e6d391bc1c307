-- What reads leave.
use Rattle.std.proofs.Common.{◌≡◌, ℕ, ◌-◌, ◌≤◌, List, [], ◌∷◌, ◌++◌, length, take, drop, refl, sym, ◌∙◌, ap, arith, length-append, append-nil}
use Rattle.std.proofs.lemmas.List.{take-append-drop}
use Rattle.std.proofs.Math.Seq.{drop-append_seam}
use Rattle.syn_tokens.specs.Input.{Input, IsTail, IsAfter}
use Rattle.syn_tokens.specs.View.{toks_of, toks_of-append, length-toks_of, toks_of-drop}
use Rattle.syn_tokens.specs.declared.tree.TokenTree.{TokenTree}

-- a tail is no longer than the list
pub tail_le : (xs ys : List TokenTree) → IsTail (toks_of ys) (toks_of xs) → length ys ≤ length xs
tail_le xs ys h = omega (arith, length-toks_of xs, length-toks_of ys, simp length-append at (ap length h.is))

-- and comes after as many trees as it lacks
pub tail_at : (xs ys : List TokenTree) → IsTail (toks_of ys) (toks_of xs) → toks_of (drop (length xs - length ys) xs) ≡ toks_of ys
tail_at xs ys h =
    let n : length xs - length ys ≡ length h.front = omega (arith, length-toks_of xs, length-toks_of ys, simp length-append at (ap length h.is)) in
    rw (toks_of-drop, n, h.is) (drop-append_seam h.front (toks_of ys))

-- and what comes before it is the front
pub front_at : (xs ys : List TokenTree) → IsTail (toks_of ys) (toks_of xs) → toks_of xs ≡ toks_of (take (length xs - length ys) xs) ++ toks_of ys
front_at xs ys h =
    let n = length xs - length ys in
    let one : toks_of (take n xs) ++ toks_of (drop n xs) ≡ toks_of xs = sym (toks_of-append (take n xs) (drop n xs)) ∙ ap toks_of (take-append-drop n xs) in
    sym one ∙ ap (λ r. toks_of (take n xs) ++ r) (tail_at xs ys h)

pub after_same : (i : Input) → IsAfter i i
after_same i = record { front = []; is = refl; noted = λ s h. h }

pub after_drop : (n : ℕ) (i o : Input) → o ≡ record i { rest = drop n i.rest } → IsAfter i o
after_drop n i o e = rw e record { front = take n i.rest; is = sym (take-append-drop n i.rest); noted = λ s h. h }

pub after_one : (i o : Input) → o.rest ≡ drop 1 i.rest → o.noted ≡ i.noted → IsAfter i o
after_one i o e n = record { front = take 1 i.rest; is = sym (ap (λ r. take 1 i.rest ++ r) e ∙ take-append-drop 1 i.rest); noted = λ s h. n ∙ h }

pub after_nothing : (i o : Input) → o.rest ≡ [] → o.noted ≡ i.noted → IsAfter i o
after_nothing i o e n = record { front = i.rest; is = sym (ap (λ r. i.rest ++ r) e ∙ append-nil i.rest); noted = λ s h. n ∙ h }

-- a read leaves a tail
pub tail_after : (i o : Input) → IsAfter i o → IsTail o.rest i.rest
tail_after i o h = record { front = h.front; is = h.is }

pub ruleset tails = (after_same, after_drop, after_one, after_nothing)

pub drop_all : {A : Type 0} (xs : List A) → drop (length xs) xs ≡ []
drop_all [] = refl
drop_all (x ∷ xs) = drop_all xs

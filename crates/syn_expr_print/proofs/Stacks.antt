-- Lists of summaries: what is taken from the end.
use Rattle.std.specs.Prelude.{◌-◌, ◌^◌, min, Result, Ok, Err}
use Rattle.std.proofs.Common.{◌≡◌, ◌+◌, ℕ, List, [], ◌∷◌, ◌++◌, length, OnOk, subst, refl, sym, ◌∙◌, ap, append_assoc, arith}
use Rattle.std.proofs.lemmas.List.{append_cancel_right, append-nil, length-append}
use Rattle.syn_expr_spec.specs.declared.summary.Summary.{Summary}
use Rattle.syn_expr_print.specs.declared.print.Summaries.{Summaries}
use Rattle.syn_expr_print.specs.Printing.{EndsWith}
use Rattle.syn_expr_print.specs.Taken.{Taken}

pub ends_back : (xs a b : List Summary) → EndsWith xs (a ++ b) → EndsWith xs b
ends_back xs a b h = record { rest = h.rest ++ a; is = h.is ∙ sym (append_assoc h.rest a b) }

pub ends_front : (xs ys a b : List Summary) → EndsWith xs (a ++ b) → xs ≡ ys ++ b → EndsWith ys a
ends_front xs ys a b h e = record { rest = h.rest; is = append_cancel_right ys (h.rest ++ a) b (sym e ∙ h.is ∙ sym (append_assoc h.rest a b)) }

pub ends_all : (xs : List Summary) → EndsWith xs xs
ends_all xs = record { rest = []; is = refl }

last_same : (xs ys : List Summary) (x y : Summary) → xs ++ x ∷ [] ≡ ys ++ y ∷ [] → x ≡ y
last_same [] [] x y e = cc
last_same [] (b ∷ []) x y e = absurd cc
last_same [] (b ∷ (c ∷ ys)) x y e = absurd cc
last_same (a ∷ []) [] x y e = absurd cc
last_same (a ∷ (c ∷ xs)) [] x y e = absurd cc
last_same (a ∷ xs) (b ∷ ys) x y e = let t : xs ++ x ∷ [] ≡ ys ++ y ∷ [] = cc in last_same xs ys x y t

-- before the summary at the end are those of the operands
pub front_of : (xs ys a : List Summary) (x y : Summary) → xs ≡ ys ++ x ∷ [] → EndsWith xs (a ++ y ∷ []) → EndsWith ys a
front_of xs ys a x y e h =
    let s : ys ++ x ∷ [] ≡ (h.rest ++ a) ++ y ∷ [] = sym e ∙ h.is ∙ sym (append_assoc h.rest a (y ∷ [])) in
    let l = last_same ys (h.rest ++ a) x y s in
    record { rest = h.rest; is = append_cancel_right ys (h.rest ++ a) (y ∷ []) (ap (λ z. ys ++ z ∷ []) (sym l) ∙ s) }

-- ---- what is taken in turn

summed : (a b c x y : ℕ) → min b (2 ^ 64 - 1) ≡ min (a + x) (2 ^ 64 - 1) → min c (2 ^ 64 - 1) ≡ min (b + y) (2 ^ 64 - 1) → min c (2 ^ 64 - 1) ≡ min (a + (y + x)) (2 ^ 64 - 1)
summed a b c x y h g = omega arith

pub taken-both : (a b c : Summaries) (xs ys : List Summary) → Taken a b xs → Taken b c ys → Taken a c (ys ++ xs)
taken-both a b c xs ys h g = record {
  items = h.items ∙ ap (λ z. z ++ xs) g.items ∙ append_assoc c.left.items ys xs;
  visits = summed a.visits b.visits c.visits (length xs) (length ys) h.visits g.visits ∙ ap (λ n. min (a.visits + n) (2 ^ 64 - 1)) (sym (length-append ys xs));
}

pub taken-none : (a : Summaries) → Taken a a []
taken-none a = record { items = sym (append-nil a.left.items); visits = ap (λ n. min n (2 ^ 64 - 1)) (omega arith) }

-- what is left ends with the summaries that come next
pub taken-left : (a b : Summaries) (xs ys : List Summary) → EndsWith a.left.items (ys ++ xs) → Taken a b xs → EndsWith b.left.items ys
taken-left a b xs ys h g = ends_front a.left.items b.left.items ys xs h g.items

-- and so where the last step is not refused
pub taken-on : {A E : Type 0} (r : Result A E) (a b c : Summaries) (xs ys all : List Summary) → all ≡ ys ++ xs → Taken a b xs → OnOk r (Taken b c ys) → OnOk r (Taken a c all)
taken-on (Ok x) a b c xs ys all e h g = subst (λ l. Taken a c l) (sym e) (taken-both a b c xs ys h g)
taken-on (Err x) a b c xs ys all e h g = g

pub ruleset takes = (taken-both, taken-none, taken-left, ends_back)

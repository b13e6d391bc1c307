-- The turns of a loop: the summaries of what comes next are left.
use Rattle.std.proofs.Common.{◌≡◌, ◌-◌, ◌≤◌, List, [], ◌∷◌, ◌++◌, length, take, drop, get_or, sym, ◌∙◌, ap, subst, append_assoc, arith}
use Rattle.std.proofs.lemmas.List.{append-nil, take_all}
use Rattle.syn_tokens.specs.Tok.{Tok}
use Rattle.syn_expr_spec.specs.declared.summary.Summary.{Summary}
use Rattle.syn_expr_print.specs.declared.print.Summaries.{Summaries}
use Rattle.syn_expr_print.specs.Printing.{EndsWith}
use Rattle.syn_expr_print.specs.Taken.{Taken, Going}
use Rattle.syn_expr_print.proofs.Stacks.{ends_back, taken-both, taken-none, taken-left}

pub going-start : (a : Summaries) (all : List Summary) → Going a a all all
going-start a all = record { front = []; is = sym (append-nil all); taken = taken-none a }

pub going-on : (a b c : Summaries) (all next xs : List Summary) → Going a b all (next ++ xs) → Taken b c xs → Going a c all next
going-on a b c all next xs h g = record { front = xs ++ h.front; is = h.is ∙ append_assoc next xs h.front; taken = taken-both a b c h.front xs h.taken g }

-- nothing is left to come
pub going-end : (a b : Summaries) (all : List Summary) → Going a b all [] → Taken a b all
going-end a b all h = subst (λ l. Taken a b l) (sym h.is) h.taken

pub going-left : (a b : Summaries) (all next : List Summary) → EndsWith a.left.items all → Going a b all next → EndsWith b.left.items next
going-left a b all next e h = taken-left a b h.front next (subst (λ l. EndsWith a.left.items l) h.is e) h.taken

-- what comes next of these
pub going-next : (a b : Summaries) (all next xs : List Summary) → EndsWith a.left.items all → Going a b all (next ++ xs) → EndsWith b.left.items xs
going-next a b all next xs e h = ends_back b.left.items next xs (going-left a b all (next ++ xs) e h)

-- ---- the first, and what follows it

pub cut : {A : Type 0} (xs : List A) (d : A) → 1 ≤ length xs → xs ≡ get_or xs 0 d ∷ take (length xs - 1) (drop 1 xs)
cut [] d h = absurd (omega arith)
cut (x ∷ xs) d h = ap (λ l. x ∷ l) (sym (take_all (length (x ∷ xs) - 1) xs (omega arith)))

pub cut_item : {A : Type 0} (xs : List A) (d : A) → 1 ≤ length xs → d ≡ get_or xs 0 d → xs ≡ d ∷ take (length xs - 1) (drop 1 xs)
cut_item xs d h e = cut xs d h ∙ ap (λ x. x ∷ take (length xs - 1) (drop 1 xs)) (sym e)

-- an operand and the sign after it
pub sign_behind : (now x s more : List Tok) {infixed new all : List Tok} → infixed ≡ now ++ x → new ≡ infixed ++ s → now ++ ((x ++ s) ++ more) ≡ all → new ++ more ≡ all
sign_behind now x s more a b e =
    ap (λ l. l ++ more) b ∙ ap (λ l. (l ++ s) ++ more) a ∙ ap (λ l. l ++ more) (append_assoc now x s) ∙ append_assoc now (x ++ s) more ∙ e

-- one of them
pub one_behind : (now x more : List Tok) {new all : List Tok} → new ≡ now ++ x → now ++ (x ++ more) ≡ all → new ++ more ≡ all
one_behind now x more a e = ap (λ l. l ++ more) a ∙ append_assoc now x more ∙ e

pub ruleset turns = (going-start, going-on, going-end, going-next, taken-none)

pub ruleset nils = (append-nil)

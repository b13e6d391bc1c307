-- Operators are on tokens.
use Rattle.std.proofs.Common.{◌≡◌, ℕ, ◌<◌, Bool, true, false, List, [], ◌∷◌, length, Option, Some, subst, ◌∙◌, arith}
use Rattle.std.specs.Prelude.{if◌then◌else◌, codes}
use Rattle.std.proofs.lemmas.Grind.{common_steps}
use Rattle.syn_tokens.specs.Tok.{Tok}
use Rattle.syn_lower_spec.specs.Mark.{sign_at, word_at}
use Rattle.syn_expr_spec.specs.declared.kinds.UnKind.{UnKind}
use Rattle.syn_expr_spec.specs.declared.kinds.Infix.{Infix}
use Rattle.syn_expr_spec.specs.declared.kinds.Infix.TheVariants as inf
use Rattle.syn_expr_spec.specs.Op.{infix_at, longest, entries}
use Rattle.syn_expr_tokens.specs.Signs.{first, second, third, operator}
use Rattle.syn_expr_tokens.specs.Reads.{prefix_at}
use Rattle.syn_expr_tokens.proofs.Longest.{operator_at}

pub prefix_present : (l : List Tok) (op : UnKind) → prefix_at l ≡ Some op → 0 < length l
unfolding prefix_at sign_at
prefix_present [] op h = absurd cc
prefix_present (x ∷ l) op h = omega arith

pub infix_present : (l : List Tok) (p : Infix × ℕ) → infix_at l ≡ Some p → 0 < length l
unfolding infix_at sign_at word_at
infix_present [] p h = absurd cc
infix_present (x ∷ l) p h = omega arith

operator_some : (a b c : ℕ) (p : Infix × ℕ) → operator a b c ≡ Some p → 0 < p.1
unfolding operator
operator_some a b c p h = grind (arith, common_steps)

by_word : (b : Bool) (o : Option (Infix × ℕ)) (p : Infix × ℕ) → (o ≡ Some p → 0 < p.1) → (if b then Some (inf.Cast, 1) else o) ≡ Some p → 0 < p.1
by_word true o p k h = let e : (inf.Cast, 1) ≡ p = cc in subst (λ (q : Infix × ℕ). 0 < q.1) e (omega arith)
by_word false o p k h = k h

pub infix_some : (l : List Tok) (p : Infix × ℕ) → infix_at l ≡ Some p → 0 < p.1
unfolding infix_at
infix_some l p h = by_word (word_at (codes "as") l) (longest entries l) p (λ k. operator_some (first l) (second l) (third l) p (operator_at l ∙ k)) h

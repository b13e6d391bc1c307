-- Literals of one kind are read exactly where their tokens are.
use Rattle.std.proofs.Common.{◌≡◌, ℕ, Bool, true, false, cond, List, Some, None}
use Rattle.syn_tokens.specs.Tok.{Tok}
use Rattle.syn_lower_spec.specs.declared.label.LitKind.{LitKind}
use Rattle.syn_lower_spec.specs.Form.{Outcome}
use Rattle.syn_lower_spec.specs.Same.{same_kind, same_lit}
use Rattle.syn_lower_spec.specs.Part.{find_lit}
use Rattle.syn_lower_spec.specs.Kind.{only, of_kind}
use Rattle.syn_lower_spec.proofs.Same.{compares_lits}
use Rattle.syn_lower_spec.proofs.Forms.{Alike, leaf_alike}
use Rattle.syn_lower_spec.proofs.Parts.{lit_falls}
use Rattle.syn_lower_spec.proofs.Tails.{Leaves, leaf_leaves}
use Rattle.syn_lower_spec.proofs.TailParts.{lit_leaves}
use Rattle.syn_lower_spec.proofs.Takes.{Takes, lit_takes}

pub only_some : {A : Type 0} (is : A → Bool) (o : Outcome A) (p : A × List Tok) → only is o ≡ Some p → o ≡ Some p
only_some is None p h = absurd cc
only_some {A} is (Some q) p h = by_bool (is q.0) h
  where
    by_bool : (b : Bool) → cond {A = Outcome A} b (Some q) None ≡ Some p → ◌≡◌ {A = Outcome A} (Some q) (Some p)
    by_bool true h = h
    by_bool false h = absurd cc

pub of_kind_alike : {j : ℕ} (k : LitKind) → Alike j (of_kind k) (of_kind k)
unfolding of_kind
of_kind_alike k = leaf_alike compares_lits (record { falls = λ l x n h. lit_falls l x n (only_some (λ x. same_kind x.kind k) (find_lit l) (x, n) h) })

pub of_kind_leaves : (k : LitKind) → Leaves (of_kind k)
unfolding of_kind
of_kind_leaves k = leaf_leaves same_lit (record { leaves = λ l x n h. lit_leaves l x n (only_some (λ x. same_kind x.kind k) (find_lit l) (x, n) h) })

pub of_kind_takes : (k : LitKind) → Takes (of_kind k)
unfolding of_kind
of_kind_takes k = record { takes = λ l x n h. lit_takes l x n (only_some (λ x. same_kind x.kind k) (find_lit l) (x, n) h) }

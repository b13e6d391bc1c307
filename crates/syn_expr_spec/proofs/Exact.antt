-- Reading is exact.
use Rattle.std.proofs.Common.{◌≡◌, ℕ, zero, suc, ◌≤◌, List, Some, ap, sym, ◌∙◌, arith}
use Rattle.syn_tokens.specs.Tok.{Tok, weight}
use Rattle.syn_expr_spec.specs.declared.kinds.Place.{Place}
use Rattle.syn_expr_spec.specs.Tree.{Tree}
use Rattle.syn_expr_spec.specs.Stands.{Stands}
use Rattle.syn_expr_spec.specs.Read.{bounded, expr}
use Rattle.syn_lower_spec.specs.Form.{Form}
use Rattle.syn_lower_spec.specs.Laws.{IsReadable, IsExact}
use Rattle.syn_lower_spec.proofs.Weights.{some_is}
use Rattle.syn_expr_spec.specs.Exact.{HeadsAreExact, ReadingIsExact, OneTree}
use Rattle.syn_expr_spec.proofs.Heads.{heads_readable}
use Rattle.syn_expr_spec.proofs.Needs.{heads}
use Rattle.syn_expr_spec.proofs.Lesses.{node_less}
use Rattle.syn_expr_spec.proofs.SoundTurns.{at_place_sound}
use Rattle.syn_expr_spec.proofs.Complete.{at_place_complete}

readable_exact : {A : Type 0} {k : ℕ} {f : Form A} → IsReadable k f → IsExact f
readable_exact r l x rest = ((λ h. r.stands l rest x h), (λ h. r.found l rest x h))

pub heads_exact : HeadsAreExact
heads_exact = record {
  leaves = readable_exact heads_readable.leaves;
  prefixes = readable_exact heads_readable.prefixes;
  trailers = readable_exact heads_readable.trailers;
  pieces = λ s. readable_exact (heads_readable.pieces s);
  paths = λ b. readable_exact (heads_readable.expr_paths b);
  closure_heads = readable_exact heads_readable.closure_heads;
  for_heads = readable_exact heads_readable.for_heads;
  labels = readable_exact heads_readable.labels;
  jumps = readable_exact heads_readable.jumps;
  ranges = readable_exact heads_readable.ranges;
  bodies = readable_exact heads_readable.bodies;
}

bounded_sound : (k : ℕ) (p : Place) (l : List Tok) (x : Tree) (n : List Tok) → bounded k p l ≡ Some (x, n) → Stands p l x n
unfolding bounded
bounded_sound zero p l x n h = absurd cc
bounded_sound (suc k) p l x n h = at_place_sound heads (bounded k) (bounded_sound k) p l (x, n) h

bounded_complete : (k : ℕ) (p : Place) (l n : List Tok) (x : Tree) → weight l ≤ k → Stands p l x n → bounded k p l ≡ Some (x, n)
unfolding bounded
bounded_complete zero p l n x b s = let a = node_less s.node in absurd (omega (arith, a.less))
bounded_complete (suc k) p l n x b s =
    at_place_complete (bounded k) (suc k) (λ v m o y c t. bounded_complete k v m o y (omega arith) t) p l n x b s

pub expr_sound : (p : Place) (l : List Tok) (x : Tree) (n : List Tok) → expr p l ≡ Some (x, n) → Stands p l x n
unfolding expr
expr_sound p l x n h = bounded_sound (weight l) p l x n h

pub expr_complete : (p : Place) (l : List Tok) (x : Tree) (n : List Tok) → Stands p l x n → expr p l ≡ Some (x, n)
unfolding expr
expr_complete p l x n s = bounded_complete (weight l) p l n x (omega arith) s

pub exact : ReadingIsExact
exact = record { sound = expr_sound; complete = expr_complete }

pub at_most_one : OneTree
at_most_one p l x y m n s t =
    let a : Some (x, m) ≡ Some (y, n) = sym (expr_complete p l x m s) ∙ expr_complete p l y n t in
    let b = some_is a in (ap (λ (r : Tree × List Tok). r.0) b, ap (λ (r : Tree × List Tok). r.1) b)

-- Reading on a fork by a reading that is exact, for callers.
use Rattle.std.proofs.Common.{◌≡◌, ◌≢◌, List, Some, None, refl, ap, sym, subst, ◌∙◌, arith}
use Rattle.std.proofs.lemmas.Option.{none-some}
use Rattle.std.specs.Prelude.{Ok, Err}
use Rattle.syn_tokens.specs.Tok.{Tok}
use Rattle.syn_tokens.specs.Input.{Input, start_of}
use Rattle.syn_tokens.proofs.Inputs.{after_same}
use Rattle.syn_tokens.specs.declared.error.Error.{Error}
use Rattle.syn_tokens.specs.declared.error.ErrorKind.{ErrorKind}
use Rattle.syn_tokens.specs.declared.error.ErrorKind.TheVariants.{OutOfMemory}
use Rattle.syn_lower_spec.specs.Form.{Outcome}
use Rattle.syn_lower_spec.proofs.Weights.{some_is}
use Rattle.syn_expr_spec.specs.Exact.{IsExact}
use Rattle.syn_expr_ast.specs.Printed.{ReadsExactly}

-- ---- what is given, and what is refused

pub same_read : {B : Type 0} {o : Outcome B} {x y : B} {m n : List Tok} → o ≡ Some (x, m) → o ≡ Some (y, n) → (x ≡ y) × (m ≡ n)
same_read h g = let e = some_is (sym h ∙ g) in (ap (λ q. q.0) e, ap (λ q. q.1) e)

memory_alone : (k : ErrorKind) → (k ≢ OutOfMemory → ⊥) → k ≡ OutOfMemory
memory_alone OutOfMemory h = refl
memory_alone k h = absurd (h (λ e. cc))

-- what stands is refused only because memory ran out
pub refused_by : {B : Type 0} {o : Outcome B} {x : B} {n : List Tok} (k : ErrorKind) → (k ≢ OutOfMemory → o ≡ None) → o ≡ Some (x, n) → k ≡ OutOfMemory
refused_by {x = x} {n = n} k h g = memory_alone k (λ ne. none-some (x, n) (sym (h ne) ∙ g))

-- ---- on a fork

pub reads_ahead : {A B : Type 0} {seen : A → B} {reads : List Tok → Outcome B} {stands : List Tok → B → List Tok → Type 0} → IsExact reads stands → (old fork new : Input) (v : A) → fork ≡ start_of old.rest → reads fork.rest ≡ Some (seen v, new.rest) → new.noted ≡ old.noted → ReadsExactly seen stands old (Ok v) new
reads_ahead {seen = seen} {reads = reads} exact old fork new v f h n =
    let r : reads old.rest ≡ Some (seen v, new.rest) = subst (λ i. reads i.rest ≡ Some (seen v, new.rest)) f h in
    let d = exact.tail _ _ _ r in
    record {
      read = exact.sound _ _ _ r;
      found = λ x rest s. same_read r (exact.complete _ x rest s);
      noted = n;
      after = record { front = d.front; is = d.is; noted = λ s e. n ∙ e };
      stays = tt;
      moves = omega (arith, exact.less _ _ _ r);
    }

pub refuses_ahead : {A B : Type 0} {seen : A → B} {reads : List Tok → Outcome B} {stands : List Tok → B → List Tok → Type 0} → IsExact reads stands → (old fork : Input) (e : Error) → fork ≡ start_of old.rest → (e.kind ≢ OutOfMemory → reads fork.rest ≡ None) → ReadsExactly seen stands old (Err e) old
refuses_ahead {reads = reads} exact old fork e f h = record {
  read = tt;
  found = λ x rest s. refused_by e.kind (λ ne. subst (λ i. reads i.rest ≡ None) f (h ne)) (exact.complete _ x rest s);
  noted = refl;
  after = after_same old;
  stays = refl;
  moves = tt;
}

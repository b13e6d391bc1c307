-- Reading an expression of a kind, as code reads it: an expression, looked at through invisible groups.
use Rattle.std.proofs.Common.{◌≡◌, ◌≢◌, inl, inr, Bool, true, false, List, Some, None, refl, ap, sym, subst, ◌∙◌}
use Rattle.std.specs.Prelude.{Ok, Err}
use Rattle.syn_tokens.specs.Tok.{Tok}
use Rattle.syn_tokens.specs.Input.{Input, start_of}
use Rattle.syn_tokens.specs.declared.error.Error.{Error}
use Rattle.syn_tokens.specs.declared.error.ErrorKind.TheVariants.{OutOfMemory, ExpectedExprKind}
use Rattle.syn_tokens.specs.declared.error.WantedKind.{WantedKind}
use Rattle.syn_expr_spec.specs.Place.{plain}
use Rattle.syn_expr_spec.specs.Tree.{Tree}
use Rattle.syn_expr_spec.specs.Read.{expr}
use Rattle.syn_expr_spec.specs.Alone.{is_inside, unattributed, ungrouped}
use Rattle.syn_expr_spec.specs.AloneRead.{expr_of_kind}
use Rattle.syn_expr_spec.proofs.Exact.{expr_complete}
use Rattle.syn_expr_ast.specs.Printed.{RefusesOthers}
use Rattle.syn_expr_ast.proofs.Exactly.{same_read, refused_by}

module _ (is : Tree → Bool) (l : List Tok) where
  -- one of the kind
  pub kind_found : (t u s : Tree) (n : List Tok) → expr plain l ≡ Some (t, n) → u ≡ ungrouped t → is (unattributed u) ≡ true → s ≡ u → expr_of_kind is l ≡ Some (s, n)
  unfolding expr_of_kind
  kind_found t u s n h g a e = rw (h, ap (λ v. is (unattributed v)) (sym g) ∙ a) (ap (λ v. Some (v, n)) (sym (e ∙ g)))

  -- one of another
  pub kind_other : (t u : Tree) (n : List Tok) → expr plain l ≡ Some (t, n) → u ≡ ungrouped t → is (unattributed u) ≡ false → expr_of_kind is l ≡ None
  unfolding expr_of_kind
  kind_other t u n h g a = rw (h, ap (λ v. is (unattributed v)) (sym g) ∙ a) refl

  -- none
  pub kind_none : expr plain l ≡ None → expr_of_kind is l ≡ None
  unfolding expr_of_kind
  kind_none h = rw h refl

-- what was read is of the kind, so that no other stands
pub others_read : (A : Type 0) (is : Tree → Bool) (wanted : WantedKind) (old fork : Input) (v : A) (t u : Tree) (n : List Tok) → fork ≡ start_of old.rest
    → expr plain fork.rest ≡ Some (t, n) → u ≡ ungrouped t → is (unattributed u) ≡ true → RefusesOthers {A = A} is wanted old (Ok v)
others_read A is wanted old fork v t u n f h g a x m s b =
    let r : expr plain old.rest ≡ Some (t, n) = subst (λ (i : Input). expr plain i.rest ≡ Some (t, n)) f h in
    let e = same_read r (expr_complete plain old.rest x m s) in
    cc (ap (λ z. is_inside is z) e.0, b, ap (λ v. is (unattributed v)) (sym g) ∙ a)

-- nothing stands
pub others_none : (A : Type 0) (is : Tree → Bool) (wanted : WantedKind) (old fork : Input) (e : Error) → fork ≡ start_of old.rest
    → (e.kind ≢ OutOfMemory → expr plain fork.rest ≡ None) → RefusesOthers {A = A} is wanted old (Err e)
others_none A is wanted old fork e f h x m s b =
    inl (refused_by e.kind (λ ne. subst (λ (i : Input). expr plain i.rest ≡ None) f (h ne)) (expr_complete plain old.rest x m s))

-- another is told
pub others_known : (A : Type 0) (is : Tree → Bool) (wanted : WantedKind) (old : Input) (e : Error) → e.kind ≡ ExpectedExprKind wanted → RefusesOthers {A = A} is wanted old (Err e)
others_known A is wanted old e h x m s b = inr h

pub ruleset others = (others_read, others_none, others_known)

pub ruleset kinds = (kind_found, kind_other, kind_none)

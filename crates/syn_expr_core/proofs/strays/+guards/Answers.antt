use Rattle.std.proofs.Common.{◌≡◌, ◌++◌, length, sym, ap, ◌∙◌, subst, arith}
use Rattle.std.specs.Prelude.{IfOk}
use Rattle.syn_pat.specs.View.{field_guards}
use Rattle.syn_expr_core.specs.Strays.{found_trees}
use Rattle.syn_expr_core.specs.View.{pat_of}
use Rattle.syn_expr_core.proofs.StrayGuards.{after_pairs, after_last, without_last, none_more, then_own}
use Rattle.syn_expr_core.proofs.strays.+guards.Goals as goal

pub in_list-returns-in-Some : goal.in_list-returns-in-Some
in_list-returns-in-Some t c =
    let pats = c.args.pats.now in
    let n = ap length c.deref-pair-items.ensures.value in
    let pairs = after_pairs (λ x. (pat_of x).guards) pats.inner.items c.loop-pair.pair-index _ _ (omega (arith, c.loop-pair-test.false)) c.loop-pair.invariant in
    let all = after_last (λ x. (pat_of x).guards) pats c.in-Some.pat _ _ _ c.in-Some.is c.deref.ensures pairs in
    subst (λ gs. IfOk c.find_guards-in-Some.result (λ xs. found_trees xs.items ≡ gs)) all c.find_guards-in-Some.ensures

pub in_list-returns-in-None : goal.in_list-returns-in-None
in_list-returns-in-None t c =
    let pats = c.args.pats.now in
    let n = ap length c.deref-pair-items.ensures.value in
    let pairs = after_pairs (λ x. (pat_of x).guards) pats.inner.items c.loop-pair.pair-index _ _ (omega (arith, c.loop-pair-test.false)) c.loop-pair.invariant in
    without_last (λ x. (pat_of x).guards) pats _ _ c.in-None.is pairs

pub in_cases-returns-in-Some : goal.in_cases-returns-in-Some
in_cases-returns-in-Some t c =
    let cases = c.args.cases.now in
    let n = ap length c.deref-pair-items.ensures.value in
    let pairs = after_pairs (λ x. (pat_of x).guards) cases.inner.items c.loop-pair.pair-index _ _ (omega (arith, c.loop-pair-test.false)) c.loop-pair.invariant in
    let all = after_last (λ x. (pat_of x).guards) cases c.in-Some.pat _ _ _ c.in-Some.is c.deref.ensures pairs in
    subst (λ gs. IfOk c.find_guards-in-Some.result (λ xs. found_trees xs.items ≡ gs)) all c.find_guards-in-Some.ensures

pub in_cases-returns-in-None : goal.in_cases-returns-in-None
in_cases-returns-in-None t c =
    let cases = c.args.cases.now in
    let n = ap length c.deref-pair-items.ensures.value in
    let pairs = after_pairs (λ x. (pat_of x).guards) cases.inner.items c.loop-pair.pair-index _ _ (omega (arith, c.loop-pair-test.false)) c.loop-pair.invariant in
    without_last (λ x. (pat_of x).guards) cases _ _ c.in-None.is pairs

pub in_fields-returns-in-Short : goal.in_fields-returns-in-Short
in_fields-returns-in-Short t c =
    let fields = c.args.fields.now in
    let n = ap length c.deref-pair-items.ensures.value in
    let pairs = after_pairs (λ y. field_guards pat_of y.kind) fields.inner.items c.loop-pair.pair-index _ _ (omega (arith, c.loop-pair-test.false)) c.loop-pair.invariant in
    let all = after_last (λ y. field_guards pat_of y.kind) fields c.in-Some.field _ _ _ c.in-Some.is c.deref-in-Some.ensures pairs in
    none_more (found_trees c.loop-pair.found.items) _ (ap (field_guards pat_of) c.in-Short.is) ∙ all

pub in_fields-returns-in-Full-kind : goal.in_fields-returns-in-Full-kind
in_fields-returns-in-Full-kind t c =
    let fields = c.args.fields.now in
    let before = found_trees c.loop-pair.found.items in
    let n = ap length c.deref-pair-items.ensures.value in
    let pairs = after_pairs (λ y. field_guards pat_of y.kind) fields.inner.items c.loop-pair.pair-index _ _ (omega (arith, c.loop-pair-test.false)) c.loop-pair.invariant in
    let all = after_last (λ y. field_guards pat_of y.kind) fields c.in-Some.field _ _ _ c.in-Some.is c.deref-in-Some.ensures pairs in
    let last = ap (λ p. before ++ (pat_of p).guards) c.deref-in-Full-kind.ensures ∙ ap (λ k. before ++ field_guards pat_of k) (sym c.in-Full-kind.is) ∙ all in
    subst (λ gs. IfOk c.find_guards-in-Full-kind.result (λ xs. found_trees xs.items ≡ gs)) last c.find_guards-in-Full-kind.ensures

pub in_fields-returns-in-None : goal.in_fields-returns-in-None
in_fields-returns-in-None t c =
    let fields = c.args.fields.now in
    let n = ap length c.deref-pair-items.ensures.value in
    let pairs = after_pairs (λ y. field_guards pat_of y.kind) fields.inner.items c.loop-pair.pair-index _ _ (omega (arith, c.loop-pair-test.false)) c.loop-pair.invariant in
    without_last (λ y. field_guards pat_of y.kind) fields _ _ c.in-None.is pairs

pub in_guarded-returns : goal.in_guarded-returns
in_guarded-returns t c =
    let all = then_own c.args.x.now _ _ _ _ c.deref.ensures c.deref-2.ensures c.in_ok-found.ensures in
    subst (λ gs. IfOk c.one.result (λ xs. found_trees xs.items ≡ gs)) all c.one.ensures

-- Each node is summarized, and printed at most once.
use Rattle.std.proofs.Common.{◌≤◌, ◌-◌, ◌*◌, subst, sym}
use Rattle.std.specs.Prelude.{◌^◌, min}
use Rattle.syn_expr_spec.specs.Tree.{size}
use Rattle.syn_expr_print.proofs.Counts.{twice-size}
use Rattle.syn_expr_print.proofs.print.print_with.Goals as goal

pub returns-clause-most : goal.returns-clause-most
returns-clause-most g c =
    let t = g.E.HasExprTree.tree c.args.x.now in
    let same = c.visits_of.ensures.same in
    let fits = subst (λ n. n ≤ 2 ^ 64 - 1) same c.visits_of.ensures.fits in
    let most = twice-size t _ c.whole.new.summaries c.in_ok-collect.ensures.counted fits c.in_ok-whole.ensures.taken in
    subst (λ n. n ≤ min (2 * size t) (2 ^ 64 - 1)) (sym same) most

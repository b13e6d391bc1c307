use Rattle.std.proofs.Common.{[], ◌∷◌}
use Rattle.syn_expr_core.specs.View.{tree_of}
use Rattle.syn_expr_core.specs.declared.closure.ExprClosure.{out-ExprClosure}
use Rattle.syn_visit_kinds.proofs.Walk.{walk_one}
use Rattle.syn_visit.proofs.Seen.{closure_are, many_walk, parts_stop, parts_walk, pattern_seen, shown_as}
use Rattle.syn_visit.proofs.members.closure.Goals as goal

pub returns-in_err-punctuated_with : goal.returns-in_err-punctuated_with
returns-in_err-punctuated_with g c = parts_stop (tree_of (out-ExprClosure c.args.x.now).body.value ∷ []) _ (closure_are c.args.x.now) c.from_residual.ensures (many_walk c.in_err-punctuated_with.ensures (λ y a b t h. pattern_seen h (λ d x s b t. g.F.Fn.post d.call.now (x, (s, tt)) (b, (t, tt))) (λ one with old b new met. met)))

pub returns : goal.returns
returns g c = parts_walk (closure_are c.args.x.now) (many_walk c.in_ok-punctuated_with.ensures (λ y a b t h. pattern_seen h (λ d x s b t. g.F.Fn.post d.call.now (x, (s, tt)) (b, (t, tt))) (λ one with old b new met. met))) (walk_one _ (shown_as (out-ExprClosure c.args.x.now).body.value c.one.ensures))

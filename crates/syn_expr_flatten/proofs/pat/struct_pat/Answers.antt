use Rattle.std.proofs.Common.{sym, ap, ◌∙◌}
use Rattle.syn_expr_flatten.specs.Pats.{IsFlatFieldPat}
use Rattle.syn_expr_flatten.proofs.Calls.{left_by}
use Rattle.syn_visit_kinds.proofs.Elementwise.{each_by}
use Rattle.syn_expr_flatten.proofs.Pats.{struct_flat}
use Rattle.syn_expr_flatten.proofs.pat.struct_pat.Goals as goal

pub punctuated_mut-requires-clause-inner : goal.punctuated_mut-requires-clause-inner
punctuated_mut-requires-clause-inner g c = λ q has borrowed is. ((λ p full inside e. c.requires.inner q p has (sym (ap (λ f. f.kind) is) ∙ full) inside e), c.requires.gives)

pub returns : goal.returns
returns g c =
    let view = g.P.HasPatTree.view in
    let field = left_by _ (λ x y. IsFlatFieldPat view x y) (λ old new r met. met) in
    struct_flat view c.args.x.now.attrs _ _ _ _ (each_by _ _ field _ _ c.in_ok-punctuated_mut.ensures.values) c.in_ok-punctuated_mut.ensures.trails

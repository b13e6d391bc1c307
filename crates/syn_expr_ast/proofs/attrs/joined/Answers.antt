use Rattle.syn_expr_ast.proofs.Attributed.{joined_all, joined_outer, joined_inner}
use Rattle.syn_expr_ast.proofs.attrs.joined.Goals as goal

pub returns-clause-all : goal.returns-clause-all
returns-clause-all c = joined_all _ _ _ c.in_ok-append.ensures.items

pub returns-clause-outer : goal.returns-clause-outer
returns-clause-outer c = joined_outer _ _ _ c.in_ok-append.ensures.items

pub returns-clause-inner : goal.returns-clause-inner
returns-clause-inner c = joined_inner _ _ _ c.in_ok-append.ensures.items

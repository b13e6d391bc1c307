use Rattle.syn_expr_core.specs.contracts.expr.ExprHash.TheImpl.Laws as hash_laws
use Rattle.syn_laws.proofs.Sames.{expr_tie}
use Rattle.syn_laws.proofs.same.equal_expressions_hash_alike.Goals as goal

pub returns : goal.returns
returns c = λ x y is. hash_laws.respects_eq-law x y ((expr_tie.same x y).1 is)

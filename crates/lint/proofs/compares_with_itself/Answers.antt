use Rattle.lint.proofs.Lint.{known, noticed, another, no_comparison}
use Rattle.lint.proofs.compares_with_itself.Goals as goal

pub returns-in-Compare-clause-sound : goal.returns-in-Compare-clause-sound
returns-in-Compare-clause-sound c = known _ c.in-Binary.operation _ c.equal_expressions.ensures.expr c.in-Binary.is c.in-Compare.ensures _ _ c.deref.ensures c.deref-in-Compare.ensures _ c.eq.ensures

pub returns-in-Compare-clause-complete : goal.returns-in-Compare-clause-complete
returns-in-Compare-clause-complete c = noticed _ c.in-Binary.operation _ c.equal_expressions.ensures.expr c.in-Binary.is _ _ c.deref.ensures c.deref-in-Compare.ensures _ c.eq.ensures

pub returns-in_default-of_binop : goal.returns-in_default-of_binop
returns-in_default-of_binop c =
    record { sound = λ h. absurd cc; complete = λ h. absurd (another _ c.in-Binary.operation _ c.in-Binary.is c.of_binop.ensures c.in_default-of_binop.not-Compare h) }

pub returns-in_default : goal.returns-in_default
returns-in_default c = record { sound = λ h. absurd cc; complete = λ h. absurd (no_comparison _ c.in_default.not-Binary h) }

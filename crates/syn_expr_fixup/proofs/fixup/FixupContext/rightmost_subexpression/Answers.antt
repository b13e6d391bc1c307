use Rattle.std.proofs.Common.{rules, refl}
use Rattle.syn_expr_spec.specs.declared.kinds.Infix.TheVariants as inf
use Rattle.syn_expr_fixup.proofs.fixup.FixupContext.rightmost_subexpression.Goals as goal

pub returns-clause-level : goal.returns-clause-level
returns-clause-level g c =
    let a = c.rightmost_subexpression_fixup-place.ensures.right inf.Assign refl refl in
    let l = c.rightmost_subexpression_fixup-place.ensures.level in
    search rules

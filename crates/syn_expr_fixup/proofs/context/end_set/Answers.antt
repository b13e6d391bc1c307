-- The set that the code makes is that of the rule.
use Rattle.syn_expr_fixup.proofs.Sets.{ends_are}
use Rattle.syn_expr_fixup.proofs.context.end_set.Goals as goal

pub returns : goal.returns
returns c =
    let e = c.wrapped_set-wrapped.ensures in
    rw (c.taken_set.ensures, c.widened-operators.ensures, c.widened-trailers.ensures, e) (ends_are c.args.level c.args.x c.args.always)

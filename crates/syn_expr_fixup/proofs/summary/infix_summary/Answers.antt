-- The set of the right operand's ends is that of the rule.
use Rattle.std.proofs.Common.{◌≡◌, ◌∙◌}
use Rattle.syn_expr_spec.specs.Op.{level}
use Rattle.syn_expr_spec.specs.Summaries.{set_of, end_by, wrapped_by}
use Rattle.syn_expr_fixup.proofs.Sets.{plain_ends}
use Rattle.syn_expr_fixup.proofs.summary.infix_summary.Goals as goal

pub returns : goal.returns
returns c =
    let e = c.end_set.ensures ∙ plain_ends c.level-own.result c.args.y in
    let f : c.end_set.result ≡ set_of (λ n. end_by (level c.args.op) c.args.y n (wrapped_by (level c.args.op) c.args.y n)) = rw c.level-own.ensures at e in
    cc

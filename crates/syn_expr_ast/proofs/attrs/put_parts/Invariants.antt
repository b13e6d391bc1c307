use Rattle.std.proofs.Common.{◌≡◌, ◌++◌, length}
use Rattle.syn_tokens.specs.Input.{IsFront}
use Rattle.syn_lower_leaves.specs.ReadBack.{all_printed}
use Rattle.syn_expr_ast.proofs.attrs.put_parts.Given as goal

abbrev pub invariant-parts : goal.invariant-parts
invariant-parts g l =
    (l.tokens ++ all_printed g.T.ToTokens.printed l.parts ≡ l.fn.tokens ++ all_printed g.T.ToTokens.printed l.fn.parts)
    × IsFront l.fn.tokens l.tokens

abbrev pub decreases-parts : goal.decreases-parts
decreases-parts g l = length l.parts

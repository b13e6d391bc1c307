-- Of the innermost node that is left the first operand's summary is known.
use Rattle.std.proofs.Common.{◌≡◌, ◌++◌, vec_len}
use Rattle.syn_expr_spec.specs.Tree.{Tree}
use Rattle.syn_expr_spec.specs.Summaries.{summary_of}
use Rattle.syn_expr_fixup.specs.Spine.{Prefixes, above}
use Rattle.syn_expr_fixup.proofs.Spines.{Closing}
use Rattle.syn_expr_fixup.proofs.summary.close.Given as goal

abbrev pub invariant-loop-x : goal.invariant-loop-x
invariant-loop-x g l =
    (top t : Tree) → Prefixes g.E.HasExprTree.tree top l.initial.spine.items t → l.initial.summary ≡ summary_of t
    → Closing g.E.HasExprTree.tree top (l.initial.summaries.items ++ above g.E.HasExprTree.tree l.initial.spine.items) l.summaries.items l.spine.items l.summary

abbrev pub decreases-loop-x : goal.decreases-loop-x
decreases-loop-x g l = vec_len l.spine

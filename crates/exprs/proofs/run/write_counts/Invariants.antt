use Rattle.std.proofs.Common.{map}
use Rattle.std.specs.Iterator.Adapters.{zip_first, zip_second}
use Rattle.std.specs.Slice.Iter.{iter_rest}
use Rattle.exprs.specs.Answers.{count_lines}
use Rattle.exprs.proofs.Counts.{CountsUpTo}
use Rattle.exprs.proofs.run.write_counts.Given as goal

abbrev pub invariant-loop-name : goal.invariant-loop-name
invariant-loop-name g l =
    CountsUpTo (count_lines l.fn.counts (map (λ n. n.now) l.fn.names)) (iter_rest (zip_second l.name-iterator)) (iter_rest (zip_first l.name-iterator))
    (g.W.Write.contents l.initial.output) (g.W.Write.contents l.output)

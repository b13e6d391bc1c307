use Rattle.std.proofs.Common.{rules}
use Rattle.std.proofs.lemmas.Slice.Zip.{Zip-more, either_empty_from_Zip}
use Rattle.std.specs.Iterator.Adapters.{zip_first}
use Rattle.std.specs.Slice.Iter.{iter_rest}
use Rattle.exprs.proofs.Counts.{counts_none, count_more, count_end}
use Rattle.exprs.proofs.run.write_counts.Goals as goal

pub loop-name-init : goal.loop-name-init
loop-name-init g c = counts_none _ _ (iter_rest (zip_first c.into_iter-name-iterator.result)) _ (search rules)

pub loop-name-preserved : goal.loop-name-preserved
loop-name-preserved g c =
    let more = Zip-more _ c.next.new.self _ _ c.in-Some.is c.next.ensures.steps in
    count_more _ _ _ _ _ _ _ _ _ _ more.1 more.0 c.loop-name.invariant c.in_ok-write_count.ensures

pub returns : goal.returns
returns g c = count_end _ _ _ _ _ (either_empty_from_Zip _ c.next.new.self _ c.in-None.is c.next.ensures.steps) c.loop-name.invariant

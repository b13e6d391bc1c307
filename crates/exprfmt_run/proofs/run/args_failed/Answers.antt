use Rattle.std.proofs.Common.{refl, subst}
use Rattle.exprfmt_run.specs.Calls.{writer}
use Rattle.exprfmt_run.specs.Run.{Writes}
use Rattle.exprfmt_run.proofs.RunLaws.{memory_line, written}
use Rattle.exprfmt_run.proofs.run.args_failed.Goals as goal

pub returns-then-eq-clause-memory : goal.returns-then-eq-clause-memory
returns-then-eq-clause-memory g c =
    λ is. (refl, subst (Writes (writer g.E.FnMut c.args.errors.now c.errors.new.self)) memory_line (written g.E.FnMut _ _ _ _ c.errors.ensures))

use Rattle.std.proofs.Common.{◌≡◌, Result, Ok, Err, sym, subst}
use Rattle.std.specs.Prelude.{IfErr, IsErr, IsErrAnd}
use Rattle.syn_tokens.specs.declared.error.Error.{Error}
use Rattle.syn_tokens.specs.declared.error.ErrorKind.TheVariants.{OutOfMemory}
use Rattle.syn_expr_core.specs.View.{tree_of}
use Rattle.syn_visit_kinds.proofs.Added.{found_is, walk_fails, walk_found}
use Rattle.syn_visit_kinds.proofs.Tested.{told_tells}
use Rattle.syn_visit.proofs.visit.filter_map.Goals as goal

abbrev RunsOut : Error → Type 0
RunsOut e = e.kind ≡ OutOfMemory

failed_so : {A R : Type 0} (N : R → Type 0) (e : R) (r : Result A R) → IsErr r × IsErrAnd r (λ f. f ≡ e) → N e → IfErr r N
failed_so N e (Ok x) is n = tt
failed_so N e (Err f) is n = subst N (sym is.1) n

pub returns-in_err-for_each-clause-memory : goal.returns-in_err-for_each-clause-memory
returns-in_err-for_each-clause-memory g c = failed_so RunsOut _ _ c.from_residual.ensures (walk_fails tree_of RunsOut c.in_err-for_each.ensures (λ one old b new met. met.1))

pub returns-clause-asked : goal.returns-clause-asked
returns-clause-asked g c = walk_found tree_of (λ v. v.items) c.in_ok-for_each.ensures c.new-found.ensures.items (λ one old b new met. met.0)

pub returns-clause-found : goal.returns-clause-found
returns-clause-found g c = λ find tells. found_is find (told_tells find tells) (returns-clause-asked g c)

-- No body is where no block does after an output.
use Rattle.std.proofs.Common.{◌≡◌, false, rules, ap, arith}
use Rattle.syn_lower_spec.specs.Part.{is_default}
use Rattle.syn_lower.specs.View.{return_of}
use Rattle.syn_expr_heads.specs.View.{closure_of}
use Rattle.syn_expr_parse.proofs.Prefixes.{output_refused}
use Rattle.syn_expr_parse.proofs.atoms.Atoms.closure.Goals as goal

pub returns-in_err-body-in-Given-clause-value : goal.returns-in_err-body-in-Given-clause-value
returns-in_err-body-in-Given-clause-value g c =
    let d : is_default (return_of c.args.head.output) ≡ false = ap (λ o. is_default (return_of o)) c.in-Given.is in
    let n = output_refused c.args.place (closure_of g.E.Pat.HasPatTree.view c.args.head) c.args.input.now.rest d c.in_err-body-in-Given.ensures.value in
    first_of (search (rules, n), grind (arith, n))

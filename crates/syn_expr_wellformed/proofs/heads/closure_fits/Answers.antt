-- A closure by its words, its arguments and its output.
use Rattle.std.proofs.Common.{◌≡◌, ◌&&◌, true, ap, sym, ◌∙◌}
use Rattle.std.specs.List.{list_all}
use Rattle.syn_lower_spec.specs.Fits.{output_fits}
use Rattle.syn_lower.specs.View.{return_of, values}
use Rattle.syn_expr_wellformed.specs.Alone.{argument_fits}
use Rattle.syn_expr_wellformed.proofs.Closures.{captures, closure_is}
use Rattle.syn_expr_wellformed.proofs.heads.closure_fits.Goals as goal

pub returns-then-arguments_fit : goal.returns-then-arguments_fit
returns-then-arguments_fit g c =
    let x = c.args.closure in
    let w : true ≡ captures x = sym c.if-not-captures_fit.false ∙ c.captures_fit.ensures in
    let i = sym c.if-arguments_fit.true ∙ c.arguments_fit.ensures in
    c.is_read_back.ensures ∙ (ap (λ b. b && output_fits true (return_of x.output.now)) i
    ∙ (ap (λ b. b && (list_all (λ p. argument_fits (g.E.Pat.HasPatTree.view p)) (values x.inputs.now) && output_fits true (return_of x.output.now))) w ∙ sym (closure_is g.E.Pat.HasPatTree.view x)))

pub returns-else-arguments_fit : goal.returns-else-arguments_fit
returns-else-arguments_fit g c =
    let x = c.args.closure in
    let w : true ≡ captures x = sym c.if-not-captures_fit.false ∙ c.captures_fit.ensures in
    let i = sym c.if-arguments_fit.false ∙ c.arguments_fit.ensures in
    c.if-arguments_fit.false ∙ (ap (λ b. b && output_fits true (return_of x.output.now)) i
    ∙ (ap (λ b. b && (list_all (λ p. argument_fits (g.E.Pat.HasPatTree.view p)) (values x.inputs.now) && output_fits true (return_of x.output.now))) w ∙ sym (closure_is g.E.Pat.HasPatTree.view x)))

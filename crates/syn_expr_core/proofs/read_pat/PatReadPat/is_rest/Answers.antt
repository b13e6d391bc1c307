use Rattle.std.proofs.Common.{◌∙◌, ap, sym}
use Rattle.syn_lower_spec.specs.Pat.{is_rest}
use Rattle.syn_expr_core.specs.View.{pat_of}
use Rattle.syn_expr_core.proofs.TreeOf.{pat-Rest}
use Rattle.syn_expr_core.proofs.ReadPat.{rest_is, others_rest}
use Rattle.syn_expr_core.proofs.read_pat.PatReadPat.is_rest.Goals as goal

pub returns-in-Rest : goal.returns-in-Rest
returns-in-Rest c = c.is_empty.ensures ∙ rest_is c.in-Rest.x.attrs ∙ sym (ap (λ p. is_rest (pat_of p).tree) c.in-Rest.is ∙ ap (λ v. is_rest v.tree) (pat-Rest c.in-Rest.x))

pub returns-in_default : goal.returns-in_default
returns-in_default c = sym (others_rest c.args.self.now c.in_default.not-Rest)

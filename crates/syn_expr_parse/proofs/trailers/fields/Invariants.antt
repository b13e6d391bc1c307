use Rattle.std.proofs.Common.{◌≡◌, length}
use Rattle.syn_expr_spec.specs.Stands.{fields_of}
use Rattle.syn_expr_parse.proofs.trailers.fields.Given as goal

abbrev pub invariant-indices : goal.invariant-indices
invariant-indices g l = fields_of (g.E.HasExprTree.tree l.fn.base.value) l.fn.indices ≡ fields_of (g.E.HasExprTree.tree l.base.value) l.indices

abbrev pub decreases-indices : goal.decreases-indices
decreases-indices g l = length l.indices

use Rattle.std.proofs.Common.{◌≡◌, append-nil, arith, rules}
use Rattle.std.proofs.lemmas.Grind.{common_steps}
use Rattle.std.proofs.lemmas.List.{map-append}
use Rattle.std.specs.Prelude.{option_map}
use Rattle.syn_expr_make.proofs.Lists.{maps}
use Rattle.syn_expr_make.proofs.list.separated_by.Goals as goal

pub returns-clause-values : goal.returns-clause-values
unfolding Rattle.syn_lower_leaves.specs.View.values
returns-clause-values g c of is_of =
    let inner = c.in_ok-inner.ensures.made (λ x. (of x, c.default-comma.result)) (λ x y h. search rules) in
    let last : c.map.result ≡ option_map of c.pop.result = grind (arith, common_steps, is_of) in
    grind (arith, maps, map-append, append-nil, inner, last, c.pop.ensures.items)

pub returns-clause-trails : goal.returns-clause-trails
unfolding Rattle.syn_lower_leaves.specs.View.trails
returns-clause-trails g c = grind (arith, common_steps, c.in_ok-inner.ensures.len, c.pop.new.self.ok.0)

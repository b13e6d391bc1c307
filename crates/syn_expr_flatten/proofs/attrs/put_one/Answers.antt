-- One before the others of its kind.
use Rattle.std.proofs.Common.{arith}
use Rattle.syn_expr_ast.specs.Attrs.{inner_of, outer_of}
use Rattle.syn_expr_flatten.proofs.Puts.{one_inner, one_outer, place_within}
use Rattle.syn_expr_flatten.proofs.attrs.put_one.Goals as goal

pub insert-requires : goal.insert-requires
insert-requires c = omega (arith, place_within c.args.attr c.args.own.now.items, c.place-at.ensures, c.args.own.now.ok.0)

pub returns-clause-outer : goal.returns-clause-outer
unfolding outer_of
returns-clause-outer c = one_outer c.args.attr c.args.own.now.items _ _ c.place-at.ensures c.in_ok-insert.ensures.items

pub returns-clause-inner : goal.returns-clause-inner
unfolding inner_of
returns-clause-inner c = one_inner c.args.attr c.args.own.now.items _ _ c.place-at.ensures c.in_ok-insert.ensures.items

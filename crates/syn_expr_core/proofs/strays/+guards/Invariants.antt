use Rattle.std.proofs.Common.{◌≡◌, ◌++◌, drop, flat_map}
use Rattle.syn_pat.specs.View.{field_guards}
use Rattle.syn_expr_core.specs.Strays.{found_trees}
use Rattle.syn_expr_core.specs.View.{pat_of}
use Rattle.syn_expr_core.proofs.strays.+guards.Given as goal

abbrev pub invariant-in_list-loop-pair : goal.invariant-in_list-loop-pair
invariant-in_list-loop-pair l =
    found_trees l.found.items ++ flat_map (λ q. (pat_of q.0).guards) (drop l.pair-index l.pats.inner.items) ≡ found_trees l.fn.found.items ++ flat_map (λ q. (pat_of q.0).guards) l.pats.inner.items

abbrev pub invariant-in_cases-loop-pair : goal.invariant-in_cases-loop-pair
invariant-in_cases-loop-pair l =
    found_trees l.found.items ++ flat_map (λ q. (pat_of q.0).guards) (drop l.pair-index l.cases.inner.items) ≡ found_trees l.fn.found.items ++ flat_map (λ q. (pat_of q.0).guards) l.cases.inner.items

abbrev pub invariant-in_fields-loop-pair : goal.invariant-in_fields-loop-pair
invariant-in_fields-loop-pair l =
    found_trees l.found.items ++ flat_map (λ q. field_guards pat_of q.0.kind) (drop l.pair-index l.fields.inner.items) ≡ found_trees l.fn.found.items ++ flat_map (λ q. field_guards pat_of q.0.kind) l.fields.inner.items

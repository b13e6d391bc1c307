use Rattle.std.proofs.Common.{◌++◌, sym, ap, ◌∙◌, flat_map, map-id, rules, false}
use Rattle.std.proofs.lemmas.Iterator.{YieldsList-from_chars}
use Rattle.std.proofs.lemmas.Iterator.Consumers.{YieldsList-end}
use Rattle.std.specs.Prelude.{encode_utf8_all}
use Rattle.syn_lower_leaves.specs.Written.{opening, quoted, written}
use Rattle.syn_lower_leaves.proofs.Written.{written_more, closed}
use Rattle.syn_lower_leaves.proofs.make.str_text.Goals as goal

pub loop-c-preserved : goal.loop-c-preserved
loop-c-preserved c = written_more false 34 c.in-Some.c (opening false 34) c.loop-c.yielded _ _ c.in_ok-push_written.ensures c.loop-c.invariant

pub returns : goal.returns
returns c =
    let end = YieldsList-end (YieldsList-from_chars c.args.value.now c.utf8.value cc) c.loop-c.yielded _ c.loop-c.yielded_by _ _ c.in-None.is c.next.ensures.steps in
    closed 34 (opening false 34 ++ flat_map (written false 34) c.loop-c.yielded) _ _ (search rules) c.loop-c.invariant
    ∙ ap (λ l. encode_utf8_all (quoted false 34 l)) (sym (map-id c.loop-c.yielded) ∙ end.0)

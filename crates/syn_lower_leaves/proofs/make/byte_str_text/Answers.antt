use Rattle.std.proofs.Common.{◌∷◌, [], ◌++◌, sym, ap, ◌∙◌, flat_map, take, rules, true}
use Rattle.std.proofs.lemmas.List.{take_more, take_all}
use Rattle.std.specs.Prelude.{encode_utf8_all}
use Rattle.syn_lower_leaves.specs.Written.{opening, quoted, written}
use Rattle.syn_lower_leaves.proofs.Written.{written_more, closed}
use Rattle.syn_lower_leaves.proofs.make.byte_str_text.Goals as goal

pub loop-b-preserved : goal.loop-b-preserved
loop-b-preserved c =
    written_more true 34 c.from.result (opening true 34) (take c.loop-b.b-index c.args.value.now) _ _ c.in_ok-push_written.ensures c.loop-b.invariant
    ∙ ap (λ x. encode_utf8_all (opening true 34 ++ flat_map (written true 34) (take c.loop-b.b-index c.args.value.now ++ x ∷ []))) c.from.ensures
    ∙ ap (λ l. encode_utf8_all (opening true 34 ++ flat_map (written true 34) l)) (sym (take_more c.args.value.now c.loop-b.b-index 0 c.loop-b-test.true))

pub returns : goal.returns
returns c =
    closed 34 (opening true 34 ++ flat_map (written true 34) (take c.loop-b.b-index c.args.value.now)) _ _ (search rules) c.loop-b.invariant
    ∙ ap (λ l. encode_utf8_all (quoted true 34 l)) (take_all c.loop-b.b-index c.args.value.now c.loop-b-test.false)

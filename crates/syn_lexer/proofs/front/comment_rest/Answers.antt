use Rattle.std.proofs.Common.{rules, sym, ◌∙◌}
use Rattle.std.proofs.lemmas.List.{take_rest}
use Rattle.syn_lexer.proofs.LexLaws.{comment_rest-opens, comment_rest-closes}
use Rattle.syn_lexer.proofs.front.comment_rest.Goals as goal

pub characters-preserved-then-begins : goal.characters-preserved-then-begins
characters-preserved-then-begins c =
    let z = c.characters.text.now in
    rw (take_rest z 2)
    (sym (comment_rest-opens c.characters.inner c.characters.n z (sym c.begins.ensures.value ∙ c.if-begins.true)) ∙ c.characters.invariant.0, search rules, search rules)

pub characters-preserved-then-begins-2 : goal.characters-preserved-then-begins-2
characters-preserved-then-begins-2 c =
    let z = c.characters.text.now in
    rw (take_rest z 2) (
      sym (comment_rest-closes c.characters.inner c.characters.n z
          (sym c.begins.ensures.value ∙ c.if-begins.false) (sym c.begins-else-begins.ensures.value ∙ c.if-begins-2.true) c.if-inner-eq0.false)
          ∙ c.characters.invariant.0,
      search rules,
      search rules,
    )

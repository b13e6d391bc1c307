use Rattle.std.proofs.Common.{sym, ◌∙◌, chars, subst}
use Rattle.syn_tokens.specs.Lex.{Spells}
use Rattle.syn_text.proofs.Again.{text_is_read_again, is_given}
use Rattle.syn_text.proofs.lexed.reread.Goals as goal

pub returns-clause-same : goal.returns-clause-same
returns-clause-same c lexed =
    let ts = c.args.stream.now in
    let read : Spells (chars c.deref.result.now) ts =
    subst (λ bytes. Spells (chars bytes) ts) (sym (c.deref.ensures ∙ c.in_ok-text.ensures)) (text_is_read_again ts lexed) in
    is_given ts c.lex.result (c.lex.ensures.found ts read)

use Rattle.std.proofs.Common.{◌∙◌}
use Rattle.syn_text.proofs.Tests.{literal_text}
use Rattle.syn_text.proofs.lexed.is_literal_text.Goals as goal

pub returns : goal.returns
returns c =
    literal_text c.args.text.now c.as_slice.result.now c.is_literal.result c.utf8.text (c.as_slice.ensures.value ∙ c.in_ok-all.ensures) c.is_literal.ensures

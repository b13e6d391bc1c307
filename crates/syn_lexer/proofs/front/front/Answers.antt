use Rattle.syn_lexer.proofs.LexLaws.{front_read, reading_refused}
use Rattle.syn_lexer.proofs.front.front.Goals as goal

pub returns-clause-value : goal.returns-clause-value
returns-clause-value c = front_read c.args.text.now c.reading.result c.requires c.reading.ensures.value

pub returns-clause-refused : goal.returns-clause-refused
returns-clause-refused c = reading_refused c.args.text.now c.reading.result c.reading.ensures.value

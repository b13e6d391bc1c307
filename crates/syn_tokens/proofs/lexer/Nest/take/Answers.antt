use Rattle.std.specs.Rc.{rc_str_bytes}
use Rattle.syn_tokens.proofs.Standing.{stand_from, stand_to, stand_are}
use Rattle.syn_tokens.proofs.lexer.Nest.take.Goals as goal

pub part-requires-clause-from : goal.part-requires-clause-from
part-requires-clause-from c = stand_from (rc_str_bytes c.args.text.now) c.args.span.lo c.args.span.hi c.args.read.now c.requires.stands

pub part-requires-clause-to : goal.part-requires-clause-to
part-requires-clause-to c = stand_to (rc_str_bytes c.args.text.now) c.args.span.lo c.args.span.hi c.args.read.now c.requires.stands

pub part-requires-in-Literal-clause-from : goal.part-requires-in-Literal-clause-from
part-requires-in-Literal-clause-from c = stand_from (rc_str_bytes c.args.text.now) c.args.span.lo c.args.span.hi c.args.read.now c.requires.stands

pub part-requires-in-Literal-clause-to : goal.part-requires-in-Literal-clause-to
part-requires-in-Literal-clause-to c = stand_to (rc_str_bytes c.args.text.now) c.args.span.lo c.args.span.hi c.args.read.now c.requires.stands

pub returns-in_ok-word-in-Ident-clause-ok : goal.returns-in_ok-word-in-Ident-clause-ok
returns-in_ok-word-in-Ident-clause-ok c =
    rw (c.in-Ident.is, ← stand_are (rc_str_bytes c.args.text.now) c.args.span.lo c.args.span.hi c.args.read.now c.requires.stands, ← c.in_ok-word-in-Ident.ensures, ← c.read.ensures) c.leaf.ensures.ok

pub returns-in_ok-literal-in-Literal-clause-ok : goal.returns-in_ok-literal-in-Literal-clause-ok
returns-in_ok-literal-in-Literal-clause-ok c =
    rw (c.in-Literal.is, ← stand_are (rc_str_bytes c.args.text.now) c.args.span.lo c.args.span.hi c.args.read.now c.requires.stands, ← c.in_ok-literal-in-Literal.ensures, ← c.read-in-Literal.ensures) c.leaf-in-Literal.ensures.ok

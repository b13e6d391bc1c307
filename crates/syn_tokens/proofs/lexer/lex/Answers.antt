use Rattle.std.proofs.Common.{◌≡◌, ◌∙◌, chars}
use Rattle.syn_tokens.proofs.Lexes.{gives_only}
use Rattle.syn_tokens.proofs.Standing.{all_left}
use Rattle.syn_tokens.proofs.lexer.lex.Goals as goal

pub lex_chars-requires : goal.lex_chars-requires
lex_chars-requires c = rw (c.in_ok-shared.ensures.ok, c.as_slice.ensures.value, c.in_ok-all.ensures) (all_left c.args.text.now c.utf8.text)

pub returns-clause-found : goal.returns-clause-found
returns-clause-found c = λ ts is.
    let same : c.as_slice.result.now ≡ chars c.args.text.now = c.as_slice.ensures.value ∙ c.in_ok-all.ensures in
    gives_only c.as_slice.result.now c.lex_chars.result c.lex_chars.ensures.read c.lex_chars.ensures.refused ts (rw same is)

pub returns-clause-kind : goal.returns-clause-kind
returns-clause-kind c =
    let same : c.as_slice.result.now ≡ chars c.args.text.now = c.as_slice.ensures.value ∙ c.in_ok-all.ensures in
    rw (← same) c.lex_chars.ensures.kind

pub returns-clause-place : goal.returns-clause-place
returns-clause-place c = rw (← c.in_ok-shared.ensures.ok) c.lex_chars.ensures.place

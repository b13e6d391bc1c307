use Rattle.std.proofs.Common.{◌∙◌, ap, false, subst, sym, chars}
use Rattle.syn_tokens.specs.Lex.{IsLiteralText}
use Rattle.syn_lower_leaves.specs.Value.{str_value}
use Rattle.syn_lower_leaves.specs.Written.{quoted}
use Rattle.syn_lower_leaves.proofs.Made.{is_made, is_literal, str_made, str_is_literal}
use Rattle.syn_lower_leaves.proofs.lit.LitStr.new.Goals as goal

pub token-requires : goal.token-requires
token-requires c = is_literal (quoted false 34 (chars c.args.value.now)) _ c.as_str.utf8 (c.as_str.ensures.value ∙ c.in_ok-text.ensures) (str_is_literal (chars c.args.value.now))

pub returns-clause-value : goal.returns-clause-value
returns-clause-value c =
    let e = ap chars c.in_ok-token.ensures.made ∙ is_made (quoted false 34 (chars c.args.value.now)) _ c.as_str.utf8 (c.as_str.ensures.value ∙ c.in_ok-text.ensures) in
    ap str_value e ∙ str_made (chars c.args.value.now)

pub returns-clause-text : goal.returns-clause-text
returns-clause-text c = ap chars c.in_ok-token.ensures.made ∙ is_made (quoted false 34 (chars c.args.value.now)) _ c.as_str.utf8 (c.as_str.ensures.value ∙ c.in_ok-text.ensures)

pub returns-clause-literal : goal.returns-clause-literal
returns-clause-literal c =
    subst (λ w. IsLiteralText (chars w)) (sym c.in_ok-token.ensures.made) (is_literal (quoted false 34 (chars c.args.value.now)) _ c.as_str.utf8 (c.as_str.ensures.value ∙ c.in_ok-text.ensures) (str_is_literal (chars c.args.value.now)))

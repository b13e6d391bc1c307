use Rattle.std.proofs.Common.{◌∙◌, ◌∷◌, [], ap, false, subst, sym, chars}
use Rattle.syn_tokens.specs.Lex.{IsLiteralText}
use Rattle.syn_lower_leaves.specs.Value.{char_value}
use Rattle.syn_lower_leaves.specs.Written.{quoted}
use Rattle.syn_lower_leaves.proofs.Made.{is_made, is_literal, char_made, char_is_literal}
use Rattle.syn_lower_leaves.proofs.lit.LitChar.new.Goals as goal

pub token-requires : goal.token-requires
token-requires c = is_literal (quoted false 39 (c.args.value ∷ [])) _ c.as_str.utf8 (c.as_str.ensures.value ∙ c.in_ok-text.ensures) (char_is_literal c.args.value)

pub returns-clause-value : goal.returns-clause-value
returns-clause-value c =
    let e = ap chars c.in_ok-token.ensures.made ∙ is_made (quoted false 39 (c.args.value ∷ [])) _ c.as_str.utf8 (c.as_str.ensures.value ∙ c.in_ok-text.ensures) in
    ap char_value e ∙ char_made c.args.value

pub returns-clause-text : goal.returns-clause-text
returns-clause-text c = ap chars c.in_ok-token.ensures.made ∙ is_made (quoted false 39 (c.args.value ∷ [])) _ c.as_str.utf8 (c.as_str.ensures.value ∙ c.in_ok-text.ensures)

pub returns-clause-literal : goal.returns-clause-literal
returns-clause-literal c =
    subst (λ w. IsLiteralText (chars w)) (sym c.in_ok-token.ensures.made) (is_literal (quoted false 39 (c.args.value ∷ [])) _ c.as_str.utf8 (c.as_str.ensures.value ∙ c.in_ok-text.ensures) (char_is_literal c.args.value))

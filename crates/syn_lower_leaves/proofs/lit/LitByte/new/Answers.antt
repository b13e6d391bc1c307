use Rattle.std.proofs.Common.{◌∙◌, ◌∷◌, [], ap, true, subst, sym, chars}
use Rattle.std.proofs.Math.Facts.{Fits-lt-pow}
use Rattle.std.specs.Prelude.{encode_utf8_all}
use Rattle.syn_tokens.specs.Lex.{IsLiteralText}
use Rattle.syn_lower_leaves.specs.Value.{byte_value}
use Rattle.syn_lower_leaves.specs.Written.{quoted}
use Rattle.syn_lower_leaves.proofs.Made.{is_made, is_literal, byte_made, byte_is_literal}
use Rattle.syn_lower_leaves.proofs.lit.LitByte.new.Goals as goal

pub token-requires : goal.token-requires
token-requires c = is_literal (quoted true 39 (c.args.value ∷ [])) _ c.as_str.utf8 (c.as_str.ensures.value ∙ c.in_ok-text.ensures ∙ ap (λ x. encode_utf8_all (quoted true 39 (x ∷ []))) c.from.ensures) (byte_is_literal c.args.value (Fits-lt-pow c.ranges.value))

pub returns-clause-value : goal.returns-clause-value
returns-clause-value c =
    let e = ap chars c.in_ok-token.ensures.made ∙ is_made (quoted true 39 (c.args.value ∷ [])) _ c.as_str.utf8 (c.as_str.ensures.value ∙ c.in_ok-text.ensures ∙ ap (λ x. encode_utf8_all (quoted true 39 (x ∷ []))) c.from.ensures) in
    ap byte_value e ∙ byte_made c.args.value (Fits-lt-pow c.ranges.value)

pub returns-clause-text : goal.returns-clause-text
returns-clause-text c = ap chars c.in_ok-token.ensures.made ∙ is_made (quoted true 39 (c.args.value ∷ [])) _ c.as_str.utf8 (c.as_str.ensures.value ∙ c.in_ok-text.ensures ∙ ap (λ x. encode_utf8_all (quoted true 39 (x ∷ []))) c.from.ensures)

pub returns-clause-literal : goal.returns-clause-literal
returns-clause-literal c =
    subst (λ w. IsLiteralText (chars w)) (sym c.in_ok-token.ensures.made) (is_literal (quoted true 39 (c.args.value ∷ [])) _ c.as_str.utf8 (c.as_str.ensures.value ∙ c.in_ok-text.ensures ∙ ap (λ x. encode_utf8_all (quoted true 39 (x ∷ []))) c.from.ensures) (byte_is_literal c.args.value (Fits-lt-pow c.ranges.value)))

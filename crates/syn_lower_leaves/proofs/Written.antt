-- Literals that are made of values.
use Rattle.std.proofs.Common.{◌≡◌, ℕ, Bool, List, [], ◌∷◌, ◌++◌, flat_map, sym, ap, ◌∙◌, append-nil}
use Rattle.std.specs.Prelude.{encode_utf8, encode_utf8_all}
use Rattle.std.proofs.lemmas.List.{flat_map_more}
use Rattle.std.proofs.lemmas.Str.{encodes-append}
use Rattle.syn_lower_leaves.specs.Written.{written}

-- ---- the text

-- more characters
pub more : (z w : List ℕ) (old new : List ℕ) → new ≡ old ++ encode_utf8_all w → old ≡ encode_utf8_all z → new ≡ encode_utf8_all (z ++ w)
more z w old new e h = e ∙ ap (λ l. l ++ encode_utf8_all w) h ∙ sym (encodes-append z w)

-- one character or byte more between quotes
pub written_more : (is_byte : Bool) (quote c : ℕ) (z cs : List ℕ) (old new : List ℕ) → new ≡ old ++ encode_utf8_all (written is_byte quote c)
    → old ≡ encode_utf8_all (z ++ flat_map (written is_byte quote) cs) → new ≡ encode_utf8_all (z ++ flat_map (written is_byte quote) (cs ++ c ∷ []))
written_more is_byte quote c z cs old new e h =
    more (z ++ flat_map (written is_byte quote) cs) (written is_byte quote c) old new e h ∙ ap encode_utf8_all (flat_map_more (written is_byte quote) z cs c)

-- the closing quote
pub closed : (quote : ℕ) (z : List ℕ) (old new : List ℕ) → new ≡ old ++ encode_utf8 quote → old ≡ encode_utf8_all z → new ≡ encode_utf8_all (z ++ quote ∷ [])
closed quote z old new e h = more z (quote ∷ []) old new (e ∙ ap (λ l. old ++ l) (sym (append-nil (encode_utf8 quote)))) h

pub ruleset texts = (written_more, closed)

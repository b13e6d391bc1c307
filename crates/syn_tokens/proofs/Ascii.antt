-- The characters of a text that is ASCII are its bytes.
use Rattle.std.proofs.Common.{◌≡◌, ℕ, suc, List, [], ◌∷◌, ap, sym, refl, chars, encode_utf8_all}
use Rattle.std.specs.Str.{IsAscii, IsUtf8}
use Rattle.std.proofs.lemmas.Str.{chars_from_encodes, encode_ascii}

encodes_ascii : (bs : List ℕ) → IsAscii bs → encode_utf8_all bs ≡ bs
encodes_ascii [] h = refl
encodes_ascii (b ∷ bs) h = rw (encode_ascii b (h 0)) (ap (λ l. b ∷ l) (encodes_ascii bs (λ i. h (suc i))))

pub chars_ascii : (bs : List ℕ) → IsUtf8 bs → IsAscii bs → chars bs ≡ bs
chars_ascii bs utf8 ascii = sym (chars_from_encodes bs bs utf8 (encodes_ascii bs ascii))

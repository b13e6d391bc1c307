-- Where no mark begins, a word, a delimiter or a punct stands.
use Rattle.std.proofs.Common.{◌≡◌, ℕ, ◌<◌, [], ◌∷◌, length, slice_index, false, refl, arith}
use Rattle.std.specs.Prelude.{◌==◌, ◌≢◌}
use Rattle.std.specs.Char.{is_ascii_digit}
use Rattle.std.proofs.lemmas.Bool.Decides.{nat_tests}
use Rattle.syn_lexer.specs.Text.{Text}
use Rattle.syn_lexer.specs.Blanks.{is_white_space}
use Rattle.syn_lexer.specs.Lex.{reading, token, plain}

differ : (mark c : ℕ) → c ≢ mark → (mark == c) ≡ false
differ mark c other = grind (arith, nat_tests)

pub unmarked : (z : Text) → 0 < length z → is_white_space (slice_index z 0) ≡ false → slice_index z 0 ≢ 47 → slice_index z 0 ≢ 34 → slice_index z 0 ≢ 39
    → slice_index z 0 ≢ 98 → slice_index z 0 ≢ 99 → slice_index z 0 ≢ 114 → is_ascii_digit (slice_index z 0) ≡ false → reading z ≡ plain z
unfolding reading token
unmarked [] some white slash double single b c r digit = absurd (omega arith)
unmarked (x ∷ z) some white slash double single b c r digit =
    let quote : (x == 39) ≡ false = grind (arith, nat_tests) in
    rw (white, differ 47 x slash, differ 34 x double, differ 98 x b, differ 99 x c, differ 114 x r, digit, quote) refl

-- Literals from outside, and their values (rustc 1.90).
use Rattle.std.specs.Prelude.{◌≡◌, [], ◌∷◌, codes, Some, None}
use Rattle.syn_lower_leaves.specs.Value.{int_value, int_suffix, float_suffix, float_digits, char_value, byte_value, str_value, byte_str_value}

pub record IntRows : Type 0 where
  pub decimal : int_value (codes "1_000u8") ≡ 1000
  pub hexadecimal : int_value (codes "0xFf_f") ≡ 0xfff
  pub hexadecimal_suffix : int_suffix (codes "0x1fi8") ≡ codes "i8"
  pub octal : int_value (codes "0o17_usize") ≡ 15
  pub octal_suffix : int_suffix (codes "0o17_usize") ≡ codes "usize"
  pub binary : int_value (codes "0b1e1") ≡ 1
  pub binary_suffix : int_suffix (codes "0b1e1") ≡ codes "e1"
  pub float_suffix : int_suffix (codes "1f32") ≡ codes "f32"
  pub none : int_suffix (codes "7_") ≡ []

pub record FloatRows : Type 0 where
  pub whole : float_digits (codes "1_0.5_0E+1_0f64") ≡ codes "10.50E+10"
  pub suffix : float_suffix (codes "1_0.5_0E+1_0f64") ≡ codes "f64"
  pub dot : float_digits (codes "2.") ≡ codes "2."
  pub exponent : float_digits (codes "1e-7_") ≡ codes "1e-7"
  pub exponent_suffix : float_suffix (codes "12E+99_f64") ≡ codes "f64"

pub record CharRows : Type 0 where
  pub plain : char_value (codes "'a'") ≡ Some 97
  pub quote : char_value (codes "'\\''") ≡ Some 39
  pub double : char_value (codes "'\"'") ≡ Some 34
  pub line : char_value (codes "'\\n'") ≡ Some 10
  pub null : char_value (codes "'\\0'") ≡ Some 0
  pub hex : char_value (codes "'\\x7f'") ≡ Some 127
  pub hex_large : char_value (codes "'\\x80'") ≡ None
  pub unicode : char_value (codes "'\\u{1F_600}'") ≡ Some 0x1f600
  pub surrogate : char_value (codes "'\\u{d800}'") ≡ None
  pub digits : char_value (codes "'\\u{0000041}'") ≡ None
  pub suffix : char_value (codes "'a'b") ≡ Some 97
  pub unknown : char_value (codes "'\\q'") ≡ None
  pub two : char_value (codes "'ab'") ≡ None
  pub beyond : char_value (39 ∷ 0x1f600 ∷ 39 ∷ []) ≡ Some 0x1f600

pub record ByteRows : Type 0 where
  pub plain : byte_value (codes "b'a'") ≡ Some 97
  pub hex : byte_value (codes "b'\\xFf'") ≡ Some 255
  pub unicode : byte_value (codes "b'\\u{41}'") ≡ None
  pub backslash : byte_value (codes "b'\\\\'") ≡ Some 92

pub record StrRows : Type 0 where
  pub empty : str_value (codes "\"\"") ≡ Some []
  pub plain : str_value (codes "\"ab\"c") ≡ Some (codes "ab")
  pub escapes : str_value (codes "\"\\t\\u{41}\\x42\\\\\\\"\"") ≡ Some (9 ∷ 65 ∷ 66 ∷ 92 ∷ 34 ∷ [])
  pub continued : str_value (codes "\"a\\\n \t\r\n b\"") ≡ Some (codes "ab")
  pub line_break : str_value (codes "\"a\r\nb\"") ≡ Some (codes "a\nb")
  pub carriage_return : str_value (codes "\"a\rb\"") ≡ None
  pub raw : str_value (codes "r#\"a\"\\n\"#") ≡ Some (codes "a\"\\n")
  pub unknown : str_value (codes "\"\\q\"") ≡ None

pub record ByteStrRows : Type 0 where
  pub escapes : byte_str_value (codes "b\"\\xff\\0a\"") ≡ Some (255 ∷ 0 ∷ 97 ∷ [])
  pub raw : byte_str_value (codes "br\"\\xff\"") ≡ Some (codes "\\xff")
  pub beyond : byte_str_value (98 ∷ 34 ∷ 233 ∷ 34 ∷ []) ≡ None
  pub unicode : byte_str_value (codes "b\"\\u{41}\"") ≡ None

-- The rows are computed.
use Rattle.std.proofs.Common.{refl}
use Rattle.syn_lower_leaves.specs.Value.{int_value, int_suffix, float_suffix, float_digits, char_value, byte_value, str_value, byte_str_value}
use Rattle.syn_lower_leaves.specs.ValueRows.{IntRows, FloatRows, CharRows, ByteRows, StrRows, ByteStrRows}

pub ints : IntRows
unfolding int_value int_suffix
ints = record { decimal = refl; hexadecimal = refl; hexadecimal_suffix = refl; octal = refl; octal_suffix = refl; binary = refl; binary_suffix = refl; float_suffix = refl; none = refl }

pub floats : FloatRows
unfolding float_suffix float_digits lib.Utf8.encode
floats = record { whole = refl; suffix = refl; dot = refl; exponent = refl; exponent_suffix = refl }

pub chars : CharRows
unfolding char_value
chars = record { plain = refl; quote = refl; double = refl; line = refl; null = refl; hex = refl; hex_large = refl; unicode = refl; surrogate = refl; digits = refl; suffix = refl; unknown = refl; two = refl; beyond = refl }

pub bytes : ByteRows
unfolding byte_value
bytes = record { plain = refl; hex = refl; unicode = refl; backslash = refl }

pub strs : StrRows
unfolding str_value
strs = record { empty = refl; plain = refl; escapes = refl; continued = refl; line_break = refl; carriage_return = refl; raw = refl; unknown = refl }

pub byte_strs : ByteStrRows
unfolding byte_str_value
byte_strs = record { escapes = refl; raw = refl; beyond = refl; unicode = refl }

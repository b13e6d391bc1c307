-- The value of an expression of integers, as an `i64` (Rust Reference, "Integer literal expressions", "Grouped expressions",
-- "Negation operators", "Arithmetic and Logical Binary Operators", "Overflow").
use Rattle.std.specs.Prelude.{◌≡◌, ℕ, zero, ◌^◌, ◌==◌, Bool, false, nat_lt, if◌then◌else◌, List, drop, length, Option, Some, None, option_map, option_and_then, ℤ, pos, negsuc, ◌+ℤ◌, ◌-ℤ◌, ◌*ℤ◌, neg_ℤ, int_div, int_rem}
use Rattle.syn_lower_spec.specs.Text.{byte_at}
use Rattle.syn_expr.specs.Prelude.{int_suffix, int_value, LitKind, Text, LitTree, BinKind, UnKind, Tree, leaf, lit, paren, attributed, prefixed, unary, infixed, StandsFor}
use Rattle.syn_expr.specs.LitKind as kind
use Rattle.syn_expr.specs.BinKind as bin
use Rattle.syn_expr.specs.Infix as inf
use Rattle.syn_expr.specs.UnKind as un

-- ---- literals

-- from -2 ^ 63 to 2 ^ 63 - 1
abbrev pub fits : ℤ → Bool
fits (pos n) = nat_lt n (2 ^ 63)
fits (negsuc n) = nat_lt n (2 ^ 63)

-- What overflows is no value.
abbrev pub checked : ℤ → Option ℤ
checked z = if fits z then Some z else None

-- a number of any base, without a suffix
abbrev pub unsigned : Text → Option ℤ
unsigned text = if length (int_suffix text) == 0 then Some (pos (int_value text)) else None

-- A `-` may come before it.
abbrev pub integer : Text → Option ℤ
integer text = if byte_at text 0 == 45 then option_map neg_ℤ (unsigned (drop 1 text)) else unsigned text

abbrev pub value_by_kind : LitKind → Text → Option ℤ
value_by_kind kind.Int text = option_and_then checked (integer text)
value_by_kind _ text = None

abbrev pub literal_value : LitTree → Option ℤ
literal_value x = value_by_kind x.kind x.text

-- ---- operations

-- The divisor is not zero, and the quotient, rounded towards zero, doesn't overflow.
abbrev pub divides : ℤ → ℤ → Bool
divides x (pos zero) = false
divides x y = fits (int_div x y)

abbrev pub prefix_value : UnKind → ℤ → Option ℤ
prefix_value un.Neg x = checked (neg_ℤ x)
prefix_value _ x = None

abbrev pub binary_value : BinKind → ℤ → ℤ → Option ℤ
binary_value bin.Add x y = checked (x +ℤ y)
binary_value bin.Sub x y = checked (x -ℤ y)
binary_value bin.Mul x y = checked (x *ℤ y)
binary_value bin.Div x y = if divides x y then Some (int_div x y) else None
binary_value bin.Rem x y = if divides x y then Some (int_rem x y) else None
binary_value _ x y = None

-- by the values of two operands, where both have one
abbrev pub combined : (ℤ → ℤ → Option ℤ) → Option ℤ → Option ℤ → Option ℤ
combined f (Some x) (Some y) = f x y
combined f _ _ = None

-- ---- expressions

-- Attributes are looked through. Nothing else has a value.
abbrev pub value_of : Tree → Option ℤ
value_of (leaf (lit x)) = literal_value x
value_of (paren m t) = value_of t
value_of (attributed a more t) = value_of t
value_of (prefixed (unary k) gs t) = option_and_then (prefix_value k) (value_of t)
value_of (infixed x (inf.Binary k) y) = combined (binary_value k) (value_of x) (value_of y)
value_of _ = None

-- Some tree stands for the text, and this is its value.
abbrev pub IsValueOf : List ℕ → Option ℤ → Type 0
IsValueOf cs v = (t : Tree) × StandsFor cs t × (v ≡ value_of t)

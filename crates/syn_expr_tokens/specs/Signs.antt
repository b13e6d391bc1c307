-- The characters of the joined puncts at the front, and the operator that they are.
use Rattle.std.specs.Prelude.{ℕ, ◌==◌, if◌then◌else◌, List, [], ◌∷◌, Option, Some, None}
use Rattle.syn_lexer.specs.declared.front.Spacing.TheVariants as spacing
use Rattle.syn_tokens.specs.Tok.{Tok, punct}
use Rattle.syn_expr_spec.specs.declared.kinds.BinKind.{BinKind}
use Rattle.syn_expr_spec.specs.declared.kinds.BinKind.TheVariants as bin
use Rattle.syn_expr_spec.specs.declared.kinds.Limits.TheVariants as limits
use Rattle.syn_expr_spec.specs.declared.kinds.Infix.{Infix}
use Rattle.syn_expr_spec.specs.declared.kinds.Infix.TheVariants as inf

-- the character at the front, 0 where no punct is there
unfoldable pub first : List Tok → ℕ
first (punct c s ∷ l) = c
first _ = 0

-- the tokens after a punct that they are joined to, none where no such punct is there
unfoldable pub behind : List Tok → List Tok
behind (punct c spacing.Joint ∷ l) = l
behind _ = []

abbrev pub second : List Tok → ℕ
second l = first (behind l)

abbrev pub third : List Tok → ℕ
third l = first (behind (behind l))

abbrev binary : BinKind → ℕ → Option (Infix × ℕ)
binary op count = Some (inf.Binary op, count)

-- an operator alone, or after it `=`
abbrev pub compound : ℕ → BinKind → BinKind → Option (Infix × ℕ)
compound b equal once = if b == 61 then binary equal 2 else binary once 1

-- an operator alone, doubled, or after it `=`
abbrev pub doubled : ℕ → ℕ → BinKind → BinKind → BinKind → Option (Infix × ℕ)
doubled a b twice equal once = if b == a then binary twice 2 else compound b equal once

-- a shift alone, or after it `=`
abbrev pub shift : ℕ → BinKind → BinKind → Option (Infix × ℕ)
shift c equal once = if c == 61 then binary equal 3 else binary once 2

-- by three characters that are joined: the longest operator, and of how many puncts it is
unfoldable pub operator : ℕ → ℕ → ℕ → Option (Infix × ℕ)
operator a b c =
    if a == 43 then compound b bin.AddAssign bin.Add
    else (if a == 45 then (if b == 62 then None else compound b bin.SubAssign bin.Sub)
    else (if a == 42 then compound b bin.MulAssign bin.Mul
    else (if a == 47 then compound b bin.DivAssign bin.Div
    else (if a == 37 then compound b bin.RemAssign bin.Rem
    else (if a == 94 then compound b bin.BitXorAssign bin.BitXor
    else (if a == 38 then doubled 38 b bin.And bin.BitAndAssign bin.BitAnd
    else (if a == 124 then doubled 124 b bin.Or bin.BitOrAssign bin.BitOr
    else (if a == 60 then
    (if b == 60 then shift c bin.ShlAssign bin.Shl
    else (if b == 45 then None else compound b bin.Le bin.Lt))
    else (if a == 62 then
    (if b == 62 then shift c bin.ShrAssign bin.Shr
    else compound b bin.Ge bin.Gt)
    else (if a == 61 then
    (if b == 61 then binary bin.Eq 2 else (if b == 62 then None else Some (inf.Assign, 1)))
    else (if a == 33 then (if b == 61 then binary bin.Ne 2 else None)
    else (if a == 46 then
    (if b == 46 then
    (if c == 61 then Some (inf.Range limits.Closed, 3)
    else (if c == 46 then None else Some (inf.Range limits.HalfOpen, 2)))
    else None)
    else None))))))))))))

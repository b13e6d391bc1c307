-- The infix and prefix operators, by their texts, and how tightly they bind (Rust Reference, "Operator expressions",
-- "Expression precedence", "Punctuation").
use Rattle.std.specs.Prelude.{ℕ, Bool, true, false, if◌then◌else◌, List, [], ◌∷◌, length, Option, Some, None, codes}
use Rattle.syn_tokens.specs.Tok.{Tok}
use Rattle.syn_lower_spec.specs.Text.{Text}
use Rattle.syn_lower_spec.specs.Mark.{sign_at, word_at}
use Rattle.syn_expr_spec.specs.declared.kinds.BinKind.{BinKind}
use Rattle.syn_expr_spec.specs.declared.kinds.BinKind.TheVariants as bin
use Rattle.syn_expr_spec.specs.declared.kinds.UnKind.{UnKind}
use Rattle.syn_expr_spec.specs.declared.kinds.UnKind.TheVariants as un
use Rattle.syn_expr_spec.specs.declared.kinds.Limits.{Limits}
use Rattle.syn_expr_spec.specs.declared.kinds.Limits.TheVariants as limits
use Rattle.syn_expr_spec.specs.declared.kinds.Infix.{Infix}
use Rattle.syn_expr_spec.specs.declared.kinds.Infix.TheVariants as inf
use Rattle.syn_expr_spec.specs.declared.kinds.Precedence.{Precedence}
use Rattle.syn_expr_spec.specs.declared.kinds.Precedence.TheVariants as lev
use Rattle.syn_expr_spec.specs.declared.next.Next.{Next}
use Rattle.syn_expr_spec.specs.declared.next.Next.TheVariants as next
use Rattle.syn_expr_spec.specs.Place.{takes}

-- the binary operators: the text of each, its level, and its class of tokens
abbrev pub operator : BinKind → Text × Precedence × Next
operator bin.Add = (codes "+", lev.Sum, next.Plus)
operator bin.Sub = (codes "-", lev.Sum, next.Minus)
operator bin.Mul = (codes "*", lev.Product, next.Star)
operator bin.Div = (codes "/", lev.Product, next.Divide)
operator bin.Rem = (codes "%", lev.Product, next.Divide)
operator bin.And = (codes "&&", lev.And, next.AndAnd)
operator bin.Or = (codes "||", lev.Or, next.OrOr)
operator bin.BitXor = (codes "^", lev.BitXor, next.Caret)
operator bin.BitAnd = (codes "&", lev.BitAnd, next.And)
operator bin.BitOr = (codes "|", lev.BitOr, next.Or)
operator bin.Shl = (codes "<<", lev.Shift, next.ShiftLeft)
operator bin.Shr = (codes ">>", lev.Shift, next.ShiftRight)
operator bin.Eq = (codes "==", lev.Compare, next.Compare)
operator bin.Lt = (codes "<", lev.Compare, next.Less)
operator bin.Le = (codes "<=", lev.Compare, next.Compare)
operator bin.Ne = (codes "!=", lev.Compare, next.Compare)
operator bin.Ge = (codes ">=", lev.Compare, next.Compare)
operator bin.Gt = (codes ">", lev.Compare, next.Compare)
operator bin.AddAssign = (codes "+=", lev.Assign, next.Assign)
operator bin.SubAssign = (codes "-=", lev.Assign, next.Assign)
operator bin.MulAssign = (codes "*=", lev.Assign, next.Assign)
operator bin.DivAssign = (codes "/=", lev.Assign, next.Assign)
operator bin.RemAssign = (codes "%=", lev.Assign, next.Assign)
operator bin.BitXorAssign = (codes "^=", lev.Assign, next.Assign)
operator bin.BitAndAssign = (codes "&=", lev.Assign, next.Assign)
operator bin.BitOrAssign = (codes "|=", lev.Assign, next.Assign)
operator bin.ShlAssign = (codes "<<=", lev.Assign, next.ShiftLeftAssign)
operator bin.ShrAssign = (codes ">>=", lev.Assign, next.Assign)

abbrev pub binary_text : BinKind → Text
binary_text op = (operator op).0

abbrev pub binary_level : BinKind → Precedence
binary_level op = (operator op).1

abbrev pub limits_text : Limits → Text
limits_text limits.HalfOpen = codes ".."
limits_text limits.Closed = codes "..="

abbrev pub unary_text : UnKind → Text
unary_text un.Deref = codes "*"
unary_text un.Not = codes "!"
unary_text un.Neg = codes "-"

-- the level of an infix operator, which is that of its right operand's place too
abbrev pub level : Infix → Precedence
level (inf.Binary op) = binary_level op
level inf.Assign = lev.Assign
level (inf.Range op) = lev.Range
level inf.Cast = lev.Cast

abbrev pub is_compare : Precedence → Bool
is_compare lev.Compare = true
is_compare _ = false

abbrev pub is_comparison : Infix → Bool
is_comparison (inf.Binary op) = is_compare (binary_level op)
is_comparison _ = false

abbrev pub is_range_op : Infix → Bool
is_range_op (inf.Range op) = true
is_range_op _ = false

-- ---- the longest operator at the front, over joined puncts

-- a text, and the infix operator that it is, if it is one
abbrev pub Entry : Type 0
Entry = Text × Option Infix

abbrev binary : BinKind → Entry
binary op = (binary_text op, Some (inf.Binary op))

abbrev range : Limits → Entry
range op = (limits_text op, Some (inf.Range op))

-- a token that is no infix operator, though one begins it
abbrev other : Text → Entry
other text = (text, None)

-- Longer texts come first, so that the longest token counts.
abbrev pub entries : List Entry
entries =
    binary bin.ShlAssign ∷ binary bin.ShrAssign ∷ range limits.Closed ∷ other (codes "...")
    ∷ binary bin.AddAssign ∷ binary bin.SubAssign ∷ binary bin.MulAssign ∷ binary bin.DivAssign ∷ binary bin.RemAssign
    ∷ binary bin.BitXorAssign ∷ binary bin.BitAndAssign ∷ binary bin.BitOrAssign
    ∷ binary bin.And ∷ binary bin.Or ∷ binary bin.Shl ∷ binary bin.Shr
    ∷ binary bin.Eq ∷ binary bin.Le ∷ binary bin.Ne ∷ binary bin.Ge ∷ range limits.HalfOpen
    ∷ other (codes "=>") ∷ other (codes "->") ∷ other (codes "<-")
    ∷ binary bin.Add ∷ binary bin.Sub ∷ binary bin.Mul ∷ binary bin.Div ∷ binary bin.Rem
    ∷ binary bin.BitXor ∷ binary bin.BitAnd ∷ binary bin.BitOr ∷ binary bin.Lt ∷ binary bin.Gt
    ∷ (codes "=", Some inf.Assign) ∷ []

abbrev pub counted : Text → Option Infix → Option (Infix × ℕ)
counted text None = None
counted text (Some op) = Some (op, length text)

abbrev pub longest : List Entry → List Tok → Option (Infix × ℕ)
longest [] l = None
longest (e ∷ more) l = if sign_at e.0 l then counted e.0 e.1 else longest more l

-- the infix operator at the front, and how many tokens it takes
unfoldable pub infix_at : List Tok → Option (Infix × ℕ)
infix_at l = if word_at (codes "as") l then Some (inf.Cast, 1) else longest entries l

-- an operator is at the front that an expression at this level takes
abbrev pub takes_by : Precedence → Option (Infix × ℕ) → Bool
takes_by v None = false
takes_by v (Some p) = takes v (level p.0)

unfoldable pub goes_on : Precedence → List Tok → Bool
goes_on v l = takes_by v (infix_at l)

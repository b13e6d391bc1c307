-- The kinds of operators: all but their places.
use Rattle.syn_expr_spec.specs.declared.kinds.BinKind.{BinKind}
use Rattle.syn_expr_spec.specs.declared.kinds.BinKind.TheVariants as bin
use Rattle.syn_expr_spec.specs.declared.kinds.UnKind.{UnKind}
use Rattle.syn_expr_spec.specs.declared.kinds.UnKind.TheVariants as un
use Rattle.syn_expr_spec.specs.declared.kinds.Limits.{Limits}
use Rattle.syn_expr_spec.specs.declared.kinds.Limits.TheVariants as limits
use Rattle.syn_expr_tokens.specs.declared.op.BinOp.{BinOp}
use Rattle.syn_expr_tokens.specs.declared.op.BinOp.TheVariants as bin_op
use Rattle.syn_expr_tokens.specs.declared.op.UnOp.{UnOp}
use Rattle.syn_expr_tokens.specs.declared.op.UnOp.TheVariants as un_op
use Rattle.syn_expr_tokens.specs.declared.limits.RangeLimits.{RangeLimits}
use Rattle.syn_expr_tokens.specs.declared.limits.RangeLimits.TheVariants as range
use Rattle.std.specs.Prelude.{List, ◌∷◌, Option, Bool, true, false, is_some, ℕ, ◌||◌, ◌==◌, nat_lt, if◌then◌else◌, drop}
use Rattle.syn_tokens.specs.Tok.{Tok}
use Rattle.syn_lower_spec.specs.Text.{Text, has_radix, byte_at}
use Rattle.syn_lower_spec.specs.Form.{Form, maybe, closed_by}
use Rattle.syn_lower_spec.specs.Mark.{colon, lifetime_at}
use Rattle.syn_lower_spec.specs.Part.{lifetime}
use Rattle.syn_lower_spec.specs.Own.{alone, lifetime_own}
use Rattle.syn_lower_spec.specs.Pat.{MemberTree, a_name, an_index, digit_value, digits_value, base_of}
use Rattle.syn_lower_leaves.specs.View.{lifetime_of}
use Rattle.syn_expr_tokens.specs.declared.modifiers.Label.{Label}
use Rattle.syn_expr_tokens.specs.declared.member.Member.{Member}
use Rattle.syn_expr_tokens.specs.declared.member.Member.TheVariants as member
use Rattle.syn_expr_tokens.specs.declared.member.Index.{Index}
use Rattle.syn_expr_tokens.specs.declared.modifiers.ClosureModifiers.{ClosureModifiers}

abbrev pub un_kind : UnOp → UnKind
un_kind (un_op.Deref t) = un.Deref
un_kind (un_op.Not t) = un.Not
un_kind (un_op.Neg t) = un.Neg

abbrev pub limits_kind : RangeLimits → Limits
limits_kind (range.HalfOpen t) = limits.HalfOpen
limits_kind (range.Closed t) = limits.Closed

abbrev pub bin_kind : BinOp → BinKind
bin_kind (bin_op.Add t) = bin.Add
bin_kind (bin_op.Sub t) = bin.Sub
bin_kind (bin_op.Mul t) = bin.Mul
bin_kind (bin_op.Div t) = bin.Div
bin_kind (bin_op.Rem t) = bin.Rem
bin_kind (bin_op.And t) = bin.And
bin_kind (bin_op.Or t) = bin.Or
bin_kind (bin_op.BitXor t) = bin.BitXor
bin_kind (bin_op.BitAnd t) = bin.BitAnd
bin_kind (bin_op.BitOr t) = bin.BitOr
bin_kind (bin_op.Shl t) = bin.Shl
bin_kind (bin_op.Shr t) = bin.Shr
bin_kind (bin_op.Eq t) = bin.Eq
bin_kind (bin_op.Lt t) = bin.Lt
bin_kind (bin_op.Le t) = bin.Le
bin_kind (bin_op.Ne t) = bin.Ne
bin_kind (bin_op.Ge t) = bin.Ge
bin_kind (bin_op.Gt t) = bin.Gt
bin_kind (bin_op.AddAssign t) = bin.AddAssign
bin_kind (bin_op.SubAssign t) = bin.SubAssign
bin_kind (bin_op.MulAssign t) = bin.MulAssign
bin_kind (bin_op.DivAssign t) = bin.DivAssign
bin_kind (bin_op.RemAssign t) = bin.RemAssign
bin_kind (bin_op.BitXorAssign t) = bin.BitXorAssign
bin_kind (bin_op.BitAndAssign t) = bin.BitAndAssign
bin_kind (bin_op.BitOrAssign t) = bin.BitOrAssign
bin_kind (bin_op.ShlAssign t) = bin.ShlAssign
bin_kind (bin_op.ShrAssign t) = bin.ShrAssign

-- ---- what spells a label (Rust Reference, "Loop labels")

-- a lifetime and `:`
abbrev pub labeled : Form Text
labeled = closed_by colon lifetime

-- a label, if a lifetime comes first
abbrev pub label : Form (Option Text)
label = maybe lifetime_at labeled

-- its own tokens
abbrev pub labeled_own : Text → List Tok → List Tok
labeled_own w r = lifetime_own w (alone 58 ∷ r)

-- ---- the parts of expressions that hold no others as trees without places

abbrev pub index_of : Index → MemberTree
index_of x = an_index x.index

abbrev pub member_of : Member → MemberTree
member_of (member.Named x) = a_name x
member_of (member.Unnamed x) = index_of x

abbrev pub label_of : Label → Text
label_of x = lifetime_of x.name

abbrev pub is_named : Member → Bool
is_named (member.Named x) = true
is_named (member.Unnamed x) = false

-- whether `static` and `use` are there
abbrev pub modifiers_of : ClosureModifiers → Bool × Bool
modifiers_of x = (is_some x.static_token, is_some x.use_token)

-- ---- integer literals without a suffix

-- the value that a number's text has
abbrev pub value_of : Text → Option ℕ
value_of text = if has_radix text then digits_value (base_of (byte_at text 1)) 0 (drop 2 text) else digits_value 10 0 text

-- a digit of a base, or an underscore
abbrev pub is_digit_of : ℕ → ℕ → Bool
is_digit_of base c = c == 95 || nat_lt (digit_value c) base

-- What the readers of operators take.
use Rattle.std.specs.Prelude.{◌≡◌, ◌||◌, ℕ, if◌then◌else◌, List, drop, Option, Some, None, Result, Ok, Err, codes}
use Rattle.syn_tokens.specs.declared.error.Error.{Error}
use Rattle.syn_tokens.specs.declared.error.ErrorKind.{ErrorKind}
use Rattle.syn_tokens.specs.declared.error.ErrorKind.TheVariants.{ExpectedToken}
use Rattle.syn_tokens.specs.declared.error.Expected.TheVariants as expected
use Rattle.syn_tokens.specs.declared.error.Wanted.TheVariants as wanted
use Rattle.syn_tokens.specs.Tok.{Tok}
use Rattle.syn_tokens.specs.Input.{Input}
use Rattle.syn_lower_spec.specs.Mark.{sign_at}
use Rattle.syn_lower_spec.specs.Form.{Outcome}
use Rattle.syn_expr_spec.specs.Op.{infix_at, unary_text}
use Rattle.syn_expr_spec.specs.Head.{range_op}
use Rattle.syn_expr_spec.specs.declared.kinds.Infix.TheVariants as inf
use Rattle.syn_expr_spec.specs.declared.kinds.BinKind.{BinKind}
use Rattle.syn_expr_spec.specs.declared.kinds.UnKind.{UnKind}
use Rattle.syn_expr_spec.specs.declared.kinds.UnKind.TheVariants as un
use Rattle.syn_expr_spec.specs.declared.kinds.Limits.{Limits}
use Rattle.syn_expr_spec.specs.declared.kinds.Limits.TheVariants as limits
use Rattle.syn_expr_tokens.specs.declared.limits.RangeLimits.{RangeLimits}
use Rattle.syn_expr_tokens.specs.View.{limits_kind}

-- the longest operator at the front is this one
abbrev pub SpellsBinOp : List Tok → BinKind → List Tok → Type 0
SpellsBinOp l op rest = (count : ℕ) × (infix_at l ≡ Some (inf.Binary op, count)) × (rest ≡ drop count l)

-- ---- prefix operators: one punct each, joined to the next or not

unfoldable pub prefix_at : List Tok → Option UnKind
prefix_at l =
    if sign_at (unary_text un.Deref) l then Some un.Deref else
    (if sign_at (unary_text un.Not) l then Some un.Not else
    (if sign_at (unary_text un.Neg) l then Some un.Neg else None))

-- the operator's punct comes first
abbrev pub SpellsUnOp : List Tok → UnKind → List Tok → Type 0
SpellsUnOp l op rest = (prefix_at l ≡ Some op) × (rest ≡ drop 1 l)

-- `*`, `!` or `-` is expected, each by its place in the table of signs
abbrev pub wanted_prefix : ErrorKind
wanted_prefix = ExpectedToken (expected.Three (wanted.Sign 43) (wanted.Sign 24) (wanted.Sign 21))

-- ---- the operators of ranges

abbrev pub SpellsLimits : List Tok → Limits → List Tok → Type 0
SpellsLimits l op rest = range_op.reads l ≡ Some (op, rest)

-- the same, where the obsolete `...` stands for `..=`
unfoldable pub obsolete_range_op : List Tok → Outcome Limits
obsolete_range_op l =
    if sign_at (codes "..=") l || sign_at (codes "...") l then Some (limits.Closed, drop 3 l)
    else (if sign_at (codes "..") l then Some (limits.HalfOpen, drop 2 l) else None)

-- `..` or `..=` is expected
abbrev pub wanted_limits : ErrorKind
wanted_limits = ExpectedToken (expected.Two (wanted.Sign 10) (wanted.Sign 12))

-- What comes first is taken, and a note stays; where none comes first nothing changes.
abbrev pub TakesLimits : Outcome Limits → Input → Result RangeLimits Error → Input → Type 0
TakesLimits outcome old (Ok x) new = (outcome ≡ Some (limits_kind x, new.rest)) × (new.noted ≡ old.noted)
TakesLimits outcome old (Err e) new = (outcome ≡ None) × (new ≡ old) × (e.kind ≡ wanted_limits)

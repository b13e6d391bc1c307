-- Where an expression is, and how tightly the levels bind (Rust Reference, "Expression precedence").
use Rattle.std.specs.Prelude.{ℕ, Bool, true, false, ◌&&◌, ◌||◌, nat_lt}
use Rattle.syn_expr_spec.specs.declared.kinds.Precedence.{Precedence}
use Rattle.syn_expr_spec.specs.declared.kinds.Precedence.TheVariants as lev
use Rattle.syn_expr_spec.specs.declared.kinds.Place.{Place}

-- the levels in order, the loosest first
abbrev pub rank : Precedence → ℕ
rank lev.Jump = 0
rank lev.Assign = 1
rank lev.Range = 2
rank lev.Or = 3
rank lev.And = 4
rank lev.Let = 5
rank lev.Compare = 6
rank lev.BitOr = 7
rank lev.BitXor = 8
rank lev.BitAnd = 9
rank lev.Shift = 10
rank lev.Sum = 11
rank lev.Product = 12
rank lev.Cast = 13
rank lev.Prefix = 14
rank lev.Unambiguous = 15

-- the level v binds tighter than w
abbrev pub above : Precedence → Precedence → Bool
above v w = nat_lt (rank w) (rank v)

abbrev pub is_assign : Precedence → Bool
is_assign lev.Assign = true
is_assign _ = false

-- An expression at the level v takes the infix operators above it, and one at Assign those of Assign too: these group
-- to the right.
abbrev pub takes : Precedence → Precedence → Bool
takes v w = above w v || (is_assign v && is_assign w)

-- the whole of a list, and what is inside of delimiters
abbrev pub plain : Place
plain = record { level = lev.Jump; condition = false; head = false }

-- before the block of an `if`, `while`, `match` or `for`
abbrev pub before_block : Place
before_block = record { level = lev.Jump; condition = true; head = false }

-- a statement, or the body of a match arm
abbrev pub at_head : Place
at_head = record { level = lev.Jump; condition = false; head = true }

-- the place of a right operand, or of the operand after a prefix operator: the mode stays, a head it is no more
abbrev pub at : Place → Precedence → Place
at p v = record { level = v; condition = p.condition; head = false }

-- Where an expression is printed, and what a printer asks there of an operand.
use Rattle.std.specs.Prelude.{◌≡◌, Bool, true, false, ◌||◌, ◌&&◌, if◌then◌else◌}
use Rattle.syn_expr_spec.specs.declared.kinds.Infix.{Infix}
use Rattle.syn_expr_spec.specs.declared.kinds.Infix.TheVariants as inf
use Rattle.syn_expr_spec.specs.declared.kinds.Precedence.{Precedence}
use Rattle.syn_expr_spec.specs.declared.kinds.Precedence.TheVariants as lev
use Rattle.syn_expr_spec.specs.declared.next.Context.{Context}
use Rattle.syn_expr_spec.specs.Op.{level}
use Rattle.syn_expr_spec.specs.Next.{class_of, begins_next, is_block_next, is_brace_next, is_half_open, is_break}
use Rattle.syn_expr_spec.specs.Rule.{is_less_next, misplaced, refuses}
use Rattle.syn_expr_spec.specs.Tree as e
use Rattle.syn_expr_spec.specs.Tree.{Tree, Prefix}

-- what is round the place and after it, and how tightly an operand has to bind there
pub record Fixup : Type 0 where
  pub context : Context
  pub level : Precedence

-- the place of a whole expression, which takes any operator
abbrev pub whole_at : Context → Fixup
whole_at c = record { context = c; level = lev.Jump }

-- the lowest level where an operand is put in parentheses for what its place takes, else the highest
abbrev pub level_if : Bool → Precedence
level_if wrapped = if wrapped then lev.Jump else lev.Unambiguous

-- an operator of the level; whether its first token begins an expression, and whether it begins generic arguments
abbrev pub Fits : Infix → Precedence → Bool → Bool → Type 0
Fits k v begins generics = (level k ≡ v) × (begins_next (class_of k) ≡ begins) × (is_less_next (class_of k) ≡ generics)

abbrev pub is_jump : Prefix → Bool
is_jump (e.jump j) = true
is_jump _ = false

-- a prefix that may go without its operand where a brace is next
abbrev pub is_optional : Prefix → Bool
is_optional (e.jump j) = is_break j
is_optional (e.range_to op) = is_half_open (inf.Range op)
is_optional _ = false

-- The place refuses the node for what it is itself, or the node would take the brace after the place.
abbrev pub parenthesized : Context → Tree → Bool
parenthesized c t = misplaced c t || ((is_block_next c.next || is_brace_next c.next) && refuses t c.next)

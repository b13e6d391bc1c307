-- The form of what comes before an operand in its parts.
use Rattle.std.specs.Prelude.{true}
use Rattle.syn_lower_spec.specs.Form.{Form, when, mark, shown, case, flag, closed_by}
use Rattle.syn_lower_spec.specs.Mark.{eq, mutable}
use Rattle.syn_lower_spec.specs.Part.{mutability}
use Rattle.syn_lower_spec.specs.Pat.{pattern}
use Rattle.syn_expr_spec.specs.Tree as e
use Rattle.syn_expr_spec.specs.Tree.{Prefix}
use Rattle.syn_expr_spec.specs.Head.{raw_at, raw_word, from_raw_addr, from_reference, range_at, range_op, from_range_to, let_word, from_let, jump_at, jump_head, from_jump, closure_head, from_closure}

-- after `&`
abbrev pub borrow : Form Prefix
borrow = when raw_at (mark raw_word (shown e.raw_addr from_raw_addr mutability)) (shown e.reference from_reference (flag mutable))

-- after `let`
abbrev pub let_expr : Form Prefix
let_expr = shown e.let_expr from_let (closed_by eq (pattern true))

-- the operator of a range, `let`, a jump, or a closure
abbrev pub word_prefix : Form Prefix
word_prefix =
    when range_at (shown e.range_to from_range_to range_op)
    (case let_word let_expr
    (when jump_at (shown e.jump from_jump jump_head)
    (shown e.closure from_closure closure_head)))

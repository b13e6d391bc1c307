-- What spells a leaf, what comes before or after an operand, and a trailer: forms over those of the lower parts.
use Rattle.std.specs.Prelude.{Bool, true, false, not, ◌||◌, ◌&&◌, ◌==◌, if◌then◌else◌, List, [], ◌∷◌, drop, codes, Option, Some, None}
use Rattle.std.specs.Str.{bytes_eq}
use Rattle.syn_lexer.specs.Keywords.{is_reserved_word}
use Rattle.syn_lexer.specs.declared.front.Delimiter.TheVariants as del
use Rattle.syn_tokens.specs.Tok.{Tok, ident, punct, literal, group}
use Rattle.syn_lower_spec.specs.declared.label.PathStyle.TheVariants as style
use Rattle.syn_lower_spec.specs.Text.{Text, is_truth}
use Rattle.syn_lower_spec.specs.Same.{same_toks}
use Rattle.syn_lower_spec.specs.Tree as t
use Rattle.syn_lower_spec.specs.Tree.{LitTree, AttributeTree, LifetimesTree, ArgumentsTree, ReturnTree}
use Rattle.syn_lower_spec.specs.Form.{Form, Outcome, Test, Mark, leaf, when, mark, then_by, both, shown, pure, inside, case, flag, maybe, listed, closed_by}
use Rattle.syn_lower_spec.specs.Mark.{sign, sign_at, word, lifetime_at, brace_at, round_at, and, star, bang, comma, colon, colon2, eq, mutable, constant, underscore}
use Rattle.syn_lower_spec.specs.Part.{name, is_name_there, lifetime, unsigned, block, inner_attributes, lifetimes, lifetimes_at, QPathTree, MacroEnd, macro_end, mutability, arguments, output, type}
use Rattle.syn_lower_spec.specs.Pat.{MemberTree, PatTree, member, pattern, closure_arg}
use Rattle.syn_expr_spec.specs.declared.kinds.UnKind.TheVariants as un
use Rattle.syn_expr_spec.specs.declared.kinds.Limits.{Limits}
use Rattle.syn_expr_spec.specs.declared.kinds.Limits.TheVariants as limits
use Rattle.syn_expr_spec.specs.Front.{sign_but}
use Rattle.syn_expr_spec.specs.Path.{expr_path}
use Rattle.syn_expr_spec.specs.Tree as e
use Rattle.syn_expr_spec.specs.Tree.{Body, Jump, Leaf, ClosureHead, Prefix, Trailer}

-- ---- labels and jumps (Rust Reference, "Loop labels", "Break expressions", "Return expressions")

abbrev pub label : Form (Option Text)
label = maybe lifetime_at (closed_by colon lifetime)

abbrev pub past_label : List Tok → List Tok
past_label l = if lifetime_at l then drop 3 l else l

abbrev pub is_returning : Jump → Bool
is_returning e.returning = true
is_returning _ = false

abbrev pub is_yielding : Jump → Bool
is_yielding e.yielding = true
is_yielding _ = false

abbrev pub from_breaking : Jump → Option (Option Text)
from_breaking (e.breaking label) = Some label
from_breaking _ = None

abbrev pub return_word : Mark
return_word = word (codes "return")

abbrev pub yield_word : Mark
yield_word = word (codes "yield")

abbrev pub break_word : Mark
break_word = word (codes "break")

-- a label after `break` and `continue` counts as theirs
unfoldable pub jump_head : Form Jump
jump_head =
    case return_word (pure e.returning is_returning)
    (case yield_word (pure e.yielding is_yielding)
    (mark break_word (shown e.breaking from_breaking (maybe lifetime_at lifetime))))

unfoldable pub jump_at : Test
jump_at l = return_word.at l || (yield_word.at l || break_word.at l)

-- ---- ranges (Rust Reference, "Range expressions")

abbrev pub is_half_open : Limits → Bool
is_half_open limits.HalfOpen = true
is_half_open limits.Closed = false

abbrev pub is_closed : Limits → Bool
is_closed l = not (is_half_open l)

-- `..` that doesn't begin `...`
abbrev pub two_dots : Mark
two_dots = record { at = λ l. sign_but (codes "..") (codes "..." ∷ []) l; count = 2 }

unfoldable pub range_op : Form Limits
range_op = case (sign (codes "..=")) (pure limits.Closed is_closed) (mark two_dots (pure limits.HalfOpen is_half_open))

unfoldable pub range_at : Test
range_at l = sign_at (codes "..") l

-- ---- blocks (Rust Reference, "Block expressions", "Loop expressions", "Attributes")

-- all that is left
unfoldable pub all_left : Form (List Tok)
all_left = leaf same_toks (λ l. Some (l, []))

abbrev pub to_body : List AttributeTree × List Tok → Body
to_body p = record { inner = p.0; tokens = p.1 }

abbrev pub from_body : Body → Option (List AttributeTree × List Tok)
from_body b = Some (b.inner, b.tokens)

-- in a brace: inner attributes, as many as there are, and any tokens
unfoldable pub body_inside : Form Body
body_inside = shown to_body from_body (both inner_attributes all_left)

unfoldable pub body : Form Body
body = inside del.Brace body_inside

-- ---- leaves

abbrev pub from_lit : Leaf → Option LitTree
from_lit (e.lit x) = Some x
from_lit _ = None

abbrev pub is_infer : Leaf → Bool
is_infer e.infer = true
is_infer _ = false

abbrev pub from_full_range : Leaf → Option Limits
from_full_range (e.full_range op) = Some op
from_full_range _ = None

abbrev pub from_bare_jump : Leaf → Option Jump
from_bare_jump (e.bare_jump j) = Some j
from_bare_jump _ = None

abbrev pub from_continuing : Leaf → Option (Option Text)
from_continuing (e.continuing label) = Some label
from_continuing _ = None

abbrev pub to_block : Option Text × Body → Leaf
to_block p = e.block p.0 p.1

abbrev pub from_block : Leaf → Option (Option Text × Body)
from_block (e.block label b) = Some (label, b)
from_block _ = None

abbrev pub to_loop : Option Text × Body → Leaf
to_loop p = e.loop_expr p.0 p.1

abbrev pub from_loop : Leaf → Option (Option Text × Body)
from_loop (e.loop_expr label b) = Some (label, b)
from_loop _ = None

abbrev pub from_unsafe : Leaf → Option Body
from_unsafe (e.unsafe_block b) = Some b
from_unsafe _ = None

abbrev pub from_const : Leaf → Option Body
from_const (e.const_block b) = Some b
from_const _ = None

abbrev pub to_async : Bool × List Tok → Leaf
to_async p = e.async_block p.0 p.1

abbrev pub from_async : Leaf → Option (Bool × List Tok)
from_async (e.async_block m ts) = Some (m, ts)
from_async _ = None

abbrev pub from_try : Leaf → Option (List Tok)
from_try (e.try_block ts) = Some ts
from_try _ = None

abbrev pub from_verbatim : Leaf → Option (List Tok)
from_verbatim (e.verbatim ts) = Some ts
from_verbatim _ = None

abbrev pub to_named : QPathTree × MacroEnd → Leaf
to_named ((q, p), None) = e.path q p
to_named ((q, p), Some g) = e.mac (record { path = p; delimiter = g.0; tokens = g.1 })

abbrev pub from_named : Leaf → Option (QPathTree × MacroEnd)
from_named (e.path q p) = Some ((q, p), None)
from_named (e.mac m) = Some ((t.no_qself, m.path), Some (m.delimiter, m.tokens))
from_named _ = None

abbrev pub continue_word : Mark
continue_word = word (codes "continue")

abbrev pub loop_word : Mark
loop_word = word (codes "loop")

abbrev pub unsafe_word : Mark
unsafe_word = word (codes "unsafe")

abbrev pub async_word : Mark
async_word = word (codes "async")

abbrev pub move_word : Mark
move_word = word (codes "move")

abbrev pub try_word : Mark
try_word = word (codes "try")

unfoldable pub literal_at : Test
literal_at (literal text ∷ l) = true
literal_at (ident text ∷ l) = is_truth text
literal_at _ = false

unfoldable pub loop_at : Test
loop_at l = loop_word.at (past_label l)

unfoldable pub block_at : Test
block_at l = brace_at (past_label l)

unfoldable pub const_block_at : Test
const_block_at l = constant.at l && brace_at (drop 1 l)

unfoldable pub async_block_at : Test
async_block_at l = async_word.at l && (brace_at (drop 1 l) || (move_word.at (drop 1 l) && brace_at (drop 2 l)))

unfoldable pub try_block_at : Test
try_block_at l = try_word.at l && brace_at (drop 1 l)

-- `builtin` and `#`: special syntax, whose tokens are verbatim
abbrev pub builtin_word : Mark
builtin_word = word (codes "builtin")

unfoldable pub builtin_at : Test
builtin_at l = builtin_word.at l && sign_at (codes "#") (drop 1 l)

abbrev pub verbatim_if : Bool → List Tok → List Tok → Outcome (List Tok)
verbatim_if b ts l = if b then Some (ts, l) else None

-- after these comes a name and a group in parentheses
abbrev pub find_builtin : List Tok → Outcome (List Tok)
find_builtin (ident b ∷ punct c s ∷ ident w ∷ group del.Parenthesis i ∷ l) =
    verbatim_if (bytes_eq b (codes "builtin") && (c == 35 && not (is_reserved_word w))) (ident b ∷ punct c s ∷ ident w ∷ group del.Parenthesis i ∷ []) l
find_builtin _ = None

unfoldable pub builtin : Form (List Tok)
builtin = leaf same_toks find_builtin

-- a path in an expression, or a call of a macro (Rust Reference, "Path expressions", "Macro Invocation")
unfoldable pub named : Form Leaf
named = shown to_named from_named (then_by (expr_path false) macro_end)

-- by what comes first (Rust Reference, "Literal expressions", "Underscore expressions", "Range expressions", "Return
-- expressions", "Break expressions", "Continue expressions", "Loop expressions", "Block expressions", "Unsafe blocks",
-- "Const blocks", "Async blocks")
unfoldable pub leaf_form : Form Leaf
leaf_form =
    when literal_at (shown e.lit from_lit unsigned)
    (case underscore (pure e.infer is_infer)
    (when range_at (shown e.full_range from_full_range range_op)
    (when jump_at (shown e.bare_jump from_bare_jump jump_head)
    (case continue_word (shown e.continuing from_continuing (maybe lifetime_at lifetime))
    (when loop_at (shown to_loop from_loop (both label (mark loop_word body)))
    (when block_at (shown to_block from_block (both label body))
    (case unsafe_word (shown e.unsafe_block from_unsafe body)
    (when const_block_at (mark constant (shown e.const_block from_const body))
    (when async_block_at (mark async_word (shown to_async from_async (both (flag move_word) block)))
    (when try_block_at (mark try_word (shown e.try_block from_try block))
    (when builtin_at (shown e.verbatim from_verbatim builtin)
    named)))))))))))

-- ---- closures (Rust Reference, "Closure expressions")

-- the first `|`, whatever is joined to it
abbrev pub bar : Mark
bar = sign (codes "|")

abbrev pub Inputs : Type 0
Inputs = List PatTree × Bool

-- lifetimes, the words before the arguments, these, and the output
abbrev pub HeadParts : Type 0
HeadParts = Option LifetimesTree × (Bool × (Bool × (Bool × ((Bool × Bool) × (Inputs × ReturnTree)))))

abbrev pub to_head : HeadParts → ClosureHead
to_head p = record {
  lifetimes = p.0;
  constness = p.1.0;
  movability = p.1.1.0;
  asyncness = p.1.1.1.0;
  capture = p.1.1.1.1.0.0;
  usage = p.1.1.1.1.0.1;
  inputs = p.1.1.1.1.1.0.0;
  trailing = p.1.1.1.1.1.0.1;
  output = p.1.1.1.1.1.1;
}

abbrev pub from_head : ClosureHead → Option HeadParts
from_head h = Some (h.lifetimes, (h.constness, (h.movability, (h.asyncness, ((h.capture, h.usage), ((h.inputs, h.trailing), h.output))))))

unfoldable pub closure_inputs : Form Inputs
closure_inputs = mark bar (closed_by bar (listed comma bar.at closure_arg))

abbrev pub static_word : Mark
static_word = word (codes "static")

abbrev pub use_word : Mark
use_word = word (codes "use")

-- `use` is where `move` may be, and never both
abbrev pub use_behind : Bool → Form Bool
use_behind true = pure false not
use_behind false = flag use_word

unfoldable pub closure_head : Form ClosureHead
closure_head = shown to_head from_head
    (both (maybe lifetimes_at lifetimes) (both (flag constant) (both (flag static_word) (both (flag async_word)
    (both (then_by (flag move_word) use_behind) (both closure_inputs (output type true)))))))

-- what may follow the `async` of a closure: `|`, `use`, or `move` that is not before a block
abbrev pub captures_at : Test
captures_at l = bar.at l || (use_word.at l || (move_word.at l && not (brace_at (drop 1 l))))

unfoldable pub closure_at : Test
closure_at l =
    bar.at l || (move_word.at l || (use_word.at l || (static_word.at l || (lifetimes_at l
    || ((constant.at l && not (brace_at (drop 1 l))) || (async_word.at l && captures_at (drop 1 l)))))))

-- ---- what comes before an operand

abbrev pub is_deref : Prefix → Bool
is_deref (e.unary un.Deref) = true
is_deref _ = false

abbrev pub is_not : Prefix → Bool
is_not (e.unary un.Not) = true
is_not _ = false

abbrev pub is_neg : Prefix → Bool
is_neg (e.unary un.Neg) = true
is_neg _ = false

abbrev pub from_reference : Prefix → Option Bool
from_reference (e.reference m) = Some m
from_reference _ = None

abbrev pub from_raw_addr : Prefix → Option Bool
from_raw_addr (e.raw_addr m) = Some m
from_raw_addr _ = None

abbrev pub from_range_to : Prefix → Option Limits
from_range_to (e.range_to op) = Some op
from_range_to _ = None

abbrev pub from_let : Prefix → Option PatTree
from_let (e.let_expr p) = Some p
from_let _ = None

abbrev pub from_jump : Prefix → Option Jump
from_jump (e.jump j) = Some j
from_jump _ = None

abbrev pub from_closure : Prefix → Option ClosureHead
from_closure (e.closure h) = Some h
from_closure _ = None

abbrev pub minus : Mark
minus = sign (codes "-")

abbrev pub let_word : Mark
let_word = word (codes "let")

abbrev pub raw_word : Mark
raw_word = word (codes "raw")

-- `raw` is an operator's word before `mut` or `const` (Rust Reference, "Raw borrow operators").
unfoldable pub raw_at : Test
raw_at l = raw_word.at l && (mutable.at (drop 1 l) || constant.at (drop 1 l))

-- by what comes first (Rust Reference, "Operator expressions", "Borrow operators", "Range expressions", "`let`
-- expressions", "Closure expressions")
unfoldable pub prefix_form : Form Prefix
prefix_form =
    case star (pure (e.unary un.Deref) is_deref)
    (case bang (pure (e.unary un.Not) is_not)
    (case minus (pure (e.unary un.Neg) is_neg)
    (case and (when raw_at (mark raw_word (shown e.raw_addr from_raw_addr mutability)) (shown e.reference from_reference (flag mutable)))
    (when range_at (shown e.range_to from_range_to range_op)
    (case let_word (shown e.let_expr from_let (closed_by eq (pattern true)))
    (when jump_at (shown e.jump from_jump jump_head)
    (shown e.closure from_closure closure_head)))))))

-- ---- trailers after a dot (Rust Reference, "Await expressions", "Method-call expressions", "Field access expressions")

abbrev pub is_await : Trailer → Bool
is_await e.await = true
is_await _ = false

abbrev pub to_method : Text × ArgumentsTree → Trailer
to_method p = e.method p.0 p.1

abbrev pub from_method : Trailer → Option (Text × ArgumentsTree)
from_method (e.method w a) = Some (w, a)
from_method _ = None

abbrev pub from_field : Trailer → Option MemberTree
from_field (e.field m) = Some m
from_field _ = None

abbrev pub await_word : Mark
await_word = word (codes "await")

-- a name before `(` or `::` is that of a method
unfoldable pub method_at : Test
method_at l = is_name_there l && (round_at (drop 1 l) || colon2.at (drop 1 l))

unfoldable pub dotted : Form Trailer
dotted =
    case await_word (pure e.await is_await)
    (when method_at (shown to_method from_method (both name (arguments type style.Expr)))
    (shown e.field from_field member))

-- the leaves but paths, macros, jumps and ranges
unfoldable pub leaf_at : Test
leaf_at l =
    literal_at l || (underscore.at l || (continue_word.at l || (loop_at l || (block_at l || (unsafe_word.at l
    || (const_block_at l || (async_block_at l || (try_block_at l || builtin_at l))))))))

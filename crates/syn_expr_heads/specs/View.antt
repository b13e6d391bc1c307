-- What comes before, between and after operands as trees, without places.
use Rattle.std.specs.Prelude.{true, List, [], map, flat_map, Option, Some, None, is_some}
use Rattle.syn_lower_leaves.specs.View.{mapped, lifetime_of, attribute_of, lit_of, lifetimes_of, is_mut, values, trails}
use Rattle.syn_lower.specs.View.{type_of, path_of, qself_or, macro_of, return_of}
use Rattle.syn_expr_tokens.specs.View.{label_of, member_of, un_kind, limits_kind}
use Rattle.syn_lower_spec.specs.Tree as t
use Rattle.syn_lower_spec.specs.Tree.{ArgumentsTree}
use Rattle.syn_pat.specs.View.{PatView}
use Rattle.syn_lower_types.specs.View.{angle_of}
use Rattle.syn_lower_types.specs.declared.path.AngleBracketedGenericArgumentsOf.{AngleBracketedGenericArgumentsOf}
use Rattle.syn_lower.specs.declared.ty.«Type».{«Type»}
use Rattle.syn_expr_spec.specs.Tree as e
use Rattle.syn_expr_spec.specs.Tree.{Tree, Leaf}
use Rattle.syn_expr_heads.specs.declared.leaf.Body.{Body}
use Rattle.syn_expr_heads.specs.declared.leaf.JumpHead.{JumpHead}
use Rattle.syn_expr_heads.specs.declared.leaf.JumpHead.TheVariants as jump
use Rattle.syn_expr_heads.specs.declared.leaf.LeafHead.{LeafHead}
use Rattle.syn_expr_heads.specs.declared.leaf.LeafHead.TheVariants as leaf
use Rattle.syn_expr_heads.specs.declared.leaf.TrailerHead.{TrailerHead}
use Rattle.syn_expr_heads.specs.declared.leaf.TrailerHead.TheVariants as trailer
use Rattle.syn_expr_heads.specs.declared.leaf.FieldHead.{FieldHead}
use Rattle.syn_expr_heads.specs.declared.leaf.FieldHead.TheVariants as field
use Rattle.syn_expr_heads.specs.declared.leaf.ArmHead.{ArmHead}
use Rattle.syn_expr_heads.specs.declared.leaf.ArmHead.TheVariants as arm
use Rattle.syn_expr_heads.specs.declared.leaf.ClosureHead.{ClosureHead}
use Rattle.syn_expr_heads.specs.declared.leaf.PrefixHead.{PrefixHead}
use Rattle.syn_expr_heads.specs.declared.leaf.PrefixHead.TheVariants as prefix
use Rattle.syn_lower_spec.specs.declared.label.PathStyle.TheVariants as style
use Rattle.syn_lower_spec.specs.Form.{Form, when, mark, then_by, both, shown, pure, case, flag, maybe}
use Rattle.syn_lower_spec.specs.Mark.{lifetime_at, underscore, constant}
use Rattle.syn_lower_spec.specs.Part.{lifetime, unsigned, block, qpath, macro_end, type}
use Rattle.syn_expr_spec.specs.Head.{label, body, builtin, jump_head, range_op, to_named, from_named, from_lit, is_infer, from_full_range, from_bare_jump, from_continuing, to_loop, from_loop, to_block, from_block, from_unsafe, from_const, to_async, from_async, from_try, from_verbatim, continue_word, loop_word, unsafe_word, async_word, move_word, try_word, literal_at, range_at, jump_at, loop_at, block_at, const_block_at, async_block_at, try_block_at, builtin_at}

abbrev pub body_of : Body → e.Body
body_of b = record { inner = map attribute_of b.attrs.items; tokens = b.block.stmts }

abbrev pub jump_of : JumpHead → e.Jump
jump_of (jump.Return w) = e.returning
jump_of (jump.Yield w) = e.yielding
jump_of (jump.Break w l) = e.breaking (mapped lifetime_of l)

abbrev pub leaf_of : LeafHead → e.Leaf
leaf_of (leaf.Lit x) = e.lit (lit_of x)
leaf_of (leaf.Infer w) = e.infer
leaf_of (leaf.FullRange op) = e.full_range (limits_kind op)
leaf_of (leaf.Jump j) = e.bare_jump (jump_of j)
leaf_of (leaf.Continue w l) = e.continuing (mapped lifetime_of l)
leaf_of (leaf.Loop l w b) = e.loop_expr (mapped label_of l) (body_of b)
leaf_of (leaf.Block l b) = e.block (mapped label_of l) (body_of b)
leaf_of (leaf.Unsafe w b) = e.unsafe_block (body_of b)
leaf_of (leaf.Const w b) = e.const_block (body_of b)
leaf_of (leaf.Async w m b) = e.async_block (is_some m) b.stmts
leaf_of (leaf.TryBlock w b) = e.try_block b.stmts
leaf_of (leaf.Verbatim ts) = e.verbatim ts
leaf_of (leaf.Path q p) = e.path (qself_or type_of q) (path_of type_of p)
leaf_of (leaf.Macro m) = e.mac (macro_of type_of m)

-- ---- trailers, fields and endings

abbrev pub turbofish_of : Option (AngleBracketedGenericArgumentsOf «Type») → ArgumentsTree
turbofish_of None = t.no_arguments
turbofish_of (Some x) = angle_of type_of x

abbrev pub trailer_of : TrailerHead → e.Trailer
trailer_of (trailer.Await w) = e.await
trailer_of (trailer.Method w a) = e.method w (turbofish_of a)
trailer_of (trailer.Field m) = e.field (member_of m)

abbrev pub field_of : FieldHead → e.Piece
field_of (field.Rest d) = e.rest true
field_of (field.Field ats m c) = e.field_value (map attribute_of ats.items) (member_of m) (is_some c)

-- a comma, or none
abbrev pub ending_of : {A : Type 0} → Option A → e.Ending
ending_of None = e.no_ending
ending_of (Some c) = e.comma

-- ---- what holds patterns, and the guards in these

abbrev pub arm_of : {P : Type 0} → (P → PatView) → ArmHead P → e.Piece
arm_of f (arm.Guard ats p w) = e.guard (map attribute_of ats.items) (f p).tree
arm_of f (arm.Arm ats p w) = e.arm (map attribute_of ats.items) (f p).tree

abbrev pub arm_guards : {P : Type 0} → (P → PatView) → ArmHead P → List Tree
arm_guards f (arm.Guard ats p w) = (f p).guards
arm_guards f (arm.Arm ats p w) = (f p).guards

abbrev pub closure_of : {P : Type 0} → (P → PatView) → ClosureHead P → e.ClosureHead
closure_of f x = record {
  lifetimes = mapped lifetimes_of x.lifetimes;
  constness = is_some x.constness;
  movability = is_some x.modifiers.static_token;
  asyncness = is_some x.asyncness;
  capture = is_some x.capture;
  usage = is_some x.modifiers.use_token;
  inputs = map (λ v. v.tree) (map f (values x.inputs));
  trailing = trails x.inputs;
  output = return_of x.output;
}

abbrev pub closure_guards : {P : Type 0} → (P → PatView) → ClosureHead P → List Tree
closure_guards f x = flat_map (λ v. v.guards) (map f (values x.inputs))

abbrev pub prefix_of : {P : Type 0} → (P → PatView) → PrefixHead P → e.Prefix
prefix_of f (prefix.Unary op) = e.unary (un_kind op)
prefix_of f (prefix.Reference w m) = e.reference (is_some m)
prefix_of f (prefix.RawAddr w r m) = e.raw_addr (is_mut m)
prefix_of f (prefix.RangeTo op) = e.range_to (limits_kind op)
prefix_of f (prefix.Let w p q) = e.let_expr (f p).tree
prefix_of f (prefix.Jump j) = e.jump (jump_of j)
prefix_of f (prefix.Closure h) = e.closure (closure_of f h)

abbrev pub prefix_guards : {P : Type 0} → (P → PatView) → PrefixHead P → List Tree
prefix_guards f (prefix.Let w p q) = (f p).guards
prefix_guards f (prefix.Closure h) = closure_guards f h
prefix_guards f _ = []

-- ---- the form of leaves in its parts

abbrev pub loop_leaf : Form Leaf
loop_leaf = shown to_loop from_loop (both label (mark loop_word body))

abbrev pub block_leaf : Form Leaf
block_leaf = shown to_block from_block (both label body)

abbrev pub const_leaf : Form Leaf
const_leaf = mark constant (shown e.const_block from_const body)

abbrev pub async_leaf : Form Leaf
async_leaf = mark async_word (shown to_async from_async (both (flag move_word) block))

abbrev pub try_leaf : Form Leaf
try_leaf = mark try_word (shown e.try_block from_try block)

-- a path or the call of a macro, which no invisible group begins
abbrev pub named : Form Leaf
named = shown to_named from_named (then_by (qpath type style.Expr) macro_end)

-- a block after `const`, `async` or `try`, special syntax, a path or a macro
abbrev pub word_leaf : Form Leaf
word_leaf =
    when const_block_at const_leaf
    (when async_block_at async_leaf
    (when try_block_at try_leaf
    (when builtin_at (shown e.verbatim from_verbatim builtin)
    named)))

-- a loop, a block, or one of those
abbrev pub labelled_leaf : Form Leaf
labelled_leaf =
    when loop_at loop_leaf
    (when block_at block_leaf
    (case unsafe_word (shown e.unsafe_block from_unsafe body)
    word_leaf))

-- a leaf that no invisible group begins
unfoldable pub leaf_form : Form Leaf
leaf_form =
    when literal_at (shown e.lit from_lit unsigned)
    (case underscore (pure e.infer is_infer)
    (when range_at (shown e.full_range from_full_range range_op)
    (when jump_at (shown e.bare_jump from_bare_jump jump_head)
    (case continue_word (shown e.continuing from_continuing (maybe lifetime_at lifetime))
    labelled_leaf))))

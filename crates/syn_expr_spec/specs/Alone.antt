-- Which expression of one kind is by itself for which tokens, whatever is after it (Rust Reference, "Expressions").
use Rattle.std.specs.Prelude.{◌≡◌, Bool, true, false, List, drop, Some}
use Rattle.syn_tokens.specs.Tok.{Tok}
use Rattle.syn_lower_spec.specs.declared.label.PathStyle.TheVariants as style
use Rattle.syn_lower_spec.specs.Tree.{LitTree, AttributeTree, QSelfTree, PathTree}
use Rattle.syn_lower_spec.specs.Form.{flag}
use Rattle.syn_lower_spec.specs.Mark.{and, mutable}
use Rattle.syn_lower_spec.specs.Part.{MacroTree, lit, macro, outer_attributes, qpath, type}
use Rattle.syn_expr_spec.specs.declared.kinds.Infix.TheVariants as inf
use Rattle.syn_expr_spec.specs.declared.kinds.Precedence.TheVariants as lev
use Rattle.syn_expr_spec.specs.Place.{plain, at}
use Rattle.syn_expr_spec.specs.Tree as e
use Rattle.syn_expr_spec.specs.Tree.{Tree, Children, leaf, paren, attributed, prefixed, infixed, tail, frame, none, child, attributed_with}
use Rattle.syn_expr_spec.specs.Slot.{frame_holder}
use Rattle.syn_expr_spec.specs.Stands.{Node, Content, Stands}

-- ---- kinds, of expressions before which no attributes are. `is_if_expr`, `is_cast` and `is_range` are in `Stands`.

-- `_`
abbrev pub is_infer : Tree → Bool
is_infer (leaf e.infer) = true
is_infer _ = false

-- `{ .. }`
abbrev pub is_block : Tree → Bool
is_block (leaf (e.block w b)) = true
is_block _ = false

-- `loop { .. }`
abbrev pub is_loop : Tree → Bool
is_loop (leaf (e.loop_expr w b)) = true
is_loop _ = false

-- `unsafe { .. }`
abbrev pub is_unsafe : Tree → Bool
is_unsafe (leaf (e.unsafe_block b)) = true
is_unsafe _ = false

-- `const { .. }`
abbrev pub is_const : Tree → Bool
is_const (leaf (e.const_block b)) = true
is_const _ = false

-- `async { .. }`
abbrev pub is_async : Tree → Bool
is_async (leaf (e.async_block m ts)) = true
is_async _ = false

-- `try { .. }`
abbrev pub is_try_block : Tree → Bool
is_try_block (leaf (e.try_block ts)) = true
is_try_block _ = false

-- `continue`
abbrev pub is_continue : Tree → Bool
is_continue (leaf (e.continuing w)) = true
is_continue _ = false

-- `return`, with a value or without
abbrev pub is_return : Tree → Bool
is_return (leaf (e.bare_jump e.returning)) = true
is_return (prefixed (e.jump e.returning) gs x) = true
is_return _ = false

-- `yield`, with a value or without
abbrev pub is_yield : Tree → Bool
is_yield (leaf (e.bare_jump e.yielding)) = true
is_yield (prefixed (e.jump e.yielding) gs x) = true
is_yield _ = false

-- `break`, with a label and a value or without
abbrev pub is_break : Tree → Bool
is_break (leaf (e.bare_jump (e.breaking w))) = true
is_break (prefixed (e.jump (e.breaking w)) gs x) = true
is_break _ = false

-- `(a)`
abbrev pub is_paren : Tree → Bool
is_paren (paren m x) = true
is_paren _ = false

-- `*a`, `!a`, `-a`
abbrev pub is_unary : Tree → Bool
is_unary (prefixed (e.unary op) gs x) = true
is_unary _ = false

-- `&raw const a`
abbrev pub is_raw_addr : Tree → Bool
is_raw_addr (prefixed (e.raw_addr m) gs x) = true
is_raw_addr _ = false

-- `let p = a`
abbrev pub is_let : Tree → Bool
is_let (prefixed (e.let_expr p) gs x) = true
is_let _ = false

-- a closure, with an output or without
abbrev pub is_closure : Tree → Bool
is_closure (prefixed (e.closure h) gs x) = true
is_closure (frame (e.closure_block h) ks) = true
is_closure _ = false

-- `[a, b]`
abbrev pub is_array : Tree → Bool
is_array (frame e.array ks) = true
is_array _ = false

-- `[a; n]`
abbrev pub is_repeat : Tree → Bool
is_repeat (frame e.repeat ks) = true
is_repeat _ = false

-- `(a, b)`
abbrev pub is_tuple : Tree → Bool
is_tuple (frame e.tuple ks) = true
is_tuple _ = false

-- `while a { .. }`
abbrev pub is_while : Tree → Bool
is_while (frame (e.while_loop w) ks) = true
is_while _ = false

-- `for p in a { .. }`
abbrev pub is_for_loop : Tree → Bool
is_for_loop (frame (e.for_loop w p) ks) = true
is_for_loop _ = false

-- `match a { .. }`
abbrev pub is_match : Tree → Bool
is_match (frame e.match_expr ks) = true
is_match _ = false

-- `a = b`
abbrev pub is_assign : Tree → Bool
is_assign (infixed x inf.Assign y) = true
is_assign _ = false

-- `a + b`, `a += b`
abbrev pub is_binary : Tree → Bool
is_binary (infixed x (inf.Binary op) y) = true
is_binary _ = false

-- `f(a)`
abbrev pub is_call : Tree → Bool
is_call (tail b e.call ks) = true
is_call _ = false

-- `a[i]`
abbrev pub is_index : Tree → Bool
is_index (tail b e.index ks) = true
is_index _ = false

-- `a.f(b)`
abbrev pub is_method_call : Tree → Bool
is_method_call (tail b (e.method w a) ks) = true
is_method_call _ = false

-- `a.b`, `a.0`
abbrev pub is_field : Tree → Bool
is_field (tail b (e.field m) ks) = true
is_field _ = false

-- `a.await`
abbrev pub is_await : Tree → Bool
is_await (tail b e.await ks) = true
is_await _ = false

-- `a?`
abbrev pub is_try : Tree → Bool
is_try (tail b e.try_expr ks) = true
is_try _ = false

-- without the attributes before it
abbrev pub unattributed : Tree → Tree
unattributed (attributed a more x) = x
unattributed x = x

-- of a kind, after attributes or none
abbrev pub behind_attributes : (Tree → Bool) → Tree → Bool
behind_attributes is x = is (unattributed x)

-- ---- what is

-- Of a kind, it is spelled by the tokens of l before n and obeys the binding rules inside; no place asks what is after it.
abbrev pub Alone : (Tree → Bool) → List Tok → Tree → List Tok → Type 0
Alone is l x n = Node plain l x n × (is x ≡ true)

-- a path, after attributes or none, before whatever follows; `try` too
pub data PathAlone : List Tok → Tree → List Tok → Type 0 where
  is_path : {l m n : List Tok} (ats : List AttributeTree) (q : QSelfTree) (w : PathTree)
      → outer_attributes.behind ats l ≡ Some m → (qpath type style.Expr).behind (q, w) m ≡ Some n
      → PathAlone l (attributed_with ats (leaf (e.path q w))) n

-- a literal, a number with its sign too
pub data LitAlone : List Tok → Tree → List Tok → Type 0 where
  is_lit : {l n : List Tok} {x : LitTree} → lit.behind x l ≡ Some n → LitAlone l (leaf (e.lit x)) n

-- the call of a macro
pub data MacroAlone : List Tok → Tree → List Tok → Type 0 where
  is_macro : {l n : List Tok} {x : MacroTree} → macro.behind x l ≡ Some n → MacroAlone l (leaf (e.mac x)) n

-- `&`, and `mut` or not, before an operand, which may be the path `raw`
pub data ReferenceAlone : List Tok → Tree → List Tok → Type 0 where
  is_reference : {l m n : List Tok} {b : Bool} {x : Tree}
      → and.at l ≡ true → (flag mutable).behind b (drop and.count l) ≡ Some m → Stands (at plain lev.Prefix) m x n
      → ReferenceAlone l (prefixed (e.reference b) none x) n

-- a struct expression, of the path `try` too
pub data StructAlone : List Tok → Tree → List Tok → Type 0 where
  is_struct : {l h n : List Tok} {q : QSelfTree} {w : PathTree} {d : Bool} {ks : Children}
      → (qpath type style.Expr).behind (q, w) l ≡ Some h → Content (frame_holder (e.structure q w d)) h ks n
      → StructAlone l (frame (e.structure q w d) ks) n

-- what is in invisible groups; attributes before a group are left out with it
abbrev pub ungrouped : Tree → Tree
ungrouped (frame e.group_expr (child k c x ks)) = ungrouped x
ungrouped (attributed a more (frame e.group_expr (child k c x ks))) = ungrouped x
ungrouped x = x

-- of a kind, looked at through invisible groups, after attributes or none
abbrev pub is_inside : (Tree → Bool) → Tree → Bool
is_inside is x = is (unattributed (ungrouped x))

-- an expression of a kind, without the invisible groups that it is in
pub data OfKind (is : Tree → Bool) : List Tok → Tree → List Tok → Type 0 where
  of_kind : {l n : List Tok} {x : Tree} → Stands plain l x n → is_inside is x ≡ true → OfKind is l (ungrouped x) n

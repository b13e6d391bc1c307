-- Which statements a list of tokens spells (Rust Reference, "Statements").
use Rattle.std.specs.Prelude.{◌≡◌, Bool, true, false, not, ◌||◌, ◌&&◌, List, [], ◌∷◌, ◌++◌, drop, Option, Some, None, is_some}
use Rattle.syn_tokens.specs.Tok.{Tok}
use Rattle.syn_tokens.specs.Front.{is_empty}
use Rattle.syn_lower_spec.specs.Tree.{AttributeTree}
use Rattle.syn_lower_spec.specs.Form.{Outcome, Test, flag}
use Rattle.syn_lower_spec.specs.Mark.{semi, eq}
use Rattle.syn_lower_spec.specs.Part.{MacroTree, macro, block, outer_attributes}
use Rattle.syn_lower_spec.specs.Pat.{PatTree}
use Rattle.syn_expr_spec.specs.Place.{plain, at_head}
use Rattle.syn_expr_spec.specs.Front.{dot_at, question_at}
use Rattle.syn_expr_spec.specs.Tree.{Tree}
use Rattle.syn_expr_spec.specs.Head.{let_word}
use Rattle.syn_expr_spec.specs.Slot.{else_word}
use Rattle.syn_expr_spec.specs.Stands.{Stands}
use Rattle.syn_expr_spec.specs.Rule.{is_brace_delimiter}
use Rattle.syn_expr_spec.specs.Query.{ends_with_brace}
use Rattle.syn_expr_spec.specs.Binding.{requires_semi_to_be_stmt}
use Rattle.syn_stmt_spec.specs.declared.kinds.ItemKind.{ItemKind}
use Rattle.syn_stmt_spec.specs.Item.{item_kind, find_item}
use Rattle.syn_stmt_spec.specs.Stmt.{Init, Stmt, empty, local, item, mac, expr, let_pattern}

-- `;` where it is said to be there, and none where not; the tokens after it
abbrev pub past_semi : Bool → List Tok → Option (List Tok)
past_semi s l = (flag semi).behind s l

-- A call of a macro is a statement by itself before `;`, and with braces too where no `.` or `?` goes on after it (Rust
-- Reference, "Expression statements", "Macro Invocation").
abbrev pub ends_macro : Bool → MacroTree → List Tok → Bool
ends_macro s m n = s || (is_brace_delimiter m.delimiter && not (dot_at n || question_at n))

abbrev pub is_macro_stmt : Outcome MacroTree → Bool
is_macro_stmt None = false
is_macro_stmt (Some (m, n)) = ends_macro (semi.at n) m n

-- such a call begins
unfoldable pub macro_stmt_at : Test
macro_stmt_at l = is_macro_stmt (macro.reads l)

unfoldable pub item_at : Test
item_at l = is_some (item_kind l)

-- no `let` statement begins, and no such call; and no expression begins an item
unfoldable pub expr_begins : Test
expr_begins l = not (macro_stmt_at l || let_word.at l)

-- An expression with a block needs no `;`, and none needs it as the last statement (Rust Reference, "Expression
-- statements", "Block expressions").
abbrev pub may_end : Tree → Bool → List Tok → Bool
may_end t s n = s || (is_empty n || not (requires_semi_to_be_stmt t))

-- SpellsInit l i n: `=` and an initialiser, before `;` or before `else` and a block: then it ends with no brace (Rust
-- Reference, "`let` statements").
pub data SpellsInit : List Tok → Option Init → List Tok → Type 0 where
  no_init : {n : List Tok} → eq.at n ≡ false → SpellsInit n None n
  is_init : {l n : List Tok} {t : Tree} → eq.at l ≡ true → Stands plain (drop 1 l) t n → else_word.at n ≡ false
      → SpellsInit l (Some (record { expr = t; diverge = None })) n
  is_let_else : {l m n ts : List Tok} {t : Tree} → eq.at l ≡ true → Stands plain (drop 1 l) t m → ends_with_brace t ≡ false
      → else_word.at m ≡ true → block.behind ts (drop 1 m) ≡ Some n → SpellsInit l (Some (record { expr = t; diverge = Some ts })) n

-- SpellsStmt l s n: the tokens of l before n spell the statement s.
pub data SpellsStmt : List Tok → Stmt → List Tok → Type 0 where
  is_empty_stmt : {l : List Tok} → semi.at l ≡ true → SpellsStmt l empty (drop 1 l)
  is_item : {l n ts : List Tok} {ats : List AttributeTree} {k : ItemKind}
      → outer_attributes.behind ats l ≡ Some (ts ++ n) → find_item (ts ++ n) ≡ Some (k, n) → SpellsStmt l (item ats ts) n
  is_local : {l m h n : List Tok} {ats : List AttributeTree} {p : PatTree} {i : Option Init}
      → outer_attributes.behind ats l ≡ Some m → let_word.at m ≡ true → let_pattern.behind p (drop 1 m) ≡ Some h
      → SpellsInit h i n → semi.at n ≡ true → SpellsStmt l (local ats p i) (drop 1 n)
  is_macro : {l m h n : List Tok} {ats : List AttributeTree} {x : MacroTree} {s : Bool}
      → outer_attributes.behind ats l ≡ Some m → macro.behind x m ≡ Some h → ends_macro s x h ≡ true → past_semi s h ≡ Some n
      → SpellsStmt l (mac ats x s) n
  -- the expression has its attributes itself
  is_expr : {l m h n : List Tok} {t : Tree} {s : Bool} (ats : List AttributeTree)
      → outer_attributes.behind ats l ≡ Some m → expr_begins m ≡ true → Stands at_head l t h → past_semi s h ≡ Some n → may_end t s h ≡ true
      → SpellsStmt l (expr t s) n

-- the statements of a whole list
pub data SpellsStmts : List Tok → List Stmt → Type 0 where
  no_stmts : SpellsStmts [] []
  more_stmts : {l n : List Tok} {s : Stmt} {ss : List Stmt} → SpellsStmt l s n → SpellsStmts n ss → SpellsStmts l (s ∷ ss)

-- One statement by itself: an expression that needs `;` has it at the end of a list too.
abbrev pub ends_alone : Stmt → Bool
ends_alone (expr t s) = s || not (requires_semi_to_be_stmt t)
ends_alone s = true

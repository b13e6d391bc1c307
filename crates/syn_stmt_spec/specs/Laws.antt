-- What is true of statements: each list spells at most one list of them, and is read so.
use Rattle.std.specs.Prelude.{◌≡◌, Bool, true, false, not, ◌||◌, ◌&&◌, List, [], ◌∷◌, ◌++◌, Option, Some}
use Rattle.syn_tokens.specs.Tok.{Tok}
use Rattle.syn_lower_spec.specs.Tree.{AttributeTree}
use Rattle.syn_lower_spec.specs.Form.{is_nil}
use Rattle.syn_lower_spec.specs.Mark.{semi}
use Rattle.syn_lower_spec.specs.Part.{outer_attributes}
use Rattle.syn_expr_spec.specs.declared.kinds.Place.{Place}
use Rattle.syn_expr_spec.specs.Front.{dot_at, question_at}
use Rattle.syn_expr_spec.specs.Minimal.{OneLess}
use Rattle.syn_expr_spec.specs.Next.{enclosed, in_statement}
use Rattle.syn_expr_spec.specs.Path.{invisible_at}
use Rattle.syn_expr_spec.specs.Query.{ends_with_brace}
use Rattle.syn_expr_spec.specs.Rule.{printed, put}
use Rattle.syn_expr_spec.specs.Tree.{Tree, clear, is_block_like}
use Rattle.syn_expr_spec.specs.Slot.{else_word}
use Rattle.syn_expr_spec.specs.Stands.{Stands}
use Rattle.syn_expr_spec.specs.WellFormed.{is_well_formed}
use Rattle.syn_expr_spec.specs.Printed.{in_plain, as_statement, plainly_attributed, StandsPrinted}
use Rattle.syn_expr_spec.specs.Binding.{requires_semi_to_be_stmt}
use Rattle.syn_stmt_spec.specs.declared.kinds.ItemKind.{ItemKind}
use Rattle.syn_stmt_spec.specs.Item.{find_item}
use Rattle.syn_stmt_spec.specs.Stmt.{Init, Stmt, local, expr, stmts_by}
use Rattle.syn_stmt_spec.specs.Spells.{item_at, may_end, SpellsInit, SpellsStmt, SpellsStmts, ends_alone}
use Rattle.syn_stmt_spec.specs.Printed.{IsSameList, open_end, printed_init, printed_stmt, printed_stmts, stmts_toks, stmts_fit}
use Rattle.syn_stmt_spec.specs.Read.{stmt, one_stmt, stmts}

-- What the reading answers is spelled, and what is spelled is its answer.
pub record ReadingIsExact : Type 0 where
  pub stmt_sound : (l : List Tok) (s : Stmt) (n : List Tok) → stmt l ≡ Some (s, n) → SpellsStmt l s n
  pub stmt_complete : (l : List Tok) (s : Stmt) (n : List Tok) → SpellsStmt l s n → stmt l ≡ Some (s, n)
  -- the same of one statement by itself
  pub one_sound : (l : List Tok) (s : Stmt) (n : List Tok) → one_stmt l ≡ Some (s, n) → SpellsStmt l s n × (ends_alone s ≡ true)
  pub one_complete : (l : List Tok) (s : Stmt) (n : List Tok) → SpellsStmt l s n → ends_alone s ≡ true → one_stmt l ≡ Some (s, n)
  -- and of all in a list
  pub sound : (l : List Tok) (ss : List Stmt) → stmts l ≡ Some ss → SpellsStmts l ss
  pub complete : (l : List Tok) (ss : List Stmt) → SpellsStmts l ss → stmts l ≡ Some ss

-- A list of tokens spells at most one list of statements.
abbrev pub OneList : Type 0
OneList = (l : List Tok) (ss rs : List Stmt) → SpellsStmts l ss → SpellsStmts l rs → ss ≡ rs

-- An item ends with its last token: it is the same before any others.
pub record ItemsStand : Type 0 where
  pub before : (ts n : List Tok) (k : ItemKind) → find_item ts ≡ Some (k, []) → find_item (ts ++ n) ≡ Some (k, n)
  pub alone : (ts n : List Tok) (k : ItemKind) → find_item (ts ++ n) ≡ Some (k, n) → find_item ts ≡ Some (k, [])

-- ---- expressions in statements (Rust Reference, "Expression statements", "`let` statements")

-- What may end a statement begins no item and with no `;`, behind its attributes.
abbrev pub NoExpressionBeginsItem : Type 0
NoExpressionBeginsItem = (p : Place) (ats : List AttributeTree) (l m n : List Tok) (t : Tree) → outer_attributes.behind ats l ≡ Some m → Stands p l t n
    → may_end t (semi.at n) n ≡ true → (item_at m ≡ false) × (semi.at m ≡ false)

-- No statement goes on with what comes before it.
abbrev pub NoStatementGoesOn : Type 0
NoStatementGoesOn = (l n : List Tok) (s : Stmt) → SpellsStmt l s n → (dot_at l || question_at l ≡ false) × (else_word.at l ≡ false)

pub record PrintedExpressionsStand : Type 0 where
  -- A well-formed expression that is printed in plain position stands there before `;`.
  pub before_semi : (t : Tree) (rest : List Tok) → is_well_formed t ≡ true → semi.at rest ≡ true → StandsPrinted in_plain t rest
  -- One that ends with a block, printed as a statement, stands there before all that doesn't go on with it.
  pub blocks : (t : Tree) (rest : List Tok) → is_well_formed t ≡ true → is_block_like t ≡ true → dot_at rest || question_at rest ≡ false
      → else_word.at rest ≡ false → StandsPrinted as_statement t rest

-- What stands before `else` has no open right end.
abbrev pub NoneOpenBeforeElse : Type 0
NoneOpenBeforeElse = (p : Place) (l : List Tok) (t : Tree) (n : List Tok) → Stands p l t n → else_word.at n ≡ true → open_end t ≡ false

-- A well-formed initialiser that is printed stands before `else`, but where it ends with a brace or its right end is open.
abbrev pub ClosedStandBeforeElse : Type 0
ClosedStandBeforeElse = (t : Tree) (rest : List Tok) → is_well_formed t ≡ true → ends_with_brace (printed enclosed t) || open_end (printed enclosed t) ≡ false
    → else_word.at rest ≡ true → StandsPrinted in_plain t rest

-- What was read is printed as it is.
pub record OwnSpelling : Type 0 where
  -- An initialiser, also one before `else`, where no operation in it has attributes.
  pub initialisers : (l n : List Tok) (i : Init) → SpellsInit l (Some i) n → plainly_attributed i.expr ≡ true → printed_init (Some i) ≡ Some i
  -- An expression in statement position that no invisible group comes first in, where no operation in it has attributes.
  pub expressions : (l m n : List Tok) (ats : List AttributeTree) (t : Tree) (s : Bool) → SpellsStmt l (expr t s) n → outer_attributes.behind ats l ≡ Some m
      → invisible_at m ≡ false → plainly_attributed t ≡ true → printed_stmt (expr t s) ≡ expr t s
  -- No `;` is filled in after an expression.
  pub semicolons : (l n : List Tok) (t : Tree) (s : Bool) (ss : List Stmt) → SpellsStmt l (expr t s) n → SpellsStmts n ss
      → s || (requires_semi_to_be_stmt t && not (is_nil ss)) ≡ s

-- no invisible group is among these tokens
abbrev pub none_hidden : List Tok → Bool
none_hidden [] = true
none_hidden (t ∷ l) = not (invisible_at (t ∷ l)) && none_hidden l

-- no operation in these expressions has attributes
abbrev pub stmt_plainly : Stmt → Bool
stmt_plainly (local ats p (Some i)) = plainly_attributed i.expr
stmt_plainly (expr t s) = plainly_attributed t
stmt_plainly _ = true

abbrev pub stmts_plainly : List Stmt → Bool
stmts_plainly [] = true
stmts_plainly (s ∷ ss) = stmt_plainly s && stmts_plainly ss

-- A list of statements that was read is printed as it is.
abbrev pub OwnLists : Type 0
OwnLists = (l : List Tok) (ss : List Stmt) → SpellsStmts l ss → none_hidden l ≡ true → stmts_plainly ss ≡ true → printed_stmts ss ≡ ss

-- ---- printed statements

-- Well-formed statements are printed as tokens that spell the same statements, up to parentheses and fill-ins.
pub record PrintedIsReadBack : Type 0 where
  pub spelled : (ss : List Stmt) → stmts_fit ss ≡ true → SpellsStmts (stmts_toks ss) (stmts_by clear (printed_stmts ss))
  pub same : (ss : List Stmt) → stmts_fit ss ≡ true → IsSameList ss (stmts_by clear (printed_stmts ss))

-- Without one of the added pairs the tree is spelled there by no list. (No operation in what is left has attributes.)
pub record NoStmtPairRedundant : Type 0 where
  -- an expression in statement position that no invisible group comes first in
  pub expressions : (t q : Tree) (l m n : List Tok) (ats : List AttributeTree) (s : Bool) → is_well_formed t ≡ true → OneLess (printed in_statement t) q
      → plainly_attributed q ≡ true → SpellsStmt l (expr (clear q) s) n → outer_attributes.behind ats l ≡ Some m → invisible_at m ≡ false → ⊥
  -- an initialiser, itself in parentheses or not
  pub initialisers : (b : Bool) (t q : Tree) (l n : List Tok) (d : Option (List Tok)) → is_well_formed t ≡ true → OneLess (printed enclosed t) q
      → plainly_attributed q ≡ true → SpellsInit l (Some (record { expr = clear (put b q q); diverge = d })) n → ⊥
  -- the pair that is round it before `else`
  pub before_else : (t : Tree) (l n ts : List Tok) → ends_with_brace (printed enclosed t) || open_end (printed enclosed t) ≡ true
      → SpellsInit l (Some (record { expr = clear (printed enclosed t); diverge = Some ts })) n → ⊥

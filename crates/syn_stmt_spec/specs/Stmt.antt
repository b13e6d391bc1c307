-- Statements as trees, without places in a text (Rust Reference, "Statements"), and their own spelling.
use Rattle.std.specs.Prelude.{Bool, true, false, List, [], ◌∷◌, ◌++◌, codes, Option, Some, None}
use Rattle.syn_tokens.specs.Tok.{Tok, ident}
use Rattle.syn_lower_spec.specs.Tree.{AttributeTree, TypeTree}
use Rattle.syn_lower_spec.specs.Form.{Form, maybe, both, shown, mark}
use Rattle.syn_lower_spec.specs.Mark.{colon}
use Rattle.syn_lower_spec.specs.Part.{MacroTree, type}
use Rattle.syn_lower_spec.specs.Pat.{PatTree, pattern, to_typed, from_typed}
use Rattle.syn_lower_spec.specs.Own.{alone, before_if, before_some, block_own, macro_own}
use Rattle.syn_lower_spec.specs.PatOwn.{attributes_own, pat_own}
use Rattle.syn_expr_spec.specs.Tree.{Tree, own}

-- an initialiser, and the tokens in the braces after `else`
pub record Init : Type 0 where
  pub expr : Tree
  pub diverge : Option (List Tok)

pub data Stmt : Type 0 where
  -- `;` alone
  empty : Stmt
  -- a `let` statement: its attributes, its pattern with its type, its initialiser
  local : List AttributeTree → PatTree → Option Init → Stmt
  -- an item: its attributes, and its other tokens
  item : List AttributeTree → List Tok → Stmt
  -- a call of a macro that is a statement by itself, and whether `;` ends it
  mac : List AttributeTree → MacroTree → Bool → Stmt
  -- an expression, and whether `;` ends it
  expr : Tree → Bool → Stmt

-- a pattern without alternatives at its top, and perhaps `:` and a type (Rust Reference, "`let` statements")
abbrev pub to_let : PatTree × Option TypeTree → PatTree
to_let p = to_typed p.0 p.1

abbrev pub from_let : PatTree → Option (PatTree × Option TypeTree)
from_let p = Some (from_typed p)

unfoldable pub let_pattern : Form PatTree
let_pattern = shown to_let from_let (both (pattern false) (maybe colon.at (mark colon (type true))))

-- ---- own spelling: the tokens from left to right, before the tokens r

abbrev pub semi_if : Bool → List Tok → List Tok
semi_if s r = before_if s (λ l. alone 59 ∷ l) r

abbrev pub init_own : Init → List Tok → List Tok
init_own i r = alone 61 ∷ own i.expr (before_some i.diverge (λ ts l. ident (codes "else") ∷ block_own ts l) r)

abbrev pub stmt_own : Stmt → List Tok → List Tok
stmt_own empty r = alone 59 ∷ r
stmt_own (local ats p i) r = attributes_own ats (ident (codes "let") ∷ pat_own p (before_some i init_own (alone 59 ∷ r)))
stmt_own (item ats ts) r = attributes_own ats (ts ++ r)
stmt_own (mac ats m s) r = attributes_own ats (macro_own m (semi_if s r))
stmt_own (expr t s) r = own t (semi_if s r)

abbrev pub stmts_own : List Stmt → List Tok
stmts_own [] = []
stmts_own (s ∷ ss) = stmt_own s (stmts_own ss)

-- ---- the same with other expressions

abbrev pub init_by : (Tree → Tree) → Option Init → Option Init
init_by f None = None
init_by f (Some i) = Some (record { expr = f i.expr; diverge = i.diverge })

abbrev pub stmt_by : (Tree → Tree) → Stmt → Stmt
stmt_by f (local ats p i) = local ats p (init_by f i)
stmt_by f (expr t s) = expr (f t) s
stmt_by f s = s

abbrev pub stmts_by : (Tree → Tree) → List Stmt → List Stmt
stmts_by f [] = []
stmts_by f (s ∷ ss) = stmt_by f s ∷ stmts_by f ss

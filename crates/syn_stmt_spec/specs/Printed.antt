-- What is printed of statements: their fill-ins, and parentheses by the place of each expression (Rust Reference,
-- "Statements").
use Rattle.std.specs.Prelude.{◌≡◌, Bool, true, false, not, ◌||◌, ◌&&◌, if◌then◌else◌, List, [], ◌∷◌, ◌++◌, Option, Some, None, is_some}
use Rattle.syn_tokens.specs.Tok.{Tok}
use Rattle.syn_lower_spec.specs.Tree.{AttributeTree}
use Rattle.syn_lower_spec.specs.Form.{is_nil}
use Rattle.syn_lower_spec.specs.Part.{MacroTree}
use Rattle.syn_lower_spec.specs.Pat.{PatTree, attributed}
use Rattle.syn_lower_spec.specs.Fits.{macro_fits}
use Rattle.syn_lower_spec.specs.PatFits.{attributes_outer, typed_fits}
use Rattle.syn_expr_spec.specs.declared.kinds.Limits.TheVariants as limits
use Rattle.syn_expr_spec.specs.Next.{enclosed, in_statement}
use Rattle.syn_expr_spec.specs.Tree as e
use Rattle.syn_expr_spec.specs.Tree.{Tree, Leaf, Postfix, fill, flatten}
use Rattle.syn_expr_spec.specs.Rule.{put, printed, is_brace_delimiter}
use Rattle.syn_expr_spec.specs.Query.{ends_with_brace}
use Rattle.syn_expr_spec.specs.WellFormed.{is_well_formed}
use Rattle.syn_expr_spec.specs.Binding.{requires_semi_to_be_stmt}
use Rattle.syn_expr_spec.specs.Read.{all_of}
use Rattle.syn_stmt_spec.specs.Item.{find_item}
use Rattle.syn_stmt_spec.specs.Stmt.{Init, Stmt, empty, local, item, mac, expr, stmts_own, stmts_by}

-- ---- the fill-ins: `;` after an expression that needs it before others; and a call of a macro that is a statement by itself

-- the macro that an expression calls, and the attributes before it
abbrev pub called_by : Leaf → Option (List AttributeTree × MacroTree)
called_by (e.mac m) = Some ([], m)
called_by _ = None

abbrev pub behind : List AttributeTree → Option (List AttributeTree × MacroTree) → Option (List AttributeTree × MacroTree)
behind ats None = None
behind ats (Some (more, m)) = Some (ats ++ more, m)

abbrev pub called : Tree → Option (List AttributeTree × MacroTree)
called (e.leaf k) = called_by k
called (e.attributed a more t) = behind (a ∷ more) (called t)
called _ = None

abbrev pub expr_or_macro : Option (List AttributeTree × MacroTree) → Tree → Bool → Stmt
expr_or_macro None t s = expr t s
expr_or_macro (Some (ats, m)) t s = if s || is_brace_delimiter m.delimiter then mac ats m s else expr t s

abbrev pub complete_stmt : Bool → Stmt → Stmt
complete_stmt last (expr t s) = expr_or_macro (called t) t (s || (requires_semi_to_be_stmt t && not last))
complete_stmt last s = s

abbrev pub complete : List Stmt → List Stmt
complete [] = []
complete (s ∷ ss) = complete_stmt (is_nil ss) s ∷ complete ss

-- the same up to parentheses and fill-ins: ss is printed, rs read back
abbrev pub IsSameList : List Stmt → List Stmt → Type 0
IsSameList ss rs = stmts_by flatten rs ≡ stmts_by flatten (stmts_by fill (complete ss))

-- ---- before `else`

abbrev pub leaf_open : Leaf → Bool
leaf_open (e.bare_jump j) = true
leaf_open (e.full_range limits.HalfOpen) = true
leaf_open _ = false

abbrev pub postfix_open : Postfix → Bool
postfix_open (e.range_from op) = true
postfix_open (e.cast x) = false

-- The bare right end is a jump without a value or a range without an end, which `else` would be read as the beginning of.
abbrev pub open_end : Tree → Bool
open_end (e.leaf k) = leaf_open k
open_end (e.attributed a more t) = open_end t
open_end (e.prefixed k gs t) = open_end t
open_end (e.infixed x k y) = open_end y
open_end (e.postfixed x k) = postfix_open k
open_end _ = false

-- Before `else` an initialiser is in parentheses where it ends with a brace, or its right end is open.
abbrev pub before_else : Tree → Tree
before_else t = put (ends_with_brace t || open_end t) t t

abbrev pub diverging : Option (List Tok) → Tree → Tree
diverging None t = t
diverging (Some ts) t = before_else t

-- ---- the statements as printed

abbrev pub printed_init : Option Init → Option Init
printed_init None = None
printed_init (Some i) = Some (record { expr = diverging i.diverge (printed enclosed i.expr); diverge = i.diverge })

abbrev pub printed_stmt : Stmt → Stmt
printed_stmt (local ats p i) = local ats p (printed_init i)
printed_stmt (expr t s) = expr (printed in_statement t) s
printed_stmt s = s

abbrev pub each_printed : List Stmt → List Stmt
each_printed [] = []
each_printed (s ∷ ss) = printed_stmt s ∷ each_printed ss

abbrev pub printed_stmts : List Stmt → List Stmt
printed_stmts ss = each_printed (complete ss)

abbrev pub stmts_toks : List Stmt → List Tok
stmts_toks ss = stmts_own (printed_stmts ss)

-- ---- the statements that a reader can give back

-- the tokens of one item, and no others
unfoldable pub is_item_toks : List Tok → Bool
is_item_toks ts = is_some (all_of (find_item ts))

abbrev pub let_fits : PatTree → Bool
let_fits (attributed a more p) = false
let_fits p = typed_fits p

abbrev pub init_fits : Option Init → Bool
init_fits None = true
init_fits (Some i) = is_well_formed i.expr

abbrev pub stmt_fits : Stmt → Bool
stmt_fits empty = true
stmt_fits (local ats p i) = attributes_outer ats && (let_fits p && init_fits i)
stmt_fits (item ats ts) = attributes_outer ats && is_item_toks ts
stmt_fits (mac ats m s) = attributes_outer ats && (macro_fits m && (s || is_brace_delimiter m.delimiter))
stmt_fits (expr t s) = is_well_formed t

abbrev pub lacks_semi : Stmt → Bool
lacks_semi (mac ats m s) = not s
lacks_semi (expr t s) = not s
lacks_semi s = false

abbrev pub begins_empty : List Stmt → Bool
begins_empty (empty ∷ ss) = true
begins_empty ss = false

-- A `;` alone doesn't come directly after an expression or a macro without one: it would be that one's.
abbrev pub stmts_fit : List Stmt → Bool
stmts_fit [] = true
stmts_fit (s ∷ ss) = stmt_fits s && (not (lacks_semi s && begins_empty ss) && stmts_fit ss)

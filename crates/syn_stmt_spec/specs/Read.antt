-- How statements are read, step by step. No contract of a reader names this: `SpellsStmts` says what is read, and
-- `ReadingIsExact` that this is it.
use Rattle.std.specs.Prelude.{ℕ, zero, suc, Bool, not, if◌then◌else◌, List, [], ◌∷◌, drop, Option, Some, None}
use Rattle.syn_tokens.specs.Tok.{Tok, weight}
use Rattle.syn_lower_spec.specs.Tree.{AttributeTree}
use Rattle.syn_lower_spec.specs.Form.{Outcome, and_then, flag}
use Rattle.syn_lower_spec.specs.Mark.{semi, eq}
use Rattle.syn_lower_spec.specs.Part.{MacroTree, macro, block, outer_attributes}
use Rattle.syn_lower_spec.specs.Pat.{PatTree}
use Rattle.syn_expr_spec.specs.Place.{plain, at_head}
use Rattle.syn_expr_spec.specs.Tree.{Tree}
use Rattle.syn_expr_spec.specs.Head.{let_word}
use Rattle.syn_expr_spec.specs.Slot.{else_word}
use Rattle.syn_expr_spec.specs.Query.{ends_with_brace}
use Rattle.syn_expr_spec.specs.Read as r
use Rattle.syn_expr_spec.specs.Read.{Reading, only_if, taken, is_taken}
use Rattle.syn_stmt_spec.specs.declared.kinds.ItemKind.{ItemKind}
use Rattle.syn_stmt_spec.specs.Item.{find_item}
use Rattle.syn_stmt_spec.specs.Stmt.{Init, Stmt, empty, local, item, mac, expr, let_pattern}
use Rattle.syn_stmt_spec.specs.Spells.{macro_stmt_at, item_at, ends_macro, may_end, ends_alone}

-- ---- items

-- the tokens of l before n
abbrev pub item_by : List AttributeTree → List Tok → Outcome ItemKind → Outcome Stmt
item_by ats l None = None
item_by ats l (Some p) = only_if (is_taken l p.1) (Some (item ats (taken l p.1), p.1))

unfoldable pub item_read : List AttributeTree → Reading Stmt
item_read ats l = item_by ats l (find_item l)

-- ---- macros and expressions, with `;` or without one

abbrev pub mac_made : List AttributeTree → MacroTree → List Tok → Bool → List Tok → Outcome Stmt
mac_made ats x h s n = only_if (ends_macro s x h) (Some (mac ats x s, n))

abbrev pub mac_behind : List AttributeTree → MacroTree → Reading Stmt
mac_behind ats x h = and_then ((flag semi).reads h) (mac_made ats x h)

unfoldable pub mac_read : List AttributeTree → Reading Stmt
mac_read ats l = and_then (macro.reads l) (mac_behind ats)

abbrev pub expr_made : Tree → List Tok → Bool → List Tok → Outcome Stmt
expr_made t h s n = only_if (may_end t s h) (Some (expr t s, n))

abbrev pub expr_behind : Tree → Reading Stmt
expr_behind t h = and_then ((flag semi).reads h) (expr_made t h)

unfoldable pub expr_read : Reading Stmt
expr_read l = and_then (r.expr at_head l) expr_behind

-- ---- `let` statements

abbrev pub init_of : Tree → Option (List Tok) → Option Init
init_of t d = Some (record { expr = t; diverge = d })

abbrev pub else_made : Tree → List Tok → List Tok → Outcome (Option Init)
else_made t ts n = Some (init_of t (Some ts), n)

-- behind an initialiser
abbrev pub init_behind : Tree → Reading (Option Init)
init_behind t l =
    if else_word.at l then only_if (not (ends_with_brace t)) (and_then (block.reads (drop 1 l)) (else_made t))
    else Some (init_of t None, l)

unfoldable pub init_read : Reading (Option Init)
init_read l = if eq.at l then and_then (r.expr plain (drop 1 l)) init_behind else Some (None, l)

abbrev pub local_made : List AttributeTree → PatTree → Option Init → List Tok → Outcome Stmt
local_made ats p i n = only_if (semi.at n) (Some (local ats p i, drop 1 n))

abbrev pub local_behind : List AttributeTree → PatTree → Reading Stmt
local_behind ats p h = and_then (init_read h) (local_made ats p)

-- after `let`
unfoldable pub local_read : List AttributeTree → Reading Stmt
local_read ats l = and_then (let_pattern.reads l) (local_behind ats)

-- ---- statements

-- behind the attributes at the front of l; an expression is read from these on
abbrev pub stmt_behind : List Tok → List AttributeTree → Reading Stmt
stmt_behind l ats m =
    if item_at m then item_read ats m
    else (if macro_stmt_at m then mac_read ats m
    else (if let_word.at m then local_read ats (drop 1 m)
    else expr_read l))

unfoldable pub stmt : Reading Stmt
stmt l = if semi.at l then Some (empty, drop 1 l) else and_then (outer_attributes.reads l) (stmt_behind l)

-- one statement by itself
abbrev pub alone : Outcome Stmt → Outcome Stmt
alone None = None
alone (Some p) = only_if (ends_alone p.0) (Some p)

unfoldable pub one_stmt : Reading Stmt
one_stmt l = alone (stmt l)

-- ---- lists

abbrev pub added : Stmt → Option (List Stmt) → Option (List Stmt)
added s None = None
added s (Some ss) = Some (s ∷ ss)

abbrev pub further : (List Tok → Option (List Stmt)) → Outcome Stmt → Option (List Stmt)
further more None = None
further more (Some p) = added p.0 (more p.1)

-- no more than so many
unfoldable pub stmts_within : ℕ → List Tok → Option (List Stmt)
stmts_within k [] = Some []
stmts_within zero (t ∷ l) = None
stmts_within (suc k) (t ∷ l) = further (stmts_within k) (stmt (t ∷ l))

-- the statements of a whole list
unfoldable pub stmts : List Tok → Option (List Stmt)
stmts l = stmts_within (weight l) l

-- Items as statements: with which first tokens an item begins, and which token it ends with (Rust Reference, "Items").
-- The tokens between are kept, and nothing is asked of them.
use Rattle.std.specs.Prelude.{ℕ, suc, Bool, true, false, not, ◌||◌, ◌&&◌, ◌==◌, if◌then◌else◌, List, [], ◌∷◌, drop, codes, Option, Some, None, is_some}
use Rattle.std.specs.Str.{bytes_eq}
use Rattle.syn_lexer.specs.Keywords.{is_reserved_word}
use Rattle.syn_lexer.specs.declared.front.Delimiter.{Delimiter}
use Rattle.syn_lexer.specs.declared.front.Spacing.{Spacing}
use Rattle.syn_tokens.specs.Tok.{Tok, ident, punct, literal, group}
use Rattle.syn_tokens.specs.Floats.{is_joint}
use Rattle.syn_lower_spec.specs.declared.label.PathStyle.TheVariants as style
use Rattle.syn_lower_spec.specs.Text.{Text}
use Rattle.syn_lower_spec.specs.Tree.{PathTree}
use Rattle.syn_lower_spec.specs.Form.{Form, Outcome, Test, leaf, mark, both}
use Rattle.syn_lower_spec.specs.Mark.{word_at, brace_at, round_at, semi, not_ne, mutable, constant, implementing, extern_word, fn_word, underscore}
use Rattle.syn_lower_spec.specs.Part.{word_if, is_name_there, string_at, any_group, path, type}
use Rattle.syn_lower_spec.specs.Own.{one_less}
use Rattle.syn_expr_spec.specs.Head.{bar, static_word, use_word}
use Rattle.syn_expr_spec.specs.Rule.{is_brace_delimiter}
use Rattle.syn_stmt_spec.specs.declared.kinds.ItemKind.{ItemKind}
use Rattle.syn_stmt_spec.specs.declared.kinds.ItemKind.TheVariants as kind

-- ---- first tokens

-- past a word, where it is there
abbrev pub past : Text → List Tok → List Tok
past w l = if word_at w l then drop 1 l else l

abbrev pub past_string : List Tok → List Tok
past_string l = if string_at l then drop 1 l else l

-- past `extern` and perhaps a string (Rust Reference, "Functions")
abbrev pub past_abi : List Tok → List Tok
past_abi l = if extern_word.at l then past_string (drop 1 l) else l

abbrev pub past_group : List Tok → List Tok
past_group l = if round_at l then drop 1 l else l

-- past `pub` and perhaps a group in parentheses (Rust Reference, "Visibility and privacy")
abbrev pub past_visibility : List Tok → List Tok
past_visibility l = if word_at (codes "pub") l then past_group (drop 1 l) else l

-- Rust Reference, "Functions"
abbrev pub fn_begins : Test
fn_begins l = fn_word.at (past_abi (past (codes "unsafe") (past (codes "async") (past (codes "const") l))))

-- `use`, but not that of a closure (Rust Reference, "Use declarations")
abbrev pub use_begins : Test
use_begins l = use_word.at l && not (bar.at (drop 1 l))

-- Rust Reference, "Static items"
abbrev pub static_begins : Test
static_begins l = static_word.at l && (mutable.at (drop 1 l) || is_name_there (drop 1 l))

-- Rust Reference, "Constant items"
abbrev pub const_begins : Test
const_begins l = constant.at l && (underscore.at (drop 1 l) || is_name_there (drop 1 l))

-- Rust Reference, "Extern crate declarations"
abbrev pub extern_crate_begins : Test
extern_crate_begins l = extern_word.at l && word_at (codes "crate") (drop 1 l)

abbrev pub foreign_behind : Test
foreign_behind l = extern_word.at l && brace_at (past_string (drop 1 l))

-- Rust Reference, "External blocks"
abbrev pub foreign_mod_begins : Test
foreign_mod_begins l = foreign_behind (past (codes "unsafe") l)

-- Rust Reference, "Modules"
abbrev pub mod_begins : Test
mod_begins l = word_at (codes "mod") (past (codes "unsafe") l)

-- Rust Reference, "Traits"; auto traits are unstable
abbrev pub trait_begins : Test
trait_begins l = word_at (codes "trait") (past (codes "auto") (past (codes "unsafe") l))

-- Rust Reference, "Implementations"; `default` is unstable
abbrev pub impl_begins : Test
impl_begins l = implementing.at (past (codes "unsafe") (past (codes "default") l))

-- Outside of items `union` is a name (Rust Reference, "Unions").
abbrev pub union_begins : Test
union_begins l = word_at (codes "union") l && is_name_there (drop 1 l)

-- an identifier, or `try`
abbrev pub find_macro_name : List Tok → Outcome Text
find_macro_name (ident w ∷ l) = word_if (not (is_reserved_word w) || bytes_eq w (codes "try")) w l
find_macro_name _ = None

abbrev pub macro_name : Form Text
macro_name = leaf bytes_eq find_macro_name

-- a path, `!`, a name and a group, as `macro_rules ! m { .. }` (Rust Reference, "Macros By Example")
abbrev pub macro_head : Form (PathTree × (Text × (Delimiter × List Tok)))
macro_head = both (path type style.Mod) (mark not_ne (both macro_name any_group))

unfoldable pub macro_begins : Test
macro_begins l = is_some (macro_head.reads l)

-- ---- the kind: that of the first row whose test holds (Rust Reference, "Type aliases", "Structs", "Enumerations"; `macro`
-- is unstable)

abbrev pub Rows : Type 0
Rows = List (Test × ItemKind)

abbrev pub rows : Rows
rows =
    (fn_begins, kind.Fn) ∷ (use_begins, kind.Use) ∷ (static_begins, kind.Static) ∷ (const_begins, kind.Const)
    ∷ (word_at (codes "type"), kind.Type) ∷ (extern_crate_begins, kind.ExternCrate) ∷ (foreign_mod_begins, kind.ForeignMod)
    ∷ (mod_begins, kind.Mod) ∷ (trait_begins, kind.Trait) ∷ (impl_begins, kind.Impl) ∷ (word_at (codes "struct"), kind.Struct)
    ∷ (word_at (codes "enum"), kind.Enum) ∷ (union_begins, kind.Union) ∷ (word_at (codes "macro"), kind.Macro2) ∷ []

abbrev pub first_row : Rows → Option ItemKind → List Tok → Option ItemKind
first_row [] other l = other
first_row (r ∷ more) other l = if r.0 l then Some r.1 else first_row more other l

-- A macro is called without a visibility.
unfoldable pub item_kind : List Tok → Option ItemKind
item_kind l =
    if word_at (codes "pub") l then first_row rows None (past_visibility l)
    else first_row rows (if macro_begins l then Some kind.Macro else None) l

-- ---- the last token

-- what is directly before a token
pub data Before : Type 0 where
  other : Before
  -- a `-` that is joined to the token
  minus : Before
  name : Before
  -- a name and `!`
  name_bang : Before

abbrev pub is_name : Before → Bool
is_name name = true
is_name _ = false

abbrev pub is_minus : Before → Bool
is_minus minus = true
is_minus _ = false

abbrev pub is_name_bang : Before → Bool
is_name_bang name_bang = true
is_name_bang _ = false

abbrev pub behind_punct : Before → ℕ → Spacing → Before
behind_punct b c s = if c == 45 && is_joint s then minus else (if c == 33 && is_name b then name_bang else other)

-- how many angle brackets are open after a punct: the `>` of `->` closes none
abbrev pub depth_behind : Before → ℕ → ℕ → ℕ
depth_behind b c d = if c == 60 then suc d else (if c == 62 && not (is_minus b) then one_less d else d)

-- A group in braces is the item's body outside of angle brackets, and where no macro is called with it.
abbrev pub is_body : Before → ℕ → Delimiter → Bool
is_body b d g = is_brace_delimiter g && (d == 0 && not (is_name_bang b))

-- the tokens after the body; after the first `;`, if that comes before and may end the item
abbrev pub body_end : Bool → Before → ℕ → List Tok → Option (List Tok)
body_end semi_ends b d [] = None
body_end semi_ends b d (ident w ∷ l) = body_end semi_ends (if is_reserved_word w then other else name) d l
body_end semi_ends b d (literal w ∷ l) = body_end semi_ends other d l
body_end semi_ends b d (group g i ∷ l) = if is_body b d g then Some l else body_end semi_ends other d l
body_end semi_ends b d (punct c s ∷ l) =
    if c == 59 then (if semi_ends then Some l else None) else body_end semi_ends (behind_punct b c s) (depth_behind b c d) l

abbrev pub semi_end : List Tok → Option (List Tok)
semi_end [] = None
semi_end (t ∷ l) = if semi.at (t ∷ l) then Some l else semi_end l

-- A group in braces ends the call of a macro, another one and a `;` does.
abbrev pub macro_end : Outcome (PathTree × (Text × (Delimiter × List Tok))) → Option (List Tok)
macro_end None = None
macro_end (Some (x, n)) = if is_brace_delimiter x.1.1.0 then Some n else (if semi.at n then Some (drop 1 n) else None)

-- the tokens after an item of the kind
abbrev pub item_end : ItemKind → List Tok → Option (List Tok)
item_end kind.Use l = semi_end l
item_end kind.Static l = semi_end l
item_end kind.Const l = semi_end l
item_end kind.Type l = semi_end l
item_end kind.ExternCrate l = semi_end l
item_end kind.Fn l = body_end true other 0 l
item_end kind.Mod l = body_end true other 0 l
item_end kind.Trait l = body_end true other 0 l
item_end kind.Struct l = body_end true other 0 l
item_end kind.Macro l = macro_end (macro_head.reads l)
item_end _ l = body_end false other 0 l

abbrev pub ended : ItemKind → Option (List Tok) → Outcome ItemKind
ended k None = None
ended k (Some n) = Some (k, n)

abbrev pub item_of : Option ItemKind → List Tok → Outcome ItemKind
item_of None l = None
item_of (Some k) l = ended k (item_end k l)

-- an item is at the front: its kind, and the tokens after it
unfoldable pub find_item : List Tok → Outcome ItemKind
find_item l = item_of (item_kind l) l

-- Patterns (Rust Reference, "Patterns"): their trees, and what spells those without guards.
use Rattle.std.specs.Prelude.{◌≡◌, ℕ, ◌+◌, ◌-◌, ◌*◌, Bool, true, false, not, ◌||◌, ◌&&◌, ◌==◌, nat_le, nat_lt, if◌then◌else◌, List, [], ◌∷◌, drop, codes, Option, Some, None}
use Rattle.std.specs.Str.{bytes_eq}
use Rattle.syn_lexer.specs.Keywords.{is_reserved_word}
use Rattle.syn_lexer.specs.declared.front.Delimiter.{Delimiter}
use Rattle.syn_lexer.specs.declared.front.Delimiter.TheVariants as del
use Rattle.syn_tokens.specs.Tok.{Tok, ident, punct, literal}
use Rattle.syn_tokens.specs.Front.{is_empty}
use Rattle.syn_lower_spec.specs.declared.label.PathStyle.TheVariants as style
use Rattle.syn_lower_spec.specs.Text.{Text, is_segment, is_truth, is_number, has_radix, byte_at}
use Rattle.syn_lower_spec.specs.Tree as t
use Rattle.syn_lower_spec.specs.Tree.{LitTree, AttributeTree, PathTree, QSelfTree, TypeTree}
use Rattle.syn_lower_spec.specs.Form.{Form, Outcome, Test, Mark, leaf, when, fix, mark, then_by, both, shown, pure, inside, case, group_case, flag, is_true, maybe, listed, joined, is_nil}
use Rattle.syn_lower_spec.specs.Mark.{sign, sign_at, word, brace_at, round_at, and, comma, colon, colon2, less, not_ne, mutable, constant, underscore}
use Rattle.syn_lower_spec.specs.Part.{name, is_name_there, lit, is_lit_there, is_literal_there, block, outer_attributes, qpath, type, QPathTree, MacroTree, any_group, is_bare}

-- ---- members: a name, or an index (Rust Reference, "Tuple indexing expressions")

pub data MemberTree : Type 0 where
  a_name : Text → MemberTree
  an_index : ℕ → MemberTree

-- the value of a digit in a base; 99 where it is none
abbrev pub digit_value : ℕ → ℕ
digit_value c =
    if nat_le 48 c && nat_le c 57 then c - 48 else
    (if nat_le 97 c && nat_le c 102 then c - 87 else (if nat_le 65 c && nat_le c 70 then c - 55 else 99))

-- Underscores are ignored, and all else is a digit of the base.
abbrev pub digits_value : ℕ → ℕ → Text → Option ℕ
digits_value base found [] = Some found
digits_value base found (c ∷ text) =
    if c == 95 then digits_value base found text else
    (if nat_lt (digit_value c) base then digits_value base (found * base + digit_value c) text else None)

abbrev pub base_of : ℕ → ℕ
base_of c = if c == 120 then 16 else (if c == 111 then 8 else 2)

abbrev pub integer_value : Text → Option ℕ
integer_value text =
    if is_number text then (if has_radix text then digits_value (base_of (byte_at text 1)) 0 (drop 2 text) else digits_value 10 0 text) else None

abbrev pub within : Option ℕ → Option ℕ
within None = None
within (Some n) = if nat_le n 4294967295 then Some n else None

-- an unsuffixed integer of any base, from 0 to 4294967295
unfoldable pub index_of : Text → Option ℕ
index_of text = within (integer_value text)

abbrev pub same_member : MemberTree → MemberTree → Bool
same_member (a_name v) (a_name w) = bytes_eq v w
same_member (an_index n) (an_index m) = n == m
same_member _ _ = false

abbrev pub index_if : Option ℕ → List Tok → Outcome MemberTree
index_if None l = None
index_if (Some n) l = Some (an_index n, l)

abbrev pub name_if : Bool → Text → List Tok → Outcome MemberTree
name_if b w l = if b then Some (a_name w, l) else None

abbrev pub find_member : List Tok → Outcome MemberTree
find_member (ident w ∷ l) = name_if (not (is_reserved_word w)) w l
find_member (literal text ∷ l) = index_if (index_of text) l
find_member _ = None

unfoldable pub member : Form MemberTree
member = leaf same_member find_member

-- ---- trees

-- a bound of a range: a literal, or a path
pub data PatBound : Type 0 where
  lit_bound : LitTree → PatBound
  path_bound : QSelfTree → PathTree → PatBound

-- A `Bool` after a list says whether a separator ends it.
mutual
  pub data PatTree : Type 0 where
    wild : PatTree
    rest : PatTree
    -- `..=` or `..`
    range : Option PatBound → Bool → Option PatBound → PatTree
    a_lit : LitTree → PatTree
    -- `ref`, `mut`, the name, what comes after `@`
    a_binding : Bool → Bool → Text → SubPat → PatTree
    a_path : QSelfTree → PathTree → PatTree
    a_mac : MacroTree → PatTree
    -- whether `..` ends the fields
    a_struct : PathTree → Fields → Bool → Bool → PatTree
    tuple_struct : PathTree → Pats → Bool → PatTree
    a_tuple : Pats → Bool → PatTree
    a_paren : PatTree → PatTree
    a_slice : Pats → Bool → PatTree
    a_reference : Bool → PatTree → PatTree
    a_block : List Tok → PatTree
    -- whether `|` comes first
    alternatives : Bool → Pats → Bool → PatTree
    -- before `if` and an expression, which is beside the pattern (Rust Reference, "Match guards")
    guarded : PatTree → PatTree
    -- before `:` and a type
    typed : PatTree → TypeTree → PatTree
    -- after one attribute or more
    attributed : AttributeTree → List AttributeTree → PatTree → PatTree

  pub data SubPat : Type 0 where
    no_sub : SubPat
    sub : PatTree → SubPat

  pub data Pats : Type 0 where
    no_pats : Pats
    more_pats : PatTree → Pats → Pats

  pub data Fields : Type 0 where
    no_fields : Fields
    more_fields : List AttributeTree → FieldTree → Fields → Fields

  pub data FieldTree : Type 0 where
    -- `ref`, `mut` and a name
    short : Bool → Bool → Text → FieldTree
    full : MemberTree → PatTree → FieldTree

pub record FieldPatTree : Type 0 where
  pub attrs : List AttributeTree
  pub field : FieldTree

abbrev pub pats : Pats → List PatTree
pats no_pats = []
pats (more_pats p ps) = p ∷ pats ps

abbrev pub pats_of : List PatTree → Pats
pats_of [] = no_pats
pats_of (p ∷ ps) = more_pats p (pats_of ps)

abbrev pub fields : Fields → List FieldPatTree
fields no_fields = []
fields (more_fields a f fs) = record { attrs = a; field = f } ∷ fields fs

abbrev pub fields_of : List FieldPatTree → Fields
fields_of [] = no_fields
fields_of (f ∷ fs) = more_fields f.attrs f.field (fields_of fs)

-- ---- marks

abbrev pub dots : Mark
dots = sign (codes "..")

abbrev pub dots_eq : Mark
dots_eq = sign (codes "..=")

abbrev pub three_dots : Mark
three_dots = sign (codes "...")

abbrev pub at_sign : Mark
at_sign = sign (codes "@")

abbrev pub by_ref : Mark
by_ref = word (codes "ref")

-- `|` that begins neither `||` nor `|=`
abbrev pub vert : Mark
vert = record { at = λ l. sign_at (codes "|") l && (not (sign_at (codes "||") l) && not (sign_at (codes "|=") l)); count = 1 }

-- ---- ranges

abbrev pub begins_number : Test
begins_number (literal text ∷ l) = is_number text
begins_number _ = false

abbrev pub begins_lit : Test
begins_lit (literal text ∷ l) = true
begins_lit (ident text ∷ l) = is_truth text
begins_lit (punct c s ∷ l) = c == 45 && begins_number l
begins_lit _ = false

abbrev pub begins_segment : Test
begins_segment (ident w ∷ l) = is_segment w
begins_segment _ = false

-- a signed literal or a path begins
unfoldable pub bound_at : Test
bound_at l = begins_lit l || (begins_segment l || (colon2.at l || less.at l))

abbrev pub from_lit_bound : PatBound → Option LitTree
from_lit_bound (lit_bound x) = Some x
from_lit_bound (path_bound q p) = None

abbrev pub to_path_bound : QPathTree → PatBound
to_path_bound q = path_bound q.0 q.1

abbrev pub from_path_bound : PatBound → Option QPathTree
from_path_bound (path_bound q p) = Some (q, p)
from_path_bound (lit_bound x) = None

abbrev pub lit_first : Test
lit_first l = is_lit_there l

unfoldable pub range_bound : Form PatBound
range_bound = when lit_first (shown lit_bound from_lit_bound lit) (shown to_path_bound from_path_bound (qpath type style.Expr))

-- `..=` and `...` are closed.
unfoldable pub limits : Form Bool
limits = case dots_eq (pure true is_true) (case three_dots (pure true is_true) (mark dots (pure false not)))

abbrev pub itself : Option PatBound → Option PatBound
itself o = o

abbrev pub to_end : PatBound → Option PatBound
to_end b = Some b

-- A closed range needs an end; another has one where a bound begins.
unfoldable pub range_end : Form (Bool × Option PatBound)
range_end = then_by limits (λ closed. when (λ l. closed) (shown to_end itself range_bound) (maybe bound_at range_bound))

-- ---- views of the kinds

abbrev pub is_wild : PatTree → Bool
is_wild wild = true
is_wild _ = false

-- `..` alone is a rest.
abbrev pub to_open : Bool × Option PatBound → PatTree
to_open (false, None) = rest
to_open (c, e) = range None c e

abbrev pub open_by : Bool → Option PatBound → Option (Bool × Option PatBound)
open_by false None = None
open_by c e = Some (c, e)

abbrev pub from_open : PatTree → Option (Bool × Option PatBound)
from_open rest = Some (false, None)
from_open (range None c e) = open_by c e
from_open _ = None

abbrev pub to_lit : LitTree × Option (Bool × Option PatBound) → PatTree
to_lit (x, None) = a_lit x
to_lit (x, Some p) = range (Some (lit_bound x)) p.0 p.1

abbrev pub from_lit : PatTree → Option (LitTree × Option (Bool × Option PatBound))
from_lit (a_lit x) = Some (x, None)
from_lit (range (Some (lit_bound x)) c e) = Some (x, Some (c, e))
from_lit _ = None

abbrev pub from_sub : SubPat → Option PatTree
from_sub (sub p) = Some p
from_sub no_sub = None

abbrev pub has_no_sub : SubPat → Bool
has_no_sub no_sub = true
has_no_sub (sub p) = false

abbrev pub to_binding : Bool × (Bool × (Text × SubPat)) → PatTree
to_binding p = a_binding p.0 p.1.0 p.1.1.0 p.1.1.1

abbrev pub from_binding : PatTree → Option (Bool × (Bool × (Text × SubPat)))
from_binding (a_binding r m w s) = Some (r, (m, (w, s)))
from_binding _ = None

abbrev pub to_reference : Bool × PatTree → PatTree
to_reference p = a_reference p.0 p.1

abbrev pub from_reference : PatTree → Option (Bool × PatTree)
from_reference (a_reference m p) = Some (m, p)
from_reference _ = None

abbrev pub from_block : PatTree → Option (List Tok)
from_block (a_block ts) = Some ts
from_block _ = None

abbrev pub to_slice : List PatTree × Bool → PatTree
to_slice p = a_slice (pats_of p.0) p.1

abbrev pub from_slice : PatTree → Option (List PatTree × Bool)
from_slice (a_slice ps e) = Some (pats ps, e)
from_slice _ = None

-- One pattern without a comma is in parentheses, but a rest is a tuple.
abbrev pub one_round : PatTree → PatTree
one_round rest = a_tuple (more_pats rest no_pats) false
one_round p = a_paren p

abbrev pub to_round : List PatTree × Bool → PatTree
to_round ([], c) = a_tuple no_pats c
to_round (p ∷ [], true) = a_tuple (more_pats p no_pats) true
to_round (p ∷ [], false) = one_round p
to_round (p ∷ q ∷ ps, c) = a_tuple (pats_of (p ∷ q ∷ ps)) c

abbrev pub is_rest : PatTree → Bool
is_rest rest = true
is_rest _ = false

abbrev pub round_by : List PatTree → Bool → Option (List PatTree × Bool)
round_by [] c = Some ([], c)
round_by (p ∷ []) true = Some (p ∷ [], true)
round_by (p ∷ []) false = if is_rest p then Some (p ∷ [], false) else None
round_by (p ∷ q ∷ ps) c = Some (p ∷ q ∷ ps, c)

abbrev pub from_round : PatTree → Option (List PatTree × Bool)
from_round (a_tuple ps c) = round_by (pats ps) c
from_round (a_paren p) = if is_rest p then None else Some (p ∷ [], false)
from_round _ = None

abbrev pub to_short : Bool × (Bool × Text) → FieldTree
to_short p = short p.0 p.1.0 p.1.1

abbrev pub from_short : FieldTree → Option (Bool × (Bool × Text))
from_short (short r m w) = Some (r, (m, w))
from_short (full k p) = None

abbrev pub to_full : MemberTree × PatTree → FieldTree
to_full p = full p.0 p.1

abbrev pub from_full : FieldTree → Option (MemberTree × PatTree)
from_full (full k p) = Some (k, p)
from_full (short r m w) = None

abbrev pub to_field : List AttributeTree × FieldTree → FieldPatTree
to_field p = record { attrs = p.0; field = p.1 }

abbrev pub from_field : FieldPatTree → Option (List AttributeTree × FieldTree)
from_field f = Some (f.attrs, f.field)

-- ---- what comes after a path

pub data PathEnd : Type 0 where
  no_more : PathEnd
  mac_end : Delimiter → List Tok → PathEnd
  struct_end : List FieldPatTree → Bool → Bool → PathEnd
  tuple_end : List PatTree → Bool → PathEnd
  range_more : Bool → Option PatBound → PathEnd

abbrev pub is_no_more : PathEnd → Bool
is_no_more no_more = true
is_no_more _ = false

abbrev pub to_mac_end : Delimiter × List Tok → PathEnd
to_mac_end p = mac_end p.0 p.1

abbrev pub from_mac_end : PathEnd → Option (Delimiter × List Tok)
from_mac_end (mac_end d ts) = Some (d, ts)
from_mac_end _ = None

abbrev pub to_struct_end : (List FieldPatTree × Bool) × Bool → PathEnd
to_struct_end p = struct_end p.0.0 p.0.1 p.1

abbrev pub from_struct_end : PathEnd → Option ((List FieldPatTree × Bool) × Bool)
from_struct_end (struct_end fs e r) = Some ((fs, e), r)
from_struct_end _ = None

abbrev pub to_tuple_end : List PatTree × Bool → PathEnd
to_tuple_end p = tuple_end p.0 p.1

abbrev pub from_tuple_end : PathEnd → Option (List PatTree × Bool)
from_tuple_end (tuple_end ps e) = Some (ps, e)
from_tuple_end _ = None

abbrev pub to_range_more : Bool × Option PatBound → PathEnd
to_range_more p = range_more p.0 p.1

abbrev pub from_range_more : PathEnd → Option (Bool × Option PatBound)
from_range_more (range_more c e) = Some (c, e)
from_range_more _ = None

abbrev pub to_path : QPathTree × PathEnd → PatTree
to_path (q, no_more) = a_path q.0 q.1
to_path (q, mac_end d ts) = a_mac (record { path = q.1; delimiter = d; tokens = ts })
to_path (q, struct_end fs e r) = a_struct q.1 (fields_of fs) e r
to_path (q, tuple_end ps e) = tuple_struct q.1 (pats_of ps) e
to_path (q, range_more c e) = range (Some (path_bound q.0 q.1)) c e

abbrev pub from_path : PatTree → Option (QPathTree × PathEnd)
from_path (a_path q p) = Some ((q, p), no_more)
from_path (a_mac m) = Some ((t.no_qself, m.path), mac_end m.delimiter m.tokens)
from_path (a_struct p fs e r) = Some ((t.no_qself, p), struct_end (fields fs) e r)
from_path (tuple_struct p ps e) = Some ((t.no_qself, p), tuple_end (pats ps) e)
from_path (range (Some (path_bound q p)) c e) = Some ((q, p), range_more c e)
from_path _ = None

abbrev pub unqualified : QPathTree → Bool
unqualified (t.no_qself, p) = true
unqualified (t.qself x n a, p) = false

-- ---- alternatives: a single pattern, unless a `|` was read

abbrev pub to_or : Bool × List PatTree → PatTree
to_or (false, p ∷ []) = p
to_or (l, ps) = alternatives l (pats_of ps) false

abbrev pub or_by : Bool → List PatTree → Option (Bool × List PatTree)
or_by false (p ∷ []) = None
or_by l ps = Some (l, ps)

abbrev pub from_or : PatTree → Option (Bool × List PatTree)
from_or (alternatives l ps true) = None
from_or (alternatives l ps false) = or_by l (pats ps)
from_or p = Some (false, p ∷ [])

-- ---- the forms

-- A bare name is no binding where a path, a macro, a struct or a range goes on after it.
abbrev pub goes_on : Test
goes_on l = colon2.at l || (not_ne.at l || (brace_at l || (round_at l || dots.at l)))

unfoldable pub binding_at : Test
binding_at l = by_ref.at l || (mutable.at l || (is_name_there l && not (goes_on (drop 1 l))))

-- a member and `:`
unfoldable pub full_at : Test
full_at l = (is_name_there l || is_literal_there l) && colon.at (drop 1 l)

abbrev pub fields_stop : Test
fields_stop l = is_empty l || dots.at l

-- `pattern multi` is a pattern, with alternatives or without.
module _ (pattern : Bool → Form PatTree) where
  -- Rust Reference, "Reference patterns"
  unfoldable pub reference_pat : Form PatTree
  reference_pat = shown to_reference from_reference (both (flag mutable) (pattern false))

  -- Rust Reference, "Tuple patterns", "Grouped patterns"
  unfoldable pub round_pat : Form PatTree
  round_pat = shown to_round from_round (listed comma is_empty (pattern true))

  -- Rust Reference, "Slice patterns"
  unfoldable pub slice_pat : Form PatTree
  slice_pat = shown to_slice from_slice (listed comma is_empty (pattern true))

  -- Rust Reference, "Identifier patterns"
  unfoldable pub binding : Form PatTree
  binding = shown to_binding from_binding (both (flag by_ref) (both (flag mutable) (both name (case at_sign (shown sub from_sub (pattern false)) (pure no_sub has_no_sub)))))

  -- Rust Reference, "Struct patterns"
  unfoldable pub field : Form FieldPatTree
  field = shown to_field from_field (both outer_attributes
      (when full_at (shown to_full from_full (both member (mark colon (pattern true)))) (shown to_short from_short (both (flag by_ref) (both (flag mutable) name)))))

  -- fields, and `..` after none or after a comma
  unfoldable pub struct_inside : Form ((List FieldPatTree × Bool) × Bool)
  struct_inside = then_by (listed comma fields_stop field) (λ p. when (λ l. is_nil p.0 || p.1) (flag dots) (pure false not))

  -- a macro, a struct, a tuple struct or a range goes on after a path (Rust Reference, "Macro Invocation", "Struct
  -- patterns", "Tuple struct patterns", "Range patterns")
  unfoldable pub path_end : QPathTree → Form PathEnd
  path_end q =
      when (λ l. is_bare q && not_ne.at l) (shown to_mac_end from_mac_end (mark not_ne any_group))
      (when (λ l. unqualified q && brace_at l) (shown to_struct_end from_struct_end (inside del.Brace struct_inside))
      (when (λ l. unqualified q && round_at l) (shown to_tuple_end from_tuple_end (inside del.Parenthesis (listed comma is_empty (pattern true))))
      (when dots.at (shown to_range_more from_range_more range_end) (pure no_more is_no_more))))

  -- Rust Reference, "Path patterns"
  unfoldable pub path_pat : Form PatTree
  path_pat = shown to_path from_path (then_by (qpath type style.Expr) path_end)

  -- `_`, `const` and a block, `&`, a group, a range without a start, a literal, a name, or a path (Rust Reference,
  -- "Wildcard pattern", "Literal patterns", "Range patterns", "Rest pattern")
  unfoldable pub single : Form PatTree
  single =
      case underscore (pure wild is_wild)
      (case constant (shown a_block from_block block)
      (case and reference_pat
      (group_case del.Parenthesis round_pat
      (group_case del.Bracket slice_pat
      (when dots.at (shown to_open from_open range_end)
      (when lit_first (shown to_lit from_lit (both lit (maybe dots.at range_end)))
      (when binding_at binding
      path_pat)))))))

  -- `|`? single (`|` single)* (Rust Reference, "Or-patterns")
  unfoldable pub multi : Form PatTree
  multi = shown to_or from_or (both (flag vert) (joined vert single))

  unfoldable pub at_width : Bool → Form PatTree
  at_width several = when (λ l. several) multi single

unfoldable pub pattern : Bool → Form PatTree
pattern = fix {A = λ several. PatTree} at_width

-- l begins with the tokens of the pattern p, and n, what is after them, doesn't go on with it
abbrev pub SpellsPat : Bool → List Tok → PatTree → List Tok → Type 0
SpellsPat several l p n = (pattern several).behind p l ≡ Some n

-- ---- arguments of closures: attributes, a single pattern, and a type (Rust Reference, "Closure expressions")

abbrev pub to_typed : PatTree → Option TypeTree → PatTree
to_typed p None = p
to_typed p (Some x) = typed p x

abbrev pub from_typed : PatTree → PatTree × Option TypeTree
from_typed (typed p x) = (p, Some x)
from_typed p = (p, None)

abbrev pub to_closure_arg : List AttributeTree × (PatTree × Option TypeTree) → PatTree
to_closure_arg ([], p) = to_typed p.0 p.1
to_closure_arg (a ∷ more, p) = attributed a more (to_typed p.0 p.1)

abbrev pub from_closure_arg : PatTree → Option (List AttributeTree × (PatTree × Option TypeTree))
from_closure_arg (attributed a more p) = Some (a ∷ more, from_typed p)
from_closure_arg p = Some ([], from_typed p)

unfoldable pub closure_arg : Form PatTree
closure_arg = shown to_closure_arg from_closure_arg (both outer_attributes (both (pattern false) (maybe colon.at (mark colon (type true)))))

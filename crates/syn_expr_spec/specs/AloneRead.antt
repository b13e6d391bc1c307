-- How an expression of one kind is read by itself, step by step. No contract of a caller names this: `Alone` says what is read.
use Rattle.std.specs.Prelude.{◌≡◌, Bool, true, false, not, List, drop, Some}
use Rattle.syn_lexer.specs.declared.front.Delimiter.TheVariants as del
use Rattle.syn_tokens.specs.Front.{group_at, is_empty}
use Rattle.syn_lower_spec.specs.declared.label.PathStyle.TheVariants as style
use Rattle.syn_lower_spec.specs.Tree.{AttributeTree, QSelfTree, PathTree}
use Rattle.syn_lower_spec.specs.Form.{and_then, flag}
use Rattle.syn_lower_spec.specs.Mark.{and, mutable}
use Rattle.syn_lower_spec.specs.Part.{lit, macro, outer_attributes, qpath, type}
use Rattle.syn_expr_spec.specs.declared.kinds.Precedence.TheVariants as lev
use Rattle.syn_expr_spec.specs.Place.{plain, at}
use Rattle.syn_expr_spec.specs.Tree as e
use Rattle.syn_expr_spec.specs.Tree.{Tree, Leaf, leaf, paren, prefixed, frame, none, attributed_with}
use Rattle.syn_expr_spec.specs.Head.{leaf_form}
use Rattle.syn_expr_spec.specs.Slot.{fields}
use Rattle.syn_expr_spec.specs.Stands.{ends_list, is_verbatim_leaf, takes_attributes}
use Rattle.syn_expr_spec.specs.Read.{Reading, ◌>>=◌, ◌<$>◌, only_if, bare_operands, atom, expr}
use Rattle.syn_expr_spec.specs.Alone.{is_inside, ungrouped}

-- ---- kinds

-- an operand without trailers, but no verbatim tokens
abbrev pub is_atom : Tree → Bool
is_atom (leaf k) = not (is_verbatim_leaf k)
is_atom (paren m x) = true
is_atom (prefixed k gs x) = true
is_atom (frame k ks) = true
is_atom _ = false

-- a leaf that asks nothing of what is after it, and that no path begins
abbrev pub is_plain_leaf : Leaf → Bool
is_plain_leaf (e.path q w) = false
is_plain_leaf (e.mac m) = false
is_plain_leaf (e.full_range op) = false
is_plain_leaf (e.bare_jump j) = false
is_plain_leaf (e.verbatim ts) = false
is_plain_leaf _ = true

abbrev pub is_plain : Tree → Bool
is_plain (leaf k) = is_plain_leaf k
is_plain _ = false

-- All of a kind are operands without trailers; attributes may come before them all; they are leaves that ask nothing.
abbrev pub AreAtoms : (Tree → Bool) → Type 0
AreAtoms is = (x : Tree) → is x ≡ true → is_atom x ≡ true

abbrev pub AreAttributed : (Tree → Bool) → Type 0
AreAttributed is = (x : Tree) → is x ≡ true → takes_attributes plain x ≡ true

abbrev pub ArePlain : (Tree → Bool) → Type 0
ArePlain is = (x : Tree) → is x ≡ true → is_plain x ≡ true

-- ---- readings

-- of a kind
abbrev pub kind_of : (Tree → Bool) → Tree → Reading Tree
kind_of is x n = only_if (is x) (Some (x, n))

-- a leaf of a kind
unfoldable pub leaf_alone : (Tree → Bool) → Reading Tree
leaf_alone is = leaf_form.reads >>= (λ k. kind_of is (leaf k))

-- an operand of a kind, without trailers
unfoldable pub operand_alone : (Tree → Bool) → Reading Tree
operand_alone is = atom expr plain >>= kind_of is

-- after these attributes
abbrev pub attributing : List AttributeTree → Reading Tree → Reading Tree
attributing ats inner = attributed_with ats <$> inner

-- after attributes or none
unfoldable pub attributed_alone : Reading Tree → Reading Tree
attributed_alone inner = outer_attributes.reads >>= (λ ats. attributing ats inner)

unfoldable pub path_alone : Reading Tree
path_alone = attributed_alone ((λ q. leaf (e.path q.0 q.1)) <$> (qpath type style.Expr).reads)

unfoldable pub lit_alone : Reading Tree
lit_alone = (λ x. leaf (e.lit x)) <$> lit.reads

unfoldable pub macro_alone : Reading Tree
macro_alone = (λ x. leaf (e.mac x)) <$> macro.reads

unfoldable pub reference_alone : Reading Tree
reference_alone l =
    only_if (and.at l) (((flag mutable).reads >>= (λ b. prefixed (e.reference b) none <$> expr (at plain lev.Prefix))) (drop and.count l))

-- a struct expression, after its path
unfoldable pub structure_behind : QSelfTree × PathTree → Reading Tree
structure_behind q l =
    and_then (group_at del.Brace l) (λ i n. and_then (bare_operands expr fields i) (λ ks o.
    let d = not (is_empty o) in only_if (ends_list d o) (Some (frame (e.structure q.0 q.1 d) ks, n))))

unfoldable pub struct_alone : Reading Tree
struct_alone = (qpath type style.Expr).reads >>= structure_behind

-- an expression of a kind
unfoldable pub expr_of_kind : (Tree → Bool) → Reading Tree
expr_of_kind is = expr plain >>= (λ x n. only_if (is_inside is x) (Some (ungrouped x, n)))

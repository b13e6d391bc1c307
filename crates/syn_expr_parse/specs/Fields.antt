-- What is in the braces of a struct expression, as its reader reads it.
use Rattle.std.specs.Prelude.{Bool, true, false, not, if◌then◌else◌, List, drop, Option, Some, None}
use Rattle.syn_tokens.specs.Front.{is_empty}
use Rattle.syn_lower_spec.specs.Form.{and_then}
use Rattle.syn_lower_spec.specs.Pat.{MemberTree, a_name, an_index}
use Rattle.syn_expr_spec.specs.Place.{plain}
use Rattle.syn_expr_spec.specs.Tree as e
use Rattle.syn_expr_spec.specs.Tree.{Tree, Children, Piece, Ending}
use Rattle.syn_expr_spec.specs.Slot as s
use Rattle.syn_expr_spec.specs.Slot.{piece_form, comma_or_end}
use Rattle.syn_expr_spec.specs.Stands.{ends_list, path_of}
use Rattle.syn_expr_spec.specs.Read.{Reading, only_if, expr, bare_operands}
use Rattle.syn_expr_ast.specs.View.{FieldView, fields}

-- a field's value, after its colon or where it has none
abbrev pub value_at : MemberTree → Bool → Reading Tree
value_at m true l = expr plain l
value_at (a_name w) false l = Some (path_of w, l)
value_at (an_index n) false l = None

-- one of what is in the braces: a field with what ends it, or `..` with the expression after it or none
pub data Entry : Type 0 where
  a_field : Ending → FieldView → Entry
  the_rest : Option Tree → Entry

-- the expression after `..`, or none
abbrev pub base : Reading (Option Tree)
base l = if is_empty l then Some (None, l) else and_then (expr plain l) (λ x n. only_if (is_empty n) (Some (Some x, n)))

-- a field by itself, without what ends it
abbrev pub field_by : Piece → Reading FieldView
field_by (e.field_value ats m c) l = and_then (value_at m c l) (λ x n. Some (record { attrs = ats; member = m; colon = c; value = x }, n))
field_by _ l = None

unfoldable pub one_field : Reading FieldView
one_field l = and_then ((piece_form s.fields).reads l) field_by

abbrev pub entry_by : Piece → Reading Entry
entry_by (e.field_value ats m c) l = and_then (value_at m c l) (λ x n. and_then (comma_or_end n) (λ d o. Some (a_field d (record { attrs = ats; member = m; colon = c; value = x }), o)))
entry_by (e.rest d) l = and_then (base l) (λ x n. Some (the_rest x, n))
entry_by _ l = None

unfoldable pub entry : Reading Entry
entry l = and_then ((piece_form s.fields).reads l) entry_by

-- the operands, and whether `..` ends them
abbrev pub ended : Children → Reading (Children × Bool)
ended ks o = only_if (ends_list (not (is_empty o)) o) (Some ((ks, not (is_empty o)), drop 2 o))

-- fields, and what may come after them
unfoldable pub braced : Reading (Children × Bool)
braced l = and_then (bare_operands expr s.fields l) ended

-- the same after fields that were read, each with its comma
unfoldable pub gathered : List FieldView → Reading (Children × Bool)
gathered xs l = and_then (bare_operands expr s.fields l) (λ ks o. ended (fields xs true ks) o)

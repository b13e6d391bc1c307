-- Literals and types of one kind.
use Rattle.std.specs.Prelude.{Bool, true, false, if◌then◌else◌, Some, None}
use Rattle.syn_lower_spec.specs.declared.label.LitKind.{LitKind}
use Rattle.syn_lower_spec.specs.Tree as t
use Rattle.syn_lower_spec.specs.Tree.{LitTree, TypeTree}
use Rattle.syn_lower_spec.specs.Form.{Form, Outcome, leaf}
use Rattle.syn_lower_spec.specs.Same.{same_kind, same_lit}
use Rattle.syn_lower_spec.specs.Part.{find_lit, type}

-- what is found, where it passes this test
abbrev pub only : {A : Type 0} → (A → Bool) → Outcome A → Outcome A
only is None = None
only is (Some p) = if is p.0 then Some p else None

-- a literal without a sign, of this kind (Rust Reference, "Literal expressions")
unfoldable pub of_kind : LitKind → Form LitTree
of_kind k = leaf same_lit (λ l. only (λ x. same_kind x.kind k) (find_lit l))

-- a type that passes this test; several bounds may come after its `impl` or `dyn`
unfoldable pub type_of_kind : (TypeTree → Bool) → Form TypeTree
type_of_kind is = record {
  reads = λ l. only is ((type true).reads l);
  behind = λ x l. if is x then (type true).behind x l else None;
}

-- ---- the tests, beside `is_never` and `is_infer` (Rust Reference, "Types")

abbrev pub is_reference : TypeTree → Bool
is_reference (t.reference a m x) = true
is_reference _ = false

abbrev pub is_pointer : TypeTree → Bool
is_pointer (t.ptr m x) = true
is_pointer _ = false

abbrev pub is_slice : TypeTree → Bool
is_slice (t.slice x) = true
is_slice _ = false

abbrev pub is_array : TypeTree → Bool
is_array (t.array x n) = true
is_array _ = false

abbrev pub is_tuple : TypeTree → Bool
is_tuple (t.tuple ts e) = true
is_tuple _ = false

abbrev pub is_paren : TypeTree → Bool
is_paren (t.paren x) = true
is_paren _ = false

abbrev pub is_fn_pointer : TypeTree → Bool
is_fn_pointer (t.fn_ptr f u a xs e r) = true
is_fn_pointer _ = false

abbrev pub is_impl_trait : TypeTree → Bool
is_impl_trait (t.impl_trait bs e) = true
is_impl_trait _ = false

abbrev pub is_trait_object : TypeTree → Bool
is_trait_object (t.trait_object bs e) = true
is_trait_object _ = false

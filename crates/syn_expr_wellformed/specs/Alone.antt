-- Patterns that are read back, with no guard in them.
use Rattle.std.specs.Prelude.{Bool, true, false, not, ◌&&◌, List, [], ◌∷◌, Option, Some, None}
use Rattle.std.specs.declared.boxed.Box.{Box}
use Rattle.std.specs.declared.alloc.Global.{Global}
use Rattle.syn_lexer.specs.Keywords.{is_reserved_word}
use Rattle.syn_lower_spec.specs.Form.{is_nil}
use Rattle.syn_lower_spec.specs.Tree.{AttributeTree, SegmentTree}
use Rattle.syn_lower_spec.specs.Part.{has_none}
use Rattle.syn_lower_spec.specs.Pat as t
use Rattle.syn_lower_spec.specs.Pat.{PatTree}
use Rattle.syn_lower_spec.specs.PatFits.{attributes_outer, member_fits, pat_fits, typed_fits, closure_arg_fits}
use Rattle.syn_expr_spec.specs.Tree.{Tree, Prefix, Frame, none}
use Rattle.syn_expr_spec.specs.WellFormed.{prefix_fits, frame_fits}
use Rattle.syn_pat.specs.View.{PatView, attributes_of, member_of}
use Rattle.syn_pat.specs.declared.pat.FieldPatOf.{FieldPatOf}
use Rattle.syn_pat.specs.declared.pat.FieldPatKindOf.{FieldPatKindOf}
use Rattle.syn_pat.specs.declared.pat.FieldPatKindOf.TheVariants as kind
use Rattle.syn_expr_wellformed.specs.declared.patterns.PatSort.{PatSort}
use Rattle.syn_expr_wellformed.specs.declared.patterns.PatSort.TheVariants as sort

-- ---- patterns

-- where alternatives may stand, or may not
abbrev pub fits_alone : Bool → PatView → Bool
fits_alone several p = pat_fits several p.tree && is_nil p.guards

-- as an argument of a closure
abbrev pub argument_fits : PatView → Bool
argument_fits p = closure_arg_fits p.tree && is_nil p.guards

-- ---- after attributes

-- the attributes before a pattern, and what comes after them
abbrev pub attributes_at : PatTree → List AttributeTree
attributes_at (t.attributed a more p) = a ∷ more
attributes_at p = []

abbrev pub behind : PatTree → PatTree
behind (t.attributed a more p) = p
behind p = p

abbrev pub fits_behind : Bool → PatView → Bool
fits_behind several p = pat_fits several (behind p.tree) && is_nil p.guards

abbrev pub argument_behind : PatView → Bool
argument_behind p = typed_fits (behind p.tree) && is_nil p.guards

-- ---- in other patterns

abbrev pub binding_sort : Bool → Bool → PatSort
binding_sort false true = sort.Mut
binding_sort _ _ = sort.Other

abbrev pub sort_at : PatTree → PatSort
sort_at t.rest = sort.Rest
sort_at (t.a_binding b m w s) = binding_sort b m
sort_at _ = sort.Other

abbrev pub is_rest_sort : PatSort → Bool
is_rest_sort sort.Rest = true
is_rest_sort _ = false

abbrev pub is_mut_sort : PatSort → Bool
is_mut_sort sort.Mut = true
is_mut_sort _ = false

-- the pattern after `@`
abbrev pub sub_alone : {P A : Type 0} → (P → PatView) → Option (A × Box P Global) → Bool
sub_alone f None = true
sub_alone f (Some s) = fits_alone false (f s.1.value)

-- `..` alone, with no punct after it
abbrev pub is_sole_rest : {P S : Type 0} → (P → PatView) → List (P × S) → Option (Box P Global) → Bool
is_sole_rest f [] (Some p) = t.is_rest (f p.value).tree
is_sole_rest f _ _ = false

-- a field of a struct pattern
abbrev pub kind_alone : {P : Type 0} → (P → PatView) → FieldPatKindOf P → Bool
kind_alone f (kind.Short x) = not (is_reserved_word x.ident)
kind_alone f (kind.Full x) = member_fits (member_of x.member) && fits_alone true (f x.pat.value)

abbrev pub field_alone : {P : Type 0} → (P → PatView) → FieldPatOf P → Bool
field_alone f x = attributes_outer (attributes_of x.attrs) && kind_alone f x.kind

-- a segment that is a name without arguments
abbrev pub is_name : SegmentTree → Bool
is_name s = not (is_reserved_word s.ident) && has_none s.arguments

-- ---- what holds patterns

-- what comes before an operand, and a frame without its operands, with the guards in their patterns
abbrev pub prefix_alone : Prefix × List Tree → Bool
prefix_alone k = prefix_fits k.0 && is_nil k.1

abbrev pub frame_alone : Frame × List Tree → Bool
frame_alone k = frame_fits k.0 none && is_nil k.1

-- The attributes of a node, as its tree has them (Rust Reference, "Attributes").
use Rattle.std.specs.Prelude.{if◌then◌else◌, List, [], ◌∷◌, map, Bool, true, ◌++◌}
use Rattle.std.specs.declared.vec.Vec.{Vec}
use Rattle.std.specs.declared.alloc.Global.{Global}
use Rattle.syn_lower_spec.specs.Tree.{AttributeTree}
use Rattle.syn_expr_spec.specs.Tree.{outers, from_inner, Leaf}
use Rattle.syn_lower_leaves.specs.View.{attribute_of}
use Rattle.syn_lower_leaves.specs.declared.attr.Attribute.{Attribute}
use Rattle.syn_expr_spec.specs.Tree as e
use Rattle.syn_expr_spec.specs.WellFormed.{attributes_inner}
use Rattle.syn_tokens.specs.Tok.{Tok}
use Rattle.syn_lower_spec.specs.Own.{attribute_own}

unfoldable pub attrs_of : Vec Attribute Global → List AttributeTree
attrs_of v = map attribute_of v.items

-- those before the first inner one
abbrev pub before_inner : List AttributeTree → List AttributeTree
before_inner [] = []
before_inner (a ∷ more) = if a.inner then [] else a ∷ before_inner more

-- of a node with braces: those that come before it, then those from the first inner one on, whose inner ones come first
-- in its braces
unfoldable pub outer_of : Vec Attribute Global → List AttributeTree
outer_of v = outers (map attribute_of v.items)

unfoldable pub inner_of : Vec Attribute Global → List AttributeTree
inner_of v = from_inner (map attribute_of v.items)

-- ---- whether the attributes in the braces of a leaf are inner ones, as those are that are read (Rust Reference, "Attributes")

abbrev pub has_inner : Leaf → Bool
has_inner (e.block w b) = attributes_inner b.inner
has_inner (e.loop_expr w b) = attributes_inner b.inner
has_inner (e.unsafe_block b) = attributes_inner b.inner
has_inner (e.const_block b) = attributes_inner b.inner
has_inner _ = true

-- ---- what is printed of the outer attributes of a list, and of its inner ones

abbrev pub outer_printed : List Attribute → List Tok
outer_printed [] = []
outer_printed (a ∷ more) = if (attribute_of a).inner then outer_printed more else attribute_own (attribute_of a) [] ++ outer_printed more

abbrev pub inner_printed : List Attribute → List Tok
inner_printed [] = []
inner_printed (a ∷ more) = if (attribute_of a).inner then attribute_own (attribute_of a) [] ++ inner_printed more else inner_printed more

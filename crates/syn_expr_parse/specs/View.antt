-- What is read in the braces of a struct expression, without its places.
use Rattle.std.specs.Prelude.{Bool, not, ◌&&◌, map, is_some}
use Rattle.syn_expr_spec.specs.Tree as e
use Rattle.syn_expr_spec.specs.Tree.{Tree, Children}
use Rattle.syn_expr_heads.specs.View.{ending_of}
use Rattle.syn_lower.specs.View.{values, trails}
use Rattle.syn_expr_ast.specs.View.{boxed, fields, field_value_of, option_child}
use Rattle.syn_expr_parse.specs.Fields as of
use Rattle.syn_expr_parse.specs.declared.structure.Entry.{Entry}
use Rattle.syn_expr_parse.specs.declared.structure.Entry.TheVariants as entry
use Rattle.syn_expr_parse.specs.declared.structure.Fields.{Fields}

abbrev pub entry_of : {E : Type 0} → (E → Tree) → Entry E → of.Entry
entry_of f (entry.Field x c) = of.a_field (ending_of c) (field_value_of f x)
entry_of f (entry.Rest d x) = of.the_rest (boxed f x)

-- the operands, and whether `..` ends them
abbrev pub fields_of : {E : Type 0} → (E → Tree) → Fields E → Children × Bool
fields_of f x = (fields (map (field_value_of f) (values x.fields)) (trails x.fields) (option_child (e.rest (is_some x.dot2_token)) (boxed f x.rest)), is_some x.dot2_token && not (is_some (boxed f x.rest)))

-- An expression after more attributes.
use Rattle.std.specs.Prelude.{◌≡◌, true, false, List}
use Rattle.syn_lower_spec.specs.Tree.{AttributeTree}
use Rattle.syn_lower_spec.specs.PatFits.{attributes_outer}
use Rattle.syn_expr_spec.specs.Tree.{Tree, attributed_with}
use Rattle.syn_expr_spec.specs.Stands.{is_attributed}

-- u is t after these outer attributes, where none come before t
abbrev pub Behind : List AttributeTree → Tree → Tree → Type 0
Behind ats t u = attributes_outer ats ≡ true → is_attributed t ≡ false → u ≡ attributed_with ats t

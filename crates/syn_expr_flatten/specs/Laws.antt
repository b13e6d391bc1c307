-- What follows of the definitions for who flattens.
use Rattle.std.specs.Prelude.{◌≡◌, true, List}
use Rattle.syn_tokens.specs.Tok.{Tok}
use Rattle.syn_expr_spec.specs.declared.kinds.Place.{Place}
use Rattle.syn_expr_spec.specs.Stands.{Stands}
use Rattle.syn_expr_spec.specs.Tree.{Tree, flatten, fill}
use Rattle.syn_expr_spec.specs.WellFormed.{is_well_formed}
use Rattle.syn_expr_flatten.specs.Outer.{HasOuterParens}

-- what is read has outer attributes alone before its parentheses
abbrev pub ReadParensAreOuter : Type 0
ReadParensAreOuter = (p : Place) (l : List Tok) (t : Tree) (r : List Tok) → Stands p l t r → HasOuterParens t

-- what is well-formed has outer attributes alone before its parentheses
abbrev pub FormedParensAreOuter : Type 0
FormedParensAreOuter = (t : Tree) → is_well_formed t ≡ true → HasOuterParens t

-- without its parentheses a well-formed tree is still well-formed, and one to which nothing is filled in is so still
pub record FlattenedIsSame : Type 0 where
  pub formed : (t : Tree) → is_well_formed t ≡ true → is_well_formed (flatten t) ≡ true
  pub filled : (t : Tree) → fill t ≡ t → fill (flatten t) ≡ flatten t

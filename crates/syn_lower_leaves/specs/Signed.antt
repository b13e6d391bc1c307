-- What is printed of a number: its sign, if there is one, and its text.
use Rattle.std.specs.Prelude.{List, [], ◌∷◌, Option, Some, None}
use Rattle.syn_tokens.specs.Tok.{Tok, literal}
use Rattle.syn_lower_spec.specs.Text.{Text}
use Rattle.syn_lower_spec.specs.Own.{alone}

abbrev pub number_printed : {M : Type 0} → Option M → Text → List Tok
number_printed None text = literal text ∷ []
number_printed (Some m) text = alone 45 ∷ literal text ∷ []

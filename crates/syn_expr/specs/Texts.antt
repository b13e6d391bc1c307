-- Which tree stands for a text.
use Rattle.std.specs.Prelude.{ℕ, List, []}
use Rattle.syn_tokens.specs.Tok.{Tok}
use Rattle.syn_tokens.specs.Lex.{Spells}
use Rattle.syn_expr_spec.specs.Place.{plain}
use Rattle.syn_expr_spec.specs.Stands.{Stands}
use Rattle.syn_expr_spec.specs.Tree.{Tree}
use Rattle.syn_expr_spec.specs.Printed as s
use Rattle.syn_expr.specs.declared.print.Position.{Position}
use Rattle.syn_expr.specs.declared.print.Position.TheVariants as named

-- the text is cut into tokens for the whole of which the tree is
abbrev pub StandsFor : List ℕ → Tree → Type 0
StandsFor cs t = (l : List Tok) × Spells cs l × Stands plain l t []

-- the text is cut into no tokens, or no tree stands for the whole of them
abbrev pub NothingStands : List ℕ → Type 0
NothingStands cs = (t : Tree) → StandsFor cs t → ⊥

-- ---- the positions that a program names, as those of the grammar

abbrev pub position_of : Position → s.Position
position_of named.Plain = s.in_plain
position_of named.Stmt = s.as_statement
position_of named.Cond = s.as_condition
position_of named.Arm = s.as_arm

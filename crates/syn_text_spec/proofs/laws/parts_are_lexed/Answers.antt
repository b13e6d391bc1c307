use Rattle.syn_text_spec.proofs.Lists.{lexed}
use Rattle.syn_text_spec.proofs.Types.{type_ok, path_ok, macro_ok}
use Rattle.syn_text_spec.proofs.Pats.{pat_ok}
use Rattle.syn_text_spec.proofs.Trees.{tree_ok}
use Rattle.syn_text_spec.proofs.laws.parts_are_lexed.Goals as goal

pub returns : goal.returns
returns c = record {
  types = λ x r h l. (type_ok x h (lexed l)).is;
  paths = λ x r h l. (path_ok x h (lexed l)).is;
  macros = λ x r h l. (macro_ok x h (lexed l)).is;
  patterns = λ x r h l. (pat_ok x h (lexed l)).is;
  expressions = λ x r h l. (tree_ok x h (lexed l)).is;
}

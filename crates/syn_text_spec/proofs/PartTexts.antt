-- The leaves of parts that are read of a text, and the text of parts.
use Rattle.std.proofs.Common.{◌≡◌, Bool, true, List, chars}
use Rattle.std.proofs.lemmas.Bool.{and_from}
use Rattle.syn_tokens.specs.Tok.{Tok}
use Rattle.syn_tokens.specs.Lex.{Spells}
use Rattle.syn_tokens.specs.Text.{text}
use Rattle.syn_lower_spec.specs.declared.label.PathStyle.{PathStyle}
use Rattle.syn_lower_spec.specs.declared.label.PathStyle.TheVariants as style
use Rattle.syn_lower_spec.specs.Form.{Form}
use Rattle.syn_lower_spec.specs.Mark.{not_ne}
use Rattle.syn_lower_spec.specs.Part as p
use Rattle.syn_lower_spec.specs.Laws.{IsExact}
use Rattle.syn_lower_spec.proofs.Whole.{parts_exact, parts_read_back}
use Rattle.syn_lower_spec.proofs.PatWhole.{patterns_exact}
use Rattle.syn_lower_spec.proofs.PatWholeComplete.{patterns_read_back}
use Rattle.syn_text.specs.Lexed.{is_lexed}
use Rattle.syn_text.proofs.Again.{text_is_read_again}
use Rattle.syn_text_spec.specs.Leaves.{group_lexed, path_lexed, macro_lexed}
use Rattle.syn_text_spec.specs.Laws.{HasLexedLeaves, LeavesAreLexed, PartTextsAreReadBack}
use Rattle.syn_text_spec.proofs.Lists.{lexed}
use Rattle.syn_text_spec.proofs.Types.{type_ok, path_ok, macro_ok}
use Rattle.syn_text_spec.proofs.Pats.{pat_ok}
use Rattle.syn_text_spec.proofs.Finds.{Finds, both_finds, mark_finds, shown_finds}
use Rattle.syn_text_spec.proofs.FindParts.{Ok, any_group_finds, path_found, path_finds, type_finds, weaker_finds}
use Rattle.syn_text_spec.proofs.FindPats.{pattern_finds}
use Rattle.syn_text_spec.proofs.FindTrees.{tree_leaves}

paths : (s : PathStyle) → Finds (Ok path_lexed) (p.path p.type s)
paths s = weaker_finds (path_finds type_finds s) path_found

macro_finds : Finds (Ok macro_lexed) p.macro
unfolding p.macro
macro_finds =
    shown_finds p.to_macro p.from_macro (both_finds (paths style.Mod) (mark_finds not_ne any_group_finds))
    (λ x h. and_from (path_lexed x.0) (group_lexed x.1.0 x.1.1) h.0 h.1)

has_lexed_leaves : {A : Type 0} {f : Form A} {leaves : A → Bool} → Finds (Ok leaves) f → IsExact f → HasLexedLeaves f leaves
has_lexed_leaves a exact x l rest h g = (a.finds l x rest ((exact l x rest).1 h) (lexed g)).0

pub leaves_are_lexed : LeavesAreLexed
leaves_are_lexed = record {
  types = λ several. has_lexed_leaves (type_finds several) (parts_exact.types several);
  paths = λ s. has_lexed_leaves (paths s) (parts_exact.paths s);
  macros = has_lexed_leaves macro_finds parts_exact.macros;
  patterns = λ several. has_lexed_leaves (pattern_finds several) (patterns_exact.patterns several);
  expressions = tree_leaves;
}

falls : (ts : List Tok) → is_lexed ts ≡ true → Spells (chars (text ts)) ts
falls = text_is_read_again

pub part_texts_are_read_back : PartTextsAreReadBack
part_texts_are_read_back = record {
  types = λ several x rest f s h l. (_, falls _ (type_ok x h (lexed l)).is, parts_read_back.types several x rest f s);
  paths = λ kind x rest f s h l. (_, falls _ (path_ok x h (lexed l)).is, parts_read_back.paths kind x rest f s);
  macros = λ x rest f s h l. (_, falls _ (macro_ok x h (lexed l)).is, parts_read_back.macros x rest f);
  patterns = λ several x rest f s h l. (_, falls _ (pat_ok x h (lexed l)).is, patterns_read_back.patterns several x rest f s);
}

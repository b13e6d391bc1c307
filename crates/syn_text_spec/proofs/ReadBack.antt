-- What is printed of a tree whose leaves are lexed is a list that its text falls into, and is read as the same tree.
use Rattle.std.proofs.Common.{◌≡◌, true, List, ◌∙◌, subst, chars}
use Rattle.syn_tokens.specs.Tok.{Tok}
use Rattle.syn_tokens.specs.Lex.{Spells}
use Rattle.syn_tokens.specs.Text.{text}
use Rattle.syn_tokens.proofs.Lexes.{one_reading}
use Rattle.syn_expr_spec.specs.Tree.{Tree, own, clear}
use Rattle.syn_expr_spec.specs.Stands.{Stands}
use Rattle.syn_expr_spec.specs.Printed.{Position, place_of, context_of, allows, printed_in}
use Rattle.syn_expr_spec.specs.WellFormed.{is_well_formed}
use Rattle.syn_expr_spec.proofs.Exact.{at_most_one}
use Rattle.syn_expr_spec.proofs.Flat.{flatten_clear}
use Rattle.syn_expr_spec.proofs.Promise.{printed_stands}
use Rattle.syn_text.specs.Lexed.{is_lexed}
use Rattle.syn_text.proofs.Again.{text_is_read_again}
use Rattle.syn_text.proofs.Exact.{exact}
use Rattle.syn_text_spec.specs.Leaves.{leaves_lexed}
use Rattle.syn_text_spec.specs.Laws.{PrintedIsLexed, TextIsReadBack, IsReadBack}
use Rattle.syn_text_spec.proofs.Lists.{lexed}
use Rattle.syn_text_spec.proofs.Trees.{tree_ok}
use Rattle.syn_text_spec.proofs.Printed.{printed_ok}
use Rattle.syn_text_spec.proofs.FindTrees.{tree_leaves}

pub printed_is_lexed : PrintedIsLexed
printed_is_lexed s t r h l = (tree_ok (printed_in s t) (printed_ok (context_of s) t h) (lexed l)).is

by_tokens : (s : Position) (t : Tree) (rest : List Tok) → is_well_formed t ≡ true → allows s rest ≡ true → is_lexed (own (printed_in s t) rest) ≡ true → IsReadBack s t rest
by_tokens s t rest well allowed h =
    let ts = own (printed_in s t) rest in
    let x = clear (printed_in s t) in
    let promise = printed_stands s t rest well allowed in
    let falls : Spells (chars (text ts)) ts = text_is_read_again ts h in (
      x,
      flatten_clear (printed_in s t) ∙ promise.0,
      (ts, falls, promise.1),
      (λ y n read.
          let same : read.0 ≡ ts = one_reading (chars (text ts)) read.0 ts read.1 falls in
          at_most_one (place_of s) ts y x n rest (subst (λ us. Stands (place_of s) us y n) same read.2) promise.1),
    )

by_leaves : (s : Position) (t : Tree) (rest : List Tok) → is_well_formed t ≡ true → allows s rest ≡ true → leaves_lexed t ≡ true → is_lexed rest ≡ true → IsReadBack s t rest
by_leaves s t rest well allowed h l = by_tokens s t rest well allowed (printed_is_lexed s t rest h l)

pub text_is_read_back : TextIsReadBack
text_is_read_back = record {
  tokens = by_tokens;
  leaves = by_leaves;
  read = λ s t rest well allowed p l n fallen stands v g. by_leaves s t rest well allowed (tree_leaves p l t n stands ((exact l).1 fallen) v) g;
}

-- What is printed of a tree in a position keeps all that is promised.
use Rattle.std.proofs.Common.{◌≡◌, ◌↔◌, true, ℕ, List, [], ◌++◌, refl, sym, ◌∙◌, ap, subst, Result, Ok, Err, string_bytes, chars}
use Rattle.std.specs.Prelude.{IfOk, MatchResult, String}
use Rattle.std.specs.declared.alloc.Global.{Global}
use Rattle.syn_tokens.specs.Lex.{Spells}
use Rattle.syn_tokens.specs.Text.{text}
use Rattle.syn_tokens.specs.Tok.{Tok}
use Rattle.syn_tokens.specs.declared.error.Error.{Error}
use Rattle.syn_tokens.specs.declared.error.ErrorKind.TheVariants.{OutOfMemory}
use Rattle.syn_tokens.proofs.Lexes.{one_reading}
use Rattle.syn_expr_spec.specs.declared.next.Context.{Context}
use Rattle.syn_expr_spec.specs.Next.{enclosed}
use Rattle.syn_expr_spec.specs.Place.{plain}
use Rattle.syn_expr_spec.specs.Printed.{Position, in_plain, as_statement, as_condition, as_arm, context_of, place_of, allows, is_minimal, plainly_attributed, printed_in}
use Rattle.syn_expr_spec.specs.Rule.{printed}
use Rattle.syn_expr_spec.specs.Stands.{Stands}
use Rattle.syn_expr_spec.specs.Tree.{Tree, own, own_tokens, clear, fill}
use Rattle.syn_expr_spec.specs.WellFormed.{is_well_formed}
use Rattle.syn_expr_spec.proofs.Added.{pairs_are_added}
use Rattle.syn_expr_spec.proofs.Exact.{at_most_one}
use Rattle.syn_expr_spec.proofs.FillIns.{plainly_fill}
use Rattle.syn_expr_spec.proofs.Flat.{flatten_clear}
use Rattle.syn_expr_spec.proofs.NoneRedundant.{bare_there}
use Rattle.syn_expr_spec.proofs.Promise.{printed_stands}
use Rattle.syn_expr_spec.proofs.Same.{printed_is_same}
use Rattle.syn_expr_spec.proofs.RedundantPlain.{no_pair_redundant, plain_clear}
use Rattle.syn_expr_spec.proofs.StoodFilled.{own_spelling}
use Rattle.syn_expr_ast.specs.Printed.{whole}
use Rattle.syn_expr_print.proofs.Appends.{own_append}
use Rattle.syn_text.specs.Lexed.{is_lexed}
use Rattle.syn_text_spec.specs.Laws.{IsStable, unchanged}
use Rattle.syn_text_spec.specs.Leaves.{leaves_lexed}
use Rattle.syn_text_spec.proofs.ReadBack.{printed_is_lexed}
use Rattle.syn_text_spec.proofs.Stable.{made_text}
use Rattle.syn_text_spec.proofs.Twice.{own_clear, own_twice, stands_alone}
use Rattle.syn_tidy.specs.Layout.{IsLayout}
use Rattle.syn_expr.specs.Promises.{Puts, StandsBack, StandsWithPairs, IsOwn, IsMinimal, IsTextOf, IsLaidOut, IsLaidOutAgain, PrintedAs}
use Rattle.syn_expr.proofs.Marks.{clear_twice, put_clear}

pub stands_back : (s : Position) (t : Tree) → StandsBack s t (own_tokens (printed_in s t))
stands_back s t w = (
  clear (printed_in s t),
  flatten_clear (printed_in s t) ∙ printed_is_same (context_of s) t w,
  λ rest h. subst (λ (l : List Tok). Stands (place_of s) l (clear (printed_in s t)) rest) (own_append (printed_in s t) rest) (printed_stands s t rest w h).1,
)

pub stands_with_pairs : (s : Position) (t : Tree) → StandsWithPairs s t (own_tokens (printed_in s t))
stands_with_pairs s t w = (
  printed_in s t,
  pairs_are_added s t w,
  λ rest h. subst (λ (l : List Tok). Stands (place_of s) l (clear (printed_in s t)) rest) (own_append (printed_in s t) rest) (printed_stands s t rest w h).1,
)

pub is_own : (t : Tree) → IsOwn t (own_tokens (printed enclosed t))
is_own t l d = ap own_tokens (own_spelling.pairs_alone t l d)

none_redundant_in : (s : Position) (t : Tree) (r : List Tok) → is_well_formed t ≡ true → plainly_attributed t ≡ true → is_minimal s ≡ true → allows s r ≡ true
    → (clear (printed_in s t) ≡ clear (fill t)) ↔ Stands (place_of s) (own (fill t) r) (clear (fill t)) r
none_redundant_in s t r w a v h =
    let p = printed_in s t in (
      λ q. subst (λ (l : List Tok). Stands (place_of s) l (clear (fill t)) r) (sym (own_clear p r) ∙ ap (λ (x : Tree). own x r) q ∙ own_clear (fill t) r)
          (subst (λ (x : Tree). Stands (place_of s) (own p r) x r) q (printed_stands s t r w h).1),
      λ d. sym (put_clear (context_of s) (fill t))
          ∙ ap clear (bare_there s (clear (fill t)) (own (fill t) r) r v h (plain_clear (fill t) ∙ plainly_fill t ∙ a) d.node)
          ∙ clear_twice (fill t),
    )

pub is_minimal_there : (s : Position) (t : Tree) → IsMinimal s t (own_tokens (printed_in s t))
is_minimal_there s t w a v = (
  printed_in s t,
  refl,
  record {
    added = pairs_are_added s t w;
    none_redundant = λ rest h. none_redundant_in s t rest w a v h;
    no_pair_redundant = λ q l rest h o d. no_pair_redundant s t q l rest w a v h o d;
  },
)

own_there : (s : Position) (t : Tree) → s ≡ in_plain → IsOwn t (own_tokens (printed_in s t))
own_there in_plain t e = is_own t
own_there as_statement t e = absurd cc
own_there as_condition t e = absurd cc
own_there as_arm t e = absurd cc

prints : (s : Position) (t : Tree) → PrintedAs s t (own_tokens (printed_in s t))
prints s t = record { tokens = refl; back = stands_back s t; added = stands_with_pairs s t; own = own_there s t; minimal = is_minimal_there s t }

-- ---- of what a printer wrote in the context of a position

pub text_at : (t : Tree) (c d : Context) (old new : List Tok) → new ≡ old ++ whole d t → d ≡ c → new ≡ old ++ own_tokens (printed c t)
unfolding whole
text_at t c d old new h e = h ∙ ap (λ (x : Context). old ++ own_tokens (printed x t)) e

pub text_of : (t : Tree) (c d : Context) (old new : List Tok) → new ≡ old ++ whole d t → d ≡ c → old ≡ [] → new ≡ own_tokens (printed c t)
text_of t c d old new h e n = text_at t c d old new h e ∙ ap (λ (l : List Tok). l ++ own_tokens (printed c t)) n

pub back_at : (s : Position) (t : Tree) (c : Context) (old new : List Tok) → new ≡ old ++ own_tokens (printed c t) → c ≡ context_of s → Puts old new (StandsBack s t)
back_at s t c old new h e = (own_tokens (printed c t), h, subst (λ (d : Context). StandsBack s t (own_tokens (printed d t))) (sym e) (stands_back s t))

pub added_at : (s : Position) (t : Tree) (c : Context) (old new : List Tok) → new ≡ old ++ own_tokens (printed c t) → c ≡ context_of s → Puts old new (StandsWithPairs s t)
added_at s t c old new h e = (own_tokens (printed c t), h, subst (λ (d : Context). StandsWithPairs s t (own_tokens (printed d t))) (sym e) (stands_with_pairs s t))

pub own_at : (t : Tree) (c : Context) (old new : List Tok) → new ≡ old ++ own_tokens (printed c t) → c ≡ enclosed → Puts old new (IsOwn t)
own_at t c old new h e = (own_tokens (printed c t), h, subst (λ (d : Context). IsOwn t (own_tokens (printed d t))) (sym e) (is_own t))

pub minimal_at : (s : Position) (t : Tree) (c : Context) (old new : List Tok) → new ≡ old ++ own_tokens (printed c t) → c ≡ context_of s → Puts old new (IsMinimal s t)
minimal_at s t c old new h e = (own_tokens (printed c t), h, subst (λ (d : Context). IsMinimal s t (own_tokens (printed d t))) (sym e) (is_minimal_there s t))

pub prints_at : (s : Position) (t : Tree) (c : Context) (ts : List Tok) → ts ≡ own_tokens (printed c t) → c ≡ context_of s → PrintedAs s t ts
prints_at s t c ts h e =
    subst (λ (l : List Tok). PrintedAs s t l) (sym h) (subst (λ (d : Context). PrintedAs s t (own_tokens (printed d t))) (sym e) (prints s t))

pub is_text : (s : Position) (t : Tree) (ts : List Tok) (r : Result (String Global) Error) → PrintedAs s t ts → MatchResult r (λ x. string_bytes x ≡ text ts) (λ e. e.kind ≡ OutOfMemory)
    → IfOk r (λ x. IsTextOf s t (string_bytes x))
is_text s t ts (Ok x) printed is = (ts, printed, is)
is_text s t ts (Err e) printed is = tt

-- the text is read again, and printed again as it is
pub is_stable : (s : Position) (t : Tree) (ts : List Tok) (r : Result (String Global) Error) → PrintedAs s t ts → MatchResult r (λ x. string_bytes x ≡ text ts) (λ e. e.kind ≡ OutOfMemory)
    → IfOk r (λ x. is_well_formed t ≡ true → leaves_lexed t ≡ true → IsStable unchanged s t (string_bytes x))
is_stable s t ts (Ok x) printed is = λ well leaves. made_text s t ts (string_bytes x) printed.tokens is well leaves
is_stable s t ts (Err e) printed is = tt

-- ---- of a layout of the printed tokens

pub is_laid_out : (s : Position) (t : Tree) (ts : List Tok) (r : Result (String Global) Error) → PrintedAs s t ts → IfOk r (λ x. IsLayout ts (chars (string_bytes x)))
    → IfOk r (λ x. IsLaidOut s t (string_bytes x))
is_laid_out s t ts (Ok x) printed is = (ts, printed, is)
is_laid_out s t ts (Err e) printed is = tt

-- a text that falls into the tokens which are printed of a well-formed tree
laid_again : (s : Position) (t : Tree) (bytes : List ℕ) → is_well_formed t ≡ true → IsLayout (own_tokens (printed_in s t)) (chars bytes)
    → Spells (chars bytes) (own_tokens (printed_in s t)) → IsLaidOutAgain s t bytes
laid_again s t bytes well layout falls =
    let ts = own_tokens (printed_in s t) in
    let x = clear (printed_in s t) in
    let stands : Stands plain ts x [] = stands_alone s t well in (
      x,
      flatten_clear (printed_in s t) ∙ printed_is_same (context_of s) t well,
      (ts, falls, stands),
      (λ y n read.
          let same : read.0 ≡ ts = one_reading (chars bytes) read.0 ts read.1 falls in
          at_most_one plain ts y x n [] (subst (λ us. Stands plain us y n) same read.2) stands),
      subst (λ (us : List Tok). IsLayout us (chars bytes)) (sym (own_twice s t [] well)) layout,
    )

laid_by : (s : Position) (t : Tree) (ts : List Tok) (bytes : List ℕ) → ts ≡ own_tokens (printed_in s t) → IsLayout ts (chars bytes)
    → (is_lexed ts ≡ true → Spells (chars bytes) ts) → is_well_formed t ≡ true → leaves_lexed t ≡ true → IsLaidOutAgain s t bytes
laid_by s t ts bytes made layout falls well leaves =
    let lexed : is_lexed ts ≡ true = ap is_lexed made ∙ printed_is_lexed s t [] leaves refl in
    laid_again s t bytes well (subst (λ (us : List Tok). IsLayout us (chars bytes)) made layout) (subst (λ (us : List Tok). Spells (chars bytes) us) made (falls lexed))

-- the text is read again, and lays out what is printed again
pub is_read_again : (s : Position) (t : Tree) (ts : List Tok) (r : Result (String Global) Error) → PrintedAs s t ts → IfOk r (λ x. IsLayout ts (chars (string_bytes x)))
    → IfOk r (λ x. is_lexed ts ≡ true → Spells (chars (string_bytes x)) ts)
    → IfOk r (λ x. is_well_formed t ≡ true → leaves_lexed t ≡ true → IsLaidOutAgain s t (string_bytes x))
is_read_again s t ts (Ok x) printed is falls = λ well leaves. laid_by s t ts (string_bytes x) printed.tokens is falls well leaves
is_read_again s t ts (Err e) printed is falls = tt

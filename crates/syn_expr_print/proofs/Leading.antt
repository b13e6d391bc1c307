-- Down nodes that end with an operand, which comes after a prefix.
use Rattle.std.specs.Prelude.{Option, Some, Result}
use Rattle.std.proofs.Common.{◌≡◌, Bool, false, List, [], ◌∷◌, ◌++◌, OnOk, sym, ap, ◌∙◌, subst, append_assoc}
use Rattle.syn_tokens.specs.Tok.{Tok}
use Rattle.syn_lower_leaves.specs.View.{mapped}
use Rattle.syn_expr_spec.specs.declared.next.Context.{Context}
use Rattle.syn_expr_spec.specs.declared.summary.Summary.{Summary}
use Rattle.syn_expr_spec.specs.Next.{prefix_context}
use Rattle.syn_expr_spec.specs.Summaries.{summary_of, stack, below, prefix_by}
use Rattle.syn_expr_spec.specs.Tree as e
use Rattle.syn_expr_spec.specs.Tree.{Tree, prefix_own}
use Rattle.syn_expr_ast.specs.Label.{prefix_kind, kind_at}
use Rattle.syn_expr_ast.specs.declared.label.NodeKind.TheVariants as kind
use Rattle.syn_expr_ast.specs.declared.label.PrefixKind.{PrefixKind}
use Rattle.syn_expr_ast.specs.Node.{operands_at, prefix_at, first_of}
use Rattle.syn_expr_print.specs.declared.print.Summaries.{Summaries}
use Rattle.syn_expr_print.specs.Printing.{spelled, spelled_in, core, IsBorrowed}
use Rattle.syn_expr_print.specs.Taken.{Going, Taken}
use Rattle.syn_expr_print.proofs.Borrowing.{borrowed-at, on-map}
use Rattle.syn_expr_print.proofs.Borrowed.{prefixed-text, prefixed-kind}
use Rattle.syn_expr_print.proofs.Spellings.{spelled-bare}
use Rattle.syn_expr_print.proofs.Turns.{going-on}

-- what comes before the operand, and the operand in its place, by its summary
pub prefix_parts : {A : Type 0} (f : A → e.Prefix × List Tree) (o : Option A) (l : A) (q : PrefixKind) (c p : Context) (w : Bool) (n : Summary) (t u : Tree)
    → IsBorrowed t → kind_at t ≡ kind.Prefix q → mapped f o ≡ prefix_at t → o ≡ Some l → first_of (operands_at t) ≡ Some u
    → ((k : e.Prefix) → prefix_kind k ≡ q → p ≡ prefix_context k c) → n ≡ summary_of u → ((k : e.Prefix) → prefix_kind k ≡ q → w ≡ prefix_by k p n)
    → spelled c (core t) ≡ prefix_own (f l).0 [] ++ spelled_in w p u
prefix_parts f o l q c p w n t u i h m s v place summary wraps =
    let a = borrowed-at f o l (prefix_at t) m s in
    let k = (f l).0 in
    let j = prefixed-kind t (f l) q h a in
    prefixed-text c t (f l) u i a v
    ∙ ap (λ z. prefix_own k [] ++ spelled_in (prefix_by k z (summary_of u)) z u) (sym (place k j))
    ∙ ap (λ z. prefix_own k [] ++ spelled_in (prefix_by k p z) p u) (sym summary)
    ∙ ap (λ z. prefix_own k [] ++ spelled_in z p u) (sym (wraps k j))

-- the operand is printed
pub prefix_last : {U X : Type 0} (r : Result U X) (now own text within new all : List Tok) (w : Bool) (p : Context) (u : Tree)
    → text ≡ own ++ spelled_in w p u → within ≡ now ++ own → now ++ text ≡ all → OnOk r (new ≡ within ++ spelled_in w p u) → OnOk r (new ≡ all)
prefix_last r now own text within new all w p u a m i g =
    on-map r g (λ j. j ∙ ap (λ z. z ++ spelled_in w p u) m ∙ append_assoc now own (spelled_in w p u) ∙ ap (λ z. now ++ z) (sym a) ∙ i)

-- or it is next itself, where it is left bare and no attributes come before it
pub prefix_down : (now own text within all : List Tok) (w : Bool) (p : Context) (u : Tree)
    → text ≡ own ++ spelled_in w p u → within ≡ now ++ own → w ≡ false → core u ≡ u → now ++ text ≡ all → within ++ spelled p (core u) ≡ all
prefix_down now own text within all w p u a m b c i =
    ap (λ z. z ++ spelled p (core u)) m
    ∙ append_assoc now own (spelled p (core u))
    ∙ ap (λ z. now ++ (own ++ z)) (ap (λ z. spelled p z) c ∙ sym (spelled-bare p u) ∙ ap (λ z. spelled_in z p u) (sym b))
    ∙ ap (λ z. now ++ z) (sym a)
    ∙ i

pub prefix_going : (old now new : Summaries) (all : List Summary) (t u : Tree) → below t ≡ stack u → Going old now all (below t) → Taken now new (summary_of u ∷ []) → Going old new all (below u)
prefix_going old now new all t u e g k = going-on old now new all (below u) (summary_of u ∷ []) (subst (λ z. Going old now all z) e g) k

-- What is printed of a well-formed tree is read back as the same tree.
use Rattle.std.proofs.Common.{◌≡◌, true, List, [], ◌++◌, Result, Ok, Err, refl, sym, ◌∙◌, ap, subst}
use Rattle.std.proofs.lemmas.List.{append-nil}
use Rattle.std.specs.Prelude.{MatchResult}
use Rattle.syn_tokens.specs.Input.{Gives}
use Rattle.syn_tokens.specs.Tok.{Tok}
use Rattle.syn_tokens.specs.declared.error.Error.{Error}
use Rattle.syn_tokens.specs.declared.error.ErrorKind.TheVariants.{OutOfMemory}
use Rattle.syn_expr_spec.specs.Place.{plain}
use Rattle.syn_expr_spec.specs.Printed.{in_plain}
use Rattle.syn_expr_spec.specs.Stands.{Stands}
use Rattle.syn_expr_spec.specs.Tree.{Tree, flatten, IsSameTree}
use Rattle.syn_expr_spec.specs.WellFormed.{is_well_formed}
use Rattle.syn_expr_core.specs.declared.expr.Expr.{Expr}
use Rattle.syn_expr_core.specs.View.{tree_of}
use Rattle.syn_expr.specs.Promises.{Puts, StandsBack}

read_by : (t x : Tree) (r : Result Expr Error) → IsSameTree t x → Gives tree_of x r → MatchResult r (λ v. IsSameTree t (tree_of v)) (λ e. e.kind ≡ OutOfMemory)
read_by t x (Ok v) h g = ap flatten g ∙ h
read_by t x (Err e) h g = g

pub given_back : (t : Tree) (old ts : List Tok) (r : Result Expr Error) → is_well_formed t ≡ true → old ≡ [] → Puts old ts (StandsBack in_plain t)
    → ((x : Tree) → Stands plain ts x [] → Gives tree_of x r) → MatchResult r (λ v. IsSameTree t (tree_of v)) (λ e. e.kind ≡ OutOfMemory)
given_back t old ts r w e (l, p, back) found =
    let (x, same, stands) = back w in
    let q : l ++ [] ≡ ts = append-nil l ∙ sym (p ∙ ap (λ (m : List Tok). m ++ l) e) in
    read_by t x r same (found x (subst (λ (m : List Tok). Stands plain m x []) q (stands [] refl)))

-- A closure is read back up to its body where its arguments and its output are.
use Rattle.std.proofs.Common.{◌≡◌, Bool, true, false, not, ◌&&◌, List, [], ◌∷◌, ◌++◌, map, Option, Some, None, refl, ap, sym, ◌∙◌}
use Rattle.std.specs.List.{list_all}
use Rattle.std.specs.Prelude.{is_some}
use Rattle.std.specs.declared.boxed.Box.{Box}
use Rattle.std.specs.declared.alloc.Global.{Global}
use Rattle.std.proofs.Math.Bool.{and-false, and_assoc, and-true}
use Rattle.syn_lower_spec.specs.Fits.{ends_well, fits_if, lifetimes_fit, output_fits}
use Rattle.syn_lower_spec.specs.Form.{is_nil}
use Rattle.syn_expr_spec.specs.WellFormed.{inputs_fit, head_fits}
use Rattle.syn_lower_leaves.specs.declared.punctuated.Punctuated.{Punctuated}
use Rattle.syn_lower_leaves.specs.declared.ty.BoundLifetimes.{BoundLifetimes}
use Rattle.syn_lower_leaves.specs.View.{values, trails, last_of, is_some_pair, mapped, lifetimes_of}
use Rattle.syn_lower_types.proofs.Fitting.{lifetimes_always}
use Rattle.syn_lower.specs.View.{return_of}
use Rattle.syn_pat.specs.View.{PatView}
use Rattle.syn_expr_ast.specs.Node.{inputs_of, closure_of}
use Rattle.syn_expr_ast.specs.declared.node.Closure.{Closure}
use Rattle.syn_expr_ast.specs.Pats.{trees, guards}
use Rattle.syn_expr_wellformed.specs.Alone.{argument_fits}

-- ---- tests together

pub four : (a b c d : Bool) → ((a && b) && (c && d)) ≡ ((a && c) && (b && d))
four true true c d = refl
four true false c d = sym (and-false c)
four false b c d = refl

-- the third is asked last
pub swap : (a b c : Bool) → ((a && c) && b) ≡ ((a && b) && c)
swap true true c = and-true c
swap true false c = and-false c
swap false b c = refl

-- ---- arguments

pub nil_append : {A : Type 0} (xs ys : List A) → is_nil (xs ++ ys) ≡ (is_nil xs && is_nil ys)
nil_append [] ys = refl
nil_append (x ∷ xs) ys = refl

pub arguments_alone : {P : Type 0} (pat : P → PatView) (ps : List P) → list_all (λ p. argument_fits (pat p)) ps ≡ (inputs_fit (trees (map pat ps)) && is_nil (guards (map pat ps)))
arguments_alone pat [] = refl
arguments_alone pat (p ∷ ps) =
    ap (λ b. argument_fits (pat p) && b) (arguments_alone pat ps)
    ∙ (four _ (is_nil (pat p).guards) (inputs_fit (trees (map pat ps))) (is_nil (guards (map pat ps)))
    ∙ ap (λ b. inputs_fit (trees (map pat (p ∷ ps))) && b) (sym (nil_append (pat p).guards (guards (map pat ps)))))

-- a punct ends a list only after a value
pub inputs_end : {P C : Type 0} (pat : P → PatView) (p : Punctuated P C) → ends_well (is_nil (trees (map pat (values p)))) (trails p) ≡ true
unfolding values trails
inputs_end {P} {C} pat p = by p.inner.items p.last
  where
    by : (xs : List (P × C)) (o : Option (Box P Global)) → ends_well (is_nil (trees (map pat (map (λ q. q.0) xs ++ last_of o)))) (is_some_pair xs && not (is_some o)) ≡ true
    by [] o = ap not (and-false (is_nil (trees (map pat (last_of o)))))
    by (q ∷ xs) o = refl

pub some_lifetimes : (o : Option BoundLifetimes) → fits_if lifetimes_fit (mapped lifetimes_of o) ≡ true
some_lifetimes None = refl
some_lifetimes (Some x) = lifetimes_always x

-- whether `move` and `use` don't both are there
abbrev pub captures : {P : Type 0} → Closure P → Bool
captures x = not (is_some x.capture.now && is_some x.modifiers.now.use_token)

abbrev pub behind_captures : {P : Type 0} → (P → PatView) → Closure P → Bool
behind_captures pat x =
    fits_if lifetimes_fit (mapped lifetimes_of x.lifetimes.now)
    && (inputs_fit (trees (inputs_of pat x)) && (ends_well (is_nil (trees (inputs_of pat x))) (trails x.inputs.now) && output_fits true (return_of x.output.now)))

behind_is : {P : Type 0} (pat : P → PatView) (x : Closure P)
    → (behind_captures pat x && is_nil (guards (inputs_of pat x))) ≡ (list_all (λ p. argument_fits (pat p)) (values x.inputs.now) && output_fits true (return_of x.output.now))
behind_is pat x =
    let l = some_lifetimes x.lifetimes.now in
    let n = inputs_end pat x.inputs.now in
    let a = arguments_alone pat (values x.inputs.now) in
    rw (l, n, a) (swap (inputs_fit (trees (map pat (values x.inputs.now)))) (is_nil (guards (map pat (values x.inputs.now)))) (output_fits true (return_of x.output.now)))

pub closure_is : {P : Type 0} (pat : P → PatView) (x : Closure P)
    → (head_fits (closure_of pat x) && is_nil (guards (inputs_of pat x)))
    ≡ (captures x && (list_all (λ p. argument_fits (pat p)) (values x.inputs.now) && output_fits true (return_of x.output.now)))
closure_is pat x = and_assoc (captures x) (behind_captures pat x) (is_nil (guards (inputs_of pat x))) ∙ ap (λ b. captures x && b) (behind_is pat x)

pub ruleset ends = (and-true, swap)

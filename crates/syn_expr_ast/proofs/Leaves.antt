-- In plain position no pair is round a node; and what is printed there of a leaf after its attributes.
use Rattle.std.specs.Prelude.{Result, Ok, Err}
use Rattle.std.proofs.Common.{◌≡◌, Bool, false, List, [], ◌∷◌, ◌++◌, OnOk, refl, sym, ap, ◌∙◌, append_assoc}
use Rattle.std.proofs.lemmas.Bool.{or_parts}
use Rattle.syn_tokens.specs.Tok.{Tok}
use Rattle.syn_lower_spec.specs.Tree.{AttributeTree}
use Rattle.syn_lower_spec.specs.PatOwn.{attributes_own}
use Rattle.syn_pat.proofs.Appends.{attributes_append}
use Rattle.syn_expr_spec.specs.declared.kinds.Precedence.TheVariants as lev
use Rattle.syn_expr_spec.specs.declared.next.Next.TheVariants as next
use Rattle.syn_expr_spec.specs.Next.{enclosed}
use Rattle.syn_expr_spec.specs.Rule.{put, place_asks, refuses, misplaced}
use Rattle.syn_expr_spec.specs.Stands.{is_range_leaf}
use Rattle.syn_expr_spec.specs.Tree.{Tree, Leaf, leaf, attributed, attributed_with, outers, own_tokens, leaf_own}
use Rattle.syn_expr_spec.proofs.Edges.{bad_end, low_some, self_enclosed}
use Rattle.syn_expr_ast.specs.Printed.{whole}

pub place-bare : (t : Tree) → place_asks lev.Jump enclosed t ≡ false
place-bare t = let s = or_parts (refuses t next.End) (misplaced enclosed t) (self_enclosed t) in rw (low_some t, bad_end t, s.0, s.1) refl

pub leaf-whole : (ats : List AttributeTree) (k : Leaf) → is_range_leaf k ≡ false → whole enclosed (attributed_with ats (leaf k)) ≡ attributes_own (outers ats) [] ++ leaf_own k []
unfolding whole
leaf-whole [] k h = ap (λ w. own_tokens (put w (leaf k) (leaf k))) (place-bare (leaf k))
leaf-whole (a ∷ more) k h =
    let attributed_with-put = λ (w : Bool). attributed a more (put w (leaf k) (leaf k)) in
    ap (λ w. own_tokens (put w (attributed_with-put (is_range_leaf k)) (attributed_with-put (is_range_leaf k)))) (place-bare (attributed a more (leaf k)))
    ∙ ap (λ w. own_tokens (attributed_with-put w)) h
    ∙ attributes_append (outers (a ∷ more)) (leaf_own k [])

pub leaf-written : {X : Type 0} (ats : List AttributeTree) (k : Leaf) (r : Result (Unit {0}) X) (t0 t1 t2 : List Tok) → is_range_leaf k ≡ false
    → t1 ≡ t0 ++ attributes_own (outers ats) [] → OnOk r (t2 ≡ t1 ++ leaf_own k []) → OnOk r (t2 ≡ t0 ++ whole enclosed (attributed_with ats (leaf k)))
leaf-written ats k (Ok u) t0 t1 t2 h p g =
    g ∙ ap (λ l. l ++ leaf_own k []) p ∙ append_assoc t0 (attributes_own (outers ats) []) (leaf_own k []) ∙ ap (λ l. t0 ++ l) (sym (leaf-whole ats k h))
leaf-written ats k (Err e) t0 t1 t2 h p g = g

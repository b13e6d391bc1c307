-- What a pattern's reader leaves, what is told of a pattern by its attributes, and what is left of it without them.
use Rattle.std.proofs.Common.{◌≡◌, Bool, false, Some, List, [], ◌∷◌, map, refl, ap, sym, ◌∙◌, rules}
use Rattle.std.specs.Prelude.{◌==◌, length}
use Rattle.std.specs.Vec.{vec_len}
use Rattle.std.specs.declared.vec.Vec.{Vec}
use Rattle.std.specs.declared.alloc.Global.{Global}
use Rattle.syn_expr_spec.proofs.Heads.{heads_readable}
use Rattle.syn_expr_spec.specs.Tree.{Tree}
use Rattle.syn_lower_leaves.specs.declared.attr.Attribute.{Attribute}
use Rattle.syn_lower_spec.specs.Tree.{AttributeTree}
use Rattle.syn_lower_spec.specs.Pat as t
use Rattle.syn_lower_spec.specs.Pat.{PatTree, is_rest, pattern}
use Rattle.syn_tokens.specs.Input.{IsTail}
use Rattle.syn_tokens.specs.Tok.{Tok}
use Rattle.syn_pat.specs.View.{PatView, attribute_of, attributed_by, attributes_of, view_with}
use Rattle.syn_pat.specs.declared.pat.PatRest.{PatRest}
use Rattle.syn_pat_parse.specs.Reads.{unattributed}
use Rattle.syn_expr_core.specs.declared.expr.Expr.{Expr}
use Rattle.syn_expr_core.specs.declared.expr.Expr.TheOpen.{Pat-F}
use Rattle.syn_expr_core.specs.declared.closure.ExprClosure.{ExprClosure}
use Rattle.syn_expr_core.specs.declared.control.Arm.{Arm}
use Rattle.syn_expr_core.specs.declared.control.ExprForLoop.{ExprForLoop}
use Rattle.syn_expr_core.specs.declared.control.ExprLet.{ExprLet}
use Rattle.syn_expr_core.specs.declared.control.ExprMatch.{ExprMatch}
use Rattle.syn_expr_core.specs.declared.pat.Pat.{Pat, out-Pat, roll-Pat, roll-out-Pat}
use Rattle.syn_expr_core.specs.declared.pat.Pat.TheVariants as pt
use Rattle.syn_expr_core.specs.declared.pat.PatGuard.{PatGuard, out-PatGuard}
use Rattle.syn_expr_core.specs.View.{pat_layer, pat_of, views}
use Rattle.syn_expr_core.proofs.TreeOf.{pat_out, guard-is}

-- ---- what is left

pub pattern_tail : (multi : Bool) (l n : List Tok) (x : PatTree) → (pattern multi).reads l ≡ Some (x, n) → IsTail n l
pattern_tail multi l n x h = let r = heads_readable.patterns multi in r.tail l n x h

-- ---- whether a pattern is `..` alone

-- after attributes it is none
pub rest_is : (attrs : Vec Attribute Global) → (vec_len attrs == 0) ≡ is_rest (attributed_by (attributes_of attrs) t.rest)
rest_is attrs = ap (λ n. n == 0) attrs.ok.0 ∙ by attrs.items
  where
    by : (xs : List Attribute) → (length xs == 0) ≡ is_rest (attributed_by (map attribute_of xs) t.rest)
    by [] = refl
    by (x ∷ xs) = search rules

no_rest : (xs : List AttributeTree) (p : PatTree) → is_rest p ≡ false → is_rest (attributed_by xs p) ≡ false
no_rest [] p h = h
no_rest (x ∷ xs) p h = refl

layer_no_rest : (l : Pat-F Expr Pat ExprClosure Arm ExprForLoop ExprLet ExprMatch PatGuard) → ((x : PatRest) → l ≡ Pat-F.Rest x → ⊥) → is_rest (pat_layer views l).tree ≡ false
layer_no_rest (Pat-F.Rest x) other = absurd (other x refl)
layer_no_rest (Pat-F.Guard x) other = let g = out-PatGuard x in ap (λ v. is_rest v.tree) (guard-is x) ∙ no_rest (attributes_of g.attrs) (t.guarded (pat_of g.pat.value).tree) refl
layer_no_rest _ other = search (rules, no_rest)

-- no pattern of another kind is one
pub others_rest : (p : Pat) → ((x : PatRest) → p ≡ pt.Rest x → ⊥) → is_rest (pat_of p).tree ≡ false
others_rest p other = ap (λ v. is_rest v.tree) (pat_out p) ∙ layer_no_rest (out-Pat p) (λ x h. other x (sym (roll-out-Pat p) ∙ ap roll-Pat h ∙ pt.rolls-Rest x))

-- ---- attributes in the place of others

-- what a pattern is without its attributes
pub bared : (xs : List AttributeTree) (p : PatTree) → unattributed p ≡ p → unattributed (attributed_by xs p) ≡ p
bared [] p h = h
bared (x ∷ xs) p h = refl

pub ruleset bares = (bared)

-- what is shown of a pattern that has others than it had
pub reattributed : (old new : Vec Attribute Global) (p : PatTree) (gs : List Tree) (v w : PatView) → v ≡ view_with old p gs → w ≡ view_with new p gs → unattributed p ≡ p → w ≡ view_with new (unattributed v.tree) v.guards
reattributed old new p gs v w h i e = rw h (i ∙ ap (λ z. view_with new z gs) (sym (bared (attributes_of old) p e)))

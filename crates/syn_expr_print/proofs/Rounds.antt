-- What has its operands in places of their own, by its parts.
use Rattle.std.specs.Prelude.{not, map, nat_eq, Option, Some, None, is_some}
use Rattle.std.proofs.Common.{◌≡◌, Bool, true, false, List, [], ◌∷◌, ◌++◌, length, refl, sym, ap, ◌∙◌, arith}
use Rattle.std.proofs.lemmas.Bool.Decides.{nat_tests}
use Rattle.std.specs.declared.boxed.Box.{Box}
use Rattle.std.specs.declared.alloc.Global.{Global}
use Rattle.syn_tokens.specs.Tok.{Tok}
use Rattle.syn_lower_spec.specs.Form.{is_nil}
use Rattle.syn_expr_spec.specs.declared.next.Context.{Context}
use Rattle.syn_expr_spec.specs.Summaries.{below, children_below}
use Rattle.syn_expr_spec.specs.Tree as e
use Rattle.syn_expr_spec.specs.Tree.{Tree, Children, Enclosure, frame_own, enclosure, needs_last_comma}
use Rattle.syn_pat.specs.View.{PatView}
use Rattle.syn_expr_ast.specs.Node.{frame_at, frame_of, frame_guards, frame_seen, operands_at, operand_children}
use Rattle.syn_expr_ast.specs.Pats.{ArmView, arms, strays}
use Rattle.syn_expr_ast.specs.View.{FieldView, boxed, elements, fields, option_child, else_of}
use Rattle.syn_expr_ast.specs.declared.node.Frame.{Frame}
use Rattle.syn_expr_ast.specs.declared.node.Frame.TheVariants as frame
use Rattle.syn_expr_print.specs.Framed.{framed_own, in_enclosure}
use Rattle.syn_expr_print.specs.Placed.{is_enclosed, needs_comma, needs_last, is_single, is_one_field}
use Rattle.syn_expr_print.specs.Printing.{spelled, children_spelled, core, IsBorrowed}
use Rattle.syn_expr_print.proofs.Matches.{arms-none}
use Rattle.syn_expr_ast.proofs.Borrowed.{first-based, second-based, children-based}
use Rattle.syn_expr_print.proofs.Borrowed.{open-text, closed-text, frame-below}

module _ {P : Type 0} (pat : P → PatView) where
  -- guards where none may stand are no operands
  pub last-seen : (k : Frame P) (ks : Children) → needs_last_comma (frame_of pat k) (strays (frame_guards pat k) ks) ≡ needs_last (frame_of pat k) (e.is_one ks)
  last-seen (frame.Array t) ks = refl
  last-seen (frame.Tuple t) ks = refl
  last-seen (frame.Repeat t) ks = refl
  last-seen (frame.Struct q p t dots) ks = refl
  last-seen (frame.Closure x) ks = refl
  last-seen (frame.If t) ks = refl
  last-seen (frame.While label t) ks = refl
  last-seen (frame.ForLoop label t p u) ks = refl
  last-seen (frame.Match t u) ks = refl
  last-seen (frame.Group t) ks = refl

  module _ (c : Context) (t : Tree) (k : Frame P) (l : IsBorrowed t) (a : frame_at t ≡ Some (frame_seen pat k)) where
    abbrev ks : Children
    ks = operand_children (operands_at t)

    pub bare-frame : is_some (enclosure (frame_of pat k)) ≡ false → spelled c (core t) ≡ frame_own (frame_of pat k) [] ++ children_spelled (needs_last (frame_of pat k) (e.is_one ks)) ks
    bare-frame h =
        open-text c t (frame_seen pat k) l a (by (enclosure (frame_of pat k)) h)
        ∙ ap (λ b. frame_own (frame_of pat k) [] ++ children_spelled b ks) (last-seen k ks)
      where
        by : (o : Option Enclosure) → is_some o ≡ false → o ≡ None
        by None h = refl
        by (Some x) h = absurd cc

    pub enclosed-frame : is_some (enclosure (frame_of pat k)) ≡ true → spelled c (core t) ≡ framed_own (frame_of pat k) (children_spelled (needs_last (frame_of pat k) (e.is_one ks)) ks)
    enclosed-frame h = by (enclosure (frame_of pat k)) refl h
      where
        by : (o : Option Enclosure) → enclosure (frame_of pat k) ≡ o → is_some o ≡ true → spelled c (core t) ≡ framed_own (frame_of pat k) (children_spelled (needs_last (frame_of pat k) (e.is_one ks)) ks)
        by None i h = absurd cc
        by (Some x) i h =
            closed-text c t (frame_seen pat k) x l a i
            ∙ ap (λ b. in_enclosure (Some x) (children_spelled b ks)) (last-seen k ks)
            ∙ ap (λ o. in_enclosure o (children_spelled (needs_last (frame_of pat k) (e.is_one ks)) ks)) (sym i)

  module _ (c : Context) (t : Tree) (k : Frame P) (l : IsBorrowed t) (a : frame_at t ≡ Some (frame_seen pat k)) where
    pub framed-text : (b comma : Bool) (inside : List Tok) → b ≡ is_enclosed (frame_at t) → b ≡ true → comma ≡ needs_comma (frame_at t) (operand_children (operands_at t))
        → inside ≡ children_spelled comma (operand_children (operands_at t)) → framed_own (frame_of pat k) inside ≡ spelled c (core t)
    framed-text b comma inside e h m i =
        ap (λ z. framed_own (frame_of pat k) z) (i ∙ ap (λ w. children_spelled w (operand_children (operands_at t))) (m ∙ ap (λ o. needs_comma o (operand_children (operands_at t))) a))
        ∙ sym (enclosed-frame c t k l a (ap is_enclosed (sym a) ∙ sym e ∙ h))

    pub open-frame-text : (b comma : Bool) → b ≡ is_enclosed (frame_at t) → b ≡ false → comma ≡ needs_comma (frame_at t) (operand_children (operands_at t))
        → frame_own (frame_of pat k) [] ++ children_spelled comma (operand_children (operands_at t)) ≡ spelled c (core t)
    open-frame-text b comma e h m =
        ap (λ w. frame_own (frame_of pat k) [] ++ children_spelled w (operand_children (operands_at t))) (m ∙ ap (λ o. needs_comma o (operand_children (operands_at t))) a)
        ∙ sym (bare-frame c t k l a (ap is_enclosed (sym a) ∙ sym e ∙ h))

-- ---- whether there is one operand

pub single-is : {A : Type 0} (xs : List A) → nat_eq (length xs) 1 ≡ is_single xs
single-is [] = refl
single-is (x ∷ []) = refl
single-is (x ∷ (y ∷ xs)) = grind (arith, nat_tests)

pub nil-is : {A : Type 0} (xs : List A) → nat_eq (length xs) 0 ≡ is_nil xs
nil-is [] = refl
nil-is (x ∷ xs) = grind (arith, nat_tests)

pub one-element : {E : Type 0} (f : E → Tree) (xs : List E) (b : Bool) → e.is_one (elements (map f xs) b) ≡ is_single xs
one-element f [] b = refl
one-element f (x ∷ []) b = refl
one-element f (x ∷ (y ∷ xs)) b = refl

pub one-field : {E F : Type 0} (f : F → FieldView) (h : E → Tree) (xs : List F) (b d : Bool) (o : Option (Box E Global)) → e.is_one (fields (map f xs) b (option_child (e.rest d) (boxed h o))) ≡ is_one_field xs (is_some o)
one-field f h [] b d None = refl
one-field f h [] b d (Some t) = refl
one-field f h (x ∷ []) b d None = refl
one-field f h (x ∷ []) b d (Some t) = refl
one-field f h (x ∷ (y ∷ xs)) b d None = refl
one-field f h (x ∷ (y ∷ xs)) b d (Some t) = refl

pub one-if_expr : {E S : Type 0} (f : E → Tree) (o : Option (S × Box E Global)) → e.is_none (else_of f o) ≡ not (is_some o)
one-if_expr f None = refl
one-if_expr f (Some q) = refl

pub one-scrutinee : {A : Type 0} (f : A → ArmView) (xs : List A) → e.is_none (arms (map f xs)) ≡ nat_eq (length xs) 0
one-scrutinee f [] = refl
one-scrutinee f (x ∷ xs) = arms-none (map f (x ∷ xs)) ∙ sym (nil-is (x ∷ xs))

pub ruleset singles = (single-is)

pub ruleset ones = (one-element, one-field, one-if_expr, one-scrutinee, first-based, second-based, children-based)

-- ---- the summaries

pub framed-below : (t : Tree) → IsBorrowed t → is_some (frame_at t) ≡ true → below t ≡ children_below (operand_children (operands_at t))
framed-below t l h = by (frame_at t) refl h
  where
    by : (o : Option (e.Frame × List Tree)) → frame_at t ≡ o → is_some o ≡ true → below t ≡ children_below (operand_children (operands_at t))
    by None i h = absurd cc
    by (Some p) i h = frame-below t p l i

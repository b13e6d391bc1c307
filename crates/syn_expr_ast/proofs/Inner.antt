-- The attributes in the braces of a leaf that is read are inner ones.
use Rattle.std.specs.Prelude.{◌&&◌}
use Rattle.std.proofs.Common.{◌≡◌, Bool, true, ⊎_elim, List, [], ◌∷◌, drop, Option, Some, None, refl, ap, subst}
use Rattle.std.proofs.lemmas.Bool.{and_parts}
use Rattle.syn_lexer.specs.declared.front.Delimiter.{Delimiter}
use Rattle.syn_tokens.specs.Tok.{Tok}
use Rattle.syn_tokens.specs.Front.{group_at}
use Rattle.syn_lower_spec.specs.declared.label.PathStyle.TheVariants as style
use Rattle.syn_lower_spec.specs.Form.{Form, Outcome, Test, Mark, and_then, when, mark, both, shown, then_by, case, flag, maybe, pure, whole, inside, inside_reads}
use Rattle.syn_lower_spec.specs.Mark.{lifetime_at, underscore, constant}
use Rattle.syn_lower_spec.specs.Part.{lifetime, unsigned, block, qpath, type, macro_end, QPathTree, MacroEnd, inner_attributes}
use Rattle.syn_lower_spec.proofs.Weights.{some_is}
use Rattle.syn_expr_spec.specs.Tree as e
use Rattle.syn_expr_spec.specs.Tree.{Body, Leaf}
use Rattle.syn_expr_spec.specs.Head.{label, jump_head, range_op, all_left, to_body, from_body, body_inside, body, from_lit, is_infer, from_full_range, from_bare_jump, from_continuing, to_block, from_block, to_loop, from_loop, from_unsafe, from_const, to_async, from_async, from_try, from_verbatim, to_named, from_named, continue_word, loop_word, unsafe_word, async_word, move_word, try_word, literal_at, range_at, jump_at, loop_at, block_at, const_block_at, async_block_at, try_block_at, builtin_at, builtin}
use Rattle.syn_expr_spec.proofs.Chains.{then_some, only_some, chosen}
use Rattle.syn_expr_spec.specs.WellFormed.{attributes_inner}
use Rattle.syn_expr_heads.specs.View.{named, leaf_form}
use Rattle.syn_expr_heads.proofs.Inner.{inner_attributes_inner}
use Rattle.syn_expr_ast.specs.Attrs.{has_inner}

-- what a form reads passes a test
record Passes {A : Type 0} (p : A → Bool) (f : Form A) : Type 0 where
  pub all : (l : List Tok) (x : A) (n : List Tok) → f.reads l ≡ Some (x, n) → p x ≡ true

when_passes : {A : Type 0} {p : A → Bool} {f g : Form A} (t : Test) → Passes p f → Passes p g → Passes p (when t f g)
when_passes {f = f} {g = g} t a b = record {
  all = λ l x n h. ⊎_elim (λ j. a.all l x n j.1) (λ j. b.all l x n j.1) (chosen (t l) (f.reads l) (g.reads l) (Some (x, n)) h);
}

mark_passes : {A : Type 0} {p : A → Bool} {f : Form A} (m : Mark) → Passes p f → Passes p (mark m f)
mark_passes {f = f} m a = record {
  all = λ l x n h. let (i, j) = only_some (m.at l) (f.reads (drop m.count l)) (x, n) h in a.all (drop m.count l) x n j;
}

case_passes : {A : Type 0} {p : A → Bool} {f g : Form A} (m : Mark) → Passes p f → Passes p g → Passes p (case m f g)
case_passes m a b = when_passes m.at (mark_passes m a) b

pure_passes : {A : Type 0} {p : A → Bool} (y : A) (is : A → Bool) → p y ≡ true → Passes p (pure y is)
pure_passes {p = p} y is h = record {
  all = λ l x n g. subst (λ z. p z ≡ true) (ap (λ z. z.0) (some_is g)) h;
}

-- where what it is shown as passes
shown_passes : {A B : Type 0} {p : B → Bool} {q : A → Bool} {f : Form A} (to : A → B) (from : B → Option A) → Passes q f → ((x : A) → q x ≡ true → p (to x) ≡ true) → Passes p (shown to from f)
shown_passes {p = p} {f = f} to from a s = record {
  all = λ l x n h. let (z, i, j) = then_some (f.reads l) (λ y m. Some (to y, m)) (x, n) h in
      subst (λ y. p y ≡ true) (ap (λ y. y.0) (some_is j)) (s z.0 (a.all l z.0 z.1 i));
}

both_passes : {A B : Type 0} {p : A → Bool} {q : B → Bool} {f : Form A} {g : Form B} → Passes p f → Passes q g → Passes (λ (r : A × B). p r.0 && q r.1) (both f g)
both_passes {p = p} {q = q} {f = f} {g = g} a b = record {
  all = λ l x n h.
      let (y, i, j) = then_some (f.reads l) (λ y m. and_then (g.reads m) (λ z o. Some ((y, z), o))) (x, n) h in
      let (z, u, v) = then_some (g.reads y.1) (λ z o. Some ((y.0, z), o)) (x, n) j in
      subst (λ w. (p w.0.0 && q w.0.1) ≡ true) (some_is v) (rw (a.all l y.0 y.1 i, b.all y.1 z.0 z.1 u) refl);
}

whole_is : {A : Type 0} (o : Outcome A) (n : List Tok) (x : A) (m : List Tok) → whole o n ≡ Some (x, m) → o ≡ Some (x, [])
whole_is None n x m h = absurd cc
whole_is (Some (y, [])) n x m h = ap (λ z. Some (z.0, [])) (some_is h)
whole_is (Some (y, t ∷ l)) n x m h = absurd cc

inside_passes : {A : Type 0} {p : A → Bool} {f : Form A} (d : Delimiter) → Passes p f → Passes p (inside d f)
inside_passes {A} {p = p} {f = f} d a = record { all = λ l x n h. by_group (group_at d l) x n h }
  where
    by_group : (o : Option (List Tok × List Tok)) (x : A) (n : List Tok) → inside_reads f o ≡ Some (x, n) → p x ≡ true
    by_group None x n h = absurd cc
    by_group (Some g) x n h = a.all g.0 x [] (whole_is (f.reads g.0) g.1 x n h)

any_passes : {A : Type 0} (f : Form A) → Passes (λ x. true) f
any_passes f = record { all = λ l x n h. refl }

first_true : (a : Bool) → (a && true) ≡ true → a ≡ true
first_true a h = let (i, j) = and_parts a true h in i

inner_passes : Passes attributes_inner inner_attributes
inner_passes = record { all = λ l xs n h. inner_attributes_inner xs l n h }

inside_body : Passes (λ (b : Body). attributes_inner b.inner) body_inside
unfolding body_inside
inside_body = shown_passes to_body from_body (both_passes inner_passes (any_passes all_left)) (λ x h. first_true (attributes_inner x.0) h)

body_passes : Passes (λ (b : Body). attributes_inner b.inner) body
unfolding body
body_passes = inside_passes _ inside_body

pub named_inner : (x : QPathTree × MacroEnd) → has_inner (to_named x) ≡ true
named_inner ((q, p), None) = refl
named_inner ((q, p), Some g) = refl

named_passes : Passes has_inner named
named_passes = shown_passes to_named from_named (any_passes (then_by (qpath type style.Expr) macro_end)) (λ x h. named_inner x)

leaf_passes : Passes has_inner leaf_form
unfolding leaf_form
leaf_passes =
    when_passes literal_at (shown_passes e.lit from_lit (any_passes unsigned) (λ x h. refl))
    (case_passes underscore (pure_passes e.infer is_infer refl)
    (when_passes range_at (shown_passes e.full_range from_full_range (any_passes range_op) (λ x h. refl))
    (when_passes jump_at (shown_passes e.bare_jump from_bare_jump (any_passes jump_head) (λ x h. refl))
    (case_passes continue_word (shown_passes e.continuing from_continuing (any_passes (maybe lifetime_at lifetime)) (λ x h. refl))
    (when_passes loop_at (shown_passes to_loop from_loop (both_passes (any_passes label) (mark_passes loop_word body_passes)) (λ x h. h))
    (when_passes block_at (shown_passes to_block from_block (both_passes (any_passes label) body_passes) (λ x h. h))
    (case_passes unsafe_word (shown_passes e.unsafe_block from_unsafe body_passes (λ x h. h))
    (when_passes const_block_at (mark_passes constant (shown_passes e.const_block from_const body_passes (λ x h. h)))
    (when_passes async_block_at (mark_passes async_word (shown_passes to_async from_async (any_passes (both (flag move_word) block)) (λ x h. refl)))
    (when_passes try_block_at (mark_passes try_word (shown_passes e.try_block from_try (any_passes block) (λ x h. refl)))
    (when_passes builtin_at (shown_passes e.verbatim from_verbatim (any_passes builtin) (λ x h. refl)) named_passes)))))))))))

pub leaf_inner : (l : List Tok) (k : Leaf) (n : List Tok) → leaf_form.reads l ≡ Some (k, n) → has_inner k ≡ true
leaf_inner = leaf_passes.all

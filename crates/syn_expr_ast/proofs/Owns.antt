-- The own tokens of each part of a node, in the order in which its printer puts them.
use Rattle.std.proofs.Common.{◌≡◌, List, [], ◌∷◌, ◌++◌, map, Option, Some, None, refl, ap, ◌∙◌, append_assoc}
use Rattle.std.proofs.lemmas.List.{append-nil}
use Rattle.std.proofs.lemmas.Simd.{map-map}
use Rattle.std.specs.Prelude.{codes, is_some}
use Rattle.syn_tokens.specs.Tok.{Tok}
use Rattle.syn_tokens.specs.Sign.{sign_toks}
use Rattle.syn_lower_spec.specs.Text.{Text}
use Rattle.syn_lower_spec.specs.Tree.{AttributeTree}
use Rattle.syn_lower_spec.specs.Pat.{MemberTree}
use Rattle.syn_lower_spec.specs.Own.{alone, before_if, before_some, comma_before, elements_own, lifetime_own, lifetimes_own, type_own, return_own, arguments_own, macro_own}
use Rattle.syn_lower_spec.specs.PatOwn.{attributes_own, member_own, pat_own}
use Rattle.syn_lower_spec.proofs.Appends.{lifetimes_own-append, arguments_append}
use Rattle.syn_lower_leaves.specs.View.{lifetime_of}
use Rattle.syn_lower_leaves.specs.declared.lifetime.Lifetime.{Lifetime}
use Rattle.syn_lower_leaves.specs.declared.punctuated.Punctuated.{Punctuated}
use Rattle.syn_lower_leaves.specs.declared.ty.BoundLifetimes.{BoundLifetimes}
use Rattle.syn_lower_leaves.specs.Printed.{option_printed, punctuated_printed, comma}
use Rattle.syn_lower_leaves.proofs.Owns.{Appends, listed_own-punctuated}
use Rattle.syn_lower_types.specs.Printed.{word, angle_printed, return_printed, macro_printed}
use Rattle.syn_lower_types.specs.declared.path.AngleBracketedGenericArgumentsOf.{AngleBracketedGenericArgumentsOf}
use Rattle.syn_lower_types.specs.declared.ty.ReturnTypeOf.{ReturnTypeOf}
use Rattle.syn_lower_types.specs.declared.mac.MacroOf.{MacroOf}
use Rattle.syn_lower_types.proofs.Prints.{angle_print, return_print, macro_print}
use Rattle.syn_lower.specs.View.{mapped, lifetimes_of, return_of, macro_of, type_of, values, trails, angle_of}
use Rattle.syn_lower.specs.declared.ty.«Type».{«Type»}
use Rattle.syn_expr_tokens.specs.View.{labeled_own, label_of}
use Rattle.syn_expr_tokens.specs.declared.modifiers.Label.{Label}
use Rattle.syn_pat.specs.View.{PatView}
use Rattle.syn_pat.proofs.Appends.{attributes_append, member_append, pat_append}
use Rattle.syn_expr_spec.specs.Tree.{word_if, label_own, sign_before, closure_own}
use Rattle.syn_expr_ast.specs.Node.{closure_of}
use Rattle.syn_expr_ast.specs.Pats.{trees}
use Rattle.syn_expr_ast.specs.View.{turbofish_of}
use Rattle.syn_expr_ast.specs.declared.node.Closure.{Closure}

abbrev pub colon : {S : Type 0} → S → List Tok
colon s = alone 58 ∷ []

abbrev pub type_toks : «Type» → List Tok
type_toks x = type_own (type_of x) []

-- ---- what is put after what was put

pub then : {now : List Tok} (before part more : List Tok) → now ≡ before ++ part → now ++ more ≡ before ++ (part ++ more)
then before part more h = ap (λ l. l ++ more) h ∙ append_assoc before part more

-- ---- what may be missing

pub lifetime_last : (o : Option Lifetime) → before_some (mapped lifetime_of o) lifetime_own [] ≡ option_printed (λ x. lifetime_own (lifetime_of x) []) o
unfolding option_printed
lifetime_last None = refl
lifetime_last (Some x) = refl

pub label_first : (o : Option Label) (r : List Tok) → label_own (mapped label_of o) r ≡ option_printed (λ x. labeled_own (label_of x) []) o ++ r
unfolding option_printed
label_first None r = refl
label_first (Some x) r = refl

pub word_first : {S : Type 0} (w : Text) (o : Option S) (r : List Tok) → word_if (is_some o) w r ≡ option_printed (word w) o ++ r
unfolding option_printed
word_first w None r = refl
word_first w (Some x) r = refl

pub word_last : {S : Type 0} (w : Text) (o : Option S) → word_if (is_some o) w [] ≡ option_printed (word w) o
unfolding option_printed
word_last w None = refl
word_last w (Some x) = refl

pub sign_last : (text : Text) → sign_before text [] ≡ sign_toks text
sign_last text = append-nil (sign_toks text)

lifetimes_first : (o : Option BoundLifetimes) (r : List Tok) → before_some (mapped lifetimes_of o) lifetimes_own r ≡ option_printed (λ x. lifetimes_own (lifetimes_of x) []) o ++ r
unfolding option_printed
lifetimes_first None r = refl
lifetimes_first (Some x) r = lifetimes_own-append (lifetimes_of x) r

pub turbofish_first : (o : Option (AngleBracketedGenericArgumentsOf «Type»)) (r : List Tok) → arguments_own (turbofish_of o) r ≡ option_printed (angle_printed type_toks) o ++ r
unfolding option_printed
turbofish_first None r = refl
turbofish_first (Some x) r = arguments_append (angle_of type_of x) r ∙ ap (λ l. l ++ r) (angle_print type_of x)

-- ---- parts that hold types and patterns

pub output_last : (x : ReturnTypeOf «Type») → return_own (return_of x) [] ≡ return_printed type_toks x
output_last x = return_print type_of x

pub macro_last : (x : MacroOf «Type») → macro_own (macro_of type_of x) [] ≡ macro_printed type_toks x
macro_last x = macro_print type_of x

-- ---- closures

pat_appends : Appends pat_own
pat_appends = record { before = pat_append }

module _ {P : Type 0} (pat : P → PatView) where
  inputs_first : {S : Type 0} (p : Punctuated P S) (r : List Tok) → elements_own pat_own comma_before (trees (map pat (values p))) (trails p) r ≡ punctuated_printed (λ x. pat_own (pat x).tree []) comma p ++ r
  inputs_first p r =
      ap (λ ps. elements_own pat_own comma_before ps (trails p) r) (map-map (λ v. v.tree) pat (values p))
      ∙ listed_own-punctuated pat_own comma_before (λ x. (pat x).tree) comma pat_appends (λ q m. refl) p r

  pub closure_is : (x : Closure P) → closure_own (closure_of pat x) []
      ≡ option_printed (λ l. lifetimes_own (lifetimes_of l) []) x.lifetimes.now ++ (option_printed (word (codes "const")) x.constness.now
      ++ (option_printed (word (codes "static")) x.modifiers.now.static_token
      ++ (option_printed (word (codes "async")) x.asyncness.now ++ (option_printed (word (codes "move")) x.capture.now
      ++ (option_printed (word (codes "use")) x.modifiers.now.use_token
      ++ (alone 124 ∷ (punctuated_printed (λ p. pat_own (pat p).tree []) comma x.inputs.now ++ alone 124 ∷ return_printed type_toks x.output.now)))))))
  closure_is x =
      lifetimes_first x.lifetimes.now _ ∙ ap (λ l. option_printed (λ l. lifetimes_own (lifetimes_of l) []) x.lifetimes.now ++ l) (
      word_first (codes "const") x.constness.now _ ∙ ap (λ l. option_printed (word (codes "const")) x.constness.now ++ l) (
      word_first (codes "static") x.modifiers.now.static_token _ ∙ ap (λ l. option_printed (word (codes "static")) x.modifiers.now.static_token ++ l) (
      word_first (codes "async") x.asyncness.now _ ∙ ap (λ l. option_printed (word (codes "async")) x.asyncness.now ++ l) (
      word_first (codes "move") x.capture.now _ ∙ ap (λ l. option_printed (word (codes "move")) x.capture.now ++ l) (
      word_first (codes "use") x.modifiers.now.use_token _ ∙ ap (λ l. option_printed (word (codes "use")) x.modifiers.now.use_token ++ alone 124 ∷ l) (
      inputs_first x.inputs.now _ ∙ ap (λ l. punctuated_printed (λ p. pat_own (pat p).tree []) comma x.inputs.now ++ alone 124 ∷ l) (output_last x.output.now)))))))

-- ---- fields

colon_last : {S : Type 0} (o : Option S) → before_if (is_some o) (λ l. alone 58 ∷ l) [] ≡ option_printed colon o
unfolding option_printed
colon_last None = refl
colon_last (Some x) = refl

pub field_is : {S : Type 0} (ats : List AttributeTree) (m : MemberTree) (o : Option S)
    → attributes_own ats (member_own m (before_if (is_some o) (λ l. alone 58 ∷ l) [])) ≡ attributes_own ats [] ++ (member_own m [] ++ option_printed colon o)
field_is ats m o = attributes_append ats _ ∙ ap (λ l. attributes_own ats [] ++ l) (member_append m _ ∙ ap (λ l. member_own m [] ++ l) (colon_last o))

pub ruleset fields = (field_is)

pub ruleset owns = (append-nil, lifetime_last, label_first, word_first, word_last, sign_last, turbofish_first, output_last, macro_last, pat_append, closure_is)

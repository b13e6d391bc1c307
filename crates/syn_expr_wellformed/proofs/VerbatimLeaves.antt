-- Leaves in a certain form, by what is lent of a node without attributes.
use Rattle.std.proofs.Common.{◌≡◌, false, Some, None, refl, ap, ◌∙◌}
use Rattle.syn_lower_spec.specs.Text.{Text}
use Rattle.syn_lower_spec.specs.Pat.{a_name}
use Rattle.syn_expr_spec.specs.Tree as e
use Rattle.syn_expr_spec.specs.Tree.{Tree, Leaf, leaf, paren, attributed, prefixed, infixed, postfixed, tail, frame}
use Rattle.syn_expr_spec.specs.WellFormed.{is_verbatim_leaf, is_verbatim_block, is_name_path}
use Rattle.syn_expr_wellformed.specs.Well.{bare_leaf}
use Rattle.syn_expr_wellformed.specs.Walk.{verbatim_by, is_word_leaf, named_by}

verbatim_is : (t : Tree) → is_verbatim_block t ≡ verbatim_by (bare_leaf t)
verbatim_is (leaf k) = refl
verbatim_is (paren m t) = refl
verbatim_is (attributed a more t) = refl
verbatim_is (prefixed k gs t) = refl
verbatim_is (infixed x k y) = refl
verbatim_is (postfixed x k) = refl
verbatim_is (tail b k ks) = refl
verbatim_is (frame k ks) = refl

pub verbatim-some : (t : Tree) (k : Leaf) → bare_leaf t ≡ Some k → is_verbatim_block t ≡ is_verbatim_leaf k
verbatim-some t k h = verbatim_is t ∙ ap verbatim_by h

pub verbatim-none : (t : Tree) → bare_leaf t ≡ None → is_verbatim_block t ≡ false
verbatim-none t h = verbatim_is t ∙ ap verbatim_by h

pub ruleset blocks = (verbatim-some, verbatim-none)

word_is : (w : Text) (k : Leaf) → is_name_path (a_name w) (leaf k) ≡ is_word_leaf w k
word_is w (e.lit x) = refl
word_is w t = refl

named_is : (w : Text) (t : Tree) → is_name_path (a_name w) t ≡ named_by w (bare_leaf t)
named_is w (leaf k) = word_is w k
named_is w (paren m t) = refl
named_is w (attributed a more t) = refl
named_is w (prefixed k gs t) = refl
named_is w (infixed x k y) = refl
named_is w (postfixed x k) = refl
named_is w (tail b k ks) = refl
named_is w (frame k ks) = refl

pub name-some : (w : Text) (t : Tree) (k : Leaf) → bare_leaf t ≡ Some k → is_name_path (a_name w) t ≡ is_word_leaf w k
name-some w t k h = named_is w t ∙ ap (named_by w) h

pub name-none : (w : Text) (t : Tree) → bare_leaf t ≡ None → is_name_path (a_name w) t ≡ false
name-none w t h = named_is w t ∙ ap (named_by w) h

pub ruleset names = (name-some, name-none)

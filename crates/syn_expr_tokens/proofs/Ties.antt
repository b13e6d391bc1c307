-- The equality of members, indices, labels and modifiers.
use Rattle.std.proofs.Common.{◌≡◌, ◌↔◌, ℕ, true, ap}
use Rattle.syn_lower_spec.specs.Text.{Text}
use Rattle.syn_lower_spec.specs.Pat.{MemberTree, a_name, an_index}
use Rattle.syn_lower_spec.specs.Equal.{IsEqualityOf}
use Rattle.syn_lower_leaves.proofs.Ties.{and_true_tie, both_tie, on_tie, some_tie, text_tie, number_tie}
use Rattle.syn_lower_leaves.proofs.LeafTies.{lifetime_tie}
use Rattle.syn_expr_tokens.specs.View.{member_of, label_of, modifiers_of}
use Rattle.syn_expr_tokens.specs.declared.modifiers.Label.{Label}
use Rattle.syn_expr_tokens.specs.declared.member.Index.{Index}
use Rattle.syn_expr_tokens.specs.declared.member.Member.{Member}
use Rattle.syn_expr_tokens.specs.declared.member.Member.TheVariants as member
use Rattle.syn_expr_tokens.specs.declared.modifiers.ClosureModifiers.{ClosureModifiers}
use Rattle.syn_expr_tokens.specs.contracts.member.IndexPartialEq.TheImpl as index_eq
use Rattle.syn_expr_tokens.specs.contracts.member.MemberPartialEq.TheImpl as member_eq
use Rattle.syn_expr_tokens.specs.contracts.modifiers.LabelPartialEq.TheImpl as label_eq
use Rattle.syn_expr_tokens.specs.contracts.modifiers.ClosureModifiersPartialEq.TheImpl as modifiers_eq

pub index_tie : IsEqualityOf (λ (x : Index). x.index) index_eq.ghosts.eq
index_tie = on_tie {C = Index} (λ x. x.index) number_tie

name_of : MemberTree → Text → Text
name_of (a_name w) other = w
name_of (an_index n) other = other

number_of : MemberTree → ℕ → ℕ
number_of (an_index n) other = n
number_of (a_name w) other = other

pub member_tie : IsEqualityOf member_of member_eq.ghosts.eq
unfolding name_of number_of
member_tie = record { same = go }
  where
    go : (x y : Member) → (member_eq.ghosts.eq x y ≡ true) ↔ (member_of x ≡ member_of y)
    go (member.Named x) (member.Named y) = (λ h. ap a_name ((text_tie.same x y).0 h), λ e. (text_tie.same x y).1 (ap (λ t. name_of t x) e))
    go (member.Unnamed x) (member.Unnamed y) = (λ h. ap an_index ((index_tie.same x y).0 h), λ e. (index_tie.same x y).1 (ap (λ t. number_of t x.index) e))
    go _ _ = (λ h. absurd cc, λ e. absurd cc)

pub label_tie : IsEqualityOf label_of label_eq.ghosts.eq
label_tie = and_true_tie (on_tie {C = Label} (λ x. x.name) lifetime_tie)

pub modifiers_tie : IsEqualityOf modifiers_of modifiers_eq.ghosts.eq
modifiers_tie = both_tie (on_tie {C = ClosureModifiers} (λ x. x.static_token) some_tie) (on_tie {C = ClosureModifiers} (λ x. x.use_token) some_tie)

pub ruleset ties = (index_tie, member_tie, label_tie, modifiers_tie)

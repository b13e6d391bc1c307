-- Leaves that no invisible group begins: where none comes first, they are all leaves; where one does, there is none.
use Rattle.std.proofs.Common.{◌≡◌, true, false, List, ◌∷◌, None, refl, sym, subst}
use Rattle.syn_lexer.specs.declared.front.Delimiter.TheVariants as del
use Rattle.syn_tokens.specs.Tok.{Tok, Inside, group}
use Rattle.syn_tokens.specs.Front.{group_at}
use Rattle.syn_lower_spec.specs.Mark.{sign_at, word_at, lifetime_at, brace_at}
use Rattle.syn_lower_spec.specs.Part.{qpath, path, pieces, segment, segment_name}
use Rattle.syn_expr_spec.specs.Path.{invisible_at}
use Rattle.syn_expr_spec.specs.Head.{named, leaf_form, range_at, jump_at}
use Rattle.syn_expr_spec.proofs.GroupForms.{invisible_is, plain_read}
use Rattle.syn_expr_heads.specs.View as closed
use Rattle.syn_expr_spec.proofs.HeadForms.{leaf_tests}

named_is : (l : List Tok) → invisible_at l ≡ false → named.reads l ≡ closed.named.reads l
unfolding named
named_is l v = rw (plain_read false l v) refl

pub form_is : (l : List Tok) → invisible_at l ≡ false → leaf_form.reads l ≡ closed.leaf_form.reads l
unfolding leaf_form closed.leaf_form
form_is l v = rw (named_is l v) refl

group_closed : (i : Inside) (m : List Tok) → closed.leaf_form.reads (group del.None i ∷ m) ≡ None
unfolding closed.leaf_form qpath path pieces segment segment_name range_at jump_at sign_at word_at lifetime_at group_at leaf_tests brace_at
group_closed i m = refl

pub none_closed : (l : List Tok) → invisible_at l ≡ true → closed.leaf_form.reads l ≡ None
none_closed l v = let (i, m, e) = invisible_is l v in subst (λ z. closed.leaf_form.reads z ≡ None) (sym e) (group_closed i m)

-- A leaf that its first token tells is one that no invisible group begins.
use Rattle.std.proofs.Common.{◌≡◌, Bool, true, false, List, refl}
use Rattle.syn_tokens.specs.Tok.{Tok}
use Rattle.syn_expr_spec.specs.declared.kinds.Place.{Place}
use Rattle.syn_expr_spec.specs.Path.{invisible_at}
use Rattle.syn_expr_spec.specs.Head.{leaf_at}
use Rattle.syn_expr_spec.specs.Read.{leaf_read}
use Rattle.syn_expr_spec.proofs.NameFronts.{group_no_leaf}
use Rattle.syn_expr_heads.proofs.Closed.{form_is}
use Rattle.syn_expr_parse.specs.Led.{closed_leaf}

visible_leaf : (l : List Tok) → leaf_at l ≡ true → invisible_at l ≡ false
visible_leaf l h = by_test (invisible_at l) refl
  where
    by_test : (b : Bool) → invisible_at l ≡ b → b ≡ false
    by_test false v = refl
    by_test true v = let g = group_no_leaf l v in absurd (cc (h, g))

pub closed_leaf_is : (p : Place) (l : List Tok) → leaf_at l ≡ true → leaf_read p l ≡ closed_leaf p l
unfolding leaf_read closed_leaf
closed_leaf_is p l h = rw (form_is l (visible_leaf l h)) refl

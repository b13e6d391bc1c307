-- What stands for tokens has outer attributes alone before its parentheses.
use Rattle.std.proofs.Common.{◌≡◌, ℕ, true, false, List, [], ◌∷◌, Some, sym, subst}
use Rattle.syn_tokens.specs.Tok.{Tok}
use Rattle.syn_lower_spec.specs.Pat.{an_index, a_name}
use Rattle.syn_lower_spec.specs.Tree.{AttributeTree}
use Rattle.syn_lower_spec.specs.PatFits.{attributes_outer}
use Rattle.syn_expr_spec.specs.declared.kinds.Place.{Place}
use Rattle.syn_expr_spec.specs.Slot.{Slot, Holder}
use Rattle.syn_expr_spec.specs.Stands.{Node, is_leaf, is_become, is_attributed_verbatim, is_paren, is_attributed_by, is_prefixed, is_infixed, is_postfixed, is_tail, is_indexed, is_frame, Content, holds_none, holds_within, holds_bare, Operands, no_more, one_more, short, block, arms_inside, fields_of, short_value, path_of, Stands}
use Rattle.syn_expr_spec.specs.Tree as e
use Rattle.syn_expr_spec.specs.Tree.{Tree, Children, Piece, paren, tail, none}
use Rattle.syn_expr_ast.proofs.Outers.{outer_behind}
use Rattle.syn_expr_flatten.specs.Outer.{AreOuter, HasOuterParens, HaveOuterParens}

pub before_any : (ats : List AttributeTree) (t : Tree) → attributes_outer ats ≡ true → AreOuter ats t
before_any ats (paren m t) h = h
before_any ats _ h = tt

-- ---- what is

fields_outer : (is : List ℕ) (b : Tree) → HasOuterParens b → HasOuterParens (fields_of b is)
fields_outer [] b h = h
fields_outer (i ∷ is) b h = fields_outer is (tail b (e.field (an_index i)) none) (h, tt)

short_outer : (k : Piece) (x : Tree) → short_value k ≡ Some x → HasOuterParens x
short_outer (e.field_value ats (a_name w) false) x h = let q : path_of w ≡ x = cc in subst HasOuterParens q tt
short_outer (e.field_value ats (a_name w) true) x h = absurd cc
short_outer (e.field_value ats (an_index i) b) x h = absurd cc
short_outer _ x h = absurd cc

mutual
  node_outer : {p : Place} {l n : List Tok} {x : Tree} → Node p l x n → HasOuterParens x
  node_outer (is_leaf f g) = tt
  node_outer (is_become w d q r o) = tt
  node_outer (is_attributed_verbatim z others fs f d q r) = tt
  node_outer (is_paren d q r) = node_outer d
  node_outer (is_attributed_by {l = l} {m = m} {a = a} {more = others} {x = x} f g d) = (before_any (a ∷ others) x (outer_behind (a ∷ others) l m f), node_outer d)
  node_outer (is_prefixed f g d q r) = (tt, node_outer d)
  node_outer (is_infixed d q r i t o d2 u v w) = (node_outer d, node_outer d2)
  node_outer (is_postfixed d q r i t u o w) = node_outer d
  node_outer (is_tail {b = b} {is = is} d f t o q) = (subst HasOuterParens (sym q) (fields_outer is b (node_outer d)), content_outer o)
  node_outer (is_indexed {b = b} {i = i} {is = is} d f t q) = subst HasOuterParens (sym q) (fields_outer (i ∷ is) b (node_outer d))
  node_outer (is_frame f o g e) = content_outer o

  content_outer : {h : Holder} {l n : List Tok} {ks : Children} → Content h l ks n → HaveOuterParens ks
  content_outer holds_none = tt
  content_outer (holds_within g o q) = operands_outer o
  content_outer (holds_bare o) = operands_outer o

  pub operands_outer : {s : Slot} {l o : List Tok} {ks : Children} → Operands s l ks o → HaveOuterParens ks
  operands_outer (no_more q) = tt
  operands_outer (one_more f g d q t others) = (node_outer d, operands_outer others)
  operands_outer (short {k = k} {x = x} f g t others) = (short_outer k x g, operands_outer others)
  operands_outer (block f g t others) = (tt, operands_outer others)
  operands_outer (arms_inside d q r g u others) = (node_outer d, operands_outer others)

pub stands_outer : (p : Place) (l : List Tok) (t : Tree) (r : List Tok) → Stands p l t r → HasOuterParens t
stands_outer p l t r s = node_outer s.node

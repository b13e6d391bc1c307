-- Trees in which parentheses have outer attributes alone, as all that are read have: parentheses have no braces in which an
-- inner one could stand.
use Rattle.std.specs.Prelude.{◌≡◌, ⊤, true, List, ◌∷◌}
use Rattle.syn_lower_spec.specs.Tree.{AttributeTree}
use Rattle.syn_lower_spec.specs.PatFits.{attributes_outer}
use Rattle.syn_expr_spec.specs.Tree.{Tree, Children, leaf, paren, attributed, prefixed, infixed, postfixed, tail, frame, none, child}

-- attributes before a tree
abbrev pub AreOuter : List AttributeTree → Tree → Type 0
AreOuter ats (paren m t) = attributes_outer ats ≡ true
AreOuter ats _ = ⊤

abbrev mutual
  pub HasOuterParens : Tree → Type 0
  HasOuterParens (leaf k) = ⊤
  HasOuterParens (paren m t) = HasOuterParens t
  HasOuterParens (attributed a more t) = AreOuter (a ∷ more) t × HasOuterParens t
  HasOuterParens (prefixed k gs t) = HaveOuterParens gs × HasOuterParens t
  HasOuterParens (infixed x k y) = HasOuterParens x × HasOuterParens y
  HasOuterParens (postfixed x k) = HasOuterParens x
  HasOuterParens (tail b k ks) = HasOuterParens b × HaveOuterParens ks
  HasOuterParens (frame k ks) = HaveOuterParens ks

  pub HaveOuterParens : Children → Type 0
  HaveOuterParens none = ⊤
  HaveOuterParens (child k c t ks) = HasOuterParens t × HaveOuterParens ks

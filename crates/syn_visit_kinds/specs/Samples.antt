-- The nodes of a few trees, and what they are rewritten to.
use Rattle.std.specs.Prelude.{◌≡◌, false, [], ◌∷◌, None}
use Rattle.syn_lower_spec.specs.Tree.{AttributeTree}
use Rattle.syn_lower_spec.specs.Pat.{PatTree}
use Rattle.syn_expr_spec.specs.declared.kinds.Infix.TheVariants as inf
use Rattle.syn_expr_spec.specs.Tree as e
use Rattle.syn_expr_spec.specs.Tree.{Tree, leaf, paren, attributed, prefixed, infixed, tail, frame, none, child}
use Rattle.syn_visit_kinds.specs.Nodes.{all_nodes, operands_in, rewrite_tree}

-- `_`, `return`, `continue`
abbrev pub infer : Tree
infer = leaf e.infer

abbrev pub leave : Tree
leave = leaf (e.bare_jump e.returning)

abbrev pub again : Tree
again = leaf (e.continuing None)

-- `match _ { p if return => continue, }`
abbrev pub match_expr : PatTree → Tree
match_expr p = frame e.match_expr (child e.scrutinee (e.opened []) infer (child (e.guard [] p) e.no_ending leave (child e.guarded e.comma again none)))

-- `continue` in place of `return`, and no parentheses round what is
abbrev pub step : Tree → Tree
step (leaf (e.bare_jump e.returning)) = again
step (paren m t) = t
step t = t

pub record Samples : Type 0 where
  -- `(_ = return)?`
  pub nodes :
      all_nodes (tail (paren false (infixed infer inf.Assign leave)) e.try_expr none)
      ≡ tail (paren false (infixed infer inf.Assign leave)) e.try_expr none ∷ paren false (infixed infer inf.Assign leave) ∷ infixed infer inf.Assign leave ∷ infer ∷ leave ∷ []
  -- `#[a] return continue`: an attribute is a part of its node
  pub attributes : (a : AttributeTree) → all_nodes (attributed a [] (prefixed (e.jump e.returning) none again)) ≡ attributed a [] (prefixed (e.jump e.returning) none again) ∷ again ∷ []
  -- the guard of an arm is a node
  pub guards : (p : PatTree) → all_nodes (match_expr p) ≡ match_expr p ∷ infer ∷ leave ∷ again ∷ []
  pub operands : (p : PatTree) → operands_in (match_expr p) ≡ infer ∷ leave ∷ again ∷ []
  -- `((return))` to `continue`: those inside first
  pub inside_first : rewrite_tree step (paren false (paren false leave)) ≡ again
  -- `#[a] _[(return)]` to `#[a] _[continue]`
  pub rewritten : (a : AttributeTree) →
      rewrite_tree step (attributed a [] (tail infer e.index (child e.value e.no_ending (paren false leave) none)))
      ≡ attributed a [] (tail infer e.index (child e.value e.no_ending again none))

-- What is read after what comes before an operand, by what that is.
use Rattle.std.specs.Prelude.{if◌then◌else◌, Some}
use Rattle.syn_lower_spec.specs.Form.{and_then}
use Rattle.syn_lexer.specs.declared.front.Delimiter.TheVariants as del
use Rattle.syn_tokens.specs.Front.{group_at}
use Rattle.syn_expr_spec.specs.declared.kinds.Place.{Place}
use Rattle.syn_expr_spec.specs.Tree as e
use Rattle.syn_expr_spec.specs.Tree.{Tree, Prefix, Leaf, ClosureHead, prefixed, none, plain_block}
use Rattle.syn_expr_spec.specs.Stands.{prefix_stands, prefix_place}
use Rattle.syn_expr_spec.specs.Read.{Reading, ◌>>=◌, ◌<$>◌, expr, standing, framed_by}
use Rattle.syn_expr_heads.specs.View.{leaf_form as closed_form}

-- a leaf that no invisible group begins, where it is
unfoldable pub closed_leaf : Place → Reading Tree
closed_leaf p = closed_form.reads >>= standing p

-- its operand
abbrev pub behind : Place → Prefix → Reading Tree
behind p k = prefixed k none <$> expr (prefix_place p k)

-- its operand, or nothing, where it is a leaf without one
abbrev pub behind_or : Place → Prefix → Leaf → Reading Tree
behind_or p k x m = if prefix_stands p k m then behind p k m else standing p x m

-- the body of a closure: an operand, or after an output a block
abbrev pub body_of : Place → ClosureHead → Reading Tree
body_of p h m = if prefix_stands p (e.closure h) m then behind p (e.closure h) m else framed_by expr p (e.closure_block h) m

-- a block that keeps its tokens
abbrev pub block : Reading Tree
block l = and_then (group_at del.Brace l) (λ i n. Some (plain_block i, n))

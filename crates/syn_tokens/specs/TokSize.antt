-- A token tree is smaller than the stream that holds it.
use Rattle.std.specs.Prelude.{ℕ, ◌≤◌, max, List, [], ◌∷◌}
use Rattle.std.proofs.Common.{arith}
use denote.Param.Weighed.{most}
use Rattle.syn_tokens.specs.Tok.{weight, token_weight, inside_weight-inside}
use Rattle.syn_tokens.specs.View.{tok_of, toks_of}
use Rattle.syn_tokens.specs.declared.tree.TokenTree.{TokenTree}
use Rattle.syn_tokens.specs.declared.tree.TokenTree.TheVariants.{Group, Ident, Punct, Literal}
use Rattle.syn_tokens.specs.declared.tree.TokenStream.TheDeep.{deep-TokenTree}

pub deep_le-weight : (t : TokenTree) → deep-TokenTree t ≤ token_weight (tok_of t)
deep_le-weight (Group g) = omega (arith, inside_weight-inside g.stream)
deep_le-weight (Ident i) = omega arith
deep_le-weight (Punct p) = omega arith
deep_le-weight (Literal l) = omega arith

pub most_le-weight : (ts : List TokenTree) → most deep-TokenTree ts ≤ weight (toks_of ts)
unfolding weight
most_le-weight [] = omega arith
most_le-weight (t ∷ ts) = omega (arith, deep_le-weight t, most_le-weight ts)

pub max_zero-le : (m n : ℕ) → m ≤ n → max m 0 ≤ n
max_zero-le m n h = omega arith

-- Whether a node is a block without a label and attributes, and what is printed of the body of a closure with an output.
use Rattle.std.specs.Prelude.{◌&&◌, if◌then◌else◌, Some, None}
use Rattle.std.proofs.Common.{◌≡◌, Bool, true, false, refl, sym, ap, ◌∙◌}
use Rattle.std.proofs.Math.Bool.{and-false, and-true}
use Rattle.syn_expr_spec.specs.declared.summary.Sort.{Sort}
use Rattle.syn_expr_spec.specs.declared.summary.Sort.TheVariants as sort
use Rattle.syn_expr_spec.specs.Summaries.{summary_of, leaf_sort, attributed_sort}
use Rattle.syn_expr_spec.specs.Rule.{is_plain_leaf, is_plain_block}
use Rattle.syn_expr_spec.specs.Tree as e
use Rattle.syn_expr_spec.specs.Tree.{Tree, Leaf, leaf, paren, attributed, prefixed, infixed, postfixed, tail, frame}
use Rattle.syn_expr_ast.specs.Node.{leaf_at}
use Rattle.syn_expr_print.specs.Placed.{is_block_sort, is_block, is_block_kind}
use Rattle.syn_expr_print.proofs.Braced.{output-plain, output-braced}
use Rattle.syn_expr_ast.specs.Label.{kind_at}

plain-sort : (k : Leaf) → is_plain_leaf k ≡ is_plain_leaf k && is_block_sort (leaf_sort k)
plain-sort (e.block None b) = sym (and-true (is_plain_leaf (e.block None b)))
plain-sort t = refl

-- after attributes a node's summary says of no block
behind-sort : (b : Bool) (s : Sort) → is_block_sort (if b then sort.Other else attributed_sort s) ≡ false
behind-sort true s = refl
behind-sort false sort.Block = refl
behind-sort false sort.BlockLike = refl
behind-sort false sort.BracedMacro = refl
behind-sort false sort.Let = refl
behind-sort false sort.Struct = refl
behind-sort false sort.Other = refl

pub plain-is : (t : Tree) (k : Leaf) → leaf_at t ≡ Some k → is_plain_block t ≡ is_plain_leaf k && is_block_sort (summary_of t).sort
plain-is (leaf j) k h = let i : j ≡ k = cc in ap (λ z. is_plain_leaf z) i ∙ plain-sort k ∙ ap (λ z. is_plain_leaf k && is_block_sort (leaf_sort z)) (sym i)
plain-is (attributed a more t) k h = sym (and-false (is_plain_leaf k)) ∙ ap (λ b. is_plain_leaf k && b) (sym (behind-sort (summary_of t).operation (summary_of t).sort))
plain-is (paren m t) k h = absurd cc
plain-is (prefixed j gs t) k h = absurd cc
plain-is (infixed x j y) k h = absurd cc
plain-is (postfixed x j) k h = absurd cc
plain-is (tail b j ks) k h = absurd cc
plain-is (frame j ks) k h = absurd cc

pub never-plain : (t : Tree) → leaf_at t ≡ None → is_plain_block t ≡ false
never-plain (leaf k) h = absurd cc
never-plain (attributed a more t) h = refl
never-plain (paren m t) h = refl
never-plain (prefixed k gs t) h = refl
never-plain (infixed x k y) h = refl
never-plain (postfixed x k) h = refl
never-plain (tail b k ks) h = refl
never-plain (frame k ks) h = refl

pub ruleset plains = (plain-is, never-plain)

pub ruleset outputs = (output-plain, output-braced)

-- ---- an expression is a block by its kind

pub block-kind : (t : Tree) → is_block t ≡ is_block_kind (kind_at t)
block-kind (e.leaf (e.lit x)) = refl
block-kind (e.leaf (e.bare_jump e.returning)) = refl
block-kind (e.attributed a more t) = block-kind t
block-kind t = refl

pub ruleset blocks = (block-kind)

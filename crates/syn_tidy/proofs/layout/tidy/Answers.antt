-- What was written from its end is a layout.
use Rattle.std.proofs.Common.{◌≡◌, [], string_bytes, encode_utf8_all, subst}
use Rattle.std.specs.Prelude.{reverse}
use Rattle.syn_tokens.specs.Tok.{inside}
use Rattle.syn_tokens.specs.View.{toks_of}
use Rattle.syn_tidy.specs.Layout.{IsList}
use Rattle.syn_tidy.proofs.Read.{laid}
use Rattle.syn_tidy.proofs.layout.tidy.Goals as goal

pub returns-clause-layout : goal.returns-clause-layout
returns-clause-layout c =
    let out = reverse c.lay_trees.new.out.items in
    let bytes : string_bytes c.in_ok-text.text ≡ encode_utf8_all out = cc (c.in_ok-text.ensures.value, c.as_slice.ensures.value) in
    let all : toks_of c.trees.result.now ≡ c.args.tokens.now = cc in
    let none : c.new-out.result.items ≡ [] = cc in
    let list = subst (λ y. IsList (inside (toks_of c.trees.result.now)) (reverse y) out) none c.in_ok-lay_trees.ensures.list in
    laid c.in_ok-text.text c.args.tokens.now out bytes (subst (λ ts. IsList (inside ts) [] out) all list)

-- Trees are written from the last one on.
use Rattle.std.proofs.Common.{rules, arith, ◌≡◌, ◌++◌, ◌-◌, ◌≤◌, List, length, take, OnOk, Ok, Err, subst, sym}
use Rattle.std.specs.Prelude.{Result, reverse}
use Rattle.std.proofs.lemmas.List.{length-take-le}
use Rattle.syn_lexer.specs.Text.{Text}
use Rattle.syn_lexer.specs.declared.front.Delimiter.{Delimiter}
use Rattle.syn_tokens.specs.Tok.{Tok, group, inside, weight, token_weight}
use Rattle.syn_tokens.specs.Text.{opening, closing}
use Rattle.syn_tokens.specs.View.{tok_of, toks_of}
use Rattle.syn_tidy.specs.Layout.{IsSpaced, IsTree, IsList}
use Rattle.syn_tidy.proofs.Gaps.{none_laid, one_lighter, one_laid_more, group_is}
use Rattle.syn_tidy.proofs.layout.+lay.Goals as goal

group_on : {A E : Type 0} (r : Result A E) (d : Delimiter) (ts : List Tok) (y a b c e z : Text)
    → a ≡ closing d ++ y → IsSpaced a b → IsList (inside ts) b c → IsSpaced c e → OnOk r (z ≡ opening d ++ e) → OnOk r (IsTree (group d (inside ts)) y z)
group_on (Ok x) d ts y a b c e z closed before list behind opened = group_is d (inside ts) y a b c e z closed before list behind opened
group_on (Err x) d ts y a b c e z closed before list behind opened = opened

pub lay_tree-returns-in_ok-lay_margin-in-Group-2-clause-tree : goal.lay_tree-returns-in_ok-lay_margin-in-Group-2-clause-tree
lay_tree-returns-in_ok-lay_margin-in-Group-2-clause-tree t c =
    let d = c.in-Group.group.delimiter in
    let ts = c.in-Group.group.stream in
    let r = c.lay_chars-in-Group-2.result in
    let y = reverse c.args.out.now.items in
    let a = reverse c.lay_chars-in-Group.new.out.items in
    let b = reverse c.lay_margin.new.out.items in
    let u = reverse c.lay_trees.new.out.items in
    let v = reverse c.lay_margin-in-Group.new.out.items in
    let z = reverse c.lay_chars-in-Group-2.new.out.items in
    let closed : a ≡ closing d ++ y = cc (c.in_ok-lay_chars-in-Group.ensures.value, c.closing.ensures) in
    let list : IsList (inside ts) b u = subst (λ us. IsList (inside us) b u) c.trees-trees.ensures c.in_ok-lay_trees-in-Group.ensures.list in
    let opened : OnOk r (z ≡ opening d ++ v) = subst (λ o. OnOk r (z ≡ o ++ v)) c.opening.ensures c.lay_chars-in-Group-2.ensures.value in
    let all : OnOk r (IsTree (group d (inside ts)) y z) =
    group_on r d ts y a b u v z closed c.in_ok-lay_margin-in-Group.ensures.spaced list c.in_ok-lay_margin-in-Group-2.ensures.spaced opened in
    subst (λ x. OnOk r (IsTree (tok_of x) y z)) (sym c.in-Group.is) all

pub lay_trees-lay_tree-requires : goal.lay_trees-lay_tree-requires
lay_trees-lay_tree-requires t c =
    let l = c.loop-rest.invariant.laid in
    let h : token_weight (tok_of c.tree-item.result) ≤ weight (toks_of c.args.trees.now) =
    one_lighter c.loop-rest.rest.now c.tree-item.result l.0 (toks_of c.args.trees.now) c.in-len1-up.len_at_least c.tree-item.is l.1 in
    search rules

pub lay_trees-loop-rest-init : goal.lay_trees-loop-rest-init
lay_trees-loop-rest-init t c = record {
  laid = none_laid c.args.trees.now (reverse c.args.out.now.items);
  shorter = search rules;
}

pub lay_trees-loop-rest-preserved : goal.lay_trees-loop-rest-preserved
lay_trees-loop-rest-preserved t c =
    let xs = c.loop-rest.rest.now in
    let fewer : length (take (length xs - 1) xs) ≡ length xs - 1 = length-take-le (length xs - 1) xs (omega arith) in
    record {
      laid = one_laid_more xs c.tree-item.result _ _ _ _ _ c.in-len1-up.len_at_least c.tree-item.is c.loop-rest.invariant.laid
          c.in_ok-lay_gap.ensures.gap c.in_ok-lay_tree.ensures.tree;
      shorter = omega (arith, fewer, c.loop-rest.invariant.shorter);
    }

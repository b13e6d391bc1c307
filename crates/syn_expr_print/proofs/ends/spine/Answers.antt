-- Down first operands, and up what comes after them.
use Rattle.std.proofs.Common.{◌≡◌, true, ◌∷◌, [], ◌++◌, refl, subst, sym, ap, ◌∙◌, arith, rules}
use Rattle.std.proofs.lemmas.List.{append-nil}
use Rattle.syn_tokens.proofs.Fronts.{front_same, front_through}
use Rattle.syn_expr_spec.specs.Summaries.{below}
use Rattle.syn_expr_spec.specs.Tree.{size}
use Rattle.syn_expr_fixup.specs.Spine.{behind_below}
use Rattle.syn_expr_ast.specs.Node.{operands_at}
use Rattle.syn_expr_ast.proofs.Sizes.{first-smaller}
use Rattle.syn_expr_print.specs.Printing.{EndsWith, core, spelled}
use Rattle.syn_expr_print.specs.Spine.{Over, behinds, first_wrapped, is_next, lefts}
use Rattle.syn_expr_print.specs.Taken.{Going}
use Rattle.syn_expr_print.proofs.Spines.{first_left, first_going, down_text, down_summaries, last_text, lefts_more, next_bare, next_begins, next_core, over_more, over_last, up_text, up_summaries}
use Rattle.syn_expr_print.proofs.Stacks.{ends_back}
use Rattle.syn_expr_print.proofs.Turns.{going-end, going-left, going-on, going-start}
use Rattle.syn_expr_print.proofs.ends.spine.Goals as goal

pub take_summary-summary-requires : goal.take_summary-summary-requires
take_summary-summary-requires g c =
    let tree = g.E.HasExprTree.tree in
    first_left c.down.summaries (lefts tree c.down.over.items) (tree c.down.x.now) (tree c.first_operand-first.result.now) c.first_operand-first.ensures (going-left _ _ _ _ c.requires.stacked c.down.invariant.going)

pub inside-requires-clause-callable : goal.inside-requires-clause-callable
inside-requires-clause-callable g c =
    let s = first-smaller (g.E.HasExprTree.tree c.down.x.now) (g.E.HasExprTree.tree c.first_operand-first.result.now) c.first_operand-first.ensures in
    let m = c.down.invariant.smaller in
    λ out summaries x d l e. c.requires.callable out summaries x d (omega arith) e

pub behind_first-requires-clause-callable : goal.behind_first-requires-clause-callable
behind_first-requires-clause-callable g c =
    let m = c.down.invariant.smaller in
    λ out summaries x d l e. c.requires.callable out summaries x d (omega arith) e

pub behind_first-requires-clause-stacked : goal.behind_first-requires-clause-stacked
behind_first-requires-clause-stacked g c =
    let tree = g.E.HasExprTree.tree in
    let t = tree c.down.x.now in
    let u = tree c.first_operand-first.result.now in
    let next = lefts tree c.down.over.items in
    let b = behind_below (operands_at t) in
    let summarized = first_going _ _ c.take_summary-summary.new.summaries _ next t u c.first_operand-first.ensures c.down.invariant.going c.take_summary-summary.ensures.taken in
    let first = going-on _ _ c.inside.new.summaries _ (next ++ b) (below u) summarized c.in_ok-inside.ensures.taken in
    ends_back _ next b (going-left _ _ _ _ c.requires.stacked first)

pub down-init : goal.down-init
down-init g c =
    record {
      text = search (rules, append-nil);
      front = front_same _;
      going = search (rules, going-start);
      over = search rules;
      begun = c.requires.begins;
      smaller = omega arith;
    }

pub down-smaller : goal.down-smaller
down-smaller g c =
    let s = first-smaller (g.E.HasExprTree.tree c.down.x.now) (g.E.HasExprTree.tree c.first_operand-first.result.now) c.first_operand-first.ensures in
    omega arith

pub down-preserved : goal.down-preserved
down-preserved g c =
    let tree = g.E.HasExprTree.tree in
    let t = tree c.down.x.now in
    let u = tree c.first_operand-first.result.now in
    let qs = c.down.over.items in
    let borrowed = g.met.E.HasPrint.borrowed c.down.x.now in
    let first = c.first_operand-first.ensures in
    let goes : is_next c.is_wrapped-wrapped.result u ≡ true = search rules in
    let flat = next_bare c.is_wrapped-wrapped.result u goes in
    let place = c.first_context-place.ensures t (sym c.kind-kind.ensures) in
    let summary = c.take_summary-summary.ensures.summary in
    let bare = ap (λ n. first_wrapped t c.first_context-place.result n) (sym summary) ∙ sym (c.is_wrapped-wrapped.ensures t (sym c.kind-kind.ensures)) ∙ flat in
    let more = c.in_ok-push.ensures.items in
    let s = first-smaller t u first in
    let m = c.down.invariant.smaller in
    record {
      text = ap (λ l. c.down.tokens ++ (spelled c.first_context-place.result (core u) ++ behinds tree l)) more
          ∙ ap (λ z. c.down.tokens ++ z) (down_text tree c.down.context c.first_context-place.result t u qs (c.down.x, c.down.context) _ borrowed c.down.invariant.begun first bare place (next_core c.is_wrapped-wrapped.result u goes) refl refl refl)
          ∙ c.down.invariant.text;
      front = c.down.invariant.front;
      going = subst (λ l. Going c.args.summaries.now c.take_summary-summary.new.summaries (below (tree c.args.x.now)) (lefts tree l ++ below u)) (sym more)
          (down_summaries tree _ _ _ _ t u qs (c.down.x, c.down.context) first refl c.down.invariant.going c.take_summary-summary.ensures.taken);
      over = subst (λ l. Over tree (size (tree c.args.x.now)) l) (sym more) (over_more tree _ qs (c.down.x, c.down.context) c.down.invariant.over c.down.invariant.begun c.down.invariant.smaller);
      begun = next_begins c.is_wrapped-wrapped.result u goes;
      smaller = omega arith;
    }

pub up-init : goal.up-init
up-init g c =
    let tree = g.E.HasExprTree.tree in
    let t = tree c.down.x.now in
    let u = tree c.first_operand-first.result.now in
    let qs = c.down.over.items in
    let next = lefts tree qs in
    let b = behind_below (operands_at t) in
    let borrowed = g.met.E.HasPrint.borrowed c.down.x.now in
    let first = c.first_operand-first.ensures in
    let place = c.first_context-place.ensures t (sym c.kind-kind.ensures) in
    let wraps = c.is_wrapped-wrapped.ensures t (sym c.kind-kind.ensures) ∙ ap (λ n. first_wrapped t c.first_context-place.result n) c.take_summary-summary.ensures.summary in
    let summarized = first_going _ _ c.take_summary-summary.new.summaries _ next t u first c.down.invariant.going c.take_summary-summary.ensures.taken in
    let inner = going-on _ _ c.inside.new.summaries _ (next ++ b) (below u) summarized c.in_ok-inside.ensures.taken in
    record {
      text = last_text tree c.down.context c.first_context-place.result c.is_wrapped-wrapped.result t u qs c.down.tokens c.inside.new.tokens c.behind_first.new.tokens _
          borrowed c.down.invariant.begun first place wraps c.in_ok-inside.ensures.text c.in_ok-behind_first.ensures.text c.down.invariant.text;
      front = front_through _ _ _ c.down.invariant.front (front_through _ _ _ c.in_ok-inside.ensures.front c.in_ok-behind_first.ensures.front);
      going = going-on _ _ c.behind_first.new.summaries _ next b inner c.in_ok-behind_first.ensures.taken;
      over = c.down.invariant.over;
    }

pub up-preserved : goal.up-preserved
up-preserved g c =
    let tree = g.E.HasExprTree.tree in
    let qs = c.pop.new.self.items in
    let e : c.up.over.items ≡ qs ++ (c.in-Some.x, c.in-Some.context) ∷ [] = search rules in
    let text = ap (λ l. c.up.tokens ++ behinds tree l) (sym e) ∙ c.up.invariant.text in
    let going = subst (λ l. Going c.args.summaries.now c.up.summaries (below (tree c.args.x.now)) (lefts tree l)) e c.up.invariant.going in
    let last = over_last tree _ qs (c.in-Some.x, c.in-Some.context) (subst (λ l. Over tree (size (tree c.args.x.now)) l) e c.up.invariant.over) in
    record {
      text = up_text tree c.up.tokens _ _ qs (c.in-Some.x, c.in-Some.context) c.in_ok-behind_first-2.ensures.text text;
      front = front_through _ _ _ c.up.invariant.front c.in_ok-behind_first-2.ensures.front;
      going = up_summaries tree _ _ _ _ qs (c.in-Some.x, c.in-Some.context) going c.in_ok-behind_first-2.ensures.taken;
      over = last.over;
    }

pub behind_first-requires-in-Some-clause-begins : goal.behind_first-requires-in-Some-clause-begins
behind_first-requires-in-Some-clause-begins g c =
    let tree = g.E.HasExprTree.tree in
    let qs = c.pop.new.self.items in
    let e : c.up.over.items ≡ qs ++ (c.in-Some.x, c.in-Some.context) ∷ [] = search rules in
    (over_last tree _ qs (c.in-Some.x, c.in-Some.context) (subst (λ l. Over tree (size (tree c.args.x.now)) l) e c.up.invariant.over)).begins_too

pub behind_first-requires-in-Some-clause-callable : goal.behind_first-requires-in-Some-clause-callable
behind_first-requires-in-Some-clause-callable g c =
    let tree = g.E.HasExprTree.tree in
    let qs = c.pop.new.self.items in
    let e : c.up.over.items ≡ qs ++ (c.in-Some.x, c.in-Some.context) ∷ [] = search rules in
    let s = (over_last tree (size (tree c.args.x.now)) qs (c.in-Some.x, c.in-Some.context) (subst (λ l. Over tree (size (tree c.args.x.now)) l) e c.up.invariant.over)).small in
    λ out summaries x d l h. c.requires.callable out summaries x d (omega arith) h

pub behind_first-requires-in-Some-clause-stacked : goal.behind_first-requires-in-Some-clause-stacked
behind_first-requires-in-Some-clause-stacked g c =
    let tree = g.E.HasExprTree.tree in
    let qs = c.pop.new.self.items in
    let e : c.up.over.items ≡ qs ++ (c.in-Some.x, c.in-Some.context) ∷ [] = search rules in
    let more = ap (λ l. lefts tree l) e ∙ lefts_more tree qs (c.in-Some.x, c.in-Some.context) in
    ends_back _ (lefts tree qs) _ (subst (λ l. EndsWith c.up.summaries.left.items l) more (going-left _ _ _ _ c.requires.stacked c.up.invariant.going))

pub returns-clause-text : goal.returns-clause-text
returns-clause-text g c =
    let tree = g.E.HasExprTree.tree in
    let e : c.up.over.items ≡ [] = search rules in
    sym (append-nil c.up.tokens) ∙ ap (λ l. c.up.tokens ++ behinds tree l) (sym e) ∙ c.up.invariant.text

pub returns-clause-taken : goal.returns-clause-taken
returns-clause-taken g c =
    let tree = g.E.HasExprTree.tree in
    let e : c.up.over.items ≡ [] = search rules in
    going-end _ _ _ (subst (λ l. Going c.args.summaries.now c.up.summaries (below (tree c.args.x.now)) (lefts tree l)) e c.up.invariant.going)

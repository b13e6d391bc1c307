use Rattle.std.proofs.Common.{◌≡◌, [], inr, map, refl, sym, ◌∙◌}
use Rattle.std.proofs.lemmas.List.{map-append}
use Rattle.syn_tokens.specs.Nest.{open_of}
use Rattle.syn_tokens.proofs.Nests.{misfits_alone, misfits_other, unfinished-closes, delimiters-append, places-append}
use Rattle.syn_tokens.proofs.Views.{no_items}
use Rattle.syn_tokens.proofs.lexer.Nest.closes.Goals as goal

pub returns-in_default-clause-err : goal.returns-in_default-clause-err
returns-in_default-clause-err c =
    let none : c.args.self.now.open.items ≡ [] = no_items _ (sym c.args.self.now.open.ok.0 ∙ c.in_default.ensures.cases.0) in
    inr (rw none (misfits_alone c.args.self.now.current c.args.delimiter))

pub returns-then-not-is_same-clause-err : goal.returns-then-not-is_same-clause-err
returns-then-not-is_same-clause-err c =
    inr (rw (c.in-Some.ensures.items, map-append open_of c.pop.new.self.items _)
    (misfits_other (map open_of c.pop.new.self.items) c.in-Some.open.before c.args.self.now.current c.in-Some.open.delimiter c.args.delimiter (c.is_same.ensures.other c.if-not-is_same.true)))

pub returns-clause-ok : goal.returns-clause-ok
returns-clause-ok c =
    rw (
      c.in_ok-push.ensures.ok,
      c.replace-stream.ensures.after,
      c.replace-stream.ensures.value,
      c.in-Some.ensures.items,
      map-append open_of c.pop.new.self.items _,
      ← c.if-not-is_same.ensures.same refl,
    )
    (unfinished-closes (map open_of c.pop.new.self.items) c.in-Some.open.before c.args.self.now.current c.in-Some.open.delimiter)

pub returns-then-not-is_same-clause-kind : goal.returns-then-not-is_same-clause-kind
returns-then-not-is_same-clause-kind c =
    inr (
      rw (
        c.in-Some.ensures.items,
        map-append open_of c.pop.new.self.items _,
        delimiters-append (map open_of c.pop.new.self.items) (open_of c.in-Some.open) [],
        ← c.if-not-is_same.ensures.value,
      )
          refl,
      c.refusal-then-not-is_same.ensures.kind,
    )

pub returns-clause-open : goal.returns-clause-open
returns-clause-open c =
    rw (
      c.in-Some.ensures.items,
      map-append open_of c.pop.new.self.items _,
      delimiters-append (map open_of c.pop.new.self.items) (open_of c.in-Some.open) [],
      ← c.if-not-is_same.ensures.value,
    )
    refl

pub returns-clause-places : goal.returns-clause-places
returns-clause-places c = rw (c.in-Some.ensures.items, places-append c.pop.new.self.items c.in-Some.open []) refl

use Rattle.std.proofs.Common.{◌≡◌, ◌<◌, ◌^◌, [], map, ap, arith, refl, sym, ◌∙◌}
use Rattle.std.proofs.lemmas.Grind.{common_steps}
use Rattle.std.proofs.lemmas.List.{map-append}
use Rattle.syn_tokens.specs.Nest.{open_of}
use Rattle.syn_tokens.proofs.Nests.{misfits_open, delimiters-append, opening_begins}
use Rattle.syn_tokens.proofs.Views.{no_items}
use Rattle.syn_tokens.proofs.lexer.Nest.finish.Goals as goal

pub returns-in-None-clause-value : goal.returns-in-None-clause-value
returns-in-None-clause-value c =
    let none : c.args.self.open.items ≡ [] = no_items _ (sym c.args.self.open.ok.0 ∙ c.in-None.ensures.cases.0) in rw none refl

pub returns-clause-value : goal.returns-clause-value
returns-clause-value c = λ ts. rw (c.in-Some.ensures.items, map-append open_of c.pop.new.self.items _)
    (misfits_open (map open_of c.pop.new.self.items) (open_of c.in-Some.open) c.args.self.current ts)

pub returns-clause-kind : goal.returns-clause-kind
returns-clause-kind c =
    rw (c.in-Some.ensures.items, map-append open_of c.pop.new.self.items _, delimiters-append (map open_of c.pop.new.self.items) (open_of c.in-Some.open) [])
    c.refusal.ensures.kind

pub returns-clause-place : goal.returns-clause-place
returns-clause-place c = λ text begun.
    let begins = opening_begins text c.pop.new.self.items c.in-Some.open (rw (← c.in-Some.ensures.items) begun) in
    let lo = ap (λ s. s.lo) c.refusal.ensures.place in
    let hi = ap (λ s. s.hi) c.refusal.ensures.place in
    let end = c.saturating_add.ensures in
    let fits : c.in-Some.open.at < 2 ^ 64 = grind (arith, common_steps) in
    (grind arith, grind arith)

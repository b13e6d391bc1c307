-- A space or nothing is white space.
use Rattle.std.proofs.Common.{◌≡◌, Bool, OnOk, Ok, Err}
use Rattle.std.specs.Prelude.{Result, reverse}
use Rattle.syn_lexer.specs.Text.{Text}
use Rattle.syn_tidy.specs.Layout.{IsSpaced, space_before}
use Rattle.syn_tidy.proofs.Gaps.{spaced_is}
use Rattle.syn_tidy.proofs.layout.lay_margin.Goals as goal

spaced_on : {A E : Type 0} (r : Result A E) (y z : Text) (b : Bool) → OnOk r (z ≡ space_before b y) → OnOk r (IsSpaced y z)
spaced_on (Ok x) y z b h = spaced_is y z b h
spaced_on (Err e) y z b h = h

pub returns-clause-spaced : goal.returns-clause-spaced
returns-clause-spaced c =
    spaced_on c.lay_space.result (reverse c.args.out.now.items) (reverse c.lay_space.new.out.items) c.if-eq.is_spaced c.lay_space.ensures.value

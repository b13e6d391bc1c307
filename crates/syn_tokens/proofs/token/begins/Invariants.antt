use Rattle.std.proofs.Common.{◌≡◌, length}
use Rattle.syn_tokens.specs.Sign as spec
use Rattle.syn_tokens.specs.View.{toks_of}
use Rattle.syn_tokens.proofs.token.begins.Given as goal

abbrev pub invariant-loop-text : goal.invariant-loop-text
invariant-loop-text l = spec.begins l.text (toks_of l.rest) ≡ spec.begins l.initial.text (toks_of l.initial.rest)

abbrev pub decreases-loop-text : goal.decreases-loop-text
decreases-loop-text l = length l.text

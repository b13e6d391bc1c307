use Rattle.std.proofs.Common.{◌≡◌, ◌++◌, length}
use Rattle.syn_tokens.specs.Input.{IsFront}
use Rattle.syn_tokens.specs.Sign.{sign_toks}
use Rattle.syn_tokens.proofs.token.push_puncts.Given as goal

abbrev pub invariant-loop-text : goal.invariant-loop-text
invariant-loop-text l =
    (l.tokens ++ sign_toks l.text ≡ l.fn.tokens ++ sign_toks l.fn.text) × IsFront l.fn.tokens l.tokens

abbrev pub decreases-loop-text : goal.decreases-loop-text
decreases-loop-text l = length l.text

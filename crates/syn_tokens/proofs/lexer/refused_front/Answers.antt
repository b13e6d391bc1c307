use Rattle.std.proofs.Common.{◌≡◌, ◌+◌, length, take, encode_utf8_all, ap, arith}
use Rattle.syn_tokens.proofs.Standing.{front_size}
use Rattle.syn_tokens.proofs.lexer.refused_front.Goals as goal

pub past-requires : goal.past-requires
past-requires c =
    let size = front_size c.args.refused.len c.args.rest.now in
    let small = c.requires.small in
    rw c.split_at.ensures.front (omega arith)

pub returns-clause-place : goal.returns-clause-place
returns-clause-place c =
    let size = front_size c.args.refused.len c.args.rest.now in
    let end : c.past.result ≡ c.args.at + length (encode_utf8_all (take c.args.refused.len c.args.rest.now)) = rw (← c.split_at.ensures.front) c.past.ensures in
    let hi = ap (λ s. s.hi) c.refusal.ensures.place in
    (ap (λ s. s.lo) c.refusal.ensures.place, omega arith, omega arith)

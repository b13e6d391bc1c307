use Rattle.syn_tokens.proofs.Inputs.{tail_le, tail_at}
use Rattle.syn_tokens.proofs.buffer.tail_at.Goals as goal

pub overflow_sub-list : goal.overflow_sub-list
overflow_sub-list c = tail_le c.args.list.now c.args.tail.now c.requires

pub returns : goal.returns
returns c = let e = tail_at c.args.list.now c.args.tail.now c.requires in cc

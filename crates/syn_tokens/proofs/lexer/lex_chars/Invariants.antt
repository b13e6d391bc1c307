use Rattle.std.proofs.Common.{◌≡◌, length}
use Rattle.syn_tokens.specs.Lex.{pieces, then_pieces, refusal, refusal_from}
use Rattle.std.specs.Rc.{rc_str_bytes}
use Rattle.syn_tokens.specs.Nest.{nest_pieces, delimiters_of, places_of, BeginWithin}
use Rattle.syn_tokens.specs.Standing.{AreLeft}
use Rattle.syn_tokens.proofs.Standing.{narrow}
use Rattle.syn_tokens.proofs.lexer.lex_chars.Given as goal

abbrev pub invariant-loop-rest : goal.invariant-loop-rest
invariant-loop-rest l = record {
  pieces_are : pieces l.all ≡ then_pieces (nest_pieces l.nest) (pieces l.rest);
  left : AreLeft (rc_str_bytes l.text) l.at l.rest;
  narrow_left : narrow l.is_narrow l.rest;
  refusal_is : refusal l.all ≡ refusal_from (delimiters_of l.nest) 0 l.rest;
  begin_within : BeginWithin (rc_str_bytes l.text) (places_of l.nest);
}

abbrev pub decreases-loop-rest : goal.decreases-loop-rest
decreases-loop-rest l = length l.rest

use Rattle.std.proofs.Common.{◌≡◌, ◌∙◌, ◌<◌, ◌+◌, length, take, encode_utf8_all, refl, ap, arith, inl, inr}
use Rattle.std.proofs.lemmas.Grind.{common_steps}
use Rattle.std.proofs.lemmas.Bool.{eqb-true}
use Rattle.std.specs.Rc.{rc_str_bytes}
use Rattle.syn_tokens.proofs.Standing.{left_size, left_within, next_left, next_stand, next_size, next_narrow}
use Rattle.syn_tokens.proofs.Nests.{begin_behind}
use Rattle.syn_tokens.specs.Nest.{nest_pieces, delimiters_of, places_of}
use Rattle.syn_tokens.specs.Lex.{pieces, refusal_at_end}
use Rattle.syn_tokens.proofs.Lexes.{found, refused, so_far_more, refused_front, refused_lexeme, all_read, then_nothing, refusal_is, refusal_step, refusal_step-refused, refusal_end, finished, or_within}
use Rattle.syn_tokens.proofs.lexer.lex_chars.Goals as goal

pub loop-rest-init : goal.loop-rest-init
loop-rest-init c = record {
  pieces_are = rw c.new-nest.ensures.nothing (then_nothing (pieces c.args.all.now));
  left = c.requires;
  narrow_left = λ is.
      let all = left_size (rc_str_bytes c.args.text.now) 0 c.args.all.now c.requires in
      let same = c.len.ensures in
      let count = eqb-true c.len.result (length c.args.all.now) is in
      omega arith;
  refusal_is = rw c.new-nest.ensures.open (refusal_is c.args.all.now);
  begin_within = rw c.new-nest.ensures.places tt;
}

pub loop-rest-preserved : goal.loop-rest-preserved
loop-rest-preserved c =
    let more : 0 < length c.loop-rest.rest.now = grind (arith, common_steps) in
    record {
      pieces_are = rw (c.split_at.ensures.back, c.in_default.ensures.ok, c.split_at.ensures.front)
          (so_far_more c.args.all.now c.loop-rest.rest.now (nest_pieces c.loop-rest.nest) c.in-Ok.lexeme.kind c.in-Ok.lexeme.len
          c.loop-rest.invariant.pieces_are more c.in-Ok.ensures.within.0 c.in-Ok.ensures.value);
      left = rw (c.past_read-end.ensures, c.split_at.ensures.front, c.split_at.ensures.back) (next_left (rc_str_bytes c.args.text.now) c.loop-rest.at c.in-Ok.lexeme.len c.loop-rest.rest.now c.loop-rest.invariant.left);
      narrow_left = rw c.split_at.ensures.back (next_narrow _ c.in-Ok.lexeme.len c.loop-rest.rest.now c.loop-rest.invariant.narrow_left).1;
      refusal_is = rw c.split_at.ensures.back
          (c.loop-rest.invariant.refusal_is
          ∙ refusal_step (delimiters_of c.loop-rest.nest) c.loop-rest.rest.now c.in-Ok.lexeme.kind c.in-Ok.lexeme.len more c.in-Ok.ensures.within.0 c.in-Ok.ensures.value
          ∙ rw c.in_default.ensures.open refl);
      begin_within = rw c.in_default.ensures.places
          (begin_behind (rc_str_bytes c.args.text.now) c.in-Ok.lexeme.kind c.loop-rest.at (places_of c.loop-rest.nest)
          (left_within (rc_str_bytes c.args.text.now) c.loop-rest.at c.loop-rest.rest.now c.loop-rest.invariant.left more) c.loop-rest.invariant.begin_within);
    }

pub returns-in-Err-clause-refused : goal.returns-in-Err-clause-refused
returns-in-Err-clause-refused c =
    let more : 0 < length c.loop-rest.rest.now = grind (arith, common_steps) in
    inr (refused_front c.args.all.now c.loop-rest.rest.now (nest_pieces c.loop-rest.nest) c.loop-rest.invariant.pieces_are more c.in-Err.ensures.value)

pub returns-in-Err-clause-kind : goal.returns-in-Err-clause-kind
returns-in-Err-clause-kind c =
    let more : 0 < length c.loop-rest.rest.now = grind (arith, common_steps) in
    let is = c.loop-rest.invariant.refusal_is
    ∙ refusal_step-refused (delimiters_of c.loop-rest.nest) c.loop-rest.rest.now c.in-Err.e.error c.in-Err.e.len more c.in-Err.ensures.refused in
    inr (rw is c.refused_front.ensures.kind)

pub returns-in-Err-take-clause-refused : goal.returns-in-Err-take-clause-refused
returns-in-Err-take-clause-refused c =
    let more : 0 < length c.loop-rest.rest.now = grind (arith, common_steps) in
    elim c.in-Err-take.ensures.err [
      | inl m ↦ inl m
      | inr no_fit ↦ inr (refused_lexeme c.args.all.now c.loop-rest.rest.now (nest_pieces c.loop-rest.nest) c.in-Ok.lexeme.kind c.in-Ok.lexeme.len
          c.loop-rest.invariant.pieces_are more c.in-Ok.ensures.within.0 c.in-Ok.ensures.value (rw c.split_at.ensures.front at no_fit))
    ]

pub returns-in-Err-take-clause-kind : goal.returns-in-Err-take-clause-kind
returns-in-Err-take-clause-kind c =
    let more : 0 < length c.loop-rest.rest.now = grind (arith, common_steps) in
    let is = c.loop-rest.invariant.refusal_is
    ∙ refusal_step (delimiters_of c.loop-rest.nest) c.loop-rest.rest.now c.in-Ok.lexeme.kind c.in-Ok.lexeme.len more c.in-Ok.ensures.within.0 c.in-Ok.ensures.value in
    elim c.in-Err-take.ensures.kind [
      | inl m ↦ inl m
      | inr closes ↦ inr (rw (is, closes.0) closes.1)
    ]

pub returns-in-Err-clause-place : goal.returns-in-Err-clause-place
returns-in-Err-clause-place c =
    let size = left_size (rc_str_bytes c.args.text.now) c.loop-rest.at c.loop-rest.rest.now c.loop-rest.invariant.left in
    let lo = c.refused_front.ensures.place.0 in
    let order = c.refused_front.ensures.place.1 in
    let hi = c.refused_front.ensures.place.2 in
    inr (omega arith, omega arith)

pub returns-in-Err-take-clause-place : goal.returns-in-Err-take-clause-place
returns-in-Err-take-clause-place c =
    let size = next_size (rc_str_bytes c.args.text.now) c.loop-rest.at c.in-Ok.lexeme.len c.loop-rest.rest.now c.loop-rest.invariant.left in
    let end : c.past_read-end.result ≡ c.loop-rest.at + length (encode_utf8_all (take c.in-Ok.lexeme.len c.loop-rest.rest.now)) = rw (← c.split_at.ensures.front) c.past_read-end.ensures in
    elim c.in-Err-take.ensures.place [
      | inl m ↦ inl m
      | inr place ↦ let lo = ap (λ s. s.lo) place in let hi = ap (λ s. s.hi) place in inr (omega arith, omega arith)
    ]

pub returns-clause-read : goal.returns-clause-read
returns-clause-read c =
    let none : length c.loop-rest.rest.now ≡ 0 = grind (arith, common_steps) in
    found (nest_pieces c.loop-rest.nest) c.args.all.now (all_read c.args.all.now c.loop-rest.rest.now _ c.loop-rest.invariant.pieces_are none) c.finish.result c.finish.ensures.value

pub returns-clause-refused : goal.returns-clause-refused
returns-clause-refused c =
    let none : length c.loop-rest.rest.now ≡ 0 = grind (arith, common_steps) in
    refused (nest_pieces c.loop-rest.nest) c.args.all.now (all_read c.args.all.now c.loop-rest.rest.now _ c.loop-rest.invariant.pieces_are none) c.finish.result c.finish.ensures.value

pub returns-clause-kind : goal.returns-clause-kind
returns-clause-kind c =
    let none : length c.loop-rest.rest.now ≡ 0 = grind (arith, common_steps) in
    let is = c.loop-rest.invariant.refusal_is ∙ refusal_end (delimiters_of c.loop-rest.nest) c.loop-rest.rest.now none in
    rw is (finished (refusal_at_end (delimiters_of c.loop-rest.nest)) c.finish.result c.finish.ensures.kind)

pub returns-clause-place : goal.returns-clause-place
returns-clause-place c = or_within (rc_str_bytes c.args.text.now) c.finish.result (c.finish.ensures.place (rc_str_bytes c.args.text.now) c.loop-rest.invariant.begin_within)

pub past_read-end-requires-clause-small : goal.past_read-end-requires-clause-small
past_read-end-requires-clause-small c =
    let size = next_size (rc_str_bytes c.args.text.now) c.loop-rest.at c.in-Ok.lexeme.len c.loop-rest.rest.now c.loop-rest.invariant.left in
    let small = c.len.type_inv in
    let same = c.len.ensures in
    rw c.split_at.ensures.front (omega arith)

pub take-requires-clause-stands : goal.take-requires-clause-stands
take-requires-clause-stands c = rw (c.past_read-end.ensures, c.split_at.ensures.front) (next_stand (rc_str_bytes c.args.text.now) c.loop-rest.at c.in-Ok.lexeme.len c.loop-rest.rest.now c.loop-rest.invariant.left)

pub refused_front-requires-clause-small : goal.refused_front-requires-clause-small
refused_front-requires-clause-small c =
    let size = left_size (rc_str_bytes c.args.text.now) c.loop-rest.at c.loop-rest.rest.now c.loop-rest.invariant.left in
    let small = c.len.type_inv in
    let same = c.len.ensures in
    omega arith

pub past_read-end-requires-clause-narrow : goal.past_read-end-requires-clause-narrow
past_read-end-requires-clause-narrow c = rw c.split_at.ensures.front (next_narrow _ c.in-Ok.lexeme.len c.loop-rest.rest.now c.loop-rest.invariant.narrow_left).0

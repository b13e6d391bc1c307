use Rattle.std.proofs.Common.{◌≡◌, ◌<◌, ◌∙◌, ap, sym, length, slice_index_or, arith}
use Rattle.std.specs.Prelude.{◌≢◌}
use Rattle.syn_lexer.specs.Keywords.{is_one_of}
use Rattle.syn_lexer.proofs.FirstBytes.{reserved_underscore, reserved_of_some, reserved_of_none, reserved_of_one, reserved_of_more}
use Rattle.syn_lexer.proofs.front.is_reserved_word.Goals as goal

pub returns-in-95 : goal.returns-in-95
returns-in-95 c =
    let bytes = c.as_bytes in
    let one : length bytes.result.now ≡ 1 = omega (arith, c.in-95.len_at_least, c.in-95.len_below) in
    let is : slice_index_or bytes.result.now 0 0 ≡ 95 = grind arith in
    reserved_underscore bytes.result.now c.args.word.now 0 bytes.ensures.value one is

pub returns-in-len2-up : goal.returns-in-len2-up
returns-in-len2-up c =
    let bytes = c.as_bytes in
    let some : 0 < length bytes.result.now = omega (arith, c.in-len2-up.len_at_least) in
    c.is_one_of.ensures ∙ ap (λ words. is_one_of words c.args.word.now) c.beginning_with.ensures ∙ reserved_of_some bytes.result.now c.args.word.now 0 bytes.ensures.value some

pub returns-in_default : goal.returns-in_default
returns-in_default c =
    let bytes = c.as_bytes in
    let none : length bytes.result.now ≡ 0 = omega (arith, c.in_default.len_below) in
    reserved_of_none bytes.result.now c.args.word.now bytes.ensures.value none

pub returns-in_default-2 : goal.returns-in_default-2
returns-in_default-2 c =
    let bytes = c.as_bytes in
    let one : length bytes.result.now ≡ 1 = omega (arith, c.in_default.len_at_least, c.in_default.len_below) in
    let other : slice_index_or bytes.result.now 0 0 ≢ 95 = λ e. grind arith in
    reserved_of_one bytes.result.now c.args.word.now 0 bytes.ensures.value one other

pub returns-in_default-3 : goal.returns-in_default-3
returns-in_default-3 c =
    let bytes = c.as_bytes in
    reserved_of_more bytes.result.now c.args.word.now 0 bytes.ensures.value (omega (arith, c.in-len2-up.len_at_least)) (sym c.is_ascii_lowercase.ensures.value ∙ c.if-is_ascii_lowercase.false)

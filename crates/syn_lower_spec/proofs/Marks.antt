-- A mark that is in front has tokens.
use Rattle.std.proofs.Common.{◌≡◌, ℕ, ◌<◌, true, false, List, [], ◌∷◌, drop, refl, arith}
use Rattle.syn_tokens.specs.Tok.{Tok, weight}
use Rattle.syn_lower_spec.specs.Form.{Mark}
use Rattle.syn_lower_spec.specs.Mark.{sign_at, word_at, lifetime_at, sign, word, lt, eq, not_ne, colon, lone_colon, quote, bang, pound, and, star, plus, comma, semi, question, colon2, arrow, gt, less, mutable, constant, as_word, dynamic, implementing, for_word, unsafe_word, extern_word, fn_word, underscore}
use Rattle.syn_lower_spec.specs.Part.{pound_bang}
use Rattle.syn_lower_spec.proofs.Forms.{Present}
use Rattle.syn_lower_spec.proofs.Weights.{drop_smaller}

pub begins_in_front : (m : Mark) → 0 < m.count → m.at [] ≡ false → Present m
begins_in_front m c e = record { present = present }
  where
    present : (l : List Tok) → m.at l ≡ true → weight (drop m.count l) < weight l
    present [] h = absurd cc
    present (x ∷ l) h = drop_smaller m.count x l c

pub sign_present : (b : ℕ) (more : List ℕ) → Present (sign (b ∷ more))
unfolding sign_at
sign_present b more = begins_in_front (sign (b ∷ more)) (omega arith) refl

pub word_present : (text : List ℕ) → Present (word text)
unfolding word_at
word_present text = begins_in_front (word text) (omega arith) refl

pub and_present : Present and
and_present = sign_present _ _

pub star_present : Present star
star_present = sign_present _ _

pub bang_present : Present bang
bang_present = sign_present _ _

pub plus_present : Present plus
plus_present = sign_present _ _

pub comma_present : Present comma
comma_present = sign_present _ _

pub semi_present : Present semi
semi_present = sign_present _ _

pub pound_present : Present pound
pound_present = sign_present _ _

pub question_present : Present question
question_present = sign_present _ _

pub colon_present : Present colon
colon_present = sign_present _ _

pub colon2_present : Present colon2
colon2_present = sign_present _ _

pub arrow_present : Present arrow
arrow_present = sign_present _ _

pub gt_present : Present gt
gt_present = sign_present _ _

pub less_present : Present less
less_present = sign_present _ _

pub lt_present : Present lt
unfolding sign_at
lt_present = begins_in_front lt (omega arith) refl

pub eq_present : Present eq
unfolding sign_at
eq_present = begins_in_front eq (omega arith) refl

pub not_ne_present : Present not_ne
unfolding sign_at
not_ne_present = begins_in_front not_ne (omega arith) refl

pub lone_colon_present : Present lone_colon
unfolding sign_at
lone_colon_present = begins_in_front lone_colon (omega arith) refl

pub pound_bang_present : Present pound_bang
unfolding sign_at
pound_bang_present = begins_in_front pound_bang (omega arith) refl

pub quote_present : Present quote
unfolding lifetime_at
quote_present = begins_in_front quote (omega arith) refl

pub mutable_present : Present mutable
mutable_present = word_present _

pub constant_present : Present constant
constant_present = word_present _

pub as_present : Present as_word
as_present = word_present _

pub dynamic_present : Present dynamic
dynamic_present = word_present _

pub implementing_present : Present implementing
implementing_present = word_present _

pub for_present : Present for_word
for_present = word_present _

pub unsafe_present : Present unsafe_word
unsafe_present = word_present _

pub extern_present : Present extern_word
extern_present = word_present _

pub fn_present : Present fn_word
fn_present = word_present _

pub underscore_present : Present underscore
underscore_present = word_present _

pub ruleset marks = (and_present, star_present, bang_present, plus_present, comma_present, semi_present, pound_present, question_present, colon2_present, arrow_present, gt_present, less_present, lt_present, eq_present, not_ne_present, colon_present, lone_colon_present, pound_bang_present, quote_present, mutable_present, constant_present, as_present, dynamic_present, implementing_present, for_present, unsafe_present, extern_present, fn_present, underscore_present)

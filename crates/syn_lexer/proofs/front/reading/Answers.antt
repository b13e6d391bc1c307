use Rattle.std.proofs.Common.{◌≡◌, ◌∙◌, sym, ap, false, slice_index, arith}
use Rattle.std.specs.Char.{is_ascii_digit}
use Rattle.std.proofs.lemmas.Bool.Decides.{nat_tests}
use Rattle.std.proofs.lemmas.List.{get_or_read}
use Rattle.syn_lexer.specs.Blanks.{is_white_space}
use Rattle.syn_lexer.proofs.Marks.{unmarked}
use Rattle.syn_lexer.proofs.front.reading.Goals as goal
use Rattle.syn_lexer.proofs.front.reading.Goals.{in_default-via-then-this-lt47, in_default-via-else-this-lt47+else-this-lt58+then-this-lt98, in_default-via-else-this-lt47+else-this-lt58+else-this-lt98+else-this-lt100}

pub returns-in_default-clause-value : goal.returns-in_default-clause-value
returns-in_default-clause-value c =
    let z = c.args.text.now in
    let shown : c.index-text-0.result ≡ slice_index z 0 = get_or_read z _ _ c.requires c.index-text-0.is 0 in
    let white : is_white_space (slice_index z 0) ≡ false = ap is_white_space (sym shown) ∙ (sym c.is_white_space.ensures ∙ c.if-is_white_space.false) in
    let first : c.index-text-0-2.result ≡ slice_index z 0 = get_or_read z _ _ c.requires c.index-text-0-2.is 0 in
    elim c.in_default.branch [
      | in_default-via-then-this-lt47 w ↦
          let digit : is_ascii_digit (slice_index z 0) ≡ false = grind (arith, nat_tests, first) in
          c.plain.ensures.value ∙ sym (unmarked z c.requires white (λ e. grind arith) (λ e. grind arith) (λ e. grind arith) (λ e. grind arith) (λ e. grind arith) (λ e. grind arith) digit)
      | in_default-via-else-this-lt47+else-this-lt58+then-this-lt98 w ↦
          let digit : is_ascii_digit (slice_index z 0) ≡ false = grind (arith, nat_tests, first) in
          c.plain.ensures.value ∙ sym (unmarked z c.requires white (λ e. grind arith) (λ e. grind arith) (λ e. grind arith) (λ e. grind arith) (λ e. grind arith) (λ e. grind arith) digit)
      | in_default-via-else-this-lt47+else-this-lt58+else-this-lt98+else-this-lt100 w ↦
          let digit : is_ascii_digit (slice_index z 0) ≡ false = grind (arith, nat_tests, first) in
          c.plain.ensures.value ∙ sym (unmarked z c.requires white (λ e. grind arith) (λ e. grind arith) (λ e. grind arith) (λ e. grind arith) (λ e. grind arith) (λ e. grind arith) digit)
    ]

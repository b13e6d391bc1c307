use Rattle.std.proofs.Common.{◌≡◌, length, arith}
use Rattle.std.proofs.lemmas.Grind.{common_steps}
use Rattle.syn_lexer.proofs.LexLaws.{front_empty}
use Rattle.syn_lexer.proofs.front.is_whole.Goals as goal

pub returns-then-is_empty : goal.returns-then-is_empty
returns-then-is_empty c =
    let none : length c.args.text.now ≡ 0 = grind (arith, common_steps) in
    (λ is. cc, λ is. absurd (front_empty c.args.text.now c.args.kind _ none is))

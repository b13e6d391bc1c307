-- The lexeme at the front of a text.
use Rattle.std.proofs.Common.{◌≡◌, ℕ, ◌<◌, [], ◌∷◌, length, arith, ap, refl, sym, ◌∙◌, ◌+◌, ◌-◌, drop}
use Rattle.std.specs.Prelude.{Result, Ok, Err, IfErr, MatchResult, Some, None, ◌≢◌, ◌==◌, true, false, codes}
use Rattle.syn_lexer.specs.declared.front.Lexeme.{Lexeme}
use Rattle.syn_lexer.specs.declared.front.LexemeKind.{LexemeKind}
use Rattle.syn_lexer.specs.declared.error.Refusal.{Refusal}
use Rattle.syn_lexer.specs.Text.{Text, reading_of, begins}
use Rattle.syn_lexer.specs.Lex.{reading, of_reading, front}
use Rattle.std.proofs.lemmas.Bool.Decides.{nat_tests}
use Rattle.syn_lexer.specs.Blanks.{comment_rest}

front_is : (z : Text) → 0 < length z → front z ≡ of_reading (reading z)
unfolding front
front_is [] some = absurd (omega arith)
front_is (c ∷ z) some = refl

-- what is read is the front, and what is refused has none
pub front_read : (z : Text) (r : Result Lexeme Refusal) → 0 < length z → reading_of r ≡ reading z
    → MatchResult r (λ x. front z ≡ Some (x.kind, x.len)) (λ e. front z ≡ None)
front_read z (Ok x) some is = front_is z some ∙ ap of_reading (sym is)
front_read z (Err e) some is = front_is z some ∙ ap of_reading (sym is)

pub reading_refused : (z : Text) (r : Result Lexeme Refusal) → reading_of r ≡ reading z → IfErr r (λ e. reading z ≡ Err (e.error, e.len))
reading_refused z (Ok x) is = tt
reading_refused z (Err e) is = sym is

pub front_empty : (z : Text) (kind : LexemeKind) (n : ℕ) → length z ≡ 0 → front z ≡ Some (kind, n) → ⊥
unfolding front
front_empty [] kind n none is = cc
front_empty (c ∷ z) kind n none is = absurd (omega arith)

-- ---- the marks inside of a block comment

-- one more comment is open after `/*`
pub comment_rest-opens : (inner n : ℕ) (z : Text) → begins (codes "/*") z ≡ true → comment_rest false inner n z ≡ comment_rest false (inner + 1) (n + 2) (drop 2 z)
comment_rest-opens inner n [] is = refl
comment_rest-opens inner n (c ∷ []) is = rw is refl
comment_rest-opens inner n (c ∷ (d ∷ z)) is = let two : n + 1 + 1 ≡ n + 2 = omega arith in rw (is, two) refl

-- one less is open after a `*/` that does not close the outermost
pub comment_rest-closes : (inner n : ℕ) (z : Text) → begins (codes "/*") z ≡ false → begins (codes "*/") z ≡ true → inner ≢ 0
    → comment_rest false inner n z ≡ comment_rest false (inner - 1) (n + 2) (drop 2 z)
comment_rest-closes inner n [] other is more = refl
comment_rest-closes inner n (c ∷ []) other is more =
    let no : (inner == 0) ≡ false = grind (arith, nat_tests) in rw (other, is, no) refl
comment_rest-closes inner n (c ∷ (d ∷ z)) other is more =
    let no : (inner == 0) ≡ false = grind (arith, nat_tests) in
    let two : n + 1 + 1 ≡ n + 2 = omega arith in
    rw (other, is, no, two) refl

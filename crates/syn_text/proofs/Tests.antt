-- Tests that are computed on a stream.
use Rattle.std.proofs.Common.{◌≡◌, ℕ, Bool, true, false, ◌&&◌, ◌||◌, List, [], ◌∷◌, length, refl, sym, ◌∙◌, ap, ap₂, inl, inr, chars, Some, IsTrue}
use Rattle.std.specs.Prelude.{◌==◌, ◌↔◌, ◌⊎◌}
use Rattle.std.specs.Str.{IsUtf8, is_utf8}
use Rattle.std.proofs.lemmas.Bool.{and_parts, and_from, eq-eqb, ne_eqb, cases_eq}
use Rattle.std.proofs.lemmas.Str.{is_utf8-from_IsUtf8}
use Rattle.std.proofs.lemmas.Str.Pattern.{starts_text}
use Rattle.syn_lexer.specs.Text.{Text}
use Rattle.syn_lexer.specs.Blanks.{begins_comment}
use Rattle.syn_lexer.specs.Lex.{front}
use Rattle.syn_lexer.specs.declared.front.LexemeKind.{LexemeKind}
use Rattle.syn_lexer.specs.declared.front.LexemeKind.TheVariants as kind
use Rattle.syn_text.specs.Lexed.{is_ident, is_literal, is_all, is_whole, is_ident_text, is_literal_text}
use Rattle.syn_text.proofs.Again.{all_is, ident_is, literal_is}

same_test : (b c : Bool) → (b ≡ true → c ≡ true) → (c ≡ true → b ≡ true) → b ≡ c
same_test true c f g = sym (f refl)
same_test false true f g = g refl
same_test false false f g = refl

module _ (test : LexemeKind → Bool) (k : LexemeKind) (passes : test k ≡ true) (only : (j : LexemeKind) → test j ≡ true → j ≡ k) where
  pub whole : (w : Text) → front w ≡ Some (k, length w) → is_whole test w ≡ true
  whole w is = ap (is_all test w) is ∙ and_from (test k) (length w == length w) passes (eq-eqb (length w) (length w) refl)

  whole_text : (s : List ℕ) (w : Text) (b : Bool) → IsUtf8 s → w ≡ chars s → (IsTrue b ↔ (front w ≡ Some (k, length w))) → b ≡ (is_utf8 s && is_whole test (chars s))
  whole_text s w b utf8 same iff =
      same_test b (is_utf8 s && is_whole test (chars s))
      (λ e. and_from (is_utf8 s) (is_whole test (chars s)) (is_utf8-from_IsUtf8 s utf8) (ap (is_whole test) (sym same) ∙ whole w (iff.0 e)))
      (λ e. iff.1 (all_is test k only w (front w) (ap (is_whole test) same ∙ (and_parts (is_utf8 s) (is_whole test (chars s)) e).1)))

pub ident_text : (s : List ℕ) (w : Text) (b : Bool) → IsUtf8 s → w ≡ chars s → (IsTrue b ↔ (front w ≡ Some (kind.Ident, length w))) → b ≡ is_ident_text s
ident_text = whole_text is_ident kind.Ident refl ident_is

pub literal_text : (s : List ℕ) (w : Text) (b : Bool) → IsUtf8 s → w ≡ chars s → (IsTrue b ↔ (front w ≡ Some (kind.Literal, length w))) → b ≡ is_literal_text s
literal_text = whole_text is_literal kind.Literal refl literal_is

pub slash_begins : (c d : ℕ) → ((c == 47) && ((d == 47) || (d == 42))) ≡ begins_comment (c ∷ d ∷ [])
slash_begins c d = by (cases_eq c 47) (cases_eq d 47) (cases_eq d 42)
  where
    by : (c ≡ 47) ⊎ (c ≡ 47 → ⊥) → (d ≡ 47) ⊎ (d ≡ 47 → ⊥) → (d ≡ 42) ⊎ (d ≡ 42 → ⊥) → ((c == 47) && ((d == 47) || (d == 42))) ≡ begins_comment (c ∷ d ∷ [])
    by (inl e) (inl f) g = ap₂ (λ x y. ((x == 47) && ((y == 47) || (y == 42)))) e f ∙ sym (ap₂ (λ x y. begins_comment (x ∷ y ∷ [])) e f)
    by (inl e) (inr f) (inl g) = ap₂ (λ x y. ((x == 47) && ((y == 47) || (y == 42)))) e g ∙ sym (ap₂ (λ x y. begins_comment (x ∷ y ∷ [])) e g)
    by (inl e) (inr f) (inr g) =
        rw (e, ne_eqb d 47 f, ne_eqb d 42 g, ne_eqb 47 d (λ h. f (sym h)), ne_eqb 42 d (λ h. g (sym h))) refl
    by (inr e) f g = rw (ne_eqb c 47 e, ne_eqb 47 c (λ h. e (sym h))) refl

pub ruleset comments = (slash_begins)

pub ruleset firsts = (starts_text)

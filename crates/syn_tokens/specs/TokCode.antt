-- How the logic stores a token, so that it can tell two apart.
use Rattle.std.specs.Prelude.{◌≡◌, ℕ, List, refl}
use Rattle.std.specs.Coded.{Coded, coded_ℕ, coded_list}
use base.Stored.{Gv, gnil, gnum, gcons}
use Rattle.syn_tokens.specs.Tok.{Tok, Inside, ident, punct, literal, group, nothing, first}
use Rattle.syn_lexer.specs.declared.front.Delimiter.{Delimiter}
use Rattle.syn_lexer.specs.declared.front.Delimiter.TheVariants as delimiter
use Rattle.syn_lexer.specs.declared.front.Spacing.{Spacing}
use Rattle.syn_lexer.specs.declared.front.Spacing.TheVariants as spacing

abbrev text_code : List ℕ → Gv
text_code = (coded_list coded_ℕ).code

abbrev delimiter_code : Delimiter → ℕ
delimiter_code delimiter.Parenthesis = 0
delimiter_code delimiter.Brace = 1
delimiter_code delimiter.Bracket = 2
delimiter_code delimiter.None = 3

delimiter_inj : (d e : Delimiter) → delimiter_code d ≡ delimiter_code e → d ≡ e
delimiter_inj delimiter.Parenthesis delimiter.Parenthesis p = refl
delimiter_inj delimiter.Brace delimiter.Brace p = refl
delimiter_inj delimiter.Bracket delimiter.Bracket p = refl
delimiter_inj delimiter.None delimiter.None p = refl
delimiter_inj _ _ p = cc

abbrev spacing_code : Spacing → ℕ
spacing_code spacing.Alone = 0
spacing_code spacing.Joint = 1

spacing_inj : (s t : Spacing) → spacing_code s ≡ spacing_code t → s ≡ t
spacing_inj spacing.Alone spacing.Alone p = refl
spacing_inj spacing.Joint spacing.Joint p = refl
spacing_inj _ _ p = cc

abbrev mutual
  pub code_of : Tok → Gv
  code_of (ident s) = gcons (gnum 0) (text_code s)
  code_of (punct c s) = gcons (gnum 1) (gcons (gnum c) (gnum (spacing_code s)))
  code_of (literal s) = gcons (gnum 2) (text_code s)
  code_of (group d i) = gcons (gnum 3) (gcons (gnum (delimiter_code d)) (inside_code i))

  pub inside_code : Inside → Gv
  inside_code nothing = gnil
  inside_code (first t rest) = gcons (code_of t) (inside_code rest)

text_inj : (s t : List ℕ) → text_code s ≡ text_code t → s ≡ t
text_inj s t e = (coded_list coded_ℕ).inj s t e

mutual
  pub code_inj : (s t : Tok) → code_of s ≡ code_of t → s ≡ t
  code_inj (ident s) (ident t) e = let one : s ≡ t = text_inj s t cc in cc
  code_inj (punct c s) (punct d t) e = let same : s ≡ t = spacing_inj s t cc in cc
  code_inj (literal s) (literal t) e = let one : s ≡ t = text_inj s t cc in cc
  code_inj (group d i) (group f j) e =
      let one : d ≡ f = delimiter_inj d f cc in let two : i ≡ j = inside_inj i j cc in cc
  code_inj _ _ e = cc

  inside_inj : (i j : Inside) → inside_code i ≡ inside_code j → i ≡ j
  inside_inj nothing nothing e = refl
  inside_inj (first s i) (first t j) e =
      let one : s ≡ t = code_inj s t cc in let two : i ≡ j = inside_inj i j cc in cc
  inside_inj _ _ e = cc

abbrev pub toks_code : Coded (List Tok)
toks_code = coded_list (record { code = code_of; inj = code_inj })

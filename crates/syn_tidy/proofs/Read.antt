-- A layout of a list that some text falls into falls into this list.
use Rattle.std.proofs.Common.{◌≡◌, ℕ, Bool, true, false, not, ◌&&◌, List, [], ◌∷◌, ◌++◌, drop, slice_index, refl, sym, ◌∙◌, ap, ap₂, append-nil, codes, encode_utf8_all, string_bytes, subst, Some, inl, inr}
use Rattle.std.specs.Prelude.{◌==◌, ◌⊎◌, if◌then◌else◌, String}
use Rattle.std.specs.List.{list_all}
use Rattle.std.specs.Str.{chars}
use Rattle.std.specs.declared.alloc.Global.{Global}
use Rattle.std.proofs.lemmas.Str.{chars_from_encodes, IsUtf8-string_bytes}
use Rattle.std.proofs.lemmas.Bool.{and_parts, or_parts, not-true, eqb-true}
use Rattle.syn_lexer.specs.Text.{Text, begins, single_quote}
use Rattle.syn_lexer.specs.Blanks.{is_white_space, begins_comment}
use Rattle.syn_lexer.specs.Lex.{is_punct, spacing_before}
use Rattle.syn_lexer.specs.declared.front.Spacing.TheVariants.{Alone, Joint}
use Rattle.syn_tokens.specs.Tok.{Tok, Inside, toks, inside, ident, punct, literal, group, nothing, first}
use Rattle.syn_tokens.specs.Text.{closing}
use Rattle.syn_tokens.specs.Lex.{leaf, opens, closes, pieces, then_pieces, pieces_of, pieces_inside, Spells}
use Rattle.syn_tokens.proofs.Lexes.{then_nothing}
use Rattle.syn_tokens.proofs.Nests.{pieces_inside-inside}
use Rattle.syn_text.specs.Must.{goes_on, takes_dot}
use Rattle.syn_text.specs.Lexed.{sees_plain_ident, joins, is_ident_text, is_written, stays, inside_is_lexed, is_lexed}
use Rattle.syn_text.proofs.Puncts.{no_comment_before}
use Rattle.syn_text.proofs.Again.{then_then, one_white, open_pieces, close_pieces, punct_pieces, ident_pieces, literal_pieces, lifetime_pieces, alone_pieces, quoted_chars, quote_comment, no_pieces, lexed_inside}
use Rattle.syn_tidy.specs.Layout.{IsSpaced, IsGap, IsTree, IsList, IsLayout}

-- ---- white space

white_pieces : (white y : Text) → list_all is_white_space white ≡ true → pieces (white ++ y) ≡ pieces y
white_pieces [] y h = refl
white_pieces (c ∷ white) y h =
    let parts = and_parts (is_white_space c) (list_all is_white_space white) h in
    one_white c (white ++ y) parts.0 ∙ white_pieces white y parts.1

spaced_pieces : (y z : Text) → IsSpaced y z → pieces z ≡ pieces y
spaced_pieces y z h = ap pieces h.2 ∙ white_pieces h.0 y h.1

-- ---- joint puncts

-- what a punct stays as: joint, it is one and begins no comment
abbrev Joins : ℕ → Inside → Type 0
Joins c i = (is_punct c ≡ true) × ((((c == 39) ≡ true) × (sees_plain_ident (toks i) ≡ true)) ⊎ (((c == 39) ≡ false) × (joins c (toks i) ≡ true)))

stays_joint : (c : ℕ) (i : Inside) → stays (punct c Joint) (toks i) ≡ true → Joins c i
stays_joint c i h = by (c == 39) refl
  where
    by : (b : Bool) → (c == 39) ≡ b → Joins c i
    by true e = (ap is_punct (eqb-true c 39 e), inl (e, sym (ap (λ b. if b then sees_plain_ident (toks i) else is_punct c && joins c (toks i)) e) ∙ h))
    by false e =
        let parts = and_parts (is_punct c) (joins c (toks i)) (sym (ap (λ b. if b then sees_plain_ident (toks i) else is_punct c && joins c (toks i)) e) ∙ h) in
        (parts.0, inr (e, parts.1))

-- what may follow a punct at once begins no comment with it
no_comment : (c : ℕ) (i : Inside) (y u : Text) → joins c (toks i) ≡ true → IsList i y u → begins_comment (c ∷ u) ≡ false
no_comment c nothing y u h l = absurd cc
no_comment c (first (ident s) i) y u h l = absurd cc
no_comment c (first (group d j) i) y u h l = absurd cc
no_comment c (first (punct d s) i) y u h l = ap (λ w. begins_comment (c ∷ w)) l.2 ∙ not-true (begins_comment (c ∷ (d ∷ []))) h
no_comment c (first (literal s) i) y u h l =
    let q = quoted_chars s h in
    ap (λ w. begins_comment (c ∷ w)) (l.2 ∙ ap (λ w. w ++ l.1) q.1) ∙ quote_comment c (q.0 ++ l.1)

-- it is a punct that begins no comment
joint_before : (c : ℕ) (i : Inside) (y u : Text) → joins c (toks i) ≡ true → inside_is_lexed i ≡ true → IsList i y u → spacing_before u ≡ Joint
joint_before c nothing y u h lexed l = absurd cc
joint_before c (first (ident s) i) y u h lexed l = absurd cc
joint_before c (first (group d j) i) y u h lexed l = absurd cc
joint_before c (first (literal s) i) y u h lexed l = let q = quoted_chars s h in ap spacing_before (l.2 ∙ ap (λ w. w ++ l.1) q.1)
joint_before c (first (punct d Alone) i) y u h lexed l =
    let parts = and_parts (stays (punct d Alone) (toks i)) (inside_is_lexed i) lexed in
    let is : is_punct d ≡ true = (and_parts (is_punct d) (not (d == single_quote)) parts.0).0 in
    ap spacing_before l.2 ∙ ap₂ (λ a b. if a && not b then Joint else Alone) is (no_comment_before d l.1 l.3.2)
joint_before c (first (punct d Joint) i) y u h lexed l =
    let parts = and_parts (stays (punct d Joint) (toks i)) (inside_is_lexed i) lexed in
    let is = stays_joint d i parts.0 in
    let none : begins_comment (d ∷ l.1) ≡ false = elim is.1 [
      | inl e ↦ ap (λ x. begins_comment (x ∷ l.1)) (eqb-true d 39 e.0)
      | inr e ↦ ap (λ w. begins_comment (d ∷ w)) (l.3.1 refl) ∙ no_comment d i y l.0 e.1 l.4
    ] in
    ap spacing_before l.2 ∙ ap₂ (λ a b. if a && not b then Joint else Alone) is.0 none

lifetime : (i : Inside) (y u : Text) → sees_plain_ident (toks i) ≡ true → inside_is_lexed i ≡ true → IsList i y u
    → pieces (39 ∷ u) ≡ then_pieces (leaf (punct 39 Joint) ∷ []) (pieces u)
lifetime nothing y u h lexed l = absurd cc
lifetime (first (punct d s) i) y u h lexed l = absurd cc
lifetime (first (literal s) i) y u h lexed l = absurd cc
lifetime (first (group d j) i) y u h lexed l = absurd cc
lifetime (first (ident s) i) y u h lexed l =
    let parts = and_parts (is_ident_text s) (inside_is_lexed i) lexed in
    ap (λ w. pieces (39 ∷ w)) l.2 ∙ lifetime_pieces s l.1 parts.0 h l.3.2 ∙ ap (λ w. then_pieces (leaf (punct 39 Joint) ∷ []) (pieces w)) (sym l.2)

joint_pieces : (c : ℕ) (i : Inside) (y u : Text) → Joins c i → inside_is_lexed i ≡ true → IsList i y u
    → pieces (c ∷ u) ≡ then_pieces (leaf (punct c Joint) ∷ []) (pieces u)
joint_pieces c i y u is lexed l = elim is.1 [
  | inl e ↦
      let same : c ≡ 39 = eqb-true c 39 e.0 in
      ap (λ d. pieces (d ∷ u)) same ∙ lifetime i y u e.1 lexed l ∙ ap (λ d. then_pieces (leaf (punct d Joint) ∷ []) (pieces u)) (sym same)
  | inr e ↦
      punct_pieces c u is.0 e.0 (no_comment c i y u e.1 l)
      ∙ ap (λ s. then_pieces (leaf (punct c s) ∷ []) (pieces u)) (joint_before c i y u e.1 lexed l)
]

-- ---- one token, and what is behind it

mutual
  tree_pieces : (t : Tok) (i : Inside) (y u v z : Text) → stays t (toks i) ≡ true → inside_is_lexed i ≡ true
      → IsTree t v z → IsGap t u v → IsList i y u → pieces z ≡ then_pieces (pieces_of t) (pieces u)
  tree_pieces (ident s) i y u v z h lexed t g l =
      ap pieces t ∙ ident_pieces s v h g.2 ∙ ap (then_pieces (leaf (ident s) ∷ [])) (spaced_pieces u v g.0)
  tree_pieces (literal s) i y u v z h lexed t g l =
      let parts = or_parts (goes_on (slice_index v 0)) (begins (codes ".") v && takes_dot (chars s) (drop 1 v)) g.2 in
      ap pieces t ∙ literal_pieces s v h parts.0 parts.1 ∙ ap (then_pieces (leaf (literal s) ∷ [])) (spaced_pieces u v g.0)
  tree_pieces (punct c Alone) i y u v z h lexed t g l =
      ap pieces t ∙ alone_pieces c v h g.2 ∙ ap (then_pieces (leaf (punct c Alone) ∷ [])) (spaced_pieces u v g.0)
  tree_pieces (punct c Joint) i y u v z h lexed t g l =
      ap pieces (t ∙ ap (λ w. c ∷ w) (g.1 refl)) ∙ joint_pieces c i y u (stays_joint c i h) lexed l
  tree_pieces (group d j) i y u v z h lexed t g l =
      let parts = and_parts (is_written d) (inside_is_lexed j) h in
      ap pieces t.2
      ∙ open_pieces d t.1 parts.0
      ∙ ap (then_pieces (opens d ∷ [])) (
      spaced_pieces t.0 t.1 t.3
      ∙ list_pieces j (closing d ++ v) t.0 parts.1 t.4
      ∙ ap (then_pieces (pieces_inside j)) (
      close_pieces d v parts.0
      ∙ ap (then_pieces (closes d ∷ [])) (spaced_pieces u v g.0))
      ∙ then_then (pieces_inside j) (closes d ∷ []) (pieces u))
      ∙ then_then (opens d ∷ []) (pieces_inside j ++ closes d ∷ []) (pieces u)

  list_pieces : (i : Inside) (y z : Text) → inside_is_lexed i ≡ true → IsList i y z → pieces z ≡ then_pieces (pieces_inside i) (pieces y)
  list_pieces nothing y z lexed l = spaced_pieces y z l ∙ then_nothing (pieces y)
  list_pieces (first t i) y z lexed l =
      let parts = and_parts (stays t (toks i)) (inside_is_lexed i) lexed in
      tree_pieces t i y l.0 l.1 z parts.0 parts.1 l.2 l.3 l.4
      ∙ ap (then_pieces (pieces_of t)) (list_pieces i y l.0 parts.1 l.4)
      ∙ then_then (pieces_of t) (pieces_inside i) (pieces y)

pub are_read_again : (ts : List Tok) (z : Text) → is_lexed ts ≡ true → IsLayout ts z → Spells z ts
are_read_again ts z h l =
    let i = inside ts in
    spaced_pieces l.0 z l.1 ∙ list_pieces i [] l.0 (lexed_inside ts ∙ h) l.2 ∙ ap (then_pieces (pieces_inside i)) no_pieces
    ∙ ap Some (append-nil (pieces_inside i) ∙ pieces_inside-inside ts)

-- ---- the text of a layout

pub laid : (s : String Global) (ts : List Tok) (z : Text) → string_bytes s ≡ encode_utf8_all z → IsList (inside ts) [] z → IsLayout ts (chars (string_bytes s))
laid s ts z is l = subst (λ x. IsLayout ts x) (chars_from_encodes z (string_bytes s) (IsUtf8-string_bytes s) (sym is)) (z, ([], refl, refl), l)

pub laid_again : (s : String Global) (ts : List Tok) (z : Text) → string_bytes s ≡ encode_utf8_all z → IsList (inside ts) [] z → is_lexed ts ≡ true
    → Spells (chars (string_bytes s)) ts
laid_again s ts z is l h = are_read_again ts (chars (string_bytes s)) h (laid s ts z is l)

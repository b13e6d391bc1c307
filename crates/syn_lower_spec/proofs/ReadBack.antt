-- The simple parts, and lists, are read back from their own tokens.
use Rattle.std.proofs.Common.{◌≡◌, ℕ, Bool, true, false, not, ◌&&◌, ◌==◌, cond, List, [], ◌∷◌, drop, Option, Some, None, refl, ap, arith}
use Rattle.std.proofs.lemmas.Bool.Decides.{nat_tests}
use Rattle.std.proofs.lemmas.Slice.Eq.{bytes_eq-Decides}
use Rattle.std.specs.Str.{bytes_eq}
use Rattle.syn_lexer.specs.Keywords.{is_reserved_word}
use Rattle.syn_lexer.specs.declared.front.Delimiter.TheVariants as del
use Rattle.syn_tokens.specs.Tok.{Tok, ident, literal, group, inside, toks-inside}
use Rattle.syn_tokens.specs.Front.{group_at}
use Rattle.syn_lower_spec.specs.declared.label.LitKind.{LitKind}
use Rattle.syn_lower_spec.specs.declared.label.LitKind.TheVariants as kind
use Rattle.syn_lower_spec.specs.Text.{Text, is_segment, is_number, number_kind, kind_of}
use Rattle.syn_lower_spec.specs.Same.{same_kind}
use Rattle.syn_lower_spec.specs.Tree.{LitTree, AttributeTree}
use Rattle.syn_lower_spec.specs.Form.{Form, Mark, Test, tail, more, listed, joined, is_nil}
use Rattle.syn_lower_spec.specs.Mark.{sign_at, lifetime_at, comma}
use Rattle.syn_lower_spec.specs.Part.{name, segment_name, lifetime, lit, attribute, outer_body, inner_body, verbatim, block}
use Rattle.syn_lower_spec.specs.Own.{alone, lifetime_own, lit_own, number_own, attribute_own, block_own, elements_own, separated, comma_before}
use Rattle.syn_lower_spec.specs.Fits.{lit_fits, number_fits, has_kind, ends_well, is_none}
use Rattle.syn_lower_spec.proofs.Same.{both_true, same_toks-refl, same_lit-refl, same_kind-true}
use Rattle.syn_lower_spec.proofs.Marks.{comma_present}
use Rattle.syn_lower_spec.proofs.Forms.{Alike, Present, tail_stands, more_stands}

pub text_same : (w : Text) → bytes_eq w w ≡ true
text_same w = (bytes_eq-Decides w w).1 refl

-- ---- words

pub name_back : (w : Text) (r : List Tok) → not (is_reserved_word w) ≡ true → name.behind w (ident w ∷ r) ≡ Some r
unfolding name
name_back w r h = rw (h, text_same w) refl

pub segment_name_back : (w : Text) (r : List Tok) → is_segment w ≡ true → segment_name.behind w (ident w ∷ r) ≡ Some r
unfolding segment_name
segment_name_back w r h = rw (h, text_same w) refl

pub lifetime_back : (w : Text) (r : List Tok) → lifetime.behind w (lifetime_own w r) ≡ Some r
unfolding lifetime lifetime_at
lifetime_back w r = rw (text_same w) refl

-- ---- literals

pub has_is : (o : Option LitKind) (k : LitKind) → has_kind o k ≡ true → o ≡ Some k
has_is None k h = absurd cc
has_is (Some j) k h = ap Some (same_kind-true j k h)

-- a literal token of this kind
plain_back : (k : LitKind) (text : Text) (r : List Tok) → has_kind (kind_of text) k ≡ true → lit.behind (record { kind = k; text = text }) (literal text ∷ r) ≡ Some r
unfolding lit
plain_back k text r h = rw (has_is (kind_of text) k h, same_lit-refl (record { kind = k; text = text })) refl

number_back : (k : LitKind) (text : Text) (r : List Tok) → number_fits k text ≡ true → lit.behind (record { kind = k; text = text }) (number_own text r) ≡ Some r
unfolding lit
number_back k [] r h = absurd cc
number_back k (c ∷ text) r h = by_sign (c == 45) refl h
  where
    by_sign : (b : Bool) → (c == 45) ≡ b → cond b (is_number text && same_kind (number_kind text) k) (has_kind (kind_of (c ∷ text)) k) ≡ true
        → lit.behind (record { kind = k; text = c ∷ text }) (cond b (alone 45 ∷ literal text ∷ r) (literal (c ∷ text) ∷ r)) ≡ Some r
    by_sign true e h =
        let (a, b) = both_true (is_number text) (same_kind (number_kind text) k) h in
        let i : c ≡ 45 = grind (arith, nat_tests, e) in
        rw (a, same_kind-true (number_kind text) k b, i, same_lit-refl (record { kind = k; text = 45 ∷ text })) refl
    by_sign false e h = plain_back k (c ∷ text) r h

pub lit_back : (x : LitTree) (r : List Tok) → lit_fits x ≡ true → lit.behind x (lit_own x r) ≡ Some r
unfolding lit_fits lit_own lit
lit_back x r h = by_kind x.kind x.text h
  where
    by_kind : (k : LitKind) (text : Text) → lit_fits (record { kind = k; text = text }) ≡ true → lit.behind (record { kind = k; text = text }) (lit_own (record { kind = k; text = text }) r) ≡ Some r
    by_kind kind.Bool text h = rw (h, same_lit-refl (record { kind = kind.Bool; text = text })) refl
    by_kind kind.Int text h = number_back kind.Int text r h
    by_kind kind.Float text h = number_back kind.Float text r h
    by_kind d text h = plain_back d text r h

-- ---- groups of verbatim tokens

pub verbatim_bracket_back : (ts r : List Tok) → (verbatim del.Bracket).behind ts (group del.Bracket (inside ts) ∷ r) ≡ Some r
unfolding verbatim group_at
verbatim_bracket_back ts r = rw (toks-inside ts, same_toks-refl ts) refl

pub attribute_back : (a : AttributeTree) (r : List Tok) → attribute.behind a (attribute_own a r) ≡ Some r
unfolding attribute attribute_own outer_body inner_body sign_at
attribute_back a r = by_style a.inner a.tokens
  where
    by_style : (b : Bool) (ts : List Tok) → attribute.behind (record { inner = b; tokens = ts }) (attribute_own (record { inner = b; tokens = ts }) r) ≡ Some r
    by_style true ts = verbatim_bracket_back ts r
    by_style false ts = verbatim_bracket_back ts r

pub block_back : (ts r : List Tok) → block.behind ts (block_own ts r) ≡ Some r
unfolding block block_own verbatim group_at
block_back ts r = rw (toks-inside ts, same_toks-refl ts) refl

-- ---- lists

pub ends_is : {A : Type 0} (xs : List A) (e : Bool) → ends_well (is_none xs) e ≡ not (is_nil xs && e)
ends_is [] e = refl
ends_is (x ∷ xs) e = refl

-- what is after an element before the others
abbrev pub next_own : {A : Type 0} → (A → List Tok → List Tok) → (List Tok → List Tok) → List A → Bool → List Tok → List Tok
next_own own sep xs e r = separated (is_nil xs) e sep (elements_own own sep xs e r)

module _ {A : Type 0} (f : Form A) (own : A → List Tok → List Tok) (stop : Test) (e : Bool) (r : List Tok) where
  -- each element is read back before what follows it, and nothing that ends the list comes first
  pub data Commas : List A → Type 0 where
    no_element : Commas []
    element : {x : A} {xs : List A} → f.behind x (own x (next_own own comma_before xs e r)) ≡ Some (next_own own comma_before xs e r)
        → stop (own x (next_own own comma_before xs e r)) ≡ false → Commas xs → Commas (x ∷ xs)

module _ {A : Type 0} (f : Form A) (own : A → List Tok → List Tok) (sep : List Tok → List Tok) (r : List Tok) where
  pub data Joins : List A → Type 0 where
    no_join : Joins []
    join : {x : A} {xs : List A} → f.behind x (own x (next_own own sep xs false r)) ≡ Some (next_own own sep xs false r) → Joins xs → Joins (x ∷ xs)

module _ {A : Type 0} (f : Form A) (own : A → List Tok → List Tok) (stop : Test) (a : (k : ℕ) → Alike k f f) (r : List Tok)
    (stopped : stop r ≡ true) (no_comma : comma.at r ≡ false) where
  pub tail_back : (e : Bool) (xs : List A) → Commas f own stop e r xs → (tail comma stop f).behind (xs, e) (next_own own comma_before xs e r) ≡ Some r
  unfolding sign_at
  tail_back false [] no_element = tail_stands comma stop f comma_present a ([], false) r r (rw no_comma refl)
  tail_back true [] no_element = tail_stands comma stop f comma_present a ([], true) _ r (rw stopped refl)
  tail_back e (x ∷ xs) (element b s more) = tail_stands comma stop f comma_present a (x ∷ xs, e) _ r (rw (s, b) (tail_back e xs more))

  pub listed_back : (e : Bool) (xs : List A) → not (is_nil xs && e) ≡ true → Commas f own stop e r xs → (listed comma stop f).behind (xs, e) (elements_own own comma_before xs e r) ≡ Some r
  unfolding listed
  listed_back false [] h no_element = rw stopped refl
  listed_back true [] h no_element = absurd cc
  listed_back e (x ∷ xs) h (element b s more) = rw (s, b) (tail_back e xs more)

module _ {A : Type 0} (m : Mark) (f : Form A) (own : A → List Tok → List Tok) (sep : List Tok → List Tok) (p : Present m) (a : (k : ℕ) → Alike k f f)
    (seen : (l : List Tok) → m.at (sep l) ≡ true) (behind : (l : List Tok) → drop m.count (sep l) ≡ l) (r : List Tok) (ended : m.at r ≡ false) where
  pub more_back : (xs : List A) → Joins f own sep r xs → (more m f).behind xs (next_own own sep xs false r) ≡ Some r
  more_back [] no_join = more_stands m f p a [] r r (rw ended refl)
  more_back (x ∷ xs) (join b js) = more_stands m f p a (x ∷ xs) _ r (rw (seen (own x (next_own own sep xs false r)), behind (own x (next_own own sep xs false r)), b) (more_back xs js))

  pub joined_back : (x : A) (xs : List A) → Joins f own sep r (x ∷ xs) → (joined m f).behind (x ∷ xs) (elements_own own sep (x ∷ xs) false r) ≡ Some r
  joined_back x xs (join b js) = rw b (more_back xs js)

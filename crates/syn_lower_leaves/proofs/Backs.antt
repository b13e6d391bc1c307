-- What is printed is read back.
use Rattle.std.proofs.Common.{◌≡◌, Bool, true, false, not, List, [], ◌∷◌, ◌++◌, map, Some, refl, ap, ◌∙◌}
use Rattle.syn_tokens.specs.Tok.{Tok}
use Rattle.syn_lower_spec.specs.declared.label.LitKind.TheVariants as kind
use Rattle.syn_lower_spec.specs.Text.{Text}
use Rattle.syn_lower_spec.specs.Tree.{AttributeTree}
use Rattle.syn_lower_spec.specs.Form.{Form}
use Rattle.syn_lower_spec.specs.Mark.{sign_at, pound}
use Rattle.syn_lower_spec.specs.Part.{pound_bang, outer_body, inner_body, outer_attributes, inner_attributes}
use Rattle.syn_lower_spec.specs.Own.{attribute_own, block_own}
use Rattle.syn_lower_spec.specs.Fits.{lit_fits, of_kind_fits}
use Rattle.syn_lower_spec.specs.Laws.{IsExact}
use Rattle.syn_lower_spec.proofs.Forms.{more_stands}
use Rattle.syn_lower_spec.proofs.Marks.{pound_present, pound_bang_present}
use Rattle.syn_lower_spec.proofs.Parts.{outer_body_alike, inner_body_alike}
use Rattle.syn_lower_spec.proofs.ReadBack.{verbatim_bracket_back}
use Rattle.syn_lower_spec.proofs.Same.{both_true, not_true}
use Rattle.syn_lower_leaves.specs.ReadBack.{all_outer, all_inner, all_printed}
use Rattle.syn_lower_leaves.specs.View.{is_inner, attribute_of}
use Rattle.syn_lower_leaves.specs.declared.attr.Attribute.{Attribute}

-- ---- by the own tokens

pub stands : {S : Type 0} (f : Form S) (x : S) (printed own rest : List Tok) → printed ≡ own → f.behind x own ≡ Some rest → f.behind x printed ≡ Some rest
stands f x printed own rest e h = ap (λ l. f.behind x l) e ∙ h

pub is_read : {S : Type 0} (f : Form S) → IsExact f → (x : S) (printed own rest : List Tok) → printed ≡ own → f.behind x own ≡ Some rest → f.reads printed ≡ Some (x, rest)
is_read f exact x printed own rest e h = (exact printed x rest).1 (stands f x printed own rest e h)

pub blocks_print : (ts rest : List Tok) → block_own ts [] ++ rest ≡ block_own ts rest
unfolding block_own
blocks_print ts rest = refl

-- ---- literals of one kind

pub string_fits : (w : Text) → lit_fits (record { kind = kind.Str; text = w }) ≡ true → of_kind_fits kind.Str (record { kind = kind.Str; text = w }) ≡ true
unfolding lit_fits
string_fits w h = h

pub byte_string_fits : (w : Text) → lit_fits (record { kind = kind.ByteStr; text = w }) ≡ true → of_kind_fits kind.ByteStr (record { kind = kind.ByteStr; text = w }) ≡ true
unfolding lit_fits
byte_string_fits w h = h

pub c_string_fits : (w : Text) → lit_fits (record { kind = kind.CStr; text = w }) ≡ true → of_kind_fits kind.CStr (record { kind = kind.CStr; text = w }) ≡ true
unfolding lit_fits
c_string_fits w h = h

pub byte_fits : (w : Text) → lit_fits (record { kind = kind.Byte; text = w }) ≡ true → of_kind_fits kind.Byte (record { kind = kind.Byte; text = w }) ≡ true
unfolding lit_fits
byte_fits w h = h

pub char_fits : (w : Text) → lit_fits (record { kind = kind.Char; text = w }) ≡ true → of_kind_fits kind.Char (record { kind = kind.Char; text = w }) ≡ true
unfolding lit_fits
char_fits w h = h

pub truth_fits : (w : Text) → lit_fits (record { kind = kind.Bool; text = w }) ≡ true → of_kind_fits kind.Bool (record { kind = kind.Bool; text = w }) ≡ true
unfolding lit_fits
truth_fits w h = h

-- ---- attributes

attributes_print : (a : AttributeTree) (m rest : List Tok) → (attribute_own a [] ++ m) ++ rest ≡ attribute_own a (m ++ rest)
unfolding attribute_own
attributes_print a m rest = by a.inner a.tokens
  where
    by : (b : Bool) (ts : List Tok) → (attribute_own (record { inner = b; tokens = ts }) [] ++ m) ++ rest ≡ attribute_own (record { inner = b; tokens = ts }) (m ++ rest)
    by true ts = refl
    by false ts = refl

outer_step : (b : Bool) (ts : List Tok) (xs : List AttributeTree) (l n : List Tok) → b ≡ false → outer_attributes.behind xs l ≡ Some n
    → outer_attributes.behind (record { inner = b; tokens = ts } ∷ xs) (attribute_own (record { inner = b; tokens = ts }) l) ≡ Some n
unfolding outer_attributes outer_body attribute_own sign_at
outer_step true ts xs l n e h = absurd cc
outer_step false ts xs l n e h = more_stands pound outer_body pound_present (λ k. outer_body_alike) (record { inner = false; tokens = ts } ∷ xs) _ n (rw (verbatim_bracket_back ts l) h)

inner_step : (b : Bool) (ts : List Tok) (xs : List AttributeTree) (l n : List Tok) → b ≡ true → inner_attributes.behind xs l ≡ Some n
    → inner_attributes.behind (record { inner = b; tokens = ts } ∷ xs) (attribute_own (record { inner = b; tokens = ts }) l) ≡ Some n
unfolding inner_attributes inner_body attribute_own sign_at
inner_step true ts xs l n e h = more_stands pound_bang inner_body pound_bang_present (λ k. inner_body_alike) (record { inner = true; tokens = ts } ∷ xs) _ n (rw (verbatim_bracket_back ts l) h)
inner_step false ts xs l n e h = absurd cc

no_outer : (l : List Tok) → pound.at l ≡ false → outer_attributes.behind [] l ≡ Some l
unfolding outer_attributes
no_outer l h = more_stands pound outer_body pound_present (λ k. outer_body_alike) [] l l (rw h refl)

no_inner : (l : List Tok) → pound_bang.at l ≡ false → inner_attributes.behind [] l ≡ Some l
unfolding inner_attributes
no_inner l h = more_stands pound_bang inner_body pound_bang_present (λ k. inner_body_alike) [] l l (rw h refl)

pub outer_back : (xs : List Attribute) (rest : List Tok) → all_outer xs ≡ true → not (pound.at rest) ≡ true
    → outer_attributes.behind (map attribute_of xs) (all_printed (λ x. attribute_own (attribute_of x) []) xs ++ rest) ≡ Some rest
outer_back [] rest f s = no_outer rest (not_true (pound.at rest) s)
outer_back (x ∷ xs) rest f s =
    let (g, h) = both_true (not (is_inner x.style)) (all_outer xs) f in
    stands outer_attributes (map attribute_of (x ∷ xs)) _ _ rest (attributes_print (attribute_of x) (all_printed (λ x. attribute_own (attribute_of x) []) xs) rest)
    (outer_step (is_inner x.style) x.tokens (map attribute_of xs) _ rest (not_true (is_inner x.style) g) (outer_back xs rest h s))

pub inner_back : (xs : List Attribute) (rest : List Tok) → all_inner xs ≡ true → not (pound_bang.at rest) ≡ true
    → inner_attributes.behind (map attribute_of xs) (all_printed (λ x. attribute_own (attribute_of x) []) xs ++ rest) ≡ Some rest
inner_back [] rest f s = no_inner rest (not_true (pound_bang.at rest) s)
inner_back (x ∷ xs) rest f s =
    let (g, h) = both_true (is_inner x.style) (all_inner xs) f in
    stands inner_attributes (map attribute_of (x ∷ xs)) _ _ rest (attributes_print (attribute_of x) (all_printed (λ x. attribute_own (attribute_of x) []) xs) rest)
    (inner_step (is_inner x.style) x.tokens (map attribute_of xs) _ rest g (inner_back xs rest h s))

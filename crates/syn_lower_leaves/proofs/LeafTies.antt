-- The equality of the parts that hold no others.
use Rattle.std.proofs.Common.{◌≡◌, ◌==◌, ◌↔◌, Bool, true, ◌&&◌, List, Option, Some, None, is_some, refl, sym, ◌∙◌, ap}
use Rattle.std.specs.Option.{option_eq}
use Rattle.std.specs.Cmp.Lexicographic.{pointwise}
use Rattle.syn_tokens.specs.Tok.{Tok}
use Rattle.syn_tokens.specs.Same.{same_list, same_list-true, same_list_equiv}
use Rattle.syn_lower_spec.specs.declared.label.LitKind.{LitKind}
use Rattle.syn_lower_spec.specs.declared.label.LitKind.TheVariants as kind
use Rattle.syn_lower_spec.specs.Text.{Text, is_number}
use Rattle.syn_lower_spec.specs.Tree.{LitTree, AttributeTree}
use Rattle.syn_lower_spec.specs.Equal.{IsEqualityOf}
use Rattle.syn_lower_leaves.specs.View.{signed, lifetime_of, attribute_of, is_inner, lit_of, lit_str_of, lit_int_of, lit_float_of, delimiter_of}
use Rattle.syn_lower_leaves.specs.declared.lifetime.Lifetime.{Lifetime}
use Rattle.syn_lower_leaves.specs.declared.lit.Lit.{Lit}
use Rattle.syn_lower_leaves.specs.declared.lit.Lit.TheVariants as lit
use Rattle.syn_lower_leaves.specs.declared.lit.LitStr.{LitStr}
use Rattle.syn_lower_leaves.specs.declared.lit.LitByteStr.{LitByteStr}
use Rattle.syn_lower_leaves.specs.declared.lit.LitCStr.{LitCStr}
use Rattle.syn_lower_leaves.specs.declared.lit.LitByte.{LitByte}
use Rattle.syn_lower_leaves.specs.declared.lit.LitChar.{LitChar}
use Rattle.syn_lower_leaves.specs.declared.lit.LitInt.{LitInt}
use Rattle.syn_lower_leaves.specs.declared.lit.LitFloat.{LitFloat}
use Rattle.syn_lower_leaves.specs.declared.lit.LitBool.{LitBool}
use Rattle.syn_lower_leaves.specs.declared.attr.Attribute.{Attribute}
use Rattle.syn_lower_leaves.specs.declared.attr.AttrStyle.{AttrStyle}
use Rattle.syn_lower_leaves.specs.declared.attr.AttrStyle.TheVariants as style
use Rattle.syn_lower_leaves.specs.declared.block.Block.{Block}
use Rattle.syn_lower_leaves.specs.declared.mac.MacroDelimiter.{MacroDelimiter}
use Rattle.syn_lower_leaves.specs.declared.mac.MacroDelimiter.TheVariants as mac
use Rattle.syn_lower_leaves.specs.contracts.lifetime.LifetimePartialEq.TheImpl as lifetime_eq
use Rattle.syn_lower_leaves.specs.contracts.lit.LitPartialEq.TheImpl as lit_eq
use Rattle.syn_lower_leaves.specs.contracts.lit.LitStrPartialEq.TheImpl as lit_str_eq
use Rattle.syn_lower_leaves.specs.contracts.lit.LitByteStrPartialEq.TheImpl as lit_byte_str_eq
use Rattle.syn_lower_leaves.specs.contracts.lit.LitCStrPartialEq.TheImpl as lit_c_str_eq
use Rattle.syn_lower_leaves.specs.contracts.lit.LitBytePartialEq.TheImpl as lit_byte_eq
use Rattle.syn_lower_leaves.specs.contracts.lit.LitCharPartialEq.TheImpl as lit_char_eq
use Rattle.syn_lower_leaves.specs.contracts.lit.LitIntPartialEq.TheImpl as lit_int_eq
use Rattle.syn_lower_leaves.specs.contracts.lit.LitFloatPartialEq.TheImpl as lit_float_eq
use Rattle.syn_lower_leaves.specs.contracts.lit.LitBoolPartialEq.TheImpl as lit_bool_eq
use Rattle.syn_lower_leaves.specs.contracts.attr.AttrStylePartialEq.TheImpl as style_eq
use Rattle.syn_lower_leaves.specs.contracts.attr.AttributePartialEq.TheImpl as attribute_eq
use Rattle.syn_lower_leaves.specs.contracts.block.BlockPartialEq.TheImpl as block_eq
use Rattle.syn_lower_leaves.specs.contracts.mac.MacroDelimiterPartialEq.TheImpl as delimiter_eq
use Rattle.syn_lower_leaves.proofs.Numbers.{no_sign}
use Rattle.syn_lower_leaves.proofs.Ties.{both_tie, on_tie, made_tie, some_tie, text_tie, pair_path}

-- ---- tokens and texts

pub toks_tie : IsEqualityOf (λ x. x) same_list
toks_tie = record { same = λ x y. (same_list-true x y, λ e. ap (λ l. same_list x l) (sym e) ∙ same_list_equiv.refl x) }

pub lifetime_tie : IsEqualityOf lifetime_of lifetime_eq.ghosts.eq
lifetime_tie = on_tie {C = Lifetime} (λ x. x.ident) text_tie

pub block_tie : IsEqualityOf (λ (x : Block). x.stmts) block_eq.ghosts.eq
block_tie = on_tie {C = Block} (λ x. x.stmts) toks_tie

pub style_tie : IsEqualityOf is_inner style_eq.ghosts.eq
style_tie = record { same = go }
  where
    go : (x y : AttrStyle) → (style_eq.ghosts.eq x y ≡ true) ↔ (is_inner x ≡ is_inner y)
    go style.Outer style.Outer = (λ h. refl, λ e. refl)
    go (style.Inner a) (style.Inner b) = (λ h. refl, λ e. refl)
    go _ _ = (λ h. absurd cc, λ e. absurd cc)

pub attribute_tie : IsEqualityOf attribute_of attribute_eq.ghosts.eq
attribute_tie =
    let it = made_tie {B = Bool × List Tok} {C = AttributeTree} (λ p. record { inner = p.0; tokens = p.1 }) (λ p q e. pair_path (ap (λ (r : AttributeTree). r.inner) e) (ap (λ (r : AttributeTree). r.tokens) e))
    (both_tie (on_tie {C = Attribute} (λ x. x.style) style_tie) (on_tie {C = Attribute} (λ x. x.tokens) toks_tie)) in it

pub delimiter_tie : IsEqualityOf delimiter_of delimiter_eq.ghosts.eq
delimiter_tie = record { same = go }
  where
    go : (x y : MacroDelimiter) → (delimiter_eq.ghosts.eq x y ≡ true) ↔ (delimiter_of x ≡ delimiter_of y)
    go (mac.Paren a) (mac.Paren b) = (λ h. refl, λ e. refl)
    go (mac.Brace a) (mac.Brace b) = (λ h. refl, λ e. refl)
    go (mac.Bracket a) (mac.Bracket b) = (λ h. refl, λ e. refl)
    go _ _ = (λ h. absurd cc, λ e. absurd cc)

-- ---- literals

one_kind : {A : Type 0} (k : LitKind) (token : A → Text) → IsEqualityOf {B = LitTree} (λ x. record { kind = k; text = token x }) (λ x y. pointwise ◌==◌ (token x) (token y))
one_kind {A = A} k token = record { same = λ x y. (λ h. ap (λ w. record { kind = k; text = w }) ((text_tie.same (token x) (token y)).0 h), λ e. (text_tie.same (token x) (token y)).1 (ap (λ (r : LitTree). r.text) e)) }

signed_once : {M : Type 0} (m n : Option M) (u v : Text) → is_number u ≡ true → is_number v ≡ true → signed m u ≡ signed n v → (is_some m ≡ is_some n) × (u ≡ v)
signed_once None None u v g h e = (refl, e)
signed_once (Some m) (Some n) u v g h e = (refl, cc)
signed_once None (Some n) u v g h e = absurd (let k = no_sign 45 v (sym (ap is_number e) ∙ g) in cc)
signed_once (Some m) None u v g h e = absurd (let k = no_sign 45 u (ap is_number e ∙ h) in cc)

signed_alike : {M : Type 0} (m n : Option M) (u v : Text) → is_some m ≡ is_some n → u ≡ v → signed m u ≡ signed n v
signed_alike None None u v g e = e
signed_alike (Some m) (Some n) u v g e = cc
signed_alike None (Some n) u v g e = absurd cc
signed_alike (Some m) None u v g e = absurd cc

signed_kind : {A M : Type 0} (k : LitKind) (minus : A → Option M) (token : A → Text) → ((x : A) → is_number (token x) ≡ true)
    → IsEqualityOf {B = LitTree} (λ x. record { kind = k; text = signed (minus x) (token x) }) (λ x y. option_eq (λ a b. true) (minus x) (minus y) && pointwise ◌==◌ (token x) (token y))
signed_kind {A} {M} k minus token number = record {
  same = λ x y. (
    λ h. let e = (it.same x y).0 h in ap (λ w. record { kind = k; text = w }) (signed_alike (minus x) (minus y) (token x) (token y) (ap (λ p. p.0) e) (ap (λ p. p.1) e)),
    λ e. let r = signed_once (minus x) (minus y) (token x) (token y) (number x) (number y) (ap (λ (r : LitTree). r.text) e) in (it.same x y).1 (pair_path r.0 r.1),
  );
}
  where
    it : IsEqualityOf {B = Bool × Text} (λ x. (is_some (minus x), token x)) (λ x y. option_eq (λ a b. true) (minus x) (minus y) && pointwise ◌==◌ (token x) (token y))
    it = both_tie (on_tie minus some_tie) (on_tie token text_tie)

pub lit_str_tie : IsEqualityOf lit_str_of lit_str_eq.ghosts.eq
lit_str_tie = one_kind {A = LitStr} kind.Str (λ x. x.token)

pub lit_byte_str_tie : IsEqualityOf (λ x. lit_of (lit.ByteStr x)) lit_byte_str_eq.ghosts.eq
lit_byte_str_tie = one_kind {A = LitByteStr} kind.ByteStr (λ x. x.token)

pub lit_c_str_tie : IsEqualityOf (λ x. lit_of (lit.CStr x)) lit_c_str_eq.ghosts.eq
lit_c_str_tie = one_kind {A = LitCStr} kind.CStr (λ x. x.token)

pub lit_byte_tie : IsEqualityOf (λ x. lit_of (lit.Byte x)) lit_byte_eq.ghosts.eq
lit_byte_tie = one_kind {A = LitByte} kind.Byte (λ x. x.token)

pub lit_char_tie : IsEqualityOf (λ x. lit_of (lit.Char x)) lit_char_eq.ghosts.eq
lit_char_tie = one_kind {A = LitChar} kind.Char (λ x. x.token)

pub lit_int_tie : IsEqualityOf lit_int_of lit_int_eq.ghosts.eq
lit_int_tie = signed_kind {A = LitInt} kind.Int (λ x. x.minus_token) (λ x. x.token) (λ x. x.number)

pub lit_float_tie : IsEqualityOf lit_float_of lit_float_eq.ghosts.eq
lit_float_tie = signed_kind {A = LitFloat} kind.Float (λ x. x.minus_token) (λ x. x.token) (λ x. x.number)

pub lit_bool_tie : IsEqualityOf (λ x. lit_of (lit.Bool x)) lit_bool_eq.ghosts.eq
lit_bool_tie = one_kind {A = LitBool} kind.Bool (λ x. x.word)

pub lit_tie : IsEqualityOf lit_of lit_eq.ghosts.eq
lit_tie = record { same = go }
  where
    go : (x y : Lit) → (lit_eq.ghosts.eq x y ≡ true) ↔ (lit_of x ≡ lit_of y)
    go (lit.Str x) (lit.Str y) = lit_str_tie.same x y
    go (lit.ByteStr x) (lit.ByteStr y) = lit_byte_str_tie.same x y
    go (lit.CStr x) (lit.CStr y) = lit_c_str_tie.same x y
    go (lit.Byte x) (lit.Byte y) = lit_byte_tie.same x y
    go (lit.Char x) (lit.Char y) = lit_char_tie.same x y
    go (lit.Int x) (lit.Int y) = lit_int_tie.same x y
    go (lit.Float x) (lit.Float y) = lit_float_tie.same x y
    go (lit.Bool x) (lit.Bool y) = lit_bool_tie.same x y
    go _ _ = (λ h. absurd cc, λ e. absurd (let k = ap (λ (r : LitTree). r.kind) e in cc))

pub ruleset leaf_ties = (lifetime_tie, block_tie, style_tie, attribute_tie, delimiter_tie, lit_tie, lit_str_tie, lit_byte_str_tie, lit_c_str_tie, lit_byte_tie, lit_char_tie, lit_int_tie, lit_float_tie, lit_bool_tie)

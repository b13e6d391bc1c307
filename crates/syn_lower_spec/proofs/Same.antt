-- Being the same is being equal.
use Rattle.std.specs.Prelude.{◌≡◌, Bool, true, false, not, ◌&&◌, List, refl}
use Rattle.std.proofs.lemmas.Slice.Eq.{bytes_eq-Decides}
use Rattle.std.specs.Str.{bytes_eq}
use Rattle.syn_lexer.specs.declared.front.Delimiter.{Delimiter}
use Rattle.syn_lexer.specs.declared.front.Delimiter.TheVariants as del
use Rattle.syn_tokens.specs.Tok.{Tok}
use Rattle.syn_tokens.specs.Front.{same_delimiter}
use Rattle.syn_tokens.specs.Same.{same_list-true, same_list_equiv, same_delimiter-true}
use Rattle.syn_lower_spec.specs.declared.label.LitKind.{LitKind}
use Rattle.syn_lower_spec.specs.declared.label.LitKind.TheVariants as kind
use Rattle.syn_lower_spec.specs.Tree.{LitTree}
use Rattle.syn_lower_spec.specs.Same.{same_toks, same_kind, same_lit, same_group}
use Rattle.syn_lower_spec.proofs.Forms.{Compares}

pub both_true : (a b : Bool) → (a && b) ≡ true → (a ≡ true) × (b ≡ true)
both_true true b h = (refl, h)
both_true false b h = absurd cc

pub same_delimiter-refl : (d : Delimiter) → same_delimiter d d ≡ true
same_delimiter-refl del.Parenthesis = refl
same_delimiter-refl _ = refl

pub same_toks-refl : (l : List Tok) → same_toks l l ≡ true
unfolding same_toks
same_toks-refl l = same_list_equiv.refl l

pub same_toks-true : (l m : List Tok) → same_toks l m ≡ true → l ≡ m
unfolding same_toks
same_toks-true l m h = same_list-true l m h

pub same_kind-refl : (k : LitKind) → same_kind k k ≡ true
same_kind-refl kind.Str = refl
same_kind-refl _ = refl

pub same_kind-true : (k j : LitKind) → same_kind k j ≡ true → k ≡ j
same_kind-true kind.Str kind.Str h = refl
same_kind-true kind.ByteStr kind.ByteStr h = refl
same_kind-true kind.CStr kind.CStr h = refl
same_kind-true kind.Byte kind.Byte h = refl
same_kind-true kind.Char kind.Char h = refl
same_kind-true kind.Int kind.Int h = refl
same_kind-true kind.Float kind.Float h = refl
same_kind-true kind.Bool kind.Bool h = refl
same_kind-true _ _ h = absurd cc

pub same_lit-refl : (x : LitTree) → same_lit x x ≡ true
unfolding same_lit
same_lit-refl x = rw (same_kind-refl x.kind, (bytes_eq-Decides x.text x.text).1 refl) refl

pub compares_texts : Compares bytes_eq
compares_texts = record { itself = λ x. (bytes_eq-Decides x x).1 refl; equal = λ x y h. (bytes_eq-Decides x y).0 h }

pub compares_toks : Compares same_toks
compares_toks = record { itself = same_toks-refl; equal = same_toks-true }

pub compares_lits : Compares same_lit
unfolding same_lit
compares_lits = record { itself = same_lit-refl; equal = equal }
  where
    equal : (x y : LitTree) → same_lit x y ≡ true → x ≡ y
    equal x y h =
        let (a, b) = both_true (same_kind x.kind y.kind) (bytes_eq x.text y.text) h in
        let e : x.kind ≡ y.kind = same_kind-true x.kind y.kind a in
        let f : x.text ≡ y.text = (bytes_eq-Decides x.text y.text).0 b in
        rw (e, f) refl

pub compares_groups : Compares same_group
unfolding same_group
compares_groups = record { itself = λ x. rw (same_delimiter-refl x.0, same_toks-refl x.1) refl; equal = equal }
  where
    equal : (x y : Delimiter × List Tok) → same_group x y ≡ true → x ≡ y
    equal x y h =
        let (a, b) = both_true (same_delimiter x.0 y.0) (same_toks x.1 y.1) h in
        let e : x.0 ≡ y.0 = same_delimiter-true x.0 y.0 a in
        let f : x.1 ≡ y.1 = same_toks-true x.1 y.1 b in
        rw (e, f) refl

pub not_true : (b : Bool) → not b ≡ true → b ≡ false
not_true true h = absurd cc
not_true false h = refl

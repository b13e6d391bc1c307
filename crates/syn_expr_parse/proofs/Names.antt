-- A name that nothing goes on is read as the path of it alone.
use Rattle.std.specs.Prelude.{◌&&◌, ◌||◌, ◌==◌, not}
use Rattle.std.proofs.Common.{◌≡◌, Bool, true, false, List, [], ◌∷◌, drop, codes, Some, refl, ap, sym, ◌∙◌}
use Rattle.std.specs.Str.{bytes_eq}
use Rattle.std.proofs.Math.Bool.{and-false}
use Rattle.std.proofs.lemmas.Bool.{and_parts, or_parts, not-true}
use Rattle.syn_lexer.specs.Keywords.{is_reserved_word}
use Rattle.syn_lexer.specs.declared.front.Delimiter.TheVariants as del
use Rattle.syn_lexer.specs.declared.front.Spacing.TheVariants as spacing
use Rattle.syn_tokens.specs.Tok.{Tok, ident, punct, group}
use Rattle.syn_tokens.specs.Front.{group_at}
use Rattle.syn_lower_spec.specs.declared.label.PathStyle.TheVariants as style
use Rattle.syn_lower_spec.specs.Form.{fix, iterate, more}
use Rattle.syn_lower_spec.specs.Mark.{sign_at, brace_at, colon2, pound, not_ne}
use Rattle.syn_lower_spec.specs.Text.{Text, is_segment, stands_alone}
use Rattle.syn_lower_spec.specs.Tree as t
use Rattle.syn_lower_spec.specs.Part.{qpath, path, pieces, segment, segment_name, arguments, turbofish_at, no_arguments, macro_end, type}
use Rattle.syn_lower_spec.proofs.PatsBack.{reserved_not}
use Rattle.syn_expr_spec.specs.declared.kinds.Place.{Place}
use Rattle.syn_expr_spec.specs.Path.{invisible_at}
use Rattle.syn_expr_spec.specs.Tree as e
use Rattle.syn_expr_spec.specs.Head.{builtin_at}
use Rattle.syn_expr_spec.specs.Stands.{leaf_stands, path_of}
use Rattle.syn_expr_spec.specs.Read.{atom, named_read, expr}
use Rattle.syn_expr_spec.proofs.GroupForms.{plain_read}
use Rattle.syn_expr_spec.proofs.NameFronts.{named_word, one_word, word_read}
use Rattle.syn_expr_tokens.proofs.Choices.{name_segment, try_reserved, no_try}
use Rattle.syn_expr_parse.specs.Names.{may_go_on, is_alone}

-- nothing that goes on a name comes first
record Ended (l : List Tok) : Type 0 where
  pub no_colons : colon2.at l ≡ false
  pub no_bang : not_ne.at l ≡ false
  pub no_pound : pound.at l ≡ false
  pub no_brace : brace_at l ≡ false

ended : (l : List Tok) → may_go_on l ≡ false → Ended l
unfolding sign_at brace_at group_at
ended (punct c spacing.Alone ∷ l) h =
    let (a, b) = or_parts (c == 58) _ h in
    let (d, g) = or_parts (c == 33) _ b in
    record { no_colons = rw a refl; no_bang = rw d refl; no_pound = rw g refl; no_brace = refl }
ended (punct c spacing.Joint ∷ l) h =
    let (a, b) = or_parts (c == 58) _ h in
    let (d, g) = or_parts (c == 33) _ b in
    record { no_colons = rw a refl; no_bang = rw d refl; no_pound = rw g refl; no_brace = refl }
ended (group del.Brace i ∷ l) h = absurd cc
ended (group _ i ∷ l) h = record { no_colons = refl; no_bang = refl; no_pound = refl; no_brace = refl }
ended _ h = record { no_colons = refl; no_bang = refl; no_pound = refl; no_brace = refl }

no_builtin : (w : Text) (l : List Tok) → pound.at l ≡ false → builtin_at (ident w ∷ l) ≡ false
unfolding builtin_at
no_builtin w l h = rw h (and-false _)

named_first : (w : Text) (l : List Tok) (p : Place) → is_reserved_word w ≡ false → Ended l → atom expr p (ident w ∷ l) ≡ named_read expr p (ident w ∷ l)
unfolding atom invisible_at group_at
named_first w l p h g =
    let n = named_word w l (name_segment w h) in
    rw (n.no_leaf (no_try w l h) (no_builtin w l g.no_pound), n.no_prefix, n.no_round, n.no_bracket, n.no_become, n.no_if, n.no_loop, n.no_match) refl

word_path : (w : Text) (l : List Tok) → is_segment w ≡ true → colon2.at l ≡ false → (qpath type style.Expr).reads (ident w ∷ l) ≡ Some (one_word w, l)
unfolding qpath path pieces segment segment_name arguments turbofish_at no_arguments more fix iterate one_word sign_at
word_path w (x ∷ l) g c = word_read w x l g c
word_path w [] g c = by_test (stands_alone w) refl
  where
    by_test : (b : Bool) → stands_alone w ≡ b → (qpath type style.Expr).reads (ident w ∷ []) ≡ Some (one_word w, [])
    by_test true v = rw (g, v) refl
    by_test false v = rw (g, v) refl

by_tests : (b c : Bool) → ((b || true) && not ((c && true) && false)) ≡ true
by_tests true true = refl
by_tests true false = refl
by_tests false true = refl
by_tests false false = refl

name_stands : (w : Text) (l : List Tok) (p : Place) → is_reserved_word w ≡ false → Ended l
    → leaf_stands p (e.path t.no_qself (record { leading = false; segments = record { ident = w; arguments = t.no_arguments } ∷ []; trailing = false })) l ≡ true
unfolding leaf_stands
name_stands w l p h g = rw (g.no_brace, g.no_pound, reserved_not w (codes "try") h try_reserved) (by_tests p.condition (bytes_eq w (codes "builtin")))

word_visible : (w : Text) (l : List Tok) → invisible_at (ident w ∷ l) ≡ false
unfolding invisible_at group_at
word_visible w l = refl

named_alone : (w : Text) (l : List Tok) (p : Place) → is_reserved_word w ≡ false → Ended l → named_read expr p (ident w ∷ l) ≡ Some (path_of w, l)
unfolding named_read macro_end one_word
named_alone w l p h g = rw (plain_read (not p.condition) (ident w ∷ l) (word_visible w l), word_path w l (name_segment w h) g.no_colons, g.no_bang, g.no_brace, name_stands w l p h g) refl

word_alone : (w : Text) (l : List Tok) (p : Place) → is_alone (ident w ∷ l) ≡ true → atom expr p (ident w ∷ l) ≡ Some (path_of w, l)
word_alone w l p h =
    let (a, b) = and_parts (not (is_reserved_word w)) (not (may_go_on l)) h in
    let g = ended l (not-true _ b) in
    named_first w l p (not-true _ a) g ∙ named_alone w l p (not-true _ a) g

pub name_alone : (w : Text) (l : List Tok) (p : Place) → l ≡ ident w ∷ drop 1 l → is_alone l ≡ true → atom expr p l ≡ Some (path_of w, drop 1 l)
name_alone w l p i h = ap (λ z. atom expr p z) i ∙ word_alone w (drop 1 l) p (ap is_alone (sym i) ∙ h)

-- A named field is no callee: before a group in parentheses its name is that of a method. So a base that carries a trailer,
-- and comes before it, fits it.
use Rattle.std.specs.Prelude.{not, ◌||◌, ◌&&◌}
use Rattle.std.proofs.Common.{◌≡◌, ℕ, Bool, true, false, cond, List, [], ◌∷◌, drop, Option, Some, None, refl, ap, subst}
use Rattle.syn_lexer.specs.Keywords.{is_reserved_word}
use Rattle.syn_lexer.specs.declared.front.Delimiter.TheVariants as del
use Rattle.std.specs.Str.{bytes_eq}
use Rattle.std.proofs.lemmas.Bool.{and_parts, or_parts}
use Rattle.syn_tokens.specs.Tok.{Tok, ident, literal}
use Rattle.syn_lower_spec.specs.Text.{Text}
use Rattle.syn_lower_spec.specs.Form.{if_same}
use Rattle.syn_lower_spec.specs.Mark.{round_at, colon2}
use Rattle.syn_lower_spec.specs.Pat.{a_name, an_index, member, same_member, name_if, index_if, index_of}
use Rattle.syn_lower_spec.proofs.Weights.{some_is}
use Rattle.syn_expr_spec.specs.declared.kinds.Place.{Place}
use Rattle.syn_expr_spec.specs.Tree as e
use Rattle.syn_expr_spec.specs.Tree.{Tree, Children, Trailer, tail, none}
use Rattle.syn_expr_spec.specs.Head.{dotted, method_at, await_word}
use Rattle.syn_expr_spec.specs.Slot.{Slot, trailer_holder, nothing, within}
use Rattle.syn_expr_spec.specs.Front.{dot_at}
use Rattle.syn_expr_spec.specs.Stands.{Node, Content, is_tail, is_indexed, holds_none, holds_within, is_base, fits_base, carries_trailer, carries, is_attributed, is_pounded, is_call, is_named_field, trailer_head, name_at, named_behind, with_steps, fields_of}

-- ---- after a name that is no method's

named_opens : (w : Text) (l n : List Tok) → dotted.behind (e.field (a_name w)) l ≡ Some n → (method_at l ≡ false) × (member.behind (a_name w) l ≡ Some n)
unfolding dotted
named_opens w l n h = by_tests (await_word.at l) (method_at l) (member.behind (a_name w) l) h
  where
    by_tests : (a m : Bool) (o : Option (List Tok)) → cond {A = Option (List Tok)} a (cond a None None) (cond m None o) ≡ Some n → (m ≡ false) × (o ≡ Some n)
    by_tests true m o h = absurd cc
    by_tests false true o h = absurd cc
    by_tests false false o h = (refl, h)

name_left : (w : Text) (l n : List Tok) → method_at l ≡ false → member.behind (a_name w) l ≡ Some n → round_at n ≡ false
unfolding method_at member
name_left w (ident v ∷ r) n g h = by_word (is_reserved_word v) g h
  where
    by_same : (b : Bool) → (round_at r || colon2.at r) ≡ false → cond {A = Option (List Tok)} b (Some r) None ≡ Some n → round_at n ≡ false
    by_same true g h = let (a, b) = or_parts (round_at r) (colon2.at r) g in subst (λ z. round_at z ≡ false) (some_is h) a
    by_same false g h = absurd cc

    by_word : (b : Bool) → (not b && (round_at r || colon2.at r)) ≡ false → if_same same_member (a_name w) (name_if (not b) v r) ≡ Some n → round_at n ≡ false
    by_word true g h = absurd cc
    by_word false g h = by_same (bytes_eq w v) g h
name_left w (literal s ∷ r) n g h = by_index (index_of s) h
  where
    by_index : (o : Option ℕ) → if_same same_member (a_name w) (index_if o r) ≡ Some n → round_at n ≡ false
    by_index None h = absurd cc
    by_index (Some i) h = absurd cc
name_left w _ n g h = absurd cc

named_left : (w : Text) (m h : List Tok) (is : List ℕ) → trailer_head (e.field (a_name w)) m ≡ Some (is, h) → round_at h ≡ false
unfolding trailer_head
named_left w m h is g = by_dot (dot_at m) g
  where
    by_left : (js : List ℕ) (l : List Tok) (o : Option (List Tok)) → dotted.behind (e.field (a_name w)) l ≡ o → with_steps js o ≡ Some (is, h) → round_at h ≡ false
    by_left js l None d g = absurd cc
    by_left js l (Some n) d g =
        let (a, b) = named_opens w l n d in
        subst (λ z. round_at z ≡ false) (ap (λ (r : List ℕ × List Tok). r.1) (some_is g)) (name_left w l n a b)

    by_name : (o : Option (List ℕ × List Tok)) → named_behind (e.field (a_name w)) o ≡ Some (is, h) → round_at h ≡ false
    by_name None g = absurd cc
    by_name (Some p) g = by_left p.0 p.1 (dotted.behind (e.field (a_name w)) p.1) refl g

    by_dot : (b : Bool) → cond b (named_behind (e.field (a_name w)) (name_at (drop 1 m))) None ≡ Some (is, h) → round_at h ≡ false
    by_dot true g = by_name (name_at (drop 1 m)) g
    by_dot false g = absurd cc

none_held : {h n : List Tok} {ks : Children} → Content nothing h ks n → h ≡ n
none_held holds_none = refl

tail_left : (b : Tree) (k : Trailer) (m h n : List Tok) (is : List ℕ) (ks : Children) → trailer_head k m ≡ Some (is, h) → Content (trailer_holder k) h ks n
    → is_named_field (tail b k ks) ≡ true → round_at n ≡ false
tail_left b (e.field (a_name w)) m h n is ks t c g = subst (λ z. round_at z ≡ false) (none_held c) (named_left w m h is t)
tail_left b (e.field (an_index i)) m h n is ks t c g = absurd cc
tail_left b _ m h n is ks t c g = absurd cc

fields_unnamed : (b : Tree) (i : ℕ) (is : List ℕ) → is_named_field (fields_of b (i ∷ is)) ≡ false
fields_unnamed b i [] = refl
fields_unnamed b i (j ∷ is) = fields_unnamed (tail b (e.field (an_index i)) none) j is

named_no_round : {p : Place} {l m : List Tok} {b : Tree} → Node p l b m → is_named_field b ≡ true → round_at m ≡ false
named_no_round (is_tail {m = m} {h = h} {n = n} {x = x} {k = k} {is = is} {ks = ks} d f t c q) g = tail_left x k m h n is ks t c g
named_no_round (is_indexed {b = b} {i = i} {is = is} d f t q) g = let a = fields_unnamed b i is in absurd (cc (q, g, a))
named_no_round _ g = absurd cc

-- ---- bases

round_held : {s : Slot} {b : Bool} {h n : List Tok} {ks : Children} → Content (within del.Parenthesis s b) h ks n → round_at h ≡ true
unfolding round_at
round_held (holds_within g o f) = rw g refl

no_callee : {p : Place} {l m : List Tok} {b : Tree} (k : Trailer) (h n : List Tok) (is : List ℕ) (ks : Children) → Node p l b m → trailer_head k m ≡ Some (is, h)
    → Content (trailer_holder k) h ks n → not (is_call k && is_named_field b) ≡ true
unfolding trailer_head
no_callee {p} {l} {m} {b} e.call h n is ks d t c = by_named (is_named_field b) refl
  where
    by_named : (z : Bool) → is_named_field b ≡ z → not z ≡ true
    by_named false g = refl
    by_named true g =
        let a : round_at m ≡ false = named_no_round d g in
        let i : m ≡ h = ap (λ (r : List ℕ × List Tok). r.1) (some_is t) in
        let j : round_at h ≡ true = round_held c in
        absurd (cc (a, i, j))
no_callee _ h n is ks d t c = refl

-- a base that carries the trailer fits it
pub fits_there : {p : Place} {l m h n : List Tok} {b : Tree} {is : List ℕ} {ks : Children} (k : Trailer) → Node p l b m → carries_trailer p k b ≡ true
    → trailer_head k m ≡ Some (is, h) → Content (trailer_holder k) h ks n → fits_base p k b ≡ true
unfolding fits_base carries_trailer
fits_there {p} {l} {m} {h} {n} {b} {is} {ks} k d f t c =
    let (x, y) = and_parts (carries b) _ f in
    let (z, w) = and_parts (not (is_attributed b || is_pounded b)) _ y in
    rw (x, z, w, no_callee k h n is ks d t c) refl

pub fits_index : (p : Place) (i : ℕ) (b : Tree) → carries_trailer p (e.field (an_index i)) b ≡ true → fits_base p (e.field (an_index i)) b ≡ true
unfolding fits_base carries_trailer
fits_index p i b f =
    let (x, y) = and_parts (carries b) _ f in
    let (z, w) = and_parts (not (is_attributed b || is_pounded b)) _ y in
    rw (x, z) refl

-- and what fits carries
pub carries_it : (p : Place) (k : Trailer) (b : Tree) → fits_base p k b ≡ true → carries_trailer p k b ≡ true
unfolding fits_base carries_trailer
carries_it p k b f =
    let (a, c) = and_parts (is_base k b) _ f in
    let (x, y) = and_parts (carries b) _ a in
    let (z, w) = and_parts (not (is_attributed b || is_pounded b)) _ y in
    rw (x, z, c) refl

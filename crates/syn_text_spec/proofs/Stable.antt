-- What is printed of a tree that was read of a text is read again, and printed again as it is.
use Rattle.std.proofs.Common.{◌≡◌, ℕ, Bool, true, false, List, [], ◌∷◌, ◌++◌, ◌∙◌, refl, sym, ap, subst, chars}
use Rattle.std.specs.Prelude.{if◌then◌else◌}
use Rattle.std.specs.Str.{IsUtf8}
use Rattle.std.proofs.lemmas.Bool.{and_parts, and_from}
use Rattle.syn_tokens.specs.Tok.{Tok}
use Rattle.syn_tokens.specs.Lex.{Spells}
use Rattle.syn_tokens.specs.Text.{text}
use Rattle.syn_tokens.proofs.Lexes.{one_reading}
use Rattle.syn_lower_spec.specs.Tree.{AttributeTree}
use Rattle.syn_expr_spec.specs.Place.{plain}
use Rattle.syn_expr_spec.specs.Tree as e
use Rattle.syn_expr_spec.specs.Tree.{Tree, Children, Leaf, Frame, Piece, Ending, own_tokens, clear, fill, flatten, flatten_children, prepend, attributed_with, outers, inners, inner_in, leaf_inner, frame_inner, children_inner, outside, has_braces, with_inner, leaf_with, children_with, frame_has_braces}
use Rattle.syn_expr_spec.specs.Stands.{Stands}
use Rattle.syn_expr_spec.specs.Printed.{Position, context_of, printed_in}
use Rattle.syn_expr_spec.specs.WellFormed.{is_well_formed}
use Rattle.syn_expr_spec.proofs.Exact.{at_most_one}
use Rattle.syn_expr_spec.proofs.Flat.{flatten_is_idempotent, flatten_clear}
use Rattle.syn_expr_spec.proofs.Same.{printed_is_same}
use Rattle.syn_expr_spec.proofs.StoodFilled.{stood_filled}
use Rattle.syn_text.specs.Lexed.{is_lexed}
use Rattle.syn_text.proofs.Again.{text_is_read_again}
use Rattle.syn_text.proofs.Exact.{exact}
use Rattle.syn_text_spec.specs.Leaves.{attributes_lexed, body_lexed, lexed_if, lifetime_lexed, leaf_lexed, prefix_lexed, postfix_lexed, trailer_lexed, frame_lexed, piece_lexed, ending_lexed, leaves_lexed, children_lexed}
use Rattle.syn_text_spec.specs.Laws.{verbatim_lexed, verbatims_lexed, children_verbatims_lexed, leaf_is_ordinary, frame_is_ordinary, is_ordinary, children_ordinary, IsStable, unchanged, TextIsStable, IsReadOfText, ReadTextIsStable}
use Rattle.syn_text_spec.proofs.Lists.{lexed, attributes}
use Rattle.syn_text_spec.proofs.FindTrees.{tree_leaves}
use Rattle.syn_text_spec.proofs.FitTrees.{read_is_well_formed}
use Rattle.syn_text_spec.proofs.ReadBack.{printed_is_lexed, text_is_read_back}
use Rattle.syn_text_spec.proofs.Twice.{stands_alone, own_twice}

-- ---- an ordinary tree keeps no verbatim tokens

mutual
  no_verbatims : (x : Tree) → is_ordinary x ≡ true → verbatims_lexed x ≡ true
  no_verbatims (e.leaf k) h = by_leaf k h
    where
      by_leaf : (k : Leaf) → leaf_is_ordinary k ≡ true → verbatim_lexed k ≡ true
      by_leaf (e.verbatim ts) h = absurd cc
      by_leaf (e.lit x) h = refl
      by_leaf _ h = refl
  no_verbatims (e.paren m x) h = no_verbatims x h
  no_verbatims (e.attributed a more x) h = no_verbatims x h
  no_verbatims (e.prefixed k gs x) h = no_verbatims x h
  no_verbatims (e.infixed x k y) h = let p = and_parts (is_ordinary x) (is_ordinary y) h in and_from _ _ (no_verbatims x p.0) (no_verbatims y p.1)
  no_verbatims (e.postfixed x k) h = no_verbatims x h
  no_verbatims (e.tail b k ks) h = let p = and_parts (is_ordinary b) (children_ordinary ks) h in and_from _ _ (no_verbatims b p.0) (no_verbatims_in ks p.1)
  no_verbatims (e.frame k ks) h = no_verbatims_in ks (and_parts (frame_is_ordinary k) (children_ordinary ks) h).1

  no_verbatims_in : (ks : Children) → children_ordinary ks ≡ true → children_verbatims_lexed ks ≡ true
  no_verbatims_in e.none h = refl
  no_verbatims_in (e.child k c x ks) h = let p = and_parts (is_ordinary x) (children_ordinary ks) h in and_from _ _ (no_verbatims x p.0) (no_verbatims_in ks p.1)

-- ---- without its parentheses a tree has lexed leaves still

one_of : (b : Bool) (xs ys : List AttributeTree) → attributes_lexed xs ≡ true → attributes_lexed ys ≡ true → attributes_lexed (if b then xs else ys) ≡ true
one_of true xs ys h g = h
one_of false xs ys h g = g

outers_lexed : (ats : List AttributeTree) → attributes_lexed ats ≡ true → attributes_lexed (outers ats) ≡ true
outers_lexed [] h = refl
outers_lexed (a ∷ more) h =
    let p = and_parts (is_lexed a.tokens) (attributes_lexed more) h in
    let q = outers_lexed more p.1 in
    one_of a.inner (outers more) (a ∷ outers more) q (and_from _ _ p.0 q)

inners_lexed : (ats : List AttributeTree) → attributes_lexed ats ≡ true → attributes_lexed (inners ats) ≡ true
inners_lexed [] h = refl
inners_lexed (a ∷ more) h =
    let p = and_parts (is_lexed a.tokens) (attributes_lexed more) h in
    let q = inners_lexed more p.1 in
    one_of a.inner (a ∷ inners more) (inners more) (and_from _ _ p.0 q) q

both_lexed : (xs ys : List AttributeTree) → attributes_lexed xs ≡ true → attributes_lexed ys ≡ true → attributes_lexed (xs ++ ys) ≡ true
both_lexed [] ys h g = g
both_lexed (a ∷ xs) ys h g = let p = and_parts (is_lexed a.tokens) (attributes_lexed xs) h in and_from _ _ p.0 (both_lexed xs ys p.1 g)

outside_lexed : (t : Tree) (ats : List AttributeTree) → attributes_lexed ats ≡ true → attributes_lexed (outside t ats) ≡ true
outside_lexed t ats h = one_of (has_braces t) (outers ats) ats (outers_lexed ats h) h

attributed_lexed : (ats : List AttributeTree) (t : Tree) → attributes_lexed ats ≡ true → leaves_lexed t ≡ true → leaves_lexed (attributed_with ats t) ≡ true
attributed_lexed [] t h g = g
attributed_lexed (a ∷ more) t h g = let p = and_parts (is_lexed a.tokens) (attributes_lexed more) h in and_from _ _ p.0 (and_from _ _ p.1 g)

leaf_inner_lexed : (k : Leaf) → leaf_lexed k ≡ true → attributes_lexed (leaf_inner k) ≡ true
leaf_inner_lexed (e.block w b) h = (and_parts (attributes_lexed b.inner) (is_lexed b.tokens) (and_parts (lexed_if lifetime_lexed w) (body_lexed b) h).1).0
leaf_inner_lexed (e.loop_expr w b) h = (and_parts (attributes_lexed b.inner) (is_lexed b.tokens) (and_parts (lexed_if lifetime_lexed w) (body_lexed b) h).1).0
leaf_inner_lexed (e.unsafe_block b) h = (and_parts (attributes_lexed b.inner) (is_lexed b.tokens) h).0
leaf_inner_lexed (e.const_block b) h = (and_parts (attributes_lexed b.inner) (is_lexed b.tokens) h).0
leaf_inner_lexed (e.lit x) h = refl
leaf_inner_lexed _ h = refl

leaf_with_lexed : (ats : List AttributeTree) (k : Leaf) → attributes_lexed ats ≡ true → leaf_lexed k ≡ true → leaf_lexed (leaf_with ats k) ≡ true
leaf_with_lexed ats (e.block w b) g h =
    let p = and_parts (lexed_if lifetime_lexed w) (body_lexed b) h in
    and_from _ _ p.0 (and_from _ _ g (and_parts (attributes_lexed b.inner) (is_lexed b.tokens) p.1).1)
leaf_with_lexed ats (e.loop_expr w b) g h =
    let p = and_parts (lexed_if lifetime_lexed w) (body_lexed b) h in
    and_from _ _ p.0 (and_from _ _ g (and_parts (attributes_lexed b.inner) (is_lexed b.tokens) p.1).1)
leaf_with_lexed ats (e.unsafe_block b) g h = and_from _ _ g (and_parts (attributes_lexed b.inner) (is_lexed b.tokens) h).1
leaf_with_lexed ats (e.const_block b) g h = and_from _ _ g (and_parts (attributes_lexed b.inner) (is_lexed b.tokens) h).1
leaf_with_lexed ats (e.lit x) g h = h
leaf_with_lexed ats _ g h = h

by_ending : (k : Piece) (c : Ending) (t : Tree) (ks : Children) → ending_lexed c ≡ true → attributes_lexed (children_inner ks) ≡ true → attributes_lexed (children_inner (e.child k c t ks)) ≡ true
by_ending k (e.braced b) t ks g more = (and_parts (attributes_lexed b.inner) (is_lexed b.tokens) g).0
by_ending k (e.opened ats) t ks g more = g
by_ending k e.comma t ks g more = more
by_ending k e.no_ending t ks g more = more

children_inner_lexed : (ks : Children) → children_lexed ks ≡ true → attributes_lexed (children_inner ks) ≡ true
children_inner_lexed e.none h = refl
children_inner_lexed (e.child k c t ks) h =
    let p = and_parts (piece_lexed k) _ h in
    let q = and_parts (ending_lexed c) _ p.1 in
    let r = and_parts (leaves_lexed t) (children_lexed ks) q.1 in
    by_ending k c t ks q.0 (children_inner_lexed ks r.1)

-- with these attributes in the first braces
opened_with : (ats : List AttributeTree) (k : Piece) (c : Ending) (t : Tree) (ks : Children) → attributes_lexed ats ≡ true → piece_lexed k ≡ true → ending_lexed c ≡ true → leaves_lexed t ≡ true
    → children_lexed ks ≡ true → children_lexed (children_with ats ks) ≡ true → children_lexed (children_with ats (e.child k c t ks)) ≡ true
opened_with ats k (e.braced b) t ks g p q r u v = and_from _ _ p (and_from _ _ (and_from _ _ g (and_parts (attributes_lexed b.inner) (is_lexed b.tokens) q).1) (and_from _ _ r u))
opened_with ats k (e.opened old) t ks g p q r u v = and_from _ _ p (and_from _ _ g (and_from _ _ r u))
opened_with ats k e.comma t ks g p q r u v = and_from _ _ p (and_from _ _ q (and_from _ _ r v))
opened_with ats k e.no_ending t ks g p q r u v = and_from _ _ p (and_from _ _ q (and_from _ _ r v))

children_with_lexed : (ats : List AttributeTree) (ks : Children) → attributes_lexed ats ≡ true → children_lexed ks ≡ true → children_lexed (children_with ats ks) ≡ true
children_with_lexed ats e.none g h = refl
children_with_lexed ats (e.child k c t ks) g h =
    let p = and_parts (piece_lexed k) _ h in
    let q = and_parts (ending_lexed c) _ p.1 in
    let r = and_parts (leaves_lexed t) (children_lexed ks) q.1 in
    opened_with ats k c t ks g p.0 q.0 r.0 r.1 (children_with_lexed ats ks g r.1)

frame_inner_lexed : (k : Frame) (ks : Children) → children_lexed ks ≡ true → attributes_lexed (frame_inner k ks) ≡ true
frame_inner_lexed k ks h = one_of (frame_has_braces k) (children_inner ks) [] (children_inner_lexed ks h) refl

inner_lexed : (t : Tree) → leaves_lexed t ≡ true → attributes_lexed (inner_in t) ≡ true
inner_lexed (e.leaf k) h = leaf_inner_lexed k h
inner_lexed (e.frame k ks) h = frame_inner_lexed k ks (and_parts (frame_lexed k) (children_lexed ks) h).1
inner_lexed _ h = refl

frame_with_lexed : (ats : List AttributeTree) (k : Frame) (ks : Children) (b : Bool) → attributes_lexed ats ≡ true → children_lexed ks ≡ true
    → children_lexed (if b then children_with ats ks else ks) ≡ true
frame_with_lexed ats k ks true g h = children_with_lexed ats ks g h
frame_with_lexed ats k ks false g h = h

with_inner_lexed : (ats : List AttributeTree) (t : Tree) → attributes_lexed ats ≡ true → leaves_lexed t ≡ true → leaves_lexed (with_inner ats t) ≡ true
with_inner_lexed ats (e.leaf k) g h = leaf_with_lexed ats k g h
with_inner_lexed ats (e.frame k ks) g h =
    let p = and_parts (frame_lexed k) (children_lexed ks) h in
    and_from _ _ p.0 (frame_with_lexed ats k ks (frame_has_braces k) g p.1)
with_inner_lexed ats (e.paren m t) g h = h
with_inner_lexed ats _ g h = h

-- before what has no attributes
unattributed_lexed : (ats : List AttributeTree) (t : Tree) → attributes_lexed ats ≡ true → leaves_lexed t ≡ true
    → leaves_lexed (attributed_with (outside t ats) (with_inner (inners ats ++ inner_in t) t)) ≡ true
unattributed_lexed ats t g h =
    attributed_lexed (outside t ats) (with_inner (inners ats ++ inner_in t) t) (outside_lexed t ats g)
    (with_inner_lexed (inners ats ++ inner_in t) t (both_lexed (inners ats) (inner_in t) (inners_lexed ats g) (inner_lexed t h)) h)

prepend_lexed : (ats : List AttributeTree) (t : Tree) → attributes_lexed ats ≡ true → leaves_lexed t ≡ true → leaves_lexed (prepend ats t) ≡ true
prepend_lexed ats (e.attributed b bs t) g h =
    let p = and_parts (is_lexed b.tokens) _ h in
    let q = and_parts (attributes_lexed bs) (leaves_lexed t) p.1 in
    attributed_lexed (outside t ats ++ b ∷ bs) (with_inner (inners ats ++ inner_in t) t)
    (both_lexed (outside t ats) (b ∷ bs) (outside_lexed t ats g) (and_from _ _ p.0 q.0))
    (with_inner_lexed (inners ats ++ inner_in t) t (both_lexed (inners ats) (inner_in t) (inners_lexed ats g) (inner_lexed t q.1)) q.1)
prepend_lexed ats (e.leaf (e.verbatim ts)) g h = (attributes (outers ats) (outers_lexed ats g) (lexed h)).is
prepend_lexed ats (e.leaf (e.lit x)) g h = unattributed_lexed ats (e.leaf (e.lit x)) g h
prepend_lexed ats (e.leaf k) g h = unattributed_lexed ats (e.leaf k) g h
prepend_lexed ats t g h = unattributed_lexed ats t g h

mutual
  flatten_lexed : (t : Tree) → leaves_lexed t ≡ true → leaves_lexed (flatten t) ≡ true
  flatten_lexed (e.leaf k) h = h
  flatten_lexed (e.paren m t) h = flatten_lexed t h
  flatten_lexed (e.attributed a more t) h =
      let p = and_parts (is_lexed a.tokens) _ h in
      let q = and_parts (attributes_lexed more) (leaves_lexed t) p.1 in
      prepend_lexed (a ∷ more) (flatten t) (and_from _ _ p.0 q.0) (flatten_lexed t q.1)
  flatten_lexed (e.prefixed k gs t) h = let p = and_parts (prefix_lexed k) (leaves_lexed t) h in and_from _ _ p.0 (flatten_lexed t p.1)
  flatten_lexed (e.infixed x k y) h = let p = and_parts (leaves_lexed x) (leaves_lexed y) h in and_from _ _ (flatten_lexed x p.0) (flatten_lexed y p.1)
  flatten_lexed (e.postfixed x k) h = let p = and_parts (leaves_lexed x) (postfix_lexed k) h in and_from _ _ (flatten_lexed x p.0) p.1
  flatten_lexed (e.tail b k ks) h =
      let p = and_parts (leaves_lexed b) _ h in
      let q = and_parts (trailer_lexed k) (children_lexed ks) p.1 in
      and_from _ _ (flatten_lexed b p.0) (and_from _ _ q.0 (flatten_children_lexed ks q.1))
  flatten_lexed (e.frame k ks) h = let p = and_parts (frame_lexed k) (children_lexed ks) h in and_from _ _ p.0 (flatten_children_lexed ks p.1)

  flatten_children_lexed : (ks : Children) → children_lexed ks ≡ true → children_lexed (flatten_children ks) ≡ true
  flatten_children_lexed e.none h = refl
  flatten_children_lexed (e.child k c t ks) h =
      let p = and_parts (piece_lexed k) _ h in
      let q = and_parts (ending_lexed c) _ p.1 in
      let r = and_parts (leaves_lexed t) (children_lexed ks) q.1 in
      and_from _ _ p.0 (and_from _ _ q.0 (and_from _ _ (flatten_lexed t r.0) (flatten_children_lexed ks r.1)))

-- ---- read again, and printed again

-- by its tokens
stable : (s : Position) (t : Tree) → is_well_formed t ≡ true → is_lexed (own_tokens (printed_in s t)) ≡ true → IsStable unchanged s t (text (own_tokens (printed_in s t)))
stable s t well h =
    let ts = own_tokens (printed_in s t) in
    let x = clear (printed_in s t) in
    let stands : Stands plain ts x [] = stands_alone s t well in
    let falls : Spells (chars (text ts)) ts = text_is_read_again ts h in (
      x,
      flatten_clear (printed_in s t) ∙ printed_is_same (context_of s) t well,
      (ts, falls, stands),
      (λ y n read.
          let same : read.0 ≡ ts = one_reading (chars (text ts)) read.0 ts read.1 falls in
          at_most_one plain ts y x n [] (subst (λ us. Stands plain us y n) same read.2) stands),
      ap text (sym (own_twice s t [] well)),
    )

pub text_is_stable : TextIsStable
text_is_stable s t well h = stable s t well (printed_is_lexed s t [] h refl)

formed : (x : Tree) → IsReadOfText x → is_ordinary x ≡ true → is_well_formed x ≡ true
formed x (p, l, n, fallen, stands) h = (read_is_well_formed p l x n stands).1 h

found : (x : Tree) → IsReadOfText x → verbatims_lexed x ≡ true → leaves_lexed x ≡ true
found x (p, l, n, fallen, stands) v = tree_leaves p l x n stands ((exact l).1 fallen) v

bare_stable : (s : Position) (t : Tree) → is_well_formed (flatten t) ≡ true → fill (flatten t) ≡ flatten t → leaves_lexed (flatten t) ≡ true
    → IsStable flatten s t (text (own_tokens (printed_in s (flatten t))))
bare_stable s t well filled h =
    let (x, same, read, alone, again) = text_is_stable s (flatten t) well h in
    let once : flatten x ≡ flatten t = same ∙ ap flatten filled ∙ flatten_is_idempotent t in
    (x, same, read, alone, ap (λ u. text (own_tokens (printed_in s u))) (sym once))

pub read_text_is_stable : ReadTextIsStable
read_text_is_stable = record {
  tokens = λ x r v s rest g. printed_is_lexed s x rest (found x r v) g;
  back = λ x r h s rest allowed g. text_is_read_back.leaves s x rest (formed x r h) allowed (found x r (no_verbatims x h)) g;
  again = λ x r h s. text_is_stable s x (formed x r h) (found x r (no_verbatims x h));
  bare = λ x r h well filled s. bare_stable s x well filled (flatten_lexed x (found x r (no_verbatims x h)));
}

-- ---- for contracts, which know the tokens of a text

-- of a tree that was made
pub made_text : (s : Position) (t : Tree) (ts : List Tok) (bytes : List ℕ) → ts ≡ own_tokens (printed_in s t) → bytes ≡ text ts → is_well_formed t ≡ true → leaves_lexed t ≡ true
    → IsStable unchanged s t bytes
made_text s t ts bytes made is well h = subst (IsStable unchanged s t) (sym (is ∙ ap text made)) (text_is_stable s t well h)

-- of a tree that is the whole of a text
of_text : (bytes : List ℕ) (l : List Tok) (t : Tree) → IsUtf8 bytes → Spells (chars bytes) l → Stands plain l t [] → IsReadOfText t
of_text bytes l t utf8 spells stands = (plain, l, [], (bytes, utf8, spells), stands)

pub read_text : (s : Position) (bytes : List ℕ) (l : List Tok) (t : Tree) (ts : List Tok) → IsUtf8 bytes → Spells (chars bytes) l → Stands plain l t [] → is_ordinary t ≡ true
    → ts ≡ own_tokens (printed_in s t) → IsStable unchanged s t (text ts)
read_text s bytes l t ts utf8 spells stands h made = subst (λ us. IsStable unchanged s t (text us)) (sym made) (read_text_is_stable.again t (of_text bytes l t utf8 spells stands) h s)

-- the same without its parentheses
pub bare_text : (s : Position) (bytes : List ℕ) (l : List Tok) (t : Tree) (ts : List Tok) → IsUtf8 bytes → Spells (chars bytes) l → Stands plain l t [] → is_ordinary t ≡ true
    → ((u : Tree) → is_well_formed u ≡ true → is_well_formed (flatten u) ≡ true) → ((u : Tree) → fill u ≡ u → fill (flatten u) ≡ flatten u)
    → ts ≡ own_tokens (printed_in s (flatten t)) → IsStable flatten s t (text ts)
bare_text s bytes l t ts utf8 spells stands h well filled made =
    let r = of_text bytes l t utf8 spells stands in
    subst (λ us. IsStable flatten s t (text us)) (sym made) (read_text_is_stable.bare t r h (well t (formed t r h)) (filled t (stood_filled stands.node)) s)

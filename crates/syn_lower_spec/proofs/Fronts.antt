-- The first tokens of a type that fits, and how the choice between the kinds of types sees them.
use Rattle.std.proofs.Common.{◌≡◌, ℕ, Bool, true, false, not, ◌==◌, List, ◌∷◌, Option, Some, None, refl, sym, subst, codes}
use Rattle.std.proofs.lemmas.Slice.Eq.{bytes_eq-Decides}
use Rattle.std.specs.Str.{bytes_eq}
use Rattle.std.proofs.Math.Bool.{and-false}
use Rattle.syn_lexer.specs.Keywords.{is_reserved_word}
use Rattle.syn_lexer.specs.declared.front.Delimiter.TheVariants as del
use Rattle.syn_lower_spec.specs.declared.label.PathStyle.TheVariants as style
use Rattle.syn_tokens.specs.Tok.{Tok, ident}
use Rattle.syn_tokens.specs.Front.{group_at, is_empty}
use Rattle.syn_lower_spec.specs.Text.{Text, is_segment, stands_alone, is_truth}
use Rattle.syn_lower_spec.specs.Mark.{sign_at, word_at, lifetime_at, brace_at, mutable, eq, lone_colon, gt}
use Rattle.syn_lower_spec.specs.Part.{const_at, assoc_at, arg_name_at, lifetimes_at, fn_at, named, at_place, type}
use Rattle.syn_lower_spec.specs.Own.{alone, colon2_before, before_if, before_some, type_own, segments_own, arguments_own, lifetimes_own, extern_own, no_more_segments, enclosed}
use Rattle.syn_lower_spec.specs.Fits.{type_fits, segments_fit, bare_segments}
use Rattle.syn_lower_spec.specs.Tree as t
use Rattle.syn_lower_spec.specs.Tree.{TypeTree, Segments, ArgumentsTree, LitTree}
use Rattle.syn_lower_spec.proofs.Same.{both_true, not_true}

-- a word of a path is none of the others
pub word_not : (w text : Text) → is_segment w ≡ true → is_segment text ≡ false → bytes_eq w text ≡ false
word_not w text h k = by_bool (bytes_eq w text) refl
  where
    by_bool : (b : Bool) → bytes_eq w text ≡ b → b ≡ false
    by_bool false e = refl
    by_bool true e = let d : w ≡ text = (bytes_eq-Decides w text).0 e in absurd cc

-- a word that no path has
abbrev pub NoSegment : Text → Type 0
NoSegment w = is_segment w ≡ false

pub not_mut : is_segment (codes "mut") ≡ false
unfolding is_segment stands_alone is_reserved_word
not_mut = refl

pub not_underscore : is_segment (codes "_") ≡ false
unfolding is_segment stands_alone is_reserved_word
not_underscore = refl

pub not_for : is_segment (codes "for") ≡ false
unfolding is_segment stands_alone is_reserved_word
not_for = refl

pub not_unsafe : is_segment (codes "unsafe") ≡ false
unfolding is_segment stands_alone is_reserved_word
not_unsafe = refl

not_type_words : NoSegment (codes "extern") × NoSegment (codes "fn") × NoSegment (codes "impl") × NoSegment (codes "dyn")
unfolding is_segment stands_alone is_reserved_word
not_type_words = (refl, refl, refl, refl)

not_truths : NoSegment (codes "true") × NoSegment (codes "false")
unfolding is_segment stands_alone is_reserved_word
not_truths = (refl, refl)

pub no_truth : (w : Text) → is_segment w ≡ true → is_truth w ≡ false
unfolding is_truth
no_truth w h =
    let (not_truth, not_falsehood) = not_truths in
    rw (word_not w (codes "true") h not_truth, word_not w (codes "false") h not_falsehood) refl

-- a word of a path leads to the paths
pub named_word : (b : Bool) (x : TypeTree) (w : Text) (l : List Tok) → is_segment w ≡ true → (at_place type b).behind x (ident w ∷ l) ≡ (named type).behind x (ident w ∷ l)
unfolding at_place sign_at word_at fn_at lifetimes_at group_at
named_word b x w l h =
    let (not_extern, not_fn, not_impl, not_dyn) = not_type_words in
    rw (word_not w (codes "_") h not_underscore, word_not w (codes "for") h not_for, word_not w (codes "unsafe") h not_unsafe, word_not w (codes "extern") h not_extern, word_not w (codes "fn") h not_fn, word_not w (codes "impl") h not_impl, word_not w (codes "dyn") h not_dyn) refl

pub named_colon2 : (b : Bool) (x : TypeTree) (l : List Tok) → (at_place type b).behind x (colon2_before l) ≡ (named type).behind x (colon2_before l)
unfolding at_place sign_at word_at fn_at lifetimes_at group_at
named_colon2 b x l = refl

pub named_less : (b : Bool) (x : TypeTree) (l : List Tok) → (at_place type b).behind x (alone 60 ∷ l) ≡ (named type).behind x (alone 60 ∷ l)
unfolding at_place sign_at word_at fn_at lifetimes_at group_at
named_less b x l = refl

-- ---- what is in front of a type

pub record Front (l r : List Tok) : Type 0 where
  pub some : is_empty l ≡ false
  pub no_lifetime : lifetime_at l ≡ false
  pub no_mut : mutable.at l ≡ false
  pub no_const : const_at l ≡ false
  pub no_gt : gt.at l ≡ false
  pub no_assoc : eq.at r ≡ false → assoc_at l ≡ false
  pub no_name : lone_colon.at r ≡ false → arg_name_at l ≡ false

sign_front : (c : ℕ) (l r : List Tok) → (c == 45) ≡ false → (c == 62) ≡ false → Front (alone c ∷ l) r
unfolding lifetime_at word_at const_at brace_at group_at sign_at assoc_at arg_name_at
sign_front c l r h k = record { some = refl; no_lifetime = refl; no_mut = refl; no_const = rw h refl; no_gt = rw k refl; no_assoc = λ e. refl; no_name = λ e. refl }

-- a reserved word, no truth value
word_front : (w : Text) (l r : List Tok) → is_reserved_word w ≡ true → bytes_eq w (codes "mut") ≡ false → is_truth w ≡ false → bytes_eq w (codes "_") ≡ false → Front (ident w ∷ l) r
unfolding lifetime_at word_at const_at brace_at group_at sign_at assoc_at arg_name_at
word_front w l r h m k u = record { some = refl; no_lifetime = refl; no_mut = rw m refl; no_const = rw k refl; no_gt = refl; no_assoc = λ e. rw h refl; no_name = λ e. rw (h, u) refl }

for_front : (l r : List Tok) → Front (ident (codes "for") ∷ l) r
unfolding is_reserved_word is_truth
for_front l r = word_front (codes "for") l r refl refl refl refl

unsafe_front : (l r : List Tok) → Front (ident (codes "unsafe") ∷ l) r
unfolding is_reserved_word is_truth
unsafe_front l r = word_front (codes "unsafe") l r refl refl refl refl

extern_front : (l r : List Tok) → Front (ident (codes "extern") ∷ l) r
unfolding is_reserved_word is_truth
extern_front l r = word_front (codes "extern") l r refl refl refl refl

fn_front : (l r : List Tok) → Front (ident (codes "fn") ∷ l) r
unfolding is_reserved_word is_truth
fn_front l r = word_front (codes "fn") l r refl refl refl refl

impl_front : (l r : List Tok) → Front (ident (codes "impl") ∷ l) r
unfolding is_reserved_word is_truth
impl_front l r = word_front (codes "impl") l r refl refl refl refl

dyn_front : (l r : List Tok) → Front (ident (codes "dyn") ∷ l) r
unfolding is_reserved_word is_truth
dyn_front l r = word_front (codes "dyn") l r refl refl refl refl

underscore_front : (r : List Tok) → Front (ident (codes "_") ∷ r) r
unfolding lifetime_at word_at const_at brace_at group_at sign_at assoc_at arg_name_at is_reserved_word is_truth
underscore_front r = record { some = refl; no_lifetime = refl; no_mut = refl; no_const = refl; no_gt = refl; no_assoc = λ e. refl; no_name = λ e. e }

bracket_front : (i r : List Tok) → Front (enclosed del.Bracket i r) r
unfolding lifetime_at word_at const_at brace_at group_at sign_at assoc_at arg_name_at
bracket_front i r = record { some = refl; no_lifetime = refl; no_mut = refl; no_const = refl; no_gt = refl; no_assoc = λ e. refl; no_name = λ e. refl }

round_front : (i r : List Tok) → Front (enclosed del.Parenthesis i r) r
unfolding lifetime_at word_at const_at brace_at group_at sign_at assoc_at arg_name_at
round_front i r = record { some = refl; no_lifetime = refl; no_mut = refl; no_const = refl; no_gt = refl; no_assoc = λ e. refl; no_name = λ e. refl }

colon2_front : (l r : List Tok) → Front (colon2_before l) r
unfolding lifetime_at word_at const_at brace_at group_at sign_at assoc_at arg_name_at
colon2_front l r = record { some = refl; no_lifetime = refl; no_mut = refl; no_const = refl; no_gt = refl; no_assoc = λ e. refl; no_name = λ e. refl }

-- after a segment's name stands no single `=` and no single `:`, unless what is after the path begins so
behind_name : (a : ArgumentsTree) (l : List Tok) → (eq.at l ≡ false → eq.at (arguments_own a l) ≡ false) × (lone_colon.at l ≡ false → lone_colon.at (arguments_own a l) ≡ false)
unfolding sign_at
behind_name t.no_arguments l = ((λ e. e), (λ e. e))
behind_name (t.angle true gs e) l = ((λ e. refl), (λ e. refl))
behind_name (t.angle false gs e) l = ((λ e. refl), (λ e. refl))
behind_name (t.round xs e o) l = ((λ e. refl), (λ e. refl))

gt_word : (w : Text) (m : List Tok) → gt.at (ident w ∷ m) ≡ false
unfolding sign_at
gt_word w m = refl

path_word : (w : Text) (l m r : List Tok) → is_segment w ≡ true → l ≡ ident w ∷ m → (eq.at r ≡ false → eq.at m ≡ false) → (lone_colon.at r ≡ false → lone_colon.at m ≡ false) → Front l r
unfolding lifetime_at word_at const_at brace_at group_at assoc_at arg_name_at
path_word w l m r h d p q = subst (λ z. Front z r) (sym d) (record {
  some = refl;
  no_lifetime = refl;
  no_mut = rw (word_not w (codes "mut") h not_mut) refl;
  no_const = rw (no_truth w h) refl;
  no_gt = gt_word w m;
  no_assoc = λ e. rw (p e) (and-false _);
  no_name = λ e. rw (q e) (and-false _);
})

segments_front : (e : Bool) (ss : Segments) (r : List Tok) → e ≡ false → no_more_segments ss ≡ false → segments_fit 0 style.Type ss ≡ true → Front (segments_own 0 ss e r) r
unfolding sign_at
segments_front true ss r h k f = absurd cc
segments_front false t.no_segments r h k f = absurd cc
segments_front false (t.more_segments w a t.no_segments) r h k f =
    let (g, rest) = both_true (is_segment w) _ f in
    let (p, q) = behind_name a r in
    path_word w _ (arguments_own a r) r g refl p q
segments_front false (t.more_segments w a (t.more_segments v c ss)) r h k f =
    let (g, rest) = both_true (is_segment w) _ f in
    let (p, q) = behind_name a (colon2_before (segments_own 0 (t.more_segments v c ss) false r)) in
    path_word w _ (arguments_own a (colon2_before (segments_own 0 (t.more_segments v c ss) false r))) r g refl (λ e. p refl) (λ e. q refl)

path_front : (b e : Bool) (ss : Segments) (r : List Tok) → e ≡ false → no_more_segments ss ≡ false → segments_fit 0 style.Type ss ≡ true → Front (before_if b colon2_before (segments_own 0 ss e r)) r
path_front true e ss r h k f = colon2_front _ r
path_front false e ss r h k f = segments_front e ss r h k f

fn_own_front : (u : Bool) (a : Option (Option LitTree)) (l r : List Tok) → Front (before_if u (λ m. ident (codes "unsafe") ∷ m) (before_some a extern_own (ident (codes "fn") ∷ l))) r
fn_own_front true a l r = unsafe_front _ r
fn_own_front false (Some s) l r = extern_front _ r
fn_own_front false None l r = fn_front l r

-- after the first token of a macro's path stands `!` or what a path has there
pub type_begins : (b : Bool) (x : TypeTree) (r : List Tok) → type_fits b x ≡ true → Front (type_own x r) r
unfolding lifetimes_own sign_at
type_begins b (t.path t.no_qself l ss e) r f =
    let (h, g) = both_true (not e) _ f in
    let (k, i) = both_true (not (no_more_segments ss)) _ g in
    path_front l e ss r (not_true e h) (not_true (no_more_segments ss) k) i
type_begins b (t.path (t.qself x n a) l ss e) r f = sign_front 60 _ r refl refl
type_begins b (t.mac l ss e d ts) r f =
    let (h, g) = both_true (not e) _ f in
    let (k, i) = both_true (not (no_more_segments ss)) _ g in
    let (j, m) = both_true (bare_segments ss) _ i in
    let (n, o) = both_true (segments_fit 0 style.Type ss) _ m in
    let p = path_front l e ss (alone 33 ∷ enclosed d ts r) (not_true e h) (not_true (no_more_segments ss) k) n in
    record { some = p.some; no_lifetime = p.no_lifetime; no_mut = p.no_mut; no_const = p.no_const; no_gt = p.no_gt; no_assoc = λ z. p.no_assoc refl; no_name = λ z. p.no_name refl }
type_begins b (t.reference a m x) r f = sign_front 38 _ r refl refl
type_begins b (t.ptr m x) r f = sign_front 42 _ r refl refl
type_begins b (t.slice x) r f = bracket_front _ r
type_begins b (t.array x n) r f = bracket_front _ r
type_begins b (t.tuple xs e) r f = round_front _ r
type_begins b (t.paren x) r f = round_front _ r
type_begins b t.never r f = sign_front 33 r r refl refl
type_begins b t.infer r f = underscore_front r
type_begins b (t.fn_ptr (Some p) u a xs e o) r f = for_front _ r
type_begins b (t.fn_ptr None u a xs e o) r f = fn_own_front u a _ r
type_begins b (t.impl_trait bs e) r f = impl_front _ r
type_begins b (t.trait_object bs e) r f = dyn_front _ r

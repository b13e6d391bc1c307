-- The first tokens of a tree's own spelling.
use Rattle.std.proofs.Common.{◌≡◌, Bool, true, false, not, ◌||◌, ◌==◌, List, [], ◌∷◌, Option, None, refl, sym, ◌∙◌, ap, subst, codes}
use Rattle.std.specs.Prelude.{if◌then◌else◌}
use Rattle.std.proofs.lemmas.Slice.Eq.{bytes_eq-Decides}
use Rattle.std.specs.Str.{bytes_eq}
use Rattle.std.proofs.Math.Bool.{and-false, or-false}
use Rattle.std.proofs.lemmas.Bool.{and_parts, not-true}
use Rattle.syn_lexer.specs.Keywords.{is_reserved_word}
use Rattle.syn_lexer.specs.declared.front.Delimiter.TheVariants as del
use Rattle.syn_tokens.specs.Tok.{Tok, Inside, ident, literal, group}
use Rattle.syn_tokens.specs.Front.{group_at}
use Rattle.syn_lower_spec.specs.declared.label.LitKind.{LitKind}
use Rattle.syn_lower_spec.specs.declared.label.LitKind.TheVariants as kind
use Rattle.syn_lower_spec.specs.declared.label.PathStyle.{PathStyle}
use Rattle.syn_lower_spec.specs.declared.label.PathStyle.TheVariants as style
use Rattle.syn_lower_spec.specs.Text.{Text, is_segment, stands_alone, is_truth}
use Rattle.syn_lower_spec.specs.Tree as t
use Rattle.syn_lower_spec.specs.Tree.{AttributeTree, LifetimesTree, QSelfTree, SegmentTree, Segments, ArgumentsTree}
use Rattle.syn_lower_spec.specs.Part.{MacroTree}
use Rattle.syn_lower_spec.specs.Mark.{sign_at, word_at, lifetime_at, brace_at, mutable, constant}
use Rattle.syn_lower_spec.specs.PatOwn.{attributes_own}
use Rattle.syn_lower_spec.specs.Own.{alone, before_if, before_some, colon2_before, enclosed, separated, no_more_segments, type_own, lit_own, number_own, lifetimes_own, attribute_own, segments_own, arguments_own, path_own, qualified_own, macro_own}
use Rattle.syn_lower_spec.specs.Fits.{unsigned_fits, segments_fit, path_fits, qpath_fits, macro_fits}
use Rattle.syn_lower_spec.proofs.Fronts.{word_not, not_mut}
use Rattle.syn_lower_spec.proofs.Appends.{type_append}
use Rattle.syn_expr_spec.specs.declared.kinds.UnKind.TheVariants as un
use Rattle.syn_expr_spec.specs.declared.kinds.Limits.TheVariants as limits
use Rattle.syn_expr_spec.specs.declared.kinds.Infix.TheVariants as inf
use Rattle.syn_expr_spec.specs.declared.next.Next.{Next}
use Rattle.syn_expr_spec.specs.Front.{begins_expr, sign_begins, ends_open_range, dot_at}
use Rattle.syn_expr_spec.specs.Head.{raw_at}
use Rattle.syn_expr_spec.specs.Next.{class_of, next_of}
use Rattle.syn_expr_spec.specs.Rule.{leaf_labelled, frame_labelled}
use Rattle.syn_expr_spec.specs.Tree as e
use Rattle.syn_expr_spec.specs.Tree.{Tree, Children, Leaf, Prefix, Frame, Postfix, word_if, vert_before, leaf, paren, attributed, prefixed, infixed, postfixed, tail, frame, postfix_op, own, leaf_own, prefix_own, framed, enclosure, postfix_own}
use Rattle.syn_expr_spec.specs.WellFormed.{leaf_fits, frame_fits}
use Rattle.syn_expr_spec.proofs.Attributes.{outers_are}
use Rattle.syn_expr_spec.proofs.Formed.{Formed}
use Rattle.syn_expr_spec.proofs.Obeys.{begins_label}
use Rattle.syn_expr_spec.proofs.Shows.{Shows, shows_operator, shows_trailer}

-- what the first token is asked, for a proof that computes it
asked : Bool
unfolding begins_expr sign_begins ends_open_range dot_at sign_at word_at lifetime_at brace_at group_at raw_at
asked = true

-- the first token is a group in braces
abbrev pub leaf_braced : Leaf → Bool
leaf_braced (e.block None b) = true
leaf_braced k = false

abbrev pub begins_brace : Tree → Bool
begins_brace (leaf k) = leaf_braced k
begins_brace (infixed x k y) = begins_brace x
begins_brace (postfixed x k) = begins_brace x
begins_brace (tail b k ks) = begins_brace b
begins_brace _ = false

-- the first token is that of an attribute
abbrev pub begins_pound : Tree → Bool
begins_pound (attributed a more t) = true
begins_pound (infixed x k y) = begins_pound x
begins_pound (postfixed x k) = begins_pound x
begins_pound (tail b k ks) = begins_pound b
begins_pound _ = false

-- an expression begins; a brace, a label, an attribute
pub record Front (braced labelled pounded : Bool) (l : List Tok) : Type 0 where
  pub begins : begins_expr l ≡ true
  pub stops : ends_open_range false l ≡ false
  pub brace : brace_at l ≡ braced
  pub label : lifetime_at l ≡ labelled
  pub pound : sign_at (codes "#") l ≡ pounded
  pub no_mut : mutable.at l ≡ false
  pub no_raw : raw_at l ≡ false
  pub no_arrow : sign_at (codes "->") l ≡ false

-- tokens with no `mut` or `const` first
pub record Quiet (r : List Tok) : Type 0 where
  pub no_mut : mutable.at r ≡ false
  pub no_const : constant.at r ≡ false

pub shows_quiet : (n : Next) (r : List Tok) → Shows n r → Quiet r
shows_quiet n r s = record { no_mut = ap (λ x. x.mutable) s.same; no_const = ap (λ x. x.constant) s.same }

-- ---- paths

not_as : is_segment (codes "as") ≡ false
unfolding is_segment stands_alone is_reserved_word
not_as = refl

colons_quiet : (l : List Tok) → Quiet (colon2_before l)
unfolding word_at
colons_quiet l = record { no_mut = refl; no_const = refl }

arguments_quiet : (s : PathStyle) (a : ArgumentsTree) (r : List Tok) → Quiet r → Quiet (arguments_own a r)
unfolding word_at
arguments_quiet s t.no_arguments r q = q
arguments_quiet s (t.angle true gs e) r q = record { no_mut = refl; no_const = refl }
arguments_quiet s (t.angle false gs e) r q = record { no_mut = refl; no_const = refl }
arguments_quiet s (t.round xs e o) r q = record { no_mut = refl; no_const = refl }

more_quiet : (ss : Segments) (r : List Tok) → Quiet r → Quiet (separated (no_more_segments ss) false colon2_before (segments_own 0 ss false r))
more_quiet t.no_segments r q = q
more_quiet (t.more_segments w a ss) r q = colons_quiet _

word_front : (w : Text) (l : List Tok) → is_segment w ≡ true → Quiet l → Front false false false (ident w ∷ l)
unfolding asked
word_front w l h q = record {
  begins = rw (word_not w (codes "as") h not_as) refl;
  stops = rw (word_not w (codes "as") h not_as) refl;
  brace = refl;
  label = refl;
  pound = refl;
  no_mut = rw (word_not w (codes "mut") h not_mut) refl;
  no_raw = rw (q.no_mut, q.no_const) (and-false _);
  no_arrow = refl;
}

colons_front : (l : List Tok) → Front false false false (colon2_before l)
unfolding asked
colons_front l = record { begins = refl; stops = refl; brace = refl; label = refl; pound = refl; no_mut = refl; no_raw = refl; no_arrow = refl }

segments_front : (s : PathStyle) (ss : Segments) (r : List Tok) → no_more_segments ss ≡ false → segments_fit 0 s ss ≡ true → Quiet r
    → Front false false false (segments_own 0 ss false r)
segments_front s t.no_segments r e f q = absurd cc
segments_front s (t.more_segments w a ss) r e f q =
    word_front w _ (and_parts _ _ f).0 (arguments_quiet s a _ (more_quiet ss r q))

path_front : (s : PathStyle) (b : Bool) (ss : Segments) (r : List Tok) → no_more_segments ss ≡ false → segments_fit 0 s ss ≡ true → Quiet r
    → Front false false false (before_if b colon2_before (segments_own 0 ss false r))
path_front s true ss r e f q = colons_front _
path_front s false ss r e f q = segments_front s ss r e f q

less_front : (l : List Tok) → Front false false false (alone 60 ∷ l)
unfolding asked
less_front l = record { begins = refl; stops = refl; brace = refl; label = refl; pound = refl; no_mut = refl; no_raw = refl; no_arrow = refl }

named_front : (q : QSelfTree) (b : Bool) (ss : List SegmentTree) (e : Bool) (r : List Tok)
    → qpath_fits style.Expr (q, record { leading = b; segments = ss; trailing = e }) ≡ true → Quiet r
    → Front false false false (qualified_own (q, record { leading = b; segments = ss; trailing = e }) r)
named_front t.no_qself b ss true r f q = absurd cc
named_front t.no_qself b ss false r f q = let p = and_parts (not (no_more_segments (t.segments_of ss))) _ f in path_front style.Expr b (t.segments_of ss) r (not-true _ p.0) p.1 q
named_front (t.qself x n a) b ss e r f q = less_front _

macro_front : (m : MacroTree) (r : List Tok) → macro_fits m ≡ true → Front false false false (macro_own m r)
unfolding word_at
macro_front m r f = let p = and_parts _ _ f in path_of_macro m.path.leading m.path.segments m.path.trailing _ p.0 (record { no_mut = refl; no_const = refl })
  where
    path_of_macro : (b : Bool) (ss : List SegmentTree) (e : Bool) (l : List Tok) → path_fits style.Mod (record { leading = b; segments = ss; trailing = e }) ≡ true → Quiet l
        → Front false false false (path_own (record { leading = b; segments = ss; trailing = e }) l)
    path_of_macro b ss true l f q = absurd cc
    path_of_macro b ss false l f q = let p = and_parts (not (no_more_segments (t.segments_of ss))) _ f in path_front style.Mod b (t.segments_of ss) l (not-true _ p.0) p.1 q

-- ---- literals

quote_front : (text : Text) (l : List Tok) → Front false false false (literal text ∷ l)
unfolding asked
quote_front text l = record { begins = refl; stops = refl; brace = refl; label = refl; pound = refl; no_mut = refl; no_raw = refl; no_arrow = refl }

minus_front : (l : List Tok) → Front false false false (alone 45 ∷ l)
unfolding asked
minus_front l = record { begins = refl; stops = refl; brace = refl; label = refl; pound = refl; no_mut = refl; no_raw = refl; no_arrow = refl }

signed_front : (b : Bool) (u v : Text) (l : List Tok) → Front false false false (if b then alone 45 ∷ literal u ∷ l else literal v ∷ l)
signed_front true u v l = minus_front _
signed_front false u v l = quote_front v l

number_front : (text : Text) (l : List Tok) → Front false false false (number_own text l)
number_front [] l = quote_front [] l
number_front (c ∷ text) l = signed_front (c == 45) text (c ∷ text) l

truth_front : (text : Text) (l : List Tok) → is_truth text ≡ true → Front false false false (ident text ∷ l)
unfolding is_truth begins_expr sign_begins ends_open_range dot_at sign_at word_at lifetime_at brace_at group_at raw_at
truth_front text l h = go (bytes_eq text (codes "true")) refl
  where
    spelled : bytes_eq text (codes "true") || (bytes_eq text (codes "false") || false) ≡ true
    spelled = h

    concrete : (w : Text) → text ≡ w → Front false false false (ident w ∷ l) → Front false false false (ident text ∷ l)
    concrete w e f = subst (λ x. Front false false false (ident x ∷ l)) (sym e) f

    go : (b : Bool) → bytes_eq text (codes "true") ≡ b → Front false false false (ident text ∷ l)
    go true e = concrete (codes "true") ((bytes_eq-Decides text (codes "true")).0 e) (record { begins = refl; stops = refl; brace = refl; label = refl; pound = refl; no_mut = refl; no_raw = refl; no_arrow = refl })
    go false e = concrete (codes "false") ((bytes_eq-Decides text (codes "false")).0 (sym (or-false (bytes_eq text (codes "false"))) ∙ sym (ap (λ x. x || (bytes_eq text (codes "false") || false)) e) ∙ spelled)) (record { begins = refl; stops = refl; brace = refl; label = refl; pound = refl; no_mut = refl; no_raw = refl; no_arrow = refl })

lit_front : (k : LitKind) (text : Text) (l : List Tok) → unsigned_fits (record { kind = k; text = text }) ≡ true → Front false false false (lit_own (record { kind = k; text = text }) l)
unfolding lit_own
lit_front kind.Int text l h = number_front text l
lit_front kind.Float text l h = number_front text l
lit_front kind.Bool text l h = truth_front text l h
lit_front _ text l h = quote_front text l

-- ---- leaves

leaf_front : (k : Leaf) (r : List Tok) → leaf_fits k ≡ true → Quiet r → Front (leaf_braced k) (leaf_labelled k) false (leaf_own k r)
unfolding asked
leaf_front (e.lit x) r f q = lit_front x.kind x.text r f
leaf_front (e.path w p) r f q = named_front w p.leading p.segments p.trailing r (and_parts _ _ f).0 q
leaf_front (e.mac m) r f q = macro_front m r f
leaf_front (e.verbatim ts) r f q = absurd cc
leaf_front (e.full_range limits.HalfOpen) r f q = record { begins = refl; stops = refl; brace = refl; label = refl; pound = refl; no_mut = refl; no_raw = refl; no_arrow = refl }
leaf_front (e.bare_jump e.returning) r f q = record { begins = refl; stops = refl; brace = refl; label = refl; pound = refl; no_mut = refl; no_raw = refl; no_arrow = refl }
leaf_front (e.block None b) r f q = record { begins = refl; stops = refl; brace = refl; label = refl; pound = refl; no_mut = refl; no_raw = refl; no_arrow = refl }
leaf_front (e.loop_expr None b) r f q = record { begins = refl; stops = refl; brace = refl; label = refl; pound = refl; no_mut = refl; no_raw = refl; no_arrow = refl }
leaf_front _ r f q = record { begins = refl; stops = refl; brace = refl; label = refl; pound = refl; no_mut = refl; no_raw = refl; no_arrow = refl }

closure_front : (o : Option LifetimesTree) (c s a m u : Bool) (l : List Tok)
    → Front false false false (before_some o lifetimes_own (word_if c (codes "const") (word_if s (codes "static") (word_if a (codes "async") (word_if m (codes "move") (word_if u (codes "use") (vert_before l)))))))
unfolding begins_expr sign_begins ends_open_range dot_at sign_at word_at lifetime_at brace_at group_at raw_at lifetimes_own
closure_front None false false false false true l = record { begins = refl; stops = refl; brace = refl; label = refl; pound = refl; no_mut = refl; no_raw = refl; no_arrow = refl }
closure_front _ _ _ _ _ _ l = record { begins = refl; stops = refl; brace = refl; label = refl; pound = refl; no_mut = refl; no_raw = refl; no_arrow = refl }

prefix_front : (k : Prefix) (r : List Tok) → Front false false false (prefix_own k r)
unfolding asked
prefix_front (e.closure h) r = closure_front h.lifetimes h.constness h.movability h.asyncness h.capture h.usage _
prefix_front (e.unary un.Deref) r = record { begins = refl; stops = refl; brace = refl; label = refl; pound = refl; no_mut = refl; no_raw = refl; no_arrow = refl }
prefix_front (e.range_to limits.HalfOpen) r = record { begins = refl; stops = refl; brace = refl; label = refl; pound = refl; no_mut = refl; no_raw = refl; no_arrow = refl }
prefix_front (e.jump e.returning) r = record { begins = refl; stops = refl; brace = refl; label = refl; pound = refl; no_mut = refl; no_raw = refl; no_arrow = refl }
prefix_front _ r = record { begins = refl; stops = refl; brace = refl; label = refl; pound = refl; no_mut = refl; no_raw = refl; no_arrow = refl }

frame_front : (k : Frame) (ks : Children) (o r : List Tok) → frame_fits k ks ≡ true → Front false (frame_labelled k) false (framed k (enclosure k) o r)
unfolding asked
frame_front (e.structure q p d) ks o r f =
    subst (λ l. Front false false false l) (type_append (t.path q p.leading (t.segments_of p.segments) p.trailing) (enclosed del.Brace o r))
    (named_front q p.leading p.segments p.trailing (enclosed del.Brace o r) (and_parts (qpath_fits style.Expr (q, p)) _ f).0 (record { no_mut = refl; no_const = refl }))
frame_front (e.closure_block h) ks o r f = closure_front h.lifetimes h.constness h.movability h.asyncness h.capture h.usage _
frame_front e.group_expr ks o r f = absurd cc
frame_front (e.while_loop None) ks o r f = record { begins = refl; stops = refl; brace = refl; label = refl; pound = refl; no_mut = refl; no_raw = refl; no_arrow = refl }
frame_front (e.for_loop None p) ks o r f = record { begins = refl; stops = refl; brace = refl; label = refl; pound = refl; no_mut = refl; no_raw = refl; no_arrow = refl }
frame_front _ ks o r f = record { begins = refl; stops = refl; brace = refl; label = refl; pound = refl; no_mut = refl; no_raw = refl; no_arrow = refl }

paren_front : (i : Inside) (r : List Tok) → Front false false false (group del.Parenthesis i ∷ r)
unfolding asked
paren_front i r = record { begins = refl; stops = refl; brace = refl; label = refl; pound = refl; no_mut = refl; no_raw = refl; no_arrow = refl }

pound_front : (l : List Tok) → Front false false true (alone 35 ∷ l)
unfolding asked
pound_front l = record { begins = refl; stops = refl; brace = refl; label = refl; pound = refl; no_mut = refl; no_raw = refl; no_arrow = refl }

attributed_front : (a : AttributeTree) (r : List Tok) → Front false false true (attribute_own a r)
unfolding attribute_own
attributed_front a r = pound_front _

pub postfix_class : (k : Postfix) (r : List Tok) → Shows (class_of (postfix_op k)) (postfix_own k r)
postfix_class (e.cast x) r = shows_operator inf.Cast (type_own x r)
postfix_class (e.range_from op) r = shows_operator (inf.Range op) r

pub front : (t : Tree) (n : Next) (r : List Tok) → Formed t → Shows n r → Front (begins_brace t) (begins_label t) (begins_pound t) (own t r)
front (leaf k) n r f s = leaf_front k r f (shows_quiet n r s)
front (paren m t) n r f s = paren_front _ r
front (attributed a more t) n r f s = subst (λ l. Front false false true (attributes_own l (own t r))) (sym (outers_are (a ∷ more) f.0)) (attributed_front a _)
front (prefixed k gs t) n r f s = prefix_front k _
front (infixed x k y) n r f s = front x (class_of k) _ f.1 (shows_operator k (own y r))
front (postfixed x k) n r f s = front x (class_of (postfix_op k)) _ f.1 (postfix_class k r)
front (tail b k ks) n r f s = front b (next_of k) _ f.1 (shows_trailer k _ r)
front (frame k ks) n r f s = frame_front k ks _ r f.0

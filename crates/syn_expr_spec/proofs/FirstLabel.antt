-- The first of the own tokens of a tree: whether they are a label.
use Rattle.std.proofs.Common.{◌≡◌, ℕ, ◌||◌, ◌&&◌, ◌==◌, Bool, true, false, List, [], ◌∷◌, ◌++◌, Option, None, refl, sym, ap, subst, ◌∙◌}
use Rattle.std.specs.Prelude.{codes, if◌then◌else◌}
use Rattle.syn_lexer.specs.declared.front.Delimiter.TheVariants as del
use Rattle.syn_lexer.specs.declared.front.Spacing.TheVariants as spacing
use Rattle.syn_tokens.specs.Tok.{Tok, ident, punct, literal, group}
use Rattle.syn_lower_spec.specs.declared.label.LitKind.{LitKind}
use Rattle.syn_lower_spec.specs.declared.label.LitKind.TheVariants as kind
use Rattle.syn_lower_spec.specs.Tree as t
use Rattle.syn_lower_spec.specs.Tree.{AttributeTree, QSelfTree, Segments, LifetimesTree}
use Rattle.syn_lower_spec.specs.Form.{is_nil}
use Rattle.syn_lower_spec.specs.Mark.{lifetime_at, lifetime_begins}
use Rattle.syn_lower_spec.specs.Own.{alone, before_if, before_some, colon2_before, enclosed, type_own, segments_own, lit_own, lit_own_by, number_own, attribute_own, lifetimes_own}
use Rattle.syn_lower_spec.specs.PatOwn.{attributes_own}
use Rattle.syn_lower_spec.proofs.Appends.{type_append}
use Rattle.syn_expr_spec.specs.declared.kinds.UnKind.TheVariants as un
use Rattle.syn_expr_spec.specs.declared.kinds.BinKind.TheVariants as bin
use Rattle.syn_expr_spec.specs.declared.kinds.Limits.TheVariants as limits
use Rattle.syn_expr_spec.specs.declared.kinds.Infix.{Infix}
use Rattle.syn_expr_spec.specs.declared.kinds.Infix.TheVariants as inf
use Rattle.syn_expr_spec.specs.Tree as e
use Rattle.syn_expr_spec.specs.Tree.{Tree, Leaf, Prefix, Postfix, Trailer, Frame, leaf, paren, attributed, prefixed, infixed, postfixed, tail, frame, outers, word_if, vert_before, own, leaf_own, prefix_own, infix_own, postfix_op, postfix_own, trailer_own, framed, enclosure}
use Rattle.syn_expr_spec.specs.Rule.{frame_labelled}
use Rattle.syn_expr_spec.specs.Query.{is_cast_op, verbatim_leads, leaf_leads, tree_leads, LeadingLabelIsFirst}

abbrev is_word : List Tok → Bool
is_word (ident w ∷ l) = true
is_word _ = false

or_neither : (a b : Bool) → a || (b && false) ≡ a
or_neither true b = refl
or_neither false true = refl
or_neither false false = refl

verbatim_first : (ts r : List Tok) → lifetime_at r ≡ false → lifetime_at (ts ++ r) ≡ verbatim_leads (is_word r) ts
unfolding lifetime_at
verbatim_first [] r h = h ∙ sym (or_neither false (is_word r))
verbatim_first (ident w ∷ ts) r h = sym (or_neither false (is_word r))
verbatim_first (literal w ∷ ts) r h = sym (or_neither false (is_word r))
verbatim_first (group d i ∷ ts) r h = sym (or_neither false (is_word r))
verbatim_first (punct c spacing.Alone ∷ ts) r h = sym (or_neither false (is_word r))
verbatim_first (punct c spacing.Joint ∷ []) [] h = refl
verbatim_first (punct c spacing.Joint ∷ []) (ident w ∷ r) h = refl
verbatim_first (punct c spacing.Joint ∷ []) (literal w ∷ r) h = refl
verbatim_first (punct c spacing.Joint ∷ []) (group d i ∷ r) h = refl
verbatim_first (punct c spacing.Joint ∷ []) (punct b s ∷ r) h = refl
verbatim_first (punct c spacing.Joint ∷ ident w ∷ ts) r h = sym (or_neither (c == 39) (is_word r))
verbatim_first (punct c spacing.Joint ∷ literal w ∷ ts) r h = sym (or_neither false (is_word r))
verbatim_first (punct c spacing.Joint ∷ group d i ∷ ts) r h = sym (or_neither false (is_word r))
verbatim_first (punct c spacing.Joint ∷ punct b s ∷ ts) r h = sym (or_neither false (is_word r))

segments_first : (ss : Segments) (n : ℕ) (c : Bool) (r : List Tok) → lifetime_at r ≡ false → lifetime_at (segments_own n ss c r) ≡ false
unfolding lifetime_at
segments_first t.no_segments n c r h = h
segments_first (t.more_segments w a ss) n c r h = refl

path_first : (q : QSelfTree) (l : Bool) (ss : Segments) (c : Bool) (r : List Tok) → lifetime_at r ≡ false → lifetime_at (type_own (t.path q l ss c) r) ≡ false
unfolding lifetime_at
path_first t.no_qself true ss c r h = refl
path_first t.no_qself false ss c r h = segments_first ss 0 c r h
path_first (t.qself x n a) l ss c r h = refl

macro_first : (l : Bool) (ss : Segments) (c : Bool) (r : List Tok) → lifetime_at (before_if l colon2_before (segments_own 0 ss c (alone 33 ∷ r))) ≡ false
unfolding lifetime_at
macro_first true ss c r = refl
macro_first false ss c r = segments_first ss 0 c (alone 33 ∷ r) refl

number_first : (text : List ℕ) (r : List Tok) → lifetime_at (number_own text r) ≡ false
unfolding lifetime_at
number_first [] r = refl
number_first (c ∷ text) r = by (c == 45)
  where
    by : (b : Bool) → lifetime_begins (if b then alone 45 ∷ literal text ∷ r else literal (c ∷ text) ∷ r) ≡ false
    by true = refl
    by false = refl

lit_first : (k : LitKind) (text : List ℕ) (r : List Tok) → lifetime_at (lit_own_by k text r) ≡ false
unfolding lifetime_at
lit_first kind.Bool text r = refl
lit_first kind.Int text r = number_first text r
lit_first kind.Float text r = number_first text r
lit_first _ _ r = refl

leaf_first : (k : Leaf) (r : List Tok) → lifetime_at r ≡ false → lifetime_at (leaf_own k r) ≡ leaf_leads (is_word r) k
unfolding lifetime_at lit_own
leaf_first (e.lit x) r h = lit_first x.kind x.text r
leaf_first (e.path q p) r h = path_first q p.leading (t.segments_of p.segments) p.trailing r h
leaf_first (e.mac m) r h = macro_first m.path.leading (t.segments_of m.path.segments) m.path.trailing (enclosed m.delimiter m.tokens r)
leaf_first (e.full_range limits.HalfOpen) r h = refl
leaf_first (e.bare_jump e.returning) r h = refl
leaf_first (e.block None b) r h = refl
leaf_first (e.loop_expr None b) r h = refl
leaf_first (e.verbatim ts) r h = verbatim_first ts r h
leaf_first _ r h = refl

closure_first : (f : Option LifetimesTree) (c s a m u : Bool) (r : List Tok)
    → lifetime_at (before_some f lifetimes_own (word_if c (codes "const") (word_if s (codes "static") (word_if a (codes "async") (word_if m (codes "move") (word_if u (codes "use") (vert_before r))))))) ≡ false
unfolding lifetime_at lifetimes_own
closure_first None false false false false true r = refl
closure_first _ _ _ _ _ _ r = refl

prefix_first : (k : Prefix) (r : List Tok) → lifetime_at (prefix_own k r) ≡ false
unfolding lifetime_at
prefix_first (e.unary un.Deref) r = refl
prefix_first (e.range_to limits.HalfOpen) r = refl
prefix_first (e.jump e.returning) r = refl
prefix_first (e.closure h) r = closure_first h.lifetimes h.constness h.movability h.asyncness h.capture h.usage _
prefix_first _ r = refl

frame_first : (k : Frame) (o r : List Tok) → lifetime_at (framed k (enclosure k) o r) ≡ frame_labelled k
unfolding lifetime_at
frame_first (e.structure q p d) o r =
    subst (λ l. lifetime_at l ≡ false) (type_append (t.path q p.leading (t.segments_of p.segments) p.trailing) (enclosed del.Brace o r))
    (path_first q p.leading (t.segments_of p.segments) p.trailing (enclosed del.Brace o r) refl)
frame_first (e.closure_block h) o r = closure_first h.lifetimes h.constness h.movability h.asyncness h.capture h.usage _
frame_first (e.while_loop None) o r = refl
frame_first (e.for_loop None p) o r = refl
frame_first _ o r = refl

-- what comes after a left end is no label, and a word only where it is `as`
record Behind (r : List Tok) (word : Bool) : Type 0 where
  no_label : lifetime_at r ≡ false
  word_there : is_word r ≡ word

infix_behind : (k : Infix) (l : List Tok) → Behind (infix_own k l) (is_cast_op k)
unfolding lifetime_at
infix_behind (inf.Binary bin.Add) l = record { no_label = refl; word_there = refl }
infix_behind (inf.Range limits.HalfOpen) l = record { no_label = refl; word_there = refl }
infix_behind _ l = record { no_label = refl; word_there = refl }

postfix_behind : (k : Postfix) (l : List Tok) → Behind (postfix_own k l) (is_cast_op (postfix_op k))
postfix_behind (e.cast x) l = infix_behind inf.Cast (type_own x l)
postfix_behind (e.range_from op) l = infix_behind (inf.Range op) l

trailer_behind : (k : Trailer) (i l : List Tok) → Behind (trailer_own k i l) false
unfolding lifetime_at
trailer_behind e.call i l = record { no_label = refl; word_there = refl }
trailer_behind _ i l = record { no_label = refl; word_there = refl }

attributes_first : (ats : List AttributeTree) (l : List Tok) (b : Bool) → lifetime_at l ≡ b → lifetime_at (attributes_own ats l) ≡ (is_nil ats && b)
unfolding lifetime_at attribute_own
attributes_first [] l b h = h
attributes_first (a ∷ more) l b h = refl

tree_first : (x : Tree) (r : List Tok) (word : Bool) → Behind r word → lifetime_at (own x r) ≡ tree_leads word x
unfolding lifetime_at
tree_first (leaf k) r word b = leaf_first k r b.no_label ∙ ap (λ w. leaf_leads w k) b.word_there
tree_first (paren m x) r word b = refl
tree_first (attributed a more x) r word b = attributes_first (outers (a ∷ more)) (own x r) (tree_leads word x) (tree_first x r word b)
tree_first (prefixed k gs x) r word b = prefix_first k _
tree_first (infixed x k y) r word b = tree_first x _ (is_cast_op k) (infix_behind k _)
tree_first (postfixed x k) r word b = tree_first x _ (is_cast_op (postfix_op k)) (postfix_behind k r)
tree_first (tail x k ks) r word b = tree_first x _ false (trailer_behind k _ r)
tree_first (frame k ks) r word b = frame_first k _ r

pub leading_label_is_first : LeadingLabelIsFirst
unfolding lifetime_at
leading_label_is_first x = sym (tree_first x [] false (record { no_label = refl; word_there = refl }))

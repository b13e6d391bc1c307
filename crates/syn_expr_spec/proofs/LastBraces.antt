-- The last of the own tokens of a tree: whether it is a group in braces.
use Rattle.std.proofs.Common.{◌≡◌, ◌||◌, ◌&&◌, ◌==◌, Bool, true, false, not, List, [], ◌∷◌, ◌++◌, Option, Some, None, refl, ap, ◌∙◌}
use Rattle.std.specs.Prelude.{codes, if◌then◌else◌}
use Rattle.syn_lexer.specs.declared.front.Delimiter.TheVariants as del
use Rattle.syn_tokens.specs.Tok.{Tok, ident, literal, group, inside}
use Rattle.syn_lower_spec.specs.declared.label.LitKind.{LitKind}
use Rattle.syn_lower_spec.specs.declared.label.LitKind.TheVariants as kind
use Rattle.syn_lower_spec.specs.Text.{Text}
use Rattle.syn_lower_spec.specs.Tree as t
use Rattle.syn_lower_spec.specs.Tree.{AttributeTree, LitTree, QSelfTree, PathTree}
use Rattle.syn_lower_spec.specs.Form.{is_nil}
use Rattle.syn_lower_spec.specs.Part.{MacroTree}
use Rattle.syn_lower_spec.specs.Pat as p
use Rattle.syn_lower_spec.specs.Pat.{MemberTree, PatBound, PatTree, SubPat, Pats}
use Rattle.syn_lower_spec.specs.Own.{alone, joint, before_if, colon2_before, type_own, segments_own, lit_own, lit_own_by, number_own, attribute_own, block_own, lifetimes_own, arguments_own, path_own, qualified_own, macro_own}
use Rattle.syn_lower_spec.specs.PatOwn.{attributes_own, member_own, range_bound_own, limits_before, vert_before, no_more_pats, pat_own, sub_own, or_own}
use Rattle.syn_lower_spec.proofs.Appends.{lit_append, type_append, segments_append, arguments_append}
use Rattle.syn_expr_spec.specs.declared.kinds.UnKind.TheVariants as un
use Rattle.syn_expr_spec.specs.declared.kinds.BinKind.TheVariants as bin
use Rattle.syn_expr_spec.specs.declared.kinds.Limits.TheVariants as limits
use Rattle.syn_expr_spec.specs.declared.kinds.Infix.{Infix}
use Rattle.syn_expr_spec.specs.declared.kinds.Infix.TheVariants as inf
use Rattle.syn_expr_spec.specs.Tree as e
use Rattle.syn_expr_spec.specs.Tree.{Tree, Children, Jump, Leaf, Prefix, Postfix, Trailer, Piece, Ending, ClosureHead, leaf, paren, attributed, prefixed, infixed, postfixed, tail, frame, none, child, outers, word_if, label_own, jump_own, own, children_own, leaf_own, prefix_own, closure_own, infix_own, postfix_own, trailer_own, piece_own, is_silent, is_repeated}
use Rattle.syn_expr_spec.specs.Query.{last_braces, is_braces, blocked, children_blocked, return_brace, leaf_brace, prefix_brace, postfix_brace, piece_brace, operand_brace, frame_brace, frame_head_brace, tree_brace, children_brace}
use Rattle.syn_expr_spec.proofs.LastTypes.{Fixed, over, through, if_there, if_some, one, first, colons, for_lifetimes, elements, type_last, return_last}

-- ---- what comes before others: attributes, literals, paths and patterns

attributes : (ats : List AttributeTree) (l : List Tok) (b : Bool) → Fixed l b → Fixed (attributes_own ats l) b
unfolding attribute_own
attributes [] l b f = f
attributes (a ∷ more) l b f =
    one (alone 35) _ b (if_there a.inner (λ m. alone 33 ∷ m) (one (alone 33)) _ b (one (group del.Bracket (inside a.tokens)) _ b (attributes more l b f)))

literals : (x : LitTree) (l : List Tok) (b : Bool) → Fixed l b → Fixed (lit_own x l) b
literals x l b f = through {F = lit_own x} (lit_append x) l b f

qualified : (q : QSelfTree) (w : PathTree) (l : List Tok) (b : Bool) → Fixed l b → Fixed (qualified_own (q, w) l) b
qualified q w l b f = through {F = qualified_own (q, w)} (type_append (t.path q w.leading (t.segments_of w.segments) w.trailing)) l b f

paths : (w : PathTree) (l : List Tok) (b : Bool) → Fixed l b → Fixed (path_own w l) b
paths w l b f =
    if_there w.leading colon2_before colons _ b
    (through {F = segments_own 0 (t.segments_of w.segments) w.trailing} (segments_append 0 (t.segments_of w.segments) w.trailing) l b f)

macros : (m : MacroTree) (l : List Tok) (b : Bool) → Fixed l b → Fixed (macro_own m l) b
macros m l b f = paths m.path _ b (one (alone 33) _ b (one (group m.delimiter (inside m.tokens)) l b f))

dots : (closed : Bool) (l : List Tok) (b : Bool) → Fixed l b → Fixed (limits_before closed l) b
dots true l b f = one _ _ b (one _ _ b (one _ l b f))
dots false l b f = one _ _ b (one _ l b f)

bounds : (x : PatBound) (l : List Tok) (b : Bool) → Fixed l b → Fixed (range_bound_own x l) b
bounds (p.lit_bound x) l b f = literals x l b f
bounds (p.path_bound q w) l b f = qualified q w l b f

words : (there : Bool) (w : Text) (l : List Tok) (b : Bool) → Fixed l b → Fixed (word_if there w l) b
words there w l b f = if_there there (λ m. ident w ∷ m) (one (ident w)) l b f

mutual
  patterns : (x : PatTree) (l : List Tok) (b : Bool) → Fixed l b → Fixed (pat_own x l) b
  patterns p.wild l b f = one _ l b f
  patterns p.rest l b f = dots false l b f
  patterns (p.range s c n) l b f = if_some s range_bound_own bounds _ b (dots c _ b (if_some n range_bound_own bounds l b f))
  patterns (p.a_lit x) l b f = literals x l b f
  patterns (p.a_binding r m w s) l b f = words r (codes "ref") _ b (words m (codes "mut") _ b (one (ident w) _ b (sub_patterns s l b f)))
  patterns (p.a_path q w) l b f = qualified q w l b f
  patterns (p.a_mac m) l b f = macros m l b f
  patterns (p.a_struct w fs c d) l b f = paths w _ b (one _ l b f)
  patterns (p.tuple_struct w ps c) l b f = paths w _ b (one _ l b f)
  patterns (p.a_tuple ps c) l b f = one _ l b f
  patterns (p.a_paren x) l b f = one _ l b f
  patterns (p.a_slice ps c) l b f = one _ l b f
  patterns (p.a_reference m x) l b f = one (alone 38) _ b (words m (codes "mut") _ b (patterns x l b f))
  patterns (p.a_block ts) l b f = one _ _ b (one _ l b f)
  patterns (p.alternatives v ps c) l b f = if_there v vert_before (one (alone 124)) _ b (or_patterns ps c l b f)
  patterns (p.guarded x) l b f = patterns x l b f
  patterns (p.typed x y) l b f = patterns x _ b (one (alone 58) _ b (through {F = type_own y} (type_append y) l b f))
  patterns (p.attributed a more x) l b f = attributes (a ∷ more) _ b (patterns x l b f)

  sub_patterns : (s : SubPat) (l : List Tok) (b : Bool) → Fixed l b → Fixed (sub_own s l) b
  sub_patterns p.no_sub l b f = f
  sub_patterns (p.sub x) l b f = one (alone 64) _ b (patterns x l b f)

  or_patterns : (ps : Pats) (c : Bool) (l : List Tok) (b : Bool) → Fixed l b → Fixed (or_own ps c l) b
  or_patterns p.no_pats c l b f = f
  or_patterns (p.more_pats x ps) c l b f = patterns x _ b (if_there (not (no_more_pats ps) || c) vert_before (one (alone 124)) _ b (or_patterns ps c l b f))

-- ---- the tree as it is: what comes after `else` ends with what it ends with

abbrev pub child_spelled : Bool → Piece → Bool → Bool
child_spelled before e.chained bare = bare
child_spelled before k bare = operand_brace before k bare

abbrev mutual
  pub as_spelled : Bool → Tree → Bool
  as_spelled before (leaf k) = leaf_brace before k
  as_spelled before (paren m x) = false
  as_spelled before (attributed a more x) = as_spelled (is_nil (outers (a ∷ more)) && before) x
  as_spelled before (prefixed k gs x) = as_spelled (prefix_brace k) x
  as_spelled before (infixed x k y) = as_spelled false y
  as_spelled before (postfixed x k) = postfix_brace k
  as_spelled before (tail x k ks) = false
  as_spelled before (frame k ks) = frame_brace k (children_spelled (frame_head_brace k) ks)

  pub children_spelled : Bool → Children → Bool
  children_spelled before none = before
  children_spelled before (child k e.no_ending x ks) = children_spelled (child_spelled before k (as_spelled (piece_brace before k) x)) ks
  children_spelled before (child k e.comma x ks) = children_spelled false ks
  children_spelled before (child k (e.braced b) x ks) = children_spelled true ks
  children_spelled before (child k (e.opened ats) x ks) = true

-- ---- the blocked tree, as it is, ends so

pub verbatim : (before : Bool) (k : Piece) (c : Ending) (x y : Tree) (ks ms : Children)
    → child_spelled before k (as_spelled (piece_brace before k) y) ≡ operand_brace before k (tree_brace (piece_brace before k) x)
    → ((b : Bool) → children_spelled b ms ≡ children_brace b ks) → children_spelled before (child k c y ms) ≡ children_brace before (child k c x ks)
verbatim before k e.no_ending x y ks ms same h = h _ ∙ ap (λ b. children_brace b ks) same
verbatim before k e.comma x y ks ms same h = h false
verbatim before k (e.braced b) x y ks ms same h = h true
verbatim before k (e.opened ats) x y ks ms same h = refl

mutual
  pub blocked_ends : (before : Bool) (x : Tree) → as_spelled before (blocked x) ≡ tree_brace before x
  blocked_ends before (attributed a more x) = blocked_ends _ x
  blocked_ends before (prefixed k gs x) = blocked_ends (prefix_brace k) x
  blocked_ends before (infixed x k y) = blocked_ends false y
  blocked_ends before (frame k ks) = ap (frame_brace k) (blocked_children (frame_head_brace k) ks)
  blocked_ends before _ = refl

  blocked_children : (before : Bool) (ks : Children) → children_spelled before (children_blocked ks) ≡ children_brace before ks
  blocked_children before none = refl
  blocked_children before (child e.chained c x ks) = verbatim before e.chained c x _ ks (children_blocked ks) refl (λ b. blocked_children b ks)
  blocked_children before (child k c x ks) =
      verbatim before k c x (blocked x) ks (children_blocked ks) (ap (operand_brace before k) (blocked_ends (piece_brace before k) x)) (λ b. blocked_children b ks)

-- ---- the tree ends so as it is spelled

verbatim_last : (before : Bool) (ts r : List Tok) → last_braces before (ts ++ r) ≡ last_braces (last_braces before ts) r
verbatim_last before [] r = refl
verbatim_last before (u ∷ ts) r = verbatim_last (is_braces u) ts r

number_last : (before : Bool) (text : Text) (r : List Tok) → last_braces before (number_own text r) ≡ last_braces false r
number_last before [] r = refl
number_last before (c ∷ text) r = by (c == 45)
  where
    by : (b : Bool) → last_braces before (if b then alone 45 ∷ literal text ∷ r else literal (c ∷ text) ∷ r) ≡ last_braces false r
    by true = refl
    by false = refl

lit_last : (before : Bool) (k : LitKind) (text : Text) (r : List Tok) → last_braces before (lit_own_by k text r) ≡ last_braces false r
lit_last before kind.Bool text r = refl
lit_last before kind.Int text r = number_last before text r
lit_last before kind.Float text r = number_last before text r
lit_last _ _ _ r = refl

jump_last : (before : Bool) (j : Jump) (r : List Tok) → last_braces before (jump_own j r) ≡ last_braces false r
jump_last before (e.breaking None) r = refl
jump_last before _ r = refl

leaf_last : (before : Bool) (k : Leaf) (r : List Tok) → last_braces before (leaf_own k r) ≡ last_braces (leaf_brace before k) r
unfolding lit_own block_own
leaf_last before (e.lit x) r = lit_last before x.kind x.text r
leaf_last before (e.path q w) r = type_last before (t.path q w.leading (t.segments_of w.segments) w.trailing) r
leaf_last before (e.mac m) r = (paths m.path _ _ (one (alone 33) _ _ (first (group m.delimiter (inside m.tokens)) r _ refl))).behind before
leaf_last before (e.full_range limits.HalfOpen) r = refl
leaf_last before (e.bare_jump j) r = jump_last before j r
leaf_last before (e.continuing None) r = refl
leaf_last before (e.block None b) r = refl
leaf_last before (e.loop_expr None b) r = refl
leaf_last before (e.async_block true ts) r = refl
leaf_last before (e.verbatim ts) r = verbatim_last before ts r
leaf_last before _ r = refl

closure_last : (h : ClosureHead) (before : Bool) (r : List Tok) → last_braces before (closure_own h r) ≡ last_braces (return_brace h.output) r
closure_last h before r =
    (if_some h.lifetimes lifetimes_own for_lifetimes _ _ (words h.constness (codes "const") _ _ (words h.movability (codes "static") _ _
    (words h.asyncness (codes "async") _ _ (words h.capture (codes "move") _ _ (words h.usage (codes "use") _ _
    (one (alone 124) _ _ (elements pat_own patterns h.inputs h.trailing _ _ (first (alone 124) _ _ (return_last h.output r)))))))))).behind before

prefix_last : (before : Bool) (k : Prefix) (r : List Tok) → last_braces before (prefix_own k r) ≡ last_braces (prefix_brace k) r
prefix_last before (e.unary un.Deref) r = refl
prefix_last before (e.reference true) r = refl
prefix_last before (e.range_to limits.HalfOpen) r = refl
prefix_last before (e.let_expr x) r = (patterns x _ _ (first (alone 61) r _ refl)).behind false
prefix_last before (e.jump j) r = jump_last before j r
prefix_last before (e.closure h) r = closure_last h before r
prefix_last before _ r = refl

infix_last : (before : Bool) (k : Infix) (r : List Tok) → last_braces before (infix_own k r) ≡ last_braces false r
infix_last before (inf.Binary bin.Add) r = refl
infix_last before (inf.Range limits.HalfOpen) r = refl
infix_last before _ r = refl

postfix_last : (before : Bool) (k : Postfix) (r : List Tok) → last_braces before (postfix_own k r) ≡ last_braces (postfix_brace k) r
postfix_last before (e.cast x) r = type_last false x r
postfix_last before (e.range_from op) r = infix_last before (inf.Range op) r

trailer_last : (before : Bool) (k : Trailer) (i r : List Tok) → last_braces before (trailer_own k i r) ≡ last_braces false r
trailer_last before (e.method w a) i r =
    (through {F = arguments_own a} (arguments_append a) _ _ (first (group del.Parenthesis (inside i)) r _ refl)).behind false
trailer_last before (e.field (p.a_name w)) i r = refl
trailer_last before _ i r = refl

label_last : (before : Bool) (w : Option Text) (l : List Tok) (b : Bool) → Fixed l b → last_braces before (label_own w l) ≡ b
label_last before None l b f = f.behind before
label_last before (Some w) l b f = f.behind false

-- after attributes, the last of which ends with brackets
attributed_last : (before : Bool) (a : AttributeTree) (more : List AttributeTree) (l : List Tok) → last_braces before (attributes_own (a ∷ more) l) ≡ last_braces false l
unfolding attribute_own
attributed_last before a [] l = (if_there a.inner (λ m. alone 33 ∷ m) (one (alone 33)) _ _ (first (group del.Bracket (inside a.tokens)) l _ refl)).behind false
attributed_last before a (b ∷ more) l =
    (if_there a.inner (λ m. alone 33 ∷ m) (one (alone 33)) _ _ (first (group del.Bracket (inside a.tokens)) _ _ (attributed_last false b more l))).behind false

attributes_last : (before : Bool) (ats : List AttributeTree) (l : List Tok) → last_braces before (attributes_own ats l) ≡ last_braces (is_nil ats && before) l
attributes_last before [] l = refl
attributes_last before (a ∷ more) l = attributed_last before a more l

members_last : (m : MemberTree) (l : List Tok) (b : Bool) → last_braces false l ≡ b → Fixed (member_own m l) b
members_last (p.a_name w) l b h = first _ l b h
members_last (p.an_index n) l b h = first _ l b h

piece_last : (before : Bool) (k : Piece) (l : List Tok) → last_braces before (piece_own k l) ≡ last_braces (piece_brace before k) l
piece_last before (e.field_value ats m true) l = (attributes (outers ats) _ _ (members_last m _ _ refl)).behind before
piece_last before (e.field_value ats m false) l = (attributes (outers ats) _ _ (members_last m _ _ refl)).behind before
piece_last true (e.rest true) l = refl
piece_last false (e.rest false) l = refl
piece_last before (e.guard ats x) l = (attributes ats _ _ (patterns x _ _ (first (ident (codes "if")) l _ refl))).behind before
piece_last before (e.arm ats x) l = (attributes ats _ _ (patterns x _ _ (one (joint 61) _ _ (first (alone 62) l _ refl)))).behind before
piece_last _ _ l = refl

operand_last : (before : Bool) (silent : Bool) (x : Tree) (l : List Tok) → last_braces before (own x l) ≡ last_braces (as_spelled before x) l
    → last_braces before (if silent then l else own x l) ≡ last_braces (if silent then before else as_spelled before x) l
operand_last before true x l h = refl
operand_last before false x l h = h

repeated_last : (before repeated : Bool) (l : List Tok) → last_braces before (before_if repeated (λ m. alone 59 ∷ m) l) ≡ last_braces (if repeated then false else before) l
repeated_last before true l = refl
repeated_last before false l = refl

child_is : (before : Bool) (k : Piece) (bare : Bool) → (if is_repeated k then false else (if is_silent k then piece_brace before k else bare)) ≡ child_spelled before k bare
child_is before e.chained bare = refl
child_is before k bare = refl

mutual
  pub tree_last : (before : Bool) (x : Tree) (r : List Tok) → last_braces before (own x r) ≡ last_braces (as_spelled before x) r
  tree_last before (leaf k) r = leaf_last before k r
  tree_last before (attributed a more x) r = attributes_last before (outers (a ∷ more)) (own x r) ∙ tree_last _ x r
  tree_last before (prefixed k gs x) r = prefix_last before k _ ∙ tree_last (prefix_brace k) x r
  tree_last before (infixed x k y) r = tree_last before x _ ∙ infix_last _ k _ ∙ tree_last false y r
  tree_last before (postfixed x k) r = tree_last before x _ ∙ postfix_last _ k r
  tree_last before (tail x k ks) r = tree_last before x _ ∙ trailer_last _ k _ r
  tree_last before (frame (e.structure q w d) ks) r =
      (over (qualified_own (q, w) []) _ _ (first (group del.Brace _) r _ refl)).behind before
  tree_last before (frame (e.closure_block h) ks) r = closure_last h before _ ∙ children_last (return_brace h.output) ks r
  tree_last before (frame e.if_expr ks) r = children_last false ks r
  tree_last before (frame (e.while_loop w) ks) r = label_last before w _ _ (first (ident (codes "while")) _ _ (children_last false ks r))
  tree_last before (frame (e.for_loop w x) ks) r =
      label_last before w _ _ (one (ident (codes "for")) _ _ (patterns x _ _ (first (ident (codes "in")) _ _ (children_last false ks r))))
  tree_last before (frame e.match_expr ks) r = children_last false ks r
  tree_last before _ r = refl

  children_last : (before : Bool) (ks : Children) (r : List Tok) → last_braces before (children_own ks r) ≡ last_braces (children_spelled before ks) r
  children_last before none r = refl
  children_last before (child k e.no_ending x ks) r =
      piece_last before k _ ∙ operand_last (piece_brace before k) (is_silent k) x _ (tree_last (piece_brace before k) x _)
      ∙ repeated_last _ (is_repeated k) _ ∙ children_last _ ks r
      ∙ ap (λ b. last_braces (children_spelled b ks) r) (child_is before k (as_spelled (piece_brace before k) x))
  children_last before (child k e.comma x ks) r =
      piece_last before k _ ∙ operand_last (piece_brace before k) (is_silent k) x _ (tree_last (piece_brace before k) x _) ∙ children_last false ks r
  children_last before (child k (e.braced b) x ks) r =
      piece_last before k _ ∙ operand_last (piece_brace before k) (is_silent k) x _ (tree_last (piece_brace before k) x _) ∙ children_last true ks r
  children_last before (child k (e.opened ats) x ks) r =
      piece_last before k _ ∙ operand_last (piece_brace before k) (is_silent k) x _ (tree_last (piece_brace before k) x _)

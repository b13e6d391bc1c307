-- The own tokens of expressions whose leaves are lexed.
use Rattle.std.proofs.Common.{◌≡◌, Bool, true, false, List, [], ◌∷◌, refl, codes, Option}
use Rattle.std.specs.Prelude.{if◌then◌else◌}
use Rattle.std.proofs.lemmas.Bool.{and_parts, and_from}
use Rattle.syn_lexer.specs.declared.front.Delimiter.TheVariants as del
use Rattle.syn_tokens.specs.Tok.{Tok, ident}
use Rattle.syn_lower_spec.specs.Text.{Text}
use Rattle.syn_lower_spec.specs.Tree.{AttributeTree}
use Rattle.syn_lower_spec.specs.Own.{alone, joint, before_if, before_some, comma_before, lifetime_own, lifetimes_own, block_own, qualified_own}
use Rattle.syn_lower_spec.specs.PatOwn.{pat_own}
use Rattle.syn_expr_spec.specs.declared.kinds.BinKind.{BinKind}
use Rattle.syn_expr_spec.specs.declared.kinds.BinKind.TheVariants as bin
use Rattle.syn_expr_spec.specs.declared.kinds.UnKind.{UnKind}
use Rattle.syn_expr_spec.specs.declared.kinds.UnKind.TheVariants as un
use Rattle.syn_expr_spec.specs.declared.kinds.Limits.{Limits}
use Rattle.syn_expr_spec.specs.declared.kinds.Limits.TheVariants as limits
use Rattle.syn_expr_spec.specs.declared.kinds.Infix.{Infix}
use Rattle.syn_expr_spec.specs.declared.kinds.Infix.TheVariants as inf
use Rattle.syn_expr_spec.specs.Op.{binary_text, limits_text, unary_text}
use Rattle.syn_expr_spec.specs.Tree as e
use Rattle.syn_expr_spec.specs.Tree.{Body, Jump, Leaf, ClosureHead, Prefix, Postfix, Trailer, Frame, Piece, Ending, Tree, Children, outers, inners, sign_before, label_own, body_own, jump_own, leaf_own, closure_own, prefix_own, infix_own, postfix_own, trailer_own, enclosure, piece_own, is_silent, is_repeated, inside_of, ending_own, framed, behind_operands, own, children_own}
use Rattle.syn_text.specs.Lexed.{is_lexed}
use Rattle.syn_text_spec.specs.Leaves.{word_lexed, lifetime_lexed, lexed_if, all_lexed, attributes_lexed, lifetimes_lexed, return_lexed, arguments_lexed, member_lexed, pat_lexed, body_lexed, jump_lexed, leaf_lexed, closure_lexed, prefix_lexed, postfix_lexed, trailer_lexed, frame_lexed, piece_lexed, ending_lexed, leaves_lexed, children_lexed}
use Rattle.syn_text_spec.proofs.Words.{words}
use Rattle.syn_text_spec.proofs.Lists.{Lexed, lexed, nil, put, append, word, life, close, lit, comma, if_there, if_some, elements, lifetimes, attributes}
use Rattle.syn_text_spec.proofs.Types.{type_ok, return_ok, arguments_ok, qualified_ok, macro_ok}
use Rattle.syn_text_spec.proofs.Pats.{member, vert, flag, pat_ok}

-- ---- signs

binary : (op : BinKind) {r : List Tok} → Lexed r → Lexed (sign_before (binary_text op) r)
binary bin.Add l = put refl l
binary bin.Sub l = put refl l
binary bin.Mul l = put refl l
binary bin.Div l = put refl l
binary bin.Rem l = put refl l
binary bin.And l = put refl (put refl l)
binary bin.Or l = put refl (put refl l)
binary bin.BitXor l = put refl l
binary bin.BitAnd l = put refl l
binary bin.BitOr l = put refl l
binary bin.Shl l = put refl (put refl l)
binary bin.Shr l = put refl (put refl l)
binary bin.Eq l = put refl (put refl l)
binary bin.Lt l = put refl l
binary bin.Le l = put refl (put refl l)
binary bin.Ne l = put refl (put refl l)
binary bin.Ge l = put refl (put refl l)
binary bin.Gt l = put refl l
binary bin.AddAssign l = put refl (put refl l)
binary bin.SubAssign l = put refl (put refl l)
binary bin.MulAssign l = put refl (put refl l)
binary bin.DivAssign l = put refl (put refl l)
binary bin.RemAssign l = put refl (put refl l)
binary bin.BitXorAssign l = put refl (put refl l)
binary bin.BitAndAssign l = put refl (put refl l)
binary bin.BitOrAssign l = put refl (put refl l)
binary bin.ShlAssign l = put refl (put refl (put refl l))
binary bin.ShrAssign l = put refl (put refl (put refl l))

range : (op : Limits) {r : List Tok} → Lexed r → Lexed (sign_before (limits_text op) r)
range limits.HalfOpen l = put refl (put refl l)
range limits.Closed l = put refl (put refl (put refl l))

unary : (op : UnKind) {r : List Tok} → Lexed r → Lexed (sign_before (unary_text op) r)
unary un.Deref l = put refl l
unary un.Not l = put refl l
unary un.Neg l = put refl l

-- ---- attributes and blocks

pub outers_lexed : (ats : List AttributeTree) → attributes_lexed ats ≡ true → attributes_lexed (outers ats) ≡ true
outers_lexed [] h = refl
outers_lexed (a ∷ more) h = let p = and_parts (is_lexed a.tokens) (attributes_lexed more) h in by a.inner p.0 (outers_lexed more p.1)
  where
    by : (b : Bool) → is_lexed a.tokens ≡ true → attributes_lexed (outers more) ≡ true → attributes_lexed (if b then outers more else a ∷ outers more) ≡ true
    by true one others = others
    by false one others = and_from (is_lexed a.tokens) (attributes_lexed (outers more)) one others

inners_lexed : (ats : List AttributeTree) → attributes_lexed ats ≡ true → attributes_lexed (inners ats) ≡ true
inners_lexed [] h = refl
inners_lexed (a ∷ more) h = let p = and_parts (is_lexed a.tokens) (attributes_lexed more) h in by a.inner p.0 (inners_lexed more p.1)
  where
    by : (b : Bool) → is_lexed a.tokens ≡ true → attributes_lexed (inners more) ≡ true → attributes_lexed (if b then a ∷ inners more else inners more) ≡ true
    by true one others = and_from (is_lexed a.tokens) (attributes_lexed (inners more)) one others
    by false one others = others

label : (o : Option Text) {r : List Tok} → lexed_if lifetime_lexed o ≡ true → Lexed r → Lexed (label_own o r)
label o h l = if_some lifetime_lexed {own = λ w n. lifetime_own w (alone 58 ∷ n)} (λ w g r n. life w g (put refl n)) o h l

target : (o : Option Text) {r : List Tok} → lexed_if lifetime_lexed o ≡ true → Lexed r → Lexed (before_some o lifetime_own r)
target o h l = if_some lifetime_lexed {own = lifetime_own} (λ w g r n. life w g n) o h l

body : (b : Body) {r : List Tok} → body_lexed b ≡ true → Lexed r → Lexed (body_own b r)
body b h l =
    let p = and_parts (attributes_lexed b.inner) (is_lexed b.tokens) h in
    close del.Brace refl (attributes (inners b.inner) (inners_lexed b.inner p.0) (lexed p.1)) l

braces : (ts : List Tok) {r : List Tok} → is_lexed ts ≡ true → Lexed r → Lexed (block_own ts r)
unfolding block_own
braces ts h l = close del.Brace refl (lexed h) l

-- ---- labels of nodes

jump : (j : Jump) {r : List Tok} → jump_lexed j ≡ true → Lexed r → Lexed (jump_own j r)
jump e.returning h l = put words.return_word l
jump e.yielding h l = put words.yield_word l
jump (e.breaking o) h l = put words.break_word (target o h l)

leaf : (k : Leaf) {r : List Tok} → leaf_lexed k ≡ true → Lexed r → Lexed (leaf_own k r)
leaf (e.lit x) h l = lit x h l
leaf (e.path q p) h l = qualified_ok q p h l
leaf (e.mac m) h l = macro_ok m h l
leaf e.infer h l = put words.underscore l
leaf (e.full_range op) h l = range op l
leaf (e.bare_jump j) h l = jump j h l
leaf (e.continuing o) h l = put words.continue_word (target o h l)
leaf (e.block o b) h l =
    let p = and_parts (lexed_if lifetime_lexed o) (body_lexed b) h in
    label o p.0 (body b p.1 l)
leaf (e.loop_expr o b) h l =
    let p = and_parts (lexed_if lifetime_lexed o) (body_lexed b) h in
    label o p.0 (put words.loop_word (body b p.1 l))
leaf (e.unsafe_block b) h l = put words.unsafe_word (body b h l)
leaf (e.const_block b) h l = put words.const_word (body b h l)
leaf (e.async_block m ts) h l = put words.async_word (flag m (codes "move") words.move_word (braces ts h l))
leaf (e.try_block ts) h l = put words.try_word (braces ts h l)
leaf (e.verbatim ts) h l = append ts h l

closure : (h : ClosureHead) {r : List Tok} → closure_lexed h ≡ true → Lexed r → Lexed (closure_own h r)
closure h g l =
    let p = and_parts (lexed_if lifetimes_lexed h.lifetimes) _ g in
    let q = and_parts (all_lexed pat_lexed h.inputs) (return_lexed h.output) p.1 in
    if_some lifetimes_lexed {own = lifetimes_own} (λ x i r n. lifetimes x i n) h.lifetimes p.0
    (flag h.constness (codes "const") words.const_word (flag h.movability (codes "static") words.static_word
    (flag h.asyncness (codes "async") words.async_word (flag h.capture (codes "move") words.move_word
    (flag h.usage (codes "use") words.use_word
    (vert (elements pat_lexed {own = pat_own} {sep = comma_before} (λ x i r n. pat_ok x i n) (λ r n. comma n) h.inputs h.trailing q.0
    (vert (return_ok h.output q.1 l)))))))))

mut_or_const : (m : Bool) {r : List Tok} → Lexed r → Lexed (ident (if m then codes "mut" else codes "const") ∷ r)
mut_or_const true l = put words.mut_word l
mut_or_const false l = put words.const_word l

prefix_ok : (k : Prefix) {r : List Tok} → prefix_lexed k ≡ true → Lexed r → Lexed (prefix_own k r)
prefix_ok (e.unary op) h l = unary op l
prefix_ok (e.reference m) h l = put refl (flag m (codes "mut") words.mut_word l)
prefix_ok (e.raw_addr m) h l = put refl (put words.raw_word (mut_or_const m l))
prefix_ok (e.range_to op) h l = range op l
prefix_ok (e.let_expr x) h l = put words.let_word (pat_ok x h (put refl l))
prefix_ok (e.jump j) h l = jump j h l
prefix_ok (e.closure c) h l = closure c h l

infix_ok : (k : Infix) {r : List Tok} → Lexed r → Lexed (infix_own k r)
infix_ok (inf.Binary op) l = binary op l
infix_ok inf.Assign l = put refl l
infix_ok (inf.Range op) l = range op l
infix_ok inf.Cast l = put words.as_word l

postfix_ok : (k : Postfix) {r : List Tok} → postfix_lexed k ≡ true → Lexed r → Lexed (postfix_own k r)
postfix_ok (e.cast x) h l = put words.as_word (type_ok x h l)
postfix_ok (e.range_from op) h l = range op l

trailer : (k : Trailer) {i r : List Tok} → trailer_lexed k ≡ true → Lexed i → Lexed r → Lexed (trailer_own k i r)
trailer e.call h i l = close del.Parenthesis refl i l
trailer e.index h i l = close del.Bracket refl i l
trailer (e.method w a) h i l =
    let p = and_parts (word_lexed w) (arguments_lexed a) h in
    put refl (word w p.0 (arguments_ok a p.1 (close del.Parenthesis refl i l)))
trailer (e.field m) h i l = put refl (member m h l)
trailer e.await h i l = put refl (put words.await_word l)
trailer e.try_expr h i l = put refl l

-- ---- frames

-- the tokens round the operands of a frame, and those behind the last of them
around : (k : Frame) {ts r : List Tok} → frame_lexed k ≡ true → Lexed ts → Lexed r → Lexed (framed k (enclosure k) ts r)
around e.array h i l = close del.Bracket refl i l
around e.tuple h i l = close del.Parenthesis refl i l
around e.repeat h i l = close del.Bracket refl i l
around (e.structure q p dots) h i l = append (qualified_own (q, p) []) (qualified_ok q p h nil).is (close del.Brace refl i l)
around (e.closure_block c) h i l = closure c h i
around e.if_expr h i l = put words.if_word i
around (e.while_loop o) h i l = label o h (put words.while_word i)
around (e.for_loop o x) h i l =
    let p = and_parts (lexed_if lifetime_lexed o) (pat_lexed x) h in
    label o p.0 (put words.for_word (pat_ok x p.1 (put words.in_word i)))
around e.match_expr h i l = put words.match_word i
around e.group_expr h i l = absurd cc

dots_before : (d : Bool) {r : List Tok} → Lexed r → Lexed (before_if d (λ n. joint 46 ∷ alone 46 ∷ n) r)
dots_before d l = if_there d {f = λ n. joint 46 ∷ alone 46 ∷ n} (λ r n. put refl (put refl n)) l

behind : (k : Frame) {r : List Tok} → Lexed r → Lexed (behind_operands (enclosure k) r)
behind e.array l = nil
behind e.tuple l = nil
behind e.repeat l = nil
behind (e.structure q p dots) l = dots_before dots nil
behind (e.closure_block c) l = l
behind e.if_expr l = l
behind (e.while_loop o) l = l
behind (e.for_loop o x) l = l
behind e.match_expr l = l
behind e.group_expr l = nil

piece : (k : Piece) {r : List Tok} → piece_lexed k ≡ true → Lexed r → Lexed (piece_own k r)
piece (e.field_value ats m colon) h l =
    let p = and_parts (attributes_lexed ats) (member_lexed m) h in
    attributes (outers ats) (outers_lexed ats p.0) (member m p.1 (if_there colon {f = λ n. alone 58 ∷ n} (λ r n. put refl n) l))
piece (e.rest dots) h l = dots_before dots l
piece e.chained h l = put words.else_word l
piece (e.guard ats x) h l =
    let p = and_parts (attributes_lexed ats) (pat_lexed x) h in
    attributes ats p.0 (pat_ok x p.1 (put words.if_word l))
piece e.guarded h l = put refl (put refl l)
piece (e.arm ats x) h l =
    let p = and_parts (attributes_lexed ats) (pat_lexed x) h in
    attributes ats p.0 (pat_ok x p.1 (put refl (put refl l)))
piece _ h l = l

inside : (c : Ending) {r : List Tok} → Lexed r → Lexed (inside_of c r)
inside (e.opened ats) l = nil
inside _ l = l

ending : (k : Piece) (c : Ending) {ts r : List Tok} → ending_lexed c ≡ true → Lexed ts → Lexed r → Lexed (ending_own k c ts r)
ending k e.no_ending h i l = if_there (is_repeated k) {f = λ n. alone 59 ∷ n} (λ r n. put refl n) i
ending k e.comma h i l = put refl i
ending k (e.braced b) h i l = body b h i
ending k (e.opened ats) h i l = close del.Brace refl (attributes (inners ats) (inners_lexed ats h) i) l

silent : (b : Bool) {ts us : List Tok} → Lexed ts → Lexed us → Lexed (if b then ts else us)
silent true l m = l
silent false l m = m

mutual
  pub tree_ok : (t : Tree) {r : List Tok} → leaves_lexed t ≡ true → Lexed r → Lexed (own t r)
  tree_ok (e.leaf k) h l = leaf k h l
  tree_ok (e.paren m t) h l = close del.Parenthesis refl (tree_ok t h nil) l
  tree_ok (e.attributed a more t) h l =
      let p = and_parts (is_lexed a.tokens) _ h in
      let q = and_parts (attributes_lexed more) (leaves_lexed t) p.1 in
      attributes (outers (a ∷ more)) (outers_lexed (a ∷ more) (and_from (is_lexed a.tokens) (attributes_lexed more) p.0 q.0)) (tree_ok t q.1 l)
  tree_ok (e.prefixed k gs t) h l =
      let p = and_parts (prefix_lexed k) (leaves_lexed t) h in
      prefix_ok k p.0 (tree_ok t p.1 l)
  tree_ok (e.infixed x k y) h l =
      let p = and_parts (leaves_lexed x) (leaves_lexed y) h in
      tree_ok x p.0 (infix_ok k (tree_ok y p.1 l))
  tree_ok (e.postfixed x k) h l =
      let p = and_parts (leaves_lexed x) (postfix_lexed k) h in
      tree_ok x p.0 (postfix_ok k p.1 l)
  tree_ok (e.tail b k ks) h l =
      let p = and_parts (leaves_lexed b) _ h in
      let q = and_parts (trailer_lexed k) (children_lexed ks) p.1 in
      tree_ok b p.0 (trailer k q.0 (children_ok ks q.1 nil) l)
  tree_ok (e.frame k ks) h l =
      let p = and_parts (frame_lexed k) (children_lexed ks) h in
      around k p.0 (children_ok ks p.1 (behind k l)) l

  pub children_ok : (ks : Children) {r : List Tok} → children_lexed ks ≡ true → Lexed r → Lexed (children_own ks r)
  children_ok e.none h l = l
  children_ok (e.child k c t ks) h l =
      let p = and_parts (piece_lexed k) _ h in
      let q = and_parts (ending_lexed c) _ p.1 in
      let s = and_parts (leaves_lexed t) (children_lexed ks) q.1 in
      let others = ending k c q.0 (children_ok ks s.1 (inside c l)) l in
      piece k p.0 (silent (is_silent k) others (tree_ok t s.0 others))

-- What follows the own tokens of a tree follows them as they are.
use Rattle.std.proofs.Common.{◌≡◌, Bool, true, false, List, [], ◌∷◌, ◌++◌, Option, Some, None, refl}
use Rattle.std.specs.Prelude.{codes, not, ◌||◌, if◌then◌else◌}
use Rattle.syn_lexer.specs.declared.front.Delimiter.TheVariants as del
use Rattle.syn_tokens.specs.Tok.{Tok, ident}
use Rattle.syn_tokens.specs.Sign.{sign_toks}
use Rattle.syn_lower_spec.specs.Text.{Text}
use Rattle.syn_lower_spec.specs.Pat.{PatTree}
use Rattle.syn_lower_spec.specs.Form.{is_nil}
use Rattle.syn_lower_spec.specs.Own.{alone, joint, comma_before, enclosed, elements_own, lifetime_own, lifetimes_own, block_own}
use Rattle.syn_lower_spec.specs.PatOwn.{pat_own}
use Rattle.syn_lower_spec.proofs.Appends.{both, one, if_there, if_some, group_first, verbatim_append, lifetime_append, lit_append, type_append, arguments_append, lifetimes_own-append, return_append}
use Rattle.syn_pat.proofs.Appends.{words, attributes_append, qualified_append, path_append, member_append, pat_append}
use Rattle.syn_expr_spec.specs.declared.kinds.Infix.{Infix}
use Rattle.syn_expr_spec.specs.declared.kinds.Infix.TheVariants as inf
use Rattle.syn_expr_spec.specs.Op.{binary_text, limits_text, unary_text}
use Rattle.syn_expr_spec.specs.Tree as e
use Rattle.syn_expr_spec.specs.Tree.{Tree, Children, Jump, Leaf, Prefix, Postfix, Trailer, Frame, Enclosure, Piece, Ending, ClosureHead, outers, leaf, paren, attributed, prefixed, infixed, postfixed, tail, frame, none, child, sign_before, label_own, body_own, jump_own, leaf_own, closure_own, prefix_own, infix_own, postfix_own, trailer_own, frame_own, enclosure, piece_own, is_silent, is_repeated, inside_of, ending_own, framed, behind_operands, own, children_own}

-- tokens before others, which follow as they are
abbrev pub Before : (List Tok → List Tok) → Type 0
Before F = (r : List Tok) → F r ≡ F [] ++ r

signs : (text : Text) → Before (sign_before text)
signs text r = verbatim_append (sign_toks text) r

-- ---- labels

labels : (w : Option Text) → Before (label_own w)
labels None r = refl
labels (Some w) r = refl

jump_append : (j : Jump) → Before (jump_own j)
jump_append e.returning r = refl
jump_append e.yielding r = refl
jump_append (e.breaking w) r = both (one (ident (codes "break"))) (if_some w lifetime_own lifetime_append) r

blocks : (ts : List Tok) → Before (block_own ts)
unfolding block_own
blocks ts r = refl

pub leaf_append : (k : Leaf) → Before (leaf_own k)
leaf_append (e.lit x) r = lit_append x r
leaf_append (e.path q p) r = qualified_append q p r
leaf_append (e.mac m) r = both {G = λ l. alone 33 ∷ enclosed m.delimiter m.tokens l} (path_append m.path) (λ l. refl) r
leaf_append e.infer r = refl
leaf_append (e.full_range op) r = signs (limits_text op) r
leaf_append (e.bare_jump j) r = jump_append j r
leaf_append (e.continuing w) r = both (one (ident (codes "continue"))) (if_some w lifetime_own lifetime_append) r
leaf_append (e.block w b) r = both {G = body_own b} (labels w) (λ l. refl) r
leaf_append (e.loop_expr w b) r = both {G = λ l. ident (codes "loop") ∷ body_own b l} (labels w) (λ l. refl) r
leaf_append (e.unsafe_block b) r = refl
leaf_append (e.const_block b) r = refl
leaf_append (e.async_block m ts) r = both (one (ident (codes "async"))) (both (words m (codes "move")) (blocks ts)) r
leaf_append (e.try_block ts) r = both (one (ident (codes "try"))) (blocks ts) r
leaf_append (e.verbatim ts) r = verbatim_append ts r

inputs : (xs : List PatTree) (c : Bool) → Before (elements_own pat_own comma_before xs c)
inputs [] c r = refl
inputs (x ∷ xs) c r = both (pat_append x) (both (if_there (not (is_nil xs) || c) {F = comma_before} (λ m. refl)) (inputs xs c)) r

pub closure_append : (h : ClosureHead) → Before (closure_own h)
closure_append h r =
    both (if_some h.lifetimes lifetimes_own lifetimes_own-append) (both (words h.constness (codes "const")) (both (words h.movability (codes "static")) (both (words h.asyncness (codes "async"))
    (both (words h.capture (codes "move")) (both (words h.usage (codes "use"))
    (both (one (alone 124)) (both (inputs h.inputs h.trailing) (both (one (alone 124)) (return_append h.output))))))))) r

pub prefix_append : (k : Prefix) → Before (prefix_own k)
prefix_append (e.unary op) r = signs (unary_text op) r
prefix_append (e.reference m) r = both (one (alone 38)) (words m (codes "mut")) r
prefix_append (e.raw_addr m) r = refl
prefix_append (e.range_to op) r = signs (limits_text op) r
prefix_append (e.let_expr p) r = both (one (ident (codes "let"))) (both (pat_append p) (one (alone 61))) r
prefix_append (e.jump j) r = jump_append j r
prefix_append (e.closure h) r = closure_append h r

pub infix_append : (k : Infix) → Before (infix_own k)
infix_append (inf.Binary op) r = signs (binary_text op) r
infix_append inf.Assign r = refl
infix_append (inf.Range op) r = signs (limits_text op) r
infix_append inf.Cast r = refl

pub postfix_append : (k : Postfix) → Before (postfix_own k)
postfix_append (e.cast x) r = both (one (ident (codes "as"))) (type_append x) r
postfix_append (e.range_from op) r = signs (limits_text op) r

pub trailer_append : (k : Trailer) (i : List Tok) → Before (trailer_own k i)
trailer_append e.call i r = refl
trailer_append e.index i r = refl
trailer_append (e.method w a) i r = both {F = λ l. alone 46 ∷ ident w ∷ l} (λ l. refl) (both (arguments_append a) (group_first del.Parenthesis i)) r
trailer_append (e.field m) i r = both (one (alone 46)) (member_append m) r
trailer_append e.await i r = refl
trailer_append e.try_expr i r = refl

pub frame_append : (k : Frame) → Before (frame_own k)
frame_append (e.closure_block h) r = closure_append h r
frame_append e.if_expr r = refl
frame_append (e.while_loop w) r = both (labels w) (one (ident (codes "while"))) r
frame_append (e.for_loop w p) r = both (labels w) (both (one (ident (codes "for"))) (both (pat_append p) (one (ident (codes "in"))))) r
frame_append e.match_expr r = refl
frame_append e.array r = refl
frame_append e.tuple r = refl
frame_append e.repeat r = refl
frame_append (e.structure q p d) r = refl
frame_append e.group_expr r = refl

pub piece_append : (k : Piece) → Before (piece_own k)
piece_append (e.field_value ats m c) r = both (attributes_append (outers ats)) (both (member_append m) (if_there c (one (alone 58)))) r
piece_append (e.rest d) r = if_there d {F = λ l. joint 46 ∷ alone 46 ∷ l} (λ l. refl) r
piece_append e.chained r = refl
piece_append (e.guard ats p) r = both (attributes_append ats) (both (pat_append p) (one (ident (codes "if")))) r
piece_append e.guarded r = refl
piece_append (e.arm ats p) r = both (attributes_append ats) (both {G = λ l. joint 61 ∷ alone 62 ∷ l} (pat_append p) (λ l. refl)) r
piece_append e.element r = refl
piece_append e.value r = refl
piece_append e.repeated r = refl
piece_append e.condition r = refl
piece_append e.loop_head r = refl
piece_append e.scrutinee r = refl
piece_append e.output_block r = refl
piece_append e.grouped r = refl
piece_append e.stray r = refl

-- ---- trees

framed_append : (k : Frame) (o : Option Enclosure) (F : List Tok → List Tok) → Before F
    → (r : List Tok) → framed k o (F (behind_operands o r)) r ≡ framed k o (F (behind_operands o [])) [] ++ r
framed_append k None F f r = both (frame_append k) f r
framed_append k (Some x) F f r = both (verbatim_append x.head) (group_first x.delimiter (F x.ending)) r

operand_append : (silent : Bool) (t : Tree) (F : List Tok → List Tok) → Before (own t) → Before F → Before (λ r. if silent then F r else own t (F r))
operand_append true t F h f r = f r
operand_append false t F h f r = both h f r

pub ending_append : (k : Piece) (c : Ending) (F : List Tok → List Tok) → Before F → Before (λ r. ending_own k c (F (inside_of c r)) r)
ending_append k e.no_ending F f r = both (if_there (is_repeated k) (one (alone 59))) f r
ending_append k e.comma F f r = both (one (alone 44)) f r
ending_append k (e.braced b) F f r = both {F = body_own b} (λ l. refl) f r
ending_append k (e.opened ats) F f r = refl

mutual
  pub own_append : (t : Tree) → Before (own t)
  own_append (leaf k) r = leaf_append k r
  own_append (paren m t) r = refl
  own_append (attributed a more t) r = both (attributes_append (outers (a ∷ more))) (own_append t) r
  own_append (prefixed k gs t) r = both (prefix_append k) (own_append t) r
  own_append (infixed x k y) r = both (own_append x) (both (infix_append k) (own_append y)) r
  own_append (postfixed x k) r = both (own_append x) (postfix_append k) r
  own_append (tail b k ks) r = both (own_append b) (trailer_append k (children_own ks [])) r
  own_append (frame k ks) r = framed_append k (enclosure k) (children_own ks) (children_append ks) r

  pub children_append : (ks : Children) → Before (children_own ks)
  children_append none r = refl
  children_append (child k c t ks) r =
      both (piece_append k)
      (operand_append (is_silent k) t (λ l. ending_own k c (children_own ks (inside_of c l)) l) (own_append t) (ending_append k c (children_own ks) (children_append ks))) r

-- Expressions as trees, without places in a text (Rust Reference, "Expressions"). A kind is a label of one of a few shapes:
-- closed at both ends (`leaf`), in parentheses, tokens before an operand (`prefixed`), tokens between two operands (`infixed`),
-- tokens after an operand (`postfixed`), a trailer with what it encloses (`tail`), operands in places of their own (`frame`);
-- and a shape for attributes.
use Rattle.std.specs.Prelude.{◌≡◌, ℕ, ◌+◌, ◌-◌, Bool, true, false, not, ◌||◌, ◌&&◌, if◌then◌else◌, List, [], ◌∷◌, ◌++◌, length, take, codes, Option, Some, None}
use Rattle.syn_lexer.specs.declared.front.Delimiter.{Delimiter}
use Rattle.syn_lexer.specs.declared.front.Delimiter.TheVariants as del
use Rattle.syn_tokens.specs.Tok.{Tok, ident}
use Rattle.syn_tokens.specs.Sign.{sign_toks}
use Rattle.syn_lower_spec.specs.Text.{Text}
use Rattle.syn_lower_spec.specs.Tree.{LitTree, AttributeTree, LifetimesTree, TypeTree, QSelfTree, PathTree, ArgumentsTree, ReturnTree}
use Rattle.syn_lower_spec.specs.Part.{MacroTree}
use Rattle.syn_lower_spec.specs.Pat.{MemberTree, PatTree}
use Rattle.syn_lower_spec.specs.Own.{alone, joint, before_if, before_some, comma_before, enclosed, elements_own, lit_own, lifetime_own, lifetimes_own, block_own, type_own, return_own, arguments_own, qualified_own, macro_own}
use Rattle.syn_lower_spec.specs.PatOwn.{attributes_own, member_own, pat_own}
pub use Rattle.syn_lower_spec.specs.PatOwn.{word_if, vert_before}
use Rattle.syn_expr_spec.specs.declared.kinds.UnKind.{UnKind}
use Rattle.syn_expr_spec.specs.declared.kinds.Limits.{Limits}
use Rattle.syn_expr_spec.specs.declared.kinds.Infix.{Infix}
use Rattle.syn_expr_spec.specs.declared.kinds.Infix.TheVariants as inf
use Rattle.syn_expr_spec.specs.Op.{binary_text, limits_text, unary_text}

-- what is in the braces of a block: attributes (only the inner ones are spelled) and the tokens of its statements
pub record Body : Type 0 where
  pub inner : List AttributeTree
  pub tokens : List Tok

-- The `break` has a label or none.
pub data Jump : Type 0 where
  returning : Jump
  yielding : Jump
  breaking : Option Text → Jump

pub data Leaf : Type 0 where
  lit : LitTree → Leaf
  path : QSelfTree → PathTree → Leaf
  mac : MacroTree → Leaf
  infer : Leaf
  -- a range without a start and an end
  full_range : Limits → Leaf
  -- a jump without a value
  bare_jump : Jump → Leaf
  continuing : Option Text → Leaf
  -- with a label or none
  block : Option Text → Body → Leaf
  loop_expr : Option Text → Body → Leaf
  unsafe_block : Body → Leaf
  const_block : Body → Leaf
  -- whether `move` is there; the block's tokens
  async_block : Bool → List Tok → Leaf
  try_block : List Tok → Leaf
  -- verbatim tokens
  verbatim : List Tok → Leaf

-- a closure up to its body: lifetimes, `const`, `static`, `async`, `move`, `use`, its arguments and whether a comma ends
-- them, its output
pub record ClosureHead : Type 0 where
  pub lifetimes : Option LifetimesTree
  pub constness : Bool
  pub movability : Bool
  pub asyncness : Bool
  pub capture : Bool
  pub usage : Bool
  pub inputs : List PatTree
  pub trailing : Bool
  pub output : ReturnTree

pub data Prefix : Type 0 where
  unary : UnKind → Prefix
  -- `&`, and whether `mut` is there
  reference : Bool → Prefix
  -- `&raw`, and whether `mut` or `const`
  raw_addr : Bool → Prefix
  -- a range without a start
  range_to : Limits → Prefix
  -- a `let` with its pattern
  let_expr : PatTree → Prefix
  -- a jump before its value
  jump : Jump → Prefix
  -- a closure before its body
  closure : ClosureHead → Prefix

pub data Postfix : Type 0 where
  cast : TypeTree → Postfix
  -- a range without an end
  range_from : Limits → Postfix

pub data Trailer : Type 0 where
  call : Trailer
  index : Trailer
  -- a method's name and its arguments in angle brackets
  method : Text → ArgumentsTree → Trailer
  field : MemberTree → Trailer
  await : Trailer
  try_expr : Trailer

pub data Frame : Type 0 where
  array : Frame
  tuple : Frame
  repeat : Frame
  -- a struct expression, and whether `..` ends it with no expression after
  structure : QSelfTree → PathTree → Bool → Frame
  -- a closure with an output, before its block
  closure_block : ClosureHead → Frame
  if_expr : Frame
  while_loop : Option Text → Frame
  for_loop : Option Text → PatTree → Frame
  match_expr : Frame
  -- an invisible group
  group_expr : Frame

-- what an operand in a place of its own is, with the tokens before it
pub data Piece : Type 0 where
  -- an element of a list
  element : Piece
  -- alone in delimiters, or the length after `;`
  value : Piece
  -- before `;`
  repeated : Piece
  -- a field's value, and whether a colon is before it: without one it isn't spelled
  field_value : List AttributeTree → MemberTree → Bool → Piece
  -- after the fields of a struct expression, and whether `..` is before it
  rest : Bool → Piece
  -- before the block of an `if`, of a loop, and before the arms of a `match`
  condition : Piece
  loop_head : Piece
  scrutinee : Piece
  -- after `else`
  chained : Piece
  -- a match guard after its pattern, the body after it, and an arm's body after a pattern
  guard : List AttributeTree → PatTree → Piece
  guarded : Piece
  arm : List AttributeTree → PatTree → Piece
  -- the block of a closure with an output
  output_block : Piece
  -- in an invisible group
  grouped : Piece
  -- a guard in a pattern where none may stand: it isn't spelled
  stray : Piece

-- the tokens after such an operand
pub data Ending : Type 0 where
  no_ending : Ending
  comma : Ending
  braced : Body → Ending
  -- the braces of a `match`, with what follows inside: after inner attributes
  opened : List AttributeTree → Ending

mutual
  pub data Tree : Type 0 where
    leaf : Leaf → Tree
    -- The mark says that a printer added the pair. What is read, or is in a program's value, has none.
    paren : Bool → Tree → Tree
    -- after one attribute or more
    attributed : AttributeTree → List AttributeTree → Tree → Tree
    -- with stray guards of its patterns
    prefixed : Prefix → Children → Tree → Tree
    infixed : Tree → Infix → Tree → Tree
    postfixed : Tree → Postfix → Tree
    tail : Tree → Trailer → Children → Tree
    frame : Frame → Children → Tree

  pub data Children : Type 0 where
    none : Children
    child : Piece → Ending → Tree → Children → Children

abbrev pub attributed_with : List AttributeTree → Tree → Tree
attributed_with [] t = t
attributed_with (a ∷ more) t = attributed a more t

-- ---- attributes (Rust Reference, "Expression attributes"): the outer ones come before an expression. In blocks, loops and
-- a `match` the inner ones come first in the braces. Other kinds print no inner one.

-- the outer ones of these, and the inner ones, in their order
abbrev pub outers : List AttributeTree → List AttributeTree
outers [] = []
outers (a ∷ more) = if a.inner then outers more else a ∷ outers more

abbrev pub inners : List AttributeTree → List AttributeTree
inners [] = []
inners (a ∷ more) = if a.inner then a ∷ inners more else inners more

-- those from the first inner one on
abbrev pub from_inner : List AttributeTree → List AttributeTree
from_inner [] = []
from_inner (a ∷ more) = if a.inner then a ∷ more else from_inner more

-- whether inner attributes are in the braces of the node
abbrev pub leaf_has_braces : Leaf → Bool
leaf_has_braces (block label b) = true
leaf_has_braces (loop_expr label b) = true
leaf_has_braces (unsafe_block b) = true
leaf_has_braces (const_block b) = true
leaf_has_braces _ = false

abbrev pub frame_has_braces : Frame → Bool
frame_has_braces (while_loop label) = true
frame_has_braces (for_loop label p) = true
frame_has_braces match_expr = true
frame_has_braces _ = false

abbrev pub has_braces : Tree → Bool
has_braces (leaf k) = leaf_has_braces k
has_braces (frame k ks) = frame_has_braces k
has_braces _ = false

-- The attributes in the braces: those of the node's list from the first inner one on. Only the inner ones are spelled
-- there. The outer ones among them come before the node too: so the tree keeps the order of the list.
abbrev pub leaf_inner : Leaf → List AttributeTree
leaf_inner (block label b) = b.inner
leaf_inner (loop_expr label b) = b.inner
leaf_inner (unsafe_block b) = b.inner
leaf_inner (const_block b) = b.inner
leaf_inner _ = []

abbrev pub children_inner : Children → List AttributeTree
children_inner none = []
children_inner (child k (braced b) t ks) = b.inner
children_inner (child k (opened ats) t ks) = ats
children_inner (child k c t ks) = children_inner ks

abbrev pub frame_inner : Frame → Children → List AttributeTree
frame_inner k ks = if frame_has_braces k then children_inner ks else []

abbrev pub inner_in : Tree → List AttributeTree
inner_in (leaf k) = leaf_inner k
inner_in (frame k ks) = frame_inner k ks
inner_in _ = []

-- the node with these there instead; what has no such braces stays as it is
abbrev pub body_of : List AttributeTree → List Tok → Body
body_of ats ts = record { inner = ats; tokens = ts }

abbrev pub leaf_with : List AttributeTree → Leaf → Leaf
leaf_with ats (block label b) = block label (body_of ats b.tokens)
leaf_with ats (loop_expr label b) = loop_expr label (body_of ats b.tokens)
leaf_with ats (unsafe_block b) = unsafe_block (body_of ats b.tokens)
leaf_with ats (const_block b) = const_block (body_of ats b.tokens)
leaf_with ats k = k

abbrev pub children_with : List AttributeTree → Children → Children
children_with ats none = none
children_with ats (child k (braced b) t ks) = child k (braced (body_of ats b.tokens)) t ks
children_with ats (child k (opened old) t ks) = child k (opened ats) t ks
children_with ats (child k c t ks) = child k c t (children_with ats ks)

abbrev pub frame_with : List AttributeTree → Frame → Children → Children
frame_with ats k ks = if frame_has_braces k then children_with ats ks else ks

abbrev pub with_inner : List AttributeTree → Tree → Tree
with_inner ats (leaf k) = leaf (leaf_with ats k)
with_inner ats (frame k ks) = frame k (frame_with ats k ks)
with_inner ats t = t

-- which of these attributes come before the node
abbrev pub outside : Tree → List AttributeTree → List AttributeTree
outside t ats = if has_braces t then outers ats else ats

-- without its last ones, as many as the others are
abbrev pub but_last : List AttributeTree → List AttributeTree → List AttributeTree
but_last others ats = take (length ats - length others) ats

-- all attributes of t in the order of its list: those before the first inner one, then those from it on
abbrev pub attributes_in : Tree → List AttributeTree
attributes_in (attributed a more t) = but_last (outers (attributes_in t)) (a ∷ more) ++ attributes_in t
attributes_in t = inner_in t

-- t with these attributes in place of its own; verbatim tokens have none and take none
abbrev pub with_attributes : List AttributeTree → Tree → Tree
with_attributes ats (attributed a more t) = with_attributes ats t
with_attributes ats (leaf (verbatim ts)) = leaf (verbatim ts)
with_attributes ats t = attributed_with (outside t ats) (with_inner (from_inner ats) t)

-- Attributes before those that t has, the inner ones in its braces too; verbatim tokens have the outer ones as their first
-- tokens.
abbrev pub prepend : List AttributeTree → Tree → Tree
prepend more (attributed b bs t) = attributed_with (outside t more ++ b ∷ bs) (with_inner (inners more ++ inner_in t) t)
prepend more (leaf (verbatim ts)) = leaf (verbatim (attributes_own (outers more) ts))
prepend more t = attributed_with (outside t more) (with_inner (inners more ++ inner_in t) t)

-- the block of these tokens, as it comes after `else` and after a closure's output
abbrev pub plain_block : List Tok → Tree
plain_block ts = leaf (block None (record { inner = []; tokens = ts }))

-- ---- the tree's own spelling: its tokens from left to right, the last punct of each token alone, before the tokens r.
-- A node and a field have their outer attributes before them, an arm all of its attributes.

abbrev pub sign_before : Text → List Tok → List Tok
sign_before text r = sign_toks text ++ r

abbrev pub label_own : Option Text → List Tok → List Tok
label_own label r = before_some label (λ w l. lifetime_own w (alone 58 ∷ l)) r

abbrev pub body_own : Body → List Tok → List Tok
body_own b r = enclosed del.Brace (attributes_own (inners b.inner) b.tokens) r

abbrev pub jump_own : Jump → List Tok → List Tok
jump_own returning r = ident (codes "return") ∷ r
jump_own yielding r = ident (codes "yield") ∷ r
jump_own (breaking label) r = ident (codes "break") ∷ before_some label lifetime_own r

abbrev pub leaf_own : Leaf → List Tok → List Tok
leaf_own (lit x) r = lit_own x r
leaf_own (path q p) r = qualified_own (q, p) r
leaf_own (mac m) r = macro_own m r
leaf_own infer r = ident (codes "_") ∷ r
leaf_own (full_range op) r = sign_before (limits_text op) r
leaf_own (bare_jump j) r = jump_own j r
leaf_own (continuing label) r = ident (codes "continue") ∷ before_some label lifetime_own r
leaf_own (block label b) r = label_own label (body_own b r)
leaf_own (loop_expr label b) r = label_own label (ident (codes "loop") ∷ body_own b r)
leaf_own (unsafe_block b) r = ident (codes "unsafe") ∷ body_own b r
leaf_own (const_block b) r = ident (codes "const") ∷ body_own b r
leaf_own (async_block m ts) r = ident (codes "async") ∷ word_if m (codes "move") (block_own ts r)
leaf_own (try_block ts) r = ident (codes "try") ∷ block_own ts r
leaf_own (verbatim ts) r = ts ++ r

abbrev pub closure_own : ClosureHead → List Tok → List Tok
closure_own h r =
    before_some h.lifetimes lifetimes_own (word_if h.constness (codes "const") (word_if h.movability (codes "static")
    (word_if h.asyncness (codes "async") (word_if h.capture (codes "move") (word_if h.usage (codes "use")
    (vert_before (elements_own pat_own comma_before h.inputs h.trailing (vert_before (return_own h.output r)))))))))

abbrev pub prefix_own : Prefix → List Tok → List Tok
prefix_own (unary op) r = sign_before (unary_text op) r
prefix_own (reference m) r = alone 38 ∷ word_if m (codes "mut") r
prefix_own (raw_addr m) r = alone 38 ∷ ident (codes "raw") ∷ ident (if m then codes "mut" else codes "const") ∷ r
prefix_own (range_to op) r = sign_before (limits_text op) r
prefix_own (let_expr p) r = ident (codes "let") ∷ pat_own p (alone 61 ∷ r)
prefix_own (jump j) r = jump_own j r
prefix_own (closure h) r = closure_own h r

abbrev pub infix_own : Infix → List Tok → List Tok
infix_own (inf.Binary op) r = sign_before (binary_text op) r
infix_own inf.Assign r = alone 61 ∷ r
infix_own (inf.Range op) r = sign_before (limits_text op) r
infix_own inf.Cast r = ident (codes "as") ∷ r

-- the operator of what comes after an operand
abbrev pub postfix_op : Postfix → Infix
postfix_op (cast x) = inf.Cast
postfix_op (range_from op) = inf.Range op

abbrev pub postfix_own : Postfix → List Tok → List Tok
postfix_own (cast x) r = ident (codes "as") ∷ type_own x r
postfix_own (range_from op) r = sign_before (limits_text op) r

-- `inner` is what it encloses
abbrev pub trailer_own : Trailer → List Tok → List Tok → List Tok
trailer_own call inner r = enclosed del.Parenthesis inner r
trailer_own index inner r = enclosed del.Bracket inner r
trailer_own (method w a) inner r = alone 46 ∷ ident w ∷ arguments_own a (enclosed del.Parenthesis inner r)
trailer_own (field m) inner r = alone 46 ∷ member_own m r
trailer_own await inner r = alone 46 ∷ ident (codes "await") ∷ r
trailer_own try_expr inner r = alone 63 ∷ r

-- the tokens before the operands of a frame, where no delimiter encloses them
abbrev pub frame_own : Frame → List Tok → List Tok
frame_own (closure_block h) r = closure_own h r
frame_own if_expr r = ident (codes "if") ∷ r
frame_own (while_loop label) r = label_own label (ident (codes "while") ∷ r)
frame_own (for_loop label p) r = label_own label (ident (codes "for") ∷ pat_own p (ident (codes "in") ∷ r))
frame_own match_expr r = ident (codes "match") ∷ r
frame_own _ r = r

-- the delimiter round the operands of a frame, the tokens before it, and those after the operands in it
pub record Enclosure : Type 0 where
  pub delimiter : Delimiter
  pub head : List Tok
  pub ending : List Tok

abbrev pub enclosure : Frame → Option Enclosure
enclosure array = Some (record { delimiter = del.Bracket; head = []; ending = [] })
enclosure tuple = Some (record { delimiter = del.Parenthesis; head = []; ending = [] })
enclosure repeat = Some (record { delimiter = del.Bracket; head = []; ending = [] })
enclosure (structure q p dots) = Some (record { delimiter = del.Brace; head = qualified_own (q, p) []; ending = before_if dots (λ l. joint 46 ∷ alone 46 ∷ l) [] })
enclosure group_expr = Some (record { delimiter = del.None; head = []; ending = [] })
enclosure _ = None

abbrev pub piece_own : Piece → List Tok → List Tok
piece_own (field_value ats m colon) r = attributes_own (outers ats) (member_own m (before_if colon (λ l. alone 58 ∷ l) r))
piece_own (rest dots) r = before_if dots (λ l. joint 46 ∷ alone 46 ∷ l) r
piece_own chained r = ident (codes "else") ∷ r
piece_own (guard ats p) r = attributes_own ats (pat_own p (ident (codes "if") ∷ r))
piece_own guarded r = joint 61 ∷ alone 62 ∷ r
piece_own (arm ats p) r = attributes_own ats (pat_own p (joint 61 ∷ alone 62 ∷ r))
piece_own _ r = r

-- the operand itself is not spelled
abbrev pub is_silent : Piece → Bool
is_silent (field_value ats m colon) = not colon
is_silent stray = true
is_silent _ = false

abbrev pub is_repeated : Piece → Bool
is_repeated repeated = true
is_repeated _ = false

-- what comes after the operands that follow: nothing where this opens the braces that they are in
abbrev pub inside_of : Ending → List Tok → List Tok
inside_of (opened ats) r = []
inside_of _ r = r

-- `others` is what the operands that follow are spelled by
abbrev pub ending_own : Piece → Ending → List Tok → List Tok → List Tok
ending_own k no_ending others r = before_if (is_repeated k) (λ l. alone 59 ∷ l) others
ending_own k comma others r = alone 44 ∷ others
ending_own k (braced b) others r = body_own b others
ending_own k (opened ats) others r = enclosed del.Brace (attributes_own (inners ats) others) r

abbrev pub framed : Frame → Option Enclosure → List Tok → List Tok → List Tok
framed k None operands r = frame_own k operands
framed k (Some e) operands r = e.head ++ enclosed e.delimiter operands r

-- what follows the operands: the tokens after the whole, or the end of what is enclosed
abbrev pub behind_operands : Option Enclosure → List Tok → List Tok
behind_operands None r = r
behind_operands (Some e) r = e.ending

abbrev mutual
  pub own : Tree → List Tok → List Tok
  own (leaf k) r = leaf_own k r
  own (paren m t) r = enclosed del.Parenthesis (own t []) r
  own (attributed a more t) r = attributes_own (outers (a ∷ more)) (own t r)
  own (prefixed k gs t) r = prefix_own k (own t r)
  own (infixed x k y) r = own x (infix_own k (own y r))
  own (postfixed x k) r = own x (postfix_own k r)
  own (tail b k ks) r = own b (trailer_own k (children_own ks []) r)
  own (frame k ks) r = framed k (enclosure k) (children_own ks (behind_operands (enclosure k) r)) r

  pub children_own : Children → List Tok → List Tok
  children_own none r = r
  children_own (child k e t ks) r =
      piece_own k (if is_silent k then ending_own k e (children_own ks (inside_of e r)) r
      else own t (ending_own k e (children_own ks (inside_of e r)) r))

abbrev pub own_tokens : Tree → List Tok
own_tokens t = own t []

-- ---- what is the same tree

-- the tree without the marks
abbrev mutual
  pub clear : Tree → Tree
  clear (leaf k) = leaf k
  clear (paren m t) = paren false (clear t)
  clear (attributed a more t) = attributed a more (clear t)
  clear (prefixed k gs t) = prefixed k (clear_children gs) (clear t)
  clear (infixed x k y) = infixed (clear x) k (clear y)
  clear (postfixed x k) = postfixed (clear x) k
  clear (tail b k ks) = tail (clear b) k (clear_children ks)
  clear (frame k ks) = frame k (clear_children ks)

  pub clear_children : Children → Children
  clear_children none = none
  clear_children (child k e t ks) = child k e (clear t) (clear_children ks)

-- Parentheses are removed everywhere; their attributes come before those of what they held, inner ones in the braces that
-- this has.
abbrev mutual
  pub flatten : Tree → Tree
  flatten (leaf k) = leaf k
  flatten (paren m t) = flatten t
  flatten (attributed a more t) = prepend (a ∷ more) (flatten t)
  flatten (prefixed k gs t) = prefixed k (flatten_children gs) (flatten t)
  flatten (infixed x k y) = infixed (flatten x) k (flatten y)
  flatten (postfixed x k) = postfixed (flatten x) k
  flatten (tail b k ks) = tail (flatten b) k (flatten_children ks)
  flatten (frame k ks) = frame k (flatten_children ks)

  pub flatten_children : Children → Children
  flatten_children none = none
  flatten_children (child k e t ks) = child k e (flatten t) (flatten_children ks)

-- ---- the fill-ins: the comma of a tuple of one, those between arms, the one before `..`, and `..` before a rest

-- an expression that ends with a block, after which a statement or an arm ends (Rust Reference, "Expression
-- statements", "Match expressions")
abbrev pub is_block_leaf : Leaf → Bool
is_block_leaf (block label b) = true
is_block_leaf (loop_expr label b) = true
is_block_leaf (unsafe_block b) = true
is_block_leaf (const_block b) = true
is_block_leaf (try_block ts) = true
is_block_leaf _ = false

abbrev pub is_block_frame : Frame → Bool
is_block_frame if_expr = true
is_block_frame (while_loop label) = true
is_block_frame (for_loop label p) = true
is_block_frame match_expr = true
is_block_frame _ = false

abbrev pub is_block_like : Tree → Bool
is_block_like (leaf k) = is_block_leaf k
is_block_like (attributed a more t) = is_block_like t
is_block_like (frame k ks) = is_block_frame k
is_block_like _ = false

abbrev pub is_none : Children → Bool
is_none none = true
is_none (child k e t ks) = false

abbrev pub is_one : Children → Bool
is_one none = false
is_one (child k e t ks) = is_none ks

-- the last of the operands needs a comma too
abbrev pub needs_last_comma : Frame → Children → Bool
needs_last_comma tuple ks = is_one ks
needs_last_comma (structure q p dots) ks = dots
needs_last_comma _ ks = false

-- Whether a comma is needed after the operand t: `more` operands follow, `last` says whether one is needed anyway.
abbrev pub needs_comma : Piece → Tree → Bool → Bool → Bool
needs_comma element t more last = more || last
needs_comma (field_value ats m colon) t more last = more || last
needs_comma guarded t more last = more && not (is_block_like t)
needs_comma (arm ats p) t more last = more && not (is_block_like t)
needs_comma _ t more last = false

abbrev pub with_comma : Bool → Ending → Ending
with_comma true no_ending = comma
with_comma b e = e

abbrev pub fill_piece : Piece → Piece
fill_piece (rest dots) = rest true
fill_piece k = k

abbrev mutual
  pub fill : Tree → Tree
  fill (leaf k) = leaf k
  fill (paren m t) = paren m (fill t)
  fill (attributed a more t) = attributed a more (fill t)
  fill (prefixed k gs t) = prefixed k (fill_children false gs) (fill t)
  fill (infixed x k y) = infixed (fill x) k (fill y)
  fill (postfixed x k) = postfixed (fill x) k
  fill (tail b k ks) = tail (fill b) k (fill_children false ks)
  fill (frame k ks) = frame k (fill_children (needs_last_comma k ks) ks)

  pub fill_children : Bool → Children → Children
  fill_children last none = none
  fill_children last (child k e t ks) =
      child (fill_piece k) (with_comma (needs_comma k t (not (is_none ks)) last) e) (fill t) (fill_children last ks)

-- the same up to parentheses and fill-ins: t is printed, r read back
abbrev pub IsSameTree : Tree → Tree → Type 0
IsSameTree t r = flatten r ≡ flatten (fill t)

-- how many nodes there are; attributes are a part of their node
abbrev mutual
  pub size : Tree → ℕ
  size (leaf k) = 1
  size (paren m t) = 1 + size t
  size (attributed a more t) = size t
  size (prefixed k gs t) = 1 + (children_size gs + size t)
  size (infixed x k y) = 1 + (size x + size y)
  size (postfixed x k) = 1 + size x
  size (tail b k ks) = 1 + (size b + children_size ks)
  size (frame k ks) = 1 + children_size ks

  pub children_size : Children → ℕ
  children_size none = 0
  children_size (child k e t ks) = size t + children_size ks

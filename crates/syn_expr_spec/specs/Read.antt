-- How a list of tokens is read, step by step. No contract of a reader names this: `Stands` says what is read, and
-- `ReadingIsExact` that this is it.
use Rattle.std.specs.Prelude.{ℕ, zero, suc, ◌-◌, Bool, true, false, not, ◌||◌, ◌&&◌, if◌then◌else◌, is_some, List, [], ◌∷◌, ◌++◌, drop, take, length, codes, Option, Some, None}
use Rattle.syn_lexer.specs.declared.front.Delimiter.TheVariants as del
use Rattle.syn_tokens.specs.Tok.{Tok, weight}
use Rattle.syn_tokens.specs.Front.{group_at, is_empty}
use Rattle.syn_lower_spec.specs.Text.{Text}
use Rattle.syn_lower_spec.specs.Same.{same_toks}
use Rattle.syn_lower_spec.specs.Tree.{AttributeTree}
use Rattle.syn_lower_spec.specs.Form.{Outcome, Test, Mark, and_then}
use Rattle.syn_lower_spec.specs.Mark.{word, brace_at, round_at, semi, star, bang, and, pound, lifetime_at}
use Rattle.syn_lower_spec.specs.Part.{outer_attributes, inner_attributes, type, QPathTree, MacroEnd, macro_end}
use Rattle.syn_lower_spec.specs.Pat.{an_index}
use Rattle.syn_expr_spec.specs.declared.kinds.Infix.{Infix}
use Rattle.syn_expr_spec.specs.declared.kinds.Infix.TheVariants as inf
use Rattle.syn_expr_spec.specs.declared.kinds.Limits.TheVariants as limits
use Rattle.syn_expr_spec.specs.declared.kinds.Precedence.{Precedence}
use Rattle.syn_expr_spec.specs.declared.kinds.Place.{Place}
use Rattle.syn_expr_spec.specs.Place.{plain, before_block, at, takes}
use Rattle.syn_expr_spec.specs.Path.{expr_path, invisible_at}
use Rattle.syn_expr_spec.specs.Op.{infix_at, level}
use Rattle.syn_expr_spec.specs.Front.{ends_open_range, dot_at, question_at, bracket_at}
use Rattle.syn_expr_spec.specs.Tree as e
use Rattle.syn_expr_spec.specs.Tree.{Tree, Children, ClosureHead, Leaf, Prefix, Postfix, Trailer, Frame, Piece, Ending, leaf, paren, attributed, prefixed, infixed, postfixed, tail, frame, none, child, plain_block, postfix_op, is_one, is_silent}
use Rattle.syn_expr_spec.specs.Head.{leaf_form, prefix_form, dotted, to_named, from_closure, label, closure_at, jump_at, range_at, let_word, minus, leaf_at}
use Rattle.syn_expr_spec.specs.Slot.{Slot, Holder, elements, single, fields, conditions, scrutinees, arms, after, may_end, piece_form, piece_place, ending_at, frame_holder, trailer_holder, nothing, within, bare, is_chained, for_head, while_word, for_word, if_word, match_word}
use Rattle.syn_expr_spec.specs.Stands.{closes, ends, ends_operation, fits_left, fits_base, leaf_stands, prefix_stands, prefix_place, infix_stands, postfix_stands, frame_stands, frame_ends, ends_list, short_value, takes_block, takes_attributes, rests, is_range, fields_of, name_at, indices_at, has_no_comma}

abbrev pub Reading : Type 0 → Type 0
Reading A = List Tok → Outcome A

abbrev pub give : {A : Type 0} → A → Reading A
give a = λ l. Some (a, l)

-- the one, then the other
infixl 10 ◌>>=◌
abbrev pub ◌>>=◌ : {A B : Type 0} → Reading A → (A → Reading B) → Reading B
p >>= f = λ l. and_then (p l) f

-- made of what was read
infixr 11 ◌<$>◌
abbrev pub ◌<$>◌ : {A B : Type 0} → (A → B) → Reading A → Reading B
f <$> p = p >>= (λ x. give (f x))

-- what was read, where this holds
abbrev pub only_if : {A : Type 0} → Bool → Option A → Option A
only_if b o = if b then o else None

-- what was read, where that is all of a list
abbrev pub all_of : {A : Type 0} → Outcome A → Option A
all_of None = None
all_of (Some (x, [])) = Some x
all_of (Some (x, t ∷ l)) = None

-- made of what was found, before some tokens
abbrev pub before : {A B : Type 0} → Option A → (A → B) → Reading B
before None f l = None
before (Some x) f l = Some (f x, l)

-- the tokens of l before n
abbrev pub taken : List Tok → List Tok → List Tok
taken l n = take (length l - length n) l

-- they and n are l
abbrev pub is_taken : List Tok → List Tok → Bool
is_taken l n = same_toks (taken l n ++ n) l

-- ---- leaves, by what comes after them

-- where it is there
abbrev pub standing : Place → Leaf → Reading Tree
standing p k l = if leaf_stands p k l then Some (leaf k, l) else None

unfoldable pub leaf_read : Place → Reading Tree
leaf_read p = leaf_form.reads >>= standing p

-- ---- ends

-- where the place lets it end
unfoldable pub stop : Place → Tree → Reading Tree
stop p x l = if ends p x l then Some (x, l) else None

-- the operator that an expression at this level takes next, and how many tokens it is
abbrev pub taken_by : Precedence → Option (Infix × ℕ) → Option (Infix × ℕ)
taken_by v None = None
taken_by v (Some o) = if takes v (level o.0) then Some o else None

unfoldable pub taken_at : Precedence → List Tok → Option (Infix × ℕ)
taken_at v l = taken_by v (infix_at l)

-- a range takes none, nor does a block-like expression at a head
abbrev pub next_operator : Place → Tree → List Tok → Option (Infix × ℕ)
next_operator p left l = if is_range left || rests p left then None else taken_at p.level l

-- `<-` does not go on it
abbrev pub operation : Infix → Tree → Reading Tree
operation op x l = if ends_operation op l then Some (x, l) else None

-- ---- attributes

abbrev pub verbatim_leaf_of : Leaf → Option (List Tok)
verbatim_leaf_of (e.verbatim ts) = Some ts
verbatim_leaf_of _ = None

abbrev pub verbatim_of : Tree → Option (List Tok)
verbatim_of (leaf k) = verbatim_leaf_of k
verbatim_of _ = None

abbrev pub attributed_by : Place → List Tok → List Tok → AttributeTree → List AttributeTree → Tree → Option (List Tok) → Reading Tree
attributed_by p l m a more x None n = only_if (takes_attributes p x) (Some (attributed a more x, n))
attributed_by p l m a more x (Some ts) n = only_if (is_taken l m) (Some (leaf (e.verbatim (taken l m ++ ts)), n))

-- with these attributes, which were read from l before the tokens m of x
abbrev pub read_attributed : Place → List Tok → List Tok → List AttributeTree → Tree → Reading Tree
read_attributed p l m [] x n = None
read_attributed p l m (a ∷ more) x n = attributed_by p l m a more x (verbatim_of x) n

-- ---- first tokens

abbrev pub become_word : Mark
become_word = word (codes "become")

unfoldable pub prefix_at : Test
prefix_at l =
    star.at l || (bang.at l || (minus.at l || (and.at l || (range_at l || (let_word.at l || (jump_at l || closure_at l))))))

-- where no block comes after a label
unfoldable pub loop_head_at : Test
loop_head_at l = lifetime_at l || (while_word.at l || for_word.at l)

-- ---- expressions, by a reading of the expressions inside

abbrev pub is_scrutinees : Slot → Bool
is_scrutinees scrutinees = true
is_scrutinees _ = false

module _ (expr : Place → Reading Tree) where
  -- ---- operands in places of their own

  abbrev pub ended_by : Piece → Tree → Reading (Ending × Tree)
  ended_by k x l = and_then (ending_at k x l) (λ c n. Some ((c, x), n))

  abbrev pub if_expr_by : Reading Children → Reading Tree
  if_expr_by inner l = only_if (if_word.at l) ((frame e.if_expr <$> inner) (drop 1 l))

  -- a block that keeps its tokens, or an `if` after `else`
  abbrev pub block_by : Reading Children → Piece → Reading (Ending × Tree)
  block_by inner k l =
      if brace_at l then and_then (group_at del.Brace l) (λ i n. Some ((e.no_ending, plain_block i), n))
      else only_if (is_chained k) ((if_expr_by inner >>= ended_by k) l)

  -- a value that a name says, or an expression
  abbrev pub value_by : Piece → Option Tree → Reading (Ending × Tree)
  value_by k (Some x) l = ended_by k x l
  value_by k None l = only_if (not (is_silent k)) ((expr (piece_place k) >>= ended_by k) l)

  abbrev pub operand_of : Reading Children → Piece → Reading (Ending × Tree)
  operand_of inner k l = if takes_block k then block_by inner k l else value_by k (short_value k) l

  -- what a `match` looks at, and its arms
  abbrev pub armed : Reading Children → Tree → Reading Children
  armed arms_of x l =
      and_then (group_at del.Brace l) (λ i n. and_then (inner_attributes.reads i) (λ ats j.
      before (all_of (arms_of j)) (λ ks. child e.scrutinee (e.opened ats) x ks) n))

  -- one of the operands, and more
  abbrev pub operands_by : (Slot → Reading Children) → Slot → Reading Children
  operands_by more s l =
      if is_scrutinees s then (expr before_block >>= armed (more arms)) l
      else (if may_end s l then Some (none, l)
      else ((piece_form s).reads >>= (λ k. operand_of (more conditions) k >>= (λ c. (λ ks. child k c.0 c.1 ks) <$> more (after k)))) l)

  -- the operands from a slot on, fewer than so many
  unfoldable pub operands : ℕ → Slot → Reading Children
  operands zero s l = None
  operands (suc n) s l = operands_by (operands n) s l

  unfoldable pub bare_operands : Slot → Reading Children
  bare_operands s l = operands (suc (weight l)) s l

  abbrev pub ended_list : Bool → Children → List Tok → Reading Children
  ended_list d ks o n = only_if (ends_list d o) (Some (ks, n))

  unfoldable pub content : Holder → Reading Children
  content nothing = give none
  content (within d s b) = λ l. and_then (group_at d l) (λ i n. and_then (bare_operands s i) (λ ks o. ended_list b ks o n))
  content (bare s) = bare_operands s

  abbrev pub framed_by : Place → Frame → Reading Tree
  framed_by p k l = and_then (content (frame_holder k) l) (λ ks n. only_if (frame_ends p k ks n && frame_stands p k ks) (Some (frame k ks, n)))

  -- ---- in parentheses and brackets

  -- one without a comma is in parentheses, all else a tuple
  abbrev pub rounded : Children → Tree
  rounded none = frame e.tuple none
  rounded (child k c x ks) = if is_one (child k c x ks) && has_no_comma (child k c x ks) then paren false x else frame e.tuple (child k c x ks)

  unfoldable pub round_read : Reading Tree
  round_read = rounded <$> content (within del.Parenthesis elements false)

  abbrev pub repeated_by : Tree → Reading Tree
  repeated_by x = (λ ks. frame e.repeat (child e.repeated e.no_ending x ks)) <$> bare_operands single

  abbrev pub elements_by : Tree → Reading Tree
  elements_by x = ended_by e.element x >>= (λ c. (λ ks. frame e.array (child e.element c.0 x ks)) <$> bare_operands elements)

  abbrev pub bracketed : Tree → Reading Tree
  bracketed x m = if semi.at m then repeated_by x (drop 1 m) else elements_by x m

  abbrev pub bracket_inside : List Tok → Option Tree
  bracket_inside i = if is_empty i then Some (frame e.array none) else all_of ((expr plain >>= bracketed) i)

  unfoldable pub bracket_read : Reading Tree
  bracket_read l = and_then (group_at del.Bracket l) (λ i n. before (bracket_inside i) (λ x. x) n)

  -- ---- paths, macros and struct expressions

  abbrev pub structured : Place → QPathTree → Bool → List Tok → Children → Reading Tree
  structured p q d o ks n = only_if (ends_list d o && frame_stands p (e.structure q.0 q.1 d) ks) (Some (frame (e.structure q.0 q.1 d) ks, n))

  -- `..` may end it
  abbrev pub structure_read : Place → QPathTree → Reading Tree
  structure_read p q l =
      and_then (group_at del.Brace l) (λ i n. and_then (bare_operands fields i) (λ ks o. structured p q (not (is_empty o)) o ks n))

  abbrev pub named_by : Place → QPathTree → MacroEnd → Reading Tree
  named_by p q None l = if brace_at l && not p.condition then structure_read p q l else standing p (to_named (q, None)) l
  named_by p q (Some g) l = standing p (to_named (q, Some g)) l

  unfoldable pub named_read : Place → Reading Tree
  named_read p = (expr_path (not p.condition)).reads >>= (λ q. (macro_end q).reads >>= named_by p q)

  -- ---- what comes before an operand

  -- a jump or a range without an operand, or a closure with an output
  abbrev pub unled : Place → List Tok → Option ClosureHead → Reading Tree
  unled p l None m = leaf_read p l
  unled p l (Some h) m = framed_by p (e.closure_block h) m

  abbrev pub led : Place → List Tok → Prefix → Reading Tree
  led p l k m = if prefix_stands p k m then (prefixed k none <$> expr (prefix_place p k)) m else unled p l (from_closure k) m

  unfoldable pub prefix_read : Place → Reading Tree
  prefix_read p l = and_then (prefix_form.reads l) (led p l)

  -- ---- loops

  abbrev pub looped : Place → Option Text → Reading Tree
  looped p w l =
      if while_word.at l then framed_by p (e.while_loop w) (drop 1 l)
      else (for_head.reads >>= (λ x. framed_by p (e.for_loop w x))) l

  unfoldable pub loop_read : Place → Reading Tree
  loop_read p = label.reads >>= looped p

  -- ---- operands

  abbrev pub verbatim_from : List Tok → Tree → Reading Tree
  verbatim_from l x n = only_if (is_taken l n) (Some (leaf (e.verbatim (taken l n)), n))

  -- an invisible group: the front of a path, or an operand by itself
  unfoldable pub group_read : Place → Reading Tree
  group_read p l = if is_some ((expr_path (not p.condition)).reads l) then named_read p l else framed_by p e.group_expr l

  -- by what comes first
  unfoldable pub atom : Place → Reading Tree
  atom p l =
      if leaf_at l then leaf_read p l
      else (if prefix_at l then prefix_read p l
      else (if round_at l then round_read l
      else (if bracket_at l then bracket_read l
      else (if become_word.at l then (expr plain >>= verbatim_from l) (drop 1 l)
      else (if if_word.at l then framed_by p e.if_expr (drop 1 l)
      else (if loop_head_at l then loop_read p l
      else (if match_word.at l then framed_by p e.match_expr (drop 1 l)
      else (if invisible_at l then group_read p l
      else named_read p l))))))))

  -- ---- trailers

  abbrev pub trailed_by : Place → Tree → List ℕ → Trailer → Reading Tree
  trailed_by p b is k l = only_if (fits_base p k b) ((tail (fields_of b is) k <$> content (trailer_holder k)) l)

  abbrev pub indexed_by : Place → Tree → List ℕ → Reading Tree
  indexed_by p b [] n = None
  indexed_by p b (i ∷ is) n = only_if (fits_base p (e.field (an_index i)) b) (Some (fields_of b (i ∷ is), n))

  -- after the dot: indices, or a name
  abbrev pub dotted_by : Place → Tree → Option (List ℕ × List Tok) → Reading Tree
  dotted_by p b (Some i) l = indexed_by p b i.0 i.1
  dotted_by p b None l = and_then (name_at l) (λ is. dotted.reads >>= trailed_by p b is)

  unfoldable pub trailed : Place → Tree → Reading Tree
  trailed p b l =
      if round_at l then trailed_by p b [] e.call l
      else (if bracket_at l then trailed_by p b [] e.index l
      else (if question_at l then trailed_by p b [] e.try_expr (drop 1 l)
      else only_if (dot_at l) (dotted_by p b (indices_at (drop 1 l)) (drop 1 l))))

  -- trailers, one after the other
  unfoldable pub trail : Place → ℕ → Tree → Reading Tree
  trail p zero b l = None
  trail p (suc n) b l = if closes p b l then Some (b, l) else (trailed p b >>= trail p n) l

  unfoldable pub core : Place → Reading Tree
  core p = atom p >>= (λ b l. trail p (suc (weight l)) b l)

  -- an operand after its attributes
  unfoldable pub operand : Place → Reading Tree
  operand p l = if pound.at l then and_then (outer_attributes.reads l) (λ ats m. (core p >>= read_attributed p l m ats) m) else core p l

  -- ---- operations

  abbrev pub postfix_made : Place → Tree → Postfix → Reading Tree
  postfix_made p x k n = only_if (postfix_stands p k n) (operation (postfix_op k) (postfixed x k) n)

  abbrev pub infix_read : Place → Tree → Infix → Reading Tree
  infix_read p x op m = only_if (infix_stands p op m) ((expr (at p (level op)) >>= (λ y. operation op (infixed x op y))) m)

  -- an operation, after its left operand and its operator
  unfoldable pub longer : Place → Tree → Infix → Reading Tree
  longer p x inf.Cast m = ((type false).reads >>= (λ ty. postfix_made p x (e.cast ty))) m
  longer p x (inf.Range limits.HalfOpen) m =
      if ends_open_range p.condition m then postfix_made p x (e.range_from limits.HalfOpen) m else infix_read p x (inf.Range limits.HalfOpen) m
  longer p x (inf.Range limits.Closed) m = infix_read p x (inf.Range limits.Closed) m
  longer p x inf.Assign m = infix_read p x inf.Assign m
  longer p x (inf.Binary op) m = infix_read p x (inf.Binary op) m

  -- no trailer is left after a cast
  abbrev pub closing : Place → Tree → Reading Tree
  closing p x l = if closes p x l then Some (x, l) else None

  abbrev pub turn : Place → Tree → Option (Infix × ℕ) → (Tree → Reading Tree) → Reading Tree
  turn p x None next = stop p x
  turn p x (Some o) next = λ l. only_if (fits_left p o.0 x) ((longer p x o.0 >>= closing p >>= next) (drop o.1 l))

  -- operations, one after the other
  unfoldable pub climb : Place → ℕ → Tree → Reading Tree
  climb p zero x = λ l. None
  climb p (suc n) x = λ l. turn p x (next_operator p x l) (climb p n) l

  unfoldable pub at_place : Place → Reading Tree
  at_place p = operand p >>= (λ x l. climb p (suc (weight l)) x l)

-- Inside of an expression are fewer tokens: so many times an expression can are in another.
unfoldable pub bounded : ℕ → Place → Reading Tree
bounded zero p l = None
bounded (suc n) p l = at_place (bounded n) p l

-- an expression at a place
unfoldable pub expr : Place → Reading Tree
expr p l = bounded (weight l) p l

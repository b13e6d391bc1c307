-- Which tree stands for which tokens: what it is spelled by, and the binding rules (Rust Reference, "Expressions",
-- "Expression precedence").
use Rattle.std.specs.Prelude.{◌≡◌, ℕ, Bool, true, false, not, ◌||◌, ◌&&◌, if◌then◌else◌, List, [], ◌∷◌, ◌++◌, drop, codes, Option, Some, None}
use Rattle.syn_lexer.specs.declared.front.Delimiter.TheVariants as del
use Rattle.syn_lexer.specs.declared.front.Delimiter.{Delimiter}
use Rattle.syn_tokens.specs.Tok.{Tok, Inside, literal, group, toks}
use Rattle.syn_tokens.specs.Front.{group_at, is_empty}
use Rattle.syn_tokens.specs.Floats.{float_parts}
use Rattle.syn_lower_spec.specs.Text.{Text}
use Rattle.syn_lower_spec.specs.Tree as t
use Rattle.syn_lower_spec.specs.Tree.{AttributeTree}
use Rattle.syn_lower_spec.specs.Mark.{sign_at, word_at, brace_at, colon}
use Rattle.syn_lower_spec.specs.Part.{is_default, outer_attributes, inner_attributes, type}
use Rattle.syn_lower_spec.specs.Pat.{MemberTree, a_name, an_index, index_of, dots}
use Rattle.syn_expr_spec.specs.declared.kinds.Limits.TheVariants as limits
use Rattle.syn_expr_spec.specs.declared.kinds.Infix.{Infix}
use Rattle.syn_expr_spec.specs.declared.kinds.Infix.TheVariants as inf
use Rattle.syn_expr_spec.specs.declared.kinds.Precedence.{Precedence}
use Rattle.syn_expr_spec.specs.declared.kinds.Precedence.TheVariants as lev
use Rattle.syn_expr_spec.specs.declared.kinds.Place.{Place}
use Rattle.syn_expr_spec.specs.Place.{plain, before_block, at, above, takes}
use Rattle.syn_expr_spec.specs.Path.{is_word_alone, is_try_alone, goes_on_path}
use Rattle.syn_expr_spec.specs.Op.{infix_at, level, is_comparison, is_range_op, goes_on}
use Rattle.syn_expr_spec.specs.Front.{begins_expr, ends_open_range, trailer_at, dot_at, question_at, left_arrow_at, three_dots_at}
use Rattle.syn_expr_spec.specs.Tree as e
use Rattle.syn_expr_spec.specs.Tree.{Tree, Children, Leaf, Prefix, Postfix, Trailer, Frame, Piece, Ending, Jump, leaf, paren, attributed, prefixed, infixed, postfixed, tail, frame, none, child, plain_block, postfix_op, is_block_like, is_silent, is_one}
use Rattle.syn_expr_spec.specs.Head.{leaf_form, prefix_form, dotted}
use Rattle.syn_expr_spec.specs.Slot.{Slot, Holder, nothing, within, bare, scrutinees, arms, may_end, after, piece_form, piece_place, ending_at, frame_head, frame_holder, trailer_holder}

-- ---- kinds of nodes

-- an infix node that compares
abbrev pub compares : Tree → Bool
compares (infixed x op y) = is_comparison op
compares _ = false

-- an infix node
abbrev pub is_infix : Tree → Bool
is_infix (infixed x op y) = true
is_infix (postfixed x k) = true
is_infix _ = false

abbrev pub is_range_leaf : Leaf → Bool
is_range_leaf (e.full_range op) = true
is_range_leaf _ = false

abbrev pub is_range_prefix : Prefix → Bool
is_range_prefix (e.range_to op) = true
is_range_prefix _ = false

abbrev pub is_range : Tree → Bool
is_range (leaf k) = is_range_leaf k
is_range (attributed a more x) = is_range x
is_range (prefixed k gs x) = is_range_prefix k
is_range (infixed x op y) = is_range_op op
is_range (postfixed x k) = is_range_op (postfix_op k)
is_range _ = false

abbrev pub is_cast : Tree → Bool
is_cast (postfixed x (e.cast ty)) = true
is_cast _ = false

-- an operator with one operand
abbrev pub is_prefix : Prefix → Bool
is_prefix (e.unary op) = true
is_prefix (e.reference m) = true
is_prefix (e.raw_addr m) = true
is_prefix _ = false

-- a call, a field or another trailer may come after it
abbrev pub carries : Tree → Bool
carries (leaf k) = not (is_range_leaf k)
carries (attributed a more x) = carries x
carries (prefixed k gs x) = not (is_prefix k || is_range_prefix k)
carries (infixed x op y) = false
carries (postfixed x k) = false
carries _ = true

abbrev pub is_verbatim_leaf : Leaf → Bool
is_verbatim_leaf (e.verbatim ts) = true
is_verbatim_leaf _ = false

abbrev pub is_verbatim : Tree → Bool
is_verbatim (leaf k) = is_verbatim_leaf k
is_verbatim _ = false

abbrev pub is_attributed : Tree → Bool
is_attributed (attributed a more x) = true
is_attributed _ = false

-- Attributes may come before it, and none do. Before a range without a start they may at a head alone; those before a
-- `Verbatim` are of its tokens.
abbrev pub takes_attributes : Place → Tree → Bool
takes_attributes p x = not (is_infix x || (is_attributed x || is_verbatim x)) && (p.head || not (is_range x))

abbrev pub is_if_expr : Tree → Bool
is_if_expr (frame e.if_expr ks) = true
is_if_expr _ = false

-- ---- what may come after a node

-- a block-like expression, or what holds one in an invisible group
abbrev pub holds_block : Tree → Bool
holds_block (frame e.group_expr (child k c x ks)) = holds_block x
holds_block (attributed a more x) = holds_block x
holds_block x = is_block_like x

-- it is the whole at a head
abbrev pub rests : Place → Tree → Bool
rests p x = p.head && holds_block x

abbrev pub goes_behind : Bool → List Tok → Bool
goes_behind true n = dot_at n || question_at n
goes_behind false n = trailer_at n

-- no trailer is left after what could carry it, nor after a cast
unfoldable pub closes : Place → Tree → List Tok → Bool
closes p x n = not ((carries x || is_cast x) && goes_behind (rests p x) n)

-- `...` is no operator; it is refused where a range could go on
abbrev pub refuses_dots : Precedence → List Tok → Bool
refuses_dots v n = above lev.Range v && three_dots_at n

abbrev pub is_jump_or_let : Precedence → Bool
is_jump_or_let lev.Jump = true
is_jump_or_let lev.Let = true
is_jump_or_let _ = false

-- `<-` is no operator; it is refused after a whole expression and after the value of `let`
abbrev pub refuses_arrow : Precedence → List Tok → Bool
refuses_arrow v n = is_jump_or_let v && left_arrow_at n

-- what fills a place of its own ends where it must: the operators that the place takes are all taken; but a range ends
-- before any, and so does a block-like expression at a head
unfoldable pub ends : Place → Tree → List Tok → Bool
ends p x n =
    is_range x || (rests p x || not (goes_on p.level n || (refuses_dots p.level n || refuses_arrow p.level n)))

-- after an operation but a range no `<-` stands
unfoldable pub ends_operation : Infix → List Tok → Bool
ends_operation op n = is_range_op op || not (left_arrow_at n)

-- a range is no left operand, a comparison none of a comparison, and a block-like expression at a head is the whole
unfoldable pub fits_left : Place → Infix → Tree → Bool
fits_left p op x = not (is_range x || ((is_comparison op && compares x) || rests p x))

-- ---- leaves

-- a brace after it is that of a block
abbrev pub is_block_next : Place → List Tok → Bool
is_block_next p n = p.condition && brace_at n

-- no value follows a jump without one, but before the block of a condition none is read after `break`
abbrev pub ends_jump : Place → Jump → List Tok → Bool
ends_jump p e.returning n = not (begins_expr n)
ends_jump p e.yielding n = not (begins_expr n)
ends_jump p (e.breaking None) n = not (begins_expr n) || is_block_next p n
ends_jump p (e.breaking (Some w)) n = (not (begins_expr n) || is_block_next p n) && not (colon.at n)

-- A path stands alone: no brace after it makes it a struct expression (in a condition the brace is the block's), no `#`
-- after `builtin` special syntax; and `try` alone is one before `!=` only.
unfoldable pub leaf_stands : Place → Leaf → List Tok → Bool
leaf_stands p (e.path q w) n =
    (p.condition || not (brace_at n))
    && ((not (is_try_alone q w) || sign_at (codes "!=") n) && not (is_word_alone (codes "builtin") q w && sign_at (codes "#") n))
leaf_stands p (e.full_range limits.HalfOpen) n = ends_open_range p.condition n
leaf_stands p (e.full_range limits.Closed) n = false
leaf_stands p (e.bare_jump j) n = ends_jump p j n
leaf_stands p k n = true

-- ---- before an operand: m are the tokens after the prefix

unfoldable pub prefix_stands : Place → Prefix → List Tok → Bool
prefix_stands p (e.jump j) m = not (ends_jump p j m) && begins_expr m
prefix_stands p (e.range_to limits.HalfOpen) m = not (ends_open_range p.condition m)
prefix_stands p (e.closure h) m = is_default h.output
prefix_stands p k m = true

abbrev pub prefix_place : Place → Prefix → Place
prefix_place p (e.range_to op) = at p lev.Range
prefix_place p (e.let_expr x) = at p lev.Let
prefix_place p (e.jump j) = plain
prefix_place p (e.closure h) = at p lev.Jump
prefix_place p k = at p lev.Prefix

-- ---- after a left operand

-- an operation with a right operand: m are the tokens after its operator
unfoldable pub infix_stands : Place → Infix → List Tok → Bool
infix_stands p (inf.Range limits.HalfOpen) m = not (ends_open_range p.condition m)
infix_stands p inf.Cast m = false
infix_stands p op m = true

-- an operation without one: n are the tokens after it
unfoldable pub postfix_stands : Place → Postfix → List Tok → Bool
postfix_stands p (e.cast x) n = true
postfix_stands p (e.range_from limits.HalfOpen) n = ends_open_range p.condition n
postfix_stands p (e.range_from limits.Closed) n = false

abbrev pub postfix_behind : Postfix → List Tok → Option (List Tok)
postfix_behind (e.cast x) l = (type false).behind x l
postfix_behind (e.range_from op) l = Some l

-- ---- trailers

abbrev pub is_call : Trailer → Bool
is_call e.call = true
is_call _ = false

abbrev pub is_named : MemberTree → Bool
is_named (a_name w) = true
is_named (an_index n) = false

abbrev pub is_named_field : Tree → Bool
is_named_field (tail b (e.field m) ks) = is_named m
is_named_field _ = false

-- tokens that don't begin with an attribute
abbrev pub is_pounded_leaf : Leaf → Bool
is_pounded_leaf (e.verbatim ts) = sign_at (codes "#") ts
is_pounded_leaf _ = false

abbrev pub is_pounded : Tree → Bool
is_pounded (leaf k) = is_pounded_leaf k
is_pounded _ = false

-- only these come after a block-like expression at a head
abbrev pub is_parenthesis_or_bracket : Trailer → Bool
is_parenthesis_or_bracket e.call = true
is_parenthesis_or_bracket e.index = true
is_parenthesis_or_bracket _ = false

-- it can carry this trailer, and has no attributes
unfoldable pub carries_trailer : Place → Trailer → Tree → Bool
carries_trailer p k x = carries x && (not (is_attributed x || is_pounded x) && not (is_parenthesis_or_bracket k && rests p x))

-- The same, by which trees are read and printed: a named field is no callee. (None comes before a group in parentheses,
-- where its name would be that of a method.)
abbrev pub is_base : Trailer → Tree → Bool
is_base k x = carries x && (not (is_attributed x || is_pounded x) && not (is_call k && is_named_field x))

unfoldable pub fits_base : Place → Trailer → Tree → Bool
fits_base p k x = is_base k x && not (is_parenthesis_or_bracket k && rests p x)

-- A float after a dot is its parts (see `float_parts`): indices, and whether a dot ends them.
abbrev pub step : Option ℕ → Option (List ℕ × Bool) → Option (List ℕ × Bool)
step (Some n) (Some p) = Some (n ∷ p.0, p.1)
step _ _ = None

abbrev pub steps_of : List Tok → Option (List ℕ × Bool)
steps_of [] = Some ([], true)
steps_of (literal s ∷ []) = step (index_of s) (Some ([], false))
steps_of (literal s ∷ dot ∷ more) = step (index_of s) (steps_of more)
steps_of _ = None

-- indices alone
abbrev pub closed_steps : Option (List ℕ × Bool) → List Tok → Option (List ℕ × List Tok)
closed_steps (Some (is, false)) l = Some (is, l)
closed_steps _ l = None

-- indices and a last dot
abbrev pub open_steps : Option (List ℕ × Bool) → List Tok → Option (List ℕ × List Tok)
open_steps (Some (is, true)) l = Some (is, l)
open_steps _ l = None

-- the indices after a dot
unfoldable pub indices_at : List Tok → Option (List ℕ × List Tok)
indices_at (literal s ∷ l) = closed_steps (steps_of (float_parts s)) l
indices_at _ = None

-- where a name comes after a dot: perhaps after indices and a dot that are a float
unfoldable pub name_at : List Tok → Option (List ℕ × List Tok)
name_at (literal s ∷ l) = open_steps (steps_of (float_parts s)) l
name_at l = Some ([], l)

abbrev pub with_steps : List ℕ → Option (List Tok) → Option (List ℕ × List Tok)
with_steps is None = None
with_steps is (Some n) = Some (is, n)

abbrev pub named_behind : Trailer → Option (List ℕ × List Tok) → Option (List ℕ × List Tok)
named_behind k None = None
named_behind k (Some p) = with_steps p.0 (dotted.behind k p.1)

-- the indices of a float before the trailer, and the tokens after its own
unfoldable pub trailer_head : Trailer → List Tok → Option (List ℕ × List Tok)
trailer_head e.call m = Some ([], m)
trailer_head e.index m = Some ([], m)
trailer_head e.try_expr m = if question_at m then Some ([], drop 1 m) else None
trailer_head k m = if dot_at m then named_behind k (name_at (drop 1 m)) else None

unfoldable pub fields_head : List Tok → Option (List ℕ × List Tok)
fields_head m = if dot_at m then indices_at (drop 1 m) else None

-- fields of fields
abbrev pub fields_of : Tree → List ℕ → Tree
fields_of b [] = b
fields_of b (i ∷ more) = fields_of (tail b (e.field (an_index i)) none) more

-- ---- frames

abbrev pub has_no_comma : Children → Bool
has_no_comma (child k e.no_ending x ks) = true
has_no_comma _ = false

-- a tuple of one needs its comma; no struct expression is in a condition, nor one of the path `try`
unfoldable pub frame_stands : Place → Frame → Children → Bool
frame_stands p e.tuple ks = not (is_one ks && has_no_comma ks)
frame_stands p (e.structure q w d) ks = not (p.condition || is_try_alone q w)
frame_stands p (e.closure_block h) ks = not (is_default h.output)
frame_stands p k ks = true

-- a path alone in an invisible group: nothing after that goes on it
unfoldable pub frame_ends : Place → Frame → Children → List Tok → Bool
frame_ends p e.group_expr (child k c (leaf (e.path q w)) ks) n = not (goes_on_path (not p.condition) (q, w) n)
frame_ends p k ks n = true

abbrev pub ends_list : Bool → List Tok → Bool
ends_list true l = dots.at l && is_empty (drop 2 l)
ends_list false l = is_empty l

-- ---- operands in places of their own

-- After `else` stands an `if` that is no place; and only a block after a closure's output.
abbrev pub ends_piece : Piece → Tree → List Tok → Bool
ends_piece e.chained x n = is_if_expr x
ends_piece e.output_block x n = false
ends_piece k x n = ends (piece_place k) x n && closes (piece_place k) x n

-- the path that is this name
abbrev pub path_of : Text → Tree
path_of w = leaf (e.path t.no_qself (record { leading = false; segments = record { ident = w; arguments = t.no_arguments } ∷ []; trailing = false }))

-- a field's value that its name says
abbrev pub short_value : Piece → Option Tree
short_value (e.field_value ats (a_name w) false) = Some (path_of w)
short_value _ = None

abbrev pub takes_block : Piece → Bool
takes_block e.chained = true
takes_block e.output_block = true
takes_block _ = false

-- ---- spelling and binding

mutual
  -- Node p l x n: the tree x is spelled by the tokens of l before n, and obeys the binding rules at this place, but for
  -- what the place asks of the tokens n after x itself.
  pub data Node : Place → List Tok → Tree → List Tok → Type 0 where
    is_leaf : {p : Place} {l n : List Tok} {k : Leaf}
        → leaf_form.behind k l ≡ Some n → leaf_stands p k n ≡ true → Node p l (leaf k) n
    -- `become` with some expression: the tokens are kept
    is_become : {p : Place} {l n ts : List Tok} {x : Tree}
        → word_at (codes "become") l ≡ true → Node plain (drop 1 l) x n → ends plain x n ≡ true → closes plain x n ≡ true
        → l ≡ ts ++ n → Node p l (leaf (e.verbatim ts)) n
    -- attributes before verbatim tokens are the first of these
    is_attributed_verbatim : {p : Place} {l m n ts us : List Tok} (a : AttributeTree) (more : List AttributeTree) (fs : List Tok)
        → outer_attributes.behind (a ∷ more) l ≡ Some m → Node p m (leaf (e.verbatim ts)) n → l ≡ fs ++ m → us ≡ fs ++ ts
        → Node p l (leaf (e.verbatim us)) n
    is_paren : {p : Place} {i : Inside} {n : List Tok} {x : Tree}
        → Node plain (toks i) x [] → ends plain x [] ≡ true → closes plain x [] ≡ true
        → Node p (group del.Parenthesis i ∷ n) (paren false x) n
    is_attributed_by : {p : Place} {l m n : List Tok} {a : AttributeTree} {more : List AttributeTree} {x : Tree}
        → outer_attributes.behind (a ∷ more) l ≡ Some m → takes_attributes p x ≡ true → Node p m x n → Node p l (attributed a more x) n
    is_prefixed : {p : Place} {l m n : List Tok} {k : Prefix} {x : Tree}
        → prefix_form.behind k l ≡ Some m → prefix_stands p k m ≡ true
        → Node (prefix_place p k) m x n → ends (prefix_place p k) x n ≡ true → closes (prefix_place p k) x n ≡ true
        → Node p l (prefixed k none x) n
    -- the place takes the operator; the right operand takes what is above the operator
    is_infixed : {p : Place} {l m n : List Tok} {x y : Tree} {op : Infix} {count : ℕ}
        (left : Node p l x m) (left_closes : closes p x m ≡ true) (left_fits : fits_left p op x ≡ true)
        (operator : infix_at m ≡ Some (op, count)) (is_taken : takes p.level (level op) ≡ true) (right_begins : infix_stands p op (drop count m) ≡ true)
        (right : Node (at p (level op)) (drop count m) y n) (right_ends : ends (at p (level op)) y n ≡ true) (right_closes : closes (at p (level op)) y n ≡ true)
        (whole_ends : ends_operation op n ≡ true) → Node p l (infixed x op y) n
    is_postfixed : {p : Place} {l m n : List Tok} {x : Tree} {k : Postfix} {count : ℕ}
        (left : Node p l x m) (left_closes : closes p x m ≡ true) (left_fits : fits_left p (postfix_op k) x ≡ true)
        (operator : infix_at m ≡ Some (postfix_op k, count)) (is_taken : takes p.level (level (postfix_op k)) ≡ true)
        (behind : postfix_behind k (drop count m) ≡ Some n) (may_stand : postfix_stands p k n ≡ true) (whole_ends : ends_operation (postfix_op k) n ≡ true)
        → Node p l (postfixed x k) n
    is_tail : {p : Place} {l m h n : List Tok} {b x : Tree} {k : Trailer} {is : List ℕ} {ks : Children}
        → Node p l b m → carries_trailer p k b ≡ true → trailer_head k m ≡ Some (is, h) → Content (trailer_holder k) h ks n
        → x ≡ fields_of b is → Node p l (tail x k ks) n
    is_indexed : {p : Place} {l m n : List Tok} {b x : Tree} {i : ℕ} {is : List ℕ}
        → Node p l b m → carries_trailer p (e.field (an_index i)) b ≡ true → fields_head m ≡ Some (i ∷ is, n)
        → x ≡ fields_of b (i ∷ is) → Node p l x n
    is_frame : {p : Place} {l h n : List Tok} {k : Frame} {ks : Children}
        → frame_head k l ≡ Some h → Content (frame_holder k) h ks n → frame_stands p k ks ≡ true → frame_ends p k ks n ≡ true
        → Node p l (frame k ks) n

  -- what a trailer or a frame holds
  pub data Content : Holder → List Tok → Children → List Tok → Type 0 where
    holds_none : {n : List Tok} → Content nothing n none n
    holds_within : {d : Delimiter} {s : Slot} {dotted_end : Bool} {l i o n : List Tok} {ks : Children}
        → group_at d l ≡ Some (i, n) → Operands s i ks o → ends_list dotted_end o ≡ true → Content (within d s dotted_end) l ks n
    holds_bare : {s : Slot} {l n : List Tok} {ks : Children} → Operands s l ks n → Content (bare s) l ks n

  -- the operands from a slot on
  pub data Operands : Slot → List Tok → Children → List Tok → Type 0 where
    no_more : {s : Slot} {n : List Tok} → may_end s n ≡ true → Operands s n none n
    one_more : {s : Slot} {l m h n o : List Tok} {k : Piece} {c : Ending} {x : Tree} {ks : Children}
        → (piece_form s).behind k l ≡ Some m → is_silent k ≡ false
        → Node (piece_place k) m x h → ends_piece k x h ≡ true → ending_at k x h ≡ Some (c, n)
        → Operands (after k) n ks o → Operands s l (child k c x ks) o
    -- a field whose value its name says
    short : {s : Slot} {l m n o : List Tok} {k : Piece} {c : Ending} {x : Tree} {ks : Children}
        → (piece_form s).behind k l ≡ Some m → short_value k ≡ Some x → ending_at k x m ≡ Some (c, n)
        → Operands (after k) n ks o → Operands s l (child k c x ks) o
    -- a block that keeps all its tokens
    block : {s : Slot} {l m i n o : List Tok} {k : Piece} {ks : Children}
        → (piece_form s).behind k l ≡ Some m → takes_block k ≡ true → group_at del.Brace m ≡ Some (i, n)
        → Operands (after k) n ks o → Operands s l (child k e.no_ending (plain_block i) ks) o
    -- what a `match` looks at, then its arms in a brace
    arms_inside : {l i h j n : List Tok} {ats : List AttributeTree} {x : Tree} {ks : Children}
        → Node before_block l x h → ends before_block x h ≡ true → closes before_block x h ≡ true
        → group_at del.Brace h ≡ Some (i, n) → inner_attributes.behind ats i ≡ Some j → Operands arms j ks []
        → Operands scrutinees l (child e.scrutinee (e.opened ats) x ks) n

-- The tree is at the place for the tokens of l before n: it is spelled by them, obeys the binding rules, and ends
-- there.
pub record Stands (p : Place) (l : List Tok) (x : Tree) (n : List Tok) : Type 0 where
  pub node : Node p l x n
  pub ending : ends p x n ≡ true
  pub closing : closes p x n ≡ true

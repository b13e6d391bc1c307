-- The operands of a frame or a trailer, one after the other: in which slot each stands, and what spells the tokens before
-- and after it.
use Rattle.std.specs.Prelude.{Bool, true, false, not, ◌||◌, ◌&&◌, if◌then◌else◌, List, [], drop, codes, Option, Some, None}
use Rattle.syn_lexer.specs.declared.front.Delimiter.{Delimiter}
use Rattle.syn_lexer.specs.declared.front.Delimiter.TheVariants as del
use Rattle.syn_tokens.specs.Tok.{Tok}
use Rattle.syn_tokens.specs.Front.{group_at, is_empty}
use Rattle.syn_lower_spec.specs.Tree.{AttributeTree}
use Rattle.syn_lower_spec.specs.Form.{Form, Outcome, Test, Mark, and_then, then_behind, mark, then_by, both, shown, pure, case, flag, is_true, closed_by}
use Rattle.syn_lower_spec.specs.Mark.{sign, word, comma, semi, colon, word_at}
use Rattle.syn_lower_spec.specs.Part.{lifetimes_at, outer_attributes}
use Rattle.syn_lower_spec.specs.Pat.{MemberTree, PatTree, a_name, an_index, member, pattern, dots}
use Rattle.syn_expr_spec.specs.declared.kinds.Place.{Place}
use Rattle.syn_expr_spec.specs.Place.{plain, before_block, at_head}
use Rattle.syn_expr_spec.specs.Path.{expr_path}
use Rattle.syn_expr_spec.specs.Head.{label, closure_head, body}
use Rattle.syn_expr_spec.specs.Tree as e
use Rattle.syn_expr_spec.specs.Tree.{Tree, Piece, Ending, Frame, Trailer, body_of, is_block_like}

-- What may come next among operands.
pub data Slot : Type 0 where
  -- of a list with commas
  elements : Slot
  -- one, and no more
  single : Slot
  -- before `;`
  counted : Slot
  -- of a struct expression
  fields : Slot
  -- the condition of an `if`, then `else` or nothing
  conditions : Slot
  otherwise : Slot
  -- the condition or the iterator of a loop
  loops : Slot
  -- what a `match` looks at, and its arms; after a guard the arm's body
  scrutinees : Slot
  arms : Slot
  bodies : Slot
  -- the block of a closure with an output
  outputs : Slot
  -- in an invisible group
  groups : Slot
  -- no more
  done : Slot

-- the slot after an operand
abbrev pub after : Piece → Slot
after e.element = elements
after e.value = done
after e.repeated = single
after (e.field_value ats m c) = fields
after (e.rest d) = done
after e.condition = otherwise
after e.loop_head = done
after e.scrutinee = arms
after e.chained = done
after (e.guard ats p) = bodies
after e.guarded = arms
after (e.arm ats p) = arms
after e.output_block = done
after e.grouped = done
after e.stray = done

-- Here the operands may end: what they are in ends, or no `else` follows.
abbrev pub may_end : Slot → Test
may_end elements l = is_empty l
-- `..` without an expression after may end the fields
may_end fields l = is_empty l || (dots.at l && is_empty (drop 2 l))
may_end arms l = is_empty l
may_end otherwise l = not (word_at (codes "else") l)
may_end done l = true
may_end _ l = false

-- ---- the tokens before an operand

-- the operand that this slot takes, where it takes but one kind
abbrev pub is_of : Slot → Piece → Bool
is_of elements e.element = true
is_of single e.value = true
is_of counted e.repeated = true
is_of conditions e.condition = true
is_of loops e.loop_head = true
is_of bodies e.guarded = true
is_of outputs e.output_block = true
is_of groups e.grouped = true
is_of _ k = false

abbrev pub is_scrutinee : Piece → Bool
is_scrutinee e.scrutinee = true
is_scrutinee _ = false

abbrev pub is_chained : Piece → Bool
is_chained e.chained = true
is_chained _ = false

abbrev pub is_rest : Piece → Bool
is_rest (e.rest d) = d
is_rest _ = false

abbrev pub to_field : List AttributeTree × (MemberTree × Bool) → Piece
to_field p = e.field_value p.0 p.1.0 p.1.1

abbrev pub from_field : Piece → Option (List AttributeTree × (MemberTree × Bool))
from_field (e.field_value ats m c) = Some (ats, (m, c))
from_field _ = None

-- An index needs the colon.
abbrev pub field_colon : MemberTree → Form Bool
field_colon (a_name w) = flag colon
field_colon (an_index n) = mark colon (pure true is_true)

abbrev pub to_arm : List AttributeTree × (PatTree × Bool) → Piece
to_arm (ats, (p, true)) = e.guard ats p
to_arm (ats, (p, false)) = e.arm ats p

abbrev pub from_arm : Piece → Option (List AttributeTree × (PatTree × Bool))
from_arm (e.guard ats p) = Some (ats, (p, true))
from_arm (e.arm ats p) = Some (ats, (p, false))
from_arm _ = None

abbrev pub fat_arrow : Mark
fat_arrow = sign (codes "=>")

abbrev pub if_word : Mark
if_word = word (codes "if")

abbrev pub else_word : Mark
else_word = word (codes "else")

-- Rust Reference, "Struct expressions", "`if` expressions", "Match expressions"
unfoldable pub piece_form : Slot → Form Piece
piece_form elements = pure e.element (is_of elements)
piece_form single = pure e.value (is_of single)
piece_form counted = pure e.repeated (is_of counted)
piece_form fields = case dots (pure (e.rest true) is_rest) (shown to_field from_field (both outer_attributes (then_by member field_colon)))
piece_form conditions = pure e.condition (is_of conditions)
piece_form otherwise = mark else_word (pure e.chained is_chained)
piece_form loops = pure e.loop_head (is_of loops)
piece_form scrutinees = pure e.scrutinee is_scrutinee
piece_form arms = shown to_arm from_arm
    (both outer_attributes (both (pattern true) (case if_word (pure true is_true) (mark fat_arrow (pure false not)))))
piece_form bodies = mark fat_arrow (pure e.guarded (is_of bodies))
piece_form outputs = pure e.output_block (is_of outputs)
piece_form groups = pure e.grouped (is_of groups)
piece_form done = record { reads = λ l. None; behind = λ k l. None }

-- the place of an operand
abbrev pub piece_place : Piece → Place
piece_place e.condition = before_block
piece_place e.loop_head = before_block
piece_place e.scrutinee = before_block
piece_place e.guarded = at_head
piece_place (e.arm ats p) = at_head
piece_place _ = plain

-- ---- the tokens after an operand

-- a comma, or the end
abbrev pub comma_or_end : List Tok → Outcome Ending
comma_or_end l = if comma.at l then Some (e.comma, drop 1 l) else (if is_empty l then Some (e.no_ending, l) else None)

-- a comma; or none after the last arm, and after a block
abbrev pub behind_arm : Tree → List Tok → Outcome Ending
behind_arm x l =
    if comma.at l then Some (e.comma, drop 1 l) else (if is_empty l || is_block_like x then Some (e.no_ending, l) else None)

-- what comes after the operand x, and the tokens after that; the attributes in the block of an `if` are its tokens
unfoldable pub ending_at : Piece → Tree → List Tok → Outcome Ending
ending_at e.element x l = comma_or_end l
ending_at (e.field_value ats m c) x l = comma_or_end l
ending_at (e.rest d) x l = if is_empty l then Some (e.no_ending, l) else None
ending_at e.repeated x l = if semi.at l then Some (e.no_ending, drop 1 l) else None
ending_at e.condition x l = and_then (group_at del.Brace l) (λ ts n. Some (e.braced (body_of [] ts), n))
ending_at e.loop_head x l = and_then (body.reads l) (λ b n. Some (e.braced b, n))
ending_at e.guarded x l = behind_arm x l
ending_at (e.arm ats p) x l = behind_arm x l
ending_at e.scrutinee x l = None
ending_at _ x l = Some (e.no_ending, l)

-- ---- what holds the operands

pub data Holder : Type 0 where
  -- no operands
  nothing : Holder
  -- in a delimiter; whether `..` ends them
  within : Delimiter → Slot → Bool → Holder
  -- in no delimiter
  bare : Slot → Holder

abbrev pub frame_holder : Frame → Holder
frame_holder e.array = within del.Bracket elements false
frame_holder e.tuple = within del.Parenthesis elements false
frame_holder e.repeat = within del.Bracket counted false
frame_holder (e.structure q p d) = within del.Brace fields d
frame_holder (e.closure_block h) = bare outputs
frame_holder e.if_expr = bare conditions
frame_holder (e.while_loop l) = bare loops
frame_holder (e.for_loop l p) = bare loops
frame_holder e.match_expr = bare scrutinees
frame_holder e.group_expr = within del.None groups false

abbrev pub trailer_holder : Trailer → Holder
trailer_holder e.call = within del.Parenthesis elements false
trailer_holder e.index = within del.Bracket single false
trailer_holder (e.method w a) = within del.Parenthesis elements false
trailer_holder _ = nothing

abbrev pub while_word : Mark
while_word = word (codes "while")

-- `for` that doesn't begin the lifetimes of a closure
abbrev pub for_word : Mark
for_word = record { at = λ l. word_at (codes "for") l && not (lifetimes_at l); count = 1 }

abbrev pub in_word : Mark
in_word = word (codes "in")

abbrev pub match_word : Mark
match_word = word (codes "match")

abbrev pub if_at : Mark → List Tok → Option (List Tok)
if_at m l = if m.at l then Some (drop m.count l) else None

abbrev pub for_head : Form PatTree
for_head = mark for_word (closed_by in_word (pattern true))

-- the tokens before the operands of a frame (Rust Reference, "Array expressions", "Tuple expressions", "Struct
-- expressions", "Closure expressions", "`if` expressions", "Loop expressions", "Match expressions")
abbrev pub frame_head : Frame → List Tok → Option (List Tok)
frame_head e.array l = Some l
frame_head e.tuple l = Some l
frame_head e.repeat l = Some l
frame_head (e.structure q p d) l = (expr_path true).behind (q, p) l
frame_head (e.closure_block h) l = closure_head.behind h l
frame_head e.if_expr l = if_at if_word l
frame_head (e.while_loop w) l = then_behind (label.behind w l) (if_at while_word)
frame_head (e.for_loop w p) l = then_behind (label.behind w l) (for_head.behind p)
frame_head e.match_expr l = if_at match_word l
frame_head e.group_expr l = Some l

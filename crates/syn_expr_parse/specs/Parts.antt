-- What `if`, loops with a head and `match` are read of, one part after the other.
use Rattle.std.specs.Prelude.{Bool, true, false, if◌then◌else◌, List, [], ◌∷◌, drop, Option, Some, None}
use Rattle.syn_lexer.specs.declared.front.Delimiter.TheVariants as del
use Rattle.syn_tokens.specs.Front.{group_at}
use Rattle.syn_lower_spec.specs.Form.{and_then}
use Rattle.syn_lower_spec.specs.Text.{Text}
use Rattle.syn_lower_spec.specs.Tree.{AttributeTree}
use Rattle.syn_lower_spec.specs.Pat.{PatTree, guarded}
use Rattle.syn_expr_spec.specs.Place.{plain, before_block, at_head}
use Rattle.syn_expr_spec.specs.Tree as e
use Rattle.syn_expr_spec.specs.Tree.{Tree, Children, Ending, Piece, Frame, frame, none, child, plain_block}
use Rattle.syn_expr_spec.specs.Slot as slot
use Rattle.syn_expr_spec.specs.Slot.{if_word, else_word, while_word, for_head, behind_arm, ending_at, piece_form}
use Rattle.syn_expr_spec.specs.Read.{Reading, expr, framed_by, bare_operands}
use Rattle.syn_expr_ast.specs.Pats.{ArmView, arm_children}

-- ---- `if`

-- an `if` after its word, wherever it is
unfoldable pub if_expr : Reading Tree
if_expr l = framed_by expr plain e.if_expr l

-- a block, whose tokens are verbatim
abbrev pub verbatim_block : Reading Tree
verbatim_block l = and_then (group_at del.Brace l) (λ i n. Some (plain_block i, n))

-- after the block of an `if`: `else` before an `if` or a block, or nothing
abbrev pub otherwise : Reading Children
otherwise l =
    if else_word.at l then and_then (if if_word.at (drop 1 l) then if_expr (drop 1 (drop 1 l)) else verbatim_block (drop 1 l)) (λ x n. Some (child e.chained e.no_ending x none, n))
    else Some (none, l)

-- ---- loops

-- a loop after its word, or after `in`
unfoldable pub headed : Frame → Reading Tree
headed k l = and_then (expr before_block l) (λ x m. and_then (ending_at e.loop_head x m) (λ c n. Some (frame k (child e.loop_head c x none), n)))

-- a loop after its label
abbrev pub labelled : Option Text → Reading Tree
labelled w l =
    if while_word.at l then headed (e.while_loop w) (drop 1 l)
    else and_then (for_head.reads l) (λ t n. headed (e.for_loop w t) n)

-- ---- `match`

-- a `match` after its word, wherever it is
unfoldable pub match_expr : Reading Tree
match_expr l = framed_by expr plain e.match_expr l

abbrev pub is_comma : Ending → Bool
is_comma e.comma = true
is_comma _ = false

-- the body of an arm, and its comma, after a pattern with these guards
unfoldable pub arm_body : List AttributeTree → PatTree → List Tree → Reading ArmView
arm_body ats p gs l =
    and_then (expr at_head l) (λ x n. and_then (behind_arm x n) (λ c o.
    Some (record { attrs = ats; pat = record { tree = p; guards = gs }; body = x; comma = is_comma c }, o)))

-- what is after the head of an arm: its guard, and its body
abbrev pub arm_behind : Piece → Reading ArmView
arm_behind (e.guard ats p) l =
    and_then (expr plain l) (λ g n. and_then ((piece_form slot.bodies).reads n) (λ k o. arm_body ats (guarded p) (g ∷ []) o))
arm_behind (e.arm ats p) l = arm_body ats p [] l
arm_behind _ l = None

unfoldable pub one_arm : Reading ArmView
one_arm l = and_then ((piece_form slot.arms).reads l) arm_behind

-- these arms, before others
abbrev pub arms_before : List ArmView → Children → Children
arms_before [] ks = ks
arms_before (x ∷ xs) ks = arm_children x x.pat.tree x.pat.guards (arms_before xs ks)

-- the arms after these, and they
unfoldable pub arms_behind : List ArmView → Reading Children
arms_behind found l = and_then (bare_operands expr slot.arms l) (λ ks n. Some (arms_before found ks, n))

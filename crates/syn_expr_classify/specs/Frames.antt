-- What is known of the operands that are in places of their own: those whose node ends with braces, and the body of a
-- closure with an output. All attributes of a node are in one list.
use Rattle.std.specs.Prelude.{Bool, true, false}
use Rattle.syn_expr_spec.specs.Tree as e
use Rattle.syn_expr_spec.specs.Tree.{Tree, Children, Frame, none, child}

-- after guards in patterns, where none may stand

abbrev pub is_body : Children → Bool
is_body (child e.stray e.no_ending t ks) = is_body ks
is_body (child e.output_block e.no_ending t none) = true
is_body _ = false

abbrev pub is_loop : Children → Bool
is_loop (child e.stray e.no_ending t ks) = is_loop ks
is_loop (child e.loop_head (e.braced b) t none) = true
is_loop _ = false

abbrev pub is_if : Children → Bool
is_if (child e.condition (e.braced b) t none) = true
is_if (child e.condition (e.braced b) t (child e.chained e.no_ending x none)) = true
is_if _ = false

abbrev pub is_match : Children → Bool
is_match (child e.scrutinee (e.opened ats) t ks) = true
is_match _ = false

abbrev pub frame_holds : Frame → Children → Bool
frame_holds (e.closure_block h) ks = is_body ks
frame_holds e.if_expr ks = is_if ks
frame_holds (e.while_loop label) ks = is_loop ks
frame_holds (e.for_loop label p) ks = is_loop ks
frame_holds e.match_expr ks = is_match ks
frame_holds _ ks = true

-- of a node without attributes before it
abbrev pub bare_holds : Tree → Bool
bare_holds (e.attributed a more t) = false
bare_holds (e.frame k ks) = frame_holds k ks
bare_holds _ = true

-- of a node
abbrev pub frames_hold : Tree → Bool
frames_hold (e.attributed a more t) = bare_holds t
frames_hold t = bare_holds t

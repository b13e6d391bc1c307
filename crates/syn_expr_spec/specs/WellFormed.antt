-- The trees that a reader can give back: no verbatim tokens, no invisible group, and each part is read back in its place
-- (`Fits` and `PatOwn` of the lower parts say which are).
use Rattle.std.specs.Prelude.{Bool, true, false, not, ◌||◌, ◌&&◌, List, [], ◌∷◌, None}
use Rattle.syn_lexer.specs.Keywords.{is_reserved_word}
use Rattle.syn_lower_spec.specs.declared.label.PathStyle.TheVariants as style
use Rattle.syn_lower_spec.specs.Tree.{AttributeTree}
use Rattle.syn_lower_spec.specs.Form.{is_nil}
use Rattle.syn_lower_spec.specs.Part.{pound_bang, is_default}
use Rattle.syn_lower_spec.specs.Fits.{fits_if, unsigned_fits, qpath_fits, macro_fits, type_fits, arguments_fit, lifetimes_fit, output_fits, ends_well}
use Rattle.syn_lower_spec.specs.Pat.{MemberTree, PatTree, a_name}
use Rattle.syn_lower_spec.specs.PatFits.{member_fits, pat_fits, closure_arg_fits, attributes_outer}
use Rattle.syn_expr_spec.specs.declared.kinds.Limits.TheVariants as limits
use Rattle.syn_expr_spec.specs.declared.kinds.Infix.{Infix}
use Rattle.syn_expr_spec.specs.declared.kinds.Infix.TheVariants as inf
use Rattle.syn_expr_spec.specs.Tree as e
use Rattle.syn_expr_spec.specs.Tree.{Tree, Children, Body, Leaf, Prefix, Postfix, Trailer, Frame, Piece, Ending, ClosureHead, leaf, paren, attributed, prefixed, infixed, postfixed, tail, frame, none, child, is_none}
use Rattle.syn_expr_spec.specs.Slot.{Slot, elements, single, counted, fields, conditions, otherwise, loops, scrutinees, arms, bodies, outputs, done, after}
use Rattle.syn_expr_spec.specs.Path.{is_try_alone, is_word_alone}
use Rattle.syn_expr_spec.specs.Stands.{is_attributed, is_if_expr}

abbrev pub attributes_inner : List AttributeTree → Bool
attributes_inner [] = true
attributes_inner (a ∷ more) = a.inner && attributes_inner more

-- inner attributes, and tokens that don't begin with one
abbrev pub body_fits : Body → Bool
body_fits b = attributes_inner b.inner && not (pound_bang.at b.tokens)

abbrev pub leaf_fits : Leaf → Bool
leaf_fits (e.lit x) = unsigned_fits x
leaf_fits (e.path q p) = qpath_fits style.Expr (q, p) && not (is_try_alone q p)
leaf_fits (e.mac m) = macro_fits m
leaf_fits (e.full_range limits.Closed) = false
leaf_fits (e.block w b) = body_fits b
leaf_fits (e.loop_expr w b) = body_fits b
leaf_fits (e.unsafe_block b) = body_fits b
leaf_fits (e.const_block b) = body_fits b
leaf_fits (e.verbatim ts) = false
leaf_fits _ = true

abbrev pub inputs_fit : List PatTree → Bool
inputs_fit [] = true
inputs_fit (p ∷ ps) = closure_arg_fits p && inputs_fit ps

abbrev pub head_fits : ClosureHead → Bool
head_fits h =
    not (h.capture && h.usage)
    && (fits_if lifetimes_fit h.lifetimes && (inputs_fit h.inputs && (ends_well (is_nil h.inputs) h.trailing && output_fits true h.output)))

abbrev pub prefix_fits : Prefix → Bool
prefix_fits (e.let_expr p) = pat_fits true p
prefix_fits (e.closure h) = head_fits h && is_default h.output
prefix_fits _ = true

-- a cast is no operator with a right operand
abbrev pub infix_fits : Infix → Bool
infix_fits inf.Cast = false
infix_fits _ = true

abbrev pub postfix_fits : Postfix → Bool
postfix_fits (e.cast x) = type_fits false x
postfix_fits (e.range_from limits.HalfOpen) = true
postfix_fits (e.range_from limits.Closed) = false

abbrev pub trailer_fits : Trailer → Bool
trailer_fits (e.method w a) = not (is_reserved_word w) && arguments_fit style.Expr a
trailer_fits (e.field m) = member_fits m
trailer_fits _ = true

-- the slot that the operands of a trailer begin in
abbrev pub trailer_slot : Trailer → Slot
trailer_slot e.call = elements
trailer_slot e.index = single
trailer_slot (e.method w a) = elements
trailer_slot _ = done

abbrev pub frame_slot : Frame → Slot
frame_slot e.array = elements
frame_slot e.tuple = elements
frame_slot e.repeat = counted
frame_slot (e.structure q p d) = fields
frame_slot (e.closure_block h) = outputs
frame_slot e.if_expr = conditions
frame_slot (e.while_loop w) = loops
frame_slot (e.for_loop w p) = loops
frame_slot e.match_expr = scrutinees
frame_slot e.group_expr = done

abbrev pub has_rest : Children → Bool
has_rest none = false
has_rest (child (e.rest d) c t ks) = true
has_rest (child k c t ks) = has_rest ks

abbrev pub frame_fits : Frame → Children → Bool
frame_fits (e.structure q p d) ks = qpath_fits style.Expr (q, p) && (not (is_try_alone q p) && not (d && has_rest ks))
frame_fits (e.closure_block h) ks = head_fits h && not (is_default h.output)
frame_fits (e.for_loop w p) ks = pat_fits true p
frame_fits e.group_expr ks = false
frame_fits k ks = true

-- the path that is this name, without attributes
abbrev pub is_name_path : MemberTree → Tree → Bool
is_name_path (a_name w) (leaf (e.path q p)) = is_word_alone w q p
is_name_path _ t = false

-- the block of these tokens alone
abbrev pub is_verbatim_leaf : Leaf → Bool
is_verbatim_leaf (e.block None b) = is_nil b.inner
is_verbatim_leaf _ = false

abbrev pub is_verbatim_block : Tree → Bool
is_verbatim_block (leaf k) = is_verbatim_leaf k
is_verbatim_block _ = false

-- an operand of this kind belongs into the slot, with its tokens before and after
abbrev pub piece_fits : Slot → Piece → Ending → Tree → Bool
piece_fits elements e.element c t = true
piece_fits single e.value c t = true
piece_fits counted e.repeated c t = true
piece_fits fields (e.field_value ats m b) c t = attributes_outer ats && (member_fits m && (b || is_name_path m t))
piece_fits fields (e.rest d) c t = true
piece_fits conditions e.condition c t = true
piece_fits otherwise e.chained c t = is_if_expr t || is_verbatim_block t
piece_fits loops e.loop_head c t = true
piece_fits scrutinees e.scrutinee c t = true
piece_fits arms (e.guard ats p) c t = attributes_outer ats && pat_fits true p
piece_fits arms (e.arm ats p) c t = attributes_outer ats && pat_fits true p
piece_fits bodies e.guarded c t = true
piece_fits outputs e.output_block c t = is_verbatim_block t
piece_fits _ k c t = false

-- the tokens after an operand are of its kind
abbrev pub ending_fits : Piece → Ending → Bool
ending_fits e.element e.no_ending = true
ending_fits e.element e.comma = true
ending_fits (e.field_value ats m b) e.no_ending = true
ending_fits (e.field_value ats m b) e.comma = true
ending_fits e.guarded e.no_ending = true
ending_fits e.guarded e.comma = true
ending_fits (e.arm ats p) e.no_ending = true
ending_fits (e.arm ats p) e.comma = true
ending_fits e.condition (e.braced b) = is_nil b.inner
ending_fits e.loop_head (e.braced b) = body_fits b
ending_fits e.scrutinee (e.opened ats) = attributes_inner ats
ending_fits e.value e.no_ending = true
ending_fits e.repeated e.no_ending = true
ending_fits (e.rest d) e.no_ending = true
ending_fits e.chained e.no_ending = true
ending_fits (e.guard ats p) e.no_ending = true
ending_fits e.output_block e.no_ending = true
ending_fits _ c = false

-- the operands may end here
abbrev pub may_stop : Slot → Bool
may_stop elements = true
may_stop fields = true
may_stop otherwise = true
may_stop arms = true
may_stop done = true
may_stop _ = false

-- a block of a whole `if` after `else`, or after a closure's output, keeps all its tokens
abbrev pub keeps_block : Piece → Tree → Bool
keeps_block e.chained t = is_verbatim_block t
keeps_block e.output_block t = is_verbatim_block t
keeps_block k t = false

abbrev mutual
  pub well : Tree → Bool
  well (leaf k) = leaf_fits k
  well (paren m t) = well t
  well (attributed a more t) = attributes_outer (a ∷ more) && (not (is_attributed t) && well t)
  well (prefixed k gs t) = prefix_fits k && (is_none gs && well t)
  well (infixed x k y) = infix_fits k && (well x && well y)
  well (postfixed x k) = postfix_fits k && well x
  well (tail b k ks) = trailer_fits k && (well b && children_well (trailer_slot k) ks)
  well (frame k ks) = frame_fits k ks && children_well (frame_slot k) ks

  pub children_well : Slot → Children → Bool
  children_well s none = may_stop s
  children_well s (child k c t ks) = (piece_fits s k c t && ending_fits k c) && ((keeps_block k t || well t) && children_well (after k) ks)

unfoldable pub is_well_formed : Tree → Bool
is_well_formed t = well t

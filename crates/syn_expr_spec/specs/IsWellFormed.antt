-- The trees that are promised to be read back: each part is read back from its own tokens, and is where it may. No kept
-- tokens and no invisible group are among them. A law says that the test `is_well_formed` tells just these.
use Rattle.std.specs.Prelude.{◌≡◌, ◌⊎◌, ◌↔◌, true, false, ◌||◌, ◌&&◌, List, [], ◌∷◌, Option, Some, None}
use Rattle.syn_tokens.specs.Tok.{Tok}
use Rattle.syn_lower_spec.specs.declared.label.PathStyle.TheVariants as style
use Rattle.syn_lower_spec.specs.Form.{Form, is_nil}
use Rattle.syn_lower_spec.specs.Part.{is_default, unsigned, macro, lifetimes, qpath, arguments, output, type}
use Rattle.syn_lower_spec.specs.Own.{lit_own, lifetimes_own, type_own, return_own, arguments_own, qualified_own, macro_own}
use Rattle.syn_lower_spec.specs.Fits.{ends_well}
use Rattle.syn_lower_spec.specs.Pat.{member, pattern, closure_arg}
use Rattle.syn_lower_spec.specs.PatOwn.{member_own, pat_own}
use Rattle.syn_lower_spec.specs.PatFits.{attributes_outer}
use Rattle.syn_lexer.specs.Keywords.{is_reserved_word}
use Rattle.syn_expr_spec.specs.declared.kinds.Infix.TheVariants as inf
use Rattle.syn_expr_spec.specs.Tree as e
use Rattle.syn_expr_spec.specs.Tree.{Tree, Children, Leaf, Prefix, Postfix, Trailer, Frame, Piece, Ending, ClosureHead, leaf, paren, attributed, prefixed, infixed, postfixed, tail, frame, none, child, is_none, piece_own, ending_own}
use Rattle.syn_expr_spec.specs.Slot as s
use Rattle.syn_expr_spec.specs.Slot.{Slot, Holder, nothing, within, bare, done, after, may_end, piece_form, ending_at, frame_holder, trailer_holder}
use Rattle.syn_expr_spec.specs.Path.{is_try_alone}
use Rattle.syn_expr_spec.specs.Head.{is_half_open}
use Rattle.syn_expr_spec.specs.Stands.{is_attributed, is_if_expr}
use Rattle.syn_expr_spec.specs.WellFormed.{attributes_inner, body_fits, has_rest, is_name_path, is_verbatim_block, keeps_block, is_well_formed}

-- from its own tokens, with nothing after them
abbrev pub IsReadBack : {A : Type 0} → Form A → (A → List Tok → List Tok) → A → Type 0
IsReadBack {A} form own x = form.behind x (own x []) ≡ Some []

abbrev pub SomeReadBack : {A : Type 0} → Form A → (A → List Tok → List Tok) → Option A → Type 0
SomeReadBack {A} form own None = Unit {0}
SomeReadBack {A} form own (Some x) = IsReadBack form own x

abbrev pub AllReadBack : {A : Type 0} → Form A → (A → List Tok → List Tok) → List A → Type 0
AllReadBack {A} form own [] = Unit {0}
AllReadBack {A} form own (x ∷ xs) = IsReadBack form own x × AllReadBack form own xs

-- ---- what a node holds beside its operands

abbrev pub LeafReadBack : Leaf → Type 0
LeafReadBack (e.lit x) = IsReadBack unsigned lit_own x
LeafReadBack (e.path q p) = IsReadBack (qpath type style.Expr) qualified_own (q, p) × (is_try_alone q p ≡ false)
LeafReadBack (e.mac m) = IsReadBack macro macro_own m
LeafReadBack (e.full_range op) = is_half_open op ≡ true
LeafReadBack (e.block w b) = body_fits b ≡ true
LeafReadBack (e.loop_expr w b) = body_fits b ≡ true
LeafReadBack (e.unsafe_block b) = body_fits b ≡ true
LeafReadBack (e.const_block b) = body_fits b ≡ true
LeafReadBack (e.verbatim ts) = ⊥
LeafReadBack _ = Unit {0}

abbrev pub HeadReadBack : ClosureHead → Type 0
HeadReadBack h =
    (h.capture && h.usage ≡ false) × SomeReadBack lifetimes lifetimes_own h.lifetimes × AllReadBack closure_arg pat_own h.inputs
    × (ends_well (is_nil h.inputs) h.trailing ≡ true) × IsReadBack (output type true) return_own h.output

abbrev pub PrefixReadBack : Prefix → Type 0
PrefixReadBack (e.let_expr p) = IsReadBack (pattern true) pat_own p
PrefixReadBack (e.closure h) = HeadReadBack h × (is_default h.output ≡ true)
PrefixReadBack _ = Unit {0}

abbrev pub PostfixReadBack : Postfix → Type 0
PostfixReadBack (e.cast x) = IsReadBack (type false) type_own x
PostfixReadBack (e.range_from op) = is_half_open op ≡ true

abbrev pub TrailerReadBack : Trailer → Type 0
TrailerReadBack (e.method w a) = (is_reserved_word w ≡ false) × IsReadBack (arguments type style.Expr) arguments_own a
TrailerReadBack (e.field m) = IsReadBack member member_own m
TrailerReadBack _ = Unit {0}

abbrev pub FrameReadBack : Frame → Children → Type 0
FrameReadBack (e.structure q p d) ks =
    IsReadBack (qpath type style.Expr) qualified_own (q, p) × (is_try_alone q p ≡ false) × (d && has_rest ks ≡ false)
FrameReadBack (e.closure_block h) ks = HeadReadBack h × (is_default h.output ≡ false)
FrameReadBack (e.for_loop w p) ks = IsReadBack (pattern true) pat_own p
FrameReadBack e.group_expr ks = ⊥
FrameReadBack _ ks = Unit {0}

-- the tokens before the operand t, which are in this slot
abbrev pub PieceReadBack : Slot → Piece → Tree → Type 0
PieceReadBack s.fields (e.field_value ats m b) t = (attributes_outer ats ≡ true) × IsReadBack member member_own m × (b || is_name_path m t ≡ true)
PieceReadBack s.fields (e.rest d) t = Unit {0}
PieceReadBack s.otherwise e.chained t = is_if_expr t || is_verbatim_block t ≡ true
PieceReadBack s.arms (e.guard ats p) t = (attributes_outer ats ≡ true) × IsReadBack (pattern true) pat_own p
PieceReadBack s.arms (e.arm ats p) t = (attributes_outer ats ≡ true) × IsReadBack (pattern true) pat_own p
PieceReadBack s.outputs e.output_block t = is_verbatim_block t ≡ true
PieceReadBack s.groups k t = ⊥
PieceReadBack x k t = IsReadBack (piece_form x) piece_own k

-- the tokens after the operand t
abbrev pub EndingReadBack : Piece → Tree → Ending → Type 0
EndingReadBack e.loop_head t (e.braced b) = body_fits b ≡ true
EndingReadBack e.scrutinee t (e.opened ats) = attributes_inner ats ≡ true
EndingReadBack k t c = ending_at k t (ending_own k c [] []) ≡ Some (c, [])

-- ---- the whole

-- the slot that the first operand is in
abbrev pub first_slot : Holder → Slot
first_slot nothing = done
first_slot (within d x b) = x
first_slot (bare x) = x

abbrev mutual
  pub IsWellFormed : Tree → Type 0
  IsWellFormed (leaf k) = LeafReadBack k
  IsWellFormed (paren m t) = IsWellFormed t
  IsWellFormed (attributed a more t) = (attributes_outer (a ∷ more) ≡ true) × (is_attributed t ≡ false) × IsWellFormed t
  IsWellFormed (prefixed k gs t) = PrefixReadBack k × (is_none gs ≡ true) × IsWellFormed t
  IsWellFormed (infixed x k y) = (k ≡ inf.Cast → ⊥) × IsWellFormed x × IsWellFormed y
  IsWellFormed (postfixed x k) = PostfixReadBack k × IsWellFormed x
  IsWellFormed (tail b k ks) = TrailerReadBack k × IsWellFormed b × AreWellFormed (first_slot (trailer_holder k)) ks
  IsWellFormed (frame k ks) = FrameReadBack k ks × AreWellFormed (first_slot (frame_holder k)) ks

  pub AreWellFormed : Slot → Children → Type 0
  AreWellFormed x none = may_end x [] ≡ true
  AreWellFormed x (child k c t ks) =
      PieceReadBack x k t × EndingReadBack k t c × ((keeps_block k t ≡ true) ⊎ IsWellFormed t) × AreWellFormed (after k) ks

abbrev pub TestIsExact : Type 0
TestIsExact = (t : Tree) → IsWellFormed t ↔ (is_well_formed t ≡ true)

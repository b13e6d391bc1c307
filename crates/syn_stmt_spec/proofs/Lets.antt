-- The pattern of a `let` statement is read exactly where its tokens are.
use Rattle.std.proofs.Common.{◌≡◌, ℕ, true, false, List, Option, Some, None, refl, ap, sym, ◌∙◌}
use Rattle.syn_tokens.specs.Tok.{Tok}
use Rattle.syn_lower_spec.specs.Tree.{TypeTree}
use Rattle.syn_lower_spec.specs.Form.{Form, maybe, both, mark}
use Rattle.syn_lower_spec.specs.Mark.{colon}
use Rattle.syn_lower_spec.specs.Part.{type}
use Rattle.syn_lower_spec.specs.Pat as p
use Rattle.syn_lower_spec.specs.Pat.{PatTree, pattern, to_typed, from_typed}
use Rattle.syn_lower_spec.proofs.Forms.{Alike, shown_where_alike, both_alike, maybe_alike, mark_at_alike, behind_some}
use Rattle.syn_lower_spec.proofs.Marks.{colon_present}
use Rattle.syn_lower_spec.proofs.Parts.{type_alike}
use Rattle.syn_lower_spec.proofs.Pats.{pattern_alike, single_opens, typed_refused}
use Rattle.syn_lower_spec.proofs.Weights.{some_is}
use Rattle.syn_stmt_spec.specs.Stmt.{to_let, from_let, let_pattern}

-- a single pattern, and perhaps `:` and a type
abbrev pub pieces : Form (PatTree × Option TypeTree)
pieces = both (pattern false) (maybe colon.at (mark colon (type true)))

pub pieces_alike : {k : ℕ} → Alike k pieces pieces
pieces_alike {k} = both_alike (pattern_alike false) (maybe_alike colon.at (mark_at_alike colon_present (type_alike k true)))

typed_is : (z : PatTree) → to_typed (from_typed z).0 (from_typed z).1 ≡ z
typed_is (p.typed z x) = refl
typed_is _ = refl

untyped : (z : PatTree) (l n : List Tok) → (pattern false).behind z l ≡ Some n → from_typed z ≡ (z, None)
untyped (p.typed z x) l n h = let r = typed_refused {k = 0} pattern_alike z x in absurd (r.refuses l n (single_opens (p.typed z x) l n h))
untyped _ l n h = refl

pub let_alike : {k : ℕ} → Alike k let_pattern let_pattern
unfolding let_pattern
let_alike = shown_where_alike there back pieces_alike
  where
    there : (l : List Tok) (x : PatTree × Option TypeTree) (n : List Tok) → pieces.behind x l ≡ Some n → from_let (to_let x) ≡ Some x
    there l (z, Some x) n h = refl
    there l (z, None) n h =
        let (m, i, j) = behind_some ((pattern false).behind z l) ((maybe colon.at (mark colon (type true))).behind None) n h in
        ap (λ y. Some y) (untyped z l m i)

    back : (y : PatTree) (x : PatTree × Option TypeTree) → from_let y ≡ Some x → to_let x ≡ y
    back y x h = ap to_let (sym (some_is h)) ∙ typed_is y

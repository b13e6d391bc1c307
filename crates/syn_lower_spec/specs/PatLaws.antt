-- What is true of patterns.
use Rattle.std.specs.Fmt.{decimal}
use Rattle.std.specs.Prelude.{◌≡◌, ℕ, ◌≤◌, Bool, true, ◌↔◌, List, Some}
use Rattle.syn_tokens.specs.Tok.{Tok}
use Rattle.syn_lower_spec.specs.Pat.{MemberTree, PatBound, PatTree, member, range_bound, pattern, closure_arg, at_width, SpellsPat}
use Rattle.syn_lower_spec.specs.PatOwn.{index_text, member_own, range_bound_own, pat_own}
use Rattle.syn_lower_spec.specs.PatFits.{closure_arg_fits, closure_arg_stops, member_fits, range_bound_fits, range_bound_stops, pat_fits, pat_stops}
use Rattle.syn_lower_spec.specs.Fits.{closed}
use Rattle.syn_lower_spec.specs.Laws.{IsExact, FitsWhereReadBack, IsTestOf}

-- Each is read exactly where its tokens are; a pattern with alternatives where `several` holds, else a single one.
pub record PatternsAreExact : Type 0 where
  pub members : IsExact member
  pub bounds_of_ranges : IsExact range_bound
  pub patterns : (several : Bool) → IsExact (pattern several)
  pub closure_args : IsExact closure_arg

-- What spells a pattern, opened once: by its kind, and what spells the patterns in it.
abbrev pub PatternsAreSpelledByKind : Type 0
PatternsAreSpelledByKind = (several : Bool) (l : List Tok) (p : PatTree) (n : List Tok) → SpellsPat several l p n ↔ ((at_width pattern several).behind p l ≡ Some n)

-- No list has two patterns in front, nor two rests.
abbrev pub OnePattern : Type 0
OnePattern = (several : Bool) (l : List Tok) (x y : PatTree) (m n : List Tok) → SpellsPat several l x m → SpellsPat several l y n → (x ≡ y) × (m ≡ n)

-- What passes the test and is printed is read back as the same part, whatever comes after that doesn't go on with it.
pub record PatternsAreReadBack : Type 0 where
  pub members : (k : MemberTree) (rest : List Tok) → member_fits k ≡ true → member.behind k (member_own k rest) ≡ Some rest
  pub bounds_of_ranges : (b : PatBound) (rest : List Tok) → range_bound_fits b ≡ true → range_bound_stops (Some b) rest ≡ true → range_bound.behind b (range_bound_own b rest) ≡ Some rest
  pub patterns : (several : Bool) (p : PatTree) (rest : List Tok) → pat_fits several p ≡ true → pat_stops several p rest ≡ true → SpellsPat several (pat_own p rest) p rest
  pub closure_args : (p : PatTree) (rest : List Tok) → closure_arg_fits p ≡ true → closure_arg_stops p rest ≡ true → closure_arg.behind p (pat_own p rest) ≡ Some rest

-- Nothing else is read back: the tests of the law above leave nothing out.
pub record PatternsThatAreReadBackFit : Type 0 where
  pub members : FitsWhereReadBack member member_own member_fits closed
  pub bounds_of_ranges : FitsWhereReadBack range_bound range_bound_own range_bound_fits (λ b. range_bound_stops (Some b))
  pub patterns : (several : Bool) → FitsWhereReadBack (pattern several) pat_own (pat_fits several) (pat_stops several)
  pub closure_args : FitsWhereReadBack closure_arg pat_own closure_arg_fits closure_arg_stops

-- Each is read back in its place, from its own tokens with nothing after them, exactly where it passes its test.
pub record PatternTestsAreExact : Type 0 where
  pub members : IsTestOf member member_own member_fits
  pub bounds_of_ranges : IsTestOf range_bound range_bound_own range_bound_fits
  pub patterns : (several : Bool) → IsTestOf (pattern several) pat_own (pat_fits several)
  pub closure_args : IsTestOf closure_arg pat_own closure_arg_fits

-- The digits of an index are those that `Display` writes.
abbrev pub IndicesAreDecimal : Type 0
IndicesAreDecimal = (n : ℕ) → n ≤ 4294967295 → index_text n ≡ decimal n

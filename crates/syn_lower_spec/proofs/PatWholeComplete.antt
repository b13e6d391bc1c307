-- The laws of what is read back, for patterns.
use Rattle.std.proofs.Common.{◌≡◌, true, false, [], Some, refl}
use Rattle.syn_lower_spec.specs.Fits.{closed}
use Rattle.syn_lower_spec.specs.Pat.{PatTree, member, range_bound, pattern, closure_arg}
use Rattle.syn_lower_spec.specs.Pat as p
use Rattle.syn_lower_spec.specs.Mark.{sign_at}
use Rattle.syn_lower_spec.specs.PatOwn.{member_own, range_bound_own, pat_own}
use Rattle.syn_lower_spec.specs.PatFits.{closure_arg_fits, closure_arg_stops, typed_stops, member_fits, range_bound_fits, range_bound_stops, pat_fits, pat_stops}
use Rattle.syn_lower_spec.specs.PatLaws.{PatternsAreReadBack, PatternsThatAreReadBackFit, PatternTestsAreExact}
use Rattle.syn_lower_spec.proofs.Exact.{exact, type_none}
use Rattle.syn_lower_spec.proofs.PatsBack.{member_back, bound_back, pat_back, closure_arg_back, nil_pat_calm, nil_ends, bound_calm, stops_ends}
use Rattle.syn_lower_spec.proofs.PatsComplete.{member_complete, bound_complete, pat_complete, closure_arg_complete}

pub patterns_read_back : PatternsAreReadBack
patterns_read_back = record { members = member_back; bounds_of_ranges = bound_back; patterns = pat_back; closure_args = closure_arg_back }

pub patterns_complete : PatternsThatAreReadBackFit
patterns_complete = record { members = member_complete; bounds_of_ranges = bound_complete; patterns = pat_complete; closure_args = closure_arg_complete }

typed_none : (z : PatTree) → typed_stops z [] ≡ true
unfolding sign_at
typed_none (p.typed z x) = type_none true x
typed_none z = rw (stops_ends false z [] nil_ends) refl

arg_none : (z : PatTree) → closure_arg_stops z [] ≡ true
arg_none (p.attributed a xs z) = typed_none z
arg_none z = typed_none z

pub pattern_tests_exact : PatternTestsAreExact
pattern_tests_exact = record {
  members = exact member member_own member_fits closed member_complete (λ k r f c. member_back k r f) (λ k. refl);
  bounds_of_ranges = exact range_bound range_bound_own range_bound_fits (λ b. range_bound_stops (Some b)) bound_complete bound_back (λ b. bound_calm [] nil_pat_calm (Some b));
  patterns = λ s. exact (pattern s) pat_own (pat_fits s) (pat_stops s) (pat_complete s) (pat_back s) (λ z. stops_ends s z [] nil_ends);
  closure_args = exact closure_arg pat_own closure_arg_fits closure_arg_stops closure_arg_complete closure_arg_back arg_none;
}

-- The laws of patterns.
use Rattle.std.proofs.Common.{◌≡◌, ap, sym, ◌∙◌}
use Rattle.syn_lower_spec.specs.PatLaws.{PatternsAreExact, PatternsAreSpelledByKind, OnePattern}
use Rattle.syn_lower_spec.proofs.Weights.{some_is}
use Rattle.syn_lower_spec.proofs.Whole.{exact}
use Rattle.syn_lower_spec.proofs.Pats.{member_alike, range_bound_alike, pattern_alike, pattern_is, closure_arg_alike, width_alike}

pub patterns_exact : PatternsAreExact
patterns_exact = record {
  members = exact _ member_alike;
  bounds_of_ranges = exact _ range_bound_alike;
  patterns = λ b. exact _ (pattern_alike b);
  closure_args = exact _ closure_arg_alike;
}

pub spelled_by_kind : PatternsAreSpelledByKind
spelled_by_kind b l x n =
    let f = pattern_alike {k = 0} b in
    let a = width_alike {k = 0} pattern_alike b in
    ((λ h. a.sound l x n (sym (pattern_is b l) ∙ f.complete l x n h)), (λ h. f.sound l x n (pattern_is b l ∙ a.complete l x n h)))

pub one_pattern : OnePattern
one_pattern b l x y m n h k =
    let f = pattern_alike {k = 0} b in
    let e : (x, m) ≡ (y, n) = some_is (sym (f.complete l x m h) ∙ f.complete l y n k) in
    (ap (λ q. q.0) e, ap (λ q. q.1) e)

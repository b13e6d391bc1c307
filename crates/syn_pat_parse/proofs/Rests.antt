-- Where `..` may follow the fields of a struct.
use Rattle.std.proofs.Common.{◌≡◌, not, ◌&&◌, List, [], ◌∷◌, ◌++◌, map, Option, Some, None, refl, false, ◌||◌}
use Rattle.std.specs.Prelude.{is_some}
use Rattle.std.specs.declared.boxed.Box.{Box}
use Rattle.std.specs.declared.alloc.Global.{Global}
use Rattle.syn_lower_spec.specs.Form.{is_nil}
use Rattle.syn_lower_leaves.specs.Punct.{takes_value}
use Rattle.syn_lower_leaves.specs.View.{values, trails, last_of, is_some_pair}
use Rattle.syn_lower_leaves.specs.declared.punctuated.Punctuated.{Punctuated}
use Rattle.syn_tokens.specs.Tok.{Tok}
use Rattle.syn_lower_spec.specs.Mark.{colon2, less}
use Rattle.syn_lower_spec.specs.Pat.{begins_segment, path_pat, pattern}
use Rattle.syn_lower_spec.specs.declared.label.PathStyle.TheVariants as style
use Rattle.syn_lower.proofs.Absent.{qpath_absent}

-- after none, or after a comma
pub takes_rest : {A B P : Type 0} (f : A → B) (p : Punctuated A P) → takes_value p ≡ (is_nil (map f (values p)) || trails p)
unfolding takes_value values trails
takes_rest {A} {B} {P} f p = by p.inner.items p.last
  where
    by : (xs : List (A × P)) (o : Option (Box A Global)) → not (is_some o) ≡ (is_nil (map f (map (λ q. q.0) xs ++ last_of o)) || (is_some_pair xs && not (is_some o)))
    by [] None = refl
    by [] (Some b) = refl
    by (x ∷ xs) None = refl
    by (x ∷ xs) (Some b) = refl

pub ruleset rests = (takes_rest)

-- ---- where no path begins, no pattern is read by its path

pub path_pat_absent : (l : List Tok) → (begins_segment l || (colon2.at l || less.at l)) ≡ false → (path_pat pattern).reads l ≡ None
unfolding path_pat
path_pat_absent l h = rw (qpath_absent style.Expr l h) refl

pub ruleset patterns = (path_pat_absent)

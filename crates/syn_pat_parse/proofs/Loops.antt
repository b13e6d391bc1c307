-- One turn of each loop that reads a list.
use Rattle.std.proofs.Common.{◌≡◌, true, false, cond, List, [], ◌∷◌, ◌++◌, drop, Some, refl}
use Rattle.std.specs.Prelude.{flat_map}
use Rattle.syn_tokens.specs.Tok.{Tok}
use Rattle.syn_tokens.specs.Front.{is_empty}
use Rattle.syn_lower_spec.specs.Form.{and_then, listed, gathered, joined, gathered_more}
use Rattle.syn_lower_spec.specs.Mark.{comma}
use Rattle.syn_lower_spec.specs.Pat.{PatTree, FieldPatTree, pattern, single, field, fields_stop, vert}
use Rattle.syn_lower_spec.proofs.Loops as loops
use Rattle.syn_lower_spec.proofs.Marks.{comma_present}
use Rattle.syn_lower_spec.proofs.Forms.{weaker}
use Rattle.syn_lower_spec.proofs.Pats.{pattern_alike, single_alike, field_alike, vert_present}
use Rattle.syn_lower_leaves.proofs.Loops.{map-one}

pub patterns_turn : (found : List PatTree) (l : List Tok) → gathered comma is_empty (pattern true) found l
    ≡ cond (comma.at l) (cond (is_empty (drop comma.count l)) (Some ((found, true), drop comma.count l)) (and_then ((pattern true).reads (drop comma.count l)) (λ x n. gathered comma is_empty (pattern true) (found ++ x ∷ []) n))) (Some ((found, false), l))
patterns_turn = loops.turn comma is_empty (pattern true) comma_present (λ k. pattern_alike {k = k} true)

pub patterns_start : (l : List Tok) → (listed comma is_empty (pattern true)).reads l
    ≡ cond (is_empty l) (Some (([], false), l)) (and_then ((pattern true).reads l) (λ x n. gathered comma is_empty (pattern true) (x ∷ []) n))
patterns_start = loops.start comma is_empty (pattern true) comma_present (λ k. pattern_alike {k = k} true)

both : {B : Type 0} (a b c : List B) → a ++ b ≡ [] → c ≡ [] → a ++ c ≡ []
both [] b c h e = e
both (x ∷ xs) b c h e = absurd cc

behind : {B : Type 0} (a b : List B) → a ++ b ≡ [] → b ≡ []
behind [] b h = h
behind (x ∷ xs) b h = absurd cc

-- an element without guards after others without
pub no_guards : {A B : Type 0} (f : A → List B) (xs : List A) (x : A) → flat_map f xs ≡ [] → f x ≡ [] → flat_map f (xs ++ x ∷ []) ≡ []
no_guards f [] x h e = rw e refl
no_guards f (y ∷ ys) x h e = both (f y) (flat_map f ys) (flat_map f (ys ++ x ∷ [])) h (no_guards f ys x (behind (f y) (flat_map f ys) h) e)

pub ruleset patterns = (map-one, patterns_turn, patterns_start, no_guards)

pub fields_turn : (found : List FieldPatTree) (l : List Tok) → gathered comma fields_stop (field pattern) found l
    ≡ cond (comma.at l) (cond (fields_stop (drop comma.count l)) (Some ((found, true), drop comma.count l)) (and_then ((field pattern).reads (drop comma.count l)) (λ x n. gathered comma fields_stop (field pattern) (found ++ x ∷ []) n))) (Some ((found, false), l))
fields_turn = loops.turn comma fields_stop (field pattern) comma_present (λ k. field_alike (pattern_alike {k = k}))

pub fields_start : (l : List Tok) → (listed comma fields_stop (field pattern)).reads l
    ≡ cond (fields_stop l) (Some (([], false), l)) (and_then ((field pattern).reads l) (λ x n. gathered comma fields_stop (field pattern) (x ∷ []) n))
fields_start = loops.start comma fields_stop (field pattern) comma_present (λ k. field_alike (pattern_alike {k = k}))

pub ruleset fields = (map-one, fields_turn, fields_start, no_guards)

pub cases_turn : (found : List PatTree) (l : List Tok) → gathered_more vert (single pattern) found l
    ≡ cond (vert.at l) (and_then ((single pattern).reads (drop vert.count l)) (λ x n. gathered_more vert (single pattern) (found ++ x ∷ []) n)) (Some (found, l))
cases_turn = loops.more_turn vert (single pattern) vert_present (λ k. weaker (single_alike (pattern_alike {k = k})))

pub cases_start : (l : List Tok) → (joined vert (single pattern)).reads l ≡ and_then ((single pattern).reads l) (λ x n. gathered_more vert (single pattern) (x ∷ []) n)
cases_start = loops.joined_start vert (single pattern) vert_present (λ k. weaker (single_alike (pattern_alike {k = k})))

pub ruleset cases = (map-one, cases_turn, cases_start, no_guards)

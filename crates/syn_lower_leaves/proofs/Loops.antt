-- One turn of each loop that reads a list.
use Rattle.std.proofs.Common.{◌≡◌, cond, List, [], ◌∷◌, ◌++◌, map, drop, Some, true, false}
use Rattle.std.proofs.lemmas.List.{map-append}
use Rattle.syn_tokens.specs.Tok.{Tok}
use Rattle.syn_lower_spec.specs.Tree.{AttributeTree}
use Rattle.syn_lower_spec.specs.Form.{and_then, more, gathered_more, listed, gathered}
use Rattle.syn_lower_spec.specs.Mark.{pound, comma, gt}
use Rattle.syn_lower_spec.specs.Part.{pound_bang, outer_body, inner_body, lifetime}
use Rattle.syn_lower_spec.proofs.Loops as loops
use Rattle.syn_lower_spec.proofs.Marks.{pound_present, pound_bang_present, comma_present}
use Rattle.syn_lower_spec.proofs.Parts.{outer_body_alike, inner_body_alike, lifetime_alike}
use Rattle.syn_lower_spec.specs.Text.{Text}

-- one more element at the end, as it is seen
pub map-one : {A B : Type 0} (f : A → B) (xs : List A) (x : A) → map f (xs ++ x ∷ []) ≡ map f xs ++ f x ∷ []
map-one f xs x = map-append f xs (x ∷ [])

pub outer_turn : (found : List AttributeTree) (l : List Tok) → gathered_more pound outer_body found l
    ≡ cond (pound.at l) (and_then (outer_body.reads (drop pound.count l)) (λ x n. gathered_more pound outer_body (found ++ x ∷ []) n)) (Some (found, l))
outer_turn = loops.more_turn pound outer_body pound_present (λ k. outer_body_alike)

pub outer_start : (l : List Tok) → (more pound outer_body).reads l ≡ gathered_more pound outer_body [] l
outer_start = loops.more_start pound outer_body pound_present (λ k. outer_body_alike)

pub ruleset outer_attributes = (map-one, outer_turn, outer_start)

pub inner_turn : (found : List AttributeTree) (l : List Tok) → gathered_more pound_bang inner_body found l
    ≡ cond (pound_bang.at l) (and_then (inner_body.reads (drop pound_bang.count l)) (λ x n. gathered_more pound_bang inner_body (found ++ x ∷ []) n)) (Some (found, l))
inner_turn = loops.more_turn pound_bang inner_body pound_bang_present (λ k. inner_body_alike)

pub inner_start : (l : List Tok) → (more pound_bang inner_body).reads l ≡ gathered_more pound_bang inner_body [] l
inner_start = loops.more_start pound_bang inner_body pound_bang_present (λ k. inner_body_alike)

pub ruleset inner_attributes = (map-one, inner_turn, inner_start)

-- ---- one turn of the loop that reads lifetimes

pub lifetimes_turn : (found : List Text) (l : List Tok) → gathered comma gt.at lifetime found l
    ≡ cond (comma.at l) (cond (gt.at (drop comma.count l)) (Some ((found, true), drop comma.count l)) (and_then (lifetime.reads (drop comma.count l)) (λ x n. gathered comma gt.at lifetime (found ++ x ∷ []) n))) (Some ((found, false), l))
lifetimes_turn = loops.turn comma gt.at lifetime comma_present (λ k. lifetime_alike)

pub lifetimes_start : (l : List Tok) → (listed comma gt.at lifetime).reads l
    ≡ cond (gt.at l) (Some (([], false), l)) (and_then (lifetime.reads l) (λ x n. gathered comma gt.at lifetime (x ∷ []) n))
lifetimes_start = loops.start comma gt.at lifetime comma_present (λ k. lifetime_alike)

pub ruleset lifetimes = (map-one, lifetimes_turn, lifetimes_start)

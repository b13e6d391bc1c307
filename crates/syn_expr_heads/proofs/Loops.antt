-- One turn of the loop that reads the arguments of a closure.
use Rattle.std.specs.Prelude.{flat_map}
use Rattle.std.proofs.Common.{◌≡◌, true, false, cond, List, [], ◌∷◌, ◌++◌, map, drop, Some, refl, ap}
use Rattle.std.proofs.lemmas.Grind.{flat_map-append}
use Rattle.std.proofs.lemmas.Simd.{map-map}
use Rattle.syn_tokens.specs.Tok.{Tok}
use Rattle.syn_lower_spec.specs.Form.{and_then, listed, gathered}
use Rattle.syn_lower_spec.specs.Mark.{comma}
use Rattle.syn_lower_spec.specs.Pat.{PatTree, closure_arg}
use Rattle.syn_expr_spec.specs.Head.{bar}
use Rattle.syn_lower_spec.proofs.Loops as loops
use Rattle.syn_lower_spec.proofs.Marks.{comma_present}
use Rattle.syn_lower_spec.proofs.Pats.{closure_arg_alike}
use Rattle.syn_lower_leaves.proofs.Loops.{map-one}

pub args_turn : (found : List PatTree) (l : List Tok) → gathered comma bar.at closure_arg found l
    ≡ cond (comma.at l) (cond (bar.at (drop comma.count l)) (Some ((found, true), drop comma.count l)) (and_then (closure_arg.reads (drop comma.count l)) (λ x n. gathered comma bar.at closure_arg (found ++ x ∷ []) n))) (Some ((found, false), l))
args_turn = loops.turn comma bar.at closure_arg comma_present (λ k. closure_arg_alike)

pub args_start : (l : List Tok) → (listed comma bar.at closure_arg).reads l
    ≡ cond (bar.at l) (Some (([], false), l)) (and_then (closure_arg.reads l) (λ x n. gathered comma bar.at closure_arg (x ∷ []) n))
args_start = loops.start comma bar.at closure_arg comma_present (λ k. closure_arg_alike)

-- the guards of the arguments, by their views
pub guards-of : {P V G : Type 0} (f : P → V) (g : V → List G) (xs : List P) → flat_map g (map f xs) ≡ flat_map (λ x. g (f x)) xs
guards-of f g [] = refl
guards-of f g (x ∷ xs) = ap (λ l. g (f x) ++ l) (guards-of f g xs)

pub ruleset args = (map-one, flat_map-append, args_turn, args_start)

pub ruleset inputs = (map-map, guards-of)

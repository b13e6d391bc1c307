-- Which bases take which trailers, and which indices come after a dot.
use Rattle.std.specs.Prelude.{not, ◌||◌, ◌&&◌}
use Rattle.std.proofs.Common.{◌≡◌, ℕ, Bool, true, false, cond, List, [], ◌∷◌, Option, Some, None, refl, ap}
use Rattle.syn_lexer.specs.declared.front.Delimiter.{Delimiter}
use Rattle.syn_lexer.specs.declared.front.Delimiter.TheVariants as del
use Rattle.syn_tokens.specs.Tok.{Tok, ident, literal, punct, group}
use Rattle.syn_tokens.specs.Front.{group_at}
use Rattle.syn_tokens.specs.Floats.{float_parts}
use Rattle.syn_lower_spec.specs.Mark.{colon2, sign_at}
use Rattle.syn_lower_spec.specs.Pat.{an_index, index_of}
use Rattle.syn_lower_spec.proofs.Weights.{some_is}
use Rattle.syn_expr_spec.specs.declared.kinds.Place.{Place}
use Rattle.syn_expr_spec.specs.Tree as e
use Rattle.syn_expr_spec.specs.Tree.{Tree}
use Rattle.syn_expr_spec.specs.Stands as stands
use Rattle.syn_expr_spec.specs.Stands.{fields_of, fits_base, indices_at, step, steps_of, closed_steps}
use Rattle.syn_expr_spec.specs.Slot.{nothing, trailer_holder}
use Rattle.syn_expr_spec.specs.Read.{content, indexed_by, expr}
use Rattle.syn_expr_ast.specs.Label.{trailer_kind}
use Rattle.syn_expr_ast.specs.declared.label.TrailerKind.TheVariants as trailers
use Rattle.syn_expr_parse.specs.Kind as known

-- what the test of a base asks beside what it asks of all
split : (a b c d : Bool) → ((a && (b && not c)) && not d) ≡ ((a && b) && (not c && not d))
split true true c d = refl
split true false c d = refl
split false b c d = refl

whole : (a b d : Bool) → ((a && (b && true)) && not d) ≡ ((a && b) && not d)
whole true true d = refl
whole true false d = refl
whole false b d = refl

other : (t : Tree) → ((stands.carries t && (not (stands.is_attributed t || stands.is_pounded t) && true)) && true) ≡ (known.is_base t && true)
other t = whole (stands.carries t) (not (stands.is_attributed t || stands.is_pounded t)) false

pub fits-kind : (p : Place) (k : e.Trailer) (t : Tree) → fits_base p k t ≡ known.fits_base p (trailer_kind k) t
unfolding fits_base
fits-kind p e.call t = split (stands.carries t) (not (stands.is_attributed t || stands.is_pounded t)) (stands.is_named_field t) (stands.rests p t)
fits-kind p e.index t = whole (stands.carries t) (not (stands.is_attributed t || stands.is_pounded t)) (stands.rests p t)
fits-kind p e.try_expr t = other t
fits-kind p (e.method w a) t = other t
fits-kind p (e.field m) t = other t
fits-kind p e.await t = other t

-- ---- indices after a dot

step_some : (o : Option ℕ) (q : Option (List ℕ × Bool)) (b : Bool) → step o q ≡ Some ([], b) → ⊥
step_some None q b h = absurd cc
step_some (Some n) None b h = absurd cc
step_some (Some n) (Some p) b h = let k : n ∷ p.0 ≡ [] = ap (λ (r : List ℕ × Bool). r.0) (some_is h) in absurd (cc k)

-- a last dot ends no index
open_ends : (ts : List Tok) → steps_of ts ≡ Some ([], false) → ⊥
open_ends [] h = let k : true ≡ false = ap (λ (r : List ℕ × Bool). r.1) (some_is h) in absurd (cc k)
open_ends (literal s ∷ []) h = step_some (index_of s) (Some ([], false)) false h
open_ends (literal s ∷ d ∷ more) h = step_some (index_of s) (steps_of more) false h
open_ends (ident s ∷ more) h = absurd cc
open_ends (punct c s ∷ more) h = absurd cc
open_ends (group d i ∷ more) h = absurd cc

some_index : (l n : List Tok) → indices_at l ≡ Some ([], n) → ⊥
unfolding indices_at
some_index (literal s ∷ l) n h = by_steps (steps_of (float_parts s)) refl h
  where
    by_steps : (o : Option (List ℕ × Bool)) → steps_of (float_parts s) ≡ o → closed_steps o l ≡ Some ([], n) → ⊥
    by_steps None g h = absurd cc
    by_steps (Some (is, true)) g h = absurd cc
    by_steps (Some ([], false)) g h = open_ends (float_parts s) g
    by_steps (Some (i ∷ is, false)) g h = let k : i ∷ is ≡ [] = ap (λ (r : List ℕ × List Tok). r.0) (some_is h) in absurd (cc k)
some_index _ n h = absurd cc

-- the test is that of a field with an index
pub indexed : (p : Place) (t : Tree) (l n : List Tok) (is : List ℕ) → indices_at l ≡ Some (is, n)
    → indexed_by expr p t is n ≡ cond (known.fits_base p (trailers.Field false) t) (Some (fields_of t is, n)) None
indexed p t l n [] h = absurd (some_index l n h)
indexed p t l n (i ∷ is) h = rw (fits-kind p (e.field (an_index i)) t) refl

-- a trailer that holds nothing
pub nothing-held : (l : List Tok) → content expr nothing l ≡ Some (e.none, l)
unfolding content
nothing-held l = refl

-- No arguments come first where `::` does.
no_group : (d : Delimiter) (l : List Tok) → colon2.at l ≡ true → group_at d l ≡ None
unfolding group_at sign_at
no_group d [] h = refl
no_group d (ident w ∷ l) h = refl
no_group d (punct c s ∷ l) h = refl
no_group d (literal w ∷ l) h = refl
no_group d (group g i ∷ l) h = absurd cc

pub no_arguments : (l : List Tok) → colon2.at l ≡ true → content expr (trailer_holder e.call) l ≡ None
unfolding content
no_arguments l h = rw (no_group del.Parenthesis l h) refl

pub ruleset bases = (fits-kind, indexed, nothing-held)

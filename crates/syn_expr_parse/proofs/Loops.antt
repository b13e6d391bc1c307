-- What the loops over operators and trailers go by.
use Rattle.std.specs.Prelude.{◌&&◌, ◌||◌, not}
use Rattle.std.proofs.Common.{◌≡◌, ℕ, ◌<◌, Bool, true, false, cond, List, drop, Option, Some, None, refl, ap, ◌∙◌}
use Rattle.std.proofs.Math.Bool.{or-false}
use Rattle.syn_tokens.specs.Tok.{Tok, weight}
use Rattle.syn_expr_spec.specs.declared.kinds.Infix.{Infix}
use Rattle.syn_expr_spec.specs.declared.kinds.Place.{Place}
use Rattle.syn_expr_spec.specs.Op.{is_comparison}
use Rattle.syn_expr_spec.specs.Tree.{Tree}
use Rattle.syn_expr_spec.specs.Stands.{closes, compares, ends, fits_left, is_range, rests}
use Rattle.syn_expr_spec.specs.Read.{longer, next_operator, stop, taken_at, trailed, turn, expr}
use Rattle.syn_expr_spec.proofs.Lesses.{operator_less}
use Rattle.syn_expr_parse.specs.Operators.{operations, trailers}
use Rattle.syn_expr_parse.proofs.Turns.{climb_turn, trail_turn, trailed_less, next_some}

-- ---- operations

turn_is : (p : Place) (x : Tree) (l : List Tok) (o : Option (Infix × ℕ)) → next_operator p x l ≡ o → operations p x l ≡ turn expr p x o (operations p) l
unfolding operations
turn_is p x l o i = climb_turn p x l ∙ rw i refl

-- an operator goes on neither a range nor what is the whole, so that it fits where it chains no comparison
fits_by : (r c w : Bool) → (r || w) ≡ false → not (r || (c || w)) ≡ not c
fits_by false c false h = ap not (or-false c)
fits_by false c true h = absurd cc
fits_by true c w h = absurd cc

operator_fits : (p : Place) (x : Tree) (l : List Tok) (op : Infix) (count : ℕ) → next_operator p x l ≡ Some (op, count) → fits_left p op x ≡ not (is_comparison op && compares x)
unfolding fits_left
operator_fits p x l op count i = by_tests (is_range x || rests p x) refl i
  where
    by_tests : (b : Bool) → (is_range x || rests p x) ≡ b → cond b None (taken_at p.level l) ≡ Some (op, count) → fits_left p op x ≡ not (is_comparison op && compares x)
    by_tests true w h = absurd cc
    by_tests false w h = fits_by (is_range x) (is_comparison op && compares x) (rests p x) w

-- one is read
pub operation_read : (p : Place) (x y : Tree) (l m : List Tok) (op : Infix) (count : ℕ) → next_operator p x l ≡ Some (op, count) → (is_comparison op && compares x) ≡ false
    → longer expr p x op (drop count l) ≡ Some (y, m) → closes p y m ≡ true → operations p x l ≡ operations p y m
operation_read p x y l m op count i f h c = turn_is p x l (Some (op, count)) i ∙ rw (operator_fits p x l op count i, f, h, c) refl

-- or refused
pub operation_refused : (p : Place) (x : Tree) (l : List Tok) (op : Infix) (count : ℕ) → next_operator p x l ≡ Some (op, count) → (is_comparison op && compares x) ≡ false
    → longer expr p x op (drop count l) ≡ None → operations p x l ≡ None
operation_refused p x l op count i f h = turn_is p x l (Some (op, count)) i ∙ rw (operator_fits p x l op count i, f, h) refl

pub operation_chained : (p : Place) (x : Tree) (l : List Tok) (op : Infix) (count : ℕ) → next_operator p x l ≡ Some (op, count) → (is_comparison op && compares x) ≡ true → operations p x l ≡ None
operation_chained p x l op count i f = turn_is p x l (Some (op, count)) i ∙ rw (operator_fits p x l op count i, f) refl

-- a trailer is left after it
pub operation_open : (p : Place) (x y : Tree) (l m : List Tok) (op : Infix) (count : ℕ) → next_operator p x l ≡ Some (op, count) → (is_comparison op && compares x) ≡ false
    → longer expr p x op (drop count l) ≡ Some (y, m) → closes p y m ≡ false → operations p x l ≡ None
operation_open p x y l m op count i f h c = turn_is p x l (Some (op, count)) i ∙ rw (operator_fits p x l op count i, f, h, c) refl

pub operations_end : (p : Place) (x : Tree) (l : List Tok) → next_operator p x l ≡ None → ends p x l ≡ true → operations p x l ≡ Some (x, l)
unfolding stop
operations_end p x l i h = turn_is p x l None i ∙ rw h refl

pub operations_cut : (p : Place) (x : Tree) (l : List Tok) → next_operator p x l ≡ None → ends p x l ≡ false → operations p x l ≡ None
unfolding stop
operations_cut p x l i h = turn_is p x l None i ∙ rw h refl

pub operator_falls : (p : Place) (x : Tree) (l : List Tok) (op : Infix) (count : ℕ) → next_operator p x l ≡ Some (op, count) → weight (drop count l) < weight l
operator_falls p x l op count i = let a = operator_less l op count (next_some p x l (op, count) i) in a.less

pub ruleset operators = (operation_read, operation_refused, operation_chained, operation_open, operations_end, operations_cut, operator_falls)

-- ---- trailers

pub trailer_read : (p : Place) (b c : Tree) (l m : List Tok) → closes p b l ≡ false → trailed expr p b l ≡ Some (c, m) → trailers p b l ≡ trailers p c m
unfolding trailers
trailer_read p b c l m h i = trail_turn p b l ∙ rw (h, i) refl

pub trailer_refused : (p : Place) (b : Tree) (l : List Tok) → closes p b l ≡ false → trailed expr p b l ≡ None → trailers p b l ≡ None
unfolding trailers
trailer_refused p b l h i = trail_turn p b l ∙ rw (h, i) refl

pub trailers_end : (p : Place) (b : Tree) (l : List Tok) → closes p b l ≡ true → trailers p b l ≡ Some (b, l)
unfolding trailers
trailers_end p b l h = trail_turn p b l ∙ rw h refl

pub trailer_falls : (p : Place) (b c : Tree) (l m : List Tok) → trailed expr p b l ≡ Some (c, m) → weight m < weight l
trailer_falls p b c l m h = let a = trailed_less p b l (c, m) h in a.less

pub ruleset trails = (trailer_read, trailer_refused, trailers_end, trailer_falls)

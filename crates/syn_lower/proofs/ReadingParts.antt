-- Reading on a fork, where a function follows a form that isn't its type's own.
use Rattle.std.proofs.Common.{◌≡◌, ◌+◌, ◌≤◌, false, List, Some}
use Rattle.syn_tokens.specs.Tok.{Tok, weight}
use Rattle.syn_tokens.specs.Input.{IsTail}
use Rattle.syn_lower_spec.specs.declared.label.PathStyle.{PathStyle}
use Rattle.syn_lower_spec.specs.Tree.{TypeTree}
use Rattle.syn_lower_spec.specs.Part.{QPathTree, type, qpath}
use Rattle.syn_lower_spec.proofs.Readable.{type_readable, qpath_readable}

pub one_bound_tail : (l n : List Tok) (x : TypeTree) → (type false).reads l ≡ Some (x, n) → IsTail n l
one_bound_tail l n x h = let r = type_readable false in r.tail l n x h

pub one_bound_moves : (l n : List Tok) (x : TypeTree) → (type false).reads l ≡ Some (x, n) → 1 + weight n ≤ weight l
one_bound_moves l n x h = let r = type_readable false in r.moves l n x h

pub ruleset one_bound_reading = (one_bound_tail, one_bound_moves)

pub qpath_tail : (s : PathStyle) (l n : List Tok) (x : QPathTree) → (qpath type s).reads l ≡ Some (x, n) → IsTail n l
qpath_tail s l n x h = let r = qpath_readable s in r.tail l n x h

pub qpath_moves : (s : PathStyle) (l n : List Tok) (x : QPathTree) → (qpath type s).reads l ≡ Some (x, n) → 1 + weight n ≤ weight l
qpath_moves s l n x h = let r = qpath_readable s in r.moves l n x h

pub ruleset qpath_reading = (qpath_tail, qpath_moves)

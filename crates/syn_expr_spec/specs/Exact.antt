-- What is promised of reading.
use Rattle.std.specs.Prelude.{◌≡◌, ◌<◌, Bool, List, Some}
use Rattle.syn_tokens.specs.Input.{IsTail}
use Rattle.syn_tokens.specs.Tok.{Tok, weight}
use Rattle.syn_lower_spec.specs.Form.{Outcome}
use Rattle.syn_lower_spec.specs.Laws as parts
use Rattle.syn_expr_spec.specs.declared.kinds.Place.{Place}
use Rattle.syn_expr_spec.specs.Tree.{Tree}
use Rattle.syn_expr_spec.specs.Path.{expr_path}
use Rattle.syn_expr_spec.specs.Head.{label, jump_head, range_op, body, leaf_form, closure_head, prefix_form, dotted}
use Rattle.syn_expr_spec.specs.Slot.{Slot, piece_form, for_head}
use Rattle.syn_expr_spec.specs.Stands.{Stands}
use Rattle.syn_expr_spec.specs.Read.{expr}

-- Each form of what comes before, between and after operands is read exactly where its tokens are.
pub record HeadsAreExact : Type 0 where
  pub leaves : parts.IsExact leaf_form
  pub prefixes : parts.IsExact prefix_form
  pub trailers : parts.IsExact dotted
  pub pieces : (s : Slot) → parts.IsExact (piece_form s)
  pub paths : (braces : Bool) → parts.IsExact (expr_path braces)
  pub closure_heads : parts.IsExact closure_head
  pub for_heads : parts.IsExact for_head
  pub labels : parts.IsExact label
  pub jumps : parts.IsExact jump_head
  pub ranges : parts.IsExact range_op
  pub bodies : parts.IsExact body

-- What the reading answers stands, and what stands is its answer.
pub record ReadingIsExact : Type 0 where
  pub sound : (p : Place) (l : List Tok) (x : Tree) (n : List Tok) → expr p l ≡ Some (x, n) → Stands p l x n
  pub complete : (p : Place) (l : List Tok) (x : Tree) (n : List Tok) → Stands p l x n → expr p l ≡ Some (x, n)

-- For a list and a place at most one tree is, before at most one rest.
abbrev pub OneTree : Type 0
OneTree = (p : Place) (l : List Tok) (x y : Tree) (m n : List Tok) → Stands p l x m → Stands p l y n → (x ≡ y) × (m ≡ n)

-- A reading is exact: it gives what is, all that does, and takes tokens at the front.
pub record IsExact {B : Type 0} (reads : List Tok → Outcome B) (stands : List Tok → B → List Tok → Type 0) : Type 0 where
  pub sound : (l : List Tok) (x : B) (n : List Tok) → reads l ≡ Some (x, n) → stands l x n
  pub complete : (l : List Tok) (x : B) (n : List Tok) → stands l x n → reads l ≡ Some (x, n)
  pub tail : (l : List Tok) (x : B) (n : List Tok) → reads l ≡ Some (x, n) → IsTail n l
  pub less : (l : List Tok) (x : B) (n : List Tok) → reads l ≡ Some (x, n) → weight n < weight l

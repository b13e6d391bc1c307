-- Lists from outside, and what is at their front: the rows of the grammar that are easily got wrong
-- (Rust Reference, "Types", "Paths", "Patterns").
use Rattle.std.specs.Prelude.{◌≡◌, ℕ, Bool, true, false, List, [], ◌∷◌, codes, Option, Some, None}
use Rattle.syn_lexer.specs.declared.front.Delimiter.TheVariants as del
use Rattle.syn_tokens.specs.Tok.{Tok, ident, literal, group, inside}
use Rattle.syn_lower_spec.specs.Form.{Outcome}
use Rattle.syn_lower_spec.specs.Own.{alone, joint}
use Rattle.syn_lower_spec.specs.declared.label.LitKind.TheVariants as kind
use Rattle.syn_lower_spec.specs.Tree as t
use Rattle.syn_lower_spec.specs.Tree.{LitTree, PathTree, TypeTree, GenericTree}
use Rattle.syn_lower_spec.specs.Part.{type, generic}
use Rattle.syn_lower_spec.specs.Pat as p
use Rattle.syn_lower_spec.specs.Pat.{PatTree, index_of, pattern, closure_arg}

-- how much is left after what is read, or that nothing is
abbrev pub behind : {A : Type 0} → Outcome A → Option (List Tok)
behind None = None
behind (Some p) = Some p.1

abbrev pub u8 : Tok
u8 = ident (codes "u8")

abbrev pub T : Tok
T = ident (codes "T")

abbrev pub A : Tok
A = ident (codes "A")

abbrev pub B : Tok
B = ident (codes "B")

abbrev pub lt : Tok
lt = alone 60

abbrev pub gt : Tok
gt = alone 62

abbrev pub Leaves : Bool → List Tok → List Tok → Type 0
Leaves several l rest = behind ((type several).reads l) ≡ Some rest

abbrev pub Refuses : Bool → List Tok → Type 0
Refuses several l = behind ((type several).reads l) ≡ None

abbrev pub LeavesPat : Bool → List Tok → List Tok → Type 0
LeavesPat several l rest = behind ((pattern several).reads l) ≡ Some rest

abbrev pub RefusesPat : Bool → List Tok → Type 0
RefusesPat several l = behind ((pattern several).reads l) ≡ None

pub record TypeSamples : Type 0 where
  -- `u8 < T`: arguments begin, and are not closed
  pub less : Refuses false (u8 ∷ lt ∷ T ∷ [])
  -- `u8 <= T`
  pub less_eq : Leaves false (u8 ∷ joint 60 ∷ alone 61 ∷ T ∷ []) (joint 60 ∷ alone 61 ∷ T ∷ [])
  -- `A<u8>>y`: one `>` closes
  pub closes_one : Leaves false (A ∷ lt ∷ u8 ∷ joint 62 ∷ gt ∷ T ∷ []) (gt ∷ T ∷ [])
  -- `A::B::`
  pub path_goes_on : Refuses false (A ∷ joint 58 ∷ alone 58 ∷ B ∷ joint 58 ∷ alone 58 ∷ [])
  -- `dyn A + B`, several bounds and one
  pub several_bounds : Leaves true (ident (codes "dyn") ∷ A ∷ alone 43 ∷ B ∷ []) []
  pub one_bound : Leaves false (ident (codes "dyn") ∷ A ∷ alone 43 ∷ B ∷ []) (alone 43 ∷ B ∷ [])
  -- a last `+`
  pub last_plus : Refuses true (ident (codes "dyn") ∷ A ∷ alone 43 ∷ [])
  -- `& dyn A + B`: one bound after `&`
  pub behind_and : Leaves true (alone 38 ∷ ident (codes "dyn") ∷ A ∷ alone 43 ∷ B ∷ []) (alone 43 ∷ B ∷ [])
  -- `fn(a: u8) -> T`
  pub function : Leaves false (ident (codes "fn") ∷ group del.Parenthesis (inside (ident (codes "a") ∷ alone 58 ∷ u8 ∷ [])) ∷ joint 45 ∷ gt ∷ T ∷ []) []
  -- `<T as A>::B`, and without what follows `>`
  pub qualified : Leaves false (lt ∷ T ∷ ident (codes "as") ∷ A ∷ gt ∷ joint 58 ∷ alone 58 ∷ B ∷ []) []
  pub qualified_alone : Refuses false (lt ∷ T ∷ ident (codes "as") ∷ A ∷ gt ∷ [])
  -- `[T; x.0.1]` keeps its tokens, `[T;]` is refused
  pub array : Leaves false (group del.Bracket (inside (T ∷ alone 59 ∷ ident (codes "x") ∷ alone 46 ∷ literal (codes "0.1") ∷ [])) ∷ []) []
  pub array_alone : Refuses false (group del.Bracket (inside (T ∷ alone 59 ∷ [])) ∷ [])
  -- a token that is left in a group
  pub left_inside : Refuses false (group del.Bracket (inside (T ∷ A ∷ [])) ∷ [])
  -- `&'a mut T`
  pub reference : Leaves false (alone 38 ∷ joint 39 ∷ ident (codes "a") ∷ ident (codes "mut") ∷ T ∷ []) []
  -- `A(B) -> T`
  pub parenthesized : Leaves false (A ∷ group del.Parenthesis (inside (B ∷ [])) ∷ joint 45 ∷ gt ∷ T ∷ []) []
  -- `self<B>`, `self(B)`: such a word takes no arguments
  pub no_arguments : Leaves false (ident (codes "self") ∷ lt ∷ B ∷ gt ∷ []) (lt ∷ B ∷ gt ∷ [])
  pub no_inputs : Leaves false (ident (codes "self") ∷ group del.Parenthesis (inside (B ∷ [])) ∷ []) (group del.Parenthesis (inside (B ∷ [])) ∷ [])
  -- `extern "C" fn()`, `extern fn()`, `extern 1 fn()`
  pub abi : Leaves false (ident (codes "extern") ∷ literal (34 ∷ 67 ∷ 34 ∷ []) ∷ ident (codes "fn") ∷ group del.Parenthesis (inside []) ∷ []) []
  pub no_abi : Leaves false (ident (codes "extern") ∷ ident (codes "fn") ∷ group del.Parenthesis (inside []) ∷ []) []
  pub number_abi : Refuses false (ident (codes "extern") ∷ literal (codes "1") ∷ ident (codes "fn") ∷ group del.Parenthesis (inside []) ∷ [])
  -- `A!` without a group, `A != B`, `A<B>!`
  pub macro_alone : Refuses false (A ∷ alone 33 ∷ [])
  pub not_equal : Leaves false (A ∷ joint 33 ∷ alone 61 ∷ B ∷ []) (joint 33 ∷ alone 61 ∷ B ∷ [])
  pub macro_arguments : Leaves false (A ∷ lt ∷ B ∷ gt ∷ alone 33 ∷ []) (alone 33 ∷ [])
  -- a reserved word is no type
  pub reserved : Refuses false (ident (codes "let") ∷ [])

-- ---- arguments between `<` and `>`

abbrev pub type_named : List ℕ → TypeTree
type_named w = t.path t.no_qself false (t.more_segments w t.no_arguments t.no_segments) false

abbrev pub IsGeneric : List Tok → GenericTree → List Tok → Type 0
IsGeneric l g rest = (generic type).reads l ≡ Some (g, rest)

pub record GenericSamples : Type 0 where
  -- `A = T`; `A == T` and `A => T`, where the name is a type and no associated type begins
  pub assoc : IsGeneric (A ∷ alone 61 ∷ T ∷ []) (t.an_assoc (codes "A") (type_named (codes "T"))) []
  pub equal : IsGeneric (A ∷ joint 61 ∷ alone 61 ∷ T ∷ []) (t.a_type (type_named (codes "A"))) (joint 61 ∷ alone 61 ∷ T ∷ [])
  pub fat_arrow : IsGeneric (A ∷ joint 61 ∷ gt ∷ T ∷ []) (t.a_type (type_named (codes "A"))) (joint 61 ∷ gt ∷ T ∷ [])
  -- `-1`, the sign alone or joined to what follows: its tokens are the same
  pub negative : IsGeneric (alone 45 ∷ literal (codes "1") ∷ []) (t.a_const (alone 45 ∷ literal (codes "1") ∷ [])) []
  pub joined : IsGeneric (joint 45 ∷ literal (codes "1") ∷ []) (t.a_const (alone 45 ∷ literal (codes "1") ∷ [])) []

-- ---- the value of an index (Rust Reference, "Integer literals", "Tuple index")

pub record IndexSamples : Type 0 where
  -- in each base
  pub decimal : index_of (codes "12") ≡ Some 12
  pub hexadecimal : index_of (codes "0x10") ≡ Some 16
  pub digits : index_of (codes "0xfA") ≡ Some 250
  pub octal : index_of (codes "0o17") ≡ Some 15
  pub binary : index_of (codes "0b1_0") ≡ Some 2
  -- the greatest, and one more
  pub greatest : index_of (codes "4294967295") ≡ Some 4294967295
  pub beyond : index_of (codes "4294967296") ≡ None
  -- with a suffix; a digit that the base doesn't have; a float
  pub suffix : index_of (codes "0u8") ≡ None
  pub no_digit : index_of (codes "0b2") ≡ None
  pub float : index_of (codes "0.1") ≡ None

pub record PatternSamples : Type 0 where
  -- `x`, `x::A`, `x!` without a group, `x..`, `x @ _`
  pub name : LeavesPat false (ident (codes "x") ∷ []) []
  pub path : LeavesPat false (ident (codes "x") ∷ joint 58 ∷ alone 58 ∷ A ∷ []) []
  pub macro_alone : RefusesPat false (ident (codes "x") ∷ alone 33 ∷ [])
  pub open_range : LeavesPat false (ident (codes "x") ∷ joint 46 ∷ alone 46 ∷ []) []
  pub sub : LeavesPat false (ident (codes "x") ∷ alone 64 ∷ ident (codes "_") ∷ []) []
  -- `..=` wants an end, `..` alone is a rest
  pub closed : RefusesPat false (joint 46 ∷ joint 46 ∷ alone 61 ∷ [])
  pub rest : LeavesPat false (joint 46 ∷ alone 46 ∷ []) []
  -- `-1..=5`, `- x`
  pub signed : LeavesPat false (alone 45 ∷ literal (codes "1") ∷ joint 46 ∷ joint 46 ∷ alone 61 ∷ literal (codes "5") ∷ []) []
  pub minus : RefusesPat false (alone 45 ∷ ident (codes "x") ∷ [])
  -- `A | B`, in a place for alternatives and in one for a single pattern; `A || B`
  pub alternatives : LeavesPat true (A ∷ alone 124 ∷ B ∷ []) []
  pub single : LeavesPat false (A ∷ alone 124 ∷ B ∷ []) (alone 124 ∷ B ∷ [])
  pub or_or : LeavesPat true (A ∷ joint 124 ∷ alone 124 ∷ B ∷ []) (joint 124 ∷ alone 124 ∷ B ∷ [])
  -- `A { x, .. }`, `A { x .. }`, `A { .., }`
  pub fields : LeavesPat false (A ∷ group del.Brace (inside (ident (codes "x") ∷ alone 44 ∷ joint 46 ∷ alone 46 ∷ [])) ∷ []) []
  pub no_comma : RefusesPat false (A ∷ group del.Brace (inside (ident (codes "x") ∷ joint 46 ∷ alone 46 ∷ [])) ∷ [])
  pub last_comma : RefusesPat false (A ∷ group del.Brace (inside (joint 46 ∷ alone 46 ∷ alone 44 ∷ [])) ∷ [])
  -- `A { 0x10: x }`, `A { 0u8: x }`
  pub index : LeavesPat false (A ∷ group del.Brace (inside (literal (codes "0x10") ∷ alone 58 ∷ ident (codes "x") ∷ [])) ∷ []) []
  pub suffix : RefusesPat false (A ∷ group del.Brace (inside (literal (codes "0u8") ∷ alone 58 ∷ ident (codes "x") ∷ [])) ∷ [])

-- ---- patterns by their kinds

abbrev pub Is : Bool → List Tok → PatTree → List Tok → Type 0
Is several l z rest = (pattern several).reads l ≡ Some (z, rest)

abbrev pub x : Tok
x = ident (codes "x")

abbrev pub y : Tok
y = ident (codes "y")

-- `..`
abbrev pub dots : List Tok → List Tok
dots l = joint 46 ∷ alone 46 ∷ l

-- `::`
abbrev pub colons : List Tok → List Tok
colons l = joint 58 ∷ alone 58 ∷ l

abbrev pub round : List Tok → Tok
round l = group del.Parenthesis (inside l)

abbrev pub square : List Tok → Tok
square l = group del.Bracket (inside l)

abbrev pub brace : List Tok → Tok
brace l = group del.Brace (inside l)

-- `#[k]`
abbrev pub attribute : List Tok → List Tok
attribute l = alone 35 ∷ square (ident (codes "k") ∷ []) ∷ l

abbrev pub named : List ℕ → PatTree
named w = p.a_binding false false w p.no_sub

abbrev pub number : List ℕ → LitTree
number text = record { kind = kind.Int; text = text }

abbrev pub one_path : Bool → List ℕ → PathTree
one_path leading w = record { leading = leading; segments = record { ident = w; arguments = t.no_arguments } ∷ []; trailing = false }

abbrev pub two_path : List ℕ → List ℕ → PathTree
two_path v w = record { leading = false; segments = record { ident = v; arguments = t.no_arguments } ∷ record { ident = w; arguments = t.no_arguments } ∷ []; trailing = false }

abbrev pub none : p.Pats
none = p.no_pats

pub record PatternKinds : Type 0 where
  -- `_`, `..`
  pub wild : Is false (ident (codes "_") ∷ []) p.wild []
  pub rest : Is false (dots []) p.rest []
  -- `-1`, `true`
  pub negative : Is false (alone 45 ∷ literal (codes "1") ∷ []) (p.a_lit (number (codes "-1"))) []
  pub truth : Is false (ident (codes "true") ∷ []) (p.a_lit (record { kind = kind.Bool; text = codes "true" })) []
  -- `x`, `ref mut x @ 1`
  pub name : Is false (x ∷ []) (named (codes "x")) []
  pub sub : Is false (ident (codes "ref") ∷ ident (codes "mut") ∷ x ∷ alone 64 ∷ literal (codes "1") ∷ []) (p.a_binding true true (codes "x") (p.sub (p.a_lit (number (codes "1"))))) []
  -- `x::A`, `<T>::A`
  pub path : Is false (x ∷ colons (A ∷ [])) (p.a_path t.no_qself (two_path (codes "x") (codes "A"))) []
  pub qualified : Is false (lt ∷ T ∷ gt ∷ colons (A ∷ [])) (p.a_path (t.qself (type_named (codes "T")) 0 false) (one_path true (codes "A"))) []
  -- `x!()`
  pub mac : Is false (x ∷ alone 33 ∷ round [] ∷ []) (p.a_mac (record { path = one_path false (codes "x"); delimiter = del.Parenthesis; tokens = [] })) []
  -- `A { ref x, #[k] y: _ }`, `A { x, .. }`
  pub fields : Is false (A ∷ brace (ident (codes "ref") ∷ x ∷ alone 44 ∷ attribute (y ∷ alone 58 ∷ ident (codes "_") ∷ [])) ∷ [])
      (p.a_struct (one_path false (codes "A")) (p.more_fields [] (p.short true false (codes "x"))
      (p.more_fields (record { inner = false; tokens = ident (codes "k") ∷ [] } ∷ []) (p.full (p.a_name (codes "y")) p.wild) p.no_fields)) false false) []
  pub more_fields : Is false (A ∷ brace (x ∷ alone 44 ∷ dots []) ∷ []) (p.a_struct (one_path false (codes "A")) (p.more_fields [] (p.short false false (codes "x")) p.no_fields) true true) []
  -- `A(x, ..)`
  pub tuple_struct : Is false (A ∷ round (x ∷ alone 44 ∷ dots []) ∷ []) (p.tuple_struct (one_path false (codes "A")) (p.more_pats (named (codes "x")) (p.more_pats p.rest none)) false) []
  -- `()`, `(x,)`, `(..)`, `(x)`
  pub unit : Is false (round [] ∷ []) (p.a_tuple none false) []
  pub one_tuple : Is false (round (x ∷ alone 44 ∷ []) ∷ []) (p.a_tuple (p.more_pats (named (codes "x")) none) true) []
  pub rest_tuple : Is false (round (dots []) ∷ []) (p.a_tuple (p.more_pats p.rest none) false) []
  pub paren : Is false (round (x ∷ []) ∷ []) (p.a_paren (named (codes "x"))) []
  -- `[x, ..]`
  pub slice : Is false (square (x ∷ alone 44 ∷ dots []) ∷ []) (p.a_slice (p.more_pats (named (codes "x")) (p.more_pats p.rest none)) false) []
  -- `&mut x`, `&&x`
  pub reference : Is false (alone 38 ∷ ident (codes "mut") ∷ x ∷ []) (p.a_reference true (named (codes "x"))) []
  pub references : Is false (joint 38 ∷ alone 38 ∷ x ∷ []) (p.a_reference false (p.a_reference false (named (codes "x")))) []
  -- `const {}`
  pub block : Is false (ident (codes "const") ∷ brace [] ∷ []) (p.a_block []) []
  -- `..=5`, `1...2`, `A::B..=T`, `1..`
  pub to : Is false (joint 46 ∷ joint 46 ∷ alone 61 ∷ literal (codes "5") ∷ []) (p.range None true (Some (p.lit_bound (number (codes "5"))))) []
  pub obsolete : Is false (literal (codes "1") ∷ joint 46 ∷ joint 46 ∷ alone 46 ∷ literal (codes "2") ∷ []) (p.range (Some (p.lit_bound (number (codes "1")))) true (Some (p.lit_bound (number (codes "2"))))) []
  pub paths : Is false (A ∷ colons (B ∷ joint 46 ∷ joint 46 ∷ alone 61 ∷ T ∷ []))
      (p.range (Some (p.path_bound t.no_qself (two_path (codes "A") (codes "B")))) true (Some (p.path_bound t.no_qself (one_path false (codes "T"))))) []
  pub from : Is false (literal (codes "1") ∷ dots []) (p.range (Some (p.lit_bound (number (codes "1")))) false None) []
  -- `A | B`, `| A`, `A`, where alternatives may stand
  pub either : Is true (A ∷ alone 124 ∷ B ∷ []) (p.alternatives false (p.more_pats (named (codes "A")) (p.more_pats (named (codes "B")) none)) false) []
  pub leading : Is true (alone 124 ∷ A ∷ []) (p.alternatives true (p.more_pats (named (codes "A")) none) false) []
  pub alone_there : Is true (A ∷ []) (named (codes "A")) []

pub record PatternRests : Type 0 where
  -- `x != y`, `ref x::A`, `<T>::A {}`; `A |= B`
  pub not_equal : LeavesPat false (x ∷ joint 33 ∷ alone 61 ∷ y ∷ []) (joint 33 ∷ alone 61 ∷ y ∷ [])
  pub by_ref : LeavesPat false (ident (codes "ref") ∷ x ∷ colons (A ∷ [])) (colons (A ∷ []))
  pub qualified : LeavesPat false (lt ∷ T ∷ gt ∷ colons (A ∷ brace [] ∷ [])) (brace [] ∷ [])
  pub or_eq : LeavesPat true (A ∷ joint 124 ∷ alone 61 ∷ B ∷ []) (joint 124 ∷ alone 61 ∷ B ∷ [])
  -- `mut self`, `ref self`, `x @`
  pub mut_self : RefusesPat false (ident (codes "mut") ∷ ident (codes "self") ∷ [])
  pub ref_self : RefusesPat false (ident (codes "ref") ∷ ident (codes "self") ∷ [])
  pub at_alone : RefusesPat false (x ∷ alone 64 ∷ [])
  -- `A(x y)`, `(x y)`, `[x y]`
  pub tuple_struct : RefusesPat false (A ∷ round (x ∷ y ∷ []) ∷ [])
  pub tuple : RefusesPat false (round (x ∷ y ∷ []) ∷ [])
  pub slice : RefusesPat false (square (x ∷ y ∷ []) ∷ [])
  -- `&`, `const x`
  pub reference : RefusesPat false (alone 38 ∷ [])
  pub block : RefusesPat false (ident (codes "const") ∷ x ∷ [])
  -- `A { #[k] .. }`, `A { x :: y }`, `A { x:::y }`
  pub attributed_rest : RefusesPat false (A ∷ brace (attribute (dots [])) ∷ [])
  pub field_path : RefusesPat false (A ∷ brace (x ∷ colons (y ∷ [])) ∷ [])
  pub field_colon : LeavesPat false (A ∷ brace (x ∷ joint 58 ∷ colons (y ∷ [])) ∷ []) []
  -- `A | | B`
  pub no_alternative : RefusesPat true (A ∷ alone 124 ∷ alone 124 ∷ B ∷ [])

abbrev pub IsArg : List Tok → PatTree → List Tok → Type 0
IsArg l a rest = closure_arg.reads l ≡ Some (a, rest)

pub record ClosureArgs : Type 0 where
  -- `#[k] x: T`, `x: T`, `#[k] x`, `x | y`, `_:::T`, `#![k] x`
  pub typed : IsArg (attribute (x ∷ alone 58 ∷ T ∷ [])) (p.attributed (record { inner = false; tokens = ident (codes "k") ∷ [] }) [] (p.typed (named (codes "x")) (type_named (codes "T")))) []
  pub typed_alone : IsArg (x ∷ alone 58 ∷ T ∷ []) (p.typed (named (codes "x")) (type_named (codes "T"))) []
  pub attributed : IsArg (attribute (x ∷ [])) (p.attributed (record { inner = false; tokens = ident (codes "k") ∷ [] }) [] (named (codes "x"))) []
  pub bare : IsArg (x ∷ alone 124 ∷ y ∷ []) (named (codes "x")) (alone 124 ∷ y ∷ [])
  pub joined : behind (closure_arg.reads (ident (codes "_") ∷ joint 58 ∷ colons (T ∷ []))) ≡ Some []
  pub inner : behind (closure_arg.reads (alone 35 ∷ alone 33 ∷ square [] ∷ x ∷ [])) ≡ None

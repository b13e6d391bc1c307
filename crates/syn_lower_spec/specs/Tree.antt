-- The lower parts without their places in a text: what contracts see of them, field by field.
use Rattle.std.specs.Prelude.{ℕ, Bool, List, [], ◌∷◌, Option}
use Rattle.syn_lexer.specs.declared.front.Delimiter.{Delimiter}
use Rattle.syn_tokens.specs.Tok.{Tok}
use Rattle.syn_lower_spec.specs.declared.label.LitKind.{LitKind}
use Rattle.syn_lower_spec.specs.Text.{Text}

-- A literal; the text of a signed one begins with `-` (Rust Reference, "Literal expressions").
pub record LitTree : Type 0 where
  pub kind : LitKind
  pub text : Text

-- An attribute: whether it is an inner one, and the tokens in its brackets (Rust Reference, "Attributes").
pub record AttributeTree : Type 0 where
  pub inner : Bool
  pub tokens : List Tok

-- `for` `<` lifetimes `>`: the lifetimes, and whether a comma ends them (Rust Reference, "Higher-ranked trait bounds")
abbrev pub LifetimesTree : Type 0
LifetimesTree = List Text × Bool

-- Types, and the paths in them (Rust Reference, "Types", "Paths"). A list has a type of its own; a `Bool` after a list
-- says whether a separator ends it.
mutual
  pub data TypeTree : Type 0 where
    -- the qualified self, whether `::` comes first, the segments, and whether a `::` ends them
    path : QSelfTree → Bool → Segments → Bool → TypeTree
    -- the path, and a group of tokens
    mac : Bool → Segments → Bool → Delimiter → List Tok → TypeTree
    -- the lifetime, and whether `mut` is there
    reference : Option Text → Bool → TypeTree → TypeTree
    -- `mut` or `const`
    ptr : Bool → TypeTree → TypeTree
    slice : TypeTree → TypeTree
    array : TypeTree → List Tok → TypeTree
    tuple : Types → Bool → TypeTree
    paren : TypeTree → TypeTree
    never : TypeTree
    infer : TypeTree
    -- lifetimes, `unsafe`, `extern` and its string, the arguments, the output
    fn_ptr : Option LifetimesTree → Bool → Option (Option LitTree) → FnArgs → Bool → ReturnTree → TypeTree
    impl_trait : Bounds → Bool → TypeTree
    trait_object : Bounds → Bool → TypeTree

  pub data Types : Type 0 where
    no_types : Types
    more_types : TypeTree → Types → Types

  -- the type, how many segments of the path are inside, and whether `as` is there
  pub data QSelfTree : Type 0 where
    no_qself : QSelfTree
    qself : TypeTree → ℕ → Bool → QSelfTree

  pub data Segments : Type 0 where
    no_segments : Segments
    more_segments : Text → ArgumentsTree → Segments → Segments

  pub data ArgumentsTree : Type 0 where
    no_arguments : ArgumentsTree
    -- whether `::` comes before `<`
    angle : Bool → Generics → Bool → ArgumentsTree
    round : Types → Bool → ReturnTree → ArgumentsTree

  pub data Generics : Type 0 where
    no_generics : Generics
    more_generics : GenericTree → Generics → Generics

  pub data GenericTree : Type 0 where
    a_lifetime : Text → GenericTree
    a_const : List Tok → GenericTree
    an_assoc : Text → TypeTree → GenericTree
    a_type : TypeTree → GenericTree

  pub data ReturnTree : Type 0 where
    default : ReturnTree
    given : TypeTree → ReturnTree

  pub data FnArgs : Type 0 where
    no_args : FnArgs
    more_args : Option Text → TypeTree → FnArgs → FnArgs

  pub data Bounds : Type 0 where
    no_bounds : Bounds
    more_bounds : BoundTree → Bounds → Bounds

  pub data BoundTree : Type 0 where
    outlives : Text → BoundTree
    -- `?`, lifetimes, the path
    a_trait : Bool → Option LifetimesTree → Bool → Segments → Bool → BoundTree

-- ---- the same as lists

pub record SegmentTree : Type 0 where
  pub ident : Text
  pub arguments : ArgumentsTree

pub record PathTree : Type 0 where
  pub leading : Bool
  pub segments : List SegmentTree
  pub trailing : Bool

pub record FnArgTree : Type 0 where
  pub name : Option Text
  pub ty : TypeTree

abbrev pub types : Types → List TypeTree
types no_types = []
types (more_types t ts) = t ∷ types ts

abbrev pub types_of : List TypeTree → Types
types_of [] = no_types
types_of (t ∷ ts) = more_types t (types_of ts)

abbrev pub segments : Segments → List SegmentTree
segments no_segments = []
segments (more_segments w a ss) = record { ident = w; arguments = a } ∷ segments ss

abbrev pub segments_of : List SegmentTree → Segments
segments_of [] = no_segments
segments_of (s ∷ ss) = more_segments s.ident s.arguments (segments_of ss)

abbrev pub generics : Generics → List GenericTree
generics no_generics = []
generics (more_generics g gs) = g ∷ generics gs

abbrev pub generics_of : List GenericTree → Generics
generics_of [] = no_generics
generics_of (g ∷ gs) = more_generics g (generics_of gs)

abbrev pub args : FnArgs → List FnArgTree
args no_args = []
args (more_args n t xs) = record { name = n; ty = t } ∷ args xs

abbrev pub args_of : List FnArgTree → FnArgs
args_of [] = no_args
args_of (x ∷ xs) = more_args x.name x.ty (args_of xs)

abbrev pub bounds : Bounds → List BoundTree
bounds no_bounds = []
bounds (more_bounds b bs) = b ∷ bounds bs

abbrev pub bounds_of : List BoundTree → Bounds
bounds_of [] = no_bounds
bounds_of (b ∷ bs) = more_bounds b (bounds_of bs)

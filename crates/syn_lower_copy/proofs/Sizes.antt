-- How many types are in a part, a type being one of those in it.
use Rattle.std.specs.Prelude.{ℕ, ◌+◌}
use Rattle.syn_lower_spec.specs.Tree as t
use Rattle.syn_lower_spec.specs.Tree.{TypeTree, Types, QSelfTree, Segments, ArgumentsTree, Generics, GenericTree, ReturnTree, FnArgs, Bounds, BoundTree}

abbrev mutual
  pub type_size : TypeTree → ℕ
  type_size (t.path q l ss e) = 1 + (qself_size q + segments_size ss)
  type_size (t.mac l ss e d x) = 1 + segments_size ss
  type_size (t.reference a m x) = 1 + type_size x
  type_size (t.ptr m x) = 1 + type_size x
  type_size (t.slice x) = 1 + type_size x
  type_size (t.array x n) = 1 + type_size x
  type_size (t.tuple xs e) = 1 + types_size xs
  type_size (t.paren x) = 1 + type_size x
  type_size t.never = 1
  type_size t.infer = 1
  type_size (t.fn_ptr f u a xs e o) = 1 + (args_size xs + return_size o)
  type_size (t.impl_trait bs e) = 1 + bounds_size bs
  type_size (t.trait_object bs e) = 1 + bounds_size bs

  pub types_size : Types → ℕ
  types_size t.no_types = 0
  types_size (t.more_types x xs) = type_size x + types_size xs

  pub qself_size : QSelfTree → ℕ
  qself_size t.no_qself = 0
  qself_size (t.qself x n a) = type_size x

  pub segments_size : Segments → ℕ
  segments_size t.no_segments = 0
  segments_size (t.more_segments w a ss) = arguments_size a + segments_size ss

  pub arguments_size : ArgumentsTree → ℕ
  arguments_size t.no_arguments = 0
  arguments_size (t.angle c gs e) = generics_size gs
  arguments_size (t.round xs e o) = types_size xs + return_size o

  pub generics_size : Generics → ℕ
  generics_size t.no_generics = 0
  generics_size (t.more_generics g gs) = generic_size g + generics_size gs

  pub generic_size : GenericTree → ℕ
  generic_size (t.a_lifetime w) = 0
  generic_size (t.a_const x) = 0
  generic_size (t.an_assoc w x) = type_size x
  generic_size (t.a_type x) = type_size x

  pub return_size : ReturnTree → ℕ
  return_size t.default = 0
  return_size (t.given x) = type_size x

  pub args_size : FnArgs → ℕ
  args_size t.no_args = 0
  args_size (t.more_args w x xs) = type_size x + args_size xs

  pub bounds_size : Bounds → ℕ
  bounds_size t.no_bounds = 0
  bounds_size (t.more_bounds b bs) = bound_size b + bounds_size bs

  pub bound_size : BoundTree → ℕ
  bound_size (t.outlives w) = 0
  bound_size (t.a_trait q f l ss e) = segments_size ss

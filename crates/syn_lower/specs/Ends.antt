-- What is at the right end of a type.
use Rattle.std.specs.Prelude.{◌≡◌, ℕ, ◌+◌, ◌<◌, Bool}
use Rattle.syn_lower_spec.specs.Ends.{ends_open}
use Rattle.syn_lower_spec.specs.Tree as t
use Rattle.syn_lower_spec.specs.Tree.{TypeTree, Segments, ArgumentsTree, ReturnTree, Bounds, BoundTree}
use Rattle.syn_lower.specs.View.{type_of}
use Rattle.syn_lower.specs.declared.ends.End.{End}
use Rattle.syn_lower.specs.declared.ends.End.TheVariants as end

-- how many types are there, each at the right end of the one before
abbrev mutual
  pub depth : TypeTree → ℕ
  depth (t.path q l ss e) = segments_depth ss
  depth (t.reference a m x) = 1 + depth x
  depth (t.ptr m x) = 1 + depth x
  depth (t.fn_ptr f u a xs e o) = return_depth o
  depth (t.impl_trait bs e) = bounds_depth bs
  depth (t.trait_object bs e) = bounds_depth bs
  depth _ = 0

  pub segments_depth : Segments → ℕ
  segments_depth t.no_segments = 0
  segments_depth (t.more_segments w a t.no_segments) = arguments_depth a
  segments_depth (t.more_segments w a (t.more_segments v c ss)) = segments_depth (t.more_segments v c ss)

  pub arguments_depth : ArgumentsTree → ℕ
  arguments_depth (t.round xs e o) = return_depth o
  arguments_depth _ = 0

  pub return_depth : ReturnTree → ℕ
  return_depth t.default = 0
  return_depth (t.given x) = 1 + depth x

  pub bounds_depth : Bounds → ℕ
  bounds_depth t.no_bounds = 0
  bounds_depth (t.more_bounds b t.no_bounds) = bound_depth b
  bounds_depth (t.more_bounds b (t.more_bounds c bs)) = bounds_depth (t.more_bounds c bs)

  pub bound_depth : BoundTree → ℕ
  bound_depth (t.outlives w) = 0
  bound_depth (t.a_trait q f l ss e) = segments_depth ss

-- this is what says whether a name without arguments is last, in what has so many types at its end
abbrev pub Tells : End → Bool → ℕ → Type 0
Tells (end.Name b) o n = b ≡ o
Tells (end.Inside x) o n = (ends_open (type_of x.now) ≡ o) × (depth (type_of x.now) < n)

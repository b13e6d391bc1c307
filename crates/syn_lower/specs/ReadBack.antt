-- Parts that are read back, as their laws say it.
use Rattle.std.specs.Prelude.{Option}
use Rattle.syn_lower_spec.specs.Part.{QPathTree}
pub use Rattle.syn_lower_leaves.specs.ReadBack.{PrintsOwn, IsReadBack, IsRead}
use Rattle.syn_lower_types.specs.declared.path.PathOf.{PathOf}
use Rattle.syn_lower_types.specs.declared.path.QSelfOf.{QSelfOf}
use Rattle.syn_lower.specs.View.{qself_or, path_of, type_of}
use Rattle.syn_lower.specs.declared.ty.«Type».{«Type»}

-- a path and the type that it is qualified by, if there is one
abbrev pub qpath_of : Option (QSelfOf «Type») × PathOf «Type» → QPathTree
qpath_of q = (qself_or type_of q.0, path_of type_of q.1)

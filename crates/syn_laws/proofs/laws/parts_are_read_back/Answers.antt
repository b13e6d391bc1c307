use Rattle.std.proofs.Common.{true, false, refl, sym, if◌then◌else◌}
use Rattle.syn_lower_spec.specs.declared.label.PathStyle.TheVariants as style
use Rattle.syn_lower_spec.specs.Part as part
use Rattle.syn_lower_spec.proofs.Whole.{parts_read_back, parts_exact}
use Rattle.syn_lower.specs.View as view
use Rattle.syn_lower_leaves.proofs.Backs.{stands, is_read}
use Rattle.syn_lower_types.proofs.Fitting.{lifetimes_always}
use Rattle.syn_lower_types.proofs.Prints.{generic_print, bound_print}
use Rattle.syn_laws.proofs.OwnTokens.{paths_print, segments_print, macros_print, type_printed, generic_printed, bound_printed}
use Rattle.syn_lower_spec.proofs.Appends.{lifetimes_own-append}
use Rattle.syn_laws.proofs.laws.parts_are_read_back.Goals as goal

pub returns : goal.returns
returns c =
    let back = parts_read_back in
    let exact = parts_exact in
    record {
      types = λ x rest f s. stands (part.type true) _ _ _ rest (type_printed (view.type_of x) _ rest refl) (back.types true (view.type_of x) rest f s);
      one_bound_types = λ x rest f s. is_read (part.type false) (exact.types false) _ _ _ rest (type_printed (view.type_of x) _ rest refl) (back.types false (view.type_of x) rest f s);
      paths = λ x rest f s. stands (part.path part.type style.Type) _ _ _ rest (paths_print x rest) (back.paths style.Type (view.path_of view.type_of x) rest f s);
      bare_paths = λ x rest f s. is_read (part.path part.type style.Mod) (exact.paths style.Mod) _ _ _ rest (paths_print x rest) (back.paths style.Mod (view.path_of view.type_of x) rest f s);
      qualified_paths = λ b q rest f s. is_read (part.qpath part.type (if b then style.Expr else style.Type)) (exact.qualified_paths (if b then style.Expr else style.Type)) _ _ _ rest (type_printed (view.path_with (view.qself_or view.type_of q.0) (view.path_of view.type_of q.1)) _ rest refl) (back.qualified_paths (if b then style.Expr else style.Type) (view.qself_or view.type_of q.0, view.path_of view.type_of q.1) rest f s);
      segments = λ x rest f s. stands (part.segment part.type style.Type) _ _ _ rest (segments_print x rest) (back.path_segments style.Type (view.segment_of view.type_of x) rest f s);
      generic_arguments = λ x rest f s. stands (part.generic part.type) _ _ _ rest (generic_printed (view.generic_of x) _ rest (generic_print view.type_of x)) (back.generic_arguments (view.generic_of x) rest f s);
      bounds = λ x rest f s. stands (part.bound part.type) _ _ _ rest (bound_printed (view.bound_of x) _ rest (bound_print view.type_of x)) (back.trait_bounds (view.bound_of x) rest f s);
      macros = λ x rest f s. stands part.macro _ _ _ rest (macros_print x rest) (back.macros (view.macro_of view.type_of x) rest f);
      bound_lifetimes = λ x rest f s. stands part.lifetimes _ _ _ rest (sym (lifetimes_own-append (view.lifetimes_of x) rest)) (back.bound_lifetimes (view.lifetimes_of x) rest (lifetimes_always x));
    }

use Rattle.std.proofs.Common.{true, sym, ap, ◌∙◌}
use Rattle.syn_lower_spec.specs.declared.label.PathStyle.TheVariants as style
use Rattle.syn_lower_spec.specs.Part as part
use Rattle.syn_lower_spec.proofs.Whole.{parts_read_back}
use Rattle.syn_lower_leaves.proofs.Backs.{stands}
use Rattle.syn_lower_types.specs.View.{type_path_of}
use Rattle.syn_lower.specs.View.{type_of, path_of, qself_or, macro_of}
use Rattle.syn_lower_types.proofs.Fitting.{fits-macro}
use Rattle.syn_lower_types.proofs.Prints.{type_path_print}
use Rattle.syn_laws.proofs.OwnTokens.{type_printed, macros_print}
use Rattle.syn_lower_spec.specs.Part.{is_never, is_infer}
use Rattle.syn_lower_spec.specs.Kind.{is_reference, is_pointer, is_slice, is_array, is_tuple, is_paren, is_fn_pointer, is_impl_trait, is_trait_object}
use Rattle.syn_laws.proofs.KindBacks.{kind_back}
use Rattle.syn_laws.proofs.KindStops.{stops-Slice, stops-Array, stops-Tuple, stops-Paren, stops-Never, stops-Infer, is-Reference, is-Ptr, is-Slice, is-Array, is-Tuple, is-Paren, is-Never, is-Infer, is-FnPtr, is-ImplTrait, is-TraitObject}
use Rattle.syn_lower.proofs.Makes.{type-Macro, type-Never, type-Infer}
use Rattle.syn_lower_spec.specs.Fits.{type_fits}
use Rattle.syn_lower.proofs.Prints.{ty-Reference, ty-Ptr, ty-Slice, ty-Array, ty-Tuple, ty-Paren, ty-Never, ty-Infer, ty-FnPtr, ty-ImplTrait, ty-TraitObject}
use Rattle.syn_laws.proofs.laws.kinds_of_types_are_read_back.Goals as goal

pub returns : goal.returns
returns c = record {
  paths = λ x rest f s. stands (part.qpath part.type style.Type) _ _ _ rest (type_printed (type_path_of type_of x) _ rest (type_path_print type_of x)) (parts_read_back.qualified_paths style.Type (qself_or type_of x.qself, path_of type_of x.path) rest f s);
  macros = λ x rest f s. stands part.macro _ _ _ rest (macros_print x.mac rest) (parts_read_back.macros (macro_of type_of x.mac) rest (sym (fits-macro type_of true x) ∙ (sym (ap (type_fits true) (type-Macro x)) ∙ f)));
  references = λ x rest f s. kind_back is_reference _ _ rest (is-Reference x) (ty-Reference x) f s;
  pointers = λ x rest f s. kind_back is_pointer _ _ rest (is-Ptr x) (ty-Ptr x) f s;
  slices = λ x rest f s. kind_back is_slice _ _ rest (is-Slice x) (ty-Slice x) f (stops-Slice x rest);
  arrays = λ x rest f s. kind_back is_array _ _ rest (is-Array x) (ty-Array x) f (stops-Array x rest);
  tuples = λ x rest f s. kind_back is_tuple _ _ rest (is-Tuple x) (ty-Tuple x) f (stops-Tuple x rest);
  parens = λ x rest f s. kind_back is_paren _ _ rest (is-Paren x) (ty-Paren x) f (stops-Paren x rest);
  nevers = λ x rest f s. kind_back is_never _ _ rest (is-Never x) (ty-Never x) (ap (type_fits true) (type-Never x)) (stops-Never x rest);
  infers = λ x rest f s. kind_back is_infer _ _ rest (is-Infer x) (ty-Infer x) (ap (type_fits true) (type-Infer x)) (stops-Infer x rest);
  fn_pointers = λ x rest f s. kind_back is_fn_pointer _ _ rest (is-FnPtr x) (ty-FnPtr x) f s;
  impl_traits = λ x rest f s. kind_back is_impl_trait _ _ rest (is-ImplTrait x) (ty-ImplTrait x) f s;
  trait_objects = λ x rest f s. kind_back is_trait_object _ _ rest (is-TraitObject x) (ty-TraitObject x) f s;
}

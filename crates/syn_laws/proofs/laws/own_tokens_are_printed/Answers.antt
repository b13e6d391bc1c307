use Rattle.syn_laws.proofs.OwnTokens.{paths_print, segments_print, macros_print, args_print, type_printed, arguments_printed, return_printed, generic_printed, bound_printed}
use Rattle.syn_lower_types.proofs.Prints.{arguments_print, generic_print, parenthesized_print, return_print, bound_print, angle_print, assoc_print, trait_print}
use Rattle.syn_lower.specs.View.{type_of, round_of, angle_of, assoc_of, trait_of}
use Rattle.syn_lower.proofs.Prints.{ty-Path, ty-FnPtr, ty-Macro, ty-Reference, ty-Ptr, ty-Slice, ty-Array, ty-Tuple, ty-Paren, ty-Never, ty-Infer, ty-ImplTrait, ty-TraitObject}
use Rattle.syn_laws.proofs.laws.own_tokens_are_printed.Goals as goal

pub returns : goal.returns
returns c = record {
  paths = paths_print;
  segments = segments_print;
  path_arguments = λ x rest. arguments_printed _ _ rest (arguments_print type_of x);
  generic_arguments = λ x rest. generic_printed _ _ rest (generic_print type_of x);
  parenthesized = λ x rest. arguments_printed (round_of x) _ rest (parenthesized_print type_of x);
  outputs = λ x rest. return_printed _ _ rest (return_print type_of x);
  bounds = λ x rest. bound_printed _ _ rest (bound_print type_of x);
  angle_bracketed = λ x rest. arguments_printed (angle_of type_of x) _ rest (angle_print type_of x);
  associated_types = λ x rest. generic_printed (assoc_of type_of x) _ rest (assoc_print type_of x);
  macros = macros_print;
  trait_bounds = λ x rest. bound_printed (trait_of type_of x) _ rest (trait_print type_of x);
  fn_args = args_print;
  type_paths = λ x rest. type_printed _ _ rest (ty-Path x);
  fn_pointers = λ x rest. type_printed _ _ rest (ty-FnPtr x);
  macro_types = λ x rest. type_printed _ _ rest (ty-Macro x);
  references = λ x rest. type_printed _ _ rest (ty-Reference x);
  pointers = λ x rest. type_printed _ _ rest (ty-Ptr x);
  slices = λ x rest. type_printed _ _ rest (ty-Slice x);
  arrays = λ x rest. type_printed _ _ rest (ty-Array x);
  tuples = λ x rest. type_printed _ _ rest (ty-Tuple x);
  parens = λ x rest. type_printed _ _ rest (ty-Paren x);
  nevers = λ x rest. type_printed _ _ rest (ty-Never x);
  infers = λ x rest. type_printed _ _ rest (ty-Infer x);
  impl_traits = λ x rest. type_printed _ _ rest (ty-ImplTrait x);
  trait_objects = λ x rest. type_printed _ _ rest (ty-TraitObject x);
}

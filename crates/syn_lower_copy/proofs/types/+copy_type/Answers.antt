use Rattle.std.proofs.Common.{ap, arith, rules, ◌∙◌}
use Rattle.syn_lower.specs.View.{type_of}
use Rattle.syn_lower.proofs.Makes.{type-Path, type-Macro, type-Tuple, type-FnPtr, type-ImplTrait, type-TraitObject}
use Rattle.syn_lower_copy.proofs.Smaller.{in_path, in_macro, in_tuple, in_fn_ptr, in_impl_trait, in_trait_object}
use Rattle.syn_lower_copy.proofs.types.+copy_type.Goals as goal

pub copy_type_path-requires-clause-takes : goal.copy_type_path-requires-clause-takes
copy_type_path-requires-clause-takes t c = in_path type_of _ (type_of c.args.x.now) (λ x less borrowed is. search (rules, less, is, c.decreases, arith)) c.in-Path.x (ap type_of c.in-Path.is ∙ type-Path c.in-Path.x)

pub copy_type_macro-requires-clause-takes : goal.copy_type_macro-requires-clause-takes
copy_type_macro-requires-clause-takes t c = in_macro type_of _ (type_of c.args.x.now) (λ x less borrowed is. search (rules, less, is, c.decreases, arith)) c.in-Macro.x (ap type_of c.in-Macro.is ∙ type-Macro c.in-Macro.x)

pub copy_tuple-requires-clause-takes : goal.copy_tuple-requires-clause-takes
copy_tuple-requires-clause-takes t c = in_tuple type_of _ (type_of c.args.x.now) (λ x less borrowed is. search (rules, less, is, c.decreases, arith)) c.in-Tuple.x (ap type_of c.in-Tuple.is ∙ type-Tuple c.in-Tuple.x)

pub copy_fn_ptr-requires-clause-takes : goal.copy_fn_ptr-requires-clause-takes
copy_fn_ptr-requires-clause-takes t c = in_fn_ptr type_of _ (type_of c.args.x.now) (λ x less borrowed is. search (rules, less, is, c.decreases, arith)) c.in-FnPtr.x (ap type_of c.in-FnPtr.is ∙ type-FnPtr c.in-FnPtr.x)

pub copy_impl_trait-requires-clause-takes : goal.copy_impl_trait-requires-clause-takes
copy_impl_trait-requires-clause-takes t c = in_impl_trait type_of _ (type_of c.args.x.now) (λ x less borrowed is. search (rules, less, is, c.decreases, arith)) c.in-ImplTrait.x (ap type_of c.in-ImplTrait.is ∙ type-ImplTrait c.in-ImplTrait.x)

pub copy_trait_object-requires-clause-takes : goal.copy_trait_object-requires-clause-takes
copy_trait_object-requires-clause-takes t c = in_trait_object type_of _ (type_of c.args.x.now) (λ x less borrowed is. search (rules, less, is, c.decreases, arith)) c.in-TraitObject.x (ap type_of c.in-TraitObject.is ∙ type-TraitObject c.in-TraitObject.x)

use Rattle.std.proofs.Common.{true, sym, ◌∙◌}
use Rattle.syn_lower_spec.specs.Part as part
use Rattle.syn_lower_spec.proofs.Whole.{parts_read_back}
use Rattle.syn_lower_types.specs.View.{name_and_type}
use Rattle.syn_lower.specs.View as view
use Rattle.syn_lower_leaves.proofs.Backs.{stands}
use Rattle.syn_laws.proofs.KindBacks.{returns_print, mutabilities_print, angle_fits-is, angles_print, round_fits-is, assoc_fits-is, assocs_print, trait_fits-is, trait_stops-is, traits_print}
use Rattle.syn_laws.proofs.OwnTokens.{arguments_printed, args_print}
use Rattle.syn_lower_types.proofs.Prints.{parenthesized_print}
use Rattle.syn_lower_spec.proofs.Appends.{extern_append}
use Rattle.syn_laws.proofs.laws.pieces_are_read_back.Goals as goal

pub returns : goal.returns
returns c =
    let back = parts_read_back in
    record {
      outputs = λ x rest f s. stands (part.output part.type true) _ _ _ rest (returns_print x rest) (back.outputs true (view.return_of x) rest f s);
      angle_bracketed = λ x rest f s. stands (part.angle_bracketed part.type) _ _ _ rest (angles_print x rest) (back.angle_bracketed (view.angle_of view.type_of x) rest (sym (angle_fits-is x) ∙ f));
      parenthesized = λ x rest f s. stands (part.parenthesized part.type) _ _ _ rest (arguments_printed (view.round_of x) _ rest (parenthesized_print view.type_of x)) (back.parenthesized (view.round_of x) rest (sym (round_fits-is x) ∙ f) s);
      associated_types = λ x rest f s. stands (part.assoc part.type) _ _ _ rest (assocs_print x rest) (back.associated_types (name_and_type view.type_of x) rest (sym (assoc_fits-is x) ∙ f) s);
      mutabilities = λ x rest f s. stands part.mutability _ _ _ rest (mutabilities_print x rest) (back.mutabilities (view.is_mut x) rest);
      abis = λ x rest f s. stands part.abi _ _ _ rest (sym (extern_append (view.abi_of x) rest)) (back.abis (view.abi_of x) rest f s);
      fn_args = λ x rest f s. stands (part.fn_arg part.type) _ _ _ rest (args_print x rest) (back.fn_args (view.arg_of view.type_of x) rest f s);
      trait_bounds = λ x rest f s. stands (part.trait_bound part.type) (view.trait_of view.type_of x) _ _ rest (traits_print x rest) (back.traits (view.trait_of view.type_of x) rest (sym (trait_fits-is x) ∙ f) (sym (trait_stops-is x rest) ∙ s));
    }

-- What reading and printing compute with. A row that is computed names this definition in place of the list.
use Rattle.std.proofs.Common.{Bool, true}
use Rattle.syn_expr_spec.specs.Front as m0
use Rattle.syn_expr_spec.specs.Head as m1
use Rattle.syn_expr_spec.specs.Summaries as m2
use Rattle.syn_expr_spec.specs.Op as m3
use Rattle.syn_expr_spec.specs.Read as m4
use Rattle.syn_expr_spec.specs.Slot as m5
use Rattle.syn_expr_spec.specs.Stands as m6
use Rattle.syn_expr_spec.specs.WellFormed as m7
use Rattle.syn_lower_spec.specs.Ends as m8
use Rattle.syn_lower_spec.specs.Fits as m9
use Rattle.syn_lower_spec.specs.Form as m10
use Rattle.syn_lower_spec.specs.Kind as m11
use Rattle.syn_lower_spec.specs.Mark as m12
use Rattle.syn_lower_spec.specs.Own as m13
use Rattle.syn_lower_spec.specs.Part as m14
use Rattle.syn_lower_spec.specs.Pat as m15
use Rattle.syn_lower_spec.specs.PatOwn as m16
use Rattle.syn_lower_spec.specs.Same as m17
use Rattle.syn_lower_spec.specs.Text as m18
use Rattle.syn_tokens.specs.Floats as m19
use Rattle.syn_tokens.specs.Front as m20
use Rattle.syn_tokens.specs.Lex as m21
use Rattle.syn_tokens.specs.Sign as m22
use Rattle.syn_tokens.specs.Tok as m23
use Rattle.syn_lexer.specs.Keywords as m24
use Rattle.syn_lexer.specs.Lex as m25
use Rattle.syn_expr_spec.specs.Path as m26
use Rattle.syn_expr_spec.proofs.HeadForms.{leaf_tests}

unfoldable pub computing : Bool
unfolding m0.bracket_at m0.dot_at m0.question_at m0.trailer_at m0.sign_begins m0.begins_expr m0.ends_open_range m0.left_arrow_at m0.three_dots_at m1.jump_head m1.jump_at m1.range_op m1.range_at m1.all_left m1.body_inside m1.body leaf_tests m1.builtin m1.named m1.leaf_form m1.closure_inputs m1.closure_head m1.closure_at m1.raw_at m1.prefix_form m1.method_at m1.dotted m2.set_of m2.has m3.infix_at m3.goes_on m4.leaf_read m4.stop m4.taken_at m1.leaf_at m4.prefix_at m4.loop_head_at m4.operands m4.bare_operands m4.content m4.round_read m4.bracket_read m4.named_read m4.prefix_read m4.loop_read m4.group_read m4.atom m4.trailed m4.trail m4.core m4.operand m4.longer m4.climb m4.at_place m4.bounded m4.expr m5.piece_form m5.ending_at m6.closes m6.ends m6.ends_operation m6.fits_left m6.leaf_stands m6.prefix_stands m6.infix_stands m6.postfix_stands m6.fits_base m6.indices_at m6.name_at m6.trailer_head m6.fields_head m6.frame_stands m6.frame_ends m7.is_well_formed m8.ends_types m8.ends_patterns m9.lit_fits m10.iterate m10.fix m10.tail m10.listed m10.more m10.gathered m10.gathered_more m11.of_kind m11.type_of_kind m12.sign_at m12.word_at m12.lifetime_at m12.round_at m12.brace_at m13.lit_own m13.attribute_own m13.block_own m13.lifetimes_own m14.name m14.segment_name m14.lifetime m14.unsigned m14.lit m14.string m14.string_at m14.verbatim m14.any_group m14.rest_of m14.outer_body m14.inner_body m14.attribute m14.outer_attributes m14.inner_attributes m14.block m14.no_arguments m14.constant_tokens m14.const_at m14.assoc_at m14.angle_at m14.turbofish_at m14.lifetimes m14.lifetimes_at m14.arg_name m14.arg_name_at m14.fn_at m14.fn_head m14.macro_end m14.output m14.generic m14.angle m14.angle_bracketed m14.parenthesized m14.arguments m14.segment m14.pieces m14.path m14.qualified m14.qpath m14.bound m14.bounds m14.reference m14.pointer m14.slice_or_array m14.tuple_or_paren m14.fn_arg m14.fn_pointer m14.implements m14.object m14.named m14.at_place m14.type m14.macro m15.index_of m15.member m15.bound_at m15.range_bound m15.limits m15.range_end m15.binding_at m15.full_at m15.reference_pat m15.round_pat m15.slice_pat m15.binding m15.field m15.struct_inside m15.path_end m15.path_pat m15.single m15.multi m15.at_width m15.pattern m15.closure_arg m16.index_text m17.same_toks m17.same_lit m17.same_group m18.stands_alone m18.is_segment m18.is_truth m18.is_float_text m18.is_number m18.kind_of m19.split_floats m19.remember_floats m19.join_floats m20.group_at m21.pieces m22.sign_text m22.word_text m23.weight m24.is_reserved_word m25.single_kind m25.token m25.reading m25.front m26.invisible_at m26.expr_path
computing = true

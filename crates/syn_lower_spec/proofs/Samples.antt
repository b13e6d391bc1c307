-- The samples are computed.
use Rattle.std.proofs.Common.{Bool, true}
use Rattle.syn_lexer.specs.Keywords.{is_reserved_word}
use Rattle.syn_tokens.specs.Tok.{weight}
use Rattle.syn_tokens.specs.Front.{group_at}
use Rattle.syn_lower_spec.specs.Form.{iterate, fix, tail, listed, more}
use Rattle.syn_lower_spec.specs.Mark.{sign_at, word_at, lifetime_at, round_at, brace_at}
use Rattle.syn_lower_spec.specs.Text.{stands_alone, is_segment, is_truth, is_float_text, is_number, kind_of}
use Rattle.syn_lower_spec.specs.Part as p
use Rattle.syn_lower_spec.specs.Pat as q
use Rattle.syn_lower_spec.specs.Samples.{TypeSamples, PatternSamples, PatternKinds, PatternRests, ClosureArgs, GenericSamples, IndexSamples}

-- what a sample computes with
computing : Bool
unfolding is_reserved_word weight group_at iterate fix tail listed more sign_at word_at lifetime_at round_at brace_at stands_alone is_segment is_truth is_float_text is_number kind_of p.name p.segment_name p.lifetime p.unsigned p.lit p.string p.string_at p.verbatim p.any_group p.rest_of p.outer_body p.inner_body p.attribute p.outer_attributes p.inner_attributes p.block p.no_arguments p.constant_tokens p.const_at p.assoc_at p.angle_at p.turbofish_at p.lifetimes p.lifetimes_at p.arg_name p.arg_name_at p.fn_at p.fn_head p.macro_end p.output p.generic p.angle p.angle_bracketed p.parenthesized p.arguments p.segment p.pieces p.path p.qualified p.qpath p.bound p.bounds p.reference p.pointer p.slice_or_array p.tuple_or_paren p.fn_arg p.fn_pointer p.implements p.object p.named p.at_place p.type p.macro q.index_of q.member q.bound_at q.range_bound q.limits q.range_end q.binding_at q.full_at q.reference_pat q.round_pat q.slice_pat q.binding q.field q.struct_inside q.path_end q.path_pat q.single q.multi q.at_width q.pattern q.closure_arg
computing = true

pub type_samples : TypeSamples
unfolding computing
type_samples = search

pub pattern_samples : PatternSamples
unfolding computing
pattern_samples = search

pub pattern_kinds : PatternKinds
unfolding computing
pattern_kinds = search

pub pattern_rests : PatternRests
unfolding computing
pattern_rests = search

pub closure_args : ClosureArgs
unfolding computing
closure_args = search

pub generic_samples : GenericSamples
unfolding computing
generic_samples = search

pub index_samples : IndexSamples
unfolding computing
index_samples = search

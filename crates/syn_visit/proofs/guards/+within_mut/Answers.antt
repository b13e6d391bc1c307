use Rattle.std.proofs.Common.{refl, sym, ap, ◌∙◌}
use Rattle.syn_expr_core.specs.View.{guard_of, pat_of, pat_ident_of, pat_or_of, pat_paren_of, pat_reference_of, pat_slice_of, pat_struct_of, pat_tuple_of, pat_tuple_struct_of, pat_type_of}
use Rattle.syn_expr_core.specs.declared.pat.Pat.TheVariants as pt
use Rattle.syn_expr_core.proofs.TreeOf as of
use Rattle.syn_visit_kinds.proofs.Pats.{guards_changed}
use Rattle.syn_visit.proofs.Left.{bare_in, guards_same, pat_changed, passes_guards}
use Rattle.syn_visit.proofs.guards.+within_mut.Goals as goal

pub returns-in-Const : goal.returns-in-Const
returns-in-Const g t c = bare_in _ (ap pat_of c.in-Const.is ∙ of.pat-Const c.in-Const.field-0) refl

pub returns-in-Guard : goal.returns-in-Guard
returns-in-Guard g t c = rw (c.in-Guard.is, pt.outs-Guard c.in-Guard.x) (guards_same (of.pat-Guard c.in-Guard.x ∙ sym (ap guard_of c.in-Guard.x-is)) (of.pat-Guard c.guarded_mut.new.x) (c.guarded_mut.ensures (passes_guards (λ d x b y. g.F.Fn.post d.call.now (x, tt) (b, (y, tt))) (λ old with b new met. met))))

pub returns-in-Ident : goal.returns-in-Ident
returns-in-Ident g t c = rw (c.in-Ident.is, pt.outs-Ident c.in-Ident.x) (guards_same (of.pat-Ident c.in-Ident.x ∙ sym (ap (pat_ident_of pat_of) c.in-Ident.x-is)) (of.pat-Ident c.ident_mut.new.x) (guards_changed c.ident_mut.ensures (pat_changed (λ d x b y. g.F.Fn.post d.call.now (x, tt) (b, (y, tt))) (λ old with b new met. met))))

pub returns-in-Lit : goal.returns-in-Lit
returns-in-Lit g t c = bare_in _ (ap pat_of c.in-Lit.is ∙ of.pat-Lit c.in-Lit.field-0) refl

pub returns-in-Macro : goal.returns-in-Macro
returns-in-Macro g t c = bare_in _ (ap pat_of c.in-Macro.is ∙ of.pat-Macro c.in-Macro.field-0) refl

pub returns-in-Or : goal.returns-in-Or
returns-in-Or g t c = rw (c.in-Or.is, pt.outs-Or c.in-Or.x) (guards_same (of.pat-Or c.in-Or.x ∙ sym (ap (pat_or_of pat_of) c.in-Or.x-is)) (of.pat-Or c.or_mut.new.x) (guards_changed c.or_mut.ensures (pat_changed (λ d x b y. g.F.Fn.post d.call.now (x, tt) (b, (y, tt))) (λ old with b new met. met))))

pub returns-in-Paren : goal.returns-in-Paren
returns-in-Paren g t c = rw (c.in-Paren.is, pt.outs-Paren c.in-Paren.x) (guards_same (of.pat-Paren c.in-Paren.x ∙ sym (ap (pat_paren_of pat_of) c.in-Paren.x-is)) (of.pat-Paren c.paren_mut.new.x) (guards_changed c.paren_mut.ensures (pat_changed (λ d x b y. g.F.Fn.post d.call.now (x, tt) (b, (y, tt))) (λ old with b new met. met))))

pub returns-in-Path : goal.returns-in-Path
returns-in-Path g t c = bare_in _ (ap pat_of c.in-Path.is ∙ of.pat-Path c.in-Path.field-0) refl

pub returns-in-Range : goal.returns-in-Range
returns-in-Range g t c = bare_in _ (ap pat_of c.in-Range.is ∙ of.pat-Range c.in-Range.field-0) refl

pub returns-in-Reference : goal.returns-in-Reference
returns-in-Reference g t c = rw (c.in-Reference.is, pt.outs-Reference c.in-Reference.x) (guards_same (of.pat-Reference c.in-Reference.x ∙ sym (ap (pat_reference_of pat_of) c.in-Reference.x-is)) (of.pat-Reference c.reference_mut.new.x) (guards_changed c.reference_mut.ensures (pat_changed (λ d x b y. g.F.Fn.post d.call.now (x, tt) (b, (y, tt))) (λ old with b new met. met))))

pub returns-in-Rest : goal.returns-in-Rest
returns-in-Rest g t c = bare_in _ (ap pat_of c.in-Rest.is ∙ of.pat-Rest c.in-Rest.field-0) refl

pub returns-in-Slice : goal.returns-in-Slice
returns-in-Slice g t c = rw (c.in-Slice.is, pt.outs-Slice c.in-Slice.x) (guards_same (of.pat-Slice c.in-Slice.x ∙ sym (ap (pat_slice_of pat_of) c.in-Slice.x-is)) (of.pat-Slice c.slice_mut.new.x) (guards_changed c.slice_mut.ensures (pat_changed (λ d x b y. g.F.Fn.post d.call.now (x, tt) (b, (y, tt))) (λ old with b new met. met))))

pub returns-in-Struct : goal.returns-in-Struct
returns-in-Struct g t c = rw (c.in-Struct.is, pt.outs-Struct c.in-Struct.x) (guards_same (of.pat-Struct c.in-Struct.x ∙ sym (ap (pat_struct_of pat_of) c.in-Struct.x-is)) (of.pat-Struct c.struct_pat_mut.new.x) (guards_changed c.struct_pat_mut.ensures (pat_changed (λ d x b y. g.F.Fn.post d.call.now (x, tt) (b, (y, tt))) (λ old with b new met. met))))

pub returns-in-Tuple : goal.returns-in-Tuple
returns-in-Tuple g t c = rw (c.in-Tuple.is, pt.outs-Tuple c.in-Tuple.x) (guards_same (of.pat-Tuple c.in-Tuple.x ∙ sym (ap (pat_tuple_of pat_of) c.in-Tuple.x-is)) (of.pat-Tuple c.tuple_mut.new.x) (guards_changed c.tuple_mut.ensures (pat_changed (λ d x b y. g.F.Fn.post d.call.now (x, tt) (b, (y, tt))) (λ old with b new met. met))))

pub returns-in-TupleStruct : goal.returns-in-TupleStruct
returns-in-TupleStruct g t c = rw (c.in-TupleStruct.is, pt.outs-TupleStruct c.in-TupleStruct.x) (guards_same (of.pat-TupleStruct c.in-TupleStruct.x ∙ sym (ap (pat_tuple_struct_of pat_of) c.in-TupleStruct.x-is)) (of.pat-TupleStruct c.tuple_struct_mut.new.x) (guards_changed c.tuple_struct_mut.ensures (pat_changed (λ d x b y. g.F.Fn.post d.call.now (x, tt) (b, (y, tt))) (λ old with b new met. met))))

pub returns-in-Typed : goal.returns-in-Typed
returns-in-Typed g t c = rw (c.in-Typed.is, pt.outs-Typed c.in-Typed.x) (guards_same (of.pat-Typed c.in-Typed.x ∙ sym (ap (pat_type_of pat_of) c.in-Typed.x-is)) (of.pat-Typed c.typed_mut.new.x) (guards_changed c.typed_mut.ensures (pat_changed (λ d x b y. g.F.Fn.post d.call.now (x, tt) (b, (y, tt))) (λ old with b new met. met))))

pub returns-in-Wild : goal.returns-in-Wild
returns-in-Wild g t c = bare_in _ (ap pat_of c.in-Wild.is ∙ of.pat-Wild c.in-Wild.field-0) refl

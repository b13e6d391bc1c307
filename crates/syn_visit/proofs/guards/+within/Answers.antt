-- In each arm the guards are those of the patterns in what was matched.
use Rattle.std.proofs.Common.{[], ◌∷◌, ap, ◌∙◌}
use Rattle.syn_expr_core.specs.View.{pat_of, tree_of}
use Rattle.syn_expr_core.specs.declared.pat.PatGuard.{out-PatGuard}
use Rattle.syn_expr_core.proofs.TreeOf as of
use Rattle.syn_visit_kinds.specs.Walk.{ended}
use Rattle.syn_visit_kinds.proofs.Walk.{walk_one}
use Rattle.syn_visit.proofs.Seen.{at_case, fields_walk, guard_are, many_walk, parts_stop, parts_walk, pattern_seen, shown_as, sub_walk}
use Rattle.syn_visit.proofs.guards.+within.Goals as goal

pub returns-in-Const : goal.returns-in-Const
returns-in-Const g t c = at_case _ (ap pat_of c.in-Const.is ∙ of.pat-Const c.in-Const.field-0) ended

pub returns-in_err-inner-in-Guard : goal.returns-in_err-inner-in-Guard
returns-in_err-inner-in-Guard g t c = at_case _ (ap pat_of c.in-Guard.is ∙ of.pat-Guard c.in-Guard.x) (parts_stop (tree_of (out-PatGuard c.in-Guard.x).guard.value ∷ []) _ (guard_are c.in-Guard.x) c.from_residual.ensures (pattern_seen c.in_err-inner-in-Guard.ensures (λ d x s b t. g.F.Fn.post d.call.now (x, (s, tt)) (b, (t, tt))) (λ one with old b new met. met)))

pub returns-in_ok-inner-in-Guard : goal.returns-in_ok-inner-in-Guard
returns-in_ok-inner-in-Guard g t c = at_case _ (ap pat_of c.in-Guard.is ∙ of.pat-Guard c.in-Guard.x) (parts_walk (guard_are c.in-Guard.x) (pattern_seen c.in_ok-inner-in-Guard.ensures (λ d x s b t. g.F.Fn.post d.call.now (x, (s, tt)) (b, (t, tt))) (λ one with old b new met. met)) (walk_one _ (shown_as (out-PatGuard c.in-Guard.x).guard.value c.one.ensures)))

pub returns-in-Ident : goal.returns-in-Ident
returns-in-Ident g t c = at_case _ (ap pat_of c.in-Ident.is ∙ of.pat-Ident c.in-Ident.x) (sub_walk c.in-Ident.x.subpat c.sub_pattern.ensures (λ y a b t h. pattern_seen h (λ d x s b t. g.F.Fn.post d.call.now (x, (s, tt)) (b, (t, tt))) (λ one with old b new met. met)))

pub returns-in-Lit : goal.returns-in-Lit
returns-in-Lit g t c = at_case _ (ap pat_of c.in-Lit.is ∙ of.pat-Lit c.in-Lit.field-0) ended

pub returns-in-Macro : goal.returns-in-Macro
returns-in-Macro g t c = at_case _ (ap pat_of c.in-Macro.is ∙ of.pat-Macro c.in-Macro.field-0) ended

pub returns-in-Or : goal.returns-in-Or
returns-in-Or g t c = at_case _ (ap pat_of c.in-Or.is ∙ of.pat-Or c.in-Or.x) (many_walk c.punctuated_with.ensures (λ y a b t h. pattern_seen h (λ d x s b t. g.F.Fn.post d.call.now (x, (s, tt)) (b, (t, tt))) (λ one with old b new met. met)))

pub returns-in-Paren : goal.returns-in-Paren
returns-in-Paren g t c = at_case _ (ap pat_of c.in-Paren.is ∙ of.pat-Paren c.in-Paren.x) (pattern_seen c.inner-in-Paren.ensures (λ d x s b t. g.F.Fn.post d.call.now (x, (s, tt)) (b, (t, tt))) (λ one with old b new met. met))

pub returns-in-Path : goal.returns-in-Path
returns-in-Path g t c = at_case _ (ap pat_of c.in-Path.is ∙ of.pat-Path c.in-Path.field-0) ended

pub returns-in-Range : goal.returns-in-Range
returns-in-Range g t c = at_case _ (ap pat_of c.in-Range.is ∙ of.pat-Range c.in-Range.field-0) ended

pub returns-in-Reference : goal.returns-in-Reference
returns-in-Reference g t c = at_case _ (ap pat_of c.in-Reference.is ∙ of.pat-Reference c.in-Reference.x) (pattern_seen c.inner-in-Reference.ensures (λ d x s b t. g.F.Fn.post d.call.now (x, (s, tt)) (b, (t, tt))) (λ one with old b new met. met))

pub returns-in-Rest : goal.returns-in-Rest
returns-in-Rest g t c = at_case _ (ap pat_of c.in-Rest.is ∙ of.pat-Rest c.in-Rest.field-0) ended

pub returns-in-Slice : goal.returns-in-Slice
returns-in-Slice g t c = at_case _ (ap pat_of c.in-Slice.is ∙ of.pat-Slice c.in-Slice.x) (many_walk c.punctuated_with-in-Slice.ensures (λ y a b t h. pattern_seen h (λ d x s b t. g.F.Fn.post d.call.now (x, (s, tt)) (b, (t, tt))) (λ one with old b new met. met)))

pub returns-in-Struct : goal.returns-in-Struct
returns-in-Struct g t c = at_case _ (ap pat_of c.in-Struct.is ∙ of.pat-Struct c.in-Struct.x) (fields_walk c.struct_pat.ensures (λ y a b t h. pattern_seen h (λ d x s b t. g.F.Fn.post d.call.now (x, (s, tt)) (b, (t, tt))) (λ one with old b new met. met)))

pub returns-in-Tuple : goal.returns-in-Tuple
returns-in-Tuple g t c = at_case _ (ap pat_of c.in-Tuple.is ∙ of.pat-Tuple c.in-Tuple.x) (many_walk c.punctuated_with-in-Tuple.ensures (λ y a b t h. pattern_seen h (λ d x s b t. g.F.Fn.post d.call.now (x, (s, tt)) (b, (t, tt))) (λ one with old b new met. met)))

pub returns-in-TupleStruct : goal.returns-in-TupleStruct
returns-in-TupleStruct g t c = at_case _ (ap pat_of c.in-TupleStruct.is ∙ of.pat-TupleStruct c.in-TupleStruct.x) (many_walk c.punctuated_with-in-TupleStruct.ensures (λ y a b t h. pattern_seen h (λ d x s b t. g.F.Fn.post d.call.now (x, (s, tt)) (b, (t, tt))) (λ one with old b new met. met)))

pub returns-in-Typed : goal.returns-in-Typed
returns-in-Typed g t c = at_case _ (ap pat_of c.in-Typed.is ∙ of.pat-Typed c.in-Typed.x) (pattern_seen c.inner-in-Typed.ensures (λ d x s b t. g.F.Fn.post d.call.now (x, (s, tt)) (b, (t, tt))) (λ one with old b new met. met))

pub returns-in-Wild : goal.returns-in-Wild
returns-in-Wild g t c = at_case _ (ap pat_of c.in-Wild.is ∙ of.pat-Wild c.in-Wild.field-0) ended

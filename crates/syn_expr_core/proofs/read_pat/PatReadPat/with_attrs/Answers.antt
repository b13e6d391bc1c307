use Rattle.std.proofs.Common.{◌∙◌, ap, refl}
use Rattle.syn_expr_core.specs.View.{pat_of}
use Rattle.syn_expr_core.proofs.TreeOf.{pat-Ident, pat-Or, pat-Paren, pat-Reference, pat-Slice, pat-Struct, pat-Tuple, pat-TupleStruct, pat-Typed}
use Rattle.syn_expr_core.proofs.ReadPat.{reattributed}
use Rattle.syn_expr_core.proofs.read_pat.PatReadPat.with_attrs.Goals as goal

pub returns-in-Ident : goal.returns-in-Ident
returns-in-Ident c = reattributed c.in-Ident.x.attrs c.args.attrs _ _ _ _ (ap pat_of c.in-Ident.is ∙ pat-Ident c.in-Ident.x) (pat-Ident _) refl

pub returns-in-Or : goal.returns-in-Or
returns-in-Or c = reattributed c.in-Or.x.attrs c.args.attrs _ _ _ _ (ap pat_of c.in-Or.is ∙ pat-Or c.in-Or.x) (pat-Or _) refl

pub returns-in-Paren : goal.returns-in-Paren
returns-in-Paren c = reattributed c.in-Paren.x.attrs c.args.attrs _ _ _ _ (ap pat_of c.in-Paren.is ∙ pat-Paren c.in-Paren.x) (pat-Paren _) refl

pub returns-in-Reference : goal.returns-in-Reference
returns-in-Reference c = reattributed c.in-Reference.x.attrs c.args.attrs _ _ _ _ (ap pat_of c.in-Reference.is ∙ pat-Reference c.in-Reference.x) (pat-Reference _) refl

pub returns-in-Slice : goal.returns-in-Slice
returns-in-Slice c = reattributed c.in-Slice.x.attrs c.args.attrs _ _ _ _ (ap pat_of c.in-Slice.is ∙ pat-Slice c.in-Slice.x) (pat-Slice _) refl

pub returns-in-Struct : goal.returns-in-Struct
returns-in-Struct c = reattributed c.in-Struct.x.attrs c.args.attrs _ _ _ _ (ap pat_of c.in-Struct.is ∙ pat-Struct c.in-Struct.x) (pat-Struct _) refl

pub returns-in-Tuple : goal.returns-in-Tuple
returns-in-Tuple c = reattributed c.in-Tuple.x.attrs c.args.attrs _ _ _ _ (ap pat_of c.in-Tuple.is ∙ pat-Tuple c.in-Tuple.x) (pat-Tuple _) refl

pub returns-in-TupleStruct : goal.returns-in-TupleStruct
returns-in-TupleStruct c = reattributed c.in-TupleStruct.x.attrs c.args.attrs _ _ _ _ (ap pat_of c.in-TupleStruct.is ∙ pat-TupleStruct c.in-TupleStruct.x) (pat-TupleStruct _) refl

pub returns-in-Typed : goal.returns-in-Typed
returns-in-Typed c = reattributed c.in-Typed.x.attrs c.args.attrs _ _ _ _ (ap pat_of c.in-Typed.is ∙ pat-Typed c.in-Typed.x) (pat-Typed _) refl

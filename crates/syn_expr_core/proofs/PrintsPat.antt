-- What is printed of each kind of pattern is its tree's own tokens.
use Rattle.std.proofs.Common.{◌≡◌, List, [], ◌++◌, ◌∙◌, ap}
use Rattle.syn_tokens.specs.Tok.{Tok}
use Rattle.syn_lower_spec.specs.PatOwn.{pat_own}
use Rattle.syn_pat.specs.Printed.{attributes_printed, const_printed, ident_printed, lit_printed, pat_macro_printed, or_printed, paren_printed, pat_path_printed, range_printed, reference_printed, rest_printed, slice_printed, struct_printed, tuple_printed, tuple_struct_printed, typed_printed, wild_printed}
use Rattle.syn_pat.proofs.Prints.{guard_print, const_print, ident_print, lit_print, pat_macro_print, or_print, paren_print, pat_path_print, range_print, reference_print, rest_print, slice_print, struct_print, tuple_print, tuple_struct_print, typed_print, wild_print}
use Rattle.syn_pat.specs.declared.pat.PatConst.{PatConst}
use Rattle.syn_pat.specs.declared.pat.PatIdentOf.{PatIdentOf}
use Rattle.syn_pat.specs.declared.pat.PatLit.{PatLit}
use Rattle.syn_pat.specs.declared.pat.PatMacro.{PatMacro}
use Rattle.syn_pat.specs.declared.pat.PatOrOf.{PatOrOf}
use Rattle.syn_pat.specs.declared.pat.PatParenOf.{PatParenOf}
use Rattle.syn_pat.specs.declared.pat.PatPath.{PatPath}
use Rattle.syn_pat.specs.declared.pat.PatRange.{PatRange}
use Rattle.syn_pat.specs.declared.pat.PatReferenceOf.{PatReferenceOf}
use Rattle.syn_pat.specs.declared.pat.PatRest.{PatRest}
use Rattle.syn_pat.specs.declared.pat.PatSliceOf.{PatSliceOf}
use Rattle.syn_pat.specs.declared.pat.PatStructOf.{PatStructOf}
use Rattle.syn_pat.specs.declared.pat.PatTupleOf.{PatTupleOf}
use Rattle.syn_pat.specs.declared.pat.PatTupleStructOf.{PatTupleStructOf}
use Rattle.syn_pat.specs.declared.pat.PatTypeOf.{PatTypeOf}
use Rattle.syn_pat.specs.declared.pat.PatWild.{PatWild}
use Rattle.syn_expr_core.specs.declared.pat.Pat.{Pat}
use Rattle.syn_expr_core.specs.declared.pat.Pat.TheVariants as pt
use Rattle.syn_expr_core.specs.declared.pat.PatGuard.{PatGuard, out-PatGuard}
use Rattle.syn_expr_core.specs.View.{tree_of, pat_of}
use Rattle.syn_expr_core.proofs.TreeOf.{guard-is, pat-Guard, pat-Const, pat-Ident, pat-Lit, pat-Macro, pat-Or, pat-Paren, pat-Path, pat-Range, pat-Reference, pat-Rest, pat-Slice, pat-Struct, pat-Tuple, pat-TupleStruct, pat-Typed, pat-Wild}

abbrev pub pat_toks : Pat → List Tok
pat_toks x = pat_own (pat_of x).tree []

pub print-Const : (x : PatConst) → pat_toks (pt.Const x) ≡ const_printed x
print-Const x = rw (pat-Const x) (const_print x)

pub print-Ident : (x : PatIdentOf Pat) → pat_toks (pt.Ident x) ≡ ident_printed pat_toks x
print-Ident x = rw (pat-Ident x) (ident_print pat_of x)

pub print-Lit : (x : PatLit) → pat_toks (pt.Lit x) ≡ lit_printed x
print-Lit x = rw (pat-Lit x) (lit_print x)

pub print-Macro : (x : PatMacro) → pat_toks (pt.Macro x) ≡ pat_macro_printed x
print-Macro x = rw (pat-Macro x) (pat_macro_print x)

pub print-Or : (x : PatOrOf Pat) → pat_toks (pt.Or x) ≡ or_printed pat_toks x
print-Or x = rw (pat-Or x) (or_print pat_of x)

pub print-Paren : (x : PatParenOf Pat) → pat_toks (pt.Paren x) ≡ paren_printed pat_toks x
print-Paren x = rw (pat-Paren x) (paren_print pat_of x)

pub print-Path : (x : PatPath) → pat_toks (pt.Path x) ≡ pat_path_printed x
print-Path x = rw (pat-Path x) (pat_path_print x)

pub print-Range : (x : PatRange) → pat_toks (pt.Range x) ≡ range_printed x
print-Range x = rw (pat-Range x) (range_print x)

pub print-Reference : (x : PatReferenceOf Pat) → pat_toks (pt.Reference x) ≡ reference_printed pat_toks x
print-Reference x = rw (pat-Reference x) (reference_print pat_of x)

pub print-Rest : (x : PatRest) → pat_toks (pt.Rest x) ≡ rest_printed x
print-Rest x = rw (pat-Rest x) (rest_print x)

pub print-Slice : (x : PatSliceOf Pat) → pat_toks (pt.Slice x) ≡ slice_printed pat_toks x
print-Slice x = rw (pat-Slice x) (slice_print pat_of x)

pub print-Struct : (x : PatStructOf Pat) → pat_toks (pt.Struct x) ≡ struct_printed pat_toks x
print-Struct x = rw (pat-Struct x) (struct_print pat_of x)

pub print-Tuple : (x : PatTupleOf Pat) → pat_toks (pt.Tuple x) ≡ tuple_printed pat_toks x
print-Tuple x = rw (pat-Tuple x) (tuple_print pat_of x)

pub print-TupleStruct : (x : PatTupleStructOf Pat) → pat_toks (pt.TupleStruct x) ≡ tuple_struct_printed pat_toks x
print-TupleStruct x = rw (pat-TupleStruct x) (tuple_struct_print pat_of x)

pub print-Typed : (x : PatTypeOf Pat) → pat_toks (pt.Typed x) ≡ typed_printed pat_toks x
print-Typed x = rw (pat-Typed x) (typed_print pat_of x)

pub print-Wild : (x : PatWild) → pat_toks (pt.Wild x) ≡ wild_printed x
print-Wild x = rw (pat-Wild x) (wild_print x)

-- without the guard
pub print-Guard : (x : PatGuard) → pat_toks (pt.Guard x) ≡ attributes_printed (out-PatGuard x).attrs ++ pat_toks (out-PatGuard x).pat.value
print-Guard x = ap (λ v. pat_own v.tree []) (pat-Guard x ∙ guard-is x) ∙ guard_print (out-PatGuard x).attrs (pat_of (out-PatGuard x).pat.value) (tree_of (out-PatGuard x).guard.value)

pub ruleset kinds = (print-Const, print-Ident, print-Lit, print-Macro, print-Or, print-Paren, print-Path, print-Range, print-Reference, print-Rest, print-Slice, print-Struct, print-Tuple, print-TupleStruct, print-Typed, print-Wild, print-Guard)

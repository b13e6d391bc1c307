-- What is printed of each part is its own tokens, before whatever follows.
use Rattle.std.proofs.Common.{◌≡◌, List, [], ◌++◌, sym, ap, ◌∙◌, append_assoc}
use Rattle.syn_tokens.specs.Tok.{Tok}
use Rattle.syn_lower_spec.specs.Own.{path_own, macro_own, segment_own, arg_own, arguments_own, return_own, generic_own, bound_own, type_own}
use Rattle.syn_lower_spec.specs.Tree.{TypeTree, ArgumentsTree, ReturnTree, GenericTree, BoundTree}
use Rattle.syn_lower.specs.View.{path_of, segment_of, macro_of, arg_of, type_of}
use Rattle.syn_lower_types.specs.Printed.{path_printed, segment_printed, macro_printed, arg_printed}
use Rattle.syn_lower_spec.proofs.Appends.{type_append, arguments_append, return_append, generic_append, bound_append}
use Rattle.syn_lower_types.proofs.Prints.{path_print, segment_print, segment_appends, arg_print, arg_appends}
use Rattle.syn_lower.proofs.Prints.{ty_toks}
use Rattle.syn_lower_types.specs.declared.mac.MacroOf.{MacroOf}
use Rattle.syn_lower_types.specs.declared.path.PathOf.{PathOf}
use Rattle.syn_lower_types.specs.declared.path.PathSegmentOf.{PathSegmentOf}
use Rattle.syn_lower.specs.declared.ty.«Type».{«Type»}
use Rattle.syn_lower_types.specs.declared.ty.BareFnArgOf.{BareFnArgOf}

-- by what is printed before nothing
before_rest : {A : Type 0} (own : A → List Tok → List Tok) → ((x : A) (r : List Tok) → own x r ≡ own x [] ++ r) → (x : A) (printed rest : List Tok) → own x [] ≡ printed → printed ++ rest ≡ own x rest
before_rest own h x printed rest e = ap (λ m. m ++ rest) (sym e) ∙ sym (h x rest)

pub type_printed : (x : TypeTree) (printed rest : List Tok) → type_own x [] ≡ printed → printed ++ rest ≡ type_own x rest
type_printed = before_rest type_own type_append

pub arguments_printed : (x : ArgumentsTree) (printed rest : List Tok) → arguments_own x [] ≡ printed → printed ++ rest ≡ arguments_own x rest
arguments_printed = before_rest arguments_own arguments_append

pub return_printed : (x : ReturnTree) (printed rest : List Tok) → return_own x [] ≡ printed → printed ++ rest ≡ return_own x rest
return_printed = before_rest return_own return_append

pub generic_printed : (x : GenericTree) (printed rest : List Tok) → generic_own x [] ≡ printed → printed ++ rest ≡ generic_own x rest
generic_printed = before_rest generic_own generic_append

pub bound_printed : (x : BoundTree) (printed rest : List Tok) → bound_own x [] ≡ printed → printed ++ rest ≡ bound_own x rest
bound_printed = before_rest bound_own bound_append

pub paths_print : (x : PathOf «Type») (rest : List Tok) → path_printed ty_toks x ++ rest ≡ path_own (path_of type_of x) rest
paths_print x rest = sym (path_print type_of x rest)

pub segments_print : (x : PathSegmentOf «Type») (rest : List Tok) → segment_printed ty_toks x ++ rest ≡ segment_own (segment_of type_of x) rest
segments_print x rest = before_rest segment_own segment_appends.before (segment_of type_of x) _ rest (segment_print type_of x)

pub macros_print : (x : MacroOf «Type») (rest : List Tok) → macro_printed ty_toks x ++ rest ≡ macro_own (macro_of type_of x) rest
macros_print x rest = append_assoc (path_printed ty_toks x.path) _ rest ∙ sym (path_print type_of x.path _)

pub args_print : (x : BareFnArgOf «Type») (rest : List Tok) → arg_printed ty_toks x ++ rest ≡ arg_own (arg_of type_of x) rest
args_print x rest = before_rest arg_own arg_appends.before (arg_of type_of x) _ rest (arg_print type_of x)

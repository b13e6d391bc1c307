-- Verbatim tokens after attributes.
use Rattle.std.proofs.Common.{◌≡◌, List, Some, None, ◌++◌, [], refl, sym, ap, ◌∙◌}
use Rattle.std.specs.declared.vec.Vec.{Vec}
use Rattle.std.specs.declared.alloc.Global.{Global}
use Rattle.syn_tokens.specs.Tok.{Tok}
use Rattle.syn_lower_spec.specs.PatOwn.{attributes_own}
use Rattle.syn_lower_leaves.specs.declared.attr.Attribute.{Attribute}
use Rattle.syn_expr_spec.specs.Tree as e
use Rattle.syn_expr_spec.specs.Tree.{leaf, outers}
use Rattle.syn_pat.proofs.Appends.{attributes_append}
use Rattle.syn_expr_ast.specs.Attrs.{attrs_of}
use Rattle.syn_expr_flatten.specs.Flat.{IsFlatBehind}

pub verbatim_behind : (v : Vec Attribute Global) (ts us : List Tok) → us ≡ attributes_own (outers (attrs_of v)) [] ++ ts → IsFlatBehind (Some v) (leaf (e.verbatim ts)) (leaf (e.verbatim us))
unfolding IsFlatBehind
verbatim_behind v ts us h = ap (λ l. leaf (e.verbatim l)) (h ∙ sym (attributes_append (outers (attrs_of v)) ts))

pub verbatim_alone : (ts : List Tok) → IsFlatBehind None (leaf (e.verbatim ts)) (leaf (e.verbatim ts))
unfolding IsFlatBehind
verbatim_alone ts = refl

pub ruleset verbatim = (verbatim_behind, verbatim_alone)

-- The pattern in a field of a struct pattern.
use Rattle.std.proofs.Common.{◌≡◌, refl}
use Rattle.syn_pat.specs.declared.pat.FieldPatKindOf.{FieldPatKindOf}
use Rattle.syn_pat.specs.declared.pat.FieldPatKindOf.TheVariants as field
use Rattle.syn_pat.specs.declared.pat.FullFieldPatOf.{FullFieldPatOf}
use Rattle.syn_expr_copy.specs.Within.{InFieldKind}

pub in_kind : {P : Type 0} (R : P → Type 0) (k : FieldPatKindOf P) → ((p : FullFieldPatOf P) → k ≡ field.Full p → R p.pat.value) → InFieldKind R k
in_kind R (field.Short x) h = tt
in_kind R (field.Full x) h = h x refl

-- What holds of the pattern in a field of a struct pattern.
use Rattle.syn_pat.specs.declared.pat.FieldPatKindOf.{FieldPatKindOf}
use Rattle.syn_pat.specs.declared.pat.FieldPatKindOf.TheVariants as field
use Rattle.syn_pat.specs.declared.pat.FieldPatOf.{FieldPatOf}

abbrev pub InFieldKind : {P : Type 0} → (P → Type 0) → FieldPatKindOf P → Type 0
InFieldKind R (field.Short x) = Unit {0}
InFieldKind R (field.Full x) = R x.pat.value

abbrev pub InField : {P : Type 0} → (P → Type 0) → FieldPatOf P → Type 0
InField R x = InFieldKind R x.kind

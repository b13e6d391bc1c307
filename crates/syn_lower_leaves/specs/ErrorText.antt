-- The texts of refused values of literals.
use Rattle.std.specs.Prelude.{ℕ, List, codes}
use Rattle.syn_lower_leaves.specs.declared.error.LitErrorKind.{LitErrorKind}
use Rattle.syn_lower_leaves.specs.declared.error.LitErrorKind.TheVariants.{OutOfMemory, Malformed, OutOfRange}

abbrev pub lit_error_text : LitErrorKind → List ℕ
lit_error_text OutOfMemory = codes "out of memory"
lit_error_text Malformed = codes "malformed literal"
lit_error_text OutOfRange = codes "literal out of range"

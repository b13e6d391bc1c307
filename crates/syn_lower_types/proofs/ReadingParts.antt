-- Reading on a fork, where a function follows a form that isn't its type's own.
use Rattle.std.proofs.Common.{◌≡◌, ◌+◌, ◌≤◌, List, Some, refl}
use Rattle.syn_tokens.specs.Tok.{Tok, weight}
use Rattle.syn_tokens.specs.Input.{IsTail}
use Rattle.syn_lower_spec.specs.declared.label.PathStyle.TheVariants as style
use Rattle.syn_lower_spec.specs.Tree.{PathTree}
use Rattle.syn_lower_spec.specs.Form.{shown, both, mark}
use Rattle.syn_lower_spec.specs.Mark.{not_ne}
use Rattle.syn_lower_spec.specs.Part.{any_group, to_macro, from_macro, type, path, macro}
use Rattle.syn_lower_spec.proofs.Readable.{path_readable}

pub mod_path_tail : (l n : List Tok) (x : PathTree) → (path type style.Mod).reads l ≡ Some (x, n) → IsTail n l
mod_path_tail l n x h = let r = path_readable style.Mod in r.tail l n x h

pub mod_path_moves : (l n : List Tok) (x : PathTree) → (path type style.Mod).reads l ≡ Some (x, n) → 1 + weight n ≤ weight l
mod_path_moves l n x h = let r = path_readable style.Mod in r.moves l n x h

pub ruleset mod_path_reading = (mod_path_tail, mod_path_moves)

pub macro-is : (l : List Tok) → macro.reads l ≡ (shown to_macro from_macro (both (path type style.Mod) (mark not_ne any_group))).reads l
unfolding macro
macro-is l = refl

pub ruleset macros = (macro-is)

-- What is warned of in an expression (Rust Reference, "Method-call expressions", "Closure expressions", "`return` expressions").
use Rattle.std.specs.Prelude.{◌≡◌, ◌&&◌, ℕ, Bool, false, if◌then◌else◌, List, codes, Option, Some, None}
use Rattle.std.specs.List.{filter_map, list_any}
use Rattle.std.specs.Str.{bytes_eq}
pub use Rattle.syn_expr.specs.Prelude.{behind_attributes, is_closure, is_return}
use Rattle.syn_expr.specs.Prelude.{StandsFor, Text, Tree, method, tail}
use Rattle.syn_visit_kinds.specs.Nodes.{all_nodes}

-- a method call with such a name and such a receiver
abbrev pub is_call : (Text → Tree → Bool) → Tree → Bool
is_call asks (tail x (method name types) arguments) = asks name x
is_call asks _ = false

-- `x.clone()`
abbrev pub is_clone : Tree → Bool
is_clone = behind_attributes (is_call (λ name x. bytes_eq name (codes "clone")))

-- `x.clone().clone()`
abbrev pub is_cloned_twice : Tree → Bool
is_cloned_twice = behind_attributes (is_call (λ name x. bytes_eq name (codes "clone") && is_clone x))

-- a closure with a `return` among its nodes, as `|x| if x { return 1 } else { 2 }`
abbrev pub returns_in_closure : Tree → Bool
returns_in_closure t = behind_attributes is_closure t && list_any (behind_attributes is_return) (all_nodes t)

-- what a warning at a node says
abbrev pub warning_at : Tree → Option (List ℕ)
warning_at t = if is_cloned_twice t then Some (codes "a clone is cloned") else (if returns_in_closure t then Some (codes "there is a `return` in a closure") else None)

-- Some tree stands for the text, and these are the warnings at its nodes, each before those in it, from left to right.
abbrev pub AreWarningsOf : List ℕ → List (List ℕ) → Type 0
AreWarningsOf cs found = (t : Tree) × StandsFor cs t × (found ≡ filter_map warning_at (all_nodes t))

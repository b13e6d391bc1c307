-- The kind of a tree.
use Rattle.std.proofs.Common.{◌≡◌, List, [], ◌∷◌, Option, Some, None, refl}
use Rattle.syn_lower_spec.specs.Tree.{AttributeTree, ReturnTree, default, given}
use Rattle.syn_expr_spec.specs.Tree.{Tree, Jump, ClosureHead, attributed_with}
use Rattle.syn_expr_spec.specs.declared.kinds.Limits.{Limits}
use Rattle.syn_expr_ast.specs.Pats.{closure_by}
use Rattle.syn_expr_ast.specs.View.{jump_with, range_between}
use Rattle.exprs.specs.Kinds.{kind_of, jump_kind}

pub after_attributes : (attrs : List AttributeTree) (t : Tree) → kind_of (attributed_with attrs t) ≡ kind_of t
after_attributes [] t = refl
after_attributes (a ∷ more) t = refl

pub closure_kind : (output : ReturnTree) (head : ClosureHead) (guards : List Tree) (body : Tree) → kind_of (closure_by output head guards body) ≡ 9
closure_kind default head guards body = refl
closure_kind (given ty) head guards body = refl

pub kind_of_jump : (j : Jump) (value : Option Tree) → kind_of (jump_with j value) ≡ jump_kind j
kind_of_jump j None = refl
kind_of_jump j (Some x) = refl

pub kind_of_range : (op : Limits) (start end : Option Tree) → kind_of (range_between op start end) ≡ 26
kind_of_range op None None = refl
kind_of_range op None (Some y) = refl
kind_of_range op (Some x) None = refl
kind_of_range op (Some x) (Some y) = refl

pub ruleset laws = (after_attributes, closure_kind, kind_of_jump, kind_of_range)

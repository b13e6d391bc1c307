-- Operands in places of their own: what is printed of them but for their commas, and how many nodes they are.
use Rattle.std.specs.Prelude.{ℕ, ◌+◌, Bool, true, false, not, ◌||◌, ◌&&◌, codes, List, [], ◌∷◌, ◌++◌, Option, Some, None, is_some}
use Rattle.std.specs.declared.boxed.Box.{Box}
use Rattle.std.specs.declared.alloc.Global.{Global}
use Rattle.syn_tokens.specs.Tok.{Tok, ident}
use Rattle.syn_lower_spec.specs.Form.{is_nil}
use Rattle.syn_lower_spec.specs.Own.{alone, joint, before_if}
use Rattle.syn_lower_spec.specs.PatOwn.{attributes_own, pat_own}
use Rattle.syn_lower_leaves.specs.View.{mapped}
use Rattle.syn_expr_spec.specs.declared.summary.Summary.{Summary}
use Rattle.syn_expr_spec.specs.declared.summary.Sort.{Sort}
use Rattle.syn_expr_spec.specs.declared.summary.Sort.TheVariants as sort
use Rattle.syn_expr_spec.specs.Next.{enclosed, in_arm}
use Rattle.syn_expr_spec.specs.Rule.{is_block_expr_leaf, is_if}
use Rattle.syn_expr_spec.specs.Tree as e
use Rattle.syn_expr_spec.specs.Tree.{Tree, Children, Frame, enclosure, is_block_like, size}
use Rattle.syn_expr_ast.specs.declared.label.NodeKind.{NodeKind}
use Rattle.syn_expr_ast.specs.declared.label.NodeKind.TheVariants as node
use Rattle.syn_expr_ast.specs.declared.label.LeafKind.TheVariants as leaf
use Rattle.syn_expr_ast.specs.Pats.{ArmView}
use Rattle.syn_expr_ast.specs.View.{FieldView}
use Rattle.syn_expr_fixup.specs.Below.{guard_at, field_below}
use Rattle.syn_expr_ast.specs.Printed.{field_spelled, whole}
use Rattle.syn_expr_print.specs.Printing.{piece_spelled}

-- ---- lists with commas

-- after the last operand
abbrev pub comma_if : Bool → List Tok
comma_if b = before_if b (λ l. alone 44 ∷ l) []

abbrev pub option_size : Option Tree → ℕ
option_size None = 0
option_size (Some t) = size t

-- the last element, after which no comma stands, and so the last field
abbrev pub last_spelled : Option Tree → Bool → List Tok
last_spelled None b = []
last_spelled (Some t) b = whole enclosed t ++ comma_if b

abbrev pub last_field_spelled : Option FieldView → Bool → List Tok
last_field_spelled None b = []
last_field_spelled (Some x) b = field_spelled x ++ comma_if b

abbrev pub last_field_below : Option FieldView → List Summary
last_field_below None = []
last_field_below (Some x) = field_below x

abbrev pub last_field_size : Option FieldView → ℕ
last_field_size None = 0
last_field_size (Some x) = size x.value

-- the expression after the fields of a struct expression
abbrev pub rest_spelled : Option Tree → List Tok
rest_spelled None = []
rest_spelled (Some t) = joint 46 ∷ alone 46 ∷ whole enclosed t

-- ---- arms

-- its nodes but for guards that may stand nowhere
abbrev pub arm_size : ArmView → ℕ
arm_size x = option_size (guard_at x) + size x.body

abbrev pub guard_spelled : Option Tree → List Tok
guard_spelled None = []
guard_spelled (Some g) = ident (codes "if") ∷ whole enclosed g

-- up to its comma
abbrev pub arm_spelled : ArmView → List Tok
arm_spelled x = attributes_own x.attrs (pat_own x.pat.tree []) ++ (guard_spelled (guard_at x) ++ (joint 61 ∷ alone 62 ∷ whole in_arm x.body))

-- whether there is one or one is needed, where more arms follow or none
abbrev pub has_comma : ArmView → Bool → Bool
has_comma x more = x.comma || (more && not (is_block_like x.body))

abbrev pub arms_spelled : List ArmView → List Tok
arms_spelled [] = []
arms_spelled (x ∷ xs) = (arm_spelled x ++ comma_if (has_comma x (not (is_nil xs)))) ++ arms_spelled xs

-- ---- after the block of an `if`

abbrev pub else_tree : {E S : Type 0} → (E → Tree) → Option (S × Box E Global) → Option Tree
else_tree f otherwise = mapped (λ q. f q.1.value) otherwise

abbrev pub else_spelled : Option Tree → List Tok
else_spelled None = []
else_spelled (Some t) = ident (codes "else") ∷ piece_spelled e.chained t

-- whether it is a block, after attributes too
abbrev pub is_block : Tree → Bool
is_block (e.leaf k) = is_block_expr_leaf k
is_block (e.attributed a more t) = is_block t
is_block _ = false

-- ---- frames

-- with its guards
abbrev pub is_if_expr : Option (Frame × List Tree) → Bool
is_if_expr None = false
is_if_expr (Some p) = is_if p.0

abbrev pub is_single : {A : Type 0} → List A → Bool
is_single (x ∷ []) = true
is_single _ = false

-- whether there is one operand: a field, or the rest alone
abbrev pub is_one_field : {A : Type 0} → List A → Bool → Bool
is_one_field xs true = is_nil xs
is_one_field xs false = is_single xs

-- whether the last of the operands needs a comma too; `one`: there is one operand
abbrev pub needs_last : Frame → Bool → Bool
needs_last e.tuple one = one
needs_last (e.structure q p dots) one = dots
needs_last _ one = false

-- whether a delimiter encloses the operands, and whether a comma is needed after the last of these
abbrev pub is_enclosed : Option (Frame × List Tree) → Bool
is_enclosed None = false
is_enclosed (Some p) = is_some (enclosure p.0)

abbrev pub needs_comma : Option (Frame × List Tree) → Children → Bool
needs_comma None ks = false
needs_comma (Some p) ks = needs_last p.0 (e.is_one ks)

-- ---- kinds, and what a summary says

abbrev pub is_block_sort : Sort → Bool
is_block_sort sort.Block = true
is_block_sort _ = false

abbrev pub is_block_kind : NodeKind → Bool
is_block_kind (node.Leaf (leaf.Block b)) = true
is_block_kind _ = false

-- The operands of a node are smaller than it.
use Rattle.std.specs.Prelude.{Some}
use Rattle.std.proofs.Common.{◌≡◌, ◌<◌, ◌≤◌, ap, sym, arith}
use Rattle.syn_expr_spec.specs.Tree as e
use Rattle.syn_expr_spec.specs.Tree.{Tree, Children, Piece, Ending, leaf, paren, attributed, prefixed, infixed, postfixed, tail, frame, none, child, size, children_size}
use Rattle.syn_expr_ast.specs.Node.{framed, operands_at, without_strays, operand_children, first_of, second_of, last_of}
use Rattle.syn_expr_ast.proofs.Borrowed.{first-based, second-based, last-based, children-based}

pub first-smaller : (t u : Tree) → first_of (operands_at t) ≡ Some u → size u < size t
first-smaller (leaf k) u h = absurd cc
first-smaller (paren m t) u h = let i : t ≡ u = cc in let s = ap size i in omega arith
first-smaller (attributed a more t) u h = first-smaller t u h
first-smaller (prefixed k gs t) u h = let i : t ≡ u = cc in let s = ap size i in omega arith
first-smaller (infixed x k y) u h = let i : x ≡ u = cc in let s = ap size i in omega arith
first-smaller (postfixed x k) u h = let i : x ≡ u = cc in let s = ap size i in omega arith
first-smaller (tail b k ks) u h = let f = first-based b ks in let i : b ≡ u = cc in let s = ap size i in omega arith
first-smaller (frame k ks) u h = absurd cc

pub second-smaller : (t u : Tree) → second_of (operands_at t) ≡ Some u → size u < size t
second-smaller (leaf k) u h = absurd cc
second-smaller (paren m t) u h = absurd cc
second-smaller (attributed a more t) u h = second-smaller t u h
second-smaller (prefixed k gs t) u h = absurd cc
second-smaller (infixed x k y) u h = let i : y ≡ u = cc in let s = ap size i in omega arith
second-smaller (postfixed x k) u h = absurd cc
second-smaller (tail b k ks) u h = let f = second-based b ks in absurd cc
second-smaller (frame k ks) u h = absurd cc

strays-smaller : (ks : Children) → children_size (without_strays ks) ≤ children_size ks
strays-smaller none = omega arith
strays-smaller (child e.stray c t ks) = let h = strays-smaller ks in omega arith
strays-smaller (child _ c t ks) = omega arith

pub children-smaller : (t : Tree) → children_size (operand_children (operands_at t)) < size t
children-smaller (leaf k) = omega arith
children-smaller (paren m t) = omega arith
children-smaller (attributed a more t) = children-smaller t
children-smaller (prefixed k gs t) = omega arith
children-smaller (infixed x k y) = omega arith
children-smaller (postfixed x k) = omega arith
children-smaller (tail b k ks) = let s = ap children_size (children-based b ks) in omega arith
children-smaller (frame k ks) = let h = strays-smaller ks in omega arith

-- ---- the last one

abbrev LastSmaller : Tree → Children → Type 0
LastSmaller x ks = last_of (framed (without_strays ks)) ≡ Some x → size x ≤ children_size ks

smaller_child : (x : Tree) (k : Piece) (c : Ending) (t : Tree) (ks : Children) → LastSmaller x ks → LastSmaller x (child k c t ks)
smaller_child x e.stray c t ks f h = let q = f h in omega (arith, q)
smaller_child x e.output_block c t ks f h = let q : t ≡ x = cc in rw (sym q) omega arith
smaller_child x e.element c t ks f h = absurd cc
smaller_child x e.value c t ks f h = absurd cc
smaller_child x e.repeated c t ks f h = absurd cc
smaller_child x (e.field_value ats m d) c t ks f h = absurd cc
smaller_child x (e.rest d) c t ks f h = absurd cc
smaller_child x e.condition c t ks f h = absurd cc
smaller_child x e.loop_head c t ks f h = absurd cc
smaller_child x e.scrutinee c t ks f h = absurd cc
smaller_child x e.chained c t ks f h = absurd cc
smaller_child x (e.guard ats p) c t ks f h = absurd cc
smaller_child x e.guarded c t ks f h = absurd cc
smaller_child x (e.arm ats p) c t ks f h = absurd cc
smaller_child x e.grouped c t ks f h = absurd cc

smaller_children : (x : Tree) (ks : Children) → LastSmaller x ks
smaller_children x none h = absurd cc
smaller_children x (child k c t ks) h = smaller_child x k c t ks (λ g. smaller_children x ks g) h

pub last-smaller : (t x : Tree) → last_of (operands_at t) ≡ Some x → size x < size t
last-smaller (leaf k) x h = absurd cc
last-smaller (paren m t) x h = let q : t ≡ x = cc in rw (sym q) omega arith
last-smaller (attributed a more t) x h = last-smaller t x h
last-smaller (prefixed k gs t) x h = let q : t ≡ x = cc in rw (sym q) omega arith
last-smaller (infixed t k u) x h = let q : u ≡ x = cc in rw (sym q) omega arith
last-smaller (postfixed t k) x h = let q : t ≡ x = cc in rw (sym q) omega arith
last-smaller (tail t k ks) x h = let b = last-based t ks in let q : t ≡ x = cc in rw (sym q) omega arith
last-smaller (frame k ks) x h = let q = smaller_children x ks h in omega (arith, q)

pub ruleset smaller = (first-smaller, last-smaller)

-- A list of statements that was read is printed as it is.
use Rattle.std.specs.Prelude.{not, ◌||◌, ◌&&◌}
use Rattle.std.proofs.Common.{◌≡◌, ℕ, Bool, true, false, cond, List, [], ◌∷◌, ◌++◌, drop, Option, Some, None, refl, ap, sym, ◌∙◌, subst}
use Rattle.std.proofs.lemmas.Bool.{and_parts, or_parts, or_from, not-true}
use Rattle.syn_tokens.specs.Tok.{Tok}
use Rattle.syn_tokens.specs.Front.{group_at}
use Rattle.syn_tokens.specs.Input.{IsTail}
use Rattle.syn_lower_spec.specs.Tree.{AttributeTree}
use Rattle.syn_lower_spec.specs.Form.{is_nil}
use Rattle.syn_lower_spec.specs.Mark.{semi, colon}
use Rattle.syn_lower_spec.specs.Part.{MacroTree, macro, block, outer_attributes}
use Rattle.syn_lower_spec.specs.Pat.{PatTree, an_index}
use Rattle.syn_lower_spec.proofs.Forms.{Alike}
use Rattle.syn_lower_spec.proofs.Parts.{outer_attributes_alike, macro_alike, block_alike}
use Rattle.syn_lower_spec.proofs.TailParts.{outer_attributes_leaves, macro_leaves, block_leaves, type_leaves}
use Rattle.syn_lower_spec.proofs.Tails.{Leaves, shown_leaves, both_leaves, maybe_leaves, mark_leaves, tail_then, nothing_taken}
use Rattle.syn_lower_spec.proofs.Weights.{some_is}
use Rattle.syn_expr_spec.specs.declared.kinds.Place.{Place}
use Rattle.syn_expr_spec.specs.Place.{at_head}
use Rattle.syn_expr_spec.specs.Front.{dot_at, question_at, trailer_at, bracket_at}
use Rattle.syn_lower_spec.specs.Mark as marks
use Rattle.syn_expr_spec.specs.Path.{invisible_at}
use Rattle.syn_expr_spec.specs.Head.{leaf_form}
use Rattle.syn_expr_spec.specs.Tree as e
use Rattle.syn_expr_spec.specs.Tree.{Tree, Leaf, leaf, attributed, tail, none}
use Rattle.syn_expr_spec.specs.Stands.{Node, is_leaf, is_attributed_by, is_indexed, fields_of, carries, holds_block, closes}
use Rattle.syn_expr_spec.specs.Rule.{is_brace_delimiter}
use Rattle.syn_expr_spec.proofs.Fronts.{flag_is}
use Rattle.syn_expr_spec.proofs.HeadMoves.{dropped}
use Rattle.syn_expr_spec.proofs.HeadTails.{pattern_leaves}
use Rattle.syn_expr_spec.proofs.Lesses.{node_less}
use Rattle.syn_stmt_spec.specs.Stmt.{Init, Stmt, empty, local, item, mac, expr, to_let, from_let, let_pattern}
use Rattle.syn_stmt_spec.specs.Spells.{past_semi, is_macro_stmt, macro_stmt_at, SpellsInit, no_init, is_init, is_let_else, SpellsStmt, is_empty_stmt, is_item, is_local, is_macro, is_expr, SpellsStmts, no_stmts, more_stmts}
use Rattle.syn_stmt_spec.specs.Printed.{behind, called, expr_or_macro, complete_stmt, printed_stmt}
use Rattle.syn_stmt_spec.specs.Laws.{none_hidden, stmt_plainly, stmts_plainly, OwnLists}
use Rattle.syn_stmt_spec.proofs.Exact.{begins_parts}
use Rattle.syn_stmt_spec.proofs.Fronts.{called_parts, called_is, called_opens, mac_named}
use Rattle.syn_stmt_spec.proofs.Leads.{dotted, sole_macro, same_behind, none_there, unpounded}
use Rattle.syn_stmt_spec.proofs.Lets.{let_alike}
use Rattle.syn_stmt_spec.proofs.Paths.{path_there}
use Rattle.syn_stmt_spec.proofs.Spelling.{init_own, semi_own, expr_own}

-- ---- no invisible group

hidden_tail : (f n : List Tok) → none_hidden (f ++ n) ≡ true → none_hidden n ≡ true
hidden_tail [] n h = h
hidden_tail (t ∷ f) n h = hidden_tail f n (and_parts (not (invisible_at (t ∷ (f ++ n)))) (none_hidden (f ++ n)) h).1

seen_tail : {l n : List Tok} → IsTail n l → none_hidden l ≡ true → none_hidden n ≡ true
seen_tail {l} {n} t h = hidden_tail t.front n (subst (λ z. none_hidden z ≡ true) t.is h)

nothing_seen : invisible_at [] ≡ false
unfolding invisible_at group_at
nothing_seen = refl

seen_first : (l : List Tok) → none_hidden l ≡ true → invisible_at l ≡ false
seen_first [] h = nothing_seen
seen_first (t ∷ l) h = not-true _ (and_parts (not (invisible_at (t ∷ l))) (none_hidden l) h).0

-- ---- what comes after a statement is a tail

let_leaves : Leaves let_pattern
unfolding let_pattern
let_leaves = shown_leaves to_let from_let (both_leaves (pattern_leaves false) (maybe_leaves colon.at (mark_leaves colon (type_leaves true))))

outer_tail : (ats : List AttributeTree) (l n : List Tok) → outer_attributes.behind ats l ≡ Some n → IsTail n l
outer_tail ats l n h = let a : Alike 0 outer_attributes outer_attributes = outer_attributes_alike in outer_attributes_leaves.leaves l ats n (a.complete l ats n h)

macro_tail : (x : MacroTree) (l n : List Tok) → macro.behind x l ≡ Some n → IsTail n l
macro_tail x l n h = let a : Alike 0 macro macro = macro_alike in macro_leaves.leaves l x n (a.complete l x n h)

block_tail : (ts l n : List Tok) → block.behind ts l ≡ Some n → IsTail n l
block_tail ts l n h = let a : Alike 0 block block = block_alike in block_leaves.leaves l ts n (a.complete l ts n h)

let_tail : (z : PatTree) (l n : List Tok) → let_pattern.behind z l ≡ Some n → IsTail n l
let_tail z l n h = let a : Alike 0 let_pattern let_pattern = let_alike in let_leaves.leaves l z n (a.complete l z n h)

semi_tail : (s : Bool) (l n : List Tok) → past_semi s l ≡ Some n → IsTail n l
semi_tail true l n h = subst (λ z. IsTail z l) (sym (flag_is semi true l n h).1) (dropped 1 l)
semi_tail false l n h = subst (λ z. IsTail z l) (sym (flag_is semi false l n h).1) (nothing_taken l)

init_tail : (l n : List Tok) (i : Option Init) → SpellsInit l i n → IsTail n l
init_tail l n i (no_init a) = nothing_taken l
init_tail l n i (is_init a s g) = tail_then (dropped 1 l) (node_less s.node).tail
init_tail l n i (is_let_else {m = w} {ts = ts} a s c g b) = tail_then (dropped 1 l) (tail_then (node_less s.node).tail (tail_then (dropped 1 w) (block_tail ts (drop 1 w) n b)))

stmt_tail : (l n : List Tok) (s : Stmt) → SpellsStmt l s n → IsTail n l
stmt_tail l n s (is_empty_stmt a) = dropped 1 l
stmt_tail l n s (is_item {n = y} {ts = ts} {ats = ats} a h) = tail_then (outer_tail ats l (ts ++ y) a) (record { front = ts; is = refl })
stmt_tail l n s (is_local {m = w} {h = h} {n = y} {ats = ats} {p = z} {i = i} a q b c d) =
    tail_then (outer_tail ats l w a) (tail_then (dropped 1 w) (tail_then (let_tail z (drop 1 w) h b) (tail_then (init_tail h y i c) (dropped 1 y))))
stmt_tail l n s (is_macro {m = w} {h = h} {n = y} {ats = ats} {x = x} {s = b} a c t p) = tail_then (outer_tail ats l w a) (tail_then (macro_tail x w h c) (semi_tail b h y p))
stmt_tail l n s (is_expr {h = h} {n = y} {s = b} ats a c d p u) = tail_then (node_less d.node).tail (semi_tail b h y p)

-- ---- an expression that is a macro

fields_sole : (is : List ℕ) (b : Tree) (i : ℕ) → sole_macro (fields_of (tail b (e.field (an_index i)) none) is) ≡ None
fields_sole [] b i = refl
fields_sole (j ∷ is) b i = fields_sole is (tail b (e.field (an_index i)) none) j

sole_leaf : (k : Leaf) (l n : List Tok) → leaf_form.behind k l ≡ Some n → (y : MacroTree) → sole_macro (leaf k) ≡ Some y → (ats : List AttributeTree) (w : List Tok) → outer_attributes.behind ats l ≡ Some w
    → invisible_at w ≡ false → macro.reads w ≡ Some (y, n)
sole_leaf (e.mac z) l n f y q ats w a v =
    let c = called_parts z l n (mac_named z l n f) in
    let g = unpounded ats l w (called_opens z l n c).2 a in
    let d = called_is z l n (z.path, c.behind) c (path_there false z.path l c.behind (subst (λ x. invisible_at x ≡ false) (sym g) v) c.bare c.comes) in
    subst (λ x. macro.reads x ≡ Some (y, n)) g (d ∙ ap (λ x. Some (x, n)) (some_is q))
sole_leaf k l n f y q ats w a v = absurd cc

sole_node : {p : Place} {l n : List Tok} {x : Tree} → Node p l x n → (y : MacroTree) → sole_macro x ≡ Some y → (ats : List AttributeTree) (w : List Tok) → outer_attributes.behind ats l ≡ Some w
    → invisible_at w ≡ false → macro.reads w ≡ Some (y, n)
sole_node (is_leaf {l = l} {n = n} {k = k} f g) y q ats w a v = sole_leaf k l n f y q ats w a v
sole_node (is_attributed_by {l = l} {m = z} {n = n} {a = b} {more = bs} f g d) y q ats w a v =
    let h = same_behind (b ∷ bs) ats l z w f a in
    subst (λ x. macro.reads x ≡ Some (y, n)) h (sole_node d y q [] z (none_there (b ∷ bs) l z f) (subst (λ x. invisible_at x ≡ false) (sym h) v))
sole_node (is_indexed {b = b} {i = i} {is = is} d f t g) y q ats w a v = absurd (let r : None ≡ Some y = sym (ap sole_macro g ∙ fields_sole is b i) ∙ q in cc)
sole_node _ y q ats w a v = absurd cc

sole_carries : (x : Tree) (y : MacroTree) → sole_macro x ≡ Some y → (carries x ≡ true) × (holds_block x ≡ false)
sole_carries (leaf (e.mac z)) y h = (refl, refl)
sole_carries (leaf k) y h = absurd cc
sole_carries (attributed a ats x) y h = sole_carries x y h
sole_carries _ y h = absurd cc

no_trailer : (l : List Tok) → trailer_at l ≡ false → dotted l ≡ false
unfolding trailer_at
no_trailer l h =
    let (a, b) = or_parts (marks.round_at l) _ h in
    let (c, d) = or_parts (bracket_at l) _ b in
    let (f, g) = or_parts (question_at l) (dot_at l) d in
    or_from (dot_at l) (question_at l) g f

sole_closes : (x : Tree) (y : MacroTree) (n : List Tok) → sole_macro x ≡ Some y → closes at_head x n ≡ true → dotted n ≡ false
unfolding closes
sole_closes x y n h c = let (a, b) = sole_carries x y h in no_trailer n (not-true (trailer_at n) (rw (a, b) at c))

called_sole : (t : Tree) (z : List AttributeTree × MacroTree) → called t ≡ Some z → sole_macro t ≡ Some z.1
called_sole (leaf (e.mac y)) z h = ap (λ (q : List AttributeTree × MacroTree). Some q.1) (some_is h)
called_sole (leaf k) z h = absurd cc
called_sole (attributed a ats t) z h = go (called t) refl h (λ y f. called_sole t y f)
  where
    go : (o : Option (List AttributeTree × MacroTree)) → called t ≡ o → behind (a ∷ ats) o ≡ Some z → ((y : List AttributeTree × MacroTree) → called t ≡ Some y → sole_macro t ≡ Some y.1) → sole_macro t ≡ Some z.1
    go None f g again = absurd cc
    go (Some y) f g again = again y f ∙ ap (λ (q : List AttributeTree × MacroTree). Some q.1) (some_is g)
called_sole _ z h = absurd cc

-- a macro that was read as an expression stays one
none_ends : (s b d : Bool) → s || (b && not d) ≡ false → d ≡ false → s || b ≡ false
none_ends true b d h f = absurd cc
none_ends false true d h f = absurd (let r : not d ≡ false = h in let q : not d ≡ true = ap not f in cc)
none_ends false false d h f = refl

macro_kept : (l n : List Tok) (t : Tree) (s : Bool) (y : MacroTree) → SpellsStmt l (expr t s) n → none_hidden l ≡ true → sole_macro t ≡ Some y → s || is_brace_delimiter y.delimiter ≡ false
unfolding macro_stmt_at
macro_kept l n t s y (is_expr {m = w} {h = h} {n = o} bts a b c p u) v q =
    let r = sole_node c.node y q bts w a (seen_first w (seen_tail (outer_tail bts l w a) v)) in
    let i = sym (ap is_macro_stmt r) ∙ (begins_parts w b).0 in
    subst (λ z. z || is_brace_delimiter y.delimiter ≡ false) (flag_is semi s h o p).0 (none_ends (semi.at h) (is_brace_delimiter y.delimiter) (dotted h) i (sole_closes t y h q c.closing))

complete_own : (l n : List Tok) (t : Tree) (s : Bool) (ss : List Stmt) → SpellsStmt l (expr t s) n → SpellsStmts n ss → none_hidden l ≡ true → complete_stmt (is_nil ss) (expr t s) ≡ expr t s
complete_own l n t s ss h more v = ap (λ b. expr_or_macro (called t) t b) (semi_own l n t s ss h more) ∙ by_called (called t) refl
  where
    by_called : (o : Option (List AttributeTree × MacroTree)) → called t ≡ o → expr_or_macro o t s ≡ expr t s
    by_called None q = refl
    by_called (Some z) q = ap (λ b. cond b (mac z.0 z.1 s) (expr t s)) (macro_kept l n t s z.1 h v (called_sole t z q))

-- ---- lists

one_own : (l n : List Tok) (s : Stmt) (ss : List Stmt) → SpellsStmt l s n → SpellsStmts n ss → none_hidden l ≡ true → stmt_plainly s ≡ true → printed_stmt (complete_stmt (is_nil ss) s) ≡ s
one_own l n empty ss h more v w = refl
one_own l n (local ats z None) ss h more v w = refl
one_own l n (local ats z (Some i)) ss (is_local {h = h} {n = y} a q b c d) more v w = ap (λ x. local ats z x) (init_own h y i c w)
one_own l n (item ats ts) ss h more v w = refl
one_own l n (mac ats x s) ss h more v w = refl
one_own l n (expr t s) ss h more v w = ap printed_stmt (complete_own l n t s ss h more v) ∙ kept h
  where
    kept : SpellsStmt l (expr t s) n → printed_stmt (expr t s) ≡ expr t s
    kept (is_expr {m = y} bts a b c p u) = expr_own l y n bts t s h a (seen_first y (seen_tail (outer_tail bts l y a) v)) w

same_list : {x y : Stmt} {xs ys : List Stmt} → x ≡ y → xs ≡ ys → ◌≡◌ {A = List Stmt} (x ∷ xs) (y ∷ ys)
same_list p q = cc

pub own_lists : OwnLists
own_lists l ss no_stmts v w = refl
own_lists l ss (more_stmts {n = n} {s = s} {ss = rs} h more) v w =
    let (a, b) = and_parts (stmt_plainly s) (stmts_plainly rs) w in
    same_list (one_own l n s rs h more v a) (own_lists n rs more (seen_tail (stmt_tail l n s h) v) b)

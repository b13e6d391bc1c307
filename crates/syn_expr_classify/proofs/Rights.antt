-- What is last in a node, by its parts.
use Rattle.std.proofs.Common.{◌≡◌, Bool, true, false, ◌&&◌, List, ◌∷◌, Some, None, refl, sym, ap, subst}
use Rattle.syn_lower_spec.specs.Tree.{AttributeTree}
use Rattle.syn_expr_ast.specs.Label.{kind_at}
use Rattle.syn_expr_spec.specs.Query.{leaf_brace, prefix_brace, postfix_brace, return_brace, tree_brace, children_brace}
use Rattle.syn_expr_spec.specs.Tree as e
use Rattle.syn_expr_spec.specs.Tree.{Tree, Children, Body, Piece, Ending, Leaf, Prefix, Postfix, Frame, leaf, paren, attributed, outers, prefixed, infixed, postfixed, tail, frame, none, child}
use Rattle.syn_lower_spec.specs.Form.{is_nil}
use Rattle.syn_expr_ast.specs.Node.{framed, attributes_at, without_strays, operands_at, leaf_at, prefix_at, postfix_at, frame_at, last_of}
use Rattle.syn_expr_classify.specs.Frames.{is_body, is_loop, is_if, is_match, frame_holds, frames_hold}
use Rattle.syn_expr_classify.specs.Node.{is_infixed, asked}
use Rattle.syn_expr_classify.specs.Right.{frame_right, NodeTells}
use Rattle.syn_expr_classify.specs.declared.classify.Right.{Right}
use Rattle.syn_expr_classify.specs.declared.classify.Right.TheVariants as right
use Rattle.syn_expr_classify.specs.Framed.{bare_framed}

-- ---- operands in places of their own

-- the body of a closure with an output
abbrev BodyLast : Bool → Children → Type 0
BodyLast b ks = is_body ks ≡ true → asked (tree_brace b) (last_of (framed (without_strays ks))) ≡ children_brace b ks

body_child : (b : Bool) (k : Piece) (c : Ending) (t : Tree) (ks : Children) → BodyLast b ks → BodyLast b (child k c t ks)
body_child b e.stray e.no_ending t ks f h = f h
body_child b e.stray e.comma t ks f h = absurd cc
body_child b e.stray (e.braced x) t ks f h = absurd cc
body_child b e.stray (e.opened x) t ks f h = absurd cc
body_child b e.output_block e.no_ending t none f h = refl
body_child b e.output_block e.no_ending t (child l d u ks) f h = absurd cc
body_child b e.output_block e.comma t ks f h = absurd cc
body_child b e.output_block (e.braced x) t ks f h = absurd cc
body_child b e.output_block (e.opened x) t ks f h = absurd cc
body_child b e.element c t ks f h = absurd cc
body_child b e.value c t ks f h = absurd cc
body_child b e.repeated c t ks f h = absurd cc
body_child b (e.field_value ats m d) c t ks f h = absurd cc
body_child b (e.rest d) c t ks f h = absurd cc
body_child b e.condition c t ks f h = absurd cc
body_child b e.loop_head c t ks f h = absurd cc
body_child b e.scrutinee c t ks f h = absurd cc
body_child b e.chained c t ks f h = absurd cc
body_child b (e.guard ats p) c t ks f h = absurd cc
body_child b e.guarded c t ks f h = absurd cc
body_child b (e.arm ats p) c t ks f h = absurd cc
body_child b e.grouped c t ks f h = absurd cc

body_last : (b : Bool) (ks : Children) → BodyLast b ks
body_last b none h = absurd cc
body_last b (child k c t ks) h = body_child b k c t ks (λ g. body_last b ks g) h

-- the condition of a loop
abbrev LoopBraces : Bool → Children → Type 0
LoopBraces b ks = is_loop ks ≡ true → true ≡ children_brace b ks

loop_child : (b : Bool) (k : Piece) (c : Ending) (t : Tree) (ks : Children) → LoopBraces b ks → LoopBraces b (child k c t ks)
loop_child b e.stray e.no_ending t ks f h = f h
loop_child b e.stray e.comma t ks f h = absurd cc
loop_child b e.stray (e.braced x) t ks f h = absurd cc
loop_child b e.stray (e.opened x) t ks f h = absurd cc
loop_child b e.loop_head (e.braced x) t none f h = refl
loop_child b e.loop_head (e.braced x) t (child l d u ks) f h = absurd cc
loop_child b e.loop_head e.no_ending t ks f h = absurd cc
loop_child b e.loop_head e.comma t ks f h = absurd cc
loop_child b e.loop_head (e.opened x) t ks f h = absurd cc
loop_child b e.element c t ks f h = absurd cc
loop_child b e.value c t ks f h = absurd cc
loop_child b e.repeated c t ks f h = absurd cc
loop_child b (e.field_value ats m d) c t ks f h = absurd cc
loop_child b (e.rest d) c t ks f h = absurd cc
loop_child b e.condition c t ks f h = absurd cc
loop_child b e.scrutinee c t ks f h = absurd cc
loop_child b e.chained c t ks f h = absurd cc
loop_child b (e.guard ats p) c t ks f h = absurd cc
loop_child b e.guarded c t ks f h = absurd cc
loop_child b (e.arm ats p) c t ks f h = absurd cc
loop_child b e.output_block c t ks f h = absurd cc
loop_child b e.grouped c t ks f h = absurd cc

loop_braces : (b : Bool) (ks : Children) → LoopBraces b ks
loop_braces b none h = absurd cc
loop_braces b (child k c t ks) h = loop_child b k c t ks (λ g. loop_braces b ks g) h

-- what comes after `else`
else_braces : (b : Bool) (y : Body) (t : Tree) (k : Piece) (c : Ending) (u : Tree) (ks : Children) → is_if (child e.condition (e.braced y) t (child k c u ks)) ≡ true → true ≡ children_brace b (child e.condition (e.braced y) t (child k c u ks))
else_braces b y t e.chained e.no_ending u none h = refl
else_braces b y t e.chained e.no_ending u (child l d v ks) h = absurd cc
else_braces b y t e.chained e.comma u ks h = absurd cc
else_braces b y t e.chained (e.braced x) u ks h = absurd cc
else_braces b y t e.chained (e.opened x) u ks h = absurd cc
else_braces b y t e.element c u ks h = absurd cc
else_braces b y t e.value c u ks h = absurd cc
else_braces b y t e.repeated c u ks h = absurd cc
else_braces b y t (e.field_value ats m d) c u ks h = absurd cc
else_braces b y t (e.rest d) c u ks h = absurd cc
else_braces b y t e.condition c u ks h = absurd cc
else_braces b y t e.loop_head c u ks h = absurd cc
else_braces b y t e.scrutinee c u ks h = absurd cc
else_braces b y t (e.guard ats p) c u ks h = absurd cc
else_braces b y t e.guarded c u ks h = absurd cc
else_braces b y t (e.arm ats p) c u ks h = absurd cc
else_braces b y t e.output_block c u ks h = absurd cc
else_braces b y t e.grouped c u ks h = absurd cc
else_braces b y t e.stray c u ks h = absurd cc

if_braces : (b : Bool) (ks : Children) → is_if ks ≡ true → true ≡ children_brace b ks
if_braces b none h = absurd cc
if_braces b (child e.condition (e.braced y) t none) h = refl
if_braces b (child e.condition (e.braced y) t (child k c u ks)) h = else_braces b y t k c u ks h
if_braces b (child e.condition e.no_ending t ks) h = absurd cc
if_braces b (child e.condition e.comma t ks) h = absurd cc
if_braces b (child e.condition (e.opened x) t ks) h = absurd cc
if_braces b (child e.element c t ks) h = absurd cc
if_braces b (child e.value c t ks) h = absurd cc
if_braces b (child e.repeated c t ks) h = absurd cc
if_braces b (child (e.field_value ats m d) c t ks) h = absurd cc
if_braces b (child (e.rest d) c t ks) h = absurd cc
if_braces b (child e.loop_head c t ks) h = absurd cc
if_braces b (child e.scrutinee c t ks) h = absurd cc
if_braces b (child e.chained c t ks) h = absurd cc
if_braces b (child (e.guard ats p) c t ks) h = absurd cc
if_braces b (child e.guarded c t ks) h = absurd cc
if_braces b (child (e.arm ats p) c t ks) h = absurd cc
if_braces b (child e.output_block c t ks) h = absurd cc
if_braces b (child e.grouped c t ks) h = absurd cc
if_braces b (child e.stray c t ks) h = absurd cc

match_braces : (b : Bool) (ks : Children) → is_match ks ≡ true → true ≡ children_brace b ks
match_braces b none h = absurd cc
match_braces b (child e.scrutinee (e.opened x) t ks) h = refl
match_braces b (child e.scrutinee e.no_ending t ks) h = absurd cc
match_braces b (child e.scrutinee e.comma t ks) h = absurd cc
match_braces b (child e.scrutinee (e.braced x) t ks) h = absurd cc
match_braces b (child e.element c t ks) h = absurd cc
match_braces b (child e.value c t ks) h = absurd cc
match_braces b (child e.repeated c t ks) h = absurd cc
match_braces b (child (e.field_value ats m d) c t ks) h = absurd cc
match_braces b (child (e.rest d) c t ks) h = absurd cc
match_braces b (child e.condition c t ks) h = absurd cc
match_braces b (child e.loop_head c t ks) h = absurd cc
match_braces b (child e.chained c t ks) h = absurd cc
match_braces b (child (e.guard ats p) c t ks) h = absurd cc
match_braces b (child e.guarded c t ks) h = absurd cc
match_braces b (child (e.arm ats p) c t ks) h = absurd cc
match_braces b (child e.output_block c t ks) h = absurd cc
match_braces b (child e.grouped c t ks) h = absurd cc
match_braces b (child e.stray c t ks) h = absurd cc

frame_last : (b : Bool) (k : Frame) (ks : Children) → frame_holds k ks ≡ true → NodeTells (frame_right k) b (frame k ks)
frame_last b e.array ks h = refl
frame_last b e.tuple ks h = refl
frame_last b e.repeat ks h = refl
frame_last b (e.structure q p d) ks h = refl
frame_last b (e.closure_block c) ks h = body_last (return_brace c.output) ks h
frame_last b e.if_expr ks h = if_braces false ks h
frame_last b (e.while_loop l) ks h = loop_braces false ks h
frame_last b (e.for_loop l p) ks h = loop_braces false ks h
frame_last b e.match_expr ks h = match_braces false ks h
frame_last b e.group_expr ks h = refl

-- ---- nodes

-- after attributes
tells_attributed : (r : Right) (b : Bool) (a : AttributeTree) (more : List AttributeTree) (t : Tree) → NodeTells r (is_nil (outers (a ∷ more)) && b) t → NodeTells r b (attributed a more t)
tells_attributed (right.Known d) b a more t h = h
tells_attributed (right.Operand d) b a more t h = h

pub right-leaf : (b : Bool) (k : Leaf) (t : Tree) → leaf_at t ≡ Some k → frames_hold t ≡ true → leaf_brace (is_nil (outers (attributes_at t)) && b) k ≡ tree_brace b t
right-leaf b k (leaf l) h g = cc
right-leaf b k (attributed a more (leaf l)) h g = let q : l ≡ k = cc in ap (leaf_brace (is_nil (outers (a ∷ more)) && b)) (sym q)
right-leaf b k (attributed a more (attributed c others t)) h g = absurd cc
right-leaf b k (attributed a more (paren m t)) h g = absurd cc
right-leaf b k (attributed a more (prefixed l gs t)) h g = absurd cc
right-leaf b k (attributed a more (infixed x l y)) h g = absurd cc
right-leaf b k (attributed a more (postfixed x l)) h g = absurd cc
right-leaf b k (attributed a more (tail x l ks)) h g = absurd cc
right-leaf b k (attributed a more (frame l ks)) h g = absurd cc
right-leaf b k (paren m t) h g = absurd cc
right-leaf b k (prefixed l gs t) h g = absurd cc
right-leaf b k (infixed x l y) h g = absurd cc
right-leaf b k (postfixed x l) h g = absurd cc
right-leaf b k (tail x l ks) h g = absurd cc
right-leaf b k (frame l ks) h g = absurd cc

pub right-prefixed : (b : Bool) (k : Prefix × List Tree) (t : Tree) → prefix_at t ≡ Some k → asked (tree_brace (prefix_brace k.0)) (last_of (operands_at t)) ≡ tree_brace b t
right-prefixed b k (leaf l) h = absurd cc
right-prefixed b k (paren m t) h = absurd cc
right-prefixed b k (attributed a more t) h = right-prefixed (is_nil (outers (a ∷ more)) && b) k t h
right-prefixed b k (prefixed l gs t) h = let q : l ≡ k.0 = cc in ap (λ m. tree_brace (prefix_brace m) t) (sym q)
right-prefixed b k (infixed x l y) h = absurd cc
right-prefixed b k (postfixed x l) h = absurd cc
right-prefixed b k (tail x l ks) h = absurd cc
right-prefixed b k (frame l ks) h = absurd cc

pub right-infixed : (b : Bool) (t : Tree) → is_infixed (kind_at t) ≡ true → asked (tree_brace false) (last_of (operands_at t)) ≡ tree_brace b t
right-infixed b (leaf l) h = absurd cc
right-infixed b (paren m t) h = absurd cc
right-infixed b (attributed a more t) h = right-infixed (is_nil (outers (a ∷ more)) && b) t h
right-infixed b (prefixed l gs t) h = absurd cc
right-infixed b (infixed x l y) h = refl
right-infixed b (postfixed x l) h = absurd cc
right-infixed b (tail x l ks) h = absurd cc
right-infixed b (frame l ks) h = absurd cc

pub right-postfixed : (b : Bool) (k : Postfix) (t : Tree) → postfix_at t ≡ Some k → postfix_brace k ≡ tree_brace b t
right-postfixed b k (leaf l) h = absurd cc
right-postfixed b k (paren m t) h = absurd cc
right-postfixed b k (attributed a more t) h = right-postfixed (is_nil (outers (a ∷ more)) && b) k t h
right-postfixed b k (prefixed l gs t) h = absurd cc
right-postfixed b k (infixed x l y) h = absurd cc
right-postfixed b k (postfixed x l) h = cc
right-postfixed b k (tail x l ks) h = absurd cc
right-postfixed b k (frame l ks) h = absurd cc

pub right-frame : (b : Bool) (k : Frame × List Tree) (t : Tree) → frame_at t ≡ Some k → frames_hold t ≡ true → NodeTells (frame_right k.0) b t
right-frame b k (leaf l) h g = absurd cc
right-frame b k (paren m t) h g = absurd cc
right-frame b k (attributed a more t) h g = tells_attributed (frame_right k.0) b a more t (right-frame (is_nil (outers (a ∷ more)) && b) k t h (bare_framed t g))
right-frame b k (prefixed l gs t) h g = absurd cc
right-frame b k (infixed x l y) h g = absurd cc
right-frame b k (postfixed x l) h g = absurd cc
right-frame b k (tail x l ks) h g = absurd cc
right-frame b k (frame l ks) h g = let q : l ≡ k.0 = cc in subst (λ f. NodeTells (frame_right f) b (frame l ks)) q (frame_last b l ks g)

-- parentheses and trailers
pub right-other : (b : Bool) (t : Tree) → leaf_at t ≡ None → prefix_at t ≡ None → postfix_at t ≡ None → frame_at t ≡ None → is_infixed (kind_at t) ≡ false → false ≡ tree_brace b t
right-other b (leaf l) h i j m n = absurd cc
right-other b (paren m t) h i j k n = refl
right-other b (attributed a more t) h i j m n = right-other (is_nil (outers (a ∷ more)) && b) t h i j m n
right-other b (prefixed l gs t) h i j m n = absurd cc
right-other b (infixed x l y) h i j m n = absurd cc
right-other b (postfixed x l) h i j m n = absurd cc
right-other b (tail x l ks) h i j m n = refl
right-other b (frame l ks) h i j m n = absurd cc

pub ruleset rights = (right-prefixed, right-infixed, right-postfixed, right-other)

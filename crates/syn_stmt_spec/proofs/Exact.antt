-- The reading of statements is exact.
use Rattle.std.specs.Prelude.{not, is_some}
use Rattle.std.proofs.Common.{◌≡◌, ℕ, zero, suc, ◌≤◌, ◌<◌, Bool, true, false, cond, List, [], ◌∷◌, ◌++◌, drop, Option, Some, None, refl, ap, sym, ◌∙◌, subst, arith, codes}
use Rattle.std.proofs.lemmas.Bool.{or_parts, not-true}
use Rattle.syn_tokens.specs.Tok.{Tok, weight}
use Rattle.syn_tokens.specs.Input.{IsTail}
use Rattle.syn_lower_spec.specs.Tree.{AttributeTree}
use Rattle.syn_lower_spec.specs.Form.{Outcome, and_then, flag}
use Rattle.syn_lower_spec.specs.Mark.{semi, eq}
use Rattle.syn_lower_spec.specs.Part.{MacroTree, macro, block, outer_attributes}
use Rattle.syn_lower_spec.specs.Pat.{PatTree}
use Rattle.syn_lower_spec.proofs.Forms.{Alike, flag_at_alike}
use Rattle.syn_lower_spec.proofs.Marks.{semi_present, eq_present, word_present}
use Rattle.syn_lower_spec.proofs.Parts.{outer_attributes_alike, macro_alike, block_alike}
use Rattle.syn_lower_spec.proofs.Same.{compares_toks}
use Rattle.syn_lower_spec.specs.Same.{same_toks}
use Rattle.syn_lower_spec.proofs.Takes.{macro_takes}
use Rattle.syn_lower_spec.proofs.Weights.{some_is, one_at_least}
use Rattle.syn_expr_spec.specs.Place.{plain, at_head}
use Rattle.syn_expr_spec.specs.Tree.{Tree}
use Rattle.syn_expr_spec.specs.Head.{let_word}
use Rattle.syn_expr_spec.specs.Slot.{else_word}
use Rattle.syn_expr_spec.specs.Query.{ends_with_brace}
use Rattle.syn_expr_spec.specs.Stands.{Stands}
use Rattle.syn_expr_spec.specs.Read as r
use Rattle.syn_expr_spec.specs.Read.{only_if, taken, is_taken}
use Rattle.syn_expr_spec.proofs.Chains.{then_some, only_some}
use Rattle.syn_expr_spec.proofs.Exact.{expr_sound, expr_complete}
use Rattle.syn_expr_spec.proofs.Fronts.{flag_is}
use Rattle.syn_expr_spec.proofs.HeadMoves.{taken_is, tail_falls}
use Rattle.syn_expr_spec.proofs.Lesses.{node_less}
use Rattle.syn_stmt_spec.specs.declared.kinds.ItemKind.{ItemKind}
use Rattle.syn_stmt_spec.specs.Item.{find_item}
use Rattle.syn_stmt_spec.specs.Stmt.{Init, Stmt, empty, local, item, mac, expr, let_pattern}
use Rattle.syn_stmt_spec.specs.Spells.{past_semi, ends_macro, is_macro_stmt, macro_stmt_at, item_at, expr_begins, may_end, ends_alone, SpellsInit, no_init, is_init, is_let_else, SpellsStmt, is_empty_stmt, is_item, is_local, is_macro, is_expr, SpellsStmts, no_stmts, more_stmts}
use Rattle.syn_stmt_spec.specs.Read.{item_by, item_read, mac_made, mac_behind, mac_read, expr_made, expr_behind, expr_read, init_of, else_made, init_behind, init_read, local_made, local_behind, local_read, stmt_behind, stmt, alone, one_stmt, added, further, stmts_within, stmts}
use Rattle.syn_stmt_spec.specs.Laws.{ReadingIsExact, OneList}
use Rattle.syn_stmt_spec.proofs.Items.{has_last, Ended, item_ended, found_parts}
use Rattle.syn_stmt_spec.proofs.Lets.{let_alike}
use Rattle.syn_stmt_spec.proofs.Begins.{semi_stays, at_semi, macro_no_item, let_no_item}
use Rattle.syn_stmt_spec.proofs.Leads.{no_item}

-- ---- the parts

outer_is : Alike 0 outer_attributes outer_attributes
outer_is = outer_attributes_alike

macro_is : Alike 0 macro macro
macro_is = macro_alike

block_is : Alike 0 block block
block_is = block_alike

let_is : Alike 0 let_pattern let_pattern
let_is = let_alike

semi_is : Alike 0 (flag semi) (flag semi)
semi_is = flag_at_alike semi_present

spelled : {l : List Tok} (p q : Stmt × List Tok) → p ≡ q → SpellsStmt l p.0 p.1 → SpellsStmt l q.0 q.1
spelled {l} p q e s = subst (λ (z : Stmt × List Tok). SpellsStmt l z.0 z.1) e s

-- ---- what is read is spelled

item_sound : (l m n : List Tok) (ats : List AttributeTree) (s : Stmt) → outer_attributes.behind ats l ≡ Some m → item_read ats m ≡ Some (s, n) → SpellsStmt l s n
unfolding item_read
item_sound l m n ats s a h = by_item (find_item m) refl h
  where
    by_item : (o : Outcome ItemKind) → find_item m ≡ o → item_by ats m o ≡ Some (s, n) → SpellsStmt l s n
    by_item None e g = absurd cc
    by_item (Some p) e g =
        let (t, i) = only_some (is_taken m p.1) (Some (item ats (taken m p.1), p.1)) (s, n) g in
        let q : m ≡ taken m p.1 ++ p.1 = sym (compares_toks.equal (taken m p.1 ++ p.1) m t) in
        spelled (item ats (taken m p.1), p.1) (s, n) (some_is i)
        (is_item {ts = taken m p.1} {k = p.0} (a ∙ ap (λ z. Some z) q) (subst (λ z. find_item z ≡ Some (p.0, p.1)) q e))

macro_sound : (l m n : List Tok) (ats : List AttributeTree) (s : Stmt) → outer_attributes.behind ats l ≡ Some m → mac_read ats m ≡ Some (s, n) → SpellsStmt l s n
unfolding mac_read
macro_sound l m n ats s a h =
    let (p, e, j) = then_some (macro.reads m) (mac_behind ats) (s, n) h in
    let (q, d, k) = then_some ((flag semi).reads p.1) (mac_made ats p.0 p.1) (s, n) j in
    let (t, i) = only_some (ends_macro q.0 p.0 p.1) (Some (mac ats p.0 q.0, q.1)) (s, n) k in
    spelled (mac ats p.0 q.0, q.1) (s, n) (some_is i) (is_macro a (macro_is.sound m p.0 p.1 e) t (semi_is.sound p.1 q.0 q.1 d))

init_sound : (l n : List Tok) (i : Option Init) → init_read l ≡ Some (i, n) → SpellsInit l i n
unfolding init_read
init_sound l n i h = by_eq (eq.at l) refl h
  where
    moved : (p q : Option Init × List Tok) → p ≡ q → SpellsInit l p.0 p.1 → SpellsInit l q.0 q.1
    moved p q e s = subst (λ (z : Option Init × List Tok). SpellsInit l z.0 z.1) e s

    by_else : eq.at l ≡ true → (t : Tree) (m : List Tok) → Stands plain (drop 1 l) t m → (b : Bool) → else_word.at m ≡ b
        → cond b (only_if (not (ends_with_brace t)) (and_then (block.reads (drop 1 m)) (else_made t))) (Some (init_of t None, m)) ≡ Some (i, n) → SpellsInit l i n
    by_else g t m s true e k =
        let (u, j) = only_some (not (ends_with_brace t)) (and_then (block.reads (drop 1 m)) (else_made t)) (i, n) k in
        let (q, d, v) = then_some (block.reads (drop 1 m)) (else_made t) (i, n) j in
        moved (init_of t (Some q.0), q.1) (i, n) (some_is v) (is_let_else g s (not-true (ends_with_brace t) u) e (block_is.sound (drop 1 m) q.0 q.1 d))
    by_else g t m s false e k = moved (init_of t None, m) (i, n) (some_is k) (is_init g s e)

    by_eq : (b : Bool) → eq.at l ≡ b → cond b (and_then (r.expr plain (drop 1 l)) init_behind) (Some (None, l)) ≡ Some (i, n) → SpellsInit l i n
    by_eq true e g =
        let (p, d, j) = then_some (r.expr plain (drop 1 l)) init_behind (i, n) g in
        by_else e p.0 p.1 (expr_sound plain (drop 1 l) p.0 p.1 d) (else_word.at p.1) refl j
    by_eq false e g = moved (None, l) (i, n) (some_is g) (no_init e)

local_sound : (l m n : List Tok) (ats : List AttributeTree) (s : Stmt) → outer_attributes.behind ats l ≡ Some m → let_word.at m ≡ true → local_read ats (drop 1 m) ≡ Some (s, n)
    → SpellsStmt l s n
unfolding local_read
local_sound l m n ats s a w h =
    let (p, e, j) = then_some (let_pattern.reads (drop 1 m)) (local_behind ats) (s, n) h in
    let (q, d, k) = then_some (init_read p.1) (local_made ats p.0) (s, n) j in
    let (t, i) = only_some (semi.at q.1) (Some (local ats p.0 q.0, drop 1 q.1)) (s, n) k in
    spelled (local ats p.0 q.0, drop 1 q.1) (s, n) (some_is i) (is_local a w (let_is.sound (drop 1 m) p.0 p.1 e) (init_sound p.1 q.1 q.0 d) t)

expr_read_sound : (l m n : List Tok) (ats : List AttributeTree) (s : Stmt) → outer_attributes.behind ats l ≡ Some m → expr_begins m ≡ true → expr_read l ≡ Some (s, n)
    → SpellsStmt l s n
unfolding expr_read
expr_read_sound l m n ats s a b h =
    let (p, e, j) = then_some (r.expr at_head l) expr_behind (s, n) h in
    let (q, d, k) = then_some ((flag semi).reads p.1) (expr_made p.0 p.1) (s, n) j in
    let (t, i) = only_some (may_end p.0 q.0 p.1) (Some (expr p.0 q.0, q.1)) (s, n) k in
    spelled (expr p.0 q.0, q.1) (s, n) (some_is i) (is_expr ats a b (expr_sound at_head l p.0 p.1 e) (semi_is.sound p.1 q.0 q.1 d) t)

begins_from : (l : List Tok) → macro_stmt_at l ≡ false → let_word.at l ≡ false → expr_begins l ≡ true
unfolding expr_begins
begins_from l a b = rw (a, b) refl

pub stmt_sound : (l : List Tok) (s : Stmt) (n : List Tok) → stmt l ≡ Some (s, n) → SpellsStmt l s n
unfolding stmt
stmt_sound l s n h = by_semi (semi.at l) refl h
  where
    by_front : (ats : List AttributeTree) (m : List Tok) → outer_attributes.behind ats l ≡ Some m → (b : Bool) → item_at m ≡ b → (c : Bool) → macro_stmt_at m ≡ c
        → (d : Bool) → let_word.at m ≡ d → cond b (item_read ats m) (cond c (mac_read ats m) (cond d (local_read ats (drop 1 m)) (expr_read l))) ≡ Some (s, n) → SpellsStmt l s n
    by_front ats m a true e c f d g k = item_sound l m n ats s a k
    by_front ats m a false e true f d g k = macro_sound l m n ats s a k
    by_front ats m a false e false f true g k = local_sound l m n ats s a g k
    by_front ats m a false e false f false g k = expr_read_sound l m n ats s a (begins_from m f g) k

    by_semi : (b : Bool) → semi.at l ≡ b → cond b (Some (empty, drop 1 l)) (and_then (outer_attributes.reads l) (stmt_behind l)) ≡ Some (s, n) → SpellsStmt l s n
    by_semi true e g = spelled (empty, drop 1 l) (s, n) (some_is g) (is_empty_stmt e)
    by_semi false e g =
        let (q, d, j) = then_some (outer_attributes.reads l) (stmt_behind l) (s, n) g in
        by_front q.0 q.1 (outer_is.sound l q.0 q.1 d) (item_at q.1) refl (macro_stmt_at q.1) refl (let_word.at q.1) refl j

-- ---- what is spelled is read

-- behind its attributes what is no `;` is read by its first tokens
opened : (l m : List Tok) (ats : List AttributeTree) → outer_attributes.behind ats l ≡ Some m → semi.at m ≡ false → stmt l ≡ stmt_behind l ats m
unfolding stmt
opened l m ats a b = by_semi (semi.at l) refl
  where
    by_semi : (t : Bool) → semi.at l ≡ t → cond t (Some (empty, drop 1 l)) (and_then (outer_attributes.reads l) (stmt_behind l)) ≡ stmt_behind l ats m
    by_semi true e = absurd (let f : true ≡ false = sym (semi_stays ats l m a e) ∙ b in cc)
    by_semi false e = ap (λ o. and_then o (stmt_behind l)) (outer_is.complete l ats m a)

-- what `;` begins is neither of these
no_semi : (m : List Tok) (P : (semi.at m ≡ true → ⊥)) → semi.at m ≡ false
no_semi m P = go (semi.at m) refl
  where
    go : (b : Bool) → semi.at m ≡ b → b ≡ false
    go true e = absurd (P e)
    go false e = refl

some_kind : (m n : List Tok) (k : ItemKind) → find_item m ≡ Some (k, n) → (item_at m ≡ true) × (semi.at m ≡ false)
unfolding item_at
some_kind m n k h =
    let (a, b) = found_parts m k n h in
    (ap is_some a, no_semi m (λ e. let q = at_semi m e in absurd (let f : None ≡ Some k = sym q.0 ∙ a in cc)))

item_complete : (l n ts : List Tok) (ats : List AttributeTree) (k : ItemKind) → outer_attributes.behind ats l ≡ Some (ts ++ n) → find_item (ts ++ n) ≡ Some (k, n)
    → stmt l ≡ Some (item ats ts, n)
unfolding item_read
item_complete l n ts ats k a h =
    let (e, b) = some_kind (ts ++ n) n k h in
    opened l (ts ++ n) ats a b ∙ ap (λ t. cond t (item_read ats (ts ++ n)) (cond (macro_stmt_at (ts ++ n)) (mac_read ats (ts ++ n)) (cond (let_word.at (ts ++ n)) (local_read ats (drop 1 (ts ++ n))) (expr_read l)))) e
    ∙ ap (item_by ats (ts ++ n)) h ∙ ap (λ z. only_if (is_taken (ts ++ n) n) (Some (item ats z, n))) (taken_is ts n) ∙ ap (λ b. only_if b (Some (item ats ts, n))) all
  where
    all : is_taken (ts ++ n) n ≡ true
    all = ap (λ z. same_toks (z ++ n) (ts ++ n)) (taken_is ts n) ∙ compares_toks.itself (ts ++ n)

semi_tells : (s : Bool) (h n : List Tok) → past_semi s h ≡ Some n → semi.at h ≡ s
semi_tells s h n e = (flag_is semi s h n e).0

macro_complete : (l m h n : List Tok) (ats : List AttributeTree) (x : MacroTree) (s : Bool) → outer_attributes.behind ats l ≡ Some m → macro.behind x m ≡ Some h → ends_macro s x h ≡ true
    → past_semi s h ≡ Some n → stmt l ≡ Some (mac ats x s, n)
unfolding macro_stmt_at mac_read
macro_complete l m h n ats x s a b t p =
    let f = macro_is.complete m x h b in
    let e = macro_no_item m x h f in
    let u : macro_stmt_at m ≡ true = ap is_macro_stmt f ∙ ap (λ z. ends_macro z x h) (semi_tells s h n p) ∙ t in
    let g : semi.at m ≡ false = no_semi m (λ e. let q = at_semi m e in absurd (let j : None ≡ Some (x, h) = sym q.1 ∙ f in cc)) in
    opened l m ats a g ∙ ap (λ z. cond z (item_read ats m) (cond (macro_stmt_at m) (mac_read ats m) (cond (let_word.at m) (local_read ats (drop 1 m)) (expr_read l)))) e
    ∙ ap (λ z. cond z (mac_read ats m) (cond (let_word.at m) (local_read ats (drop 1 m)) (expr_read l))) u
    ∙ ap (λ o. and_then o (mac_behind ats)) f ∙ ap (λ o. and_then o (mac_made ats x h)) (semi_is.complete h s n p) ∙ ap (λ z. only_if z (Some (mac ats x s, n))) t

init_complete : (l n : List Tok) (i : Option Init) → SpellsInit l i n → init_read l ≡ Some (i, n)
unfolding init_read
init_complete l n i (no_init e) = rw e refl
init_complete l n i (is_init {t = t} e s g) =
    ap (λ z. cond z (and_then (r.expr plain (drop 1 l)) init_behind) (Some (None, l))) e ∙ ap (λ o. and_then o init_behind) (expr_complete plain (drop 1 l) t n s)
    ∙ ap (λ z. cond z (only_if (not (ends_with_brace t)) (and_then (block.reads (drop 1 n)) (else_made t))) (Some (init_of t None, n))) g
init_complete l n i (is_let_else {m = m} {ts = ts} {t = t} e s c g b) =
    ap (λ z. cond z (and_then (r.expr plain (drop 1 l)) init_behind) (Some (None, l))) e ∙ ap (λ o. and_then o init_behind) (expr_complete plain (drop 1 l) t m s)
    ∙ ap (λ z. cond z (only_if (not (ends_with_brace t)) (and_then (block.reads (drop 1 m)) (else_made t))) (Some (init_of t None, m))) g
    ∙ ap (λ z. only_if (not z) (and_then (block.reads (drop 1 m)) (else_made t))) c ∙ ap (λ o. and_then o (else_made t)) (block_is.complete (drop 1 m) ts n b)

local_complete : (l m h n : List Tok) (ats : List AttributeTree) (p : PatTree) (i : Option Init) → outer_attributes.behind ats l ≡ Some m → let_word.at m ≡ true
    → let_pattern.behind p (drop 1 m) ≡ Some h → SpellsInit h i n → semi.at n ≡ true → stmt l ≡ Some (local ats p i, drop 1 n)
unfolding local_read
local_complete l m h n ats p i a w b s t =
    let (e, u) = let_no_item m w in
    let g : semi.at m ≡ false = no_semi m (λ e. let q = at_semi m e in absurd (let j : false ≡ true = sym q.2 ∙ w in cc)) in
    opened l m ats a g ∙ ap (λ z. cond z (item_read ats m) (cond (macro_stmt_at m) (mac_read ats m) (cond (let_word.at m) (local_read ats (drop 1 m)) (expr_read l)))) e
    ∙ ap (λ z. cond z (mac_read ats m) (cond (let_word.at m) (local_read ats (drop 1 m)) (expr_read l))) u
    ∙ ap (λ z. cond z (local_read ats (drop 1 m)) (expr_read l)) w ∙ ap (λ o. and_then o (local_behind ats)) (let_is.complete (drop 1 m) p h b)
    ∙ ap (λ o. and_then o (local_made ats p)) (init_complete h n i s) ∙ ap (λ z. only_if z (Some (local ats p i, drop 1 n))) t

pub begins_parts : (l : List Tok) → expr_begins l ≡ true → (macro_stmt_at l ≡ false) × (let_word.at l ≡ false)
unfolding expr_begins
begins_parts l h = or_parts (macro_stmt_at l) (let_word.at l) (not-true _ h)

expr_stmt_complete : (l m h n : List Tok) (ats : List AttributeTree) (t : Tree) (s : Bool) → outer_attributes.behind ats l ≡ Some m → expr_begins m ≡ true → Stands at_head l t h
    → past_semi s h ≡ Some n → may_end t s h ≡ true → stmt l ≡ Some (expr t s, n)
unfolding expr_read
expr_stmt_complete l m h n ats t s a b c p u =
    let (f, g) = begins_parts m b in
    let (e, d) = no_item at_head ats l m h t a c (subst (λ z. may_end t z h ≡ true) (sym (semi_tells s h n p)) u) in
    opened l m ats a d
    ∙ ap (λ z. cond z (item_read ats m) (cond (macro_stmt_at m) (mac_read ats m) (cond (let_word.at m) (local_read ats (drop 1 m)) (expr_read l)))) e
    ∙ ap (λ z. cond z (mac_read ats m) (cond (let_word.at m) (local_read ats (drop 1 m)) (expr_read l))) f
    ∙ ap (λ z. cond z (local_read ats (drop 1 m)) (expr_read l)) g
    ∙ ap (λ o. and_then o expr_behind) (expr_complete at_head l t h c)
    ∙ ap (λ o. and_then o (expr_made t h)) (semi_is.complete h s n p) ∙ ap (λ z. only_if z (Some (expr t s, n))) u

pub stmt_complete : (l : List Tok) (s : Stmt) (n : List Tok) → SpellsStmt l s n → stmt l ≡ Some (s, n)
unfolding stmt
stmt_complete l s n (is_empty_stmt e) = empty_complete l e
  where
    empty_complete : (l : List Tok) → semi.at l ≡ true → stmt l ≡ Some (empty, drop 1 l)
    empty_complete l e = rw e refl
stmt_complete l s n (is_item {ts = ts} {ats = ats} {k = k} a h) = item_complete l n ts ats k a h
stmt_complete l s n (is_local {m = m} {h = h} {n = o} {ats = ats} {p = p} {i = i} a w b c t) = local_complete l m h o ats p i a w b c t
stmt_complete l s n (is_macro {m = m} {h = h} {ats = ats} {x = x} {s = b} a c t p) = macro_complete l m h n ats x b a c t p
stmt_complete l s n (is_expr {m = m} {h = h} {t = t} {s = b} ats a c d p u) = expr_stmt_complete l m h n ats t b a c d p u

-- ---- one statement by itself

alone_sound : (l : List Tok) (s : Stmt) (n : List Tok) → one_stmt l ≡ Some (s, n) → SpellsStmt l s n × (ends_alone s ≡ true)
unfolding one_stmt
alone_sound l s n h = by_read (stmt l) refl h
  where
    by_read : (o : Outcome Stmt) → stmt l ≡ o → alone o ≡ Some (s, n) → SpellsStmt l s n × (ends_alone s ≡ true)
    by_read None e g = absurd cc
    by_read (Some p) e g =
        let (t, i) = only_some (ends_alone p.0) (Some p) (s, n) g in
        (stmt_sound l s n (e ∙ i), subst (λ (z : Stmt × List Tok). ends_alone z.0 ≡ true) (some_is i) t)

alone_complete : (l : List Tok) (s : Stmt) (n : List Tok) → SpellsStmt l s n → ends_alone s ≡ true → one_stmt l ≡ Some (s, n)
unfolding one_stmt
alone_complete l s n h t = ap alone (stmt_complete l s n h) ∙ ap (λ b. only_if b (Some (s, n))) t

-- ---- a statement takes a token

semi_falls : (s : Bool) (h n : List Tok) → past_semi s h ≡ Some n → weight n ≤ weight h
semi_falls s h n p = semi_is.falls h s n (semi_is.complete h s n p)

init_falls : (l n : List Tok) (i : Option Init) → SpellsInit l i n → weight n ≤ weight l
init_falls l n i (no_init e) = omega arith
init_falls l n i (is_init e s g) = let a = node_less s.node in omega (arith, eq_present.present l e, a.less)
init_falls l n i (is_let_else {m = m} {ts = ts} e s c g b) =
    let a = node_less s.node in
    let w = word_present (codes "else") in
    let f = block_is.falls (drop 1 m) ts n (block_is.complete (drop 1 m) ts n b) in
    omega (arith, eq_present.present l e, a.less, w.present m g, f)

outer_falls : (l m : List Tok) (ats : List AttributeTree) → outer_attributes.behind ats l ≡ Some m → weight m ≤ weight l
outer_falls l m ats a = outer_is.falls l ats m (outer_is.complete l ats m a)

ended_less : (l n : List Tok) → Ended l n → weight n < weight l
unfolding weight
ended_less l n e = subst (λ z. weight n < weight z) (sym e.is) (go e.front e.last)
  where
    go : (f : List Tok) → has_last f ≡ true → weight n < weight (f ++ n)
    go [] h = absurd cc
    go (t ∷ f) h =
        let c : IsTail n (f ++ n) = record { front = f; is = refl } in
        omega (arith, one_at_least t, tail_falls {l = f ++ n} {n = n} c)

pub stmt_less : (l : List Tok) (s : Stmt) (n : List Tok) → SpellsStmt l s n → weight n < weight l
stmt_less l s n (is_empty_stmt e) = semi_present.present l e
stmt_less l s n (is_item {ts = ts} {ats = ats} {k = k} a h) = omega (arith, outer_falls l (ts ++ n) ats a, ended_less (ts ++ n) n (item_ended (ts ++ n) k n h))
stmt_less l s n (is_local {m = m} {h = h} {n = o} {ats = ats} {p = p} {i = i} a w b c t) =
    let v = word_present (codes "let") in
    let f = let_is.falls (drop 1 m) p h (let_is.complete (drop 1 m) p h b) in
    omega (arith, outer_falls l m ats a, v.present m w, f, init_falls h o i c, semi_present.present o t)
stmt_less l s n (is_macro {m = m} {h = h} {ats = ats} {x = x} {s = b} a c t p) =
    omega (arith, outer_falls l m ats a, macro_takes.takes m x h (macro_is.complete m x h c), semi_falls b h n p)
stmt_less l s n (is_expr {h = h} {s = b} ats a c d p u) = let v = node_less d.node in omega (arith, v.less, semi_falls b h n p)

-- ---- lists

further_some : (more : List Tok → Option (List Stmt)) (o : Outcome Stmt) (ss : List Stmt) → further more o ≡ Some ss
    → (p : Stmt × List Tok) × (o ≡ Some p) × ((rs : List Stmt) × (more p.1 ≡ Some rs) × (p.0 ∷ rs ≡ ss))
further_some more None ss h = absurd cc
further_some more (Some p) ss h = (p, refl, by_more (more p.1) h)
  where
    by_more : (o : Option (List Stmt)) → added p.0 o ≡ Some ss → (rs : List Stmt) × (o ≡ Some rs) × (p.0 ∷ rs ≡ ss)
    by_more None g = absurd cc
    by_more (Some rs) g = (rs, refl, some_is g)

within_sound : (k : ℕ) (l : List Tok) (ss : List Stmt) → stmts_within k l ≡ Some ss → SpellsStmts l ss
unfolding stmts_within
within_sound zero [] ss h = subst (λ z. SpellsStmts [] z) (some_is h) no_stmts
within_sound zero (t ∷ l) ss h = absurd cc
within_sound (suc k) [] ss h = subst (λ z. SpellsStmts [] z) (some_is h) no_stmts
within_sound (suc k) (t ∷ l) ss h =
    let (p, e, q) = further_some (stmts_within k) (stmt (t ∷ l)) ss h in
    let (rs, d, j) = q in
    subst (λ z. SpellsStmts (t ∷ l) z) j (more_stmts (stmt_sound (t ∷ l) p.0 p.1 e) (within_sound k p.1 rs d))

nothing_left : (k : ℕ) → stmts_within k [] ≡ Some []
unfolding stmts_within
nothing_left zero = refl
nothing_left (suc k) = refl

within_next : (k : ℕ) (l n : List Tok) (s : Stmt) (rs : List Stmt) → weight l ≤ k → weight n < weight l → stmt l ≡ Some (s, n)
    → ((j : ℕ) → weight n ≤ j → stmts_within j n ≡ Some rs) → stmts_within k l ≡ Some (s ∷ rs)
unfolding stmts_within weight
within_next k [] n s rs b c e again = absurd (omega (arith, c))
within_next zero (t ∷ l) n s rs b c e again = absurd (omega (arith, b, c))
within_next (suc k) (t ∷ l) n s rs b c e again = ap (further (stmts_within k)) e ∙ ap (added s) (again k (omega (arith, b, c)))

within_complete : (k : ℕ) (l : List Tok) (ss : List Stmt) → weight l ≤ k → SpellsStmts l ss → stmts_within k l ≡ Some ss
within_complete k l ss b no_stmts = nothing_left k
within_complete k l ss b (more_stmts {n = n} {s = s} {ss = rs} h more) =
    within_next k l n s rs b (stmt_less l s n h) (stmt_complete l s n h) (λ j c. within_complete j n rs c more)

pub exact : ReadingIsExact
unfolding stmts
exact = record {
  stmt_sound = stmt_sound;
  stmt_complete = stmt_complete;
  one_sound = alone_sound;
  one_complete = alone_complete;
  sound = λ l ss h. within_sound (weight l) l ss h;
  complete = λ l ss h. within_complete (weight l) l ss (omega arith) h;
}

pub at_most_one : OneList
at_most_one l ss rs h g = some_is (sym (exact.complete l ss h) ∙ exact.complete l rs g)

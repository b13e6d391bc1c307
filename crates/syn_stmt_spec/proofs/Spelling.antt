-- What was read is printed as it is: initialisers, and the `;` of expressions.
use Rattle.std.specs.Prelude.{not, ◌||◌, ◌&&◌}
use Rattle.std.proofs.Common.{◌≡◌, ◌<◌, Bool, true, false, List, [], ◌∷◌, Some, None, refl, ap, sym, ◌∙◌, subst, arith}
use Rattle.std.proofs.Math.Bool.{and-false}
use Rattle.std.proofs.lemmas.Bool.{not-true}
use Rattle.syn_tokens.specs.Tok.{Tok, weight}
use Rattle.syn_tokens.specs.Front.{is_empty}
use Rattle.syn_lower_spec.specs.Tree.{AttributeTree}
use Rattle.syn_lower_spec.specs.Form.{is_nil}
use Rattle.syn_lower_spec.specs.Mark.{semi}
use Rattle.syn_lower_spec.specs.Part.{outer_attributes}
use Rattle.syn_expr_spec.specs.declared.kinds.Precedence.TheVariants as lev
use Rattle.syn_expr_spec.specs.Place.{plain}
use Rattle.syn_expr_spec.specs.Next.{enclosed}
use Rattle.syn_expr_spec.specs.Path.{invisible_at}
use Rattle.syn_expr_spec.specs.Tree.{Tree}
use Rattle.syn_expr_spec.specs.Stands.{Stands}
use Rattle.syn_expr_spec.specs.Rule.{printed, place_asks, put, bare}
use Rattle.syn_expr_spec.specs.Binding.{requires_semi_to_be_stmt}
use Rattle.syn_expr_spec.specs.Printed.{plainly_attributed}
use Rattle.syn_expr_spec.proofs.Fronts.{flag_is}
use Rattle.syn_expr_spec.proofs.Kept.{kept_in}
use Rattle.syn_expr_spec.proofs.NoneRedundant.{proper}
use Rattle.syn_expr_spec.proofs.Parenthesized.{plain_stays}
use Rattle.syn_expr_spec.proofs.Shown.{shown}
use Rattle.syn_expr_spec.proofs.ShownFronts.{front_end}
use Rattle.syn_expr_spec.proofs.ShownParts.{agrees_plain}
use Rattle.syn_expr_spec.proofs.ShownTypes.{open_types}
use Rattle.syn_expr_spec.proofs.StoodFilled.{stood_filled}
use Rattle.syn_stmt_spec.specs.Stmt.{Init, Stmt, expr}
use Rattle.syn_stmt_spec.specs.Spells.{SpellsInit, is_init, is_let_else, SpellsStmt, is_expr, SpellsStmts, no_stmts, more_stmts, may_end, past_semi}
use Rattle.syn_stmt_spec.specs.Printed.{before_else, printed_init, printed_stmt}
use Rattle.syn_stmt_spec.specs.Laws.{OwnSpelling}
use Rattle.syn_stmt_spec.proofs.Exact.{stmt_less, begins_parts}
use Rattle.syn_stmt_spec.proofs.Leads.{same_behind}
use Rattle.syn_stmt_spec.proofs.Placed.{none_open}
use Rattle.syn_stmt_spec.proofs.Stated.{head_own}

-- ---- initialisers

printed_own : (t : Tree) (l n : List Tok) → Stands plain l t n → plainly_attributed t ≡ true → printed enclosed t ≡ t
printed_own t l n s a =
    ap (λ z. put (place_asks lev.Jump enclosed z) (bare enclosed z) (bare enclosed z)) (stood_filled s.node)
    ∙ kept_in t enclosed (proper s.node) (shown open_types s.node refl enclosed agrees_plain (front_end n) (refl, refl)) ∙ plain_stays t a

pub init_own : (l n : List Tok) (i : Init) → SpellsInit l (Some i) n → plainly_attributed i.expr ≡ true → printed_init (Some i) ≡ Some i
init_own l n i (is_init {t = t} e s g) a = ap (λ z. Some (record { expr = z; diverge = None })) (printed_own t _ n s a)
init_own l n i (is_let_else {m = m} {ts = ts} {t = t} e s c g b) a =
    ap (λ z. Some (record { expr = z; diverge = Some ts }))
    (ap before_else (printed_own t _ m s a) ∙ rw (c, none_open plain _ t m s g) refl)

-- ---- the `;` of expressions

none_of_none : (l : List Tok) (ss : List Stmt) → is_empty l ≡ true → SpellsStmts l ss → is_nil ss ≡ true
unfolding weight
none_of_none l ss h no_stmts = refl
none_of_none [] ss h (more_stmts {n = n} {s = s} g more) = absurd (nothing_less n (stmt_less [] s n g))
  where
    nothing_less : (n : List Tok) → weight n < weight [] → ⊥
    nothing_less n k = omega (arith, k)
none_of_none (t ∷ l) ss h (more_stmts g more) = absurd cc

semi_filled : (q : Bool) (m : Bool) (s : Bool) (e : Bool) → s || (e || not q) ≡ true → (s ≡ false → e ≡ true → m ≡ true) → s || (q && not m) ≡ s
semi_filled q m true e h f = refl
semi_filled q m false true h f = ap (λ b. q && not b) (f refl refl) ∙ and-false q
semi_filled q m false false h f = ap (λ b. b && not m) (not-true q h)

pub semi_own : (l n : List Tok) (t : Tree) (s : Bool) (ss : List Stmt) → SpellsStmt l (expr t s) n → SpellsStmts n ss
    → s || (requires_semi_to_be_stmt t && not (is_nil ss)) ≡ s
semi_own l n t s ss (is_expr {h = h} ats a c d p u) more =
    semi_filled (requires_semi_to_be_stmt t) (is_nil ss) s (is_empty h) u (λ e k. none_of_none n ss (by_rest s p e k) more)
  where
    by_rest : (b : Bool) → past_semi b h ≡ Some n → b ≡ false → is_empty h ≡ true → is_empty n ≡ true
    by_rest true p e k = absurd cc
    by_rest false p e k = ap is_empty (flag_is semi false h n p).1 ∙ k

-- ---- expressions in statement position

pub expr_own : (l m n : List Tok) (ats : List AttributeTree) (t : Tree) (s : Bool) → SpellsStmt l (expr t s) n → outer_attributes.behind ats l ≡ Some m
    → invisible_at m ≡ false → plainly_attributed t ≡ true → printed_stmt (expr t s) ≡ expr t s
expr_own l m n ats t s (is_expr {m = z} {h = h} {n = o} bts a b c p u) f v w =
    let (i, j) = begins_parts z b in
    let q : invisible_at z ≡ false = subst (λ y. invisible_at y ≡ false) (same_behind ats bts l m z f a) v in
    ap (λ y. expr y s) (head_own l z h t bts a q j i c (subst (λ y. may_end t y h ≡ true) (sym (flag_is semi s h o p).0) u) w)

pub own_spelling : OwnSpelling
own_spelling = record { initialisers = init_own; expressions = expr_own; semicolons = semi_own }

-- No added pair of parentheses can be left out by itself.
use Rattle.std.specs.Prelude.{◌||◌}
use Rattle.std.proofs.Common.{◌≡◌, Bool, true, false, List, Option, Some, refl, sym, ◌∙◌, subst}
use Rattle.std.proofs.lemmas.Bool.{or_from}
use Rattle.syn_tokens.specs.Tok.{Tok}
use Rattle.syn_lower_spec.specs.Tree.{AttributeTree}
use Rattle.syn_lower_spec.specs.Mark.{semi}
use Rattle.syn_lower_spec.specs.Part.{outer_attributes}
use Rattle.syn_expr_spec.specs.declared.kinds.Precedence.TheVariants as lev
use Rattle.syn_expr_spec.specs.declared.next.Context.{Context}
use Rattle.syn_expr_spec.specs.Place.{plain}
use Rattle.syn_expr_spec.specs.Next.{enclosed, in_statement}
use Rattle.syn_expr_spec.specs.Path.{invisible_at}
use Rattle.syn_expr_spec.specs.Query.{ends_with_brace}
use Rattle.syn_expr_spec.specs.Minimal.{OneLess}
use Rattle.syn_expr_spec.specs.Tree.{Tree, leaf, paren, attributed, prefixed, infixed, clear, fill}
use Rattle.syn_expr_spec.specs.Stands.{Node, is_paren, is_indexed}
use Rattle.syn_expr_spec.specs.Rule.{printed, put}
use Rattle.syn_expr_spec.specs.Printed.{plainly_attributed}
use Rattle.syn_expr_spec.specs.WellFormed.{is_well_formed}
use Rattle.syn_expr_spec.proofs.Formed.{formed_fill}
use Rattle.syn_expr_spec.proofs.Fronts.{flag_is}
use Rattle.syn_expr_spec.proofs.NeededPairs.{needed_in}
use Rattle.syn_expr_spec.proofs.Obeys.{Obeys}
use Rattle.syn_expr_spec.proofs.Parenthesized.{plain_stays}
use Rattle.syn_expr_spec.proofs.RedundantPlain.{plain_clear}
use Rattle.syn_expr_spec.proofs.Shown.{shown}
use Rattle.syn_expr_spec.proofs.ShownFronts.{front_end}
use Rattle.syn_expr_spec.proofs.ShownParts.{agrees_plain}
use Rattle.syn_expr_spec.proofs.ShownTypes.{open_types}
use Rattle.syn_expr_spec.proofs.Unclear.{unclear}
use Rattle.syn_stmt_spec.specs.Stmt.{expr}
use Rattle.syn_stmt_spec.specs.Spells.{may_end, SpellsInit, is_init, is_let_else, SpellsStmt, is_expr}
use Rattle.syn_stmt_spec.specs.Printed.{open_end}
use Rattle.syn_stmt_spec.specs.Laws.{NoStmtPairRedundant}
use Rattle.syn_stmt_spec.proofs.Back.{ends_clear}
use Rattle.syn_stmt_spec.proofs.Else.{no_field}
use Rattle.syn_stmt_spec.proofs.Leads.{same_behind}
use Rattle.syn_stmt_spec.proofs.Placed.{none_open}
use Rattle.syn_stmt_spec.proofs.Exact.{begins_parts}
use Rattle.syn_stmt_spec.proofs.Stated.{head_obeys}

-- with a pair less the tree doesn't obey the rules
needed : (t q : Tree) (c : Context) → is_well_formed t ≡ true → OneLess (printed c t) q → Obeys lev.Jump c (clear q) → ⊥
unfolding is_well_formed
needed t q c w o h = needed_in (fill t) q c (formed_fill t w) o (unclear q lev.Jump c h)

node_obeys : {l n : List Tok} {x : Tree} → Node plain l x n → plainly_attributed x ≡ true → Obeys lev.Jump enclosed x
node_obeys {l} {n} {x} d p = subst (λ z. Obeys lev.Jump enclosed z) (plain_stays x p) (shown open_types d refl enclosed agrees_plain (front_end n) (refl, refl))

-- in parentheses or bare
put_obeys : (b : Bool) (q : Tree) (l n : List Tok) → Node plain l (clear (put b q q)) n → plainly_attributed q ≡ true → Obeys lev.Jump enclosed (clear q)
put_obeys true q l n (is_paren d x y) p = node_obeys d (plain_clear q ∙ p)
put_obeys true q l n (is_indexed {b = b} {i = i} {is = is} d f g x) p = absurd (no_field (paren false (clear q)) b i is refl x)
put_obeys false q l n d p = node_obeys d (plain_clear q ∙ p)

init_needed : (b : Bool) (t q : Tree) (l n : List Tok) (d : Option (List Tok)) → is_well_formed t ≡ true → OneLess (printed enclosed t) q → plainly_attributed q ≡ true
    → SpellsInit l (Some (record { expr = clear (put b q q); diverge = d })) n → ⊥
init_needed b t q l n d w o p (is_init a s e) = needed t q enclosed w o (put_obeys b q _ n s.node p)
init_needed b t q l n d w o p (is_let_else {m = m} a s e f g) = needed t q enclosed w o (put_obeys b q _ m s.node p)

open_clear : (t : Tree) → open_end (clear t) ≡ open_end t
open_clear (leaf k) = refl
open_clear (attributed a ats t) = open_clear t
open_clear (prefixed k gs t) = open_clear t
open_clear (infixed x k y) = open_clear y
open_clear _ = refl

else_needed : (x : Tree) (l n ts : List Tok) → ends_with_brace x || open_end x ≡ true → SpellsInit l (Some (record { expr = clear x; diverge = Some ts })) n → ⊥
else_needed x l n ts h (is_let_else {m = m} a s e f g) =
    let r : true ≡ false = sym h ∙ or_from (ends_with_brace x) (open_end x) (sym (ends_clear x) ∙ e) (sym (open_clear x) ∙ none_open plain _ (clear x) m s f) in cc

expr_needed : (t q : Tree) (l m n : List Tok) (ats : List AttributeTree) (s : Bool) → is_well_formed t ≡ true → OneLess (printed in_statement t) q → plainly_attributed q ≡ true
    → SpellsStmt l (expr (clear q) s) n → outer_attributes.behind ats l ≡ Some m → invisible_at m ≡ false → ⊥
expr_needed t q l m n ats s w o p (is_expr {m = z} {h = h} {n = y} bts a b c x u) f v =
    let (i, j) = begins_parts z b in
    let k : invisible_at z ≡ false = subst (λ g. invisible_at g ≡ false) (same_behind ats bts l m z f a) v in
    needed t q in_statement w o (head_obeys l z h (clear q) bts a k j i c (subst (λ g. may_end (clear q) g h ≡ true) (sym (flag_is semi s h y x).0) u) (plain_clear q ∙ p))

pub no_pair_redundant : NoStmtPairRedundant
no_pair_redundant = record { expressions = expr_needed; initialisers = init_needed; before_else = λ t l n ts. else_needed (printed enclosed t) l n ts }

-- No statement goes on with what comes before it.
use Rattle.std.proofs.Common.{◌≡◌, Bool, true, false, List, [], ◌∷◌, drop, codes, Some, None, refl, sym, ◌∙◌, subst}
use Rattle.std.proofs.lemmas.Bool.{or_from}
use Rattle.syn_lexer.specs.declared.front.Spacing.{Spacing}
use Rattle.syn_lexer.specs.declared.front.Spacing.TheVariants as spacing
use Rattle.syn_tokens.specs.Tok.{Tok, ident, punct}
use Rattle.syn_lower_spec.specs.Tree.{AttributeTree}
use Rattle.syn_lower_spec.specs.Mark.{word_at, semi, pound}
use Rattle.syn_lower_spec.specs.Part.{MacroTree, macro, outer_attributes}
use Rattle.syn_lower_spec.proofs.Ends.{sign_first}
use Rattle.syn_lower_spec.proofs.Forms.{Alike}
use Rattle.syn_lower_spec.proofs.Parts.{macro_alike}
use Rattle.syn_expr_spec.specs.Place.{at_head}
use Rattle.syn_expr_spec.specs.Front.{dot_at, question_at}
use Rattle.syn_expr_spec.specs.Head.{let_word}
use Rattle.syn_expr_spec.specs.Tree.{Tree}
use Rattle.syn_expr_spec.proofs.Fronts.{word_is, flag_is}
use Rattle.syn_stmt_spec.specs.declared.kinds.ItemKind.{ItemKind}
use Rattle.syn_stmt_spec.specs.Item.{item_kind}
use Rattle.syn_stmt_spec.specs.Stmt.{Stmt, empty}
use Rattle.syn_stmt_spec.specs.Spells.{may_end, SpellsStmt, is_empty_stmt, is_item, is_local, is_macro, is_expr, SpellsStmts, no_stmts, more_stmts}
use Rattle.syn_stmt_spec.specs.Printed.{begins_empty}
use Rattle.syn_stmt_spec.specs.Laws.{NoStatementGoesOn}
use Rattle.syn_stmt_spec.proofs.Begins.{Nothing, at_semi}
use Rattle.syn_stmt_spec.proofs.Fronts.{front_tests}
use Rattle.syn_stmt_spec.proofs.Items.{found_parts}
use Rattle.syn_stmt_spec.proofs.Leads.{Led, dotted, dot_sign, question_sign, unpounded, ending_led}

dot_none : (s : Spacing) (l : List Tok) → Nothing (punct 46 s ∷ l)
unfolding front_tests
dot_none spacing.Alone l = (refl, refl, refl)
dot_none spacing.Joint l = (refl, refl, refl)

question_none : (s : Spacing) (l : List Tok) → Nothing (punct 63 s ∷ l)
unfolding front_tests
question_none spacing.Alone l = (refl, refl, refl)
question_none spacing.Joint l = (refl, refl, refl)

else_none : (l : List Tok) → Nothing (ident (codes "else") ∷ l)
unfolding front_tests
else_none l = (refl, refl, refl)

-- neither `.`, `?` nor `else`, nor `;`
pub record Apart (l : List Tok) : Type 0 where
  pub no_dot : dotted l ≡ false
  pub no_else : word_at (codes "else") l ≡ false
  pub no_semi : semi.at l ≡ false

never : (b : Bool) → (b ≡ true → ⊥) → b ≡ false
never true f = absurd (f refl)
never false f = refl

apart_from : (m : List Tok) → (Nothing m → ⊥) → Apart m
apart_from m f =
    record {
      no_dot = or_from (dot_at m) (question_at m)
          (never (dot_at m) (λ d. f (sign_first 46 [] Nothing dot_none m (dot_sign m d))))
          (never (question_at m) (λ d. f (sign_first 63 [] Nothing question_none m (question_sign m d))));
      no_else = never (word_at (codes "else") m) (λ d. f (subst Nothing (sym (word_is (codes "else") m d)) (else_none (drop 1 m))));
      no_semi = never (semi.at m) (λ d. f (at_semi m d));
    }

pub item_apart : (m : List Tok) (k : ItemKind) → item_kind m ≡ Some k → Apart m
item_apart m k h = apart_from m (λ q. let r : None ≡ Some k = sym q.0 ∙ h in cc)

pub macro_apart : (m n : List Tok) (x : MacroTree) → macro.reads m ≡ Some (x, n) → Apart m
macro_apart m n x h = apart_from m (λ q. let r : None ≡ Some (x, n) = sym q.1 ∙ h in cc)

let_apart : (m : List Tok) → let_word.at m ≡ true → Apart m
let_apart m h = apart_from m (λ q. let r : false ≡ true = sym q.2 ∙ h in cc)

pound_apart : (s : Spacing) (l : List Tok) → Apart (punct 35 s ∷ l)
unfolding front_tests
pound_apart spacing.Alone l = record { no_dot = refl; no_else = refl; no_semi = refl }
pound_apart spacing.Joint l = record { no_dot = refl; no_else = refl; no_semi = refl }

-- attributes or none before that
behind_apart : (ats : List AttributeTree) (l m : List Tok) → outer_attributes.behind ats l ≡ Some m → Apart m → Apart l
behind_apart ats l m a d = go (pound.at l) refl
  where
    go : (b : Bool) → pound.at l ≡ b → Apart l
    go true g = sign_first 35 [] Apart pound_apart l g
    go false g = subst Apart (sym (unpounded ats l m g a)) d

-- the first tokens of a statement
pub record Starts (l : List Tok) (s : Stmt) : Type 0 where
  pub no_dot : dotted l ≡ false
  pub no_else : word_at (codes "else") l ≡ false
  pub only_semi : semi.at l ≡ true → s ≡ empty

semi_starts : (z : Spacing) (l : List Tok) → Starts (punct 59 z ∷ l) empty
unfolding front_tests
semi_starts spacing.Alone l = record { no_dot = refl; no_else = refl; only_semi = λ h. refl }
semi_starts spacing.Joint l = record { no_dot = refl; no_else = refl; only_semi = λ h. refl }

apart_starts : (l : List Tok) (s : Stmt) → Apart l → Starts l s
apart_starts l s d = record { no_dot = d.no_dot; no_else = d.no_else; only_semi = λ h. absurd (let r : true ≡ false = sym h ∙ d.no_semi in cc) }

expr_apart : (l m h n : List Tok) (ats : List AttributeTree) (t : Tree) (s : Bool) → outer_attributes.behind ats l ≡ Some m → Led m t h → Apart l
expr_apart l m h n ats t s a d =
    behind_apart ats l m a (record { no_dot = or_from (dot_at m) (question_at m) d.opens.no_dot d.opens.no_question; no_else = d.opens.no_else; no_semi = d.opens.no_semi })

pub stmt_starts : (l n : List Tok) (s : Stmt) → SpellsStmt l s n → Starts l s
stmt_starts l n s (is_empty_stmt d) = sign_first 59 [] (λ z. Starts z empty) semi_starts l d
stmt_starts l n s (is_item {n = o} {ts = ts} {ats = ats} {k = k} a h) = apart_starts l s (behind_apart ats l _ a (item_apart _ k (found_parts _ k o h).0))
stmt_starts l n s (is_local {m = m} {ats = ats} a w b c d) = apart_starts l s (behind_apart ats l m a (let_apart m w))
stmt_starts l n s (is_macro {m = m} {h = h} {ats = ats} {x = x} a c t p) =
    let z : Alike 0 macro macro = macro_alike in apart_starts l s (behind_apart ats l m a (macro_apart m h x (z.complete m x h c)))
stmt_starts l n s (is_expr {m = m} {h = h} {n = o} {t = t} {s = b} ats a c d p u) =
    apart_starts l s (expr_apart l m h o ats t b a (ending_led at_head ats l m h t a d (subst (λ z. may_end t z h ≡ true) (sym (flag_is semi b h o p).0) u)))

pub none_goes_on : NoStatementGoesOn
none_goes_on l n s h = let d = stmt_starts l n s h in (d.no_dot, d.no_else)

-- the rest that a list of statements is
pub record Rest (l : List Tok) (ss : List Stmt) : Type 0 where
  pub no_dot : dotted l ≡ false
  pub no_else : word_at (codes "else") l ≡ false
  pub only_semi : semi.at l ≡ true → begins_empty ss ≡ true

nothing_rest : Rest [] []
unfolding front_tests
nothing_rest = record { no_dot = refl; no_else = refl; only_semi = λ h. absurd cc }

pub rest_starts : (l : List Tok) (ss : List Stmt) → SpellsStmts l ss → Rest l ss
rest_starts l ss no_stmts = nothing_rest
rest_starts l ss (more_stmts {n = n} {s = s} {ss = rs} h more) =
    let d = stmt_starts l n s h in
    record { no_dot = d.no_dot; no_else = d.no_else; only_semi = λ g. subst (λ z. begins_empty (z ∷ rs) ≡ true) (sym (d.only_semi g)) refl }

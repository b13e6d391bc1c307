-- Printed statements are read back.
use Rattle.std.specs.Prelude.{not, ◌||◌, ◌&&◌, is_some}
use Rattle.std.proofs.Common.{◌≡◌, Bool, true, false, cond, List, [], ◌∷◌, ◌++◌, codes, Option, Some, None, refl, ap, sym, ◌∙◌, subst}
use Rattle.std.proofs.Math.Bool.{and-false, or-true}
use Rattle.std.proofs.lemmas.Bool.{and_parts, and_from, or_parts}
use Rattle.syn_lexer.specs.declared.front.Spacing.{Spacing}
use Rattle.syn_lexer.specs.declared.front.Spacing.TheVariants as spacing
use Rattle.syn_tokens.specs.Tok.{Tok, ident, punct, toks-inside}
use Rattle.syn_tokens.specs.Front.{is_empty}
use Rattle.syn_lower_spec.specs.Tree.{AttributeTree}
use Rattle.syn_lower_spec.specs.Form.{is_nil, more, fix, iterate}
use Rattle.syn_lower_spec.specs.Mark.{sign_at, word_at, semi, eq, pound, colon, plus}
use Rattle.syn_lower_spec.specs.Ends.{ends_patterns}
use Rattle.syn_lower_spec.specs.Part.{MacroTree, macro, outer_attributes}
use Rattle.syn_lower_spec.specs.Pat as p
use Rattle.syn_lower_spec.specs.Pat.{PatTree, pattern, from_typed, closure_arg}
use Rattle.syn_lower_spec.specs.Own.{alone, block_own, macro_own, before_some}
use Rattle.syn_lower_spec.specs.PatOwn.{pat_own}
use Rattle.syn_lower_spec.specs.Fits.{macro_fits}
use Rattle.syn_lower_spec.specs.PatFits.{attributes_outer}
use Rattle.syn_lower_spec.proofs.Ends.{parts_end, sign_first}
use Rattle.syn_lower_spec.proofs.Forms.{Alike, behind_some}
use Rattle.syn_lower_spec.proofs.Parts.{macro_alike}
use Rattle.syn_lower_spec.proofs.PatsBack.{attributes_back, closure_arg_back}
use Rattle.syn_lower_spec.proofs.Weights.{some_is}
use Rattle.syn_lower_spec.proofs.Whole.{parts_read_back}
use Rattle.syn_expr_spec.specs.declared.kinds.Precedence.TheVariants as lev
use Rattle.syn_expr_spec.specs.declared.next.Next.TheVariants as next
use Rattle.syn_expr_spec.specs.declared.next.Context.{Context}
use Rattle.syn_expr_spec.specs.Place.{plain}
use Rattle.syn_expr_spec.specs.Next.{enclosed, in_statement, attributed_context}
use Rattle.syn_expr_spec.specs.Head.{let_word}
use Rattle.syn_expr_spec.specs.Slot.{else_word}
use Rattle.syn_expr_spec.specs.Tree as e
use Rattle.syn_expr_spec.specs.Tree.{Tree, Children, leaf, paren, attributed, prefixed, infixed, postfixed, tail, frame, none, child, outers, own, clear, clear_children, fill, flatten, is_block_like}
use Rattle.syn_expr_spec.specs.Stands.{Node, is_paren, Stands, ends, closes, is_attributed, is_parenthesis_or_bracket}
use Rattle.syn_expr_spec.specs.Query.{prefix_brace, piece_brace, operand_brace, frame_brace, frame_head_brace, tree_brace, children_brace, ends_with_brace}
use Rattle.syn_expr_spec.specs.Rule.{printed, place_asks, put, bare, is_operation, is_brace_delimiter}
use Rattle.syn_expr_spec.specs.Binding.{is_braced_macro, requires_semi_to_be_stmt}
use Rattle.syn_expr_spec.specs.Printed.{in_plain, as_statement, StandsPrinted}
use Rattle.syn_expr_spec.specs.Read.{all_of}
use Rattle.syn_expr_spec.specs.WellFormed.{is_well_formed, well}
use Rattle.syn_expr_spec.proofs.Chains.{all_some}
use Rattle.syn_expr_spec.proofs.FillIns.{block_clear}
use Rattle.syn_expr_spec.proofs.Flat.{flatten_clear}
use Rattle.syn_expr_spec.proofs.Formed.{formed_fill}
use Rattle.syn_expr_spec.proofs.Good.{printed_good}
use Rattle.syn_expr_spec.proofs.LastFormed.{trailing_brace_is_last}
use Rattle.syn_expr_spec.proofs.Promise.{printed_stands}
use Rattle.syn_expr_spec.proofs.Same.{printed_is_same}
use Rattle.syn_stmt_spec.specs.declared.kinds.ItemKind.{ItemKind}
use Rattle.syn_stmt_spec.specs.Item.{item_kind, find_item}
use Rattle.syn_stmt_spec.specs.Stmt.{Init, Stmt, empty, local, item, mac, expr, let_pattern, semi_if, init_own, stmt_own, stmts_own, stmt_by, stmts_by}
use Rattle.syn_stmt_spec.specs.Spells.{past_semi, ends_macro, macro_stmt_at, expr_begins, may_end, SpellsInit, no_init, is_init, is_let_else, SpellsStmt, is_empty_stmt, is_item, is_local, is_macro, is_expr, SpellsStmts, no_stmts, more_stmts}
use Rattle.syn_stmt_spec.specs.Printed.{behind, called, expr_or_macro, complete_stmt, complete, IsSameList, open_end, diverging, printed_stmt, each_printed, printed_stmts, stmts_toks, is_item_toks, let_fits, init_fits, stmt_fits, lacks_semi, begins_empty, stmts_fit}
use Rattle.syn_stmt_spec.specs.Laws.{PrintedIsReadBack}
use Rattle.syn_stmt_spec.proofs.Else.{closed_stand}
use Rattle.syn_stmt_spec.proofs.Fronts.{front_tests}
use Rattle.syn_stmt_spec.proofs.Items.{found_parts, item_longer}
use Rattle.syn_stmt_spec.proofs.Leads.{fronted, free, sole_macro, dotted, ending_calm}
use Rattle.syn_stmt_spec.proofs.Lets.{pieces}
use Rattle.syn_stmt_spec.proofs.Placed.{printed_stand, printed_block}
use Rattle.syn_stmt_spec.proofs.Starts.{rest_starts}
use Rattle.syn_stmt_spec.proofs.Stated.{leads_free}

-- a statement that is printed, before these tokens, is read as it is printed
abbrev pub ReadBack : Stmt → List Tok → Type 0
ReadBack s r = SpellsStmt (stmt_own (printed_stmt s) r) (stmt_by clear (printed_stmt s)) r

-- ---- `;`

semi_first : (r : List Tok) → (semi.at (alone 59 ∷ r) ≡ true) × (eq.at (alone 59 ∷ r) ≡ false) × (eq.at (alone 61 ∷ r) ≡ true) × (word_at (codes "else") (alone 59 ∷ r) ≡ false)
unfolding sign_at word_at
semi_first r = (refl, refl, refl, refl)

pub empty_back : (r : List Tok) → ReadBack empty r
empty_back r = is_empty_stmt {l = alone 59 ∷ r} (semi_first r).0

semi_past : (s : Bool) (r : List Tok) → (s ≡ false → semi.at r ≡ false) → past_semi s (semi_if s r) ≡ Some r
unfolding sign_at
semi_past true r h = refl
semi_past false r h = rw (h refl) refl

semi_is : (s : Bool) (r : List Tok) → (s ≡ false → semi.at r ≡ false) → semi.at (semi_if s r) ≡ s
semi_is true r h = (semi_first r).0
semi_is false r h = h refl

-- ---- items and macros

pound_nothing : (s : Spacing) (l : List Tok) → (item_kind (punct 35 s ∷ l) ≡ None) × (macro.reads (punct 35 s ∷ l) ≡ None)
unfolding front_tests
pound_nothing spacing.Alone l = (refl, refl)
pound_nothing spacing.Joint l = (refl, refl)

no_pound : (l : List Tok) → ((item_kind l ≡ None) × (macro.reads l ≡ None) → ⊥) → pound.at l ≡ false
no_pound l f = go (pound.at l) refl
  where
    go : (b : Bool) → pound.at l ≡ b → b ≡ false
    go true h = absurd (f (sign_first 35 [] (λ z. (item_kind z ≡ None) × (macro.reads z ≡ None)) pound_nothing l h))
    go false h = refl

item_there : (ts : List Tok) → is_item_toks ts ≡ true → (k : ItemKind) × (find_item ts ≡ Some (k, []))
unfolding is_item_toks
item_there ts h = go (all_of (find_item ts)) refl h
  where
    go : (o : Option ItemKind) → all_of (find_item ts) ≡ o → is_some o ≡ true → (k : ItemKind) × (find_item ts ≡ Some (k, []))
    go None f g = absurd cc
    go (Some k) f g = (k, all_some (find_item ts) k f)

pub item_back : (ats : List AttributeTree) (ts r : List Tok) → attributes_outer ats ≡ true → is_item_toks ts ≡ true → ReadBack (item ats ts) r
item_back ats ts r a h =
    let (k, f) = item_there ts h in
    let g = item_longer ts r k f in
    let q = no_pound (ts ++ r) (λ z. let d : None ≡ Some k = sym z.0 ∙ (found_parts (ts ++ r) k r g).0 in cc) in
    is_item {ts = ts} {ats = ats} {k = k} (attributes_back ats (ts ++ r) a q) g

ends_there : (s b d : Bool) → s || b ≡ true → d ≡ false → s || (b && not d) ≡ true
ends_there true b d h f = refl
ends_there false b d h f = rw (h, f) refl

pub macro_back : (ats : List AttributeTree) (m : MacroTree) (s : Bool) (r : List Tok) → attributes_outer ats ≡ true → macro_fits m ≡ true → s || is_brace_delimiter m.delimiter ≡ true
    → dotted r ≡ false → (s ≡ false → semi.at r ≡ false) → ReadBack (mac ats m s) r
macro_back ats m s r a f b d n =
    let h = semi_if s r in
    let g = parts_read_back.macros m h f in
    let z : Alike 0 macro macro = macro_alike in
    let q = no_pound (macro_own m h) (λ w. let c : None ≡ Some (m, h) = sym w.1 ∙ z.complete (macro_own m h) m h g in cc) in
    is_macro {ats = ats} {x = m} {s = s} (attributes_back ats (macro_own m h) a q) g (ends s b) (semi_past s r n)
  where
    ends : (s : Bool) → s || is_brace_delimiter m.delimiter ≡ true → ends_macro s m (semi_if s r) ≡ true
    ends true b = refl
    ends false b = ends_there false (is_brace_delimiter m.delimiter) (dotted r) b d

-- ---- expressions

-- what leads a tree, as printed
sole_fill : (t : Tree) → sole_macro (fill t) ≡ sole_macro t
sole_fill (leaf (e.mac y)) = refl
sole_fill (leaf k) = refl
sole_fill (attributed a ats t) = sole_fill t
sole_fill _ = refl

sole_bare : (t : Tree) (c : Context) (y : MacroTree) → sole_macro (clear (bare c t)) ≡ Some y → sole_macro t ≡ Some y
sole_bare (leaf (e.mac z)) c y h = h
sole_bare (leaf k) c y h = absurd cc
sole_bare (attributed a ats t) c y h = go (is_operation t) (λ g. sole_bare t (attributed_context c) y g) h
  where
    go : (b : Bool) → (sole_macro (clear (bare (attributed_context c) t)) ≡ Some y → sole_macro t ≡ Some y)
        → sole_macro (clear (put b (bare enclosed t) (bare (attributed_context c) t))) ≡ Some y → sole_macro t ≡ Some y
    go true again g = absurd cc
    go false again g = again g
sole_bare _ c y h = absurd cc

sole_printed : (t : Tree) (y : MacroTree) → sole_macro (clear (printed in_statement t)) ≡ Some y → sole_macro t ≡ Some y
sole_printed t y h = go (place_asks lev.Jump in_statement (fill t)) h
  where
    go : (b : Bool) → sole_macro (clear (put b (bare enclosed (fill t)) (bare in_statement (fill t)))) ≡ Some y → sole_macro t ≡ Some y
    go true g = absurd cc
    go false g = sym (sole_fill t) ∙ sole_bare (fill t) in_statement y g

free_clear : (b : Bool) (t : Tree) → free b (clear t) ≡ free b t
free_clear b (leaf (e.mac y)) = refl
free_clear b (leaf k) = refl
free_clear b (attributed a ats t) = free_clear b t
free_clear b (infixed x k y) = free_clear true x
free_clear b (postfixed x k) = free_clear true x
free_clear b (tail x k ks) = free_clear (is_parenthesis_or_bracket k) x
free_clear b _ = refl

printed_free : (t : Tree) → is_well_formed t ≡ true → free false (clear (printed in_statement t)) ≡ true
unfolding is_well_formed
printed_free t w = free_clear false (printed in_statement t) ∙ leads_free (printed in_statement t) lev.Jump false false next.End (printed_good (fill t) in_statement (formed_fill t w))

-- The printed expression is there before the rest, and may end there.
pub record Ended (t : Tree) (s : Bool) (r : List Tok) : Type 0 where
  pub stands : StandsPrinted as_statement t (semi_if s r)
  pub ending : may_end (clear (printed in_statement t)) s (semi_if s r) ≡ true
  pub past : s ≡ false → semi.at r ≡ false

pub with_semi : (t : Tree) (r : List Tok) → is_well_formed t ≡ true → Ended t true r
with_semi t r w = record {
  stands = (printed_stands as_statement t (alone 59 ∷ r) w (ap (λ b. is_empty (alone 59 ∷ r) || b) (semi_first r).0)).1;
  ending = refl;
  past = λ h. absurd cc;
}

nothing_semi : semi.at [] ≡ false
unfolding sign_at
nothing_semi = refl

pub without_semi : (t : Tree) → is_well_formed t ≡ true → Ended t false []
without_semi t w = record { stands = (printed_stands as_statement t [] w refl).1; ending = refl; past = λ h. nothing_semi }

pub behind_block : (t : Tree) (r : List Tok) → is_well_formed t ≡ true → is_block_like t ≡ true → dotted r ≡ false → word_at (codes "else") r ≡ false → semi.at r ≡ false → Ended t false r
behind_block t r w b d f g = record {
  stands = printed_stand.blocks t r w b d f;
  ending = rw (block_clear (printed in_statement t) ∙ printed_block t b) (ends (is_empty r) (is_braced_macro (clear (printed in_statement t))));
  past = λ h. g;
}
  where
    ends : (a c : Bool) → a || not (not c && not true) ≡ true
    ends a c = ap (λ x. a || not x) (and-false (not c)) ∙ or-true a

begins_from : (l : List Tok) → (let_word.at l ≡ false) × (macro_stmt_at l ≡ false) → expr_begins l ≡ true
unfolding expr_begins
begins_from l h = rw (h.1, h.0) refl

-- what is a macro that would be a statement by itself is none here
pub expr_back : (t : Tree) (s : Bool) (r : List Tok) → is_well_formed t ≡ true → Ended t s r
    → ((y : MacroTree) → sole_macro t ≡ Some y → (s ≡ false) × (is_brace_delimiter y.delimiter ≡ false)) → ReadBack (expr t s) r
expr_back t s r w d c =
    let x = printed in_statement t in
    let h = semi_if s r in
    let q = semi_is s r d.past in
    let f = fronted d.stands.node (ending_calm (clear x) h (subst (λ z. may_end (clear x) z h ≡ true) (sym q) d.ending)) in
    let g = f.led.safe false (printed_free t w) (λ y i. let j = c y (sole_printed t y i) in rw (q, j.0, j.1) refl) in
    is_expr {s = s} f.attributes f.behind (begins_from f.tokens g) d.stands (semi_past s r d.past) d.ending

-- ---- `let` statements

-- no pattern and no type goes on there
pattern_ends : (r : List Tok) → (ends_patterns (alone 59 ∷ r) ≡ true) × (ends_patterns (alone 61 ∷ r) ≡ true) × (plus.at (alone 59 ∷ r) ≡ false) × (plus.at (alone 61 ∷ r) ≡ false)
    × (colon.at (alone 59 ∷ r) ≡ false) × (colon.at (alone 61 ∷ r) ≡ false)
unfolding front_tests
pattern_ends r = (refl, refl, refl, refl, refl, refl)

none_taken : (l m : List Tok) → outer_attributes.behind [] l ≡ Some m → l ≡ m
unfolding outer_attributes more fix iterate
none_taken l m g = go (pound.at l) g
  where
    go : (b : Bool) → cond b (cond b None None) (Some l) ≡ Some m → l ≡ m
    go true h = absurd cc
    go false h = some_is h

arg_pattern : (z : PatTree) (l r : List Tok) → let_fits z ≡ true → closure_arg.behind z l ≡ Some r → let_pattern.behind z l ≡ Some r
unfolding closure_arg let_pattern
arg_pattern (p.attributed a more z) l r f h = absurd cc
arg_pattern z l r f h =
    let (m, i, j) = behind_some (outer_attributes.behind [] l) (λ m. pieces.behind (from_typed z) m) r h in
    subst (λ w. pieces.behind (from_typed z) w ≡ Some r) (sym (none_taken l m i)) j

let_back : (z : PatTree) (r : List Tok) → let_fits z ≡ true → ends_patterns r ≡ true → plus.at r ≡ false → colon.at r ≡ false → let_pattern.behind z (pat_own z r) ≡ Some r
let_back (p.attributed a more z) r f g h i = absurd cc
let_back z r f g h i = arg_pattern z (pat_own z r) r f (closure_arg_back z r f (parts_end.closure_args z r g h i))

-- ---- initialisers

let_first : (l : List Tok) → (let_word.at (ident (codes "let") ∷ l) ≡ true) × (pound.at (ident (codes "let") ∷ l) ≡ false) × (else_word.at (ident (codes "else") ∷ l) ≡ true)
unfolding sign_at word_at
let_first l = (refl, refl, refl)

-- a pair of parentheses stands before `else`
pair_ends : (x : Tree) (l : List Tok) → (ends plain (paren false x) (ident (codes "else") ∷ l) ≡ true) × (closes plain (paren false x) (ident (codes "else") ∷ l) ≡ true)
unfolding front_tests
pair_ends x l = (refl, refl)

pair_stands : (t : Tree) (l : List Tok) → is_well_formed t ≡ true
    → Stands plain (own (paren true (printed enclosed t)) (ident (codes "else") ∷ l)) (clear (paren true (printed enclosed t))) (ident (codes "else") ∷ l)
pair_stands t l w =
    let x = printed enclosed t in
    let d = (printed_stands in_plain t [] w refl).1 in
    let (f, g) = pair_ends (clear x) l in
    record {
      node = is_paren (subst (λ (z : List Tok). Node plain z (clear x) []) (sym (toks-inside (own x []))) d.node) d.ending d.closing;
      ending = f;
      closing = g;
    }

mutual
  brace_clear : (b : Bool) (t : Tree) → tree_brace b (clear t) ≡ tree_brace b t
  brace_clear b (leaf k) = refl
  brace_clear b (paren m t) = refl
  brace_clear b (attributed a ats t) = brace_clear (is_nil (outers (a ∷ ats)) && b) t
  brace_clear b (prefixed k gs t) = brace_clear (prefix_brace k) t
  brace_clear b (infixed x k y) = brace_clear false y
  brace_clear b (postfixed x k) = refl
  brace_clear b (tail x k ks) = refl
  brace_clear b (frame k ks) = ap (frame_brace k) (children_brace_clear (frame_head_brace k) ks)

  children_brace_clear : (b : Bool) (ks : Children) → children_brace b (clear_children ks) ≡ children_brace b ks
  children_brace_clear b none = refl
  children_brace_clear b (child k e.no_ending t ks) =
      ap (λ z. children_brace (operand_brace b k z) (clear_children ks)) (brace_clear (piece_brace b k) t)
      ∙ children_brace_clear (operand_brace b k (tree_brace (piece_brace b k) t)) ks
  children_brace_clear b (child k e.comma t ks) = children_brace_clear false ks
  children_brace_clear b (child k (e.braced d) t ks) = children_brace_clear true ks
  children_brace_clear b (child k (e.opened ats) t ks) = refl

pub ends_clear : (t : Tree) → ends_with_brace (clear t) ≡ ends_with_brace t
ends_clear t = sym (trailing_brace_is_last.everywhere (clear t)) ∙ brace_clear false t ∙ trailing_brace_is_last.everywhere t

abbrev Initialised : Tree → Option (List Tok) → List Tok → Type 0
Initialised x d n = SpellsInit (init_own (record { expr = x; diverge = d }) n) (Some (record { expr = clear x; diverge = d })) n

else_stands : (t : Tree) (ts n : List Tok) → is_well_formed t ≡ true → (b : Bool) → ends_with_brace (printed enclosed t) || open_end (printed enclosed t) ≡ b
    → Initialised (put b (printed enclosed t) (printed enclosed t)) (Some ts) n
else_stands t ts n w true h =
    is_let_else {l = alone 61 ∷ own (paren true (printed enclosed t)) (ident (codes "else") ∷ block_own ts n)} (semi_first _).2 (pair_stands t (block_own ts n) w) refl (let_first _).2
    (parts_read_back.blocks ts n)
else_stands t ts n w false h =
    let x = printed enclosed t in
    let m = ident (codes "else") ∷ block_own ts n in
    is_let_else {l = alone 61 ∷ own x m} (semi_first _).2 (closed_stand t m w h (let_first _).2) (ends_clear x ∙ (or_parts (ends_with_brace x) (open_end x) h).0) (let_first _).2
    (parts_read_back.blocks ts n)

init_back : (t : Tree) (d : Option (List Tok)) (r : List Tok) → is_well_formed t ≡ true → Initialised (diverging d (printed enclosed t)) d (alone 59 ∷ r)
init_back t None r w =
    is_init {l = alone 61 ∷ own (printed enclosed t) (alone 59 ∷ r)} (semi_first _).2 (printed_stand.before_semi t (alone 59 ∷ r) w (semi_first r).0) (semi_first r).3
init_back t (Some ts) r w = else_stands t ts (alone 59 ∷ r) w _ refl

pub local_back : (ats : List AttributeTree) (z : PatTree) (i : Option Init) (r : List Tok) → attributes_outer ats ≡ true → let_fits z ≡ true → init_fits i ≡ true
    → ReadBack (local ats z i) r
local_back ats z None r a f g =
    let (c, d, b, u, v, w) = pattern_ends r in
    is_local {ats = ats} {p = z} {i = None} (attributes_back ats (ident (codes "let") ∷ pat_own z (alone 59 ∷ r)) a (let_first _).1) (let_first _).0
    (let_back z (alone 59 ∷ r) f c b v) (no_init (semi_first r).1) (semi_first r).0
local_back ats z (Some i) r a f g =
    let x = diverging i.diverge (printed enclosed i.expr) in
    let n = init_own (record { expr = x; diverge = i.diverge }) (alone 59 ∷ r) in
    let (c, d, b, u, v, w) = pattern_ends (own x (before_some i.diverge (λ ts l. ident (codes "else") ∷ block_own ts l) (alone 59 ∷ r))) in
    is_local {ats = ats} {p = z} {i = Some (record { expr = clear x; diverge = i.diverge })} (attributes_back ats (ident (codes "let") ∷ pat_own z n) a (let_first _).1) (let_first _).0
    (let_back z n f d u w) (init_back i.expr i.diverge r g) (semi_first r).0

-- ---- the fill-ins

outer_append : (xs ys : List AttributeTree) → attributes_outer xs ≡ true → attributes_outer ys ≡ true → attributes_outer (xs ++ ys) ≡ true
outer_append [] ys f g = g
outer_append (x ∷ xs) ys f g = let (a, b) = and_parts (not x.inner) (attributes_outer xs) f in and_from (not x.inner) _ a (outer_append xs ys b g)

abbrev CalledFits : Tree → List AttributeTree × MacroTree → Type 0
CalledFits t q = (attributes_outer q.0 ≡ true) × (macro_fits q.1 ≡ true) × (sole_macro t ≡ Some q.1)

called_fits : (t : Tree) (q : List AttributeTree × MacroTree) → well t ≡ true → called t ≡ Some q → CalledFits t q
called_fits (leaf (e.mac y)) q w h = subst (CalledFits (leaf (e.mac y))) (some_is h) (refl, w, refl)
called_fits (leaf k) q w h = absurd cc
called_fits (attributed a ats t) q w h = go (called t) refl h (λ z f. called_fits t z (and_parts (not (is_attributed t)) (well t) (and_parts (attributes_outer (a ∷ ats)) _ w).1).1 f)
  where
    go : (o : Option (List AttributeTree × MacroTree)) → called t ≡ o → behind (a ∷ ats) o ≡ Some q → ((z : List AttributeTree × MacroTree) → called t ≡ Some z → CalledFits t z) → CalledFits (attributed a ats t) q
    go None f g again = absurd cc
    go (Some z) f g again =
        let d = again z f in
        subst (CalledFits (attributed a ats t)) (some_is g) (outer_append (a ∷ ats) z.0 (and_parts (attributes_outer (a ∷ ats)) _ w).0 d.0, d.1, d.2)
called_fits _ q w h = absurd cc

sole_called : (t : Tree) (y : MacroTree) → sole_macro t ≡ Some y → called t ≡ None → ⊥
sole_called (leaf (e.mac z)) y h f = absurd cc
sole_called (leaf k) y h f = absurd cc
sole_called (attributed a ats t) y h f = sole_called t y h (go (called t) f)
  where
    go : (o : Option (List AttributeTree × MacroTree)) → behind (a ∷ ats) o ≡ None → o ≡ None
    go None g = refl
    go (Some z) g = absurd cc
sole_called _ y h f = absurd cc

braced_sole : (t : Tree) → is_braced_macro t ≡ true → (y : MacroTree) × (sole_macro t ≡ Some y) × (is_brace_delimiter y.delimiter ≡ true)
braced_sole (leaf (e.mac y)) h = (y, refl, h)
braced_sole (attributed a ats t) h = braced_sole t h
braced_sole _ h = absurd cc

-- the expression or the macro that it is
completed_back : (t : Tree) (s : Bool) (r : List Tok) → is_well_formed t ≡ true → (is_braced_macro t ≡ false → Ended t s r) → dotted r ≡ false → (s ≡ false → semi.at r ≡ false)
    → (o : Option (List AttributeTree × MacroTree)) → called t ≡ o → ReadBack (expr_or_macro o t s) r
unfolding is_well_formed
completed_back t s r w d n p None q = expr_back t s r w (d (no_braces (is_braced_macro t) refl)) (λ y i. absurd (sole_called t y i q))
  where
    no_braces : (b : Bool) → is_braced_macro t ≡ b → b ≡ false
    no_braces false f = refl
    no_braces true f = let (y, g, h) = braced_sole t f in absurd (sole_called t y g q)
completed_back t s r w d n p (Some z) q = go (s || is_brace_delimiter z.1.delimiter) refl
  where
    fits : CalledFits t z
    fits = called_fits t z w q

    same : (y : MacroTree) → sole_macro t ≡ Some y → y ≡ z.1
    same y i = some_is (sym i ∙ fits.2)

    no_braces : is_brace_delimiter z.1.delimiter ≡ false → (b : Bool) → is_braced_macro t ≡ b → b ≡ false
    no_braces k false f = refl
    no_braces k true f = let (y, g, h) = braced_sole t f in absurd (let c : true ≡ false = sym h ∙ ap (λ (m : MacroTree). is_brace_delimiter m.delimiter) (same y g) ∙ k in cc)

    go : (b : Bool) → s || is_brace_delimiter z.1.delimiter ≡ b → ReadBack (cond b (mac z.0 z.1 s) (expr t s)) r
    go true h = macro_back z.0 z.1 s r fits.0 fits.1 h n p
    go false h =
        let (f, g) = or_parts s (is_brace_delimiter z.1.delimiter) h in
        expr_back t s r w (d (no_braces g (is_braced_macro t) refl)) (λ y i. (f, ap (λ (m : MacroTree). is_brace_delimiter m.delimiter) (same y i) ∙ g))

-- ---- lists

nothing_own : (ss : List Stmt) → is_nil ss ≡ true → stmts_own (each_printed (complete ss)) ≡ []
nothing_own [] h = refl
nothing_own (s ∷ ss) h = absurd cc

expr_ended : (t : Tree) (s : Bool) (ss : List Stmt) → is_well_formed t ≡ true → dotted (stmts_own (each_printed (complete ss))) ≡ false → word_at (codes "else") (stmts_own (each_printed (complete ss))) ≡ false
    → (s ≡ false → semi.at (stmts_own (each_printed (complete ss))) ≡ false) → is_braced_macro t ≡ false → Ended t (s || (requires_semi_to_be_stmt t && not (is_nil ss))) (stmts_own (each_printed (complete ss)))
expr_ended t true ss w n f p b = with_semi t _ w
expr_ended t false ss w n f p b = by_last (is_nil ss) refl
  where
    by_block : (c : Bool) → is_block_like t ≡ c → Ended t ((not (is_braced_macro t) && not c) && true) (stmts_own (each_printed (complete ss)))
    by_block true g = rw b (behind_block t _ w g n f (p refl))
    by_block false g = rw b (with_semi t _ w)

    by_last : (c : Bool) → is_nil ss ≡ c → Ended t (requires_semi_to_be_stmt t && not c) (stmts_own (each_printed (complete ss)))
    by_last true g =
        subst (λ l. Ended t (requires_semi_to_be_stmt t && false) l) (sym (nothing_own ss g)) (subst (λ c. Ended t c []) (sym (and-false (requires_semi_to_be_stmt t))) (without_semi t w))
    by_last false g = by_block (is_block_like t) refl

-- a `;` alone stays one
begins_same : (ss : List Stmt) → begins_empty (stmts_by clear (each_printed (complete ss))) ≡ begins_empty ss
begins_same [] = refl
begins_same (empty ∷ ss) = refl
begins_same (local ats z i ∷ ss) = refl
begins_same (item ats ts ∷ ss) = refl
begins_same (mac ats m s ∷ ss) = refl
begins_same (expr t s ∷ ss) = by_called (called t) (s || (requires_semi_to_be_stmt t && not (is_nil ss)))
  where
    by_braces : (b : Bool) (ats : List AttributeTree) (m : MacroTree) (s : Bool) → begins_empty (stmt_by clear (printed_stmt (cond b (mac ats m s) (expr t s))) ∷ stmts_by clear (each_printed (complete ss))) ≡ false
    by_braces true ats m s = refl
    by_braces false ats m s = refl

    by_called : (o : Option (List AttributeTree × MacroTree)) (s : Bool) → begins_empty (stmt_by clear (printed_stmt (expr_or_macro o t s)) ∷ stmts_by clear (each_printed (complete ss))) ≡ false
    by_called None s = refl
    by_called (Some (ats, m)) s = by_braces (s || is_brace_delimiter m.delimiter) ats m s

one_back : (s : Stmt) (ss : List Stmt) → stmt_fits s ≡ true → (lacks_semi s ≡ true → semi.at (stmts_own (each_printed (complete ss))) ≡ false)
    → dotted (stmts_own (each_printed (complete ss))) ≡ false → word_at (codes "else") (stmts_own (each_printed (complete ss))) ≡ false
    → ReadBack (complete_stmt (is_nil ss) s) (stmts_own (each_printed (complete ss)))
one_back empty ss h p n f = empty_back _
one_back (local ats z i) ss h p n f =
    let (a, b) = and_parts (attributes_outer ats) _ h in
    let (c, d) = and_parts (let_fits z) (init_fits i) b in
    local_back ats z i _ a c d
one_back (item ats ts) ss h p n f = let (a, b) = and_parts (attributes_outer ats) _ h in item_back ats ts _ a b
one_back (mac ats m s) ss h p n f =
    let (a, b) = and_parts (attributes_outer ats) _ h in
    let (c, d) = and_parts (macro_fits m) _ b in
    macro_back ats m s _ a c d n (λ g. p (ap not g))
one_back (expr t s) ss h p n f =
    completed_back t (s || (requires_semi_to_be_stmt t && not (is_nil ss))) _ h (expr_ended t s ss h n f (λ g. p (ap not g))) n
    (λ g. p (ap not (or_parts s (requires_semi_to_be_stmt t && not (is_nil ss)) g).0)) (called t) refl

not_both : (a b : Bool) → not (a && b) ≡ true → a ≡ true → b ≡ false
not_both true true h f = absurd cc
not_both true false h f = refl
not_both false b h f = absurd cc

spelled : (ss : List Stmt) → stmts_fit ss ≡ true → SpellsStmts (stmts_toks ss) (stmts_by clear (printed_stmts ss))
spelled [] h = no_stmts
spelled (s ∷ ss) h =
    let (a, b) = and_parts (stmt_fits s) _ h in
    let (c, d) = and_parts (not (lacks_semi s && begins_empty ss)) (stmts_fit ss) b in
    let rest = spelled ss d in
    let r = rest_starts _ _ rest in
    more_stmts (one_back s ss a (λ f. by_first (lacks_semi s) f c (semi.at (stmts_own (each_printed (complete ss)))) r.only_semi) r.no_dot r.no_else) rest
  where
    by_first : (k : Bool) → k ≡ true → not (k && begins_empty ss) ≡ true → (b : Bool) → (b ≡ true → begins_empty (stmts_by clear (each_printed (complete ss))) ≡ true) → b ≡ false
    by_first k f c false g = refl
    by_first k f c true g = absurd (let q : true ≡ false = sym (g refl) ∙ begins_same ss ∙ not_both k (begins_empty ss) c f in cc)

-- ---- the same list

fits_complete : (s : Stmt) (last : Bool) → stmt_fits s ≡ true → stmt_fits (complete_stmt last s) ≡ true
unfolding is_well_formed
fits_complete empty last h = h
fits_complete (local ats z i) last h = h
fits_complete (item ats ts) last h = h
fits_complete (mac ats m s) last h = h
fits_complete (expr t s) last h = by_called (called t) refl (s || (requires_semi_to_be_stmt t && not last))
  where
    by_braces : (b : Bool) (ats : List AttributeTree) (m : MacroTree) (s : Bool) → s || is_brace_delimiter m.delimiter ≡ b → CalledFits t (ats, m) → stmt_fits (cond b (mac ats m s) (expr t s)) ≡ true
    by_braces true ats m s g d = and_from (attributes_outer ats) _ d.0 (and_from (macro_fits m) _ d.1 g)
    by_braces false ats m s g d = h

    by_called : (o : Option (List AttributeTree × MacroTree)) → called t ≡ o → (s : Bool) → stmt_fits (expr_or_macro o t s) ≡ true
    by_called None q s = h
    by_called (Some z) q s = by_braces (s || is_brace_delimiter z.1.delimiter) z.0 z.1 s refl (called_fits t z h q)

put_flat : (b : Bool) (x : Tree) → flatten (clear (put b x x)) ≡ flatten (clear x)
put_flat true x = refl
put_flat false x = refl

printed_flat : (c : Context) (t : Tree) → is_well_formed t ≡ true → flatten (clear (printed c t)) ≡ flatten (fill t)
printed_flat c t w = flatten_clear (printed c t) ∙ printed_is_same c t w

init_flat : (i : Init) → is_well_formed i.expr ≡ true → flatten (clear (diverging i.diverge (printed enclosed i.expr))) ≡ flatten (fill i.expr)
init_flat i w = by_diverge i.diverge ∙ printed_flat enclosed i.expr w
  where
    by_diverge : (d : Option (List Tok)) → flatten (clear (diverging d (printed enclosed i.expr))) ≡ flatten (clear (printed enclosed i.expr))
    by_diverge None = refl
    by_diverge (Some ts) = put_flat (ends_with_brace (printed enclosed i.expr) || open_end (printed enclosed i.expr)) (printed enclosed i.expr)

one_flat : (s : Stmt) → stmt_fits s ≡ true → stmt_by flatten (stmt_by clear (printed_stmt s)) ≡ stmt_by flatten (stmt_by fill s)
one_flat empty h = refl
one_flat (local ats z None) h = refl
one_flat (local ats z (Some i)) h =
    let (a, b) = and_parts (attributes_outer ats) _ h in
    let (c, d) = and_parts (let_fits z) (is_well_formed i.expr) b in
    ap (λ x. local ats z (Some (record { expr = x; diverge = i.diverge }))) (init_flat i d)
one_flat (item ats ts) h = refl
one_flat (mac ats m s) h = refl
one_flat (expr t s) h = ap (λ x. expr x s) (printed_flat in_statement t h)

same_list : {x y : Stmt} {xs ys : List Stmt} → x ≡ y → xs ≡ ys → ◌≡◌ {A = List Stmt} (x ∷ xs) (y ∷ ys)
same_list p q = cc

same : (ss : List Stmt) → stmts_fit ss ≡ true → IsSameList ss (stmts_by clear (printed_stmts ss))
same [] h = refl
same (s ∷ ss) h =
    let (a, b) = and_parts (stmt_fits s) _ h in
    let (c, d) = and_parts (not (lacks_semi s && begins_empty ss)) (stmts_fit ss) b in
    same_list (one_flat (complete_stmt (is_nil ss) s) (fits_complete s (is_nil ss) a)) (same ss d)

pub read_back : PrintedIsReadBack
read_back = record { spelled = spelled; same = same }

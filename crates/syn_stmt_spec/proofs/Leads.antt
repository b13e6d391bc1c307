-- What leads an expression: whether a `let` or a macro that would be a statement by itself does, and what that comes before.
use Rattle.std.specs.Prelude.{not, ◌||◌, ◌&&◌, ◌==◌, is_some}
use Rattle.std.proofs.Common.{◌≡◌, ℕ, Bool, true, false, cond, ⊎_elim, List, [], ◌∷◌, drop, codes, Option, Some, None, refl, ap, sym, ◌∙◌, subst}
use Rattle.std.proofs.Math.Bool.{and-false}
use Rattle.std.proofs.lemmas.Bool.{and_parts, or_parts, or_from, not-true}
use Rattle.syn_lexer.specs.Keywords.{is_reserved_word}
use Rattle.syn_lexer.specs.declared.front.Delimiter.{Delimiter}
use Rattle.syn_lexer.specs.declared.front.Delimiter.TheVariants as del
use Rattle.syn_lexer.specs.declared.front.Spacing.{Spacing}
use Rattle.syn_lexer.specs.declared.front.Spacing.TheVariants as spacing
use Rattle.syn_tokens.specs.Tok.{Tok, Inside, ident, punct, literal, group, inside}
use Rattle.syn_tokens.specs.Front.{group_at, is_empty}
use Rattle.syn_lower_spec.specs.Tree.{AttributeTree}
use Rattle.syn_lower_spec.specs.Form.{Test, Outcome, more, fix, iterate}
use Rattle.syn_lower_spec.specs.Mark.{sign_at, word_at, semi, pound, not_ne}
use Rattle.syn_lower_spec.specs.Part.{MacroTree, macro, outer_attributes}
use Rattle.syn_lower_spec.specs.Pat.{an_index}
use Rattle.syn_lower_spec.proofs.Ends.{sign_first}
use Rattle.syn_lower_spec.proofs.Forms.{behind_some}
use Rattle.syn_lower_spec.proofs.PatsBack.{attributes_back}
use Rattle.syn_lower_spec.proofs.Weights.{some_is}
use Rattle.syn_expr_spec.specs.declared.kinds.Infix.{Infix}
use Rattle.syn_expr_spec.specs.declared.kinds.Place.{Place}
use Rattle.syn_expr_spec.specs.Op.{infix_at}
use Rattle.syn_expr_spec.specs.Front.{dot_at, question_at}
use Rattle.syn_expr_spec.specs.Path.{invisible_at}
use Rattle.syn_expr_spec.specs.Slot as slot
use Rattle.syn_expr_spec.specs.Slot.{Slot, within, frame_head, frame_holder, trailer_holder, if_word, while_word, for_word, match_word, for_head}
use Rattle.syn_expr_spec.specs.Head.{leaf_form, let_word, label}
use Rattle.syn_expr_spec.specs.Tree as e
use Rattle.syn_expr_spec.specs.Tree.{Tree, Children, Leaf, Frame, Trailer, leaf, attributed, prefixed, infixed, postfixed, tail, frame, none, postfix_op}
use Rattle.syn_expr_spec.specs.Stands.{Node, is_leaf, is_become, is_attributed_verbatim, is_paren, is_attributed_by, is_prefixed, is_infixed, is_postfixed, is_tail, is_indexed, is_frame, Content, holds_within, Stands, is_parenthesis_or_bracket, trailer_head, fields_head, fields_of}
use Rattle.syn_expr_spec.specs.Rule.{is_brace_delimiter}
use Rattle.syn_expr_spec.specs.Binding.{requires_semi_to_be_stmt}
use Rattle.syn_expr_spec.proofs.Fronts.{word_is}
use Rattle.syn_expr_spec.proofs.NameFronts.{path_named, label_past}
use Rattle.syn_expr_spec.proofs.Needs.{heads}
use Rattle.syn_expr_spec.proofs.ReadTrailers.{pound_there, pound_behind}
use Rattle.syn_stmt_spec.specs.Spells.{ends_macro, is_macro_stmt, macro_stmt_at, item_at, may_end}
use Rattle.syn_stmt_spec.specs.Laws.{NoExpressionBeginsItem}
use Rattle.syn_stmt_spec.proofs.Paths.{path_there}
use Rattle.syn_stmt_spec.proofs.Fronts.{Opens, Head, at_word, words, labelled, group_first, closure_front, prefix_head, AnyHead, some_head, leads_let, let_is, punct_quiet, calm, path_head, path_leaf, leaf_head, Called, called_parts, called_is, called_only, called_opens, mac_named, not_named, is_name}

-- ---- behind an operand

record Behind (m : List Tok) : Type 0 where
  is_calm : calm m ≡ true
  no_semi : semi.at m ≡ false

-- whether `.` or `?` comes next
abbrev pub dotted : Test
dotted l = dot_at l || question_at l

record Operated (m : List Tok) : Type 0 where
  behind : Behind m
  no_dot : dotted m ≡ false

as_behind : (l : List Tok) → Operated (ident (codes "as") ∷ l)
unfolding dot_at question_at sign_at word_at is_reserved_word
as_behind l = record { behind = record { is_calm = refl; no_semi = refl }; no_dot = refl }

bang_alone : (s : Spacing) (m : List Tok) → not_ne.at (punct 33 s ∷ m) ≡ true → infix_at (punct 33 s ∷ m) ≡ None
unfolding infix_at sign_at word_at
bang_alone spacing.Alone m g = refl
bang_alone spacing.Joint m g = rw (not-true _ g) refl

other_signs : (s : Spacing) (m : List Tok) → (infix_at (punct 59 s ∷ m) ≡ None) × (infix_at (punct 63 s ∷ m) ≡ None)
unfolding infix_at sign_at word_at
other_signs spacing.Alone m = (refl, refl)
other_signs spacing.Joint m = (refl, refl)

one_dot : (s : Spacing) (m : List Tok) → dot_at (punct 46 s ∷ m) ≡ true → infix_at (punct 46 s ∷ m) ≡ None
unfolding infix_at dot_at sign_at word_at
one_dot spacing.Alone m g = refl
one_dot spacing.Joint (punct d spacing.Alone ∷ m) g = by_dot (d == 46) refl
  where
    by_dot : (b : Bool) → (d == 46) ≡ b → infix_at (punct 46 spacing.Joint ∷ punct d spacing.Alone ∷ m) ≡ None
    by_dot true f = absurd (let r : false ≡ true = rw f at g in cc)
    by_dot false f = rw f refl
one_dot spacing.Joint (punct d spacing.Joint ∷ m) g = by_dot (d == 46) refl
  where
    by_dot : (b : Bool) → (d == 46) ≡ b → infix_at (punct 46 spacing.Joint ∷ punct d spacing.Joint ∷ m) ≡ None
    by_dot true f = absurd (let r : false ≡ true = rw f at g in cc)
    by_dot false f = rw f refl
one_dot spacing.Joint [] g = refl
one_dot spacing.Joint (ident w ∷ m) g = refl
one_dot spacing.Joint (literal w ∷ m) g = refl
one_dot spacing.Joint (group d i ∷ m) g = refl

no_infix : (w : List ℕ) (d : Delimiter) (i : Inside) (l : List Tok) → (infix_at [] ≡ None) × (infix_at (literal w ∷ l) ≡ None) × (infix_at (group d i ∷ l) ≡ None)
unfolding infix_at sign_at word_at
no_infix w d i l = (refl, refl, refl)

no_word_infix : (w : List ℕ) (l : List Tok) → word_at (codes "as") (ident w ∷ l) ≡ false → infix_at (ident w ∷ l) ≡ None
unfolding infix_at sign_at
no_word_infix w l h = rw h refl

no_operator : (l : List Tok) (p : Infix × ℕ) (b : Bool) → (b ≡ true → infix_at l ≡ None) → infix_at l ≡ Some p → b ≡ false
no_operator l p true f h = absurd (let r : None ≡ Some p = sym (f refl) ∙ h in cc)
no_operator l p false f h = refl

pub question_sign : (l : List Tok) → question_at l ≡ true → sign_at (codes "?") l ≡ true
unfolding question_at
question_sign l h = h

pub dot_sign : (l : List Tok) → dot_at l ≡ true → sign_at (codes ".") l ≡ true
unfolding dot_at
dot_sign l h = (and_parts (sign_at (codes ".") l) _ h).0

bang_none : (l : List Tok) → not_ne.at l ≡ true → infix_at l ≡ None
bang_none l h = sign_first 33 [] (λ z. not_ne.at z ≡ true → infix_at z ≡ None) bang_alone l (and_parts (sign_at (codes "!") l) _ h).0 h

dot_none : (l : List Tok) → dot_at l ≡ true → infix_at l ≡ None
dot_none l h = sign_first 46 [] (λ z. dot_at z ≡ true → infix_at z ≡ None) one_dot l (dot_sign l h) h

question_none : (l : List Tok) → question_at l ≡ true → infix_at l ≡ None
question_none l h = sign_first 63 [] (λ z. infix_at z ≡ None) (λ s z. (other_signs s z).1) l (question_sign l h)

semi_none : (l : List Tok) → semi.at l ≡ true → infix_at l ≡ None
semi_none l h = sign_first 59 [] (λ z. infix_at z ≡ None) (λ s z. (other_signs s z).0) l h

sign_operated : (c : ℕ) (s : Spacing) (l : List Tok) (p : Infix × ℕ) → infix_at (punct c s ∷ l) ≡ Some p → Operated (punct c s ∷ l)
sign_operated c s l p h =
    let m = punct c s ∷ l in
    let b = no_operator m p (not_ne.at m) (bang_none m) h in
    record {
      behind = record { is_calm = ap (λ t. t && not (not_ne.at m)) (punct_quiet c s l) ∙ ap not b; no_semi = no_operator m p (semi.at m) (semi_none m) h };
      no_dot = or_from (dot_at m) (question_at m) (no_operator m p (dot_at m) (dot_none m) h) (no_operator m p (question_at m) (question_none m) h);
    }

-- an operator comes next
operated : (m : List Tok) (p : Infix × ℕ) → infix_at m ≡ Some p → Operated m
operated [] p h = absurd (let r : None ≡ Some p = sym (no_infix [] del.None (inside []) []).0 ∙ h in cc)
operated (ident w ∷ l) p h = by_as (word_at (codes "as") (ident w ∷ l)) refl
  where
    by_as : (b : Bool) → word_at (codes "as") (ident w ∷ l) ≡ b → Operated (ident w ∷ l)
    by_as true f = subst Operated (sym (word_is (codes "as") (ident w ∷ l) f)) (as_behind l)
    by_as false f = absurd (let r : None ≡ Some p = sym (no_word_infix w l f) ∙ h in cc)
operated (punct c s ∷ l) p h = sign_operated c s l p h
operated (literal w ∷ l) p h = absurd (let r : None ≡ Some p = sym (no_infix w del.None (inside []) l).1 ∙ h in cc)
operated (group d i ∷ l) p h = absurd (let r : None ≡ Some p = sym (no_infix [] d i l).2 ∙ h in cc)

-- ---- behind the base of a trailer

record Trailed (c : Bool) (m : List Tok) : Type 0 where
  behind : Behind m
  is_dotted : dotted m ≡ not c

group_trailed : (d : Delimiter) (m : List Tok) (g : List Tok × List Tok) → group_at d m ≡ Some g → Trailed true m
unfolding group_at dot_at question_at sign_at word_at
group_trailed d (group found i ∷ m) g h = record { behind = record { is_calm = refl; no_semi = refl }; is_dotted = refl }
group_trailed d [] g h = absurd cc
group_trailed d (ident w ∷ m) g h = absurd cc
group_trailed d (punct c s ∷ m) g h = absurd cc
group_trailed d (literal w ∷ m) g h = absurd cc

question_trailed : (s : Spacing) (l : List Tok) → Trailed false (punct 63 s ∷ l)
unfolding dot_at question_at sign_at word_at
question_trailed spacing.Alone l = record { behind = record { is_calm = refl; no_semi = refl }; is_dotted = refl }
question_trailed spacing.Joint l = record { behind = record { is_calm = refl; no_semi = refl }; is_dotted = refl }

dot_behind : (s : Spacing) (l : List Tok) → Behind (punct 46 s ∷ l)
unfolding sign_at word_at
dot_behind spacing.Alone l = record { is_calm = refl; no_semi = refl }
dot_behind spacing.Joint l = record { is_calm = refl; no_semi = refl }

dot_trailed : (m : List Tok) → dot_at m ≡ true → Trailed false m
dot_trailed m h = record { behind = sign_first 46 [] Behind dot_behind m (dot_sign m h); is_dotted = ap (λ b. b || question_at m) h }

test_of : {A : Type 0} (b : Bool) (o : Option A) (y : A) → cond b o None ≡ Some y → b ≡ true
test_of true o y h = refl
test_of false o y h = absurd cc

content_group : (d : Delimiter) (s : Slot) (z : Bool) (l n : List Tok) (ks : Children) → Content (within d s z) l ks n → (g : List Tok × List Tok) × (group_at d l ≡ Some g)
content_group d s z l n ks (holds_within {i = i} g o q) = ((i, n), g)

same_rest : (x y : List ℕ × List Tok) → Some x ≡ Some y → x.1 ≡ y.1
same_rest x y t = ap (λ (p : List ℕ × List Tok). p.1) (some_is t)

trailed : (k : Trailer) (m h n : List Tok) (is : List ℕ) (ks : Children) → trailer_head k m ≡ Some (is, h) → Content (trailer_holder k) h ks n → Trailed (is_parenthesis_or_bracket k) m
unfolding trailer_head
trailed e.call m h n is ks t c =
    let g = content_group del.Parenthesis slot.elements false h n ks c in
    group_trailed del.Parenthesis m g.0 (ap (group_at del.Parenthesis) (same_rest ([], m) (is, h) t) ∙ g.1)
trailed e.index m h n is ks t c =
    let g = content_group del.Bracket slot.single false h n ks c in
    group_trailed del.Bracket m g.0 (ap (group_at del.Bracket) (same_rest ([], m) (is, h) t) ∙ g.1)
trailed e.try_expr m h n is ks t c = sign_first 63 [] (Trailed false) question_trailed m (question_sign m (test_of (question_at m) _ _ t))
trailed _ m h n is ks t c = dot_trailed m (test_of (dot_at m) _ _ t)

no_steps : (x y : List ℕ × List Tok) (i : ℕ) (is : List ℕ) → Some x ≡ Some y → x.0 ≡ [] → y.0 ≡ i ∷ is → ⊥
no_steps x y i is t p q = let r : i ∷ is ≡ [] = sym q ∙ sym (ap (λ (z : List ℕ × List Tok). z.0) (some_is t)) ∙ p in cc

steps_dotted : (k : Trailer) (m h : List Tok) (i : ℕ) (is : List ℕ) → trailer_head k m ≡ Some (i ∷ is, h) → is_parenthesis_or_bracket k ≡ false
unfolding trailer_head
steps_dotted e.call m h i is t = absurd (no_steps ([], m) (i ∷ is, h) i is t refl refl)
steps_dotted e.index m h i is t = absurd (no_steps ([], m) (i ∷ is, h) i is t refl refl)
steps_dotted _ m h i is t = refl

fields_dotted : (m : List Tok) (y : List ℕ × List Tok) → fields_head m ≡ Some y → Trailed false m
unfolding fields_head
fields_dotted m y t = dot_trailed m (test_of (dot_at m) _ y t)

-- ---- what leads a tree

-- Before no `.` and no `?`, a macro with braces is a statement by itself.
abbrev pub leaf_free : Bool → Leaf → Bool
leaf_free b (e.mac y) = not (b && is_brace_delimiter y.delimiter)
leaf_free b _ = true

-- no `let` leads the tree, and no such macro; `b` says that neither `.` nor `?` comes next
abbrev pub free : Bool → Tree → Bool
free b (leaf k) = leaf_free b k
free b (attributed a ats t) = free b t
free b (prefixed k gs t) = not (leads_let k)
free b (infixed x k y) = free true x
free b (postfixed x k) = free true x
free b (tail x k ks) = free (is_parenthesis_or_bracket k) x
free b _ = true

abbrev leaf_macro : Leaf → Option MacroTree
leaf_macro (e.mac y) = Some y
leaf_macro _ = None

-- the macro that the tree is, behind attributes
abbrev pub sole_macro : Tree → Option MacroTree
sole_macro (leaf k) = leaf_macro k
sole_macro (attributed a ats t) = sole_macro t
sole_macro _ = None

abbrev leaf_path : Leaf → Bool
leaf_path (e.path q w) = true
leaf_path _ = false

abbrev pub sole_path : Tree → Bool
sole_path (leaf k) = leaf_path k
sole_path (attributed a ats t) = sole_path t
sole_path _ = false

-- m: behind the attributes
pub record Led (m : List Tok) (x : Tree) (n : List Tok) : Type 0 where
  pub opens : Opens m
  pub safe : (b : Bool) → free b x ≡ true → ((y : MacroTree) → sole_macro x ≡ Some y → ends_macro (semi.at n) y n ≡ false)
      → (let_word.at m ≡ false) × (macro_stmt_at m ≡ false)
  pub back : (b : Bool) → invisible_at m ≡ false → let_word.at m ≡ false → macro_stmt_at m ≡ false → (b ≡ true → dotted n ≡ false) → free b x ≡ true

no_macro_stmt : (l : List Tok) → macro.reads l ≡ None → macro_stmt_at l ≡ false
unfolding macro_stmt_at
no_macro_stmt l h = ap is_macro_stmt h

head_led : (l n : List Tok) (x : Tree) → Head false l → ((b : Bool) → free b x ≡ true) → Led l x n
head_led l n x g f = record {
  opens = g.opens;
  safe = λ b k i. (g.is_let, no_macro_stmt l g.no_macro);
  back = λ b v w u i. f b;
}

-- ---- behind an operand

sole_free : (t : Tree) (y : MacroTree) → sole_macro t ≡ Some y → free true t ≡ true → is_brace_delimiter y.delimiter ≡ false
sole_free (leaf (e.mac z)) y j k = ap (λ (w : MacroTree). is_brace_delimiter w.delimiter) (sym (some_is j)) ∙ not-true _ k
sole_free (attributed a ats t) y j k = sole_free t y j k
sole_free _ y j k = absurd cc

ends_not : (t : Tree) (y : MacroTree) (m : List Tok) (c : Bool) → semi.at m ≡ false → dotted m ≡ not c → sole_macro t ≡ Some y → free c t ≡ true → ends_macro (semi.at m) y m ≡ false
ends_not t y m true s d j k = rw (s, d, sole_free t y j k) refl
ends_not t y m false s d j k = rw (s, d) (and-false (is_brace_delimiter y.delimiter))

led_below : (c : Bool) {l m n : List Tok} {t x : Tree} → Led l t m → Trailed c m → ((b : Bool) → free b x ≡ free c t) → Led l x n
led_below c {l} {m} {n} {t} {x} d s f = record {
  opens = d.opens;
  safe = λ b k i. d.safe c (sym (f b) ∙ k) (λ y j. ends_not t y m c s.behind.no_semi s.is_dotted j (sym (f b) ∙ k));
  back = λ b v w u i. f b ∙ d.back c v w u (λ j. s.is_dotted ∙ ap not j);
}

operator_trailed : {m : List Tok} → Operated m → Trailed true m
operator_trailed o = record { behind = o.behind; is_dotted = o.no_dot }

fields_free : (is : List ℕ) (b : Bool) (t : Tree) (i : ℕ) → free b (fields_of (tail t (e.field (an_index i)) none) is) ≡ free false t
fields_free [] b t i = refl
fields_free (j ∷ is) b t i = fields_free is b (tail t (e.field (an_index i)) none) j

tail_free : (k : Trailer) (m h : List Tok) (t x : Tree) (is : List ℕ) → trailer_head k m ≡ Some (is, h) → x ≡ fields_of t is → free (is_parenthesis_or_bracket k) x ≡ free (is_parenthesis_or_bracket k) t
tail_free k m h t x [] g q = ap (free (is_parenthesis_or_bracket k)) q
tail_free k m h t x (i ∷ is) g q =
    ap (free (is_parenthesis_or_bracket k)) q ∙ fields_free is (is_parenthesis_or_bracket k) t i ∙ ap (λ b. free b t) (sym (steps_dotted k m h i is g))

-- ---- attributes

nothing_first : (l m : List Tok) → pound.at l ≡ false → outer_attributes.behind [] l ≡ Some m → l ≡ m
unfolding outer_attributes more fix iterate
nothing_first l m h g = some_is (rw h at g)

pub unpounded : (ats : List AttributeTree) (l m : List Tok) → pound.at l ≡ false → outer_attributes.behind ats l ≡ Some m → l ≡ m
unpounded [] l m h g = nothing_first l m h g
unpounded (a ∷ ats) l m h g = absurd (let r : true ≡ false = sym (pound_there a ats l m g) ∙ h in cc)

pub same_behind : (ats bts : List AttributeTree) (l m n : List Tok) → outer_attributes.behind ats l ≡ Some m → outer_attributes.behind bts l ≡ Some n → m ≡ n
same_behind ats bts l m n f g =
    ap (λ (p : List AttributeTree × List Tok). p.1) (some_is (sym (heads.outers.found l ats m f) ∙ heads.outers.found l bts n g))

pub none_there : (ats : List AttributeTree) (l m : List Tok) → outer_attributes.behind ats l ≡ Some m → outer_attributes.behind [] m ≡ Some m
none_there ats l m f = attributes_back [] m refl (pound_behind ats l m f)

-- the attributes at the front, and what comes after them
pub record Fronted (l : List Tok) (x : Tree) (n : List Tok) : Type 0 where
  pub attributes : List AttributeTree
  pub tokens : List Tok
  pub behind : outer_attributes.behind attributes l ≡ Some tokens
  pub led : Led tokens x n

led_at : {l n : List Tok} {x : Tree} → Fronted l x n → (ats : List AttributeTree) (m : List Tok) → outer_attributes.behind ats l ≡ Some m → Led m x n
led_at {l} {n} {x} f ats m a = subst (λ z. Led z x n) (same_behind f.attributes ats l f.tokens m f.behind a) f.led

-- where no attribute is first
at_front : (l n : List Tok) (x : Tree) → pound.at l ≡ false → Led l x n → Fronted l x n
at_front l n x h d = record { attributes = []; tokens = l; behind = attributes_back [] l refl h; led = d }

headed : (l n : List Tok) (x : Tree) → Head false l → ((b : Bool) → free b x ≡ true) → Fronted l x n
headed l n x g f = at_front l n x g.no_pound (head_led l n x g f)

-- ---- leaves

called_safe : (y : MacroTree) (l n : List Tok) → Called y l n → ends_macro (semi.at n) y n ≡ false → macro_stmt_at l ≡ false
unfolding macro_stmt_at
called_safe y l n c h = go (macro.reads l) refl
  where
    go : (o : Outcome MacroTree) → macro.reads l ≡ o → is_macro_stmt (macro.reads l) ≡ false
    go None q = ap is_macro_stmt q
    go (Some z) q = ap is_macro_stmt (q ∙ ap (λ p. Some p) (called_only y l n z c q)) ∙ h

braces_not : (b k s d : Bool) → s || (k && not d) ≡ false → (b ≡ true → d ≡ false) → not (b && k) ≡ true
braces_not false k s d h f = refl
braces_not true false s d h f = refl
braces_not true true s d h f = absurd (let r : not d ≡ false = (or_parts s (not d) h).1 in let q = f refl in cc)

called_back : (y : MacroTree) (l n : List Tok) (b : Bool) → Called y l n → invisible_at l ≡ false → macro_stmt_at l ≡ false → (b ≡ true → dotted n ≡ false) → not (b && is_brace_delimiter y.delimiter) ≡ true
unfolding macro_stmt_at
called_back y l n b c v u i =
    let p = called_is y l n (y.path, c.behind) c (path_there false y.path l c.behind v c.bare c.comes) in
    braces_not b (is_brace_delimiter y.delimiter) (semi.at n) (dotted n) (sym (ap is_macro_stmt p) ∙ u) i

macro_led : (y : MacroTree) (l n : List Tok) → Called y l n → Led l (leaf (e.mac y)) n
macro_led y l n c =
    let o = called_opens y l n c in
    record {
      opens = o.0;
      safe = λ b k i. (o.1, called_safe y l n c (i y refl));
      back = λ b v w u i. called_back y l n b c v u i;
    }

other_head : (k : Leaf) (l n : List Tok) → is_name k ≡ false → leaf_form.behind k l ≡ Some n → Head false l
other_head k l n h f = ⊎_elim (λ g. g) (λ g. absurd (not_named k l n h g)) (leaf_head k l n f)

leaf_fronted : (k : Leaf) (l n : List Tok) → leaf_form.behind k l ≡ Some n → (leaf_path k ≡ true → calm n ≡ true) → Fronted l (leaf k) n
leaf_fronted (e.lit x) l n f c = headed l n _ (other_head (e.lit x) l n refl f) (λ b. refl)
leaf_fronted (e.path q w) l n f c = headed l n _ (path_head false (q, w) l n (path_leaf q w l n (path_named q w l n f)) (c refl)) (λ b. refl)
leaf_fronted (e.mac y) l n f c = let g = called_parts y l n (mac_named y l n f) in at_front l n _ (called_opens y l n g).2 (macro_led y l n g)
leaf_fronted k l n f c = headed l n _ (other_head k l n refl f) (λ b. refl)

verbatim_led : (m n ts us : List Tok) → Led m (leaf (e.verbatim ts)) n → Led m (leaf (e.verbatim us)) n
verbatim_led m n ts us d = record { opens = d.opens; safe = λ b k i. d.safe b refl (λ y j. absurd cc); back = λ b v w u i. refl }

attributed_led : (a : AttributeTree) (ats : List AttributeTree) (m n : List Tok) (x : Tree) → Led m x n → Led m (attributed a ats x) n
attributed_led a ats m n x d = record { opens = d.opens; safe = d.safe; back = d.back }

-- ---- what comes before an operand, and frames

prefix_led : (k : e.Prefix) (l n : List Tok) (x : Tree) → AnyHead l → let_word.at l ≡ leads_let k → Led l (prefixed k none x) n × (pound.at l ≡ false)
prefix_led k l n x (some_head c g) q = (
  record {
    opens = g.opens;
    safe = λ b f i. (q ∙ not-true (leads_let k) f, no_macro_stmt l g.no_macro);
    back = λ b v w u i. ap not (sym q ∙ w);
  },
  g.no_pound,
)

group_is : (d : Delimiter) (l : List Tok) (g : List Tok × List Tok) → group_at d l ≡ Some g → Head false l
unfolding group_at
group_is del.Parenthesis (group del.Parenthesis i ∷ l) g h = (group_first i l).0
group_is del.Bracket (group del.Bracket i ∷ l) g h = (group_first i l).1
group_is del.Brace (group del.Brace i ∷ l) g h = (group_first i l).2
group_is del.None (group del.None i ∷ l) g h = (group_first i l).3
group_is _ _ g h = absurd cc

bare_group : (d : Delimiter) (s : Slot) (l m n : List Tok) (ks : Children) → Some l ≡ Some m → Content (within d s false) m ks n → Head false l
bare_group d s l m n ks f c = let g = content_group d s false m n ks c in group_is d l g.0 (ap (group_at d) (some_is f) ∙ g.1)

word_frame : (w : List ℕ) (l : List Tok) (o : Option (List Tok)) (m : List Tok) → ((z : List Tok) → Head false (ident w ∷ z)) → cond (word_at w l) o None ≡ Some m → Head false l
word_frame w l o m f h = at_word w f l (test_of (word_at w l) o m h)

frame_front : (k : Frame) (l m n : List Tok) (ks : Children) → frame_head k l ≡ Some m → Content (frame_holder k) m ks n → Head false l
frame_front e.array l m n ks f c = bare_group del.Bracket slot.elements l m n ks f c
frame_front e.tuple l m n ks f c = bare_group del.Parenthesis slot.elements l m n ks f c
frame_front e.repeat l m n ks f c = bare_group del.Bracket slot.counted l m n ks f c
frame_front e.group_expr l m n ks f c = bare_group del.None slot.groups l m n ks f c
frame_front (e.structure q p d) l m n ks f c =
    let g = content_group del.Brace slot.fields d m n ks c in path_head true (q, p) l m f (group_trailed del.Brace m g.0 g.1).behind.is_calm
frame_front (e.closure_block x) l m n ks f c = closure_front x l m f
frame_front e.if_expr l m n ks f c = word_frame (codes "if") l (Some (drop 1 l)) m words.if_first f
frame_front e.match_expr l m n ks f c = word_frame (codes "match") l (Some (drop 1 l)) m words.match_first f
frame_front (e.while_loop w) l m n ks f c =
    let (a, b, g) = behind_some (label.behind w l) (slot.if_at while_word) m f in
    labelled l (word_at (codes "while")) (ap (word_at (codes "while")) (label_past w l a b) ∙ test_of (word_at (codes "while") a) _ m g) (at_word (codes "while") words.while_first)
frame_front (e.for_loop w p) l m n ks f c =
    let (a, b, g) = behind_some (label.behind w l) (for_head.behind p) m f in
    labelled l (word_at (codes "for")) (ap (word_at (codes "for")) (label_past w l a b) ∙ for_there a g) (at_word (codes "for") words.for_first)
  where
    for_there : (a : List Tok) → for_head.behind p a ≡ Some m → word_at (codes "for") a ≡ true
    for_there a g = (and_parts (word_at (codes "for") a) _ (test_of (for_word.at a) _ m g)).0

-- ---- all together

below : (c : Bool) {l m n : List Tok} {t x : Tree} → Fronted l t m → Trailed c m → ((b : Bool) → free b x ≡ free c t) → Fronted l x n
below c d s f = record { attributes = d.attributes; tokens = d.tokens; behind = d.behind; led = led_below c d.led s f }

pub fronted : {p : Place} {l n : List Tok} {x : Tree} → Node p l x n → (sole_path x ≡ true → calm n ≡ true) → Fronted l x n
fronted (is_leaf {l = l} {n = n} {k = k} f g) c = leaf_fronted k l n f c
fronted (is_become {l = l} {n = n} w d q r o) c = headed l n _ (at_word (codes "become") words.become_first l w) (λ b. refl)
fronted (is_attributed_verbatim {l = l} {m = y} {n = n} {ts = ts} {us = us} z zs fs f d i j) c = record {
  attributes = z ∷ zs;
  tokens = y;
  behind = f;
  led = verbatim_led y n ts us (led_at (fronted d (λ t. absurd cc)) [] y (none_there (z ∷ zs) l y f));
}
fronted (is_paren {i = i} {n = n} d q r) c = headed (group del.Parenthesis i ∷ n) n _ (group_first i n).0 (λ b. refl)
fronted (is_attributed_by {l = l} {m = y} {n = n} {a = z} {more = zs} {x = x} f g d) c = record {
  attributes = z ∷ zs;
  tokens = y;
  behind = f;
  led = attributed_led z zs y n x (led_at (fronted d c) [] y (none_there (z ∷ zs) l y f));
}
fronted (is_prefixed {l = l} {m = y} {n = n} {k = k} {x = x} f g d q r) c =
    let t = prefix_led k l n x (prefix_head k l y f) (let_is k l y f) in at_front l n _ t.1 t.0
fronted (is_infixed {m = y} {op = op} {count = count} d q r i t o d2 u v w) c =
    let s = operator_trailed (operated y (op, count) i) in below true (fronted d (λ z. s.behind.is_calm)) s (λ b. refl)
fronted (is_postfixed {m = y} {k = k} {count = count} d q r i t o u w) c =
    let s = operator_trailed (operated y (postfix_op k, count) i) in below true (fronted d (λ z. s.behind.is_calm)) s (λ b. refl)
fronted (is_tail {m = y} {h = h} {n = n} {b = b} {x = x} {k = k} {is = is} {ks = ks} d f t o q) c =
    let s = trailed k y h n is ks t o in
    below (is_parenthesis_or_bracket k) (fronted d (λ z. s.behind.is_calm)) s (λ z. tail_free k y h b x is t q)
fronted (is_indexed {m = y} {n = n} {b = b} {x = x} {i = i} {is = is} d f t q) c =
    let s = fields_dotted y (i ∷ is, n) t in
    below false (fronted d (λ z. s.behind.is_calm)) s (λ z. ap (free z) q ∙ fields_free is z b i)
fronted (is_frame {l = l} {h = h} {n = n} {k = k} {ks = ks} f o g w) c = headed l n _ (frame_front k l h n ks f o) (λ b. refl)

-- ---- where an expression may end a statement

nothing_calm : calm [] ≡ true
unfolding sign_at word_at
nothing_calm = refl

semi_calm : (s : Spacing) (l : List Tok) → calm (punct 59 s ∷ l) ≡ true
unfolding sign_at word_at
semi_calm spacing.Alone l = refl
semi_calm spacing.Joint l = refl

path_requires : (t : Tree) → sole_path t ≡ true → requires_semi_to_be_stmt t ≡ true
path_requires (leaf (e.path q w)) h = refl
path_requires (attributed a ats t) h = path_requires t h
path_requires _ h = absurd cc

pub ending_calm : (t : Tree) (n : List Tok) → may_end t (semi.at n) n ≡ true → sole_path t ≡ true → calm n ≡ true
ending_calm t n u h = by_semi (semi.at n) refl u
  where
    by_rest : (n : List Tok) → is_empty n || not (requires_semi_to_be_stmt t) ≡ true → calm n ≡ true
    by_rest [] k = nothing_calm
    by_rest (y ∷ n) k = absurd (let r : requires_semi_to_be_stmt t ≡ false = not-true _ k in let q = path_requires t h in cc)

    by_semi : (b : Bool) → semi.at n ≡ b → b || (is_empty n || not (requires_semi_to_be_stmt t)) ≡ true → calm n ≡ true
    by_semi true f k = sign_first 59 [] (λ z. calm z ≡ true) semi_calm n f
    by_semi false f k = by_rest n k

pub ending_led : (p : Place) (ats : List AttributeTree) (l m n : List Tok) (t : Tree) → outer_attributes.behind ats l ≡ Some m → Stands p l t n → may_end t (semi.at n) n ≡ true → Led m t n
ending_led p ats l m n t a s u = led_at (fronted s.node (ending_calm t n u)) ats m a

pub no_item : NoExpressionBeginsItem
unfolding item_at
no_item p ats l m n t a s u = let d = ending_led p ats l m n t a s u in (ap is_some d.opens.no_item, d.opens.no_semi)

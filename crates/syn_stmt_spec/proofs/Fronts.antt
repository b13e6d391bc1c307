-- The first tokens of an expression, behind its attributes: they begin no item, and go on with nothing that comes before.
use Rattle.std.specs.Prelude.{not, ◌||◌, ◌&&◌, ◌==◌, if◌then◌else◌}
use Rattle.std.specs.Str.{bytes_eq}
use Rattle.std.proofs.Common.{◌≡◌, ℕ, arith, Bool, true, false, cond, ◌⊎◌, inl, inr, ⊎_elim, List, [], ◌∷◌, drop, codes, Option, Some, None, refl, ap, sym, ◌∙◌, subst}
use Rattle.std.proofs.Math.Bool.{and-false}
use Rattle.std.proofs.lemmas.Bool.{and_parts, or_parts, not-true}
use Rattle.std.proofs.lemmas.Bool.Decides.{nat_tests}
use Rattle.std.proofs.lemmas.Slice.Eq.{bytes_eq-Decides}
use Rattle.syn_lexer.specs.Keywords.{is_reserved_word}
use Rattle.syn_lexer.specs.declared.front.Delimiter.TheVariants as del
use Rattle.syn_lexer.specs.declared.front.Spacing.{Spacing}
use Rattle.syn_lexer.specs.declared.front.Spacing.TheVariants as spacing
use Rattle.syn_tokens.specs.Tok.{Tok, Inside, ident, punct, literal, group}
use Rattle.syn_tokens.specs.Front.{group_at}
use Rattle.syn_lower_spec.specs.declared.label.PathStyle.TheVariants as style
use Rattle.syn_lower_spec.specs.Text.{Text, is_segment, stands_alone, is_truth}
use Rattle.syn_lower_spec.specs.Tree as tree
use Rattle.syn_lower_spec.specs.Tree.{PathTree, SegmentTree}
use Rattle.syn_lower_spec.specs.Form.{Test, Outcome, and_then, then_behind, mark, both, then_by, flag, maybe, is_none, if_same, joined}
use Rattle.syn_lower_spec.specs.Mark.{sign_at, word_at, lifetime_at, brace_at, semi, pound, not_ne, colon2, less, star, bang, and, constant, mutable, underscore}
use Rattle.syn_lower_spec.specs.Part as part
use Rattle.syn_lower_spec.specs.Part.{QPathTree, MacroTree, is_name_there, find_segment, segment, segment_name, pieces, path, qpath, type, macro, lifetimes_at, lifetimes, output, any_group}
use Rattle.syn_lower_spec.proofs.Ends.{sign_first}
use Rattle.syn_lower_spec.proofs.Forms.{Alike, bind_some, behind_some}
use Rattle.syn_lower_spec.proofs.Parts.{any_group_alike}
use Rattle.syn_lower_spec.proofs.Fronts.{word_not, NoSegment}
use Rattle.syn_lower_spec.proofs.Weights.{some_is}
use Rattle.syn_expr_spec.specs.Front.{dot_at, question_at}
use Rattle.syn_expr_spec.specs.Path.{invisible_at, expr_path}
use Rattle.syn_expr_spec.specs.Tree as e
use Rattle.syn_expr_spec.specs.Tree.{Leaf, Prefix, ClosureHead, Body}
use Rattle.syn_expr_spec.specs.Head as front
use Rattle.syn_expr_spec.specs.Head.{leaf_form, prefix_form, closure_head, closure_inputs, named, body, bar, move_word, use_word, use_behind, async_word, static_word, let_word, range_at, jump_at, literal_at, loop_at, block_at, const_block_at, async_block_at, try_block_at, builtin_at, past_label}
use Rattle.syn_expr_spec.proofs.Chains.{chosen, only_some, one_true}
use Rattle.syn_expr_spec.proofs.Computing.{computing}
use Rattle.syn_expr_spec.proofs.Fronts.{word_is, flag_is}
use Rattle.syn_expr_spec.proofs.GroupForms.{invisible_is, plain_path}
use Rattle.syn_expr_spec.proofs.NameFronts.{word_read}
use Rattle.syn_expr_spec.proofs.Needs.{heads}
use Rattle.syn_stmt_spec.specs.Item.{past, past_abi, find_macro_name, macro_name, macro_head, macro_begins, item_kind}
use Rattle.syn_stmt_spec.proofs.Begins.{NoRow, name_no_row, none_begins, macro_parts, group_no_name}
use Rattle.syn_stmt_spec.proofs.Items.{MacroHead, marked_some}
use Rattle.syn_stmt_spec.proofs.Paths.{expr_path_is}

-- what a front is asked, for a proof that computes it
unfoldable pub front_tests : Bool
unfolding computing item_kind macro_begins
front_tests = true

-- No statement but one of the tokens of an expression begins so, and nothing before is gone on with.
pub record Opens (l : List Tok) : Type 0 where
  pub no_item : item_kind l ≡ None
  pub no_semi : semi.at l ≡ false
  pub no_dot : dot_at l ≡ false
  pub no_question : question_at l ≡ false
  pub no_else : word_at (codes "else") l ≡ false

-- and no attribute and no macro; `let` or not
pub record Head (lets : Bool) (l : List Tok) : Type 0 where
  pub opens : Opens l
  pub no_pound : pound.at l ≡ false
  pub is_let : let_word.at l ≡ lets
  pub no_macro : macro.reads l ≡ None

made : {b : Bool} {l : List Tok} → item_kind l ≡ None → semi.at l ≡ false → dot_at l ≡ false → question_at l ≡ false → word_at (codes "else") l ≡ false
    → pound.at l ≡ false → let_word.at l ≡ b → macro.reads l ≡ None → Head b l
made a b c d e f g h = record { opens = record { no_item = a; no_semi = b; no_dot = c; no_question = d; no_else = e }; no_pound = f; is_let = g; no_macro = h }

-- at a word
pub at_word : {b : Bool} (w : Text) → ((l : List Tok) → Head b (ident w ∷ l)) → (l : List Tok) → word_at w l ≡ true → Head b l
at_word {b} w f l h = subst (Head b) (sym (word_is w l h)) (f (drop 1 l))

-- ---- words

pub record Words : Type 0 where
  pub let_first : (l : List Tok) → Head true (ident (codes "let") ∷ l)
  pub return_first : (l : List Tok) → Head false (ident (codes "return") ∷ l)
  pub yield_first : (l : List Tok) → Head false (ident (codes "yield") ∷ l)
  pub break_first : (l : List Tok) → Head false (ident (codes "break") ∷ l)
  pub continue_first : (l : List Tok) → Head false (ident (codes "continue") ∷ l)
  pub become_first : (l : List Tok) → Head false (ident (codes "become") ∷ l)
  pub underscore_first : (l : List Tok) → Head false (ident (codes "_") ∷ l)
  pub true_first : (l : List Tok) → Head false (ident (codes "true") ∷ l)
  pub false_first : (l : List Tok) → Head false (ident (codes "false") ∷ l)
  pub if_first : (l : List Tok) → Head false (ident (codes "if") ∷ l)
  pub while_first : (l : List Tok) → Head false (ident (codes "while") ∷ l)
  pub for_first : (l : List Tok) → Head false (ident (codes "for") ∷ l)
  pub loop_first : (l : List Tok) → Head false (ident (codes "loop") ∷ l)
  pub match_first : (l : List Tok) → Head false (ident (codes "match") ∷ l)
  pub move_first : (l : List Tok) → Head false (ident (codes "move") ∷ l)

pub words : Words
unfolding front_tests
words = record {
  let_first = λ l. made refl refl refl refl refl refl refl refl;
  return_first = λ l. made refl refl refl refl refl refl refl refl;
  yield_first = λ l. made refl refl refl refl refl refl refl refl;
  break_first = λ l. made refl refl refl refl refl refl refl refl;
  continue_first = λ l. made refl refl refl refl refl refl refl refl;
  become_first = λ l. made refl refl refl refl refl refl refl refl;
  underscore_first = λ l. made refl refl refl refl refl refl refl refl;
  true_first = λ l. made refl refl refl refl refl refl refl refl;
  false_first = λ l. made refl refl refl refl refl refl refl refl;
  if_first = λ l. made refl refl refl refl refl refl refl refl;
  while_first = λ l. made refl refl refl refl refl refl refl refl;
  for_first = λ l. made refl refl refl refl refl refl refl refl;
  loop_first = λ l. made refl refl refl refl refl refl refl refl;
  match_first = λ l. made refl refl refl refl refl refl refl refl;
  move_first = λ l. made refl refl refl refl refl refl refl refl;
}

-- ---- signs and groups

star_first : (s : Spacing) (l : List Tok) → Head false (punct 42 s ∷ l)
unfolding front_tests
star_first spacing.Alone l = made refl refl refl refl refl refl refl refl
star_first spacing.Joint l = made refl refl refl refl refl refl refl refl

bang_first : (s : Spacing) (l : List Tok) → Head false (punct 33 s ∷ l)
unfolding front_tests
bang_first spacing.Alone l = made refl refl refl refl refl refl refl refl
bang_first spacing.Joint l = made refl refl refl refl refl refl refl refl

minus_first : (s : Spacing) (l : List Tok) → Head false (punct 45 s ∷ l)
unfolding front_tests
minus_first spacing.Alone l = made refl refl refl refl refl refl refl refl
minus_first spacing.Joint l = made refl refl refl refl refl refl refl refl

and_first : (s : Spacing) (l : List Tok) → Head false (punct 38 s ∷ l)
unfolding front_tests
and_first spacing.Alone l = made refl refl refl refl refl refl refl refl
and_first spacing.Joint l = made refl refl refl refl refl refl refl refl

bar_first : (s : Spacing) (l : List Tok) → Head false (punct 124 s ∷ l)
unfolding front_tests
bar_first spacing.Alone l = made refl refl refl refl refl refl refl refl
bar_first spacing.Joint l = made refl refl refl refl refl refl refl refl

less_first : (s : Spacing) (l : List Tok) → Head false (punct 60 s ∷ l)
unfolding front_tests
less_first spacing.Alone l = made refl refl refl refl refl refl refl refl
less_first spacing.Joint l = made refl refl refl refl refl refl refl refl

pub group_first : (i : Inside) (l : List Tok) → Head false (group del.Parenthesis i ∷ l) × Head false (group del.Bracket i ∷ l) × Head false (group del.Brace i ∷ l) × Head false (group del.None i ∷ l)
unfolding front_tests
group_first i l =
    (made refl refl refl refl refl refl refl refl, made refl refl refl refl refl refl refl refl, made refl refl refl refl refl refl refl refl, made refl refl refl refl refl refl refl refl)

brace_head : (l : List Tok) → brace_at l ≡ true → Head false l
unfolding brace_at group_at
brace_head (group del.Brace i ∷ l) h = (group_first i l).2
brace_head _ h = absurd cc

hidden_head : (l : List Tok) → invisible_at l ≡ true → Head false l
hidden_head l h = let (i, m, e) = invisible_is l h in subst (Head false) (sym e) (group_first i m).3

-- the first of two dots, which is no dot by itself
abbrev Dots : List Tok → Type 0
Dots l = (item_kind l ≡ None) × (semi.at l ≡ false) × (question_at l ≡ false) × (word_at (codes "else") l ≡ false) × (pound.at l ≡ false) × (let_word.at l ≡ false) × (macro.reads l ≡ None)

dots_first : (s : Spacing) (l : List Tok) → Dots (punct 46 s ∷ l)
unfolding front_tests
dots_first spacing.Alone l = (refl, refl, refl, refl, refl, refl, refl)
dots_first spacing.Joint l = (refl, refl, refl, refl, refl, refl, refl)

pub range_head : (l : List Tok) → range_at l ≡ true → Head false l
unfolding range_at dot_at
range_head l h =
    let (a, b, c, d, f, g, i) = sign_first 46 (46 ∷ []) Dots dots_first l h in
    made a b (rw h (and-false (sign_at (codes ".") l))) c d f g i

quote_first : (w : Text) (l : List Tok) → Head false (punct 39 spacing.Joint ∷ ident w ∷ l)
unfolding front_tests
quote_first w l = made refl refl refl refl refl refl refl refl

pub quote_head : (l : List Tok) → lifetime_at l ≡ true → Head false l
unfolding lifetime_at
quote_head (punct c spacing.Joint ∷ ident w ∷ l) h = subst (λ z. Head false (punct z spacing.Joint ∷ ident w ∷ l)) (sym (same c h)) (quote_first w l)
  where
    same : (c : ℕ) → (c == 39) ≡ true → c ≡ 39
    same c h = grind (arith, nat_tests, h)
quote_head _ h = absurd cc

-- ---- literals

literal_first : (t : Text) (l : List Tok) → Head false (literal t ∷ l)
unfolding front_tests
literal_first t l = made refl refl refl refl refl refl refl refl

truth_head : (w : Text) (l : List Tok) → is_truth w ≡ true → Head false (ident w ∷ l)
unfolding is_truth
truth_head w l h = go (bytes_eq w (codes "true")) refl
  where
    spelled : bytes_eq w (codes "true") || (bytes_eq w (codes "false") || false) ≡ true
    spelled = h

    last : (a b : Bool) → a ≡ false → a || (b || false) ≡ true → b ≡ true
    last true b e k = absurd cc
    last false true e k = refl
    last false false e k = absurd cc

    go : (b : Bool) → bytes_eq w (codes "true") ≡ b → Head false (ident w ∷ l)
    go true e = subst (λ z. Head false (ident z ∷ l)) (sym ((bytes_eq-Decides w (codes "true")).0 e)) (words.true_first l)
    go false e = subst (λ z. Head false (ident z ∷ l)) (sym ((bytes_eq-Decides w (codes "false")).0 (last _ _ e spelled))) (words.false_first l)

literal_head : (l : List Tok) → literal_at l ≡ true → Head false l
unfolding literal_at
literal_head (literal t ∷ l) h = literal_first t l
literal_head (ident w ∷ l) h = truth_head w l h
literal_head _ h = absurd cc

-- ---- jumps, loops and blocks

jump_head : (l : List Tok) → jump_at l ≡ true → Head false l
unfolding jump_at
jump_head l h =
    ⊎_elim (λ a. at_word (codes "return") words.return_first l a)
    (λ a. ⊎_elim (λ b. at_word (codes "yield") words.yield_first l b) (λ b. at_word (codes "break") words.break_first l b.1) (one_true (front.yield_word.at l) _ a.1))
    (one_true (front.return_word.at l) _ h)

-- after a label or none
pub labelled : (l : List Tok) (P : Test) → P (past_label l) ≡ true → ((m : List Tok) → P m ≡ true → Head false m) → Head false l
labelled l P h f = go (lifetime_at l) refl
  where
    go : (b : Bool) → lifetime_at l ≡ b → Head false l
    go true e = quote_head l e
    go false e = f l (ap (λ t. P (cond t (drop 3 l) l)) (sym e) ∙ h)

loop_head : (l : List Tok) → loop_at l ≡ true → Head false l
unfolding loop_at
loop_head l h = labelled l (word_at (codes "loop")) h (at_word (codes "loop") words.loop_first)

block_head : (l : List Tok) → block_at l ≡ true → Head false l
unfolding block_at
block_head l h = labelled l brace_at h brace_head

-- words that come before the brace of a block
record Braced : Type 0 where
  unsafe_first : (i : Inside) (l : List Tok) → Head false (ident (codes "unsafe") ∷ group del.Brace i ∷ l)
  const_first : (i : Inside) (l : List Tok) → Head false (ident (codes "const") ∷ group del.Brace i ∷ l)
  async_first : (i : Inside) (l : List Tok) → Head false (ident (codes "async") ∷ group del.Brace i ∷ l)
  move_first : (l : List Tok) → Head false (ident (codes "async") ∷ ident (codes "move") ∷ l)
  try_first : (i : Inside) (l : List Tok) → Head false (ident (codes "try") ∷ group del.Brace i ∷ l)

braced : Braced
unfolding front_tests
braced = record {
  unsafe_first = λ i l. made refl refl refl refl refl refl refl refl;
  const_first = λ i l. made refl refl refl refl refl refl refl refl;
  async_first = λ i l. made refl refl refl refl refl refl refl refl;
  move_first = λ l. made refl refl refl refl refl refl refl refl;
  try_first = λ i l. made refl refl refl refl refl refl refl refl;
}

before_brace : (w : Text) → ((i : Inside) (l : List Tok) → Head false (ident w ∷ group del.Brace i ∷ l)) → (l : List Tok) → word_at w l ≡ true → brace_at (drop 1 l) ≡ true → Head false l
unfolding brace_at group_at
before_brace w f l a b = subst (Head false) (sym (word_is w l a)) (go (drop 1 l) b)
  where
    go : (m : List Tok) → brace_at m ≡ true → Head false (ident w ∷ m)
    go (group del.Brace i ∷ m) h = f i m
    go _ h = absurd cc

body_brace : (o : Option (List Tok × List Tok)) (b : Body) (l n : List Tok) → group_at del.Brace l ≡ o → body.behind b l ≡ Some n → brace_at l ≡ true
unfolding body brace_at
body_brace None b l n q g = absurd (let r : None ≡ Some n = rw q at g in cc)
body_brace (Some g) b l n q i = rw q refl

unsafe_head : (k : Leaf) (l n : List Tok) → front.unsafe_word.at l ≡ true → then_behind (front.from_unsafe k) (λ b. body.behind b (drop 1 l)) ≡ Some n → Head false l
unsafe_head (e.unsafe_block b) l n a g = before_brace (codes "unsafe") braced.unsafe_first l a (body_brace (group_at del.Brace (drop 1 l)) b (drop 1 l) n refl g)
unsafe_head _ l n a g = absurd cc

const_head : (l : List Tok) → const_block_at l ≡ true → Head false l
unfolding const_block_at
const_head l h = let (a, b) = and_parts (constant.at l) (brace_at (drop 1 l)) h in before_brace (codes "const") braced.const_first l a b

try_head : (l : List Tok) → try_block_at l ≡ true → Head false l
unfolding try_block_at
try_head l h = let (a, b) = and_parts (front.try_word.at l) (brace_at (drop 1 l)) h in before_brace (codes "try") braced.try_first l a b

async_head : (l : List Tok) → async_block_at l ≡ true → Head false l
unfolding async_block_at
async_head l h =
    let (a, b) = and_parts (async_word.at l) _ h in
    ⊎_elim (λ c. before_brace (codes "async") braced.async_first l a c)
    (λ c.
    let (d, f) = and_parts (move_word.at (drop 1 l)) _ c.1 in
    subst (Head false) (sym (word_is (codes "async") l a ∙ ap (λ z. ident (codes "async") ∷ z) (word_is (codes "move") (drop 1 l) d))) (braced.move_first (drop 1 (drop 1 l))))
    (one_true (brace_at (drop 1 l)) _ b)

builtin_first : (s : Spacing) (l : List Tok) → Head false (ident (codes "builtin") ∷ punct 35 s ∷ l)
unfolding front_tests
builtin_first spacing.Alone l = made refl refl refl refl refl refl refl refl
builtin_first spacing.Joint l = made refl refl refl refl refl refl refl refl

builtin_head : (l : List Tok) → builtin_at l ≡ true → Head false l
unfolding builtin_at
builtin_head l h =
    let (a, b) = and_parts (front.builtin_word.at l) (sign_at (codes "#") (drop 1 l)) h in
    subst (Head false) (sym (word_is (codes "builtin") l a)) (sign_first 35 [] (λ z. Head false (ident (codes "builtin") ∷ z)) builtin_first (drop 1 l) b)

-- a leaf but a path and a macro begins so
pub leaf_head : (k : Leaf) (l n : List Tok) → leaf_form.behind k l ≡ Some n → Head false l ⊎ (named.behind k l ≡ Some n)
unfolding leaf_form
leaf_head k l n g = ⊎_elim (λ i. inl (literal_head l i.0)) (λ i.
    ⊎_elim (λ j. inl (at_word (codes "_") words.underscore_first l j.0)) (λ j.
    ⊎_elim (λ i. inl (range_head l i.0)) (λ i.
    ⊎_elim (λ j. inl (jump_head l j.0)) (λ j.
    ⊎_elim (λ i. inl (at_word (codes "continue") words.continue_first l i.0)) (λ i.
    ⊎_elim (λ j. inl (loop_head l j.0)) (λ j.
    ⊎_elim (λ i. inl (block_head l i.0)) (λ i.
    ⊎_elim (λ j. inl (unsafe_head k l n j.0 (only_some (front.unsafe_word.at l) _ n j.1).1)) (λ j.
    ⊎_elim (λ i. inl (const_head l i.0)) (λ i.
    ⊎_elim (λ j. inl (async_head l j.0)) (λ j.
    ⊎_elim (λ i. inl (try_head l i.0)) (λ i.
    ⊎_elim (λ j. inl (builtin_head l j.0)) (λ j. inr j.1)
    (chosen (builtin_at l) _ _ (Some n) i.1)) (chosen (try_block_at l) _ _ (Some n) j.1)) (chosen (async_block_at l) _ _ (Some n) i.1))
    (chosen (const_block_at l) _ _ (Some n) j.1)) (chosen (front.unsafe_word.at l) _ _ (Some n) i.1)) (chosen (block_at l) _ _ (Some n) j.1))
    (chosen (loop_at l) _ _ (Some n) i.1)) (chosen (front.continue_word.at l) _ _ (Some n) j.1)) (chosen (jump_at l) _ _ (Some n) i.1))
    (chosen (range_at l) _ _ (Some n) j.1)) (chosen (underscore.at l) _ _ (Some n) i.1)) (chosen (literal_at l) _ _ (Some n) g)

-- ---- closures

-- what `const`, `static` and `async` ask of the tokens after them
record Calm (l : List Tok) : Type 0 where
  no_name : is_name_there l ≡ false
  no_mut : mutable.at l ≡ false
  no_underscore : underscore.at l ≡ false
  no_fn : word_at (codes "fn") (past_abi (past (codes "unsafe") (past (codes "async") l))) ≡ false
  no_fn_here : word_at (codes "fn") (past_abi (past (codes "unsafe") l)) ≡ false

record Begun (l : List Tok) : Type 0 where
  calm : Calm l
  head : Head false l

move_begun : (l : List Tok) → Begun (ident (codes "move") ∷ l)
unfolding front_tests
move_begun l = record { calm = record { no_name = refl; no_mut = refl; no_underscore = refl; no_fn = refl; no_fn_here = refl }; head = words.move_first l }

use_begun : (s : Spacing) (l : List Tok) → Begun (ident (codes "use") ∷ punct 124 s ∷ l)
unfolding front_tests
use_begun spacing.Alone l = record { calm = record { no_name = refl; no_mut = refl; no_underscore = refl; no_fn = refl; no_fn_here = refl }; head = made refl refl refl refl refl refl refl refl }
use_begun spacing.Joint l = record { calm = record { no_name = refl; no_mut = refl; no_underscore = refl; no_fn = refl; no_fn_here = refl }; head = made refl refl refl refl refl refl refl refl }

bar_begun : (s : Spacing) (l : List Tok) → Begun (punct 124 s ∷ l)
unfolding front_tests
bar_begun s l = record { calm = record { no_name = refl; no_mut = refl; no_underscore = refl; no_fn = refl; no_fn_here = refl }; head = bar_first s l }

async_begun : (l : List Tok) → Calm l → Begun (ident (codes "async") ∷ l)
unfolding front_tests
async_begun l c = record {
  calm = record { no_name = refl; no_mut = refl; no_underscore = refl; no_fn = c.no_fn_here; no_fn_here = refl };
  head = made (rw (c.no_fn_here) refl) refl refl refl refl refl refl refl;
}

static_begun : (l : List Tok) → Calm l → Begun (ident (codes "static") ∷ l)
unfolding front_tests
static_begun l c = record {
  calm = record { no_name = refl; no_mut = refl; no_underscore = refl; no_fn = refl; no_fn_here = refl };
  head = made (rw (c.no_name, c.no_mut) refl) refl refl refl refl refl refl refl;
}

const_begun : (l : List Tok) → Calm l → Head false (ident (codes "const") ∷ l)
unfolding front_tests
const_begun l c = made (rw (c.no_name, c.no_underscore, c.no_fn) refl) refl refl refl refl refl refl refl

-- `move`, `use` or neither, then the first `|`
captured : (d u : Bool) (l n : List Tok) → (then_by (flag move_word) use_behind).behind (d, u) l ≡ Some n → bar.at n ≡ true → Begun l
captured true u l n g k =
    let (m, i, j) = behind_some ((flag move_word).behind true l) ((use_behind true).behind u) n g in
    let p = flag_is move_word true l m i in
    subst Begun (sym (word_is (codes "move") l p.0)) (move_begun (drop 1 l))
captured false u l n g k =
    let (m, i, j) = behind_some ((flag move_word).behind false l) ((use_behind false).behind u) n g in
    let p = flag_is move_word false l m i in
    subst Begun p.1 (by_usage u m n (flag_is use_word u m n j) k)
  where
    by_usage : (u : Bool) (m n : List Tok) → (use_word.at m ≡ u) × (n ≡ (if u then drop 1 m else m)) → bar.at n ≡ true → Begun m
    by_usage true m n p k =
        subst Begun (sym (word_is (codes "use") m p.0))
        (sign_first 124 [] (λ z. Begun (ident (codes "use") ∷ z)) use_begun (drop 1 m) (subst (λ z. bar.at z ≡ true) p.1 k))
    by_usage false m n p k = sign_first 124 [] Begun bar_begun m (subst (λ z. bar.at z ≡ true) p.1 k)

flagged : (w : Text) (P : List Tok → Type 0) (l m : List Tok) (b : Bool) → word_at w l ≡ b → m ≡ (if b then drop 1 l else l) → Begun m
    → (Begun (drop 1 l) → P (ident w ∷ drop 1 l)) → (Begun l → P l) → P l
flagged w P l m true a d c f g = subst P (sym (word_is w l a)) (f (subst Begun d c))
flagged w P l m false a d c f g = g (subst Begun d c)

from_flags : (f : ClosureHead) (l n : List Tok) → then_behind ((flag constant).behind f.constness l) (λ m. then_behind ((flag static_word).behind f.movability m)
    (λ m. then_behind ((flag async_word).behind f.asyncness m) (λ m. then_behind ((then_by (flag move_word) use_behind).behind (f.capture, f.usage) m)
    (λ m. then_behind (closure_inputs.behind (f.inputs, f.trailing) m) ((output type true).behind f.output))))) ≡ Some n → Head false l
unfolding closure_inputs
from_flags f l n g =
    let (a, b, c) = behind_some ((flag constant).behind f.constness l) _ n g in
    let (s, t, o) = behind_some ((flag static_word).behind f.movability a) _ n c in
    let (d, i, j) = behind_some ((flag async_word).behind f.asyncness s) _ n o in
    let (k, u, v) = behind_some ((then_by (flag move_word) use_behind).behind (f.capture, f.usage) d) _ n j in
    let (w, x, y) = behind_some (closure_inputs.behind (f.inputs, f.trailing) k) _ n v in
    let p = flag_is constant f.constness l a b in
    let q = flag_is static_word f.movability a s t in
    let r = flag_is async_word f.asyncness s d i in
    let z = captured f.capture f.usage d k u (only_some (bar.at k) _ w x).0 in
    let asynced = flagged (codes "async") Begun s d f.asyncness r.0 r.1 z (λ m. async_begun (drop 1 s) m.calm) (λ m. m) in
    let moved = flagged (codes "static") Begun a s f.movability q.0 q.1 asynced (λ m. static_begun (drop 1 a) m.calm) (λ m. m) in
    flagged (codes "const") (Head false) l a f.constness p.0 p.1 moved (λ m. const_begun (drop 1 l) m.calm) (λ m. m.head)

first_of_lifetimes : (l : List Tok) → lifetimes_at l ≡ true → word_at (codes "for") l ≡ true
unfolding lifetimes_at
first_of_lifetimes l v = (and_parts (word_at (codes "for") l) _ v).0

pub closure_front : (f : ClosureHead) (l n : List Tok) → closure_head.behind f l ≡ Some n → Head false l
unfolding closure_head
closure_front f l n g =
    let (z, i, j) = behind_some ((maybe lifetimes_at lifetimes).behind f.lifetimes l) _ n g in
    ⊎_elim (λ k. at_word (codes "for") words.for_first l (first_of_lifetimes l k.0))
    (λ k.
    let (a, b) = only_some (is_none f.lifetimes) (Some l) z k.1 in
    subst (Head false) (sym (some_is b)) (from_flags f z n j))
    (chosen (lifetimes_at l) _ _ (Some z) i)

-- ---- what comes before an operand

pub data AnyHead (l : List Tok) : Type 0 where
  some_head : (b : Bool) → Head b l → AnyHead l

pub prefix_head : (k : Prefix) (l n : List Tok) → prefix_form.behind k l ≡ Some n → AnyHead l
unfolding prefix_form
prefix_head k l n g = ⊎_elim (λ i. some_head false (sign_first 42 [] (Head false) star_first l i.0)) (λ i.
    ⊎_elim (λ j. some_head false (sign_first 33 [] (Head false) bang_first l j.0)) (λ j.
    ⊎_elim (λ i. some_head false (sign_first 45 [] (Head false) minus_first l i.0)) (λ i.
    ⊎_elim (λ j. some_head false (sign_first 38 [] (Head false) and_first l j.0)) (λ j.
    ⊎_elim (λ i. some_head false (range_head l i.0)) (λ i.
    ⊎_elim (λ j. some_head true (at_word (codes "let") words.let_first l j.0)) (λ j.
    ⊎_elim (λ i. some_head false (jump_head l i.0)) (λ i.
    let (x, y, z) = behind_some (front.from_closure k) (λ f. closure_head.behind f l) n i.1 in
    some_head false (closure_front x l n z))
    (chosen (jump_at l) _ _ (Some n) j.1)) (chosen (let_word.at l) _ _ (Some n) i.1)) (chosen (range_at l) _ _ (Some n) j.1)) (chosen (and.at l) _ _ (Some n) i.1))
    (chosen (front.minus.at l) _ _ (Some n) j.1)) (chosen (bang.at l) _ _ (Some n) i.1)) (chosen (star.at l) _ _ (Some n) g)

-- it is a `let` exactly where this word comes first
abbrev pub leads_let : Prefix → Bool
leads_let (e.let_expr p) = true
leads_let _ = false

skip : (b : Bool) (o : Option (List Tok)) (n : List Tok) → cond b None o ≡ Some n → o ≡ Some n
skip true o n g = absurd cc
skip false o n g = g

skip_two : (b c : Bool) (o : Option (List Tok)) (n : List Tok) → cond b (cond c None None) o ≡ Some n → o ≡ Some n
skip_two true true o n g = absurd cc
skip_two true false o n g = absurd cc
skip_two false c o n g = g

skip_and : (b c d f : Bool) (o : Option (List Tok)) (n : List Tok) → cond b (cond c (cond d (cond f None None) None) None) o ≡ Some n → o ≡ Some n
skip_and true true true true o n g = absurd cc
skip_and true true true false o n g = absurd cc
skip_and true true false f o n g = absurd cc
skip_and true false d f o n g = absurd cc
skip_and false c d f o n g = g

let_there : (p : _) (l n : List Tok) → prefix_form.behind (e.let_expr p) l ≡ Some n → let_word.at l ≡ true
unfolding prefix_form
let_there p l n g =
    let a = skip_two (front.minus.at l) (front.minus.at l) _ n (skip_two (bang.at l) (bang.at l) _ n (skip_two (star.at l) (star.at l) _ n g)) in
    ⊎_elim (λ i. absurd (no_and (and.at l) (front.raw_at (drop 1 l)) (front.raw_word.at (drop 1 l)) n i.1))
    (λ i. ⊎_elim (λ j. j.0) (λ j. absurd (no_jump (jump_at l) n j.1)) (chosen (let_word.at l) _ _ (Some n) (skip (range_at l) _ n i.1)))
    (chosen (and.at l) _ _ (Some n) a)
  where
    no_and : (b c d : Bool) (n : List Tok) → cond b (cond c (cond d None None) None) None ≡ Some n → ⊥
    no_and true true true n g = absurd cc
    no_and true true false n g = absurd cc
    no_and true false d n g = absurd cc
    no_and false c d n g = absurd cc

    no_jump : (b : Bool) (n : List Tok) → cond b None None ≡ Some n → ⊥
    no_jump true n g = absurd cc
    no_jump false n g = absurd cc

let_alone : (k : Prefix) (l n : List Tok) → prefix_form.behind k (ident (codes "let") ∷ l) ≡ Some n → leads_let k ≡ true
unfolding front_tests
let_alone (e.let_expr p) l n g = refl
let_alone _ l n g = absurd cc

pub let_is : (k : Prefix) (l n : List Tok) → prefix_form.behind k l ≡ Some n → let_word.at l ≡ leads_let k
let_is k l n g = go (let_word.at l) refl k g
  where
    none : (k : Prefix) → let_word.at l ≡ false → prefix_form.behind k l ≡ Some n → false ≡ leads_let k
    none (e.let_expr p) f g = absurd (let a : true ≡ false = sym (let_there p l n g) ∙ f in cc)
    none _ f g = refl

    go : (b : Bool) → let_word.at l ≡ b → (k : Prefix) → prefix_form.behind k l ≡ Some n → b ≡ leads_let k
    go true f k g = sym (let_alone k (drop 1 l) n (subst (λ z. prefix_form.behind k z ≡ Some n) (word_is (codes "let") l f) g))
    go false f k g = none k f g

-- ---- paths

-- behind a path: no word by which the path would begin an item,
abbrev pub quiet : Test
quiet l = not (is_name_there l || (word_at (codes "trait") l || (word_at (codes "impl") l || word_at (codes "unsafe") l)))

-- and no `!`
abbrev pub calm : Test
calm l = quiet l && not (not_ne.at l)

data Shape : List Tok → Type 0 where
  at_group : (i : Inside) (m : List Tok) → Shape (group del.None i ∷ m)
  at_less : (s : Spacing) (m : List Tok) → Shape (punct 60 s ∷ m)
  at_colon : (s : Spacing) (m : List Tok) → Shape (punct 58 s ∷ m)
  at_name : (w : Text) (m : List Tok) → is_segment w ≡ true → Shape (ident w ∷ m)

segment_shape : (s : SegmentTree) (l n : List Tok) → (segment type style.Expr).behind s l ≡ Some n → Shape l
unfolding segment segment_name
segment_shape s l n g = let (a, b, c) = behind_some (if_same bytes_eq s.ident (find_segment l)) _ n g in by_front l a b
  where
    by_front : (l a : List Tok) → if_same bytes_eq s.ident (find_segment l) ≡ Some a → Shape l
    by_front (ident w ∷ m) a i = by_test (is_segment w) refl i
      where
        by_test : (b : Bool) → is_segment w ≡ b → if_same bytes_eq s.ident (if b then Some (w, m) else None) ≡ Some a → Shape (ident w ∷ m)
        by_test true v j = at_name w m v
        by_test false v j = absurd cc
    by_front _ a i = absurd cc

joined_shape : (ss : List SegmentTree) (l n : List Tok) → (joined colon2 (segment type style.Expr)).behind ss l ≡ Some n → Shape l
joined_shape [] l n g = absurd cc
joined_shape (s ∷ ss) l n g = let (a, b, c) = behind_some ((segment type style.Expr).behind s l) _ n g in segment_shape s l a b

path_shape : (p : PathTree) (l n : List Tok) → (path type style.Expr).behind p l ≡ Some n → Shape l
unfolding path pieces
path_shape p l n g =
    let (x, a, b) = behind_some (part.from_path p) _ n g in
    let (m, c, d) = behind_some ((flag colon2).behind x.0 l) _ n b in
    let (f, i) = flag_is colon2 x.0 l m c in by_colons x.0 x.1 m f i d
  where
    by_colons : (b : Bool) (ss : List SegmentTree) (m : List Tok) → colon2.at l ≡ b → m ≡ (if b then drop 2 l else l) → (joined colon2 (segment type style.Expr)).behind ss m ≡ Some n → Shape l
    by_colons true ss m f i d = sign_first 58 (58 ∷ []) Shape at_colon l f
    by_colons false ss m f i d = subst Shape i (joined_shape ss m n d)

qpath_shape : (q : QPathTree) (l n : List Tok) → (qpath type style.Expr).behind q l ≡ Some n → Shape l
unfolding qpath
qpath_shape q l n g = ⊎_elim (λ a. sign_first 60 [] Shape at_less l a.0)
    (λ a. let (p, b, c) = behind_some (part.from_bare q) (λ p. (path type style.Expr).behind p l) n a.1 in path_shape p l n c)
    (chosen (less.at l) _ _ (Some n) g)

expr_path_shape : (braces : Bool) (q : QPathTree) (l n : List Tok) → (expr_path braces).behind q l ≡ Some n → Shape l
expr_path_shape braces q l n g = by_group (invisible_at l) refl
  where
    by_group : (b : Bool) → invisible_at l ≡ b → Shape l
    by_group true v = let (i, m, f) = invisible_is l v in subst Shape (sym f) (at_group i m)
    by_group false v = qpath_shape q l n (plain_path braces q l n v g)

-- what all such tokens have
record Named (l : List Tok) : Type 0 where
  no_semi : semi.at l ≡ false
  no_dot : dot_at l ≡ false
  no_question : question_at l ≡ false
  no_else : word_at (codes "else") l ≡ false
  no_pound : pound.at l ≡ false
  no_let : let_word.at l ≡ false

not_names : NoSegment (codes "else") × NoSegment (codes "let")
unfolding is_segment stands_alone is_reserved_word
not_names = (refl, refl)

colon_named : (s : Spacing) (m : List Tok) → Named (punct 58 s ∷ m)
unfolding dot_at question_at sign_at word_at
colon_named spacing.Alone m = record { no_semi = refl; no_dot = refl; no_question = refl; no_else = refl; no_pound = refl; no_let = refl }
colon_named spacing.Joint m = record { no_semi = refl; no_dot = refl; no_question = refl; no_else = refl; no_pound = refl; no_let = refl }

name_named : (w : Text) (m : List Tok) → is_segment w ≡ true → Named (ident w ∷ m)
unfolding dot_at question_at sign_at word_at
name_named w m g =
    record { no_semi = refl; no_dot = refl; no_question = refl; no_else = rw (word_not w (codes "else") g not_names.0) refl; no_pound = refl; no_let = rw (word_not w (codes "let") g not_names.1) refl }

of_head : (l : List Tok) → Head false l → Named l
of_head l g = record { no_semi = g.opens.no_semi; no_dot = g.opens.no_dot; no_question = g.opens.no_question; no_else = g.opens.no_else; no_pound = g.no_pound; no_let = g.is_let }

shape_named : (l : List Tok) → Shape l → Named l
shape_named l (at_group i m) = of_head (group del.None i ∷ m) (group_first i m).3
shape_named l (at_less s m) = of_head (punct 60 s ∷ m) (less_first s m)
shape_named l (at_colon s m) = colon_named s m
shape_named l (at_name w m g) = name_named w m g

nothing_quiet : quiet [] ≡ true
unfolding word_at
nothing_quiet = refl

pub punct_quiet : (c : ℕ) (s : Spacing) (l : List Tok) → quiet (punct c s ∷ l) ≡ true
unfolding word_at
punct_quiet c s l = refl

-- the first word of such a path, and what comes after it
word_alone : (w : Text) (m n : List Tok) (q : QPathTree) → is_segment w ≡ true → (qpath type style.Expr).behind q (ident w ∷ m) ≡ Some n → quiet n ≡ true → quiet m ≡ true
word_alone w [] n q a g k = nothing_quiet
word_alone w (x ∷ m) n q a g k = by_colons (colon2.at (x ∷ m)) refl
  where
    by_colons : (b : Bool) → colon2.at (x ∷ m) ≡ b → quiet (x ∷ m) ≡ true
    by_colons true f = sign_first 58 (58 ∷ []) (λ z. quiet z ≡ true) (punct_quiet 58) (x ∷ m) f
    by_colons false f =
        let i = some_is (sym (word_read w x m a f) ∙ heads.qpaths.found (ident w ∷ x ∷ m) q n g) in
        subst (λ z. quiet z ≡ true) (sym (ap (λ (r : QPathTree × List Tok). r.1) i)) k

quiet_parts : (l : List Tok) → quiet l ≡ true → (is_name_there l ≡ false) × (word_at (codes "trait") l ≡ false) × (word_at (codes "impl") l ≡ false) × (word_at (codes "unsafe") l ≡ false)
quiet_parts l g =
    let (a, b) = or_parts (is_name_there l) _ (not-true _ g) in
    let (c, d) = or_parts (word_at (codes "trait") l) _ b in
    let (f, i) = or_parts (word_at (codes "impl") l) _ d in
    (a, c, f, i)

group_no_row : (i : Inside) (m : List Tok) → NoRow (group del.None i ∷ m)
unfolding word_at brace_at group_at
group_no_row i m = (refl, refl)

punct_no_row : (c : ℕ) (s : Spacing) (m : List Tok) → NoRow (punct c s ∷ m)
unfolding word_at brace_at group_at
punct_no_row c s m = (refl, refl)

word_seen : (w : Text) (m : List Tok) → invisible_at (ident w ∷ m) ≡ false
unfolding invisible_at group_at
word_seen w m = refl

shape_no_row : (braces : Bool) (q : QPathTree) (l n : List Tok) → Shape l → (expr_path braces).behind q l ≡ Some n → quiet n ≡ true → NoRow l
shape_no_row braces q l n (at_group i m) g k = group_no_row i m
shape_no_row braces q l n (at_less s m) g k = punct_no_row 60 s m
shape_no_row braces q l n (at_colon s m) g k = punct_no_row 58 s m
shape_no_row braces q l n (at_name w m a) g k =
    let (c, d, f, i) = quiet_parts m (word_alone w m n q a (plain_path braces q (ident w ∷ m) n (word_seen w m) g) k) in
    name_no_row w m a c d f i

-- a path, `!` and a name
head_parts : (l : List Tok) (z : MacroHead × List Tok) → macro_head.reads l ≡ Some z
    → (p : PathTree × List Tok) × ((path type style.Mod).reads l ≡ Some p) × (not_ne.at p.1 ≡ true) × ((w : Text × List Tok) × (find_macro_name (drop 1 p.1) ≡ Some w))
head_parts l z g =
    let (p, d, k) = bind_some ((path type style.Mod).reads l) (λ y m. and_then ((mark not_ne (both macro_name any_group)).reads m) (λ z o. Some ((y, z), o))) z g in
    let (q, f, i) = bind_some ((mark not_ne (both macro_name any_group)).reads p.1) (λ z o. Some ((p.0, z), o)) z k in
    let (a, b) = marked_some not_ne (both macro_name any_group) p.1 q f in
    let (w, c, j) = bind_some (macro_name.reads (drop 1 p.1)) (λ y m. and_then (any_group.reads m) (λ z o. Some ((y, z), o))) q b in
    (p, d, a, (w, c))

pub no_outcome : {A : Type 0} (o : Outcome A) → ((z : A × List Tok) → o ≡ Some z → ⊥) → o ≡ None
no_outcome None f = refl
no_outcome (Some z) f = absurd (f z refl)

clash : (b : Bool) → b ≡ true → b ≡ false → ⊥
clash b g k = let r : true ≡ false = sym g ∙ k in cc

-- a path before no `!` begins no macro
path_no_macro : (braces : Bool) (q : QPathTree) (l n : List Tok) → (expr_path braces).behind q l ≡ Some n → not_ne.at n ≡ false → (macro_head.reads l ≡ None) × (macro.reads l ≡ None)
path_no_macro braces q l n g k = (no_outcome (macro_head.reads l) by_head, no_outcome (macro.reads l) by_macro)
  where
    by_head : (z : MacroHead × List Tok) → macro_head.reads l ≡ Some z → ⊥
    by_head z i =
        let (p, d, a, w) = head_parts l z i in
        clash (not_ne.at n) (subst (λ y. not_ne.at y ≡ true) (sym (expr_path_is braces q l n p g d).1) a) k

    by_macro : (z : MacroTree × List Tok) → macro.reads l ≡ Some z → ⊥
    by_macro z i =
        let p = macro_parts l z.0 z.1 i in
        clash (not_ne.at n) (subst (λ y. not_ne.at y ≡ true) (sym (expr_path_is braces q l n p.found g p.read).1) p.bang) k

pub path_head : (braces : Bool) (q : QPathTree) (l n : List Tok) → (expr_path braces).behind q l ≡ Some n → calm n ≡ true → Head false l
path_head braces q l n g k =
    let (a, b) = and_parts (quiet n) (not (not_ne.at n)) k in
    let s = expr_path_shape braces q l n g in
    let m = shape_named l s in
    let (c, d) = path_no_macro braces q l n g (not-true (not_ne.at n) b) in
    record {
      opens = record {
        no_item = none_begins l (shape_no_row braces q l n s g a) c;
        no_semi = m.no_semi;
        no_dot = m.no_dot;
        no_question = m.no_question;
        no_else = m.no_else;
      };
      no_pound = m.no_pound;
      is_let = m.no_let;
      no_macro = d;
    }

pub path_leaf : (q : _) (w : PathTree) (l n : List Tok) → named.behind (e.path q w) l ≡ Some n → (expr_path false).behind (q, w) l ≡ Some n
unfolding named part.macro_end
path_leaf q w l n g =
    let (m, a, b) = behind_some ((expr_path false).behind (q, w) l) ((part.macro_end (q, w)).behind None) n g in
    a ∙ by_bang (part.is_bare (q, w) && not_ne.at m) m b
  where
    by_bang : (b : Bool) (m : List Tok) → cond b None (Some m) ≡ Some n → Some m ≡ Some n
    by_bang true m i = absurd cc
    by_bang false m i = i

-- ---- the call of a macro

pub record Called (y : MacroTree) (l n : List Tok) : Type 0 where
  pub behind : List Tok
  pub comes : (expr_path false).behind (tree.no_qself, y.path) l ≡ Some behind
  pub bare : part.segments_bare y.path.segments ≡ true
  pub bang : not_ne.at behind ≡ true
  pub held : part.find_group (drop 1 behind) ≡ Some ((y.delimiter, y.tokens), n)

pub called_parts : (y : MacroTree) (l n : List Tok) → named.behind (e.mac y) l ≡ Some n → Called y l n
unfolding named part.macro_end part.any_group
called_parts y l n g =
    let (m, a, b) = behind_some ((expr_path false).behind (tree.no_qself, y.path) l) ((part.macro_end (tree.no_qself, y.path)).behind (Some (y.delimiter, y.tokens))) n g in
    let (c, d) = only_some (part.segments_bare y.path.segments && not_ne.at m) _ n b in
    let (i, j) = and_parts (part.segments_bare y.path.segments) (not_ne.at m) c in
    let (k, u) = only_some (not_ne.at m) _ n d in
    let z : Alike 0 part.any_group part.any_group = any_group_alike in
    record { behind = m; comes = a; bare = i; bang = j; held = z.complete (drop 1 m) (y.delimiter, y.tokens) n u }

pub called_is : (y : MacroTree) (l n : List Tok) (p : PathTree × List Tok) → Called y l n → (path type style.Mod).reads l ≡ Some p → macro.reads l ≡ Some (y, n)
unfolding macro part.any_group
called_is y l n p c g =
    let (a, b) = expr_path_is false (tree.no_qself, y.path) l c.behind p c.comes g in
    let d : (path type style.Mod).reads l ≡ Some (y.path, p.1) = subst (λ z. (path type style.Mod).reads l ≡ Some (z, p.1)) (sym (ap (λ (z : QPathTree). z.1) a)) g in
    let f : (path type style.Mod).reads l ≡ Some (y.path, c.behind) = subst (λ z. (path type style.Mod).reads l ≡ Some (y.path, z)) (sym b) d in
    rw (f, c.bang, c.held) refl

-- a macro that is read at the front of the list is this one
pub called_only : (y : MacroTree) (l n : List Tok) (z : MacroTree × List Tok) → Called y l n → macro.reads l ≡ Some z → z ≡ (y, n)
called_only y l n z c g =
    let p = macro_parts l z.0 z.1 g in
    some_is (sym g ∙ called_is y l n p.found c p.read)

called_no_head : (y : MacroTree) (l n : List Tok) → Called y l n → macro_head.reads l ≡ None
called_no_head y l n c = no_outcome (macro_head.reads l) by_head
  where
    by_head : (z : MacroHead × List Tok) → macro_head.reads l ≡ Some z → ⊥
    by_head z i =
        let (p, d, a, w) = head_parts l z i in
        let (b, k) = expr_path_is false (tree.no_qself, y.path) l c.behind p c.comes d in
        let r : None ≡ Some w.0 = sym (group_no_name (drop 1 c.behind) ((y.delimiter, y.tokens), n) c.held) ∙ ap (λ z. find_macro_name (drop 1 z)) k ∙ w.1 in cc

pub called_opens : (y : MacroTree) (l n : List Tok) → Called y l n → Opens l × (let_word.at l ≡ false) × (pound.at l ≡ false)
called_opens y l n c =
    let s = expr_path_shape false (tree.no_qself, y.path) l c.behind c.comes in
    let m = shape_named l s in
    let q = sign_first 33 [] (λ z. quiet z ≡ true) (punct_quiet 33) c.behind (and_parts (sign_at (codes "!") c.behind) _ c.bang).0 in (
      record {
        no_item = none_begins l (shape_no_row false (tree.no_qself, y.path) l c.behind s c.comes q) (called_no_head y l n c);
        no_semi = m.no_semi;
        no_dot = m.no_dot;
        no_question = m.no_question;
        no_else = m.no_else;
      },
      m.no_let,
      m.no_pound,
    )

-- a macro is read as one, whatever begins it
pub mac_named : (y : MacroTree) (l n : List Tok) → leaf_form.behind (e.mac y) l ≡ Some n → named.behind (e.mac y) l ≡ Some n
unfolding leaf_form
mac_named y l n g =
    let a = skip (range_at l) _ n (skip_two (underscore.at l) (underscore.at l) _ n (skip (literal_at l) _ n g)) in
    let b = skip (block_at l) _ n (skip (loop_at l) _ n (skip_two (front.continue_word.at l) (front.continue_word.at l) _ n (skip (jump_at l) _ n a))) in
    let c = skip_two (const_block_at l) (constant.at l) _ n (skip_two (front.unsafe_word.at l) (front.unsafe_word.at l) _ n b) in
    skip (builtin_at l) _ n (skip_two (try_block_at l) (front.try_word.at l) _ n (skip_two (async_block_at l) (async_word.at l) _ n c))

abbrev pub is_name : Leaf → Bool
is_name (e.path q w) = true
is_name (e.mac y) = true
is_name _ = false

pub not_named : (k : Leaf) (l n : List Tok) → is_name k ≡ false → named.behind k l ≡ Some n → ⊥
unfolding named
not_named (e.lit x) l n g i = absurd cc
not_named (e.path q w) l n g i = absurd cc
not_named (e.mac y) l n g i = absurd cc
not_named _ l n g i = absurd cc

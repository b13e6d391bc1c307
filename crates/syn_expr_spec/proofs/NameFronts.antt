-- The first tokens of paths, of loops and of frames that a word begins, and the tests that they pass.
use Rattle.std.specs.Prelude.{◌==◌, if◌then◌else◌}
use Rattle.std.proofs.Common.{◌≡◌, Bool, true, false, ⊎_elim, List, [], ◌∷◌, drop, codes, Option, Some, None, refl, ap, sym, ◌∙◌, subst, arith, ℕ}
use Rattle.std.proofs.lemmas.Bool.Decides.{nat_tests}
use Rattle.std.specs.Str.{bytes_eq}
use Rattle.std.proofs.lemmas.Bool.{and_parts, not-true}
use Rattle.syn_lexer.specs.Keywords.{is_reserved_word}
use Rattle.syn_lexer.specs.declared.front.Delimiter.TheVariants as del
use Rattle.syn_lexer.specs.declared.front.Spacing.{Spacing}
use Rattle.syn_lexer.specs.declared.front.Spacing.TheVariants as spacing
use Rattle.syn_tokens.specs.Tok.{Tok, Inside, ident, punct, group}
use Rattle.syn_tokens.specs.Front.{group_at}
use Rattle.syn_lower_spec.specs.Text.{Text, is_segment, stands_alone, is_truth}
use Rattle.syn_lower_spec.specs.declared.label.PathStyle.TheVariants as style
use Rattle.syn_lower_spec.specs.Tree as t
use Rattle.syn_lower_spec.specs.Tree.{PathTree, SegmentTree, QSelfTree}
use Rattle.syn_lower_spec.specs.Form.{flag, is_none, if_same, joined, more, fix, iterate, then_behind}
use Rattle.syn_lower_spec.specs.Mark.{sign_at, word_at, lifetime_at, brace_at, round_at, less, colon2, colon, pound, underscore, constant, star, bang, and}
use Rattle.syn_lower_spec.specs.Part.{QPathTree, qpath, path, pieces, segment, segment_name, find_segment, type, lifetimes_at, lifetime, from_bare, from_path, arguments, turbofish_at, no_arguments}
use Rattle.syn_lower_spec.proofs.Ends.{sign_first}
use Rattle.syn_lower_spec.proofs.Fronts.{NoSegment, word_not, no_truth, not_for, not_underscore, not_unsafe}
use Rattle.syn_expr_spec.specs.Front.{bracket_at}
use Rattle.syn_expr_spec.specs.Path.{invisible_at, expr_path, is_try_alone}
use Rattle.syn_expr_spec.specs.Head.{closure_at, range_at, jump_at, literal_at, loop_at, loop_word, block_at, const_block_at, async_block_at, try_block_at, builtin_at, label, past_label, leaf_at, leaf_form, named, body, continue_word, unsafe_word, async_word, try_word, prefix_form, minus, let_word, raw_at, raw_word, jump_head, return_word, yield_word, break_word}
use Rattle.syn_expr_spec.specs.Slot.{if_word, match_word, while_word, for_word, frame_head}
use Rattle.syn_expr_spec.specs.Read.{prefix_at, loop_head_at, become_word}
use Rattle.syn_expr_spec.proofs.Chains.{only_some, chosen}
use Rattle.syn_expr_spec.proofs.Fronts.{word_is, no_lifetime, sign_no_leaf, flag_is}
use Rattle.syn_expr_spec.proofs.GroupForms.{invisible_is, plain_path}
use Rattle.syn_expr_spec.proofs.HeadForms.{not_leaf_words, leaf_tests}
use Rattle.syn_expr_spec.proofs.Needs.{heads}
use Rattle.syn_lower_spec.specs.Pat.{an_index}
use Rattle.syn_lower_spec.proofs.Weights.{some_is}
use Rattle.syn_lower_spec.proofs.Forms.{behind_some}
use Rattle.syn_expr_spec.specs.declared.kinds.Place.{Place}
use Rattle.syn_expr_spec.specs.Stands.{Node, is_leaf, is_become, is_infixed, is_postfixed, is_tail, is_indexed, is_frame, fields_of}
use Rattle.syn_expr_spec.specs.Tree as e
use Rattle.syn_expr_spec.specs.Tree.{Tree, Leaf, Frame, Body, tail, none}
use Rattle.syn_expr_spec.specs.Rule.{leaf_labelled, frame_labelled}
use Rattle.syn_expr_spec.proofs.Obeys.{begins_label}

-- what the front of a name is asked, for a proof that computes it
asked : Bool
unfolding prefix_at range_at jump_at closure_at sign_at word_at lifetimes_at loop_head_at lifetime_at round_at bracket_at group_at leaf_at is_truth leaf_tests brace_at
asked = true

-- words that no path and no leaf begins with
not_other_words : NoSegment (codes "let") × NoSegment (codes "move") × NoSegment (codes "use") × NoSegment (codes "static") × NoSegment (codes "become") × NoSegment (codes "if") × NoSegment (codes "while") × NoSegment (codes "match")
unfolding is_segment stands_alone is_reserved_word
not_other_words = (refl, refl, refl, refl, refl, refl, refl, refl)

-- a path comes first, and nothing else
pub record Named (l : List Tok) : Type 0 where
  pub no_prefix : prefix_at l ≡ false
  pub no_round : round_at l ≡ false
  pub no_bracket : bracket_at l ≡ false
  pub no_become : become_word.at l ≡ false
  pub no_if : if_word.at l ≡ false
  pub no_loop : loop_head_at l ≡ false
  pub no_match : match_word.at l ≡ false
  -- but two leaves may
  pub no_leaf : try_block_at l ≡ false → builtin_at l ≡ false → leaf_at l ≡ false

pub named_word : (w : Text) (m : List Tok) → is_segment w ≡ true → Named (ident w ∷ m)
unfolding prefix_at range_at jump_at closure_at sign_at word_at lifetimes_at loop_head_at lifetime_at round_at bracket_at group_at leaf_at literal_at loop_at block_at const_block_at async_block_at brace_at
named_word w m g =
    let (not_return, not_yield, not_break, not_continue, not_loop, not_const, not_async) = not_leaf_words in
    let (not_let, not_move, not_use, not_static, not_become, not_if, not_while, not_match) = not_other_words in
    record {
      no_prefix = rw (
        word_not w (codes "let") g not_let,
        word_not w (codes "return") g not_return,
        word_not w (codes "yield") g not_yield,
        word_not w (codes "break") g not_break,
        word_not w (codes "move") g not_move,
        word_not w (codes "use") g not_use,
        word_not w (codes "static") g not_static,
        word_not w (codes "for") g not_for,
        word_not w (codes "const") g not_const,
        word_not w (codes "async") g not_async,
      ) refl;
      no_round = refl;
      no_bracket = refl;
      no_become = rw (word_not w (codes "become") g not_become) refl;
      no_if = rw (word_not w (codes "if") g not_if) refl;
      no_loop = rw (word_not w (codes "while") g not_while, word_not w (codes "for") g not_for) refl;
      no_match = rw (word_not w (codes "match") g not_match) refl;
      no_leaf = λ a b. rw (
        no_truth w g,
        word_not w (codes "_") g not_underscore,
        word_not w (codes "continue") g not_continue,
        word_not w (codes "loop") g not_loop,
        word_not w (codes "unsafe") g not_unsafe,
        word_not w (codes "const") g not_const,
        word_not w (codes "async") g not_async,
        a,
        b,
      ) refl;
    }

named_colons : (s : Spacing) (m : List Tok) → Named (punct 58 s ∷ m)
unfolding prefix_at range_at jump_at closure_at sign_at word_at lifetimes_at loop_head_at round_at bracket_at group_at
named_colons spacing.Alone m = record { no_prefix = refl; no_round = refl; no_bracket = refl; no_become = refl; no_if = refl; no_loop = rw (no_lifetime 58 spacing.Alone m refl) refl; no_match = refl; no_leaf = λ a b. sign_no_leaf 58 _ m refl }
named_colons spacing.Joint m = record { no_prefix = refl; no_round = refl; no_bracket = refl; no_become = refl; no_if = refl; no_loop = rw (no_lifetime 58 spacing.Joint m refl) refl; no_match = refl; no_leaf = λ a b. sign_no_leaf 58 _ m refl }

named_less : (s : Spacing) (m : List Tok) → Named (punct 60 s ∷ m)
unfolding prefix_at range_at jump_at closure_at sign_at word_at lifetimes_at loop_head_at round_at bracket_at group_at
named_less spacing.Alone m = record { no_prefix = refl; no_round = refl; no_bracket = refl; no_become = refl; no_if = refl; no_loop = rw (no_lifetime 60 spacing.Alone m refl) refl; no_match = refl; no_leaf = λ a b. sign_no_leaf 60 _ m refl }
named_less spacing.Joint m = record { no_prefix = refl; no_round = refl; no_bracket = refl; no_become = refl; no_if = refl; no_loop = rw (no_lifetime 60 spacing.Joint m refl) refl; no_match = refl; no_leaf = λ a b. sign_no_leaf 60 _ m refl }

segment_front : (s : SegmentTree) (l n : List Tok) → (segment type style.Expr).behind s l ≡ Some n → Named l
unfolding segment segment_name
segment_front s l n g = let (a, b, c) = behind_some (if_same bytes_eq s.ident (find_segment l)) _ n g in by_front l a b
  where
    by_front : (l a : List Tok) → if_same bytes_eq s.ident (find_segment l) ≡ Some a → Named l
    by_front (ident w ∷ m) a i = by_test (is_segment w) refl i
      where
        by_test : (b : Bool) → is_segment w ≡ b → if_same bytes_eq s.ident (if b then Some (w, m) else None) ≡ Some a → Named (ident w ∷ m)
        by_test true v j = named_word w m v
        by_test false v j = absurd cc
    by_front _ a i = absurd cc

joined_front : (ss : List SegmentTree) (l n : List Tok) → (joined colon2 (segment type style.Expr)).behind ss l ≡ Some n → Named l
joined_front [] l n g = absurd cc
joined_front (s ∷ ss) l n g = let (a, b, c) = behind_some ((segment type style.Expr).behind s l) _ n g in segment_front s l a b

path_front : (p : PathTree) (l n : List Tok) → (path type style.Expr).behind p l ≡ Some n → Named l
unfolding path pieces
path_front p l n g =
    let (x, a, b) = behind_some (from_path p) _ n g in
    let (m, c, d) = behind_some ((flag colon2).behind x.0 l) _ n b in
    let (f, i) = flag_is colon2 x.0 l m c in by_colons x.0 x.1 m f i d
  where
    by_colons : (b : Bool) (ss : List SegmentTree) (m : List Tok) → colon2.at l ≡ b → m ≡ (if b then drop 2 l else l) → (joined colon2 (segment type style.Expr)).behind ss m ≡ Some n → Named l
    by_colons true ss m f i d = sign_first 58 (58 ∷ []) (λ z. Named z) named_colons l f
    by_colons false ss m f i d = subst (λ z. Named z) i (joined_front ss m n d)

pub qpath_front : (q : QPathTree) (l n : List Tok) → (qpath type style.Expr).behind q l ≡ Some n → Named l
unfolding qpath
qpath_front q l n g = ⊎_elim (λ a. sign_first 60 [] (λ z. Named z) named_less l a.0)
    (λ a. let (p, b, c) = behind_some (from_bare q) (λ p. (path type style.Expr).behind p l) n a.1 in path_front p l n c)
    (chosen (less.at l) _ _ (Some n) g)

-- an invisible group, which a path may begin with
pub group_named : (i : Inside) (m : List Tok) → Named (group del.None i ∷ m)
unfolding prefix_at range_at jump_at closure_at sign_at word_at lifetimes_at loop_head_at lifetime_at round_at bracket_at group_at leaf_at leaf_tests brace_at
group_named i m = record { no_prefix = refl; no_round = refl; no_bracket = refl; no_become = refl; no_if = refl; no_loop = refl; no_match = refl; no_leaf = λ a b. refl }

pub group_words : (l : List Tok) → invisible_at l ≡ true → (try_block_at l ≡ false) × (builtin_at l ≡ false)
unfolding try_block_at builtin_at word_at
group_words l v = let (i, m, e) = invisible_is l v in subst (λ z. (try_block_at z ≡ false) × (builtin_at z ≡ false)) (sym e) (refl, refl)

pub group_no_leaf : (l : List Tok) → invisible_at l ≡ true → leaf_at l ≡ false
group_no_leaf l v =
    let (i, m, e) = invisible_is l v in
    let (a, b) = group_words l v in
    let f = (group_named i m).no_leaf (subst (λ z. try_block_at z ≡ false) e a) (subst (λ z. builtin_at z ≡ false) e b) in
    subst (λ z. leaf_at z ≡ false) (sym e) f

pub expr_path_front : (braces : Bool) (q : QPathTree) (l n : List Tok) → (expr_path braces).behind q l ≡ Some n → Named l
expr_path_front braces q l n g = by_group (invisible_at l) refl
  where
    by_group : (b : Bool) → invisible_at l ≡ b → Named l
    by_group true v = let (i, m, e) = invisible_is l v in subst (λ z. Named z) (sym e) (group_named i m)
    by_group false v = qpath_front q l n (plain_path braces q l n v g)

-- ---- the path that is a word alone

unfoldable pub one_word : Text → QPathTree
one_word w = (t.no_qself, record { leading = false; segments = record { ident = w; arguments = t.no_arguments } ∷ []; trailing = false })

pub word_read : (w : Text) (x : Tok) (m : List Tok) → is_segment w ≡ true → colon2.at (x ∷ m) ≡ false → (qpath type style.Expr).reads (ident w ∷ x ∷ m) ≡ Some (one_word w, x ∷ m)
unfolding qpath path pieces segment segment_name arguments turbofish_at no_arguments more fix iterate one_word sign_at
word_read w x m g c = by_test (stands_alone w) refl
  where
    by_test : (b : Bool) → stands_alone w ≡ b → (qpath type style.Expr).reads (ident w ∷ x ∷ m) ≡ Some (one_word w, x ∷ m)
    by_test true v = rw (g, v, c) refl
    by_test false v = rw (g, v, c, c) refl

-- ---- labels

pub label_past : (w : Option Text) (l m : List Tok) → label.behind w l ≡ Some m → past_label l ≡ m
unfolding lifetime lifetime_at
label_past None (punct c spacing.Joint ∷ ident s ∷ l) m g =
    ⊎_elim (λ k. absurd cc) (λ k. rw k.0 (some_is k.1)) (chosen (c == 39) _ (Some (punct c spacing.Joint ∷ ident s ∷ l)) (Some m) g)
label_past (Some x) (punct c spacing.Joint ∷ ident s ∷ l) m g =
    ⊎_elim (λ k.
    let (a, b, d) = behind_some (if c == 39 then if_same bytes_eq x (Some (s, l)) else None) _ m k.1 in
    let (i, j) = only_some (c == 39) (if_same bytes_eq x (Some (s, l))) a b in
    let (u, v) = only_some (bytes_eq x s) (Some l) a j in
    let (y, z) = only_some (colon.at a) (Some (drop 1 a)) m d in
    rw k.0 (ap (λ y. drop 1 y) (some_is v) ∙ some_is z)) (λ k. absurd cc) (chosen (c == 39) _ None (Some m) g)
label_past w l m g = let (a, b) = only_some (is_none w) (Some l) m g in some_is b

-- ---- loops

pub record LoopFront (l : List Tok) : Type 0 where
  pub no_leaf : leaf_at l ≡ false
  pub no_prefix : prefix_at l ≡ false
  pub no_round : round_at l ≡ false
  pub no_bracket : bracket_at l ≡ false
  pub no_become : become_word.at l ≡ false
  pub no_if : if_word.at l ≡ false
  pub loops : loop_head_at l ≡ true

while_front : (l : List Tok) → LoopFront (ident (codes "while") ∷ l)
unfolding asked
while_front l = record { no_leaf = refl; no_prefix = refl; no_round = refl; no_bracket = refl; no_become = refl; no_if = refl; loops = refl }

for_front : (l : List Tok) → lifetimes_at (ident (codes "for") ∷ l) ≡ false → LoopFront (ident (codes "for") ∷ l)
unfolding prefix_at range_at jump_at closure_at sign_at word_at loop_head_at lifetime_at round_at bracket_at group_at leaf_at is_truth leaf_tests brace_at
for_front l g = record { no_leaf = refl; no_prefix = rw g refl; no_round = refl; no_bracket = refl; no_become = refl; no_if = refl; loops = rw g refl }

-- a loop's word after a label or none
labelled_front : (l m : List Tok) → past_label l ≡ m → loop_word.at m ≡ false → brace_at m ≡ false → (lifetime_at l ≡ false → LoopFront l) → LoopFront l
unfolding prefix_at range_at jump_at closure_at sign_at word_at lifetimes_at loop_head_at lifetime_at round_at bracket_at group_at leaf_at is_truth leaf_tests
labelled_front (punct c spacing.Joint ∷ ident s ∷ l) m g a b f =
    ⊎_elim (λ k. let i : 39 ≡ c = grind (arith, nat_tests, k.0) in quoted i g)
    (λ k. f k.0) (chosen (c == 39) true false _ refl)
  where
    quoted : 39 ≡ c → past_label (punct c spacing.Joint ∷ ident s ∷ l) ≡ m → LoopFront (punct c spacing.Joint ∷ ident s ∷ l)
    quoted i = subst (λ z. past_label (punct z spacing.Joint ∷ ident s ∷ l) ≡ m → LoopFront (punct z spacing.Joint ∷ ident s ∷ l)) i
        (λ g. record { no_leaf = rw (g, a, b) refl; no_prefix = refl; no_round = refl; no_bracket = refl; no_become = refl; no_if = refl; loops = refl })
labelled_front l m g a b f = f refl

past_none : (l : List Tok) → lifetime_at l ≡ false → past_label l ≡ l
past_none l g = rw g refl

pub while_loop_front : (w : Option Text) (l m : List Tok) → label.behind w l ≡ Some m → while_word.at m ≡ true → LoopFront l
unfolding brace_at group_at word_at
while_loop_front w l m g v =
    let a = label_past w l m g in
    let i = word_is _ m v in
    labelled_front l m a (rw i refl) (rw i refl) (λ b. let j : l ≡ m = sym (past_none l b) ∙ a in subst (λ z. LoopFront z) (sym (j ∙ i)) (while_front (drop 1 m)))

pub for_loop_front : (w : Option Text) (l m : List Tok) → label.behind w l ≡ Some m → for_word.at m ≡ true → LoopFront l
unfolding brace_at group_at word_at
for_loop_front w l m g v =
    let a = label_past w l m g in
    let (f, n) = and_parts (word_at (codes "for") m) _ v in
    let i = word_is _ m f in
    labelled_front l m a (rw i refl) (rw i refl) (λ b. let j : l ≡ m = sym (past_none l b) ∙ a in
    subst (λ z. LoopFront z) (sym (j ∙ i)) (for_front (drop 1 m) (subst (λ z. lifetimes_at z ≡ false) i (not-true (lifetimes_at m) n))))

-- ---- words

pub record WordFront (l : List Tok) : Type 0 where
  pub no_leaf : leaf_at l ≡ false
  pub no_prefix : prefix_at l ≡ false
  pub no_round : round_at l ≡ false
  pub no_bracket : bracket_at l ≡ false

become_first : (l : List Tok) → WordFront (ident (codes "become") ∷ l)
unfolding asked
become_first l = record { no_leaf = refl; no_prefix = refl; no_round = refl; no_bracket = refl }

pub become_front : (l : List Tok) → become_word.at l ≡ true → WordFront l
become_front l g = subst (λ z. WordFront z) (sym (word_is _ l g)) (become_first (drop 1 l))

pub record IfFront (l : List Tok) : Type 0 where
  pub front : WordFront l
  pub no_become : become_word.at l ≡ false

if_first : (l : List Tok) → IfFront (ident (codes "if") ∷ l)
unfolding asked
if_first l = record { front = record { no_leaf = refl; no_prefix = refl; no_round = refl; no_bracket = refl }; no_become = refl }

pub if_front : (l : List Tok) → if_word.at l ≡ true → IfFront l
if_front l g = subst (λ z. IfFront z) (sym (word_is _ l g)) (if_first (drop 1 l))

pub record MatchFront (l : List Tok) : Type 0 where
  pub front : WordFront l
  pub no_become : become_word.at l ≡ false
  pub no_if : if_word.at l ≡ false
  pub no_loop : loop_head_at l ≡ false

match_first : (l : List Tok) → MatchFront (ident (codes "match") ∷ l)
unfolding asked
match_first l = record { front = record { no_leaf = refl; no_prefix = refl; no_round = refl; no_bracket = refl }; no_become = refl; no_if = refl; no_loop = refl }

pub match_front : (l : List Tok) → match_word.at l ≡ true → MatchFront l
match_front l g = subst (λ z. MatchFront z) (sym (word_is _ l g)) (match_first (drop 1 l))

-- ---- groups

pub record GroupFront (l : List Tok) : Type 0 where
  pub no_leaf : leaf_at l ≡ false
  pub no_prefix : prefix_at l ≡ false

pub round_front : (i : Inside) (l : List Tok) → GroupFront (group del.Parenthesis i ∷ l)
unfolding prefix_at range_at jump_at closure_at sign_at word_at lifetimes_at lifetime_at group_at leaf_at leaf_tests brace_at
round_front i l = record { no_leaf = refl; no_prefix = refl }

pub bracket_front : (i : Inside) (l : List Tok) → GroupFront (group del.Bracket i ∷ l)
unfolding prefix_at range_at jump_at closure_at sign_at word_at lifetimes_at lifetime_at group_at leaf_at leaf_tests brace_at
bracket_front i l = record { no_leaf = refl; no_prefix = refl }

by_word : (q : QPathTree) (w : Text) (x : Tok) (m n : List Tok) → is_segment w ≡ true → colon2.at (x ∷ m) ≡ false → (qpath type style.Expr).behind q (ident w ∷ x ∷ m) ≡ Some n → (one_word w ≡ q) × (x ∷ m ≡ n)
by_word q w x m n a b g =
    let i : Some (one_word w, x ∷ m) ≡ Some (q, n) = sym (word_read w x m a b) ∙ heads.qpaths.found (ident w ∷ x ∷ m) q n g in
    let j = some_is i in (ap (λ (r : QPathTree × List Tok). r.0) j, ap (λ (r : QPathTree × List Tok). r.1) j)

brace_is : (l : List Tok) → brace_at l ≡ true → (i : Inside) × (n : List Tok) × (l ≡ group del.Brace i ∷ n)
unfolding brace_at group_at
brace_is (group del.Brace i ∷ l) g = (i, l, refl)
brace_is _ g = absurd cc

pound_is : (l : List Tok) → pound.at l ≡ true → (s : Spacing) × (n : List Tok) × (l ≡ punct 35 s ∷ n)
pound_is l g = sign_first 35 [] (λ z. (s : Spacing) × (n : List Tok) × (z ≡ punct 35 s ∷ n)) (λ s n. (s, n, refl)) l g

try_segment : is_segment (codes "try") ≡ true
unfolding is_segment stands_alone is_reserved_word
try_segment = refl

builtin_segment : is_segment (codes "builtin") ≡ true
unfolding is_segment stands_alone is_reserved_word
builtin_segment = refl

brace_no_colons : (i : Inside) (n : List Tok) → colon2.at (group del.Brace i ∷ n) ≡ false
unfolding sign_at
brace_no_colons i n = refl

pound_no_colons : (s : Spacing) (n : List Tok) → colon2.at (punct 35 s ∷ n) ≡ false
unfolding sign_at
pound_no_colons spacing.Alone n = refl
pound_no_colons spacing.Joint n = refl

try_alone : is_try_alone (one_word (codes "try")).0 (one_word (codes "try")).1 ≡ true
unfolding one_word
try_alone = refl

path_no_try : (q : QPathTree) (l m : List Tok) → (qpath type style.Expr).behind q l ≡ Some m → is_try_alone q.0 q.1 ≡ false → try_block_at l ≡ false
unfolding try_block_at
path_no_try q l m g t = by_test (try_block_at l) refl
  where
    by_test : (b : Bool) → try_block_at l ≡ b → b ≡ false
    by_test false v = refl
    by_test true v =
        let (a, b) = and_parts (word_at (codes "try") l) (brace_at (drop 1 l)) v in
        let (i, n, c) = brace_is (drop 1 l) b in
        let d : l ≡ ident (codes "try") ∷ group del.Brace i ∷ n = word_is (codes "try") l a ∙ ap (λ z. ident (codes "try") ∷ z) c in
        let (f, j) = by_word q (codes "try") (group del.Brace i) n m try_segment (brace_no_colons i n) (subst (λ z. (qpath type style.Expr).behind q z ≡ Some m) d g) in
        let o : is_try_alone q.0 q.1 ≡ true = subst (λ (r : QPathTree). is_try_alone r.0 r.1 ≡ true) f try_alone in absurd (cc (o, t))

path_no_builtin : (q : QPathTree) (l m : List Tok) → (qpath type style.Expr).behind q l ≡ Some m → pound.at m ≡ false → builtin_at l ≡ false
unfolding builtin_at
path_no_builtin q l m g t = by_test (builtin_at l) refl
  where
    by_test : (b : Bool) → builtin_at l ≡ b → b ≡ false
    by_test false v = refl
    by_test true v =
        let (a, b) = and_parts (word_at (codes "builtin") l) (pound.at (drop 1 l)) v in
        let (w, y, c) = pound_is (drop 1 l) b in
        let d : l ≡ ident (codes "builtin") ∷ punct 35 w ∷ y = word_is (codes "builtin") l a ∙ ap (λ z. ident (codes "builtin") ∷ z) c in
        let (f, j) = by_word q (codes "builtin") (punct 35 w) y m builtin_segment (pound_no_colons w y) (subst (λ z. (qpath type style.Expr).behind q z ≡ Some m) d g) in
        absurd (cc (b, subst (λ z. pound.at z ≡ false) (sym (c ∙ j)) t))

-- no such path begins with the block of a `try`, nor as special syntax does
pub path_no_words : (braces : Bool) (q : QPathTree) (l m : List Tok) → (expr_path braces).behind q l ≡ Some m → is_try_alone q.0 q.1 ≡ false → pound.at m ≡ false → (try_block_at l ≡ false) × (builtin_at l ≡ false)
path_no_words braces q l m g t b = by_group (invisible_at l) refl
  where
    by_group : (c : Bool) → invisible_at l ≡ c → (try_block_at l ≡ false) × (builtin_at l ≡ false)
    by_group true v = group_words l v
    by_group false v = let a = plain_path braces q l m v g in (path_no_try q l m a t, path_no_builtin q l m a b)

-- ---- what stands begins with the first token of its first node

-- past a case that has none
skip : (b : Bool) (o : Option (List Tok)) (n : List Tok) → (if b then None else o) ≡ Some n → o ≡ Some n
skip true o n h = absurd cc
skip false o n h = h

skip_two : (b c : Bool) (o : Option (List Tok)) (n : List Tok) → (if b then (if c then None else None) else o) ≡ Some n → o ≡ Some n
skip_two true true o n h = absurd cc
skip_two true false o n h = absurd cc
skip_two false c o n h = h

only : (b : Bool) (o : Option (List Tok)) (n : List Tok) → (if b then o else None) ≡ Some n → (b ≡ true) × (o ≡ Some n)
only true o n h = (refl, h)
only false o n h = absurd cc

labelled_label : (w : Text) (l n : List Tok) → label.behind (Some w) l ≡ Some n → lifetime_at l ≡ true
labelled_label w l n h = (only (lifetime_at l) _ n h).0

group_brace : (o : Option (List Tok × List Tok)) (b : Body) (l n : List Tok) → group_at del.Brace l ≡ o → body.behind b l ≡ Some n → brace_at l ≡ true
unfolding body brace_at
group_brace None b l n q h = absurd (let r : None ≡ Some n = rw q at h in cc)
group_brace (Some g) b l n q h = rw q refl

bare_label : (l n : List Tok) → label.behind None l ≡ Some n → l ≡ n
bare_label l n h = let r : Some l ≡ Some n = skip (lifetime_at l) (Some l) n h in cc

choose : (b : Bool) (x y : Option (List Tok)) (n : List Tok) → (if b then x else y) ≡ Some n → (y ≡ Some n → ⊥) → x ≡ Some n
choose true x y n h f = h
choose false x y n h f = absurd (f h)

no_other : (l n : List Tok) (u c a t i : Bool) (d w m v : Bool) → (if u then (if d then None else None) else (if c then (if w then None else None) else (if a then (if m then None else None) else
    (if t then (if v then None else None) else (if i then None else None))))) ≡ Some n → ⊥
no_other l n u c a t i d w m v h =
    let r : None ≡ Some n = skip i None n (skip_two t v _ n (skip_two a m _ n (skip_two c w _ n (skip_two u d _ n h)))) in cc

pub block_first : (b : Body) (l n : List Tok) → leaf_form.behind (e.block None b) l ≡ Some n → brace_at l ≡ true
unfolding leaf_form named
block_first b l n h =
    let k = skip (loop_at l) _ n (skip_two (continue_word.at l) (continue_word.at l) _ n (skip (jump_at l) _ n (skip (range_at l) _ n (skip_two (underscore.at l) (underscore.at l) _ n (skip (literal_at l) _ n h))))) in
    let j = choose (block_at l) (then_behind (label.behind None l) (body.behind b)) _ n k (λ i. no_other l n (unsafe_word.at l) (const_block_at l) (async_block_at l) (try_block_at l) (builtin_at l) (unsafe_word.at l) (constant.at l) (async_word.at l) (try_word.at l) i) in
    let (m, p, q) = behind_some (label.behind None l) (body.behind b) n j in
    group_brace (group_at del.Brace l) b l n refl (subst (λ z. body.behind b z ≡ Some n) (sym (bare_label l m p)) q)

block_label : (w : Text) (b : Body) (l n : List Tok) → leaf_form.behind (e.block (Some w) b) l ≡ Some n → lifetime_at l ≡ true
unfolding leaf_form named
block_label w b l n h =
    let k = skip (loop_at l) _ n (skip_two (continue_word.at l) (continue_word.at l) _ n (skip (jump_at l) _ n (skip (range_at l) _ n (skip_two (underscore.at l) (underscore.at l) _ n (skip (literal_at l) _ n h))))) in
    let j = choose (block_at l) (then_behind (label.behind (Some w) l) (body.behind b)) _ n k (λ i. no_other l n (unsafe_word.at l) (const_block_at l) (async_block_at l) (try_block_at l) (builtin_at l) (unsafe_word.at l) (constant.at l) (async_word.at l) (try_word.at l) i) in
    let (m, p, q) = behind_some (label.behind (Some w) l) (body.behind b) n j in
    labelled_label w l m p

loop_label : (w : Text) (b : Body) (l n : List Tok) → leaf_form.behind (e.loop_expr (Some w) b) l ≡ Some n → lifetime_at l ≡ true
unfolding leaf_form named
loop_label w b l n h =
    let k = skip_two (continue_word.at l) (continue_word.at l) _ n (skip (jump_at l) _ n (skip (range_at l) _ n (skip_two (underscore.at l) (underscore.at l) _ n (skip (literal_at l) _ n h)))) in
    let j = choose (loop_at l) (then_behind (label.behind (Some w) l) (λ m. if loop_word.at m then body.behind b (drop 1 m) else None)) _ n k (λ i. no_other l n (unsafe_word.at l) (const_block_at l) (async_block_at l) (try_block_at l) (builtin_at l) (unsafe_word.at l) (constant.at l) (async_word.at l) (try_word.at l) (skip (block_at l) _ n i)) in
    let (m, p, q) = behind_some (label.behind (Some w) l) (λ m. if loop_word.at m then body.behind b (drop 1 m) else None) n j in
    labelled_label w l m p

-- a path is read as one, whatever begins it
pub path_named : (q : QSelfTree) (w : PathTree) (l n : List Tok) → leaf_form.behind (e.path q w) l ≡ Some n → named.behind (e.path q w) l ≡ Some n
unfolding leaf_form
path_named q w l n h =
    let a = skip (range_at l) _ n (skip_two (underscore.at l) (underscore.at l) _ n (skip (literal_at l) _ n h)) in
    let b = skip (block_at l) _ n (skip (loop_at l) _ n (skip_two (continue_word.at l) (continue_word.at l) _ n (skip (jump_at l) _ n a))) in
    let c = skip_two (const_block_at l) (constant.at l) _ n (skip_two (unsafe_word.at l) (unsafe_word.at l) _ n b) in
    skip (builtin_at l) _ n (skip_two (try_block_at l) (try_word.at l) _ n (skip_two (async_block_at l) (async_word.at l) _ n c))

leaf_label : (k : Leaf) (l n : List Tok) → leaf_form.behind k l ≡ Some n → leaf_labelled k ≡ true → lifetime_at l ≡ true
leaf_label (e.block (Some w) b) l n h t = block_label w b l n h
leaf_label (e.loop_expr (Some w) b) l n h t = loop_label w b l n h
leaf_label _ l n h t = absurd cc

frame_label : (k : Frame) (l n : List Tok) → frame_head k l ≡ Some n → frame_labelled k ≡ true → lifetime_at l ≡ true
frame_label (e.while_loop (Some w)) l n h t = let (m, p, q) = behind_some (label.behind (Some w) l) _ n h in labelled_label w l m p
frame_label (e.for_loop (Some w) x) l n h t = let (m, p, q) = behind_some (label.behind (Some w) l) _ n h in labelled_label w l m p
frame_label _ l n h t = absurd cc

fields_label : (is : List ℕ) (b : Tree) → begins_label (fields_of b is) ≡ begins_label b
fields_label [] b = refl
fields_label (i ∷ is) b = fields_label is (tail b (e.field (an_index i)) none)

pub label_first : {p : Place} {l n : List Tok} {x : Tree} → Node p l x n → begins_label x ≡ true → lifetime_at l ≡ true
label_first (is_leaf {l = l} {n = n} {k = k} f g) t = leaf_label k l n f t
label_first (is_become w d q r s) t = absurd cc
label_first (is_infixed d q r i t o d2 u v z) h = label_first d h
label_first (is_postfixed d q r i t b o z) h = label_first d h
label_first (is_tail {b = b} {x = x} {is = is} d f t k q) h = label_first d (sym (fields_label is b) ∙ ap begins_label (sym q) ∙ h)
label_first (is_indexed {b = b} {x = x} {i = i} {is = is} d f t q) h = label_first d (sym (fields_label (i ∷ is) b) ∙ ap begins_label (sym q) ∙ h)
label_first (is_frame {l = l} {h = h} {k = k} f c g e) t = frame_label k l h f t
label_first _ t = absurd cc

-- the value of a `break` without a label
skip_by : (b : Bool) (x o : Option (List Tok)) (n : List Tok) → (x ≡ Some n → ⊥) → (if b then x else o) ≡ Some n → o ≡ Some n
skip_by true x o n f h = absurd (f h)
skip_by false x o n f h = h

no_and : (b c d : Bool) (n : List Tok) → (if b then (if c then (if d then None else None) else None) else None) ≡ Some n → ⊥
no_and true true true n h = absurd cc
no_and _ _ _ n h = absurd cc

break_label : (b c : Bool) (m n : List Tok) → (if b then (if c then None else Some m) else None) ≡ Some n → (c ≡ false) × (m ≡ n)
break_label true true m n h = absurd cc
break_label true false m n h = (refl, let r : Some m ≡ Some n = h in cc)
break_label false c m n h = absurd cc

pub bare_break : (l n : List Tok) → prefix_form.behind (e.jump (e.breaking None)) l ≡ Some n → lifetime_at n ≡ false
unfolding prefix_form jump_head
bare_break l n h =
    let k = skip_two (let_word.at l) (let_word.at l) _ n (skip (range_at l) _ n (skip_by (and.at l) _ _ n (no_and (and.at l) (raw_at (drop 1 l)) (raw_word.at (drop 1 l)) n)
    (skip_two (minus.at l) (minus.at l) _ n (skip_two (bang.at l) (bang.at l) _ n (skip_two (star.at l) (star.at l) _ n h))))) in
    let j = (only (jump_at l) _ n k).1 in
    let i = skip_two (yield_word.at l) (yield_word.at l) _ n (skip_two (return_word.at l) (return_word.at l) _ n j) in
    let r = break_label (break_word.at l) (lifetime_at (drop 1 l)) (drop 1 l) n i in
    ap lifetime_at (sym r.1) ∙ r.0

-- Which tests the first tokens of each kind pass.
use Rattle.std.specs.Prelude.{not, ◌||◌, ◌==◌, if◌then◌else◌}
use Rattle.std.proofs.Common.{◌≡◌, ℕ, Bool, true, false, cond, ⊎_elim, List, [], ◌∷◌, drop, codes, Some, None, refl, ap, sym, ◌∙◌, subst}
use Rattle.std.proofs.lemmas.Slice.Eq.{bytes_eq-Decides}
use Rattle.std.specs.Str.{bytes_eq}
use Rattle.std.proofs.lemmas.Bool.{and_parts}
use Rattle.syn_lexer.specs.declared.front.Spacing.{Spacing}
use Rattle.syn_lexer.specs.declared.front.Spacing.TheVariants as spacing
use Rattle.syn_tokens.specs.Tok.{Tok, ident, punct}
use Rattle.syn_tokens.specs.Front.{group_at}
use Rattle.syn_lower_spec.specs.Text.{Text, is_truth}
use Rattle.syn_lower_spec.specs.Form.{Mark, then_by, then_behind, flag, maybe, is_none}
use Rattle.syn_lower_spec.specs.Mark.{sign_at, word_at, lifetime_at, brace_at, star, bang, and, constant}
use Rattle.syn_lower_spec.specs.Part.{type, lifetimes_at, lifetimes, output}
use Rattle.syn_lower_spec.proofs.Ends.{sign_first}
use Rattle.syn_lower_spec.proofs.Weights.{some_is}
use Rattle.syn_lower_spec.proofs.Forms.{behind_some}
use Rattle.syn_expr_spec.specs.declared.kinds.Limits.{Limits}
use Rattle.syn_expr_spec.specs.Tree as tr
use Rattle.syn_expr_spec.specs.Tree.{Prefix, ClosureHead, Jump}
use Rattle.syn_expr_spec.specs.Head as h
use Rattle.syn_expr_spec.specs.Head.{prefix_form, closure_head, closure_inputs, closure_at, bar, move_word, use_word, static_word, use_behind, async_word, minus, let_word, range_at, jump_at, jump_head, range_op, leaf_at}
use Rattle.syn_expr_spec.specs.Read.{prefix_at}
use Rattle.syn_expr_spec.proofs.Chains.{only_some, chosen, one_true}
use Rattle.syn_expr_spec.proofs.HeadForms.{leaf_tests}

-- what a front is asked, for a proof that computes it
asked : Bool
unfolding closure_at leaf_at word_at lifetime_at brace_at group_at leaf_tests sign_at lifetimes_at is_truth prefix_form range_at jump_at
asked = true

-- what the front of a leaf is asked, for a proof that computes it
leaf_asked : Bool
unfolding leaf_at word_at lifetime_at brace_at group_at leaf_tests sign_at is_truth
leaf_asked = true

pub word_is : (w : Text) (l : List Tok) → word_at w l ≡ true → l ≡ ident w ∷ drop 1 l
unfolding word_at
word_is w (ident v ∷ l) h = let (a, b) = and_parts (not _) (bytes_eq v w) h in ap (λ z. ident z ∷ l) ((bytes_eq-Decides v w).0 b)
word_is w _ h = absurd cc

pub no_lifetime : (c : ℕ) (s : Spacing) (m : List Tok) → (c == 39) ≡ false → lifetime_at (punct c s ∷ m) ≡ false
unfolding lifetime_at
no_lifetime c spacing.Alone m h = refl
no_lifetime c spacing.Joint (ident w ∷ m) h = h
no_lifetime c _ _ h = refl

pub sign_no_leaf : (c : ℕ) (s : Spacing) (m : List Tok) → (c == 39) ≡ false → leaf_at (punct c s ∷ m) ≡ false
unfolding leaf_at word_at brace_at group_at leaf_tests
sign_no_leaf c s m g = rw (no_lifetime c s m g) refl

-- ---- which word or sign

no_brace : (c : ℕ) (s : Spacing) (m : List Tok) → brace_at (punct c s ∷ m) ≡ false
unfolding brace_at group_at
no_brace c s m = refl

pub sign_no_brace : (c : ℕ) (l : List Tok) → sign_at (c ∷ []) l ≡ true → brace_at l ≡ false
sign_no_brace c l g = sign_first c [] (λ z. brace_at z ≡ false) at_sign l g
  where
    at_sign : (s : Spacing) (m : List Tok) → brace_at (punct c s ∷ m) ≡ false
    at_sign s m = no_brace c s m

pub word_no_brace : (w : Text) (l : List Tok) → word_at w l ≡ true → brace_at l ≡ false
unfolding brace_at group_at
word_no_brace w l g = subst (λ z. brace_at z ≡ false) (sym (word_is w l g)) refl

pub flag_is : (m : Mark) (b : Bool) (l n : List Tok) → (flag m).behind b l ≡ Some n → (m.at l ≡ b) × (n ≡ (if b then drop m.count l else l))
flag_is m b l n g = by_test b (m.at l) refl g
  where
    by_test : (b a : Bool) → m.at l ≡ a → cond a (cond a (cond b (Some (drop m.count l)) None) None) (cond (not b) (Some l) None) ≡ Some n → (m.at l ≡ b) × (n ≡ (if b then drop m.count l else l))
    by_test true true v i = (v, sym (some_is i))
    by_test true false v i = absurd cc
    by_test false true v i = absurd cc
    by_test false false v i = (v, sym (some_is i))

-- ---- closures

pub record Fronted (l : List Tok) : Type 0 where
  pub prefixes : prefix_at l ≡ true
  pub no_leaf : leaf_at l ≡ false

-- a closure's first tokens
pub record Closed (l : List Tok) : Type 0 where
  pub at : closure_at l ≡ true
  pub no_leaf : leaf_at l ≡ false
  pub closures : (f : ClosureHead) → prefix_form.behind (tr.closure f) l ≡ closure_head.behind f l

pub second_true : (a : Bool) {b : Bool} → b ≡ true → (a || b) ≡ true
second_true true g = refl
second_true false g = g

-- `move`, `use` or the first `|`
data Captures (l : List Tok) : Type 0 where
  by_move : move_word.at l ≡ true → bar.at (drop 1 l) ≡ true → Captures l
  by_use : use_word.at l ≡ true → Captures l
  by_bar : bar.at l ≡ true → Captures l

-- A closure begins so, and no block does.
record Begun (l : List Tok) : Type 0 where
  closed : Closed l
  no_brace : brace_at l ≡ false

begun_move : (l : List Tok) → Begun (ident (codes "move") ∷ l)
unfolding asked
begun_move l = record { closed = record { at = refl; no_leaf = refl; closures = λ f. refl }; no_brace = refl }

begun_use : (l : List Tok) → Begun (ident (codes "use") ∷ l)
unfolding asked
begun_use l = record { closed = record { at = refl; no_leaf = refl; closures = λ f. refl }; no_brace = refl }

begun_static : (l : List Tok) → Begun (ident (codes "static") ∷ l)
unfolding asked
begun_static l = record { closed = record { at = refl; no_leaf = refl; closures = λ f. refl }; no_brace = refl }

begun_bar : (s : Spacing) (l : List Tok) → Begun (punct 124 s ∷ l)
unfolding asked
begun_bar spacing.Alone l = record { closed = record { at = refl; no_leaf = sign_no_leaf 124 spacing.Alone l refl; closures = λ f. refl }; no_brace = refl }
begun_bar spacing.Joint l = record { closed = record { at = refl; no_leaf = sign_no_leaf 124 spacing.Joint l refl; closures = λ f. refl }; no_brace = refl }

-- after `async`
async_move : (l : List Tok) → bar.at l ≡ true → Begun (ident (codes "async") ∷ ident (codes "move") ∷ l)
unfolding asked
async_move l g =
    let n = sign_no_brace 124 l g in
    record { closed = record { at = rw n refl; no_leaf = rw n refl; closures = λ f. refl }; no_brace = refl }

async_use : (l : List Tok) → Begun (ident (codes "async") ∷ ident (codes "use") ∷ l)
unfolding asked
async_use l = record { closed = record { at = refl; no_leaf = refl; closures = λ f. refl }; no_brace = refl }

async_bar : (s : Spacing) (l : List Tok) → Begun (ident (codes "async") ∷ punct 124 s ∷ l)
unfolding asked
async_bar spacing.Alone l = record { closed = record { at = refl; no_leaf = refl; closures = λ f. refl }; no_brace = refl }
async_bar spacing.Joint l = record { closed = record { at = refl; no_leaf = refl; closures = λ f. refl }; no_brace = refl }

begun_captures : (l : List Tok) → Captures l → Begun l
begun_captures l (by_move g k) = subst (λ z. Begun z) (sym (word_is _ l g)) (begun_move (drop 1 l))
begun_captures l (by_use g) = subst (λ z. Begun z) (sym (word_is _ l g)) (begun_use (drop 1 l))
begun_captures l (by_bar g) = sign_first 124 [] (λ z. Begun z) begun_bar l g

async_captures : (l : List Tok) → Captures l → Begun (ident (codes "async") ∷ l)
async_captures l (by_move g k) = subst (λ z. Begun (ident (codes "async") ∷ z)) (sym (word_is _ l g)) (async_move (drop 1 l) k)
async_captures l (by_use g) = subst (λ z. Begun (ident (codes "async") ∷ z)) (sym (word_is _ l g)) (async_use (drop 1 l))
async_captures l (by_bar g) = sign_first 124 [] (λ z. Begun (ident (codes "async") ∷ z)) async_bar l g

closed_const : (l : List Tok) → brace_at l ≡ false → Closed (ident (codes "const") ∷ l)
unfolding asked
closed_const l g = record { at = rw g refl; no_leaf = rw g refl; closures = λ f. refl }

closed_for : (l : List Tok) → lifetimes_at (ident (codes "for") ∷ l) ≡ true → Closed (ident (codes "for") ∷ l)
unfolding closure_at leaf_at word_at lifetime_at brace_at group_at leaf_tests sign_at is_truth prefix_form range_at jump_at
closed_for l g = record { at = rw g refl; no_leaf = refl; closures = λ f. refl }

-- after `async` or not, after `static` or not, after `const` or not
begun_async : (l m : List Tok) (a : Bool) → async_word.at l ≡ a → m ≡ (if a then drop 1 l else l) → Captures m → Begun l
begun_async l m true g d c = subst (λ z. Begun z) (sym (word_is _ l g)) (subst (λ z. Begun (ident (codes "async") ∷ z)) d (async_captures m c))
begun_async l m false g d c = subst (λ z. Begun z) d (begun_captures m c)

begun_from_static : (l m : List Tok) (a : Bool) → static_word.at l ≡ a → m ≡ (if a then drop 1 l else l) → Begun m → Begun l
begun_from_static l m true g d c = subst (λ z. Begun z) (sym (word_is _ l g)) (begun_static (drop 1 l))
begun_from_static l m false g d c = subst (λ z. Begun z) d c

closed_from_const : (l m : List Tok) (a : Bool) → constant.at l ≡ a → m ≡ (if a then drop 1 l else l) → Begun m → Closed l
closed_from_const l m true g d c = subst (λ z. Closed z) (sym (word_is _ l g)) (subst (λ z. Closed (ident (codes "const") ∷ z)) d (closed_const m c.no_brace))
closed_from_const l m false g d c = subst (λ z. Closed z) d c.closed

captures_from : (d u : Bool) (l n : List Tok) → (then_by (flag move_word) use_behind).behind (d, u) l ≡ Some n → bar.at n ≡ true → Captures l
captures_from true u l n g k =
    let (m, i, j) = behind_some ((flag move_word).behind true l) ((use_behind true).behind u) n g in
    let p = flag_is move_word true l m i in
    let (q, r) = only_some (not u) (Some m) n j in
    by_move p.0 (subst (λ z. bar.at z ≡ true) (sym (some_is r) ∙ p.1) k)
captures_from false u l n g k =
    let (m, i, j) = behind_some ((flag move_word).behind false l) ((use_behind false).behind u) n g in
    let p = flag_is move_word false l m i in
    subst (λ z. Captures z) p.1 (by_usage u m n (flag_is use_word u m n j) k)
  where
    by_usage : (u : Bool) (m n : List Tok) → (use_word.at m ≡ u) × (n ≡ (if u then drop 1 m else m)) → bar.at n ≡ true → Captures m
    by_usage true m n p k = by_use p.0
    by_usage false m n p k = by_bar (subst (λ z. bar.at z ≡ true) p.1 k)

bar_inputs : (x : h.Inputs) (l n : List Tok) → closure_inputs.behind x l ≡ Some n → bar.at l ≡ true
unfolding closure_inputs
bar_inputs x l n g = let (a, b) = only_some (bar.at l) _ n g in a

closed_from_flags : (f : ClosureHead) (l n : List Tok) → then_behind ((flag constant).behind f.constness l) (λ m. then_behind ((flag static_word).behind f.movability m)
    (λ m. then_behind ((flag async_word).behind f.asyncness m) (λ m. then_behind ((then_by (flag move_word) use_behind).behind (f.capture, f.usage) m)
    (λ m. then_behind (closure_inputs.behind (f.inputs, f.trailing) m) ((output type true).behind f.output))))) ≡ Some n → Closed l
closed_from_flags f l n g =
    let (a, b, c) = behind_some ((flag constant).behind f.constness l) _ n g in
    let (s, t, o) = behind_some ((flag static_word).behind f.movability a) _ n c in
    let (d, i, j) = behind_some ((flag async_word).behind f.asyncness s) _ n o in
    let (k, u, v) = behind_some ((then_by (flag move_word) use_behind).behind (f.capture, f.usage) d) _ n j in
    let (w, x, y) = behind_some (closure_inputs.behind (f.inputs, f.trailing) k) _ n v in
    let p = flag_is constant f.constness l a b in
    let q = flag_is static_word f.movability a s t in
    let r = flag_is async_word f.asyncness s d i in
    let z = captures_from f.capture f.usage d k u (bar_inputs (f.inputs, f.trailing) k w x) in
    closed_from_const l a f.constness p.0 p.1 (begun_from_static a s f.movability q.0 q.1 (begun_async s d f.asyncness r.0 r.1 z))

first_of_lifetimes : (l : List Tok) → lifetimes_at l ≡ true → word_at (codes "for") l ≡ true
unfolding lifetimes_at
first_of_lifetimes l v = let (a, b) = and_parts (word_at (codes "for") l) _ v in a

pub closure_front : (f : ClosureHead) (l n : List Tok) → closure_head.behind f l ≡ Some n → Closed l
unfolding closure_head
closure_front f l n g =
    let (z, i, j) = behind_some ((maybe lifetimes_at lifetimes).behind f.lifetimes l) _ n g in
    ⊎_elim (λ k.
    let w = word_is (codes "for") l (first_of_lifetimes l k.0) in
    subst (λ y. Closed y) (sym w) (closed_for (drop 1 l) (subst (λ y. lifetimes_at y ≡ true) w k.0)))
    (λ k.
    let (a, b) = only_some (is_none f.lifetimes) (Some l) z k.1 in
    subst (λ y. Closed y) (sym (some_is b)) (closed_from_flags f z n j))
    (chosen (lifetimes_at l) _ _ (Some z) i)

-- ---- what comes before an operand

sign_fronted : (c : ℕ) (l : List Tok) → (c == 39) ≡ false → sign_at (c ∷ []) l ≡ true → prefix_at l ≡ true → Fronted l
sign_fronted c l g v w = record { prefixes = w; no_leaf = sign_first c [] (λ z. leaf_at z ≡ false) (λ s z. sign_no_leaf c s z g) l v }

let_no_leaf : (l : List Tok) → leaf_at (ident (codes "let") ∷ l) ≡ false
unfolding leaf_asked
let_no_leaf l = refl

return_no_leaf : (l : List Tok) → leaf_at (ident (codes "return") ∷ l) ≡ false
unfolding leaf_asked
return_no_leaf l = refl

yield_no_leaf : (l : List Tok) → leaf_at (ident (codes "yield") ∷ l) ≡ false
unfolding leaf_asked
yield_no_leaf l = refl

break_no_leaf : (l : List Tok) → leaf_at (ident (codes "break") ∷ l) ≡ false
unfolding leaf_asked
break_no_leaf l = refl

pub jump_no_leaf : (l : List Tok) → jump_at l ≡ true → leaf_at l ≡ false
unfolding jump_at
jump_no_leaf l g =
    ⊎_elim (λ a. subst (λ z. leaf_at z ≡ false) (sym (word_is _ l a)) (return_no_leaf (drop 1 l)))
    (λ a. ⊎_elim (λ b. subst (λ z. leaf_at z ≡ false) (sym (word_is _ l b)) (yield_no_leaf (drop 1 l))) (λ b. subst (λ z. leaf_at z ≡ false) (sym (word_is _ l b.1)) (break_no_leaf (drop 1 l)))
    (one_true (h.yield_word.at l) _ a.1)) (one_true (h.return_word.at l) _ g)

pub range_no_leaf : (l : List Tok) → range_at l ≡ true → leaf_at l ≡ false
unfolding range_at
range_no_leaf l g = sign_first 46 (46 ∷ []) (λ z. leaf_at z ≡ false) (λ s z. sign_no_leaf 46 s z refl) l g

pub prefix_front : (k : Prefix) (l n : List Tok) → prefix_form.behind k l ≡ Some n → Fronted l
unfolding prefix_form prefix_at
prefix_front k l n g = ⊎_elim (λ i. sign_fronted 42 l refl i.0 (rw i.0 refl)) (λ a.
    ⊎_elim (λ i. sign_fronted 33 l refl i.0 (rw (a.0, i.0) refl)) (λ b.
    ⊎_elim (λ i. sign_fronted 45 l refl i.0 (rw (a.0, b.0, i.0) refl)) (λ c.
    ⊎_elim (λ i. sign_fronted 38 l refl i.0 (rw (a.0, b.0, c.0, i.0) refl)) (λ d.
    ⊎_elim (λ i. record { prefixes = rw (a.0, b.0, c.0, d.0, i.0) refl; no_leaf = range_no_leaf l i.0 }) (λ f.
    ⊎_elim (λ i. record { prefixes = rw (a.0, b.0, c.0, d.0, f.0, i.0) refl; no_leaf = subst (λ z. leaf_at z ≡ false) (sym (word_is _ l i.0)) (let_no_leaf (drop 1 l)) }) (λ j.
    ⊎_elim (λ i. record { prefixes = rw (a.0, b.0, c.0, d.0, f.0, j.0, i.0) refl; no_leaf = jump_no_leaf l i.0 }) (λ u.
    let (x, y, z) = behind_some (h.from_closure k) (λ f. closure_head.behind f l) n u.1 in
    let w = closure_front x l n z in
    record { prefixes = rw (a.0, b.0, c.0, d.0, f.0, j.0, u.0, w.at) refl; no_leaf = w.no_leaf })
    (chosen (jump_at l) _ _ (Some n) j.1)) (chosen (let_word.at l) _ _ (Some n) f.1)) (chosen (range_at l) _ _ (Some n) d.1)) (chosen (and.at l) _ _ (Some n) c.1))
    (chosen (minus.at l) _ _ (Some n) b.1)) (chosen (bang.at l) _ _ (Some n) a.1)) (chosen (star.at l) _ _ (Some n) g)

-- ---- where a jump or a range stands, no other prefix does

pub record NoOther (l : List Tok) : Type 0 where
  pub no_star : star.at l ≡ false
  pub no_bang : bang.at l ≡ false
  pub no_minus : minus.at l ≡ false
  pub no_and : and.at l ≡ false

range_other : (s : Spacing) (l : List Tok) → NoOther (punct 46 s ∷ l)
unfolding sign_at
range_other spacing.Alone l = record { no_star = refl; no_bang = refl; no_minus = refl; no_and = refl }
range_other spacing.Joint l = record { no_star = refl; no_bang = refl; no_minus = refl; no_and = refl }

pub first_true : {a : Bool} (b : Bool) → a ≡ true → (a || b) ≡ true
first_true b v = rw v refl

pub range_is_prefix : (l : List Tok) → range_at l ≡ true → prefix_at l ≡ true
unfolding prefix_at
range_is_prefix l g = second_true (star.at l) (second_true (bang.at l) (second_true (minus.at l) (second_true (and.at l) (first_true _ g))))

pub jump_is_prefix : (l : List Tok) → jump_at l ≡ true → prefix_at l ≡ true
unfolding prefix_at
jump_is_prefix l g = second_true (star.at l) (second_true (bang.at l) (second_true (minus.at l) (second_true (and.at l) (second_true (range_at l) (second_true (let_word.at l) (first_true _ g))))))

pub range_prefix : (op : Limits) (l : List Tok) → range_at l ≡ true → prefix_form.behind (tr.range_to op) l ≡ range_op.behind op l
unfolding prefix_form range_at
range_prefix op l g =
    let a = sign_first 46 (46 ∷ []) (λ z. NoOther z) range_other l g in
    rw (a.no_star, a.no_bang, a.no_minus, a.no_and, g) refl

jump_word_prefix : (w : Text) (j : Jump) (l : List Tok) → jump_at (ident w ∷ l) ≡ true → let_word.at (ident w ∷ l) ≡ false → prefix_form.behind (tr.jump j) (ident w ∷ l) ≡ jump_head.behind j (ident w ∷ l)
unfolding prefix_form range_at sign_at
jump_word_prefix w j l g i = rw (i, g) refl

pub jump_prefix : (j : Jump) (l : List Tok) → jump_at l ≡ true → prefix_form.behind (tr.jump j) l ≡ jump_head.behind j l
unfolding jump_at word_at
jump_prefix j l g =
    ⊎_elim (λ a. subst (λ z. prefix_form.behind (tr.jump j) z ≡ jump_head.behind j z) (sym (word_is _ l a)) (jump_word_prefix (codes "return") j (drop 1 l) refl refl))
    (λ a. ⊎_elim (λ b. subst (λ z. prefix_form.behind (tr.jump j) z ≡ jump_head.behind j z) (sym (word_is _ l b)) (jump_word_prefix (codes "yield") j (drop 1 l) refl refl))
    (λ b. subst (λ z. prefix_form.behind (tr.jump j) z ≡ jump_head.behind j z) (sym (word_is _ l b.1)) (jump_word_prefix (codes "break") j (drop 1 l) refl refl))
    (one_true (h.yield_word.at l) _ a.1)) (one_true (h.return_word.at l) _ g)

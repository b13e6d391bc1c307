-- The path of an expression, its front in an invisible group or not, is read exactly where its tokens are.
use Rattle.std.specs.Prelude.{not, ◌&&◌, ◌||◌, ◌==◌, nat_le, take, drop}
use Rattle.std.proofs.Common.{◌≡◌, ℕ, zero, suc, ◌≤◌, Bool, true, false, cond, List, [], ◌∷◌, length, Option, Some, None, refl, ap, sym, ◌∙◌, subst}
use Rattle.std.proofs.lemmas.List.{take-append-drop}
use Rattle.std.proofs.Math.Seq.{take-append_seam, drop-append_seam}
use Rattle.syn_lexer.specs.declared.front.Delimiter.TheVariants as del
use Rattle.syn_tokens.specs.Tok.{Tok, Inside, group, weight}
use Rattle.syn_tokens.specs.Front.{group_at}
use Rattle.syn_lower_spec.specs.declared.label.PathStyle.TheVariants as style
use Rattle.syn_lower_spec.specs.Tree as t
use Rattle.syn_lower_spec.specs.Tree.{TypeTree, PathTree, SegmentTree}
use Rattle.syn_lower_spec.specs.Form.{Form, Outcome, and_then, then_behind, never, when, inside, inside_reads, whole, more, fix, iterate}
use Rattle.syn_lower_spec.specs.Mark.{sign_at, brace_at, less, colon2, not_ne}
use Rattle.syn_lower_spec.specs.Part.{QPathTree, Qualified, qualified_by, is_bare, segment, segment_name, path, pieces, qualified, qpath, type}
use Rattle.syn_lower_spec.proofs.Weights.{some_is}
use Rattle.syn_lower_spec.proofs.Marks.{colon2_present}
use Rattle.syn_lower_spec.proofs.Forms.{Alike, Steps, bind_some, seen_some, weaker, never_alike, when_alike, then_by_alike, inside_alike, more_alike, fix_alike, fix_is}
use Rattle.syn_lower_spec.proofs.Parts.{inside_at_alike, qpath_alike, types_alike, whole_segment_alike}
use Rattle.syn_lower_spec.proofs.Tails.{Leaves, never_leaves, when_leaves, then_by_leaves, shown_leaves, inside_leaves, more_leaves, fix_leaves}
use Rattle.syn_lower_spec.proofs.TailParts.{qpath_leaves, segment_leaves, type_leaves}
use Rattle.syn_lower_spec.proofs.Takes.{Takes, when_takes, first_takes, shown_takes, inside_takes, qpath_takes}
use Rattle.syn_expr_spec.specs.Path.{is_try_alone, invisible_at, goes_on_path, group_parts, to_path, from_path, segment_count, count_inside, group_path, path_step, expr_path}

pub qpath_whole : {k : ℕ} → Alike k (qpath type style.Expr) (qpath type style.Expr)
qpath_whole {k} = weaker (qpath_alike {k = k} types_alike style.Expr)

pub qpath_whole_leaves : Leaves (qpath type style.Expr)
qpath_whole_leaves = qpath_leaves type_leaves style.Expr

-- ---- the parts: what is in the group, and the segments after it

behind_alike : {k : ℕ} (braces : Bool) (q : QPathTree) → Alike k (when (goes_on_path braces q) (more colon2 (segment type style.Expr)) never) (when (goes_on_path braces q) (more colon2 (segment type style.Expr)) never)
behind_alike {k} braces q = when_alike (goes_on_path braces q) (more_alike colon2_present (whole_segment_alike style.Expr)) (never_alike k)

parts_alike : {k : ℕ} (f f' : Form QPathTree) (braces : Bool) → Alike k (inside del.None f) (inside del.None f') → Alike k (group_parts f braces) (group_parts f' braces)
parts_alike f f' braces a = then_by_alike a (behind_alike braces)

parts_leaves : (f : Form QPathTree) (braces : Bool) → Leaves (group_parts f braces)
parts_leaves f braces =
    then_by_leaves (inside_leaves del.None f)
    (λ q. when_leaves (goes_on_path braces q) (more_leaves colon2 (segment_leaves type_leaves style.Expr)) never_leaves)

parts_take : (f : Form QPathTree) (braces : Bool) → Takes (group_parts f braces)
parts_take f braces = first_takes {k = 0} (inside_takes del.None f) (behind_alike braces)

-- What is read in parts: a path in the group, which goes on.
pub record Parted (f : Form QPathTree) (braces : Bool) (l : List Tok) (x : QPathTree × List SegmentTree) (n : List Tok) : Type 0 where
  pub middle : List Tok
  pub held : (inside del.None f).reads l ≡ Some (x.0, middle)
  pub goes_on : goes_on_path braces x.0 middle ≡ true
  pub others : (more colon2 (segment type style.Expr)).reads middle ≡ Some (x.1, n)

chosen_true : {A : Type 0} (b : Bool) (o : Option A) (y : A) → cond b o None ≡ Some y → (b ≡ true) × (o ≡ Some y)
chosen_true true o y h = (refl, h)
chosen_true false o y h = absurd cc

pub parted : (f : Form QPathTree) (braces : Bool) (l : List Tok) (x : QPathTree × List SegmentTree) (n : List Tok) → (group_parts f braces).reads l ≡ Some (x, n) → Parted f braces l x n
parted f braces l x n g =
    let (q, i, j) = bind_some ((inside del.None f).reads l) (λ y m. and_then ((when (goes_on_path braces y) (more colon2 (segment type style.Expr)) never).reads m) (λ z o. Some ((y, z), o))) (x, n) g in
    let (r, d, e) = bind_some ((when (goes_on_path braces q.0) (more colon2 (segment type style.Expr)) never).reads q.1) (λ z o. Some ((q.0, z), o)) (x, n) j in
    let (u, v) = chosen_true (goes_on_path braces q.0 q.1) ((more colon2 (segment type style.Expr)).reads q.1) r d in
    let is : ((q.0, r.0), r.1) ≡ (x, n) = some_is e in
    let first : q.0 ≡ x.0 = ap (λ (z : (QPathTree × List SegmentTree) × List Tok). z.0.0) is in
    record {
      middle = q.1;
      held = i ∙ ap (λ z. Some (z, q.1)) first;
      goes_on = subst (λ z. goes_on_path braces z q.1 ≡ true) first u;
      others = v ∙ ap (λ (z : (QPathTree × List SegmentTree) × List Tok). Some (z.0.1, z.1)) is;
    }

parts_are : (f : Form QPathTree) (braces : Bool) (l : List Tok) (x : QPathTree × List SegmentTree) (n : List Tok) → Parted f braces l x n → (group_parts f braces).reads l ≡ Some (x, n)
parts_are f braces l x n p = rw (p.held, p.goes_on, p.others) refl

-- ---- a path taken apart

taken_apart : (x : QPathTree × List SegmentTree) → from_path (length x.0.1.segments) (to_path x) ≡ Some x
taken_apart ((q, p), ss) = rw (take-append_seam p.segments ss, drop-append_seam p.segments ss) refl

put_together : (n : ℕ) (y : QPathTree) (x : QPathTree × List SegmentTree) → from_path n y ≡ Some x → to_path x ≡ y
put_together n (q, p) x g = ap to_path (sym (some_is g)) ∙ rw (take-append-drop n p.segments) refl

counted : (f : Form QPathTree) (braces : Bool) (l : List Tok) (x : QPathTree × List SegmentTree) (n : List Tok) → (group_parts f braces).reads l ≡ Some (x, n) → count_inside f l ≡ length x.0.1.segments
counted f braces l x n g = let p = parted f braces l x n g in ap segment_count p.held

stands_together : {k : ℕ} (f f' : Form QPathTree) (braces : Bool) → Alike k (group_parts f braces) (group_parts f' braces) → (l : List Tok) (x : QPathTree × List SegmentTree) (n : List Tok)
    → (group_parts f braces).reads l ≡ Some (x, n) → then_behind (from_path (count_inside f l) (to_path x)) (λ y. (group_parts f braces).behind y l) ≡ Some n
stands_together f f' braces a l x n e =
    let there : from_path (count_inside f l) (to_path x) ≡ Some x = subst (λ k. from_path k (to_path x) ≡ Some x) (sym (counted f braces l x n e)) (taken_apart x) in
    subst (λ o. then_behind o (λ y. (group_parts f braces).behind y l) ≡ Some n) (sym there) (a.sound l x n e)

group_path_alike : {k : ℕ} (f f' : Form QPathTree) (braces : Bool) → Alike k (group_parts f braces) (group_parts f' braces) → Alike k (group_path f braces) (group_path f' braces)
group_path_alike f f' braces a = record {
  sound = λ l y n h.
      let (x, e, j) = bind_some ((group_parts f braces).reads l) (λ x n. Some (to_path x, n)) (y, n) h in
      subst (λ (z : QPathTree × List Tok). then_behind (from_path (count_inside f l) z.0) (λ x. (group_parts f braces).behind x l) ≡ Some z.1) (some_is j) (stands_together f f' braces a l x.0 x.1 e);
  complete = λ l y n h.
      let (x, e, j) = seen_some (from_path (count_inside f l) y) (λ x. (group_parts f braces).behind x l) n h in
      rw (a.complete l x n j, put_together (count_inside f l) y x e) refl;
  falls = λ l y n h.
      let (x, e, j) = bind_some ((group_parts f braces).reads l) (λ x n. Some (to_path x, n)) (y, n) h in
      let i : x.1 ≡ n = ap (λ z. z.1) (some_is j) in
      subst (λ z. weight z ≤ weight l) i (a.falls l x.0 x.1 e);
  same = λ l h. ap (λ o. and_then o (λ x n. Some (to_path x, n))) (a.same l h);
}

-- ---- with a group in front or without

steps : (k : ℕ) → Steps {A = λ b. QPathTree} k path_step path_step
steps k = record {
  lowest = λ t a b. when_alike invisible_at (group_path_alike (t false) (t false) b (parts_alike (t false) (t false) b (inside_at_alike del.None (a false)))) qpath_whole;
  next = λ j h t t' a b. when_alike invisible_at (group_path_alike (t false) (t' false) b (parts_alike (t false) (t' false) b (inside_alike del.None (a false)))) qpath_whole;
}

pub expr_path_alike : {k : ℕ} (braces : Bool) → Alike k (expr_path braces) (expr_path braces)
unfolding expr_path
expr_path_alike {k} braces = fix_alike (steps k) braces

pub expr_path_leaves : (braces : Bool) → Leaves (expr_path braces)
unfolding expr_path
expr_path_leaves braces = fix_leaves {A = λ b. QPathTree} {step = path_step} (λ t a b. when_leaves invisible_at (group_leaves (t false) b) qpath_whole_leaves) braces
  where
    group_leaves : (f : Form QPathTree) (b : Bool) → Leaves (group_path f b)
    group_leaves f b = record { leaves = λ l x n h. let a = shown_leaves to_path (from_path (count_inside f l)) (parts_leaves f b) in a.leaves l x n h }

-- such a path, opened once
pub opened : (braces : Bool) (l : List Tok) → (expr_path braces).reads l ≡ (path_step expr_path braces).reads l
unfolding expr_path
opened braces l = fix_is steps braces l

pub expr_path_takes : (braces : Bool) → Takes (expr_path braces)
expr_path_takes braces = record { takes = λ l x n h. let a = when_takes invisible_at group_takes (qpath_takes style.Expr) in a.takes l x n (sym (opened braces l) ∙ h) }
  where
    group_takes : Takes (group_path (expr_path false) braces)
    group_takes = record { takes = λ l x n h. let a = shown_takes to_path (from_path (count_inside (expr_path false) l)) (parts_take (expr_path false) braces) in a.takes l x n h }

pub invisible_is : (l : List Tok) → invisible_at l ≡ true → (i : Inside) × (n : List Tok) × (l ≡ group del.None i ∷ n)
unfolding invisible_at group_at
invisible_is (group del.None i ∷ l) g = (i, l, refl)
invisible_is _ g = absurd cc

group_no_path : (i : Inside) (l : List Tok) → (qpath type style.Expr).reads (group del.None i ∷ l) ≡ None
unfolding qpath path pieces segment segment_name sign_at
group_no_path i l = refl

-- a path that no group begins
pub visible : (q : QPathTree) (l n : List Tok) → (qpath type style.Expr).behind q l ≡ Some n → invisible_at l ≡ false
visible q l n g = by_test (invisible_at l) refl
  where
    by_test : (b : Bool) → invisible_at l ≡ b → b ≡ false
    by_test false v = refl
    by_test true v =
        let (i, m, e) = invisible_is l v in
        let a : Alike 0 (qpath type style.Expr) (qpath type style.Expr) = qpath_whole in
        let r = subst (λ z. (qpath type style.Expr).reads z ≡ Some (q, n)) e (a.complete l q n g) in
        absurd (cc (r, group_no_path i m))

pub plain_read : (braces : Bool) (l : List Tok) → invisible_at l ≡ false → (expr_path braces).reads l ≡ (qpath type style.Expr).reads l
plain_read braces l v = opened braces l ∙ rw v refl

pub plain_path : (braces : Bool) (q : QPathTree) (l n : List Tok) → invisible_at l ≡ false → (expr_path braces).behind q l ≡ Some n → (qpath type style.Expr).behind q l ≡ Some n
plain_path braces q l n v g =
    let a : Alike 0 (qpath type style.Expr) (qpath type style.Expr) = qpath_whole in
    let b : Alike 0 (expr_path braces) (expr_path braces) = expr_path_alike braces in
    a.sound l q n (sym (plain_read braces l v) ∙ b.complete l q n g)

pub path_stands : (braces : Bool) (q : QPathTree) (l n : List Tok) → (qpath type style.Expr).behind q l ≡ Some n → (expr_path braces).behind q l ≡ Some n
path_stands braces q l n g =
    let a : Alike 0 (qpath type style.Expr) (qpath type style.Expr) = qpath_whole in
    let b : Alike 0 (expr_path braces) (expr_path braces) = expr_path_alike braces in
    b.sound l q n (plain_read braces l (visible q l n g) ∙ a.complete l q n g)

-- ---- with the brace of a struct expression or without

no_segments : (l : List Tok) → colon2.at l ≡ false → (more colon2 (segment type style.Expr)).reads l ≡ Some ([], l)
unfolding more fix iterate
no_segments l g = rw g refl

brace_no_colons : (l : List Tok) → brace_at l ≡ true → colon2.at l ≡ false
unfolding brace_at group_at sign_at
brace_no_colons (group del.Brace i ∷ l) g = refl
brace_no_colons _ g = absurd cc

goes_more : (a b c d : Bool) → (a && (b || (c || (false && d)))) ≡ true → (a && (b || (c || (true && d)))) ≡ true
goes_more true true c d g = refl
goes_more true false true d g = refl
goes_more true false false d g = absurd cc
goes_more false b c d g = absurd cc

goes_less : (a b c d : Bool) → (a && (b || (c || (true && d)))) ≡ true → d ≡ false → (a && (b || (c || (false && d)))) ≡ true
goes_less true true c d g h = refl
goes_less true false true d g h = refl
goes_less true false false true g h = absurd cc
goes_less true false false false g h = absurd cc
goes_less false b c d g h = absurd cc

no_brace_left : (m o : List Tok) (ss : List SegmentTree) → (more colon2 (segment type style.Expr)).reads m ≡ Some (ss, o) → brace_at o ≡ false → (b : Bool) → brace_at m ≡ b → b ≡ false
no_brace_left m o ss i f false v = refl
no_brace_left m o ss i f true v =
    let k : ([], m) ≡ (ss, o) = some_is (sym (no_segments m (brace_no_colons m v)) ∙ i) in
    absurd (cc (v, f, ap (λ (z : List SegmentTree × List Tok). brace_at z.1) k))

abbrev Group : Bool → List Tok → Outcome QPathTree
Group braces l = (group_path (expr_path false) braces).reads l

group_more : (l : List Tok) (q : QPathTree) (n : List Tok) → Group false l ≡ Some (q, n) → Group true l ≡ Some (q, n)
group_more l q n g =
    let (x, e, j) = bind_some ((group_parts (expr_path false) false).reads l) (λ x n. Some (to_path x, n)) (q, n) g in
    let p = parted (expr_path false) false l x.0 x.1 e in
    let all : Parted (expr_path false) true l x.0 x.1 = record {
      middle = p.middle;
      held = p.held;
      goes_on = goes_more (not (is_try_alone x.0.0.0 x.0.0.1)) (colon2.at p.middle) (is_bare x.0.0 && not_ne.at p.middle) (brace_at p.middle) p.goes_on;
      others = p.others;
    } in
    rw (parts_are (expr_path false) true l x.0 x.1 all) j

group_less : (l : List Tok) (q : QPathTree) (n : List Tok) → Group true l ≡ Some (q, n) → brace_at n ≡ false → Group false l ≡ Some (q, n)
group_less l q n g h =
    let (x, e, j) = bind_some ((group_parts (expr_path false) true).reads l) (λ x n. Some (to_path x, n)) (q, n) g in
    let p = parted (expr_path false) true l x.0 x.1 e in
    let i : brace_at x.1 ≡ false = subst (λ z. brace_at z ≡ false) (sym (ap (λ (z : QPathTree × List Tok). z.1) (some_is j))) h in
    let f = no_brace_left p.middle x.1 x.0.1 p.others i (brace_at p.middle) refl in
    let all : Parted (expr_path false) false l x.0 x.1 = record {
      middle = p.middle;
      held = p.held;
      goes_on = goes_less (not (is_try_alone x.0.0.0 x.0.0.1)) (colon2.at p.middle) (is_bare x.0.0 && not_ne.at p.middle) (brace_at p.middle) p.goes_on f;
      others = p.others;
    } in
    rw (parts_are (expr_path false) false l x.0 x.1 all) j

with_brace : (l : List Tok) (q : QPathTree) (n : List Tok) → (expr_path false).reads l ≡ Some (q, n) → (expr_path true).reads l ≡ Some (q, n)
with_brace l q n g = opened true l ∙ by_test (invisible_at l) (sym (opened false l) ∙ g)
  where
    by_test : (b : Bool) → cond b (Group false l) ((qpath type style.Expr).reads l) ≡ Some (q, n) → cond b (Group true l) ((qpath type style.Expr).reads l) ≡ Some (q, n)
    by_test false g = g
    by_test true g = group_more l q n g

without_brace : (l : List Tok) (q : QPathTree) (n : List Tok) → (expr_path true).reads l ≡ Some (q, n) → brace_at n ≡ false → (expr_path false).reads l ≡ Some (q, n)
without_brace l q n g h = opened false l ∙ by_test (invisible_at l) (sym (opened true l) ∙ g)
  where
    by_test : (b : Bool) → cond b (Group true l) ((qpath type style.Expr).reads l) ≡ Some (q, n) → cond b (Group false l) ((qpath type style.Expr).reads l) ≡ Some (q, n)
    by_test false g = g
    by_test true g = group_less l q n g h

-- ---- an operand by itself in such a group

held_is : (f : Form QPathTree) (l i n m : List Tok) (q : QPathTree) → group_at del.None l ≡ Some (i, n) → (inside del.None f).reads l ≡ Some (q, m) → (whole (f.reads i) n ≡ Some (q, m))
held_is f l i n m q g h = subst (λ o. inside_reads f o ≡ Some (q, m)) g h

whole_is : (o : Outcome QPathTree) (n : List Tok) (q : QPathTree) (m : List Tok) → whole o n ≡ Some (q, m) → (o ≡ Some (q, [])) × (n ≡ m)
whole_is None n q m h = absurd cc
whole_is (Some (r, [])) n q m h = let e : (r, n) ≡ (q, m) = some_is h in (ap (λ (z : QPathTree × List Tok). Some (z.0, [])) e, ap (λ (z : QPathTree × List Tok). z.1) e)
whole_is (Some (r, t ∷ o)) n q m h = absurd cc

pub group_seen : (l i n : List Tok) → group_at del.None l ≡ Some (i, n) → invisible_at l ≡ true
unfolding invisible_at
group_seen l i n g = rw g refl

-- No path begins with a group whose inside is none, or after which nothing goes on it.
pub no_front : (braces : Bool) (l i n : List Tok) → group_at del.None l ≡ Some (i, n) → ((q : QPathTree) → (expr_path false).behind q i ≡ Some [] → goes_on_path braces q n ≡ true → ⊥) → (expr_path braces).reads l ≡ None
no_front braces l i n g f = opened braces l ∙ rw (group_seen l i n g) (by_read ((group_parts (expr_path false) braces).reads l) refl)
  where
    by_read : (o : Outcome (QPathTree × List SegmentTree)) → (group_parts (expr_path false) braces).reads l ≡ o → ◌≡◌ {A = Outcome QPathTree} (and_then (((group_parts (expr_path false) braces).reads l)) (λ x n. Some (to_path x, n))) None
    by_read None e = ap (λ o. and_then o (λ x n. Some (to_path x, n))) e
    by_read (Some x) e =
        let p = parted (expr_path false) braces l x.0 x.1 e in
        let (u, v) = whole_is ((expr_path false).reads i) n x.0.0 p.middle (held_is (expr_path false) l i n p.middle x.0.0 g p.held) in
        let a : Alike 0 (expr_path false) (expr_path false) = expr_path_alike false in
        absurd (f x.0.0 (a.sound i x.0.0 [] u) (subst (λ z. goes_on_path braces x.0.0 z ≡ true) (sym v) p.goes_on))

-- What goes on the path that a group holds is its own segments, and those after the group.
joined_parts : (q : QPathTree) (o : Outcome (List SegmentTree)) → and_then {B = QPathTree} (and_then {B = QPathTree × List SegmentTree} o (λ ss m. Some ((q, ss), m))) (λ x m. Some (to_path x, m))
    ≡ and_then o (λ ss m. Some (to_path (q, ss), m))
joined_parts q None = refl
joined_parts q (Some r) = refl

pub extended_front : (braces : Bool) (l i n : List Tok) (q : QPathTree) → group_at del.None l ≡ Some (i, n) → (expr_path false).reads i ≡ Some (q, []) → goes_on_path braces q n ≡ true
    → (expr_path braces).reads l ≡ and_then ((more colon2 (segment type style.Expr)).reads n) (λ ss m. Some (to_path (q, ss), m))
extended_front braces l i n q g h u = opened braces l ∙ rw (group_seen l i n g, g, h, u) (joined_parts q ((more colon2 (segment type style.Expr)).reads n))

-- ---- no `::` ends such a path

unclosed : {A : Type 0} (b : Bool) (x : A) (f : A → Option (List Tok)) (n : List Tok) → then_behind (cond b None (Some x)) f ≡ Some n → b ≡ false
unclosed true x f n h = absurd cc
unclosed false x f n h = refl

qualified_closed : (x : TypeTree) (k : ℕ) (a : Bool) (p : PathTree) (f : Qualified × List SegmentTree → Option (List Tok)) (n : List Tok) → then_behind (qualified_by x k a p) f ≡ Some n → p.trailing ≡ false
qualified_closed x k true p f n h = by_tests (nat_le k (length p.segments)) p.trailing h
  where
    by_tests : (a b : Bool) → then_behind (cond (a && not b) (Some ((x, Some (p.leading, take k p.segments)), drop k p.segments)) None) f ≡ Some n → b ≡ false
    by_tests true false h = refl
    by_tests true true h = absurd cc
    by_tests false b h = absurd cc
qualified_closed x k false p f n h = by_tests (k == 0) p.leading p.trailing h
  where
    by_tests : (a b c : Bool) → then_behind (cond (a && (b && not c)) (Some ((x, None), p.segments)) None) f ≡ Some n → c ≡ false
    by_tests true true false h = refl
    by_tests _ _ _ h = absurd cc

none_or : (a b : Bool) (o : Option (List Tok)) (n : List Tok) → cond a (cond b None None) o ≡ Some n → o ≡ Some n
none_or true true o n h = absurd cc
none_or true false o n h = absurd cc
none_or false b o n h = h

or_none : (a b : Bool) (o : Option (List Tok)) (n : List Tok) → cond a (cond b o None) None ≡ Some n → o ≡ Some n
or_none true true o n h = h
or_none true false o n h = absurd cc
or_none false b o n h = absurd cc

qpath_closed : (q : QPathTree) (l n : List Tok) → (qpath type style.Expr).behind q l ≡ Some n → q.1.trailing ≡ false
unfolding qpath path qualified
qpath_closed (t.no_qself, p) l n h = unclosed p.trailing (p.leading, p.segments) _ n (none_or (less.at l) (less.at l) _ n h)
qpath_closed (t.qself x k a, p) l n h = qualified_closed x k a p _ n (or_none (less.at l) (less.at l) _ n h)

held_closed : (f : Form QPathTree) → ((l : List Tok) (q : QPathTree) (n : List Tok) → f.reads l ≡ Some (q, n) → q.1.trailing ≡ false)
    → (o : Option (List Tok × List Tok)) (x : QPathTree) (m : List Tok) → inside_reads f o ≡ Some (x, m) → x.1.trailing ≡ false
held_closed f c None x m h = absurd cc
held_closed f c (Some g) x m h = let (u, v) = whole_is (f.reads g.0) g.1 x m h in c g.0 x [] u

step_closed : (f : Form QPathTree) → ((l : List Tok) (q : QPathTree) (n : List Tok) → f.reads l ≡ Some (q, n) → q.1.trailing ≡ false)
    → (braces c : Bool) (l : List Tok) (q : QPathTree) (n : List Tok) → cond c ((group_path f braces).reads l) ((qpath type style.Expr).reads l) ≡ Some (q, n) → q.1.trailing ≡ false
step_closed f c braces true l q n h =
    let (x, e, j) = bind_some ((group_parts f braces).reads l) (λ x n. Some (to_path x, n)) (q, n) h in
    let p = parted f braces l x.0 x.1 e in
    ap (λ (z : QPathTree × List Tok). z.0.1.trailing) (sym (some_is j)) ∙ held_closed f c (group_at del.None l) x.0.0 p.middle p.held
step_closed f c braces false l q n h =
    let a : Alike 0 (qpath type style.Expr) (qpath type style.Expr) = qpath_whole in
    qpath_closed q l n (a.sound l q n h)

iterate_closed : (k : ℕ) (b : Bool) (l : List Tok) (q : QPathTree) (n : List Tok) → (iterate {A = λ b. QPathTree} path_step k b).reads l ≡ Some (q, n) → q.1.trailing ≡ false
unfolding iterate
iterate_closed zero b l q n h = absurd cc
iterate_closed (suc k) b l q n h = step_closed (iterate {A = λ b. QPathTree} path_step k false) (λ m r o i. iterate_closed k false m r o i) b (invisible_at l) l q n h

pub path_closed : (braces : Bool) (q : QPathTree) (l n : List Tok) → (expr_path braces).reads l ≡ Some (q, n) → q.1.trailing ≡ false
unfolding expr_path fix
path_closed braces q l n h = iterate_closed (suc (weight l)) braces l q n h

-- ---- in a condition and elsewhere

pub in_place : (condition : Bool) (l : List Tok) (q : QPathTree) (n : List Tok) → (expr_path false).reads l ≡ Some (q, n) → (expr_path (not condition)).reads l ≡ Some (q, n)
in_place true l q n g = g
in_place false l q n g = with_brace l q n g

pub unbraced : (condition : Bool) (l : List Tok) (q : QPathTree) (n : List Tok) → (expr_path (not condition)).reads l ≡ Some (q, n) → (brace_at n && not condition) ≡ false → (expr_path false).reads l ≡ Some (q, n)
unbraced true l q n g h = g
unbraced false l q n g h = without_brace l q n g (no_brace (brace_at n) h)
  where
    no_brace : (b : Bool) → (b && true) ≡ false → b ≡ false
    no_brace true h = absurd cc
    no_brace false h = refl

pub braced : (condition : Bool) (l : List Tok) (q : QPathTree) (n : List Tok) → (expr_path (not condition)).reads l ≡ Some (q, n) → (brace_at n && not condition) ≡ true → (expr_path true).reads l ≡ Some (q, n)
braced true l q n g h = absurd (no_true (brace_at n) h)
  where
    no_true : (b : Bool) → (b && false) ≡ true → ⊥
    no_true true h = absurd cc
    no_true false h = absurd cc
braced false l q n g h = g

-- An item ends with its last token: what comes after that is not looked at.
use Rattle.std.specs.Prelude.{not, ◌||◌, ◌&&◌, ◌==◌, if◌then◌else◌, is_some}
use Rattle.std.proofs.Common.{◌≡◌, ℕ, zero, suc, ◌≤◌, ◌<◌, Bool, true, false, cond, List, [], ◌∷◌, ◌++◌, drop, codes, Option, Some, None, refl, ap, sym, ◌∙◌, subst, arith, append_assoc}
use Rattle.std.proofs.lemmas.Bool.{and_parts}
use Rattle.std.proofs.lemmas.Bool.Decides.{nat_tests}
use Rattle.std.proofs.lemmas.List.{append_cancel_right, append-nil}
use Rattle.std.specs.Str.{bytes_eq}
use Rattle.syn_lexer.specs.Keywords.{is_reserved_word}
use Rattle.syn_lexer.specs.declared.front.Delimiter.{Delimiter}
use Rattle.syn_lexer.specs.declared.front.Delimiter.TheVariants as del
use Rattle.syn_lexer.specs.declared.front.Spacing.TheVariants as spacing
use Rattle.syn_tokens.specs.Tok.{Tok, ident, punct, literal, group, weight}
use Rattle.syn_tokens.specs.Front.{group_at}
use Rattle.syn_tokens.specs.Input.{IsTail}
use Rattle.syn_lower_spec.specs.declared.label.PathStyle.{PathStyle}
use Rattle.syn_lower_spec.specs.declared.label.PathStyle.TheVariants as style
use Rattle.syn_lower_spec.specs.Text.{Text, kind_of, is_segment, stands_alone}
use Rattle.syn_lower_spec.specs.Tree as tree
use Rattle.syn_lower_spec.specs.Tree.{PathTree, SegmentTree}
use Rattle.syn_lower_spec.specs.Form.{Form, Outcome, Test, Mark, and_then, mark, both, shown, flag, more, prepend, split_first}
use Rattle.syn_lower_spec.specs.Mark.{word_at, sign_at, brace_at, round_at, semi, not_ne, colon2, underscore, mutable}
use Rattle.syn_lower_spec.specs.Part.{is_name_there, string_at, is_string_kind, find_group, any_group, segment_name, no_arguments, arguments, segment, pieces, path, type, to_path, from_path}
use Rattle.syn_lower_spec.proofs.Forms.{Alike, Present, bind_some, more_is}
use Rattle.syn_lower_spec.proofs.Weights.{some_is}
use Rattle.syn_lower_spec.proofs.Marks.{colon2_present, not_ne_present}
use Rattle.syn_lower_spec.proofs.Parts.{whole_segment_alike, whole_path_alike}
use Rattle.syn_lower_spec.proofs.Tails.{tail_then, one_taken}
use Rattle.syn_lower_spec.proofs.TailParts.{path_leaves, type_leaves}
use Rattle.syn_expr_spec.proofs.HeadMoves.{dropped}
use Rattle.syn_stmt_spec.specs.declared.kinds.ItemKind.{ItemKind}
use Rattle.syn_stmt_spec.specs.declared.kinds.ItemKind.TheVariants as kind
use Rattle.syn_stmt_spec.specs.Item as i
use Rattle.syn_stmt_spec.specs.Laws.{ItemsStand}
use Rattle.syn_stmt_spec.specs.Item.{past, past_string, past_abi, past_group, past_visibility, find_macro_name, macro_name, macro_head, macro_begins, Rows, rows, first_row, item_kind, Before, body_end, semi_end, macro_end, item_end, ended, find_item}
use Rattle.syn_expr_spec.specs.Rule.{is_brace_delimiter}

-- ---- lists with a token that ends items

abbrev pub is_last : Tok → Bool
is_last (punct c s) = c == 59
is_last (group g x) = is_brace_delimiter g
is_last _ = false

abbrev pub has_last : List Tok → Bool
has_last [] = false
has_last (t ∷ l) = is_last t || has_last l

-- In such a list a test sees no further than that token,
abbrev pub Steady : Test → Type 0
Steady at = (l r : List Tok) → has_last l ≡ true → at (l ++ r) ≡ at l

-- and what is passed over comes before it.
abbrev pub Moves : (List Tok → List Tok) → Type 0
Moves f = (l r : List Tok) → has_last l ≡ true → (f (l ++ r) ≡ f l ++ r) × (has_last (f l) ≡ true)

-- ---- words

pub word_steady : (w : Text) → Steady (word_at w)
unfolding word_at
word_steady w [] r h = absurd cc
word_steady w (ident v ∷ l) r h = refl
word_steady w _ r h = refl

word_then : (w : Text) (at : Test) → Steady at → Steady (λ l. word_at w l && at (drop 1 l))
unfolding word_at
word_then w at s [] r h = absurd cc
word_then w at s (ident v ∷ l) r h = ap (λ b. word_at w (ident v ∷ l) && b) (s l r h)
word_then w at s _ r h = refl

word_past : (w : Text) (f : List Tok → List Tok) → Moves f → Moves (λ l. if word_at w l then f (drop 1 l) else l)
unfolding word_at
word_past w f m [] r h = absurd cc
word_past w f m (ident v ∷ l) r h = go (word_at w (ident v ∷ l))
  where
    go : (b : Bool) → (cond b (f (l ++ r)) (ident v ∷ (l ++ r)) ≡ cond b (f l) (ident v ∷ l) ++ r) × (has_last (cond b (f l) (ident v ∷ l)) ≡ true)
    go true = m l r h
    go false = (refl, h)
word_past w f m (punct c s ∷ l) r h = (refl, h)
word_past w f m (literal v ∷ l) r h = (refl, h)
word_past w f m (group g x ∷ l) r h = (refl, h)

past_moves : (w : Text) → Moves (past w)
past_moves w = word_past w (λ l. l) (λ l r h. (refl, h))

behind_steady : (f : List Tok → List Tok) {at : Test} → Moves f → Steady at → Steady (λ l. at (f l))
behind_steady f {at} m s l r h = let (e, k) = m l r h in ap at e ∙ s (f l) r k

or_steady : {a b : Test} → Steady a → Steady b → Steady (λ l. a l || b l)
or_steady a b l r h = rw (a l r h, b l r h) refl

not_steady : {a : Test} → Steady a → Steady (λ l. not (a l))
not_steady a l r h = rw (a l r h) refl

-- ---- other tokens

name_steady : Steady is_name_there
name_steady [] r h = absurd cc
name_steady (ident v ∷ l) r h = refl
name_steady _ r h = refl

brace_steady : Steady brace_at
unfolding brace_at group_at
brace_steady [] r h = absurd cc
brace_steady (group del.Brace x ∷ l) r h = refl
brace_steady _ r h = refl

bar_steady : Steady (sign_at (codes "|"))
unfolding sign_at
bar_steady [] r h = absurd cc
bar_steady (punct c spacing.Joint ∷ l) r h = refl
bar_steady _ r h = refl

string_moves : Moves past_string
unfolding string_at
string_moves [] r h = absurd cc
string_moves (literal v ∷ l) r h = go (is_string_kind (kind_of v))
  where
    go : (b : Bool) → (cond b (l ++ r) (literal v ∷ (l ++ r)) ≡ cond b l (literal v ∷ l) ++ r) × (has_last (cond b l (literal v ∷ l)) ≡ true)
    go true = (refl, h)
    go false = (refl, h)
string_moves (ident v ∷ l) r h = (refl, h)
string_moves (punct c s ∷ l) r h = (refl, h)
string_moves (group g x ∷ l) r h = (refl, h)

group_moves : Moves past_group
unfolding round_at group_at
group_moves [] r h = absurd cc
group_moves (group del.Parenthesis x ∷ l) r h = (refl, h)
group_moves _ r h = (refl, h)

abi_moves : Moves past_abi
abi_moves = word_past (codes "extern") past_string string_moves

visibility_moves : Moves past_visibility
visibility_moves = word_past (codes "pub") past_group group_moves

-- ---- the rows

abbrev AllSteady : Rows → Type 0
AllSteady [] = Unit {0}
AllSteady (p ∷ q) = Steady p.0 × AllSteady q

behind_word : (w : Text) {at : Test} → Steady at → Steady (λ l. at (past w l))
behind_word w s = behind_steady (past w) (past_moves w) s

fn_steady : Steady i.fn_begins
fn_steady = behind_word (codes "const") (behind_word (codes "async") (behind_word (codes "unsafe") (behind_steady past_abi abi_moves (word_steady (codes "fn")))))

foreign_steady : Steady i.foreign_mod_begins
foreign_steady = behind_word (codes "unsafe") (word_then (codes "extern") (λ l. brace_at (past_string l)) (behind_steady past_string string_moves brace_steady))

trait_steady : Steady i.trait_begins
trait_steady = behind_word (codes "unsafe") (behind_word (codes "auto") (word_steady (codes "trait")))

impl_steady : Steady i.impl_begins
impl_steady = behind_word (codes "default") (behind_word (codes "unsafe") (word_steady (codes "impl")))

all_steady : AllSteady rows
all_steady = (
  fn_steady,
  (
    word_then (codes "use") (λ l. not (sign_at (codes "|") l)) (not_steady bar_steady),
    (
      word_then (codes "static") (λ l. mutable.at l || is_name_there l) (or_steady (word_steady (codes "mut")) name_steady),
      (
        word_then (codes "const") (λ l. underscore.at l || is_name_there l) (or_steady (word_steady (codes "_")) name_steady),
        (
          word_steady (codes "type"),
          (
            word_then (codes "extern") (word_at (codes "crate")) (word_steady (codes "crate")),
            (
              foreign_steady,
              (
                behind_word (codes "unsafe") (word_steady (codes "mod")),
                (
                  trait_steady,
                  (
                    impl_steady,
                    (
                      word_steady (codes "struct"),
                      (
                        word_steady (codes "enum"),
                        (
                          word_then (codes "union") is_name_there name_steady,
                          (
                            word_steady (codes "macro"),
                            tt,
                          ),
                        ),
                      ),
                    ),
                  ),
                ),
              ),
            ),
          ),
        ),
      ),
    ),
  ),
)

rows_steady : (q : Rows) → AllSteady q → (o : Option ItemKind) (l r : List Tok) → has_last l ≡ true → first_row q o (l ++ r) ≡ first_row q o l
rows_steady [] s o l r h = refl
rows_steady (p ∷ q) s o l r h = rw (s.0 l r h, rows_steady q s.1 o l r h) refl

-- ---- forms before that token

abbrev longer : {A : Type 0} → List Tok → Outcome A → Outcome A
longer r None = None
longer r (Some p) = Some (p.0, p.1 ++ r)

-- of lists that weigh less than k: the form reads the same before more tokens, and what is left has such a token
record Same {A : Type 0} (k : ℕ) (f : Form A) : Type 0 where
  pub same : (l r : List Tok) → weight l < k → has_last l ≡ true → f.reads (l ++ r) ≡ longer r (f.reads l)

record Keeps {A : Type 0} (k : ℕ) (f : Form A) : Type 0 where
  pub keeps : (l : List Tok) (x : A) (n : List Tok) → weight l < k → has_last l ≡ true → f.reads l ≡ Some (x, n) → has_last n ≡ true

record Falls {A : Type 0} (f : Form A) : Type 0 where
  pub falls : (l : List Tok) (x : A) (n : List Tok) → f.reads l ≡ Some (x, n) → weight n ≤ weight l

falling : {A : Type 0} {k : ℕ} {f g : Form A} → Alike k f g → Falls f
falling a = record { falls = a.falls }

both_same : {A B : Type 0} {k : ℕ} {f : Form A} {g : Form B} → Falls f → Same k f → Keeps k f → Same k g → Same k (both f g)
both_same {A} {B} {k} {f} {g} w a u c = record { same = λ l r b h. ap (λ o. and_then o (λ x m. and_then (g.reads m) (λ y n. Some ((x, y), n)))) (a.same l r b h) ∙ go l r b h (f.reads l) refl }
  where
    step : (r : List Tok) (x : A) (o : Outcome B) → ◌≡◌ {A = Outcome (A × B)} (and_then (longer r o) (λ y n. Some ((x, y), n))) (longer r (and_then o (λ y n. Some ((x, y), n))))
    step r x None = refl
    step r x (Some p) = refl

    go : (l r : List Tok) → weight l < k → has_last l ≡ true → (o : Outcome A) → f.reads l ≡ o
        → ◌≡◌ {A = Outcome (A × B)} (and_then (longer r o) (λ x m. and_then (g.reads m) (λ y n. Some ((x, y), n)))) (longer r (and_then o (λ x m. and_then (g.reads m) (λ y n. Some ((x, y), n)))))
    go l r b h None e = refl
    go l r b h (Some p) e =
        let d = w.falls l p.0 p.1 e in
        ap (λ o. and_then o (λ y n. Some ((p.0, y), n))) (c.same p.1 r (omega (arith, d, b)) (u.keeps l p.0 p.1 b h e)) ∙ step r p.0 (g.reads p.1)

both_keeps : {A B : Type 0} {k : ℕ} {f : Form A} {g : Form B} → Falls f → Keeps k f → Keeps k g → Keeps k (both f g)
both_keeps {A} {B} {k} {f} {g} w u v = record {
  keeps = λ l p n b h e.
      let (q, d, j) = bind_some (f.reads l) (λ x m. and_then (g.reads m) (λ y n. Some ((x, y), n))) (p, n) e in
      let (z, c, t) = bind_some (g.reads q.1) (λ y n. Some ((q.0, y), n)) (p, n) j in
      let s = w.falls l q.0 q.1 d in
      subst (λ m. has_last m ≡ true) (ap (λ (y : (A × B) × List Tok). y.1) (some_is t)) (v.keeps q.1 z.0 z.1 (omega (arith, s, b)) (u.keeps l q.0 q.1 b h d) c);
}

shown_same : {A B : Type 0} {k : ℕ} {f : Form A} (to : A → B) (from : B → Option A) → Same k f → Same k (shown to from f)
shown_same {A} {B} {k} {f} to from a = record { same = λ l r b h. ap (λ o. and_then o (λ x n. Some (to x, n))) (a.same l r b h) ∙ step r (f.reads l) }
  where
    step : (r : List Tok) (o : Outcome A) → ◌≡◌ {A = Outcome B} (and_then (longer r o) (λ x n. Some (to x, n))) (longer r (and_then o (λ x n. Some (to x, n))))
    step r None = refl
    step r (Some p) = refl

shown_keeps : {A B : Type 0} {k : ℕ} {f : Form A} (to : A → B) (from : B → Option A) → Keeps k f → Keeps k (shown to from f)
shown_keeps {A} {B} {k} {f} to from u = record {
  keeps = λ l y n b h e.
      let (q, d, j) = bind_some (f.reads l) (λ x n. Some (to x, n)) (y, n) e in
      subst (λ m. has_last m ≡ true) (ap (λ (z : B × List Tok). z.1) (some_is j)) (u.keeps l q.0 q.1 b h d);
}

-- a mark that begins with no such token
record Crosses (m : Mark) : Type 0 where
  pub steady : Steady m.at
  pub past : (l r : List Tok) → has_last l ≡ true → m.at l ≡ true → (drop m.count (l ++ r) ≡ drop m.count l ++ r) × (has_last (drop m.count l) ≡ true)

mark_same : {A : Type 0} {k : ℕ} {m : Mark} {f : Form A} → Crosses m → Present m → Same k f → Same k (mark m f)
mark_same {A} {k} {m} {f} c p a = record {
  same = λ l r b h. ap (λ t. cond t (f.reads (drop m.count (l ++ r))) None) (c.steady l r h) ∙ go l r b h (m.at l) refl;
}
  where
    go : (l r : List Tok) → weight l < k → has_last l ≡ true → (t : Bool) → m.at l ≡ t
        → cond t (f.reads (drop m.count (l ++ r))) None ≡ longer r (cond t (f.reads (drop m.count l)) None)
    go l r b h true e = let (q, u) = c.past l r h e in ap f.reads q ∙ a.same (drop m.count l) r (omega (arith, p.present l e, b)) u
    go l r b h false e = refl

abbrev flagged : Bool → List Tok → List Tok → Outcome Bool
flagged t behind l = cond t (cond t (Some (true, behind)) None) (Some (false, l))

flag_same : {k : ℕ} {m : Mark} → Crosses m → Same k (flag m)
flag_same {k} {m} c = record { same = λ l r b h. ap (λ t. flagged t (drop m.count (l ++ r)) (l ++ r)) (c.steady l r h) ∙ go l r h (m.at l) refl }
  where
    go : (l r : List Tok) → has_last l ≡ true → (t : Bool) → m.at l ≡ t → flagged t (drop m.count (l ++ r)) (l ++ r) ≡ longer r (flagged t (drop m.count l) l)
    go l r h true e = let (q, u) = c.past l r h e in ap (λ z. Some (true, z)) q
    go l r h false e = refl

flag_keeps : {k : ℕ} {m : Mark} → Crosses m → Keeps k (flag m)
flag_keeps {k} {m} c = record { keeps = λ l x n b h e. go l x n h (m.at l) refl e }
  where
    go : (l : List Tok) (x : Bool) (n : List Tok) → has_last l ≡ true → (t : Bool) → m.at l ≡ t → flagged t (drop m.count l) l ≡ Some (x, n) → has_last n ≡ true
    go l x n h true d j = let (q, u) = c.past l [] h d in subst (λ z. has_last z ≡ true) (ap (λ (z : Bool × List Tok). z.1) (some_is j)) u
    go l x n h false d j = subst (λ z. has_last z ≡ true) (ap (λ (z : Bool × List Tok). z.1) (some_is j)) h

flag_falls : {m : Mark} → Present m → Falls (flag m)
flag_falls {m} p = record { falls = λ l x n. go (m.at l) l x n refl }
  where
    go : (t : Bool) (l : List Tok) (x : Bool) (n : List Tok) → m.at l ≡ t → flagged t (drop m.count l) l ≡ Some (x, n) → weight n ≤ weight l
    go true l x n d j = let q = p.present l d in subst (λ z. weight z ≤ weight l) (ap (λ (z : Bool × List Tok). z.1) (some_is j)) (omega (arith, q))
    go false l x n d j = subst (λ z. weight z ≤ weight l) (ap (λ (z : Bool × List Tok). z.1) (some_is j)) (omega arith)

-- ---- signs of one or two puncts

left_true : (b : Bool) → b || false ≡ true → b ≡ true
left_true true h = refl
left_true false h = absurd cc

skip_sign : (c k : ℕ) (b : Bool) → (k == 59) ≡ false → (c == k) ≡ true → (c == 59) || b ≡ true → b ≡ true
skip_sign c k b f e h =
    let q : c ≡ k = grind (arith, nat_tests, e) in
    sym (ap (λ t. t || b) f) ∙ subst (λ z. (z == 59) || b ≡ true) q h

one_steady : (a : ℕ) → Steady (sign_at (a ∷ []))
unfolding sign_at
one_steady a [] r h = absurd cc
one_steady a (punct c spacing.Joint ∷ l) r h = refl
one_steady a _ r h = refl

one_past : (a : ℕ) → (a == 59) ≡ false → (l r : List Tok) → has_last l ≡ true → sign_at (a ∷ []) l ≡ true → (drop 1 (l ++ r) ≡ drop 1 l ++ r) × (has_last (drop 1 l) ≡ true)
unfolding sign_at
one_past a f (punct c spacing.Alone ∷ l) r h e = (refl, skip_sign c a (has_last l) f (and_parts (c == a) true e).0 h)
one_past a f (punct c spacing.Joint ∷ l) r h e = (refl, skip_sign c a (has_last l) f (and_parts (c == a) true e).0 h)
one_past a f _ r h e = absurd cc

two_steady : (a b : ℕ) → (59 == a) ≡ false → Steady (sign_at (a ∷ b ∷ []))
unfolding sign_at
two_steady a b f [] r h = absurd cc
two_steady a b f (punct c spacing.Joint ∷ []) r h =
    let q : c ≡ 59 = grind (arith, nat_tests, left_true (c == 59) h) in
    let e : (c == a) ≡ false = subst (λ z. (z == a) ≡ false) (sym q) f in
    rw e refl
two_steady a b f (punct c spacing.Joint ∷ punct d spacing.Joint ∷ l) r h = refl
two_steady a b f _ r h = refl

two_past : (a b : ℕ) → (a == 59) ≡ false → (b == 59) ≡ false → (l r : List Tok) → has_last l ≡ true → sign_at (a ∷ b ∷ []) l ≡ true
    → (drop 2 (l ++ r) ≡ drop 2 l ++ r) × (has_last (drop 2 l) ≡ true)
unfolding sign_at
two_past a b f g (punct c spacing.Joint ∷ punct d spacing.Alone ∷ l) r h e =
    let (p, q) = and_parts (c == a) _ e in
    (refl, skip_sign d b (has_last l) g (and_parts (d == b) true q).0 (skip_sign c a _ f p h))
two_past a b f g (punct c spacing.Joint ∷ punct d spacing.Joint ∷ l) r h e =
    let (p, q) = and_parts (c == a) _ e in
    (refl, skip_sign d b (has_last l) g (and_parts (d == b) true q).0 (skip_sign c a _ f p h))
two_past a b f g (punct c spacing.Alone ∷ l) r h e = absurd (let q = (and_parts (c == a) false e).1 in cc)
two_past a b f g (punct c spacing.Joint ∷ []) r h e = absurd (let q = (and_parts (c == a) false e).1 in cc)
two_past a b f g (punct c spacing.Joint ∷ ident w ∷ l) r h e = absurd (let q = (and_parts (c == a) false e).1 in cc)
two_past a b f g (punct c spacing.Joint ∷ literal w ∷ l) r h e = absurd (let q = (and_parts (c == a) false e).1 in cc)
two_past a b f g (punct c spacing.Joint ∷ group d x ∷ l) r h e = absurd (let q = (and_parts (c == a) false e).1 in cc)
two_past a b f g _ r h e = absurd cc

colon2_crosses : Crosses colon2
colon2_crosses = record { steady = two_steady 58 58 refl; past = two_past 58 58 refl refl }

not_ne_crosses : Crosses not_ne
not_ne_crosses = record {
  steady = λ l r h. rw (one_steady 33 l r h, two_steady 33 61 refl l r h) refl;
  past = λ l r h e. one_past 33 refl l r h (and_parts (sign_at (codes "!") l) _ e).0;
}

-- ---- paths without arguments

pub segment_is : (w : Text) (l : List Tok) → (segment type style.Mod).reads (ident w ∷ l) ≡ cond (is_segment w) (Some (record { ident = w; arguments = tree.no_arguments }, l)) None
unfolding segment segment_name no_arguments arguments
segment_is w l = go (is_segment w) refl (stands_alone w) refl
  where
    go : (b : Bool) → is_segment w ≡ b → (c : Bool) → stands_alone w ≡ c → (segment type style.Mod).reads (ident w ∷ l) ≡ cond b (Some (record { ident = w; arguments = tree.no_arguments }, l)) None
    go true e true d = rw (e, d) refl
    go true e false d = rw (e, d) refl
    go false e c d = rw e refl

segment_same : {k : ℕ} → Same k (segment type style.Mod)
unfolding segment segment_name
segment_same = record { same = λ l r b h. same l r h }
  where
    go : (w : Text) (l r : List Tok) (b : Bool) → ◌≡◌ {A = Outcome SegmentTree} (cond b (Some (record { ident = w; arguments = tree.no_arguments }, l ++ r)) None) (longer r (cond b (Some (record { ident = w; arguments = tree.no_arguments }, l)) None))
    go w l r true = refl
    go w l r false = refl

    same : (l r : List Tok) → has_last l ≡ true → (segment type style.Mod).reads (l ++ r) ≡ longer r ((segment type style.Mod).reads l)
    same [] r h = absurd cc
    same (ident w ∷ l) r h = segment_is w (l ++ r) ∙ go w l r (is_segment w) ∙ ap (longer r) (sym (segment_is w l))
    same _ r h = refl

segment_keeps : {k : ℕ} → Keeps k (segment type style.Mod)
unfolding segment segment_name
segment_keeps = record { keeps = λ l x n b h e. keeps l x n h e }
  where
    go : (w : Text) (l : List Tok) (x : SegmentTree) (n : List Tok) → has_last l ≡ true → (b : Bool) → ◌≡◌ {A = Outcome SegmentTree} (cond b (Some (record { ident = w; arguments = tree.no_arguments }, l)) None) (Some (x, n)) → has_last n ≡ true
    go w l x n h true d = subst (λ z. has_last z ≡ true) (ap (λ (z : SegmentTree × List Tok). z.1) (some_is d)) h
    go w l x n h false d = absurd cc

    keeps : (l : List Tok) (x : SegmentTree) (n : List Tok) → has_last l ≡ true → (segment type style.Mod).reads l ≡ Some (x, n) → has_last n ≡ true
    keeps (ident w ∷ l) x n h e = go w l x n h (is_segment w) (sym (segment_is w l) ∙ e)
    keeps _ x n h e = absurd cc

segment_falls : Falls (segment type style.Mod)
segment_falls = falling (whole_segment_alike {k = 0} style.Mod)

abbrev pub others_of : PathStyle → Form (List SegmentTree)
others_of s = more colon2 (segment type s)

abbrev pub several_of : PathStyle → Form (List SegmentTree)
several_of s = shown prepend split_first (both (segment type s) (others_of s))

abbrev pub others : Form (List SegmentTree)
others = others_of style.Mod

abbrev several : Form (List SegmentTree)
several = several_of style.Mod

pub opened : (s : PathStyle) (l : List Tok) (b : Bool) → colon2.at l ≡ b → (others_of s).reads l ≡ cond b ((several_of s).reads (drop 2 l)) (Some ([], l))
opened s l b e =
    more_is colon2 (segment type s) colon2_present (λ k. whole_segment_alike s) l
    ∙ ap (λ t. cond t (cond t ((several_of s).reads (drop 2 l)) None) (Some ([], l))) e ∙ go b
  where
    go : (t : Bool) → ◌≡◌ {A = Outcome (List SegmentTree)} (cond t (cond t ((several_of s).reads (drop 2 l)) None) (Some ([], l))) (cond t ((several_of s).reads (drop 2 l)) (Some ([], l)))
    go true = refl
    go false = refl

several_same : {k : ℕ} → Same k others → Same k several
several_same a = shown_same prepend split_first (both_same segment_falls segment_same segment_keeps a)

several_keeps : {k : ℕ} → Keeps k others → Keeps k several
several_keeps u = shown_keeps prepend split_first (both_keeps segment_falls segment_keeps u)

others_same : (k : ℕ) → Same k others
others_same zero = record { same = λ l r b h. absurd (omega (arith, b)) }
others_same (suc k) = record { same = λ l r b h. go (others_same k) l r b h (colon2.at l) refl }
  where
    go : Same k others → (l r : List Tok) → weight l < suc k → has_last l ≡ true → (t : Bool) → colon2.at l ≡ t → others.reads (l ++ r) ≡ longer r (others.reads l)
    go a l r b h false e = opened style.Mod (l ++ r) false (colon2_crosses.steady l r h ∙ e) ∙ ap (longer r) (sym (opened style.Mod l false e))
    go a l r b h true e =
        let (q, u) = colon2_crosses.past l r h e in
        let s = several_same a in
        opened style.Mod (l ++ r) true (colon2_crosses.steady l r h ∙ e) ∙ ap several.reads q
        ∙ s.same (drop 2 l) r (omega (arith, colon2_present.present l e, b)) u ∙ ap (longer r) (sym (opened style.Mod l true e))

others_keeps : (k : ℕ) → Keeps k others
others_keeps zero = record { keeps = λ l x n b h j. absurd (omega (arith, b)) }
others_keeps (suc k) = record { keeps = λ l x n b h j. go (others_keeps k) l x n b h j (colon2.at l) refl }
  where
    go : Keeps k others → (l : List Tok) (x : List SegmentTree) (n : List Tok) → weight l < suc k → has_last l ≡ true → others.reads l ≡ Some (x, n)
        → (t : Bool) → colon2.at l ≡ t → has_last n ≡ true
    go a l x n b h j false e = subst (λ z. has_last z ≡ true) (ap (λ (z : List SegmentTree × List Tok). z.1) (some_is (sym (opened style.Mod l false e) ∙ j))) h
    go a l x n b h j true e =
        let (q, u) = colon2_crosses.past l [] h e in
        let s = several_keeps a in
        s.keeps (drop 2 l) x n (omega (arith, colon2_present.present l e, b)) u (sym (opened style.Mod l true e) ∙ j)

path_same : (k : ℕ) → Same k (path type style.Mod)
unfolding path pieces
path_same k = shown_same to_path from_path (both_same (flag_falls colon2_present) (flag_same colon2_crosses) (flag_keeps colon2_crosses) (several_same (others_same k)))

path_keeps : (k : ℕ) → Keeps k (path type style.Mod)
unfolding path pieces
path_keeps k = shown_keeps to_path from_path (both_keeps (flag_falls colon2_present) (flag_keeps colon2_crosses) (several_keeps (others_keeps k)))

-- ---- the call of a macro with a name

name_same : {k : ℕ} → Same k macro_name
name_same = record { same = λ l r b h. same l r h }
  where
    go : (w : Text) (l r : List Tok) (t : Bool) → ◌≡◌ {A = Outcome Text} (cond t (Some (w, l ++ r)) None) (longer r (cond t (Some (w, l)) None))
    go w l r true = refl
    go w l r false = refl

    same : (l r : List Tok) → has_last l ≡ true → find_macro_name (l ++ r) ≡ longer r (find_macro_name l)
    same [] r h = absurd cc
    same (ident w ∷ l) r h = go w l r (not (is_reserved_word w) || bytes_eq w (codes "try"))
    same _ r h = refl

name_keeps : {k : ℕ} → Keeps k macro_name
name_keeps = record { keeps = λ l x n b h e. keeps l x n h e }
  where
    go : (w : Text) (l : List Tok) (x : Text) (n : List Tok) → has_last l ≡ true → (t : Bool) → ◌≡◌ {A = Outcome Text} (cond t (Some (w, l)) None) (Some (x, n)) → has_last n ≡ true
    go w l x n h true d = subst (λ z. has_last z ≡ true) (ap (λ (z : Text × List Tok). z.1) (some_is d)) h
    go w l x n h false d = absurd cc

    keeps : (l : List Tok) (x : Text) (n : List Tok) → has_last l ≡ true → find_macro_name l ≡ Some (x, n) → has_last n ≡ true
    keeps (ident w ∷ l) x n h e = go w l x n h (not (is_reserved_word w) || bytes_eq w (codes "try")) e
    keeps _ x n h e = absurd cc

name_falls : Falls macro_name
unfolding weight
name_falls = record { falls = falls }
  where
    falls : (l : List Tok) (x : Text) (n : List Tok) → find_macro_name l ≡ Some (x, n) → weight n ≤ weight l
    falls (ident w ∷ l) x n e = go (not (is_reserved_word w) || bytes_eq w (codes "try")) e
      where
        go : (t : Bool) → ◌≡◌ {A = Outcome Text} (cond t (Some (w, l)) None) (Some (x, n)) → weight n ≤ weight (ident w ∷ l)
        go true d = subst (λ z. weight z ≤ weight (ident w ∷ l)) (ap (λ (z : Text × List Tok). z.1) (some_is d)) (omega arith)
        go false d = absurd cc
    falls _ x n e = absurd cc

group_same : {k : ℕ} → Same k any_group
unfolding any_group
group_same = record { same = λ l r b h. same l r h }
  where
    same : (l r : List Tok) → has_last l ≡ true → find_group (l ++ r) ≡ longer r (find_group l)
    same [] r h = absurd cc
    same (group del.None x ∷ l) r h = refl
    same _ r h = refl

head_same : (l r : List Tok) → has_last l ≡ true → macro_head.reads (l ++ r) ≡ longer r (macro_head.reads l)
head_same l r h =
    let a = both_same (falling (whole_path_alike {k = 0} style.Mod)) (path_same (suc (weight l))) (path_keeps (suc (weight l)))
    (mark_same not_ne_crosses not_ne_present (both_same name_falls name_same name_keeps group_same)) in
    a.same l r (omega arith) h

some_longer : {A : Type 0} (r : List Tok) (o : Outcome A) → is_some (longer r o) ≡ is_some o
some_longer r None = refl
some_longer r (Some p) = refl

macro_steady : Steady macro_begins
unfolding macro_begins
macro_steady l r h = ap is_some (head_same l r h) ∙ some_longer r (macro_head.reads l)

-- ---- the kind

kind_steady : (l r : List Tok) → has_last l ≡ true → item_kind (l ++ r) ≡ item_kind l
unfolding item_kind
kind_steady l r h =
    let (e, k) = visibility_moves l r h in
    three (word_steady (codes "pub") l r h) (ap (first_row rows None) e ∙ rows_steady rows all_steady None (past_visibility l) r k)
    (ap (λ t. first_row rows (cond t (Some kind.Macro) None) (l ++ r)) (macro_steady l r h) ∙ rows_steady rows all_steady (cond (macro_begins l) (Some kind.Macro) None) l r h)
  where
    three : {b c : Bool} {x y u v : Option ItemKind} → b ≡ c → x ≡ y → u ≡ v → cond b x u ≡ cond c y v
    three p q s = cc

-- ---- the end

-- the tokens before the rest m have that token among them
pub record Ended (l m : List Tok) : Type 0 where
  pub front : List Tok
  pub is : l ≡ front ++ m
  pub last : has_last front ≡ true

next_ended : (t : Tok) {l m : List Tok} → Ended l m → Ended (t ∷ l) m
next_ended t e = record { front = t ∷ e.front; is = ap (λ z. t ∷ z) e.is; last = last_then (is_last t) e.last }
  where
    last_then : (b : Bool) {c : Bool} → c ≡ true → b || c ≡ true
    last_then true h = refl
    last_then false h = h

here_ended : (t : Tok) (l m : List Tok) → is_last t ≡ true → Some l ≡ Some m → Ended (t ∷ l) m
here_ended t l m h e = record { front = t ∷ []; is = ap (λ z. t ∷ z) (some_is e); last = rw h refl }

body_brace : (b : Before) (d : ℕ) (g : Delimiter) → i.is_body b d g ≡ true → is_brace_delimiter g ≡ true
body_brace b d g h = (and_parts (is_brace_delimiter g) _ h).0

body_ended : (s : Bool) (b : Before) (d : ℕ) (l m : List Tok) → body_end s b d l ≡ Some m → Ended l m
body_ended s b d [] m h = absurd cc
body_ended s b d (ident w ∷ l) m h = next_ended (ident w) (body_ended s (cond (is_reserved_word w) i.other i.name) d l m h)
body_ended s b d (literal w ∷ l) m h = next_ended (literal w) (body_ended s i.other d l m h)
body_ended s b d (group g x ∷ l) m h = go (i.is_body b d g) refl (λ k. body_ended s i.other d l m k) h
  where
    go : (t : Bool) → i.is_body b d g ≡ t → (body_end s i.other d l ≡ Some m → Ended l m) → cond t (Some l) (body_end s i.other d l) ≡ Some m → Ended (group g x ∷ l) m
    go true e again k = here_ended (group g x) l m (body_brace b d g e) k
    go false e again k = next_ended (group g x) (again k)
body_ended s b d (punct c z ∷ l) m h = go (c == 59) s refl (λ k. body_ended s (i.behind_punct b c z) (i.depth_behind b c d) l m k) h
  where
    go : (t u : Bool) → (c == 59) ≡ t → (body_end s (i.behind_punct b c z) (i.depth_behind b c d) l ≡ Some m → Ended l m)
        → cond t (cond u (Some l) None) (body_end s (i.behind_punct b c z) (i.depth_behind b c d) l) ≡ Some m → Ended (punct c z ∷ l) m
    go true true e again k = here_ended (punct c z) l m e k
    go true false e again k = absurd cc
    go false u e again k = next_ended (punct c z) (again k)

semi_last : (t : Tok) (l : List Tok) → semi.at (t ∷ l) ≡ true → is_last t ≡ true
unfolding sign_at
semi_last (punct c spacing.Alone) l h = (and_parts (c == 59) true h).0
semi_last (punct c spacing.Joint) l h = (and_parts (c == 59) true h).0
semi_last _ l h = absurd cc

semi_ended : (l m : List Tok) → semi_end l ≡ Some m → Ended l m
semi_ended [] m h = absurd cc
semi_ended (t ∷ l) m h = go (semi.at (t ∷ l)) refl (λ k. semi_ended l m k) h
  where
    go : (b : Bool) → semi.at (t ∷ l) ≡ b → (semi_end l ≡ Some m → Ended l m) → cond b (Some l) (semi_end l) ≡ Some m → Ended (t ∷ l) m
    go true e again k = here_ended t l m (semi_last t l e) k
    go false e again k = next_ended t (again k)

name_found : (l : List Tok) (w : Text) (n : List Tok) → find_macro_name l ≡ Some (w, n) → IsTail n l
name_found (ident v ∷ l) w n h = go (not (is_reserved_word v) || bytes_eq v (codes "try")) h
  where
    go : (t : Bool) → ◌≡◌ {A = Outcome Text} (cond t (Some (v, l)) None) (Some (w, n)) → IsTail n (ident v ∷ l)
    go true d = subst (λ z. IsTail z (ident v ∷ l)) (ap (λ (z : Text × List Tok). z.1) (some_is d)) (one_taken (ident v) l)
    go false d = absurd cc
name_found _ w n h = absurd cc

group_found : (l : List Tok) (g : Delimiter × List Tok) (n : List Tok) → find_group l ≡ Some (g, n) → (t : Tok) × (l ≡ t ∷ n) × (is_brace_delimiter g.0 ≡ is_last t)
group_found (group del.None x ∷ l) g n h = absurd cc
group_found (group del.Parenthesis x ∷ l) g n h =
    (group del.Parenthesis x, ap (λ (z : (Delimiter × List Tok) × List Tok). group del.Parenthesis x ∷ z.1) (some_is h), ap (λ (z : (Delimiter × List Tok) × List Tok). is_brace_delimiter z.0.0) (sym (some_is h)))
group_found (group del.Brace x ∷ l) g n h =
    (group del.Brace x, ap (λ (z : (Delimiter × List Tok) × List Tok). group del.Brace x ∷ z.1) (some_is h), ap (λ (z : (Delimiter × List Tok) × List Tok). is_brace_delimiter z.0.0) (sym (some_is h)))
group_found (group del.Bracket x ∷ l) g n h =
    (group del.Bracket x, ap (λ (z : (Delimiter × List Tok) × List Tok). group del.Bracket x ∷ z.1) (some_is h), ap (λ (z : (Delimiter × List Tok) × List Tok). is_brace_delimiter z.0.0) (sym (some_is h)))
group_found _ g n h = absurd cc

-- the group of a macro, and what is after it
record Called (l : List Tok) (d : Delimiter) (n : List Tok) : Type 0 where
  pub token : Tok
  pub tail : IsTail (token ∷ n) l
  pub last : is_brace_delimiter d ≡ is_last token

abbrev pub MacroHead : Type 0
MacroHead = PathTree × (Text × (Delimiter × List Tok))

abbrev NameGroup : Type 0
NameGroup = Text × (Delimiter × List Tok)

pub marked_some : {A : Type 0} (m : Mark) (f : Form A) (l : List Tok) (y : A × List Tok) → (mark m f).reads l ≡ Some y → (m.at l ≡ true) × (f.reads (drop m.count l) ≡ Some y)
marked_some m f l y h = go (m.at l) refl h
  where
    go : (b : Bool) → m.at l ≡ b → cond b (f.reads (drop m.count l)) None ≡ Some y → (m.at l ≡ true) × (f.reads (drop m.count l) ≡ Some y)
    go true e k = (e, k)
    go false e k = absurd cc

macro_group : (l : List Tok) (x : MacroHead) (n : List Tok) → macro_head.reads l ≡ Some (x, n) → Called l x.1.1.0 n
unfolding any_group
macro_group l x n h =
    let (p, e, j) = bind_some ((path type style.Mod).reads l) (λ y m. and_then ((mark not_ne (both macro_name any_group)).reads m) (λ z o. Some ((y, z), o))) (x, n) h in
    let (q, d, k) = bind_some ((mark not_ne (both macro_name any_group)).reads p.1) (λ z o. Some ((p.0, z), o)) (x, n) j in
    let (a, f) = marked_some not_ne (both macro_name any_group) p.1 q d in
    let (w, g, y) = bind_some (macro_name.reads (drop 1 p.1)) (λ y m. and_then (any_group.reads m) (λ z o. Some ((y, z), o))) q f in
    let (v, s, r) = bind_some (any_group.reads w.1) (λ z o. Some ((w.0, z), o)) q y in
    let (t, u, b) = group_found w.1 v.0 v.1 s in
    let path_tail = path_leaves type_leaves style.Mod in
    let tail : IsTail w.1 l = tail_then (tail_then (path_tail.leaves l p.0 p.1 e) (dropped 1 p.1)) (name_found (drop 1 p.1) w.0 w.1 g) in
    let rest : v.1 ≡ n = ap (λ (z : NameGroup × List Tok). z.1) (some_is r) ∙ ap (λ (z : MacroHead × List Tok). z.1) (some_is k) in
    let same : v.0.0 ≡ x.1.1.0 = ap (λ (z : NameGroup × List Tok). z.0.1.0) (some_is r) ∙ ap (λ (z : MacroHead × List Tok). z.0.1.1.0) (some_is k) in
    record {
      token = t;
      tail = subst (λ z. IsTail z l) (u ∙ ap (λ z. t ∷ z) rest) tail;
      last = ap is_brace_delimiter (sym same) ∙ b;
    }

has_append : (a b : List Tok) → has_last b ≡ true → has_last (a ++ b) ≡ true
has_append [] b h = h
has_append (t ∷ a) b h = go (is_last t) (has_append a b h)
  where
    go : (x : Bool) {y : Bool} → y ≡ true → x || y ≡ true
    go true e = refl
    go false e = e

tail_ended : {l o m : List Tok} → IsTail o l → Ended o m → Ended l m
tail_ended {l} {o} {m} t e = record {
  front = t.front ++ e.front;
  is = t.is ∙ ap (λ z. t.front ++ z) e.is ∙ sym (append_assoc t.front e.front m);
  last = has_append t.front e.front e.last;
}

macro_ended : (l m : List Tok) → macro_end (macro_head.reads l) ≡ Some m → Ended l m
unfolding sign_at
macro_ended l m h = by_read (macro_head.reads l) refl h
  where
    by_semi : (t : Tok) (n : List Tok) → semi.at n ≡ true → Some (drop 1 n) ≡ Some m → Ended (t ∷ n) m
    by_semi t [] e k = absurd (nothing_first e)
      where
        nothing_first : semi.at [] ≡ true → ⊥
        nothing_first e = absurd cc
    by_semi t (u ∷ n) e k = next_ended t (here_ended u n m (semi_last u n e) k)

    by_group : (x : MacroHead) (n : List Tok) → Called l x.1.1.0 n → (b : Bool) → is_brace_delimiter x.1.1.0 ≡ b → (c : Bool) → semi.at n ≡ c
        → cond b (Some n) (cond c (Some (drop 1 n)) None) ≡ Some m → Ended l m
    by_group x n g true e c d k = tail_ended g.tail (here_ended g.token n m (sym g.last ∙ e) k)
    by_group x n g false e true d k = tail_ended g.tail (by_semi g.token n d k)
    by_group x n g false e false d k = absurd cc

    by_read : (o : Outcome MacroHead) → macro_head.reads l ≡ o → macro_end o ≡ Some m → Ended l m
    by_read None e k = absurd cc
    by_read (Some p) e k = by_group p.0 p.1 (macro_group l p.0 p.1 e) (is_brace_delimiter p.0.1.1.0) refl (semi.at p.1) refl k

pub ends_in : (k : ItemKind) (l m : List Tok) → item_end k l ≡ Some m → Ended l m
ends_in kind.Use l m h = semi_ended l m h
ends_in kind.Static l m h = semi_ended l m h
ends_in kind.Const l m h = semi_ended l m h
ends_in kind.Type l m h = semi_ended l m h
ends_in kind.ExternCrate l m h = semi_ended l m h
ends_in kind.Fn l m h = body_ended true i.other 0 l m h
ends_in kind.Mod l m h = body_ended true i.other 0 l m h
ends_in kind.Trait l m h = body_ended true i.other 0 l m h
ends_in kind.Struct l m h = body_ended true i.other 0 l m h
ends_in kind.Macro l m h = macro_ended l m h
ends_in kind.ForeignMod l m h = body_ended false i.other 0 l m h
ends_in kind.Impl l m h = body_ended false i.other 0 l m h
ends_in kind.Enum l m h = body_ended false i.other 0 l m h
ends_in kind.Union l m h = body_ended false i.other 0 l m h
ends_in kind.Macro2 l m h = body_ended false i.other 0 l m h

-- ---- before other tokens

more_rest : (l m r : List Tok) → Some l ≡ Some m → Some (l ++ r) ≡ Some (m ++ r)
more_rest l m r h = ap (λ z. Some (z ++ r)) (some_is h)

body_longer : (s : Bool) (b : Before) (d : ℕ) (l m r : List Tok) → body_end s b d l ≡ Some m → body_end s b d (l ++ r) ≡ Some (m ++ r)
body_longer s b d [] m r h = absurd cc
body_longer s b d (ident w ∷ l) m r h = body_longer s (cond (is_reserved_word w) i.other i.name) d l m r h
body_longer s b d (literal w ∷ l) m r h = body_longer s i.other d l m r h
body_longer s b d (group g x ∷ l) m r h = go (i.is_body b d g) (λ k. body_longer s i.other d l m r k) h
  where
    go : (t : Bool) → (body_end s i.other d l ≡ Some m → body_end s i.other d (l ++ r) ≡ Some (m ++ r))
        → cond t (Some l) (body_end s i.other d l) ≡ Some m → cond t (Some (l ++ r)) (body_end s i.other d (l ++ r)) ≡ Some (m ++ r)
    go true again k = more_rest l m r k
    go false again k = again k
body_longer s b d (punct c z ∷ l) m r h = go (c == 59) s (body_end s (i.behind_punct b c z) (i.depth_behind b c d) l) (body_end s (i.behind_punct b c z) (i.depth_behind b c d) (l ++ r))
    (λ k. body_longer s (i.behind_punct b c z) (i.depth_behind b c d) l m r k) h
  where
    go : (t u : Bool) (o p : Option (List Tok)) → (o ≡ Some m → p ≡ Some (m ++ r))
        → cond t (cond u (Some l) None) o ≡ Some m → cond t (cond u (Some (l ++ r)) None) p ≡ Some (m ++ r)
    go true true o p again k = more_rest l m r k
    go true false o p again k = absurd cc
    go false u o p again k = again k

semi_first : (t : Tok) (l m : List Tok) → semi.at (t ∷ l) ≡ semi.at (t ∷ m)
unfolding sign_at
semi_first (punct c spacing.Joint) l m = refl
semi_first _ l m = refl

semi_longer : (l m r : List Tok) → semi_end l ≡ Some m → semi_end (l ++ r) ≡ Some (m ++ r)
semi_longer [] m r h = absurd cc
semi_longer (t ∷ l) m r h = ap (λ b. cond b (Some (l ++ r)) (semi_end (l ++ r))) (semi_first t (l ++ r) l) ∙ go (semi.at (t ∷ l)) (λ k. semi_longer l m r k) h
  where
    go : (b : Bool) → (semi_end l ≡ Some m → semi_end (l ++ r) ≡ Some (m ++ r)) → cond b (Some l) (semi_end l) ≡ Some m → cond b (Some (l ++ r)) (semi_end (l ++ r)) ≡ Some (m ++ r)
    go true again k = more_rest l m r k
    go false again k = again k

no_semi_first : semi.at [] ≡ false
unfolding sign_at
no_semi_first = refl

macro_longer : (o : Outcome MacroHead) (m r : List Tok) → macro_end o ≡ Some m → macro_end (longer r o) ≡ Some (m ++ r)
macro_longer None m r h = absurd cc
macro_longer (Some p) m r h = go (is_brace_delimiter p.0.1.1.0) p.1 h
  where
    go : (b : Bool) (n : List Tok) → cond b (Some n) (cond (semi.at n) (Some (drop 1 n)) None) ≡ Some m
        → cond b (Some (n ++ r)) (cond (semi.at (n ++ r)) (Some (drop 1 (n ++ r))) None) ≡ Some (m ++ r)
    go true n k = more_rest n m r k
    go false [] k = absurd (let e : None ≡ Some m = rw no_semi_first at k in cc)
    go false (t ∷ n) k = ap (λ b. cond b (Some (n ++ r)) None) (semi_first t (n ++ r) n) ∙ by_first (semi.at (t ∷ n)) k
      where
        by_first : (b : Bool) → cond b (Some n) None ≡ Some m → cond b (Some (n ++ r)) None ≡ Some (m ++ r)
        by_first true k = more_rest n m r k
        by_first false k = absurd cc

end_longer : (k : ItemKind) (l m r : List Tok) → has_last l ≡ true → item_end k l ≡ Some m → item_end k (l ++ r) ≡ Some (m ++ r)
end_longer kind.Use l m r a h = semi_longer l m r h
end_longer kind.Static l m r a h = semi_longer l m r h
end_longer kind.Const l m r a h = semi_longer l m r h
end_longer kind.Type l m r a h = semi_longer l m r h
end_longer kind.ExternCrate l m r a h = semi_longer l m r h
end_longer kind.Fn l m r a h = body_longer true i.other 0 l m r h
end_longer kind.Mod l m r a h = body_longer true i.other 0 l m r h
end_longer kind.Trait l m r a h = body_longer true i.other 0 l m r h
end_longer kind.Struct l m r a h = body_longer true i.other 0 l m r h
end_longer kind.Macro l m r a h = ap macro_end (head_same l r a) ∙ macro_longer (macro_head.reads l) m r h
end_longer kind.ForeignMod l m r a h = body_longer false i.other 0 l m r h
end_longer kind.Impl l m r a h = body_longer false i.other 0 l m r h
end_longer kind.Enum l m r a h = body_longer false i.other 0 l m r h
end_longer kind.Union l m r a h = body_longer false i.other 0 l m r h
end_longer kind.Macro2 l m r a h = body_longer false i.other 0 l m r h

-- ---- before no tokens

not_all : (n : List Tok) → Ended n n → ⊥
not_all n e =
    let f : [] ≡ e.front = append_cancel_right [] e.front n e.is in
    absurd (let h : false ≡ true = ap has_last f ∙ e.last in cc)

only_rest : (l n : List Tok) → Some (l ++ n) ≡ Some n → Some l ≡ Some []
only_rest l n h = ap (λ z. Some z) (append_cancel_right l [] n (some_is h))

body_cut : (s : Bool) (b : Before) (d : ℕ) (l n : List Tok) → body_end s b d (l ++ n) ≡ Some n → body_end s b d l ≡ Some []
body_cut s b d [] n h = absurd (not_all n (body_ended s b d n n h))
body_cut s b d (ident w ∷ l) n h = body_cut s (cond (is_reserved_word w) i.other i.name) d l n h
body_cut s b d (literal w ∷ l) n h = body_cut s i.other d l n h
body_cut s b d (group g x ∷ l) n h = go (i.is_body b d g) (λ k. body_cut s i.other d l n k) h
  where
    go : (t : Bool) → (body_end s i.other d (l ++ n) ≡ Some n → body_end s i.other d l ≡ Some [])
        → cond t (Some (l ++ n)) (body_end s i.other d (l ++ n)) ≡ Some n → cond t (Some l) (body_end s i.other d l) ≡ Some []
    go true again k = only_rest l n k
    go false again k = again k
body_cut s b d (punct c z ∷ l) n h = go (c == 59) s (body_end s (i.behind_punct b c z) (i.depth_behind b c d) (l ++ n)) (body_end s (i.behind_punct b c z) (i.depth_behind b c d) l)
    (λ k. body_cut s (i.behind_punct b c z) (i.depth_behind b c d) l n k) h
  where
    go : (t u : Bool) (o p : Option (List Tok)) → (o ≡ Some n → p ≡ Some []) → cond t (cond u (Some (l ++ n)) None) o ≡ Some n → cond t (cond u (Some l) None) p ≡ Some []
    go true true o p again k = only_rest l n k
    go true false o p again k = absurd cc
    go false u o p again k = again k

semi_cut : (l n : List Tok) → semi_end (l ++ n) ≡ Some n → semi_end l ≡ Some []
semi_cut [] n h = absurd (not_all n (semi_ended n n h))
semi_cut (t ∷ l) n h = go (semi.at (t ∷ l)) (λ k. semi_cut l n k) (ap (λ b. cond b (Some (l ++ n)) (semi_end (l ++ n))) (semi_first t l (l ++ n)) ∙ h)
  where
    go : (b : Bool) → (semi_end (l ++ n) ≡ Some n → semi_end l ≡ Some []) → cond b (Some (l ++ n)) (semi_end (l ++ n)) ≡ Some n → cond b (Some l) (semi_end l) ≡ Some []
    go true again k = only_rest l n k
    go false again k = again k

shorter : (n : List Tok) → semi.at n ≡ true → Some (drop 1 n) ≡ Some n → ⊥
shorter [] e h = absurd (let f : false ≡ true = sym no_semi_first ∙ e in cc)
shorter (t ∷ n) e h = absurd (let f : [] ≡ t ∷ [] = append_cancel_right [] (t ∷ []) n (some_is h) in cc)

macro_cut : (o : Outcome MacroHead) (n : List Tok) → macro_end (longer n o) ≡ Some n → macro_end o ≡ Some []
macro_cut None n h = absurd cc
macro_cut (Some p) n h = go (is_brace_delimiter p.0.1.1.0) p.1 h
  where
    none_left : (b : Bool) → semi.at n ≡ b → cond b (Some (drop 1 n)) None ≡ Some n → ⊥
    none_left true e k = shorter n e k
    none_left false e k = absurd cc

    go : (b : Bool) (m : List Tok) → cond b (Some (m ++ n)) (cond (semi.at (m ++ n)) (Some (drop 1 (m ++ n))) None) ≡ Some n
        → cond b (Some m) (cond (semi.at m) (Some (drop 1 m)) None) ≡ Some []
    go true m k = only_rest m n k
    go false [] k = absurd (none_left (semi.at n) refl k)
    go false (t ∷ m) k = by_first (semi.at (t ∷ m)) (ap (λ b. cond b (Some (m ++ n)) None) (semi_first t m (m ++ n)) ∙ k)
      where
        by_first : (b : Bool) → cond b (Some (m ++ n)) None ≡ Some n → cond b (Some m) None ≡ Some []
        by_first true k = only_rest m n k
        by_first false k = absurd cc

end_cut : (k : ItemKind) (l n : List Tok) → has_last l ≡ true → item_end k (l ++ n) ≡ Some n → item_end k l ≡ Some []
end_cut kind.Use l n a h = semi_cut l n h
end_cut kind.Static l n a h = semi_cut l n h
end_cut kind.Const l n a h = semi_cut l n h
end_cut kind.Type l n a h = semi_cut l n h
end_cut kind.ExternCrate l n a h = semi_cut l n h
end_cut kind.Fn l n a h = body_cut true i.other 0 l n h
end_cut kind.Mod l n a h = body_cut true i.other 0 l n h
end_cut kind.Trait l n a h = body_cut true i.other 0 l n h
end_cut kind.Struct l n a h = body_cut true i.other 0 l n h
end_cut kind.Macro l n a h = macro_cut (macro_head.reads l) n (ap macro_end (sym (head_same l n a)) ∙ h)
end_cut kind.ForeignMod l n a h = body_cut false i.other 0 l n h
end_cut kind.Impl l n a h = body_cut false i.other 0 l n h
end_cut kind.Enum l n a h = body_cut false i.other 0 l n h
end_cut kind.Union l n a h = body_cut false i.other 0 l n h
end_cut kind.Macro2 l n a h = body_cut false i.other 0 l n h

-- ---- the whole item

pub found_parts : (l : List Tok) (k : ItemKind) (n : List Tok) → find_item l ≡ Some (k, n) → (item_kind l ≡ Some k) × (item_end k l ≡ Some n)
unfolding find_item
found_parts l k n h = by_kind (item_kind l) h
  where
    by_end : (j : ItemKind) (o : Option (List Tok)) → item_end j l ≡ o → ended j o ≡ Some (k, n) → (Some j ≡ Some k) × (item_end k l ≡ Some n)
    by_end j None e g = absurd cc
    by_end j (Some m) e g =
        let a : j ≡ k = ap (λ (z : ItemKind × List Tok). z.0) (some_is g) in
        let b : m ≡ n = ap (λ (z : ItemKind × List Tok). z.1) (some_is g) in
        (ap (λ z. Some z) a, subst (λ z. item_end z l ≡ Some n) a (e ∙ ap (λ z. Some z) b))

    by_kind : (o : Option ItemKind) → i.item_of o l ≡ Some (k, n) → (o ≡ Some k) × (item_end k l ≡ Some n)
    by_kind None g = absurd cc
    by_kind (Some j) g = by_end j (item_end j l) refl g

found_by : (l : List Tok) (k : ItemKind) (n : List Tok) → item_kind l ≡ Some k → item_end k l ≡ Some n → find_item l ≡ Some (k, n)
unfolding find_item
found_by l k n e h = ap (λ z. i.item_of z l) e ∙ ap (ended k) h

-- an item ends before what is left after it
pub item_ended : (l : List Tok) (k : ItemKind) (n : List Tok) → find_item l ≡ Some (k, n) → Ended l n
item_ended l k n h = ends_in k l n (found_parts l k n h).1

pub item_longer : (l n : List Tok) (k : ItemKind) → find_item l ≡ Some (k, []) → find_item (l ++ n) ≡ Some (k, n)
item_longer l n k h =
    let (a, b) = found_parts l k [] h in
    let e = ends_in k l [] b in
    let s : has_last l ≡ true = subst (λ z. has_last z ≡ true) (sym (e.is ∙ append-nil e.front)) e.last in
    found_by (l ++ n) k n (kind_steady l n s ∙ a) (end_longer k l [] n s b)

pub item_cut : (l n : List Tok) (k : ItemKind) → find_item (l ++ n) ≡ Some (k, n) → find_item l ≡ Some (k, [])
item_cut l n k h =
    let (a, b) = found_parts (l ++ n) k n h in
    let e = ends_in k (l ++ n) n b in
    let s : has_last l ≡ true = subst (λ z. has_last z ≡ true) (append_cancel_right e.front l n (sym e.is)) e.last in
    found_by l k [] (sym (kind_steady l n s) ∙ a) (end_cut k l n s b)

pub items_stand : ItemsStand
items_stand = record { before = λ ts n k h. item_longer ts n k h; alone = λ ts n k h. item_cut ts n k h }

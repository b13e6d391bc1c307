-- The reading of a place is made of the readings of the places inside.
use Rattle.std.proofs.Common.{◌≡◌, List, Option, Some, None, refl, sym, arith, ℕ, zero, suc, ◌+◌, ◌-◌, ◌<◌, ◌≤◌, Bool, true, false, cond, [], ◌∷◌, ◌++◌, take, drop, length, get_or, ap, ◌∙◌, subst}
use Rattle.syn_tokens.specs.Tok.{Tok, weight, punct, ident, literal, group}
use Rattle.syn_expr_spec.specs.declared.kinds.Place.{Place}
use Rattle.syn_expr_spec.specs.Read.{at_place, expr, Reading, ◌<$>◌, ◌>>=◌, atom, read_attributed, prefix_at, prefix_read, core, operand, climb, stop, taken_at, taken_by, next_operator}
use Rattle.syn_expr_spec.proofs.Needs.{heads}
use Rattle.syn_expr_spec.proofs.SoundTurns.{at_place_sound}
use Rattle.syn_expr_spec.proofs.Complete.{at_place_complete}
use Rattle.syn_expr_spec.proofs.Exact.{expr_sound, expr_complete}
use Rattle.std.specs.Prelude.{◌==◌, ◌&&◌, ◌||◌, is_some}
use Rattle.std.proofs.Math.Seq.{take-suc, take-length}
use Rattle.std.proofs.lemmas.Bool.{eqb-true, and_parts}
use Rattle.std.proofs.lemmas.List.{drop-drop}
use Rattle.syn_lexer.specs.declared.front.Spacing.{Spacing}
use Rattle.syn_lexer.specs.declared.front.Spacing.TheVariants.{Alone, Joint}
use Rattle.syn_tokens.specs.Front.{group_at}
use Rattle.syn_tokens.specs.View.{tok_of, toks_of, toks_of-append, toks_of-take, toks_of-drop}
use Rattle.syn_tokens.specs.declared.tree.TokenTree.{TokenTree}
use Rattle.syn_lower_spec.specs.Form.{Outcome, and_then}
use Rattle.syn_lower_spec.specs.Mark.{sign_at, word_at, brace_at, pound}
use Rattle.syn_lower_spec.specs.Part.{outer_attributes}
use Rattle.syn_expr_spec.specs.declared.kinds.Infix.{Infix}
use Rattle.syn_expr_spec.specs.declared.kinds.Infix.TheVariants as inf
use Rattle.syn_expr_spec.specs.declared.kinds.BinKind.TheVariants as bin
use Rattle.syn_expr_spec.specs.declared.kinds.Precedence.{Precedence}
use Rattle.syn_expr_spec.specs.declared.kinds.Precedence.TheVariants as lev
use Rattle.syn_expr_spec.specs.declared.kinds.UnKind.{UnKind}
use Rattle.syn_expr_spec.specs.declared.kinds.UnKind.TheVariants as un
use Rattle.syn_expr_spec.specs.Place.{at, takes}
use Rattle.syn_expr_spec.specs.Op.{level, infix_at, goes_on, takes_by}
use Rattle.syn_expr_spec.specs.Head.{prefix_form, leaf_at}
use Rattle.syn_expr_spec.specs.Tree.{Tree, prefixed, unary, none}
use Rattle.syn_expr_spec.specs.Stands.{ends, is_range, rests, prefix_stands}
use Rattle.syn_expr_parse.specs.Led.{behind}
use Rattle.syn_expr_parse.specs.Operators.{operations, trailers, operator_of, operator_at, are_operators, wrap, wrapped}
use Rattle.syn_expr_spec.proofs.HeadForms.{leaf_tests}
use Rattle.syn_expr_spec.proofs.Fronts.{no_lifetime}

-- two readings are one where each gives what the other gives
same_answers : {A : Type 0} (a b : Option A) → ((y : A) → a ≡ Some y → b ≡ Some y) → ((y : A) → b ≡ Some y → a ≡ Some y) → a ≡ b
same_answers None None f g = refl
same_answers None (Some y) f g = g y refl
same_answers (Some x) b f g = sym (f x refl)

pub expr_is : (p : Place) (l : List Tok) → expr p l ≡ at_place expr p l
expr_is p l = same_answers (expr p l) (at_place expr p l)
    (λ y h. at_place_complete expr (weight l) (λ v m o z c t. expr_complete v m z o t) p l y.1 y.0 (omega arith) (expr_sound p l y.0 y.1 h))
    (λ y h. expr_complete p l y.0 y.1 (at_place_sound heads expr expr_sound p l y h))

-- ---- what is read after prefix operators, one after the other

-- ---- an operator that comes first is told before anything else

star_first : (p : Place) (s : Spacing) (l : List Tok) → atom expr p (punct 42 s ∷ l) ≡ (prefixed (unary un.Deref) none <$> expr (at p lev.Prefix)) l
unfolding atom leaf_at prefix_at prefix_read prefix_form prefix_stands leaf_tests brace_at group_at sign_at word_at
star_first p Alone l = rw (no_lifetime 42 Alone l refl) refl
star_first p Joint l = rw (no_lifetime 42 Joint l refl) refl

bang_first : (p : Place) (s : Spacing) (l : List Tok) → atom expr p (punct 33 s ∷ l) ≡ (prefixed (unary un.Not) none <$> expr (at p lev.Prefix)) l
unfolding atom leaf_at prefix_at prefix_read prefix_form prefix_stands leaf_tests brace_at group_at sign_at word_at
bang_first p Alone l = rw (no_lifetime 33 Alone l refl) refl
bang_first p Joint l = rw (no_lifetime 33 Joint l refl) refl

minus_first : (p : Place) (s : Spacing) (l : List Tok) → atom expr p (punct 45 s ∷ l) ≡ (prefixed (unary un.Neg) none <$> expr (at p lev.Prefix)) l
unfolding atom leaf_at prefix_at prefix_read prefix_form prefix_stands leaf_tests brace_at group_at sign_at word_at
minus_first p Alone l = rw (no_lifetime 45 Alone l refl) refl
minus_first p Joint l = rw (no_lifetime 45 Joint l refl) refl

punct_first : (p : Place) (c : ℕ) (s : Spacing) (l : List Tok) (k : UnKind) → operator_of (punct c s) ≡ Some k → atom expr p (punct c s ∷ l) ≡ (prefixed (unary k) none <$> expr (at p lev.Prefix)) l
unfolding operator_of
punct_first p c s l k h = by_star (c == 42) refl h
  where
    by_minus : (a : Bool) → (c == 45) ≡ a → cond a (Some un.Neg) None ≡ Some k → atom expr p (punct c s ∷ l) ≡ (prefixed (unary k) none <$> expr (at p lev.Prefix)) l
    by_minus true e h = let f : un.Neg ≡ k = cc in subst (λ (k : UnKind). atom expr p (punct c s ∷ l) ≡ (prefixed (unary k) none <$> expr (at p lev.Prefix)) l) f (subst (λ (c : ℕ). atom expr p (punct c s ∷ l) ≡ (prefixed (unary un.Neg) none <$> expr (at p lev.Prefix)) l) (sym (eqb-true c 45 e)) (minus_first p s l))
    by_minus false e h = absurd cc

    by_bang : (a : Bool) → (c == 33) ≡ a → cond a (Some un.Not) (cond (c == 45) (Some un.Neg) None) ≡ Some k → atom expr p (punct c s ∷ l) ≡ (prefixed (unary k) none <$> expr (at p lev.Prefix)) l
    by_bang true e h = let f : un.Not ≡ k = cc in subst (λ (k : UnKind). atom expr p (punct c s ∷ l) ≡ (prefixed (unary k) none <$> expr (at p lev.Prefix)) l) f (subst (λ (c : ℕ). atom expr p (punct c s ∷ l) ≡ (prefixed (unary un.Not) none <$> expr (at p lev.Prefix)) l) (sym (eqb-true c 33 e)) (bang_first p s l))
    by_bang false e h = by_minus (c == 45) refl h

    by_star : (a : Bool) → (c == 42) ≡ a → cond a (Some un.Deref) (cond (c == 33) (Some un.Not) (cond (c == 45) (Some un.Neg) None)) ≡ Some k → atom expr p (punct c s ∷ l) ≡ (prefixed (unary k) none <$> expr (at p lev.Prefix)) l
    by_star true e h = let f : un.Deref ≡ k = cc in subst (λ (k : UnKind). atom expr p (punct c s ∷ l) ≡ (prefixed (unary k) none <$> expr (at p lev.Prefix)) l) f (subst (λ (c : ℕ). atom expr p (punct c s ∷ l) ≡ (prefixed (unary un.Deref) none <$> expr (at p lev.Prefix)) l) (sym (eqb-true c 42 e)) (star_first p s l))
    by_star false e h = by_bang (c == 33) refl h

first_is : (p : Place) (t : Tok) (l : List Tok) (k : UnKind) → operator_of t ≡ Some k → atom expr p (t ∷ l) ≡ (prefixed (unary k) none <$> expr (at p lev.Prefix)) l
unfolding operator_of
first_is p (punct c s) l k h = punct_first p c s l k h
first_is p (ident w) l k h = absurd cc
first_is p (literal w) l k h = absurd cc
first_is p (group d i) l k h = absurd cc

no_pound : (t : Tok) (l : List Tok) (k : UnKind) → operator_of t ≡ Some k → pound.at (t ∷ l) ≡ false
unfolding operator_of sign_at
no_pound (punct c s) l k h = by_pound (c == 35) refl
  where
    by_pound : (a : Bool) → (c == 35) ≡ a → pound.at (punct c s ∷ l) ≡ false
    by_pound true e = absurd (let f : None ≡ Some k = subst (λ (c : ℕ). operator_of (punct c s) ≡ Some k) (eqb-true c 35 e) h in cc)
    by_pound false e = by_spacing s e
      where
        by_spacing : (s : Spacing) → (c == 35) ≡ false → pound.at (punct c s ∷ l) ≡ false
        by_spacing Alone e = rw e refl
        by_spacing Joint e = rw e refl
no_pound (ident w) l k h = absurd cc
no_pound (literal w) l k h = absurd cc
no_pound (group d i) l k h = absurd cc

-- what is read where an operator comes first
pub prefix_first : (p : Place) (l : List Tok) (k : UnKind) → operator_at l ≡ Some k → atom expr p l ≡ (prefixed (unary k) none <$> expr (at p lev.Prefix)) (drop 1 l)
prefix_first p [] k h = absurd cc
prefix_first p (t ∷ l) k h = first_is p t l k h

pub first_taken : (l : List Tok) (k : UnKind) → Some k ≡ operator_at l → 0 < length l
first_taken [] k h = absurd cc
first_taken (t ∷ l) k h = omega arith

-- ---- at the level of prefix operators no operation goes on

takes_none : (op : Infix) → takes lev.Prefix (level op) ≡ false
takes_none (inf.Binary bin.Add) = refl
takes_none (inf.Binary bin.Sub) = refl
takes_none (inf.Binary bin.Mul) = refl
takes_none (inf.Binary bin.Div) = refl
takes_none (inf.Binary bin.Rem) = refl
takes_none (inf.Binary bin.And) = refl
takes_none (inf.Binary bin.Or) = refl
takes_none (inf.Binary bin.BitXor) = refl
takes_none (inf.Binary bin.BitAnd) = refl
takes_none (inf.Binary bin.BitOr) = refl
takes_none (inf.Binary bin.Shl) = refl
takes_none (inf.Binary bin.Shr) = refl
takes_none (inf.Binary bin.Eq) = refl
takes_none (inf.Binary bin.Lt) = refl
takes_none (inf.Binary bin.Le) = refl
takes_none (inf.Binary bin.Ne) = refl
takes_none (inf.Binary bin.Ge) = refl
takes_none (inf.Binary bin.Gt) = refl
takes_none (inf.Binary bin.AddAssign) = refl
takes_none (inf.Binary bin.SubAssign) = refl
takes_none (inf.Binary bin.MulAssign) = refl
takes_none (inf.Binary bin.DivAssign) = refl
takes_none (inf.Binary bin.RemAssign) = refl
takes_none (inf.Binary bin.BitXorAssign) = refl
takes_none (inf.Binary bin.BitAndAssign) = refl
takes_none (inf.Binary bin.BitOrAssign) = refl
takes_none (inf.Binary bin.ShlAssign) = refl
takes_none (inf.Binary bin.ShrAssign) = refl
takes_none inf.Assign = refl
takes_none (inf.Range op) = refl
takes_none inf.Cast = refl

-- that level, with which no head begins
record IsInner (p : Place) : Type 0 where
  pub is : at p lev.Prefix ≡ p
  pub level : p.level ≡ lev.Prefix

inner_is : (p : Place) → IsInner (at p lev.Prefix)
inner_is p = record { is = refl; level = refl }

none_taken : (v : Precedence) (l : List Tok) → v ≡ lev.Prefix → taken_at v l ≡ None
unfolding taken_at
none_taken v l e = subst (λ v. taken_by v (infix_at l) ≡ None) (sym e) (by_operator (infix_at l))
  where
    by_operator : (o : Option (Infix × ℕ)) → taken_by lev.Prefix o ≡ None
    by_operator None = refl
    by_operator (Some q) = rw (takes_none q.0) refl

none_next : (p : Place) (x : Tree) (l : List Tok) → p.level ≡ lev.Prefix → next_operator p x l ≡ None
none_next p x l e = by_test (is_range x || rests p x)
  where
    by_test : (b : Bool) → cond b None (taken_at p.level l) ≡ None
    by_test true = refl
    by_test false = none_taken p.level l e

none_goes_on : (l : List Tok) → goes_on lev.Prefix l ≡ false
unfolding goes_on
none_goes_on l = by_operator (infix_at l)
  where
    by_operator : (o : Option (Infix × ℕ)) → takes_by lev.Prefix o ≡ false
    by_operator None = refl
    by_operator (Some q) = takes_none q.0

or_true : (a b : Bool) → (a || (b || true)) ≡ true
or_true true b = refl
or_true false true = refl
or_true false false = refl

all_end : (p : Place) (x : Tree) (l : List Tok) → p.level ≡ lev.Prefix → ends p x l ≡ true
unfolding ends
all_end p x l e = rw (e, none_goes_on l) (or_true (is_range x) (rests p x))

none_goes : (p : Place) (x : Tree) (l : List Tok) → p.level ≡ lev.Prefix → operations p x l ≡ Some (x, l)
unfolding operations climb stop
none_goes p x l e = rw (none_next p x l e, all_end p x l e) refl

-- ---- operators before an operand, one by one

same_then : {A : Type 0} (o : Outcome A) → o ≡ and_then o (λ x l. Some (x, l))
same_then None = refl
same_then (Some q) = refl

then_then : {A B C : Type 0} (o : Outcome A) (f : A → Reading B) (g : B → Reading C) → and_then (and_then o f) g ≡ and_then o (λ x l. and_then (f x l) g)
then_then None f g = refl
then_then (Some q) f g = refl

-- one of them
step : (p : Place) (t : Tok) (l : List Tok) → IsInner p → is_some (operator_of t) ≡ true → expr p (t ∷ l) ≡ and_then (expr p l) (wrap p (operator_of t))
unfolding at_place operand core trailers operations
step p t l e h = by_operator (operator_of t) refl h
  where
    by_end : (o : Outcome Tree) → and_then o (operations p) ≡ o
    by_end None = refl
    by_end (Some q) = none_goes p q.0 q.1 e.level

    by_operand : (k : UnKind) (o : Outcome Tree) → and_then (and_then o (λ x n. Some (prefixed (unary k) none x, n))) (trailers p) ≡ and_then o (wrap p (Some k))
    by_operand k None = refl
    by_operand k (Some q) = refl

    by_operator : (o : Option UnKind) → operator_of t ≡ o → is_some o ≡ true → expr p (t ∷ l) ≡ and_then (expr p l) (wrap p o)
    by_operator None i h = absurd cc
    by_operator (Some k) i h =
        expr_is p (t ∷ l)
        ∙ ap (λ b. and_then (cond b (and_then (outer_attributes.reads (t ∷ l)) (λ ats m. (core expr p >>= read_attributed p (t ∷ l) m ats) m)) (core expr p (t ∷ l))) (operations p)) (no_pound t l k i)
        ∙ by_end (and_then (atom expr p (t ∷ l)) (trailers p))
        ∙ ap (λ (o : Outcome Tree). and_then o (trailers p)) (first_is p t l k i)
        ∙ ap (λ (q : Place). and_then (and_then (expr q l) (λ x n. Some (prefixed (unary k) none x, n))) (trailers p)) e.is
        ∙ by_operand k (expr p l)

-- as many as there are
chain : (p : Place) (n : ℕ) (l : List Tok) → IsInner p → are_operators (take n l) ≡ true → expr p l ≡ and_then (expr p (drop n l)) (wrapped p (take n l))
chain p zero l e h = same_then (expr p l)
chain p (suc n) [] e h = same_then (expr p [])
chain p (suc n) (t ∷ l) e h =
    let (a, b) = and_parts (is_some (operator_of t)) (are_operators (take n l)) h in
    step p t l e a
    ∙ ap (λ (o : Outcome Tree). and_then o (wrap p (operator_of t))) (chain p n l e b)
    ∙ then_then (expr p (drop n l)) (wrapped p (take n l)) (wrap p (operator_of t))

operators_read : (p : Place) (n : ℕ) (l : List Tok) → are_operators (take n l) ≡ true → expr (at p lev.Prefix) l ≡ and_then (expr (at p lev.Prefix) (drop n l)) (wrapped (at p lev.Prefix) (take n l))
operators_read p n l h = chain (at p lev.Prefix) n l (inner_is p) h

-- an operator before them
first_behind : (p : Place) (k : UnKind) (n : ℕ) (l : List Tok) → are_operators (take n l) ≡ true
    → behind p (unary k) l ≡ and_then (and_then (expr (at p lev.Prefix) (drop n l)) (wrapped (at p lev.Prefix) (take n l))) (λ x m. Some (prefixed (unary k) none x, m))
first_behind p k n l h = ap (λ (o : Outcome Tree). and_then o (λ x m. Some (prefixed (unary k) none x, m))) (operators_read p n l h)

pub operand_refused : (p : Place) (k : UnKind) (n : ℕ) (l : List Tok) → are_operators (take n l) ≡ true → expr (at p lev.Prefix) (drop n l) ≡ None → behind p (unary k) l ≡ None
operand_refused p k n l h i = first_behind p k n l h ∙ rw i refl

pub operand_wrapped : (p : Place) (k : UnKind) (n : ℕ) (l m o : List Tok) (xs : List TokenTree) (x y : Tree) → are_operators (take n l) ≡ true → toks_of xs ≡ l
    → expr (at p lev.Prefix) (drop n l) ≡ Some (x, m) → wrapped (at p lev.Prefix) (toks_of (take n xs)) x m ≡ Some (y, o) → behind p (unary k) l ≡ Some (prefixed (unary k) none y, o)
operand_wrapped p k n l m o xs x y h e i j =
    let f : wrapped (at p lev.Prefix) (take n l) x m ≡ Some (y, o) = subst (λ ts. wrapped (at p lev.Prefix) ts x m ≡ Some (y, o)) (toks_of-take n xs ∙ ap (take n) e) j in
    first_behind p k n l h ∙ rw (i, f) refl

pub operand_unwrapped : (p : Place) (k : UnKind) (n : ℕ) (l m : List Tok) (xs : List TokenTree) (x : Tree) → are_operators (take n l) ≡ true → toks_of xs ≡ l
    → expr (at p lev.Prefix) (drop n l) ≡ Some (x, m) → wrapped (at p lev.Prefix) (toks_of (take n xs)) x m ≡ None → behind p (unary k) l ≡ None
operand_unwrapped p k n l m xs x h e i j =
    let f : wrapped (at p lev.Prefix) (take n l) x m ≡ None = subst (λ ts. wrapped (at p lev.Prefix) ts x m ≡ None) (toks_of-take n xs ∙ ap (take n) e) j in
    first_behind p k n l h ∙ rw (i, f) refl

pub ruleset chains = (operand_refused, operand_wrapped, operand_unwrapped)

-- ---- the last of them first

pub last_wraps : (p : Place) (ts : List Tok) (t : Tok) (x : Tree) (l : List Tok) → wrapped p (ts ++ t ∷ []) x l ≡ and_then (wrap p (operator_of t) x l) (wrapped p ts)
last_wraps p [] t x l = same_then (wrap p (operator_of t) x l)
last_wraps p (s ∷ ts) t x l =
    ap (λ (o : Outcome Tree). and_then o (wrap p (operator_of s))) (last_wraps p ts t x l)
    ∙ then_then (wrap p (operator_of t) x l) (wrapped p ts) (wrap p (operator_of s))

-- in a slice: all but the last, and the last
last_split : (xs : List TokenTree) (d : TokenTree) → 1 ≤ length xs → d ≡ get_or xs (length xs - 1) d → xs ≡ take (length xs - 1) xs ++ d ∷ []
last_split xs d h e =
    let n : suc (length xs - 1) ≡ length xs = omega arith in
    let a = take-suc xs (length xs - 1) d (omega arith) in
    let b = take-length xs in
    cc

wraps_end : (p : Place) (xs : List TokenTree) (d : TokenTree) (x : Tree) (l : List Tok) → 1 ≤ length xs → d ≡ get_or xs (length xs - 1) d
    → wrapped p (toks_of xs) x l ≡ and_then (wrap p (operator_of (tok_of d)) x l) (wrapped p (toks_of (take (length xs - 1) xs)))
wraps_end p xs d x l h e =
    ap (λ ts. wrapped p (toks_of ts) x l) (last_split xs d h e)
    ∙ ap (λ ts. wrapped p ts x l) (toks_of-append (take (length xs - 1) xs) (d ∷ []))
    ∙ last_wraps p (toks_of (take (length xs - 1) xs)) (tok_of d) x l

pub wraps_none : (p : Place) (xs : List TokenTree) (d : TokenTree) (x : Tree) (l : List Tok) → 1 ≤ length xs → d ≡ get_or xs (length xs - 1) d → operator_of (tok_of d) ≡ None
    → wrapped p (toks_of xs) x l ≡ wrapped p (toks_of (take (length xs - 1) xs)) x l
wraps_none p xs d x l h e n = wraps_end p xs d x l h e ∙ rw n refl

pub wraps_read : (p : Place) (xs : List TokenTree) (d : TokenTree) (x y : Tree) (l m : List Tok) (k : UnKind) → 1 ≤ length xs → d ≡ get_or xs (length xs - 1) d → operator_of (tok_of d) ≡ Some k
    → trailers p (prefixed (unary k) none x) l ≡ Some (y, m) → wrapped p (toks_of xs) x l ≡ wrapped p (toks_of (take (length xs - 1) xs)) y m
wraps_read p xs d x y l m k h e n i = wraps_end p xs d x l h e ∙ rw (n, i) refl

pub wraps_refused : (p : Place) (xs : List TokenTree) (d : TokenTree) (x : Tree) (l : List Tok) (k : UnKind) → 1 ≤ length xs → d ≡ get_or xs (length xs - 1) d → operator_of (tok_of d) ≡ Some k
    → trailers p (prefixed (unary k) none x) l ≡ None → wrapped p (toks_of xs) x l ≡ None
wraps_refused p xs d x l k h e n i = wraps_end p xs d x l h e ∙ rw (n, i) refl

pub ruleset wraps = (wraps_none, wraps_read, wraps_refused)

-- ---- their number

pub one_more : (n : ℕ) (l m : List Tok) (t : Tok) → drop n l ≡ t ∷ m → are_operators (take n l) ≡ true → is_some (operator_of t) ≡ true → are_operators (take (n + 1) l) ≡ true
one_more zero [] m t e a h = absurd cc
one_more zero (s ∷ l) m t e a h = let f : t ≡ s = cc in let g : is_some (operator_of s) ≡ true = subst (λ s. is_some (operator_of s) ≡ true) f h in rw g refl
one_more (suc n) [] m t e a h = absurd cc
one_more (suc n) (s ∷ l) m t e a h = let (b, c) = and_parts (is_some (operator_of s)) (are_operators (take n l)) a in
    let f : suc n + 1 ≡ suc (n + 1) = omega arith in
    subst (λ k. are_operators (take k (s ∷ l)) ≡ true) (sym f) (by_first (is_some (operator_of s)) b (one_more n l m t e c h))
  where
    by_first : (d : Bool) → d ≡ true → are_operators (take (n + 1) l) ≡ true → (d && are_operators (take (n + 1) l)) ≡ true
    by_first true b c = c
    by_first false b c = absurd cc

-- in a slice: the first, and what is after it
first_split : (xs : List TokenTree) (d : TokenTree) → 1 ≤ length xs → d ≡ get_or xs 0 d → toks_of xs ≡ tok_of d ∷ toks_of (drop 1 xs)
first_split [] d h e = absurd (omega arith)
first_split (t ∷ xs) d h e = ap (λ s. tok_of s ∷ toks_of xs) (sym e)

pub first_counted : (n : ℕ) (l : List Tok) (xs : List TokenTree) (d : TokenTree) → 1 ≤ length xs → d ≡ get_or xs 0 d → drop n l ≡ toks_of xs → are_operators (take n l) ≡ true
    → is_some (operator_of (tok_of d)) ≡ true → are_operators (take (n + 1) l) ≡ true
first_counted n l xs d h e i a b = one_more n l (toks_of (drop 1 xs)) (tok_of d) (i ∙ first_split xs d h e) a b

pub behind_first : (n : ℕ) (l : List Tok) (xs : List TokenTree) → drop n l ≡ toks_of xs → drop (n + 1) l ≡ toks_of (drop 1 xs)
behind_first n l xs i = sym (drop-drop 1 n l) ∙ ap (drop 1) i ∙ sym (toks_of-drop 1 xs)

pub ruleset counted = (first_counted, behind_first)

-- Of what class a list is: what must are in front where a class of tokens matters, however the puncts are joined.
use Rattle.std.proofs.Common.{◌≡◌, ℕ, Bool, true, false, not, ◌&&◌, ◌||◌, ◌==◌, ◌⊎◌, inl, inr, List, [], ◌∷◌, Option, Some, None, refl, sym, ◌∙◌, ap, subst, codes, arith}
use Rattle.std.specs.Prelude.{if◌then◌else◌}
use Rattle.std.proofs.lemmas.Bool.Decides.{nat_tests}
use Rattle.std.proofs.lemmas.Bool.{and_parts, not-true}
use Rattle.syn_lexer.specs.declared.front.Delimiter.{Delimiter}
use Rattle.syn_lexer.specs.declared.front.Delimiter.TheVariants as del
use Rattle.syn_lexer.specs.declared.front.Spacing.{Spacing}
use Rattle.syn_lexer.specs.declared.front.Spacing.TheVariants as spacing
use Rattle.syn_tokens.specs.Tok.{Tok, punct, group}
use Rattle.syn_tokens.specs.Front.{group_at}
use Rattle.syn_lower_spec.specs.Text.{Text}
use Rattle.syn_lower_spec.specs.Mark.{sign_at, word_at, lifetime_at, brace_at, round_at, lt}
use Rattle.syn_lower_spec.proofs.Ends.{sign_first}
use Rattle.syn_lower_spec.proofs.Weights.{some_is}
use Rattle.syn_expr_spec.specs.declared.kinds.BinKind.TheVariants as bin
use Rattle.syn_expr_spec.specs.declared.kinds.Limits.TheVariants as limits
use Rattle.syn_expr_spec.specs.declared.kinds.Infix.{Infix}
use Rattle.syn_expr_spec.specs.declared.kinds.Infix.TheVariants as inf
use Rattle.syn_expr_spec.specs.declared.kinds.Precedence.{Precedence}
use Rattle.syn_expr_spec.specs.declared.next.Next.{Next}
use Rattle.syn_expr_spec.specs.declared.next.Next.TheVariants as next
use Rattle.syn_expr_spec.specs.Op.{Entry, level, infix_at, goes_on, counted, longest, entries}
use Rattle.syn_expr_spec.specs.Front.{begins_expr, sign_begins, ends_open_range, trailer_at, bracket_at, dot_at, question_at}
use Rattle.syn_expr_spec.specs.Next.{class_of, level_of, takes_next, trails, begins_next, is_block_next, is_brace_next}
use Rattle.syn_expr_spec.specs.Rule.{is_less_next}

-- what the next token is asked, for a proof that computes it
asked : Bool
unfolding sign_at word_at lifetime_at begins_expr sign_begins ends_open_range dot_at brace_at group_at
asked = true

-- What a class stands for is seen in front of l. The class `End` says nothing.
pub record Front (n : Next) (l : List Tok) : Type 0 where
  pub op : (v : Precedence) → takes_next v n ≡ true → goes_on v l ≡ true
  pub trailer : trails n ≡ true → trailer_at l ≡ true
  pub begin : begins_next n ≡ true → begins_expr l ≡ true
  pub stops : begins_next n ≡ true → ends_open_range false l ≡ false
  pub brace : begins_next n ≡ true → brace_at l ≡ is_block_next n || is_brace_next n
  pub less : is_less_next n ≡ true → lt.at l ≡ true

pub front_end : (l : List Tok) → Front next.End l
front_end l = record { op = λ v h. absurd cc; trailer = λ h. absurd cc; begin = λ h. absurd cc; stops = λ h. absurd cc; brace = λ h. absurd cc; less = λ h. absurd cc }

-- ---- the entry that was found

abbrev code : Infix → ℕ
code (inf.Binary bin.Add) = 0
code (inf.Binary bin.Sub) = 1
code (inf.Binary bin.Mul) = 2
code (inf.Binary bin.Div) = 3
code (inf.Binary bin.Rem) = 4
code (inf.Binary bin.And) = 5
code (inf.Binary bin.Or) = 6
code (inf.Binary bin.BitXor) = 7
code (inf.Binary bin.BitAnd) = 8
code (inf.Binary bin.BitOr) = 9
code (inf.Binary bin.Shl) = 10
code (inf.Binary bin.Shr) = 11
code (inf.Binary bin.Eq) = 12
code (inf.Binary bin.Lt) = 13
code (inf.Binary bin.Le) = 14
code (inf.Binary bin.Ne) = 15
code (inf.Binary bin.Ge) = 16
code (inf.Binary bin.Gt) = 17
code (inf.Binary bin.AddAssign) = 18
code (inf.Binary bin.SubAssign) = 19
code (inf.Binary bin.MulAssign) = 20
code (inf.Binary bin.DivAssign) = 21
code (inf.Binary bin.RemAssign) = 22
code (inf.Binary bin.BitXorAssign) = 23
code (inf.Binary bin.BitAndAssign) = 24
code (inf.Binary bin.BitOrAssign) = 25
code (inf.Binary bin.ShlAssign) = 26
code (inf.Binary bin.ShrAssign) = 27
code inf.Assign = 28
code (inf.Range limits.HalfOpen) = 29
code (inf.Range limits.Closed) = 30
code inf.Cast = 31

abbrev is_op : Infix → Option Infix → Bool
is_op op None = false
is_op op (Some k) = code k == code op

same_text : Text → Text → Bool
same_text [] [] = true
same_text (x ∷ s) (y ∷ t) = x == y && same_text s t
same_text _ _ = false

text_is : (s t : Text) → same_text s t ≡ true → s ≡ t
unfolding same_text
text_is [] [] h = refl
text_is (x ∷ s) (y ∷ t) h =
    let p = and_parts (x == y) _ h in
    let e : x ≡ y = grind (arith, nat_tests, p.0) in
    same_cons x y s t e (text_is s t p.1)
  where
    same_cons : (x y : ℕ) (s t : Text) → x ≡ y → s ≡ t → x ∷ s ≡ y ∷ t
    same_cons x y s t p q = cc
text_is [] (y ∷ t) h = absurd cc
text_is (x ∷ s) [] h = absurd cc

-- the entries before that of the operator, the text of its own, and that it has one only
precedes : Infix → Text → List Entry → Bool
precedes op t [] = false
precedes op t (e ∷ more) = if is_op op e.1 then false else (same_text e.0 t || precedes op t more)

text_at : Infix → List Entry → Text
text_at op [] = []
text_at op (e ∷ more) = if is_op op e.1 then e.0 else text_at op more

lacks : Infix → List Entry → Bool
lacks op [] = true
lacks op (e ∷ more) = not (is_op op e.1) && lacks op more

is_once : Infix → List Entry → Bool
is_once op [] = true
is_once op (e ∷ more) = if is_op op e.1 then lacks op more else is_once op more

same_code : (n : ℕ) → (n == n) ≡ true
same_code n = grind (arith, nat_tests)

found_op : (t : Text) (o : Option Infix) (op : Infix) (c : ℕ) → counted t o ≡ Some (op, c) → is_op op o ≡ true
found_op t None op c h = absurd cc
found_op t (Some k) op c h =
    let e : k ≡ op = ap (λ (p : Infix × ℕ). p.0) (some_is h) in
    subst (λ (z : Infix). (code z == code op) ≡ true) (sym e) (same_code (code op))

clash : (b : Bool) → b ≡ true → b ≡ false → ⊥
clash b h k = let r : true ≡ false = sym h ∙ k in absurd cc

-- what one step of the walk finds
step : (b : Bool) (t : Text) (o : Option Infix) (y : Option (Infix × ℕ)) (op : Infix) (c : ℕ) → (if b then counted t o else y) ≡ Some (op, c)
    → ((b ≡ true) × (is_op op o ≡ true)) ⊎ ((b ≡ false) × (y ≡ Some (op, c)))
step true t o y op c h = inl (refl, found_op t o op c h)
step false t o y op c h = inr (refl, h)

never : (op : Infix) (c : ℕ) (es : List Entry) (l : List Tok) → lacks op es ≡ true → longest es l ≡ Some (op, c) → ⊥
unfolding lacks
never op c [] l n h = absurd cc
never op c ((t, o) ∷ more) l n h =
    let p = and_parts (not (is_op op o)) _ n in
    elim (step (sign_at t l) t o (longest more l) op c h) [
      | inl z ↦ clash _ z.1 (not-true _ p.0)
      | inr z ↦ never op c more l p.1 z.1
    ]

own_text : (op : Infix) (c : ℕ) (es : List Entry) (l : List Tok) → is_once op es ≡ true → longest es l ≡ Some (op, c) → sign_at (text_at op es) l ≡ true
unfolding text_at is_once
own_text op c [] l n h = absurd cc
own_text op c ((t, o) ∷ more) l n h =
    by_test (is_op op o) refl (step (sign_at t l) t o (longest more l) op c h) n (own_text op c more l)
  where
    by_test : (w : Bool) → is_op op o ≡ w → ((sign_at t l ≡ true) × (is_op op o ≡ true)) ⊎ ((sign_at t l ≡ false) × (longest more l ≡ Some (op, c)))
        → (if w then lacks op more else is_once op more) ≡ true → (is_once op more ≡ true → longest more l ≡ Some (op, c) → sign_at (text_at op more) l ≡ true)
        → sign_at (if w then t else text_at op more) l ≡ true
    by_test true q (inl z) n r = z.0
    by_test true q (inr z) n r = absurd (never op c more l n z.1)
    by_test false q (inl z) n r = absurd (clash _ z.1 q)
    by_test false q (inr z) n r = r n z.1

passed : (op : Infix) (c : ℕ) (es : List Entry) (l : List Tok) (t : Text) → precedes op t es ≡ true → longest es l ≡ Some (op, c) → sign_at t l ≡ false
unfolding precedes
passed op c [] l t n h = absurd cc
passed op c ((u, o) ∷ more) l t n h =
    by_test (is_op op o) refl (same_text u t) refl (step (sign_at u l) u o (longest more l) op c h) n (passed op c more l t)
  where
    by_test : (w : Bool) → is_op op o ≡ w → (s : Bool) → same_text u t ≡ s
        → ((sign_at u l ≡ true) × (is_op op o ≡ true)) ⊎ ((sign_at u l ≡ false) × (longest more l ≡ Some (op, c)))
        → (if w then false else (s || precedes op t more)) ≡ true → (precedes op t more ≡ true → longest more l ≡ Some (op, c) → sign_at t l ≡ false)
        → sign_at t l ≡ false
    by_test true q s e z n r = absurd cc
    by_test false q s e (inl z) n r = absurd (clash _ z.1 q)
    by_test false q true e (inr z) n r = subst (λ x. sign_at x l ≡ false) (text_is u t e) z.0
    by_test false q false e (inr z) n r = r n z.1

found_at : (op : Infix) (c : ℕ) (l : List Tok) → is_op inf.Cast (Some op) ≡ false → infix_at l ≡ Some (op, c) → longest entries l ≡ Some (op, c)
unfolding infix_at
found_at op c l n h = by_word (word_at (codes "as") l) h
  where
    by_word : (b : Bool) → (if b then Some (inf.Cast, 1) else longest entries l) ≡ Some (op, c) → longest entries l ≡ Some (op, c)
    by_word true i = absurd (
        let e : op ≡ inf.Cast = sym (ap (λ (p : Infix × ℕ). p.0) (some_is i)) in
        let r : true ≡ false = ap (λ z. is_op inf.Cast (Some z)) (sym e) ∙ n in cc)
    by_word false i = i

-- ---- operators that begin an expression too

record Starts (l : List Tok) : Type 0 where
  begin : begins_expr l ≡ true
  stops : ends_open_range false l ≡ false
  brace : brace_at l ≡ false

start_less : (s : Spacing) (l : List Tok) → sign_at (codes "<=") (punct 60 s ∷ l) ≡ false → sign_at (codes "<<=") (punct 60 s ∷ l) ≡ false → Starts (punct 60 s ∷ l)
unfolding asked
start_less spacing.Alone l h0 h1 = record { begin = refl; stops = refl; brace = refl }
start_less spacing.Joint l h0 h1 = record { begin = rw (h0, h1) refl; stops = rw (h0, h1) refl; brace = refl }

start_minus : (s : Spacing) (l : List Tok) → sign_at (codes "-=") (punct 45 s ∷ l) ≡ false → sign_at (codes "->") (punct 45 s ∷ l) ≡ false → Starts (punct 45 s ∷ l)
unfolding asked
start_minus spacing.Alone l h0 h1 = record { begin = refl; stops = refl; brace = refl }
start_minus spacing.Joint l h0 h1 = record { begin = rw (h0, h1) refl; stops = rw h0 refl; brace = refl }

start_star : (s : Spacing) (l : List Tok) → sign_at (codes "*=") (punct 42 s ∷ l) ≡ false → Starts (punct 42 s ∷ l)
unfolding asked
start_star spacing.Alone l h0 = record { begin = refl; stops = refl; brace = refl }
start_star spacing.Joint l h0 = record { begin = rw (h0) refl; stops = rw (h0) refl; brace = refl }

start_or : (s : Spacing) (l : List Tok) → sign_at (codes "|=") (punct 124 s ∷ l) ≡ false → Starts (punct 124 s ∷ l)
unfolding asked
start_or spacing.Alone l h0 = record { begin = refl; stops = refl; brace = refl }
start_or spacing.Joint l h0 = record { begin = rw (h0) refl; stops = rw (h0) refl; brace = refl }

start_and : (s : Spacing) (l : List Tok) → sign_at (codes "&=") (punct 38 s ∷ l) ≡ false → Starts (punct 38 s ∷ l)
unfolding asked
start_and spacing.Alone l h0 = record { begin = refl; stops = refl; brace = refl }
start_and spacing.Joint l h0 = record { begin = rw (h0) refl; stops = rw (h0) refl; brace = refl }

start_shift : (s : Spacing) (l : List Tok) → sign_at (codes "<<=") (punct 60 spacing.Joint ∷ punct 60 s ∷ l) ≡ false → Starts (punct 60 spacing.Joint ∷ punct 60 s ∷ l)
unfolding asked
start_shift spacing.Alone l h0 = record { begin = refl; stops = refl; brace = refl }
start_shift spacing.Joint l h0 = record { begin = rw (h0) refl; stops = rw (h0) refl; brace = refl }

start_or_or : (s : Spacing) (l : List Tok) → Starts (punct 124 spacing.Joint ∷ punct 124 s ∷ l)
unfolding asked
start_or_or spacing.Alone l = record { begin = refl; stops = refl; brace = refl }
start_or_or spacing.Joint l = record { begin = refl; stops = refl; brace = refl }

start_and_and : (s : Spacing) (l : List Tok) → Starts (punct 38 spacing.Joint ∷ punct 38 s ∷ l)
unfolding asked
start_and_and spacing.Alone l = record { begin = refl; stops = refl; brace = refl }
start_and_and spacing.Joint l = record { begin = refl; stops = refl; brace = refl }

start_range : (s : Spacing) (l : List Tok) → Starts (punct 46 spacing.Joint ∷ punct 46 s ∷ l)
unfolding asked
start_range spacing.Alone l = record { begin = refl; stops = refl; brace = refl }
start_range spacing.Joint l = record { begin = refl; stops = refl; brace = refl }

-- a sign of two puncts
sign_second : (a b : ℕ) (text : Text) (P : List Tok → Type 0) → ((s : Spacing) (l : List Tok) → P (punct a spacing.Joint ∷ punct b s ∷ l)) → (l : List Tok)
    → sign_at (a ∷ b ∷ text) l ≡ true → P l
unfolding sign_at
sign_second a b text P f l h = sign_first a (b ∷ text) (λ z. sign_at (a ∷ b ∷ text) z ≡ true → P z) first l h h
  where
    first : (s : Spacing) (r : List Tok) → sign_at (a ∷ b ∷ text) (punct a s ∷ r) ≡ true → P (punct a s ∷ r)
    first spacing.Alone r h = absurd (no (a == a) h)
      where
        no : (x : Bool) → x && false ≡ true → ⊥
        no true i = absurd cc
        no false i = absurd cc
    first spacing.Joint r h = sign_first b text (λ z. P (punct a spacing.Joint ∷ z)) f r (later (a == a) h)
      where
        later : (x : Bool) → x && (false || sign_at (b ∷ text) r) ≡ true → sign_at (b ∷ text) r ≡ true
        later true i = i
        later false i = absurd cc

starts_shl : (l : List Tok) (c : ℕ) → longest entries l ≡ Some (inf.Binary bin.Shl, c) → Starts l
unfolding precedes text_at is_once lacks same_text
starts_shl l c h = sign_second 60 60 [] (λ y. sign_at (codes "<<=") y ≡ false → Starts y) (λ s r. start_shift s r) l (own_text (inf.Binary bin.Shl) c entries l refl h) (passed (inf.Binary bin.Shl) c entries l (codes "<<=") refl h)

starts_lt : (l : List Tok) (c : ℕ) → longest entries l ≡ Some (inf.Binary bin.Lt, c) → Starts l
unfolding precedes text_at is_once lacks same_text
starts_lt l c h = sign_first 60 [] (λ y. sign_at (codes "<=") y ≡ false → sign_at (codes "<<=") y ≡ false → Starts y) (λ s r. start_less s r) l (own_text (inf.Binary bin.Lt) c entries l refl h) (passed (inf.Binary bin.Lt) c entries l (codes "<=") refl h) (passed (inf.Binary bin.Lt) c entries l (codes "<<=") refl h)

starts_sub : (l : List Tok) (c : ℕ) → longest entries l ≡ Some (inf.Binary bin.Sub, c) → Starts l
unfolding precedes text_at is_once lacks same_text
starts_sub l c h = sign_first 45 [] (λ y. sign_at (codes "-=") y ≡ false → sign_at (codes "->") y ≡ false → Starts y) (λ s r. start_minus s r) l (own_text (inf.Binary bin.Sub) c entries l refl h) (passed (inf.Binary bin.Sub) c entries l (codes "-=") refl h) (passed (inf.Binary bin.Sub) c entries l (codes "->") refl h)

starts_mul : (l : List Tok) (c : ℕ) → longest entries l ≡ Some (inf.Binary bin.Mul, c) → Starts l
unfolding precedes text_at is_once lacks same_text
starts_mul l c h = sign_first 42 [] (λ y. sign_at (codes "*=") y ≡ false → Starts y) (λ s r. start_star s r) l (own_text (inf.Binary bin.Mul) c entries l refl h) (passed (inf.Binary bin.Mul) c entries l (codes "*=") refl h)

starts_bit_or : (l : List Tok) (c : ℕ) → longest entries l ≡ Some (inf.Binary bin.BitOr, c) → Starts l
unfolding precedes text_at is_once lacks same_text
starts_bit_or l c h = sign_first 124 [] (λ y. sign_at (codes "|=") y ≡ false → Starts y) (λ s r. start_or s r) l (own_text (inf.Binary bin.BitOr) c entries l refl h) (passed (inf.Binary bin.BitOr) c entries l (codes "|=") refl h)

starts_bit_and : (l : List Tok) (c : ℕ) → longest entries l ≡ Some (inf.Binary bin.BitAnd, c) → Starts l
unfolding precedes text_at is_once lacks same_text
starts_bit_and l c h = sign_first 38 [] (λ y. sign_at (codes "&=") y ≡ false → Starts y) (λ s r. start_and s r) l (own_text (inf.Binary bin.BitAnd) c entries l refl h) (passed (inf.Binary bin.BitAnd) c entries l (codes "&=") refl h)

starts_or : (l : List Tok) (c : ℕ) → longest entries l ≡ Some (inf.Binary bin.Or, c) → Starts l
unfolding precedes text_at is_once lacks same_text
starts_or l c h = sign_second 124 124 [] (λ y. Starts y) (λ s r. start_or_or s r) l (own_text (inf.Binary bin.Or) c entries l refl h)

starts_and : (l : List Tok) (c : ℕ) → longest entries l ≡ Some (inf.Binary bin.And, c) → Starts l
unfolding precedes text_at is_once lacks same_text
starts_and l c h = sign_second 38 38 [] (λ y. Starts y) (λ s r. start_and_and s r) l (own_text (inf.Binary bin.And) c entries l refl h)

starts_half_open : (l : List Tok) (c : ℕ) → longest entries l ≡ Some (inf.Range limits.HalfOpen, c) → Starts l
unfolding precedes text_at is_once lacks same_text
starts_half_open l c h = sign_second 46 46 [] (λ y. Starts y) (λ s r. start_range s r) l (own_text (inf.Range limits.HalfOpen) c entries l refl h)

starts_closed : (l : List Tok) (c : ℕ) → longest entries l ≡ Some (inf.Range limits.Closed, c) → Starts l
unfolding precedes text_at is_once lacks same_text
starts_closed l c h = sign_second 46 46 (61 ∷ []) (λ y. Starts y) (λ s r. start_range s r) l (own_text (inf.Range limits.Closed) c entries l refl h)

lt_first : (s : Spacing) (l : List Tok) → sign_at (codes "<=") (punct 60 s ∷ l) ≡ false → lt.at (punct 60 s ∷ l) ≡ true
unfolding sign_at
lt_first spacing.Alone l h = refl
lt_first spacing.Joint l h = rw h refl

lt_second : (s : Spacing) (l : List Tok) → lt.at (punct 60 spacing.Joint ∷ punct 60 s ∷ l) ≡ true
unfolding sign_at
lt_second spacing.Alone l = refl
lt_second spacing.Joint l = refl

less_lt : (l : List Tok) (c : ℕ) → longest entries l ≡ Some (inf.Binary bin.Lt, c) → lt.at l ≡ true
unfolding precedes text_at is_once lacks same_text
less_lt l c h = sign_first 60 [] (λ y. sign_at (codes "<=") y ≡ false → lt.at y ≡ true) lt_first l (own_text (inf.Binary bin.Lt) c entries l refl h) (passed (inf.Binary bin.Lt) c entries l (codes "<=") refl h)

less_shl : (l : List Tok) (c : ℕ) → longest entries l ≡ Some (inf.Binary bin.Shl, c) → lt.at l ≡ true
unfolding precedes text_at is_once lacks same_text
less_shl l c h = sign_second 60 60 [] (λ y. lt.at y ≡ true) lt_second l (own_text (inf.Binary bin.Shl) c entries l refl h)

less_shl_assign : (l : List Tok) (c : ℕ) → longest entries l ≡ Some (inf.Binary bin.ShlAssign, c) → lt.at l ≡ true
unfolding precedes text_at is_once lacks same_text
less_shl_assign l c h = sign_second 60 60 (61 ∷ []) (λ y. lt.at y ≡ true) lt_second l (own_text (inf.Binary bin.ShlAssign) c entries l refl h)

level_class : (k : Infix) → level_of (class_of k) ≡ Some (level k)
level_class (inf.Binary bin.Add) = refl
level_class _ = refl

quiet_class : (k : Infix) → trails (class_of k) ≡ false
quiet_class (inf.Binary bin.Add) = refl
quiet_class _ = refl

op_front : (l : List Tok) (k : Infix) (c : ℕ) → infix_at l ≡ Some (k, c) → (v : Precedence) → takes_next v (class_of k) ≡ true → goes_on v l ≡ true
unfolding goes_on
op_front l k c h v t = rw h (rw (level_class k) at t)

no_trailer : (k : Infix) (P : Type 0) → trails (class_of k) ≡ true → P
no_trailer k P h = absurd (let r : true ≡ false = sym h ∙ quiet_class k in cc)

-- a list that an operator comes before is of the operator's class
pub front_operator : (l : List Tok) (k : Infix) (c : ℕ) → infix_at l ≡ Some (k, c) → Front (class_of k) l
front_operator l (inf.Binary bin.Sub) c h = let z = found_at (inf.Binary bin.Sub) c l refl h in let s = starts_sub l c z in record { op = op_front l (inf.Binary bin.Sub) c h; trailer = λ t. absurd cc; begin = λ t. s.begin; stops = λ t. s.stops; brace = λ t. s.brace; less = λ t. absurd cc }
front_operator l (inf.Binary bin.Mul) c h = let z = found_at (inf.Binary bin.Mul) c l refl h in let s = starts_mul l c z in record { op = op_front l (inf.Binary bin.Mul) c h; trailer = λ t. absurd cc; begin = λ t. s.begin; stops = λ t. s.stops; brace = λ t. s.brace; less = λ t. absurd cc }
front_operator l (inf.Binary bin.And) c h = let z = found_at (inf.Binary bin.And) c l refl h in let s = starts_and l c z in record { op = op_front l (inf.Binary bin.And) c h; trailer = λ t. absurd cc; begin = λ t. s.begin; stops = λ t. s.stops; brace = λ t. s.brace; less = λ t. absurd cc }
front_operator l (inf.Binary bin.Or) c h = let z = found_at (inf.Binary bin.Or) c l refl h in let s = starts_or l c z in record { op = op_front l (inf.Binary bin.Or) c h; trailer = λ t. absurd cc; begin = λ t. s.begin; stops = λ t. s.stops; brace = λ t. s.brace; less = λ t. absurd cc }
front_operator l (inf.Binary bin.BitAnd) c h = let z = found_at (inf.Binary bin.BitAnd) c l refl h in let s = starts_bit_and l c z in record { op = op_front l (inf.Binary bin.BitAnd) c h; trailer = λ t. absurd cc; begin = λ t. s.begin; stops = λ t. s.stops; brace = λ t. s.brace; less = λ t. absurd cc }
front_operator l (inf.Binary bin.BitOr) c h = let z = found_at (inf.Binary bin.BitOr) c l refl h in let s = starts_bit_or l c z in record { op = op_front l (inf.Binary bin.BitOr) c h; trailer = λ t. absurd cc; begin = λ t. s.begin; stops = λ t. s.stops; brace = λ t. s.brace; less = λ t. absurd cc }
front_operator l (inf.Binary bin.Shl) c h = let z = found_at (inf.Binary bin.Shl) c l refl h in let s = starts_shl l c z in record { op = op_front l (inf.Binary bin.Shl) c h; trailer = λ t. absurd cc; begin = λ t. s.begin; stops = λ t. s.stops; brace = λ t. s.brace; less = λ t. less_shl l c z }
front_operator l (inf.Binary bin.Lt) c h = let z = found_at (inf.Binary bin.Lt) c l refl h in let s = starts_lt l c z in record { op = op_front l (inf.Binary bin.Lt) c h; trailer = λ t. absurd cc; begin = λ t. s.begin; stops = λ t. s.stops; brace = λ t. s.brace; less = λ t. less_lt l c z }
front_operator l (inf.Binary bin.ShlAssign) c h = let z = found_at (inf.Binary bin.ShlAssign) c l refl h in record { op = op_front l (inf.Binary bin.ShlAssign) c h; trailer = λ t. absurd cc; begin = λ t. absurd cc; stops = λ t. absurd cc; brace = λ t. absurd cc; less = λ t. less_shl_assign l c z }
front_operator l (inf.Range limits.HalfOpen) c h = let z = found_at (inf.Range limits.HalfOpen) c l refl h in let s = starts_half_open l c z in record { op = op_front l (inf.Range limits.HalfOpen) c h; trailer = λ t. absurd cc; begin = λ t. s.begin; stops = λ t. s.stops; brace = λ t. s.brace; less = λ t. absurd cc }
front_operator l (inf.Range limits.Closed) c h = let z = found_at (inf.Range limits.Closed) c l refl h in let s = starts_closed l c z in record { op = op_front l (inf.Range limits.Closed) c h; trailer = λ t. absurd cc; begin = λ t. s.begin; stops = λ t. s.stops; brace = λ t. s.brace; less = λ t. absurd cc }
front_operator l d c h = record { op = op_front l d c h; trailer = λ t. absurd cc; begin = λ t. absurd cc; stops = λ t. absurd cc; brace = λ t. absurd cc; less = λ t. absurd cc }

-- ---- trailers and braces

open_group : (d : Delimiter) (i : _) (l : List Tok) → ends_open_range false (group d i ∷ l) ≡ false
unfolding sign_at word_at ends_open_range dot_at
open_group d i l = refl

front_group : (P : Delimiter → List Tok → Type 0) (d : Delimiter) (l : List Tok) (g : List Tok × List Tok) → group_at d l ≡ Some g
    → ((i : _) (r : List Tok) → P d (group d i ∷ r)) → P d l
unfolding group_at
front_group P d [] g h f = absurd cc
front_group P del.Parenthesis (group del.Parenthesis i ∷ l) g h f = f i l
front_group P del.Bracket (group del.Bracket i ∷ l) g h f = f i l
front_group P del.Brace (group del.Brace i ∷ l) g h f = f i l
front_group P del.None (group del.None i ∷ l) g h f = f i l
front_group _ _ _ g h f = absurd cc

pub front_call : (l : List Tok) (g : List Tok × List Tok) → group_at del.Parenthesis l ≡ Some g → Front next.Parenthesis l
unfolding trailer_at round_at bracket_at group_at begins_expr brace_at
front_call l g h = front_group (λ d z. Front next.Parenthesis z) del.Parenthesis l g h at_group
  where
    at_group : (i : _) (r : List Tok) → Front next.Parenthesis (group del.Parenthesis i ∷ r)
    at_group i r = record { op = λ v t. absurd cc; trailer = λ t. refl; begin = λ t. refl; stops = λ t. open_group del.Parenthesis i r; brace = λ t. refl; less = λ t. absurd cc }

pub front_index : (l : List Tok) (g : List Tok × List Tok) → group_at del.Bracket l ≡ Some g → Front next.Bracket l
unfolding trailer_at round_at bracket_at group_at begins_expr brace_at
front_index l g h = front_group (λ d z. Front next.Bracket z) del.Bracket l g h at_group
  where
    at_group : (i : _) (r : List Tok) → Front next.Bracket (group del.Bracket i ∷ r)
    at_group i r = record { op = λ v t. absurd cc; trailer = λ t. refl; begin = λ t. refl; stops = λ t. open_group del.Bracket i r; brace = λ t. refl; less = λ t. absurd cc }

pub front_block : (l : List Tok) (g : List Tok × List Tok) → group_at del.Brace l ≡ Some g → Front next.Block l
unfolding group_at begins_expr brace_at
front_block l g h = front_group (λ d z. Front next.Block z) del.Brace l g h at_group
  where
    at_group : (i : _) (r : List Tok) → Front next.Block (group del.Brace i ∷ r)
    at_group i r = record { op = λ v t. absurd cc; trailer = λ t. absurd cc; begin = λ t. refl; stops = λ t. open_group del.Brace i r; brace = λ t. refl; less = λ t. absurd cc }

last_true : (a b c d : Bool) → d ≡ true → a || (b || (c || d)) ≡ true
last_true false false false d h = h
last_true _ _ _ d h = refl

pub front_dot : (l : List Tok) → dot_at l ≡ true → Front next.Dot l
unfolding trailer_at
front_dot l h = record { op = λ v t. absurd cc; trailer = λ t. last_true (round_at l) (bracket_at l) (question_at l) (dot_at l) h; begin = λ t. absurd cc; stops = λ t. absurd cc; brace = λ t. absurd cc; less = λ t. absurd cc }

third_true : (a b c d : Bool) → c ≡ true → a || (b || (c || d)) ≡ true
third_true false false false d h = absurd cc
third_true _ _ _ d h = refl

pub front_question : (l : List Tok) → question_at l ≡ true → Front next.Question l
unfolding trailer_at
front_question l h = record { op = λ v t. absurd cc; trailer = λ t. third_true (round_at l) (bracket_at l) (question_at l) (dot_at l) h; begin = λ t. absurd cc; stops = λ t. absurd cc; brace = λ t. absurd cc; less = λ t. absurd cc }

-- after the value of a jump
pub front_jump : (n : Next) (l : List Tok) → Front next.Block l → Front next.Brace l
front_jump n l f = record { op = λ v t. absurd cc; trailer = λ t. absurd cc; begin = λ t. f.begin refl; stops = λ t. f.stops refl; brace = λ t. f.brace refl; less = λ t. absurd cc }

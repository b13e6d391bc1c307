-- Forms: how a part is read from the front of a list of tokens, and what is after a part that is there.
--
-- `reads f l` is the part at the front of l, and the tokens after it. `behind f x l` takes the tokens of x from
-- the front of l, from left to right, and gives the tokens after them. So `behind f x l ≡ Some n` says two things:
-- the tokens of l before n spell x, and n doesn't begin with a token by which x would go on.
use Rattle.std.specs.Prelude.{ℕ, zero, suc, Bool, true, false, not, if◌then◌else◌, List, [], ◌∷◌, ◌++◌, drop, Option, Some, None, is_some}
use Rattle.syn_lexer.specs.declared.front.Delimiter.{Delimiter}
use Rattle.syn_tokens.specs.Tok.{Tok, weight}
use Rattle.syn_tokens.specs.Front.{group_at}

abbrev pub Outcome : Type 0 → Type 0
Outcome A = Option (A × List Tok)

abbrev pub and_then : {A B : Type 0} → Outcome A → (A → List Tok → Outcome B) → Outcome B
and_then (Some p) f = f p.0 p.1
and_then None f = None

abbrev pub then_behind : {A : Type 0} → Option A → (A → Option (List Tok)) → Option (List Tok)
then_behind (Some m) f = f m
then_behind None f = None

pub record Form (A : Type 0) : Type 0 where
  pub reads : List Tok → Outcome A
  pub behind : A → List Tok → Option (List Tok)

abbrev pub Test : Type 0
Test = List Tok → Bool

-- ---- the combinators

-- nothing is read
abbrev pub never : {A : Type 0} → Form A
never = record { reads = λ l. None; behind = λ x l. None }

-- one of two forms, by what is in front
abbrev pub when : {A : Type 0} → Test → Form A → Form A → Form A
when at f g = record {
  reads = λ l. if at l then f.reads l else g.reads l;
  behind = λ x l. if at l then f.behind x l else g.behind x l;
}

-- a form that depends on how many tokens there are
abbrev pub by_size : {A : Type 0} → (List Tok → ℕ) → (ℕ → Form A) → Form A
by_size size f = record {
  reads = λ l. (f (size l)).reads l;
  behind = λ x l. (f (size l)).behind x l;
}

-- a fixed token of some puncts or one word
pub record Mark : Type 0 where
  pub at : Test
  pub count : ℕ

-- a mark, and then a part
abbrev pub mark : {A : Type 0} → Mark → Form A → Form A
mark m f = record {
  reads = λ l. if m.at l then f.reads (drop m.count l) else None;
  behind = λ x l. if m.at l then f.behind x (drop m.count l) else None;
}

-- two parts, the second by what the first is
abbrev pub then_by : {A B : Type 0} → Form A → (A → Form B) → Form (A × B)
then_by f g = record {
  reads = λ l. and_then (f.reads l) (λ x m. and_then ((g x).reads m) (λ y n. Some ((x, y), n)));
  behind = λ p l. then_behind (f.behind p.0 l) ((g p.0).behind p.1);
}

abbrev pub both : {A B : Type 0} → Form A → Form B → Form (A × B)
both f g = then_by f (λ x. g)

-- a part as another type shows it
abbrev pub shown : {A B : Type 0} → (A → B) → (B → Option A) → Form A → Form B
shown to from f = record {
  reads = λ l. and_then (f.reads l) (λ x n. Some (to x, n));
  behind = λ y l. then_behind (from y) (λ x. f.behind x l);
}

-- no token, and one value
abbrev pub pure : {A : Type 0} → A → (A → Bool) → Form A
pure x is = record {
  reads = λ l. Some (x, l);
  behind = λ y l. if is y then Some l else None;
}

-- a test of two values
abbrev pub if_same : {A : Type 0} → (A → A → Bool) → A → Outcome A → Option (List Tok)
if_same same x None = None
if_same same x (Some p) = if same x p.0 then Some p.1 else None

-- what is found in front, where values can be compared
abbrev pub leaf : {A : Type 0} → (A → A → Bool) → (List Tok → Outcome A) → Form A
leaf same found = record {
  reads = found;
  behind = λ x l. if_same same x (found l);
}

-- a group whose whole inside is a part
abbrev pub whole : {A : Type 0} → Outcome A → List Tok → Outcome A
whole None n = None
whole (Some (x, [])) n = Some (x, n)
whole (Some (x, t ∷ l)) n = None

abbrev pub inside_reads : {A : Type 0} → Form A → Option (List Tok × List Tok) → Outcome A
inside_reads f None = None
inside_reads f (Some g) = whole (f.reads g.0) g.1

abbrev pub ended : Option (List Tok) → List Tok → Option (List Tok)
ended None n = None
ended (Some []) n = Some n
ended (Some (t ∷ l)) n = None

abbrev pub inside_behind : {A : Type 0} → Form A → A → Option (List Tok × List Tok) → Option (List Tok)
inside_behind f x None = None
inside_behind f x (Some g) = ended (f.behind x g.0) g.1

abbrev pub inside : {A : Type 0} → Delimiter → Form A → Form A
inside d f = record {
  reads = λ l. inside_reads f (group_at d l);
  behind = λ x l. inside_behind f x (group_at d l);
}

-- ---- from these

abbrev pub case : {A : Type 0} → Mark → Form A → Form A → Form A
case m f g = when m.at (mark m f) g

abbrev pub group_case : {A : Type 0} → Delimiter → Form A → Form A → Form A
group_case d f g = when (λ l. is_some (group_at d l)) (inside d f) g

abbrev pub is_true : Bool → Bool
is_true b = b

-- is a mark there
abbrev pub flag : Mark → Form Bool
flag m = case m (pure true is_true) (pure false not)

abbrev pub is_none : {A : Type 0} → Option A → Bool
is_none None = true
is_none (Some x) = false

abbrev pub itself : {A : Type 0} → Option A → Option A
itself o = o

-- a part that is there where this test says so
abbrev pub maybe : {A : Type 0} → Test → Form A → Form (Option A)
maybe at f = when at (shown Some itself f) (pure None is_none)

-- a list after an element of it, and whether a separator ends it
abbrev pub is_end : {A : Type 0} → Bool → List A × Bool → Bool
is_end b ([], c) = if b then c else not c
is_end b (x ∷ xs, c) = false

abbrev pub cons : {A : Type 0} → A × (List A × Bool) → List A × Bool
cons (x, (xs, b)) = (x ∷ xs, b)

abbrev pub uncons : {A : Type 0} → List A × Bool → Option (A × (List A × Bool))
uncons ([], b) = None
uncons (x ∷ xs, b) = Some (x, (xs, b))

abbrev pub end : {A : Type 0} → Bool → Form (List A × Bool)
end b = pure ([], b) (is_end b)

-- a form that is made of itself
module _ {I : Type 0} {A : I → Type 0} (step : ((i : I) → Form (A i)) → (i : I) → Form (A i)) where
  unfoldable pub iterate : ℕ → (i : I) → Form (A i)
  iterate zero i = never
  iterate (suc n) i = step (iterate n) i

  -- as deep as there are tokens
  unfoldable pub fix : (i : I) → Form (A i)
  fix i = by_size weight (λ n. iterate (suc n) i)

-- elements with a mark between them, and perhaps one at the end; `stop` says where no element follows
module _ {A : Type 0} (m : Mark) (stop : Test) (f : Form A) where
  abbrev pub tail_step : (Unit {0} → Form (List A × Bool)) → Unit {0} → Form (List A × Bool)
  tail_step t i = case m (when stop (end true) (shown cons uncons (both f (t i)))) (end false)

  unfoldable pub tail : Form (List A × Bool)
  tail = fix {A = λ i. List A × Bool} tail_step tt

  unfoldable pub listed : Form (List A × Bool)
  listed = when stop (end false) (shown cons uncons (both f tail))

-- elements with a mark between them, one at least
abbrev pub prepend : {A : Type 0} → A × List A → List A
prepend (x, xs) = x ∷ xs

abbrev pub split_first : {A : Type 0} → List A → Option (A × List A)
split_first [] = None
split_first (x ∷ xs) = Some (x, xs)

abbrev pub is_nil : {A : Type 0} → List A → Bool
is_nil [] = true
is_nil (x ∷ xs) = false

module _ {A : Type 0} (m : Mark) (f : Form A) where
  abbrev pub more_step : (Unit {0} → Form (List A)) → Unit {0} → Form (List A)
  more_step t i = case m (shown prepend split_first (both f (t i))) (pure [] is_nil)

  unfoldable pub more : Form (List A)
  more = fix {A = λ i. List A} more_step tt

  abbrev pub joined : Form (List A)
  joined = shown prepend split_first (both f more)

-- a part, and then a mark
abbrev pub closed_by : {A : Type 0} → Mark → Form A → Form A
closed_by m f = shown (λ p. p.0) (λ x. Some (x, tt)) (both f (mark m (pure tt (λ (u : Unit {0}). true))))

-- what is read after these elements, and they
abbrev pub extend : {A : Type 0} → List A → Outcome (List A × Bool) → Outcome (List A × Bool)
extend found o = and_then o (λ p m. Some ((found ++ p.0, p.1), m))

unfoldable pub gathered : {A : Type 0} → Mark → Test → Form A → List A → List Tok → Outcome (List A × Bool)
gathered m stop f found l = extend found ((tail m stop f).reads l)

-- the same of a list that nothing ends but its last element
abbrev pub extend_more : {A : Type 0} → List A → Outcome (List A) → Outcome (List A)
extend_more found o = and_then o (λ xs m. Some (found ++ xs, m))

unfoldable pub gathered_more : {A : Type 0} → Mark → Form A → List A → List Tok → Outcome (List A)
gathered_more m f found l = extend_more found ((more m f).reads l)

-- Calls that are passed one thing after the other, and may change each.
use Rattle.std.specs.Prelude.{◌≡◌, List, [], ◌∷◌, map, Result, Ok, Err}
use denote.Ref.{Bor, MutBor}
use Rattle.syn_expr_spec.specs.Tree.{Tree}
use Rattle.syn_pat.specs.View.{PatView, guards_in}
use Rattle.syn_visit_kinds.specs.Nodes.{map_operands, operands_in}

-- a call that was passed what h shows as x may have answered r, and left there what h shows as y
pub record Change {E T R : Type 0} (h : E → T) (post : MutBor E → Result (Unit {0}) R → MutBor E → Type 0) (x : T) (r : Result (Unit {0}) R) (y : T) : Type 0 where
  pub old : MutBor E
  pub new : MutBor E
  pub shows : h old.now ≡ x
  pub leaves : h new.now ≡ y
  pub met : post old r new

-- the same of calls that are passed something else besides
pub record ChangeWith {E C T R : Type 0} (h : E → T) (post : MutBor E → Bor C → Result (Unit {0}) R → MutBor E → Type 0) (c : C) (x : T) (r : Result (Unit {0}) R) (y : T) : Type 0 where
  pub old : MutBor E
  pub new : MutBor E
  pub with : Bor C
  pub shows : h old.now ≡ x
  pub leaves : h new.now ≡ y
  pub passes : with.now ≡ c
  pub met : post old with r new

-- Each of a list is passed from left to right, and is then as its call left it. Where a call answers an error, that is the
-- answer, and those after it are as they were; else the answer is `Ok`.
pub data Changed {A R : Type 0} (call : A → Result (Unit {0}) R → A → Type 0) : List A → Result (Unit {0}) R → List A → Type 0 where
  ended : Changed call [] (Ok tt) []
  refused : {x y : A} {xs : List A} {e : R} → call x (Err e) y → Changed call (x ∷ xs) (Err e) (y ∷ xs)
  went : {x y : A} {xs ys : List A} {r : Result (Unit {0}) R} → call x (Ok tt) y → Changed call xs r ys → Changed call (x ∷ xs) r (y ∷ ys)

-- ---- nodes

-- t and u are the same but for their operands: with any k in the place of each they are one.
pub record SameAround (t u : Tree) : Type 0 where
  pub same : (k : Tree) → map_operands (λ _. k) u ≡ map_operands (λ _. k) t

-- Each operand of t is passed from left to right, and u is left.
pub record ChangedIn {R : Type 0} (call : Tree → Result (Unit {0}) R → Tree → Type 0) (t : Tree) (r : Result (Unit {0}) R) (u : Tree) : Type 0 where
  pub operands : Changed call (operands_in t) r (operands_in u)
  pub around : SameAround t u

-- Each guard of a pattern is passed so. The tree of a pattern has none of them.
pub record ChangedGuards {R : Type 0} (call : Tree → Result (Unit {0}) R → Tree → Type 0) (v : PatView) (r : Result (Unit {0}) R) (w : PatView) : Type 0 where
  pub guards : Changed call v.guards r w.guards
  pub tree : w.tree ≡ v.tree

-- a call that is passed a pattern along with c, and passes its guards on so
abbrev pub PassesGuards : {P C R : Type 0} → (P → PatView) → (Tree → Result (Unit {0}) R → Tree → Type 0) → (MutBor P → Bor C → Result (Unit {0}) R → MutBor P → Type 0) → C → Type 0
PassesGuards h call post c = (old new : MutBor _) (with : Bor _) (r : _) → with.now ≡ c → post old with r new → ChangedGuards call (h old.now) r (h new.now)

-- Each pattern in a pattern is passed so, which h shows: `olds` are in v and `news` in w, and else v and w are the same.
pub record ChangedPats {P R : Type 0} (h : P → PatView) (call : P → Result (Unit {0}) R → P → Type 0) (v : PatView) (r : Result (Unit {0}) R) (w : PatView) : Type 0 where
  pub olds : List P
  pub news : List P
  pub patterns : Changed call olds r news
  pub had : v.guards ≡ guards_in h olds
  pub has : w.guards ≡ guards_in h news
  pub rest : map (λ p. (h p).tree) news ≡ map (λ p. (h p).tree) olds → w.tree ≡ v.tree

-- ---- all nodes

-- Each of these nodes is rewritten from left to right: first those inside it, then itself. The first error is the answer, and
-- what comes after it is as it was.
pub data Rewritten {R : Type 0} (call : Tree → Result (Unit {0}) R → Tree → Type 0) : List Tree → Result (Unit {0}) R → List Tree → Type 0 where
  ended : Rewritten call [] (Ok tt) []
  inside : {t u : Tree} {ts : List Tree} {e : R} → Rewritten call (operands_in t) (Err e) (operands_in u) → SameAround t u → Rewritten call (t ∷ ts) (Err e) (u ∷ ts)
  itself : {t m u : Tree} {ts : List Tree} {e : R} → Rewritten call (operands_in t) (Ok tt) (operands_in m) → SameAround t m → call m (Err e) u → Rewritten call (t ∷ ts) (Err e) (u ∷ ts)
  went : {t m u : Tree} {ts us : List Tree} {r : Result (Unit {0}) R} → Rewritten call (operands_in t) (Ok tt) (operands_in m) → SameAround t m → call m (Ok tt) u → Rewritten call ts r us → Rewritten call (t ∷ ts) r (u ∷ us)

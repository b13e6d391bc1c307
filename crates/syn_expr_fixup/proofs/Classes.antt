-- What decides about an operand is the same for all operators of a level whose first tokens begin the same.
use Rattle.std.proofs.Common.{◌≡◌, Bool, true, false, not, ◌||◌, ◌&&◌, refl, sym, ap, ◌∙◌, subst}
use Rattle.std.specs.Prelude.{Option, Some, None}
use Rattle.std.proofs.Math.Bool.{and-false}
use Rattle.syn_expr_spec.specs.declared.kinds.BinKind.TheVariants as bin
use Rattle.syn_expr_spec.specs.declared.kinds.Infix.{Infix}
use Rattle.syn_expr_spec.specs.declared.kinds.Infix.TheVariants as inf
use Rattle.syn_expr_spec.specs.declared.kinds.Precedence.{Precedence}
use Rattle.syn_expr_spec.specs.declared.next.Context.{Context}
use Rattle.syn_expr_spec.specs.declared.next.Next.{Next}
use Rattle.syn_expr_spec.specs.declared.next.Next.TheVariants as next
use Rattle.syn_expr_spec.specs.Op.{level, is_comparison}
use Rattle.syn_expr_spec.specs.Next.{class_of, next_of, begins_next, is_block_next, is_brace_next, left_context, base_context}
use Rattle.syn_expr_spec.specs.Summaries.{summary_of, has, misplaced_by, wrapped_by, left_wrapped_by, base_wrapped_by}
use Rattle.syn_expr_spec.specs.Rule.{is_less_next, is_operation, bad, low, refuses, place_wrapped, left_wrapped, base_wrapped}
use Rattle.syn_expr_spec.specs.Tree as e
use Rattle.syn_expr_spec.specs.Tree.{Tree, Children, Prefix, Trailer, leaf, paren, attributed, prefixed, infixed, postfixed, tail, frame}
use Rattle.syn_expr_spec.proofs.SummaryLemmas.{summarized, wrapped_same, left_same, base_same}
use Rattle.syn_expr_fixup.specs.Fixup.{Fits, parenthesized}
use Rattle.syn_expr_fixup.specs.Operator.{operator_at}

-- ---- operators

abbrev IsLike : Option Infix → Infix → Type 0
IsLike None k = ⊥
IsLike (Some o) k = (class_of o ≡ class_of k) × (is_comparison o ≡ is_comparison k)

is_like : (k : Infix) → IsLike (operator_at (level k) (begins_next (class_of k)) (is_less_next (class_of k))) k
is_like (inf.Binary bin.Add) = (refl, refl)
is_like (inf.Binary bin.Sub) = (refl, refl)
is_like (inf.Binary bin.Mul) = (refl, refl)
is_like (inf.Binary bin.Div) = (refl, refl)
is_like (inf.Binary bin.Rem) = (refl, refl)
is_like (inf.Binary bin.And) = (refl, refl)
is_like (inf.Binary bin.Or) = (refl, refl)
is_like (inf.Binary bin.BitXor) = (refl, refl)
is_like (inf.Binary bin.BitAnd) = (refl, refl)
is_like (inf.Binary bin.BitOr) = (refl, refl)
is_like (inf.Binary bin.Shl) = (refl, refl)
is_like (inf.Binary bin.Shr) = (refl, refl)
is_like (inf.Binary bin.Eq) = (refl, refl)
is_like (inf.Binary bin.Lt) = (refl, refl)
is_like (inf.Binary bin.Le) = (refl, refl)
is_like (inf.Binary bin.Ne) = (refl, refl)
is_like (inf.Binary bin.Ge) = (refl, refl)
is_like (inf.Binary bin.Gt) = (refl, refl)
is_like (inf.Binary bin.AddAssign) = (refl, refl)
is_like (inf.Binary bin.SubAssign) = (refl, refl)
is_like (inf.Binary bin.MulAssign) = (refl, refl)
is_like (inf.Binary bin.DivAssign) = (refl, refl)
is_like (inf.Binary bin.RemAssign) = (refl, refl)
is_like (inf.Binary bin.BitXorAssign) = (refl, refl)
is_like (inf.Binary bin.BitAndAssign) = (refl, refl)
is_like (inf.Binary bin.BitOrAssign) = (refl, refl)
is_like (inf.Binary bin.ShlAssign) = (refl, refl)
is_like (inf.Binary bin.ShrAssign) = (refl, refl)
is_like inf.Assign = (refl, refl)
is_like (inf.Range op) = (refl, refl)
is_like inf.Cast = (refl, refl)

fits_like : (k : Infix) (v : Precedence) (b g : Bool) → Fits k v b g → IsLike (operator_at v b g) k
fits_like k v b g (p, q, r) = rw (sym p, sym q, sym r) (is_like k)

pub same_class : (k o : Infix) (v : Precedence) (b g : Bool) → Fits k v b g → operator_at v b g ≡ Some o → class_of o ≡ class_of k
same_class k o v b g f h = let a : IsLike (Some o) k = subst (λ r. IsLike r k) h (fits_like k v b g f) in a.0

pub same_comparison : (k o : Infix) (v : Precedence) (b g : Bool) → Fits k v b g → operator_at v b g ≡ Some o → is_comparison o ≡ is_comparison k
same_comparison k o v b g f h = let a : IsLike (Some o) k = subst (λ r. IsLike r k) h (fits_like k v b g f) in a.1

pub none_fits : (k : Infix) (v : Precedence) (b g : Bool) → Fits k v b g → operator_at v b g ≡ None → ⊥
none_fits k v b g f h = subst (λ r. IsLike r k) h (fits_like k v b g f)

-- ---- operands

pub left_level : (k o : Infix) (v : Precedence) (b g : Bool) (t : Tree) → Fits k v b g → operator_at v b g ≡ Some o
    → left_wrapped_by o (summary_of t) ≡ left_wrapped k t (bad t (class_of k))
left_level k o v b g t f h = let a = same_class k o v b g f h in let c = same_comparison k o v b g f h in rw (sym a, sym c) (left_same o (summary_of t) t (summarized t))

pub left_place : (k o : Infix) (v : Precedence) (b g : Bool) (c : Context) → Fits k v b g → operator_at v b g ≡ Some o → left_context o c ≡ left_context k c
left_place k o v b g c f h = let a = same_class k o v b g f h in rw a refl

-- the operator that was chosen, by itself

abbrev the_one : Infix → Option Infix → Infix
the_one d None = d
the_one d (Some o) = o

same_one : (k o : Infix) (r : Option Infix) → r ≡ Some k → r ≡ Some o → o ≡ k
same_one k o r h g = ap (the_one k) (sym g ∙ h)

pub chosen_level : (k o : Infix) (v : Precedence) (b g : Bool) (t : Tree) → operator_at v b g ≡ Some k → operator_at v b g ≡ Some o
    → left_wrapped_by o (summary_of t) ≡ left_wrapped k t (bad t (class_of k))
chosen_level k o v b g t h is = ap (λ q. left_wrapped_by q (summary_of t)) (same_one k o (operator_at v b g) h is) ∙ left_same k (summary_of t) t (summarized t)

pub chosen_context : (k o : Infix) (v : Precedence) (b g : Bool) (c : Context) → operator_at v b g ≡ Some k → operator_at v b g ≡ Some o → left_context o c ≡ left_context k c
chosen_context k o v b g c h is = ap (λ q. left_context q c) (same_one k o (operator_at v b g) h is)

pub none_chosen : (k : Infix) (v : Precedence) (b g : Bool) → operator_at v b g ≡ Some k → operator_at v b g ≡ None → ⊥
none_chosen k v b g h is = subst (λ r. IsLike r k) (sym h ∙ is) (refl, refl)

pub base_level : (k : Trailer) (t : Tree) → base_wrapped_by k (summary_of t) ≡ base_wrapped k t (bad t (next_of k))
base_level k t = base_same k (summary_of t) t (summarized t)

pub dot_level : (k : Trailer) (t : Tree) → next_of k ≡ next.Dot → base_wrapped e.await t (bad t next.Dot) ≡ base_wrapped k t (bad t next.Dot)
dot_level e.call t h = absurd cc
dot_level e.index t h = absurd cc
dot_level (e.method w a) t h = refl
dot_level (e.field m) t h = refl
dot_level e.await t h = refl
dot_level e.try_expr t h = absurd cc

pub dot_place : (k : Trailer) (c : Context) → next_of k ≡ next.Dot → base_context e.await c ≡ base_context k c
dot_place e.call c h = absurd cc
dot_place e.index c h = absurd cc
dot_place (e.method w a) c h = refl
dot_place (e.field m) c h = refl
dot_place e.await c h = refl
dot_place e.try_expr c h = absurd cc

pub place_level : (v : Precedence) (n : Next) (t : Tree) → wrapped_by v (summary_of t) n ≡ place_wrapped v t n (low t) (bad t n)
place_level v n t = wrapped_same v (summary_of t) t n (summarized t)

-- ---- a brace after a node is no operator and no trailer: what must not have it after it refuses it itself

no_block_behind : (k : Prefix) (gs : Children) (t : Tree) → bad (prefixed k gs t) next.Block ≡ false
no_block_behind (e.unary o) gs t = refl
no_block_behind (e.reference m) gs t = refl
no_block_behind (e.raw_addr m) gs t = refl
no_block_behind (e.range_to o) gs t = refl
no_block_behind (e.let_expr p) gs t = refl
no_block_behind (e.jump j) gs t = refl
no_block_behind (e.closure h) gs t = refl

no_block : (t : Tree) → bad t next.Block ≡ false
no_block (leaf k) = refl
no_block (paren m t) = refl
no_block (attributed a more t) = ap (λ b. not (is_operation t) && b) (no_block t) ∙ and-false (not (is_operation t))
no_block (prefixed k gs t) = no_block_behind k gs t
no_block (infixed x k y) = refl
no_block (postfixed x k) = refl
no_block (tail b k ks) = refl
no_block (frame k ks) = refl

no_brace_behind : (k : Prefix) (gs : Children) (t : Tree) → bad (prefixed k gs t) next.Brace ≡ false
no_brace_behind (e.unary o) gs t = refl
no_brace_behind (e.reference m) gs t = refl
no_brace_behind (e.raw_addr m) gs t = refl
no_brace_behind (e.range_to o) gs t = refl
no_brace_behind (e.let_expr p) gs t = refl
no_brace_behind (e.jump j) gs t = refl
no_brace_behind (e.closure h) gs t = refl

no_brace : (t : Tree) → bad t next.Brace ≡ false
no_brace (leaf k) = refl
no_brace (paren m t) = refl
no_brace (attributed a more t) = ap (λ b. not (is_operation t) && b) (no_brace t) ∙ and-false (not (is_operation t))
no_brace (prefixed k gs t) = no_brace_behind k gs t
no_brace (infixed x k y) = refl
no_brace (postfixed x k) = refl
no_brace (tail b k ks) = refl
no_brace (frame k ks) = refl

ended : (n : Next) (x y b : Bool) → (x ≡ (b || y)) → (is_block_next n || is_brace_next n ≡ true → b ≡ false) → ((is_block_next n || is_brace_next n) && x) ≡ ((is_block_next n || is_brace_next n) && y)
ended next.Block x y b h f = h ∙ ap (λ z. z || y) (f refl)
ended next.Brace x y b h f = h ∙ ap (λ z. z || y) (f refl)
ended _ x y b h f = refl

unended : (n : Next) (t : Tree) → is_block_next n || is_brace_next n ≡ true → bad t n ≡ false
unended next.Block t h = no_block t
unended next.Brace t h = no_brace t
unended _ t h = absurd cc

pub parenthesized_by : (c : Context) (t : Tree)
    → (misplaced_by c (summary_of t).sort || ((is_block_next c.next || is_brace_next c.next) && has (summary_of t).ends c.next)) ≡ parenthesized c t
parenthesized_by c t = let h = summarized t in rw (h.misplaced_is c, ended c.next (has (summary_of t).ends c.next) (refuses t c.next) (bad t c.next) (h.ends_is c.next) (unended c.next t)) refl

pub ruleset operands = (left_level, left_place, none_fits, chosen_level, chosen_context, none_chosen, base_level, place_level, parenthesized_by)

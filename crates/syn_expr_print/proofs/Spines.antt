-- Down nodes that begin with an operand, and up again.
use Rattle.std.proofs.Common.{◌≡◌, ℕ, ◌≤◌, Bool, true, false, List, [], ◌∷◌, ◌++◌, Some, refl, sym, ap, ◌∙◌, subst, append_assoc}
use Rattle.std.proofs.lemmas.List.{append-nil}
use Rattle.std.proofs.lemmas.Bool.{and_parts}
use denote.Ref.{Bor}
use Rattle.syn_tokens.specs.Tok.{Tok}
use Rattle.syn_lower_spec.specs.Form.{is_nil}
use Rattle.syn_expr_spec.specs.declared.next.Context.{Context}
use Rattle.syn_expr_spec.specs.declared.summary.Summary.{Summary}
use Rattle.syn_expr_spec.specs.Summaries.{summary_of, stack, below}
use Rattle.syn_expr_spec.specs.Stands.{is_attributed}
use Rattle.syn_expr_spec.specs.Tree.{Tree, Children, leaf, paren, attributed, prefixed, infixed, postfixed, tail, frame, none, child, size}
use Rattle.syn_expr_ast.specs.Label.{kind_at}
use Rattle.syn_expr_ast.specs.Node.{attributes_at, operands_at, based_by, first_of}
use Rattle.syn_expr_fixup.specs.Spine.{behind_below}
use Rattle.syn_expr_fixup.proofs.Nodes.{below_is}
use Rattle.syn_expr_fixup.proofs.Spines.{first_below}
use Rattle.syn_expr_print.specs.Printing.{core, spelled, spelled_in, EndsWith, IsBorrowed}
use Rattle.syn_expr_print.specs.Shape.{shape_at}
use Rattle.syn_expr_print.specs.Spine.{begins, is_next, first_place, first_wrapped, behind_spelled, behinds, lefts, Over}
use Rattle.syn_expr_print.specs.Taken.{Going, Taken}
use Rattle.syn_expr_print.specs.declared.print.Summaries.{Summaries}
use Rattle.syn_expr_print.proofs.Spellings.{infixed-spelled, postfixed-spelled, tail-spelled, spelled-bare}
use Rattle.syn_expr_print.proofs.Attributed.{plain-node}
use Rattle.syn_expr_print.proofs.Stacks.{ends_back}
use Rattle.syn_expr_print.proofs.Turns.{going-on}

-- ---- one node

first_tail : (b u : Tree) (ks : Children) → first_of (based_by b ks) ≡ Some u → b ≡ u
first_tail b u none h = cc
first_tail b u (child k c t ks) h = cc

bare_text : (c : Context) (t u : Tree) → is_attributed t ≡ false → begins (kind_at t) ≡ true → first_of (operands_at t) ≡ Some u
    → spelled c t ≡ spelled_in (first_wrapped t (first_place t c) (summary_of u)) (first_place t c) u ++ behind_spelled c t
bare_text c (infixed x op y) u n b h = let e : x ≡ u = cc in infixed-spelled c x op y ∙ ap (λ z. spelled_in (first_wrapped (infixed x op y) (first_place (infixed x op y) c) (summary_of z)) (first_place (infixed x op y) c) z ++ behind_spelled c (infixed x op y)) e
bare_text c (postfixed x k) u n b h = let e : x ≡ u = cc in postfixed-spelled c x k ∙ ap (λ z. spelled_in (first_wrapped (postfixed x k) (first_place (postfixed x k) c) (summary_of z)) (first_place (postfixed x k) c) z ++ behind_spelled c (postfixed x k)) e
bare_text c (tail x k ks) u n b h = let e = first_tail x u ks h in tail-spelled c x k ks ∙ ap (λ z. spelled_in (first_wrapped (tail x k ks) (first_place (tail x k ks) c) (summary_of z)) (first_place (tail x k ks) c) z ++ behind_spelled c (tail x k ks)) e
bare_text c (leaf k) u n b h = absurd cc
bare_text c (paren m t) u n b h = absurd cc
bare_text c (prefixed k gs t) u n b h = absurd cc
bare_text c (frame k ks) u n b h = absurd cc
bare_text c (attributed a more t) u n b h = absurd cc

-- its first operand, and what comes after it
pub spine_text : (c : Context) (t u : Tree) → IsBorrowed t → begins (kind_at t) ≡ true → first_of (operands_at t) ≡ Some u
    → spelled c (core t) ≡ spelled_in (first_wrapped t (first_place t c) (summary_of u)) (first_place t c) u ++ behind_spelled c t
spine_text c (attributed a more t) u l b h = bare_text c t u (ap is_attributed l ∙ plain-node (shape_at t) (operands_at t)) b h
spine_text c (infixed x op y) u l b h = bare_text c (infixed x op y) u refl b h
spine_text c (postfixed x k) u l b h = bare_text c (postfixed x k) u refl b h
spine_text c (tail x k ks) u l b h = bare_text c (tail x k ks) u refl b h
spine_text c (leaf k) u l b h = absurd cc
spine_text c (paren m t) u l b h = absurd cc
spine_text c (prefixed k gs t) u l b h = absurd cc
spine_text c (frame k ks) u l b h = absurd cc

pub spine_below : (t u : Tree) → first_of (operands_at t) ≡ Some u → below t ≡ behind_below (operands_at t) ++ stack u
spine_below t u h = sym (below_is t) ∙ first_below (operands_at t) u h

-- no attributes come before it
pub bare_core : (t : Tree) → is_nil (attributes_at t) ≡ true → core t ≡ t
bare_core (leaf k) h = refl
bare_core (paren m t) h = refl
bare_core (prefixed k gs t) h = refl
bare_core (infixed x k y) h = refl
bare_core (postfixed x k) h = refl
bare_core (tail b k ks) h = refl
bare_core (frame k ks) h = refl
bare_core (attributed a more t) h = absurd cc

-- the next node
pub next_bare : (w : Bool) (t : Tree) → is_next w t ≡ true → w ≡ false
next_bare true t h = absurd cc
next_bare false t h = refl

pub next_core : (w : Bool) (t : Tree) → is_next w t ≡ true → core t ≡ t
next_core true t h = absurd cc
next_core false t h = let (a, b) = and_parts (is_nil (attributes_at t)) (begins (kind_at t)) h in bare_core t a

pub next_begins : (w : Bool) (t : Tree) → is_next w t ≡ true → begins (kind_at t) ≡ true
next_begins true t h = absurd cc
next_begins false t h = let (a, b) = and_parts (is_nil (attributes_at t)) (begins (kind_at t)) h in b

-- the summaries of its first operand come first, and then those of what comes after it; `next` follows
pub first_left : (now : Summaries) (next : List Summary) (t u : Tree) → first_of (operands_at t) ≡ Some u → EndsWith now.left.items (next ++ below t) → EndsWith now.left.items (stack u)
first_left now next t u h e =
    let b = behind_below (operands_at t) in
    ends_back now.left.items (next ++ b) (stack u) (subst (λ z. EndsWith now.left.items z) (ap (λ z. next ++ z) (spine_below t u h) ∙ sym (append_assoc next b (stack u))) e)

pub first_going : (old now new : Summaries) (all next : List Summary) (t u : Tree) → first_of (operands_at t) ≡ Some u → Going old now all (next ++ below t) → Taken now new (summary_of u ∷ [])
    → Going old new all ((next ++ behind_below (operands_at t)) ++ below u)
first_going old now new all next t u h g k =
    let b = behind_below (operands_at t) in
    let e = ap (λ z. next ++ z) (spine_below t u h) ∙ sym (append_assoc next b (stack u)) ∙ sym (append_assoc (next ++ b) (below u) (summary_of u ∷ [])) in
    going-on old now new all ((next ++ b) ++ below u) (summary_of u ∷ []) (subst (λ z. Going old now all z) e g) k

-- ---- the nodes over it

module _ {E : Type 0} (see : E → Tree) where
  pub behinds_more : (qs : List (Bor E × Context)) (q : Bor E × Context) → behinds see (qs ++ q ∷ []) ≡ behind_spelled q.1 (see q.0.now) ++ behinds see qs
  behinds_more [] q = sym (append-nil (behind_spelled q.1 (see q.0.now)))
  behinds_more (p ∷ qs) q =
      ap (λ l. l ++ behind_spelled p.1 (see p.0.now)) (behinds_more qs q)
      ∙ append_assoc (behind_spelled q.1 (see q.0.now)) (behinds see qs) (behind_spelled p.1 (see p.0.now))

  pub lefts_more : (qs : List (Bor E × Context)) (q : Bor E × Context) → lefts see (qs ++ q ∷ []) ≡ lefts see qs ++ behind_below (operands_at (see q.0.now))
  lefts_more [] q = append-nil (behind_below (operands_at (see q.0.now)))
  lefts_more (p ∷ qs) q =
      ap (λ l. behind_below (operands_at (see p.0.now)) ++ l) (lefts_more qs q)
      ∙ sym (append_assoc (behind_below (operands_at (see p.0.now))) (lefts see qs) (behind_below (operands_at (see q.0.now))))

  pub over_more : (n : ℕ) (qs : List (Bor E × Context)) (q : Bor E × Context) → Over see n qs → begins (kind_at (see q.0.now)) ≡ true → size (see q.0.now) ≤ n → Over see n (qs ++ q ∷ [])
  over_more n [] q o b s = (b, s, o)
  over_more n (p ∷ qs) q (a, l, o) b s = (a, l, over_more n qs q o b s)

  pub record Innermost (n : ℕ) (qs : List (Bor E × Context)) (q : Bor E × Context) : Type 0 where
    pub over : Over see n qs
    pub begins_too : begins (kind_at (see q.0.now)) ≡ true
    pub small : size (see q.0.now) ≤ n

  pub over_last : (n : ℕ) (qs : List (Bor E × Context)) (q : Bor E × Context) → Over see n (qs ++ q ∷ []) → Innermost n qs q
  over_last n [] q (b, s, o) = record { over = o; begins_too = b; small = s }
  over_last n (p ∷ qs) q (a, l, o) = let r = over_last n qs q o in record { over = (a, l, r.over); begins_too = r.begins_too; small = r.small }

  -- a step down: what comes after the first operand is printed later
  pub down_text : (c p : Context) (t u : Tree) (qs : List (Bor E × Context)) (q : Bor E × Context) (all : List Tok) → IsBorrowed t → begins (kind_at t) ≡ true → first_of (operands_at t) ≡ Some u
      → first_wrapped t p (summary_of u) ≡ false → p ≡ first_place t c → core u ≡ u → see q.0.now ≡ t → q.1 ≡ c
      → spelled c (core t) ++ behinds see qs ≡ all → spelled p (core u) ++ behinds see (qs ++ q ∷ []) ≡ all
  down_text c p t u qs q all l b h w e n s d i =
      ap (λ z. spelled p z ++ behinds see (qs ++ q ∷ [])) n
      ∙ ap (λ z. spelled p u ++ z) (behinds_more qs q ∙ ap (λ z. behind_spelled z (see q.0.now) ++ behinds see qs) d ∙ ap (λ z. behind_spelled c z ++ behinds see qs) s)
      ∙ sym (append_assoc (spelled p u) (behind_spelled c t) (behinds see qs))
      ∙ ap (λ z. (z ++ behind_spelled c t) ++ behinds see qs) (sym (spelled-bare p u) ∙ ap (λ k. spelled_in k p u) (sym w) ∙ ap (λ z. spelled_in (first_wrapped t z (summary_of u)) z u) e)
      ∙ ap (λ z. z ++ behinds see qs) (sym (spine_text c t u l b h))
      ∙ i

  -- a step up: it is printed
  pub up_text : (now new all : List Tok) (qs : List (Bor E × Context)) (q : Bor E × Context) → new ≡ now ++ behind_spelled q.1 (see q.0.now) → now ++ behinds see (qs ++ q ∷ []) ≡ all → new ++ behinds see qs ≡ all
  up_text now new all qs q a h =
      ap (λ z. z ++ behinds see qs) a ∙ append_assoc now (behind_spelled q.1 (see q.0.now)) (behinds see qs) ∙ sym (ap (λ z. now ++ z) (behinds_more qs q)) ∙ h

  -- the summaries: down, that of the first operand is taken; up, those of what comes after it
  pub down_summaries : (old now new : Summaries) (all : List Summary) (t u : Tree) (qs : List (Bor E × Context)) (q : Bor E × Context) → first_of (operands_at t) ≡ Some u → see q.0.now ≡ t
      → Going old now all (lefts see qs ++ below t) → Taken now new (summary_of u ∷ []) → Going old new all (lefts see (qs ++ q ∷ []) ++ below u)
  down_summaries old now new all t u qs q h e g k =
      let more = ap (λ z. lefts see qs ++ behind_below (operands_at z)) (sym e) ∙ sym (lefts_more qs q) in
      subst (λ z. Going old new all (z ++ below u)) more (first_going old now new all (lefts see qs) t u h g k)

  pub up_summaries : (old now new : Summaries) (all : List Summary) (qs : List (Bor E × Context)) (q : Bor E × Context) → Going old now all (lefts see (qs ++ q ∷ [])) → Taken now new (behind_below (operands_at (see q.0.now))) → Going old new all (lefts see qs)
  up_summaries old now new all qs q g k = going-on old now new all (lefts see qs) (behind_below (operands_at (see q.0.now))) (subst (λ z. Going old now all z) (lefts_more qs q) g) k

  -- the innermost node: its first operand, and what comes after that
  pub last_text : (c p : Context) (w : Bool) (t u : Tree) (qs : List (Bor E × Context)) (now within new all : List Tok) → IsBorrowed t → begins (kind_at t) ≡ true → first_of (operands_at t) ≡ Some u
      → p ≡ first_place t c → w ≡ first_wrapped t p (summary_of u) → within ≡ now ++ spelled_in w p u → new ≡ within ++ behind_spelled c t
      → now ++ (spelled c (core t) ++ behinds see qs) ≡ all → new ++ behinds see qs ≡ all
  last_text c p w t u qs now within new all l b h e k m n i =
      let x = spelled_in w p u in
      let y = behind_spelled c t in
      ap (λ z. z ++ behinds see qs) (n ∙ ap (λ z. z ++ y) m ∙ append_assoc now x y)
      ∙ append_assoc now (x ++ y) (behinds see qs)
      ∙ ap (λ z. now ++ ((z ++ y) ++ behinds see qs)) (ap (λ w. spelled_in w p u) k ∙ ap (λ z. spelled_in (first_wrapped t z (summary_of u)) z u) e)
      ∙ ap (λ z. now ++ (z ++ behinds see qs)) (sym (spine_text c t u l b h))
      ∙ i

-- A tree that obeys the binding rules with its attributed operations in parentheses is printed so.
use Rattle.std.proofs.Common.{◌≡◌, Bool, true, false, not, ◌&&◌, ◌||◌, List, Some, None, refl, sym, ◌∙◌, ap, subst}
use Rattle.std.specs.Prelude.{if◌then◌else◌}
use Rattle.std.proofs.Math.Bool.{and-false}
use Rattle.std.proofs.lemmas.Bool.{or_parts, or_from}
use Rattle.syn_lower_spec.specs.Tree.{AttributeTree}
use Rattle.syn_expr_spec.specs.declared.kinds.Infix.{Infix}
use Rattle.syn_expr_spec.specs.declared.kinds.BinKind.{BinKind}
use Rattle.syn_expr_spec.specs.declared.kinds.BinKind.TheVariants as bin
use Rattle.syn_expr_spec.specs.declared.kinds.Infix.TheVariants as inf
use Rattle.syn_expr_spec.specs.declared.kinds.Precedence.{Precedence}
use Rattle.syn_expr_spec.specs.declared.kinds.Precedence.TheVariants as lev
use Rattle.syn_expr_spec.specs.declared.next.Next.{Next}
use Rattle.syn_expr_spec.specs.declared.next.Context.{Context}
use Rattle.syn_expr_spec.specs.Place.{takes}
use Rattle.syn_expr_spec.specs.Op.{level, is_comparison}
use Rattle.syn_expr_spec.specs.Next.{class_of, next_of, takes_next, trails, enclosed, in_statement, left_context, base_context, right_context, attributed_context, prefix_context, prefix_level, piece_context}
use Rattle.syn_expr_spec.specs.Stands.{is_range, is_cast, is_infix, carries, compares, is_base, is_if_expr}
use Rattle.syn_expr_spec.specs.Tree as e
use Rattle.syn_expr_spec.specs.Tree.{Tree, Children, Leaf, Prefix, Piece, Trailer, leaf, paren, attributed, prefixed, infixed, postfixed, tail, frame, none, child, postfix_op, is_silent}
use Rattle.syn_expr_spec.specs.Rule.{is_operation, prints_range, prints_carrier, refuses, misplaced, lower, ends_badly, is_bare_break, left_wrapped, base_wrapped, place_wrapped, low, bad, labelled, place_asks, left_asks, prefix_asks, put, is_chainable, is_plain_block, piece_put, bare, bare_children}
use Rattle.syn_expr_spec.specs.WellFormed.{is_verbatim_block}
use Rattle.syn_expr_spec.specs.Printed.{parenthesize_attributed, parenthesize_attributed_children}
use Rattle.syn_expr_spec.proofs.Bools.{lower_takes}
use Rattle.syn_expr_spec.proofs.Obeys.{Fits, FitsLeft, begins_label, Obeys, ObeysChildren}
use Rattle.syn_expr_spec.proofs.Edges.{prefix_next_is, not_cast}
use Rattle.syn_expr_spec.proofs.Parenthesized.{compares_stays, label_stays, base_stays, same_infix, same_tail, same_child}

-- ---- trees that have no marks, and whose blocks are where they must be bare

abbrev pub block_there : Piece → Tree → Bool
block_there e.chained t = is_if_expr t || is_verbatim_block t
block_there e.output_block t = is_verbatim_block t
block_there k t = true

abbrev mutual
  pub Proper : Tree → Type 0
  Proper (leaf k) = Unit {0}
  Proper (paren m t) = (m ≡ false) × Proper t
  Proper (attributed a more t) = Proper t
  Proper (prefixed k gs t) = Proper t
  Proper (infixed x k y) = Proper x × Proper y
  Proper (postfixed x k) = Proper x
  Proper (tail b k ks) = Proper b × ProperChildren ks
  Proper (frame k ks) = ProperChildren ks

  pub ProperChildren : Children → Type 0
  ProperChildren none = Unit {0}
  ProperChildren (child k c t ks) =
      (block_there k t ≡ true) × (is_silent k ≡ false → Proper t) × (is_silent k ≡ true → parenthesize_attributed t ≡ t) × ProperChildren ks

-- ---- places take what binds tightest

binary_small : (k : BinKind) → takes (level (inf.Binary k)) lev.Unambiguous ≡ true
binary_small bin.Add = refl
binary_small _ = refl

pub level_small : (k : Infix) → takes (level k) lev.Unambiguous ≡ true
level_small (inf.Binary k) = binary_small k
level_small _ = refl

pub prefix_small : (k : Prefix) → takes (prefix_level k) lev.Unambiguous ≡ true
prefix_small (e.unary op) = refl
prefix_small _ = refl

-- ---- what obeys is of the kind that is printed

-- by whether a pair comes after the attributes
abbrev ObeysBehind : Precedence → Context → Tree → Bool → Type 0
ObeysBehind v c t b =
    let u = put b (parenthesize_attributed t) (parenthesize_attributed t) in
    (is_operation u ≡ false) × Obeys v (attributed_context c) u

pub range_obeys : (t : Tree) (v : Precedence) (c : Context) → Obeys v c (parenthesize_attributed t) → prints_range t ≡ is_range (parenthesize_attributed t)
range_obeys (leaf k) v c i = refl
range_obeys (attributed a more t) v c i = go (λ h. range_obeys t v (attributed_context c) h) (is_operation t) refl i
  where
    go : (Obeys v (attributed_context c) (parenthesize_attributed t) → prints_range t ≡ is_range (parenthesize_attributed t)) → (b : Bool) → is_operation t ≡ b
        → ObeysBehind v c t b → false ≡ is_range (put b (parenthesize_attributed t) (parenthesize_attributed t))
    go again true o j = refl
    go again false o j = sym (or_parts (is_infix t) (prints_range t) o).1 ∙ again j.1
range_obeys _ v c i = refl

pub carrier_obeys : (t : Tree) (v : Precedence) (c : Context) → Obeys v c (parenthesize_attributed t)
    → prints_carrier t ≡ carries (parenthesize_attributed t) || is_cast (parenthesize_attributed t)
carrier_obeys (leaf k) v c i = refl
carrier_obeys (attributed a more t) v c i = go (λ h. carrier_obeys t v (attributed_context c) h) (is_operation t) i
  where
    go : (Obeys v (attributed_context c) (parenthesize_attributed t) → prints_carrier t ≡ carries (parenthesize_attributed t) || is_cast (parenthesize_attributed t))
        → (b : Bool) → ObeysBehind v c t b → b || prints_carrier t ≡ carries (put b (parenthesize_attributed t) (parenthesize_attributed t)) || false
    go again true j = refl
    go again false j = again j.1 ∙ ap (λ b. carries (parenthesize_attributed t) || b) (not_cast (parenthesize_attributed t) j.0)
carrier_obeys _ v c i = refl

no_label : (t : Tree) → begins_label t ≡ false → labelled t ≡ false
no_label (leaf k) h = h
no_label (infixed x k y) h = rw (no_label x h) (and-false _)
no_label (postfixed x k) h = rw (no_label x h) (and-false _)
no_label (tail b k ks) h = rw (no_label b h) (and-false _)
no_label (frame k ks) h = h
no_label _ h = refl

bare_break : (k : Prefix) (t : Tree) → is_bare_break k && begins_label (parenthesize_attributed t) ≡ false → is_bare_break k && labelled t ≡ false
bare_break k t h = go (is_bare_break k) h
  where
    go : (b : Bool) → b && begins_label (parenthesize_attributed t) ≡ false → b && labelled t ≡ false
    go true i = no_label t (sym (label_stays t) ∙ i)
    go false i = refl

-- ---- the edges, and the tree itself

pub place_bare : (v : Precedence) (t : Tree) (n : Next) (lo : Precedence) (b : Bool) → takes v lo ≡ true → b ≡ false → refuses t n ≡ false → place_wrapped v t n lo b ≡ false
place_bare v t n lo b h e f = rw (h, e, f) refl

pub left_bare : (k : Infix) (t : Tree) (b : Bool) → prints_range t ≡ false → compares t && is_comparison k ≡ false → b ≡ false → refuses t (class_of k) ≡ false
    → left_wrapped k t b ≡ false
left_bare k t b p q r s = rw (p, q, r, s) refl

pub base_bare : (k : Trailer) (t : Tree) (b : Bool) → is_base k t ≡ true → b ≡ false → refuses t (next_of k) ≡ false → base_wrapped k t b ≡ false
base_bare k t b p q r = rw (p, q, r) refl

pub put_bare : (w : Bool) (a b c : Tree) → w ≡ false → b ≡ c → put w a b ≡ c
put_bare w a b c e f = ap (λ x. put x a b) e ∙ f

pub ends_well : (v : Precedence) (t : Tree) (n : Next) (w : Bool) → w ≡ false → takes_next v n && not (prints_range t) ≡ false → trails n && prints_carrier t ≡ false
    → ends_badly v t n w ≡ false
ends_well v t n w e f g = rw (e, f, g) refl

pub record Tight (v : Precedence) (c : Context) (t : Tree) : Type 0 where
  pub edge : takes v (low t) ≡ true
  pub end : bad t c.next ≡ false
  pub refused : refuses t c.next ≡ false
  pub placed : misplaced c t ≡ false

pub record Kept (v : Precedence) (c : Context) (t : Tree) : Type 0 where
  pub tight : Tight v c t
  pub same : bare c t ≡ parenthesize_attributed t

pub not_wrapped : (v : Precedence) (c : Context) (t : Tree) → Tight v c t → place_wrapped v t c.next (low t) (bad t c.next) ≡ false
not_wrapped v c t k = place_bare v t c.next (low t) (bad t c.next) k.edge k.end k.refused

pub not_asked : (v : Precedence) (c : Context) (t : Tree) → Tight v c t → place_asks v c t ≡ false
not_asked v c t k = or_from _ _ (not_wrapped v c t k) k.placed

place_ends : (v : Precedence) (c : Context) (t : Tree) → Tight v c t → Obeys v c (parenthesize_attributed t) → Fits v (parenthesize_attributed t) c.next
    → (takes_next v c.next && not (prints_range t) ≡ false) × (trails c.next && prints_carrier t ≡ false)
place_ends v c t k i f = (
  ap (λ b. takes_next v c.next && not b) (range_obeys t v c i) ∙ f.no_operator,
  ap (λ b. trails c.next && b) (carrier_obeys t v c i) ∙ f.no_trailer,
)

kept_prefix : (k : Prefix) (gs : Children) (c : Context) (t : Tree) → Kept (prefix_level k) (prefix_context k c) t
    → Obeys (prefix_level k) (prefix_context k c) (parenthesize_attributed t) → Fits (prefix_level k) (parenthesize_attributed t) (prefix_context k c).next
    → is_bare_break k && begins_label (parenthesize_attributed t) ≡ false
    → (bad (prefixed k gs t) c.next ≡ false)
    × (put (prefix_asks k (prefix_context k c) t) (bare enclosed t) (bare (prefix_context k c) t) ≡ parenthesize_attributed t)
kept_prefix k gs c t h i f l =
    let w = not_wrapped (prefix_level k) (prefix_context k c) t h.tight in
    let b = bare_break k t l in
    let p = place_ends (prefix_level k) (prefix_context k c) t h.tight i f in (
      subst (λ (n : Next). ends_badly (prefix_level k) t n (place_wrapped (prefix_level k) t n (low t) (bad t n) || (is_bare_break k && labelled t)) ≡ false)
          (prefix_next_is k c) (ends_well (prefix_level k) t (prefix_context k c).next _ (or_from _ _ w b) p.0 p.1),
      put_bare _ (bare enclosed t) (bare (prefix_context k c) t) (parenthesize_attributed t) (or_from _ _ (or_from _ _ w h.tight.placed) b) h.same,
    )

kept_place : (v : Precedence) (c : Context) (t : Tree) → Kept v c t → Obeys v c (parenthesize_attributed t) → Fits v (parenthesize_attributed t) c.next
    → (ends_badly v t c.next (place_wrapped v t c.next (low t) (bad t c.next)) ≡ false)
    × (put (place_asks v c t) (bare enclosed t) (bare c t) ≡ parenthesize_attributed t)
kept_place v c t h i f =
    let p = place_ends v c t h.tight i f in (
      ends_well v t c.next _ (not_wrapped v c t h.tight) p.0 p.1,
      put_bare _ (bare enclosed t) (bare c t) (parenthesize_attributed t) (not_asked v c t h.tight) h.same,
    )

kept_left : (v : Precedence) (k : Infix) (c : Context) (x : Tree) → Kept v (left_context k c) x → Obeys v (left_context k c) (parenthesize_attributed x)
    → FitsLeft k (parenthesize_attributed x)
    → (left_wrapped k x (bad x (class_of k)) ≡ false)
    × (put (left_asks k (left_context k c) x) (bare enclosed x) (bare (left_context k c) x) ≡ parenthesize_attributed x)
kept_left v k c x h i f =
    let o = ap (λ b. b && is_comparison k) (sym (compares_stays x)) ∙ f.no_chain in
    let w = left_bare k x (bad x (class_of k)) (range_obeys x v (left_context k c) i ∙ f.no_range) o h.tight.end h.tight.refused in
    (w, put_bare _ (bare enclosed x) (bare (left_context k c) x) (parenthesize_attributed x) (or_from _ _ w h.tight.placed) h.same)

same_paren : (m : Bool) (t t' : Tree) → m ≡ false → t ≡ t' → paren false t ≡ paren m t'
same_paren m t t' p q = cc

low_kept : (v : Precedence) (k : Infix) (x : Tree) (w : Bool) → w ≡ false → takes v (level k) ≡ true → takes v (low x) ≡ true
    → takes v (lower (level k) (if w then lev.Unambiguous else low x)) ≡ true
low_kept v k x w e p q = rw e (lower_takes v (level k) (low x) p q)

-- an operand that is printed so
abbrev Same : Piece → Tree → Type 0
Same k t = piece_put k t (bare enclosed t) (bare (piece_context k) t) (put (place_asks lev.Jump in_statement t) (bare enclosed t) (bare in_statement t))
    (place_asks lev.Jump (piece_context k) t) ≡ parenthesize_attributed t

verbatim_block : (t : Tree) → is_verbatim_block t ≡ true → (bare enclosed t ≡ parenthesize_attributed t) × (is_plain_block t ≡ true)
verbatim_block (leaf (e.block None b)) h = (refl, h)
verbatim_block (leaf (e.block (Some w) b)) h = absurd cc
verbatim_block _ h = absurd cc

kept_chained : (t : Tree) → is_if_expr t || is_verbatim_block t ≡ true → bare enclosed t ≡ parenthesize_attributed t → Same e.chained t
kept_chained (leaf k) h s = rw (chainable_leaf k h) refl
  where
    chainable_leaf : (k : Leaf) → is_verbatim_block (leaf k) ≡ true → is_chainable (leaf k) ≡ true
    chainable_leaf (e.block w b) h = refl
    chainable_leaf _ h = absurd cc
kept_chained (frame e.if_expr ks) h s = s
kept_chained _ h s = absurd cc

kept_at : (t : Tree) (c : Context) → Kept lev.Jump c t → put (place_asks lev.Jump c t) (bare enclosed t) (bare c t) ≡ parenthesize_attributed t
kept_at t c k = put_bare _ (bare enclosed t) (bare c t) (parenthesize_attributed t) (not_asked lev.Jump c t k.tight) k.same

kept_child : (k : Piece) (t : Tree) → block_there k t ≡ true → (is_silent k ≡ false → Kept lev.Jump (piece_context k) t)
    → (is_silent k ≡ true → parenthesize_attributed t ≡ t) → Same k t
kept_child (e.field_value ats m false) t b h z = sym (z refl)
kept_child e.condition t b h z = kept_at t (piece_context e.condition) (h refl)
kept_child e.loop_head t b h z = kept_at t (piece_context e.loop_head) (h refl)
kept_child e.scrutinee t b h z = kept_at t (piece_context e.scrutinee) (h refl)
kept_child e.chained t b h z = kept_chained t b (h refl).same
kept_child e.guarded t b h z = kept_at t (piece_context e.guarded) (h refl)
kept_child (e.arm ats p) t b h z = kept_at t (piece_context (e.arm ats p)) (h refl)
kept_child e.output_block t b h z = let p = verbatim_block t b in rw p.1 p.0
kept_child e.stray t b h z = sym (z refl)
kept_child _ t b h z = kept_at t enclosed (h refl)

kept_attributes : (v : Precedence) (c : Context) (a : AttributeTree) (more : List AttributeTree) (t : Tree) → takes v lev.Unambiguous ≡ true
    → (b : Bool) → is_operation t ≡ b → (b ≡ true → bare enclosed t ≡ parenthesize_attributed t) → (b ≡ false → Kept v (attributed_context c) t)
    → Kept v c (attributed a more t)
kept_attributes v c a more t s true o f h =
    record {
      tight = record { edge = s; end = rw o refl; refused = rw o refl; placed = rw o refl };
      same = rw o (ap (λ u. attributed a more (paren true u)) (f refl));
    }
kept_attributes v c a more t s false o f h =
    let k = h refl in
    record {
      tight = record { edge = s; end = rw (o, k.tight.end) refl; refused = rw (o, k.tight.refused) refl; placed = rw (o, k.tight.placed) refl };
      same = rw o (ap (attributed a more) k.same);
    }

-- what is known of an operand after attributes, in the pair or without one
inside_pair : (v : Precedence) (c : Context) (t : Tree) (b : Bool) → ObeysBehind v c t b → b ≡ true → Obeys lev.Jump enclosed (parenthesize_attributed t)
inside_pair v c t true i h = i.1.0
inside_pair v c t false i h = absurd cc

without_pair : (v : Precedence) (c : Context) (t : Tree) (b : Bool) → ObeysBehind v c t b → b ≡ false → Obeys v (attributed_context c) (parenthesize_attributed t)
without_pair v c t true i h = absurd cc
without_pair v c t false i h = i.1

mutual
  pub kept : (t : Tree) (v : Precedence) (c : Context) → takes v lev.Unambiguous ≡ true → Proper t → Obeys v c (parenthesize_attributed t) → Kept v c t
  kept (leaf k) v c s u i =
      let p = or_parts _ _ i in record { tight = record { edge = s; end = refl; refused = p.0; placed = p.1 }; same = refl }
  kept (paren m t) v c s u i =
      record {
        tight = record { edge = s; end = refl; refused = refl; placed = refl };
        same = same_paren m (bare enclosed t) (parenthesize_attributed t) u.0 (kept t lev.Jump enclosed refl u.1 i.0).same;
      }
  kept (attributed a more t) v c s u i =
      kept_attributes v c a more t s (is_operation t) refl
      (λ h. (kept t lev.Jump enclosed refl u (inside_pair v c t (is_operation t) i h)).same)
      (λ h. kept t v (attributed_context c) s u (without_pair v c t (is_operation t) i h))
  kept (prefixed k gs t) v c s u i =
      let p = kept_prefix k gs c t (kept t (prefix_level k) (prefix_context k c) (prefix_small k) u i.1) i.1 i.2 i.3 in
      record { tight = record { edge = s; end = p.0; refused = refl; placed = i.0 }; same = ap (prefixed k gs) p.1 }
  kept (infixed x k y) v c s u i =
      let h = kept x v (left_context k c) s u.0 i.1 in
      let p = kept_left v k c x h i.1 i.2 in
      let q = kept_place (level k) (right_context k c) y (kept y (level k) (right_context k c) (level_small k) u.1 i.3) i.3 i.4 in
      record {
        tight = record { edge = low_kept v k x _ p.0 i.0 h.tight.edge; end = q.0; refused = refl; placed = refl };
        same = same_infix _ _ _ _ k p.1 q.1;
      }
  kept (postfixed x k) v c s u i =
      let h = kept x v (left_context (postfix_op k) c) s u i.1 in
      let p = kept_left v (postfix_op k) c x h i.1 i.2 in
      record {
        tight = record { edge = low_kept v (postfix_op k) x _ p.0 i.0 h.tight.edge; end = refl; refused = i.3; placed = refl };
        same = ap (λ z. postfixed z k) p.1;
      }
  kept (tail b k ks) v c s u i =
      let h = kept b v (base_context k c) s u.0 i.1 in
      let w = base_bare k b (bad b (next_of k)) (sym (base_stays k b) ∙ i.0) h.tight.end h.tight.refused in
      record {
        tight = record { edge = s; end = refl; refused = refl; placed = refl };
        same = same_tail _ _ _ _ k
            (put_bare _ (bare enclosed b) (bare (base_context k c) b) (parenthesize_attributed b) (or_from _ _ w h.tight.placed) h.same) (kept_children ks u.1 i.2);
      }
  kept (frame k ks) v c s u i =
      record { tight = record { edge = s; end = refl; refused = refl; placed = i.0 }; same = ap (frame k) (kept_children ks u i.1) }

  pub kept_children : (ks : Children) → ProperChildren ks → ObeysChildren (parenthesize_attributed_children ks) → bare_children ks ≡ parenthesize_attributed_children ks
  kept_children none u i = refl
  kept_children (child k c t ks) u i =
      same_child _ _ _ _ k c (kept_child k t u.0 (λ e. kept t lev.Jump (piece_context k) refl (u.1 e) (i.0 e)) u.2) (kept_children ks u.3 i.1)

-- in a position
pub kept_in : (t : Tree) (c : Context) → Proper t → Obeys lev.Jump c (parenthesize_attributed t)
    → put (place_asks lev.Jump c t) (bare enclosed t) (bare c t) ≡ parenthesize_attributed t
kept_in t c u i = kept_at t c (kept t lev.Jump c refl u i)

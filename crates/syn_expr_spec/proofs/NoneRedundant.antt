-- What stands has no marks, and is printed as it is, but for pairs round its attributed operations.
use Rattle.std.proofs.Common.{◌≡◌, ℕ, Bool, true, false, List, [], ◌∷◌, Option, Some, None, refl, sym, ◌∙◌, ap, subst}
use Rattle.std.specs.Prelude.{is_some}
use Rattle.std.proofs.lemmas.Bool.{or_left}
use Rattle.syn_lexer.specs.declared.front.Delimiter.TheVariants as del
use Rattle.syn_tokens.specs.Tok.{Tok}
use Rattle.syn_tokens.specs.Front.{group_at}
use Rattle.syn_lower_spec.specs.Pat.{an_index, a_name}
use Rattle.syn_lower_spec.specs.Mark.{brace_at}
use Rattle.syn_lower_spec.proofs.Weights.{some_is}
use Rattle.syn_expr_spec.specs.declared.kinds.Precedence.TheVariants as lev
use Rattle.syn_expr_spec.specs.declared.kinds.Place.{Place}
use Rattle.syn_expr_spec.specs.declared.next.Next.TheVariants as next
use Rattle.syn_expr_spec.specs.declared.next.Context.{Context}
use Rattle.syn_expr_spec.specs.Place.{plain, before_block, at_head}
use Rattle.syn_expr_spec.specs.Next.{enclosed, in_condition, in_arm}
use Rattle.syn_expr_spec.specs.Slot.{Slot, Holder}
use Rattle.syn_expr_spec.specs.Stands.{Node, is_paren, is_attributed_by, is_prefixed, is_infixed, is_postfixed, is_tail, is_indexed, is_frame, Content, holds_none, holds_within, holds_bare, Operands, no_more, one_more, short, block, arms_inside, fields_of, ends_piece, short_value, takes_block, Stands}
use Rattle.syn_expr_spec.specs.Tree as e
use Rattle.syn_expr_spec.specs.Tree.{Tree, Children, Piece, tail, none, plain_block, is_silent, own, fill, clear}
use Rattle.syn_expr_spec.specs.Rule.{place_asks, put, bare}
use Rattle.syn_expr_spec.specs.Printed.{Position, in_plain, as_statement, as_condition, as_arm, allows, context_of, place_of, is_minimal, plainly_attributed, parenthesize_attributed, NoneRedundant, printed_in}
use Rattle.syn_expr_spec.proofs.Kept.{block_there, Proper, ProperChildren, kept_in}
use Rattle.syn_expr_spec.proofs.ShownFronts.{Front, front_end, front_block}
use Rattle.syn_expr_spec.proofs.ShownParts.{Agrees, agrees_plain, agrees_condition, agrees_arm}
use Rattle.syn_expr_spec.proofs.Shown.{shown, At, is_possible}
use Rattle.syn_expr_spec.proofs.ShownTypes.{open_types}
use Rattle.syn_expr_spec.proofs.Obeys.{Obeys}
use Rattle.syn_expr_spec.proofs.Parenthesized.{plain_stays}
use Rattle.syn_expr_spec.proofs.FillIns.{fill_clear, plainly_fill}
use Rattle.syn_expr_spec.proofs.Promise.{printed_stands}
use Rattle.syn_expr_spec.specs.Minimal.{OneLess}
use Rattle.syn_expr_spec.specs.WellFormed.{is_well_formed}
use Rattle.syn_expr_spec.proofs.Formed.{formed_fill}
use Rattle.syn_expr_spec.proofs.Unclear.{unclear}
use Rattle.syn_expr_spec.proofs.NeededPairs.{needed_in}

ends_there : (k : Piece) (x : Tree) (n : List Tok) → ends_piece k x n ≡ true → block_there k x ≡ true
ends_there e.chained x n h = or_left _ _ h
ends_there e.output_block x n h = absurd cc
ends_there _ x n h = refl

short_there : (k : Piece) (x : Tree) → short_value k ≡ Some x → (block_there k x ≡ true) × (is_silent k ≡ true) × (parenthesize_attributed x ≡ x)
short_there (e.field_value ats (a_name w) false) x h = (refl, refl, subst (λ z. parenthesize_attributed z ≡ z) (some_is h) refl)
short_there _ x h = absurd cc

block_is_there : (k : Piece) (i : List Tok) → takes_block k ≡ true → block_there k (plain_block i) ≡ true
block_is_there e.chained i h = refl
block_is_there e.output_block i h = refl
block_is_there _ i h = absurd cc

proper_fields : (is : List ℕ) (b : Tree) → Proper b → Proper (fields_of b is)
proper_fields [] b h = h
proper_fields (i ∷ is) b h = proper_fields is (tail b (e.field (an_index i)) none) (h, tt)

silent : (b : Bool) (P : Type 0) → b ≡ true → b ≡ false → P
silent b P h k = absurd (let r : true ≡ false = sym h ∙ k in cc)

mutual
  pub proper : {p : Place} {l n : List Tok} {x : Tree} → Node p l x n → Proper x
  proper (is_paren d q r) = (refl, proper d)
  proper (is_attributed_by f g d) = proper d
  proper (is_prefixed f g d q r) = proper d
  proper (is_infixed d q r i t o d2 u v w) = (proper d, proper d2)
  proper (is_postfixed d q r i t u o w) = proper d
  proper (is_tail {b = b} {is = is} d f t o q) = (subst Proper (sym q) (proper_fields is b (proper d)), proper_content o)
  proper (is_indexed {b = b} {i = i} {is = is} d f t q) = subst Proper (sym q) (proper_fields (i ∷ is) b (proper d))
  proper (is_frame f o g e) = proper_content o
  proper _ = tt

  proper_content : {h : Holder} {l n : List Tok} {ks : Children} → Content h l ks n → ProperChildren ks
  proper_content holds_none = tt
  proper_content (holds_within g o q) = proper_operands o
  proper_content (holds_bare o) = proper_operands o

  proper_operands : {s : Slot} {l o : List Tok} {ks : Children} → Operands s l ks o → ProperChildren ks
  proper_operands (no_more q) = tt
  proper_operands (one_more {h = h} {k = k} {x = x} f g d q t more) = (ends_there k x h q, (λ e. proper d), (λ e. silent _ _ e g), proper_operands more)
  proper_operands (short {k = k} {x = x} f g t more) =
      let r = short_there k x g in (r.0, (λ e. silent _ _ r.1 e), (λ e. r.2), proper_operands more)
  proper_operands (block {i = i} {k = k} f g t more) = (block_is_there k i g, (λ e. tt), (λ e. refl), proper_operands more)
  proper_operands (arms_inside d q r g u more) = (refl, (λ e. proper d), (λ e. absurd cc), proper_operands more)

pub front_brace : (l : List Tok) → brace_at l ≡ true → Front next.Block l
unfolding brace_at
front_brace l h = go (group_at del.Brace l) refl h
  where
    go : (o : Option (List Tok × List Tok)) → group_at del.Brace l ≡ o → is_some o ≡ true → Front next.Block l
    go None q h = absurd cc
    go (Some g) q h = front_block l g q

-- What stands is printed with no parentheses but round attributed operations, in each position that is sparing.
pairs_in : (p : Place) (c : Context) (x : Tree) (l n : List Tok) → p.level ≡ lev.Jump → is_possible p ≡ true → Agrees p c → Front c.next n → At c l x → Node p l x n
    → put (place_asks lev.Jump c x) (bare enclosed x) (bare c x) ≡ parenthesize_attributed x
pairs_in p c x l n v w m f b d = kept_in x c (proper d) (subst (λ z. Obeys z c (parenthesize_attributed x)) v (shown open_types d w c m f b))

pub pairs_there : (s : Position) (x : Tree) (l r : List Tok) → is_minimal s ≡ true → allows s r ≡ true → Node (place_of s) l x r
    → put (place_asks lev.Jump (context_of s) x) (bare enclosed x) (bare (context_of s) x) ≡ parenthesize_attributed x
pairs_there in_plain x l r v h d = pairs_in plain enclosed x l r refl refl agrees_plain (front_end r) (refl, refl) d
pairs_there as_statement x l r v h d = absurd cc
pairs_there as_condition x l r v h d = pairs_in before_block in_condition x l r refl refl agrees_condition (front_brace r h) (refl, refl) d
pairs_there as_arm x l r v h d = pairs_in at_head in_arm x l r refl refl agrees_arm (front_end r) (refl, refl) d

pub bare_there : (s : Position) (x : Tree) (l r : List Tok) → is_minimal s ≡ true → allows s r ≡ true → plainly_attributed x ≡ true → Node (place_of s) l x r
    → put (place_asks lev.Jump (context_of s) x) (bare enclosed x) (bare (context_of s) x) ≡ x
bare_there s x l r v h a d = pairs_there s x l r v h d ∙ plain_stays x a

pub none_redundant : NoneRedundant
none_redundant s t r w m a v h = (
  λ q. subst (λ x. Stands (place_of s) (own (fill t) r) x r) (sym (fill_clear t) ∙ ap fill m)
      (subst (λ x. Stands (place_of s) (own x r) (clear x) r) q (printed_stands s t r w h).1),
  λ d. bare_there s (fill t) (own (fill t) r) r v h (plainly_fill t ∙ a) d.node,
)

-- ---- with one added pair less, no list stands for the tree

obeys_plain : (x : Tree) (c : Context) → plainly_attributed x ≡ true → Obeys lev.Jump c (parenthesize_attributed x) → Obeys lev.Jump c x
obeys_plain x c a h = subst (λ z. Obeys lev.Jump c z) (plain_stays x a) h

obeys_there : (s : Position) (x : Tree) (l r : List Tok) → is_minimal s ≡ true → allows s r ≡ true → plainly_attributed x ≡ true → Node (place_of s) l x r
    → Obeys lev.Jump (context_of s) x
obeys_there in_plain x l r v h a d = obeys_plain x _ a (shown open_types d refl enclosed agrees_plain (front_end r) (refl, refl))
obeys_there as_statement x l r v h a d = absurd cc
obeys_there as_condition x l r v h a d = obeys_plain x _ a (shown open_types d refl in_condition agrees_condition (front_brace r h) (refl, refl))
obeys_there as_arm x l r v h a d = obeys_plain x _ a (shown open_types d refl in_arm agrees_arm (front_end r) (refl, refl))

-- `a` is to follow from what is said of t: one pair less leaves the tree plainly attributed
pub no_pair_where_plain : (s : Position) (t q : Tree) (l r : List Tok) → is_well_formed t ≡ true → plainly_attributed (clear q) ≡ true
    → is_minimal s ≡ true → allows s r ≡ true → OneLess (printed_in s t) q → Stands (place_of s) l (clear q) r → ⊥
unfolding is_well_formed
no_pair_where_plain s t q l r w a v h o d =
    needed_in (fill t) q (context_of s) (formed_fill t w) o (unclear q lev.Jump (context_of s) (obeys_there s (clear q) l r v h a d.node))

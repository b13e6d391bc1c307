-- What is seen of the tokens after a node.
use Rattle.std.proofs.Common.{◌≡◌, ℕ, Bool, true, false, not, ◌||◌, List, [], ◌∷◌, Option, Some, None, refl, ap, codes}
use Rattle.syn_lexer.specs.declared.front.Delimiter.TheVariants as del
use Rattle.syn_lexer.specs.declared.front.Spacing.{Spacing}
use Rattle.syn_lexer.specs.declared.front.Spacing.TheVariants as spacing
use Rattle.syn_tokens.specs.Tok.{Tok, Inside, ident, punct, group}
use Rattle.syn_tokens.specs.Front.{group_at}
use Rattle.syn_lower_spec.specs.Mark.{sign_at, word_at, lifetime_at, brace_at, round_at, lt, not_ne}
use Rattle.syn_lower_spec.specs.Own.{alone, joint}
use Rattle.syn_lower_spec.specs.Ends.{ends_types}
use Rattle.syn_expr_spec.specs.declared.kinds.BinKind.TheVariants as bin
use Rattle.syn_expr_spec.specs.declared.kinds.Limits.TheVariants as limits
use Rattle.syn_expr_spec.specs.declared.kinds.Infix.{Infix}
use Rattle.syn_expr_spec.specs.declared.kinds.Infix.TheVariants as inf
use Rattle.syn_expr_spec.specs.declared.kinds.Precedence.{Precedence}
use Rattle.syn_expr_spec.specs.declared.next.Next.{Next}
use Rattle.syn_expr_spec.specs.declared.next.Next.TheVariants as next
use Rattle.syn_expr_spec.specs.Op.{level, infix_at, goes_on, takes_by}
use Rattle.syn_expr_spec.specs.Front.{begins_expr, sign_begins, ends_open_range, trailer_at, bracket_at, dot_at, question_at, left_arrow_at, three_dots_at}
use Rattle.syn_expr_spec.specs.Next.{class_of, next_of, level_of, takes_next, trails, begins_next, is_block_next, is_brace_next}
use Rattle.syn_expr_spec.specs.Rule.{is_less_next}
use Rattle.syn_expr_spec.specs.Tree as e
use Rattle.syn_expr_spec.specs.Tree.{Trailer, infix_own, trailer_own}

-- what is asked of the next tokens, for a proof that computes it
looking : Bool
unfolding infix_at trailer_at bracket_at dot_at question_at begins_expr sign_begins ends_open_range left_arrow_at three_dots_at sign_at word_at lifetime_at brace_at round_at group_at ends_types
looking = true

-- all that is asked of the front of a list
pub record Seen : Type 0 where
  pub operator : Option Precedence
  pub dots : Bool
  pub arrow : Bool
  pub trailer : Bool
  pub round : Bool
  pub brace : Bool
  pub begins : Bool
  pub stops : Bool
  pub colon : Bool
  pub colon2 : Bool
  pub bang : Bool
  pub pound : Bool
  pub lifetime : Bool
  pub less : Bool
  pub types : Bool
  pub mutable : Bool
  pub constant : Bool
  pub otherwise : Bool

abbrev pub level_at : Option (Infix × ℕ) → Option Precedence
level_at None = None
level_at (Some p) = Some (level p.0)

abbrev pub look : List Tok → Seen
look l = record {
  operator = level_at (infix_at l);
  dots = three_dots_at l;
  arrow = left_arrow_at l;
  trailer = trailer_at l;
  round = round_at l;
  brace = brace_at l;
  begins = begins_expr l;
  stops = ends_open_range false l;
  colon = sign_at (codes ":") l;
  colon2 = sign_at (codes "::") l;
  bang = not_ne.at l;
  pound = sign_at (codes "#") l;
  lifetime = lifetime_at l;
  less = lt.at l;
  types = ends_types l;
  mutable = word_at (codes "mut") l;
  constant = word_at (codes "const") l;
  otherwise = word_at (codes "else") l;
}

abbrev pub is_round_next : Next → Bool
is_round_next next.Parenthesis = true
is_round_next _ = false

-- what is seen of a list of the class
abbrev pub seen : Next → Seen
seen n = record {
  operator = level_of n;
  dots = false;
  arrow = false;
  trailer = trails n;
  round = is_round_next n;
  brace = is_block_next n || is_brace_next n;
  begins = begins_next n;
  stops = not (begins_next n);
  colon = false;
  colon2 = false;
  bang = false;
  pound = false;
  lifetime = false;
  less = is_less_next n;
  types = not (is_less_next n || is_round_next n);
  mutable = false;
  constant = false;
  otherwise = false;
}

pub record Shows (n : Next) (l : List Tok) : Type 0 where
  pub same : look l ≡ seen n

takes_at : (v : Precedence) (o : Option (Infix × ℕ)) (w : Next) → level_at o ≡ level_of w → takes_by v o ≡ takes_next v w
takes_at v None w h = rw (← h) refl
takes_at v (Some p) w h = rw (← h) refl

pub shows_op : (n : Next) (l : List Tok) → Shows n l → (v : Precedence) → goes_on v l ≡ takes_next v n
unfolding goes_on
shows_op n l s v = takes_at v (infix_at l) n (ap (λ x. x.operator) s.same)

pub shows_nothing : Shows next.End []
unfolding looking
shows_nothing = record { same = refl }

pub shows_comma : (s : Spacing) (l : List Tok) → Shows next.End (punct 44 s ∷ l)
unfolding looking
shows_comma spacing.Joint (ident w ∷ l) = record { same = refl }
shows_comma _ _ = record { same = refl }

pub shows_semi : (s : Spacing) (l : List Tok) → Shows next.End (punct 59 s ∷ l)
unfolding looking
shows_semi spacing.Joint (ident w ∷ l) = record { same = refl }
shows_semi _ _ = record { same = refl }

pub shows_fat_arrow : (l : List Tok) → Shows next.End (joint 61 ∷ alone 62 ∷ l)
unfolding looking
shows_fat_arrow l = record { same = refl }

pub shows_block : (i : Inside) (l : List Tok) → Shows next.Block (group del.Brace i ∷ l)
unfolding looking
shows_block i l = record { same = refl }

pub shows_trailer : (k : Trailer) (i l : List Tok) → Shows (next_of k) (trailer_own k i l)
unfolding looking
shows_trailer e.call i l = record { same = refl }
shows_trailer _ i l = record { same = refl }

pub shows_operator : (k : Infix) (l : List Tok) → Shows (class_of k) (infix_own k l)
unfolding looking
shows_operator (inf.Binary bin.Add) l = record { same = refl }
shows_operator (inf.Range limits.HalfOpen) l = record { same = refl }
shows_operator _ l = record { same = refl }

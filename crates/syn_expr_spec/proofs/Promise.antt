-- The printed tree stands for its own tokens, in each position and before whatever may follow there.
use Rattle.std.proofs.Common.{◌≡◌, Bool, true, false, ◌||◌, List, [], ◌∷◌, refl, subst}
use Rattle.syn_lexer.specs.declared.front.Delimiter.TheVariants as del
use Rattle.syn_tokens.specs.Tok.{Tok, group}
use Rattle.syn_tokens.specs.Front.{group_at, is_empty}
use Rattle.syn_lower_spec.specs.Mark.{brace_at, comma, semi}
use Rattle.syn_lower_spec.proofs.Ends.{sign_first}
use Rattle.syn_expr_spec.specs.declared.kinds.Precedence.TheVariants as lev
use Rattle.syn_expr_spec.specs.declared.kinds.Place.{Place}
use Rattle.syn_expr_spec.specs.declared.next.Next.TheVariants as next
use Rattle.syn_expr_spec.specs.declared.next.Context.{Context}
use Rattle.syn_expr_spec.specs.Place.{plain, before_block, at_head}
use Rattle.syn_expr_spec.specs.Next.{enclosed, in_statement, in_condition, in_arm}
use Rattle.syn_expr_spec.specs.Stands.{Stands}
use Rattle.syn_expr_spec.specs.Tree.{Tree, own, clear, fill}
use Rattle.syn_expr_spec.specs.Rule.{printed}
use Rattle.syn_expr_spec.specs.WellFormed.{well, is_well_formed}
use Rattle.syn_expr_spec.specs.Printed.{Position, in_plain, as_statement, as_condition, as_arm, allows, context_of, StandsPrinted, PrintedStands}
use Rattle.syn_expr_spec.proofs.Obeys.{Fits, Obeys}
use Rattle.syn_expr_spec.proofs.Formed.{formed_fill}
use Rattle.syn_expr_spec.proofs.Bare.{printed_formed}
use Rattle.syn_expr_spec.proofs.Good.{printed_good}
use Rattle.syn_expr_spec.proofs.Shows.{Shows, shows_nothing, shows_comma, shows_semi, shows_block}
use Rattle.syn_expr_spec.proofs.Places.{Meets, meets_plain, meets_statement, meets_arm, meets_condition, end_fits, block_fits, fits_calls, fits_ends, fits_closes}
use Rattle.syn_expr_spec.proofs.Bridge.{bridge}
use Rattle.syn_expr_spec.proofs.Same.{printed_is_same}

-- ---- what may follow

empty_shows : (l : List Tok) → is_empty l ≡ true → Shows next.End l
empty_shows [] h = shows_nothing
empty_shows (a ∷ l) h = absurd cc

either : (a b : Bool) (P : Type 0) → a || b ≡ true → (a ≡ true → P) → (b ≡ true → P) → P
either true b P h f g = f refl
either false b P h f g = g h

semi_shows : (l : List Tok) → is_empty l || semi.at l ≡ true → Shows next.End l
semi_shows l h = either (is_empty l) (semi.at l) (Shows next.End l) h (empty_shows l) (sign_first 59 [] (Shows next.End) shows_semi l)

comma_shows : (l : List Tok) → is_empty l || comma.at l ≡ true → Shows next.End l
comma_shows l h = either (is_empty l) (comma.at l) (Shows next.End l) h (empty_shows l) (sign_first 44 [] (Shows next.End) shows_comma l)

brace_shows : (l : List Tok) → brace_at l ≡ true → Shows next.Block l
unfolding brace_at group_at
brace_shows (group del.Brace i ∷ l) h = shows_block i l
brace_shows [] h = absurd cc
brace_shows _ h = absurd cc

-- ---- in each position

stands_in : (p : Place) (c : Context) (t : Tree) (r : List Tok) → well t ≡ true → lev.Jump ≡ p.level → Meets p c → Shows c.next r → ((x : Tree) → Fits p.level x c.next)
    → Stands p (own (printed c t) r) (clear (printed c t)) r
stands_in p c t r w v m s f =
    let x = printed c t in
    record {
      node = bridge x p c r (printed_formed c t w) m s (subst (λ n. Obeys n c x) v (printed_good (fill t) c (formed_fill t w))) (fits_calls p.level x c.next (f x));
      ending = fits_ends p x c.next r s (f x);
      closing = fits_closes p p.level x c.next r s (f x);
    }

printed_there : (s : Position) (t : Tree) (r : List Tok) → is_well_formed t ≡ true → allows s r ≡ true → StandsPrinted s t r
unfolding is_well_formed
printed_there in_plain t r w h = stands_in plain enclosed t r w refl meets_plain (empty_shows r h) end_fits
printed_there as_statement t r w h = stands_in at_head in_statement t r w refl meets_statement (semi_shows r h) end_fits
printed_there as_condition t r w h = stands_in before_block in_condition t r w refl meets_condition (brace_shows r h) block_fits
printed_there as_arm t r w h = stands_in at_head in_arm t r w refl meets_arm (comma_shows r h) end_fits

pub printed_stands : PrintedStands
printed_stands s t r w h = (printed_is_same (context_of s) t w, printed_there s t r w h)

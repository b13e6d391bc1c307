-- How a text falls into pieces from its front on.
use Rattle.std.proofs.Common.{◌≡◌, ℕ, zero, suc, ◌-◌, ◌≤◌, ◌<◌, List, [], ◌∷◌, ◌++◌, length, take, drop, refl, sym, ◌∙◌, ap, append_assoc, append-nil, arith, inl, inr}
use Rattle.std.specs.Prelude.{◌≢◌, ◌⊎◌, Result, Ok, Err, IfOk, IfErr, MatchResult, Option, Some, None}
use Rattle.syn_lexer.specs.Text.{Text, Reading}
use Rattle.syn_lexer.specs.Lex.{front, reading, of_reading}
use Rattle.syn_lexer.specs.declared.error.LexError.{LexError}
use Rattle.syn_lexer.specs.declared.front.Delimiter.{Delimiter}
use Rattle.syn_lexer.specs.declared.front.LexemeKind.{LexemeKind}
use Rattle.syn_tokens.specs.Tok.{Tok}
use Rattle.syn_tokens.specs.Lex.{Piece, pieces, pieces_from, lexeme_pieces, then_pieces, flat, Spells, open_behind, refusal_behind, refusal_at_end, refusal_from, refusal, IsRefusedAs}
use Rattle.syn_tokens.specs.Input.{Gives}
use Rattle.syn_tokens.specs.Nest.{misfits}
use Rattle.syn_tokens.specs.Spans.{IsWithin}
use Rattle.syn_tokens.proofs.Nests.{one_list}
use Rattle.syn_tokens.specs.declared.error.Error.{Error}
use Rattle.syn_tokens.specs.declared.error.ErrorKind.TheVariants.{OutOfMemory}

pieces_from-drop : (n : ℕ) (z : Text) → pieces_from n z ≡ pieces (drop n z)
unfolding pieces
pieces_from-drop zero z = refl
pieces_from-drop (suc n) [] = refl
pieces_from-drop (suc n) (c ∷ z) = pieces_from-drop n z

pub pieces_step : (z : Text) (k : LexemeKind) (n : ℕ) → 0 < length z → 1 ≤ n → front z ≡ Some (k, n)
    → pieces z ≡ then_pieces (lexeme_pieces k (take n z)) (pieces (drop n z))
unfolding pieces
pieces_step [] k n h i e = absurd (omega arith)
pieces_step (c ∷ z) k zero h i e = absurd (omega arith)
pieces_step (c ∷ z) k (suc m) h i e =
    let one : suc m - 1 ≡ m = omega arith in
    rw (e, one) (ap (then_pieces (lexeme_pieces k (take (suc m) (c ∷ z)))) (pieces_from-drop m z))

pieces_none : (z : Text) → 0 < length z → front z ≡ None → pieces z ≡ None
unfolding pieces
pieces_none [] h e = absurd (omega arith)
pieces_none (c ∷ z) h e = rw e refl

then_then : (ps qs : List Piece) (o : Option (List Piece)) → then_pieces ps (then_pieces qs o) ≡ then_pieces (ps ++ qs) o
then_then ps qs None = refl
then_then ps qs (Some rs) = ap Some (sym (append_assoc ps qs rs))

pub then_nothing : (o : Option (List Piece)) → o ≡ then_pieces [] o
then_nothing None = refl
then_nothing (Some ps) = refl

pub so_far_more : (all rest : Text) (ps : List Piece) (k : LexemeKind) (n : ℕ)
    → pieces all ≡ then_pieces ps (pieces rest) → 0 < length rest → 1 ≤ n → front rest ≡ Some (k, n)
    → pieces all ≡ then_pieces (ps ++ lexeme_pieces k (take n rest)) (pieces (drop n rest))
so_far_more all rest ps k n so h i e =
    so ∙ ap (then_pieces ps) (pieces_step rest k n h i e) ∙ then_then ps (lexeme_pieces k (take n rest)) (pieces (drop n rest))

pub refused_front : (all rest : Text) (ps : List Piece) → pieces all ≡ then_pieces ps (pieces rest) → 0 < length rest → front rest ≡ None
    → (ts : List Tok) → Spells all ts → ⊥
refused_front all rest ps so h e ts is =
    let none = pieces_none rest h e in let two : None ≡ Some (flat ts) = sym (so ∙ ap (then_pieces ps) none) ∙ is in cc

refused_pieces : (ps : List Piece) (o : Option (List Piece)) → misfits ps → (ts : List Tok) → then_pieces ps o ≡ Some (flat ts) → ⊥
refused_pieces ps None fits ts e = cc
refused_pieces ps (Some qs) fits ts e = fits qs ts cc

pub refused_lexeme : (all rest : Text) (ps : List Piece) (k : LexemeKind) (n : ℕ) → pieces all ≡ then_pieces ps (pieces rest)
    → 0 < length rest → 1 ≤ n → front rest ≡ Some (k, n) → misfits (ps ++ lexeme_pieces k (take n rest)) → (ts : List Tok) → Spells all ts → ⊥
refused_lexeme all rest ps k n so h i e fits ts is =
    refused_pieces (ps ++ lexeme_pieces k (take n rest)) (pieces (drop n rest)) fits ts (sym (so_far_more all rest ps k n so h i e) ∙ is)

at_end : (rest : Text) → length rest ≡ 0 → pieces rest ≡ Some []
unfolding pieces
at_end [] h = refl
at_end (c ∷ z) h = cc

pub all_read : (all rest : Text) (ps : List Piece) → pieces all ≡ then_pieces ps (pieces rest) → length rest ≡ 0 → pieces all ≡ Some ps
all_read all rest ps so h = so ∙ ap (then_pieces ps) (at_end rest h) ∙ ap Some (append-nil ps)

module _ (ps : List Piece) (all : Text) (is : pieces all ≡ Some ps) where
  pub found : (r : Result (List Tok) Error) → MatchResult r (λ s. ps ≡ flat s) (λ e. (ts : List Tok) → ps ≢ flat ts) → IfOk r (λ s. Spells all s)
  found (Ok s) h = is ∙ ap Some h
  found (Err e) h = tt

  pub refused : (r : Result (List Tok) Error) → MatchResult r (λ s. ps ≡ flat s) (λ e. (ts : List Tok) → ps ≢ flat ts)
      → IfErr r (λ e. (e.kind ≡ OutOfMemory) ⊎ ((ts : List Tok) → Spells all ts → ⊥))
  refused (Ok s) h = tt
  refused (Err e) h = inr (λ ts q. h ts (let same : Some ps ≡ Some (flat ts) = sym is ∙ q in cc))

-- a text falls into one list of trees
pub one_reading : (z : Text) (ss ts : List Tok) → Spells z ss → Spells z ts → ss ≡ ts
one_reading z ss ts p q = let same : flat ss ≡ flat ts = cc in one_list ss ts same

pub gives_only : (z : Text) (r : Result (List Tok) Error) → IfOk r (λ s. Spells z s)
    → IfErr r (λ e. (e.kind ≡ OutOfMemory) ⊎ ((ts : List Tok) → Spells z ts → ⊥)) → (ts : List Tok) → Spells z ts → Gives (λ s. s) ts r
gives_only z (Ok s) h g ts is = one_reading z s ts h is
gives_only z (Err e) h g ts is = elim g [ inl m ↦ m | inr none ↦ absurd (none ts is) ]

-- ---- why a text is refused

pub refusal_is : (z : Text) → refusal z ≡ refusal_from [] 0 z
unfolding refusal
refusal_is z = refl

refusal_from-drop : (st : List Delimiter) (n : ℕ) (z : Text) → refusal_from st n z ≡ refusal_from st 0 (drop n z)
refusal_from-drop st zero z = refl
refusal_from-drop st (suc n) [] = refl
refusal_from-drop st (suc n) (c ∷ z) = refusal_from-drop st n z

reading_is : (r : Reading) (k : LexemeKind) (n : ℕ) → of_reading r ≡ Some (k, n) → r ≡ Ok (k, n)
reading_is (Ok p) k n e = cc
reading_is (Err p) k n e = cc

front_is : (c : ℕ) (z : Text) (k : LexemeKind) (n : ℕ) → front (c ∷ z) ≡ Some (k, n) → reading (c ∷ z) ≡ Ok (k, n)
unfolding front
front_is c z k n e = reading_is (reading (c ∷ z)) k n e

behind_same : (o : Option (List Delimiter)) (f g : List Delimiter → Option LexError) → ((st : List Delimiter) → f st ≡ g st) → refusal_behind o f ≡ refusal_behind o g
behind_same None f g h = refl
behind_same (Some st) f g h = h st

pub refusal_step : (st : List Delimiter) (z : Text) (k : LexemeKind) (n : ℕ) → 0 < length z → 1 ≤ n → front z ≡ Some (k, n)
    → refusal_from st 0 z ≡ refusal_behind (open_behind k st) (λ inner. refusal_from inner 0 (drop n z))
refusal_step st [] k n h i e = absurd (omega arith)
refusal_step st (c ∷ z) k zero h i e = absurd (omega arith)
refusal_step st (c ∷ z) k (suc m) h i e =
    let one : suc m - 1 ≡ m = omega arith in
    rw (front_is c z k (suc m) e, one) (behind_same (open_behind k st) _ _ (λ inner. refusal_from-drop inner m z))

pub refusal_step-refused : (st : List Delimiter) (z : Text) (e : LexError) (n : ℕ) → 0 < length z → reading z ≡ Err (e, n) → refusal_from st 0 z ≡ Some e
refusal_step-refused st [] e n h is = absurd (omega arith)
refusal_step-refused st (c ∷ z) e n h is = rw is refl

pub refusal_end : (st : List Delimiter) (z : Text) → length z ≡ 0 → refusal_from st 0 z ≡ refusal_at_end st
refusal_end st [] h = refl
refusal_end st (c ∷ z) h = cc

pub finished : (o : Option LexError) (r : Result (List Tok) Error) → MatchResult r (λ _. o ≡ None) (λ e. IsRefusedAs o e.kind)
    → MatchResult r (λ _. o ≡ None) (λ e. (e.kind ≡ OutOfMemory) ⊎ IsRefusedAs o e.kind)
finished o (Ok s) h = h
finished o (Err e) h = inr h

pub or_within : (text : List ℕ) (r : Result (List Tok) Error) → IfErr r (λ e. IsWithin text e.span) → IfErr r (λ e. (e.kind ≡ OutOfMemory) ⊎ IsWithin text e.span)
or_within text (Ok s) h = tt
or_within text (Err e) h = inr h

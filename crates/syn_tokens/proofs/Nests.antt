-- How the pieces that were read grow, and which can never be those of trees.
use Rattle.std.proofs.Common.{◌≡◌, ◌<◌, ℕ, List, [], ◌∷◌, ◌++◌, length, refl, sym, ◌∙◌, ap, subst, append_assoc, append-nil}
use Rattle.std.specs.Prelude.{◌≢◌, Option, Some, None, if◌then◌else◌}
use Rattle.syn_lexer.specs.declared.front.Delimiter.{Delimiter}
use Rattle.syn_lexer.specs.declared.front.LexemeKind.{LexemeKind}
use Rattle.syn_lexer.specs.declared.front.LexemeKind.TheVariants as kind
use Rattle.syn_tokens.specs.Front.{same_delimiter}
use Rattle.syn_tokens.specs.Same.{same_delimiter-refl, same_delimiter-false}
use Rattle.syn_tokens.specs.Tok.{Tok, Inside, ident, punct, literal, group, nothing, first, inside}
use Rattle.syn_tokens.specs.Lex.{Piece, leaf, opens, closes, flat, pieces_of, pieces_inside}
use Rattle.syn_tokens.specs.Nest.{Open, opened, unfinished, delimiters, misfits, places, places_behind, BeginWithin}
use Rattle.syn_tokens.specs.declared.lexer.Open as code

flat-append : (a b : List Tok) → flat (a ++ b) ≡ flat a ++ flat b
flat-append [] b = refl
flat-append (t ∷ a) b = ap (λ ps. pieces_of t ++ ps) (flat-append a b) ∙ sym (append_assoc (pieces_of t) (flat a) (flat b))

flat_one : (t : Tok) → flat (t ∷ []) ≡ pieces_of t
flat_one t = append-nil (pieces_of t)

pub pieces_inside-inside : (ts : List Tok) → pieces_inside (inside ts) ≡ flat ts
pieces_inside-inside [] = refl
pieces_inside-inside (t ∷ ts) = ap (λ ps. pieces_of t ++ ps) (pieces_inside-inside ts)

opened-append : (a b : List Open) → opened (a ++ b) ≡ opened a ++ opened b
opened-append [] b = refl
opened-append (o ∷ a) b =
    ap (λ ps. flat o.1 ++ opens o.0 ∷ ps) (opened-append a b) ∙ sym (append_assoc (flat o.1) (opens o.0 ∷ opened a) (opened b))

-- ---- one more leaf, one more opening delimiter, one more closing one

pub unfinished-leaf : (os : List Open) (ts : List Tok) (t : Tok) → unfinished os (ts ++ t ∷ []) ≡ unfinished os ts ++ pieces_of t
unfinished-leaf os ts t = rw (flat-append ts (t ∷ []), flat_one t) (sym (append_assoc (opened os) (flat ts) (pieces_of t)))

pub unfinished-opens : (os : List Open) (ts : List Tok) (d : Delimiter) → unfinished (os ++ (d, ts) ∷ []) [] ≡ unfinished os ts ++ opens d ∷ []
unfinished-opens os ts d =
    append-nil (opened (os ++ (d, ts) ∷ [])) ∙ opened-append os ((d, ts) ∷ []) ∙ sym (append_assoc (opened os) (flat ts) (opens d ∷ []))

pub unfinished-closes : (os : List Open) (before ts : List Tok) (d : Delimiter)
    → unfinished os (before ++ group d (inside ts) ∷ []) ≡ unfinished (os ++ (d, before) ∷ []) ts ++ closes d ∷ []
unfinished-closes os before ts d =
    unfinished-leaf os before (group d (inside ts)) ∙ rw (pieces_inside-inside ts, opened-append os ((d, before) ∷ [])) (simp append_assoc)

pub ruleset nests = (unfinished-leaf, unfinished-opens, unfinished-closes, append-nil)

-- ---- which delimiters are open after some pieces

abbrev run : List Delimiter → List Piece → Option (List Delimiter)
run st [] = Some st
run st (leaf t ∷ ps) = run st ps
run st (opens d ∷ ps) = run (d ∷ st) ps
run [] (closes d ∷ ps) = None
run (e ∷ st) (closes d ∷ ps) = if same_delimiter e d then run st ps else None

mutual
  run_tree : (st : List Delimiter) (t : Tok) (ps : List Piece) → run st (pieces_of t ++ ps) ≡ run st ps
  run_tree st (ident s) ps = refl
  run_tree st (punct c s) ps = refl
  run_tree st (literal s) ps = refl
  run_tree st (group d i) ps = rw append_assoc (run_inside (d ∷ st) i (closes d ∷ ps) ∙ rw (same_delimiter-refl d) refl)

  run_inside : (st : List Delimiter) (i : Inside) (ps : List Piece) → run st (pieces_inside i ++ ps) ≡ run st ps
  run_inside st nothing ps = refl
  run_inside st (first t i) ps = rw append_assoc (run_tree st t (pieces_inside i ++ ps) ∙ run_inside st i ps)

run_flat : (st : List Delimiter) (ts : List Tok) (ps : List Piece) → run st (flat ts ++ ps) ≡ run st ps
run_flat st [] ps = refl
run_flat st (t ∷ ts) ps = rw append_assoc (run_tree st t (flat ts ++ ps) ∙ run_flat st ts ps)

run_opened : (st : List Delimiter) (os : List Open) (ps : List Piece) → run st (opened os ++ ps) ≡ run (delimiters os st) ps
run_opened st [] ps = refl
run_opened st (o ∷ os) ps = rw append_assoc (run_flat st o.1 (opens o.0 ∷ (opened os ++ ps)) ∙ run_opened (o.0 ∷ st) os ps)

pub delimiters-append : (os : List Open) (o : Open) (st : List Delimiter) → delimiters (os ++ o ∷ []) st ≡ o.0 ∷ delimiters os st
delimiters-append [] o st = refl
delimiters-append (p ∷ os) o st = delimiters-append os o (p.0 ∷ st)

run_all : (ts : List Tok) → run [] (flat ts) ≡ Some []
run_all ts = rw (← append-nil (flat ts)) (run_flat [] ts [])

run_unfinished : (os : List Open) (ts : List Tok) (ps : List Piece) → run [] (unfinished os ts ++ ps) ≡ run (delimiters os []) ps
run_unfinished os ts ps = rw append_assoc (run_opened [] os (flat ts ++ ps) ∙ run_flat (delimiters os []) ts ps)

-- a closing delimiter where nothing is open
pub misfits_alone : (ts : List Tok) (d : Delimiter) → misfits (unfinished [] ts ++ closes d ∷ [])
misfits_alone ts d more us e =
    let one : run [] (unfinished [] ts ++ closes d ∷ more) ≡ None = run_unfinished [] ts (closes d ∷ more) in
    let same : unfinished [] ts ++ closes d ∷ more ≡ flat us = sym (append_assoc (unfinished [] ts) (closes d ∷ []) more) ∙ e in
    let two : None ≡ Some [] = sym one ∙ ap (run []) same ∙ run_all us in cc

-- a closing delimiter of another kind
pub misfits_other : (os : List Open) (before ts : List Tok) (d e : Delimiter) → d ≢ e → misfits (unfinished (os ++ (d, before) ∷ []) ts ++ closes e ∷ [])
misfits_other os before ts d e n more us h =
    let all = unfinished (os ++ (d, before) ∷ []) ts in
    let one : run [] (all ++ closes e ∷ more) ≡ None =
    run_unfinished (os ++ (d, before) ∷ []) ts (closes e ∷ more) ∙ rw (delimiters-append os (d, before) [], same_delimiter-false d e n) refl in
    let same : all ++ closes e ∷ more ≡ flat us = sym (append_assoc all (closes e ∷ []) more) ∙ h in
    let two : None ≡ Some [] = sym one ∙ ap (run []) same ∙ run_all us in cc

-- an end where a group is open
pub misfits_open : (os : List Open) (o : Open) (ts us : List Tok) → unfinished (os ++ o ∷ []) ts ≢ flat us
misfits_open os o ts us h =
    let all = unfinished (os ++ o ∷ []) ts in
    let one : run [] (all ++ []) ≡ Some (o.0 ∷ delimiters os []) = run_unfinished (os ++ o ∷ []) ts [] ∙ rw (delimiters-append os o []) refl in
    let two : Some (o.0 ∷ delimiters os []) ≡ Some [] = sym one ∙ ap (run []) (append-nil all ∙ h) ∙ run_all us in cc

-- ---- where the open groups begin

pub places-append : (os : List code.Open) (o : code.Open) (ps : List ℕ) → places (os ++ o ∷ []) ps ≡ o.at ∷ places os ps
places-append [] o ps = refl
places-append (p ∷ os) o ps = places-append os o (p.at ∷ ps)

pub begin_behind : (text : List ℕ) (k : LexemeKind) (at : ℕ) (ps : List ℕ) → at < length text → BeginWithin text ps → BeginWithin text (places_behind k at ps)
begin_behind text kind.Blank at ps h b = b
begin_behind text kind.Ident at ps h b = b
begin_behind text kind.Literal at ps h b = b
begin_behind text kind.Lifetime at ps h b = b
begin_behind text (kind.Punct c s) at ps h b = b
begin_behind text (kind.Open d) at ps h b = (h, b)
begin_behind text (kind.Close d) at [] h b = tt
begin_behind text (kind.Close d) at (p ∷ ps) h b = b.1

pub opening_begins : (text : List ℕ) (os : List code.Open) (o : code.Open) → BeginWithin text (places (os ++ o ∷ []) []) → o.at < length text
opening_begins text os o b = (subst (BeginWithin text) (places-append os o []) b).0

-- ---- trees with the same pieces are the same

no_close : (u : Tok) (d : Delimiter) (ps qs : List Piece) → closes d ∷ ps ≡ pieces_of u ++ qs → ⊥
no_close (ident s) d ps qs h = cc
no_close (punct c s) d ps qs h = cc
no_close (literal s) d ps qs h = cc
no_close (group e i) d ps qs h = cc

abbrev Both : {A B : Type 0} → A → A → B → B → Type 0
Both a b p q = (a ≡ b) × (p ≡ q)

mutual
  one_tree : (t u : Tok) (ps qs : List Piece) → pieces_of t ++ ps ≡ pieces_of u ++ qs → Both t u ps qs
  one_tree (ident s) (ident t) ps qs e = (cc, cc)
  one_tree (punct c s) (punct d t) ps qs e = (cc, cc)
  one_tree (literal s) (literal t) ps qs e = (cc, cc)
  one_tree (group d i) (group e j) ps qs h =
      let left : (opens d ∷ (pieces_inside i ++ closes d ∷ [])) ++ ps ≡ opens d ∷ (pieces_inside i ++ closes d ∷ ps) = simp append_assoc in
      let right : (opens e ∷ (pieces_inside j ++ closes e ∷ [])) ++ qs ≡ opens e ∷ (pieces_inside j ++ closes e ∷ qs) = simp append_assoc in
      let same : opens d ∷ (pieces_inside i ++ closes d ∷ ps) ≡ opens e ∷ (pieces_inside j ++ closes e ∷ qs) = sym left ∙ h ∙ right in
      let delimiter : d ≡ e = cc in
      let rest : pieces_inside i ++ closes d ∷ ps ≡ pieces_inside j ++ closes e ∷ qs = cc in
      let both = one_inside i j d e ps qs rest in
      let one : i ≡ j = both.0 in let two : ps ≡ qs = cc (both.1) in (cc, two)
  one_tree _ _ ps qs e = absurd cc

  one_inside : (i j : Inside) (d e : Delimiter) (ps qs : List Piece) → pieces_inside i ++ closes d ∷ ps ≡ pieces_inside j ++ closes e ∷ qs
      → Both i j (closes d ∷ ps) (closes e ∷ qs)
  one_inside nothing nothing d e ps qs h = (refl, h)
  one_inside nothing (first u j) d e ps qs h = absurd (no_close u d ps _ (h ∙ append_assoc (pieces_of u) (pieces_inside j) (closes e ∷ qs)))
  one_inside (first t i) nothing d e ps qs h = absurd (no_close t e qs _ (sym h ∙ append_assoc (pieces_of t) (pieces_inside i) (closes d ∷ ps)))
  one_inside (first t i) (first u j) d e ps qs h =
      let both = one_tree t u (pieces_inside i ++ closes d ∷ ps) (pieces_inside j ++ closes e ∷ qs)
      (sym (append_assoc (pieces_of t) (pieces_inside i) (closes d ∷ ps)) ∙ h ∙ append_assoc (pieces_of u) (pieces_inside j) (closes e ∷ qs)) in
      let more = one_inside i j d e ps qs both.1 in
      let one : t ≡ u = both.0 in let two : i ≡ j = more.0 in (cc, more.1)

no_end : (u : Tok) (qs : List Piece) → [] ≡ pieces_of u ++ qs → ⊥
no_end (ident s) qs h = cc
no_end (punct c s) qs h = cc
no_end (literal s) qs h = cc
no_end (group e i) qs h = cc

pub one_list : (ss ts : List Tok) → flat ss ≡ flat ts → ss ≡ ts
one_list [] [] h = refl
one_list [] (t ∷ ts) h = absurd (no_end t (flat ts) h)
one_list (s ∷ ss) [] h = absurd (no_end s (flat ss) (sym h))
one_list (s ∷ ss) (t ∷ ts) h =
    let both = one_tree s t (flat ss) (flat ts) h in
    let one : s ≡ t = both.0 in let two : ss ≡ ts = one_list ss ts both.1 in cc

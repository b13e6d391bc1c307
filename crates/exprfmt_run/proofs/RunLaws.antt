-- Facts of calls, and what a fault writes.
use Rattle.std.proofs.Common.{◌≡◌, inl, inr, ℕ, Bool, true, false, List, [], ◌∷◌, ◌++◌, length, take, drop, refl, sym, ap, ◌∙◌, subst, append_assoc, append-nil, take-append-drop, arith}
use Rattle.std.specs.Prelude.{Option, Some, None, Result, Ok, Err, chars, codes}
use Rattle.std.specs.Fn.{Mut, Called}
use Rattle.std.specs.Str.{IsUtf8}
use Rattle.std.specs.Fmt.{WritesInCalls}
use Rattle.std.specs.Fmt.InlineText.{inline_text, IsIntact, AppendsIfIntact}
use Rattle.std.specs.List.{FoldsTo, concat}
use Rattle.std.specs.declared.fmt.InlineText.{InlineText}
use Rattle.std.specs.declared.io.Error as io
use Rattle.std.proofs.lemmas.Fmt.{decimal_digit}
use Rattle.std.proofs.lemmas.List.{take_at}
use Rattle.std.proofs.lemmas.Str.{IsUtf8-from_ascii, IsUtf8-take, IsCharBoundary-at_seam}
use Rattle.std.proofs.lemmas.Str.Ascii.{IsAscii-nil, IsAscii-cons}
use Rattle.syn_tokens.specs.declared.error.Error.{Error}
use Rattle.syn_tokens.proofs.Lexes.{one_reading}
use Rattle.syn_expr_spec.specs.Place.{plain}
use Rattle.syn_expr_spec.specs.Printed.{Position, printed_in}
use Rattle.syn_expr_spec.specs.Stands.{Stands}
use Rattle.syn_expr_spec.proofs.Exact.{at_most_one}
use Rattle.exprfmt_run.specs.Run.{IsLine, IsPrinted, IsPrintedAgain, meant, FollowsFrom, Reader, Writer, Writes, Reports, Ran, line, printed, refused, not_utf8, failed, out_of_memory}
use Rattle.exprfmt_run.specs.Calls.{writer}
use Rattle.exprfmt_run.specs.FaultView.{outcome_of}
use Rattle.exprfmt_run.specs.declared.run.Fault.{Fault}
use Rattle.exprfmt_run.specs.declared.run.Fault.TheVariants.{Refused, NotUtf8, Failed}
use denote.Ref.{Bor}
use Rattle.std.specs.Io.KnownBytes.{Appends, Keeps}
use Rattle.std.proofs.KnownBytes.{Appends-trans}
use Rattle.syn_tokens.specs.Text.{text}
use Rattle.syn_tokens.specs.Tok.{Tok}
use Rattle.syn_expr_spec.specs.Tree.{Tree, own_tokens, flatten, IsSameTree}
use Rattle.syn_text_spec.specs.Laws.{IsStable, is_ordinary, unchanged}
use Rattle.syn_text_spec.proofs.Stable.{read_text, bare_text}
use Rattle.syn_expr_flatten.proofs.FlatFill.{fill_flatten}
use Rattle.syn_expr_flatten.proofs.FlatWell.{well_formed_flatten}
use Rattle.syn_expr_flatten.specs.Flat.{IsFlat}
use Rattle.syn_expr.specs.Promises.{PrintedAs}
use Rattle.syn_expr.specs.Texts.{StandsFor}

-- ---- a text that is written part by part

appends_kept : (a b c : Option (List ℕ)) (x : List ℕ) → Appends a b x → Keeps b c → Appends a c x
appends_kept None b c x p q = tt
appends_kept (Some a) None c x p q = absurd p
appends_kept (Some a) (Some b) None x p q = absurd q
appends_kept (Some a) (Some b) (Some c) x p q = q ∙ p

-- what was written is a front of the text
abbrev pub Written : Option (List ℕ) → List ℕ → List ℕ → Option (List ℕ) → Type 0
Written old text rest new = (done : List ℕ) × (text ≡ done ++ rest) × Appends old new done

pub more_written : (a b c : Option (List ℕ)) (text rest : List ℕ) (n : ℕ) → Written a text rest b → Appends b c (take n rest) → Written a text (drop n rest) c
more_written a b c text rest n (done, split, p) q = (
  done ++ take n rest,
  split ∙ ap (λ l. done ++ l) (sym (take-append-drop n rest)) ∙ sym (append_assoc done (take n rest) (drop n rest)),
  Appends-trans a b c done (take n rest) p q,
)

pub written_kept : (a b c : Option (List ℕ)) (text rest : List ℕ) → Written a text rest b → Keeps b c → Written a text rest c
written_kept a b c text rest (done, split, p) q = (done, split, appends_kept a b c done p q)

-- ---- a writer that was called

pub written : {F : Type 0} (g : Mut F (Bor (List ℕ) × Unit {0}) (Result (Unit {0}) io.Error)) (old new : F) (text : Bor (List ℕ)) (r : Result (Unit {0}) io.Error)
    → Called g old (text, tt) r new → Writes (writer g old new) text.now
written g old new text (Ok x) h = inl (record { shown = text; shows = refl; called = h })
written g old new text (Err e) h = inr (e, record { shown = text; shows = refl; called = h })

-- ---- a text that is formatted into a room of fixed size

by_calls : {n : ℕ} (s : InlineText n) (parts : List (List ℕ)) (t : InlineText n) → FoldsTo AppendsIfIntact s parts t → IsIntact s → inline_text t ≡ inline_text s ++ concat parts
by_calls s [] t calls intact = ap inline_text (sym calls) ∙ sym (append-nil (inline_text s))
by_calls s (x ∷ parts) t (infixed, first, rest) intact =
    let one = first intact in
    by_calls infixed parts t rest one.0 ∙ ap (λ l. l ++ concat parts) one.1 ∙ append_assoc (inline_text s) x (concat parts)

pub formatted : {n : ℕ} (s : InlineText n) (bs : List ℕ) (t : InlineText n) → IsIntact s → inline_text s ≡ [] → WritesInCalls AppendsIfIntact s bs t → inline_text t ≡ bs
formatted s bs t intact empty wrote = by_calls s wrote.parts t wrote.calls intact ∙ ap (λ l. l ++ concat wrote.parts) empty ∙ wrote.whole

-- ---- what is printed of it

-- what is left of a tree, without its parentheses
pub bare_meant : (bare : Bool) (t u : Tree) → bare ≡ true → IsFlat t u → u ≡ meant bare t
unfolding IsFlat
bare_meant true t u e flat = flat
bare_meant false t u e flat = absurd cc

pub line_is : (s : Position) (bare : Bool) (cs : List ℕ) (t u : Tree) (ts : List Tok) (bytes : List ℕ) → StandsFor cs t → u ≡ meant bare t
    → PrintedAs s u ts → bytes ≡ text ts ++ 10 ∷ [] → IsLine s bare cs bytes
line_is s bare cs t u ts bytes stands same is written = (ts, (t, stands, subst (λ (v : Tree). PrintedAs s v ts) same is), written)

-- ---- a printed line, read and printed again

-- what is before the line feed is UTF-8 too
before_line_feed : (xs bytes : List ℕ) → bytes ≡ xs ++ 10 ∷ [] → IsUtf8 bytes → IsUtf8 xs
before_line_feed xs bytes is utf8 =
    let feed : IsUtf8 (10 ∷ []) = IsUtf8-from_ascii (10 ∷ []) (IsAscii-cons 10 [] (omega arith) IsAscii-nil) in
    subst IsUtf8 (ap (take (length xs)) is ∙ take_at xs (10 ∷ []) (length xs) refl) (IsUtf8-take bytes (length xs) utf8 (IsCharBoundary-at_seam bytes xs (10 ∷ []) is feed))

same_tree : (cs : List ℕ) (t u : Tree) → StandsFor cs t → StandsFor cs u → u ≡ t
same_tree cs t u (l, spells, stands) (m, others, also) =
    (at_most_one plain l u t [] [] (subst (λ ts. Stands plain ts u []) (one_reading cs m l others spells) also) stands).0

-- f is done to a tree before it is printed as these tokens
by_stable : (f : Tree → Tree) (s : Position) (t : Tree) (ts : List Tok) → IsStable f s t (text ts)
    → (x : Tree) × StandsFor (chars (text ts)) x × IsSameTree (f t) x × (line (printed (own_tokens (printed_in s (f x)))) ≡ line (printed ts))
by_stable f s t ts (x, same, read, alone, again) = (x, read, same, ap (λ l. l ++ 10 ∷ []) (sym again))

-- of an ordinary tree
of_tree : (s : Position) (bare : Bool) (bytes : List ℕ) (ts : List Tok) (t : Tree) → IsUtf8 bytes → StandsFor (chars bytes) t → PrintedAs s (meant bare t) ts → is_ordinary t ≡ true
    → (x : Tree) × StandsFor (chars (text ts)) x × IsSameTree (meant bare t) x × (line (printed (own_tokens (printed_in s (meant bare x)))) ≡ line (printed ts))
of_tree s false bytes ts t utf8 (l, spells, stands) is h = by_stable unchanged s t ts (read_text s bytes l t ts utf8 spells stands h is.tokens)
of_tree s true bytes ts t utf8 (l, spells, stands) is h =
    by_stable flatten s t ts (bare_text s bytes l t ts utf8 spells stands h well_formed_flatten fill_flatten is.tokens)

printed_again : (s : Position) (bare : Bool) (bytes : List ℕ) (ts : List Tok) (out : List ℕ) → IsUtf8 bytes → out ≡ text ts ++ 10 ∷ [] → IsUtf8 out
    → IsPrinted s bare (chars bytes) ts → IsPrintedAgain s bare (chars bytes) ts
printed_again s bare bytes ts out utf8 is whole (t, stands, promised) = λ u also h. (
  before_line_feed (text ts) out is whole,
  of_tree s bare bytes ts u utf8 also (subst (λ v. PrintedAs s (meant bare v) ts) (sym (same_tree (chars bytes) t u stands also)) promised) h,
)

-- ---- what is reported

pub regroup : (a b c d e f g : List ℕ) → a ++ (b ++ (c ++ (d ++ (e ++ (f ++ g))))) ≡ a ++ b ++ c ++ d ++ e ++ f ++ g
regroup a b c d e f g =
    let whole = append_assoc (a ++ b ++ c ++ d ++ e) f g ∙ append_assoc (a ++ b ++ c ++ d) e (f ++ g) ∙ append_assoc (a ++ b ++ c) d (e ++ (f ++ g))
    ∙ append_assoc (a ++ b) c (d ++ (e ++ (f ++ g))) ∙ append_assoc a b (c ++ (d ++ (e ++ (f ++ g)))) in
    sym whole

pub memory_line : codes "refused at 0..0: out of memory" ++ 10 ∷ [] ≡ line out_of_memory
memory_line = rw (decimal_digit 0 (omega arith)) refl

pub reports_refusal : (f : Fault) (e : Error) (errors : Writer) (text : List ℕ) → f ≡ Refused e → Writes errors text → text ≡ line (refused e) → Reports (outcome_of f) errors
reports_refusal f e errors text is wrote same = subst (λ (h : Fault). Reports (outcome_of h) errors) (sym is) (inl (subst (Writes errors) same wrote))

pub reports_memory : (f : Fault) (e : Error) (errors : Writer) → f ≡ Refused e → Writes errors (codes "refused at 0..0: out of memory" ++ 10 ∷ []) → Reports (outcome_of f) errors
reports_memory f e errors is wrote = subst (λ (h : Fault). Reports (outcome_of h) errors) (sym is) (inr (subst (Writes errors) memory_line wrote))

-- ---- how a run ends

follows_without_memory : (s : Position) (bare : Bool) (input : Reader) (e : Error) → FollowsFrom s bare input (refused e) → FollowsFrom s bare input out_of_memory
follows_without_memory s bare input e (inl (bytes, gives, h)) = inl (bytes, gives, inl refl)
follows_without_memory s bare input e (inr (inl (lacks, h))) = inr (inl (lacks, refl))
follows_without_memory s bare input e (inr (inr (fails, h))) = absurd cc

pub reported : (s : Position) (bare : Bool) (input : Reader) (f : Fault) (output errors : Writer) → FollowsFrom s bare input (outcome_of f)
    → output.IsLeft → Reports (outcome_of f) errors → Ran s bare input 1 output errors
reported s bare input (Refused e) output errors h k (inl w) = (refused e, h, (refl, k, w))
reported s bare input (Refused e) output errors h k (inr w) = (out_of_memory, follows_without_memory s bare input e h, (refl, k, w))
reported s bare input NotUtf8 output errors h k w = (not_utf8, h, (refl, k, w))
reported s bare input Failed output errors h k w = (failed, h, (refl, k, w))

pub printed_whole : (s : Position) (bare : Bool) (input : Reader) (bytes text : List ℕ) (output errors : Writer) → input.Gives bytes → IsUtf8 bytes → IsLine s bare (chars bytes) text
    → IsUtf8 text → output.Takes text → errors.IsLeft → Ran s bare input 0 output errors
printed_whole s bare input bytes text output errors gives utf8 is whole takes left =
    (printed is.0, inl (bytes, gives, (utf8, is.1, printed_again s bare bytes is.0 text utf8 is.2 whole is.1)), inl (refl, subst output.Takes is.2 takes, left))

pub printed_front : (s : Position) (bare : Bool) (input : Reader) (bytes text : List ℕ) (output errors : Writer) → input.Gives bytes → IsUtf8 bytes → IsLine s bare (chars bytes) text
    → IsUtf8 text → output.Fails text → Writes errors (line failed) → Ran s bare input 1 output errors
printed_front s bare input bytes text output errors gives utf8 is whole fails wrote =
    (printed is.0, inl (bytes, gives, (utf8, is.1, printed_again s bare bytes is.0 text utf8 is.2 whole is.1)), inr (refl, subst output.Fails is.2 fails, wrote))

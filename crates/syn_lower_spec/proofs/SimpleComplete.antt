-- Words, literals and bound lifetimes that are read of their own tokens pass their tests.
use Rattle.std.proofs.Common.{◌≡◌, ℕ, Bool, true, false, not, ◌&&◌, ◌==◌, cond, List, [], ◌∷◌, Option, Some, None, refl, ap, sym, ◌∙◌, subst, arith}
use Rattle.std.proofs.lemmas.Bool.Decides.{nat_tests}
use Rattle.std.specs.Str.{bytes_eq}
use Rattle.syn_lexer.specs.Keywords.{is_reserved_word}
use Rattle.syn_lexer.specs.declared.front.Delimiter.{Delimiter}
use Rattle.syn_lexer.specs.declared.front.Delimiter.TheVariants as del
use Rattle.syn_lexer.specs.declared.front.Spacing.TheVariants as spacing
use Rattle.syn_tokens.specs.Tok.{Tok, ident, punct, literal, group}
use Rattle.syn_lower_spec.specs.declared.label.LitKind.{LitKind}
use Rattle.syn_lower_spec.specs.declared.label.LitKind.TheVariants as kind
use Rattle.syn_lower_spec.specs.Text.{Text, is_segment, is_truth, is_number, number_kind, kind_of}
use Rattle.syn_lower_spec.specs.Same.{same_kind, same_lit, same_toks}
use Rattle.syn_lower_spec.specs.Tree.{LitTree, LifetimesTree}
use Rattle.syn_lower_spec.specs.Form.{Outcome, if_same, listed}
use Rattle.syn_lower_spec.specs.Mark.{sign_at, word_at, lifetime_at, comma, gt}
use Rattle.syn_lower_spec.specs.Part.{word_if, lit_if, truth_if, negative_if, string_if, find_lit, find_const, const_if, name, segment_name, arg_name, is_arg_name, lifetime, lit, unsigned, string, string_at, abi, lifetimes, constant_tokens, any_group}
use Rattle.syn_lower_spec.specs.Kind.{only, of_kind}
use Rattle.syn_lower_spec.specs.Own.{alone, comma_before, enclosed, lifetime_own, number_own, lit_own, lifetimes_own, extern_own, elements_own}
use Rattle.syn_lower_spec.specs.Fits.{has_kind, number_fits, lit_fits, unsigned_fits, of_kind_fits, lifetimes_fit, fits_if, is_string, abi_stops, is_const, is_macro_delimiter}
use Rattle.syn_lower_spec.specs.Laws.{Fitted}
use Rattle.syn_lower_spec.proofs.Weights.{some_is}
use Rattle.syn_lower_spec.proofs.Same.{both_true, same_kind-refl, same_kind-true, same_lit-refl, compares_lits, compares_toks}
use Rattle.syn_lower_spec.proofs.Parts.{lifetime_alike}
use Rattle.syn_lower_spec.proofs.ReadBack.{ends_is, text_same, has_is}
use Rattle.syn_lower_spec.proofs.Complete.{maybe_none, maybe_some, closed_tells, Complete, none_complete, complete, listed_tells}

-- ---- words

word_complete : (b : Bool) (w : Text) (r n : List Tok) → if_same bytes_eq w (word_if b w r) ≡ Some n → Fitted b true r n
word_complete true w r n h = let e : Some r ≡ Some n = rw (text_same w) at h in record { passes = refl; ends = refl; same = some_is (sym e) }
word_complete false w r n h = absurd cc

pub name_complete : (w : Text) (r n : List Tok) → name.behind w (ident w ∷ r) ≡ Some n → Fitted (not (is_reserved_word w)) true r n
unfolding name
name_complete w r n h = word_complete (not (is_reserved_word w)) w r n h

pub segment_name_complete : (w : Text) (r n : List Tok) → segment_name.behind w (ident w ∷ r) ≡ Some n → Fitted (is_segment w) true r n
unfolding segment_name
segment_name_complete w r n h = word_complete (is_segment w) w r n h

pub arg_name_complete : (w : Text) (r n : List Tok) → arg_name.behind w (ident w ∷ r) ≡ Some n → Fitted (is_arg_name w) true r n
unfolding arg_name
arg_name_complete w r n h = word_complete (is_arg_name w) w r n h

pub lifetime_complete : (w : Text) (r n : List Tok) → lifetime.behind w (lifetime_own w r) ≡ Some n → Fitted true true r n
unfolding lifetime lifetime_at
lifetime_complete w r n h = word_complete true w r n h

-- ---- literals

lit_leaf : (o : Option LitKind) (k : LitKind) (text : Text) (r n : List Tok) → if_same same_lit (record { kind = k; text = text }) (lit_if o text r) ≡ Some n → Fitted (has_kind o k) true r n
lit_leaf None k text r n h = absurd cc
lit_leaf (Some j) k text r n h = by_bool (same_lit (record { kind = k; text = text }) (record { kind = j; text = text })) refl h
  where
    by_bool : (b : Bool) → same_lit (record { kind = k; text = text }) (record { kind = j; text = text }) ≡ b → cond b (Some r) None ≡ Some n → Fitted (same_kind j k) true r n
    by_bool true e h =
        let d = ap (λ z. z.kind) (compares_lits.equal (record { kind = k; text = text }) (record { kind = j; text = text }) e) in
        record { passes = subst (λ z. same_kind j z ≡ true) (sym d) (same_kind-refl j); ends = refl; same = some_is (sym h) }
    by_bool false e h = absurd cc

truth_leaf : (b : Bool) (text : Text) (r n : List Tok) → if_same same_lit (record { kind = kind.Bool; text = text }) (truth_if b text r) ≡ Some n → Fitted b true r n
truth_leaf true text r n h = let e : Some r ≡ Some n = rw (same_lit-refl (record { kind = kind.Bool; text = text })) at h in record { passes = refl; ends = refl; same = some_is (sym e) }
truth_leaf false text r n h = absurd cc

negative_leaf : (b : Bool) (k : LitKind) (text : Text) (r n : List Tok) → if_same same_lit (record { kind = k; text = 45 ∷ text }) (negative_if b text r) ≡ Some n → Fitted (b && same_kind (number_kind text) k) true r n
negative_leaf true k text r n h = lit_leaf (Some (number_kind text)) k (45 ∷ text) r n h
negative_leaf false k text r n h = absurd cc

number_complete : (k : LitKind) (text : Text) (r n : List Tok) → lit.behind (record { kind = k; text = text }) (number_own text r) ≡ Some n → Fitted (number_fits k text) true r n
unfolding lit kind_of is_number
number_complete k [] r n h = lit_leaf (kind_of []) k [] r n h
number_complete k (c ∷ text) r n h = by_sign (c == 45) refl h
  where
    by_sign : (b : Bool) → (c == 45) ≡ b → lit.behind (record { kind = k; text = c ∷ text }) (cond b (alone 45 ∷ literal text ∷ r) (literal (c ∷ text) ∷ r)) ≡ Some n
        → Fitted (cond b (is_number text && same_kind (number_kind text) k) (has_kind (kind_of (c ∷ text)) k)) true r n
    by_sign true e h =
        let i : c ≡ 45 = grind (arith, nat_tests, e) in
        negative_leaf (is_number text) k text r n (subst (λ z. if_same same_lit (record { kind = k; text = z ∷ text }) (negative_if (is_number text) text r) ≡ Some n) i h)
    by_sign false e h = lit_leaf (kind_of (c ∷ text)) k (c ∷ text) r n h

pub lit_complete : (x : LitTree) (r n : List Tok) → lit.behind x (lit_own x r) ≡ Some n → Fitted (lit_fits x) true r n
unfolding lit_fits lit_own lit
lit_complete x r n h = by_kind x.kind x.text h
  where
    by_kind : (k : LitKind) (text : Text) → lit.behind (record { kind = k; text = text }) (lit_own (record { kind = k; text = text }) r) ≡ Some n → Fitted (lit_fits (record { kind = k; text = text })) true r n
    by_kind kind.Bool text h = truth_leaf (is_truth text) text r n h
    by_kind kind.Int text h = number_complete kind.Int text r n h
    by_kind kind.Float text h = number_complete kind.Float text r n h
    by_kind d text h = lit_leaf (kind_of text) d text r n h

-- a number without a sign
plain_complete : (k : LitKind) (text : Text) (r n : List Tok) → unsigned.behind (record { kind = k; text = text }) (number_own text r) ≡ Some n → Fitted (has_kind (kind_of text) k) true r n
unfolding unsigned
plain_complete k [] r n h = lit_leaf (kind_of []) k [] r n h
plain_complete k (c ∷ text) r n h = by_sign (c == 45) h
  where
    by_sign : (b : Bool) → unsigned.behind (record { kind = k; text = c ∷ text }) (cond b (alone 45 ∷ literal text ∷ r) (literal (c ∷ text) ∷ r)) ≡ Some n → Fitted (has_kind (kind_of (c ∷ text)) k) true r n
    by_sign true h = absurd cc
    by_sign false h = lit_leaf (kind_of (c ∷ text)) k (c ∷ text) r n h

pub unsigned_complete : (x : LitTree) (r n : List Tok) → unsigned.behind x (lit_own x r) ≡ Some n → Fitted (unsigned_fits x) true r n
unfolding lit_own unsigned
unsigned_complete x r n h = by_kind x.kind x.text h
  where
    by_kind : (k : LitKind) (text : Text) → unsigned.behind (record { kind = k; text = text }) (lit_own (record { kind = k; text = text }) r) ≡ Some n → Fitted (unsigned_fits (record { kind = k; text = text })) true r n
    by_kind kind.Bool text h = truth_leaf (is_truth text) text r n h
    by_kind kind.Int text h = plain_complete kind.Int text r n h
    by_kind kind.Float text h = plain_complete kind.Float text r n h
    by_kind d text h = lit_leaf (kind_of text) d text r n h

-- no literal begins with `-`
sign_is_none : (text : Text) → kind_of (45 ∷ text) ≡ None
unfolding kind_of is_number
sign_is_none text = refl

lit_found : (k : LitKind) (text : Text) (r : List Tok) → has_kind (kind_of text) k ≡ true → if_same same_lit (record { kind = k; text = text }) (lit_if (kind_of text) text r) ≡ Some r
lit_found k text r h = rw (has_is (kind_of text) k h, same_lit-refl (record { kind = k; text = text })) refl

plain_number : (k : LitKind) (text : Text) (r : List Tok) → has_kind (kind_of text) k ≡ true → unsigned.behind (record { kind = k; text = text }) (number_own text r) ≡ Some r
unfolding unsigned
plain_number k [] r h = lit_found k [] r h
plain_number k (c ∷ text) r h = by_sign (c == 45) refl
  where
    by_sign : (b : Bool) → (c == 45) ≡ b → unsigned.behind (record { kind = k; text = c ∷ text }) (cond b (alone 45 ∷ literal text ∷ r) (literal (c ∷ text) ∷ r)) ≡ Some r
    by_sign true e =
        let i : c ≡ 45 = grind (arith, nat_tests, e) in
        let d : has_kind (kind_of (45 ∷ text)) k ≡ true = subst (λ z. has_kind (kind_of (z ∷ text)) k ≡ true) i h in
        let f : has_kind None k ≡ true = rw (sign_is_none text) at d in
        absurd cc
    by_sign false e = lit_found k (c ∷ text) r h

pub unsigned_back : (x : LitTree) (r : List Tok) → unsigned_fits x ≡ true → unsigned.behind x (lit_own x r) ≡ Some r
unfolding lit_own unsigned
unsigned_back x r h = by_kind x.kind x.text h
  where
    by_kind : (k : LitKind) (text : Text) → unsigned_fits (record { kind = k; text = text }) ≡ true → unsigned.behind (record { kind = k; text = text }) (lit_own (record { kind = k; text = text }) r) ≡ Some r
    by_kind kind.Bool text h = rw (h, same_lit-refl (record { kind = kind.Bool; text = text })) refl
    by_kind kind.Int text h = plain_number kind.Int text r h
    by_kind kind.Float text h = plain_number kind.Float text r h
    by_kind d text h = lit_found d text r h

-- one kind alone is the same literal, and of that kind
of_kind_found : (k : LitKind) (x : LitTree) (o : Outcome LitTree) (n : List Tok) → if_same same_lit x (only (λ z. same_kind z.kind k) o) ≡ Some n → (same_kind x.kind k ≡ true) × (if_same same_lit x o ≡ Some n)
of_kind_found k x None n h = absurd cc
of_kind_found k x (Some p) n h = by_kind (same_kind p.0.kind k) refl h
  where
    by_same : (b : Bool) → same_lit x p.0 ≡ b → same_kind p.0.kind k ≡ true → cond b (Some p.1) None ≡ Some n → (same_kind x.kind k ≡ true) × (cond b (Some p.1) None ≡ Some n)
    by_same true e d h = (subst (λ z. same_kind z.kind k ≡ true) (sym (compares_lits.equal x p.0 e)) d, h)
    by_same false e d h = absurd cc

    by_kind : (b : Bool) → same_kind p.0.kind k ≡ b → if_same same_lit x (cond b (Some p) None) ≡ Some n → (same_kind x.kind k ≡ true) × (if_same same_lit x (Some p) ≡ Some n)
    by_kind true e h = by_same (same_lit x p.0) refl e h
    by_kind false e h = absurd cc

pub of_kind_complete : (k : LitKind) (x : LitTree) (r n : List Tok) → (of_kind k).behind x (lit_own x r) ≡ Some n → Fitted (of_kind_fits k x) true r n
unfolding of_kind unsigned
of_kind_complete k x r n h =
    let (e, i) = of_kind_found k x (find_lit (lit_own x r)) n h in
    let q = unsigned_complete x r n i in
    record { passes = rw (e, q.passes) refl; ends = refl; same = q.same }

of_kind_stands : (k : LitKind) (x : LitTree) (o : Outcome LitTree) (n : List Tok) → same_kind x.kind k ≡ true → if_same same_lit x o ≡ Some n → if_same same_lit x (only (λ z. same_kind z.kind k) o) ≡ Some n
of_kind_stands k x None n e h = absurd cc
of_kind_stands k x (Some p) n e h = by_same (same_lit x p.0) refl h
  where
    by_same : (b : Bool) → same_lit x p.0 ≡ b → cond b (Some p.1) None ≡ Some n → if_same same_lit x (only (λ z. same_kind z.kind k) (Some p)) ≡ Some n
    by_same true d h =
        let i : same_kind p.0.kind k ≡ true = subst (λ z. same_kind z.kind k ≡ true) (compares_lits.equal x p.0 d) e in
        rw (i, d) h
    by_same false d h = absurd cc

pub of_kind_back : (k : LitKind) (x : LitTree) (r : List Tok) → of_kind_fits k x ≡ true → (of_kind k).behind x (lit_own x r) ≡ Some r
unfolding of_kind unsigned
of_kind_back k x r h =
    let (a, b) = both_true (same_kind x.kind k) (unsigned_fits x) h in
    of_kind_stands k x (find_lit (lit_own x r)) r a (unsigned_back x r b)

-- ---- `extern` and its string

string_leaf : (o : Option LitKind) (k : LitKind) (text : Text) (r n : List Tok) → if_same same_lit (record { kind = k; text = text }) (string_if o text r) ≡ Some n
    → Fitted (same_kind k kind.Str && has_kind o kind.Str) true r n
string_leaf (Some kind.Str) k text r n h =
    let q = lit_leaf (Some kind.Str) k text r n h in
    let d : kind.Str ≡ k = same_kind-true kind.Str k q.passes in
    record { passes = subst (λ z. (same_kind z kind.Str && true) ≡ true) d refl; ends = refl; same = q.same }
string_leaf _ k text r n h = absurd cc

pub string_complete : (x : LitTree) (r n : List Tok) → string.behind x (lit_own x r) ≡ Some n → Fitted (is_string x) true r n
unfolding string lit_own
string_complete x r n h = by_kind x.kind x.text h
  where
    by_sign : (k : LitKind) (c : ℕ) (text : Text) (b : Bool) → string.behind (record { kind = k; text = c ∷ text }) (cond b (alone 45 ∷ literal text ∷ r) (literal (c ∷ text) ∷ r)) ≡ Some n → Fitted (is_string (record { kind = k; text = c ∷ text })) true r n
    by_sign k c text true h = absurd cc
    by_sign k c text false h = string_leaf (kind_of (c ∷ text)) k (c ∷ text) r n h

    by_number : (k : LitKind) (text : Text) → string.behind (record { kind = k; text = text }) (number_own text r) ≡ Some n → Fitted (is_string (record { kind = k; text = text })) true r n
    by_number k [] h = string_leaf (kind_of []) k [] r n h
    by_number k (c ∷ text) h = by_sign k c text (c == 45) h

    by_kind : (k : LitKind) (text : Text) → string.behind (record { kind = k; text = text }) (lit_own (record { kind = k; text = text }) r) ≡ Some n → Fitted (is_string (record { kind = k; text = text })) true r n
    by_kind kind.Bool text h = absurd cc
    by_kind kind.Int text h = by_number kind.Int text h
    by_kind kind.Float text h = by_number kind.Float text h
    by_kind d text h = string_leaf (kind_of text) d text r n h

pub abi_complete : (o : Option LitTree) (r n : List Tok) → abi.behind o (extern_own o r) ≡ Some n → Fitted (fits_if is_string o) (abi_stops o r) r n
unfolding word_at
abi_complete None r n h =
    let (e, d) = maybe_none string_at string r n h in
    record { passes = refl; ends = rw e refl; same = d }
abi_complete (Some x) r n h =
    let (e, d) = maybe_some string_at string x (lit_own x r) n h in
    let q = string_complete x r n d in
    record { passes = q.passes; ends = refl; same = q.same }

-- ---- bound lifetimes

all_lifetimes : (ws : List Text) → Complete lifetime lifetime_own (λ w. true) (λ w l. true) ws
all_lifetimes [] = none_complete
all_lifetimes (w ∷ ws) = complete (λ l n h. lifetime_complete w l n h) (all_lifetimes ws)

pub lifetimes_complete : (p : LifetimesTree) (r n : List Tok) → lifetimes.behind p (lifetimes_own p r) ≡ Some n → Fitted (lifetimes_fit p) true r n
unfolding lifetimes lifetimes_own sign_at word_at
lifetimes_complete p r n h =
    let tells = λ (m : List Tok) (e : (listed comma gt.at lifetime).behind p (elements_own lifetime_own comma_before p.0 p.1 (alone 62 ∷ r)) ≡ Some m).
    listed_tells lifetime lifetime_own (λ w. true) (λ w l. true) gt.at (λ k. lifetime_alike) p.1 p.0 (alone 62 ∷ r) m (all_lifetimes p.0) e in
    let (i, d) = closed_tells (listed comma gt.at lifetime) p (elements_own lifetime_own comma_before p.0 p.1 (alone 62 ∷ r)) r n (λ m e. let (a, b, c) = tells m e in c) h in
    let (a, b, c) = tells (alone 62 ∷ r) i in
    record { passes = ends_is p.0 p.1 ∙ a; ends = refl; same = d }

-- ---- verbatim tokens

const_found : (l x n : List Tok) → find_const l ≡ Some (x, n) → is_const x ≡ true
const_found (literal text ∷ l) x n h = subst (λ (z : List Tok × List Tok). is_const z.0 ≡ true) (some_is h) refl
const_found (ident text ∷ l) x n h = by_bool (is_truth text) refl h
  where
    by_bool : (b : Bool) → is_truth text ≡ b → const_if b (ident text ∷ []) l ≡ Some (x, n) → is_const x ≡ true
    by_bool true e h = subst (λ (z : List Tok × List Tok). is_const z.0 ≡ true) (some_is h) e
    by_bool false e h = absurd cc
const_found (punct c s ∷ literal text ∷ l) x n h = by_bool (c == 45 && is_number text) refl h
  where
    by_bool : (b : Bool) → (c == 45 && is_number text) ≡ b → const_if b (punct c spacing.Alone ∷ literal text ∷ []) l ≡ Some (x, n) → is_const x ≡ true
    by_bool true e h = subst (λ (z : List Tok × List Tok). is_const z.0 ≡ true) (some_is h) e
    by_bool false e h = absurd cc
const_found (group del.Brace i ∷ l) x n h = subst (λ (z : List Tok × List Tok). is_const z.0 ≡ true) (some_is h) refl
const_found _ x n h = absurd cc

pub const_complete : (ts l n : List Tok) → constant_tokens.behind ts l ≡ Some n → is_const ts ≡ true
unfolding constant_tokens
const_complete ts l n h = by_found (find_const l) refl h
  where
    by_same : (b : Bool) (p : List Tok × List Tok) → same_toks ts p.0 ≡ b → find_const l ≡ Some p → cond b (Some p.1) None ≡ Some n → is_const ts ≡ true
    by_same true p e f h = subst (λ z. is_const z ≡ true) (sym (compares_toks.equal ts p.0 e)) (const_found l p.0 p.1 f)
    by_same false p e f h = absurd cc

    by_found : (o : Outcome (List Tok)) → find_const l ≡ o → if_same same_toks ts o ≡ Some n → is_const ts ≡ true
    by_found None f h = absurd cc
    by_found (Some p) f h = by_same (same_toks ts p.0) p refl f h

pub group_complete : (d : Delimiter) (ts r n : List Tok) → any_group.behind (d, ts) (enclosed d ts r) ≡ Some n → is_macro_delimiter d ≡ true
unfolding any_group
group_complete del.None ts r n h = absurd cc
group_complete _ ts r n h = refl

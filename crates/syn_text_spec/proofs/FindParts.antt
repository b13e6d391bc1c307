-- The leaves of types and paths that are read of a list that a text falls into.
use Rattle.std.proofs.Common.{◌≡◌, ℕ, Bool, true, false, not, ◌&&◌, ◌||◌, cond, List, [], ◌∷◌, Option, Some, None, refl, sym, ◌∙◌, ap, subst, inl, inr}
use Rattle.std.specs.Prelude.{◌==◌, if◌then◌else◌, ◌⊎◌}
use Rattle.std.specs.Str.{bytes_eq}
use Rattle.std.proofs.lemmas.Bool.{and_from, eqb-true}
use Rattle.syn_lexer.specs.Keywords.{is_reserved_word}
use Rattle.syn_lexer.specs.declared.front.Delimiter.{Delimiter}
use Rattle.syn_lexer.specs.declared.front.Delimiter.TheVariants as del
use Rattle.syn_lexer.specs.declared.front.Spacing.{Spacing}
use Rattle.syn_lexer.specs.declared.front.Spacing.TheVariants as spacing
use Rattle.syn_tokens.specs.Tok.{Tok, Inside, toks, inside, ident, punct, literal, group}
use Rattle.syn_lower_spec.specs.declared.label.LitKind.{LitKind}
use Rattle.syn_lower_spec.specs.declared.label.LitKind.TheVariants as kind
use Rattle.syn_lower_spec.specs.declared.label.PathStyle.{PathStyle}
use Rattle.syn_lower_spec.specs.declared.label.PathStyle.TheVariants as style
use Rattle.syn_lower_spec.specs.Text.{Text, byte_at, is_segment, is_truth, is_number, is_float_text, number_kind, kind_of}
use Rattle.syn_lower_spec.specs.Same.{same_lit, same_toks, same_group}
use Rattle.syn_lower_spec.specs.Tree as t
use Rattle.syn_lower_spec.specs.Tree.{LitTree, AttributeTree, LifetimesTree, TypeTree, SegmentTree, PathTree, FnArgTree, GenericTree, BoundTree}
use Rattle.syn_lower_spec.specs.Form.{Form, Outcome, is_true}
use Rattle.syn_lower_spec.specs.Mark.{lifetime_at, comma, pound, gt, less, lt, eq, colon2, arrow, plus, semi, question, not_ne, lone_colon, and, star, bang, underscore, implementing, dynamic, mutable, constant, as_word, for_word, unsafe_word, extern_word, fn_word}
use Rattle.syn_lower_spec.specs.Part as p
use Rattle.syn_lower_spec.specs.Part.{QPathTree}
use Rattle.syn_lower_spec.specs.Own.{lit_own, lit_own_by, number_own, alone}
use Rattle.syn_lower_spec.proofs.Weights.{some_is}
use Rattle.syn_text.specs.Lexed.{is_ident_text, is_literal_text, is_written, sees_plain_ident, stays, inside_is_lexed, is_lexed}
use Rattle.syn_text.proofs.Again.{lexed_inside}
use Rattle.syn_text_spec.specs.Leaves.{word_lexed, lifetime_lexed, lit_lexed, group_lexed, lexed_if, attributes_lexed, lifetimes_lexed, type_lexed, types_lexed, qself_lexed, segments_lexed, arguments_lexed, generics_lexed, generic_lexed, return_lexed, args_lexed, bounds_lexed, bound_lexed, path_lexed, qualified_lexed}
use Rattle.syn_text_spec.proofs.Lists.{Lexed, nil}
use Rattle.syn_text_spec.proofs.Finds.{behind, stays_here, in_group, group_parts, Finds, when_finds, mark_finds, then_by_finds, both_finds, shown_finds, pure_finds, leaf_finds, inside_finds, fix_finds, Each, EachOf, each_lexed, each_append, listed_finds, more_finds, joined_finds, Nothing, IfThere, maybe_finds, closed_by_finds, flag_finds, case_finds, group_case_finds}

-- what passes this test
abbrev pub Ok : {A : Type 0} → (A → Bool) → A → Type 0
Ok test x = test x ≡ true

pub if_there : {A : Type 0} (test : A → Bool) (o : Option A) → IfThere (Ok test) o → lexed_if test o ≡ true
if_there test None h = refl
if_there test (Some x) h = h

-- ---- words

pub front_word : (w : Text) {l : List Tok} → Lexed (ident w ∷ l) → word_lexed w ≡ true
front_word w h = and_from (is_ident_text w) true (stays_here h) refl

pub front_literal : (w : Text) {l : List Tok} → Lexed (literal w ∷ l) → is_lexed (literal w ∷ []) ≡ true
front_literal w h = and_from (is_literal_text w) true (stays_here h) refl

-- a word, and what is after it
abbrev Word : Text × List Tok → Type 0
Word z = (word_lexed z.0 ≡ true) × Lexed z.1

word_found : (b : Bool) (w : Text) (l : List Tok) (x : Text) (n : List Tok) → p.word_if b w l ≡ Some (x, n) → Lexed (ident w ∷ l) → (word_lexed x ≡ true) × Lexed n
word_found true w l x n h g = subst Word (some_is h) (front_word w g, behind g)
word_found false w l x n h g = absurd cc

pub name_finds : Finds (Ok word_lexed) p.name
unfolding p.name
name_finds = leaf_finds bytes_eq found
  where
    found : (l : List Tok) (x : Text) (n : List Tok) → p.find_ident l ≡ Some (x, n) → Lexed l → (word_lexed x ≡ true) × Lexed n
    found (ident w ∷ l) x n h g = word_found (not (is_reserved_word w)) w l x n h g
    found _ x n h g = absurd cc

segment_name_finds : Finds (Ok word_lexed) p.segment_name
unfolding p.segment_name
segment_name_finds = leaf_finds bytes_eq found
  where
    found : (l : List Tok) (x : Text) (n : List Tok) → p.find_segment l ≡ Some (x, n) → Lexed l → (word_lexed x ≡ true) × Lexed n
    found (ident w ∷ l) x n h g = word_found (is_segment w) w l x n h g
    found _ x n h g = absurd cc

arg_name_finds : Finds (Ok word_lexed) p.arg_name
unfolding p.arg_name
arg_name_finds = leaf_finds bytes_eq found
  where
    found : (l : List Tok) (x : Text) (n : List Tok) → p.find_arg_name l ≡ Some (x, n) → Lexed l → (word_lexed x ≡ true) × Lexed n
    found (ident w ∷ l) x n h g = word_found (p.is_arg_name w) w l x n h g
    found _ x n h g = absurd cc

abbrev Life : Text × List Tok → Type 0
Life z = (lifetime_lexed z.0 ≡ true) × Lexed z.1

pub lifetime_finds : Finds (Ok lifetime_lexed) p.lifetime
unfolding p.lifetime lifetime_at
lifetime_finds = record { finds = found }
  where
    quoted : (b : Bool) (c : ℕ) (w : Text) (l : List Tok) (x : Text) (n : List Tok) → (c == 39) ≡ b → cond {A = Outcome Text} b (Some (w, l)) None ≡ Some (x, n)
        → Lexed (punct c spacing.Joint ∷ ident w ∷ l) → (lifetime_lexed x ≡ true) × Lexed n
    quoted true c w l x n e h g =
        let plain : sees_plain_ident (ident w ∷ []) ≡ true = subst (λ d. stays (punct d spacing.Joint) (ident w ∷ l) ≡ true) (eqb-true c 39 e) (stays_here g) in
        subst Life (some_is h) (and_from (sees_plain_ident (ident w ∷ [])) (is_lexed (ident w ∷ [])) plain (front_word w (behind g)), behind (behind g))
    quoted false c w l x n e h g = absurd cc

    found : (l : List Tok) (x : Text) (n : List Tok) → p.lifetime.reads l ≡ Some (x, n) → Lexed l → (lifetime_lexed x ≡ true) × Lexed n
    found (punct c spacing.Joint ∷ ident w ∷ l) x n h g = quoted (c == 39) c w l x n refl h g
    found _ x n h g = absurd cc

-- ---- literals

-- no literal's text is that of a truth value, and none begins with a sign
no_truth : (a b c d e f g : Bool)
    → (if a then Some (if g then kind.Float else kind.Int) else (if b then Some kind.Str else (if c then Some kind.Char else (if d then (if e then Some kind.Byte else Some kind.ByteStr) else (if f then Some kind.CStr else None))))) ≡ Some kind.Bool → ⊥
no_truth true b c d e f true h = cc
no_truth true b c d e f false h = cc
no_truth false true c d e f g h = cc
no_truth false false true d e f g h = cc
no_truth false false false true true f g h = cc
no_truth false false false true false f g h = cc
no_truth false false false false e true g h = cc
no_truth false false false false e false g h = cc

pub no_truth_kind : (w : Text) → kind_of w ≡ Some kind.Bool → ⊥
unfolding kind_of
no_truth_kind w h =
    no_truth (is_number w) (byte_at w 0 == 34 || byte_at w 0 == 114) (byte_at w 0 == 39) (byte_at w 0 == 98) (byte_at w 1 == 39) (byte_at w 0 == 99) (is_float_text w) h

pub no_sign_kind : (z : Text) (k : LitKind) → kind_of (45 ∷ z) ≡ Some k → ⊥
unfolding kind_of is_number
no_sign_kind z k h = cc

number_is : (w : Text) (k : LitKind) → kind_of w ≡ Some k → number_own w [] ≡ literal w ∷ []
number_is [] k h = refl
number_is (c ∷ z) k h = by (c == 45) refl
  where
    by : (b : Bool) → (c == 45) ≡ b → (if b then alone 45 ∷ literal z ∷ [] else literal (c ∷ z) ∷ []) ≡ literal (c ∷ z) ∷ []
    by true e = absurd (no_sign_kind z k (subst (λ d. kind_of (d ∷ z) ≡ Some k) (eqb-true c 45 e) h))
    by false e = refl

literal_is : (k : LitKind) (w : Text) → kind_of w ≡ Some k → lit_own_by k w [] ≡ literal w ∷ []
literal_is kind.Bool w h = absurd (no_truth_kind w h)
literal_is kind.Int w h = number_is w kind.Int h
literal_is kind.Float w h = number_is w kind.Float h
literal_is _ w h = refl

lit_by : (k : LitKind) (w : Text) → is_lexed (lit_own_by k w []) ≡ true → lit_lexed (record { kind = k; text = w }) ≡ true
unfolding lit_lexed lit_own
lit_by k w h = h

abbrev Lit : LitTree × List Tok → Type 0
Lit z = (lit_lexed z.0 ≡ true) × Lexed z.1

literal_found : (o : Option LitKind) (w : Text) (l : List Tok) (x : LitTree) (n : List Tok) → kind_of w ≡ o → p.lit_if o w l ≡ Some (x, n) → Lexed (literal w ∷ l) → (lit_lexed x ≡ true) × Lexed n
literal_found (Some k) w l x n e h g = subst Lit (some_is h) (lit_by k w (ap is_lexed (literal_is k w e) ∙ front_literal w g), behind g)
literal_found None w l x n e h g = absurd cc

truth_found : (b : Bool) (w : Text) (l : List Tok) (x : LitTree) (n : List Tok) → p.truth_if b w l ≡ Some (x, n) → Lexed (ident w ∷ l) → (lit_lexed x ≡ true) × Lexed n
truth_found true w l x n h g = subst Lit (some_is h) (lit_by kind.Bool w (front_word w g), behind g)
truth_found false w l x n h g = absurd cc

signed_own : (k : LitKind) (w : Text) → (k ≡ kind.Int) ⊎ (k ≡ kind.Float) → is_lexed (literal w ∷ []) ≡ true → lit_lexed (record { kind = k; text = 45 ∷ w }) ≡ true
unfolding lit_lexed lit_own
signed_own k w (inl e) h = subst (λ j. is_lexed (lit_own_by j (45 ∷ w) []) ≡ true) (sym e) h
signed_own k w (inr e) h = subst (λ j. is_lexed (lit_own_by j (45 ∷ w) []) ≡ true) (sym e) h

number_kinds : (w : Text) → (number_kind w ≡ kind.Int) ⊎ (number_kind w ≡ kind.Float)
number_kinds w = by (is_float_text w)
  where
    by : (b : Bool) → ((if b then kind.Float else kind.Int) ≡ kind.Int) ⊎ ((if b then kind.Float else kind.Int) ≡ kind.Float)
    by true = inr refl
    by false = inl refl

negative_found : (b : Bool) (c : ℕ) (s : Spacing) (w : Text) (l : List Tok) (x : LitTree) (n : List Tok) → p.negative_if b w l ≡ Some (x, n) → Lexed (punct c s ∷ literal w ∷ l) → (lit_lexed x ≡ true) × Lexed n
negative_found true c s w l x n h g = let m = behind g in subst Lit (some_is h) (signed_own (number_kind w) w (number_kinds w) (front_literal w m), behind m)
negative_found false c s w l x n h g = absurd cc

lit_found : (l : List Tok) (x : LitTree) (n : List Tok) → p.find_lit l ≡ Some (x, n) → Lexed l → (lit_lexed x ≡ true) × Lexed n
lit_found (literal w ∷ l) x n h g = literal_found (kind_of w) w l x n refl h g
lit_found (ident w ∷ l) x n h g = truth_found (is_truth w) w l x n h g
lit_found _ x n h g = absurd cc

pub unsigned_finds : Finds (Ok lit_lexed) p.unsigned
unfolding p.unsigned
unsigned_finds = leaf_finds same_lit lit_found

pub signed_finds : Finds (Ok lit_lexed) p.lit
unfolding p.lit
signed_finds = leaf_finds same_lit found
  where
    found : (l : List Tok) (x : LitTree) (n : List Tok) → p.find_signed l ≡ Some (x, n) → Lexed l → (lit_lexed x ≡ true) × Lexed n
    found (punct c s ∷ literal w ∷ l) x n h g = negative_found (c == 45 && is_number w) c s w l x n h g
    found [] x n h g = absurd cc
    found (punct c s ∷ []) x n h g = absurd cc
    found (punct c s ∷ ident w ∷ l) x n h g = absurd cc
    found (punct c s ∷ punct d r ∷ l) x n h g = absurd cc
    found (punct c s ∷ group d i ∷ l) x n h g = absurd cc
    found (literal w ∷ l) x n h g = lit_found (literal w ∷ l) x n h g
    found (ident w ∷ l) x n h g = lit_found (ident w ∷ l) x n h g
    found (group d i ∷ l) x n h g = absurd cc

string_found : (o : Option LitKind) (w : Text) (l : List Tok) (x : LitTree) (n : List Tok) → p.string_if o w l ≡ Some (x, n) → Lexed (literal w ∷ l) → (lit_lexed x ≡ true) × Lexed n
string_found (Some kind.Str) w l x n h g = subst Lit (some_is h) (lit_by kind.Str w (front_literal w g), behind g)
string_found _ w l x n h g = absurd cc

string_finds : Finds (Ok lit_lexed) p.string
unfolding p.string
string_finds = leaf_finds same_lit found
  where
    found : (l : List Tok) (x : LitTree) (n : List Tok) → p.find_string l ≡ Some (x, n) → Lexed l → (lit_lexed x ≡ true) × Lexed n
    found (literal w ∷ l) x n h g = string_found (kind_of w) w l x n h g
    found _ x n h g = absurd cc

-- ---- tokens that are kept

abbrev Kept : List Tok × List Tok → Type 0
Kept z = (is_lexed z.0 ≡ true) × Lexed z.1

pub verbatim_finds : (d : Delimiter) → Finds (Ok is_lexed) (p.verbatim d)
unfolding p.verbatim
verbatim_finds d = leaf_finds same_toks (λ l x n h g. let q = group_parts d l x n h g in (q.0.is, q.1))

-- a group with what is in it
abbrev pub OfGroup : Delimiter × List Tok → Type 0
OfGroup z = group_lexed z.0 z.1 ≡ true

abbrev GroupFound : (Delimiter × List Tok) × List Tok → Type 0
GroupFound z = OfGroup z.0 × Lexed z.1

pub any_group_finds : Finds OfGroup p.any_group
unfolding p.any_group
any_group_finds = leaf_finds same_group found
  where
    kept : (d : Delimiter) (i : Inside) (l : List Tok) (x : Delimiter × List Tok) (n : List Tok) → ◌≡◌ {A = Outcome (Delimiter × List Tok)} (Some ((d, toks i), l)) (Some (x, n))
        → Lexed (group d i ∷ l) → OfGroup x × Lexed n
    kept d i l x n h g =
        let q = in_group g in
        let all : group_lexed d (toks i) ≡ true =
        and_from (is_written d && inside_is_lexed (inside (toks i))) true (and_from (is_written d) (inside_is_lexed (inside (toks i))) q.1 (lexed_inside (toks i) ∙ q.0.is)) refl in
        subst GroupFound (some_is h) (all, q.2)

    found : (l : List Tok) (x : Delimiter × List Tok) (n : List Tok) → p.find_group l ≡ Some (x, n) → Lexed l → OfGroup x × Lexed n
    found (group del.Parenthesis i ∷ l) x n h g = kept del.Parenthesis i l x n h g
    found (group del.Brace i ∷ l) x n h g = kept del.Brace i l x n h g
    found (group del.Bracket i ∷ l) x n h g = kept del.Bracket i l x n h g
    found _ x n h g = absurd cc

rest_of_finds : Finds (Ok is_lexed) p.rest_of
unfolding p.rest_of
rest_of_finds = leaf_finds same_toks found
  where
    found : (l : List Tok) (x : List Tok) (n : List Tok) → p.find_all l ≡ Some (x, n) → Lexed l → (is_lexed x ≡ true) × Lexed n
    found [] x n h g = absurd cc
    found (y ∷ l) x n h g = subst Kept (some_is h) (g.is, nil)

constant_finds : Finds (Ok is_lexed) p.constant_tokens
unfolding p.constant_tokens
constant_finds = leaf_finds same_toks found
  where
    const_found : (b : Bool) (ts l : List Tok) (x n : List Tok) → p.const_if b ts l ≡ Some (x, n) → is_lexed ts ≡ true → Lexed l → (is_lexed x ≡ true) × Lexed n
    const_found true ts l x n h k g = subst Kept (some_is h) (k, g)
    const_found false ts l x n h k g = absurd cc

    minus : (b : Bool) (c : ℕ) (w : Text) (l : List Tok) (x n : List Tok) → (c == 45) ≡ b → p.const_if (b && is_number w) (punct c spacing.Alone ∷ literal w ∷ []) l ≡ Some (x, n)
        → is_lexed (literal w ∷ []) ≡ true → Lexed l → (is_lexed x ≡ true) × Lexed n
    minus true c w l x n e h k g =
        let one : is_lexed (punct c spacing.Alone ∷ literal w ∷ []) ≡ true = subst (λ d. is_lexed (punct d spacing.Alone ∷ literal w ∷ []) ≡ true) (sym (eqb-true c 45 e)) k in
        const_found (is_number w) (punct c spacing.Alone ∷ literal w ∷ []) l x n h one g
    minus false c w l x n e h k g = absurd cc

    found : (l : List Tok) (x : List Tok) (n : List Tok) → p.find_const l ≡ Some (x, n) → Lexed l → (is_lexed x ≡ true) × Lexed n
    found (literal w ∷ l) x n h g = subst Kept (some_is h) (front_literal w g, behind g)
    found (ident w ∷ l) x n h g = const_found (is_truth w) (ident w ∷ []) l x n h (front_word w g) (behind g)
    found (punct c s ∷ literal w ∷ l) x n h g = minus (c == 45) c w l x n refl h (front_literal w (behind g)) (behind (behind g))
    found (group del.Brace i ∷ l) x n h g = subst Kept (some_is h) (and_from (is_written del.Brace && inside_is_lexed i) true (stays_here g) refl, behind g)
    found _ x n h g = absurd cc

outer_body_finds : Finds (λ (a : AttributeTree). is_lexed a.tokens ≡ true) p.outer_body
unfolding p.outer_body
outer_body_finds = shown_finds p.to_outer p.from_outer (verbatim_finds del.Bracket) (λ ts h. h)

inner_body_finds : Finds (λ (a : AttributeTree). is_lexed a.tokens ≡ true) p.inner_body
unfolding p.inner_body
inner_body_finds = shown_finds p.to_inner p.from_inner (verbatim_finds del.Bracket) (λ ts h. h)

attributes_found : (ats : List AttributeTree) → Each (λ (a : AttributeTree). is_lexed a.tokens ≡ true) ats → attributes_lexed ats ≡ true
attributes_found ats h = each_lexed (λ (a : AttributeTree). is_lexed a.tokens) ats h

-- the same form with a weaker answer
pub weaker_finds : {A : Type 0} {P Q : A → Type 0} {f : Form A} → Finds P f → ((x : A) → P x → Q x) → Finds Q f
weaker_finds a k = record { finds = λ l x n h g. let q = a.finds l x n h g in (k x q.0, q.1) }

pub outer_finds : Finds (Ok attributes_lexed) p.outer_attributes
unfolding p.outer_attributes
outer_finds = weaker_finds (more_finds pound outer_body_finds) attributes_found

pub inner_finds : Finds (Ok attributes_lexed) p.inner_attributes
unfolding p.inner_attributes
inner_finds = weaker_finds (more_finds p.pound_bang inner_body_finds) attributes_found

pub block_finds : Finds (Ok is_lexed) p.block
unfolding p.block
block_finds = verbatim_finds del.Brace

-- ---- parts without types

pub no_arguments_finds : Finds (Ok arguments_lexed) p.no_arguments
unfolding p.no_arguments
no_arguments_finds = pure_finds t.no_arguments p.has_none refl

lifetimes_found : (x : LifetimesTree) → EachOf (Ok lifetime_lexed) x → lifetimes_lexed x ≡ true
lifetimes_found x h = each_lexed lifetime_lexed x.0 h

pub lifetimes_finds : Finds (Ok lifetimes_lexed) p.lifetimes
unfolding p.lifetimes
lifetimes_finds = weaker_finds (mark_finds for_word (mark_finds less (closed_by_finds gt (listed_finds comma gt.at lifetime_finds)))) lifetimes_found

pub mutability_finds : Finds Nothing p.mutability
mutability_finds = case_finds mutable (pure_finds {P = Nothing} true is_true tt) (mark_finds constant (pure_finds {P = Nothing} false not tt))

abi_finds : Finds (IfThere (Ok lit_lexed)) p.abi
abi_finds = mark_finds extern_word (maybe_finds p.string_at string_finds)

-- lifetimes, and the string of `extern`
abbrev Head : p.FnHead → Type 0
Head x = IfThere (Ok lifetimes_lexed) x.0 × Nothing x.1.0 × IfThere (IfThere (Ok lit_lexed)) x.1.1

fn_head_finds : Finds Head p.fn_head
unfolding p.fn_head
fn_head_finds =
    weaker_finds (both_finds (maybe_finds p.lifetimes_at lifetimes_finds) (both_finds (flag_finds unsafe_word) (maybe_finds extern_word.at abi_finds)))
    (λ x h. (h.0, h.1.0, h.1.1))

pub macro_end_finds : (q : QPathTree) → Finds (IfThere OfGroup) (p.macro_end q)
unfolding p.macro_end
macro_end_finds q = maybe_finds _ (mark_finds not_ne any_group_finds)

-- ---- lists as the trees hold them

types_found : (xs : List TypeTree) → Each (Ok type_lexed) xs → types_lexed (t.types_of xs) ≡ true
types_found [] h = refl
types_found (x ∷ xs) h = and_from (type_lexed x) (types_lexed (t.types_of xs)) h.0 (types_found xs h.1)

-- a segment's name and arguments
abbrev pub Segment : SegmentTree → Type 0
Segment s = (word_lexed s.ident ≡ true) × (arguments_lexed s.arguments ≡ true)

pub segments_found : (ss : List SegmentTree) → Each Segment ss → segments_lexed (t.segments_of ss) ≡ true
segments_found [] h = refl
segments_found (s ∷ ss) h =
    and_from (word_lexed s.ident) _ h.0.0 (and_from (arguments_lexed s.arguments) (segments_lexed (t.segments_of ss)) h.0.1 (segments_found ss h.1))

generics_found : (gs : List GenericTree) → Each (Ok generic_lexed) gs → generics_lexed (t.generics_of gs) ≡ true
generics_found [] h = refl
generics_found (g ∷ gs) h = and_from (generic_lexed g) (generics_lexed (t.generics_of gs)) h.0 (generics_found gs h.1)

abbrev Arg : FnArgTree → Type 0
Arg x = (lexed_if word_lexed x.name ≡ true) × (type_lexed x.ty ≡ true)

args_found : (xs : List FnArgTree) → Each Arg xs → args_lexed (t.args_of xs) ≡ true
args_found [] h = refl
args_found (x ∷ xs) h = and_from (lexed_if word_lexed x.name) _ h.0.0 (and_from (type_lexed x.ty) (args_lexed (t.args_of xs)) h.0.1 (args_found xs h.1))

bounds_found : (bs : List BoundTree) → Each (Ok bound_lexed) bs → bounds_lexed (t.bounds_of bs) ≡ true
bounds_found [] h = refl
bounds_found (b ∷ bs) h = and_from (bound_lexed b) (bounds_lexed (t.bounds_of bs)) h.0 (bounds_found bs h.1)

-- a path with its segments as a list, and a qualified one
abbrev pub Path : PathTree → Type 0
Path x = Each Segment x.segments

abbrev pub QPath : QPathTree → Type 0
QPath q = (qself_lexed q.0 ≡ true) × Path q.1

pub path_found : (x : PathTree) → Path x → path_lexed x ≡ true
path_found x h = segments_found x.segments h

pub qpath_found : (q : QPathTree) → QPath q → qualified_lexed q.0 q.1 ≡ true
qpath_found q h = and_from (qself_lexed q.0) (path_lexed q.1) h.0 (path_found q.1 h.1)

-- ---- parts that hold types

module _ {type : Bool → Form TypeTree} (again : (b : Bool) → Finds (Ok type_lexed) (type b)) where
  pub output_finds : (b : Bool) → Finds (Ok return_lexed) (p.output type b)
  unfolding p.output
  output_finds b = case_finds arrow (shown_finds t.given p.from_given (again b) (λ x h. h)) (pure_finds t.default p.is_default refl)

  generic_finds : Finds (Ok generic_lexed) (p.generic type)
  unfolding p.generic
  generic_finds =
      when_finds _ (shown_finds t.a_lifetime p.from_lifetime lifetime_finds (λ w h. h))
      (when_finds _ (shown_finds t.a_const p.from_const constant_finds (λ ts h. h))
      (when_finds _ (shown_finds p.to_assoc p.from_assoc (both_finds name_finds (mark_finds eq (again true))) (λ x h. and_from (word_lexed x.0) (type_lexed x.1) h.0 h.1))
      (shown_finds t.a_type p.from_type (again true) (λ x h. h))))

  angle_finds : Finds (EachOf (Ok generic_lexed)) (p.angle type)
  unfolding p.angle
  angle_finds = mark_finds lt (closed_by_finds gt (listed_finds comma gt.at generic_finds))

  pub angle_bracketed_finds : Finds (Ok arguments_lexed) (p.angle_bracketed type)
  unfolding p.angle_bracketed
  angle_bracketed_finds = shown_finds p.to_angle p.from_angle (both_finds (flag_finds colon2) angle_finds) (λ x h. generics_found x.1.0 h.1)

  parenthesized_finds : Finds (Ok arguments_lexed) (p.parenthesized type)
  unfolding p.parenthesized
  parenthesized_finds =
      shown_finds p.to_round p.from_round (both_finds (inside_finds del.Parenthesis (listed_finds comma _ (again true))) (output_finds false))
      (λ x h. and_from (types_lexed (t.types_of x.0.0)) (return_lexed x.1) (types_found x.0.0 h.0) h.1)

  pub arguments_finds : (s : PathStyle) → Finds (Ok arguments_lexed) (p.arguments type s)
  unfolding p.arguments
  arguments_finds style.Mod = no_arguments_finds
  arguments_finds style.Expr = when_finds _ angle_bracketed_finds no_arguments_finds
  arguments_finds style.Type = when_finds _ angle_bracketed_finds (when_finds _ parenthesized_finds no_arguments_finds)

  pub segment_finds : (s : PathStyle) → Finds Segment (p.segment type s)
  unfolding p.segment
  segment_finds s = shown_finds p.to_segment p.from_segment (then_by_finds segment_name_finds (λ w. when_finds _ no_arguments_finds (arguments_finds s))) (λ x h. h)

  pieces_finds : (s : PathStyle) → Finds (λ (x : Bool × List SegmentTree). Each Segment x.1) (p.pieces type s)
  unfolding p.pieces
  pieces_finds s = weaker_finds (both_finds (flag_finds colon2) (joined_finds colon2 (segment_finds s))) (λ x h. h.1)

  pub path_finds : (s : PathStyle) → Finds Path (p.path type s)
  unfolding p.path
  path_finds s = shown_finds p.to_path p.from_path (pieces_finds s) (λ x h. h)

  qualified_finds : (s : PathStyle) → Finds QPath (p.qualified type s)
  unfolding p.qualified
  qualified_finds s =
      shown_finds p.to_qualified p.from_qualified
      (both_finds (closed_by_finds gt (both_finds (again true) (maybe_finds as_word.at (mark_finds as_word (pieces_finds style.Type))))) (mark_finds colon2 (joined_finds colon2 (segment_finds s))))
      made
    where
      made : (x : p.Qualified × List SegmentTree)
          → ((type_lexed x.0.0 ≡ true) × IfThere (λ (y : Bool × List SegmentTree). Each Segment y.1) x.0.1) × Each Segment x.1 → QPath (p.to_qualified x)
      made ((x, None), ss) h = (h.0.0, h.1)
      made ((x, Some y), ss) h = (h.0.0, each_append Segment y.1 ss h.0.1 h.1)

  pub qpath_finds : (s : PathStyle) → Finds QPath (p.qpath type s)
  unfolding p.qpath
  qpath_finds s = case_finds less (qualified_finds s) (shown_finds p.to_bare p.from_bare (path_finds s) (λ x h. (refl, h)))

  trait_finds : Finds (Ok bound_lexed) (p.trait_bound type)
  trait_finds =
      shown_finds p.to_trait p.from_trait (both_finds (flag_finds question) (both_finds (maybe_finds p.lifetimes_at lifetimes_finds) (path_finds style.Type)))
      (λ x h. and_from (lexed_if lifetimes_lexed x.1.0) (segments_lexed (t.segments_of x.1.1.segments)) (if_there lifetimes_lexed x.1.0 h.1.0) (segments_found x.1.1.segments h.1.1))

  bound_finds : Finds (Ok bound_lexed) (p.bound type)
  unfolding p.bound
  bound_finds = when_finds _ (shown_finds t.outlives p.from_outlives lifetime_finds (λ w h. h)) trait_finds

  bounds_finds : (b : Bool) → Finds (EachOf (Ok bound_lexed)) (p.bounds type b)
  unfolding p.bounds
  bounds_finds b = when_finds _ (shown_finds p.to_several p.from_several (joined_finds plus bound_finds) (λ bs h. h)) (shown_finds p.to_one p.from_one bound_finds (λ x h. (h, tt)))

  reference_finds : Finds (Ok type_lexed) (p.reference type)
  unfolding p.reference
  reference_finds =
      shown_finds p.to_reference p.from_reference (both_finds (maybe_finds lifetime_at lifetime_finds) (both_finds (flag_finds mutable) (again false)))
      (λ x h. and_from (lexed_if lifetime_lexed x.0) (type_lexed x.1.1) (if_there lifetime_lexed x.0 h.0) h.1.1)

  pointer_finds : Finds (Ok type_lexed) (p.pointer type)
  unfolding p.pointer
  pointer_finds = shown_finds p.to_pointer p.from_pointer (both_finds mutability_finds (again false)) (λ x h. h.1)

  row_finds : Finds (Ok type_lexed) (p.slice_or_array type)
  unfolding p.slice_or_array
  row_finds = shown_finds p.to_row p.from_row (both_finds (again true) (maybe_finds semi.at (mark_finds semi rest_of_finds))) made
    where
      made : (x : TypeTree × Option (List Tok)) → (type_lexed x.0 ≡ true) × IfThere (Ok is_lexed) x.1 → type_lexed (p.to_row x) ≡ true
      made (x, None) h = h.0
      made (x, Some ts) h = and_from (type_lexed x) (is_lexed ts) h.0 h.1

  round_finds : Finds (Ok type_lexed) (p.tuple_or_paren type)
  unfolding p.tuple_or_paren
  round_finds = shown_finds p.to_tuple p.from_tuple (listed_finds comma _ (again true)) made
    where
      made : (x : List TypeTree × Bool) → Each (Ok type_lexed) x.0 → type_lexed (p.to_tuple x) ≡ true
      made ([], c) h = refl
      made (x ∷ [], true) h = types_found (x ∷ []) h
      made (x ∷ [], false) h = h.0
      made (x ∷ y ∷ ts, c) h = types_found (x ∷ y ∷ ts) h

  fn_arg_finds : Finds Arg (p.fn_arg type)
  unfolding p.fn_arg
  fn_arg_finds =
      shown_finds p.to_arg p.from_arg (both_finds (maybe_finds p.arg_name_at (closed_by_finds lone_colon arg_name_finds)) (again true))
      (λ x h. (if_there word_lexed x.0 h.0, h.1))

  fn_pointer_finds : Finds (Ok type_lexed) (p.fn_pointer type)
  unfolding p.fn_pointer
  fn_pointer_finds =
      shown_finds p.to_fn p.from_fn (both_finds fn_head_finds (mark_finds fn_word (both_finds (inside_finds del.Parenthesis (listed_finds comma _ fn_arg_finds)) (output_finds false))))
      (λ x h. and_from (lexed_if lifetimes_lexed x.0.0) _ (if_there lifetimes_lexed x.0.0 h.0.0)
      (and_from (lexed_if (lexed_if lit_lexed) x.0.1.1) _ (string_there x.0.1.1 h.0.2)
      (and_from (args_lexed (t.args_of x.1.0.0)) (return_lexed x.1.1) (args_found x.1.0.0 h.1.0) h.1.1)))
    where
      string_there : (o : Option (Option LitTree)) → IfThere (IfThere (Ok lit_lexed)) o → lexed_if (lexed_if lit_lexed) o ≡ true
      string_there None h = refl
      string_there (Some o) h = if_there lit_lexed o h

  implements_finds : (b : Bool) → Finds (Ok type_lexed) (p.implements type b)
  unfolding p.implements
  implements_finds b = shown_finds p.to_impl p.from_impl (bounds_finds b) (λ x h. bounds_found x.0 h)

  object_finds : (b : Bool) → Finds (Ok type_lexed) (p.object type b)
  unfolding p.object
  object_finds b = shown_finds p.to_object p.from_object (bounds_finds b) (λ x h. bounds_found x.0 h)

  named_finds : Finds (Ok type_lexed) (p.named type)
  unfolding p.named
  named_finds = shown_finds p.to_named p.from_named (then_by_finds (qpath_finds style.Type) (λ q. macro_end_finds q)) made
    where
      made : (x : QPathTree × p.MacroEnd) → QPath x.0 × IfThere OfGroup x.1 → type_lexed (p.to_named x) ≡ true
      made ((q, y), None) h = qpath_found (q, y) h.0
      made ((q, y), Some g) h = and_from (segments_lexed (t.segments_of y.segments)) (group_lexed g.0 g.1) (path_found y h.0.1) h.1

  at_place_finds : (b : Bool) → Finds (Ok type_lexed) (p.at_place type b)
  unfolding p.at_place
  at_place_finds b =
      case_finds and reference_finds
      (case_finds star pointer_finds
      (case_finds bang (pure_finds t.never p.is_never refl)
      (case_finds underscore (pure_finds t.infer p.is_infer refl)
      (group_case_finds del.Bracket row_finds
      (group_case_finds del.Parenthesis round_finds
      (when_finds _ fn_pointer_finds
      (case_finds implementing (implements_finds b)
      (case_finds dynamic (object_finds b)
      named_finds))))))))

pub type_finds : (b : Bool) → Finds (Ok type_lexed) (p.type b)
unfolding p.type
type_finds b = fix_finds {A = λ i. TypeTree} {P = λ i. Ok type_lexed} {step = p.at_place} (λ f r c. at_place_finds r c) b

-- Lists that a text falls into, token by token from the end.
use Rattle.std.proofs.Common.{◌≡◌, Bool, true, false, not, ◌&&◌, ◌||◌, List, [], ◌∷◌, ◌++◌, refl, sym, ◌∙◌, subst, Option, Some, None}
use Rattle.std.specs.Prelude.{if◌then◌else◌, ◌==◌}
use Rattle.std.proofs.lemmas.Bool.{and_parts, and_from}
use Rattle.syn_lexer.specs.Lex.{is_punct}
use Rattle.syn_lexer.specs.declared.front.Delimiter.{Delimiter}
use Rattle.syn_lexer.specs.declared.front.Delimiter.TheVariants as del
use Rattle.syn_lexer.specs.declared.front.Spacing.TheVariants.{Alone, Joint}
use Rattle.syn_tokens.specs.Tok.{Tok, inside, ident, punct, literal, group}
use Rattle.syn_lower_spec.specs.Form.{is_nil}
use Rattle.syn_lower_spec.specs.Text.{Text}
use Rattle.syn_lower_spec.specs.Tree.{LitTree, AttributeTree, LifetimesTree}
use Rattle.syn_lower_spec.specs.Own.{alone, before_if, before_some, comma_before, colon2_before, arrow_before, enclosed, elements_own, lifetime_own, lit_own, lifetimes_own, string_own, extern_own, attribute_own}
use Rattle.syn_lower_spec.specs.PatOwn.{attributes_own}
use Rattle.syn_lower_spec.proofs.Appends.{lit_append}
use Rattle.syn_text.specs.Lexed.{is_ident_text, is_written, sees_plain_ident, joins, stays, inside_is_lexed, is_lexed}
use Rattle.syn_text.proofs.Again.{lexed_inside}
use Rattle.syn_text_spec.specs.Leaves.{word_lexed, lifetime_lexed, lit_lexed, group_lexed, all_lexed, lexed_if, attributes_lexed, lifetimes_lexed}
use Rattle.syn_text_spec.proofs.Words.{words}

-- a list that a text falls into
pub record Lexed (ts : List Tok) : Type 0 where
  pub is : is_lexed ts ≡ true

pub nil : Lexed []
nil = record { is = refl }

pub put : {t : Tok} {r : List Tok} → stays t r ≡ true → Lexed r → Lexed (t ∷ r)
put {t} {r} h l = record { is = and_from (stays t r) (is_lexed r) h l.is }

pub lexed : {ts : List Tok} → is_lexed ts ≡ true → Lexed ts
lexed h = record { is = h }

-- ---- one list before another

stays_before : (t : Tok) (ts r : List Tok) → stays t ts ≡ true → stays t (ts ++ r) ≡ true
stays_before (ident s) ts r h = h
stays_before (literal s) ts r h = h
stays_before (group d i) ts r h = h
stays_before (punct c Alone) ts r h = h
stays_before (punct c Joint) [] r h = by (c == 39) (is_punct c) h
  where
    by : (a b : Bool) → (if a then false else b && false) ≡ true → (if a then sees_plain_ident r else b && joins c r) ≡ true
    by true b h = absurd cc
    by false true h = absurd cc
    by false false h = absurd cc
stays_before (punct c Joint) (ident s ∷ ts) r h = h
stays_before (punct c Joint) (literal s ∷ ts) r h = h
stays_before (punct c Joint) (group d i ∷ ts) r h = h
stays_before (punct c Joint) (punct d s ∷ ts) r h = h

pub append : (ts : List Tok) {r : List Tok} → is_lexed ts ≡ true → Lexed r → Lexed (ts ++ r)
append [] h l = l
append (t ∷ ts) {r} h l = let p = and_parts (stays t ts) (is_lexed ts) h in put (stays_before t ts r p.0) (append ts p.1 l)

-- ---- single tokens

pub word : (w : Text) {r : List Tok} → word_lexed w ≡ true → Lexed r → Lexed (ident w ∷ r)
word w h l = put (and_parts (is_ident_text w) true h).0 l

pub life : (w : Text) {r : List Tok} → lifetime_lexed w ≡ true → Lexed r → Lexed (lifetime_own w r)
life w h l =
    let p = and_parts (sees_plain_ident (ident w ∷ [])) (is_ident_text w && true) h in
    put p.0 (put (and_parts (is_ident_text w) true p.1).0 l)

pub close : (d : Delimiter) {ts r : List Tok} → is_written d ≡ true → Lexed ts → Lexed r → Lexed (enclosed d ts r)
close d {ts} h i l = put (and_from (is_written d) (inside_is_lexed (inside ts)) h (lexed_inside ts ∙ i.is)) l

pub group_before : (d : Delimiter) (ts : List Tok) {r : List Tok} → group_lexed d ts ≡ true → Lexed r → Lexed (enclosed d ts r)
group_before d ts h l = put (and_parts (is_written d && inside_is_lexed (inside ts)) true h).0 l

pub lit : (x : LitTree) {r : List Tok} → lit_lexed x ≡ true → Lexed r → Lexed (lit_own x r)
unfolding lit_lexed
lit x {r} h l = subst Lexed (sym (lit_append x r)) (append (lit_own x []) h l)

pub comma : {r : List Tok} → Lexed r → Lexed (comma_before r)
comma l = put refl l

pub colons : {r : List Tok} → Lexed r → Lexed (colon2_before r)
colons l = put refl (put refl l)

pub arrow : {r : List Tok} → Lexed r → Lexed (arrow_before r)
arrow l = put refl (put refl l)

-- ---- tokens that are there or not

abbrev pub Keeps : (List Tok → List Tok) → Type 0
Keeps f = (r : List Tok) → Lexed r → Lexed (f r)

pub if_there : (b : Bool) {f : List Tok → List Tok} {r : List Tok} → Keeps f → Lexed r → Lexed (before_if b f r)
if_there true {f} {r} k l = k r l
if_there false k l = l

pub if_some : {A : Type 0} (test : A → Bool) {own : A → List Tok → List Tok} → ((x : A) → test x ≡ true → Keeps (own x)) → (o : Option A) {r : List Tok}
    → lexed_if test o ≡ true → Lexed r → Lexed (before_some o own r)
if_some test k None h l = l
if_some test k (Some x) {r} h l = k x h r l

-- ---- lists

pub elements : {A : Type 0} (test : A → Bool) {own : A → List Tok → List Tok} {sep : List Tok → List Tok} → ((x : A) → test x ≡ true → Keeps (own x)) → Keeps sep
    → (xs : List A) (e : Bool) {r : List Tok} → all_lexed test xs ≡ true → Lexed r → Lexed (elements_own own sep xs e r)
elements test k s [] e h l = l
elements test {own} {sep} k s (x ∷ xs) e h l =
    let p = and_parts (test x) (all_lexed test xs) h in
    k x p.0 _ (if_there (not (is_nil xs) || e) {f = sep} s (elements test k s xs e p.1 l))

-- ---- parts without types

pub lifetimes : (x : LifetimesTree) {r : List Tok} → lifetimes_lexed x ≡ true → Lexed r → Lexed (lifetimes_own x r)
unfolding lifetimes_own
lifetimes x h l =
    put words.for_word (put refl (elements lifetime_lexed (λ w g r m. life w g m) (λ r m. comma m) x.0 x.1 h (put refl l)))

pub string : (o : Option LitTree) {r : List Tok} → lexed_if lit_lexed o ≡ true → Lexed r → Lexed (string_own o r)
string None h l = l
string (Some x) h l = lit x h l

pub abi : (o : Option LitTree) {r : List Tok} → lexed_if lit_lexed o ≡ true → Lexed r → Lexed (extern_own o r)
abi o h l = put words.extern_word (string o h l)

pub attribute : (a : AttributeTree) {r : List Tok} → is_lexed a.tokens ≡ true → Lexed r → Lexed (attribute_own a r)
unfolding attribute_own
attribute a h l = put refl (if_there a.inner {f = λ m. alone 33 ∷ m} (λ r m. put refl m) (close del.Bracket refl (lexed h) l))

pub attributes : (ats : List AttributeTree) {r : List Tok} → attributes_lexed ats ≡ true → Lexed r → Lexed (attributes_own ats r)
attributes [] h l = l
attributes (a ∷ more) h l =
    let p = and_parts (is_lexed a.tokens) (attributes_lexed more) h in
    attribute a p.0 (attributes more p.1 l)

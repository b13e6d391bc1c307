-- What begins a statement: an item, a macro, `let`, `;` and an expression exclude one another.
use Rattle.std.specs.Prelude.{◌==◌, is_some}
use Rattle.std.specs.Str.{bytes_eq}
use Rattle.std.proofs.Common.{◌≡◌, ℕ, Bool, true, false, cond, List, [], ◌∷◌, drop, codes, Some, None, refl, ap, sym, ◌∙◌, subst}
use Rattle.std.proofs.lemmas.Bool.{and_parts}
use Rattle.syn_lexer.specs.Keywords.{is_reserved_word}
use Rattle.syn_lexer.specs.declared.front.Delimiter.{Delimiter}
use Rattle.syn_lexer.specs.declared.front.Spacing.{Spacing}
use Rattle.syn_lexer.specs.declared.front.Spacing.TheVariants as spacing
use Rattle.syn_tokens.specs.Tok.{Tok, ident, punct, literal, group}
use Rattle.syn_tokens.specs.Front.{group_at}
use Rattle.syn_lower_spec.specs.declared.label.PathStyle.TheVariants as style
use Rattle.syn_lower_spec.specs.Text.{Text, is_segment, stands_alone}
use Rattle.syn_lower_spec.specs.Tree as tree
use Rattle.syn_lower_spec.specs.Tree.{AttributeTree, PathTree, SegmentTree}
use Rattle.syn_lower_spec.specs.Form.{and_then, mark, both, joined, prepend}
use Rattle.syn_lower_spec.specs.Mark.{sign_at, word_at, brace_at, semi, not_ne, colon2}
use Rattle.syn_lower_spec.specs.Part as part
use Rattle.syn_lower_spec.specs.Part.{is_name_there, find_group, any_group, outer_attributes, macro, MacroTree, segment, path, type}
use Rattle.syn_lower_spec.proofs.Ends.{sign_first}
use Rattle.syn_lower_spec.proofs.Forms.{Alike, bind_some}
use Rattle.syn_lower_spec.proofs.Fronts.{word_not}
use Rattle.syn_lower_spec.proofs.Parts.{outer_attributes_alike}
use Rattle.syn_lower_spec.proofs.Weights.{some_is}
use Rattle.syn_expr_spec.specs.Head.{let_word}
use Rattle.syn_expr_spec.proofs.Computing.{computing}
use Rattle.syn_expr_spec.proofs.Fronts.{word_is}
use Rattle.syn_stmt_spec.specs.Item as i
use Rattle.syn_stmt_spec.specs.Item.{macro_name, macro_head, macro_begins, item_kind, rows, first_row, find_item}
use Rattle.syn_stmt_spec.specs.Spells.{macro_stmt_at, item_at, is_macro_stmt}
use Rattle.syn_stmt_spec.proofs.Items.{marked_some, segment_is, opened, others}

-- ---- `;`

semi_tests : Bool
unfolding computing item_kind macro_begins macro_stmt_at item_at
semi_tests = true

-- the attributes at the front of what begins with `;` are none
no_attributes : (s : Spacing) (l : List Tok) → outer_attributes.reads (punct 59 s ∷ l) ≡ Some ([], punct 59 s ∷ l)
unfolding semi_tests
no_attributes spacing.Alone l = refl
no_attributes spacing.Joint l = refl

pub semi_stays : (ats : List AttributeTree) (l m : List Tok) → outer_attributes.behind ats l ≡ Some m → semi.at l ≡ true → semi.at m ≡ true
semi_stays ats l m h e = sign_first 59 [] (λ z. outer_attributes.behind ats z ≡ Some m → semi.at z ≡ true → semi.at m ≡ true) at_sign l e h e
  where
    at_sign : (s : Spacing) (z : List Tok) → outer_attributes.behind ats (punct 59 s ∷ z) ≡ Some m → semi.at (punct 59 s ∷ z) ≡ true → semi.at m ≡ true
    at_sign s z h e =
        let a : Alike 0 outer_attributes outer_attributes = outer_attributes_alike in
        let f = some_is (sym (no_attributes s z) ∙ a.complete (punct 59 s ∷ z) ats m h) in
        subst (λ (q : List AttributeTree × List Tok). semi.at q.1 ≡ true) f e

abbrev pub Nothing : List Tok → Type 0
Nothing l = (item_kind l ≡ None) × (macro.reads l ≡ None) × (let_word.at l ≡ false)

semi_nothing : (s : Spacing) (l : List Tok) → Nothing (punct 59 s ∷ l)
unfolding semi_tests
semi_nothing spacing.Alone l = (refl, refl, refl)
semi_nothing spacing.Joint l = (refl, refl, refl)

-- `;` begins no item, no macro and no `let`
pub at_semi : (l : List Tok) → semi.at l ≡ true → Nothing l
at_semi l e = sign_first 59 [] Nothing semi_nothing l e

-- ---- `let`

let_nothing : (l : List Tok) → (item_kind (ident (codes "let") ∷ l) ≡ None) × (macro.reads (ident (codes "let") ∷ l) ≡ None)
unfolding semi_tests
let_nothing l = (refl, refl)

-- ---- a macro that is a statement begins no item

-- a path, `!` and a group
pub record MacroParts (l : List Tok) : Type 0 where
  pub found : PathTree × List Tok
  pub read : (path type style.Mod).reads l ≡ Some found
  pub bang : not_ne.at found.1 ≡ true
  pub behind : (Delimiter × List Tok) × List Tok
  pub grouped : find_group (drop 1 found.1) ≡ Some behind

pub macro_parts : (l : List Tok) (x : MacroTree) (n : List Tok) → macro.reads l ≡ Some (x, n) → MacroParts l
unfolding macro any_group
macro_parts l x n h =
    let (q, e, j) = bind_some ((both (path type style.Mod) (mark not_ne any_group)).reads l) (λ y m. Some (part.to_macro y, m)) (x, n) h in
    let (p, d, k) = bind_some ((path type style.Mod).reads l) (λ y m. and_then ((mark not_ne any_group).reads m) (λ z o. Some ((y, z), o))) q e in
    let (g, f, s) = bind_some ((mark not_ne any_group).reads p.1) (λ z o. Some ((p.0, z), o)) q k in
    let (a, b) = marked_some not_ne any_group p.1 g f in
    record { found = p; read = d; bang = a; behind = g; grouped = b }

pub group_no_name : (m : List Tok) (g : (Delimiter × List Tok) × List Tok) → find_group m ≡ Some g → i.find_macro_name m ≡ None
group_no_name (group d x ∷ m) g h = refl
group_no_name [] g h = refl
group_no_name (ident w ∷ m) g h = absurd cc
group_no_name (punct c s ∷ m) g h = refl
group_no_name (literal w ∷ m) g h = refl

no_head : (l : List Tok) → MacroParts l → macro_head.reads l ≡ None
no_head l p = rw (p.read, p.bang, group_no_name (drop 1 p.found.1) p.behind p.grouped) refl

-- a punct comes first
pub record Punct (l : List Tok) : Type 0 where
  pub char : ℕ
  pub spacing : Spacing
  pub rest : List Tok
  pub is : l ≡ punct char spacing ∷ rest
  pub no_pound : (char == 35) ≡ false

sign_punct : (c : ℕ) (text : List ℕ) (l : List Tok) → (c == 35) ≡ false → sign_at (c ∷ text) l ≡ true → Punct l
sign_punct c text l f h = sign_first c text Punct (λ s z. record { char = c; spacing = s; rest = z; is = refl; no_pound = f }) l h

path_of_word : (w : Text) (m : List Tok) → (path type style.Mod).reads (ident w ∷ m)
    ≡ and_then (and_then ((joined colon2 (segment type style.Mod)).reads (ident w ∷ m)) (λ y n. Some ((false, y), n))) (λ x n. Some (part.to_path x, n))
unfolding path part.pieces sign_at
path_of_word w m = refl

-- behind the first word of a path and before its `!`
pub behind_word : (w : Text) (m : List Tok) (p : PathTree × List Tok) → (path type style.Mod).reads (ident w ∷ m) ≡ Some p → not_ne.at p.1 ≡ true → (is_segment w ≡ true) × Punct m
behind_word w m p h b =
    let (q, e, j) = bind_some (and_then ((joined colon2 (segment type style.Mod)).reads (ident w ∷ m)) (λ y n. Some ((false, y), n))) (λ x n. Some (part.to_path x, n)) p (sym (path_of_word w m) ∙ h) in
    let (s, d, k) = bind_some ((joined colon2 (segment type style.Mod)).reads (ident w ∷ m)) (λ y n. Some ((false, y), n)) q e in
    let (t, f, u) = bind_some ((both (segment type style.Mod) others).reads (ident w ∷ m)) (λ y n. Some (prepend y, n)) s d in
    let (v, g, z) = bind_some ((segment type style.Mod).reads (ident w ∷ m)) (λ y o. and_then (others.reads o) (λ x n. Some ((y, x), n))) t f in
    let (x, c, a) = bind_some (others.reads v.1) (λ y n. Some ((v.0, y), n)) t z in
    let rest : x.1 ≡ p.1 =
    ap (λ (y : (SegmentTree × List SegmentTree) × List Tok). y.1) (some_is a) ∙ ap (λ (y : List SegmentTree × List Tok). y.1) (some_is u)
    ∙ ap (λ (y : (Bool × List SegmentTree) × List Tok). y.1) (some_is k) ∙ ap (λ (y : PathTree × List Tok). y.1) (some_is j) in
    by_word (is_segment w) refl v x (sym (segment_is w m) ∙ g) c (subst (λ y. not_ne.at y ≡ true) (sym rest) b)
  where
    by_colon : (t : Bool) (x : List SegmentTree × List Tok) → colon2.at m ≡ t → others.reads m ≡ Some x → not_ne.at x.1 ≡ true → Punct m
    by_colon true x e c b = sign_punct 58 (58 ∷ []) m refl e
    by_colon false x e c b =
        let f : m ≡ x.1 = ap (λ (y : List SegmentTree × List Tok). y.1) (some_is (sym (opened style.Mod m false e) ∙ c)) in
        sign_punct 33 [] m refl (and_parts (sign_at (codes "!") m) _ (subst (λ y. not_ne.at y ≡ true) (sym f) b)).0

    by_word : (t : Bool) → is_segment w ≡ t → (v : SegmentTree × List Tok) (x : List SegmentTree × List Tok)
        → cond t (Some (record { ident = w; arguments = tree.no_arguments }, m)) None ≡ Some v → others.reads v.1 ≡ Some x → not_ne.at x.1 ≡ true → (is_segment w ≡ true) × Punct m
    by_word true e v x g c b =
        let f : v.1 ≡ m = ap (λ (y : SegmentTree × List Tok). y.1) (sym (some_is g)) in
        (e, by_colon (colon2.at m) x refl (ap (λ y. others.reads y) (sym f) ∙ c) b)
    by_word false e v x g c b = absurd cc

-- words that begin items, and no path
not_item_words : Bool
unfolding is_segment stands_alone is_reserved_word
not_item_words = true

abbrev No : Text → Type 0
No w = is_segment w ≡ false

record ItemWords : Type 0 where
  pub const_word : No (codes "const")
  pub async_word : No (codes "async")
  pub unsafe_word : No (codes "unsafe")
  pub extern_word : No (codes "extern")
  pub fn_word : No (codes "fn")
  pub use_word : No (codes "use")
  pub static_word : No (codes "static")
  pub type_word : No (codes "type")
  pub mod_word : No (codes "mod")
  pub trait_word : No (codes "trait")
  pub impl_word : No (codes "impl")
  pub struct_word : No (codes "struct")
  pub enum_word : No (codes "enum")
  pub macro_word : No (codes "macro")
  pub pub_word : No (codes "pub")

item_words : ItemWords
unfolding not_item_words
item_words = record {
  const_word = refl;
  async_word = refl;
  unsafe_word = refl;
  extern_word = refl;
  fn_word = refl;
  use_word = refl;
  static_word = refl;
  type_word = refl;
  mod_word = refl;
  trait_word = refl;
  impl_word = refl;
  struct_word = refl;
  enum_word = refl;
  macro_word = refl;
  pub_word = refl;
}

abbrev pub NoRow : List Tok → Type 0
NoRow l = (word_at (codes "pub") l ≡ false) × (first_row rows None l ≡ None)

-- a name before none of the words by which it would begin an item
pub name_no_row : (w : Text) (m : List Tok) → is_segment w ≡ true → is_name_there m ≡ false → word_at (codes "trait") m ≡ false → word_at (codes "impl") m ≡ false → word_at (codes "unsafe") m ≡ false
    → NoRow (ident w ∷ m)
unfolding word_at brace_at group_at
name_no_row w m g n t i f =
    by_words (word_at (codes "auto") (ident w ∷ m)) refl (word_at (codes "union") (ident w ∷ m)) refl (word_at (codes "default") (ident w ∷ m)) refl
  where
    auto_no_row : NoRow (ident (codes "auto") ∷ m)
    auto_no_row = (refl, rw t refl)

    union_no_row : NoRow (ident (codes "union") ∷ m)
    union_no_row = (refl, rw n refl)

    default_no_row : NoRow (ident (codes "default") ∷ m)
    default_no_row = (refl, rw (f, i) refl)

    word_no_row : bytes_eq w (codes "auto") ≡ false → bytes_eq w (codes "union") ≡ false → bytes_eq w (codes "default") ≡ false → NoRow (ident w ∷ m)
    word_no_row a u d = (
      word_not w (codes "pub") g item_words.pub_word,
      rw (
        word_not w (codes "const") g item_words.const_word,
        word_not w (codes "async") g item_words.async_word,
        d,
        u,
        word_not w (codes "unsafe") g item_words.unsafe_word,
        a,
        word_not w (codes "extern") g item_words.extern_word,
        word_not w (codes "fn") g item_words.fn_word,
        word_not w (codes "use") g item_words.use_word,
        word_not w (codes "static") g item_words.static_word,
        word_not w (codes "type") g item_words.type_word,
        word_not w (codes "mod") g item_words.mod_word,
        word_not w (codes "trait") g item_words.trait_word,
        word_not w (codes "impl") g item_words.impl_word,
        word_not w (codes "struct") g item_words.struct_word,
        word_not w (codes "enum") g item_words.enum_word,
        word_not w (codes "macro") g item_words.macro_word,
      ) refl,
    )

    by_words : (a : Bool) → word_at (codes "auto") (ident w ∷ m) ≡ a → (u : Bool) → word_at (codes "union") (ident w ∷ m) ≡ u
        → (d : Bool) → word_at (codes "default") (ident w ∷ m) ≡ d → NoRow (ident w ∷ m)
    by_words true e u f d h = subst NoRow (sym (word_is (codes "auto") (ident w ∷ m) e)) auto_no_row
    by_words false e true f d h = subst NoRow (sym (word_is (codes "union") (ident w ∷ m) f)) union_no_row
    by_words false e false f true h = subst NoRow (sym (word_is (codes "default") (ident w ∷ m) h)) default_no_row
    by_words false e false f false h = word_no_row e f h

other_no_row : (l : List Tok) → MacroParts l → NoRow l
unfolding word_at brace_at group_at
other_no_row [] p = (refl, refl)
other_no_row (ident w ∷ m) p =
    let (g, q) = behind_word w m p.found p.read p.bang in
    subst (λ z. NoRow (ident w ∷ z)) (sym q.is) (name_no_row w (punct q.char q.spacing ∷ q.rest) g refl refl refl refl)
other_no_row (punct c s ∷ m) p = (refl, refl)
other_no_row (literal v ∷ m) p = (refl, refl)
other_no_row (group d x ∷ m) p = (refl, refl)

pub none_begins : (l : List Tok) → NoRow l → macro_head.reads l ≡ None → item_kind l ≡ None
unfolding item_kind macro_begins
none_begins l r h = rw (r.0, h, r.1) refl

-- a macro that is a statement begins no item
pub macro_no_item : (l : List Tok) (x : MacroTree) (n : List Tok) → macro.reads l ≡ Some (x, n) → item_at l ≡ false
unfolding item_at
macro_no_item l x n h = let p = macro_parts l x n h in ap is_some (none_begins l (other_no_row l p) (no_head l p))

-- nor does `let`, which begins no macro either
pub let_no_item : (l : List Tok) → let_word.at l ≡ true → (item_at l ≡ false) × (macro_stmt_at l ≡ false)
unfolding semi_tests
let_no_item l h =
    let (a, b) = let_nothing (drop 1 l) in
    subst (λ z. (item_at z ≡ false) × (macro_stmt_at z ≡ false)) (sym (word_is (codes "let") l h)) (ap is_some a, ap is_macro_stmt b)

-- The own tokens of patterns whose leaves are lexed.
use Rattle.std.proofs.Common.{◌≡◌, Bool, true, false, not, ◌||◌, List, ◌∷◌, refl, codes}
use Rattle.std.proofs.lemmas.Bool.{and_parts}
use Rattle.syn_lexer.specs.declared.front.Delimiter.TheVariants as del
use Rattle.syn_tokens.specs.Tok.{Tok, ident}
use Rattle.syn_lower_spec.specs.Text.{Text}
use Rattle.syn_lower_spec.specs.Pat as p
use Rattle.syn_lower_spec.specs.Pat.{MemberTree, PatBound, PatTree, SubPat, Pats, Fields, FieldTree}
use Rattle.syn_lower_spec.specs.Own.{comma_before}
use Rattle.syn_lower_spec.specs.PatOwn.{limits_before, range_bound_own, member_own, vert_before, word_if, no_more_pats, no_more_fields, pat_own, sub_own, pats_own, or_own, fields_own, field_own}
use Rattle.syn_text.specs.Lexed.{is_ident_text, is_lexed}
use Rattle.syn_text_spec.specs.Leaves.{word_lexed, lexed_if, attributes_lexed, path_lexed, member_lexed, range_bound_lexed, pat_lexed, sub_lexed, pats_lexed, fields_lexed, field_lexed}
use Rattle.syn_text_spec.proofs.Words.{words}
use Rattle.syn_text_spec.proofs.Indices.{index_is_literal}
use Rattle.syn_text_spec.proofs.Lists.{Lexed, lexed, nil, put, word, close, lit, comma, if_there, if_some, attribute, attributes}
use Rattle.syn_text_spec.proofs.Types.{type_ok, path_ok, qualified_ok, macro_ok}

pub limits : (closed : Bool) {r : List Tok} → Lexed r → Lexed (limits_before closed r)
limits true l = put refl (put refl (put refl l))
limits false l = put refl (put refl l)

range_bound : (b : PatBound) {r : List Tok} → range_bound_lexed b ≡ true → Lexed r → Lexed (range_bound_own b r)
range_bound (p.lit_bound x) h l = lit x h l
range_bound (p.path_bound q path) h l = qualified_ok q path h l

pub member : (m : MemberTree) {r : List Tok} → member_lexed m ≡ true → Lexed r → Lexed (member_own m r)
member (p.a_name w) h l = word w h l
member (p.an_index n) h l = put (index_is_literal n) l

pub vert : {r : List Tok} → Lexed r → Lexed (vert_before r)
vert l = put refl l

-- a word that is there or not
pub flag : (b : Bool) (w : Text) {r : List Tok} → is_ident_text w ≡ true → Lexed r → Lexed (word_if b w r)
flag b w h l = if_there b {f = λ n. ident w ∷ n} (λ r n. put h n) l

mutual
  pub pat_ok : (x : PatTree) {r : List Tok} → pat_lexed x ≡ true → Lexed r → Lexed (pat_own x r)
  pat_ok p.wild h l = put words.underscore l
  pat_ok p.rest h l = limits false l
  pat_ok (p.range s c e) h l =
      let q = and_parts (lexed_if range_bound_lexed s) (lexed_if range_bound_lexed e) h in
      if_some range_bound_lexed {own = range_bound_own} (λ b g r n. range_bound b g n) s q.0
      (limits c (if_some range_bound_lexed {own = range_bound_own} (λ b g r n. range_bound b g n) e q.1 l))
  pat_ok (p.a_lit x) h l = lit x h l
  pat_ok (p.a_binding b m w s) h l =
      let q = and_parts (word_lexed w) (sub_lexed s) h in
      flag b (codes "ref") words.ref_word (flag m (codes "mut") words.mut_word (word w q.0 (sub_ok s q.1 l)))
  pat_ok (p.a_path q path) h l = qualified_ok q path h l
  pat_ok (p.a_mac m) h l = macro_ok m h l
  pat_ok (p.a_struct path fs e d) h l =
      let q = and_parts (path_lexed path) (fields_lexed fs) h in
      path_ok path q.0 (close del.Brace refl (fields_ok fs e q.1 (if_there d {f = limits_before false} (λ r n. limits false n) nil)) l)
  pat_ok (p.tuple_struct path ps e) h l =
      let q = and_parts (path_lexed path) (pats_lexed ps) h in
      path_ok path q.0 (close del.Parenthesis refl (pats_ok ps e q.1 nil) l)
  pat_ok (p.a_tuple ps e) h l = close del.Parenthesis refl (pats_ok ps e h nil) l
  pat_ok (p.a_paren x) h l = close del.Parenthesis refl (pat_ok x h nil) l
  pat_ok (p.a_slice ps e) h l = close del.Bracket refl (pats_ok ps e h nil) l
  pat_ok (p.a_reference m x) h l = put refl (flag m (codes "mut") words.mut_word (pat_ok x h l))
  pat_ok (p.a_block ts) h l = put words.const_word (close del.Brace refl (lexed h) l)
  pat_ok (p.alternatives b ps e) h l = if_there b {f = vert_before} (λ r n. vert n) (or_ok ps e h l)
  pat_ok (p.guarded x) h l = pat_ok x h l
  pat_ok (p.typed x y) h l =
      let q = and_parts (pat_lexed x) _ h in
      pat_ok x q.0 (put refl (type_ok y q.1 l))
  pat_ok (p.attributed a more x) h l =
      let q = and_parts (is_lexed a.tokens) _ h in
      let s = and_parts (attributes_lexed more) (pat_lexed x) q.1 in
      attribute a q.0 (attributes more s.0 (pat_ok x s.1 l))

  pub sub_ok : (s : SubPat) {r : List Tok} → sub_lexed s ≡ true → Lexed r → Lexed (sub_own s r)
  sub_ok p.no_sub h l = l
  sub_ok (p.sub x) h l = put refl (pat_ok x h l)

  pub pats_ok : (ps : Pats) (e : Bool) {r : List Tok} → pats_lexed ps ≡ true → Lexed r → Lexed (pats_own ps e r)
  pats_ok p.no_pats e h l = l
  pats_ok (p.more_pats x ps) e h l =
      let q = and_parts (pat_lexed x) (pats_lexed ps) h in
      pat_ok x q.0 (if_there (not (no_more_pats ps) || e) {f = comma_before} (λ r n. comma n) (pats_ok ps e q.1 l))

  pub or_ok : (ps : Pats) (e : Bool) {r : List Tok} → pats_lexed ps ≡ true → Lexed r → Lexed (or_own ps e r)
  or_ok p.no_pats e h l = l
  or_ok (p.more_pats x ps) e h l =
      let q = and_parts (pat_lexed x) (pats_lexed ps) h in
      pat_ok x q.0 (if_there (not (no_more_pats ps) || e) {f = vert_before} (λ r n. vert n) (or_ok ps e q.1 l))

  pub fields_ok : (fs : Fields) (e : Bool) {r : List Tok} → fields_lexed fs ≡ true → Lexed r → Lexed (fields_own fs e r)
  fields_ok p.no_fields e h l = l
  fields_ok (p.more_fields a f fs) e h l =
      let q = and_parts (attributes_lexed a) _ h in
      let s = and_parts (field_lexed f) (fields_lexed fs) q.1 in
      attributes a q.0 (field_ok f s.0 (if_there (not (no_more_fields fs) || e) {f = comma_before} (λ r n. comma n) (fields_ok fs e s.1 l)))

  pub field_ok : (f : FieldTree) {r : List Tok} → field_lexed f ≡ true → Lexed r → Lexed (field_own f r)
  field_ok (p.short b m w) h l = flag b (codes "ref") words.ref_word (flag m (codes "mut") words.mut_word (word w h l))
  field_ok (p.full k x) h l =
      let q = and_parts (member_lexed k) (pat_lexed x) h in
      member k q.0 (put refl (pat_ok x q.1 l))

-- The own tokens of patterns; an index in plain decimal, a closed range with `..=`.
use Rattle.std.specs.Prelude.{Bool, true, false, List, [], ◌∷◌, codes, ℕ, zero, suc, ◌+◌, ◌/◌, ◌%◌, nat_lt, if◌then◌else◌}
use Rattle.syn_lexer.specs.declared.front.Delimiter.TheVariants as del
use Rattle.syn_tokens.specs.Tok.{Tok, ident, literal}
use Rattle.syn_lower_spec.specs.Text.{Text}
use Rattle.syn_lower_spec.specs.Tree.{AttributeTree}
use Rattle.syn_lower_spec.specs.Own.{alone, joint, before_if, before_some, comma_before, enclosed, separated, lit_own, attribute_own, path_own, qualified_own, macro_own, type_own}
use Rattle.syn_lower_spec.specs.Pat.{MemberTree, a_name, an_index, PatBound, lit_bound, path_bound, PatTree, SubPat, Pats, Fields, FieldTree, wild, rest, range, a_lit, a_binding, a_path, a_mac, a_struct, tuple_struct, a_tuple, a_paren, a_slice, a_reference, a_block, alternatives, guarded, typed, attributed, no_sub, sub, no_pats, more_pats, no_fields, more_fields, short, full}

abbrev pub limits_before : Bool → List Tok → List Tok
limits_before true r = joint 46 ∷ joint 46 ∷ alone 61 ∷ r
limits_before false r = joint 46 ∷ alone 46 ∷ r

abbrev pub range_bound_own : PatBound → List Tok → List Tok
range_bound_own (lit_bound x) r = lit_own x r
range_bound_own (path_bound q p) r = qualified_own (q, p) r

-- the decimal digits of a number below 10 ^ k, the highest first, before others
abbrev pub digits_before : ℕ → ℕ → Text → Text
digits_before zero n r = r
digits_before (suc k) n r = if nat_lt n 10 then (48 + n) ∷ r else digits_before k (n / 10) ((48 + n % 10) ∷ r)

-- an index in plain decimal: each has ten digits at most
unfoldable pub index_text : ℕ → Text
index_text n = digits_before 10 n []

abbrev pub member_own : MemberTree → List Tok → List Tok
member_own (a_name w) r = ident w ∷ r
member_own (an_index n) r = literal (index_text n) ∷ r

abbrev pub vert_before : List Tok → List Tok
vert_before r = alone 124 ∷ r

abbrev pub word_if : Bool → Text → List Tok → List Tok
word_if b w r = before_if b (λ l. ident w ∷ l) r

abbrev pub attributes_own : List AttributeTree → List Tok → List Tok
attributes_own [] r = r
attributes_own (a ∷ more) r = attribute_own a (attributes_own more r)

abbrev pub no_more_pats : Pats → Bool
no_more_pats no_pats = true
no_more_pats (more_pats p ps) = false

abbrev pub no_more_fields : Fields → Bool
no_more_fields no_fields = true
no_more_fields (more_fields a f fs) = false

abbrev mutual
  pub pat_own : PatTree → List Tok → List Tok
  pat_own wild r = ident (codes "_") ∷ r
  pat_own rest r = limits_before false r
  pat_own (range s c e) r = before_some s range_bound_own (limits_before c (before_some e range_bound_own r))
  pat_own (a_lit x) r = lit_own x r
  pat_own (a_binding b m w s) r = word_if b (codes "ref") (word_if m (codes "mut") (ident w ∷ sub_own s r))
  pat_own (a_path q p) r = qualified_own (q, p) r
  pat_own (a_mac m) r = macro_own m r
  pat_own (a_struct p fs e d) r = path_own p (enclosed del.Brace (fields_own fs e (before_if d (limits_before false) [])) r)
  pat_own (tuple_struct p ps e) r = path_own p (enclosed del.Parenthesis (pats_own ps e []) r)
  pat_own (a_tuple ps e) r = enclosed del.Parenthesis (pats_own ps e []) r
  pat_own (a_paren p) r = enclosed del.Parenthesis (pat_own p []) r
  pat_own (a_slice ps e) r = enclosed del.Bracket (pats_own ps e []) r
  pat_own (a_reference m p) r = alone 38 ∷ word_if m (codes "mut") (pat_own p r)
  pat_own (a_block ts) r = ident (codes "const") ∷ enclosed del.Brace ts r
  pat_own (alternatives l ps e) r = before_if l vert_before (or_own ps e r)
  pat_own (guarded p) r = pat_own p r
  pat_own (typed p x) r = pat_own p (alone 58 ∷ type_own x r)
  pat_own (attributed a more p) r = attribute_own a (attributes_own more (pat_own p r))

  pub sub_own : SubPat → List Tok → List Tok
  sub_own no_sub r = r
  sub_own (sub p) r = alone 64 ∷ pat_own p r

  pub pats_own : Pats → Bool → List Tok → List Tok
  pats_own no_pats e r = r
  pats_own (more_pats p ps) e r = pat_own p (separated (no_more_pats ps) e comma_before (pats_own ps e r))

  pub or_own : Pats → Bool → List Tok → List Tok
  or_own no_pats e r = r
  or_own (more_pats p ps) e r = pat_own p (separated (no_more_pats ps) e vert_before (or_own ps e r))

  pub fields_own : Fields → Bool → List Tok → List Tok
  fields_own no_fields e r = r
  fields_own (more_fields a f fs) e r = attributes_own a (field_own f (separated (no_more_fields fs) e comma_before (fields_own fs e r)))

  pub field_own : FieldTree → List Tok → List Tok
  field_own (short b m w) r = word_if b (codes "ref") (word_if m (codes "mut") (ident w ∷ r))
  field_own (full k p) r = member_own k (alone 58 ∷ pat_own p r)

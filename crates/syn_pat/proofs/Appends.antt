-- What follows the own tokens of a pattern follows them as they are.
use Rattle.std.proofs.Common.{◌≡◌, Bool, true, false, not, ◌||◌, List, [], ◌∷◌, ◌++◌, refl}
use Rattle.std.specs.Prelude.{codes}
use Rattle.syn_lexer.specs.declared.front.Delimiter.TheVariants as del
use Rattle.syn_tokens.specs.Tok.{Tok, ident}
use Rattle.syn_lower_spec.specs.Text.{Text}
use Rattle.syn_lower_spec.specs.Tree as t
use Rattle.syn_lower_spec.specs.Tree.{AttributeTree, PathTree, QSelfTree}
use Rattle.syn_lower_spec.specs.Part.{MacroTree}
use Rattle.syn_lower_spec.specs.Own.{alone, before_if, colon2_before, enclosed, attribute_own, path_own, qualified_own, macro_own}
use Rattle.syn_lower_spec.specs.Pat as p
use Rattle.syn_lower_spec.specs.Pat.{MemberTree, PatBound, PatTree, SubPat, Pats, FieldTree}
use Rattle.syn_lower_spec.specs.PatOwn.{limits_before, range_bound_own, member_own, vert_before, word_if, attributes_own, no_more_pats, pat_own, sub_own, pats_own, or_own, fields_own, field_own}
use Rattle.syn_lower_spec.proofs.Appends.{both, one, if_there, if_some, group_first, lit_append, type_append, segments_append}

-- ---- parts

pub words : (b : Bool) (w : Text) (r : List Tok) → word_if b w r ≡ word_if b w [] ++ r
words b w r = if_there b (one (ident w)) r

limits_append : (c : Bool) (r : List Tok) → limits_before c r ≡ limits_before c [] ++ r
limits_append true r = refl
limits_append false r = refl

attribute_by : (b : Bool) (ts r : List Tok) → attribute_own (record { inner = b; tokens = ts }) r ≡ attribute_own (record { inner = b; tokens = ts }) [] ++ r
unfolding attribute_own
attribute_by true ts r = refl
attribute_by false ts r = refl

pub attribute_append : (a : AttributeTree) (r : List Tok) → attribute_own a r ≡ attribute_own a [] ++ r
attribute_append a r = attribute_by a.inner a.tokens r

pub attributes_append : (xs : List AttributeTree) (r : List Tok) → attributes_own xs r ≡ attributes_own xs [] ++ r
attributes_append [] r = refl
attributes_append (a ∷ more) r = both (attribute_append a) (attributes_append more) r

pub qualified_append : (q : QSelfTree) (x : PathTree) (r : List Tok) → qualified_own (q, x) r ≡ qualified_own (q, x) [] ++ r
qualified_append q x r = type_append (t.path q x.leading (t.segments_of x.segments) x.trailing) r

pub path_append : (x : PathTree) (r : List Tok) → path_own x r ≡ path_own x [] ++ r
path_append x r = both (if_there x.leading {F = colon2_before} (λ m. refl)) (segments_append 0 (t.segments_of x.segments) x.trailing) r

macro_append : (m : MacroTree) (r : List Tok) → macro_own m r ≡ macro_own m [] ++ r
macro_append m r = both {G = λ l. alone 33 ∷ enclosed m.delimiter m.tokens l} (path_append m.path) (λ l. refl) r

pub bound_append : (b : PatBound) (r : List Tok) → range_bound_own b r ≡ range_bound_own b [] ++ r
bound_append (p.lit_bound x) r = lit_append x r
bound_append (p.path_bound q x) r = qualified_append q x r

pub member_append : (k : MemberTree) (r : List Tok) → member_own k r ≡ member_own k [] ++ r
member_append (p.a_name w) r = refl
member_append (p.an_index n) r = refl

-- ---- patterns

mutual
  pub pat_append : (x : PatTree) (r : List Tok) → pat_own x r ≡ pat_own x [] ++ r
  pat_append p.wild r = refl
  pat_append p.rest r = refl
  pat_append (p.range s c e) r = both (if_some s range_bound_own bound_append) (both (limits_append c) (if_some e range_bound_own bound_append)) r
  pat_append (p.a_lit x) r = lit_append x r
  pat_append (p.a_binding b m w s) r = both (words b (codes "ref")) (both (words m (codes "mut")) (both (one (ident w)) (sub_append s))) r
  pat_append (p.a_path q x) r = qualified_append q x r
  pat_append (p.a_mac m) r = macro_append m r
  pat_append (p.a_struct x fs e d) r = both (path_append x) (group_first del.Brace (fields_own fs e (before_if d (limits_before false) []))) r
  pat_append (p.tuple_struct x ps e) r = both (path_append x) (group_first del.Parenthesis (pats_own ps e [])) r
  pat_append (p.a_tuple ps e) r = refl
  pat_append (p.a_paren x) r = refl
  pat_append (p.a_slice ps e) r = refl
  pat_append (p.a_reference m x) r = both (one (alone 38)) (both (words m (codes "mut")) (pat_append x)) r
  pat_append (p.a_block ts) r = refl
  pat_append (p.alternatives l ps e) r = both (if_there l {F = vert_before} (λ m. refl)) (or_append ps e) r
  pat_append (p.guarded x) r = pat_append x r
  pat_append (p.typed x y) r = both (pat_append x) (both (one (alone 58)) (type_append y)) r
  pat_append (p.attributed a more x) r = both (attribute_append a) (both (attributes_append more) (pat_append x)) r

  pub sub_append : (s : SubPat) (r : List Tok) → sub_own s r ≡ sub_own s [] ++ r
  sub_append p.no_sub r = refl
  sub_append (p.sub x) r = both (one (alone 64)) (pat_append x) r

  pub or_append : (ps : Pats) (e : Bool) (r : List Tok) → or_own ps e r ≡ or_own ps e [] ++ r
  or_append p.no_pats e r = refl
  or_append (p.more_pats x ps) e r = both (pat_append x) (both (if_there (not (no_more_pats ps) || e) {F = vert_before} (λ m. refl)) (or_append ps e)) r

pub field_append : (f : FieldTree) (r : List Tok) → field_own f r ≡ field_own f [] ++ r
field_append (p.short b m w) r = both (words b (codes "ref")) (both (words m (codes "mut")) (one (ident w))) r
field_append (p.full k x) r = both (member_append k) (both (one (alone 58)) (pat_append x)) r

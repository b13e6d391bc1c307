-- The own tokens of types and paths whose leaves are lexed.
use Rattle.std.proofs.Common.{◌≡◌, ℕ, zero, suc, Bool, true, false, not, ◌||◌, List, ◌∷◌, refl, codes}
use Rattle.std.proofs.lemmas.Bool.{and_parts}
use Rattle.syn_lexer.specs.declared.front.Delimiter.TheVariants as del
use Rattle.syn_tokens.specs.Tok.{Tok, ident}
use Rattle.syn_lower_spec.specs.Tree as t
use Rattle.syn_lower_spec.specs.Tree.{TypeTree, Types, QSelfTree, Segments, ArgumentsTree, Generics, GenericTree, ReturnTree, FnArgs, Bounds, BoundTree, PathTree}
use Rattle.syn_lower_spec.specs.Part.{MacroTree}
use Rattle.syn_lower_spec.specs.Own.{alone, comma_before, colon2_before, lifetime_own, lifetimes_own, extern_own, mutability_own, closed_at, one_less, count_segments, at_most, inner_count, qself_end, no_more_types, no_more_segments, no_more_generics, no_more_args, no_more_bounds, type_own, types_own, qself_own, segments_own, arguments_own, generics_own, generic_own, return_own, args_own, bounds_own, bound_own, path_own, qualified_own, macro_own}
use Rattle.syn_text_spec.specs.Leaves.{word_lexed, lifetime_lexed, lit_lexed, lexed_if, lifetimes_lexed, type_lexed, types_lexed, qself_lexed, segments_lexed, arguments_lexed, generics_lexed, generic_lexed, return_lexed, args_lexed, bounds_lexed, bound_lexed, path_lexed, qualified_lexed, macro_lexed}
use Rattle.syn_text_spec.proofs.Words.{words}
use Rattle.syn_text_spec.proofs.Lists.{Lexed, lexed, nil, put, append, word, life, close, group_before, comma, colons, arrow, if_there, if_some, lifetimes, abi}

closed : (n : ℕ) {r : List Tok} → Lexed r → Lexed (closed_at n r)
closed zero l = l
closed (suc zero) l = put refl l
closed (suc (suc n)) l = l

ended : (n : ℕ) {r : List Tok} → Lexed r → Lexed (qself_end n r)
ended zero l = put refl l
ended (suc n) l = put words.as_word l

mutability : (m : Bool) {r : List Tok} → Lexed r → Lexed (mutability_own m r)
mutability true l = put words.mut_word l
mutability false l = put words.const_word l

mutual
  pub type_ok : (x : TypeTree) {r : List Tok} → type_lexed x ≡ true → Lexed r → Lexed (type_own x r)
  type_ok (t.path q b ss e) h l =
      let p = and_parts (qself_lexed q) (segments_lexed ss) h in
      qself_ok q (count_segments ss) p.0 (if_there b {f = colon2_before} (λ r m. colons m) (segments_ok (inner_count q (count_segments ss)) ss e p.1 l))
  type_ok (t.mac b ss e d ts) h l =
      let p = and_parts (segments_lexed ss) _ h in
      if_there b {f = colon2_before} (λ r m. colons m) (segments_ok 0 ss e p.0 (put refl (group_before d ts p.1 l)))
  type_ok (t.reference a m x) h l =
      let p = and_parts (lexed_if lifetime_lexed a) (type_lexed x) h in
      put refl (if_some lifetime_lexed {own = lifetime_own} (λ w g r n. life w g n) a p.0
      (if_there m {f = λ n. ident (codes "mut") ∷ n} (λ r n. put words.mut_word n) (type_ok x p.1 l)))
  type_ok (t.ptr m x) h l = put refl (mutability m (type_ok x h l))
  type_ok (t.slice x) h l = close del.Bracket refl (type_ok x h nil) l
  type_ok (t.array x n) h l =
      let p = and_parts (type_lexed x) _ h in
      close del.Bracket refl (type_ok x p.0 (put refl (lexed p.1))) l
  type_ok (t.tuple xs e) h l = close del.Parenthesis refl (types_ok xs e h nil) l
  type_ok (t.paren x) h l = close del.Parenthesis refl (type_ok x h nil) l
  type_ok t.never h l = put refl l
  type_ok t.infer h l = put words.underscore l
  type_ok (t.fn_ptr f u a xs e o) h l =
      let p = and_parts (lexed_if lifetimes_lexed f) _ h in
      let q = and_parts (lexed_if (lexed_if lit_lexed) a) _ p.1 in
      let s = and_parts (args_lexed xs) (return_lexed o) q.1 in
      if_some lifetimes_lexed {own = lifetimes_own} (λ y g r m. lifetimes y g m) f p.0
      (if_there u {f = λ n. ident (codes "unsafe") ∷ n} (λ r m. put words.unsafe_word m)
      (if_some (lexed_if lit_lexed) {own = extern_own} (λ y g r m. abi y g m) a q.0
      (put words.fn_word (close del.Parenthesis refl (args_ok xs e s.0 nil) (return_ok o s.1 l)))))
  type_ok (t.impl_trait bs e) h l = put words.impl_word (bounds_ok bs e h l)
  type_ok (t.trait_object bs e) h l = put words.dyn_word (bounds_ok bs e h l)

  pub types_ok : (xs : Types) (e : Bool) {r : List Tok} → types_lexed xs ≡ true → Lexed r → Lexed (types_own xs e r)
  types_ok t.no_types e h l = l
  types_ok (t.more_types x xs) e h l =
      let p = and_parts (type_lexed x) (types_lexed xs) h in
      type_ok x p.0 (if_there (not (no_more_types xs) || e) {f = comma_before} (λ r m. comma m) (types_ok xs e p.1 l))

  pub qself_ok : (q : QSelfTree) (k : ℕ) {r : List Tok} → qself_lexed q ≡ true → Lexed r → Lexed (qself_own q k r)
  qself_ok t.no_qself k h l = l
  qself_ok (t.qself x n a) k h l = put refl (type_ok x h (ended (at_most n k) l))

  pub segments_ok : (n : ℕ) (ss : Segments) (e : Bool) {r : List Tok} → segments_lexed ss ≡ true → Lexed r → Lexed (segments_own n ss e r)
  segments_ok n t.no_segments e h l = l
  segments_ok n (t.more_segments w a ss) e h l =
      let p = and_parts (word_lexed w) _ h in
      let q = and_parts (arguments_lexed a) (segments_lexed ss) p.1 in
      word w p.0 (arguments_ok a q.0 (closed n (if_there (not (no_more_segments ss) || e) {f = colon2_before} (λ r m. colons m) (segments_ok (one_less n) ss e q.1 l))))

  pub arguments_ok : (a : ArgumentsTree) {r : List Tok} → arguments_lexed a ≡ true → Lexed r → Lexed (arguments_own a r)
  arguments_ok t.no_arguments h l = l
  arguments_ok (t.angle c gs e) h l = if_there c {f = colon2_before} (λ r m. colons m) (put refl (generics_ok gs e h (put refl l)))
  arguments_ok (t.round xs e o) h l =
      let p = and_parts (types_lexed xs) (return_lexed o) h in
      close del.Parenthesis refl (types_ok xs e p.0 nil) (return_ok o p.1 l)

  pub generics_ok : (gs : Generics) (e : Bool) {r : List Tok} → generics_lexed gs ≡ true → Lexed r → Lexed (generics_own gs e r)
  generics_ok t.no_generics e h l = l
  generics_ok (t.more_generics g gs) e h l =
      let p = and_parts (generic_lexed g) (generics_lexed gs) h in
      generic_ok g p.0 (if_there (not (no_more_generics gs) || e) {f = comma_before} (λ r m. comma m) (generics_ok gs e p.1 l))

  pub generic_ok : (g : GenericTree) {r : List Tok} → generic_lexed g ≡ true → Lexed r → Lexed (generic_own g r)
  generic_ok (t.a_lifetime w) h l = life w h l
  generic_ok (t.a_const ts) h l = append ts h l
  generic_ok (t.an_assoc w x) h l =
      let p = and_parts (word_lexed w) (type_lexed x) h in
      word w p.0 (put refl (type_ok x p.1 l))
  generic_ok (t.a_type x) h l = type_ok x h l

  pub return_ok : (o : ReturnTree) {r : List Tok} → return_lexed o ≡ true → Lexed r → Lexed (return_own o r)
  return_ok t.default h l = l
  return_ok (t.given x) h l = arrow (type_ok x h l)

  pub args_ok : (xs : FnArgs) (e : Bool) {r : List Tok} → args_lexed xs ≡ true → Lexed r → Lexed (args_own xs e r)
  args_ok t.no_args e h l = l
  args_ok (t.more_args n x xs) e h l =
      let p = and_parts (lexed_if word_lexed n) _ h in
      let q = and_parts (type_lexed x) (args_lexed xs) p.1 in
      if_some word_lexed {own = λ w m. ident w ∷ alone 58 ∷ m} (λ w g r m. word w g (put refl m)) n p.0
      (type_ok x q.0 (if_there (not (no_more_args xs) || e) {f = comma_before} (λ r m. comma m) (args_ok xs e q.1 l)))

  pub bounds_ok : (bs : Bounds) (e : Bool) {r : List Tok} → bounds_lexed bs ≡ true → Lexed r → Lexed (bounds_own bs e r)
  bounds_ok t.no_bounds e h l = l
  bounds_ok (t.more_bounds b bs) e h l =
      let p = and_parts (bound_lexed b) (bounds_lexed bs) h in
      bound_ok b p.0 (if_there (not (no_more_bounds bs) || e) {f = λ m. alone 43 ∷ m} (λ r m. put refl m) (bounds_ok bs e p.1 l))

  pub bound_ok : (b : BoundTree) {r : List Tok} → bound_lexed b ≡ true → Lexed r → Lexed (bound_own b r)
  bound_ok (t.outlives w) h l = life w h l
  bound_ok (t.a_trait q f b ss e) h l =
      let p = and_parts (lexed_if lifetimes_lexed f) (segments_lexed ss) h in
      if_there q {f = λ m. alone 63 ∷ m} (λ r m. put refl m)
      (if_some lifetimes_lexed {own = lifetimes_own} (λ y g r m. lifetimes y g m) f p.0
      (if_there b {f = colon2_before} (λ r m. colons m) (segments_ok 0 ss e p.1 l)))

pub path_ok : (p : PathTree) {r : List Tok} → path_lexed p ≡ true → Lexed r → Lexed (path_own p r)
path_ok p h l = if_there p.leading {f = colon2_before} (λ r m. colons m) (segments_ok 0 (t.segments_of p.segments) p.trailing h l)

pub qualified_ok : (q : QSelfTree) (p : PathTree) {r : List Tok} → qualified_lexed q p ≡ true → Lexed r → Lexed (qualified_own (q, p) r)
qualified_ok q p h l = type_ok (t.path q p.leading (t.segments_of p.segments) p.trailing) h l

pub macro_ok : (m : MacroTree) {r : List Tok} → macro_lexed m ≡ true → Lexed r → Lexed (macro_own m r)
macro_ok m h l =
    let p = and_parts (path_lexed m.path) _ h in
    path_ok m.path p.0 (put refl (group_before m.delimiter m.tokens p.1 l))

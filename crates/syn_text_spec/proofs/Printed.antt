-- What a printer adds keeps the leaves lexed: commas and dots, parentheses, and the braces of a block.
use Rattle.std.proofs.Common.{◌≡◌, Bool, true, false, not, refl}
use Rattle.std.specs.Prelude.{if◌then◌else◌}
use Rattle.std.proofs.lemmas.Bool.{and_parts, and_from}
use Rattle.syn_expr_spec.specs.declared.kinds.Precedence.TheVariants as lev
use Rattle.syn_expr_spec.specs.declared.next.Context.{Context}
use Rattle.syn_expr_spec.specs.Op.{level}
use Rattle.syn_expr_spec.specs.Next.{enclosed, in_statement, left_context, base_context, right_context, attributed_context, prefix_context, piece_context}
use Rattle.syn_expr_spec.specs.Tree as e
use Rattle.syn_expr_spec.specs.Tree.{Piece, Ending, Tree, Children, needs_comma, needs_last_comma, with_comma, fill_piece, fill, fill_children, postfix_op, plain_block, own_tokens, is_none}
use Rattle.syn_expr_spec.specs.Rule.{is_operation, put, left_asks, base_asks, place_asks, prefix_asks, is_chainable, is_plain_block, chained_bare, piece_put, bare, bare_children, printed}
use Rattle.syn_text.specs.Lexed.{is_lexed}
use Rattle.syn_text_spec.specs.Leaves.{attributes_lexed, prefix_lexed, postfix_lexed, trailer_lexed, frame_lexed, piece_lexed, ending_lexed, leaves_lexed, children_lexed}
use Rattle.syn_text_spec.proofs.Lists.{nil}
use Rattle.syn_text_spec.proofs.Trees.{tree_ok}

-- ---- fill-ins

piece_filled : (k : Piece) → piece_lexed k ≡ true → piece_lexed (fill_piece k) ≡ true
piece_filled (e.rest dots) h = refl
piece_filled _ h = h

comma_added : (b : Bool) (c : Ending) → ending_lexed c ≡ true → ending_lexed (with_comma b c) ≡ true
comma_added true e.no_ending h = refl
comma_added true e.comma h = h
comma_added true (e.braced b) h = h
comma_added true (e.opened ats) h = h
comma_added false c h = h

mutual
  pub fill_ok : (t : Tree) → leaves_lexed t ≡ true → leaves_lexed (fill t) ≡ true
  fill_ok (e.leaf k) h = h
  fill_ok (e.paren m t) h = fill_ok t h
  fill_ok (e.attributed a more t) h =
      let p = and_parts (is_lexed a.tokens) _ h in
      let q = and_parts (attributes_lexed more) (leaves_lexed t) p.1 in
      and_from (is_lexed a.tokens) _ p.0 (and_from (attributes_lexed more) (leaves_lexed (fill t)) q.0 (fill_ok t q.1))
  fill_ok (e.prefixed k gs t) h =
      let p = and_parts (prefix_lexed k) (leaves_lexed t) h in
      and_from (prefix_lexed k) (leaves_lexed (fill t)) p.0 (fill_ok t p.1)
  fill_ok (e.infixed x k y) h =
      let p = and_parts (leaves_lexed x) (leaves_lexed y) h in
      and_from (leaves_lexed (fill x)) (leaves_lexed (fill y)) (fill_ok x p.0) (fill_ok y p.1)
  fill_ok (e.postfixed x k) h =
      let p = and_parts (leaves_lexed x) (postfix_lexed k) h in
      and_from (leaves_lexed (fill x)) (postfix_lexed k) (fill_ok x p.0) p.1
  fill_ok (e.tail b k ks) h =
      let p = and_parts (leaves_lexed b) _ h in
      let q = and_parts (trailer_lexed k) (children_lexed ks) p.1 in
      and_from (leaves_lexed (fill b)) _ (fill_ok b p.0) (and_from (trailer_lexed k) (children_lexed (fill_children false ks)) q.0 (children_filled false ks q.1))
  fill_ok (e.frame k ks) h =
      let p = and_parts (frame_lexed k) (children_lexed ks) h in
      and_from (frame_lexed k) (children_lexed (fill_children (needs_last_comma k ks) ks)) p.0 (children_filled (needs_last_comma k ks) ks p.1)

  children_filled : (last : Bool) (ks : Children) → children_lexed ks ≡ true → children_lexed (fill_children last ks) ≡ true
  children_filled last e.none h = refl
  children_filled last (e.child k c t ks) h =
      let p = and_parts (piece_lexed k) _ h in
      let q = and_parts (ending_lexed c) _ p.1 in
      let s = and_parts (leaves_lexed t) (children_lexed ks) q.1 in
      let ends = with_comma (needs_comma k t (not (is_none ks)) last) c in
      and_from (piece_lexed (fill_piece k)) _ (piece_filled k p.0)
      (and_from (ending_lexed ends) _ (comma_added (needs_comma k t (not (is_none ks)) last) c q.0)
      (and_from (leaves_lexed (fill t)) (children_lexed (fill_children last ks)) (fill_ok t s.0) (children_filled last ks s.1)))

-- ---- parentheses

put_ok : (b : Bool) (x y : Tree) → leaves_lexed x ≡ true → leaves_lexed y ≡ true → leaves_lexed (put b x y) ≡ true
put_ok true x y h g = h
put_ok false x y h g = g

-- without its attributes, an `if` has its own leaves
chained_ok : (t : Tree) → leaves_lexed t ≡ true → leaves_lexed (chained_bare t) ≡ true
chained_ok (e.attributed a more (e.frame k ks)) h =
    (and_parts (attributes_lexed more) (leaves_lexed (e.frame k ks)) (and_parts (is_lexed a.tokens) _ h).1).1
chained_ok _ h = h

block_ok : (t : Tree) → leaves_lexed t ≡ true → leaves_lexed (plain_block (own_tokens t)) ≡ true
block_ok t h = (tree_ok t h nil).is

one_of : (b : Bool) (x y : Tree) → leaves_lexed x ≡ true → leaves_lexed y ≡ true → leaves_lexed (if b then x else y) ≡ true
one_of true x y h g = h
one_of false x y h g = g

piece_ok : (k : Piece) (t alone one stated : Tree) (asks : Bool) → leaves_lexed t ≡ true → leaves_lexed alone ≡ true → leaves_lexed one ≡ true
    → leaves_lexed stated ≡ true → leaves_lexed (piece_put k t alone one stated asks) ≡ true
piece_ok e.chained t alone one stated asks h a b s = one_of (is_chainable t) (chained_bare one) (plain_block (own_tokens stated)) (chained_ok one b) (block_ok stated s)
piece_ok e.output_block t alone one stated asks h a b s = one_of (is_plain_block t) one (plain_block (own_tokens stated)) b (block_ok stated s)
piece_ok (e.field_value ats m colon) t alone one stated asks h a b s = one_of (not colon) t (put asks alone one) h (put_ok asks alone one a b)
piece_ok e.stray t alone one stated asks h a b s = h
piece_ok _ t alone one stated asks h a b s = put_ok asks alone one a b

-- in parentheses or bare
either : (b : Bool) (c : Context) (t : Tree) → ((d : Context) → leaves_lexed (bare d t) ≡ true) → leaves_lexed (put b (bare enclosed t) (bare c t)) ≡ true
either b c t f = put_ok b (bare enclosed t) (bare c t) (f enclosed) (f c)

mutual
  pub bare_ok : (c : Context) (t : Tree) → leaves_lexed t ≡ true → leaves_lexed (bare c t) ≡ true
  bare_ok c (e.leaf k) h = h
  bare_ok c (e.paren m t) h = bare_ok enclosed t h
  bare_ok c (e.attributed a more t) h =
      let p = and_parts (is_lexed a.tokens) _ h in
      let q = and_parts (attributes_lexed more) (leaves_lexed t) p.1 in
      and_from (is_lexed a.tokens) _ p.0 (and_from (attributes_lexed more) _ q.0 (either (is_operation t) (attributed_context c) t (λ d. bare_ok d t q.1)))
  bare_ok c (e.prefixed k gs t) h =
      let p = and_parts (prefix_lexed k) (leaves_lexed t) h in
      and_from (prefix_lexed k) _ p.0 (either (prefix_asks k (prefix_context k c) t) (prefix_context k c) t (λ d. bare_ok d t p.1))
  bare_ok c (e.infixed x k y) h =
      let p = and_parts (leaves_lexed x) (leaves_lexed y) h in
      and_from _ _ (either (left_asks k (left_context k c) x) (left_context k c) x (λ d. bare_ok d x p.0)) (either (place_asks (level k) (right_context k c) y) (right_context k c) y (λ d. bare_ok d y p.1))
  bare_ok c (e.postfixed x k) h =
      let p = and_parts (leaves_lexed x) (postfix_lexed k) h in
      and_from _ (postfix_lexed k) (either (left_asks (postfix_op k) (left_context (postfix_op k) c) x) (left_context (postfix_op k) c) x (λ d. bare_ok d x p.0)) p.1
  bare_ok c (e.tail b k ks) h =
      let p = and_parts (leaves_lexed b) _ h in
      let q = and_parts (trailer_lexed k) (children_lexed ks) p.1 in
      and_from _ _ (either (base_asks k (base_context k c) b) (base_context k c) b (λ d. bare_ok d b p.0)) (and_from (trailer_lexed k) (children_lexed (bare_children ks)) q.0 (children_bare ks q.1))
  bare_ok c (e.frame k ks) h =
      let p = and_parts (frame_lexed k) (children_lexed ks) h in
      and_from (frame_lexed k) (children_lexed (bare_children ks)) p.0 (children_bare ks p.1)

  children_bare : (ks : Children) → children_lexed ks ≡ true → children_lexed (bare_children ks) ≡ true
  children_bare e.none h = refl
  children_bare (e.child k c t ks) h =
      let p = and_parts (piece_lexed k) _ h in
      let q = and_parts (ending_lexed c) _ p.1 in
      let s = and_parts (leaves_lexed t) (children_lexed ks) q.1 in
      and_from (piece_lexed k) _ p.0 (and_from (ending_lexed c) _ q.0 (and_from _ (children_lexed (bare_children ks))
      (piece_ok k t (bare enclosed t) (bare (piece_context k) t) (put (place_asks lev.Jump in_statement t) (bare enclosed t) (bare in_statement t))
      (place_asks lev.Jump (piece_context k) t) s.0 (bare_ok enclosed t s.0) (bare_ok (piece_context k) t s.0) (either (place_asks lev.Jump in_statement t) in_statement t (λ d. bare_ok d t s.0)))
      (children_bare ks s.1)))

pub printed_ok : (c : Context) (t : Tree) → leaves_lexed t ≡ true → leaves_lexed (printed c t) ≡ true
printed_ok c t h = either (place_asks lev.Jump c (fill t)) c (fill t) (λ d. bare_ok d (fill t) (fill_ok t h))

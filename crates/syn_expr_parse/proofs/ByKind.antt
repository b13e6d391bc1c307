-- What the reading asks of an expression can be seen from its kind and its attributes.
use Rattle.std.proofs.Common.{◌≡◌, refl}
use Rattle.syn_expr_spec.specs.Tree as e
use Rattle.syn_expr_spec.specs.Tree.{Tree}
use Rattle.syn_expr_spec.specs.Stands as stands
use Rattle.syn_expr_ast.specs.Label.{kind_at}
use Rattle.syn_expr_parse.specs.Kind as known
use Rattle.syn_expr_parse.specs.Kind.{bare_kind}

-- ---- leaves and prefixes by their kinds

carries-leaf : (k : e.Leaf) → stands.carries (e.leaf k) ≡ known.carries (kind_at (e.leaf k))
carries-leaf (e.lit x) = refl
carries-leaf (e.bare_jump e.returning) = refl
carries-leaf (e.bare_jump e.yielding) = refl
carries-leaf (e.bare_jump (e.breaking l)) = refl
carries-leaf _ = refl

carries-prefixed : (k : e.Prefix) (gs : e.Children) (t : Tree) → stands.carries (e.prefixed k gs t) ≡ known.carries (kind_at (e.prefixed k gs t))
carries-prefixed (e.jump e.returning) gs t = refl
carries-prefixed (e.jump e.yielding) gs t = refl
carries-prefixed (e.jump (e.breaking l)) gs t = refl
carries-prefixed _ gs t = refl

pub carries-kind : (t : Tree) → stands.carries t ≡ known.carries (kind_at t)
carries-kind (e.attributed a more t) = carries-kind t
carries-kind (e.leaf k) = carries-leaf k
carries-kind (e.prefixed k gs t) = carries-prefixed k gs t
carries-kind _ = refl

range-leaf : (k : e.Leaf) → stands.is_range (e.leaf k) ≡ known.is_range (kind_at (e.leaf k))
range-leaf (e.bare_jump e.returning) = refl
range-leaf (e.bare_jump e.yielding) = refl
range-leaf (e.bare_jump (e.breaking l)) = refl
range-leaf _ = refl

range-prefixed : (k : e.Prefix) (gs : e.Children) (t : Tree) → stands.is_range (e.prefixed k gs t) ≡ known.is_range (kind_at (e.prefixed k gs t))
range-prefixed (e.jump e.returning) gs t = refl
range-prefixed (e.jump e.yielding) gs t = refl
range-prefixed (e.jump (e.breaking l)) gs t = refl
range-prefixed _ gs t = refl

range-postfixed : (x : Tree) (k : e.Postfix) → stands.is_range (e.postfixed x k) ≡ known.is_range (kind_at (e.postfixed x k))
range-postfixed x (e.cast ty) = refl
range-postfixed x (e.range_from op) = refl

pub range-kind : (t : Tree) → stands.is_range t ≡ known.is_range (kind_at t)
range-kind (e.attributed a more t) = range-kind t
range-kind (e.leaf k) = range-leaf k
range-kind (e.prefixed k gs t) = range-prefixed k gs t
range-kind (e.postfixed x k) = range-postfixed x k
range-kind _ = refl

-- ---- nodes without attributes

pub compares-bare : (t : Tree) → stands.compares t ≡ known.compares (bare_kind t)
unfolding bare_kind
compares-bare (e.infixed x op y) = refl
compares-bare _ = refl

pub infix-bare : (t : Tree) → stands.is_infix t ≡ known.is_infix (bare_kind t)
unfolding bare_kind
infix-bare (e.infixed x op y) = refl
infix-bare (e.postfixed x k) = refl
infix-bare _ = refl

cast-postfixed : (x : Tree) (k : e.Postfix) → stands.is_cast (e.postfixed x k) ≡ known.is_cast (bare_kind (e.postfixed x k))
unfolding bare_kind
cast-postfixed x (e.cast ty) = refl
cast-postfixed x (e.range_from op) = refl

pub cast-bare : (t : Tree) → stands.is_cast t ≡ known.is_cast (bare_kind t)
unfolding bare_kind
cast-bare (e.postfixed x k) = cast-postfixed x k
cast-bare _ = refl

verbatim-leaf : (k : e.Leaf) → stands.is_verbatim (e.leaf k) ≡ known.is_verbatim (bare_kind (e.leaf k))
unfolding bare_kind
verbatim-leaf (e.bare_jump e.returning) = refl
verbatim-leaf (e.bare_jump e.yielding) = refl
verbatim-leaf (e.bare_jump (e.breaking l)) = refl
verbatim-leaf _ = refl

pub verbatim-bare : (t : Tree) → stands.is_verbatim t ≡ known.is_verbatim (bare_kind t)
unfolding bare_kind
verbatim-bare (e.leaf k) = verbatim-leaf k
verbatim-bare _ = refl

pounded-leaf : (k : e.Leaf) → stands.is_pounded (e.leaf k) ≡ known.is_pounded (bare_kind (e.leaf k))
unfolding bare_kind
pounded-leaf (e.bare_jump e.returning) = refl
pounded-leaf (e.bare_jump e.yielding) = refl
pounded-leaf (e.bare_jump (e.breaking l)) = refl
pounded-leaf _ = refl

pub pounded-bare : (t : Tree) → stands.is_pounded t ≡ known.is_pounded (bare_kind t)
unfolding bare_kind
pounded-bare (e.leaf k) = pounded-leaf k
pounded-bare _ = refl

named-tail : (b : Tree) (k : e.Trailer) (ks : e.Children) → stands.is_named_field (e.tail b k ks) ≡ known.is_named_field (bare_kind (e.tail b k ks))
unfolding bare_kind
named-tail b (e.field m) ks = refl
named-tail b _ ks = refl

pub named-bare : (t : Tree) → stands.is_named_field t ≡ known.is_named_field (bare_kind t)
unfolding bare_kind
named-bare (e.tail b k ks) = named-tail b k ks
named-bare _ = refl

pub ruleset kinds = (carries-kind, range-kind, compares-bare, infix-bare, cast-bare, verbatim-bare, pounded-bare, named-bare)

-- Reading an expression of one kind by itself is exact.
use Rattle.std.specs.Prelude.{not}
use Rattle.std.proofs.Common.{◌≡◌, ℕ, Bool, true, false, ⊎_elim, List, [], ◌∷◌, drop, Some, None, refl, ap, sym, subst, ◌∙◌, arith}
use Rattle.syn_lexer.specs.declared.front.Delimiter.TheVariants as del
use Rattle.syn_tokens.specs.Tok.{Tok, Inside, group, weight}
use Rattle.syn_tokens.specs.Input.{IsTail}
use Rattle.syn_tokens.specs.Front.{group_at, is_empty}
use Rattle.syn_lower_spec.specs.declared.label.PathStyle.TheVariants as style
use Rattle.syn_lower_spec.specs.Tree.{AttributeTree}
use Rattle.syn_lower_spec.specs.Pat.{an_index}
use Rattle.syn_lower_spec.specs.Form.{Form, Outcome, and_then, then_by, more, fix, iterate, flag}
use Rattle.syn_lower_spec.specs.Mark.{sign_at, word_at, lifetime_at, brace_at, pound, and, mutable}
use Rattle.syn_lower_spec.specs.Part.{QPathTree, MacroEnd, outer_attributes, qpath, type, lit, macro, macro_end}
use Rattle.syn_lower_spec.proofs.Forms.{Alike, flag_at_alike}
use Rattle.syn_lower_spec.proofs.Marks.{and_present, mutable_present}
use Rattle.syn_lower_spec.proofs.PatsBack.{attributes_back}
use Rattle.syn_lower_spec.proofs.Readable.{lit_readable, macro_readable}
use Rattle.syn_lower_spec.proofs.Tails.{flag_leaves, tail_then}
use Rattle.syn_lower_spec.proofs.Weights.{some_is}
use Rattle.syn_expr_spec.specs.declared.kinds.Place.{Place}
use Rattle.syn_expr_spec.specs.declared.kinds.Precedence.TheVariants as lev
use Rattle.syn_expr_spec.specs.Place.{plain, at}
use Rattle.syn_expr_spec.specs.Tree as tr
use Rattle.syn_expr_spec.specs.Tree.{Tree, Children, Leaf, leaf, paren, prefixed, tail, frame, none, attributed_with}
use Rattle.syn_expr_spec.specs.Path.{invisible_at, expr_path}
use Rattle.syn_expr_spec.specs.Head.{leaf_form, named, to_named, range_at, jump_at}
use Rattle.syn_expr_spec.specs.Slot as s
use Rattle.syn_expr_spec.specs.Stands.{Node, is_leaf, is_paren, is_attributed_by, is_prefixed, is_indexed, is_frame, Content, holds_within, Stands, leaf_stands, prefix_place, takes_attributes, is_attributed, is_verbatim_leaf, ends_list, fields_of, is_if_expr}
use Rattle.syn_expr_spec.specs.Read.{Reading, only_if, bare_operands, atom, expr}
use Rattle.syn_expr_spec.specs.Alone.{Alone, behind_attributes, unattributed, is_inside, PathAlone, is_path, LitAlone, is_lit, MacroAlone, is_macro, ReferenceAlone, is_reference, StructAlone, is_struct, OfKind, of_kind, ungrouped, is_infer, is_block, is_loop, is_unsafe, is_const, is_async, is_try_block, is_continue, is_return, is_yield, is_break, is_unary, is_raw_addr, is_let, is_closure, is_array, is_repeat, is_match, is_for_loop, is_while}
use Rattle.syn_expr_spec.specs.Exact.{IsExact}
use Rattle.syn_expr_spec.specs.AloneRead.{is_atom, is_plain_leaf, is_plain, AreAtoms, AreAttributed, ArePlain, kind_of, leaf_alone, operand_alone, attributed_alone, path_alone, lit_alone, macro_alone, reference_alone, structure_behind, struct_alone, expr_of_kind}
use Rattle.syn_expr_spec.proofs.Chains.{then_some, only_some, chosen}
use Rattle.syn_expr_spec.proofs.GroupForms.{invisible_is}
use Rattle.syn_expr_spec.proofs.Needs.{heads}
use Rattle.syn_expr_spec.proofs.HeadMoves.{IsLess, less_then, then_less, marked, grouped, group_inside, left, left_less}
use Rattle.syn_expr_spec.proofs.Lesses.{here, node_less}
use Rattle.syn_expr_spec.proofs.Sound.{bare_sound}
use Rattle.syn_expr_spec.proofs.SoundAtoms.{atom_sound}
use Rattle.syn_expr_spec.proofs.ReadAtoms.{leaf_atom, no_pound, ends_is}
use Rattle.syn_expr_spec.proofs.ReadOperands.{bare_read}
use Rattle.syn_expr_spec.proofs.ReadTrailers.{pound_there}
use Rattle.syn_expr_spec.proofs.ReadFrames.{prefix_atom, paren_atom, frame_atom}
use Rattle.syn_expr_spec.proofs.Exact.{expr_sound, expr_complete}
use Rattle.syn_expr_spec.proofs.HeadForms.{leaf_tests}
use Rattle.syn_expr_spec.specs.Alone as tests

-- a reading that gives what is, and all that does
exactly : {B : Type 0} {reads : List Tok → Outcome B} {stands : List Tok → B → List Tok → Type 0}
    → ((l : List Tok) (x : B) (n : List Tok) → reads l ≡ Some (x, n) → stands l x n) → ((l : List Tok) (x : B) (n : List Tok) → stands l x n → reads l ≡ Some (x, n))
    → ((l : List Tok) (x : B) (n : List Tok) → stands l x n → IsLess n l) → IsExact reads stands
exactly s c u = record {
  sound = s;
  complete = c;
  tail = λ l x n h. let v = u l x n (s l x n h) in v.tail;
  less = λ l x n h. let v = u l x n (s l x n h) in v.less;
}

-- ---- operands without trailers

fields_no_atom : (b : Tree) (is : List ℕ) → is_atom b ≡ false → is_atom (fields_of b is) ≡ false
fields_no_atom b [] h = h
fields_no_atom b (i ∷ is) h = fields_no_atom _ is refl

-- what is as one is read as one
atom_is : {l n : List Tok} {x : Tree} → Node plain l x n → is_atom x ≡ true → atom expr plain l ≡ Some (x, n)
atom_is (is_leaf {l = l} {n = n} {k = k} h g) a = leaf_atom expr plain k l n h g
atom_is (is_paren {i = i} {n = n} {x = x} d e c) a =
    paren_atom expr (weight (group del.Parenthesis i ∷ n)) (λ p l m y b s. expr_complete p l y m s) plain i n x (omega arith) d e c
atom_is (is_prefixed {l = l} {m = m} {n = n} {k = k} {x = x} h g d e c) a =
    prefix_atom expr (weight l) (λ p i j y b s. expr_complete p i y j s) plain k l m n x h g
    (expr_complete (prefix_place plain k) m x n (record { node = d; ending = e; closing = c }))
atom_is (is_indexed {b = b} {i = i} {is = is} d f h j) a =
    absurd (cc (j, a, fields_no_atom (tail b (tr.field (an_index i)) none) is refl))
atom_is (is_frame {l = l} {h = h} {n = n} {k = k} {ks = ks} b c g e) a =
    frame_atom expr (weight l) (λ p i j y d s. expr_complete p i y j s) plain k l h n ks b c (omega arith) g e
atom_is _ a = absurd cc

operand_sound : (is : Tree → Bool) (l : List Tok) (x : Tree) (n : List Tok) → operand_alone is l ≡ Some (x, n) → Alone is l x n
unfolding operand_alone
operand_sound is l x n h =
    let (z, i, f) = then_some (atom expr plain l) (kind_of is) (x, n) h in
    let (a, b) = only_some (is z.0) (Some (z.0, z.1)) (x, n) f in
    subst (λ (q : Tree × List Tok). Alone is l q.0 q.1) (some_is b) (atom_sound heads expr expr_sound plain l z i, a)

module _ (is : Tree → Bool) (atoms : AreAtoms is) where
  operand_complete : (l : List Tok) (x : Tree) (n : List Tok) → Alone is l x n → operand_alone is l ≡ Some (x, n)
  unfolding operand_alone
  operand_complete l x n (d, a) = rw (atom_is d (atoms x a), a) refl

  -- an operand of a kind without trailers
  pub operand_exact : IsExact (operand_alone is) (Alone is)
  operand_exact = exactly (operand_sound is) (operand_complete) (λ l x n s. node_less s.0)

-- ---- what a reader of a kind asks of an operand that was read

bare_is : (x : Tree) → is_attributed x ≡ false → unattributed x ≡ x
bare_is (tr.attributed a bs x) h = absurd cc
bare_is _ h = refl

fields_bare : (b : Tree) (is : List ℕ) → is_attributed b ≡ false → is_attributed (fields_of b is) ≡ false
fields_bare b [] h = h
fields_bare b (i ∷ is) h = fields_bare _ is refl

attributed_pound : {l n : List Tok} {x : Tree} → Node plain l x n → is_attributed x ≡ true → pound.at l ≡ true
attributed_pound (is_attributed_by {l = l} {m = m} {a = a} {more = bs} v f d) b = pound_there a bs l m v
attributed_pound (is_indexed {b = v} {i = i} {is = more} d f h j) b =
    absurd (cc (j, b, fields_bare (tail v (tr.field (an_index i)) none) more refl))
attributed_pound _ b = absurd cc

-- no attributes come before it
atom_bare : (l : List Tok) (x : Tree) (n : List Tok) → atom expr plain l ≡ Some (x, n) → is_attributed x ≡ false
atom_bare l x n h = go (is_attributed x) refl
  where
    go : (b : Bool) → is_attributed x ≡ b → b ≡ false
    go false e = refl
    go true e = absurd (cc (no_pound expr plain l (x, n) h, attributed_pound (atom_sound heads expr expr_sound plain l (x, n) h) e))

module _ (is : Tree → Bool) (l : List Tok) where
  pub operand_found : (x : Tree) (n : List Tok) → atom expr plain l ≡ Some (x, n) → is (unattributed x) ≡ true → operand_alone is l ≡ Some (x, n)
  unfolding operand_alone
  operand_found x n h a = rw (h, ap is (sym (bare_is x (atom_bare l x n h))) ∙ a) refl

  pub operand_other : (x : Tree) (n : List Tok) → atom expr plain l ≡ Some (x, n) → is (unattributed x) ≡ false → operand_alone is l ≡ None
  unfolding operand_alone
  operand_other x n h a = rw (h, ap is (sym (bare_is x (atom_bare l x n h))) ∙ a) refl

  pub operand_none : atom expr plain l ≡ None → operand_alone is l ≡ None
  unfolding operand_alone
  operand_none h = rw h refl

-- no attributes come before what was read
pub operand_bare : (is : Tree → Bool) (l n : List Tok) (x : Tree) → operand_alone is l ≡ Some (x, n) → is_attributed x ≡ false
unfolding operand_alone
operand_bare is l n x h =
    let (z, i, f) = then_some (atom expr plain l) (kind_of is) (x, n) h in
    let (a, b) = only_some (is z.0) (Some (z.0, z.1)) (x, n) f in
    subst (λ (q : Tree × List Tok). is_attributed q.0 ≡ false) (some_is b) (atom_bare l z.0 z.1 i)

pub ruleset bares = (operand_bare)

pub ruleset operands = (operand_found, operand_other, operand_none)

-- ---- leaves

plain_stands : (k : Leaf) (n : List Tok) → is_plain_leaf k ≡ true → leaf_stands plain k n ≡ true
unfolding leaf_stands
plain_stands (tr.path q w) n h = absurd cc
plain_stands (tr.full_range op) n h = absurd cc
plain_stands (tr.bare_jump j) n h = absurd cc
plain_stands _ n h = refl

pub plain_atom : (x : Tree) → is_plain x ≡ true → is_atom x ≡ true
plain_atom (leaf (tr.verbatim ts)) h = absurd cc
plain_atom (leaf k) h = atom_leaf k h
  where
    atom_leaf : (k : Leaf) → is_plain_leaf k ≡ true → not (is_verbatim_leaf k) ≡ true
    atom_leaf (tr.verbatim ts) h = absurd cc
    atom_leaf _ h = refl
plain_atom _ h = absurd cc

pub plain_takes_attributes : (x : Tree) → is_plain x ≡ true → takes_attributes plain x ≡ true
plain_takes_attributes (leaf k) h = takes_attributes_leaf k h
  where
    takes_attributes_leaf : (k : Leaf) → is_plain_leaf k ≡ true → takes_attributes plain (leaf k) ≡ true
    takes_attributes_leaf (tr.verbatim ts) h = absurd cc
    takes_attributes_leaf (tr.full_range op) h = absurd cc
    takes_attributes_leaf _ h = refl
plain_takes_attributes _ h = absurd cc

fields_no_leaf : (b : Tree) (is : List ℕ) → is_plain b ≡ false → is_plain (fields_of b is) ≡ false
fields_no_leaf b [] h = h
fields_no_leaf b (i ∷ is) h = fields_no_leaf _ is refl

-- what an invisible group begins is a path or a macro, if it is a leaf
group_leaf : (i : Inside) (m : List Tok) → leaf_form.reads (group del.None i ∷ m) ≡ named.reads (group del.None i ∷ m)
unfolding leaf_form range_at jump_at sign_at word_at lifetime_at group_at leaf_tests brace_at
group_leaf i m = refl

named_no_plain : (x : QPathTree × MacroEnd) → is_plain_leaf (to_named x) ≡ false
named_no_plain ((q, p), None) = refl
named_no_plain ((q, p), Some g) = refl

module _ (is : Tree → Bool) (plains : ArePlain is) where
  leaf_sound : (l : List Tok) (x : Tree) (n : List Tok) → leaf_alone is l ≡ Some (x, n) → Alone is l x n
  unfolding leaf_alone
  leaf_sound l x n h =
      let (z, i, f) = then_some (leaf_form.reads l) (λ k. kind_of is (leaf k)) (x, n) h in
      let (a, b) = only_some (is (leaf z.0)) (Some (leaf z.0, z.1)) (x, n) f in
      subst (λ (q : Tree × List Tok). Alone is l q.0 q.1) (some_is b) (is_leaf (heads.leaves.sound l z.0 z.1 i) (plain_stands z.0 z.1 (plains (leaf z.0) a)), a)

  leaf_read_is : {l n : List Tok} {x : Tree} → Node plain l x n → is x ≡ true → is_plain x ≡ true → leaf_alone is l ≡ Some (x, n)
  unfolding leaf_alone
  leaf_read_is (is_leaf {l = l} {n = n} {k = k} h g) a b = rw (heads.leaves.found l k n h, a) refl
  leaf_read_is (is_indexed {b = v} {i = i} {is = more} d f h j) a b =
      absurd (cc (j, b, fields_no_leaf (tail v (tr.field (an_index i)) none) more refl))
  leaf_read_is _ a b = absurd cc

  no_kind : (k : Leaf) → is_plain_leaf k ≡ false → is (leaf k) ≡ false
  no_kind k h = by_kind (is (leaf k)) refl
    where
      by_kind : (b : Bool) → is (leaf k) ≡ b → b ≡ false
      by_kind false e = refl
      by_kind true e = absurd (cc (h, plains (leaf k) e))

  -- none is in an invisible group
  pub none_in_group : (l : List Tok) → invisible_at l ≡ true → leaf_alone is l ≡ None
  unfolding leaf_alone named
  none_in_group l v =
      let (i, m, e) = invisible_is l v in
      let a : leaf_form.reads l ≡ named.reads l = subst (λ z. leaf_form.reads z ≡ named.reads z) (sym e) (group_leaf i m) in
      rw a (by_named ((then_by (expr_path false) macro_end).reads l))
    where
      by_named : (o : Outcome (QPathTree × MacroEnd)) → and_then {B = Tree} (and_then {B = Leaf} o (λ x n. Some (to_named x, n))) (λ k. kind_of is (leaf k)) ≡ None
      by_named None = refl
      by_named (Some x) = rw (no_kind (to_named x.0) (named_no_plain x.0)) refl

  -- a leaf of a kind
  pub leaf_exact : IsExact (leaf_alone is) (Alone is)
  leaf_exact = exactly leaf_sound (λ l x n s. leaf_read_is s.0 s.1 (plains x s.1)) (λ l x n s. node_less s.0)

-- ---- after attributes

-- where none stand, nothing is taken
none_behind : (l m : List Tok) → outer_attributes.behind [] l ≡ Some m → l ≡ m
unfolding outer_attributes more fix iterate
none_behind l m g = ⊎_elim (λ j. absurd cc) (λ j. some_is j.1) (chosen (pound.at l) _ (Some l) (Some m) g)

takes_attributes_bare : (x : Tree) → takes_attributes plain x ≡ true → is_attributed x ≡ false
takes_attributes_bare (tr.attributed a more x) h = absurd cc
takes_attributes_bare _ h = refl

module _ (is : Tree → Bool) (inner : Reading Tree) (exact : IsExact inner (Alone is))
    (atoms : AreAtoms is) (takes_attributes_there : AreAttributed is) where
  behind_them : (ats : List AttributeTree) (l m n : List Tok) (x : Tree) → outer_attributes.behind ats l ≡ Some m → Alone is m x n → Alone (behind_attributes is) l (attributed_with ats x) n
  behind_them [] l m n x g (d, a) =
      (subst (λ z. Node plain z x n) (sym (none_behind l m g)) d, ap is (bare_is x (takes_attributes_bare x (takes_attributes_there x a))) ∙ a)
  behind_them (b ∷ bs) l m n x g (d, a) = (is_attributed_by g (takes_attributes_there x a) d, a)

  attributed_sound : (l : List Tok) (x : Tree) (n : List Tok) → attributed_alone inner l ≡ Some (x, n) → Alone (behind_attributes is) l x n
  unfolding attributed_alone
  attributed_sound l x n h =
      let (z, i, f) = then_some (outer_attributes.reads l) (λ ats m. and_then (inner m) (λ y o. Some (attributed_with ats y, o))) (x, n) h in
      let (y, j, g) = then_some (inner z.1) (λ y o. Some (attributed_with z.0 y, o)) (x, n) f in
      subst (λ (q : Tree × List Tok). Alone (behind_attributes is) l q.0 q.1) (some_is g)
      (behind_them z.0 l z.1 y.1 y.0 (heads.outers.sound l z.0 z.1 i) (exact.sound z.1 y.0 y.1 j))

  bare_read_is : (l : List Tok) (x : Tree) (n : List Tok) → Node plain l x n → is_attributed x ≡ false → is (unattributed x) ≡ true → attributed_alone inner l ≡ Some (x, n)
  unfolding attributed_alone
  bare_read_is l x n d b a =
      let c : is x ≡ true = ap is (sym (bare_is x b)) ∙ a in
      let p = no_pound expr plain l (x, n) (atom_is d (atoms x c)) in
      rw (heads.outers.found l [] l (attributes_back [] l refl p), exact.complete l x n (d, c)) refl

  attributed_read_is : {l n : List Tok} {x : Tree} → Node plain l x n → is (unattributed x) ≡ true → attributed_alone inner l ≡ Some (x, n)
  unfolding attributed_alone
  attributed_read_is (is_attributed_by {l = l} {m = m} {n = n} {a = b} {more = more} {x = x} v f d) a =
      rw (heads.outers.found l (b ∷ more) m v, exact.complete m x n (d, a)) refl
  attributed_read_is {l} {n} {x} (is_indexed {b = v} {i = i} {is = more} d f h j) a =
      bare_read_is l x n (is_indexed d f h j) (ap is_attributed j ∙ fields_bare (tail v (tr.field (an_index i)) none) more refl) a
  attributed_read_is {l} {n} {x} u a = bare_read_is l x n u refl a

  -- after attributes or none
  pub attributed_exact : IsExact (attributed_alone inner) (Alone (behind_attributes is))
  attributed_exact = exactly attributed_sound (λ l x n s. attributed_read_is s.0 s.1) (λ l x n s. node_less s.0)

-- ---- by the forms of their parts

shown : {A : Type 0} (f : Form A) (g : A → Tree) (l : List Tok) (x : Tree) (n : List Tok) → and_then (f.reads l) (λ y o. Some (g y, o)) ≡ Some (x, n)
    → (y : A) × (f.reads l ≡ Some (y, n)) × (g y ≡ x)
shown f g l x n h =
    let (z, i, j) = then_some (f.reads l) (λ y o. Some (g y, o)) (x, n) h in
    let e = some_is j in
    (z.0, i ∙ ap (λ m. Some (z.0, m)) (ap (λ (q : Tree × List Tok). q.1) e), ap (λ (q : Tree × List Tok). q.0) e)

lit_sound : (l : List Tok) (x : Tree) (n : List Tok) → lit_alone l ≡ Some (x, n) → LitAlone l x n
unfolding lit_alone
lit_sound l x n h = let (y, i, j) = shown lit (λ y. leaf (tr.lit y)) l x n h in subst (λ z. LitAlone l z n) j (is_lit (lit_readable.stands l n y i))

lit_complete : (l : List Tok) (x : Tree) (n : List Tok) → LitAlone l x n → lit_alone l ≡ Some (x, n)
unfolding lit_alone
lit_complete l x n (is_lit {x = y} h) = rw (lit_readable.found l n y h) refl

lit_less : (l : List Tok) (x : Tree) (n : List Tok) → LitAlone l x n → IsLess n l
lit_less l x n (is_lit {x = y} h) = left_less lit_readable y l n h

pub lit_exact : IsExact lit_alone LitAlone
lit_exact = exactly lit_sound lit_complete lit_less

macro_sound : (l : List Tok) (x : Tree) (n : List Tok) → macro_alone l ≡ Some (x, n) → MacroAlone l x n
unfolding macro_alone
macro_sound l x n h = let (y, i, j) = shown macro (λ y. leaf (tr.mac y)) l x n h in subst (λ z. MacroAlone l z n) j (is_macro (macro_readable.stands l n y i))

macro_complete : (l : List Tok) (x : Tree) (n : List Tok) → MacroAlone l x n → macro_alone l ≡ Some (x, n)
unfolding macro_alone
macro_complete l x n (is_macro {x = y} h) = rw (macro_readable.found l n y h) refl

macro_less : (l : List Tok) (x : Tree) (n : List Tok) → MacroAlone l x n → IsLess n l
macro_less l x n (is_macro {x = y} h) = left_less macro_readable y l n h

pub macro_exact : IsExact macro_alone MacroAlone
macro_exact = exactly macro_sound macro_complete macro_less

path_sound : (l : List Tok) (x : Tree) (n : List Tok) → path_alone l ≡ Some (x, n) → PathAlone l x n
unfolding path_alone attributed_alone
path_sound l x n h =
    let (z, i, f) = then_some (outer_attributes.reads l)
    (λ ats m. and_then (and_then ((qpath type style.Expr).reads m) (λ q o. Some (leaf (tr.path q.0 q.1), o))) (λ y o. Some (attributed_with ats y, o))) (x, n) h in
    let (y, j, g) = then_some (and_then ((qpath type style.Expr).reads z.1) (λ q o. Some (leaf (tr.path q.0 q.1), o))) (λ y o. Some (attributed_with z.0 y, o)) (x, n) f in
    let (q, k, e) = shown (qpath type style.Expr) (λ q. leaf (tr.path q.0 q.1)) z.1 y.0 y.1 j in
    subst (λ (r : Tree × List Tok). PathAlone l r.0 r.1) (some_is g)
    (subst (λ w. PathAlone l (attributed_with z.0 w) y.1) e (is_path z.0 q.0 q.1 (heads.outers.sound l z.0 z.1 i) (heads.qpaths.sound z.1 q y.1 k)))

path_complete : (l : List Tok) (x : Tree) (n : List Tok) → PathAlone l x n → path_alone l ≡ Some (x, n)
unfolding path_alone attributed_alone
path_complete l x n (is_path {m = m} ats q w a b) = rw (heads.outers.found l ats m a, heads.qpaths.found m (q, w) n b) refl

path_less : (l : List Tok) (x : Tree) (n : List Tok) → PathAlone l x n → IsLess n l
path_less l x n (is_path {m = m} ats q w a b) = then_less (left here.outer ats l m a) (left_less here.paths (q, w) m n b)

pub path_exact : IsExact path_alone PathAlone
path_exact = exactly path_sound path_complete path_less

-- ---- references

mutability : Alike 0 (flag mutable) (flag mutable)
mutability = flag_at_alike mutable_present

reference_sound : (l : List Tok) (x : Tree) (n : List Tok) → reference_alone l ≡ Some (x, n) → ReferenceAlone l x n
unfolding reference_alone
reference_sound l x n h =
    let (a, b) = only_some (and.at l) _ (x, n) h in
    let (z, i, f) = then_some ((flag mutable).reads (drop and.count l)) (λ b. (λ m. and_then (expr (at plain lev.Prefix) m) (λ y o. Some (prefixed (tr.reference b) none y, o)))) (x, n) b in
    let (y, j, g) = then_some (expr (at plain lev.Prefix) z.1) (λ y o. Some (prefixed (tr.reference z.0) none y, o)) (x, n) f in
    subst (λ (r : Tree × List Tok). ReferenceAlone l r.0 r.1) (some_is g)
    (is_reference a (mutability.sound (drop and.count l) z.0 z.1 i) (expr_sound (at plain lev.Prefix) z.1 y.0 y.1 j))

reference_complete : (l : List Tok) (x : Tree) (n : List Tok) → ReferenceAlone l x n → reference_alone l ≡ Some (x, n)
unfolding reference_alone
reference_complete l x n (is_reference {m = m} {b = b} {x = y} a f r) =
    rw (a, mutability.complete (drop and.count l) b m f, expr_complete (at plain lev.Prefix) m y n r) refl

reference_less : (l : List Tok) (x : Tree) (n : List Tok) → ReferenceAlone l x n → IsLess n l
reference_less l x n (is_reference {m = m} {b = b} a f r) =
    let t = (flag_leaves mutable).leaves (drop and.count l) b m (mutability.complete (drop and.count l) b m f) in
    let u = node_less r.node in less_then (less_then (marked and_present l a) t) u.tail

pub reference_exact : IsExact reference_alone ReferenceAlone
reference_exact = exactly reference_sound reference_complete reference_less

-- ---- struct expressions

braces_sound : (q : QPathTree) (l m : List Tok) (x : Tree) (n : List Tok) → (qpath type style.Expr).behind q l ≡ Some m → structure_behind q m ≡ Some (x, n) → StructAlone l x n
unfolding structure_behind
braces_sound q l m x n a h =
    let (z, i, f) = then_some (group_at del.Brace m) _ (x, n) h in
    let (k, j, g) = then_some (bare_operands expr s.fields z.0) _ (x, n) f in
    let (b, c) = only_some (ends_list (not (is_empty k.1)) k.1) (Some (frame (tr.structure q.0 q.1 (not (is_empty k.1))) k.0, z.1)) (x, n) g in
    subst (λ (r : Tree × List Tok). StructAlone l r.0 r.1) (some_is c)
    (is_struct a (holds_within i (bare_sound heads expr expr_sound s.fields z.0 k j) b))

braces_complete : (q : QPathTree) (d : Bool) (l n : List Tok) (ks : Children) → Content (s.within del.Brace s.fields d) l ks n → structure_behind q l ≡ Some (frame (tr.structure q.0 q.1 d) ks, n)
unfolding structure_behind
braces_complete q d l n ks (holds_within {i = i} {o = o} g c e) =
    let v : d ≡ not (is_empty o) = ends_is d o e in
    let r = bare_read expr (weight l) (λ p i j y b s. expr_complete p i y j s) s.fields i o ks c (group_inside del.Brace l i n g) in
    rw (g, r) (subst (λ z. only_if {A = Tree × List Tok} (ends_list z o) (Some (frame (tr.structure q.0 q.1 z) ks, n)) ≡ Some (frame (tr.structure q.0 q.1 d) ks, n)) v (rw e refl))

struct_sound : (l : List Tok) (x : Tree) (n : List Tok) → struct_alone l ≡ Some (x, n) → StructAlone l x n
unfolding struct_alone
struct_sound l x n h =
    let (z, i, f) = then_some ((qpath type style.Expr).reads l) structure_behind (x, n) h in
    braces_sound z.0 l z.1 x n (heads.qpaths.sound l z.0 z.1 i) f

struct_complete : (l : List Tok) (x : Tree) (n : List Tok) → StructAlone l x n → struct_alone l ≡ Some (x, n)
unfolding struct_alone
struct_complete l x n (is_struct {h = h} {q = q} {w = w} {d = d} {ks = ks} a c) = rw (heads.qpaths.found l (q, w) h a) (braces_complete (q, w) d h n ks c)

struct_less : (l : List Tok) (x : Tree) (n : List Tok) → StructAlone l x n → IsLess n l
struct_less l x n (is_struct {h = h} {q = q} {w = w} a (holds_within {i = i} g c e)) =
    let u = grouped del.Brace h i n g in less_then (left_less here.paths (q, w) l h a) u.tail

pub struct_exact : IsExact struct_alone StructAlone
struct_exact = exactly struct_sound struct_complete struct_less

-- ---- an expression of a kind

module _ (is : Tree → Bool) where
  kind_sound : (l : List Tok) (x : Tree) (n : List Tok) → expr_of_kind is l ≡ Some (x, n) → OfKind is l x n
  unfolding expr_of_kind
  kind_sound l x n h =
      let (z, i, f) = then_some (expr plain l) (λ y o. only_if (is_inside is y) (Some (ungrouped y, o))) (x, n) h in
      let (a, b) = only_some (is_inside is z.0) (Some (ungrouped z.0, z.1)) (x, n) f in
      subst (λ (q : Tree × List Tok). OfKind is l q.0 q.1) (some_is b) (of_kind (expr_sound plain l z.0 z.1 i) a)

  kind_complete : (l : List Tok) (x : Tree) (n : List Tok) → OfKind is l x n → expr_of_kind is l ≡ Some (x, n)
  unfolding expr_of_kind
  kind_complete l x n (of_kind {x = y} s a) = rw (expr_complete plain l y n s, a) refl

  kind_less : (l : List Tok) (x : Tree) (n : List Tok) → OfKind is l x n → IsLess n l
  kind_less l x n (of_kind s a) = node_less s.node

  pub kind_exact : IsExact (expr_of_kind is) (OfKind is)
  kind_exact = exactly kind_sound kind_complete kind_less

pub expr_exact : (p : Place) → IsExact (expr p) (Stands p)
expr_exact p = exactly (expr_sound p) (expr_complete p) (λ l x n s. node_less s.node)

-- ---- what is left is a tail of the list

pub operand_left : (is : Tree → Bool) (l n : List Tok) (x : Tree) → operand_alone is l ≡ Some (x, n) → IsTail n l
operand_left is l n x h = let s = operand_sound is l x n h in let d = node_less s.0 in d.tail

pub leaf_left : (is : Tree → Bool) (l n : List Tok) (x : Tree) → leaf_alone is l ≡ Some (x, n) → IsTail n l
unfolding leaf_alone
leaf_left is l n x h =
    let (z, i, f) = then_some (leaf_form.reads l) (λ k. kind_of is (leaf k)) (x, n) h in
    let (a, b) = only_some (is (leaf z.0)) (Some (leaf z.0, z.1)) (x, n) f in
    subst (λ (q : Tree × List Tok). IsTail q.1 l) (some_is b) (left here.leaves z.0 l z.1 (heads.leaves.sound l z.0 z.1 i))

attributed_tail : (inner : Reading Tree) → ((l n : List Tok) (x : Tree) → inner l ≡ Some (x, n) → IsTail n l) → (l n : List Tok) (x : Tree) → attributed_alone inner l ≡ Some (x, n) → IsTail n l
unfolding attributed_alone
attributed_tail inner tails l n x h =
    let (z, i, f) = then_some (outer_attributes.reads l) (λ ats m. and_then (inner m) (λ y o. Some (attributed_with ats y, o))) (x, n) h in
    let (y, j, g) = then_some (inner z.1) (λ y o. Some (attributed_with z.0 y, o)) (x, n) f in
    subst (λ (q : Tree × List Tok). IsTail q.1 l) (some_is g) (tail_then (left here.outer z.0 l z.1 (heads.outers.sound l z.0 z.1 i)) (tails z.1 y.1 y.0 j))

pub attributed_operand_left : (is : Tree → Bool) (l n : List Tok) (x : Tree) → attributed_alone (operand_alone is) l ≡ Some (x, n) → IsTail n l
attributed_operand_left is = attributed_tail (operand_alone is) (operand_left is)

pub attributed_leaf_left : (is : Tree → Bool) (l n : List Tok) (x : Tree) → attributed_alone (leaf_alone is) l ≡ Some (x, n) → IsTail n l
attributed_leaf_left is = attributed_tail (leaf_alone is) (leaf_left is)

pub path_left : (l n : List Tok) (x : Tree) → path_alone l ≡ Some (x, n) → IsTail n l
path_left l n x h = path_exact.tail l x n h

pub lit_left : (l n : List Tok) (x : Tree) → lit_alone l ≡ Some (x, n) → IsTail n l
lit_left l n x h = lit_exact.tail l x n h

pub macro_left : (l n : List Tok) (x : Tree) → macro_alone l ≡ Some (x, n) → IsTail n l
macro_left l n x h = macro_exact.tail l x n h

pub reference_left : (l n : List Tok) (x : Tree) → reference_alone l ≡ Some (x, n) → IsTail n l
reference_left l n x h = reference_exact.tail l x n h

pub struct_left : (l n : List Tok) (x : Tree) → struct_alone l ≡ Some (x, n) → IsTail n l
struct_left l n x h = struct_exact.tail l x n h

pub ruleset tails = (operand_left, leaf_left, attributed_operand_left, attributed_leaf_left, path_left, lit_left, macro_left, reference_left, struct_left)

-- ---- what readers ask of the kinds of expressions that are read by themselves

-- ---- leaves that ask nothing of what is after them

pub infer_plain : ArePlain is_infer
infer_plain (leaf tr.infer) h = refl
infer_plain _ h = absurd cc

pub block_plain : ArePlain is_block
block_plain (leaf (tr.block w b)) h = refl
block_plain _ h = absurd cc

pub loop_plain : ArePlain is_loop
loop_plain (leaf (tr.loop_expr w b)) h = refl
loop_plain _ h = absurd cc

pub unsafe_plain : ArePlain is_unsafe
unsafe_plain (leaf (tr.unsafe_block b)) h = refl
unsafe_plain _ h = absurd cc

pub const_plain : ArePlain is_const
const_plain (leaf (tr.const_block b)) h = refl
const_plain _ h = absurd cc

pub async_plain : ArePlain is_async
async_plain (leaf (tr.async_block m ts)) h = refl
async_plain _ h = absurd cc

pub try_block_plain : ArePlain is_try_block
try_block_plain (leaf (tr.try_block ts)) h = refl
try_block_plain _ h = absurd cc

pub continue_plain : ArePlain is_continue
continue_plain (leaf (tr.continuing w)) h = refl
continue_plain _ h = absurd cc

pub ruleset plains = (infer_plain, block_plain, loop_plain, unsafe_plain, const_plain, async_plain, try_block_plain, continue_plain)

-- ---- operands without trailers

pub return_atom : AreAtoms is_return
return_atom (leaf (tr.bare_jump tr.returning)) h = refl
return_atom (prefixed (tr.jump tr.returning) gs x) h = refl
return_atom _ h = absurd cc

pub yield_atom : AreAtoms is_yield
yield_atom (leaf (tr.bare_jump tr.yielding)) h = refl
yield_atom (prefixed (tr.jump tr.yielding) gs x) h = refl
yield_atom _ h = absurd cc

pub break_atom : AreAtoms is_break
break_atom (leaf (tr.bare_jump (tr.breaking w))) h = refl
break_atom (prefixed (tr.jump (tr.breaking w)) gs x) h = refl
break_atom _ h = absurd cc

pub paren_is_atom : AreAtoms tests.is_paren
paren_is_atom (paren m x) h = refl
paren_is_atom _ h = absurd cc

pub unary_atom : AreAtoms is_unary
unary_atom (prefixed (tr.unary op) gs x) h = refl
unary_atom _ h = absurd cc

pub raw_addr_atom : AreAtoms is_raw_addr
raw_addr_atom (prefixed (tr.raw_addr m) gs x) h = refl
raw_addr_atom _ h = absurd cc

pub let_atom : AreAtoms is_let
let_atom (prefixed (tr.let_expr p) gs x) h = refl
let_atom _ h = absurd cc

pub closure_atom : AreAtoms is_closure
closure_atom (prefixed (tr.closure z) gs x) h = refl
closure_atom (frame (tr.closure_block z) ks) h = refl
closure_atom _ h = absurd cc

pub array_atom : AreAtoms is_array
array_atom (frame tr.array ks) h = refl
array_atom _ h = absurd cc

pub repeat_atom : AreAtoms is_repeat
repeat_atom (frame tr.repeat ks) h = refl
repeat_atom _ h = absurd cc

pub if_expr_atom : AreAtoms is_if_expr
if_expr_atom (frame tr.if_expr ks) h = refl
if_expr_atom _ h = absurd cc

pub match_atom : AreAtoms is_match
match_atom (frame tr.match_expr ks) h = refl
match_atom _ h = absurd cc

pub for_loop_atom : AreAtoms is_for_loop
for_loop_atom (frame (tr.for_loop w p) ks) h = refl
for_loop_atom _ h = absurd cc

pub while_atom : AreAtoms is_while
while_atom (frame (tr.while_loop w) ks) h = refl
while_atom _ h = absurd cc

pub ruleset atoms = (return_atom, yield_atom, break_atom, paren_is_atom, unary_atom, raw_addr_atom, let_atom, closure_atom, array_atom, repeat_atom, if_expr_atom, match_atom, for_loop_atom, while_atom)

-- ---- those that attributes may come before

pub if_expr_attributed : AreAttributed is_if_expr
if_expr_attributed (frame tr.if_expr ks) h = refl
if_expr_attributed _ h = absurd cc

pub match_attributed : AreAttributed is_match
match_attributed (frame tr.match_expr ks) h = refl
match_attributed _ h = absurd cc

pub for_loop_attributed : AreAttributed is_for_loop
for_loop_attributed (frame (tr.for_loop w p) ks) h = refl
for_loop_attributed _ h = absurd cc

pub while_attributed : AreAttributed is_while
while_attributed (frame (tr.while_loop w) ks) h = refl
while_attributed _ h = absurd cc

pub ruleset attributed = (if_expr_attributed, match_attributed, for_loop_attributed, while_attributed)

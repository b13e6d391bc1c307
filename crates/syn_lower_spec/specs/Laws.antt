-- What is true of the lower parts: each is read exactly where its tokens are, and read back from its own tokens.
use Rattle.std.specs.Prelude.{ℕ, ◌+◌, ◌≤◌, ◌≡◌, Bool, true, not, ◌↔◌, List, [], ◌∷◌, Option, Some}
use Rattle.syn_lexer.specs.Keywords.{is_reserved_word}
use Rattle.syn_tokens.specs.Tok.{Tok, ident, weight}
use Rattle.syn_tokens.specs.Input.{IsTail}
use Rattle.syn_lower_spec.specs.declared.label.LitKind.{LitKind}
use Rattle.syn_lower_spec.specs.declared.label.PathStyle.{PathStyle}
use Rattle.syn_lower_spec.specs.declared.label.PathStyle.TheVariants as style
use Rattle.syn_lower_spec.specs.Text.{Text}
use Rattle.syn_lower_spec.specs.Tree.{LitTree, AttributeTree, LifetimesTree, TypeTree, SegmentTree, PathTree, FnArgTree, ArgumentsTree, GenericTree, ReturnTree, BoundTree}
use Rattle.syn_lower_spec.specs.Form.{Form, Test}
use Rattle.syn_lower_spec.specs.Part.{name, lifetime, lit, unsigned, attribute, outer_attributes, inner_attributes, block, lifetimes, abi, mutability, path, qpath, segment, bound, trait_bound, bounds, generic, assoc, angle, angle_bracketed, parenthesized, arguments, fn_arg, output, macro, type, at_place, SpellsType, MacroTree, QPathTree}
use Rattle.syn_lower_spec.specs.Kind.{of_kind}
use Rattle.syn_lower_spec.specs.Own.{word_own, lifetime_own, lit_own, attribute_own, block_own, lifetimes_own, extern_own, mutability_own, path_own, qualified_own, macro_own, segment_own, arguments_own, angle_own, generic_own, assoc_own, arg_own, return_own, bound_own, bounds_list_own, type_own}
use Rattle.syn_lower_spec.specs.Fits.{closed, fits_if, lit_fits, unsigned_fits, of_kind_fits, is_string, abi_stops, lifetimes_fit, path_fits, path_stops, qpath_fits, macro_fits, segment_fits, segment_stops, arguments_fit, after_name_stops, in_angle_fits, in_round_fits, angle_fits, generic_fits, generic_stops, assoc_fits, arg_fits, arg_stops, output_fits, output_stops, bound_fits, bound_stops, trait_fits, bounds_list_fits, bounds_list_stops, type_fits, type_stops}

-- the reader of a form answers a part and a rest exactly where the list spells that part up to that rest
abbrev pub IsExact : {A : Type 0} → Form A → Type 0
IsExact {A} f = (l : List Tok) (x : A) (rest : List Tok) → (f.reads l ≡ Some (x, rest)) ↔ (f.behind x l ≡ Some rest)

pub record PartsAreExact : Type 0 where
  pub names : IsExact name
  pub lifetime_names : IsExact lifetime
  pub literals : IsExact lit
  pub unsigned_literals : IsExact unsigned
  pub attribute : IsExact attribute
  pub outer : IsExact outer_attributes
  pub inner : IsExact inner_attributes
  pub blocks : IsExact block
  pub bound_lifetimes : IsExact lifetimes
  pub macros : IsExact macro
  pub paths : (s : PathStyle) → IsExact (path type s)
  pub qualified_paths : (s : PathStyle) → IsExact (qpath type s)
  pub path_segments : (s : PathStyle) → IsExact (segment type s)
  pub segment_arguments : (s : PathStyle) → IsExact (arguments type s)
  pub generic_arguments : IsExact (generic type)
  pub trait_bounds : IsExact (bound type)
  pub outputs : (several : Bool) → IsExact (output type several)
  pub types : (several : Bool) → IsExact (type several)
  pub literals_of_kind : (k : LitKind) → IsExact (of_kind k)
  pub angle_bracketed : IsExact (angle_bracketed type)
  pub parenthesized : IsExact (parenthesized type)
  pub angles : IsExact (angle type)
  pub associated_types : IsExact (assoc type)
  pub fn_args : IsExact (fn_arg type)
  pub abis : IsExact abi
  pub mutabilities : IsExact mutability
  pub traits : IsExact (trait_bound type)
  pub lists_of_bounds : (several : Bool) → IsExact (bounds type several)

-- What spells a type, opened once: by its kind, and what spells the types in it.
abbrev pub TypesAreSpelledByKind : Type 0
TypesAreSpelledByKind = (several : Bool) (l : List Tok) (x : TypeTree) (rest : List Tok) → SpellsType several l x rest ↔ ((at_place type several).behind x l ≡ Some rest)

-- No list has two types in front, nor two rests.
abbrev pub OneType : Type 0
OneType = (several : Bool) (l : List Tok) (x y : TypeTree) (m n : List Tok) → SpellsType several l x m → SpellsType several l y n → (x ≡ y) × (m ≡ n)

-- What passes the test and is printed is read back as the same part, whatever comes after that doesn't go on with it.
pub record PartsAreReadBack : Type 0 where
  pub names : (w : Text) (rest : List Tok) → not (is_reserved_word w) ≡ true → name.behind w (ident w ∷ rest) ≡ Some rest
  pub lifetime_names : (w : Text) (rest : List Tok) → lifetime.behind w (lifetime_own w rest) ≡ Some rest
  pub literals : (x : LitTree) (rest : List Tok) → lit_fits x ≡ true → lit.behind x (lit_own x rest) ≡ Some rest
  pub attributes : (a : AttributeTree) (rest : List Tok) → attribute.behind a (attribute_own a rest) ≡ Some rest
  pub blocks : (ts rest : List Tok) → block.behind ts (block_own ts rest) ≡ Some rest
  pub bound_lifetimes : (p : LifetimesTree) (rest : List Tok) → lifetimes_fit p ≡ true → lifetimes.behind p (lifetimes_own p rest) ≡ Some rest
  pub macros : (m : MacroTree) (rest : List Tok) → macro_fits m ≡ true → macro.behind m (macro_own m rest) ≡ Some rest
  pub paths : (s : PathStyle) (p : PathTree) (rest : List Tok) → path_fits s p ≡ true → path_stops s p rest ≡ true → (path type s).behind p (path_own p rest) ≡ Some rest
  pub qualified_paths : (s : PathStyle) (q : QPathTree) (rest : List Tok) → qpath_fits s q ≡ true → path_stops s q.1 rest ≡ true → (qpath type s).behind q (qualified_own q rest) ≡ Some rest
  pub trait_bounds : (b : BoundTree) (rest : List Tok) → bound_fits b ≡ true → bound_stops b rest ≡ true → (bound type).behind b (bound_own b rest) ≡ Some rest
  pub outputs : (several : Bool) (o : ReturnTree) (rest : List Tok) → output_fits several o ≡ true → output_stops several o rest ≡ true → (output type several).behind o (return_own o rest) ≡ Some rest
  pub types : (several : Bool) (x : TypeTree) (rest : List Tok) → type_fits several x ≡ true → type_stops several x rest ≡ true → SpellsType several (type_own x rest) x rest
  pub unsigned_literals : (x : LitTree) (rest : List Tok) → unsigned_fits x ≡ true → unsigned.behind x (lit_own x rest) ≡ Some rest
  pub literals_of_kind : (k : LitKind) (x : LitTree) (rest : List Tok) → of_kind_fits k x ≡ true → (of_kind k).behind x (lit_own x rest) ≡ Some rest
  pub path_segments : (s : PathStyle) (x : SegmentTree) (rest : List Tok) → segment_fits s x ≡ true → segment_stops s x rest ≡ true → (segment type s).behind x (segment_own x rest) ≡ Some rest
  pub segment_arguments : (s : PathStyle) (a : ArgumentsTree) (rest : List Tok) → arguments_fit s a ≡ true → after_name_stops s a rest ≡ true → (arguments type s).behind a (arguments_own a rest) ≡ Some rest
  pub angle_bracketed : (a : ArgumentsTree) (rest : List Tok) → in_angle_fits a ≡ true → (angle_bracketed type).behind a (arguments_own a rest) ≡ Some rest
  pub parenthesized : (a : ArgumentsTree) (rest : List Tok) → in_round_fits a ≡ true → after_name_stops style.Type a rest ≡ true → (parenthesized type).behind a (arguments_own a rest) ≡ Some rest
  pub angles : (p : List GenericTree × Bool) (rest : List Tok) → angle_fits p ≡ true → (angle type).behind p (angle_own p rest) ≡ Some rest
  pub generic_arguments : (g : GenericTree) (rest : List Tok) → generic_fits g ≡ true → generic_stops g rest ≡ true → (generic type).behind g (generic_own g rest) ≡ Some rest
  pub associated_types : (p : Text × TypeTree) (rest : List Tok) → assoc_fits p ≡ true → type_stops true p.1 rest ≡ true → (assoc type).behind p (assoc_own p rest) ≡ Some rest
  pub fn_args : (x : FnArgTree) (rest : List Tok) → arg_fits x ≡ true → arg_stops x rest ≡ true → (fn_arg type).behind x (arg_own x rest) ≡ Some rest
  pub abis : (o : Option LitTree) (rest : List Tok) → fits_if is_string o ≡ true → abi_stops o rest ≡ true → abi.behind o (extern_own o rest) ≡ Some rest
  pub mutabilities : (m : Bool) (rest : List Tok) → mutability.behind m (mutability_own m rest) ≡ Some rest
  pub traits : (b : BoundTree) (rest : List Tok) → trait_fits b ≡ true → bound_stops b rest ≡ true → (trait_bound type).behind b (bound_own b rest) ≡ Some rest
  pub lists_of_bounds : (several : Bool) (p : List BoundTree × Bool) (rest : List Tok) → bounds_list_fits several p ≡ true → bounds_list_stops several p rest ≡ true → (bounds type several).behind p (bounds_list_own p rest) ≡ Some rest

-- The part passes its test, the rest doesn't go on with it, and is what is left.
pub record Fitted (fits stops : Bool) (rest left : List Tok) : Type 0 where
  pub passes : fits ≡ true
  pub ends : stops ≡ true
  pub same : left ≡ rest

-- Whatever comes after: where the own tokens of x and those are read as x, x passes its test.
abbrev pub FitsWhereReadBack : {A : Type 0} → Form A → (A → List Tok → List Tok) → (A → Bool) → (A → Test) → Type 0
FitsWhereReadBack {A} f own fits stops = (x : A) (rest left : List Tok) → f.behind x (own x rest) ≡ Some left → Fitted (fits x) (stops x rest) rest left

-- Nothing else is read back: the tests of the law above leave nothing out.
pub record PartsThatAreReadBackFit : Type 0 where
  pub names : FitsWhereReadBack name word_own (λ w. not (is_reserved_word w)) closed
  pub literals : FitsWhereReadBack lit lit_own lit_fits closed
  pub unsigned_literals : FitsWhereReadBack unsigned lit_own unsigned_fits closed
  pub literals_of_kind : (k : LitKind) → FitsWhereReadBack (of_kind k) lit_own (of_kind_fits k) closed
  pub bound_lifetimes : FitsWhereReadBack lifetimes lifetimes_own lifetimes_fit closed
  pub macros : FitsWhereReadBack macro macro_own macro_fits closed
  pub paths : (s : PathStyle) → FitsWhereReadBack (path type s) path_own (path_fits s) (path_stops s)
  pub qualified_paths : (s : PathStyle) → FitsWhereReadBack (qpath type s) qualified_own (qpath_fits s) (λ q. path_stops s q.1)
  pub path_segments : (s : PathStyle) → FitsWhereReadBack (segment type s) segment_own (segment_fits s) (segment_stops s)
  pub segment_arguments : (s : PathStyle) → FitsWhereReadBack (arguments type s) arguments_own (arguments_fit s) (after_name_stops s)
  pub angle_bracketed : FitsWhereReadBack (angle_bracketed type) arguments_own in_angle_fits closed
  pub parenthesized : FitsWhereReadBack (parenthesized type) arguments_own in_round_fits (after_name_stops style.Type)
  pub angles : FitsWhereReadBack (angle type) angle_own angle_fits closed
  pub generic_arguments : FitsWhereReadBack (generic type) generic_own generic_fits generic_stops
  pub associated_types : FitsWhereReadBack (assoc type) assoc_own assoc_fits (λ p. type_stops true p.1)
  pub fn_args : FitsWhereReadBack (fn_arg type) arg_own arg_fits arg_stops
  pub abis : FitsWhereReadBack abi extern_own (fits_if is_string) abi_stops
  pub trait_bounds : FitsWhereReadBack (bound type) bound_own bound_fits bound_stops
  pub traits : FitsWhereReadBack (trait_bound type) bound_own trait_fits bound_stops
  pub lists_of_bounds : (several : Bool) → FitsWhereReadBack (bounds type several) bounds_list_own (bounds_list_fits several) (bounds_list_stops several)
  pub outputs : (several : Bool) → FitsWhereReadBack (output type several) return_own (output_fits several) (output_stops several)
  pub types : (several : Bool) → FitsWhereReadBack (type several) type_own (type_fits several) (type_stops several)

-- A part is read back in its place, its own tokens with nothing after them, exactly where it passes its test.
abbrev pub IsTestOf : {A : Type 0} → Form A → (A → List Tok → List Tok) → (A → Bool) → Type 0
IsTestOf {A} f own fits = (x : A) → (f.behind x (own x []) ≡ Some []) ↔ (fits x ≡ true)

pub record TestsAreExact : Type 0 where
  pub names : IsTestOf name word_own (λ w. not (is_reserved_word w))
  pub literals : IsTestOf lit lit_own lit_fits
  pub unsigned_literals : IsTestOf unsigned lit_own unsigned_fits
  pub literals_of_kind : (k : LitKind) → IsTestOf (of_kind k) lit_own (of_kind_fits k)
  pub bound_lifetimes : IsTestOf lifetimes lifetimes_own lifetimes_fit
  pub macros : IsTestOf macro macro_own macro_fits
  pub paths : (s : PathStyle) → IsTestOf (path type s) path_own (path_fits s)
  pub qualified_paths : (s : PathStyle) → IsTestOf (qpath type s) qualified_own (qpath_fits s)
  pub path_segments : (s : PathStyle) → IsTestOf (segment type s) segment_own (segment_fits s)
  pub segment_arguments : (s : PathStyle) → IsTestOf (arguments type s) arguments_own (arguments_fit s)
  pub angle_bracketed : IsTestOf (angle_bracketed type) arguments_own in_angle_fits
  pub parenthesized : IsTestOf (parenthesized type) arguments_own in_round_fits
  pub angles : IsTestOf (angle type) angle_own angle_fits
  pub generic_arguments : IsTestOf (generic type) generic_own generic_fits
  pub associated_types : IsTestOf (assoc type) assoc_own assoc_fits
  pub fn_args : IsTestOf (fn_arg type) arg_own arg_fits
  pub abis : IsTestOf abi extern_own (fits_if is_string)
  pub trait_bounds : IsTestOf (bound type) bound_own bound_fits
  pub traits : IsTestOf (trait_bound type) bound_own trait_fits
  pub lists_of_bounds : (several : Bool) → IsTestOf (bounds type several) bounds_list_own (bounds_list_fits several)
  pub outputs : (several : Bool) → IsTestOf (output type several) return_own (output_fits several)
  pub types : (several : Bool) → IsTestOf (type several) type_own (type_fits several)

-- A form that a reader can follow: what it reads is there, takes this weight at least and leaves a tail, and what stands it reads.
pub record IsReadable {A : Type 0} (least : ℕ) (f : Form A) : Type 0 where
  pub tail : (l n : List Tok) (x : A) → f.reads l ≡ Some (x, n) → IsTail n l
  pub moves : (l n : List Tok) (x : A) → f.reads l ≡ Some (x, n) → least + weight n ≤ weight l
  pub stands : (l n : List Tok) (x : A) → f.reads l ≡ Some (x, n) → f.behind x l ≡ Some n
  pub found : (l n : List Tok) (x : A) → f.behind x l ≡ Some n → f.reads l ≡ Some (x, n)

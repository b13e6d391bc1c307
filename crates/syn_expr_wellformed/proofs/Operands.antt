-- Operands in their places, by their parts.
use Rattle.std.proofs.Common.{◌≡◌, Bool, true, false, not, ◌&&◌, ◌||◌, List, [], ◌∷◌, map, Option, Some, None, refl, ap, sym, ◌∙◌}
use Rattle.std.proofs.lemmas.List.Folds.{list_all-append}
use Rattle.std.specs.List.{list_all}
use Rattle.std.specs.Prelude.{is_some}
use Rattle.std.specs.declared.vec.Vec.{Vec}
use Rattle.std.specs.declared.boxed.Box.{Box}
use Rattle.std.specs.declared.alloc.Global.{Global}
use Rattle.std.proofs.Math.Bool.{and-false, and_assoc, and-true}
use Rattle.syn_tokens.specs.Tok.{Tok}
use Rattle.syn_lower_spec.specs.Form.{is_nil}
use Rattle.syn_lower_spec.specs.Pat.{PatTree, guarded}
use Rattle.syn_lower_spec.specs.PatFits.{attributes_outer, member_fits, pat_fits}
use Rattle.syn_lower_leaves.specs.declared.punctuated.Punctuated.{Punctuated}
use Rattle.syn_lower_leaves.specs.View.{values, last_of, mapped, attribute_of}
use Rattle.syn_lower_leaves.specs.declared.attr.Attribute.{Attribute}
use Rattle.syn_expr_spec.specs.Slot as slot
use Rattle.syn_expr_spec.specs.Slot.{Slot}
use Rattle.syn_expr_spec.specs.Tree as e
use Rattle.syn_expr_spec.specs.Tree.{Tree, Children, Ending, Body, none, child, from_inner}
use Rattle.syn_expr_spec.specs.WellFormed.{attributes_inner, well, children_well, has_rest, may_stop, body_fits, is_verbatim_block, is_name_path, piece_fits, ending_fits}
use Rattle.syn_expr_spec.specs.Stands.{is_if_expr}
use Rattle.syn_expr_ast.specs.Attrs.{inner_of}
use Rattle.syn_expr_ast.specs.Node.{framed, based, based_by}
use Rattle.syn_expr_ast.specs.Pats.{ArmView, strays, guard_children, arm_ending, arm_children, arms}
use Rattle.syn_expr_ast.specs.View.{FieldView, ending_of, elements, fields, option_child, boxed, else_of, body_of}
use Rattle.syn_expr_fixup.specs.Below.{last_guard, guard_by}
use Rattle.syn_expr_fixup.proofs.Lists.{some_size, none_size}
use Rattle.syn_expr_wellformed.specs.Slots.{is_elements, is_single, is_counted, is_fields, is_conditions, is_loops, is_scrutinees, is_outputs}
use Rattle.syn_expr_wellformed.specs.Walk.{operands_well, option_well, field_well, else_well, arm_pattern, arm_well}
use Rattle.syn_expr_spec.proofs.Attributes.{outers_outer}

-- ---- lists with puncts

all_map : {A B : Type 0} (f : B → Bool) (g : A → B) (xs : List A) → list_all f (map g xs) ≡ list_all (λ x. f (g x)) xs
all_map f g [] = refl
all_map f g (x ∷ xs) = ap (λ b. f (g x) && b) (all_map f g xs)

all_values : {A P : Type 0} (f : A → Bool) (p : Punctuated A P) → list_all f (values p) ≡ (list_all (λ q. f q.0) p.inner.items && list_all f (last_of p.last))
unfolding values
all_values f p = list_all-append f (map (λ q. q.0) p.inner.items) (last_of p.last) ∙ ap (λ b. b && list_all f (last_of p.last)) (all_map f (λ q. q.0) p.inner.items)

pub all-some : {A P : Type 0} (f : A → Bool) (p : Punctuated A P) (b : Box A Global) → p.last ≡ Some b → list_all f (values p) ≡ (list_all (λ q. f q.0) p.inner.items && f b.value)
all-some f p b h = all_values f p ∙ ap (λ c. list_all (λ q. f q.0) p.inner.items && c) (ap (λ o. list_all f (last_of o)) h ∙ and-true (f b.value))

pub all-none : {A P : Type 0} (f : A → Bool) (p : Punctuated A P) → p.last ≡ None → list_all f (values p) ≡ list_all (λ q. f q.0) p.inner.items
all-none f p h = all_values f p ∙ (ap (λ c. list_all (λ q. f q.0) p.inner.items && c) (ap (λ o. list_all f (last_of o)) h) ∙ and-true _)

pub all-not : {A P : Type 0} (f : A → Bool) (p : Punctuated A P) → list_all (λ q. f q.0) p.inner.items ≡ false → list_all f (values p) ≡ false
all-not f p h = all_values f p ∙ ap (λ b. b && list_all f (last_of p.last)) h

pub ruleset lists = (all-some, all-none, all-not, some_size, none_size)

-- ---- elements

element_ends : (b d : Bool) → ending_fits e.element (ending_of b d) ≡ true
element_ends true true = refl
element_ends true false = refl
element_ends false d = refl

elements_in : (ts : List Tree) (b : Bool) → children_well slot.elements (elements ts b) ≡ list_all well ts
elements_in [] b = refl
elements_in (t ∷ ts) b = ap (λ c. c && (well t && children_well slot.elements (elements ts b))) (element_ends (is_nil ts) b) ∙ ap (λ c. well t && c) (elements_in ts b)

not_element : (s : Slot) (c : Ending) (t : Tree) → is_elements s ≡ false → piece_fits s e.element c t ≡ false
not_element slot.elements c t h = absurd cc
not_element slot.single c t h = refl
not_element slot.counted c t h = refl
not_element slot.fields c t h = refl
not_element slot.conditions c t h = refl
not_element slot.otherwise c t h = refl
not_element slot.loops c t h = refl
not_element slot.scrutinees c t h = refl
not_element slot.arms c t h = refl
not_element slot.bodies c t h = refl
not_element slot.outputs c t h = refl
not_element slot.groups c t h = refl
not_element slot.done c t h = refl

elements_out : (s : Slot) (ts : List Tree) (b : Bool) → is_elements s ≡ false → children_well s (elements ts b) ≡ (is_nil ts && may_stop s)
elements_out s [] b h = refl
elements_out s (t ∷ ts) b h = ap (λ c. (c && ending_fits e.element (ending_of (is_nil ts) b)) && (well t && children_well slot.elements (elements ts b))) (not_element s (ending_of (is_nil ts) b) t h)

nil_map : {A B : Type 0} (f : A → B) (xs : List A) → is_nil (map f xs) ≡ is_nil xs
nil_map f [] = refl
nil_map f (x ∷ xs) = refl

pub elements-in : {E : Type 0} (f : E → Tree) (s : Slot) (xs : List E) (b : Bool) → is_elements s ≡ true → children_well s (elements (map f xs) b) ≡ list_all (λ x. well (f x)) xs
elements-in f slot.elements xs b h = elements_in (map f xs) b ∙ all_map well f xs
elements-in f slot.single xs b h = absurd cc
elements-in f slot.counted xs b h = absurd cc
elements-in f slot.fields xs b h = absurd cc
elements-in f slot.conditions xs b h = absurd cc
elements-in f slot.otherwise xs b h = absurd cc
elements-in f slot.loops xs b h = absurd cc
elements-in f slot.scrutinees xs b h = absurd cc
elements-in f slot.arms xs b h = absurd cc
elements-in f slot.bodies xs b h = absurd cc
elements-in f slot.outputs xs b h = absurd cc
elements-in f slot.groups xs b h = absurd cc
elements-in f slot.done xs b h = absurd cc

pub elements-out : {E : Type 0} (f : E → Tree) (s : Slot) (xs : List E) (b : Bool) → is_elements s ≡ false → children_well s (elements (map f xs) b) ≡ (is_nil xs && may_stop s)
elements-out f s xs b h = elements_out s (map f xs) b h ∙ ap (λ c. c && may_stop s) (nil_map f xs)

pub elements-empty : {E : Type 0} (xs : List E) → xs ≡ [] → is_nil xs ≡ true
elements-empty xs h = ap is_nil h

pub elements-some : {E : Type 0} (xs : List E) → (xs ≡ [] → ⊥) → is_nil xs ≡ false
elements-some [] h = absurd (h refl)
elements-some (x ∷ xs) h = refl

pub ruleset element_lists = (elements-in, elements-out, elements-empty, elements-some)

-- ---- fields

field_ends : (ats : _) (m : _) (k b d : Bool) → ending_fits (e.field_value ats m k) (ending_of b d) ≡ true
field_ends ats m k true true = refl
field_ends ats m k true false = refl
field_ends ats m k false d = refl

field_shuffle : (a b c w r : Bool) → (((a && (b && c)) && true) && (w && r)) ≡ ((a && (b && (c && w))) && r)
field_shuffle true true true w r = refl
field_shuffle true true false w r = refl
field_shuffle true false c w r = refl
field_shuffle false b c w r = refl

field_first : (x : FieldView) (xs : List FieldView) (b : Bool) (rest : Children) → children_well slot.fields (fields (x ∷ xs) b rest) ≡ (field_well x && children_well slot.fields (fields xs b rest))
field_first x xs b rest =
    ap (λ d. ((attributes_outer x.attrs && (member_fits x.member && (x.colon || is_name_path x.member x.value))) && d) && (well x.value && children_well slot.fields (fields xs b rest))) (field_ends x.attrs x.member x.colon (is_nil xs) b)
    ∙ field_shuffle (attributes_outer x.attrs) (member_fits x.member) (x.colon || is_name_path x.member x.value) (well x.value) (children_well slot.fields (fields xs b rest))

rest_in : (d : Bool) (o : Option Tree) → children_well slot.fields (option_child (e.rest d) o) ≡ option_well o
rest_in d None = refl
rest_in d (Some t) = and-true (well t)

fields_in : (xs : List FieldView) (b d : Bool) (o : Option Tree) → children_well slot.fields (fields xs b (option_child (e.rest d) o)) ≡ (list_all field_well xs && option_well o)
fields_in [] b d o = rest_in d o
fields_in (x ∷ xs) b d o =
    field_first x xs b (option_child (e.rest d) o) ∙ (ap (λ c. field_well x && c) (fields_in xs b d o) ∙ sym (and_assoc (field_well x) (list_all field_well xs) (option_well o)))

fields_rest : (xs : List FieldView) (b d : Bool) (o : Option Tree) → has_rest (fields xs b (option_child (e.rest d) o)) ≡ is_some o
fields_rest [] b d None = refl
fields_rest [] b d (Some t) = refl
fields_rest (x ∷ xs) b d o = fields_rest xs b d o

not_field : (s : Slot) (x : FieldView) (c : Ending) → is_fields s ≡ false → piece_fits s (e.field_value x.attrs x.member x.colon) c x.value ≡ false
not_field slot.elements x c h = refl
not_field slot.single x c h = refl
not_field slot.counted x c h = refl
not_field slot.fields x c h = absurd cc
not_field slot.conditions x c h = refl
not_field slot.otherwise x c h = refl
not_field slot.loops x c h = refl
not_field slot.scrutinees x c h = refl
not_field slot.arms x c h = refl
not_field slot.bodies x c h = refl
not_field slot.outputs x c h = refl
not_field slot.groups x c h = refl
not_field slot.done x c h = refl

not_rest : (s : Slot) (d : Bool) (c : Ending) (t : Tree) → is_fields s ≡ false → piece_fits s (e.rest d) c t ≡ false
not_rest slot.elements d c t h = refl
not_rest slot.single d c t h = refl
not_rest slot.counted d c t h = refl
not_rest slot.fields d c t h = absurd cc
not_rest slot.conditions d c t h = refl
not_rest slot.otherwise d c t h = refl
not_rest slot.loops d c t h = refl
not_rest slot.scrutinees d c t h = refl
not_rest slot.arms d c t h = refl
not_rest slot.bodies d c t h = refl
not_rest slot.outputs d c t h = refl
not_rest slot.groups d c t h = refl
not_rest slot.done d c t h = refl

fields_out : (s : Slot) (xs : List FieldView) (b d : Bool) (o : Option Tree) → is_fields s ≡ false → children_well s (fields xs b (option_child (e.rest d) o)) ≡ (is_nil xs && (not (is_some o) && may_stop s))
fields_out s [] b d None h = refl
fields_out s [] b d (Some t) h = ap (λ c. (c && true) && (well t && true)) (not_rest s d e.no_ending t h)
fields_out s (x ∷ xs) b d o h =
    ap (λ c. (c && ending_fits (e.field_value x.attrs x.member x.colon) (ending_of (is_nil xs) b)) && (well x.value && children_well slot.fields (fields xs b (option_child (e.rest d) o)))) (not_field s x (ending_of (is_nil xs) b) h)

some_boxed : {E : Type 0} (f : E → Tree) (o : Option (Box E Global)) → is_some (boxed f o) ≡ is_some o
some_boxed f None = refl
some_boxed f (Some x) = refl

fields_by : {F : Type 0} (f : F → FieldView) (xs : List F) (b d dots : Bool) (o : Option Tree)
    → operands_well slot.fields dots (framed (fields (map f xs) b (option_child (e.rest d) o))) ≡ (not (dots && is_some o) && (list_all (λ x. field_well (f x)) xs && option_well o))
fields_by f xs b d dots o = rw (fields_rest (map f xs) b d o, fields_in (map f xs) b d o, all_map field_well f xs) refl

pub fields-in : {E F : Type 0} (f : F → FieldView) (g : E → Tree) (s : Slot) (dots : Bool) (xs : List F) (b d : Bool) (o : Option (Box E Global)) → is_fields s ≡ true
    → operands_well s dots (framed (fields (map f xs) b (option_child (e.rest d) (boxed g o)))) ≡ (not (dots && is_some o) && (list_all (λ x. field_well (f x)) xs && option_well (boxed g o)))
fields-in f g slot.elements dots xs b d o h = absurd cc
fields-in f g slot.single dots xs b d o h = absurd cc
fields-in f g slot.counted dots xs b d o h = absurd cc
fields-in f g slot.fields dots xs b d o h = fields_by f xs b d dots (boxed g o) ∙ ap (λ c. not (dots && c) && (list_all (λ x. field_well (f x)) xs && option_well (boxed g o))) (some_boxed g o)
fields-in f g slot.conditions dots xs b d o h = absurd cc
fields-in f g slot.otherwise dots xs b d o h = absurd cc
fields-in f g slot.loops dots xs b d o h = absurd cc
fields-in f g slot.scrutinees dots xs b d o h = absurd cc
fields-in f g slot.arms dots xs b d o h = absurd cc
fields-in f g slot.bodies dots xs b d o h = absurd cc
fields-in f g slot.outputs dots xs b d o h = absurd cc
fields-in f g slot.groups dots xs b d o h = absurd cc
fields-in f g slot.done dots xs b d o h = absurd cc

out_of : (dots n m : Bool) (o : Bool) → (not (dots && o) && (n && (not o && m))) ≡ (n && (not o && m))
out_of true n m false = refl
out_of true true m true = refl
out_of true false m true = refl
out_of false n m o = refl

pub fields-out : {E F : Type 0} (f : F → FieldView) (g : E → Tree) (s : Slot) (dots : Bool) (xs : List F) (b d : Bool) (o : Option (Box E Global)) → is_fields s ≡ false
    → operands_well s dots (framed (fields (map f xs) b (option_child (e.rest d) (boxed g o)))) ≡ (is_nil xs && (not (is_some o) && may_stop s))
fields-out f g s dots xs b d o h =
    rw (fields_rest (map f xs) b d (boxed g o), fields_out s (map f xs) b d (boxed g o) h, some_boxed g o, nil_map f xs) (out_of dots (is_nil xs) (may_stop s) (is_some o))

pub ruleset field_lists = (fields-in, fields-out, elements-empty, elements-some)

-- ---- other operands in places of their own

value_in : (s : Slot) (c : Ending) (t : Tree) → piece_fits s e.value c t ≡ is_single s
value_in slot.elements c t = refl
value_in slot.single c t = refl
value_in slot.counted c t = refl
value_in slot.fields c t = refl
value_in slot.conditions c t = refl
value_in slot.otherwise c t = refl
value_in slot.loops c t = refl
value_in slot.scrutinees c t = refl
value_in slot.arms c t = refl
value_in slot.bodies c t = refl
value_in slot.outputs c t = refl
value_in slot.groups c t = refl
value_in slot.done c t = refl

repeated_in : (s : Slot) (c : Ending) (t : Tree) → piece_fits s e.repeated c t ≡ is_counted s
repeated_in slot.elements c t = refl
repeated_in slot.single c t = refl
repeated_in slot.counted c t = refl
repeated_in slot.fields c t = refl
repeated_in slot.conditions c t = refl
repeated_in slot.otherwise c t = refl
repeated_in slot.loops c t = refl
repeated_in slot.scrutinees c t = refl
repeated_in slot.arms c t = refl
repeated_in slot.bodies c t = refl
repeated_in slot.outputs c t = refl
repeated_in slot.groups c t = refl
repeated_in slot.done c t = refl

condition_in : (s : Slot) (c : Ending) (t : Tree) → piece_fits s e.condition c t ≡ is_conditions s
condition_in slot.elements c t = refl
condition_in slot.single c t = refl
condition_in slot.counted c t = refl
condition_in slot.fields c t = refl
condition_in slot.conditions c t = refl
condition_in slot.otherwise c t = refl
condition_in slot.loops c t = refl
condition_in slot.scrutinees c t = refl
condition_in slot.arms c t = refl
condition_in slot.bodies c t = refl
condition_in slot.outputs c t = refl
condition_in slot.groups c t = refl
condition_in slot.done c t = refl

loop_head_in : (s : Slot) (c : Ending) (t : Tree) → piece_fits s e.loop_head c t ≡ is_loops s
loop_head_in slot.elements c t = refl
loop_head_in slot.single c t = refl
loop_head_in slot.counted c t = refl
loop_head_in slot.fields c t = refl
loop_head_in slot.conditions c t = refl
loop_head_in slot.otherwise c t = refl
loop_head_in slot.loops c t = refl
loop_head_in slot.scrutinees c t = refl
loop_head_in slot.arms c t = refl
loop_head_in slot.bodies c t = refl
loop_head_in slot.outputs c t = refl
loop_head_in slot.groups c t = refl
loop_head_in slot.done c t = refl

scrutinee_in : (s : Slot) (c : Ending) (t : Tree) → piece_fits s e.scrutinee c t ≡ is_scrutinees s
scrutinee_in slot.elements c t = refl
scrutinee_in slot.single c t = refl
scrutinee_in slot.counted c t = refl
scrutinee_in slot.fields c t = refl
scrutinee_in slot.conditions c t = refl
scrutinee_in slot.otherwise c t = refl
scrutinee_in slot.loops c t = refl
scrutinee_in slot.scrutinees c t = refl
scrutinee_in slot.arms c t = refl
scrutinee_in slot.bodies c t = refl
scrutinee_in slot.outputs c t = refl
scrutinee_in slot.groups c t = refl
scrutinee_in slot.done c t = refl

output_in : (s : Slot) (c : Ending) (t : Tree) → piece_fits s e.output_block c t ≡ (is_outputs s && is_verbatim_block t)
output_in slot.elements c t = refl
output_in slot.single c t = refl
output_in slot.counted c t = refl
output_in slot.fields c t = refl
output_in slot.conditions c t = refl
output_in slot.otherwise c t = refl
output_in slot.loops c t = refl
output_in slot.scrutinees c t = refl
output_in slot.arms c t = refl
output_in slot.bodies c t = refl
output_in slot.outputs c t = refl
output_in slot.groups c t = refl
output_in slot.done c t = refl

grouped_in : (s : Slot) (c : Ending) (t : Tree) → piece_fits s e.grouped c t ≡ false
grouped_in slot.elements c t = refl
grouped_in slot.single c t = refl
grouped_in slot.counted c t = refl
grouped_in slot.fields c t = refl
grouped_in slot.conditions c t = refl
grouped_in slot.otherwise c t = refl
grouped_in slot.loops c t = refl
grouped_in slot.scrutinees c t = refl
grouped_in slot.arms c t = refl
grouped_in slot.bodies c t = refl
grouped_in slot.outputs c t = refl
grouped_in slot.groups c t = refl
grouped_in slot.done c t = refl

not_both : (b : Bool) → not (b && false) ≡ true
not_both true = refl
not_both false = refl

pub call-well : (s : Slot) (dots : Bool) (t : Tree) (ks : Children) → operands_well s dots (based_by t ks) ≡ (well t && children_well s ks)
call-well s dots t none = refl
call-well s dots t (child k c x ks) = refl

pub index-well : (s : Slot) (dots : Bool) (x y : Tree) → operands_well s dots (based x (child e.value e.no_ending y none)) ≡ (well x && (is_single s && well y))
index-well s dots x y = rw (value_in s e.no_ending y, and-true (is_single s), and-true (well y)) refl

no_rest : (ts : List Tree) (b : Bool) → has_rest (elements ts b) ≡ false
no_rest [] b = refl
no_rest (t ∷ ts) b = no_rest ts b

pub elements-well : (s : Slot) (dots : Bool) (ts : List Tree) (b : Bool) → operands_well s dots (framed (elements ts b)) ≡ children_well s (elements ts b)
elements-well s dots ts b = rw (no_rest ts b, not_both dots) refl

pub grouped-well : (s : Slot) (dots : Bool) (t : Tree) → operands_well s dots (framed (child e.grouped e.no_ending t none)) ≡ false
grouped-well s dots t = rw (grouped_in s e.no_ending t) (and-false _)

pub repeated-well : (s : Slot) (dots : Bool) (x y : Tree) → operands_well s dots (framed (child e.repeated e.no_ending x (child e.value e.no_ending y none))) ≡ (is_counted s && (well x && well y))
repeated-well s dots x y = rw (not_both dots, repeated_in s e.no_ending x, and-true (is_counted s), and-true (well y)) refl

-- what comes after `else`
chain_is : (b k w : Bool) → (((b || k) && true) && ((k || w) && true)) ≡ (k || (b && w))
chain_is true true w = refl
chain_is true false w = and-true w
chain_is false true w = refl
chain_is false false w = refl

else_in : {E S : Type 0} (f : E → Tree) (o : Option (S × Box E Global)) → children_well slot.otherwise (else_of f o) ≡ else_well (mapped (λ q. f q.1.value) o)
else_in f None = refl
else_in f (Some q) = chain_is (is_if_expr (f q.1.value)) (is_verbatim_block (f q.1.value)) (well (f q.1.value))

else_rest : {E S : Type 0} (f : E → Tree) (o : Option (S × Box E Global)) → has_rest (else_of f o) ≡ false
else_rest f None = refl
else_rest f (Some q) = refl

pub if-well : {E S : Type 0} (f : E → Tree) (s : Slot) (dots : Bool) (ts : List Tok) (t : Tree) (o : Option (S × Box E Global))
    → operands_well s dots (framed (child e.condition (e.braced (body_of [] ts)) t (else_of f o))) ≡ (is_conditions s && (well t && else_well (mapped (λ q. f q.1.value) o)))
if-well f s dots ts t o = rw (else_rest f o, not_both dots, condition_in s (e.braced (body_of [] ts)) t, and-true (is_conditions s), else_in f o) refl

pub loop-well : (s : Slot) (dots : Bool) (b : Body) (t : Tree) → operands_well s dots (framed (child e.loop_head (e.braced b) t none)) ≡ (is_loops s && (body_fits b && well t))
loop-well s dots b t = rw (not_both dots, loop_head_in s (e.braced b) t, and-true (well t)) (and_assoc (is_loops s) (body_fits b) (well t))

pub body-well : (s : Slot) (dots : Bool) (t : Tree) → operands_well s dots (framed (child e.output_block e.no_ending t none)) ≡ (is_outputs s && is_verbatim_block t)
body-well s dots t = rw (not_both dots, output_in s e.no_ending t) (by (is_outputs s) (is_verbatim_block t))
  where
    by : (a k : Bool) → (((a && k) && true) && ((k || well t) && true)) ≡ (a && k)
    by true true = refl
    by true false = refl
    by false k = refl

-- ---- arms

arm_ends : (ats : _) (p : PatTree) (c : Bool) → ending_fits (e.arm ats p) (arm_ending c) ≡ true
arm_ends ats p true = refl
arm_ends ats p false = refl

guarded_ends : (c : Bool) → ending_fits e.guarded (arm_ending c) ≡ true
guarded_ends true = refl
guarded_ends false = refl

arm_shuffle : (a p w r : Bool) → (((a && p) && true) && (w && r)) ≡ (((a && (p && true)) && (true && w)) && r)
arm_shuffle true true w r = refl
arm_shuffle true false w r = refl
arm_shuffle false p w r = refl

guard_shuffle : (a p g w r : Bool) → (((a && p) && true) && (g && (true && (w && r)))) ≡ (((a && (p && true)) && (g && w)) && r)
guard_shuffle true true true w r = refl
guard_shuffle true true false w r = refl
guard_shuffle true false g w r = refl
guard_shuffle false p g w r = refl

abbrev ArmWell : ArmView → Children → PatTree → List Tree → Type 0
ArmWell x more p gs =
    children_well slot.arms (arm_children x p gs more) ≡ (((attributes_outer x.attrs && arm_pattern p gs) && (option_well (guard_by p gs) && well x.body)) && children_well slot.arms more)

-- without a guard of its own
bare_arm : (x : ArmView) (more : Children) (p : PatTree) (gs : List Tree)
    → children_well slot.arms (strays gs (child (e.arm x.attrs p) (arm_ending x.comma) x.body more)) ≡ (((attributes_outer x.attrs && (pat_fits true p && is_nil gs)) && (true && well x.body)) && children_well slot.arms more)
bare_arm x more p [] = rw (arm_ends x.attrs p x.comma) (arm_shuffle (attributes_outer x.attrs) (pat_fits true p) (well x.body) (children_well slot.arms more))
bare_arm x more p (g ∷ gs) = by (attributes_outer x.attrs) (pat_fits true p)
  where
    by : (a b : Bool) → false ≡ (((a && (b && false)) && (true && well x.body)) && children_well slot.arms more)
    by true true = refl
    by true false = refl
    by false b = refl

own_guard : (x : ArmView) (more : Children) (p : PatTree) (g : Tree) (gs : List Tree) → ArmWell x more (guarded p) (g ∷ gs)
own_guard x more p g [] = rw (guarded_ends x.comma) (guard_shuffle (attributes_outer x.attrs) (pat_fits true p) (well g) (well x.body) (children_well slot.arms more))
own_guard x more p g (h ∷ gs) = by (attributes_outer x.attrs) (pat_fits true p)
  where
    by : (a b : Bool) → false ≡ (((a && (b && false)) && (well (last_guard h gs) && well x.body)) && children_well slot.arms more)
    by true true = refl
    by true false = refl
    by false b = refl

arm_is : (x : ArmView) (more : Children) (p : PatTree) (gs : List Tree) → ArmWell x more p gs
arm_is x more (guarded p) [] = bare_arm x more (guarded p) []
arm_is x more (guarded p) (g ∷ gs) = own_guard x more p g gs
arm_is x more p gs = bare_arm x more p gs

arms_in : (xs : List ArmView) → children_well slot.arms (arms xs) ≡ list_all arm_well xs
arms_in [] = refl
arms_in (x ∷ xs) = arm_is x (arms xs) x.pat.tree x.pat.guards ∙ ap (λ b. arm_well x && b) (arms_in xs)

strays_rest : (gs : List Tree) (ks : Children) → has_rest (strays gs ks) ≡ has_rest ks
strays_rest [] ks = refl
strays_rest (g ∷ gs) ks = strays_rest gs ks

guards_rest : (ats : _) (p : PatTree) (g : Tree) (gs : List Tree) (ks : Children) → has_rest (guard_children (e.guard ats p) g gs ks) ≡ has_rest ks
guards_rest ats p g [] ks = refl
guards_rest ats p g (h ∷ gs) ks = guards_rest ats p h gs ks

arm_rest : (x : ArmView) (more : Children) (p : PatTree) (gs : List Tree) → has_rest (arm_children x p gs more) ≡ has_rest more
arm_rest x more (guarded p) [] = refl
arm_rest x more (guarded p) (g ∷ gs) = guards_rest x.attrs p g gs _
arm_rest x more p gs = strays_rest gs _

arms_rest : (xs : List ArmView) → has_rest (arms xs) ≡ false
arms_rest [] = refl
arms_rest (x ∷ xs) = arm_rest x (arms xs) x.pat.tree x.pat.guards ∙ arms_rest xs

pub arms-well : {A : Type 0} (f : A → ArmView) (s : Slot) (dots : Bool) (v : Vec Attribute Global) (t : Tree) (xs : List A)
    → operands_well s dots (framed (child e.scrutinee (e.opened (inner_of v)) t (arms (map f xs)))) ≡ (is_scrutinees s && (attributes_inner (inner_of v) && (well t && list_all (λ x. arm_well (f x)) xs)))
unfolding inner_of
arms-well f s dots v t xs =
    rw (arms_rest (map f xs), not_both dots, scrutinee_in s (e.opened (from_inner (map attribute_of v.items))) t, arms_in (map f xs), all_map arm_well f xs)
    (and_assoc (is_scrutinees s) (attributes_inner (from_inner (map attribute_of v.items))) (well t && list_all (λ x. arm_well (f x)) xs))

pub ruleset operands = (call-well, index-well, elements-well, grouped-well, repeated-well, if-well, loop-well, body-well, arms-well)

-- ---- those before a node with braces are outer ones

pub ruleset outers = (outers_outer)

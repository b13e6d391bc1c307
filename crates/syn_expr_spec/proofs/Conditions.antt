-- No struct expression is in a condition; and which expressions need a comma or a semicolon after them.
use Rattle.std.specs.Prelude.{not, ◌||◌, ◌&&◌}
use Rattle.std.proofs.Common.{◌≡◌, ℕ, Bool, true, false, List, [], ◌∷◌, Some, refl, ◌∙◌, ap, subst}
use Rattle.std.proofs.Math.Bool.{or-true}
use Rattle.std.proofs.lemmas.Bool.{and_from}
use Rattle.syn_tokens.specs.Tok.{Tok}
use Rattle.syn_lower_spec.specs.Pat.{a_name, an_index}
use Rattle.syn_expr_spec.specs.declared.kinds.Place.{Place}
use Rattle.syn_expr_spec.specs.Tree as e
use Rattle.syn_expr_spec.specs.Tree.{Tree, Children, Frame, Piece, leaf, attributed, tail, frame, none, is_block_like}
use Rattle.syn_expr_spec.specs.Slot.{Slot, Holder, piece_place}
use Rattle.syn_expr_spec.specs.Stands.{Node, Content, Operands, is_leaf, is_paren, is_attributed_by, is_prefixed, is_infixed, is_postfixed, is_tail, is_indexed, is_frame, holds_none, holds_within, holds_bare, no_more, one_more, short, block, arms_inside, fields_of, short_value, path_of, frame_stands}
use Rattle.syn_expr_spec.specs.Binding.{is_structure, has_no_structure, conditions_hold, keeps_conditions, ConditionsHaveNoStructures, is_braced_macro, CommaTestsDiffer}
use Rattle.syn_expr_spec.proofs.Bindings.{at_nodes, indexed_holds}

fields_have_none : (b : Tree) (is : List ℕ) → has_no_structure (fields_of b is) ≡ has_no_structure b
fields_have_none b [] = refl
fields_have_none b (i ∷ more) = fields_have_none (tail b (e.field (an_index i)) none) more

of_fields : (b x : Tree) (is : List ℕ) → x ≡ fields_of b is → has_no_structure b ≡ true → has_no_structure x ≡ true
of_fields b x is q h = ap has_no_structure q ∙ fields_have_none b is ∙ h

no_frame : (p : Place) (k : Frame) (ks : Children) → p.condition ≡ true → frame_stands p k ks ≡ true → not (is_structure k) ≡ true
unfolding frame_stands
no_frame p (e.structure q w d) ks c s = cc
no_frame p _ ks c s = refl

bare_of : {p : Place} {l n : List Tok} {x : Tree} → p.condition ≡ true → Node p l x n → has_no_structure x ≡ true
bare_of c (is_leaf g s) = refl
bare_of c (is_attributed_by g u d) = bare_of c d
bare_of c (is_prefixed {k = e.unary op} g h d s t) = bare_of c d
bare_of c (is_prefixed {k = e.reference m} g h d s t) = bare_of c d
bare_of c (is_prefixed {k = e.raw_addr m} g h d s t) = bare_of c d
bare_of c (is_prefixed {k = e.range_to op} g h d s t) = bare_of c d
bare_of c (is_prefixed {k = e.let_expr w} g h d s t) = bare_of c d
bare_of c (is_prefixed {k = e.closure w} g h d s t) = bare_of c d
bare_of c (is_infixed {p = p} d t g i j k r s q o) = and_from _ _ (bare_of c d) (bare_of c r)
bare_of c (is_postfixed d t g i j k s o) = bare_of c d
bare_of c (is_tail {b = b} {x = u} {is = is} d g t o q) = of_fields b u is q (bare_of c d)
bare_of c (is_indexed {b = b} {x = x} {i = i} {is = is} d g t q) = of_fields b x (i ∷ is) q (bare_of c d)
bare_of c (is_frame {p = p} {k = k} {ks = ks} g o s e) = no_frame p k ks c s
bare_of c _ = refl

short_bare : (k : Piece) (x : Tree) → short_value k ≡ Some x → has_no_structure x ≡ true
short_bare (e.field_value ats (a_name w) false) x v = let q : path_of w ≡ x = cc in subst (λ u. has_no_structure u ≡ true) q refl
short_bare _ x v = cc

where_condition : (b : Bool) (h : Bool) → (b ≡ true → h ≡ true) → (not b || h) ≡ true
where_condition true h f = f refl
where_condition false h f = refl

in_operands : {s : Slot} {l n : List Tok} {ks : Children} → Operands s l ks n → conditions_hold ks ≡ true
in_operands (no_more g) = refl
in_operands (one_more {k = k} {x = x} g i d q c r) =
    and_from _ _ (where_condition (piece_place k).condition (has_no_structure x) (λ c. bare_of c d)) (in_operands r)
in_operands (short {k = k} {x = x} g v c r) =
    and_from _ _ (ap (λ b. not (piece_place k).condition || b) (short_bare k x v) ∙ or-true _) (in_operands r)
in_operands (block {k = k} g t b r) = and_from _ _ (or-true (not (piece_place k).condition)) (in_operands r)
in_operands (arms_inside d q c g i r) = and_from _ _ (bare_of refl d) (in_operands r)

in_content : {o : Holder} {l n : List Tok} {ks : Children} → Content o l ks n → conditions_hold ks ≡ true
in_content holds_none = refl
in_content (holds_within g d s) = in_operands d
in_content (holds_bare d) = in_operands d

condition_node : (p : Place) (l n : List Tok) (x : Tree) → Node p l x n → keeps_conditions x ≡ true
condition_node p l n x (is_leaf g s) = refl
condition_node p l n x (is_indexed {b = b} {i = i} {is = is} d g t q) = indexed_holds keeps_conditions (λ c j w. refl) p b x i is g q
condition_node p l n x (is_frame g c s e) = in_content c
condition_node p l n x _ = refl

pub conditions_have_no_structures : ConditionsHaveNoStructures
conditions_have_no_structures = record {
  here = λ p l n x c s. bare_of c s.node;
  inside = λ p l n x s. at_nodes keeps_conditions (record { at_leaf = λ k. refl; at_index = λ b i g. refl; at_node = condition_node }) p l n x s.node;
  in_parentheses = λ p i n x s. is_paren s.node s.ending s.closing;
  behind_jump = λ p l m n j x g h s. is_prefixed g h s.node s.ending s.closing;
}

-- ---- commas and semicolons

braced_is_no_block : (t : Tree) → is_braced_macro t ≡ true → not (is_block_like t) ≡ true
braced_is_no_block (leaf (e.mac m)) h = refl
braced_is_no_block (leaf _) h = cc
braced_is_no_block (attributed a more t) h = braced_is_no_block t h
braced_is_no_block (frame k ks) h = cc
braced_is_no_block _ h = refl

pub comma_tests_differ : CommaTestsDiffer
comma_tests_differ = record {
  on_braced_macros = λ t h. (braced_is_no_block t h, ap (λ b. not b && not (is_block_like t)) h);
  nowhere_else = λ t h. ap (λ b. not b && not (is_block_like t)) h;
}

-- One turn of each loop that reads a list.
use Rattle.std.proofs.Common.{◌≡◌, true, false, cond, List, [], ◌∷◌, ◌++◌, drop, Some, None, refl, ap, sym, ◌∙◌, append_assoc}
use Rattle.syn_tokens.specs.Tok.{Tok}
use Rattle.syn_lower_spec.specs.Tree.{FnArgTree, TypeTree, GenericTree, BoundTree, SegmentTree}
use Rattle.syn_tokens.specs.Front.{is_empty}
use Rattle.syn_lower_spec.specs.Form.{Outcome, and_then, more, joined, extend_more, gathered_more, listed, gathered}
use Rattle.syn_lower_spec.specs.Mark.{comma, gt, colon2, plus}
use Rattle.syn_lower_spec.specs.Part.{type, generic, bound, segment, fn_arg}
use Rattle.syn_lower_spec.proofs.Loops as loops
use Rattle.syn_lower_spec.proofs.Marks.{comma_present, colon2_present, plus_present}
use Rattle.syn_lower_spec.proofs.Parts.{type_alike, types_alike, generic_alike, fn_arg_alike, bound_alike, whole_segment_alike}
use Rattle.syn_lower_spec.proofs.Forms.{weaker}
use Rattle.syn_lower_spec.specs.declared.label.PathStyle.{PathStyle}
use Rattle.syn_lower_leaves.proofs.Loops.{map-one}

pub types_turn : (found : List TypeTree) (l : List Tok) → gathered comma is_empty (type true) found l
    ≡ cond (comma.at l) (cond (is_empty (drop comma.count l)) (Some ((found, true), drop comma.count l)) (and_then ((type true).reads (drop comma.count l)) (λ x n. gathered comma is_empty (type true) (found ++ x ∷ []) n))) (Some ((found, false), l))
types_turn = loops.turn comma is_empty (type true) comma_present (λ k. type_alike k true)

pub types_start : (l : List Tok) → (listed comma is_empty (type true)).reads l
    ≡ cond (is_empty l) (Some (([], false), l)) (and_then ((type true).reads l) (λ x n. gathered comma is_empty (type true) (x ∷ []) n))
types_start = loops.start comma is_empty (type true) comma_present (λ k. type_alike k true)

pub ruleset types = (map-one, types_turn, types_start)

pub generics_turn : (found : List GenericTree) (l : List Tok) → gathered comma gt.at (generic type) found l
    ≡ cond (comma.at l) (cond (gt.at (drop comma.count l)) (Some ((found, true), drop comma.count l)) (and_then ((generic type).reads (drop comma.count l)) (λ x n. gathered comma gt.at (generic type) (found ++ x ∷ []) n))) (Some ((found, false), l))
generics_turn = loops.turn comma gt.at (generic type) comma_present (λ k. generic_alike types_alike)

pub generics_start : (l : List Tok) → (listed comma gt.at (generic type)).reads l
    ≡ cond (gt.at l) (Some (([], false), l)) (and_then ((generic type).reads l) (λ x n. gathered comma gt.at (generic type) (x ∷ []) n))
generics_start = loops.start comma gt.at (generic type) comma_present (λ k. generic_alike types_alike)

pub ruleset generics = (map-one, generics_turn, generics_start)

pub bounds_turn : (found : List BoundTree) (l : List Tok) → gathered_more plus (bound type) found l
    ≡ cond (plus.at l) (and_then ((bound type).reads (drop plus.count l)) (λ x n. gathered_more plus (bound type) (found ++ x ∷ []) n)) (Some (found, l))
bounds_turn = loops.more_turn plus (bound type) plus_present (λ k. weaker (bound_alike types_alike))

pub bounds_start : (l : List Tok) → (joined plus (bound type)).reads l ≡ and_then ((bound type).reads l) (λ x n. gathered_more plus (bound type) (x ∷ []) n)
bounds_start = loops.joined_start plus (bound type) plus_present (λ k. weaker (bound_alike types_alike))

pub ruleset bounds = (map-one, bounds_turn, bounds_start)

pub segments_turn : (s : PathStyle) (found : List SegmentTree) (l : List Tok) → gathered_more colon2 (segment type s) found l
    ≡ cond (colon2.at l) (and_then ((segment type s).reads (drop colon2.count l)) (λ x n. gathered_more colon2 (segment type s) (found ++ x ∷ []) n)) (Some (found, l))
segments_turn s = loops.more_turn colon2 (segment type s) colon2_present (λ k. whole_segment_alike s)

-- after others
pub segments_start : (s : PathStyle) (found : List SegmentTree) (l : List Tok) → extend_more found ((joined colon2 (segment type s)).reads l)
    ≡ and_then ((segment type s).reads l) (λ x n. gathered_more colon2 (segment type s) (found ++ x ∷ []) n)
unfolding gathered_more
segments_start s found l = ap (extend_more found) (loops.joined_start colon2 (segment type s) colon2_present (λ k. whole_segment_alike s) l) ∙ by ((segment type s).reads l)
  where
    by_rest : (x : SegmentTree) (o : Outcome (List SegmentTree)) → extend_more found (extend_more (x ∷ []) o) ≡ extend_more (found ++ x ∷ []) o
    by_rest x None = refl
    by_rest x (Some q) = ap (λ z. Some (z, q.1)) (sym (append_assoc found (x ∷ []) q.0))

    by : (o : Outcome SegmentTree) → extend_more found (and_then o (λ x n. extend_more (x ∷ []) ((more colon2 (segment type s)).reads n))) ≡ and_then o (λ x n. extend_more (found ++ x ∷ []) ((more colon2 (segment type s)).reads n))
    by None = refl
    by (Some q) = by_rest q.0 ((more colon2 (segment type s)).reads q.1)

pub ruleset segments = (map-one, segments_turn, segments_start)

-- none, or one after `::` and more
pub segments_further : (s : PathStyle) (found : List SegmentTree) (l : List Tok) → gathered_more colon2 (segment type s) found l
    ≡ cond (colon2.at l) (extend_more found ((joined colon2 (segment type s)).reads (drop colon2.count l))) (Some (found, l))
segments_further s found l = segments_turn s found l ∙ ap (λ o. cond (colon2.at l) o (Some (found, l))) (sym (segments_start s found (drop colon2.count l)))

pub ruleset further = (map-one, segments_further)

pub extend_more-nothing : (o : Outcome (List SegmentTree)) → extend_more [] o ≡ o
extend_more-nothing None = refl
extend_more-nothing (Some q) = refl

pub ruleset nothing = (extend_more-nothing)

pub args_turn : (found : List FnArgTree) (l : List Tok) → gathered comma is_empty (fn_arg type) found l
    ≡ cond (comma.at l) (cond (is_empty (drop comma.count l)) (Some ((found, true), drop comma.count l)) (and_then ((fn_arg type).reads (drop comma.count l)) (λ x n. gathered comma is_empty (fn_arg type) (found ++ x ∷ []) n))) (Some ((found, false), l))
args_turn = loops.turn comma is_empty (fn_arg type) comma_present (λ k. fn_arg_alike types_alike)

pub args_start : (l : List Tok) → (listed comma is_empty (fn_arg type)).reads l
    ≡ cond (is_empty l) (Some (([], false), l)) (and_then ((fn_arg type).reads l) (λ x n. gathered comma is_empty (fn_arg type) (x ∷ []) n))
args_start = loops.start comma is_empty (fn_arg type) comma_present (λ k. fn_arg_alike types_alike)

pub ruleset args = (map-one, args_turn, args_start)

-- A field by itself is read exactly where it is.
use Rattle.std.proofs.Common.{◌≡◌, true, false, List, Some, refl, subst}
use Rattle.syn_tokens.specs.Tok.{Tok}
use Rattle.syn_lower_spec.specs.Pat.{a_name, an_index}
use Rattle.syn_lower_spec.proofs.Weights.{some_is}
use Rattle.syn_expr_spec.specs.Place.{plain}
use Rattle.syn_expr_spec.specs.Tree as e
use Rattle.syn_expr_spec.specs.Tree.{Piece}
use Rattle.syn_expr_spec.specs.Slot as slot
use Rattle.syn_expr_spec.specs.Slot.{piece_form}
use Rattle.syn_expr_spec.specs.Stands.{path_of}
use Rattle.syn_expr_spec.specs.Read.{expr}
use Rattle.syn_expr_spec.proofs.Chains.{then_some}
use Rattle.syn_expr_spec.proofs.Needs.{heads}
use Rattle.syn_expr_spec.proofs.Exact.{expr_sound, expr_complete}
use Rattle.syn_expr_spec.proofs.HeadMoves.{IsLess, left_less, less_then}
use Rattle.syn_expr_spec.proofs.Lesses.{here}
use Rattle.syn_expr_heads.proofs.Turns.{expr_less}
use Rattle.syn_expr_ast.specs.View.{FieldView}
use Rattle.syn_expr_ast.specs.FieldStands.{FieldStands, with_colon, by_name}
use Rattle.syn_expr_parse.specs.Fields.{field_by, one_field}

by_piece : (k : Piece) (l m : List Tok) (q : FieldView × List Tok) → (piece_form slot.fields).behind k l ≡ Some m → field_by k m ≡ Some q → FieldStands l q.0 q.1
by_piece (e.field_value ats w true) l m q b h =
    let (x, i, f) = then_some (expr plain m) _ q h in
    subst (λ (r : FieldView × List Tok). FieldStands l r.0 r.1) (some_is f) (with_colon b (expr_sound plain m x.0 x.1 i))
by_piece (e.field_value ats (a_name w) false) l m q b h =
    subst (λ (r : FieldView × List Tok). FieldStands l r.0 r.1) (some_is {x = (record { attrs = ats; member = a_name w; colon = false; value = path_of w }, m)} {y = q} h) (by_name b)
by_piece (e.field_value ats (an_index n) false) l m q b h = absurd cc
by_piece _ l m q b h = absurd cc

pub field_sound : (l : List Tok) (x : FieldView) (n : List Tok) → one_field l ≡ Some (x, n) → FieldStands l x n
unfolding one_field
field_sound l x n h =
    let (k, i, f) = then_some ((piece_form slot.fields).reads l) field_by (x, n) h in
    let q = heads.pieces slot.fields in
    by_piece k.0 l k.1 (x, n) (q.sound l k.0 k.1 i) f

pub field_complete : (l : List Tok) (x : FieldView) (n : List Tok) → FieldStands l x n → one_field l ≡ Some (x, n)
unfolding one_field
field_complete l _ n (with_colon {m = m} {ats = ats} {w = w} {x = x} b s) =
    let q = heads.pieces slot.fields in rw (q.found l (e.field_value ats w true) m b, expr_complete plain m x n s) refl
field_complete l _ n (by_name {ats = ats} {w = w} b) =
    let q = heads.pieces slot.fields in rw (q.found l (e.field_value ats (a_name w) false) n b) refl

-- it takes a token
pieces_less : (k : Piece) (l m : List Tok) (q : FieldView × List Tok) → (piece_form slot.fields).behind k l ≡ Some m → field_by k m ≡ Some q → IsLess q.1 l
pieces_less (e.field_value ats w true) l m q b h =
    let (x, i, f) = then_some (expr plain m) _ q h in
    let d = expr_less plain m x.0 x.1 i in
    subst (λ (r : FieldView × List Tok). IsLess r.1 l) (some_is f) (less_then (left_less here.field_pieces (e.field_value ats w true) l m b) d.tail)
pieces_less (e.field_value ats (a_name w) false) l m q b h =
    subst (λ (r : FieldView × List Tok). IsLess r.1 l) (some_is {x = (record { attrs = ats; member = a_name w; colon = false; value = path_of w }, m)} {y = q} h) (left_less here.field_pieces (e.field_value ats (a_name w) false) l m b)
pieces_less (e.field_value ats (an_index n) false) l m q b h = absurd cc
pieces_less _ l m q b h = absurd cc

pub field_is_less : (l : List Tok) (x : FieldView) (n : List Tok) → one_field l ≡ Some (x, n) → IsLess n l
unfolding one_field
field_is_less l x n h =
    let (k, i, f) = then_some ((piece_form slot.fields).reads l) field_by (x, n) h in
    let q = heads.pieces slot.fields in
    pieces_less k.0 l k.1 (x, n) (q.sound l k.0 k.1 i) f

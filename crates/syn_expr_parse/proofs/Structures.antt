-- A struct expression, by what is in its braces.
use Rattle.std.specs.Prelude.{not, ◌||◌, ◌&&◌}
use Rattle.std.proofs.Common.{◌≡◌, Bool, true, false, List, Option, Some, None, refl, drop}
use Rattle.syn_lexer.specs.declared.front.Delimiter.TheVariants as del
use Rattle.syn_tokens.specs.Tok.{Tok}
use Rattle.syn_tokens.specs.Front.{is_empty, group_at}
use Rattle.syn_lower_spec.specs.Form.{Outcome, and_then}
use Rattle.syn_lower_spec.specs.Part.{QPathTree}
use Rattle.syn_expr_spec.specs.declared.kinds.Place.{Place}
use Rattle.syn_expr_spec.specs.Tree as tr
use Rattle.syn_expr_spec.specs.Tree.{Tree, Children}
use Rattle.syn_expr_spec.specs.Slot as s
use Rattle.syn_expr_spec.specs.Path.{is_try_alone}
use Rattle.syn_expr_spec.specs.Stands.{ends_list, frame_stands}
use Rattle.syn_expr_spec.specs.AloneRead.{structure_behind}
use Rattle.syn_expr_spec.specs.Read.{only_if, expr, bare_operands, structured, structure_read}
use Rattle.syn_expr_parse.specs.Fields.{ended, braced}

-- where none stands
pub structure_refused : (p : Place) (q : QPathTree) (l : List Tok) → (p.condition || is_try_alone q.0 q.1) ≡ true → structure_read expr p q l ≡ None
unfolding frame_stands
structure_refused p q l h = by_group (group_at del.Brace l)
  where
    by_group : (o : Option (List Tok × List Tok)) → and_then o (λ i n. and_then (bare_operands expr s.fields i) (λ ks o. structured expr p q (not (is_empty o)) o ks n)) ≡ None
    by_group None = refl
    by_group (Some g) = by_children (bare_operands expr s.fields g.0)
      where
        by_children : (k : Outcome Children) → and_then k (λ ks o. structured expr p q (not (is_empty o)) o ks g.1) ≡ None
        by_children None = refl
        by_children (Some k) = by_ends (ends_list (not (is_empty k.1)) k.1)
          where
            by_ends : (b : Bool) → only_if {A = Tree × List Tok} (b && not (p.condition || is_try_alone q.0 q.1)) (Some (tr.frame (tr.structure q.0 q.1 (not (is_empty k.1))) k.0, g.1)) ≡ None
            by_ends true = rw h refl
            by_ends false = refl

-- where one may stand
pub structure_is : (p : Place) (q : QPathTree) (l : List Tok) → (p.condition || is_try_alone q.0 q.1) ≡ false → structure_read expr p q l ≡ structure_behind q l
unfolding frame_stands structure_behind
structure_is p q l h = by_group (group_at del.Brace l)
  where
    by_ends : (ks : Children) (n : List Tok) (d b : Bool) → only_if {A = Tree × List Tok} (b && not (p.condition || is_try_alone q.0 q.1)) (Some (tr.frame (tr.structure q.0 q.1 d) ks, n))
        ≡ only_if b (Some (tr.frame (tr.structure q.0 q.1 d) ks, n))
    by_ends ks n d true = rw h refl
    by_ends ks n d false = refl

    by_children : (n : List Tok) (k : Outcome Children) → and_then k (λ ks o. structured expr p q (not (is_empty o)) o ks n)
        ≡ and_then k (λ ks o. only_if {A = Tree × List Tok} (ends_list (not (is_empty o)) o) (Some (tr.frame (tr.structure q.0 q.1 (not (is_empty o))) ks, n)))
    by_children n None = refl
    by_children n (Some k) = by_ends k.0 n (not (is_empty k.1)) (ends_list (not (is_empty k.1)) k.1)

    by_group : (o : Option (List Tok × List Tok)) → and_then o (λ i n. and_then (bare_operands expr s.fields i) (λ ks o. structured expr p q (not (is_empty o)) o ks n))
        ≡ and_then o (λ i n. and_then (bare_operands expr s.fields i) (λ ks o. only_if {A = Tree × List Tok} (ends_list (not (is_empty o)) o) (Some (tr.frame (tr.structure q.0 q.1 (not (is_empty o))) ks, n))))
    by_group None = refl
    by_group (Some g) = by_children g.1 (bare_operands expr s.fields g.0)

pub ruleset structures = (structure_refused, structure_is)

-- after its path, by what is in its braces
pub behind_is : (q : QPathTree) (l : List Tok) → structure_behind q l ≡ and_then (group_at del.Brace l) (λ i n. and_then (braced i) (λ k o. Some (tr.frame (tr.structure q.0 q.1 k.1) k.0, n)))
unfolding structure_behind braced
behind_is q l = by_group (group_at del.Brace l)
  where
    by_ends : (ks : Children) (o n : List Tok) (d b : Bool) → only_if {A = Tree × List Tok} b (Some (tr.frame (tr.structure q.0 q.1 d) ks, n))
        ≡ and_then {A = Children × Bool} (only_if b (Some ((ks, d), drop 2 o))) (λ k m. Some (tr.frame (tr.structure q.0 q.1 k.1) k.0, n))
    by_ends ks o n d true = refl
    by_ends ks o n d false = refl

    by_children : (n : List Tok) (k : Outcome Children) → and_then k (λ ks o. only_if {A = Tree × List Tok} (ends_list (not (is_empty o)) o) (Some (tr.frame (tr.structure q.0 q.1 (not (is_empty o))) ks, n)))
        ≡ and_then {A = Children × Bool} (and_then k ended) (λ k m. Some (tr.frame (tr.structure q.0 q.1 k.1) k.0, n))
    by_children n None = refl
    by_children n (Some k) = by_ends k.0 k.1 n (not (is_empty k.1)) (ends_list (not (is_empty k.1)) k.1)

    by_group : (o : Option (List Tok × List Tok)) → and_then o (λ i n. and_then (bare_operands expr s.fields i) (λ ks o. only_if {A = Tree × List Tok} (ends_list (not (is_empty o)) o) (Some (tr.frame (tr.structure q.0 q.1 (not (is_empty o))) ks, n))))
        ≡ and_then o (λ i n. and_then (braced i) (λ k m. Some (tr.frame (tr.structure q.0 q.1 k.1) k.0, n)))
    by_group None = refl
    by_group (Some g) = by_children g.1 (bare_operands expr s.fields g.0)

pub ruleset behind = (behind_is)

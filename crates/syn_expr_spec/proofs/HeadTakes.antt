-- The heads that take a token.
use Rattle.std.proofs.Common.{◌≡◌, ◌<◌, false, not, ◌&&◌, ◌==◌, List, [], ◌∷◌, Some, subst, arith, codes}
use Rattle.std.specs.Str.{bytes_eq}
use Rattle.syn_lexer.specs.Keywords.{is_reserved_word}
use Rattle.syn_lexer.specs.declared.front.Delimiter.TheVariants as del
use Rattle.syn_tokens.specs.Tok.{Tok, ident, punct, literal, group, weight}
use Rattle.syn_lower_spec.specs.Form.{Form, Mark, mark, then_by, both}
use Rattle.syn_lower_spec.specs.Part.{unsigned}
use Rattle.syn_lower_spec.specs.Pat as p
use Rattle.syn_lower_spec.specs.Pat.{MemberTree}
use Rattle.syn_lower_spec.proofs.Weights.{one_at_least}
use Rattle.syn_lower_spec.proofs.Forms.{Alike, Present}
use Rattle.syn_lower_spec.proofs.Parts.{forms, lifetimes_alike, block_alike, mutability_alike, outer_attributes_alike, macro_end_alike}
use Rattle.syn_lower_spec.proofs.Pats.{pattern_alike, closure_arg_alike}
use Rattle.syn_lower_spec.proofs.Takes.{Takes, mark_takes, when_takes, first_takes, second_takes, shown_takes, inside_takes, name_takes, lit_takes}
use Rattle.syn_expr_spec.specs.Head as h
use Rattle.syn_expr_spec.specs.Slot as s
use Rattle.syn_expr_spec.proofs.GroupForms.{expr_path_takes}
use Rattle.syn_expr_spec.proofs.HeadForms.{head_marks, head_views, verbatim_some, use_alike, output_whole, arguments_whole, label_alike, body_alike, field_colon_alike}
use Rattle.syn_expr_spec.proofs.HeadTails.{name_some, index_some}

by : (l n m : List Tok) → l ≡ n → weight l < weight m → weight n < weight m
by l n m e h = subst (λ z. weight z < weight m) e h

one : (x : Tok) (l : List Tok) → weight l < weight (x ∷ l)
unfolding weight
one x l = omega (arith, one_at_least x)

four : (a b c d : Tok) (l : List Tok) → weight l < weight (a ∷ b ∷ c ∷ d ∷ l)
unfolding weight
four a b c d l = omega (arith, one_at_least a)

pub unsigned_takes : Takes unsigned
unfolding unsigned
unsigned_takes = record { takes = lit_takes }

pub member_takes : Takes p.member
unfolding p.member
member_takes = record { takes = takes }
  where
    takes : (l : List Tok) (x : MemberTree) (n : List Tok) → p.find_member l ≡ Some (x, n) → weight n < weight l
    takes (ident w ∷ l) x n h = by l n (ident w ∷ l) (name_some (not (is_reserved_word w)) w l x n h) (one (ident w) l)
    takes (literal w ∷ l) x n h = by l n (literal w ∷ l) (index_some (p.index_of w) l x n h) (one (literal w) l)
    takes _ x n h = absurd cc

pub builtin_takes : Takes h.builtin
unfolding h.builtin
builtin_takes = record { takes = takes }
  where
    takes : (l x n : List Tok) → h.find_builtin l ≡ Some (x, n) → weight n < weight l
    takes (ident b ∷ punct c q ∷ ident w ∷ group del.Parenthesis i ∷ l) x n g =
        by l n (ident b ∷ punct c q ∷ ident w ∷ group del.Parenthesis i ∷ l) (verbatim_some (bytes_eq b (codes "builtin") && (c == 35 && not (is_reserved_word w))) (ident b ∷ punct c q ∷ ident w ∷ group del.Parenthesis i ∷ []) l x n g) (four (ident b) (punct c q) (ident w) (group del.Parenthesis i) l)
    takes _ x n g = absurd cc

-- a mark, whatever is read after it
pub marked : {A : Type 0} {m : Mark} {f : Form A} → Present m → Alike 0 f f → Takes (mark m f)
marked p a = mark_takes {k = 0} p a

pub first : {A B : Type 0} {f : Form A} {g : A → Form B} → Takes f → ((x : A) → Alike 0 (g x) (g x)) → Takes (then_by f g)
first t a = first_takes {k = 0} t a

pub second : {A B : Type 0} {f : Form A} {g : Form B} → Alike 0 f f → Takes g → Takes (both f g)
second a t = second_takes {k = 0} a t

ruleset taking = (marked, when_takes, shown_takes, first, second, inside_takes)

-- ---- jumps, ranges, leaves

pub jump_head_takes : Takes h.jump_head
unfolding h.jump_head
jump_head_takes = search (taking, forms, head_marks, head_views) depth 16

pub range_op_takes : Takes h.range_op
unfolding h.range_op
range_op_takes = search (taking, forms, head_marks, head_views) depth 16

pub body_takes : Takes h.body
unfolding h.body
body_takes = inside_takes del.Brace h.body_inside

pub named_takes : Takes h.named
unfolding h.named
named_takes = shown_takes h.to_named h.from_named (first (expr_path_takes false) (λ q. macro_end_alike q))

pub leaf_form_takes : Takes h.leaf_form
unfolding h.leaf_form
leaf_form_takes = search (unsigned_takes, range_op_takes, jump_head_takes, body_takes, builtin_takes, named_takes, label_alike, body_alike, block_alike, taking, forms, head_marks, head_views) depth 40

-- ---- what comes before an operand, and after a dot

closure_inputs_takes : Takes h.closure_inputs
unfolding h.closure_inputs
closure_inputs_takes = search (closure_arg_alike, taking, forms, head_marks) depth 16

pub closure_head_takes : Takes h.closure_head
unfolding h.closure_head
closure_head_takes = search (closure_inputs_takes, use_alike, lifetimes_alike, output_whole, taking, forms, head_marks) depth 24

pub prefix_form_takes : Takes h.prefix_form
unfolding h.prefix_form
prefix_form_takes = search (range_op_takes, jump_head_takes, closure_head_takes, pattern_alike, mutability_alike, taking, forms, head_marks, head_views) depth 40

pub dotted_takes : Takes h.dotted
unfolding h.dotted
dotted_takes = search (name_takes, member_takes, arguments_whole, taking, forms, head_marks, head_views) depth 24

pub for_head_takes : Takes s.for_head
for_head_takes = search (pattern_alike, taking, forms, head_marks) depth 16

-- ---- what comes before an operand in a place of its own

pub fields_take : Takes (s.piece_form s.fields)
unfolding s.piece_form
fields_take = search (member_takes, outer_attributes_alike, field_colon_alike, taking, forms, head_marks, head_views) depth 24

pub otherwise_takes : Takes (s.piece_form s.otherwise)
unfolding s.piece_form
otherwise_takes = search (taking, forms, head_marks, head_views) depth 16

pub arms_take : Takes (s.piece_form s.arms)
unfolding s.piece_form
arms_take = search (outer_attributes_alike, pattern_alike, taking, forms, head_marks, head_views) depth 24

pub bodies_take : Takes (s.piece_form s.bodies)
unfolding s.piece_form
bodies_take = search (taking, forms, head_marks, head_views) depth 16

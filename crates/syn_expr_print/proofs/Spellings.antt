-- What is printed of a node of each shape, by what is printed of its operands.
use Rattle.std.specs.Prelude.{Option, Some, None}
use Rattle.std.proofs.Common.{◌≡◌, Bool, true, false, List, [], ◌∷◌, ◌++◌, refl, sym, ap, ◌∙◌}
use Rattle.syn_lexer.specs.declared.front.Delimiter.TheVariants as del
use Rattle.syn_tokens.specs.Tok.{group, inside}
use Rattle.syn_lower_spec.specs.Tree.{AttributeTree}
use Rattle.syn_lower_spec.specs.Own as own_parts
use Rattle.syn_lower_spec.specs.PatOwn.{attributes_own}
use Rattle.syn_pat.proofs.Appends.{attributes_append}
use Rattle.syn_expr_spec.specs.declared.kinds.Infix.{Infix}
use Rattle.syn_expr_spec.specs.declared.kinds.Precedence.TheVariants as lev
use Rattle.syn_expr_spec.specs.declared.next.Context.{Context}
use Rattle.syn_expr_spec.specs.Op.{level}
use Rattle.syn_expr_spec.specs.Next.{enclosed, left_context, right_context, base_context, prefix_context, attributed_context}
use Rattle.syn_expr_spec.specs.Summaries.{summary_of, below, place_by, left_by, base_by, prefix_by}
use Rattle.syn_expr_spec.specs.Rule.{put, bare, bare_children, is_operation, prefix_asks, left_asks, base_asks, place_asks}
use Rattle.syn_expr_spec.specs.Tree as e
use Rattle.syn_expr_spec.specs.Tree.{Tree, Children, Leaf, Prefix, Postfix, Trailer, Frame, Enclosure, leaf, paren, attributed, outers, prefixed, infixed, postfixed, tail, frame, own, own_tokens, children_own, leaf_own, prefix_own, infix_own, postfix_own, postfix_op, trailer_own, frame_own, enclosure, framed, fill, fill_children, needs_last_comma}
use Rattle.syn_expr_spec.proofs.SummaryLemmas.{summaries_are_right, summary_fill}
use Rattle.syn_expr_spec.proofs.FillIns.{operation_fill}
use Rattle.syn_expr_ast.specs.Node.{attributes_at}
use Rattle.syn_expr_ast.specs.Pats.{strays}
use Rattle.syn_expr_ast.specs.Printed.{whole}
use Rattle.syn_expr_print.specs.Printing.{spelled, spelled_in, children_spelled, core}
use Rattle.syn_expr_print.proofs.Appends.{prefix_append, infix_append, frame_append, own_append, children_append}

-- ---- in parentheses, and left bare

pub spelled-wrapped : (c : Context) (t : Tree) → spelled_in true c t ≡ group del.Parenthesis (inside (spelled enclosed t)) ∷ []
unfolding spelled spelled_in
spelled-wrapped c t = refl

pub spelled-bare : (c : Context) (t : Tree) → spelled_in false c t ≡ spelled c t
unfolding spelled spelled_in
spelled-bare c t = refl

-- the rule decides by the summary
pub whole-summarized : (c : Context) (t : Tree) → whole c t ≡ spelled_in (place_by lev.Jump c (summary_of t)) c t
unfolding whole spelled_in
whole-summarized c t =
    ap (λ w. own_tokens (put w (bare enclosed (fill t)) (bare c (fill t))))
    (sym (summaries_are_right.at_place lev.Jump c (fill t)) ∙ ap (λ x. place_by lev.Jump c x) (summary_fill t))

pub ruleset roles = (spelled-wrapped, spelled-bare, whole-summarized)

-- ---- attributes before a node

pub spelled-attributed : (c : Context) (t : Tree) (a : AttributeTree) (more : List AttributeTree) → attributes_at t ≡ a ∷ more
    → spelled c t ≡ attributes_own (outers (a ∷ more)) [] ++ spelled_in (is_operation (core t)) (attributed_context c) (core t)
unfolding spelled spelled_in
spelled-attributed c (attributed b bs t) a more h =
    let f : attributed b bs t ≡ attributed a more t = cc in
    ap (λ z. own_tokens (bare c (fill z))) f
    ∙ attributes_append (outers (a ∷ more)) (own_tokens (put (is_operation (fill t)) (bare enclosed (fill t)) (bare (attributed_context c) (fill t))))
    ∙ ap (λ w. attributes_own (outers (a ∷ more)) [] ++ own_tokens (put w (bare enclosed (fill t)) (bare (attributed_context c) (fill t)))) (operation_fill t)
spelled-attributed c (leaf k) a more h = absurd cc
spelled-attributed c (paren m t) a more h = absurd cc
spelled-attributed c (prefixed k gs t) a more h = absurd cc
spelled-attributed c (infixed x k y) a more h = absurd cc
spelled-attributed c (postfixed x k) a more h = absurd cc
spelled-attributed c (tail b k ks) a more h = absurd cc
spelled-attributed c (frame k ks) a more h = absurd cc

pub core-plain : (t : Tree) → attributes_at t ≡ [] → core t ≡ t
core-plain (attributed b bs t) h = absurd cc
core-plain (leaf k) h = refl
core-plain (paren m t) h = refl
core-plain (prefixed k gs t) h = refl
core-plain (infixed x k y) h = refl
core-plain (postfixed x k) h = refl
core-plain (tail b k ks) h = refl
core-plain (frame k ks) h = refl

pub below-core : (t : Tree) → below t ≡ below (core t)
below-core (attributed b bs t) = refl
below-core (leaf k) = refl
below-core (paren m t) = refl
below-core (prefixed k gs t) = refl
below-core (infixed x k y) = refl
below-core (postfixed x k) = refl
below-core (tail b k ks) = refl
below-core (frame k ks) = refl

-- ---- nodes of one shape

prefixed-summarized : (k : Prefix) (c : Context) (t : Tree) → prefix_asks k c (fill t) ≡ prefix_by k c (summary_of t)
prefixed-summarized k c t = sym (summaries_are_right.at_prefix k c (fill t)) ∙ ap (λ x. prefix_by k c x) (summary_fill t)

left-summarized : (k : Infix) (c : Context) (t : Tree) → left_asks k (left_context k c) (fill t) ≡ left_by k (left_context k c) (summary_of t)
left-summarized k c t = sym (summaries_are_right.at_left k c (fill t)) ∙ ap (λ x. left_by k (left_context k c) x) (summary_fill t)

place-summarized : (k : Infix) (c : Context) (t : Tree) → place_asks (level k) c (fill t) ≡ place_by (level k) c (summary_of t)
place-summarized k c t = sym (summaries_are_right.at_place (level k) c (fill t)) ∙ ap (λ x. place_by (level k) c x) (summary_fill t)

base-summarized : (k : Trailer) (c : Context) (t : Tree) → base_asks k (base_context k c) (fill t) ≡ base_by k (base_context k c) (summary_of t)
base-summarized k c t = sym (summaries_are_right.at_base k c (fill t)) ∙ ap (λ x. base_by k (base_context k c) x) (summary_fill t)

pub leaf-spelled : (c : Context) (k : Leaf) → spelled c (leaf k) ≡ leaf_own k []
unfolding spelled
leaf-spelled c k = refl

pub paren-spelled : (c : Context) (m : Bool) (t : Tree) → spelled c (paren m t) ≡ group del.Parenthesis (inside (spelled enclosed t)) ∷ []
unfolding spelled
paren-spelled c m t = refl

pub prefixed-spelled : (c : Context) (k : Prefix) (gs : Children) (t : Tree)
    → spelled c (prefixed k gs t) ≡ prefix_own k [] ++ spelled_in (prefix_by k (prefix_context k c) (summary_of t)) (prefix_context k c) t
unfolding spelled spelled_in
prefixed-spelled c k gs t =
    let d = prefix_context k c in
    ap (λ w. prefix_own k (own_tokens (put w (bare enclosed (fill t)) (bare d (fill t))))) (prefixed-summarized k d t)
    ∙ prefix_append k (own_tokens (put (prefix_by k d (summary_of t)) (bare enclosed (fill t)) (bare d (fill t))))

pub infixed-spelled : (c : Context) (x : Tree) (k : Infix) (y : Tree) → spelled c (infixed x k y)
    ≡ spelled_in (left_by k (left_context k c) (summary_of x)) (left_context k c) x
    ++ (infix_own k [] ++ spelled_in (place_by (level k) (right_context k c) (summary_of y)) (right_context k c) y)
unfolding spelled spelled_in
infixed-spelled c x k y =
    let d = left_context k c in
    let u = right_context k c in
    let q = λ (w : Bool). own_tokens (put w (bare enclosed (fill y)) (bare u (fill y))) in
    let p = λ (w : Bool). own (put w (bare enclosed (fill x)) (bare d (fill x))) in
    ap (λ w. p w (infix_own k (q (place_asks (level k) u (fill y))))) (left-summarized k c x)
    ∙ ap (λ w. p (left_by k d (summary_of x)) (infix_own k (q w))) (place-summarized k u y)
    ∙ own_append (put (left_by k d (summary_of x)) (bare enclosed (fill x)) (bare d (fill x))) (infix_own k (q (place_by (level k) u (summary_of y))))
    ∙ ap (λ l. p (left_by k d (summary_of x)) [] ++ l) (infix_append k (q (place_by (level k) u (summary_of y))))

pub postfixed-spelled : (c : Context) (x : Tree) (k : Postfix) → spelled c (postfixed x k)
    ≡ spelled_in (left_by (postfix_op k) (left_context (postfix_op k) c) (summary_of x)) (left_context (postfix_op k) c) x ++ postfix_own k []
unfolding spelled spelled_in
postfixed-spelled c x k =
    let d = left_context (postfix_op k) c in
    ap (λ w. own (put w (bare enclosed (fill x)) (bare d (fill x))) (postfix_own k [])) (left-summarized (postfix_op k) c x)
    ∙ own_append (put (left_by (postfix_op k) d (summary_of x)) (bare enclosed (fill x)) (bare d (fill x))) (postfix_own k [])

pub tail-spelled : (c : Context) (b : Tree) (k : Trailer) (ks : Children) → spelled c (tail b k ks)
    ≡ spelled_in (base_by k (base_context k c) (summary_of b)) (base_context k c) b ++ trailer_own k (children_spelled false ks) []
unfolding spelled spelled_in children_spelled
tail-spelled c b k ks =
    let d = base_context k c in
    ap (λ w. own (put w (bare enclosed (fill b)) (bare d (fill b))) (trailer_own k (children_own (bare_children (fill_children false ks)) []) [])) (base-summarized k c b)
    ∙ own_append (put (base_by k d (summary_of b)) (bare enclosed (fill b)) (bare d (fill b))) (trailer_own k (children_own (bare_children (fill_children false ks)) []) [])

frame-by : (o : Option Enclosure) (k : Frame) (ks : Children) (c : Context) → enclosure k ≡ o
    → spelled c (frame k ks) ≡ framed k o (children_own (bare_children (fill_children (needs_last_comma k ks) ks)) (e.behind_operands o [])) []
unfolding spelled
frame-by o k ks c h = ap (λ z. framed k z (children_own (bare_children (fill_children (needs_last_comma k ks) ks)) (e.behind_operands z [])) []) h

pub open-spelled : (c : Context) (k : Frame) (ks : Children) → enclosure k ≡ None → spelled c (frame k ks) ≡ frame_own k [] ++ children_spelled (needs_last_comma k ks) ks
unfolding children_spelled
open-spelled c k ks h = frame-by None k ks c h ∙ frame_append k (children_own (bare_children (fill_children (needs_last_comma k ks) ks)) [])

pub closed-spelled : (c : Context) (k : Frame) (ks : Children) (x : Enclosure) → enclosure k ≡ Some x
    → spelled c (frame k ks) ≡ x.head ++ own_parts.enclosed x.delimiter (children_spelled (needs_last_comma k ks) ks ++ x.ending) []
unfolding children_spelled
closed-spelled c k ks x h =
    frame-by (Some x) k ks c h
    ∙ ap (λ l. x.head ++ own_parts.enclosed x.delimiter l []) (children_append (bare_children (fill_children (needs_last_comma k ks) ks)) x.ending)

-- guards where none may stand are not spelled, and have no summaries

pub strays-spelled : (last : Bool) (gs : List Tree) (ks : Children) → children_spelled last (strays gs ks) ≡ children_spelled last ks
unfolding children_spelled
strays-spelled last [] ks = refl
strays-spelled last (g ∷ gs) ks = strays-spelled last gs ks

-- Statement position: what is printed there is led by no `let` and no macro that would be a statement by itself, and what
-- was read there is printed as it is.
use Rattle.std.specs.Prelude.{not}
use Rattle.std.proofs.Common.{◌≡◌, Bool, true, false, List, Some, refl, ap, sym, ◌∙◌, subst}
use Rattle.std.proofs.lemmas.Bool.{not-true}
use Rattle.syn_tokens.specs.Tok.{Tok}
use Rattle.syn_lower_spec.specs.Tree.{AttributeTree}
use Rattle.syn_lower_spec.specs.Mark.{semi}
use Rattle.syn_lower_spec.specs.Part.{outer_attributes}
use Rattle.syn_expr_spec.specs.declared.kinds.Precedence.{Precedence}
use Rattle.syn_expr_spec.specs.declared.kinds.Precedence.TheVariants as lev
use Rattle.syn_expr_spec.specs.declared.next.Next.{Next}
use Rattle.syn_expr_spec.specs.declared.next.Next.TheVariants as next
use Rattle.syn_expr_spec.specs.declared.next.Edge.TheVariants as edge
use Rattle.syn_expr_spec.specs.declared.next.Context.{Context}
use Rattle.syn_expr_spec.specs.Place.{at_head}
use Rattle.syn_expr_spec.specs.Path.{invisible_at}
use Rattle.syn_expr_spec.specs.Next.{class_of, next_of, enclosed, in_statement, in_arm}
use Rattle.syn_expr_spec.specs.Head.{let_word}
use Rattle.syn_expr_spec.specs.Tree as e
use Rattle.syn_expr_spec.specs.Tree.{Tree, leaf, paren, attributed, prefixed, infixed, postfixed, tail, frame, postfix_op, fill}
use Rattle.syn_expr_spec.specs.Stands.{Stands}
use Rattle.syn_expr_spec.specs.Rule.{printed, place_asks, put, bare}
use Rattle.syn_expr_spec.specs.Printed.{plainly_attributed}
use Rattle.syn_expr_spec.proofs.Kept.{kept_in}
use Rattle.syn_expr_spec.proofs.NoneRedundant.{proper}
use Rattle.syn_expr_spec.proofs.Obeys.{Obeys}
use Rattle.syn_expr_spec.proofs.Parenthesized.{plain_stays}
use Rattle.syn_expr_spec.proofs.Shown.{shown}
use Rattle.syn_expr_spec.proofs.ShownFronts.{front_end}
use Rattle.syn_expr_spec.proofs.ShownParts.{agrees_arm}
use Rattle.syn_expr_spec.proofs.ShownTypes.{open_types}
use Rattle.syn_expr_spec.proofs.StoodFilled.{stood_filled}
use Rattle.syn_stmt_spec.specs.Spells.{macro_stmt_at, may_end}
use Rattle.syn_stmt_spec.proofs.Leads.{free, ending_led}

-- the head of a match arm and of a statement, and below it on the left
abbrev arm : Bool → Bool → Next → Context
arm true d n = record { condition = d; edge = edge.BelowArm; next = n }
arm false d n = record { condition = d; edge = edge.Arm; next = n }

abbrev pub state : Bool → Bool → Next → Context
state true d n = record { condition = d; edge = edge.BelowStatement; next = n }
state false d n = record { condition = d; edge = edge.Statement; next = n }

-- What obeys the rules of a statement is led by none of these.
pub leads_free : (t : Tree) (v : Precedence) (b d : Bool) (n : Next) → Obeys v (state b d n) t → free b t ≡ true
leads_free (leaf (e.mac y)) v true d n h = ap not h
leads_free (leaf (e.mac y)) v false d n h = refl
leads_free (leaf k) v b d n h = refl
leads_free (attributed a more t) v true d n h = leads_free t v true d n h.1
leads_free (attributed a more t) v false d n h = leads_free t v false d n h.1
leads_free (prefixed (e.let_expr p) gs t) v true d n h = absurd (let r : true ≡ false = h.0 in cc)
leads_free (prefixed (e.let_expr p) gs t) v false d n h = absurd (let r : true ≡ false = h.0 in cc)
leads_free (prefixed k gs t) v b d n h = refl
leads_free (infixed x k y) v true d n h = leads_free x v true d (class_of k) h.1
leads_free (infixed x k y) v false d n h = leads_free x v true d (class_of k) h.1
leads_free (postfixed x k) v true d n h = leads_free x v true d (class_of (postfix_op k)) h.1
leads_free (postfixed x k) v false d n h = leads_free x v true d (class_of (postfix_op k)) h.1
leads_free (tail x e.call ks) v true d n h = leads_free x v true d next.Parenthesis h.1
leads_free (tail x e.call ks) v false d n h = leads_free x v true d next.Parenthesis h.1
leads_free (tail x e.index ks) v true d n h = leads_free x v true d next.Bracket h.1
leads_free (tail x e.index ks) v false d n h = leads_free x v true d next.Bracket h.1
leads_free (tail x k ks) v true d n h = leads_free x v false d (next_of k) h.1
leads_free (tail x k ks) v false d n h = leads_free x v false d (next_of k) h.1
leads_free (paren m t) v b d n h = refl
leads_free (frame k ks) v b d n h = refl

-- Led by none of these, what obeys the rules of an arm's body obeys those of a statement.
stated : (t : Tree) (v : Precedence) (b d : Bool) (n : Next) → Obeys v (arm b d n) t → free b t ≡ true → Obeys v (state b d n) t
stated (leaf (e.mac y)) v true d n h f = not-true _ f
stated (leaf (e.mac y)) v false d n h f = refl
stated (leaf k) v true d n h f = h
stated (leaf k) v false d n h f = h
stated (attributed a more t) v true d n h f = (h.0, stated t v true d n h.1 f)
stated (attributed a more t) v false d n h f = (h.0, stated t v false d n h.1 f)
stated (prefixed (e.let_expr p) gs t) v b d n h f = absurd cc
stated (prefixed k gs t) v true d n h f = (refl, h.1, h.2, h.3)
stated (prefixed k gs t) v false d n h f = (refl, h.1, h.2, h.3)
stated (infixed x k y) v true d n h f = (h.0, stated x v true d (class_of k) h.1 f, h.2, h.3, h.4)
stated (infixed x k y) v false d n h f = (h.0, stated x v true d (class_of k) h.1 f, h.2, h.3, h.4)
stated (postfixed x k) v true d n h f = (h.0, stated x v true d (class_of (postfix_op k)) h.1 f, h.2, h.3)
stated (postfixed x k) v false d n h f = (h.0, stated x v true d (class_of (postfix_op k)) h.1 f, h.2, h.3)
stated (tail x e.call ks) v true d n h f = (h.0, stated x v true d next.Parenthesis h.1 f, h.2)
stated (tail x e.call ks) v false d n h f = (h.0, stated x v true d next.Parenthesis h.1 f, h.2)
stated (tail x e.index ks) v true d n h f = (h.0, stated x v true d next.Bracket h.1 f, h.2)
stated (tail x e.index ks) v false d n h f = (h.0, stated x v true d next.Bracket h.1 f, h.2)
stated (tail x k ks) v true d n h f = (h.0, stated x v false d (next_of k) h.1 f, h.2)
stated (tail x k ks) v false d n h f = (h.0, stated x v false d (next_of k) h.1 f, h.2)
stated (paren m t) v b d n h f = h
stated (frame (e.structure q w c) ks) v true d n h f = h
stated (frame (e.structure q w c) ks) v false d n h f = h
stated (frame k ks) v true d n h f = h
stated (frame k ks) v false d n h f = h

-- What was read in statement position, behind no invisible group, obeys the rules there,
pub head_obeys : (l m n : List Tok) (t : Tree) (ats : List AttributeTree) → outer_attributes.behind ats l ≡ Some m → invisible_at m ≡ false → let_word.at m ≡ false → macro_stmt_at m ≡ false
    → Stands at_head l t n → may_end t (semi.at n) n ≡ true → plainly_attributed t ≡ true → Obeys lev.Jump in_statement t
head_obeys l m n t ats a v w u s g p =
    let d = ending_led at_head ats l m n t a s g in
    let q = shown open_types s.node refl in_arm agrees_arm (front_end n) (refl, refl) in
    stated t lev.Jump false false next.End (subst (λ z. Obeys lev.Jump in_arm z) (plain_stays t p) q) (d.back false v w u (λ b. absurd cc))

-- and is printed as it is.
pub head_own : (l m n : List Tok) (t : Tree) (ats : List AttributeTree) → outer_attributes.behind ats l ≡ Some m → invisible_at m ≡ false → let_word.at m ≡ false → macro_stmt_at m ≡ false
    → Stands at_head l t n → may_end t (semi.at n) n ≡ true → plainly_attributed t ≡ true → printed in_statement t ≡ t
head_own l m n t ats a v w u s g p =
    let r = head_obeys l m n t ats a v w u s g p in
    ap (λ z. put (place_asks lev.Jump in_statement z) (bare enclosed z) (bare in_statement z)) (stood_filled s.node)
    ∙ kept_in t in_statement (proper s.node) (subst (λ z. Obeys lev.Jump in_statement z) (sym (plain_stays t p)) r) ∙ plain_stays t p

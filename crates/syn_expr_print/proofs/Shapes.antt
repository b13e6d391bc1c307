-- What is printed of a node of each shape in plain position, by what is printed of its operands.
use Rattle.std.specs.Prelude.{Option, Some, None, is_some, Result, Ok, Err}
use Rattle.std.proofs.Common.{◌≡◌, Bool, true, false, List, [], ◌++◌, OnOk, refl, sym, ap, ◌∙◌, append_assoc}
use Rattle.std.proofs.Math.Bool.{or-false}
use Rattle.syn_lexer.specs.declared.front.Delimiter.TheVariants as del
use Rattle.syn_tokens.specs.Tok.{Tok}
use Rattle.syn_lower_spec.specs.Tree.{AttributeTree}
use Rattle.syn_lower_spec.specs.Own as own_parts
use Rattle.syn_lower_spec.specs.PatOwn.{attributes_own}
use Rattle.syn_expr_spec.specs.declared.kinds.Infix.{Infix}
use Rattle.syn_expr_spec.specs.declared.kinds.Limits.{Limits}
use Rattle.syn_expr_spec.specs.declared.next.Context.{Context}
use Rattle.syn_expr_spec.specs.Next.{enclosed, base_context, prefix_context, left_context, right_context}
use Rattle.syn_expr_spec.specs.Summaries.{summary_of, children_below, base_by, prefix_by, left_by, place_by}
use Rattle.syn_expr_spec.specs.Op.{level}
use Rattle.syn_expr_spec.specs.Tree as e
use Rattle.syn_expr_spec.specs.Tree.{Tree, Children, Enclosure, attributed_with, outers, leaf_own, prefix_own, infix_own, postfix_own, postfix_op, trailer_own, frame_own, enclosure}
use Rattle.syn_expr_ast.specs.Label.{prefix_kind, trailer_kind}
use Rattle.syn_expr_ast.specs.declared.label.PrefixKind.{PrefixKind}
use Rattle.syn_expr_ast.specs.declared.label.TrailerKind.{TrailerKind}
use Rattle.syn_expr_fixup.specs.Below.{operands_below}
use Rattle.syn_expr_fixup.proofs.Nodes.{based_below}
use Rattle.syn_pat.specs.View.{PatView}
use Rattle.syn_expr_ast.specs.Node.{OperandTrees, framed, frame_of, frame_guards, operand_children}
use Rattle.syn_expr_ast.specs.Pats.{strays, ArmView}
use Rattle.syn_expr_ast.specs.declared.node.Frame.{Frame}
use Rattle.syn_expr_ast.specs.declared.node.Frame.TheVariants as frame
use Rattle.syn_expr_print.specs.Framed.{framed_own, in_enclosure}
use Rattle.syn_expr_print.specs.Placed.{needs_last, has_comma}
use Rattle.syn_expr_ast.specs.Printed.{whole}
use Rattle.syn_expr_print.specs.Printing.{spelled, spelled_in, children_spelled}
use Rattle.syn_expr_print.proofs.Children.{none-spelled, value-spelled}
use Rattle.syn_expr_print.proofs.Rounds.{last-seen}
use Rattle.syn_expr_print.proofs.Spellings.{leaf-spelled, paren-spelled, prefixed-spelled, infixed-spelled, postfixed-spelled, tail-spelled, open-spelled, closed-spelled, strays-spelled}
use Rattle.syn_expr_print.proofs.Attributing.{whole-bare, behind-plain}

-- ---- leaves, and operands at the ends

pub paren-text : (t : Tree) → spelled enclosed (e.paren false t) ≡ own_parts.enclosed del.Parenthesis (whole enclosed t) []
paren-text t = paren-spelled enclosed false t ∙ ap (λ z. own_parts.enclosed del.Parenthesis z []) (sym (whole-bare t))

pub range-text : (op : Limits) → spelled enclosed (e.leaf (e.full_range op)) ≡ leaf_own (e.full_range op) []
range-text op = leaf-spelled enclosed (e.full_range op)

pub prefixed-written : {U X : Type 0} (r : Result U X) (q : PrefixKind) (k : e.Prefix) (gs : Children) (u : Tree) (t0 t1 t2 : List Tok) → prefix_kind k ≡ q → t1 ≡ t0 ++ prefix_own k []
    → ((k : e.Prefix) → prefix_kind k ≡ q → OnOk r (t2 ≡ t1 ++ spelled_in (prefix_by k (prefix_context k enclosed) (summary_of u)) (prefix_context k enclosed) u))
    → OnOk r (t2 ≡ t0 ++ spelled enclosed (e.prefixed k gs u))
prefixed-written r q k gs u t0 t1 t2 h p g = by r (g k h)
  where
    z : List Tok
    z = spelled_in (prefix_by k (prefix_context k enclosed) (summary_of u)) (prefix_context k enclosed) u

    by : {U X : Type 0} (r : Result U X) → OnOk r (t2 ≡ t1 ++ z) → OnOk r (t2 ≡ t0 ++ spelled enclosed (e.prefixed k gs u))
    by (Ok x) y = y ∙ ap (λ w. w ++ z) p ∙ append_assoc t0 (prefix_own k []) z ∙ ap (λ w. t0 ++ w) (sym (prefixed-spelled enclosed k gs u))
    by (Err x) y = y

pub infixed-written : {U X : Type 0} (r : Result U X) (q k : Infix) (x y : Tree) (t0 t1 t2 t3 sign : List Tok) → q ≡ k
    → t1 ≡ t0 ++ spelled_in (left_by q (left_context q enclosed) (summary_of x)) (left_context q enclosed) x → sign ≡ infix_own k [] → t2 ≡ t1 ++ sign
    → OnOk r (t3 ≡ t2 ++ spelled_in (place_by (level q) (right_context q enclosed) (summary_of y)) (right_context q enclosed) y)
    → OnOk r (t3 ≡ t0 ++ spelled enclosed (e.infixed x k y))
infixed-written r q k x y t0 t1 t2 t3 sign h p i g j = by r j
  where
    a : Infix → List Tok
    a z = spelled_in (left_by z (left_context z enclosed) (summary_of x)) (left_context z enclosed) x

    b : Infix → List Tok
    b z = spelled_in (place_by (level z) (right_context z enclosed) (summary_of y)) (right_context z enclosed) y

    by : {U X : Type 0} (r : Result U X) → OnOk r (t3 ≡ t2 ++ b q) → OnOk r (t3 ≡ t0 ++ spelled enclosed (e.infixed x k y))
    by (Ok v) w =
        w ∙ ap (λ z. t2 ++ b z) h ∙ ap (λ l. l ++ b k) (g ∙ ap (λ l. t1 ++ l) i ∙ ap (λ l. l ++ infix_own k []) (p ∙ ap (λ z. t0 ++ a z) h))
        ∙ append_assoc (t0 ++ a k) (infix_own k []) (b k) ∙ append_assoc t0 (a k) (infix_own k [] ++ b k) ∙ ap (λ l. t0 ++ l) (sym (infixed-spelled enclosed x k y))
    by (Err v) w = w

pub postfixed-written : (q : Infix) (k : e.Postfix) (x : Tree) (t0 t1 t2 end : List Tok) → postfix_op k ≡ q
    → t1 ≡ t0 ++ spelled_in (left_by q (left_context q enclosed) (summary_of x)) (left_context q enclosed) x → end ≡ postfix_own k [] → t2 ≡ t1 ++ end
    → t2 ≡ t0 ++ spelled enclosed (e.postfixed x k)
postfixed-written q k x t0 t1 t2 end h p i g =
    let a = λ (z : Infix). spelled_in (left_by z (left_context z enclosed) (summary_of x)) (left_context z enclosed) x in
    g ∙ ap (λ l. t1 ++ l) i ∙ ap (λ l. l ++ postfix_own k []) (p ∙ ap (λ z. t0 ++ a z) (sym h))
    ∙ append_assoc t0 (a (postfix_op k)) (postfix_own k []) ∙ ap (λ l. t0 ++ l) (sym (postfixed-spelled enclosed x k))

pub ruleset parens = (paren-text)

pub ruleset ranges = (range-text)

pub ruleset prefixes = (prefixed-written)

pub ruleset infixes = (infixed-written)

pub ruleset postfixes = (postfixed-written)

-- ---- trailers

pub tail-written : (q : TrailerKind) (k : e.Trailer) (b : Tree) (ks : Children) (t0 t1 t2 : List Tok) → trailer_kind k ≡ q
    → ((k : e.Trailer) → trailer_kind k ≡ q → t1 ≡ t0 ++ spelled_in (base_by k (base_context k enclosed) (summary_of b)) (base_context k enclosed) b)
    → t2 ≡ t1 ++ trailer_own k (children_spelled false ks) [] → t2 ≡ t0 ++ spelled enclosed (e.tail b k ks)
tail-written q k b ks t0 t1 t2 h p g =
    let y = trailer_own k (children_spelled false ks) [] in
    let z = spelled_in (base_by k (base_context k enclosed) (summary_of b)) (base_context k enclosed) b in
    g ∙ ap (λ w. w ++ y) (p k h) ∙ append_assoc t0 z y ∙ ap (λ w. t0 ++ w) (sym (tail-spelled enclosed b k ks))

-- with what the trailer holds
pub held-written : (q : TrailerKind) (k : e.Trailer) (b : Tree) (ks : Children) (t0 t1 t2 end held : List Tok) → trailer_kind k ≡ q
    → ((k : e.Trailer) → trailer_kind k ≡ q → t1 ≡ t0 ++ spelled_in (base_by k (base_context k enclosed) (summary_of b)) (base_context k enclosed) b)
    → held ≡ children_spelled false ks → end ≡ trailer_own k held [] → t2 ≡ t1 ++ end → t2 ≡ t0 ++ spelled enclosed (e.tail b k ks)
held-written q k b ks t0 t1 t2 end held h p i d g =
    tail-written q k b ks t0 t1 t2 h p (g ∙ ap (λ l. t1 ++ l) (d ∙ ap (λ l. trailer_own k l []) i))

-- where the context is known to be that of plain position
pub held-at : (d : Context) (q : TrailerKind) (k : e.Trailer) (b : Tree) (ks : Children) (t0 t1 t2 end held : List Tok) → d ≡ enclosed → trailer_kind k ≡ q
    → ((k : e.Trailer) → trailer_kind k ≡ q → t1 ≡ t0 ++ spelled_in (base_by k (base_context k d) (summary_of b)) (base_context k d) b)
    → held ≡ children_spelled false ks → end ≡ trailer_own k held [] → t2 ≡ t1 ++ end → t2 ≡ t0 ++ spelled enclosed (e.tail b k ks)
held-at d q k b ks t0 t1 t2 end held s h p i w g =
    held-written q k b ks t0 t1 t2 end held h (λ j l. p j l ∙ ap (λ z. t0 ++ spelled_in (base_by j (base_context j z) (summary_of b)) (base_context j z) b) s) i w g

pub nothing-held : (l : List Tok) → l ≡ [] → l ≡ children_spelled false e.none
nothing-held l h = h ∙ sym (none-spelled false)

pub index-held : (d : Context) (t : Tree) (h0 h1 : List Tok) → d ≡ enclosed → h0 ≡ [] → h1 ≡ h0 ++ whole d t → h1 ≡ children_spelled false (e.child e.value e.no_ending t e.none)
index-held d t h0 h1 s n g = g ∙ ap (λ l. l ++ whole d t) n ∙ ap (λ z. whole z t) s ∙ sym (value-spelled false t)

pub ruleset calls = (based_below)

-- ---- operands in places of their own

pub below-framed : (o : OperandTrees) → o ≡ framed (operand_children o) → operands_below o ≡ children_below (operand_children o)
below-framed o h = ap operands_below h

pub ruleset placed = (below-framed)

module _ {P : Type 0} (pat : P → PatView) where
  -- without a delimiter no comma is needed after the last
  last-open : (k : Frame P) (ks : Children) → is_some (enclosure (frame_of pat k)) ≡ false → needs_last (frame_of pat k) (e.is_one ks) ≡ false
  last-open (frame.Array t) ks h = refl
  last-open (frame.Tuple t) ks h = absurd cc
  last-open (frame.Repeat t) ks h = refl
  last-open (frame.Struct q p t dots) ks h = absurd cc
  last-open (frame.Closure x) ks h = refl
  last-open (frame.If t) ks h = refl
  last-open (frame.While label t) ks h = refl
  last-open (frame.ForLoop label t p u) ks h = refl
  last-open (frame.Match t u) ks h = refl
  last-open (frame.Group t) ks h = refl

  pub closed-text : (ats : List AttributeTree) (k : Frame P) (ks : Children) (b : Bool) → is_some (enclosure (frame_of pat k)) ≡ true → b ≡ needs_last (frame_of pat k) (e.is_one ks)
      → whole enclosed (attributed_with ats (e.frame (frame_of pat k) (strays (frame_guards pat k) ks))) ≡ attributes_own (outers ats) [] ++ framed_own (frame_of pat k) (children_spelled b ks)
  closed-text ats k ks b h m =
      behind-plain ats (e.frame (frame_of pat k) all) refl ∙ ap (λ l. attributes_own (outers ats) [] ++ l) (by (enclosure (frame_of pat k)) refl h)
    where
      all : Children
      all = strays (frame_guards pat k) ks

      by : (o : Option Enclosure) → enclosure (frame_of pat k) ≡ o → is_some o ≡ true → spelled enclosed (e.frame (frame_of pat k) all) ≡ framed_own (frame_of pat k) (children_spelled b ks)
      by None i h = absurd cc
      by (Some x) i h =
          closed-spelled enclosed (frame_of pat k) all x i
          ∙ ap (λ w. in_enclosure (Some x) (children_spelled w all)) (last-seen pat k ks ∙ sym m)
          ∙ ap (λ l. in_enclosure (Some x) l) (strays-spelled b (frame_guards pat k) ks)
          ∙ ap (λ o. in_enclosure o (children_spelled b ks)) (sym i)

  pub open-text : (ats : List AttributeTree) (k : Frame P) (ks : Children) → is_some (enclosure (frame_of pat k)) ≡ false
      → whole enclosed (attributed_with ats (e.frame (frame_of pat k) (strays (frame_guards pat k) ks))) ≡ attributes_own (outers ats) [] ++ (frame_own (frame_of pat k) [] ++ children_spelled false ks)
  open-text ats k ks h =
      behind-plain ats (e.frame (frame_of pat k) all) refl ∙ ap (λ l. attributes_own (outers ats) [] ++ l) (by (enclosure (frame_of pat k)) refl h)
    where
      all : Children
      all = strays (frame_guards pat k) ks

      by : (o : Option Enclosure) → enclosure (frame_of pat k) ≡ o → is_some o ≡ false → spelled enclosed (e.frame (frame_of pat k) all) ≡ frame_own (frame_of pat k) [] ++ children_spelled false ks
      by (Some x) i g = absurd cc
      by None i g =
          open-spelled enclosed (frame_of pat k) all i
          ∙ ap (λ w. frame_own (frame_of pat k) [] ++ children_spelled w all) (last-seen pat k ks ∙ last-open k ks h)
          ∙ ap (λ l. frame_own (frame_of pat k) [] ++ l) (strays-spelled false (frame_guards pat k) ks)

  pub closed-written : (ats : List AttributeTree) (k : Frame P) (ks : Children) (b : Bool) (i0 i1 t0 t1 t2 : List Tok) → is_some (enclosure (frame_of pat k)) ≡ true
      → b ≡ needs_last (frame_of pat k) (e.is_one ks) → i0 ≡ [] → i1 ≡ i0 ++ children_spelled b ks → t1 ≡ t0 ++ attributes_own (outers ats) [] → t2 ≡ t1 ++ framed_own (frame_of pat k) i1
      → t2 ≡ t0 ++ whole enclosed (attributed_with ats (e.frame (frame_of pat k) (strays (frame_guards pat k) ks)))
  closed-written ats k ks b i0 i1 t0 t1 t2 h m n i p g =
      let x = λ (l : List Tok). framed_own (frame_of pat k) l in
      let j = i ∙ ap (λ l. l ++ children_spelled b ks) n in
      g ∙ ap (λ l. t1 ++ x l) j ∙ ap (λ l. l ++ x (children_spelled b ks)) p ∙ append_assoc t0 (attributes_own (outers ats) []) (x (children_spelled b ks))
      ∙ ap (λ l. t0 ++ l) (sym (closed-text ats k ks b h m))

  pub open-written : (ats : List AttributeTree) (k : Frame P) (ks : Children) (t0 t1 t2 t3 : List Tok) → is_some (enclosure (frame_of pat k)) ≡ false
      → t1 ≡ t0 ++ attributes_own (outers ats) [] → t2 ≡ t1 ++ frame_own (frame_of pat k) [] → t3 ≡ t2 ++ children_spelled false ks
      → t3 ≡ t0 ++ whole enclosed (attributed_with ats (e.frame (frame_of pat k) (strays (frame_guards pat k) ks)))
  open-written ats k ks t0 t1 t2 t3 h p i g =
      let a = attributes_own (outers ats) [] in
      let x = frame_own (frame_of pat k) [] in
      let y = children_spelled false ks in
      g ∙ ap (λ l. l ++ y) (i ∙ ap (λ l. l ++ x) p) ∙ append_assoc (t0 ++ a) x y ∙ append_assoc t0 a (x ++ y) ∙ ap (λ l. t0 ++ l) (sym (open-text ats k ks h))

-- ---- an arm after which no other follows

pub comma-own : (x : ArmView) → has_comma x false ≡ x.comma
comma-own x = or-false x.comma

pub ruleset arms = (comma-own)

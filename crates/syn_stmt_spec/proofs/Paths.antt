-- A path that takes no arguments is read in an expression as it is in the call of a macro.
use Rattle.std.specs.Prelude.{◌&&◌}
use Rattle.std.proofs.Common.{◌≡◌, ℕ, zero, suc, ◌<◌, Bool, true, false, cond, List, [], ◌∷◌, drop, Some, None, refl, ap, sym, ◌∙◌, subst, arith}
use Rattle.syn_lexer.specs.declared.front.Delimiter.TheVariants as del
use Rattle.syn_lexer.specs.declared.front.Spacing.{Spacing}
use Rattle.syn_lexer.specs.declared.front.Spacing.TheVariants as spacing
use Rattle.syn_tokens.specs.Tok.{Tok, Inside, ident, punct, literal, group, weight}
use Rattle.syn_lower_spec.specs.declared.label.PathStyle.{PathStyle}
use Rattle.syn_lower_spec.specs.declared.label.PathStyle.TheVariants as style
use Rattle.syn_lower_spec.specs.Text.{Text, is_segment, stands_alone}
use Rattle.syn_lower_spec.specs.Tree as tree
use Rattle.syn_lower_spec.specs.Tree.{PathTree, SegmentTree, ArgumentsTree}
use Rattle.syn_lower_spec.specs.Form.{Outcome, and_then, both, prepend, flag}
use Rattle.syn_lower_spec.specs.Mark.{sign_at, colon2, less, lt}
use Rattle.syn_lower_spec.specs.Part as part
use Rattle.syn_lower_spec.specs.Part.{QPathTree, has_none, segments_bare, segment, segment_name, no_arguments, arguments, turbofish_at, angle, angle_bracketed, pieces, path, qualified, qpath, type}
use Rattle.std.proofs.lemmas.Bool.{and_parts}
use Rattle.syn_lower_spec.proofs.Ends.{sign_first}
use Rattle.syn_lower_spec.proofs.Forms.{Alike, bind_some}
use Rattle.syn_lower_spec.proofs.Marks.{colon2_present}
use Rattle.syn_lower_spec.proofs.Parts.{whole_segment_alike, whole_path_alike}
use Rattle.syn_lower_spec.proofs.Weights.{some_is}
use Rattle.syn_expr_spec.specs.Path.{invisible_at, expr_path}
use Rattle.syn_expr_spec.proofs.GroupForms.{invisible_is, plain_path}
use Rattle.syn_expr_spec.proofs.Needs.{heads}
use Rattle.syn_stmt_spec.proofs.Items.{others_of, several_of, others, opened, segment_is}

-- ---- segments

-- where no arguments follow
expr_segment : (w : Text) (l : List Tok) → turbofish_at l ≡ false
    → (segment type style.Expr).reads (ident w ∷ l) ≡ cond (is_segment w) (Some (record { ident = w; arguments = tree.no_arguments }, l)) None
unfolding segment segment_name no_arguments arguments
expr_segment w l t = go (is_segment w) refl (stands_alone w) refl
  where
    go : (b : Bool) → is_segment w ≡ b → (c : Bool) → stands_alone w ≡ c → (segment type style.Expr).reads (ident w ∷ l) ≡ cond b (Some (record { ident = w; arguments = tree.no_arguments }, l)) None
    go true e true d = rw (e, d) refl
    go true e false d = rw (e, d, t) refl
    go false e c d = rw e refl

-- a segment begins with no `<`
no_less : (l : List Tok) (p : SegmentTree × List Tok) → (segment type style.Mod).reads l ≡ Some p → lt.at l ≡ false
unfolding segment segment_name sign_at
no_less (ident w ∷ l) p h = refl
no_less [] p h = absurd cc
no_less (punct c s ∷ l) p h = absurd cc
no_less (literal w ∷ l) p h = absurd cc
no_less (group d i ∷ l) p h = absurd cc

no_turbofish : (l : List Tok) (q : List SegmentTree × List Tok) → others.reads l ≡ Some q → turbofish_at l ≡ false
unfolding turbofish_at
no_turbofish l q h = go (colon2.at l) refl
  where
    go : (b : Bool) → colon2.at l ≡ b → colon2.at l && lt.at (drop 2 l) ≡ false
    go false e = rw e refl
    go true e =
        let (t, f, u) = bind_some ((both (segment type style.Mod) others).reads (drop 2 l)) (λ y n. Some (prepend y, n)) q (sym (opened style.Mod l true e) ∙ h) in
        let (v, g, z) = bind_some ((segment type style.Mod).reads (drop 2 l)) (λ y o. and_then (others.reads o) (λ x n. Some ((y, x), n))) t f in
        rw (e, no_less (drop 2 l) v g) refl

same_segment : (l : List Tok) (p : SegmentTree × List Tok) (q : List SegmentTree × List Tok) → (segment type style.Mod).reads l ≡ Some p → others.reads p.1 ≡ Some q → (segment type style.Expr).reads l ≡ Some p
unfolding segment segment_name
same_segment (ident w ∷ l) p q h g = by_word (is_segment w) refl (sym (segment_is w l) ∙ h)
  where
    by_word : (b : Bool) → is_segment w ≡ b → cond b (Some (record { ident = w; arguments = tree.no_arguments }, l)) None ≡ Some p → (segment type style.Expr).reads (ident w ∷ l) ≡ Some p
    by_word true e k =
        let f : p.1 ≡ l = ap (λ (y : SegmentTree × List Tok). y.1) (sym (some_is k)) in
        expr_segment w l (no_turbofish l q (ap (λ y. others.reads y) (sym f) ∙ g)) ∙ rw e k
    by_word false e k = absurd cc
same_segment [] p q h g = absurd cc
same_segment (punct c s ∷ l) p q h g = absurd cc
same_segment (literal w ∷ l) p q h g = absurd cc
same_segment (group d i ∷ l) p q h g = absurd cc

-- ---- paths

abbrev SameOthers : ℕ → Type 0
SameOthers k = (l : List Tok) (q : List SegmentTree × List Tok) → weight l < k → others.reads l ≡ Some q → (others_of style.Expr).reads l ≡ Some q

same_several : (k : ℕ) → SameOthers k → (l : List Tok) (q : List SegmentTree × List Tok) → weight l < k → (several_of style.Mod).reads l ≡ Some q → (several_of style.Expr).reads l ≡ Some q
same_several k again l q b h =
    let (t, f, u) = bind_some ((both (segment type style.Mod) others).reads l) (λ y n. Some (prepend y, n)) q h in
    let (v, g, z) = bind_some ((segment type style.Mod).reads l) (λ y o. and_then (others.reads o) (λ x n. Some ((y, x), n))) t f in
    let (x, c, a) = bind_some (others.reads v.1) (λ y n. Some ((v.0, y), n)) t z in
    let w : Alike 0 (segment type style.Mod) (segment type style.Mod) = whole_segment_alike style.Mod in
    let d = w.falls l v.0 v.1 g in
    let i : (several_of style.Expr).reads l ≡ Some (v.0 ∷ x.0, x.1) = rw (same_segment l v x g c, again v.1 x (omega (arith, d, b)) c) refl in
    i ∙ ap (λ (o : Outcome (SegmentTree × List SegmentTree)). and_then o (λ y n. Some (prepend y, n))) a ∙ u

same_others : (k : ℕ) → SameOthers k
same_others zero l q b h = absurd (omega (arith, b))
same_others (suc k) l q b h = go (same_others k) (colon2.at l) refl
  where
    go : SameOthers k → (t : Bool) → colon2.at l ≡ t → (others_of style.Expr).reads l ≡ Some q
    go again true e =
        opened style.Expr l true e
        ∙ same_several k again (drop 2 l) q (omega (arith, colon2_present.present l e, b)) (sym (opened style.Mod l true e) ∙ h)
    go again false e = opened style.Expr l false e ∙ sym (opened style.Mod l false e) ∙ h

all_same : (l : List Tok) (q : List SegmentTree × List Tok) → (several_of style.Mod).reads l ≡ Some q → (several_of style.Expr).reads l ≡ Some q
all_same l q h = same_several (suc (weight l)) (same_others (suc (weight l))) l q (omega arith) h

path_of : (z : PathStyle) (l : List Tok) (s : Bool × List Tok) (t : List SegmentTree × List Tok) → (flag colon2).reads l ≡ Some s → (several_of z).reads s.1 ≡ Some t → (path type z).reads l ≡ Some (part.to_path (s.0, t.0), t.1)
unfolding path pieces
path_of z l s t d f = rw (d, f) refl

pub same_path : (l : List Tok) (p : PathTree × List Tok) → (path type style.Mod).reads l ≡ Some p → (path type style.Expr).reads l ≡ Some p
unfolding path pieces
same_path l p h =
    let (q, e, j) = bind_some ((both (flag colon2) (several_of style.Mod)).reads l) (λ x n. Some (part.to_path x, n)) p h in
    let (s, d, k) = bind_some ((flag colon2).reads l) (λ y m. and_then ((several_of style.Mod).reads m) (λ z n. Some ((y, z), n))) q e in
    let (t, f, u) = bind_some ((several_of style.Mod).reads s.1) (λ y n. Some ((s.0, y), n)) q k in
    path_of style.Expr l s t d (all_same s.1 t f) ∙ ap (λ (o : Outcome (Bool × List SegmentTree)). and_then o (λ x n. Some (part.to_path x, n))) u ∙ j

-- no such path begins with `<`, nor with an invisible group
less_none : (s : Spacing) (l : List Tok) → (path type style.Mod).reads (punct 60 s ∷ l) ≡ None
unfolding path pieces segment segment_name sign_at
less_none spacing.Alone l = refl
less_none spacing.Joint l = refl

group_none : (i : Inside) (l : List Tok) → (path type style.Mod).reads (group del.None i ∷ l) ≡ None
unfolding path pieces segment segment_name sign_at
group_none i l = refl

path_no_less : (l : List Tok) (p : PathTree × List Tok) → (path type style.Mod).reads l ≡ Some p → less.at l ≡ false
path_no_less l p h = go (less.at l) refl
  where
    at_sign : (s : Spacing) (m : List Tok) → (path type style.Mod).reads (punct 60 s ∷ m) ≡ Some p → ⊥
    at_sign s m i = let k = less_none s m in absurd cc

    go : (b : Bool) → less.at l ≡ b → b ≡ false
    go false e = refl
    go true e = absurd (sign_first 60 [] (λ m. (path type style.Mod).reads m ≡ Some p → ⊥) at_sign l e h)

pub path_not_hidden : (l : List Tok) (p : PathTree × List Tok) → (path type style.Mod).reads l ≡ Some p → invisible_at l ≡ false
path_not_hidden l p h = go (invisible_at l) refl
  where
    go : (b : Bool) → invisible_at l ≡ b → b ≡ false
    go false e = refl
    go true e = let (i, m, f) = invisible_is l e in absurd (let k : None ≡ Some p = sym (ap (λ z. (path type style.Mod).reads z) f ∙ group_none i m) ∙ h in cc)

-- the path of an expression that begins with the path of a macro is this path
pub expr_path_is : (braces : Bool) (q : QPathTree) (l n : List Tok) (p : PathTree × List Tok) → (expr_path braces).behind q l ≡ Some n → (path type style.Mod).reads l ≡ Some p
    → (q ≡ (tree.no_qself, p.0)) × (n ≡ p.1)
unfolding qpath
expr_path_is braces q l n p h g =
    let a = heads.qpaths.found l q n (plain_path braces q l n (path_not_hidden l p g) h) in
    let b : (qpath type style.Expr).reads l ≡ Some ((tree.no_qself, p.0), p.1) = rw (path_no_less l p g, same_path l p g) refl in
    let c = some_is (sym a ∙ b) in
    (ap (λ (z : QPathTree × List Tok). z.0) c, ap (λ (z : QPathTree × List Tok). z.1) c)

-- ---- and the other way: a path of an expression that has no arguments is that of a macro

expr_alone : (w : Text) (l : List Tok) → stands_alone w ≡ true
    → (segment type style.Expr).reads (ident w ∷ l) ≡ cond (is_segment w) (Some (record { ident = w; arguments = tree.no_arguments }, l)) None
unfolding segment segment_name no_arguments arguments
expr_alone w l t = go (is_segment w) refl
  where
    go : (b : Bool) → is_segment w ≡ b → (segment type style.Expr).reads (ident w ∷ l) ≡ cond b (Some (record { ident = w; arguments = tree.no_arguments }, l)) None
    go true e = rw (e, t) refl
    go false e = rw e refl

angle_some : (l : List Tok) (z : ArgumentsTree × List Tok) → (angle_bracketed type).reads l ≡ Some z → has_none z.0 ≡ false
unfolding angle_bracketed
angle_some l z h =
    let (x, e, j) = bind_some ((both (flag colon2) (angle type)).reads l) (λ x n. Some (part.to_angle x, n)) z h in
    subst (λ (y : ArgumentsTree × List Tok). has_none y.0 ≡ false) (some_is j) refl

angle_segment : (w : Text) (l : List Tok) (p : SegmentTree × List Tok) → stands_alone w ≡ false → turbofish_at l ≡ true → (segment type style.Expr).reads (ident w ∷ l) ≡ Some p → has_none p.0.arguments ≡ false
unfolding segment segment_name arguments
angle_segment w l p a t h = go (is_segment w) refl
  where
    after : and_then (and_then ((angle_bracketed type).reads l) (λ y n. Some ((w, y), n))) (λ x n. Some (part.to_segment x, n)) ≡ Some p → has_none p.0.arguments ≡ false
    after k =
        let (q, e, j) = bind_some (and_then ((angle_bracketed type).reads l) (λ y n. Some ((w, y), n))) (λ x n. Some (part.to_segment x, n)) p k in
        let (z, f, u) = bind_some ((angle_bracketed type).reads l) (λ y n. Some ((w, y), n)) q e in
        let g = angle_some l z f in
        subst (λ (y : SegmentTree × List Tok). has_none y.0.arguments ≡ false) (some_is j)
        (subst (λ (y : (Text × ArgumentsTree) × List Tok). has_none y.0.1 ≡ false) (some_is u) g)

    go : (b : Bool) → is_segment w ≡ b → has_none p.0.arguments ≡ false
    go true e = after (rw (e, a, t) at h)
    go false e = absurd (let k : None ≡ Some p = rw e at h in cc)

mod_segment : (l : List Tok) (p : SegmentTree × List Tok) → (segment type style.Expr).reads l ≡ Some p → has_none p.0.arguments ≡ true → (segment type style.Mod).reads l ≡ Some p
unfolding segment segment_name
mod_segment (ident w ∷ l) p h k = by_word (stands_alone w) refl (turbofish_at l) refl
  where
    by_word : (b : Bool) → stands_alone w ≡ b → (c : Bool) → turbofish_at l ≡ c → (segment type style.Mod).reads (ident w ∷ l) ≡ Some p
    by_word true e c d = segment_is w l ∙ sym (expr_alone w l e) ∙ h
    by_word false e false d = segment_is w l ∙ sym (expr_segment w l d) ∙ h
    by_word false e true d = absurd (let f : false ≡ true = sym (angle_segment w l p e d h) ∙ k in cc)
mod_segment [] p h k = absurd cc
mod_segment (punct c s ∷ l) p h k = absurd cc
mod_segment (literal w ∷ l) p h k = absurd cc
mod_segment (group d i ∷ l) p h k = absurd cc

abbrev ModOthers : ℕ → Type 0
ModOthers k = (l : List Tok) (q : List SegmentTree × List Tok) → weight l < k → (others_of style.Expr).reads l ≡ Some q → segments_bare q.0 ≡ true → others.reads l ≡ Some q

mod_several : (k : ℕ) → ModOthers k → (l : List Tok) (q : List SegmentTree × List Tok) → weight l < k → (several_of style.Expr).reads l ≡ Some q → segments_bare q.0 ≡ true → (several_of style.Mod).reads l ≡ Some q
mod_several k again l q b h bare =
    let (t, f, u) = bind_some ((both (segment type style.Expr) (others_of style.Expr)).reads l) (λ y n. Some (prepend y, n)) q h in
    let (v, g, z) = bind_some ((segment type style.Expr).reads l) (λ y o. and_then ((others_of style.Expr).reads o) (λ x n. Some ((y, x), n))) t f in
    let (x, c, a) = bind_some ((others_of style.Expr).reads v.1) (λ y n. Some ((v.0, y), n)) t z in
    let w : Alike 0 (segment type style.Expr) (segment type style.Expr) = whole_segment_alike style.Expr in
    let d = w.falls l v.0 v.1 g in
    let i : segments_bare (v.0 ∷ x.0) ≡ true =
    subst (λ (y : (SegmentTree × List SegmentTree) × List Tok). segments_bare (prepend y.0) ≡ true) (sym (some_is a)) (subst (λ (y : List SegmentTree × List Tok). segments_bare y.0 ≡ true) (sym (some_is u)) bare) in
    let (m, n) = and_parts (has_none v.0.arguments) (segments_bare x.0) i in
    let r : (several_of style.Mod).reads l ≡ Some (v.0 ∷ x.0, x.1) = rw (mod_segment l v g m, again v.1 x (omega (arith, d, b)) c n) refl in
    r ∙ ap (λ (o : Outcome (SegmentTree × List SegmentTree)). and_then o (λ y n. Some (prepend y, n))) a ∙ u

mod_others : (k : ℕ) → ModOthers k
mod_others zero l q b h bare = absurd (omega (arith, b))
mod_others (suc k) l q b h bare = go (mod_others k) (colon2.at l) refl
  where
    go : ModOthers k → (t : Bool) → colon2.at l ≡ t → others.reads l ≡ Some q
    go again true e =
        opened style.Mod l true e
        ∙ mod_several k again (drop 2 l) q (omega (arith, colon2_present.present l e, b)) (sym (opened style.Expr l true e) ∙ h) bare
    go again false e = opened style.Mod l false e ∙ sym (opened style.Expr l false e) ∙ h

mod_path : (l : List Tok) (p : PathTree × List Tok) → (path type style.Expr).reads l ≡ Some p → segments_bare p.0.segments ≡ true → (path type style.Mod).reads l ≡ Some p
unfolding path pieces
mod_path l p h bare =
    let (q, e, j) = bind_some ((both (flag colon2) (several_of style.Expr)).reads l) (λ x n. Some (part.to_path x, n)) p h in
    let (s, d, k) = bind_some ((flag colon2).reads l) (λ y m. and_then ((several_of style.Expr).reads m) (λ z n. Some ((y, z), n))) q e in
    let (t, f, u) = bind_some ((several_of style.Expr).reads s.1) (λ y n. Some ((s.0, y), n)) q k in
    let i : segments_bare t.0 ≡ true =
    subst (λ (y : (Bool × List SegmentTree) × List Tok). segments_bare y.0.1 ≡ true) (sym (some_is u)) (subst (λ (y : PathTree × List Tok). segments_bare y.0.segments ≡ true) (sym (some_is j)) bare) in
    path_of style.Mod l s t d (mod_several (suc (weight s.1)) (mod_others (suc (weight s.1))) s.1 t (omega arith) f i) ∙ ap (λ (o : Outcome (Bool × List SegmentTree)). and_then o (λ x n. Some (part.to_path x, n))) u ∙ j

-- a path without arguments that stands there, and in no invisible group
pub path_there : (braces : Bool) (p : PathTree) (l n : List Tok) → invisible_at l ≡ false → segments_bare p.segments ≡ true → (expr_path braces).behind (tree.no_qself, p) l ≡ Some n → (path type style.Mod).reads l ≡ Some (p, n)
unfolding qpath qualified
path_there braces p l n v bare h = mod_path l (p, n) (by_less (less.at l) refl (plain_path braces (tree.no_qself, p) l n v h)) bare
  where
    by_less : (b : Bool) → less.at l ≡ b → (qpath type style.Expr).behind (tree.no_qself, p) l ≡ Some n → (path type style.Expr).reads l ≡ Some (p, n)
    by_less true e g = absurd (let k : None ≡ Some n = rw e at g in cc)
    by_less false e g =
        let a : Alike 0 (path type style.Expr) (path type style.Expr) = whole_path_alike style.Expr in
        a.complete l p n (rw e at g)

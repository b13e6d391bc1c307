-- An arm is read exactly where it is.
use Rattle.std.proofs.Common.{◌≡◌, suc, Bool, true, false, cond, List, [], ◌∷◌, drop, Some, None, refl, ap, subst, ◌∙◌, arith}
use Rattle.syn_tokens.specs.Tok.{Tok, weight}
use Rattle.syn_lower_spec.specs.Tree.{AttributeTree}
use Rattle.syn_lower_spec.specs.Pat.{PatTree, guarded}
use Rattle.syn_lower_spec.proofs.Weights.{some_is}
use Rattle.syn_expr_spec.specs.Place.{plain, at_head}
use Rattle.syn_expr_spec.specs.Tree as e
use Rattle.syn_expr_spec.specs.Tree.{Tree, Children, Ending, Piece}
use Rattle.syn_expr_spec.specs.Slot as slot
use Rattle.syn_expr_spec.specs.Slot.{behind_arm, fat_arrow, piece_form}
use Rattle.syn_expr_spec.specs.Stands.{Stands, Operands}
use Rattle.syn_expr_spec.specs.Read.{expr, bare_operands}
use Rattle.syn_expr_spec.proofs.Chains.{then_some}
use Rattle.syn_expr_spec.proofs.Needs.{heads}
use Rattle.syn_expr_spec.proofs.Exact.{expr_sound, expr_complete}
use Rattle.syn_expr_spec.proofs.Sound.{bare_sound}
use Rattle.syn_expr_spec.proofs.ReadOperands.{bare_read}
use Rattle.syn_expr_ast.specs.Pats.{ArmView}
use Rattle.syn_expr_parse.specs.Arms.{ArmStands, without_guard, with_guard}
use Rattle.syn_expr_parse.specs.Parts.{arm_body, arm_behind, is_comma, one_arm}

abbrev view : List AttributeTree → PatTree → List Tree → Tree → Ending → ArmView
view ats p gs x c = record { attrs = ats; pat = record { tree = p; guards = gs }; body = x; comma = is_comma c }

body_at : (ats : List AttributeTree) (p : PatTree) (gs : List Tree) (l : List Tok) (q : ArmView × List Tok) → arm_body ats p gs l ≡ Some q
    → (x : Tree) × (h : List Tok) × (c : Ending) × Stands at_head l x h × (behind_arm x h ≡ Some (c, q.1)) × (view ats p gs x c ≡ q.0)
unfolding arm_body
body_at ats p gs l q e =
    let (x, i, f) = then_some (expr at_head l) _ q e in
    let (c, j, g) = then_some (behind_arm x.0 x.1) _ q f in
    (x.0, x.1, c.0, expr_sound at_head l x.0 x.1 i, j ∙ ap (λ (r : ArmView × List Tok). Some (c.0, r.1)) (some_is g), ap (λ (r : ArmView × List Tok). r.0) (some_is g))

arrow : (l : List Tok) (k : Piece × List Tok) → (piece_form slot.bodies).reads l ≡ Some k → (fat_arrow.at l ≡ true) × (drop fat_arrow.count l ≡ k.1)
unfolding piece_form
arrow l k h = by_arrow (fat_arrow.at l) refl
  where
    by_arrow : (b : Bool) → fat_arrow.at l ≡ b → (fat_arrow.at l ≡ true) × (drop fat_arrow.count l ≡ k.1)
    by_arrow true a = let y : Some (e.guarded, drop 2 l) ≡ Some k = subst (λ (b : Bool). (cond b (Some (e.guarded, drop 2 l)) None) ≡ Some k) a h in (a, ap (λ (r : Piece × List Tok). r.1) (some_is y))
    by_arrow false a = let y : None ≡ Some k = subst (λ (b : Bool). (cond b (Some (e.guarded, drop 2 l)) None) ≡ Some k) a h in absurd cc

pieces_sound : (k : Piece) (l m : List Tok) (q : ArmView × List Tok) → (piece_form slot.arms).behind k l ≡ Some m → arm_behind k m ≡ Some q → ArmStands l q.0 q.1
pieces_sound (e.guard ats p) l m q b h =
    let (g, i, f) = then_some (expr plain m) _ q h in
    let (k, j, y) = then_some ((piece_form slot.bodies).reads g.1) _ q f in
    let a = arrow g.1 k j in
    let z : arm_body ats (guarded p) (g.0 ∷ []) (drop fat_arrow.count g.1) ≡ Some q = ap (λ n. arm_body ats (guarded p) (g.0 ∷ []) n) a.1 ∙ y in
    let (x, t, c, s, d, w) = body_at ats (guarded p) (g.0 ∷ []) (drop fat_arrow.count g.1) q z in
    subst (λ (v : ArmView). ArmStands l v q.1) w (with_guard b (expr_sound plain m g.0 g.1 i) a.0 s d)
pieces_sound (e.arm ats p) l m q b h =
    let (x, t, c, s, d, w) = body_at ats p [] m q h in
    subst (λ (v : ArmView). ArmStands l v q.1) w (without_guard b s d)
pieces_sound _ l m q b h = absurd cc

pub arm_sound : (l : List Tok) (a : ArmView) (n : List Tok) → one_arm l ≡ Some (a, n) → ArmStands l a n
unfolding one_arm
arm_sound l a n h =
    let (k, i, f) = then_some ((piece_form slot.arms).reads l) arm_behind (a, n) h in
    let q = heads.pieces slot.arms in
    pieces_sound k.0 l k.1 (a, n) (q.sound l k.0 k.1 i) f

pub arm_complete : (l : List Tok) (a : ArmView) (n : List Tok) → ArmStands l a n → one_arm l ≡ Some (a, n)
unfolding one_arm arm_body piece_form
arm_complete l _ n (without_guard {m = m} {h = h} {ats = ats} {p = p} {x = x} {c = c} b s d) =
    let q = heads.pieces slot.arms in rw (q.found l (e.arm ats p) m b, expr_complete at_head m x h s, d) refl
arm_complete l _ n (with_guard {m = m} {i = i} {h = h} {ats = ats} {p = p} {g = g} {x = x} {c = c} b t a s d) =
    let q = heads.pieces slot.arms in rw (q.found l (e.guard ats p) m b, expr_complete plain m g i t, a, expr_complete at_head (drop 2 i) x h s, d) refl

-- ---- arms to the end

pub arms_sound : (l : List Tok) (ks : Children) (n : List Tok) → bare_operands expr slot.arms l ≡ Some (ks, n) → Operands slot.arms l ks n
arms_sound l ks n h = bare_sound heads expr expr_sound slot.arms l (ks, n) h

pub arms_complete : (l : List Tok) (ks : Children) (n : List Tok) → Operands slot.arms l ks n → bare_operands expr slot.arms l ≡ Some (ks, n)
arms_complete l ks n d = bare_read expr (suc (weight l)) (λ p m o x f s. expr_complete p m x o s) slot.arms l n ks d (omega arith)

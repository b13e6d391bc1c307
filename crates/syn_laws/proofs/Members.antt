-- The equality of what holds both expressions and patterns, by that of both: of its parts, as the types of the cycle have them.
use Rattle.std.proofs.Common.{◌≡◌, Bool, true, List, [], ◌∷◌, ◌++◌, Option, refl, ap}
use Rattle.syn_tokens.specs.Tok.{Tok}
use Rattle.syn_lower_spec.specs.Text.{Text}
use Rattle.syn_lower_spec.specs.Tree.{AttributeTree, LifetimesTree, ReturnTree, default, given}
use Rattle.syn_lower_spec.specs.Pat.{PatTree}
use Rattle.syn_expr_spec.specs.Tree as e
use Rattle.syn_expr_spec.specs.Tree.{Tree, Body, ClosureHead, prefixed, frame, none, child}
use Rattle.syn_expr_ast.specs.Pats.{ArmView, strays, closure_by, arms}
use Rattle.syn_expr_ast.specs.View.{body_of}
use Rattle.syn_lower_leaves.proofs.Ties.{pair_path}
use Rattle.syn_laws.proofs.Shapes.{is_core}
use Rattle.syn_laws.proofs.Children.{strays_once, closure_once, arms_once}

-- ---- the parts of each, and what a tree is made of them

abbrev pub ClosureParts : Type 0
ClosureParts = Option LifetimesTree × ((Bool × Bool) × (Bool × (Bool × (Bool × ((List PatTree × (List Tree × Bool)) × (ReturnTree × Tree))))))

abbrev pub closure_head : ClosureParts → ClosureHead
closure_head p = record {
  lifetimes = p.0;
  constness = p.1.1.0;
  movability = p.1.0.0;
  asyncness = p.1.1.1.0;
  capture = p.1.1.1.1.0;
  usage = p.1.0.1;
  inputs = p.1.1.1.1.1.0.0;
  trailing = p.1.1.1.1.1.0.1.1;
  output = p.1.1.1.1.1.1.0;
}

abbrev pub closure_with : ClosureParts → Tree
closure_with p = closure_by p.1.1.1.1.1.1.0 (closure_head p) p.1.1.1.1.1.0.1.0 p.1.1.1.1.1.1.1

pub closure_core : (p : ClosureParts) → is_core (closure_with p) ≡ true
closure_core p = by p.1.1.1.1.1.1.0
  where
    by : (o : ReturnTree) → is_core (closure_by o (closure_head p) p.1.1.1.1.1.0.1.0 p.1.1.1.1.1.1.1) ≡ true
    by default = refl
    by (given x) = refl

pub closure_parts_once : (p q : ClosureParts) → closure_with p ≡ closure_with q → p ≡ q
closure_parts_once p q h =
    let r = closure_once p.1.1.1.1.1.1.0 q.1.1.1.1.1.1.0 (closure_head p) (closure_head q) p.1.1.1.1.1.0.1.0 q.1.1.1.1.1.0.1.0 p.1.1.1.1.1.1.1 q.1.1.1.1.1.1.1 h in
    let k = r.0 in
    pair_path (ap (λ (c : ClosureHead). c.lifetimes) k) (pair_path (pair_path (ap (λ (c : ClosureHead). c.movability) k) (ap (λ (c : ClosureHead). c.usage) k))
    (pair_path (ap (λ (c : ClosureHead). c.constness) k) (pair_path (ap (λ (c : ClosureHead). c.asyncness) k) (pair_path (ap (λ (c : ClosureHead). c.capture) k)
    (pair_path (pair_path (ap (λ (c : ClosureHead). c.inputs) k) (pair_path r.1.0 (ap (λ (c : ClosureHead). c.trailing) k))) (pair_path (ap (λ (c : ClosureHead). c.output) k) r.1.1))))))

abbrev pub LoopParts : Type 0
LoopParts = Option Text × ((PatTree × List Tree) × (Tree × List Tok))

abbrev pub loop_with : List AttributeTree → LoopParts → Tree
loop_with a p = frame (e.for_loop p.0 p.1.0.0) (strays p.1.0.1 (child e.loop_head (e.braced (body_of a p.1.1.1)) p.1.1.0 none))

pub loop_once : (a b : List AttributeTree) (p q : LoopParts) → loop_with a p ≡ loop_with b q → (a ≡ b) × (p ≡ q)
loop_once a b p q h =
    let k : strays p.1.0.1 (child e.loop_head (e.braced (body_of a p.1.1.1)) p.1.1.0 none) ≡ strays q.1.0.1 (child e.loop_head (e.braced (body_of b q.1.1.1)) q.1.1.0 none) = cc in
    let r = strays_once p.1.0.1 q.1.0.1 (child e.loop_head (e.braced (body_of a p.1.1.1)) p.1.1.0 none) (child e.loop_head (e.braced (body_of b q.1.1.1)) q.1.1.0 none) refl refl k in
    let m = r.1 in let n : body_of a p.1.1.1 ≡ body_of b q.1.1.1 = cc in (ap (λ (x : Body). x.inner) n, pair_path (cc) (pair_path (pair_path (cc) r.0) (pair_path (cc) (ap (λ (x : Body). x.tokens) n))))

abbrev pub LetParts : Type 0
LetParts = (PatTree × List Tree) × Tree

abbrev pub let_with : LetParts → Tree
let_with p = prefixed (e.let_expr p.0.0) (strays p.0.1 none) p.1

pub let_once : (p q : LetParts) → let_with p ≡ let_with q → p ≡ q
let_once p q h = let k : strays p.0.1 none ≡ strays q.0.1 none = cc in pair_path (pair_path (cc) ((strays_once p.0.1 q.0.1 none none refl refl k).0)) (cc)

abbrev pub match_with : List AttributeTree → Tree × List ArmView → Tree
match_with a p = frame e.match_expr (child e.scrutinee (e.opened a) p.0 (arms p.1))

pub match_once : (a b : List AttributeTree) (p q : Tree × List ArmView) → match_with a p ≡ match_with b q → (a ≡ b) × (p ≡ q)
match_once a b p q h = let k : arms p.1 ≡ arms q.1 = cc in (cc, pair_path (cc) (arms_once p.1 q.1 k))

-- the guards of a pattern and one after them
pub last_once : (gs hs : List Tree) (g h : Tree) → gs ++ g ∷ [] ≡ hs ++ h ∷ [] → (gs ≡ hs) × (g ≡ h)
last_once [] [] g h k = (refl, cc)
last_once [] (b ∷ []) g h k = absurd cc
last_once [] (b ∷ c ∷ hs) g h k = absurd cc
last_once (a ∷ []) [] g h k = absurd cc
last_once (a ∷ c ∷ gs) [] g h k = absurd cc
last_once (a ∷ gs) (b ∷ hs) g h k = let r = last_once gs hs g h (cc) in let p : gs ≡ hs = r.0 in let q : a ≡ b = cc in (cc, r.1)

-- What a query about the first tokens answers of a node, by its kind and by its parts.
use Rattle.std.proofs.Common.{◌≡◌, Bool, true, false, ◌&&◌, List, ◌∷◌, Some, None, refl, sym, ap, ◌∙◌}
use Rattle.syn_tokens.specs.Tok.{Tok}
use Rattle.syn_lower_spec.specs.Tree.{AttributeTree}
use Rattle.syn_expr_spec.specs.Query.{tree_leads, verbatim_leads}
use Rattle.syn_expr_spec.specs.Tree as e
use Rattle.syn_expr_spec.specs.Tree.{Tree, leaf, paren, attributed, outers, prefixed, infixed, postfixed, tail, frame}
use Rattle.syn_expr_ast.specs.Label.{kind_at}
use Rattle.syn_lower_spec.specs.Form.{is_nil}
use Rattle.syn_expr_ast.specs.Node.{attributes_at, operands_at, first_of}
use Rattle.syn_expr_classify.specs.Frames.{bare_holds, frames_hold}
use Rattle.syn_expr_classify.specs.Node.{is_labelled, word_behind, asked, verbatim_at, is_braced_call}
use Rattle.syn_expr_classify.specs.Framed.{bare_framed}
use Rattle.syn_expr_ast.proofs.Borrowed.{first-based}
use Rattle.syn_expr_spec.specs.Binding.{is_braced_macro}

-- after outer attributes none is first
pub leads-attributed : (w : Bool) (t : Tree) → is_nil (outers (attributes_at t)) ≡ false → false ≡ tree_leads w t
leads-attributed w (leaf k) h = absurd cc
leads-attributed w (paren m t) h = absurd cc
leads-attributed w (attributed a more t) h = sym (ap (λ b. b && tree_leads w t) h)
leads-attributed w (prefixed k gs t) h = absurd cc
leads-attributed w (infixed x k y) h = absurd cc
leads-attributed w (postfixed x k) h = absurd cc
leads-attributed w (tail b k ks) h = absurd cc
leads-attributed w (frame k ks) h = absurd cc

none_before : (t : Tree) → bare_holds t ≡ true → is_nil (outers (attributes_at t)) ≡ true
none_before (attributed a more t) h = absurd cc
none_before (leaf k) h = refl
none_before (paren m t) h = refl
none_before (prefixed k gs t) h = refl
none_before (infixed x k y) h = refl
none_before (postfixed x k) h = refl
none_before (tail b k ks) h = refl
none_before (frame k ks) h = refl

-- after inner ones that which comes after them is
behind : (w : Bool) (a : AttributeTree) (more : List AttributeTree) (t : Tree) → is_nil (outers (a ∷ more)) ≡ true → tree_leads w t ≡ tree_leads w (attributed a more t)
behind w a more t h = sym (ap (λ b. b && tree_leads w t) h)

-- that of the operand with which it begins
pub leads-first : (w v : Bool) (t : Tree) → is_nil (outers (attributes_at t)) ≡ true → frames_hold t ≡ true → word_behind (kind_at t) ≡ Some v → asked (tree_leads v) (first_of (operands_at t)) ≡ tree_leads w t
leads-first w v (leaf k) h f g = absurd cc
leads-first w v (paren m t) h f g = absurd cc
leads-first w v (attributed a more t) h f g = leads-first w v t (none_before t f) (bare_framed t f) g ∙ behind w a more t h
leads-first w v (prefixed k gs t) h f g = absurd cc
leads-first w v (infixed x k y) h f g = cc
leads-first w v (postfixed x (e.cast ty)) h f g = cc
leads-first w v (postfixed x (e.range_from op)) h f g = cc
leads-first w v (tail b k ks) h f g = rw (first-based b ks) cc
leads-first w v (frame k ks) h f g = absurd cc

-- verbatim tokens
pub leads-verbatim : (w : Bool) (ts : List Tok) (t : Tree) → is_nil (outers (attributes_at t)) ≡ true → frames_hold t ≡ true → verbatim_at t ≡ Some ts → verbatim_leads w ts ≡ tree_leads w t
leads-verbatim w ts (leaf (e.verbatim us)) h f g = cc
leads-verbatim w ts (attributed a more t) h f g = leads-verbatim w ts t (none_before t f) (bare_framed t f) g ∙ behind w a more t h
leads-verbatim w ts t h f g = absurd cc

-- any other is labelled or not by its kind
pub leads-kind : (w : Bool) (t : Tree) → is_nil (outers (attributes_at t)) ≡ true → frames_hold t ≡ true → word_behind (kind_at t) ≡ None → verbatim_at t ≡ None → is_labelled (kind_at t) ≡ tree_leads w t
leads-kind w (leaf (e.verbatim us)) h f g n = absurd cc
leads-kind w (leaf (e.bare_jump e.returning)) h f g n = refl
leads-kind w (leaf (e.block None b)) h f g n = refl
leads-kind w (leaf (e.loop_expr None b)) h f g n = refl
leads-kind w (attributed a more t) h f g n = leads-kind w t (none_before t f) (bare_framed t f) g n ∙ behind w a more t h
leads-kind w (infixed x k y) h f g n = absurd cc
leads-kind w (postfixed x k) h f g n = absurd cc
leads-kind w (tail b k ks) h f g n = absurd cc
leads-kind w (frame e.array ks) h f g n = refl
leads-kind w (frame (e.while_loop None) ks) h f g n = refl
leads-kind w (frame (e.for_loop None p) ks) h f g n = refl
leads-kind w t h f g n = refl

pub ruleset labels = (leads-attributed, leads-first, leads-verbatim, leads-kind)

-- ---- an expression is the call of a macro with braces by its kind

pub braced-kind : (t : Tree) → is_braced_macro t ≡ is_braced_call (kind_at t)
braced-kind (e.leaf (e.lit x)) = refl
braced-kind (e.leaf (e.bare_jump e.returning)) = refl
braced-kind (e.attributed a more t) = braced-kind t
braced-kind t = refl

pub ruleset likes = (braced-kind)

-- The tokens of frames and those after a left operand are read back from their own tokens.
use Rattle.std.proofs.Common.{◌≡◌, ℕ, Bool, true, false, List, [], ◌∷◌, ◌++◌, drop, length, Option, Some, None, refl, sym, codes}
use Rattle.syn_lexer.specs.Keywords.{is_reserved_word}
use Rattle.syn_lexer.specs.declared.front.Delimiter.TheVariants as del
use Rattle.syn_tokens.specs.Tok.{Tok, ident}
use Rattle.syn_tokens.specs.Front.{group_at}
use Rattle.syn_lower_spec.specs.declared.label.PathStyle.TheVariants as style
use Rattle.syn_lower_spec.specs.Text.{Text, is_segment, is_truth, stands_alone}
use Rattle.syn_lower_spec.specs.Tree as t
use Rattle.syn_lower_spec.specs.Tree.{QSelfTree, PathTree}
use Rattle.syn_lower_spec.specs.Mark.{sign_at, word_at, round_at, brace_at, colon2, lifetime_at}
use Rattle.syn_lower_spec.specs.Own.{enclosed, type_own, qualified_own}
use Rattle.syn_lower_spec.specs.Fits.{type_stops, output_stops, qpath_fits}
use Rattle.syn_lower_spec.specs.Ends.{ends_patterns, ends_types}
use Rattle.syn_lower_spec.specs.Pat.{PatTree, SpellsPat, bound_at, vert}
use Rattle.syn_expr_spec.proofs.HeadLoops.{no_lifetimes}
use Rattle.syn_lower_spec.specs.PatOwn.{pat_own}
use Rattle.syn_lower_spec.specs.PatFits.{pat_fits, pat_stops}
use Rattle.syn_lower_spec.proofs.Appends.{type_append}
use Rattle.syn_lower_spec.proofs.Same.{both_true}
use Rattle.syn_lower_spec.proofs.Ends.{parts_end}
use Rattle.syn_lower_spec.proofs.PatWholeComplete.{patterns_read_back}
use Rattle.syn_lower_spec.proofs.Whole.{parts_read_back}
use Rattle.syn_expr_spec.specs.declared.kinds.Limits.TheVariants as limits
use Rattle.syn_expr_spec.specs.declared.kinds.BinKind.TheVariants as bin
use Rattle.syn_expr_spec.specs.declared.kinds.Infix.{Infix}
use Rattle.syn_expr_spec.specs.declared.kinds.Infix.TheVariants as inf
use Rattle.syn_expr_spec.specs.Path.{expr_path}
use Rattle.syn_expr_spec.specs.Op.{infix_at}
use Rattle.syn_expr_spec.specs.Slot.{frame_head, for_head}
use Rattle.syn_expr_spec.specs.Stands.{postfix_behind}
use Rattle.syn_expr_spec.specs.Tree as e
use Rattle.syn_expr_spec.specs.Tree.{Frame, Postfix, Enclosure, Children, framed, enclosure, infix_own, label_own}
use Rattle.syn_expr_spec.specs.WellFormed.{postfix_fits, frame_fits, head_fits}
use Rattle.syn_expr_spec.proofs.GroupForms.{path_stands}
use Rattle.syn_expr_spec.proofs.HeadBack.{label_stops, label_back, head_back}

-- ---- frames

-- after a closure's output nothing goes on with its type
abbrev pub frame_stops : Frame → List Tok → Bool
frame_stops (e.closure_block c) operands = output_stops true c.output operands
frame_stops k operands = true

-- after the tokens of a frame: its group, or its operands
abbrev pub frame_rest : Option Enclosure → List Tok → List Tok → List Tok
frame_rest None operands r = operands
frame_rest (Some i) operands r = enclosed i.delimiter operands r

no_colon2 : (operands r : List Tok) → colon2.at (enclosed del.Brace operands r) ≡ false
unfolding sign_at
no_colon2 operands r = refl

structure_back : (q : QSelfTree) (p : PathTree) (r operands : List Tok) → qpath_fits style.Expr (q, p) ≡ true
    → (expr_path true).behind (q, p) (qualified_own (q, p) [] ++ enclosed del.Brace operands r) ≡ Some (enclosed del.Brace operands r)
structure_back q p r operands f =
    let l = enclosed del.Brace operands r in
    let a = parts_end.paths_in_expressions (q, p) l f (no_colon2 operands r) in
    rw (sym (type_append (t.path q p.leading (t.segments_of p.segments) p.trailing) l)) (path_stands true (q, p) (qualified_own (q, p) l) l (parts_read_back.qualified_paths style.Expr (q, p) l f a))

no_lifetime : (w : Option Text) (v : Text) (l : List Tok) → label_stops w (ident v ∷ l) ≡ true
unfolding lifetime_at
no_lifetime None v l = refl
no_lifetime (Some w) v l = refl

while_back : (w : Option Text) (l : List Tok) → frame_head (e.while_loop w) (label_own w (ident (codes "while") ∷ l)) ≡ Some l
unfolding word_at
while_back w l = rw (label_back w (ident (codes "while") ∷ l) (no_lifetime w (codes "while") l)) refl

in_ends : (l : List Tok) → ends_patterns (ident (codes "in") ∷ l) ≡ true
unfolding ends_patterns ends_types bound_at is_segment stands_alone is_reserved_word is_truth sign_at round_at brace_at group_at
in_ends l = refl

in_no_vert : (l : List Tok) → vert.at (ident (codes "in") ∷ l) ≡ false
unfolding sign_at
in_no_vert l = refl

for_head_back : (p : PatTree) (l : List Tok) → pat_fits true p ≡ true → for_head.behind p (ident (codes "for") ∷ pat_own p (ident (codes "in") ∷ l)) ≡ Some l
unfolding word_at
for_head_back p l f =
    let a : pat_stops true p (ident (codes "in") ∷ l) ≡ true = parts_end.patterns true p (ident (codes "in") ∷ l) (in_ends l) (in_no_vert l) in
    let b : SpellsPat true (pat_own p (ident (codes "in") ∷ l)) p (ident (codes "in") ∷ l) = patterns_read_back.patterns true p (ident (codes "in") ∷ l) f a in
    rw (no_lifetimes p (pat_own p (ident (codes "in") ∷ l)) (ident (codes "in") ∷ l) b, b) refl

for_back : (w : Option Text) (p : PatTree) (l : List Tok) → pat_fits true p ≡ true → frame_head (e.for_loop w p) (label_own w (ident (codes "for") ∷ pat_own p (ident (codes "in") ∷ l))) ≡ Some l
for_back w p l f = rw (label_back w (ident (codes "for") ∷ pat_own p (ident (codes "in") ∷ l)) (no_lifetime w (codes "for") (pat_own p (ident (codes "in") ∷ l)))) (for_head_back p l f)

word_back : (l : List Tok) → (frame_head e.if_expr (ident (codes "if") ∷ l) ≡ Some l) × (frame_head e.match_expr (ident (codes "match") ∷ l) ≡ Some l)
unfolding word_at
word_back l = (refl, refl)

pub frame_back : (k : Frame) (ks : Children) (operands r : List Tok) → frame_fits k ks ≡ true → frame_stops k operands ≡ true → frame_head k (framed k (enclosure k) operands r) ≡ Some (frame_rest (enclosure k) operands r)
frame_back (e.structure q p d) ks o r f g = let (i, j) = both_true (qpath_fits style.Expr (q, p)) _ f in structure_back q p r o i
frame_back (e.closure_block c) ks o r f g = let (i, j) = both_true (head_fits c) _ f in head_back c o i g
frame_back e.if_expr ks o r f g = let (i, j) = word_back o in i
frame_back (e.while_loop w) ks o r f g = while_back w o
frame_back (e.for_loop w p) ks o r f g = for_back w p o f
frame_back e.match_expr ks o r f g = let (i, j) = word_back o in j
frame_back e.group_expr ks o r f g = absurd cc
frame_back _ ks o r f g = refl

-- ---- after a left operand

-- after an operator's own tokens
abbrev pub postfix_rest : Postfix → List Tok → List Tok
postfix_rest (e.cast x) r = type_own x r
postfix_rest (e.range_from op) r = r

abbrev pub postfix_ends : Postfix → List Tok → Bool
postfix_ends (e.cast x) r = type_stops false x r
postfix_ends (e.range_from op) r = true

pub postfix_back : (k : Postfix) (r : List Tok) → postfix_fits k ≡ true → postfix_ends k r ≡ true → postfix_behind k (postfix_rest k r) ≡ Some r
postfix_back (e.cast x) r f g = parts_read_back.types false x r f g
postfix_back (e.range_from op) r f g = refl

-- how many tokens an infix operator is
abbrev pub infix_count : Infix → ℕ
infix_count op = length (infix_own op [])

pub infix_back : (op : Infix) (r : List Tok) → (infix_at (infix_own op r) ≡ Some (op, infix_count op)) × (drop (infix_count op) (infix_own op r) ≡ r)
unfolding infix_at sign_at word_at
infix_back (inf.Range limits.HalfOpen) r = (refl, refl)
infix_back (inf.Binary bin.Add) r = (refl, refl)
infix_back _ r = (refl, refl)

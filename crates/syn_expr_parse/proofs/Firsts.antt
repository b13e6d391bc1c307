-- What is read of an operand, by what comes first.
use Rattle.std.proofs.Common.{◌≡◌, Bool, true, false, cond, List, drop, refl, ◌∙◌}
use Rattle.syn_tokens.specs.Tok.{Tok}
use Rattle.syn_lower_spec.specs.Mark.{round_at}
use Rattle.syn_lower_spec.specs.Form.{and_then}
use Rattle.syn_expr_spec.specs.declared.kinds.Place.{Place}
use Rattle.syn_expr_spec.specs.Place.{plain}
use Rattle.syn_expr_spec.specs.Front.{bracket_at}
use Rattle.syn_expr_spec.specs.Path.{invisible_at}
use Rattle.syn_expr_spec.specs.Slot.{if_word, match_word}
use Rattle.syn_expr_spec.specs.Tree as e
use Rattle.syn_expr_spec.specs.Head.{leaf_at}
use Rattle.syn_expr_spec.specs.Read as r
use Rattle.syn_expr_spec.specs.Read.{atom as atom_read, expr}
use Rattle.syn_expr_tokens.specs.Begins.{atom_of}
use Rattle.syn_expr_tokens.specs.declared.atom.Atom.TheVariants as atom
use Rattle.syn_expr_tokens.proofs.Choices.{atoms_are_chosen}
use Rattle.syn_expr_parse.specs.Led.{closed_leaf}
use Rattle.syn_expr_parse.proofs.Closed.{closed_leaf_is}
use Rattle.syn_expr_parse.specs.Groups.{named, group}
use Rattle.syn_expr_parse.proofs.Groups.{named_read_is, group_is}

-- ---- the tests that the choice tells

first : (a b c d e f g h i : Bool) → cond a atom.Leaf (cond b atom.Prefix (cond c atom.Parenthesis (cond d atom.Bracket (cond e atom.Become (cond f atom.If (cond g atom.Loop (cond h atom.Match (cond i atom.Group atom.Named)))))))) ≡ atom.Leaf → a ≡ true
first true b c d e f g h i j = refl
first false true c d e f g h i j = absurd cc
first false false true d e f g h i j = absurd cc
first false false false true e f g h i j = absurd cc
first false false false false true f g h i j = absurd cc
first false false false false false true g h i j = absurd cc
first false false false false false false true h i j = absurd cc
first false false false false false false false true i j = absurd cc
first false false false false false false false false true j = absurd cc
first false false false false false false false false false j = absurd cc

leaf-first : (l : List Tok) → atom_of l ≡ atom.Leaf → leaf_at l ≡ true
leaf-first l h = first (leaf_at l) (r.prefix_at l) (round_at l) (bracket_at l) (r.become_word.at l) (if_word.at l) (r.loop_head_at l) (match_word.at l) (invisible_at l) h

last : (a b c d e f g h i : Bool) → cond a atom.Leaf (cond b atom.Prefix (cond c atom.Parenthesis (cond d atom.Bracket (cond e atom.Become (cond f atom.If (cond g atom.Loop (cond h atom.Match (cond i atom.Group atom.Named)))))))) ≡ atom.Named → i ≡ false
last true b c d e f g h i j = absurd cc
last false true c d e f g h i j = absurd cc
last false false true d e f g h i j = absurd cc
last false false false true e f g h i j = absurd cc
last false false false false true f g h i j = absurd cc
last false false false false false true g h i j = absurd cc
last false false false false false false true h i j = absurd cc
last false false false false false false false true i j = absurd cc
last false false false false false false false false true j = absurd cc
last false false false false false false false false false j = refl

named-first : (l : List Tok) → atom_of l ≡ atom.Named → invisible_at l ≡ false
named-first l h = last (leaf_at l) (r.prefix_at l) (round_at l) (bracket_at l) (r.become_word.at l) (if_word.at l) (r.loop_head_at l) (match_word.at l) (invisible_at l) h

sixth : (a b c d e f g h i : Bool) → cond a atom.Leaf (cond b atom.Prefix (cond c atom.Parenthesis (cond d atom.Bracket (cond e atom.Become (cond f atom.If (cond g atom.Loop (cond h atom.Match (cond i atom.Group atom.Named)))))))) ≡ atom.If → f ≡ true
sixth true b c d e f g h i j = absurd cc
sixth false true c d e f g h i j = absurd cc
sixth false false true d e f g h i j = absurd cc
sixth false false false true e f g h i j = absurd cc
sixth false false false false true f g h i j = absurd cc
sixth false false false false false true g h i j = refl
sixth false false false false false false true h i j = absurd cc
sixth false false false false false false false true i j = absurd cc
sixth false false false false false false false false true j = absurd cc
sixth false false false false false false false false false j = absurd cc

pub if-first : (l : List Tok) → atom_of l ≡ atom.If → if_word.at l ≡ true
if-first l h = sixth (leaf_at l) (r.prefix_at l) (round_at l) (bracket_at l) (r.become_word.at l) (if_word.at l) (r.loop_head_at l) (match_word.at l) (invisible_at l) h

eighth : (a b c d e f g h i : Bool) → cond a atom.Leaf (cond b atom.Prefix (cond c atom.Parenthesis (cond d atom.Bracket (cond e atom.Become (cond f atom.If (cond g atom.Loop (cond h atom.Match (cond i atom.Group atom.Named)))))))) ≡ atom.Match → h ≡ true
eighth true b c d e f g h i j = absurd cc
eighth false true c d e f g h i j = absurd cc
eighth false false true d e f g h i j = absurd cc
eighth false false false true e f g h i j = absurd cc
eighth false false false false true f g h i j = absurd cc
eighth false false false false false true g h i j = absurd cc
eighth false false false false false false true h i j = absurd cc
eighth false false false false false false false true i j = refl
eighth false false false false false false false false true j = absurd cc
eighth false false false false false false false false false j = absurd cc

pub match-first : (l : List Tok) → atom_of l ≡ atom.Match → match_word.at l ≡ true
match-first l h = eighth (leaf_at l) (r.prefix_at l) (round_at l) (bracket_at l) (r.become_word.at l) (if_word.at l) (r.loop_head_at l) (match_word.at l) (invisible_at l) h

ninth : (a b c d e f g h i : Bool) → cond a atom.Leaf (cond b atom.Prefix (cond c atom.Parenthesis (cond d atom.Bracket (cond e atom.Become (cond f atom.If (cond g atom.Loop (cond h atom.Match (cond i atom.Group atom.Named)))))))) ≡ atom.Group → i ≡ true
ninth true b c d e f g h i j = absurd cc
ninth false true c d e f g h i j = absurd cc
ninth false false true d e f g h i j = absurd cc
ninth false false false true e f g h i j = absurd cc
ninth false false false false true f g h i j = absurd cc
ninth false false false false false true g h i j = absurd cc
ninth false false false false false false true h i j = absurd cc
ninth false false false false false false false true i j = absurd cc
ninth false false false false false false false false true j = refl
ninth false false false false false false false false false j = absurd cc

pub group-first : (l : List Tok) → atom_of l ≡ atom.Group → invisible_at l ≡ true
group-first l h = ninth (leaf_at l) (r.prefix_at l) (round_at l) (bracket_at l) (r.become_word.at l) (if_word.at l) (r.loop_head_at l) (match_word.at l) (invisible_at l) h

-- ---- what is read

pub first-leaf : (p : Place) (l : List Tok) → atom_of l ≡ atom.Leaf → atom_read expr p l ≡ closed_leaf p l
first-leaf p l h = atoms_are_chosen expr p l ∙ (rw h refl ∙ closed_leaf_is p l (leaf-first l h))

pub first-prefixed : (p : Place) (l : List Tok) → atom_of l ≡ atom.Prefix → atom_read expr p l ≡ r.prefix_read expr p l
first-prefixed p l h = atoms_are_chosen expr p l ∙ rw h refl

pub first-round : (p : Place) (l : List Tok) → atom_of l ≡ atom.Parenthesis → atom_read expr p l ≡ r.round_read expr l
first-round p l h = atoms_are_chosen expr p l ∙ rw h refl

pub first-bracket : (p : Place) (l : List Tok) → atom_of l ≡ atom.Bracket → atom_read expr p l ≡ r.bracket_read expr l
first-bracket p l h = atoms_are_chosen expr p l ∙ rw h refl

pub first-become : (p : Place) (l : List Tok) → atom_of l ≡ atom.Become → atom_read expr p l ≡ and_then (expr plain (drop 1 l)) (r.verbatim_from expr l)
first-become p l h = atoms_are_chosen expr p l ∙ rw h refl

pub first-if_expr : (p : Place) (l : List Tok) → atom_of l ≡ atom.If → atom_read expr p l ≡ r.framed_by expr p e.if_expr (drop 1 l)
first-if_expr p l h = atoms_are_chosen expr p l ∙ rw h refl

pub first-loop : (p : Place) (l : List Tok) → atom_of l ≡ atom.Loop → atom_read expr p l ≡ r.loop_read expr p l
first-loop p l h = atoms_are_chosen expr p l ∙ rw h refl

pub first-match_expr : (p : Place) (l : List Tok) → atom_of l ≡ atom.Match → atom_read expr p l ≡ r.framed_by expr p e.match_expr (drop 1 l)
first-match_expr p l h = atoms_are_chosen expr p l ∙ rw h refl

pub first-group : (p : Place) (l : List Tok) → atom_of l ≡ atom.Group → atom_read expr p l ≡ group p l
first-group p l h = atoms_are_chosen expr p l ∙ (rw h refl ∙ group_is p l (group-first l h))

pub first-named : (p : Place) (l : List Tok) → atom_of l ≡ atom.Named → atom_read expr p l ≡ named p l
first-named p l h = atoms_are_chosen expr p l ∙ (rw h refl ∙ named_read_is p l (named-first l h))

pub ruleset firsts = (first-leaf, first-prefixed, first-round, first-bracket, first-become, first-if_expr, first-loop, first-match_expr, first-group, first-named, if-first, match-first, group-first)

-- By what comes first which operand and which trailer is read, and what is read of each.
use Rattle.std.specs.Prelude.{◌≡◌, if◌then◌else◌, List, [], drop, None}
use Rattle.syn_tokens.specs.Tok.{Tok}
use Rattle.syn_lower_spec.specs.Mark.{round_at}
use Rattle.syn_expr_spec.specs.declared.kinds.Place.{Place}
use Rattle.syn_expr_spec.specs.Place.{plain}
use Rattle.syn_expr_spec.specs.Front.{bracket_at, question_at, dot_at}
use Rattle.syn_expr_spec.specs.Path.{invisible_at}
use Rattle.syn_expr_spec.specs.Tree as e
use Rattle.syn_expr_spec.specs.Tree.{Tree}
use Rattle.syn_expr_spec.specs.Head.{leaf_at}
use Rattle.syn_expr_spec.specs.Slot.{if_word, match_word}
use Rattle.syn_expr_spec.specs.Stands.{indices_at}
use Rattle.syn_expr_spec.specs.Read as r
use Rattle.syn_expr_spec.specs.Read.{Reading, ◌>>=◌}
use Rattle.syn_expr_tokens.specs.declared.atom.Atom.{Atom}
use Rattle.syn_expr_tokens.specs.declared.atom.Atom.TheVariants as atom
use Rattle.syn_expr_tokens.specs.declared.atom.TrailerStart.{TrailerStart}
use Rattle.syn_expr_tokens.specs.declared.atom.TrailerStart.TheVariants as trailer

-- ---- operands

abbrev pub worded : List Tok → Atom
worded l =
    if r.become_word.at l then atom.Become else
    (if if_word.at l then atom.If else
    (if r.loop_head_at l then atom.Loop else
    (if match_word.at l then atom.Match else
    (if invisible_at l then atom.Group else atom.Named))))

abbrev pub atom_of : List Tok → Atom
atom_of l =
    if leaf_at l then atom.Leaf else
    (if r.prefix_at l then atom.Prefix else
    (if round_at l then atom.Parenthesis else
    (if bracket_at l then atom.Bracket else worded l)))

-- what is read of each, by a reading of the expressions inside
abbrev pub atom_by : (Place → Reading Tree) → Place → Atom → Reading Tree
atom_by expr p atom.Leaf l = r.leaf_read p l
atom_by expr p atom.Prefix l = r.prefix_read expr p l
atom_by expr p atom.Parenthesis l = r.round_read expr l
atom_by expr p atom.Bracket l = r.bracket_read expr l
atom_by expr p atom.Become l = (expr plain >>= r.verbatim_from expr l) (drop 1 l)
atom_by expr p atom.If l = r.framed_by expr p e.if_expr (drop 1 l)
atom_by expr p atom.Loop l = r.loop_read expr p l
atom_by expr p atom.Match l = r.framed_by expr p e.match_expr (drop 1 l)
atom_by expr p atom.Group l = r.group_read expr p l
atom_by expr p atom.Named l = r.named_read expr p l

abbrev pub AtomsAreChosen : Type 0
AtomsAreChosen = (expr : Place → Reading Tree) (p : Place) (l : List Tok) → r.atom expr p l ≡ atom_by expr p (atom_of l) l

-- ---- trailers

abbrev pub trailer_of : List Tok → TrailerStart
trailer_of l =
    if round_at l then trailer.Call else
    (if bracket_at l then trailer.Index else
    (if question_at l then trailer.Question else
    (if dot_at l then trailer.Dot else trailer.Absent)))

-- what is read of each after an operand, by a reading of the expressions inside
abbrev pub trailer_by : (Place → Reading Tree) → Place → Tree → TrailerStart → Reading Tree
trailer_by expr p b trailer.Call l = r.trailed_by expr p b [] e.call l
trailer_by expr p b trailer.Index l = r.trailed_by expr p b [] e.index l
trailer_by expr p b trailer.Question l = r.trailed_by expr p b [] e.try_expr (drop 1 l)
trailer_by expr p b trailer.Dot l = r.dotted_by expr p b (indices_at (drop 1 l)) (drop 1 l)
trailer_by expr p b trailer.Absent l = None

abbrev pub TrailersAreChosen : Type 0
TrailersAreChosen = (expr : Place → Reading Tree) (p : Place) (b : Tree) (l : List Tok) → r.trailed expr p b l ≡ trailer_by expr p b (trailer_of l) l

-- The path of an expression. Its front may are in an invisible group, also in further ones: then the path goes on after
-- that (Rust Reference, "Paths in expressions").
use Rattle.std.specs.Prelude.{ℕ, Bool, false, not, ◌||◌, ◌&&◌, List, [], ◌∷◌, ◌++◌, drop, take, length, codes, Option, Some, None}
use Rattle.std.specs.Str.{bytes_eq}
use Rattle.syn_lexer.specs.declared.front.Delimiter.TheVariants as del
use Rattle.syn_tokens.specs.Tok.{Tok}
use Rattle.syn_tokens.specs.Front.{sees_group}
use Rattle.syn_lower_spec.specs.declared.label.PathStyle.TheVariants as style
use Rattle.syn_lower_spec.specs.Text.{Text}
use Rattle.syn_lower_spec.specs.Tree as t
use Rattle.syn_lower_spec.specs.Tree.{QSelfTree, PathTree, SegmentTree}
use Rattle.syn_lower_spec.specs.Form.{Form, Outcome, Test, never, when, by_size, then_by, shown, inside, fix, more}
use Rattle.syn_lower_spec.specs.Mark.{brace_at, colon2, not_ne}
use Rattle.syn_lower_spec.specs.Part.{QPathTree, has_none, is_bare, segment, qpath, type}

abbrev pub is_sole : Text → List SegmentTree → Bool
is_sole w (s ∷ []) = bytes_eq s.ident w && has_none s.arguments
is_sole w _ = false

-- the path that is this word alone
abbrev pub is_word_alone : Text → QSelfTree → PathTree → Bool
is_word_alone w t.no_qself p = not p.leading && is_sole w p.segments
is_word_alone w (t.qself x n as_there) p = false

abbrev pub is_try_alone : QSelfTree → PathTree → Bool
is_try_alone q p = is_word_alone (codes "try") q p

unfoldable pub invisible_at : Test
invisible_at l = sees_group del.None l

-- What goes on a path in an invisible group: `::`, the `!` of a macro, and with `braces` the brace of a struct expression.
-- Nothing goes on `try` alone.
abbrev pub goes_on_path : Bool → QPathTree → Test
goes_on_path braces (q, p) l =
    not (is_try_alone q p) && (colon2.at l || ((is_bare (q, p) && not_ne.at l) || (braces && brace_at l)))

-- the path in such a group, and the segments after it
abbrev pub group_parts : Form QPathTree → Bool → Form (QPathTree × List SegmentTree)
group_parts held braces = then_by (inside del.None held) (λ q. when (goes_on_path braces q) (more colon2 (segment type style.Expr)) never)

abbrev pub to_path : QPathTree × List SegmentTree → QPathTree
to_path ((q, p), more) = (q, record { leading = p.leading; segments = p.segments ++ more; trailing = p.trailing })

-- its first segments, and the others
abbrev pub from_path : ℕ → QPathTree → Option (QPathTree × List SegmentTree)
from_path n (q, p) = Some ((q, record { leading = p.leading; segments = take n p.segments; trailing = p.trailing }), drop n p.segments)

abbrev pub segment_count : Outcome QPathTree → ℕ
segment_count None = 0
segment_count (Some (q, l)) = length q.1.segments

-- how many segments are in the group
abbrev pub count_inside : Form QPathTree → List Tok → ℕ
count_inside held l = segment_count ((inside del.None held).reads l)

abbrev pub group_path : Form QPathTree → Bool → Form QPathTree
group_path held braces = by_size (count_inside held) (λ n. shown to_path (from_path n) (group_parts held braces))

abbrev pub path_step : (Bool → Form QPathTree) → Bool → Form QPathTree
path_step again braces = when invisible_at (group_path (again false) braces) (qpath type style.Expr)

-- a path; with `braces` one before the brace of a struct expression too
unfoldable pub expr_path : Bool → Form QPathTree
expr_path braces = fix {A = λ b. QPathTree} path_step braces

-- The reading of paths and of invisible groups, in its parts.
use Rattle.std.specs.Prelude.{Bool, true, not, if◌then◌else◌, Some}
use Rattle.syn_lexer.specs.declared.front.Delimiter.TheVariants as del
use Rattle.syn_tokens.specs.Front.{group_at}
use Rattle.syn_lower_spec.specs.declared.label.PathStyle.TheVariants as style
use Rattle.syn_lower_spec.specs.Form.{and_then, whole, more}
use Rattle.syn_lower_spec.specs.Mark.{colon2}
use Rattle.syn_lower_spec.specs.Part.{QPathTree, macro_end, qpath, segment, type}
use Rattle.syn_expr_spec.specs.declared.kinds.Place.{Place}
use Rattle.syn_expr_spec.specs.Place.{plain}
use Rattle.syn_expr_spec.specs.Path.{goes_on_path, to_path}
use Rattle.syn_expr_spec.specs.Tree as e
use Rattle.syn_expr_spec.specs.Tree.{Tree, leaf, frame, none, child}
use Rattle.syn_expr_spec.specs.Read.{Reading, ◌>>=◌, named_by, expr}

-- what comes after a path: the end of a macro, the braces of a struct expression, or nothing
unfoldable pub behind_path : Place → QPathTree → Reading Tree
behind_path p q = (macro_end q).reads >>= named_by expr p q

-- a path that no group begins, and what comes after it
unfoldable pub named : Place → Reading Tree
named p = (qpath type style.Expr).reads >>= behind_path p

-- the segments that go on a path, and what comes after them
unfoldable pub extended : Place → QPathTree → Reading Tree
extended p q = (more colon2 (segment type style.Expr)).reads >>= (λ ss. behind_path p (to_path (q, ss)))

-- an operand in a group
abbrev pub in_group : Tree → Tree
in_group x = frame e.group_expr (child e.grouped e.no_ending x none)

-- After a group: what goes on the path that it holds, or nothing.
abbrev pub behind_group : Place → Tree → Reading Tree
behind_group p (leaf (e.path q w)) n = if goes_on_path (not p.condition) (q, w) n then extended p (q, w) n else Some (in_group (leaf (e.path q w)), n)
behind_group p x n = Some (in_group x, n)

-- a group, by what is in it
unfoldable pub group : Place → Reading Tree
group p l = and_then (group_at del.None l) (λ i n. and_then (whole (expr plain i) n) (behind_group p))

-- no `::` ends a path
abbrev pub closed_path : Tree → Bool
closed_path (leaf (e.path q w)) = not w.trailing
closed_path x = true

-- What the macro makes of its argument (Rust Reference, "Match expressions", "Closure expressions").
use Rattle.std.specs.Prelude.{false, [], ◌∷◌, codes}
use Rattle.syn_lower_spec.specs.Pat.{wild, a_binding, no_sub}
use Rattle.syn_lower_spec.specs.Text.{Text}
use Rattle.syn_lower_spec.specs.Tree.{no_arguments, no_qself}
use Rattle.syn_lower_spec.specs.declared.label.LitKind.TheVariants as kind
use Rattle.syn_lower_types.specs.Word.{one_word}
use Rattle.syn_expr_spec.specs.declared.kinds.BinKind.TheVariants as bin
use Rattle.syn_expr_spec.specs.declared.kinds.Infix.TheVariants as inf
use Rattle.syn_expr_spec.specs.Tree.{Tree, leaf, lit, path, infixed, prefixed, closure, tail, method, frame, match_expr, none, child, element, comma, no_ending, scrutinee, opened, guard, guarded, arm}
use Rattle.syn_expr_make.specs.Held.{closure_head}

abbrev pub name : Text → Tree
name word = leaf (path no_qself (one_word word))

abbrev pub int : Text → Tree
int digits = leaf (lit (record { kind = kind.Int; text = digits }))

-- `|x| x + 1`
abbrev pub increment : Tree
increment = prefixed (closure (closure_head false (a_binding false false (codes "x") no_sub ∷ []))) none (infixed (name (codes "x")) (inf.Binary bin.Add) (int (codes "1")))

-- `t.map_or(0, |x| x + 1)`
abbrev pub mapped : Tree → Tree
mapped t = tail t (method (codes "map_or") no_arguments) (child element comma (int (codes "0")) (child element no_ending increment none))

-- `y > 0`
abbrev pub is_positive : Tree
is_positive = infixed (name (codes "y")) (inf.Binary bin.Gt) (int (codes "0"))

-- `match t { y if y > 0 => y, _ => 0 }`
abbrev pub positive_or_zero : Tree → Tree
positive_or_zero t =
    frame match_expr (child scrutinee (opened []) t
    (child (guard [] (a_binding false false (codes "y") no_sub)) no_ending is_positive (child guarded no_ending (name (codes "y"))
    (child (arm [] wild) no_ending (int (codes "0")) none))))

-- `match t.map_or(0, |x| x + 1) { y if y > 0 => y, _ => 0 } - 1`
abbrev pub expanded : Tree → Tree
expanded t = infixed (positive_or_zero (mapped t)) (inf.Binary bin.Sub) (int (codes "1"))

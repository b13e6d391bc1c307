-- What comes after a path: the rest of a macro, or what makes none.
use Rattle.std.proofs.Common.{◌≡◌, Bool, true, false, ◌&&◌, cond, List, Some, None, refl, [], ◌∷◌, Option}
use Rattle.syn_lexer.specs.declared.front.Delimiter.{Delimiter}
use Rattle.syn_tokens.specs.Tok.{Tok}
use Rattle.syn_lower_spec.specs.Form.{Outcome, and_then, mark}
use Rattle.syn_lower_spec.specs.Mark.{not_ne}
use Rattle.syn_lower_spec.specs.Part.{QPathTree, MacroEnd, macro_end, any_group, is_bare}
use Rattle.syn_lower_spec.specs.Pat.{PathEnd, mac_end, to_mac_end, pattern, path_end, PatTree, to_closure_arg, to_typed}
use Rattle.syn_pat_parse.specs.Reads.{unmarked_end, unattributed}
use Rattle.syn_lower_spec.specs.Tree.{AttributeTree, TypeTree}
use Rattle.syn_lower_spec.specs.Pat as p
use Rattle.syn_lower_spec.proofs.Pats.{pattern_alike, single_opens, attributed_refused}
use Rattle.syn_pat.specs.View.{attributed_by}

-- by what was read of a macro
abbrev pub behind_macro : QPathTree → Outcome MacroEnd → Outcome PathEnd
behind_macro q None = None
behind_macro q (Some (Some g, n)) = Some (mac_end g.0 g.1, n)
behind_macro q (Some (None, n)) = (unmarked_end q).reads n

pub path_end_is : (q : QPathTree) (l : List Tok) → (path_end pattern q).reads l ≡ behind_macro q ((macro_end q).reads l)
unfolding path_end macro_end
path_end_is q l = by (is_bare q && not_ne.at l) ((mark not_ne any_group).reads l)
  where
    by : (b : Bool) (o : Outcome (Delimiter × List Tok)) → cond b (and_then {B = PathEnd} o (λ x n. Some (to_mac_end x, n))) ((unmarked_end q).reads l)
        ≡ behind_macro q (cond b (and_then {B = MacroEnd} o (λ x n. Some (Some x, n))) (Some (None, l)))
    by true None = refl
    by true (Some p) = refl
    by false o = refl

pub ruleset ends = (path_end_is)

-- ---- the arguments of closures: attributes are put before a pattern that has none

-- no pattern is read with attributes before it
pub read_bare : (l n : List Tok) (z : PatTree) → (pattern false).reads l ≡ Some (z, n) → unattributed z ≡ z
read_bare l n (p.attributed a xs z) h =
    let f = pattern_alike {k = 0} false in
    let r = attributed_refused {k = 0} pattern_alike a xs z in
    absurd (r.refuses l n (single_opens (p.attributed a xs z) l n (f.sound l (p.attributed a xs z) n h)))
read_bare l n _ h = refl

pub arg_is : (attrs : List AttributeTree) (z : PatTree) (o : Option TypeTree) → to_closure_arg (attrs, (z, o)) ≡ attributed_by attrs (to_typed z o)
arg_is [] z o = refl
arg_is (a ∷ more) z o = refl

pub ruleset args = (read_bare, arg_is)

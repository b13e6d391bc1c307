-- Reading attributes on a fork.
use Rattle.std.proofs.Common.{◌≡◌, ◌≤◌, List, Some, ◌∷◌, refl, Bool, true, false, [], ◌++◌}
use Rattle.syn_tokens.specs.Tok.{Tok, weight, Inside, group, toks, toks-inside, inside}
use Rattle.syn_tokens.specs.Input.{IsTail}
use Rattle.syn_lower_spec.specs.Tree.{AttributeTree}
use Rattle.syn_lower_spec.specs.Part.{outer_attributes, inner_attributes, find_group}
use Rattle.syn_lower_spec.proofs.Parts.{outer_attributes_alike, inner_attributes_alike}
use Rattle.syn_lower_spec.proofs.TailParts.{outer_attributes_leaves, inner_attributes_leaves}
use Rattle.syn_lower_leaves.specs.View.{delimiter_of, attribute_of, is_inner}
use Rattle.syn_lower_leaves.specs.declared.mac.MacroDelimiter.{MacroDelimiter}
use Rattle.syn_lower_leaves.specs.declared.mac.MacroDelimiter.TheVariants as mac
use Rattle.syn_lexer.specs.declared.front.Delimiter.TheVariants as del
use Rattle.syn_lower_spec.specs.Own.{alone, attribute_own}
use Rattle.syn_lower_leaves.specs.Printed.{bang_printed}
use Rattle.syn_lower_leaves.specs.declared.attr.Attribute.{Attribute}

pub outer_tail : (l n : List Tok) (x : List AttributeTree) → outer_attributes.reads l ≡ Some (x, n) → IsTail n l
outer_tail l n x h = let t = outer_attributes_leaves in t.leaves l x n h

pub outer_falls : (l n : List Tok) (x : List AttributeTree) → outer_attributes.reads l ≡ Some (x, n) → weight n ≤ weight l
outer_falls l n x h = let a = outer_attributes_alike {k = 0} in a.falls l x n h

pub ruleset outer_reading = (outer_tail, outer_falls)

pub inner_tail : (l n : List Tok) (x : List AttributeTree) → inner_attributes.reads l ≡ Some (x, n) → IsTail n l
inner_tail l n x h = let t = inner_attributes_leaves in t.leaves l x n h

pub inner_falls : (l n : List Tok) (x : List AttributeTree) → inner_attributes.reads l ≡ Some (x, n) → weight n ≤ weight l
inner_falls l n x h = let a = inner_attributes_alike {k = 0} in a.falls l x n h

pub ruleset inner_reading = (inner_tail, inner_falls)

-- ---- a group that shows its delimiter

pub shown_group : (m : MacroDelimiter) (i : Inside) (l : List Tok) → find_group (group (delimiter_of m) i ∷ l) ≡ Some ((delimiter_of m, toks i), l)
shown_group (mac.Paren d) i l = refl
shown_group (mac.Brace d) i l = refl
shown_group (mac.Bracket d) i l = refl

pub ruleset groups = (shown_group, toks-inside)

-- ---- the own tokens of an attribute

by_style : (b : Bool) (ts : List Tok) → attribute_own (record { inner = b; tokens = ts }) [] ≡ alone 35 ∷ (bang_printed b ++ group del.Bracket (inside ts) ∷ [])
unfolding attribute_own
by_style true ts = refl
by_style false ts = refl

pub attribute_own-parts : (x : Attribute) → attribute_own (attribute_of x) [] ≡ alone 35 ∷ (bang_printed (is_inner x.style) ++ group del.Bracket (inside x.tokens) ∷ [])
attribute_own-parts x = by_style (is_inner x.style) x.tokens

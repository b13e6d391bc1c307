-- Where a token is, and where a group ends.
use Rattle.std.specs.Prelude.{◌≡◌, ◌+◌, ◌-◌, nat_le, if◌then◌else◌}
use Rattle.syn_lexer.specs.declared.front.Delimiter.{Delimiter}
use Rattle.syn_lexer.specs.declared.front.Delimiter.TheVariants as delimiter
use Rattle.syn_tokens.specs.declared.tree.Span.{Span}
use Rattle.syn_tokens.specs.declared.tree.TokenTree.{TokenTree}
use Rattle.syn_tokens.specs.declared.tree.TokenTree.TheVariants.{Group, Ident, Punct, Literal}

-- A token is at this place; of words and literals contracts see no place.
abbrev pub IsAt : TokenTree → Span → Type 0
IsAt (Group g) s = s ≡ g.span
IsAt (Ident i) s = Unit {0}
IsAt (Punct p) s = s ≡ p.span
IsAt (Literal l) s = Unit {0}

-- The closing delimiter is the last byte of a group; an invisible group, or one shorter than two bytes, is where it is.
abbrev pub closing_span : Delimiter → Span → Span
closing_span delimiter.None s = s
closing_span d s = if nat_le (s.lo + 2) s.hi then (record { lo = s.hi - 1; hi = s.hi }) else s

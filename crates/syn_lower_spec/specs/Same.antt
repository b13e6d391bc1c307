-- Tests of whether verbatim tokens and literals are equal.
use Rattle.std.specs.Prelude.{Bool, true, false, ◌&&◌, List}
use Rattle.std.specs.Str.{bytes_eq}
use Rattle.syn_lexer.specs.declared.front.Delimiter.{Delimiter}
use Rattle.syn_tokens.specs.Tok.{Tok}
use Rattle.syn_tokens.specs.Front.{same_delimiter}
use Rattle.syn_tokens.specs.Same.{same_list}
use Rattle.syn_lower_spec.specs.declared.label.LitKind.{LitKind}
use Rattle.syn_lower_spec.specs.declared.label.LitKind.TheVariants as kind
use Rattle.syn_lower_spec.specs.Tree.{LitTree}

unfoldable pub same_toks : List Tok → List Tok → Bool
same_toks l m = same_list l m

abbrev pub same_kind : LitKind → LitKind → Bool
same_kind kind.Str kind.Str = true
same_kind kind.ByteStr kind.ByteStr = true
same_kind kind.CStr kind.CStr = true
same_kind kind.Byte kind.Byte = true
same_kind kind.Char kind.Char = true
same_kind kind.Int kind.Int = true
same_kind kind.Float kind.Float = true
same_kind kind.Bool kind.Bool = true
same_kind _ _ = false

unfoldable pub same_lit : LitTree → LitTree → Bool
same_lit x y = same_kind x.kind y.kind && bytes_eq x.text y.text

unfoldable pub same_group : Delimiter × List Tok → Delimiter × List Tok → Bool
same_group x y = same_delimiter x.0 y.0 && same_toks x.1 y.1

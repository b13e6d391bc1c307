-- White space and comments (Rust Reference, "Whitespace" and "Comments").
use Rattle.std.specs.Prelude.{ℕ, ◌+◌, ◌-◌, Bool, true, false, not, ◌&&◌, ◌||◌, if◌then◌else◌, ◌==◌, nat_le, [], ◌∷◌, length, drop, Option, Some, None, Ok, Err, codes}
use Rattle.std.specs.List.{prefix_len}
use Rattle.syn_lexer.specs.Text.{Text, Reading, line_feed, begins}
use Rattle.syn_lexer.specs.declared.front.LexemeKind.TheVariants.{Blank}
use Rattle.syn_lexer.specs.declared.error.LexError.TheVariants.{DocComment, UnterminatedComment}

-- U+0009 to U+000D, the space, and U+0085, U+200E, U+200F, U+2028, U+2029
abbrev pub is_white_space : ℕ → Bool
is_white_space c =
    (nat_le 9 c && nat_le c 13) || c == 32 || c == 0x85 || c == 0x200e || c == 0x200f || c == 0x2028 || c == 0x2029

abbrev pub white_space_len : Text → ℕ
white_space_len z = 1 + prefix_len is_white_space (drop 1 z)

abbrev pub begins_line_comment : Text → Bool
begins_line_comment z = begins (codes "//") z

abbrev pub begins_block_comment : Text → Bool
begins_block_comment z = begins (codes "/*") z

abbrev pub begins_comment : Text → Bool
begins_comment z = begins_line_comment z || begins_block_comment z

-- ---- line comments

abbrev pub is_within_line : ℕ → Bool
is_within_line c = not (c == line_feed)

-- `//!`, and `///` but not `////`
abbrev pub is_line_doc : Text → Bool
is_line_doc z = begins (codes "//!") z || (begins (codes "///") z && not (begins (codes "////") z))

-- from `//` to before the line feed
abbrev pub line_comment_len : Text → ℕ
line_comment_len z = 2 + prefix_len is_within_line (drop 2 z)

-- a doc comment is refused whole
abbrev pub line_comment : Text → Reading
line_comment z = if is_line_doc z then Err (DocComment, line_comment_len z) else Ok (Blank, line_comment_len z)

-- ---- block comments, which nest

-- `/*!`, and `/**` but neither `/***` nor `/**/`
abbrev pub is_block_doc : Text → Bool
is_block_doc z = begins (codes "/*!") z || (begins (codes "/**") z && not (begins (codes "/***") z || begins (codes "/**/") z))

-- How many characters there are up to and with the `*/` that closes an open comment, counted on from `n`, where
-- so many more comments are open inside of it. The second character of a mark is passed over: `/*/` closes nothing.
abbrev pub comment_rest : Bool → ℕ → ℕ → Text → Option ℕ
comment_rest is_second inner n [] = None
comment_rest true inner n (c ∷ z) = comment_rest false inner (n + 1) z
comment_rest false inner n (c ∷ z) =
    if begins (codes "/*") (c ∷ z) then comment_rest true (inner + 1) (n + 1) z
    else (if begins (codes "*/") (c ∷ z) then (if inner == 0 then Some (n + 2) else comment_rest true (inner - 1) (n + 1) z)
    else comment_rest false inner (n + 1) z)

-- a comment that is not closed is refused up to the end of the text
abbrev pub comment_to : Text → Option ℕ → Reading
comment_to z None = Err (UnterminatedComment, length z)
comment_to z (Some n) = if is_block_doc z then Err (DocComment, 2 + n) else Ok (Blank, 2 + n)

abbrev pub block_comment : Text → Reading
block_comment z = comment_to z (comment_rest false 0 0 (drop 2 z))

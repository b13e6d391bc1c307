-- The tokens of one or more puncts, and the words (Rust Reference, "Punctuation", "Keywords").
use Rattle.std.specs.Prelude.{◌≡◌, ℕ, Bool, true, false, IsTrue, ◌&&◌, ◌||◌, ◌==◌, if◌then◌else◌, not, List, [], ◌∷◌, length, drop, map, slice_index_or}
use Rattle.std.specs.Str.{bytes_eq}
use Rattle.syn_tokens.specs.Tok.{Tok, ident, punct}
use Rattle.syn_lexer.specs.declared.front.Spacing.TheVariants.{Alone, Joint}
use Rattle.syn_tokens.specs.declared.token.TheConstants.{SIGNS, WORDS}

-- the sign at a place of the table, none past it
unfoldable pub sign_text : ℕ → List ℕ
sign_text k = slice_index_or (map (λ s. s.now) SIGNS) k []

-- the word at a place of the table, none past it
unfoldable pub word_text : ℕ → List ℕ
word_text k = slice_index_or (map (λ s. s.now) WORDS) k []

abbrev pub is_nil : List ℕ → Bool
is_nil [] = true
is_nil (b ∷ bs) = false

-- The puncts of a text come first, each but the last joint; the last one's spacing is free.
abbrev pub begins : List ℕ → List Tok → Bool
begins [] ts = false
begins (b ∷ more) [] = false
begins (b ∷ more) (punct c Alone ∷ ts) = c == b && is_nil more
begins (b ∷ more) (punct c Joint ∷ ts) = c == b && (is_nil more || begins more ts)
begins (b ∷ more) (t ∷ ts) = false

-- the sign at place k comes first, and has n puncts
abbrev pub sees : ℕ → ℕ → List Tok → Bool
sees n k ts = length (sign_text k) == n && begins (sign_text k) ts

-- a text comes first as an identifier
abbrev pub begins_word : List ℕ → List Tok → Bool
begins_word text (ident s ∷ ts) = not (is_nil text) && bytes_eq s text
begins_word text _ = false

-- the word at place k comes first
abbrev pub sees_word : ℕ → List Tok → Bool
sees_word k ts = begins_word (word_text k) ts

-- the puncts of a text, the last one alone
abbrev pub sign_toks : List ℕ → List Tok
sign_toks [] = []
sign_toks (b ∷ []) = punct b Alone ∷ []
sign_toks (b ∷ c ∷ more) = punct b Joint ∷ sign_toks (c ∷ more)

-- what a sign prints: nothing where it has another number of puncts
abbrev pub printed_sign : ℕ → ℕ → List Tok
printed_sign n k = if length (sign_text k) == n then sign_toks (sign_text k) else []

-- a text as an identifier, nothing where it is empty
abbrev pub word_toks : List ℕ → List Tok
word_toks [] = []
word_toks (b ∷ more) = ident (b ∷ more) ∷ []

-- what a word prints: nothing past the table
abbrev pub printed_word : ℕ → List Tok
printed_word k = word_toks (word_text k)

-- `_` comes first
abbrev pub sees_underscore : List Tok → Bool
sees_underscore = begins_word (95 ∷ [])

-- where a test sees a sign or a word, its tokens are taken, so many
abbrev pub Takes : (List Tok → Bool) → ℕ → List Tok → List Tok → Type 0
Takes sees count ts rest = IsTrue (sees ts) × (rest ≡ drop count ts)

abbrev pub printed_underscore : List Tok
printed_underscore = word_toks (95 ∷ [])

-- What contracts see of token trees: all but their places.
use Rattle.std.specs.Prelude.{◌≡◌, ℕ, List, [], ◌∷◌, ◌++◌, length, take, drop, zero, suc, refl}
use Rattle.syn_tokens.specs.Tok.{Tok, ident, punct, literal, group, inside}
use Rattle.syn_tokens.specs.declared.tree.Group as tree
use Rattle.syn_tokens.specs.declared.tree.TokenTree.{TokenTree}
use Rattle.syn_tokens.specs.declared.tree.TokenTree.TheVariants.{Group, Ident, Punct, Literal}

abbrev pub tok_of_group : tree.Group → Tok
tok_of_group g = group g.delimiter (inside g.stream)

abbrev pub tok_of : TokenTree → Tok
tok_of (Group g) = tok_of_group g
tok_of (Ident i) = ident i
tok_of (Punct p) = punct p.ch p.spacing
tok_of (Literal l) = literal l

abbrev pub toks_of : List TokenTree → List Tok
toks_of [] = []
toks_of (t ∷ ts) = tok_of t ∷ toks_of ts

pub toks_of-append : (a b : List TokenTree) → toks_of (a ++ b) ≡ toks_of a ++ toks_of b
toks_of-append [] b = refl
toks_of-append (t ∷ a) b = let e = toks_of-append a b in cc

pub length-toks_of : (a : List TokenTree) → length (toks_of a) ≡ length a
length-toks_of [] = refl
length-toks_of (t ∷ a) = let e = length-toks_of a in cc

pub toks_of-take : (n : ℕ) (a : List TokenTree) → toks_of (take n a) ≡ take n (toks_of a)
toks_of-take zero a = refl
toks_of-take (suc n) [] = refl
toks_of-take (suc n) (t ∷ a) = let e = toks_of-take n a in cc

pub toks_of-drop : (n : ℕ) (a : List TokenTree) → toks_of (drop n a) ≡ drop n (toks_of a)
toks_of-drop zero a = refl
toks_of-drop (suc n) [] = refl
toks_of-drop (suc n) (t ∷ a) = toks_of-drop n a

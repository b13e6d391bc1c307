-- White space behind a token.
use Rattle.std.proofs.Common.{◌≡◌, ◌+◌, ◌-◌, ◌≤◌, Bool, true, false, ◌&&◌, List, [], ◌∷◌, ◌++◌, length, take, get_or, refl, codes, chars, append_assoc, append-nil, sym, ◌∙◌, ap, subst, arith}
use Rattle.std.specs.List.{list_all}
use Rattle.std.proofs.lemmas.Bool.{and_left, and_from, or_from}
use Rattle.std.proofs.lemmas.List.Folds.{list_all-append}
use Rattle.syn_lexer.specs.Text.{Text, begins}
use Rattle.syn_lexer.specs.Blanks.{is_white_space}
use Rattle.syn_lexer.specs.declared.front.Spacing.TheVariants.{Alone, Joint}
use Rattle.syn_lexer.specs.declared.front.Delimiter.{Delimiter}
use Rattle.syn_tokens.specs.Tok.{Tok, Inside, ident, punct, literal, group, nothing, first, inside, weight, token_weight}
use Rattle.syn_tokens.specs.Text.{is_joint, opening, closing}
use Rattle.syn_tokens.specs.View.{tok_of, toks_of, toks_of-append}
use Rattle.syn_tokens.specs.declared.tree.TokenTree.{TokenTree}
use Rattle.syn_tokens.proofs.Weights.{weight-first}
use Rattle.syn_tidy.proofs.Backwards.{at_end, weight-append}
use Rattle.syn_text.specs.Must.{goes_on, takes_dot, must}
use Rattle.syn_text.proofs.Stops.{stops_ends, stops_no_punct, stops_no_dot}
use Rattle.syn_tidy.specs.Layout.{IsSpaced, IsGap, IsTree, IsList, space_before}

pub joint_must : (t : Tok) (z : Text) → is_joint t ≡ true → must t z ≡ false
joint_must (punct c Joint) z h = refl
joint_must (punct c Alone) z h = absurd cc
joint_must (ident s) z h = absurd cc
joint_must (literal s) z h = absurd cc
joint_must (group d i) z h = absurd cc

-- a space is enough
must_space : (t : Tok) (z : Text) → must t (32 ∷ z) ≡ false
must_space (ident s) z = stops_ends (32 ∷ z) refl
must_space (literal s) z =
    or_from (goes_on 32) (begins (codes ".") (32 ∷ z) && takes_dot (chars s) z) (stops_ends (32 ∷ z) refl)
    (and_left (begins (codes ".") (32 ∷ z)) (takes_dot (chars s) z) (stops_no_dot (32 ∷ z) refl))
must_space (punct c Alone) z = stops_no_punct (32 ∷ z) refl
must_space (punct c Joint) z = refl
must_space (group d i) z = refl

pub gap_is : (t : Tok) (y z : Text) (b : Bool) → (b ≡ true → is_joint t ≡ false) → (b ≡ false → must t y ≡ false) → z ≡ space_before b y → IsGap t y z
gap_is t y z true spaced joined is =
    ((32 ∷ [], refl, is), (λ j. let h : true ≡ false = sym j ∙ spaced refl in absurd cc), ap (must t) is ∙ must_space t y)
gap_is t y z false spaced joined is = (([], refl, is), (λ j. is), ap (must t) is ∙ joined refl)

pub spaced_is : (y z : Text) (b : Bool) → z ≡ space_before b y → IsSpaced y z
spaced_is y z true is = (32 ∷ [], refl, is)
spaced_is y z false is = ([], refl, is)

-- ---- white space at the end of a list

more_spaced : (y x z : Text) → IsSpaced y x → IsSpaced x z → IsSpaced y z
more_spaced y x z p q = (
  q.0 ++ p.0,
  list_all-append is_white_space q.0 p.0 ∙ and_from (list_all is_white_space q.0) (list_all is_white_space p.0) q.1 p.1,
  q.2 ∙ ap (λ w. q.0 ++ w) p.2 ∙ sym (append_assoc q.0 p.0 y),
)

pub list_margin : (i : Inside) (y x z : Text) → IsSpaced y x → IsList i x z → IsList i y z
list_margin nothing y x z p l = more_spaced y x z p l
list_margin (first t i) y x z p l = (l.0, l.1, l.2, l.3, list_margin i y x l.0 p l.4)

-- ---- groups, and one more tree

pub group_is : (d : Delimiter) (i : Inside) (y a b c e z : Text) → a ≡ closing d ++ y → IsSpaced a b → IsList i b c → IsSpaced c e → z ≡ opening d ++ e
    → IsTree (group d i) y z
group_is d i y a b c e z closed before list behind opened =
    (c, e, opened, behind, list_margin i (closing d ++ y) b c (subst (λ x. IsSpaced x b) closed before) list)

-- a tree is the last of a list: what was done goes behind it
one_done : (xs : List TokenTree) (x : TokenTree) (done ts : List Tok) → 1 ≤ length xs → x ≡ get_or xs (length xs - 1) x → toks_of xs ++ done ≡ ts
    → toks_of (take (length xs - 1) xs) ++ tok_of x ∷ done ≡ ts
one_done xs x done ts h is all =
    let front = take (length xs - 1) xs in
    sym (append_assoc (toks_of front) (tok_of x ∷ []) done)
    ∙ ap (λ r. r ++ done) (sym (toks_of-append front (x ∷ [])) ∙ ap toks_of (sym (at_end xs x h is))) ∙ all

pub one_lighter : (xs : List TokenTree) (x : TokenTree) (done ts : List Tok) → 1 ≤ length xs → x ≡ get_or xs (length xs - 1) x → toks_of xs ++ done ≡ ts
    → token_weight (tok_of x) ≤ weight ts
one_lighter xs x done ts h is all =
    let front = toks_of (take (length xs - 1) xs) in
    let both : weight (front ++ tok_of x ∷ done) ≡ weight front + weight (tok_of x ∷ done) = weight-append front (tok_of x ∷ done) in
    let same : weight (front ++ tok_of x ∷ done) ≡ weight ts = ap weight (one_done xs x done ts h is all) in
    let more : weight (tok_of x ∷ done) ≡ token_weight (tok_of x) + weight done = weight-first (tok_of x) done in
    omega arith

-- what is written of a list: its last trees
abbrev pub IsLaid : List TokenTree → List Tok → Text → Text → Type 0
IsLaid rest ts y z = (done : List Tok) × (toks_of rest ++ done ≡ ts) × IsList (inside done) y z

pub one_laid_more : (xs : List TokenTree) (x : TokenTree) (ts : List Tok) (y u v z : Text) → 1 ≤ length xs → x ≡ get_or xs (length xs - 1) x
    → IsLaid xs ts y u → IsGap (tok_of x) u v → IsTree (tok_of x) v z → IsLaid (take (length xs - 1) xs) ts y z
one_laid_more xs x ts y u v z h is l gap tree = (tok_of x ∷ l.0, one_done xs x l.0 ts h is l.1, (u, v, tree, gap, l.2))

pub none_laid : (xs : List TokenTree) (y : Text) → IsLaid xs (toks_of xs) y y
none_laid xs y = ([], append-nil (toks_of xs), ([], refl, refl))

pub all_laid : (xs : List TokenTree) (ts : List Tok) (y z : Text) → length xs ≡ 0 → IsLaid xs ts y z → IsList (inside ts) y z
all_laid [] ts y z h l = subst (λ us. IsList (inside us) y z) l.1 l.2
all_laid (x ∷ xs) ts y z h l = absurd (omega arith)

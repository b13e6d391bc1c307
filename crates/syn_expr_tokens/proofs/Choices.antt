-- What is read of an operand or a trailer is what its kind says.
use Rattle.std.proofs.Common.{◌≡◌, Bool, true, false, cond, refl, List, ◌∷◌, codes}
use Rattle.syn_lower_spec.specs.Mark.{round_at, word_at}
use Rattle.syn_expr_spec.specs.Front.{bracket_at, question_at, dot_at}
use Rattle.syn_expr_spec.specs.Path.{invisible_at}
use Rattle.syn_expr_spec.specs.Head as h
use Rattle.syn_expr_spec.specs.Head.{try_block_at, builtin_at, leaf_at}
use Rattle.syn_expr_spec.specs.Slot.{if_word, match_word}
use Rattle.syn_expr_spec.specs.Read as r
use Rattle.syn_expr_spec.specs.Read.{atom, trailed}
use Rattle.syn_expr_tokens.specs.declared.atom.Atom.{Atom}
use Rattle.syn_expr_tokens.specs.declared.atom.Atom.TheVariants as kind
use Rattle.syn_expr_tokens.specs.declared.atom.TrailerStart.{TrailerStart}
use Rattle.syn_expr_tokens.specs.declared.atom.TrailerStart.TheVariants as trailer
use Rattle.syn_expr_tokens.specs.Begins.{AtomsAreChosen, TrailersAreChosen, atom_by, trailer_by, atom_of}
use Rattle.std.specs.Str.{bytes_eq}
use Rattle.syn_lexer.specs.Keywords.{is_reserved_word}
use Rattle.syn_tokens.specs.Tok.{Tok, ident}
use Rattle.syn_lower_spec.specs.Text.{Text, is_segment}
use Rattle.syn_lower_spec.proofs.PatsBack.{reserved_not}
use Rattle.syn_tokens.specs.Front.{group_at}
use Rattle.syn_expr_spec.proofs.NameFronts.{named_word}

first : {A B : Type 0} (f : A → B) (b : Bool) (x y : A) (v : B) → v ≡ f y → cond b (f x) v ≡ f (cond b x y)
first f true x y v k = refl
first f false x y v k = k

pub atoms_are_chosen : AtomsAreChosen
unfolding atom
atoms_are_chosen expr p l =
    let f = λ (k : Atom). atom_by expr p k l in
    first f (leaf_at l) kind.Leaf _ _
    (first f (r.prefix_at l) kind.Prefix _ _
    (first f (round_at l) kind.Parenthesis _ _
    (first f (bracket_at l) kind.Bracket _ _
    (first f (r.become_word.at l) kind.Become _ _
    (first f (if_word.at l) kind.If _ _
    (first f (r.loop_head_at l) kind.Loop _ _
    (first f (match_word.at l) kind.Match _ _
    (first f (invisible_at l) kind.Group _ _ refl))))))))

pub trailers_are_chosen : TrailersAreChosen
unfolding trailed
trailers_are_chosen expr p b l =
    let f = λ (k : TrailerStart). trailer_by expr p b k l in
    first f (round_at l) trailer.Call _ _
    (first f (bracket_at l) trailer.Index _ _
    (first f (question_at l) trailer.Question _ _
    (first f (dot_at l) trailer.Dot _ _ refl)))

-- ---- a name begins a path, a macro or a struct expression

pub name_segment : (w : Text) → is_reserved_word w ≡ false → is_segment w ≡ true
unfolding is_segment
name_segment w h = rw h refl

pub try_reserved : is_reserved_word (codes "try") ≡ true
unfolding is_reserved_word
try_reserved = refl

-- the two leaves that begin with a word of a path
pub no_try : (w : Text) (l : List Tok) → is_reserved_word w ≡ false → try_block_at (ident w ∷ l) ≡ false
unfolding try_block_at word_at
no_try w l h = rw (reserved_not w (codes "try") h try_reserved) refl

no_builtin : (w : Text) (l : List Tok) → bytes_eq w (codes "builtin") ≡ false → builtin_at (ident w ∷ l) ≡ false
unfolding builtin_at word_at
no_builtin w l h = rw h refl

pub names_begin_paths : (w : Text) (l : List Tok) → is_reserved_word w ≡ false → bytes_eq w (codes "builtin") ≡ false → atom_of (ident w ∷ l) ≡ kind.Named
unfolding invisible_at group_at
names_begin_paths w l name plain =
    let n = named_word w l (name_segment w name) in
    rw (n.no_leaf (no_try w l name) (no_builtin w l plain), n.no_prefix, n.no_round, n.no_bracket, n.no_become, n.no_if, n.no_loop, n.no_match) refl

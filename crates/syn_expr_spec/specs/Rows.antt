-- Worked rows: the tokens of a text, and what is printed of what is read of it, or that it is refused. Each says its text;
-- `bare` rows are flattened before they are printed.
use Rattle.std.specs.Prelude.{◌≡◌, List, [], ◌∷◌, codes, Option, Some, None}
use Rattle.syn_lexer.specs.declared.front.Delimiter.TheVariants as del
use Rattle.syn_tokens.specs.Tok.{Tok, ident, literal, group, inside}
use Rattle.syn_lower_spec.specs.Own.{alone, joint}
use Rattle.syn_expr_spec.specs.Tree.{Tree, own_tokens, flatten}
use Rattle.syn_expr_spec.specs.Place.{plain}
use Rattle.syn_expr_spec.specs.declared.next.Context.{Context}
use Rattle.syn_expr_spec.specs.Next.{enclosed, in_statement, in_condition, in_arm}
use Rattle.syn_expr_spec.specs.Rule.{printed}
use Rattle.syn_expr_spec.specs.Read.{all_of, expr}

abbrev pub written : Context → Option Tree → Option (List Tok)
written c None = None
written c (Some t) = Some (own_tokens (printed c t))

abbrev pub flat : Option Tree → Option Tree
flat None = None
flat (Some t) = Some (flatten t)

abbrev pub Plain : List Tok → Option (List Tok) → Type 0
Plain l o = written enclosed (all_of (expr plain l)) ≡ o

abbrev pub Stmt : List Tok → Option (List Tok) → Type 0
Stmt l o = written in_statement (all_of (expr plain l)) ≡ o

abbrev pub Cond : List Tok → Option (List Tok) → Type 0
Cond l o = written in_condition (all_of (expr plain l)) ≡ o

abbrev pub Arm : List Tok → Option (List Tok) → Type 0
Arm l o = written in_arm (all_of (expr plain l)) ≡ o

abbrev pub PlainBare : List Tok → Option (List Tok) → Type 0
PlainBare l o = written enclosed (flat (all_of (expr plain l))) ≡ o

abbrev pub CondBare : List Tok → Option (List Tok) → Type 0
CondBare l o = written in_condition (flat (all_of (expr plain l))) ≡ o

pub record PlainRows1 : Type 0 where
  -- `a - b - c`
  pub row1 : Plain (ident (codes "a") ∷ alone 45 ∷ ident (codes "b") ∷ alone 45 ∷ ident (codes "c") ∷ []) (Some (ident (codes "a") ∷ alone 45 ∷ ident (codes "b") ∷ alone 45 ∷ ident (codes "c") ∷ []))
  -- `a = b = c`
  pub row2 : Plain (ident (codes "a") ∷ alone 61 ∷ ident (codes "b") ∷ alone 61 ∷ ident (codes "c") ∷ []) (Some (ident (codes "a") ∷ alone 61 ∷ ident (codes "b") ∷ alone 61 ∷ ident (codes "c") ∷ []))
  -- `a < b < c`
  pub row3 : Plain (ident (codes "a") ∷ alone 60 ∷ ident (codes "b") ∷ alone 60 ∷ ident (codes "c") ∷ []) None
  -- `(a < b) < c`
  pub row4 : Plain (group del.Parenthesis (inside (ident (codes "a") ∷ alone 60 ∷ ident (codes "b") ∷ [])) ∷ alone 60 ∷ ident (codes "c") ∷ []) (Some (group del.Parenthesis (inside (ident (codes "a") ∷ alone 60 ∷ ident (codes "b") ∷ [])) ∷ alone 60 ∷ ident (codes "c") ∷ []))
  -- `a + = b`
  pub row5 : Plain (ident (codes "a") ∷ alone 43 ∷ alone 61 ∷ ident (codes "b") ∷ []) None
  -- `a += b`
  pub row6 : Plain (ident (codes "a") ∷ joint 43 ∷ alone 61 ∷ ident (codes "b") ∷ []) (Some (ident (codes "a") ∷ joint 43 ∷ alone 61 ∷ ident (codes "b") ∷ []))
  -- `a = ..b = c`
  pub row7 : Plain (ident (codes "a") ∷ alone 61 ∷ joint 46 ∷ alone 46 ∷ ident (codes "b") ∷ alone 61 ∷ ident (codes "c") ∷ []) (Some (ident (codes "a") ∷ alone 61 ∷ joint 46 ∷ alone 46 ∷ ident (codes "b") ∷ alone 61 ∷ ident (codes "c") ∷ []))
  -- `a || .. + c`
  pub row8 : Plain (ident (codes "a") ∷ joint 124 ∷ alone 124 ∷ joint 46 ∷ alone 46 ∷ alone 43 ∷ ident (codes "c") ∷ []) (Some (ident (codes "a") ∷ joint 124 ∷ alone 124 ∷ joint 46 ∷ alone 46 ∷ alone 43 ∷ ident (codes "c") ∷ []))
  -- `a = b.. + c`
  pub row9 : Plain (ident (codes "a") ∷ alone 61 ∷ ident (codes "b") ∷ joint 46 ∷ alone 46 ∷ alone 43 ∷ ident (codes "c") ∷ []) (Some (ident (codes "a") ∷ alone 61 ∷ ident (codes "b") ∷ joint 46 ∷ alone 46 ∷ alone 43 ∷ ident (codes "c") ∷ []))
  -- `return .. ?`
  pub row10 : Plain (ident (codes "return") ∷ joint 46 ∷ alone 46 ∷ alone 63 ∷ []) (Some (ident (codes "return") ∷ joint 46 ∷ alone 46 ∷ alone 63 ∷ []))
  -- `return a + .. ?`
  pub row11 : Plain (ident (codes "return") ∷ ident (codes "a") ∷ alone 43 ∷ joint 46 ∷ alone 46 ∷ alone 63 ∷ []) (Some (ident (codes "return") ∷ ident (codes "a") ∷ alone 43 ∷ joint 46 ∷ alone 46 ∷ alone 63 ∷ []))
  -- `a + -.. / c`
  pub row12 : Plain (ident (codes "a") ∷ alone 43 ∷ joint 45 ∷ joint 46 ∷ alone 46 ∷ alone 47 ∷ ident (codes "c") ∷ []) (Some (ident (codes "a") ∷ alone 43 ∷ alone 45 ∷ joint 46 ∷ alone 46 ∷ alone 47 ∷ ident (codes "c") ∷ []))
  -- `x as Vec<u8>>y`
  pub row13 : Plain (ident (codes "x") ∷ ident (codes "as") ∷ ident (codes "Vec") ∷ alone 60 ∷ ident (codes "u8") ∷ joint 62 ∷ alone 62 ∷ ident (codes "y") ∷ []) (Some (ident (codes "x") ∷ ident (codes "as") ∷ ident (codes "Vec") ∷ alone 60 ∷ ident (codes "u8") ∷ alone 62 ∷ alone 62 ∷ ident (codes "y") ∷ []))
  -- `*S {}`
  pub row14 : Plain (alone 42 ∷ ident (codes "S") ∷ group del.Brace (inside ([])) ∷ []) (Some (alone 42 ∷ ident (codes "S") ∷ group del.Brace (inside ([])) ∷ []))
  -- `if return S {} {}`
  pub row15 : Plain (ident (codes "if") ∷ ident (codes "return") ∷ ident (codes "S") ∷ group del.Brace (inside ([])) ∷ group del.Brace (inside ([])) ∷ []) (Some (ident (codes "if") ∷ ident (codes "return") ∷ ident (codes "S") ∷ group del.Brace (inside ([])) ∷ group del.Brace (inside ([])) ∷ []))
  -- `if cond { f } else { g } ()`
  pub row16 : Plain (ident (codes "if") ∷ ident (codes "cond") ∷ group del.Brace (inside (ident (codes "f") ∷ [])) ∷ ident (codes "else") ∷ group del.Brace (inside (ident (codes "g") ∷ [])) ∷ group del.Parenthesis (inside ([])) ∷ []) (Some (ident (codes "if") ∷ ident (codes "cond") ∷ group del.Brace (inside (ident (codes "f") ∷ [])) ∷ ident (codes "else") ∷ group del.Brace (inside (ident (codes "g") ∷ [])) ∷ group del.Parenthesis (inside ([])) ∷ []))
  -- `m! {} - 1`
  pub row17 : Plain (ident (codes "m") ∷ alone 33 ∷ group del.Brace (inside ([])) ∷ alone 45 ∷ literal (codes "1") ∷ []) (Some (ident (codes "m") ∷ alone 33 ∷ group del.Brace (inside ([])) ∷ alone 45 ∷ literal (codes "1") ∷ []))
  -- `x.0.1`
  pub row18 : Plain (ident (codes "x") ∷ alone 46 ∷ literal (codes "0.1") ∷ []) (Some (ident (codes "x") ∷ alone 46 ∷ literal (codes "0") ∷ alone 46 ∷ literal (codes "1") ∷ []))
  -- `x.0. await`
  pub row19 : Plain (ident (codes "x") ∷ alone 46 ∷ literal (codes "0.") ∷ ident (codes "await") ∷ []) (Some (ident (codes "x") ∷ alone 46 ∷ literal (codes "0") ∷ alone 46 ∷ ident (codes "await") ∷ []))
  -- `x.4294967295`
  pub row20 : Plain (ident (codes "x") ∷ alone 46 ∷ literal (codes "4294967295") ∷ []) (Some (ident (codes "x") ∷ alone 46 ∷ literal (codes "4294967295") ∷ []))
  -- `x.4294967296`
  pub row21 : Plain (ident (codes "x") ∷ alone 46 ∷ literal (codes "4294967296") ∷ []) None
  -- `x.0u8`
  pub row22 : Plain (ident (codes "x") ∷ alone 46 ∷ literal (codes "0u8") ∷ []) None
  -- `x.0x10`
  pub row23 : Plain (ident (codes "x") ∷ alone 46 ∷ literal (codes "0x10") ∷ []) (Some (ident (codes "x") ∷ alone 46 ∷ literal (codes "16") ∷ []))
  -- `break 'a: loop {}`
  pub row24 : Plain (ident (codes "break") ∷ joint 39 ∷ ident (codes "a") ∷ alone 58 ∷ ident (codes "loop") ∷ group del.Brace (inside ([])) ∷ []) None
  -- `break #[k] 'a: loop {}`
  pub row25 : Plain (ident (codes "break") ∷ alone 35 ∷ group del.Bracket (inside (ident (codes "k") ∷ [])) ∷ joint 39 ∷ ident (codes "a") ∷ alone 58 ∷ ident (codes "loop") ∷ group del.Brace (inside ([])) ∷ []) (Some (ident (codes "break") ∷ alone 35 ∷ group del.Bracket (inside (ident (codes "k") ∷ [])) ∷ joint 39 ∷ ident (codes "a") ∷ alone 58 ∷ ident (codes "loop") ∷ group del.Brace (inside ([])) ∷ []))
  -- ``
  pub row26 : Plain ([]) None
  -- `f(a b)`
  pub row27 : Plain (ident (codes "f") ∷ group del.Parenthesis (inside (ident (codes "a") ∷ ident (codes "b") ∷ [])) ∷ []) None
  -- `x[a b]`
  pub row28 : Plain (ident (codes "x") ∷ group del.Bracket (inside (ident (codes "a") ∷ ident (codes "b") ∷ [])) ∷ []) None
  -- `#[k] ..b`
  pub row29 : Plain (alone 35 ∷ group del.Bracket (inside (ident (codes "k") ∷ [])) ∷ joint 46 ∷ alone 46 ∷ ident (codes "b") ∷ []) None
  -- `a +`
  pub row30 : Plain (ident (codes "a") ∷ alone 43 ∷ []) None
  -- `a ..=`
  pub row31 : Plain (ident (codes "a") ∷ joint 46 ∷ joint 46 ∷ alone 61 ∷ []) None
  -- `a b`
  pub row32 : Plain (ident (codes "a") ∷ ident (codes "b") ∷ []) None
  -- `a..b..c`
  pub row33 : Plain (ident (codes "a") ∷ joint 46 ∷ alone 46 ∷ ident (codes "b") ∷ joint 46 ∷ alone 46 ∷ ident (codes "c") ∷ []) None
  -- `x as u8.y`
  pub row34 : Plain (ident (codes "x") ∷ ident (codes "as") ∷ ident (codes "u8") ∷ alone 46 ∷ ident (codes "y") ∷ []) None
  -- `a <- b`
  pub row35 : Plain (ident (codes "a") ∷ joint 60 ∷ alone 45 ∷ ident (codes "b") ∷ []) None
  -- `'a: x`
  pub row36 : Plain (joint 39 ∷ ident (codes "a") ∷ alone 58 ∷ ident (codes "x") ∷ []) None
  -- `[a b]`
  pub row37 : Plain (group del.Bracket (inside (ident (codes "a") ∷ ident (codes "b") ∷ [])) ∷ []) None
  -- `x . =`
  pub row38 : Plain (ident (codes "x") ∷ alone 46 ∷ alone 61 ∷ []) None
  -- `match x { _ => {} y => 2 }`
  pub row39 : Plain (ident (codes "match") ∷ ident (codes "x") ∷ group del.Brace (inside (ident (codes "_") ∷ joint 61 ∷ alone 62 ∷ group del.Brace (inside ([])) ∷ ident (codes "y") ∷ joint 61 ∷ alone 62 ∷ literal (codes "2") ∷ [])) ∷ []) (Some (ident (codes "match") ∷ ident (codes "x") ∷ group del.Brace (inside (ident (codes "_") ∷ joint 61 ∷ alone 62 ∷ group del.Brace (inside ([])) ∷ ident (codes "y") ∷ joint 61 ∷ alone 62 ∷ literal (codes "2") ∷ [])) ∷ []))
  -- `match x { _ => 1 2 }`
  pub row40 : Plain (ident (codes "match") ∷ ident (codes "x") ∷ group del.Brace (inside (ident (codes "_") ∷ joint 61 ∷ alone 62 ∷ literal (codes "1") ∷ literal (codes "2") ∷ [])) ∷ []) None

pub record PlainRows2 : Type 0 where
  -- `a & &b`
  pub row1 : Plain (ident (codes "a") ∷ alone 38 ∷ alone 38 ∷ ident (codes "b") ∷ []) (Some (ident (codes "a") ∷ alone 38 ∷ alone 38 ∷ ident (codes "b") ∷ []))
  -- `a&&b`
  pub row2 : Plain (ident (codes "a") ∷ joint 38 ∷ alone 38 ∷ ident (codes "b") ∷ []) (Some (ident (codes "a") ∷ joint 38 ∷ alone 38 ∷ ident (codes "b") ∷ []))
  -- `static || x`
  pub row3 : Plain (ident (codes "static") ∷ joint 124 ∷ alone 124 ∷ ident (codes "x") ∷ []) (Some (ident (codes "static") ∷ alone 124 ∷ alone 124 ∷ ident (codes "x") ∷ []))
  -- `-a * !b - c`
  pub row4 : Plain (alone 45 ∷ ident (codes "a") ∷ alone 42 ∷ alone 33 ∷ ident (codes "b") ∷ alone 45 ∷ ident (codes "c") ∷ []) (Some (alone 45 ∷ ident (codes "a") ∷ alone 42 ∷ alone 33 ∷ ident (codes "b") ∷ alone 45 ∷ ident (codes "c") ∷ []))
  -- `a--b`
  pub row5 : Plain (ident (codes "a") ∷ joint 45 ∷ alone 45 ∷ ident (codes "b") ∷ []) (Some (ident (codes "a") ∷ alone 45 ∷ alone 45 ∷ ident (codes "b") ∷ []))
  -- `a<<b>>c`
  pub row6 : Plain (ident (codes "a") ∷ joint 60 ∷ alone 60 ∷ ident (codes "b") ∷ joint 62 ∷ alone 62 ∷ ident (codes "c") ∷ []) (Some (ident (codes "a") ∷ joint 60 ∷ alone 60 ∷ ident (codes "b") ∷ joint 62 ∷ alone 62 ∷ ident (codes "c") ∷ []))
  -- `a < b == c`
  pub row7 : Plain (ident (codes "a") ∷ alone 60 ∷ ident (codes "b") ∷ joint 61 ∷ alone 61 ∷ ident (codes "c") ∷ []) None
  -- `f(a,)(b).g(c)?[d]`
  pub row8 : Plain (ident (codes "f") ∷ group del.Parenthesis (inside (ident (codes "a") ∷ alone 44 ∷ [])) ∷ group del.Parenthesis (inside (ident (codes "b") ∷ [])) ∷ alone 46 ∷ ident (codes "g") ∷ group del.Parenthesis (inside (ident (codes "c") ∷ [])) ∷ alone 63 ∷ group del.Bracket (inside (ident (codes "d") ∷ [])) ∷ []) (Some (ident (codes "f") ∷ group del.Parenthesis (inside (ident (codes "a") ∷ alone 44 ∷ [])) ∷ group del.Parenthesis (inside (ident (codes "b") ∷ [])) ∷ alone 46 ∷ ident (codes "g") ∷ group del.Parenthesis (inside (ident (codes "c") ∷ [])) ∷ alone 63 ∷ group del.Bracket (inside (ident (codes "d") ∷ [])) ∷ []))
  -- `x.1.2.3`
  pub row9 : Plain (ident (codes "x") ∷ alone 46 ∷ literal (codes "1.2") ∷ alone 46 ∷ literal (codes "3") ∷ []) (Some (ident (codes "x") ∷ alone 46 ∷ literal (codes "1") ∷ alone 46 ∷ literal (codes "2") ∷ alone 46 ∷ literal (codes "3") ∷ []))
  -- `x.0. 1.2`
  pub row10 : Plain (ident (codes "x") ∷ alone 46 ∷ literal (codes "0.") ∷ literal (codes "1.2") ∷ []) None
  -- `x.1e3`
  pub row11 : Plain (ident (codes "x") ∷ alone 46 ∷ literal (codes "1e3") ∷ []) None
  -- `x.0xFF`
  pub row12 : Plain (ident (codes "x") ∷ alone 46 ∷ literal (codes "0xFF") ∷ []) (Some (ident (codes "x") ∷ alone 46 ∷ literal (codes "255") ∷ []))
  -- `()`
  pub row13 : Plain (group del.Parenthesis (inside ([])) ∷ []) (Some (group del.Parenthesis (inside ([])) ∷ []))
  -- `[a, b,]`
  pub row14 : Plain (group del.Bracket (inside (ident (codes "a") ∷ alone 44 ∷ ident (codes "b") ∷ alone 44 ∷ [])) ∷ []) (Some (group del.Bracket (inside (ident (codes "a") ∷ alone 44 ∷ ident (codes "b") ∷ alone 44 ∷ [])) ∷ []))
  -- `[a; 3]`
  pub row15 : Plain (group del.Bracket (inside (ident (codes "a") ∷ alone 59 ∷ literal (codes "3") ∷ [])) ∷ []) (Some (group del.Bracket (inside (ident (codes "a") ∷ alone 59 ∷ literal (codes "3") ∷ [])) ∷ []))
  -- `&&a`
  pub row16 : Plain (joint 38 ∷ alone 38 ∷ ident (codes "a") ∷ []) (Some (alone 38 ∷ alone 38 ∷ ident (codes "a") ∷ []))
  -- `&raw const a`
  pub row17 : Plain (alone 38 ∷ ident (codes "raw") ∷ ident (codes "const") ∷ ident (codes "a") ∷ []) (Some (alone 38 ∷ ident (codes "raw") ∷ ident (codes "const") ∷ ident (codes "a") ∷ []))
  -- `&raw[0]`
  pub row18 : Plain (alone 38 ∷ ident (codes "raw") ∷ group del.Bracket (inside (literal (codes "0") ∷ [])) ∷ []) (Some (alone 38 ∷ ident (codes "raw") ∷ group del.Bracket (inside (literal (codes "0") ∷ [])) ∷ []))
  -- `S { a: x, b, ..c }`
  pub row19 : Plain (ident (codes "S") ∷ group del.Brace (inside (ident (codes "a") ∷ alone 58 ∷ ident (codes "x") ∷ alone 44 ∷ ident (codes "b") ∷ alone 44 ∷ joint 46 ∷ alone 46 ∷ ident (codes "c") ∷ [])) ∷ []) (Some (ident (codes "S") ∷ group del.Brace (inside (ident (codes "a") ∷ alone 58 ∷ ident (codes "x") ∷ alone 44 ∷ ident (codes "b") ∷ alone 44 ∷ joint 46 ∷ alone 46 ∷ ident (codes "c") ∷ [])) ∷ []))
  -- `S { .. }`
  pub row20 : Plain (ident (codes "S") ∷ group del.Brace (inside (joint 46 ∷ alone 46 ∷ [])) ∷ []) (Some (ident (codes "S") ∷ group del.Brace (inside (joint 46 ∷ alone 46 ∷ [])) ∷ []))
  -- `S { 0: x }`
  pub row21 : Plain (ident (codes "S") ∷ group del.Brace (inside (literal (codes "0") ∷ alone 58 ∷ ident (codes "x") ∷ [])) ∷ []) (Some (ident (codes "S") ∷ group del.Brace (inside (literal (codes "0") ∷ alone 58 ∷ ident (codes "x") ∷ [])) ∷ []))
  -- `S { 0 }`
  pub row22 : Plain (ident (codes "S") ∷ group del.Brace (inside (literal (codes "0") ∷ [])) ∷ []) None
  -- `Vec::<u8>::new()`
  pub row23 : Plain (ident (codes "Vec") ∷ joint 58 ∷ joint 58 ∷ alone 60 ∷ ident (codes "u8") ∷ joint 62 ∷ joint 58 ∷ alone 58 ∷ ident (codes "new") ∷ group del.Parenthesis (inside ([])) ∷ []) (Some (ident (codes "Vec") ∷ joint 58 ∷ alone 58 ∷ alone 60 ∷ ident (codes "u8") ∷ alone 62 ∷ joint 58 ∷ alone 58 ∷ ident (codes "new") ∷ group del.Parenthesis (inside ([])) ∷ []))
  -- `<T as A>::B`
  pub row24 : Plain (alone 60 ∷ ident (codes "T") ∷ ident (codes "as") ∷ ident (codes "A") ∷ joint 62 ∷ joint 58 ∷ alone 58 ∷ ident (codes "B") ∷ []) (Some (alone 60 ∷ ident (codes "T") ∷ ident (codes "as") ∷ ident (codes "A") ∷ alone 62 ∷ joint 58 ∷ alone 58 ∷ ident (codes "B") ∷ []))
  -- `x.f::<u8>(y)`
  pub row25 : Plain (ident (codes "x") ∷ alone 46 ∷ ident (codes "f") ∷ joint 58 ∷ joint 58 ∷ alone 60 ∷ ident (codes "u8") ∷ alone 62 ∷ group del.Parenthesis (inside (ident (codes "y") ∷ [])) ∷ []) (Some (ident (codes "x") ∷ alone 46 ∷ ident (codes "f") ∷ joint 58 ∷ alone 58 ∷ alone 60 ∷ ident (codes "u8") ∷ alone 62 ∷ group del.Parenthesis (inside (ident (codes "y") ∷ [])) ∷ []))
  -- `a::m!{}`
  pub row26 : Plain (ident (codes "a") ∷ joint 58 ∷ alone 58 ∷ ident (codes "m") ∷ alone 33 ∷ group del.Brace (inside ([])) ∷ []) (Some (ident (codes "a") ∷ joint 58 ∷ alone 58 ∷ ident (codes "m") ∷ alone 33 ∷ group del.Brace (inside ([])) ∷ []))
  -- `m != x`
  pub row27 : Plain (ident (codes "m") ∷ joint 33 ∷ alone 61 ∷ ident (codes "x") ∷ []) (Some (ident (codes "m") ∷ joint 33 ∷ alone 61 ∷ ident (codes "x") ∷ []))
  -- `#[k] a.b`
  pub row28 : Plain (alone 35 ∷ group del.Bracket (inside (ident (codes "k") ∷ [])) ∷ ident (codes "a") ∷ alone 46 ∷ ident (codes "b") ∷ []) (Some (alone 35 ∷ group del.Bracket (inside (ident (codes "k") ∷ [])) ∷ ident (codes "a") ∷ alone 46 ∷ ident (codes "b") ∷ []))
  -- `-#[k] a`
  pub row29 : Plain (joint 45 ∷ alone 35 ∷ group del.Bracket (inside (ident (codes "k") ∷ [])) ∷ ident (codes "a") ∷ []) (Some (alone 45 ∷ alone 35 ∷ group del.Bracket (inside (ident (codes "k") ∷ [])) ∷ ident (codes "a") ∷ []))
  -- `#[k] -a + b`
  pub row30 : Plain (alone 35 ∷ group del.Bracket (inside (ident (codes "k") ∷ [])) ∷ alone 45 ∷ ident (codes "a") ∷ alone 43 ∷ ident (codes "b") ∷ []) (Some (alone 35 ∷ group del.Bracket (inside (ident (codes "k") ∷ [])) ∷ alone 45 ∷ ident (codes "a") ∷ alone 43 ∷ ident (codes "b") ∷ []))
  -- `|| a`
  pub row31 : Plain (joint 124 ∷ alone 124 ∷ ident (codes "a") ∷ []) (Some (alone 124 ∷ alone 124 ∷ ident (codes "a") ∷ []))
  -- `_ = f(x)`
  pub row32 : Plain (ident (codes "_") ∷ alone 61 ∷ ident (codes "f") ∷ group del.Parenthesis (inside (ident (codes "x") ∷ [])) ∷ []) (Some (ident (codes "_") ∷ alone 61 ∷ ident (codes "f") ∷ group del.Parenthesis (inside (ident (codes "x") ∷ [])) ∷ []))
  -- `move |x: u8| x`
  pub row33 : Plain (ident (codes "move") ∷ alone 124 ∷ ident (codes "x") ∷ alone 58 ∷ ident (codes "u8") ∷ alone 124 ∷ ident (codes "x") ∷ []) (Some (ident (codes "move") ∷ alone 124 ∷ ident (codes "x") ∷ alone 58 ∷ ident (codes "u8") ∷ alone 124 ∷ ident (codes "x") ∷ []))
  -- `return - 1`
  pub row34 : Plain (ident (codes "return") ∷ alone 45 ∷ literal (codes "1") ∷ []) (Some (ident (codes "return") ∷ alone 45 ∷ literal (codes "1") ∷ []))
  -- `return + 1`
  pub row35 : Plain (ident (codes "return") ∷ alone 43 ∷ literal (codes "1") ∷ []) (Some (ident (codes "return") ∷ alone 43 ∷ literal (codes "1") ∷ []))
  -- `let Some(x) = a && b`
  pub row36 : Plain (ident (codes "let") ∷ ident (codes "Some") ∷ group del.Parenthesis (inside (ident (codes "x") ∷ [])) ∷ alone 61 ∷ ident (codes "a") ∷ joint 38 ∷ alone 38 ∷ ident (codes "b") ∷ []) (Some (ident (codes "let") ∷ ident (codes "Some") ∷ group del.Parenthesis (inside (ident (codes "x") ∷ [])) ∷ alone 61 ∷ ident (codes "a") ∷ joint 38 ∷ alone 38 ∷ ident (codes "b") ∷ []))
  -- `a.. =b`
  pub row37 : Plain (ident (codes "a") ∷ joint 46 ∷ alone 46 ∷ alone 61 ∷ ident (codes "b") ∷ []) None
  -- `x as &dyn A + b`
  pub row38 : Plain (ident (codes "x") ∷ ident (codes "as") ∷ alone 38 ∷ ident (codes "dyn") ∷ ident (codes "A") ∷ alone 43 ∷ ident (codes "b") ∷ []) (Some (ident (codes "x") ∷ ident (codes "as") ∷ alone 38 ∷ ident (codes "dyn") ∷ ident (codes "A") ∷ alone 43 ∷ ident (codes "b") ∷ []))
  -- `for x in 0..n { }`
  pub row39 : Plain (ident (codes "for") ∷ ident (codes "x") ∷ ident (codes "in") ∷ literal (codes "0") ∷ joint 46 ∷ alone 46 ∷ ident (codes "n") ∷ group del.Brace (inside ([])) ∷ []) (Some (ident (codes "for") ∷ ident (codes "x") ∷ ident (codes "in") ∷ literal (codes "0") ∷ joint 46 ∷ alone 46 ∷ ident (codes "n") ∷ group del.Brace (inside ([])) ∷ []))
  -- `'a: while x { }`
  pub row40 : Plain (joint 39 ∷ ident (codes "a") ∷ alone 58 ∷ ident (codes "while") ∷ ident (codes "x") ∷ group del.Brace (inside ([])) ∷ []) (Some (joint 39 ∷ ident (codes "a") ∷ alone 58 ∷ ident (codes "while") ∷ ident (codes "x") ∷ group del.Brace (inside ([])) ∷ []))

pub record PlainRows3 : Type 0 where
  -- `if let Some(x) = y && z {}`
  pub row1 : Plain (ident (codes "if") ∷ ident (codes "let") ∷ ident (codes "Some") ∷ group del.Parenthesis (inside (ident (codes "x") ∷ [])) ∷ alone 61 ∷ ident (codes "y") ∷ joint 38 ∷ alone 38 ∷ ident (codes "z") ∷ group del.Brace (inside ([])) ∷ []) (Some (ident (codes "if") ∷ ident (codes "let") ∷ ident (codes "Some") ∷ group del.Parenthesis (inside (ident (codes "x") ∷ [])) ∷ alone 61 ∷ ident (codes "y") ∷ joint 38 ∷ alone 38 ∷ ident (codes "z") ∷ group del.Brace (inside ([])) ∷ []))
  -- `|x| -> u8 { x }`
  pub row2 : Plain (alone 124 ∷ ident (codes "x") ∷ alone 124 ∷ joint 45 ∷ alone 62 ∷ ident (codes "u8") ∷ group del.Brace (inside (ident (codes "x") ∷ [])) ∷ []) (Some (alone 124 ∷ ident (codes "x") ∷ alone 124 ∷ joint 45 ∷ alone 62 ∷ ident (codes "u8") ∷ group del.Brace (inside (ident (codes "x") ∷ [])) ∷ []))
  -- `unsafe { #![k] a }`
  pub row3 : Plain (ident (codes "unsafe") ∷ group del.Brace (inside (joint 35 ∷ alone 33 ∷ group del.Bracket (inside (ident (codes "k") ∷ [])) ∷ ident (codes "a") ∷ [])) ∷ []) (Some (ident (codes "unsafe") ∷ group del.Brace (inside (alone 35 ∷ alone 33 ∷ group del.Bracket (inside (ident (codes "k") ∷ [])) ∷ ident (codes "a") ∷ [])) ∷ []))
  -- `async { #![k] a }`
  pub row4 : Plain (ident (codes "async") ∷ group del.Brace (inside (joint 35 ∷ alone 33 ∷ group del.Bracket (inside (ident (codes "k") ∷ [])) ∷ ident (codes "a") ∷ [])) ∷ []) (Some (ident (codes "async") ∷ group del.Brace (inside (joint 35 ∷ alone 33 ∷ group del.Bracket (inside (ident (codes "k") ∷ [])) ∷ ident (codes "a") ∷ [])) ∷ []))
  -- `if x == S {} {}`
  pub row5 : Plain (ident (codes "if") ∷ ident (codes "x") ∷ joint 61 ∷ alone 61 ∷ ident (codes "S") ∷ group del.Brace (inside ([])) ∷ group del.Brace (inside ([])) ∷ []) None
  -- `match x { a if b => c, _ => {} }`
  pub row6 : Plain (ident (codes "match") ∷ ident (codes "x") ∷ group del.Brace (inside (ident (codes "a") ∷ ident (codes "if") ∷ ident (codes "b") ∷ joint 61 ∷ alone 62 ∷ ident (codes "c") ∷ alone 44 ∷ ident (codes "_") ∷ joint 61 ∷ alone 62 ∷ group del.Brace (inside ([])) ∷ [])) ∷ []) (Some (ident (codes "match") ∷ ident (codes "x") ∷ group del.Brace (inside (ident (codes "a") ∷ ident (codes "if") ∷ ident (codes "b") ∷ joint 61 ∷ alone 62 ∷ ident (codes "c") ∷ alone 44 ∷ ident (codes "_") ∷ joint 61 ∷ alone 62 ∷ group del.Brace (inside ([])) ∷ [])) ∷ []))
  -- `match x { _ => {} (1) }`
  pub row7 : Plain (ident (codes "match") ∷ ident (codes "x") ∷ group del.Brace (inside (ident (codes "_") ∷ joint 61 ∷ alone 62 ∷ group del.Brace (inside ([])) ∷ group del.Parenthesis (inside (literal (codes "1") ∷ [])) ∷ [])) ∷ []) None
  -- `become f(x)`
  pub row8 : Plain (ident (codes "become") ∷ ident (codes "f") ∷ group del.Parenthesis (inside (ident (codes "x") ∷ [])) ∷ []) (Some (ident (codes "become") ∷ ident (codes "f") ∷ group del.Parenthesis (inside (ident (codes "x") ∷ [])) ∷ []))
  -- `builtin # f(x).y`
  pub row9 : Plain (ident (codes "builtin") ∷ alone 35 ∷ ident (codes "f") ∷ group del.Parenthesis (inside (ident (codes "x") ∷ [])) ∷ alone 46 ∷ ident (codes "y") ∷ []) (Some (ident (codes "builtin") ∷ alone 35 ∷ ident (codes "f") ∷ group del.Parenthesis (inside (ident (codes "x") ∷ [])) ∷ alone 46 ∷ ident (codes "y") ∷ []))
  -- `a - = b`
  pub row10 : Plain (ident (codes "a") ∷ alone 45 ∷ alone 61 ∷ ident (codes "b") ∷ []) None
  -- `a * = b`
  pub row11 : Plain (ident (codes "a") ∷ alone 42 ∷ alone 61 ∷ ident (codes "b") ∷ []) None
  -- `a / = b`
  pub row12 : Plain (ident (codes "a") ∷ alone 47 ∷ alone 61 ∷ ident (codes "b") ∷ []) None
  -- `a % = b`
  pub row13 : Plain (ident (codes "a") ∷ alone 37 ∷ alone 61 ∷ ident (codes "b") ∷ []) None
  -- `a ^ = b`
  pub row14 : Plain (ident (codes "a") ∷ alone 94 ∷ alone 61 ∷ ident (codes "b") ∷ []) None
  -- `a & = b`
  pub row15 : Plain (ident (codes "a") ∷ alone 38 ∷ alone 61 ∷ ident (codes "b") ∷ []) None
  -- `a | = b`
  pub row16 : Plain (ident (codes "a") ∷ alone 124 ∷ alone 61 ∷ ident (codes "b") ∷ []) None
  -- `a = = b`
  pub row17 : Plain (ident (codes "a") ∷ alone 61 ∷ alone 61 ∷ ident (codes "b") ∷ []) None
  -- `a < = b`
  pub row18 : Plain (ident (codes "a") ∷ alone 60 ∷ alone 61 ∷ ident (codes "b") ∷ []) None
  -- `a > = b`
  pub row19 : Plain (ident (codes "a") ∷ alone 62 ∷ alone 61 ∷ ident (codes "b") ∷ []) None
  -- `a > > b`
  pub row20 : Plain (ident (codes "a") ∷ alone 62 ∷ alone 62 ∷ ident (codes "b") ∷ []) None
  -- `a << = b`
  pub row21 : Plain (ident (codes "a") ∷ joint 60 ∷ alone 60 ∷ alone 61 ∷ ident (codes "b") ∷ []) None
  -- `a >> = b`
  pub row22 : Plain (ident (codes "a") ∷ joint 62 ∷ alone 62 ∷ alone 61 ∷ ident (codes "b") ∷ []) None
  -- `a ! = b`
  pub row23 : Plain (ident (codes "a") ∷ alone 33 ∷ alone 61 ∷ ident (codes "b") ∷ []) None
  -- `a | | b`
  pub row24 : Plain (ident (codes "a") ∷ alone 124 ∷ alone 124 ∷ ident (codes "b") ∷ []) None
  -- `a . . b`
  pub row25 : Plain (ident (codes "a") ∷ alone 46 ∷ alone 46 ∷ ident (codes "b") ∷ []) None
  -- `a -> b`
  pub row26 : Plain (ident (codes "a") ∷ joint 45 ∷ alone 62 ∷ ident (codes "b") ∷ []) None
  -- `a => b`
  pub row27 : Plain (ident (codes "a") ∷ joint 61 ∷ alone 62 ∷ ident (codes "b") ∷ []) None
  -- `a===b`
  pub row28 : Plain (ident (codes "a") ∷ joint 61 ∷ joint 61 ∷ alone 61 ∷ ident (codes "b") ∷ []) None
  -- `a<<==b`
  pub row29 : Plain (ident (codes "a") ∷ joint 60 ∷ joint 60 ∷ joint 61 ∷ alone 61 ∷ ident (codes "b") ∷ []) None
  -- `a&&&b`
  pub row30 : Plain (ident (codes "a") ∷ joint 38 ∷ joint 38 ∷ alone 38 ∷ ident (codes "b") ∷ []) (Some (ident (codes "a") ∷ joint 38 ∷ alone 38 ∷ alone 38 ∷ ident (codes "b") ∷ []))
  -- `a||||b`
  pub row31 : Plain (ident (codes "a") ∷ joint 124 ∷ joint 124 ∷ joint 124 ∷ alone 124 ∷ ident (codes "b") ∷ []) (Some (ident (codes "a") ∷ joint 124 ∷ alone 124 ∷ alone 124 ∷ alone 124 ∷ ident (codes "b") ∷ []))
  -- `a =- b`
  pub row32 : Plain (ident (codes "a") ∷ joint 61 ∷ alone 45 ∷ ident (codes "b") ∷ []) (Some (ident (codes "a") ∷ alone 61 ∷ alone 45 ∷ ident (codes "b") ∷ []))
  -- `a<<=b`
  pub row33 : Plain (ident (codes "a") ∷ joint 60 ∷ joint 60 ∷ alone 61 ∷ ident (codes "b") ∷ []) (Some (ident (codes "a") ∷ joint 60 ∷ joint 60 ∷ alone 61 ∷ ident (codes "b") ∷ []))
  -- `a + .. / c`
  pub row34 : Plain (ident (codes "a") ∷ alone 43 ∷ joint 46 ∷ alone 46 ∷ alone 47 ∷ ident (codes "c") ∷ []) (Some (ident (codes "a") ∷ alone 43 ∷ joint 46 ∷ alone 46 ∷ alone 47 ∷ ident (codes "c") ∷ []))
  -- `a + .. * c`
  pub row35 : Plain (ident (codes "a") ∷ alone 43 ∷ joint 46 ∷ alone 46 ∷ alone 42 ∷ ident (codes "c") ∷ []) (Some (ident (codes "a") ∷ alone 43 ∷ joint 46 ∷ alone 46 ∷ alone 42 ∷ ident (codes "c") ∷ []))
  -- `a = b = ..c = d`
  pub row36 : Plain (ident (codes "a") ∷ alone 61 ∷ ident (codes "b") ∷ alone 61 ∷ joint 46 ∷ alone 46 ∷ ident (codes "c") ∷ alone 61 ∷ ident (codes "d") ∷ []) (Some (ident (codes "a") ∷ alone 61 ∷ ident (codes "b") ∷ alone 61 ∷ joint 46 ∷ alone 46 ∷ ident (codes "c") ∷ alone 61 ∷ ident (codes "d") ∷ []))
  -- `let x = .. = y`
  pub row37 : Plain (ident (codes "let") ∷ ident (codes "x") ∷ alone 61 ∷ joint 46 ∷ alone 46 ∷ alone 61 ∷ ident (codes "y") ∷ []) (Some (ident (codes "let") ∷ ident (codes "x") ∷ alone 61 ∷ joint 46 ∷ alone 46 ∷ alone 61 ∷ ident (codes "y") ∷ []))
  -- `|x| .. + 1`
  pub row38 : Plain (alone 124 ∷ ident (codes "x") ∷ alone 124 ∷ joint 46 ∷ alone 46 ∷ alone 43 ∷ literal (codes "1") ∷ []) (Some (alone 124 ∷ ident (codes "x") ∷ alone 124 ∷ joint 46 ∷ alone 46 ∷ alone 43 ∷ literal (codes "1") ∷ []))
  -- `break .. as u8`
  pub row39 : Plain (ident (codes "break") ∷ joint 46 ∷ alone 46 ∷ ident (codes "as") ∷ ident (codes "u8") ∷ []) (Some (ident (codes "break") ∷ joint 46 ∷ alone 46 ∷ ident (codes "as") ∷ ident (codes "u8") ∷ []))
  -- `a as u8 .. + 1`
  pub row40 : Plain (ident (codes "a") ∷ ident (codes "as") ∷ ident (codes "u8") ∷ joint 46 ∷ alone 46 ∷ alone 43 ∷ literal (codes "1") ∷ []) None

pub record PlainRows4 : Type 0 where
  -- `&.. ?`
  pub row1 : Plain (joint 38 ∷ joint 46 ∷ alone 46 ∷ alone 63 ∷ []) None
  -- `a + #[k] b`
  pub row2 : Plain (ident (codes "a") ∷ alone 43 ∷ alone 35 ∷ group del.Bracket (inside (ident (codes "k") ∷ [])) ∷ ident (codes "b") ∷ []) (Some (ident (codes "a") ∷ alone 43 ∷ alone 35 ∷ group del.Bracket (inside (ident (codes "k") ∷ [])) ∷ ident (codes "b") ∷ []))
  -- `f(#[k] a, b)`
  pub row3 : Plain (ident (codes "f") ∷ group del.Parenthesis (inside (alone 35 ∷ group del.Bracket (inside (ident (codes "k") ∷ [])) ∷ ident (codes "a") ∷ alone 44 ∷ ident (codes "b") ∷ [])) ∷ []) (Some (ident (codes "f") ∷ group del.Parenthesis (inside (alone 35 ∷ group del.Bracket (inside (ident (codes "k") ∷ [])) ∷ ident (codes "a") ∷ alone 44 ∷ ident (codes "b") ∷ [])) ∷ []))
  -- `[#[k] a; 2]`
  pub row4 : Plain (group del.Bracket (inside (alone 35 ∷ group del.Bracket (inside (ident (codes "k") ∷ [])) ∷ ident (codes "a") ∷ alone 59 ∷ literal (codes "2") ∷ [])) ∷ []) (Some (group del.Bracket (inside (alone 35 ∷ group del.Bracket (inside (ident (codes "k") ∷ [])) ∷ ident (codes "a") ∷ alone 59 ∷ literal (codes "2") ∷ [])) ∷ []))
  -- `S { #[k] a: b }`
  pub row5 : Plain (ident (codes "S") ∷ group del.Brace (inside (alone 35 ∷ group del.Bracket (inside (ident (codes "k") ∷ [])) ∷ ident (codes "a") ∷ alone 58 ∷ ident (codes "b") ∷ [])) ∷ []) (Some (ident (codes "S") ∷ group del.Brace (inside (alone 35 ∷ group del.Bracket (inside (ident (codes "k") ∷ [])) ∷ ident (codes "a") ∷ alone 58 ∷ ident (codes "b") ∷ [])) ∷ []))
  -- `match x { #[k] _ => y }`
  pub row6 : Plain (ident (codes "match") ∷ ident (codes "x") ∷ group del.Brace (inside (alone 35 ∷ group del.Bracket (inside (ident (codes "k") ∷ [])) ∷ ident (codes "_") ∷ joint 61 ∷ alone 62 ∷ ident (codes "y") ∷ [])) ∷ []) (Some (ident (codes "match") ∷ ident (codes "x") ∷ group del.Brace (inside (alone 35 ∷ group del.Bracket (inside (ident (codes "k") ∷ [])) ∷ ident (codes "_") ∷ joint 61 ∷ alone 62 ∷ ident (codes "y") ∷ [])) ∷ []))
  -- `|#[k] x| x`
  pub row7 : Plain (joint 124 ∷ alone 35 ∷ group del.Bracket (inside (ident (codes "k") ∷ [])) ∷ ident (codes "x") ∷ alone 124 ∷ ident (codes "x") ∷ []) (Some (alone 124 ∷ alone 35 ∷ group del.Bracket (inside (ident (codes "k") ∷ [])) ∷ ident (codes "x") ∷ alone 124 ∷ ident (codes "x") ∷ []))
  -- `a..#[k] b`
  pub row8 : Plain (ident (codes "a") ∷ joint 46 ∷ joint 46 ∷ alone 35 ∷ group del.Bracket (inside (ident (codes "k") ∷ [])) ∷ ident (codes "b") ∷ []) (Some (ident (codes "a") ∷ joint 46 ∷ alone 46 ∷ alone 35 ∷ group del.Bracket (inside (ident (codes "k") ∷ [])) ∷ ident (codes "b") ∷ []))
  -- `return #[k] a`
  pub row9 : Plain (ident (codes "return") ∷ alone 35 ∷ group del.Bracket (inside (ident (codes "k") ∷ [])) ∷ ident (codes "a") ∷ []) (Some (ident (codes "return") ∷ alone 35 ∷ group del.Bracket (inside (ident (codes "k") ∷ [])) ∷ ident (codes "a") ∷ []))
  -- `if #[k] a {}`
  pub row10 : Plain (ident (codes "if") ∷ alone 35 ∷ group del.Bracket (inside (ident (codes "k") ∷ [])) ∷ ident (codes "a") ∷ group del.Brace (inside ([])) ∷ []) (Some (ident (codes "if") ∷ alone 35 ∷ group del.Bracket (inside (ident (codes "k") ∷ [])) ∷ ident (codes "a") ∷ group del.Brace (inside ([])) ∷ []))
  -- `#[k] -..b`
  pub row11 : Plain (alone 35 ∷ group del.Bracket (inside (ident (codes "k") ∷ [])) ∷ joint 45 ∷ joint 46 ∷ alone 46 ∷ ident (codes "b") ∷ []) (Some (alone 35 ∷ group del.Bracket (inside (ident (codes "k") ∷ [])) ∷ alone 45 ∷ joint 46 ∷ alone 46 ∷ ident (codes "b") ∷ []))
  -- `a = #[k] ..b`
  pub row12 : Plain (ident (codes "a") ∷ alone 61 ∷ alone 35 ∷ group del.Bracket (inside (ident (codes "k") ∷ [])) ∷ joint 46 ∷ alone 46 ∷ ident (codes "b") ∷ []) None
  -- `a.#[k] b`
  pub row13 : Plain (ident (codes "a") ∷ joint 46 ∷ alone 35 ∷ group del.Bracket (inside (ident (codes "k") ∷ [])) ∷ ident (codes "b") ∷ []) None
  -- `a #[k] + b`
  pub row14 : Plain (ident (codes "a") ∷ alone 35 ∷ group del.Bracket (inside (ident (codes "k") ∷ [])) ∷ alone 43 ∷ ident (codes "b") ∷ []) None
  -- `if a {} else #[k] if b {}`
  pub row15 : Plain (ident (codes "if") ∷ ident (codes "a") ∷ group del.Brace (inside ([])) ∷ ident (codes "else") ∷ alone 35 ∷ group del.Bracket (inside (ident (codes "k") ∷ [])) ∷ ident (codes "if") ∷ ident (codes "b") ∷ group del.Brace (inside ([])) ∷ []) None
  -- `a`
  pub row16 : Plain (ident (codes "a") ∷ []) (Some (ident (codes "a") ∷ []))
  -- `a + b`
  pub row17 : Plain (ident (codes "a") ∷ alone 43 ∷ ident (codes "b") ∷ []) (Some (ident (codes "a") ∷ alone 43 ∷ ident (codes "b") ∷ []))
  -- `a + b *`
  pub row18 : Plain (ident (codes "a") ∷ alone 43 ∷ ident (codes "b") ∷ alone 42 ∷ []) None
  -- `a + b * (c)`
  pub row19 : Plain (ident (codes "a") ∷ alone 43 ∷ ident (codes "b") ∷ alone 42 ∷ group del.Parenthesis (inside (ident (codes "c") ∷ [])) ∷ []) (Some (ident (codes "a") ∷ alone 43 ∷ ident (codes "b") ∷ alone 42 ∷ group del.Parenthesis (inside (ident (codes "c") ∷ [])) ∷ []))
  -- `(a b)`
  pub row20 : Plain (group del.Parenthesis (inside (ident (codes "a") ∷ ident (codes "b") ∷ [])) ∷ []) None
  -- `[a; b c]`
  pub row21 : Plain (group del.Bracket (inside (ident (codes "a") ∷ alone 59 ∷ ident (codes "b") ∷ ident (codes "c") ∷ [])) ∷ []) None
  -- `S { a: b c }`
  pub row22 : Plain (ident (codes "S") ∷ group del.Brace (inside (ident (codes "a") ∷ alone 58 ∷ ident (codes "b") ∷ ident (codes "c") ∷ [])) ∷ []) None
  -- `S { ..b c }`
  pub row23 : Plain (ident (codes "S") ∷ group del.Brace (inside (joint 46 ∷ alone 46 ∷ ident (codes "b") ∷ ident (codes "c") ∷ [])) ∷ []) None
  -- `S { .. , }`
  pub row24 : Plain (ident (codes "S") ∷ group del.Brace (inside (joint 46 ∷ alone 46 ∷ alone 44 ∷ [])) ∷ []) None
  -- `x[]`
  pub row25 : Plain (ident (codes "x") ∷ group del.Bracket (inside ([])) ∷ []) None
  -- `x[a b] + y[c d]`
  pub row26 : Plain (ident (codes "x") ∷ group del.Bracket (inside (ident (codes "a") ∷ ident (codes "b") ∷ [])) ∷ alone 43 ∷ ident (codes "y") ∷ group del.Bracket (inside (ident (codes "c") ∷ ident (codes "d") ∷ [])) ∷ []) None
  -- `x[a b] +`
  pub row27 : Plain (ident (codes "x") ∷ group del.Bracket (inside (ident (codes "a") ∷ ident (codes "b") ∷ [])) ∷ alone 43 ∷ []) None
  -- `== ~2.5 b&& `
  pub row28 : Plain (joint 61 ∷ alone 61 ∷ alone 126 ∷ literal (codes "2.5") ∷ ident (codes "b") ∷ joint 38 ∷ alone 38 ∷ []) None
  -- `@ >= `
  pub row29 : Plain (alone 64 ∷ joint 62 ∷ alone 61 ∷ []) None
  -- `(1. // d\n>= 2.5) / 1e3  > x >>\né`
  pub row30 : Plain (group del.Parenthesis (inside (literal (codes "1.") ∷ joint 62 ∷ alone 61 ∷ literal (codes "2.5") ∷ [])) ∷ alone 47 ∷ literal (codes "1e3") ∷ alone 62 ∷ ident (codes "x") ∷ joint 62 ∷ alone 62 ∷ ident (233 ∷ []) ∷ []) (Some (group del.Parenthesis (inside (literal (codes "1.") ∷ joint 62 ∷ alone 61 ∷ literal (codes "2.5") ∷ [])) ∷ alone 47 ∷ literal (codes "1e3") ∷ alone 62 ∷ ident (codes "x") ∷ joint 62 ∷ alone 62 ∷ ident (233 ∷ []) ∷ []))
  -- `!= `
  pub row31 : Plain (joint 33 ∷ alone 61 ∷ []) None
  -- `= >= $ `
  pub row32 : Plain (alone 61 ∷ joint 62 ∷ alone 61 ∷ alone 36 ∷ []) None
  -- `3.0f32`
  pub row33 : Plain (literal (codes "3.0f32") ∷ []) (Some (literal (codes "3.0f32") ∷ []))
  -- `1e3`
  pub row34 : Plain (literal (codes "1e3") ∷ []) (Some (literal (codes "1e3") ∷ []))

pub record PlainBareRows1 : Type 0 where
  -- `v + (q || .. / c)`
  pub row1 : PlainBare (ident (codes "v") ∷ alone 43 ∷ group del.Parenthesis (inside (ident (codes "q") ∷ joint 124 ∷ alone 124 ∷ joint 46 ∷ alone 46 ∷ alone 47 ∷ ident (codes "c") ∷ [])) ∷ []) (Some (ident (codes "v") ∷ alone 43 ∷ group del.Parenthesis (inside (ident (codes "q") ∷ joint 124 ∷ alone 124 ∷ joint 46 ∷ alone 46 ∷ alone 47 ∷ ident (codes "c") ∷ [])) ∷ []))
  -- `(return) - 1`
  pub row2 : PlainBare (group del.Parenthesis (inside (ident (codes "return") ∷ [])) ∷ alone 45 ∷ literal (codes "1") ∷ []) (Some (group del.Parenthesis (inside (ident (codes "return") ∷ [])) ∷ alone 45 ∷ literal (codes "1") ∷ []))
  -- `(return) + 1`
  pub row3 : PlainBare (group del.Parenthesis (inside (ident (codes "return") ∷ [])) ∷ alone 43 ∷ literal (codes "1") ∷ []) (Some (ident (codes "return") ∷ alone 43 ∷ literal (codes "1") ∷ []))
  -- `(1 + return 1) + 1`
  pub row4 : PlainBare (group del.Parenthesis (inside (literal (codes "1") ∷ alone 43 ∷ ident (codes "return") ∷ literal (codes "1") ∷ [])) ∷ alone 43 ∷ literal (codes "1") ∷ []) (Some (literal (codes "1") ∷ alone 43 ∷ group del.Parenthesis (inside (ident (codes "return") ∷ literal (codes "1") ∷ [])) ∷ alone 43 ∷ literal (codes "1") ∷ []))
  -- `(a + return b) * c`
  pub row5 : PlainBare (group del.Parenthesis (inside (ident (codes "a") ∷ alone 43 ∷ ident (codes "return") ∷ ident (codes "b") ∷ [])) ∷ alone 42 ∷ ident (codes "c") ∷ []) (Some (group del.Parenthesis (inside (ident (codes "a") ∷ alone 43 ∷ ident (codes "return") ∷ ident (codes "b") ∷ [])) ∷ alone 42 ∷ ident (codes "c") ∷ []))
  -- `(x as u8) < T`
  pub row6 : PlainBare (group del.Parenthesis (inside (ident (codes "x") ∷ ident (codes "as") ∷ ident (codes "u8") ∷ [])) ∷ alone 60 ∷ ident (codes "T") ∷ []) (Some (group del.Parenthesis (inside (ident (codes "x") ∷ ident (codes "as") ∷ ident (codes "u8") ∷ [])) ∷ alone 60 ∷ ident (codes "T") ∷ []))
  -- `(x as u8) <<= 1`
  pub row7 : PlainBare (group del.Parenthesis (inside (ident (codes "x") ∷ ident (codes "as") ∷ ident (codes "u8") ∷ [])) ∷ joint 60 ∷ joint 60 ∷ alone 61 ∷ literal (codes "1") ∷ []) (Some (group del.Parenthesis (inside (ident (codes "x") ∷ ident (codes "as") ∷ ident (codes "u8") ∷ [])) ∷ joint 60 ∷ joint 60 ∷ alone 61 ∷ literal (codes "1") ∷ []))
  -- `(x as u8) <= y`
  pub row8 : PlainBare (group del.Parenthesis (inside (ident (codes "x") ∷ ident (codes "as") ∷ ident (codes "u8") ∷ [])) ∷ joint 60 ∷ alone 61 ∷ ident (codes "y") ∷ []) (Some (ident (codes "x") ∷ ident (codes "as") ∷ ident (codes "u8") ∷ joint 60 ∷ alone 61 ∷ ident (codes "y") ∷ []))
  -- `break ('a: loop {})`
  pub row9 : PlainBare (ident (codes "break") ∷ group del.Parenthesis (inside (joint 39 ∷ ident (codes "a") ∷ alone 58 ∷ ident (codes "loop") ∷ group del.Brace (inside ([])) ∷ [])) ∷ []) (Some (ident (codes "break") ∷ group del.Parenthesis (inside (joint 39 ∷ ident (codes "a") ∷ alone 58 ∷ ident (codes "loop") ∷ group del.Brace (inside ([])) ∷ [])) ∷ []))
  -- `((1 + 1))`
  pub row10 : PlainBare (group del.Parenthesis (inside (group del.Parenthesis (inside (literal (codes "1") ∷ alone 43 ∷ literal (codes "1") ∷ [])) ∷ [])) ∷ []) (Some (literal (codes "1") ∷ alone 43 ∷ literal (codes "1") ∷ []))
  -- `(a + b) * c`
  pub row11 : PlainBare (group del.Parenthesis (inside (ident (codes "a") ∷ alone 43 ∷ ident (codes "b") ∷ [])) ∷ alone 42 ∷ ident (codes "c") ∷ []) (Some (group del.Parenthesis (inside (ident (codes "a") ∷ alone 43 ∷ ident (codes "b") ∷ [])) ∷ alone 42 ∷ ident (codes "c") ∷ []))
  -- `(#[k] x.0)(y)`
  pub row12 : PlainBare (group del.Parenthesis (inside (alone 35 ∷ group del.Bracket (inside (ident (codes "k") ∷ [])) ∷ ident (codes "x") ∷ alone 46 ∷ literal (codes "0") ∷ [])) ∷ group del.Parenthesis (inside (ident (codes "y") ∷ [])) ∷ []) (Some (group del.Parenthesis (inside (alone 35 ∷ group del.Bracket (inside (ident (codes "k") ∷ [])) ∷ ident (codes "x") ∷ alone 46 ∷ literal (codes "0") ∷ [])) ∷ group del.Parenthesis (inside (ident (codes "y") ∷ [])) ∷ []))
  -- `(x.0)(y)`
  pub row13 : PlainBare (group del.Parenthesis (inside (ident (codes "x") ∷ alone 46 ∷ literal (codes "0") ∷ [])) ∷ group del.Parenthesis (inside (ident (codes "y") ∷ [])) ∷ []) (Some (ident (codes "x") ∷ alone 46 ∷ literal (codes "0") ∷ group del.Parenthesis (inside (ident (codes "y") ∷ [])) ∷ []))
  -- `(x.f)(y)`
  pub row14 : PlainBare (group del.Parenthesis (inside (ident (codes "x") ∷ alone 46 ∷ ident (codes "f") ∷ [])) ∷ group del.Parenthesis (inside (ident (codes "y") ∷ [])) ∷ []) (Some (group del.Parenthesis (inside (ident (codes "x") ∷ alone 46 ∷ ident (codes "f") ∷ [])) ∷ group del.Parenthesis (inside (ident (codes "y") ∷ [])) ∷ []))
  -- `(#[k] return).x`
  pub row15 : PlainBare (group del.Parenthesis (inside (alone 35 ∷ group del.Bracket (inside (ident (codes "k") ∷ [])) ∷ ident (codes "return") ∷ [])) ∷ alone 46 ∷ ident (codes "x") ∷ []) (Some (group del.Parenthesis (inside (alone 35 ∷ group del.Bracket (inside (ident (codes "k") ∷ [])) ∷ ident (codes "return") ∷ [])) ∷ alone 46 ∷ ident (codes "x") ∷ []))
  -- `a - (b - c)`
  pub row16 : PlainBare (ident (codes "a") ∷ alone 45 ∷ group del.Parenthesis (inside (ident (codes "b") ∷ alone 45 ∷ ident (codes "c") ∷ [])) ∷ []) (Some (ident (codes "a") ∷ alone 45 ∷ group del.Parenthesis (inside (ident (codes "b") ∷ alone 45 ∷ ident (codes "c") ∷ [])) ∷ []))
  -- `-(a + b)`
  pub row17 : PlainBare (alone 45 ∷ group del.Parenthesis (inside (ident (codes "a") ∷ alone 43 ∷ ident (codes "b") ∷ [])) ∷ []) (Some (alone 45 ∷ group del.Parenthesis (inside (ident (codes "a") ∷ alone 43 ∷ ident (codes "b") ∷ [])) ∷ []))
  -- `(-a) * b`
  pub row18 : PlainBare (group del.Parenthesis (inside (alone 45 ∷ ident (codes "a") ∷ [])) ∷ alone 42 ∷ ident (codes "b") ∷ []) (Some (alone 45 ∷ ident (codes "a") ∷ alone 42 ∷ ident (codes "b") ∷ []))
  -- `(-a).f`
  pub row19 : PlainBare (group del.Parenthesis (inside (alone 45 ∷ ident (codes "a") ∷ [])) ∷ alone 46 ∷ ident (codes "f") ∷ []) (Some (group del.Parenthesis (inside (alone 45 ∷ ident (codes "a") ∷ [])) ∷ alone 46 ∷ ident (codes "f") ∷ []))
  -- `-(a.f)`
  pub row20 : PlainBare (alone 45 ∷ group del.Parenthesis (inside (ident (codes "a") ∷ alone 46 ∷ ident (codes "f") ∷ [])) ∷ []) (Some (alone 45 ∷ ident (codes "a") ∷ alone 46 ∷ ident (codes "f") ∷ []))
  -- `a + (b = c)`
  pub row21 : PlainBare (ident (codes "a") ∷ alone 43 ∷ group del.Parenthesis (inside (ident (codes "b") ∷ alone 61 ∷ ident (codes "c") ∷ [])) ∷ []) (Some (ident (codes "a") ∷ alone 43 ∷ group del.Parenthesis (inside (ident (codes "b") ∷ alone 61 ∷ ident (codes "c") ∷ [])) ∷ []))
  -- `let x = (a && b)`
  pub row22 : PlainBare (ident (codes "let") ∷ ident (codes "x") ∷ alone 61 ∷ group del.Parenthesis (inside (ident (codes "a") ∷ joint 38 ∷ alone 38 ∷ ident (codes "b") ∷ [])) ∷ []) (Some (ident (codes "let") ∷ ident (codes "x") ∷ alone 61 ∷ group del.Parenthesis (inside (ident (codes "a") ∷ joint 38 ∷ alone 38 ∷ ident (codes "b") ∷ [])) ∷ []))
  -- `(|x| x)(1)`
  pub row23 : PlainBare (group del.Parenthesis (inside (alone 124 ∷ ident (codes "x") ∷ alone 124 ∷ ident (codes "x") ∷ [])) ∷ group del.Parenthesis (inside (literal (codes "1") ∷ [])) ∷ []) (Some (group del.Parenthesis (inside (alone 124 ∷ ident (codes "x") ∷ alone 124 ∷ ident (codes "x") ∷ [])) ∷ group del.Parenthesis (inside (literal (codes "1") ∷ [])) ∷ []))
  -- `(return a)?`
  pub row24 : PlainBare (group del.Parenthesis (inside (ident (codes "return") ∷ ident (codes "a") ∷ [])) ∷ alone 63 ∷ []) (Some (group del.Parenthesis (inside (ident (codes "return") ∷ ident (codes "a") ∷ [])) ∷ alone 63 ∷ []))
  -- `(a..b)..c`
  pub row25 : PlainBare (group del.Parenthesis (inside (ident (codes "a") ∷ joint 46 ∷ alone 46 ∷ ident (codes "b") ∷ [])) ∷ joint 46 ∷ alone 46 ∷ ident (codes "c") ∷ []) (Some (group del.Parenthesis (inside (ident (codes "a") ∷ joint 46 ∷ alone 46 ∷ ident (codes "b") ∷ [])) ∷ joint 46 ∷ alone 46 ∷ ident (codes "c") ∷ []))
  -- `(a + (b as u8)) < c`
  pub row26 : PlainBare (group del.Parenthesis (inside (ident (codes "a") ∷ alone 43 ∷ group del.Parenthesis (inside (ident (codes "b") ∷ ident (codes "as") ∷ ident (codes "u8") ∷ [])) ∷ [])) ∷ alone 60 ∷ ident (codes "c") ∷ []) (Some (ident (codes "a") ∷ alone 43 ∷ group del.Parenthesis (inside (ident (codes "b") ∷ ident (codes "as") ∷ ident (codes "u8") ∷ [])) ∷ alone 60 ∷ ident (codes "c") ∷ []))
  -- `#[k] (#[l] a)`
  pub row27 : PlainBare (alone 35 ∷ group del.Bracket (inside (ident (codes "k") ∷ [])) ∷ group del.Parenthesis (inside (alone 35 ∷ group del.Bracket (inside (ident (codes "l") ∷ [])) ∷ ident (codes "a") ∷ [])) ∷ []) (Some (alone 35 ∷ group del.Bracket (inside (ident (codes "k") ∷ [])) ∷ alone 35 ∷ group del.Bracket (inside (ident (codes "l") ∷ [])) ∷ ident (codes "a") ∷ []))
  -- `#[k] (a + b)`
  pub row28 : PlainBare (alone 35 ∷ group del.Bracket (inside (ident (codes "k") ∷ [])) ∷ group del.Parenthesis (inside (ident (codes "a") ∷ alone 43 ∷ ident (codes "b") ∷ [])) ∷ []) (Some (alone 35 ∷ group del.Bracket (inside (ident (codes "k") ∷ [])) ∷ group del.Parenthesis (inside (ident (codes "a") ∷ alone 43 ∷ ident (codes "b") ∷ [])) ∷ []))
  -- `#[k] (become x)`
  pub row29 : PlainBare (alone 35 ∷ group del.Bracket (inside (ident (codes "k") ∷ [])) ∷ group del.Parenthesis (inside (ident (codes "become") ∷ ident (codes "x") ∷ [])) ∷ []) (Some (alone 35 ∷ group del.Bracket (inside (ident (codes "k") ∷ [])) ∷ ident (codes "become") ∷ ident (codes "x") ∷ []))
  -- `match x { _ if (a) => (b) }`
  pub row30 : PlainBare (ident (codes "match") ∷ ident (codes "x") ∷ group del.Brace (inside (ident (codes "_") ∷ ident (codes "if") ∷ group del.Parenthesis (inside (ident (codes "a") ∷ [])) ∷ joint 61 ∷ alone 62 ∷ group del.Parenthesis (inside (ident (codes "b") ∷ [])) ∷ [])) ∷ []) (Some (ident (codes "match") ∷ ident (codes "x") ∷ group del.Brace (inside (ident (codes "_") ∷ ident (codes "if") ∷ ident (codes "a") ∷ joint 61 ∷ alone 62 ∷ ident (codes "b") ∷ [])) ∷ []))
  -- `((a,))`
  pub row31 : PlainBare (group del.Parenthesis (inside (group del.Parenthesis (inside (ident (codes "a") ∷ alone 44 ∷ [])) ∷ [])) ∷ []) (Some (group del.Parenthesis (inside (ident (codes "a") ∷ alone 44 ∷ [])) ∷ []))
  -- `(a || ..b) + c`
  pub row32 : PlainBare (group del.Parenthesis (inside (ident (codes "a") ∷ joint 124 ∷ alone 124 ∷ joint 46 ∷ alone 46 ∷ ident (codes "b") ∷ [])) ∷ alone 43 ∷ ident (codes "c") ∷ []) (Some (group del.Parenthesis (inside (ident (codes "a") ∷ joint 124 ∷ alone 124 ∷ joint 46 ∷ alone 46 ∷ ident (codes "b") ∷ [])) ∷ alone 43 ∷ ident (codes "c") ∷ []))
  -- `(a || ..) + c`
  pub row33 : PlainBare (group del.Parenthesis (inside (ident (codes "a") ∷ joint 124 ∷ alone 124 ∷ joint 46 ∷ alone 46 ∷ [])) ∷ alone 43 ∷ ident (codes "c") ∷ []) (Some (ident (codes "a") ∷ joint 124 ∷ alone 124 ∷ joint 46 ∷ alone 46 ∷ alone 43 ∷ ident (codes "c") ∷ []))
  -- `(a = ..b) + c`
  pub row34 : PlainBare (group del.Parenthesis (inside (ident (codes "a") ∷ alone 61 ∷ joint 46 ∷ alone 46 ∷ ident (codes "b") ∷ [])) ∷ alone 43 ∷ ident (codes "c") ∷ []) (Some (group del.Parenthesis (inside (ident (codes "a") ∷ alone 61 ∷ joint 46 ∷ alone 46 ∷ ident (codes "b") ∷ [])) ∷ alone 43 ∷ ident (codes "c") ∷ []))
  -- `(a = ..b) = c`
  pub row35 : PlainBare (group del.Parenthesis (inside (ident (codes "a") ∷ alone 61 ∷ joint 46 ∷ alone 46 ∷ ident (codes "b") ∷ [])) ∷ alone 61 ∷ ident (codes "c") ∷ []) (Some (ident (codes "a") ∷ alone 61 ∷ joint 46 ∷ alone 46 ∷ ident (codes "b") ∷ alone 61 ∷ ident (codes "c") ∷ []))
  -- `(a + return ..) / b`
  pub row36 : PlainBare (group del.Parenthesis (inside (ident (codes "a") ∷ alone 43 ∷ ident (codes "return") ∷ joint 46 ∷ alone 46 ∷ [])) ∷ alone 47 ∷ ident (codes "b") ∷ []) (Some (group del.Parenthesis (inside (ident (codes "a") ∷ alone 43 ∷ ident (codes "return") ∷ joint 46 ∷ alone 46 ∷ [])) ∷ alone 47 ∷ ident (codes "b") ∷ []))

pub record CondRows1 : Type 0 where
  -- `*S {}`
  pub row1 : Cond (alone 42 ∷ ident (codes "S") ∷ group del.Brace (inside ([])) ∷ []) (Some (alone 42 ∷ group del.Parenthesis (inside (ident (codes "S") ∷ group del.Brace (inside ([])) ∷ [])) ∷ []))
  -- `return`
  pub row2 : Cond (ident (codes "return") ∷ []) (Some (group del.Parenthesis (inside (ident (codes "return") ∷ [])) ∷ []))
  -- `break`
  pub row3 : Cond (ident (codes "break") ∷ []) (Some (ident (codes "break") ∷ []))
  -- `..`
  pub row4 : Cond (joint 46 ∷ alone 46 ∷ []) (Some (joint 46 ∷ alone 46 ∷ []))
  -- `x == S {}`
  pub row5 : Cond (ident (codes "x") ∷ joint 61 ∷ alone 61 ∷ ident (codes "S") ∷ group del.Brace (inside ([])) ∷ []) (Some (ident (codes "x") ∷ joint 61 ∷ alone 61 ∷ group del.Parenthesis (inside (ident (codes "S") ∷ group del.Brace (inside ([])) ∷ [])) ∷ []))
  -- `x + return`
  pub row6 : Cond (ident (codes "x") ∷ alone 43 ∷ ident (codes "return") ∷ []) (Some (ident (codes "x") ∷ alone 43 ∷ group del.Parenthesis (inside (ident (codes "return") ∷ [])) ∷ []))
  -- `return x`
  pub row7 : Cond (ident (codes "return") ∷ ident (codes "x") ∷ []) (Some (ident (codes "return") ∷ group del.Parenthesis (inside (ident (codes "x") ∷ [])) ∷ []))
  -- `return S {}`
  pub row8 : Cond (ident (codes "return") ∷ ident (codes "S") ∷ group del.Brace (inside ([])) ∷ []) (Some (ident (codes "return") ∷ ident (codes "S") ∷ group del.Brace (inside ([])) ∷ []))
  -- `break ..`
  pub row9 : Cond (ident (codes "break") ∷ joint 46 ∷ alone 46 ∷ []) (Some (ident (codes "break") ∷ group del.Parenthesis (inside (joint 46 ∷ alone 46 ∷ [])) ∷ []))
  -- `break break`
  pub row10 : Cond (ident (codes "break") ∷ ident (codes "break") ∷ []) (Some (ident (codes "break") ∷ group del.Parenthesis (inside (ident (codes "break") ∷ [])) ∷ []))
  -- `f(S {})`
  pub row11 : Cond (ident (codes "f") ∷ group del.Parenthesis (inside (ident (codes "S") ∷ group del.Brace (inside ([])) ∷ [])) ∷ []) (Some (ident (codes "f") ∷ group del.Parenthesis (inside (ident (codes "S") ∷ group del.Brace (inside ([])) ∷ [])) ∷ []))

pub record StmtRows1 : Type 0 where
  -- `if cond { f } else { g } ()`
  pub row1 : Stmt (ident (codes "if") ∷ ident (codes "cond") ∷ group del.Brace (inside (ident (codes "f") ∷ [])) ∷ ident (codes "else") ∷ group del.Brace (inside (ident (codes "g") ∷ [])) ∷ group del.Parenthesis (inside ([])) ∷ []) (Some (group del.Parenthesis (inside (ident (codes "if") ∷ ident (codes "cond") ∷ group del.Brace (inside (ident (codes "f") ∷ [])) ∷ ident (codes "else") ∷ group del.Brace (inside (ident (codes "g") ∷ [])) ∷ [])) ∷ group del.Parenthesis (inside ([])) ∷ []))
  -- `m! {} - 1`
  pub row2 : Stmt (ident (codes "m") ∷ alone 33 ∷ group del.Brace (inside ([])) ∷ alone 45 ∷ literal (codes "1") ∷ []) (Some (group del.Parenthesis (inside (ident (codes "m") ∷ alone 33 ∷ group del.Brace (inside ([])) ∷ [])) ∷ alone 45 ∷ literal (codes "1") ∷ []))
  -- `let x = y`
  pub row3 : Stmt (ident (codes "let") ∷ ident (codes "x") ∷ alone 61 ∷ ident (codes "y") ∷ []) (Some (group del.Parenthesis (inside (ident (codes "let") ∷ ident (codes "x") ∷ alone 61 ∷ ident (codes "y") ∷ [])) ∷ []))
  -- `{ a } + b`
  pub row4 : Stmt (group del.Brace (inside (ident (codes "a") ∷ [])) ∷ alone 43 ∷ ident (codes "b") ∷ []) (Some (group del.Parenthesis (inside (group del.Brace (inside (ident (codes "a") ∷ [])) ∷ [])) ∷ alone 43 ∷ ident (codes "b") ∷ []))
  -- `loop {}[0]`
  pub row5 : Stmt (ident (codes "loop") ∷ group del.Brace (inside ([])) ∷ group del.Bracket (inside (literal (codes "0") ∷ [])) ∷ []) (Some (group del.Parenthesis (inside (ident (codes "loop") ∷ group del.Brace (inside ([])) ∷ [])) ∷ group del.Bracket (inside (literal (codes "0") ∷ [])) ∷ []))
  -- `match x {}?.y`
  pub row6 : Stmt (ident (codes "match") ∷ ident (codes "x") ∷ group del.Brace (inside ([])) ∷ joint 63 ∷ alone 46 ∷ ident (codes "y") ∷ []) (Some (ident (codes "match") ∷ ident (codes "x") ∷ group del.Brace (inside ([])) ∷ alone 63 ∷ alone 46 ∷ ident (codes "y") ∷ []))
  -- `-{ a }`
  pub row7 : Stmt (alone 45 ∷ group del.Brace (inside (ident (codes "a") ∷ [])) ∷ []) (Some (alone 45 ∷ group del.Brace (inside (ident (codes "a") ∷ [])) ∷ []))
  -- `unsafe { a } as u8`
  pub row8 : Stmt (ident (codes "unsafe") ∷ group del.Brace (inside (ident (codes "a") ∷ [])) ∷ ident (codes "as") ∷ ident (codes "u8") ∷ []) (Some (group del.Parenthesis (inside (ident (codes "unsafe") ∷ group del.Brace (inside (ident (codes "a") ∷ [])) ∷ [])) ∷ ident (codes "as") ∷ ident (codes "u8") ∷ []))
  -- `let x = y && z`
  pub row9 : Stmt (ident (codes "let") ∷ ident (codes "x") ∷ alone 61 ∷ ident (codes "y") ∷ joint 38 ∷ alone 38 ∷ ident (codes "z") ∷ []) (Some (group del.Parenthesis (inside (ident (codes "let") ∷ ident (codes "x") ∷ alone 61 ∷ ident (codes "y") ∷ [])) ∷ joint 38 ∷ alone 38 ∷ ident (codes "z") ∷ []))

pub record ArmRows1 : Type 0 where
  -- `if cond { f } else { g } ()`
  pub row1 : Arm (ident (codes "if") ∷ ident (codes "cond") ∷ group del.Brace (inside (ident (codes "f") ∷ [])) ∷ ident (codes "else") ∷ group del.Brace (inside (ident (codes "g") ∷ [])) ∷ group del.Parenthesis (inside ([])) ∷ []) (Some (group del.Parenthesis (inside (ident (codes "if") ∷ ident (codes "cond") ∷ group del.Brace (inside (ident (codes "f") ∷ [])) ∷ ident (codes "else") ∷ group del.Brace (inside (ident (codes "g") ∷ [])) ∷ [])) ∷ group del.Parenthesis (inside ([])) ∷ []))
  -- `m! {} - 1`
  pub row2 : Arm (ident (codes "m") ∷ alone 33 ∷ group del.Brace (inside ([])) ∷ alone 45 ∷ literal (codes "1") ∷ []) (Some (ident (codes "m") ∷ alone 33 ∷ group del.Brace (inside ([])) ∷ alone 45 ∷ literal (codes "1") ∷ []))
  -- `match x {}.f()`
  pub row3 : Arm (ident (codes "match") ∷ ident (codes "x") ∷ group del.Brace (inside ([])) ∷ alone 46 ∷ ident (codes "f") ∷ group del.Parenthesis (inside ([])) ∷ []) (Some (ident (codes "match") ∷ ident (codes "x") ∷ group del.Brace (inside ([])) ∷ alone 46 ∷ ident (codes "f") ∷ group del.Parenthesis (inside ([])) ∷ []))
  -- `{ a } + b`
  pub row4 : Arm (group del.Brace (inside (ident (codes "a") ∷ [])) ∷ alone 43 ∷ ident (codes "b") ∷ []) (Some (group del.Parenthesis (inside (group del.Brace (inside (ident (codes "a") ∷ [])) ∷ [])) ∷ alone 43 ∷ ident (codes "b") ∷ []))
  -- `let x = y && z`
  pub row5 : Arm (ident (codes "let") ∷ ident (codes "x") ∷ alone 61 ∷ ident (codes "y") ∷ joint 38 ∷ alone 38 ∷ ident (codes "z") ∷ []) (Some (ident (codes "let") ∷ ident (codes "x") ∷ alone 61 ∷ ident (codes "y") ∷ joint 38 ∷ alone 38 ∷ ident (codes "z") ∷ []))

pub record CondBareRows1 : Type 0 where
  -- `break ({ #![k] x })`
  pub row1 : CondBare (ident (codes "break") ∷ group del.Parenthesis (inside (group del.Brace (inside (joint 35 ∷ alone 33 ∷ group del.Bracket (inside (ident (codes "k") ∷ [])) ∷ ident (codes "x") ∷ [])) ∷ [])) ∷ []) (Some (ident (codes "break") ∷ group del.Parenthesis (inside (group del.Brace (inside (alone 35 ∷ alone 33 ∷ group del.Bracket (inside (ident (codes "k") ∷ [])) ∷ ident (codes "x") ∷ [])) ∷ [])) ∷ []))
  -- `break (#[k] { x })`
  pub row2 : CondBare (ident (codes "break") ∷ group del.Parenthesis (inside (alone 35 ∷ group del.Bracket (inside (ident (codes "k") ∷ [])) ∷ group del.Brace (inside (ident (codes "x") ∷ [])) ∷ [])) ∷ []) (Some (ident (codes "break") ∷ alone 35 ∷ group del.Bracket (inside (ident (codes "k") ∷ [])) ∷ group del.Brace (inside (ident (codes "x") ∷ [])) ∷ []))
  -- `x .. ({ #![k] y })`
  pub row3 : CondBare (ident (codes "x") ∷ joint 46 ∷ alone 46 ∷ group del.Parenthesis (inside (group del.Brace (inside (joint 35 ∷ alone 33 ∷ group del.Bracket (inside (ident (codes "k") ∷ [])) ∷ ident (codes "y") ∷ [])) ∷ [])) ∷ []) (Some (ident (codes "x") ∷ joint 46 ∷ alone 46 ∷ group del.Parenthesis (inside (group del.Brace (inside (alone 35 ∷ alone 33 ∷ group del.Bracket (inside (ident (codes "k") ∷ [])) ∷ ident (codes "y") ∷ [])) ∷ [])) ∷ []))

-- `«` and `»` stand for an invisible group.
pub record GroupRows : Type 0 where
  -- `1i32 + «2i32 + 3i32» * 4i32`
  pub row1 : Plain (literal (codes "1i32") ∷ alone 43 ∷ group del.None (inside (literal (codes "2i32") ∷ alone 43 ∷ literal (codes "3i32") ∷ [])) ∷ alone 42 ∷ literal (codes "4i32") ∷ []) (Some (literal (codes "1i32") ∷ alone 43 ∷ group del.None (inside (literal (codes "2i32") ∷ alone 43 ∷ literal (codes "3i32") ∷ [])) ∷ alone 42 ∷ literal (codes "4i32") ∷ []))
  -- `«first» :: rest`
  pub row2 : Plain (group del.None (inside (ident (codes "first") ∷ [])) ∷ joint 58 ∷ alone 58 ∷ ident (codes "rest") ∷ []) (Some (ident (codes "first") ∷ joint 58 ∷ alone 58 ∷ ident (codes "rest") ∷ []))
  -- `«a» ! (b)`
  pub row3 : Plain (group del.None (inside (ident (codes "a") ∷ [])) ∷ alone 33 ∷ group del.Parenthesis (inside (ident (codes "b") ∷ [])) ∷ []) (Some (ident (codes "a") ∷ alone 33 ∷ group del.Parenthesis (inside (ident (codes "b") ∷ [])) ∷ []))
  -- `if «S» { a }`
  pub row4 : Plain (ident (codes "if") ∷ group del.None (inside (ident (codes "S") ∷ [])) ∷ group del.Brace (inside (ident (codes "a") ∷ [])) ∷ []) (Some (ident (codes "if") ∷ group del.None (inside (ident (codes "S") ∷ [])) ∷ group del.Brace (inside (ident (codes "a") ∷ [])) ∷ []))
  -- `match «x» { _ => 1 }`
  pub row5 : Plain (ident (codes "match") ∷ group del.None (inside (ident (codes "x") ∷ [])) ∷ group del.Brace (inside (ident (codes "_") ∷ joint 61 ∷ alone 62 ∷ literal (codes "1") ∷ [])) ∷ []) (Some (ident (codes "match") ∷ group del.None (inside (ident (codes "x") ∷ [])) ∷ group del.Brace (inside (ident (codes "_") ∷ joint 61 ∷ alone 62 ∷ literal (codes "1") ∷ [])) ∷ []))
  -- `«'a»`
  pub row6 : Plain (group del.None (inside (joint 39 ∷ ident (codes "a") ∷ [])) ∷ []) None
  -- `«a + b» . c`
  pub row7 : Plain (group del.None (inside (ident (codes "a") ∷ alone 43 ∷ ident (codes "b") ∷ [])) ∷ alone 46 ∷ ident (codes "c") ∷ []) (Some (group del.None (inside (ident (codes "a") ∷ alone 43 ∷ ident (codes "b") ∷ [])) ∷ alone 46 ∷ ident (codes "c") ∷ []))
  -- `match x { _ => «{ }» (1) }`
  pub row8 : Plain (ident (codes "match") ∷ ident (codes "x") ∷ group del.Brace (inside (ident (codes "_") ∷ joint 61 ∷ alone 62 ∷ group del.None (inside (group del.Brace (inside ([])) ∷ [])) ∷ group del.Parenthesis (inside (literal (codes "1") ∷ [])) ∷ [])) ∷ []) None
  -- `match x { _ => «{ }» , _ => 1 }`
  pub row9 : Plain (ident (codes "match") ∷ ident (codes "x") ∷ group del.Brace (inside (ident (codes "_") ∷ joint 61 ∷ alone 62 ∷ group del.None (inside (group del.Brace (inside ([])) ∷ [])) ∷ alone 44 ∷ ident (codes "_") ∷ joint 61 ∷ alone 62 ∷ literal (codes "1") ∷ [])) ∷ []) (Some (ident (codes "match") ∷ ident (codes "x") ∷ group del.Brace (inside (ident (codes "_") ∷ joint 61 ∷ alone 62 ∷ group del.None (inside (group del.Brace (inside ([])) ∷ [])) ∷ alone 44 ∷ ident (codes "_") ∷ joint 61 ∷ alone 62 ∷ literal (codes "1") ∷ [])) ∷ []))
  -- `match x { _ => «{ }» + 1 , }`
  pub row10 : Plain (ident (codes "match") ∷ ident (codes "x") ∷ group del.Brace (inside (ident (codes "_") ∷ joint 61 ∷ alone 62 ∷ group del.None (inside (group del.Brace (inside ([])) ∷ [])) ∷ alone 43 ∷ literal (codes "1") ∷ alone 44 ∷ [])) ∷ []) None
  -- `match x { _ => «a» + 1 , }`
  pub row11 : Plain (ident (codes "match") ∷ ident (codes "x") ∷ group del.Brace (inside (ident (codes "_") ∷ joint 61 ∷ alone 62 ∷ group del.None (inside (ident (codes "a") ∷ [])) ∷ alone 43 ∷ literal (codes "1") ∷ alone 44 ∷ [])) ∷ []) (Some (ident (codes "match") ∷ ident (codes "x") ∷ group del.Brace (inside (ident (codes "_") ∷ joint 61 ∷ alone 62 ∷ group del.None (inside (ident (codes "a") ∷ [])) ∷ alone 43 ∷ literal (codes "1") ∷ alone 44 ∷ [])) ∷ []))
  -- `- «a» :: b`
  pub row12 : Plain (alone 45 ∷ group del.None (inside (ident (codes "a") ∷ [])) ∷ joint 58 ∷ alone 58 ∷ ident (codes "b") ∷ []) (Some (alone 45 ∷ ident (codes "a") ∷ joint 58 ∷ alone 58 ∷ ident (codes "b") ∷ []))
  -- `«a» (b)`
  pub row13 : Plain (group del.None (inside (ident (codes "a") ∷ [])) ∷ group del.Parenthesis (inside (ident (codes "b") ∷ [])) ∷ []) (Some (group del.None (inside (ident (codes "a") ∷ [])) ∷ group del.Parenthesis (inside (ident (codes "b") ∷ [])) ∷ []))
  -- `«a b»`
  pub row14 : Plain (group del.None (inside (ident (codes "a") ∷ ident (codes "b") ∷ [])) ∷ []) None
  -- `«»`
  pub row15 : Plain (group del.None (inside ([])) ∷ []) None
  -- `# [k] «a»`
  pub row16 : Plain (alone 35 ∷ group del.Bracket (inside (ident (codes "k") ∷ [])) ∷ group del.None (inside (ident (codes "a") ∷ [])) ∷ []) (Some (alone 35 ∷ group del.Bracket (inside (ident (codes "k") ∷ [])) ∷ group del.None (inside (ident (codes "a") ∷ [])) ∷ []))
  -- `# [k] «a» :: b`
  pub row17 : Plain (alone 35 ∷ group del.Bracket (inside (ident (codes "k") ∷ [])) ∷ group del.None (inside (ident (codes "a") ∷ [])) ∷ joint 58 ∷ alone 58 ∷ ident (codes "b") ∷ []) (Some (alone 35 ∷ group del.Bracket (inside (ident (codes "k") ∷ [])) ∷ ident (codes "a") ∷ joint 58 ∷ alone 58 ∷ ident (codes "b") ∷ []))
  -- `««a»» :: b`
  pub row18 : Plain (group del.None (inside (group del.None (inside (ident (codes "a") ∷ [])) ∷ [])) ∷ joint 58 ∷ alone 58 ∷ ident (codes "b") ∷ []) None
  -- `«a» :: < T > :: b`
  pub row19 : Plain (group del.None (inside (ident (codes "a") ∷ [])) ∷ joint 58 ∷ alone 58 ∷ alone 60 ∷ ident (codes "T") ∷ alone 62 ∷ joint 58 ∷ alone 58 ∷ ident (codes "b") ∷ []) None
  -- `«Vec :: < T >» :: new ()`
  pub row20 : Plain (group del.None (inside (ident (codes "Vec") ∷ joint 58 ∷ alone 58 ∷ alone 60 ∷ ident (codes "T") ∷ alone 62 ∷ [])) ∷ joint 58 ∷ alone 58 ∷ ident (codes "new") ∷ group del.Parenthesis (inside ([])) ∷ []) (Some (ident (codes "Vec") ∷ joint 58 ∷ alone 58 ∷ alone 60 ∷ ident (codes "T") ∷ alone 62 ∷ joint 58 ∷ alone 58 ∷ ident (codes "new") ∷ group del.Parenthesis (inside ([])) ∷ []))
  -- `«a» != b`
  pub row21 : Plain (group del.None (inside (ident (codes "a") ∷ [])) ∷ joint 33 ∷ alone 61 ∷ ident (codes "b") ∷ []) (Some (group del.None (inside (ident (codes "a") ∷ [])) ∷ joint 33 ∷ alone 61 ∷ ident (codes "b") ∷ []))
  -- `return «a»`
  pub row22 : Plain (ident (codes "return") ∷ group del.None (inside (ident (codes "a") ∷ [])) ∷ []) (Some (ident (codes "return") ∷ group del.None (inside (ident (codes "a") ∷ [])) ∷ []))
  -- `(«a + b») * c`
  pub row23 : PlainBare (group del.Parenthesis (inside (group del.None (inside (ident (codes "a") ∷ alone 43 ∷ ident (codes "b") ∷ [])) ∷ [])) ∷ alone 42 ∷ ident (codes "c") ∷ []) (Some (group del.None (inside (ident (codes "a") ∷ alone 43 ∷ ident (codes "b") ∷ [])) ∷ alone 42 ∷ ident (codes "c") ∷ []))
  -- `break «'a : loop { }»`
  pub row24 : Plain (ident (codes "break") ∷ group del.None (inside (joint 39 ∷ ident (codes "a") ∷ alone 58 ∷ ident (codes "loop") ∷ group del.Brace (inside ([])) ∷ [])) ∷ []) (Some (ident (codes "break") ∷ group del.None (inside (joint 39 ∷ ident (codes "a") ∷ alone 58 ∷ ident (codes "loop") ∷ group del.Brace (inside ([])) ∷ [])) ∷ []))
  -- `«a» [«b»] ?`
  pub row25 : Plain (group del.None (inside (ident (codes "a") ∷ [])) ∷ group del.Bracket (inside (group del.None (inside (ident (codes "b") ∷ [])) ∷ [])) ∷ alone 63 ∷ []) (Some (group del.None (inside (ident (codes "a") ∷ [])) ∷ group del.Bracket (inside (group del.None (inside (ident (codes "b") ∷ [])) ∷ [])) ∷ alone 63 ∷ []))
  -- `««a» :: b» :: c`
  pub row26 : Plain (group del.None (inside (group del.None (inside (ident (codes "a") ∷ [])) ∷ joint 58 ∷ alone 58 ∷ ident (codes "b") ∷ [])) ∷ joint 58 ∷ alone 58 ∷ ident (codes "c") ∷ []) (Some (ident (codes "a") ∷ joint 58 ∷ alone 58 ∷ ident (codes "b") ∷ joint 58 ∷ alone 58 ∷ ident (codes "c") ∷ []))
  -- `«try» :: b`
  pub row27 : Plain (group del.None (inside (ident (codes "try") ∷ [])) ∷ joint 58 ∷ alone 58 ∷ ident (codes "b") ∷ []) None
  -- `if «S» :: T { a }`
  pub row28 : Plain (ident (codes "if") ∷ group del.None (inside (ident (codes "S") ∷ [])) ∷ joint 58 ∷ alone 58 ∷ ident (codes "T") ∷ group del.Brace (inside (ident (codes "a") ∷ [])) ∷ []) (Some (ident (codes "if") ∷ ident (codes "S") ∷ joint 58 ∷ alone 58 ∷ ident (codes "T") ∷ group del.Brace (inside (ident (codes "a") ∷ [])) ∷ []))
  -- `«S» { a }`
  pub row29 : Plain (group del.None (inside (ident (codes "S") ∷ [])) ∷ group del.Brace (inside (ident (codes "a") ∷ [])) ∷ []) (Some (ident (codes "S") ∷ group del.Brace (inside (ident (codes "a") ∷ [])) ∷ []))

pub record WorkedRows : Type 0 where
  pub plain_rows1 : PlainRows1
  pub plain_rows2 : PlainRows2
  pub plain_rows3 : PlainRows3
  pub plain_rows4 : PlainRows4
  pub plain_bare_rows1 : PlainBareRows1
  pub cond_rows1 : CondRows1
  pub stmt_rows1 : StmtRows1
  pub arm_rows1 : ArmRows1
  pub cond_bare_rows1 : CondBareRows1
  pub group_rows : GroupRows
